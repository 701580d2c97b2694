-- Each text has one cut.
use Rattle.std.proofs.Common.{◌≡◌, ℕ, zero, suc, ◌≤◌, List, [], ◌∷◌, ◌++◌, length, refl, sym, ap, ◌∙◌, subst, arith, append_assoc, length-append}
use Rattle.st_picture.specs.declared.mark.Piece.{Piece}
use Rattle.st_picture.specs.declared.mark.Piece.TheVariants.{Marked, Plain}
use Rattle.st_picture.specs.Mark.{stem_of, hashes, places_of, piece_text, spelled, IsLongest, IsCut}
use Rattle.st_picture.specs.ReadingMachine.{front_of}
use Rattle.st_picture.proofs.Fronts.{front_begins, front_longest, one_front, stem_some, same_rests}

-- each piece is the longest at its place, where a text stands after them all
abbrev pub CutsTo : List Piece → List ℕ → Type 0
CutsTo [] rest = Unit {0}
CutsTo (piece ∷ pieces) rest = IsLongest piece (spelled (piece ∷ pieces) ++ rest) × CutsTo pieces rest

pub end_nothing : (xs : List ℕ) → xs ++ [] ≡ xs
end_nothing [] = refl
end_nothing (x ∷ xs) = ap (λ (t : List ℕ). x ∷ t) (end_nothing xs)

pub spelled_more : (pieces : List Piece) (piece : Piece) (rest after : List ℕ) → rest ≡ piece_text piece ++ after
    → spelled pieces ++ rest ≡ spelled (pieces ++ piece ∷ []) ++ after
spelled_more [] piece rest after e = e ∙ ap (λ (t : List ℕ). t ++ after) (sym (end_nothing (piece_text piece)))
spelled_more (p ∷ pieces) piece rest after e =
    append_assoc (piece_text p) (spelled pieces) rest ∙ ap (λ (t : List ℕ). piece_text p ++ t) (spelled_more pieces piece rest after e)
    ∙ sym (append_assoc (piece_text p) (spelled (pieces ++ piece ∷ [])) after)

pub cuts_more : (pieces : List Piece) (piece : Piece) (rest after : List ℕ) → rest ≡ piece_text piece ++ after → IsLongest piece rest
    → CutsTo pieces rest → CutsTo (pieces ++ piece ∷ []) after
cuts_more [] piece rest after e l c = (subst (λ (t : List ℕ). IsLongest piece t) (spelled_more [] piece rest after e) l, tt)
cuts_more (p ∷ pieces) piece rest after e l c =
    (subst (λ (t : List ℕ). IsLongest p t) (spelled_more (p ∷ pieces) piece rest after e) c.0, cuts_more pieces piece rest after e l c.1)

longest_at : (pieces before after : List Piece) (piece : Piece) (rest : List ℕ) → pieces ≡ before ++ (piece ∷ after) → CutsTo pieces rest
    → IsLongest piece (spelled (piece ∷ after) ++ rest)
longest_at [] [] after piece rest e c = absurd (cc)
longest_at [] (b ∷ before) after piece rest e c = absurd (cc)
longest_at (p ∷ pieces) [] after piece rest e c =
    let P : List Piece → Type 0 = λ ps. CutsTo ps rest in
    (subst P e c).0
longest_at (p ∷ pieces) (b ∷ before) after piece rest e c = let tail : pieces ≡ before ++ (piece ∷ after) = cc in longest_at pieces before after piece rest tail c.1

pub cut_is : (text : List ℕ) (pieces : List Piece) → text ≡ spelled pieces → CutsTo pieces [] → IsCut text pieces
cut_is text pieces e c = record {
  whole = e;
  longest = λ before piece after h. subst (λ (t : List ℕ). IsLongest piece t) (end_nothing (spelled (piece ∷ after))) (longest_at pieces before after piece [] h c);
}

cut_to : (pieces : List Piece) → ((before : List Piece) (piece : Piece) (after : List Piece) → pieces ≡ before ++ (piece ∷ after) → IsLongest piece (spelled (piece ∷ after)))
    → CutsTo pieces []
cut_to [] longest = tt
cut_to (p ∷ pieces) longest = (
  subst (λ (t : List ℕ). IsLongest p t) (sym (end_nothing (spelled (p ∷ pieces)))) (longest [] p pieces refl),
  cut_to pieces (λ before piece after e. longest (p ∷ before) piece after (ap (λ (ps : List Piece). p ∷ ps) e)),
)

pub piece_some : (piece : Piece) → 1 ≤ length (piece_text piece)
piece_some (Plain b) = omega arith
piece_some (Marked mark) = let some = stem_some mark in omega (arith, length-append (stem_of mark) (hashes (places_of mark)))

cut_found : (fuel : ℕ) (text : List ℕ) → length text ≤ fuel → (pieces : List Piece) × (text ≡ spelled pieces) × CutsTo pieces []
cut_found fuel [] h = ([], refl, tt)
cut_found zero (b ∷ text) h = absurd (omega arith)
cut_found (suc fuel) (b ∷ text) h =
    let first = front_of (b ∷ text) in
    let begins = front_begins (b ∷ text) (omega arith) in
    let some = piece_some first in
    let sizes = ap length begins.1 ∙ length-append (piece_text first) begins.0 in
    let more = cut_found fuel begins.0 (omega arith) in
    let whole : b ∷ text ≡ spelled (first ∷ more.0) = begins.1 ∙ ap (λ (t : List ℕ). piece_text first ++ t) more.1 in (
      first ∷ more.0,
      whole,
      (subst (λ (t : List ℕ). IsLongest first t) (whole ∙ sym (end_nothing (spelled (first ∷ more.0)))) (front_longest (b ∷ text)), more.2),
    )

pub each_has_cut : (text : List ℕ) → (pieces : List Piece) × IsCut text pieces
each_has_cut text = let c = cut_found (length text) text (omega arith) in (c.0, cut_is text c.0 c.1 c.2)

not_empty : (piece : Piece) (pieces : List Piece) → [] ≡ spelled (piece ∷ pieces) → ⊥
not_empty piece pieces e =
    let some = piece_some piece in
    let sizes = ap length e ∙ length-append (piece_text piece) (spelled pieces) in
    omega arith

same_cuts : (a b : List Piece) → CutsTo a [] → CutsTo b [] → spelled a ≡ spelled b → a ≡ b
same_cuts [] [] h k e = refl
same_cuts [] (q ∷ b) h k e = absurd (not_empty q b e)
same_cuts (p ∷ a) [] h k e = absurd (not_empty p a (sym e))
same_cuts (p ∷ a) (q ∷ b) h k e =
    let text = spelled (p ∷ a) in
    let lp = subst (λ (t : List ℕ). IsLongest p t) (end_nothing (spelled (p ∷ a))) h.0 in
    let lq = subst (λ (t : List ℕ). IsLongest q t) (end_nothing (spelled (q ∷ b)) ∙ sym e) k.0 in
    let same = one_front p q text (spelled a) (spelled b) refl e lp lq in
    let rests = same_rests (piece_text p) (spelled a) (spelled b) (e ∙ ap (λ (x : Piece). piece_text x ++ spelled b) (sym same)) in
    let more = same_cuts a b h.1 k.1 rests in
    λ i. same i ∷ more i

pub one_cut : (text : List ℕ) (a b : List Piece) → IsCut text a → IsCut text b → a ≡ b
one_cut text a b h k = same_cuts a b (cut_to a h.longest) (cut_to b k.longest) (sym h.whole ∙ k.whole)
