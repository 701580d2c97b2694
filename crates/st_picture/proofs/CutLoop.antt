-- What the loop that cuts a text keeps.
use Rattle.std.proofs.Common.{◌≡◌, ℕ, true, eqb, ◌+◌, ◌≤◌, ◌<◌, List, [], ◌∷◌, ◌++◌, length, drop, refl, sym, ap, ◌∙◌, subst, arith, length-append}
use Rattle.std.proofs.lemmas.Bool.Decides.{nat_tests}
use Rattle.st_picture.specs.declared.mark.Piece.{Piece}
use Rattle.st_picture.specs.Mark.{piece_text, spelled, IsCut, IsLongest}
use Rattle.st_picture.specs.ReadingMachine.{front_of}
use Rattle.st_picture.proofs.Cuts.{CutsTo, spelled_more, cuts_more, cut_is, end_nothing}
use Rattle.st_picture.proofs.Fronts.{front_begins, front_longest}

pub record IsCutSoFar (text : List ℕ) (pieces : List Piece) (rest : List ℕ) : Type 0 where
  pub whole : text ≡ spelled pieces ++ rest
  pub longest : CutsTo pieces rest
  pub few : length rest ≤ 255

drop-front : (front after : List ℕ) → drop (length front) (front ++ after) ≡ after
drop-front [] after = refl
drop-front (x ∷ front) after = drop-front front after

pub behind : (rest : List ℕ) (piece : Piece) → 0 < length rest → piece ≡ front_of rest → rest ≡ piece_text piece ++ drop (length (piece_text piece)) rest
behind rest piece some e =
    let b = front_begins rest some in
    let begins : rest ≡ piece_text piece ++ b.0 = b.1 ∙ ap (λ (p : Piece). piece_text p ++ b.0) (sym e) in
    begins ∙ ap (λ (t : List ℕ). piece_text piece ++ t) (sym (ap (drop (length (piece_text piece))) begins ∙ drop-front (piece_text piece) b.0))

pub shorter : (rest : List ℕ) (piece : Piece) → 0 < length rest → piece ≡ front_of rest → length (piece_text piece) + length (drop (length (piece_text piece)) rest) ≡ length rest
shorter rest piece some e = sym (ap length (behind rest piece some e) ∙ length-append (piece_text piece) (drop (length (piece_text piece)) rest))

pub fits : (rest : List ℕ) (piece : Piece) (n : ℕ) → 0 < length rest → piece ≡ front_of rest → n ≡ length (piece_text piece) → n ≤ length rest
fits rest piece n some e size = let s = shorter rest piece some e in omega arith

pub cut_step : (text : List ℕ) (pieces more : List Piece) (rest after : List ℕ) (piece : Piece) → piece ≡ front_of rest → rest ≡ piece_text piece ++ after
    → more ≡ pieces ++ piece ∷ [] → IsCutSoFar text pieces rest → IsCutSoFar text more after
cut_step text pieces more rest after piece e b m h =
    let l = subst (λ (p : Piece). IsLongest p rest) (sym e) (front_longest rest) in
    let P : List Piece → Type 0 = λ ps. IsCutSoFar text ps after in
    let size = ap length b ∙ length-append (piece_text piece) after in
    let few = h.few in
    subst P (sym m) (record {
      whole = h.whole ∙ spelled_more pieces piece rest after b;
      longest = cuts_more pieces piece rest after b l h.longest;
      few = omega arith;
    })

pub cut_ends : (text : List ℕ) (pieces : List Piece) (rest : List ℕ) → rest ≡ [] → IsCutSoFar text pieces rest → IsCut text pieces
cut_ends text pieces rest e h =
    let g = subst (λ (t : List ℕ). IsCutSoFar text pieces t) e h in
    cut_is text pieces (g.whole ∙ end_nothing (spelled pieces)) g.longest

pub no_rest : (rest : List ℕ) → eqb (length rest) 0 ≡ true → rest ≡ []
no_rest [] e = refl
no_rest (b ∷ rest) e = absurd (grind (arith, nat_tests))
