-- Pictures that print seconds alone.
use Rattle.std.proofs.Common.{◌≡◌, ℕ, Bool, true, false, not, ◌&&◌, nat_lt, nat_le, List, ◌∷◌, ◌++◌, inl, inr, refl, ap, ◌∙◌, arith}
use Rattle.std.specs.Prelude.{count_by}
use Rattle.std.specs.List.{list_any}
use Rattle.std.proofs.lemmas.Bool.{cases_Bool}
use Rattle.std.proofs.lemmas.Bool.Decides.{nat_tests}
use Rattle.st_picture.specs.declared.mark.Mark.TheVariants.{Seconds}
use Rattle.st_picture.specs.declared.mark.Piece.{Piece}
use Rattle.st_picture.specs.declared.mark.Piece.TheVariants.{Marked, Plain}
use Rattle.st_picture.specs.Reading.{IsSecondsAlone}
use Rattle.st_picture.specs.ReadingMachine.{is_seconds, is_plain, is_count, is_printing, are_seconds_alone}
use Rattle.st_picture.proofs.Fronts.{both}
use Rattle.st_picture.proofs.RuleLaws.{Tells, any_split, any_in, any_mark, stands_of, both_true}
use Rattle.st_picture.proofs.UnitLaws.{count_beside_is, count_beside_only}

seconds_is : (piece : Piece) → is_seconds piece ≡ true → (p : ℕ) × (piece ≡ Marked (Seconds p))
seconds_is (Plain b) h = absurd (cc)
seconds_is (Marked (Seconds p)) h = (p, refl)
seconds_is (Marked mark) h = absurd (cc)

plain_is : (piece : Piece) → is_plain piece ≡ true → (b : ℕ) × (piece ≡ Plain b)
plain_is (Plain b) h = (b, refl)
plain_is (Marked mark) h = absurd (cc)

few_not_many : (n : ℕ) → nat_le n 1 ≡ true → nat_lt 1 n ≡ true → ⊥
few_not_many n h k = grind (arith, nat_tests)

many_of : (n : ℕ) → nat_le n 1 ≡ false → nat_lt 1 n ≡ true
many_of n h = grind (arith, nat_tests)

negated : (b : Bool) → not b ≡ true → b ≡ true → ⊥
negated true h k = cc
negated false h k = cc

negation : (b : Bool) → (b ≡ true → ⊥) → not b ≡ true
negation true f = absurd (f refl)
negation false f = refl

alone_is : (pieces : List Piece) → are_seconds_alone pieces ≡ true → IsSecondsAlone pieces
alone_is pieces h =
    let parts = both (list_any is_seconds pieces) (nat_le (count_by is_printing pieces) 1 && not (list_any is_plain pieces)) h in
    let rest = both (nat_le (count_by is_printing pieces) 1) (not (list_any is_plain pieces)) parts.1 in
    let s = any_split is_seconds pieces parts.0 in
    let m = seconds_is s.piece s.passes in
    record {
      places = m.0;
      stands = stands_of is_seconds pieces (Seconds m.0) s m.1;
      alone = λ beside. let t = both (list_any is_count pieces) (nat_lt 1 (count_by is_printing pieces)) (count_beside_only pieces beside) in
          few_not_many (count_by is_printing pieces) rest.0 t.1;
      no_bytes = λ before byte after e. negated (list_any is_plain pieces) rest.1 (any_in is_plain pieces before (Plain byte) after e refl);
    }

alone_only : (pieces : List Piece) → IsSecondsAlone pieces → are_seconds_alone pieces ≡ true
alone_only pieces h =
    both_true (list_any is_seconds pieces) (nat_le (count_by is_printing pieces) 1 && not (list_any is_plain pieces))
    (any_mark is_seconds pieces (Seconds h.places) h.stands refl)
    (both_true (nat_le (count_by is_printing pieces) 1) (not (list_any is_plain pieces)) few
    (negation (list_any is_plain pieces) (λ t. let s = any_split is_plain pieces t in
    let b = plain_is s.piece s.passes in
    h.no_bytes s.before b.0 s.after (s.whole ∙ ap (λ (p : Piece). s.before ++ (p ∷ s.after)) b.1))))
  where
    few : nat_le (count_by is_printing pieces) 1 ≡ true
    few = elim (cases_Bool (nat_le (count_by is_printing pieces) 1)) [
      | inl e ↦ e
      | inr e ↦ absurd (h.alone (count_beside_is pieces (both_true (list_any is_count pieces) (nat_lt 1 (count_by is_printing pieces))
          (any_mark is_count pieces (Seconds h.places) h.stands refl) (many_of (count_by is_printing pieces) e))))
    ]

pub tells_alone : (pieces : List Piece) → Tells (are_seconds_alone pieces) (IsSecondsAlone pieces)
tells_alone pieces = record { is = alone_is pieces; only = alone_only pieces }
