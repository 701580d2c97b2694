-- The number that a run spells is the one that the reader answers.
use Rattle.std.proofs.Common.{inl, inr, ◌≡◌, ℕ, ◌≤◌, ◌<◌, ◌^◌, arith, Bool, List, [], ◌∷◌, length, Option, Some, None, Result, Ok, Err, refl, ap, sym, ◌∙◌, subst}
use Rattle.std.proofs.lemmas.Int.{ints}
use Rattle.std.specs.Prelude.{◌==◌, ℤ, pos, negsuc, unsigned_abs, nat_lt, MatchBool}
use Rattle.std.proofs.lemmas.Bool.{cases_Bool, cond-true, cond-false, MatchBool-at_true, MatchBool-at_false, le-ltb, ltb-false}
use Rattle.st_decimal.specs.declared.number.Dec.{Dec}
use Rattle.st_decimal.specs.declared.number.DecFault.{DecFault}
use Rattle.st_decimal.specs.NumberMachine.{dec_of}
use Rattle.st_decimal.specs.ScalingMachine.{dec_of_units18}
use Rattle.st_decimal.specs.Value.{ReadsDec, IsOfUnits18}
use Rattle.st_decimal.proofs.Answered.{meets, one_answer}
use Rattle.st_decimal.proofs.Scaled.{one_scaled}
use Rattle.st_decimal.proofs.Stripped.{of_units_is}
use Rattle.st_dates.specs.declared.fault.DateFault.{DateFault}
use Rattle.st_dates.specs.AtDate.{ReadsAtDate}
use Rattle.st_dates.specs.Range.{IsInRange}
use Rattle.st_dates.specs.AtDateMachine.{at_date_of}
use Rattle.st_dates.proofs.DateLaws.{reads, only}
use Rattle.st_kernel_text.specs.ValueMachine.{dated, numbered_value, date_number, short_number, number_of_run}
use Rattle.st_kernel_text.specs.Values.{ReadsRun, ReadsDate, ReadsNumber}

pub in_range : (z : ℤ) → IsInRange z → unsigned_abs z < 10 ^ 38
in_range (pos n) h = omega (arith, ints, h.1)
in_range (negsuc n) h = omega (arith, ints, h.0)

ranged : (t : List ℕ) (z : ℤ) → ReadsAtDate t (Ok z) → unsigned_abs z < 10 ^ 38
ranged t z (w, spelled, moment, inside) = in_range z inside

date_only : (t : List ℕ) (d : Dec) → ReadsDate t d → date_number t ≡ Some d
date_only t d h =
    ap dated (only t (Ok h.instant) h.reads)
    ∙ ap Some (one_scaled _ _ _ (dec_of_units18 h.instant) d (of_units_is h.instant (ranged t h.instant h.reads)) h.seconds)

number_only : (t : List ℕ) (d : Dec) → ReadsNumber t d → short_number t ≡ Some d
number_only t d h = cond-false _ _ _ (le-ltb _ _ h.short) ∙ ap numbered_value (one_answer t (Ok d) h.reads)

pub run_only : (t : List ℕ) (d : Dec) → ReadsRun t d → number_of_run t ≡ Some d
unfolding number_of_run
run_only [] d h = absurd h
run_only (b ∷ t) d h =
    elim (cases_Bool (b == 64)) [
      | inl y ↦ cond-true _ _ _ y ∙ date_only t d (MatchBool-at_true _ _ y h)
      | inr n ↦ cond-false _ _ _ n ∙ number_only (b ∷ t) d (MatchBool-at_false _ _ n h)
    ]

date_some : (t : List ℕ) (d : Dec) (r : Result ℤ DateFault) → ReadsAtDate t r → dated r ≡ Some d → ReadsDate t d
date_some t d (Ok z) h e =
    let is : dec_of_units18 z ≡ d = cc in
    record { instant = z; reads = h; seconds = subst (λ (x : Dec). IsOfUnits18 z x) is (of_units_is z (ranged t z h)) }
date_some t d (Err f) h e = absurd (cc)

number_some : (t : List ℕ) (d : Dec) (r : Result Dec DecFault) → length t ≤ 1000 → ReadsDec t r → numbered_value r ≡ Some d → ReadsNumber t d
number_some t d (Ok x) s h e =
    let is : x ≡ d = cc in
    record { short = s; reads = subst (λ (y : Dec). ReadsDec t (Ok y)) is h }
number_some t d (Err f) s h e = absurd (cc)

short_some : (t : List ℕ) (d : Dec) → short_number t ≡ Some d → ReadsNumber t d
short_some t d h =
    elim (cases_Bool (nat_lt 1000 (length t))) [
      | inl y ↦ let none : None ≡ Some d = sym (cond-true _ _ _ y) ∙ h in absurd (cc)
      | inr n ↦ number_some t d (dec_of t) (ltb-false _ _ n) (meets t) (sym (cond-false _ _ _ n) ∙ h)
    ]

pub run_reads : (t : List ℕ) (d : Dec) → number_of_run t ≡ Some d → ReadsRun t d
unfolding number_of_run
run_reads [] d h = absurd (cc)
run_reads (b ∷ t) d h =
    let P : Bool → Type 0 = λ c. MatchBool c (ReadsDate t d) (ReadsNumber (b ∷ t) d) in
    elim (cases_Bool (b == 64)) [
      | inl y ↦ subst P (sym y) (date_some t d (at_date_of t) (reads t) (sym (cond-true _ _ _ y) ∙ h))
      | inr n ↦ subst P (sym n) (short_some (b ∷ t) d (sym (cond-false _ _ _ n) ∙ h))
    ]

-- a run that the reader has no number for spells none
pub run_none : (t : List ℕ) → number_of_run t ≡ None → (d : Dec) → ReadsRun t d → ⊥
run_none t h d r = let other : None ≡ Some d = sym h ∙ run_only t d r in absurd (cc)

pub run_missing : (t : List ℕ) → ((d : Dec) → ReadsRun t d → ⊥) → number_of_run t ≡ None
run_missing t h = missing t h (number_of_run t) refl
  where
    missing : (t : List ℕ) → ((d : Dec) → ReadsRun t d → ⊥) → (o : Option Dec) → number_of_run t ≡ o → number_of_run t ≡ None
    missing t h None e = e
    missing t h (Some d) e = absurd (h d (run_reads t d e))
