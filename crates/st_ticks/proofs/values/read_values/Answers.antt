use Rattle.std.proofs.Common.{◌≡◌, ℕ, ◌<◌, true, false, ◌==◌, List, [], ◌∷◌, ◌++◌, length, None, Some, sym, ap, ◌∙◌, subst, arith}
use Rattle.std.proofs.lemmas.Bool.Decides.{nat_tests}
use Rattle.st_text.specs.Bytes.{are_blanks}
use Rattle.st_text.specs.Scan.{leading_digits, past_digits}
use Rattle.st_ticks.specs.TextMachine.{past_separator}
use Rattle.st_ticks.proofs.RunLaws.{IsLast, IsMore, runs_stop, next_stop, next_unseparated, ahead_none, ahead_last, ahead_more, more_shorter}
use Rattle.st_ticks.proofs.values.read_values.Goals as goal

-- the digits that were cut off are some
some_cut : (d e : List ℕ) → d ≡ e → false ≡ (length d == 0) → 0 < length d
some_cut d e s h = grind (arith, nat_tests)

no_cut : (d e : List ℕ) → d ≡ e → true ≡ (length d == 0) → length e ≡ 0
no_cut d e s h = subst (λ (x : List ℕ). length x ≡ 0) s (grind (arith, nat_tests))

is_last : (t d p : List ℕ) → d ≡ leading_digits t → p ≡ past_digits t → 0 < length d → are_blanks p ≡ true → IsLast t d
is_last t d p e f s h = record { some = s; field = e; blanks = subst (λ (x : List ℕ). are_blanks x ≡ true) f h }

pub returns-then-is_empty : goal.returns-then-is_empty
returns-then-is_empty c =
    let t = c.loop-digits.rest.now in
    let d = c.split_digits.result.0.now in
    let none = no_cut d (leading_digits t) c.split_digits.ensures.digits (sym c.if-is_empty.true ∙ c.is_empty.ensures) in
    ahead_none c.args.text.now t c.loop-digits.invariant.0 c.loop-digits.invariant.2 (runs_stop t (next_stop t none))

pub returns-then-are_blanks : goal.returns-then-are_blanks
returns-then-are_blanks c =
    let t = c.loop-digits.rest.now in
    let d = c.split_digits.result.0.now in
    let p = c.split_digits.result.1.now in
    let done = c.loop-digits.invariant.0 in
    let some = some_cut d (leading_digits t) c.split_digits.ensures.digits (sym c.if-is_empty.false ∙ c.is_empty.ensures) in
    let last = is_last t d p c.split_digits.ensures.digits c.split_digits.ensures.rest some (sym c.are_blanks.ensures ∙ c.if-are_blanks.true) in
    record {
      fields = done ++ (d ∷ []);
      runs_are = ahead_last c.args.text.now t d done c.loop-digits.invariant.2 last;
      holds = c.push.ensures.holds done d c.loop-digits.invariant.1 c.capped_number.ensures.value;
    }

is_more : (t d p u : List ℕ) → d ≡ leading_digits t → p ≡ past_digits t → 0 < length d → are_blanks p ≡ false → Some u ≡ past_separator p → IsMore t d u
is_more t d p u e f s h n = record {
  some = s;
  field = e;
  no_blanks = subst (λ (x : List ℕ). are_blanks x ≡ false) f h;
  rest = ap past_separator (sym f) ∙ sym n;
}

pub returns-in_err-rest : goal.returns-in_err-rest
returns-in_err-rest c =
    let t = c.loop-digits.rest.now in
    let p = c.split_digits.result.1.now in
    let f = c.split_digits.ensures.rest in
    let blanks : are_blanks (past_digits t) ≡ false = subst (λ (x : List ℕ). are_blanks x ≡ false) f (sym c.are_blanks.ensures ∙ c.if-are_blanks.false) in
    let none : None ≡ past_separator p = c.in_err-rest.ensures in
    let unseparated : past_separator (past_digits t) ≡ None = ap past_separator (sym f) ∙ sym none in
    let stopped = ahead_none c.args.text.now t c.loop-digits.invariant.0 c.loop-digits.invariant.2 (runs_stop t (next_unseparated t blanks unseparated)) in
    rw c.from_residual.ensures stopped

pub loop-digits-smaller : goal.loop-digits-smaller
loop-digits-smaller c =
    let t = c.loop-digits.rest.now in
    let d = c.split_digits.result.0.now in
    let p = c.split_digits.result.1.now in
    let u = c.in_ok-rest.rest.now in
    let some = some_cut d (leading_digits t) c.split_digits.ensures.digits (sym c.if-is_empty.false ∙ c.is_empty.ensures) in
    let rest : Some u ≡ past_separator p = c.in_ok-rest.ensures in
    let next = is_more t d p u c.split_digits.ensures.digits c.split_digits.ensures.rest some (sym c.are_blanks.ensures ∙ c.if-are_blanks.false) rest in
    more_shorter t d u next

pub loop-digits-preserved : goal.loop-digits-preserved
loop-digits-preserved c =
    let t = c.loop-digits.rest.now in
    let d = c.split_digits.result.0.now in
    let p = c.split_digits.result.1.now in
    let u = c.in_ok-rest.rest.now in
    let done = c.loop-digits.invariant.0 in
    let some = some_cut d (leading_digits t) c.split_digits.ensures.digits (sym c.if-is_empty.false ∙ c.is_empty.ensures) in
    let rest : Some u ≡ past_separator p = c.in_ok-rest.ensures in
    let next = is_more t d p u c.split_digits.ensures.digits c.split_digits.ensures.rest some (sym c.are_blanks.ensures ∙ c.if-are_blanks.false) rest in (
      done ++ (d ∷ []),
      c.push.ensures.holds done d c.loop-digits.invariant.1 c.capped_number.ensures.value,
      ahead_more c.args.text.now t d u done c.loop-digits.invariant.2 next,
      omega (arith, more_shorter t d u next, c.push.ensures.count, c.loop-digits.invariant.3),
    )
