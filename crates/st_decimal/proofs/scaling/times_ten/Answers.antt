use Rattle.std.proofs.Common.{rules, ap, ℕ, ℤ, Some, to_z, of_z, subst, sym, ◌∙◌}
use Rattle.std.proofs.lemmas.Int.{to_z-of_z}
use Rattle.std.proofs.lemmas.Option.{same_Some}
use Rattle.std.specs.Int.{w64, w128}
use Rattle.std.specs.Prelude.{unsigned_abs}
use Rattle.st_decimal.specs.Scaling.{IsTimesTen}
use Rattle.st_decimal.specs.ScalingMachine.{IsSizeTimesTen, with_sign_of}
use Rattle.st_decimal.proofs.ScalingLaws.{size_of_times, sign_of_times}
use Rattle.st_decimal.proofs.scaling.times_ten.Goals as goal

pub returns-in-Some-clause-only : goal.returns-in-Some-clause-only
returns-in-Some-clause-only c = λ u is below.
    let n : ℤ = to_z w128 (of_z w128 c.args.n) in
    let power : ℤ = to_z w64 (of_z w64 c.args.power) in
    let same_n = to_z-of_z w128 c.args.n (search rules) in
    let same_power = to_z-of_z w64 c.args.power (search rules) in
    let raw : IsTimesTen n power u = subst (λ (z : ℤ). IsTimesTen z power u) (sym same_n) (subst (λ (z : ℤ). IsTimesTen c.args.n z u) (sym same_power) is) in
    let size : IsSizeTimesTen c.unsigned_abs.result power (unsigned_abs u) = subst (λ (k : ℕ). IsSizeTimesTen k power (unsigned_abs u)) (sym c.unsigned_abs.ensures.value) (size_of_times n power u raw) in
    let found = sym c.in-Some.is ∙ c.size_times_ten.ensures.only (unsigned_abs u) size below in
    ap (λ (z : ℤ). Some z)
    (to_z-of_z w128 c.signed_like.result (search rules) ∙ c.signed_like.ensures ∙ ap (λ (m : ℕ). with_sign_of n m) (same_Some c.in-Some.size (unsigned_abs u) found) ∙ sign_of_times n power u raw)

pub returns-in-None-clause-only : goal.returns-in-None-clause-only
returns-in-None-clause-only c = λ u is below.
    let n : ℤ = to_z w128 (of_z w128 c.args.n) in
    let power : ℤ = to_z w64 (of_z w64 c.args.power) in
    let same_n = to_z-of_z w128 c.args.n (search rules) in
    let same_power = to_z-of_z w64 c.args.power (search rules) in
    let raw : IsTimesTen n power u = subst (λ (z : ℤ). IsTimesTen z power u) (sym same_n) (subst (λ (z : ℤ). IsTimesTen c.args.n z u) (sym same_power) is) in
    let size : IsSizeTimesTen c.unsigned_abs.result power (unsigned_abs u) = subst (λ (k : ℕ). IsSizeTimesTen k power (unsigned_abs u)) (sym c.unsigned_abs.ensures.value) (size_of_times n power u raw) in
    let found = sym c.in-None.is ∙ c.size_times_ten.ensures.only (unsigned_abs u) size below in
    absurd (cc found)
