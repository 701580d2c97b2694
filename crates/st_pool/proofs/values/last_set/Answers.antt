use Rattle.std.proofs.Common.{◌≡◌, ℕ, suc, ◌-◌, drop, sym, ap, ◌∙◌, arith}
use Rattle.std.specs.List.{list_any}
use Rattle.st_pool.specs.IndexMachine.{assignments_at}
use Rattle.st_pool.specs.Variable.{is_set}
use Rattle.st_pool.proofs.LastSetLaws.{sets-here, none-sets}
use Rattle.st_pool.proofs.values.last_set.Goals as goal

pub returns-then-sets_at-clause-since : goal.returns-then-sets_at-clause-since
returns-then-sets_at-clause-since c =
    let next : suc (c.loop-start.start - 1) ≡ c.loop-start.start = omega (arith, c.loop-start-test.true) in
    sets-here c.args.kernels.now c.args.places.now (c.loop-start.start - 1) _ (omega (arith, c.loop-start-test.true, c.loop-start.invariant.within))
    (sym c.sets_at.ensures ∙ c.if-sets_at.true)
    (ap (λ (n : ℕ). list_any is_set (assignments_at c.args.kernels.now (drop n c.args.places.now))) next ∙ c.loop-start.invariant.none)

pub returns-clause-since : goal.returns-clause-since
returns-clause-since c =
    let first : c.loop-start.start ≡ 0 = omega (arith, c.loop-start-test.false) in
    none-sets _ (sym (ap (λ (n : ℕ). list_any is_set (assignments_at c.args.kernels.now (drop n c.args.places.now))) first) ∙ c.loop-start.invariant.none)
