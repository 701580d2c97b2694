use Rattle.std.proofs.Common.{◌≡◌, sym, ◌∙◌, true, false}
use Rattle.st_tables.proofs.GivenLaws.{other_value}
use Rattle.st_tables.proofs.numbers.are_values.Goals as goal

pub returns-then-not-is_number : goal.returns-then-not-is_number
returns-then-not-is_number c = (
  λ h. absurd (let t : false ≡ true = h in cc),
  λ e. absurd (other_value _ c.args.numbers.now c.loop-number.number-index _ c.loop-number.values _ c.next.result c.loop-number-test.true c.loop-number.invariant c.next.ensures.steps
      (λ same. let t : false ≡ true = sym c.if-not-is_number.true ∙ c.is_number.ensures.1 same in absurd cc) e),
)
