use Rattle.std.proofs.Common.{◌≡◌, List, map, sym, ap, ◌∙◌, arith, true, false}
use Rattle.st_decimal.specs.declared.number.Dec.{Dec}
use Rattle.st_kernel_text.specs.declared.value.Value.TheVariants.{Number}
use Rattle.st_tables.proofs.GivenLaws.{one_given, one_other}
use Rattle.st_tables.proofs.numbers.are_given.Goals as goal

pub returns-then-not-are_values : goal.returns-then-not-are_values
returns-then-not-are_values c = (
  λ h. absurd (let t : false ≡ true = h in cc),
  λ e. absurd (one_other c.args.pool.now c.args.vars.now c.args.numbers.now c.loop-i.i _ c.index-numbers-i.result c.requires.kinds (omega arith)
      (λ f.
      let t : false ≡ true = sym c.if-not-are_values.true ∙ c.are_values.ensures.1 (f ∙ ap (λ (l : List Dec). map Number l) (sym (c.as_slice.ensures ∙ c.index-numbers-i.is))) in
      absurd cc) e),
)

pub loop-i-preserved : goal.loop-i-preserved
loop-i-preserved c =
    one_given c.args.pool.now c.args.vars.now c.args.numbers.now c.loop-i.i _ c.index-numbers-i.result c.requires.kinds (omega arith) (omega arith) c.loop-i.invariant
    (c.are_values.ensures.0 c.if-not-are_values.false ∙ ap (λ (l : List Dec). map Number l) (c.as_slice.ensures ∙ c.index-numbers-i.is))
