use Rattle.std.proofs.Common.{◌^◌, ◌≤◌, Bool, IsTrue, List, sym, ◌∙◌, subst}
use Rattle.st_ticks.specs.Face.{span_of_rest}
use Rattle.st_ticks.specs.Variables.{HaveModuli}
use Rattle.st_ticks.specs.declared.field.Field.{Field}
use Rattle.st_ticks.proofs.RuleLaws.{has_product}
use Rattle.st_ticks.proofs.numbers.has_small_product.Goals as goal

pub returns-then-is_some : goal.returns-then-is_some
returns-then-is_some c =
    let ms = c.args.moduli.now in
    let has = has_product ms c.modulus_of.result c.small_product.result c.in-len1-up.len_at_least (sym c.is_some.ensures ∙ c.if-is_some.true)
    c.modulus_of.ensures.some c.modulus_of.ensures.low c.modulus_of.ensures.high c.small_product.ensures.some c.small_product.ensures.small c.small_product.ensures.none in
    subst (λ (b : Bool). (IsTrue b → (fs : List Field) × HaveModuli ms fs × (span_of_rest fs ≤ 10 ^ 12)) × (((fs : List Field) × HaveModuli ms fs × (span_of_rest fs ≤ 10 ^ 12)) → IsTrue b))
    (sym c.is_some-then-is_some.ensures) has
