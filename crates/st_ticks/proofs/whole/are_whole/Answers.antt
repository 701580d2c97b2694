use Rattle.std.proofs.Common.{pos, take, refl, sym, arith}
use Rattle.std.proofs.lemmas.List.{take_all}
use Rattle.std.proofs.lemmas.List.Elements.{All-more, All-same}
use Rattle.st_decimal.specs.declared.number.Dec.{Dec}
use Rattle.st_ticks.specs.Variables.{IsWholeNumber}
use Rattle.st_ticks.proofs.whole.are_whole.Goals as goal

abbrev none : Dec
none = record { digits = pos 0; tens = pos 0 }

pub loop-value-preserved : goal.loop-value-preserved
loop-value-preserved c =
    All-more IsWholeNumber c.args.values.now c.loop-value.value-index none (omega arith) c.loop-value.invariant (c.is_whole.ensures.0 c.if-not-is_whole.false)

pub returns : goal.returns
returns c =
    let whole = All-same IsWholeNumber c.args.values.now (take c.loop-value.value-index c.args.values.now) (sym (take_all c.loop-value.value-index c.args.values.now (omega arith))) c.loop-value.invariant in
    (λ t. whole, λ w. refl)
