use Rattle.std.proofs.Common.{Ok, option_map, ap, subst}
use Rattle.st_routes.specs.Source.{TickGives}
use Rattle.st_routes.specs.Outcome.{IsTickText}
use Rattle.st_routes.specs.declared.ticks.TickForm.{TickForm}
use Rattle.st_answers.proofs.target.spell.Goals as goal

pub returns-clause-ok : goal.returns-clause-ok
returns-clause-ok c =
    let P : TickForm → Type 0 = λ form. TickGives c.in-Some.clock.now form c.args.text.now (Ok c.in_ok-tick-in-Some.tick) in
    let Q : TickForm → Type 0 = λ form. IsTickText c.in-Some.clock.now form c.in_ok-tick-in-Some.tick c.in_ok-spell_tick-in-Some.field-0 in (
      c.in-Some.clock.now,
      Ok _,
      ap (option_map (λ x. x.now)) c.in-Some.is,
      subst P c.source_form.ensures c.in_ok-tick-in-Some.ensures.gives,
      subst Q c.target_form.ensures c.in_ok-spell_tick-in-Some.ensures.gives,
    )
