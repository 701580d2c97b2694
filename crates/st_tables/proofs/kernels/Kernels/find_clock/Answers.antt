use Rattle.std.proofs.Common.{Err, refl, sym, subst}
use Rattle.st_tables.specs.Kernels.{Kernels}
use Rattle.st_tables.specs.Tables.{ClockGives}
use Rattle.st_tables.specs.Kept.{HasClockOf}
use Rattle.st_tables.proofs.KernelLaws.{clock_is_found, clock_is_refused, clock_was, kept_err, kept_ok, not_refused, other_clock, unkept}
use Rattle.st_tables.proofs.kernels.Kernels.find_clock.Goals as goal

pub invariant_of-self : goal.invariant_of-self
invariant_of-self c =
    rw (kept_ok c.clock.result c.in-Ok.field-0 _ _ _ c.in-Ok.is c.clock.follows.holds-at-none)
    (clock_is_found c.args.n _ c.in-Ok.field-0.now c.self.invariant (not_refused c.of_clock.result c.in_default.is c.of_clock.ensures.none) c.in-Ok.ensures.gives)

pub invariant_of-self-in-Err : goal.invariant_of-self-in-Err
invariant_of-self-in-Err c =
    rw (kept_err c.clock.result c.in-Err.fault _ _ _ c.in-Err.is c.clock.follows.holds-at-none, c.lasting_clock-self-inside.ensures)
    (clock_is_refused c.args.n _ c.in-Err.fault c.self.invariant (unkept c.clock.result c.in-Err.fault c.in-Err.is c.clock.ensures.no_memory) c.in-Err.ensures.gives)

pub returns-in-Ok-clause-gives : goal.returns-in-Ok-clause-gives
returns-in-Ok-clause-gives c = rw (← c.self.view_is) (c.in-Ok.field-0.now, c.in-Ok.ensures.gives)

pub returns-in-Err-clause-gives : goal.returns-in-Err-clause-gives
returns-in-Err-clause-gives c = subst (λ (k : Kernels). ClockGives c.args.n k.loaded (Err c.in-Err.fault)) c.self.view_is c.in-Err.ensures.gives

pub returns-then-has_clock-clause-gives : goal.returns-then-has_clock-clause-gives
returns-then-has_clock-clause-gives c = rw (← c.self.view_is) (c.self.invariant.found.clock c.args.n (c.has_clock.ensures.0 c.if-has_clock.true)).1

pub returns-then-has_clock-clause-found : goal.returns-then-has_clock-clause-found
returns-then-has_clock-clause-found c = rw (← c.self.view_is) (clock_was _ c.args.n c.self.invariant (c.has_clock.ensures.0 c.if-has_clock.true))

pub returns-in-Some-clause-gives : goal.returns-in-Some-clause-gives
returns-in-Some-clause-gives c =
    subst (λ (k : Kernels). ClockGives c.args.n k.loaded (Err c.in-Some.fault)) c.self.view_is (c.self.invariant.refused.clock c.args.n c.in-Some.fault c.in-Some.ensures.some).1

pub returns-in-Some-clause-no_memory : goal.returns-in-Some-clause-no_memory
returns-in-Some-clause-no_memory c = λ has.
    absurd ((c.self.invariant.refused.clock c.args.n c.in-Some.fault c.in-Some.ensures.some).0 (subst (λ (k : Kernels). HasClockOf c.args.n k.loaded k.kept) (sym c.self.view_is) has))

pub returns-then-has_clock-clause-refused : goal.returns-then-has_clock-clause-refused
returns-then-has_clock-clause-refused c = rw (← c.self.view_is) (other_clock c.args.n c.self.inside.refused.clock _ (not_refused c.of_clock.result c.in_default.is c.of_clock.ensures.none))

pub returns-in-Ok-clause-found : goal.returns-in-Ok-clause-found
returns-in-Ok-clause-found c = rw (← c.self.view_is, kept_ok c.clock.result c.in-Ok.field-0 _ _ _ c.in-Ok.is c.clock.follows.holds-at-none) refl

pub returns-in-Ok-clause-refused : goal.returns-in-Ok-clause-refused
returns-in-Ok-clause-refused c = rw (← c.self.view_is) (other_clock c.args.n c.self.inside.refused.clock _ (not_refused c.of_clock.result c.in_default.is c.of_clock.ensures.none))

pub returns-in-Err-clause-no_memory : goal.returns-in-Err-clause-no_memory
returns-in-Err-clause-no_memory c = λ has.
    absurd (unkept c.clock.result c.in-Err.fault c.in-Err.is c.clock.ensures.no_memory (subst (λ (k : Kernels). HasClockOf c.args.n k.loaded k.kept) (sym c.self.view_is) has))
