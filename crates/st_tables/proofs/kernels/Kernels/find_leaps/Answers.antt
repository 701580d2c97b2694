use Rattle.std.proofs.Common.{Err, subst}
use Rattle.st_tables.specs.Kernels.{Kernels}
use Rattle.st_tables.specs.Tables.{LeapsGive}
use Rattle.st_tables.proofs.KernelLaws.{kept_err, kept_ok, leaps_are_found, leaps_are_refused, unkept}
use Rattle.st_tables.proofs.kernels.Kernels.find_leaps.Goals as goal

pub returns-then-self-clause-gives : goal.returns-then-self-clause-gives
returns-then-self-clause-gives c = rw (← c.self.view_is) (c.self.invariant.found.leaps c.if-self.true).1

pub invariant_of-self : goal.invariant_of-self
invariant_of-self c =
    rw (kept_ok c.leaps.result c.in-Ok.field-0 _ _ _ c.in-Ok.is c.leaps.follows.holds-at-none)
    (leaps_are_found _ c.in-Ok.field-0.now c.self.invariant c.in_default.is c.in-Ok.ensures.gives)

pub invariant_of-self-in-Err : goal.invariant_of-self-in-Err
invariant_of-self-in-Err c =
    rw (kept_err c.leaps.result c.in-Err.fault _ _ _ c.in-Err.is c.leaps.follows.holds-at-none, c.lasting-self-inside.ensures)
    (leaps_are_refused _ c.in-Err.fault c.self.invariant (unkept c.leaps.result c.in-Err.fault c.in-Err.is c.leaps.ensures.no_memory) c.in-Err.ensures.gives)

pub returns-in-Ok-clause-gives : goal.returns-in-Ok-clause-gives
returns-in-Ok-clause-gives c = rw (← c.self.view_is) (c.in-Ok.field-0.now, c.in-Ok.ensures.gives)

pub returns-in-Err-clause-gives : goal.returns-in-Err-clause-gives
returns-in-Err-clause-gives c = subst (λ (k : Kernels). LeapsGive k.loaded (Err c.in-Err.fault)) c.self.view_is c.in-Err.ensures.gives
