use Rattle.std.proofs.Common.{Err, subst}
use Rattle.st_tables.specs.Kernels.{Kernels}
use Rattle.st_tables.specs.Tables.{ConstantsGive}
use Rattle.st_tables.proofs.KernelLaws.{constants_are_found, constants_are_refused, kept_err, kept_ok, unkept}
use Rattle.st_tables.proofs.kernels.Kernels.find_deltet.Goals as goal

pub returns-in-Some-clause-gives : goal.returns-in-Some-clause-gives
returns-in-Some-clause-gives c =
    subst (λ (k : Kernels). ConstantsGive k.loaded (Err c.in-Some.fault)) c.self.view_is (c.self.invariant.refused.constants c.in-Some.fault c.in-Some.is).1

pub returns-then-self-clause-gives : goal.returns-then-self-clause-gives
returns-then-self-clause-gives c = rw (← c.self.view_is) (c.self.invariant.found.constants c.if-self.true).1

pub invariant_of-self : goal.invariant_of-self
invariant_of-self c =
    rw (kept_ok c.deltet.result c.in-Ok.field-0 _ _ _ c.in-Ok.is c.deltet.follows.holds-at-none)
    (constants_are_found _ c.in-Ok.field-0.now c.self.invariant c.in_default.is c.in-Ok.ensures.gives)

pub invariant_of-self-in-Err : goal.invariant_of-self-in-Err
invariant_of-self-in-Err c =
    rw (kept_err c.deltet.result c.in-Err.fault _ _ _ c.in-Err.is c.deltet.follows.holds-at-none, c.lasting-self-inside.ensures)
    (constants_are_refused _ c.in-Err.fault c.self.invariant (unkept c.deltet.result c.in-Err.fault c.in-Err.is c.deltet.ensures.no_memory) c.in-Err.ensures.gives)

pub returns-in-Ok-clause-gives : goal.returns-in-Ok-clause-gives
returns-in-Ok-clause-gives c = rw (← c.self.view_is) (c.in-Ok.field-0.now, c.in-Ok.ensures.gives)

pub returns-in-Err-clause-gives : goal.returns-in-Err-clause-gives
returns-in-Err-clause-gives c = subst (λ (k : Kernels). ConstantsGive k.loaded (Err c.in-Err.fault)) c.self.view_is c.in-Err.ensures.gives
