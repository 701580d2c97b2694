use Rattle.std.proofs.Common.{◌≡◌, false, refl, sym, ap, ◌∙◌}
use Rattle.st_pool.specs.Loaded.{is_loaded}
use Rattle.st_tables.specs.Kernels.{Kernels}
use Rattle.st_batch.specs.Commands.{unload_answer}
use Rattle.st_batch.proofs.CommandLaws.{not-loaded}
use Rattle.st_batch.proofs.command.unload_named.Goals as goal

pub returns-in-Err-clause-answered : goal.returns-in-Err-clause-answered
returns-in-Err-clause-answered c =
    let none : is_loaded c.args.name.now c.args.kernels.now.loaded ≡ false = c.in-Err.ensures.not_loaded.0 refl in
    record { answered = sym (ap unload_answer none); left = ap (λ (k : Kernels). k.loaded) c.in-Err.ensures.refused ∙ sym (not-loaded c.args.name.now c.args.kernels.now.loaded none) }
