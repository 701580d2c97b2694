use Rattle.std.proofs.Common.{◌≡◌, ◌++◌}
use Rattle.st_pool.specs.Variable.{loaded_values}
use Rattle.st_words.specs.Setup.{texts_in}
use Rattle.st_words.proofs.setup.add_texts.Given as goal

abbrev pub invariant-loop-value : goal.invariant-loop-value
invariant-loop-value l =
    l.names ++ texts_in l.value-iterator ≡ l.fn.names ++ texts_in (loaded_values l.name l.pool)
