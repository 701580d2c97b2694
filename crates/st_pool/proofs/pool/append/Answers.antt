use Rattle.std.proofs.Common.{ℕ, List, ◌++◌, length, ap, ap₂, ◌∙◌, arith}
use Rattle.st_kernel_text.specs.declared.assignment.Assignment.{Assignment}
use Rattle.st_pool.specs.IndexMachine.{kept_places, without}
use Rattle.st_pool.specs.Places.{places_in}
use Rattle.st_pool.proofs.IndexLaws.{on-err}
use Rattle.st_pool.proofs.PlacesLaws.{without-added}
use Rattle.st_pool.proofs.pool.append.Goals as goal

pub returns-in_err-push-clause-refused_index : goal.returns-in_err-push-clause-refused_index
returns-in_err-push-clause-refused_index c = on-err c.from_residual-in_err-push.result (λ q.
    ap (without (length c.args.kernels.now.items)) (c.in_ok-add.ensures.added q)
    ∙ ap₂ (λ (n : ℕ) (l : List Assignment). without (length c.args.kernels.now.items) (kept_places q c.args.index.now.lists ++ places_in q n l))
    (omega (arith, c.len-number.ensures)) c.as_slice.ensures
    ∙ without-added q (length c.args.kernels.now.items) (kept_places q c.args.index.now.lists) c.args.assignments)
