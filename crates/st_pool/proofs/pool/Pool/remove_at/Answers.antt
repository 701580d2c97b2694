use Rattle.std.proofs.Common.{◌<◌, List, length, sym, ap, ◌∙◌, arith}
use Rattle.std.proofs.lemmas.List.Edits.{length-remove}
use Rattle.std.proofs.lemmas.List.Sums.{sum_by-remove}
use Rattle.st_pool.specs.Loaded.{value_count, loaded_count}
use Rattle.st_pool.specs.IndexMachine.{without}
use Rattle.st_pool.specs.Places.{loaded_places}
use Rattle.st_pool.specs.declared.kernel.Kernel.{Kernel}
use Rattle.st_pool.proofs.PlacesLaws.{unloaded}
use Rattle.st_pool.proofs.pool.Pool.remove_at.Goals as goal

pub invariant_of-self : goal.invariant_of-self
invariant_of-self c = (
  omega (arith, ap (λ (ks : List Kernel). length ks) c.remove-kernel.ensures.items, length-remove c.self.inside.kernels.items c.args.i within, c.self.invariant.0),
  omega (
    arith,
    ap loaded_count c.remove-kernel.ensures.items,
    sum_by-remove (λ (k : Kernel). value_count k.assignments) c.self.inside.kernels.items c.args.i c.remove-kernel.result within,
    ap (λ (k : Kernel). value_count k.assignments) c.remove-kernel.ensures.value,
    c.value_count.ensures ∙ ap value_count c.as_slice.ensures,
    c.self.invariant.1,
  ),
  λ name.
      c.take_out.ensures name
      ∙ ap (without c.args.i) (c.self.invariant.2 name)
      ∙ unloaded name c.self.inside.kernels.items c.args.i
      ∙ ap (loaded_places name) (sym c.remove-kernel.ensures.items),
)
  where
    within : c.args.i < length c.self.inside.kernels.items
    within = omega (arith, c.requires, ap (λ (ks : List Kernel). length ks) c.self.view_is)
