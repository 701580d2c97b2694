use Rattle.std.proofs.Common.{ℕ, List, ◌++◌, length, ap, sym, ◌∙◌, arith}
use Rattle.std.proofs.lemmas.List.{length_push}
use Rattle.std.proofs.lemmas.List.Sums.{sum_by_push}
use Rattle.st_pool.specs.declared.kernel.Kernel.{Kernel}
use Rattle.st_pool.specs.declared.place.Place.{Place}
use Rattle.st_pool.specs.IndexMachine.{kept_places, without}
use Rattle.st_pool.specs.Loaded.{value_count, loaded_count}
use Rattle.st_pool.specs.Places.{places_in, loaded_places}
use Rattle.st_pool.proofs.PlacesLaws.{loaded-more, none-next}
use Rattle.st_pool.proofs.pool.Pool.load.Goals as goal

pub invariant_of-self : goal.invariant_of-self
invariant_of-self c = (
  omega (arith, ap (λ (ks : List Kernel). length ks) c.in-Err.ensures.refused, c.self.invariant.0),
  omega (arith, ap loaded_count c.in-Err.ensures.refused, c.self.invariant.1),
  λ name.
      c.take_out.ensures name
      ∙ ap (λ (k : ℕ). without k (kept_places name c.append.new.index.lists)) (omega (arith, c.len-number.ensures))
      ∙ c.in-Err.ensures.refused_index name
      ∙ ap (without (length c.self.inside.kernels.items)) (c.self.invariant.2 name)
      ∙ none-next name c.self.inside.kernels.items
      ∙ ap (loaded_places name) (sym c.in-Err.ensures.refused),
)

pub invariant_of-self-2 : goal.invariant_of-self-2
invariant_of-self-2 c = (
  omega (arith, ap (λ (ks : List Kernel). length ks) c.in_default-append.ensures.kernels, length_push c.self.inside.kernels.items loaded, c.if-len-ge-MAX_KERNELS.false, c.len.ensures),
  omega (
    arith,
    ap loaded_count c.in_default-append.ensures.kernels,
    sum_by_push (λ (k : Kernel). value_count k.assignments) c.self.inside.kernels.items loaded,
    c.in-Some.ensures.some,
    ap value_count c.as_slice.ensures,
    c.self.invariant.1,
  ),
  λ name.
      c.in_default-append.ensures.index name
      ∙ ap (λ (ps : List Place). ps ++ places_in name (length c.self.inside.kernels.items) c.args.assignments) (c.self.invariant.2 name)
      ∙ sym (loaded-more name c.self.inside.kernels.items loaded)
      ∙ ap (loaded_places name) (sym c.in_default-append.ensures.kernels),
)
  where
    loaded : Kernel
    loaded = record { name = c.args.name.now; assignments = c.args.assignments }
