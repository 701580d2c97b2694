use Rattle.std.proofs.Common.{◌≡◌, None, List, length, refl, sym, ap, ◌∙◌, arith}
use Rattle.std.specs.List.{remove}
use Rattle.st_pool.specs.Loaded.{without_last}
use Rattle.st_pool.specs.PoolMachine.{last_place}
use Rattle.st_pool.specs.declared.kernel.Kernel.{Kernel}
use Rattle.st_pool.proofs.PlaceLaws.{no-place, at-place}
use Rattle.st_pool.proofs.pool.Pool.unload.Goals as goal

pub returns-in_default-clause-not_loaded : goal.returns-in_default-clause-not_loaded
returns-in_default-clause-not_loaded c =
    let is : last_place c.args.name.now 0 None c.args.self.now ≡ None =
    ap (last_place c.args.name.now 0 None) (sym (c.as_slice.ensures.value ∙ c.self.view_is)) ∙ sym c.last_place.ensures ∙ c.in_default.is in
    (λ _. no-place c.args.name.now c.args.self.now is, λ _. refl)

pub remove_at-requires : goal.remove_at-requires
remove_at-requires c =
    let at = at-place c.args.name.now c.as_slice.result.now c.in-Some.place (sym c.last_place.ensures ∙ c.in-Some.is) in
    omega (arith, at.1, c.as_slice.ensures.len, ap (λ (ks : List Kernel). length ks) c.self.view_is)

pub returns-clause-unloaded : goal.returns-clause-unloaded
returns-clause-unloaded c =
    let at = at-place c.args.name.now c.as_slice.result.now c.in-Some.place (sym c.last_place.ensures ∙ c.in-Some.is) in
    c.remove_at.ensures
    ∙ ap (λ (ks : List Kernel). remove ks c.in-Some.place) (sym (c.as_slice.ensures.value ∙ c.self.view_is))
    ∙ at.2
    ∙ ap (without_last c.args.name.now) (c.as_slice.ensures.value ∙ c.self.view_is)

pub returns-clause-not_loaded : goal.returns-clause-not_loaded
returns-clause-not_loaded c =
    let at = at-place c.args.name.now c.as_slice.result.now c.in-Some.place (sym c.last_place.ensures ∙ c.in-Some.is) in
    (λ e. absurd (cc e), λ h. absurd (cc (h, at.0, c.as_slice.ensures.value, c.self.view_is)))
