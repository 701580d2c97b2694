use Rattle.std.proofs.Common.{◌≡◌, ℕ, List, [], inl, inr, bytes_eq, Option, Some, is_some, subst, sym, ap, ◌∙◌}
use Rattle.std.specs.HashMap.{get_by}
use Rattle.std.proofs.lemmas.Slice.Eq.{bytes_eq-Decides}
use Rattle.std.proofs.lemmas.Bool.{cases_Bool}
use Rattle.st_pool.specs.IndexMachine.{kept_places}
use Rattle.std.specs.Global.{Vec}
use Rattle.std.specs.Map.{lookup}
use Rattle.std.specs.Option.{option_map_or, option_copied_mut}
use Rattle.st_pool.specs.declared.place.Place.{Place}
use Rattle.st_pool.proofs.IndexLaws.{set-others, insert-others, on-err}
use Rattle.st_pool.proofs.index.add_place.Goals as goal

-- the places of what a look-up finds
abbrev items : Option (Vec Place) → List Place
items o = option_map_or (λ v. v.items) o []

pub returns-in_err-push-clause-others : goal.returns-in_err-push-clause-others
returns-in_err-push-clause-others c = λ q ne.
    ap (λ (es : List (Vec ℕ × Vec Place)). items (lookup (λ k. bytes_eq q k.items) es)) (c.get_mut.follows.holds c.push.new.self).0
    ∙ ap items (set-others c.args.name.now q c.push.new.self c.args.index.now.entries ne)

pub returns-in-Some-clause-others : goal.returns-in-Some-clause-others
returns-in-Some-clause-others c = λ q ne.
    ap (λ (es : List (Vec ℕ × Vec Place)). items (lookup (λ k. bytes_eq q k.items) es)) (c.get_mut.follows.holds c.push.new.self).0
    ∙ ap items (set-others c.args.name.now q c.push.new.self c.args.index.now.entries ne)

pub returns-clause-others : goal.returns-clause-others
returns-clause-others c = λ q ne.
    ap (λ (es : List (Vec ℕ × Vec Place)). items (lookup (λ k. bytes_eq q k.items) es)) (c.in_ok-insert.ensures.entries)
    ∙ ap items (insert-others c.in_ok-name.name q c.push-2.new.self c.get_mut.follows.lender-at-none.entries (ap (λ (l : List ℕ). bytes_eq l q) c.in_ok-name.ensures.items ∙ ne))
    ∙ ap (λ (m : _). items (lookup (λ k. bytes_eq q k.items) m.entries)) c.get_mut.follows.holds-at-none

pub returns-in_err-push-clause-refused : goal.returns-in_err-push-clause-refused
returns-in_err-push-clause-refused c = on-err c.from_residual.result (λ q. elim (cases_Bool (bytes_eq c.args.name.now q)) [
  | inl y ↦ subst (λ (n : List ℕ). kept_places n (c.get_mut.follows.lender c.push.new.self) ≡ kept_places n c.args.index.now) ((bytes_eq-Decides c.args.name.now q).0 y) here
  | inr n ↦ ap (λ (es : List (Vec ℕ × Vec Place)). items (lookup (λ k. bytes_eq q k.items) es)) (c.get_mut.follows.holds c.push.new.self).0
      ∙ ap items (set-others c.args.name.now q c.push.new.self c.args.index.now.entries n)
])
  where
    there : get_by (λ k. bytes_eq c.args.name.now k.items) c.args.index.now ≡ Some c.in-Some.places.now
    there = sym c.get_mut.ensures.value ∙ ap option_copied_mut c.in-Some.is

    here : kept_places c.args.name.now (c.get_mut.follows.lender c.push.new.self) ≡ kept_places c.args.name.now c.args.index.now
    here =
        ap items (((c.get_mut.follows.holds c.push.new.self).3 (ap is_some there)).1)
        ∙ c.in_err-push.ensures.items
        ∙ sym (ap items there)
