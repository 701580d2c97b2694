use Rattle.std.proofs.Common.{inl, inr, ◌≡◌, ◌++◌, ◌∷◌, ◌+◌, [], ℕ, List, Bool, true, false, cond, bytes_eq, take, ap, sym, subst, ◌∙◌}
use Rattle.std.proofs.lemmas.Bool.{cases_Bool}
use Rattle.std.proofs.lemmas.List.{append-nil, append_assoc}
use Rattle.std.proofs.lemmas.Slice.Eq.{bytes_eq-Decides}
use Rattle.st_pool.specs.declared.place.Place.{Place}
use Rattle.st_pool.specs.IndexMachine.{kept_places, without}
use Rattle.st_pool.specs.Places.{places_in}
use Rattle.st_pool.proofs.IndexLaws.{on-err}
use Rattle.st_pool.proofs.PlacesLaws.{places-more, without-added}
use Rattle.st_pool.proofs.index.Index.add.Goals as goal

pub returns-in_err-add_place-clause-refused : goal.returns-in_err-add_place-clause-refused
returns-in_err-add_place-clause-refused c = on-err c.from_residual.result (λ name.
    ap (without c.args.kernel) (c.in_err-add_place.ensures.refused name ∙ c.loop-i.invariant name)
    ∙ without-added name c.args.kernel (kept_places name c.args.self.now.lists) (take c.loop-i.i c.args.assignments.now))

pub loop-i-preserved : goal.loop-i-preserved
loop-i-preserved c = λ name.
    elim (cases_Bool (bytes_eq c.as_slice.result.now name)) [
      | inl y ↦ subst
          (λ (q : List ℕ). kept_places q c.add_place.new.index ≡ kept_places q c.loop-i.self.lists ++ record { kernel = c.args.kernel; assignment = c.loop-i.i } ∷ [])
          ((bytes_eq-Decides c.as_slice.result.now name).0 y) c.in_ok-add_place.ensures.added
          ∙ ap (λ (ps : List Place). ps ++ record { kernel = c.args.kernel; assignment = c.loop-i.i } ∷ []) (c.loop-i.invariant name)
          ∙ append_assoc (kept_places name c.args.self.now.lists) (places_in name c.args.kernel (take c.loop-i.i c.args.assignments.now)) (record { kernel = c.args.kernel; assignment = c.loop-i.i } ∷ [])
          ∙ ap (λ (ps : List Place). kept_places name c.args.self.now.lists ++ ps) (sym (next name true y))
      | inr n ↦ c.add_place.ensures.others name n ∙ c.loop-i.invariant name
          ∙ ap (λ (ps : List Place). kept_places name c.args.self.now.lists ++ ps)
          (sym (next name false n ∙ append-nil (places_in name c.args.kernel (take c.loop-i.i c.args.assignments.now))))
    ]
  where
    next : (name : List ℕ) (b : Bool) → bytes_eq c.as_slice.result.now name ≡ b
        → places_in name c.args.kernel (take (c.loop-i.i + 1) c.args.assignments.now)
        ≡ places_in name c.args.kernel (take c.loop-i.i c.args.assignments.now) ++ cond b (record { kernel = c.args.kernel; assignment = c.loop-i.i } ∷ []) []
    next name b e =
        places-more name c.args.kernel c.args.assignments.now c.loop-i.i c.index-assignments-i.result c.loop-i-test.true c.index-assignments-i.is
        ∙ ap (λ (x : Bool). places_in name c.args.kernel (take c.loop-i.i c.args.assignments.now) ++ cond x (record { kernel = c.args.kernel; assignment = c.loop-i.i } ∷ []) [])
        (ap (λ (l : List ℕ). bytes_eq l name) (sym c.as_slice.ensures) ∙ e)
