-- By one job's tables what is answered is answered of one source, by one way and one target.
use Rattle.std.proofs.Common.{◌≡◌, ◌⊎◌, inl, inr, ℕ, Result, Ok, Err, List, refl, subst}
use Rattle.st_fraction.specs.Fraction.{Fraction}
use Rattle.st_routes.specs.Outcome.{MayBeUndecided, Prints, RouteGives, Target}
use Rattle.st_routes.specs.declared.fault.TimeFault.{TimeFault}
use Rattle.st_routes.specs.declared.fault.TimeFault.TheVariants as faults
use Rattle.st_routes.specs.declared.route.Route.{Route}
use Rattle.st_words.specs.declared.job.Job.{Job}
use Rattle.st_answers.specs.Answer.{ConvertGives, IsRouteOf, IsTargetOf, SourceGives}
use Rattle.st_answers.specs.Asked.{Tables}
use Rattle.st_answers.proofs.OneGiven.{HasClocks, ok-err, ok-same, route-one, source-one, target-one}

pub routed : (job : Job) (tables : Tables) (text : List ℕ) (r : Fraction) (route : Route) (target : Target) (x : Result (List ℕ) TimeFault) → HasClocks tables
    → SourceGives job.form job.from tables text (Ok r) → IsRouteOf job tables route → IsTargetOf job.shape tables target → ConvertGives job tables text x
    → RouteGives route r target x
routed job tables text r route target x clocks source way aim (inl (f, refused, e)) =
    absurd (ok-err r f (source-one job.form job.from tables text (Ok r) (Err f) clocks source refused))
routed job tables text r route target x clocks source way aim (inr (s, path, mark, found, other, aims, gives)) =
    let value : s ≡ r = ok-same s r (source-one job.form job.from tables text (Ok s) (Ok r) clocks found source) in
    let ways : path ≡ route = route-one tables.constants job.from job.to tables path route other way in
    let targets : mark ≡ target = target-one job.shape tables mark target aims aim in
    let P : Fraction → Type 0 = λ z. RouteGives path z mark x in
    let Q : Route → Type 0 = λ z. RouteGives z r mark x in
    let R : Target → Type 0 = λ z. RouteGives route r z x in
    subst R targets (subst Q ways (subst P value gives))

-- what is answered tells an outcome, or that it is undecided, or want of memory
abbrev pub IsOneOf : Route → Fraction → Target → Result (List ℕ) TimeFault → Type 0
IsOneOf route r target x =
    Prints route r target x ⊎ ((MayBeUndecided route r target × (x ≡ Err faults.Undecided)) ⊎ (x ≡ Err faults.OutOfMemory))

pub one-of : (route : Route) (r : Fraction) (target : Target) (x : Result (List ℕ) TimeFault) → RouteGives route r target x → IsOneOf route r target x
one-of route r target (Ok text) g = inl g
one-of route r target (Err faults.Undecided) g = inr (inl (g, refl))
one-of route r target (Err faults.OutOfMemory) g = inr (inr refl)
one-of route r target (Err other) g = inl g
