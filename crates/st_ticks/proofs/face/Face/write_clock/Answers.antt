use Rattle.std.proofs.Common.{◌≡◌, ℕ, List, Result, Ok, Err, IfOk, ap, ◌∙◌}
use Rattle.st_ticks.specs.Face.{Face, IsFace}
use Rattle.st_ticks.specs.Tick.{IsCanonical, spelled, count_at}
use Rattle.st_ticks.specs.TickMachine.{canonical, place_of, partition_of}
use Rattle.st_ticks.proofs.FaceLaws.{canonical_is_one}
use Rattle.st_ticks.proofs.face.Face.write_clock.Goals as goal

spelling : {E : Type 0} (face : Face) (k place n : ℕ) (r : Result (List ℕ) E) → IsFace face → place ≡ place_of face k → n ≡ count_at face place (partition_of face k) k
    → IfOk r (λ line. line ≡ spelled face place n) → IfOk r (IsCanonical face k)
spelling face k place n (Ok line) h e f s =
    let same : spelled face place n ≡ canonical face k =
    ap (spelled face place) f ∙ ap (λ (i : ℕ). spelled face i (count_at face i (partition_of face k) k)) e in
    (canonical_is_one face k line h).1 (s ∙ same)
spelling face k place n (Err x) h e f s = s

pub returns-clause-canonical : goal.returns-clause-canonical
returns-clause-canonical c =
    spelling c.args.self.now c.args.ticks c.place_of-place.result c.count_of-count.result c.spell.result c.place_of-place.ensures.face c.place_of-place.ensures.value
    c.count_of-count.ensures.value c.spell.ensures
