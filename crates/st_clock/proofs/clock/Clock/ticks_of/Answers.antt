use Rattle.std.proofs.Common.{◌≡◌, ◌∙◌, ap, subst, lit<}
use Rattle.std.specs.Int.{w128}
use Rattle.std.proofs.lemmas.Int.{to_z-of_z}
use Rattle.st_fraction.specs.Fraction.{IsFraction, units}
use Rattle.st_clock.specs.declared.ticks.Ticks.TheVariants.{Before, At, After}
use Rattle.st_clock.specs.Clock.{Clock, tpm, total, BeginsBy}
use Rattle.st_clock.specs.KeptSteps.{IsSound}
use Rattle.st_clock.specs.Tick.{TickOf}
use Rattle.st_clock.proofs.Answered.{rising_of, force_rate, force_small, next_small, answer_at, answer_after, answer_before}
use Rattle.st_clock.proofs.Falls.{tick_is_one}
use Rattle.st_clock.proofs.Faces.{tpm_some}
use Rattle.st_clock.proofs.clock.Clock.ticks_of.Goals as goal

pub at_time-requires : goal.at_time-requires
at_time-requires c =
    let sound : IsSound c.args.self.now = subst IsSound c.self.view_is c.self.invariant in
    let same : c.as_slice.result.now ≡ c.args.self.now.records = c.as_slice.ensures.value ∙ ap (λ (k : Clock). k.records) c.self.view_is in
    rising_of c.args.self.now c.as_slice.result.now sound same

pub returns-in_default-clause-gives : goal.returns-in_default-clause-gives
returns-in_default-clause-gives c =
    let same : c.as_slice.result.now ≡ c.args.self.now.records = c.as_slice.ensures.value ∙ ap (λ (k : Clock). k.records) c.self.view_is in
    let read = to_z-of_z w128 c.args.time c.ranges.time in
    let answer : TickOf c.args.self.now (units c.args.time) Before = answer_before c.args.self.now c.as_slice.result.now (units c.args.time) same (rw read at c.in_default.ensures.none) in
    answer

pub returns-in_default-clause-only : goal.returns-in_default-clause-only
returns-in_default-clause-only c =
    let sound : IsSound c.args.self.now = subst IsSound c.self.view_is c.self.invariant in
    let same : c.as_slice.result.now ≡ c.args.self.now.records = c.as_slice.ensures.value ∙ ap (λ (k : Clock). k.records) c.self.view_is in
    let read = to_z-of_z w128 c.args.time c.ranges.time in
    let time : IsFraction (units c.args.time) = record { positive = lit< tt } in
    let answer : TickOf c.args.self.now (units c.args.time) Before = answer_before c.args.self.now c.as_slice.result.now (units c.args.time) same (rw read at c.in_default.ensures.none) in
    λ other h. tick_is_one c.args.self.now (units c.args.time) Before other sound.clock time answer h

pub nearest-number-requires-clause-tpm_some : goal.nearest-number-requires-clause-tpm_some
nearest-number-requires-clause-tpm_some c =
    let sound : IsSound c.args.self.now = subst IsSound c.self.view_is c.self.invariant in
    let tpm_is : c.ticks_per_count.result ≡ tpm c.args.self.now = c.ticks_per_count.ensures.value ∙ ap (λ (k : Clock). tpm k) c.self.view_is in
    rw tpm_is (tpm_some c.args.self.now sound.clock)

pub nearest-number-requires-clause-rate : goal.nearest-number-requires-clause-rate
nearest-number-requires-clause-rate c =
    let sound : IsSound c.args.self.now = subst IsSound c.self.view_is c.self.invariant in
    let same : c.as_slice.result.now ≡ c.args.self.now.records = c.as_slice.ensures.value ∙ ap (λ (k : Clock). k.records) c.self.view_is in
    let read = to_z-of_z w128 c.args.time c.ranges.time in
    let force = rw read at c.in-Some.ensures.some in
    force_rate (BeginsBy (units c.args.time)) c.args.self.now c.as_slice.result.now c.in-Some.force.record c.in-Some.force.next sound same force

pub nearest-number-requires-clause-record_small : goal.nearest-number-requires-clause-record_small
nearest-number-requires-clause-record_small c =
    let sound : IsSound c.args.self.now = subst IsSound c.self.view_is c.self.invariant in
    let same : c.as_slice.result.now ≡ c.args.self.now.records = c.as_slice.ensures.value ∙ ap (λ (k : Clock). k.records) c.self.view_is in
    let read = to_z-of_z w128 c.args.time c.ranges.time in
    let force = rw read at c.in-Some.ensures.some in
    force_small (BeginsBy (units c.args.time)) c.args.self.now c.as_slice.result.now c.in-Some.force.record c.in-Some.force.next sound same force

pub nearest-number-requires-clause-next_small : goal.nearest-number-requires-clause-next_small
nearest-number-requires-clause-next_small c =
    let sound : IsSound c.args.self.now = subst IsSound c.self.view_is c.self.invariant in
    let same : c.as_slice.result.now ≡ c.args.self.now.records = c.as_slice.ensures.value ∙ ap (λ (k : Clock). k.records) c.self.view_is in
    let read = to_z-of_z w128 c.args.time c.ranges.time in
    let force = rw read at c.in-Some.ensures.some in
    next_small (BeginsBy (units c.args.time)) c.args.self.now c.as_slice.result.now c.in-Some.force.record c.in-Some.force.next sound same force

pub returns-then-number-from-clause-gives : goal.returns-then-number-from-clause-gives
returns-then-number-from-clause-gives c =
    let sound : IsSound c.args.self.now = subst IsSound c.self.view_is c.self.invariant in
    let same : c.as_slice.result.now ≡ c.args.self.now.records = c.as_slice.ensures.value ∙ ap (λ (k : Clock). k.records) c.self.view_is in
    let tpm_is : c.ticks_per_count.result ≡ tpm c.args.self.now = c.ticks_per_count.ensures.value ∙ ap (λ (k : Clock). tpm k) c.self.view_is in
    let total_is : c.total.result ≡ total c.args.self.now = c.total.ensures.value ∙ ap (λ (k : Clock). total k) c.self.view_is in
    let read = to_z-of_z w128 c.args.time c.ranges.time in
    let force = rw read at c.in-Some.ensures.some in
    let floor = rw read at c.nearest-number.ensures in
    let answer : TickOf c.args.self.now (units c.args.time) After = answer_after c.args.self.now c.as_slice.result.now c.ticks_per_count.result (units c.args.time) c.in-Some.force.record c.in-Some.force.next c.nearest-number.result sound same tpm_is c.total.result total_is (lit< tt) force floor (rw c.from.ensures at c.if-number-from.true) in
    answer

pub returns-then-number-from-clause-only : goal.returns-then-number-from-clause-only
returns-then-number-from-clause-only c =
    let sound : IsSound c.args.self.now = subst IsSound c.self.view_is c.self.invariant in
    let same : c.as_slice.result.now ≡ c.args.self.now.records = c.as_slice.ensures.value ∙ ap (λ (k : Clock). k.records) c.self.view_is in
    let tpm_is : c.ticks_per_count.result ≡ tpm c.args.self.now = c.ticks_per_count.ensures.value ∙ ap (λ (k : Clock). tpm k) c.self.view_is in
    let total_is : c.total.result ≡ total c.args.self.now = c.total.ensures.value ∙ ap (λ (k : Clock). total k) c.self.view_is in
    let read = to_z-of_z w128 c.args.time c.ranges.time in
    let force = rw read at c.in-Some.ensures.some in
    let floor = rw read at c.nearest-number.ensures in
    let time : IsFraction (units c.args.time) = record { positive = lit< tt } in
    let answer : TickOf c.args.self.now (units c.args.time) After = answer_after c.args.self.now c.as_slice.result.now c.ticks_per_count.result (units c.args.time) c.in-Some.force.record c.in-Some.force.next c.nearest-number.result sound same tpm_is c.total.result total_is (lit< tt) force floor (rw c.from.ensures at c.if-number-from.true) in
    λ other h. tick_is_one c.args.self.now (units c.args.time) After other sound.clock time answer h

pub returns-else-number-from-clause-gives : goal.returns-else-number-from-clause-gives
returns-else-number-from-clause-gives c =
    let sound : IsSound c.args.self.now = subst IsSound c.self.view_is c.self.invariant in
    let same : c.as_slice.result.now ≡ c.args.self.now.records = c.as_slice.ensures.value ∙ ap (λ (k : Clock). k.records) c.self.view_is in
    let tpm_is : c.ticks_per_count.result ≡ tpm c.args.self.now = c.ticks_per_count.ensures.value ∙ ap (λ (k : Clock). tpm k) c.self.view_is in
    let total_is : c.total.result ≡ total c.args.self.now = c.total.ensures.value ∙ ap (λ (k : Clock). total k) c.self.view_is in
    let read = to_z-of_z w128 c.args.time c.ranges.time in
    let force = rw read at c.in-Some.ensures.some in
    let floor = rw read at c.nearest-number.ensures in
    let answer : TickOf c.args.self.now (units c.args.time) (At c.nearest-number.result) = answer_at c.args.self.now c.as_slice.result.now c.ticks_per_count.result (units c.args.time) c.in-Some.force.record c.in-Some.force.next c.nearest-number.result sound same tpm_is c.total.result total_is (rw total_is sound.clock.face.total_small) force floor (rw c.from.ensures at c.if-number-from.false) in
    answer

pub returns-else-number-from-clause-only : goal.returns-else-number-from-clause-only
returns-else-number-from-clause-only c =
    let sound : IsSound c.args.self.now = subst IsSound c.self.view_is c.self.invariant in
    let same : c.as_slice.result.now ≡ c.args.self.now.records = c.as_slice.ensures.value ∙ ap (λ (k : Clock). k.records) c.self.view_is in
    let tpm_is : c.ticks_per_count.result ≡ tpm c.args.self.now = c.ticks_per_count.ensures.value ∙ ap (λ (k : Clock). tpm k) c.self.view_is in
    let total_is : c.total.result ≡ total c.args.self.now = c.total.ensures.value ∙ ap (λ (k : Clock). total k) c.self.view_is in
    let read = to_z-of_z w128 c.args.time c.ranges.time in
    let force = rw read at c.in-Some.ensures.some in
    let floor = rw read at c.nearest-number.ensures in
    let time : IsFraction (units c.args.time) = record { positive = lit< tt } in
    let answer : TickOf c.args.self.now (units c.args.time) (At c.nearest-number.result) = answer_at c.args.self.now c.as_slice.result.now c.ticks_per_count.result (units c.args.time) c.in-Some.force.record c.in-Some.force.next c.nearest-number.result sound same tpm_is c.total.result total_is (rw total_is sound.clock.face.total_small) force floor (rw c.from.ensures at c.if-number-from.false) in
    λ other h. tick_is_one c.args.self.now (units c.args.time) (At c.nearest-number.result) other sound.clock time answer h
