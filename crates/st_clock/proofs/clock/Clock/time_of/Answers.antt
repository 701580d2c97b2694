use Rattle.std.proofs.Common.{◌≡◌, ◌∙◌, Bool, true, false, ap, subst, Ok, Err, FitsSigned, arith}
use Rattle.std.specs.Int.{w128}
use Rattle.std.proofs.lemmas.Int.{ints, to_z-of_z}
use Rattle.st_clock.specs.declared.point.ClockRange.TheVariants.{Before, OutOfRange}
use Rattle.st_clock.specs.Clock.{Clock, tpm, StartsBy}
use Rattle.st_clock.specs.KeptSteps.{IsSound}
use Rattle.st_clock.specs.Time.{GivesTime}
use Rattle.st_clock.proofs.Answered.{rising_of, force_rate, force_small, answer_time, answer_outside, answer_behind, answer_no_record, time_answer_is_one}
use Rattle.st_clock.proofs.Faces.{tpm_some}
use Rattle.st_clock.proofs.clock.Clock.time_of.Goals as goal

never_both : (b : Bool) → b ≡ true → b ≡ false → ⊥
never_both b t f = cc

pub at_tick-requires : goal.at_tick-requires
at_tick-requires c =
    let sound : IsSound c.args.self.now = subst IsSound c.self.view_is c.self.invariant in
    let same : c.as_slice.result.now ≡ c.args.self.now.records = c.as_slice.ensures.value ∙ ap (λ (k : Clock). k.records) c.self.view_is in
    rising_of c.args.self.now c.as_slice.result.now sound same

pub returns-in_default-clause-gives : goal.returns-in_default-clause-gives
returns-in_default-clause-gives c =
    let same : c.as_slice.result.now ≡ c.args.self.now.records = c.as_slice.ensures.value ∙ ap (λ (k : Clock). k.records) c.self.view_is in
    let answer : GivesTime c.args.self.now c.args.ticks (Err Before) = answer_no_record c.args.self.now c.as_slice.result.now c.args.ticks same c.in_default.ensures.none in
    answer

pub returns-in_default-clause-only : goal.returns-in_default-clause-only
returns-in_default-clause-only c =
    let sound : IsSound c.args.self.now = subst IsSound c.self.view_is c.self.invariant in
    let same : c.as_slice.result.now ≡ c.args.self.now.records = c.as_slice.ensures.value ∙ ap (λ (k : Clock). k.records) c.self.view_is in
    let answer : GivesTime c.args.self.now c.args.ticks (Err Before) = answer_no_record c.args.self.now c.as_slice.result.now c.args.ticks same c.in_default.ensures.none in
    λ other h. time_answer_is_one c.args.self.now c.args.ticks (Err Before) other sound.clock answer h

pub line_time-requires-clause-tpm_some : goal.line_time-requires-clause-tpm_some
line_time-requires-clause-tpm_some c =
    let sound : IsSound c.args.self.now = subst IsSound c.self.view_is c.self.invariant in
    let tpm_is : c.ticks_per_count.result ≡ tpm c.args.self.now = c.ticks_per_count.ensures.value ∙ ap (λ (k : Clock). tpm k) c.self.view_is in
    rw tpm_is (tpm_some c.args.self.now sound.clock)

pub line_time-requires-clause-rate : goal.line_time-requires-clause-rate
line_time-requires-clause-rate c =
    let sound : IsSound c.args.self.now = subst IsSound c.self.view_is c.self.invariant in
    let same : c.as_slice.result.now ≡ c.args.self.now.records = c.as_slice.ensures.value ∙ ap (λ (k : Clock). k.records) c.self.view_is in
    let force = c.in-Some.ensures.some in
    force_rate (StartsBy c.args.ticks) c.args.self.now c.as_slice.result.now c.in-Some.force.record c.in-Some.force.next sound same force

pub line_time-requires-clause-record_small : goal.line_time-requires-clause-record_small
line_time-requires-clause-record_small c =
    let sound : IsSound c.args.self.now = subst IsSound c.self.view_is c.self.invariant in
    let same : c.as_slice.result.now ≡ c.args.self.now.records = c.as_slice.ensures.value ∙ ap (λ (k : Clock). k.records) c.self.view_is in
    let force = c.in-Some.ensures.some in
    force_small (StartsBy c.args.ticks) c.args.self.now c.as_slice.result.now c.in-Some.force.record c.in-Some.force.next sound same force

pub returns-in_default-line_time-clause-gives : goal.returns-in_default-line_time-clause-gives
returns-in_default-line_time-clause-gives c =
    let sound : IsSound c.args.self.now = subst IsSound c.self.view_is c.self.invariant in
    let same : c.as_slice.result.now ≡ c.args.self.now.records = c.as_slice.ensures.value ∙ ap (λ (k : Clock). k.records) c.self.view_is in
    let tpm_is : c.ticks_per_count.result ≡ tpm c.args.self.now = c.ticks_per_count.ensures.value ∙ ap (λ (k : Clock). tpm k) c.self.view_is in
    let force = c.in-Some.ensures.some in
    let answer : GivesTime c.args.self.now c.args.ticks (Err OutOfRange) = answer_behind c.args.self.now c.as_slice.result.now c.ticks_per_count.result c.args.ticks c.in-Some.force.record c.in-Some.force.next same tpm_is (rw tpm_is (tpm_some c.args.self.now sound.clock)) force c.in_default-line_time.ensures.none in
    answer

pub returns-in_default-line_time-clause-only : goal.returns-in_default-line_time-clause-only
returns-in_default-line_time-clause-only c =
    let sound : IsSound c.args.self.now = subst IsSound c.self.view_is c.self.invariant in
    let same : c.as_slice.result.now ≡ c.args.self.now.records = c.as_slice.ensures.value ∙ ap (λ (k : Clock). k.records) c.self.view_is in
    let tpm_is : c.ticks_per_count.result ≡ tpm c.args.self.now = c.ticks_per_count.ensures.value ∙ ap (λ (k : Clock). tpm k) c.self.view_is in
    let force = c.in-Some.ensures.some in
    let answer : GivesTime c.args.self.now c.args.ticks (Err OutOfRange) = answer_behind c.args.self.now c.as_slice.result.now c.ticks_per_count.result c.args.ticks c.in-Some.force.record c.in-Some.force.next same tpm_is (rw tpm_is (tpm_some c.args.self.now sound.clock)) force c.in_default-line_time.ensures.none in
    λ other h. time_answer_is_one c.args.self.now c.args.ticks (Err OutOfRange) other sound.clock answer h

pub returns-then-is_in_range-clause-gives : goal.returns-then-is_in_range-clause-gives
returns-then-is_in_range-clause-gives c =
    let same : c.as_slice.result.now ≡ c.args.self.now.records = c.as_slice.ensures.value ∙ ap (λ (k : Clock). k.records) c.self.view_is in
    let tpm_is : c.ticks_per_count.result ≡ tpm c.args.self.now = c.ticks_per_count.ensures.value ∙ ap (λ (k : Clock). tpm k) c.self.view_is in
    let force = c.in-Some.ensures.some in
    let found = c.in-Some-line_time.ensures in
    let fits : FitsSigned w128 c.in-Some-line_time.p.units = omega (arith, ints, found.small) in
    let read = to_z-of_z w128 c.in-Some-line_time.p.units fits in
    let answer : GivesTime c.args.self.now c.args.ticks (Ok c.in-Some-line_time.p) = answer_time c.args.self.now c.as_slice.result.now c.ticks_per_count.result c.args.ticks c.in-Some.force.record c.in-Some.force.next c.in-Some-line_time.p same tpm_is force found.some found.part found.of (rw read at (c.is_in_range.ensures.0 c.if-is_in_range.true)) in
    answer

pub returns-then-is_in_range-clause-only : goal.returns-then-is_in_range-clause-only
returns-then-is_in_range-clause-only c =
    let sound : IsSound c.args.self.now = subst IsSound c.self.view_is c.self.invariant in
    let same : c.as_slice.result.now ≡ c.args.self.now.records = c.as_slice.ensures.value ∙ ap (λ (k : Clock). k.records) c.self.view_is in
    let tpm_is : c.ticks_per_count.result ≡ tpm c.args.self.now = c.ticks_per_count.ensures.value ∙ ap (λ (k : Clock). tpm k) c.self.view_is in
    let force = c.in-Some.ensures.some in
    let found = c.in-Some-line_time.ensures in
    let fits : FitsSigned w128 c.in-Some-line_time.p.units = omega (arith, ints, found.small) in
    let read = to_z-of_z w128 c.in-Some-line_time.p.units fits in
    let answer : GivesTime c.args.self.now c.args.ticks (Ok c.in-Some-line_time.p) = answer_time c.args.self.now c.as_slice.result.now c.ticks_per_count.result c.args.ticks c.in-Some.force.record c.in-Some.force.next c.in-Some-line_time.p same tpm_is force found.some found.part found.of (rw read at (c.is_in_range.ensures.0 c.if-is_in_range.true)) in
    λ other h. time_answer_is_one c.args.self.now c.args.ticks (Ok c.in-Some-line_time.p) other sound.clock answer h

pub returns-else-is_in_range-clause-gives : goal.returns-else-is_in_range-clause-gives
returns-else-is_in_range-clause-gives c =
    let same : c.as_slice.result.now ≡ c.args.self.now.records = c.as_slice.ensures.value ∙ ap (λ (k : Clock). k.records) c.self.view_is in
    let tpm_is : c.ticks_per_count.result ≡ tpm c.args.self.now = c.ticks_per_count.ensures.value ∙ ap (λ (k : Clock). tpm k) c.self.view_is in
    let force = c.in-Some.ensures.some in
    let found = c.in-Some-line_time.ensures in
    let fits : FitsSigned w128 c.in-Some-line_time.p.units = omega (arith, ints, found.small) in
    let read = to_z-of_z w128 c.in-Some-line_time.p.units fits in
    let answer : GivesTime c.args.self.now c.args.ticks (Err OutOfRange) = answer_outside c.args.self.now c.as_slice.result.now c.ticks_per_count.result c.args.ticks c.in-Some.force.record c.in-Some.force.next c.in-Some-line_time.p same tpm_is force found.some found.part (λ r. never_both c.is_in_range.result ((rw read at c.is_in_range.ensures.1) r) c.if-is_in_range.false) in
    answer

pub returns-else-is_in_range-clause-only : goal.returns-else-is_in_range-clause-only
returns-else-is_in_range-clause-only c =
    let sound : IsSound c.args.self.now = subst IsSound c.self.view_is c.self.invariant in
    let same : c.as_slice.result.now ≡ c.args.self.now.records = c.as_slice.ensures.value ∙ ap (λ (k : Clock). k.records) c.self.view_is in
    let tpm_is : c.ticks_per_count.result ≡ tpm c.args.self.now = c.ticks_per_count.ensures.value ∙ ap (λ (k : Clock). tpm k) c.self.view_is in
    let force = c.in-Some.ensures.some in
    let found = c.in-Some-line_time.ensures in
    let fits : FitsSigned w128 c.in-Some-line_time.p.units = omega (arith, ints, found.small) in
    let read = to_z-of_z w128 c.in-Some-line_time.p.units fits in
    let answer : GivesTime c.args.self.now c.args.ticks (Err OutOfRange) = answer_outside c.args.self.now c.as_slice.result.now c.ticks_per_count.result c.args.ticks c.in-Some.force.record c.in-Some.force.next c.in-Some-line_time.p same tpm_is force found.some found.part (λ r. never_both c.is_in_range.result ((rw read at c.is_in_range.ensures.1) r) c.if-is_in_range.false) in
    λ other h. time_answer_is_one c.args.self.now c.args.ticks (Err OutOfRange) other sound.clock answer h
