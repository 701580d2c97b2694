-- A job of the words is one that a session can be opened for.
use Rattle.std.proofs.Common.{◌≡◌, ◌≢◌, ℕ, true, Option, Some, None, Ok, List, [], ◌∷◌, inl, inr, refl, sym, ap, ◌∙◌, subst}
use Rattle.std.specs.Prelude.{⊤}
use Rattle.std.proofs.lemmas.Bool.{cases_Bool}
use Rattle.std.proofs.lemmas.Option.{same_Some}
use Rattle.st_dates.specs.declared.system.System.{System}
use Rattle.st_dates.specs.declared.system.System.TheVariants.{Utc, Tai, Tt, Tdb, Sclk}
use Rattle.st_picture.specs.Reading.{IsSecondsAlone}
use Rattle.st_picture.specs.ReadingMachine.{are_seconds_alone}
use Rattle.st_picture.proofs.AloneLaws.{tells_alone}
use Rattle.st_picture.proofs.RuleLaws.{told_not}
use Rattle.st_words.specs.Cut.{has, with_choice, Standing, start_of, Reads}
use Rattle.st_words.specs.Job.{IsShape, IsWork, IsWorkInRange, IsAskedFor, IsTypeGiven, IsTarget, IsWayBack, IsClock, IsGoodJob}
use Rattle.st_words.specs.Kinds.{is_type_of, to_type, default_picture}
use Rattle.st_words.specs.Reading.{AskFor, WordsGive}
use Rattle.st_words.specs.Rules.{IsMisfit, Breaks}
use Rattle.st_words.specs.Values.{IsName, Spells}
use Rattle.st_words.specs.declared.choice.Choice.{Choice}
use Rattle.st_words.specs.declared.choice.Choice.TheVariants as choices
use Rattle.st_words.specs.declared.job.Job.{Job}
use Rattle.st_words.specs.declared.job.ToKind.{ToKind}
use Rattle.st_words.specs.declared.job.ToKind.TheVariants.{Pictured, Clock, Ticks}
use Rattle.st_words.specs.declared.job.Work.{Work}
use Rattle.st_words.specs.declared.job.Work.TheVariants as works
use Rattle.st_words.specs.declared.opt.Opt.TheVariants as opts
use Rattle.st_words.specs.declared.options.Options.{Options}
use Rattle.st_words.specs.declared.rule.Rule.TheVariants.{BackToClock, BackFromEt, BackFromSeconds}
use Rattle.st_words.specs.declared.time_type.TimeType.{TimeType}
use Rattle.st_words.specs.declared.time_type.TimeType.TheVariants as types
use Rattle.st_words.proofs.JobLaws.{et_pictured}

-- the values that have a range lie in it
abbrev IsNameIn : Option (List ℕ) → Type 0
IsNameIn None = ⊤
IsNameIn (Some name) = IsName name

abbrev IsSampleIn : Option (ℕ × ℕ) → Type 0
IsSampleIn None = ⊤
IsSampleIn (Some sample) = IsWorkInRange (works.Sample sample.0 sample.1)

record AreInRange (o : Options) : Type 0 where
  setup : IsNameIn o.setup
  clock : IsClock o.clock
  sample : IsSampleIn o.sample

range_more : (o : Options) (choice : Choice) (words : List (List ℕ)) → Spells choice words → AreInRange o → AreInRange (with_choice o choice)
range_more o (choices.Setup name) words s r = record { setup = s.1; clock = r.clock; sample = r.sample }
range_more o (choices.From system) words s r = record { setup = r.setup; clock = r.clock; sample = r.sample }
range_more o (choices.FromType kind) words s r = record { setup = r.setup; clock = r.clock; sample = r.sample }
range_more o (choices.To system) words s r = record { setup = r.setup; clock = r.clock; sample = r.sample }
range_more o (choices.ToType kind) words s r = record { setup = r.setup; clock = r.clock; sample = r.sample }
range_more o (choices.Format text) words s r = record { setup = r.setup; clock = r.clock; sample = r.sample }
range_more o (choices.Time text) words s r = record { setup = r.setup; clock = r.clock; sample = r.sample }
range_more o choices.Batch words s r = record { setup = r.setup; clock = r.clock; sample = r.sample }
range_more o (choices.Sample lines seed) words s r = record { setup = r.setup; clock = r.clock; sample = (s.3.at_least, s.3.at_most, s.4.at_most) }
range_more o (choices.Sc clock) words s r = record { setup = r.setup; clock = (s.2.number.at_least, s.2.number.at_most); sample = r.sample }
range_more o choices.Back words s r = record { setup = r.setup; clock = r.clock; sample = r.sample }

range_kept : (from end : Standing) (all : List Choice) → Reads from all end → AreInRange from.asked → AreInRange end.asked
range_kept from end [] r h = let P : Standing → Type 0 = λ s. AreInRange s.asked in subst P r h
range_kept from end (choice ∷ more) r h =
    let t = r.1 in
    range_kept r.0 end more r.2 (subst AreInRange (sym t.asked) (range_more from.asked choice t.values t.spelled h))

asked_in_range : (words : List (List ℕ)) (o : Options) → AskFor words o → AreInRange o
asked_in_range words o a = subst AreInRange a.asked (range_kept (start_of words) a.end a.choices a.reads (record { setup = tt; clock = tt; sample = tt }))

fits_given : (system : System) (given : Option TimeType) → (IsMisfit (Some system) given → ⊥) → IsTypeGiven system given
fits_given system None h = tt
fits_given system (Some kind) h = elim (cases_Bool (is_type_of system kind)) [
  | inl t ↦ t
  | inr f ↦ absurd (h (system, kind, refl, refl, f))
]

target_type : (system : System) (given : Option TimeType) → IsTypeGiven system given → is_type_of system (to_type system given) ≡ true
target_type system (Some kind) h = h
target_type Utc None h = refl
target_type Tai None h = refl
target_type Tt None h = refl
target_type Tdb None h = refl
target_type Sclk None h = refl

clock_type : (system : System) → is_type_of system types.Sclk ≡ true → system ≡ Sclk
clock_type Utc h = absurd cc
clock_type Tai h = absurd cc
clock_type Tt h = absurd cc
clock_type Tdb h = absurd cc
clock_type Sclk h = refl

ticks_type : (system : System) → is_type_of system types.Ticks ≡ true → system ≡ Sclk
ticks_type Utc h = absurd cc
ticks_type Tai h = absurd cc
ticks_type Tt h = absurd cc
ticks_type Tdb h = absurd cc
ticks_type Sclk h = refl

clock_unpictured : (kind : TimeType) (text : List ℕ) → is_type_of Sclk kind ≡ true → default_picture kind ≡ Some text → ⊥
clock_unpictured types.Scet text h e = absurd cc
clock_unpictured types.Seconds text h e = absurd cc
clock_unpictured types.Sclk text h e = absurd cc
clock_unpictured types.Ticks text h e = absurd cc

good_target : (o : Options) (system : System) (shape : ToKind) → is_type_of system (to_type system o.to_type) ≡ true → IsShape o system shape → IsTarget system shape
good_target o system Clock t w =
    let P : TimeType → Type 0 = λ k. is_type_of system k ≡ true in
    is_clock system (clock_type system (subst P w t))
  where
    is_clock : (s : System) → s ≡ Sclk → IsTarget s Clock
    is_clock Utc e = e
    is_clock Tai e = e
    is_clock Tt e = e
    is_clock Tdb e = e
    is_clock Sclk e = e
good_target o system Ticks t w =
    let P : TimeType → Type 0 = λ k. is_type_of system k ≡ true in
    is_clock system (ticks_type system (subst P w t))
  where
    is_clock : (s : System) → s ≡ Sclk → IsTarget s Ticks
    is_clock Utc e = e
    is_clock Tai e = e
    is_clock Tt e = e
    is_clock Tdb e = e
    is_clock Sclk e = e
good_target o Sclk (Pictured picture) t w = clock_unpictured (to_type Sclk o.to_type) w.1.default t w.1.pictured
good_target o Utc (Pictured picture) t w = (w.0, w.2)
good_target o Tai (Pictured picture) t w = (w.0, w.2)
good_target o Tt (Pictured picture) t w = (w.0, w.2)
good_target o Tdb (Pictured picture) t w = (w.0, w.2)

is_sclk : (system : System) → ((Some system ≢ Some Sclk) → ⊥) → system ≡ Sclk
is_sclk Utc h = absurd (h (λ e. let bad = same_Some Utc Sclk e in cc))
is_sclk Tai h = absurd (h (λ e. let bad = same_Some Tai Sclk e in cc))
is_sclk Tt h = absurd (h (λ e. let bad = same_Some Tt Sclk e in cc))
is_sclk Tdb h = absurd (h (λ e. let bad = same_Some Tdb Sclk e in cc))
is_sclk Sclk h = refl

is_tdb : (system : System) → ((Some system ≢ Some Tdb) → ⊥) → system ≡ Tdb
is_tdb Utc h = absurd (h (λ e. let bad = same_Some Utc Tdb e in cc))
is_tdb Tai h = absurd (h (λ e. let bad = same_Some Tai Tdb e in cc))
is_tdb Tt h = absurd (h (λ e. let bad = same_Some Tt Tdb e in cc))
is_tdb Tdb h = refl
is_tdb Sclk h = absurd (h (λ e. let bad = same_Some Sclk Tdb e in cc))

-- the rules of the way back
record KeepsBack (o : Options) : Type 0 where
  to_clock : Breaks o BackToClock → ⊥
  from_et : Breaks o BackFromEt → ⊥
  seconds : Breaks o BackFromSeconds → ⊥

good_back : (o : Options) (job : Job) → KeepsBack o → (IsMisfit o.to o.to_type → ⊥) → IsAskedFor o job → job.back ≡ true → IsWayBack job
good_back o job k fits a e =
    let asked : has o opts.Back ≡ true = sym a.back ∙ e in
    let from : job.from ≡ Sclk = is_sclk job.from (λ h. k.to_clock (asked, λ g. h (sym a.from ∙ g))) in
    let to : job.to ≡ Tdb = is_tdb job.to (λ h. k.from_et (asked, λ g. h (sym a.to ∙ g))) in
    let some : System → Option System = λ s. Some s in
    let target : o.to ≡ Some Tdb = a.to ∙ ap some to in
    let P : System → Type 0 = λ s. IsShape o s job.shape in
    let Q : Option System → Type 0 = λ s. IsMisfit s o.to_type → ⊥ in
    let shown = et_pictured o job.shape o.to_type refl (subst Q target fits) (subst P to a.shape) in
    let R : ToKind → Type 0 = λ w. IsShape o Tdb w in
    let written = subst R shown.1 (subst P to a.shape) in
    elim (cases_Bool (are_seconds_alone shown.0.pieces)) [
      | inl t ↦ record { from = from; to = to; picture = shown.0; shape = shown.1; alone = (tells_alone shown.0.pieces).is t }
      | inr f ↦
          absurd (k.seconds (
            asked,
            (
              Tdb,
              written.0,
              shown.0,
              written.1,
              written.2,
              told_not (are_seconds_alone shown.0.pieces) (IsSecondsAlone shown.0.pieces) (tells_alone shown.0.pieces) f,
            ),
          ))
    ]

work_in_range : (o : Options) (work : Work) → AreInRange o → IsWork o work → IsWorkInRange work
work_in_range o (works.Time text) r w = tt
work_in_range o works.Batch r w = tt
work_in_range o (works.Sample lines seed) r w = subst IsSampleIn w r.sample

pub good_job : (words : List (List ℕ)) (job : Job) → WordsGive words (Ok job) → IsGoodJob job
good_job words job h =
    let o = h.0 in
    let a = (h.2).1 in
    let kept = (h.2).0 in
    let r = asked_in_range words o h.1 in
    let from_fits = ((((kept.1).1).1).1).0 in
    let to_fits = (((((kept.1).1).1).1).1).0 in
    let behind = (((((((((((kept.1).1).1).1).1).1).1).1).1).1).1).1 in
    let Q : Option System → Type 0 = λ s. IsMisfit s o.from_type → ⊥ in
    let R : Option System → Type 0 = λ s. IsMisfit s o.to_type → ⊥ in
    record {
      setup = subst IsNameIn a.setup r.setup;
      source = (o.from_type, fits_given job.from o.from_type (subst Q a.from from_fits), a.form);
      target = good_target o job.to job.shape (target_type job.to o.to_type (fits_given job.to o.to_type (subst R a.to to_fits))) a.shape;
      clock = subst IsClock (sym a.clock) r.clock;
      work = work_in_range o job.work r a.work;
      back = good_back o job (record { to_clock = behind.0; from_et = (behind.1).0; seconds = ((behind.1).1).0 }) to_fits a;
    }
