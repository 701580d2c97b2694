-- The tests of the code find the first rule that options break.
use Rattle.std.proofs.Common.{◌≡◌, ◌≢◌, Bool, true, false, not, ◌&&◌, Option, Some, None, Err, List, [], ◌∷◌, ◌++◌, inl, inr, refl, sym, ap, ◌∙◌}
use Rattle.std.specs.Prelude.{is_some, find, ⊤}
use Rattle.std.proofs.lemmas.Bool.{cases_Bool}
use Rattle.std.proofs.lemmas.Option.{same_Some}
use Rattle.st_dates.specs.declared.system.System.{System}
use Rattle.st_dates.specs.declared.system.System.TheVariants.{Utc, Tai, Tt, Tdb, Sclk}
use Rattle.st_words.specs.Kinds.{is_type_of}
use Rattle.st_words.specs.Rules.{IsMisfit, Breaks, AreKept, FirstBroken, fault_of}
use Rattle.st_words.specs.Reading.{OptionsGive}
use Rattle.st_words.specs.RulesMachine.{is_misfit, is_clock, is_tdb, is_seconds, is_broken, fault_by, first_fault}
use Rattle.st_words.specs.declared.fault.WordFault.{WordFault}
use Rattle.st_words.specs.declared.options.Options.{Options}
use Rattle.st_words.specs.declared.rule.Rule.{Rule}
use Rattle.st_words.specs.declared.rule.Rule.TheVariants.{SetupIsThere, FromIsThere, ToIsThere, WorkIsThere, FromTypeFits, ToTypeFits, TimeOrBatch, TimeOrSample, BatchOrSample, FormatOfNoClock, FormatOrSeconds, PictureReads, BackToClock, BackFromEt, BackFromSeconds}
use Rattle.st_words.specs.declared.time_type.TimeType.{TimeType}
use Rattle.st_words.specs.declared.time_type.TimeType.TheVariants as types

-- a test tells whether a rule is broken
record Tells (test : Bool) (fact : Type 0) : Type 0 where
  broken : test ≡ true → fact
  kept : test ≡ false → fact → ⊥

apart : (b : Bool) → b ≡ true → b ≡ false → ⊥
apart b t f = let e : true ≡ false = sym t ∙ f in cc

tells_lack : (b : Bool) → Tells (not b) (b ≡ false)
tells_lack true = record { broken = λ e. absurd cc; kept = λ e f. absurd cc }
tells_lack false = record { broken = λ e. refl; kept = λ e f. absurd cc }

tells_none : (a b c : Bool) → Tells ((not a && not b) && not c) ((a ≡ false) × (b ≡ false) × (c ≡ false))
tells_none false false false = record { broken = λ e. (refl, refl, refl); kept = λ e f. absurd cc }
tells_none true b c = record { broken = λ e. absurd cc; kept = λ e f. apart true refl f.0 }
tells_none false true c = record { broken = λ e. absurd cc; kept = λ e f. apart true refl f.1 }
tells_none false false true = record { broken = λ e. absurd cc; kept = λ e f. apart true refl f.2 }

tells_both : (a b : Bool) → Tells (a && b) ((a ≡ true) × (b ≡ true))
tells_both true true = record { broken = λ e. (refl, refl); kept = λ e f. absurd cc }
tells_both false b = record { broken = λ e. absurd cc; kept = λ e f. apart false f.0 refl }
tells_both true false = record { broken = λ e. absurd cc; kept = λ e f. apart false f.1 refl }

tells_misfit : (system : Option System) (kind : Option TimeType) → Tells (is_misfit system kind) (IsMisfit system kind)
tells_misfit None kind = record { broken = λ e. absurd cc; kept = λ e f. let bad = f.2 in absurd cc }
tells_misfit (Some system) None = record { broken = λ e. absurd cc; kept = λ e f. let bad = f.3 in absurd cc }
tells_misfit (Some system) (Some kind) = by (is_type_of system kind) refl
  where
    by : (b : Bool) → is_type_of system kind ≡ b → Tells (not b) (IsMisfit (Some system) (Some kind))
    by true h = record {
      broken = λ e. absurd cc;
      kept = λ e f.
          let s : system ≡ f.0 = same_Some system f.0 f.2 in
          let k : kind ≡ f.1 = same_Some kind f.1 f.3 in
          let one : is_type_of f.0 f.1 ≡ true = ap (λ (x : System). is_type_of x f.1) (sym s) ∙ ap (λ (x : TimeType). is_type_of system x) (sym k) ∙ h in
          apart (is_type_of f.0 f.1) one f.4;
    }
    by false h = record { broken = λ e. (system, kind, refl, refl, h); kept = λ e f. absurd cc }

tells_sclk : (system : Option System) → Tells (is_clock system) (system ≡ Some Sclk)
tells_sclk None = record { broken = λ e. absurd cc; kept = λ e f. absurd cc }
tells_sclk (Some Utc) = record { broken = λ e. absurd cc; kept = λ e f. let g = same_Some Utc Sclk f in absurd cc }
tells_sclk (Some Tai) = record { broken = λ e. absurd cc; kept = λ e f. let g = same_Some Tai Sclk f in absurd cc }
tells_sclk (Some Tt) = record { broken = λ e. absurd cc; kept = λ e f. let g = same_Some Tt Sclk f in absurd cc }
tells_sclk (Some Tdb) = record { broken = λ e. absurd cc; kept = λ e f. let g = same_Some Tdb Sclk f in absurd cc }
tells_sclk (Some Sclk) = record { broken = λ e. refl; kept = λ e f. absurd cc }

tells_tdb : (system : Option System) → Tells (is_tdb system) (system ≡ Some Tdb)
tells_tdb None = record { broken = λ e. absurd cc; kept = λ e f. absurd cc }
tells_tdb (Some Utc) = record { broken = λ e. absurd cc; kept = λ e f. let g = same_Some Utc Tdb f in absurd cc }
tells_tdb (Some Tai) = record { broken = λ e. absurd cc; kept = λ e f. let g = same_Some Tai Tdb f in absurd cc }
tells_tdb (Some Tt) = record { broken = λ e. absurd cc; kept = λ e f. let g = same_Some Tt Tdb f in absurd cc }
tells_tdb (Some Sclk) = record { broken = λ e. absurd cc; kept = λ e f. let g = same_Some Sclk Tdb f in absurd cc }
tells_tdb (Some Tdb) = record { broken = λ e. refl; kept = λ e f. absurd cc }

tells_seconds : (kind : Option TimeType) → Tells (is_seconds kind) (kind ≡ Some types.Seconds)
tells_seconds None = record { broken = λ e. absurd cc; kept = λ e f. absurd cc }
tells_seconds (Some types.Scet) = record { broken = λ e. absurd cc; kept = λ e f. let g = same_Some types.Scet types.Seconds f in absurd cc }
tells_seconds (Some types.Sclk) = record { broken = λ e. absurd cc; kept = λ e f. let g = same_Some types.Sclk types.Seconds f in absurd cc }
tells_seconds (Some types.Ticks) = record { broken = λ e. absurd cc; kept = λ e f. let g = same_Some types.Ticks types.Seconds f in absurd cc }
tells_seconds (Some types.Seconds) = record { broken = λ e. refl; kept = λ e f. absurd cc }

tells_with : (a b : Bool) (fact : Type 0) → Tells b fact → Tells (a && b) ((a ≡ true) × fact)
tells_with true b fact t = record { broken = λ e. (refl, t.broken e); kept = λ e f. t.kept e f.1 }
tells_with false b fact t = record { broken = λ e. absurd cc; kept = λ e f. apart false f.0 refl }

tells_not : (b : Bool) (fact : Type 0) → Tells b fact → Tells (not b) (fact → ⊥)
tells_not true fact t = record { broken = λ e. absurd cc; kept = λ e f. f (t.broken refl) }
tells_not false fact t = record { broken = λ e. t.kept refl; kept = λ e f. absurd cc }

-- the rules that look at no picture
abbrev pub IsTested : Rule → Type 0
IsTested PictureReads = ⊥
IsTested BackFromSeconds = ⊥
IsTested rule = ⊤

tells : (o : Options) (rule : Rule) → IsTested rule → Tells (is_broken o rule) (Breaks o rule)
tells o SetupIsThere t = tells_lack (is_some o.setup)
tells o FromIsThere t = tells_lack (is_some o.from)
tells o ToIsThere t = tells_lack (is_some o.to)
tells o WorkIsThere t = tells_none (is_some o.time) o.batch (is_some o.sample)
tells o FromTypeFits t = tells_misfit o.from o.from_type
tells o ToTypeFits t = tells_misfit o.to o.to_type
tells o TimeOrBatch t = tells_both (is_some o.time) o.batch
tells o TimeOrSample t = tells_both (is_some o.time) (is_some o.sample)
tells o BatchOrSample t = tells_both o.batch (is_some o.sample)
tells o FormatOfNoClock t = tells_with (is_some o.format) (is_clock o.to) (o.to ≡ Some Sclk) (tells_sclk o.to)
tells o FormatOrSeconds t = tells_with (is_some o.format) (is_seconds o.to_type) (o.to_type ≡ Some types.Seconds) (tells_seconds o.to_type)
tells o BackToClock t = tells_with o.back (not (is_clock o.from)) (o.from ≢ Some Sclk) (tells_not (is_clock o.from) (o.from ≡ Some Sclk) (tells_sclk o.from))
tells o BackFromEt t = tells_with o.back (not (is_tdb o.to)) (o.to ≢ Some Tdb) (tells_not (is_tdb o.to) (o.to ≡ Some Tdb) (tells_tdb o.to))
tells o PictureReads t = absurd t
tells o BackFromSeconds t = absurd t

abbrev pub AreTested : List Rule → Type 0
AreTested [] = ⊤
AreTested (rule ∷ more) = IsTested rule × AreTested more

-- the first that is found is the first that is broken
pub found_first : (o : Options) (front rest : List Rule) (rule : Rule) → AreTested front → find (is_broken o) front ≡ Some rule → FirstBroken o (front ++ rest) rule
found_first o [] rest rule t e = absurd cc
found_first o (first ∷ more) rest rule t e = elim (cases_Bool (is_broken o first)) [
  | inl b ↦ inl (same_Some first rule (rw b at e), (tells o first t.0).broken b)
  | inr k ↦ inr ((tells o first t.0).kept k, found_first o more rest rule t.1 (rw k at e))
]

pub found_none : (o : Options) (front : List Rule) → AreTested front → find (is_broken o) front ≡ None → AreKept o front
found_none o [] t e = tt
found_none o (first ∷ more) t e = elim (cases_Bool (is_broken o first)) [
  | inl b ↦ absurd (let bad = rw b at e in cc)
  | inr k ↦ ((tells o first t.0).kept k, found_none o more t.1 (rw k at e))
]

pub first_behind : (o : Options) (front rest : List Rule) (rule : Rule) → AreKept o front → FirstBroken o rest rule → FirstBroken o (front ++ rest) rule
first_behind o [] rest rule k f = f
first_behind o (first ∷ more) rest rule k f = inr (k.0, first_behind o more rest rule k.1 f)

pub both_kept : (o : Options) (front rest : List Rule) → AreKept o front → AreKept o rest → AreKept o (front ++ rest)
both_kept o [] rest k r = r
both_kept o (first ∷ more) rest k r = (k.0, both_kept o more rest k.1 r)

-- no rule is broken where all are kept, and one rule is the first
pub kept_first : (o : Options) (all : List Rule) (rule : Rule) → AreKept o all → FirstBroken o all rule → ⊥
kept_first o [] rule k f = f
kept_first o (first ∷ more) rule k (inl f) = k.0 f.1
kept_first o (first ∷ more) rule k (inr f) = kept_first o more rule k.1 f.1

pub one_first : (o : Options) (all : List Rule) (a b : Rule) → FirstBroken o all a → FirstBroken o all b → a ≡ b
one_first o [] a b f g = absurd f
one_first o (first ∷ more) a b (inl f) (inl g) = sym f.0 ∙ g.0
one_first o (first ∷ more) a b (inl f) (inr g) = absurd (g.0 f.1)
one_first o (first ∷ more) a b (inr f) (inl g) = absurd (f.0 g.1)
one_first o (first ∷ more) a b (inr f) (inr g) = one_first o more a b f.1 g.1

abbrev pub before_picture : List Rule
before_picture =
    SetupIsThere ∷ FromIsThere ∷ ToIsThere ∷ WorkIsThere ∷ FromTypeFits ∷ ToTypeFits ∷ TimeOrBatch ∷ TimeOrSample ∷ BatchOrSample
    ∷ FormatOfNoClock ∷ FormatOrSeconds ∷ []

abbrev pub of_way_back : List Rule
of_way_back = BackToClock ∷ BackFromEt ∷ []

by_rule : (o : Options) (front rest : List Rule) (found : Option Rule) (fault : WordFault) → AreTested front → find (is_broken o) front ≡ found → fault_by found ≡ Some fault
    → (rule : Rule) × FirstBroken o (front ++ rest) rule × (fault_of rule ≡ Some fault)
by_rule o front rest None fault t e h = absurd cc
by_rule o front rest (Some rule) fault t e h = (rule, found_first o front rest rule t e, h)

pub front_refuses : (o : Options) (fault : WordFault) → first_fault o before_picture ≡ Some fault → OptionsGive o (Err fault)
front_refuses o fault e =
    let r = by_rule o before_picture (PictureReads ∷ BackToClock ∷ BackFromEt ∷ BackFromSeconds ∷ []) (find (is_broken o) before_picture) fault tt' refl e in
    (r.0, r.1, inl r.2)
  where
    tt' : AreTested before_picture
    tt' = (tt, (tt, (tt, (tt, (tt, (tt, (tt, (tt, (tt, (tt, (tt, tt)))))))))))

-- rules of which each has a fault of its own
abbrev HaveFaults : List Rule → Type 0
HaveFaults [] = ⊤
HaveFaults (rule ∷ more) = ((fault : WordFault) × (fault_of rule ≡ Some fault)) × HaveFaults more

no_fault : (o : Options) (front : List Rule) → HaveFaults front → first_fault o front ≡ None → find (is_broken o) front ≡ None
no_fault o [] h e = refl
no_fault o (first ∷ more) h e = elim (cases_Bool (is_broken o first)) [
  | inl b ↦
      let bad : Some (h.0).0 ≡ None = sym (h.0).1 ∙ (rw b at e) in
      absurd cc
  | inr k ↦ rw k (no_fault o more h.1 (rw k at e))
]

pub front_kept : (o : Options) → first_fault o before_picture ≡ None → AreKept o before_picture
front_kept o e = found_none o before_picture (tt, (tt, (tt, (tt, (tt, (tt, (tt, (tt, (tt, (tt, (tt, tt))))))))))) (no_fault o before_picture faults e)
  where
    faults : HaveFaults before_picture
    faults = ((_, refl), ((_, refl), ((_, refl), ((_, refl), ((_, refl), ((_, refl), ((_, refl), ((_, refl), ((_, refl), ((_, refl), ((_, refl), tt)))))))))))

pub back_kept : (o : Options) → first_fault o of_way_back ≡ None → AreKept o of_way_back
back_kept o e = found_none o of_way_back (tt, (tt, tt)) (no_fault o of_way_back ((_, refl), ((_, refl), tt)) e)

pub back_refuses : (o : Options) (fault : WordFault) → AreKept o (before_picture ++ (PictureReads ∷ [])) → first_fault o of_way_back ≡ Some fault → OptionsGive o (Err fault)
back_refuses o fault k e =
    let r = by_rule o of_way_back (BackFromSeconds ∷ []) (find (is_broken o) of_way_back) fault (tt, (tt, tt)) refl e in
    (r.0, first_behind o (before_picture ++ (PictureReads ∷ [])) (of_way_back ++ (BackFromSeconds ∷ [])) r.0 k r.1, inl r.2)
