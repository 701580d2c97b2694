-- What the tests of the rules leave is the job that the options ask for.
use Rattle.std.proofs.Common.{◌≡◌, ◌≢◌, ℕ, Bool, true, false, not, Option, Some, None, Result, Ok, Err, List, [], ◌∷◌, ◌++◌, inl, inr, refl, sym, ap, ◌∙◌, subst}
use Rattle.std.specs.Prelude.{is_some, unwrap_or}
use Rattle.std.proofs.lemmas.Option.{same_Some}
use Rattle.st_dates.specs.declared.system.System.{System}
use Rattle.st_dates.specs.declared.system.System.TheVariants.{Utc, Tai, Tt, Tdb, Sclk}
use Rattle.st_picture.specs.Picture.{Picture}
use Rattle.st_picture.specs.Reading.{ReadsPicture, IsSecondsAlone, Agree}
use Rattle.st_picture.specs.declared.fault.PictureFault.{PictureFault}
use Rattle.st_picture.specs.declared.fault.PictureFault.TheVariants.{TooLong, BadByte, LeftOutMark, StrayHash, TooManyPlaces, Empty, MixedForms, CountInUtc, WrongSystem, NoUnit, OutOfMemory}
use Rattle.st_picture.proofs.OneAnswer.{one_reading}
use Rattle.st_words.specs.Cut.{has}
use Rattle.st_words.specs.Job.{IsWork, IsShape}
use Rattle.st_words.specs.JobSteps.{Keeps}
use Rattle.st_words.specs.Kinds.{from_kind, to_type, default_picture}
use Rattle.st_words.specs.Reading.{OptionsGive}
use Rattle.st_words.specs.Rules.{IsMisfit, IsPictured, RefusesPicture, PrintsMore, Breaks, AreKept}
use Rattle.st_words.specs.RulesMachine.{work_of, word_fault}
use Rattle.st_words.specs.declared.fault.WordFault.{WordFault}
use Rattle.st_words.specs.declared.fault.WordFault.TheVariants as faults
use Rattle.st_words.specs.declared.job.Job.{Job}
use Rattle.st_words.specs.declared.job.ToKind.{ToKind}
use Rattle.st_words.specs.declared.job.ToKind.TheVariants.{Pictured, Clock, Ticks}
use Rattle.st_words.specs.declared.job.Work.{Work}
use Rattle.st_words.specs.declared.opt.Opt.TheVariants as opts
use Rattle.st_words.specs.declared.options.Options.{Options}
use Rattle.st_words.specs.declared.rule.Rule.TheVariants.{ToTypeFits, PictureReads, BackToClock, BackFromEt, BackFromSeconds}
use Rattle.st_words.specs.declared.time_type.TimeType.{TimeType}
use Rattle.st_words.specs.declared.time_type.TimeType.TheVariants as types
use Rattle.st_words.proofs.RuleLaws.{before_picture, of_way_back, first_behind, both_kept}

pub not_true : (b : Bool) → not b ≡ true → b ≡ false
not_true true e = absurd cc
not_true false e = refl

-- a picture that is refused names its fault
pub refused : (fault : PictureFault) → word_fault fault ≢ faults.OutOfMemory → (fault ≢ OutOfMemory) × (word_fault fault ≡ faults.BadPicture fault)
refused TooLong h = ((λ e. absurd cc), refl)
refused (BadByte i) h = ((λ e. absurd cc), refl)
refused LeftOutMark h = ((λ e. absurd cc), refl)
refused StrayHash h = ((λ e. absurd cc), refl)
refused TooManyPlaces h = ((λ e. absurd cc), refl)
refused Empty h = ((λ e. absurd cc), refl)
refused MixedForms h = ((λ e. absurd cc), refl)
refused CountInUtc h = ((λ e. absurd cc), refl)
refused WrongSystem h = ((λ e. absurd cc), refl)
refused NoUnit h = ((λ e. absurd cc), refl)
refused OutOfMemory h = absurd (h refl)

pub picture_refuses : (o : Options) (system : System) (text : List ℕ) (refusal : PictureFault) (fault : WordFault) → IsPictured o system text
    → ReadsPicture system text (Err refusal) → fault ≡ word_fault refusal → fault ≢ faults.OutOfMemory
    → (f : PictureFault) × RefusesPicture o f × (fault ≡ faults.BadPicture f)
picture_refuses o system text refusal fault p r e h =
    let named = refused refusal (λ bad. h (e ∙ bad)) in
    (refusal, (system, text, p, r, named.0), e ∙ named.1)

-- the picture in force is one
pub one_pictured : (o : Options) (s t : System) (a b : List ℕ) → IsPictured o s a → IsPictured o t b → (s ≡ t) × (a ≡ b)
one_pictured o s t a b h k =
    let system : s ≡ t = same_Some s t (sym h.to ∙ k.to) in
    let P : System → Type 0 = λ x. default_picture (to_type x o.to_type) ≡ Some h.default in
    let default : h.default ≡ k.default = same_Some h.default k.default (sym (subst P system h.pictured) ∙ k.pictured) in
    (system, h.text_is ∙ ap (λ (d : List ℕ). unwrap_or o.format d) default ∙ sym k.text_is)

abbrev picture_in : Picture → Result Picture PictureFault → Picture
picture_in d (Ok x) = x
picture_in d (Err f) = d

abbrev refusal_in : Result Picture PictureFault → PictureFault
refusal_in (Ok x) = OutOfMemory
refusal_in (Err f) = f

pub one_picture : (system : System) (text : List ℕ) (p q : Picture) → ReadsPicture system text (Ok p) → ReadsPicture system text (Ok q) → p ≡ q
one_picture system text p q h k = by (one_reading system text (Ok p) (Ok q) h k)
  where
    by : Agree (Ok p) (Ok q) → p ≡ q
    by (inl e) = absurd cc
    by (inr (inl e)) = absurd cc
    by (inr (inr e)) = ap (picture_in p) e

pub no_refusal : (system : System) (text : List ℕ) (p : Picture) (fault : PictureFault) → ReadsPicture system text (Ok p) → ReadsPicture system text (Err fault)
    → fault ≢ OutOfMemory → ⊥
no_refusal system text p fault h k known = by (one_reading system text (Ok p) (Err fault) h k)
  where
    by : Agree (Ok p) (Err fault) → ⊥
    by (inl e) = absurd cc
    by (inr (inl e)) = known (ap refusal_in e)
    by (inr (inr e)) = absurd cc

-- a clock has no picture
pub no_picture : (o : Options) (s t : System) (text : List ℕ) (kind : TimeType) → o.to ≡ Some s → to_type s o.to_type ≡ kind → default_picture kind ≡ None
    → IsPictured o t text → ⊥
no_picture o s t text kind to is none p =
    let system : s ≡ t = same_Some s t (sym to ∙ p.to) in
    let P : System → Type 0 = λ x. default_picture (to_type x o.to_type) ≡ None in
    let bad : default_picture (to_type t o.to_type) ≡ None = subst P system (ap default_picture is ∙ none) in
    let both : Some p.default ≡ None = sym p.pictured ∙ bad in
    absurd cc

pub picture_kept : (o : Options) (system : System) (shape : ToKind) → o.to ≡ Some system → IsShape o system shape → Breaks o PictureReads → ⊥
picture_kept o system Clock to w b = no_picture o system (b.1).0 (b.1).1 types.Sclk to w refl (b.1).2
picture_kept o system Ticks to w b = no_picture o system (b.1).0 (b.1).1 types.Ticks to w refl (b.1).2
picture_kept o system (Pictured picture) to w b =
    let refusal = b.1 in
    let one = one_pictured o (refusal.0) system (refusal.1) w.0 refusal.2 w.1 in
    let P : System → Type 0 = λ s. ReadsPicture s refusal.1 (Err b.0) in
    let Q : List ℕ → Type 0 = λ t. ReadsPicture system t (Err b.0) in
    no_refusal system w.0 picture b.0 w.2 (subst Q one.1 (subst P one.0 refusal.3)) refusal.4

-- a target in ET that fits has a picture
pub et_pictured : (o : Options) (shape : ToKind) (kind : Option TimeType) → o.to_type ≡ kind → (IsMisfit (Some Tdb) kind → ⊥) → IsShape o Tdb shape
    → (picture : Picture) × (shape ≡ Pictured picture)
et_pictured o (Pictured picture) kind e fits w = (picture, refl)
et_pictured o Clock None e fits w = let bad : to_type Tdb None ≡ types.Sclk = ap (λ (k : Option TimeType). to_type Tdb k) (sym e) ∙ w in absurd cc
et_pictured o Ticks None e fits w = let bad : to_type Tdb None ≡ types.Ticks = ap (λ (k : Option TimeType). to_type Tdb k) (sym e) ∙ w in absurd cc
et_pictured o Clock (Some types.Scet) e fits w = let bad : types.Scet ≡ types.Sclk = ap (λ (k : Option TimeType). to_type Tdb k) (sym e) ∙ w in absurd cc
et_pictured o Ticks (Some types.Scet) e fits w = let bad : types.Scet ≡ types.Ticks = ap (λ (k : Option TimeType). to_type Tdb k) (sym e) ∙ w in absurd cc
et_pictured o Clock (Some types.Seconds) e fits w = let bad : types.Seconds ≡ types.Sclk = ap (λ (k : Option TimeType). to_type Tdb k) (sym e) ∙ w in absurd cc
et_pictured o Ticks (Some types.Seconds) e fits w = let bad : types.Seconds ≡ types.Ticks = ap (λ (k : Option TimeType). to_type Tdb k) (sym e) ∙ w in absurd cc
et_pictured o Clock (Some types.Sclk) e fits w = absurd (fits (Tdb, types.Sclk, refl, refl, refl))
et_pictured o Ticks (Some types.Sclk) e fits w = absurd (fits (Tdb, types.Sclk, refl, refl, refl))
et_pictured o Clock (Some types.Ticks) e fits w = absurd (fits (Tdb, types.Ticks, refl, refl, refl))
et_pictured o Ticks (Some types.Ticks) e fits w = absurd (fits (Tdb, types.Ticks, refl, refl, refl))

-- a way back that is printed by seconds alone
pub back_kept_alone : (o : Options) (system : System) (shape : ToKind) → o.to ≡ Some system → IsShape o system shape
    → (has o opts.Back ≡ true → (picture : Picture) × (shape ≡ Pictured picture) × IsSecondsAlone picture.pieces) → Breaks o BackFromSeconds → ⊥
back_kept_alone o system shape to w alone b =
    let a = alone b.0 in
    let more = b.1 in
    let P : ToKind → Type 0 = λ k. IsShape o system k in
    let shown = subst P a.1 w in
    let one = one_pictured o more.0 system more.1 shown.0 more.3 shown.1 in
    let Q : System → Type 0 = λ s. ReadsPicture s more.1 (Ok more.2) in
    let R : List ℕ → Type 0 = λ t. ReadsPicture system t (Ok more.2) in
    let same : more.2 ≡ a.0 = one_picture system shown.0 more.2 a.0 (subst R one.1 (subst Q one.0 more.4)) shown.2 in
    more.5 (ap' same a.2)
  where
    ap' : {p q : Picture} → p ≡ q → IsSecondsAlone q.pieces → IsSecondsAlone p.pieces
    ap' e h = let S : Picture → Type 0 = λ x. IsSecondsAlone x.pieces in subst S (sym e) h

-- a way back that prints something else
pub back_prints_more : (o : Options) (shape : ToKind) → o.to ≡ Some Tdb → (Breaks o ToTypeFits → ⊥) → IsShape o Tdb shape
    → ((picture : Picture) → shape ≡ Pictured picture → IsSecondsAlone picture.pieces → ⊥) → PrintsMore o
back_prints_more o shape to fits w other =
    let P : Option System → Type 0 = λ s. IsMisfit s o.to_type → ⊥ in
    let shown = et_pictured o shape o.to_type refl (subst P to fits) w in
    let Q : ToKind → Type 0 = λ k. IsShape o Tdb k in
    let is = subst Q shown.1 w in
    (Tdb, is.0, shown.0, is.1, is.2, other shown.0 shown.1)

-- where the lines come from
work_is : (o : Options) (time : Option (List ℕ)) (batch : Bool) (sample : Option (ℕ × ℕ)) → o.time ≡ time → o.batch ≡ batch → o.sample ≡ sample
    → ((is_some time ≡ false) × (batch ≡ false) × (is_some sample ≡ false) → ⊥) → IsWork o (work_of time sample)
work_is o (Some text) batch sample t b s there = t
work_is o None batch (Some p) t b s there = s
work_is o None true None t b s there = b
work_is o None false None t b s there = absurd (there (refl, refl, refl))

lacks_not : (b : Bool) → (b ≡ false → ⊥) → b ≡ true
lacks_not true h = refl
lacks_not false h = absurd (h refl)

-- what the tests of all rules leave
pub kept_all : (o : Options) (system : System) (shape : ToKind) → AreKept o before_picture → o.to ≡ Some system → IsShape o system shape → AreKept o of_way_back
    → (has o opts.Back ≡ true → (picture : Picture) × (shape ≡ Pictured picture) × IsSecondsAlone picture.pieces) → Keeps o shape
kept_all o system shape front to w back alone = record {
  kept =
      both_kept o before_picture (PictureReads ∷ BackToClock ∷ BackFromEt ∷ BackFromSeconds ∷ []) front
      (picture_kept o system shape to w, (back.0, ((back.1).0, (back_kept_alone o system shape to w alone, tt))));
  system = system;
  to = to;
  written = w;
  setup = lacks_not (has o opts.Setup) front.0;
  from = lacks_not (has o opts.From) (front.1).0;
  work = work_is o o.time o.batch o.sample refl refl refl (((front.1).1).1).0;
}

pub picture_stands : (o : Options) (fault : WordFault) → AreKept o before_picture → (f : PictureFault) × RefusesPicture o f × (fault ≡ faults.BadPicture f)
    → OptionsGive o (Err fault)
picture_stands o fault front r = (
  PictureReads,
  first_behind o before_picture (PictureReads ∷ BackToClock ∷ BackFromEt ∷ BackFromSeconds ∷ []) PictureReads front (inl (refl, (r.0, r.1))),
  inr (refl, (r.0, r.1, r.2)),
)

pub alone_refuses : (o : Options) (system : System) (shape : ToKind) → AreKept o before_picture → o.to ≡ Some system → IsShape o system shape → AreKept o of_way_back
    → has o opts.Back ≡ true → ((picture : Picture) → shape ≡ Pictured picture → IsSecondsAlone picture.pieces → ⊥)
    → OptionsGive o (Err (faults.Conflict opts.Back opts.Format))
alone_refuses o system shape front to w back asked other =
    let et : o.to ≡ Some Tdb = by o.to refl in
    let P : System → Type 0 = λ s. IsShape o s shape in
    let prints = back_prints_more o shape et fits (subst P (same_Some system Tdb (sym to ∙ et)) w) other in (
      BackFromSeconds,
      first_behind o before_picture (PictureReads ∷ BackToClock ∷ BackFromEt ∷ BackFromSeconds ∷ []) BackFromSeconds front
          (inr (picture_kept o system shape to w, inr (back.0, inr ((back.1).0, inl (refl, (asked, prints)))))),
      inl refl,
    )
  where
    fits : Breaks o ToTypeFits → ⊥
    fits = (((((front.1).1).1).1).1).0

    by : (to' : Option System) → o.to ≡ to' → to' ≡ Some Tdb
    by None e = absurd ((back.1).0 (asked, λ h. let bad = sym e ∙ h in absurd cc))
    by (Some Tdb) e = refl
    by (Some Utc) e = absurd ((back.1).0 (asked, λ h. let bad = same_Some Utc Tdb (sym e ∙ h) in absurd cc))
    by (Some Tai) e = absurd ((back.1).0 (asked, λ h. let bad = same_Some Tai Tdb (sym e ∙ h) in absurd cc))
    by (Some Tt) e = absurd ((back.1).0 (asked, λ h. let bad = same_Some Tt Tdb (sym e ∙ h) in absurd cc))
    by (Some Sclk) e = absurd ((back.1).0 (asked, λ h. let bad = same_Some Sclk Tdb (sym e ∙ h) in absurd cc))

-- the front with the picture
pub picture_front : (o : Options) (system : System) (shape : ToKind) → AreKept o before_picture → o.to ≡ Some system → IsShape o system shape
    → AreKept o (before_picture ++ (PictureReads ∷ []))
picture_front o system shape front to w = both_kept o before_picture (PictureReads ∷ []) front (picture_kept o system shape to w, tt)

-- the job that is made is asked for
pub kept_job : (o : Options) (shape : ToKind) (job : Job) → Keeps o shape → o.setup ≡ Some job.setup → o.from ≡ Some job.from → o.to ≡ Some job.to
    → job.form ≡ from_kind job.from o.from_type → job.shape ≡ shape → job.clock ≡ o.clock → job.work ≡ work_of o.time o.sample → job.back ≡ o.back
    → OptionsGive o (Ok job)
kept_job o shape job k setup from to form written clock work back =
    let same : k.system ≡ job.to = same_Some k.system job.to (sym k.to ∙ to) in
    let P : System → Type 0 = λ s. IsShape o s shape in
    let Q : ToKind → Type 0 = λ w. IsShape o job.to w in
    let R : Work → Type 0 = λ w. IsWork o w in (
      k.kept,
      record {
        setup = setup;
        from = from;
        form = form;
        to = to;
        shape = subst Q (sym written) (subst P same k.written);
        clock = clock;
        work = subst R (sym work) k.work;
        back = back;
      },
    )
