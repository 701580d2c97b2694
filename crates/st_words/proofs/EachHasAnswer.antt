-- All words have an answer.
use Rattle.std.proofs.Common.{◌≡◌, ◌≢◌, ◌⊎◌, ℕ, ◌≤◌, Bool, true, false, Option, Some, None, Result, Ok, Err, List, length, inl, inr, refl, sym, ap, ◌∙◌, subst, arith}
use Rattle.std.specs.Prelude.{is_some, position, unwrap_or}
use Rattle.std.proofs.lemmas.Bool.{cases_Bool, cases_lt}
use Rattle.st_dates.specs.declared.system.System.{System}
use Rattle.st_picture.specs.Picture.{Picture}
use Rattle.st_picture.specs.Reading.{ReadsPicture, IsSecondsAlone, place_of}
use Rattle.st_picture.specs.ReadingMachine.{is_bad_byte, are_seconds_alone, tested}
use Rattle.st_picture.specs.declared.fault.PictureFault.{PictureFault}
use Rattle.st_picture.specs.declared.fault.PictureFault.TheVariants.{TooLong, BadByte, OutOfMemory}
use Rattle.st_picture.specs.declared.mark.Piece.{Piece}
use Rattle.st_picture.specs.declared.unit.LeastUnit.{LeastUnit}
use Rattle.st_picture.specs.Mark.{IsCut}
use Rattle.st_picture.proofs.AloneLaws.{tells_alone}
use Rattle.st_picture.proofs.Cuts.{each_has_cut}
use Rattle.st_picture.proofs.ReadLaws.{TestsTo, tests_to, too_long, clear_two, bad_byte_read, fault_read, picture_read}
use Rattle.st_picture.proofs.RuleLaws.{told_not}
use Rattle.st_words.specs.Cut.{nothing, has}
use Rattle.st_words.specs.Job.{IsShape}
use Rattle.st_words.specs.JobSteps.{Keeps}
use Rattle.st_words.specs.Kinds.{from_kind, to_type, default_picture}
use Rattle.st_words.specs.Reading.{OptionsGive, WordsGive}
use Rattle.st_words.specs.Rules.{IsPictured, AreKept}
use Rattle.st_words.specs.RulesMachine.{first_fault, work_of}
use Rattle.st_words.specs.WordsMachine.{read}
use Rattle.st_words.specs.declared.fault.WordFault.{WordFault}
use Rattle.st_words.specs.declared.fault.WordFault.TheVariants as faults
use Rattle.st_words.specs.declared.job.Job.{Job}
use Rattle.st_words.specs.declared.job.ToKind.{ToKind}
use Rattle.st_words.specs.declared.job.ToKind.TheVariants.{Pictured, Clock, Ticks}
use Rattle.st_words.specs.declared.opt.Opt.TheVariants as opts
use Rattle.st_words.specs.declared.options.Options.{Options}
use Rattle.st_words.specs.declared.time_type.TimeType.{TimeType}
use Rattle.st_words.specs.declared.time_type.TimeType.TheVariants as types
use Rattle.st_words.proofs.JobLaws.{picture_stands, picture_front, alone_refuses, kept_all, kept_job}
use Rattle.st_words.proofs.OneAnswer.{words_job, words_fault, words_refused}
use Rattle.st_words.proofs.RuleLaws.{before_picture, of_way_back, front_refuses, front_kept, back_refuses, back_kept}

-- a text is a picture, or is refused for a reason
abbrev HasReading : System → List ℕ → Type 0
HasReading system text =
    ((picture : Picture) × ReadsPicture system text (Ok picture))
    ⊎ ((fault : PictureFault) × ReadsPicture system text (Err fault) × (fault ≢ OutOfMemory))

known : (fault : PictureFault) → place_of fault ≤ 9 → fault ≢ OutOfMemory
known fault h e =
    let P : PictureFault → Type 0 = λ f. place_of f ≤ 9 in
    let bad : 10 ≤ 9 = subst P e h in
    absurd (omega arith)

tested_reading : (system : System) (text : List ℕ) (pieces : List Piece) (r : Result (LeastUnit × Bool) PictureFault) → IsCut text pieces
    → TestsTo system text pieces r → HasReading system text
tested_reading system text pieces (Ok found) c t = inl (_, picture_read system text pieces found c t)
tested_reading system text pieces (Err fault) c t = inr (fault, fault_read system text pieces fault c t, known fault t.3)

good_bytes : (system : System) (text : List ℕ) (bad : Option ℕ) → length text ≤ 255 → position is_bad_byte text ≡ bad → HasReading system text
good_bytes system text (Some i) few e = inr (BadByte i, bad_byte_read system text i few e, λ h. absurd cc)
good_bytes system text None few e =
    let c = each_has_cut text in
    tested_reading system text c.0 (tested system c.0) c.1 (tests_to system text c.0 (clear_two system text c.0 few e))

has_reading : (system : System) (text : List ℕ) → HasReading system text
has_reading system text = elim (cases_lt 255 (length text)) [
  | inl long ↦ inr (TooLong, too_long system text long, λ h. absurd cc)
  | inr few ↦ good_bytes system text (position is_bad_byte text) few refl
]

-- an option that is there has a value
has_value : {A : Type 0} (o : Option A) → is_some o ≡ true → (x : A) × (o ≡ Some x)
has_value None h = absurd cc
has_value (Some x) h = (x, refl)

abbrev Given : Options → Type 0
Given o = (answer : Result Job WordFault) × OptionsGive o answer

kept_given : (o : Options) (shape : ToKind) → Keeps o shape → Given o
kept_given o shape k =
    let setup = has_value o.setup k.setup in
    let from = has_value o.from k.from in
    let job : Job = record {
      setup = setup.0;
      from = from.0;
      form = from_kind from.0 o.from_type;
      to = k.system;
      shape = shape;
      clock = o.clock;
      work = work_of o.time o.sample;
      back = o.back;
    } in
    (Ok job, kept_job o shape job k setup.1 from.1 k.to refl refl refl refl refl)

-- a way back is printed by seconds alone, or by something else
abbrev Prints : ToKind → Type 0
Prints shape =
    ((picture : Picture) × (shape ≡ Pictured picture) × IsSecondsAlone picture.pieces)
    ⊎ ((picture : Picture) → shape ≡ Pictured picture → IsSecondsAlone picture.pieces → ⊥)

picture_in : Picture → ToKind → Picture
picture_in other (Pictured picture) = picture
picture_in other Clock = other
picture_in other Ticks = other

same_picture : (p q : Picture) → ◌≡◌ {A = ToKind} (Pictured p) (Pictured q) → p ≡ q
unfolding picture_in
same_picture p q e = ap (picture_in p) e

prints : (shape : ToKind) → Prints shape
prints Clock = inr (λ p e. absurd cc)
prints Ticks = inr (λ p e. absurd cc)
prints (Pictured picture) = elim (cases_Bool (are_seconds_alone picture.pieces)) [
  | inl t ↦ inl (picture, refl, (tells_alone picture.pieces).is t)
  | inr f ↦ inr (λ p e alone.
      let P : Picture → Type 0 = λ q. IsSecondsAlone q.pieces in
      told_not (are_seconds_alone picture.pieces) (IsSecondsAlone picture.pieces) (tells_alone picture.pieces) f (subst P (sym (same_picture picture p e)) alone))
]

back_given : (o : Options) (system : System) (shape : ToKind) (asked : Bool) → has o opts.Back ≡ asked → AreKept o before_picture → o.to ≡ Some system
    → IsShape o system shape → AreKept o of_way_back → Given o
back_given o system shape false e front to w back =
    kept_given o shape (kept_all o system shape front to w back (λ h. let bad = sym e ∙ h in absurd cc))
back_given o system shape true e front to w back = elim (prints shape) [
  | inl alone ↦ kept_given o shape (kept_all o system shape front to w back (λ h. alone))
  | inr other ↦ (Err (faults.Conflict opts.Back opts.Format), alone_refuses o system shape front to w back e other)
]

shape_given : (o : Options) (system : System) (shape : ToKind) (fault : Option WordFault) → first_fault o of_way_back ≡ fault → AreKept o before_picture
    → o.to ≡ Some system → IsShape o system shape → Given o
shape_given o system shape None e front to w = back_given o system shape (has o opts.Back) refl front to w (back_kept o e)
shape_given o system shape (Some fault) e front to w = (Err fault, back_refuses o fault (picture_front o system shape front to w) e)

picture_given : (o : Options) (system : System) (default : List ℕ) → AreKept o before_picture → o.to ≡ Some system
    → default_picture (to_type system o.to_type) ≡ Some default → Given o
picture_given o system default front to e =
    let text = unwrap_or o.format default in
    let pictured : IsPictured o system text = record { default = default; to = to; pictured = e; text_is = refl } in
    elim (has_reading system text) [
      | inl good ↦ shape_given o system (Pictured good.0) (first_fault o of_way_back) refl front to (text, pictured, good.1)
      | inr bad ↦ (Err (faults.BadPicture bad.0), picture_stands o (faults.BadPicture bad.0) front (bad.0, (system, text, pictured, bad.1, bad.2), refl))
    ]

type_given : (o : Options) (system : System) (kind : TimeType) → AreKept o before_picture → o.to ≡ Some system → to_type system o.to_type ≡ kind → Given o
type_given o system types.Scet front to e = picture_given o system _ front to (ap default_picture e)
type_given o system types.Seconds front to e = picture_given o system _ front to (ap default_picture e)
type_given o system types.Sclk front to e = shape_given o system Clock (first_fault o of_way_back) refl front to e
type_given o system types.Ticks front to e = shape_given o system Ticks (first_fault o of_way_back) refl front to e

front_given : (o : Options) (to : Option System) → o.to ≡ to → AreKept o before_picture → Given o
front_given o None e front = absurd (((front.1).1).0 (ap is_some e))
front_given o (Some system) e front = type_given o system (to_type system o.to_type) front e refl

options_given : (o : Options) (fault : Option WordFault) → first_fault o before_picture ≡ fault → Given o
options_given o None e = front_given o o.to refl (front_kept o e)
options_given o (Some fault) e = (Err fault, front_refuses o fault e)

by_options : (words : List (List ℕ)) (o : Options) → read nothing 1 0 words ≡ Ok o → Given o → (answer : Result Job WordFault) × WordsGive words answer
by_options words o e (Ok job, h) = (Ok job, words_job words o job e h)
by_options words o e (Err fault, h) = (Err fault, words_refused words o fault e h)

by_read : (words : List (List ℕ)) (r : Result Options WordFault) → read nothing 1 0 words ≡ r → (answer : Result Job WordFault) × WordsGive words answer
by_read words (Ok o) e = by_options words o e (options_given o (first_fault o before_picture) refl)
by_read words (Err fault) e = (Err fault, words_fault words fault e)

pub each_answer : (words : List (List ℕ)) → (answer : Result Job WordFault) × WordsGive words answer
each_answer words = by_read words (read nothing 1 0 words) refl
