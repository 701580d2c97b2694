-- A job has words that ask for it.
use Rattle.std.proofs.Common.{◌≡◌, ℕ, ◌+◌, ◌≤◌, lit≤, Bool, true, false, Option, Some, None, Ok, List, [], ◌∷◌, ◌++◌, length, codes, inl, refl, sym, ap, ◌∙◌, subst, arith, append_assoc}
use Rattle.std.specs.Prelude.{is_some, unwrap_or}
use Rattle.std.proofs.lemmas.List.{append-nil}
use Rattle.std.specs.Char.{is_ascii_digit, to_ascii_lowercase}
use Rattle.std.proofs.lemmas.Bool.Decides.{nat_tests}
use Rattle.std.proofs.lemmas.Option.{same_Some}
use Rattle.st_text.specs.Bytes.{are_digits, decimal_digits}
use Rattle.st_text.proofs.Logic.{and-left}
use Rattle.st_text.proofs.Spelled.{number_of-padded, are_digits-padded}
use Rattle.st_ticks.proofs.SpellingLaws.{digits_begun}
use Rattle.st_dates.specs.Names.{lowered}
use Rattle.st_dates.specs.declared.system.System.{System}
use Rattle.st_dates.specs.declared.system.System.TheVariants.{Utc, Tai, Tt, Tdb, Sclk}
use Rattle.st_picture.specs.Mark.{spelled}
use Rattle.st_picture.specs.Picture.{Picture}
use Rattle.st_picture.specs.Reading.{ReadsPicture}
use Rattle.st_words.specs.Cut.{nothing, has, with_choice, Standing, Takes, Reads}
use Rattle.st_words.specs.Job.{IsShape, IsTypeGiven, IsTarget, IsClock, IsWorkInRange, IsGoodJob}
use Rattle.st_words.specs.Kinds.{is_type_of, from_kind, default_picture}
use Rattle.st_words.specs.OptionWords.{word_of, IsPlain}
use Rattle.st_words.specs.Reading.{AskFor, OptionsGive, WordsGive}
use Rattle.st_words.specs.Rules.{IsMisfit, AreKept}
use Rattle.st_words.specs.RulesMachine.{work_of}
use Rattle.st_words.specs.Spelling.{IsPlainShape, IsPlainWork, CanBeSpelled}
use Rattle.st_words.specs.Values.{NamesSystem, NamesType, opt_of, Spells, HasCount, AtOption, Ends, ArePlain}
use Rattle.st_words.specs.WordsMachine.{option_of}
use Rattle.st_words.specs.declared.choice.Choice.{Choice}
use Rattle.st_words.specs.declared.choice.Choice.TheVariants as choices
use Rattle.st_words.specs.declared.job.Job.{Job}
use Rattle.st_words.specs.declared.job.ToKind.{ToKind}
use Rattle.st_words.specs.declared.job.ToKind.TheVariants.{Pictured, Clock, Ticks}
use Rattle.st_words.specs.declared.job.Work.{Work}
use Rattle.st_words.specs.declared.job.Work.TheVariants as works
use Rattle.st_words.specs.declared.opt.Opt.{Opt}
use Rattle.st_words.specs.declared.opt.Opt.TheVariants.{Setup, From, FromType, To, ToType, Format, Time, Batch, Sample, Sc, Back}
use Rattle.st_words.specs.declared.options.Options.{Options}
use Rattle.st_words.specs.declared.time_type.TimeType.{TimeType}
use Rattle.st_words.specs.declared.time_type.TimeType.TheVariants as types
use Rattle.st_words.proofs.CutLaws.{at}
use Rattle.st_words.proofs.JobLaws.{kept_all, kept_job}
use Rattle.st_words.proofs.NameLaws.{plain_is}
use Rattle.st_words.proofs.RuleLaws.{before_picture, of_way_back}

-- words that name systems and types
abbrev system_word : System → List ℕ
system_word Utc = codes "UTC"
system_word Tai = codes "TAI"
system_word Tt = codes "TT"
system_word Tdb = codes "TDB"
system_word Sclk = codes "SCLK"

system_named : (s : System) → NamesSystem (system_word s) s
system_named Utc = refl
system_named Tai = refl
system_named Tt = inl refl
system_named Tdb = inl refl
system_named Sclk = refl

system_plain : (s : System) → IsPlain (system_word s)
unfolding option_of
system_plain Utc = plain_is (codes "UTC") refl
system_plain Tai = plain_is (codes "TAI") refl
system_plain Tt = plain_is (codes "TT") refl
system_plain Tdb = plain_is (codes "TDB") refl
system_plain Sclk = plain_is (codes "SCLK") refl

abbrev type_word : TimeType → List ℕ
type_word types.Scet = codes "SCET"
type_word types.Seconds = codes "SECONDS"
type_word types.Sclk = codes "SCLK"
type_word types.Ticks = codes "TICKS"

type_named : (t : TimeType) → NamesType (type_word t) t
type_named types.Scet = refl
type_named types.Seconds = refl
type_named types.Sclk = refl
type_named types.Ticks = refl

type_plain : (t : TimeType) → IsPlain (type_word t)
unfolding option_of
type_plain types.Scet = plain_is (codes "SCET") refl
type_plain types.Seconds = plain_is (codes "SECONDS") refl
type_plain types.Sclk = plain_is (codes "SCLK") refl
type_plain types.Ticks = plain_is (codes "TICKS") refl

-- words of digits name no option
abbrev first : List ℕ → ℕ
first [] = 0
first (b ∷ t) = b

abbrev second : List ℕ → ℕ
second [] = 0
second (b ∷ t) = first t

first_is : (opt : Opt) → first (lowered (word_of opt)) ≡ 45
first_is Setup = refl
first_is From = refl
first_is FromType = refl
first_is To = refl
first_is ToType = refl
first_is Format = refl
first_is Time = refl
first_is Batch = refl
first_is Sample = refl
first_is Sc = refl
first_is Back = refl

second_is : (opt : Opt) → 97 ≤ second (lowered (word_of opt))
second_is Setup = lit≤ tt
second_is From = lit≤ tt
second_is FromType = lit≤ tt
second_is To = lit≤ tt
second_is ToType = lit≤ tt
second_is Format = lit≤ tt
second_is Time = lit≤ tt
second_is Batch = lit≤ tt
second_is Sample = lit≤ tt
second_is Sc = lit≤ tt
second_is Back = lit≤ tt

no_dash : (b : ℕ) → is_ascii_digit b ≡ true → to_ascii_lowercase b ≡ 45 → ⊥
no_dash b d e = grind (arith, nat_tests)

no_letter : (b : ℕ) → is_ascii_digit b ≡ true → 97 ≤ to_ascii_lowercase b → ⊥
no_letter b d e = grind (arith, nat_tests)

digits_plain : (text : List ℕ) → 1 ≤ length text → are_digits text ≡ true → IsPlain text
digits_plain [] some d opt e = absurd (omega arith)
digits_plain (b ∷ t) some d opt e = no_dash b (and-left (is_ascii_digit b) (are_digits t) d) (ap first e ∙ first_is opt)

clock_plain : (text : List ℕ) → 1 ≤ length text → are_digits text ≡ true → IsPlain (45 ∷ text)
clock_plain [] some d opt e = absurd (omega arith)
clock_plain (b ∷ t) some d opt e =
    let P : ℕ → Type 0 = λ n. 97 ≤ n in
    no_letter b (and-left (is_ascii_digit b) (are_digits t) d) (subst P (sym (ap second e)) (second_is opt))

digits_some : (n : ℕ) → 1 ≤ length (decimal_digits n)
digits_some n = omega (arith, digits_begun n)

-- the words of a choice
abbrev value_words : Choice → List (List ℕ)
value_words (choices.Setup name) = name ∷ []
value_words (choices.From system) = system_word system ∷ []
value_words (choices.FromType kind) = type_word kind ∷ []
value_words (choices.To system) = system_word system ∷ []
value_words (choices.ToType kind) = type_word kind ∷ []
value_words (choices.Format text) = text ∷ []
value_words (choices.Time text) = text ∷ []
value_words choices.Batch = []
value_words (choices.Sample lines seed) = decimal_digits lines ∷ decimal_digits seed ∷ []
value_words (choices.Sc clock) = (45 ∷ decimal_digits clock) ∷ []
value_words choices.Back = []

abbrev spell : Choice → List (List ℕ)
spell choice = word_of (opt_of choice) ∷ value_words choice

record IsSpelled (choice : Choice) : Type 0 where
  value : ArePlain (value_words choice)
  count : HasCount (opt_of choice) (length (value_words choice))
  spells : Spells choice (value_words choice)

-- words lead from what some options ask for to what they ask for with some more
abbrev Leads : Options → List (List ℕ) → Options → Type 0
Leads o words p =
    (place : ℕ) (rest : List (List ℕ)) → AtOption rest
    → (all : List Choice) × (end : ℕ) × Reads (at o place (words ++ rest)) all (at p end rest)

ends_at : (opt : Opt) (rest : List (List ℕ)) → AtOption rest → Ends opt rest
ends_at Setup rest a = tt
ends_at From rest a = tt
ends_at FromType rest a = tt
ends_at To rest a = tt
ends_at ToType rest a = tt
ends_at Format rest a = a
ends_at Time rest a = a
ends_at Batch rest a = tt
ends_at Sample rest a = tt
ends_at Sc rest a = tt
ends_at Back rest a = tt

one_leads : (o : Options) (choice : Choice) → has o (opt_of choice) ≡ false → IsSpelled choice → Leads o (spell choice) (with_choice o choice)
one_leads o choice new s place rest a =
    let end = place + 1 + length (value_words choice) in
    let takes : Takes (at o place (spell choice ++ rest)) choice (at (with_choice o choice) end rest) = record {
      word = word_of (opt_of choice);
      values = value_words choice;
      words = refl;
      named = refl;
      new = new;
      value = record { plain = s.value; count = s.count; ends = ends_at (opt_of choice) rest a };
      spelled = s.spells;
      asked = refl;
      place = refl;
    } in
    (choice ∷ [], end, (at (with_choice o choice) end rest, takes, refl))

none_leads : (o : Options) → Leads o [] o
none_leads o place rest a = ([], place, refl)

reads_on : (from mid end : Standing) (a b : List Choice) → Reads from a mid → Reads mid b end → Reads from (a ++ b) end
reads_on from mid end [] b r s = let P : Standing → Type 0 = λ x. Reads x b end in subst P (sym r) s
reads_on from mid end (choice ∷ more) b r s = (r.0, r.1, reads_on r.0 mid end more b r.2 s)

opens : (words rest : List (List ℕ)) → AtOption words → AtOption rest → AtOption (words ++ rest)
opens [] rest a b = b
opens (word ∷ more) rest a b = a

then_leads : (o p q : Options) (front more : List (List ℕ)) → AtOption more → Leads o front p → Leads p more q → Leads o (front ++ more) q
then_leads o p q front more starts l m place rest a =
    let first_part = l place (more ++ rest) (opens more rest starts a) in
    let second_part = m first_part.1 rest a in
    let P : List (List ℕ) → Type 0 = λ w. Reads (at o place w) (first_part.0 ++ second_part.0) (at q second_part.1 rest) in (
      first_part.0 ++ second_part.0,
      second_part.1,
      subst P (sym (append_assoc front more rest))
          (reads_on (at o place (front ++ (more ++ rest))) (at p first_part.1 (more ++ rest)) (at q second_part.1 rest) first_part.0 second_part.0 first_part.2 second_part.2),
    )

begins_with : (choice : Choice) → AtOption (spell choice)
begins_with choice = (opt_of choice, refl)

-- the words of what may be left out
abbrev from_type_words : Option TimeType → List (List ℕ)
from_type_words None = []
from_type_words (Some kind) = spell (choices.FromType kind)

abbrev format_words : Option (List ℕ) → List (List ℕ)
format_words None = []
format_words (Some text) = spell (choices.Format text)

abbrev clock_words : Option ℕ → List (List ℕ)
clock_words None = []
clock_words (Some n) = spell (choices.Sc n)

abbrev back_words : Bool → List (List ℕ)
back_words false = []
back_words true = spell choices.Back

abbrev work_choice : Work → Choice
work_choice (works.Time text) = choices.Time text
work_choice works.Batch = choices.Batch
work_choice (works.Sample lines seed) = choices.Sample lines seed

abbrev time_in : Work → Option (List ℕ)
time_in (works.Time text) = Some text
time_in work = None

abbrev batch_in : Work → Bool
batch_in works.Batch = true
batch_in work = false

abbrev sample_in : Work → Option (ℕ × ℕ)
sample_in (works.Sample lines seed) = Some (lines, seed)
sample_in work = None

from_type_leads : (o : Options) (given : Option TimeType) → o.from_type ≡ None → Leads o (from_type_words given) (record o { from_type = given })
from_type_leads o None e = let P : Options → Type 0 = λ p. Leads o [] p in subst P (λ i. record o { from_type = e i }) (none_leads o)
from_type_leads o (Some kind) e =
    one_leads o (choices.FromType kind) (ap is_some e)
    (record { value = (type_plain kind, tt); count = refl; spells = (type_word kind, refl, type_named kind) })

format_leads : (o : Options) (given : Option (List ℕ)) → o.format ≡ None → ((text : List ℕ) → given ≡ Some text → IsPlain text)
    → Leads o (format_words given) (record o { format = given })
format_leads o None e plain = let P : Options → Type 0 = λ p. Leads o [] p in subst P (λ i. record o { format = e i }) (none_leads o)
format_leads o (Some text) e plain =
    one_leads o (choices.Format text) (ap is_some e) (record { value = (plain text refl, tt); count = lit≤ tt; spells = sym (append-nil text) })

clock_leads : (o : Options) (given : Option ℕ) → o.clock ≡ None → IsClock given → Leads o (clock_words given) (record o { clock = given })
clock_leads o None e r = let P : Options → Type 0 = λ p. Leads o [] p in subst P (λ i. record o { clock = e i }) (none_leads o)
clock_leads o (Some n) e r =
    one_leads o (choices.Sc n) (ap is_some e)
    (record {
      value = (clock_plain (decimal_digits n) (digits_some n) (are_digits-padded 1 n), tt);
      count = refl;
      spells = (
        45 ∷ decimal_digits n,
        refl,
        record {
          digits = decimal_digits n;
          signed = refl;
          number = record { some = digits_some n; digits = are_digits-padded 1 n; value = number_of-padded 1 n; at_least = r.0; at_most = r.1 };
        },
      );
    })

back_leads : (o : Options) (asked : Bool) → o.back ≡ false → Leads o (back_words asked) (record o { back = asked })
back_leads o false e = let P : Options → Type 0 = λ p. Leads o [] p in subst P (λ i. record o { back = e i }) (none_leads o)
back_leads o true e = one_leads o choices.Back e (record { value = tt; count = refl; spells = refl })

work_spelled : (work : Work) → IsPlainWork work → IsWorkInRange work → IsSpelled (work_choice work)
work_spelled (works.Time text) p r = record { value = (p, tt); count = lit≤ tt; spells = sym (append-nil text) }
work_spelled works.Batch p r = record { value = tt; count = refl; spells = refl }
work_spelled (works.Sample lines seed) p r = record {
  value = (
    digits_plain (decimal_digits lines) (digits_some lines) (are_digits-padded 1 lines),
    (digits_plain (decimal_digits seed) (digits_some seed) (are_digits-padded 1 seed), tt),
  );
  count = refl;
  spells = (
    decimal_digits lines,
    decimal_digits seed,
    refl,
    record { some = digits_some lines; digits = are_digits-padded 1 lines; value = number_of-padded 1 lines; at_least = r.0; at_most = r.1 },
    record { some = digits_some seed; digits = are_digits-padded 1 seed; value = number_of-padded 1 seed; at_least = omega arith; at_most = r.2 },
  );
}

work_leads : (o : Options) (work : Work) → o.time ≡ None → o.batch ≡ false → o.sample ≡ None → IsPlainWork work → IsWorkInRange work
    → Leads o (spell (work_choice work)) (record o { time = time_in work; batch = batch_in work; sample = sample_in work })
work_leads o (works.Time text) t b s p r =
    let P : Options → Type 0 = λ x. Leads o (spell (choices.Time text)) x in
    subst P (λ i. record o { time = Some text; batch = b i; sample = s i }) (one_leads o (choices.Time text) (ap is_some t) (work_spelled (works.Time text) p r))
work_leads o works.Batch t b s p r =
    let P : Options → Type 0 = λ x. Leads o (spell choices.Batch) x in
    subst P (λ i. record o { time = t i; batch = true; sample = s i }) (one_leads o choices.Batch b (work_spelled works.Batch p r))
work_leads o (works.Sample lines seed) t b s p r =
    let P : Options → Type 0 = λ x. Leads o (spell (choices.Sample lines seed)) x in
    subst P (λ i. record o { time = t i; batch = b i; sample = Some (lines, seed) })
    (one_leads o (choices.Sample lines seed) (ap is_some s) (work_spelled (works.Sample lines seed) p r))

-- the type and the picture of a target
abbrev shape_type : ToKind → TimeType
shape_type (Pictured picture) = types.Scet
shape_type Clock = types.Sclk
shape_type Ticks = types.Ticks

abbrev shape_format : ToKind → Option (List ℕ)
shape_format (Pictured picture) = Some (spelled picture.pieces)
shape_format shape = None

abbrev job_options : Job → Option TimeType → Options
job_options job given = record {
  setup = Some job.setup;
  from = Some job.from;
  from_type = given;
  to = Some job.to;
  to_type = Some (shape_type job.shape);
  format = shape_format job.shape;
  time = time_in job.work;
  batch = batch_in job.work;
  sample = sample_in job.work;
  clock = job.clock;
  back = job.back;
}

abbrev job_words : Job → Option TimeType → List (List ℕ)
job_words job given =
    spell (choices.Setup job.setup) ++ (spell (choices.From job.from) ++ (from_type_words given ++ (spell (choices.To job.to)
    ++ (spell (choices.ToType (shape_type job.shape)) ++ (format_words (shape_format job.shape) ++ (spell (work_choice job.work)
    ++ (clock_words job.clock ++ back_words job.back)))))))

format_plain : (shape : ToKind) → IsPlainShape shape → (text : List ℕ) → shape_format shape ≡ Some text → IsPlain text
format_plain (Pictured picture) p text e = subst IsPlain (same_Some (spelled picture.pieces) text e) p
format_plain Clock p text e = absurd cc
format_plain Ticks p text e = absurd cc

clock_opens : (given : Option ℕ) → AtOption (clock_words given)
clock_opens None = tt
clock_opens (Some n) = begins_with (choices.Sc n)

back_opens : (asked : Bool) → AtOption (back_words asked)
back_opens false = tt
back_opens true = begins_with choices.Back

format_opens : (given : Option (List ℕ)) → AtOption (format_words given)
format_opens None = tt
format_opens (Some text) = begins_with (choices.Format text)

from_type_opens : (given : Option TimeType) → AtOption (from_type_words given)
from_type_opens None = tt
from_type_opens (Some kind) = begins_with (choices.FromType kind)

asks : (job : Job) (given : Option TimeType) → IsGoodJob job → CanBeSpelled job → AskFor (job_words job given) (job_options job given)
asks job given good plain =
    let o1 = with_choice nothing (choices.Setup job.setup) in
    let o2 = with_choice o1 (choices.From job.from) in
    let o3 = record o2 { from_type = given } in
    let o4 = with_choice o3 (choices.To job.to) in
    let o5 = with_choice o4 (choices.ToType (shape_type job.shape)) in
    let o6 = record o5 { format = shape_format job.shape } in
    let o7 = record o6 { time = time_in job.work; batch = batch_in job.work; sample = sample_in job.work } in
    let o8 = record o7 { clock = job.clock } in
    let o9 = record o8 { back = job.back } in
    let l1 = one_leads nothing (choices.Setup job.setup) refl (record { value = (plain.setup, tt); count = refl; spells = (refl, good.setup) }) in
    let l2 = one_leads o1 (choices.From job.from) refl
    (record { value = (system_plain job.from, tt); count = refl; spells = (system_word job.from, refl, system_named job.from) }) in
    let l3 = from_type_leads o2 given refl in
    let l4 = one_leads o3 (choices.To job.to) refl
    (record { value = (system_plain job.to, tt); count = refl; spells = (system_word job.to, refl, system_named job.to) }) in
    let l5 = one_leads o4 (choices.ToType (shape_type job.shape)) refl
    (record { value = (type_plain (shape_type job.shape), tt); count = refl; spells = (type_word (shape_type job.shape), refl, type_named (shape_type job.shape)) }) in
    let l6 = format_leads o5 (shape_format job.shape) refl (format_plain job.shape plain.shape) in
    let l7 = work_leads o6 job.work refl refl refl plain.work good.work in
    let l8 = clock_leads o7 job.clock refl good.clock in
    let l9 = back_leads o8 job.back refl in
    let w9 = back_words job.back in
    let w8 = clock_words job.clock ++ w9 in
    let w7 = spell (work_choice job.work) ++ w8 in
    let w6 = format_words (shape_format job.shape) ++ w7 in
    let w5 = spell (choices.ToType (shape_type job.shape)) ++ w6 in
    let w4 = spell (choices.To job.to) ++ w5 in
    let w3 = from_type_words given ++ w4 in
    let w2 = spell (choices.From job.from) ++ w3 in
    let a7 : AtOption w7 = begins_with (work_choice job.work) in
    let m8 = then_leads o7 o8 o9 (clock_words job.clock) w9 (back_opens job.back) l8 l9 in
    let m7 = then_leads o6 o7 o9 (spell (work_choice job.work)) w8 (opens (clock_words job.clock) w9 (clock_opens job.clock) (back_opens job.back)) l7 m8 in
    let m6 = then_leads o5 o6 o9 (format_words (shape_format job.shape)) w7 a7 l6 m7 in
    let m5 = then_leads o4 o5 o9 (spell (choices.ToType (shape_type job.shape))) w6 (opens (format_words (shape_format job.shape)) w7 (format_opens (shape_format job.shape)) a7) l5 m6 in
    let m4 = then_leads o3 o4 o9 (spell (choices.To job.to)) w5 (begins_with (choices.ToType (shape_type job.shape))) l4 m5 in
    let m3 = then_leads o2 o3 o9 (from_type_words given) w4 (begins_with (choices.To job.to)) l3 m4 in
    let m2 = then_leads o1 o2 o9 (spell (choices.From job.from)) w3 (opens (from_type_words given) w4 (from_type_opens given) (begins_with (choices.To job.to))) l2 m3 in
    let m1 = then_leads nothing o1 o9 (spell (choices.Setup job.setup)) w2 (begins_with (choices.From job.from)) l1 m2 in
    let read = m1 1 [] tt in
    let P : List (List ℕ) → Type 0 = λ w. Reads (at nothing 1 w) read.0 (at o9 read.1 []) in
    record { choices = read.0; end = at o9 read.1 []; reads = subst P (append-nil (job_words job given)) read.2; all = refl; asked = refl }

-- the options of a job break no rule
type_fits : (system : System) (shape : ToKind) → IsTarget system shape → is_type_of system (shape_type shape) ≡ true
type_fits Utc (Pictured picture) t = refl
type_fits Tai (Pictured picture) t = refl
type_fits Tt (Pictured picture) t = refl
type_fits Tdb (Pictured picture) t = refl
type_fits Sclk (Pictured picture) t = absurd t
type_fits Utc Clock t = absurd cc
type_fits Tai Clock t = absurd cc
type_fits Tt Clock t = absurd cc
type_fits Tdb Clock t = absurd cc
type_fits Sclk Clock t = refl
type_fits Utc Ticks t = absurd cc
type_fits Tai Ticks t = absurd cc
type_fits Tt Ticks t = absurd cc
type_fits Tdb Ticks t = absurd cc
type_fits Sclk Ticks t = refl

shown : (system : System) (picture : Picture) → IsTarget system (Pictured picture) → (text : List ℕ) × ReadsPicture system text (Ok picture)
shown Utc picture t = t
shown Tai picture t = t
shown Tt picture t = t
shown Tdb picture t = t
shown Sclk picture t = absurd t

written : (job : Job) (given : Option TimeType) (shape : ToKind) → job.shape ≡ shape → IsTarget job.to shape → IsShape (job_options job given) job.to shape
written job given Clock e t = ap shape_type e
written job given Ticks e t = ap shape_type e
written job given (Pictured picture) e t =
    let s = shown job.to picture t in
    let P : List ℕ → Type 0 = λ w. ReadsPicture job.to w (Ok picture) in (
      spelled picture.pieces,
      record {
        default = codes "YYYY-MM-DDTHR:MN:SC.###";
        to = refl;
        pictured = ap (λ (k : ToKind). default_picture (shape_type k)) e;
        text_is = sym (ap (λ (k : ToKind). unwrap_or (shape_format k) (codes "YYYY-MM-DDTHR:MN:SC.###")) e);
      },
      subst P s.1.1.whole s.1,
    )

no_misfit : (system : System) (given : Option TimeType) → IsTypeGiven system given → IsMisfit (Some system) given → ⊥
no_misfit system None t m = let bad = m.3 in absurd cc
no_misfit system (Some kind) t m =
    let s : system ≡ m.0 = same_Some system m.0 m.2 in
    let k : kind ≡ m.1 = same_Some kind m.1 m.3 in
    let fits : is_type_of m.0 m.1 ≡ true = ap (λ (x : System). is_type_of x m.1) (sym s) ∙ ap (λ (x : TimeType). is_type_of system x) (sym k) ∙ t in
    let bad : true ≡ false = sym fits ∙ m.4 in
    absurd cc

record WorkKept (work : Work) : Type 0 where
  some : (is_some (time_in work) ≡ false) × (batch_in work ≡ false) × (is_some (sample_in work) ≡ false) → ⊥
  time_batch : (is_some (time_in work) ≡ true) × (batch_in work ≡ true) → ⊥
  time_sample : (is_some (time_in work) ≡ true) × (is_some (sample_in work) ≡ true) → ⊥
  batch_sample : (batch_in work ≡ true) × (is_some (sample_in work) ≡ true) → ⊥
  is : work ≡ work_of (time_in work) (sample_in work)

false_true : false ≡ true → ⊥
false_true e = cc

true_false : true ≡ false → ⊥
true_false e = cc

work_kept : (work : Work) → WorkKept work
work_kept (works.Time text) = record {
  some = λ h. true_false h.0;
  time_batch = λ h. false_true h.1;
  time_sample = λ h. false_true h.1;
  batch_sample = λ h. false_true h.0;
  is = refl;
}
work_kept works.Batch = record {
  some = λ h. true_false h.1;
  time_batch = λ h. false_true h.0;
  time_sample = λ h. false_true h.0;
  batch_sample = λ h. false_true h.1;
  is = refl;
}
work_kept (works.Sample lines seed) = record {
  some = λ h. true_false h.2;
  time_batch = λ h. false_true h.0;
  time_sample = λ h. false_true h.0;
  batch_sample = λ h. false_true h.0;
  is = refl;
}

no_clock_format : (system : System) (shape : ToKind) → IsTarget system shape → (is_some (shape_format shape) ≡ true) × (Some system ≡ Some Sclk) → ⊥
no_clock_format system Clock t h = false_true h.0
no_clock_format system Ticks t h = false_true h.0
no_clock_format system (Pictured picture) t h =
    let P : System → Type 0 = λ s. IsTarget s (Pictured picture) in
    subst P (same_Some system Sclk h.1) t

no_seconds : (shape : ToKind) → Some (shape_type shape) ≡ Some types.Seconds → ⊥
no_seconds Clock e = let bad = same_Some types.Sclk types.Seconds e in cc
no_seconds Ticks e = let bad = same_Some types.Ticks types.Seconds e in cc
no_seconds (Pictured picture) e = let bad = same_Some types.Scet types.Seconds e in cc

gives : (job : Job) (given : Option TimeType) → IsGoodJob job → IsTypeGiven job.from given → job.form ≡ from_kind job.from given
    → OptionsGive (job_options job given) (Ok job)
gives job given good t form =
    let o = job_options job given in
    let w = work_kept job.work in
    let some : System → Option System = λ s. Some s in
    let front : AreKept o before_picture = (
      true_false,
      (
        true_false,
        (
          true_false,
          (
            w.some,
            (
              no_misfit job.from given t,
              (
                no_misfit job.to (Some (shape_type job.shape)) (type_fits job.to job.shape good.target),
                (w.time_batch, (w.time_sample, (w.batch_sample, (no_clock_format job.to job.shape good.target, ((λ h. no_seconds job.shape h.1), tt))))),
              ),
            ),
          ),
        ),
      ),
    ) in
    let back : AreKept o of_way_back =
    ((λ h. h.1 (ap some (good.back h.0).from)), ((λ h. h.1 (ap some (good.back h.0).to)), tt)) in
    let keeps = kept_all o job.to job.shape front refl (written job given job.shape refl good.target) back
    (λ e. ((good.back e).picture, (good.back e).shape, (good.back e).alone)) in
    kept_job o job.shape job keeps refl refl refl form refl refl w.is refl

pub job_spelled : (job : Job) → IsGoodJob job → CanBeSpelled job → (words : List (List ℕ)) × WordsGive words (Ok job)
job_spelled job good plain =
    let given = good.source.0 in
    (job_words job given, (job_options job given, asks job given good plain, gives job given good good.source.1 good.source.2))
