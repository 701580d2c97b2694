-- The date with which a text begins is read exactly, and so is its day number.
use Rattle.std.proofs.Common.{◌≡◌, ℕ, sym, ap, ◌∙◌, List, [], ◌∷◌, ℤ, Option, Some, None, IfSome, MatchOption}
use Rattle.std.proofs.lemmas.Option.{same_Some}
use Rattle.std.specs.Char.{is_ascii_digit}
use Rattle.st_text.specs.Bytes.{number_of}
use Rattle.st_text.proofs.Runs.{Stops}
use Rattle.st_dates.specs.Names.{NamesMonth}
use Rattle.st_dates.specs.DayText.{DayText, numeric, named, day_first, of_year, NamesDate, BeginsWithDay, BeginsNoDigit, IsDayNumber}
use Rattle.st_dates.specs.DayTextMachine.{day_of_text, number_in}
use Rattle.st_dates.specs.declared.day_text.CalendarDate.{CalendarDate}
use Rattle.st_dates.specs.declared.day_text.CalendarDate.TheVariants.{OfMonth, OfYear}
use Rattle.st_dates.proofs.CalendarLaws.{there, there_only, place_there, place_there_only}
use Rattle.st_dates.proofs.DayCuts.{day_cut}
use Rattle.st_dates.proofs.DayForms.{day_read}
use Rattle.st_dates.proofs.NameLaws.{only}

-- a day number is that of the date, where the calendar has it
pub number_found : (date : CalendarDate) (n : ℤ) → IsDayNumber date n → number_in date ≡ Some n
unfolding number_in
number_found (OfMonth y m d) n h = there y m d h.0 ∙ ap Some (sym h.1)
number_found (OfYear y place) n h = place_there y place h.0 ∙ ap Some (sym h.1)

pub number_is : (date : CalendarDate) (n : ℤ) → number_in date ≡ Some n → IsDayNumber date n
unfolding number_in
number_is (OfMonth y m d) n e = there_only y m d n e
number_is (OfYear y place) n e = place_there_only y place n e

pub numbered : (date : CalendarDate) (o : Option ℤ) → o ≡ number_in date → IfSome o (IsDayNumber date)
numbered date None e = tt
numbered date (Some n) e = number_is date n (sym e)

one_month : (name : List ℕ) (m n : ℕ) → NamesMonth name m → NamesMonth name n → m ≡ n
one_month name m n h k = same_Some m n (sym (only name m h) ∙ only name n k)

-- a written day names one date
pub one_date : (w : DayText) (a b : CalendarDate) → NamesDate w a → NamesDate w b → a ≡ b
one_date (numeric year month day) a b h k = h ∙ sym k
one_date (named year name day) a b (m, h, e) (n, k, f) =
    e ∙ ap (λ (i : ℕ). OfMonth (number_of year) i (number_of day)) (one_month name m n h k) ∙ sym f
one_date (day_first day name year) a b (m, h, e) (n, k, f) =
    e ∙ ap (λ (i : ℕ). OfMonth (number_of year) i (number_of day)) (one_month name m n h k) ∙ sym f
one_date (of_year year place) a b h k = h ∙ sym k

stops : (text : List ℕ) → BeginsNoDigit text → Stops is_ascii_digit text
stops [] h = tt
stops (b ∷ t) h = h

-- a text that begins with a day is read to its date
pub begun : (text rest : List ℕ) (date : CalendarDate) → BeginsWithDay text date rest → BeginsNoDigit rest → day_of_text text ≡ Some (date, rest)
begun text rest date (w, parts, whole, names) none =
    let f = day_read w rest parts (stops rest none) in
    ap day_of_text whole ∙ f.read ∙ ap (λ (d : CalendarDate). Some (d, rest)) (one_date w f.date date f.names names)

-- and what was read stands there
pub begins : (text rest : List ℕ) (date : CalendarDate) → day_of_text text ≡ Some (date, rest) → BeginsWithDay text date rest
begins text rest date e =
    let c = day_cut text (date, rest) e in (c.day, c.parts, c.whole, c.names)

pub first_same : (a c : CalendarDate) (b d : List ℕ) → ◌≡◌ {A = Option (CalendarDate × List ℕ)} (Some (a, b)) (Some (c, d)) → a ≡ c
first_same a c b d e = ap (λ (p : CalendarDate × List ℕ). p.0) (same_Some (a, b) (c, d) e)

pub second_same : (a c : CalendarDate) (b d : List ℕ) → ◌≡◌ {A = Option (CalendarDate × List ℕ)} (Some (a, b)) (Some (c, d)) → b ≡ d
second_same a c b d e = ap (λ (p : CalendarDate × List ℕ). p.1) (same_Some (a, b) (c, d) e)

-- the clauses of the reader, for what it hands out as a pair that is seen by two functions
pub all_begin : {A : Type 0} (o : Option A) (date : A → CalendarDate) (rest : A → List ℕ) (text : List ℕ) → MatchOption o (day_of_text text ≡ None) (λ p. day_of_text text ≡ Some (date p, rest p)) → IfSome o (λ p. BeginsWithDay text (date p) (rest p))
all_begin None date rest text e = tt
all_begin (Some p) date rest text e = begins text (rest p) (date p) e

pub only_begun : {A : Type 0} (o : Option A) (date : A → CalendarDate) (rest : A → List ℕ) (text : List ℕ) → MatchOption o (day_of_text text ≡ None) (λ p. day_of_text text ≡ Some (date p, rest p)) → (d : CalendarDate) (r : List ℕ) → BeginsWithDay text d r → BeginsNoDigit r → MatchOption o ⊥ (λ p. (date p ≡ d) × (rest p ≡ r))
only_begun None date rest text e d r h none = absurd (let f = begun text r d h none in cc)
only_begun (Some p) date rest text e d r h none =
    let f = sym e ∙ begun text r d h none in
    (first_same (date p) d (rest p) r f, second_same (date p) d (rest p) r f)
