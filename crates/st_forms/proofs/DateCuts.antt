-- A text that was read to a date begins with one of the forms of a date.
use Rattle.std.proofs.Common.{◌≡◌, ℕ, inl, inr, refl, ap, ◌∙◌, subst, List, ◌∷◌, ◌++◌, Option, Some, append_assoc}
use Rattle.std.proofs.lemmas.Option.{same_Some}
use Rattle.std.specs.Option.{option_or}
use Rattle.st_text.specs.Bytes.{number_of}
use Rattle.st_text.specs.Lines.{skip_blanks}
use Rattle.st_text.specs.Scan.{◌>>=◌, after}
use Rattle.st_text.proofs.Logic.{bound}
use Rattle.st_text.proofs.Runs.{after_is}
use Rattle.st_dates.specs.DayText.{DayText, numeric, named, of_year, day_spelling, AreDayParts, NamesDate}
use Rattle.st_dates.specs.DayText.{day_first as day_of_kernel}
use Rattle.st_dates.specs.DayTextMachine.{day_of_text}
use Rattle.st_dates.specs.Names.{NamesMonth}
use Rattle.st_dates.specs.NamesMachine.{month_named}
use Rattle.st_dates.specs.declared.day_text.CalendarDate.{CalendarDate}
use Rattle.st_dates.specs.declared.day_text.CalendarDate.TheVariants.{OfMonth}
use Rattle.st_dates.proofs.DayCuts.{day_cut}
use Rattle.st_dates.proofs.NameLaws.{names}
use Rattle.st_forms.specs.DateForm.{DateText, year_month_day, year_place, year_name_day, day_name_year, name_day_year, month_day_year, dashes, gaps, date_spelling, day_text, IsGap, AreDateParts}
use Rattle.st_forms.specs.DateMachine.{named_month, year_first, day_first, slashed, month_first, date_of_text}
use Rattle.st_forms.specs.WordMachine.{run, word, past_word, past_gap}
use Rattle.st_forms.proofs.Choices.{either_of}
use Rattle.st_forms.proofs.Cutting.{run_cut, GapCut, gap_cut, skip_cut, word_joined}

abbrev pub Dated : Type 0
Dated = CalendarDate × List ℕ

-- what a text was that was read to a date
pub record DateCut (text : List ℕ) (p : CalendarDate × List ℕ) : Type 0 where
  pub date : DateText
  pub parts : AreDateParts date
  pub whole : text ≡ date_spelling date ++ p.1
  pub names : NamesDate (day_text date) p.0

-- the four dashed forms
from_kernel : (day : DayText) (text : List ℕ) (p : Dated) → AreDayParts day → text ≡ day_spelling day ++ p.1 → NamesDate day p.0 → DateCut text p
from_kernel (numeric year month day) text p h e n = record { date = year_month_day year month day; parts = (h, tt); whole = e; names = n }
from_kernel (named year name day) text p h e n = record { date = year_name_day year dashes name day; parts = (h, tt); whole = e; names = n }
from_kernel (day_of_kernel day name year) text p (hd, hn, hy) e n = record { date = day_name_year day dashes name year; parts = ((hy, hn, hd), tt); whole = e; names = n }
from_kernel (of_year year place) text p h e n = record { date = year_place year place; parts = (h, tt); whole = e; names = n }

dashed_cut : (text : List ℕ) (p : Dated) → day_of_text text ≡ Some p → DateCut text p
dashed_cut text p e = let c = day_cut text p e in from_kernel c.day text p c.parts c.whole c.names

record MonthCut (text : List ℕ) (p : ℕ × List ℕ) : Type 0 where
  name : List ℕ
  gap : List ℕ
  named_by : NamesMonth name p.0
  is_gap : IsGap gap
  whole : text ≡ name ++ (gap ++ p.1)

month_of : (text : List ℕ) (m : ℕ) (rest : List ℕ) → month_named (word text) ≡ Some m → GapCut (past_word text) rest → MonthCut text (m, rest)
month_of text m rest e g = record {
  name = word text;
  gap = g.gap;
  named_by = names (word text) m e;
  is_gap = g.is_gap;
  whole = word_joined text ∙ ap (λ (t : List ℕ). word text ++ t) g.whole;
}

month_cut : (text : List ℕ) (p : ℕ × List ℕ) → named_month text ≡ Some p → MonthCut text p
unfolding named_month
month_cut text p e =
    let last : ℕ → List ℕ → Option (ℕ × List ℕ) = λ m t. Some (m, t) in
    let next : ℕ → Option (ℕ × List ℕ) = λ m. past_gap (past_word text) >>= λ t. Some (m, t) in
    let a = bound (month_named (word text)) next p e in
    let b = bound (past_gap (past_word text)) (last a.0) p a.2 in
    let P : ℕ × List ℕ → Type 0 = λ q. MonthCut text q in
    let same : ◌≡◌ {A = ℕ × List ℕ} (a.0, b.0) p = same_Some (a.0, b.0) p b.2 in
    subst P same (month_of text a.0 b.0 a.1 (gap_cut (past_word text) b.0 b.1))

four_apart : (a b c d e rest : List ℕ) → a ++ (b ++ (c ++ (d ++ (e ++ rest)))) ≡ (a ++ (b ++ (c ++ (d ++ e)))) ++ rest
four_apart a b c d e rest = simp append_assoc

four_glued : (text a x b y c d z e rest : List ℕ) → text ≡ a ++ x → x ≡ b ++ y → y ≡ c ++ (d ++ z) → z ≡ e ++ rest → text ≡ (a ++ (b ++ (c ++ (d ++ e)))) ++ rest
four_glued text a x b y c d z e rest p q r s =
    p ∙ ap (λ (v : List ℕ). a ++ v) (q ∙ ap (λ (v : List ℕ). b ++ v) (r ∙ ap (λ (v : List ℕ). c ++ (d ++ v)) s))
    ∙ four_apart a b c d e rest

-- a date of three numbers
same_date : (y y' m m' d d' : ℕ) → y ≡ y' → m ≡ m' → d ≡ d' → OfMonth y m d ≡ OfMonth y' m' d'
same_date y y' m m' d d' e f g = rw (e, f, g) refl

year_first_cut : (text : List ℕ) (p : Dated) → year_first text ≡ Some p → DateCut text p
unfolding year_first
year_first_cut text p e =
    let last : ℕ → ℕ → ℕ × List ℕ → Option Dated = λ y m d. Some (OfMonth y m d.0, d.1) in
    let third : ℕ → ℕ × List ℕ → Option Dated = λ y m. run 1 2 m.1 >>= λ d. Some (OfMonth y m.0 d.0, d.1) in
    let second : ℕ → List ℕ → Option Dated = λ y t. named_month t >>= λ m. run 1 2 m.1 >>= λ d. Some (OfMonth y m.0 d.0, d.1) in
    let first : ℕ × List ℕ → Option Dated = λ y. past_gap y.1 >>= λ t. named_month t >>= λ m. run 1 2 m.1 >>= λ d. Some (OfMonth y.0 m.0 d.0, d.1) in
    let a = bound (run 4 4 text) first p e in
    let b = bound (past_gap a.0.1) (second a.0.0) p a.2 in
    let c = bound (named_month b.0) (third a.0.0) p b.2 in
    let d = bound (run 1 2 c.0.1) (last a.0.0 c.0.0) p c.2 in
    let year = run_cut 4 4 text a.0 a.1 in
    let gap = gap_cut a.0.1 b.0 b.1 in
    let month = month_cut b.0 c.0 c.1 in
    let day = run_cut 1 2 c.0.1 d.0 d.1 in
    let same : ◌≡◌ {A = Dated} (OfMonth a.0.0 c.0.0 d.0.0, d.0.1) p = same_Some (OfMonth a.0.0 c.0.0 d.0.0, d.0.1) p d.2 in
    let named : OfMonth a.0.0 c.0.0 d.0.0 ≡ OfMonth (number_of year.digits) c.0.0 (number_of day.digits) = same_date _ _ _ _ _ _ year.number refl day.number in
    let made : DateCut text (OfMonth a.0.0 c.0.0 d.0.0, d.0.1) = record {
      date = year_name_day year.digits (gaps gap.gap month.gap) month.name day.digits;
      parts = ((year.is_run, (c.0.0, month.named_by), day.is_run), (gap.is_gap, month.is_gap));
      whole = four_glued text year.digits a.0.1 gap.gap b.0 month.name month.gap c.0.1 day.digits d.0.1 year.whole gap.whole month.whole day.whole;
      names = (c.0.0, month.named_by, named);
    } in
    subst (λ (q : Dated). DateCut text q) same made

day_first_cut : (text : List ℕ) (p : Dated) → day_first text ≡ Some p → DateCut text p
unfolding day_first
day_first_cut text p e =
    let last : ℕ → ℕ → ℕ × List ℕ → Option Dated = λ d m y. Some (OfMonth y.0 m d, y.1) in
    let third : ℕ → ℕ × List ℕ → Option Dated = λ d m. run 4 4 m.1 >>= λ y. Some (OfMonth y.0 m.0 d, y.1) in
    let second : ℕ → List ℕ → Option Dated = λ d t. named_month t >>= λ m. run 4 4 m.1 >>= λ y. Some (OfMonth y.0 m.0 d, y.1) in
    let first : ℕ × List ℕ → Option Dated = λ d. past_gap d.1 >>= λ t. named_month t >>= λ m. run 4 4 m.1 >>= λ y. Some (OfMonth y.0 m.0 d.0, y.1) in
    let a = bound (run 1 2 text) first p e in
    let b = bound (past_gap a.0.1) (second a.0.0) p a.2 in
    let c = bound (named_month b.0) (third a.0.0) p b.2 in
    let d = bound (run 4 4 c.0.1) (last a.0.0 c.0.0) p c.2 in
    let day = run_cut 1 2 text a.0 a.1 in
    let gap = gap_cut a.0.1 b.0 b.1 in
    let month = month_cut b.0 c.0 c.1 in
    let year = run_cut 4 4 c.0.1 d.0 d.1 in
    let same : ◌≡◌ {A = Dated} (OfMonth d.0.0 c.0.0 a.0.0, d.0.1) p = same_Some (OfMonth d.0.0 c.0.0 a.0.0, d.0.1) p d.2 in
    let named : OfMonth d.0.0 c.0.0 a.0.0 ≡ OfMonth (number_of year.digits) c.0.0 (number_of day.digits) = same_date _ _ _ _ _ _ year.number refl day.number in
    let made : DateCut text (OfMonth d.0.0 c.0.0 a.0.0, d.0.1) = record {
      date = day_name_year day.digits (gaps gap.gap month.gap) month.name year.digits;
      parts = ((year.is_run, (c.0.0, month.named_by), day.is_run), (gap.is_gap, month.is_gap));
      whole = four_glued text day.digits a.0.1 gap.gap b.0 month.name month.gap c.0.1 year.digits d.0.1 day.whole gap.whole month.whole year.whole;
      names = (c.0.0, month.named_by, named);
    } in
    subst (λ (q : Dated). DateCut text q) same made

slash_apart : (a b c rest : List ℕ) → a ++ (47 ∷ (b ++ (47 ∷ (c ++ rest)))) ≡ (a ++ (47 ∷ (b ++ (47 ∷ c)))) ++ rest
slash_apart a b c rest = simp append_assoc

slash_glued : (text a x t b y u c rest : List ℕ) → text ≡ a ++ x → x ≡ 47 ∷ t → t ≡ b ++ y → y ≡ 47 ∷ u → u ≡ c ++ rest → text ≡ (a ++ (47 ∷ (b ++ (47 ∷ c)))) ++ rest
slash_glued text a x t b y u c rest p q r s v =
    p ∙ ap (λ (w : List ℕ). a ++ w) (q ∙ ap (λ (w : List ℕ). 47 ∷ w) (r ∙ ap (λ (w : List ℕ). b ++ w) (s ∙ ap (λ (w : List ℕ). 47 ∷ w) v)))
    ∙ slash_apart a b c rest

slashed_cut : (text : List ℕ) (p : Dated) → slashed text ≡ Some p → DateCut text p
unfolding slashed
slashed_cut text p e =
    let last : ℕ → ℕ → ℕ × List ℕ → Option Dated = λ m d y. Some (OfMonth y.0 m d, y.1) in
    let fourth : ℕ → ℕ → List ℕ → Option Dated = λ m d u. run 4 4 u >>= λ y. Some (OfMonth y.0 m d, y.1) in
    let third : ℕ → ℕ × List ℕ → Option Dated = λ m d. after 47 d.1 >>= λ u. run 4 4 u >>= λ y. Some (OfMonth y.0 m d.0, y.1) in
    let second : ℕ → List ℕ → Option Dated = λ m t. run 1 2 t >>= λ d. after 47 d.1 >>= λ u. run 4 4 u >>= λ y. Some (OfMonth y.0 m d.0, y.1) in
    let first : ℕ × List ℕ → Option Dated = λ m. after 47 m.1 >>= λ t. run 1 2 t >>= λ d. after 47 d.1 >>= λ u. run 4 4 u >>= λ y. Some (OfMonth y.0 m.0 d.0, y.1) in
    let a = bound (run 1 2 text) first p e in
    let b = bound (after 47 a.0.1) (second a.0.0) p a.2 in
    let c = bound (run 1 2 b.0) (third a.0.0) p b.2 in
    let d = bound (after 47 c.0.1) (fourth a.0.0 c.0.0) p c.2 in
    let f = bound (run 4 4 d.0) (last a.0.0 c.0.0) p d.2 in
    let month = run_cut 1 2 text a.0 a.1 in
    let day = run_cut 1 2 b.0 c.0 c.1 in
    let year = run_cut 4 4 d.0 f.0 f.1 in
    let same : ◌≡◌ {A = Dated} (OfMonth f.0.0 a.0.0 c.0.0, f.0.1) p = same_Some (OfMonth f.0.0 a.0.0 c.0.0, f.0.1) p f.2 in
    let made : DateCut text (OfMonth f.0.0 a.0.0 c.0.0, f.0.1) = record {
      date = month_day_year month.digits day.digits year.digits;
      parts = ((year.is_run, month.is_run, day.is_run), tt);
      whole = slash_glued text month.digits a.0.1 b.0 day.digits c.0.1 d.0 year.digits f.0.1 month.whole (after_is 47 a.0.1 b.0 b.1) day.whole (after_is 47 c.0.1 d.0 d.1) year.whole;
      names = same_date _ _ _ _ _ _ year.number month.number day.number;
    } in
    subst (λ (q : Dated). DateCut text q) same made

comma_apart : (a b c d e rest : List ℕ) → a ++ (b ++ (c ++ (44 ∷ (d ++ (e ++ rest))))) ≡ (a ++ (b ++ (c ++ (44 ∷ (d ++ e))))) ++ rest
comma_apart a b c d e rest = simp append_assoc

comma_glued : (text a b x c y t d u e rest : List ℕ) → text ≡ a ++ (b ++ x) → x ≡ c ++ y → y ≡ 44 ∷ t → t ≡ d ++ u → u ≡ e ++ rest → text ≡ (a ++ (b ++ (c ++ (44 ∷ (d ++ e))))) ++ rest
comma_glued text a b x c y t d u e rest p q r s v =
    p ∙ ap (λ (w : List ℕ). a ++ (b ++ w)) (q ∙ ap (λ (w : List ℕ). c ++ w) (r ∙ ap (λ (w : List ℕ). 44 ∷ w) (s ∙ ap (λ (w : List ℕ). d ++ w) v)))
    ∙ comma_apart a b c d e rest

month_first_cut : (text : List ℕ) (p : Dated) → month_first text ≡ Some p → DateCut text p
unfolding month_first
month_first_cut text p e =
    let last : ℕ → ℕ → ℕ × List ℕ → Option Dated = λ m d y. Some (OfMonth y.0 m d, y.1) in
    let third : ℕ → ℕ → List ℕ → Option Dated = λ m d t. run 4 4 (skip_blanks t) >>= λ y. Some (OfMonth y.0 m d, y.1) in
    let second : ℕ → ℕ × List ℕ → Option Dated = λ m d. after 44 d.1 >>= λ t. run 4 4 (skip_blanks t) >>= λ y. Some (OfMonth y.0 m d.0, y.1) in
    let first : ℕ × List ℕ → Option Dated = λ m. run 1 2 m.1 >>= λ d. after 44 d.1 >>= λ t. run 4 4 (skip_blanks t) >>= λ y. Some (OfMonth y.0 m.0 d.0, y.1) in
    let a = bound (named_month text) first p e in
    let b = bound (run 1 2 a.0.1) (second a.0.0) p a.2 in
    let c = bound (after 44 b.0.1) (third a.0.0 b.0.0) p b.2 in
    let d = bound (run 4 4 (skip_blanks c.0)) (last a.0.0 b.0.0) p c.2 in
    let month = month_cut text a.0 a.1 in
    let day = run_cut 1 2 a.0.1 b.0 b.1 in
    let skip = skip_cut c.0 in
    let year = run_cut 4 4 (skip_blanks c.0) d.0 d.1 in
    let same : ◌≡◌ {A = Dated} (OfMonth d.0.0 a.0.0 b.0.0, d.0.1) p = same_Some (OfMonth d.0.0 a.0.0 b.0.0, d.0.1) p d.2 in
    let named : OfMonth d.0.0 a.0.0 b.0.0 ≡ OfMonth (number_of year.digits) a.0.0 (number_of day.digits) = same_date _ _ _ _ _ _ year.number refl day.number in
    let made : DateCut text (OfMonth d.0.0 a.0.0 b.0.0, d.0.1) = record {
      date = name_day_year month.name month.gap day.digits skip.blanks year.digits;
      parts = ((year.is_run, (a.0.0, month.named_by), day.is_run), (month.is_gap, skip.are));
      whole = comma_glued text month.name month.gap a.0.1 day.digits b.0.1 c.0 skip.blanks (skip_blanks c.0) year.digits d.0.1 month.whole day.whole (after_is 44 b.0.1 c.0 c.1) skip.whole year.whole;
      names = (a.0.0, month.named_by, named);
    } in
    subst (λ (q : Dated). DateCut text q) same made

pub date_cut : (text : List ℕ) (p : CalendarDate × List ℕ) → date_of_text text ≡ Some p → DateCut text p
unfolding date_of_text
date_cut text p e =
    elim (either_of (day_of_text text) (option_or (year_first text) (option_or (day_first text) (option_or (slashed text) (month_first text)))) p e) [
      | inl h ↦ dashed_cut text p h
      | inr e ↦ elim (either_of (year_first text) (option_or (day_first text) (option_or (slashed text) (month_first text))) p e) [
        | inl h ↦ year_first_cut text p h
        | inr e ↦ elim (either_of (day_first text) (option_or (slashed text) (month_first text)) p e) [
          | inl h ↦ day_first_cut text p h
          | inr e ↦ elim (either_of (slashed text) (month_first text) p e) [
            | inl h ↦ slashed_cut text p h
            | inr h ↦ month_first_cut text p h
          ]
        ]
      ]
    ]
