-- How a date is read: each form from the left, one after the other.
use Rattle.std.specs.Prelude.{ℕ, List, Option, Some}
use Rattle.std.specs.Option.{option_or}
use Rattle.st_text.specs.Lines.{skip_blanks}
use Rattle.st_text.specs.Scan.{◌>>=◌, after}
use Rattle.st_dates.specs.DayTextMachine.{day_of_text}
use Rattle.st_dates.specs.NamesMachine.{month_named}
use Rattle.st_dates.specs.declared.day_text.CalendarDate.{CalendarDate}
use Rattle.st_dates.specs.declared.day_text.CalendarDate.TheVariants.{OfMonth}
use Rattle.st_forms.specs.WordMachine.{run, word, past_word, past_gap}

-- a month's name up to a blank, and what stands after it and the blanks
unfoldable pub named_month : List ℕ → Option (ℕ × List ℕ)
named_month text = month_named (word text) >>= λ m. past_gap (past_word text) >>= λ t. Some (m, t)

-- YYYY MON N1
unfoldable pub year_first : List ℕ → Option (CalendarDate × List ℕ)
year_first text =
    run 4 4 text >>= λ y. past_gap y.1 >>= λ t. named_month t
    >>= λ m. run 1 2 m.1 >>= λ d. Some (OfMonth y.0 m.0 d.0, d.1)

-- N1 MON YYYY
unfoldable pub day_first : List ℕ → Option (CalendarDate × List ℕ)
day_first text =
    run 1 2 text >>= λ d. past_gap d.1 >>= λ t. named_month t
    >>= λ m. run 4 4 m.1 >>= λ y. Some (OfMonth y.0 m.0 d.0, y.1)

-- N1/N1/YYYY
unfoldable pub slashed : List ℕ → Option (CalendarDate × List ℕ)
slashed text =
    run 1 2 text >>= λ m. after 47 m.1 >>= λ t. run 1 2 t
    >>= λ d. after 47 d.1 >>= λ u. run 4 4 u >>= λ y. Some (OfMonth y.0 m.0 d.0, y.1)

-- MON N1, YYYY
unfoldable pub month_first : List ℕ → Option (CalendarDate × List ℕ)
month_first text =
    named_month text >>= λ m. run 1 2 m.1
    >>= λ d. after 44 d.1 >>= λ t. run 4 4 (skip_blanks t) >>= λ y. Some (OfMonth y.0 m.0 d.0, y.1)

-- the date with which a text begins, and the rest
unfoldable pub date_of_text : List ℕ → Option (CalendarDate × List ℕ)
date_of_text text =
    option_or (day_of_text text)
    (option_or (year_first text) (option_or (day_first text) (option_or (slashed text) (month_first text))))
