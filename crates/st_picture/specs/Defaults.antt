-- The two pictures in which times are printed where no other is asked for, and their texts as plain formulas.
use Rattle.std.specs.Prelude.{◌≡◌, ℕ, ◌+◌, ◌*◌, ◌/◌, ◌%◌, ◌<◌, ◌≤◌, ◌⊎◌, ℤ, pos, unsigned_abs, List, ◌∷◌, ◌++◌, codes}
use Rattle.st_fraction.specs.Fraction.{Fraction, whole, ◌*ᶠ◌}
use Rattle.st_fraction.specs.Floor.{IsFloor}
use Rattle.st_text.specs.Bytes.{padded}
use Rattle.st_decimal.specs.Fixed.{fixed}
use Rattle.st_dates.specs.Civil.{IsCivil}
use Rattle.st_dates.specs.declared.civil.Civil.{Civil}
use Rattle.st_leaps.specs.Label.{Stamp, IsLabelOf}

-- of labels
abbrev pub calendar_picture : List ℕ
calendar_picture = codes "YYYY-MM-DDTHR:MN:SC.###"

-- of seconds past J2000
abbrev pub seconds_picture : List ℕ
seconds_picture = codes "SP2000.######"

-- the milliseconds of a day, as hours, minutes and milliseconds; from 86,400 s on it is still 23:59, with seconds from 60 on
pub record IsMillisOfDay (millis : ℤ) (hour minute rest : ℕ) : Type 0 where
  pub sum : millis ≡ pos ((hour * 60 + minute) * 60_000 + rest)
  pub hours : hour ≤ 23
  pub minutes : minute ≤ 59
  pub within : (rest < 60_000) ⊎ ((hour ≡ 23) × (minute ≡ 59))

-- `YYYY-MM-DDTHH:MM:SS.mmm`; 45 is `-`, 84 `T`, 58 `:`, 46 `.`
abbrev pub calendar_line : Civil → ℕ → ℕ → ℕ → List ℕ
calendar_line date hour minute rest =
    padded 4 (unsigned_abs date.year) ++ (45 ∷ (padded 2 date.month ++ (45 ∷ (padded 2 date.day ++ (84 ∷ (padded 2 hour ++ (58 ∷ (padded 2 minute
    ++ (58 ∷ (padded 2 (rest / 1000) ++ (46 ∷ padded 3 (rest % 1000))))))))))))

-- the text of a day and of the milliseconds that have passed of it
pub record IsCalendarText (day millis : ℤ) (text : List ℕ) : Type 0 where
  pub date : Civil
  pub is_date : IsCivil day date
  pub hour : ℕ
  pub minute : ℕ
  pub rest : ℕ
  pub time : IsMillisOfDay millis hour minute rest
  pub line : text ≡ calendar_line date hour minute rest

-- the text of a value: that of its label, with the greatest whole number of milliseconds that is at most the label's second
pub record HasCalendarText (count : ℤ → ℤ) (v : Fraction) (text : List ℕ) : Type 0 where
  pub label : Stamp
  pub is_label : IsLabelOf count v label
  pub millis : ℤ
  pub truncated : IsFloor (label.second *ᶠ whole (pos 1000)) millis
  pub is_text : IsCalendarText label.day millis text

-- the text of a value in seconds: the greatest whole number of microseconds that is at most it, with six decimals
pub record HasSecondsText (v : Fraction) (text : List ℕ) : Type 0 where
  pub micros : ℤ
  pub truncated : IsFloor (v *ᶠ whole (pos 1_000_000)) micros
  pub is_text : text ≡ fixed micros 6
