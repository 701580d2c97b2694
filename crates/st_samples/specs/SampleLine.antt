-- The lines of samples, for each x of the generator. Their forms are a choice of this project among those that the readers of
-- times take.
use Rattle.std.specs.Prelude.{◌≡◌, ℕ, ◌+◌, ◌*◌, ◌/◌, ◌%◌, ◌^◌, List, ◌∷◌, ◌++◌, ℤ, pos, unsigned_abs}
use Rattle.st_text.specs.Ascii.{dash, point, colon}
use Rattle.st_text.specs.Bytes.{decimal_digits, padded}
use Rattle.st_dates.specs.Civil.{IsCivil}
use Rattle.st_dates.specs.Label.{formal, IsPlainLabel}
use Rattle.st_dates.specs.declared.civil.Civil.{Civil}
use Rattle.st_dates.specs.declared.label.Label.{Label}
use Rattle.st_samples.specs.Generator.{seconds, milliseconds}

-- the seconds, a point, and the milliseconds in three digits
abbrev pub seconds_text : ℕ → List ℕ
seconds_text x = decimal_digits (seconds x) ++ (point ∷ padded 3 (milliseconds x))

-- the same in units of 10^-18 s
abbrev pub count_of : ℕ → ℤ
count_of x = pos (seconds x * 10 ^ 18 + milliseconds x * 10 ^ 15)

-- YYYY-MM-DD
abbrev pub date_text : Civil → List ℕ
date_text c = padded 4 (unsigned_abs c.year) ++ (dash ∷ (padded 2 c.month ++ (dash ∷ padded 2 c.day)))

-- the byte `T`
abbrev pub letter_t : ℕ
letter_t = 84

-- HH:MM:SS.mmm, of the milliseconds of a day that have passed
abbrev pub clock_text : ℕ → List ℕ
clock_text passed =
    padded 2 (passed / 3_600_000)
    ++ (colon ∷ (padded 2 (passed / 60_000 % 60)
    ++ (colon ∷ (padded 2 (passed / 1_000 % 60)
    ++ (point ∷ padded 3 (passed % 1_000))))))

abbrev pub label_text : Civil → ℕ → List ℕ
label_text date passed = date_text date ++ (letter_t ∷ clock_text passed)

-- YYYY-MM-DDTHH:MM:SS.mmm of a label, of whose day whole milliseconds have passed
pub record IsLabelText (label : Label) (text : List ℕ) : Type 0 where
  pub civil : Civil
  pub passed : ℕ
  pub date : IsCivil label.day civil
  pub time : label.of_day ≡ pos (passed * 10 ^ 15)
  pub whole : text ≡ label_text civil passed

-- the text of the label whose formal count past 2000-01-01 12:00:00 is that of x
pub record IsLabelLine (x : ℕ) (line : List ℕ) : Type 0 where
  pub label : Label
  pub plain : IsPlainLabel label
  pub counts : formal label ≡ count_of x
  pub text : IsLabelText label line
