-- How month names are looked up: each month in turn, from January on.
use Rattle.std.specs.Prelude.{ℕ, suc, ◌||◌, Bool, List, [], ◌∷◌, take, Option, Some, None, if◌then◌else◌}
use Rattle.std.specs.Str.{bytes_eq}
use Rattle.st_dates.specs.Names.{month_names, lowered}

-- whether a text in lower case is a month's full name, or its first three letters
abbrev pub is_name : List ℕ → List ℕ → Bool
is_name text full = bytes_eq text (lowered full) || bytes_eq text (lowered (take 3 full))

-- the number of the first name in the list that the text is, where the list begins with month n
unfoldable pub month_from : ℕ → List ℕ → List (List ℕ) → Option ℕ
month_from n text [] = None
month_from n text (full ∷ names) = if is_name text full then Some n else month_from (suc n) text names

abbrev pub month_named : List ℕ → Option ℕ
month_named text = month_from 1 (lowered text) month_names
