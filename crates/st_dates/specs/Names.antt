-- The names of months and weekdays. Source for the names that are read: Time Required Reading,
-- where a month is spelled out or shortened to its first three letters, in any letter case.
use Rattle.std.specs.Prelude.{◌≡◌, ℕ, ◌-◌, ◌≤◌, ◌⊎◌, List, [], ◌∷◌, map, take, slice_index_or, codes}
use Rattle.std.specs.Char.{to_ascii_lowercase}

-- from January to December
abbrev pub month_names : List (List ℕ)
month_names =
    codes "JANUARY" ∷ codes "FEBRUARY" ∷ codes "MARCH" ∷ codes "APRIL" ∷ codes "MAY" ∷ codes "JUNE"
    ∷ codes "JULY" ∷ codes "AUGUST" ∷ codes "SEPTEMBER" ∷ codes "OCTOBER" ∷ codes "NOVEMBER"
    ∷ codes "DECEMBER" ∷ []

-- the full name of a month from 1 to 12
abbrev pub name_of_month : ℕ → List ℕ
name_of_month m = slice_index_or month_names (m - 1) []

-- a text with its letters in lower case
abbrev pub lowered : List ℕ → List ℕ
lowered text = map to_ascii_lowercase text

-- both texts are the same but for the case of letters
abbrev pub AreSameLetters : List ℕ → List ℕ → Type 0
AreSameLetters a b = lowered a ≡ lowered b

-- The text is the name of month m, or the first three letters of it, in any letter case.
pub record NamesMonth (text : List ℕ) (m : ℕ) : Type 0 where
  pub month_from : 1 ≤ m
  pub month_to : m ≤ 12
  pub letters : AreSameLetters text (name_of_month m) ⊎ AreSameLetters text (take 3 (name_of_month m))

-- from Sunday to Saturday
abbrev pub weekday_names : List (List ℕ)
weekday_names =
    codes "SUNDAY" ∷ codes "MONDAY" ∷ codes "TUESDAY" ∷ codes "WEDNESDAY" ∷ codes "THURSDAY"
    ∷ codes "FRIDAY" ∷ codes "SATURDAY" ∷ []

-- the full name of a weekday from 0 for Sunday to 6
abbrev pub name_of_weekday : ℕ → List ℕ
name_of_weekday w = slice_index_or weekday_names w []
