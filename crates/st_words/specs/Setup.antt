-- The files and the clock that a loaded setup names. Source: the CHRONOS User's Guide, on the setup file.
use Rattle.std.specs.Prelude.{◌≡◌, ℕ, ◌≤◌, pos, neg_ℤ, Bool, true, false, ◌⊎◌, List, [], ◌∷◌, ◌++◌, codes, Result, Ok, Err}
use Rattle.st_decimal.specs.Scaling.{IsWhole}
use Rattle.st_decimal.specs.declared.number.Dec.{Dec}
use Rattle.st_kernel_text.specs.declared.value.Value.{Value}
use Rattle.st_kernel_text.specs.declared.value.Value.TheVariants.{Number, Text}
use Rattle.st_pool.specs.Variable.{loaded_values, loaded_kind}
use Rattle.st_pool.specs.declared.kernel.Kernel.{Kernel}
use Rattle.st_pool.specs.declared.kind.Kind.{Kind}
use Rattle.st_pool.specs.declared.kind.Kind.TheVariants.{Absent, Numbers, Texts, Mixed}
use Rattle.st_ticks.specs.declared.variable.Var.TheVariants.{LeapsecondsFile, SclkFile}
use Rattle.st_words.specs.declared.fault.IdFault.{IdFault}
use Rattle.st_words.specs.declared.fault.IdFault.TheVariants.{Missing, WrongKind as NoNumber, BadId}
use Rattle.st_words.specs.declared.fault.SetupFault.{SetupFault}
use Rattle.st_words.specs.declared.fault.SetupFault.TheVariants.{WrongKind}

abbrev pub leapseconds_name : List ℕ
leapseconds_name = codes "LEAPSECONDS_FILE"

abbrev pub clock_file_name : List ℕ
clock_file_name = codes "SCLK_FILE"

abbrev pub id_name : List ℕ
id_name = codes "SPACECRAFT_ID"

-- the texts among values
abbrev pub texts_in : List Value → List (List ℕ)
texts_in [] = []
texts_in ((Text text) ∷ more) = text ∷ texts_in more
texts_in ((Number d) ∷ more) = texts_in more

-- whether a variable of the kind has no value that is no text
abbrev pub is_of_texts : Kind → Bool
is_of_texts Absent = true
is_of_texts Texts = true
is_of_texts Numbers = false
is_of_texts Mixed = false

-- whether the variable of a name has texts alone, or is absent
abbrev pub names_files : List ℕ → List Kernel → Bool
names_files name loaded = is_of_texts (loaded_kind name loaded)

-- The files that a setup names: those of the leapseconds kernels before those of the clock kernels.
abbrev pub SetupFiles : List Kernel → Result (List (List ℕ)) SetupFault → Type 0
SetupFiles loaded (Ok names) =
    (names_files leapseconds_name loaded ≡ true) × (names_files clock_file_name loaded ≡ true)
    × (names ≡ texts_in (loaded_values leapseconds_name loaded) ++ texts_in (loaded_values clock_file_name loaded))
SetupFiles loaded (Err (WrongKind LeapsecondsFile)) = names_files leapseconds_name loaded ≡ false
SetupFiles loaded (Err (WrongKind SclkFile)) =
    (names_files leapseconds_name loaded ≡ true) × (names_files clock_file_name loaded ≡ false)
SetupFiles loaded (Err fault) = ⊥

-- n is the magnitude of the id that the decimal is: a whole number from -999,999,999 to -1
pub record IsId (number : Dec) (n : ℕ) : Type 0 where
  pub whole : IsWhole number (neg_ℤ (pos n))
  pub some : 1 ≤ n
  pub few : n ≤ 999_999_999

-- the values are one such id
pub record IsClockOf (values : List Value) (n : ℕ) : Type 0 where
  pub number : Dec
  pub alone : values ≡ Number number ∷ []
  pub id : IsId number n

-- The clock that a setup names, or why it names none.
abbrev pub SetupClock : List Kernel → Result ℕ IdFault → Type 0
SetupClock loaded (Ok n) = (loaded_kind id_name loaded ≡ Numbers) × IsClockOf (loaded_values id_name loaded) n
SetupClock loaded (Err Missing) = loaded_kind id_name loaded ≡ Absent
SetupClock loaded (Err NoNumber) = (loaded_kind id_name loaded ≡ Texts) ⊎ (loaded_kind id_name loaded ≡ Mixed)
SetupClock loaded (Err BadId) = (loaded_kind id_name loaded ≡ Numbers) × ((n : ℕ) → IsClockOf (loaded_values id_name loaded) n → ⊥)
