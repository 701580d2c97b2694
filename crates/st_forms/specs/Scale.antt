-- The word after a time that names its system. Source: Time Required Reading, for the names of the
-- systems; TDT is another name of TT, and ET of TDB.
use Rattle.std.specs.Prelude.{ℕ, ◌⊎◌, List, [], ◌++◌, codes}
use Rattle.st_dates.specs.Names.{AreSameLetters}
use Rattle.st_dates.specs.declared.system.System.{System}
use Rattle.st_dates.specs.declared.system.System.TheVariants.{Utc, Tai, Tt, Tdb, Sclk}
use Rattle.st_forms.specs.DateForm.{IsGap}

-- the word names the system, in any letter case; no word names a clock
abbrev pub NamesSystem : List ℕ → System → Type 0
NamesSystem word Utc = AreSameLetters word (codes "UTC")
NamesSystem word Tai = AreSameLetters word (codes "TAI")
NamesSystem word Tt = AreSameLetters word (codes "TT") ⊎ AreSameLetters word (codes "TDT")
NamesSystem word Tdb = AreSameLetters word (codes "TDB") ⊎ AreSameLetters word (codes "ET")
NamesSystem word Sclk = ⊥

-- what stands after a date and its time: nothing, or blanks and a word
pub data ScaleText : Type 0 where
  unnamed : ScaleText
  by_word : List ℕ → List ℕ → ScaleText

abbrev pub scale_spelling : ScaleText → List ℕ
scale_spelling unnamed = []
scale_spelling (by_word gap word) = gap ++ word

-- the word names one of the systems
abbrev pub AreScaleParts : ScaleText → Type 0
AreScaleParts unnamed = Unit {0}
AreScaleParts (by_word gap word) = IsGap gap × ((system : System) × NamesSystem word system)

-- no word stands there, or one that names this system
abbrev pub IsOfSystem : ScaleText → System → Type 0
IsOfSystem unnamed system = Unit {0}
IsOfSystem (by_word gap word) system = NamesSystem word system
