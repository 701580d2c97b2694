-- How what follows a date is read: a time, and the word that names a system.
use Rattle.std.specs.Prelude.{ℕ, Bool, false, ◌||◌, ◌==◌, List, [], ◌∷◌, codes, Option, Some, None, if◌then◌else◌}
use Rattle.std.specs.Char.{is_ascii_digit}
use Rattle.std.specs.Str.{bytes_eq}
use Rattle.st_text.specs.Scan.{◌>>=◌}
use Rattle.st_dates.specs.Names.{lowered}
use Rattle.st_dates.specs.TimeTextMachine.{clock_of}
use Rattle.st_dates.specs.declared.clock.TimeOfDay.{TimeOfDay}
use Rattle.st_dates.specs.declared.system.System.{System}
use Rattle.st_dates.specs.declared.system.System.TheVariants.{Utc, Tai, Tt, Tdb}
use Rattle.st_forms.specs.WordMachine.{word, past_word, past_gap}

-- both texts are the same but for the case of letters
abbrev pub is_word : List ℕ → List ℕ → Bool
is_word text full = bytes_eq (lowered text) (lowered full)

-- the system that a word names
unfoldable pub system_named : List ℕ → Option System
system_named text =
    if is_word text (codes "UTC") then Some Utc
    else (if is_word text (codes "TAI") then Some Tai
    else (if is_word text (codes "TT") || is_word text (codes "TDT") then Some Tt
    else (if is_word text (codes "TDB") || is_word text (codes "ET") then Some Tdb
    else None)))

-- blanks and the word that names a system, or nothing
unfoldable pub scale_of_text : List ℕ → Option (Option System)
scale_of_text [] = Some None
scale_of_text (b ∷ t) = past_gap (b ∷ t) >>= λ u. system_named u >>= λ s. Some (Some s)

-- what stands after a date: a time of day, and the system that a word names
abbrev pub Tail : Type 0
Tail = TimeOfDay × Option System

abbrev pub midnight : TimeOfDay
midnight = record { minute = 0; units = 0 }

-- a time of day up to a blank, and what follows it
unfoldable pub timed : List ℕ → Option Tail
timed text = clock_of 60 (word text) >>= λ c. scale_of_text (past_word text) >>= λ s. Some (c, s)

abbrev pub begins_with_digit : List ℕ → Bool
begins_with_digit [] = false
begins_with_digit (b ∷ t) = is_ascii_digit b

-- after blanks: a time of day, or the word that names a system
unfoldable pub spaced : List ℕ → Option Tail
spaced text =
    if begins_with_digit text then timed text
    else (system_named text >>= λ s. Some (midnight, Some s))

-- the whole tail; 84 is the byte `T` and 116 `t`
unfoldable pub tail_of_text : List ℕ → Option Tail
tail_of_text [] = Some (midnight, None)
tail_of_text (b ∷ t) =
    if (b == 84) || (b == 116) then timed t
    else (past_gap (b ∷ t) >>= spaced)
