-- The rules of a table of leap seconds, by the faults that name them, and the first one that
-- numbers break.
use Rattle.std.specs.Prelude.{◌≡◌, ◌≢◌, ℕ, ◌+◌, ◌*◌, ◌%◌, ◌<◌, ◌≤◌, ℤ, pos, ◌-ℤ◌, ◌≤ℤ◌, unsigned_abs, List, [], length, Result, Ok, Err, ⊤}
use Rattle.st_decimal.specs.declared.number.Dec.{Dec}
use Rattle.st_leaps.specs.Numbers.{HasCount, HasDay, IsTableOf}
use Rattle.st_leaps.specs.declared.fault.LeapFault.{LeapFault}
use Rattle.st_leaps.specs.declared.fault.LeapFault.TheVariants.{Empty, Odd, TooMany, NotWhole, NotMidnight, NotRising, BadStep, OutOfMemory}
use Rattle.st_leaps.specs.declared.pair.LeapPair.{LeapPair}

-- the numbers have a pair n, from 1
pub record HasPair (numbers : List Dec) (n : ℕ) : Type 0 where
  pub from : 1 ≤ n
  pub to : 2 * n ≤ length numbers

-- a pair and the one before it have these dates, of which the later one isn't later
pub record FallsBack (numbers : List Dec) (n : ℕ) : Type 0 where
  pub before : ℕ
  pub next : n ≡ before + 1
  pub day_before : ℤ
  pub has_before : HasDay numbers before day_before
  pub day : ℤ
  pub has_day : HasDay numbers n day
  pub falls : day ≤ℤ day_before

-- a pair and the one before it have these counts, which don't differ by one
pub record LeapsBadly (numbers : List Dec) (n : ℕ) : Type 0 where
  pub before : ℕ
  pub next : n ≡ before + 1
  pub count_before : ℕ
  pub has_before : HasCount numbers before count_before
  pub count : ℕ
  pub has_count : HasCount numbers n count
  pub leaps : unsigned_abs (pos count -ℤ pos count_before) ≢ 1

-- the numbers break the rule
abbrev pub Breaks : List Dec → LeapFault → Type 0
Breaks numbers Empty = numbers ≡ []
Breaks numbers Odd = length numbers % 2 ≡ 1
Breaks numbers TooMany = 2 * 1000 < length numbers
Breaks numbers (NotWhole n) = HasPair numbers n × ((count : ℕ) → HasCount numbers n count → ⊥)
Breaks numbers (NotMidnight n) = HasPair numbers n × ((day : ℤ) → HasDay numbers n day → ⊥)
Breaks numbers (NotRising n) = FallsBack numbers n
Breaks numbers (BadStep n) = LeapsBadly numbers n
Breaks numbers OutOfMemory = ⊥

-- the place of a rule in the order in which breaches are reported: three for all numbers, then
-- four for each pair
abbrev pub place_of : LeapFault → ℕ
place_of Empty = 0
place_of Odd = 1
place_of TooMany = 2
place_of OutOfMemory = 3
place_of (NotWhole n) = 4 * n + 4
place_of (NotMidnight n) = 4 * n + 5
place_of (NotRising n) = 4 * n + 6
place_of (BadStep n) = 4 * n + 7

-- the numbers break this rule, and none before it
pub record IsFirstFault (numbers : List Dec) (fault : LeapFault) : Type 0 where
  pub breaks : Breaks numbers fault
  pub first : (other : LeapFault) → place_of other < place_of fault → Breaks numbers other → ⊥

-- what numbers may give: their table, or the first rule that they break
abbrev pub Gives : List Dec → Result (List LeapPair) LeapFault → Type 0
Gives numbers (Ok pairs) = IsTableOf numbers pairs
Gives numbers (Err OutOfMemory) = ⊤
Gives numbers (Err fault) = IsFirstFault numbers fault

-- two answers are one, where memory was not refused to either
abbrev pub Agree : Result (List LeapPair) LeapFault → Result (List LeapPair) LeapFault → Type 0
Agree (Err OutOfMemory) b = ⊤
Agree a (Err OutOfMemory) = ⊤
Agree a b = a ≡ b
