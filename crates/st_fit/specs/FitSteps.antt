-- How far the search for the best cutting has come. Nobody has to believe a step: private clauses alone cite them.
use Rattle.std.specs.Prelude.{◌≡◌, ℕ, ◌-◌, ◌≤◌, ℤ, ◌≤ℤ◌, List, [], ◌∷◌, length, drop, Some}
use Rattle.std.specs.List.{slice_get}
use Rattle.st_fit.specs.Fit.{IsRate, IsGood, IsNoGreater, IsBest}
use Rattle.st_fit.specs.declared.pair.Pair.{Pair}
use Rattle.st_fit.specs.declared.pair.Terms.{Terms}
use Rattle.st_fit.specs.declared.rates.Rates.{Rates}
use Rattle.st_fit.specs.declared.starts.Start.{Start}

-- the rate lies from the least to the greatest
pub record Holds (r : Rates) (rate : ℤ) : Type 0 where
  pub from : r.least ≤ℤ rate
  pub to : rate ≤ℤ r.greatest

-- exactly the rates that fit a run lie there
pub record AreRatesOf (t : Terms) (run : List Pair) (r : Rates) : Type 0 where
  pub fits : (rate : ℤ) → Holds r rate → IsRate t run rate
  pub only : (rate : ℤ) → IsRate t run rate → Holds r rate

abbrev pub first_of : List ℕ → ℕ
first_of [] = 0
first_of (l ∷ lengths) = l

-- the best of the good cuttings whose first run has at most m pairs
pub record IsBestTo (t : Terms) (pairs : List Pair) (m : ℕ) (lengths : List ℕ) : Type 0 where
  pub good : IsGood t pairs lengths
  pub small : first_of lengths ≤ m
  pub fewest : (others : List ℕ) → IsGood t pairs others → first_of others ≤ m → length lengths ≤ length others
  pub greatest : (others : List ℕ) → IsGood t pairs others → first_of others ≤ m → length others ≡ length lengths → IsNoGreater others lengths

-- what is kept of a cutting: how many runs it has, and how long the first one is
pub record IsStartOf (lengths : List ℕ) (s : Start) : Type 0 where
  pub runs : s.runs ≡ length lengths
  pub first : s.first ≡ first_of lengths

pub record IsStart (t : Terms) (pairs : List Pair) (s : Start) : Type 0 where
  pub lengths : List ℕ
  pub best : IsBest t pairs lengths
  pub start : IsStartOf lengths s

pub record IsStartTo (t : Terms) (pairs : List Pair) (m : ℕ) (s : Start) : Type 0 where
  pub lengths : List ℕ
  pub best : IsBestTo t pairs m lengths
  pub start : IsStartOf lengths s

-- at each place n the start of the last n pairs
abbrev pub AreStarts : Terms → List Pair → List Start → Type 0
AreStarts t pairs starts = (n : ℕ) (s : Start) → slice_get starts n ≡ Some s → IsStart t (drop (length pairs - n) pairs) s
