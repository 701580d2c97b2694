-- Counts that stand beside an answer and say what caused it. A count is a number of 64 bits that
-- goes up to its type's last value and stands still there. The definitions are this project's own.
use Rattle.std.specs.Prelude.{◌≡◌, ℕ, ◌+◌, ◌-◌, ◌^◌, ◌≤◌, min, Bool, if◌then◌else◌, Result, OnOk, OnErr, MatchResult}

-- the count has gone up by at least n, or stands at its type's last value
abbrev pub RoseBy : ℕ → ℕ → ℕ → Type 0
RoseBy n before now = min (before + n) (2 ^ 64 - 1) ≤ now

-- the count has gone up, or stands at its type's last value
abbrev pub Rose : ℕ → ℕ → Type 0
Rose before now = RoseBy 1 before now

-- the count has gone up by more than n, or stands at its type's last value
abbrev pub RoseBeyond : ℕ → ℕ → ℕ → Type 0
RoseBeyond n before now = RoseBy (n + 1) before now

-- the count never falls, each error has raised it, and a success leaves it as it was
pub record HasCause {T E : Type 0} (before now : ℕ) (result : Result T E) : Type 0 where
  pub later : before ≤ now
  pub clean : OnOk result (now ≡ before)
  pub failed : OnErr result (Rose before now)

-- The count never falls. A read that gives n bytes raises it by n, up to its type's last value, and
-- an error leaves it as it was.
pub record Counts {E : Type 0} (before now : ℕ) (result : Result ℕ E) : Type 0 where
  pub later : before ≤ now
  pub counted : MatchResult result (λ n. now ≡ min (before + n) (2 ^ 64 - 1)) (λ _. now ≡ before)

-- the count after a call that raises it by one exactly where the test holds
abbrev pub raised_if : Bool → ℕ → ℕ
raised_if test before = if test then min (before + 1) (2 ^ 64 - 1) else before

-- the counts of files: names that weren't found, calls that failed, and bytes that were given
pub record FileCounts : Type 0 where
  pub misses : ℕ
  pub faults : ℕ
  pub taken : ℕ

-- no count has fallen
pub record AreLater (before now : FileCounts) : Type 0 where
  pub misses : before.misses ≤ now.misses
  pub faults : before.faults ≤ now.faults
  pub taken : before.taken ≤ now.taken

-- nothing was counted yet
abbrev pub no_counts : FileCounts
no_counts = record { misses = 0; faults = 0; taken = 0 }
