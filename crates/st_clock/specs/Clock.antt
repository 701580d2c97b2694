-- The correlation of a spacecraft clock with time, after NAIF's SCLK Required Reading, type 1: a record gives an encoded
-- tick, the time at that tick in the clock's own scale, and the rate from there on, in seconds for each count of the
-- clock's first field.
use Rattle.std.specs.Prelude.{◌≡◌, ℕ, ◌<◌, ◌≤◌, pos, ◌-ℤ◌, ◌<ℤ◌, List, length, Some}
use Rattle.std.specs.List.{slice_get}
use Rattle.st_fraction.specs.Fraction.{Fraction, ◌≤ᶠ◌, ◌≈ᶠ◌, over, units, ◌+ᶠ◌, ◌*ᶠ◌}
use Rattle.st_ticks.specs.Face as face
use Rattle.st_ticks.specs.Face.{Face, IsFace}
use Rattle.st_clock.specs.declared.coefficient.Coefficient.{Coefficient}
use Rattle.st_scales.specs.declared.scale.Scale.{Scale}

-- what a clock is seen as: its fields and partitions, the scale of its times, and its records in order
pub record Clock : Type 0 where
  pub face : Face
  pub scale : Scale
  pub records : List Coefficient

-- how many ticks are one count of the first field, and how many ticks the partitions have together
abbrev pub tpm : Clock → ℕ
tpm c = face.tpm c.face

abbrev pub total : Clock → ℕ
total c = face.total c.face

-- the ticks and the times of the records rise strictly
abbrev pub AreRising : List Coefficient → Type 0
AreRising records =
    (i j : ℕ) (r s : Coefficient) → i < j → slice_get records i ≡ Some r → slice_get records j ≡ Some s
    → (r.ticks < s.ticks) × (r.time <ℤ s.time)

-- what is true of each clock
pub record IsClock (c : Clock) : Type 0 where
  pub face : IsFace c.face
  pub some : 0 < length c.records
  pub rates : (i : ℕ) (r : Coefficient) → slice_get c.records i ≡ Some r → 0 < r.rate
  pub rising : AreRising c.records

-- r is the last record with P, at place i of the list
pub record IsLast (P : Coefficient → Type 0) (records : List Coefficient) (i : ℕ) (r : Coefficient) : Type 0 where
  pub here : slice_get records i ≡ Some r
  pub holds : P r
  pub none_later : (j : ℕ) (s : Coefficient) → i < j → slice_get records j ≡ Some s → P s → ⊥

-- the record starts at the tick k or before it
abbrev pub StartsBy : ℕ → Coefficient → Type 0
StartsBy k r = r.ticks ≤ k

-- the time v is the record's time or a later one
abbrev pub BeginsBy : Fraction → Coefficient → Type 0
BeginsBy v r = units r.time ≤ᶠ v

-- the time of the tick k on the record's line: T + R (k - S) / tpm
abbrev pub line_time : ℕ → Coefficient → ℕ → Fraction
line_time tpm r k = units r.time +ᶠ units (pos r.rate) *ᶠ over (pos k -ℤ pos r.ticks) tpm

-- v is the time of the encoded tick k: that on the line of the last record that starts by k. The last record extends on
pub record IsTimeOf (c : Clock) (k : ℕ) (v : Fraction) : Type 0 where
  pub place : ℕ
  pub by : Coefficient
  pub last : IsLast (StartsBy k) c.records place by
  pub value : v ≈ᶠ line_time (tpm c) by k
