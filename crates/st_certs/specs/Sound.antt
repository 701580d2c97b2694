-- When a certificate is sound. All is computed with whole numbers of units of 10^-18; the rules and their order are this
-- project's own, the formula for TDB is that in the header of NAIF's leapseconds kernels.
use Rattle.std.specs.Prelude.{◌≡◌, ℕ, zero, suc, ◌+◌, ◌-◌, ◌*◌, ◌^◌, ◌≤◌, max, ℤ, pos, ◌+ℤ◌, ◌-ℤ◌, ◌*ℤ◌, ◌≤ℤ◌, unsigned_abs, Bool, true, false, not, ◌&&◌, ◌==◌, List, [], ◌∷◌, ◌++◌, length, slice_get, Option, Some, None, Ok, ⊤}
use Rattle.std.specs.List.{All}
use Rattle.st_dates.specs.declared.system.System.{System}
use Rattle.st_dates.specs.declared.system.System.TheVariants as systems
use Rattle.st_enclosure.specs.Interval.{interval, point, ◌+ᵢ◌, ◌-ᵢ◌, ◌*ᵢ◌, widened, Contains}
use Rattle.st_enclosure.specs.declared.interval.Interval.{Interval}
use Rattle.st_fraction.specs.Fraction.{units}
use Rattle.st_series.specs.Small.{small_sine, small_cosine}
use Rattle.st_scales.specs.Constants.{IsInRange}
use Rattle.st_scales.specs.Route.{crosses}
use Rattle.st_scales.specs.declared.fault.DeltetVar.TheVariants as vars
use Rattle.st_scales.specs.declared.scale.Scale.{Scale}
use Rattle.st_scales.specs.declared.scale.Scale.TheVariants.{Tai, Tt, Tdb}
use Rattle.st_picture.specs.Cell.{IsCellOf}
use Rattle.st_picture.specs.Picture.{Picture}
use Rattle.st_picture.specs.Reading.{ReadsPicture}
use Rattle.st_picture.specs.Text.{IsTextOf}
use Rattle.st_picture.specs.declared.cell.Cell.{Cell}
use Rattle.st_rules.specs.Rules.{AreKept}
use Rattle.st_certs.specs.declared.certificate.Certificate.{Certificate}
use Rattle.st_certs.specs.declared.certificate.Constants.{Constants}
use Rattle.st_certs.specs.declared.certificate.Row.{Row}
use Rattle.st_certs.specs.declared.certificate.SineChain.{SineChain}
use Rattle.st_certs.specs.declared.certificate.SineProof.{SineProof}
use Rattle.st_certs.specs.declared.why.Chain.{Chain}
use Rattle.st_certs.specs.declared.why.Chain.TheVariants as chains
use Rattle.st_certs.specs.declared.why.Why.{Why}
use Rattle.st_certs.specs.declared.why.Why.TheVariants as why

-- Doubling, by `2 s c` and `c c - s s`.
abbrev pub doubled : Row → Row
doubled r = record { sine = r.sine *ᵢ r.cosine +ᵢ r.sine *ᵢ r.cosine; cosine = r.cosine *ᵢ r.cosine -ᵢ r.sine *ᵢ r.sine }

-- the small bounds of x: fourteen terms of the series, each rounded down, and 25 units to both sides
abbrev pub small_row : ℤ → Row
small_row x = record { sine = widened (point (small_sine x)) (pos 25); cosine = widened (point (small_cosine x)) (pos 25) }

pub record HasRow (a b : Row) : Type 0 where
  pub sine : Contains a.sine b.sine
  pub cosine : Contains a.cosine b.cosine

-- the angle that a chain has reached, and its greater distance from the ends of an interval
abbrev pub reached : SineChain → ℤ
reached d = d.x *ℤ pos (2 ^ (length d.rows - 1))

abbrev pub distance : SineChain → Interval → ℕ
distance d a = max (unsigned_abs (a.lo -ℤ reached d)) (unsigned_abs (a.hi -ℤ reached d))

-- the sine of the last row, lowered and raised by that distance
abbrev pub sine_in : Option Row → Interval
sine_in (Some r) = r.sine
sine_in None = point (pos 0)

abbrev pub shown : SineChain → Interval → Interval
shown d a = widened (sine_in (slice_get d.rows (length d.rows - 1))) (pos (distance d a))

-- What a proof shows, by E = M + EB sin M, M = M0 + M1 t and TDB = t + K sin E.
abbrev pub mean : Constants → ℤ → Interval
mean k t = point k.m0 +ᵢ point k.m1 *ᵢ point t

abbrev pub eccentric : Constants → Interval → Interval → Interval
eccentric k m s = m +ᵢ point k.eb *ᵢ s

abbrev pub eccentric_at : Constants → SineProof → Interval
eccentric_at k p = eccentric k (mean k p.t) (shown p.m (mean k p.t))

abbrev pub tdb : Constants → SineProof → Interval
tdb k p = point p.t +ᵢ point k.k *ᵢ shown p.e (eccentric_at k p)

-- how far a scale is ahead of TAI, where TDB is taken as TT
abbrev pub ahead : Constants → Scale → ℤ
ahead k Tai = pos 0
ahead k Tt = k.delta_ta
ahead k Tdb = k.delta_ta

-- The way: straight where no sine stands on it, there to TDB, or back from TDB.
pub data Way : Type 0 where
  straight : Way
  there : Way
  back : Way

abbrev pub way_by : Bool → Scale → Way
way_by false from = straight
way_by true Tdb = back
way_by true from = there

abbrev pub way_of : Certificate → Way
way_of c = way_by (crosses c.from c.to && not (unsigned_abs c.constants.k == 0)) c.from

-- the source, shifted, and its TT
abbrev pub moved : Certificate → ℤ
moved c = c.source +ℤ (ahead c.constants c.to -ℤ ahead c.constants c.from)

abbrev pub source_tt : Certificate → ℤ
source_tt c = c.source +ℤ (c.constants.delta_ta -ℤ ahead c.constants c.from)

-- the target's value of a TT value
abbrev pub led : Certificate → ℤ → ℤ
led c t = t -ℤ (c.constants.delta_ta -ℤ ahead c.constants c.to)

-- the ends between which the value lies
abbrev pub ends_by : Certificate → Way → List SineProof → Interval
ends_by c straight proofs = point (moved c)
ends_by c there (p ∷ []) = tdb c.constants p
ends_by c back (p ∷ q ∷ []) = interval (led c p.t) (led c q.t)
ends_by c way proofs = point (pos 0)

abbrev pub ends : Certificate → Interval
ends c = ends_by c (way_of c) c.proofs

-- The ranges, in units: those of the constants, of sources and of TT values in seconds past J2000, and of angles and rows.
pub record IsSpan (a : Interval) : Type 0 where
  pub order : a.lo ≤ℤ a.hi
  pub low : unsigned_abs a.lo ≤ 2 * 10 ^ 18
  pub high : unsigned_abs a.hi ≤ 2 * 10 ^ 18

pub record IsRow (r : Row) : Type 0 where
  pub sine : IsSpan r.sine
  pub cosine : IsSpan r.cosine

pub record IsChain (d : SineChain) : Type 0 where
  pub x : unsigned_abs d.x ≤ 2 * 10 ^ 18
  pub rows : All IsRow d.rows

pub record IsProof (p : SineProof) : Type 0 where
  pub t : unsigned_abs p.t ≤ 6_311_392_000 * 10 ^ 18
  pub m : IsChain p.m
  pub e : IsChain p.e

pub record AreConstants (k : Constants) : Type 0 where
  pub delta_ta : IsInRange vars.DeltaTa k.delta_ta
  pub k_small : IsInRange vars.K k.k
  pub eb : IsInRange vars.Eb k.eb
  pub m0 : IsInRange vars.M0 k.m0
  pub m1 : IsInRange vars.M1 k.m1

pub record IsWithin (c : Certificate) : Type 0 where
  pub constants : AreConstants c.constants
  pub source : unsigned_abs c.source ≤ 6_311_390_400 * 10 ^ 18
  pub proofs : All IsProof c.proofs

-- the proofs are those of the way
abbrev pub IsOfWay : Certificate → Way → List SineProof → Type 0
IsOfWay c straight [] = ⊤
IsOfWay c there (p ∷ []) = p.t ≡ source_tt c
IsOfWay c back (p ∷ q ∷ []) = p.t ≤ℤ q.t
IsOfWay c way proofs = ⊥

-- the source lies between TDB of the two TT values
abbrev pub IsBracketed : Certificate → Way → List SineProof → Type 0
IsBracketed c back (p ∷ q ∷ []) = ((tdb c.constants p).hi ≤ℤ c.source) × (c.source ≤ℤ (tdb c.constants q).lo)
IsBracketed c way proofs = ⊤

-- what is asked of a chain, by the number of its proof
abbrev pub chain_of : SineProof → Chain → SineChain
chain_of p chains.M = p.m
chain_of p chains.E = p.e

abbrev pub angle_of : Constants → SineProof → Chain → Interval
angle_of k p chains.M = mean k p.t
angle_of k p chains.E = eccentric_at k p

pub record OfChain (c : Certificate) (i : ℕ) (chain : Chain) (P : SineProof → SineChain → Type 0) : Type 0 where
  pub at : (k : ℕ) (p : SineProof) → i ≡ suc k → slice_get c.proofs k ≡ Some p → P p (chain_of p chain)

abbrev pub IsNearAngle : Constants → Chain → SineProof → SineChain → Type 0
IsNearAngle k chain p d = distance d (angle_of k p chain) ≤ 10 ^ 7

abbrev pub HasBase : SineChain → Type 0
HasBase d = (r : Row) → slice_get d.rows 0 ≡ Some r → HasRow r (small_row d.x)

abbrev pub HasStep : ℕ → SineChain → Type 0
HasStep j d = (k : ℕ) (r s : Row) → j ≡ suc k → slice_get d.rows k ≡ Some r → slice_get d.rows j ≡ Some s → HasRow s (doubled r)

-- the system whose pictures print the target
abbrev pub system_of : Scale → System
system_of Tai = systems.Tai
system_of Tt = systems.Tt
system_of Tdb = systems.Tdb

abbrev pub OfPicture : Certificate → (Picture → Type 0) → Type 0
OfPicture c P = (picture : Picture) → ReadsPicture (system_of c.to) c.picture (Ok picture) → P picture

-- The rule whose breach is the reason.
abbrev pub Keeps : Certificate → Why → Type 0
Keeps c why.NotJson = ⊤
Keeps c why.Shape = ⊤
Keeps c why.Range = IsWithin c
Keeps c why.Route = IsOfWay c (way_of c) c.proofs
Keeps c (why.Angle i chain) = OfChain c i chain (IsNearAngle c.constants chain)
Keeps c (why.Base i chain) = OfChain c i chain (λ p d. HasBase d)
Keeps c (why.Step i chain j) = OfChain c i chain (λ p d. HasStep j d)
Keeps c why.Bracket = IsBracketed c (way_of c) c.proofs
Keeps c why.Picture = (picture : Picture) × ReadsPicture (system_of c.to) c.picture (Ok picture)
Keeps c why.Cells = OfPicture c (λ picture. (cell : Cell) × IsCellOf picture None (units (ends c).lo) cell × IsCellOf picture None (units (ends c).hi) cell)
Keeps c why.Text = OfPicture c (λ picture. (cell : Cell) → IsCellOf picture None (units (ends c).lo) cell → IsTextOf picture.pieces cell c.text)

-- The rules in their order: two of the whole, those of each chain of each proof, and four of the whole.
abbrev pub steps : ℕ → Chain → ℕ → List Why
steps i chain zero = []
steps i chain (suc j) = steps i chain j ++ (why.Step i chain (suc j) ∷ [])

abbrev pub chain_rules : ℕ → Chain → SineChain → List Why
chain_rules i chain d = why.Angle i chain ∷ why.Base i chain ∷ steps i chain (length d.rows - 1)

abbrev pub proof_rules : ℕ → List SineProof → List Why
proof_rules i [] = []
proof_rules i (p ∷ ps) = chain_rules i chains.M p.m ++ (chain_rules i chains.E p.e ++ proof_rules (suc i) ps)

abbrev pub rules : Certificate → List Why
rules c = why.Range ∷ why.Route ∷ (proof_rules 1 c.proofs ++ (why.Bracket ∷ why.Picture ∷ why.Cells ∷ why.Text ∷ []))

-- the certificate is sound
abbrev pub IsSound : Certificate → Type 0
IsSound c = AreKept (Keeps c) (rules c)
