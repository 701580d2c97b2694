-- The widths of rows.
use Rattle.std.proofs.Common.{◌≡◌, ℕ, ◌+◌, ◌^◌, ℤ, pos, ◌-ℤ◌, ◌≤ℤ◌, ap, subst, sym}
use Rattle.st_enclosure.specs.Ends.{EndsAtMost}
use Rattle.st_enclosure.specs.declared.enclosure.Enc.{Enc}
use Rattle.st_enclosure.specs.declared.interval.Interval.{Interval}
use Rattle.st_sine.specs.Narrow.{AreNarrow}
use Rattle.st_certs.specs.Steps.{seen}

pub narrow_both : (a b : Enc) (s c : Interval) (w : ℕ) → seen a ≡ s → seen b ≡ c → AreNarrow w s.lo s.hi c.lo c.hi → AreNarrow w a.lo a.hi b.lo b.hi
narrow_both a b s c w e f n =
    let P : Interval → Interval → Type 0 = λ x y. AreNarrow w x.lo x.hi y.lo y.hi in
    subst (λ x. P x (seen b)) (sym e) (subst (λ y. P s y) (sym f) n)

pub narrow_one : (lo hi : ℤ) (w : ℕ) → (hi -ℤ lo) ≤ℤ pos w → EndsAtMost lo hi (10 ^ 18 + w) → AreNarrow w lo hi lo hi
narrow_one lo hi w h k = record { sine = h; cosine = h; sine_ends = k; cosine_ends = k }
