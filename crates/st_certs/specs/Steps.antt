-- What private clauses say of the parts of a certificate.
use Rattle.std.specs.Prelude.{◌≡◌, ℕ, ◌+◌, ◌-◌, ◌*◌, ◌^◌, ◌≤◌, ⊤, ℤ, pos, ◌-ℤ◌, ◌≤ℤ◌, List, length, unsigned_abs}
use Rattle.st_enclosure.specs.Interval.{interval}
use Rattle.st_enclosure.specs.declared.enclosure.Enc.{Enc}
use Rattle.st_enclosure.specs.declared.interval.Interval.{Interval}
use Rattle.st_certs.specs.Sound.{distance, HasBase, HasStep}
use Rattle.st_certs.specs.declared.certificate.SineChain.{SineChain}
use Rattle.st_certs.specs.declared.why.Why.{Why}
use Rattle.st_certs.specs.declared.why.Why.TheVariants as why

-- the ends of an enclosure
abbrev pub seen : Enc → Interval
seen e = interval e.lo e.hi

-- the rules of a chain that shows the sine of an interval, wherever it stands
abbrev pub KeepsChain : Interval → SineChain → Why → Type 0
KeepsChain a d (why.Angle i chain) = distance d a ≤ 10 ^ 7
KeepsChain a d (why.Base i chain) = HasBase d
KeepsChain a d (why.Step i chain j) = HasStep j d
KeepsChain a d rule = ⊤
