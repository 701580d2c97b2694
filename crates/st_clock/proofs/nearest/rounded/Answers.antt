use Rattle.std.proofs.Common.{inl}
use Rattle.st_clock.proofs.Rounding.{rounded_low, rounded_high}
use Rattle.st_clock.proofs.nearest.rounded.Goals as goal

pub returns-clause-at_most : goal.returns-clause-at_most
returns-clause-at_most c = rw c.from-tpm.ensures (rounded_low c.args.elapsed c.args.rate c.args.tpm c.requires.rate_some)

pub returns-clause-nearest : goal.returns-clause-nearest
returns-clause-nearest c = rw c.from-tpm.ensures (inl (rounded_high c.args.elapsed c.args.rate c.args.tpm c.requires.rate_some))
