use Rattle.std.proofs.Common.{◌+◌, ◌*◌, ◌∙◌, ap, ℕ, min}
use Rattle.st_forms.proofs.Numbers.{next_digit}
use Rattle.st_forms.proofs.number.read_capped.Goals as goal

pub loop-byte-preserved : goal.loop-byte-preserved
loop-byte-preserved c =
    next_digit c.args.digits.now c.loop-byte.byte-index c.loop-byte.number c.saturating_sub.result c.min-number.result c.loop-byte-test.true c.loop-byte.invariant c.saturating_sub.ensures
    (c.min-number.ensures ∙ ap (λ (d : ℕ). min 100_000_000_000 (10 * c.loop-byte.number + d)) c.from.ensures)
