use Rattle.std.proofs.Common.{List, ℕ, ◌++◌, ap, rules, sym, ◌∙◌}
use Rattle.st_decimal.proofs.ZeroDigits.{skip_zeros_all, skip_zeros_some}
use Rattle.st_decimal.proofs.zeros.skip_zeros.Goals as goal

pub returns-then-are_zeros : goal.returns-then-are_zeros
returns-then-are_zeros c = c.drop_zeros.ensures ∙ sym (skip_zeros_all c.args.whole.now c.args.decimals.now (search rules))

pub returns-else-are_zeros : goal.returns-else-are_zeros
returns-else-are_zeros c =
    ap (λ (xs : List ℕ). xs ++ c.args.decimals.now) c.drop_zeros-else-are_zeros.ensures
    ∙ sym (skip_zeros_some c.args.whole.now c.args.decimals.now (search rules))
