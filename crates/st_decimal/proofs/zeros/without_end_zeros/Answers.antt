use Rattle.std.proofs.Common.{List, ℕ, ◌++◌, ap, rules, sym, ◌∙◌}
use Rattle.std.proofs.lemmas.List.{append-nil}
use Rattle.st_decimal.proofs.ZeroDigits.{end_zeros_all, end_zeros_some}
use Rattle.st_decimal.proofs.zeros.without_end_zeros.Goals as goal

pub returns-then-are_zeros : goal.returns-then-are_zeros
returns-then-are_zeros c =
    append-nil c.trim_zeros.result.now ∙ c.trim_zeros.ensures ∙ sym (end_zeros_all c.args.whole.now c.args.decimals.now (search rules))

pub returns-else-are_zeros : goal.returns-else-are_zeros
returns-else-are_zeros c =
    ap (λ (xs : List ℕ). c.args.whole.now ++ xs) c.trim_zeros-else-are_zeros.ensures
    ∙ sym (end_zeros_some c.args.whole.now c.args.decimals.now (search rules))
