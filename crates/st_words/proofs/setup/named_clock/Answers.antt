use Rattle.std.proofs.Common.{◌≡◌, ℕ, sym, ap, ◌∙◌, Ok, Result}
use Rattle.std.proofs.lemmas.Option.{same_Some}
use Rattle.st_words.specs.declared.fault.IdFault.{IdFault}
use Rattle.st_words.proofs.setup.named_clock.Goals as goal

pub returns-in-None-clause-gives : goal.returns-in-None-clause-gives
returns-in-None-clause-gives c = (sym c.kind.ensures ∙ c.in-Numbers.is, λ n h. let some = c.only_clock.ensures.only n h in let none = c.in-None.is in absurd cc)

pub returns-in-None-clause-finds : goal.returns-in-None-clause-finds
returns-in-None-clause-finds c = λ n e h. let some = c.only_clock.ensures.only n h in let none = c.in-None.is in absurd cc

pub returns-in-Some-clause-finds : goal.returns-in-Some-clause-finds
returns-in-Some-clause-finds c = λ n e h.
    let same : c.in-Some.n ≡ n = same_Some c.in-Some.n n (sym c.in-Some.is ∙ c.only_clock.ensures.only n h) in
    let found : ℕ → Result ℕ IdFault = λ m. Ok m in
    ap found same
