use Rattle.std.proofs.Common.{◌≡◌, ◌∙◌, sym, suc, true, false, take, drop, arith}
use Rattle.st_ticks.specs.Variables.{first_rules}
use Rattle.st_ticks.proofs.RuleLaws.{split_at}
use Rattle.st_ticks.proofs.numbers.first_broken.Goals as goal

pub returns-then-not-keeps : goal.returns-then-not-keeps
returns-then-not-keeps c = record {
  before = take c.loop-broken.broken-index first_rules;
  after = drop (suc c.loop-broken.broken-index) first_rules;
  stands = split_at first_rules c.loop-broken.broken-index _ (omega arith);
  kept = c.loop-broken.invariant;
  broken = λ k. absurd (let t : false ≡ true = sym c.if-not-keeps.true ∙ c.keeps.ensures.1 k in cc);
}
