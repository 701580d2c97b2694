use Rattle.std.proofs.Common.{ℕ, Result, sym, subst}
use Rattle.st_ticks.specs.Reading.{ReadsClock}
use Rattle.st_ticks.specs.declared.fault.ClockTextFault.{ClockTextFault}
use Rattle.st_ticks.proofs.JudgeLaws.{meets}
use Rattle.st_ticks.proofs.ReadingLaws.{reading_is_one}
use Rattle.st_ticks.proofs.face.Face.read_clock.Goals as goal

pub returns-clause-reads : goal.returns-clause-reads
returns-clause-reads c =
    subst (λ (r : Result ℕ ClockTextFault). ReadsClock c.args.self.now c.args.text.now r) (sym c.read.ensures.value) (meets c.args.self.now c.args.text.now c.read.ensures.face)

pub returns-clause-only : goal.returns-clause-only
returns-clause-only c = λ answer h.
    reading_is_one c.args.self.now c.args.text.now c.read.result answer
    (subst (λ (r : Result ℕ ClockTextFault). ReadsClock c.args.self.now c.args.text.now r) (sym c.read.ensures.value) (meets c.args.self.now c.args.text.now c.read.ensures.face)) h
