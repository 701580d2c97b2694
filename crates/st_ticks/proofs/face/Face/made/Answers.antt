use Rattle.st_ticks.specs.NumbersMachine.{numbers_of}
use Rattle.st_ticks.proofs.MadeLaws.{early_fault}
use Rattle.st_ticks.proofs.face.Face.made.Goals as goal

pub returns-in-Some : goal.returns-in-Some
returns-in-Some c = early_fault (numbers_of c.args.numbers.now) c.in-Some.fault c.in-Some.ensures
