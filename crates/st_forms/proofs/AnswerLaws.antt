-- Each text has an answer, and one alone.
use Rattle.std.proofs.Common.{sym, ◌∙◌}
use Rattle.st_forms.specs.Laws.{EachHasAnswer, OneAnswer}
use Rattle.st_forms.specs.ReadingMachine.{time_of_text}
use Rattle.st_forms.proofs.TimeLaws.{reads, only}

pub each_has_answer : EachHasAnswer
each_has_answer text system form = (time_of_text text system form, reads text system form)

pub one_answer : OneAnswer
one_answer text system form a b h k = sym (only text system form a h) ∙ only text system form b k
