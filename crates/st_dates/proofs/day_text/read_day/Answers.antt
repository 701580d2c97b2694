use Rattle.st_dates.proofs.DayReads.{all_begin, only_begun}
use Rattle.st_dates.proofs.day_text.read_day.Goals as goal

pub returns-clause-reads : goal.returns-clause-reads
returns-clause-reads c = all_begin c.find_day.result (λ p. p.0) (λ p. p.1.now) c.args.text.now c.find_day.ensures.value

pub returns-clause-only : goal.returns-clause-only
returns-clause-only c = λ date rest h none. only_begun c.find_day.result (λ p. p.0) (λ p. p.1.now) c.args.text.now c.find_day.ensures.value date rest h none
