use Rattle.st_kernel_text.proofs.FileLaws.{reads, only}
use Rattle.st_kernel_text.proofs.PieceLaws.{finished}
use Rattle.st_kernel_text.proofs.reader.KernelReader.finish.Goals as goal

pub returns-clause-reads : goal.returns-clause-reads
returns-clause-reads c =
    λ bytes h. reads bytes c.end.result (finished bytes c.args.self.failed c.args.self.reading c.end.result h c.end.ensures.again c.end.ensures.gives)

pub returns-clause-only : goal.returns-clause-only
returns-clause-only c =
    λ bytes h answer k. only bytes c.end.result answer (finished bytes c.args.self.failed c.args.self.reading c.end.result h c.end.ensures.again c.end.ensures.gives) k
