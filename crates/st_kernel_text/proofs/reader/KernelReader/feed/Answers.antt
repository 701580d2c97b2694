use Rattle.std.proofs.Common.{List, ℕ, ◌++◌}
use Rattle.st_kernel_text.specs.ParserMachine.{Gives}
use Rattle.st_kernel_text.specs.PiecesMachine.{fed_of}
use Rattle.st_kernel_text.specs.Reader.{Fed}
use Rattle.st_kernel_text.proofs.PieceLaws.{fed_next, fed_to, reads_so_far, only_so_far, every_answer}
use Rattle.st_kernel_text.proofs.reader.KernelReader.feed.Goals as goal

-- the piece after the bytes before it
next : (c : goal.After-take) (bytes : List ℕ) → Fed bytes c.args.self.now → Gives c.take.new.self.reading c.take.result (fed_of (bytes ++ c.args.piece.now))
next c bytes h =
    fed_next bytes c.args.piece.now c.args.self.now.failed c.args.self.now.reading c.take.new.self.reading c.take.result h c.take.ensures.again c.take.ensures.gives

pub returns-clause-fed : goal.returns-clause-fed
returns-clause-fed c =
    λ bytes h. fed_to (bytes ++ c.args.piece.now) c.take.new.self.failed c.take.new.self.reading c.take.result (next c bytes h) c.take.ensures.failed

pub returns-clause-reads : goal.returns-clause-reads
returns-clause-reads c = λ bytes h. reads_so_far (bytes ++ c.args.piece.now) c.take.new.self.reading c.take.result (next c bytes h)

pub returns-clause-only : goal.returns-clause-only
returns-clause-only c =
    λ bytes h answer k. only_so_far (bytes ++ c.args.piece.now) c.take.new.self.reading c.take.result answer (next c bytes h) k

pub returns-clause-every : goal.returns-clause-every
returns-clause-every c =
    λ bytes more h. every_answer (bytes ++ c.args.piece.now) more c.take.new.self.reading c.take.result (next c bytes h)
