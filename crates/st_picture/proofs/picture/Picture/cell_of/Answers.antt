use Rattle.std.proofs.Common.{rules}
use Rattle.std.specs.Prelude.{option_map}
use Rattle.st_fraction.specs.Fraction.{units}
use Rattle.st_picture.specs.Cell.{IsCellOf}
use Rattle.st_picture.proofs.PrintLaws.{one_cell_of}
use Rattle.st_picture.proofs.picture.Picture.cell_of.Goals as goal

pub returns-clause-only : goal.returns-clause-only
returns-clause-only c =
    let is : IsCellOf c.args.self.now (option_map (λ t. t.now) c.args.leaps) (units c.args.value) c.cell_of.result = search rules in
    λ cell h. one_cell_of c.args.self.now (option_map (λ t. t.now) c.args.leaps) c.args.value c.cell_of.result cell is h
