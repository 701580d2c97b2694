use Rattle.std.proofs.Common.{inl, lit<}
use Rattle.st_picture.specs.declared.fault.PictureFault.TheVariants.{MixedForms}
use Rattle.st_picture.proofs.ReadLaws.{told_of, fault_read, picture_read, unit_kept, places_kept}
use Rattle.st_picture.proofs.picture.read_pieces.Goals as goal

pub returns-in-Ok : goal.returns-in-Ok
returns-in-Ok c = picture_read c.args.system c.args.text.now c.in_ok-pieces.pieces.items (c.in-Ok.unit, c.in-Ok.rounds) c.in_ok-pieces.ensures
    (told_of c.args.system c.args.text.now c.in_ok-pieces.pieces.items c.as_slice.result.now _ c.requires.few c.requires.good c.as_slice.ensures.value c.in-Ok.ensures)

pub returns-in-Err : goal.returns-in-Err
returns-in-Err c = fault_read c.args.system c.args.text.now c.in_ok-pieces.pieces.items c.in-Err.fault c.in_ok-pieces.ensures
    (told_of c.args.system c.args.text.now c.in_ok-pieces.pieces.items c.as_slice.result.now _ c.requires.few c.requires.good c.as_slice.ensures.value c.in-Err.ensures)

pub invariant_of-result : goal.invariant_of-result
invariant_of-result c =
    let told = told_of c.args.system c.args.text.now c.in_ok-pieces.pieces.items c.as_slice.result.now _ c.requires.few c.requires.good c.as_slice.ensures.value c.in-Ok.ensures in
    record {
      places = places_kept c.args.system c.args.text.now c.in_ok-pieces.pieces.items (c.in-Ok.unit, c.in-Ok.rounds) told;
      unit_few = unit_kept c.args.system c.args.text.now c.in_ok-pieces.pieces.items (c.in-Ok.unit, c.in-Ok.rounds) told;
      least = told.0;
      alone = λ beside. told.2 MixedForms (lit< tt) (inl beside);
    }
