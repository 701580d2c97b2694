use Rattle.std.proofs.Common.{sym}
use Rattle.st_picture.proofs.OneAnswer.{one_reading}
use Rattle.st_picture.proofs.ReadLaws.{too_long, bad_byte_read}
use Rattle.st_picture.proofs.picture.Picture.read.Goals as goal

pub returns-then-text-gt-MOST_BYTES : goal.returns-then-text-gt-MOST_BYTES
returns-then-text-gt-MOST_BYTES c =
    let reads = too_long c.args.system c.args.text.now c.if-text-gt-MOST_BYTES.true in
    record { reads = reads; only = λ answer h. one_reading c.args.system c.args.text.now _ answer reads h }

pub returns-in-Some : goal.returns-in-Some
returns-in-Some c =
    let reads = bad_byte_read c.args.system c.args.text.now c.in-Some.place c.if-text-gt-MOST_BYTES.false (sym c.in-Some.ensures) in
    record { reads = reads; only = λ answer h. one_reading c.args.system c.args.text.now _ answer reads h }

pub returns-in-None-clause-only : goal.returns-in-None-clause-only
returns-in-None-clause-only c = λ answer h. one_reading c.args.system c.args.text.now c.read_pieces.result answer c.read_pieces.ensures h
