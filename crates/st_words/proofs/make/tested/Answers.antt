use Rattle.std.proofs.Common.{◌≡◌, ◌≢◌, sym, ◌∙◌, subst}
use Rattle.st_picture.specs.declared.fault.PictureFault.{PictureFault}
use Rattle.st_words.specs.Rules.{RefusesPicture}
use Rattle.st_words.specs.declared.fault.WordFault.{WordFault}
use Rattle.st_words.specs.declared.fault.WordFault.TheVariants as faults
use Rattle.st_words.proofs.Lists.{err_and}
use Rattle.st_words.proofs.RuleLaws.{front_refuses, front_kept, back_refuses, back_kept}
use Rattle.st_words.proofs.JobLaws.{picture_stands, picture_front, alone_refuses, kept_all}
use Rattle.st_words.proofs.make.tested.Goals as goal

pub returns-in-Some-clause-err : goal.returns-in-Some-clause-err
returns-in-Some-clause-err c = λ h. front_refuses c.args.options.now c.in-Some.fault (sym c.first_fault.ensures ∙ c.in-Some.is)

pub returns-in_err-shape-clause-err : goal.returns-in_err-shape-clause-err
returns-in_err-shape-clause-err c =
    let o = c.args.options.now in
    let front = front_kept o (sym c.first_fault.ensures ∙ c.in_default.is) in
    let R : WordFault → Type 0 = λ f. f ≢ faults.OutOfMemory → (r : PictureFault) × RefusesPicture o r × (f ≡ faults.BadPicture r) in
    err_and c.from_residual.result _ _ c.from_residual.ensures.1 (λ fault e h. picture_stands o fault front (subst R (sym e) c.in_err-shape.ensures.err h))

pub returns-in-Some-first_fault-clause-err : goal.returns-in-Some-first_fault-clause-err
returns-in-Some-first_fault-clause-err c = λ h.
    let o = c.args.options.now in
    let w = c.in_ok-shape.ensures.ok in
    let front = front_kept o (sym c.first_fault.ensures ∙ c.in_default.is) in
    back_refuses o c.in-Some-first_fault.fault (picture_front o w.0 c.in_ok-shape.shape front w.1 w.2) (sym c.first_fault-2.ensures ∙ c.in-Some-first_fault.is)

pub returns-then-is_misprinted-clause-err : goal.returns-then-is_misprinted-clause-err
returns-then-is_misprinted-clause-err c = λ h.
    let o = c.args.options.now in
    let w = c.in_ok-shape.ensures.ok in
    let front = front_kept o (sym c.first_fault.ensures ∙ c.in_default.is) in
    let back = back_kept o (sym c.first_fault-2.ensures ∙ c.in_default-first_fault.is) in
    let other = c.is_misprinted.ensures.yes c.if-is_misprinted.true in
    alone_refuses o w.0 c.in_ok-shape.shape front w.1 w.2 back other.0 other.1

pub returns-clause-ok : goal.returns-clause-ok
returns-clause-ok c =
    let o = c.args.options.now in
    let w = c.in_ok-shape.ensures.ok in
    let front = front_kept o (sym c.first_fault.ensures ∙ c.in_default.is) in
    let back = back_kept o (sym c.first_fault-2.ensures ∙ c.in_default-first_fault.is) in
    kept_all o w.0 c.in_ok-shape.shape front w.1 w.2 back (c.is_misprinted.ensures.no c.if-is_misprinted.false)
