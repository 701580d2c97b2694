use Rattle.std.proofs.Common.{ℤ, pos, get_or, refl, sym, ◌∙◌, subst, arith, rules}
use Rattle.std.specs.Int.{w128}
use Rattle.std.specs.Int.RustNames.{FitsSigned}
use Rattle.std.proofs.lemmas.Int.{to_z-of_z}
use Rattle.std.proofs.lemmas.Option.{slice_get-get_or}
use Rattle.st_fit.specs.Fit.{IsRateOf}
use Rattle.st_fit.proofs.fitting.record_of.Goals as goal
use Rattle.st_fit.proofs.fitting.record_of.Goals.{then-run-eq1, else-run-eq1}

pub returns : goal.returns
returns c =
    let b = c.ranges.before in
    let f : FitsSigned w128 (get_or c.args.run.now 0 (record { ticks = 0; time = pos 0 })).time = search rules in
    let P : ℤ → Type 0 = λ rate. IsRateOf c.args.terms c.args.before c.args.run.now rate in
    record {
      start = get_or c.args.run.now 0 (record { ticks = 0; time = pos 0 });
      starts = slice_get-get_or c.args.run.now 0 _ c.requires.some;
      ticks = refl;
      time = to_z-of_z w128 _ f;
      rate = elim c.if-run-eq1.branch [
        | then-run-eq1 w ↦ subst P (sym (w.rate-is ∙ to_z-of_z w128 c.args.before b)) (record { alone = λ e. refl; more = λ m. let l = w.if-run-eq1.true in absurd (omega arith) })
        | else-run-eq1 w ↦
            let m : FitsSigned w128 w.middle_rate-rate.result = record { sfits = w.middle_rate-rate.type_inv } in
            subst P (sym (w.rate-is ∙ to_z-of_z w128 w.middle_rate-rate.result m)) (record { alone = λ e. absurd (w.if-run-eq1.false e); more = λ l. w.middle_rate-rate.ensures })
      ];
    }
