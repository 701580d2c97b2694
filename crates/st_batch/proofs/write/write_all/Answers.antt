use Rattle.std.proofs.Common.{◌≡◌, ℕ, ◌+◌, ◌-◌, List, ◌++◌, length, take, drop, length-drop, arith, sym, ◌∙◌, ap}
use Rattle.std.proofs.KnownBytes.{Appends-trans, Appends-kept}
use Rattle.std.proofs.Math.Seq.{take-add}
use Rattle.std.proofs.lemmas.List.{take-append-drop, take_all}
use Rattle.st_batch.proofs.ReadLaws.{on-err}
use Rattle.st_batch.proofs.write.write_all.Goals as goal

-- the rest of a list has as many elements as are left, so that taking that many leaves it whole
rest_whole : (at : ℕ) (xs : List ℕ) → take (length xs - at) (drop at xs) ≡ drop at xs
rest_whole at xs = take_all (length xs - at) (drop at xs) (omega (arith, length-drop at xs))

pub loop-at-preserved : goal.loop-at-preserved
loop-at-preserved g c =
    let xs = c.args.bytes.now in
    let at = c.loop-at.at in
    let whole = rest_whole at xs in
    let joined : take at xs ++ take c.in_ok-taken.taken (take (length xs - at) (drop at xs)) ≡ take (at + c.in_ok-taken.taken) xs =
    ap (λ (t : List ℕ). take at xs ++ take c.in_ok-taken.taken t) whole ∙ sym (take-add at c.in_ok-taken.taken xs) in
    record {
      within = omega (arith, length-drop at xs, ap length whole, c.in_ok-taken.ensures.bound);
      taken = rw joined at (Appends-trans _ _ _ _ _ c.loop-at.invariant.taken c.in_ok-taken.ensures.bytes);
      later = omega arith;
    }

pub returns-in_err-taken-clause-err : goal.returns-in_err-taken-clause-err
returns-in_err-taken-clause-err g c =
    let k = Appends-kept _ _ _ _ c.loop-at.invariant.taken c.in_err-taken.ensures.bytes in
    on-err c.from_residual.result (take c.loop-at.at c.args.bytes.now, drop c.loop-at.at c.args.bytes.now, k, sym (take-append-drop c.loop-at.at c.args.bytes.now))
