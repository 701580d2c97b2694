use Rattle.std.proofs.Common.{◌≡◌, ℤ, pos, refl, arith}
use Rattle.std.specs.Int.{w128}
use Rattle.std.specs.Int.RustNames.{FitsSigned}
use Rattle.std.proofs.lemmas.Int.{ints, to_z-of_z}
use Rattle.std.proofs.lemmas.Result.{err_from_is_err_and}
use Rattle.st_scales.proofs.OneAnswer.{one_answer, delta_ta_broken, k_broken, eb_broken, m_broken}
use Rattle.st_scales.proofs.deltet.Deltet.from_numbers.Goals as goal

pub returns-in_err-delta_ta-clause-relation : goal.returns-in_err-delta_ta-clause-relation
returns-in_err-delta_ta-clause-relation c =
    let p = err_from_is_err_and c.from_residual.result c.from_residual.ensures.1 in
    rw (p.1, p.2) (delta_ta_broken c.args.delta_ta.now c.args.k.now c.args.eb.now c.args.m.now c.in_err-delta_ta.field-0.0 c.in_err-delta_ta.ensures.err)

pub returns-in_err-delta_ta-clause-only : goal.returns-in_err-delta_ta-clause-only
returns-in_err-delta_ta-clause-only c answer h = one_answer c.args.delta_ta.now c.args.k.now c.args.eb.now c.args.m.now c.from_residual.result answer (returns-in_err-delta_ta-clause-relation c) h

pub returns-in_err-k-clause-relation : goal.returns-in_err-k-clause-relation
returns-in_err-k-clause-relation c =
    let p = err_from_is_err_and c.from_residual-in_err-k.result c.from_residual-in_err-k.ensures.1 in
    let s = c.in_ok-delta_ta.ensures.ok in
    rw (p.1, p.2) (k_broken c.args.delta_ta.now c.args.k.now c.args.eb.now c.args.m.now c.in_ok-delta_ta.delta_ta c.in_err-k.field-0.0 (s.1, s.2) s.0 c.in_err-k.ensures.err)

pub returns-in_err-k-clause-only : goal.returns-in_err-k-clause-only
returns-in_err-k-clause-only c answer h = one_answer c.args.delta_ta.now c.args.k.now c.args.eb.now c.args.m.now c.from_residual-in_err-k.result answer (returns-in_err-k-clause-relation c) h

pub returns-in_err-eb-clause-relation : goal.returns-in_err-eb-clause-relation
returns-in_err-eb-clause-relation c =
    let p = err_from_is_err_and c.from_residual-in_err-eb.result c.from_residual-in_err-eb.ensures.1 in
    let s = c.in_ok-delta_ta.ensures.ok in
    let t = c.in_ok-k.ensures.ok in
    rw (p.1, p.2) (eb_broken c.args.delta_ta.now c.args.k.now c.args.eb.now c.args.m.now c.in_ok-delta_ta.delta_ta c.in_ok-k.k c.in_err-eb.field-0.0 (s.1, s.2) s.0 (t.1, t.2) t.0 c.in_err-eb.ensures.err)

pub returns-in_err-eb-clause-only : goal.returns-in_err-eb-clause-only
returns-in_err-eb-clause-only c answer h = one_answer c.args.delta_ta.now c.args.k.now c.args.eb.now c.args.m.now c.from_residual-in_err-eb.result answer (returns-in_err-eb-clause-relation c) h

pub returns-in_err-m0-clause-relation : goal.returns-in_err-m0-clause-relation
returns-in_err-m0-clause-relation c =
    let p = err_from_is_err_and c.from_residual-in_err-m0.result c.from_residual-in_err-m0.ensures.1 in
    let s = c.in_ok-delta_ta.ensures.ok in
    let t = c.in_ok-k.ensures.ok in
    let u = c.in_ok-eb.ensures.ok in
    rw (p.1, p.2) (m_broken c.args.delta_ta.now c.args.k.now c.args.eb.now c.args.m.now c.in_ok-delta_ta.delta_ta c.in_ok-k.k c.in_ok-eb.eb c.in_err-m0.field-0.0 (s.1, s.2) s.0 (t.1, t.2) t.0 (u.1, u.2) u.0 c.in_err-m0.ensures.err)

pub returns-in_err-m0-clause-only : goal.returns-in_err-m0-clause-only
returns-in_err-m0-clause-only c answer h = one_answer c.args.delta_ta.now c.args.k.now c.args.eb.now c.args.m.now c.from_residual-in_err-m0.result answer (returns-in_err-m0-clause-relation c) h

pub returns-clause-only : goal.returns-clause-only
returns-clause-only c answer h =
    let s = c.in_ok-delta_ta.ensures.ok in
    let t = c.in_ok-k.ensures.ok in
    let u = c.in_ok-eb.ensures.ok in
    let m = c.in_ok-m0.ensures.ok in
    let a : FitsSigned w128 c.in_ok-delta_ta.delta_ta = omega (arith, ints, s.1, s.2) in
    let b : FitsSigned w128 c.in_ok-k.k = omega (arith, ints, t.1, t.2) in
    let e : FitsSigned w128 c.in_ok-eb.eb = omega (arith, ints, u.1, u.2) in
    let x : FitsSigned w128 c.in_ok-m0.m0 = omega (arith, ints, m.1.0, m.1.1) in
    let y : FitsSigned w128 c.in_ok-m0.m1 = omega (arith, ints, m.2.0, m.2.1) in
    one_answer c.args.delta_ta.now c.args.k.now c.args.eb.now c.args.m.now _ answer
    (record { is_delta_ta = simp to_z-of_z s.0; is_k = simp to_z-of_z t.0; is_eb = simp to_z-of_z u.0; are_m = simp to_z-of_z m.0 }) h
