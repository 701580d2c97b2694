use Rattle.std.proofs.Common.{◌≡◌, ℤ, pos, get_or, refl, arith}
use Rattle.std.specs.Int.{w128}
use Rattle.std.specs.Int.RustNames.{FitsSigned}
use Rattle.std.proofs.lemmas.Int.{ints, to_z-of_z}
use Rattle.st_scales.proofs.Numbers.{two_are, m_units_second, m_range_first, m_range_second, nothing}
use Rattle.st_scales.proofs.constants.anomaly.Goals as goal

pub returns-then-not-is_units-2-clause-err : goal.returns-then-not-is_units-2-clause-err
returns-then-not-is_units-2-clause-err c =
    let n = c.args.numbers.now in
    m_units_second n (get_or n 0 nothing) (get_or n 1 nothing) (two_are n nothing nothing c.if-numbers-ne2.false) (c.if-not-is_units.ensures.0 refl)
    (λ some. let no = c.if-not-is_units-2.ensures.1 some in absurd (cc))

pub returns-in-Some-Some-clause-ok : goal.returns-in-Some-Some-clause-ok
returns-in-Some-Some-clause-ok c =
    let n = c.args.numbers.now in
    let s = c.in-Some-Some.ensures.some in
    let t = c.in-Some-Some.ensures'.some in
    let u : FitsSigned w128 c.in-Some-Some.m0 = omega (arith, ints, s.1, s.2) in
    let v : FitsSigned w128 c.in-Some-Some.m1 = omega (arith, ints, t.1, t.2) in
    simp to_z-of_z ((get_or n 0 nothing, get_or n 1 nothing, two_are n nothing nothing c.if-numbers-ne2.false, s.0, t.0), (s.1, s.2), (t.1, t.2))

pub returns-in-Some-None-clause-err : goal.returns-in-Some-None-clause-err
returns-in-Some-None-clause-err c =
    let n = c.args.numbers.now in
    let s = c.in-Some-None.ensures.some in
    m_range_second n (get_or n 0 nothing) (get_or n 1 nothing) c.in-Some-None.field-0-0 (two_are n nothing nothing c.if-numbers-ne2.false) s.0 (s.1, s.2) (c.if-not-is_units-2.ensures.0 refl)
    (c.in-Some-None.ensures'.none refl)

pub returns-in-None-default-clause-err : goal.returns-in-None-default-clause-err
returns-in-None-default-clause-err c =
    let n = c.args.numbers.now in
    m_range_first n (get_or n 0 nothing) (get_or n 1 nothing) (two_are n nothing nothing c.if-numbers-ne2.false) (c.if-not-is_units.ensures.0 refl) (c.if-not-is_units-2.ensures.0 refl)
    (c.within.ensures.none (rw c.in-None-default.is-0 refl))
