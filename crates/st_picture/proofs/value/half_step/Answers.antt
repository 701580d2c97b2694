use Rattle.std.proofs.Common.{◌≡◌, ◌-◌, ◌*◌, ◌/◌, ◌^◌, arith}
use Rattle.std.proofs.lemmas.Int.{ints}
use Rattle.st_picture.proofs.ValueLaws.{half_steps, half_most, small_pos}
use Rattle.st_picture.proofs.value.half_step.Goals as goal

pub returns-clause-value : goal.returns-clause-value
returns-clause-value c =
    let e : c.pow.result ≡ 10 ^ (18 - c.args.places) = c.pow.ensures in
    let most = half_steps c.args.times (18 - c.args.places) c.requires.times (omega arith) in
    rw e (small_pos (c.args.times * (10 ^ (18 - c.args.places) / 2)) most)

pub returns-clause-to : goal.returns-clause-to
returns-clause-to c =
    let e : c.pow.result ≡ 10 ^ (18 - c.args.places) = c.pow.ensures in
    let most = half_steps c.args.times (18 - c.args.places) c.requires.times (omega arith) in
    let least = half_most c.args.times (18 - c.args.places) (omega arith) in
    let z = small_pos (c.args.times * (10 ^ (18 - c.args.places) / 2)) most in
    rw (e, z) (omega (arith, ints, least))
