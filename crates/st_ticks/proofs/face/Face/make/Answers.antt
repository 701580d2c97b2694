use Rattle.std.proofs.Common.{◌≡◌, ℕ, ◌^◌, ◌<◌, ◌≤◌, List, Result, Err, sum_by, sym, subst, arith}
use Rattle.std.specs.List.{All}
use Rattle.std.proofs.lemmas.Result.{err_from_is_err_and}
use Rattle.st_ticks.specs.Face.{Face, IsDelimiter, IsField, IsPartition, span_of_rest, ticks_in}
use Rattle.st_ticks.specs.FaceSteps.{seen, AreBegins}
use Rattle.st_ticks.specs.NumbersMachine.{numbers_of}
use Rattle.st_ticks.specs.Variables.{IsNumber, MakesFace}
use Rattle.st_ticks.specs.declared.fault.FaceFault.{FaceFault}
use Rattle.st_ticks.specs.declared.field.Field.{Field}
use Rattle.st_ticks.specs.declared.field.Partition.{Partition}
use Rattle.st_ticks.proofs.MadeLaws.{lacks_makes, product_fault, makes, all_of_one}
use Rattle.st_ticks.proofs.MakingLaws.{no_dec, from_at}
use Rattle.st_ticks.proofs.SoundLaws.{are_sized, fields_good, partitions_good, rest_small, is_face, delimiter_good}
use Rattle.st_ticks.proofs.face.Face.make.Goals as goal

pub fields_of-requires-clause-same : goal.fields_of-requires-clause-same
fields_of-requires-clause-same c = (are_sized (numbers_of c.args.numbers.now) c.requires).offsets_many

pub returns-in_err-partitions : goal.returns-in_err-partitions
returns-in_err-partitions c =
    let n = numbers_of c.args.numbers.now in
    let failed = err_from_is_err_and c.from_residual-in_err-partitions.result c.from_residual-in_err-partitions.ensures.1 in
    let is : c.from_residual-in_err-partitions.result ≡ Err c.in_err-partitions.field-0.0 = cc (failed.1, failed.2) in
    subst (λ (r : Result Face FaceFault). MakesFace n r) (sym is) (lacks_makes n c.in_err-partitions.field-0.0 c.requires c.in_err-partitions.ensures.bad)

pub total_of-requires : goal.total_of-requires
total_of-requires c =
    let n = numbers_of c.args.numbers.now in
    subst (λ (xs : List Partition). All IsPartition xs) (sym c.deref.ensures.value) (partitions_good n.starts n.ends c.in_ok-partitions.partitions.items c.in_ok-partitions.ensures.ok)

pub returns-in_default : goal.returns-in_default
returns-in_default c =
    let n = numbers_of c.args.numbers.now in
    product_fault n c.in_ok-partitions.partitions.items c.requires c.in_ok-partitions.ensures.ok
    (subst (λ (xs : List Partition). 10 ^ 18 < sum_by ticks_in xs) c.deref.ensures.value c.in_default.ensures.none)

pub begins_of-requires-clause-partitions : goal.begins_of-requires-clause-partitions
begins_of-requires-clause-partitions c =
    let n = numbers_of c.args.numbers.now in
    subst (λ (xs : List Partition). All IsPartition xs) (sym c.deref-2.ensures.value) (partitions_good n.starts n.ends c.in_ok-partitions.partitions.items c.in_ok-partitions.ensures.ok)

pub rest_span-ticks_per_count-requires-clause-fields : goal.rest_span-ticks_per_count-requires-clause-fields
rest_span-ticks_per_count-requires-clause-fields c =
    let n = numbers_of c.args.numbers.now in
    let s = are_sized n c.requires in
    subst (λ (xs : List Field). All IsField xs) (sym c.deref-3.ensures.value) (fields_good n.moduli n.offsets c.in_ok-fields.fields.items c.in_ok-fields.ensures.moduli c.in_ok-fields.ensures.offsets s.offsets)

pub rest_span-ticks_per_count-requires-clause-small : goal.rest_span-ticks_per_count-requires-clause-small
rest_span-ticks_per_count-requires-clause-small c =
    let n = numbers_of c.args.numbers.now in
    subst (λ (xs : List Field). span_of_rest xs ≤ 10 ^ 12) (sym c.deref-3.ensures.value) (rest_small n c.in_ok-fields.fields.items c.requires c.in_ok-fields.ensures.moduli)

pub number-requires : goal.number-requires
number-requires c =
    let n = numbers_of c.args.numbers.now in
    let s = are_sized n c.requires in
    from_at 1 5 n.delim 0 s.delim (omega (arith, s.one_delim)) (omega arith)

pub invariant_of-result : goal.invariant_of-result
invariant_of-result c =
    let n = numbers_of c.args.numbers.now in
    let fields = c.in_ok-fields.fields.items in
    let partitions = c.in_ok-partitions.partitions.items in
    let delimiter = c.delimiter_of-delimiter.result in
    let face : Face = seen fields delimiter partitions in
    let total : c.in-Some.total ≡ sum_by ticks_in partitions =
    subst (λ (xs : List Partition). c.in-Some.total ≡ sum_by ticks_in xs) c.deref.ensures.value c.in-Some.ensures.some in
    let begins : AreBegins face c.in_ok-begins.begins.items =
    subst (λ (xs : List Partition). AreBegins (seen fields delimiter xs) c.in_ok-begins.begins.items) c.deref-2.ensures.value
    (record { as_many = c.in_ok-begins.ensures.length; sums = c.in_ok-begins.ensures.sums }) in
    let is_delimiter : IsDelimiter delimiter = subst (λ (b : ℕ). IsDelimiter b) (sym c.delimiter_of-delimiter.ensures) (delimiter_good c.number.result) in
    record {
      face_is = is_face n face c.requires c.in_ok-fields.ensures.moduli c.in_ok-fields.ensures.offsets c.in_ok-partitions.ensures.ok is_delimiter (omega (arith, total, c.in-Some.ensures.small));
      begins_are = begins;
      ticks_per_count_is = subst (λ (xs : List Field). c.rest_span-ticks_per_count.result ≡ span_of_rest xs) c.deref-3.ensures.value c.rest_span-ticks_per_count.ensures;
      total_is = total;
    }

pub returns : goal.returns
returns c =
    let n = numbers_of c.args.numbers.now in
    let fields = c.in_ok-fields.fields.items in
    let partitions = c.in_ok-partitions.partitions.items in
    let delimiter = c.delimiter_of-delimiter.result in
    let face : Face = seen fields delimiter partitions in
    let total : c.in-Some.total ≡ sum_by ticks_in partitions =
    subst (λ (xs : List Partition). c.in-Some.total ≡ sum_by ticks_in xs) c.deref.ensures.value c.in-Some.ensures.some in
    let s = are_sized n c.requires in
    makes n face partitions c.requires c.in_ok-partitions.ensures.ok (omega (arith, total, c.in-Some.ensures.small))
    (record {
      moduli = c.in_ok-fields.ensures.moduli;
      offsets = c.in_ok-fields.ensures.offsets;
      partitions = c.in_ok-partitions.ensures.ok;
      code = c.number.result;
      code_is = all_of_one (IsNumber c.number.result) n.delim no_dec s.one_delim c.number.ensures.value;
      delimiter = c.delimiter_of-delimiter.ensures;
    })
