use Rattle.std.proofs.Common.{◌∙◌, Global}
use Rattle.std.specs.Prelude.{string_bytes}
use Rattle.st_words.proofs.CutLaws.{loop_kept, loop_place}
use Rattle.st_words.proofs.reading.read_options.Goals as goal

pub loop-rest-preserved : goal.loop-rest-preserved
loop-rest-preserved c = record {
  read =
      loop_kept (string_bytes {Z = Global}) c.loop-rest.options c.add.new.self c.loop-rest.place c.loop-rest.rest.now c.behind-rest.result.now c.word-item.result
      c.as_bytes.result.now c.in_ok-choice.choice c.in_ok-choice.count c.in-len1-up.len_at_least c.word-item.is c.as_bytes.ensures.value c.in_ok-choice.ensures.ok
      c.in_ok-choice.ensures.within c.add.ensures c.behind-rest.ensures
      ∙ c.loop-rest.invariant.read;
  place =
      loop_place c.loop-rest.rest.now c.behind-rest.result.now c.in_ok-choice.count c.loop-rest.place _ c.in-len1-up.len_at_least c.in_ok-choice.ensures.within
      c.behind-rest.ensures c.loop-rest.invariant.place;
}
