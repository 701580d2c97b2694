use Rattle.std.proofs.Common.{◌∙◌, Global}
use Rattle.std.specs.Prelude.{string_bytes}
use Rattle.st_words.proofs.Lists.{joined_is}
use Rattle.st_words.proofs.choice.joined.Goals as goal

pub returns-in_ok-add_words-in-len1-up : goal.returns-in_ok-add_words-in-len1-up
returns-in_ok-add_words-in-len1-up c =
    joined_is (string_bytes {Z = Global}) c.args.words.now c.first-item.result c.in_ok-text-in-len1-up.text c.add_words.new.text c.in-len1-up.len_at_least c.first-item.is
    (c.in_ok-text-in-len1-up.ensures ∙ c.as_bytes.ensures.value) c.in_ok-add_words-in-len1-up.ensures
