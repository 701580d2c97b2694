-- What the words of the program give: a job, or the first fault.
use Rattle.std.specs.Prelude.{◌≡◌, ℕ, ◌⊎◌, List, [], Result, Ok, Err}
use Rattle.st_words.specs.Cut.{Standing, start_of, Reads, Stops}
use Rattle.st_words.specs.Job.{IsAskedFor}
use Rattle.st_words.specs.Rules.{rules, AreKept, FirstBroken, Names}
use Rattle.st_words.specs.declared.choice.Choice.{Choice}
use Rattle.st_words.specs.declared.fault.WordFault.{WordFault}
use Rattle.st_words.specs.declared.job.Job.{Job}
use Rattle.st_words.specs.declared.options.Options.{Options}
use Rattle.st_words.specs.declared.rule.Rule.{Rule}

-- all words are read, and their options ask for this together
pub record AskFor (words : List (List ℕ)) (o : Options) : Type 0 where
  pub choices : List Choice
  pub end : Standing
  pub reads : Reads (start_of words) choices end
  pub all : end.left ≡ []
  pub asked : end.asked ≡ o

-- the words are read from the left up to a fault that has a place
pub record HasFault (words : List (List ℕ)) (fault : WordFault) : Type 0 where
  pub choices : List Choice
  pub at : Standing
  pub reads : Reads (start_of words) choices at
  pub stops : Stops at fault

-- what options give: a job where they keep all rules, or the fault of the first rule that they break
abbrev pub OptionsGive : Options → Result Job WordFault → Type 0
OptionsGive o (Ok job) = AreKept o rules × IsAskedFor o job
OptionsGive o (Err fault) = (rule : Rule) × FirstBroken o rules rule × Names o rule fault

-- What the words give: a job, a fault at a place, or the fault of a rule on their options together.
abbrev pub WordsGive : List (List ℕ) → Result Job WordFault → Type 0
WordsGive words (Ok job) = (o : Options) × AskFor words o × OptionsGive o (Ok job)
WordsGive words (Err fault) = HasFault words fault ⊎ ((o : Options) × AskFor words o × OptionsGive o (Err fault))
