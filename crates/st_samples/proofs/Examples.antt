-- The first numbers of two seeds, and a summary, worked out by the definitions.
use Rattle.std.proofs.Common.{◌≡◌, ℕ, [], ◌∷◌, refl}
use Rattle.std.specs.Prelude.{codes}
use Rattle.st_samples.specs.Generator.{x_of, seconds, milliseconds}
use Rattle.st_samples.specs.SampleLine.{clock_text}
use Rattle.st_samples.specs.Summary.{text, refusal, summary_of, summary_text}

abbrev first : ℕ
first = 1_442_695_040_888_963_407

first_number : x_of 0 1 ≡ first
unfolding x_of
first_number = refl

second_number : x_of 0 2 ≡ 1_876_011_003_808_476_466
unfolding x_of
second_number = refl

whole_seconds : seconds first ≡ 1_471_672_182
whole_seconds = refl

behind_them : milliseconds first ≡ 513
behind_them = refl

last_of_day : clock_text 86_399_999 ≡ codes "23:59:59.999"
last_of_day = refl

two_answers : summary_text (summary_of (text (codes "1471672214.697000") ∷ refusal (codes "refused BAD_TIME") ∷ [])) ≡ codes "sample 2 texts 1 refused 1 sum 2250"
unfolding summary_of
two_answers = refl
