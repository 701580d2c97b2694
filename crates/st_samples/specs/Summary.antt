-- The summary of the answers to samples. Its text is this project's own.
use Rattle.std.specs.Prelude.{ℕ, ◌+◌, ◌%◌, ◌^◌, Bool, true, false, List, ◌++◌, length, codes}
use Rattle.std.specs.List.{count_by, sum, sum_by}
use Rattle.st_text.specs.Bytes.{decimal_digits}

-- the answer of a line as it is written, without a line feed: a text, or a refusal with its `refused `
pub data AnswerLine : Type 0 where
  text : List ℕ → AnswerLine
  refusal : List ℕ → AnswerLine

abbrev pub is_text : AnswerLine → Bool
is_text (text bytes) = true
is_text (refusal bytes) = false

abbrev pub is_refusal : AnswerLine → Bool
is_refusal (text bytes) = false
is_refusal (refusal bytes) = true

-- the sum of an answer's bytes
abbrev pub bytes_sum : AnswerLine → ℕ
bytes_sum (text bytes) = sum bytes
bytes_sum (refusal bytes) = sum bytes

-- how many lines were answered, how many of them by a text and how many by a refusal, and the sum of all their bytes modulo
-- 2^32
pub record Summary : Type 0 where
  pub lines : ℕ
  pub texts : ℕ
  pub refused : ℕ
  pub bytes : ℕ

-- the summary of all answers
unfoldable pub summary_of : List AnswerLine → Summary
summary_of answers = record {
  lines = length answers;
  texts = count_by is_text answers;
  refused = count_by is_refusal answers;
  bytes = sum_by bytes_sum answers % 2 ^ 32;
}

-- the summary when one more line is answered
abbrev pub with_answer : Summary → AnswerLine → Summary
with_answer s (text bytes) =
    record { lines = s.lines + 1; texts = s.texts + 1; refused = s.refused; bytes = (s.bytes + sum bytes) % 2 ^ 32 }
with_answer s (refusal bytes) =
    record { lines = s.lines + 1; texts = s.texts; refused = s.refused + 1; bytes = (s.bytes + sum bytes) % 2 ^ 32 }

-- `sample 2 texts 1 refused 1 sum 2605`, without a line feed
abbrev pub summary_text : Summary → List ℕ
summary_text s =
    codes "sample " ++ (decimal_digits s.lines
    ++ (codes " texts " ++ (decimal_digits s.texts
    ++ (codes " refused " ++ (decimal_digits s.refused
    ++ (codes " sum " ++ decimal_digits s.bytes))))))
