-- The summary of all answers is made one answer after the other, and a sum modulo 2^32 byte by byte.
use Rattle.std.proofs.Common.{◌≡◌, ℕ, ◌+◌, ◌%◌, ◌^◌, ◌<◌, List, [], ◌∷◌, ◌++◌, length, take, get_or, cond, ap, ◌∙◌, arith, length-append}
use Rattle.std.proofs.lemmas.List.{take_more}
use Rattle.std.proofs.lemmas.List.Sums.{sum_by_push}
use Rattle.std.specs.List.{sum, sum_by}
use Rattle.st_samples.specs.Laws.{SummaryGrows}
use Rattle.st_samples.specs.Summary.{AnswerLine, text, refusal, is_text, is_refusal, bytes_sum, Summary, summary_of}

same : (a b : Summary) → a.lines ≡ b.lines → a.texts ≡ b.texts → a.refused ≡ b.refused → a.bytes ≡ b.bytes → a ≡ b
same a b l t r s =
    ap (λ (n : ℕ). record a { lines = n }) l
    ∙ ap (λ (n : ℕ). record a { lines = b.lines; texts = n }) t
    ∙ ap (λ (n : ℕ). record a { lines = b.lines; texts = b.texts; refused = n }) r
    ∙ ap (λ (n : ℕ). record a { lines = b.lines; texts = b.texts; refused = b.refused; bytes = n }) s

plus : (s n : ℕ) → (s + n) % 2 ^ 32 ≡ (s % 2 ^ 32 + n) % 2 ^ 32
plus s n = omega arith

one_more : (answers : List AnswerLine) (answer : AnswerLine) → length (answers ++ answer ∷ []) ≡ length answers + 1
one_more answers answer = length-append answers (answer ∷ [])

all_bytes : (answers : List AnswerLine) (answer : AnswerLine) → sum_by bytes_sum (answers ++ answer ∷ []) % 2 ^ 32 ≡ (sum_by bytes_sum answers % 2 ^ 32 + bytes_sum answer) % 2 ^ 32
all_bytes answers answer =
    ap (λ (n : ℕ). n % 2 ^ 32) (sum_by_push bytes_sum answers answer) ∙ plus (sum_by bytes_sum answers) (bytes_sum answer)

pub summary_grows : SummaryGrows
unfolding summary_of
summary_grows answers (text bytes) =
    let texts = sum_by_push (λ (a : AnswerLine). cond (is_text a) 1 0) answers (text bytes) in
    let refusals = sum_by_push (λ (a : AnswerLine). cond (is_refusal a) 1 0) answers (text bytes) in
    same _ _ (one_more answers (text bytes)) texts (omega (arith, refusals)) (all_bytes answers (text bytes))
summary_grows answers (refusal bytes) =
    let texts = sum_by_push (λ (a : AnswerLine). cond (is_text a) 1 0) answers (refusal bytes) in
    let refusals = sum_by_push (λ (a : AnswerLine). cond (is_refusal a) 1 0) answers (refusal bytes) in
    same _ _ (one_more answers (refusal bytes)) (omega (arith, texts)) refusals (all_bytes answers (refusal bytes))

-- the same for a summary that is followed
-- the loop's step
pub sum_more : (start total i : ℕ) (bytes : List ℕ) → i < length bytes → total ≡ (start + sum (take i bytes)) % 2 ^ 32
    → (total + get_or bytes i 0) % 2 ^ 32 ≡ (start + sum (take (i + 1) bytes)) % 2 ^ 32
sum_more start total i bytes h e =
    let more = ap sum (take_more bytes i 0 h) ∙ sum_by_push (λ (b : ℕ). b) (take i bytes) (get_or bytes i 0) in
    omega (arith, more, e)
