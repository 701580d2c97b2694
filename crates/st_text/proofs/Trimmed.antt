-- A text without the blanks at its end, by its last byte.
use Rattle.std.proofs.Common.{◌≡◌, ℕ, ◌+◌, ◌-◌, ◌<◌, true, false, List, [], ◌∷◌, ◌++◌, length, take, get_or, sym, ◌∙◌, ap, arith}
use Rattle.std.proofs.lemmas.List.{take_more, take_all}
use Rattle.std.proofs.lemmas.Grind.{common_steps}
use Rattle.std.proofs.lemmas.List.Folds.{list_all-append}
use Rattle.st_text.specs.Bytes.{is_blank}
use Rattle.st_text.specs.Lines.{without_end_blanks}

pub without_end_blanks-blank : (xs : List ℕ) (b : ℕ) → is_blank b ≡ true → without_end_blanks (xs ++ b ∷ []) ≡ without_end_blanks xs
without_end_blanks-blank [] b h = grind (arith, common_steps)
without_end_blanks-blank (x ∷ xs) b h = grind (arith, common_steps, list_all-append is_blank, without_end_blanks-blank xs b h)

pub without_end_blanks-other : (xs : List ℕ) (b : ℕ) → is_blank b ≡ false → without_end_blanks (xs ++ b ∷ []) ≡ xs ++ b ∷ []
without_end_blanks-other [] b h = grind (arith, common_steps)
without_end_blanks-other (x ∷ xs) b h = grind (arith, common_steps, list_all-append is_blank, without_end_blanks-other xs b h)

-- a text of at least one byte is all but its last byte, and that
pub front_and_last : (xs : List ℕ) → 0 < length xs → xs ≡ take (length xs - 1) xs ++ get_or xs (length xs - 1) 0 ∷ []
front_and_last xs h =
    let step = take_more xs (length xs - 1) 0 (omega arith) in
    let whole : length xs - 1 + 1 ≡ length xs = omega arith in
    let all = take_all (length xs - 1 + 1) xs (omega arith) in
    sym all ∙ step

pub front_trimmed : (xs : List ℕ) → 0 < length xs → is_blank (get_or xs (length xs - 1) 0) ≡ true → without_end_blanks (take (length xs - 1) xs) ≡ without_end_blanks xs
front_trimmed xs h b =
    sym (ap without_end_blanks (front_and_last xs h) ∙ without_end_blanks-blank (take (length xs - 1) xs) (get_or xs (length xs - 1) 0) b)

pub all_trimmed : (xs : List ℕ) → 0 < length xs → is_blank (get_or xs (length xs - 1) 0) ≡ false → xs ≡ without_end_blanks xs
all_trimmed xs h b =
    let parts = front_and_last xs h in
    parts ∙ sym (ap without_end_blanks parts ∙ without_end_blanks-other (take (length xs - 1) xs) (get_or xs (length xs - 1) 0) b)
