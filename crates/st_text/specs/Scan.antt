-- How a text is cut from the left: into the bytes that pass a test, and the rest.
use Rattle.std.specs.Prelude.{ℕ, Bool, ◌&&◌, ◌==◌, ◌≤◌, nat_le, List, [], ◌∷◌, length, Option, Some, None, IsTrue, if◌then◌else◌}
use Rattle.std.specs.Char.{is_ascii_digit}
use Rattle.st_text.specs.Bytes.{are_digits}

infixl 10 ◌>>=◌
-- one step and then the next, where the first has an answer
abbrev pub ◌>>=◌ : {A B : Type 0} → Option A → (A → Option B) → Option B
None >>= f = None
(Some x) >>= f = f x

-- what stands before the first byte that fails the test, and from there on
unfoldable pub leading : (ℕ → Bool) → List ℕ → List ℕ
leading p [] = []
leading p (b ∷ t) = if p b then b ∷ leading p t else []

unfoldable pub behind : (ℕ → Bool) → List ℕ → List ℕ
behind p [] = []
behind p (b ∷ t) = if p b then behind p t else b ∷ t

-- the digits with which a text begins, and the rest
abbrev pub leading_digits : List ℕ → List ℕ
leading_digits text = leading is_ascii_digit text

abbrev pub past_digits : List ℕ → List ℕ
past_digits text = behind is_ascii_digit text

-- what stands after a byte with which the text begins
unfoldable pub after : ℕ → List ℕ → Option (List ℕ)
after byte [] = None
after byte (b ∷ t) = if b == byte then Some t else None

-- digits alone, from `low` to `high` of them
pub record IsDigitRun (low high : ℕ) (text : List ℕ) : Type 0 where
  pub digits : IsTrue (are_digits text)
  pub at_least : low ≤ length text
  pub at_most : length text ≤ high

-- the same as a test
unfoldable pub is_digit_run : ℕ → ℕ → List ℕ → Bool
is_digit_run low high text =
    are_digits text && (nat_le low (length text) && nat_le (length text) high)
