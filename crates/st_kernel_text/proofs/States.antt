-- The states of the reader, and the tests of its first bytes.
use Rattle.std.proofs.Common.{◌≡◌, ℕ, Bool, true, false, ◌&&◌, List, [], ◌∷◌, ◌++◌, Option, None, Result, Ok, Err, refl, ap, ◌∙◌, arith}
use Rattle.std.specs.Prelude.{◌==◌, ◌||◌}
use Rattle.std.specs.List.{list_all}
use Rattle.std.proofs.lemmas.Bool.{and_parts, and_from}
use Rattle.std.proofs.lemmas.Bool.Decides.{nat_tests}
use Rattle.std.proofs.lemmas.Grind.{common_steps}
use Rattle.std.proofs.lemmas.List.Folds.{list_all-append}
use Rattle.st_text.specs.Bytes.{is_blank}
use Rattle.st_kernel_text.specs.Bytes.{is_space, is_name_byte, is_run_byte}
use Rattle.st_kernel_text.specs.Fault.{Fault}
use Rattle.st_kernel_text.specs.Grammar.{Data, plain}
use Rattle.st_kernel_text.specs.ParserMachine.{◌>>=◌, step_of, steps_of}
use Rattle.st_kernel_text.specs.Values.{may_follow}
use Rattle.st_kernel_text.specs.declared.assignment.Assignment.{Assignment}
use Rattle.st_kernel_text.specs.declared.assignment.Mode.{Mode}
use Rattle.st_kernel_text.specs.declared.assignment.Mode.TheVariants.{Set}
use Rattle.st_kernel_text.specs.declared.parser.Parser.{Parser}
use Rattle.st_kernel_text.specs.declared.parser.Stage.{Stage}
use Rattle.st_kernel_text.specs.declared.value.Value.{Value}

-- in a name and after it
abbrev pub naming : Stage → List Assignment → List ℕ → Parser
naming s done w = record { done = done; stage = s; name = w; mode = Set; sign = 0; opened = None; values = []; run = [] }

-- after a sign: before a value, in one, in a list or after it
abbrev pub signed : Stage → List Assignment → List ℕ → Mode → ℕ → Option ℕ → List Value → List ℕ → Parser
signed s done name mode n o vs run = record { done = done; stage = s; name = name; mode = mode; sign = n; opened = o; values = vs; run = run }

pub plain-append : (a b : Data) → plain (a ++ b) ≡ plain a ++ plain b
plain-append [] b = refl
plain-append (x ∷ a) b = ap (λ (t : List ℕ). x.1 ∷ t) (plain-append a b)

pub all-append : (test : ℕ → Bool) (a b : Data) → list_all test (plain (a ++ b)) ≡ (list_all test (plain a) && list_all test (plain b))
all-append test a b = ap (list_all test) (plain-append a b) ∙ list_all-append test (plain a) (plain b)

pub all_both : (test : ℕ → Bool) (a b : Data) → list_all test (plain a) ≡ true → list_all test (plain b) ≡ true → list_all test (plain (a ++ b)) ≡ true
all_both test a b h k = all-append test a b ∙ and_from _ _ h k

pub steps-append : (p : Parser) (a b : Data) → steps_of p (a ++ b) ≡ (steps_of p a >>= λ q. steps_of q b)
steps-append p [] b = refl
steps-append p (x ∷ a) b =
    let P : Result Parser Fault → Type 0 = λ r. (r >>= λ q. steps_of q (a ++ b)) ≡ ((r >>= λ q. steps_of q a) >>= λ q. steps_of q b) in
    elim (step_of p x.0 x.1) as P [ Ok q ↦ steps-append q a b | Err e ↦ refl ]

-- one byte, and the bytes after it
pub one_step : (p q : Parser) (n b : ℕ) (rest : Data) → step_of p n b ≡ Ok q → steps_of p ((n, b) ∷ rest) ≡ steps_of q rest
one_step p q n b rest h = ap (λ (r : Result Parser Fault). r >>= λ z. steps_of z rest) h

pub failed_step : (p : Parser) (f : Fault) (n b : ℕ) (rest : Data) → step_of p n b ≡ Err f → steps_of p ((n, b) ∷ rest) ≡ Err f
failed_step p f n b rest h = ap (λ (r : Result Parser Fault). r >>= λ z. steps_of z rest) h

pub skip : (p : Parser) (test : ℕ → Bool) (gap rest : Data) → ((n b : ℕ) → test b ≡ true → step_of p n b ≡ Ok p)
    → list_all test (plain gap) ≡ true → steps_of p (gap ++ rest) ≡ steps_of p rest
skip p test [] rest s h = refl
skip p test (b ∷ gap) rest s h =
    let both = and_parts (test b.1) (list_all test (plain gap)) h in
    ap (λ (r : Result Parser Fault). r >>= λ z. steps_of z (gap ++ rest)) (s b.0 b.1 both.0) ∙ skip p test gap rest s both.1

-- bytes of names are neither blanks nor line ends, and none is the `=`
pub name_byte_no_space : (b : ℕ) → is_name_byte b ≡ true → is_space b ≡ false
unfolding is_name_byte
name_byte_no_space b h = grind (arith, nat_tests, common_steps)

pub space_no_name_byte : (b : ℕ) → is_space b ≡ true → is_name_byte b ≡ false
unfolding is_name_byte
space_no_name_byte b h = grind (arith, nat_tests, common_steps)

pub blank_no_name_byte : (b : ℕ) → is_blank b ≡ true → is_name_byte b ≡ false
unfolding is_name_byte
blank_no_name_byte b h = grind (arith, nat_tests, common_steps)

pub blank_no_equals : (b : ℕ) → is_blank b ≡ true → (b == 61) ≡ false
blank_no_equals b h = grind (arith, nat_tests, common_steps)

pub run_no_follow : (b : ℕ) → may_follow b ≡ true → is_run_byte b ≡ false
unfolding is_run_byte
run_no_follow b h = grind (arith, nat_tests, common_steps)

pub follow_no_stop : (b : ℕ) → may_follow b ≡ true → ((b == 40) || (b == 39)) ≡ false
follow_no_stop b h = grind (arith, nat_tests, common_steps)

pub run_no_quote : (b : ℕ) → is_run_byte b ≡ true → (b == 39) ≡ false
unfolding is_run_byte
run_no_quote b h = grind (arith, nat_tests, common_steps)

pub follow_no_quote : (b : ℕ) → may_follow b ≡ true → (b == 39) ≡ false
follow_no_quote b h = grind (arith, nat_tests, common_steps)
