-- A loaded setup names one clock, and one list of files; or is refused for one reason.
use Rattle.std.proofs.Common.{◌≡◌, ℕ, zero, suc, ◌*◌, ◌^◌, ◌<◌, ◌≤◌, ℤ, pos, negsuc, ◌*ℤ◌, neg_ℤ, unsigned_abs, inl, inr, Bool, true, false, Result, Ok, Err, List, [], ◌∷◌, refl, sym, ap, ◌∙◌, subst, arith, le_of_eq}
use Rattle.std.proofs.Math.Nat.{le_of_mul-le-mul_right, one-le-pow}
use Rattle.std.proofs.lemmas.Bool.{false≢true}
use Rattle.std.proofs.lemmas.Int.{unsigned_abs-mul}
use Rattle.st_decimal.specs.Scaling.{IsTimesTen}
use Rattle.st_decimal.specs.declared.number.Dec.{Dec}
use Rattle.st_kernel_text.specs.declared.value.Value.{Value}
use Rattle.st_kernel_text.specs.declared.value.Value.TheVariants.{Number}
use Rattle.st_pool.specs.Variable.{loaded_values, loaded_kind}
use Rattle.st_pool.specs.declared.kernel.Kernel.{Kernel}
use Rattle.st_pool.specs.declared.kind.Kind.TheVariants.{Numbers}
use Rattle.st_ticks.specs.declared.variable.Var.{Var}
use Rattle.st_ticks.specs.declared.variable.Var.TheVariants.{LeapsecondsFile, SclkFile}
use Rattle.st_words.specs.Setup.{SetupClock, SetupFiles, IsClockOf, IsId, id_name, leapseconds_name, names_files}
use Rattle.st_words.specs.declared.fault.IdFault.{IdFault}
use Rattle.st_words.specs.declared.fault.IdFault.TheVariants.{Missing, WrongKind as NoNumber, BadId}
use Rattle.st_words.specs.declared.fault.SetupFault.{SetupFault}
use Rattle.st_words.specs.declared.fault.SetupFault.TheVariants.{WrongKind, OutOfMemory}
use Rattle.st_words.proofs.SetupLaws.{one_clock}

-- a number has one magnitude
power-some : (k : ℕ) → 0 < 10 ^ k
power-some k = omega (arith, one-le-pow k 10 (omega arith))

one-factor : (m n p : ℕ) → 0 < p → m * p ≡ n * p → m ≡ n
one-factor m n p some same =
    let low : m ≤ n = le_of_mul-le-mul_right (le_of_eq same) some in
    let high : n ≤ m = le_of_mul-le-mul_right (le_of_eq (sym same)) some in
    omega arith

size-of-product : (u n : ℤ) (p : ℕ) → (u *ℤ pos p) ≡ n → unsigned_abs u * p ≡ unsigned_abs n
size-of-product u n p h = sym (unsigned_abs-mul u (pos p)) ∙ ap unsigned_abs h

one-size : (n power a b : ℤ) → IsTimesTen n power a → IsTimesTen n power b → unsigned_abs a ≡ unsigned_abs b
one-size n (pos k) a b h i = ap unsigned_abs (h ∙ sym i)
one-size n (negsuc k) a b h i =
    one-factor (unsigned_abs a) (unsigned_abs b) (10 ^ suc k) (power-some (suc k)) (size-of-product a n (10 ^ suc k) h ∙ sym (size-of-product b n (10 ^ suc k) i))

size-of-neg : (n : ℕ) → unsigned_abs (neg_ℤ (pos n)) ≡ n
size-of-neg zero = refl
size-of-neg (suc k) = refl

one-magnitude : (d : Dec) (m n : ℕ) → IsId d m → IsId d n → m ≡ n
one-magnitude d m n h k =
    sym (size-of-neg m) ∙ one-size d.digits d.tens (neg_ℤ (pos m)) (neg_ℤ (pos n)) h.whole.value k.whole.value ∙ size-of-neg n

same-number : (a b : Dec) → ◌≡◌ {A = List Value} (Number a ∷ []) (Number b ∷ []) → a ≡ b
same-number a b e = cc

one-id : (values : List Value) (m n : ℕ) → IsClockOf values m → IsClockOf values n → m ≡ n
one-id values m n h k =
    let same = same-number h.number k.number (sym h.alone ∙ k.alone) in
    one-magnitude k.number m n (subst (λ (d : Dec). IsId d m) same h.id) k.id

-- a loaded setup names one clock
finds : (loaded : List Kernel) (a : Result ℕ IdFault) → SetupClock loaded a → (n : ℕ) → loaded_kind id_name loaded ≡ Numbers → IsClockOf (loaded_values id_name loaded) n → a ≡ Ok n
finds loaded (Ok m) h = λ n e k. ap (λ (x : ℕ). Ok x) (one-id (loaded_values id_name loaded) m n h.1 k)
finds loaded (Err Missing) h = λ n e k. let bad = sym h ∙ e in absurd cc
finds loaded (Err NoNumber) (inl h) = λ n e k. let bad = sym h ∙ e in absurd cc
finds loaded (Err NoNumber) (inr h) = λ n e k. let bad = sym h ∙ e in absurd cc
finds loaded (Err BadId) h = λ n e k. absurd (h.1 n k)

pub one-clock : (loaded : List Kernel) (a b : Result ℕ IdFault) → SetupClock loaded a → SetupClock loaded b → a ≡ b
one-clock loaded a b h k = one_clock loaded a b (finds loaded a h) h k

-- and one list of files, or the first variable of a wrong kind
wrong_first : Bool → Var
wrong_first true = SclkFile
wrong_first false = LeapsecondsFile

abbrev IsWrong : List Kernel → Var → Type 0
IsWrong loaded var = (var ≡ wrong_first (names_files leapseconds_name loaded)) × ((names : List (List ℕ)) → SetupFiles loaded (Ok names) → ⊥)

wrong : (loaded : List Kernel) (var : Var) → SetupFiles loaded (Err (WrongKind var)) → IsWrong loaded var
unfolding wrong_first
wrong loaded LeapsecondsFile h = (sym (ap wrong_first h), λ names k. false≢true (sym h ∙ k.0))
wrong loaded SclkFile h = (sym (ap wrong_first h.0), λ names k. false≢true (sym h.1 ∙ k.1))
wrong loaded other h = absurd h

pub one-files : (loaded : List Kernel) (a b : Result (List (List ℕ)) SetupFault) → SetupFiles loaded a → SetupFiles loaded b → a ≡ b
one-files loaded (Ok a) (Ok b) h k = ap (λ (x : List (List ℕ)). Ok x) (h.2 ∙ sym k.2)
one-files loaded (Ok a) (Err (WrongKind v)) h k = absurd ((wrong loaded v k).1 a h)
one-files loaded (Ok a) (Err OutOfMemory) h k = absurd k
one-files loaded (Err (WrongKind v)) (Ok b) h k = absurd ((wrong loaded v h).1 b k)
one-files loaded (Err (WrongKind v)) (Err (WrongKind w)) h k = ap (λ (x : Var). Err (WrongKind x)) ((wrong loaded v h).0 ∙ sym (wrong loaded w k).0)
one-files loaded (Err (WrongKind v)) (Err OutOfMemory) h k = absurd k
one-files loaded (Err OutOfMemory) b h k = absurd h
