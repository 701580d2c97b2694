-- The first token that cannot go on, by the byte at which the reader finds it: private clauses and
-- proofs cite it. `Faults` says the same by what may stand. A token and the byte directly after it
-- stand on one line, since the end of a line counts to the line that it ends.
use Rattle.std.specs.Prelude.{◌≡◌, ℕ, Bool, false, List, [], ◌∷◌, ◌++◌, length, ◌==◌, ◌||◌, IsTrue, ◌⊎◌}
use Rattle.st_text.specs.Bytes.{is_blank}
use Rattle.st_decimal.specs.declared.number.Dec.{Dec}
use Rattle.st_kernel_text.specs.Bytes.{is_space, is_name_byte, is_run_byte}
use Rattle.st_kernel_text.specs.Faults.{Row, between, behind_name, behind_sign, in_list, behind_values, Stands, is_before_value}
use Rattle.st_kernel_text.specs.Grammar.{Data, plain, AreAll, IsName, same_kind}
use Rattle.st_kernel_text.specs.Values.{Spells, ReadsRun, IsContent, quoted, cause_of_run, may_follow}
use Rattle.st_kernel_text.specs.declared.fault.TextCause.{TextCause}
use Rattle.st_kernel_text.specs.declared.fault.TextCause.TheVariants.{NoName, NoSign, NoValue, BadString, MixedKinds, TrailingText}
use Rattle.st_kernel_text.specs.declared.value.Value.{Value}

-- the data begin with a byte that fails the test
abbrev pub BeginsWithout : (ℕ → Bool) → Data → Type 0
BeginsWithout test [] = ⊥
BeginsWithout test (b ∷ t) = test b.1 ≡ false

-- the longest run of bytes of a name is no name; of `+=` after it the `+` is the sign's
pub record HasNoName (t : Data) (n : ℕ) : Type 0 where
  pub word : Data
  pub byte : ℕ
  pub more : Data
  pub begins : BeginsWithout is_space t
  pub bytes : AreAll is_name_byte word
  pub longest : is_name_byte byte ≡ false
  pub none : IsName (plain word) → ⊥
  pub none_added : (front : List ℕ) → byte ≡ 61 → plain word ≡ front ++ 43 ∷ [] → IsName front → ⊥
  pub whole : t ≡ word ++ ((n, byte) ∷ more)

-- neither a blank nor a sign
pub record HasNoSign (t : Data) (n : ℕ) : Type 0 where
  pub byte : ℕ
  pub more : Data
  pub other : is_blank byte || (byte == 61) || (byte == 43) ≡ false
  pub whole : t ≡ (n, byte) ∷ more

-- a `+` without its `=`
pub record HasPlusAlone (t : Data) (n : ℕ) : Type 0 where
  pub line : ℕ
  pub byte : ℕ
  pub more : Data
  pub other : (byte == 61) ≡ false
  pub whole : t ≡ (line, 43) ∷ ((n, byte) ∷ more)

pub record HasByte (byte : ℕ) (t : Data) (n : ℕ) : Type 0 where
  pub more : Data
  pub whole : t ≡ (n, byte) ∷ more

-- the longest run of bytes of a number is followed by `(` or `'`, or is neither number nor date
pub record HasBadRun (t : Data) (n : ℕ) (cause : TextCause) : Type 0 where
  pub word : Data
  pub byte : ℕ
  pub more : Data
  pub bytes : AreAll is_run_byte word
  pub longest : is_run_byte byte ≡ false
  pub none : IsTrue (may_follow byte) → (d : Dec) → ReadsRun (plain word) d → ⊥
  pub cause_is : cause ≡ cause_of_run (plain word)
  pub whole : t ≡ word ++ ((n, byte) ∷ more)

-- a string that goes on to the end of its line, or has an 81st byte that is no quote
pub record HasOpenText (t : Data) (n : ℕ) : Type 0 where
  pub opened : ℕ
  pub content : List ℕ
  pub text : Data
  pub byte : ℕ
  pub more : Data
  pub content_is : IsContent content
  pub written : plain text ≡ quoted content
  pub breaks : (byte ≡ 10) ⊎ ((length content ≡ 80) × ((byte == 39) ≡ false))
  pub whole : t ≡ (opened, 39) ∷ (text ++ ((n, byte) ∷ more))

-- a string that is followed by something else than a separator or `)`, or has a quote as its 81st
-- byte
pub record HasBadEnd (t : Data) (n : ℕ) : Type 0 where
  pub opened : ℕ
  pub content : List ℕ
  pub text : Data
  pub byte : ℕ
  pub more : Data
  pub content_is : IsContent content
  pub written : plain text ≡ quoted content ++ 39 ∷ []
  pub breaks : ((byte ≡ 39) × (length content ≡ 80)) ⊎ (((byte == 39) ≡ false) × (may_follow byte ≡ false))
  pub whole : t ≡ (opened, 39) ∷ (text ++ ((n, byte) ∷ more))

abbrev pub is_quote : ℕ → Bool
is_quote b = b == 39

-- no value stands here, by what the first byte announces
abbrev pub HasBadValue : Data → ℕ → TextCause → Type 0
HasBadValue t n cause =
    (BeginsWithout is_quote t × HasBadRun t n cause) ⊎ ((cause ≡ BadString) × (HasOpenText t n ⊎ HasBadEnd t n))

-- a value of another kind than the first before it
pub record HasOtherKind (vs : List Value) (t : Data) (n : ℕ) : Type 0 where
  pub first : Value
  pub others : List Value
  pub value : Value
  pub text : Data
  pub byte : ℕ
  pub more : Data
  pub before : vs ≡ first ∷ others
  pub other : same_kind first value ≡ false
  pub spells : Spells value (plain text)
  pub ends : IsTrue (may_follow byte)
  pub whole : t ≡ text ++ ((n, byte) ∷ more)

-- the next token of a row breaks at a byte of line n
abbrev pub Breaks : Row → Data → ℕ → TextCause → Type 0
Breaks between t n cause = (cause ≡ NoName) × HasNoName t n
Breaks behind_name t n cause = (cause ≡ NoSign) × (HasNoSign t n ⊎ HasPlusAlone t n)
Breaks (behind_sign line) t n cause =
    ((cause ≡ NoValue) × HasByte 41 t n) ⊎ (BeginsWithout is_before_value t × HasBadValue t n cause)
Breaks (in_list line vs) t n cause =
    ((cause ≡ NoValue) × (vs ≡ []) × HasByte 41 t n)
    ⊎ (((cause ≡ MixedKinds) × HasOtherKind vs t n) ⊎ (BeginsWithout may_follow t × HasBadValue t n cause))
Breaks behind_values t n cause =
    (cause ≡ TrailingText) × (BeginsWithout is_space t) × ((byte : ℕ) × HasByte byte t n)

pub record HasFault (t : Data) (n : ℕ) (cause : TextCause) : Type 0 where
  pub row : Row
  pub before : Data
  pub rest : Data
  pub stands : Stands row before rest
  pub breaks : Breaks row rest n cause
  pub whole : t ≡ before ++ rest
