-- The first token that may not stand where it does: all before it is spelled as it should be, and
-- what should stand here doesn't. No token goes over the end of a line, so the line of a fault is
-- that of the token's first byte. Source for what may stand: NAIF's Kernel Required Reading, by
-- `Grammar`.
use Rattle.std.specs.Prelude.{◌≡◌, ℕ, Bool, false, List, [], ◌∷◌, ◌++◌, ◌==◌, ◌||◌, ⊤, ◌⊎◌, if◌then◌else◌}
use Rattle.st_text.specs.Ascii.{quote, open_paren, close_paren, at_sign}
use Rattle.st_text.specs.Bytes.{is_blank}
use Rattle.st_kernel_text.specs.Bytes.{is_space, is_name_byte}
use Rattle.st_kernel_text.specs.Grammar.{Data, plain, AreAll, IsName, SpellsSign, SpellsHead, EndsValue, same_kind, AreOfOneKind, SpellsItems, SpellsValues, SpellsAll}
use Rattle.st_kernel_text.specs.Values.{Spells, may_follow}
use Rattle.st_kernel_text.specs.declared.assignment.Assignment.{Assignment}
use Rattle.st_kernel_text.specs.declared.assignment.Mode.{Mode}
use Rattle.st_kernel_text.specs.declared.assignment.Mode.TheVariants.{Add}
use Rattle.st_kernel_text.specs.declared.fault.TextCause.{TextCause}
use Rattle.st_kernel_text.specs.declared.fault.TextCause.TheVariants.{NoName, NoSign, NoValue, BadNumber, BadString, BadDate, MixedKinds, Unclosed, TrailingText}
use Rattle.st_kernel_text.specs.declared.value.Value.{Value}

-- where the next token stands
pub data Row : Type 0 where
  -- before an assignment
  between : Row
  behind_name : Row
  -- after a sign of this line
  behind_sign : ℕ → Row
  -- in a list after a `(` of this line and these values
  in_list : ℕ → List Value → Row
  -- after a value without parentheses or a `)`
  behind_values : Row

-- the data begin with no byte of a name, so that a name before them is whole
abbrev pub EndsName : Data → Type 0
EndsName [] = ⊥
EndsName (b ∷ t) = is_name_byte b.1 ≡ false

pub record StandsBetween (t : Data) : Type 0 where
  pub done : List Assignment
  pub spells : SpellsAll done t

pub record StandsNamed (t rest : Data) : Type 0 where
  pub done : List Assignment
  pub front : Data
  pub word : Data
  pub blanks : Data
  pub spells : SpellsAll done front
  pub name_is : IsName (plain word)
  pub are_blanks : AreAll is_blank blanks
  pub ends : EndsName (blanks ++ rest)
  pub whole : t ≡ front ++ (word ++ blanks)

pub record StandsSigned (n : ℕ) (t : Data) : Type 0 where
  pub done : List Assignment
  pub name : List ℕ
  pub mode : Mode
  pub front : Data
  pub head : Data
  pub spells : SpellsAll done front
  pub head_is : SpellsHead name mode n head
  pub whole : t ≡ front ++ head

pub record StandsListed (n : ℕ) (vs : List Value) (t : Data) : Type 0 where
  pub sign_line : ℕ
  pub front : Data
  pub items : Data
  pub signed : StandsSigned sign_line front
  pub kind : AreOfOneKind vs
  pub spells : SpellsItems vs items []
  pub whole : t ≡ front ++ ((n, open_paren) ∷ items)

pub record StandsClosed (t rest : Data) : Type 0 where
  pub sign_line : ℕ
  pub values : List Value
  pub front : Data
  pub body : Data
  pub blanks : Data
  pub signed : StandsSigned sign_line front
  pub body_is : SpellsValues values body (blanks ++ rest)
  pub are_blanks : AreAll is_blank blanks
  pub whole : t ≡ front ++ (body ++ blanks)

-- t is spelled as it should be up to this place, and its tokens are whole before the rest
abbrev pub Stands : Row → Data → Data → Type 0
Stands between t rest = StandsBetween t
Stands behind_name t rest = StandsNamed t rest
Stands (behind_sign n) t rest = StandsSigned n t
Stands (in_list n vs) t rest = StandsListed n vs t
Stands behind_values t rest = StandsClosed t rest

-- a sign stands here
abbrev pub HasSignOf : Mode → Data → Type 0
HasSignOf mode t = (n : ℕ) × (sign : Data) × (rest : Data) × SpellsSign mode n sign × (t ≡ sign ++ rest)

abbrev pub HasSign : Data → Type 0
HasSign t = (mode : Mode) × HasSignOf mode t

-- a name stands here: the bytes after it are none of a name, or they are `+=`
pub record HasName (t : Data) : Type 0 where
  pub name : Data
  pub rest : Data
  pub is : IsName (plain name)
  pub ends : EndsName rest ⊎ HasSignOf Add rest
  pub whole : t ≡ name ++ rest

-- a value that fits stands here
pub record HasValue (Fits : Value → Type 0) (t : Data) : Type 0 where
  pub value : Value
  pub text : Data
  pub rest : Data
  pub fits : Fits value
  pub spells : Spells value (plain text)
  pub ends : EndsValue rest
  pub whole : t ≡ text ++ rest

abbrev pub HasAnyValue : Data → Type 0
HasAnyValue t = HasValue (λ v. ⊤) t

-- of another kind than the first of these
abbrev pub IsOther : List Value → Value → Type 0
IsOther [] v = ⊥
IsOther (first ∷ others) v = same_kind first v ≡ false

-- what is called that no value stands here, by the first byte
abbrev pub cause_of : ℕ → TextCause
cause_of b = if b == quote then BadString else (if b == at_sign then BadDate else BadNumber)

-- what may stand before a value, and a `)`: these announce none
abbrev pub is_before_value : ℕ → Bool
is_before_value b = is_space b || (b == open_paren) || (b == close_paren)

-- the token that begins with this byte may not stand in the row
abbrev pub BreaksAt : Row → ℕ → Data → TextCause → Type 0
BreaksAt between b t cause = (cause ≡ NoName) × (is_space b ≡ false) × (HasName t → ⊥)
BreaksAt behind_name b t cause = (cause ≡ NoSign) × (is_blank b ≡ false) × (HasSign t → ⊥)
BreaksAt (behind_sign line) b t cause =
    ((cause ≡ NoValue) × (b ≡ close_paren))
    ⊎ ((cause ≡ cause_of b) × (is_before_value b ≡ false) × (HasAnyValue t → ⊥))
BreaksAt (in_list line vs) b t cause =
    ((cause ≡ NoValue) × (b ≡ close_paren) × (vs ≡ []))
    ⊎ (((cause ≡ cause_of b) × (may_follow b ≡ false) × (HasAnyValue t → ⊥))
    ⊎ ((cause ≡ MixedKinds) × HasValue (IsOther vs) t))
BreaksAt behind_values b t cause = (cause ≡ TrailingText) × (is_space b ≡ false)

-- a token of line n may not stand here, where the data begin with it
abbrev pub Breaks : Row → Data → ℕ → TextCause → Type 0
Breaks row [] n cause = ⊥
Breaks row (b ∷ t) n cause = (n ≡ b.0) × BreaksAt row b.1 (b ∷ t) cause

pub record HasFault (t : Data) (n : ℕ) (cause : TextCause) : Type 0 where
  pub row : Row
  pub before : Data
  pub rest : Data
  pub stands : Stands row before rest
  pub breaks : Breaks row rest n cause
  pub whole : t ≡ before ++ rest

-- the data may not end in this row: after a sign and in a list, whose lines are named. After a
-- name they never end, since each data line has its end, which may not follow a name
abbrev pub IsUnfinished : Row → ℕ → TextCause → Type 0
IsUnfinished between n cause = ⊥
IsUnfinished behind_name n cause = ⊥
IsUnfinished (behind_sign line) n cause = (n ≡ line) × (cause ≡ NoValue)
IsUnfinished (in_list line vs) n cause = (n ≡ line) × (cause ≡ Unclosed)
IsUnfinished behind_values n cause = ⊥
