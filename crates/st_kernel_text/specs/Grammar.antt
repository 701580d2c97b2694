-- The assignments of a kernel, after NAIF's Kernel Required Reading. The limit of 32 bytes for a
-- name is that of the Toolkit's kernel pool. A line feed is the end of a line.
use Rattle.std.specs.Prelude.{◌≡◌, ℕ, ◌<◌, ◌≤◌, Bool, true, false, List, [], ◌∷◌, ◌++◌, length, IsTrue, ⊤, ◌⊎◌}
use Rattle.std.specs.List.{list_all}
use Rattle.st_text.specs.Ascii.{line_feed, open_paren, close_paren, plus, equals_sign}
use Rattle.st_kernel_text.specs.Limits.{most_name_bytes}
use Rattle.st_text.specs.Bytes.{is_blank}
use Rattle.st_kernel_text.specs.Bytes.{is_space, is_separator, is_name_byte}
use Rattle.st_kernel_text.specs.Values.{Spells, may_follow}
use Rattle.st_kernel_text.specs.declared.assignment.Assignment.{Assignment}
use Rattle.st_kernel_text.specs.declared.assignment.Mode.{Mode}
use Rattle.st_kernel_text.specs.declared.assignment.Mode.TheVariants.{Set, Add}
use Rattle.st_kernel_text.specs.declared.value.Value.{Value}
use Rattle.st_kernel_text.specs.declared.value.Value.TheVariants.{Number, Text}

-- the data of a file: bytes, each after the number of its line
abbrev pub Data : Type 0
Data = List (ℕ × ℕ)

-- the bytes alone
abbrev pub plain : Data → List ℕ
plain [] = []
plain (b ∷ t) = b.1 ∷ plain t

-- every byte passes the test
abbrev pub AreAll : (ℕ → Bool) → Data → Type 0
AreAll test t = IsTrue (list_all test (plain t))

-- 1 to 32 bytes without blanks, `(`, `)`, `,`, `=` and `'`, the last of them no `+`
pub record IsName (name : List ℕ) : Type 0 where
  pub some : 0 < length name
  pub most : length name ≤ most_name_bytes
  pub bytes : IsTrue (list_all is_name_byte name)
  pub last : (front : List ℕ) → name ≡ front ++ plus ∷ [] → ⊥

-- `=` of line n, or `+=` whose `=` is of line n
abbrev pub SpellsSign : Mode → ℕ → Data → Type 0
SpellsSign Set n t = t ≡ (n, equals_sign) ∷ []
SpellsSign Add n t = (k : ℕ) × (t ≡ (k, plus) ∷ ((n, equals_sign) ∷ []))

-- an assignment up to its value: a name, blanks, a sign of line n, and what may stand before a
-- value
pub record SpellsHead (name : List ℕ) (mode : Mode) (n : ℕ) (t : Data) : Type 0 where
  pub word : Data
  pub blanks : Data
  pub sign : Data
  pub spaces : Data
  pub name_is : IsName name
  pub is : plain word ≡ name
  pub are_blanks : AreAll is_blank blanks
  pub sign_is : SpellsSign mode n sign
  pub are_spaces : AreAll is_space spaces
  pub whole : t ≡ word ++ (blanks ++ (sign ++ spaces))

-- the data begin with what may follow a value
abbrev pub EndsValue : Data → Type 0
EndsValue [] = ⊥
EndsValue (b ∷ t) = IsTrue (may_follow b.1)

abbrev pub same_kind : Value → Value → Bool
same_kind (Number d) (Number other) = true
same_kind (Number d) (Text content) = false
same_kind (Text content) (Number d) = false
same_kind (Text content) (Text other) = true

-- numbers alone, or strings alone
abbrev pub AreOfOneKind : List Value → Type 0
AreOfOneKind [] = ⊤
AreOfOneKind (first ∷ more) = IsTrue (list_all (same_kind first) more)

-- a value after separators, and more after it
pub record SpellsItem (v : Value) (More : Data → Type 0) (t follow : Data) : Type 0 where
  pub gap : Data
  pub text : Data
  pub rest : Data
  pub are_separators : AreAll is_separator gap
  pub value : Spells v (plain text)
  pub ends : EndsValue (rest ++ follow)
  pub more : More rest
  pub whole : t ≡ gap ++ (text ++ rest)

-- the values between parentheses, before the data that follow
abbrev pub SpellsItems : List Value → Data → Data → Type 0
SpellsItems [] t follow = AreAll is_separator t
SpellsItems (v ∷ vs) t follow = SpellsItem v (λ rest. SpellsItems vs rest follow) t follow

-- one value without parentheses
pub record SpellsAlone (vs : List Value) (t follow : Data) : Type 0 where
  pub value : Value
  pub one : vs ≡ value ∷ []
  pub spells : Spells value (plain t)
  pub ends : EndsValue follow

-- a list of values of one kind, from a `(` of line n on
pub record SpellsList (vs : List Value) (t : Data) : Type 0 where
  pub opened : ℕ
  pub items : Data
  pub closed : ℕ
  pub some : 0 < length vs
  pub kind : AreOfOneKind vs
  pub spells : SpellsItems vs items ((closed, close_paren) ∷ [])
  pub whole : t ≡ (opened, open_paren) ∷ (items ++ (closed, close_paren) ∷ [])

abbrev pub SpellsValues : List Value → Data → Data → Type 0
SpellsValues vs t follow = SpellsAlone vs t follow ⊎ SpellsList vs t

-- an assignment with the end of its last line
pub record SpellsAssignment (a : Assignment) (t : Data) : Type 0 where
  pub sign_line : ℕ
  pub head : Data
  pub body : Data
  pub blanks : Data
  pub end_line : ℕ
  pub head_is : SpellsHead a.name a.mode sign_line head
  pub body_is : SpellsValues a.values body (blanks ++ (end_line, line_feed) ∷ [])
  pub are_blanks : AreAll is_blank blanks
  pub whole : t ≡ head ++ (body ++ (blanks ++ (end_line, line_feed) ∷ []))

pub record SpellsNext (a : Assignment) (More : Data → Type 0) (t : Data) : Type 0 where
  pub gap : Data
  pub text : Data
  pub rest : Data
  pub are_spaces : AreAll is_space gap
  pub assignment : SpellsAssignment a text
  pub more : More rest
  pub whole : t ≡ gap ++ (text ++ rest)

-- the data are these assignments in order, with blank lines and blanks between them
abbrev pub SpellsAll : List Assignment → Data → Type 0
SpellsAll [] t = AreAll is_space t
SpellsAll (a ∷ more) t = SpellsNext a (λ rest. SpellsAll more rest) t
