-- What the data so far are, in each state of the reader, and what one more byte makes of them.
use Rattle.std.proofs.Common.{◌≡◌, ℕ, ◌<◌, true, List, [], ◌∷◌, ◌++◌, length, Option, Some, None, Result, Ok, Err}
use Rattle.std.specs.List.{list_all}
use Rattle.st_text.specs.Bytes.{is_blank}
use Rattle.st_kernel_text.specs.Bytes.{is_name_byte, is_run_byte}
use Rattle.st_kernel_text.specs.Fault.{Fault}
use Rattle.st_kernel_text.specs.FaultSteps.{HasFault}
use Rattle.st_kernel_text.specs.Faults.{StandsSigned}
use Rattle.st_kernel_text.specs.Grammar.{Data, plain, IsName, SpellsHead, AreOfOneKind, SpellsItems, SpellsValues, SpellsAll}
use Rattle.st_kernel_text.specs.ParserMachine.{fresh}
use Rattle.st_kernel_text.specs.Values.{IsContent, quoted}
use Rattle.st_kernel_text.specs.declared.assignment.Assignment.{Assignment}
use Rattle.st_kernel_text.specs.declared.assignment.Mode.{Mode}
use Rattle.st_kernel_text.specs.declared.parser.Parser.{Parser}
use Rattle.st_kernel_text.specs.declared.parser.Stage.TheVariants.{Name, Named, Plus, Signed, InList}
use Rattle.st_kernel_text.specs.declared.value.Value.{Value}
use Rattle.st_kernel_text.proofs.ReadAll.{closed}
use Rattle.st_kernel_text.proofs.ReadValues.{in_run, in_text, at_quote}
use Rattle.st_kernel_text.proofs.States.{naming, signed}

-- between assignments
pub record IsBetween (t : Data) (p : Parser) : Type 0 where
  pub done : List Assignment
  pub is : p ≡ fresh done
  pub spells : SpellsAll done t

-- in a name
pub record IsNaming (t : Data) (p : Parser) : Type 0 where
  pub done : List Assignment
  pub front : Data
  pub word : Data
  pub is : p ≡ naming Name done (plain word)
  pub spells : SpellsAll done front
  pub some : 0 < length (plain word)
  pub bytes : list_all is_name_byte (plain word) ≡ true
  pub whole : t ≡ front ++ word

-- in the blanks after a name, of which there is one at least
pub record IsNamed (t : Data) (p : Parser) : Type 0 where
  pub done : List Assignment
  pub front : Data
  pub word : Data
  pub blank : ℕ × ℕ
  pub blanks : Data
  pub is : p ≡ naming Named done (plain word)
  pub spells : SpellsAll done front
  pub name_is : IsName (plain word)
  pub are_blanks : list_all is_blank (plain (blank ∷ blanks)) ≡ true
  pub whole : t ≡ front ++ (word ++ (blank ∷ blanks))

-- after a `+` there
pub record IsPlus (t : Data) (p : Parser) : Type 0 where
  pub done : List Assignment
  pub front : Data
  pub word : Data
  pub blank : ℕ × ℕ
  pub blanks : Data
  pub line : ℕ
  pub is : p ≡ naming Plus done (plain word)
  pub spells : SpellsAll done front
  pub name_is : IsName (plain word)
  pub are_blanks : list_all is_blank (plain (blank ∷ blanks)) ≡ true
  pub whole : t ≡ front ++ (word ++ ((blank ∷ blanks) ++ (line, 43) ∷ []))

-- the data up to a value of an assignment
pub record IsHead (done : List Assignment) (name : List ℕ) (mode : Mode) (n : ℕ) (t : Data) : Type 0 where
  pub front : Data
  pub head : Data
  pub spells : SpellsAll done front
  pub head_is : SpellsHead name mode n head
  pub whole : t ≡ front ++ head

pub head_stands : (done : List Assignment) (name : List ℕ) (mode : Mode) (n : ℕ) (t : Data) → IsHead done name mode n t → StandsSigned n t
head_stands done name mode n t h =
    record { done = done; name = name; mode = mode; front = h.front; head = h.head; spells = h.spells; head_is = h.head_is; whole = h.whole }

pub record IsSigned (t : Data) (p : Parser) : Type 0 where
  pub done : List Assignment
  pub name : List ℕ
  pub mode : Mode
  pub line : ℕ
  pub is : p ≡ signed Signed done name mode line None [] []
  pub head : IsHead done name mode line t

pub record IsListed (t : Data) (p : Parser) : Type 0 where
  pub done : List Assignment
  pub name : List ℕ
  pub mode : Mode
  pub line : ℕ
  pub opened : ℕ
  pub values : List Value
  pub front : Data
  pub items : Data
  pub is : p ≡ signed InList done name mode line (Some opened) values []
  pub head : IsHead done name mode line front
  pub kind : AreOfOneKind values
  pub spells : SpellsItems values items []
  pub whole : t ≡ front ++ ((opened, 40) ∷ items)

-- the reader expects a value
pub data Waits (t : Data) (p : Parser) : Type 0 where
  waits_signed : IsSigned t p → Waits t p
  waits_listed : IsListed t p → Waits t p

-- in a number or a date
pub record IsInRun (t : Data) (p : Parser) : Type 0 where
  pub state : Parser
  pub front : Data
  pub word : Data
  pub is : p ≡ in_run state (plain word)
  pub waits : Waits front state
  pub some : 0 < length (plain word)
  pub bytes : list_all is_run_byte (plain word) ≡ true
  pub whole : t ≡ front ++ word

-- in a string, and after a quote in it
pub record IsInText (t : Data) (p : Parser) : Type 0 where
  pub state : Parser
  pub front : Data
  pub line : ℕ
  pub text : Data
  pub content : List ℕ
  pub is : p ≡ in_text state content
  pub waits : Waits front state
  pub content_is : IsContent content
  pub written : plain text ≡ quoted content
  pub whole : t ≡ front ++ ((line, 39) ∷ text)

pub record IsAtQuote (t : Data) (p : Parser) : Type 0 where
  pub state : Parser
  pub front : Data
  pub line : ℕ
  pub text : Data
  pub content : List ℕ
  pub is : p ≡ at_quote state content
  pub waits : Waits front state
  pub content_is : IsContent content
  pub written : plain text ≡ quoted content ++ 39 ∷ []
  pub whole : t ≡ front ++ ((line, 39) ∷ text)

-- after the values of an assignment, whatever follows
pub record IsClosed (t : Data) (p : Parser) : Type 0 where
  pub done : List Assignment
  pub name : List ℕ
  pub mode : Mode
  pub line : ℕ
  pub opened : Option ℕ
  pub values : List Value
  pub front : Data
  pub body : Data
  pub blanks : Data
  pub is : p ≡ closed done name mode line opened values
  pub head : IsHead done name mode line front
  pub body_is : (rest : Data) → SpellsValues values body (blanks ++ rest)
  pub are_blanks : list_all is_blank (plain blanks) ≡ true
  pub whole : t ≡ front ++ (body ++ blanks)

pub data Live (t : Data) (p : Parser) : Type 0 where
  live_between : IsBetween t p → Live t p
  live_naming : IsNaming t p → Live t p
  live_named : IsNamed t p → Live t p
  live_plus : IsPlus t p → Live t p
  live_waits : Waits t p → Live t p
  live_run : IsInRun t p → Live t p
  live_text : IsInText t p → Live t p
  live_quote : IsAtQuote t p → Live t p
  live_closed : IsClosed t p → Live t p

-- one more byte leaves the reader in such a state, or is where the data have a fault, whatever follows
pub Outcome : Data → ℕ → ℕ → Result Parser Fault → Type 0
Outcome t n b (Ok q) = Live (t ++ (n, b) ∷ []) q
Outcome t n b (Err f) = (rest : Data) → HasFault (t ++ ((n, b) ∷ rest)) f.line f.cause

pub goes_on : (t : Data) (n b : ℕ) (q : Parser) → Live (t ++ (n, b) ∷ []) q → Outcome t n b (Ok q)
unfolding Outcome
goes_on t n b q h = h

pub breaks_off : (t : Data) (n b : ℕ) (f : Fault) → ((rest : Data) → HasFault (t ++ ((n, b) ∷ rest)) f.line f.cause) → Outcome t n b (Err f)
unfolding Outcome
breaks_off t n b f h = h

pub went_on : (t : Data) (n b : ℕ) (q : Parser) → Outcome t n b (Ok q) → Live (t ++ (n, b) ∷ []) q
unfolding Outcome
went_on t n b q h = h

pub broke_off : (t : Data) (n b : ℕ) (f : Fault) → Outcome t n b (Err f) → (rest : Data) → HasFault (t ++ ((n, b) ∷ rest)) f.line f.cause
unfolding Outcome
broke_off t n b f h = h
