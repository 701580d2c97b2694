-- The words read from the left: each option with its value, and what stands there where they go on no further. That the
-- leftmost of these faults is answered, and that no option stands twice, is this project's own.
use Rattle.std.specs.Prelude.{◌≡◌, ℕ, ◌+◌, Bool, true, false, is_some, List, [], ◌∷◌, ◌++◌, length, Some, None}
use Rattle.st_words.specs.OptionWords.{IsWordOf, IsPlain}
use Rattle.st_words.specs.Values.{opt_of, Spells, IsValue, IsBadAt}
use Rattle.st_words.specs.declared.choice.Choice.{Choice}
use Rattle.st_words.specs.declared.choice.Choice.TheVariants as choices
use Rattle.st_words.specs.declared.fault.WordFault.{WordFault}
use Rattle.st_words.specs.declared.fault.WordFault.TheVariants.{Unknown, Twice, NoValue, BadValue, BadNumber}
use Rattle.st_words.specs.declared.opt.Opt.{Opt}
use Rattle.st_words.specs.declared.opt.Opt.TheVariants.{Setup, From, FromType, To, ToType, Format, Time, Batch, Sample, Sc, Back}
use Rattle.st_words.specs.declared.options.Options.{Options}

-- no option is there
abbrev pub nothing : Options
nothing = record {
  setup = None;
  from = None;
  from_type = None;
  to = None;
  to_type = None;
  format = None;
  time = None;
  batch = false;
  sample = None;
  clock = None;
  back = false;
}

-- whether the option is there
abbrev pub has : Options → Opt → Bool
has o Setup = is_some o.setup
has o From = is_some o.from
has o FromType = is_some o.from_type
has o To = is_some o.to
has o ToType = is_some o.to_type
has o Format = is_some o.format
has o Time = is_some o.time
has o Batch = o.batch
has o Sample = is_some o.sample
has o Sc = is_some o.clock
has o Back = o.back

-- one option more
abbrev pub with_choice : Options → Choice → Options
with_choice o (choices.Setup name) = record o { setup = Some name }
with_choice o (choices.From system) = record o { from = Some system }
with_choice o (choices.FromType kind) = record o { from_type = Some kind }
with_choice o (choices.To system) = record o { to = Some system }
with_choice o (choices.ToType kind) = record o { to_type = Some kind }
with_choice o (choices.Format text) = record o { format = Some text }
with_choice o (choices.Time text) = record o { time = Some text }
with_choice o choices.Batch = record o { batch = true }
with_choice o (choices.Sample lines seed) = record o { sample = Some (lines, seed) }
with_choice o (choices.Sc clock) = record o { clock = Some clock }
with_choice o choices.Back = record o { back = true }

-- where the reading stands: what the options so far ask for, the place of the next word, from 1, and the words from there on
pub record Standing : Type 0 where
  pub asked : Options
  pub place : ℕ
  pub left : List (List ℕ)

abbrev pub start_of : List (List ℕ) → Standing
start_of words = record { asked = nothing; place = 1; left = words }

-- from one standing to the next an option is read with its value
pub record Takes (at : Standing) (choice : Choice) (next : Standing) : Type 0 where
  pub word : List ℕ
  pub values : List (List ℕ)
  pub words : at.left ≡ word ∷ (values ++ next.left)
  pub named : IsWordOf (opt_of choice) word
  pub new : has at.asked (opt_of choice) ≡ false
  pub value : IsValue (opt_of choice) values next.left
  pub spelled : Spells choice values
  pub asked : next.asked ≡ with_choice at.asked choice
  pub place : next.place ≡ at.place + 1 + length values

-- from one standing to another some options are read
abbrev pub Reads : Standing → List Choice → Standing → Type 0
Reads at [] end = at ≡ end
Reads at (choice ∷ more) end = (next : Standing) × Takes at choice next × Reads next more end

-- an option that was not there is named by the next word
pub record Begins (at : Standing) (opt : Opt) (more : List (List ℕ)) : Type 0 where
  pub word : List ℕ
  pub words : at.left ≡ word ∷ more
  pub named : IsWordOf opt word
  pub new : has at.asked opt ≡ false

-- a value of the option begins the words
abbrev pub HasValue : Opt → List (List ℕ) → Type 0
HasValue opt more = (values rest : List (List ℕ)) × (more ≡ values ++ rest) × IsValue opt values rest

-- a value of the option begins the words, and its word at place k is bad
abbrev pub HasBadValue : Opt → List (List ℕ) → ℕ → Type 0
HasBadValue opt more k = (values rest : List (List ℕ)) × (more ≡ values ++ rest) × IsValue opt values rest × IsBadAt opt values k

-- the value of the option is a number, or two
abbrev pub is_numeric : Opt → Bool
is_numeric Sample = true
is_numeric Sc = true
is_numeric opt = false

-- The reading goes on no further: the next word, or the value after it, breaks a rule; the fault has its place.
abbrev pub Stops : Standing → WordFault → Type 0
Stops at (Unknown i) = (word : List ℕ) × (more : List (List ℕ)) × (at.left ≡ word ∷ more) × IsPlain word × (i ≡ at.place)
Stops at (Twice i) =
    (word : List ℕ) × (more : List (List ℕ)) × (opt : Opt) × (at.left ≡ word ∷ more) × IsWordOf opt word × (has at.asked opt ≡ true) × (i ≡ at.place)
Stops at (NoValue i) = (opt : Opt) × (more : List (List ℕ)) × Begins at opt more × (HasValue opt more → ⊥) × (i ≡ at.place)
Stops at (BadValue i) =
    (opt : Opt) × (more : List (List ℕ)) × (k : ℕ) × Begins at opt more × (is_numeric opt ≡ false) × HasBadValue opt more k × (i ≡ at.place + k)
Stops at (BadNumber i) =
    (opt : Opt) × (more : List (List ℕ)) × (k : ℕ) × Begins at opt more × (is_numeric opt ≡ true) × HasBadValue opt more k × (i ≡ at.place + k)
Stops at fault = ⊥
