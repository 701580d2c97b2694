-- Kernels as a program writes them: a head, and variables with their numbers. Source: Kernel
-- Required Reading, for the form of an assignment; that each stands so is this project's own.
use Rattle.std.specs.Prelude.{◌≡◌, ℕ, ℤ, pos, ◌+ℤ◌, ◌^◌, ◌<◌, ◌≤◌, false, true, List, [], ◌∷◌, ◌++◌, length, map, codes, IsTrue, ⊤, unsigned_abs}
use Rattle.std.specs.List.{list_all}
use Rattle.st_text.specs.Ascii.{line_feed, open_paren, close_paren, at_sign}
use Rattle.st_text.specs.Lines.{HasNoFeed, without_cr}
use Rattle.st_decimal.specs.Fixed.{fixed}
use Rattle.st_decimal.specs.Scaling.{IsTimesTen}
use Rattle.st_decimal.specs.Value.{IsOfUnits18}
use Rattle.st_decimal.specs.declared.number.Dec.{Dec}
use Rattle.st_dates.specs.AtDate.{moment}
use Rattle.st_dates.specs.Civil.{IsCivil}
use Rattle.st_dates.specs.Range.{IsInRange}
use Rattle.st_dates.specs.WrittenDate.{date_text}
use Rattle.st_dates.specs.declared.civil.Civil.{Civil}
use Rattle.st_kernel_text.specs.Bytes.{is_allowed, is_separator}
use Rattle.st_kernel_text.specs.File.{ReadsTo, begins_data, begins_text}
use Rattle.st_kernel_text.specs.Grammar.{IsName}
use Rattle.st_kernel_text.specs.Limits.{most_line_bytes}
use Rattle.st_kernel_text.specs.Values.{SpellsRun}
use Rattle.st_kernel_text.specs.declared.assignment.Assignment.{Assignment}
use Rattle.st_kernel_text.specs.declared.assignment.Mode.TheVariants.{Set}
use Rattle.st_kernel_text.specs.declared.value.Value.{Value}
use Rattle.st_kernel_text.specs.declared.value.Value.TheVariants.{Number}

-- a number, its text, and what stands between it and the next one or the `)`
pub record Item : Type 0 where
  pub number : Dec
  pub text : List ℕ
  pub gap : List ℕ

-- a variable of a list of numbers, and what stands between its `(` and the first of them
pub record NumberList : Type 0 where
  pub name : List ℕ
  pub opening : List ℕ
  pub items : List Item

-- a variable of one number without parentheses
pub record NumberAlone : Type 0 where
  pub name : List ℕ
  pub number : Dec
  pub text : List ℕ

pub data Entry : Type 0 where
  listed : NumberList → Entry
  alone : NumberAlone → Entry

-- the text is one of the number, and at least one separator stands after it
pub record IsItem (item : Item) : Type 0 where
  pub spells : SpellsRun item.number item.text
  pub gap : IsTrue (list_all is_separator item.gap)
  pub some : 0 < length item.gap

abbrev pub AreItems : List Item → Type 0
AreItems [] = ⊤
AreItems (item ∷ more) = IsItem item × AreItems more

pub record IsNumberList (w : NumberList) : Type 0 where
  pub name : IsName w.name
  pub opening : IsTrue (list_all is_separator w.opening)
  pub items : AreItems w.items
  pub some : 0 < length w.items

pub record IsNumberAlone (w : NumberAlone) : Type 0 where
  pub name : IsName w.name
  pub spells : SpellsRun w.number w.text

abbrev pub IsEntry : Entry → Type 0
IsEntry (listed w) = IsNumberList w
IsEntry (alone w) = IsNumberAlone w

abbrev pub AreEntries : List Entry → Type 0
AreEntries [] = ⊤
AreEntries (entry ∷ more) = IsEntry entry × AreEntries more

abbrev pub items_text : List Item → List ℕ
items_text [] = []
items_text (item ∷ more) = item.text ++ (item.gap ++ items_text more)

-- NAME = ( .. ) with the end of its last line
abbrev pub list_text : NumberList → List ℕ
list_text w = w.name ++ (codes " = " ++ (open_paren ∷ (w.opening ++ (items_text w.items ++ (close_paren ∷ (line_feed ∷ []))))))

-- NAME = NUMBER with the end of its line
abbrev pub alone_text : NumberAlone → List ℕ
alone_text w = w.name ++ (codes " = " ++ (w.text ++ (line_feed ∷ [])))

abbrev pub entry_text : Entry → List ℕ
entry_text (listed w) = list_text w
entry_text (alone w) = alone_text w

abbrev pub entries_text : List Entry → List ℕ
entries_text [] = []
entries_text (entry ∷ more) = entry_text entry ++ entries_text more

abbrev pub item_value : Item → Value
item_value item = Number item.number

-- the assignment that an entry writes
abbrev pub assignment_of : Entry → Assignment
assignment_of (listed w) = record { name = w.name; mode = Set; values = map item_value w.items }
assignment_of (alone w) = record { name = w.name; mode = Set; values = Number w.number ∷ [] }

-- each line with its LF
abbrev pub joined : List (List ℕ) → List ℕ
joined [] = []
joined (line ∷ more) = line ++ (line_feed ∷ joined more)

-- the head, and the lines between the two markers
abbrev pub kernel_text : List ℕ → List (List ℕ) → List ℕ
kernel_text head lines = joined (head ∷ (codes "\\begindata" ∷ (lines ++ (codes "\\begintext" ∷ []))))

-- a line that is no marker, as it stands before its LF
pub record IsLine (line : List ℕ) : Type 0 where
  pub short : length line ≤ most_line_bytes
  pub one : HasNoFeed line
  pub no_return : without_cr line ≡ line
  pub no_data : begins_data line ≡ false
  pub no_text : begins_text line ≡ false

pub record IsDataLine (line : List ℕ) : Type 0 where
  pub is_line : IsLine line
  pub allowed : list_all is_allowed line ≡ true

abbrev pub AreDataLines : List (List ℕ) → Type 0
AreDataLines [] = ⊤
AreDataLines (line ∷ more) = IsDataLine line × AreDataLines more

-- A number written with fixed decimals spells what it is worth.
abbrev pub FixedSpells : Type 0
FixedSpells =
    (n : ℤ) (places : ℕ) → places ≤ 18 → unsigned_abs n < 10 ^ 30
    → (d : Dec) × (SpellsRun d (fixed n places) × IsTimesTen d.digits (d.tens +ℤ pos places) n)

-- A written date after an `@` spells the seconds to the beginning of its day.
abbrev pub DateSpells : Type 0
DateSpells =
    (n : ℤ) (c : Civil) → IsCivil n c → unsigned_abs c.year < 10_000 → IsInRange (moment n 0)
    → (d : Dec) × (SpellsRun d (at_sign ∷ date_text c) × IsOfUnits18 (moment n 0) d)

-- A written kernel reads to its entries.
abbrev pub WrittenReads : Type 0
WrittenReads =
    (head : List ℕ) (lines : List (List ℕ)) (entries : List Entry)
    → IsLine head → AreDataLines lines → AreEntries entries → joined lines ≡ entries_text entries
    → ReadsTo (kernel_text head lines) (map assignment_of entries)
