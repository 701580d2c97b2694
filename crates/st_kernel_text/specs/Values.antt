-- What a value of a kernel is, after NAIF's Kernel Required Reading: a string
-- between quotes, a date after an `@`, or a number.
use Rattle.std.specs.Prelude.{◌≡◌, ℕ, ℤ, ◌≤◌, Bool, not, List, [], ◌∷◌, ◌++◌, length, Ok, ◌==◌, ◌||◌, IsTrue, MatchBool, if◌then◌else◌}
use Rattle.std.specs.List.{list_all}
use Rattle.st_text.specs.Ascii.{line_feed, quote, close_paren, at_sign}
use Rattle.st_kernel_text.specs.Limits.{most_line_bytes, most_string_bytes}
use Rattle.st_decimal.specs.declared.number.Dec.{Dec}
use Rattle.st_decimal.specs.Value.{ReadsDec, IsOfUnits18}
use Rattle.st_dates.specs.AtDate.{ReadsAtDate}
use Rattle.st_kernel_text.specs.Bytes.{is_separator, is_run_byte}
use Rattle.st_kernel_text.specs.declared.fault.TextCause.{TextCause}
use Rattle.st_kernel_text.specs.declared.fault.TextCause.TheVariants.{BadNumber, BadDate}
use Rattle.st_kernel_text.specs.declared.value.Value.{Value}
use Rattle.st_kernel_text.specs.declared.value.Value.TheVariants.{Number, Text}

-- the text after an `@` is a date, whose seconds are d
pub record ReadsDate (text : List ℕ) (d : Dec) : Type 0 where
  pub instant : ℤ
  pub reads : ReadsAtDate text (Ok instant)
  pub seconds : IsOfUnits18 instant d

-- the text is a number; no line has more bytes, so no number has
pub record ReadsNumber (text : List ℕ) (d : Dec) : Type 0 where
  pub short : length text ≤ most_line_bytes
  pub reads : ReadsDec text (Ok d)

-- a date with its `@`, or a number
abbrev pub ReadsRun : List ℕ → Dec → Type 0
ReadsRun [] d = ⊥
ReadsRun (b ∷ text) d = MatchBool (b == at_sign) (ReadsDate text d) (ReadsNumber (b ∷ text) d)

-- what a run that is neither is called, by its first byte
abbrev pub cause_of_run : List ℕ → TextCause
cause_of_run [] = BadNumber
cause_of_run (b ∷ text) = if b == at_sign then BadDate else BadNumber

-- the content of a string as it is written: each quote twice
abbrev pub quoted : List ℕ → List ℕ
quoted [] = []
quoted (b ∷ content) = if b == quote then quote ∷ (quote ∷ quoted content) else b ∷ quoted content

abbrev pub is_no_line_end : ℕ → Bool
is_no_line_end b = not (b == line_feed)

-- a string stands on one line and has at most 80 bytes
pub record IsContent (content : List ℕ) : Type 0 where
  pub most : length content ≤ most_string_bytes
  pub one_line : IsTrue (list_all is_no_line_end content)

pub record SpellsRun (d : Dec) (text : List ℕ) : Type 0 where
  pub bytes : IsTrue (list_all is_run_byte text)
  pub reads : ReadsRun text d

pub record SpellsText (content text : List ℕ) : Type 0 where
  pub content_is : IsContent content
  pub whole : text ≡ quote ∷ (quoted content ++ quote ∷ [])

-- the text is a spelling of the value
abbrev pub Spells : Value → List ℕ → Type 0
Spells (Number d) text = SpellsRun d text
Spells (Text content) text = SpellsText content text

-- what may stand directly after a value: a separator or `)`
abbrev pub may_follow : ℕ → Bool
may_follow b = is_separator b || (b == close_paren)
