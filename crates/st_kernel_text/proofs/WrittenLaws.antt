-- What a program writes as a kernel reads to its entries.
use Rattle.std.proofs.Common.{inl, inr, ◌≡◌, ℕ, ◌+◌, ◌<◌, Bool, true, false, List, [], ◌∷◌, ◌++◌, append-nil, append_assoc, length, map, refl, sym, ap, ◌∙◌, subst, arith}
use Rattle.std.specs.Prelude.{codes, ⊤}
use Rattle.std.specs.List.{list_all}
use Rattle.std.proofs.lemmas.Bool.{and_from, and_parts, cond-true, cond-false, or_left}
use Rattle.std.proofs.lemmas.List.{length-map}
use Rattle.st_text.specs.Lines.{HasNoFeed, lines_of, without_cr}
use Rattle.st_text.proofs.LineLaws.{line-ends, no-line}
use Rattle.st_kernel_text.specs.Bytes.{is_separator, is_space}
use Rattle.st_kernel_text.specs.File.{AreGood, ReadsTo, begins_data, begins_text, data_text, is_data, is_marker, line_data, numbered, reads_after}
use Rattle.st_kernel_text.specs.Grammar.{AreAll, AreOfOneKind, Data, IsName, EndsValue, SpellsAll, SpellsAssignment, SpellsHead, SpellsItems, plain, same_kind}
use Rattle.st_kernel_text.specs.Values.{SpellsRun}
use Rattle.st_kernel_text.specs.Written.{AreDataLines, AreEntries, AreItems, Entry, IsEntry, IsLine, IsNumberAlone, IsNumberList, Item, NumberAlone, NumberList, alone_text, assignment_of, entries_text, entry_text, item_value, items_text, joined, kernel_text, list_text}
use Rattle.st_decimal.specs.declared.number.Dec.{Dec}
use Rattle.st_kernel_text.specs.declared.assignment.Mode.TheVariants.{Set}
use Rattle.st_kernel_text.specs.declared.value.Value.{Value}
use Rattle.st_kernel_text.specs.declared.value.Value.TheVariants.{Number}
use Rattle.st_kernel_text.proofs.ReadValues.{cut, no_bytes, split}
use Rattle.st_kernel_text.proofs.States.{plain-append}

-- ---- lists of numbers
-- a gap ends a value
gap_ends : (gap : Data) (rest : Data) (g : List ℕ) → plain gap ≡ g → 0 < length g → list_all is_separator g ≡ true → EndsValue (gap ++ rest)
gap_ends [] rest g is some h = absurd (let none = ap length is in omega (arith, none, some))
gap_ends (x ∷ gap) rest g is some h =
    let first = (and_parts (is_separator x.1) (list_all is_separator (plain gap)) (ap (list_all is_separator) is ∙ h)).0 in
    or_left _ _ first

all_of : (test : ℕ → Bool) (t : Data) (bytes : List ℕ) → plain t ≡ bytes → list_all test bytes ≡ true → AreAll test t
all_of test t bytes is h = ap (list_all test) is ∙ h

-- the values, where something separates them from what stands before them
items_spell : (items : List Item) (gap t follow : Data) → AreItems items → AreAll is_separator gap → plain t ≡ items_text items
    → SpellsItems (map item_value items) (gap ++ t) follow
items_spell [] gap t follow are h is = subst (λ (z : Data). AreAll is_separator (gap ++ z)) (sym (no_bytes t is)) (subst (AreAll is_separator) (sym (append-nil gap)) h)
items_spell (item ∷ more) gap t follow are h is =
    let value = split t item.text (item.gap ++ items_text more) is in
    let behind = split value.right item.gap (items_text more) value.right_is in
    let separates = all_of is_separator behind.left item.gap behind.left_is are.0.gap in
    record {
      gap = gap;
      text = value.left;
      rest = behind.left ++ behind.right;
      are_separators = h;
      value = subst (λ (z : List ℕ). SpellsRun item.number z) (sym value.left_is) are.0.spells;
      ends = subst EndsValue (sym (append_assoc behind.left behind.right follow))
          (gap_ends behind.left (behind.right ++ follow) item.gap behind.left_is are.0.some are.0.gap);
      more = items_spell more behind.left behind.right follow are.1 separates behind.right_is;
      whole = ap (λ (z : Data). gap ++ z) (value.whole ∙ ap (λ (z : Data). value.left ++ z) behind.whole);
    }

numbers_alone : (first : Value) (n : Dec) (items : List Item) → first ≡ Number n → list_all (same_kind first) (map item_value items) ≡ true
numbers_alone first n [] e = refl
numbers_alone first n (item ∷ more) e =
    and_from _ _ (ap (λ (v : Value). same_kind v (Number item.number)) e) (numbers_alone first n more e)

one_kind : (items : List Item) → AreOfOneKind (map item_value items)
one_kind [] = tt
one_kind (item ∷ more) = numbers_alone (Number item.number) item.number more refl

length-values : (items : List Item) → length (map item_value items) ≡ length items
length-values items = length-map items item_value

-- ---- one entry
record Headed (name : List ℕ) (rest : List ℕ) (t : Data) : Type 0 where
  line : ℕ
  head : Data
  body : Data
  is : SpellsHead name Set line head
  whole : t ≡ head ++ body
  body_is : plain body ≡ rest

-- a name, a blank, the sign and a blank
headed : (name rest : List ℕ) (t : Data) → IsName name → plain t ≡ name ++ (codes " = " ++ rest) → Headed name rest t
headed name rest t is h =
    let word = split t name (32 ∷ (61 ∷ (32 ∷ rest))) h in
    let blank = cut word.right 32 (61 ∷ (32 ∷ rest)) word.right_is in
    let sign = cut blank.more 61 (32 ∷ rest) blank.more_is in
    let space = cut sign.more 32 rest sign.more_is in
    let head : Data = word.left ++ ((blank.line, 32) ∷ ((sign.line, 61) ∷ ((space.line, 32) ∷ []))) in
    record {
      line = sign.line;
      head = head;
      body = space.more;
      is = record {
        word = word.left;
        blanks = (blank.line, 32) ∷ [];
        sign = (sign.line, 61) ∷ [];
        spaces = (space.line, 32) ∷ [];
        name_is = is;
        is = word.left_is;
        are_blanks = refl;
        sign_is = refl;
        are_spaces = refl;
        whole = refl;
      };
      whole = word.whole
          ∙ ap (λ (z : Data). word.left ++ z)
          (blank.whole ∙ ap (λ (z : Data). (blank.line, 32) ∷ z) (sign.whole ∙ ap (λ (z : Data). (sign.line, 61) ∷ z) space.whole))
          ∙ sym (append_assoc word.left ((blank.line, 32) ∷ ((sign.line, 61) ∷ ((space.line, 32) ∷ []))) space.more);
      body_is = space.more_is;
    }

list_spelled : (w : NumberList) (t : Data) → IsNumberList w → plain t ≡ list_text w → SpellsAssignment (assignment_of (Entry.listed w)) t
list_spelled w t is h =
    let head = headed w.name (40 ∷ (w.opening ++ (items_text w.items ++ (41 ∷ (10 ∷ []))))) t is.name h in
    let paren = cut head.body 40 (w.opening ++ (items_text w.items ++ (41 ∷ (10 ∷ [])))) head.body_is in
    let opening = split paren.more w.opening (items_text w.items ++ (41 ∷ (10 ∷ []))) paren.more_is in
    let items = split opening.right (items_text w.items) (41 ∷ (10 ∷ [])) opening.right_is in
    let close = cut items.right 41 (10 ∷ []) items.right_is in
    let end = cut close.more 10 [] close.more_is in
    let inside : Data = opening.left ++ items.left in
    let feed : Data = (end.line, 10) ∷ [] in
    let last : items.right ≡ (close.line, 41) ∷ feed =
    close.whole ∙ ap (λ (z : Data). (close.line, 41) ∷ z) (end.whole ∙ ap (λ (z : Data). (end.line, 10) ∷ z) (no_bytes end.more end.more_is)) in
    let body : Data = (paren.line, 40) ∷ (inside ++ (close.line, 41) ∷ []) in
    let whole_body : head.body ≡ body ++ feed =
    paren.whole
    ∙ ap (λ (z : Data). (paren.line, 40) ∷ z)
    (opening.whole ∙ ap (λ (z : Data). opening.left ++ z) (items.whole ∙ ap (λ (z : Data). items.left ++ z) last)
    ∙ sym (append_assoc opening.left items.left ((close.line, 41) ∷ feed))
    ∙ sym (append_assoc inside ((close.line, 41) ∷ []) feed)) in
    record {
      sign_line = head.line;
      head = head.head;
      body = body;
      blanks = [];
      end_line = end.line;
      head_is = head.is;
      body_is = inr (record {
        opened = paren.line;
        items = inside;
        closed = close.line;
        some = omega (arith, length-values w.items, is.some);
        kind = one_kind w.items;
        spells = items_spell w.items opening.left items.left ((close.line, 41) ∷ []) is.items
            (all_of is_separator opening.left w.opening opening.left_is is.opening) items.left_is;
        whole = refl;
      });
      are_blanks = refl;
      whole = head.whole ∙ ap (λ (z : Data). head.head ++ z) whole_body;
    }

alone_spelled : (w : NumberAlone) (t : Data) → IsNumberAlone w → plain t ≡ alone_text w → SpellsAssignment (assignment_of (Entry.alone w)) t
alone_spelled w t is h =
    let head = headed w.name (w.text ++ (10 ∷ [])) t is.name h in
    let value = split head.body w.text (10 ∷ []) head.body_is in
    let end = cut value.right 10 [] value.right_is in
    let feed : Data = (end.line, 10) ∷ [] in
    let last : value.right ≡ feed = end.whole ∙ ap (λ (z : Data). (end.line, 10) ∷ z) (no_bytes end.more end.more_is) in
    record {
      sign_line = head.line;
      head = head.head;
      body = value.left;
      blanks = [];
      end_line = end.line;
      head_is = head.is;
      body_is = inl (record {
        value = Number w.number;
        one = refl;
        spells = subst (λ (z : List ℕ). SpellsRun w.number z) (sym value.left_is) is.spells;
        ends = refl;
      });
      are_blanks = refl;
      whole = head.whole ∙ ap (λ (z : Data). head.head ++ z) (value.whole ∙ ap (λ (z : Data). value.left ++ z) last);
    }

entry_spelled : (e : Entry) (t : Data) → IsEntry e → plain t ≡ entry_text e → SpellsAssignment (assignment_of e) t
entry_spelled (Entry.listed w) t is h = list_spelled w t is h
entry_spelled (Entry.alone w) t is h = alone_spelled w t is h

entries_spelled : (entries : List Entry) (t : Data) → AreEntries entries → plain t ≡ entries_text entries → SpellsAll (map assignment_of entries) t
entries_spelled [] t are h = all_of is_space t [] h refl
entries_spelled (e ∷ more) t are h =
    let parts = split t (entry_text e) (entries_text more) h in
    record {
      gap = [];
      text = parts.left;
      rest = parts.right;
      are_spaces = refl;
      assignment = entry_spelled e parts.left are.0 parts.left_is;
      more = entries_spelled more parts.right are.1 parts.right_is;
      whole = parts.whole;
    }

-- ---- the lines of the file
AreWhole : List (List ℕ) → Type 0
AreWhole [] = ⊤
AreWhole (line ∷ more) = (HasNoFeed line × (without_cr line ≡ line)) × AreWhole more

lines_back : (lines : List (List ℕ)) → AreWhole lines → lines_of (joined lines) ≡ lines
unfolding AreWhole
lines_back [] are = no-line
lines_back (line ∷ more) are =
    line-ends line (joined more) are.0.0 ∙ ap (λ (l : List ℕ). l ∷ lines_of (joined more)) are.0.1
    ∙ ap (λ (ls : List (List ℕ)). line ∷ ls) (lines_back more are.1)

data_whole : (lines tail : List (List ℕ)) → AreDataLines lines → AreWhole tail → AreWhole (lines ++ tail)
unfolding AreWhole
data_whole [] tail are h = h
data_whole (line ∷ more) tail are h = ((are.0.is_line.one, are.0.is_line.no_return), data_whole more tail are.1 h)

abbrev file_lines : List ℕ → List (List ℕ) → List (List ℕ)
file_lines head lines = head ∷ (codes "\\begindata" ∷ (lines ++ (codes "\\begintext" ∷ [])))

whole_file : (head : List ℕ) (lines : List (List ℕ)) → IsLine head → AreDataLines lines → AreWhole (file_lines head lines)
unfolding AreWhole without_cr
whole_file head lines is are = ((is.one, is.no_return), ((refl, refl), data_whole lines (codes "\\begintext" ∷ []) are ((refl, refl), tt)))

marks_data : begins_data (codes "\\begindata") ≡ true
unfolding is_marker
marks_data = refl

marks_no_data : begins_data (codes "\\begintext") ≡ false
unfolding is_marker
marks_no_data = refl

marks_text : begins_text (codes "\\begintext") ≡ true
unfolding is_marker
marks_text = refl

-- a line that is no marker stands where the one before it does
stays : (r : Bool) (line : List ℕ) → IsLine line → is_data r line ≡ r
stays r line is = cond-false _ _ _ is.no_data ∙ cond-false _ _ _ is.no_text

stays_after : (r : Bool) (line : List ℕ) → IsLine line → reads_after r line ≡ r
stays_after r line is = cond-false _ _ _ is.no_data ∙ cond-false _ _ _ is.no_text

begin_after : (r : Bool) → reads_after r (codes "\\begindata") ≡ true
begin_after r = cond-true _ _ _ marks_data

begin_no_data : (r : Bool) → is_data r (codes "\\begindata") ≡ false
begin_no_data r = cond-true _ _ _ marks_data

end_no_data : (r : Bool) → is_data r (codes "\\begintext") ≡ false
end_no_data r = cond-false _ _ _ marks_no_data ∙ cond-true _ _ _ marks_text

never : {b : Bool} → b ≡ false → b ≡ true → ⊥
never e f = absurd (cc)

data_good : (lines : List (List ℕ)) → AreDataLines lines → AreGood true (lines ++ (codes "\\begintext" ∷ []))
data_good [] are = (record { short = omega arith; bytes = λ inside. absurd (never (end_no_data true) inside) }, tt)
data_good (line ∷ more) are = (
  record { short = are.0.is_line.short; bytes = λ inside. are.0.allowed },
  subst (λ (r : Bool). AreGood r (more ++ (codes "\\begintext" ∷ []))) (sym (stays_after true line are.0.is_line)) (data_good more are.1),
)

file_good : (head : List ℕ) (lines : List (List ℕ)) → IsLine head → AreDataLines lines → AreGood false (file_lines head lines)
file_good head lines is are = (
  record { short = is.short; bytes = λ inside. absurd (never (stays false head is) inside) },
  subst (λ (r : Bool). AreGood r (codes "\\begindata" ∷ (lines ++ (codes "\\begintext" ∷ [])))) (sym (stays_after false head is)) (
    record { short = omega arith; bytes = λ inside. absurd (never (begin_no_data false) inside) },
    subst (λ (r : Bool). AreGood r (lines ++ (codes "\\begintext" ∷ []))) (sym (begin_after false)) (data_good lines are),
  ),
)

-- the data are the lines between the markers
plain-numbered : (n : ℕ) (line : List ℕ) → plain (numbered n line) ≡ line
plain-numbered n [] = refl
plain-numbered n (b ∷ line) = ap (λ (t : List ℕ). b ∷ t) (plain-numbered n line)

no_line_data : (r : Bool) (n : ℕ) (line : List ℕ) → is_data r line ≡ false → line_data r n line ≡ []
no_line_data r n line h = cond-false _ _ _ h

some_line_data : (r : Bool) (n : ℕ) (line : List ℕ) → is_data r line ≡ true → plain (line_data r n line) ≡ line ++ (10 ∷ [])
some_line_data r n line h =
    ap plain (cond-true _ _ _ h) ∙ plain-append (numbered n line) ((n, 10) ∷ []) ∙ ap (λ (t : List ℕ). t ++ (10 ∷ [])) (plain-numbered n line)

data_plain : (n : ℕ) (lines : List (List ℕ)) → AreDataLines lines → plain (data_text true n (lines ++ (codes "\\begintext" ∷ []))) ≡ joined lines
data_plain n [] are = ap (λ (d : Data). plain (d ++ [])) (no_line_data true n (codes "\\begintext") (end_no_data true))
data_plain n (line ∷ more) are =
    let rest : List (List ℕ) = more ++ (codes "\\begintext" ∷ []) in
    plain-append (line_data true n line) (data_text (reads_after true line) (n + 1) rest)
    ∙ ap (λ (t : List ℕ). t ++ plain (data_text (reads_after true line) (n + 1) rest)) (some_line_data true n line (stays true line are.0.is_line))
    ∙ append_assoc line (10 ∷ []) (plain (data_text (reads_after true line) (n + 1) rest))
    ∙ ap (λ (t : List ℕ). line ++ (10 ∷ t))
    (ap (λ (r : Bool). plain (data_text r (n + 1) rest)) (stays_after true line are.0.is_line) ∙ data_plain (n + 1) more are.1)

file_plain : (head : List ℕ) (lines : List (List ℕ)) → IsLine head → AreDataLines lines → plain (data_text false 1 (file_lines head lines)) ≡ joined lines
file_plain head lines is are =
    let rest : List (List ℕ) = lines ++ (codes "\\begintext" ∷ []) in
    ap (λ (d : Data). plain (d ++ data_text (reads_after false head) 2 (codes "\\begindata" ∷ rest))) (no_line_data false 1 head (stays false head is))
    ∙ ap (λ (d : Data). plain (d ++ data_text (reads_after (reads_after false head) (codes "\\begindata")) 3 rest))
    (no_line_data (reads_after false head) 2 (codes "\\begindata") (begin_no_data (reads_after false head)))
    ∙ ap (λ (r : Bool). plain (data_text r 3 rest)) (begin_after (reads_after false head))
    ∙ data_plain 3 lines are

pub written-reads : (head : List ℕ) (lines : List (List ℕ)) (entries : List Entry) → IsLine head → AreDataLines lines → AreEntries entries
    → joined lines ≡ entries_text entries → ReadsTo (kernel_text head lines) (map assignment_of entries)
written-reads head lines entries is are spell whole =
    let back : lines_of (kernel_text head lines) ≡ file_lines head lines = lines_back (file_lines head lines) (whole_file head lines is are) in
    record {
      good = subst (AreGood false) (sym back) (file_good head lines is are);
      spells = subst (λ (ls : List (List ℕ)). SpellsAll (map assignment_of entries) (data_text false 1 ls)) (sym back)
          (entries_spelled entries (data_text false 1 (file_lines head lines)) spell (file_plain head lines is are ∙ whole));
    }
