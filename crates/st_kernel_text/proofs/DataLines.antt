-- The data are those of lines: each byte stands on the line of the byte after it, but for the end of a line.
use Rattle.std.proofs.Common.{inl, inr, ◌⊎◌, ◌≡◌, ℕ, ◌+◌, Bool, true, false, List, [], ◌∷◌, ◌++◌, refl, ap, sym, ◌∙◌, subst, append_assoc}
use Rattle.std.specs.Prelude.{⊤, if◌then◌else◌}
use Rattle.std.specs.List.{list_all}
use Rattle.std.proofs.lemmas.Bool.{and_parts, and_from}
use Rattle.st_kernel_text.specs.File.{numbered, line_data, data_text, reads_after, is_data}
use Rattle.st_kernel_text.specs.Grammar.{Data, plain}
use Rattle.st_kernel_text.specs.Values.{is_no_line_end}

abbrev pub InLines : Data → Type 0
InLines [] = ⊤
InLines (b ∷ []) = b.1 ≡ 10
InLines (b ∷ c ∷ t) = ((b.1 ≡ 10) ⊎ (b.0 ≡ c.0)) × InLines (c ∷ t)

pub tail_lines : (b : ℕ × ℕ) (t : Data) → InLines (b ∷ t) → InLines t
tail_lines b [] h = tt
tail_lines b (c ∷ t) h = h.1

pub rest_lines : (a t : Data) → InLines (a ++ t) → InLines t
rest_lines [] t h = h
rest_lines (b ∷ a) t h = rest_lines a t (tail_lines b (a ++ t) h)

end_line : (n : ℕ) (t : Data) → InLines t → InLines ((n, 10) ∷ t)
end_line n [] h = refl
end_line n (c ∷ t) h = (inl refl, h)

numbered_lines : (n : ℕ) (line : List ℕ) (t : Data) → InLines t → InLines (numbered n line ++ (n, 10) ∷ t)
numbered_lines n [] t h = end_line n t h
numbered_lines n (b ∷ []) t h = (inr refl, end_line n t h)
numbered_lines n (b ∷ c ∷ line) t h = (inr refl, numbered_lines n (c ∷ line) t h)

line_lines : (reading : Bool) (n : ℕ) (line : List ℕ) (t : Data) → InLines t → InLines (line_data reading n line ++ t)
line_lines reading n line t h = by (is_data reading line)
  where
    by : (d : Bool) → InLines ((if d then numbered n line ++ (n, 10) ∷ [] else []) ++ t)
    by true = subst InLines (sym (append_assoc (numbered n line) ((n, 10) ∷ []) t)) (numbered_lines n line t h)
    by false = h

pub data_lines : (reading : Bool) (n : ℕ) (lines : List (List ℕ)) → InLines (data_text reading n lines)
data_lines reading n [] = tt
data_lines reading n (line ∷ more) =
    line_lines reading n line (data_text (reads_after reading line) (n + 1) more) (data_lines (reads_after reading line) (n + 1) more)

no_end : (b : ℕ) → is_no_line_end b ≡ true → b ≡ 10 → ⊥
no_end b h e = let f : is_no_line_end b ≡ false = ap is_no_line_end e in absurd (cc)

pub same_line : (b c : ℕ × ℕ) (t : Data) → InLines (b ∷ c ∷ t) → (b.1 ≡ 10 → ⊥) → b.0 ≡ c.0
same_line b c t h lacks = by h.0
  where
    by : (b.1 ≡ 10) ⊎ (b.0 ≡ c.0) → b.0 ≡ c.0
    by (inl e) = absurd (lacks e)
    by (inr e) = e

-- a word without an end of a line, and the byte after it, stand on one line
pub word_line : (b : ℕ × ℕ) (word : Data) (c : ℕ × ℕ) (t : Data) → list_all is_no_line_end (plain (b ∷ word)) ≡ true → InLines (b ∷ (word ++ c ∷ t)) → b.0 ≡ c.0
word_line b [] c t n h = same_line b c t h (no_end b.1 (and_parts (is_no_line_end b.1) true n).0)
word_line b (x ∷ word) c t n h =
    let both = and_parts (is_no_line_end b.1) (list_all is_no_line_end (plain (x ∷ word))) n in
    same_line b x (word ++ c ∷ t) h (no_end b.1 both.0) ∙ word_line x word c t both.1 h.1

-- the longest run of bytes that pass a test, which ends before the data do
pub record Split (p : ℕ → Bool) (t : Data) : Type 0 where
  pub word : Data
  pub byte : ℕ × ℕ
  pub more : Data
  pub passes : list_all p (plain word) ≡ true
  pub stops : p byte.1 ≡ false
  pub whole : t ≡ word ++ byte ∷ more

split_by : (p : ℕ → Bool) (b c : ℕ × ℕ) (t : Data) (v : Bool) → p b.1 ≡ v → Split p (c ∷ t) → Split p (b ∷ c ∷ t)
split_by p b c t false v s = record { word = []; byte = b; more = c ∷ t; passes = refl; stops = v; whole = refl }
split_by p b c t true v s = record {
  word = b ∷ s.word;
  byte = s.byte;
  more = s.more;
  passes = and_from _ _ v s.passes;
  stops = s.stops;
  whole = ap (λ (z : Data). b ∷ z) s.whole;
}

pub split : (p : ℕ → Bool) → p 10 ≡ false → (b : ℕ × ℕ) (t : Data) → InLines (b ∷ t) → Split p (b ∷ t)
split p e b [] h = record { word = []; byte = b; more = []; passes = refl; stops = ap p h ∙ e; whole = refl }
split p e b (c ∷ t) h = split_by p b c t (p b.1) refl (split p e c t h.1)

pub head_of : (x y : ℕ × ℕ) (r s : Data) → x ∷ r ≡ y ∷ s → x ≡ y
head_of x y r s e = cc

pub tail_of : (x y : ℕ × ℕ) (r s : Data) → x ∷ r ≡ y ∷ s → r ≡ s
tail_of x y r s e = cc

apart : (p : ℕ → Bool) (x y : ℕ × ℕ) → p x.1 ≡ true → p y.1 ≡ false → x ≡ y → ⊥
apart p x y h k e = let f : p x.1 ≡ p y.1 = ap (λ (z : ℕ × ℕ). p z.1) e in absurd (cc)

-- it is one run alone
pub one_split : (p : ℕ → Bool) (a b : Data) (x y : ℕ × ℕ) (r s : Data) → list_all p (plain a) ≡ true → list_all p (plain b) ≡ true
    → p x.1 ≡ false → p y.1 ≡ false → a ++ x ∷ r ≡ b ++ y ∷ s → (a ≡ b) × (x ≡ y)
one_split p [] [] x y r s h k f g e = (refl, head_of x y r s e)
one_split p [] (c ∷ b) x y r s h k f g e =
    absurd (apart p c x (and_parts (p c.1) (list_all p (plain b)) k).0 f (sym (head_of x c r (b ++ y ∷ s) e)))
one_split p (c ∷ a) [] x y r s h k f g e =
    absurd (apart p c y (and_parts (p c.1) (list_all p (plain a)) h).0 g (head_of c y (a ++ x ∷ r) s e))
one_split p (c ∷ a) (d ∷ b) x y r s h k f g e =
    let rest = one_split p a b x y r s (and_parts (p c.1) (list_all p (plain a)) h).1 (and_parts (p d.1) (list_all p (plain b)) k).1 f g (tail_of c d (a ++ x ∷ r) (b ++ y ∷ s) e) in
    let first = head_of c d (a ++ x ∷ r) (b ++ y ∷ s) e in
    (cc, rest.1)

pub weaker : (p q : ℕ → Bool) → ((b : ℕ) → p b ≡ true → q b ≡ true) → (w : List ℕ) → list_all p w ≡ true → list_all q w ≡ true
weaker p q f [] h = refl
weaker p q f (b ∷ w) h =
    let both = and_parts (p b) (list_all p w) h in and_from _ _ (f b both.0) (weaker p q f w both.1)
