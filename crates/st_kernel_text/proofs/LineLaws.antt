-- Lines that are good are read as their data are; the first that is not is a fault.
use Rattle.std.proofs.Common.{inl, inr, ◌⊎◌, ◌≡◌, ℕ, ◌+◌, suc, Bool, true, false, List, [], ◌∷◌, ◌++◌, length, Result, Ok, Err, refl, ap, sym, ◌∙◌, subst, arith}
use Rattle.std.specs.Prelude.{nat_lt, if◌then◌else◌}
use Rattle.std.specs.List.{list_all}
use Rattle.std.proofs.lemmas.Bool.{cond-true, cond-false, cases_Bool, le-ltb, lt-ltb, ltb-true, ltb-false, both_ways}
use Rattle.st_kernel_text.specs.Bytes.{is_allowed}
use Rattle.st_kernel_text.specs.Fault.{Fault, fails}
use Rattle.st_kernel_text.specs.File.{begins_data, begins_text, is_data, reads_after, reads_behind, numbered, line_data, data_text, IsGood, AreGood, IsTooLong, HasBadByte}
use Rattle.st_kernel_text.specs.Grammar.{Data}
use Rattle.st_kernel_text.specs.LinesMachine.{read_data_of, data_of, line_of, lines_from}
use Rattle.st_kernel_text.specs.ParserMachine.{◌>>=◌, step_of, steps_of}
use Rattle.st_kernel_text.specs.declared.fault.TextCause.{TextCause}
use Rattle.st_kernel_text.specs.declared.fault.TextCause.TheVariants.{LineTooLong, BadByte}
use Rattle.st_kernel_text.specs.declared.kernel.Kernel.{Kernel}
use Rattle.st_kernel_text.specs.declared.parser.Parser.{Parser}
use Rattle.st_kernel_text.proofs.Settled.{Settles, is_settled, settles, settles_not, settled, line_settles}
use Rattle.st_kernel_text.proofs.States.{steps-append}

abbrev pub kernel : Parser → Bool → Kernel
kernel p reading = record { parser = p; reading = reading }

-- a state of the parser as one of the kernel
abbrev pub with : Bool → Result Parser Fault → Result Kernel Fault
with reading r = r >>= λ q. Ok (kernel q reading)

one_byte : (q : Parser) (n : ℕ) → steps_of q ((n, 10) ∷ []) ≡ step_of q n 10
one_byte q n = as_it_is (step_of q n 10)
  where
    as_it_is : (r : Result Parser Fault) → (r >>= λ z. Ok z) ≡ r
    as_it_is (Ok z) = refl
    as_it_is (Err e) = refl

then_same : (r : Result Parser Fault) (n : ℕ) → (r >>= λ q. steps_of q ((n, 10) ∷ [])) ≡ (r >>= λ q. step_of q n 10)
then_same (Ok q) n = one_byte q n
then_same (Err e) n = refl

data_line : (p : Parser) (n : ℕ) (line : List ℕ) → steps_of p (numbered n line ++ (n, 10) ∷ []) ≡ read_data_of p n line
data_line p n line = steps-append p (numbered n line) ((n, 10) ∷ []) ∙ then_same (steps_of p (numbered n line)) n

-- the three kinds of lines
is_marker_data : (r : Bool) (line : List ℕ) → begins_data line ≡ true → is_data r line ≡ false
is_marker_data r line h = cond-true _ _ _ h

no_data : (p : Parser) (r : Bool) (n : ℕ) (line : List ℕ) → is_data r line ≡ false → Ok p ≡ steps_of p (line_data r n line)
no_data p r n line h = ap (steps_of p) (sym (cond-false _ _ _ h))

some_data : (p : Parser) (r : Bool) (n : ℕ) (line : List ℕ) → is_data r line ≡ true → read_data_of p n line ≡ steps_of p (line_data r n line)
some_data p r n line h = sym (data_line p n line) ∙ ap (steps_of p) (sym (cond-true _ _ _ h))

by_kind : (p : Parser) (r : Bool) (n : ℕ) (line : List ℕ) → (is_data r line ≡ true → list_all is_allowed line ≡ true)
    → (if begins_data line then Ok (kernel p true) else (if begins_text line then Ok (kernel p false) else (if r then data_of (kernel p r) n line else Ok (kernel p r))))
    ≡ with (reads_after r line) (steps_of p (line_data r n line))
by_kind p r n line good =
    elim (cases_Bool (begins_data line)) [
      | inl d ↦
          cond-true _ _ _ d ∙ ap (λ (z : Bool). Ok (kernel p z)) (sym (cond-true (begins_data line) true _ d))
          ∙ ap (with (reads_after r line)) (no_data p r n line (cond-true _ _ _ d))
      | inr d ↦
          elim (cases_Bool (begins_text line)) [
            | inl t ↦
                cond-false _ _ _ d ∙ cond-true _ _ _ t
                ∙ ap (λ (z : Bool). Ok (kernel p z)) (sym (cond-false (begins_data line) true _ d ∙ cond-true (begins_text line) false r t))
                ∙ ap (with (reads_after r line)) (no_data p r n line (cond-false _ _ _ d ∙ cond-true _ _ _ t))
            | inr t ↦
                cond-false _ _ _ d ∙ cond-false _ _ _ t
                ∙ by_reading r d t good
          ]
    ]
  where
    by_reading : (s : Bool) → begins_data line ≡ false → begins_text line ≡ false → (is_data s line ≡ true → list_all is_allowed line ≡ true)
        → (if s then data_of (kernel p s) n line else Ok (kernel p s)) ≡ with (reads_after s line) (steps_of p (line_data s n line))
    by_reading true d t g =
        let inside : is_data true line ≡ true = cond-false _ _ _ d ∙ cond-false _ _ _ t in
        let on : reads_after true line ≡ true = cond-false _ _ _ d ∙ cond-false _ _ _ t in
        cond-true _ _ _ (g inside) ∙ ap (λ (z : Bool). with z (read_data_of p n line)) (sym on)
        ∙ ap (with (reads_after true line)) (some_data p true n line inside)
    by_reading false d t g =
        let outside : is_data false line ≡ false = cond-false _ _ _ d ∙ cond-false _ _ _ t in
        let off : reads_after false line ≡ false = cond-false _ _ _ d ∙ cond-false _ _ _ t in
        ap (λ (z : Bool). Ok (kernel p z)) (sym off) ∙ ap (with (reads_after false line)) (no_data p false n line outside)

pub good_line : (p : Parser) (r : Bool) (n : ℕ) (line : List ℕ) → IsGood r line
    → line_of (kernel p r) n line ≡ with (reads_after r line) (steps_of p (line_data r n line))
unfolding line_of
good_line p r n line h = cond-false (nat_lt 1000 (length line)) _ _ (le-ltb _ _ h.short) ∙ by_kind p r n line h.bytes

pub long_line : (k : Kernel) (n : ℕ) (line : List ℕ) (cause : TextCause) → IsTooLong line cause → line_of k n line ≡ fails n cause
unfolding line_of
long_line k n line cause (s, c) = cond-true (nat_lt 1000 (length line)) _ _ (lt-ltb _ _ s) ∙ ap (λ (z : TextCause). fails n z) (sym c)

data_is_no_marker : (r : Bool) (line : List ℕ) → is_data r line ≡ true → (begins_data line ≡ false) × ((begins_text line ≡ false) × (r ≡ true))
data_is_no_marker r line h =
    elim (cases_Bool (begins_data line)) [
      | inl d ↦ absurd (both_ways (is_data r line) (cond-true _ _ _ d) h)
      | inr d ↦
          elim (cases_Bool (begins_text line)) [
            | inl t ↦ absurd (both_ways (is_data r line) (cond-false _ _ _ d ∙ cond-true _ _ _ t) h)
            | inr t ↦ (d, (t, sym (cond-false _ _ _ d ∙ cond-false _ _ _ t) ∙ h))
          ]
    ]

pub bad_line : (k : Kernel) (n : ℕ) (line : List ℕ) (cause : TextCause) → HasBadByte k.reading line cause → line_of k n line ≡ fails n cause
unfolding line_of
bad_line k n line cause h =
    let kind = data_is_no_marker k.reading line h.in_data in
    cond-false (nat_lt 1000 (length line)) _ _ (le-ltb _ _ h.short) ∙ cond-false _ _ _ kind.0 ∙ cond-false _ _ _ kind.1.0 ∙ cond-true _ _ _ kind.1.1
    ∙ cond-false _ _ _ h.bytes ∙ ap (λ (z : TextCause). fails n z) (sym h.cause_is)

-- all lines
with_then : (a b : Bool) (r : Result Parser Fault) (f : Parser → Result Parser Fault) → (with a r >>= λ k. with b (f k.parser)) ≡ with b (r >>= f)
with_then a b (Ok q) f = refl
with_then a b (Err e) f = refl

next_lines : (a : Bool) (n : ℕ) (more : List (List ℕ)) (r : Result Parser Fault) (f : Parser → Result Parser Fault) (b : Bool)
    → ((q : Parser) → lines_from (kernel q a) n more ≡ with b (f q)) → (with a r >>= λ k. lines_from k n more) ≡ with b (r >>= f)
next_lines a n more (Ok q) f b h = h q
next_lines a n more (Err e) f b h = refl

pub good_lines : (p : Parser) (r : Bool) (n : ℕ) (lines : List (List ℕ)) → AreGood r lines
    → lines_from (kernel p r) n lines ≡ with (reads_behind r lines) (steps_of p (data_text r n lines))
good_lines p r n [] h = refl
good_lines p r n (line ∷ more) h =
    ap (λ (z : Result Kernel Fault). z >>= λ k. lines_from k (n + 1) more) (good_line p r n line h.0)
    ∙ next_lines (reads_after r line) (n + 1) more (steps_of p (line_data r n line)) (λ q. steps_of q (data_text (reads_after r line) (n + 1) more))
    (reads_behind r (line ∷ more)) (λ q. good_lines q (reads_after r line) (n + 1) more h.1)
    ∙ ap (with (reads_behind r (line ∷ more))) (sym (steps-append p (line_data r n line) (data_text (reads_after r line) (n + 1) more)))

pub lines-append : (k : Kernel) (n : ℕ) (front more : List (List ℕ)) → lines_from k n (front ++ more) ≡ (lines_from k n front >>= λ q. lines_from q (n + length front) more)
lines-append k n [] more = ap (λ (m : ℕ). lines_from k m more) (omega arith)
lines-append k n (line ∷ front) more = on (line_of k n line) (λ q. lines-append q (n + 1) front more)
  where
    on : (r : Result Kernel Fault) → ((q : Kernel) → lines_from q (n + 1) (front ++ more) ≡ (lines_from q (n + 1) front >>= λ z. lines_from z (n + 1 + length front) more))
        → (r >>= λ q. lines_from q (n + 1) (front ++ more)) ≡ ((r >>= λ q. lines_from q (n + 1) front) >>= λ z. lines_from z (n + suc (length front)) more)
    on (Ok q) h =
        let count : n + 1 + length front ≡ n + suc (length front) = omega arith in
        h q ∙ ap (λ (m : ℕ). lines_from q (n + 1) front >>= λ z. lines_from z m more) count
    on (Err e) h = refl

-- the data of lines leave the reader settled
settles_then : (r : Result Parser Fault) (n : ℕ) → Settles (r >>= λ q. step_of q n 10)
settles_then (Ok q) n = line_settles q n
settles_then (Err e) n = settles_not e

line_leaves : (p : Parser) (r : Bool) (n : ℕ) (line : List ℕ) → is_settled p.stage ≡ true → Settles (steps_of p (line_data r n line))
line_leaves p r n line s =
    elim (cases_Bool (is_data r line)) [
      | inl d ↦ subst Settles (some_data p r n line d) (settles_then (steps_of p (numbered n line)) n)
      | inr d ↦ subst Settles (no_data p r n line d) (settles p s)
    ]

settles_more : (r : Result Parser Fault) (t : Data) → Settles r → ((q : Parser) → is_settled q.stage ≡ true → Settles (steps_of q t)) → Settles (r >>= λ q. steps_of q t)
settles_more (Ok q) t h f = f q (settled q h)
settles_more (Err e) t h f = settles_not e

pub lines_leave : (p : Parser) (r : Bool) (n : ℕ) (lines : List (List ℕ)) → is_settled p.stage ≡ true → Settles (steps_of p (data_text r n lines))
lines_leave p r n [] s = settles p s
lines_leave p r n (line ∷ more) s =
    subst Settles (sym (steps-append p (line_data r n line) (data_text (reads_after r line) (n + 1) more)))
    (settles_more (steps_of p (line_data r n line)) (data_text (reads_after r line) (n + 1) more) (line_leaves p r n line s)
    (λ q t. lines_leave q (reads_after r line) (n + 1) more t))

-- the first line that is not good
pub record FirstBad (r : Bool) (lines : List (List ℕ)) : Type 0 where
  pub front : List (List ℕ)
  pub line : List ℕ
  pub more : List (List ℕ)
  pub cause : TextCause
  pub good : AreGood r front
  pub bad : IsTooLong line cause ⊎ HasBadByte (reads_behind r front) line cause
  pub whole : lines ≡ front ++ line ∷ more

one_line : (r : Bool) (line : List ℕ) → IsGood r line ⊎ ((cause : TextCause) × (IsTooLong line cause ⊎ HasBadByte r line cause))
one_line r line =
    elim (cases_Bool (nat_lt 1000 (length line))) [
      | inl y ↦ inr (LineTooLong, inl (ltb-true _ _ y, refl))
      | inr n ↦
          let short = ltb-false _ _ n in
          elim (cases_Bool (is_data r line)) [
            | inr d ↦ inl (record { short = short; bytes = λ e. absurd (both_ways (is_data r line) d e) })
            | inl d ↦
                elim (cases_Bool (list_all is_allowed line)) [
                  | inl a ↦ inl (record { short = short; bytes = λ e. a })
                  | inr a ↦ inr (BadByte, inr (record { short = short; in_data = d; bytes = a; cause_is = refl }))
                ]
          ]
    ]

later : (r : Bool) (line : List ℕ) (more : List (List ℕ)) → IsGood r line → AreGood (reads_after r line) more ⊎ FirstBad (reads_after r line) more
    → AreGood r (line ∷ more) ⊎ FirstBad r (line ∷ more)
later r line more g (inl h) = inl (g, h)
later r line more g (inr h) = inr (record {
  front = line ∷ h.front;
  line = h.line;
  more = h.more;
  cause = h.cause;
  good = (g, h.good);
  bad = h.bad;
  whole = ap (λ (z : List (List ℕ)). line ∷ z) h.whole;
})

this_line : (r : Bool) (line : List ℕ) (more : List (List ℕ)) → IsGood r line ⊎ ((cause : TextCause) × (IsTooLong line cause ⊎ HasBadByte r line cause))
    → AreGood (reads_after r line) more ⊎ FirstBad (reads_after r line) more → AreGood r (line ∷ more) ⊎ FirstBad r (line ∷ more)
this_line r line more (inl g) rest = later r line more g rest
this_line r line more (inr (cause, bad)) rest = inr (record { front = []; line = line; more = more; cause = cause; good = tt; bad = bad; whole = refl })

pub good_or_bad : (r : Bool) (lines : List (List ℕ)) → AreGood r lines ⊎ FirstBad r lines
good_or_bad r [] = inl tt
good_or_bad r (line ∷ more) = this_line r line more (one_line r line) (good_or_bad (reads_after r line) more)
