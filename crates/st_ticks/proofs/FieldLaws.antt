-- Counts and fields are mixed radix numbers: each count has one list of fields that do not carry.
use Rattle.std.proofs.Common.{◌≡◌, ℕ, ◌+◌, ◌-◌, ◌*◌, ◌/◌, ◌%◌, ◌<◌, ◌≤◌, List, [], ◌∷◌, ◌++◌, length, refl, sym, ◌∙◌, ap, arith}
use Rattle.std.specs.List.{All}
use Rattle.std.proofs.Math.Nat.{mod-lt}
use Rattle.std.proofs.lemmas.List.Elements.{All-head, All-tail}
use Rattle.std.proofs.lemmas.Nat.{div-add-mod', div-mul-add, mod-mul-add, div_below, mul-le, mul-add-lt}
use Rattle.st_ticks.specs.Face.{span, IsField}
use Rattle.st_ticks.specs.Laws.{AreBelow, DoNotCarry, FieldsCarry, FieldsAreFound, FieldsAreOne}
use Rattle.st_ticks.specs.Reading.{count_of, AreFromOffsets}
use Rattle.st_ticks.specs.Tick.{fields_of}
use Rattle.st_ticks.specs.declared.field.Field.{Field}

pub field_here : (f : Field) (fs : List Field) → All IsField (f ∷ fs) → IsField f
field_here f fs h = All-head IsField f fs h

pub fields_there : (f : Field) (fs : List Field) → All IsField (f ∷ fs) → All IsField fs
fields_there f fs h = All-tail IsField f fs h

pub span_some : (fs : List Field) → All IsField fs → 1 ≤ span fs
span_some [] h = omega arith
span_some (f ∷ fs) h = mul-le 1 1 f.modulus (span fs) (field_here f fs h).some (span_some fs (fields_there f fs h))

one_more : (a b m s c : ℕ) → (a + 1) * (m * s) + (b * s + c) ≡ a * (m * s) + ((b + m) * s + c)
one_more a b m s c = grind arith

carry : (v o w p m s c : ℕ) → o ≤ v → p ≤ w → (v + 1 - o) * (m * s) + ((w - p) * s + c) ≡ (v - o) * (m * s) + ((w + m - p) * s + c)
carry v o w p m s c h k =
    let first : v + 1 - o ≡ (v - o) + 1 = omega arith in
    let second : w + m - p ≡ (w - p) + m = omega arith in
    rw (first, second) (one_more (v - o) (w - p) m s c)

pub fields_carry : FieldsCarry
fields_carry [] after f g [] ws v w e h k = carry v f.offset w g.offset g.modulus (span after) (count_of after ws) h k
fields_carry [] after f g (u ∷ us) ws v w e h k = absurd (omega arith)
fields_carry (b ∷ before) after f g [] ws v w e h k = absurd (omega arith)
fields_carry (b ∷ before) after f g (u ∷ us) ws v w e h k =
    ap (λ (c : ℕ). (u - b.offset) * span (before ++ (f ∷ g ∷ after)) + c) (fields_carry before after f g us ws v w (omega arith) h k)

abbrev Counted : List Field → ℕ → Type 0
Counted fs n = count_of fs (fields_of fs n) ≡ n

-- the first field takes any count
counted_first : (f : Field) (fs : List Field) (n : ℕ) → Counted fs (n % span fs) → Counted (f ∷ fs) n
counted_first f fs n h =
    let value : f.offset + n / span fs - f.offset ≡ n / span fs = omega arith in
    rw (value, h) (div-add-mod' n (span fs))

counted_below : (fs : List Field) (n : ℕ) → All IsField fs → n < span fs → Counted fs n
counted_below [] n h l = omega arith
counted_below (f ∷ fs) n h l =
    let some : 0 < span fs = span_some fs (fields_there f fs h) in
    counted_first f fs n (counted_below fs (n % span fs) (fields_there f fs h) (mod-lt n some))

pub counted : (fs : List Field) (n : ℕ) → 1 ≤ length fs → All IsField fs → Counted fs n
counted [] n l h = absurd (omega arith)
counted (f ∷ fs) n l h =
    let some : 0 < span fs = span_some fs (fields_there f fs h) in
    counted_first f fs n (counted_below fs (n % span fs) (fields_there f fs h) (mod-lt n some))

pub from_offsets : (fs : List Field) (n : ℕ) → AreFromOffsets fs (fields_of fs n)
from_offsets [] n = tt
from_offsets (f ∷ fs) n = (omega arith, from_offsets fs (n % span fs))

below : (fs : List Field) (n : ℕ) → All IsField fs → n < span fs → AreBelow fs (fields_of fs n)
below [] n h l = tt
below (f ∷ fs) n h l =
    let some : 0 < span fs = span_some fs (fields_there f fs h) in
    let small : n / span fs < f.modulus = div_below n (span fs) f.modulus some l in
    (omega arith, below fs (n % span fs) (fields_there f fs h) (mod-lt n some))

do_not_carry : (fs : List Field) (n : ℕ) → All IsField fs → DoNotCarry fs (fields_of fs n)
do_not_carry [] n h = tt
do_not_carry (f ∷ fs) n h = below fs (n % span fs) (fields_there f fs h) (mod-lt n (span_some fs (fields_there f fs h)))

pub fields_are_found : FieldsAreFound
fields_are_found fields n l h = (counted fields n l h, from_offsets fields n, do_not_carry fields n h)

-- fields that do not carry count less than they span
count_below : (fs : List Field) (vs : List ℕ) → All IsField fs → AreBelow fs vs → AreFromOffsets fs vs → count_of fs vs < span fs
count_below [] vs h b o = omega arith
count_below (f ∷ fs) [] h b o = span_some (f ∷ fs) h
count_below (f ∷ fs) (v ∷ vs) h b o =
    let here : v - f.offset < f.modulus = omega (arith, b.0, o.0) in
    let there : count_of fs vs < span fs = count_below fs vs (fields_there f fs h) b.1 o.1 in
    omega (arith, mul-add-lt (v - f.offset) (span fs) (count_of fs vs) f.modulus here there)

no_carry : (fs : List Field) (vs : List ℕ) → AreBelow fs vs → DoNotCarry fs vs
no_carry [] vs b = tt
no_carry (f ∷ fs) [] b = tt
no_carry (f ∷ fs) (v ∷ vs) b = b.1

same_cons : (a b : ℕ) (t u : List ℕ) → a ≡ b → t ≡ u → a ∷ t ≡ b ∷ u
same_cons a b t u e f = cc

pub fields_are_one : FieldsAreOne
fields_are_one [] [] e h o d = refl
fields_are_one [] (v ∷ vs) e h o d = absurd (omega arith)
fields_are_one (f ∷ fs) [] e h o d = absurd (omega arith)
fields_are_one (f ∷ fs) (v ∷ vs) e h o d =
    let small : count_of fs vs < span fs = count_below fs vs (fields_there f fs h) d o.1 in
    let quotient : ((v - f.offset) * span fs + count_of fs vs) / span fs ≡ v - f.offset = div-mul-add (v - f.offset) (span fs) (count_of fs vs) small in
    let rest : ((v - f.offset) * span fs + count_of fs vs) % span fs ≡ count_of fs vs = mod-mul-add (v - f.offset) (span fs) (count_of fs vs) small in
    let value : v ≡ f.offset + (v - f.offset) = omega (arith, o.0) in
    same_cons v _ vs _ (value ∙ ap (λ (q : ℕ). f.offset + q) (sym quotient))
    (fields_are_one fs vs (omega arith) (fields_there f fs h) o.1 (no_carry fs vs d) ∙ ap (λ (r : ℕ). fields_of fs r) (sym rest))
