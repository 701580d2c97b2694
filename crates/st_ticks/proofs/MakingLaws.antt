-- The parts of a face, one more at a time.
use Rattle.std.proofs.Common.{◌≡◌, ℕ, pos, ◌+◌, ◌*◌, ◌^◌, ◌<◌, ◌≤◌, zero, suc, sym, ap, ◌∙◌, subst, arith, List, [], ◌∷◌, ◌++◌, length, take, drop, get_or}
use Rattle.std.specs.List.{All}
use Rattle.std.proofs.Math.Nat.{mul-le-mul_left}
use Rattle.std.proofs.lemmas.List.{take_more}
use Rattle.std.proofs.lemmas.List.Elements.{All-get_or, All-drop}
use Rattle.st_decimal.specs.declared.number.Dec.{Dec}
use Rattle.st_ticks.specs.Face.{IsField, IsPartition, span}
use Rattle.st_ticks.specs.Variables.{HaveEnds, HaveModuli, HaveOffsets, IsFrom, IsNumber}
use Rattle.st_ticks.specs.declared.field.Field.{Field}
use Rattle.st_ticks.specs.declared.field.Partition.{Partition}
use Rattle.st_ticks.proofs.CountLaws.{no_field, span-step}
use Rattle.st_ticks.proofs.FieldLaws.{span_some}
use Rattle.st_ticks.proofs.WholeLaws.{same_number}

abbrev pub no_dec : Dec
no_dec = record { digits = pos 0; tens = pos 0 }

moduli-push : (ms : List Dec) (fs : List Field) (m : Dec) (f : Field) → HaveModuli ms fs → IsNumber f.modulus m → 1 ≤ f.modulus → f.modulus ≤ 10 ^ 18
    → HaveModuli (ms ++ m ∷ []) (fs ++ f ∷ [])
moduli-push [] [] m f h n l u = (n, l, u, tt)
moduli-push [] (g ∷ fs) m f h n l u = absurd h
moduli-push (k ∷ ms) [] m f h n l u = absurd h
moduli-push (k ∷ ms) (g ∷ fs) m f h n l u = (h.0, h.1, h.2, moduli-push ms fs m f h.3 n l u)

offsets-push : (os : List Dec) (fs : List Field) (o : Dec) (f : Field) → HaveOffsets os fs → IsNumber f.offset o → HaveOffsets (os ++ o ∷ []) (fs ++ f ∷ [])
offsets-push [] [] o f h n = (n, tt)
offsets-push [] (g ∷ fs) o f h n = absurd h
offsets-push (k ∷ os) [] o f h n = absurd h
offsets-push (k ∷ os) (g ∷ fs) o f h n = (h.0, offsets-push os fs o f h.1 n)

ends-push : (ss es : List Dec) (ps : List Partition) (s e : Dec) (p : Partition) → HaveEnds ss es ps → IsNumber p.start s → IsNumber p.end e → IsPartition p
    → HaveEnds (ss ++ s ∷ []) (es ++ e ∷ []) (ps ++ p ∷ [])
ends-push [] [] [] s e p h n m g = (n, m, g, tt)
ends-push [] [] (q ∷ ps) s e p h n m g = absurd h
ends-push [] (y ∷ es) ps s e p h n m g = absurd h
ends-push (x ∷ ss) [] ps s e p h n m g = absurd h
ends-push (x ∷ ss) (y ∷ es) [] s e p h n m g = absurd h
ends-push (x ∷ ss) (y ∷ es) (q ∷ ps) s e p h n m g = (h.0, h.1, h.2, ends-push ss es ps s e p h.3 n m g)

pub moduli_more : (ms : List Dec) (fs gs : List Field) (i : ℕ) (f : Field) → i < length ms → HaveModuli (take i ms) fs → gs ≡ fs ++ f ∷ []
    → IsNumber f.modulus (get_or ms i no_dec) → 1 ≤ f.modulus → f.modulus ≤ 10 ^ 18 → HaveModuli (take (i + 1) ms) gs
moduli_more ms fs gs i f l h e n a b =
    subst (λ (xs : List Dec). HaveModuli xs gs) (sym (take_more ms i no_dec l))
    (subst (λ (ys : List Field). HaveModuli (take i ms ++ get_or ms i no_dec ∷ []) ys) (sym e) (moduli-push (take i ms) fs (get_or ms i no_dec) f h n a b))

pub offsets_more : (os : List Dec) (fs gs : List Field) (i : ℕ) (f : Field) → i < length os → HaveOffsets (take i os) fs → gs ≡ fs ++ f ∷ []
    → IsNumber f.offset (get_or os i no_dec) → HaveOffsets (take (i + 1) os) gs
offsets_more os fs gs i f l h e n =
    subst (λ (xs : List Dec). HaveOffsets xs gs) (sym (take_more os i no_dec l))
    (subst (λ (ys : List Field). HaveOffsets (take i os ++ get_or os i no_dec ∷ []) ys) (sym e) (offsets-push (take i os) fs (get_or os i no_dec) f h n))

pub ends_more : (ss es : List Dec) (ps qs : List Partition) (i : ℕ) (p : Partition) → i < length ss → i < length es → HaveEnds (take i ss) (take i es) ps → qs ≡ ps ++ p ∷ []
    → IsNumber p.start (get_or ss i no_dec) → IsNumber p.end (get_or es i no_dec) → p.start ≤ p.end → p.end ≤ 10 ^ 18 → HaveEnds (take (i + 1) ss) (take (i + 1) es) qs
ends_more ss es ps qs i p l k h e n m a b =
    let pushed = ends-push (take i ss) (take i es) ps (get_or ss i no_dec) (get_or es i no_dec) p h n m (record { ordered = a; small = b }) in
    subst (λ (xs : List Dec). HaveEnds xs (take (i + 1) es) qs) (sym (take_more ss i no_dec l))
    (subst (λ (ys : List Dec). HaveEnds (take i ss ++ get_or ss i no_dec ∷ []) ys qs) (sym (take_more es i no_dec k))
    (subst (λ (rs : List Partition). HaveEnds (take i ss ++ get_or ss i no_dec ∷ []) (take i es ++ get_or es i no_dec ∷ []) rs) (sym e) pushed))

-- what partitions say of the start and the end at a place
ends_at : (ss es : List Dec) (ps : List Partition) (i : ℕ) → HaveEnds ss es ps → i < length ss
    → (p : Partition) × IsNumber p.start (get_or ss i no_dec) × IsNumber p.end (get_or es i no_dec) × IsPartition p
ends_at [] es ps i h l = absurd (omega arith)
ends_at (s ∷ ss) [] ps i h l = absurd h
ends_at (s ∷ ss) (e ∷ es) [] i h l = absurd h
ends_at (s ∷ ss) (e ∷ es) (p ∷ ps) zero h l = (p, h.0, h.1, h.2)
ends_at (s ∷ ss) (e ∷ es) (p ∷ ps) (suc i) h l = ends_at ss es ps i h.3 (omega arith)

pub lacks : (ss es : List Dec) (i start : ℕ) → i < length ss → IsNumber start (get_or ss i no_dec)
    → ((n : ℕ) → IsNumber n (get_or es i no_dec) → start ≤ n → n ≤ 10 ^ 18 → ⊥) → (ps : List Partition) → HaveEnds ss es ps → ⊥
lacks ss es i start l s h ps have =
    let at = ends_at ss es ps i have l in
    let same : start ≡ at.0.start = same_number (get_or ss i no_dec) start at.0.start s at.1 in
    let ordered : at.0.start ≤ at.0.end = at.3.ordered in
    h at.0.end at.2 (omega arith) at.3.small

-- a number from low to high, at a place
pub from_at : (low high : ℕ) (ds : List Dec) (i : ℕ) → All (IsFrom low high) ds → i < length ds → high ≤ 10 ^ 18 → IsFrom 0 (10 ^ 18) (get_or ds i no_dec)
from_at low high ds i h l k =
    let at = All-get_or (IsFrom low high) ds i no_dec l h in
    (at.0, at.1, omega arith, omega (arith, at.3))

pub low_at : (low high n : ℕ) (ds : List Dec) (i : ℕ) → All (IsFrom low high) ds → i < length ds → IsNumber n (get_or ds i no_dec) → (low ≤ n) × (n ≤ high)
low_at low high n ds i h l k =
    let at = All-get_or (IsFrom low high) ds i no_dec l h in
    let same : at.0 ≡ n = same_number (get_or ds i no_dec) at.0 n at.1 k in
    (omega (arith, at.2), omega (arith, at.3))

part : (p m s t : ℕ) → p * (m * s) ≡ t → 1 ≤ s → p * m ≤ t
part p m s t e h = omega (arith, e, mul-le-mul_left (p * m) h)

pub product_fits : (fs : List Field) (i p : ℕ) → All IsField fs → i < length fs → p * span (drop i fs) ≡ span fs → span fs ≤ 10 ^ 12 → p * (get_or fs i no_field).modulus ≤ 10 ^ 12
product_fits fs i p h l e k =
    let m : ℕ = (get_or fs i no_field).modulus in
    let s : ℕ = span (drop (i + 1) fs) in
    let whole : p * (m * s) ≡ span fs = ap (λ (x : ℕ). p * x) (sym (span-step fs i l)) ∙ e in
    omega (arith, part p m s (span fs) whole (span_some (drop (i + 1) fs) (All-drop IsField (i + 1) fs h)))
