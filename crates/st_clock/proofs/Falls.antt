-- Before, the ticks and After never fall as the time rises; so each time has one tick, and there is one for each.
use Rattle.std.proofs.Common.{◌≡◌, ℕ, ◌+◌, ◌*◌, ◌^◌, ◌<◌, ◌≤◌, ℤ, pos, negsuc, ◌+ℤ◌, ◌*ℤ◌, ◌≤ℤ◌, ◌<ℤ◌, ◌⊎◌, inl, inr, List, Option, None, Some, slice_get, refl, sym, subst, lit<, arith, mul-pos}
use Rattle.std.proofs.lemmas.Bool.{cases_lt}
use Rattle.std.proofs.lemmas.Int.{ints}
use Rattle.st_fraction.specs.Fraction.{Fraction, IsFraction, ◌≤ᶠ◌, over, whole, units, ◌+ᶠ◌, ◌-ᶠ◌, ◌*ᶠ◌, least}
use Rattle.st_fraction.specs.Floor.{IsFloor}
use Rattle.st_fraction.proofs.Ring.{ring, lin, neg-mul_z, le-mul_z}
use Rattle.st_fraction.proofs.Order.{le_f_refl, le_f_trans, le_f_cases, le_f_add, le_f_mul, not_both_f}
use Rattle.st_fraction.proofs.Ends.{least-den}
use Rattle.st_fraction.proofs.Strict.{least_first, least_second, below_least}
use Rattle.st_fraction.proofs.Floors.{floor_below, floor_rises, floor_found}
use Rattle.st_clock.specs.declared.coefficient.Coefficient.{Coefficient}
use Rattle.st_clock.specs.declared.ticks.Ticks.{Ticks}
use Rattle.st_clock.specs.declared.ticks.Ticks.TheVariants.{Before, At, After}
use Rattle.st_clock.specs.Clock.{Clock, tpm, total, AreRising, IsClock, IsLast, BeginsBy}
use Rattle.st_clock.specs.Tick.{line_tick, capped, IsNumberOf, TickOf, IsNoLater}
use Rattle.st_clock.proofs.Lasts.{by_place, same_record, last_in_order, next_there, ticks_in_order, last_found}

pub line_tick-den : (tpm : ℕ) (r : Coefficient) (v : Fraction) → 0 < r.rate → 0 < v.den → 0 < (line_tick tpm r v).den
line_tick-den tpm r v pr pv =
    let one : 0 < 1 = lit< tt in
    let unit : 0 < 10 ^ 18 = lit< tt in
    mul-pos one (mul-pos (mul-pos pv unit) pr)

pub capped-den : (o : Option Coefficient) (x : Fraction) → 0 < x.den → 0 < (capped o x).den
capped-den None x px = px
capped-den (Some s) x px = least-den x (whole (pos s.ticks)) px (lit< tt)

pub half_more-den : (x : Fraction) → 0 < x.den → 0 < (x +ᶠ over (pos 1) 2).den
half_more-den x px = let two : 0 < 2 = lit< tt in mul-pos px two

pub line_tick_rises : (tpm : ℕ) (r : Coefficient) (v w : Fraction) → v ≤ᶠ w → line_tick tpm r v ≤ᶠ line_tick tpm r w
line_tick_rises tpm r v w h =
    le_f_add _ _ _ _ (le_f_refl (whole (pos r.ticks)))
    (le_f_mul (v -ᶠ units r.time) (w -ᶠ units r.time) (over (pos (tpm * 10 ^ 18)) r.rate) (omega (arith, ints)) (le_f_add _ _ _ _ h (le_f_refl _)))

times_above : (x : ℤ) (n : ℕ) → pos 0 ≤ℤ x → pos 0 ≤ℤ (x *ℤ pos n)
times_above x n h = let m = le-mul_z (pos 0) x n h in omega (arith, ints, m)

-- what is not negative, added
le_plus : (a x : Fraction) → pos 0 ≤ℤ x.num → a ≤ᶠ (a +ᶠ x)
le_plus a x h = record { le = go a.num (pos a.den) (pos x.den) x.num (times_above (x.num *ℤ pos a.den) a.den (times_above x.num a.den h)) }
  where
    go : (n d e x : ℤ) → (pos 0) ≤ℤ (x *ℤ d *ℤ d) → (n *ℤ (d *ℤ e)) ≤ℤ ((n *ℤ e +ℤ x *ℤ d) *ℤ d)
    go n d e x h = simp ring (let h2 = simp ring at h in omega (arith, lin))

difference : (a b : Fraction) → a ≤ᶠ b → pos 0 ≤ℤ (b -ᶠ a).num
difference a b h = let e = neg-mul_z a.num (pos b.den) in omega (arith, lin)

-- from the record's time on, the line is not below the record's tick
pub line_tick_from : (tpm : ℕ) (r : Coefficient) (v : Fraction) → units r.time ≤ᶠ v → whole (pos r.ticks) ≤ᶠ line_tick tpm r v
line_tick_from tpm r v h =
    le_plus (whole (pos r.ticks)) ((v -ᶠ units r.time) *ᶠ over (pos (tpm * 10 ^ 18)) r.rate)
    (times_above (v -ᶠ units r.time).num (tpm * 10 ^ 18) (difference (units r.time) v h))

pub half_more : (x : Fraction) → x ≤ᶠ (x +ᶠ over (pos 1) 2)
half_more x = le_plus x (over (pos 1) 2) (omega (arith, ints))

pub add_half : (x y : Fraction) → x ≤ᶠ y → (x +ᶠ over (pos 1) 2) ≤ᶠ (y +ᶠ over (pos 1) 2)
add_half x y h = le_f_add x y (over (pos 1) 2) (over (pos 1) 2) h (le_f_refl (over (pos 1) 2))

pub capped_rises : (o : Option Coefficient) (x y : Fraction) → 0 < x.den → x ≤ᶠ y → capped o x ≤ᶠ capped o y
capped_rises None x y px h = h
capped_rises (Some s) x y px h =
    let cap = whole (pos s.ticks) in
    below_least (least x cap) y cap (le_f_trans (least x cap) x y px (least_first x cap) h) (least_second x cap)

-- a tick that is no later than the line's and than the next record's
pub capped_from : (o : Option Coefficient) (n : ℕ) (x : Fraction) → ((s : Coefficient) → o ≡ Some s → n ≤ s.ticks) → whole (pos n) ≤ᶠ x → whole (pos n) ≤ᶠ capped o x
capped_from None n x next h = h
capped_from (Some s) n x next h = below_least (whole (pos n)) x (whole (pos s.ticks)) h (let l = next s refl in record { le = omega (arith, ints) })

-- one record's numbers
at_one_place : (tpm : ℕ) (o : Option Coefficient) (r : Coefficient) (v w : Fraction) (m n : ℤ) → 0 < r.rate → 0 < v.den → 0 < w.den → v ≤ᶠ w
    → IsFloor (capped o (line_tick tpm r v) +ᶠ over (pos 1) 2) m → IsFloor (capped o (line_tick tpm r w) +ᶠ over (pos 1) 2) n → m ≤ℤ n
at_one_place tpm o r v w m n pr pv pw h f g =
    let x = line_tick tpm r v in
    let y = line_tick tpm r w in
    let px = line_tick-den tpm r v pr pv in
    let py = line_tick-den tpm r w pr pw in
    floor_rises (capped o x +ᶠ over (pos 1) 2) (capped o y +ᶠ over (pos 1) 2) m n (half_more-den (capped o x) (capped-den o x px))
    (half_more-den (capped o y) (capped-den o y py)) (add_half (capped o x) (capped o y) (capped_rises o x y px (line_tick_rises tpm r v w h))) f g

-- the cap of an earlier record is no later than a later record's tick
at_two_places : (records : List Coefficient) (tpm : ℕ) (i j : ℕ) (r s : Coefficient) (v w : Fraction) (m n : ℤ) → AreRising records
    → 0 < r.rate → 0 < s.rate → 0 < v.den → 0 < w.den → i < j → slice_get records i ≡ Some r → slice_get records j ≡ Some s → units s.time ≤ᶠ w
    → IsFloor (capped (slice_get records (i + 1)) (line_tick tpm r v) +ᶠ over (pos 1) 2) m
    → IsFloor (capped (slice_get records (j + 1)) (line_tick tpm s w) +ᶠ over (pos 1) 2) n → m ≤ℤ n
at_two_places records tpm i j r s v w m n rising pr ps pv pw l here there begins f g =
    let next = next_there records i j s l there in
    let t = next.0 in
    let x = line_tick tpm r v in
    let y = line_tick tpm s w in
    let px = line_tick-den tpm r v pr pv in
    let py = line_tick-den tpm s w ps pw in
    let a = slice_get records (i + 1) in
    let b = slice_get records (j + 1) in
    let below : capped a x ≤ᶠ whole (pos t.ticks) =
    subst (λ (o : Option Coefficient). capped o x ≤ᶠ whole (pos t.ticks)) (sym next.1) (least_second x (whole (pos t.ticks))) in
    let between : t.ticks ≤ s.ticks = ticks_in_order records (i + 1) j t s rising (omega arith) next.1 there in
    let above : whole (pos t.ticks) ≤ᶠ capped b y =
    capped_from b t.ticks y (λ u k. ordered t.ticks s.ticks u.ticks between (rising j (j + 1) s u (omega arith) there k).0)
    (le_f_trans (whole (pos t.ticks)) (whole (pos s.ticks)) y (lit< tt) (wholes t.ticks s.ticks between) (line_tick_from tpm s w begins)) in
    floor_rises (capped a x +ᶠ over (pos 1) 2) (capped b y +ᶠ over (pos 1) 2) m n (half_more-den (capped a x) (capped-den a x px))
    (half_more-den (capped b y) (capped-den b y py))
    (add_half (capped a x) (capped b y) (le_f_trans (capped a x) (whole (pos t.ticks)) (capped b y) (lit< tt) below above)) f g
  where
    ordered : (a b c : ℕ) → a ≤ b → b < c → a ≤ c
    ordered a b c h k = omega arith

    wholes : (a b : ℕ) → a ≤ b → whole (pos a) ≤ᶠ whole (pos b)
    wholes a b h = record { le = omega (arith, ints) }

pub number_rises : (c : Clock) (v w : Fraction) (m n : ℤ) → IsClock c → IsFraction v → IsFraction w → v ≤ᶠ w → IsNumberOf c v m → IsNumberOf c w n → m ≤ℤ n
number_rises c v w m n is pv pw h a b =
    let begins : (t : Coefficient) → BeginsBy v t → BeginsBy w t = λ t k. le_f_trans (units t.time) v w pv.positive k h in
    let in_order = last_in_order (BeginsBy v) (BeginsBy w) c.records a.place b.place a.by b.by a.last b.last begins in
    by_place a.place b.place
    (λ l. at_two_places c.records (tpm c) a.place b.place a.by b.by v w m n is.rising (is.rates a.place a.by a.last.here)
    (is.rates b.place b.by b.last.here) pv.positive pw.positive l a.last.here b.last.here b.last.holds a.rounded b.rounded)
    (λ e.
    let there : slice_get c.records a.place ≡ Some b.by = subst (λ i. slice_get c.records i ≡ Some b.by) (sym e) b.last.here in
    let same = same_record c.records a.place a.by b.by a.last.here there in
    let g : IsFloor (capped (slice_get c.records (a.place + 1)) (line_tick (tpm c) b.by w) +ᶠ over (pos 1) 2) n =
    subst (λ (i : ℕ). IsFloor (capped (slice_get c.records (i + 1)) (line_tick (tpm c) b.by w) +ᶠ over (pos 1) 2) n) (sym e) b.rounded in
    let g2 : IsFloor (capped (slice_get c.records (a.place + 1)) (line_tick (tpm c) a.by w) +ᶠ over (pos 1) 2) n =
    subst (λ (r : Coefficient). IsFloor (capped (slice_get c.records (a.place + 1)) (line_tick (tpm c) r w) +ᶠ over (pos 1) 2) n) (sym same) g in
    at_one_place (tpm c) (slice_get c.records (a.place + 1)) a.by v w m n (is.rates a.place a.by a.last.here) pv.positive pw.positive h a.rounded g2)
    (λ l. absurd (omega (arith, l, in_order)))

-- a time that a record's is at most isn't before all
not_before : (c : Clock) (v w : Fraction) (m : ℤ) → IsFraction v → v ≤ᶠ w → IsNumberOf c v m → TickOf c w Before → ⊥
not_before c v w m pv h a b =
    not_both_f (units a.by.time) w (le_f_trans (units a.by.time) v w pv.positive a.last.holds h) (b a.place a.by a.last.here)

pub tick_rises : (c : Clock) (v w : Fraction) (s t : Ticks) → IsClock c → IsFraction v → IsFraction w → v ≤ᶠ w → TickOf c v s → TickOf c w t → IsNoLater s t
tick_rises c v w Before t is pv pw h a b = tt
tick_rises c v w (At j) Before is pv pw h a b = not_before c v w (pos j) pv h a.0 b
tick_rises c v w (At j) (At k) is pv pw h a b = let l = number_rises c v w (pos j) (pos k) is pv pw h a.0 b.0 in omega (arith, ints, l)
tick_rises c v w (At j) After is pv pw h a b = tt
tick_rises c v w After Before is pv pw h a b = not_before c v w a.0 pv h a.1.0 b
tick_rises c v w After (At k) is pv pw h a b =
    let l = number_rises c v w a.0 (pos k) is pv pw h a.1.0 b.0 in
    absurd (less a.0 k (total c) a.1.1 b.1 l)
  where
    less : (n : ℤ) (k t : ℕ) → pos t <ℤ n → k ≤ t → n ≤ℤ pos k → ⊥
    less n k t h g l = omega (arith, ints)
tick_rises c v w After After is pv pw h a b = tt

pub same_tick : (s t : Ticks) → IsNoLater s t → IsNoLater t s → s ≡ t
same_tick Before Before h k = refl
same_tick Before (At k) h l = absurd l
same_tick Before After h l = absurd l
same_tick (At j) Before h l = absurd h
same_tick (At j) (At k) h l = let e : j ≡ k = omega arith in subst (λ n. At j ≡ At n) e refl
same_tick (At j) After h l = absurd l
same_tick After Before h l = absurd h
same_tick After (At k) h l = absurd h
same_tick After After h l = refl

pub tick_is_one : (c : Clock) (v : Fraction) (s t : Ticks) → IsClock c → IsFraction v → TickOf c v s → TickOf c v t → s ≡ t
tick_is_one c v s t is pv a b =
    same_tick s t (tick_rises c v v s t is pv pv (le_f_refl v) a b) (tick_rises c v v t s is pv pv (le_f_refl v) b a)

pub tick_is_found : (c : Clock) (v : Fraction) → IsClock c → IsFraction v → (t : Ticks) × TickOf c v t
tick_is_found c v is pv =
    elim (last_found (BeginsBy v) decide c.records) [
      | inl l ↦ found l.0 l.1.0 l.1.1
      | inr none ↦ (Before, λ i r g. le_f_cases (units r.time) v (λ h. absurd (none i r g h)) (λ h. h))
    ]
  where
    decide : (r : Coefficient) → BeginsBy v r ⊎ (BeginsBy v r → ⊥)
    decide r = le_f_cases (units r.time) v (λ h. inl h) (λ h. inr (λ k. not_both_f (units r.time) v k h))

    by_number : (n : ℤ) → pos 0 ≤ℤ n → IsNumberOf c v n → (t : Ticks) × TickOf c v t
    by_number (pos k) some a =
        elim (cases_lt (total c) k) [ inl l ↦ (After, (pos k, (a, omega (arith, ints, l)))) | inr l ↦ (At k, (a, omega arith)) ]
    by_number (negsuc k) some a = absurd (omega (arith, ints))

    found : (i : ℕ) (r : Coefficient) → IsLast (BeginsBy v) c.records i r → (t : Ticks) × TickOf c v t
    found i r l =
        let o = slice_get c.records (i + 1) in
        let x = line_tick (tpm c) r v in
        let px = line_tick-den (tpm c) r v (is.rates i r l.here) pv.positive in
        let cap = capped o x in
        let pc = capped-den o x px in
        let f = floor_found (cap +ᶠ over (pos 1) 2) (half_more-den cap pc) in
        let zero_below : whole (pos 0) ≤ᶠ cap =
        capped_from o 0 x (λ s e. zero_least s.ticks)
        (le_f_trans (whole (pos 0)) (whole (pos r.ticks)) x (lit< tt) (zero_first r.ticks) (line_tick_from (tpm c) r v l.holds)) in
        let some = floor_below (cap +ᶠ over (pos 1) 2) (pos 0) f.0 (half_more-den cap pc)
        (le_f_trans (whole (pos 0)) cap (cap +ᶠ over (pos 1) 2) pc zero_below (half_more cap)) f.1 in
        by_number f.0 some (record { place = i; by = r; last = l; rounded = f.1 })
      where
        zero_least : (n : ℕ) → 0 ≤ n
        zero_least n = omega arith

        zero_first : (n : ℕ) → whole (pos 0) ≤ᶠ whole (pos n)
        zero_first n = record { le = omega (arith, ints) }

-- what lies between two times of one tick has that tick
pub tick_between : (c : Clock) (a v b : Fraction) (t : Ticks) → IsClock c → IsFraction a → IsFraction v → IsFraction b → a ≤ᶠ v → v ≤ᶠ b
    → TickOf c a t → TickOf c b t → TickOf c v t
tick_between c a v b t is pa pv pb h k s u =
    let f = tick_is_found c v is pv in
    let e = same_tick f.0 t (tick_rises c v b f.0 t is pv pb k f.1 u) (tick_rises c a v t f.0 is pa pv h s f.1) in
    subst (TickOf c v) e f.1
