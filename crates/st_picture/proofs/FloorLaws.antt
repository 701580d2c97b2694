-- A value between two whole numbers of units has the cell of the lower one; halves are whole numbers of units.
use Rattle.std.proofs.Common.{◌≡◌, ℕ, suc, ◌+◌, ◌-◌, ◌*◌, ◌/◌, ◌^◌, ◌<◌, ◌≤◌, Bool, true, false, refl, sym, ap, ◌∙◌, arith, mul-pos, lit<, ℤ, pos, ◌+ℤ◌, ◌-ℤ◌, ◌*ℤ◌}
use Rattle.std.proofs.Math.Nat.{pow-suc}
use Rattle.std.proofs.lemmas.Nat.{pow-add}
use Rattle.st_fraction.specs.Fraction.{Fraction, IsFraction, ◌≤ᶠ◌, ◌<ᶠ◌, ◌≈ᶠ◌, over, units, ◌+ᶠ◌, ◌-ᶠ◌}
use Rattle.st_fraction.proofs.Order.{le_f_refl, le_f_trans, le_f_add, same_refl, same_sym, same_trans, same_add, le_of_same}
use Rattle.st_fraction.proofs.Strict.{lt_at, at_lt}
use Rattle.st_fraction.proofs.Ring.{ring, lin, numerals}
use Rattle.st_fraction.proofs.Scale.{IsAt, at_self, at_more, at_add, same_at}
use Rattle.st_fraction.proofs.Linear.{at_factor}
use Rattle.st_fraction.proofs.Floors.{floor_same}
use Rattle.st_leaps.specs.Label.{Stamp, IsLabelOf, value_of}
use Rattle.st_leaps.proofs.Days.{start}
use Rattle.st_leaps.proofs.LabelLaws.{label_of_floor, second_at}
use Rattle.st_picture.specs.Cell.{IsCellOfLabel, HasLabelCell, IsTruncatedCell, IsCell, IsUnit, half_unit, times_tens, julian_date, minute_step, hour_step}
use Rattle.st_picture.specs.declared.cell.Cell.{Cell}
use Rattle.st_picture.specs.declared.unit.LeastUnit.{LeastUnit}
use Rattle.st_picture.specs.declared.unit.LeastUnit.TheVariants.{Second, Minute, Hour, Day, Month, Year, Count, Julian}
use Rattle.st_picture.proofs.Steps.{HasPart, truncated_on}
use Rattle.st_picture.proofs.Counts.{IsBetween, count_of_floor, julian_of_floor}
use Rattle.st_picture.proofs.CellLaws.{count_den, julian_den, half_den, truncates_fraction}

-- as many tens, and as many units, make 10^18 together
pub tens : (p : ℕ) → p ≤ 9 → 10 ^ p * 10 ^ (18 - p) ≡ 10 ^ 18
tens p h = sym (pow-add 10 p (18 - p)) ∙ (let e : p + (18 - p) ≡ 18 = omega arith in ap (λ (k : ℕ). 10 ^ k) e)

-- labels
label_on : (count : ℤ → ℤ) (v : Fraction) (n : ℤ) (label : Stamp) → IsFraction v → units n ≤ᶠ v → v <ᶠ units (n +ℤ pos 1) → IsLabelOf count (units n) label
    → HasPart label.second v n (n -ℤ start count label.day *ℤ pos (10 ^ 18)) (10 ^ 18)
label_on count v n label f from to is = record {
  sec_some = is.is_label.second_is.positive;
  v_some = f.positive;
  sec_at = second_at count n label is;
  from = from;
  to = to;
}

cell_on : (unit : LeastUnit) (v : Fraction) (n s : ℤ) (label : Stamp) (cell : Cell) → HasPart label.second v n s (10 ^ 18) → IsCellOfLabel unit label cell
    → IsCellOfLabel unit (record { day = label.day; second = label.second +ᶠ (v -ᶠ units n) }) cell
cell_on (Second places) v n s label cell p (z, t, e) = (z, truncated_on (10 ^ (18 - places)) label.second v n s z p t, e)
cell_on Minute v n s label cell p (z, t, e) = (z, truncated_on minute_step label.second v n s z p t, e)
cell_on Hour v n s label cell p (z, t, e) = (z, truncated_on hour_step label.second v n s z p t, e)
cell_on Day v n s label cell p h = h
cell_on Month v n s label cell p h = h
cell_on Year v n s label cell p h = h
cell_on (Count places) v n s label cell p h = absurd h
cell_on (Julian places) v n s label cell p h = absurd h

label_cell_of_floor : (unit : LeastUnit) (count : ℤ → ℤ) (v : Fraction) (n : ℤ) (cell : Cell) → IsFraction v → units n ≤ᶠ v → v <ᶠ units (n +ℤ pos 1)
    → HasLabelCell unit count (units n) cell → HasLabelCell unit count v cell
label_cell_of_floor unit count v n cell f from to h = record {
  label = record { day = h.label.day; second = h.label.second +ᶠ (v -ᶠ units n) };
  is_label = label_of_floor count v n h.label f from to h.is_label;
  is_cell = cell_on unit v n _ h.label cell (label_on count v n h.label f from to h.is_label) h.is_cell;
}

between : (v : Fraction) (n : ℤ) → IsFraction v → units n ≤ᶠ v → v <ᶠ units (n +ℤ pos 1) → IsBetween v n (10 ^ 18)
between v n f from to = record { some = f.positive; unit_some = lit< tt; from = from; to = to }

pub truncated_of_floor : (unit : LeastUnit) (count : ℤ → ℤ) (v : Fraction) (n : ℤ) (cell : Cell) → IsUnit unit → IsFraction v
    → units n ≤ᶠ v → v <ᶠ units (n +ℤ pos 1) → IsTruncatedCell unit count (units n) cell → IsTruncatedCell unit count v cell
truncated_of_floor (Count places) count v n cell u f from to (q, h, e) =
    (q, count_of_floor v n q (10 ^ places) (10 ^ (18 - places)) (10 ^ 18) (tens places u.few) (between v n f from to) h, e)
truncated_of_floor (Julian places) count v n cell u f from to (q, h, e) =
    (q, julian_of_floor v n q (pos 2_451_545) 86_400 (10 ^ places) (10 ^ (18 - places)) (10 ^ 18) (lit< tt) (tens places u.few) (between v n f from to) h, e)
truncated_of_floor (Second places) count v n cell u f from to h = label_cell_of_floor (Second places) count v n cell f from to h
truncated_of_floor Minute count v n cell u f from to h = label_cell_of_floor Minute count v n cell f from to h
truncated_of_floor Hour count v n cell u f from to h = label_cell_of_floor Hour count v n cell f from to h
truncated_of_floor Day count v n cell u f from to h = label_cell_of_floor Day count v n cell f from to h
truncated_of_floor Month count v n cell u f from to h = label_cell_of_floor Month count v n cell f from to h
truncated_of_floor Year count v n cell u f from to h = label_cell_of_floor Year count v n cell f from to h

-- cells go along equal values
label_moves : (unit : LeastUnit) (count : ℤ → ℤ) (v w : Fraction) (cell : Cell) → IsFraction v → v ≈ᶠ w → HasLabelCell unit count v cell → HasLabelCell unit count w cell
label_moves unit count v w cell f e h = record {
  label = h.label;
  is_label = record { is_label = h.is_label.is_label; value = same_trans (value_of count h.label) v w f.positive h.is_label.value e };
  is_cell = h.is_cell;
}

pub moves : (unit : LeastUnit) (count : ℤ → ℤ) (v w : Fraction) (cell : Cell) → IsFraction v → IsFraction w → v ≈ᶠ w
    → IsTruncatedCell unit count v cell → IsTruncatedCell unit count w cell
moves (Count places) count v w cell fv fw e (q, h, c) =
    (q, floor_same (times_tens v places) (times_tens w places) q (count_den v fv.positive) (count_den w fw.positive) (times_same v w places e) h, c)
  where
    go : (x y a d g : ℤ) → x *ℤ g ≡ y *ℤ d → x *ℤ a *ℤ (g *ℤ pos 1) ≡ y *ℤ a *ℤ (d *ℤ pos 1)
    go x y a d g e =
        let p : x *ℤ a *ℤ (g *ℤ pos 1) ≡ x *ℤ g *ℤ a = simp (numerals, ring) in
        let q : y *ℤ a *ℤ (d *ℤ pos 1) ≡ y *ℤ d *ℤ a = simp (numerals, ring) in
        p ∙ ap (λ (z : ℤ). z *ℤ a) e ∙ sym q

    times_same : (v w : Fraction) (p : ℕ) → v ≈ᶠ w → times_tens v p ≈ᶠ times_tens w p
    times_same v w p e = record { same = go v.num w.num (pos (10 ^ p)) (pos v.den) (pos w.den) e.same }
moves (Julian places) count v w cell fv fw e (q, h, c) =
    (q, floor_same (times_tens (julian_date v) places) (times_tens (julian_date w) places) q (julian_den v fv.positive) (julian_den w fw.positive) (julian_same v w places e) h, c)
  where
    go : (x y a d e j g : ℤ) → x *ℤ e ≡ y *ℤ d
        → (j *ℤ (d *ℤ g) +ℤ x *ℤ pos 1 *ℤ pos 1) *ℤ a *ℤ (pos 1 *ℤ (e *ℤ g) *ℤ pos 1) ≡ (j *ℤ (e *ℤ g) +ℤ y *ℤ pos 1 *ℤ pos 1) *ℤ a *ℤ (pos 1 *ℤ (d *ℤ g) *ℤ pos 1)
    go x y a d e j g h =
        let p : (j *ℤ (d *ℤ g) +ℤ x *ℤ pos 1 *ℤ pos 1) *ℤ a *ℤ (pos 1 *ℤ (e *ℤ g) *ℤ pos 1) ≡ j *ℤ d *ℤ e *ℤ g *ℤ g *ℤ a +ℤ x *ℤ e *ℤ g *ℤ a = simp (numerals, ring) in
        let q : (j *ℤ (e *ℤ g) +ℤ y *ℤ pos 1 *ℤ pos 1) *ℤ a *ℤ (pos 1 *ℤ (d *ℤ g) *ℤ pos 1) ≡ j *ℤ d *ℤ e *ℤ g *ℤ g *ℤ a +ℤ y *ℤ d *ℤ g *ℤ a = simp (numerals, ring) in
        p ∙ ap (λ (z : ℤ). j *ℤ d *ℤ e *ℤ g *ℤ g *ℤ a +ℤ z *ℤ g *ℤ a) h ∙ sym q

    julian_same : (v w : Fraction) (p : ℕ) → v ≈ᶠ w → times_tens (julian_date v) p ≈ᶠ times_tens (julian_date w) p
    julian_same v w p e = record { same = go v.num w.num (pos (10 ^ p)) (pos v.den) (pos w.den) (pos 2_451_545) (pos 86_400) e.same }
moves (Second places) count v w cell fv fw e h = label_moves (Second places) count v w cell fv e h
moves Minute count v w cell fv fw e h = label_moves Minute count v w cell fv e h
moves Hour count v w cell fv fw e h = label_moves Hour count v w cell fv e h
moves Day count v w cell fv fw e h = label_moves Day count v w cell fv e h
moves Month count v w cell fv fw e h = label_moves Month count v w cell fv e h
moves Year count v w cell fv fw e h = label_moves Year count v w cell fv e h

-- halves
ten_halves : (p : ℕ) → p ≤ 9 → 10 ^ (18 - p) / 2 * 2 ≡ 10 ^ (18 - p)
ten_halves p h =
    let e : 18 - p ≡ suc (17 - p) = omega arith in
    let f = ap (λ (k : ℕ). 10 ^ k) e ∙ pow-suc 10 (17 - p) in
    omega (arith, f)

pub half_is : (p g h : ℕ) → p ≤ 9 → h ≡ g * (10 ^ (18 - p) / 2) → over (pos g) (2 * 10 ^ p) ≈ᶠ units (pos h)
half_is p g h few e = record { same = ap pos (go g (10 ^ p) (10 ^ (18 - p) / 2) h (10 ^ (18 - p)) (10 ^ 18) (ten_halves p few) (tens p few) e) }
  where
    go : (g a b h c u : ℕ) → b * 2 ≡ c → a * c ≡ u → h ≡ g * b → g * u ≡ h * (2 * a)
    go g a b h c u e f k = omega (arith, ap (λ (n : ℕ). g * a * n) e, ap (λ (n : ℕ). g * n) f, ap (λ (n : ℕ). n * (2 * a)) k)

pub halves_are_units : (unit : LeastUnit) → IsUnit unit → (h : ℤ) × (half_unit unit ≈ᶠ units h)
halves_are_units (Second places) u = (pos (1 * (10 ^ (18 - places) / 2)), half_is places 1 _ u.few refl)
halves_are_units (Count places) u = (pos (1 * (10 ^ (18 - places) / 2)), half_is places 1 _ u.few refl)
halves_are_units (Julian places) u = (pos (86_400 * (10 ^ (18 - places) / 2)), half_is places 86_400 _ u.few refl)
halves_are_units Minute u = (pos (30 * 10 ^ 18), record { same = refl })
halves_are_units Hour u = (pos (1_800 * 10 ^ 18), record { same = refl })
halves_are_units Day u = (pos (43_200 * 10 ^ 18), record { same = refl })
halves_are_units Month u = (pos 0, record { same = refl })
halves_are_units Year u = (pos 0, record { same = refl })

-- sums of units
pub units_add : (n h : ℤ) → (units n +ᶠ units h) ≈ᶠ units (n +ℤ h)
units_add n h = same_at (10 ^ 18) (units n +ᶠ units h) (units (n +ℤ h)) (n +ℤ h) (lit< tt)
    (at_add (10 ^ 18) (units n) (units h) n h (at_self (units n)) (at_self (units h))) (at_self (units (n +ℤ h)))

pub half_added : (unit : LeastUnit) (n h : ℤ) → half_unit unit ≈ᶠ units h → (units n +ᶠ half_unit unit) ≈ᶠ units (n +ℤ h)
half_added unit n h e =
    same_trans (units n +ᶠ half_unit unit) (units n +ᶠ units h) (units (n +ℤ h)) (lit< tt)
    (same_add (units n) (units n) (half_unit unit) (units h) (same_refl (units n)) e) (units_add n h)

-- a value and half a unit lie before the next whole unit, too
half_to : (half v : Fraction) (n h : ℤ) (u : ℕ) → 0 < u → 0 < v.den → 0 < half.den → half ≈ᶠ over h u → v <ᶠ over (n +ℤ pos 1) u
    → (v +ᶠ half) <ᶠ over (n +ℤ h +ℤ pos 1) u
half_to half v n h u some pv ph e to =
    let d = v.den in
    let m = u * d in
    let hv : IsAt m v (v.num *ℤ pos u) = at_factor v u m (omega arith) in
    let hh = at_more u d half h (record { at = e.same }) in
    let hm = at_more u d (over (n +ℤ pos 1) u) (n +ℤ pos 1) (at_self (over (n +ℤ pos 1) u)) in
    let hk = at_more u d (over (n +ℤ h +ℤ pos 1) u) (n +ℤ h +ℤ pos 1) (at_self (over (n +ℤ h +ℤ pos 1) u)) in
    let b = at_lt m v (over (n +ℤ pos 1) u) (v.num *ℤ pos u) ((n +ℤ pos 1) *ℤ pos d) (mul-pos some pv) hv hm to in
    let sum = go n h (pos d) in
    lt_at m (v +ᶠ half) (over (n +ℤ h +ℤ pos 1) u) (v.num *ℤ pos u +ℤ h *ℤ pos d) ((n +ℤ h +ℤ pos 1) *ℤ pos d) (mul-pos pv ph) some
    (at_add m v half (v.num *ℤ pos u) (h *ℤ pos d) hv hh) hk (omega (arith, lin, b, sum))
  where
    go : (n h d : ℤ) → (n +ℤ pos 1) *ℤ d +ℤ h *ℤ d ≡ (n +ℤ h +ℤ pos 1) *ℤ d
    go n h d = simp (numerals, ring) (omega (arith, lin))

pub cell_of_floor : (unit : LeastUnit) (rounds : Bool) (count : ℤ → ℤ) (v : Fraction) (n : ℤ) (cell : Cell) → IsUnit unit → IsFraction v
    → units n ≤ᶠ v → v <ᶠ units (n +ℤ pos 1) → IsCell unit rounds count (units n) cell → IsCell unit rounds count v cell
cell_of_floor unit true count v n cell u f from to h =
    let half = halves_are_units unit u in
    let w = units n +ᶠ half_unit unit in
    let fn : IsFraction (units n) = record { positive = lit< tt } in
    let added = half_added unit n half.0 half.1 in
    let fw = truncates_fraction unit true (units n) fn in
    let fv = truncates_fraction unit true v f in
    let moved = moves unit count w (units (n +ℤ half.0)) cell fw (record { positive = lit< tt }) added h in
    truncated_of_floor unit count (v +ᶠ half_unit unit) (n +ℤ half.0) cell u fv
    (le_f_trans (units (n +ℤ half.0)) w (v +ᶠ half_unit unit) fw.positive (le_of_same (units (n +ℤ half.0)) w (same_sym w (units (n +ℤ half.0)) added))
    (le_f_add (units n) v (half_unit unit) (half_unit unit) from (le_f_refl (half_unit unit))))
    (half_to (half_unit unit) v n half.0 (10 ^ 18) (lit< tt) f.positive (half_den unit) half.1 to) moved
cell_of_floor unit false count v n cell u f from to h = truncated_of_floor unit count v n cell u f from to h
