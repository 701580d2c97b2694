-- Days are the steps of their starts, and a label is a place between two of them.
use Rattle.std.proofs.Common.{◌≡◌, ℕ, ◌*◌, ◌<◌, ℤ, pos, neg_ℤ, ◌+ℤ◌, ◌-ℤ◌, ◌*ℤ◌, ◌≤ℤ◌, ◌<ℤ◌, sym, subst, arith, lit<}
use Rattle.std.proofs.lemmas.Int.{ints, by_lt_z}
use Rattle.st_fraction.specs.Fraction.{Fraction, IsFraction, over, whole}
use Rattle.st_fraction.proofs.Ring.{ring, lin}
use Rattle.st_fraction.proofs.Scale.{IsAt, at_add, at_le, le_at, same_at}
use Rattle.st_fraction.proofs.Linear.{whole_at}
use Rattle.st_fraction.proofs.Strict.{at_lt, lt_at}
use Rattle.st_fraction.proofs.Order.{le_of_same, same_sym}
use Rattle.st_fraction.proofs.Floors.{floor_found}
use Rattle.st_leaps.specs.Label.{Stamp, IsLabelOf, AreCounts, formal_start, length_of, value_of}

-- the value at the start of a day, in seconds
abbrev pub start : (ℤ → ℤ) → ℤ → ℤ
start count day = formal_start day +ℤ count day

-- a day is over when a later one begins
pub start_rises : (count : ℤ → ℤ) (d e : ℤ) → AreCounts count → d <ℤ e → start count (d +ℤ pos 1) ≤ℤ start count e
start_rises count d e c l = by_lt_z (d +ℤ pos 1) e
    (λ (m : (d +ℤ pos 1) <ℤ e).
    let to = c.to (d +ℤ pos 1) in
    let from = c.from e in
    omega (arith, ints))
    (λ (m : e ≤ℤ (d +ℤ pos 1)).
    let same : d +ℤ pos 1 ≡ e = omega (arith, ints) in
    let P : ℤ → Type 0 = λ z. start count (d +ℤ pos 1) ≤ℤ start count z in
    subst P same (omega (arith, ints)))

-- a value of x parts, m of which make a second, lies in the day, s parts after its start
pub record IsPlaced (count : ℤ → ℤ) (m : ℕ) (day x s : ℤ) : Type 0 where
  pub from : (start count day *ℤ pos m) ≤ℤ x
  pub to : x <ℤ (start count (day +ℤ pos 1) *ℤ pos m)
  pub passed : s ≡ x -ℤ (start count day *ℤ pos m)

-- the parts of a day
day_parts : (count : ℤ → ℤ) (day : ℤ) (m : ℕ) → length_of count day *ℤ pos m ≡ start count (day +ℤ pos 1) *ℤ pos m -ℤ start count day *ℤ pos m
day_parts count day m =
    let l : length_of count day ≡ start count (day +ℤ pos 1) +ℤ neg_ℤ (start count day) = omega (arith, ints) in
    go (length_of count day) (start count (day +ℤ pos 1)) (start count day) (pos m) l
  where
    go : (l e s m : ℤ) → l ≡ e +ℤ neg_ℤ s → l *ℤ m ≡ e *ℤ m -ℤ s *ℤ m
    go l e s m h =
        let p : (e +ℤ neg_ℤ s) *ℤ m ≡ e *ℤ m -ℤ s *ℤ m = simp ring (omega (arith, lin)) in
        rw h p

pub value_at : (count : ℤ → ℤ) (label : Stamp) (m : ℕ) (s : ℤ) → IsAt m label.second s → IsAt m (value_of count label) (start count label.day *ℤ pos m +ℤ s)
value_at count label m s h = at_add m (whole (start count label.day)) label.second (start count label.day *ℤ pos m) s (whole_at (start count label.day) m) h

pub placed : (count : ℤ → ℤ) (v : Fraction) (label : Stamp) (m : ℕ) (x s : ℤ) → 0 < m → IsFraction v → IsAt m v x → IsAt m label.second s
    → IsLabelOf count v label → IsPlaced count m label.day x s
placed count v label m x s some f hv hs is =
    let den = is.is_label.second_is.positive in
    let value = value_at count label m s hs in
    let value_den : 0 < 1 * label.second.den = omega arith in
    let most = at_le m (value_of count label) v (start count label.day *ℤ pos m +ℤ s) x value_den f.positive value hv (le_of_same (value_of count label) v is.value) in
    let least = at_le m v (value_of count label) x (start count label.day *ℤ pos m +ℤ s) f.positive value_den hv value (le_of_same v (value_of count label) (same_sym (value_of count label) v is.value)) in
    let from = at_le m (whole (pos 0)) label.second (pos 0 *ℤ pos m) s (lit< tt) den (whole_at (pos 0) m) hs is.is_label.from in
    let to = at_lt m label.second (whole (length_of count label.day)) s (length_of count label.day *ℤ pos m) some hs (whole_at (length_of count label.day) m) is.is_label.to in
    let parts = day_parts count label.day m in
    record {
      from = omega (arith, lin);
      to = omega (arith, lin);
      passed = omega (arith, lin);
    }

pub unplaced : (count : ℤ → ℤ) (v : Fraction) (label : Stamp) (m : ℕ) (x s : ℤ) → 0 < m → IsFraction v → IsFraction label.second → IsAt m v x → IsAt m label.second s
    → IsPlaced count m label.day x s → IsLabelOf count v label
unplaced count v label m x s some f second_is hv hs p =
    let parts = day_parts count label.day m in
    let passed = p.passed in
    let whole_value : start count label.day *ℤ pos m +ℤ s ≡ x = omega (arith, lin) in
    let value : IsAt m (value_of count label) x = subst (λ (z : ℤ). IsAt m (value_of count label) z) whole_value (value_at count label m s hs) in
    record {
      is_label = record {
        second_is = second_is;
        from = le_at m (whole (pos 0)) label.second (pos 0 *ℤ pos m) s some (whole_at (pos 0) m) hs (omega (arith, lin));
        to = lt_at m label.second (whole (length_of count label.day)) s (length_of count label.day *ℤ pos m) second_is.positive (lit< tt) hs (whole_at (length_of count label.day) m) (omega (arith, lin));
      };
      value = same_at m (value_of count label) v x some value hv;
    }

-- a whole number of seconds lies in one day: that of the formal count, the day before or the day after
pub record IsWithinDay (count : ℤ → ℤ) (n day : ℤ) : Type 0 where
  pub from : start count day ≤ℤ n
  pub to : n <ℤ start count (day +ℤ pos 1)

within : (count : ℤ → ℤ) (n q : ℤ) → AreCounts count → formal_start q ≤ℤ n → n <ℤ formal_start (q +ℤ pos 1) → (day : ℤ) × IsWithinDay count n day
within count n q c from to = by_lt_z n (start count q)
    (λ (early : n <ℤ start count q).
    let most = c.to (q -ℤ pos 1) in
    let back : q -ℤ pos 1 +ℤ pos 1 ≡ q = omega (arith, ints) in
    let P : ℤ → Type 0 = λ z. n <ℤ start count z in
    (q -ℤ pos 1, record { from = omega (arith, ints); to = subst P (sym back) early }))
    (λ (late : start count q ≤ℤ n). by_lt_z n (start count (q +ℤ pos 1))
    (λ (here : n <ℤ start count (q +ℤ pos 1)). (q, record { from = late; to = here }))
    (λ (past : start count (q +ℤ pos 1) ≤ℤ n).
    let least = c.from (q +ℤ pos 1 +ℤ pos 1) in
    (q +ℤ pos 1, record { from = past; to = omega (arith, ints) })))

pub found_day : (count : ℤ → ℤ) (n : ℤ) → AreCounts count → (day : ℤ) × IsWithinDay count n day
found_day count n c =
    let f = floor_found (over (n +ℤ pos 43_200) 86_400) (lit< tt) in
    let from = f.1.at_most.le in
    let to = f.1.below_next.lt in
    within count n f.0 c (omega (arith, ints)) (omega (arith, ints))
