-- What may be printed for a source: one outcome, and some outcome unless it may be left undecided.
use Rattle.std.proofs.Common.{◌≡◌, ◌≢◌, ◌⊎◌, inl, inr, ℕ, ◌+◌, ◌^◌, ◌≤◌, ℤ, pos, neg_ℤ, ◌≤ℤ◌, ◌<ℤ◌, Option, None, Some, refl, sym, ap, subst, arith, lit<, mul-pos}
use Rattle.std.proofs.lemmas.Int.{ints, by_lt_z}
use Rattle.std.specs.Int.Signed.{le_z_yes}
use Rattle.st_fraction.specs.Fraction.{Fraction, IsFraction, ◌≤ᶠ◌, over, whole, units, ◌+ᶠ◌, ◌-ᶠ◌}
use Rattle.st_fraction.proofs.Order.{le_f_trans}
use Rattle.st_fraction.proofs.Placed.{plus, minus, number, lowered, raised, placed}
use Rattle.st_leaps.specs.Label.{AreCounts}
use Rattle.st_leaps.specs.declared.table.LeapTable.{LeapTable}
use Rattle.st_picture.specs.Cell.{◌≤ᶜ◌, days_of, leaps_for}
use Rattle.st_picture.specs.declared.cell.Cell.{Cell}
use Rattle.st_picture.specs.declared.cell.Cell.TheVariants as cells
use Rattle.st_clock.specs.Tick.{IsNoLater}
use Rattle.st_clock.specs.declared.ticks.Ticks.{Ticks}
use Rattle.st_clock.specs.declared.ticks.Ticks.TheVariants.{Before, At, After}
use Rattle.st_routes.specs.LawSteps.{AreKnown}
use Rattle.st_routes.specs.Laws.{IsTarget, OneOutcome, OutcomeIsExact}
use Rattle.st_routes.specs.Outcome.{Outcome, Target, in_cell, at_tick, by_picture, by_clock, IsOutcome, MayPrint, MayBeUndecided}
use Rattle.st_routes.specs.Route.{HasSineOnIt, HasNoSineOnIt, IsNearby, shifted}
use Rattle.st_routes.specs.declared.route.Route.{Route}
use Rattle.st_routes.specs.declared.route.Route.TheVariants.{Same, Scales}
use Rattle.st_routes.proofs.Bounds.{agrees, exact_bounds, near_below, shifted_is, sine_or_none}

pub counts : AreKnown → (leaps : Option LeapTable) → AreCounts (days_of leaps)
counts laws None = laws.even
counts laws (Some table) = laws.tables table

same_z : (a b : ℤ) → a ≤ℤ b → b ≤ℤ a → a ≡ b
same_z a b h k = omega (arith, ints, h, k)

same_n : (a b : ℕ) → a ≤ b → b ≤ a → a ≡ b
same_n a b h k = omega (arith, h, k)

same_pair : (a b s t : ℤ) → (a <ℤ b) ⊎ ((a ≡ b) × (s ≤ℤ t)) → (b <ℤ a) ⊎ ((b ≡ a) × (t ≤ℤ s)) → (a ≡ b) × (s ≡ t)
same_pair a b s t (inl l) (inl m) = absurd (omega (arith, ints, l, m))
same_pair a b s t (inl l) (inr (e, m)) = absurd (omega (arith, ints, l, e))
same_pair a b s t (inr (e, l)) (inl m) = absurd (omega (arith, ints, e, m))
same_pair a b s t (inr (e, l)) (inr (f, m)) = (e, same_z s t l m)

same_month : (a b : ℤ) (m n : ℕ) → (a <ℤ b) ⊎ ((a ≡ b) × (m ≤ n)) → (b <ℤ a) ⊎ ((b ≡ a) × (n ≤ m)) → (a ≡ b) × (m ≡ n)
same_month a b m n (inl l) (inl k) = absurd (omega (arith, ints, l, k))
same_month a b m n (inl l) (inr (e, k)) = absurd (omega (arith, ints, l, e))
same_month a b m n (inr (e, l)) (inl k) = absurd (omega (arith, ints, e, k))
same_month a b m n (inr (e, l)) (inr (f, k)) = (e, same_n m n l k)

same_cell : (a b : Cell) → a ≤ᶜ b → b ≤ᶜ a → a ≡ b
same_cell (cells.Count a) (cells.Count b) h k = ap cells.Count (same_z a b h k)
same_cell (cells.Count a) (cells.Day b t) h k = absurd h
same_cell (cells.Count a) (cells.Month b n) h k = absurd h
same_cell (cells.Count a) (cells.Year b) h k = absurd h
same_cell (cells.Day a s) (cells.Count b) h k = absurd h
same_cell (cells.Day a s) (cells.Day b t) h k = let e = same_pair a b s t h k in λ i. cells.Day (e.0 i) (e.1 i)
same_cell (cells.Day a s) (cells.Month b n) h k = absurd h
same_cell (cells.Day a s) (cells.Year b) h k = absurd h
same_cell (cells.Month a m) (cells.Count b) h k = absurd h
same_cell (cells.Month a m) (cells.Day b t) h k = absurd h
same_cell (cells.Month a m) (cells.Month b n) h k = let e = same_month a b m n h k in λ i. cells.Month (e.0 i) (e.1 i)
same_cell (cells.Month a m) (cells.Year b) h k = absurd h
same_cell (cells.Year a) (cells.Count b) h k = absurd h
same_cell (cells.Year a) (cells.Day b t) h k = absurd h
same_cell (cells.Year a) (cells.Month b n) h k = absurd h
same_cell (cells.Year a) (cells.Year b) h k = ap cells.Year (same_z a b h k)

same_ticks : (s t : Ticks) → IsNoLater s t → IsNoLater t s → s ≡ t
same_ticks Before Before h k = refl
same_ticks Before (At b) h k = absurd k
same_ticks Before After h k = absurd k
same_ticks (At a) Before h k = absurd h
same_ticks (At a) (At b) h k = ap At (same_n a b h k)
same_ticks (At a) After h k = absurd k
same_ticks After Before h k = absurd h
same_ticks After (At b) h k = absurd h
same_ticks After After h k = refl

-- an outcome at a value, and one at a later value that is also before it, are one
same_outcome : AreKnown → (target : Target) (u v w x : Fraction) (a b : Outcome) → IsTarget target → IsFraction u → IsFraction v → IsFraction w → IsFraction x
    → u ≤ᶠ x → w ≤ᶠ v → IsOutcome target u a → IsOutcome target v a → IsOutcome target w b → IsOutcome target x b → a ≡ b
same_outcome laws (by_picture picture leaps) u v w x (in_cell a) (in_cell b) is pu pv pw px h k ua va wb xb =
    let days = days_of (leaps_for picture.system leaps) in
    let rise = laws.cells_rise picture.unit picture.rounds days in
    let are = counts laws (leaps_for picture.system leaps) in
    ap in_cell (same_cell a b (rise u x a b are pu px h ua xb) (rise w v b a are pw pv k wb va))
same_outcome laws (by_clock clock form) u v w x (at_tick a) (at_tick b) is pu pv pw px h k ua va wb xb =
    ap at_tick (same_ticks a b (laws.ticks_rise clock u x a b is pu px h ua xb) (laws.ticks_rise clock w v b a is pw pv k wb va))
same_outcome laws (by_picture picture leaps) u v w x (at_tick a) b is pu pv pw px h k ua va wb xb = absurd ua
same_outcome laws (by_picture picture leaps) u v w x (in_cell a) (at_tick b) is pu pv pw px h k ua va wb xb = absurd wb
same_outcome laws (by_clock clock form) u v w x (in_cell a) b is pu pv pw px h k ua va wb xb = absurd ua
same_outcome laws (by_clock clock form) u v w x (at_tick a) (in_cell b) is pu pv pw px h k ua va wb xb = absurd wb

pub one_outcome : AreKnown → OneOutcome
one_outcome laws route r target a b is p m n =
    same_outcome laws target m.low m.high n.low n.high a b is m.low_is m.high_is n.low_is n.high_is
    (agrees laws.agree route r m.low n.high p m.low_is n.high_is m.at_least n.at_most)
    (agrees laws.agree route r n.low m.high p n.low_is m.high_is n.at_least m.at_most) m.low_has m.high_has n.low_has n.high_has

-- a value from the year 4 on
abbrev pub early : Fraction
early = whole (neg_ℤ (pos 63_000_000_000))

found : AreKnown → (target : Target) (v : Fraction) → IsTarget target → IsFraction v → early ≤ᶠ v → (outcome : Outcome) × IsOutcome target v outcome
found laws (by_picture picture leaps) v is p h =
    let c = laws.cell_found picture.unit picture.rounds (days_of (leaps_for picture.system leaps)) v (counts laws (leaps_for picture.system leaps)) p h in
    (in_cell c.0, c.1)
found laws (by_clock clock form) v is p h = let t = laws.tick_found clock v is p in (at_tick t.0, t.1)

-- a value that is not far below a source is not too early
not_early : (r low e : Fraction) → IsFraction r → IsFraction low → IsFraction e → IsNearby r → e ≤ᶠ whole (pos 1) → r ≤ᶠ (low +ᶠ (whole (pos 101) +ᶠ e)) → early ≤ᶠ low
not_early r low e pr pl pe near small h =
    let start : whole (neg_ℤ (pos 6_311_391_400)) ≤ᶠ units (neg_ℤ (pos 6_311_391_400_000_000_000_000_000_000)) = record { le = le_z_yes tt } in
    let from = le_f_trans (whole (neg_ℤ (pos 6_311_391_400))) (units (neg_ℤ (pos 6_311_391_400_000_000_000_000_000_000))) r (lit< tt) start near.from in
    let z = placed r low e r r r r r pr.positive pl.positive pe.positive pr.positive pr.positive pr.positive pr.positive pr.positive in
    let a = lowered (number (neg_ℤ (pos 6_311_391_400)) z.m) z.of_a from in
    let b = lowered z.of_c (number (pos 1) z.m) small in
    let c = lowered z.of_a (plus z.of_b (plus (number (pos 101) z.m) z.of_c)) h in
    raised z.some (number (neg_ℤ (pos 63_000_000_000)) z.m) z.of_b (omega (arith, ints, a, b, c, z.some))

none_below : (r v : Fraction) → IsFraction r → IsFraction v → IsNearby r → (r -ᶠ whole (pos 101)) ≤ᶠ v → early ≤ᶠ v
none_below r v pr pv near h =
    let start : whole (neg_ℤ (pos 6_311_391_400)) ≤ᶠ units (neg_ℤ (pos 6_311_391_400_000_000_000_000_000_000)) = record { le = le_z_yes tt } in
    let from = le_f_trans (whole (neg_ℤ (pos 6_311_391_400))) (units (neg_ℤ (pos 6_311_391_400_000_000_000_000_000_000))) r (lit< tt) start near.from in
    let z = placed r v r r r r r r pr.positive pv.positive pr.positive pr.positive pr.positive pr.positive pr.positive pr.positive in
    let a = lowered (number (neg_ℤ (pos 6_311_391_400)) z.m) z.of_a from in
    let c = lowered (minus z.of_a (number (pos 101) z.m)) z.of_b h in
    raised z.some (number (neg_ℤ (pos 63_000_000_000)) z.m) z.of_b (omega (arith, ints, a, c, z.some))

shifted_late : AreKnown → (route : Route) (r : Fraction) → IsFraction r → IsNearby r → HasNoSineOnIt route → early ≤ᶠ shifted route r
shifted_late laws route r p near none =
    let back : IsFraction (r -ᶠ whole (pos 101)) = record { positive = mul-pos p.positive (lit< tt) } in
    none_below r (shifted route r) p (shifted_is route r p) near
    (agrees laws.agree route r (r -ᶠ whole (pos 101)) (shifted route r) p back (shifted_is route r p) (near_below laws.near route r p) (exact_bounds laws.exact route r p none).1)

-- without a sine the outcome of the shifted source may be printed,
printed : AreKnown → (route : Route) (r : Fraction) (target : Target) (outcome : Outcome) → IsFraction r → HasNoSineOnIt route
    → IsOutcome target (shifted route r) outcome → MayPrint route r target outcome
printed laws route r target outcome p none has = record {
  low = shifted route r;
  high = shifted route r;
  low_is = shifted_is route r p;
  high_is = shifted_is route r p;
  at_least = (exact_bounds laws.exact route r p none).0;
  at_most = (exact_bounds laws.exact route r p none).1;
  low_has = has;
  high_has = has;
}

-- and no other
pub outcome_is_exact : AreKnown → OutcomeIsExact
outcome_is_exact laws route r target outcome is p near none = (
  printed laws route r target outcome p none,
  λ m.
      let f = found laws target (shifted route r) is (shifted_is route r p) (shifted_late laws route r p near none) in
      let e = one_outcome laws route r target f.0 outcome is p (printed laws route r target f.0 p none f.1) m in
      subst (λ o. IsOutcome target (shifted route r) o) e f.1,
)

cell_kind : Cell → ℕ
cell_kind (cells.Count n) = 0
cell_kind (cells.Day day s) = 1
cell_kind (cells.Month year m) = 2
cell_kind (cells.Year year) = 3

first_of : Cell → ℤ
first_of (cells.Count n) = n
first_of (cells.Day day s) = day
first_of (cells.Month year m) = year
first_of (cells.Year year) = year

second_of : Cell → ℤ
second_of (cells.Count n) = n
second_of (cells.Day day s) = s
second_of (cells.Month year m) = pos m
second_of (cells.Year year) = year

z_decides : (a b : ℤ) → (a ≡ b) ⊎ (a ≢ b)
z_decides a b =
    by_lt_z a b (λ (l : a <ℤ b). inr (λ e. omega (arith, ints, l, e)))
    (λ (h : b ≤ℤ a). by_lt_z b a (λ (l : b <ℤ a). inr (λ e. omega (arith, ints, l, e))) (λ (k : a ≤ℤ b). inl (same_z a b k h)))

cells_apart : (a b : Cell) → (cell_kind a ≡ cell_kind b → ⊥) → (a ≡ b) ⊎ (a ≢ b)
cells_apart a b h = inr (λ e. h (ap cell_kind e))

numbers_decide : {A : Type 0} (a b : A) (p q : A → ℤ) → (p a ≡ p b → q a ≡ q b → a ≡ b) → (a ≡ b) ⊎ (a ≢ b)
numbers_decide a b p q join = elim (z_decides (p a) (p b)) [
  | inl e ↦ elim (z_decides (q a) (q b)) [
    | inl f ↦ inl (join e f)
    | inr n ↦ inr (λ e. n (ap q e))
  ]
  | inr n ↦ inr (λ e. n (ap p e))
]

-- two cells are one, or they are not
cell_decides : (a b : Cell) → (a ≡ b) ⊎ (a ≢ b)
unfolding cell_kind first_of second_of
cell_decides (cells.Count a) (cells.Count b) = numbers_decide (cells.Count a) (cells.Count b) first_of second_of (λ e f. ap cells.Count e)
cell_decides (cells.Count a) (cells.Day b t) = cells_apart (cells.Count a) (cells.Day b t) (λ e. omega (arith, e))
cell_decides (cells.Count a) (cells.Month b n) = cells_apart (cells.Count a) (cells.Month b n) (λ e. omega (arith, e))
cell_decides (cells.Count a) (cells.Year b) = cells_apart (cells.Count a) (cells.Year b) (λ e. omega (arith, e))
cell_decides (cells.Day a s) (cells.Count b) = cells_apart (cells.Day a s) (cells.Count b) (λ e. omega (arith, e))
cell_decides (cells.Day a s) (cells.Day b t) = numbers_decide (cells.Day a s) (cells.Day b t) first_of second_of (λ e f. λ i. cells.Day (e i) (f i))
cell_decides (cells.Day a s) (cells.Month b n) = cells_apart (cells.Day a s) (cells.Month b n) (λ e. omega (arith, e))
cell_decides (cells.Day a s) (cells.Year b) = cells_apart (cells.Day a s) (cells.Year b) (λ e. omega (arith, e))
cell_decides (cells.Month a m) (cells.Count b) = cells_apart (cells.Month a m) (cells.Count b) (λ e. omega (arith, e))
cell_decides (cells.Month a m) (cells.Day b t) = cells_apart (cells.Month a m) (cells.Day b t) (λ e. omega (arith, e))
cell_decides (cells.Month a m) (cells.Month b n) =
    numbers_decide (cells.Month a m) (cells.Month b n) first_of second_of (λ e f. let g : m ≡ n = omega (arith, ints, f) in λ i. cells.Month (e i) (g i))
cell_decides (cells.Month a m) (cells.Year b) = cells_apart (cells.Month a m) (cells.Year b) (λ e. omega (arith, e))
cell_decides (cells.Year a) (cells.Count b) = cells_apart (cells.Year a) (cells.Count b) (λ e. omega (arith, e))
cell_decides (cells.Year a) (cells.Day b t) = cells_apart (cells.Year a) (cells.Day b t) (λ e. omega (arith, e))
cell_decides (cells.Year a) (cells.Month b n) = cells_apart (cells.Year a) (cells.Month b n) (λ e. omega (arith, e))
cell_decides (cells.Year a) (cells.Year b) = numbers_decide (cells.Year a) (cells.Year b) first_of second_of (λ e f. ap cells.Year e)

-- a tick as a number: two more than itself, with 0 for before and 1 for after
tick_number : Ticks → ℤ
tick_number Before = pos 0
tick_number After = pos 1
tick_number (At k) = pos (2 + k)

same_number : (s t : Ticks) → tick_number s ≡ tick_number t → s ≡ t
unfolding tick_number
same_number Before Before e = refl
same_number Before (At b) e = absurd (omega (arith, ints, e))
same_number Before After e = absurd (omega (arith, ints, e))
same_number (At a) Before e = absurd (omega (arith, ints, e))
same_number (At a) (At b) e = let g : a ≡ b = omega (arith, ints, e) in ap At g
same_number (At a) After e = absurd (omega (arith, ints, e))
same_number After Before e = absurd (omega (arith, ints, e))
same_number After (At b) e = absurd (omega (arith, ints, e))
same_number After After e = refl

ticks_decide : (s t : Ticks) → (s ≡ t) ⊎ (s ≢ t)
ticks_decide s t = numbers_decide s t tick_number tick_number (λ e f. same_number s t e)

cell_or : Cell → Outcome → Cell
cell_or other (in_cell cell) = cell
cell_or other (at_tick ticks) = other

ticks_or : Ticks → Outcome → Ticks
ticks_or other (in_cell cell) = other
ticks_or other (at_tick ticks) = ticks

-- two outcomes by a target are one, or they are not
outcome_decides : (target : Target) (v w : Fraction) (a b : Outcome) → IsOutcome target v a → IsOutcome target w b → (a ≡ b) ⊎ (a ≢ b)
unfolding cell_or ticks_or
outcome_decides (by_picture picture leaps) v w (in_cell a) (in_cell b) h k = elim (cell_decides a b) [
  | inl e ↦ inl (ap in_cell e)
  | inr n ↦ inr (λ e. n (ap (cell_or a) e))
]
outcome_decides (by_clock clock form) v w (at_tick a) (at_tick b) h k = elim (ticks_decide a b) [
  | inl e ↦ inl (ap at_tick e)
  | inr n ↦ inr (λ e. n (ap (ticks_or a) e))
]
outcome_decides (by_picture picture leaps) v w (at_tick a) b h k = absurd h
outcome_decides (by_picture picture leaps) v w (in_cell a) (at_tick b) h k = absurd k
outcome_decides (by_clock clock form) v w (in_cell a) b h k = absurd h
outcome_decides (by_clock clock form) v w (at_tick a) (in_cell b) h k = absurd k

-- an outcome that may be printed, of a value that is not too early
pub record IsFound (route : Route) (r : Fraction) (target : Target) : Type 0 where
  pub outcome : Outcome
  pub prints : MayPrint route r target outcome
  pub value : Fraction
  pub is : IsFraction value
  pub late : early ≤ᶠ value
  pub has : IsOutcome target value outcome

abbrev close : Fraction
close = over (pos 1) (10 ^ 12)

-- where a sine stands, two near bounds have one outcome, or two
known : AreKnown → (route : Route) (r : Fraction) (target : Target) → IsTarget target → IsFraction r → IsNearby r → HasSineOnIt route
    → IsFound route r target ⊎ MayBeUndecided route r target
known laws Same r target is p near sine = absurd sine
known laws (Scales c from to) r target is p near sine =
    let route = Scales c from to in
    let k = laws.known c from to r close p (record { positive = lit< tt }) (record { lt = omega (arith, ints) }) in
    let ordered = agrees laws.agree route r k.low k.high p k.low_is k.high_is k.at_least k.at_most in
    let late = not_early r k.low close p k.low_is (record { positive = lit< tt }) near (record { le = omega (arith, ints) }) k.low_near in
    let a = found laws target k.low is k.low_is late in
    let b = found laws target k.high is k.high_is (le_f_trans early k.low k.high k.low_is.positive late ordered) in
    elim (outcome_decides target k.low k.high a.0 b.0 a.1 b.1) [
      | inl e ↦ inl (record {
        outcome = a.0;
        prints = record {
          low = k.low;
          high = k.high;
          low_is = k.low_is;
          high_is = k.high_is;
          at_least = k.at_least;
          at_most = k.at_most;
          low_has = a.1;
          high_has = subst (λ o. IsOutcome target k.high o) (sym e) b.1;
        };
        value = k.low;
        is = k.low_is;
        late = late;
        has = a.1;
      })
      | inr n ↦ inr (record {
        sine = sine;
        low = k.low;
        high = k.high;
        low_is = k.low_is;
        high_is = k.high_is;
        ordered = ordered;
        close = k.close;
        at_least = k.at_least;
        at_most = k.at_most;
        lower = a.0;
        upper = b.0;
        low_has = a.1;
        high_has = b.1;
        differ = n;
      })
    ]

pub each_has_outcome : AreKnown → (route : Route) (r : Fraction) (target : Target) → IsTarget target → IsFraction r → IsNearby r
    → IsFound route r target ⊎ MayBeUndecided route r target
each_has_outcome laws route r target is p near = elim (sine_or_none route) [
  | inl sine ↦ known laws route r target is p near sine
  | inr none ↦
      let late = shifted_late laws route r p near none in
      let f = found laws target (shifted route r) is (shifted_is route r p) late in
      inl (record {
        outcome = f.0;
        prints = printed laws route r target f.0 p none f.1;
        value = shifted route r;
        is = shifted_is route r p;
        late = late;
        has = f.1;
      })
]
