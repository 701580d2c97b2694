-- The clock of its variables, or their first fault, and that there is one answer.
use Rattle.std.proofs.Common.{◌≡◌, ℕ, suc, ◌+◌, ◌*◌, ◌<◌, pos, ◌+ℤ◌, ◌⊎◌, inl, inr, List, [], ◌∷◌, ◌++◌, length, Some, Result, Ok, Err, slice_get, refl, sym, ◌∙◌, ap, subst, append_assoc, arith}
use Rattle.std.proofs.lemmas.Int.{ints}
use Rattle.st_decimal.specs.declared.number.Dec.{Dec}
use Rattle.st_scales.specs.declared.scale.Scale.{Scale}
use Rattle.st_ticks.specs.Face.{Face, IsFace}
use Rattle.st_rules.specs.Rules.{AreKept, IsFirstBroken}
use Rattle.st_ticks.specs.declared.fault.FaceFault.{FaceFault}
use Rattle.st_ticks.specs.declared.fault.FaceFault.TheVariants.{Bad, OutOfMemory}
use Rattle.st_ticks.specs.declared.variable.ClockFault.{ClockFault}
use Rattle.st_rules.proofs.First.{one_first, none_broken}
use Rattle.st_clock.specs.declared.coefficient.Coefficient.{Coefficient}
use Rattle.st_clock.specs.Clock.{Clock, IsClock}
use Rattle.st_clock.specs.KeptSteps.{seen, IsSound}
use Rattle.st_clock.specs.Parts.{IsTick, IsTime, IsRate, IsRecordAt, AreRecords, Keeps, system_rules, record_rules, clock_rules, GivesScale, GivesRecords, GivesClock}
use Rattle.st_clock.proofs.PartLaws.{times_ten_is_one, one_scale}
use Rattle.st_clock.proofs.RecordLaws.{tick_is_one, time_is_one, same_value, records_small, records_rise}
use Rattle.st_clock.proofs.Rising.{steps_rise}

module _ {R : Type 0} where
  -- two ways to keep the rules of a list that come to the same
  abbrev Agree : (R → Type 0) → (R → Type 0) → List R → Type 0
  Agree K L [] = Unit {0}
  Agree K L (r ∷ more) = ((K r → L r) × (L r → K r)) × Agree K L more

  kept_along : (K L : R → Type 0) (before after : List R) → Agree K L (before ++ after) → AreKept K before → AreKept L before
  kept_along K L [] after h k = tt
  kept_along K L (r ∷ before) after h k = (h.0.0 k.0, kept_along K L before after h.1 k.1)

  rule_along : (K L : R → Type 0) (before after : List R) (r : R) → Agree K L (before ++ (r ∷ after)) → L r → K r
  rule_along K L [] after r h l = h.0.1 l
  rule_along K L (s ∷ before) after r h l = rule_along K L before after r h.1 l

  first_along : (K L : R → Type 0) (rules : List R) (r : R) → Agree K L rules → IsFirstBroken K rules r → IsFirstBroken L rules r
  first_along K L rules r h f =
      let g = subst (λ (xs : List R). Agree K L xs) f.stands h in
      record {
        before = f.before;
        after = f.after;
        stands = f.stands;
        kept = kept_along K L f.before (r ∷ f.after) g f.kept;
        broken = λ l. f.broken (rule_along K L f.before f.after r g l);
      }

  -- rules in front and after
  first_in_front : (K : R → Type 0) (rules more : List R) (r : R) → IsFirstBroken K rules r → IsFirstBroken K (rules ++ more) r
  first_in_front K rules more r f = record {
    before = f.before;
    after = f.after ++ more;
    stands = ap (λ (xs : List R). xs ++ more) f.stands ∙ append_assoc f.before (r ∷ f.after) more;
    kept = f.kept;
    broken = f.broken;
  }

  kept_both : (K : R → Type 0) (xs ys : List R) → AreKept K xs → AreKept K ys → AreKept K (xs ++ ys)
  kept_both K [] ys h k = k
  kept_both K (x ∷ xs) ys h k = (h.0, kept_both K xs ys h.1 k)

  first_behind : (K : R → Type 0) (rules more : List R) (r : R) → AreKept K rules → IsFirstBroken K more r → IsFirstBroken K (rules ++ more) r
  first_behind K rules more r h f = record {
    before = rules ++ f.before;
    after = f.after;
    stands = ap (λ (xs : List R). rules ++ xs) f.stands ∙ sym (append_assoc rules f.before (r ∷ f.after));
    kept = kept_both K rules f.before h f.kept;
    broken = f.broken;
  }

same : {A : Type 0} → (A → A) × (A → A)
same = (λ x. x, λ x. x)

system_agrees : (dt ts cs : List Dec) → Agree (Keeps dt ts []) (Keeps dt ts cs) system_rules
system_agrees dt ts cs = (same, (same, (same, (same, tt))))

records_agree : (dt ts cs : List Dec) → Agree (Keeps [] [] cs) (Keeps dt ts cs) record_rules
records_agree dt ts cs = (same, (same, (same, (same, (same, tt)))))

pub system_fault : (face : Face) (dt ts cs : List Dec) (f : ClockFault) → GivesScale dt ts (Err f) → GivesClock face dt ts cs (Err (Bad f))
system_fault face dt ts cs f g =
    first_in_front (Keeps dt ts cs) system_rules record_rules f (first_along (Keeps dt ts []) (Keeps dt ts cs) system_rules f (system_agrees dt ts cs) g)

pub record_fault : (face : Face) (dt ts cs : List Dec) (scale : Scale) (e : FaceFault) → GivesScale dt ts (Ok scale) → GivesRecords cs (Err e) → GivesClock face dt ts cs (Err e)
record_fault face dt ts cs scale OutOfMemory g h = tt
record_fault face dt ts cs scale (Bad f) g h =
    first_behind (Keeps dt ts cs) system_rules record_rules f g.0 (first_along (Keeps [] [] cs) (Keeps dt ts cs) record_rules f (records_agree dt ts cs) h)

pub clock_found : (face : Face) (dt ts cs : List Dec) (scale : Scale) (records : List Coefficient) → GivesScale dt ts (Ok scale) → GivesRecords cs (Ok records)
    → GivesClock face dt ts cs (Ok (seen face scale records))
clock_found face dt ts cs scale records g h = (kept_both (Keeps dt ts cs) system_rules record_rules g.0 h.0, (refl, (g.1, h.1)))

-- what is made of good values is a clock
pub clock_sound : (face : Face) (scale : Scale) (values : List Dec) (records : List Coefficient) → IsFace face → GivesRecords values (Ok records) → IsSound (seen face scale records)
clock_sound face scale values records is h = record {
  clock = record {
    face = is;
    some = some (length values) (length records) h.0.0.0 h.0.0.1.0 h.0.0.1.1 h.1.as_many;
    rates = λ i r g. (h.1.each i r g).rate_is.some;
    rising = steps_rise records (records_rise values records h.1 h.0.1.1.1.1.0);
  };
  small = records_small values records h.1;
}
  where
    some : (l m n : ℕ) → 0 < n → l ≡ 3 * n → l ≡ 3 * m → 0 < m
    some l m n p e f = omega arith

-- one answer
same_items : (xs ys : List Coefficient) → length xs ≡ length ys → ((i : ℕ) (r s : Coefficient) → slice_get xs i ≡ Some r → slice_get ys i ≡ Some s → r ≡ s) → xs ≡ ys
same_items [] [] l h = refl
same_items [] (y ∷ ys) l h = absurd (omega (arith, l))
same_items (x ∷ xs) [] l h = absurd (omega (arith, l))
same_items (x ∷ xs) (y ∷ ys) l h =
    let a = h 0 x y refl refl in
    let b = same_items xs ys (omega (arith, l)) (λ i r s g k. h (suc i) r s g k) in
    λ i. a i ∷ b i

rate_is_one : (d : Dec) (m n : ℕ) → IsRate d m → IsRate d n → m ≡ n
rate_is_one d m n a b = let e = times_ten_is_one d.digits (d.tens +ℤ pos 18) (pos m) (pos n) a.units.value b.units.value in omega (arith, ints, e)

one_record : (values : List Dec) (i : ℕ) (r s : Coefficient) → IsRecordAt values i r → IsRecordAt values i s → r ≡ s
one_record values i r s a b =
    let t = tick_is_one b.tick r.ticks s.ticks (subst (λ (d : Dec). IsTick d r.ticks) (same_value a.tick b.tick values (3 * i + 0) a.tick_here b.tick_here) a.tick_is) b.tick_is in
    let u = time_is_one b.time r.time s.time (subst (λ (d : Dec). IsTime d r.time) (same_value a.time b.time values (3 * i + 1) a.time_here b.time_here) a.time_is) b.time_is in
    let w = rate_is_one b.rate r.rate s.rate (subst (λ (d : Dec). IsRate d r.rate) (same_value a.rate b.rate values (3 * i + 2) a.rate_here b.rate_here) a.rate_is) b.rate_is in
    λ j. record { ticks = t j; time = u j; rate = w j }

same_records : (values : List Dec) (xs ys : List Coefficient) → AreRecords values xs → AreRecords values ys → xs ≡ ys
same_records values xs ys a b =
    same_items xs ys (omega (arith, a.as_many, b.as_many)) (λ i r s g h. one_record values i r s (a.each i r g) (b.each i s h))

pub clock_answer_is_one : (face : Face) (dt ts cs : List Dec) (a b : Result Clock FaceFault) → GivesClock face dt ts cs a → GivesClock face dt ts cs b
    → (a ≡ b) ⊎ ((a ≡ Err OutOfMemory) ⊎ (b ≡ Err OutOfMemory))
clock_answer_is_one face dt ts cs (Err OutOfMemory) b g h = inr (inl refl)
clock_answer_is_one face dt ts cs (Ok c) (Err OutOfMemory) g h = inr (inr refl)
clock_answer_is_one face dt ts cs (Err (Bad e)) (Err OutOfMemory) g h = inr (inr refl)
clock_answer_is_one face dt ts cs (Ok c) (Ok d) g h =
    let f = g.1.0 ∙ sym h.1.0 in
    let s = one_scale ts c.scale d.scale g.1.1.0 h.1.1.0 in
    let r = same_records cs c.records d.records g.1.1.1 h.1.1.1 in
    inl (λ i. Ok (record { face = f i; scale = s i; records = r i }))
clock_answer_is_one face dt ts cs (Ok c) (Err (Bad f)) g h = absurd (none_broken (Keeps dt ts cs) clock_rules f g.0 h)
clock_answer_is_one face dt ts cs (Err (Bad e)) (Ok d) g h = absurd (none_broken (Keeps dt ts cs) clock_rules e h.0 g)
clock_answer_is_one face dt ts cs (Err (Bad e)) (Err (Bad f)) g h = inl (ap (λ (x : ClockFault). Err (Bad x)) (one_first (Keeps dt ts cs) clock_rules e f g h))

pub parts_give_clock : (face : Face) (dt ts cs : List Dec) (c : Clock) → IsFace face → GivesClock face dt ts cs (Ok c) → IsClock c
parts_give_clock face dt ts cs c is g =
    let h : GivesRecords cs (Ok c.records) = (g.0.1.1.1.1, g.1.1.1) in
    let s = clock_sound c.face c.scale cs c.records (subst IsFace (sym g.1.0) is) h in
    s.clock
