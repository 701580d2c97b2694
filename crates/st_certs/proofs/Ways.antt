-- A sound certificate is true: its ends have the value of its source between them, and both have the cell whose text it names.
use Rattle.std.proofs.Common.{◌≡◌, ℕ, zero, suc, ◌+◌, ◌-◌, ◌*◌, ◌^◌, ◌<◌, ◌≤◌, ◌⊎◌, inl, inr, Bool, true, false, not, ◌&&◌, ◌==◌, List, [], ◌∷◌, ◌++◌, length, Some, None, Ok, ℤ, pos, neg_ℤ, ◌+ℤ◌, ◌-ℤ◌, ◌≤ℤ◌, unsigned_abs, refl, sym, ap, ◌∙◌, subst, arith, lit<, mul-pos}
use Rattle.std.specs.Prelude.{slice_get}
use Rattle.std.specs.List.{All}
use Rattle.std.proofs.lemmas.Bool.{cases_lt}
use Rattle.std.proofs.lemmas.Bool.Decides.{nat_tests}
use Rattle.std.proofs.lemmas.Int.{ints}
use Rattle.std.proofs.lemmas.Option.{slice_get_within}
use Rattle.st_fraction.specs.Fraction.{Fraction, IsFraction, ◌≤ᶠ◌, units, ◌+ᶠ◌}
use Rattle.st_fraction.proofs.Placed.{plus, raised}
use Rattle.st_fraction.proofs.Order.{le_f_refl}
use Rattle.st_enclosure.specs.declared.interval.Interval.{Interval}
use Rattle.st_rules.specs.Rules.{AreKept}
use Rattle.st_rules.proofs.First.{kept_front, kept_back}
use Rattle.st_scales.specs.declared.deltet.Deltet.{Deltet}
use Rattle.st_scales.specs.declared.scale.Scale.{Scale}
use Rattle.st_scales.specs.declared.scale.Scale.TheVariants.{Tai, Tt, Tdb}
use Rattle.st_scales.specs.Route.{HasValue, HasNoSineOnIt, crosses, shift}
use Rattle.st_scales.specs.Tdb.{TdbIsAtLeast, TdbIsAtMost}
use Rattle.st_scales.proofs.Routes.{route_exact, route_loosens}
use Rattle.st_scales.proofs.Step.{of_units}
use Rattle.st_scales.proofs.Units.{units_rise, units_are, shifted_back_low, shifted_back_high}
use Rattle.st_scales.proofs.Values.{tdb_rises_low, tdb_rises_high, tdb_loosens_low, tdb_loosens_high}
use Rattle.st_picture.specs.Cell.{IsCellOf}
use Rattle.st_picture.specs.Picture.{Picture}
use Rattle.st_picture.specs.Text.{IsTextOf}
use Rattle.st_picture.specs.declared.cell.Cell.{Cell}
use Rattle.st_routes.specs.Outcome.{in_cell}
use Rattle.st_certs.specs.Form.{IsCertificate, IsShortChain, IsShortProof}
use Rattle.st_certs.specs.Sound.{Way, straight, there, back, way_by, way_of, moved, source_tt, led, ahead, ends_by, ends, IsOfWay, IsBracketed, IsWithin, IsProof, AreConstants, OfChain, HasBase, HasStep, chain_of, steps, chain_rules, proof_rules, rules, Keeps, IsSound, system_of, tdb}
use Rattle.st_certs.specs.Verdict.{AreNamed, IsTold}
use Rattle.st_certs.specs.declared.certificate.Certificate.{Certificate}
use Rattle.st_certs.specs.declared.certificate.Constants.{Constants}
use Rattle.st_certs.specs.declared.certificate.SineChain.{SineChain}
use Rattle.st_certs.specs.declared.certificate.SineProof.{SineProof}
use Rattle.st_certs.specs.declared.why.Chain.{Chain}
use Rattle.st_certs.specs.declared.why.Chain.TheVariants as chains
use Rattle.st_certs.specs.declared.why.Why.{Why}
use Rattle.st_certs.specs.declared.why.Why.TheVariants as why
use Rattle.st_certs.proofs.Chains.{Holds, got_in}
use Rattle.st_certs.proofs.Tdbs.{ProofHolds, HasTdb, proof_shows_tdb}

one : 0 < 10 ^ 18
one = lit< tt

-- a step among the steps
step_kept : (c : Certificate) (i : ℕ) (chain : Chain) (h j : ℕ) → suc j ≤ h → AreKept (Keeps c) (steps i chain h) → Keeps c (why.Step i chain (suc j))
step_kept c i chain zero j l k = absurd (omega (arith, l))
step_kept c i chain (suc h) j l k = elim (cases_lt (suc j) (suc h)) [
  | inl before ↦ step_kept c i chain h j (omega (arith, before)) (kept_front (Keeps c) (steps i chain h) (why.Step i chain (suc h) ∷ []) k)
  | inr now ↦
      let same : h ≡ j = omega (arith, now, l) in
      subst (λ n. Keeps c (why.Step i chain (suc n))) same (kept_back (Keeps c) (steps i chain h) (why.Step i chain (suc h) ∷ []) k).0
]

-- the rules of a chain, where its proof is the k-th
chain_holds : (c : Certificate) (k : ℕ) (chain : Chain) (p : SineProof) → slice_get c.proofs k ≡ Some p → 1 ≤ length (chain_of p chain).rows
    → AreKept (Keeps c) (chain_rules (suc k) chain (chain_of p chain)) → Holds (chain_of p chain)
chain_holds c k chain p got some kept = record {
  some = some;
  base = kept.1.0.at k p refl got;
  step = λ j n r s e before here.
      let within = slice_get_within (chain_of p chain).rows (suc j) s here in
      (step_kept c (suc k) chain (length (chain_of p chain).rows - 1) j (omega (arith, within)) kept.1.1).at k p refl got n r s e before here;
}

proof_holds : (c : Certificate) (k : ℕ) (p : SineProof) → slice_get c.proofs k ≡ Some p → IsShortProof p → IsProof p
    → AreKept (Keeps c) (chain_rules (suc k) chains.M p.m) → AreKept (Keeps c) (chain_rules (suc k) chains.E p.e) → ProofHolds p
proof_holds c k p got short range m e = record {
  range = range;
  m = chain_holds c k chains.M p got short.m.some m;
  e = chain_holds c k chains.E p got short.e.some e;
}

-- the way, by the scales
abbrev WayFacts : Scale → Scale → Bool → Way → Type 0
WayFacts from to b straight = (crosses from to ≡ false) ⊎ (b ≡ false)
WayFacts from to b there = (to ≡ Tdb) × ((from ≡ Tai) ⊎ (from ≡ Tt))
WayFacts from to b back = (from ≡ Tdb) × ((to ≡ Tai) ⊎ (to ≡ Tt))

way_facts : (from to : Scale) (b : Bool) → WayFacts from to b (way_by (crosses from to && b) from)
way_facts Tai Tai b = inl refl
way_facts Tai Tt b = inl refl
way_facts Tai Tdb true = (refl, inl refl)
way_facts Tai Tdb false = inr refl
way_facts Tt Tai b = inl refl
way_facts Tt Tt b = inl refl
way_facts Tt Tdb true = (refl, inr refl)
way_facts Tt Tdb false = inr refl
way_facts Tdb Tai true = (refl, inl refl)
way_facts Tdb Tai false = inr refl
way_facts Tdb Tt true = (refl, inr refl)
way_facts Tdb Tt false = inr refl
way_facts Tdb Tdb b = inl refl

none_of : (z : ℤ) → not (unsigned_abs z == 0) ≡ false → z ≡ pos 0
none_of z h = let n : unsigned_abs z ≡ 0 = go (unsigned_abs z) h in omega (arith, ints, n)
  where
    go : (n : ℕ) → not (n == 0) ≡ false → n ≡ 0
    go n h = grind (arith, nat_tests)

-- no sine on the way
shift_is : (k : Constants) (d : Deltet) (from to : Scale) → d.delta_ta ≡ k.delta_ta → shift d from to ≡ ahead k to -ℤ ahead k from
shift_is k d Tai Tai e = omega (arith, ints)
shift_is k d Tai Tt e = omega (arith, ints, e)
shift_is k d Tai Tdb e = omega (arith, ints, e)
shift_is k d Tt Tai e = omega (arith, ints, e)
shift_is k d Tt Tt e = omega (arith, ints, e)
shift_is k d Tt Tdb e = omega (arith, ints, e)
shift_is k d Tdb Tai e = omega (arith, ints, e)
shift_is k d Tdb Tt e = omega (arith, ints, e)
shift_is k d Tdb Tdb e = omega (arith, ints, e)

pub straight_value : (d : Deltet) (from to : Scale) (s z : ℤ) → HasNoSineOnIt d from to → z ≡ s +ℤ shift d from to → HasValue d from to z z (units s)
straight_value d from to s z none e =
    let x = route_exact d from to (units s) (units_are s) none in
    let v = units s +ᶠ units (shift d from to) in
    let pv : IsFraction v = record { positive = mul-pos one one } in
    let below : units z ≤ᶠ v = raised (lit< tt) (of_units z) (plus (of_units s) (of_units (shift d from to))) (le_same z _ e) in
    let above : v ≤ᶠ units z = raised (lit< tt) (plus (of_units s) (of_units (shift d from to))) (of_units z) (le_same _ z (sym e)) in
    record {
      at_least = (route_loosens d from to (units s) (units z) v (units_are s) (units_are z) pv below).0 x.0;
      at_most = (route_loosens d from to (units s) v (units z) (units_are s) pv (units_are z) above).1 x.1;
    }
  where
    le_same : (a b : ℤ) → a ≡ b → a ≤ℤ b
    le_same a b e = omega (arith, ints, e)

-- there
pub there_value : (k : Constants) (d : Deltet) (from to : Scale) (s t : ℤ) (a : Interval) → d.delta_ta ≡ k.delta_ta → to ≡ Tdb → (from ≡ Tai) ⊎ (from ≡ Tt)
    → t ≡ s +ℤ (k.delta_ta -ℤ ahead k from) → HasTdb d t a → HasValue d from to a.lo a.hi (units s)
there_value k d from to s t a n e (inl f) at h =
    let Q : Scale → Type 0 = λ x. t ≡ s +ℤ (k.delta_ta -ℤ ahead k x) in
    let P : Scale → Type 0 = λ x. HasValue d x Tdb a.lo a.hi (units s) in
    let v = units s +ᶠ units d.delta_ta in
    let pv : IsFraction v = record { positive = mul-pos one one } in
    let i : t ≡ s +ℤ d.delta_ta = go t s k.delta_ta d.delta_ta n (subst Q f at) in
    let below : units t ≤ᶠ v = raised (lit< tt) (of_units t) (plus (of_units s) (of_units d.delta_ta)) (le_same t _ i) in
    let above : v ≤ᶠ units t = raised (lit< tt) (plus (of_units s) (of_units d.delta_ta)) (of_units t) (le_same _ t (sym i)) in
    let value : HasValue d Tai Tdb a.lo a.hi (units s) = record {
      at_least = tdb_rises_low d (units t) v (units a.lo) (units_are t) pv (units_are a.lo) below h.at_least;
      at_most = tdb_rises_high d v (units t) (units a.hi) pv (units_are t) (units_are a.hi) above h.at_most;
    } in
    subst (λ x. HasValue d from x a.lo a.hi (units s)) (sym e) (subst P (sym f) value)
  where
    le_same : (a b : ℤ) → a ≡ b → a ≤ℤ b
    le_same a b e = omega (arith, ints, e)

    go : (t s x y : ℤ) → y ≡ x → t ≡ s +ℤ (x -ℤ pos 0) → t ≡ s +ℤ y
    go t s x y n e = omega (arith, ints, n, e)
there_value k d from to s t a n e (inr f) at h =
    let Q : Scale → Type 0 = λ x. t ≡ s +ℤ (k.delta_ta -ℤ ahead k x) in
    let P : Scale → Type 0 = λ x. HasValue d x Tdb a.lo a.hi (units s) in
    let i : t ≡ s = go t s k.delta_ta (subst Q f at) in
    let value : HasValue d Tt Tdb a.lo a.hi (units s) = record {
      at_least = subst (λ z. TdbIsAtLeast d (units z) (units a.lo)) i h.at_least;
      at_most = subst (λ z. TdbIsAtMost d (units z) (units a.hi)) i h.at_most;
    } in
    subst (λ x. HasValue d from x a.lo a.hi (units s)) (sym e) (subst P (sym f) value)
  where
    go : (t s x : ℤ) → t ≡ s +ℤ (x -ℤ x) → t ≡ s
    go t s x e = omega (arith, ints, e)

-- and back
pub back_value : (k : Constants) (d : Deltet) (from to : Scale) (s t u : ℤ) (a b : Interval) → d.delta_ta ≡ k.delta_ta → from ≡ Tdb → (to ≡ Tai) ⊎ (to ≡ Tt)
    → HasTdb d t a → HasTdb d u b → a.hi ≤ℤ s → s ≤ℤ b.lo
    → HasValue d from to (t -ℤ (k.delta_ta -ℤ ahead k to)) (u -ℤ (k.delta_ta -ℤ ahead k to)) (units s)
back_value k d from to s t u a b n e which h g low high =
    let at_most : TdbIsAtMost d (units t) (units s) = tdb_loosens_high d (units t) (units a.hi) (units s) (units_are a.hi) (units_rise a.hi s low) h.at_most in
    let at_least : TdbIsAtLeast d (units u) (units s) = tdb_loosens_low d (units u) (units s) (units b.lo) (units_are b.lo) (units_rise s b.lo high) g.at_least in
    subst (λ x. HasValue d x to (t -ℤ (k.delta_ta -ℤ ahead k to)) (u -ℤ (k.delta_ta -ℤ ahead k to)) (units s)) (sym e) (go to which at_most at_least)
  where
    same : (t x : ℤ) → t ≡ t -ℤ (x -ℤ x)
    same t x = omega (arith, ints)

    less : (t x y : ℤ) → y ≡ x → t -ℤ (x -ℤ pos 0) ≡ t -ℤ y
    less t x y n = omega (arith, ints, n)

    go : (to : Scale) → (to ≡ Tai) ⊎ (to ≡ Tt) → TdbIsAtMost d (units t) (units s) → TdbIsAtLeast d (units u) (units s)
        → HasValue d Tdb to (t -ℤ (k.delta_ta -ℤ ahead k to)) (u -ℤ (k.delta_ta -ℤ ahead k to)) (units s)
    go to (inl f) m l =
        let P : Scale → Type 0 = λ x. HasValue d Tdb x (t -ℤ (k.delta_ta -ℤ ahead k x)) (u -ℤ (k.delta_ta -ℤ ahead k x)) (units s) in
        subst P (sym f) (record {
          at_least = shifted_back_low d (t -ℤ (k.delta_ta -ℤ pos 0)) t d.delta_ta (units s) (units_are s) (less t k.delta_ta d.delta_ta n) m;
          at_most = shifted_back_high d (u -ℤ (k.delta_ta -ℤ pos 0)) u d.delta_ta (units s) (units_are s) (less u k.delta_ta d.delta_ta n) l;
        })
    go to (inr f) m l =
        let P : Scale → Type 0 = λ x. HasValue d Tdb x (t -ℤ (k.delta_ta -ℤ ahead k x)) (u -ℤ (k.delta_ta -ℤ ahead k x)) (units s) in
        subst P (sym f) (record {
          at_least = subst (λ z. TdbIsAtMost d (units z) (units s)) (same t k.delta_ta) m;
          at_most = subst (λ z. TdbIsAtLeast d (units z) (units s)) (same u k.delta_ta) l;
        })

-- the ends of a sound certificate
by_way : (c : Certificate) (d : Deltet) (way : Way) (ps : List SineProof) → AreNamed c.constants d → IsWithin c → All IsShortProof c.proofs
    → way_of c ≡ way → c.proofs ≡ ps → IsOfWay c way ps → IsBracketed c way ps → AreKept (Keeps c) (proof_rules 1 ps)
    → HasValue d c.from c.to (ends_by c way ps).lo (ends_by c way ps).hi (units c.source)
by_way c d straight [] n range short w e of b kept =
    let facts = subst (λ x. WayFacts c.from c.to (not (unsigned_abs c.constants.k == 0)) x) w (way_facts c.from c.to (not (unsigned_abs c.constants.k == 0))) in
    let none : HasNoSineOnIt d c.from c.to = elim facts [ inl f ↦ inl f | inr f ↦ inr (n.k_same ∙ none_of c.constants.k f) ] in
    straight_value d c.from c.to c.source (moved c) none (ap (λ z. c.source +ℤ z) (sym (shift_is c.constants d c.from c.to n.delta_ta)))
by_way c d straight (p ∷ ps) n range short w e of b kept = absurd of
by_way c d there [] n range short w e of b kept = absurd of
by_way c d there (p ∷ []) n range short w e of b kept =
    let facts = subst (λ x. WayFacts c.from c.to (not (unsigned_abs c.constants.k == 0)) x) w (way_facts c.from c.to (not (unsigned_abs c.constants.k == 0))) in
    let got : slice_get c.proofs 0 ≡ Some p = ap (λ xs. slice_get xs 0) e in
    let holds = proof_holds c 0 p got (got_in IsShortProof c.proofs 0 p short got) (got_in IsProof c.proofs 0 p range.proofs got) (kept_front (Keeps c) (chain_rules 1 chains.M p.m) _ kept)
    (kept_front (Keeps c) (chain_rules 1 chains.E p.e) [] (kept_back (Keeps c) (chain_rules 1 chains.M p.m) _ kept)) in
    there_value c.constants d c.from c.to c.source p.t (tdb c.constants p) n.delta_ta facts.0 facts.1 of (proof_shows_tdb c.constants d p range.constants n holds)
by_way c d there (p ∷ q ∷ ps) n range short w e of b kept = absurd of
by_way c d back [] n range short w e of b kept = absurd of
by_way c d back (p ∷ []) n range short w e of b kept = absurd of
by_way c d back (p ∷ q ∷ []) n range short w e of b kept =
    let facts = subst (λ x. WayFacts c.from c.to (not (unsigned_abs c.constants.k == 0)) x) w (way_facts c.from c.to (not (unsigned_abs c.constants.k == 0))) in
    let first : slice_get c.proofs 0 ≡ Some p = ap (λ xs. slice_get xs 0) e in
    let second : slice_get c.proofs 1 ≡ Some q = ap (λ xs. slice_get xs 1) e in
    let more = kept_back (Keeps c) (chain_rules 1 chains.M p.m) (chain_rules 1 chains.E p.e ++ proof_rules 2 (q ∷ [])) kept in
    let last = kept_back (Keeps c) (chain_rules 1 chains.E p.e) (proof_rules 2 (q ∷ [])) more in
    let one = proof_holds c 0 p first (got_in IsShortProof c.proofs 0 p short first) (got_in IsProof c.proofs 0 p range.proofs first)
    (kept_front (Keeps c) (chain_rules 1 chains.M p.m) (chain_rules 1 chains.E p.e ++ proof_rules 2 (q ∷ [])) kept)
    (kept_front (Keeps c) (chain_rules 1 chains.E p.e) (proof_rules 2 (q ∷ [])) more) in
    let two = proof_holds c 1 q second (got_in IsShortProof c.proofs 1 q short second) (got_in IsProof c.proofs 1 q range.proofs second)
    (kept_front (Keeps c) (chain_rules 2 chains.M q.m) (chain_rules 2 chains.E q.e ++ []) last)
    (kept_front (Keeps c) (chain_rules 2 chains.E q.e) [] (kept_back (Keeps c) (chain_rules 2 chains.M q.m) (chain_rules 2 chains.E q.e ++ []) last)) in
    back_value c.constants d c.from c.to c.source p.t q.t (tdb c.constants p) (tdb c.constants q) n.delta_ta facts.0 facts.1
    (proof_shows_tdb c.constants d p range.constants n one) (proof_shows_tdb c.constants d q range.constants n two) b.0 b.1
by_way c d back (p ∷ q ∷ r ∷ ps) n range short w e of b kept = absurd of

pub ends_have_value : (c : Certificate) (d : Deltet) → IsCertificate c → AreNamed c.constants d → IsSound c → HasValue d c.from c.to (ends c).lo (ends c).hi (units c.source)
ends_have_value c d is n sound =
    let rest = sound.1.1 in
    let front = proof_rules 1 c.proofs in
    let tail = why.Bracket ∷ why.Picture ∷ why.Cells ∷ why.Text ∷ [] in
    by_way c d (way_of c) c.proofs n sound.0 is.proofs refl refl sound.1.0 (kept_back (Keeps c) front tail rest).0 (kept_front (Keeps c) front tail rest)

-- constants in range are those of a kernel
pub constants_are : (k : Constants) → AreConstants k → (d : Deltet) × AreNamed k d
constants_are k h = (
  record {
    delta_ta = k.delta_ta;
    k = k.k;
    orbit = record { eb = k.eb; m0 = k.m0; m1 = k.m1; eb_low = h.eb.0; eb_high = h.eb.1; m0_low = h.m0.0; m0_high = h.m0.1; m1_low = h.m1.0; m1_high = h.m1.1 };
    delta_low = h.delta_ta.0;
    delta_high = h.delta_ta.1;
    k_low = h.k_small.0;
    k_high = h.k_small.1;
  },
  record { delta_ta = refl; k_same = refl; eb = refl; m0 = refl; m1 = refl },
)

pub sound_is_told : (c : Certificate) → IsCertificate c → IsSound c → IsTold c c.text
sound_is_told c is sound =
    let named = constants_are c.constants sound.0.constants in
    let value = ends_have_value c named.0 is named.1 sound in
    let tail = kept_back (Keeps c) (proof_rules 1 c.proofs) (why.Bracket ∷ why.Picture ∷ why.Cells ∷ why.Text ∷ []) sound.1.1 in
    let reads = tail.1.0 in
    let cells = tail.1.1.0 reads.0 reads.1 in
    let text = tail.1.1.1.0 reads.0 reads.1 cells.0 cells.1 in
    record {
      constants = named.0;
      named = named.1;
      picture = reads.0;
      reads = reads.1;
      prints = (
        in_cell cells.0,
        record {
          low = units (ends c).lo;
          high = units (ends c).hi;
          low_is = units_are (ends c).lo;
          high_is = units_are (ends c).hi;
          at_least = value.at_least;
          at_most = value.at_most;
          low_has = cells.1;
          high_has = cells.2;
        },
        text,
      );
    }
