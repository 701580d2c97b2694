-- The tables of a job are given or refused, never both; there is one refusal, and the tables are one, the table of leap seconds
-- by its pairs.
use Rattle.std.proofs.Common.{◌≡◌, ◌≢◌, ℕ, inl, inr, Bool, true, false, Option, Some, None, option_map, Result, Ok, Err, List, refl, sym, ap, ◌∙◌, subst}
use Rattle.st_clock.specs.Clock.{Clock as TheClock}
use Rattle.st_leaps.specs.OfTable.{pairs_of}
use Rattle.st_leaps.specs.declared.pair.LeapPair.{LeapPair}
use Rattle.st_leaps.specs.declared.table.LeapTable.{LeapTable}
use Rattle.st_scales.specs.declared.deltet.Deltet.{Deltet as TheConstants}
use Rattle.st_tables.specs.Tables.{Agree, ClockGives, ConstantsGive, LeapsGive}
use Rattle.st_tables.specs.Variables.{Loaded}
use Rattle.st_tables.specs.declared.fault.TableFault.{TableFault}
use Rattle.st_tables.specs.declared.fault.TableFault.TheVariants.{NoVariable, WrongKind, Leaps, Deltet, Clock, OutOfMemory}
use Rattle.st_tables.proofs.ThreeLaws.{clock_one, constants_one, leaps_one}
use Rattle.st_words.specs.declared.job.Job.{Job}
use Rattle.st_answers.specs.Asked.{AreTables, ClockOf, ConstantsOf, FirstRefusal, GivesWhere, LeapsOf, Tables, TablesRefuse, in_pairs}
use Rattle.st_answers.specs.Sides.{has_clock, has_utc, needs_constants}
use Rattle.st_answers.proofs.Found.{agree-err, ok-is, some-is}

err-is : {A : Type 0} (f g : TableFault) → ◌≡◌ {A = Result A TableFault} (Err f) (Err g) → f ≡ g
err-is f g e = cc

err-ok : {A : Type 0} (f : TableFault) (x : A) → ◌≡◌ {A = Result A TableFault} (Err f) (Ok x) → ⊥
err-ok f x e = absurd cc

agree-errs : (A : Type 0) (f g : TableFault) → f ≢ OutOfMemory → g ≢ OutOfMemory → Agree {A = A} (Err f) (Err g) → f ≡ g
agree-errs A OutOfMemory g nf ng h = absurd (nf refl)
agree-errs A (NoVariable a) OutOfMemory nf ng h = absurd (ng refl)
agree-errs A (NoVariable a) (NoVariable b) nf ng h = err-is (NoVariable a) (NoVariable b) h
agree-errs A (NoVariable a) (WrongKind b) nf ng h = err-is (NoVariable a) (WrongKind b) h
agree-errs A (NoVariable a) (Leaps b) nf ng h = err-is (NoVariable a) (Leaps b) h
agree-errs A (NoVariable a) (Deltet b) nf ng h = err-is (NoVariable a) (Deltet b) h
agree-errs A (NoVariable a) (Clock b) nf ng h = err-is (NoVariable a) (Clock b) h
agree-errs A (WrongKind a) OutOfMemory nf ng h = absurd (ng refl)
agree-errs A (WrongKind a) (NoVariable b) nf ng h = err-is (WrongKind a) (NoVariable b) h
agree-errs A (WrongKind a) (WrongKind b) nf ng h = err-is (WrongKind a) (WrongKind b) h
agree-errs A (WrongKind a) (Leaps b) nf ng h = err-is (WrongKind a) (Leaps b) h
agree-errs A (WrongKind a) (Deltet b) nf ng h = err-is (WrongKind a) (Deltet b) h
agree-errs A (WrongKind a) (Clock b) nf ng h = err-is (WrongKind a) (Clock b) h
agree-errs A (Leaps a) OutOfMemory nf ng h = absurd (ng refl)
agree-errs A (Leaps a) (NoVariable b) nf ng h = err-is (Leaps a) (NoVariable b) h
agree-errs A (Leaps a) (WrongKind b) nf ng h = err-is (Leaps a) (WrongKind b) h
agree-errs A (Leaps a) (Leaps b) nf ng h = err-is (Leaps a) (Leaps b) h
agree-errs A (Leaps a) (Deltet b) nf ng h = err-is (Leaps a) (Deltet b) h
agree-errs A (Leaps a) (Clock b) nf ng h = err-is (Leaps a) (Clock b) h
agree-errs A (Deltet a) OutOfMemory nf ng h = absurd (ng refl)
agree-errs A (Deltet a) (NoVariable b) nf ng h = err-is (Deltet a) (NoVariable b) h
agree-errs A (Deltet a) (WrongKind b) nf ng h = err-is (Deltet a) (WrongKind b) h
agree-errs A (Deltet a) (Leaps b) nf ng h = err-is (Deltet a) (Leaps b) h
agree-errs A (Deltet a) (Deltet b) nf ng h = err-is (Deltet a) (Deltet b) h
agree-errs A (Deltet a) (Clock b) nf ng h = err-is (Deltet a) (Clock b) h
agree-errs A (Clock a) OutOfMemory nf ng h = absurd (ng refl)
agree-errs A (Clock a) (NoVariable b) nf ng h = err-is (Clock a) (NoVariable b) h
agree-errs A (Clock a) (WrongKind b) nf ng h = err-is (Clock a) (WrongKind b) h
agree-errs A (Clock a) (Leaps b) nf ng h = err-is (Clock a) (Leaps b) h
agree-errs A (Clock a) (Deltet b) nf ng h = err-is (Clock a) (Deltet b) h
agree-errs A (Clock a) (Clock b) nf ng h = err-is (Clock a) (Clock b) h

-- of a table that is asked for or not
clash : {T : Type 0} (b : Bool) (P : Result T TableFault → Type 0) (f : TableFault) (o : Option T) → ((y : T) → P (Err f) → P (Ok y) → ⊥)
    → GivesWhere b P (Err f) → GivesWhere b P (Ok o) → ⊥
clash false P f o not h k = err-ok f None h
clash true P f None not h k = k
clash true P f (Some y) not h k = not y h k

one-fault : {T : Type 0} (b : Bool) (P : Result T TableFault → Type 0) (f g : TableFault) → (P (Err f) → P (Err g) → f ≡ g)
    → GivesWhere b P (Err f) → GivesWhere b P (Err g) → f ≡ g
one-fault false P f g one h k = absurd (err-ok f None h)
one-fault true P f g one h k = one h k

one-given : {T : Type 0} (b : Bool) (P : Result T TableFault → Type 0) (o p : Option T) → ((x y : T) → P (Ok x) → P (Ok y) → x ≡ y)
    → GivesWhere b P (Ok o) → GivesWhere b P (Ok p) → o ≡ p
one-given false P o p one h k = ok-is o None h ∙ sym (ok-is p None k)
one-given true P None p one h k = absurd h
one-given true P (Some x) None one h k = absurd k
one-given true P (Some x) (Some y) one h k = ap Some (one x y h k)

one-viewed : {T B : Type 0} (b : Bool) (P : Result T TableFault → Type 0) (view : T → B) (o p : Option T) → ((x y : T) → P (Ok x) → P (Ok y) → view x ≡ view y)
    → GivesWhere b P (Ok o) → GivesWhere b P (Ok p) → option_map view o ≡ option_map view p
one-viewed false P view o p one h k = ap (option_map view) (ok-is o None h ∙ sym (ok-is p None k))
one-viewed true P view None p one h k = absurd h
one-viewed true P view (Some x) None one h k = absurd k
one-viewed true P view (Some x) (Some y) one h k = ap Some (one x y h k)

-- the clock of the job's id
abbrev OfId : Job → Loaded → Result TheClock TableFault → Type 0
OfId job loaded r = (n : ℕ) × (job.clock ≡ Some n) × ClockGives n loaded r

same-id : (job : Job) (loaded : Loaded) (a b : Result TheClock TableFault) → OfId job loaded a → OfId job loaded b → Agree a b
same-id job loaded a b (n, is, given) (m, also, other) =
    let P : ℕ → Type 0 = λ k. ClockGives k loaded b in
    clock_one n loaded a b given (subst P (some-is m n (sym also ∙ is)) other)

module _ (job : Job) (loaded : Loaded) where
  leaps-clash : (f : TableFault) (o : Option LeapTable) → f ≢ OutOfMemory → LeapsOf job loaded (Err f) → LeapsOf job loaded (Ok o) → ⊥
  leaps-clash f o not =
      clash (has_utc job) (λ r. LeapsGive loaded (in_pairs r)) f o (λ y h k. agree-err f (pairs_of y) not (leaps_one loaded (Err f) (Ok (pairs_of y)) h k))

  constants-clash : (f : TableFault) (o : Option TheConstants) → f ≢ OutOfMemory → ConstantsOf job loaded (Err f) → ConstantsOf job loaded (Ok o) → ⊥
  constants-clash f o not = clash (needs_constants job) (ConstantsGive loaded) f o (λ y h k. agree-err f y not (constants_one loaded (Err f) (Ok y) h k))

  clock-clash : (f : TableFault) (o : Option TheClock) → f ≢ OutOfMemory → ClockOf job loaded (Err f) → ClockOf job loaded (Ok o) → ⊥
  clock-clash f o not = clash (has_clock job) (OfId job loaded) f o (λ y h k. agree-err f y not (same-id job loaded (Err f) (Ok y) h k))

  first-one : (f g : TableFault) → f ≢ OutOfMemory → g ≢ OutOfMemory → FirstRefusal job loaded f → FirstRefusal job loaded g → f ≡ g
  first-one f g nf ng (inl a) (inl b) =
      one-fault (has_utc job) (λ r. LeapsGive loaded (in_pairs r)) f g (λ h k. agree-errs (List LeapPair) f g nf ng (leaps_one loaded (Err f) (Err g) h k)) a b
  first-one f g nf ng (inl a) (inr (inl (o, l, c))) = absurd (leaps-clash f o nf a l)
  first-one f g nf ng (inl a) (inr (inr (o, p, l, c, k))) = absurd (leaps-clash f o nf a l)
  first-one f g nf ng (inr (inl (o, l, c))) (inl b) = absurd (leaps-clash g o ng b l)
  first-one f g nf ng (inr (inl (o, l, c))) (inr (inl (u, m, d))) =
      one-fault (needs_constants job) (ConstantsGive loaded) f g (λ h k. agree-errs TheConstants f g nf ng (constants_one loaded (Err f) (Err g) h k)) c d
  first-one f g nf ng (inr (inl (o, l, c))) (inr (inr (u, p, m, d, k))) = absurd (constants-clash f p nf c d)
  first-one f g nf ng (inr (inr (o, p, l, c, k))) (inl b) = absurd (leaps-clash g o ng b l)
  first-one f g nf ng (inr (inr (o, p, l, c, k))) (inr (inl (u, m, d))) = absurd (constants-clash g p ng d c)
  first-one f g nf ng (inr (inr (o, p, l, c, k))) (inr (inr (u, q, m, d, j))) =
      one-fault (has_clock job) (OfId job loaded) f g (λ x y. agree-errs TheClock f g nf ng (same-id job loaded (Err f) (Err g) x y)) k j

  pub one-refusal : (f g : TableFault) → TablesRefuse job loaded f → TablesRefuse job loaded g → f ≡ g
  one-refusal f g (nf, h) (ng, k) = first-one f g nf ng h k

  pub never-both : (f : TableFault) (tables : Tables) → TablesRefuse job loaded f → AreTables job loaded tables → ⊥
  never-both f tables (not, inl a) are = leaps-clash f tables.leaps not a are.leaps
  never-both f tables (not, inr (inl (o, l, c))) are = constants-clash f tables.constants not c are.constants
  never-both f tables (not, inr (inr (o, p, l, c, k))) are = clock-clash f tables.clock not k are.clock

  pub same-pairs : (t u : Tables) → AreTables job loaded t → AreTables job loaded u → option_map pairs_of t.leaps ≡ option_map pairs_of u.leaps
  same-pairs t u a b =
      one-viewed (has_utc job) (λ r. LeapsGive loaded (in_pairs r)) pairs_of t.leaps u.leaps
      (λ x y h k. ok-is (pairs_of x) (pairs_of y) (leaps_one loaded (Ok (pairs_of x)) (Ok (pairs_of y)) h k)) a.leaps b.leaps

  pub same-constants : (t u : Tables) → AreTables job loaded t → AreTables job loaded u → t.constants ≡ u.constants
  same-constants t u a b =
      one-given (needs_constants job) (ConstantsGive loaded) t.constants u.constants (λ x y h k. ok-is x y (constants_one loaded (Ok x) (Ok y) h k)) a.constants b.constants

  pub same-clock : (t u : Tables) → AreTables job loaded t → AreTables job loaded u → t.clock ≡ u.clock
  same-clock t u a b = one-given (has_clock job) (OfId job loaded) t.clock u.clock (λ x y h k. ok-is x y (same-id job loaded (Ok x) (Ok y) h k)) a.clock b.clock
