-- The table of leap seconds and the constants of numbers, or their first fault, are one.
use Rattle.std.proofs.Common.{◌≡◌, ◌≢◌, ℕ, zero, suc, ◌+◌, ◌*◌, ◌<◌, inl, inr, List, Result, Ok, Err, refl, sym, ◌∙◌, ap, subst, arith}
use Rattle.st_decimal.specs.declared.number.Dec.{Dec}
use Rattle.std.proofs.lemmas.Bool.{cases_lt}
use Rattle.st_leaps.specs.Faults.{IsFirstFault, Gives, place_of}
use Rattle.st_leaps.specs.declared.fault.LeapFault.{LeapFault}
use Rattle.st_leaps.specs.declared.fault.LeapFault.TheVariants.{Empty, Odd, TooMany, NotWhole, NotMidnight, NotRising, BadStep, OutOfMemory}
use Rattle.st_leaps.specs.declared.pair.LeapPair.{LeapPair}
use Rattle.st_leaps.proofs.AnswerLaws as answers
use Rattle.st_scales.proofs.OneAnswer as constants
use Rattle.st_scales.specs.Constants.{GiveConstants}
use Rattle.st_scales.specs.declared.deltet.Deltet.{Deltet as Constants}
use Rattle.st_scales.specs.declared.fault.DeltetFault.{DeltetFault}
use Rattle.std.specs.Result.{IsErrAnd, IfErr}
use Rattle.st_tables.specs.Tables.{LeapsMade, ConstantsMade}
use Rattle.st_tables.specs.TablesMachine.{fault_of_leaps}
use Rattle.st_tables.specs.declared.fault.TableFault.{TableFault}
use Rattle.st_tables.specs.declared.fault.TableFault.TheVariants.{NoVariable, WrongKind, Leaps, Deltet, Clock, OutOfMemory as NoMemory}

-- a rule of a table is told by its place
build : ℕ → ℕ → LeapFault
build zero zero = Empty
build zero (suc zero) = Odd
build zero (suc (suc zero)) = TooMany
build zero (suc (suc (suc k))) = OutOfMemory
build (suc n) zero = NotWhole n
build (suc n) (suc zero) = NotMidnight n
build (suc n) (suc (suc zero)) = NotRising n
build (suc n) (suc (suc (suc k))) = BadStep n

record IsBuilt (fault : LeapFault) : Type 0 where
  block : ℕ
  rule : ℕ
  below : rule < 4
  place : place_of fault ≡ 4 * block + rule
  is : build block rule ≡ fault

built : (fault : LeapFault) → IsBuilt fault
unfolding build
built Empty = record { block = 0; rule = 0; below = omega arith; place = refl; is = refl }
built Odd = record { block = 0; rule = 1; below = omega arith; place = refl; is = refl }
built TooMany = record { block = 0; rule = 2; below = omega arith; place = refl; is = refl }
built OutOfMemory = record { block = 0; rule = 3; below = omega arith; place = refl; is = refl }
built (NotWhole n) = record { block = suc n; rule = 0; below = omega arith; place = omega arith; is = refl }
built (NotMidnight n) = record { block = suc n; rule = 1; below = omega arith; place = omega arith; is = refl }
built (NotRising n) = record { block = suc n; rule = 2; below = omega arith; place = omega arith; is = refl }
built (BadStep n) = record { block = suc n; rule = 3; below = omega arith; place = omega arith; is = refl }

one_place : (f g : LeapFault) → place_of f ≡ place_of g → f ≡ g
one_place f g e =
    let b = built f in
    let c = built g in
    let at = b.place in
    let there = c.place in
    let low = b.below in
    let high = c.below in
    let block : b.block ≡ c.block = omega arith in
    let rule : b.rule ≡ c.rule = omega arith in
    sym b.is ∙ (λ i. build (block i) (rule i)) ∙ c.is

one_first : (numbers : List Dec) (f g : LeapFault) → IsFirstFault numbers f → IsFirstFault numbers g → f ≡ g
one_first numbers f g h k =
    elim (cases_lt (place_of f) (place_of g)) [
      | inl less ↦ absurd (k.first f less h.breaks)
      | inr more ↦ elim (cases_lt (place_of g) (place_of f)) [
        | inl less ↦ absurd (h.first g less k.breaks)
        | inr same ↦ one_place f g (omega arith)
      ]
    ]

same_ok : {A E : Type 0} (a b : A) → ◌≡◌ {A = Result A E} (Ok a) (Ok b) → a ≡ b
same_ok a b e = cc

same_err : {A E : Type 0} (a b : E) → ◌≡◌ {A = Result A E} (Err a) (Err b) → a ≡ b
same_err a b e = cc

not_err : {A E : Type 0} (a : A) (e : E) → ◌≡◌ {A = Result A E} (Ok a) (Err e) → ⊥
not_err a e h = absurd cc

one_table : (numbers : List Dec) (p q : List LeapPair) → Gives numbers (Ok p) → Gives numbers (Ok q) → p ≡ q
one_table numbers p q h k = same_ok p q (answers.one_answer numbers (Ok p) (Ok q) h k)

no_fault : (numbers : List Dec) (p : List LeapPair) (f : LeapFault) → Gives numbers (Ok p) → IsFirstFault numbers f → ⊥
no_fault numbers p Empty h k = absurd (not_err p Empty (answers.one_answer numbers (Ok p) (Err Empty) h k))
no_fault numbers p Odd h k = absurd (not_err p Odd (answers.one_answer numbers (Ok p) (Err Odd) h k))
no_fault numbers p TooMany h k = absurd (not_err p TooMany (answers.one_answer numbers (Ok p) (Err TooMany) h k))
no_fault numbers p (NotWhole n) h k = absurd (not_err p (NotWhole n) (answers.one_answer numbers (Ok p) (Err (NotWhole n)) h k))
no_fault numbers p (NotMidnight n) h k = absurd (not_err p (NotMidnight n) (answers.one_answer numbers (Ok p) (Err (NotMidnight n)) h k))
no_fault numbers p (NotRising n) h k = absurd (not_err p (NotRising n) (answers.one_answer numbers (Ok p) (Err (NotRising n)) h k))
no_fault numbers p (BadStep n) h k = absurd (not_err p (BadStep n) (answers.one_answer numbers (Ok p) (Err (BadStep n)) h k))
no_fault numbers p OutOfMemory h k = k.breaks

-- a fault is carried on, want of memory alone not
pub leaps_carried : (numbers : List Dec) (fault : LeapFault) → Gives numbers (Err fault) → fault_of_leaps fault ≢ NoMemory
    → LeapsMade numbers (Err (fault_of_leaps fault))
leaps_carried numbers OutOfMemory h other = absurd (other refl)
leaps_carried numbers Empty h other = h
leaps_carried numbers Odd h other = h
leaps_carried numbers TooMany h other = h
leaps_carried numbers (NotWhole n) h other = h
leaps_carried numbers (NotMidnight n) h other = h
leaps_carried numbers (NotRising n) h other = h
leaps_carried numbers (BadStep n) h other = h

pub leaps_are_one : (numbers : List Dec) (a b : Result (List LeapPair) TableFault) → LeapsMade numbers a → LeapsMade numbers b → a ≡ b
leaps_are_one numbers (Ok p) (Ok q) h k = ap (λ (x : List LeapPair). Ok x) (one_table numbers p q h k)
leaps_are_one numbers (Ok p) (Err (Leaps f)) h k = absurd (no_fault numbers p f h k)
leaps_are_one numbers (Ok p) (Err (NoVariable v)) h k = absurd k
leaps_are_one numbers (Ok p) (Err (WrongKind v)) h k = absurd k
leaps_are_one numbers (Ok p) (Err (Deltet f)) h k = absurd k
leaps_are_one numbers (Ok p) (Err (Clock f)) h k = absurd k
leaps_are_one numbers (Ok p) (Err NoMemory) h k = absurd k
leaps_are_one numbers (Err (Leaps f)) (Ok q) h k = absurd (no_fault numbers q f k h)
leaps_are_one numbers (Err (Leaps f)) (Err (Leaps g)) h k = ap (λ (x : LeapFault). Err (Leaps x)) (one_first numbers f g h k)
leaps_are_one numbers (Err (Leaps f)) (Err (NoVariable v)) h k = absurd k
leaps_are_one numbers (Err (Leaps f)) (Err (WrongKind v)) h k = absurd k
leaps_are_one numbers (Err (Leaps f)) (Err (Deltet g)) h k = absurd k
leaps_are_one numbers (Err (Leaps f)) (Err (Clock g)) h k = absurd k
leaps_are_one numbers (Err (Leaps f)) (Err NoMemory) h k = absurd k
leaps_are_one numbers (Err (NoVariable v)) b h k = absurd h
leaps_are_one numbers (Err (WrongKind v)) b h k = absurd h
leaps_are_one numbers (Err (Deltet f)) b h k = absurd h
leaps_are_one numbers (Err (Clock f)) b h k = absurd h
leaps_are_one numbers (Err NoMemory) b h k = absurd h

module _ (delta_ta k eb m : List Dec) where
  one_constants : (a b : Result Constants DeltetFault) → GiveConstants delta_ta k eb m a → GiveConstants delta_ta k eb m b → a ≡ b
  one_constants a b g h = constants.one_answer delta_ta k eb m a b g h

  pub constants_are_one : (a b : Result Constants TableFault) → ConstantsMade delta_ta k eb m a → ConstantsMade delta_ta k eb m b → a ≡ b
  constants_are_one (Ok c) (Ok d) g h = ap (λ (x : Constants). Ok x) (same_ok c d (one_constants (Ok c) (Ok d) g h))
  constants_are_one (Ok c) (Err (Deltet f)) g h = absurd (not_err c f (one_constants (Ok c) (Err f) g h))
  constants_are_one (Ok c) (Err (NoVariable v)) g h = absurd h
  constants_are_one (Ok c) (Err (WrongKind v)) g h = absurd h
  constants_are_one (Ok c) (Err (Leaps f)) g h = absurd h
  constants_are_one (Ok c) (Err (Clock f)) g h = absurd h
  constants_are_one (Ok c) (Err NoMemory) g h = absurd h
  constants_are_one (Err (Deltet f)) (Ok d) g h = absurd (not_err d f (one_constants (Ok d) (Err f) h g))
  constants_are_one (Err (Deltet f)) (Err (Deltet e)) g h = ap (λ (x : DeltetFault). Err (Deltet x)) (same_err f e (one_constants (Err f) (Err e) g h))
  constants_are_one (Err (Deltet f)) (Err (NoVariable v)) g h = absurd h
  constants_are_one (Err (Deltet f)) (Err (WrongKind v)) g h = absurd h
  constants_are_one (Err (Deltet f)) (Err (Leaps e)) g h = absurd h
  constants_are_one (Err (Deltet f)) (Err (Clock e)) g h = absurd h
  constants_are_one (Err (Deltet f)) (Err NoMemory) g h = absurd h
  constants_are_one (Err (NoVariable v)) b g h = absurd g
  constants_are_one (Err (WrongKind v)) b g h = absurd g
  constants_are_one (Err (Leaps f)) b g h = absurd g
  constants_are_one (Err (Clock f)) b g h = absurd g
  constants_are_one (Err NoMemory) b g h = absurd g

-- an exit carries a fault of the constants on
pub carried : {B : Type 0} (delta_ta k eb m : List Dec) (r : Result B TableFault) (fault : DeltetFault) → IsErrAnd r (λ x. x ≡ Deltet fault)
    → GiveConstants delta_ta k eb m (Err fault) → IfErr r (λ f. f ≢ NoMemory → ConstantsMade delta_ta k eb m (Err f))
carried delta_ta k eb m (Ok x) fault h g = tt
carried delta_ta k eb m (Err f) fault h g = λ other. subst (λ (y : TableFault). ConstantsMade delta_ta k eb m (Err y)) (sym h) g
