-- The rules of variables, by the kind of their values.
use Rattle.std.proofs.Common.{◌≡◌, ◌≢◌, ℕ, ◌+◌, ◌<◌, ◌⊎◌, inl, inr, refl, sym, ap, ◌∙◌, subst, arith, suc, zero, List, [], ◌∷◌, ◌++◌, length, take, drop, get_or, MatchOption, Option, Some, None}
use Rattle.std.proofs.lemmas.Grind.{flat_map-append}
use Rattle.std.proofs.lemmas.List.{take_more}
use Rattle.st_rules.proofs.First.{kept_both, kept_back, kept_front, first_at, first_after, first_in_front}
use Rattle.st_ticks.proofs.RuleLaws.{split_at}
use Rattle.st_pool.specs.Variable.{loaded_kind}
use Rattle.st_pool.specs.declared.kind.Kind.{Kind}
use Rattle.st_pool.specs.declared.kind.Kind.TheVariants.{Absent, Numbers, Texts, Mixed}
use Rattle.st_rules.specs.Rules.{AreKept, IsFirstBroken}
use Rattle.st_ticks.specs.declared.variable.ClockVar.TheVariants.{DataType, TimeSystem, NFields, Moduli, Offsets, Delim, Start, End, Coefficients}
use Rattle.st_ticks.specs.declared.variable.Var.{Var}
use Rattle.st_ticks.specs.declared.variable.Var.TheVariants.{DeltaAt, DeltaTa, K, Eb, M, Clock, LeapsecondsFile, SclkFile, SpacecraftId}
use Rattle.st_tables.specs.declared.fault.TableFault.{TableFault}
use Rattle.st_tables.specs.declared.fault.TableFault.TheVariants.{NoVariable, WrongKind}
use Rattle.st_tables.specs.Names.{var_name}
use Rattle.st_tables.specs.Variables.{Loaded, Keeps, rules_of, rules_of_all}

abbrev pub both_of : Var → List TableFault
both_of var = NoVariable var ∷ WrongKind var ∷ []

abbrev pub kind_alone : Var → List TableFault
kind_alone var = WrongKind var ∷ []

-- a variable has both rules, or that of the kind alone
pub rules_form : (var : Var) → (rules_of var ≡ both_of var) ⊎ (rules_of var ≡ kind_alone var)
rules_form DeltaAt = inl refl
rules_form DeltaTa = inl refl
rules_form K = inl refl
rules_form Eb = inl refl
rules_form M = inl refl
rules_form LeapsecondsFile = inl refl
rules_form SclkFile = inl refl
rules_form (Clock DataType n) = inl refl
rules_form (Clock TimeSystem n) = inr refl
rules_form (Clock NFields n) = inl refl
rules_form (Clock Moduli n) = inl refl
rules_form (Clock Offsets n) = inl refl
rules_form (Clock Delim n) = inl refl
rules_form (Clock Start n) = inl refl
rules_form (Clock End n) = inl refl
rules_form (Clock Coefficients n) = inl refl
rules_form other = inl refl

abbrev pub KindIs : Loaded → Var → Kind → Type 0
KindIs loaded var kind = loaded_kind (var_name var) loaded ≡ kind

other_kind : {a : Kind} (b c : Kind) → a ≡ b → b ≢ c → a ≢ c
other_kind b c e h f = h (sym e ∙ f)

-- numbers keep all rules
pub numbers_keep : (loaded : Loaded) (var : Var) → KindIs loaded var Numbers → AreKept (Keeps loaded) (rules_of var)
numbers_keep loaded var e =
    let kept : AreKept (Keeps loaded) (both_of var) =
    (other_kind Numbers Absent e (λ f. absurd cc), ((other_kind Numbers Texts e (λ f. absurd cc), other_kind Numbers Mixed e (λ f. absurd cc)), tt)) in
    elim (rules_form var) [
      | inl form ↦ subst (λ (rules : List TableFault). AreKept (Keeps loaded) rules) (sym form) kept
      | inr form ↦ subst (λ (rules : List TableFault). AreKept (Keeps loaded) rules) (sym form) kept.1
    ]

-- texts break that of the kind first
pub texts_break : (loaded : Loaded) (var : Var) → KindIs loaded var Texts ⊎ KindIs loaded var Mixed → IsFirstBroken (Keeps loaded) (rules_of var) (WrongKind var)
texts_break loaded var is =
    let broken : Keeps loaded (WrongKind var) → ⊥ = λ k. elim is [ inl e ↦ k.0 e | inr e ↦ k.1 e ] in
    let there : Keeps loaded (NoVariable var) = elim is [
      | inl e ↦ other_kind Texts Absent e (λ f. absurd cc)
      | inr e ↦ other_kind Mixed Absent e (λ f. absurd cc)
    ] in
    elim (rules_form var) [
      | inl form ↦ subst (λ (rules : List TableFault). IsFirstBroken (Keeps loaded) rules (WrongKind var)) (sym form)
          (first_at (Keeps loaded) (NoVariable var ∷ []) [] (WrongKind var) (there, tt) broken)
      | inr form ↦ subst (λ (rules : List TableFault). IsFirstBroken (Keeps loaded) rules (WrongKind var)) (sym form)
          (first_at (Keeps loaded) [] [] (WrongKind var) tt broken)
    ]

abbrev pub Absence : Var → Option TableFault → Type 0
Absence var found =
    MatchOption found (rules_of var ≡ kind_alone var) (λ fault. (rules_of var ≡ both_of var) × (fault ≡ NoVariable var))

-- an absent variable breaks the first of both rules
pub absence_says : (loaded : Loaded) (var : Var) (found : Option TableFault) → KindIs loaded var Absent → Absence var found
    → MatchOption found (AreKept (Keeps loaded) (rules_of var)) (IsFirstBroken (Keeps loaded) (rules_of var))
absence_says loaded var None e form =
    subst (λ (rules : List TableFault). AreKept (Keeps loaded) rules) (sym form) ((other_kind Absent Texts e (λ f. absurd cc), other_kind Absent Mixed e (λ f. absurd cc)), tt)
absence_says loaded var (Some fault) e h =
    subst (λ (f : TableFault). IsFirstBroken (Keeps loaded) (rules_of var) f) (sym h.1)
    (subst (λ (rules : List TableFault). IsFirstBroken (Keeps loaded) rules (NoVariable var)) (sym h.0)
    (first_at (Keeps loaded) [] (WrongKind var ∷ []) (NoVariable var) tt (λ k. k e)))

-- the rule of the kind is one of each variable's
pub kind_kept : (loaded : Loaded) (var : Var) → AreKept (Keeps loaded) (rules_of var) → Keeps loaded (WrongKind var)
kind_kept loaded var h = elim (rules_form var) [
  | inl form ↦ (subst (λ (rules : List TableFault). AreKept (Keeps loaded) rules) form h).1.0
  | inr form ↦ (subst (λ (rules : List TableFault). AreKept (Keeps loaded) rules) form h).0
]

-- the kind that the pool answers
pub kind_is : (loaded : Loaded) (var : Var) (name : List ℕ) (found kind : Kind) → found ≡ loaded_kind name loaded → name ≡ var_name var → found ≡ kind
    → KindIs loaded var kind
kind_is loaded var name found kind e n is = sym (e ∙ ap (λ (m : List ℕ). loaded_kind m loaded) n) ∙ is

-- the rules of some variables and of one more
rules_more : (xs ys : List Var) → rules_of_all (xs ++ ys) ≡ rules_of_all xs ++ rules_of_all ys
rules_more xs ys = flat_map-append rules_of xs ys

pub one_kept : (loaded : Loaded) (vars : List Var) (i : ℕ) (d : Var) → i < length vars → AreKept (Keeps loaded) (rules_of_all (take i vars))
    → AreKept (Keeps loaded) (rules_of (get_or vars i d)) → AreKept (Keeps loaded) (rules_of_all (take (i + 1) vars))
one_kept loaded vars i d l h k =
    subst (λ (xs : List Var). AreKept (Keeps loaded) (rules_of_all xs)) (sym (take_more vars i d l))
    (subst (λ (rules : List TableFault). AreKept (Keeps loaded) rules) (sym (rules_more (take i vars) (get_or vars i d ∷ [])))
    (kept_both (Keeps loaded) (rules_of_all (take i vars)) (rules_of (get_or vars i d) ++ []) h
    (kept_both (Keeps loaded) (rules_of (get_or vars i d)) [] k tt)))

pub one_broken : (loaded : Loaded) (vars : List Var) (i : ℕ) (d : Var) (fault : TableFault) → i < length vars → AreKept (Keeps loaded) (rules_of_all (take i vars))
    → IsFirstBroken (Keeps loaded) (rules_of (get_or vars i d)) fault → IsFirstBroken (Keeps loaded) (rules_of_all vars) fault
one_broken loaded vars i d fault l h f =
    let rest = drop (suc i) vars in
    subst (λ (xs : List Var). IsFirstBroken (Keeps loaded) (rules_of_all xs) fault) (sym (split_at vars i d l))
    (subst (λ (rules : List TableFault). IsFirstBroken (Keeps loaded) rules fault) (sym (rules_more (take i vars) (get_or vars i d ∷ rest)))
    (first_after (Keeps loaded) (rules_of_all (take i vars)) (rules_of (get_or vars i d) ++ rules_of_all rest) fault h
    (first_in_front (Keeps loaded) (rules_of (get_or vars i d)) (rules_of_all rest) fault f)))

-- of kept rules each variable has its own
pub kept_at : (loaded : Loaded) (vars : List Var) (i : ℕ) (d : Var) → i < length vars → AreKept (Keeps loaded) (rules_of_all vars)
    → Keeps loaded (WrongKind (get_or vars i d))
kept_at loaded [] i d l h = absurd (omega arith)
kept_at loaded (v ∷ vars) zero d l h = kind_kept loaded v (kept_front (Keeps loaded) (rules_of v) (rules_of_all vars) h)
kept_at loaded (v ∷ vars) (suc i) d l h = kept_at loaded vars i d (omega arith) (kept_back (Keeps loaded) (rules_of v) (rules_of_all vars) h)
