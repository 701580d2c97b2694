-- Each rule of a face's variables can be told.
use Rattle.std.proofs.Common.{ℕ, ◌^◌, ◌≤◌, inl, inr, arith, subst, List, [], ◌∷◌, length, sum_by}
use Rattle.std.specs.List.{All}
use Rattle.st_decimal.specs.declared.number.Dec.{Dec}
use Rattle.st_ticks.specs.Face.{span_of_rest, ticks_in, IsPartition}
use Rattle.st_ticks.specs.Variables.{Numbers, HaveModuli, HaveEnds, IsFrom, IsNumber, IsWholeNumber, AreAsMany, KeepsNFields, KeepsModuli, KeepsOffsets, KeepsDelim, KeepsStart, KeepsEnd, KeepsOf, Keeps}
use Rattle.st_ticks.specs.declared.field.Field.{Field}
use Rattle.st_ticks.specs.declared.field.Partition.{Partition}
use Rattle.st_ticks.specs.declared.variable.ClockFault.{ClockFault}
use Rattle.st_ticks.specs.declared.variable.ClockVar.{ClockVar}
use Rattle.st_ticks.specs.declared.variable.ClockVar.TheVariants.{NFields, Moduli, Offsets, Delim, Start, End}
use Rattle.st_ticks.specs.declared.variable.ClockWhy.{ClockWhy}
use Rattle.st_ticks.specs.declared.variable.ClockWhy.TheVariants.{NotOne, NotWhole, Range, Count, Product}
use Rattle.st_ticks.proofs.MadeLaws.{ends_are_one}
use Rattle.st_ticks.proofs.RuleLaws.{rest_is_one, as_many, as_many_back}
use Rattle.st_rules.proofs.Told.{IsTold, told_along, told_both, told_le, told_same, told_all}
use Rattle.st_ticks.proofs.ToldNumbers.{told_whole, told_from}
use Rattle.st_ticks.proofs.WholeLaws.{same_number}

-- moduli
first_modulus : (m : Dec) (ms : List Dec) (fs : List Field) → HaveModuli (m ∷ ms) fs → IsFrom 1 (10 ^ 18) m × ((gs : List Field) × HaveModuli ms gs)
first_modulus m ms [] h = absurd h
first_modulus m ms (f ∷ fs) h = ((f.modulus, h.0, h.1, h.2), (fs, h.3))

told_moduli : (ms : List Dec) → IsTold ((fs : List Field) × HaveModuli ms fs)
told_moduli [] = inl ([], tt)
told_moduli (m ∷ ms) =
    elim (told_from 1 (10 ^ 18) m) [
      | inr none ↦ inr (λ h. none (first_modulus m ms h.0 h.1).0)
      | inl f ↦ elim (told_moduli ms) [
        | inr none ↦ inr (λ h. none (first_modulus m ms h.0 h.1).1)
        | inl fs ↦ inl (record { modulus = f.0; offset = 0 } ∷ fs.0, (f.1, f.2, f.3, fs.1))
      ]
    ]

told_product : (ms : List Dec) → IsTold ((fs : List Field) × HaveModuli ms fs × (span_of_rest fs ≤ 10 ^ 12))
told_product ms =
    elim (told_moduli ms) [
      | inr none ↦ inr (λ h. none (h.0, h.1))
      | inl f ↦ elim (told_le (span_of_rest f.0) (10 ^ 12)) [
        | inl small ↦ inl (f.0, f.1, small)
        | inr large ↦ inr (λ h. large (subst (λ (k : ℕ). k ≤ 10 ^ 12) (rest_is_one ms h.0 f.0 h.1 f.1) h.2))
      ]
    ]

-- partitions
abbrev HasEnds : Dec → Dec → Partition → Type 0
HasEnds s e p = IsNumber p.start s × IsNumber p.end e × IsPartition p

first_ends : (s e : Dec) (ss es : List Dec) (ps : List Partition) → HaveEnds (s ∷ ss) (e ∷ es) ps → ((p : Partition) × HasEnds s e p) × ((qs : List Partition) × HaveEnds ss es qs)
first_ends s e ss es [] h = absurd h
first_ends s e ss es (p ∷ ps) h = ((p, (h.0, h.1, h.2)), (ps, h.3))

told_partition : (s e : Dec) → IsTold ((p : Partition) × HasEnds s e p)
told_partition s e =
    elim (told_from 0 (10 ^ 18) s) [
      | inr none ↦ inr (λ h. none (h.0.start, h.1.0, omega arith, below h.0 h.1.2))
      | inl a ↦ elim (told_from a.0 (10 ^ 18) e) [
        | inr none ↦ inr (λ h. none (h.0.end, h.1.1, subst (λ (k : ℕ). k ≤ h.0.end) (same_number s h.0.start a.0 h.1.0 a.1) h.1.2.ordered, h.1.2.small))
        | inl b ↦ inl (record { start = a.0; end = b.0 }, (a.1, b.1, record { ordered = b.2; small = b.3 }))
      ]
    ]
  where
    below : (p : Partition) → IsPartition p → p.start ≤ 10 ^ 18
    below p h = let l = h.ordered in let s = h.small in omega arith

told_ends : (ss es : List Dec) → IsTold ((ps : List Partition) × HaveEnds ss es ps)
told_ends [] [] = inl ([], tt)
told_ends [] (e ∷ es) = inr (λ h. h.1)
told_ends (s ∷ ss) [] = inr (λ h. h.1)
told_ends (s ∷ ss) (e ∷ es) =
    elim (told_partition s e) [
      | inr none ↦ inr (λ h. none (first_ends s e ss es h.0 h.1).0)
      | inl p ↦ elim (told_ends ss es) [
        | inr none ↦ inr (λ h. none (first_ends s e ss es h.0 h.1).1)
        | inl ps ↦ inl (p.0 ∷ ps.0, (p.1.0, p.1.1, p.1.2, ps.1))
      ]
    ]

told_sum : (ss es : List Dec) → IsTold ((ps : List Partition) × HaveEnds ss es ps × (sum_by ticks_in ps ≤ 10 ^ 18))
told_sum ss es =
    elim (told_ends ss es) [
      | inr none ↦ inr (λ h. none (h.0, h.1))
      | inl p ↦ elim (told_le (sum_by ticks_in p.0) (10 ^ 18)) [
        | inl small ↦ inl (p.0, p.1, small)
        | inr large ↦ inr (λ h. large (subst (λ (ps : List Partition). sum_by ticks_in ps ≤ 10 ^ 18) (ends_are_one ss es h.0 p.0 h.1 p.1) h.2))
      ]
    ]

told_as_many : (n : Numbers) (values : List Dec) → IsTold (AreAsMany n values)
told_as_many n values =
    told_along (All (IsFrom (length values) (length values)) n.n_fields) (AreAsMany n values) (as_many (length values) n.n_fields) (as_many_back (length values) n.n_fields)
    (told_all (IsFrom (length values) (length values)) (told_from (length values) (length values)) n.n_fields)

-- the rules of each variable
told_n_fields : (n : Numbers) (why : ClockWhy) → IsTold (KeepsNFields n why)
told_n_fields n NotOne = told_same (length n.n_fields) 1
told_n_fields n NotWhole = told_all IsWholeNumber told_whole n.n_fields
told_n_fields n Range = told_all (IsFrom 1 10) (told_from 1 10) n.n_fields
told_n_fields n _ = inl tt

told_of_moduli : (n : Numbers) (why : ClockWhy) → IsTold (KeepsModuli n why)
told_of_moduli n Count = told_as_many n n.moduli
told_of_moduli n NotWhole = told_all IsWholeNumber told_whole n.moduli
told_of_moduli n Range = told_all (IsFrom 1 (10 ^ 18)) (told_from 1 (10 ^ 18)) n.moduli
told_of_moduli n Product = told_product n.moduli
told_of_moduli n _ = inl tt

told_offsets : (n : Numbers) (why : ClockWhy) → IsTold (KeepsOffsets n why)
told_offsets n Count = told_as_many n n.offsets
told_offsets n NotWhole = told_all IsWholeNumber told_whole n.offsets
told_offsets n Range = told_all (IsFrom 0 (10 ^ 12)) (told_from 0 (10 ^ 12)) n.offsets
told_offsets n _ = inl tt

told_delim : (n : Numbers) (why : ClockWhy) → IsTold (KeepsDelim n why)
told_delim n NotOne = told_same (length n.delim) 1
told_delim n Range = told_all (IsFrom 1 5) (told_from 1 5) n.delim
told_delim n _ = inl tt

told_start : (n : Numbers) (why : ClockWhy) → IsTold (KeepsStart n why)
told_start n Count = told_both (1 ≤ length n.starts) (length n.starts ≤ 9999) (told_le 1 (length n.starts)) (told_le (length n.starts) 9999)
told_start n NotWhole = told_all IsWholeNumber told_whole n.starts
told_start n Range = told_all (IsFrom 0 (10 ^ 18)) (told_from 0 (10 ^ 18)) n.starts
told_start n _ = inl tt

told_end : (n : Numbers) (why : ClockWhy) → IsTold (KeepsEnd n why)
told_end n Count = told_same (length n.ends) (length n.starts)
told_end n NotWhole = told_all IsWholeNumber told_whole n.ends
told_end n Range = told_ends n.starts n.ends
told_end n Product = told_sum n.starts n.ends
told_end n _ = inl tt

told_of : (n : Numbers) (var : ClockVar) (why : ClockWhy) → IsTold (KeepsOf n var why)
told_of n NFields why = told_n_fields n why
told_of n Moduli why = told_of_moduli n why
told_of n Offsets why = told_offsets n why
told_of n Delim why = told_delim n why
told_of n Start why = told_start n why
told_of n End why = told_end n why
told_of n _ why = inl tt

pub told_rule : (n : Numbers) (fault : ClockFault) → IsTold (Keeps n fault)
told_rule n fault = told_of n fault.var fault.why
