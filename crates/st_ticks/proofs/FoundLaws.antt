-- Variables that keep all rules make a face, and any make one or break a first rule.
use Rattle.std.proofs.Common.{◌≡◌, ◌≢◌, ℕ, ◌^◌, ◌<◌, inl, inr, refl, arith, Result, Ok, Err, List, [], ◌∷◌, length, get_or}
use Rattle.std.specs.List.{All}
use Rattle.std.proofs.lemmas.List.Elements.{All-head, All-tail, All-get_or}
use Rattle.st_decimal.specs.declared.number.Dec.{Dec}
use Rattle.st_ticks.specs.Face.{Face}
use Rattle.st_rules.specs.Rules.{AreKept}
use Rattle.st_ticks.specs.Variables.{Numbers, HaveModuli, HaveOffsets, IsFrom, IsNumber, Keeps, IsMadeOf, MakesFace, delimiter_of, face_rules}
use Rattle.st_ticks.specs.declared.fault.FaceFault.{FaceFault}
use Rattle.st_ticks.specs.declared.fault.FaceFault.TheVariants.{Bad, OutOfMemory}
use Rattle.st_ticks.specs.declared.field.Field.{Field}
use Rattle.st_ticks.specs.declared.variable.ClockFault.{ClockFault}
use Rattle.st_ticks.proofs.MadeLaws.{all_of_one}
use Rattle.st_ticks.proofs.MakingLaws.{no_dec}
use Rattle.st_rules.proofs.Told.{kept_or_broken}
use Rattle.st_ticks.proofs.ToldRules.{told_rule}
use Rattle.st_ticks.proofs.WholeLaws.{same_number}

-- fields with these moduli are given these offsets
with_offsets : (ms os : List Dec) (fs : List Field) → HaveModuli ms fs → length os ≡ length ms → All (IsFrom 0 (10 ^ 12)) os
    → (gs : List Field) × HaveModuli ms gs × HaveOffsets os gs
with_offsets [] [] [] h l a = ([], tt, tt)
with_offsets [] [] (f ∷ fs) h l a = absurd h
with_offsets [] (o ∷ os) fs h l a = absurd (omega (arith, l))
with_offsets (m ∷ ms) [] fs h l a = absurd (omega (arith, l))
with_offsets (m ∷ ms) (o ∷ os) [] h l a = absurd h
with_offsets (m ∷ ms) (o ∷ os) (f ∷ fs) h l a =
    let at = All-head (IsFrom 0 (10 ^ 12)) o os a in
    let rest = with_offsets ms os fs h.3 (omega (arith, l)) (All-tail (IsFrom 0 (10 ^ 12)) o os a) in
    (record { modulus = f.modulus; offset = at.0 } ∷ rest.0, (h.0, h.1, h.2, rest.1), (at.1, rest.2))

-- two numbers of a list of one are one
as_many_as : (ds : List Dec) (m n : ℕ) → length ds ≡ 1 → All (IsNumber m) ds → All (IsNumber n) ds → m ≡ n
as_many_as ds m n l h k =
    let some : 0 < length ds = omega (arith, l) in
    same_number (get_or ds 0 no_dec) m n (All-get_or (IsNumber m) ds 0 no_dec some h) (All-get_or (IsNumber n) ds 0 no_dec some k)

pub face_made : (n : Numbers) → AreKept (Keeps n) face_rules → (face : Face) × IsMadeOf n face
face_made n k =
    let moduli = k.1.1.1 in
    let offsets = moduli.1.1.1.1 in
    let delim = offsets.1.1.1 in
    let ends = delim.1.1.1.1.1.1.1 in
    let product = moduli.1.1.1.0 in
    let some : 0 < length n.delim = omega (arith, delim.0) in
    let code = All-get_or (IsFrom 1 5) n.delim 0 no_dec some delim.1.0 in
    let fields = with_offsets n.moduli n.offsets product.0 product.1 (as_many_as n.n_fields (length n.offsets) (length n.moduli) k.0 offsets.0 moduli.0) offsets.1.1.0 in (
      record { fields = fields.0; delimiter = delimiter_of code.0; partitions = ends.0.0 },
      record {
        moduli = fields.1;
        offsets = fields.2;
        partitions = ends.0.1;
        code = code.0;
        code_is = all_of_one (IsNumber code.0) n.delim no_dec delim.0 code.1;
        delimiter = refl;
      },
    )

no_want : (face : Face) → ◌≡◌ {A = Result Face FaceFault} (Ok face) (Err OutOfMemory) → ⊥
no_want face e = cc

no_bad : (fault : ClockFault) → ◌≡◌ {A = Result Face FaceFault} (Err (Bad fault)) (Err OutOfMemory) → ⊥
no_bad fault e = cc

pub each_has_answer : (n : Numbers) → (answer : Result Face FaceFault) × MakesFace n answer × (answer ≢ Err OutOfMemory)
each_has_answer n =
    elim (kept_or_broken (Keeps n) (told_rule n) face_rules) [
      | inl k ↦ let f = face_made n k in (Ok f.0, (k, f.1), no_want f.0)
      | inr f ↦ (Err (Bad f.0), f.1, no_bad f.0)
    ]
