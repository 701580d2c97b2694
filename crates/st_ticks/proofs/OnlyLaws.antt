-- The variables have one face, or one first fault.
use Rattle.std.proofs.Common.{◌≡◌, ℕ, ◌<◌, ◌⊎◌, inl, inr, refl, sym, ap, ◌∙◌, arith, Result, Ok, Err, List, [], ◌∷◌, length, get_or}
use Rattle.std.proofs.lemmas.List.Elements.{All-get_or}
use Rattle.st_decimal.specs.declared.number.Dec.{Dec}
use Rattle.st_ticks.specs.Face.{Face}
use Rattle.st_ticks.specs.Variables.{Numbers, HaveModuli, HaveOffsets, IsNumber, Keeps, IsMadeOf, MakesFace, delimiter_of, face_rules}
use Rattle.st_ticks.specs.declared.fault.FaceFault.{FaceFault}
use Rattle.st_ticks.specs.declared.fault.FaceFault.TheVariants.{Bad, OutOfMemory}
use Rattle.st_ticks.specs.declared.field.Field.{Field}
use Rattle.st_ticks.specs.declared.field.Partition.{Partition}
use Rattle.st_ticks.specs.declared.variable.ClockFault.{ClockFault}
use Rattle.st_rules.proofs.First.{none_broken, one_first}
use Rattle.st_ticks.proofs.MadeLaws.{ends_are_one}
use Rattle.st_ticks.proofs.MakingLaws.{no_dec}
use Rattle.st_ticks.proofs.WholeLaws.{same_number}

same_field : (f g : Field) → f.modulus ≡ g.modulus → f.offset ≡ g.offset → f ≡ g
same_field f g e h = ap (λ (x : ℕ). record { modulus = x; offset = f.offset }) e ∙ ap (λ (x : ℕ). record { modulus = g.modulus; offset = x }) h

same_cons : (a b : Field) (xs ys : List Field) → a ≡ b → xs ≡ ys → a ∷ xs ≡ b ∷ ys
same_cons a b xs ys e f = cc

fields_are_one : (ms os : List Dec) (fs gs : List Field) → HaveModuli ms fs → HaveOffsets os fs → HaveModuli ms gs → HaveOffsets os gs → fs ≡ gs
fields_are_one [] os [] [] h k i j = refl
fields_are_one [] os [] (g ∷ gs) h k i j = absurd i
fields_are_one [] os (f ∷ fs) gs h k i j = absurd h
fields_are_one (m ∷ ms) os [] gs h k i j = absurd h
fields_are_one (m ∷ ms) os (f ∷ fs) [] h k i j = absurd i
fields_are_one (m ∷ ms) [] (f ∷ fs) (g ∷ gs) h k i j = absurd k
fields_are_one (m ∷ ms) (o ∷ os) (f ∷ fs) (g ∷ gs) h k i j =
    same_cons f g fs gs (same_field f g (same_number m f.modulus g.modulus h.0 i.0) (same_number o f.offset g.offset k.0 j.0))
    (fields_are_one ms os fs gs h.3 k.1 i.3 j.1)

same_face : (f g : Face) → f.fields ≡ g.fields → f.delimiter ≡ g.delimiter → f.partitions ≡ g.partitions → f ≡ g
same_face f g a b c =
    ap (λ (x : List Field). record { fields = x; delimiter = f.delimiter; partitions = f.partitions }) a
    ∙ ap (λ (x : ℕ). record { fields = g.fields; delimiter = x; partitions = f.partitions }) b
    ∙ ap (λ (x : List Partition). record { fields = g.fields; delimiter = g.delimiter; partitions = x }) c

face_is_one : (n : Numbers) (f g : Face) → length n.delim ≡ 1 → IsMadeOf n f → IsMadeOf n g → f ≡ g
face_is_one n f g l h k =
    let some : 0 < length n.delim = omega arith in
    let d : Dec = get_or n.delim 0 no_dec in
    let code : h.code ≡ k.code = same_number d h.code k.code (All-get_or (IsNumber h.code) n.delim 0 no_dec some h.code_is) (All-get_or (IsNumber k.code) n.delim 0 no_dec some k.code_is) in
    same_face f g (fields_are_one n.moduli n.offsets f.fields g.fields h.moduli h.offsets k.moduli k.offsets)
    (h.delimiter ∙ ap delimiter_of code ∙ sym k.delimiter) (ends_are_one n.starts n.ends f.partitions g.partitions h.partitions k.partitions)

pub makes_one : (n : Numbers) (a b : Result Face FaceFault) → MakesFace n a → MakesFace n b → (a ≡ b) ⊎ ((a ≡ Err OutOfMemory) ⊎ (b ≡ Err OutOfMemory))
makes_one n (Ok f) (Ok g) h k = inl (ap (λ (x : Face). Ok x) (face_is_one n f g h.0.1.1.1.1.1.1.1.1.1.1.0 h.1 k.1))
makes_one n (Ok f) (Err (Bad x)) h k = absurd (none_broken (Keeps n) face_rules x h.0 k)
makes_one n (Ok f) (Err OutOfMemory) h k = inr (inr refl)
makes_one n (Err (Bad x)) (Ok g) h k = absurd (none_broken (Keeps n) face_rules x k.0 h)
makes_one n (Err (Bad x)) (Err (Bad y)) h k = inl (ap (λ (f : ClockFault). Err (Bad f)) (one_first (Keeps n) face_rules x y h k))
makes_one n (Err (Bad x)) (Err OutOfMemory) h k = inr (inr refl)
makes_one n (Err OutOfMemory) b h k = inr (inl refl)
