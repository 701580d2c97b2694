-- Words give one answer.
use Rattle.std.proofs.Common.{◌≡◌, ◌≢◌, ◌≤◌, arith, length, ℕ, true, Option, Some, None, Result, Ok, Err, List, inl, inr, refl, sym, ap, ◌∙◌, subst}
use Rattle.std.specs.Prelude.{is_some, IfOk, IfErr}
use Rattle.std.proofs.lemmas.Option.{same_Some}
use Rattle.st_dates.specs.declared.system.System.{System}
use Rattle.st_picture.specs.Picture.{Picture}
use Rattle.st_picture.specs.Reading.{ReadsPicture, Agree}
use Rattle.st_picture.specs.declared.fault.PictureFault.{PictureFault}
use Rattle.st_picture.proofs.OneAnswer.{one_reading}
use Rattle.st_words.specs.Cut.{nothing, start_of}
use Rattle.st_words.specs.Job.{IsWork, IsShape, IsAskedFor}
use Rattle.st_words.specs.Kinds.{from_kind}
use Rattle.st_words.specs.Reading.{AskFor, HasFault, OptionsGive, WordsGive}
use Rattle.st_words.specs.Rules.{RefusesPicture, rules, AreKept, fault_of, Names}
use Rattle.st_words.specs.WordsMachine.{read}
use Rattle.st_words.specs.declared.fault.WordFault.{WordFault}
use Rattle.st_words.specs.declared.fault.WordFault.TheVariants as faults
use Rattle.st_words.specs.declared.job.Job.{Job}
use Rattle.st_words.specs.declared.job.ToKind.{ToKind}
use Rattle.st_words.specs.declared.job.ToKind.TheVariants.{Pictured, Clock, Ticks}
use Rattle.st_words.specs.declared.job.Work.{Work}
use Rattle.st_words.specs.declared.job.Work.TheVariants as works
use Rattle.st_words.specs.declared.options.Options.{Options}
use Rattle.st_words.specs.declared.rule.Rule.{Rule}
use Rattle.st_words.specs.declared.time_type.TimeType.TheVariants as types
use Rattle.st_words.proofs.CutLaws.{Answered, read_tells, reads_read, stops_read}
use Rattle.st_words.proofs.JobLaws.{one_pictured, one_picture, no_picture}
use Rattle.st_words.proofs.RuleLaws.{kept_first, one_first}
use Rattle.st_words.proofs.ValueLaws.{same_Ok, same_Err}

-- what is read is asked for
ask_for : (words : List (List ℕ)) (o : Options) → Answered (start_of words) (Ok o) → AskFor words o
ask_for words o a = record { choices = a.0; end = a.1; reads = a.2; all = a.3; asked = a.4 }

told : (words : List (List ℕ)) (r : Result Options WordFault) → read nothing 1 0 words ≡ r → Answered (start_of words) r
told words r e = subst (Answered (start_of words)) e (read_tells nothing 1 0 words z≤)
  where
    z≤ : 0 ≤ length words
    z≤ = omega arith

pub words_job : (words : List (List ℕ)) (o : Options) (job : Job) → read nothing 1 0 words ≡ Ok o → OptionsGive o (Ok job) → WordsGive words (Ok job)
words_job words o job e h = (o, ask_for words o (told words (Ok o) e), h)

pub words_fault : (words : List (List ℕ)) (fault : WordFault) → read nothing 1 0 words ≡ Err fault → WordsGive words (Err fault)
words_fault words fault e =
    let a = told words (Err fault) e in
    inl (record { choices = a.0; at = a.1; reads = a.2; stops = a.3 })

pub words_refused : (words : List (List ℕ)) (o : Options) (fault : WordFault) → read nothing 1 0 words ≡ Ok o → OptionsGive o (Err fault) → WordsGive words (Err fault)
words_refused words o fault e h = inr (o, ask_for words o (told words (Ok o) e), h)

-- and what is asked for is read
asked_read : (words : List (List ℕ)) (o : Options) → AskFor words o → read nothing 1 0 words ≡ Ok o
asked_read words o a =
    let done : Options → Result Options WordFault = λ p. Ok p in
    reads_read (start_of words) a.end a.choices a.reads ∙ ap (λ (w : List (List ℕ)). read a.end.asked a.end.place 0 w) a.all ∙ ap done a.asked

fault_read : (words : List (List ℕ)) (fault : WordFault) → HasFault words fault → read nothing 1 0 words ≡ Err fault
fault_read words fault h = reads_read (start_of words) h.at h.choices h.reads ∙ stops_read h.at fault h.stops

same_options : (words : List (List ℕ)) (o p : Options) → AskFor words o → AskFor words p → o ≡ p
same_options words o p h k = same_Ok o p (sym (asked_read words o h) ∙ asked_read words p k)

never_both : (words : List (List ℕ)) (o : Options) (fault : WordFault) → AskFor words o → HasFault words fault → ⊥
never_both words o fault h k =
    let bad : Ok o ≡ Err fault = sym (asked_read words o h) ∙ fault_read words fault k in
    absurd cc

-- one target
one_shape : (o : Options) (system : System) (a b : ToKind) → o.to ≡ Some system → IsShape o system a → IsShape o system b → a ≡ b
one_shape o system (Pictured p) (Pictured q) to h k =
    let one = one_pictured o system system h.0 k.0 h.1 k.1 in
    let R : List ℕ → Type 0 = λ t. ReadsPicture system t (Ok p) in
    let shown : Picture → ToKind = λ x. Pictured x in
    ap shown (one_picture system k.0 p q (subst R one.1 h.2) k.2)
one_shape o system (Pictured p) Clock to h k = absurd (no_picture o system system h.0 types.Sclk to k refl h.1)
one_shape o system (Pictured p) Ticks to h k = absurd (no_picture o system system h.0 types.Ticks to k refl h.1)
one_shape o system Clock (Pictured q) to h k = absurd (no_picture o system system k.0 types.Sclk to h refl k.1)
one_shape o system Ticks (Pictured q) to h k = absurd (no_picture o system system k.0 types.Ticks to h refl k.1)
one_shape o system Clock Clock to h k = refl
one_shape o system Ticks Ticks to h k = refl
one_shape o system Clock Ticks to h k = let bad : types.Sclk ≡ types.Ticks = sym h ∙ k in absurd cc
one_shape o system Ticks Clock to h k = let bad : types.Ticks ≡ types.Sclk = sym h ∙ k in absurd cc

there : {A : Type 0} (x : A) (o : Option A) → o ≡ Some x → is_some o ≡ true
there x o e = ap is_some e

one_work : (o : Options) (a b : Work) → AreKept o rules → IsWork o a → IsWork o b → a ≡ b
one_work o (works.Time s) (works.Time t) k h g =
    let time : List ℕ → Work = λ x. works.Time x in
    ap time (same_Some s t (sym h ∙ g))
one_work o works.Batch works.Batch k h g = refl
one_work o (works.Sample m s) (works.Sample n t) k h g =
    let sample : ℕ × ℕ → Work = λ p. works.Sample p.0 p.1 in
    ap sample (same_Some (m, s) (n, t) (sym h ∙ g))
one_work o (works.Time s) works.Batch k h g = absurd (((((((k.1).1).1).1).1).1).0 (there s o.time h, g))
one_work o works.Batch (works.Time t) k h g = absurd (((((((k.1).1).1).1).1).1).0 (there t o.time g, h))
one_work o (works.Time s) (works.Sample n t) k h g = absurd ((((((((k.1).1).1).1).1).1).1).0 (there s o.time h, there (n, t) o.sample g))
one_work o (works.Sample m s) (works.Time t) k h g = absurd ((((((((k.1).1).1).1).1).1).1).0 (there t o.time g, there (m, s) o.sample h))
one_work o works.Batch (works.Sample n t) k h g = absurd (((((((((k.1).1).1).1).1).1).1).1).0 (h, there (n, t) o.sample g))
one_work o (works.Sample m s) works.Batch k h g = absurd (((((((((k.1).1).1).1).1).1).1).1).0 (g, there (m, s) o.sample h))

one_job : (o : Options) (a b : Job) → AreKept o rules → IsAskedFor o a → IsAskedFor o b → a ≡ b
one_job o a b k h g =
    let setup : a.setup ≡ b.setup = same_Some a.setup b.setup (sym h.setup ∙ g.setup) in
    let from : a.from ≡ b.from = same_Some a.from b.from (sym h.from ∙ g.from) in
    let form : a.form ≡ b.form = h.form ∙ ap (λ (s : System). from_kind s o.from_type) from ∙ sym g.form in
    let to : a.to ≡ b.to = same_Some a.to b.to (sym h.to ∙ g.to) in
    let P : System → Type 0 = λ s. IsShape o s a.shape in
    let shape : a.shape ≡ b.shape = one_shape o b.to a.shape b.shape g.to (subst P to h.shape) g.shape in
    let clock : a.clock ≡ b.clock = h.clock ∙ sym g.clock in
    let work : a.work ≡ b.work = one_work o a.work b.work k h.work g.work in
    let back : a.back ≡ b.back = h.back ∙ sym g.back in
    λ i. record { setup = setup i; from = from i; form = form i; to = to i; shape = shape i; clock = clock i; work = work i; back = back i }

abbrev refusal_in : PictureFault → Result Picture PictureFault → PictureFault
refusal_in d (Ok x) = d
refusal_in d (Err f) = f

one_refusal : (o : Options) (a b : PictureFault) → RefusesPicture o a → RefusesPicture o b → a ≡ b
one_refusal o a b h k =
    let one = one_pictured o h.0 k.0 h.1 k.1 h.2 k.2 in
    let P : System → Type 0 = λ s. ReadsPicture s h.1 (Err a) in
    let Q : List ℕ → Type 0 = λ t. ReadsPicture k.0 t (Err a) in
    by (one_reading k.0 k.1 (Err a) (Err b) (subst Q one.1 (subst P one.0 h.3)) k.3)
  where
    by : Agree (Err a) (Err b) → a ≡ b
    by (inl e) = absurd (h.4 (ap (refusal_in a) e))
    by (inr (inl e)) = absurd (k.4 (ap (refusal_in b) e))
    by (inr (inr e)) = ap (refusal_in a) e

one_name : (o : Options) (rule : Rule) (f g : WordFault) → Names o rule f → Names o rule g → f ≡ g
one_name o rule f g (inl h) (inl k) = same_Some f g (sym h ∙ k)
one_name o rule f g (inl h) (inr k) = let bad : Some f ≡ None = sym h ∙ ap fault_of k.0 in absurd cc
one_name o rule f g (inr h) (inl k) = let bad : Some g ≡ None = sym k ∙ ap fault_of h.0 in absurd cc
one_name o rule f g (inr h) (inr k) =
    let pictured : PictureFault → WordFault = λ x. faults.BadPicture x in
    (h.1).2 ∙ ap pictured (one_refusal o (h.1).0 (k.1).0 (h.1).1 (k.1).1) ∙ sym (k.1).2

one_given : (o : Options) (a b : Result Job WordFault) → OptionsGive o a → OptionsGive o b → a ≡ b
one_given o (Ok a) (Ok b) h k = let done : Job → Result Job WordFault = λ j. Ok j in ap done (one_job o a b h.0 h.1 k.1)
one_given o (Ok a) (Err g) h k = absurd (kept_first o rules k.0 h.0 k.1)
one_given o (Err f) (Ok b) h k = absurd (kept_first o rules h.0 k.0 h.1)
one_given o (Err f) (Err g) h k =
    let rule : h.0 ≡ k.0 = one_first o rules h.0 k.0 h.1 k.1 in
    let P : Rule → Type 0 = λ r. Names o r f in
    let failed : WordFault → Result Job WordFault = λ x. Err x in
    ap failed (one_name o k.0 f g (subst P rule h.2) k.2)

given_same : (words : List (List ℕ)) (o p : Options) (a b : Result Job WordFault) → AskFor words o → AskFor words p → OptionsGive o a → OptionsGive p b → a ≡ b
given_same words o p a b ask also h k =
    let P : Options → Type 0 = λ x. OptionsGive x a in
    one_given p a b (subst P (same_options words o p ask also) h) k

pub one_answer : (words : List (List ℕ)) (a b : Result Job WordFault) → WordsGive words a → WordsGive words b → a ≡ b
one_answer words (Ok a) (Ok b) h k = given_same words h.0 k.0 (Ok a) (Ok b) h.1 k.1 h.2 k.2
one_answer words (Ok a) (Err g) h (inl k) = absurd (never_both words h.0 g h.1 k)
one_answer words (Ok a) (Err g) h (inr k) = given_same words h.0 k.0 (Ok a) (Err g) h.1 k.1 h.2 k.2
one_answer words (Err f) (Ok b) (inl h) k = absurd (never_both words k.0 f k.1 h)
one_answer words (Err f) (Ok b) (inr h) k = given_same words h.0 k.0 (Err f) (Ok b) h.1 k.1 h.2 k.2
one_answer words (Err f) (Err g) (inl h) (inl k) =
    let failed : WordFault → Result Job WordFault = λ x. Err x in
    ap failed (same_Err Options f g (sym (fault_read words f h) ∙ fault_read words g k))
one_answer words (Err f) (Err g) (inl h) (inr k) = absurd (never_both words k.0 f k.1 h)
one_answer words (Err f) (Err g) (inr h) (inl k) = absurd (never_both words h.0 g h.1 k)
one_answer words (Err f) (Err g) (inr h) (inr k) = given_same words h.0 k.0 (Err f) (Err g) h.1 k.1 h.2 k.2

pub only_answer : (words : List (List ℕ)) (a b : Result Job WordFault) → IfOk a (λ job. WordsGive words (Ok job))
    → IfErr a (λ fault. fault ≢ faults.OutOfMemory → WordsGive words (Err fault)) → WordsGive words b → a ≢ Err faults.OutOfMemory → a ≡ b
only_answer words (Ok a) b ok err h known = one_answer words (Ok a) b ok h
only_answer words (Err f) b ok err h known =
    let failed : WordFault → Result Job WordFault = λ x. Err x in
    one_answer words (Err f) b (err (λ e. known (ap failed e))) h
