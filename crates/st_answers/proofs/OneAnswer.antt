-- A text has one answer that isn't left undecided, whatever stands on the way; where no sine stands there it has one.
use Rattle.std.proofs.Common.{◌≡◌, ◌≢◌, ℕ, Bool, true, false, ◌&&◌, inl, inr, Result, Ok, Err, List, refl, sym, ap, ◌∙◌, subst}
use Rattle.st_routes.specs.declared.fault.TimeFault.{TimeFault}
use Rattle.st_routes.specs.declared.fault.TimeFault.TheVariants.{Undecided, OutOfMemory as NoMemory}
use Rattle.st_tables.specs.Variables.{Loaded}
use Rattle.st_words.specs.declared.job.Job.{Job}
use Rattle.st_answers.specs.Answer.{AnswerBy, BackGives, ForwardGives, HasGiven, back_job, there_and_back}
use Rattle.st_answers.specs.Laws.{IsDecided, OneDecidedAnswer, OneExactAnswer}
use Rattle.st_answers.specs.Ready.{IsReady}
use Rattle.st_answers.specs.Sides.{is_clock}
use Rattle.st_answers.specs.declared.fault.AnswerFault.{AnswerFault}
use Rattle.st_answers.specs.declared.fault.AnswerFault.TheVariants.{Table, Time, OutOfMemory}
use Rattle.st_answers.proofs.Known.{clock-is}
use Rattle.st_answers.proofs.MovedTables.{gives-moved}
use Rattle.st_answers.proofs.OneGiven.{err-ok, err-same, given-one, ok-err, ok-same}
use Rattle.st_answers.proofs.OneTables.{never-both, one-refusal, same-clock, same-constants, same-pairs}
use Rattle.st_answers.proofs.Settled.{IsSettled}
use Rattle.st_answers.proofs.Sides.{back-ready}
use Rattle.st_answers.proofs.Undecided.{exact-decided}

ok-settled : (x : List ℕ) → IsSettled (Ok x)
ok-settled x = record { decided = λ e. ok-err x Undecided e; memory = λ e. ok-err x NoMemory e }

err-settled : (f : TimeFault) → f ≢ NoMemory → IsDecided (Err (Time f)) → IsSettled (Err f)
err-settled f not d = record { decided = λ e. d (ap (λ x. Err (Time x)) (err-same f Undecided e)); memory = λ e. not (err-same f NoMemory e) }

ok-is-not : {A : Type 0} (x : A) (f : AnswerFault) → ◌≡◌ {A = Result A AnswerFault} (Ok x) (Err f) → ⊥
ok-is-not x f e = absurd cc

ok-is : {A : Type 0} (x y : A) → ◌≡◌ {A = Result A AnswerFault} (Ok x) (Ok y) → x ≡ y
ok-is x y e = cc

ok-decided : (x : List ℕ) → IsDecided (Ok x)
ok-decided x = λ e. ok-is-not x (Time Undecided) e

module _ (job : Job) (loaded : Loaded) (text : List ℕ) (ready : IsReady job) where
  has-one : (x y : Result (List ℕ) TimeFault) → IsSettled x → IsSettled y → HasGiven job loaded text x → HasGiven job loaded text y → x ≡ y
  has-one x y sx sy (t, are, gives) (u, also, tells) =
      let b = is_clock job.from && is_clock job.to in
      given-one b job t text x y (λ clock is. clock-is job loaded t clock are is) ready.target sx sy gives
      (gives-moved b job u t text y (same-pairs job loaded u t also are) (same-constants job loaded u t also are) (same-clock job loaded u t also are) tells)

  pub forward-one : (x y : Result (List ℕ) AnswerFault) → IsDecided x → IsDecided y → ForwardGives job loaded text x → ForwardGives job loaded text y → x ≡ y
  forward-one (Ok a) (Ok b) dx dy g h = ap Ok (ok-same a b (has-one (Ok a) (Ok b) (ok-settled a) (ok-settled b) g h))
  forward-one (Ok a) (Err (Table f)) dx dy (t, are, g) h = absurd (never-both job loaded f t h are)
  forward-one (Ok a) (Err (Time f)) dx dy g (not, h) = absurd (ok-err a f (has-one (Ok a) (Err f) (ok-settled a) (err-settled f not dy) g h))
  forward-one (Ok a) (Err OutOfMemory) dx dy g h = absurd h
  forward-one (Err (Table f)) (Ok b) dx dy g (t, are, h) = absurd (never-both job loaded f t g are)
  forward-one (Err (Table f)) (Err (Table e)) dx dy g h = ap (λ x. Err (Table x)) (one-refusal job loaded f e g h)
  forward-one (Err (Table f)) (Err (Time e)) dx dy g (not, (t, are, h)) = absurd (never-both job loaded f t g are)
  forward-one (Err (Table f)) (Err OutOfMemory) dx dy g h = absurd h
  forward-one (Err (Time f)) (Ok b) dx dy (not, g) h = absurd (err-ok f b (has-one (Err f) (Ok b) (err-settled f not dx) (ok-settled b) g h))
  forward-one (Err (Time f)) (Err (Table e)) dx dy (not, (t, are, g)) h = absurd (never-both job loaded e t h are)
  forward-one (Err (Time f)) (Err (Time e)) dx dy (not, g) (nor, h) =
      ap (λ x. Err (Time x)) (err-same f e (has-one (Err f) (Err e) (err-settled f not dx) (err-settled e nor dy) g h))
  forward-one (Err (Time f)) (Err OutOfMemory) dx dy g h = absurd h
  forward-one (Err OutOfMemory) y dx dy g h = absurd g

-- there and back
module _ (job : Job) (loaded : Loaded) (text : List ℕ) (ready : IsReady job) (behind : IsReady (back_job job)) where
  there-one : (a b : List ℕ) → ForwardGives job loaded text (Ok a) → ForwardGives job loaded text (Ok b) → a ≡ b
  there-one a b g h = ok-is a b (forward-one job loaded text ready (Ok a) (Ok b) (ok-decided a) (ok-decided b) g h)

  there-not : (a : List ℕ) (f : AnswerFault) → IsDecided (Err f) → ForwardGives job loaded text (Ok a) → ForwardGives job loaded text (Err f) → ⊥
  there-not a f d g h = ok-is-not a f (forward-one job loaded text ready (Ok a) (Err f) (ok-decided a) d g h)

  behind-one : (a b : List ℕ) (x y : Result (List ℕ) AnswerFault) → a ≡ b → IsDecided x → IsDecided y
      → ForwardGives (back_job job) loaded a x → ForwardGives (back_job job) loaded b y → x ≡ y
  behind-one a b x y e dx dy g h =
      let P : List ℕ → Type 0 = λ s. ForwardGives (back_job job) loaded s y in
      forward-one (back_job job) loaded a behind x y dx dy g (subst P (sym e) h)

  mixed : (a : List ℕ) (f : AnswerFault) → IsDecided (Err f) → BackGives job loaded text (Ok a) → BackGives job loaded text (Err f) → ⊥
  mixed a f d (there, back, g, h, is) (inl refused) = there-not there f d g refused
  mixed a f d (there, back, g, h, is) (inr (other, k, refused)) =
      ok-is-not back f (behind-one there other (Ok back) (Err f) (there-one there other g k) (ok-decided back) d h refused)

  pub back-one : (x y : Result (List ℕ) AnswerFault) → IsDecided x → IsDecided y → BackGives job loaded text x → BackGives job loaded text y → x ≡ y
  back-one (Ok a) (Ok b) dx dy (there, back, g, h, is) (other, again, k, l, also) =
      let same : there ≡ other = there-one there other g k in
      let behind-same : back ≡ again = ok-is back again (behind-one there other (Ok back) (Ok again) same (ok-decided back) (ok-decided again) h l) in
      let texts : there_and_back there back ≡ there_and_back other again =
      ap (λ s. there_and_back s back) same ∙ ap (λ s. there_and_back other s) behind-same in
      ap Ok (is ∙ texts ∙ sym also)
  back-one (Ok a) (Err f) dx dy g h = absurd (mixed a f dy g h)
  back-one (Err f) (Ok b) dx dy g h = absurd (mixed b f dx h g)
  back-one (Err f) (Err e) dx dy (inl g) (inl h) = forward-one job loaded text ready (Err f) (Err e) dx dy g h
  back-one (Err f) (Err e) dx dy (inl g) (inr (there, h, k)) = absurd (there-not there f dx h g)
  back-one (Err f) (Err e) dx dy (inr (there, g, h)) (inl k) = absurd (there-not there e dy g k)
  back-one (Err f) (Err e) dx dy (inr (there, g, h)) (inr (other, k, l)) = behind-one there other (Err f) (Err e) (there-one there other g k) dx dy h l

pub one-decided : OneDecidedAnswer
one-decided job loaded text a b ready da db = by job.back refl
  where
    by : (way : Bool) → job.back ≡ way → AnswerBy way job loaded text a → AnswerBy way job loaded text b → a ≡ b
    by false e g h = forward-one job loaded text ready a b da db g h
    by true e g h = back-one job loaded text ready (back-ready job ready e) a b da db g h

pub one-exact : OneExactAnswer
one-exact job loaded text a b ready exact g h =
    one-decided job loaded text a b ready (exact-decided job loaded text a exact g) (exact-decided job loaded text b exact h) g h
