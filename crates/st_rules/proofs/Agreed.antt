-- Answers agree where values are one, faults are one, and no value has a fault.
use Rattle.std.proofs.Common.{◌≡◌, Result, Ok, Err, ap}
use Rattle.st_rules.specs.Agree.{Agree, GivesBut}

pub agree_by : {A E : Type 0} (out : E) (Is : A → Type 0) (Refuses : E → Type 0)
    → ((x y : A) → Is x → Is y → x ≡ y) → ((e f : E) → Refuses e → Refuses f → e ≡ f) → ((x : A) (e : E) → Is x → Refuses e → ⊥)
    → (a b : Result A E) → GivesBut out Is Refuses a → GivesBut out Is Refuses b → Agree out a b
agree_by out Is Refuses values faults none (Ok x) (Ok y) h k m n = ap (λ v. Ok v) (values x y h k)
agree_by out Is Refuses values faults none (Ok x) (Err f) h k m n = absurd (none x f h (k (λ e. n (ap (λ v. Err v) e))))
agree_by out Is Refuses values faults none (Err e) (Ok y) h k m n = absurd (none y e k (h (λ i. m (ap (λ v. Err v) i))))
agree_by out Is Refuses values faults none (Err e) (Err f) h k m n = ap (λ v. Err v) (faults e f (h (λ i. m (ap (λ v. Err v) i))) (k (λ i. n (ap (λ v. Err v) i))))
