-- One of two readings is taken: the first that there is.
use Rattle.std.proofs.Common.{◌≡◌, ◌⊎◌, inl, inr, Option, Some, None}
use Rattle.std.specs.Option.{option_or}

pub either_of : {A : Type 0} (a b : Option A) (x : A) → option_or a b ≡ Some x → (a ≡ Some x) ⊎ (b ≡ Some x)
either_of None b x e = inr e
either_of (Some y) b x e = inl e
