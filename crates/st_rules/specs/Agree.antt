-- Answers where want of memory may come at any time.
use Rattle.std.specs.Prelude.{◌≡◌, ◌≢◌, Result, Ok, Err}

-- the two answers are one, unless memory was wanting for either
abbrev pub Agree : {A E : Type 0} → E → Result A E → Result A E → Type 0
Agree out a b = a ≢ Err out → b ≢ Err out → a ≡ b

-- a value is as told, and so is a fault other than want of memory
abbrev pub GivesBut : {A E : Type 0} → E → (A → Type 0) → (E → Type 0) → Result A E → Type 0
GivesBut out Is Refuses (Ok value) = Is value
GivesBut out Is Refuses (Err fault) = fault ≢ out → Refuses fault
