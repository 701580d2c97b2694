-- Small loaded lists, by the definitions.
use Rattle.std.proofs.Common.{◌≡◌, ℕ, List, [], ◌∷◌, false, refl}
use Rattle.std.specs.Prelude.{codes, pos}
use Rattle.st_kernel_text.specs.declared.assignment.Assignment.{Assignment}
use Rattle.st_kernel_text.specs.declared.assignment.Mode.{Mode}
use Rattle.st_kernel_text.specs.declared.assignment.Mode.TheVariants.{Set, Add}
use Rattle.st_kernel_text.specs.declared.value.Value.{Value}
use Rattle.st_kernel_text.specs.declared.value.Value.TheVariants.{Number, Text}
use Rattle.st_pool.specs.declared.kernel.Kernel.{Kernel}
use Rattle.st_pool.specs.declared.kind.Kind.TheVariants.{Absent, Numbers, Texts, Mixed}
use Rattle.st_pool.specs.declared.place.Place.{Place}
use Rattle.st_pool.specs.Places.{loaded_places}
use Rattle.st_pool.specs.Loaded.{is_loaded, without_last, loaded_count}
use Rattle.st_pool.specs.Variable.{loaded_values, loaded_kind}

number : ℕ → Value
number n = Number (record { digits = pos n; tens = pos 0 })

text : Value
text = Text (codes "text")

assigned : List ℕ → Mode → Value → Assignment
assigned name mode value = record { name = name; mode = mode; values = value ∷ [] }

-- two kernels of the name a, and one of the name b between them
first : Kernel
first = record { name = codes "a"; assignments = assigned (codes "X") Add (number 1) ∷ (assigned (codes "Y") Set text ∷ []) }

second : Kernel
second = record { name = codes "b"; assignments = assigned (codes "X") Add (number 2) ∷ (assigned (codes "Y") Add (number 5) ∷ []) }

third : Kernel
third = record { name = codes "a"; assignments = assigned (codes "X") Set (number 3) ∷ (assigned (codes "X") Add (number 4) ∷ []) }

last-goes : without_last (codes "a") (first ∷ (second ∷ (third ∷ []))) ≡ first ∷ (second ∷ [])
unfolding first second third
last-goes = refl

only-goes : without_last (codes "b") (first ∷ (second ∷ (third ∷ []))) ≡ first ∷ (third ∷ [])
unfolding first second third
only-goes = refl

not-loaded : is_loaded (codes "c") (first ∷ (second ∷ (third ∷ []))) ≡ false
unfolding first second third
not-loaded = refl

six-values : loaded_count (first ∷ (second ∷ (third ∷ []))) ≡ 6
unfolding first second third assigned
six-values = refl

added-alone : loaded_values (codes "X") (first ∷ (second ∷ [])) ≡ number 1 ∷ (number 2 ∷ [])
unfolding first second assigned
added-alone = refl

set-and-added : loaded_values (codes "X") (first ∷ (second ∷ (third ∷ []))) ≡ number 3 ∷ (number 4 ∷ [])
unfolding first second third assigned
set-and-added = refl

set-and-then-added-by-another : loaded_values (codes "X") (third ∷ (first ∷ [])) ≡ number 3 ∷ (number 4 ∷ (number 1 ∷ []))
unfolding first third assigned
set-and-then-added-by-another = refl

absent : loaded_kind (codes "Z") (first ∷ (second ∷ [])) ≡ Absent
unfolding first second assigned
absent = refl

numbers : loaded_kind (codes "X") (first ∷ (second ∷ [])) ≡ Numbers
unfolding first second assigned number
numbers = refl

texts : loaded_kind (codes "Y") (first ∷ []) ≡ Texts
unfolding first assigned text
texts = refl

mixed : loaded_kind (codes "Y") (first ∷ (second ∷ [])) ≡ Mixed
unfolding first second assigned number text
mixed = refl

place : ℕ → ℕ → Place
place k a = record { kernel = k; assignment = a }

places : loaded_places (codes "X") (first ∷ (second ∷ (third ∷ []))) ≡ place 0 0 ∷ (place 1 0 ∷ (place 2 0 ∷ (place 2 1 ∷ [])))
unfolding first second third assigned place
places = refl

later-places : loaded_places (codes "X") (without_last (codes "b") (first ∷ (second ∷ (third ∷ [])))) ≡ place 0 0 ∷ (place 1 0 ∷ (place 1 1 ∷ []))
unfolding first second third assigned place
later-places = refl

second-places : loaded_places (codes "Y") (first ∷ (second ∷ (third ∷ []))) ≡ place 0 1 ∷ (place 1 1 ∷ [])
unfolding first second third assigned place
second-places = refl

no-places : loaded_places (codes "Z") (first ∷ (second ∷ (third ∷ []))) ≡ []
unfolding first second third assigned
no-places = refl
