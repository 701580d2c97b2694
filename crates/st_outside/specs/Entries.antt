-- Files as a map from names to bytes, both lists of bytes, kept as a list of entries. The
-- definitions are this project's own.
use Rattle.std.specs.Prelude.{◌≡◌, ◌≢◌, ℕ, List, [], ◌∷◌, Option, Some, None, if◌then◌else◌, bytes_eq, slice_index_or, ⊤}

-- the names with their bytes
abbrev pub Entries : Type 0
Entries = List (List ℕ × List ℕ)

-- the bytes that stand under a name, or nothing where the name isn't in the map
abbrev pub bytes_of : List ℕ → Entries → Option (List ℕ)
bytes_of name [] = None
bytes_of name (e ∷ es) = if bytes_eq e.0 name then Some e.1 else bytes_of name es

-- the new map has these bytes under this name, and under each other name what the old one has
pub record Puts (old : Entries) (name bytes : List ℕ) (new : Entries) : Type 0 where
  pub here : bytes_of name new ≡ Some bytes
  pub others : (other : List ℕ) → other ≢ name → bytes_of other new ≡ bytes_of other old

-- where the map is told, the name is in it, and what is left to read is told and is that name's
-- bytes
abbrev pub Opens : Option Entries → List ℕ → Option (List ℕ) → Type 0
Opens None name left = ⊤
Opens (Some entries) name None = ⊥
Opens (Some entries) name (Some bytes) = bytes_of name entries ≡ Some bytes

-- where the map is told, the name isn't in it
abbrev pub IsAbsent : Option Entries → List ℕ → Type 0
IsAbsent None name = ⊤
IsAbsent (Some entries) name = bytes_of name entries ≡ None

-- no name stands twice
abbrev pub HasDistinctNames : Entries → Type 0
HasDistinctNames [] = ⊤
HasDistinctNames (e ∷ es) = (bytes_of e.0 es ≡ None) × HasDistinctNames es

-- the bytes of the entry at a place
abbrev pub bytes_at : Entries → ℕ → List ℕ
bytes_at entries place = (slice_index_or entries place ([], [])).1
