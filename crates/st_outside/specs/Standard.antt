-- What contracts name of standard output. The definitions are this project's own.
use Rattle.std.specs.Prelude.{ℕ, ◌≤◌, List, length, take, Option, Result, MatchResult}
use Rattle.std.specs.Io.KnownBytes.{Appends}
use Rattle.st_outside.specs.declared.standard.StdOut.{StdOut}

-- what the writer has, where it tells it
abbrev pub written : {W : Type 0} → (W → Option (List ℕ)) → StdOut W → Option (List ℕ)
written contents out = contents out.writer

-- how many writes have failed
abbrev pub faults_of : {W : Type 0} → StdOut W → ℕ
faults_of out = out.faults

-- known bytes grow by some bytes at the front of the piece
abbrev pub AppendsSome : Option (List ℕ) → Option (List ℕ) → List ℕ → Type 0
AppendsSome old new piece = (n : ℕ) × (n ≤ length piece) × Appends old new (take n piece)

-- At Ok(n) the writer got the first n bytes of the piece, and no others. At an error it may have
-- got some of its first bytes, as where it took them and its flush failed.
abbrev pub IsHanded : {E : Type 0} → Option (List ℕ) → Option (List ℕ) → Result ℕ E → List ℕ
    → Type 0
IsHanded old new result piece =
    MatchResult result (λ n. Appends old new (take n piece)) (λ _. AppendsSome old new piece)
