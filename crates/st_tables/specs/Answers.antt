-- What an answer that borrows a table shows.
use Rattle.std.specs.Prelude.{Result, Ok, Err}
use Rattle.std.specs.Borrow.{Bor}

abbrev pub shown : {A B E : Type 0} → (A → B) → Result (Bor A) E → Result B E
shown view (Ok table) = Ok (view table.now)
shown view (Err fault) = Err fault
