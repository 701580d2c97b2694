-- What a table shows: its pairs, and the count of a day.
use Rattle.std.specs.Prelude.{ℤ, List, Result, Ok, Err}
use Rattle.st_leaps.specs.Table.{count_on}
use Rattle.st_leaps.specs.declared.fault.LeapFault.{LeapFault}
use Rattle.st_leaps.specs.declared.pair.LeapPair.{LeapPair}
use Rattle.st_leaps.specs.declared.table.LeapTable.{LeapTable}

abbrev pub pairs_of : LeapTable → List LeapPair
pairs_of table = table.pairs.items

abbrev pub count_of : LeapTable → ℤ → ℤ
count_of table = count_on (pairs_of table)

-- the pairs of an answer that is a table, or its fault
abbrev pub answer_of : Result LeapTable LeapFault → Result (List LeapPair) LeapFault
answer_of (Ok table) = Ok (pairs_of table)
answer_of (Err fault) = Err fault
