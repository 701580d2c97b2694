use Rattle.std.proofs.Common.{◌≡◌, ◌∷◌, [], ◌++◌, Some, None, position}
use Rattle.st_outside.proofs.EntryLemmas.{has_name, Puts-found, Puts-absent, HasDistinctNames-found, HasDistinctNames-absent}
use Rattle.st_outside.proofs.file_map.put_entry.Goals as goal

pub returns-in-Some-clause-ok : goal.returns-in-Some-clause-ok
returns-in-Some-clause-ok c =
    let first : Some c.in-Some.place ≡ position (has_name c.args.name.now) c.args.entries.now.items = rw c.as_slice.ensures.value at c.in-Some.ensures in
    rw c.from_vec-bytes.ensures (Puts-found _ _ _ _ _ first c.index_mut.ensures.value)

pub returns-in-Some-clause-distinct : goal.returns-in-Some-clause-distinct
returns-in-Some-clause-distinct c =
    let first : Some c.in-Some.place ≡ position (has_name c.args.name.now) c.args.entries.now.items = rw c.as_slice.ensures.value at c.in-Some.ensures in
    HasDistinctNames-found _ _ _ _ _ first c.index_mut.ensures.value

pub returns-in_ok-push-in-None-clause-ok : goal.returns-in_ok-push-in-None-clause-ok
returns-in_ok-push-in-None-clause-ok c =
    let none : None ≡ position (has_name c.args.name.now) c.args.entries.now.items = rw c.as_slice.ensures.value at c.in-None.ensures in
    let pushed : c.push.new.self.items ≡ c.args.entries.now.items ++ (c.args.name.now, c.args.bytes.items) ∷ [] = rw (c.in_ok-name-in-None.ensures, c.from_vec-bytes.ensures) at c.in_ok-push-in-None.ensures.items in
    rw pushed (Puts-absent _ _ _ none)

pub returns-in_ok-push-in-None-clause-distinct : goal.returns-in_ok-push-in-None-clause-distinct
returns-in_ok-push-in-None-clause-distinct c =
    let none : None ≡ position (has_name c.args.name.now) c.args.entries.now.items = rw c.as_slice.ensures.value at c.in-None.ensures in
    let pushed : c.push.new.self.items ≡ c.args.entries.now.items ++ (c.args.name.now, c.args.bytes.items) ∷ [] = rw (c.in_ok-name-in-None.ensures, c.from_vec-bytes.ensures) at c.in_ok-push-in-None.ensures.items in
    rw pushed (HasDistinctNames-absent _ _ _ none)
