use Rattle.std.proofs.Common.{◌≡◌, position}
use Rattle.st_outside.proofs.EntryLemmas.{has_name, bytes_of-at_place}
use Rattle.st_outside.proofs.file_map.FileMap.place_of.Goals as goal

pub returns : goal.returns
returns c =
    let first : c.find_place.result ≡ position (has_name c.args.name.now) c.args.self.now = rw (c.as_slice.ensures.value, c.self.view_is) at c.find_place.ensures in
    bytes_of-at_place c.args.name.now c.args.self.now _ first
