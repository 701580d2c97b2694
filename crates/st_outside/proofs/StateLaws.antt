-- How calls on files follow one another.
use Rattle.std.proofs.Common.{◌≡◌, ◌∙◌, refl, true, false, subst, arith}
use Rattle.st_outside.specs.Causes.{AreLater, FileCounts}
use Rattle.st_outside.specs.States.{FilesState, KeepsFiles}

-- no count has fallen where none has changed
pub AreLater-same : (counts : FileCounts) → AreLater counts counts
AreLater-same counts = record { misses = omega arith; faults = omega arith; taken = omega arith }

pub AreLater-trans : (a b c : FileCounts) → AreLater a b → AreLater b c → AreLater a c
AreLater-trans a b c first second = record {
  misses = omega (arith, first.misses, second.misses);
  faults = omega (arith, first.faults, second.faults);
  taken = omega (arith, first.taken, second.taken);
}

-- files that nothing has touched are kept
pub KeepsFiles-same : (s : FilesState) → KeepsFiles s s
KeepsFiles-same s = record { map = refl; counts = AreLater-same s.counts; closed = λ _. refl }

-- what keeps the map, lowers no count and leaves no file open keeps the files
pub KeepsFiles-closed : (before after : FilesState) → after.map ≡ before.map
    → AreLater before.counts after.counts → after.opened ≡ false → KeepsFiles before after
KeepsFiles-closed before after map counts closed =
    record { map = map; counts = counts; closed = λ open_still. cc (closed, open_still) }

pub KeepsFiles-trans : (a b c : FilesState) → KeepsFiles a b → KeepsFiles b c → KeepsFiles a c
KeepsFiles-trans a b c first second =
    let IsOpen : FilesState → Type 0 = λ s. s.opened ≡ true in
    record {
      map = second.map ∙ first.map;
      counts = AreLater-trans _ _ _ first.counts second.counts;
      closed = λ opened.
          second.closed opened ∙ first.closed (subst IsOpen (second.closed opened) opened);
    }
