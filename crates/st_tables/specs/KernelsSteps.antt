-- What the loaded kernels are seen as, by their parts.
use Rattle.st_tables.specs.Kernels.{Kernels}
use Rattle.st_tables.specs.Kept.{Kept}
use Rattle.st_tables.specs.Variables.{Loaded}
use Rattle.st_tables.specs.declared.kernels.Found.{Found}
use Rattle.st_tables.specs.declared.kernels.Refused.{Refused}

abbrev pub seen : Loaded → Kept → Found → Refused → Kernels
seen loaded kept found refused = record {
  loaded = loaded;
  kept = kept;
  leaps = found.leaps;
  constants = found.constants;
  clock = found.clock;
  refused = record { leaps = refused.leaps; constants = refused.constants; clock = refused.clock };
}
