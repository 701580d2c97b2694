-- What stays the same from line to line, and what a session keeps between two lines.
use Rattle.std.specs.Prelude.{Option, List}
use Rattle.st_outside.specs.Entries.{Entries}
use Rattle.st_pool.specs.declared.kernel.Kernel.{Kernel}
use Rattle.st_words.specs.declared.job.Job.{Job}

-- the loaded list: the kernels in the order of their loading
abbrev pub Loaded : Type 0
Loaded = List Kernel

-- the files, where they tell their bytes, and the job
pub record Setting : Type 0 where
  pub files : Option Entries
  pub job : Job

-- a session between two lines: its job and its loaded list
pub record State : Type 0 where
  pub job : Job
  pub loaded : Loaded

-- what stays the same while a session answers lines over these files
abbrev pub setting : Option Entries → State → Setting
setting files session = record { files = files; job = session.job }
