-- What of the files is the cause of a refusal.
use Rattle.st_refusals.specs.declared.fault.LineFault.{LineFault}
use Rattle.st_refusals.specs.declared.fault.LineFault.TheVariants.{NoFile, FileFault, FileTooLong}

-- a file that is missing, one that can't be read, one that is too long; or nothing of the files
pub data FileCause : Type 0 where
  NoCause : FileCause
  Missing : FileCause
  Faulty : FileCause
  TooLong : FileCause

abbrev pub cause_of : LineFault → FileCause
cause_of NoFile = Missing
cause_of FileFault = Faulty
cause_of FileTooLong = TooLong
cause_of fault = NoCause
