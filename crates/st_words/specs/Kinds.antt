-- The types of each system, and those that are taken where none is given. Source: the CHRONOS User's Guide, on time systems and
-- types, of which these are a part; the defaults are this project's own.
use Rattle.std.specs.Prelude.{ℕ, Bool, true, false, List, codes, Option, Some, None, unwrap_or}
use Rattle.st_dates.specs.declared.system.System.{System}
use Rattle.st_dates.specs.declared.system.System.TheVariants.{Utc, Sclk}
use Rattle.st_forms.specs.declared.form.Form.TheVariants as forms
use Rattle.st_words.specs.declared.job.FromKind.{FromKind}
use Rattle.st_words.specs.declared.job.FromKind.TheVariants as sources
use Rattle.st_words.specs.declared.time_type.TimeType.{TimeType}
use Rattle.st_words.specs.declared.time_type.TimeType.TheVariants as types

-- whether times of the system are written by the type
abbrev pub is_type_of : System → TimeType → Bool
is_type_of Utc types.Scet = true
is_type_of Utc kind = false
is_type_of Sclk types.Sclk = true
is_type_of Sclk types.Ticks = true
is_type_of Sclk kind = false
is_type_of system types.Scet = true
is_type_of system types.Seconds = true
is_type_of system kind = false

-- how a source's times are written, by the type that is given
abbrev pub kind_of : TimeType → FromKind
kind_of types.Scet = sources.Time forms.Calendar
kind_of types.Seconds = sources.Time forms.Seconds
kind_of types.Sclk = sources.Clock
kind_of types.Ticks = sources.Ticks

-- the same where none is given: TAI, TT and TDB tell by the text whether it is a date or seconds
abbrev pub from_kind : System → Option TimeType → FromKind
from_kind system (Some kind) = kind_of kind
from_kind Utc None = sources.Time forms.Calendar
from_kind Sclk None = sources.Clock
from_kind system None = sources.Time forms.Any

-- the type of a target where none is given
abbrev pub default_type : System → TimeType
default_type Utc = types.Scet
default_type Sclk = types.Sclk
default_type system = types.Seconds

abbrev pub to_type : System → Option TimeType → TimeType
to_type system given = unwrap_or given (default_type system)

-- the picture of a type where none is given; clocks have none
abbrev pub default_picture : TimeType → Option (List ℕ)
default_picture types.Scet = Some (codes "YYYY-MM-DDTHR:MN:SC.###")
default_picture types.Seconds = Some (codes "SP2000.######")
default_picture kind = None
