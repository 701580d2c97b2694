-- The two sides of a job, and the tables that they ask for.
use Rattle.std.specs.Prelude.{Bool, true, false, ◌||◌, not}
use Rattle.st_dates.specs.declared.system.System.{System}
use Rattle.st_dates.specs.declared.system.System.TheVariants.{Utc, Tai, Tt, Tdb, Sclk}
use Rattle.st_scales.specs.declared.scale.Scale.{Scale}
use Rattle.st_scales.specs.declared.scale.Scale.TheVariants as scales
use Rattle.st_words.specs.declared.job.Job.{Job}

abbrev pub is_utc : System → Bool
is_utc Utc = true
is_utc Tai = false
is_utc Tt = false
is_utc Tdb = false
is_utc Sclk = false

abbrev pub is_clock : System → Bool
is_clock Utc = false
is_clock Tai = false
is_clock Tt = false
is_clock Tdb = false
is_clock Sclk = true

abbrev pub has_utc : Job → Bool
has_utc job = is_utc job.from || is_utc job.to

abbrev pub has_clock : Job → Bool
has_clock job = is_clock job.from || is_clock job.to

-- whether two systems are told by one scale without constants: they are one system, or UTC and TAI
abbrev pub share_scale : System → System → Bool
share_scale Utc Utc = true
share_scale Utc Tai = true
share_scale Tai Utc = true
share_scale Tai Tai = true
share_scale Tt Tt = true
share_scale Tdb Tdb = true
share_scale Sclk Sclk = true
share_scale from to = false

abbrev pub needs_constants : Job → Bool
needs_constants job = not (share_scale job.from job.to)

-- the scale of a system's times; UTC's are told by TAI. A clock has a scale of its own.
abbrev pub scale_of : System → Scale
scale_of Utc = scales.Tai
scale_of Tai = scales.Tai
scale_of Tt = scales.Tt
scale_of Tdb = scales.Tdb
scale_of Sclk = scales.Tdb
