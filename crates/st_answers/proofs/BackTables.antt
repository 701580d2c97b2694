-- A job that leads from a clock to TDB: the tables of the way back are the same, and a clock's source is told by its tick.
use Rattle.std.proofs.Common.{◌≡◌, ℕ, Bool, true, false, ◌&&◌, ◌||◌, Option, None, Some, Result, Ok, List, refl, subst}
use Rattle.std.specs.Prelude.{not}
use Rattle.std.proofs.lemmas.Bool.{false≢true}
use Rattle.st_dates.specs.declared.system.System.{System}
use Rattle.st_dates.specs.declared.system.System.TheVariants.{Tdb, Sclk}
use Rattle.st_fraction.specs.Fraction.{Fraction}
use Rattle.st_picture.specs.Picture.{Picture}
use Rattle.st_tables.specs.Tables.{ClockGives, ConstantsGive, LeapsGive}
use Rattle.st_tables.specs.Variables.{Loaded}
use Rattle.st_tables.specs.declared.fault.TableFault.{TableFault}
use Rattle.st_words.specs.declared.job.FromKind.{FromKind}
use Rattle.st_words.specs.declared.job.FromKind.TheVariants as from
use Rattle.st_words.specs.declared.job.Job.{Job}
use Rattle.st_words.specs.declared.job.ToKind.TheVariants as to
use Rattle.st_answers.specs.Answer.{ClockTimeGives, SourceGives, back_job, source_form}
use Rattle.st_answers.specs.Asked.{AreTables, GivesWhere, Tables, in_pairs}
use Rattle.st_answers.specs.Sides.{has_clock, has_utc, is_clock, is_utc, needs_constants, share_scale}
use Rattle.st_answers.proofs.Sides.{is_of_clock}

-- the sides of a job that leads there and back
pub one-clock : (job : Job) → job.from ≡ Sclk → job.to ≡ Tdb → (is_clock job.from && is_clock job.to) ≡ false
one-clock job f t = λ i. is_clock (f i) && is_clock (t i)

no-leaps : (job : Job) → job.from ≡ Sclk → job.to ≡ Tdb → has_utc job ≡ false
no-leaps job f t = λ i. is_utc (f i) || is_utc (t i)

pub asks-constants : (job : Job) → job.from ≡ Sclk → job.to ≡ Tdb → needs_constants job ≡ true
asks-constants job f t = λ i. not (share_scale (f i) (t i))

asks-clock : (job : Job) → job.from ≡ Sclk → job.to ≡ Tdb → has_clock job ≡ true
asks-clock job f t = λ i. is_clock (f i) || is_clock (t i)

-- the tables of the way back are the same
pub back-tables : (job : Job) (loaded : Loaded) (tables : Tables) → job.from ≡ Sclk → job.to ≡ Tdb → AreTables job loaded tables → AreTables (back_job job) loaded tables
back-tables job loaded tables f t are = record {
  leaps = subst (λ (b : Bool). GivesWhere b (λ r. LeapsGive loaded (in_pairs r)) (Ok tables.leaps)) (no-leaps job f t) are.leaps;
  constants = subst (λ (b : Bool). GivesWhere b (ConstantsGive loaded) (Ok tables.constants)) (asks-constants job f t) are.constants;
  clock = subst (λ (b : Bool). GivesWhere b (λ r. (n : ℕ) × (job.clock ≡ Some n) × ClockGives n loaded r) (Ok tables.clock)) (asks-clock job f t) are.clock;
}

pub has-some : {T : Type 0} (b : Bool) (P : Result T TableFault → Type 0) → b ≡ true → (o : Option T) → GivesWhere b P (Ok o) → (x : T) × (o ≡ Some x)
has-some true P e None h = absurd h
has-some true P e (Some x) h = (x, refl)
has-some false P e o h = absurd (false≢true e)

-- a clock's source
pub clock-source : (form : FromKind) (system : System) (tables : Tables) (text : List ℕ) (r : Fraction) → is_of_clock form ≡ true → SourceGives form system tables text (Ok r)
    → ClockTimeGives tables (source_form form) text (Ok r)
clock-source (from.Time form) system tables text r e h = absurd (false≢true e)
clock-source from.Clock system tables text r e h = h
clock-source from.Ticks system tables text r e h = h

pub same-picture : (p q : Picture) → to.Pictured p ≡ to.Pictured q → p ≡ q
same-picture p q e = cc
