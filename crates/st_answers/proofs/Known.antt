-- What the crates below say of values, cells, ticks and clocks, brought together; the clocks that kernels give are clocks.
use Rattle.std.proofs.Common.{◌≡◌, inl, inr, ℕ, ◌≤◌, ◌^◌, true, false, Option, Some, None, Ok, List, [], ◌∷◌, ◌++◌, sum_by, Bool, sym, ◌∙◌, subst, arith}
use Rattle.std.proofs.lemmas.Bool.{false≢true}
use Rattle.std.proofs.lemmas.Int.{ints}
use Rattle.st_clock.specs.Clock.{Clock as TheClock, IsClock}
use Rattle.st_clock.proofs.ClockLaws.{parts_give_clock}
use Rattle.st_clock.proofs.Falls.{tick_is_found, tick_rises}
use Rattle.st_leaps.specs.Laws.{EachTableCounts, EvenDaysCount}
use Rattle.st_leaps.proofs.CountLaws.{tables_count}
use Rattle.st_leaps.proofs.LabelLaws.{one_label}
use Rattle.st_picture.proofs.CellLaws.{each_has_cell, never_falls}
use Rattle.st_picture.proofs.TextLaws.{cells_are_of_unit, one_text}
use Rattle.st_routes.specs.LawSteps.{AreKnown}
use Rattle.st_routes.specs.Laws.{ExactIsDecided}
use Rattle.st_routes.specs.declared.route.Route.TheVariants.{Same, Scales}
use Rattle.st_scales.proofs.Routes.{route_agrees, route_exact, route_known, route_near}
use Rattle.st_tables.specs.Tables.{ClockGives}
use Rattle.st_tables.specs.Variables.{Loaded}
use Rattle.st_ticks.specs.Face.{Face, IsDelimiter, IsFace, ticks_in}
use Rattle.st_rules.specs.Rules.{AreKept}
use Rattle.st_ticks.specs.Variables.{Keeps, MakesFace, Numbers, first_rules, rule}
use Rattle.st_ticks.specs.declared.field.Partition.{Partition}
use Rattle.st_ticks.specs.declared.variable.ClockFault.{ClockFault}
use Rattle.st_ticks.specs.declared.variable.ClockVar.TheVariants.{End}
use Rattle.st_ticks.specs.declared.variable.ClockWhy.TheVariants.{Product, Range}
use Rattle.st_ticks.proofs.FaceLaws.{canonical_is_one}
use Rattle.st_ticks.proofs.MadeLaws.{ends_are_one}
use Rattle.st_ticks.proofs.SoundLaws.{delimiter_good, is_face}
use Rattle.st_words.specs.declared.job.Job.{Job}
use Rattle.st_answers.specs.Asked.{AreTables, GivesWhere, Tables}
use Rattle.st_answers.specs.Sides.{has_clock}
use Rattle.st_answers.proofs.Found.{ok-is, some-is}

pub tables-count : EachTableCounts
tables-count table = tables_count table.pairs.items table.is_table

pub even-days-count : EvenDaysCount
even-days-count = record { from = λ day. omega (arith, ints); to = λ day. omega (arith, ints) }

pub known : AreKnown
known = record {
  agree = route_agrees;
  exact = route_exact;
  known = route_known;
  near = route_near;
  tables = tables-count;
  even = even-days-count;
  one_label = one_label;
  cells_rise = never_falls;
  cell_found = each_has_cell;
  cell_of_unit = cells_are_of_unit;
  one_text = one_text;
  ticks_rise = tick_rises;
  tick_found = tick_is_found;
  canonical = canonical_is_one;
}

pub decided : ExactIsDecided
decided Same r target none may = absurd may.sine
decided (Scales c from to) r target (inl e) may = absurd (false≢true (sym e ∙ may.sine.crosses))
decided (Scales c from to) r target (inr e) may = absurd (may.sine.k_some e)

-- a face that keeps all rules
kept-before : {R : Type 0} (K : R → Type 0) (xs ys : List R) → AreKept K (xs ++ ys) → AreKept K xs
kept-before K [] ys h = tt
kept-before K (x ∷ xs) ys h = (h.0, kept-before K xs ys h.1)

kept-behind : {R : Type 0} (K : R → Type 0) (xs ys : List R) → AreKept K (xs ++ ys) → AreKept K ys
kept-behind K [] ys h = h
kept-behind K (x ∷ xs) ys h = kept-behind K xs ys h.1

abbrev late_rules : List ClockFault
late_rules = rule End Range ∷ rule End Product ∷ []

made-face : (n : Numbers) (face : Face) → MakesFace n (Ok face) → IsFace face
made-face n face h =
    let late = kept-behind (Keeps n) first_rules late_rules h.0 in
    let product = late.1.0 in
    is_face n face (kept-before (Keeps n) first_rules late_rules h.0) h.1.moduli h.1.offsets h.1.partitions
    (subst IsDelimiter (sym h.1.delimiter) (delimiter_good h.1.code))
    (subst (λ (ps : List Partition). sum_by ticks_in ps ≤ 10 ^ 18) (ends_are_one n.starts n.ends product.0 face.partitions product.1 h.1.partitions) product.2)

given-clock : (n : ℕ) (loaded : Loaded) (clock : TheClock) → ClockGives n loaded (Ok clock) → IsClock clock
given-clock n loaded clock given = parts_give_clock clock.face _ _ _ clock (made-face _ clock.face given.1.0) given.1.1

none-some : (clock : TheClock) → ◌≡◌ {A = Option TheClock} None (Some clock) → ⊥
none-some clock e = absurd cc

-- the clock of a job's tables is one
pub clock-is : (job : Job) (loaded : Loaded) (tables : Tables) (clock : TheClock) → AreTables job loaded tables → tables.clock ≡ Some clock → IsClock clock
clock-is job loaded tables clock are is = by (has_clock job) tables.clock are.clock is
  where
    by : (b : Bool) (o : Option TheClock) → GivesWhere b (λ r. (n : ℕ) × (job.clock ≡ Some n) × ClockGives n loaded r) (Ok o) → o ≡ Some clock → IsClock clock
    by true None h e = absurd h
    by true (Some k) (n, id, given) e = subst IsClock (some-is k clock e) (given-clock n loaded k given)
    by false o h e = absurd (none-some clock (sym (ok-is o None h) ∙ e))
