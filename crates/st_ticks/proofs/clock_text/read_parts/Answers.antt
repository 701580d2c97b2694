use Rattle.std.proofs.Common.{◌≡◌, ℕ, List, Some, None, refl, sym, ap}
use Rattle.st_text.specs.Lines.{skip_blanks}
use Rattle.st_ticks.specs.ReadingMachine.{capped}
use Rattle.st_ticks.specs.TextMachine.{partition_in, parts_of}
use Rattle.st_ticks.specs.ValuesSteps.{HoldsText}
use Rattle.st_ticks.specs.WrittenSteps.{HoldsParts}
use Rattle.st_ticks.specs.declared.values.Values.{Values}
use Rattle.st_ticks.proofs.clock_text.read_parts.Goals as goal

with_partition : (text t d u : List ℕ) (n : ℕ) (v : Values) → t ≡ skip_blanks text → partition_in t ≡ Some (d, u) → n ≡ capped d → HoldsText u v
    → HoldsParts text (record { partition = Some n; values = v })
unfolding parts_of
with_partition text t d u n v e p c h = record {
  parts = record { partition = Some d; fields = h.fields };
  parts_are = rw (sym e, p, h.runs_are) refl;
  partition_is = ap (λ (x : ℕ). Some x) c;
  values_are = h.holds;
}

without_partition : (text t : List ℕ) (v : Values) → t ≡ skip_blanks text → partition_in t ≡ None → HoldsText t v
    → HoldsParts text (record { partition = None; values = v })
unfolding parts_of
without_partition text t v e p h = record {
  parts = record { partition = None; fields = h.fields };
  parts_are = rw (sym e, p, h.runs_are) refl;
  partition_is = refl;
  values_are = h.holds;
}

pub returns-in_ok-values-in-Some : goal.returns-in_ok-values-in-Some
returns-in_ok-values-in-Some c =
    with_partition c.args.text.now c.skip_blanks-text.result.now c.in-Some.digits.now c.in-Some.rest.now c.capped_number.result c.in_ok-values-in-Some.values
    c.skip_blanks-text.ensures c.in-Some.ensures.value c.capped_number.ensures.value c.in_ok-values-in-Some.ensures

pub returns-in_ok-values-in-None : goal.returns-in_ok-values-in-None
returns-in_ok-values-in-None c =
    without_partition c.args.text.now c.skip_blanks-text.result.now c.in_ok-values-in-None.values
    c.skip_blanks-text.ensures c.in-None.ensures.value c.in_ok-values-in-None.ensures
