-- The test of the range passes exactly in the range.
use Rattle.std.proofs.Common.{◌≡◌, Bool, IsTrue, ◌↔◌, sym, subst}
use Rattle.st_text.proofs.Logic.{tested, passed}
use Rattle.st_dates.specs.AtDateMachine.{is_in_range}
use Rattle.st_dates.specs.Label.{formal}
use Rattle.st_dates.specs.Range.{LiesInRange}
use Rattle.st_dates.specs.declared.label.Label.{Label}

pub in_range_is : (label : Label) (r : Bool) → r ≡ is_in_range (formal label) → IsTrue r ↔ LiesInRange label
in_range_is label r e =
    subst (λ (b : Bool). IsTrue b ↔ LiesInRange label) (sym e)
    (λ h. passed _ _ (formal label) h, λ h. tested _ _ (formal label) h.0 h.1)
