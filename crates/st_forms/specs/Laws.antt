-- What the definition of a time's answer says by itself, as laws.
use Rattle.std.specs.Prelude.{◌≡◌, ℕ, List, Result}
use Rattle.st_dates.specs.declared.system.System.{System}
use Rattle.st_forms.specs.Reading.{ReadsTime}
use Rattle.st_forms.specs.declared.fault.FormFault.{FormFault}
use Rattle.st_forms.specs.declared.form.Form.{Form}
use Rattle.st_forms.specs.declared.time.TimeText.{TimeText}

-- Every text is a time, or has a first refusal.
abbrev pub EachHasAnswer : Type 0
EachHasAnswer =
    (text : List ℕ) (system : System) (form : Form)
    → (answer : Result TimeText FormFault) × ReadsTime text system form answer

-- It has one answer: all its readings agree.
abbrev pub OneAnswer : Type 0
OneAnswer =
    (text : List ℕ) (system : System) (form : Form) (a b : Result TimeText FormFault)
    → ReadsTime text system form a → ReadsTime text system form b → a ≡ b
