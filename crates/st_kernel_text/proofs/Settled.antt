-- At the end of a line the reader stands between assignments, after a sign or in a list.
use Rattle.std.proofs.Common.{◌≡◌, ℕ, Bool, true, false, List, [], Option, Some, None, Result, Ok, Err, refl, ap, sym, ◌∙◌, subst}
use Rattle.std.specs.Prelude.{⊤}
use Rattle.std.proofs.lemmas.Bool.{cond_both, both_ways}
use Rattle.st_decimal.specs.declared.number.Dec.{Dec}
use Rattle.st_kernel_text.specs.Bytes.{is_name_byte, is_run_byte}
use Rattle.st_kernel_text.specs.Fault.{Fault}
use Rattle.st_kernel_text.specs.Faults.{Row, between, behind_sign, in_list, Stands, IsUnfinished}
use Rattle.st_kernel_text.specs.Grammar.{Data, SpellsAll}
use Rattle.st_kernel_text.specs.ParserMachine.{fresh, is_name, put_of, taken_of, step_in, step_of, finish_in, finish_of}
use Rattle.st_kernel_text.specs.ValueMachine.{number_of_run, fits}
use Rattle.st_kernel_text.specs.declared.assignment.Assignment.{Assignment}
use Rattle.st_kernel_text.specs.declared.parser.Parser.{Parser}
use Rattle.st_kernel_text.specs.declared.parser.Stage.{Stage}
use Rattle.st_kernel_text.specs.declared.parser.Stage.TheVariants.{Fresh, Name, Named, Plus, Signed, InList, Run, Quoted, Quote, Closed}
use Rattle.st_kernel_text.specs.declared.value.Value.{Value}
use Rattle.st_kernel_text.specs.declared.value.Value.TheVariants.{Number, Text}
use Rattle.st_kernel_text.proofs.Live.{Live, IsSigned, IsListed, live_between, live_naming, live_named, live_plus, live_waits, live_run, live_text, live_quote, live_closed, waits_signed, waits_listed, head_stands}
use Rattle.st_kernel_text.proofs.LiveValues.{listed_stands}
use Rattle.st_kernel_text.proofs.States.{signed}

abbrev pub is_settled : Stage → Bool
is_settled Fresh = true
is_settled Signed = true
is_settled InList = true
is_settled _ = false

pub Settles : Result Parser Fault → Type 0
Settles (Ok q) = is_settled q.stage ≡ true
Settles (Err f) = ⊤

pub settles : (q : Parser) → is_settled q.stage ≡ true → Settles (Ok q)
unfolding Settles
settles q h = h

pub settles_not : (f : Fault) → Settles (Err f)
unfolding Settles
settles_not f = tt

pub settled : (q : Parser) → Settles (Ok q) → is_settled q.stage ≡ true
unfolding Settles
settled q h = h

after_line : (o : Option ℕ) (p : Parser) (v : Value) (n : ℕ) → Settles (put_of (record p { opened = o }) v n 10)
unfolding put_of
after_line None p v n = cond_both (fits p.values v) _ _ Settles (λ f. settles _ refl) (λ f. settles_not _)
after_line (Some l) p v n = cond_both (fits p.values v) _ _ Settles (λ f. settles _ refl) (λ f. settles_not _)

taken_line : (o : Option Dec) (p : Parser) (n : ℕ) → Settles (taken_of o p n 10)
taken_line None p n = settles_not _
taken_line (Some d) p n = after_line p.opened p (Number d) n

by_stage : (s : Stage) (p : Parser) (n : ℕ) → p.stage ≡ s → Settles (step_in s p n 10)
unfolding is_name_byte is_run_byte
by_stage Fresh p n e = settles p (ap is_settled e)
by_stage Name p n e = cond_both (is_name p.name) _ _ Settles (λ h. settles_not _) (λ h. settles_not _)
by_stage Named p n e = settles_not _
by_stage Plus p n e = settles_not _
by_stage Signed p n e = settles p (ap is_settled e)
by_stage InList p n e = settles p (ap is_settled e)
by_stage Run p n e = taken_line (number_of_run p.run) p n
by_stage Quoted p n e = settles_not _
by_stage Quote p n e = after_line p.opened p (Text p.run) n
by_stage Closed p n e = settles _ refl

pub line_settles : (p : Parser) (n : ℕ) → Settles (step_of p n 10)
unfolding step_of
line_settles p n = by_stage p.stage p n refl

-- a settled state stands in a row
pub record InRow (t : Data) : Type 0 where
  pub row : Row
  pub stands : Stands row t []

unsettled : (p q : Parser) → p ≡ q → is_settled q.stage ≡ false → is_settled p.stage ≡ true → ⊥
unsettled p q e h s = both_ways (is_settled p.stage) (ap (λ (z : Parser). is_settled z.stage) e ∙ h) s

pub live_row : (t : Data) (p : Parser) → Live t p → is_settled p.stage ≡ true → InRow t
live_row t p (live_between h) s = record { row = between; stands = record { done = h.done; spells = h.spells } }
live_row t p (live_naming h) s = absurd (unsettled p _ h.is refl s)
live_row t p (live_named h) s = absurd (unsettled p _ h.is refl s)
live_row t p (live_plus h) s = absurd (unsettled p _ h.is refl s)
live_row t p (live_waits (waits_signed h)) s = record { row = behind_sign h.line; stands = head_stands h.done h.name h.mode h.line t h.head }
live_row t p (live_waits (waits_listed h)) s = record { row = in_list h.opened h.values; stands = listed_stands t p h }
live_row t p (live_run h) s = absurd (unsettled p _ h.is refl s)
live_row t p (live_text h) s = absurd (unsettled p _ h.is refl s)
live_row t p (live_quote h) s = absurd (unsettled p _ h.is refl s)
live_row t p (live_closed h) s = absurd (unsettled p _ h.is refl s)

-- what the end of the data makes of it
pub record EndsBadly (t : Data) (f : Fault) : Type 0 where
  pub row : Row
  pub stands : Stands row t []
  pub unfinished : IsUnfinished row f.line f.cause

pub Ends : Data → Result (List Assignment) Fault → Type 0
Ends t (Ok list) = SpellsAll list t
Ends t (Err f) = EndsBadly t f

pub ends_well : (t : Data) (list : List Assignment) → Ends t (Ok list) → SpellsAll list t
unfolding Ends
ends_well t list h = h

pub ends_badly : (t : Data) (f : Fault) → Ends t (Err f) → EndsBadly t f
unfolding Ends
ends_badly t f h = h

end_between : (t : Data) (done : List Assignment) → SpellsAll done t → Ends t (finish_of (fresh done))
unfolding Ends finish_in
end_between t done h = h

end_signed : (t : Data) (p : Parser) → (h : IsSigned t p) → Ends t (finish_of (signed Signed h.done h.name h.mode h.line None [] []))
unfolding Ends finish_in
end_signed t p h = record { row = behind_sign h.line; stands = head_stands h.done h.name h.mode h.line t h.head; unfinished = (refl, refl) }

end_listed : (t : Data) (p : Parser) → (h : IsListed t p) → Ends t (finish_of (signed InList h.done h.name h.mode h.line (Some h.opened) h.values []))
unfolding Ends finish_in
end_listed t p h = record { row = in_list h.opened h.values; stands = listed_stands t p h; unfinished = (refl, refl) }

pub live_end : (t : Data) (p : Parser) → Live t p → is_settled p.stage ≡ true → Ends t (finish_of p)
live_end t p (live_between h) s = subst (λ (z : Parser). Ends t (finish_of z)) (sym h.is) (end_between t h.done h.spells)
live_end t p (live_naming h) s = absurd (unsettled p _ h.is refl s)
live_end t p (live_named h) s = absurd (unsettled p _ h.is refl s)
live_end t p (live_plus h) s = absurd (unsettled p _ h.is refl s)
live_end t p (live_waits (waits_signed h)) s = subst (λ (z : Parser). Ends t (finish_of z)) (sym h.is) (end_signed t p h)
live_end t p (live_waits (waits_listed h)) s = subst (λ (z : Parser). Ends t (finish_of z)) (sym h.is) (end_listed t p h)
live_end t p (live_run h) s = absurd (unsettled p _ h.is refl s)
live_end t p (live_text h) s = absurd (unsettled p _ h.is refl s)
live_end t p (live_quote h) s = absurd (unsettled p _ h.is refl s)
live_end t p (live_closed h) s = absurd (unsettled p _ h.is refl s)
