use Rattle.std.proofs.Common.{◌≡◌, ◌≢◌, false, List, ℕ, codes, refl, sym, ◌∙◌, inr}
use Rattle.std.proofs.lemmas.Bool.Decides.{not_from_Decides}
use Rattle.std.proofs.lemmas.Slice.Eq.{bytes_eq-Decides}
use Rattle.std.specs.Str.{bytes_eq}
use Rattle.st_batch.specs.Commands.{IsLoad, IsUnload}
use Rattle.st_batch.proofs.command.answer_command.Goals as goal

-- texts that the test tells apart differ
differ : (text word slice : List ℕ) → false ≡ bytes_eq text slice → slice ≡ word → text ≢ word
differ text word slice test is_word same =
    not_from_Decides (bytes_eq text slice) (bytes_eq-Decides text slice) (sym test) (same ∙ sym is_word)

pub returns-clause-answered : goal.returns-clause-answered
returns-clause-answered g c =
    let load : (name : List ℕ) → IsLoad c.args.text.now name → ⊥ = c.in_default.ensures.none refl in
    let unload : (name : List ℕ) → IsUnload c.args.text.now name → ⊥ = c.in_default-name_behind.ensures.none refl in
    let clear = differ c.args.text.now (codes "$clear") c.as_slice.result.now c.if-eq.ensures c.as_slice.ensures in
    inr (inr (inr (record { load = load; unload = unload; clear = clear }, refl, refl)))
