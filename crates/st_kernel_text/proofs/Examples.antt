-- Small files, by the reader's machine.
use Rattle.std.proofs.Common.{◌≡◌, ℕ, List, [], ◌∷◌, ◌++◌, Ok, refl}
use Rattle.std.specs.Prelude.{codes, pos}
use Rattle.st_text.specs.Scan as scan
use Rattle.st_text.specs.Lines.{lines_of, without_cr}
use Rattle.st_decimal.specs.NumberMachine.{dec_of, stop_of, kind_of, value_of, pieces_of, scaled_dec}
use Rattle.st_kernel_text.specs.Bytes.{is_name_byte, is_run_byte, is_allowed}
use Rattle.st_kernel_text.specs.Fault.{fails}
use Rattle.st_kernel_text.specs.File.{is_marker}
use Rattle.st_kernel_text.specs.LinesMachine.{line_of, read_of}
use Rattle.st_kernel_text.specs.ParserMachine.{is_name, ends_in_plus, put_of, step_of, finish_in}
use Rattle.st_kernel_text.specs.ValueMachine.{number_of_run}
use Rattle.st_kernel_text.specs.declared.assignment.Mode.TheVariants.{Set, Add}
use Rattle.st_kernel_text.specs.declared.fault.TextCause.TheVariants.{NoName, NoSign, NoValue, BadNumber, BadString, MixedKinds, Unclosed, BadByte, TrailingText}
use Rattle.st_kernel_text.specs.declared.value.Value.TheVariants.{Number, Text}

-- a file whose second line this is, the first being the marker of data
beginning : List ℕ → List ℕ
beginning line = (codes "\\begindata" ++ 10 ∷ []) ++ line

text_value : read_of (beginning (codes "X = 'it''s'")) ≡ Ok (record { name = codes "X"; mode = Set; values = Text (codes "it's") ∷ [] } ∷ [])
unfolding beginning lines_of without_cr is_marker line_of is_allowed step_of is_name_byte is_run_byte is_name ends_in_plus put_of finish_in
text_value = refl

empty_text : read_of (beginning (codes "X=''")) ≡ Ok (record { name = codes "X"; mode = Set; values = Text [] ∷ [] } ∷ [])
unfolding beginning lines_of without_cr is_marker line_of is_allowed step_of is_name_byte is_run_byte is_name ends_in_plus put_of finish_in
empty_text = refl

strings : read_of (beginning (codes "X += ( , 'a','b' )")) ≡ Ok (record { name = codes "X"; mode = Add; values = Text (codes "a") ∷ (Text (codes "b") ∷ []) } ∷ [])
unfolding beginning lines_of without_cr is_marker line_of is_allowed step_of is_name_byte is_run_byte is_name ends_in_plus put_of finish_in
strings = refl

added : read_of (beginning (codes "X+=1")) ≡ Ok (record { name = codes "X"; mode = Add; values = Number (record { digits = pos 1; tens = pos 0 }) ∷ [] } ∷ [])
unfolding beginning lines_of without_cr is_marker line_of is_allowed step_of is_name_byte is_run_byte is_name ends_in_plus put_of finish_in number_of_run dec_of stop_of kind_of value_of pieces_of scaled_dec scan.leading scan.behind
added = refl

no_name : read_of (beginning (codes "X++=1")) ≡ fails 2 NoName
unfolding beginning lines_of without_cr is_marker line_of is_allowed step_of is_name_byte is_run_byte is_name ends_in_plus put_of finish_in
no_name = refl

no_sign : read_of (beginning (codes "X")) ≡ fails 2 NoSign
unfolding beginning lines_of without_cr is_marker line_of is_allowed step_of is_name_byte is_run_byte is_name ends_in_plus put_of finish_in
no_sign = refl

plus_alone : read_of (beginning (codes "X + = 1")) ≡ fails 2 NoSign
unfolding beginning lines_of without_cr is_marker line_of is_allowed step_of is_name_byte is_run_byte is_name ends_in_plus put_of finish_in
plus_alone = refl

empty_list : read_of (beginning (codes "X = ( )")) ≡ fails 2 NoValue
unfolding beginning lines_of without_cr is_marker line_of is_allowed step_of is_name_byte is_run_byte is_name ends_in_plus put_of finish_in
empty_list = refl

nested_list : read_of (beginning (codes "X = ((1)")) ≡ fails 2 BadNumber
unfolding beginning lines_of without_cr is_marker line_of is_allowed step_of is_name_byte is_run_byte is_name ends_in_plus put_of finish_in
nested_list = refl

comma_for_a_value : read_of (beginning (codes "X = , 1")) ≡ fails 2 BadNumber
unfolding beginning lines_of without_cr is_marker line_of is_allowed step_of is_name_byte is_run_byte is_name ends_in_plus put_of finish_in
comma_for_a_value = refl

open_text : read_of (beginning (codes "X = 'a")) ≡ fails 2 BadString
unfolding beginning lines_of without_cr is_marker line_of is_allowed step_of is_name_byte is_run_byte is_name ends_in_plus put_of finish_in
open_text = refl

text_and_name : read_of (beginning (codes "X = 'a'b")) ≡ fails 2 BadString
unfolding beginning lines_of without_cr is_marker line_of is_allowed step_of is_name_byte is_run_byte is_name ends_in_plus put_of finish_in
text_and_name = refl

two_texts : read_of (beginning (codes "X = 'a', 'b'")) ≡ fails 2 TrailingText
unfolding beginning lines_of without_cr is_marker line_of is_allowed step_of is_name_byte is_run_byte is_name ends_in_plus put_of finish_in
two_texts = refl

mixed : read_of (beginning (codes "X = ( 'a', 1 )")) ≡ fails 2 MixedKinds
unfolding beginning lines_of without_cr is_marker line_of is_allowed step_of is_name_byte is_run_byte is_name ends_in_plus put_of finish_in number_of_run dec_of stop_of kind_of value_of pieces_of scaled_dec scan.leading scan.behind
mixed = refl

unclosed : read_of (beginning (codes "X = ( 'a',")) ≡ fails 2 Unclosed
unfolding beginning lines_of without_cr is_marker line_of is_allowed step_of is_name_byte is_run_byte is_name ends_in_plus put_of finish_in
unclosed = refl

no_value : read_of (beginning (codes "X =")) ≡ fails 2 NoValue
unfolding beginning lines_of without_cr is_marker line_of is_allowed step_of is_name_byte is_run_byte is_name ends_in_plus put_of finish_in
no_value = refl

-- a list goes on after commentary, and the lines of commentary count
over_commentary : read_of (beginning (codes "X = (" ++ (10 ∷ codes "\\begintext") ++ (10 ∷ codes "= ( '") ++ (10 ∷ codes "\\begindata") ++ (10 ∷ codes "'a')")))
    ≡ Ok (record { name = codes "X"; mode = Set; values = Text (codes "a") ∷ [] } ∷ [])
unfolding beginning lines_of without_cr is_marker line_of is_allowed step_of is_name_byte is_run_byte is_name ends_in_plus put_of finish_in
over_commentary = refl

late_fault : read_of (beginning (codes "X = (" ++ (10 ∷ codes "\\begintext") ++ (10 ∷ codes "= ( '") ++ (10 ∷ codes "\\begindata") ++ (10 ∷ codes "'a' ()")))
    ≡ fails 6 BadNumber
unfolding beginning lines_of without_cr is_marker line_of is_allowed step_of is_name_byte is_run_byte is_name ends_in_plus put_of finish_in
late_fault = refl

bad_byte : read_of (beginning (codes "X = (" ++ (10 ∷ (127 ∷ [])))) ≡ fails 3 BadByte
unfolding beginning lines_of without_cr is_marker line_of is_allowed step_of is_name_byte is_run_byte is_name ends_in_plus put_of finish_in
bad_byte = refl

empty_file : read_of [] ≡ Ok []
unfolding beginning lines_of without_cr is_marker line_of is_allowed step_of is_name_byte is_run_byte is_name ends_in_plus put_of finish_in
empty_file = refl

no_data : read_of (codes "KPL/LSK" ++ (10 ∷ codes "X = (")) ≡ Ok []
unfolding beginning lines_of without_cr is_marker line_of is_allowed step_of is_name_byte is_run_byte is_name ends_in_plus put_of finish_in
no_data = refl
