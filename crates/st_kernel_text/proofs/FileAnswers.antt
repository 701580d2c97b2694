-- Every file has an answer, and one.
use Rattle.std.proofs.Common.{◌≡◌, ◌≢◌, ℕ, Result, Ok, Err, List, refl}
use Rattle.st_kernel_text.specs.Fault.{Fault}
use Rattle.st_kernel_text.specs.File.{Reads, Agree}
use Rattle.st_kernel_text.specs.LinesMachine.{read_of}
use Rattle.st_kernel_text.specs.declared.assignment.Assignment.{Assignment}
use Rattle.st_kernel_text.specs.declared.fault.TextFault.{TextFault}
use Rattle.st_kernel_text.specs.declared.fault.TextFault.TheVariants.{At, OutOfMemory}
use Rattle.st_kernel_text.proofs.FileLaws as file

answers : (m : Result (List Assignment) Fault) → file.answer_of m ≢ Err OutOfMemory
answers (Ok list) = λ (h : Ok list ≡ Err OutOfMemory). cc
answers (Err f) = λ (h : Err (At f.line f.cause) ≡ Err OutOfMemory). cc

pub each-file-has-answer : (bytes : List ℕ) → (r : Result (List Assignment) TextFault) × Reads bytes r × (r ≢ Err OutOfMemory)
each-file-has-answer bytes = (file.answer_of (read_of bytes), file.some_answer bytes, answers (read_of bytes))

agreed : (r a : Result (List Assignment) TextFault) → Agree r a → r ≢ Err OutOfMemory → a ≢ Err OutOfMemory → r ≡ a
agreed (Ok x) (Ok y) h nr na = h
agreed (Ok x) (Err (At m d)) h nr na = h
agreed (Err (At n c)) (Ok y) h nr na = h
agreed (Err (At n c)) (Err (At m d)) h nr na = h
agreed (Err OutOfMemory) a h nr na = absurd (nr refl)
agreed r (Err OutOfMemory) h nr na = absurd (na refl)

pub one-answer : (bytes : List ℕ) (r s : Result (List Assignment) TextFault) → Reads bytes r → Reads bytes s → r ≢ Err OutOfMemory → s ≢ Err OutOfMemory → r ≡ s
one-answer bytes r s h k nr ns = agreed r s (file.one_answer bytes r s h k) nr ns
