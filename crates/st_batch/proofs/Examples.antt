-- The definitions of the session on worked values.
use Rattle.std.proofs.Common.{◌≡◌, ℕ, zero, suc, ◌<◌, inl, inr, false, Some, Err, List, [], ◌∷◌, ◌++◌, codes, refl, lit<, arith}
use Rattle.std.proofs.lemmas.Str.{IsUtf8-from_ascii}
use Rattle.std.specs.Str.{IsAscii}
use Rattle.st_dates.specs.declared.system.System.TheVariants.{Tdb, Sclk}
use Rattle.st_forms.specs.declared.form.Form.TheVariants.{Seconds}
use Rattle.st_pool.specs.declared.kernel.Kernel.{Kernel}
use Rattle.st_text.specs.Lines.{without_cr}
use Rattle.st_batch.specs.declared.answer.Answer.TheVariants.{Text, Refused}
use Rattle.st_refusals.specs.declared.kernel_fault.KernelFault.TheVariants as kernel_fault
use Rattle.st_refusals.specs.declared.fault.LineFault.TheVariants.{NoFile, NotLoaded}
use Rattle.st_words.specs.declared.job.FromKind.TheVariants as from
use Rattle.st_words.specs.declared.job.ToKind.TheVariants as to
use Rattle.st_words.specs.declared.job.Work.TheVariants.{Batch}
use Rattle.st_batch.specs.declared.status.Status.TheVariants.{SomeRefused}
use Rattle.st_batch.specs.Commands.{IsLoad, IsUnload}
use Rattle.st_batch.specs.Outcome.{HaveEnded, status_of}
use Rattle.st_batch.specs.Session.{RunsTo}
use Rattle.st_batch.specs.Setting.{Setting}
use Rattle.st_batch.specs.Setup.{SetupGives}
use Rattle.st_batch.specs.Texts.{line_of}
use Rattle.st_batch.proofs.CutLaws.{cuts-begun, cuts-join, cuts-line}

abbrev kernel : List ℕ → Kernel
kernel name = record { name = name; assignments = [] }

ascii-none : IsAscii []
ascii-none i = lit< tt

ascii : (b : ℕ) (bs : List ℕ) → b < 128 → IsAscii bs → IsAscii (b ∷ bs)
ascii b bs h k zero = h
ascii b bs h k (suc i) = k i

-- the name of `$load` stands after all blanks
load_names : IsLoad (codes "$load  a b") (codes "a b")
load_names = record {
  blanks = 32 ∷ 32 ∷ [];
  spelled = refl;
  some = lit< tt;
  blank = refl;
  behind = refl;
  is_name = record { some = lit< tt; short = omega arith; utf8 = IsUtf8-from_ascii (codes "a b") (ascii 97 (32 ∷ 98 ∷ []) (lit< tt) (ascii 32 (98 ∷ []) (lit< tt) (ascii 98 [] (lit< tt) ascii-none))) };
}

unload_names : IsUnload (codes "$unload a") (codes "a")
unload_names = record {
  blanks = 32 ∷ [];
  spelled = refl;
  some = lit< tt;
  blank = refl;
  behind = refl;
  is_name = record { some = lit< tt; short = omega arith; utf8 = IsUtf8-from_ascii (codes "a") (ascii 97 [] (lit< tt) ascii-none) };
}

-- what stays the same: there are no files, and ephemeris seconds go to strings of the clock -82
abbrev here : Setting
here = record {
  files = Some [];
  job = record { setup = codes "s"; from = Tdb; form = from.Time Seconds; to = Sclk; shape = to.Clock; clock = Some 82; work = Batch; back = false };
}

-- a setup whose file isn't there is refused
pub no_setup : SetupGives here (Err NoFile)
no_setup = inl (kernel_fault.NoFile, refl, refl)

-- a session without files: a kernel that was loaded twice is unloaded once, none is left after `$clear`, and none can be loaded
pub session : RunsTo here (kernel (codes "a") ∷ kernel (codes "b") ∷ kernel (codes "a") ∷ []) (codes "$unload a" ∷ codes " $clear\t" ∷ codes "$unload a" ∷ codes "$load  a b" ∷ [])
    (Text (codes "unloaded") ∷ Text (codes "cleared") ∷ Refused NotLoaded ∷ Refused NoFile ∷ []) []
session = (
  kernel (codes "a") ∷ kernel (codes "b") ∷ [],
  inr (omega arith, inl (refl, inr (inl (codes "a", unload_names, record { answered = refl; left = refl })))),
  (
    [],
    inr (omega arith, inl (refl, inr (inr (inl (refl, refl, refl))))),
    (
      [],
      inr (omega arith, inl (refl, inr (inl (codes "a", unload_names, record { answered = refl; left = refl })))),
      ([], inr (omega arith, inl (refl, inl (codes "a b", load_names, record { result = Err kernel_fault.NoFile; given = refl; answered = refl; left = refl }))), refl),
    ),
  ),
)

-- and what is written of it
pub written : line_of (Text (codes "cleared")) ++ line_of (Refused NoFile) ≡ codes "cleared\nrefused NO_FILE\n"
written = refl

pub ended : status_of (Text (codes "cleared") ∷ Refused NoFile ∷ []) ≡ SomeRefused
ended = refl

-- one line has ended in what was read, and `b` has begun the next one
pub read_before : HaveEnded (Some (codes "a\r\nbc\n")) (Some (codes "c\n")) (codes "a" ∷ [])
unfolding without_cr
read_before = record {
  read = codes "a\r\nb";
  begun = codes "b";
  consumed = refl;
  unended = refl;
  first = cuts-join [] [] (codes "b") (codes "a\r\n") (codes "b") (codes "a" ∷ []) [] (cuts-line [] (codes "a\r") refl refl) (cuts-begun [] (codes "b"));
}
