-- What a reader of pieces answers is what the bytes that it was fed give, however they are cut.
use Rattle.std.proofs.Common.{inl, inr, ◌⊎◌, ◌≡◌, ℕ, ◌+◌, ◌<◌, List, [], ◌++◌, length, Option, Some, None, Result, Ok, Err, IfErr, refl, ap, sym, ◌∙◌, subst, arith}
use Rattle.std.specs.Prelude.{◌==◌}
use Rattle.std.proofs.lemmas.Bool.{cases_Bool, cond-true, cond-false, eqb-true, eqb-false}
use Rattle.std.proofs.lemmas.List.{append-nil}
use Rattle.st_text.specs.Lines.{without_cr, lines_of}
use Rattle.st_text.proofs.Splits.{lines_of-nil}
use Rattle.st_kernel_text.specs.Fault.{Fault, fails}
use Rattle.st_kernel_text.specs.File.{Reads, Agree}
use Rattle.st_kernel_text.specs.LinesMachine as lines
use Rattle.st_kernel_text.specs.LinesMachine.{line_of, lines_from, read_of}
use Rattle.st_kernel_text.specs.ParserMachine.{◌>>=◌, Gives, Answers, finish_of}
use Rattle.st_kernel_text.specs.Pieces.{IsEnded, HasNoFeed, GoesOn, HasNoFaultYet, FailsAtEnd, HasFaultYet, ReadsSoFar, fault_of}
use Rattle.st_kernel_text.specs.PiecesMachine.{reading, beginning, bytes_of, last_of, end_of, fed_of}
use Rattle.st_kernel_text.specs.Reader.{FedTo}
use Rattle.st_kernel_text.specs.declared.assignment.Assignment.{Assignment}
use Rattle.st_kernel_text.specs.declared.fault.TextCause.{TextCause}
use Rattle.st_kernel_text.specs.declared.fault.TextFault.{TextFault}
use Rattle.st_kernel_text.specs.declared.fault.TextFault.TheVariants.{At, OutOfMemory}
use Rattle.st_kernel_text.specs.declared.kernel.Kernel.{Kernel}
use Rattle.st_kernel_text.specs.declared.lines.Reading.{Reading}
use Rattle.st_kernel_text.proofs.FileLaws.{lines_fail, lines_go_on, lines_are_good, lines_have_fault, reads, one_answer}
use Rattle.st_kernel_text.proofs.LineEnds.{no_feed_left, none_ended, none_begun, lines_alone, stays_long}
use Rattle.st_kernel_text.proofs.PieceSteps.{bytes-append, fails_on, IsShort, short_none, long_fault, rest_of, begins_long, reads_on, nothing_read, Reached, reached, FailedLine, FailedBegun, Broke, broke}

-- the lines of a file from the first on
abbrev pub all_lines : List ℕ → Result Kernel Fault
all_lines bytes = lines_from lines.beginning 1 (lines_of bytes)

whole_file : (bytes : List ℕ) (x : Result Reading Fault) → fed_of bytes ≡ x → (x >>= rest_of) ≡ all_lines bytes
whole_file bytes x e = ap (λ (z : Result Reading Fault). z >>= rest_of) (sym e) ∙ reads_on bytes lines.beginning [] 1 refl

fed_reached : (bytes : List ℕ) (q : Reading) → fed_of bytes ≡ Ok q → Reached lines.beginning [] 1 bytes q
fed_reached bytes q e = reached bytes lines.beginning [] 1 q refl short_none e

-- after ended lines no line is begun
nothing_begun : (ended : List ℕ) (q : Reading) → IsEnded ended → fed_of ended ≡ Ok q → q.begun ≡ []
nothing_begun ended q i e =
    let g = fed_reached ended q e in none_begun g.ended q.begun (subst IsEnded g.whole i) g.begun_is

same_reading : (q : Reading) (k : Kernel) (begun : List ℕ) (n : ℕ) → q.kernel ≡ k → q.begun ≡ begun → q.number ≡ n → q ≡ reading k begun n
same_reading q k begun n a b c = λ i. record { kernel = a i; begun = b i; number = c i }

ended_reads : (ended : List ℕ) (k : Kernel) → IsEnded ended → all_lines ended ≡ Ok k → fed_of ended ≡ Ok (reading k [] (1 + length (lines_of ended)))
ended_reads ended k i e = by (fed_of ended) refl
  where
    by : (x : Result Reading Fault) → fed_of ended ≡ x → fed_of ended ≡ Ok (reading k [] (1 + length (lines_of ended)))
    by (Ok q) f =
        let g = fed_reached ended q f in
        let none = nothing_begun ended q i f in
        let same : g.ended ≡ ended = sym (g.whole ∙ ap (λ (z : List ℕ). g.ended ++ z) none ∙ append-nil g.ended) in
        let kernels : Ok q.kernel ≡ Ok k = sym g.read ∙ ap all_lines same ∙ e in
        f ∙ ap Ok (same_reading q k [] (1 + length (lines_of ended)) (cc) none (g.number ∙ ap (λ (z : List ℕ). 1 + length (lines_of z)) same))
    by (Err x) f = let other : Err x ≡ Ok k = whole_file ended (Err x) f ∙ e in absurd (cc)

ended_fails : (ended : List ℕ) (f : Fault) → IsEnded ended → all_lines ended ≡ Err f → fed_of ended ≡ Err f
ended_fails ended f i e = by (fed_of ended) refl
  where
    by : (x : Result Reading Fault) → fed_of ended ≡ x → fed_of ended ≡ Err f
    by (Ok q) g =
        let none = nothing_begun ended q i g in
        let other : Ok q.kernel ≡ Err f =
        sym (nothing_read q.kernel q.number) ∙ ap (λ (z : List ℕ). lines_from q.kernel q.number (lines_of z)) (sym none) ∙ whole_file ended (Ok q) g ∙ e in
        absurd (cc)
    by (Err x) g = let same : Err x ≡ Err f = whole_file ended (Err x) g ∙ e in g ∙ ap Err (cc)

begun_fails : (k : Kernel) (n : ℕ) (begun : List ℕ) → HasNoFeed begun → 1000 < length (without_cr begun) → bytes_of (reading k [] n) begun ≡ Err (long_fault n)
begun_fails k n begun h l = by (bytes_of (reading k [] n) begun) refl
  where
    by : (x : Result Reading Fault) → bytes_of (reading k [] n) begun ≡ x → bytes_of (reading k [] n) begun ≡ Err (long_fault n)
    by (Ok q) g =
        let m = reached begun k [] n q refl short_none g in
        let none = none_ended m.ended m.ended_is (no_feed_left m.ended q.begun (subst HasNoFeed m.whole h)) in
        let same : begun ≡ q.begun = m.whole ∙ ap (λ (z : List ℕ). z ++ q.begun) none in
        absurd (omega (arith, l, m.short, ap (λ (z : List ℕ). length (without_cr z)) same))
    by (Err x) g =
        let long : lines_from k n (lines_of begun) ≡ Err (long_fault n) =
        ap (λ (z : List ℕ). lines_from k n (lines_of z)) (sym (append-nil begun)) ∙ begins_long k n begun [] h l in
        let same : Err x ≡ Err (long_fault n) = ap (λ (z : Result Reading Fault). z >>= rest_of) (sym g) ∙ reads_on begun k [] n refl ∙ long in
        g ∙ ap Err (cc)

begun_goes_on : (k : Kernel) (n : ℕ) (begun : List ℕ) (f : Fault) → HasNoFeed begun → IsShort begun → bytes_of (reading k [] n) begun ≡ Err f → ⊥
begun_goes_on k n begun f h s e = by (broke begun k [] n f refl e)
  where
    by : Broke k [] n begun f → ⊥
    by m =
        let inside = no_feed_left m.ended m.last (no_feed_left (m.ended ++ m.last) m.more (subst HasNoFeed m.whole h)) in
        let none = none_ended m.ended m.ended_is inside in
        elim m.failed [
          | inl g ↦
              let other : Ok k ≡ Err f = sym (nothing_read k n) ∙ ap (λ (z : List ℕ). lines_from k n (lines_of z)) (sym none) ∙ g.read in absurd (cc)
          | inr g ↦
              let same : begun ≡ m.last ++ m.more = m.whole ∙ ap (λ (z : List ℕ). (z ++ m.last) ++ m.more) none in
              absurd (omega (arith, s, stays_long m.last m.more g.long, ap (λ (z : List ℕ). length (without_cr z)) same))
        ]

-- the bytes up to a begun line, and those of it
goes_on_fed : (bytes ended begun : List ℕ) → (h : GoesOn bytes ended begun)
    → (k : Kernel) × (fed_of bytes ≡ bytes_of (reading k [] (1 + length (lines_of ended))) begun)
goes_on_fed bytes ended begun h =
    let went = lines_go_on h.row (lines_of ended) h.good h.stands in (
      went.0,
      ap fed_of h.whole ∙ bytes-append beginning ended begun
          ∙ ap (λ (x : Result Reading Fault). x >>= λ q. bytes_of q begun) (ended_reads ended went.0 h.ended_is went.1),
    )

front_fails : (front : List ℕ) (n : ℕ) (cause : TextCause) → FailsAtEnd front n cause → fed_of front ≡ fails n cause
front_fails front n cause (inl (i, bad)) = ended_fails front (record { line = n; cause = cause }) i (lines_fail front n cause bad)
front_fails front n cause (inr h) =
    let (k, fed) = goes_on_fed front h.ended h.begun h.goes_on in
    fed ∙ begun_fails k (1 + length (lines_of h.ended)) h.begun h.goes_on.begun_is h.long.0
    ∙ ap (λ (m : ℕ). Err (long_fault m)) (sym h.number) ∙ ap (λ (z : TextCause). fails n z) (sym h.long.1)

-- a fault that the bytes have is found
fault_found : (bytes : List ℕ) (n : ℕ) (cause : TextCause) → HasFaultYet bytes n cause → fed_of bytes ≡ fails n cause
fault_found bytes n cause h =
    ap fed_of h.whole ∙ fails_on beginning h.front h.more (record { line = n; cause = cause }) (front_fails h.front n cause h.fails)

none_found : (bytes : List ℕ) (f : Fault) → HasNoFaultYet bytes → fed_of bytes ≡ Err f → ⊥
none_found bytes f h e =
    let (k, fed) = goes_on_fed bytes h.ended h.begun h.goes_on in
    begun_goes_on k (1 + length (lines_of h.ended)) h.begun f h.goes_on.begun_is h.short (sym fed ∙ e)

-- what is found the bytes have
goes_on : (bytes ended begun : List ℕ) (k : Kernel) → IsEnded ended → HasNoFeed begun → all_lines ended ≡ Ok k → bytes ≡ ended ++ begun → GoesOn bytes ended begun
goes_on bytes ended begun k i h e w =
    let good = lines_are_good (lines_of ended) k e in
    record { row = good.row; ended_is = i; begun_is = h; good = good.good; stands = good.stands; whole = w }

no_fault : (bytes : List ℕ) (q : Reading) → fed_of bytes ≡ Ok q → HasNoFaultYet bytes
no_fault bytes q e =
    let g = fed_reached bytes q e in
    record { ended = g.ended; begun = q.begun; goes_on = goes_on bytes g.ended q.begun q.kernel g.ended_is g.begun_is g.read g.whole; short = g.short }

failed_front : (ended last : List ℕ) (f : Fault) → IsEnded ended → FailedLine lines.beginning 1 ended last f ⊎ FailedBegun lines.beginning 1 ended last f
    → FailsAtEnd (ended ++ last) f.line f.cause
failed_front ended last f i (inl g) =
    let same : ended ≡ ended ++ last = sym (ap (λ (z : List ℕ). ended ++ z) g.none ∙ append-nil ended) in
    subst (λ (z : List ℕ). FailsAtEnd z f.line f.cause) same (inl (i, lines_have_fault ended f g.read))
failed_front ended last f i (inr g) = inr (record {
  ended = ended;
  begun = last;
  goes_on = goes_on (ended ++ last) ended last g.kernel i g.begun_is g.read refl;
  long = (g.long, ap (λ (z : Fault). z.cause) g.fault);
  number = ap (λ (z : Fault). z.line) g.fault;
})

fault_yet : (bytes : List ℕ) (f : Fault) → fed_of bytes ≡ Err f → HasFaultYet bytes f.line f.cause
fault_yet bytes f e =
    let m = broke bytes lines.beginning [] 1 f refl e in
    record { front = m.ended ++ m.last; more = m.more; fails = failed_front m.ended m.last f m.ended_is m.failed; whole = m.whole }

-- the answer to the bytes so far is one that they allow, and only that
pub reads_so_far : (bytes : List ℕ) (r : Reading) (a : Result (Unit {0}) TextFault) → Gives r a (fed_of bytes) → ReadsSoFar bytes a
reads_so_far bytes r (Ok u) h = no_fault bytes r h
reads_so_far bytes r (Err (At n cause)) h = fault_yet bytes (record { line = n; cause = cause }) h
reads_so_far bytes r (Err OutOfMemory) h = tt

pub only_so_far : (bytes : List ℕ) (r : Reading) (a b : Result (Unit {0}) TextFault) → Gives r a (fed_of bytes) → ReadsSoFar bytes b → Agree a b
only_so_far bytes r (Ok u) (Ok v) h k = refl
only_so_far bytes r (Ok u) (Err (At n cause)) h k = let other : Ok r ≡ fails n cause = sym h ∙ fault_found bytes n cause k in absurd (cc)
only_so_far bytes r (Ok u) (Err OutOfMemory) h k = tt
only_so_far bytes r (Err (At n cause)) (Ok v) h k = absurd (none_found bytes (record { line = n; cause = cause }) k h)
only_so_far bytes r (Err (At n cause)) (Err (At m other)) h k =
    let e : fails {A = Reading} n cause ≡ fails m other = sym h ∙ fault_found bytes m other k in ap answer_of e
  where
    answer_of : Result Reading Fault → Result (Unit {0}) TextFault
    answer_of (Ok q) = Ok tt
    answer_of (Err f) = Err (At f.line f.cause)
only_so_far bytes r (Err (At n cause)) (Err OutOfMemory) h k = tt
only_so_far bytes r (Err OutOfMemory) b h k = tt

read_fails : (bytes : List ℕ) (f : Fault) → fed_of bytes ≡ Err f → read_of bytes ≡ Err f
read_fails bytes f e = ap (λ (z : Result Kernel Fault). z >>= λ k. finish_of k.parser) (sym (whole_file bytes (Err f) e))

-- every file that begins with the bytes has their fault
every_file : (bytes more : List ℕ) (r : Reading) (fault : TextFault) → Gives {A = Unit {0}} r (Err fault) (fed_of bytes) → Reads (bytes ++ more) (Err fault)
every_file bytes more r (At n cause) h =
    let f : Fault = record { line = n; cause = cause } in
    reads (bytes ++ more) (Err (At n cause)) (read_fails (bytes ++ more) f (fails_on beginning bytes more f h))
every_file bytes more r OutOfMemory h = tt

pub every_answer : (bytes more : List ℕ) (r : Reading) (a : Result (Unit {0}) TextFault) → Gives r a (fed_of bytes)
    → IfErr a (λ fault. Reads (bytes ++ more) (Err fault))
every_answer bytes more r (Ok u) h = tt
every_answer bytes more r (Err fault) h = every_file bytes more r fault h

-- one more piece
pub fed_next : (bytes piece : List ℕ) (failed : Option TextFault) (r new : Reading) (a : Result (Unit {0}) TextFault) → FedTo bytes failed r
    → ((fault : TextFault) → failed ≡ Some fault → a ≡ Err fault) → (failed ≡ None → Gives new a (bytes_of r piece)) → Gives new a (fed_of (bytes ++ piece))
fed_next bytes piece None r new a h again gives =
    let fed : bytes_of r piece ≡ fed_of (bytes ++ piece) =
    sym (bytes-append beginning bytes piece ∙ ap (λ (x : Result Reading Fault). x >>= λ q. bytes_of q piece) h) in
    subst (Gives new a) fed (gives refl)
fed_next bytes piece (Some (At n cause)) r new a h again gives =
    let f : Fault = record { line = n; cause = cause } in
    let P : Result (Unit {0}) TextFault → Type 0 = λ z. Gives new z (fed_of (bytes ++ piece)) in
    subst P (sym (again (At n cause) refl)) (fails_on beginning bytes piece f h)
fed_next bytes piece (Some OutOfMemory) r new a h again gives =
    let P : Result (Unit {0}) TextFault → Type 0 = λ z. Gives new z (fed_of (bytes ++ piece)) in
    subst P (sym (again OutOfMemory refl)) tt

fed_by : (bytes : List ℕ) (new : Reading) (a : Result (Unit {0}) TextFault) → Gives new a (fed_of bytes) → FedTo bytes (fault_of a) new
fed_by bytes new (Ok u) h = h
fed_by bytes new (Err (At n cause)) h = h
fed_by bytes new (Err OutOfMemory) h = tt

pub fed_to : (bytes : List ℕ) (failed : Option TextFault) (new : Reading) (a : Result (Unit {0}) TextFault) → Gives new a (fed_of bytes)
    → failed ≡ fault_of a → FedTo bytes failed new
fed_to bytes failed new a h e = subst (λ (z : Option TextFault). FedTo bytes z new) (sym e) (fed_by bytes new a h)

-- the end of the file
as_it_is : (r : Result Kernel Fault) → (r >>= λ z. Ok z) ≡ r
as_it_is (Ok z) = refl
as_it_is (Err e) = refl

last_line : (q : Reading) → HasNoFeed q.begun → last_of q ≡ rest_of q
last_line q h =
    elim (cases_Bool (length q.begun == 0)) [
      | inl e ↦ cond-true _ _ _ e ∙ sym (ap (lines_from q.kernel q.number) (lines_of-nil q.begun (eqb-true _ _ e)))
      | inr e ↦
          let some : 0 < length q.begun = omega (arith, eqb-false _ _ e) in
          cond-false _ _ _ e
          ∙ sym (ap (lines_from q.kernel q.number) (lines_alone q.begun h some) ∙ as_it_is (line_of q.kernel q.number (without_cr q.begun)))
    ]

end_read : (bytes : List ℕ) (q : Reading) → fed_of bytes ≡ Ok q → end_of q ≡ read_of bytes
end_read bytes q e =
    ap (λ (z : Result Kernel Fault). z >>= λ k. finish_of k.parser)
    (last_line q (fed_reached bytes q e).begun_is ∙ whole_file bytes (Ok q) e)

pub finished : (bytes : List ℕ) (failed : Option TextFault) (r : Reading) (a : Result (List Assignment) TextFault) → FedTo bytes failed r
    → ((fault : TextFault) → failed ≡ Some fault → a ≡ Err fault) → (failed ≡ None → Answers a (end_of r)) → Answers a (read_of bytes)
finished bytes None r a h again gives = subst (Answers a) (end_read bytes r h) (gives refl)
finished bytes (Some (At n cause)) r a h again gives =
    let P : Result (List Assignment) TextFault → Type 0 = λ z. Answers z (read_of bytes) in
    subst P (sym (again (At n cause) refl)) (read_fails bytes (record { line = n; cause = cause }) h)
finished bytes (Some OutOfMemory) r a h again gives =
    let P : Result (List Assignment) TextFault → Type 0 = λ z. Answers z (read_of bytes) in
    subst P (sym (again OutOfMemory refl)) tt

-- a fault of the one piece that is the file
pub one_piece : (bytes : List ℕ) (fault : TextFault) (a b : Result (List Assignment) TextFault) → Reads (bytes ++ []) (Err fault) → a ≡ Err fault
    → Reads bytes b → Agree a b
one_piece bytes fault a b r e h =
    let P : Result (List Assignment) TextFault → Type 0 = λ z. Agree z b in
    let read : Reads bytes (Err fault) = subst (λ (z : List ℕ). Reads z (Err fault)) (append-nil bytes) r in
    subst P (sym e) (one_answer bytes (Err fault) b read h)
