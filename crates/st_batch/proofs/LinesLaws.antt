-- How the answering of lines comes along.
use Rattle.std.proofs.Common.{◌≡◌, ℕ, ◌+◌, ◌*◌, ◌≤◌, Bool, true, false, ◌||◌, cond, Option, Result, Ok, Err, OnOk, List, [], ◌∷◌, ◌++◌, refl, sym, ◌∙◌, ap, arith, subst, append_assoc, append-nil}
use Rattle.std.specs.Io.KnownBytes.{Appends}
use Rattle.std.specs.List.{flat_map, list_any, count_by}
use Rattle.std.proofs.KnownBytes.{Appends-nil, Appends-trans}
use Rattle.std.proofs.lemmas.Grind.{flat_map-append}
use Rattle.std.proofs.lemmas.List.Folds.{list_any-append}
use Rattle.std.proofs.lemmas.List.Sums.{sum_by-append}
use Rattle.st_outside.specs.Causes.{AreLater, FileCounts, RoseBy}
use Rattle.st_outside.specs.States.{FilesState}
use Rattle.st_batch.specs.declared.answer.Answer.{Answer}
use Rattle.st_batch.specs.declared.answering.Answering.{Answering}
use Rattle.st_batch.specs.declared.status.Status.{Status}
use Rattle.st_batch.specs.declared.status.Status.TheVariants.{Done, SomeRefused, BadWords, BadSetup, ReadFault, WriteFault, OutOfMemory, InputTooLong}
use Rattle.st_batch.specs.Causes.{AreCounted, has_cause}
use Rattle.st_refusals.specs.Causes.{Missing, Faulty, TooLong}
use Rattle.st_batch.specs.LinesSteps.{Moment, setting_at, AnswersLine, Writes, Advances, StopsAfter, Completes, StopsWithin, Finishes, FinishesWriting}
use Rattle.st_batch.specs.Outcome.{is_refused}
use Rattle.st_batch.specs.OutputSteps.{TakesPrefix}
use Rattle.st_batch.specs.Session.{RunsTo}
use Rattle.st_batch.specs.Setting.{Loaded, Setting, State}
use Rattle.st_batch.specs.Texts.{line_of}

-- lines in a row are answered in a row
pub runs-join : (s : Setting) (a b c : Loaded) (xs ys : List (List ℕ)) (ps qs : List Answer)
    → RunsTo s a xs ps b → RunsTo s b ys qs c → RunsTo s a (xs ++ ys) (ps ++ qs) c
runs-join s a b c [] ys [] qs p q = subst (λ (k : Loaded). RunsTo s k ys qs c) p q
runs-join s a b c [] ys (x ∷ ps) qs p q = absurd p
runs-join s a b c (x ∷ xs) ys [] qs p q = absurd p
runs-join s a b c (x ∷ xs) ys (y ∷ ps) qs p q = (p.0, p.1, runs-join s p.0 b c xs ys ps qs p.2 q)

-- counts that rise in a row rise by both numbers
pub rose-join : (m n a b c : ℕ) → RoseBy m a b → RoseBy n b c → RoseBy (m + n) a c
rose-join m n a b c p q = omega arith

-- a count that rises later has risen as far
pub rose-later : (m a b c : ℕ) → RoseBy m a b → b ≤ c → RoseBy m a c
rose-later m a b c p q = omega arith

-- the same of bytes, of which each answer has as many as no file may have
bytes-join : (m n a b c : ℕ) → RoseBy (m * 16_777_217) a b → RoseBy (n * 16_777_217) b c → RoseBy ((m + n) * 16_777_217) a c
bytes-join m n a b c p q = omega arith

bytes-later : (m a b c : ℕ) → RoseBy (m * 16_777_217) a b → b ≤ c → RoseBy (m * 16_777_217) a c
bytes-later m a b c p q = omega arith

count-append : (p : Answer → Bool) (xs ys : List Answer) → count_by p (xs ++ ys) ≡ count_by p xs + count_by p ys
count-append p xs ys = sum_by-append (λ x. cond (p x) 1 0) xs ys

-- no answers count for nothing
pub counted-none : (a : FileCounts) → AreCounted a a []
counted-none a = record { misses = omega arith; faults = omega arith; taken = omega arith }

pub counted-join : (a b c : FileCounts) (xs ys : List Answer) → AreCounted a b xs → AreCounted b c ys → AreCounted a c (xs ++ ys)
counted-join a b c xs ys p q = record {
  misses = rw (count-append (has_cause Missing) xs ys) (rose-join _ _ _ _ _ p.misses q.misses);
  faults = rw (count-append (has_cause Faulty) xs ys) (rose-join _ _ _ _ _ p.faults q.faults);
  taken = rw (count-append (has_cause TooLong) xs ys) (bytes-join _ _ _ _ _ p.taken q.taken);
}

pub counted-later : (a b c : FileCounts) (xs : List Answer) → AreCounted a b xs → AreLater b c → AreCounted a c xs
counted-later a b c xs p q = record {
  misses = rose-later _ _ _ _ p.misses q.misses;
  faults = rose-later _ _ _ _ p.faults q.faults;
  taken = bytes-later _ _ _ _ p.taken q.taken;
}

-- what is gathered and written of two runs of answers
gathered-join : (a b c w v : List ℕ) (ps qs : List Answer) → a ++ flat_map line_of ps ≡ w ++ b → b ++ flat_map line_of qs ≡ v ++ c
    → a ++ flat_map line_of (ps ++ qs) ≡ (w ++ v) ++ c
gathered-join a b c w v ps qs p q =
    let tail = flat_map line_of qs in
    ap (λ (l : List ℕ). a ++ l) (flat_map-append line_of ps qs)
    ∙ sym (append_assoc a (flat_map line_of ps) tail)
    ∙ ap (λ (l : List ℕ). l ++ tail) p
    ∙ append_assoc w b tail
    ∙ ap (λ (l : List ℕ). w ++ l) q
    ∙ sym (append_assoc w v c)

refused-join : (a b c : Bool) (ps qs : List Answer) → b ≡ (a || list_any is_refused ps) → c ≡ (b || list_any is_refused qs) → c ≡ (a || list_any is_refused (ps ++ qs))
refused-join a b c ps qs p q =
    q ∙ ap (λ (t : Bool). t || list_any is_refused qs) p ∙ by a (list_any is_refused ps) (list_any is_refused qs)
    ∙ ap (λ (t : Bool). a || t) (sym (list_any-append is_refused ps qs))
  where
    by : (x y z : Bool) → ((x || y) || z) ≡ (x || (y || z))
    by true y z = refl
    by false y z = refl

refused-none : (a : Bool) → a ≡ (a || false)
refused-none true = refl
refused-none false = refl

-- what stays the same at a later moment
kept : (a b : Moment) → b.files.map ≡ a.files.map → b.answering.session.job ≡ a.answering.session.job → setting_at b ≡ setting_at a
kept a b files job = λ i. record { files = files i; job = job i }

-- what was answered from a later moment on was so by what stays the same
runs-kept : (a b : Moment) (lines : List (List ℕ)) (answers : List Answer) (from to : Loaded)
    → b.files.map ≡ a.files.map → b.answering.session.job ≡ a.answering.session.job → RunsTo (setting_at b) from lines answers to → RunsTo (setting_at a) from lines answers to
runs-kept a b lines answers from to files job h = subst (λ (s : Setting). RunsTo s from lines answers to) (kept a b files job) h

-- no lines were answered
pub advances-none : (a : Moment) → Advances a a []
advances-none a = record {
  answers = [];
  written = [];
  answered = refl;
  map = refl;
  job = refl;
  counted = counted-none a.files.counts;
  appended = Appends-nil a.taken;
  gathered = append-nil a.answering.gathered.items;
  refused = refused-none a.answering.refused;
}

-- lines in a row were answered
pub advances-join : (a b c : Moment) (xs ys : List (List ℕ)) → Advances a b xs → Advances b c ys → Advances a c (xs ++ ys)
advances-join a b c xs ys p q = record {
  answers = p.answers ++ q.answers;
  written = p.written ++ q.written;
  answered = runs-join (setting_at a) _ _ _ xs ys p.answers q.answers p.answered (runs-kept a b ys q.answers _ _ p.map p.job q.answered);
  map = q.map ∙ p.map;
  job = q.job ∙ p.job;
  counted = counted-join _ _ _ p.answers q.answers p.counted q.counted;
  appended = Appends-trans _ _ _ p.written q.written p.appended q.appended;
  gathered = gathered-join _ _ _ p.written q.written p.answers q.answers p.gathered q.gathered;
  refused = refused-join _ _ _ p.answers q.answers p.refused q.refused;
}

-- one line was answered, and nothing written
pub advances-one : (before now : FilesState) (taken : Option (List ℕ)) (a b : Answering) (line : List ℕ) → AnswersLine before now a b line
    → Advances (record { files = before; taken = taken; answering = a }) (record { files = now; taken = taken; answering = b }) (line ∷ [])
advances-one before now taken a b line p = record {
  answers = p.answer ∷ [];
  written = [];
  answered = (b.session.loaded, p.answered, refl);
  map = p.map;
  job = p.job;
  counted = p.counted;
  appended = Appends-nil taken;
  gathered = ap (λ (l : List ℕ). a.gathered.items ++ l) (append-nil (line_of p.answer)) ∙ sym p.gathered;
  refused = p.refused ∙ ap (λ (t : Bool). a.refused || t) (refused-none (is_refused p.answer));
}

-- some of what was gathered was written, and no line answered
pub advances-writes : (files : FilesState) (before now : Option (List ℕ)) (a b : Answering) → Writes before now a b
    → Advances (record { files = files; taken = before; answering = a }) (record { files = files; taken = now; answering = b }) []
advances-writes files before now a b p = record {
  answers = [];
  written = p.written;
  answered = ap (λ (t : State). t.loaded) p.session;
  map = refl;
  job = ap (λ (t : State). t.job) p.session;
  counted = counted-none files.counts;
  appended = p.appended;
  gathered = append-nil a.gathered.items ∙ p.gathered;
  refused = p.refused ∙ refused-none a.refused;
}

-- all that was gathered was written
writes-all : (before now : Option (List ℕ)) (a b : Answering) → Appends before now a.gathered.items → b.gathered.items ≡ [] → b.session ≡ a.session → b.refused ≡ a.refused
    → Writes before now a b
writes-all before now a b p none session refused = record {
  written = a.gathered.items;
  appended = p;
  gathered = sym (append-nil a.gathered.items) ∙ ap (λ (l : List ℕ). a.gathered.items ++ l) (sym none);
  session = session;
  refused = refused;
}

-- the same where the writing may have failed
pub writes-ok : {E : Type 0} (result : Result (Unit {0}) E) (before now : Option (List ℕ)) (a b : Answering)
    → OnOk result (Appends before now a.gathered.items) → OnOk result (b.gathered.items ≡ []) → b.session ≡ a.session → b.refused ≡ a.refused
    → OnOk result (Writes before now a b)
writes-ok (Ok u) before now a b p none session refused = writes-all before now a b p none session refused
writes-ok (Err e) before now a b p none session refused = tt

-- a fault of the output stopped the writing of what was gathered
pub stops-cut : (a b : Moment) (files : FilesState) (taken : Option (List ℕ)) (lines : List (List ℕ))
    → Advances a b lines → AreLater b.files.counts files.counts → TakesPrefix b.taken taken b.answering.gathered.items → StopsAfter a files taken lines
stops-cut a b files taken lines p later cut = record {
  answers = p.answers;
  after = b.answering.session.loaded;
  written = p.written ++ cut.0;
  rest = cut.1;
  answered = p.answered;
  counted = counted-later _ _ _ p.answers p.counted later;
  appended = Appends-trans _ _ _ p.written cut.0 p.appended cut.2;
  gathered = p.gathered ∙ ap (λ (l : List ℕ). p.written ++ l) cut.3 ∙ sym (append_assoc p.written cut.0 cut.1);
}

-- something else stopped the answering
pub stops-here : (a b : Moment) (files : FilesState) (lines : List (List ℕ))
    → Advances a b lines → AreLater b.files.counts files.counts → StopsAfter a files b.taken lines
stops-here a b files lines p later =
    stops-cut a b files b.taken lines p later ([], b.answering.gathered.items, Appends-nil b.taken, refl)

-- the answering stopped after some lines
pub stops-after : (a b : Moment) (files : FilesState) (taken : Option (List ℕ)) (xs ys : List (List ℕ))
    → Advances a b xs → StopsAfter b files taken ys → StopsAfter a files taken (xs ++ ys)
stops-after a b files taken xs ys p q = record {
  answers = p.answers ++ q.answers;
  after = q.after;
  written = p.written ++ q.written;
  rest = q.rest;
  answered = runs-join (setting_at a) _ _ _ xs ys p.answers q.answers p.answered (runs-kept a b ys q.answers _ _ p.map p.job q.answered);
  counted = counted-join _ _ _ p.answers q.answers p.counted q.counted;
  appended = Appends-trans _ _ _ p.written q.written p.appended q.appended;
  gathered = gathered-join _ _ _ p.written q.written p.answers q.answers p.gathered q.gathered;
}

-- all lines were answered, and then all that was gathered was written
pub completes-written : (a b : Moment) (files : FilesState) (taken : Option (List ℕ)) (lines : List (List ℕ))
    → Advances a b lines → AreLater b.files.counts files.counts → Appends b.taken taken b.answering.gathered.items
    → Completes a files taken lines (cond b.answering.refused SomeRefused Done)
completes-written a b files taken lines p later all = record {
  answers = p.answers;
  after = b.answering.session.loaded;
  answered = p.answered;
  counted = counted-later _ _ _ p.answers p.counted later;
  appended = subst (λ (l : List ℕ). Appends a.taken taken l) (sym p.gathered) (Appends-trans _ _ _ p.written b.answering.gathered.items p.appended all);
  ended = ap (λ (t : Bool). cond t SomeRefused Done) p.refused;
}

-- the answering stopped within lines when all of them were answered
within-all : (a : Moment) (files : FilesState) (taken : Option (List ℕ)) (lines : List (List ℕ))
    → StopsAfter a files taken lines → StopsWithin a files taken lines
within-all a files taken lines p = record { first = lines; more = []; among = sym (append-nil lines); stopped = p }

-- the answering stopped before the first of some lines
pub within-none : (a : Moment) (files : FilesState) (lines : List (List ℕ))
    → AreLater a.files.counts files.counts → StopsWithin a files a.taken lines
within-none a files lines later =
    record { first = []; more = lines; among = refl; stopped = stops-here a a files [] (advances-none a) later }

-- lines were answered, and then what was gathered was written or a beginning of it
pub finishes-written : (a b : Moment) (files : FilesState) (taken : Option (List ℕ)) (lines : List (List ℕ)) (status : Status)
    → Advances a b lines → AreLater b.files.counts files.counts → FinishesWriting b.taken taken b.answering status → Finishes a files taken lines status
finishes-written a b files taken lines Done p later end =
    subst (λ (t : Bool). Completes a files taken lines (cond t SomeRefused Done)) end.1 (completes-written a b files taken lines p later end.0)
finishes-written a b files taken lines SomeRefused p later end =
    subst (λ (t : Bool). Completes a files taken lines (cond t SomeRefused Done)) end.1 (completes-written a b files taken lines p later end.0)
finishes-written a b files taken lines WriteFault p later end = within-all a files taken lines (stops-cut a b files taken lines p later end)
finishes-written a b files taken lines OutOfMemory p later end = within-all a files taken lines (stops-cut a b files taken lines p later end)
finishes-written a b files taken lines (BadWords fault) p later end = absurd end
finishes-written a b files taken lines (BadSetup cause) p later end = absurd end
finishes-written a b files taken lines ReadFault p later end = absurd end
finishes-written a b files taken lines InputTooLong p later end = absurd end

-- lines were answered, and then more lines to the end
completes-after : (a b : Moment) (files : FilesState) (taken : Option (List ℕ)) (xs ys : List (List ℕ)) (status : Status)
    → Advances a b xs → Completes b files taken ys status → Completes a files taken (xs ++ ys) status
completes-after a b files taken xs ys status p q =
    let all = gathered-join a.answering.gathered.items b.answering.gathered.items [] p.written
    (b.answering.gathered.items ++ flat_map line_of q.answers) p.answers q.answers p.gathered (sym (append-nil _)) in
    record {
      answers = p.answers ++ q.answers;
      after = q.after;
      answered = runs-join (setting_at a) _ _ _ xs ys p.answers q.answers p.answered (runs-kept a b ys q.answers _ _ p.map p.job q.answered);
      counted = counted-join _ _ _ p.answers q.answers p.counted q.counted;
      appended = subst (λ (l : List ℕ). Appends a.taken taken l) (sym (all ∙ append-nil _)) (Appends-trans _ _ _ p.written _ p.appended q.appended);
      ended = q.ended ∙ ap (λ (t : Bool). cond t SomeRefused Done) (refused-join a.answering.refused b.answering.refused _ p.answers q.answers p.refused refl);
    }

within-after : (a b : Moment) (files : FilesState) (taken : Option (List ℕ)) (xs ys : List (List ℕ))
    → Advances a b xs → StopsWithin b files taken ys → StopsWithin a files taken (xs ++ ys)
within-after a b files taken xs ys p q = record {
  first = xs ++ q.first;
  more = q.more;
  among = ap (λ (l : List (List ℕ)). xs ++ l) q.among ∙ sym (append_assoc xs q.first q.more);
  stopped = stops-after a b files taken xs q.first p q.stopped;
}

pub finishes-after : (a b : Moment) (files : FilesState) (taken : Option (List ℕ)) (xs ys : List (List ℕ)) (status : Status)
    → Advances a b xs → Finishes b files taken ys status → Finishes a files taken (xs ++ ys) status
finishes-after a b files taken xs ys Done p q = completes-after a b files taken xs ys Done p q
finishes-after a b files taken xs ys SomeRefused p q = completes-after a b files taken xs ys SomeRefused p q
finishes-after a b files taken xs ys WriteFault p q = within-after a b files taken xs ys p q
finishes-after a b files taken xs ys OutOfMemory p q = within-after a b files taken xs ys p q
finishes-after a b files taken xs ys (BadWords fault) p q = absurd q
finishes-after a b files taken xs ys (BadSetup cause) p q = absurd q
finishes-after a b files taken xs ys ReadFault p q = absurd q
finishes-after a b files taken xs ys InputTooLong p q = absurd q
