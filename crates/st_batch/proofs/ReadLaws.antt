-- How the answering of the lines of a text comes along.
use Rattle.std.proofs.Common.{◌≡◌, ℕ, ◌<◌, Option, List, [], ◌∷◌, ◌++◌, length, refl, sym, ◌∙◌, ap, subst, append_assoc, Result, Ok, Err, OnErr, arith}
use Rattle.st_text.specs.Lines.{HasNoFeed, lines_of, without_cr}
use Rattle.st_text.proofs.LineLaws as text
use Rattle.st_batch.specs.declared.answering.Answering.{Answering}
use Rattle.st_batch.specs.declared.status.Status.{Status}
use Rattle.st_outside.specs.Causes.{AreLater}
use Rattle.st_outside.specs.States.{FilesState}
use Rattle.st_outside.proofs.StateLaws.{AreLater-same}
use Rattle.st_batch.specs.LinesSteps.{Moment, AnswersLine, Writes, Finishes, FinishesWriting, CutsAtFeed, ReadsText, StopsInText, ReadsPart}
use Rattle.st_batch.specs.OutputSteps.{TakesPrefix}
use Rattle.st_batch.proofs.CutLaws.{joined_no_feed, cuts-none, cuts-join, cuts-begun, cuts-line, ends-cut, ends-none, ends-longer, ends-join}
use Rattle.st_batch.proofs.LinesLaws.{advances-none, advances-join, advances-one, advances-writes, stops-cut, stops-here, stops-after, finishes-written}

nothing : (bytes : List ℕ) → length bytes ≡ 0 → lines_of bytes ≡ []
nothing [] e = text.no-line
nothing (b ∷ bs) e = absurd (omega arith)

-- no line is begun: what is gathered is written
pub last-none : (a : Moment) (taken : Option (List ℕ)) (begun : List ℕ) (status : Status)
    → length begun ≡ 0 → FinishesWriting a.taken taken a.answering status → Finishes a a.files taken (lines_of begun) status
last-none a taken begun status none end =
    subst (λ (l : List (List ℕ)). Finishes a a.files taken l status) (sym (nothing begun none))
    (finishes-written a a a.files taken [] status (advances-none a) (AreLater-same a.files.counts) end)

-- the begun line is the last one
pub last-line : (a : Moment) (counts : FilesState) (taken : Option (List ℕ)) (begun line : List ℕ) (status : Status)
    → HasNoFeed begun → 0 < length begun → line ≡ without_cr begun → Finishes a counts taken (line ∷ []) status → Finishes a counts taken (lines_of begun) status
last-line a counts taken begun line status none some e p =
    subst (λ (l : List (List ℕ)). Finishes a counts taken l status) (ap (λ (l : List ℕ). l ∷ []) e ∙ sym (text.last-line begun some none)) p

-- the line that a line feed ends was answered, and some of what was gathered written
pub reads-line : (before now : FilesState) (taken then : Option (List ℕ)) (a b c : Answering) (begun end next : List ℕ)
    → HasNoFeed begun → HasNoFeed end → next ≡ [] → AnswersLine before now a b (without_cr (begun ++ end)) → Writes taken then b c
    → ReadsText (record { files = before; taken = taken; answering = a }) (record { files = now; taken = then; answering = c }) begun (end ++ (10 ∷ [])) next
reads-line before now taken then a b c begun end next p q none one writes =
    subst (λ (l : List ℕ). ReadsText (record { files = before; taken = taken; answering = a }) (record { files = now; taken = then; answering = c }) begun (end ++ (10 ∷ [])) l)
    (sym none)
    (record {
      lines = without_cr (begun ++ end) ∷ [];
      cuts = cuts-line begun end p q;
      advanced = advances-join _ _ _ (without_cr (begun ++ end) ∷ []) [] (advances-one before now taken a b _ one) (advances-writes now taken then b c writes);
      no_feed = refl;
    })

-- the same, but a fault of the output stopped the writing
pub halts-line : (before now : FilesState) (taken then : Option (List ℕ)) (a b : Answering) (begun end : List ℕ)
    → HasNoFeed begun → HasNoFeed end → AnswersLine before now a b (without_cr (begun ++ end)) → TakesPrefix taken then b.gathered.items
    → StopsInText (record { files = before; taken = taken; answering = a }) now then begun (end ++ (10 ∷ []))
halts-line before now taken then a b begun end p q one cut = record {
  lines = without_cr (begun ++ end) ∷ [];
  ends = ends-cut begun [] (end ++ (10 ∷ [])) (without_cr (begun ++ end) ∷ []) (cuts-line begun end p q);
  stopped = stops-cut _ _ now then (without_cr (begun ++ end) ∷ []) (advances-one before now taken a b _ one) (AreLater-same now.counts) cut;
}

-- nothing was answered
pub halts-none : (a : Moment) (now : FilesState) (begun text : List ℕ) → AreLater a.files.counts now.counts → StopsInText a now a.taken begun text
halts-none a now begun text later = record {
  lines = [];
  ends = ends-none begun text;
  stopped = stops-here a a now [] (advances-none a) later;
}

pub reads-join : (a b c : Moment) (x y z s t : List ℕ) → ReadsText a b x s y → ReadsText b c y t z → ReadsText a c x (s ++ t) z
reads-join a b c x y z s t p q = record {
  lines = p.lines ++ q.lines;
  cuts = cuts-join x y z s t p.lines q.lines p.cuts q.cuts;
  advanced = advances-join a b c p.lines q.lines p.advanced q.advanced;
  no_feed = q.no_feed;
}

-- the answering stopped in a text after one whose lines were answered
pub halts-after : (a b : Moment) (now : FilesState) (taken : Option (List ℕ)) (x y s t : List ℕ)
    → ReadsText a b x s y → StopsInText b now taken y t → StopsInText a now taken x (s ++ t)
halts-after a b now taken x y s t p q = record {
  lines = p.lines ++ q.lines;
  ends = ends-join x y s t p.lines q.lines p.cuts q.ends;
  stopped = stops-after a b now taken p.lines q.lines p.advanced q.stopped;
}

halts-longer : (a : Moment) (now : FilesState) (taken : Option (List ℕ)) (x s t : List ℕ) → StopsInText a now taken x s → StopsInText a now taken x (s ++ t)
halts-longer a now taken x s t p = record { lines = p.lines; ends = ends-longer x s t p.lines p.ends; stopped = p.stopped }

-- nothing of a piece was read
pub part-none : (a : Moment) (begun piece : List ℕ) → HasNoFeed begun → ReadsPart a a begun piece piece begun
part-none a begun piece none =
    record { seen = []; whole = refl; read = record { lines = []; cuts = cuts-none begun; advanced = advances-none a; no_feed = none } }

-- where a rest is cut, the piece is cut too
piece-cut : (seen rest end behind piece : List ℕ) → piece ≡ seen ++ rest → rest ≡ end ++ (10 ∷ behind) → piece ≡ (seen ++ (end ++ (10 ∷ []))) ++ behind
piece-cut seen rest end behind piece p q =
    p ∙ ap (λ (l : List ℕ). seen ++ l) (q ∙ sym (append_assoc end (10 ∷ []) behind)) ∙ sym (append_assoc seen (end ++ (10 ∷ [])) behind)

-- one more line of a piece was answered
pub part-next : (a b c : Moment) (x y z piece rest end behind : List ℕ)
    → ReadsPart a b x piece rest y → CutsAtFeed rest end behind → ReadsText b c y (end ++ (10 ∷ [])) z → ReadsPart a c x piece behind z
part-next a b c x y z piece rest end behind p cut q = record {
  seen = p.seen ++ (end ++ (10 ∷ []));
  whole = piece-cut p.seen rest end behind piece p.whole cut.whole;
  read = reads-join a b c x y z p.seen (end ++ (10 ∷ [])) p.read q;
}

-- the answering stopped at the next line of a piece
pub halts-next : (a b : Moment) (now : FilesState) (taken : Option (List ℕ)) (x y piece rest end behind : List ℕ)
    → ReadsPart a b x piece rest y → CutsAtFeed rest end behind → StopsInText b now taken y (end ++ (10 ∷ [])) → StopsInText a now taken x piece
halts-next a b now taken x y piece rest end behind p cut q =
    subst (λ (l : List ℕ). StopsInText a now taken x l) (sym (piece-cut p.seen rest end behind piece p.whole cut.whole))
    (halts-longer a now taken x (p.seen ++ (end ++ (10 ∷ []))) behind (halts-after a b now taken x y p.seen (end ++ (10 ∷ [])) p.read q))

-- a piece was read whole, and all that was gathered written
pub part-last : (counts now : FilesState) (before taken then : Option (List ℕ)) (a b c : Answering) (x y z piece rest : List ℕ)
    → ReadsPart (record { files = counts; taken = before; answering = a }) (record { files = now; taken = taken; answering = b }) x piece rest y
    → HasNoFeed rest → z ≡ y ++ rest → Writes taken then b c
    → ReadsText (record { files = counts; taken = before; answering = a }) (record { files = now; taken = then; answering = c }) x piece z
part-last counts now before taken then a b c x y z piece rest p none e writes =
    let from : Moment = record { files = counts; taken = before; answering = a } in
    let to : Moment = record { files = now; taken = taken; answering = b } in
    let last : Moment = record { files = now; taken = then; answering = c } in
    let tail : ReadsText to last y rest (y ++ rest) = record {
      lines = [];
      cuts = cuts-begun y rest;
      advanced = advances-writes now taken then b c writes;
      no_feed = joined_no_feed y rest p.read.no_feed none;
    } in
    subst (λ (l : List ℕ). ReadsText from last x piece l) (sym e)
    (subst (λ (l : List ℕ). ReadsText from last x l (y ++ rest)) (sym p.whole) (reads-join from to last x y (y ++ rest) p.seen rest p.read tail))

-- a fault of the output stopped the writing after the lines of a piece
pub halts-last : (a b : Moment) (taken : Option (List ℕ)) (x y piece rest : List ℕ)
    → ReadsPart a b x piece rest y → TakesPrefix b.taken taken b.answering.gathered.items → StopsInText a b.files taken x piece
halts-last a b taken x y piece rest p cut =
    subst (λ (l : List ℕ). StopsInText a b.files taken x l) (sym p.whole)
    (halts-longer a b.files taken x p.seen rest (record {
      lines = p.read.lines;
      ends = ends-cut x y p.seen p.read.lines p.read.cuts;
      stopped = stops-cut a b b.files taken p.read.lines p.read.advanced (AreLater-same b.files.counts) cut;
    }))

-- something else stopped the answering after the lines of a piece
pub halts-behind : (a b : Moment) (x y piece rest : List ℕ) → ReadsPart a b x piece rest y → StopsInText a b.files b.taken x piece
halts-behind a b x y piece rest p =
    subst (λ (l : List ℕ). StopsInText a b.files b.taken x l) (sym p.whole)
    (halts-after a b b.files b.taken x y p.seen rest p.read (halts-none b b.files y rest (AreLater-same b.files.counts)))

-- what holds anyway holds where a call failed
pub on-err : {A E P : Type 0} (r : Result A E) → P → OnErr r P
on-err (Ok x) p = tt
on-err (Err e) p = p
