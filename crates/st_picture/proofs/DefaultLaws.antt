-- The two default pictures: their pieces, and their texts as plain formulas.
use Rattle.std.proofs.Common.{◌≡◌, ◌≢◌, ◌↔◌, ◌⊎◌, ℕ, ◌+◌, ◌*◌, ◌/◌, ◌%◌, ◌^◌, ◌<◌, false, List, [], ◌∷◌, ◌++◌, Option, Ok, inl, inr, refl, sym, ap, ◌∙◌, subst, arith, lit<, lit≤, ℤ, pos, negsuc, ◌+ℤ◌, ◌*ℤ◌}
use Rattle.std.specs.Prelude.{unsigned_abs}
use Rattle.std.specs.List.{flat_map}
use Rattle.std.proofs.lemmas.Int.{ints}
use Rattle.st_text.specs.Bytes.{padded}
use Rattle.st_decimal.specs.Fixed.{fixed}
use Rattle.st_dates.specs.declared.civil.Civil.{Civil}
use Rattle.st_dates.specs.declared.system.System.{System}
use Rattle.st_dates.specs.declared.system.System.TheVariants as systems
use Rattle.st_fraction.specs.Fraction.{Fraction, ◌≤ᶠ◌, ◌<ᶠ◌, whole, units, ◌*ᶠ◌}
use Rattle.st_fraction.specs.Floor.{IsFloor}
use Rattle.st_fraction.proofs.Order.{le_f_cases, not_both_f}
use Rattle.st_leaps.specs.declared.table.LeapTable.{LeapTable}
use Rattle.st_picture.specs.Cell.{IsTruncated, HasLabelCell, days_of, leaps_for}
use Rattle.st_picture.specs.Defaults.{calendar_picture, seconds_picture, IsMillisOfDay, calendar_line, IsCalendarText, HasCalendarText, HasSecondsText}
use Rattle.st_picture.specs.Mark.{IsCut, IsLongest, spelled}
use Rattle.st_picture.specs.Picture.{Picture, Stands}
use Rattle.st_picture.specs.Printing.{HasText}
use Rattle.st_picture.specs.Reading.{ReadsPicture}
use Rattle.st_picture.specs.ReadingMachine.{front_of, tested}
use Rattle.st_picture.specs.Text.{IsTimeOfDay, IsTextOf, seconds_text, shown_text}
use Rattle.st_picture.specs.declared.cell.Cell.{Cell}
use Rattle.st_picture.specs.declared.cell.Cell.TheVariants as cells
use Rattle.st_picture.specs.declared.fault.PictureFault.TheVariants.{CountInUtc}
use Rattle.st_picture.specs.declared.mark.Mark.TheVariants.{Year, Month, DayOfMonth, Hour, Minute, Second, Seconds}
use Rattle.st_picture.specs.declared.mark.Piece.{Piece}
use Rattle.st_picture.specs.declared.mark.Piece.TheVariants.{Marked, Plain}
use Rattle.st_picture.specs.declared.shown.Shown.{Shown}
use Rattle.st_picture.specs.declared.unit.LeastUnit.TheVariants as units
use Rattle.st_picture.proofs.Counts.{count_below, below_of_count}
use Rattle.st_picture.proofs.Cuts.{CutsTo, cut_is, end_nothing, one_cut}
use Rattle.st_picture.proofs.Fronts.{front_longest}
use Rattle.st_picture.proofs.OneAnswer.{same_picture}
use Rattle.st_picture.proofs.ReadLaws.{picture_read, told_of}
use Rattle.st_picture.proofs.RuleLaws.{stands_head}

-- Each piece is what the text begins with at its place.
abbrev AreFronts : List Piece → Type 0
AreFronts [] = Unit {0}
AreFronts (piece ∷ pieces) = (piece ≡ front_of (spelled (piece ∷ pieces) ++ [])) × AreFronts pieces

cuts_of : (pieces : List Piece) → AreFronts pieces → CutsTo pieces []
cuts_of [] f = tt
cuts_of (piece ∷ pieces) f =
    let text = spelled (piece ∷ pieces) ++ [] in
    (subst (λ (p : Piece). IsLongest p text) (sym f.0) (front_longest text), cuts_of pieces f.1)

-- `YYYY-MM-DDTHR:MN:SC.###`
abbrev calendar_pieces : List Piece
calendar_pieces =
    Marked Year ∷ Plain 45 ∷ Marked Month ∷ Plain 45 ∷ Marked DayOfMonth ∷ Plain 84 ∷ Marked Hour ∷ Plain 58 ∷ Marked Minute ∷ Plain 58
    ∷ Marked (Second 3) ∷ []

abbrev calendar : System → Picture
calendar system = record { system = system; pieces = calendar_pieces; unit = units.Second 3; rounds = false }

calendar_fronts : AreFronts calendar_pieces
unfolding front_of
calendar_fronts = (refl, (refl, (refl, (refl, (refl, (refl, (refl, (refl, (refl, (refl, (refl, tt)))))))))))

calendar_tested : (system : System) → Ok (units.Second 3, false) ≡ tested system calendar_pieces
calendar_tested systems.Utc = refl
calendar_tested systems.Tai = refl
calendar_tested systems.Tt = refl
calendar_tested systems.Tdb = refl
calendar_tested systems.Sclk = refl

calendar_read : (system : System) → ReadsPicture system calendar_picture (Ok (calendar system))
calendar_read system =
    picture_read system calendar_picture calendar_pieces (units.Second 3, false) (cut_is calendar_picture calendar_pieces refl (cuts_of calendar_pieces calendar_fronts))
    (told_of system calendar_picture calendar_pieces calendar_pieces (Ok (units.Second 3, false)) (lit≤ tt) refl refl (calendar_tested system))

-- `SP2000.######`
abbrev seconds_pieces : List Piece
seconds_pieces = Marked (Seconds 6) ∷ []

abbrev seconds : System → Picture
seconds system = record { system = system; pieces = seconds_pieces; unit = units.Count 6; rounds = false }

seconds_fronts : AreFronts seconds_pieces
unfolding front_of
seconds_fronts = (refl, tt)

seconds_cut : IsCut seconds_picture seconds_pieces
seconds_cut = cut_is seconds_picture seconds_pieces refl (cuts_of seconds_pieces seconds_fronts)

seconds_tested : (system : System) → system ≢ systems.Utc → Ok (units.Count 6, false) ≡ tested system seconds_pieces
seconds_tested systems.Utc other = absurd (other refl)
seconds_tested systems.Tai other = refl
seconds_tested systems.Tt other = refl
seconds_tested systems.Tdb other = refl
seconds_tested systems.Sclk other = refl

seconds_read : (system : System) → system ≢ systems.Utc → ReadsPicture system seconds_picture (Ok (seconds system))
seconds_read system other =
    picture_read system seconds_picture seconds_pieces (units.Count 6, false) seconds_cut
    (told_of system seconds_picture seconds_pieces seconds_pieces (Ok (units.Count 6, false)) (lit≤ tt) refl refl (seconds_tested system other))

pub defaults_are_read : ((system : System) → (picture : Picture) × ReadsPicture system calendar_picture (Ok picture))
    × ((system : System) → system ≢ systems.Utc → (picture : Picture) × ReadsPicture system seconds_picture (Ok picture))
defaults_are_read = (λ system. (calendar system, calendar_read system), λ system other. (seconds system, seconds_read system other))

-- A second in milliseconds.
whole_seconds : (n : ℕ) → n / 10 ^ 18 ≡ n / 10 ^ 15 / 1000
whole_seconds n = omega arith

thousandths : (n : ℕ) → n % 10 ^ 18 / 10 ^ 15 ≡ n / 10 ^ 15 % 1000
thousandths n = omega arith

seconds_line : (n : ℕ) → seconds_text n 3 ++ [] ≡ padded 2 (n / 10 ^ 15 / 1000) ++ (46 ∷ padded 3 (n / 10 ^ 15 % 1000))
seconds_line n =
    let a = whole_seconds n in
    let b = thousandths n in
    end_nothing (seconds_text n 3) ∙ (λ i. padded 2 (a i) ++ (46 ∷ padded 3 (b i)))

line_of : (s : Shown) → flat_map (shown_text s) calendar_pieces ≡ calendar_line s.civil s.hour s.minute (s.second / 10 ^ 15)
line_of s =
    let more = seconds_line s.second in
    λ i. padded 4 (unsigned_abs s.civil.year) ++ (45 ∷ (padded 2 s.civil.month ++ (45 ∷ (padded 2 s.civil.day
    ++ (84 ∷ (padded 2 s.hour ++ (58 ∷ (padded 2 s.minute ++ (58 ∷ more i)))))))))

millis_sum : (millis : ℤ) (h m n : ℕ) → millis *ℤ pos (10 ^ 15) ≡ pos ((h * 3_600 + m * 60) * 10 ^ 18 + n) → millis ≡ pos ((h * 60 + m) * 60_000 + n / 10 ^ 15)
millis_sum (negsuc k) h m n e = absurd (omega (arith, ints))
millis_sum (pos k) h m n e =
    let f : k * 10 ^ 15 ≡ (h * 3_600 + m * 60) * 10 ^ 18 + n = omega (arith, ints) in
    let g : k ≡ (h * 60 + m) * 60_000 + n / 10 ^ 15 = omega arith in
    ap pos g

millis_within : (n h m : ℕ) → (n < 60 * 10 ^ 18) ⊎ ((h ≡ 23) × (m ≡ 59)) → (n / 10 ^ 15 < 60_000) ⊎ ((h ≡ 23) × (m ≡ 59))
millis_within n h m (inl l) = inl (omega arith)
millis_within n h m (inr e) = inr e

millis_of : (millis : ℤ) (s : Shown) → IsTimeOfDay (millis *ℤ pos (10 ^ 15)) s → IsMillisOfDay millis s.hour s.minute (s.second / 10 ^ 15)
millis_of millis s h = record {
  sum = millis_sum millis s.hour s.minute s.second h.sum;
  hours = h.hours;
  minutes = h.minutes;
  within = millis_within s.second s.hour s.minute h.within;
}

shown_of : Civil → ℕ → ℕ → ℕ → ℤ → Shown
shown_of date hour minute second count = record { civil = date; hour = hour; minute = minute; second = second; count = count }

units_sum : (millis : ℤ) (h m n : ℕ) → millis ≡ pos ((h * 60 + m) * 60_000 + n) → millis *ℤ pos (10 ^ 15) ≡ pos ((h * 3_600 + m * 60) * 10 ^ 18 + n * 10 ^ 15)
units_sum millis h m n e = omega (arith, ints)

units_within : (n h m : ℕ) → (n < 60_000) ⊎ ((h ≡ 23) × (m ≡ 59)) → (n * 10 ^ 15 < 60 * 10 ^ 18) ⊎ ((h ≡ 23) × (m ≡ 59))
units_within n h m (inl l) = inl (omega arith)
units_within n h m (inr e) = inr e

time_of : (millis : ℤ) (date : Civil) (h m n : ℕ) → IsMillisOfDay millis h m n → IsTimeOfDay (millis *ℤ pos (10 ^ 15)) (shown_of date h m (n * 10 ^ 15) (pos 0))
unfolding shown_of
time_of millis date h m n t = record {
  sum = units_sum millis h m n t.sum;
  hours = t.hours;
  minutes = t.minutes;
  within = units_within n h m t.within;
}

back_to_millis : (n : ℕ) → n * 10 ^ 15 / 10 ^ 15 ≡ n
back_to_millis n = omega arith

calendar_cell : (day millis : ℤ) (text : List ℕ) → IsTextOf calendar_pieces (cells.Day day (millis *ℤ pos (10 ^ 15))) text ↔ IsCalendarText day millis text
unfolding shown_of
calendar_cell day millis text = (
  λ h. record {
    date = h.shown.civil;
    is_date = h.shows.0;
    hour = h.shown.hour;
    minute = h.shown.minute;
    rest = h.shown.second / 10 ^ 15;
    time = millis_of millis h.shown h.shows.1;
    line = h.whole ∙ line_of h.shown;
  },
  λ k.
      let s = shown_of k.date k.hour k.minute (k.rest * 10 ^ 15) (pos 0) in
      record {
        shown = s;
        shows = (k.is_date, time_of millis k.date k.hour k.minute k.rest k.time);
        whole = k.line ∙ sym (line_of s ∙ ap (calendar_line k.date k.hour k.minute) (back_to_millis k.rest));
      },
)

pub calendar_cells : (system : System) (picture : Picture) (day millis : ℤ) (text : List ℕ) → ReadsPicture system calendar_picture (Ok picture)
    → IsTextOf picture.pieces (cells.Day day (millis *ℤ pos (10 ^ 15))) text ↔ IsCalendarText day millis text
calendar_cells system picture day millis text r =
    let P : Picture → Type 0 = λ p. IsTextOf p.pieces (cells.Day day (millis *ℤ pos (10 ^ 15))) text ↔ IsCalendarText day millis text in
    subst P (sym (same_picture system calendar_picture picture (calendar system) r (calendar_read system))) (calendar_cell day millis text)

-- A second cut down to milliseconds, as a whole number of them.
next_milli : (n : ℤ) → n *ℤ pos (10 ^ 15) +ℤ pos (10 ^ 15) ≡ (n +ℤ pos 1) *ℤ pos (10 ^ 15)
next_milli n = omega (arith, ints)

floor_of_truncated : (second : Fraction) (n z : ℤ) → z ≡ n *ℤ pos (10 ^ 15) → IsTruncated (10 ^ 15) second z → IsFloor (second *ᶠ whole (pos 1000)) n
floor_of_truncated second n z e t =
    let from : units (n *ℤ pos (10 ^ 15)) ≤ᶠ second = subst (λ (x : ℤ). units x ≤ᶠ second) e t.from in
    let to : second <ᶠ units ((n +ℤ pos 1) *ℤ pos (10 ^ 15)) = subst (λ (x : ℤ). second <ᶠ units x) (ap (λ (x : ℤ). x +ℤ pos (10 ^ 15)) e ∙ next_milli n) t.to in
    record {
      at_most = le_f_cases (whole n) (second *ᶠ whole (pos 1000)) (λ le. le)
          (λ lt. absurd (not_both_f (units (n *ℤ pos (10 ^ 15))) second from (below_of_count second n 1000 (10 ^ 15) (10 ^ 18) refl (lit< tt) lt)));
      below_next = count_below second (n +ℤ pos 1) 1000 (10 ^ 15) (10 ^ 18) refl to;
    }

truncated_of_floor : (second : Fraction) (n : ℤ) → IsFloor (second *ᶠ whole (pos 1000)) n → IsTruncated (10 ^ 15) second (n *ℤ pos (10 ^ 15))
truncated_of_floor second n f = record {
  times = n;
  multiple = refl;
  from = le_f_cases (units (n *ℤ pos (10 ^ 15))) second (λ le. le)
      (λ lt. absurd (not_both_f (whole n) (second *ᶠ whole (pos 1000)) f.at_most (count_below second n 1000 (10 ^ 15) (10 ^ 18) refl lt)));
  to = subst (λ (x : ℤ). second <ᶠ units x) (sym (next_milli n)) (below_of_count second (n +ℤ pos 1) 1000 (10 ^ 15) (10 ^ 18) refl (lit< tt) f.below_next);
}

calendar_text_to : (count : ℤ → ℤ) (v : Fraction) (cell : Cell) (text : List ℕ) → HasLabelCell (units.Second 3) count v cell → IsTextOf calendar_pieces cell text → HasCalendarText count v text
calendar_text_to count v cell text h t =
    let z = h.is_cell.0 in
    let cut = h.is_cell.1 in
    let same : cell ≡ cells.Day h.label.day (cut.times *ℤ pos (10 ^ 15)) = h.is_cell.2 ∙ ap (λ (x : ℤ). cells.Day h.label.day x) cut.multiple in
    record {
      label = h.label;
      is_label = h.is_label;
      millis = cut.times;
      truncated = floor_of_truncated h.label.second cut.times z cut.multiple cut;
      is_text = (calendar_cell h.label.day cut.times text).0 (subst (λ (x : Cell). IsTextOf calendar_pieces x text) same t);
    }

calendar_text_from : (system : System) (leaps : Option LeapTable) (v : Fraction) (text : List ℕ) → HasCalendarText (days_of (leaps_for system leaps)) v text
    → HasText (calendar system) leaps v text
calendar_text_from system leaps v text k = record {
  cell = cells.Day k.label.day (k.millis *ℤ pos (10 ^ 15));
  is_cell = record {
    label = k.label;
    is_label = k.is_label;
    is_cell = (k.millis *ℤ pos (10 ^ 15), truncated_of_floor k.label.second k.millis k.truncated, refl);
  };
  is_text = (calendar_cell k.label.day k.millis text).1 k.is_text;
}

pub calendar_texts : (system : System) (picture : Picture) (leaps : Option LeapTable) (v : Fraction) (text : List ℕ) → ReadsPicture system calendar_picture (Ok picture)
    → HasText picture leaps v text ↔ HasCalendarText (days_of (leaps_for system leaps)) v text
calendar_texts system picture leaps v text r =
    let P : Picture → Type 0 = λ p. HasText p leaps v text ↔ HasCalendarText (days_of (leaps_for system leaps)) v text in
    subst P (sym (same_picture system calendar_picture picture (calendar system) r (calendar_read system)))
    (λ h. calendar_text_to (days_of (leaps_for system leaps)) v h.cell text h.is_cell h.is_text, calendar_text_from system leaps v text)

-- Seconds.
no_date : Civil
no_date = record { year = pos 0; month = 1; day = 1; doy = 1; weekday = 0 }

seconds_text_to : (v : Fraction) (cell : Cell) (text : List ℕ) → (q : ℤ) × IsFloor (v *ᶠ whole (pos 1_000_000)) q × (cell ≡ cells.Count q)
    → IsTextOf seconds_pieces cell text → HasSecondsText v text
seconds_text_to v cell text c t =
    let h : IsTextOf seconds_pieces (cells.Count c.0) text = subst (λ (x : Cell). IsTextOf seconds_pieces x text) c.2 t in
    record { micros = c.0; truncated = c.1; is_text = h.whole ∙ end_nothing (fixed h.shown.count 6) ∙ ap (λ (z : ℤ). fixed z 6) h.shows }

seconds_text_from : (system : System) (leaps : Option LeapTable) (v : Fraction) (text : List ℕ) → HasSecondsText v text → HasText (seconds system) leaps v text
unfolding shown_of
seconds_text_from system leaps v text k = record {
  cell = cells.Count k.micros;
  is_cell = (k.micros, k.truncated, refl);
  is_text = record {
    shown = shown_of no_date 0 0 0 k.micros;
    shows = refl;
    whole = k.is_text ∙ sym (end_nothing (fixed k.micros 6));
  };
}

never_utc : (system : System) (picture : Picture) → ReadsPicture system seconds_picture (Ok picture) → system ≢ systems.Utc
never_utc system picture r = λ e.
    let stands : Stands picture.pieces (Seconds 6) = subst (λ (ps : List Piece). Stands ps (Seconds 6)) (one_cut seconds_picture seconds_pieces picture.pieces seconds_cut r.1) (stands_head (Seconds 6) []) in
    r.4 CountInUtc (e, (Seconds 6, stands, tt))

pub seconds_texts : (system : System) (picture : Picture) (leaps : Option LeapTable) (v : Fraction) (text : List ℕ) → ReadsPicture system seconds_picture (Ok picture)
    → HasText picture leaps v text ↔ HasSecondsText v text
seconds_texts system picture leaps v text r =
    let P : Picture → Type 0 = λ p. HasText p leaps v text ↔ HasSecondsText v text in
    subst P (sym (same_picture system seconds_picture picture (seconds system) r (seconds_read system (never_utc system picture r))))
    (λ h. seconds_text_to v h.cell text h.is_cell h.is_text, seconds_text_from system leaps v text)
