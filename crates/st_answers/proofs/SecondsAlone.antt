-- A picture whose marks print seconds alone: its least unit, its text and its cells.
use Rattle.std.proofs.Common.{◌≡◌, ◌≢◌, ℕ, ◌^◌, ◌≤◌, ℤ, pos, Bool, true, false, inl, inr, List, [], ◌∷◌, ◌++◌, append-nil, append_assoc, Option, Some, None, Ok, refl, sym, ap, ◌∙◌, subst, mul_comm}
use Rattle.std.proofs.lemmas.List.Concat.{flat_map-append}
use Rattle.std.proofs.Math.IntN.{*ℤ_comm}
use Rattle.std.specs.List.{flat_map}
use Rattle.st_clock.specs.Return.{IsCell as IsClockCell, moved}
use Rattle.st_decimal.specs.Fixed.{fixed}
use Rattle.st_dates.specs.declared.system.System.{System}
use Rattle.st_fraction.specs.Floor.{IsFloor}
use Rattle.st_fraction.specs.Fraction.{Fraction, over, whole, ◌*ᶠ◌}
use Rattle.st_picture.specs.Cell.{IsCell, times_tens, to_truncate}
use Rattle.st_picture.specs.Picture.{IsLeastUnit, Picture, Stands, unit_of}
use Rattle.st_picture.specs.Reading.{HasCountBeside, IsSecondsAlone, Prints, ReadsPicture}
use Rattle.st_picture.specs.Text.{IsTextOf, mark_text, shown_text}
use Rattle.st_picture.specs.declared.cell.Cell.{Cell}
use Rattle.st_picture.specs.declared.cell.Cell.TheVariants as cells
use Rattle.st_picture.specs.declared.fault.PictureFault.TheVariants.{TooManyPlaces}
use Rattle.st_picture.specs.declared.mark.Mark.{Mark}
use Rattle.st_picture.specs.declared.mark.Mark.TheVariants.{Year, Month, MonthShort, MonthName, DayOfMonth, DayOfYear, WeekdayShort, WeekdayName, Hour, HourOfHalf, Minute, Second, HalfUpper, HalfLower, Seconds, JulianDate, Scale, Round, Truncate}
use Rattle.st_picture.specs.declared.mark.Piece.{Piece}
use Rattle.st_picture.specs.declared.mark.Piece.TheVariants.{Marked, Plain}
use Rattle.st_picture.specs.declared.unit.LeastUnit.{LeastUnit}
use Rattle.st_picture.specs.declared.unit.LeastUnit.TheVariants as units
use Rattle.st_picture.proofs.OneAnswer.{beside}
use Rattle.std.proofs.lemmas.Bool.{cases_lt}

-- a piece that prints nothing
abbrev Silent : Piece → Type 0
Silent (Marked mark) = unit_of mark ≡ None
Silent (Plain byte) = ⊥

silent-mark : (s : _) (mark : Mark) → unit_of mark ≡ None → mark_text s mark ≡ []
silent-mark s (Scale system) e = refl
silent-mark s Round e = refl
silent-mark s Truncate e = refl
silent-mark s Year e = absurd cc
silent-mark s Month e = absurd cc
silent-mark s (MonthShort letters) e = absurd cc
silent-mark s (MonthName letters) e = absurd cc
silent-mark s DayOfMonth e = absurd cc
silent-mark s DayOfYear e = absurd cc
silent-mark s (WeekdayShort letters) e = absurd cc
silent-mark s (WeekdayName letters) e = absurd cc
silent-mark s Hour e = absurd cc
silent-mark s HourOfHalf e = absurd cc
silent-mark s Minute e = absurd cc
silent-mark s (Second places) e = absurd cc
silent-mark s HalfUpper e = absurd cc
silent-mark s HalfLower e = absurd cc
silent-mark s (Seconds places) e = absurd cc
silent-mark s (JulianDate places) e = absurd cc

silent-piece : (s : _) (piece : Piece) → Silent piece → shown_text s piece ≡ []
silent-piece s (Marked mark) h = silent-mark s mark h
silent-piece s (Plain byte) h = absurd h

abbrev AreSilent : List Piece → Type 0
AreSilent pieces = (before : List Piece) (piece : Piece) (after : List Piece) → pieces ≡ before ++ (piece ∷ after) → Silent piece

silent-text : (s : _) (pieces : List Piece) → AreSilent pieces → flat_map (shown_text s) pieces ≡ []
silent-text s [] h = refl
silent-text s (p ∷ pieces) h =
    ap (λ (t : List ℕ). t ++ flat_map (shown_text s) pieces) (silent-piece s p (h [] p pieces refl))
    ∙ silent-text s pieces (λ before piece after e. h (p ∷ before) piece after (ap (λ (t : List Piece). p ∷ t) e))

-- what stands beside seconds alone
none-or : (o : Option LeastUnit) → (o ≢ None → ⊥) → o ≡ None
none-or None h = refl
none-or (Some u) h = absurd (h (λ e. cc))

module _ (pieces : List Piece) (places : ℕ) (alone : HasCountBeside pieces → ⊥)
    (no_bytes : (before : List Piece) (byte : ℕ) (after : List Piece) → pieces ≡ before ++ (Plain byte ∷ after) → ⊥) where
  seconds-print : Prints (Seconds places)
  seconds-print e = cc

  silent-before : (before : List Piece) (piece : Piece) (between after : List Piece) → pieces ≡ before ++ (piece ∷ (between ++ (Marked (Seconds places) ∷ after))) → Silent piece
  silent-before before (Plain byte) between after e = no_bytes before byte (between ++ (Marked (Seconds places) ∷ after)) e
  silent-before before (Marked mark) between after e = none-or (unit_of mark) (λ prints. alone (record {
    before = before;
    first = mark;
    between = between;
    second = Seconds places;
    after = after;
    whole = e;
    print = (prints, seconds-print);
    count = inr tt;
  }))

  silent-after : (before between : List Piece) (piece : Piece) (after : List Piece) → pieces ≡ before ++ (Marked (Seconds places) ∷ (between ++ (piece ∷ after))) → Silent piece
  silent-after before between (Plain byte) after e =
      no_bytes (before ++ (Marked (Seconds places) ∷ between)) byte after (e ∙ sym (append_assoc before (Marked (Seconds places) ∷ between) (Plain byte ∷ after)))
  silent-after before between (Marked mark) after e = none-or (unit_of mark) (λ prints. alone (record {
    before = before;
    first = Seconds places;
    between = between;
    second = mark;
    after = after;
    whole = e;
    print = (seconds-print, prints);
    count = inl tt;
  }))

  text-alone : Stands pieces (Seconds places) → (s : _) → flat_map (shown_text s) pieces ≡ fixed s.count places
  text-alone h s =
      let mark : Piece = Marked (Seconds places) in
      let front = silent-text s h.before (λ before piece after e. silent-before before piece after h.after
      (h.here ∙ ap (λ (t : List Piece). t ++ (mark ∷ h.after)) e ∙ append_assoc before (piece ∷ after) (mark ∷ h.after))) in
      let back = silent-text s h.after (λ before piece after e. silent-after h.before before piece after (h.here ∙ ap (λ (t : List Piece). h.before ++ (mark ∷ t)) e)) in
      ap (flat_map (shown_text s)) h.here
      ∙ flat_map-append (shown_text s) h.before (mark ∷ h.after)
      ∙ ap (λ (t : List ℕ). t ++ (fixed s.count places ++ flat_map (shown_text s) h.after)) front
      ∙ ap (λ (t : List ℕ). fixed s.count places ++ t) back
      ∙ append-nil (fixed s.count places)

-- the text of a number by seconds alone
pub alone-text : (pieces : List Piece) (places : ℕ) (n : ℤ) (text : List ℕ) → IsSecondsAlone pieces → Stands pieces (Seconds places)
    → IsTextOf pieces (cells.Count n) text → text ≡ fixed n places
alone-text pieces places n text is stands t =
    t.whole ∙ text-alone pieces places is.alone is.no_bytes stands t.shown ∙ ap (λ (z : ℤ). fixed z places) t.shows

-- its least unit
pub alone-unit : (pieces : List Piece) (places : ℕ) (unit : LeastUnit) → IsSecondsAlone pieces → Stands pieces (Seconds places) → IsLeastUnit pieces unit → unit ≡ units.Count places
alone-unit pieces places unit is stands least = beside pieces least.mark (Seconds places) unit (units.Count places) least.prints refl least.stands stands (inr tt) is.alone

pub few-places : (system : System) (text : List ℕ) (picture : Picture) (places : ℕ) → ReadsPicture system text (Ok picture) → Stands picture.pieces (Seconds places) → places ≤ 9
few-places system text picture places reads stands = elim (cases_lt 9 places) [
  | inl l ↦ absurd (reads.4 TooManyPlaces (Seconds places, stands, l))
  | inr l ↦ l
]

-- and its cells, as the return of a clock's ticks has them
turned : (a b : Fraction) → a *ᶠ b ≡ b *ᶠ a
turned a b = λ i. over (*ℤ_comm a.num b.num i) (mul_comm a.den b.den i)

moved-is : (places : ℕ) (rounds : Bool) (v : Fraction) → to_truncate (units.Count places) rounds v ≡ moved places rounds v
moved-is places false v = refl
moved-is places true v = refl

pub alone-cell : (places : ℕ) (rounds : Bool) (count : ℤ → ℤ) (v : Fraction) (cell : Cell) → IsCell (units.Count places) rounds count v cell
    → (n : ℤ) × IsClockCell places rounds v n × (cell ≡ cells.Count n)
alone-cell places rounds count v cell (n, floor, is) =
    let same : times_tens (to_truncate (units.Count places) rounds v) places ≡ whole (pos (10 ^ places)) *ᶠ moved places rounds v =
    turned (to_truncate (units.Count places) rounds v) (whole (pos (10 ^ places))) ∙ ap (λ (w : Fraction). whole (pos (10 ^ places)) *ᶠ w) (moved-is places rounds v) in
    (n, subst (λ (x : Fraction). IsFloor x n) same floor, is)
