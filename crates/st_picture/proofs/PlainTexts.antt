-- Each byte of a picture's text is one from the space to `~`, and each text has an answer as a picture.
use Rattle.std.proofs.Common.{◌≡◌, ◌≢◌, ℕ, zero, suc, ◌+◌, ◌-◌, ◌/◌, ◌%◌, ◌^◌, ◌<◌, ◌≤◌, Bool, true, false, not, ◌&&◌, ◌==◌, cond, List, [], ◌∷◌, ◌++◌, length, Option, Some, None, Result, Ok, Err, inl, inr, refl, sym, ap, ◌∙◌, subst, arith, ℤ, pos, negsuc}
use Rattle.std.specs.Prelude.{take, map, position, codes, slice_index_or, nat_lt, unsigned_abs}
use Rattle.std.specs.Char.{is_ascii_digit, to_ascii_lowercase}
use Rattle.std.specs.List.{list_all, flat_map, All}
use Rattle.std.proofs.lemmas.Bool.{cases_Bool, cases_lt}
use Rattle.std.proofs.lemmas.Bool.Decides.{nat_tests}
use Rattle.std.proofs.lemmas.List.Folds.{list_all-append}
use Rattle.std.proofs.lemmas.List.Sums.{AllPass-from_list_all}
use Rattle.std.proofs.lemmas.List.Elements.{All-weaker}
use Rattle.st_text.specs.Bytes.{padded, are_digits}
use Rattle.st_text.proofs.Spelled.{are_digits-padded}
use Rattle.st_decimal.specs.Fixed.{sign, decimals, fixed}
use Rattle.st_dates.specs.Names.{lowered, month_names, name_of_month, weekday_names, name_of_weekday}
use Rattle.st_dates.specs.declared.system.System.{System}
use Rattle.st_picture.specs.declared.cell.Cell.{Cell}
use Rattle.st_picture.specs.declared.fault.PictureFault.{PictureFault}
use Rattle.st_picture.specs.declared.fault.PictureFault.TheVariants.{BadByte, TooLong, OutOfMemory}
use Rattle.st_picture.specs.declared.mark.Case.{Case}
use Rattle.st_picture.specs.declared.mark.Case.TheVariants.{Upper, Capital, Lower}
use Rattle.st_picture.specs.declared.mark.Mark.{Mark}
use Rattle.st_picture.specs.declared.mark.Mark.TheVariants.{Year, Month, MonthShort, MonthName, DayOfMonth, DayOfYear, WeekdayShort, WeekdayName, Hour, HourOfHalf, Minute, Second, HalfUpper, HalfLower, Seconds, JulianDate, Scale, Round, Truncate}
use Rattle.st_picture.specs.declared.mark.Piece.{Piece}
use Rattle.st_picture.specs.declared.mark.Piece.TheVariants.{Marked, Plain}
use Rattle.st_picture.specs.declared.shown.Shown.{Shown}
use Rattle.st_picture.specs.declared.unit.LeastUnit.{LeastUnit}
use Rattle.st_picture.specs.Mark.{IsCut, piece_text, word_of, spelled}
use Rattle.st_picture.specs.Picture.{Picture}
use Rattle.st_picture.specs.Reading.{IsPlainByte, HasBadByte, ReadsPicture}
use Rattle.st_picture.specs.ReadingMachine.{is_bad_byte, tested}
use Rattle.st_picture.specs.Text.{IsTextOf, in_case, mark_text, seconds_text, shown_text}
use Rattle.st_picture.specs.Laws.{EachHasReading, TextsArePlain}
use Rattle.st_picture.proofs.Cuts.{each_has_cut}
use Rattle.st_picture.proofs.ReadLaws.{TestsTo, tests_to, too_long, bad_byte_read, bad_byte_is, clear_two, fault_read, picture_read}

abbrev is_good : ℕ → Bool
is_good b = not (is_bad_byte b)

good_is : (b : ℕ) → is_good b ≡ true → IsPlainByte b
good_is b h = record { from = grind (arith, nat_tests); to = grind (arith, nat_tests) }

is_good_of : (b : ℕ) → IsPlainByte b → is_good b ≡ true
is_good_of b h = let from = h.from in let to = h.to in grind (arith, nat_tests)

both : (a b : Bool) → a ≡ true → b ≡ true → (a && b) ≡ true
both true true h k = refl
both true false h k = k
both false b h k = h

left : (a b : Bool) → (a && b) ≡ true → a ≡ true
left true b h = refl
left false b h = h

right : (a b : Bool) → (a && b) ≡ true → b ≡ true
right true b h = h
right false b h = absurd (cc)

joined : (a b : List ℕ) → list_all is_good a ≡ true → list_all is_good b ≡ true → list_all is_good (a ++ b) ≡ true
joined a b h k = list_all-append is_good a b ∙ both (list_all is_good a) (list_all is_good b) h k

-- digits
digit_good : (b : ℕ) → is_ascii_digit b ≡ true → is_good b ≡ true
digit_good b h = grind (arith, nat_tests)

digits_good : (text : List ℕ) → are_digits text ≡ true → list_all is_good text ≡ true
digits_good [] h = refl
digits_good (b ∷ text) h =
    both (is_good b) (list_all is_good text) (digit_good b (left (is_ascii_digit b) (are_digits text) h)) (digits_good text (right (is_ascii_digit b) (are_digits text) h))

padded_good : (width n : ℕ) → list_all is_good (padded width n) ≡ true
padded_good width n = digits_good (padded width n) (are_digits-padded width n)

decimals_good : (places n : ℕ) → list_all is_good (decimals places n) ≡ true
decimals_good places n = go (places == 0)
  where
    go : (t : Bool) → list_all is_good (cond t [] (46 ∷ padded places n)) ≡ true
    go true = refl
    go false = padded_good places n

sign_good : (n : ℤ) → list_all is_good (sign n) ≡ true
sign_good (pos n) = refl
sign_good (negsuc n) = refl

fixed_good : (n : ℤ) (places : ℕ) → list_all is_good (fixed n places) ≡ true
fixed_good n places =
    let front = padded 1 (unsigned_abs n / 10 ^ places) in
    joined (sign n ++ front) (decimals places (unsigned_abs n % 10 ^ places)) (joined (sign n) front (sign_good n) (padded_good 1 (unsigned_abs n / 10 ^ places)))
    (decimals_good places (unsigned_abs n % 10 ^ places))

seconds_good : (n places : ℕ) → list_all is_good (seconds_text n places) ≡ true
seconds_good n places = joined (padded 2 (n / 10 ^ 18)) _ (padded_good 2 (n / 10 ^ 18)) (decimals_good places (n % 10 ^ 18 / 10 ^ (18 - places)))

-- names
lower_good : (b : ℕ) → is_good b ≡ true → is_good (to_ascii_lowercase b) ≡ true
lower_good b h = grind (arith, nat_tests)

lowered_good : (text : List ℕ) → list_all is_good text ≡ true → list_all is_good (lowered text) ≡ true
lowered_good [] h = refl
lowered_good (b ∷ text) h =
    both (is_good (to_ascii_lowercase b)) (list_all is_good (lowered text)) (lower_good b (left (is_good b) (list_all is_good text) h)) (lowered_good text (right (is_good b) (list_all is_good text) h))

in_case_good : (letters : Case) (name : List ℕ) → list_all is_good name ≡ true → list_all is_good (in_case letters name) ≡ true
in_case_good Upper name h = h
in_case_good Capital [] h = refl
in_case_good Capital (b ∷ more) h = both (is_good b) (list_all is_good (lowered more)) (left (is_good b) (list_all is_good more) h) (lowered_good more (right (is_good b) (list_all is_good more) h))
in_case_good Lower name h = lowered_good name h

take_good : (n : ℕ) (text : List ℕ) → list_all is_good text ≡ true → list_all is_good (take n text) ≡ true
take_good zero text h = refl
take_good (suc n) [] h = refl
take_good (suc n) (b ∷ text) h = both (is_good b) (list_all is_good (take n text)) (left (is_good b) (list_all is_good text) h) (take_good n text (right (is_good b) (list_all is_good text) h))

picked : (names : List (List ℕ)) (k : ℕ) → list_all (list_all is_good) names ≡ true → list_all is_good (slice_index_or names k []) ≡ true
picked [] k h = refl
picked (name ∷ names) zero h = left (list_all is_good name) (list_all (list_all is_good) names) h
picked (name ∷ names) (suc k) h = picked names k (right (list_all is_good name) (list_all (list_all is_good) names) h)

month_good : (m : ℕ) → list_all is_good (name_of_month m) ≡ true
month_good m = picked month_names (m - 1) refl

weekday_good : (w : ℕ) → list_all is_good (name_of_weekday w) ≡ true
weekday_good w = picked weekday_names w refl

half_good : (t : Bool) (a b : List ℕ) → list_all is_good a ≡ true → list_all is_good b ≡ true → list_all is_good (cond t a b) ≡ true
half_good true a b h k = h
half_good false a b h k = k

mark_good : (s : Shown) (mark : Mark) → list_all is_good (mark_text s mark) ≡ true
mark_good s Year = padded_good 4 (unsigned_abs s.civil.year)
mark_good s Month = padded_good 2 s.civil.month
mark_good s (MonthShort letters) = in_case_good letters _ (take_good 3 (name_of_month s.civil.month) (month_good s.civil.month))
mark_good s (MonthName letters) = in_case_good letters _ (month_good s.civil.month)
mark_good s DayOfMonth = padded_good 2 s.civil.day
mark_good s DayOfYear = padded_good 3 s.civil.doy
mark_good s (WeekdayShort letters) = in_case_good letters _ (take_good 3 (name_of_weekday s.civil.weekday) (weekday_good s.civil.weekday))
mark_good s (WeekdayName letters) = in_case_good letters _ (weekday_good s.civil.weekday)
mark_good s Hour = padded_good 2 s.hour
mark_good s HourOfHalf = padded_good 2 ((s.hour + 11) % 12 + 1)
mark_good s Minute = padded_good 2 s.minute
mark_good s (Second places) = seconds_good s.second places
mark_good s HalfUpper = half_good (nat_lt s.hour 12) (codes "A.M.") (codes "P.M.") refl refl
mark_good s HalfLower = half_good (nat_lt s.hour 12) (codes "a.m.") (codes "p.m.") refl refl
mark_good s (Seconds places) = fixed_good s.count places
mark_good s (JulianDate places) = fixed_good s.count places
mark_good s (Scale system) = refl
mark_good s Round = refl
mark_good s Truncate = refl

-- bytes that stand for themselves are bytes of the picture's text
rest_good : (a b : List ℕ) → list_all is_good (a ++ b) ≡ true → list_all is_good b ≡ true
rest_good a b h = right (list_all is_good a) (list_all is_good b) (sym (list_all-append is_good a b) ∙ h)

pieces_good : (s : Shown) (pieces : List Piece) → list_all is_good (spelled pieces) ≡ true → list_all is_good (flat_map (shown_text s) pieces) ≡ true
pieces_good s [] h = refl
pieces_good s (Marked mark ∷ pieces) h = joined (mark_text s mark) (flat_map (shown_text s) pieces) (mark_good s mark) (pieces_good s pieces (rest_good (word_of mark) (spelled pieces) h))
pieces_good s (Plain b ∷ pieces) h =
    joined (b ∷ []) (flat_map (shown_text s) pieces) (both (is_good b) true (left (is_good b) (list_all is_good (spelled pieces)) h) refl) (pieces_good s pieces (right (is_good b) (list_all is_good (spelled pieces)) h))

-- a text that reads has no bad byte
all_good : (text : List ℕ) → ((before : List ℕ) (b : ℕ) (after : List ℕ) → text ≡ before ++ (b ∷ after) → All IsPlainByte before → (IsPlainByte b → ⊥) → ⊥) → list_all is_good text ≡ true
all_good [] h = refl
all_good (b ∷ text) h = elim (cases_Bool (is_good b)) [
  | inl t ↦
      both (is_good b) (list_all is_good text) t
      (all_good text (λ before c after e good bad. h (b ∷ before) c after (ap (λ (x : List ℕ). b ∷ x) e) (all_more b before (good_is b t) good) bad))
  | inr f ↦ absurd (h [] b text refl none (λ p. let g = is_good_of b p in absurd (cc)))
]
  where
    none : All IsPlainByte []
    none k d l = absurd (omega arith)

    all_more : (b : ℕ) (before : List ℕ) → IsPlainByte b → All IsPlainByte before → All IsPlainByte (b ∷ before)
    all_more b before p all zero d l = p
    all_more b before p all (suc k) d l = all k d (omega arith)

pub texts_are_plain : TextsArePlain
texts_are_plain system text picture cell out reads is =
    let kept = reads.4 in
    let good = all_good text (λ before b after e before_good bad. kept (BadByte (length before)) (record {
      before = before;
      byte = b;
      after = after;
      whole = e;
      place = refl;
      good = before_good;
      bad = bad;
    })) in
    let pieces = pieces_good is.shown picture.pieces (subst (λ (t : List ℕ). list_all is_good t ≡ true) reads.1.whole good) in
    let whole = subst (λ (t : List ℕ). list_all is_good t ≡ true) (sym is.whole) pieces in
    All-weaker (λ b. is_good b ≡ true) IsPlainByte good_is out (AllPass-from_list_all is_good out whole)

-- the answer of each text
tests_read : (system : System) (text : List ℕ) (pieces : List Piece) (r : Result (LeastUnit × Bool) PictureFault) → IsCut text pieces → TestsTo system text pieces r
    → (answer : Result Picture PictureFault) × ReadsPicture system text answer × (answer ≢ Err OutOfMemory)
tests_read system text pieces (Ok found) cut t = (Ok (record { system = system; pieces = pieces; unit = found.0; rounds = found.1 }), picture_read system text pieces found cut t, λ e. cc)
tests_read system text pieces (Err OutOfMemory) cut t = absurd (omega (arith, t.3))
tests_read system text pieces (Err fault) cut t = (Err fault, fault_read system text pieces fault cut t, λ e. cc)

good_read : (system : System) (text : List ℕ) (o : Option ℕ) → position is_bad_byte text ≡ o → length text ≤ 255
    → (answer : Result Picture PictureFault) × ReadsPicture system text answer × (answer ≢ Err OutOfMemory)
good_read system text (Some i) e h = (Err (BadByte i), bad_byte_read system text i h e, λ f. cc)
good_read system text None e h =
    let cut = each_has_cut text in
    tests_read system text cut.0 (tested system cut.0) cut.1 (tests_to system text cut.0 (clear_two system text cut.0 h e))

pub each_has_reading : EachHasReading
each_has_reading system text = elim (cases_lt 255 (length text)) [
  | inl l ↦ (Err TooLong, too_long system text l, λ e. cc)
  | inr g ↦ good_read system text (position is_bad_byte text) refl g
]
