-- A cell has one text by a picture, and two ends have one answer.
use Rattle.std.proofs.Common.{◌≡◌, ◌⊎◌, ℕ, ◌+◌, ◌*◌, ◌^◌, ◌<◌, ◌≤◌, Bool, List, [], ◌∷◌, ◌++◌, Some, Result, Ok, Err, inl, inr, refl, sym, ap, ◌∙◌, subst, arith, lit<, ℤ, pos}
use Rattle.std.specs.Prelude.{IfOk, take, unsigned_abs}
use Rattle.std.specs.List.{flat_map}
use Rattle.std.proofs.lemmas.Int.{ints}
use Rattle.st_dates.specs.declared.system.System.{System}
use Rattle.st_dates.proofs.CivilLaws.{one_civil}
use Rattle.st_fraction.specs.Fraction.{Fraction}
use Rattle.st_picture.specs.Cell.{HasLabelCell, IsTruncatedCell, IsCell, IsOfUnit, to_truncate}
use Rattle.st_picture.specs.Picture.{Picture, Stands, unit_of, coarseness, IsLeastUnit}
use Rattle.st_picture.specs.Reading.{HasCountBeside, IsCount, ReadsPicture}
use Rattle.st_picture.specs.Text.{IsTimeOfDay, Shows, IsTextOf, in_case, mark_text, shown_text}
use Rattle.st_text.specs.Bytes.{padded}
use Rattle.st_decimal.specs.Fixed.{fixed}
use Rattle.st_dates.specs.Names.{name_of_month}
use Rattle.st_picture.specs.declared.cell.Cell.{Cell}
use Rattle.st_picture.specs.declared.cell.Cell.TheVariants as cells
use Rattle.st_picture.specs.declared.fault.PictureFault.TheVariants.{MixedForms}
use Rattle.st_picture.specs.declared.mark.Mark.{Mark}
use Rattle.st_picture.specs.declared.mark.Mark.TheVariants.{Year, Month, MonthShort, MonthName, DayOfMonth, DayOfYear, WeekdayShort, WeekdayName, Hour, HourOfHalf, Minute, Second, HalfUpper, HalfLower, Seconds, JulianDate, Scale, Round, Truncate}
use Rattle.st_picture.specs.declared.mark.Piece.{Piece}
use Rattle.st_picture.specs.declared.mark.Piece.TheVariants.{Marked, Plain}
use Rattle.st_picture.specs.declared.shown.Shown.{Shown}
use Rattle.st_picture.specs.declared.unit.LeastUnit.{LeastUnit}
use Rattle.st_picture.specs.declared.unit.LeastUnit.TheVariants as units
use Rattle.st_picture.proofs.OneAnswer.{beside, counts, dates}
use Rattle.st_picture.proofs.RuleLaws.{stands_head, stands_tail}

-- cells have the form of their unit
of_same_unit : (unit : LeastUnit) (cell other : Cell) → cell ≡ other → IsOfUnit unit other → IsOfUnit unit cell
of_same_unit unit cell other e h = subst (λ (x : Cell). IsOfUnit unit x) (sym e) h

of_label : (unit : LeastUnit) (count : ℤ → ℤ) (w : Fraction) (cell : Cell) → HasLabelCell unit count w cell → IsOfUnit unit cell
of_label (units.Second places) count w cell h = of_same_unit (units.Second places) cell _ h.is_cell.2 tt
of_label units.Minute count w cell h = of_same_unit units.Minute cell _ h.is_cell.2 tt
of_label units.Hour count w cell h = of_same_unit units.Hour cell _ h.is_cell.2 tt
of_label units.Day count w cell h = of_same_unit units.Day cell _ h.is_cell tt
of_label units.Month count w cell h = of_same_unit units.Month cell _ h.is_cell.3 tt
of_label units.Year count w cell h = of_same_unit units.Year cell _ h.is_cell.3 tt
of_label (units.Count places) count w cell h = absurd h.is_cell
of_label (units.Julian places) count w cell h = absurd h.is_cell

of_unit : (unit : LeastUnit) (count : ℤ → ℤ) (w : Fraction) (cell : Cell) → IsTruncatedCell unit count w cell → IsOfUnit unit cell
of_unit (units.Count places) count w cell (q, f, e) = of_same_unit (units.Count places) cell _ e tt
of_unit (units.Julian places) count w cell (q, f, e) = of_same_unit (units.Julian places) cell _ e tt
of_unit (units.Second places) count w cell h = of_label (units.Second places) count w cell h
of_unit units.Minute count w cell h = of_label units.Minute count w cell h
of_unit units.Hour count w cell h = of_label units.Hour count w cell h
of_unit units.Day count w cell h = of_label units.Day count w cell h
of_unit units.Month count w cell h = of_label units.Month count w cell h
of_unit units.Year count w cell h = of_label units.Year count w cell h

pub cells_are_of_unit : (unit : LeastUnit) (rounds : Bool) (count : ℤ → ℤ) (v : Fraction) (cell : Cell) → IsCell unit rounds count v cell → IsOfUnit unit cell
cells_are_of_unit unit rounds count v cell h = of_unit unit count (to_truncate unit rounds v) cell h

-- a day's time is told in one way
record IsOneTime (s t : Shown) : Type 0 where
  hour : s.hour ≡ t.hour
  minute : s.minute ≡ t.minute
  second : s.second ≡ t.second

-- minutes of a day, and units of 10^-18 s of a minute
minutes_of : (m n a b : ℕ) → m * (60 * 10 ^ 18) + a ≡ n * (60 * 10 ^ 18) + b → (a < 60 * 10 ^ 18) ⊎ (m ≡ 1439) → (b < 60 * 10 ^ 18) ⊎ (n ≡ 1439) → m ≤ 1439 → n ≤ 1439 → m ≡ n
minutes_of m n a b e (inl h) (inl k) f g = omega arith
minutes_of m n a b e (inl h) (inr k) f g = omega arith
minutes_of m n a b e (inr h) (inl k) f g = omega arith
minutes_of m n a b e (inr h) (inr k) f g = omega arith

late : (s : Shown) → (s.second < 60 * 10 ^ 18) ⊎ ((s.hour ≡ 23) × (s.minute ≡ 59)) → (s.second < 60 * 10 ^ 18) ⊎ (s.hour * 60 + s.minute ≡ 1439)
late s (inl h) = inl h
late s (inr h) = let a = h.0 in let b = h.1 in inr (omega arith)

one_time : (of_day : ℤ) (s t : Shown) → IsTimeOfDay of_day s → IsTimeOfDay of_day t → IsOneTime s t
one_time of_day s t h k =
    let sum : pos ((s.hour * 3_600 + s.minute * 60) * 10 ^ 18 + s.second) ≡ pos ((t.hour * 3_600 + t.minute * 60) * 10 ^ 18 + t.second) = sym h.sum ∙ k.sum in
    let hh = h.hours in let hm = h.minutes in let kh = k.hours in let km = k.minutes in
    let flat : (s.hour * 60 + s.minute) * (60 * 10 ^ 18) + s.second ≡ (t.hour * 60 + t.minute) * (60 * 10 ^ 18) + t.second = omega (arith, ints) in
    let same = minutes_of (s.hour * 60 + s.minute) (t.hour * 60 + t.minute) s.second t.second flat (late s h.within) (late t k.within) (omega arith) (omega arith) in
    record { hour = omega arith; minute = omega arith; second = omega arith }

-- what is shown, with another count
with_count : Shown → ℤ → Shown
with_count s n = record { civil = s.civil; hour = s.hour; minute = s.minute; second = s.second; count = n }

uncounted : (s : Shown) (n : ℤ) (m : Mark) → (IsCount m → ⊥) → mark_text (with_count s n) m ≡ mark_text s m
unfolding with_count
uncounted s n (Seconds places) f = absurd (f tt)
uncounted s n (JulianDate places) f = absurd (f tt)
uncounted s n m f = refl

same_shown : (s t : Shown) → s.civil ≡ t.civil → IsOneTime s t → s ≡ with_count t s.count
unfolding with_count
same_shown s t c o = λ i. record { civil = c i; hour = o.hour i; minute = o.minute i; second = o.second i; count = s.count }

dated : (day of_day : ℤ) (s t : Shown) (m : Mark) → (IsCount m → ⊥) → Shows (cells.Day day of_day) s → Shows (cells.Day day of_day) t → mark_text s m ≡ mark_text t m
dated day of_day s t m f h k =
    ap (λ (x : Shown). mark_text x m) (same_shown s t (one_civil day s.civil t.civil h.0 k.0) (one_time of_day s t h.1 k.1)) ∙ uncounted t s.count m f

-- units of marks that print a number alone
abbrev IsNumber : LeastUnit → Type 0
IsNumber (units.Count places) = Unit {0}
IsNumber (units.Julian places) = Unit {0}
IsNumber unit = ⊥

-- beside a number no other mark prints
number_too : (pieces : List Piece) (unit w : LeastUnit) (m : Mark) (h : IsLeastUnit pieces unit) → IsCount h.mark → (HasCountBeside pieces → ⊥) → IsNumber unit
    → Stands pieces m → unit_of m ≡ Some w → IsNumber w
number_too pieces unit w m h c alone n s e = subst IsNumber (beside pieces h.mark m unit w h.prints e h.stands s (inl c) alone) n

-- with another unit no mark prints a number alone
no_count : (pieces : List Piece) (unit : LeastUnit) (m : Mark) → IsLeastUnit pieces unit → (HasCountBeside pieces → ⊥) → (IsNumber unit → ⊥) → Stands pieces m → IsCount m → ⊥
no_count pieces unit (Seconds places) h alone n s c =
    n (subst IsNumber (sym (beside pieces h.mark (Seconds places) unit (units.Count places) h.prints refl h.stands s (inr tt) alone)) tt)
no_count pieces unit (JulianDate places) h alone n s c =
    n (subst IsNumber (sym (beside pieces h.mark (JulianDate places) unit (units.Julian places) h.prints refl h.stands s (inr tt) alone)) tt)
no_count pieces unit m h alone n s c = c

counted : (pieces : List Piece) (unit : LeastUnit) (s t : Shown) (m : Mark) (h : IsLeastUnit pieces unit) → IsCount h.mark → (HasCountBeside pieces → ⊥) → IsNumber unit
    → s.count ≡ t.count → Stands pieces m → mark_text s m ≡ mark_text t m
counted pieces unit s t (Seconds places) h c alone n e st = ap (λ (z : ℤ). fixed z places) e
counted pieces unit s t (JulianDate places) h c alone n e st = ap (λ (z : ℤ). fixed z places) e
counted pieces unit s t (Scale system) h c alone n e st = refl
counted pieces unit s t Round h c alone n e st = refl
counted pieces unit s t Truncate h c alone n e st = refl
counted pieces unit s t Year h c alone n e st = absurd (number_too pieces unit units.Year Year h c alone n st refl)
counted pieces unit s t Month h c alone n e st = absurd (number_too pieces unit units.Month Month h c alone n st refl)
counted pieces unit s t (MonthShort letters) h c alone n e st = absurd (number_too pieces unit units.Month (MonthShort letters) h c alone n st refl)
counted pieces unit s t (MonthName letters) h c alone n e st = absurd (number_too pieces unit units.Month (MonthName letters) h c alone n st refl)
counted pieces unit s t DayOfMonth h c alone n e st = absurd (number_too pieces unit units.Day DayOfMonth h c alone n st refl)
counted pieces unit s t DayOfYear h c alone n e st = absurd (number_too pieces unit units.Day DayOfYear h c alone n st refl)
counted pieces unit s t (WeekdayShort letters) h c alone n e st = absurd (number_too pieces unit units.Day (WeekdayShort letters) h c alone n st refl)
counted pieces unit s t (WeekdayName letters) h c alone n e st = absurd (number_too pieces unit units.Day (WeekdayName letters) h c alone n st refl)
counted pieces unit s t Hour h c alone n e st = absurd (number_too pieces unit units.Hour Hour h c alone n st refl)
counted pieces unit s t HourOfHalf h c alone n e st = absurd (number_too pieces unit units.Hour HourOfHalf h c alone n st refl)
counted pieces unit s t Minute h c alone n e st = absurd (number_too pieces unit units.Minute Minute h c alone n st refl)
counted pieces unit s t (Second places) h c alone n e st = absurd (number_too pieces unit (units.Second places) (Second places) h c alone n st refl)
counted pieces unit s t HalfUpper h c alone n e st = absurd (number_too pieces unit units.Hour HalfUpper h c alone n st refl)
counted pieces unit s t HalfLower h c alone n e st = absurd (number_too pieces unit units.Hour HalfLower h c alone n st refl)

-- no mark is finer than the unit
too_fine : (pieces : List Piece) (unit w : LeastUnit) (m : Mark) → IsLeastUnit pieces unit → Stands pieces m → unit_of m ≡ Some w → coarseness w < coarseness unit → ⊥
too_fine pieces unit w m h st e l = let f = h.finest m w st e in omega arith

monthly : (pieces : List Piece) (s t : Shown) (m : Mark) → IsLeastUnit pieces units.Month → s.civil.year ≡ t.civil.year → s.civil.month ≡ t.civil.month → Stands pieces m
    → mark_text s m ≡ mark_text t m
monthly pieces s t Year h y e st = ap (λ (z : ℤ). padded 4 (unsigned_abs z)) y
monthly pieces s t Month h y e st = ap (padded 2) e
monthly pieces s t (MonthShort letters) h y e st = ap (λ (n : ℕ). in_case letters (take 3 (name_of_month n))) e
monthly pieces s t (MonthName letters) h y e st = ap (λ (n : ℕ). in_case letters (name_of_month n)) e
monthly pieces s t (Scale system) h y e st = refl
monthly pieces s t Round h y e st = refl
monthly pieces s t Truncate h y e st = refl
monthly pieces s t DayOfMonth h y e st = absurd (too_fine pieces units.Month units.Day DayOfMonth h st refl (lit< tt))
monthly pieces s t DayOfYear h y e st = absurd (too_fine pieces units.Month units.Day DayOfYear h st refl (lit< tt))
monthly pieces s t (WeekdayShort letters) h y e st = absurd (too_fine pieces units.Month units.Day (WeekdayShort letters) h st refl (lit< tt))
monthly pieces s t (WeekdayName letters) h y e st = absurd (too_fine pieces units.Month units.Day (WeekdayName letters) h st refl (lit< tt))
monthly pieces s t Hour h y e st = absurd (too_fine pieces units.Month units.Hour Hour h st refl (lit< tt))
monthly pieces s t HourOfHalf h y e st = absurd (too_fine pieces units.Month units.Hour HourOfHalf h st refl (lit< tt))
monthly pieces s t Minute h y e st = absurd (too_fine pieces units.Month units.Minute Minute h st refl (lit< tt))
monthly pieces s t (Second places) h y e st = absurd (too_fine pieces units.Month (units.Second places) (Second places) h st refl (lit< tt))
monthly pieces s t HalfUpper h y e st = absurd (too_fine pieces units.Month units.Hour HalfUpper h st refl (lit< tt))
monthly pieces s t HalfLower h y e st = absurd (too_fine pieces units.Month units.Hour HalfLower h st refl (lit< tt))
monthly pieces s t (Seconds places) h y e st = absurd (too_fine pieces units.Month (units.Count places) (Seconds places) h st refl (lit< tt))
monthly pieces s t (JulianDate places) h y e st = absurd (too_fine pieces units.Month (units.Julian places) (JulianDate places) h st refl (lit< tt))

yearly : (pieces : List Piece) (s t : Shown) (m : Mark) → IsLeastUnit pieces units.Year → s.civil.year ≡ t.civil.year → Stands pieces m → mark_text s m ≡ mark_text t m
yearly pieces s t Year h y st = ap (λ (z : ℤ). padded 4 (unsigned_abs z)) y
yearly pieces s t (Scale system) h y st = refl
yearly pieces s t Round h y st = refl
yearly pieces s t Truncate h y st = refl
yearly pieces s t Month h y st = absurd (too_fine pieces units.Year units.Month Month h st refl (lit< tt))
yearly pieces s t (MonthShort letters) h y st = absurd (too_fine pieces units.Year units.Month (MonthShort letters) h st refl (lit< tt))
yearly pieces s t (MonthName letters) h y st = absurd (too_fine pieces units.Year units.Month (MonthName letters) h st refl (lit< tt))
yearly pieces s t DayOfMonth h y st = absurd (too_fine pieces units.Year units.Day DayOfMonth h st refl (lit< tt))
yearly pieces s t DayOfYear h y st = absurd (too_fine pieces units.Year units.Day DayOfYear h st refl (lit< tt))
yearly pieces s t (WeekdayShort letters) h y st = absurd (too_fine pieces units.Year units.Day (WeekdayShort letters) h st refl (lit< tt))
yearly pieces s t (WeekdayName letters) h y st = absurd (too_fine pieces units.Year units.Day (WeekdayName letters) h st refl (lit< tt))
yearly pieces s t Hour h y st = absurd (too_fine pieces units.Year units.Hour Hour h st refl (lit< tt))
yearly pieces s t HourOfHalf h y st = absurd (too_fine pieces units.Year units.Hour HourOfHalf h st refl (lit< tt))
yearly pieces s t Minute h y st = absurd (too_fine pieces units.Year units.Minute Minute h st refl (lit< tt))
yearly pieces s t (Second places) h y st = absurd (too_fine pieces units.Year (units.Second places) (Second places) h st refl (lit< tt))
yearly pieces s t HalfUpper h y st = absurd (too_fine pieces units.Year units.Hour HalfUpper h st refl (lit< tt))
yearly pieces s t HalfLower h y st = absurd (too_fine pieces units.Year units.Hour HalfLower h st refl (lit< tt))
yearly pieces s t (Seconds places) h y st = absurd (too_fine pieces units.Year (units.Count places) (Seconds places) h st refl (lit< tt))
yearly pieces s t (JulianDate places) h y st = absurd (too_fine pieces units.Year (units.Julian places) (JulianDate places) h st refl (lit< tt))

daily : (pieces : List Piece) (unit : LeastUnit) (day of_day : ℤ) (s t : Shown) (m : Mark) → IsLeastUnit pieces unit → (HasCountBeside pieces → ⊥) → (IsNumber unit → ⊥)
    → Shows (cells.Day day of_day) s → Shows (cells.Day day of_day) t → Stands pieces m → mark_text s m ≡ mark_text t m
daily pieces unit day of_day s t m h alone n a b st = dated day of_day s t m (no_count pieces unit m h alone n st) a b

same_mark : (pieces : List Piece) (unit : LeastUnit) (cell : Cell) (s t : Shown) (m : Mark) → IsLeastUnit pieces unit → (HasCountBeside pieces → ⊥) → IsOfUnit unit cell
    → Shows cell s → Shows cell t → Stands pieces m → mark_text s m ≡ mark_text t m
same_mark pieces (units.Count places) (cells.Count n) s t m h alone u a b st = counted pieces (units.Count places) s t m h (counts h.mark places h.prints) alone tt (a ∙ sym b) st
same_mark pieces (units.Julian places) (cells.Count n) s t m h alone u a b st = counted pieces (units.Julian places) s t m h (dates h.mark places h.prints) alone tt (a ∙ sym b) st
same_mark pieces (units.Second places) (cells.Day day of_day) s t m h alone u a b st = daily pieces (units.Second places) day of_day s t m h alone (λ x. x) a b st
same_mark pieces units.Minute (cells.Day day of_day) s t m h alone u a b st = daily pieces units.Minute day of_day s t m h alone (λ x. x) a b st
same_mark pieces units.Hour (cells.Day day of_day) s t m h alone u a b st = daily pieces units.Hour day of_day s t m h alone (λ x. x) a b st
same_mark pieces units.Day (cells.Day day of_day) s t m h alone u a b st = daily pieces units.Day day of_day s t m h alone (λ x. x) a b st
same_mark pieces units.Month (cells.Month year month) s t m h alone u a b st = monthly pieces s t m h (a.0 ∙ sym b.0) (a.1 ∙ sym b.1) st
same_mark pieces units.Year (cells.Year year) s t m h alone u a b st = yearly pieces s t m h (a ∙ sym b) st
same_mark pieces unit cell s t m h alone u a b st = absurd u

same_pieces : (pieces : List Piece) (s t : Shown) → ((m : Mark) → Stands pieces m → mark_text s m ≡ mark_text t m) → flat_map (shown_text s) pieces ≡ flat_map (shown_text t) pieces
same_pieces [] s t f = refl
same_pieces (Marked m ∷ pieces) s t f =
    let more = same_pieces pieces s t (λ n st. f n (stands_tail (Marked m) pieces n st)) in
    let here = f m (stands_head m pieces) in
    λ i. here i ++ more i
same_pieces (Plain b ∷ pieces) s t f =
    let more = same_pieces pieces s t (λ n st. f n (stands_tail (Plain b) pieces n st)) in
    λ i. b ∷ more i

pub one_kept_text : (pieces : List Piece) (unit : LeastUnit) (cell : Cell) (a b : List ℕ) → IsLeastUnit pieces unit → (HasCountBeside pieces → ⊥) → IsOfUnit unit cell
    → IsTextOf pieces cell a → IsTextOf pieces cell b → a ≡ b
one_kept_text pieces unit cell a b least alone u h k =
    h.whole ∙ same_pieces pieces h.shown k.shown (λ m st. same_mark pieces unit cell h.shown k.shown m least alone u h.shows k.shows st) ∙ sym k.whole

pub one_text : (system : System) (text : List ℕ) (picture : Picture) (cell : Cell) (a b : List ℕ) → ReadsPicture system text (Ok picture)
    → IsOfUnit picture.unit cell → IsTextOf picture.pieces cell a → IsTextOf picture.pieces cell b → a ≡ b
one_text system text picture cell a b r u h k = one_kept_text picture.pieces picture.unit cell a b r.2 (λ c. r.4 MixedForms (inl c)) u h k

-- what one text by a cell says of the answers of calls
pub only_text : {E : Type 0} (pieces kept shown : List Piece) (unit least : LeastUnit) (cell : Cell) (r : Result (List ℕ) E) → pieces ≡ kept → shown ≡ kept → unit ≡ least
    → IsLeastUnit kept least → (HasCountBeside kept → ⊥) → IfOk r (IsTextOf shown cell)
    → IfOk r (λ text. IsOfUnit unit cell → (other : List ℕ) → IsTextOf pieces cell other → text ≡ other)
only_text pieces kept shown unit least cell (Err e) p s u h alone t = tt
only_text pieces kept shown unit least cell (Ok text) p s u h alone t = λ of other k.
    one_kept_text kept least cell text other h alone (subst (λ (x : LeastUnit). IsOfUnit x cell) u of)
    (subst (λ (ps : List Piece). IsTextOf ps cell text) s t) (subst (λ (ps : List Piece). IsTextOf ps cell other) p k)
