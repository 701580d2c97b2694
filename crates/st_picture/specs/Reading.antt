-- The rules of pictures, by the refusals that name them, and what reading a text may answer. The rules and their order are
-- this project's own.
use Rattle.std.specs.Prelude.{◌≡◌, ◌≢◌, ℕ, ◌<◌, ◌≤◌, ◌⊎◌, List, [], ◌∷◌, ◌++◌, length, codes, Some, None, Result, Ok, Err, slice_get, ⊤}
use Rattle.std.specs.List.{All}
use Rattle.st_dates.specs.declared.system.System.{System}
use Rattle.st_dates.specs.declared.system.System.TheVariants as systems
use Rattle.st_picture.specs.declared.fault.PictureFault.{PictureFault}
use Rattle.st_picture.specs.declared.fault.PictureFault.TheVariants.{TooLong, BadByte, LeftOutMark, StrayHash, TooManyPlaces, Empty, MixedForms, CountInUtc, WrongSystem, NoUnit, OutOfMemory}
use Rattle.st_picture.specs.declared.mark.Mark.{Mark}
use Rattle.st_picture.specs.declared.mark.Mark.TheVariants.{Second, Seconds, JulianDate, Scale}
use Rattle.st_picture.specs.declared.mark.Piece.{Piece}
use Rattle.st_picture.specs.declared.mark.Piece.TheVariants.{Marked, Plain}
use Rattle.st_picture.specs.declared.mark.ScaleMark.{ScaleMark}
use Rattle.st_picture.specs.declared.mark.ScaleMark.TheVariants.{Utc, Tai, Tdb, Tdt}
use Rattle.st_picture.specs.declared.unit.LeastUnit.TheVariants as units
use Rattle.st_picture.specs.Mark.{IsCut, places_of, spelled}
use Rattle.st_picture.specs.Picture.{Picture, Stands, IsLeastUnit, unit_of, AsksToRound, Rounds}

-- a byte from the space to `~`
pub record IsPlainByte (b : ℕ) : Type 0 where
  pub from : 32 ≤ b
  pub to : b ≤ 126

-- the byte at place i is none of these, and the first such
pub record HasBadByte (text : List ℕ) (i : ℕ) : Type 0 where
  pub before : List ℕ
  pub byte : ℕ
  pub after : List ℕ
  pub whole : text ≡ before ++ (byte ∷ after)
  pub place : length before ≡ i
  pub good : All IsPlainByte before
  pub bad : IsPlainByte byte → ⊥

-- marks of other pictures
abbrev pub left_out : List (List ℕ)
left_out = codes "YR" ∷ codes "ERA" ∷ codes "era" ∷ codes "SP1950" ∷ codes "::" ∷ []

-- one of them begins where a byte stands for itself
pub record HasLeftOut (pieces : List Piece) : Type 0 where
  pub before : List Piece
  pub byte : ℕ
  pub after : List Piece
  pub whole : pieces ≡ before ++ (Plain byte ∷ after)
  pub place : ℕ
  pub word : List ℕ
  pub is_left_out : slice_get left_out place ≡ Some word
  pub rest : List ℕ
  pub begins : spelled (Plain byte ∷ after) ≡ word ++ rest

-- a `#` that stands for itself
pub record HasStrayHash (pieces : List Piece) : Type 0 where
  pub before : List Piece
  pub after : List Piece
  pub whole : pieces ≡ before ++ (Plain 35 ∷ after)

-- a mark prints something
abbrev pub Prints : Mark → Type 0
Prints mark = unit_of mark ≢ None

-- a mark of a number alone: `SP2000` or `JULIAND`
abbrev pub IsCount : Mark → Type 0
IsCount (Seconds places) = ⊤
IsCount (JulianDate places) = ⊤
IsCount mark = ⊥

-- a mark of a number alone stands beside another mark that prints something, which may be the same mark once more
pub record HasCountBeside (pieces : List Piece) : Type 0 where
  pub before : List Piece
  pub first : Mark
  pub between : List Piece
  pub second : Mark
  pub after : List Piece
  pub whole : pieces ≡ before ++ (Marked first ∷ (between ++ (Marked second ∷ after)))
  pub print : Prints first × Prints second
  pub count : IsCount first ⊎ IsCount second

-- two marks of seconds have different numbers of decimals
pub record HasUnlikeSeconds (pieces : List Piece) : Type 0 where
  pub few : ℕ
  pub many : ℕ
  pub one : Stands pieces (Second few)
  pub other : Stands pieces (Second many)
  pub unlike : few ≢ many

-- the printing marks are one `SP2000`, and no byte stands for itself
pub record IsSecondsAlone (pieces : List Piece) : Type 0 where
  pub places : ℕ
  pub stands : Stands pieces (Seconds places)
  pub alone : HasCountBeside pieces → ⊥
  pub no_bytes : (before : List Piece) (byte : ℕ) (after : List Piece) → pieces ≡ before ++ (Plain byte ∷ after) → ⊥

-- the system that a mark names
abbrev pub system_of : ScaleMark → System
system_of Utc = systems.Utc
system_of Tai = systems.Tai
system_of Tdb = systems.Tdb
system_of Tdt = systems.Tt

-- the rule of a refusal is broken by a text, with its pieces, as a picture for a system
abbrev pub Breaks : System → List ℕ → List Piece → PictureFault → Type 0
Breaks system text pieces TooLong = 255 < length text
Breaks system text pieces (BadByte i) = HasBadByte text i
Breaks system text pieces LeftOutMark = HasLeftOut pieces
Breaks system text pieces StrayHash = HasStrayHash pieces
Breaks system text pieces TooManyPlaces = (mark : Mark) × Stands pieces mark × (9 < places_of mark)
Breaks system text pieces Empty = (mark : Mark) → Stands pieces mark → Prints mark → ⊥
Breaks system text pieces MixedForms = HasCountBeside pieces ⊎ HasUnlikeSeconds pieces
Breaks system text pieces CountInUtc = (system ≡ systems.Utc) × ((mark : Mark) × Stands pieces mark × IsCount mark)
Breaks system text pieces WrongSystem = (scale : ScaleMark) × Stands pieces (Scale scale) × (system_of scale ≢ system)
Breaks system text pieces NoUnit = AsksToRound pieces × (IsLeastUnit pieces units.Month ⊎ IsLeastUnit pieces units.Year)
Breaks system text pieces OutOfMemory = ⊥

-- the place of a rule in the order in which they are tested
abbrev pub place_of : PictureFault → ℕ
place_of TooLong = 0
place_of (BadByte i) = 1
place_of LeftOutMark = 2
place_of StrayHash = 3
place_of TooManyPlaces = 4
place_of Empty = 5
place_of MixedForms = 6
place_of CountInUtc = 7
place_of WrongSystem = 8
place_of NoUnit = 9
place_of OutOfMemory = 10

-- What reading a text as a picture for a system may answer: its pieces where no rule is broken, or the first broken rule.
abbrev pub ReadsPicture : System → List ℕ → Result Picture PictureFault → Type 0
ReadsPicture system text (Ok picture) =
    (picture.system ≡ system) × IsCut text picture.pieces
    × IsLeastUnit picture.pieces picture.unit × Rounds picture.pieces picture.rounds
    × ((fault : PictureFault) → Breaks system text picture.pieces fault → ⊥)
ReadsPicture system text (Err OutOfMemory) = ⊤
ReadsPicture system text (Err fault) =
    (pieces : List Piece) × IsCut text pieces × Breaks system text pieces fault
    × ((other : PictureFault) → place_of other < place_of fault → Breaks system text pieces other → ⊥)

-- two answers are one, where memory was not refused to either
abbrev pub Agree : Result Picture PictureFault → Result Picture PictureFault → Type 0
Agree a b = (a ≡ Err OutOfMemory) ⊎ ((b ≡ Err OutOfMemory) ⊎ (a ≡ b))
