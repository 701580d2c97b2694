-- The texts of the faults of words, which are this project's own: a name in upper case, and what it names.
use Rattle.std.specs.Prelude.{ℕ, List, [], ◌++◌, codes}
use Rattle.st_text.specs.Bytes.{decimal_digits}
use Rattle.st_picture.specs.declared.fault.PictureFault.{PictureFault}
use Rattle.st_picture.specs.declared.fault.PictureFault.TheVariants as pictures
use Rattle.st_words.specs.OptionWords.{word_of}
use Rattle.st_words.specs.declared.fault.WordFault.{WordFault}
use Rattle.st_words.specs.declared.fault.WordFault.TheVariants.{Unknown, Twice, NoValue, BadValue, BadNumber, Missing, BadPair, Conflict, BadPicture, OutOfMemory}
use Rattle.st_words.specs.declared.opt.Opt.{Opt}

-- the place of a word, from 1, or of a picture's byte, from 0
abbrev pub place_text : ℕ → List ℕ
place_text place = decimal_digits place

abbrev pub option_text : Opt → List ℕ
option_text opt = word_of opt

abbrev pub conflict_text : Opt → Opt → List ℕ
conflict_text first second = (codes "CONFLICT " ++ option_text first) ++ (codes " " ++ option_text second)

abbrev pub picture_text : PictureFault → List ℕ
picture_text pictures.TooLong = codes "PICTURE TOO_LONG"
picture_text (pictures.BadByte place) = codes "PICTURE BAD_BYTE " ++ place_text place
picture_text pictures.LeftOutMark = codes "PICTURE LEFT_OUT_MARK"
picture_text pictures.StrayHash = codes "PICTURE STRAY_HASH"
picture_text pictures.TooManyPlaces = codes "PICTURE TOO_MANY_PLACES"
picture_text pictures.Empty = codes "PICTURE EMPTY"
picture_text pictures.MixedForms = codes "PICTURE MIXED_FORMS"
picture_text pictures.CountInUtc = codes "PICTURE COUNT_IN_UTC"
picture_text pictures.WrongSystem = codes "PICTURE WRONG_SYSTEM"
picture_text pictures.NoUnit = codes "PICTURE NO_UNIT"
picture_text pictures.OutOfMemory = []

-- the text of a fault; want of memory is never told by a text
abbrev pub fault_text : WordFault → List ℕ
fault_text (Unknown place) = codes "UNKNOWN " ++ place_text place
fault_text (Twice place) = codes "TWICE " ++ place_text place
fault_text (NoValue place) = codes "NO_VALUE " ++ place_text place
fault_text (BadValue place) = codes "BAD_VALUE " ++ place_text place
fault_text (BadNumber place) = codes "BAD_NUMBER " ++ place_text place
fault_text (Missing opt) = codes "MISSING " ++ option_text opt
fault_text (BadPair opt) = codes "BAD_PAIR " ++ option_text opt
fault_text (Conflict first second) = conflict_text first second
fault_text (BadPicture fault) = picture_text fault
fault_text OutOfMemory = []
