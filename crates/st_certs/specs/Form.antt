-- The form of a certificate, as a value of JSON. It is this project's own.
use Rattle.std.specs.Prelude.{ℕ, ◌*◌, ◌^◌, ◌<◌, ◌≤◌, ◌≡◌, ℤ, unsigned_abs, List, [], ◌∷◌, ◌++◌, length, map, codes, Some}
use Rattle.std.specs.List.{All}
use Rattle.std.specs.Str.{IsUtf8}
use Rattle.serde_json.specs.Data.{Data, string, array, object, Members, no_members, member}
use Rattle.serde_json.specs.Read.{read}
use Rattle.serde_json.specs.View.{items_of}
use Rattle.st_text.specs.Bytes.{decimal_digits}
use Rattle.st_decimal.specs.Fixed.{sign}
use Rattle.st_enclosure.specs.declared.interval.Interval.{Interval}
use Rattle.st_scales.specs.declared.scale.Scale.{Scale}
use Rattle.st_scales.specs.declared.scale.Scale.TheVariants.{Tai, Tt, Tdb}
use Rattle.st_certs.specs.declared.certificate.Certificate.{Certificate}
use Rattle.st_certs.specs.declared.certificate.Constants.{Constants}
use Rattle.st_certs.specs.declared.certificate.Row.{Row}
use Rattle.st_certs.specs.declared.certificate.SineChain.{SineChain}
use Rattle.st_certs.specs.declared.certificate.SineProof.{SineProof}

-- a number: a string of its digits, without needless zeros, and with `-` before those of a negative one
abbrev pub number_text : ℤ → List ℕ
number_text z = sign z ++ decimal_digits (unsigned_abs z)

abbrev pub numeral : ℤ → Data
numeral z = string (number_text z)

abbrev pub listed : List Data → Data
listed values = array (items_of values)

-- the name of a scale; the Toolkit calls TDB ephemeris time
abbrev pub scale_name : Scale → List ℕ
scale_name Tai = codes "TAI"
scale_name Tt = codes "TT"
scale_name Tdb = codes "ET"

-- Objects have exactly these keys, which stand here in the order of their bytes.
abbrev pub constants_form : Constants → Data
constants_form k = listed (numeral k.delta_ta ∷ numeral k.k ∷ numeral k.eb ∷ numeral k.m0 ∷ numeral k.m1 ∷ [])

abbrev pub row_form : Row → Data
row_form r = listed (numeral r.sine.lo ∷ numeral r.sine.hi ∷ numeral r.cosine.lo ∷ numeral r.cosine.hi ∷ [])

abbrev pub chain_form : SineChain → Data
chain_form d = object (member (codes "rows") (listed (map row_form d.rows)) (member (codes "x") (numeral d.x) no_members))

abbrev pub proof_form : SineProof → Data
proof_form p = object (member (codes "e") (chain_form p.e) (member (codes "m") (chain_form p.m) (member (codes "t") (numeral p.t) no_members)))

abbrev pub form : Certificate → Data
form c = object
    (member (codes "constants") (constants_form c.constants)
    (member (codes "from") (string (scale_name c.from))
    (member (codes "picture") (string c.picture)
    (member (codes "proofs") (listed (map proof_form c.proofs))
    (member (codes "source") (numeral c.source)
    (member (codes "text") (string c.text)
    (member (codes "to") (string (scale_name c.to)) no_members)))))))

-- numbers have at most 38 digits, and a chain has 1 to 12 rows
abbrev pub IsShort : ℤ → Type 0
IsShort z = unsigned_abs z < 10 ^ 38

pub record AreShort (k : Constants) : Type 0 where
  pub delta_ta : IsShort k.delta_ta
  pub k_short : IsShort k.k
  pub eb : IsShort k.eb
  pub m0 : IsShort k.m0
  pub m1 : IsShort k.m1

pub record IsShortRow (r : Row) : Type 0 where
  pub sine_lo : IsShort r.sine.lo
  pub sine_hi : IsShort r.sine.hi
  pub cosine_lo : IsShort r.cosine.lo
  pub cosine_hi : IsShort r.cosine.hi

pub record IsShortChain (d : SineChain) : Type 0 where
  pub x : IsShort d.x
  pub rows : All IsShortRow d.rows
  pub some : 1 ≤ length d.rows
  pub few : length d.rows ≤ 12

pub record IsShortProof (p : SineProof) : Type 0 where
  pub t : IsShort p.t
  pub m : IsShortChain p.m
  pub e : IsShortChain p.e

pub record IsCertificate (c : Certificate) : Type 0 where
  pub constants : AreShort c.constants
  pub source : IsShort c.source
  pub proofs : All IsShortProof c.proofs

-- the value that bytes read as, where they are JSON
pub record ReadsAs (bytes : List ℕ) (d : Data) : Type 0 where
  pub utf8 : IsUtf8 bytes
  pub value : read bytes ≡ Some d

-- the bytes are a certificate, in any layout
pub record Tells (bytes : List ℕ) (c : Certificate) : Type 0 where
  pub reads : ReadsAs bytes (form c)
  pub is : IsCertificate c
