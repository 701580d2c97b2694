-- What is answered of bytes: the text of a sound certificate, or the first reason that they are none; and what a sound
-- certificate's text is.
use Rattle.std.specs.Prelude.{◌≡◌, ℕ, List, Option, None, Result, Ok}
use Rattle.serde_json.specs.Data.{Data}
use Rattle.st_fraction.specs.Fraction.{units}
use Rattle.st_picture.specs.Picture.{Picture}
use Rattle.st_picture.specs.Reading.{ReadsPicture}
use Rattle.st_routes.specs.Outcome.{by_picture, Prints}
use Rattle.st_routes.specs.declared.route.Route.TheVariants.{Scales}
use Rattle.st_rules.specs.Rules.{IsFirstBroken}
use Rattle.st_scales.specs.declared.deltet.Deltet.{Deltet}
use Rattle.st_certs.specs.Form.{ReadsAs, Tells}
use Rattle.st_certs.specs.Sound.{Keeps, rules, system_of, IsSound}
use Rattle.st_certs.specs.declared.certificate.Certificate.{Certificate}
use Rattle.st_certs.specs.declared.certificate.Constants.{Constants}
use Rattle.st_certs.specs.declared.why.Why.{Why}
use Rattle.st_certs.specs.declared.why.Why.TheVariants as why

-- the bytes are a sound certificate with this text
pub record IsSoundText (bytes text : List ℕ) : Type 0 where
  pub certificate : Certificate
  pub tells : Tells bytes certificate
  pub sound : IsSound certificate
  pub is_text : certificate.text ≡ text

-- and this is the first reason that they are none
pub record IsUnsoundFor (bytes : List ℕ) (reason : Why) : Type 0 where
  pub certificate : Certificate
  pub tells : Tells bytes certificate
  pub first : IsFirstBroken (Keeps certificate) (rules certificate) reason

pub record HasOtherForm (bytes : List ℕ) : Type 0 where
  pub value : Data
  pub reads : ReadsAs bytes value
  pub other : (c : Certificate) → Tells bytes c → ⊥

abbrev pub IsUnsound : List ℕ → Why → Type 0
IsUnsound bytes why.NotJson = (d : Data) → ReadsAs bytes d → ⊥
IsUnsound bytes why.Shape = HasOtherForm bytes
IsUnsound bytes reason = IsUnsoundFor bytes reason

-- these are the constants
pub record AreNamed (k : Constants) (d : Deltet) : Type 0 where
  pub delta_ta : d.delta_ta ≡ k.delta_ta
  pub k_same : d.k ≡ k.k
  pub eb : d.orbit.eb ≡ k.eb
  pub m0 : d.orbit.m0 ≡ k.m0
  pub m1 : d.orbit.m1 ≡ k.m1

-- The text is one that may be printed for the source of the certificate, by the way and the constants that it names and by
-- its picture, which reads for the target.
pub record IsTold (c : Certificate) (text : List ℕ) : Type 0 where
  pub constants : Deltet
  pub named : AreNamed c.constants constants
  pub picture : Picture
  pub reads : ReadsPicture (system_of c.to) c.picture (Ok picture)
  pub prints : Prints (Scales constants c.from c.to) (units c.source) (by_picture picture None) (Ok text)

-- so the bytes tell
pub record TellTruly (bytes text : List ℕ) : Type 0 where
  pub certificate : Certificate
  pub tells : Tells bytes certificate
  pub is_told : IsTold certificate text
