-- What a sound certificate shows, as a law.
use Rattle.st_certs.specs.Form.{IsCertificate}
use Rattle.st_certs.specs.Sound.{IsSound, AreConstants}
use Rattle.st_certs.specs.Verdict.{AreNamed, IsTold}
use Rattle.st_certs.specs.declared.certificate.Certificate.{Certificate}
use Rattle.st_certs.specs.declared.certificate.Constants.{Constants}
use Rattle.st_scales.specs.declared.deltet.Deltet.{Deltet}

-- Constants in their ranges are those of a kernel.
abbrev pub ConstantsAreNamed : Type 0
ConstantsAreNamed = (k : Constants) → AreConstants k → (d : Deltet) × AreNamed k d

-- The text of a sound certificate may be printed for its source, by its constants, its way and its picture.
abbrev pub SoundIsTrue : Type 0
SoundIsTrue = (c : Certificate) → IsCertificate c → IsSound c → IsTold c c.text
