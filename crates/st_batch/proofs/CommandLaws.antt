-- The commands: the name after a word, and that a text is one command at most.
use Rattle.std.proofs.Common.{◌≡◌, ◌&&◌, ℕ, ◌<◌, ◌≤◌, ◌⊎◌, inl, inr, Bool, true, false, ◌||◌, eqb, get_or, List, [], ◌∷◌, ◌++◌, length, take, drop, codes, refl, sym, ap, ◌∙◌, subst, arith, length-append}
use Rattle.std.proofs.Math.Seq.{take-append_seam, drop-append_seam}
use Rattle.std.proofs.lemmas.Bool.{cases_Bool, cases_lt, false≢true}
use Rattle.std.proofs.lemmas.List.{take-append-drop}
use Rattle.std.proofs.lemmas.Slice.Eq.{bytes_eq-Decides}
use Rattle.std.proofs.lemmas.Str.{IsUtf8-from_is_utf8, is_utf8-from_IsUtf8}
use Rattle.std.specs.Str.{bytes_eq, is_utf8}
use Rattle.st_pool.specs.Loaded.{is_loaded, is_named, without_last}
use Rattle.st_pool.specs.declared.kernel.Kernel.{Kernel}
use Rattle.st_text.specs.Bytes.{is_blank, are_blanks}
use Rattle.st_text.specs.Lines.{skip_blanks}
use Rattle.st_batch.specs.Commands.{IsFileName, NamesFile, IsLoad, IsUnload, begins_command}
use Rattle.st_batch.specs.declared.command.TheConstants.{MAX_NAME}

pub and-left : (a b : Bool) → (a && b) ≡ true → a ≡ true
and-left true b e = refl
and-left false b e = e

and-right : (a b : Bool) → (a && b) ≡ true → b ≡ true
and-right true b e = e
and-right false b e = absurd cc

or-left : (a b : Bool) → (a || b) ≡ false → a ≡ false
or-left true b e = absurd cc
or-left false b e = refl

or-right : (a b : Bool) → (a || b) ≡ false → b ≡ false
or-right true b e = absurd cc
or-right false b e = e

-- blanks at the front of a text are skipped
skip-front : (blanks rest : List ℕ) → are_blanks blanks ≡ true → skip_blanks (blanks ++ rest) ≡ skip_blanks rest
skip-front [] rest all = refl
skip-front (b ∷ blanks) rest all =
    let first = and-left (is_blank b) (are_blanks blanks) all in
    rw first (skip-front blanks rest (and-right (is_blank b) (are_blanks blanks) all))

-- what is skipped is blanks, and nothing is skipped of what is left
record Skips (text : List ℕ) : Type 0 where
  blanks : List ℕ
  spelled : text ≡ blanks ++ skip_blanks text
  blank : are_blanks blanks ≡ true
  behind : skip_blanks (skip_blanks text) ≡ skip_blanks text

skips : (text : List ℕ) → Skips text
skips [] = record { blanks = []; spelled = refl; blank = refl; behind = refl }
skips (b ∷ text) =
    let s = skips text in
    elim (cases_Bool (is_blank b)) [
      | inl y ↦ record { blanks = b ∷ s.blanks; spelled = rw y (ap (λ (t : List ℕ). b ∷ t) s.spelled); blank = rw y s.blank; behind = rw y s.behind }
      | inr n ↦ record { blanks = []; spelled = rw n refl; blank = refl; behind = rw n (rw n refl) }
    ]

-- the name is what stands after the word and its blanks
pub behind-word : (word text behind name : List ℕ) → text ≡ word ++ behind → NamesFile word text name → (skip_blanks behind ≡ name) × (length name < length behind)
behind-word word text behind name e h =
    let same : behind ≡ h.blanks ++ name =
    sym (drop-append_seam word behind) ∙ ap (λ (t : List ℕ). drop (length word) t) (sym e ∙ h.spelled) ∙ drop-append_seam word (h.blanks ++ name) in
    (ap skip_blanks same ∙ skip-front h.blanks name h.blank ∙ h.behind, omega (arith, h.some, ap (λ (t : List ℕ). length t) same, length-append h.blanks name))

pub name-behind : (word text behind : List ℕ) → text ≡ word ++ behind → length (skip_blanks behind) < length behind → IsFileName (skip_blanks behind) → NamesFile word text (skip_blanks behind)
name-behind word text behind e more is =
    let s = skips behind in
    record {
      blanks = s.blanks;
      spelled = e ∙ ap (λ (t : List ℕ). word ++ t) s.spelled;
      some = omega (arith, more, ap (λ (t : List ℕ). length t) s.spelled, length-append s.blanks (skip_blanks behind));
      blank = s.blank;
      behind = s.behind;
      is_name = is;
    }

-- a text that begins with a word, by the test of its first bytes
pub begins : (word text : List ℕ) → bytes_eq (take (length word) text) word ≡ true → text ≡ word ++ drop (length word) text
begins word text h =
    sym (take-append-drop (length word) text) ∙ ap (λ (t : List ℕ). t ++ drop (length word) text) ((bytes_eq-Decides (take (length word) text) word).0 h)

pub begins-not : (word text : List ℕ) → bytes_eq (take (length word) text) word ≡ false → (name : List ℕ) → NamesFile word text name → ⊥
begins-not word text n name h =
    let front : take (length word) text ≡ word = ap (λ (t : List ℕ). take (length word) t) h.spelled ∙ take-append_seam word (h.blanks ++ name) in
    false≢true (sym n ∙ (bytes_eq-Decides (take (length word) text) word).1 front)

-- the same of a text that was stripped of the word
pub stripped : (word text behind : List ℕ) → bytes_eq (take (length word) text) word ≡ true → behind ≡ drop (length word) text → text ≡ word ++ behind
stripped word text behind h e = begins word text h ∙ ap (λ (t : List ℕ). word ++ t) (sym e)

pub named : (word text behind name : List ℕ) → text ≡ word ++ behind → name ≡ skip_blanks behind → length name < length behind → IsFileName name → NamesFile word text name
named word text behind name e same more is =
    let P : List ℕ → Type 0 = λ n. length n < length behind in
    subst (NamesFile word text) (sym same) (name-behind word text behind e (subst P same more) (subst IsFileName same is))

-- what was read as the name is the one that the text names
pub named-is : (word text behind read name : List ℕ) → text ≡ word ++ behind → read ≡ skip_blanks behind → NamesFile word text name → IsFileName read × (length read < length behind)
named-is word text behind read name e same h =
    let b = behind-word word text behind name e h in
    let is : name ≡ read = sym b.0 ∙ sym same in
    let P : List ℕ → Type 0 = λ n. length n < length behind in
    (subst IsFileName is h.is_name, subst P is b.1)

-- a text names one name after a word
pub read-name : (word text name : List ℕ) → NamesFile word text name → skip_blanks (drop (length word) text) ≡ name
read-name word text name h =
    ap (λ (t : List ℕ). skip_blanks (drop (length word) t)) h.spelled ∙ ap skip_blanks (drop-append_seam word (h.blanks ++ name)) ∙ skip-front h.blanks name h.blank ∙ h.behind

pub one-name : (word text a b : List ℕ) → NamesFile word text a → NamesFile word text b → a ≡ b
one-name word text a b h k = sym (read-name word text a h) ∙ read-name word text b k

-- a text is one command at most, by its second byte
abbrev second : ℕ → List ℕ → Bool
second b text = eqb (get_or text 1 0) b

pub load-not-unload : (text a b : List ℕ) → IsLoad text a → IsUnload text b → ⊥
load-not-unload text a b h k = false≢true (sym (ap (second 108) k.spelled) ∙ ap (second 108) h.spelled)

pub load-not-clear : (text a : List ℕ) → IsLoad text a → text ≡ codes "$clear" → ⊥
load-not-clear text a h k = false≢true (sym (ap (second 108) k) ∙ ap (second 108) h.spelled)

pub unload-not-clear : (text a : List ℕ) → IsUnload text a → text ≡ codes "$clear" → ⊥
unload-not-clear text a h k = false≢true (sym (ap (second 117) k) ∙ ap (second 117) h.spelled)

-- a command begins as one
pub load-begins : (text name : List ℕ) → IsLoad text name → begins_command text ≡ true
load-begins text name h = ap begins_command h.spelled

pub unload-begins : (text name : List ℕ) → IsUnload text name → begins_command text ≡ true
unload-begins text name h = ap begins_command h.spelled

pub clear-begins : (text : List ℕ) → text ≡ codes "$clear" → begins_command text ≡ true
clear-begins text e = ap begins_command e

-- a name that isn't loaded is unloaded by doing nothing
pub not-loaded : (name : List ℕ) (loaded : List Kernel) → is_loaded name loaded ≡ false → without_last name loaded ≡ loaded
not-loaded name [] none = refl
not-loaded name (kernel ∷ more) none =
    let first = or-left (is_named name kernel) (is_loaded name more) none in
    let rest = or-right (is_named name kernel) (is_loaded name more) none in
    rw rest (rw first refl)

-- whether bytes may be a file's name, and which name a text has after a word, can be told
told-file-name : (name : List ℕ) → IsFileName name ⊎ (IsFileName name → ⊥)
told-file-name name =
    elim (cases_lt (length name) 1) [
      | inl none ↦ inr (λ is. absurd (omega (arith, is.some)))
      | inr some ↦ elim (cases_lt MAX_NAME (length name)) [
        | inl long ↦ inr (λ is. absurd (omega (arith, is.short)))
        | inr short ↦ elim (cases_Bool (is_utf8 name)) [
          | inl y ↦ inl (record { some = some; short = short; utf8 = IsUtf8-from_is_utf8 name y })
          | inr n ↦ inr (λ is. false≢true (sym n ∙ is_utf8-from_IsUtf8 name is.utf8))
        ]
      ]
    ]

told-behind : (word text behind : List ℕ) → text ≡ word ++ behind → ((name : List ℕ) × NamesFile word text name) ⊎ ((name : List ℕ) → NamesFile word text name → ⊥)
told-behind word text behind e =
    elim (cases_lt (length (skip_blanks behind)) (length behind)) [
      | inr none ↦ inr (λ name h. few name (behind-word word text behind name e h) none)
      | inl more ↦ elim (told-file-name (skip_blanks behind)) [
        | inl is ↦ inl (skip_blanks behind, name-behind word text behind e more is)
        | inr isn ↦ inr (λ name h. isn (subst IsFileName (sym (behind-word word text behind name e h).0) h.is_name))
      ]
    ]
  where
    few : (name : List ℕ) → (skip_blanks behind ≡ name) × (length name < length behind) → length behind ≤ length (skip_blanks behind) → ⊥
    few name (same, less) none = omega (arith, ap (λ (t : List ℕ). length t) same)

pub told-name : (word text : List ℕ) → ((name : List ℕ) × NamesFile word text name) ⊎ ((name : List ℕ) → NamesFile word text name → ⊥)
told-name word text =
    elim (cases_Bool (bytes_eq (take (length word) text) word)) [
      | inl y ↦ told-behind word text (drop (length word) text) (begins word text y)
      | inr n ↦ inr (begins-not word text n)
    ]
