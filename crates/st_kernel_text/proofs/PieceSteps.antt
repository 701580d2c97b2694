-- What the bytes of a file give one by one is what its lines give.
use Rattle.std.proofs.Common.{inl, inr, ◌⊎◌, ◌≡◌, ℕ, ◌+◌, ◌<◌, ◌≤◌, true, false, List, [], ◌∷◌, ◌++◌, length, Result, Ok, Err, refl, ap, sym, ◌∙◌, subst, arith, append_assoc}
use Rattle.std.specs.Prelude.{◌==◌, nat_lt}
use Rattle.std.proofs.lemmas.Bool.{cases_Bool, cond-true, cond-false, eqb-true}
use Rattle.std.proofs.lemmas.List.{append-nil}
use Rattle.st_text.specs.Lines.{without_cr, lines_of}
use Rattle.st_kernel_text.specs.Fault.{Fault}
use Rattle.st_kernel_text.specs.LinesMachine.{line_of, lines_from}
use Rattle.st_kernel_text.specs.ParserMachine.{◌>>=◌}
use Rattle.st_kernel_text.specs.Pieces.{IsEnded, HasNoFeed}
use Rattle.st_kernel_text.specs.PiecesMachine.{reading, most_before, ended_of, byte_of, bytes_of}
use Rattle.st_kernel_text.specs.declared.fault.TextCause.TheVariants.{LineTooLong}
use Rattle.st_kernel_text.specs.declared.kernel.Kernel.{Kernel}
use Rattle.st_kernel_text.specs.declared.lines.Reading.{Reading}
use Rattle.st_kernel_text.proofs.LineEnds.{no_feed_more, ended_more, lines_none, lines_first, first_line, counts_most, stays_long, fills, fits, onto_begun}
use Rattle.st_kernel_text.proofs.LineLaws.{long_line}

-- bytes in a row
pub bytes-append : (r : Reading) (s t : List ℕ) → bytes_of r (s ++ t) ≡ (bytes_of r s >>= λ q. bytes_of q t)
bytes-append r [] t = refl
bytes-append r (b ∷ s) t =
    let P : Result Reading Fault → Type 0 = λ x. (x >>= λ q. bytes_of q (s ++ t)) ≡ ((x >>= λ q. bytes_of q s) >>= λ q. bytes_of q t) in
    elim (byte_of r b) as P [ Ok q ↦ bytes-append q s t | Err e ↦ refl ]

pub fails_on : (r : Reading) (s t : List ℕ) (f : Fault) → bytes_of r s ≡ Err f → bytes_of r (s ++ t) ≡ Err f
fails_on r s t f e = bytes-append r s t ∙ ap (λ (x : Result Reading Fault). x >>= λ q. bytes_of q t) e

abbrev pub IsShort : List ℕ → Type 0
IsShort begun = length (without_cr begun) ≤ 1000

-- one byte of a reading that stands within a line
abbrev pub long_fault : ℕ → Fault
long_fault n = record { line = n; cause = LineTooLong }

ends : (k : Kernel) (begun : List ℕ) (n b : ℕ) → (b == 10) ≡ true → byte_of (reading k begun n) b ≡ ended_of (reading k begun n)
ends k begun n b e = cond-true (b == 10) _ _ e

overflows : (k : Kernel) (begun : List ℕ) (n b : ℕ) → (b == 10) ≡ false → nat_lt (most_before b) (length begun) ≡ true
    → byte_of (reading k begun n) b ≡ Err (long_fault n)
overflows k begun n b e h = cond-false (b == 10) _ _ e ∙ cond-true _ _ _ h

begins : (k : Kernel) (begun : List ℕ) (n b : ℕ) → (b == 10) ≡ false → nat_lt (most_before b) (length begun) ≡ false
    → byte_of (reading k begun n) b ≡ Ok (reading k (begun ++ b ∷ []) n)
begins k begun n b e h = cond-false (b == 10) _ _ e ∙ cond-false _ _ _ h

-- the lines that a reading has before it, when no byte follows
abbrev pub rest_of : Reading → Result Kernel Fault
rest_of q = lines_from q.kernel q.number (lines_of q.begun)

-- a line whose first bytes are too long is too long
pub begins_long : (k : Kernel) (n : ℕ) (begun t : List ℕ) → HasNoFeed begun → 1000 < length (without_cr begun)
    → lines_from k n (lines_of (begun ++ t)) ≡ Err (long_fault n)
begins_long k n begun t h l = by begun t h l (some begun l)
  where
    some : (begun : List ℕ) → 1000 < length (without_cr begun) → 0 < length begun
    some begun l = omega (arith, l, counts_most begun)

    by : (begun t : List ℕ) → HasNoFeed begun → 1000 < length (without_cr begun) → 0 < length begun
        → lines_from k n (lines_of (begun ++ t)) ≡ Err (long_fault n)
    by begun t h l s =
        let first = first_line begun t h s in
        ap (lines_from k n) first.whole
        ∙ ap (λ (x : Result Kernel Fault). x >>= λ a. lines_from a (n + 1) first.others)
        (long_line k n (without_cr (begun ++ first.more)) LineTooLong (stays_long begun first.more l, refl))

ended_then : (n : ℕ) (t : List ℕ) (x : Result Kernel Fault)
    → ((k : Kernel) → (bytes_of (reading k [] (n + 1)) t >>= rest_of) ≡ lines_from k (n + 1) (lines_of t))
    → (((x >>= λ k. Ok (reading k [] (n + 1))) >>= λ q. bytes_of q t) >>= rest_of) ≡ (x >>= λ k. lines_from k (n + 1) (lines_of t))
ended_then n t (Ok k) h = h k
ended_then n t (Err e) h = refl

-- reading on from a reading, to the end of the file
pub reads_on : (t : List ℕ) (k : Kernel) (begun : List ℕ) (n : ℕ) → HasNoFeed begun
    → (bytes_of (reading k begun n) t >>= rest_of) ≡ lines_from k n (lines_of (begun ++ t))
reads_on [] k begun n h = ap (λ (z : List ℕ). lines_from k n (lines_of z)) (sym (append-nil begun))
reads_on (b ∷ t) k begun n h =
    elim (cases_Bool (b == 10)) [
      | inl e ↦
          ap (λ (x : Result Reading Fault). (x >>= λ q. bytes_of q t) >>= rest_of) (ends k begun n b e)
          ∙ ended_then n t (line_of k n (without_cr begun)) (λ q. reads_on t q [] (n + 1) refl)
          ∙ sym (ap (λ (z : ℕ). lines_from k n (lines_of (begun ++ z ∷ t))) (eqb-true b 10 e) ∙ ap (lines_from k n) (lines_first begun t h))
      | inr e ↦
          elim (cases_Bool (nat_lt (most_before b) (length begun))) [
            | inl l ↦
                ap (λ (x : Result Reading Fault). (x >>= λ q. bytes_of q t) >>= rest_of) (overflows k begun n b e l)
                ∙ sym (ap (λ (z : List ℕ). lines_from k n (lines_of z)) (onto_begun begun b t)
                ∙ begins_long k n (begun ++ b ∷ []) t (no_feed_more begun b h e) (fills begun b l))
            | inr s ↦
                ap (λ (x : Result Reading Fault). (x >>= λ q. bytes_of q t) >>= rest_of) (begins k begun n b e s)
                ∙ reads_on t k (begun ++ b ∷ []) n (no_feed_more begun b h e)
                ∙ ap (λ (z : List ℕ). lines_from k n (lines_of z)) (sym (onto_begun begun b t))
          ]
    ]

-- where a reading has come to
pub record Reached (k : Kernel) (begun : List ℕ) (n : ℕ) (t : List ℕ) (q : Reading) : Type 0 where
  pub ended : List ℕ
  pub ended_is : IsEnded ended
  pub begun_is : HasNoFeed q.begun
  pub short : IsShort q.begun
  pub read : lines_from k n (lines_of ended) ≡ Ok q.kernel
  pub number : q.number ≡ n + length (lines_of ended)
  pub whole : begun ++ t ≡ ended ++ q.begun

pub nothing_read : (k : Kernel) (n : ℕ) → lines_from k n (lines_of []) ≡ Ok k
nothing_read k n = ap (lines_from k n) lines_none

-- one more line in front
line_whole : (begun ended rest t : List ℕ) (b : ℕ) → (b == 10) ≡ true → t ≡ ended ++ rest → begun ++ b ∷ t ≡ (begun ++ 10 ∷ ended) ++ rest
line_whole begun ended rest t b e w =
    ap (λ (z : ℕ). begun ++ z ∷ t) (eqb-true b 10 e) ∙ ap (λ (z : List ℕ). begun ++ 10 ∷ z) w ∙ sym (append_assoc begun (10 ∷ ended) rest)

line_read : (k : Kernel) (n : ℕ) (begun ended : List ℕ) (q : Kernel) (x : Result Kernel Fault) → HasNoFeed begun → line_of k n (without_cr begun) ≡ Ok q
    → lines_from q (n + 1) (lines_of ended) ≡ x → lines_from k n (lines_of (begun ++ 10 ∷ ended)) ≡ x
line_read k n begun ended q x h e r =
    ap (lines_from k n) (lines_first begun ended h) ∙ ap (λ (z : Result Kernel Fault). z >>= λ a. lines_from a (n + 1) (lines_of ended)) e ∙ r

line_counted : (n : ℕ) (begun ended : List ℕ) → HasNoFeed begun → n + 1 + length (lines_of ended) ≡ n + length (lines_of (begun ++ 10 ∷ ended))
line_counted n begun ended h = omega (arith, ap (λ (z : List (List ℕ)). length z) (lines_first begun ended h))

pub short_none : IsShort []
short_none = omega (arith, counts_most [])

reached_line : (k a : Kernel) (begun : List ℕ) (n b : ℕ) (t : List ℕ) (q : Reading) → HasNoFeed begun → (b == 10) ≡ true → line_of k n (without_cr begun) ≡ Ok a
    → Reached a [] (n + 1) t q → Reached k begun n (b ∷ t) q
reached_line k a begun n b t q h y e m = record {
  ended = begun ++ 10 ∷ m.ended;
  ended_is = ended_more begun m.ended m.ended_is;
  begun_is = m.begun_is;
  short = m.short;
  read = line_read k n begun m.ended a (Ok q.kernel) h e m.read;
  number = m.number ∙ line_counted n begun m.ended h;
  whole = line_whole begun m.ended q.begun t b y m.whole;
}

-- what one more byte of a reading gives, and the bytes after it
then_bytes : (r : Reading) (b : ℕ) (t : List ℕ) (x y : Result Reading Fault) → byte_of r b ≡ x → bytes_of r (b ∷ t) ≡ y → (x >>= λ q. bytes_of q t) ≡ y
then_bytes r b t x y e h = ap (λ (z : Result Reading Fault). z >>= λ q. bytes_of q t) (sym e) ∙ h

pub reached : (t : List ℕ) (k : Kernel) (begun : List ℕ) (n : ℕ) (q : Reading) → HasNoFeed begun → IsShort begun
    → bytes_of (reading k begun n) t ≡ Ok q → Reached k begun n t q
reached [] k begun n q h s e =
    let is : reading k begun n ≡ q = cc in
    subst (Reached k begun n []) is
    (record { ended = []; ended_is = inl refl; begun_is = h; short = s; read = nothing_read k n; number = omega (arith, ap (λ (z : List (List ℕ)). length z) lines_none); whole = append-nil begun })
reached (b ∷ t) k begun n q h s e =
    elim (cases_Bool (b == 10)) [
      | inl y ↦
          let P : Result Kernel Fault → Type 0 =
          λ x. line_of k n (without_cr begun) ≡ x → ((x >>= λ a. Ok (reading a [] (n + 1))) >>= λ z. bytes_of z t) ≡ Ok q → Reached k begun n (b ∷ t) q in
          let by : P (line_of k n (without_cr begun)) = elim (line_of k n (without_cr begun)) as P [
            | Ok a ↦ λ f g. reached_line k a begun n b t q h y f (reached t a [] (n + 1) q refl short_none g)
            | Err f ↦ λ g i. absurd (cc)
          ] in
          by refl (then_bytes (reading k begun n) b t _ _ (ends k begun n b y) e)
      | inr y ↦
          elim (cases_Bool (nat_lt (most_before b) (length begun))) [
            | inl l ↦ let other : Err (long_fault n) ≡ Ok q = then_bytes (reading k begun n) b t _ _ (overflows k begun n b y l) e in absurd (cc)
            | inr l ↦
                let g = reached t k (begun ++ b ∷ []) n q (no_feed_more begun b h y) (fits begun b l)
                (then_bytes (reading k begun n) b t _ _ (begins k begun n b y l) e) in
                record { ended = g.ended; ended_is = g.ended_is; begun_is = g.begun_is; short = g.short; read = g.read; number = g.number; whole = onto_begun begun b t ∙ g.whole }
          ]
    ]

-- why a reading goes no further: an ended line has a fault, or the begun one is too long
pub record FailedLine (k : Kernel) (n : ℕ) (ended begun : List ℕ) (f : Fault) : Type 0 where
  pub none : begun ≡ []
  pub read : lines_from k n (lines_of ended) ≡ Err f

pub record FailedBegun (k : Kernel) (n : ℕ) (ended begun : List ℕ) (f : Fault) : Type 0 where
  pub kernel : Kernel
  pub begun_is : HasNoFeed begun
  pub long : 1000 < length (without_cr begun)
  pub read : lines_from k n (lines_of ended) ≡ Ok kernel
  pub fault : f ≡ long_fault (n + length (lines_of ended))

pub record Broke (k : Kernel) (begun : List ℕ) (n : ℕ) (t : List ℕ) (f : Fault) : Type 0 where
  pub ended : List ℕ
  pub last : List ℕ
  pub more : List ℕ
  pub ended_is : IsEnded ended
  pub failed : FailedLine k n ended last f ⊎ FailedBegun k n ended last f
  pub whole : begun ++ t ≡ (ended ++ last) ++ more

failed_later : (k a : Kernel) (n : ℕ) (begun ended last : List ℕ) (f : Fault) → HasNoFeed begun → line_of k n (without_cr begun) ≡ Ok a
    → FailedLine a (n + 1) ended last f ⊎ FailedBegun a (n + 1) ended last f
    → FailedLine k n (begun ++ 10 ∷ ended) last f ⊎ FailedBegun k n (begun ++ 10 ∷ ended) last f
failed_later k a n begun ended last f h e (inl g) = inl (record { none = g.none; read = line_read k n begun ended a (Err f) h e g.read })
failed_later k a n begun ended last f h e (inr g) = inr (record {
  kernel = g.kernel;
  begun_is = g.begun_is;
  long = g.long;
  read = line_read k n begun ended a (Ok g.kernel) h e g.read;
  fault = g.fault ∙ ap long_fault (line_counted n begun ended h);
})

broke_later : (k a : Kernel) (begun : List ℕ) (n b : ℕ) (t : List ℕ) (f : Fault) → HasNoFeed begun → (b == 10) ≡ true → line_of k n (without_cr begun) ≡ Ok a
    → Broke a [] (n + 1) t f → Broke k begun n (b ∷ t) f
broke_later k a begun n b t f h y e m = record {
  ended = begun ++ 10 ∷ m.ended;
  last = m.last;
  more = m.more;
  ended_is = ended_more begun m.ended m.ended_is;
  failed = failed_later k a n begun m.ended m.last f h e m.failed;
  whole = line_whole begun (m.ended ++ m.last) m.more t b y m.whole
      ∙ ap (λ (z : List ℕ). z ++ m.more) (sym (append_assoc begun (10 ∷ m.ended) m.last));
}

broke_here : (k : Kernel) (begun : List ℕ) (n b : ℕ) (t : List ℕ) (f : Fault) → HasNoFeed begun → (b == 10) ≡ true → line_of k n (without_cr begun) ≡ Err f
    → Broke k begun n (b ∷ t) f
broke_here k begun n b t f h y e = record {
  ended = begun ++ 10 ∷ [];
  last = [];
  more = t;
  ended_is = inr (begun, refl);
  failed = inl (record {
    none = refl;
    read = ap (lines_from k n) (lines_first begun [] h) ∙ ap (λ (z : Result Kernel Fault). z >>= λ a. lines_from a (n + 1) (lines_of [])) e;
  });
  whole = line_whole begun [] t t b y refl ∙ ap (λ (z : List ℕ). z ++ t) (sym (append-nil (begun ++ 10 ∷ [])));
}

broke_long : (k : Kernel) (begun : List ℕ) (n b : ℕ) (t : List ℕ) (f : Fault) → HasNoFeed begun → (b == 10) ≡ false → nat_lt (most_before b) (length begun) ≡ true
    → f ≡ long_fault n → Broke k begun n (b ∷ t) f
broke_long k begun n b t f h y l e = record {
  ended = [];
  last = begun ++ b ∷ [];
  more = t;
  ended_is = inl refl;
  failed = inr (record {
    kernel = k;
    begun_is = no_feed_more begun b h y;
    long = fills begun b l;
    read = nothing_read k n;
    fault = e ∙ ap long_fault (omega (arith, ap (λ (z : List (List ℕ)). length z) lines_none));
  });
  whole = onto_begun begun b t;
}

pub broke : (t : List ℕ) (k : Kernel) (begun : List ℕ) (n : ℕ) (f : Fault) → HasNoFeed begun
    → bytes_of (reading k begun n) t ≡ Err f → Broke k begun n t f
broke [] k begun n f h e = absurd (cc)
broke (b ∷ t) k begun n f h e =
    elim (cases_Bool (b == 10)) [
      | inl y ↦
          let P : Result Kernel Fault → Type 0 =
          λ x. line_of k n (without_cr begun) ≡ x → ((x >>= λ a. Ok (reading a [] (n + 1))) >>= λ z. bytes_of z t) ≡ Err f → Broke k begun n (b ∷ t) f in
          let by : P (line_of k n (without_cr begun)) = elim (line_of k n (without_cr begun)) as P [
            | Ok a ↦ λ g i. broke_later k a begun n b t f h y g (broke t a [] (n + 1) f refl i)
            | Err x ↦ λ g i. broke_here k begun n b t f h y (g ∙ ap Err (same_fault x (Err x) refl i))
          ] in
          by refl (then_bytes (reading k begun n) b t _ _ (ends k begun n b y) e)
      | inr y ↦
          elim (cases_Bool (nat_lt (most_before b) (length begun))) [
            | inl l ↦
                let other : Err (long_fault n) ≡ Err f = then_bytes (reading k begun n) b t _ _ (overflows k begun n b y l) e in
                broke_long k begun n b t f h y l (cc)
            | inr l ↦
                let g = broke t k (begun ++ b ∷ []) n f (no_feed_more begun b h y)
                (then_bytes (reading k begun n) b t _ _ (begins k begun n b y l) e) in
                record { ended = g.ended; last = g.last; more = g.more; ended_is = g.ended_is; failed = g.failed; whole = onto_begun begun b t ∙ g.whole }
          ]
    ]
  where
    same_fault : (x : Fault) (r : Result Reading Fault) → r ≡ Err x → r ≡ Err f → x ≡ f
    same_fault x r a b = cc
