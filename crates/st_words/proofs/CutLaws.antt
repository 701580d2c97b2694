-- The words are cut from the left exactly as the code reads them.
use Rattle.std.proofs.Common.{zero, suc, ◌≡◌, ◌⊎◌, ℕ, ◌+◌, ◌-◌, ◌≤◌, Bool, true, false, cond, Option, Some, None, Result, Ok, Err, List, [], ◌∷◌, ◌++◌, length, take, drop, map, get_or, inl, inr, refl, sym, ap, ◌∙◌, subst, arith, length-append}
use Rattle.std.proofs.Math.Seq.{take-append_seam, drop-append_seam}
use Rattle.std.proofs.lemmas.List.{take-append-drop, length-map, length-drop, drop-map}
use Rattle.st_words.specs.Cut.{has, with_choice, Standing, Takes, Reads, Begins, HasValue, HasBadValue, is_numeric, Stops}
use Rattle.st_words.specs.OptionWords.{IsWordOf}
use Rattle.st_words.specs.Values.{opt_of, Spells, IsValue, IsBadAt}
use Rattle.st_words.specs.WordsMachine.{◌>>=◌, ok_or, option_of, value_count, value_of, bad_of, choice_of, choice_by, option_at, read}
use Rattle.st_words.specs.declared.choice.Choice.{Choice}
use Rattle.st_words.specs.declared.fault.WordFault.{WordFault}
use Rattle.st_words.specs.declared.fault.WordFault.TheVariants.{Unknown, Twice, NoValue, BadValue, BadNumber, Missing, BadPair, Conflict, BadPicture, OutOfMemory}
use Rattle.st_words.specs.declared.opt.Opt.{Opt}
use Rattle.st_words.specs.declared.opt.Opt.TheVariants.{Setup, From, FromType, To, ToType, Format, Time, Batch, Sample, Sc, Back}
use Rattle.st_words.specs.declared.options.Options.{Options}
use Rattle.st_words.proofs.Lists.{tail_of, tail_is}
use Rattle.st_words.proofs.NameLaws.{option_found, option_is, none_is, plain_none}
use Rattle.st_words.proofs.ValueLaws.{value_found, value_is, bad_is, bad_found, count_found, count_is, count_none}

-- where the reading stands
abbrev pub at : Options → ℕ → List (List ℕ) → Standing
at o place words = record { asked = o; place = place; left = words }

-- a value that is spelled is read with as many words
choice_found : (place : ℕ) (choice : Choice) (values rest : List (List ℕ)) → IsValue (opt_of choice) values rest → Spells choice values
    → choice_of (opt_of choice) place (values ++ rest) ≡ Ok (choice, length values)
choice_found place choice values rest v s =
    rw (count_found (opt_of choice) values rest v, take-append_seam values rest, value_found place choice values s) refl

bad_choice : (opt : Opt) (place : ℕ) (values rest : List (List ℕ)) (k : ℕ) → IsValue opt values rest → IsBadAt opt values k
    → choice_of opt place (values ++ rest) ≡ Err (bad_of opt (place + k))
bad_choice opt place values rest k v b =
    rw (count_found opt values rest v, take-append_seam values rest, bad_found opt place values k v.count b) refl

no_choice : (opt : Opt) (place : ℕ) (more : List (List ℕ)) → (HasValue opt more → ⊥) → choice_of opt place more ≡ Err (NoValue place)
no_choice opt place more none = by_count (value_count opt more) refl
  where
    by_count : (n : Option ℕ) → value_count opt more ≡ n → choice_of opt place more ≡ Err (NoValue place)
    by_count None e = rw e refl
    by_count (Some n) e =
        let c = count_is opt more n e in
        absurd (none (take n more, drop n more, sym (take-append-drop n more), c.0))

-- what the reading of a value tells
record IsChosen (opt : Opt) (more : List (List ℕ)) (choice : Choice) (n : ℕ) : Type 0 where
  option : opt_of choice ≡ opt
  value : IsValue opt (take n more) (drop n more)
  spelled : Spells choice (take n more)
  count : length (take n more) ≡ n

-- the fault of a value that is not read
abbrev IsRefused : Opt → ℕ → List (List ℕ) → WordFault → Type 0
IsRefused opt place more fault =
    ((fault ≡ NoValue place) × (HasValue opt more → ⊥))
    ⊎ ((k : ℕ) × (fault ≡ bad_of opt (place + k)) × HasBadValue opt more k)

abbrev ChoiceTells : Opt → ℕ → List (List ℕ) → Result (Choice × ℕ) WordFault → Type 0
ChoiceTells opt place more (Ok found) = IsChosen opt more found.0 found.1
ChoiceTells opt place more (Err fault) = IsRefused opt place more fault

choice_tells : (opt : Opt) (place : ℕ) (more : List (List ℕ)) → ChoiceTells opt place more (choice_of opt place more)
choice_tells opt place more = by_count (value_count opt more) refl
  where
    by_value : (n : ℕ) (r : Result Choice WordFault) → value_count opt more ≡ Some n → value_of opt place (take n more) ≡ r
        → ChoiceTells opt place more (r >>= λ choice. Ok (choice, n))
    by_value n (Ok choice) e h =
        let c = count_is opt more n e in
        let v = value_is opt place (take n more) choice (c.0).count h in
        record { option = v.0; value = c.0; spelled = v.1; count = c.1 }
    by_value n (Err fault) e h =
        let c = count_is opt more n e in
        let b = bad_is opt place (take n more) fault (c.0).count h in
        inr (b.0, b.2, (take n more, drop n more, sym (take-append-drop n more), c.0, b.1))

    by_count : (n : Option ℕ) → value_count opt more ≡ n → ChoiceTells opt place more (ok_or n (NoValue place) >>= λ m. value_of opt place (take m more) >>= λ choice. Ok (choice, m))
    by_count None e = inl (refl, count_none opt more e)
    by_count (Some n) e = by_value n (value_of opt place (take n more)) e refl

-- the reading passes over some words
pub read_skip : (o : Options) (place n : ℕ) (words : List (List ℕ)) → n ≤ length words → read o place n words ≡ read o (place + n) 0 (drop n words)
read_skip o place zero words h = ap (λ (p : ℕ). read o p 0 words) (omega arith)
read_skip o place (suc n) [] h = absurd (omega arith)
read_skip o place (suc n) (word ∷ more) h =
    read_skip o (place + 1) n more (omega arith) ∙ ap (λ (p : ℕ). read o p 0 (drop n more)) (omega arith)

-- one option is taken as it is read
record IsTaken (o : Options) (place : ℕ) (word : List ℕ) (more : List (List ℕ)) (choice : Choice) (n : ℕ) : Type 0 where
  few : n ≤ length more
  takes : Takes (at o place (word ∷ more)) choice (at (with_choice o choice) (place + 1 + n) (drop n more))

count_few : (n : ℕ) (more : List (List ℕ)) → length (take n more) ≡ n → n ≤ length more
count_few n more e =
    let both : length (take n more ++ drop n more) ≡ length more = ap length (take-append-drop n more) in
    omega (arith, e, both, length-append (take n more) (drop n more))

abbrev OptionTells : Options → ℕ → List ℕ → List (List ℕ) → Result (Choice × ℕ) WordFault → Type 0
OptionTells o place word more (Ok found) = IsTaken o place word more found.0 found.1
OptionTells o place word more (Err fault) = Stops (at o place (word ∷ more)) fault

stops_value : (o : Options) (place : ℕ) (word : List ℕ) (more : List (List ℕ)) (opt : Opt) (k : ℕ) → Begins (at o place (word ∷ more)) opt more
    → HasBadValue opt more k → Stops (at o place (word ∷ more)) (bad_of opt (place + k))
stops_value o place word more Setup k b h = (Setup, more, k, b, refl, h, refl)
stops_value o place word more From k b h = (From, more, k, b, refl, h, refl)
stops_value o place word more FromType k b h = (FromType, more, k, b, refl, h, refl)
stops_value o place word more To k b h = (To, more, k, b, refl, h, refl)
stops_value o place word more ToType k b h = (ToType, more, k, b, refl, h, refl)
stops_value o place word more Format k b h = (Format, more, k, b, refl, h, refl)
stops_value o place word more Time k b h = (Time, more, k, b, refl, h, refl)
stops_value o place word more Batch k b h = (Batch, more, k, b, refl, h, refl)
stops_value o place word more Sample k b h = (Sample, more, k, b, refl, h, refl)
stops_value o place word more Sc k b h = (Sc, more, k, b, refl, h, refl)
stops_value o place word more Back k b h = (Back, more, k, b, refl, h, refl)

option_tells : (o : Options) (place : ℕ) (word : List ℕ) (more : List (List ℕ)) → OptionTells o place word more (option_at o place word more)
option_tells o place word more = by_option (option_of word) refl
  where
    told : (opt : Opt) (r : Result (Choice × ℕ) WordFault) → IsWordOf opt word → has o opt ≡ false → ChoiceTells opt place more r → OptionTells o place word more r
    told opt (Ok found) w new t =
        let P : Opt → Type 0 = λ p. IsWordOf p word × ((has o p ≡ false) × IsValue p (take found.1 more) (drop found.1 more)) in
        let is = subst P (sym t.option) (w, (new, t.value)) in
        record {
          few = count_few found.1 more t.count;
          takes = record {
            word = word;
            values = take found.1 more;
            words = ap (λ (m : List (List ℕ)). word ∷ m) (sym (take-append-drop found.1 more));
            named = is.0;
            new = (is.1).0;
            value = (is.1).1;
            spelled = t.spelled;
            asked = refl;
            place = ap (λ (n : ℕ). place + 1 + n) (sym t.count);
          };
        }
    told opt (Err fault) w new (inl t) =
        let P : WordFault → Type 0 = λ f. Stops (at o place (word ∷ more)) f in
        let begins : Begins (at o place (word ∷ more)) opt more = record { word = word; words = refl; named = w; new = new } in
        subst P (sym t.0) (opt, more, begins, t.1, refl)
    told opt (Err fault) w new (inr t) =
        let P : WordFault → Type 0 = λ f. Stops (at o place (word ∷ more)) f in
        let begins : Begins (at o place (word ∷ more)) opt more = record { word = word; words = refl; named = w; new = new } in
        subst P (sym t.1) (stops_value o place word more opt t.0 begins t.2)

    by_new : (opt : Opt) (b : Bool) → IsWordOf opt word → has o opt ≡ b → OptionTells o place word more (cond b (Err (Twice place)) (choice_of opt place more))
    by_new opt true w e = (word, more, opt, refl, w, e, refl)
    by_new opt false w e = told opt (choice_of opt place more) w e (choice_tells opt place more)

    by_option : (found : Option Opt) → option_of word ≡ found → OptionTells o place word more (choice_by o place found more)
    by_option None e = (word, more, refl, none_is word e, refl)
    by_option (Some opt) e = by_new opt (has o opt) (option_is word opt e) refl

-- what the reading of all words tells
abbrev pub Answered : Standing → Result Options WordFault → Type 0
Answered from (Ok o) = (choices : List Choice) × (end : Standing) × Reads from choices end × (end.left ≡ []) × (end.asked ≡ o)
Answered from (Err fault) = (choices : List Choice) × (stop : Standing) × Reads from choices stop × Stops stop fault

answered_more : (from next : Standing) (choice : Choice) (r : Result Options WordFault) → Takes from choice next → Answered next r → Answered from r
answered_more from next choice (Ok o) t a = (choice ∷ a.0, a.1, (next, t, a.2), a.3, a.4)
answered_more from next choice (Err fault) t a = (choice ∷ a.0, a.1, (next, t, a.2), a.3)

pub read_tells : (o : Options) (place skip : ℕ) (words : List (List ℕ)) → skip ≤ length words
    → Answered (at o (place + skip) (drop skip words)) (read o place skip words)
read_tells o place zero [] h = ([], at o (place + 0) [], refl, refl, refl)
read_tells o place (suc skip) [] h = absurd (omega arith)
read_tells o place (suc skip) (word ∷ more) h =
    let P : ℕ → Type 0 = λ p. Answered (at o p (drop skip more)) (read o (place + 1) skip more) in
    subst P (omega arith) (read_tells o (place + 1) skip more (omega arith))
read_tells o place zero (word ∷ more) h =
    let P : ℕ → Type 0 = λ p. Answered (at o p (word ∷ more)) (read o place 0 (word ∷ more)) in
    subst P (omega arith)
    (by_found (option_at o place word more) (option_tells o place word more) (λ next n few. read_tells next (place + 1) n more few))
  where
    by_found : (r : Result (Choice × ℕ) WordFault) → OptionTells o place word more r
        → ((next : Options) (n : ℕ) → n ≤ length more → Answered (at next (place + 1 + n) (drop n more)) (read next (place + 1) n more))
        → Answered (at o place (word ∷ more)) (r >>= λ found. read (with_choice o found.0) (place + 1) found.1 more)
    by_found (Err fault) t go = ([], at o place (word ∷ more), refl, t)
    by_found (Ok found) t go =
        answered_more (at o place (word ∷ more)) (at (with_choice o found.0) (place + 1 + found.1) (drop found.1 more)) found.0
        (read (with_choice o found.0) (place + 1) found.1 more) t.takes (go (with_choice o found.0) found.1 t.few)

-- and what is told is what is read: an option that is taken
taken_read : (from next : Standing) (choice : Choice) → Takes from choice next → read from.asked from.place 0 from.left ≡ read next.asked next.place 0 next.left
taken_read from next choice t =
    let opt = opt_of choice in
    let more = t.values ++ next.left in
    let found : option_at from.asked from.place t.word more ≡ Ok (choice, length t.values) =
    rw (option_found t.word opt t.named, t.new) (choice_found from.place choice t.values next.left t.value t.spelled) in
    let step : read from.asked from.place 0 (t.word ∷ more) ≡ read (with_choice from.asked choice) (from.place + 1) (length t.values) more = rw found refl in
    let fits : length t.values ≤ length more = omega (arith, length-append t.values next.left) in
    ap (λ (w : List (List ℕ)). read from.asked from.place 0 w) t.words ∙ step
    ∙ read_skip (with_choice from.asked choice) (from.place + 1) (length t.values) more fits
    ∙ ap (λ (w : List (List ℕ)). read (with_choice from.asked choice) (from.place + 1 + length t.values) 0 w) (drop-append_seam t.values next.left)
    ∙ ap (λ (o : Options). read o (from.place + 1 + length t.values) 0 next.left) (sym t.asked)
    ∙ ap (λ (p : ℕ). read next.asked p 0 next.left) (sym t.place)

pub reads_read : (from end : Standing) (choices : List Choice) → Reads from choices end → read from.asked from.place 0 from.left ≡ read end.asked end.place 0 end.left
reads_read from end [] r = ap (λ (s : Standing). read s.asked s.place 0 s.left) r
reads_read from end (choice ∷ more) r = taken_read from r.0 choice r.1 ∙ reads_read r.0 end more r.2

-- a value that has no place is none
begun : (from : Standing) (opt : Opt) (more : List (List ℕ)) (fault : WordFault) → Begins from opt more → choice_of opt from.place more ≡ Err fault
    → read from.asked from.place 0 from.left ≡ Err fault
begun from opt more fault b e =
    let found : option_at from.asked from.place b.word more ≡ Err fault = rw (option_found b.word opt b.named, b.new) e in
    let step : read from.asked from.place 0 (b.word ∷ more) ≡ Err fault = rw found refl in
    ap (λ (w : List (List ℕ)). read from.asked from.place 0 w) b.words ∙ step

bad_read : (from : Standing) (opt : Opt) (more : List (List ℕ)) (k : ℕ) → Begins from opt more → HasBadValue opt more k
    → read from.asked from.place 0 from.left ≡ Err (bad_of opt (from.place + k))
bad_read from opt more k b h =
    let P : List (List ℕ) → Type 0 = λ m. choice_of opt from.place m ≡ Err (bad_of opt (from.place + k)) in
    begun from opt more (bad_of opt (from.place + k)) b (subst P (sym h.2) (bad_choice opt from.place h.0 h.1 k h.3 h.4))

bad_value : (opt : Opt) (place : ℕ) → is_numeric opt ≡ false → bad_of opt place ≡ BadValue place
bad_value Setup place e = refl
bad_value From place e = refl
bad_value FromType place e = refl
bad_value To place e = refl
bad_value ToType place e = refl
bad_value Format place e = refl
bad_value Time place e = refl
bad_value Batch place e = refl
bad_value Sample place e = absurd cc
bad_value Sc place e = absurd cc
bad_value Back place e = refl

bad_number : (opt : Opt) (place : ℕ) → is_numeric opt ≡ true → bad_of opt place ≡ BadNumber place
bad_number Setup place e = absurd cc
bad_number From place e = absurd cc
bad_number FromType place e = absurd cc
bad_number To place e = absurd cc
bad_number ToType place e = absurd cc
bad_number Format place e = absurd cc
bad_number Time place e = absurd cc
bad_number Batch place e = absurd cc
bad_number Sample place e = refl
bad_number Sc place e = refl
bad_number Back place e = absurd cc

abbrev failed : WordFault → Result Options WordFault
failed fault = Err fault

pub stops_read : (from : Standing) (fault : WordFault) → Stops from fault → read from.asked from.place 0 from.left ≡ Err fault
stops_read from (Unknown i) s =
    let none : option_of s.0 ≡ None = plain_none s.0 s.3 in
    let found : option_at from.asked from.place s.0 s.1 ≡ Err (Unknown from.place) = rw none refl in
    let step : read from.asked from.place 0 (s.0 ∷ s.1) ≡ Err (Unknown from.place) = rw found refl in
    ap (λ (w : List (List ℕ)). read from.asked from.place 0 w) s.2 ∙ step ∙ ap (λ (p : ℕ). failed (Unknown p)) (sym s.4)
stops_read from (Twice i) s =
    let found : option_at from.asked from.place s.0 s.1 ≡ Err (Twice from.place) = rw (option_found s.0 s.2 s.4, s.5) refl in
    let step : read from.asked from.place 0 (s.0 ∷ s.1) ≡ Err (Twice from.place) = rw found refl in
    ap (λ (w : List (List ℕ)). read from.asked from.place 0 w) s.3 ∙ step ∙ ap (λ (p : ℕ). failed (Twice p)) (sym s.6)
stops_read from (NoValue i) s =
    begun from s.0 s.1 (NoValue from.place) s.2 (no_choice s.0 from.place s.1 s.3) ∙ ap (λ (p : ℕ). failed (NoValue p)) (sym s.4)
stops_read from (BadValue i) s =
    bad_read from s.0 s.1 s.2 s.3 s.5 ∙ ap failed (bad_value s.0 (from.place + s.2) s.4) ∙ ap (λ (p : ℕ). failed (BadValue p)) (sym s.6)
stops_read from (BadNumber i) s =
    bad_read from s.0 s.1 s.2 s.3 s.5 ∙ ap failed (bad_number s.0 (from.place + s.2) s.4) ∙ ap (λ (p : ℕ). failed (BadNumber p)) (sym s.6)
stops_read from (Missing opt) s = absurd s
stops_read from (BadPair opt) s = absurd s
stops_read from (Conflict a b) s = absurd s
stops_read from (BadPicture f) s = absurd s
stops_read from OutOfMemory s = absurd s

-- one turn of the loop
pub loop_kept : {X : Type 0} (f : X → List ℕ) (o next : Options) (place : ℕ) (rest after : List X) (x : X) (word : List ℕ) (choice : Choice) (n : ℕ)
    → 1 ≤ length rest → x ≡ get_or rest 0 x → word ≡ f x → option_at o place word (map f (tail_of rest)) ≡ Ok (choice, n) → n ≤ length (tail_of rest)
    → next ≡ with_choice o choice → after ≡ drop n (tail_of rest) → read next (place + (1 + n)) 0 (map f after) ≡ read o place 0 (map f rest)
loop_kept f o next place [] after x word choice n l is w e few add behind = absurd (omega arith)
loop_kept {X = X} f o next place (y ∷ rest) after x word choice n l is w e few add behind =
    let head : word ≡ f y = w ∙ ap f is in
    let tail : tail_of (y ∷ rest) ≡ rest = tail_is y rest in
    let found : option_at o place (f y) (map f rest) ≡ Ok (choice, n) =
    ap (λ (v : List ℕ). option_at o place v (map f rest)) (sym head) ∙ ap (λ (r : List X). option_at o place word (map f r)) (sym tail) ∙ e in
    let step : read o place 0 (f y ∷ map f rest) ≡ read (with_choice o choice) (place + 1) n (map f rest) = rw found refl in
    let long : length (tail_of (y ∷ rest)) ≡ length rest = ap length tail in
    let fits : n ≤ length (map f rest) = omega (arith, few, long, length-map rest f) in
    let skip = read_skip (with_choice o choice) (place + 1) n (map f rest) fits in
    let ends : map f after ≡ drop n (map f rest) = ap (map f) (behind ∙ ap (drop n) tail) ∙ sym (drop-map f n rest) in
    ap (λ (m : List (List ℕ)). read next (place + (1 + n)) 0 m) ends
    ∙ ap (λ (k : Options). read k (place + (1 + n)) 0 (drop n (map f rest))) add
    ∙ ap (λ (p : ℕ). read (with_choice o choice) p 0 (drop n (map f rest))) (omega arith)
    ∙ sym skip ∙ sym step

pub loop_place : {X : Type 0} (rest after : List X) (n place total : ℕ) → 1 ≤ length rest → n ≤ length (tail_of rest) → after ≡ drop n (tail_of rest)
    → place + length rest ≡ total → place + (1 + n) + length after ≡ total
loop_place [] after n place total l few behind e = absurd (omega arith)
loop_place {X = X} (y ∷ rest) after n place total l few behind e =
    let long : length (tail_of (y ∷ rest)) ≡ length rest = ap length (tail_is y rest) in
    let left : length after ≡ length (tail_of (y ∷ rest)) - n = ap length behind ∙ length-drop n (tail_of (y ∷ rest)) in
    omega (arith, long, left, few, e)
