-- The places of assignments, after a loading and after an unloading.
use Rattle.std.proofs.Common.{◌≡◌, ◌<◌, ◌≤◌, ℕ, zero, suc, ◌+◌, ◌-◌, length, get_or, take, map, filter, remove, flat_map, Bool, true, false, not, cond, bytes_eq, List, [], ◌∷◌, ◌++◌, refl, sym, ap, ◌∙◌, arith}
use Rattle.std.specs.List.{enumerate_from}
use Rattle.std.proofs.lemmas.Bool.{eq-eqb, ne_eqb, le-leb, lt-leb}
use Rattle.std.proofs.lemmas.Grind.{flat_map-append}
use Rattle.std.proofs.lemmas.List.{append-nil, map-append, take_more, take_all, drop_all, length-take-le}
use Rattle.std.proofs.lemmas.List.Elements.{filter-append}
use Rattle.st_kernel_text.specs.declared.assignment.Assignment.{Assignment}
use Rattle.st_pool.specs.declared.kernel.Kernel.{Kernel}
use Rattle.st_pool.specs.declared.place.Place.{Place}
use Rattle.st_pool.specs.IndexMachine.{lowered, is_elsewhere, without}
use Rattle.st_pool.specs.Places.{places_in, loaded_places}
use Rattle.st_pool.specs.Variable.{is_of}

enumerate-append : {X : Type 0} (n : ℕ) (xs ys : List X) → enumerate_from n (xs ++ ys) ≡ enumerate_from n xs ++ enumerate_from (n + length xs) ys
enumerate-append {X} n [] ys = ap (λ (m : ℕ). enumerate_from m ys) (omega arith)
enumerate-append {X} n (x ∷ xs) ys =
    ap (λ (l : List (ℕ × X)). (n, x) ∷ l) (enumerate-append (n + 1) xs ys)
    ∙ ap (λ (m : ℕ). enumerate_from n (x ∷ xs) ++ enumerate_from m ys) (omega arith)

-- the place of a numbered assignment of kernel k
abbrev pub placed : ℕ → ℕ × Assignment → Place
placed k a = record { kernel = k; assignment = a.0 }

-- the places of the assignments of kernel k, which are numbered from n on
abbrev pub numbered : List ℕ → ℕ → ℕ → List Assignment → List Place
numbered name k n assignments = map (placed k) (filter (λ a. is_of name a.1) (enumerate_from n assignments))

-- the places of kernels, which are numbered from n on
abbrev pub standing : List ℕ → ℕ → List Kernel → List Place
standing name n kernels = flat_map (λ k. places_in name k.0 k.1.assignments) (enumerate_from n kernels)

numbered-append : (name : List ℕ) (k n : ℕ) (xs ys : List Assignment) → numbered name k n (xs ++ ys) ≡ numbered name k n xs ++ numbered name k (n + length xs) ys
numbered-append name k n xs ys =
    ap (λ (l : List (ℕ × Assignment)). map (placed k) (filter (λ a. is_of name a.1) l)) (enumerate-append n xs ys)
    ∙ ap (map (placed k)) (filter-append (λ (a : ℕ × Assignment). is_of name a.1) (enumerate_from n xs) (enumerate_from (n + length xs) ys))
    ∙ map-append (placed k) (filter (λ a. is_of name a.1) (enumerate_from n xs)) (filter (λ a. is_of name a.1) (enumerate_from (n + length xs) ys))

one : (name : List ℕ) (k n : ℕ) (a : Assignment) → numbered name k n (a ∷ []) ≡ cond (bytes_eq a.name name) (record { kernel = k; assignment = n } ∷ []) []
one name k n a = by (bytes_eq a.name name)
  where
    by : (b : Bool) → map (placed k) (cond b ((n, a) ∷ []) []) ≡ cond b (record { kernel = k; assignment = n } ∷ []) []
    by true = refl
    by false = refl

-- one more assignment of a kernel
pub places-more : (name : List ℕ) (k : ℕ) (assignments : List Assignment) (i : ℕ) (a : Assignment) → i < length assignments → a ≡ get_or assignments i a
    → places_in name k (take (i + 1) assignments) ≡ places_in name k (take i assignments) ++ cond (bytes_eq a.name name) (record { kernel = k; assignment = i } ∷ []) []
places-more name k assignments i a l is =
    ap (places_in name k) (take_more assignments i a l ∙ ap (λ (x : Assignment). take i assignments ++ x ∷ []) (sym is))
    ∙ numbered-append name k 0 (take i assignments) (a ∷ [])
    ∙ ap (λ (n : ℕ). places_in name k (take i assignments) ++ numbered name k n (a ∷ [])) (omega (arith, length-take-le i assignments (omega (arith, l))))
    ∙ ap (λ (ps : List Place). places_in name k (take i assignments) ++ ps) (one name k i a)

standing-append : (name : List ℕ) (n : ℕ) (xs ys : List Kernel) → standing name n (xs ++ ys) ≡ standing name n xs ++ standing name (n + length xs) ys
standing-append name n xs ys =
    ap (λ (l : List (ℕ × Kernel)). flat_map (λ k. places_in name k.0 k.1.assignments) l) (enumerate-append n xs ys)
    ∙ flat_map-append (λ (k : ℕ × Kernel). places_in name k.0 k.1.assignments) (enumerate_from n xs) (enumerate_from (n + length xs) ys)

-- one more kernel
pub loaded-more : (name : List ℕ) (kernels : List Kernel) (k : Kernel)
    → loaded_places name (kernels ++ k ∷ []) ≡ loaded_places name kernels ++ places_in name (length kernels) k.assignments
loaded-more name kernels k =
    standing-append name 0 kernels (k ∷ [])
    ∙ ap (λ (ps : List Place). loaded_places name kernels ++ ps)
    (append-nil (places_in name (0 + length kernels) k.assignments) ∙ ap (λ (n : ℕ). places_in name n k.assignments) (omega arith))

pub without-append : (k : ℕ) (xs ys : List Place) → without k (xs ++ ys) ≡ without k xs ++ without k ys
without-append k xs ys = ap (map (lowered k)) (filter-append (is_elsewhere k) xs ys) ∙ map-append (lowered k) (filter (is_elsewhere k) xs) (filter (is_elsewhere k) ys)

drops : (k : ℕ) (p : Place) (ps : List Place) → p.kernel ≡ k → without k (p ∷ ps) ≡ without k ps
drops k p ps e =
    ap (λ (b : Bool). map (lowered k) (cond (not b) (p ∷ filter (is_elsewhere k) ps) (filter (is_elsewhere k) ps))) (eq-eqb p.kernel k e)

keeps : (k : ℕ) (p : Place) (ps : List Place) → (p.kernel ≡ k → ⊥) → without k (p ∷ ps) ≡ lowered k p ∷ without k ps
keeps k p ps e =
    ap (λ (b : Bool). map (lowered k) (cond (not b) (p ∷ filter (is_elsewhere k) ps) (filter (is_elsewhere k) ps))) (ne_eqb p.kernel k e)

-- an assignment at the head of a kernel's has a place or none
numbered-head : (P : List Place → Type 0) (name : List ℕ) (k n : ℕ) (a : Assignment) (more : List Assignment)
    → P (placed k (n, a) ∷ numbered name k (n + 1) more) → P (numbered name k (n + 1) more) → P (numbered name k n (a ∷ more))
numbered-head P name k n a more here none = by (is_of name a)
  where
    by : (b : Bool) → P (map (placed k) (cond b ((n, a) ∷ filter (λ a. is_of name a.1) (enumerate_from (n + 1) more)) (filter (λ a. is_of name a.1) (enumerate_from (n + 1) more))))
    by true = here
    by false = none

-- the kernel's own places go
own : (name : List ℕ) (k n : ℕ) (assignments : List Assignment) → without k (numbered name k n assignments) ≡ []
own name k n [] = refl
own name k n (a ∷ more) = numbered-head (λ ps. without k ps ≡ []) name k n a more
    (drops k (placed k (n, a)) (numbered name k (n + 1) more) refl ∙ own name k (n + 1) more)
    (own name k (n + 1) more)

-- those of earlier kernels stay
stays : (name : List ℕ) (k m n : ℕ) (assignments : List Assignment) → m < k → without k (numbered name m n assignments) ≡ numbered name m n assignments
stays name k m n [] l = refl
stays name k m n (a ∷ more) l = numbered-head (λ ps. without k ps ≡ ps) name m n a more
    (keeps k (placed m (n, a)) (numbered name m (n + 1) more) (λ e. absurd (omega (arith, e, l)))
    ∙ ap (λ (ps : List Place). lowered k (placed m (n, a)) ∷ ps) (stays name k m (n + 1) more l)
    ∙ ap (λ (p : Place). p ∷ numbered name m (n + 1) more) same)
    (stays name k m (n + 1) more l)
  where
    same : lowered k (placed m (n, a)) ≡ placed m (n, a)
    same = ap (λ (b : Bool). cond b (placed m (n, a)) (record { kernel = m - 1; assignment = n })) (le-leb m k (omega (arith, l)))

-- those of later kernels are lowered
lowers : (name : List ℕ) (k m n : ℕ) (assignments : List Assignment) → k ≤ m → without k (numbered name (m + 1) n assignments) ≡ numbered name m n assignments
lowers name k m n [] l = refl
lowers name k m n (a ∷ more) l = by (lowers name k m (n + 1) more l) (is_of name a)
  where
    rest : List (ℕ × Assignment)
    rest = filter (λ a. is_of name a.1) (enumerate_from (n + 1) more)

    lower : lowered k (placed (m + 1) (n, a)) ≡ placed m (n, a)
    lower =
        ap (λ (b : Bool). cond b (placed (m + 1) (n, a)) (record { kernel = m + 1 - 1; assignment = n })) (lt-leb (m + 1) k (omega (arith, l)))
        ∙ ap (λ (i : ℕ). placed i (n, a)) (omega arith)

    by : without k (numbered name (m + 1) (n + 1) more) ≡ numbered name m (n + 1) more
        → (b : Bool) → without k (map (placed (m + 1)) (cond b ((n, a) ∷ rest) rest)) ≡ map (placed m) (cond b ((n, a) ∷ rest) rest)
    by later true =
        keeps k (placed (m + 1) (n, a)) (numbered name (m + 1) (n + 1) more) (λ e. absurd (omega (arith, e, l)))
        ∙ ap (λ (ps : List Place). lowered k (placed (m + 1) (n, a)) ∷ ps) later
        ∙ ap (λ (p : Place). p ∷ numbered name m (n + 1) more) lower
    by later false = later

-- what is added of kernel k goes again with it
pub without-added : (name : List ℕ) (k : ℕ) (before : List Place) (assignments : List Assignment) → without k (before ++ places_in name k assignments) ≡ without k before
without-added name k before assignments =
    without-append k before (places_in name k assignments)
    ∙ ap (λ (ps : List Place). without k before ++ ps) (own name k 0 assignments)
    ∙ append-nil (without k before)

behind : (name : List ℕ) (k m : ℕ) (kernels : List Kernel) → k ≤ m → without k (standing name (m + 1) kernels) ≡ standing name m kernels
behind name k m [] l = refl
behind name k m (x ∷ more) l =
    without-append k (places_in name (m + 1) x.assignments) (standing name (m + 1 + 1) more)
    ∙ ap (λ (ps : List Place). ps ++ without k (standing name (m + 1 + 1) more)) (lowers name k m 0 x.assignments l)
    ∙ ap (λ (ps : List Place). places_in name m x.assignments ++ ps) (behind name k (m + 1) more (omega (arith, l)))

gone : (name : List ℕ) (k n : ℕ) (kernels : List Kernel) (j : ℕ) → k ≡ n + j → without k (standing name n kernels) ≡ standing name n (remove kernels j)
gone name k n [] zero e = refl
gone name k n [] (suc j) e = refl
gone name k n (x ∷ more) zero e =
    without-append k (places_in name n x.assignments) (standing name (n + 1) more)
    ∙ ap (λ (ps : List Place). ps ++ without k (standing name (n + 1) more))
    (ap (λ (m : ℕ). without k (places_in name m x.assignments)) (omega (arith, e)) ∙ own name k 0 x.assignments)
    ∙ behind name k n more (omega (arith, e))
gone name k n (x ∷ more) (suc j) e =
    without-append k (places_in name n x.assignments) (standing name (n + 1) more)
    ∙ ap (λ (ps : List Place). ps ++ without k (standing name (n + 1) more)) (stays name k n 0 x.assignments (omega (arith, e)))
    ∙ ap (λ (ps : List Place). places_in name n x.assignments ++ ps) (gone name k (n + 1) more j (omega (arith, e)))

-- a kernel is unloaded
pub unloaded : (name : List ℕ) (kernels : List Kernel) (k : ℕ) → without k (loaded_places name kernels) ≡ loaded_places name (remove kernels k)
unloaded name kernels k = gone name k 0 kernels k (omega arith)

-- no kernel has the number that comes next
pub none-next : (name : List ℕ) (kernels : List Kernel) → without (length kernels) (loaded_places name kernels) ≡ loaded_places name kernels
none-next name kernels =
    unloaded name kernels (length kernels)
    ∙ ap (loaded_places name)
    (ap (λ (ks : List Kernel). take (length kernels) kernels ++ ks) (drop_all (suc (length kernels)) kernels (omega arith))
    ∙ append-nil (take (length kernels) kernels)
    ∙ take_all (length kernels) kernels (omega arith))
