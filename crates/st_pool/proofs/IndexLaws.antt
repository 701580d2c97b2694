-- What the index has for a name, after a write.
use Rattle.std.proofs.Common.{inl, inr, ◌≡◌, ℕ, zero, suc, length, get_or, map, set, Bool, true, false, bytes_eq, cond, Option, None, Some, slice_get, List, [], ◌∷◌, Result, Ok, Err, OnErr, refl, sym, ap, ◌∙◌}
use Rattle.std.specs.Global.{Vec}
use Rattle.std.specs.HashMap.{HashMap}
use Rattle.std.specs.Map.{lookup, set_value, values_of}
use Rattle.std.specs.Option.{option_map_or}
use Rattle.std.proofs.lemmas.Slice.Eq.{bytes_eq-Decides}
use Rattle.std.proofs.lemmas.Bool.{false_from_ne_true, cases_Bool, cond-true, cond-false}
use Rattle.indexmap.specs.IndexMap.{insert_entry, set_value_at}
use Rattle.st_pool.specs.declared.place.Place.{Place}
use Rattle.st_pool.specs.IndexMachine.{kept_places, without}

-- a key of the bytes
abbrev has : List ℕ → Vec ℕ → Bool
has bs k = bytes_eq bs k.items

abbrev same : Vec ℕ → Vec ℕ → Bool
same x y = bytes_eq x.items y.items

apart : (bs q k : List ℕ) → bytes_eq bs q ≡ false → bytes_eq bs k ≡ true → bytes_eq q k ≡ false
apart bs q k ne h =
    false_from_ne_true _ (λ e. absurd (cc (ne, (bytes_eq-Decides bs q).1 ((bytes_eq-Decides bs k).0 h ∙ sym ((bytes_eq-Decides q k).0 e)))))

pub set-others : {X : Type 0} (bs q : List ℕ) (w : X) (es : List (Vec ℕ × X)) → bytes_eq bs q ≡ false
    → lookup (has q) (set_value (has bs) es w) ≡ lookup (has q) es
set-others bs q w [] ne = refl
set-others bs q w (e ∷ es) ne = elim (cases_Bool (has bs e.0)) [
  | inl y ↦ ap (lookup (has q)) (cond-true (has bs e.0) ((e.0, w) ∷ es) (e ∷ set_value (has bs) es w) y)
      ∙ cond-false (has q e.0) (Some w) (lookup (has q) es) (apart bs q e.0.items ne y)
      ∙ sym (cond-false (has q e.0) (Some e.1) (lookup (has q) es) (apart bs q e.0.items ne y))
  | inr n ↦ ap (lookup (has q)) (cond-false (has bs e.0) ((e.0, w) ∷ es) (e ∷ set_value (has bs) es w) n)
      ∙ ap (cond (has q e.0) (Some e.1)) (set-others bs q w es ne)
]

pub insert-others : {X : Type 0} (k : Vec ℕ) (q : List ℕ) (w : X) (es : List (Vec ℕ × X)) → bytes_eq k.items q ≡ false
    → lookup (has q) (insert_entry same es k w) ≡ lookup (has q) es
insert-others k q w [] ne = cond-false (has q k) (Some w) None (apart k.items q k.items ne ((bytes_eq-Decides k.items k.items).1 refl))
insert-others k q w (e ∷ es) ne = elim (cases_Bool (same k e.0)) [
  | inl y ↦ ap (lookup (has q)) (cond-true (same k e.0) ((e.0, w) ∷ es) (e ∷ insert_entry same es k w) y)
      ∙ cond-false (has q e.0) (Some w) (lookup (has q) es) (apart k.items q e.0.items ne y)
      ∙ sym (cond-false (has q e.0) (Some e.1) (lookup (has q) es) (apart k.items q e.0.items ne y))
  | inr n ↦ ap (lookup (has q)) (cond-false (same k e.0) ((e.0, w) ∷ es) (e ∷ insert_entry same es k w) n)
      ∙ ap (cond (has q e.0) (Some e.1)) (insert-others k q w es ne)
]

-- a name with its places
abbrev pub Row : Type 0
Row = List ℕ × List Place

abbrev pub rows : List (Vec ℕ × Vec Place) → List Row
rows es = map (λ e. (e.0.items, e.1.items)) es

pub length-rows : (es : List (Vec ℕ × Vec Place)) → length (rows es) ≡ length es
length-rows [] = refl
length-rows (e ∷ es) = ap suc (length-rows es)

-- a row once kernel k is unloaded
abbrev pub left : ℕ → Row → Row
left k row = (row.0, without k row.1)

-- the places of a name in rows
places_by : List ℕ → List Row → List Place
places_by name [] = []
places_by name (r ∷ more) = cond (bytes_eq name r.0) r.1 (places_by name more)

by-rows : (name : List ℕ) (es : List (Vec ℕ × Vec Place)) → option_map_or (λ v. v.items) (lookup (has name) es) [] ≡ places_by name (rows es)
unfolding places_by
by-rows name [] = refl
by-rows name (e ∷ es) = by (has name e.0) (by-rows name es)
  where
    by : (b : Bool) → option_map_or (λ v. v.items) (lookup (has name) es) [] ≡ places_by name (rows es)
        → option_map_or (λ v. v.items) (cond b (Some e.1) (lookup (has name) es)) [] ≡ cond b e.1.items (places_by name (rows es))
    by true h = refl
    by false h = h

by-left : (name : List ℕ) (k : ℕ) (rs : List Row) → places_by name (map (left k) rs) ≡ without k (places_by name rs)
unfolding places_by
by-left name k [] = refl
by-left name k (r ∷ more) = by (bytes_eq name r.0) (by-left name k more)
  where
    by : (b : Bool) → places_by name (map (left k) more) ≡ without k (places_by name more)
        → cond b (without k r.1) (places_by name (map (left k) more)) ≡ without k (cond b r.1 (places_by name more))
    by true h = refl
    by false h = h

-- all rows are gone over: each name has what is left
pub all-left : {S : Type 0} (name : List ℕ) (k : ℕ) (old new : HashMap (Vec ℕ) (Vec Place) S)
    → rows new.entries ≡ map (left k) (rows old.entries) → kept_places name new ≡ without k (kept_places name old)
all-left name k old new e =
    by-rows name new.entries ∙ ap (places_by name) e ∙ by-left name k (rows old.entries) ∙ ap (without k) (sym (by-rows name old.entries))

-- a value is written by its position
pub rows-set : (es : List (Vec ℕ × Vec Place)) (i : ℕ) (w : Vec Place) (v : Vec Place) (k : ℕ) → slice_get (values_of es) i ≡ Some v → w.items ≡ without k v.items
    → rows (set_value_at es i w) ≡ set (rows es) i (left k (get_or (rows es) i ([], [])))
rows-set [] i w v k h e = absurd (cc h)
rows-set (x ∷ es) zero w v k h e = ap (λ (ps : List Place). (x.0.items, ps) ∷ rows es) (e ∙ ap (λ (o : Option (Vec Place)). option_map_or (λ u. without k u.items) o []) (sym h))
rows-set (x ∷ es) (suc i) w v k h e = ap (λ (l : List Row). (x.0.items, x.1.items) ∷ l) (rows-set es i w v k h e)

pub get_or-own : {X : Type 0} (xs : List X) (i : ℕ) (d : X) → get_or xs i d ≡ get_or xs i (get_or xs i d)
get_or-own [] i d = refl
get_or-own (x ∷ xs) zero d = refl
get_or-own (x ∷ xs) (suc i) d = get_or-own xs i d

pub on-err : {A E P : Type 0} (r : Result A E) → P → OnErr r P
on-err (Ok x) p = tt
on-err (Err e) p = p
