-- Lists of elements that are mapped, kept or passed by a test, and what is found in them.
use Rattle.std.proofs.Common.{◌≡◌, ℕ, zero, suc, ◌+◌, ◌<◌, ◌≤◌, Bool, true, false, cond, List, [], ◌∷◌, ◌++◌, map, filter, find, length, get_or, take, Option, Some, None, IfSome, refl, ap, ◌∙◌, sym, subst, arith, append_assoc}
use Rattle.std.specs.List.{All}
use Rattle.std.specs.Option.{option_map, option_to_list}
use Rattle.std.proofs.lemmas.List.{append-nil}
use Rattle.std.proofs.lemmas.List.Elements.{All-cons, All-head, All-nil, All-tail, filter_more}
use Rattle.hp_segs.proofs.Finds.{find_mapped}

-- a map of a map
pub map-mapped : {X Y Z : Type 0} (g : Y → Z) (f : X → Y) (xs : List X) → map g (map f xs) ≡ map (λ (x : X). g (f x)) xs
map-mapped g f [] = refl
map-mapped g f (x ∷ xs) = ap (λ rest. g (f x) ∷ rest) (map-mapped g f xs)

-- what passes of mapped elements
pub filter-mapped : {X Y : Type 0} (p : Y → Bool) (f : X → Y) (xs : List X)
    → filter p (map f xs) ≡ map f (filter (λ (x : X). p (f x)) xs)
filter-mapped p f [] = refl
filter-mapped {X} {Y} p f (x ∷ xs) = tested (p (f x)) (filter-mapped p f xs)
  where
    tested : (b : Bool) → filter p (map f xs) ≡ map f (filter (λ (x : X). p (f x)) xs)
        → cond b (f x ∷ filter p (map f xs)) (filter p (map f xs))
        ≡ map f (cond b (x ∷ filter (λ (x : X). p (f x)) xs) (filter (λ (x : X). p (f x)) xs))
    tested true rest = ap (λ (ys : List Y). f x ∷ ys) rest
    tested false rest = rest

pub length-filter_le : {X : Type 0} (p : X → Bool) (xs : List X) → length (filter p xs) ≤ length xs
length-filter_le p [] = omega arith
length-filter_le {X} p (x ∷ xs) = tested (p x) (length-filter_le p xs)
  where
    tested : (b : Bool) → length (filter p xs) ≤ length xs → length (cond b (x ∷ filter p xs) (filter p xs)) ≤ suc (length xs)
    tested true rest = omega (arith, rest)
    tested false rest = omega (arith, rest)

-- what holds of mapped elements holds after the map
pub All-unmapped : {X Y : Type 0} (P : Y → Type 0) (f : X → Y) (xs : List X) (ys : List Y) → map f xs ≡ ys → All P ys
    → All (λ (x : X). P (f x)) xs
All-unmapped {X} {Y} P f xs ys are all = each xs (subst (All P) (sym are) all)
  where
    each : (xs : List X) → All P (map f xs) → All (λ (x : X). P (f x)) xs
    each [] all = All-nil (λ (x : X). P (f x))
    each (x ∷ xs) all =
        All-cons (λ (x : X). P (f x)) x xs (All-head P (f x) (map f xs) all) (each xs (All-tail P (f x) (map f xs) all))

-- the list of what may be there
pub map-listed : {X Y : Type 0} (f : X → Y) (found : Option X) → map f (option_to_list found) ≡ option_to_list (option_map f found)
map-listed f None = refl
map-listed f (Some x) = refl

pub All-listed : {X : Type 0} (P : X → Type 0) (found : Option X) → IfSome found P → All P (option_to_list found)
All-listed P None holds = All-nil P
All-listed P (Some x) holds = All-cons P x [] holds (All-nil P)

-- what holds of all holds of the one that is found
pub All-found : {X : Type 0} (P : X → Type 0) (p : X → Bool) (xs : List X) → All P xs → All P (option_to_list (find p xs))
All-found P p [] all = All-nil P
All-found {X} P p (x ∷ xs) all = tested (p x) (All-found P p xs (All-tail P x xs all))
  where
    tested : (b : Bool) → All P (option_to_list (find p xs)) → All P (option_to_list (cond b (Some x) (find p xs)))
    tested true rest = All-cons P x [] (All-head P x xs all) (All-nil P)
    tested false rest = rest

-- what is found of mapped elements, through a reference
pub found_mapped : {X Y R : Type 0} (p : Y → Bool) (f : X → Y) (now : R → X) (xs : List X) (ys : List Y) (found : Option R)
    → map f xs ≡ ys → option_map now found ≡ find (λ (x : X). p (f x)) xs
    → option_map (λ (r : R). f (now r)) found ≡ find p ys
found_mapped {X} {Y} {R} p f now xs ys found are is =
    both found ∙ (ap (option_map f) is ∙ (sym (find_mapped p f xs) ∙ ap (find p) are))
  where
    both : (found : Option R) → option_map (λ (r : R). f (now r)) found ≡ option_map f (option_map now found)
    both None = refl
    both (Some r) = refl

-- one element further, which passes and is pushed, or does not
module _ {X : Type 0} (p : X → Bool) (xs : List X) (i : ℕ) (d : X) (front items : List X) (within : i < length xs)
    (so_far : items ≡ front ++ filter p (take i xs)) where
  pub kept_more : p (get_or xs i d) ≡ true → items ++ get_or xs i d ∷ [] ≡ front ++ filter p (take (i + 1) xs)
  kept_more passes =
      ap (λ (items : List X). items ++ get_or xs i d ∷ []) so_far
      ∙ (append_assoc front (filter p (take i xs)) (get_or xs i d ∷ [])
      ∙ ap (λ (rest : List X). front ++ rest)
      (sym (filter_more p xs i d within ∙ ap (λ (b : Bool). filter p (take i xs) ++ cond b (get_or xs i d ∷ []) []) passes)))

  pub kept_same : p (get_or xs i d) ≡ false → items ≡ front ++ filter p (take (i + 1) xs)
  kept_same fails =
      so_far
      ∙ ap (λ (rest : List X). front ++ rest)
      (sym (filter_more p xs i d within ∙ (ap (λ (b : Bool). filter p (take i xs) ++ cond b (get_or xs i d ∷ []) []) fails
      ∙ append-nil (filter p (take i xs)))))

-- the first that passes is found
pub find_first : {X : Type 0} (p : X → Bool) (xs : List X) (i : ℕ) (d : X) → i < length xs
    → ((k : ℕ) → k < i → p (get_or xs k d) ≡ false) → p (get_or xs i d) ≡ true → find p xs ≡ Some (get_or xs i d)
find_first p [] i d within before here = absurd (omega (arith, within))
find_first {X} p (x ∷ xs) zero d within before here = ap (λ (b : Bool). cond b (Some x) (find p xs)) here
find_first {X} p (x ∷ xs) (suc i) d within before here =
    ap (λ (b : Bool). cond b (Some x) (find p xs)) (before 0 (omega arith))
    ∙ find_first p xs i d (omega (arith, within)) (λ k below. before (suc k) (omega (arith, below))) here

-- nothing is found where each fails
pub find_nowhere : {X : Type 0} (p : X → Bool) (xs : List X) → All (λ (x : X). p x ≡ false) xs → find p xs ≡ None
find_nowhere p [] all = refl
find_nowhere {X} p (x ∷ xs) all =
    ap (λ (b : Bool). cond b (Some x) (find p xs)) (All-head (λ (x : X). p x ≡ false) x xs all)
    ∙ find_nowhere p xs (All-tail (λ (x : X). p x ≡ false) x xs all)
