-- Facts on lists that many steps share.
use Rattle.std.proofs.Common.{◌≡◌, ℕ, zero, suc, Bool, true, false, ◌&&◌, ◌||◌, cond, List, [], ◌∷◌, ◌++◌, map, length, filter, get_or, Some, refl, ap, ◌∙◌, sym}
use Rattle.std.specs.List.{All, list_any, slice_get}
use Rattle.std.proofs.lemmas.List.Elements.{All-head, All-tail, All-nil, All-cons, All-filter, filter_passes}

-- what holds of what each element is mapped to
pub all_unmap : {X Y : Type 0} (P : Y → Type 0) (f : X → Y) (xs : List X) → All P (map f xs) → All (λ x. P (f x)) xs
all_unmap P f [] all = All-nil (λ x. P (f x))
all_unmap P f (x ∷ xs) all =
    All-cons (λ x. P (f x)) x xs (All-head P (f x) (map f xs) all) (all_unmap P f xs (All-tail P (f x) (map f xs) all))

-- what holds of all of two lists holds of each
pub split_front : {X : Type 0} (P : X → Type 0) (xs ys : List X) → All P (xs ++ ys) → All P xs
split_front P [] ys all = All-nil P
split_front P (x ∷ xs) ys all =
    All-cons P x xs (All-head P x (xs ++ ys) all) (split_front P xs ys (All-tail P x (xs ++ ys) all))

pub split_back : {X : Type 0} (P : X → Type 0) (xs ys : List X) → All P (xs ++ ys) → All P ys
split_back P [] ys all = all
split_back P (x ∷ xs) ys all = split_back P xs ys (All-tail P x (xs ++ ys) all)

-- what a filter keeps has what held before and the test
pub all_kept : {X : Type 0} (p : X → Bool) (P Q : X → Type 0) → ((x : X) → p x ≡ true → P x → Q x) → (xs : List X)
    → All P xs → All Q (filter p xs)
all_kept p P Q both xs all k d within =
    both (get_or (filter p xs) k d) (filter_passes p xs k d within) (All-filter p P xs all k d within)

-- the element after others
pub get_pushed : {X : Type 0} (xs : List X) (x : X) → slice_get (xs ++ x ∷ []) (length xs) ≡ Some x
get_pushed [] x = refl
get_pushed (y ∷ xs) x = get_pushed xs x

-- an element stays where others come after
pub get_stays : {X : Type 0} (xs ys : List X) (i : ℕ) (x : X) → slice_get xs i ≡ Some x → slice_get (xs ++ ys) i ≡ Some x
get_stays [] ys i x here = cc
get_stays (y ∷ xs) ys zero x here = here
get_stays (y ∷ xs) ys (suc i) x here = get_stays xs ys i x here

-- a filter that keeps all, or nothing
pub filter_keeps : {X : Type 0} (p : X → Bool) (xs : List X) → All (λ x. p x ≡ true) xs → filter p xs ≡ xs
filter_keeps p [] all = refl
filter_keeps p (x ∷ xs) all =
    ap (λ b. cond b (x ∷ filter p xs) (filter p xs)) (All-head (λ x. p x ≡ true) x xs all)
    ∙ ap (λ rest. x ∷ rest) (filter_keeps p xs (All-tail (λ x. p x ≡ true) x xs all))

pub filter_drops : {X : Type 0} (p : X → Bool) (xs : List X) → All (λ x. p x ≡ false) xs → filter p xs ≡ []
filter_drops p [] all = refl
filter_drops p (x ∷ xs) all =
    ap (λ b. cond b (x ∷ filter p xs) (filter p xs)) (All-head (λ x. p x ≡ false) x xs all)
    ∙ filter_drops p xs (All-tail (λ x. p x ≡ false) x xs all)

map_by : {X : Type 0} (f : X → X) (b : Bool) (x : X) (xs ys : List X) → xs ≡ map f ys → cond b (f x ∷ xs) xs ≡ map f (cond b (x ∷ ys) ys)
map_by f true x xs ys rest = ap (λ l. f x ∷ l) rest
map_by f false x xs ys rest = rest

-- a map that a test does not see
pub filter_mapped : {X : Type 0} (p : X → Bool) (f : X → X) (xs : List X) → All (λ x. p (f x) ≡ p x) xs → filter p (map f xs) ≡ map f (filter p xs)
filter_mapped p f [] same = refl
filter_mapped p f (x ∷ xs) same =
    ap (λ b. cond b (f x ∷ filter p (map f xs)) (filter p (map f xs))) (All-head (λ x. p (f x) ≡ p x) x xs same)
    ∙ map_by f (p x) x (filter p (map f xs)) (filter p xs) (filter_mapped p f xs (All-tail (λ x. p (f x) ≡ p x) x xs same))

-- a map after another
pub map_after : {X Y : Type 0} (f : Y → Y) (g h : X → Y) (xs : List X) → All (λ x. f (g x) ≡ h x) xs → map f (map g xs) ≡ map h xs
map_after f g h [] all = refl
map_after f g h (x ∷ xs) all =
    let here = All-head (λ x. f (g x) ≡ h x) x xs all in
    let rest = map_after f g h xs (All-tail (λ x. f (g x) ≡ h x) x xs all) in
    cc

-- two tests that agree on a list keep the same of it
pub filter_alike : {X : Type 0} (p q : X → Bool) (xs : List X) → All (λ x. p x ≡ q x) xs → filter p xs ≡ filter q xs
filter_alike p q [] same = refl
filter_alike p q (x ∷ xs) same =
    ap (λ b. cond b (x ∷ filter p xs) (filter p xs)) (All-head (λ x. p x ≡ q x) x xs same)
    ∙ ap (λ rest. cond (q x) (x ∷ rest) rest) (filter_alike p q xs (All-tail (λ x. p x ≡ q x) x xs same))

twice_by : {X : Type 0} (first second : Bool) (x : X) (once both : List X) (q : X → Bool) → q x ≡ second → filter q once ≡ both
    → filter q (cond first (x ∷ once) once) ≡ cond (first && second) (x ∷ both) both
twice_by true true x once both q is rest = rw is (ap (λ l. x ∷ l) rest)
twice_by true false x once both q is rest = rw is rest
twice_by false second x once both q is rest = rest

-- two filters are one
pub filter_twice : {X : Type 0} (p q : X → Bool) (xs : List X) → filter q (filter p xs) ≡ filter (λ x. p x && q x) xs
filter_twice p q [] = refl
filter_twice p q (x ∷ xs) = twice_by (p x) (q x) x (filter p xs) (filter (λ x. p x && q x) xs) q refl (filter_twice p q xs)

and_swap : (a b : Bool) → (a && b) ≡ (b && a)
and_swap true true = refl
and_swap true false = refl
and_swap false true = refl
and_swap false false = refl

-- filters swap
pub filter_swap : {X : Type 0} (p q : X → Bool) (xs : List X) → filter q (filter p xs) ≡ filter p (filter q xs)
filter_swap p q xs =
    filter_twice p q xs
    ∙ (filter_alike (λ x. p x && q x) (λ x. q x && p x) xs (λ k d within. and_swap (p (get_or xs k d)) (q (get_or xs k d)))
    ∙ sym (filter_twice q p xs))

pub or_off_parts : (a b : Bool) → (a || b) ≡ false → (a ≡ false) × (b ≡ false)
or_off_parts true b off = cc
or_off_parts false b off = (refl, off)

-- where no element passes, each fails
pub any_off : {X : Type 0} (p : X → Bool) (xs : List X) → list_any p xs ≡ false → All (λ x. p x ≡ false) xs
any_off p [] off = All-nil (λ x. p x ≡ false)
any_off p (x ∷ xs) off =
    let parts = or_off_parts (p x) (list_any p xs) off in
    All-cons (λ x. p x ≡ false) x xs parts.0 (any_off p xs parts.1)
