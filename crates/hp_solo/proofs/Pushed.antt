-- A list with one element more after the others, and one whose elements go from its front.
use Rattle.std.proofs.Common.{◌≡◌, ℕ, zero, suc, ◌+◌, ◌<◌, List, [], ◌∷◌, ◌++◌, drop, get_or, length, Some, refl, ap, sym, subst, ◌∙◌, add-one, arith}
use Rattle.std.specs.List.{slice_get}
use Rattle.std.proofs.lemmas.Option.{same_Some}

-- what holds of each element holds with one more after them
pub each_pushed : {X : Type 0} (P : ℕ → X → Type 0) (xs : List X) (x : X) → ((i : ℕ) (y : X) → slice_get xs i ≡ Some y → P i y) → P (length xs) x
    → (i : ℕ) (y : X) → slice_get (xs ++ x ∷ []) i ≡ Some y → P i y
each_pushed P [] x so_far here zero y is = subst (P zero) (same_Some x y is) here
each_pushed P [] x so_far here (suc i) y is = cc
each_pushed P (first ∷ xs) x so_far here zero y is = so_far zero y is
each_pushed P (first ∷ xs) x so_far here (suc i) y is = each_pushed (λ n. P (suc n)) xs x (λ n. so_far (suc n)) here i y is

-- the first of those that are left stands at the place to which they have gone
pub first_left : {X : Type 0} (xs rest : List X) (place : ℕ) (x : X) → place < length xs → rest ≡ drop place xs → x ≡ get_or rest 0 x
    → slice_get xs place ≡ Some x
first_left [] rest place x within left is = absurd (omega arith)
first_left (y ∷ xs) rest zero x within left is =
    let same : x ≡ y = is ∙ ap (λ (rest : _). get_or rest 0 x) left in
    ap Some (sym same)
first_left (y ∷ xs) rest (suc place) x within left is = first_left xs rest place x (omega arith) left is

one_dropped : {X : Type 0} (xs : List X) (place : ℕ) → drop 1 (drop place xs) ≡ drop (suc place) xs
one_dropped [] zero = refl
one_dropped [] (suc place) = refl
one_dropped (x ∷ xs) zero = refl
one_dropped (x ∷ xs) (suc place) = one_dropped xs place

pub one_less : {X : Type 0} (xs : List X) (place : ℕ) → drop 1 (drop place xs) ≡ drop (place + 1) xs
one_less xs place = one_dropped xs place ∙ ap (λ (n : ℕ). drop n xs) (sym (add-one place))
