-- Lists in another order, filtered; and lists one after another, of which one changed.
use Rattle.std.proofs.Common.{◌++◌, ◌+◌, ◌<◌, ◌∙◌, ◌∷◌, ◌≡◌, ◌≢◌, ◌≤◌, Bool, List, [], ap, ap₂, arith, cond, count_by, false, filter, flat_map, get_or, inl, inr, length, not, refl, remove, set, subst, suc, swap, sym, true, zero, ℕ}
use Rattle.std.proofs.lemmas.Bool.{cases_Bool, cond-false}
use Rattle.std.proofs.lemmas.List.Elements.{filter-append}
use Rattle.std.proofs.lemmas.List.Sorted.{IsPermutation-append, IsPermutation-append_right, IsPermutation-cons, IsPermutation-keeps, IsPermutation-middle, IsPermutation-refl, IsPermutation-trans}
use Rattle.std.specs.List.Sorted.{IsPermutation}
use Rattle.std.specs.List.{range_with_len}
use mathlib.Core.Logic.{dite}
use native.Mathlib.Decide.{ℕ_discrete}
use Rattle.hp_heap.proofs.Members.{AllByRecursion-each, filter_whole, some_counted}

-- a relation holds of lists in another order where it is reflexive and transitive, and goes under a first element and over two that change places
module _ {X : Type 0} (R : List X → List X → Type 0) (same : (xs : List X) → R xs xs)
    (skip : (x : X) (xs ys : List X) → R xs ys → R (x ∷ xs) (x ∷ ys))
    (turn : (x y : X) (xs : List X) → R (x ∷ y ∷ xs) (y ∷ x ∷ xs))
    (chain : (xs ys zs : List X) → R xs ys → R ys zs → R xs zs) where
  to_head : (l : List X) (j : ℕ) (x d : X) → j < length l → R (x ∷ l) (get_or l j d ∷ set l j x)
  to_head [] j x d h = absurd (omega arith)
  to_head (y ∷ l) zero x d h = turn x y l
  to_head (y ∷ l) (suc j) x d h =
      chain _ _ _ (turn x y l) (chain _ _ _ (skip y _ _ (to_head l j x d (omega arith))) (turn y (get_or l j d) (set l j x)))

  exchanged : (l : List X) (i j : ℕ) (d : X) → i < length l → j < length l → R l (set (set l i (get_or l j d)) j (get_or l i d))
  exchanged [] i j d p q = absurd (omega arith)
  exchanged (x ∷ l) zero zero d p q = same (x ∷ l)
  exchanged (x ∷ l) zero (suc j) d p q = to_head l j x d (omega arith)
  exchanged (x ∷ l) (suc i) zero d p q = to_head l i x d (omega arith)
  exchanged (x ∷ l) (suc i) (suc j) d p q = skip x _ _ (exchanged l i j d (omega arith) (omega arith))

  swapped : (l : List X) (i j : ℕ) → i < length l → j < length l → R l (swap l i j)
  swapped [] i j p q = same []
  swapped (x ∷ l) i j p q = exchanged (x ∷ l) i j x p q

  along_permutation : (xs ys : List X) → IsPermutation xs ys → R xs ys
  along_permutation xs = IsPermutation-keeps xs (R xs) (same xs) (λ l i j p q h. chain xs l _ h (swapped l i j p q))

module _ {X : Type 0} (p : X → Bool) where
  under_by : (b : Bool) (x : X) (xs ys : List X) → IsPermutation xs ys → IsPermutation (cond b (x ∷ xs) xs) (cond b (x ∷ ys) ys)
  under_by true x xs ys same = IsPermutation-cons x xs ys same
  under_by false x xs ys same = same

  turn_by : (b c : Bool) (x y : X) (xs : List X) → IsPermutation (cond b (x ∷ cond c (y ∷ xs) xs) (cond c (y ∷ xs) xs))
      (cond c (y ∷ cond b (x ∷ xs) xs) (cond b (x ∷ xs) xs))
  turn_by true true x y xs = IsPermutation-middle (x ∷ []) y xs
  turn_by true false x y xs = IsPermutation-refl (x ∷ xs)
  turn_by false true x y xs = IsPermutation-refl (y ∷ xs)
  turn_by false false x y xs = IsPermutation-refl xs

  -- what a filter keeps of a list in another order
  pub filter_permuted : (xs ys : List X) → IsPermutation xs ys → IsPermutation (filter p xs) (filter p ys)
  filter_permuted =
      along_permutation (λ (xs ys : List X). IsPermutation (filter p xs) (filter p ys)) (λ xs. IsPermutation-refl (filter p xs))
      (λ x xs ys same. under_by (p x) x (filter p xs) (filter p ys) same) (λ x y xs. turn_by (p x) (p y) x y (filter p xs))
      (λ xs ys zs. IsPermutation-trans (filter p xs) (filter p ys) (filter p zs))

  -- where none passes, a filter for the others keeps all
  pub none_passes : (xs : List X) → count_by p xs ≡ 0 → filter (λ x. not (p x)) xs ≡ xs
  none_passes xs none =
      filter_whole (λ x. not (p x)) xs
      (AllByRecursion-each (λ x. not (p x) ≡ true) xs
      (λ x has. elim (cases_Bool (p x)) [
        | inl is ↦ (let some = some_counted p xs x is has in absurd (omega (arith, none, some)))
        | inr is ↦ ap not is
      ]))

  -- one that does not pass is missed by none
  pub left_out : (xs : List X) (i : ℕ) (d : X) → i < length xs → p (get_or xs i d) ≡ false → filter p (remove xs i) ≡ filter p xs
  left_out [] i d inside out = absurd (omega (arith, inside))
  left_out (x ∷ xs) zero d inside out = sym (cond-false (p x) (x ∷ filter p xs) (filter p xs) out)
  left_out (x ∷ xs) (suc i) d inside out = ap (λ (l : List X). cond (p x) (x ∷ l) l) (left_out xs i d (omega (arith, inside)) out)

pub same_permuted : {X : Type 0} (xs ys : List X) → xs ≡ ys → IsPermutation xs ys
same_permuted xs ys same = subst (IsPermutation xs) same (IsPermutation-refl xs)

-- lists one after another, of which one has one more
module _ {X : Type 0} (f g : ℕ → List X) (at : ℕ) (x : X) (more : IsPermutation (g at) (x ∷ f at))
    (same : (index : ℕ) → index ≢ at → g index ≡ f index) where
  past_it : (from count : ℕ) → at < from → flat_map g (range_with_len from count) ≡ flat_map f (range_with_len from count)
  past_it from zero past = refl
  past_it from (suc count) past =
      ap₂ (λ (l r : List X). l ++ r) (same from (λ here. omega (arith, here, past))) (past_it (from + 1) count (omega (arith, past)))

  pub pieces_more : (from count : ℕ) → from ≤ at → at < from + count
      → IsPermutation (flat_map g (range_with_len from count)) (x ∷ flat_map f (range_with_len from count))
  pieces_more from zero low high = absurd (omega (arith, low, high))
  pieces_more from (suc count) low high =
      let others = flat_map g (range_with_len (from + 1) count) in
      let left = flat_map f (range_with_len (from + 1) count) in
      dite (ℕ_discrete from at)
      (λ here.
      IsPermutation-append (g from) (x ∷ f from) others left
      (subst (λ (k : ℕ). IsPermutation (g k) (x ∷ f k)) (sym here) more) (same_permuted others left (past_it (from + 1) count (omega (arith, here)))))
      (λ apart.
      subst (λ (l : List X). IsPermutation (l ++ others) (x ∷ (f from ++ left))) (sym (same from apart))
      (IsPermutation-trans (f from ++ others) (f from ++ x ∷ left) (x ∷ (f from ++ left))
      (IsPermutation-append_right (f from) others (x ∷ left) (pieces_more (from + 1) count (omega (arith, low, apart)) (omega (arith, high))))
      (IsPermutation-middle (f from) x left)))

-- lists one after another, each filtered
pub pieces_filtered : {X : Type 0} (f g : ℕ → List X) (p : X → Bool) (from count : ℕ)
    → ((index : ℕ) → from ≤ index → index < from + count → g index ≡ filter p (f index))
    → flat_map g (range_with_len from count) ≡ filter p (flat_map f (range_with_len from count))
pieces_filtered f g p from zero each = refl
pieces_filtered {X} f g p from (suc count) each =
    ap₂ (λ (l r : List X). l ++ r) (each from (omega arith) (omega arith))
    (pieces_filtered f g p (from + 1) count (λ index low high. each index (omega (arith, low)) (omega (arith, high))))
    ∙ sym (filter-append p (f from) (flat_map f (range_with_len (from + 1) count)))
