-- Counts over lists.
use Rattle.std.proofs.Common.{◌≡◌, ◌+◌, ◌≤◌, Bool, true, false, not, ◌&&◌, cond, List, [], ◌∷◌, ◌++◌, filter, refl, sym, ◌∙◌, ap, arith, count_by}
use Rattle.std.specs.List.{list_any, All}
use Rattle.std.proofs.lemmas.List.Sums.{sum_by-append, sum_by-cons}
use Rattle.std.proofs.lemmas.List.Elements.{All-head, All-tail}
use Rattle.std.proofs.lemmas.Bool.{cases_Bool, cond-true, cond-false}
use Rattle.std.proofs.Common.{inl, inr}

module _ {X : Type 0} (p : X → Bool) where
  pub count_append : (xs ys : List X) → count_by p (xs ++ ys) ≡ count_by p xs + count_by p ys
  count_append xs ys = sum_by-append (λ x. cond (p x) 1 0) xs ys

  pub count_cons : (x : X) (xs : List X) → count_by p (x ∷ xs) ≡ cond (p x) 1 0 + count_by p xs
  count_cons x xs = sum_by-cons (λ x. cond (p x) 1 0) x xs

  -- where nothing passes nothing is counted
  pub count_none : (xs : List X) → All (λ x. p x ≡ false) xs → count_by p xs ≡ 0
  count_none [] none = refl
  count_none (x ∷ xs) none =
      let fails = All-head (λ x. p x ≡ false) x xs none in
      let rest = count_none xs (All-tail (λ x. p x ≡ false) x xs none) in
      count_cons x xs ∙ rw (fails, rest) refl

  -- something passes exactly where something is counted
  pub any_counts : (xs : List X) → list_any p xs ≡ true → 1 ≤ count_by p xs
  any_counts [] any = cc
  any_counts (x ∷ xs) any =
      elim (cases_Bool (p x)) [
        | inl passes ↦ rw (count_cons x xs, passes) (omega arith)
        | inr fails ↦
            let rest : list_any p xs ≡ true = rw fails at any in
            rw (count_cons x xs, fails) (omega (arith, any_counts xs rest))
      ]

  pub none_counts : (xs : List X) → list_any p xs ≡ false → count_by p xs ≡ 0
  none_counts [] any = refl
  none_counts (x ∷ xs) any =
      elim (cases_Bool (p x)) [
        | inl passes ↦ let wrong : true ≡ false = rw passes at any in cc
        | inr fails ↦
            let rest : list_any p xs ≡ false = rw fails at any in
            rw (count_cons x xs, fails) (omega (arith, none_counts xs rest))
      ]

-- two tests that agree on a list count alike
pub count_agree : {X : Type 0} (p q : X → Bool) (xs : List X) → All (λ x. p x ≡ q x) xs → count_by p xs ≡ count_by q xs
count_agree p q [] same = refl
count_agree p q (x ∷ xs) same =
    let here = All-head (λ x. p x ≡ q x) x xs same in
    let rest = count_agree p q xs (All-tail (λ x. p x ≡ q x) x xs same) in
    count_cons p x xs ∙ (rw (here, rest) refl ∙ sym (count_cons q x xs))

-- what a filter leaves of a count: those that pass both
pub count_filter : {X : Type 0} (p q : X → Bool) (xs : List X) → count_by p (filter q xs) ≡ count_by (λ x. q x && p x) xs
count_filter p q [] = refl
count_filter p q (x ∷ xs) =
    elim (cases_Bool (q x)) [
      | inl passes ↦
          let kept : filter q (x ∷ xs) ≡ x ∷ filter q xs = cond-true (q x) _ _ passes in
          let both : (q x && p x) ≡ p x = ap (λ b. b && p x) passes in
          ap (count_by p) kept ∙ (count_cons p x (filter q xs)
          ∙ (ap (λ n. cond (p x) 1 0 + n) (count_filter p q xs)
          ∙ (ap (λ b. cond b 1 0 + count_by (λ x. q x && p x) xs) (sym both)
          ∙ sym (count_cons (λ x. q x && p x) x xs))))
      | inr fails ↦
          let kept : filter q (x ∷ xs) ≡ filter q xs = cond-false (q x) _ _ fails in
          let both : (q x && p x) ≡ false = ap (λ b. b && p x) fails in
          let zero_more : 0 + count_by (λ x. q x && p x) xs ≡ count_by (λ x. q x && p x) xs = omega arith in
          ap (count_by p) kept ∙ (count_filter p q xs
          ∙ (sym zero_more
          ∙ (ap (λ b. cond b 1 0 + count_by (λ x. q x && p x) xs) (sym both)
          ∙ sym (count_cons (λ x. q x && p x) x xs))))
    ]

head_splits : (q p : Bool) → cond p 1 0 ≡ cond (q && p) 1 0 + cond (not q && p) 1 0
head_splits true true = refl
head_splits true false = refl
head_splits false true = refl
head_splits false false = refl

split_both : {X : Type 0} (p q : X → Bool) (xs : List X)
    → count_by p xs ≡ count_by (λ x. q x && p x) xs + count_by (λ x. not (q x) && p x) xs
split_both p q [] = refl
split_both p q (x ∷ xs) =
    let rest = split_both p q xs in
    let head = head_splits (q x) (p x) in
    omega (arith, rest, head, count_cons p x xs, count_cons (λ x. q x && p x) x xs, count_cons (λ x. not (q x) && p x) x xs)

-- what passes is either kept or not
pub count_split : {X : Type 0} (p q : X → Bool) (xs : List X)
    → count_by p xs ≡ count_by p (filter q xs) + count_by (λ x. not (q x) && p x) xs
count_split p q xs = omega (arith, count_filter p q xs, split_both p q xs)
