-- Lists of indexes that have the same, and lists that are mapped or filtered.
use Rattle.std.proofs.Common.{◌≡◌, ℕ, ◌+◌, ◌<◌, ◌≤◌, Bool, true, false, cond, None, Some, List, [], ◌∷◌, ◌++◌, length, map, take, drop, suc, get_or, sym, ap, ◌∙◌, subst, refl, inl, inr, arith}
use Rattle.std.specs.Prelude.{◌==◌, count_by}
use Rattle.std.specs.List.{All, Contains, filter, insert, remove, position, position_or_len}
use Rattle.std.proofs.lemmas.Bool.{cases_lt, lt-ltb}
use Rattle.std.proofs.lemmas.Bool.Decides.{Decides-eqb, eqb_tells, nat_tests}
use Rattle.std.proofs.lemmas.List.{map-append, take-map, drop-map}
use Rattle.std.proofs.lemmas.List.Elements.{All-append, All-take, All-drop, All-head, All-tail, All-contains, All-from_get_or, Contains-append_right, Contains-get_or}
use Rattle.std.proofs.lemmas.List.Sums.{sum_by-cons, sum_by_push, sum_by-insert, sum_by-remove, get_or-le-sum_by, fails_before_first}
use Rattle.std.proofs.lemmas.List.Quantifiers.{position-Some}
use Rattle.hp_zone.specs.Places.{AreSame, TakesOut}

-- two functions that agree at each element give the same list
pub map_agree : {X Y : Type 0} (f g : X → Y) (xs : List X) → All (λ x. f x ≡ g x) xs → map f xs ≡ map g xs
map_agree f g [] agree = refl
map_agree f g (x ∷ xs) agree =
    let here : f x ≡ g x = All-head (λ y. f y ≡ g y) x xs agree in
    let rest : map f xs ≡ map g xs = map_agree f g xs (All-tail (λ y. f y ≡ g y) x xs agree) in
    cc

-- a filter keeps a list of which each element passes
pub filter_all : {X : Type 0} (p : X → Bool) (xs : List X) → All (λ x. p x ≡ true) xs → filter p xs ≡ xs
filter_all p [] all = refl
filter_all p (x ∷ xs) all =
    rw (All-head (λ y. p y ≡ true) x xs all) (ap (λ rest. x ∷ rest) (filter_all p xs (All-tail (λ y. p y ≡ true) x xs all)))

-- 1 where an index is another, and else 0
abbrev one_if : ℕ → ℕ → ℕ
one_if index other = cond (other == index) 1 0

-- an index that is counted is one of the list
contains_counted : (xs : List ℕ) (index : ℕ) → 0 < count_by (λ other. other == index) xs → Contains xs index
contains_counted [] index some = absurd (omega arith)
contains_counted (x ∷ xs) index some =
    elim (eqb_tells x index) [
      | inl same ↦
          let P : ℕ → Type 0 = λ z. Contains (x ∷ xs) z in
          subst P same.1 (Contains-get_or (x ∷ xs) 0 x (omega arith))
      | inr other ↦
          let counted : count_by (λ y. y == index) (x ∷ xs) ≡ cond (x == index) 1 0 + count_by (λ y. y == index) xs
          = sum_by-cons (one_if index) x xs in
          let none : one_if index x ≡ 0 = rw other.0 refl in
          Contains-append_right (x ∷ []) xs index (contains_counted xs index (omega (arith, counted, none, some)))
    ]

-- an index of the list is counted
counted_contained : (xs : List ℕ) (index : ℕ) → Contains xs index → 0 < count_by (λ other. other == index) xs
counted_contained xs index there =
    let least : cond (get_or xs there.0 index == index) 1 0 ≤ count_by (λ other. other == index) xs
    = get_or-le-sum_by (one_if index) xs there.0 index there.1 in
    let at : cond (index == index) 1 0 ≤ count_by (λ other. other == index) xs = rw there.2 at least in
    let one : one_if index index ≡ 1 = grind (arith, nat_tests) in
    omega (arith, one, at)

module _ (xs ys : List ℕ) (same : AreSame xs ys) where
  -- what has an index has it in the same list too
  pub contains_same : (index : ℕ) → Contains xs index → Contains ys index
  contains_same index there =
      let P : ℕ → Type 0 = λ n. 0 < n in
      contains_counted ys index (subst P (same index) (counted_contained xs index there))

-- what holds of each index of a list holds of each of the same list
pub All-same_indexes : (P : ℕ → Type 0) (xs ys : List ℕ) → AreSame xs ys → All P xs → All P ys
All-same_indexes P xs ys same all =
    All-from_get_or P ys 0 (λ i within.
    All-contains P xs (get_or ys i 0) all
    (contains_same ys xs (λ index. sym (same index)) (get_or ys i 0) (Contains-get_or ys i 0 within)))

-- a list that is mapped without an element
pub map-remove : {X Y : Type 0} (f : X → Y) (xs : List X) (i : ℕ) → map f (remove xs i) ≡ remove (map f xs) i
map-remove f xs i = map-append f (take i xs) (drop (suc i) xs) ∙ rw (take-map f i xs, drop-map f (suc i) xs) refl

-- what holds of each element holds of each without one
pub All-remove : {X : Type 0} (P : X → Type 0) (xs : List X) (i : ℕ) → All P xs → All P (remove xs i)
All-remove P xs i all = All-append P (take i xs) (drop (suc i) xs) (All-take P i xs all) (All-drop P (suc i) xs all)

-- the same lists with one index more
pub AreSame-insert : (xs ys : List ℕ) (at index : ℕ) → AreSame xs ys → AreSame (xs ++ index ∷ []) (insert ys at index)
AreSame-insert xs ys at index same other =
    sum_by_push (one_if other) xs index ∙ (ap (λ n. n + one_if other index) (same other) ∙ sym (sum_by-insert (one_if other) ys at index))

-- the same lists without an index of both
pub AreSame-remove : (xs ys : List ℕ) (i k index : ℕ) → AreSame xs ys → i < length xs → k < length ys
    → get_or xs i 0 ≡ index → get_or ys k 0 ≡ index → AreSame (remove xs i) (remove ys k)
AreSame-remove xs ys i k index same within_xs within_ys at_xs at_ys other =
    let left : count_by (λ y. y == other) (remove xs i) + cond (get_or xs i 0 == other) 1 0 ≡ count_by (λ y. y == other) xs
    = sum_by-remove (one_if other) xs i 0 within_xs in
    let right : count_by (λ y. y == other) (remove ys k) + cond (get_or ys k 0 == other) 1 0 ≡ count_by (λ y. y == other) ys
    = sum_by-remove (one_if other) ys k 0 within_ys in
    let left_is : count_by (λ y. y == other) (remove xs i) + cond (index == other) 1 0 ≡ count_by (λ y. y == other) xs = rw at_xs at left in
    let right_is : count_by (λ y. y == other) (remove ys k) + cond (index == other) 1 0 ≡ count_by (λ y. y == other) ys = rw at_ys at right in
    let both = same other in
    omega (arith, left_is, right_is, same other)

-- an index of the list is found in it
pub not_missing : (xs : List ℕ) (index : ℕ) → Contains xs index → None ≡ position (λ other. other == index) xs → ⊥
not_missing xs index there is =
    elim (cases_lt (position_or_len (λ other. other == index) xs) (length xs)) [
      | inl within ↦
          let some : None ≡ Some (position_or_len (λ other. other == index) xs)
          = rw (lt-ltb (position_or_len (λ other. other == index) xs) (length xs) within) at is in
          cc
      | inr past ↦
          let fails : (get_or xs there.0 index == index) ≡ false
          = fails_before_first (λ other. other == index) xs there.0 index (omega (arith, there.1, past)) in
          let itself : (index == index) ≡ false = rw there.2 at fails in
          grind (arith, nat_tests)
    ]

-- and is the one at its place
pub taken_out : (xs rest : List ℕ) (index at : ℕ) → Some at ≡ position (λ other. other == index) xs → rest ≡ remove xs at → TakesOut xs rest index
taken_out xs rest index at is without =
    let found = position-Some (λ other. other == index) xs at index (sym is) in
    let same : get_or xs at index ≡ index = (Decides-eqb (get_or xs at index) index).0 found.1 in
    record { at = at; within = found.0; here = same; rest = without }
