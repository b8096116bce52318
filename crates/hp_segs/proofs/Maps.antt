-- Loops that change each element in turn, or those of one stretch.
use Rattle.std.proofs.Common.{◌≡◌, ◌∙◌, ℕ, ◌+◌, ◌-◌, ◌<◌, ◌≤◌, List, ◌++◌, map, length, get_or, take, drop, set, ap, sym, arith, length-append, length-take}
use Rattle.std.specs.List.{AllWithin}
use Rattle.std.proofs.lemmas.List.{get_or_default, get_or-take, get_or-drop, get_or-append_right, length-drop, length-map, map-append, take-append-drop}
use Rattle.std.proofs.lemmas.List.Edits.{map_over_more}
use Rattle.std.proofs.lemmas.List.Folds.{map_fixed}

module _ {X : Type 0} (f : X → X) where
  -- one element more is changed
  pub map_over_step : (xs ys : List X) (i : ℕ) (d y : X) → i < length xs → i < length ys
      → ys ≡ map f (take i xs) ++ drop i xs → y ≡ f (get_or ys i d)
      → set ys i y ≡ map f (take (i + 1) xs) ++ drop (i + 1) xs
  map_over_step xs ys i d y within inside so_far is =
      rw is (map_over_more f xs ys i (get_or ys i d) within so_far (get_or_default ys i d (get_or ys i d) inside))

  -- there are as many elements as before
  pub length_over : (xs ys : List X) (i : ℕ) → ys ≡ map f (take i xs) ++ drop i xs → length ys ≡ length xs
  length_over xs ys i so_far =
      omega (
        arith,
        ap length so_far,
        length-append (map f (take i xs)) (drop i xs),
        length-map (take i xs) f,
        ap length (take-append-drop i xs),
        length-append (take i xs) (drop i xs),
      )

  -- the next element is still what it was
  pub map_over_next : (xs ys : List X) (i : ℕ) (d : X) → i < length xs → ys ≡ map f (take i xs) ++ drop i xs
      → get_or ys i d ≡ get_or xs i d
  map_over_next xs ys i d within so_far =
      let long : length (map f (take i xs)) ≡ i = omega (arith, length-map (take i xs) f, length-take i xs) in
      let none : i + (i - i) ≡ i = omega arith in
      ap (λ l. get_or l i d) so_far
      ∙ (get_or-append_right (map f (take i xs)) (drop i xs) i i d long (omega arith)
      ∙ (get_or-drop i xs (i - i) d ∙ ap (λ k. get_or xs k d) none))

  -- elements at the front that stay need no change
  pub map_over_front : (xs : List X) (i : ℕ) → i ≤ length xs → AllWithin (λ x. f x ≡ x) xs 0 i → xs ≡ map f (take i xs) ++ drop i xs
  map_over_front xs i within stay =
      let front : map f (take i xs) ≡ take i xs =
      map_fixed f (take i xs)
      (λ k d inside.
      let below : k < i = omega (arith, length-take i xs) in
      rw (get_or-take i xs k d below) (stay k d (omega arith) below)) in
      sym (ap (λ l. l ++ drop i xs) front ∙ take-append-drop i xs)

  -- nor do elements at the back
  pub map_over_back : (xs ys : List X) (i : ℕ) → ys ≡ map f (take i xs) ++ drop i xs → AllWithin (λ x. f x ≡ x) xs i (length xs)
      → ys ≡ map f xs
  map_over_back xs ys i so_far stay =
      let back : map f (drop i xs) ≡ drop i xs =
      map_fixed f (drop i xs)
      (λ k d inside.
      let below : i + k < length xs = omega (arith, length-drop i xs) in
      rw (get_or-drop i xs k d) (stay (i + k) d (omega arith) below)) in
      so_far ∙ (ap (λ l. map f (take i xs) ++ l) (sym back) ∙ (sym (map-append f (take i xs) (drop i xs)) ∙ ap (map f) (take-append-drop i xs)))
