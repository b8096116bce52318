-- Lists that are picked by number out of others, and that two lists with rising keys and the same members are one.
use Rattle.std.proofs.Common.{◌≡◌, ◌∙◌, ℕ, zero, suc, ◌+◌, ◌<◌, List, [], ◌∷◌, ◌++◌, Option, Some, None, Contains, slice_get, refl, ap, sym, subst, arith, inl, inr}
use Rattle.std.specs.Prelude.{⊤}
use Rattle.std.specs.List.{AllByRecursion}
use Rattle.std.specs.Option.{option_to_list}
use Rattle.hp_heap.proofs.AllocFacts.ChoiceLaw.{AllByRecursion-contains, Contains-cases, Contains-here, Contains-none, Contains-there}
use Rattle.hp_heap.proofs.Members.{AllByRecursion-each}

-- the keys rise along pairs
abbrev pub IsRising : {Y : Type 0} → List (ℕ × Y) → Type 0
IsRising [] = ⊤
IsRising (pair ∷ pairs) = AllByRecursion (λ other. pair.0 < other.0) pairs × IsRising pairs

module _ {Y : Type 0} where
  later : (pair other : ℕ × Y) (pairs : List (ℕ × Y)) → AllByRecursion (λ other. pair.0 < other.0) pairs → Contains pairs other
      → pair.0 < other.0
  later pair other pairs all among = AllByRecursion-contains (λ other. pair.0 < other.0) pairs other all among

  -- the first ones are one, since each other would stand after it
  first_same : (x y : ℕ × Y) (xs ys : List (ℕ × Y)) → IsRising (x ∷ xs) → IsRising (y ∷ ys) → Contains (y ∷ ys) x → Contains (x ∷ xs) y
      → x ≡ y
  first_same x y xs ys rising_x rising_y x_among y_among = elim (Contains-cases y x ys x_among) [
    | inl is ↦ sym is
    | inr x_behind ↦ elim (Contains-cases x y xs y_among) [
      | inl is ↦ is
      | inr y_behind ↦ absurd (omega (arith, later y x ys rising_y.0 x_behind, later x y xs rising_x.0 y_behind))
    ]
  ]

  -- a member of the rest is one of the other list's rest
  rest_among : (x y z : ℕ × Y) (xs ys : List (ℕ × Y)) → x ≡ y → IsRising (x ∷ xs) → Contains xs z → Contains (y ∷ ys) z → Contains ys z
  rest_among x y z xs ys same rising among other = elim (Contains-cases y z ys other) [
    | inl is ↦ (let one : x ≡ z = same ∙ is in absurd (omega (arith, later x z xs rising.0 among, ap (λ (pair : ℕ × Y). pair.0) one)))
    | inr behind ↦ behind
  ]

  -- rising pairs with the same members are the same pairs
  pub same_rising : (xs ys : List (ℕ × Y)) → IsRising xs → IsRising ys → ((z : ℕ × Y) → Contains xs z → Contains ys z)
      → ((z : ℕ × Y) → Contains ys z → Contains xs z) → xs ≡ ys
  same_rising [] [] rising_x rising_y there back = refl
  same_rising [] (y ∷ ys) rising_x rising_y there back = absurd (Contains-none y (back y (Contains-here y ys)))
  same_rising (x ∷ xs) [] rising_x rising_y there back = absurd (Contains-none x (there x (Contains-here x xs)))
  same_rising (x ∷ xs) (y ∷ ys) rising_x rising_y there back =
      let same = first_same x y xs ys rising_x rising_y (there x (Contains-here x xs)) (back y (Contains-here y ys)) in
      let rest = same_rising xs ys rising_x.1 rising_y.1
      (λ z among. rest_among x y z xs ys same rising_x among (there z (Contains-there x z xs among)))
      (λ z among. rest_among y x z ys xs (sym same) rising_y among (back z (Contains-there y z ys among))) in
      cc

-- what a rule picks out of elements that are numbered on from a number
abbrev pub picked : {X Y : Type 0} → (ℕ → X → Option Y) → ℕ → List X → List Y
picked pick number [] = []
picked pick number (x ∷ xs) = option_to_list (pick number x) ++ picked pick (number + 1) xs

-- the element at a place was picked, as that
pub record IsPickedAt {X Y : Type 0} (pick : ℕ → X → Option Y) (number : ℕ) (xs : List X) (y : Y) : Type 0 where
  pub place : ℕ
  pub element : X
  pub there : slice_get xs place ≡ Some element
  pub picks : pick (number + place) element ≡ Some y

module _ {X Y : Type 0} (pick : ℕ → X → Option Y) (number : ℕ) (x : X) (xs : List X) (y : Y) where
  -- what is picked of the rest is picked at a place of it
  picked_behind : IsPickedAt pick (number + 1) xs y → IsPickedAt pick number (x ∷ xs) y
  picked_behind rest =
      let same : number + 1 + rest.place ≡ number + suc rest.place = omega arith in
      record {
        place = suc rest.place;
        element = rest.element;
        there = rest.there;
        picks = ap (λ n. pick n rest.element) (sym same) ∙ rest.picks;
      }

  picked_by : (first : Option Y) → pick number x ≡ first → (Contains (picked pick (number + 1) xs) y → IsPickedAt pick (number + 1) xs y)
      → Contains (option_to_list first ++ picked pick (number + 1) xs) y → IsPickedAt pick number (x ∷ xs) y
  picked_by None none rest among = picked_behind (rest among)
  picked_by (Some z) is rest among = elim (Contains-cases z y (picked pick (number + 1) xs) among) [
    | inl same ↦ (let here : number + 0 ≡ number = omega arith in
        record { place = 0; element = x; there = refl; picks = ap (λ n. pick n x) here ∙ (is ∙ ap Some same) })
    | inr behind ↦ picked_behind (rest behind)
  ]

module _ {X Y : Type 0} (pick : ℕ → X → Option Y) where
  -- what is picked is picked at a place
  pub picked_at : (number : ℕ) (xs : List X) (y : Y) → Contains (picked pick number xs) y → IsPickedAt pick number xs y
  picked_at number [] y among = absurd (Contains-none y among)
  picked_at number (x ∷ xs) y among = picked_by pick number x xs y (pick number x) refl (picked_at (number + 1) xs y) among

  -- what is picked at a place is picked
  pub picks_at : (number : ℕ) (xs : List X) (y : Y) → IsPickedAt pick number xs y → Contains (picked pick number xs) y
  picks_at number xs y is = by_place number xs y is.place is.element is.there is.picks where
    first_is : (first : Option Y) (rest : List Y) (y : Y) → first ≡ Some y → Contains (option_to_list first ++ rest) y
    first_is first rest y is = subst (λ first. Contains (option_to_list first ++ rest) y) (sym is) (Contains-here y rest)

    behind : (first : Option Y) (rest : List Y) (y : Y) → Contains rest y → Contains (option_to_list first ++ rest) y
    behind None rest y among = among
    behind (Some z) rest y among = Contains-there z y rest among

    by_place : (number : ℕ) (xs : List X) (y : Y) (place : ℕ) (element : X) → slice_get xs place ≡ Some element
        → pick (number + place) element ≡ Some y → Contains (picked pick number xs) y
    by_place number [] y place element there picks = cc
    by_place number (x ∷ xs) y zero element there picks =
        let same : x ≡ element = cc in
        let here : number + 0 ≡ number = omega arith in
        first_is (pick number x) (picked pick (number + 1) xs) y
        (ap (pick number) same ∙ (ap (λ n. pick n element) (sym here) ∙ picks))
    by_place number (x ∷ xs) y (suc place) element there picks =
        let same : number + 1 + place ≡ number + suc place = omega arith in
        behind (pick number x) (picked pick (number + 1) xs) y
        (by_place (number + 1) xs y place element there (ap (λ n. pick n element) same ∙ picks))

-- a rule picks rising keys where of two places the later one has the greater
abbrev pub PicksRising : {X Y : Type 0} → (ℕ → X → Option (ℕ × Y)) → ℕ → List X → Type 0
PicksRising {X} {Y} pick number xs = (first second : ℕ) (x z : X) (y w : ℕ × Y) → first < second
    → slice_get xs first ≡ Some x → slice_get xs second ≡ Some z → pick (number + first) x ≡ Some y → pick (number + second) z ≡ Some w
    → y.0 < w.0

module _ {X Y : Type 0} (pick : ℕ → X → Option (ℕ × Y)) where
  -- what is picked first stands before what is picked of the rest
  rises_by : (number : ℕ) (x : X) (xs : List X) → PicksRising pick number (x ∷ xs) → IsRising (picked pick (number + 1) xs)
      → (first : Option (ℕ × Y)) → pick number x ≡ first → IsRising (option_to_list first ++ picked pick (number + 1) xs)
  rises_by number x xs rises rest None none = rest
  rises_by number x xs rises rest (Some y) is = (
    AllByRecursion-each (λ other. y.0 < other.0) (picked pick (number + 1) xs) (λ w among.
        let at = picked_at pick (number + 1) xs w among in
        let here : number + 0 ≡ number = omega arith in
        let there : number + suc at.place ≡ number + 1 + at.place = omega arith in
        rises 0 (suc at.place) x at.element y w (omega arith) refl at.there (ap (λ n. pick n x) here ∙ is)
        (ap (λ n. pick n at.element) there ∙ at.picks)),
    rest,
  )

  pub picked_rise : (number : ℕ) (xs : List X) → PicksRising pick number xs → IsRising (picked pick number xs)
  picked_rise number [] rises = tt
  picked_rise number (x ∷ xs) rises =
      let rest : IsRising (picked pick (number + 1) xs) = picked_rise (number + 1) xs
      (λ first second x z y w before one two picks_one picks_two.
      let at_one : number + suc first ≡ number + 1 + first = omega arith in
      let at_two : number + suc second ≡ number + 1 + second = omega arith in
      rises (suc first) (suc second) x z y w (omega (arith, before)) one two
      (ap (λ n. pick n x) at_one ∙ picks_one) (ap (λ n. pick n z) at_two ∙ picks_two)) in
      rises_by number x xs rises rest (pick number x) refl
