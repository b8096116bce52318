-- The computed choice is the choice: of all that are eligible the least class, and in it the greatest stamp.
use Rattle.std.proofs.Common.{◌≡◌, ℕ, zero, suc, ◌<◌, ◌≤◌, ◌⊎◌, Bool, true, false, cond, List, [], ◌∷◌, ◌++◌, refl, sym, ap, subst, ◌∙◌, inl, inr, arith, Option, Some, None, Contains, MatchOption}
use Rattle.std.proofs.lemmas.Bool.{ltb-true, ltb-false, eqb-true, eqb-false, and_parts, and_cases, or_cases, or_parts}
use Rattle.std.specs.List.{filter, reduce, fold, AllByRecursion}
use Rattle.hp_base.specs.declared.span.Span.{Span}
use Rattle.hp_base.specs.declared.request.Request.{Request}
use Rattle.hp_heap.specs.PlainHeap.{PlainHeap, stamp_of}
use Rattle.hp_heap.specs.Lists.{range_class}
use Rattle.hp_base.specs.Flags.{is_hint, is_fitting_page}
use Rattle.hp_heap.specs.Choice.{is_candidate, candidates, of_fitting_pages, fitting_or_hinted, eligible, IsChoice, HasNoChoice, precedes, sooner, chosen}

module _ {X : Type 0} where
  pub Contains-here : (x : X) (xs : List X) → Contains (x ∷ xs) x
  Contains-here x xs = (0, omega arith, refl)

  pub Contains-there : (y x : X) (xs : List X) → Contains xs x → Contains (y ∷ xs) x
  Contains-there y x xs (k, within, is) = (suc k, omega arith, is)

  -- an element is the first, or among the rest
  pub Contains-cases : (y x : X) (xs : List X) → Contains (y ∷ xs) x → (y ≡ x) ⊎ Contains xs x
  Contains-cases y x xs (zero, within, is) = inl is
  Contains-cases y x xs (suc k, within, is) = inr (k, omega arith, is)

  pub Contains-none : (x : X) → Contains [] x → ⊥
  Contains-none x (k, within, is) = absurd (omega arith)

  pub AllByRecursion-contains : (P : X → Type 0) (xs : List X) (x : X) → AllByRecursion P xs → Contains xs x → P x
  AllByRecursion-contains P [] x all has = absurd (Contains-none x has)
  AllByRecursion-contains P (y ∷ ys) x all has = elim (Contains-cases y x ys has) [ inl is ↦ subst P is all.0 | inr rest ↦ AllByRecursion-contains P ys x all.1 rest ]

  kept_at : (p : X → Bool) (y : X) (ys : List X) (x : X) → (Contains (filter p ys) x → (p x ≡ true) × Contains ys x) → (b : Bool) → p y ≡ b
      → Contains (cond b (y ∷ filter p ys) (filter p ys)) x → (p x ≡ true) × Contains (y ∷ ys) x
  kept_at p y ys x rest true passes has = elim (Contains-cases y x (filter p ys) has) [
    | inl is ↦ (sym (ap p is) ∙ passes, subst (λ z. Contains (y ∷ ys) z) is (Contains-here y ys))
    | inr behind ↦ (let found = rest behind in (found.0, Contains-there y x ys found.1))
  ]
  kept_at p y ys x rest false fails has = let found = rest has in (found.0, Contains-there y x ys found.1)

  -- an element that a filter keeps passes its test, and is one of them
  pub Contains-filter : (p : X → Bool) (xs : List X) (x : X) → Contains (filter p xs) x → (p x ≡ true) × Contains xs x
  Contains-filter p [] x has = absurd (Contains-none x has)
  Contains-filter p (y ∷ ys) x has = kept_at p y ys x (Contains-filter p ys x) (p y) refl has

  -- an element of a list parts it
  pub Contains-parts : (xs : List X) (x : X) → Contains xs x → (before : List X) × (after : List X) × (xs ≡ before ++ (x ∷ after))
  Contains-parts [] x has = absurd (Contains-none x has)
  Contains-parts (y ∷ ys) x has = elim (Contains-cases y x ys has) [
    | inl is ↦ ([], ys, ap (λ z. z ∷ ys) is)
    | inr behind ↦ (let parts = Contains-parts ys x behind in (y ∷ parts.0, parts.1, ap (λ zs. y ∷ zs) parts.2))
  ]

-- an element does not stand before another in the order of the search
pub record IsNotBefore (first second : Span) : Type 0 where
  pub class : range_class second ≤ range_class first
  pub stamp : range_class first ≡ range_class second → stamp_of first ≤ stamp_of second

not_before_itself : (x : Span) → IsNotBefore x x
not_before_itself x = record { class = omega arith; stamp = λ _. omega arith }

not_before_through : (x y z : Span) → IsNotBefore x y → IsNotBefore y z → IsNotBefore x z
not_before_through x y z first second = record {
  class = omega (arith, first.class, second.class);
  stamp = λ same. (
      let one : range_class x ≡ range_class y = omega (arith, first.class, second.class) in
      let two : range_class y ≡ range_class z = omega arith in
      omega (arith, first.stamp one, second.stamp two));
}

precedes-tells : (x y : Span) → precedes x y ≡ true → IsNotBefore y x
unfolding precedes
precedes-tells x y before = elim (or_cases _ _ before) [
  | inl lower ↦ (let below : range_class x < range_class y = ltb-true (range_class x) (range_class y) lower in record { class = omega arith; stamp = λ same. absurd (omega arith) })
  | inr level ↦ (let parts = and_parts _ _ level in
      let same : range_class x ≡ range_class y = eqb-true (range_class x) (range_class y) parts.0 in
      let later : stamp_of y < stamp_of x = ltb-true (stamp_of y) (stamp_of x) parts.1 in
      record { class = omega arith; stamp = λ _. omega arith })
]

pub precedes-else : (x y : Span) → precedes x y ≡ false → IsNotBefore x y
unfolding precedes
precedes-else x y after = let parts = or_parts _ _ after in
    let above : range_class y ≤ range_class x = ltb-false (range_class x) (range_class y) parts.0 in
    record {
      class = above;
      stamp = λ same. elim (and_cases _ _ parts.1) [
        | inl differ ↦ absurd (eqb-false (range_class x) (range_class y) differ same)
        | inr older ↦ ltb-false (stamp_of y) (stamp_of x) older
      ];
    }

-- of two elements the sooner is one of them, and neither is before it
record IsSooner (x y z : Span) : Type 0 where
  one : (z ≡ x) ⊎ (z ≡ y)
  first : IsNotBefore x z
  second : IsNotBefore y z

sooner-by : (x y : Span) (b : Bool) → precedes y x ≡ b → IsSooner x y (cond b y x)
sooner-by x y true before = record { one = inr refl; first = precedes-tells y x before; second = not_before_itself y }
sooner-by x y false after = record { one = inl refl; first = not_before_itself x; second = precedes-else y x after }

sooner_is : (x y : Span) → IsSooner x y (sooner x y)
sooner_is x y = sooner-by x y (precedes y x) refl

-- the first of some elements in the order of the search is one of them, and none is before it
record IsSoonest (start : Span) (xs : List Span) (r : Span) : Type 0 where
  among : Contains (start ∷ xs) r
  first : IsNotBefore start r
  others : AllByRecursion (λ x. IsNotBefore x r) xs

soonest : (start : Span) (xs : List Span) → IsSoonest start xs (fold sooner start xs)
soonest start [] = record { among = Contains-here start []; first = not_before_itself start; others = tt }
soonest start (y ∷ ys) =
    let both = sooner_is start y in
    let rest = soonest (sooner start y) ys in
    let r = fold sooner (sooner start y) ys in
    record {
      among = elim (Contains-cases (sooner start y) r ys rest.among) [
        | inl is ↦ elim both.one [
          | inl left ↦ subst (λ z. Contains (start ∷ y ∷ ys) z) (sym left ∙ is) (Contains-here start (y ∷ ys))
          | inr right ↦ subst (λ z. Contains (start ∷ y ∷ ys) z) (sym right ∙ is) (Contains-there start y (y ∷ ys) (Contains-here y ys))
        ]
        | inr behind ↦ Contains-there start r (y ∷ ys) (Contains-there y r ys behind)
      ];
      first = not_before_through start (sooner start y) r both.first rest.first;
      others = (not_before_through y (sooner start y) r both.second rest.first, rest.others);
    }

-- the choice among elements is one of them, and none is before it
pub record IsFirstOf (xs : List Span) (r : Span) : Type 0 where
  pub among : Contains xs r
  pub least : AllByRecursion (λ x. IsNotBefore x r) xs

abbrev pub IsReduced : List Span → Option Span → Type 0
IsReduced xs o = MatchOption o (xs ≡ []) (IsFirstOf xs)

pub reduce-sooner : (xs : List Span) → IsReduced xs (reduce sooner xs)
reduce-sooner [] = refl
reduce-sooner (x ∷ xs) = let is = soonest x xs in record { among = is.among; least = (is.first, is.others) }

-- the computed choice is the choice, or there is none
pub chosen-is_choice : (heap : PlainHeap) (participant : ℕ) (request : Request) → MatchOption (chosen participant request heap) (HasNoChoice participant request heap) (IsChoice participant request heap)
unfolding chosen
chosen-is_choice heap participant request =
    choice_of (reduce sooner (eligible participant request heap)) (reduce-sooner (eligible participant request heap))
  where
    choice_of : (o : Option Span) → IsReduced (eligible participant request heap) o → MatchOption o (HasNoChoice participant request heap) (IsChoice participant request heap)
    choice_of None is = is
    choice_of (Some r) is = record {
      among = is.among;
      least = λ other has. (AllByRecursion-contains (λ x. IsNotBefore x r) (eligible participant request heap) other is.least has).class;
      newest = λ other has same. (AllByRecursion-contains (λ x. IsNotBefore x r) (eligible participant request heap) other is.least has).stamp same;
    }

-- what is eligible is a candidate
eligible_by : (request : Request) (all fit : List Span) (r : Span) → (Contains fit r → Contains all r) → Contains (fitting_or_hinted request all fit) r → Contains all r
eligible_by request all [] r sub has = hinted (is_hint request.flags) has
  where
    hinted : (b : Bool) → Contains (cond b all []) r → Contains all r
    hinted true there = there
    hinted false there = absurd (Contains-none r there)
eligible_by request all (x ∷ xs) r sub has = sub has

pub eligible-candidate : (heap : PlainHeap) (participant : ℕ) (request : Request) (r : Span) → Contains (eligible participant request heap) r
    → (is_candidate participant request heap r ≡ true) × Contains heap.ranges r
unfolding eligible
eligible-candidate heap participant request r has =
    let all = candidates participant request heap in
    Contains-filter (is_candidate participant request heap) heap.ranges r
    (eligible_by request all (of_fitting_pages request all) r (λ there. (Contains-filter (λ range. is_fitting_page request.flags range.page) all r there).1) has)
