-- The greatest of the free lists is the greatest free element.
use Rattle.std.proofs.Common.{◌≡◌, ℕ, zero, suc, ◌<◌, ◌≤◌, true, List, [], ◌∷◌, ◌++◌, length, max, refl, sym, ap, ◌∙◌, subst, inl, inr, arith, Contains, eq-eqb}
use Rattle.std.proofs.lemmas.Bool.{and_parts}
use Rattle.std.proofs.lemmas.List.Elements.{Contains-append_cases}
use Rattle.std.specs.List.{AllByRecursion, filter, fold}
use Rattle.hp_base.specs.declared.span.Span.{Span}
use Rattle.hp_chain.specs.Chain.{Keyed, AreApart}
use Rattle.hp_elem.specs.declared.node.Node.{Node}
use Rattle.hp_elem.specs.Items.{Items, IsAt, Stands}
use Rattle.hp_freelist.specs.Lists.{list_at}
use Rattle.hp_freelist.specs.Greatest.{all_elements, IsGreatest}
use Rattle.hp_heap.specs.PlainHeap.{is_free}
use Rattle.hp_heap.specs.Lists.{range_class}
use Rattle.hp_heap.specs.Statistics.{greatest_whole}
use Rattle.hp_heap.specs.Headers.{IsFree, spans_of}
use Rattle.hp_heap.specs.Tie.{is_on, newest, link_of, IsTied}
use Rattle.hp_heap.proofs.TieLemmas.{class_under}
use Rattle.hp_heap.proofs.AllocFacts.ChoiceLaw.{Contains-here, Contains-there, Contains-cases, Contains-none, Contains-filter, Contains-parts, AllByRecursion-contains}
use Rattle.hp_heap.proofs.Members.{Contains-kept, Contains-image, Contains-imaged, AllByRecursion-each}
use Rattle.hp_heap.proofs.FirstFree.{newest_has, newest_had}
use Rattle.hp_heap.proofs.EditLemmas.{at_header}

-- of several lists as one
Contains-front : {X : Type 0} (xs ys : List X) (x : X) → Contains xs x → Contains (xs ++ ys) x
Contains-front [] ys x has = absurd (Contains-none x has)
Contains-front (z ∷ xs) ys x has = elim (Contains-cases z x xs has) [
  | inl here ↦ subst (λ w. Contains (z ∷ (xs ++ ys)) w) here (Contains-here z (xs ++ ys))
  | inr rest ↦ Contains-there z x (xs ++ ys) (Contains-front xs ys x rest)
]

Contains-back : {X : Type 0} (xs ys : List X) (x : X) → Contains ys x → Contains (xs ++ ys) x
Contains-back [] ys x has = has
Contains-back (z ∷ xs) ys x has = Contains-there z x (xs ++ ys) (Contains-back xs ys x has)

all_has : (lists : List (List (Keyed ℕ))) (class : ℕ) (e : Keyed ℕ) → Contains (list_at lists class) e → Contains (all_elements lists) e
all_has [] class e has = absurd (Contains-none e has)
all_has (list ∷ lists) zero e has = Contains-front list (all_elements lists) e has
all_has (list ∷ lists) (suc class) e has = Contains-back list (all_elements lists) e (all_has lists class e has)

record IsIn (lists : List (List (Keyed ℕ))) (e : Keyed ℕ) : Type 0 where
  pub class : ℕ
  pub within : class < length lists
  pub has : Contains (list_at lists class) e

all_had : (lists : List (List (Keyed ℕ))) (e : Keyed ℕ) → Contains (all_elements lists) e → IsIn lists e
all_had [] e has = absurd (Contains-none e has)
all_had (list ∷ lists) e has = elim (Contains-append_cases list (all_elements lists) e has) [
  | inl here ↦ record { class = 0; within = omega arith; has = here }
  | inr rest ↦ (let one = all_had lists e rest in record { class = suc one.class; within = omega (arith, one.within); has = one.has })
]

-- the greatest whole size, where one has it and none has more
max_from : (xs : List Span) (from most : ℕ) → from ≤ most → AllByRecursion (λ x. x.whole ≤ most) xs → fold (λ n (x : Span). max n x.whole) from xs ≤ most
max_from [] from most within all = within
max_from (x ∷ xs) from most within all = max_from xs (max from x.whole) most (omega (arith, within, all.0)) all.1

max_above : (xs : List Span) (from : ℕ) → from ≤ fold (λ n (x : Span). max n x.whole) from xs
max_above [] from = omega arith
max_above (x ∷ xs) from = omega (arith, max_above xs (max from x.whole))

max_reaches : (xs : List Span) (from : ℕ) (x : Span) → Contains xs x → x.whole ≤ fold (λ n (y : Span). max n y.whole) from xs
max_reaches [] from x has = absurd (Contains-none x has)
max_reaches (y ∷ ys) from x has = elim (Contains-cases y x ys has) [
  | inl here ↦ omega (arith, ap (λ (s : Span). s.whole) here, max_above ys (max from y.whole))
  | inr rest ↦ max_reaches ys (max from y.whole) x rest
]

greatest_of : (xs : List Span) (x : Span) → Contains xs x → AllByRecursion (λ y. y.whole ≤ x.whole) xs → x.whole ≡ greatest_whole xs
greatest_of xs x has all = omega (arith, max_from xs 0 x.whole (omega arith) all, max_reaches xs 0 x has)

-- free elements of elements under keys
free_spans : (items : Items) (x : Span) → Contains (filter is_free (spans_of items)) x → (e : Keyed Span) × Contains items e × (is_free e.value ≡ true) × (e.value ≡ x)
free_spans items x has =
    let kept = Contains-filter is_free (spans_of items) x has in
    let (e, among, same) = Contains-imaged (λ (o : Keyed Span). o.value) items x kept.1 in
    (e, among, ap is_free same ∙ kept.0, same)

module _ (items : Items) (lists : List (List (Keyed ℕ))) (count : length lists ≡ 13) (tied : IsTied items lists) where
  -- a free element is on the list of its class
  free_linked : (e : Keyed Span) → Contains items e → is_free e.value ≡ true → Contains (all_elements lists) (link_of e)
  free_linked e among free =
      let class : ℕ = range_class e.value in
      let on : is_on class e ≡ true = rw (free, eq-eqb class class refl) refl in
      let kept = Contains-image link_of (newest (filter (is_on class) items)) e (newest_has (filter (is_on class) items) e (Contains-kept (is_on class) items e on among)) in
      all_has lists class (link_of e) (subst (λ (zs : List (Keyed ℕ)). Contains zs (link_of e)) (sym (tied class (class_under e.value))) kept)

  -- and what is on a list is a free element
  linked_free : (l : Keyed ℕ) → Contains (all_elements lists) l → (e : Keyed Span) × Contains items e × (is_free e.value ≡ true) × (link_of e ≡ l)
  linked_free l has =
      let one = all_had lists l has in
      let linked = subst (λ (zs : List (Keyed ℕ)). Contains zs l) (tied one.class (omega (arith, one.within, count))) one.has in
      let (e, among, same) = Contains-imaged link_of (newest (filter (is_on one.class) items)) l linked in
      let kept = Contains-filter (is_on one.class) items e (newest_had (filter (is_on one.class) items) e among) in
      (e, kept.1, (and_parts _ _ kept.0).0, same)

  -- without an element on a list no element is free
  pub none_greatest : all_elements lists ≡ [] → 0 ≡ greatest_whole (filter is_free (spans_of items))
  none_greatest empty =
      let most = max_from (filter is_free (spans_of items)) 0 0 (omega arith) (AllByRecursion-each (λ x. x.whole ≤ 0) (filter is_free (spans_of items)) (λ x has.
      let (e, among, free, same) = free_spans items x has in
      absurd (Contains-none (link_of e) (subst (λ (zs : List (Keyed ℕ)). Contains zs (link_of e)) empty (free_linked e among free))))) in
      omega (arith, most)

  module _ (key : ℕ) (greatest : IsGreatest (all_elements lists) key) where
    -- the element of the greatest
    among_all : Contains (all_elements lists) greatest.found
    among_all = subst (λ (zs : List (Keyed ℕ)). Contains zs greatest.found) (sym greatest.is) (Contains-back greatest.front (greatest.found ∷ greatest.back) greatest.found (Contains-here greatest.found greatest.back))

    pub greatest_at : IsAt IsFree key items
    greatest_at =
        let (e, among, free, same) = linked_free greatest.found among_all in
        let (front, back, is) = Contains-parts items e among in
        record { front = front; found = e; back = back; is = is; same = ap (λ (l : Keyed ℕ). l.key) same ∙ greatest.same; holds = free }

    whole_is : greatest_at.found.value.whole ≡ greatest.found.value
    unfolding greatest_at
    whole_is = let (e, among, free, same) = linked_free greatest.found among_all in ap (λ (l : Keyed ℕ). l.value) same

    no_greater : (l : Keyed ℕ) → Contains (all_elements lists) l → l.value ≤ greatest.found.value
    no_greater l has = elim (Contains-append_cases greatest.front (greatest.found ∷ greatest.back) l (subst (λ (zs : List (Keyed ℕ)). Contains zs l) greatest.is has)) [
      | inl front ↦ (let less = AllByRecursion-contains (λ (e : Keyed ℕ). e.value < greatest.found.value) greatest.front l greatest.before front in omega (arith, less))
      | inr rest ↦ elim (Contains-cases greatest.found l greatest.back rest) [
        | inl here ↦ omega (arith, ap (λ (e : Keyed ℕ). e.value) here)
        | inr back ↦ AllByRecursion-contains (λ (e : Keyed ℕ). e.value ≤ greatest.found.value) greatest.back l greatest.behind back
      ]
    ]

    pub greatest_is : (node : Node) → AreApart items → Stands items key node → node.span.whole ≡ greatest_whole (filter is_free (spans_of items))
    greatest_is node apart stands =
        let sized : IsAt (λ span. span.whole ≡ greatest.found.value) key items = record { front = greatest_at.front; found = greatest_at.found; back = greatest_at.back; is = greatest_at.is; same = greatest_at.same; holds = whole_is } in
        let whole : node.span.whole ≡ greatest.found.value = at_header (λ span. span.whole ≡ greatest.found.value) key items node apart stands sized in
        let free : is_free node.span ≡ true = at_header IsFree key items node apart stands greatest_at in
        let own : Keyed Span = record { key = key; value = node.span } in
        let here : Contains items own = subst (λ (zs : Items). Contains zs own) (sym stands.is) (Contains-back stands.front (own ∷ stands.back) own (Contains-here own stands.back)) in
        greatest_of (filter is_free (spans_of items)) node.span
        (Contains-kept is_free (spans_of items) node.span free (Contains-image (λ (o : Keyed Span). o.value) items own here))
        (AllByRecursion-each (λ x. x.whole ≤ node.span.whole) (filter is_free (spans_of items)) (λ x has.
        let (e, among, is, same) = free_spans items x has in
        omega (arith, whole, no_greater (link_of e) (free_linked e among is), ap (λ (s : Span). s.whole) same)))
