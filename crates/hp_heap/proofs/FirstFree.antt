-- A search of the free lists, as a search among the elements.
use Rattle.std.proofs.Common.{◌≡◌, ℕ, zero, suc, ◌<◌, ◌≤◌, Bool, true, false, cond, List, [], ◌∷◌, ◌++◌, map, nat_eq, length, refl, sym, ap, subst, ◌∙◌, arith, inl, inr, ltb, Option, Some, None, Contains, eq-eqb}
use Rattle.std.proofs.lemmas.Bool.{cond_both, and_parts, or_cases, ltb-true, eqb-true, false≢true, cases_lt}
use Rattle.std.proofs.lemmas.List.Elements.{Contains-append_cases}
use Rattle.std.specs.List.{AllByRecursion, filter}
use Rattle.hp_base.specs.declared.span.Span.{Span}
use Rattle.hp_chain.specs.Chain.{Keyed, has_key}
use Rattle.hp_elem.specs.Items.{Items, IsAt}
use Rattle.hp_freelist.specs.Lists.{list_at, is_listed}
use Rattle.hp_freelist.specs.Search.{NonePasses, NonePassesFrom, IsFirstOfLeast, FindsFirstOfLeast}
use Rattle.hp_heap.specs.PlainHeap.{is_free, stamp_of}
use Rattle.hp_heap.specs.Lists.{range_class}
use Rattle.hp_heap.specs.Choice.{precedes}
use Rattle.hp_heap.specs.Headers.{IsFree, HasNoneFree, IsFirstFree, FindsFirstFree, spans_of}
use Rattle.hp_heap.specs.Tie.{is_on, put_by_stamp, newest, link_of, links_of, IsTied}
use Rattle.hp_heap.proofs.FreeFacts.NewestLemmas.{AreFalling, newest_falls, newest_keys, link_keys}
use Rattle.hp_heap.proofs.TieLemmas.{class_under}
use Rattle.hp_heap.proofs.AllocFacts.ChoiceLaw.{Contains-here, Contains-there, Contains-cases, Contains-none, Contains-filter, Contains-parts, AllByRecursion-contains}
use Rattle.hp_heap.proofs.Members.{Contains-kept, Contains-image}

-- elements by falling stamp are the same elements
put_has : (e : Keyed Span) (es : Items) (x : Keyed Span) → Contains (e ∷ es) x → Contains (put_by_stamp e es) x
put_has e [] x has = has
put_has e (o ∷ os) x has = cond_both (ltb (stamp_of e.value) (stamp_of o.value)) (o ∷ put_by_stamp e os) (e ∷ o ∷ os) (λ (zs : Items). Contains zs x)
    (λ later. elim (Contains-cases e x (o ∷ os) has) [
      | inl here ↦ Contains-there o x (put_by_stamp e os) (put_has e os x (subst (λ (z : Keyed Span). Contains (z ∷ os) x) (sym here) (Contains-here x os)))
      | inr rest ↦ elim (Contains-cases o x os rest) [
        | inl first ↦ subst (λ (z : Keyed Span). Contains (z ∷ put_by_stamp e os) x) (sym first) (Contains-here x (put_by_stamp e os))
        | inr behind ↦ Contains-there o x (put_by_stamp e os) (put_has e os x (Contains-there e x os behind))
      ]
    ]) (λ first. has)

put_had : (e : Keyed Span) (es : Items) (x : Keyed Span) → Contains (put_by_stamp e es) x → Contains (e ∷ es) x
put_had e [] x has = has
put_had e (o ∷ os) x has = by_place (ltb (stamp_of e.value) (stamp_of o.value)) (λ rest. put_had e os x rest) has
  where
    after : Contains (e ∷ os) x → Contains (e ∷ o ∷ os) x
    after has = elim (Contains-cases e x os has) [
      | inl here ↦ subst (λ (z : Keyed Span). Contains (z ∷ o ∷ os) x) (sym here) (Contains-here x (o ∷ os))
      | inr behind ↦ Contains-there e x (o ∷ os) (Contains-there o x os behind)
    ]

    by_place : (b : Bool) → (Contains (put_by_stamp e os) x → Contains (e ∷ os) x) → Contains (cond b (o ∷ put_by_stamp e os) (e ∷ o ∷ os)) x → Contains (e ∷ o ∷ os) x
    by_place true had has = elim (Contains-cases o x (put_by_stamp e os) has) [
      | inl first ↦ Contains-there e x (o ∷ os) (subst (λ (z : Keyed Span). Contains (z ∷ os) x) (sym first) (Contains-here x os))
      | inr rest ↦ after (had rest)
    ]
    by_place false had has = has

pub newest_has : (es : Items) (x : Keyed Span) → Contains es x → Contains (newest es) x
newest_has [] x has = absurd (Contains-none x has)
newest_has (e ∷ es) x has = put_has e (newest es) x (elim (Contains-cases e x es has) [
  | inl here ↦ subst (λ (z : Keyed Span). Contains (z ∷ newest es) x) (sym here) (Contains-here x (newest es))
  | inr rest ↦ Contains-there e x (newest es) (newest_has es x rest)
])

pub newest_had : (es : Items) (x : Keyed Span) → Contains (newest es) x → Contains es x
newest_had [] x has = absurd (Contains-none x has)
newest_had (e ∷ es) x has = elim (Contains-cases e x (newest es) (put_had e (newest es) x has)) [
  | inl here ↦ subst (λ (z : Keyed Span). Contains (z ∷ es) x) (sym here) (Contains-here x es)
  | inr rest ↦ Contains-there e x es (newest_had es x rest)
]

-- the element with a key, of those that a filter keeps
record IsKeptAt (p : Keyed Span → Bool) (key : ℕ) (items : Items) : Type 0 where
  front : Items
  found : Keyed Span
  back : Items
  is : items ≡ front ++ found ∷ back
  same : found.key ≡ key
  passes : p found ≡ true

kept_at : (p : Keyed Span → Bool) (key : ℕ) (items : Items) → has_key key (filter p items) ≡ true → IsKeptAt p key items
kept_at p key [] has = absurd (false≢true has)
kept_at p key (e ∷ es) has = by_test (p e) refl (λ rest. kept_at p key es rest) has
  where
    later : IsKeptAt p key es → IsKeptAt p key (e ∷ es)
    later rest = record { front = e ∷ rest.front; found = rest.found; back = rest.back; is = ap (λ (zs : Items). e ∷ zs) rest.is; same = rest.same; passes = rest.passes }

    by_test : (b : Bool) → p e ≡ b → (has_key key (filter p es) ≡ true → IsKeptAt p key es) → has_key key (cond b (e ∷ filter p es) (filter p es)) ≡ true → IsKeptAt p key (e ∷ es)
    by_test true passes rest has = elim (or_cases (nat_eq e.key key) (has_key key (filter p es)) has) [
      | inl same ↦ record { front = []; found = e; back = es; is = refl; same = eqb-true e.key key same; passes = passes }
      | inr behind ↦ later (rest behind)
    ]
    by_test false fails rest has = later (rest has)

-- a listed key is on some list
record IsOn (key : ℕ) (lists : List (List (Keyed ℕ))) : Type 0 where
  class : ℕ
  within : class < length lists
  has : has_key key (list_at lists class) ≡ true

on_list : (key : ℕ) (lists : List (List (Keyed ℕ))) → is_listed key lists ≡ true → IsOn key lists
on_list key [] listed = absurd (false≢true listed)
on_list key (list ∷ lists) listed = elim (or_cases (has_key key list) (is_listed key lists) listed) [
  | inl here ↦ record { class = 0; within = omega arith; has = here }
  | inr rest ↦ (let on = on_list key lists rest in record { class = suc on.class; within = omega (arith, on.within); has = on.has })
]

-- a listed key is that of a free element
pub listed_free : (items : Items) (lists : List (List (Keyed ℕ))) (key : ℕ) → length lists ≡ 13 → IsTied items lists → is_listed key lists ≡ true → IsAt IsFree key items
listed_free items lists key count tied listed =
    let on = on_list key lists listed in
    let linked : has_key key (links_of items on.class) ≡ true = ap (λ (list : List (Keyed ℕ)). has_key key list) (sym (tied on.class (omega (arith, on.within, count)))) ∙ on.has in
    let kept : has_key key (filter (is_on on.class) items) ≡ true =
    sym (newest_keys key (filter (is_on on.class) items)) ∙ sym (link_keys key (newest (filter (is_on on.class) items))) ∙ linked in
    let at = kept_at (is_on on.class) key items kept in
    record { front = at.front; found = at.found; back = at.back; is = at.is; same = at.same; holds = (and_parts _ _ at.passes).0 }

-- beyond the last list there is nothing
beyond : (lists : List (List (Keyed ℕ))) (class : ℕ) → length lists ≤ class → list_at lists class ≡ []
beyond [] class over = refl
beyond (list ∷ lists) zero over = absurd (omega (arith, over))
beyond (list ∷ lists) (suc class) over = beyond lists class (omega (arith, over))

nothing_in : (front : List (Keyed ℕ)) (e : Keyed ℕ) (back : List (Keyed ℕ)) → [] ≡ front ++ e ∷ back → 1 ≤ 0
nothing_in [] e back is = cc
nothing_in (f ∷ front) e back is = cc

class_within : (lists : List (List (Keyed ℕ))) (class : ℕ) (front : List (Keyed ℕ)) (e : Keyed ℕ) (back : List (Keyed ℕ)) → list_at lists class ≡ front ++ e ∷ back → class < length lists
class_within lists class front e back is = elim (cases_lt class (length lists)) [
  | inl below ↦ below
  | inr over ↦ absurd (omega (arith, nothing_in front e back (sym (beyond lists class over) ∙ is)))
]

-- a list of links in two parts is that of elements in two parts
record IsLinkSplit (zs : Items) (front : List (Keyed ℕ)) (e : Keyed ℕ) (back : List (Keyed ℕ)) : Type 0 where
  before : Items
  found : Keyed Span
  behind : Items
  is : zs ≡ before ++ found ∷ behind
  front_is : map link_of before ≡ front
  found_is : link_of found ≡ e

head_link : (x y : Keyed ℕ) (xs ys : List (Keyed ℕ)) → x ∷ xs ≡ y ∷ ys → x ≡ y
head_link x y xs ys is = cc

tail_link : (x y : Keyed ℕ) (xs ys : List (Keyed ℕ)) → x ∷ xs ≡ y ∷ ys → xs ≡ ys
tail_link x y xs ys is = cc

link_split : (zs : Items) (front : List (Keyed ℕ)) (e : Keyed ℕ) (back : List (Keyed ℕ)) → map link_of zs ≡ front ++ e ∷ back → IsLinkSplit zs front e back
link_split [] front e back is = absurd (omega (arith, nothing_in front e back is))
link_split (z ∷ zs) [] e back is = record { before = []; found = z; behind = zs; is = refl; front_is = refl; found_is = head_link (link_of z) e (map link_of zs) back is }
link_split (z ∷ zs) (f ∷ front) e back is =
    let rest = link_split zs front e back (tail_link (link_of z) f (map link_of zs) (front ++ e ∷ back) is) in
    record {
      before = z ∷ rest.before;
      found = rest.found;
      behind = rest.behind;
      is = ap (λ (l : Items). z ∷ l) rest.is;
      front_is = ap (λ (k : Keyed ℕ). k ∷ map link_of rest.before) (head_link (link_of z) f (map link_of zs) (front ++ e ∷ back) is) ∙ ap (λ (l : List (Keyed ℕ)). f ∷ l) rest.front_is;
      found_is = rest.found_is;
    }

-- of elements by falling stamp, those after one are no later
falls_behind : (xs : Items) (e : Keyed Span) (ys : Items) → AreFalling (xs ++ e ∷ ys) → AllByRecursion (λ span. stamp_of span ≤ stamp_of e.value) (spans_of ys)
falls_behind [] e ys falls = falls.0
falls_behind (x ∷ xs) e ys falls = falls_behind xs e ys falls.1

spans_has : (ys : Items) (o : Keyed Span) → Contains ys o → Contains (spans_of ys) o.value
spans_has ys o has = Contains-image (λ (e : Keyed Span). e.value) ys o has

later_front : (xs : Items) (e : Keyed Span) (ys : Items) (other : Keyed Span) → AreFalling (xs ++ e ∷ ys) → stamp_of e.value < stamp_of other.value → Contains (xs ++ e ∷ ys) other → Contains xs other
later_front xs e ys other falls later has = elim (Contains-append_cases xs (e ∷ ys) other has) [
  | inl front ↦ front
  | inr rest ↦ elim (Contains-cases e other ys rest) [
    | inl same ↦ absurd (omega (arith, later, ap (λ (o : Keyed Span). stamp_of o.value) same))
    | inr behind ↦ absurd (let lower = AllByRecursion-contains (λ span. stamp_of span ≤ stamp_of e.value) (spans_of ys) other.value (falls_behind xs e ys falls) (spans_has ys other behind) in omega (arith, later, lower))
  ]
]

module _ (test : ℕ → Bool → Type 0) (items : Items) (lists : List (List (Keyed ℕ))) (tied : IsTied items lists) where
  -- where none of a list passes, no free element of its class does
  none_of : (zs : Items) (other : Keyed Span) → NonePasses test (map link_of zs) → Contains zs other → test other.key false
  none_of zs other none has = AllByRecursion-contains (λ (e : Keyed ℕ). test e.key false) (map link_of zs) (link_of other) none (Contains-image link_of zs other has)

  on_newest : (class : ℕ) (other : Keyed Span) → Contains items other → is_free other.value ≡ true → range_class other.value ≡ class → Contains (newest (filter (is_on class) items)) other
  on_newest class other has free same = newest_has (filter (is_on class) items) other (Contains-kept (is_on class) items other (rw (free, eq-eqb (range_class other.value) class same) refl) has)

  none_in : (other : Keyed Span) → Contains items other → is_free other.value ≡ true → NonePasses test (list_at lists (range_class other.value)) → test other.key false
  none_in other has free none =
      none_of (newest (filter (is_on (range_class other.value)) items)) other
      (subst (λ (list : List (Keyed ℕ)). NonePasses test list) (tied (range_class other.value) (class_under other.value)) none)
      (on_newest (range_class other.value) other has free refl)

  none_free : (class : ℕ) → NonePassesFrom test lists class → HasNoneFree test class items
  none_free class none other has free upwards = none_in other has free (none (range_class other.value) upwards)

  first_free : (class key : ℕ) → length lists ≡ 13 → IsFirstOfLeast test lists class key → IsFirstFree test class items key
  unfolding precedes
  first_free class key count least =
      let own : least.class < 13 = omega (arith, class_within lists least.class least.front least.found least.back least.is, count) in
      let zs : Items = newest (filter (is_on least.class) items) in
      let parts = link_split zs least.front least.found least.back (sym (tied least.class own) ∙ least.is) in
      let among : Contains zs parts.found = subst (λ (l : Items). Contains l parts.found) (sym parts.is) (between parts.before parts.found parts.behind) in
      let kept = Contains-filter (is_on least.class) items parts.found (newest_had (filter (is_on least.class) items) parts.found among) in
      let tests = and_parts _ _ kept.0 in
      let its : range_class parts.found.value ≡ least.class = eqb-true (range_class parts.found.value) least.class tests.1 in
      let (front, back, is) = Contains-parts items parts.found kept.1 in
      record {
        front = front;
        found = parts.found;
        back = back;
        is = is;
        same = ap (λ (k : Keyed ℕ). k.key) parts.found_is ∙ least.same;
        free = tests.0;
        upwards = omega (arith, its, least.upwards);
        passes = least.passes;
        before = λ other has free upwards sooner. before parts.found parts.before parts.behind its parts.is parts.front_is other has free upwards sooner;
      }
    where
      between : (xs : Items) (e : Keyed Span) (ys : Items) → Contains (xs ++ e ∷ ys) e
      between [] e ys = Contains-here e ys
      between (x ∷ xs) e ys = Contains-there x e (xs ++ e ∷ ys) (between xs e ys)

      before : (found : Keyed Span) (xs ys : Items) → range_class found.value ≡ least.class → newest (filter (is_on least.class) items) ≡ xs ++ found ∷ ys → map link_of xs ≡ least.front
          → (other : Keyed Span) → Contains items other → is_free other.value ≡ true → class ≤ range_class other.value → precedes other.value found.value ≡ true → test other.key false
      before found xs ys its is front_is other has free upwards sooner = elim (or_cases _ _ sooner) [
        | inl lower ↦ (let under : range_class other.value < range_class found.value = ltb-true (range_class other.value) (range_class found.value) lower in
            none_in other has free (least.lower (range_class other.value) upwards (omega (arith, under, its))))
        | inr level ↦ (let tests = and_parts _ _ level in
            let same : range_class other.value ≡ range_class found.value = eqb-true (range_class other.value) (range_class found.value) tests.0 in
            let later : stamp_of found.value < stamp_of other.value = ltb-true (stamp_of found.value) (stamp_of other.value) tests.1 in
            none_of xs other (subst (λ (list : List (Keyed ℕ)). NonePasses test list) (sym front_is) least.before)
            (later_front xs found ys other (subst AreFalling is (newest_falls (filter (is_on least.class) items))) later
            (subst (λ (l : Items). Contains l other) is (on_newest least.class other has free (same ∙ its)))))
      ]

  -- what a search of the lists finds is the first free element
  pub finds_first_free : (class : ℕ) (found : Option ℕ) → length lists ≡ 13 → FindsFirstOfLeast test lists class found → FindsFirstFree test class items found
  finds_first_free class None count none = none_free class none
  finds_first_free class (Some key) count least = first_free class key count least
