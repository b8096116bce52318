-- Each edit of elements under keys keeps their tie to the free lists.
use Rattle.std.proofs.Common.{◌≡◌, ℕ, zero, suc, ◌<◌, Bool, true, false, cond, List, [], ◌∷◌, ◌++◌, map, nat_eq, length, refl, sym, ap, subst, ◌∙◌, arith}
use Rattle.std.proofs.lemmas.Bool.{cond_both, or_from, or_left, or_right, false≢true, eqb-true, eqb-false, eq-eqb}
use Rattle.std.proofs.lemmas.List.{get_or-set_same, get_or-set_other}
use Rattle.std.specs.List.{AllByRecursion, filter}
use Rattle.hp_base.specs.declared.span.Span.{Span}
use Rattle.hp_chain.specs.Chain.{Keyed, has_key, AreApart}
use Rattle.hp_chain.specs.Edits.{without_key}
use Rattle.hp_chain.proofs.Keys.{apart_middle, has_key-own, has_key_back}
use Rattle.hp_elem.specs.Items.{Items, IsAt}
use Rattle.hp_freelist.specs.Lists.{list_at, is_listed, with_head, without}
use Rattle.hp_freelist.proofs.HeadLemmas.{class_below}
use Rattle.hp_heap.specs.PlainHeap.{is_free, stamp_of}
use Rattle.hp_heap.specs.Lists.{range_class}
use Rattle.hp_heap.specs.Headers.{IsFree}
use Rattle.hp_heap.specs.Tie.{is_on, newest, link_of, links_of, IsTied}
use Rattle.hp_heap.proofs.FreeFacts.NewestLemmas.{AreBusy, links_past, links-without, links-head, newest_keys, link_keys, lacks_kept}

-- lists by their class
list_at-map : (f : List (Keyed ℕ) → List (Keyed ℕ)) (lists : List (List (Keyed ℕ))) (class : ℕ) → f [] ≡ [] → list_at (map f lists) class ≡ f (list_at lists class)
list_at-map f [] class none = sym none
list_at-map f (list ∷ lists) zero none = refl
list_at-map f (list ∷ lists) (suc class) none = list_at-map f lists class none

listed_in : (key class : ℕ) (lists : List (List (Keyed ℕ))) → has_key key (list_at lists class) ≡ true → is_listed key lists ≡ true
listed_in key class [] has = absurd (false≢true has)
listed_in key zero (list ∷ lists) has = or_left (has_key key list) (is_listed key lists) has
listed_in key (suc class) (list ∷ lists) has = or_right (has_key key list) (is_listed key lists) (listed_in key class lists has)

unlisted_by : (key : ℕ) (lists : List (List (Keyed ℕ))) → ((class : ℕ) → class < length lists → has_key key (list_at lists class) ≡ false) → is_listed key lists ≡ false
unlisted_by key [] lacks = refl
unlisted_by key (list ∷ lists) lacks =
    or_from (has_key key list) (is_listed key lists) (lacks 0 (omega arith)) (unlisted_by key lists (λ class within. lacks (suc class) (omega (arith, within))))

pub class_under : (span : Span) → range_class span < 13
class_under span = class_below span.whole

-- a free element is on a list, and a busy one on none
kept_key : (p : Keyed Span → Bool) (xs : Items) (e : Keyed Span) (ys : Items) → p e ≡ true → has_key e.key (filter p (xs ++ e ∷ ys)) ≡ true
kept_key p [] e ys passes = rw passes (has_key-own e (filter p ys))
kept_key p (x ∷ xs) e ys passes = cond_both (p x) (x ∷ filter p (xs ++ e ∷ ys)) (filter p (xs ++ e ∷ ys)) (λ (zs : Items). has_key e.key zs ≡ true)
    (λ kept. or_right (nat_eq x.key e.key) (has_key e.key (filter p (xs ++ e ∷ ys))) (kept_key p xs e ys passes)) (λ gone. kept_key p xs e ys passes)

pub free_listed : (items : Items) (lists : List (List (Keyed ℕ))) (key : ℕ) → IsTied items lists → IsAt IsFree key items → is_listed key lists ≡ true
free_listed items lists key tied at =
    let e = at.found in
    let class : ℕ = range_class e.value in
    let on : is_on class e ≡ true = rw (at.holds, eq-eqb class class refl) refl in
    let kept : has_key e.key (filter (is_on class) items) ≡ true = subst (λ (zs : Items). has_key e.key (filter (is_on class) zs) ≡ true) (sym at.is) (kept_key (is_on class) at.front e at.back on) in
    let linked : has_key e.key (links_of items class) ≡ true = link_keys e.key (newest (filter (is_on class) items)) ∙ newest_keys e.key (filter (is_on class) items) ∙ kept in
    subst (λ (k : ℕ). is_listed k lists ≡ true) at.same
    (listed_in e.key class lists (ap (λ (list : List (Keyed ℕ)). has_key e.key list) (tied class (class_under e.value)) ∙ linked))

pub busy_unlisted : (xs : Items) (e : Keyed Span) (ys : Items) (lists : List (List (Keyed ℕ))) → length lists ≡ 13 → AreApart (xs ++ e ∷ ys) → is_free e.value ≡ false
    → IsTied (xs ++ e ∷ ys) lists → is_listed e.key lists ≡ false
busy_unlisted xs e ys lists count apart busy tied = unlisted_by e.key lists (λ class within.
    let lacks = apart_middle xs e ys apart in
    let past : links_of (xs ++ e ∷ ys) class ≡ links_of (xs ++ ys) class = links_past class xs (e ∷ []) ys (busy, tt) in
    let none : has_key e.key (filter (is_on class) (xs ++ ys)) ≡ false = lacks_kept (is_on class) e.key (xs ++ ys) (both_lack e.key xs ys lacks.0 lacks.1) in
    ap (λ (list : List (Keyed ℕ)). has_key e.key list) (tied class (omega (arith, within, count)) ∙ past)
    ∙ link_keys e.key (newest (filter (is_on class) (xs ++ ys))) ∙ newest_keys e.key (filter (is_on class) (xs ++ ys)) ∙ none)
  where
    both_lack : (key : ℕ) (xs ys : Items) → has_key key xs ≡ false → has_key key ys ≡ false → has_key key (xs ++ ys) ≡ false
    both_lack key xs ys front back = Rattle.hp_chain.proofs.Keys.lacks_both key xs ys front back

-- busy elements in the place of busy ones
pub tied_busy : (xs es more ys : Items) (lists : List (List (Keyed ℕ))) → AreBusy es → AreBusy more → IsTied (xs ++ (es ++ ys)) lists → IsTied (xs ++ (more ++ ys)) lists
tied_busy xs es more ys lists busy now_busy tied class within =
    tied class within ∙ links_past class xs es ys busy ∙ sym (links_past class xs more ys now_busy)

-- a free element becomes busy: it leaves its list
pub tied_leaves : (xs : Items) (e b : Keyed Span) (ys : Items) (lists : List (List (Keyed ℕ))) → AreApart (xs ++ e ∷ ys) → is_free b.value ≡ false
    → IsTied (xs ++ e ∷ ys) lists → IsTied (xs ++ b ∷ ys) (without e.key lists)
tied_leaves xs e b ys lists apart busy tied class within =
    list_at-map (without_key e.key) lists class refl
    ∙ ap (λ (list : List (Keyed ℕ)). without_key e.key list) (tied class within)
    ∙ sym (links-without class xs e ys apart)
    ∙ sym (links_past class xs (b ∷ []) ys (busy, tt))

-- a busy element becomes free with the greatest stamp: it comes to the head of its list
pub tied_head : (xs : Items) (e f : Keyed Span) (ys : Items) (lists : List (List (Keyed ℕ))) → length lists ≡ 13 → is_free e.value ≡ false → is_free f.value ≡ true
    → AllByRecursion (λ (o : Keyed Span). stamp_of o.value < stamp_of f.value) (xs ++ ys) → IsTied (xs ++ e ∷ ys) lists → IsTied (xs ++ f ∷ ys) (with_head f.key f.value.whole lists)
tied_head xs e f ys lists count busy free below tied class within = by_class (nat_eq (range_class f.value) class) refl
  where
    was : list_at lists class ≡ links_of (xs ++ ys) class
    was = tied class within ∙ links_past class xs (e ∷ []) ys (busy, tt)

    own : ℕ
    own = range_class f.value

    by_class : (b : Bool) → nat_eq (range_class f.value) class ≡ b → list_at (with_head f.key f.value.whole lists) class ≡ links_of (xs ++ f ∷ ys) class
    by_class true same =
        let is : range_class f.value ≡ class = eqb-true (range_class f.value) class same in
        ap (λ (c : ℕ). list_at (with_head f.key f.value.whole lists) c) (sym is)
        ∙ get_or-set_same lists (range_class f.value) (link_of f ∷ list_at lists (range_class f.value)) [] (omega (arith, class_under f.value, count))
        ∙ ap (λ (c : ℕ). link_of f ∷ list_at lists c) is
        ∙ ap (λ (list : List (Keyed ℕ)). link_of f ∷ list) was
        ∙ ap (λ (b : Bool). cond b (link_of f ∷ links_of (xs ++ ys) class) (links_of (xs ++ ys) class)) (sym same)
        ∙ sym (links-head class xs f ys free below)
    by_class false differs =
        get_or-set_other lists (range_class f.value) class (link_of f ∷ list_at lists (range_class f.value)) [] (λ same. eqb-false (range_class f.value) class differs (sym same))
        ∙ was
        ∙ ap (λ (b : Bool). cond b (link_of f ∷ links_of (xs ++ ys) class) (links_of (xs ++ ys) class)) (sym differs)
        ∙ sym (links-head class xs f ys free below)
