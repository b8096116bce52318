-- A walk over elements under keys, from the first on.
use Rattle.std.proofs.Common.{◌≡◌, ℕ, ◌+◌, ◌<◌, ◌≤◌, true, false, cond, List, [], ◌∷◌, ◌++◌, nat_eq, length, refl, sym, ap, subst, ◌∙◌, arith, Option, Some, None, Result, Ok, Err, append_assoc, eq-eqb, append-nil}
use Rattle.std.proofs.lemmas.Bool.{or_parts, false≢true}
use Rattle.std.specs.Result.{is_ok, is_err}
use Rattle.hp_base.specs.declared.span.Span.{Span}
use Rattle.hp_chain.specs.Chain.{Keyed, AreApart, has_key, first_key}
use Rattle.hp_chain.proofs.Keys.{apart_middle, has_key-own, has_key_back}
use Rattle.hp_elem.specs.Items.{Items, Stands}
use Rattle.hp_elem.specs.declared.node.Node.{Node}
use Rattle.hp_heap.specs.Headers.{spans_of}
use Rattle.hp_heap.specs.Joins.{HasRoom}
use Rattle.hp_heap.specs.Statistics.{total_bytes}
use Rattle.hp_heap.specs.FreeSearch.{HasSpace}
use Rattle.hp_heap.specs.Walk.{from_key, rest_from, IsPassed}
use Rattle.hp_heap.proofs.AllocFacts.SplitLemmas.{spans-append}
use Rattle.hp_heap.proofs.HistoryFacts.Counting.{total-cons}
use Rattle.hp_heap.proofs.RangeLemmas.{AllByRecursion-front}

from_middle : (xs : Items) (e : Keyed Span) (ys : Items) → has_key e.key xs ≡ false → from_key e.key (xs ++ e ∷ ys) ≡ e ∷ ys
from_middle [] e ys lacks = rw (eq-eqb e.key e.key refl) refl
from_middle (x ∷ xs) e ys lacks = let parts = or_parts (nat_eq x.key e.key) (has_key e.key xs) lacks in rw parts.0 (from_middle xs e ys parts.1)

rest_first : (xs ys : Items) → AreApart (xs ++ ys) → rest_from (first_key ys None) (xs ++ ys) ≡ ys
rest_first xs [] apart = refl
rest_first xs (y ∷ ys) apart = from_middle xs y ys (apart_middle xs y ys apart).0

pub passed_none : (items : Items) → AreApart items → IsPassed items (first_key items None) []
passed_none items apart = record { is = sym (rest_first [] items apart); first = ap (λ (zs : Items). first_key zs None) (sym (rest_first [] items apart)) }

-- at a key, its element is the next one
pub record IsStep (items : Items) (next : Option ℕ) (node : Node) (passed : Items) : Type 0 where
  pub element : Keyed Span
  pub value : element.value ≡ node.span
  pub rest : rest_from next items ≡ element ∷ rest_from node.next items
  pub now : IsPassed items node.next (passed ++ element ∷ [])

pub walk_step : (items : Items) (key : ℕ) (node : Node) (passed : Items) → AreApart items → Stands items key node → IsPassed items (Some key) passed → IsStep items (Some key) node passed
walk_step items key node passed apart stands was =
    let e : Keyed Span = record { key = key; value = node.span } in
    let apart_parts = subst AreApart stands.is apart in
    let here : from_key key items ≡ e ∷ stands.back = ap (λ (zs : Items). from_key key zs) stands.is ∙ from_middle stands.front e stands.back (apart_middle stands.front e stands.back apart_parts).0 in
    let whole : items ≡ passed ++ e ∷ stands.back = was.is ∙ ap (λ (zs : Items). passed ++ zs) here in
    let more : items ≡ (passed ++ e ∷ []) ++ stands.back = whole ∙ sym (append_assoc passed (e ∷ []) stands.back) in
    let behind : rest_from node.next items ≡ stands.back =
    ap (λ (k : Option ℕ). rest_from k items) stands.next ∙ ap (λ (zs : Items). rest_from (first_key stands.back None) zs) more
    ∙ rest_first (passed ++ e ∷ []) stands.back (subst AreApart more apart) in
    record {
      element = e;
      value = refl;
      rest = here ∙ ap (λ (zs : Items). e ∷ zs) (sym behind);
      now = record {
        is = more ∙ ap (λ (zs : Items). (passed ++ e ∷ []) ++ zs) (sym behind);
        first = stands.next ∙ ap (λ (zs : Items). first_key zs None) (sym behind);
      };
    }

pub passed_has : (items : Items) (key : ℕ) (passed : Items) → IsPassed items (Some key) passed → has_key key items ≡ true
passed_has items key passed was = has (rest_from (Some key) items) was.is was.first
  where
    has : (rest : Items) → items ≡ passed ++ rest → Some key ≡ first_key rest None → has_key key items ≡ true
    has [] is first = absurd cc
    has (e ∷ es) is first =
        let same : key ≡ e.key = cc in
        ap (λ (zs : Items). has_key key zs) is ∙ has_key_back key passed (e ∷ es) (subst (λ (k : ℕ). has_key k (e ∷ es) ≡ true) (sym same) (has_key-own e es))

pub passed_all : (items : Items) (passed : Items) → IsPassed items None passed → items ≡ passed
passed_all items passed was = was.is ∙ append-nil passed

-- what was passed and the next one have no more bytes than all
total-append : (xs ys : List Span) → total_bytes (xs ++ ys) ≡ total_bytes xs + total_bytes ys
total-append [] ys = omega arith
total-append (x ∷ xs) ys = omega (arith, total-cons x (xs ++ ys), total-append xs ys, total-cons x xs)

pub total_step : (items : Items) (next : Option ℕ) (node : Node) (passed : Items) → IsPassed items next passed → IsStep items next node passed
    → total_bytes (spans_of passed) + node.span.whole ≤ total_bytes (spans_of items)
total_step items next node passed was step =
    let e = step.element in
    let is : spans_of items ≡ spans_of passed ++ (e.value ∷ spans_of (rest_from node.next items)) =
    ap spans_of (was.is ∙ ap (λ (zs : Items). passed ++ zs) step.rest) ∙ spans-append passed (e ∷ rest_from node.next items) in
    omega (arith, ap total_bytes is, total-append (spans_of passed) (e.value ∷ spans_of (rest_from node.next items)), total-cons e.value (spans_of (rest_from node.next items)), ap (λ (s : Span). s.whole) step.value)

-- elements with bytes are no more than their bytes
pub length_below : (xs : List Span) → HasRoom xs → length xs ≤ total_bytes xs
length_below [] room = omega arith
length_below (x ∷ xs) room = omega (arith, room.0.some, length_below xs room.1, total-cons x xs)

-- a step of a walk, as a loop has it
pub step_at : (items : Items) (next : Option ℕ) (key : ℕ) (node : Node) (passed : Items) → AreApart items → next ≡ Some key → Stands items key node → IsPassed items next passed → IsStep items next node passed
step_at items next key node passed apart is stands was =
    subst (λ (o : Option ℕ). IsStep items o node passed) (sym is) (walk_step items key node passed apart stands (subst (λ (o : Option ℕ). IsPassed items o passed) is was))

pub has_at : (items : Items) (next : Option ℕ) (key : ℕ) (passed : Items) → next ≡ Some key → IsPassed items next passed → has_key key items ≡ true
has_at items next key passed is was = passed_has items key passed (subst (λ (o : Option ℕ). IsPassed items o passed) is was)

pub step_smaller : (items : Items) (next : Option ℕ) (node : Node) (passed : Items) → IsStep items next node passed → length (rest_from node.next items) < length (rest_from next items)
step_smaller items next node passed step = omega (arith, ap (λ (zs : Items). length zs) step.rest)

-- one more element that was passed
pub spans_more : (items : Items) (next : Option ℕ) (node : Node) (passed : Items) (step : IsStep items next node passed) → spans_of (passed ++ step.element ∷ []) ≡ spans_of passed ++ (node.span ∷ [])
spans_more items next node passed step = spans-append passed (step.element ∷ []) ∙ ap (λ (s : Span). spans_of passed ++ (s ∷ [])) step.value

-- what was passed is within all
pub passed_total : (items : Items) (next : Option ℕ) (passed : Items) → IsPassed items next passed → total_bytes (spans_of passed) ≤ total_bytes (spans_of items)
passed_total items next passed was = omega (arith, ap (λ (zs : Items). total_bytes (spans_of zs)) was.is, ap total_bytes (spans-append passed (rest_from next items)), total-append (spans_of passed) (spans_of (rest_from next items)))

pub passed_room : (items : Items) (next : Option ℕ) (passed : Items) → IsPassed items next passed → HasRoom (spans_of items) → HasRoom (spans_of passed)
passed_room items next passed was room =
    AllByRecursion-front HasSpace (spans_of passed) (spans_of (rest_from next items)) (subst HasRoom (ap spans_of was.is ∙ spans-append passed (rest_from next items)) room)

-- what a call gave that did not fail
pub pushed_ok : {T E X : Type 0} (r : Result T E) (xs ys : X) → is_err r ≡ false → cond (is_ok r) xs ys ≡ xs
pushed_ok (Ok t) xs ys off = refl
pushed_ok (Err e) xs ys off = absurd (false≢true (sym off))

-- the element at a key is the first of those that are left
pub spans_step : (items : Items) (next : Option ℕ) (node : Node) (passed : Items) → IsStep items next node passed → spans_of (rest_from next items) ≡ node.span ∷ spans_of (rest_from node.next items)
spans_step items next node passed step = ap spans_of step.rest ∙ ap (λ (s : Span). s ∷ spans_of (rest_from node.next items)) step.value
