-- The element that contains an address, found at the head of a free list.
use Rattle.std.proofs.Common.{◌≡◌, ℕ, ◌-◌, ◌≤◌, Bool, true, false, ◌&&◌, [], ◌∷◌, ◌++◌, Some, None, Option, IfSome, refl, sym, ap, subst, ◌∙◌, arith, nat_le, nat_lt}
use Rattle.std.proofs.lemmas.Bool.{cond-true, cond-false, and_parts, leb-true, le-ltb}
use Rattle.std.specs.List.{find}
use Rattle.hp_base.specs.Class.{class_number}
use Rattle.hp_base.specs.declared.span.Span.{Span}
use Rattle.hp_chain.specs.Chain.{Keyed, AreApart}
use Rattle.hp_elem.specs.declared.node.Node.{Node}
use Rattle.hp_elem.specs.Items.{Items, Stands, contains, key_at}
use Rattle.hp_heap.specs.PlainHeap.{end_of, is_free}
use Rattle.hp_heap.specs.Lists.{range_class}
use Rattle.hp_heap.specs.Tiling.{IsRisingFrom, in_range}
use Rattle.hp_heap.specs.Headers.{HeadersView, IsFirstFree, spans_of}
use Rattle.hp_heap.specs.Finding.{IsOfHeap}
use Rattle.hp_heap.specs.PageCutting.{FindsFree}
use Rattle.hp_heap.proofs.RangeLemmas.{rising_behind}
use Rattle.hp_heap.proofs.SpanLemmas.{span_in}
use Rattle.hp_heap.proofs.AllocFacts.SplitLemmas.{holds_of}
use Rattle.hp_heap.proofs.CutFacts.CutLemmas.{node_at}
use Rattle.hp_heap.proofs.QuestionLemmas.{value_none, value_some}

and_false : (b : Bool) → (b && false) ≡ false
and_false true = refl
and_false false = refl

-- of elements that rise, one that contains an address is the first that does
first_holding : (addr from : ℕ) (front : Items) (e : Keyed Span) (back : Items) → IsRisingFrom from (spans_of (front ++ e ∷ back)) → contains addr e ≡ true → find (contains addr) (front ++ e ∷ back) ≡ Some e
first_holding addr from [] e back rising passes = cond-true (contains addr e) (Some e) (find (contains addr) back) passes
first_holding addr from (x ∷ front) e back rising passes =
    let behind : end_of x.value ≤ e.value.addr
    = span_in (λ (y : Span). end_of x.value ≤ y.addr) (front ++ e ∷ back) front e back refl (rising_behind (end_of x.value) (spans_of (front ++ e ∷ back)) rising.1) in
    let above : e.value.addr ≤ addr = leb-true e.value.addr addr (and_parts (nat_le e.value.addr addr) (nat_lt addr (end_of e.value)) passes).0 in
    let fails : contains addr x ≡ false = rw (le-ltb addr (end_of x.value) (omega (arith, behind, above))) (and_false (nat_le x.value.addr addr)) in
    cond-false (contains addr x) (Some x) (find (contains addr) (front ++ e ∷ back)) fails ∙ first_holding addr (end_of x.value) front e back rising.1 passes

pub held_by : (headers : HeadersView) (addr key : ℕ) (node : Node) → IsOfHeap headers → Stands headers.items key node → in_range addr node.span ≡ true → key_at addr headers.items ≡ Some key
held_by headers addr key node of_heap stands passes =
    let e : Keyed Span = record { key = key; value = node.span } in
    ap (λ (zs : Items). key_at addr zs) stands.is
    ∙ ap (λ (o : Option (Keyed Span)). Rattle.std.specs.Option.option_map (λ (e : Keyed Span). e.key) o)
    (first_holding addr 0 stands.front e stands.back (subst (λ (zs : Items). IsRisingFrom 0 (spans_of zs)) stands.is of_heap.joinable.rising) passes)

-- what is found from a class upwards is of such a class
pub class_of_head : (test : ℕ → Bool → Type 0) (class : ℕ) (items : Items) (key : ℕ) (node : Node) → AreApart items → IsFirstFree test class items key → Stands items key node
    → class ≤ class_number (node.span.whole - 128)
class_of_head test class items key node apart first stands =
    subst (λ (s : Span). class ≤ range_class s) (holds_of (λ span. span ≡ node.span) key items first.front first.found first.back apart first.is first.same (node_at items key node stands)) first.upwards

-- the free element that contains an address
module _ (addr : ℕ) (items : Items) where
  pub free_none : key_at addr items ≡ None → FindsFree addr items None
  free_none none = subst (λ (o : Option Span). IfSome o (λ range. is_free range ≡ false)) (sym (value_none (in_range addr) items none)) tt

  module _ (key : ℕ) (node : Node) (apart : AreApart items) (is : key_at addr items ≡ Some key) (stands : Stands items key node) where
    pub free_here : is_free node.span ≡ true → FindsFree addr items (Some key)
    free_here free = record {
      front = stands.front;
      found = record { key = key; value = node.span };
      back = stands.back;
      is = stands.is;
      same = refl;
      free = free;
      found_is = value_some (in_range addr) items key node is apart stands;
    }

    pub busy_here : is_free node.span ≡ false → FindsFree addr items None
    busy_here busy = subst (λ (o : Option Span). IfSome o (λ range. is_free range ≡ false)) (sym (value_some (in_range addr) items key node is apart stands)) busy
