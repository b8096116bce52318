-- The cut of pages over elements under keys: what it needs of the list of the element, and what it leaves.
use Rattle.std.proofs.Common.{◌≡◌, ℕ, ◌^◌, ◌<◌, ◌≤◌, Bool, true, false, List, ◌∷◌, ◌++◌, Option, Some, None, IsSome, IsSomeAnd, IfSome, IsTrue, refl, sym, ap, subst, ◌∙◌, arith, nat_lt}
use Rattle.std.proofs.lemmas.Bool.{le-ltb}
use Rattle.std.specs.List.{find}
use Rattle.hp_base.proofs.PageLemmas.{page_is_power, page_pos}
use Rattle.hp_base.specs.Pages.{is_page_size}
use Rattle.hp_base.specs.declared.span.Span.{Span}
use Rattle.hp_base.specs.declared.row.Run.{Run}
use Rattle.hp_chain.specs.Chain.{AreApart}
use Rattle.hp_elem.specs.declared.node.Node.{Node}
use Rattle.hp_elem.specs.Items.{Items, IsAt, Stands}
use Rattle.hp_heap.specs.declared.page_list.PageList.{PageList}
use Rattle.hp_heap.specs.PlainHeap.{end_of, is_free}
use Rattle.hp_heap.specs.Tiling.{in_range}
use Rattle.hp_heap.specs.Cut.{IsCut, cut_from, cut_to, rests_of}
use Rattle.hp_heap.specs.Headers.{HeadersView, spans_of}
use Rattle.hp_heap.specs.PageLists.{list_at, LiesWithin, AreListed}
use Rattle.hp_heap.specs.PageCutting.{HasFreeAt, CanTakeOut, CanRound, IsInSlots, IsTakenOut, IsLeftWhole, bare_cut, insertions_cut, run_on}
use Rattle.hp_heap.proofs.CutFacts.CutLaw.{cut-is-widest}
use Rattle.hp_heap.proofs.GrowLaw.{page_size_large}
use Rattle.hp_heap.proofs.SpanLemmas.{span_in}
use Rattle.hp_heap.proofs.AllocFacts.SplitLemmas.{holds_of}
use Rattle.hp_heap.proofs.CutFacts.CutLemmas.{node_at}

-- the element under a key lies within the slots of a list
module _ (lists : List PageList) (items : Items) (key : ℕ) (node : Node) (listed : AreListed (spans_of items) lists) (stands : Stands items key node) where
  here : IsSomeAnd (list_at node.span.list lists) (LiesWithin node.span)
  here = span_in (λ (r : Span). IsSomeAnd (list_at r.list lists) (LiesWithin r)) items stands.front (record { key = key; value = node.span }) stands.back stands.is listed

  some_of : (o : Option PageList) → IsSomeAnd o (LiesWithin node.span) → IsSome o
  some_of None none = absurd none
  some_of (Some entry) lies = refl

  pub list_known : IsSome (list_at node.span.list lists)
  list_known = some_of (list_at node.span.list lists) here

  size_of : (o : Option PageList) → IsSomeAnd o (LiesWithin node.span) → IsTrue (is_page_size node.span.page)
  size_of None none = absurd none
  size_of (Some entry) lies = lies.size

  pub size_known : IsTrue (is_page_size node.span.page)
  size_known = size_of (list_at node.span.list lists) here

  pub lies_within : (entry : PageList) → list_at node.span.list lists ≡ Some entry → LiesWithin node.span entry
  lies_within entry noted = subst (λ (o : Option PageList). IsSomeAnd o (LiesWithin node.span)) noted here

-- its whole pages lie within numbers of 64 bits
pub can_round : (range : Span) → IsTrue (is_page_size range.page) → end_of range ≤ 2 ^ 63 → CanRound range
can_round range size end = record { some = page_pos range.page size; most = (page_is_power range.page size).1; end = end }

-- a computed stretch of an element
module _ (r : Span) (from to : ℕ) (size : IsTrue (is_page_size r.page)) (from_is : from ≡ cut_from r) (to_is : to ≡ cut_to r) (rises : from < to) where
  pub computed_cut : IsCut r from to
  computed_cut =
      subst (λ (a : ℕ). IsCut r a to) (sym from_is)
      (subst (λ (b : ℕ). IsCut r (cut_from r) b) (sym to_is) (cut-is-widest r (page_size_large r.page size).least (omega (arith, rises, from_is, to_is))).cut)

  pub in_slots : (entry : PageList) → LiesWithin r entry → IsInSlots entry r from to
  in_slots entry lies = record {
    some = page_pos r.page size;
    base = omega (arith, lies.base, computed_cut.before);
    rises = omega (arith, rises);
    slots = omega (arith, lies.slots, computed_cut.behind);
  }

  pub may_take : (items : Items) (key : ℕ) (node : Node) → node.span ≡ r → AreApart items → Stands items key node → is_free r ≡ true → end_of r ≤ 2 ^ 63 → IsAt (CanTakeOut from to) key items
  may_take items key node same apart stands free end = record {
    front = stands.front;
    found = record { key = key; value = node.span };
    back = stands.back;
    is = stands.is;
    same = refl;
    holds = subst (λ (s : Span). CanTakeOut from to s) (sym same) (record { free = free; cut = computed_cut; end = end });
  }

-- the free element that was found is that of the header under its key
pub free_node : (addr : ℕ) (items : Items) (key : ℕ) (node : Node) → AreApart items → HasFreeAt addr items key → Stands items key node → is_free node.span ≡ true
free_node addr items key node apart found stands =
    holds_of (λ span. is_free span ≡ true) key items stands.front (record { key = key; value = node.span }) stands.back apart stands.is refl
    (record { front = found.front; found = found.found; back = found.back; is = found.is; same = found.same; holds = found.free })

pub found_node : (addr : ℕ) (items : Items) (key : ℕ) (node : Node) → AreApart items → HasFreeAt addr items key → Stands items key node → find (in_range addr) (spans_of items) ≡ Some node.span
found_node addr items key node apart found stands =
    found.found_is ∙ ap (λ (s : Span). Some s) (holds_of (λ span. span ≡ node.span) key items found.front found.found found.back apart found.is found.same (node_at items key node stands))

-- nothing goes
module _ (of_socket : Bool) (addr : ℕ) (old : HeadersView) where
  pub left_short : (r : Span) (from to : ℕ) → find (in_range addr) (spans_of old.items) ≡ Some r → from ≡ cut_from r → to ≡ cut_to r → to ≤ from → IsLeftWhole of_socket addr old old
  left_short r from to found from_is to_is short = record {
    none = λ on. subst (λ (o : Option Span). IfSome o (λ range. is_free range ≡ true → nat_lt (cut_from range) (cut_to range) ≡ false)) (sym found)
        (λ free. le-ltb (cut_from r) (cut_to r) (omega (arith, short, from_is, to_is)));
    items = refl;
    insertions = refl;
  }

-- a stretch went
pub taken_out : (lists : List PageList) (addr : ℕ) (old new : HeadersView) (run : Run) (r : Span) (key from to : ℕ) (front back : Items) (entry : PageList)
    → old.items ≡ front ++ (record { key = key; value = r }) ∷ back → is_free r ≡ true → find (in_range addr) (spans_of old.items) ≡ Some r
    → from ≡ cut_from r → to ≡ cut_to r → from < to → list_at r.list lists ≡ Some entry → run ≡ run_on entry r from to
    → spans_of new.items ≡ spans_of front ++ (rests_of (bare_cut r from to) old.insertions ++ spans_of back)
    → new.insertions ≡ insertions_cut r from to old.insertions → IsTakenOut lists addr old new run
taken_out lists addr old new run r key from to front back entry is free found from_is to_is rises noted run_is spans insertions = record {
  front = front;
  found = record { key = key; value = r };
  back = back;
  is = is;
  free = free;
  found_is = found;
  some = omega (arith, rises, from_is, to_is);
  entry = entry;
  noted = noted;
  run_is = run_is ∙ ap (λ (a : ℕ). run_on entry r a to) from_is ∙ ap (λ (b : ℕ). run_on entry r (cut_from r) b) to_is;
  spans = spans
      ∙ ap (λ (a : ℕ). spans_of front ++ (rests_of (bare_cut r a to) old.insertions ++ spans_of back)) from_is
      ∙ ap (λ (b : ℕ). spans_of front ++ (rests_of (bare_cut r (cut_from r) b) old.insertions ++ spans_of back)) to_is;
  insertions = insertions
      ∙ ap (λ (a : ℕ). insertions_cut r a to old.insertions) from_is
      ∙ ap (λ (b : ℕ). insertions_cut r (cut_from r) b old.insertions) to_is;
}
