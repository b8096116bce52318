-- The cut of pages over elements under keys is that of the plain heap.
use Rattle.std.proofs.Common.{◌≡◌, ℕ, ◌+◌, ◌-◌, ◌*◌, ◌/◌, ◌^◌, ◌<◌, ◌≤◌, Bool, true, false, List, ◌∷◌, ◌++◌, Option, Some, None, IsSome, IsSomeAnd, IfSome, MatchOption, is_some, refl, sym, ap, subst, ◌∙◌, inl, inr, arith, nat_lt, Contains}
use Rattle.std.proofs.Math.Nat.{add-mul, mul-le-mul_right, mul-div_cancel}
use Rattle.std.proofs.lemmas.Bool.{both_ways, cases_Bool, lt-ltb}
use Rattle.std.proofs.lemmas.Option.{same_Some, none-some}
use Rattle.std.specs.List.{find}
use Rattle.std.specs.Option.{option_map, option_and_then}
use Rattle.hp_base.specs.declared.span.Span.{Span}
use Rattle.hp_base.specs.declared.row.Run.{Run}
use Rattle.hp_heap.specs.declared.body.Body.TheInside.{Inside}
use Rattle.hp_heap.specs.declared.page_list.PageList.{PageList}
use Rattle.hp_heap.specs.PlainHeap.{PlainHeap, HeapPage, end_of, is_free}
use Rattle.hp_heap.specs.LaidOut.{IsPage}
use Rattle.hp_heap.specs.Tiling.{IsTiled, in_range, range_at}
use Rattle.hp_heap.specs.Placing.{replaced}
use Rattle.hp_heap.specs.Cut.{PageCut, HasNoCut, cut_from, cut_to, is_page_at, stretch_of, stretch_if_free, cut_at, run_of, rests_of, is_cut_page, after_cut, after_cut_of}
use Rattle.hp_heap.specs.Headers.{HeadersView, spans_of}
use Rattle.hp_heap.specs.Inside.{plain_of, IsHeap}
use Rattle.hp_heap.specs.Laws.{IsFreeAt, HasNoPagesAt, CutsRun, IsRunCut}
use Rattle.hp_heap.specs.PageLists.{list_at, LiesOn, AreNoted, LiesWithin, AreListed}
use Rattle.hp_heap.specs.PageCutting.{IsTakenOut, IsLeftWhole, CutsOut, insertions_cut}
use Rattle.hp_heap.proofs.AllocFacts.ChoiceLaw.{AllByRecursion-contains}
use Rattle.hp_heap.proofs.Members.{AllByRecursion-each, AllByRecursion-kept, find_some, counted_once}
use Rattle.hp_heap.proofs.RangeLemmas.{replaced-at}
use Rattle.hp_heap.proofs.AllocFacts.SplitLemmas.{spans-append}
use Rattle.hp_heap.proofs.AllocFacts.AllocLaw.{parted}
use Rattle.hp_heap.proofs.LaidLemmas.{first_byte, element_of}
use Rattle.hp_heap.proofs.CutFacts.CutLaw.{cut-is-widest}
use Rattle.hp_heap.proofs.CutFacts.CutPages.{IsCutOf, byte_page, large_pages, cut_cases, cuts_pages}

-- an element of a socket heap lies within the slots of what was noted of its list
module _ (heap : PlainHeap) (lists : List PageList) (tiled : IsTiled heap) (some : IsSome heap.serves) (noted : AreNoted heap.pages lists) where
  on_list : (r : Span) (page : HeapPage) → Contains heap.pages page → page.list ≡ r.list → IsSomeAnd (list_at r.list lists) (LiesOn page)
  on_list r page has list =
      subst (λ (l : ℕ). IsSomeAnd (list_at l lists) (LiesOn page)) list (AllByRecursion-contains (λ g. IsSomeAnd (list_at g.list lists) (LiesOn g)) heap.pages page noted has)

  between : (r : Span) (low high : HeapPage) (o : Option PageList) → IsPage low → IsPage high → low.page ≡ r.page → high.page ≡ r.page → 0 < r.page → low.addr ≤ r.addr → end_of r ≤ high.addr + r.page
      → IsSomeAnd o (LiesOn low) → IsSomeAnd o (LiesOn high) → IsSomeAnd o (LiesWithin r)
  between r low high None low_is high_is low_size high_size large from to first last = absurd first
  between r low high (Some entry) low_is high_is low_size high_size large from to first last =
      let unit : entry.page ≡ r.page = sym last.size ∙ high_size in
      let place : high.addr ≡ entry.base + high.slot * r.page = last.place ∙ ap (λ (p : ℕ). entry.base + high.slot * p) unit in
      let most : (high.slot + 2) * r.page ≤ 2 ^ 32 * r.page = mul-le-mul_right r.page (omega (arith, high_is.slot)) in
      record {
        size = subst (λ (p : ℕ). Rattle.std.proofs.Common.IsTrue (Rattle.hp_base.specs.Pages.is_page_size p)) high_size high_is.size;
        base = omega (arith, first.place, from);
        slots = omega (arith, to, place, most, add-mul high.slot 2 r.page, large);
      }

  listed : (r : Span) → Contains heap.ranges r → IsSomeAnd (list_at r.list lists) (LiesWithin r)
  listed r has =
      let least = (element_of heap r tiled has).size.least in
      let low = byte_page heap r r.addr tiled some has (first_byte r least) in
      let high = byte_page heap r (end_of r - 1) tiled some has (last_byte r least) in
      between r low.page high.page (list_at r.list lists) low.is high.is low.size high.size (omega (arith, (large_pages heap r tiled some has).least)) low.from
      (let near : end_of r - 1 < high.page.addr + r.page = subst (λ (p : ℕ). end_of r - 1 < high.page.addr + p) high.size high.to in omega (arith, near, least))
      (on_list r low.page low.among low.list) (on_list r high.page high.among high.list)
    where
      last_byte : (r : Span) → 192 ≤ r.whole → in_range (end_of r - 1) r ≡ true
      last_byte r least = Rattle.std.proofs.lemmas.Bool.and_from _ _ (Rattle.std.proofs.lemmas.Bool.le-leb r.addr (end_of r - 1) (omega (arith, least))) (lt-ltb (end_of r - 1) (end_of r) (omega (arith, least)))

  pub all_listed : AreListed heap.ranges lists
  all_listed = AllByRecursion-each (λ r. IsSomeAnd (list_at r.list lists) (LiesWithin r)) heap.ranges (λ r has. listed r has)

-- of the fields of a heap
pub listed_of : (a : Inside) (lists : List PageList) (of_socket : Bool) → IsHeap a → lists ≡ a.page_lists.items → of_socket ≡ is_some a.serves → of_socket ≡ true → AreListed (spans_of a.headers.items) lists
listed_of a lists of_socket heap same serves on =
    subst (λ (rs : List Span). AreListed rs lists) (sym heap.ranges)
    (all_listed (plain_of a) lists heap.tiled (ap (λ (o : Option ℕ). is_some o) heap.serves ∙ sym serves ∙ on)
    (subst (λ (ls : List PageList). AreNoted (plain_of a).pages ls) (sym same) heap.lists))

-- what a cut leaves is the heap after it
pub record IsAfterCut (addr : ℕ) (heap : PlainHeap) (new : HeadersView) (result : Option Run) : Type 0 where
  pub ranges : spans_of new.items ≡ (after_cut addr heap).ranges
  pub insertions : new.insertions ≡ (after_cut addr heap).insertions
  pub run : result ≡ option_map run_of (cut_at addr heap)

module _ (addr : ℕ) (heap : PlainHeap) (lists : List PageList) (tiled : IsTiled heap) (noted : AreNoted heap.pages lists)
    (old new : HeadersView) (is : spans_of old.items ≡ heap.ranges) (insertions : old.insertions ≡ heap.insertions) where
  -- the pages that go from an element, with the slot and the socket of a page
  abbrev gone : Span → HeapPage → PageCut
  gone r page = record { range = r; from = cut_from r; to = cut_to r; slot = page.slot; socket = page.socket }

  -- nothing went
  no_stretch : (o : Option Span) → IfSome o (λ range. is_free range ≡ true → nat_lt (cut_from range) (cut_to range) ≡ false) → option_and_then (λ range. stretch_if_free range heap) o ≡ None
  no_stretch None none = refl
  no_stretch (Some range) none = elim (cases_Bool (is_free range)) [
    | inl free ↦ (let short = none free in rw free (rw short refl))
    | inr busy ↦ rw busy refl
  ]

  left_cut : IsLeftWhole (is_some heap.serves) addr old new → cut_at addr heap ≡ None
  unfolding cut_at range_at
  left_cut left = elim (cases_Bool (is_some heap.serves)) [
    | inl on ↦ rw on (no_stretch (find (in_range addr) heap.ranges)
        (subst (λ (rs : List Span). IfSome (find (in_range addr) rs) (λ range. is_free range ≡ true → nat_lt (cut_from range) (cut_to range) ≡ false)) is (left.none on)))
    | inr off ↦ rw off refl
  ]

  left_after : IsLeftWhole (is_some heap.serves) addr old new → IsAfterCut addr heap new None
  unfolding after_cut
  left_after left = let none = left_cut left in record {
    ranges = ap spans_of left.items ∙ is ∙ ap (λ (o : Option PageCut). (after_cut_of o heap).ranges) (sym none);
    insertions = left.insertions ∙ insertions ∙ ap (λ (o : Option PageCut). (after_cut_of o heap).insertions) (sym none);
    run = ap (λ (o : Option PageCut). option_map run_of o) (sym none);
  }

  -- a stretch went
  module _ (run : Run) (on : is_some heap.serves ≡ true) (taken : IsTakenOut lists addr old new run) where
    abbrev r : Span
    r = taken.found.value

    found : find (in_range addr) heap.ranges ≡ Some r
    found = ap (λ (rs : List Span). find (in_range addr) rs) (sym is) ∙ taken.found_is

    by_stretch : cut_at addr heap ≡ stretch_of r heap
    unfolding cut_at range_at
    by_stretch = rw on (ap (λ (o : Option Span). option_and_then (λ range. stretch_if_free range heap) o) found ∙ if_free)
      where
        if_free : stretch_if_free r heap ≡ stretch_of r heap
        if_free = rw taken.free refl

    by_page : cut_at addr heap ≡ option_map (λ page. gone r page) (find (is_page_at r.list (cut_from r)) heap.pages)
    by_page = by_stretch ∙ rw (lt-ltb (cut_from r) (cut_to r) taken.some) refl

    there : IsFreeAt addr heap r
    there = let one = find_some (in_range addr) heap.ranges r found in record { among = one.1; contains = one.0; free = taken.free }

    -- some page goes
    not_none : HasNoPagesAt addr heap → ⊥
    not_none (inl off) = both_ways (is_some heap.serves) off on
    not_none (inr (inl none)) = none r there
    not_none (inr (inr (q, at, no_cut))) =
        let same : q ≡ r = counted_once (in_range addr) heap.ranges q r (tiled.tiling.single addr) (at.contains, at.among) (there.contains, there.among) in
        let short : HasNoCut r = subst HasNoCut same no_cut in
        short (cut_from r) (cut_to r) (cut-is-widest r (large_pages heap r tiled on there.among).least taken.some).cut

    mapped : (cut : PageCut) (o : Option HeapPage) → Some cut ≡ option_map (λ page. gone r page) o → (page : HeapPage) × (cut ≡ gone r page)
    mapped cut None off = absurd (none-some cut (sym off))
    mapped cut (Some page) same = (page, same_Some cut (gone r page) same)

    -- the page at which they begin lies on what was noted of the list
    module _ (page : HeapPage) (of : IsCutOf addr heap (gone r page)) where
      begins : LiesOn of.first taken.entry
      begins = subst (λ (o : Option PageList). IsSomeAnd o (LiesOn of.first)) taken.noted (on_list heap lists tiled on noted r of.first of.in_it.among of.in_it.list)

      slot_is : (cut_from r - taken.entry.base) / r.page ≡ page.slot
      slot_is =
          let unit : taken.entry.page ≡ r.page = sym begins.size ∙ of.in_it.size in
          let place : cut_from r ≡ taken.entry.base + of.first.slot * r.page = sym of.in_it.addr ∙ begins.place ∙ ap (λ (p : ℕ). taken.entry.base + of.first.slot * p) unit in
          let pages : cut_from r - taken.entry.base ≡ of.first.slot * r.page = omega (arith, place) in
          ap (λ (n : ℕ). n / r.page) pages ∙ mul-div_cancel of.first.slot (omega (arith, of.large.least)) ∙ sym of.slot

      abbrev run_with : ℕ → ℕ → Run
      run_with slot socket = record { list = r.list; first = slot; count = (cut_to r - cut_from r) / r.page; addr = cut_from r; page = r.page; socket = socket }

      run_is : run ≡ run_of (gone r page)
      run_is = taken.run_is ∙ ap (λ (n : ℕ). run_with n taken.entry.socket) slot_is ∙ ap (λ (n : ℕ). run_with page.slot n) (sym begins.socket ∙ sym of.socket)

      by_cut : cut_at addr heap ≡ Some (gone r page) → IsAfterCut addr heap new (Some run)
      unfolding after_cut
      by_cut cut_is =
          let front = spans_of taken.front in
          let back = spans_of taken.back in
          let whole : heap.ranges ≡ front ++ (r ∷ back) = sym is ∙ ap spans_of taken.is ∙ spans-append taken.front (taken.found ∷ taken.back) in
          let part = parted heap r front back tiled whole in
          record {
            ranges = taken.spans
                ∙ ap (λ (n : ℕ). front ++ (rests_of (gone r page) n ++ back)) insertions
                ∙ sym (replaced-at r.addr (rests_of (gone r page) heap.insertions) front r back part.below refl)
                ∙ ap (λ (zs : List Span). replaced r.addr (rests_of (gone r page) heap.insertions) zs) (sym whole)
                ∙ ap (λ (o : Option PageCut). (after_cut_of o heap).ranges) (sym cut_is);
            insertions = taken.insertions
                ∙ ap (λ (n : ℕ). insertions_cut r (cut_from r) (cut_to r) n) insertions
                ∙ ap (λ (o : Option PageCut). (after_cut_of o heap).insertions) (sym cut_is);
            run = ap (λ (q : Run). Some q) run_is ∙ ap (λ (o : Option PageCut). option_map run_of o) (sym cut_is);
          }

    taken_after : IsAfterCut addr heap new (Some run)
    taken_after = elim (cut_cases addr heap tiled) [
      | inl none ↦ absurd (not_none none.0)
      | inr some ↦ (let (page, same) = mapped some.0 (find (is_page_at r.list (cut_from r)) heap.pages) (sym some.1 ∙ by_page) in
          by_cut page (subst (λ (c : PageCut). IsCutOf addr heap c) same some.2) (some.1 ∙ ap (λ (c : PageCut). Some c) same))
    ]

-- of the fields of a heap
pub cut_after : (a : Inside) (addr : ℕ) (lists : List PageList) (of_socket : Bool) (new : HeadersView) (result : Option Run) → IsHeap a → lists ≡ a.page_lists.items → of_socket ≡ is_some a.serves
    → CutsOut lists of_socket addr a.headers new result → IsAfterCut addr (plain_of a) new result
cut_after a addr lists of_socket new None heap same serves left =
    left_after addr (plain_of a) lists heap.tiled (subst (λ (ls : List PageList). AreNoted (plain_of a).pages ls) (sym same) heap.lists) a.headers new heap.ranges heap.insertions
    (subst (λ (b : Bool). IsLeftWhole b addr a.headers new) (serves ∙ ap (λ (o : Option ℕ). is_some o) (sym heap.serves)) left)
cut_after a addr lists of_socket new (Some run) heap same serves (on, taken) =
    taken_after addr (plain_of a) lists heap.tiled (subst (λ (ls : List PageList). AreNoted (plain_of a).pages ls) (sym same) heap.lists) a.headers new heap.ranges heap.insertions run
    (ap (λ (o : Option ℕ). is_some o) heap.serves ∙ sym serves ∙ on) taken

-- what a cut leaves alone, and that the pages that stay lie on their lists
pub record IsKeptByCut (old new : PlainHeap) (lists : List PageList) : Type 0 where
  pub name : old.name ≡ new.name
  pub socket : old.socket ≡ new.socket
  pub chunks : old.chunks ≡ new.chunks
  pub noted : AreNoted new.pages lists

kept_of : (heap : PlainHeap) (lists : List PageList) → AreNoted heap.pages lists → (o : Option PageCut) → IsKeptByCut heap (after_cut_of o heap) lists
kept_of heap lists noted None = record { name = refl; socket = refl; chunks = refl; noted = noted }
kept_of heap lists noted (Some cut) = record {
  name = refl;
  socket = refl;
  chunks = refl;
  noted = AllByRecursion-kept (λ (g : HeapPage). IsSomeAnd (list_at g.list lists) (LiesOn g)) (λ g. Rattle.std.proofs.Common.not (is_cut_page cut g)) heap.pages noted;
}

pub cut_kept : (heap : PlainHeap) (lists : List PageList) (addr : ℕ) → AreNoted heap.pages lists → IsKeptByCut heap (after_cut addr heap) lists
unfolding after_cut
cut_kept heap lists addr noted = kept_of heap lists noted (cut_at addr heap)

-- the answer in the subject's words
pub answered_run : (heap : PlainHeap) (addr : ℕ) (result : Option Run) → IsTiled heap → result ≡ option_map run_of (cut_at addr heap) → MatchOption result (HasNoPagesAt addr heap) (IsRunCut addr heap)
answered_run heap addr result tiled is =
    subst (λ (o : Option Run). MatchOption o (HasNoPagesAt addr heap) (IsRunCut addr heap)) (sym is) (of (cut_at addr heap) (cuts_pages addr heap tiled))
  where
    of : (o : Option PageCut) → MatchOption o (HasNoPagesAt addr heap) (CutsRun addr heap) → MatchOption (option_map run_of o) (HasNoPagesAt addr heap) (IsRunCut addr heap)
    of None none = none
    of (Some cut) runs = record { cut = cut; pages = runs; is = refl }
