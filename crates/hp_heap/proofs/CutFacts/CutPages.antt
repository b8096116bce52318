-- The pages that a cut takes: exactly those of the run that it answers.
use Rattle.std.proofs.Common.{◌≡◌, ℕ, ◌+◌, ◌-◌, ◌*◌, ◌/◌, ◌%◌, ◌<◌, ◌≤◌, ◌⊎◌, Bool, true, false, not, ◌&&◌, refl, sym, ap, subst, ◌∙◌, inl, inr, arith, Option, Some, None, MatchOption, IsSome, is_some, Contains, eqb, leb, ltb}
use Rattle.std.proofs.Math.Nat.{add-mul, le_of_mul-le-mul_right, lt_of_mul-lt-mul_right, mul-le-mul_right, mul-div_cancel, add-mul-mod_self_right}
use Rattle.std.proofs.lemmas.Bool.{and_parts, and_from, cond_both, cases_Bool, false≢true, eqb-true, eq-eqb, leb-true, le-leb, lt-leb, ltb-true, ltb-false, lt-ltb, not-true}
use Rattle.std.specs.List.{filter, find}
use Rattle.std.specs.Option.{option_and_then, option_map}
use Rattle.hp_base.proofs.Rounding.{multiple_is, aligned_apart}
use Rattle.hp_base.specs.declared.span.Span.{Span}
use Rattle.hp_heap.specs.PlainHeap.{PlainHeap, HeapPage, Extent, end_of, is_free, page_extent}
use Rattle.hp_heap.specs.LaidOut.{IsPage}
use Rattle.hp_heap.specs.Tiling.{IsTiled, in_range, in_segment, range_at}
use Rattle.hp_heap.specs.Cut.{cut_from, cut_to, is_page_at, stretch_of, stretch_if_free, cut_at, PageCut, run_of, is_cut_page, after_cut, after_cut_of, IsWidestCut}
use Rattle.hp_heap.specs.Growing.{run_page, run_pages}
use Rattle.hp_heap.specs.Laws.{IsFreeAt, HasNoPagesAt, CutsRun}
use Rattle.hp_heap.proofs.AllocFacts.ChoiceLaw.{Contains-none, Contains-filter, AllByRecursion-contains}
use Rattle.hp_heap.proofs.CutFacts.CutLaw.{cut-is-widest, no-cut}
use Rattle.hp_heap.proofs.GrowLaw.{page_size_large, IsLarge, no_chunks}
use Rattle.hp_heap.proofs.Growths.{same_page}
use Rattle.hp_heap.proofs.Members.{find_some, find_none, counted_once, Contains-kept}
use Rattle.hp_heap.proofs.LaidLemmas.{segment_cases, element_segment, first_byte, element_of}
use Rattle.hp_heap.proofs.CutFacts.RunPages.{of_run, has_run_page}

-- a page of a heap, of an element's list and size, at an address
pub record IsPageIn (heap : PlainHeap) (r : Span) (at : ℕ) (page : HeapPage) : Type 0 where
  pub among : Contains heap.pages page
  pub list : page.list ≡ r.list
  pub size : page.page ≡ r.page
  pub addr : page.addr ≡ at

-- the page that contains a byte of an element
pub record HasPage (heap : PlainHeap) (r : Span) (byte : ℕ) : Type 0 where
  pub page : HeapPage
  pub among : Contains heap.pages page
  pub list : page.list ≡ r.list
  pub size : page.page ≡ r.page
  pub from : page.addr ≤ byte
  pub to : byte < page.addr + page.page
  pub is : IsPage page

pub byte_page : (heap : PlainHeap) (r : Span) (byte : ℕ) → IsTiled heap → IsSome heap.serves → Contains heap.ranges r → in_range byte r ≡ true → HasPage heap r byte
byte_page heap r byte tiled some has inside =
    let s = element_segment heap r byte tiled has inside in
    elim (segment_cases heap s.segment s.among) [
      | inl p ↦
          let within : in_segment byte (page_extent p.page) ≡ true = subst (λ (x : Extent). in_segment byte x ≡ true) (sym p.is) s.inside in
          let tests = and_parts (leb p.page.addr byte) (ltb byte (p.page.addr + p.page.page)) within in
          record {
            page = p.page;
            among = p.among;
            list = ap (λ (x : Extent). x.list) p.is ∙ s.list;
            size = ap (λ (x : Extent). x.page) p.is ∙ s.page;
            from = leb-true p.page.addr byte tests.0;
            to = ltb-true byte (p.page.addr + p.page.page) tests.1;
            is = AllByRecursion-contains IsPage heap.pages p.page tiled.laid.each_page p.among;
          }
      | inr c ↦ absurd (Contains-none c.chunk (subst (λ cs. Contains cs c.chunk) (no_chunks heap some tiled.kind) c.among))
    ]

-- the pages of an element are large
pub large_pages : (heap : PlainHeap) (r : Span) → IsTiled heap → IsSome heap.serves → Contains heap.ranges r → IsLarge r.page
large_pages heap r tiled some has =
    let one = byte_page heap r r.addr tiled some has (first_byte r (element_of heap r tiled has).size.least) in
    subst (λ (p : ℕ). IsLarge p) one.size (page_size_large one.page.page one.is.size)

-- at each multiple of its page size an element has a page
page_at : (heap : PlainHeap) (r : Span) (addr : ℕ) → IsTiled heap → IsSome heap.serves → Contains heap.ranges r → addr % r.page ≡ 0 → r.addr ≤ addr → addr < end_of r
    → (page : HeapPage) × IsPageIn heap r addr page
page_at heap r addr tiled some has aligned from to =
    let one = byte_page heap r addr tiled some has (and_from _ _ (le-leb r.addr addr from) (lt-ltb addr (end_of r) to)) in
    let large = large_pages heap r tiled some has in
    let its : one.page.addr % r.page ≡ 0 = subst (λ (p : ℕ). one.page.addr % p ≡ 0) one.size one.is.aligned in
    let near : addr < one.page.addr + r.page = subst (λ (p : ℕ). addr < one.page.addr + p) one.size one.to in
    let most : addr ≤ one.page.addr = aligned_apart addr one.page.addr r.page (omega (arith, large.least)) aligned its near in
    (one.page, record { among = one.among; list = one.list; size = one.size; addr = omega (arith, most, one.from) })

-- a cut of a heap: a stretch of whole pages of a free element, and its first page
pub record IsCutOf (address : ℕ) (heap : PlainHeap) (cut : PageCut) : Type 0 where
  pub serves : IsSome heap.serves
  pub there : IsFreeAt address heap cut.range
  pub widest : IsWidestCut cut.range cut.from cut.to
  pub large : IsLarge cut.range.page
  pub first : HeapPage
  pub in_it : IsPageIn heap cut.range cut.from first
  pub slot : cut.slot ≡ first.slot
  pub socket : cut.socket ≡ first.socket

-- what a cut finds
abbrev pub CutCases : ℕ → PlainHeap → Type 0
CutCases address heap =
    (HasNoPagesAt address heap × (cut_at address heap ≡ None))
    ⊎ ((cut : PageCut) × (cut_at address heap ≡ Some cut) × IsCutOf address heap cut)

module _ (address : ℕ) (heap : PlainHeap) (tiled : IsTiled heap) where
  -- the element there is the only one
  only_one : (r q : Span) → Contains heap.ranges r → in_range address r ≡ true → Contains heap.ranges q → in_range address q ≡ true → r ≡ q
  only_one r q has inside other too = counted_once (in_range address) heap.ranges r q (tiled.tiling.single address) (inside, has) (too, other)

  by_page : (r : Span) → IsSome heap.serves → IsFreeAt address heap r → cut_from r < cut_to r → (o : Option HeapPage) → find (is_page_at r.list (cut_from r)) heap.pages ≡ o
      → cut_at address heap ≡ option_map (λ (page : HeapPage). record { range = r; from = cut_from r; to = cut_to r; slot = page.slot; socket = page.socket }) o → CutCases address heap
  by_page r some there rises None none is =
      let large = large_pages heap r tiled some there.among in
      let widest = cut-is-widest r large.least rises in
      let (page, at) = page_at heap r (cut_from r) tiled some there.among widest.cut.first widest.cut.before (omega (arith, rises, widest.cut.behind)) in
      absurd (false≢true (sym (AllByRecursion-contains (λ (g : HeapPage). is_page_at r.list (cut_from r) g ≡ false) heap.pages page (find_none (is_page_at r.list (cut_from r)) heap.pages none) at.among)
      ∙ and_from _ _ (eq-eqb page.list r.list at.list) (eq-eqb page.addr (cut_from r) at.addr)))
  by_page r some there rises (Some page) found is =
      let large = large_pages heap r tiled some there.among in
      let widest = cut-is-widest r large.least rises in
      let one = find_some (is_page_at r.list (cut_from r)) heap.pages page found in
      let tests = and_parts (eqb page.list r.list) (eqb page.addr (cut_from r)) one.0 in
      let list : page.list ≡ r.list = eqb-true page.list r.list tests.0 in
      let (own, at) = page_at heap r (cut_from r) tiled some there.among widest.cut.first widest.cut.before (omega (arith, rises, widest.cut.behind)) in
      inr (
        record { range = r; from = cut_from r; to = cut_to r; slot = page.slot; socket = page.socket },
        is,
        record {
          serves = some;
          there = there;
          widest = widest;
          large = large;
          first = page;
          in_it = record {
            among = one.1;
            list = list;
            size = (tiled.laid.alike own page at.among one.1 (list ∙ sym at.list)).size ∙ at.size;
            addr = eqb-true page.addr (cut_from r) tests.1;
          };
          slot = refl;
          socket = refl;
        },
      )

  by_stretch : (r : Span) → IsSome heap.serves → IsFreeAt address heap r → (b : Bool) → ltb (cut_from r) (cut_to r) ≡ b → cut_at address heap ≡ stretch_of r heap → CutCases address heap
  by_stretch r some there true rises is =
      by_page r some there (ltb-true (cut_from r) (cut_to r) rises) (find (is_page_at r.list (cut_from r)) heap.pages) refl (is ∙ rw rises refl)
  by_stretch r some there false none is =
      inl (inr (inr (r, there, no-cut r (large_pages heap r tiled some there.among).least (ltb-false (cut_from r) (cut_to r) none))), is ∙ rw none refl)

  by_range : IsSome heap.serves → (o : Option Span) → find (in_range address) heap.ranges ≡ o → cut_at address heap ≡ option_and_then (λ range. stretch_if_free range heap) o → CutCases address heap
  by_range some None none is =
      inl (inr (inl (λ range at. false≢true (sym (AllByRecursion-contains (λ (q : Span). in_range address q ≡ false) heap.ranges range (find_none (in_range address) heap.ranges none) at.among) ∙ at.contains))), is)
  by_range some (Some r) found is =
      let one = find_some (in_range address) heap.ranges r found in
      elim (cases_Bool (is_free r)) [
        | inl free ↦ by_stretch r some (record { among = one.1; contains = one.0; free = free }) (ltb (cut_from r) (cut_to r)) refl (is ∙ rw free refl)
        | inr busy ↦ inl (
          inr (inl (λ range at. false≢true (sym busy ∙ ap (λ (q : Span). is_free q) (only_one r range one.1 one.0 at.among at.contains) ∙ at.free))),
          is ∙ rw busy refl,
        )
      ]

  pub cut_cases : CutCases address heap
  unfolding cut_at range_at
  cut_cases = elim (cases_Bool (is_some heap.serves)) [
    | inl some ↦ by_range some (find (in_range address) heap.ranges) refl (rw some refl)
    | inr none ↦ inl (inl none, rw none refl)
  ]

-- multiples of a page size
multiples : (from to page : ℕ) → from % page ≡ 0 → to % page ≡ 0 → from ≤ to → (to / page - from / page) * page + from ≡ to
multiples from to page first last rises =
    let low : from / page * page ≡ from = multiple_is from page first in
    let high : to / page * page ≡ to = multiple_is to page last in
    let parts = add-mul (to / page - from / page) (from / page) page in
    by_order (Rattle.std.proofs.lemmas.Bool.cases_lt (to / page) (from / page)) low high parts
  where
    by_order : (to / page < from / page) ⊎ (from / page ≤ to / page) → from / page * page ≡ from → to / page * page ≡ to
        → (to / page - from / page + from / page) * page ≡ (to / page - from / page) * page + from / page * page → (to / page - from / page) * page + from ≡ to
    by_order (inl less) low high parts =
        let most : (to / page + 1) * page ≤ from / page * page = mul-le-mul_right page (omega (arith, less)) in
        let zero_from : to / page - from / page ≡ 0 = omega (arith, less) in
        let none : (to / page - from / page) * page ≡ 0 = ap (λ (n : ℕ). n * page) zero_from ∙ Rattle.std.proofs.Math.Nat.zero-mul page in
        omega (arith, most, low, high, rises, none, add-mul (to / page) 1 page)
    by_order (inr more) low high parts =
        let whole : to / page - from / page + from / page ≡ to / page = omega (arith, more) in
        omega (arith, parts, ap (λ (n : ℕ). n * page) whole, low, high)

module _ (address : ℕ) (heap : PlainHeap) (cut : PageCut) (tiled : IsTiled heap) (is : IsCutOf address heap cut) where
  abbrev page_size : ℕ
  page_size = cut.range.page

  pub some_page : 0 < page_size
  some_page = omega (arith, is.large.least)

  rises : cut.from < cut.to
  rises = is.widest.cut.some

  -- the pages that go are so many
  count_is : (run_of cut).count * page_size ≡ cut.to - cut.from
  count_is =
      let parts = multiples cut.from cut.to page_size is.widest.cut.first is.widest.cut.last (omega (arith, rises)) in
      let same : cut.to - cut.from ≡ (cut.to / page_size - cut.from / page_size) * page_size = omega (arith, parts) in
      ap (λ (n : ℕ). n / page_size * page_size) same
      ∙ ap (λ (n : ℕ). n * page_size) (mul-div_cancel (cut.to / page_size - cut.from / page_size) some_page)
      ∙ sym same

  -- a page of the element's list is on the grid of its first page
  pub list_page : (page : HeapPage) → Contains heap.pages page → page.list ≡ cut.range.list → (page.page ≡ page_size) × (page.addr % page_size ≡ 0) × (page.socket ≡ is.first.socket) × (page.addr + is.first.slot * page_size ≡ cut.from + page.slot * page_size)
  list_page page has list =
      let alike = tiled.laid.alike is.first page is.in_it.among has (list ∙ sym is.in_it.list) in
      let size : page.page ≡ page_size = alike.size ∙ is.in_it.size in
      let own = AllByRecursion-contains IsPage heap.pages page tiled.laid.each_page has in (
        size,
        subst (λ (p : ℕ). page.addr % p ≡ 0) size own.aligned,
        alike.socket,
        subst (λ (a : ℕ). page.addr + is.first.slot * page_size ≡ a + page.slot * page_size) is.in_it.addr
            (subst (λ (p : ℕ). page.addr + is.first.slot * p ≡ is.first.addr + page.slot * p) is.in_it.size alike.base),
      )

  -- a page on the grid is one of the run by its place
  at_place : (page : HeapPage) (k : ℕ) → Contains heap.pages page → page.list ≡ cut.range.list → page.addr ≡ cut.from + k * page_size → run_page (run_of cut) k ≡ page
  at_place page k has list addr =
      let (size, aligned, socket, base) = list_page page has list in
      let slots : (is.first.slot + k) * page_size ≡ page.slot * page_size = omega (arith, add-mul is.first.slot k page_size, base, addr) in
      let slot : is.first.slot + k ≡ page.slot =
      (let low : is.first.slot + k ≤ page.slot = le_of_mul-le-mul_right {k = page_size} (omega (arith, slots)) some_page in
      let high : page.slot ≤ is.first.slot + k = le_of_mul-le-mul_right {k = page_size} (omega (arith, slots)) some_page in omega (arith, low, high)) in
      same_page (cut.from + k * page_size) page.addr page_size page.page cut.range.list page.list (cut.slot + k) page.slot cut.socket page.socket
      (sym addr) (sym size) (sym list) (ap (λ (n : ℕ). n + k) is.slot ∙ slot) (is.socket ∙ sym socket)

  -- what is known of a page that goes
  pub cut_page : (page : HeapPage) → is_cut_page cut page ≡ true → (page.list ≡ cut.range.list) × (cut.from ≤ page.addr) × (page.addr < cut.to)
  cut_page page goes =
      let tests = and_parts (eqb page.list cut.range.list) (leb cut.from page.addr && ltb page.addr cut.to) goes in
      let places = and_parts (leb cut.from page.addr) (ltb page.addr cut.to) tests.1 in
      (eqb-true page.list cut.range.list tests.0, leb-true cut.from page.addr places.0, ltb-true page.addr cut.to places.1)

  -- a page that goes is one of the run
  goes_of_run : (page : HeapPage) → Contains heap.pages page → is_cut_page cut page ≡ true → Contains (run_pages (run_of cut)) page
  goes_of_run page has goes =
      let (list, from, to) = cut_page page goes in
      let (size, aligned, socket, base) = list_page page has list in
      let parts = multiples cut.from page.addr page_size is.widest.cut.first aligned from in
      let k = page.addr / page_size - cut.from / page_size in
      let within : k < (run_of cut).count = lt_of_mul-lt-mul_right page_size (omega (arith, parts, count_is, to)) in
      subst (λ (g : HeapPage). Contains (run_pages (run_of cut)) g) (at_place page k has list (omega (arith, parts))) (has_run_page (run_of cut) k within)

  -- a page of the run is one of the heap, and goes
  of_run_goes : (page : HeapPage) → Contains (run_pages (run_of cut)) page → Contains heap.pages page × (is_cut_page cut page ≡ true)
  of_run_goes page has =
      let one = of_run (run_of cut) page has in
      let k = one.place in
      let addr : ℕ = cut.from + k * page_size in
      let next : (k + 1) * page_size ≤ (run_of cut).count * page_size = mul-le-mul_right page_size (omega (arith, one.within)) in
      let below : addr + page_size ≤ cut.to = omega (arith, next, count_is, add-mul k 1 page_size, rises) in
      let aligned : addr % page_size ≡ 0 = add-mul-mod_self_right cut.from k page_size ∙ is.widest.cut.first in
      let (own, at) = page_at heap cut.range addr tiled is.serves is.there.among aligned (omega (arith, is.widest.cut.before)) (omega (arith, below, is.widest.cut.behind, some_page)) in
      let same : own ≡ page = sym (at_place own k at.among at.list at.addr) ∙ one.is in
      subst (λ (g : HeapPage). Contains heap.pages g × (is_cut_page cut g ≡ true)) same (
        at.among,
        and_from _ _ (eq-eqb own.list cut.range.list at.list)
            (and_from _ _ (le-leb cut.from own.addr (omega (arith, at.addr))) (lt-ltb own.addr cut.to (omega (arith, at.addr, below, some_page)))),
      )

  pub cuts_run : cut_at address heap ≡ Some cut → CutsRun address heap cut
  unfolding after_cut
  cuts_run found =
      let kept : (after_cut_of (cut_at address heap) heap).pages ≡ filter (λ page. not (is_cut_page cut page)) heap.pages = ap (λ o. (after_cut_of o heap).pages) found in
      record {
        there = is.there;
        widest = is.widest;
        pages = λ page has. elim (cases_Bool (is_cut_page cut page)) [
          | inl goes ↦ inr (goes_of_run page has goes)
          | inr stays ↦ inl (subst (λ ps. Contains ps page) (sym kept) (Contains-kept (λ g. not (is_cut_page cut g)) heap.pages page (rw stays refl) has))
        ];
        stayed = λ page has. (Contains-filter (λ g. not (is_cut_page cut g)) heap.pages page (subst (λ ps. Contains ps page) kept has)).1;
        left = λ page has. (let one = of_run_goes page has in (
          one.0,
          λ stays. false≢true (sym (not-true (is_cut_page cut page) (Contains-filter (λ g. not (is_cut_page cut g)) heap.pages page (subst (λ ps. Contains ps page) kept stays)).0) ∙ one.1),
        ));
      }

-- a cut of a tiled heap answers none exactly where no page goes, and else the run of exactly the pages that go
pub cuts_pages : (address : ℕ) (heap : PlainHeap) → IsTiled heap → MatchOption (cut_at address heap) (HasNoPagesAt address heap) (CutsRun address heap)
cuts_pages address heap tiled = elim (cut_cases address heap tiled) [
  | inl none ↦ subst (λ (o : Option PageCut). MatchOption o (HasNoPagesAt address heap) (CutsRun address heap)) (sym none.1) none.0
  | inr some ↦ subst (λ (o : Option PageCut). MatchOption o (HasNoPagesAt address heap) (CutsRun address heap)) (sym some.1) (cuts_run address heap some.0 tiled some.2 some.1)
]
