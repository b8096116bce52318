-- A cut keeps the tiling: the rests tile what the element did, without the pages that go.
use Rattle.std.proofs.Common.{◌≡◌, ℕ, ◌+◌, ◌-◌, ◌*◌, ◌%◌, ◌<◌, ◌≤◌, ◌⊎◌, Bool, true, false, cond, not, ◌&&◌, List, [], ◌∷◌, ◌++◌, map, refl, sym, ap, subst, ◌∙◌, inl, inr, arith, Option, Some, None, Contains, count_by, eqb, leb, ltb}
use Rattle.std.proofs.lemmas.Bool.{and_parts, and_from, and_left, and_right, cases_Bool, eqb-true, eq-eqb, ne_eqb, leb-true, le-leb, lt-leb, ltb-true, ltb-false, lt-ltb, le-ltb}
use Rattle.std.proofs.lemmas.Bool.Decides.{nat_tests}
use Rattle.std.specs.List.{AllByRecursion, filter}
use Rattle.hp_base.proofs.Rounding.{aligned_apart}
use Rattle.hp_base.specs.declared.span.Span.{Span}
use Rattle.hp_base.specs.declared.span.SpanState.TheVariants.{Free}
use Rattle.hp_heap.specs.PlainHeap.{PlainHeap, HeapPage, Extent, end_of, is_free, is_within, segments_of, page_extent, chunk_extent}
use Rattle.hp_heap.specs.LaidOut.{IsPage, IsLaidOut}
use Rattle.hp_heap.specs.Tiling.{IsTiling, IsTiled, IsElement, IsRisingFrom, IsApart, IsApartFrom, joins, in_range, in_segment, in_range_of, in_segment_of, has_stamp}
use Rattle.hp_heap.specs.Placing.{replaced, only_if, count_if}
use Rattle.hp_heap.specs.Cut.{PageCut, is_cut_page, after_cut, after_cut_of}
use Rattle.hp_heap.proofs.RangeLemmas.{AllByRecursion-front, AllByRecursion-back, last_end, rising_behind, replaced-at}
use Rattle.hp_heap.proofs.HistoryFacts.Counting.{IsOfList, count_by-append, count_by-cons, count_of_list, count_of_same, within_split, within_none}
use Rattle.hp_heap.proofs.AllocFacts.PieceLemmas.{joins_second, apart_from_like}
use Rattle.hp_heap.proofs.AllocFacts.ChoiceLaw.{Contains-filter}
use Rattle.hp_heap.proofs.GrowLaw.{multiple_through, no_chunks}
use Rattle.hp_heap.proofs.Members.{AllByRecursion-each, AllByRecursion-kept, some_counted, count_map, count_filtered, count_all_kept, count_none_kept, count_alike, count_implied}
use Rattle.hp_heap.proofs.LaidLemmas.{element_of}
use Rattle.hp_heap.proofs.CutFacts.WindowTiling.{window_tiling}
use Rattle.hp_heap.proofs.FreeFacts.FreeTiling.{IsAmong, among_ranges, joins_gap}
use Rattle.hp_heap.proofs.CutFacts.CutPages.{IsCutOf, cut_cases, cut_page, list_page, some_page}

-- which bytes go
abbrev goes : PageCut → ℕ → ℕ
goes cut byte = cond {A = ℕ} (is_within cut.from (cut.to - cut.from) byte) 1 0

-- a test and one that holds
and_one : (a b : Bool) → b ≡ true → (a && b) ≡ a
and_one true b holds = holds
and_one false b holds = refl

module _ (address : ℕ) (heap : PlainHeap) (cut : PageCut) (tiled : IsTiled heap) (is : IsCutOf address heap cut) where
  abbrev r : Span
  r = cut.range

  abbrev gone : HeapPage → Bool
  gone page = is_cut_page cut page

  -- a page that goes ends before the stretch does
  ends_before : (page : HeapPage) → Contains heap.pages page → gone page ≡ true → (page.list ≡ r.list) × (page.page ≡ r.page) × (cut.from ≤ page.addr) × (page.addr + r.page ≤ cut.to)
  ends_before page has goes =
      let (list, from, to) = cut_page address heap cut tiled is page goes in
      let (size, aligned, socket, base) = list_page address heap cut tiled is page has list in
      (list, size, from, by_order size aligned to (Rattle.std.proofs.lemmas.Bool.cases_lt cut.to (page.addr + r.page)))
    where
      by_order : page.page ≡ r.page → page.addr % r.page ≡ 0 → page.addr < cut.to → (cut.to < page.addr + r.page) ⊎ (page.addr + r.page ≤ cut.to) → page.addr + r.page ≤ cut.to
      by_order size aligned to (inl near) =
          absurd (omega (arith, to, aligned_apart cut.to page.addr r.page (some_page address heap cut tiled is) is.widest.cut.last aligned near))
      by_order size aligned to (inr far) = far

  -- outside the stretch no page that goes has a byte
  none_outside : (byte : ℕ) → is_within cut.from (cut.to - cut.from) byte ≡ false → count_by (λ page. in_segment byte (page_extent page)) (filter gone heap.pages) ≡ 0
  none_outside byte outside = count_none_kept gone (λ page. in_segment byte (page_extent page)) heap.pages (AllByRecursion-each (λ page. in_segment byte (page_extent page) ≡ true → gone page ≡ false) heap.pages
      (λ page has inside. elim (cases_Bool (gone page)) [
        | inl goes ↦ absurd (within_it page has inside goes)
        | inr stays ↦ stays
      ]))
    where
      within_it : (page : HeapPage) → Contains heap.pages page → in_segment byte (page_extent page) ≡ true → gone page ≡ true → ⊥
      within_it page has inside goes =
          let (list, size, from, to) = ends_before page has goes in
          let tests = and_parts (leb page.addr byte) (ltb byte (page.addr + page.page)) inside in
          let low : page.addr ≤ byte = leb-true page.addr byte tests.0 in
          let high : byte < page.addr + page.page = ltb-true byte (page.addr + page.page) tests.1 in
          Rattle.std.proofs.lemmas.Bool.false≢true (sym outside ∙ and_from _ _ (le-leb cut.from byte (omega (arith, low, from))) (lt-ltb byte (cut.from + (cut.to - cut.from)) (omega (arith, high, size, to, is.widest.cut.some))))

  -- a page of the element's list with a byte of the stretch goes
  inside_goes : (byte : ℕ) → cut.from ≤ byte → byte < cut.to → (page : HeapPage) → Contains heap.pages page → in_segment_of r.list r.page byte (page_extent page) ≡ true → gone page ≡ true
  inside_goes byte from to page has inside =
      let tests = and_parts (in_segment byte (page_extent page)) (eqb page.list r.list && eqb page.page r.page) inside in
      let kinds = and_parts (eqb page.list r.list) (eqb page.page r.page) tests.1 in
      let places = and_parts (leb page.addr byte) (ltb byte (page.addr + page.page)) tests.0 in
      let list : page.list ≡ r.list = eqb-true page.list r.list kinds.0 in
      let low : page.addr ≤ byte = leb-true page.addr byte places.0 in
      let high : byte < page.addr + page.page = ltb-true byte (page.addr + page.page) places.1 in
      let (size, aligned, socket, base) = list_page address heap cut tiled is page has list in
      let above : cut.from ≤ page.addr = aligned_apart cut.from page.addr r.page (some_page address heap cut tiled is) is.widest.cut.first aligned (omega (arith, from, high, size)) in
      and_from _ _ (eq-eqb page.list r.list list) (and_from _ _ (le-leb cut.from page.addr above) (lt-ltb page.addr cut.to (omega (arith, low, to))))

  -- in it exactly one has
  one_inside : (byte : ℕ) → cut.from ≤ byte → byte < cut.to → count_by (λ page. in_segment byte (page_extent page)) (filter gone heap.pages) ≡ 1
  one_inside byte from to =
      let of : HeapPage → Bool = λ page. in_segment_of r.list r.page byte (page_extent page) in
      let alike : count_by (λ page. in_segment byte (page_extent page)) (filter gone heap.pages) ≡ count_by of (filter gone heap.pages) =
      count_alike (λ page. in_segment byte (page_extent page)) of (filter gone heap.pages) (AllByRecursion-each (λ page. in_segment byte (page_extent page) ≡ of page) (filter gone heap.pages) (λ page kept. same page (Contains-filter gone heap.pages page kept))) in
      let all : count_by of (filter gone heap.pages) ≡ count_by of heap.pages =
      count_all_kept gone of heap.pages (AllByRecursion-each (λ page. of page ≡ true → gone page ≡ true) heap.pages (λ page has. inside_goes byte from to page has)) in
      let pages : count_by (in_segment_of r.list r.page byte) (map page_extent heap.pages) ≡ count_by of heap.pages = count_map page_extent (in_segment_of r.list r.page byte) heap.pages in
      let segments = Rattle.hp_heap.proofs.GrowLaw.only_pages heap (in_segment_of r.list r.page byte) (no_chunks heap is.serves tiled.kind) in
      let inside : in_range byte r ≡ true = and_from _ _ (le-leb r.addr byte (omega (arith, from, is.widest.cut.before))) (lt-ltb byte (end_of r) (omega (arith, to, is.widest.cut.behind))) in
      let some = some_counted (in_range_of r.list r.page byte) heap.ranges r (and_from _ _ inside (and_from _ _ (eq-eqb r.list r.list refl) (eq-eqb r.page r.page refl))) is.there.among in
      let few = count_implied (in_range_of r.list r.page byte) (in_range byte) heap.ranges (λ x both. (and_parts (in_range byte x) (eqb x.list r.list && eqb x.page r.page) both).0) in
      omega (arith, alike, all, pages, segments, some, few, tiled.tiling.single byte, tiled.tiling.one_list r.list r.page byte)
    where
      same : (page : HeapPage) → (gone page ≡ true) × Contains heap.pages page → in_segment byte (page_extent page) ≡ in_segment_of r.list r.page byte (page_extent page)
      same page kept =
          let (list, size, low, high) = ends_before page kept.1 kept.0 in
          sym (and_one (in_segment byte (page_extent page)) (eqb page.list r.list && eqb page.page r.page) (and_from _ _ (eq-eqb page.list r.list list) (eq-eqb page.page r.page size)))

  -- the pages that go have the bytes of the stretch, each once
  gone_bytes : (byte : ℕ) → count_by (λ page. in_segment byte (page_extent page)) (filter gone heap.pages) ≡ goes cut byte
  gone_bytes byte = by_test (is_within cut.from (cut.to - cut.from) byte) refl
    where
      by_test : (b : Bool) → is_within cut.from (cut.to - cut.from) byte ≡ b → count_by (λ page. in_segment byte (page_extent page)) (filter gone heap.pages) ≡ goes cut byte
      by_test true inside =
          let tests = and_parts (leb cut.from byte) (ltb byte (cut.from + (cut.to - cut.from))) inside in
          let to : byte < cut.from + (cut.to - cut.from) = ltb-true byte (cut.from + (cut.to - cut.from)) tests.1 in
          one_inside byte (leb-true cut.from byte tests.0) (omega (arith, to, is.widest.cut.some)) ∙ sym (rw inside refl)
      by_test false outside = none_outside byte outside ∙ sym (rw outside refl)

  gone_of_list : (l p byte : ℕ) → count_by (λ page. in_segment_of l p byte (page_extent page)) (filter gone heap.pages) ≡ cond (eqb r.list l && eqb r.page p) (goes cut byte) 0
  gone_of_list l p byte =
      count_of_same (λ page. in_segment byte (page_extent page)) (λ page. eqb page.list l && eqb page.page p) (eqb r.list l && eqb r.page p) (filter gone heap.pages)
      (AllByRecursion-each (λ page. (eqb page.list l && eqb page.page p) ≡ (eqb r.list l && eqb r.page p)) (filter gone heap.pages) (λ page kept. same page (Contains-filter gone heap.pages page kept)))
      ∙ ap (λ (n : ℕ). cond (eqb r.list l && eqb r.page p) n 0) (gone_bytes byte)
    where
      same : (page : HeapPage) → (gone page ≡ true) × Contains heap.pages page → (eqb page.list l && eqb page.page p) ≡ (eqb r.list l && eqb r.page p)
      same page kept = let (list, size, low, high) = ends_before page kept.1 kept.0 in cc

  -- the segments that stay
  abbrev left : List HeapPage
  left = filter (λ page. not (is_cut_page cut page)) heap.pages

  abbrev more : List Extent
  more = map page_extent left ++ map chunk_extent heap.chunks

  segments_part : (test : Extent → Bool) → count_by test (segments_of heap) ≡ count_by test more + count_by (λ page. test (page_extent page)) (filter gone heap.pages)
  segments_part test = omega (
    arith,
    count_by-append test (map page_extent heap.pages) (map chunk_extent heap.chunks),
    count_by-append test (map page_extent left) (map chunk_extent heap.chunks),
    count_map page_extent test heap.pages,
    count_map page_extent test left,
    count_filtered gone (λ page. test (page_extent page)) heap.pages,
  )

  -- the rests
  abbrev rest_behind : Span
  rest_behind = record r { addr = cut.to; whole = end_of r - cut.to; state = Free (heap.insertions + 1) }

  abbrev rest_before : Bool → Span
  rest_before B = record r { whole = cut.from - r.addr; state = Free (heap.insertions + count_if B + 1) }

  abbrev rests : Bool → Bool → List Span
  rests F B = only_if F (rest_before B) ++ only_if B rest_behind

  element : IsElement heap.insertions r
  element = element_of heap r tiled is.there.among

  from_lines : cut.from % 64 ≡ 0
  from_lines = multiple_through cut.from r.page is.large.lines is.widest.cut.first

  to_lines : cut.to % 64 ≡ 0
  to_lines = multiple_through cut.to r.page is.large.lines is.widest.cut.last

  before_large : ltb r.addr cut.from ≡ true → 192 ≤ cut.from - r.addr
  before_large some = let less : r.addr < cut.from = ltb-true r.addr cut.from some in elim is.widest.cut.rest_before [ inl none ↦ absurd (omega (arith, none, less)) | inr enough ↦ enough ]

  behind_large : ltb cut.to (end_of r) ≡ true → 192 ≤ end_of r - cut.to
  behind_large some = let less : cut.to < end_of r = ltb-true cut.to (end_of r) some in elim is.widest.cut.rest_behind [ inl none ↦ absurd (omega (arith, none, less)) | inr enough ↦ enough ]

  -- a rest that is none has no bytes
  before_bytes : (F B : Bool) → ltb r.addr cut.from ≡ F → (byte : ℕ) → count_by (in_range byte) (only_if F (rest_before B)) ≡ cond (is_within r.addr (cut.from - r.addr) byte) 1 0
  before_bytes true B some byte = omega (arith, count_by-cons (in_range byte) (rest_before B) [])
  before_bytes false B none byte =
      let above : cut.from ≤ r.addr = ltb-false r.addr cut.from none in
      let empty : cut.from - r.addr ≡ 0 = omega (arith, above) in
      sym (ap (λ (n : ℕ). cond (is_within r.addr n byte) 1 0) empty ∙ within_none r.addr byte)

  behind_bytes : (B : Bool) → ltb cut.to (end_of r) ≡ B → (byte : ℕ) → count_by (in_range byte) (only_if B rest_behind) ≡ cond (is_within cut.to (end_of r - cut.to) byte) 1 0
  behind_bytes true some byte = omega (arith, count_by-cons (in_range byte) rest_behind [])
  behind_bytes false none byte =
      let above : end_of r ≤ cut.to = ltb-false cut.to (end_of r) none in
      let empty : end_of r - cut.to ≡ 0 = omega (arith, above) in
      sym (ap (λ (n : ℕ). cond (is_within cut.to n byte) 1 0) empty ∙ within_none cut.to byte)

  -- the rests and what goes are the element's bytes
  range_bytes : (byte : ℕ) → count_by (in_range byte) (r ∷ []) ≡ cond (is_within r.addr (cut.from - r.addr) byte) 1 0 + (goes cut byte + cond (is_within cut.to (end_of r - cut.to) byte) 1 0)
  range_bytes byte =
      let first : r.addr + (cut.from - r.addr) ≡ cut.from = omega (arith, is.widest.cut.before) in
      let last : cut.from + (cut.to - cut.from) ≡ cut.to = omega (arith, is.widest.cut.some) in
      let whole : cut.from - r.addr + (cut.to - cut.from + (end_of r - cut.to)) ≡ r.whole = omega (arith, is.widest.cut.before, is.widest.cut.some, is.widest.cut.behind) in
      let parts = within_split r.addr (cut.from - r.addr) (cut.to - cut.from + (end_of r - cut.to)) byte in
      let second = within_split cut.from (cut.to - cut.from) (end_of r - cut.to) byte in
      let one : cond {A = ℕ} (is_within r.addr r.whole byte) 1 0 ≡ cond (is_within r.addr (cut.from - r.addr) byte) 1 0 + cond (is_within cut.from (cut.to - cut.from + (end_of r - cut.to)) byte) 1 0 =
      subst (λ (n : ℕ). cond {A = ℕ} (is_within r.addr n byte) 1 0 ≡ cond (is_within r.addr (cut.from - r.addr) byte) 1 0 + cond (is_within cut.from (cut.to - cut.from + (end_of r - cut.to)) byte) 1 0) whole
      (subst (λ (a : ℕ). cond {A = ℕ} (is_within r.addr (cut.from - r.addr + (cut.to - cut.from + (end_of r - cut.to))) byte) 1 0 ≡ cond (is_within r.addr (cut.from - r.addr) byte) 1 0 + cond (is_within a (cut.to - cut.from + (end_of r - cut.to)) byte) 1 0) first parts) in
      let two : cond {A = ℕ} (is_within cut.from (cut.to - cut.from + (end_of r - cut.to)) byte) 1 0 ≡ goes cut byte + cond (is_within cut.to (end_of r - cut.to) byte) 1 0 =
      subst (λ (a : ℕ). cond {A = ℕ} (is_within cut.from (cut.to - cut.from + (end_of r - cut.to)) byte) 1 0 ≡ goes cut byte + cond (is_within a (end_of r - cut.to) byte) 1 0) last second in
      omega (arith, count_by-cons (in_range byte) r [], one, two)

  rest_bytes : (F B : Bool) → ltb r.addr cut.from ≡ F → ltb cut.to (end_of r) ≡ B → (byte : ℕ) → count_by (in_range byte) (rests F B) + goes cut byte ≡ count_by (in_range byte) (r ∷ [])
  rest_bytes F B first last byte = omega (arith, count_by-append (in_range byte) (only_if F (rest_before B)) (only_if B rest_behind), before_bytes F B first byte, behind_bytes B last byte, range_bytes byte)

  of_list : (F B : Bool) → AllByRecursion (IsOfList r.list r.page) (rests F B)
  of_list true true = ((refl, refl), ((refl, refl), tt))
  of_list true false = ((refl, refl), tt)
  of_list false true = ((refl, refl), tt)
  of_list false false = tt

  rest_lists : (F B : Bool) → ltb r.addr cut.from ≡ F → ltb cut.to (end_of r) ≡ B → (l p byte : ℕ)
      → count_by (in_range_of l p byte) (rests F B) + cond (eqb r.list l && eqb r.page p) (goes cut byte) 0 ≡ count_by (in_range_of l p byte) (r ∷ [])
  rest_lists F B first last l p byte =
      by_kind (eqb r.list l && eqb r.page p) _ _ _ _ _ (count_of_list r.list r.page l p byte (rests F B) (of_list F B)) (count_of_list r.list r.page l p byte (r ∷ []) ((refl, refl), tt)) (rest_bytes F B first last byte)
    where
      by_kind : (same : Bool) (n m n' m' g : ℕ) → n ≡ cond same n' 0 → m ≡ cond same m' 0 → n' + g ≡ m' → n + cond same g 0 ≡ m
      by_kind true n m n' m' g one two both = omega arith
      by_kind false n m n' m' g one two both = omega arith

  elements : (F B : Bool) → ltb r.addr cut.from ≡ F → ltb cut.to (end_of r) ≡ B → AllByRecursion (IsElement (heap.insertions + count_if B + count_if F)) (rests F B)
  elements true true first last = (before_element (heap.insertions + 1 + 1) (heap.insertions + 1 + 1) (omega arith) first, (behind_element (heap.insertions + 1 + 1) (omega arith) last, tt))
    where
      before_element : (stamp later : ℕ) → stamp ≤ later → ltb r.addr cut.from ≡ true → IsElement later (record r { whole = cut.from - r.addr; state = Free stamp })
      before_element stamp later within some = record { line = element.line; size = record { lines = omega (arith, element.line, from_lines, is.widest.cut.before); least = before_large some }; busy = tt; stamp = within }

      behind_element : (later : ℕ) → heap.insertions + 1 ≤ later → ltb cut.to (end_of r) ≡ true → IsElement later rest_behind
      behind_element later within some = record { line = to_lines; size = record { lines = omega (arith, element.line, element.size.lines, to_lines, is.widest.cut.behind); least = behind_large some }; busy = tt; stamp = within }
  elements true false first last = (record { line = element.line; size = record { lines = omega (arith, element.line, from_lines, is.widest.cut.before); least = before_large first }; busy = tt; stamp = omega arith }, tt)
  elements false true first last = (record { line = to_lines; size = record { lines = omega (arith, element.line, element.size.lines, to_lines, is.widest.cut.behind); least = behind_large last }; busy = tt; stamp = omega arith }, tt)
  elements false false first last = tt

  stamps_once : (F B : Bool) (stamp : ℕ) → count_by (has_stamp stamp) (rests F B) ≤ 1
  stamps_once true true stamp = grind (arith, nat_tests)
  stamps_once true false stamp = grind (arith, nat_tests)
  stamps_once false true stamp = grind (arith, nat_tests)
  stamps_once false false stamp = omega arith

  stamps_later : (F B : Bool) (stamp : ℕ) → stamp ≤ heap.insertions → count_by (has_stamp stamp) (rests F B) ≡ 0
  stamps_later true true stamp old = grind (arith, nat_tests)
  stamps_later true false stamp old = grind (arith, nat_tests)
  stamps_later false true stamp old = grind (arith, nat_tests)
  stamps_later false false stamp old = refl

  module _ (xs ys : List Span) (among : IsAmong heap r xs ys) where
    front : (F B : Bool) → IsRisingFrom (last_end 0 xs) (rests F B)
    front true true = (among.low, (omega (arith, is.widest.cut.before, is.widest.cut.some), tt))
    front true false = (among.low, tt)
    front false true = (omega (arith, among.low, is.widest.cut.before, is.widest.cut.some), tt)
    front false false = tt

    last_of_rests : (F B : Bool) → ltb cut.to (end_of r) ≡ B → last_end (last_end 0 xs) (rests F B) ≤ end_of r
    last_of_rests true true last = omega (arith, is.widest.cut.behind)
    last_of_rests true false last = omega (arith, is.widest.cut.before, is.widest.cut.some, is.widest.cut.behind)
    last_of_rests false true last = omega (arith, is.widest.cut.behind)
    last_of_rests false false last = omega (arith, among.low)

    back : (F B : Bool) → ltb cut.to (end_of r) ≡ B → IsRisingFrom (last_end (last_end 0 xs) (rests F B)) ys
    back F B last = Rattle.hp_heap.proofs.RangeLemmas.rising_lower (last_end (last_end 0 xs) (rests F B)) (end_of r) ys (last_of_rests F B last) among.high

    some_gone : cut.from < end_of r
    some_gone = omega (arith, is.widest.cut.some, is.widest.cut.behind)

    -- an element that ends at the stretch or below is apart from those behind the element
    apart_far : (p : Span) (ws : List Span) → end_of p < end_of r → IsRisingFrom (end_of r) ws → IsApartFrom r ws → IsApartFrom p ws
    apart_far p [] far rising apart = tt
    apart_far p (y ∷ ws) far rising apart = (joins_gap p y (omega (arith, far, rising.0)), apart.1)

    rests_apart : (F B : Bool) → ltb cut.to (end_of r) ≡ B → IsApartFrom r ys → IsApart (rests F B ++ ys)
    rests_apart true true last apart = (joins_gap (rest_before true) rest_behind (omega (arith, is.widest.cut.before, is.widest.cut.some)), apart_from_like r rest_behind ys is.there.free refl (omega (arith, is.widest.cut.behind)) apart)
    rests_apart true false last apart = apart_far (rest_before false) ys (omega (arith, is.widest.cut.before, some_gone)) among.high apart
    rests_apart false true last apart = apart_from_like r rest_behind ys is.there.free refl (omega (arith, is.widest.cut.behind)) apart
    rests_apart false false last apart = rest_of ys apart
      where
        rest_of : (ws : List Span) → IsApartFrom r ws → IsApart ws
        rest_of [] apart = tt
        rest_of (y ∷ ws) apart = apart.1

    rests_behind_of : (F B : Bool) → ltb r.addr cut.from ≡ F → ltb cut.to (end_of r) ≡ B → (p : Span) → end_of p ≤ r.addr → joins p r ≡ false → IsApartFrom r ys → IsApartFrom p (rests F B ++ ys)
    rests_behind_of true true first last p low touch apart = (sym (joins_second p r (rest_before true) is.there.free refl refl) ∙ touch, rests_apart true true last apart)
    rests_behind_of true false first last p low touch apart = (sym (joins_second p r (rest_before false) is.there.free refl refl) ∙ touch, rests_apart true false last apart)
    rests_behind_of false true first last p low touch apart = (joins_gap p rest_behind (omega (arith, low, is.widest.cut.before, is.widest.cut.some)), rests_apart false true last apart)
    rests_behind_of false false first last p low touch apart = apart_far p ys (omega (arith, low, is.widest.cut.before, some_gone)) among.high apart

    apart_from : (F B : Bool) → ltb r.addr cut.from ≡ F → ltb cut.to (end_of r) ≡ B → (p : Span) (ws : List Span) → last_end (end_of p) ws ≤ r.addr → IsRisingFrom (end_of p) ws
        → IsApartFrom p (ws ++ (r ∷ ys)) → IsApartFrom p (ws ++ (rests F B ++ ys))
    apart_from F B first last p [] low rising apart = rests_behind_of F B first last p low apart.0 apart.1
    apart_from F B first last p (w ∷ ws) low rising apart = (apart.0, apart_from F B first last w ws low rising.1 apart.1)

    all_apart : (F B : Bool) → ltb r.addr cut.from ≡ F → ltb cut.to (end_of r) ≡ B → (from : ℕ) (ws : List Span) → last_end from ws ≤ r.addr → IsRisingFrom from ws → IsApart (ws ++ (r ∷ ys)) → IsApart (ws ++ (rests F B ++ ys))
    all_apart F B first last from [] low rising apart = rests_apart F B last apart
    all_apart F B first last from (w ∷ ws) low rising apart = apart_from F B first last w ws low rising.1 apart

    rests_tiling : (F B : Bool) → ltb r.addr cut.from ≡ F → ltb cut.to (end_of r) ≡ B → IsTiling more (heap.insertions + count_if B + count_if F) (xs ++ (rests F B ++ ys))
    rests_tiling F B first last = window_tiling (segments_of heap) more heap.insertions (heap.insertions + count_if B + count_if F) xs (r ∷ []) (rests F B) ys (record {
      tiling = among.tiling;
      more_insertions = omega arith;
      front = front F B;
      back = back F B last;
      bytes = λ byte. omega (arith, rest_bytes F B first last byte, segments_part (in_segment byte), gone_bytes byte);
      lists = λ l p byte. omega (arith, rest_lists F B first last l p byte, segments_part (in_segment_of l p byte), gone_of_list l p byte);
      single = λ byte. omega (arith, segments_part (in_segment byte), tiled.tiling.once byte, tiled.tiling.single byte);
      elements = elements F B first last;
      late_stamps = λ stamp late. stamps_once F B stamp;
      old_stamps = λ stamp old. omega (arith, stamps_later F B stamp old);
      apart = all_apart F B first last 0 xs among.low (Rattle.hp_heap.proofs.RangeLemmas.rising-front 0 xs (r ∷ ys) among.tiling.rising) among.tiling.apart;
    })

  laid_left : IsLaidOut left heap.chunks
  laid_left = record {
    each_page = AllByRecursion-kept IsPage (λ page. not (is_cut_page cut page)) heap.pages tiled.laid.each_page;
    alike = λ page other first second same. tiled.laid.alike page other (Contains-filter (λ g. not (is_cut_page cut g)) heap.pages page first).1 (Contains-filter (λ g. not (is_cut_page cut g)) heap.pages other second).1 same;
    each_chunk = tiled.laid.each_chunk;
    own_lists = tiled.laid.own_lists;
  }

  pub cut_tiled : IsTiled (after_cut_of (Some cut) heap)
  cut_tiled =
      let (xs, ys, among) = among_ranges heap r tiled is.there.among in
      let F = ltb r.addr cut.from in
      let B = ltb cut.to (end_of r) in
      let ranges : replaced r.addr (rests F B) heap.ranges ≡ xs ++ (rests F B ++ ys) =
      ap (λ zs. replaced r.addr (rests F B) zs) among.ranges ∙ replaced-at r.addr (rests F B) xs r ys among.under refl in
      record {
        kind = kind_left heap.serves is.serves tiled.kind;
        laid = laid_left;
        tiling = subst (λ zs. IsTiling more (heap.insertions + count_if B + count_if F) zs) (sym ranges) (rests_tiling xs ys among F B refl refl);
      }
    where
      kind_left : (serves : Option ℕ) → Rattle.std.proofs.Common.IsSome serves → Rattle.hp_heap.specs.PlainHeap.HasKind serves heap.pages heap.chunks → Rattle.hp_heap.specs.PlainHeap.HasKind serves left heap.chunks
      kind_left (Some socket) some none = none
      kind_left None some none = absurd (Rattle.std.proofs.lemmas.Bool.false≢true some)

-- a cut leaves the heap tiled
pub cut-tiled : (address : ℕ) (heap : PlainHeap) → IsTiled heap → IsTiled (after_cut address heap)
unfolding after_cut
cut-tiled address heap tiled = elim (cut_cases address heap tiled) [
  | inl none ↦ subst (λ (o : Option PageCut). IsTiled (after_cut_of o heap)) (sym none.1) tiled
  | inr some ↦ subst (λ (o : Option PageCut). IsTiled (after_cut_of o heap)) (sym some.1) (cut_tiled address heap some.0 tiled some.2)
]
