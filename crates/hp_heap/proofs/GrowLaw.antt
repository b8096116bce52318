-- A growth keeps the tiling.
use Rattle.std.proofs.Common.{◌≡◌, ℕ, ◌+◌, ◌*◌, ◌/◌, ◌%◌, ◌<◌, ◌≤◌, ◌⊎◌, Bool, true, false, cond, List, [], ◌∷◌, ◌++◌, map, refl, sym, ap, subst, ◌∙◌, inl, inr, arith, lit≤, append_assoc, Option, Some, None, IsTrue, IsSome, count_by, eqb}
use Rattle.std.proofs.Math.Nat.{mul-mod_left, mul_assoc, mul-le-mul_right}
use Rattle.std.proofs.lemmas.Bool.{and_parts, or_cases, false≢true, cases_lt, eqb-true}
use Rattle.std.proofs.lemmas.Bool.Decides.{nat_tests}
use Rattle.std.specs.List.{AllByRecursion, list_any}
use Rattle.hp_base.specs.Pages.{is_page_size, page_sizes}
use Rattle.hp_base.proofs.Rounding.{multiple_is}
use Rattle.hp_base.specs.declared.span.Span.{Span}
use Rattle.hp_base.specs.declared.row.Run.{Run}
use Rattle.hp_heap.specs.PlainHeap.{PlainHeap, HeapPage, Extent, end_of, free_range, segments_of, page_extent, chunk_extent, HasKind}
use Rattle.hp_heap.specs.Tiling.{IsTiling, IsTiled, IsElement, IsWholeSize, IsRisingFrom, in_range, in_segment, in_range_of, in_segment_of}
use Rattle.hp_heap.specs.Joining.{stretch_up, stretch_down, with_stretch, after_insertion}
use Rattle.hp_heap.specs.Growing.{run_bytes, run_pages, after_grow, IsAlike, CanGrow}
use Rattle.hp_heap.proofs.RangeLemmas.{AllByRecursion-back, AllByRecursion-weaker, last_end, rising-back, rising_behind}
use Rattle.hp_heap.proofs.HistoryFacts.Counting.{count_by-append, count_by-cons, count_pages, count_pages_of}
use Rattle.hp_heap.proofs.CutFacts.Stretches.{with_stretch-parts}
use Rattle.hp_heap.proofs.CutFacts.RunPages.{laid_grown}
use Rattle.hp_heap.proofs.CutFacts.GapTiling.{IsGap, gap_tiling, IsPartedAt, parted_at}

-- where no element has the byte at an address, those that begin below it end there
pub ends_before : (at from : ℕ) (xs : List Span) → from ≤ at → AllByRecursion (λ x. x.addr < at) xs → count_by (in_range at) xs ≡ 0 → last_end from xs ≤ at
ends_before at from [] within below none = within
ends_before at from (x ∷ xs) within below none =
    let outside : cond {A = ℕ} (in_range at x) 1 0 ≡ 0 = omega (arith, none, count_by-cons (in_range at) x xs) in
    let others : count_by (in_range at) xs ≡ 0 = omega (arith, none, count_by-cons (in_range at) x xs) in
    ends_before at (end_of x) xs (end_before x at below.0 outside) below.1 others
  where
    end_before : (x : Span) (at : ℕ) → x.addr < at → cond {A = ℕ} (in_range at x) 1 0 ≡ 0 → end_of x ≤ at
    end_before x at lower outside = grind (arith, nat_tests)

-- where no element has a byte of a stretch, those that begin from its start on begin behind it
pub begins_behind : (at whole from : ℕ) (ys : List Span) → AllByRecursion (λ y. at ≤ y.addr) ys → AllByRecursion (λ (y : Span). 192 ≤ y.whole) ys → IsRisingFrom from ys
    → ((byte : ℕ) → at ≤ byte → byte < at + whole → count_by (in_range byte) ys ≡ 0) → IsRisingFrom (at + whole) ys
begins_behind at whole from [] behind sizes rising none = tt
begins_behind at whole from (y ∷ ys) behind sizes rising none = (first (cases_lt y.addr (at + whole)), rising.1)
  where
    has_its_byte : (y : Span) → 192 ≤ y.whole → cond {A = ℕ} (in_range y.addr y) 1 0 ≡ 1
    has_its_byte y size = grind (arith, nat_tests)

    first : (y.addr < at + whole) ⊎ (at + whole ≤ y.addr) → at + whole ≤ y.addr
    first (inl inside) = absurd (omega (arith, none y.addr behind.0 inside, count_by-cons (in_range y.addr) y ys, has_its_byte y sizes.0))
    first (inr clear) = clear

-- the size of the pages of a list, from the pages of the heap
page_known : (run : Run) (l p byte : ℕ) (pages : List HeapPage) → AllByRecursion (λ page. page.list ≡ run.list → IsAlike run page) pages → l ≡ run.list
    → 0 < count_by (in_segment_of l p byte) (map page_extent pages) → p ≡ run.page
page_known run l p byte [] alike same some = absurd (omega (arith, some))
page_known run l p byte (g ∷ pages) alike same some =
    by_test (in_segment_of l p byte (page_extent g)) refl (λ rest. page_known run l p byte pages alike.1 same rest)
  where
    by_test : (b : Bool) → in_segment_of l p byte (page_extent g) ≡ b → (0 < count_by (in_segment_of l p byte) (map page_extent pages) → p ≡ run.page) → p ≡ run.page
    by_test true inside rest =
        let tests = and_parts _ _ (and_parts _ _ inside).1 in
        let list : g.list ≡ l = eqb-true g.list l tests.0 in
        let page : g.page ≡ p = eqb-true g.page p tests.1 in
        sym page ∙ (alike.0 (list ∙ same)).size
    by_test false outside rest =
        let weight : cond {A = ℕ} (in_segment_of l p byte (page_extent g)) 1 0 ≡ 0 = rw outside refl in
        rest (omega (arith, some, count_by-cons (in_segment_of l p byte) (page_extent g) (map page_extent pages), weight))

-- an element of a list has pages of the size of that list's
pages_from : (heap : PlainHeap) (run : Run) (before after : List Span) → AllByRecursion (IsElement heap.insertions) after
    → ((l p byte : ℕ) → count_by (in_range_of l p byte) (before ++ after) ≡ count_by (in_segment_of l p byte) (map page_extent heap.pages))
    → AllByRecursion (λ page. page.list ≡ run.list → IsAlike run page) heap.pages
    → AllByRecursion (λ q. q.list ≡ run.list → q.page ≡ run.page) after
pages_from heap run before [] elements exact alike = tt
pages_from heap run before (q ∷ after) elements exact alike = (
  λ same. page_known run q.list q.page q.addr heap.pages alike same (here same),
  pages_from heap run (before ++ (q ∷ [])) after elements.1
      (λ l p byte. subst (λ zs. count_by (in_range_of l p byte) zs ≡ count_by (in_segment_of l p byte) (map page_extent heap.pages)) (sym (append_assoc before (q ∷ []) after)) (exact l p byte)) alike,
)
  where
    own_byte : (q : Span) → 192 ≤ q.whole → cond {A = ℕ} (in_range_of q.list q.page q.addr q) 1 0 ≡ 1
    own_byte q size = grind (arith, nat_tests)

    here : q.list ≡ run.list → 0 < count_by (in_segment_of q.list q.page q.addr) (map page_extent heap.pages)
    here same = omega (arith, exact q.list q.page q.addr, count_by-append (in_range_of q.list q.page q.addr) before (q ∷ after), count_by-cons (in_range_of q.list q.page q.addr) q after, own_byte q elements.0.size.least)

-- hugepages are whole cache lines, and large enough for an element
pub record IsLarge (page : ℕ) : Type 0 where
  pub lines : page % 64 ≡ 0
  pub least : 192 ≤ page

among_sizes : (page : ℕ) (sizes : List ℕ) → AllByRecursion IsLarge sizes → list_any (λ size. eqb size page) sizes ≡ true → IsLarge page
among_sizes page [] large is = absurd (false≢true is)
among_sizes page (size ∷ sizes) large is = elim (or_cases _ _ is) [
  | inl same ↦ subst (λ (n : ℕ). IsLarge n) (eqb-true size page same) large.0
  | inr others ↦ among_sizes page sizes large.1 others
]

pub page_size_large : (page : ℕ) → IsTrue (is_page_size page) → IsLarge page
page_size_large page is = among_sizes page page_sizes (record { lines = refl; least = lit≤ tt }, (record { lines = refl; least = lit≤ tt }, (record { lines = refl; least = lit≤ tt }, (record { lines = refl; least = lit≤ tt }, (record { lines = refl; least = lit≤ tt }, (record { lines = refl; least = lit≤ tt }, (record { lines = refl; least = lit≤ tt }, (record { lines = refl; least = lit≤ tt }, tt)))))))) is

-- a multiple of a multiple of a cache line is one
pub multiple_through : (n unit : ℕ) → unit % 64 ≡ 0 → n % unit ≡ 0 → n % 64 ≡ 0
multiple_through n unit lines aligned =
    let whole : n / unit * (unit / 64) * 64 ≡ n = mul_assoc (n / unit) (unit / 64) 64 ∙ ap (λ (u : ℕ). n / unit * u) (multiple_is unit 64 lines) ∙ multiple_is n unit aligned in
    subst (λ (m : ℕ). m % 64 ≡ 0) whole (mul-mod_left (n / unit * (unit / 64)) 64)

pub run_size : (run : Run) → 0 < run.count → IsLarge run.page → IsWholeSize (run_bytes run)
run_size run some large = record {
  lines = (let whole : run.count * (run.page / 64) * 64 ≡ run.count * run.page = mul_assoc run.count (run.page / 64) 64 ∙ ap (λ (u : ℕ). run.count * u) (multiple_is run.page 64 large.lines) in
      subst (λ (m : ℕ). m % 64 ≡ 0) whole (mul-mod_left (run.count * (run.page / 64)) 64));
  least = (let more : 1 * run.page ≤ run.count * run.page = mul-le-mul_right run.page some in omega (arith, more, large.least));
}

pub extents_append : (pages more : List HeapPage) → map page_extent (pages ++ more) ≡ map page_extent pages ++ map page_extent more
extents_append [] more = refl
extents_append (g ∷ pages) more = ap (λ zs. page_extent g ∷ zs) (extents_append pages more)

-- the segments with the pages of a run
gained : (heap : PlainHeap) (run : Run) (test : Extent → Bool) → count_by test (map page_extent (heap.pages ++ run_pages run) ++ map chunk_extent heap.chunks)
    ≡ count_by test (segments_of heap) + count_by test (map page_extent (run_pages run))
gained heap run test = omega (
  arith,
  ap (λ zs. count_by test (zs ++ map chunk_extent heap.chunks)) (extents_append heap.pages (run_pages run)),
  count_by-append test (map page_extent heap.pages ++ map page_extent (run_pages run)) (map chunk_extent heap.chunks),
  count_by-append test (map page_extent heap.pages) (map page_extent (run_pages run)),
  count_by-append test (map page_extent heap.pages) (map chunk_extent heap.chunks),
)

-- the heap of a socket has no segments but pages
pub no_chunks : (heap : PlainHeap) → IsSome heap.serves → HasKind heap.serves heap.pages heap.chunks → heap.chunks ≡ []
no_chunks heap some kind = by_socket heap.serves some kind
  where
    by_socket : (serves : Option ℕ) → IsSome serves → HasKind serves heap.pages heap.chunks → heap.chunks ≡ []
    by_socket (Some socket) _ none = none
    by_socket None some _ = absurd (false≢true some)

pub only_pages : (heap : PlainHeap) (test : Extent → Bool) → heap.chunks ≡ [] → count_by test (segments_of heap) ≡ count_by test (map page_extent heap.pages)
only_pages heap test none = omega (arith, count_by-append test (map page_extent heap.pages) (map chunk_extent heap.chunks), ap (λ chunks. count_by test (map chunk_extent chunks)) none)

-- a run between the elements of a tiled heap
pub run_gap : (heap : PlainHeap) (run : Run) (xs ys : List Span) → IsTiled heap → CanGrow run heap → IsPartedAt heap.ranges run.addr xs ys
    → IsGap (segments_of heap) (map page_extent (heap.pages ++ run_pages run) ++ map chunk_extent heap.chunks) heap.insertions xs ys (free_range run.addr (run_bytes run) run.list run.page (heap.insertions + 1))
run_gap heap run xs ys tiled can part =
    let tiling : IsTiling (segments_of heap) heap.insertions (xs ++ ys) = subst (λ zs. IsTiling (segments_of heap) heap.insertions zs) part.ranges tiled.tiling in
    let large = page_size_large run.page can.size in
    let size = run_size run can.some large in
    let none = no_chunks heap can.serves tiled.kind in
    let empty : (byte : ℕ) → run.addr ≤ byte → byte < run.addr + run_bytes run → count_by (in_range byte) xs + count_by (in_range byte) ys ≡ 0 =
    λ byte from to. omega (arith, tiling.once byte, can.fresh byte from to, count_by-append (in_range byte) xs ys) in
    let sizes = AllByRecursion-weaker (IsElement heap.insertions) (λ (y : Span). 192 ≤ y.whole) (λ y is. is.size.least) ys (AllByRecursion-back (IsElement heap.insertions) xs ys tiling.elements) in
    record {
      tiling = tiling;
      free = refl;
      stamp = refl;
      line = multiple_through run.addr run.page large.lines can.aligned;
      size = size;
      low = ends_before run.addr 0 xs (omega arith) part.below (omega (arith, empty run.addr (omega arith) (omega (arith, size.least))));
      high = begins_behind run.addr (run_bytes run) (last_end 0 xs) ys part.behind sizes (rising-back 0 xs ys tiling.rising) (λ byte from to. omega (arith, empty byte from to));
      pages = pages_from heap run [] (xs ++ ys) tiling.elements (λ l p byte. tiling.one_list l p byte ∙ only_pages heap (in_segment_of l p byte) none) can.alike;
      gain = λ byte. omega (arith, gained heap run (in_segment byte), count_pages run byte);
      gain_of = λ l p byte. omega (arith, gained heap run (in_segment_of l p byte), count_pages_of run l p byte);
      fresh = can.fresh;
    }

-- no element begins where a run does
pub behind_run : (whole at : ℕ) (ys : List Span) → 0 < whole → IsRisingFrom (at + whole) ys → AllByRecursion (λ y. at < y.addr) ys
behind_run whole at ys some rising = AllByRecursion-weaker (λ (y : Span). at + whole ≤ y.addr) (λ y. at < y.addr) (λ y behind. omega arith) ys (rising_behind (at + whole) ys rising)

-- the law of a growth: the heap stays tiled
pub grow-tiled : (heap : PlainHeap) (run : Run) → IsTiled heap → CanGrow run heap → IsTiled (after_grow run heap)
unfolding after_grow after_insertion
grow-tiled heap run tiled can =
    let range = free_range run.addr (run_bytes run) run.list run.page (heap.insertions + 1) in
    let more = map page_extent (heap.pages ++ run_pages run) ++ map chunk_extent heap.chunks in
    let (xs, ys, part) = parted_at run.addr 0 heap.ranges tiled.tiling.rising in
    let gap = run_gap heap run xs ys tiled can part in
    let over = behind_run (run_bytes run) run.addr ys (omega (arith, gap.size.least)) gap.high in
    let ranges : with_stretch range heap.ranges ≡ (stretch_down xs range).left ++ stretch_up (stretch_down xs range).range ys =
    ap (λ zs. with_stretch range zs) part.ranges ∙ with_stretch-parts range xs ys part.below over in
    record {
      kind = kind_kept heap.serves can.serves tiled.kind;
      laid = laid_grown heap run can tiled.laid;
      tiling = subst (λ zs. IsTiling more (heap.insertions + 1) zs) (sym ranges) (gap_tiling (segments_of heap) more heap.insertions xs ys range gap);
    }
  where
    kind_kept : (serves : Option ℕ) → IsSome serves → HasKind serves heap.pages heap.chunks → HasKind serves (heap.pages ++ run_pages run) heap.chunks
    kind_kept (Some socket) _ none = none
    kind_kept None some _ = absurd (false≢true some)
