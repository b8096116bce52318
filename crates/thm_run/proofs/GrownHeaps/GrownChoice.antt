-- A heap to which a run came finds an element for each request that has a place in the run, where its flags allow the run's page size.
use Rattle.std.proofs.Common.{◌≡◌, ◌==◌, ◌⊎◌, ◌∙◌, ℕ, ◌+◌, ◌<◌, ◌≤◌, Bool, true, ◌&&◌, cond, List, [], ◌∷◌, ◌++◌, map, Option, Some, None, Contains, MatchOption, IsSome, is_some, nat_lt, nat_le, refl, ap, sym, subst, arith, inl, inr, count_by, eqb}
use Rattle.std.specs.List.{list_any, filter}
use Rattle.std.proofs.lemmas.Bool.{cases_Bool, and_from, and_parts, eqb-true, eq-eqb, le-leb, leb-true, lt-ltb, or_right}
use Rattle.std.proofs.lemmas.Grind.{common_steps}
use Rattle.std.proofs.lemmas.List.Folds.{list_any-append}
use Rattle.hp_base.specs.declared.span.Span.{Span}
use Rattle.hp_base.specs.declared.row.Run.{Run}
use Rattle.hp_base.specs.declared.request.Request.{Request}
use Rattle.hp_base.specs.declared.tag.Tag.{Tag}
use Rattle.hp_base.specs.Place.{place_of, HasRoom, IsPlace, HasNoPlace}
use Rattle.hp_base.proofs.Places.{place_of-is-place}
use Rattle.hp_hall.proofs.StandingFacts.StandingLists.{found_in}
use Rattle.hp_heap.specs.declared.entry.HeapCall.TheVariants as call
use Rattle.hp_heap.specs.declared.entry.HeapAnswer.TheVariants as gives
use Rattle.hp_heap.specs.PlainHeap.{PlainHeap, end_of, free_range, is_free, is_within, segments_of, page_extent, chunk_extent}
use Rattle.hp_heap.specs.Tiling.{IsTiled, in_range, in_range_of, in_segment_of, joins}
use Rattle.hp_heap.specs.Joining.{after_insertion, joined_up, stretch_down, stretch_to, stretch_up, with_stretch}
use Rattle.hp_heap.specs.Growing.{CanGrow, after_grow, run_bytes, run_pages}
use Rattle.hp_base.specs.Flags.{is_fitting_page, is_hint}
use Rattle.hp_heap.specs.Choice.{HasNoChoice, candidates, eligible, fitting_or_hinted, is_attached, is_candidate, of_fitting_pages}
use Rattle.hp_heap.specs.Placing.{IsPlacedIn, allocated}
use Rattle.hp_heap.specs.Step.{address_answer, after, answer_of}
use Rattle.hp_heap.proofs.AllocFacts.AllocLaw.{allocated-is}
use Rattle.hp_heap.proofs.AllocFacts.ChoiceLaw.{Contains-none}
use Rattle.hp_heap.proofs.HistoryFacts.Counting.{count_by-append, count_pages_of}
use Rattle.hp_heap.proofs.GrowLaw.{extents_append, grow-tiled, page_size_large, run_size}
use Rattle.hp_heap.proofs.Members.{Contains-kept, counted_once, counted_some}

-- a free element with all bytes of another
record Covers (range element : Span) : Type 0 where
  pub free : is_free element ≡ true
  pub from : element.addr ≤ range.addr
  pub to : end_of range ≤ end_of element

-- the free stretch upwards from an element passes a test that all elements with its bytes pass
any_stretch_up : (passes : Span → Bool) (range : Span) (ranges : List Span) → is_free range ≡ true
    → ((element : Span) → Covers range element → passes element ≡ true) → list_any passes (stretch_up range ranges) ≡ true
any_stretch_up passes range [] free each = rw (each range (record { free = free; from = omega arith; to = omega arith })) refl
any_stretch_up passes range (next ∷ ranges) free each = elim (cases_Bool (joins range next)) [
  | inl touches ↦ rw touches (any_stretch_up passes (joined_up range next) ranges free
      (λ element covers. each element (record { free = covers.free; from = covers.from; to = omega (arith, covers.to) })))
  | inr apart ↦ rw (apart, each range (record { free = free; from = omega arith; to = omega arith })) refl
]

-- free elements that join touch
joins_touch : (first second : Span) → joins first second ≡ true → end_of first ≡ second.addr
joins_touch first second joined = grind (arith, common_steps)

-- the stretch that reaches down from an element has its bytes
covers_down : (range : Span) (previous : Span) (left : List Span) → is_free range ≡ true
    → Covers range (stretch_to previous left range).range
covers_down range previous [] free = elim (cases_Bool (joins previous range)) [
  | inl touches ↦ rw touches ((let touch = joins_touch previous range touches in
      record { free = free; from = omega (arith, touch); to = omega (arith, touch) }))
  | inr apart ↦ rw apart (record { free = free; from = omega arith; to = omega arith })
]
covers_down range previous (other ∷ others) free = record { free = free; from = omega arith; to = omega arith }

covers_stretch : (range : Span) (ranges : List Span) → is_free range ≡ true → Covers range (stretch_down ranges range).range
covers_stretch range [] free = record { free = free; from = omega arith; to = omega arith }
covers_stretch range (previous ∷ ranges) free =
    let below = stretch_down ranges range in
    let lower = covers_stretch range ranges free in
    let down = covers_down below.range previous below.left lower.free in
    record { free = down.free; from = omega (arith, lower.from, down.from); to = omega (arith, lower.to, down.to) }

-- where bytes became free, an element passes a test that all elements with those bytes pass
any_with_stretch : (passes : Span → Bool) (range : Span) (ranges : List Span) → is_free range ≡ true
    → ((element : Span) → Covers range element → passes element ≡ true) → list_any passes (with_stretch range ranges) ≡ true
unfolding with_stretch
any_with_stretch passes range ranges free each =
    let down = stretch_down (filter (λ other. nat_lt other.addr range.addr) ranges) range in
    let upper = filter (λ other. nat_lt range.addr other.addr) ranges in
    let lower = covers_stretch range (filter (λ other. nat_lt other.addr range.addr) ranges) free in
    let up = any_stretch_up passes down.range upper lower.free
    (λ element covers.
    each element (record { free = covers.free; from = omega (arith, lower.from, covers.from); to = omega (arith, lower.to, covers.to) })) in
    list_any-append passes down.left (stretch_up down.range upper)
    ∙ or_right (list_any passes down.left) (list_any passes (stretch_up down.range upper)) up

-- whether an element is free and has the bytes of another
abbrev covers : Span → Span → Bool
covers range element = is_free element && (nat_le element.addr range.addr && nat_le (end_of range) (end_of element))

covers_tests : (range element : Span) → Covers range element → covers range element ≡ true
covers_tests range element has = and_from (is_free element) _ has.free
    (and_from (nat_le element.addr range.addr) _ (le-leb element.addr range.addr has.from) (le-leb (end_of range) (end_of element) has.to))

tested_covers : (range element : Span) → covers range element ≡ true → Covers range element
tested_covers range element is =
    let both = and_parts (is_free element) _ is in
    let bounds = and_parts (nat_le element.addr range.addr) _ both.1 in
    record { free = both.0; from = leb-true element.addr range.addr bounds.0; to = leb-true (end_of range) (end_of element) bounds.1 }

-- a run that came to a heap as a free element
abbrev came : Run → PlainHeap → Span
came run heap = free_range run.addr (run_bytes run) run.list run.page (heap.insertions + 1)

-- a free element of the grown heap has the bytes of the run
grown_covers : (run : Run) (heap : PlainHeap)
    → (element : Span) × Covers (came run heap) element × Contains (after_grow run heap).ranges element
unfolding after_grow after_insertion
grown_covers run heap =
    let found = found_in (covers (came run heap)) (with_stretch (came run heap) heap.ranges)
    (any_with_stretch (covers (came run heap)) (came run heap) heap.ranges refl
    (λ element has. covers_tests (came run heap) element has)) in
    (found.element, tested_covers (came run heap) found.element found.passes, found.among)

-- the first byte of the run is one of the run's pages
first_byte : (run : Run) (heap : PlainHeap) → 0 < run_bytes run
    → 0 < count_by (in_segment_of run.list run.page run.addr) (segments_of (after_grow run heap))
unfolding after_grow after_insertion
first_byte run heap some =
    let test = in_segment_of run.list run.page run.addr in
    let within : is_within run.addr (run_bytes run) run.addr ≡ true =
    and_from (nat_le run.addr run.addr) _ (le-leb run.addr run.addr (omega arith))
    (lt-ltb run.addr (run.addr + run_bytes run) (omega (arith, some))) in
    let same : (eqb run.list run.list && eqb run.page run.page) ≡ true =
    and_from (eqb run.list run.list) _ (eq-eqb run.list run.list refl) (eq-eqb run.page run.page refl) in
    let one : cond {A = ℕ} (eqb run.list run.list && eqb run.page run.page) (cond (is_within run.addr (run_bytes run) run.addr) 1 0) 0 ≡ 1 =
    rw (same, within) refl in
    let all : count_by test (map page_extent (heap.pages ++ run_pages run))
    ≡ count_by test (map page_extent heap.pages ++ map page_extent (run_pages run)) =
    ap (count_by test) (extents_append heap.pages (run_pages run)) in
    omega (
      arith,
      count_by-append test (map page_extent (heap.pages ++ run_pages run)) (map chunk_extent heap.chunks),
      all,
      count_by-append test (map page_extent heap.pages) (map page_extent (run_pages run)),
      count_pages_of run run.list run.page run.addr,
      one,
    )

-- an element of the grown heap with the bytes of the run has pages of the run's size
covering_page : (run : Run) (heap : PlainHeap) (element : Span) → IsTiled (after_grow run heap) → 0 < run_bytes run
    → Covers (came run heap) element → Contains (after_grow run heap).ranges element → element.page ≡ run.page
covering_page run heap element tiled some has among =
    let ranges : List Span = (after_grow run heap).ranges in
    let there : 0 < count_by (in_range_of run.list run.page run.addr) ranges =
    omega (arith, tiled.tiling.one_list run.list run.page run.addr, first_byte run heap some) in
    let found = counted_some (in_range_of run.list run.page run.addr) ranges there in
    let parts = and_parts (in_range run.addr found.0) _ found.1.0 in
    let page = and_parts (found.0.list == run.list) _ parts.1 in
    let here : in_range run.addr element ≡ true =
    and_from (nat_le element.addr run.addr) _ (le-leb element.addr run.addr (omega (arith, has.from)))
    (lt-ltb run.addr (end_of element) (omega (arith, some, has.to))) in
    let same : element ≡ found.0 =
    counted_once (in_range run.addr) ranges element found.0 (tiled.tiling.single run.addr) (here, among) (parts.0, found.1.1) in
    ap (λ (range : Span). range.page) same ∙ eqb-true found.0.page run.page page.1

-- where an address has room there is a place
has_place : (start end : ℕ) (request : Request) (address : ℕ) → HasRoom start end request address
    → is_some (place_of start end request) ≡ true
has_place start end request address room = placed_is (place_of start end request) (place_of-is-place start end request) where
  placed_is : (place : Option ℕ) → MatchOption place (HasNoPlace start end request) (IsPlace start end request) → is_some place ≡ true
  placed_is None no_place = absurd (no_place address room)
  placed_is (Some found) place = refl

-- where there is a place an address has room
found_room : (start end : ℕ) (request : Request) (place : Option ℕ)
    → MatchOption place (HasNoPlace start end request) (IsPlace start end request)
    → is_some place ≡ true → (address : ℕ) × HasRoom start end request address
found_room start end request None none some = cc
found_room start end request (Some address) place some = (address, place.room)

-- a request has a place in what has the bytes of another element in which it has one
wider_place : (request : Request) (range element : Span) → Covers range element
    → is_some (place_of range.addr (end_of range) request) ≡ true
    → is_some (place_of element.addr (end_of element) request) ≡ true
wider_place request range element has some =
    let (address, room) = found_room range.addr (end_of range) request (place_of range.addr (end_of range) request)
    (place_of-is-place range.addr (end_of range) request) some in
    has_place element.addr (end_of element) request address (record {
      aligned = room.aligned;
      behind = omega (arith, room.behind, has.from);
      before = omega (arith, room.before, has.to);
      block = room.block;
    })

-- an element of the grown heap with the bytes of the run is a candidate for a request with a place there
covering_candidate : (run : Run) (heap : PlainHeap) (participant : ℕ) (request : Request) (element : Span) → is_some heap.serves ≡ true
    → is_some (place_of run.addr (run.addr + run_bytes run) request) ≡ true → Covers (came run heap) element
    → is_candidate participant request (after_grow run heap) element ≡ true
unfolding is_attached after_grow after_insertion
covering_candidate run heap participant request element serves some has =
    rw (has.free, serves, wider_place request (came run heap) element has some) refl

-- flags allow a page size: it fits them, or the sizes that they name are a hint alone
abbrev pub AllowsPage : ℕ → ℕ → Type 0
AllowsPage flags page = (is_fitting_page flags page ≡ true) ⊎ (is_hint flags ≡ true)

-- where one fits, or one is there at all and sizes are a hint, there is something to choose from
something_by : (request : Request) (all fit : List Span) (element : Span)
    → Contains fit element ⊎ ((is_hint request.flags ≡ true) × Contains all element) → fitting_or_hinted request all fit ≡ [] → ⊥
something_by request all [] element (inl among) none = Contains-none element among
something_by request all [] element (inr hinted) none =
    let all_is : all ≡ [] = sym (rw hinted.0 refl) ∙ none in
    Contains-none element (subst (λ ranges. Contains ranges element) all_is hinted.1)
something_by request all (range ∷ ranges) element among none = cc

-- what a grown heap can choose for a request that has a place in the run
pub grown_has_choice : (participant : ℕ) (run : Run) (request : Request) (heap : PlainHeap) → IsTiled heap → CanGrow run heap
    → IsSome (place_of run.addr (run.addr + run_bytes run) request) → AllowsPage request.flags run.page
    → HasNoChoice participant request (after_grow run heap) → ⊥
unfolding eligible
grown_has_choice participant run request heap tiled can place allows none =
    let grown = after_grow run heap in
    let all : List Span = candidates participant request grown in
    let some : 0 < run_bytes run = omega (arith, (run_size run can.some (page_size_large run.page can.size)).least) in
    let (element, has, among) = grown_covers run heap in
    let page = covering_page run heap element (grow-tiled heap run tiled can) some has among in
    let candidate : Contains all element = Contains-kept (is_candidate participant request grown) grown.ranges element
    (covering_candidate run heap participant request element can.serves place has) among in
    something_by request all (of_fitting_pages request all) element (by_flags all element page candidate allows) none
  where
    by_flags : (all : List Span) (element : Span) → element.page ≡ run.page → Contains all element → AllowsPage request.flags run.page
        → Contains (of_fitting_pages request all) element ⊎ ((is_hint request.flags ≡ true) × Contains all element)
    by_flags all element page among (inl fits) = inl (Contains-kept (λ range. is_fitting_page request.flags range.page) all element
        (ap (is_fitting_page request.flags) page ∙ fits) among)
    by_flags all element page among (inr hint) = inr (hint, among)

-- so the search for such a request after a growth is answered an address
pub grown_answers : (participant : ℕ) (run : Run) (request : Request) (tag : Tag) (heap : PlainHeap) → IsTiled heap → CanGrow run heap
    → IsSome (place_of run.addr (run.addr + run_bytes run) request) → AllowsPage request.flags run.page
    → (address : ℕ) × (answer_of participant (call.Alloc request tag) (after participant (call.Grow run) heap) ≡ gives.Address address)
unfolding after answer_of
grown_answers participant run request tag heap tiled can place allows =
    by_found (allocated participant request (after_grow run heap))
    (allocated-is (after_grow run heap) participant request (grow-tiled heap run tiled can))
  where
    by_found : (found : Option ℕ)
        → MatchOption found (HasNoChoice participant request (after_grow run heap)) (IsPlacedIn participant request (after_grow run heap))
        → (address : ℕ) × (address_answer found ≡ gives.Address address)
    by_found None none = absurd (grown_has_choice participant run request heap tiled can place allows none)
    by_found (Some address) is = (address, refl)
