-- What calls leave of the busy elements, and of those of memzones among them.
use Rattle.std.proofs.Common.{◌≡◌, ℕ, ◌+◌, ◌-◌, ◌<◌, ◌≤◌, ◌⊎◌, Bool, true, false, cond, not, List, [], ◌∷◌, ◌++◌, refl, sym, ap, subst, ◌∙◌, inl, inr, arith, Option, Some, None, Contains, MatchOption, unwrap_or, eqb, ltb, append_assoc}
use Rattle.std.proofs.lemmas.Bool.{ne_eqb, eq-eqb, false≢true, not-true}
use Rattle.std.proofs.lemmas.Option.{none-some, same_Some}
use Rattle.std.proofs.lemmas.List.Elements.{filter-append}
use Rattle.std.specs.List.{AllByRecursion, filter, find}
use Rattle.std.specs.Option.{option_and_then}
use Rattle.hp_base.specs.declared.span.Span.{Span}
use Rattle.hp_base.specs.declared.chunk.Chunk.{Chunk}
use Rattle.hp_base.specs.declared.row.Run.{Run}
use Rattle.hp_base.specs.declared.request.Request.{Request}
use Rattle.hp_base.specs.declared.tag.Tag.{Tag}
use Rattle.hp_heap.specs.declared.entry.HeapCall.{HeapCall}
use Rattle.hp_heap.specs.declared.entry.HeapCall.TheVariants as call
use Rattle.hp_heap.specs.PlainHeap.{PlainHeap, end_of, is_free, freed, free_range, data_address}
use Rattle.hp_heap.specs.Tiling.{IsTiled, IsElement}
use Rattle.hp_heap.specs.Choice.{chosen, IsChoice, HasNoChoice}
use Rattle.hp_heap.specs.Placing.{only_if, count_if, rest_before, rest_behind, busy_piece, busy_start, has_rest_before, has_rest_behind, place_in, pieces_of, pieces_with, placed, after_choice, after_alloc, allocated, replaced}
use Rattle.hp_heap.specs.Joining.{with_stretch, after_insertion, busy_ranges, zone_ranges, is_zone_range, has_data_at, busy_at, tag_of_state, tag_at}
use Rattle.hp_heap.specs.Growing.{run_bytes, run_range, after_grow, CanGrow}
use Rattle.hp_heap.specs.Cut.{PageCut, rests_of, after_cut, after_cut_of}
use Rattle.hp_heap.specs.Chunks.{chunk_at, without_chunk, after_chunk, after_unchunk, after_share, after_unshare, CanAddChunk, IsUnused}
use Rattle.hp_heap.specs.Step.{after, after_name}
use Rattle.hp_heap.specs.Allowed.{IsAllowed}
use Rattle.hp_heap.specs.BusyLaws.{names_none, LeavesBusy, AllocatesAlone}
use Rattle.hp_heap.proofs.RangeLemmas.{AllByRecursion-append, AllByRecursion-weaker, AllByRecursion-front, AllByRecursion-back, replaced-at, rising-front, rising_before, rising_behind}
use Rattle.hp_heap.proofs.AllocFacts.ChoiceLaw.{AllByRecursion-contains, eligible-candidate, chosen-is_choice}
use Rattle.hp_heap.proofs.Members.{AllByRecursion-each, filter_implied, filter_swapped, find_behind}
use Rattle.hp_heap.proofs.AllocFacts.PieceLemmas.{IsPlacing}
use Rattle.hp_heap.proofs.AllocFacts.AllocLaw.{choice-placed}
use Rattle.hp_heap.proofs.CutFacts.Stretches.{with_stretch-parts}
use Rattle.hp_heap.proofs.CutFacts.GapTiling.{parted_at}
use Rattle.hp_heap.proofs.GrowLaw.{run_gap, run_size, page_size_large, behind_run}
use Rattle.hp_heap.proofs.FreeFacts.FreeTiling.{IsAmong, among_ranges}
use Rattle.hp_heap.proofs.CutFacts.CutPages.{cut_cases}
use Rattle.hp_heap.proofs.ChunkFacts.ChunkTiling.{ranges_more}
use Rattle.hp_heap.proofs.HistoryFacts.BusyLemmas.{busy, elsewhere, busy_stretch, zones_of_busy, data_within, others_elsewhere}

-- where the busy elements stay, those of memzones do
zones_kept : (old new : PlainHeap) → filter busy new.ranges ≡ filter busy old.ranges → filter is_zone_range new.ranges ≡ filter is_zone_range old.ranges
zones_kept old new same = zones_of_busy new.ranges ∙ ap (filter is_zone_range) same ∙ sym (zones_of_busy old.ranges)

-- free elements between others
free_between : (xs mid ys : List Span) → filter busy mid ≡ [] → filter busy (xs ++ (mid ++ ys)) ≡ filter busy (xs ++ ys)
free_between xs mid ys none =
    filter-append busy xs (mid ++ ys)
    ∙ ap (λ (zs : List Span). filter busy xs ++ zs) (filter-append busy mid ys ∙ ap (λ (zs : List Span). zs ++ filter busy ys) none)
    ∙ sym (filter-append busy xs ys)

one_free : (x : Span) → is_free x ≡ true → filter busy (x ∷ []) ≡ []
one_free x free = rw free refl

two_free : (first second : Bool) (x y : Span) → is_free x ≡ true → is_free y ≡ true → filter busy (only_if first x ++ only_if second y) ≡ []
two_free true true x y free_x free_y = rw (free_x, free_y) refl
two_free true false x y free_x free_y = rw free_x refl
two_free false true x y free_x free_y = rw free_y refl
two_free false false x y free_x free_y = refl

grow_busy : (heap : PlainHeap) (run : Run) → IsTiled heap → CanGrow run heap → filter busy (after_grow run heap).ranges ≡ filter busy heap.ranges
unfolding after_grow after_insertion
grow_busy heap run tiled can =
    let x = freed (heap.insertions + 1) (run_range run) in
    let (xs, ys, part) = parted_at run.addr 0 heap.ranges tiled.tiling.rising in
    let gap = run_gap heap run xs ys tiled can part in
    let size = run_size run can.some (page_size_large run.page can.size) in
    let over = behind_run (run_bytes run) run.addr ys (omega (arith, size.least)) gap.high in
    ap (filter busy) (ap (with_stretch x) part.ranges ∙ with_stretch-parts x xs ys part.below over) ∙ busy_stretch xs ys x refl ∙ ap (filter busy) (sym part.ranges)

cut_busy : (heap : PlainHeap) (address : ℕ) → IsTiled heap → filter busy (after_cut address heap).ranges ≡ filter busy heap.ranges
unfolding after_cut
cut_busy heap address tiled = elim (cut_cases address heap tiled) [
  | inl none ↦ ap (λ (o : Option PageCut). filter busy (after_cut_of o heap).ranges) none.1
  | inr some ↦ ap (λ (o : Option PageCut). filter busy (after_cut_of o heap).ranges) some.1 ∙ by_cut some.0 some.2.there.among some.2.there.free
]
  where
    by_cut : (cut : PageCut) → Contains heap.ranges cut.range → is_free cut.range ≡ true → filter busy (after_cut_of (Some cut) heap).ranges ≡ filter busy heap.ranges
    by_cut cut has free =
        let (xs, ys, among) = among_ranges heap cut.range tiled has in
        ap (filter busy) (ap (replaced cut.range.addr (rests_of cut heap.insertions)) among.ranges ∙ replaced-at cut.range.addr (rests_of cut heap.insertions) xs cut.range ys among.under refl)
        ∙ free_between xs (rests_of cut heap.insertions) ys (two_free _ _ _ _ refl refl)
        ∙ sym (free_between xs (cut.range ∷ []) ys (one_free cut.range free))
        ∙ ap (filter busy) (sym among.ranges)

chunk_busy : (heap : PlainHeap) (chunk : Chunk) → IsTiled heap → CanAddChunk chunk heap → filter busy (after_chunk chunk heap).ranges ≡ filter busy heap.ranges
unfolding after_chunk
chunk_busy heap chunk tiled can =
    let x = free_range chunk.addr chunk.len chunk.list chunk.page (heap.insertions + 1) in
    let (xs, ys, part) = parted_at chunk.addr 0 heap.ranges tiled.tiling.rising in
    ap (filter busy) (ranges_more heap chunk tiled can xs ys part) ∙ free_between xs (x ∷ []) ys (one_free x refl) ∙ ap (filter busy) (sym part.ranges)

unchunk_busy : (heap : PlainHeap) (addr len : ℕ) → Rattle.std.proofs.Common.IsSomeAnd (chunk_at addr len heap) (IsUnused heap) → filter busy (after_unchunk addr len heap).ranges ≡ filter busy heap.ranges
unfolding after_unchunk
unchunk_busy heap addr len unused = by_chunk (chunk_at addr len heap) unused
  where
    by_chunk : (o : Option Chunk) → Rattle.std.proofs.Common.IsSomeAnd o (IsUnused heap) → filter busy (without_chunk o heap).ranges ≡ filter busy heap.ranges
    by_chunk None is = refl
    by_chunk (Some chunk) is =
        let keep : Span → Bool = λ q. not (eqb q.list chunk.list) in
        filter_swapped busy keep heap.ranges
        ∙ filter_implied busy keep heap.ranges (AllByRecursion-each (λ (q : Span). busy q ≡ true → keep q ≡ true) heap.ranges (λ q has is_busy.
        ap not (ne_eqb q.list chunk.list (λ same.
        false≢true (sym (not-true (is_free q) is_busy) ∙ AllByRecursion-contains (λ (r : Span). r.list ≡ chunk.list → is_free r ≡ true) heap.ranges q is.free has same)))))

quiet_busy : (participant : ℕ) (step : HeapCall) (heap : PlainHeap) → IsTiled heap → IsAllowed participant step heap → names_none step ≡ true → filter busy (after participant step heap).ranges ≡ filter busy heap.ranges
unfolding after after_name after_share after_unshare
quiet_busy participant (call.Alloc request tag) heap tiled allowed none = absurd (false≢true none)
quiet_busy participant (call.Find tag) heap tiled allowed none = refl
quiet_busy participant (call.Free addr zone) heap tiled allowed none = absurd (false≢true none)
quiet_busy participant (call.Resize addr size) heap tiled allowed none = absurd (false≢true none)
quiet_busy participant (call.Grow run) heap tiled allowed none = grow_busy heap run tiled allowed
quiet_busy participant (call.Cut addr) heap tiled allowed none = cut_busy heap addr tiled
quiet_busy participant call.Stats heap tiled allowed none = refl
quiet_busy participant (call.Name name socket) heap tiled allowed none = refl
quiet_busy participant call.Unname heap tiled allowed none = refl
quiet_busy participant (call.Chunk chunk) heap tiled allowed none = chunk_busy heap chunk tiled allowed.1
quiet_busy participant (call.Unchunk addr len) heap tiled allowed none = unchunk_busy heap addr len allowed.1.unused
quiet_busy participant (call.Share addr len) heap tiled allowed none = refl
quiet_busy participant (call.Unshare addr len) heap tiled allowed none = refl

pub leaves_busy : LeavesBusy
unfolding busy_ranges zone_ranges
leaves_busy = λ participant step heap tiled allowed none. record {
  busy = quiet_busy participant step heap tiled allowed none;
  zones = zones_kept heap (after participant step heap) (quiet_busy participant step heap tiled allowed none);
}

-- an allocation takes bytes of a free element, in which no busy element has its data
module _ (heap : PlainHeap) (r : Span) (d : ℕ) (xs ys : List Span) (among : IsAmong heap r xs ys) (from : r.addr < d) (to : d < end_of r) where
  others_before : AllByRecursion (λ (q : Span). busy q ≡ true → elsewhere d q ≡ true) xs
  others_before = AllByRecursion-each (λ (q : Span). busy q ≡ true → elsewhere d q ≡ true) xs (λ q has is.
      let element = AllByRecursion-contains (IsElement heap.insertions) xs q (AllByRecursion-front (IsElement heap.insertions) xs (r ∷ ys) among.tiling.elements) has in
      let inside = data_within heap.insertions q is element in
      let end = AllByRecursion-contains (λ (x : Span). end_of x ≤ r.addr) xs q (rising_before 0 r.addr xs (rising-front 0 xs (r ∷ ys) among.tiling.rising) among.low).1 has in
      ap not (ne_eqb (data_address q) d (λ same. omega (arith, same, inside.1, end, from))))

  others_behind : AllByRecursion (λ (q : Span). busy q ≡ true → elsewhere d q ≡ true) ys
  others_behind = AllByRecursion-each (λ (q : Span). busy q ≡ true → elsewhere d q ≡ true) ys (λ q has is.
      let element = AllByRecursion-contains (IsElement heap.insertions) ys q (AllByRecursion-back (IsElement heap.insertions) xs (r ∷ ys) among.tiling.elements).1 has in
      let inside = data_within heap.insertions q is element in
      let begin = AllByRecursion-contains (λ (y : Span). end_of r ≤ y.addr) ys q (rising_behind (end_of r) ys among.high) has in
      ap not (ne_eqb (data_address q) d (λ same. omega (arith, same, inside.0, begin, to))))

  others_kept : filter (elsewhere d) (filter busy (xs ++ ys)) ≡ filter busy (xs ++ ys)
  others_kept =
      ap (filter (elsewhere d)) (filter-append busy xs ys)
      ∙ filter-append (elsewhere d) (filter busy xs) (filter busy ys)
      ∙ ap (λ (zs : List Span). zs ++ filter (elsewhere d) (filter busy ys)) (filter_implied busy (elsewhere d) xs others_before)
      ∙ ap (λ (zs : List Span). filter busy xs ++ zs) (filter_implied busy (elsewhere d) ys others_behind)
      ∙ sym (filter-append busy xs ys)

-- the pieces are free, or have the data
piece_start : (before : Bool) (r : Span) (d : ℕ) → r.addr + 128 ≤ d → busy_start before r d + 128 ≤ d
piece_start true r d room = omega (arith, room)
piece_start false r d room = room

pieces_there : (F B : Bool) (r : Span) (d size : ℕ) (tag : Tag) (n : ℕ) → r.addr + 128 ≤ d → AllByRecursion (λ (q : Span). (is_free q ≡ true) ⊎ (data_address q ≡ d)) (pieces_with F B r d size tag n)
pieces_there true true r d size tag n room = (inl refl, (inr (omega (arith, piece_start true r d room)), (inl refl, tt)))
pieces_there true false r d size tag n room = (inl refl, (inr (omega (arith, piece_start true r d room)), tt))
pieces_there false true r d size tag n room = (inr (omega (arith, piece_start false r d room)), (inl refl, tt))
pieces_there false false r d size tag n room = (inr (omega (arith, piece_start false r d room)), tt)

placed_busy : (heap : PlainHeap) (r : Span) (d size : ℕ) (tag : Tag) → IsTiled heap → Contains heap.ranges r → IsPlacing r d size
    → filter (elsewhere d) (filter busy (placed r d size tag heap).ranges) ≡ filter busy heap.ranges
unfolding placed pieces_of
placed_busy heap r d size tag tiled has placing =
    let (xs, ys, among) = among_ranges heap r tiled has in
    let pieces = pieces_with (has_rest_before r d) (has_rest_behind r d size) r d size tag heap.insertions in
    ap (λ (zs : List Span). filter (elsewhere d) (filter busy zs)) (ap (replaced r.addr pieces) among.ranges ∙ replaced-at r.addr pieces xs r ys among.under refl)
    ∙ others_elsewhere d xs pieces ys (pieces_there (has_rest_before r d) (has_rest_behind r d size) r d size tag heap.insertions placing.before)
    ∙ others_kept heap r d xs ys among (omega (arith, placing.before)) (omega (arith, placing.behind, placing.some))
    ∙ sym (free_between xs (r ∷ []) ys (one_free r placing.free))
    ∙ ap (filter busy) (sym among.ranges)

-- one of them has the data, with the tag
elsewhere_not : (d : ℕ) (q : Span) → elsewhere d q ≡ true → eqb (data_address q) d ≡ false
elsewhere_not d q away = not_is (eqb (data_address q) d) away
  where
    not_is : (b : Bool) → not b ≡ true → b ≡ false
    not_is false is = refl
    not_is true is = absurd (false≢true is)

rest_free : (some : Bool) (x : Span) → is_free x ≡ true → (d : ℕ) → AllByRecursion (λ (q : Span). has_data_at d q ≡ false) (only_if some x)
rest_free true x free d = (rw free refl, tt)
rest_free false x free d = tt

not_there : (d : ℕ) (q : Span) → (busy q ≡ true → elsewhere d q ≡ true) → has_data_at d q ≡ false
not_there d q away = by_test (busy q) refl
  where
    by_test : (b : Bool) → busy q ≡ b → has_data_at d q ≡ false
    by_test true is = rw (is, elsewhere_not d q (away is)) refl
    by_test false is = rw is refl

placed_tag : (heap : PlainHeap) (r : Span) (d size : ℕ) (tag : Tag) → IsTiled heap → Contains heap.ranges r → IsPlacing r d size → tag_at d (placed r d size tag heap) ≡ Some tag
unfolding placed pieces_of tag_at busy_at
placed_tag heap r d size tag tiled has placing =
    let (xs, ys, among) = among_ranges heap r tiled has in
    let before = has_rest_before r d in
    let behind = has_rest_behind r d size in
    let pieces = pieces_with before behind r d size tag heap.insertions in
    let piece = busy_piece before behind r d size tag in
    let front = only_if before (rest_before r d (heap.insertions + count_if behind + 1)) in
    let back = only_if behind (rest_behind r (d + size) (heap.insertions + 1)) in
    let from : r.addr < d = omega (arith, placing.before) in
    let to : d < end_of r = omega (arith, placing.behind, placing.some) in
    let none : AllByRecursion (λ (q : Span). has_data_at d q ≡ false) (xs ++ front) =
    AllByRecursion-append (λ (q : Span). has_data_at d q ≡ false) xs front
    (AllByRecursion-weaker (λ (q : Span). busy q ≡ true → elsewhere d q ≡ true) (λ (q : Span). has_data_at d q ≡ false) (not_there d) xs (others_before heap r d xs ys among from to))
    (rest_free before (rest_before r d (heap.insertions + count_if behind + 1)) refl d) in
    let own : has_data_at d piece ≡ true = rw (eq-eqb (data_address piece) d (omega (arith, piece_start before r d placing.before))) refl in
    let ranges : (placed r d size tag heap).ranges ≡ (xs ++ front) ++ (piece ∷ (back ++ ys)) =
    ap (replaced r.addr pieces) among.ranges ∙ replaced-at r.addr pieces xs r ys among.under refl
    ∙ ap (λ (zs : List Span). xs ++ zs) (append_assoc front (piece ∷ back) ys) ∙ sym (append_assoc xs front (piece ∷ (back ++ ys))) in
    ap (λ (zs : List Span). option_and_then (λ (range : Span). tag_of_state range.state) (find (has_data_at d) zs)) ranges
    ∙ ap (λ (o : Option Span). option_and_then (λ (range : Span). tag_of_state range.state) o) (find_behind (has_data_at d) (xs ++ front) piece (back ++ ys) none own)

module _ (participant : ℕ) (request : Request) (tag : Tag) (heap : PlainHeap) (tiled : IsTiled heap) where
  alloc_tag : (o : Option Span) → MatchOption o (HasNoChoice participant request heap) (IsChoice participant request heap) → (d : ℕ) → option_and_then (place_in request) o ≡ Some d
      → tag_at d (after_choice o request tag heap) ≡ Some tag
  alloc_tag None none d is = absurd (none-some d is)
  alloc_tag (Some r) choice d is =
      let (at, place) = choice-placed heap participant request r tiled choice in
      let same : at ≡ d = same_Some at d (sym place.in_it ∙ is) in
      ap (λ (o : Option ℕ). tag_at d (placed r (unwrap_or o 0) request.size tag heap)) is
      ∙ placed_tag heap r d request.size tag tiled (eligible-candidate heap participant request r choice.among).1 (subst (λ (n : ℕ). IsPlacing r n request.size) same place.placing)

  alloc_busy : (o : Option Span) → MatchOption o (HasNoChoice participant request heap) (IsChoice participant request heap) → (d : ℕ) → option_and_then (place_in request) o ≡ Some d
      → filter (elsewhere d) (filter busy (after_choice o request tag heap).ranges) ≡ filter busy heap.ranges
  alloc_busy None none d is = absurd (none-some d is)
  alloc_busy (Some r) choice d is =
      let (at, place) = choice-placed heap participant request r tiled choice in
      let same : at ≡ d = same_Some at d (sym place.in_it ∙ is) in
      ap (λ (o : Option ℕ). filter (elsewhere d) (filter busy (placed r (unwrap_or o 0) request.size tag heap).ranges)) is
      ∙ placed_busy heap r d request.size tag tiled (eligible-candidate heap participant request r choice.among).1 (subst (λ (n : ℕ). IsPlacing r n request.size) same place.placing)

  alloc_refused : (o : Option Span) → MatchOption o (HasNoChoice participant request heap) (IsChoice participant request heap) → option_and_then (place_in request) o ≡ None → after_choice o request tag heap ≡ heap
  alloc_refused None none is = refl
  alloc_refused (Some r) choice is = absurd (none-some (choice-placed heap participant request r tiled choice).0 (sym is ∙ (choice-placed heap participant request r tiled choice).1.in_it))

  pub allocates_alone : AllocatesAlone participant request tag heap
  unfolding after_alloc allocated busy_ranges zone_ranges
  allocates_alone = record {
    busy = λ address is. alloc_busy (chosen participant request heap) (chosen-is_choice heap participant request) address is;
    tagged = λ address is. alloc_tag (chosen participant request heap) (chosen-is_choice heap participant request) address is;
    refused = λ is. alloc_refused (chosen participant request heap) (chosen-is_choice heap participant request) is;
  }
