-- What a call that has nothing to do with names leaves of a heap: its name, its chunks but for their marks, the elements of memzones, and the
-- marks of all but its caller.
use Rattle.std.proofs.Common.{◌≡◌, ◌≢◌, ℕ, ◌+◌, ◌-◌, ◌*◌, ◌^◌, Bool, true, false, cond, eqb, not, ◌&&◌, List, [], ◌∷◌, map, Option, Some, None, IfSome, IsSome, Contains, refl, sym, ap, subst, ◌∙◌, inl, inr, arith, leb}
use Rattle.std.specs.Int.{bit_at}
use Rattle.std.specs.Int.Bits.{bit_and, bit_xor, xor_add_and}
use Rattle.std.specs.List.{filter}
use Rattle.std.specs.Option.{option_map, option_and_then}
use Rattle.std.proofs.lemmas.Bool.{and_parts, cases_Bool, cond_both, eqb-true, false≢true}
use Rattle.std.proofs.lemmas.Nat.Bits.{and_pow, bit_at-lt, bit_at-pow_other, bit_at_or, bit_at_xor}
use Rattle.std.proofs.lemmas.List.Elements.{Contains-append_cases}
use Rattle.std.proofs.lemmas.Option.{none-some, same_Some}
use Rattle.hp_base.specs.Flags.{has_bit}
use Rattle.hp_base.specs.declared.chunk.Chunk.{Chunk}
use Rattle.hp_base.specs.declared.request.Request.{Request}
use Rattle.hp_base.specs.declared.span.Span.{Span}
use Rattle.hp_base.specs.declared.span.SpanState.{SpanState}
use Rattle.hp_base.specs.declared.span.SpanState.TheVariants.{Busy, Free}
use Rattle.hp_base.specs.declared.tag.Tag.{Tag}
use Rattle.hp_heap.proofs.HistoryFacts.BusyLaw.{allocates_alone, leaves_busy}
use Rattle.hp_heap.proofs.HistoryFacts.BusyLemmas.{before_elsewhere, behind_elsewhere, busy, elsewhere, zones_of_busy}
use Rattle.hp_heap.proofs.AllocFacts.ChoiceLaw.{AllByRecursion-contains, Contains-cases}
use Rattle.hp_heap.proofs.ChunkFacts.ChunkLaw.{mark_is}
use Rattle.hp_heap.proofs.FreeFacts.FreeLaw.{frees_alone}
use Rattle.hp_heap.proofs.FreeFacts.FreeTiling.{among_ranges}
use Rattle.hp_heap.proofs.Members.{AllByRecursion-each, filter_implied, filter_swapped, find_some}
use Rattle.hp_heap.proofs.ResizeFacts.ResizeLaw.{resizes_alone}
use Rattle.hp_heap.proofs.HistoryFacts.StepLaw.{after-tiled}
use Rattle.hp_heap.specs.Chunks.{after_share, after_unshare, is_chunk_at, with_mark, with_marks, without_mark}
use Rattle.hp_heap.specs.Cut.{PageCut, after_cut, after_cut_of, cut_at}
use Rattle.hp_heap.specs.Choice.{chosen}
use Rattle.hp_heap.specs.Growing.{after_grow}
use Rattle.hp_heap.specs.Laws.{ResizesAlone}
use Rattle.hp_heap.specs.Joining.{after_free, after_free_of, after_insertion, busy_at, busy_ranges, has_data_at, is_zone_range, is_zone_state, tag_at, tag_of_state, zone_ranges}
use Rattle.hp_heap.specs.Placing.{after_alloc, after_choice, allocated, placed}
use Rattle.hp_heap.specs.PlainHeap.{PlainHeap, data_address, is_free_state}
use Rattle.hp_heap.specs.Resizing.{CanAskSize, after_resize, after_resize_of, bytes_needed, bytes_together, can_resize, next_free, resized, taken_over, with_new_size, with_size}
use Rattle.hp_heap.specs.Step.{after}
use Rattle.hp_heap.specs.Tiling.{IsTiled}
use Rattle.hp_heap.specs.declared.entry.HeapCall.TheVariants as call
use Rattle.hp_hall.specs.Naming.{CallsLeaveNames, LeavesNames, MarksStayBut, marked_by, naming_of, unmarked}

-- the name, the socket number and the chunks of a heap are another's
pub record IsNamedAs (old new : PlainHeap) : Type 0 where
  pub name : new.name ≡ old.name
  pub socket : new.socket ≡ old.socket
  pub chunks : new.chunks ≡ old.chunks

named_itself : (heap : PlainHeap) → IsNamedAs heap heap
named_itself heap = record { name = refl; socket = refl; chunks = refl }

named_by : (heap : PlainHeap) (b : Bool) (x y : PlainHeap) → IsNamedAs heap x → IsNamedAs heap y → IsNamedAs heap (cond b x y)
named_by heap true x y first second = first
named_by heap false x y first second = second

-- so are they after calls that are beside the names
pub named_placed : (heap : PlainHeap) (request : Request) (tag : Tag) (o : Option Span) → IsNamedAs heap (after_choice o request tag heap)
unfolding placed
named_placed heap request tag None = named_itself heap
named_placed heap request tag (Some range) = record { name = refl; socket = refl; chunks = refl }

pub named_freed : (heap : PlainHeap) (zone : Bool) (o : Option Span) → IsNamedAs heap (after_free_of o zone heap)
unfolding after_insertion
named_freed heap zone None = named_itself heap
named_freed heap zone (Some range) =
    named_by heap (is_zone_range range && not zone) heap (after_insertion range heap) (named_itself heap)
    (record { name = refl; socket = refl; chunks = refl })

pub named_resized : (heap : PlainHeap) (size : ℕ) (o : Option Span) → IsNamedAs heap (after_resize_of o size heap)
named_resized heap size None = named_itself heap
named_resized heap size (Some range) =
    let fits = leb (bytes_needed range size) range.whole in
    let taken = taken_over range (next_free range heap) size heap in
    let fits_both = leb (bytes_needed range size) (bytes_together range (next_free range heap)) in
    named_by heap fits (with_new_size range size heap) (cond fits_both taken heap) (record { name = refl; socket = refl; chunks = refl })
    (named_by heap fits_both taken heap (record { name = refl; socket = refl; chunks = refl }) (named_itself heap))

pub named_cut : (heap : PlainHeap) (o : Option PageCut) → IsNamedAs heap (after_cut_of o heap)
named_cut heap None = named_itself heap
named_cut heap (Some cut) = record { name = refl; socket = refl; chunks = refl }

-- a heap with the same of these and the same memzones is as the names say
naming_with : (old new : PlainHeap) → IsNamedAs old new → zone_ranges new ≡ zone_ranges old → naming_of new ≡ naming_of old
unfolding naming_of
naming_with old new named zones =
    λ i. record { name = named.name i; socket = named.socket i; chunks = map unmarked (named.chunks i); zones = zones i }

-- and its chunks have the same marks
pub marks_with : (who : ℕ) (old new : PlainHeap) → new.chunks ≡ old.chunks → MarksStayBut who old new
unfolding marked_by
marks_with who old new same other apart = ap (λ chunks. map unmarked (filter (λ (chunk : Chunk). has_bit chunk.attached other) chunks)) same

leaves_with : (who : ℕ) (old new : PlainHeap) → IsNamedAs old new → zone_ranges new ≡ zone_ranges old → LeavesNames who old new
leaves_with who old new named zones = record { naming = naming_with old new named zones; marks = marks_with who old new named.chunks }

-- where the busy element at an address is no memzone's, memzones have their data elsewhere
zone_is_busy : (state : SpanState) → is_zone_state state ≡ true → not (is_free_state state) ≡ true
zone_is_busy (Free stamp) is = absurd (false≢true is)
zone_is_busy (Busy pad size tag) is = refl

busy_with_data : (q : Span) (address : ℕ) → has_data_at address q ≡ true → (busy q ≡ true) × (data_address q ≡ address)
busy_with_data q address is =
    let (held, at) = and_parts (busy q) (eqb (data_address q) address) is in (held, eqb-true (data_address q) address at)

zones_apart : (heap : PlainHeap) (r : Span) → IsTiled heap → Contains heap.ranges r → busy r ≡ true → is_zone_range r ≡ false → (q : Span)
    → Contains heap.ranges q → is_zone_range q ≡ true → elsewhere (data_address r) q ≡ true
zones_apart heap r tiled has held ordinary q among zone =
    let (xs, ys, parts) = among_ranges heap r tiled has in
    elim (Contains-append_cases xs (r ∷ ys) q (subst (λ (l : List Span). Contains l q) parts.ranges among)) [
      | inl before ↦ AllByRecursion-contains (λ (x : Span). busy x ≡ true → elsewhere (data_address r) x ≡ true) xs q
          (before_elsewhere heap r xs ys parts held) before (zone_is_busy q.state zone)
      | inr rest ↦ elim (Contains-cases r q ys rest) [
        | inl same ↦ absurd (false≢true (sym ordinary ∙ ap is_zone_range same ∙ zone))
        | inr behind ↦ behind_elsewhere heap r xs ys parts held q behind (zone_is_busy q.state zone)
      ]
    ]

zones_elsewhere : (heap : PlainHeap) (address : ℕ) (r : Span) → IsTiled heap → busy_at address heap ≡ Some r → is_zone_range r ≡ false
    → filter (elsewhere address) (zone_ranges heap) ≡ zone_ranges heap
unfolding busy_at zone_ranges
zones_elsewhere heap address r tiled there ordinary =
    let found = find_some (has_data_at address) heap.ranges r there in
    let (held, at) = busy_with_data r address found.0 in
    filter_implied is_zone_range (elsewhere address) heap.ranges
    (AllByRecursion-each (λ (q : Span). is_zone_range q ≡ true → elsewhere address q ≡ true) heap.ranges (λ q among zone.
    subst (λ (a : ℕ). elsewhere a q ≡ true) at (zones_apart heap r tiled found.1 held ordinary q among zone)))

-- an allocation for a tag that is no memzone's leaves the memzones
tag_there : (o : Option Span) (tag : Tag) → option_and_then (λ (range : Span). tag_of_state range.state) o ≡ Some tag
    → (r : Span) × (o ≡ Some r) × (is_zone_range r ≡ tag.zone)
tag_there None tag is = absurd (none-some tag is)
tag_there (Some r) tag is = (r, refl, of r.state is)
  where
    of : (state : SpanState) → tag_of_state state ≡ Some tag → is_zone_state state ≡ tag.zone
    of (Free stamp) is = absurd (none-some tag is)
    of (Busy pad size own) is = ap (λ (t : Tag). t.zone) (same_Some own tag is)

module _ (participant : ℕ) (request : Request) (tag : Tag) (heap : PlainHeap) (tiled : IsTiled heap) (ordinary : tag.zone ≡ false) where
  abbrev placed_heap : PlainHeap
  placed_heap = after_alloc participant request tag heap

  placed_tiled : IsTiled placed_heap
  unfolding after
  placed_tiled = after-tiled participant (call.Alloc request tag) heap tiled tt

  alloc_zones : (o : Option ℕ) → allocated participant request heap ≡ o → zone_ranges placed_heap ≡ zone_ranges heap
  unfolding zone_ranges busy_ranges tag_at
  alloc_zones None none =
      ap (λ (h : PlainHeap). filter is_zone_range h.ranges) ((allocates_alone participant request tag heap tiled).refused none)
  alloc_zones (Some address) some =
      let alone = allocates_alone participant request tag heap tiled in
      let (r, there, is) = tag_there (busy_at address placed_heap) tag (alone.tagged address some) in
      sym (zones_elsewhere placed_heap address r placed_tiled there (is ∙ ordinary))
      ∙ ap (filter (elsewhere address)) (zones_of_busy placed_heap.ranges)
      ∙ filter_swapped (elsewhere address) is_zone_range (filter busy placed_heap.ranges)
      ∙ ap (filter is_zone_range) (alone.busy address some)
      ∙ sym (zones_of_busy heap.ranges)

-- a resize of an element that is no memzone's leaves them
resized_state : (size : ℕ) (state : SpanState) → is_zone_state (with_size size state) ≡ is_zone_state state
resized_state size (Free stamp) = refl
resized_state size (Busy pad old tag) = refl

module _ (address size : ℕ) (heap : PlainHeap) (tiled : IsTiled heap) (can : CanAskSize address size heap) where
  abbrev alone : ResizesAlone address size heap
  alone = resizes_alone address size heap tiled can

  abbrev next : PlainHeap
  next = after_resize address size heap

  next_tiled : IsTiled next
  unfolding after
  next_tiled = after-tiled 0 (call.Resize address size) heap tiled can

  resize_zones : (o : Option Span) → busy_at address heap ≡ o → IfSome o (λ range. is_zone_range range ≡ false) → zone_ranges next ≡ zone_ranges heap
  resize_zones None none ordinary = absurd (none-some_is (busy_at address heap) none can.busy)
    where
      none-some_is : (o : Option Span) → o ≡ None → IsSome o → ⊥
      none-some_is o none some = cc
  resize_zones (Some r) there ordinary = elim (cases_Bool (can_resize address size heap)) [
    | inl had ↦ (let (whole, at) = alone.element had in
        let is : busy_at address next ≡ Some (resized r whole size) = at ∙ ap (option_map (λ (range : Span). resized range whole size)) there in
        sym (zones_elsewhere next address (resized r whole size) next_tiled is (resized_state size r.state ∙ ordinary))
        ∙ alone.zones
        ∙ zones_elsewhere heap address r tiled there ordinary)
    | inr refused ↦ ap zone_ranges (alone.refused refused)
  ]

-- marks of others stay where one participant's is set or cleared
eqb_same : (a b c : ℕ) → a ≡ b → eqb a c ≡ eqb b c
eqb_same a b c same = ap (λ (n : ℕ). eqb n c) same

set_bit : (who other marks : ℕ) → other ≢ who → has_bit marks who ≡ false → has_bit (marks + 2 ^ who) other ≡ has_bit marks other
set_bit who other marks apart off =
    eqb_same (bit_at (marks + 2 ^ who) other) (bit_at marks other) 1
    (ap (λ (n : ℕ). bit_at n other) (sym (mark_is who marks off))
    ∙ bit_at_or marks (2 ^ who) other
    ∙ omega (arith, bit_at-pow_other who other apart))

clear_bit : (who other marks : ℕ) → other ≢ who → has_bit marks who ≡ true → has_bit (marks - 2 ^ who) other ≡ has_bit marks other
clear_bit who other marks apart on =
    let both : bit_and marks (2 ^ who) ≡ 2 ^ who =
    and_pow marks who ∙ ap (λ (b : ℕ). b * 2 ^ who) (eqb-true (bit_at marks who) 1 on) ∙ omega arith in
    let less : marks - 2 ^ who ≡ bit_xor marks (2 ^ who) = omega (arith, xor_add_and marks (2 ^ who), both) in
    eqb_same (bit_at (marks - 2 ^ who) other) (bit_at marks other) 1
    (ap (λ (n : ℕ). bit_at n other) less
    ∙ bit_at_xor marks (2 ^ who) other
    ∙ omega (arith, bit_at-pow_other who other apart, bit_at-lt marks other))

pub with_mark_bit : (who other marks : ℕ) → other ≢ who → has_bit (with_mark who marks) other ≡ has_bit marks other
with_mark_bit who other marks apart =
    cond_both (has_bit marks who) marks (marks + 2 ^ who) (λ (m : ℕ). has_bit m other ≡ has_bit marks other) (λ on. refl)
    (λ off. set_bit who other marks apart off)

pub without_mark_bit : (who other marks : ℕ) → other ≢ who → has_bit (without_mark who marks) other ≡ has_bit marks other
without_mark_bit who other marks apart =
    cond_both (has_bit marks who) (marks - 2 ^ who) marks (λ (m : ℕ). has_bit m other ≡ has_bit marks other)
    (λ on. clear_bit who other marks apart on) (λ off. refl)

-- chunks with other marks on one of them
module _ (marks : ℕ → ℕ) (addr len : ℕ) where
  abbrev other_marks : Chunk → Chunk
  other_marks chunk = cond (is_chunk_at addr len chunk) (record chunk { attached = marks chunk.attached }) chunk

  chunk_same : (chunk : Chunk) → unmarked (other_marks chunk) ≡ unmarked chunk
  chunk_same chunk =
      cond_both (is_chunk_at addr len chunk) (record chunk { attached = marks chunk.attached }) chunk (λ (c : Chunk). unmarked c ≡ unmarked chunk)
      (λ here. refl) (λ other. refl)

  chunks_same : (chunks : List Chunk) → map unmarked (map other_marks chunks) ≡ map unmarked chunks
  chunks_same [] = refl
  chunks_same (chunk ∷ chunks) = λ i. chunk_same chunk i ∷ chunks_same chunks i

  module _ (other : ℕ) (same : (m : ℕ) → has_bit (marks m) other ≡ has_bit m other) where
    abbrev has : Chunk → Bool
    has chunk = has_bit chunk.attached other

    bit_same : (chunk : Chunk) → has (other_marks chunk) ≡ has chunk
    bit_same chunk =
        cond_both (is_chunk_at addr len chunk) (record chunk { attached = marks chunk.attached }) chunk (λ (c : Chunk). has c ≡ has chunk)
        (λ here. same chunk.attached) (λ there. refl)

    kept_by : (b : Bool) (x y : Chunk) (xs ys : List Chunk) → unmarked x ≡ unmarked y → map unmarked xs ≡ map unmarked ys
        → map unmarked (cond b (x ∷ xs) xs) ≡ map unmarked (cond b (y ∷ ys) ys)
    kept_by true x y xs ys first rest = λ i. first i ∷ rest i
    kept_by false x y xs ys first rest = rest

    pub marks_same : (chunks : List Chunk) → map unmarked (filter has (map other_marks chunks)) ≡ map unmarked (filter has chunks)
    marks_same [] = refl
    marks_same (chunk ∷ chunks) =
        let left = filter has (map other_marks chunks) in
        ap (λ (b : Bool). map unmarked (cond b (other_marks chunk ∷ left) left)) (bit_same chunk)
        ∙ kept_by (has chunk) (other_marks chunk) chunk left (filter has chunks) (chunk_same chunk) (marks_same chunks)

leaves_marking : (who : ℕ) (marks : ℕ → ℕ) (addr len : ℕ) (heap : PlainHeap)
    → ((other m : ℕ) → other ≢ who → has_bit (marks m) other ≡ has_bit m other) → LeavesNames who heap (with_marks marks addr len heap)
unfolding naming_of marked_by zone_ranges
leaves_marking who marks addr len heap same = record {
  naming = λ i. record { name = heap.name; socket = heap.socket; chunks = chunks_same marks addr len heap.chunks i; zones = zone_ranges heap };
  marks = λ other apart. marks_same marks addr len other (λ m. same other m apart) heap.chunks;
}

-- each call beside the names leaves what they say
pub calls_leave_names : CallsLeaveNames
unfolding after after_alloc after_free after_resize after_grow after_insertion after_cut after_share after_unshare
calls_leave_names participant (call.Alloc request tag) heap tiled allowed beside =
    leaves_with participant heap (after_alloc participant request tag heap)
    (named_placed heap request tag (chosen participant request heap))
    (alloc_zones participant request tag heap tiled beside (allocated participant request heap) refl)
calls_leave_names participant (call.Find tag) heap tiled allowed beside = leaves_with participant heap heap (named_itself heap) refl
calls_leave_names participant (call.Free addr zone) heap tiled allowed beside =
    leaves_with participant heap (after_free addr zone heap) (named_freed heap zone (busy_at addr heap))
    ((frees_alone addr zone heap tiled).all_zones beside)
calls_leave_names participant (call.Resize addr size) heap tiled allowed beside =
    leaves_with participant heap (after_resize addr size heap) (named_resized heap size (busy_at addr heap))
    (resize_zones addr size heap tiled allowed (busy_at addr heap) refl beside)
calls_leave_names participant (call.Grow run) heap tiled allowed beside =
    leaves_with participant heap (after_grow run heap) (record { name = refl; socket = refl; chunks = refl })
    (leaves_busy participant (call.Grow run) heap tiled allowed refl).zones
calls_leave_names participant (call.Cut addr) heap tiled allowed beside =
    leaves_with participant heap (after_cut addr heap) (named_cut heap (cut_at addr heap))
    (leaves_busy participant (call.Cut addr) heap tiled allowed refl).zones
calls_leave_names participant call.Stats heap tiled allowed beside = leaves_with participant heap heap (named_itself heap) refl
calls_leave_names participant (call.Name name socket) heap tiled allowed beside = absurd beside
calls_leave_names participant call.Unname heap tiled allowed beside = absurd beside
calls_leave_names participant (call.Chunk chunk) heap tiled allowed beside = absurd beside
calls_leave_names participant (call.Unchunk addr len) heap tiled allowed beside = absurd beside
calls_leave_names participant (call.Share addr len) heap tiled allowed beside =
    leaves_marking participant (with_mark participant) addr len heap (λ other m apart. with_mark_bit participant other m apart)
calls_leave_names participant (call.Unshare addr len) heap tiled allowed beside =
    leaves_marking participant (without_mark participant) addr len heap (λ other m apart. without_mark_bit participant other m apart)
