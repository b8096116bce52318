-- What an allocation gives is an element of the size asked for, with its data in the store.
use Rattle.std.proofs.Common.{◌≡◌, ℕ, ◌+◌, ◌-◌, ◌≤◌, Bool, true, false, List, [], ◌∷◌, ◌++◌, length, replicate, Contains, Option, Some, None, IsSome, MatchOption, unwrap_or, refl, sym, ap, subst, ◌∙◌, arith, eqb}
use Rattle.std.proofs.lemmas.Bool.{eq-eqb, false≢true}
use Rattle.std.proofs.lemmas.List.{length-replicate}
use Rattle.std.proofs.lemmas.List.Elements.{Contains-append_left, Contains-append_right}
use Rattle.std.proofs.lemmas.Option.{none-some, same_Some}
use Rattle.std.specs.Option.{option_and_then}
use Rattle.hp_base.specs.declared.request.Request.{Request}
use Rattle.hp_base.specs.declared.span.Span.{Span}
use Rattle.hp_base.specs.declared.tag.Caller.{Caller}
use Rattle.hp_base.specs.declared.tag.Tag.{Tag}
use Rattle.hp_heap.specs.PlainHeap.{PlainHeap, data_address, size_of_state, segments_of}
use Rattle.hp_heap.specs.Tiling.{IsTiled}
use Rattle.hp_heap.specs.Choice.{chosen, IsChoice, HasNoChoice}
use Rattle.hp_heap.specs.Placing.{after_alloc, after_choice, allocated, busy_piece, busy_start, count_if, has_rest_before, has_rest_behind, only_if, pieces_of, pieces_with, place_in, placed, replaced, rest_before, rest_behind}
use Rattle.std.specs.List.{filter}
use Rattle.hp_heap.specs.Joining.{busy_at, busy_ranges, has_data_at}
use Rattle.hp_heap.proofs.HistoryFacts.BusyLemmas.{elsewhere}
use Rattle.hp_heap.specs.Step.{after, answer_of, address_answer}
use Rattle.hp_heap.specs.History.{HeapView, IsCall}
use Rattle.hp_heap.specs.declared.entry.HeapCall.TheVariants as call
use Rattle.hp_heap.proofs.AllocFacts.AllocLaw.{choice-placed}
use Rattle.hp_heap.proofs.HistoryFacts.BusyLaw.{allocates_alone}
use Rattle.hp_heap.proofs.AllocFacts.ChoiceLaw.{Contains-here, chosen-is_choice, eligible-candidate}
use Rattle.hp_heap.proofs.FreeFacts.FreeTiling.{among_ranges}
use Rattle.hp_heap.proofs.AllocFacts.PieceLemmas.{IsPlacing}
use Rattle.hp_heap.proofs.RangeLemmas.{replaced-at}
use Rattle.hp_bytes.specs.StoreView.{StoreView}
use Rattle.hp_bytes.specs.Stores.{IsData, byte_fault, bytes_from, data_at, size_at, with_bytes}
use Rattle.hp_bytes.specs.Written.{written_over}
use Rattle.hp_bytes.specs.Zeroed.{KeepsData, LieIn}
use Rattle.hp_bytes.specs.Parts.{IsPartOf}
use Rattle.hp_bytes.specs.declared.part.Part.{Part}
use Rattle.hp_bytes.proofs.ElementLemmas.{busy_there}
use Rattle.hp_bytes.proofs.InsideLemmas.{data_inside, no_fault}
use Rattle.hp_bytes.proofs.OneMoreLemmas.{away, still_there}
use Rattle.hp_bytes.proofs.StoreLemmas.{data_kept, data_written, part_written, size_is}
use Rattle.hp_bytes.proofs.WrittenLemmas.{written-same}

-- an allocation leaves the segments
pub alloc_segments : (participant : ℕ) (request : Request) (tag : Tag) (heap : PlainHeap) → segments_of (after_alloc participant request tag heap) ≡ segments_of heap
unfolding after_alloc placed
alloc_segments participant request tag heap = of (chosen participant request heap)
  where
    of : (o : Option Span) → segments_of (after_choice o request tag heap) ≡ segments_of heap
    of None = refl
    of (Some range) = refl

-- an answer tells its address
pub same_address : (o o' : Option ℕ) → address_answer o ≡ address_answer o' → o ≡ o'
same_address None None is = refl
same_address None (Some addr) is = absurd cc
same_address (Some addr) None is = absurd cc
same_address (Some addr) (Some addr') is = ap Some cc

-- what a call of an allocation makes of a heap
pub record IsAllocation (participant : ℕ) (request : Request) (tag : Tag) (result : Option ℕ) (old new : PlainHeap) : Type 0 where
  pub heap : new ≡ after_alloc participant request tag old
  pub result_is : result ≡ allocated participant request old

pub alloc_call : (caller : Caller) (request : Request) (tag : Tag) (result : Option ℕ) (old new : HeapView) → IsCall caller (call.Alloc request tag) (address_answer result) old new
    → IsAllocation caller.participant request tag result old.plain new.plain
unfolding after answer_of
alloc_call caller request tag result old new is = record { heap = is.heap; result_is = same_address result (allocated caller.participant request old.plain) is.answered }

-- where it gives no address the heap is as before
pub alloc_refused : (participant : ℕ) (request : Request) (tag : Tag) (old new : PlainHeap) → IsTiled old → IsAllocation participant request tag None old new → new ≡ old
alloc_refused participant request tag old new tiled is = is.heap ∙ (allocates_alone participant request tag old tiled).refused (sym is.result_is)

-- an element of some size at an address
pub record IsMadeAt (addr size : ℕ) (heap : PlainHeap) : Type 0 where
  pub range : Span
  pub there : busy_at addr heap ≡ Some range
  pub sized : size_of_state range.state ≡ size

piece_start : (before : Bool) (r : Span) (d : ℕ) → r.addr + 128 ≤ d → busy_start before r d + 128 ≤ d
piece_start true r d room = omega (arith, room)
piece_start false r d room = room

-- the piece that a request is cut into has the data
placed_made : (heap : PlainHeap) (r : Span) (d size : ℕ) (tag : Tag) → IsTiled heap → Contains heap.ranges r → IsPlacing r d size → IsTiled (placed r d size tag heap)
    → IsMadeAt d size (placed r d size tag heap)
unfolding placed pieces_of
placed_made heap r d size tag tiled has placing tiled' =
    let (xs, ys, among) = among_ranges heap r tiled has in
    let before = has_rest_before r d in
    let behind = has_rest_behind r d size in
    let pieces = pieces_with before behind r d size tag heap.insertions in
    let piece = busy_piece before behind r d size tag in
    let front = only_if before (rest_before r d (heap.insertions + count_if behind + 1)) in
    let back = only_if behind (rest_behind r (d + size) (heap.insertions + 1)) in
    let ranges : (placed r d size tag heap).ranges ≡ xs ++ (pieces ++ ys) = ap (replaced r.addr pieces) among.ranges ∙ replaced-at r.addr pieces xs r ys among.under refl in
    let own : has_data_at d piece ≡ true = rw (eq-eqb (data_address piece) d (omega (arith, piece_start before r d placing.before))) refl in
    let among_pieces : Contains (xs ++ (pieces ++ ys)) piece =
    Contains-append_right xs (pieces ++ ys) piece (Contains-append_left pieces ys piece (Contains-append_right front (piece ∷ back) piece (Contains-here piece back))) in
    record {
      range = piece;
      there = busy_there (placed r d size tag heap) tiled' d piece (subst (λ (zs : List Span). Contains zs piece) (sym ranges) among_pieces) own;
      sized = refl;
    }

module _ (participant : ℕ) (request : Request) (tag : Tag) (heap : PlainHeap) (tiled : IsTiled heap) where
  choice_made : (o : Option Span) → MatchOption o (HasNoChoice participant request heap) (IsChoice participant request heap) → (d : ℕ) → option_and_then (place_in request) o ≡ Some d
      → IsTiled (after_choice o request tag heap) → IsMadeAt d request.size (after_choice o request tag heap)
  choice_made None none d is tiled' = absurd (none-some d is)
  choice_made (Some r) choice d is tiled' =
      let (at, place) = choice-placed heap participant request r tiled choice in
      let same : at ≡ d = same_Some at d (sym place.in_it ∙ is) in
      let heap_is : placed r (unwrap_or (place_in request r) 0) request.size tag heap ≡ placed r d request.size tag heap = ap (λ (o : Option ℕ). placed r (unwrap_or o 0) request.size tag heap) is in
      subst (λ (h : PlainHeap). IsMadeAt d request.size h) (sym heap_is)
      (placed_made heap r d request.size tag tiled (eligible-candidate heap participant request r choice.among).1 (subst (λ (n : ℕ). IsPlacing r n request.size) same place.placing)
      (subst (λ (h : PlainHeap). IsTiled h) heap_is tiled'))

  pub alloc_made : (d : ℕ) → allocated participant request heap ≡ Some d → IsTiled (after_alloc participant request tag heap) → IsMadeAt d request.size (after_alloc participant request tag heap)
  unfolding after_alloc allocated
  alloc_made d is tiled' = choice_made (chosen participant request heap) (chosen-is_choice heap participant request) d is tiled'

-- what is so of a store once the data of an allocation are zeros
module _ (participant : ℕ) (request : Request) (tag : Tag) (heap heap' : PlainHeap) (tiled : IsTiled heap) (tiled' : IsTiled heap') (made : heap' ≡ after_alloc participant request tag heap)
    (store : StoreView) (inside : LieIn store heap) (addr : ℕ) (at : allocated participant request heap ≡ Some addr) where
  its : IsMadeAt addr request.size heap'
  its = subst (λ (h : PlainHeap). IsMadeAt addr request.size h) (sym made) (alloc_made participant request tag heap tiled addr at (subst (λ (h : PlainHeap). IsTiled h) made tiled'))

  pub still_inside : LieIn store heap'
  still_inside = λ segment has. inside segment (subst (λ segments. Contains segments segment) (ap segments_of made ∙ alloc_segments participant request tag heap) has)

  -- its data are lent
  pub made_lent : byte_fault addr store heap' ≡ None
  made_lent = no_fault store heap' tiled' still_inside addr its.range its.there

  abbrev zeros : List ℕ
  zeros = replicate request.size 0

  abbrev zeroed : StoreView
  zeroed = with_bytes addr zeros store

  long : length zeros ≡ size_of_state its.range.state
  long = length-replicate request.size 0 ∙ sym its.sized

  size_made : size_at addr heap' ≡ request.size
  size_made = size_is heap' addr its.range its.there ∙ its.sized

  -- as many bytes as the size asked for
  pub made_size : (part : List ℕ) → IsData addr store heap' part → length part ≡ request.size
  made_size part is = is.size ∙ size_made

  -- they are 0 then
  pub made_zeros : IsData addr zeroed heap' zeros
  made_zeros = record {
    size = length-replicate request.size 0 ∙ sym size_made;
    bytes = sym (data_written store heap' tiled' addr its.range its.there (data_inside store heap' tiled' still_inside addr its.range its.there) zeros (omega (arith, long)) long);
  }

  -- and those of others stay
  pub made_others : KeepsData store zeroed heap heap'
  made_others = λ other busy. of other (busy_at other heap) refl busy
    where
      others : filter (elsewhere addr) (busy_ranges heap') ≡ busy_ranges heap
      others = rw made ((allocates_alone participant request tag heap tiled).busy addr at)

      of : (other : ℕ) (o : Option Span) → busy_at other heap ≡ o → IsSome o → data_at other zeroed heap' ≡ data_at other store heap
      of other None none busy = absurd (false≢true busy)
      of other (Some there) is busy =
          let still : busy_at other heap' ≡ Some there = still_there addr heap heap' tiled' others other there tiled is in
          let above = (data_inside store heap tiled inside other there is).0 in
          let size : size_at other heap' ≡ size_at other heap = size_is heap' other there still ∙ sym (size_is heap other there is) in
          data_kept store heap' tiled' addr its.range its.there (data_inside store heap' tiled' still_inside addr its.range its.there) zeros (omega (arith, long)) other there still
          (away addr heap heap' tiled' others other there tiled is) above
          ∙ ap (λ (n : ℕ). bytes_from other n store) size

  -- a store in which the part of its data was cleared is that one
  module _ (part : Part) (store' : StoreView) (is : IsPartOf addr store heap' part) (cleared : store' ≡ record { base = store.base; bytes = written_over part.from (replicate part.len 0) store.bytes }) where
    pub zero_store : store' ≡ zeroed
    zero_store =
        cleared ∙ ap (λ (n : ℕ). record { base = store.base; bytes = written_over part.from (replicate n 0) store.bytes }) (is.len ∙ size_made)
        ∙ part_written addr store heap' part zeros is

    pub zero_inside : LieIn store' heap'
    zero_inside = subst (λ (s : StoreView). LieIn s heap') (sym zero_store)
        (λ segment has. let bounds = still_inside segment has in (bounds.0, omega (arith, bounds.1, written-same (addr - store.base) zeros store.bytes)))

    pub zero_data : IsData addr store' heap' zeros
    zero_data = subst (λ (s : StoreView). IsData addr s heap' zeros) (sym zero_store) made_zeros

    pub zero_others : KeepsData store store' heap heap'
    zero_others = subst (λ (s : StoreView). KeepsData store s heap heap') (sym zero_store) made_others

-- where the heap is as before, so is what lies in a store
pub refused_inside : (store : StoreView) (heap heap' : PlainHeap) → heap' ≡ heap → LieIn store heap → LieIn store heap'
refused_inside store heap heap' same inside = subst (λ (h : PlainHeap). LieIn store h) (sym same) inside

pub refused_others : (store : StoreView) (heap heap' : PlainHeap) → heap' ≡ heap → KeepsData store store heap heap'
refused_others store heap heap' same = subst (λ (h : PlainHeap). KeepsData store store heap h) (sym same) (λ addr busy. refl)
