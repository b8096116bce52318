-- Memory that gets a list may come to a heap whose chunks are claimed.
use Rattle.std.proofs.Common.{◌≡◌, ◌≢◌, ◌⊎◌, ℕ, ◌+◌, ◌<◌, ◌≤◌, Bool, true, false, ◌&&◌, cond, not, List, [], ◌∷◌, ◌++◌, filter, length, map, Option, Some, None, Result, Ok, Err, Contains, count_by, refl, sym, ap, subst, ◌∙◌, inl, inr, arith, eqb, eq-eqb, leb, ltb, append-nil, if◌then◌else◌}
use Rattle.std.specs.List.{AllByRecursion, list_any, range_with_len}
use Rattle.std.specs.Result.{IfErr, IsErrAnd}
use Rattle.std.proofs.lemmas.Bool.{and_from, and_parts, le-leb, lt-ltb, not-true}
use Rattle.std.proofs.lemmas.List.Elements.{filter-append}
use Rattle.std.proofs.lemmas.List.Sums.{sum_by_push}
use Rattle.hp_base.specs.ExternalMemory.{is_bad_range}
use Rattle.hp_base.specs.declared.chunk.Chunk.{Chunk}
use Rattle.hp_base.specs.declared.row.Row.{Row}
use Rattle.hp_base.proofs.MemoryLemmas.{good_memory}
use Rattle.hp_heap.specs.Chunks.{CanAddChunk}
use Rattle.hp_heap.specs.PlainHeap.{PlainHeap, chunk_extent, page_extent, segments_of}
use Rattle.hp_heap.specs.Tiling.{IsTiled, in_segment}
use Rattle.hp_heap.proofs.ChunkFacts.ChunkTiling.{no_pages}
use Rattle.hp_heap.proofs.HistoryFacts.Counting.{count_none}
use Rattle.hp_heap.proofs.Members.{count_map, filter_whole, some_counted}
use Rattle.hp_heap.proofs.RangeLemmas.{AllByRecursion-weaker}
use Rattle.hp_segs.specs.Ranges.{IsRangeAnswer, after_claim_range, after_release_range, free_number, is_free_number, is_too_much, overlap_of, range_apart, range_contains, range_list, range_plan, segment_count}
use Rattle.hp_segs.specs.SegsView.{SegsView}
use Rattle.hp_segs.specs.Sound.{IsSound}
use Rattle.hp_segs.specs.declared.external_range.ExternalRange.{ExternalRange}
use Rattle.hp_segs.specs.declared.fault.RangeFault.{RangeFault}
use Rattle.hp_segs.specs.declared.fault.RangeFault.TheVariants as range
use Rattle.hp_segs.proofs.SlotFacts.RangeLemmas.{find_passes, planned_range, ranges_more}
use Rattle.hp_zone.specs.Directory.{PlainDirectory}
use Rattle.hp_zone.specs.Zones.{IsZoneName}
use Rattle.hp_external.specs.Adding.{IsAddFault, range_fault}
use Rattle.hp_external.specs.Naming.{IsExternal, IsExternalName}
use Rattle.hp_external.specs.Tie.{AreClaimed, claim_of}
use Rattle.hp_external.proofs.ListLemmas.{any_there, each_fails}

-- a plan never runs out of memory
never_much : (list : ℕ) (much : Bool) → ◌≡◌ {A = Result ℕ RangeFault} (if much then Err range.NoSpace else Ok list) (Err range.OutOfMemory) → ⊥
never_much list true is = cc
never_much list false is = cc

never_list : (segs : SegsView) (len page : ℕ) (number : Option ℕ) → range_list segs len page number ≡ Err range.OutOfMemory → ⊥
never_list segs len page None is = cc
never_list segs len page (Some list) is = never_much list (is_too_much (segment_count segs) len page) is

never_apart : (segs : SegsView) (len page : ℕ) (row : Option Row) → range_apart segs len page row ≡ Err range.OutOfMemory → ⊥
never_apart segs len page None is = never_list segs len page (free_number (length segs.pools) segs.ranges) is
never_apart segs len page (Some row) is = cc

never_bad : (segs : SegsView) (addr len page : ℕ) (bad : Bool)
    → (if bad then Err range.BadRange else range_apart segs len page (overlap_of segs addr len)) ≡ Err range.OutOfMemory → ⊥
never_bad segs addr len page true is = cc
never_bad segs addr len page false is = never_apart segs len page (overlap_of segs addr len) is

never_out : (segs : SegsView) (addr len page : ℕ) → range_plan addr len page segs ≡ Err range.OutOfMemory → ⊥
never_out segs addr len page is = never_bad segs addr len page (is_bad_range addr len page) is

-- a range that is refused, and one that is not
module _ (plain : PlainDirectory) (text : List ℕ) (index socket : ℕ) (name : IsZoneName text) (named : IsExternalName plain text index socket) where
  abbrev some : IsExternal plain text
  some = record { index = index; socket = socket; named = named }

  as_planned : (plan : Result ℕ RangeFault) (fault : RangeFault) → plan ≡ Err fault → (fault ≡ range.OutOfMemory → ⊥) → IsAddFault plain text plan (range_fault fault)
  as_planned plan range.BadRange is other = record { name = name; named = some; planned = is }
  as_planned plan (range.Overlaps row) is other = record { name = name; named = some; planned = is }
  as_planned plan range.NoSpace is other = record { name = name; named = some; planned = is }
  as_planned plan range.OutOfMemory is other = absurd (other refl)

  refused_by : (plan : Result ℕ RangeFault) (fault : RangeFault) → (plan ≡ Err range.OutOfMemory → ⊥) → IsRangeAnswer plan (Err fault)
      → IsAddFault plain text plan (range_fault fault)
  refused_by (Ok list) fault never (inl is) = cc
  refused_by (Ok list) fault never (inr is) =
      let same : fault ≡ range.OutOfMemory = cc in
      subst (λ f. IsAddFault plain text (Ok list) (range_fault f)) (sym same) (list, record { name = name; named = some; planned = refl })
  refused_by (Err planned) fault never is =
      let same : fault ≡ planned = cc in
      as_planned (Err planned) fault (ap Err (sym same)) (λ out. never (ap Err (sym same ∙ out)))

  pub refused_plan : (segs : SegsView) (addr len page : ℕ) (fault : RangeFault) → IsRangeAnswer (range_plan addr len page segs) (Err fault)
      → IsAddFault plain text (range_plan addr len page segs) (range_fault fault)
  refused_plan segs addr len page fault answer =
      refused_by (range_plan addr len page segs) fault (never_out segs addr len page) answer

  pub lacks_memory : (plan : Result ℕ RangeFault) (list : ℕ) → plan ≡ Ok list
      → IsAddFault plain text plan Rattle.hp_external.specs.declared.fault.AddFault.TheVariants.OutOfMemory
  lacks_memory plan list is = (list, record { name = name; named = some; planned = is })

-- an error that a `?` hands on
pub if_err : {T E : Type 0} (result : Result T E) (fault : E) (P : E → Type 0) → IsErrAnd result (λ e. e ≡ fault) → P fault → IfErr result P
if_err (Ok x) fault P is holds = tt
if_err (Err e) fault P is holds = subst P (sym is) holds

pub answer_ok : (plan : Result ℕ RangeFault) (list : ℕ) → IsRangeAnswer plan (Ok list) → plan ≡ Ok list
answer_ok (Ok planned) list (inl is) = sym is
answer_ok (Ok planned) list (inr is) = cc
answer_ok (Err fault) list is = cc

-- a range that gets a list
module _ (segs : SegsView) (addr len page list socket : ℕ) (planned : range_plan addr len page segs ≡ Ok list) where
  abbrev chunk : Chunk
  chunk = record { list = list; addr = addr; len = len; page = page; socket = socket; attached = 0 }

  -- nobody has that list
  pub list_free : list_any (λ claim. eqb claim.list list) segs.ranges ≡ false
  list_free =
      let passes = find_passes (is_free_number (length segs.pools) segs.ranges) (range_with_len 0 128) list (planned_range segs addr len page list planned).free in
      not-true (list_any (λ (claim : ExternalRange). eqb claim.list list) segs.ranges) (and_parts _ _ passes).1

  -- given back, it leaves the value
  pub given_back : after_release_range list (after_claim_range list addr len page socket segs) ≡ segs
  given_back =
      let own : filter (λ (claim : ExternalRange). not (eqb claim.list list)) (claim_of chunk ∷ []) ≡ []
      = ap (λ b. cond (not b) (claim_of chunk ∷ []) []) (eq-eqb list list refl) in
      let rest : filter (λ (claim : ExternalRange). not (eqb claim.list list)) segs.ranges ≡ segs.ranges
      = filter_whole (λ (claim : ExternalRange). not (eqb claim.list list)) segs.ranges
      (AllByRecursion-weaker (λ (claim : ExternalRange). eqb claim.list list ≡ false) (λ (claim : ExternalRange). not (eqb claim.list list) ≡ true)
      (λ claim other. ap not other) segs.ranges (each_fails (λ (claim : ExternalRange). eqb claim.list list) segs.ranges list_free)) in
      ap (λ ranges. record segs { ranges = ranges })
      (filter-append (λ (claim : ExternalRange). not (eqb claim.list list)) segs.ranges (claim_of chunk ∷ [])
      ∙ ap (λ xs. xs ++ filter (λ (claim : ExternalRange). not (eqb claim.list list)) (claim_of chunk ∷ [])) rest
      ∙ ap (λ xs. segs.ranges ++ xs) own
      ∙ append-nil segs.ranges)

  module _ (sound : IsSound segs) (heap : PlainHeap) (tiled : IsTiled heap) (external : heap.serves ≡ None) (claimed : AreClaimed segs.ranges heap.chunks) where
    outside : (byte : ℕ) → addr ≤ byte → byte < addr + len → count_by (range_contains byte) segs.ranges ≡ 0
    outside byte from to =
        let all = ranges_more segs addr len page socket list (planned_range segs addr len page list planned) sound.places.external in
        let here : range_contains byte (claim_of chunk) ≡ true = and_from _ _ (le-leb addr byte from) (lt-ltb byte (addr + len) to) in
        let weight : ◌≡◌ {A = ℕ} (cond (range_contains byte (claim_of chunk)) 1 0) 1 = ap (λ b. cond b 1 0) here in
        omega (arith, all.apart byte, weight, sum_by_push (λ (r : ExternalRange). cond (range_contains byte r) 1 0) segs.ranges (claim_of chunk))

    pub can_add : CanAddChunk chunk heap
    can_add = record {
      external = external;
      memory = good_memory addr len page (planned_range segs addr len page list planned).good;
      unmarked = refl;
      own_list =
          AllByRecursion-weaker (λ (other : Chunk). Contains segs.ranges (claim_of other)) (λ (other : Chunk). other.list ≢ list)
          (λ other there same.
          (let wrong : true ≡ false = sym (any_there (λ (claim : ExternalRange). eqb claim.list list) segs.ranges (claim_of other) there (eq-eqb other.list list same)) ∙ list_free in
          cc))
          heap.chunks claimed;
      fresh = λ byte from to.
          (let none : heap.pages ≡ [] = no_pages heap.serves heap.pages heap.chunks external tiled.kind in
          ap (λ pages. count_by (in_segment byte) (map page_extent pages ++ map chunk_extent heap.chunks)) none
          ∙ count_map chunk_extent (in_segment byte) heap.chunks
          ∙ count_none (λ (other : Chunk). in_segment byte (chunk_extent other)) heap.chunks
          (AllByRecursion-weaker (λ (other : Chunk). Contains segs.ranges (claim_of other)) (λ (other : Chunk). in_segment byte (chunk_extent other) ≡ false)
          (λ other there. Rattle.std.proofs.lemmas.Bool.false_from_ne_true (in_segment byte (chunk_extent other))
          (λ inside. absurd (omega (arith, outside byte from to, some_counted (range_contains byte) segs.ranges (claim_of other) inside there))))
          heap.chunks claimed));
    }
