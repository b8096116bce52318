-- Calls on one external heap leave the tie of another.
use Rattle.std.proofs.Common.{◌≡◌, ◌≢◌, ℕ, ◌+◌, ◌<◌, Bool, true, false, ◌&&◌, cond, not, List, [], ◌∷◌, ◌++◌, map, filter, get_or, length, Some, Contains, count_by, refl, sym, ap, subst, ◌∙◌, arith, eqb, eq-eqb, ltb, append-nil}
use Rattle.std.specs.List.{AllByRecursion, position_or_len, remove}
use Rattle.std.proofs.lemmas.Bool.{and_from, and_parts, eqb-true, ne_eqb}
use Rattle.std.proofs.lemmas.List.Elements.{Contains-append_left, filter-append}
use Rattle.std.proofs.lemmas.List.Sums.{sum_by-remove}
use Rattle.hp_base.specs.Flags.{has_bit}
use Rattle.hp_base.specs.declared.chunk.Chunk.{Chunk}
use Rattle.hp_base.specs.declared.row.Row.{Row}
use Rattle.hp_heap.specs.Chunks.{after_chunk, after_share, after_unchunk, after_unshare, chunk_at, is_chunk_at, with_chunk, with_mark, with_marks, without_chunk, without_mark}
use Rattle.hp_heap.specs.PlainHeap.{PlainHeap}
use Rattle.hp_heap.specs.Step.{after, after_name}
use Rattle.hp_heap.specs.Tiling.{IsTiled}
use Rattle.hp_heap.specs.declared.entry.HeapCall.TheVariants as call
use Rattle.hp_heap.proofs.AllocFacts.ChoiceLaw.{AllByRecursion-contains}
use Rattle.hp_heap.proofs.HistoryFacts.Counting.{count_by-append, count_by-cons}
use Rattle.hp_heap.proofs.HistoryFacts.HistoryLaw.{after-same}
use Rattle.hp_heap.proofs.Members.{AllByRecursion-each, AllByRecursion-kept, Contains-kept, filter_implied, filter_swapped}
use Rattle.hp_heap.proofs.RangeLemmas.{AllByRecursion-append, AllByRecursion-weaker}
use Rattle.hp_maps.specs.Chunks.{is_of_chunk, rows_beside, rows_of_chunk}
use Rattle.hp_segs.specs.declared.external_range.ExternalRange.{ExternalRange}
use Rattle.hp_zone.specs.Directory.{PlainDirectory, is_range, without_range}
use Rattle.hp_zone.specs.declared.heap_name.HeapRange.{HeapRange}
use Rattle.hp_external.specs.Beside.{AddsLeaveOthers, AttachesLeaveOthers, DestroysLeaveOthers, DetachesLeaveOthers, IsBeside, RemovesLeaveOthers}
use Rattle.hp_external.specs.Tie.{AreClaimed, AreListed, AreMarked, IsMarked, IsOfClaim, IsTiedHeap, claim_of, is_range_of}
use Rattle.hp_external.proofs.AddLemmas.{list_free}
use Rattle.hp_external.proofs.ChunkLemmas.{among_chunks, its_memory}
use Rattle.hp_external.proofs.ListLemmas.{all_mapped, any_there, first_passes, first_within, none_kept}
use Rattle.hp_external.proofs.Marks.{no_mark}
use Rattle.hp_external.proofs.RowLemmas.{claimed_rows, other_rows, row_of_one}
use Rattle.hp_external.proofs.TieSteps.{its_range_there, tied_by}

-- the range that goes is not counted by a test that none like it passes
count_beside : (p test : HeapRange → Bool) (xs : List HeapRange) (d : HeapRange) → position_or_len p xs < length xs
    → ((x : HeapRange) → p x ≡ true → test x ≡ false) → count_by test (remove xs (position_or_len p xs)) ≡ count_by test xs
count_beside p test xs d within fails =
    let gone : HeapRange = get_or xs (position_or_len p xs) d in
    let weight : cond {A = ℕ} (test gone) 1 0 ≡ 0 = ap (λ b. cond b 1 0) (fails gone (first_passes p xs d within)) in
    let left : count_by test (remove xs (position_or_len p xs)) + cond {A = ℕ} (test gone) 1 0 ≡ count_by test xs =
    sum_by-remove (λ x. cond {A = ℕ} (test x) 1 0) xs (position_or_len p xs) d within in
    omega (arith, left, weight)

-- what is said of all chunks is said of them with one more, and with other marks on one
more_chunks : (P : Chunk → Type 0) (chunk : Chunk) (chunks : List Chunk) → AllByRecursion P chunks → P chunk → AllByRecursion P (with_chunk chunk chunks)
more_chunks P chunk chunks all own =
    AllByRecursion-append P (filter (λ other. ltb other.addr chunk.addr) chunks)
    (chunk ∷ filter (λ other. ltb chunk.addr other.addr) chunks)
    (AllByRecursion-kept P (λ other. ltb other.addr chunk.addr) chunks all) (
      own,
      AllByRecursion-kept P (λ other. ltb chunk.addr other.addr) chunks all,
    )

by_mark : (P : Chunk → Type 0) (marks : ℕ → ℕ) (chunk : Chunk) (b : Bool) → P (record chunk { attached = marks chunk.attached }) → P chunk
    → P (cond b (record chunk { attached = marks chunk.attached }) chunk)
by_mark P marks chunk true on off = on
by_mark P marks chunk false on off = off

module _ (heap other : PlainHeap) (beside : IsBeside heap other) where
  abbrev HasOtherList : Chunk → Type 0
  HasOtherList chunk = AllByRecursion (λ (its : Chunk). its.list ≢ chunk.list) other.chunks

  marked_chunks : (marks : ℕ → ℕ) (addr len : ℕ) → AllByRecursion HasOtherList (with_marks marks addr len heap).chunks
  marked_chunks marks addr len =
      all_mapped HasOtherList (λ (c : Chunk). cond (is_chunk_at addr len c) (record c { attached = marks c.attached }) c) heap.chunks
      (AllByRecursion-weaker HasOtherList (λ (c : Chunk). HasOtherList (cond (is_chunk_at addr len c) (record c { attached = marks c.attached }) c))
      (λ c its. by_mark HasOtherList marks c (is_chunk_at addr len c) its its) heap.chunks beside.lists)

  -- a heap of that index, with those chunks
  still_beside : (heap' : PlainHeap) → heap'.index ≡ heap.index → AllByRecursion HasOtherList heap'.chunks → IsBeside heap' other
  still_beside heap' index lists = record { index = λ same. beside.index (same ∙ index); lists = lists }

  not_its : (addr len page : ℕ) (range : HeapRange) → range.index ≡ heap.index → is_range_of other.index addr len page range ≡ false
  not_its addr len page range is =
      ap (λ b. b && ((eqb range.addr addr) && ((eqb range.len len) && (eqb range.page page))))
      (ne_eqb range.index other.index (λ same. beside.index (sym same ∙ is)))

  -- memory comes to the heap
  tied_more_beside : (directory : List HeapRange) (claims : List ExternalRange) (participant : ℕ) (rows : List Row) (range : HeapRange)
      (claim : ExternalRange) → range.index ≡ heap.index → IsTiedHeap directory claims participant rows other
      → IsTiedHeap (directory ++ range ∷ []) (claims ++ claim ∷ []) participant rows other
  tied_more_beside directory claims participant rows range claim is tied = record {
    listed = λ addr len page.
        (let weight : cond {A = ℕ} (is_range_of other.index addr len page range) 1 0 ≡ 0 = ap (λ b. cond b 1 0) (not_its addr len page range is) in
        omega (
          arith,
          count_by-append (is_range_of other.index addr len page) directory (range ∷ []),
          count_by-cons (is_range_of other.index addr len page) range [],
          tied.listed addr len page,
          weight,
        ));
    claimed =
        AllByRecursion-weaker (λ (c : Chunk). Contains claims (claim_of c)) (λ (c : Chunk). Contains (claims ++ claim ∷ []) (claim_of c))
        (λ c has. Contains-append_left claims (claim ∷ []) (claim_of c) has) other.chunks tied.claimed;
    marked = tied.marked;
    known =
        AllByRecursion-weaker (IsOfClaim claims) (IsOfClaim (claims ++ claim ∷ []))
        (λ row known log.
        (let its = known log in
        record {
          claim = its.claim;
          there = Contains-append_left claims (claim ∷ []) its.claim its.there;
          list_is = its.list_is;
          from = its.from;
          within = its.within;
        }))
        rows tied.known;
  }

  module _ (directory : List HeapRange) (claims : List ExternalRange) (participant : ℕ) (rows : List Row) (addr len : ℕ) (chunk : Chunk)
      (there : chunk_at addr len heap ≡ Some chunk) (tied : IsTiedHeap directory claims participant rows other) where
    has : Contains heap.chunks chunk
    has = among_chunks heap addr len chunk there

    differs : (its : Chunk) → Contains other.chunks its → its.list ≢ chunk.list
    differs its among =
        AllByRecursion-contains (λ (c : Chunk). c.list ≢ chunk.list) other.chunks its
        (AllByRecursion-contains HasOtherList heap.chunks chunk beside.lists has) among

    -- the caller leaves it
    tied_left_beside : IsTiedHeap directory claims participant (rows_beside chunk rows) other
    tied_left_beside = record {
      listed = tied.listed;
      claimed = tied.claimed;
      marked =
          AllByRecursion-each (IsMarked participant (rows_beside chunk rows)) other.chunks
          (λ its among.
          filter_swapped (is_of_chunk its) (λ row. not (is_of_chunk chunk row)) rows
          ∙ filter_implied (is_of_chunk its) (λ row. not (is_of_chunk chunk row)) rows
          (AllByRecursion-each (λ row. is_of_chunk its row ≡ true → not (is_of_chunk chunk row) ≡ true) rows
          (λ row here passes. ap not (row_of_one chunk its row (differs its among) passes)))
          ∙ AllByRecursion-contains (IsMarked participant rows) other.chunks its tied.marked among);
      known = AllByRecursion-kept (IsOfClaim claims) (λ row. not (is_of_chunk chunk row)) rows tied.known;
    }

    module _ (tiled : IsTiled heap) (own : IsTiedHeap directory claims participant rows heap) where
      -- the caller attaches it
      tied_attached_beside : IsTiedHeap directory claims participant (rows ++ rows_of_chunk chunk) other
      tied_attached_beside = record {
        listed = tied.listed;
        claimed = tied.claimed;
        marked =
            AllByRecursion-each (IsMarked participant (rows ++ rows_of_chunk chunk)) other.chunks
            (λ its among.
            filter-append (is_of_chunk its) rows (rows_of_chunk chunk)
            ∙ ap (λ rs. filter (is_of_chunk its) rows ++ rs) (other_rows chunk its (differs its among))
            ∙ append-nil (filter (is_of_chunk its) rows)
            ∙ AllByRecursion-contains (IsMarked participant rows) other.chunks its tied.marked among);
        known =
            AllByRecursion-append (IsOfClaim claims) rows (rows_of_chunk chunk) tied.known
            (claimed_rows chunk claims (its_memory heap tiled chunk has)
            (AllByRecursion-contains (λ (c : Chunk). Contains claims (claim_of c)) heap.chunks chunk own.claimed has));
      }

      -- it goes, without marks
      within : position_or_len (is_range heap.index addr) directory < length directory
      within =
          let plain : PlainDirectory = record { heaps = []; ranges = directory; next = 0 } in
          let its = its_range_there directory heap addr len chunk tiled there own.listed plain refl in
          first_within (is_range heap.index addr) directory its.range its.there
          (and_from _ _ (eq-eqb its.range.index heap.index its.index_is) (eq-eqb its.range.addr addr its.addr_is))

      module _ (unmarked : chunk.attached ≡ 0) where
        no_row : filter (is_of_chunk chunk) rows ≡ []
        no_row =
            let none : has_bit chunk.attached participant ≡ false = ap (λ (m : ℕ). has_bit m participant) unmarked ∙ no_mark participant in
            AllByRecursion-contains (IsMarked participant rows) heap.chunks chunk own.marked has
            ∙ ap (λ b. cond b (rows_of_chunk chunk) []) none

        tied_less_beside : IsTiedHeap (without_range heap.index addr directory) (filter (λ claim. not (eqb claim.list chunk.list)) claims) participant rows
            other
        tied_less_beside = record {
          listed = λ at long page.
              count_beside (is_range heap.index addr) (is_range_of other.index at long page) directory
              (record { index = 0; addr = 0; len = 0; page = 0 }) within
              (λ range passes.
              not_its at long page range (eqb-true range.index heap.index (and_parts (eqb range.index heap.index) (eqb range.addr addr) passes).0))
              ∙ tied.listed at long page;
          claimed =
              AllByRecursion-each (λ its. Contains (filter (λ claim. not (eqb claim.list chunk.list)) claims) (claim_of its)) other.chunks
              (λ its among.
              Contains-kept (λ (claim : ExternalRange). not (eqb claim.list chunk.list)) claims (claim_of its)
              (ap not (ne_eqb its.list chunk.list (differs its among)))
              (AllByRecursion-contains (λ (c : Chunk). Contains claims (claim_of c)) other.chunks its tied.claimed among));
          marked = tied.marked;
          known =
              AllByRecursion-each (IsOfClaim (filter (λ claim. not (eqb claim.list chunk.list)) claims)) rows
              (λ row among log.
              (let claim = AllByRecursion-contains (IsOfClaim claims) rows row tied.known among log in
              let another : claim.claim.list ≡ chunk.list → ⊥
              = λ same. none_kept (is_of_chunk chunk) rows no_row row among
              (and_from (eqb row.generation 0) (eqb row.list chunk.list) (eq-eqb row.generation 0 log)
              (eq-eqb row.list chunk.list (sym claim.list_is ∙ same))) in
              record {
                claim = claim.claim;
                there =
                    Contains-kept (λ (c : ExternalRange). not (eqb c.list chunk.list)) claims claim.claim
                    (ap not (ne_eqb claim.claim.list chunk.list another)) claim.there;
                list_is = claim.list_is;
                from = claim.from;
                within = claim.within;
              }));
        }

pub destroys_beside : DestroysLeaveOthers
unfolding after after_name
destroys_beside caller text names names' heap heap' other claims participant rows done beside tied = (
  still_beside heap.plain other beside heap'.plain (ap (λ h. h.index) done.unnamed.heap)
      (subst (λ cs. AllByRecursion (HasOtherList heap.plain other beside) cs) (sym (ap (λ h. h.chunks) done.unnamed.heap)) beside.lists),
  tied_by _ _ claims claims participant rows rows other other (ap (λ d. d.plain.ranges) done.directory) refl refl refl tied,
)

pub adds_beside : AddsLeaveOthers
unfolding after after_chunk
adds_beside caller text addr len page names names' segs segs' heap heap' other participant rows added beside tied =
    let chunk : Chunk = record { list = added.list; addr = addr; len = len; page = page; socket = added.socket; attached = 0 } in
    let free = list_free segs addr len page added.list added.socket added.planned in
    let fresh : HasOtherList heap.plain other beside chunk
    = AllByRecursion-weaker (λ (its : Chunk). Contains segs.ranges (claim_of its)) (λ (its : Chunk). its.list ≢ added.list)
    (λ its there same.
    (let wrong : true ≡ false = sym (any_there (λ (claim : ExternalRange). eqb claim.list added.list) segs.ranges (claim_of its) there (eq-eqb its.list added.list same)) ∙ free in
    cc))
    other.chunks tied.claimed in (
      still_beside heap.plain other beside heap'.plain
          (ap (λ h. h.index) added.came.heap ∙ (after-same caller.participant (call.Chunk chunk) heap.plain).index)
          (subst (λ cs. AllByRecursion (HasOtherList heap.plain other beside) cs) (sym (ap (λ h. h.chunks) added.came.heap))
          (more_chunks (HasOtherList heap.plain other beside) chunk heap.plain.chunks beside.lists fresh)),
      tied_by _ _ _ _ participant rows rows other other (ap (λ d. d.plain.ranges) added.listed) (ap (λ s. s.ranges) added.claimed) refl refl
          (tied_more_beside heap.plain other beside names.heaps.plain.ranges segs.ranges participant rows
          (record { index = heap.plain.index; addr = addr; len = len; page = page }) (claim_of chunk) refl tied),
    )

pub removes_beside : RemovesLeaveOthers
unfolding after after_unchunk
removes_beside caller text addr len names names' segs segs' heap heap' other participant rows removed tiled beside own tied = (
  still_beside heap.plain other beside heap'.plain
      (ap (λ h. h.index) removed.went.heap ∙ (after-same caller.participant (call.Unchunk addr len) heap.plain).index)
      (subst (λ cs. AllByRecursion (HasOtherList heap.plain other beside) cs)
      (sym (ap (λ h. h.chunks) removed.went.heap ∙ ap (λ o. (without_chunk o heap.plain).chunks) removed.named.there))
      (AllByRecursion-kept (HasOtherList heap.plain other beside) (λ (c : Chunk). not (eqb c.list removed.chunk.list)) heap.plain.chunks beside.lists)),
  tied_by _ _ _ _ participant rows rows other other (ap (λ d. d.plain.ranges) removed.directory) (ap (λ s. s.ranges) removed.released) refl refl
      (tied_less_beside heap.plain other beside names.heaps.plain.ranges segs.ranges participant rows addr len removed.chunk removed.named.there tied
      tiled own removed.unmarked),
)

pub attaches_beside : AttachesLeaveOthers
unfolding after after_share
attaches_beside caller text addr len names claims heap heap' maps maps' other done tiled beside own tied = (
  still_beside heap.plain other beside heap'.plain
      (ap (λ h. h.index) done.shared.heap ∙ (after-same caller.participant (call.Share addr len) heap.plain).index)
      (subst (λ cs. AllByRecursion (HasOtherList heap.plain other beside) cs) (sym (ap (λ h. h.chunks) done.shared.heap))
      (marked_chunks heap.plain other beside (with_mark caller.participant) addr len)),
  tied_by _ _ claims claims caller.participant _ _ other other refl refl done.rows refl
      (tied_attached_beside heap.plain other beside names.heaps.plain.ranges claims caller.participant maps.rows addr len done.chunk done.named.there
      tied tiled own),
)

pub detaches_beside : DetachesLeaveOthers
unfolding after after_unshare
detaches_beside caller text addr len names claims heap heap' maps maps' other done beside tied = (
  still_beside heap.plain other beside heap'.plain
      (ap (λ h. h.index) done.unshared.heap ∙ (after-same caller.participant (call.Unshare addr len) heap.plain).index)
      (subst (λ cs. AllByRecursion (HasOtherList heap.plain other beside) cs) (sym (ap (λ h. h.chunks) done.unshared.heap))
      (marked_chunks heap.plain other beside (without_mark caller.participant) addr len)),
  tied_by _ _ claims claims caller.participant _ _ other other refl refl done.rows refl
      (tied_left_beside heap.plain other beside names.heaps.plain.ranges claims caller.participant maps.rows addr len done.chunk done.named.there
      tied),
)
