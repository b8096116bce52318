-- A participant that has the segment value in hand may attach a chunk whose memory is claimed, where it has its mark on none of that list.
use Rattle.std.proofs.Common.{◌≡◌, ◌≢◌, ◌⊎◌, ℕ, ◌+◌, ◌<◌, ◌≤◌, ◌^◌, ◌∙◌, Bool, List, ◌∷◌, ◌++◌, Contains, cond, length, length-append, refl, sym, ap, subst, arith, eqb, eq-eqb, inl, inr, ⊎_elim}
use Rattle.std.proofs.lemmas.Bool.{and_from, cases_eq, cases_lt, cond-false, cond-true, le-leb, lt-ltb, ne_eqb}
use Rattle.std.proofs.lemmas.List.Elements.{All-contains, All-contains_itself, All-weaker}
use Rattle.hp_base.specs.Mapping.{AreApart}
use Rattle.hp_base.specs.declared.chunk.Chunk.{Chunk}
use Rattle.hp_base.specs.declared.limits.TheConstants.{MAX_HEAPS}
use Rattle.hp_base.specs.declared.row.Row.{Row}
use Rattle.hp_external.specs.Attaching.{HasRoomFor}
use Rattle.hp_hall.specs.AgreedNames.{chunk_memory}
use Rattle.hp_hall.specs.Own.{Own}
use Rattle.hp_heap.proofs.AllocFacts.ChoiceLaw.{Contains-cases, Contains-here, Contains-there}
use Rattle.hp_heap.proofs.Members.{counted_once}
use Rattle.hp_log.specs.Places.{IsLogOf, IsOutside}
use Rattle.hp_maps.proofs.ChunkLemmas.{chunk_length}
use Rattle.hp_maps.proofs.ReadyLemmas.{ready_to_attach}
use Rattle.hp_maps.specs.Chunks.{rows_of_chunk}
use Rattle.hp_maps.specs.MapsView.{MapsView, calls_of, chunk_rows}
use Rattle.hp_maps.specs.Ready.{IsClear, IsReady}
use Rattle.hp_segs.specs.LogPlaces.{RangesAreOutside, SlotsAreFew, places_of}
use Rattle.hp_segs.specs.Ranges.{range_contains}
use Rattle.hp_segs.specs.SegsView.{SegsView}
use Rattle.hp_segs.specs.Sound.{IsSound}
use Rattle.hp_segs.specs.SoundPlaces.{IsRange}
use Rattle.hp_segs.specs.declared.external_range.ExternalRange.{ExternalRange}
use Rattle.hp_serve.proofs.ChunksBeside.{chunks_few, held_of, memory_of}
use Rattle.hp_serve.proofs.ChunksMarked.{has_attached}
use Rattle.hp_serve.proofs.Tying.{room_beside, tied_ready}
use Rattle.hp_serve.specs.Tied.{HasChunks, IsTied}

module _ (segs : SegsView) (own : Own) (marked : ℕ → List Chunk) (joined : Bool) (maps : MapsView) (index : ℕ) (chunk : Chunk) (sound : IsSound segs)
    (placed : IsLogOf (places_of segs.pools) segs.log) (outside : RangesAreOutside) (few : SlotsAreFew) (rows_apart : AreApart maps.rows)
    (tied : IsTied segs.log own marked joined maps)
    (claimed : (heap : ℕ) (other : Chunk) → heap < MAX_HEAPS → Contains (marked heap) other → Contains segs.ranges (chunk_memory other))
    (here : Contains segs.ranges (chunk_memory chunk)) (low : index < MAX_HEAPS)
    (apart : (heap : ℕ) (other : Chunk) → heap < MAX_HEAPS → Contains (marked heap) other → other.list ≢ chunk.list) (calls : calls_of maps ≤ 2 ^ 63) where
  abbrev held : List Row
  held = chunk_rows maps.rows

  -- a row of another chunk begins in other claimed memory
  beside : (row : Row) → Contains held row → (row.addr < chunk.addr) ⊎ (chunk.addr + chunk.len ≤ row.addr)
  beside row among =
      let one = held_of segs marked held sound tied.table.chunks claimed row among in
      elim (cases_lt row.addr chunk.addr) [
        | inl lower ↦ inl lower
        | inr above ↦ elim (cases_lt row.addr (chunk.addr + chunk.len)) [
          | inr behind ↦ inr behind
          | inl inside ↦ (let range : ExternalRange = one.claim.claim in
              let same : range ≡ chunk_memory chunk =
              counted_once (range_contains row.addr) segs.ranges range (chunk_memory chunk) (sound.places.external.apart row.addr)
              (and_from _ _ (le-leb range.addr row.addr one.claim.from) (lt-ltb row.addr (range.addr + range.len) one.claim.within), one.claim.there)
              (and_from _ _ (le-leb chunk.addr row.addr above) (lt-ltb row.addr (chunk.addr + chunk.len) inside), here) in
              let list : one.chunk.list ≡ chunk.list =
              sym one.its.list ∙ (sym one.claim.list_is ∙ ap (λ (r : ExternalRange). r.list) same) in
              absurd (apart one.heap one.chunk one.few one.mark list))
        ]
      ]

  clear : IsClear (places_of segs.pools) held chunk
  clear = record {
    memory = memory_of (chunk_memory chunk) (All-contains IsRange segs.ranges (chunk_memory chunk) sound.places.external.each here);
    outside =
        All-contains
        (λ (range : ExternalRange). (addr : ℕ) → range.addr ≤ addr → addr < range.addr + range.len → IsOutside (places_of segs.pools) addr)
        segs.ranges (chunk_memory chunk) (outside segs sound) here;
    others =
        All-weaker (Contains held) (λ (row : Row). (row.addr < chunk.addr) ⊎ (chunk.addr + chunk.len ≤ row.addr)) beside held
        (All-contains_itself held);
  }

  -- with it marked besides, its rows and those of the others are no more than the claimed pages
  abbrev with_it : ℕ → List Chunk
  with_it heap = cond (eqb heap index) (chunk ∷ marked heap) (marked heap)

  with_here : with_it index ≡ chunk ∷ marked index
  with_here = cond-true (eqb index index) (chunk ∷ marked index) (marked index) (eq-eqb index index refl)

  with_else : (heap : ℕ) → heap ≢ index → with_it heap ≡ marked heap
  with_else heap away = cond-false (eqb heap index) (chunk ∷ marked heap) (marked heap) (ne_eqb heap index away)

  came : (other : Chunk) → Contains (with_it index) other → Contains (marked index) other ⊎ (other ≡ chunk)
  came other there = elim (Contains-cases chunk other (marked index) (subst (λ (l : List Chunk). Contains l other) with_here there)) [
    | inl same ↦ inr (sym same)
    | inr old ↦ inl old
  ]

  with_it_has : HasChunks with_it (held ++ rows_of_chunk chunk)
  with_it_has =
      has_attached marked with_it held index chunk tied.table.chunks with_else low apart came
      (λ other old. subst (λ (l : List Chunk). Contains l other) (sym with_here) (Contains-there chunk other (marked index) old))
      (subst (λ (l : List Chunk). Contains l chunk) (sym with_here) (Contains-here chunk (marked index)))

  with_it_claimed : (heap : ℕ) (other : Chunk) → heap < MAX_HEAPS → Contains (with_it heap) other → Contains segs.ranges (chunk_memory other)
  with_it_claimed heap other below there =
      ⊎_elim
      (λ (same : heap ≡ index).
      ⊎_elim (λ (old : Contains (marked index) other). claimed index other low old)
      (λ (new : other ≡ chunk). subst (λ (c : Chunk). Contains segs.ranges (chunk_memory c)) (sym new) here)
      (came other (subst (λ (h : ℕ). Contains (with_it h) other) same there)))
      (λ (away : heap ≢ index). claimed heap other below (subst (λ (l : List Chunk). Contains l other) (with_else heap away) there))
      (cases_eq heap index)

  ready : IsReady (places_of segs.pools) maps segs.log (length segs.log)
  ready =
      let room_for = room_beside segs marked maps sound outside few rows_apart tied.table.chunks claimed in
      tied_ready (places_of segs.pools) segs.log own marked joined maps placed room_for.beside room_for.few tied calls

  pub may_attach : HasRoomFor maps chunk
  may_attach =
      let range = All-contains IsRange segs.ranges (chunk_memory chunk) sound.places.external.each here in
      let pages = range.segments in
      let all = chunks_few segs with_it (held ++ rows_of_chunk chunk) sound with_it_has with_it_claimed in
      let together = length-append held (rows_of_chunk chunk) in
      let its = chunk_length chunk in
      let slots = few segs sound in
      let capacity = tied.table.room in
      let can =
      ready_to_attach (places_of segs.pools) maps segs.log (length segs.log) chunk ready clear (omega (arith, pages))
      (omega (arith, all, together, its, slots, capacity)) in
      record { pages = can.pages; clear = can.clear; room = can.room; calls = can.calls }
