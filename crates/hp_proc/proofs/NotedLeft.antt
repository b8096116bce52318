-- What a participant notes to be attached are the chunks with its mark still, once it has left one of them.
use Rattle.std.proofs.Common.{◌≡◌, ◌≢◌, ◌∙◌, ℕ, ◌<◌, ◌≤◌, Bool, true, false, ◌&&◌, ◌||◌, not, cond, List, [], ◌∷◌, Contains, Option, Some, filter, map, refl, sym, ap, arith, eqb, eq-eqb, inl, inr}
use Rattle.std.specs.Prelude.{nat_lt}
use Rattle.std.specs.List.{AllByRecursion}
use Rattle.std.proofs.lemmas.Bool.{and_right, cases_eq, cases_lt, cond-false, cond-true, eqb-true, le-ltb, lt-ltb, ne_eqb, or_left, or_right}
use Rattle.hp_base.specs.Flags.{has_bit}
use Rattle.hp_base.specs.declared.chunk.Chunk.{Chunk}
use Rattle.hp_events.proofs.ListFacts.{map_filter}
use Rattle.hp_external.proofs.ChunkLemmas.{one_of_address, one_of_list}
use Rattle.hp_external.proofs.Marks.{unmark_own}
use Rattle.hp_hall.specs.Naming.{marked_by, unmarked}
use Rattle.hp_heap.proofs.AllocFacts.ChoiceLaw.{Contains-filter}
use Rattle.hp_heap.proofs.Members.{AllByRecursion-each, filter_alike, filter_swapped, filter_whole}
use Rattle.hp_heap.specs.ChunkOrder.{AreInOrder}
use Rattle.hp_heap.specs.Chunks.{after_unshare, chunk_at, is_chunk_at, without_mark}
use Rattle.hp_heap.specs.PlainHeap.{Extent, PlainHeap}
use Rattle.hp_heap.specs.Tiling.{IsTiled}
use Rattle.hp_proc.proofs.SharedMarks.{at_is, its, left_chunk, marked_from}
use Rattle.hp_proc.specs.OwnChunks.{AreMarkedAs, chunks_of, is_before, own_chunk, without_own_chunk}
use Rattle.hp_proc.specs.declared.own_chunk.OwnChunk.{OwnChunk}

-- chunks that become others: of those with a mark some keep it, and no other gets it
module _ (who : ℕ) (f : Chunk → Chunk) (keep : Chunk → Bool) where
  abbrev has : Chunk → Bool
  has chunk = has_bit chunk.attached who

  record IsLeftAs (chunk : Chunk) : Type 0 where
    mark : has (f chunk) ≡ (has chunk && keep (unmarked chunk))
    same : unmarked (f chunk) ≡ unmarked chunk

  by_bits : (b k : Bool) (chunk : Chunk) (l r : List Chunk) → keep (unmarked chunk) ≡ k → unmarked (f chunk) ≡ unmarked chunk
      → map unmarked l ≡ filter keep (map unmarked r)
      → map unmarked (cond (b && k) (f chunk ∷ l) l) ≡ filter keep (map unmarked (cond b (chunk ∷ r) r))
  by_bits true true chunk l r is same rest =
      ap (λ (d : Chunk). d ∷ map unmarked l) same
      ∙ (ap (λ (m : List Chunk). unmarked chunk ∷ m) rest
      ∙ sym (cond-true (keep (unmarked chunk)) (unmarked chunk ∷ filter keep (map unmarked r)) (filter keep (map unmarked r)) is))
  by_bits true false chunk l r is same rest =
      rest ∙ sym (cond-false (keep (unmarked chunk)) (unmarked chunk ∷ filter keep (map unmarked r)) (filter keep (map unmarked r)) is)
  by_bits false k chunk l r is same rest = rest

  marked_map : (chunks : List Chunk) → AllByRecursion IsLeftAs chunks
      → map unmarked (filter has (map f chunks)) ≡ filter keep (map unmarked (filter has chunks))
  marked_map [] all = refl
  marked_map (chunk ∷ chunks) all =
      ap (λ (b : Bool). map unmarked (cond b (f chunk ∷ filter has (map f chunks)) (filter has (map f chunks)))) all.0.mark
      ∙ by_bits (has chunk) (keep (unmarked chunk)) chunk (filter has (map f chunks)) (filter has chunks) refl all.0.same (marked_map chunks all.1)

and_true : (b : Bool) → (b && true) ≡ b
and_true true = refl
and_true false = refl

-- notes of one heap stand by address
pub before_here : (heap a l b m : ℕ)
    → is_before (record { heap = heap; addr = a; len = l }) (record { heap = heap; addr = b; len = m }) ≡ nat_lt a b
before_here heap a l b m =
    ap (λ (x : Bool). x || (eqb heap heap && nat_lt a b)) (le-ltb heap heap (omega arith)) ∙ ap (λ (x : Bool). x && nat_lt a b) (eq-eqb heap heap refl)

module _ (me : ℕ) (heap : PlainHeap) (addr len : ℕ) (chunk : Chunk) (tiled : IsTiled heap) (order : AreInOrder heap.chunks)
    (there : chunk_at addr len heap ≡ Some chunk) (index : ℕ) where
  abbrev keep : Chunk → Bool
  keep other = not (eqb other.list chunk.list)

  abbrev f : Chunk → Chunk
  f = left_chunk me heap addr len chunk tiled order there

  mark_by : (c : Chunk) (b : Bool) → has_bit (cond b (record c { attached = without_mark me c.attached }) c).attached me ≡ (has_bit c.attached me && not b)
  mark_by c true = unmark_own me c.attached ∙ sym (and_right (has_bit c.attached me) false refl)
  mark_by c false = sym (and_true (has_bit c.attached me))

  same_by : (c : Chunk) (b : Bool) → unmarked (cond b (record c { attached = without_mark me c.attached }) c) ≡ unmarked c
  same_by c true = refl
  same_by c false = refl

  left_as : (c : Chunk) → Contains heap.chunks c → IsLeftAs me f keep c
  left_as c among = record {
    mark = ap (λ (b : Bool). has_bit (cond b (record c { attached = without_mark me c.attached }) c).attached me)
        (at_is me heap addr len chunk tiled order there c among) ∙ mark_by c (eqb c.list chunk.list);
    same = same_by c (is_chunk_at addr len c);
  }

  marks_left : marked_by me (after_unshare me addr len heap) ≡ filter keep (marked_by me heap)
  unfolding marked_by after_unshare
  marks_left = marked_map me f keep heap.chunks (AllByRecursion-each (IsLeftAs me f keep) heap.chunks left_as)

  -- the note of another chunk stands before the one that goes, or after it
  abbrev own : OwnChunk
  own = own_chunk index chunk

  abbrev beside : OwnChunk → Bool
  beside other = is_before other own || is_before own other

  it : Contains heap.chunks chunk
  it = its me heap addr len chunk tiled order there

  by_address : (d : Chunk) → beside (own_chunk index d) ≡ (nat_lt d.addr chunk.addr || nat_lt chunk.addr d.addr)
  by_address d =
      ap (λ (x : Bool). x || is_before own (own_chunk index d)) (before_here index d.addr d.len chunk.addr chunk.len)
      ∙ ap (λ (x : Bool). nat_lt d.addr chunk.addr || x) (before_here index chunk.addr chunk.len d.addr d.len)

  keep_is : (d : Chunk) → Contains (marked_by me heap) d → beside (own_chunk index d) ≡ keep d
  keep_is d has =
      let found = marked_from me heap d has in
      let c = found.chunk in
      let addr_is : c.addr ≡ d.addr = ap (λ (e : Chunk). e.addr) found.is in
      let list_is : c.list ≡ d.list = ap (λ (e : Chunk). e.list) found.is in
      by_address d
      ∙ elim (cases_lt d.addr chunk.addr) [
        | inl lower ↦ or_left (nat_lt d.addr chunk.addr) (nat_lt chunk.addr d.addr) (lt-ltb d.addr chunk.addr lower)
            ∙ sym (ap not (ne_eqb d.list chunk.list (λ same.
            omega (arith, lower, addr_is, ap (λ (e : Chunk). e.addr) (one_of_list heap tiled chunk it c found.among (list_is ∙ same))))))
        | inr above ↦ elim (cases_lt chunk.addr d.addr) [
          | inl higher ↦ or_right (nat_lt d.addr chunk.addr) (nat_lt chunk.addr d.addr) (lt-ltb chunk.addr d.addr higher)
              ∙ sym (ap not (ne_eqb d.list chunk.list (λ same.
              omega (arith, higher, addr_is, ap (λ (e : Chunk). e.addr) (one_of_list heap tiled chunk it c found.among (list_is ∙ same))))))
          | inr below ↦
              let extent = one_of_address heap tiled chunk it c found.among (omega (arith, above, below, addr_is)) in
              ap (λ (x : Bool). x || nat_lt chunk.addr d.addr) (le-ltb d.addr chunk.addr above)
              ∙ (le-ltb chunk.addr d.addr below
              ∙ sym (ap not (eq-eqb d.list chunk.list (sym list_is ∙ ap (λ (e : Extent). e.list) extent))))
        ]
      ]

  pub noted_left : (chunks : List OwnChunk) → AreMarkedAs index (marked_by me heap) chunks
      → AreMarkedAs index (marked_by me (after_unshare me addr len heap)) (without_own_chunk own chunks)
  noted_left chunks was =
      ap (map (own_chunk index)) marks_left
      ∙ (ap (map (own_chunk index))
      (sym (filter_alike (λ (d : Chunk). beside (own_chunk index d)) keep (marked_by me heap)
      (AllByRecursion-each (λ (d : Chunk). beside (own_chunk index d) ≡ keep d) (marked_by me heap) keep_is)))
      ∙ (map_filter (own_chunk index) beside (marked_by me heap)
      ∙ (ap (filter beside) was ∙ filter_swapped beside (λ (note : OwnChunk). eqb note.heap index) chunks)))

  -- notes of other heaps stay
  pub noted_else : (other : ℕ) (chunks : List OwnChunk) → other ≢ index → chunks_of other (without_own_chunk own chunks) ≡ chunks_of other chunks
  noted_else other chunks away =
      filter_swapped (λ (note : OwnChunk). eqb note.heap other) beside chunks
      ∙ filter_whole beside (chunks_of other chunks)
      (AllByRecursion-each (λ (note : OwnChunk). beside note ≡ true) (chunks_of other chunks)
      (λ note among.
      (let at : note.heap ≡ other = eqb-true note.heap other (Contains-filter (λ (n : OwnChunk). eqb n.heap other) chunks note among).0 in
      elim (cases_lt note.heap index) [
        | inl lower ↦ or_left (is_before note own) (is_before own note)
            (or_left (nat_lt note.heap index) (eqb note.heap index && nat_lt note.addr chunk.addr) (lt-ltb note.heap index lower))
        | inr above ↦ or_right (is_before note own) (is_before own note)
            (or_left (nat_lt index note.heap) (eqb index note.heap && nat_lt chunk.addr note.addr)
            (lt-ltb index note.heap (ordered other index note.heap at away above)))
      ])))
    where
      ordered : (other index heap : ℕ) → heap ≡ other → other ≢ index → index ≤ heap → index < heap
      ordered other index heap at away above = omega (arith, at, away, above)
