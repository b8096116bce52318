-- What a participant notes to be attached are the chunks with its mark still, once it has attached one more.
use Rattle.std.proofs.Common.{◌&&◌, ◌++◌, ◌+◌, ◌<◌, ◌||◌, ◌∙◌, ◌∷◌, ◌≡◌, ◌≢◌, ◌≤◌, Bool, Contains, List, Some, [], ap, append-nil, arith, cond, eq-eqb, eqb, false, filter, inl, inr, map, refl, subst, sym, true, ℕ}
use Rattle.std.specs.Prelude.{nat_lt}
use Rattle.std.proofs.lemmas.Bool.{and_left, cases_lt, cond-false, cond-true, eqb-true, le-ltb, lt-ltb, ne_eqb, or_left}
use Rattle.std.proofs.lemmas.List.Elements.{filter-append}
use Rattle.std.proofs.lemmas.List.{map-append}
use Rattle.std.specs.List.{AllByRecursion}
use Rattle.hp_base.specs.Flags.{has_bit}
use Rattle.hp_base.specs.declared.chunk.Chunk.{Chunk}
use Rattle.hp_events.proofs.ListFacts.{map_filter}
use Rattle.hp_external.proofs.ChunkLemmas.{its_addr}
use Rattle.hp_external.proofs.ListLemmas.{filter_none}
use Rattle.hp_external.proofs.Marks.{mark_own}
use Rattle.hp_hall.specs.Naming.{marked_by, unmarked}
use Rattle.hp_heap.proofs.AllocFacts.ChoiceLaw.{Contains-cases, Contains-filter, Contains-none}
use Rattle.hp_heap.proofs.ChunkFacts.ChunkListLemmas.{rise_over}
use Rattle.hp_heap.proofs.Members.{AllByRecursion-each, filter_alike, filter_swapped, filter_whole}
use Rattle.hp_heap.specs.ChunkOrder.{AreInOrder, AreRisingFrom}
use Rattle.hp_heap.specs.Chunks.{after_share, chunk_at, is_chunk_at, with_mark}
use Rattle.hp_heap.specs.PlainHeap.{PlainHeap}
use Rattle.hp_heap.specs.Tiling.{IsTiled}
use Rattle.hp_proc.proofs.NotedLeft.{before_here}
use Rattle.hp_proc.proofs.SharedMarks.{here, its, shared_chunk}
use Rattle.hp_proc.specs.OwnChunks.{AreMarkedAs, chunks_of, is_before, own_chunk, with_own_chunk}
use Rattle.hp_proc.specs.declared.own_chunk.OwnChunk.{OwnChunk}

map_itself : (f : Chunk → Chunk) (chunks : List Chunk) → AllByRecursion (λ (c : Chunk). f c ≡ c) chunks → map f chunks ≡ chunks
map_itself f [] all = refl
map_itself f (c ∷ cs) all = λ i. all.0 i ∷ map_itself f cs all.1 i

-- a chunk among some that rise lies no lower than they begin
above_first : (from : ℕ) (cs : List Chunk) (x : Chunk) → AreRisingFrom from cs → Contains cs x → from ≤ x.addr
above_first from [] x rising there = absurd (Contains-none x there)
above_first from (c ∷ cs) x rising there = elim (Contains-cases c x cs there) [
  | inl is ↦ subst (λ (d : Chunk). from ≤ d.addr) is rising.0
  | inr rest ↦ (let up = above_first (c.addr + 1) cs x rising.1 rest in
      let low = rising.0 in
      omega (arith, up, low))
]

-- chunks by rising address of which the one at an address gets a mark: among the marked ones it stands by its address
module _ (who a : ℕ) (f : Chunk → Chunk) where
  abbrev has : Chunk → Bool
  has chunk = has_bit chunk.attached who

  abbrev lower : Chunk → Bool
  lower chunk = nat_lt chunk.addr a

  abbrev higher : Chunk → Bool
  higher chunk = nat_lt a chunk.addr

  abbrev before : List Chunk → List Chunk
  before chunks = map unmarked (filter has chunks)

  abbrev behind : List Chunk → List Chunk
  behind chunks = map unmarked (filter has (map f chunks))

  lower_by : (b : Bool) (c : Chunk) (r : List Chunk) → a < c.addr → filter lower (map unmarked r) ≡ [] → filter lower (map unmarked (cond b (c ∷ r) r)) ≡ []
  lower_by true c r over rest =
      cond-false (lower (unmarked c)) (unmarked c ∷ filter lower (map unmarked r)) (filter lower (map unmarked r)) (le-ltb c.addr a (omega (arith, over)))
      ∙ rest
  lower_by false c r over rest = rest

  none_lower : (chunks : List Chunk) → AllByRecursion (λ (c : Chunk). a < c.addr) chunks → filter lower (before chunks) ≡ []
  none_lower [] over = refl
  none_lower (c ∷ cs) over = lower_by (has c) c (filter has cs) over.0 (none_lower cs over.1)

  higher_by : (b : Bool) (c : Chunk) (r : List Chunk) → a < c.addr → filter higher (map unmarked r) ≡ map unmarked r
      → filter higher (map unmarked (cond b (c ∷ r) r)) ≡ map unmarked (cond b (c ∷ r) r)
  higher_by true c r over rest =
      cond-true (higher (unmarked c)) (unmarked c ∷ filter higher (map unmarked r)) (filter higher (map unmarked r)) (lt-ltb a c.addr over)
      ∙ ap (λ (l : List Chunk). unmarked c ∷ l) rest
  higher_by false c r over rest = rest

  all_higher : (chunks : List Chunk) → AllByRecursion (λ (c : Chunk). a < c.addr) chunks → filter higher (before chunks) ≡ before chunks
  all_higher [] over = refl
  all_higher (c ∷ cs) over = higher_by (has c) c (filter has cs) over.0 (all_higher cs over.1)

  module _ (x : Chunk) (at : x.addr ≡ a) (mark : has (f x) ≡ true) (same : unmarked (f x) ≡ unmarked x) (none : has x ≡ false)
      (stays : (c : Chunk) → c.addr ≢ a → f c ≡ c) where
    abbrev placed : List Chunk → List Chunk
    placed l = filter lower l ++ (unmarked x ∷ filter higher l)

    -- it is the first
    came_first : (cs : List Chunk) → AreRisingFrom (x.addr + 1) cs → behind (x ∷ cs) ≡ placed (before (x ∷ cs))
    came_first cs rising =
        let over : AllByRecursion (λ (c : Chunk). a < c.addr) cs = rise_over a (x.addr + 1) cs (omega (arith, at)) rising in
        let rest : behind cs ≡ before cs =
        ap (λ (l : List Chunk). map unmarked (filter has l))
        (map_itself f cs (AllByRecursion-weaker cs over)) in
        let was : before (x ∷ cs) ≡ before cs =
        ap (map unmarked) (cond-false (has x) (x ∷ filter has cs) (filter has cs) none) in
        ap (map unmarked) (cond-true (has (f x)) (f x ∷ filter has (map f cs)) (filter has (map f cs)) mark)
        ∙ (ap (λ (d : Chunk). d ∷ behind cs) same
        ∙ (ap (λ (l : List Chunk). unmarked x ∷ l) rest
        ∙ sym (ap placed was
        ∙ (ap (λ (l : List Chunk). l ++ (unmarked x ∷ filter higher (before cs))) (none_lower cs over)
        ∙ ap (λ (l : List Chunk). unmarked x ∷ l) (all_higher cs over)))))
      where
        AllByRecursion-weaker : (cs : List Chunk) → AllByRecursion (λ (c : Chunk). a < c.addr) cs → AllByRecursion (λ (c : Chunk). f c ≡ c) cs
        AllByRecursion-weaker [] over = tt
        AllByRecursion-weaker (c ∷ cs) over = (stays c (λ equal. omega (arith, equal, over.0)), AllByRecursion-weaker cs over.1)

    -- one stands before it
    placed_by : (b : Bool) (c : Chunk) (l r : List Chunk) → c.addr < a → map unmarked l ≡ placed (map unmarked r)
        → map unmarked (cond b (c ∷ l) l) ≡ placed (map unmarked (cond b (c ∷ r) r))
    placed_by true c l r under rest =
        ap (λ (m : List Chunk). unmarked c ∷ m) rest
        ∙ sym (ap (λ (m : List Chunk). m ++ (unmarked x ∷ filter higher (unmarked c ∷ map unmarked r)))
        (cond-true (lower (unmarked c)) (unmarked c ∷ filter lower (map unmarked r)) (filter lower (map unmarked r)) (lt-ltb c.addr a under))
        ∙ ap (λ (m : List Chunk). (unmarked c ∷ filter lower (map unmarked r)) ++ (unmarked x ∷ m))
        (cond-false (higher (unmarked c)) (unmarked c ∷ filter higher (map unmarked r)) (filter higher (map unmarked r))
        (le-ltb a c.addr (omega (arith, under)))))
    placed_by false c l r under rest = rest

    came_list : (from : ℕ) (cs : List Chunk) → AreRisingFrom from cs → Contains cs x → behind cs ≡ placed (before cs)
    came_list from [] rising there = absurd (Contains-none x there)
    came_list from (c ∷ cs) rising there = elim (Contains-cases c x cs there) [
      | inl is ↦ subst (λ (d : Chunk). behind (d ∷ cs) ≡ placed (before (d ∷ cs))) (sym is)
          (came_first cs (subst (λ (d : Chunk). AreRisingFrom (d.addr + 1) cs) is rising.1))
      | inr rest ↦
          let under : c.addr < a = omega (arith, at, above_first (c.addr + 1) cs x rising.1 rest) in
          ap (λ (d : Chunk). map unmarked (cond (has d) (d ∷ filter has (map f cs)) (filter has (map f cs))))
          (stays c (λ equal. omega (arith, equal, under)))
          ∙ placed_by (has c) c (filter has (map f cs)) (filter has cs) under (came_list (c.addr + 1) cs rising.1 rest)
    ]

module _ (me : ℕ) (heap : PlainHeap) (addr len : ℕ) (chunk : Chunk) (tiled : IsTiled heap) (order : AreInOrder heap.chunks)
    (there : chunk_at addr len heap ≡ Some chunk) (out : has_bit chunk.attached me ≡ false) (index : ℕ) where
  abbrev g : Chunk → Chunk
  g = shared_chunk me heap addr len chunk tiled order there

  address : chunk.addr ≡ addr
  address = its_addr heap addr len chunk there

  g_here : g chunk ≡ record chunk { attached = with_mark me chunk.attached }
  g_here =
      cond-true (is_chunk_at addr len chunk) (record chunk { attached = with_mark me chunk.attached }) chunk
      (here me heap addr len chunk tiled order there)

  marks_came : marked_by me (after_share me addr len heap)
      ≡ filter (λ (d : Chunk). nat_lt d.addr addr) (marked_by me heap)
      ++ (unmarked chunk ∷ filter (λ (d : Chunk). nat_lt addr d.addr) (marked_by me heap))
  unfolding marked_by after_share
  marks_came =
      came_list me addr g chunk address (ap (λ (d : Chunk). has_bit d.attached me) g_here ∙ mark_own me chunk.attached) (ap unmarked g_here) out
      (λ c away.
      cond-false (is_chunk_at addr len c) (record c { attached = with_mark me c.attached }) c
      (and_left (eqb c.addr addr) (eqb c.len len) (ne_eqb c.addr addr away))) 0 heap.chunks order.rising (its me heap addr len chunk tiled order there)

  abbrev own : OwnChunk
  own = own_chunk index chunk

  abbrev at : ℕ → OwnChunk → Bool
  at other note = eqb note.heap other

  abbrev ahead : OwnChunk → Bool
  ahead note = is_before note own

  abbrev after : OwnChunk → Bool
  after note = is_before own note

  -- notes of that heap that pass a test of addresses
  part_of : (chunks : List OwnChunk) (p : OwnChunk → Bool) (q : Chunk → Bool) → ((d : Chunk) → p (own_chunk index d) ≡ q d)
      → AreMarkedAs index (marked_by me heap) chunks → map (own_chunk index) (filter q (marked_by me heap)) ≡ filter (at index) (filter p chunks)
  part_of chunks p q alike was =
      ap (map (own_chunk index))
      (sym (filter_alike (λ (d : Chunk). p (own_chunk index d)) q (marked_by me heap)
      (AllByRecursion-each (λ (d : Chunk). p (own_chunk index d) ≡ q d) (marked_by me heap) (λ d among. alike d))))
      ∙ (map_filter (own_chunk index) p (marked_by me heap) ∙ (ap (filter p) was ∙ filter_swapped p (at index) chunks))

  pub noted_came : (chunks : List OwnChunk) → AreMarkedAs index (marked_by me heap) chunks
      → AreMarkedAs index (marked_by me (after_share me addr len heap)) (with_own_chunk own chunks)
  noted_came chunks was =
      let low : List Chunk = filter (λ (d : Chunk). nat_lt d.addr addr) (marked_by me heap) in
      let high : List Chunk = filter (λ (d : Chunk). nat_lt addr d.addr) (marked_by me heap) in
      let first =
      part_of chunks ahead (λ (d : Chunk). nat_lt d.addr addr)
      (λ d. before_here index d.addr d.len chunk.addr chunk.len ∙ ap (λ (n : ℕ). nat_lt d.addr n) address) was in
      let last =
      part_of chunks after (λ (d : Chunk). nat_lt addr d.addr)
      (λ d. before_here index chunk.addr chunk.len d.addr d.len ∙ ap (λ (n : ℕ). nat_lt n d.addr) address) was in
      ap (map (own_chunk index)) marks_came
      ∙ (map-append (own_chunk index) low (unmarked chunk ∷ high)
      ∙ (ap (λ (l : List OwnChunk). l ++ (own ∷ map (own_chunk index) high)) first
      ∙ (ap (λ (l : List OwnChunk). filter (at index) (filter ahead chunks) ++ (own ∷ l)) last
      ∙ (ap (λ (l : List OwnChunk). filter (at index) (filter ahead chunks) ++ l)
      (sym (cond-true (eqb index index) (own ∷ filter (at index) (filter after chunks)) (filter (at index) (filter after chunks)) (eq-eqb index index refl)))
      ∙ sym (filter-append (at index) (filter ahead chunks) (own ∷ filter after chunks))))))

  -- notes of other heaps stay: they all stand before it, or all after it
  module _ (other : ℕ) (chunks : List OwnChunk) (away : other ≢ index) where
    abbrev theirs : List OwnChunk
    theirs = chunks_of other chunks

    heap_of : (note : OwnChunk) → Contains theirs note → note.heap ≡ other
    heap_of note among = eqb-true note.heap other (Contains-filter (at other) chunks note among).0

    parted : chunks_of other (with_own_chunk own chunks) ≡ filter ahead theirs ++ filter after theirs
    parted =
        filter-append (at other) (filter ahead chunks) (own ∷ filter after chunks)
        ∙ (ap (λ (l : List OwnChunk). filter (at other) (filter ahead chunks) ++ l)
        (cond-false (eqb index other) (own ∷ filter (at other) (filter after chunks)) (filter (at other) (filter after chunks))
        (ne_eqb index other (λ same. away (sym same))))
        ∙ (ap (λ (l : List OwnChunk). l ++ filter (at other) (filter after chunks)) (filter_swapped (at other) ahead chunks)
        ∙ ap (λ (l : List OwnChunk). filter ahead theirs ++ l) (filter_swapped (at other) after chunks)))

    apart_by : (i j a b : ℕ) → j < i → (nat_lt i j || (eqb i j && nat_lt a b)) ≡ false
    apart_by i j a b lower =
        ap (λ (x : Bool). x || (eqb i j && nat_lt a b)) (le-ltb i j (omega (arith, lower)))
        ∙ and_left (eqb i j) (nat_lt a b) (ne_eqb i j (λ same. omega (arith, same, lower)))

    pub noted_beside : chunks_of other (with_own_chunk own chunks) ≡ chunks_of other chunks
    noted_beside = parted ∙ elim (cases_lt other index) [
      | inl lower ↦
          ap (λ (l : List OwnChunk). l ++ filter after theirs)
          (filter_whole ahead theirs (AllByRecursion-each (λ (note : OwnChunk). ahead note ≡ true) theirs
          (λ note among.
          or_left (nat_lt note.heap index) (eqb note.heap index && nat_lt note.addr chunk.addr)
          (lt-ltb note.heap index (omega (arith, lower, heap_of note among))))))
          ∙ (ap (λ (l : List OwnChunk). theirs ++ l)
          (filter_none after theirs (AllByRecursion-each (λ (note : OwnChunk). after note ≡ false) theirs
          (λ note among. apart_by index note.heap chunk.addr note.addr (omega (arith, lower, heap_of note among)))))
          ∙ append-nil theirs)
      | inr above ↦
          ap (λ (l : List OwnChunk). l ++ filter after theirs)
          (filter_none ahead theirs (AllByRecursion-each (λ (note : OwnChunk). ahead note ≡ false) theirs
          (λ note among. apart_by note.heap index note.addr chunk.addr (omega (arith, above, away, heap_of note among)))))
          ∙ filter_whole after theirs (AllByRecursion-each (λ (note : OwnChunk). after note ≡ true) theirs
          (λ note among.
          or_left (nat_lt index note.heap) (eqb index note.heap && nat_lt chunk.addr note.addr)
          (lt-ltb index note.heap (omega (arith, above, away, heap_of note among)))))
    ]
