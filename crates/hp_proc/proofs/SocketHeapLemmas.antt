-- The heaps of sockets: how they are listed, and what stands at each place.
use Rattle.std.proofs.Common.{◌≡◌, ℕ, zero, suc, ◌+◌, ◌<◌, ◌≤◌, Bool, true, false, cond, List, [], ◌∷◌, ◌++◌, map, filter, length, get_or, Some, None, refl, ap, ◌∙◌, sym, arith, add-one, length-append, slice_get}
use Rattle.std.specs.List.{All, Contains, range_with_len}
use Rattle.std.specs.Option.{option_map, option_map_or}
use Rattle.std.proofs.lemmas.List.{append-nil, map-append}
use Rattle.std.proofs.lemmas.List.Elements.{All-cons, All-contains, All-nil, All-weaker, filter-append}
use Rattle.std.proofs.lemmas.Option.{slice_get-get_or, slice_get-map, slice_get_past}
use Rattle.hp_base.specs.declared.limits.TheConstants.{MAX_HEAPS}
use Rattle.hp_base.specs.declared.pool_line.PoolLine.{PoolLine}
use Rattle.hp_heap.specs.PlainHeap.{socket_name}
use Rattle.hp_proc.proofs.Mapped.{All-unmapped, length-filter_le, map-mapped}
use Rattle.hp_proc.specs.Contexts.{AreSocketHeaps, IsSocketHeapOf, named_heap, searched_heap}
use Rattle.hp_proc.specs.Heaps.{NamedHeap, heaps_from, names_socket, socket_heaps, sockets_of}
use Rattle.hp_proc.specs.PlaceLists.{place_named}
use Rattle.hp_proc.specs.declared.socket_heap.SocketHeap.{SocketHeap}

-- these are the heaps of the named sockets below a number
pub record AreHeapsBelow (pools : List PoolLine) (heaps : List SocketHeap) (socket : ℕ) : Type 0 where
  pub are : map named_heap heaps ≡ heaps_from 0 (filter (names_socket pools) (range_with_len 0 socket))
  pub few : length heaps ≤ socket

pub below_none : (pools : List PoolLine) (heaps : List SocketHeap) → heaps ≡ [] → AreHeapsBelow pools heaps 0
below_none pools heaps none = record { are = ap (map named_heap) none; few = omega (arith, ap length none) }

range_more : (a n j : ℕ) → a + n ≡ j → range_with_len a (suc n) ≡ range_with_len a n ++ j ∷ []
range_more a zero j is = ap (λ k. k ∷ []) (omega (arith, is))
range_more a (suc n) j is = ap (λ rest. a ∷ rest) (range_more (a + 1) n j (omega (arith, is)))

named_more : (pools : List PoolLine) (socket : ℕ) (named : Bool) → names_socket pools socket ≡ named
    → filter (names_socket pools) (range_with_len 0 (socket + 1))
    ≡ filter (names_socket pools) (range_with_len 0 socket) ++ cond named (socket ∷ []) []
named_more pools socket named is =
    ap (λ n. filter (names_socket pools) (range_with_len 0 n)) (add-one socket)
    ∙ (ap (filter (names_socket pools)) (range_more 0 socket socket (omega arith))
    ∙ (filter-append (names_socket pools) (range_with_len 0 socket) (socket ∷ [])
    ∙ ap (λ b. filter (names_socket pools) (range_with_len 0 socket) ++ cond b (socket ∷ []) []) is))

heaps_push : (k : ℕ) (sockets : List ℕ) (socket j : ℕ) → k + length sockets ≡ j
    → heaps_from k (sockets ++ socket ∷ [])
    ≡ heaps_from k sockets ++ record { index = j; name = socket_name socket; serves = Some socket } ∷ []
heaps_push k [] socket j is =
    ap (λ (index : ℕ). record { index = index; name = socket_name socket; serves = Some socket } ∷ []) (omega (arith, is))
heaps_push k (other ∷ sockets) socket j is =
    ap
    (λ (rest : List NamedHeap). record { index = k; name = socket_name other; serves = Some other } ∷ rest)
    (heaps_push (k + 1) sockets socket j (omega (arith, is)))

pub length-heaps_from : (k : ℕ) (sockets : List ℕ) → length (heaps_from k sockets) ≡ length sockets
length-heaps_from k [] = refl
length-heaps_from k (socket ∷ sockets) = ap suc (length-heaps_from (k + 1) sockets)

pub length-named : (heaps : List SocketHeap) → length (map named_heap heaps) ≡ length heaps
length-named [] = refl
length-named (heap ∷ heaps) = ap suc (length-named heaps)

-- a socket that no pool line names has no heap
pub below_passed : (pools : List PoolLine) (heaps : List SocketHeap) (socket : ℕ) → AreHeapsBelow pools heaps socket
    → names_socket pools socket ≡ false → AreHeapsBelow pools heaps (socket + 1)
below_passed pools heaps socket so_far unnamed = record {
  are = so_far.are
      ∙ ap (heaps_from 0) (sym (named_more pools socket false unnamed ∙ append-nil (filter (names_socket pools) (range_with_len 0 socket))));
  few = omega (arith, so_far.few);
}

-- a named socket has the next one
pub below_more : (pools : List PoolLine) (heaps : List SocketHeap) (socket index : ℕ) → AreHeapsBelow pools heaps socket
    → names_socket pools socket ≡ true → index ≡ length heaps
    → AreHeapsBelow pools (heaps ++ record { index = index; socket = socket } ∷ []) (socket + 1)
below_more pools heaps socket index so_far named is =
    let sockets : List ℕ = filter (names_socket pools) (range_with_len 0 socket) in
    let added : SocketHeap = record { index = index; socket = socket } in
    let counted : 0 + length sockets ≡ index =
    omega (arith, is, ap length so_far.are, length-heaps_from 0 sockets, length-named heaps) in
    record {
      are = map-append named_heap heaps (added ∷ [])
          ∙ (ap (λ (front : List NamedHeap). front ++ named_heap added ∷ []) so_far.are
          ∙ (sym (heaps_push 0 sockets socket index counted) ∙ ap (heaps_from 0) (sym (named_more pools socket true named))));
      few = omega (arith, so_far.few, length-append heaps (added ∷ []));
    }

-- below 32 these are all
pub below_all : (pools : List PoolLine) (heaps : List SocketHeap) (socket : ℕ) → AreHeapsBelow pools heaps socket → socket ≡ 32
    → AreSocketHeaps pools heaps
below_all pools heaps socket so_far last =
    so_far.are ∙ ap (λ n. heaps_from 0 (filter (names_socket pools) (range_with_len 0 n))) last

-- the same lists are the same heaps
pub heaps_along : (pools others : List PoolLine) (heaps same : List SocketHeap) → pools ≡ others → same ≡ heaps
    → AreSocketHeaps pools heaps → AreSocketHeaps others same
heaps_along pools others heaps same pools_are heaps_are are = ap (map named_heap) heaps_are ∙ (are ∙ ap socket_heaps pools_are)

-- a heap stands at a place, counted from a number on
record IsHeapAt (from : ℕ) (sockets : List ℕ) (heap : NamedHeap) : Type 0 where
  place : ℕ
  index : heap.index ≡ from + place
  within : place < length sockets
  serves : slice_get sockets place ≡ heap.serves

all_at : (from : ℕ) (sockets : List ℕ) → All (IsHeapAt from sockets) (heaps_from from sockets)
all_at from [] = All-nil (IsHeapAt from [])
all_at from (socket ∷ sockets) =
    All-cons (IsHeapAt from (socket ∷ sockets)) (record { index = from; name = socket_name socket; serves = Some socket })
    (heaps_from (from + 1) sockets)
    (record { place = 0; index = omega arith; within = omega arith; serves = refl })
    (All-weaker (IsHeapAt (from + 1) sockets) (IsHeapAt from (socket ∷ sockets))
    (λ heap at. record {
      place = suc at.place;
      index = omega (arith, at.index);
      within = omega (arith, at.within);
      serves = at.serves;
    })
    (heaps_from (from + 1) sockets) (all_at (from + 1) sockets))

-- a heap of a socket by its index
pub record IsListed (pools : List PoolLine) (heap : NamedHeap) : Type 0 where
  pub few : heap.index < MAX_HEAPS
  pub serves : slice_get (sockets_of pools) heap.index ≡ heap.serves

pub all_listed : (pools : List PoolLine) → All (IsListed pools) (socket_heaps pools)
all_listed pools =
    All-weaker (IsHeapAt 0 (sockets_of pools)) (IsListed pools)
    (λ heap at.
    let index : heap.index ≡ at.place = omega (arith, at.index) in
    record {
      few = omega (arith, index, at.within, length-filter_le (names_socket pools) (range_with_len 0 32));
      serves = ap (slice_get (sockets_of pools)) index ∙ at.serves;
    })
    (socket_heaps pools) (all_at 0 (sockets_of pools))

-- heaps among those of the sockets are such
pub each_of_socket : (pools : List PoolLine) (named : List NamedHeap) (places : List SocketHeap) → map named_heap places ≡ named
    → All (IsListed pools) named → (place : SocketHeap) → Contains places place → IsSocketHeapOf pools place
each_of_socket pools named places are all place among =
    (All-contains (λ (heap : SocketHeap). IsListed pools (named_heap heap)) places place
    (All-unmapped (IsListed pools) named_heap places named are all) among).serves

served_from : (k : ℕ) (sockets : List ℕ) → map (λ (heap : NamedHeap). option_map_or (λ (socket : ℕ). socket) heap.serves 0) (heaps_from k sockets) ≡ sockets
served_from k [] = refl
served_from k (socket ∷ sockets) = ap (λ rest. socket ∷ rest) (served_from (k + 1) sockets)

-- the socket of the heap at a place
pub socket_at : (pools : List PoolLine) (heaps : List SocketHeap) (place : ℕ) → AreSocketHeaps pools heaps
    → option_map (λ (heap : SocketHeap). heap.socket) (slice_get heaps place) ≡ slice_get (sockets_of pools) place
socket_at pools heaps place are =
    let of_named : NamedHeap → ℕ = λ heap. option_map_or (λ (socket : ℕ). socket) heap.serves 0 in
    let sockets : map (λ (heap : SocketHeap). heap.socket) heaps ≡ sockets_of pools =
    sym (map-mapped of_named named_heap heaps) ∙ (ap (map of_named) are ∙ served_from 0 (sockets_of pools)) in
    sym (slice_get-map (λ (heap : SocketHeap). heap.socket) heaps place) ∙ ap (λ (all : List ℕ). slice_get all place) sockets

-- the socket of a heap that is there, and of one that is not
pub socket_there : (pools : List PoolLine) (heaps : List SocketHeap) (place : ℕ) (heap : SocketHeap) → AreSocketHeaps pools heaps
    → place < length heaps → heap ≡ get_or heaps place heap → Some heap.socket ≡ slice_get (sockets_of pools) place
socket_there pools heaps place heap are within is =
    ap (option_map (λ (heap : SocketHeap). heap.socket)) (ap Some is ∙ sym (slice_get-get_or heaps place heap within))
    ∙ socket_at pools heaps place are

pub socket_past : (pools : List PoolLine) (heaps : List SocketHeap) (place : ℕ) → AreSocketHeaps pools heaps → length heaps ≤ place
    → None ≡ slice_get (sockets_of pools) place
socket_past pools heaps place are past =
    ap (option_map (λ (heap : SocketHeap). heap.socket)) (sym (slice_get_past heaps place past)) ∙ socket_at pools heaps place are

-- the places of heaps of sockets are those of the heaps with their names
pub places_named : (heaps : List SocketHeap) → map searched_heap heaps ≡ map place_named (map named_heap heaps)
places_named heaps = sym (map-mapped place_named named_heap heaps)
