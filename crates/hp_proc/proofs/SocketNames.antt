-- Where no external heap was made, the heaps that have a name are those of the sockets.
use Rattle.std.proofs.Common.{◌≡◌, ◌∙◌, ℕ, zero, suc, true, ◌+◌, ◌-◌, ◌<◌, ◌≤◌, List, [], ◌∷◌, ◌++◌, length, map, replicate, Option, Some, None, refl, ap, arith}
use Rattle.std.specs.Prelude.{filter_map, nat_lt, slice_get}
use Rattle.std.specs.List.{All, range_with_len}
use Rattle.std.specs.Option.{option_flatten, option_map}
use Rattle.std.proofs.lemmas.Bool.{lt-ltb}
use Rattle.std.proofs.lemmas.List.Elements.{All-cons, All-filter, All-head, All-nil, All-tail}
use Rattle.std.proofs.lemmas.List.FromFn.{length-range_with_len}
use Rattle.hp_base.specs.declared.limits.TheConstants.{MAX_HEAPS}
use Rattle.hp_base.specs.declared.pool_line.PoolLine.{PoolLine}
use Rattle.hp_heap.specs.PlainHeap as plain
use Rattle.hp_zone.specs.Directory as directory
use Rattle.hp_zone.specs.Directory.{directory_after, heap_at, opening, socket_heap}
use Rattle.hp_zone.specs.declared.heap_name.HeapName.{HeapName}
use Rattle.hp_zone.specs.declared.limits.TheConstants.{FIRST_EXTERNAL_SOCKET}
use Rattle.hp_zone.specs.declared.name_change.NameChange.{NameChange}
use Rattle.hp_proc.proofs.Mapped.{length-filter_le}
use Rattle.hp_proc.specs.Heaps.{NamedHeap, heaps_from, names_socket, socket_heaps, sockets_of}
use Rattle.hp_proc.specs.SharedNames.{SharedNames, directory_in, heaps_in, named_at}

abbrev IsLow : ℕ → Type 0
IsLow socket = socket < FIRST_EXTERNAL_SOCKET

-- the heaps that have a name, of so many indexes from one on
abbrev search : (ℕ → Option HeapName) → ℕ → ℕ → List NamedHeap
search at from n = filter_map (λ index. named_at index (at index)) (range_with_len from n)

none_named : (at : ℕ → Option HeapName) (n from : ℕ) → ((index : ℕ) → from ≤ index → at index ≡ None) → search at from n ≡ []
none_named at zero from none = refl
none_named at (suc n) from none =
    rw (none from (omega arith)) (none_named at n (from + 1) (λ index above. none index (omega (arith, above))))

same_name : (socket : ℕ) → directory.socket_name socket ≡ plain.socket_name socket
unfolding directory.socket_name plain.socket_name
same_name socket = refl

each_named : (at : ℕ → Option HeapName) (sockets : List ℕ) (n from : ℕ) → All IsLow sockets → length sockets ≤ n
    → ((k socket : ℕ) → slice_get sockets k ≡ Some socket → at (from + k) ≡ socket_heap socket)
    → ((index : ℕ) → from + length sockets ≤ index → at index ≡ None) → search at from n ≡ heaps_from from sockets
each_named at [] n from low few there past = none_named at n from (λ index above. past index (omega (arith, above)))
each_named at (socket ∷ sockets) zero from low few there past = absurd (omega (arith, few))
each_named at (socket ∷ sockets) (suc n) from low few there past =
    let its : at from ≡ socket_heap socket = ap at (omega arith) ∙ there 0 socket refl in
    let is_low : nat_lt socket FIRST_EXTERNAL_SOCKET ≡ true =
    lt-ltb socket FIRST_EXTERNAL_SOCKET (All-head IsLow socket sockets low) in
    rw its (rw is_low
    (ap (λ (rest : List NamedHeap). record { index = from; name = directory.socket_name socket; serves = Some socket } ∷ rest)
    (each_named at sockets n (from + 1) (All-tail IsLow socket sockets low) (omega (arith, few))
    (λ k other is. ap at (omega arith) ∙ there (suc k) other is) (λ index above. past index (omega (arith, above))))
    ∙ ap (λ (name : List ℕ). record { index = from; name = name; serves = Some socket } ∷ heaps_from (from + 1) sockets) (same_name socket)))

abbrev no_heap : Option HeapName
no_heap = None

pub no_name : (n index : ℕ) → option_flatten (slice_get (replicate n no_heap) index) ≡ None
no_name zero index = refl
no_name (suc n) zero = refl
no_name (suc n) (suc index) = no_name n index

pub slot_there : (sockets : List ℕ) (n k socket : ℕ) → slice_get sockets k ≡ Some socket
    → slice_get (map socket_heap sockets ++ replicate n no_heap) k ≡ Some (socket_heap socket)
slot_there [] n k socket is = cc
slot_there (first ∷ sockets) n zero socket is = ap (λ (found : Option ℕ). option_map socket_heap found) is
slot_there (first ∷ sockets) n (suc k) socket is = slot_there sockets n k socket is

pub slot_past : (sockets : List ℕ) (n index : ℕ) → length sockets ≤ index
    → option_flatten (slice_get (map socket_heap sockets ++ replicate n no_heap) index) ≡ None
slot_past [] n index past = no_name n index
slot_past (socket ∷ sockets) n zero past = absurd (omega (arith, past))
slot_past (socket ∷ sockets) n (suc index) past = slot_past sockets n index (omega (arith, past))

all_low : (a n : ℕ) → a + n ≤ FIRST_EXTERNAL_SOCKET → All IsLow (range_with_len a n)
all_low a zero below = All-nil IsLow
all_low a (suc n) below = All-cons IsLow a (range_with_len (a + 1) n) (omega (arith, below)) (all_low (a + 1) n (omega (arith, below)))

pub heaps_opened : (pools : List PoolLine) → heaps_in (opening (sockets_of pools)) ≡ socket_heaps pools
unfolding heaps_in
heaps_opened pools =
    let sockets = sockets_of pools in
    each_named (heap_at (opening sockets)) sockets MAX_HEAPS 0
    (All-filter (names_socket pools) IsLow (range_with_len 0 32) (all_low 0 32 (omega arith)))
    (omega (arith, length-filter_le (names_socket pools) (range_with_len 0 32), length-range_with_len 0 32))
    (λ k socket is.
    let same : 0 + k ≡ k = omega arith in
    ap (heap_at (opening sockets)) same ∙ ap option_flatten (slot_there sockets (MAX_HEAPS - length sockets) k socket is))
    (λ index above. slot_past sockets (MAX_HEAPS - length sockets) index (omega (arith, above)))

pub sockets_named : (pools : List PoolLine) (names : SharedNames) → names.heaps ≡ []
    → heaps_in (directory_in pools names) ≡ socket_heaps pools
sockets_named pools names none =
    ap (λ (log : List NameChange). heaps_in (directory_after (opening (sockets_of pools)) log)) none ∙ heaps_opened pools
