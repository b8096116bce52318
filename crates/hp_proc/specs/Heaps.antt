-- The heaps that a line may use, and the order in which it tries them.
use Rattle.std.specs.Prelude.{ℕ, ◌+◌, Bool, false, not, ◌&&◌, ◌||◌, ◌==◌, List, [], ◌∷◌, ◌++◌, filter, find, Option, Some, None, is_some, if◌then◌else◌}
use Rattle.std.specs.List.{list_any, range_with_len}
use Rattle.std.specs.Option.{option_map_or, option_to_list}
use Rattle.std.specs.Str.{bytes_eq}
use Rattle.hp_base.specs.Pages.{page_sizes}
use Rattle.hp_base.specs.declared.pool_line.PoolLine.{PoolLine}
use Rattle.hp_base.specs.Flags.{names_pages, names_page, is_hint}
use Rattle.hp_heap.specs.PlainHeap.{socket_name}
use Rattle.hp_script.specs.declared.options.SocketChoice.{SocketChoice}
use Rattle.hp_script.specs.declared.options.SocketChoice.TheVariants.{Any, Number}

-- a heap that has a name now: its index and its name, and the socket whose pages it takes, or none where its memory is external
pub record NamedHeap : Type 0 where
  pub index : ℕ
  pub name : List ℕ
  pub serves : Option ℕ

-- a pool line names the socket
abbrev pub names_socket : List PoolLine → ℕ → Bool
names_socket pools socket = list_any (λ line. line.socket == socket) pools

-- the sockets that pool lines name, by rising number: each has a heap, and its place here is the heap's index
abbrev pub sockets_of : List PoolLine → List ℕ
sockets_of pools = filter (names_socket pools) (range_with_len 0 32)

-- the heaps of sockets with their names, by index from a number on
abbrev pub heaps_from : ℕ → List ℕ → List NamedHeap
heaps_from index [] = []
heaps_from index (socket ∷ sockets) =
    record { index = index; name = socket_name socket; serves = Some socket } ∷ heaps_from (index + 1) sockets

-- the heaps that have a name where no external heap was made: those of the sockets
abbrev pub socket_heaps : List PoolLine → List NamedHeap
socket_heaps pools = heaps_from 0 (sockets_of pools)

-- a heap is that of the socket
abbrev pub takes_pages_of : ℕ → NamedHeap → Bool
takes_pages_of socket heap = option_map_or (λ own. own == socket) heap.serves false

abbrev pub has_name : List ℕ → NamedHeap → Bool
has_name name heap = bytes_eq heap.name name

-- the heaps of sockets, that of the participant's own socket first
abbrev pub own_first : ℕ → List NamedHeap → List NamedHeap
own_first own heaps =
    filter (takes_pages_of own) heaps ++ filter (λ heap. is_some heap.serves && not (takes_pages_of own heap)) heaps

-- the heaps that an allocation tries, where a name is asked for, and else by its socket
abbrev pub heaps_for : ℕ → List NamedHeap → Option (List ℕ) → SocketChoice → List NamedHeap
heaps_for own heaps (Some name) choice = option_to_list (find (has_name name) heaps)
heaps_for own heaps None (Number socket) = option_to_list (find (takes_pages_of socket) heaps)
heaps_for own heaps None Any = own_first own heaps

-- a pool line names the socket and the page size
abbrev pub has_pool : List PoolLine → ℕ → ℕ → Bool
has_pool pools socket page = list_any (λ line. (line.socket == socket) && (line.page == page)) pools

-- the page sizes for which memory is asked on a socket: those that the flags name, ascending, also such as the socket has no list of;
-- then the socket's others, ascending, where the flags name none or are a hint alone
abbrev pub page_sizes_for : List PoolLine → ℕ → ℕ → List ℕ
page_sizes_for pools socket flags =
    filter (names_page flags) page_sizes
    ++ (if is_hint flags || not (names_pages flags)
    then filter (λ page. has_pool pools socket page && not (names_page flags page)) page_sizes else [])
