-- The heaps that an allocation tries, by the heaps of the sockets.
use Rattle.std.proofs.Common.{◌≡◌, ℕ, Bool, List, ◌++◌, map, filter, find, not, ◌&&◌, Option, Some, None, is_some, refl, ap, ◌∙◌, sym}
use Rattle.std.specs.List.{All}
use Rattle.std.specs.Option.{option_map, option_to_list}
use Rattle.std.proofs.lemmas.List.{map-append}
use Rattle.std.proofs.lemmas.List.Elements.{All-append, All-filter}
use Rattle.hp_segs.proofs.Finds.{find_mapped}
use Rattle.hp_script.specs.declared.options.SocketChoice.{SocketChoice}
use Rattle.hp_script.specs.declared.options.SocketChoice.TheVariants.{Any, Number}
use Rattle.hp_proc.proofs.Mapped.{All-found, filter-mapped, map-listed}
use Rattle.hp_proc.specs.Contexts.{AreSocketHeaps, is_of_socket, named_heap, searched_heap}
use Rattle.hp_proc.specs.Heaps.{NamedHeap, heaps_for, own_first, socket_heaps, takes_pages_of}
use Rattle.hp_proc.specs.PlaceLists.{place_named}
use Rattle.hp_proc.specs.declared.searched_heap.SearchedHeap.{SearchedHeap}
use Rattle.hp_proc.proofs.SocketHeapLemmas.{places_named}
use Rattle.hp_base.specs.declared.pool_line.PoolLine.{PoolLine}
use Rattle.hp_proc.specs.declared.socket_heap.SocketHeap.{SocketHeap}

-- that of a socket
pub chosen_number : (own socket : ℕ) (heaps places : List SocketHeap) (named : List NamedHeap) → map named_heap heaps ≡ named
    → places ≡ option_to_list (find (is_of_socket socket) heaps) → map named_heap places ≡ heaps_for own named None (Number socket)
chosen_number own socket heaps places named are is =
    ap (map named_heap) is
    ∙ (map-listed named_heap (find (is_of_socket socket) heaps)
    ∙ ap option_to_list (sym (find_mapped (takes_pages_of socket) named_heap heaps) ∙ ap (find (takes_pages_of socket)) are))

-- all, that of the own socket first
pub chosen_any : (own : ℕ) (heaps places : List SocketHeap) (named : List NamedHeap) → map named_heap heaps ≡ named
    → places ≡ filter (is_of_socket own) heaps ++ filter (λ (heap : SocketHeap). not (is_of_socket own heap)) heaps
    → map named_heap places ≡ heaps_for own named None Any
chosen_any own heaps places named are is =
    let other : NamedHeap → Bool = λ heap. is_some heap.serves && not (takes_pages_of own heap) in
    ap (map named_heap) is
    ∙ (map-append named_heap (filter (is_of_socket own) heaps) (filter (λ (heap : SocketHeap). not (is_of_socket own heap)) heaps)
    ∙ (ap (λ (front : List NamedHeap). front ++ map named_heap (filter (λ (heap : SocketHeap). not (is_of_socket own heap)) heaps))
    (sym (filter-mapped (takes_pages_of own) named_heap heaps))
    ∙ (ap (λ (rest : List NamedHeap). filter (takes_pages_of own) (map named_heap heaps) ++ rest) (sym (filter-mapped other named_heap heaps))
    ∙ ap (own_first own) are)))

-- so they are as places
pub places_number : (own socket : ℕ) (pools : List PoolLine) (heaps : List SocketHeap) (found : Option SearchedHeap) → AreSocketHeaps pools heaps
    → found ≡ option_map searched_heap (find (is_of_socket socket) heaps)
    → option_to_list found ≡ map place_named (heaps_for own (socket_heaps pools) None (Number socket))
places_number own socket pools heaps found are is =
    let one = find (is_of_socket socket) heaps in
    ap option_to_list is
    ∙ (sym (map-listed searched_heap one)
    ∙ (places_named (option_to_list one)
    ∙ ap (map place_named) (chosen_number own socket heaps (option_to_list one) (socket_heaps pools) are refl)))

pub places_any : (own : ℕ) (pools : List PoolLine) (heaps : List SocketHeap) (places : List SearchedHeap) → AreSocketHeaps pools heaps
    → places ≡ map searched_heap (filter (is_of_socket own) heaps ++ filter (λ (heap : SocketHeap). not (is_of_socket own heap)) heaps)
    → places ≡ map place_named (heaps_for own (socket_heaps pools) None Any)
places_any own pools heaps places are is =
    let all = filter (is_of_socket own) heaps ++ filter (λ (heap : SocketHeap). not (is_of_socket own heap)) heaps in
    is ∙ (places_named all ∙ ap (map place_named) (chosen_any own heaps all (socket_heaps pools) are refl))

-- what holds of all heaps holds of those that are tried
pub All-heaps_for : (P : NamedHeap → Type 0) (own : ℕ) (heaps : List NamedHeap) (name : Option (List ℕ)) (choice : SocketChoice)
    → All P heaps → All P (heaps_for own heaps name choice)
All-heaps_for P own heaps (Some name) choice all = All-found P _ heaps all
All-heaps_for P own heaps None (Number socket) all = All-found P (takes_pages_of socket) heaps all
All-heaps_for P own heaps None Any all =
    All-append P _ _ (All-filter (takes_pages_of own) P heaps all) (All-filter _ P heaps all)
