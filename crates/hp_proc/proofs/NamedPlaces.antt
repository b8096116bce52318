-- The heaps that a directory names, as places.
use Rattle.std.proofs.Common.{◌≡◌, ◌∙◌, ℕ, zero, suc, ◌+◌, ◌<◌, ◌≤◌, List, [], ◌∷◌, ◌++◌, length, map, append-nil, Option, Some, None, refl, sym, ap, subst, arith}
use Rattle.std.specs.Prelude.{filter_map, find}
use Rattle.std.specs.List.{range_with_len}
use Rattle.std.specs.Option.{option_flatten, option_map, option_to_list}
use Rattle.std.proofs.lemmas.List.{map-append}
use Rattle.std.proofs.lemmas.List.Elements.{filter_map-append}
use Rattle.hp_base.specs.declared.limits.TheConstants.{MAX_HEAPS}
use Rattle.hp_zone.specs.Directory.{DirectoryView, IsDirectory, IsFoundAt, IsNamed, IsNotFound, PlainDirectory, heap_at}
use Rattle.hp_zone.specs.declared.heap_name.HeapName.{HeapName}
use Rattle.hp_proc.specs.Heaps.{NamedHeap, has_name}
use Rattle.hp_proc.specs.PlaceLists.{place_named}
use Rattle.hp_proc.specs.SharedNames.{heaps_in, named_at, served_by}
use Rattle.hp_proc.specs.declared.searched_heap.SearchedHeap.{SearchedHeap}
use Rattle.hp_proc.proofs.MeantHeaps.{found, no_heap}

-- the place of the heap that was found under a name
pub place_found : (view : DirectoryView) (text : List ℕ) (index socket : ℕ) (its : SearchedHeap) → IsDirectory view
    → IsFoundAt view.plain text index socket → its ≡ record { index = index; serves = served_by socket }
    → Some its ≡ option_map place_named (find (has_name text) (heaps_in view.plain))
place_found view text index socket its sound is same =
    ap Some (same ∙ ap (λ (socket : ℕ). record { index = index; serves = served_by socket }) (sym is.socket_is))
    ∙ sym (ap (option_map place_named) (found view.plain text sound.indexes index socket is))

pub place_none : (view : DirectoryView) (text : List ℕ) → IsDirectory view → IsNotFound view.plain text
    → None ≡ option_map place_named (find (has_name text) (heaps_in view.plain))
place_none view text sound none = sym (ap (option_map place_named) (no_heap view.plain text sound.indexes none))

range_push : (from count : ℕ) → range_with_len from (count + 1) ≡ range_with_len from count ++ (from + count) ∷ []
range_push from zero = let same : from ≡ from + 0 = omega arith in ap (λ (n : ℕ). n ∷ []) same
range_push from (suc count) =
    let one : suc count + 1 ≡ suc (count + 1) = omega arith in
    let last : (from + 1) + count ≡ from + suc count = omega arith in
    ap (range_with_len from) one
    ∙ (ap (λ (l : List ℕ). from ∷ l) (range_push (from + 1) count)
    ∙ ap (λ (n : ℕ). from ∷ (range_with_len (from + 1) count ++ n ∷ [])) last)

range_push_zero : (n : ℕ) → range_with_len 0 (n + 1) ≡ range_with_len 0 n ++ n ∷ []
range_push_zero n = range_push 0 n ∙ ap (λ (m : ℕ). range_with_len 0 n ++ m ∷ []) (let same : 0 + n ≡ n = omega arith in same)

made_one : {X Y : Type 0} (f : X → Option Y) (x : X) → filter_map f (x ∷ []) ≡ option_to_list (f x)
made_one {X} {Y} f x = by_one (f x) refl
  where
    by_one : (made : Option Y) → f x ≡ made → filter_map f (x ∷ []) ≡ option_to_list (f x)
    by_one None is = rw is refl
    by_one (Some y) is = rw is refl

-- the places of the heaps of the first indexes, and of one index more
abbrev pub places_below : PlainDirectory → ℕ → List SearchedHeap
places_below plain n = map place_named (filter_map (λ index. named_at index (heap_at plain index)) (range_with_len 0 n))

pub places_more : (plain : PlainDirectory) (n : ℕ) (heap : Option HeapName) → heap_at plain n ≡ heap
    → places_below plain (n + 1) ≡ places_below plain n ++ map place_named (option_to_list (named_at n heap))
places_more plain n heap is =
    let f : ℕ → Option NamedHeap = λ (index : ℕ). named_at index (heap_at plain index) in
    ap (λ (range : List ℕ). map place_named (filter_map f range)) (range_push_zero n)
    ∙ (ap (map place_named) (filter_map-append f (range_with_len 0 n) (n ∷ []) ∙ ap (λ (last : List NamedHeap). filter_map f (range_with_len 0 n) ++ last) (made_one f n))
    ∙ (map-append place_named (filter_map f (range_with_len 0 n)) (option_to_list (f n))
    ∙ ap (λ (heap : Option HeapName). places_below plain n ++ map place_named (option_to_list (named_at n heap))) is))

-- those of all indexes are all
pub places_all : (plain : PlainDirectory) (n : ℕ) → n ≡ MAX_HEAPS → places_below plain n ≡ map place_named (heaps_in plain)
unfolding heaps_in
places_all plain n all = ap (places_below plain) all
