-- The heaps that a reservation tries by its socket are those that an allocation tries so: external heaps are none of them.
use Rattle.std.proofs.Common.{◌≡◌, ◌∙◌, ◌⊎◌, ℕ, ◌-◌, ◌<◌, ◌≤◌, Bool, true, false, cond, not, ◌&&◌, List, [], ◌∷◌, ◌++◌, filter, filter_map, find, length, get_or, slice_get, Option, Some, None, is_some, eqb, inl, inr, map, refl, ap, sym, subst}
use Rattle.std.specs.List.{All, Contains, range_with_len}
use Rattle.std.specs.Option.{option_flatten, option_map_or, option_to_list}
use Rattle.std.proofs.lemmas.Bool.{and_parts, cond-false, false≢true, true≢false}
use Rattle.std.proofs.lemmas.List.Elements.{All-contains, All-map, filter-append, filter_map-append}
use Rattle.std.proofs.lemmas.Option.{slice_get_cases}
use Rattle.hp_base.specs.declared.limits.TheConstants.{MAX_HEAPS}
use Rattle.hp_base.specs.declared.pool_line.PoolLine.{PoolLine}
use Rattle.hp_script.specs.declared.options.SocketChoice.{SocketChoice}
use Rattle.hp_script.specs.declared.options.SocketChoice.TheVariants.{Any, Number}
use Rattle.hp_zone.specs.Directory.{DirectoryView, IsDirectory, heap_at, opening}
use Rattle.hp_zone.specs.declared.heap_name.HeapName.{HeapName}
use Rattle.hp_proc.specs.Contexts.{IsPlaceOf}
use Rattle.hp_proc.specs.Heaps.{NamedHeap, heaps_for, socket_heaps, sockets_of, takes_pages_of}
use Rattle.hp_proc.specs.PlaceLists.{place_named}
use Rattle.hp_proc.specs.SharedNames.{heaps_in, named_at, served_by}
use Rattle.hp_proc.specs.declared.searched_heap.SearchedHeap.{SearchedHeap}
use Rattle.hp_proc.proofs.ChosenHeaps.{All-heaps_for}
use Rattle.hp_proc.proofs.SocketNames.{heaps_opened, slot_past, slot_there}
use Rattle.hp_proc.proofs.WhosePages.{named_places, serves_as}

-- WHAT PASSES ONE TEST AMONG WHAT PASSES ANOTHER

module _ {X : Type 0} (p q : X → Bool) (within : (x : X) → q x ≡ true → p x ≡ true) where
  fails_both : (x : X) → p x ≡ false → (b : Bool) → q x ≡ b → q x ≡ false
  fails_both x fails true passes = absurd (true≢false (sym (within x passes) ∙ fails))
  fails_both x fails false is = is

  filter_within : (xs : List X) → filter q (filter p xs) ≡ filter q xs
  filter_within [] = refl
  filter_within (x ∷ xs) = by (p x) refl (filter_within xs)
    where
      by : (passes : Bool) → p x ≡ passes → filter q (filter p xs) ≡ filter q xs
          → filter q (cond passes (x ∷ filter p xs) (filter p xs)) ≡ filter q (x ∷ xs)
      by true is rest = ap (λ (rest : List X). cond (q x) (x ∷ rest) rest) rest
      by false is rest = rest ∙ sym (cond-false (q x) (x ∷ filter q xs) (filter q xs) (fails_both x is (q x) refl))

  find_within : (xs : List X) → find q (filter p xs) ≡ find q xs
  find_within [] = refl
  find_within (x ∷ xs) = by (p x) refl (find_within xs)
    where
      by : (passes : Bool) → p x ≡ passes → find q (filter p xs) ≡ find q xs
          → find q (cond passes (x ∷ filter p xs) (filter p xs)) ≡ find q (x ∷ xs)
      by true is rest = ap (λ (rest : Option X). cond (q x) (Some x) rest) rest
      by false is rest = rest ∙ sym (cond-false (q x) (Some x) (find q xs) (fails_both x is (q x) refl))

-- HEAPS THAT TAKE THE PAGES OF A SOCKET

abbrev takes_pages : NamedHeap → Bool
takes_pages heap = is_some heap.serves

takes_some : (socket : ℕ) (heap : NamedHeap) → takes_pages_of socket heap ≡ true → takes_pages heap ≡ true
takes_some socket heap = by heap.serves
  where
    by : (serves : Option ℕ) → option_map_or (λ own. eqb own socket) serves false ≡ true → is_some serves ≡ true
    by None takes = absurd (false≢true takes)
    by (Some own) takes = refl

-- by its socket an allocation tries such heaps alone
chosen_within : (own : ℕ) (heaps : List NamedHeap) (choice : SocketChoice)
    → heaps_for own (filter takes_pages heaps) None choice ≡ heaps_for own heaps None choice
chosen_within own heaps (Number socket) = ap option_to_list (find_within takes_pages (takes_pages_of socket) (takes_some socket) heaps)
chosen_within own heaps Any =
    let others : NamedHeap → Bool = λ heap. is_some heap.serves && not (takes_pages_of own heap) in
    ap (λ (mine : List NamedHeap). mine ++ filter others (filter takes_pages heaps))
    (filter_within takes_pages (takes_pages_of own) (takes_some own) heaps)
    ∙ ap (λ (rest : List NamedHeap). filter (takes_pages_of own) heaps ++ rest)
    (filter_within takes_pages others (λ heap passes. (and_parts (is_some heap.serves) (not (takes_pages_of own heap)) passes).0) heaps)

-- THOSE OF A DIRECTORY

-- two say the same of an index, as far as such heaps go
abbrev kept_of : (ℕ → Option HeapName) → List ℕ → List NamedHeap
kept_of at indexes = filter takes_pages (filter_map (λ index. named_at index (at index)) indexes)

kept_alike : (one other : ℕ → Option HeapName) → ((index : ℕ) → kept_of one (index ∷ []) ≡ kept_of other (index ∷ [])) → (indexes : List ℕ)
    → kept_of one indexes ≡ kept_of other indexes
kept_alike one other alike [] = refl
kept_alike one other alike (index ∷ indexes) =
    parts one
    ∙ (ap (λ (first : List NamedHeap). first ++ kept_of one indexes) (alike index)
    ∙ (ap (λ (rest : List NamedHeap). kept_of other (index ∷ []) ++ rest) (kept_alike one other alike indexes) ∙ sym (parts other)))
  where
    parts : (at : ℕ → Option HeapName) → kept_of at (index ∷ indexes) ≡ kept_of at (index ∷ []) ++ kept_of at indexes
    parts at =
        let named : ℕ → Option NamedHeap = λ index. named_at index (at index) in
        ap (filter takes_pages) (filter_map-append named (index ∷ []) indexes)
        ∙ filter-append takes_pages (filter_map named (index ∷ [])) (filter_map named indexes)

module _ (view : DirectoryView) (is : IsDirectory view) where
  abbrev now : ℕ → Option HeapName
  now = heap_at view.plain

  abbrev first : ℕ → Option HeapName
  first = heap_at (opening view.sockets)

  -- one that serves no socket is passed
  external_none : (index : ℕ) (heap : HeapName) → served_by heap.socket ≡ None
      → filter takes_pages (filter_map (λ index. named_at index (Some heap)) (index ∷ [])) ≡ []
  external_none index heap none = rw none refl

  past_none : (index : ℕ) → slice_get view.sockets index ≡ None → (found : Option (Option HeapName)) → slice_get view.plain.heaps index ≡ found
      → filter takes_pages (filter_map (λ index. named_at index (option_flatten found)) (index ∷ [])) ≡ []
  past_none index none None at = refl
  past_none index none (Some None) at = refl
  past_none index none (Some (Some heap)) at = external_none index heap (serves_as view is index heap at ∙ none)

  heaps_alike : (index : ℕ) → kept_of now (index ∷ []) ≡ kept_of first (index ∷ [])
  heaps_alike index = by_cases (slice_get_cases view.sockets index).1
    where
      by_cases : (((socket : ℕ) × (index < length view.sockets) × (slice_get view.sockets index ≡ Some socket) × (get_or view.sockets index socket ≡ socket))
          ⊎ ((length view.sockets ≤ index) × (slice_get view.sockets index ≡ None))) → kept_of now (index ∷ []) ≡ kept_of first (index ∷ [])
      by_cases (inl (socket, within, its, at)) =
          let here : now index ≡ first index =
          ap option_flatten (is.socket_heaps index socket its) ∙ sym (ap option_flatten (slot_there view.sockets (MAX_HEAPS - length view.sockets) index socket its)) in
          ap (λ (found : Option HeapName). filter takes_pages (filter_map (λ index. named_at index found) (index ∷ []))) here
      by_cases (inr (past, none)) =
          past_none index none (slice_get view.plain.heaps index) refl
          ∙ sym (ap (λ (found : Option HeapName). filter takes_pages (filter_map (λ index. named_at index found) (index ∷ [])))
          (slot_past view.sockets (MAX_HEAPS - length view.sockets) index past))

  -- the heaps of sockets are those with which it opened
  pub zone_heaps : (pools : List PoolLine) → view.sockets ≡ sockets_of pools → (own : ℕ) (choice : SocketChoice)
      → heaps_for own (heaps_in view.plain) None choice ≡ heaps_for own (socket_heaps pools) None choice
  unfolding heaps_in
  zone_heaps pools same own choice =
      let chosen : List NamedHeap → List NamedHeap = λ heaps. heaps_for own heaps None choice in
      sym (chosen_within own (heaps_in view.plain) choice)
      ∙ (ap chosen (kept_alike now first heaps_alike (range_with_len 0 MAX_HEAPS))
      ∙ (chosen_within own (heaps_in (opening view.sockets)) choice
      ∙ ap chosen (ap (λ (sockets : List ℕ). heaps_in (opening sockets)) same ∙ heaps_opened pools)))

-- the heaps that it tries are heaps
pub zone_places_of : (view : DirectoryView) → IsDirectory view → (pools : List PoolLine) → view.sockets ≡ sockets_of pools → (own : ℕ)
    (name : Option (List ℕ)) (choice : SocketChoice) (places : List SearchedHeap) → places ≡ map place_named (heaps_for own (heaps_in view.plain) name choice)
    → (place : SearchedHeap) → Contains places place → IsPlaceOf pools place
zone_places_of view is pools same own name choice places are place among =
    let heaps = heaps_in view.plain in
    All-contains (IsPlaceOf pools) places place
    (subst (All (IsPlaceOf pools)) (sym are)
    (All-map (IsPlaceOf pools) place_named (heaps_for own heaps name choice)
    (All-heaps_for (λ heap. IsPlaceOf pools (place_named heap)) own heaps name choice (named_places view is pools same)))) among
