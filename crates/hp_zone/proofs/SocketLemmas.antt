-- That each socket keeps its heap: in the opening directory, after each change, and in what the first changes of a log leave.
use Rattle.std.proofs.Common.{◌≡◌, ◌≢◌, ℕ, ◌+◌, ◌-◌, ◌<◌, ◌≤◌, Option, Some, None, sym, ap, subst, ◌∙◌, inl, inr, arith}
use Rattle.std.proofs.Common.{List, [], ◌∷◌, ◌++◌, length, get_or, map, replicate, set, slice_get, take}
use Rattle.std.proofs.lemmas.Bool.{cases_lt}
use Rattle.std.proofs.lemmas.List.{get_or-map, get_or-set_other, get_or_append_left, length-append, length-map, length-set, length_push}
use Rattle.std.proofs.lemmas.List.{take-append-le, take_all}
use Rattle.std.proofs.lemmas.List.Elements.{All-get_or}
use Rattle.std.proofs.lemmas.Option.{get_or_from_slice_get, slice_get-get_or, slice_get_within}
use Rattle.hp_base.specs.declared.limits.TheConstants.{MAX_HEAPS}
use Rattle.hp_zone.specs.declared.limits.TheConstants.{FIRST_EXTERNAL_SOCKET}
use Rattle.hp_zone.specs.declared.heap_name.HeapName.{HeapName}
use Rattle.hp_zone.specs.declared.name_change.NameChange.{NameChange}
use Rattle.hp_zone.specs.declared.name_change.NameChange.TheVariants.{Named, Unnamed}
use Rattle.hp_zone.specs.Directory.{DirectoryView, HasSocketHeaps, IsDirectory, IsNamed, IsUnnamed, MayOpen, MayRemove, PlainDirectory}
use Rattle.hp_zone.specs.Directory.{after_change, directory_after, directory_at, opening, socket_heap}
use Rattle.hp_zone.proofs.ReplayLemmas.{replayed_push}

-- the heap of another index stays
other_stays : (heaps : List (Option HeapName)) (at i : ℕ) (new heap : Option HeapName) → i ≢ at
    → slice_get heaps i ≡ Some heap → slice_get (set heaps at new) i ≡ Some heap
other_stays heaps at i new heap other there =
    let within : i < length heaps = slice_get_within heaps i heap there in
    let here : get_or heaps i None ≡ heap = get_or_from_slice_get heaps i heap None there in
    slice_get-get_or (set heaps at new) i None (rw (length-set heaps at new) within)
    ∙ ap Some (get_or-set_other heaps at i new None other ∙ here)

module _ (sockets : List ℕ) where
  pub sockets_opened : HasSocketHeaps sockets (opening sockets)
  sockets_opened i socket there =
      let others : List (Option HeapName) = replicate (MAX_HEAPS - length sockets) None in
      let low : i < length sockets = slice_get_within sockets i socket there in
      let long : length (map socket_heap sockets) ≡ length sockets = length-map sockets socket_heap in
      let all : length (opening sockets).heaps ≡ length (map socket_heap sockets) + length others
      = length-append (map socket_heap sockets) others in
      let here : get_or (opening sockets).heaps i None ≡ socket_heap socket
      = get_or_append_left (map socket_heap sockets) others None i (omega (arith, low, long))
      ∙ (get_or-map socket_heap sockets i 0 None low ∙ ap socket_heap (get_or_from_slice_get sockets i socket 0 there)) in
      slice_get-get_or (opening sockets).heaps i None (omega (arith, low, long, all)) ∙ ap Some here

  -- no change of the log is there yet
  pub fronts_opened : (n : ℕ) → HasSocketHeaps sockets (directory_at sockets [] n)
  fronts_opened n =
      let none : take n [] ≡ [] = take_all n [] (omega arith) in
      let P : List NameChange → Type 0 = λ log. HasSocketHeaps sockets (directory_after (opening sockets) log) in
      subst P (sym none) sockets_opened

  module _ (plain : PlainDirectory) (old : HasSocketHeaps sockets plain) where
    -- a name that may be removed is that of no socket's heap
    pub sockets_unnamed : (index : ℕ) → MayOpen sockets → MayRemove plain index
        → HasSocketHeaps sockets (after_change plain (Unnamed index))
    sockets_unnamed index opened may i socket there =
        let low = All-get_or (λ s. s < FIRST_EXTERNAL_SOCKET) sockets i 0 (slice_get_within sockets i socket there) opened.low in
        let below : socket < FIRST_EXTERNAL_SOCKET = rw (get_or_from_slice_get sockets i socket 0 there) at low in
        other_stays plain.heaps index i None (socket_heap socket) (λ same.
        let P : ℕ → Type 0 = λ k. IsNamed plain k may.heap in
        let named : slice_get plain.heaps i ≡ Some (Some may.heap) = subst P (sym same) may.named in
        let both : Some (socket_heap socket) ≡ Some (Some may.heap) = sym (old i socket there) ∙ named in
        external_else socket may.heap both below may.external) (old i socket there)
      where
        external_else : (socket : ℕ) (heap : HeapName) → Some (socket_heap socket) ≡ Some (Some heap) → socket < FIRST_EXTERNAL_SOCKET
            → FIRST_EXTERNAL_SOCKET ≤ heap.socket → ⊥
        external_else socket heap both below external =
            let is : socket ≡ heap.socket = cc in
            omega (arith, is, below, external)

    -- a heap that gets a name is that of no socket
    pub sockets_named : (index socket : ℕ) (name : List ℕ) → IsUnnamed plain index
        → HasSocketHeaps sockets (after_change plain (Named index socket name))
    sockets_named index given name unnamed i socket there =
        other_stays plain.heaps index i (Some (record { name = name; socket = given })) (socket_heap socket) (λ same.
        let P : ℕ → Type 0 = λ k. IsUnnamed plain k in
        let none : slice_get plain.heaps i ≡ Some None = subst P (sym same) unnamed in
        let both : Some (socket_heap socket) ≡ Some None = sym (old i socket there) ∙ none in
        cc) (old i socket there)

-- with one change more, a front of the log is a front of the changes before, or all of them
pub fronts_push : (view : DirectoryView) → IsDirectory view → (change : NameChange)
    → HasSocketHeaps view.sockets (after_change view.plain change)
    → (n : ℕ) → HasSocketHeaps view.sockets (directory_at view.sockets (view.log ++ change ∷ []) n)
fronts_push view sound change stay n =
    let long : length (view.log ++ change ∷ []) ≡ length view.log + 1 = length_push view.log change in
    let P : List NameChange → Type 0 = λ front. HasSocketHeaps view.sockets (directory_after (opening view.sockets) front) in
    let whole : P (view.log ++ change ∷ []) = subst (HasSocketHeaps view.sockets) (replayed_push view sound change) stay in
    elim (cases_lt (length view.log) n) [
      | inl past ↦ subst P (sym (take_all n (view.log ++ change ∷ []) (omega (arith, past, long)))) whole
      | inr front ↦ subst P (sym (take-append-le n view.log (change ∷ []) front)) (sound.fronts n)
    ]
