-- A worked value: the names' end of a workload without pools and lines, so that what it says is met by some run. There the heaps are vacant; what
-- the clauses say where something is there, other worked values show one by one.
use Rattle.std.proofs.Common.{◌≡◌, ◌∙◌, ℕ, zero, suc, ◌+◌, List, [], ◌∷◌, ◌++◌, flat_map, map, Option, Some, None, refl, ap, sym, subst, arith}
use Rattle.std.specs.Prelude.{slice_get}
use Rattle.std.specs.List.{All, AllByRecursion, range_with_len}
use Rattle.std.specs.List.Sorted.{IsNonDecreasing, IsPermutation}
use Rattle.std.specs.Option.{option_and_then, option_map_or}
use Rattle.std.proofs.lemmas.List.Elements.{All-cons, All-nil}
use Rattle.std.proofs.lemmas.List.Sorted.{IsNonDecreasingBy-short, IsPermutation-refl}
use Rattle.std.proofs.lemmas.Option.{same_Some}
use Rattle.hp_base.specs.declared.limits.TheConstants.{MAX_HEAPS}
use Rattle.hp_base.specs.declared.pool_line.PoolLine.{PoolLine}
use Rattle.hp_external.specs.Tie.{AreClaimed, AreListed, IsMarked, IsOfClaim, claim_of}
use Rattle.hp_heap.proofs.AllocFacts.ChoiceLaw.{Contains-none}
use Rattle.hp_heap.specs.History.{HeapView}
use Rattle.hp_heap.specs.Joining.{zone_ranges}
use Rattle.hp_heap.specs.Lists.{free_lists}
use Rattle.hp_heap.specs.PlainHeap.{opening_heap}
use Rattle.hp_maps.specs.declared.table.Table.{Table}
use Rattle.hp_script.specs.declared.workload.Workload.{Workload}
use Rattle.hp_segs.specs.Opening.{opening}
use Rattle.hp_segs.specs.declared.external_range.ExternalRange.{ExternalRange}
use Rattle.hp_zone.specs.Directory.{HasSocketHeaps, directory_at, heap_at}
use Rattle.hp_zone.specs.declared.zone.ZoneChange.TheVariants.{Put}
use Rattle.hp_proc.specs.Doing.{Done}
use Rattle.hp_proc.proofs.SocketNames.{no_name}
use Rattle.hp_proc.specs.Handed.{AreHanded, AreStatesHanded}
use Rattle.hp_proc.specs.Heaps.{sockets_of}
use Rattle.hp_proc.specs.LinesDone.{Course}
use Rattle.hp_proc.specs.NamesAtEnd.{AreElementsOf, AreHandedTogether, called, chunks_at}
use Rattle.hp_proc.specs.OneThread.{AreHandedInOrder, IsMoment}
use Rattle.hp_proc.specs.NamesLog.{changes_made}
use Rattle.hp_proc.specs.RunEnds.{EndsWithNames, HasAttached, did_of}
use Rattle.hp_proc.specs.SharedNames.{directory_in, no_changes}

-- a workload of one participant without pools and lines
pub record IsEmptyWorkload (workload : Workload) : Type 0 where
  pub one : workload.participants ≡ 1
  pub pools : workload.pools.items ≡ []
  pub lines : workload.lines.items ≡ []

-- the heap of an index before any call
abbrev vacant : ℕ → HeapView
vacant index =
    record { plain = opening_heap index None; lists = free_lists (opening_heap index None); history = []; spare = 0 }

abbrev vacant_heaps : List HeapView
vacant_heaps = map vacant (range_with_len 0 MAX_HEAPS)

-- what is so of each vacant heap is so of all, and each is at its index
all_vacant : (P : HeapView → Type 0) (n from : ℕ) → ((index : ℕ) → P (vacant index)) → All P (map vacant (range_with_len from n))
all_vacant P zero from each = All-nil P
all_vacant P (suc n) from each =
    All-cons P (vacant from) (map vacant (range_with_len (from + 1) n)) (each from) (all_vacant P n (from + 1) each)

vacant_at : (n from place : ℕ) (heap : HeapView) → slice_get (map vacant (range_with_len from n)) place ≡ Some heap → vacant (from + place) ≡ heap
vacant_at zero from place heap here = cc
vacant_at (suc n) from zero heap here =
    let same : from + 0 ≡ from = omega arith in
    ap vacant same ∙ same_Some (vacant from) heap here
vacant_at (suc n) from (suc place) heap here =
    let same : from + suc place ≡ (from + 1) + place = omega arith in
    ap vacant same ∙ vacant_at n (from + 1) place heap here

each_vacant : (P : ℕ → HeapView → Type 0) → ((index : ℕ) → P index (vacant index)) → (index : ℕ) (heap : HeapView)
    → slice_get vacant_heaps index ≡ Some heap → P index heap
each_vacant P each index heap here =
    let same : index ≡ 0 + index = omega arith in
    subst (P index) (ap vacant same ∙ vacant_at MAX_HEAPS 0 index heap here) (each index)

none_called : (index : ℕ) (slot : Option HeapView) → slice_get vacant_heaps index ≡ slot
    → option_and_then (λ (heap : HeapView). called heap.plain) slot ≡ None
none_called index None is = refl
none_called index (Some heap) is = ap (λ (heap : HeapView). called heap.plain) (sym (vacant_at MAX_HEAPS 0 index heap is))

-- a heap that is vacant has no chunk
no_chunks : (index : ℕ) (slot : Option HeapView) → slice_get vacant_heaps index ≡ slot
    → map claim_of (option_map_or (λ (heap : HeapView). heap.plain.chunks) slot []) ≡ []
no_chunks index None is = refl
no_chunks index (Some heap) is =
    ap (λ (heap : HeapView). map claim_of heap.plain.chunks) (sym (vacant_at MAX_HEAPS 0 index heap is))

none_claimed : (xs : List ℕ) → flat_map (λ index. map claim_of (chunks_at vacant_heaps index)) xs ≡ []
none_claimed [] = refl
none_claimed (index ∷ xs) =
    ap (λ (claims : List ExternalRange). claims ++ flat_map (λ index. map claim_of (chunks_at vacant_heaps index)) xs)
    (no_chunks index (slice_get vacant_heaps index) refl)
    ∙ none_claimed xs

nothing_there : {X : Type 0} (earlier : List X) (one : X) (later : List X) → [] ≡ earlier ++ one ∷ later → ⊥
nothing_there [] one later is = cc
nothing_there (first ∷ earlier) one later is = cc

no_elements : (index : ℕ) → AreElementsOf no_changes index (opening_heap index None)
unfolding zone_ranges
no_elements index = IsPermutation-refl []

nothing_falls : IsNonDecreasing []
nothing_falls = IsNonDecreasingBy-short (λ (n : ℕ). n) [] (omega arith)

no_state : (who index : ℕ) → AreStatesHanded who [] (vacant index)
no_state who index = record {
  fronts = λ place state within. absurd (omega (arith, within));
  rising = nothing_falls;
  own = λ first state after. absurd (nothing_there first _ after.0 after.1);
}

nothing_handed : (who : ℕ) → AreHanded no_changes vacant_heaps who []
nothing_handed who = record {
  shown = record {
    fronts = λ place names within. absurd (omega (arith, within));
    zones = nothing_falls;
    heaps = nothing_falls;
  };
  states = all_vacant (AreStatesHanded who []) MAX_HEAPS 0 (no_state who);
}

module _ (workload : Workload) (empty : IsEmptyWorkload workload) (table : Table) (bare : table.rows.items ≡ []) where
  unnamed : (index : ℕ) → heap_at (directory_in workload.pools.items no_changes) index ≡ None
  unnamed = subst (λ (pools : List PoolLine). (index : ℕ) → heap_at (directory_in pools no_changes) index ≡ None) (sym empty.pools)
      (no_name MAX_HEAPS)

  no_socket : (place : ℕ) → None ≡ slice_get (sockets_of workload.pools.items) place
  no_socket = subst (λ (pools : List PoolLine). (place : ℕ) → None ≡ slice_get (sockets_of pools) place) (sym empty.pools) (λ place. refl)

  sockets_stay : (front : ℕ) → HasSocketHeaps (sockets_of workload.pools.items) (directory_at (sockets_of workload.pools.items) [] front)
  sockets_stay front index socket there = let none = no_socket index in cc

  own_end : HasAttached vacant_heaps (opening [] 1 0) 0 table
  own_end = record {
    marked = all_vacant (λ (heap : HeapView). AllByRecursion (IsMarked 0 table.rows.items) heap.plain.chunks) MAX_HEAPS 0 (λ index. tt);
    known = subst (AllByRecursion (IsOfClaim [])) (sym bare) tt;
  }

  each_has : (who : ℕ) (other : Table) → slice_get (table ∷ []) who ≡ Some other → HasAttached vacant_heaps (opening [] 1 0) who other
  each_has zero other its = subst (HasAttached vacant_heaps (opening [] 1 0) 0) (same_Some table other its) own_end
  each_has (suc who) other its = cc

  -- nothing was handed, and nothing was done, and there is nothing of which more could be said
  an_empty_end : EndsWithNames workload [] no_changes vacant_heaps (opening [] 1 0) (table ∷ [])
  an_empty_end = record {
    changes = record {
      made = subst (λ (participants : ℕ). IsPermutation (changes_made participants (did_of [])) []) (sym empty.one) (IsPermutation-refl []);
      sockets = sockets_stay;
    };
    count = refl;
    directory = record {
      names_are = λ index below. unnamed index ∙ sym (none_called index (slice_get vacant_heaps index) refl);
      chunks_are = all_vacant (λ (heap : HeapView). AreListed [] heap.plain) MAX_HEAPS 0 (λ index addr len page. refl);
      no_other = λ place range within. absurd (omega (arith, within));
      claimed = all_vacant (λ (heap : HeapView). AreClaimed [] heap.plain.chunks) MAX_HEAPS 0 (λ index. tt);
    };
    zones = record {
      elements = each_vacant (λ (index : ℕ) (heap : HeapView). AreElementsOf no_changes index heap.plain) no_elements;
      few = λ place zone within. absurd (omega (arith, within));
      reserved = λ zone among. absurd (Contains-none (Put zone) among);
    };
    claimed = subst (λ (claims : List ExternalRange). IsPermutation claims []) (sym (none_claimed (range_with_len 0 MAX_HEAPS)))
        (IsPermutation-refl []);
    handed = λ who. nothing_handed who;
    awaited_for = λ who place other lines course here. cc;
    attached = each_has;
  }

  -- nor is there a moment at which a line could have been handed something else than what the lines before it leave
  none_between : (so_far : List Course) (who : ℕ) (done : Done) → IsMoment [] so_far who done → ⊥
  none_between so_far who done moment = nothing_there moment.earlier moment.course moment.later moment.lines

  alone_too : AreHandedInOrder workload [] no_changes vacant_heaps
  alone_too = record {
    handed = λ so_far who done moment. absurd (none_between so_far who done moment);
    together = All-nil (AreHandedTogether workload.pools.items);
    next = λ who place course names index history rest own heap here. cc;
    leave = refl;
  }
