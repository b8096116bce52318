-- What is known of the values at the opening, and of a name that is found; and what calls leave.
use Rattle.std.proofs.Common.{◌≡◌, ◌≢◌, ℕ, ◌<◌, ◌≤◌, Bool, true, false, not, List, [], Option, Some, None, Result, Ok, Err, refl, sym, ap, subst, ◌∙◌, inl, inr, arith}
use Rattle.std.specs.Option.{is_none}
use Rattle.std.specs.Result.{OnOk, OnErr, IfErr}
use Rattle.std.proofs.lemmas.Bool.{cases_lt}
use Rattle.hp_base.specs.declared.request.Request.{Request}
use Rattle.hp_base.specs.declared.row.Row.{Row}
use Rattle.hp_base.specs.declared.tag.Caller.{Caller}
use Rattle.hp_base.specs.declared.tag.Tag.{Tag}
use Rattle.hp_heap.specs.History.{HeapView}
use Rattle.hp_heap.specs.PlainHeap.{PlainHeap, opening_heap}
use Rattle.hp_heap.specs.Step.{after}
use Rattle.hp_heap.specs.declared.entry.HeapCall.TheVariants as call
use Rattle.hp_heap.proofs.AllocFacts.AllocKept.{alloc_kept}
use Rattle.hp_heap.proofs.FreeFacts.FreeingLemmas.{after_free-kept}
use Rattle.hp_heap.proofs.HistoryFacts.HistoryLaw.{after-same}
use Rattle.hp_maps.specs.MapsView.{MapsView}
use Rattle.hp_segs.specs.declared.external_range.ExternalRange.{ExternalRange}
use Rattle.hp_zone.specs.Directory.{IsFoundAt, IsNamed, IsNotFound, PlainDirectory}
use Rattle.hp_zone.specs.declared.heap_name.HeapRange.{HeapRange}
use Rattle.hp_zone.specs.declared.limits.TheConstants.{FIRST_EXTERNAL_SOCKET}
use Rattle.hp_external.specs.Attaching.{Attaches, Detaches, IsAttachFault}
use Rattle.hp_external.specs.Naming.{IsThatHeap}
use Rattle.hp_external.specs.Tie.{IsTiedHeap}
use Rattle.hp_external.specs.declared.fault.AttachFault.{AttachFault}
use Rattle.hp_external.specs.declared.fault.AttachFault.TheVariants as attach
use Rattle.hp_external.specs.declared.fault.DetachFault.{DetachFault}
use Rattle.hp_external.proofs.TieSteps.{tied_by, tied_same}

-- a heap without memory is tied to a directory without a range and to a table without a row
opening_tied : (participant : ℕ) → IsTiedHeap [] [] participant [] (opening_heap 1 None)
opening_tied participant = record { listed = λ addr len page. refl; claimed = tt; marked = tt; known = tt }

pub opened_tied : (ranges : List HeapRange) (claims : List ExternalRange) (participant : ℕ) (rows : List Row) (heap : PlainHeap) → ranges ≡ []
    → claims ≡ [] → rows ≡ [] → heap ≡ opening_heap 1 None → IsTiedHeap ranges claims participant rows heap
opened_tied ranges claims participant rows heap no_ranges no_claims no_rows opens =
    tied_by [] ranges [] claims participant [] rows (opening_heap 1 None) heap no_ranges no_claims no_rows opens (opening_tied participant)

-- a name is found at one index
found_once : (plain : PlainDirectory) (text : List ℕ) (i k s t : ℕ) → IsFoundAt plain text i s → IsFoundAt plain text k t → i ≡ k
found_once plain text i k s t one other =
    elim (cases_lt i k) [
      | inl below ↦ absurd (other.first i one.heap below one.there one.named)
      | inr above ↦ elim (cases_lt k i) [
        | inl below ↦ absurd (one.first k other.heap below other.there other.named)
        | inr level ↦ omega (arith, above, level)
      ]
    ]

-- any heap is the one of a name that no heap has, or that a socket's has
pub that_none : (plain : PlainDirectory) (text : List ℕ) (heap : PlainHeap) → IsNotFound plain text → IsThatHeap plain text heap
that_none plain text heap none index socket named = absurd (none index named.found.heap named.found.there named.found.named)

pub that_socket : (plain : PlainDirectory) (text : List ℕ) (heap : PlainHeap) (i s : ℕ) → IsFoundAt plain text i s → s < FIRST_EXTERNAL_SOCKET
    → IsThatHeap plain text heap
that_socket plain text heap i s found low index socket named =
    let same = found_once plain text i index s socket found named.found in
    let there : IsNamed plain i named.found.heap = subst (λ k. IsNamed plain k named.found.heap) (sym same) named.found.there in
    let both : Some (Some found.heap) ≡ Some (Some named.found.heap) = sym found.there ∙ there in
    let one : found.heap ≡ named.found.heap = cc in
    absurd (omega (arith, low, named.external, ap (λ h. h.socket) one, found.socket_is, named.found.socket_is))

-- the one at the index of the name is, where it takes external memory
pub that_index : (plain : PlainDirectory) (text : List ℕ) (heap : PlainHeap) (i s : ℕ) → IsFoundAt plain text i s → i ≡ heap.index
    → is_none heap.serves ≡ true → IsThatHeap plain text heap
that_index plain text heap i s found is external index socket named = record {
  index_is = sym is ∙ found_once plain text i index s socket found named.found;
  external = none_is heap.serves external;
}
  where
    none_is : (serves : Option ℕ) → is_none serves ≡ true → serves ≡ None
    none_is None none = refl
    none_is (Some socket) none = cc

-- an allocation and a free leave the tie
pub tied_alloc : (ranges : List HeapRange) (claims : List ExternalRange) (participant : ℕ) (rows : List Row) (heap heap' : PlainHeap) (who : ℕ)
    (request : Request) (tag : Tag) → heap' ≡ after who (call.Alloc request tag) heap → IsTiedHeap ranges claims participant rows heap
    → IsTiedHeap ranges claims participant rows heap'
unfolding after
tied_alloc ranges claims participant rows heap heap' who request tag is tied =
    tied_same ranges ranges claims participant rows heap heap' refl
    (ap (λ h. h.index) is ∙ (after-same who (call.Alloc request tag) heap).index)
    (ap (λ h. h.chunks) is ∙ (alloc_kept heap who request tag).chunks) tied

pub tied_free : (ranges : List HeapRange) (claims : List ExternalRange) (participant : ℕ) (rows : List Row) (heap heap' : PlainHeap) (who addr : ℕ)
    → heap' ≡ after who (call.Free addr false) heap → IsTiedHeap ranges claims participant rows heap
    → IsTiedHeap ranges claims participant rows heap'
unfolding after
tied_free ranges claims participant rows heap heap' who addr is tied =
    tied_same ranges ranges claims participant rows heap heap' refl
    (ap (λ h. h.index) is ∙ (after-same who (call.Free addr false) heap).index)
    (ap (λ h. h.chunks) is ∙ sym (after_free-kept heap addr false).chunks) tied

-- an attach and a detach leave the room of the table
pub room_attached : {T : Type 0} (result : Result T AttachFault) (caller : Caller) (plain : PlainDirectory) (text : List ℕ) (addr len : ℕ)
    (heap heap' : HeapView) (maps maps' : MapsView) → OnOk result (Attaches caller plain text addr len heap heap' maps maps')
    → IfErr result (IsAttachFault caller.participant plain text addr len heap.plain maps maps') → maps'.capacity ≡ maps.capacity
room_attached (Ok x) caller plain text addr len heap heap' maps maps' done refused = done.others.capacity
room_attached (Err attach.NotFound) caller plain text addr len heap heap' maps maps' done refused = ap (λ m. m.capacity) refused.1
room_attached (Err attach.NoChunk) caller plain text addr len heap heap' maps maps' done refused = ap (λ m. m.capacity) refused.1
room_attached (Err attach.Already) caller plain text addr len heap heap' maps maps' done refused = ap (λ m. m.capacity) refused.1
room_attached (Err (attach.MapRefused number)) caller plain text addr len heap heap' maps maps' done refused = refused.so.1.others.capacity

pub room_detached : {T : Type 0} (result : Result T DetachFault) (caller : Caller) (plain : PlainDirectory) (text : List ℕ) (addr len : ℕ)
    (heap heap' : HeapView) (maps maps' : MapsView) → OnOk result (Detaches caller plain text addr len heap heap' maps maps')
    → OnErr result ((heap' ≡ heap) × (maps' ≡ maps)) → maps'.capacity ≡ maps.capacity
room_detached (Ok x) caller plain text addr len heap heap' maps maps' done refused = done.others.capacity
room_detached (Err fault) caller plain text addr len heap heap' maps maps' done refused = ap (λ m. m.capacity) refused.1
