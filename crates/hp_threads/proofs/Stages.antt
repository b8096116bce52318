-- What a workload opens with is what a board opens with.
use Rattle.std.proofs.Common.{◌≡◌, ◌∙◌, ℕ, ◌<◌, ◌≤◌, ⊎_elim, List, length, map, Option, Some, None, refl, sym, ap, subst, arith}
use Rattle.std.specs.Prelude.{slice_get, unwrap_or}
use Rattle.std.specs.Option.{option_map}
use Rattle.std.proofs.lemmas.Bool.{cases_lt, false≢true}
use Rattle.std.proofs.lemmas.List.{length-map}
use Rattle.std.proofs.lemmas.Option.{slice_get-map, slice_get_past}
use Rattle.hp_board.specs.Agreement.{IsDeclaredRoster}
use Rattle.hp_board.specs.Served.{AreOpeningHeaps, AreOpeningNames, AreOpeningSegs, serves_of}
use Rattle.hp_board.specs.declared.opening.Opening.{Opening}
use Rattle.hp_board.proofs.NamesFacts.NamesOpened.{names_open, opening_named}
use Rattle.hp_heap.specs.History.{HeapView, IsSound, replay}
use Rattle.hp_heap.specs.PlainHeap.{opening_heap}
use Rattle.hp_heap.specs.declared.entry.Entry.{Entry}
use Rattle.hp_script.specs.declared.workload.Workload.{Workload}
use Rattle.hp_segs.specs.SegsView.{SegsView}
use Rattle.hp_segs.proofs.RowTables.TableUse.{at_place as its_own}
use Rattle.hp_proc.specs.Heaps.{sockets_of}
use Rattle.hp_proc.proofs.Unarmed.{all_alike}
use Rattle.thm_run.specs.EndLaws.{IsGiven}
use Rattle.thm_run.specs.SoFar.{AreFirstHeaps, first_names, first_segs}
use Rattle.thm_run.proofs.SeatFacts.FirstSegs.{nobody_first}
use Rattle.thm_run.proofs.RunFacts.Opens.{few_sockets}
use Rattle.thm_run.proofs.RunFacts.SoFarFacts.{at_place}
use Rattle.hp_zone.specs.declared.names.Names.{Names as NamesView}
use Rattle.hp_threads.specs.Workers.{OpensFor}

pub opening_heaps : (workload : Workload) (heaps : List HeapView) → AreFirstHeaps workload heaps → AreOpeningHeaps heaps
opening_heaps workload heaps are = record { count = are.in_order.count; index = are.in_order.index; empty = are.unused }

declared_first : (workload : Workload) → IsDeclaredRoster workload.participants (first_segs workload)
declared_first workload who member =
    ⊎_elim
    (λ (below : who < workload.participants). below)
    (λ (beyond : workload.participants ≤ who).
    absurd (false≢true (sym (nobody_first workload.participants workload.absent who beyond) ∙ member)))
    (cases_lt who workload.participants)

pub opening_segs : (workload : Workload) (segs : SegsView) → segs ≡ first_segs workload → AreOpeningSegs workload.participants segs
opening_segs workload segs is =
    subst (AreOpeningSegs workload.participants) (sym is)
    (record { log = refl; asks = refl; ranges = refl; armed = all_alike None 16; roster = declared_first workload })

-- a heap without a call is as it opened, so the names are those of the heaps
first_plain : (workload : Workload) (heaps : List HeapView) → AreFirstHeaps workload heaps → (slot : ℕ) (heap : HeapView)
    → slice_get heaps slot ≡ Some heap → heap.plain ≡ opening_heap slot (slice_get (sockets_of workload.pools.items) slot)
first_plain workload heaps are slot heap there =
    let is = are.each slot heap there in
    let sound : IsSound heap = its_own IsSound heaps slot heap are.sound there in
    sound.stands.left
    ∙ ap (λ (history : List Entry). replay (opening_heap heap.plain.index heap.plain.serves) history) (are.unused slot heap there)
    ∙ ap (λ (n : ℕ). opening_heap n heap.plain.serves) is.index
    ∙ ap (opening_heap slot) is.serves

pub opening_names : (workload : Workload) (heaps : List HeapView) (names : NamesView) → AreFirstHeaps workload heaps
    → names ≡ first_names workload → AreOpeningNames heaps names
opening_names workload heaps names are is =
    names_open (sockets_of workload.pools.items) heaps names (ap (λ (n : NamesView). n.heaps) is) (ap (λ (n : NamesView). n.zones) is)
    (λ slot heap there.
    opening_named (sockets_of workload.pools.items) slot heap (first_plain workload heaps are slot heap there))

-- each heap takes the pages of its socket
serves_at : (workload : Workload) (heaps : List HeapView) → AreFirstHeaps workload heaps → (heap : ℕ)
    → unwrap_or (slice_get (map serves_of heaps) heap) None ≡ slice_get (sockets_of workload.pools.items) heap
serves_at workload heaps are heap =
    ⊎_elim
    (λ (below : heap < length heaps).
    let one = at_place heaps heap below in
    ap (λ (it : Option (Option ℕ)). unwrap_or it None) (slice_get-map serves_of heaps heap ∙ ap (option_map serves_of) one.there)
    ∙ (are.each heap one.it one.there).serves)
    (λ (beyond : length heaps ≤ heap).
    ap (λ (it : Option (Option ℕ)). unwrap_or it None)
    (slice_get_past (map serves_of heaps) heap (omega (arith, beyond, length-map heaps serves_of)))
    ∙ sym (slice_get_past (sockets_of workload.pools.items) heap
    (omega (arith, beyond, are.in_order.count, few_sockets workload.pools.items))))
    (cases_lt heap (length heaps))

pub opens_for : (workload : Workload) (opening : Opening) (heaps : List HeapView) (segs : SegsView) → IsGiven workload
    → AreFirstHeaps workload heaps → segs ≡ first_segs workload → opening.participants ≡ workload.participants
    → opening.serves ≡ map serves_of heaps → opening.segs.value ≡ segs → opening.names.value ≡ first_names workload → OpensFor workload opening
opens_for workload opening heaps segs given are first count serves its names = record {
  count = count;
  few = given.few;
  segs = its ∙ first;
  names = names;
  serves = λ heap.
      ap (λ (all : List (Option ℕ)). unwrap_or (slice_get all heap) None) serves ∙ serves_at workload heaps are heap;
}
