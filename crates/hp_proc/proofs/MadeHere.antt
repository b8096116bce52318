-- An external heap that is made, or destroyed, with the names and the heap in hand: what the line did, and that both are in hand still.
use Rattle.std.proofs.Common.{◌++◌, ◌-◌, ◌<◌, ◌^◌, ◌∙◌, ◌∷◌, ◌≡◌, Bool, Contains, List, None, Option, Some, [], ap, append-nil, ap₂, cond, eq-eqb, get_or-set_same, length, length-set, min, refl, set, subst, sym, ℕ}
use Rattle.std.specs.Prelude.{slice_get}
use Rattle.std.proofs.lemmas.Option.{slice_get-get_or, slice_get_within}
use Rattle.std.specs.Option.{option_flatten}
use Rattle.hp_base.specs.declared.chunk.Chunk.{Chunk}
use Rattle.hp_base.specs.declared.limits.TheConstants.{MAX_HEAPS}
use Rattle.hp_external.specs.Creating.{Creates, Destroys}
use Rattle.hp_hall.proofs.HallStates.{did_same, others_same, slots_same}
use Rattle.hp_hall.specs.AgreedNames.{AreAgreedNames}
use Rattle.hp_hall.specs.HallState.{Did, HallState}
use Rattle.hp_hall.specs.Naming.{Naming, naming_of}
use Rattle.hp_hall.specs.Values.{IsSoundKept}
use Rattle.hp_hall.specs.declared.kept.Kept.TheVariants.{Names}
use Rattle.hp_hall.specs.declared.slot.TheConstants.{NAMES_SLOT}
use Rattle.hp_heap.proofs.HistoryFacts.BusyLaw.{leaves_busy}
use Rattle.hp_heap.specs.ChunkOrder.{AreInOrder}
use Rattle.hp_heap.specs.History.{HeapView, IsCall}
use Rattle.hp_heap.specs.HistoryLaws.{run_cut, run_grown}
use Rattle.hp_heap.specs.PlainHeap.{PlainHeap}
use Rattle.hp_heap.specs.Step.{after, after_name}
use Rattle.hp_heap.specs.Tiling.{IsTiled}
use Rattle.hp_heap.specs.declared.entry.HeapAnswer.TheVariants as gives
use Rattle.hp_heap.specs.declared.entry.HeapAnswer.{HeapAnswer}
use Rattle.hp_heap.specs.declared.entry.HeapCall.TheVariants as call
use Rattle.hp_heap.specs.declared.entry.HeapCall.{HeapCall}
use Rattle.hp_proc.proofs.AgreedLater.{HasOtherName, name_of, other_agrees, renamed}
use Rattle.hp_proc.proofs.ChunksLeft.{same_marks}
use Rattle.hp_proc.proofs.HandFacts.HandCalls.{call_index, call_serves}
use Rattle.hp_proc.proofs.HandFacts.HandDone.{does_made}
use Rattle.hp_proc.proofs.HandFacts.HandKept.{called_marked}
use Rattle.hp_proc.proofs.HandFacts.HandNamed.{agrees_then, known_claims, known_here, names_go}
use Rattle.hp_proc.specs.Acting.{Acts, AreAsked}
use Rattle.hp_proc.specs.Doing.Done.{Called, NamesChanged}
use Rattle.hp_proc.specs.Doing.{Doing, Done, Goes, Leads}
use Rattle.hp_proc.specs.ExternalLines.{calling, changing, destroying, making}
use Rattle.hp_proc.specs.HeldLines.{DestroysHeap, MakesHeap}
use Rattle.hp_proc.specs.HeldMarks.{HoldsMarked}
use Rattle.hp_proc.specs.MarksInHand.{HoldsNamedMarked, KeepsMarked}
use Rattle.hp_proc.specs.NamesInHand.{DoesNamedHeld, entries_in}
use Rattle.hp_proc.specs.ParticipantView.{ParticipantView, after_call}
use Rattle.hp_proc.specs.Progress.{caller_of}
use Rattle.hp_proc.specs.SharedNames.NamesChange.{OfHeaps}
use Rattle.hp_script.specs.declared.answer.Answer.TheVariants as answer
use Rattle.hp_segs.proofs.SlotFacts.PlacesSteps.{get_set_other}
use Rattle.hp_serve.proofs.Carrying.{same_party}
use Rattle.hp_zone.specs.Directory.{DirectoryView, heap_at}
use Rattle.hp_zone.specs.declared.heap_name.HeapName.{HeapName}
use Rattle.hp_zone.specs.declared.name_change.NameChange.TheVariants.{Named, Unnamed}
use Rattle.hp_zone.specs.declared.name_change.NameChange.{NameChange}
use Rattle.hp_zone.specs.declared.names.Names.{Names as NamesView}

-- A CHANGE OF THE DIRECTORY, AND THEN A CALL THAT LEAVES CHUNKS AND ELEMENTS

module _ (old : ParticipantView) (names given : NamesView) (heap next : HeapView) (state : HallState) (change : NameChange) (its : HeapCall)
    (step : IsCall (caller_of old) its gives.Done heap next) (holds : HoldsNamedMarked old.party.me old names heap state)
    (zones : given.zones ≡ names.zones) (log : given.heaps.log ≡ names.heaps.log ++ change ∷ []) where
  abbrev me : ℕ
  me = old.party.me

  abbrev at : ℕ
  at = heap.plain.index

  abbrev trace : List Done
  trace = NamesChanged (OfHeaps change) ∷ (Called at its gives.Done ∷ [])

  pub does_renamed : (doing rest : Doing) → Leads doing trace rest
      → DoesNamedHeld me old (after_call old) names given heap next state state doing rest
  unfolding AreAsked
  does_renamed doing rest leads = record {
    does = does_made old (after_call old) heap (state.part me) (state.part me) (state.seen me) (state.heard me) (state.seen me) (state.heard me)
        state.count (λ steps. Did me steps state state) doing rest trace [] leads (did_same me state)
        (Acts.and_then (Some at) (Some at) (Some at) [] [] old old (after_call old) (NamesChanged (OfHeaps change) ∷ [])
        (Called at its gives.Done ∷ []) [] [] (Acts.changes_names (Some at) old (OfHeaps change)) (Acts.makes_call old at its gives.Done refl))
        (λ index. refl) (λ index. refl) (same_party old.party) refl [] (sym (append-nil (state.seen me))) [] (sym (append-nil (state.heard me)))
        next its gives.Done step refl refl;
    names = record {
      changed = ap₂ (λ z (l : List NameChange). record { zones = z; heaps = l }) (ap (λ z. z.log) zones) log;
      unread = refl;
      untold = (tt, (tt, tt));
    };
  }

  module _ (sound : IsSoundKept (Names given)) (sockets : given.heaps.sockets ≡ names.heaps.sockets) (marked : HoldsMarked me (after_call old) next state)
      (agreed : AreAgreedNames given (renamed at (naming_of next.plain) holds.agrees.namings) holds.agrees.claims) where
    pub keeps_renamed : KeepsMarked me old (after_call old) given heap next state state
    keeps_renamed =
        let index : next.plain.index ≡ at = call_index (caller_of old) its gives.Done heap next step in
        record {
          holds = record {
            holds = marked;
            told = holds.told;
            was = holds.was;
            taken = holds.taken;
            sound = sound;
            goes_on = names_go (entries_in me state) holds.was names given (change ∷ []) holds.goes_on zones sockets log;
            agrees = agrees_then heap (state.part me) names holds.agrees holds.holds.in_hand.few next (state.part me) given holds.agrees.claims index
                (λ k. refl) (known_claims heap (state.part me) names holds.agrees holds.holds.in_hand.few) agreed;
            sockets = sockets ∙ holds.sockets;
          };
          index = index;
          its_socket = call_serves (caller_of old) its gives.Done heap next step;
          same = same_party old.party;
          pools = refl;
          slots = slots_same state;
          others = others_same me state;
        }

-- IT IS MADE, OR DESTROYED

slice_get_here : {X : Type 0} (xs : List (Option X)) (at : ℕ) (x : Option X) → at < length xs → slice_get (set xs at x) at ≡ Some x
slice_get_here xs at x within =
    slice_get-get_or (set xs at x) at None (subst (λ (n : ℕ). at < n) (sym (length-set xs at x)) within) ∙ ap Some (get_or-set_same xs at x None within)

-- what the names speak of once the heap has another name, or none
record IsNamedTo (name : Option (List ℕ)) (socket : ℕ) (old new : Naming) : Type 0 where
  name_is : new.name ≡ name
  socket_is : new.socket ≡ socket
  chunks : new.chunks ≡ old.chunks
  zones : new.zones ≡ old.zones

module _ (old : ParticipantView) (heap next : HeapView) (state : HallState) (holds : HoldsMarked old.party.me old heap state) where
  abbrev tiled : IsTiled heap.plain
  tiled = holds.in_hand.sound.tiled

  module _ (text : List ℕ) (socket : ℕ) (step : IsCall (caller_of old) (call.Name text socket) gives.Done heap next) where
    named_to : IsNamedTo (Some text) socket (naming_of heap.plain) (naming_of next.plain)
    unfolding naming_of after after_name
    named_to =
        let zones = (leaves_busy old.party.me (call.Name text socket) heap.plain tiled tt refl).zones in
        subst (λ (h : PlainHeap). IsNamedTo (Some text) socket (naming_of heap.plain) (naming_of h)) (sym step.heap)
        (record { name_is = refl; socket_is = refl; chunks = refl; zones = zones })

    named_chunks : next.plain.chunks ≡ heap.plain.chunks
    unfolding after after_name
    named_chunks = ap (λ (h : PlainHeap). h.chunks) step.heap

    named_pages : next.plain.pages ≡ heap.plain.pages
    unfolding after after_name
    named_pages = ap (λ (h : PlainHeap). h.pages) step.heap

  module _ (step : IsCall (caller_of old) call.Unname gives.Done heap next) where
    unnamed_to : IsNamedTo None 0 (naming_of heap.plain) (naming_of next.plain)
    unfolding naming_of after after_name
    unnamed_to =
        let zones = (leaves_busy old.party.me call.Unname heap.plain tiled tt refl).zones in
        subst (λ (h : PlainHeap). IsNamedTo None 0 (naming_of heap.plain) (naming_of h)) (sym step.heap)
        (record { name_is = refl; socket_is = refl; chunks = refl; zones = zones })

    unnamed_chunks : next.plain.chunks ≡ heap.plain.chunks
    unfolding after after_name
    unnamed_chunks = ap (λ (h : PlainHeap). h.chunks) step.heap

    unnamed_pages : next.plain.pages ≡ heap.plain.pages
    unfolding after after_name
    unnamed_pages = ap (λ (h : PlainHeap). h.pages) step.heap

  -- the heap is in hand still, where its chunks and pages are as they were
  called_alike : (its : HeapCall) (answer : HeapAnswer) → IsCall (caller_of old) its answer heap next → AreInOrder heap.plain.chunks
      → next.plain.pages ≡ heap.plain.pages → next.plain.chunks ≡ heap.plain.chunks → run_grown its ≡ [] → run_cut answer ≡ [] → (names : NamesView)
      → state.taken NAMES_SLOT ≡ Some (Names names) → HoldsMarked old.party.me (after_call old) next state
  called_alike its answer step order pages chunks grown cut names out =
      called_marked old heap next its answer step state holds order pages grown cut (same_marks old.party.me heap.plain next.plain chunks) names out
      (λ these chunk knows has.
      holds.in_hand.claimed these chunk knows (subst (λ (l : List Chunk). Contains l chunk) chunks has))

module _ (old : ParticipantView) (names given : NamesView) (heap next : HeapView) (state : HallState) (text : List ℕ)
    (holds : HoldsNamedMarked old.party.me old names heap state) (order : AreInOrder heap.plain.chunks) (sound : IsSoundKept (Names given)) where
  abbrev here : ℕ
  here = heap.plain.index

  abbrev few : here < MAX_HEAPS
  few = holds.holds.in_hand.few

  abbrev its_naming : naming_of heap.plain ≡ holds.agrees.namings here
  its_naming = known_here heap (state.part old.party.me) names holds.agrees few

  module _ (socket : ℕ) (made : MakesHeap text old (after_call old) names given heap next socket) where
    abbrev creates : Creates names given text here socket
    creates = made.creates

    abbrev name : HeapName
    name = record { name = text; socket = socket }

    to : IsNamedTo (Some text) socket (naming_of heap.plain) (naming_of next.plain)
    to = named_to old heap next state holds.holds text socket made.named

    made_other : HasOtherName here names given (holds.agrees.namings here) (naming_of next.plain)
    made_other = record {
      here = ap (λ (d : DirectoryView). heap_at d.plain here) creates.given.changed
          ∙ (ap option_flatten (slice_get_here names.heaps.plain.heaps here (Some name)
          (slice_get_within names.heaps.plain.heaps here None creates.given.index_is.unnamed))
          ∙ sym (ap₂ name_of to.name_is to.socket_is));
      else_same = λ index apart.
          ap (λ (d : DirectoryView). heap_at d.plain index) creates.given.changed
          ∙ ap option_flatten (get_set_other names.heaps.plain.heaps here index (Some name) apart);
      ranges = ap (λ (d : DirectoryView). d.plain.ranges) creates.given.changed;
      zones = creates.zones;
      chunks = to.chunks ∙ ap (λ (n : Naming). n.chunks) its_naming;
      its_zones = to.zones ∙ ap (λ (n : Naming). n.zones) its_naming;
    }

    pub made_keeps : KeepsMarked old.party.me old (after_call old) given heap next state state
    made_keeps =
        keeps_renamed old names given heap next state (Named here socket text) (call.Name text socket) made.named holds creates.zones
        (ap (λ (d : DirectoryView). d.log) creates.given.changed) sound (ap (λ (d : DirectoryView). d.sockets) creates.given.changed)
        (called_alike old heap next state holds.holds (call.Name text socket) gives.Done made.named order
        (named_pages old heap next state holds.holds text socket made.named) (named_chunks old heap next state holds.holds text socket made.named)
        refl refl holds.was holds.taken)
        (other_agrees here names given holds.agrees.namings holds.agrees.claims holds.agrees.agreed few (naming_of next.plain) made_other)

    pub made_does : DoesNamedHeld old.party.me old (after_call old) names given heap next state state
        (making text names.heaps.plain.next (Some here)) (Doing.Ended (answer.Socket socket))
    unfolding Leads Goes
    made_does =
        subst (λ (n : ℕ). DoesNamedHeld old.party.me old (after_call old) names given heap next state state (making text n (Some here))
        (Doing.Ended (answer.Socket socket))) creates.given.socket_is
        (does_renamed old names given heap next state (Named here socket text) (call.Name text socket) made.named holds creates.zones
        (ap (λ (d : DirectoryView). d.log) creates.given.changed) (making text socket (Some here)) (Doing.Ended (answer.Socket socket))
        (tt, refl, (gives.Done, refl, refl)))

  module _ (gone : DestroysHeap text old (after_call old) names given heap next) where
    abbrev destroys : Destroys (caller_of old) text names given heap next
    destroys = gone.destroys

    none : IsNamedTo None 0 (naming_of heap.plain) (naming_of next.plain)
    none = unnamed_to old heap next state holds.holds destroys.unnamed

    gone_other : HasOtherName here names given (holds.agrees.namings here) (naming_of next.plain)
    gone_other = record {
      here = ap (λ (d : DirectoryView). heap_at d.plain here) destroys.directory
          ∙ (ap option_flatten (slice_get_here names.heaps.plain.heaps here None
          (slice_get_within names.heaps.plain.heaps here (Some destroys.named.found.heap) destroys.named.found.there))
          ∙ sym (ap₂ name_of none.name_is none.socket_is));
      else_same = λ index apart.
          ap (λ (d : DirectoryView). heap_at d.plain index) destroys.directory
          ∙ ap option_flatten (get_set_other names.heaps.plain.heaps here index None apart);
      ranges = ap (λ (d : DirectoryView). d.plain.ranges) destroys.directory;
      zones = destroys.zones;
      chunks = none.chunks ∙ ap (λ (n : Naming). n.chunks) its_naming;
      its_zones = none.zones ∙ ap (λ (n : Naming). n.zones) its_naming;
    }

    pub gone_keeps : KeepsMarked old.party.me old (after_call old) given heap next state state
    gone_keeps =
        keeps_renamed old names given heap next state (Unnamed here) call.Unname destroys.unnamed holds destroys.zones
        (ap (λ (d : DirectoryView). d.log) destroys.directory) sound (ap (λ (d : DirectoryView). d.sockets) destroys.directory)
        (called_alike old heap next state holds.holds call.Unname gives.Done destroys.unnamed order
        (unnamed_pages old heap next state holds.holds destroys.unnamed) (unnamed_chunks old heap next state holds.holds destroys.unnamed)
        refl refl holds.was holds.taken)
        (other_agrees here names given holds.agrees.namings holds.agrees.claims holds.agrees.agreed few (naming_of next.plain) gone_other)

    pub gone_does : DoesNamedHeld old.party.me old (after_call old) names given heap next state state
        (destroying here heap.plain) (Doing.Ended answer.Done)
    unfolding Leads Goes
    gone_does =
        subst (λ (b : Bool). DoesNamedHeld old.party.me old (after_call old) names given heap next state state
        (cond b (changing (OfHeaps (Unnamed here)) (calling here call.Unname (Doing.Ended answer.Done)))
        (Doing.Ended (answer.BusyChunks (min (length heap.plain.chunks) (2 ^ 32 - 1))))) (Doing.Ended answer.Done))
        (sym (eq-eqb (length heap.plain.chunks) 0 destroys.empty))
        (does_renamed old names given heap next state (Unnamed here) call.Unname destroys.unnamed holds destroys.zones
        (ap (λ (d : DirectoryView). d.log) destroys.directory)
        (changing (OfHeaps (Unnamed here)) (calling here call.Unname (Doing.Ended answer.Done))) (Doing.Ended answer.Done)
        (tt, refl, (gives.Done, refl, refl)))
