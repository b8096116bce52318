-- What the lines on external heaps did that make no step in a hall: they make a heap, destroy one, or leave a chunk, or are refused.
use Rattle.std.proofs.Common.{◌-◌, ◌^◌, ◌∙◌, ◌≡◌, Bool, Err, IfErr, IfOk, List, None, OnErr, OnOk, Option, Result, Some, [], ap, append-nil, arith, cond, inl, inr, length, min, ne_eqb, refl, subst, sym, ℕ, Ok}
use Rattle.hp_base.specs.declared.chunk.Chunk.{Chunk}
use Rattle.hp_base.specs.declared.pool_line.PoolLine.{PoolLine}
use Rattle.hp_external.specs.Attaching.{IsDetachFault}
use Rattle.hp_external.specs.Creating.{IsCreateFault, IsDestroyFault, IsPlaceFor}
use Rattle.hp_external.specs.declared.fault.CreateFault.TheVariants as create
use Rattle.hp_external.specs.declared.fault.CreateFault.{CreateFault}
use Rattle.hp_external.specs.declared.fault.DestroyFault.TheVariants as destroy
use Rattle.hp_external.specs.declared.fault.DestroyFault.{DestroyFault}
use Rattle.hp_external.specs.declared.fault.DetachFault.TheVariants as detach
use Rattle.hp_external.specs.declared.fault.DetachFault.{DetachFault}
use Rattle.hp_external.specs.declared.fault.NameFault.TheVariants as name
use Rattle.hp_hall.proofs.HallStates.{did_same, others_same, slots_same}
use Rattle.hp_hall.proofs.NamesLeft.{call_leaves}
use Rattle.hp_hall.specs.HallState.{Did, HallState}
use Rattle.hp_hall.specs.Values.{IsSoundKept}
use Rattle.hp_hall.specs.declared.kept.Kept.TheVariants.{Names}
use Rattle.hp_heap.specs.ChunkOrder.{AreInOrder}
use Rattle.hp_heap.specs.Chunks.{chunk_at}
use Rattle.hp_heap.specs.History.{HeapView}
use Rattle.hp_heap.specs.declared.entry.HeapAnswer.TheVariants as gives
use Rattle.hp_heap.specs.declared.entry.HeapCall.TheVariants as call
use Rattle.hp_proc.proofs.ExternalMeant.{no_fault, not_missing, not_socket}
use Rattle.hp_proc.proofs.HandFacts.HandCalls.{call_index, call_serves}
use Rattle.hp_proc.proofs.HandFacts.HandDone.{does_looked}
use Rattle.hp_proc.proofs.HandFacts.HandNamed.{agrees_then, known_claims, still_agreed}
use Rattle.hp_proc.proofs.Joining.{context_still}
use Rattle.hp_proc.proofs.LeastData.{data_agree}
use Rattle.hp_proc.proofs.LeftHere.{left_does, left_holds, left_pools, left_same}
use Rattle.hp_proc.proofs.MadeHere.{gone_does, gone_keeps, made_does, made_keeps}
use Rattle.hp_proc.specs.Acting.{Acts, AreAsked}
use Rattle.hp_proc.specs.Contexts.{Context}
use Rattle.hp_proc.specs.Doing.{Doing, Goes, Leads}
use Rattle.hp_proc.specs.ExternalAnswers.{IsMadeSaid, IsMeant, IsNamedHeap, destroy_said, detach_said, left_said}
use Rattle.hp_proc.specs.ExternalLines.{calling, changing, destroying, leaving_chunk, leaving_unless, lowest_data, making}
use Rattle.hp_proc.specs.Halting.{ActsOn}
use Rattle.hp_proc.specs.Heaps.{sockets_of}
use Rattle.hp_proc.specs.HeldLines.{DestroysHeap, DetachesNoted, MakesHeap}
use Rattle.hp_proc.specs.LeavesChunks.{LeavesNoted}
use Rattle.hp_proc.specs.MarksInHand.{HoldsNamedMarked, KeepsMarked, NotesLeft}
use Rattle.hp_proc.specs.NamesInHand.{DoesNamedHeld, HaltsNamedHeld, StandsStill}
use Rattle.hp_proc.specs.ParticipantView.{ParticipantView, after_call}
use Rattle.hp_proc.specs.Progress.{caller_of, with_hand}
use Rattle.hp_proc.specs.SharedNames.NamesChange.{OfHeaps}
use Rattle.hp_proc.specs.declared.own_chunk.OwnChunk.{OwnChunk}
use Rattle.hp_script.specs.declared.answer.Answer.TheVariants as answer
use Rattle.hp_script.specs.declared.answer.Answer.{Answer}
use Rattle.hp_serve.proofs.Carrying.{same_party}
use Rattle.hp_zone.specs.declared.name_change.NameChange.TheVariants.{Unnamed}
use Rattle.hp_zone.specs.declared.names.Names.{Names as NamesView}

module _ (old new : ParticipantView) (names given : NamesView) (heap next : HeapView) (state : HallState)
    (holds : HoldsNamedMarked old.party.me old names heap state) (order : AreInOrder heap.plain.chunks) where
  abbrev me : ℕ
  me = old.party.me

  abbrev at : ℕ
  at = heap.plain.index

  abbrev Does : Doing → Doing → Type 0
  Does doing rest = DoesNamedHeld me old new names given heap next state state doing rest

  abbrev Halts : Doing → Type 0
  Halts doing = HaltsNamedHeld me old new names given heap next state state doing

  abbrev Keeps : Type 0
  Keeps = KeepsMarked me old new given heap next state state

  -- what a line leaves: it was done to its answer, or stopped, and the heap is in hand still
  pub record Leaves (doing : Doing) {E : Type 0} (result : Result Answer E) : Type 0 where
    pub does : IfOk result (λ given. Does doing (Doing.Ended given))
    pub halts : OnErr result (Halts doing)
    pub keeps : Keeps

  -- NOTHING CHANGED

  module _ (still : StandsStill old new names given heap next) where
    alike : (P : ParticipantView → NamesView → HeapView → Type 0) → P old names heap → P new given next
    alike P was =
        subst (λ (d : ParticipantView). P d given next) (sym still.doer)
        (subst (λ (n : NamesView). P old n next) (sym still.names) (subst (P old names) (sym still.heap_is) was))

    pub still_keeps : Keeps
    still_keeps =
        alike (λ (d : ParticipantView) (n : NamesView) (h : HeapView). KeepsMarked me old d n heap h state state)
        (record {
          holds = holds;
          index = refl;
          its_socket = refl;
          same = same_party old.party;
          pools = refl;
          slots = slots_same state;
          others = others_same me state;
        })

    pub still_does : (doing : Doing) → Does doing doing
    unfolding AreAsked Leads
    still_does doing =
        alike (λ (d : ParticipantView) (n : NamesView) (h : HeapView). DoesNamedHeld me old d names n heap h state state doing doing)
        (record {
          does = does_looked old old heap (state.part me) (state.part me) (state.seen me) (state.heard me) (state.seen me) (state.heard me)
              state.count (λ steps. Did me steps state state) doing doing [] [] refl (did_same me state) (Acts.nothing (Some at) old)
              (λ index. refl) (λ index. refl) (same_party old.party) refl [] (sym (append-nil (state.seen me))) []
              (sym (append-nil (state.heard me))) refl (context_still old.context old.context refl);
          names = record { changed = refl; unread = refl; untold = tt };
        })

    pub still_halts : (doing : Doing) → Halts doing
    unfolding Leads
    still_halts doing =
        alike (λ (d : ParticipantView) (n : NamesView) (h : HeapView). HaltsNamedHeld me old d names n heap h state state doing)
        (record {
          halts = record {
            rest = doing;
            trace = [];
            steps = [];
            held = [];
            others = [];
            front = refl;
            leads = refl;
            made = did_same me state;
            acts = ActsOn.acts (Some at) (Some at) [] old old [] [] (Acts.nothing (Some at) old);
            entries = λ index. sym (append-nil (with_hand me heap (state.part me) index).entries);
            counted = context_still old.context old.context refl;
            same = same_party old.party;
          };
          names = record { changed = refl; unread = refl; untold = tt };
        })

    pub still_ended : (answered : Answer) → Leaves (Doing.Ended answered) {E = Unit} (Ok answered)
    still_ended answered = record { does = still_does (Doing.Ended answered); halts = tt; keeps = still_keeps }

  -- A HEAP IS MADE

  module _ (text : List ℕ) (sound : IsSoundKept (Names given)) where
    by_after : (P : ParticipantView → Type 0) → new ≡ after_call old → P (after_call old) → P new
    by_after P counted was = subst P (sym counted) was

    module _ {E : Type 0} where
      pub made_arm : (judged : Result ℕ CreateFault) (result : Result Answer E) → IsMadeSaid judged result
          → IfOk judged (MakesHeap text old new names given heap next) → IfErr judged (IsCreateFault names.heaps.plain text)
          → OnErr judged (StandsStill old new names given heap next) → IsPlaceFor names.heaps.plain text at
          → Leaves (making text names.heaps.plain.next (Some at)) result
      made_arm (Ok socket) (Ok said) is made fault still place =
          let one : MakesHeap text old (after_call old) names given heap next socket =
          subst (λ (d : ParticipantView). MakesHeap text old d names given heap next socket) made.counted made in
          record {
            does = subst (λ (a : Answer). Does (making text names.heaps.plain.next (Some at)) (Doing.Ended a)) (sym is)
                (by_after (λ (d : ParticipantView). DoesNamedHeld me old d names given heap next state state
                (making text names.heaps.plain.next (Some at)) (Doing.Ended (answer.Socket socket))) made.counted
                (made_does old names given heap next state text holds order sound socket one));
            halts = tt;
            keeps = by_after (λ (d : ParticipantView). KeepsMarked me old d given heap next state state) made.counted
                (made_keeps old names given heap next state text holds order sound socket one);
          }
      made_arm (Ok socket) (Err error) is made fault still place = absurd is
      made_arm (Err create.BadName) result is made fault still place = absurd (fault place.name)
      made_arm (Err create.Exists) result is made fault still place = absurd (fault.1 place.fresh)
      made_arm (Err (create.NoSpace limit)) result is made fault still place = absurd (fault.2 place.place)
      made_arm (Err create.OutOfMemory) (Ok said) is made fault still place = absurd is
      made_arm (Err create.OutOfMemory) (Err error) is made fault still place = record {
        does = tt;
        halts = still_halts still (making text names.heaps.plain.next (Some at));
        keeps = still_keeps still;
      }

    -- ONE IS DESTROYED

    pub record Ends (doing : Doing) (said : Answer) : Type 0 where
      pub does : Does doing (Doing.Ended said)
      pub keeps : Keeps

    pub destroyed_arm : (judged : Result Unit DestroyFault) → OnOk judged (DestroysHeap text old new names given heap next)
        → IfErr judged (IsDestroyFault names.heaps.plain text heap.plain) → OnErr judged (StandsStill old new names given heap next)
        → IsNamedHeap names.heaps.plain text at → Ends (destroying at heap.plain) (destroy_said judged)
    destroyed_arm (Ok done) gone fault still named =
        let one : DestroysHeap text old (after_call old) names given heap next =
        subst (λ (d : ParticipantView). DestroysHeap text old d names given heap next) gone.counted gone in
        record {
          does = by_after (λ (d : ParticipantView). DoesNamedHeld me old d names given heap next state state (destroying at heap.plain)
              (Doing.Ended answer.Done)) gone.counted (gone_does old names given heap next state text holds order sound one);
          keeps = by_after (λ (d : ParticipantView). KeepsMarked me old d given heap next state state) gone.counted
              (gone_keeps old names given heap next state text holds order sound one);
        }
    destroyed_arm (Err destroy.BadName) gone fault still named = absurd (no_fault names.heaps.plain text at name.BadName named fault)
    destroyed_arm (Err destroy.NotFound) gone fault still named = absurd (no_fault names.heaps.plain text at name.NotFound named fault)
    destroyed_arm (Err destroy.SocketHeap) gone fault still named = absurd (no_fault names.heaps.plain text at name.SocketHeap named fault)
    destroyed_arm (Err (destroy.Busy chunks)) gone fault still named = record {
      does = subst (λ (b : Bool). Does (cond b (changing (OfHeaps (Unnamed at)) (calling at call.Unname (Doing.Ended answer.Done)))
          (Doing.Ended (answer.BusyChunks (min (length heap.plain.chunks) (2 ^ 32 - 1))))) (Doing.Ended (answer.BusyChunks chunks)))
          (sym (ne_eqb (length heap.plain.chunks) 0 (λ empty. omega (arith, empty, fault.2))))
          (subst (λ (n : ℕ). Does (Doing.Ended (answer.BusyChunks (min (length heap.plain.chunks) (2 ^ 32 - 1)))) (Doing.Ended (answer.BusyChunks n)))
          (sym fault.3) (still_does still (Doing.Ended (answer.BusyChunks (min (length heap.plain.chunks) (2 ^ 32 - 1))))));
      keeps = still_keeps still;
    }

-- A CHUNK IS LEFT

module _ (old new : ParticipantView) (names : NamesView) (heap next : HeapView) (state : HallState)
    (holds : HoldsNamedMarked old.party.me old names heap state) (order : AreInOrder heap.plain.chunks) (text : List ℕ) (addr len : ℕ) where
  abbrev here : ℕ
  here = heap.plain.index

  abbrev note : OwnChunk
  note = record { heap = here; addr = addr; len = len }

  abbrev tree : Option Chunk → Doing
  tree found = leaving_chunk old.party.me here addr len heap.plain found

  left_note : DetachesNoted text note old new names.heaps.plain heap next → LeavesNoted note old new heap next
  left_note gone = record {
    its = refl;
    order = order;
    leaves = record {
      chunk = gone.detaches.chunk;
      there = gone.detaches.named.there;
      rows = gone.detaches.rows;
      answers = gone.detaches.answers;
      faults = gone.detaches.faults;
      others = gone.detaches.others;
      unshared = gone.detaches.unshared;
    };
    mark = gone.detaches.marked;
    noted = gone.noted;
  }

  keeps_left : (gone : DetachesNoted text note old new names.heaps.plain heap next) → KeepsMarked old.party.me old new names heap next state state
  unfolding left_note
  keeps_left gone =
      let left = left_note gone in
      let index = call_index (caller_of old) (call.Unshare addr len) gives.Done heap next gone.detaches.unshared in
      let same =
      (call_leaves (caller_of old) (call.Unshare addr len) gives.Done heap next gone.detaches.unshared holds.holds.in_hand.sound.tiled tt).naming in
      record {
        holds = record {
          holds = left_holds old new heap next note left order gone.detaches.marked state holds.holds;
          told = holds.told;
          was = holds.was;
          taken = holds.taken;
          sound = holds.sound;
          goes_on = holds.goes_on;
          agrees = agrees_then heap (state.part old.party.me) names holds.agrees holds.holds.in_hand.few next (state.part old.party.me) names
              holds.agrees.claims index (λ k. refl) (known_claims heap (state.part old.party.me) names holds.agrees holds.holds.in_hand.few)
              (still_agreed heap (state.part old.party.me) names holds.agrees holds.holds.in_hand.few next same);
          sockets = holds.sockets
              ∙ ap (λ (l : List PoolLine). sockets_of l) (sym (left_pools old new heap next note left order gone.detaches.marked));
        };
        index = index;
        its_socket = call_serves (caller_of old) (call.Unshare addr len) gives.Done heap next gone.detaches.unshared;
        same = left_same old new heap next note left order gone.detaches.marked;
        pools = left_pools old new heap next note left order gone.detaches.marked;
        slots = slots_same state;
        others = others_same old.party.me state;
      }

  does_left : (gone : DetachesNoted text note old new names.heaps.plain heap next)
      → DoesNamedHeld old.party.me old new names names heap next state state (tree (chunk_at addr len heap.plain)) (Doing.Ended answer.Done)
  unfolding Leads Goes left_note
  does_left gone =
      let chunk = gone.detaches.chunk in
      subst (λ (found : Option Chunk). DoesNamedHeld old.party.me old new names names heap next state state (tree found) (Doing.Ended answer.Done))
      (sym gone.detaches.named.there)
      (subst (λ (b : Bool). DoesNamedHeld old.party.me old new names names heap next state state
      (cond b (leaving_unless here addr len (lowest_data (Some old.party.me) chunk heap.plain)) (Doing.Ended answer.NotAttached)) (Doing.Ended answer.Done))
      (sym gone.detaches.marked)
      (subst (λ (lowest : Option ℕ). DoesNamedHeld old.party.me old new names names heap next state state (leaving_unless here addr len lowest)
      (Doing.Ended answer.Done)) (sym ((data_agree (Some old.party.me) chunk heap.plain).none gone.detaches.unused))
      (left_does old new heap next note (left_note gone) order gone.detaches.marked names state (leaving_unless here addr len None)
      (Doing.Ended answer.Done) (gives.Done, refl, refl))))

  -- how it is refused
  refused_tree : (fault : DetachFault) → IsMeant names.heaps.plain text here → IsDetachFault old.party.me names.heaps.plain text addr len heap.plain fault
      → tree (chunk_at addr len heap.plain) ≡ Doing.Ended (detach_said fault)
  refused_tree detach.NotFound meant fault = absurd (not_missing names.heaps.plain text here meant.socket meant.named fault)
  refused_tree detach.NoChunk meant (inl socket) = absurd (not_socket names.heaps.plain text here meant.socket meant.named socket)
  refused_tree detach.NoChunk meant (inr missing) = ap tree missing.missing
  refused_tree detach.NotAttached meant fault =
      ap tree fault.named.there
      ∙ ap (λ (b : Bool). cond b (leaving_unless here addr len (lowest_data (Some old.party.me) fault.chunk heap.plain)) (Doing.Ended answer.NotAttached)) fault.so
  refused_tree (detach.InUse place) meant fault =
      ap tree fault.named.there
      ∙ (ap (λ (b : Bool). cond b (leaving_unless here addr len (lowest_data (Some old.party.me) fault.chunk heap.plain)) (Doing.Ended answer.NotAttached))
      fault.so.0
      ∙ ap (leaving_unless here addr len) ((data_agree (Some old.party.me) fault.chunk heap.plain).lowest place fault.so.1))

  pub left_arm : (judged : Result Unit DetachFault) → OnOk judged (DetachesNoted text note old new names.heaps.plain heap next)
      → IfErr judged (IsDetachFault old.party.me names.heaps.plain text addr len heap.plain)
      → OnErr judged (StandsStill old new names names heap next) → IsMeant names.heaps.plain text here
      → Ends old new names names heap next state holds order text holds.sound (tree (chunk_at addr len heap.plain)) (left_said judged)
  left_arm (Ok done) gone fault still meant = record { does = does_left gone; keeps = keeps_left gone }
  left_arm (Err fault) gone why still meant = record {
    does = subst (λ (doing : Doing). DoesNamedHeld old.party.me old new names names heap next state state doing (Doing.Ended (detach_said fault)))
        (sym (refused_tree fault meant why))
        (still_does old new names names heap next state holds order still (Doing.Ended (detach_said fault)));
    keeps = still_keeps old new names names heap next state holds order still;
  }

-- WHAT IT NOTES

module _ (text : List ℕ) (old new : ParticipantView) (names given : NamesView) (heap next : HeapView) where
  still_notes : StandsStill old new names given heap next → new.context.standing ≡ old.context.standing
  still_notes still = ap (λ (d : ParticipantView). d.context.standing) still.doer

  pub made_notes : (judged : Result ℕ CreateFault) → IfOk judged (MakesHeap text old new names given heap next)
      → OnErr judged (StandsStill old new names given heap next) → new.context.standing ≡ old.context.standing
  made_notes (Ok socket) made still = ap (λ (d : ParticipantView). d.context.standing) made.counted
  made_notes (Err fault) made still = still_notes still

  pub gone_notes : (judged : Result Unit DestroyFault) → OnOk judged (DestroysHeap text old new names given heap next)
      → OnErr judged (StandsStill old new names given heap next) → new.context.standing ≡ old.context.standing
  gone_notes (Ok done) gone still = ap (λ (d : ParticipantView). d.context.standing) gone.counted
  gone_notes (Err fault) gone still = still_notes still

refused_left : (note : OwnChunk) (fault : DetachFault) (old new : Context) → new.standing ≡ old.standing → NotesLeft (detach_said fault) note old new
refused_left note detach.NotFound old new same = same
refused_left note detach.NoChunk old new same = same
refused_left note detach.NotAttached old new same = same
refused_left note (detach.InUse place) old new same = same

pub left_notes : (text : List ℕ) (note : OwnChunk) (old new : ParticipantView) (names : NamesView) (heap next : HeapView)
    (judged : Result Unit DetachFault) → OnOk judged (DetachesNoted text note old new names.heaps.plain heap next)
    → OnErr judged (StandsStill old new names names heap next) → NotesLeft (left_said judged) note old.context new.context
left_notes text note old new names heap next (Ok done) gone still = ap (λ (d : ParticipantView). d.context.standing) gone.noted
left_notes text note old new names heap next (Err fault) gone still =
    refused_left note fault old.context new.context (ap (λ (d : ParticipantView). d.context.standing) still.doer)

pub ok_any : {T E : Type 0} (result : Result T E) (P : T → Type 0) → ((value : T) → P value) → IfOk result P
ok_any (Ok value) P all = all value
ok_any (Err error) P all = tt
