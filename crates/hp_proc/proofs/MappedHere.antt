-- A chunk of the heap in hand that is mapped and marked, or is not, while the segment value is in hand too.
use Rattle.std.proofs.Common.{◌++◌, ◌<◌, ◌^◌, ◌∙◌, ◌∷◌, ◌≡◌, ◌≢◌, ◌≤◌, Bool, Contains, List, Option, Some, [], ap, cond, eqb, false, inl, inr, refl, subst, sym, true, ℕ}
use Rattle.hp_base.specs.Flags.{has_bit}
use Rattle.hp_base.specs.Mapping.{AreApart, is_done}
use Rattle.hp_base.specs.declared.caught.Caught.TheVariants as caught
use Rattle.hp_base.specs.declared.caught.Caught.{Caught}
use Rattle.hp_base.specs.declared.chunk.Chunk.{Chunk}
use Rattle.hp_base.specs.declared.limits.TheConstants.{MAX_HEAPS, MAX_SEGMENTS}
use Rattle.hp_base.specs.declared.pool_line.PoolLine.{PoolLine}
use Rattle.hp_base.specs.declared.row.Row.{Row}
use Rattle.hp_events.specs.declared.validator.Validator.{Validator}
use Rattle.hp_external.proofs.ChunkLemmas.{among_chunks}
use Rattle.hp_external.specs.Attaching.{Attaches, IsAttachFault, IsFailedCall, IsMapFault, MayAttach, SameButRows}
use Rattle.hp_external.specs.Naming.{IsNamedChunk}
use Rattle.hp_external.specs.declared.fault.AttachFault.TheVariants as attach
use Rattle.hp_external.specs.declared.fault.AttachFault.{AttachFault}
use Rattle.hp_hall.proofs.HallStates.{others_same, slots_same}
use Rattle.hp_hall.proofs.NamesLeft.{call_leaves}
use Rattle.hp_hall.specs.AgreedNames.{AreAgreedNames}
use Rattle.hp_hall.specs.HallState.{Did, HallState}
use Rattle.hp_hall.specs.Mail.{MailStep}
use Rattle.hp_hall.specs.Naming.{marked_by, naming_of}
use Rattle.hp_hall.specs.Own.{Own}
use Rattle.hp_heap.specs.ChunkOrder.{AreInOrder}
use Rattle.hp_heap.specs.Chunks.{chunk_at}
use Rattle.hp_heap.specs.History.{HeapView}
use Rattle.hp_heap.specs.declared.entry.HeapAnswer.TheVariants as gives
use Rattle.hp_heap.specs.declared.entry.HeapCall.TheVariants as call
use Rattle.hp_log.specs.declared.log_record.LogRecord.{LogRecord}
use Rattle.hp_maps.specs.Chunks.{rows_of_chunk}
use Rattle.hp_maps.specs.MapsView.{MapsView, calls_of, chunk_rows, table_in}
use Rattle.hp_proc.proofs.AddedHere.{distinct_here, holds_back, holds_given, looked_does, looked_keeps, ranges_here, standing_here}
use Rattle.hp_proc.proofs.AgreedLater.{renamed}
use Rattle.hp_proc.proofs.ExternalMeant.{not_missing, not_socket}
use Rattle.hp_proc.proofs.HandFacts.HandAttaches.{attaches_hold}
use Rattle.hp_proc.proofs.HandFacts.HandCalls.{call_index, call_serves}
use Rattle.hp_proc.proofs.HandFacts.HandDone.{does_looked, does_made}
use Rattle.hp_proc.proofs.HandFacts.HandExternal.{hand_as}
use Rattle.hp_proc.proofs.HandFacts.HandNamed.{still_agreed}
use Rattle.hp_proc.proofs.HandFacts.HandTraded.{parts_alike, traded, traded_did}
use Rattle.hp_proc.proofs.Joining.{context_still}
use Rattle.hp_proc.proofs.MarksApart.{marks_apart}
use Rattle.hp_proc.proofs.MayAttachHere.{may_attach_here}
use Rattle.hp_proc.specs.Acting.{Acts, AreAsked}
use Rattle.hp_proc.specs.Contexts.{Context, after_calls, with_chunks}
use Rattle.hp_proc.specs.Doing.Done.{Called, ChunkMapped}
use Rattle.hp_proc.specs.Doing.{Deed, Doing, Done, Goes, Leads}
use Rattle.hp_proc.specs.ExternalAnswers.{IsMeant, attach_said}
use Rattle.hp_proc.specs.ExternalLines.{chunk_mapped, mapping}
use Rattle.hp_proc.specs.Heaps.{sockets_of}
use Rattle.hp_proc.specs.HeldLines.{AttachesNoted}
use Rattle.hp_proc.specs.HeldMarks.{HoldsMarked, marked_with}
use Rattle.hp_proc.specs.MappedChunks.{MapsChunk}
use Rattle.hp_proc.specs.MarksInHand.{HoldsNamedMarked, KeepsMarked, NotesMapped}
use Rattle.hp_proc.specs.NamesInHand.{DoesNamedHeld}
use Rattle.hp_proc.specs.OwnChunks.{chunks_of, with_own_chunk}
use Rattle.hp_proc.specs.ParticipantView.{ParticipantView, after_call, noting_chunks, participant_of, with_party}
use Rattle.hp_proc.specs.Progress.{caller_of}
use Rattle.hp_proc.specs.declared.own_chunk.OwnChunk.{OwnChunk}
use Rattle.hp_script.specs.declared.answer.Answer.TheVariants as answer
use Rattle.hp_script.specs.declared.answer.Answer.{Answer}
use Rattle.hp_segs.specs.LogPlaces.{LogIsPlaced, RangesAreOutside, SlotsAreFew}
use Rattle.hp_segs.specs.SegsView.{SegsView}
use Rattle.hp_serve.proofs.Carrying.{same_party}
use Rattle.hp_serve.proofs.SegmentSlots.{Took}
use Rattle.hp_serve.specs.Party.{IsSameParty, Party, with_maps}
use Rattle.hp_serve.specs.SegmentSlot.{PutsBack, StaysButParts}
use Rattle.hp_serve.specs.Serving.{gives_segments, takes_segments}
use Rattle.hp_serve.specs.Tied.{HasChunks, IsTied}
use Rattle.hp_zone.specs.Directory.{PlainDirectory}
use Rattle.hp_zone.specs.declared.names.Names.{Names as NamesView}

-- a table with the same rows is tied as before, whatever calls its mapper made
tied_maps : (log : List LogRecord) (own : Own) (marked : ℕ → List Chunk) (joined : Bool) (maps later : MapsView) → later.rows ≡ maps.rows
    → SameButRows maps later → IsTied log own marked joined maps → IsTied log own marked joined later
tied_maps log own marked joined maps later rows others tied = record {
  within = tied.within;
  table = record {
    number = others.number ∙ tied.table.number;
    rows = ap table_in rows ∙ tied.table.rows;
    behind = tied.table.behind;
    seen = tied.table.seen;
    chunks = subst (λ (r : List Row). HasChunks marked (chunk_rows r)) (sym rows) tied.table.chunks;
    room = subst (λ (n : ℕ). MAX_SEGMENTS ≤ n) (sym others.capacity) tied.table.room;
  };
}

module _ (old new : ParticipantView) (names : NamesView) (heap next : HeapView) (taken : SegsView) (text : List ℕ) (addr len : ℕ) {a b c : HallState}
    (took : Took old.party.me taken a b) (holds : HoldsNamedMarked old.party.me old names heap a) (order : AreInOrder heap.plain.chunks)
    (put : PutsBack old.party.me taken b c) where
  abbrev me : ℕ
  me = old.party.me

  abbrev at : ℕ
  at = heap.plain.index

  abbrev few : at < MAX_HEAPS
  few = holds.holds.in_hand.few

  abbrev note : OwnChunk
  note = record { heap = at; addr = addr; len = len }

  abbrev steps : List MailStep
  steps = takes_segments taken ∷ (gives_segments taken ∷ [])

  abbrev mid : ParticipantView
  mid = with_party (with_maps new.party.maps old.party) old

  marked_c : HoldsMarked me old heap c
  marked_c = (holds_back old names heap taken took holds taken.ranges put.back refl).holds

  stays : StaysButParts me a c
  stays = traded me taken taken.ranges took put.back

  entries_are : (index : ℕ) → (c.part me index).entries ≡ (a.part me index).entries
  entries_are index = (parts_alike me taken taken.ranges took put.back index).entries

  serves_are : (index : ℕ) → (c.part me index).serves ≡ (a.part me index).serves
  serves_are index = (parts_alike me taken taken.ranges took put.back index).serves

  -- IT IS ATTACHED

  module _ (attached : old.context.standing.attached ≡ true) (got : AttachesNoted text note old new names.heaps.plain heap next) where
    abbrev chunk : Chunk
    chunk = got.attaches.chunk

    party_is : new.party ≡ with_maps new.party.maps old.party
    party_is = ap (λ (d : ParticipantView). d.party) got.noted

    context_is : new.context ≡ with_chunks (with_own_chunk note old.context.standing.chunks) (after_calls 1 old.context)
    context_is = ap (λ (d : ParticipantView). d.context) got.noted

    same : IsSameParty old.party new.party
    same = record {
      me = ap (λ (p : Party). p.me) party_is;
      socket = ap (λ (p : Party). p.socket) party_is;
      plan = ap (λ (p : Party). p.plan) party_is;
      deadline = ap (λ (p : Party). p.deadline) party_is;
    }

    pools : new.context.pools ≡ old.context.pools
    pools = ap (λ (k : Context). k.pools) context_is

    apart : (index : ℕ) (one : Chunk) → index < MAX_HEAPS → Contains (marked_with me heap c index) one → one.list ≢ chunk.list
    apart index one below has =
        marks_apart me a taken names heap chunk (standing_here old names heap taken took holds) holds.agrees
        (distinct_here old names heap taken took holds) few holds.holds.in_hand.sound.tiled
        (among_chunks heap.plain addr len chunk got.attaches.named.there) got.attaches.unmarked index one below
        (subst (λ (l : List Chunk). Contains l one)
        (ap (λ (l : List Chunk). cond (eqb index at) (marked_by me heap.plain) l) (parts_alike me taken taken.ranges took put.back index).marked) has)

    marked_next : HoldsMarked me new next c
    marked_next =
        attaches_hold old new heap next names.heaps.plain text addr len got.attaches order
        (sym holds.holds.tied.same ∙ (holds.holds.attached ∙ attached)) same (ap (λ (p : Party). p.joined) party_is)
        (ap (λ (k : Context). k.calls) context_is) pools (ap (λ (k : Context). k.standing.attached) context_is)
        (ap (λ (k : Context). k.standing.chunks) context_is) c marked_c apart

    pub mapped_keeps : KeepsMarked me old new names heap next a c
    mapped_keeps =
        let index = call_index (caller_of old) (call.Share addr len) gives.Done heap next got.attaches.shared in
        let naming =
        (call_leaves (caller_of old) (call.Share addr len) gives.Done heap next got.attaches.shared holds.holds.in_hand.sound.tiled tt).naming in
        record {
          holds = holds_given old names heap taken took holds taken.ranges put.back new names next (sym same.me) index marked_next holds.sound holds.goes_on
              (subst (AreAgreedNames names (renamed at (naming_of next.plain) holds.agrees.namings)) (sym (ranges_here old names heap taken took holds))
              (still_agreed heap (a.part me) names holds.agrees few next naming))
              (holds.sockets ∙ ap (λ (l : List PoolLine). sockets_of l) (sym pools));
          index = index;
          its_socket = call_serves (caller_of old) (call.Share addr len) gives.Done heap next got.attaches.shared;
          same = same;
          pools = pools;
          slots = stays.slots;
          others = stays.others;
        }

    abbrev mapped_trace : List Done
    mapped_trace = ChunkMapped chunk caught.Done ∷ (Called at (call.Share addr len) gives.Done ∷ [])

    mapped_acts : Acts a.count (Some at) (Some at) [] old new mapped_trace steps
    mapped_acts =
        Acts.and_then (Some at) (Some at) (Some at) [] [] old old new [] mapped_trace steps [] (Acts.looks_at_segs old at taken)
        (Acts.and_then (Some at) (Some at) (Some at) [] [] old mid new (ChunkMapped chunk caught.Done ∷ []) (Called at (call.Share addr len) gives.Done ∷ [])
        [] []
        (Acts.maps_chunk old at chunk new.party.maps caught.Done
        (record { rows = got.attaches.rows; answered = got.attaches.answered; reason = tt; others = got.attaches.others }))
        (subst (λ (d : ParticipantView). Acts a.count (Some at) (Some at) [] mid d (Called at (call.Share addr len) gives.Done ∷ []) []) (sym got.noted)
        (Acts.shares mid at note refl)))

    tree_is : mapping me at addr len (chunk_at addr len heap.plain) ≡ Doing.Then (Deed.MapChunk chunk) (chunk_mapped at addr len)
    tree_is =
        ap (mapping me at addr len) got.attaches.named.there
        ∙ ap (λ (b : Bool). cond b (Doing.Ended answer.Already) (Doing.Then (Deed.MapChunk chunk) (chunk_mapped at addr len))) got.attaches.unmarked

    does_mapped : DoesNamedHeld me old new names names heap next a c (Doing.Then (Deed.MapChunk chunk) (chunk_mapped at addr len)) (Doing.Ended answer.Done)
    unfolding AreAsked Leads Goes
    does_mapped =
        let seen = stays.others.later.seen me in
        let heard = stays.others.later.heard me in
        record {
          does = does_made old new heap (a.part me) (c.part me) (a.seen me) (a.heard me) (c.seen me) (c.heard me) a.count (λ made. Did me made a c)
              (Doing.Then (Deed.MapChunk chunk) (chunk_mapped at addr len)) (Doing.Ended answer.Done) mapped_trace steps
              (caught.Done, refl, (gives.Done, refl, refl)) (traded_did me taken taken.ranges took put.back) mapped_acts entries_are serves_are same
              (ap (λ (p : Party). p.asked) party_is) seen.0 seen.1 heard.0 heard.1 next (call.Share addr len) gives.Done got.attaches.shared refl
              (subst (λ (k : Context). k ≡ record (after_calls 1 old.context) { standing = k.standing }) (sym context_is) refl);
          names = record { changed = refl; unread = refl; untold = (tt, (tt, tt)) };
        }

    pub mapped_does : DoesNamedHeld me old new names names heap next a c (mapping me at addr len (chunk_at addr len heap.plain)) (Doing.Ended answer.Done)
    mapped_does =
        subst (λ (doing : Doing). DoesNamedHeld me old new names names heap next a c doing (Doing.Ended answer.Done)) (sym tree_is) does_mapped

-- IT MAY BE

pub may_attach_then : (old : ParticipantView) (names : NamesView) (heap : HeapView) (taken : SegsView) {a b : HallState}
    → Took old.party.me taken a b → HoldsNamedMarked old.party.me old names heap a → LogIsPlaced → RangesAreOutside → SlotsAreFew
    → AreApart old.party.maps.rows → calls_of old.party.maps ≤ 2 ^ 63 → (addr len : ℕ) → MayAttach old.party.me addr len heap.plain old.party.maps
may_attach_then old names heap taken {a} {b} took holds placed outside few apart calls addr len =
    let grown = took.others.later.seen old.party.me in
    may_attach_here old.party.me old names heap a taken took.took.sound placed outside few apart (standing_here old names heap taken took holds) grown.0
    (took.took.log ∙ grown.1) holds calls addr len

-- it attached the chunk, counted its call, and noted the chunk
pub attaches_noted : (text : List ℕ) (addr len : ℕ) (old mid new : ParticipantView) (plain : PlainDirectory) (heap next : HeapView)
    → mid ≡ with_party (with_maps mid.party.maps old.party) old
    → Attaches (caller_of old) plain text addr len heap next old.party.maps mid.party.maps
    → new ≡ noting_chunks (with_own_chunk (record { heap = heap.plain.index; addr = addr; len = len }) old.context.standing.chunks) (after_call mid)
    → AttachesNoted text (record { heap = heap.plain.index; addr = addr; len = len }) old new plain heap next
attaches_noted text addr len old mid new plain heap next only attaches noted =
    let kept = with_own_chunk (record { heap = heap.plain.index; addr = addr; len = len }) old.context.standing.chunks in
    let is = noted ∙ ap (λ (d : ParticipantView). noting_chunks kept (after_call d)) only in
    let maps : mid.party.maps ≡ new.party.maps = sym (ap (λ (d : ParticipantView). d.party.maps) is) in
    record {
      its = refl;
      attaches = subst (λ (m : MapsView). Attaches (caller_of old) plain text addr len heap next old.party.maps m) maps attaches;
      noted = is ∙ ap (λ (m : MapsView). noting_chunks kept (after_call (with_party (with_maps m old.party) old))) maps;
    }

-- it noted the chunk
pub notes_chunk : {party : Party} {validators : List (Validator Bool)} {context noted : Context} {counted : ParticipantView}
    (mid old : ParticipantView) (first : Context) {items : List OwnChunk} {index : ℕ} (at addr len : ℕ)
    → participant_of party validators context ≡ counted → counted ≡ after_call mid → noted ≡ with_chunks items context
    → items ≡ with_own_chunk (record { heap = index; addr = addr; len = len }) first.standing.chunks
    → first.standing.chunks ≡ old.context.standing.chunks → index ≡ at
    → participant_of party validators noted
    ≡ noting_chunks (with_own_chunk (record { heap = at; addr = addr; len = len }) old.context.standing.chunks) (after_call mid)
notes_chunk {party} {validators} {context} {noted} {counted} mid old first {items} {index} at addr len view counts notes are was same =
    let kept : items ≡ with_own_chunk (record { heap = at; addr = addr; len = len }) old.context.standing.chunks =
    are ∙ ap (λ (heap : ℕ). with_own_chunk (record { heap = heap; addr = addr; len = len }) first.standing.chunks) same
    ∙ ap (λ (chunks : List OwnChunk). with_own_chunk (record { heap = at; addr = addr; len = len }) chunks) was in
    ap (participant_of party validators) notes ∙ ap (noting_chunks items) (view ∙ counts)
    ∙ ap (λ (chunks : List OwnChunk). noting_chunks chunks (after_call mid)) kept

pub noted_mapped : (note : OwnChunk) (old mid new : ParticipantView) (maps : MapsView) → mid ≡ with_party (with_maps maps old.party) old
    → new ≡ noting_chunks (with_own_chunk note old.context.standing.chunks) (after_call mid) → NotesMapped answer.Done note old.context new.context
noted_mapped note old mid new maps only noted =
    ap (λ (d : ParticipantView). d.context.standing) noted
    ∙ ap (λ (d : ParticipantView). record d.context.standing { chunks = with_own_chunk note old.context.standing.chunks }) only

pub refused_notes : (note : OwnChunk) (fault : AttachFault) (old new : Context) → new.standing ≡ old.standing
    → NotesMapped (attach_said fault) note old new
refused_notes note attach.NotFound old new same = same
refused_notes note attach.NoChunk old new same = same
refused_notes note attach.Already old new same = same
refused_notes note (attach.MapRefused number) old new same = same

-- nothing was done
pub nothing_keeps : (old : ParticipantView) (names : NamesView) (heap : HeapView) (state : HallState)
    → HoldsNamedMarked old.party.me old names heap state → KeepsMarked old.party.me old old names heap heap state state
nothing_keeps old names heap state holds = record {
  holds = holds;
  index = refl;
  its_socket = refl;
  same = same_party old.party;
  pools = refl;
  slots = slots_same state;
  others = others_same old.party.me state;
}

-- IT IS NOT

module _ (old new : ParticipantView) (names : NamesView) (heap : HeapView) (taken : SegsView) (text : List ℕ) (addr len : ℕ) {a b c : HallState}
    (took : Took old.party.me taken a b) (holds : HoldsNamedMarked old.party.me old names heap a) (put : PutsBack old.party.me taken b c)
    (only : new ≡ with_party (with_maps new.party.maps old.party) old) (meant : IsMeant names.heaps.plain text heap.plain.index) where
  abbrev who : ℕ
  who = old.party.me

  abbrev here : ℕ
  here = heap.plain.index

  abbrev tree : Option Chunk → Doing
  tree found = mapping who here addr len found

  pub record Refuses (said : Answer) : Type 0 where
    pub does : DoesNamedHeld who old new names names heap heap a c (tree (chunk_at addr len heap.plain)) (Doing.Ended said)
    pub keeps : KeepsMarked who old new names heap heap a c

  -- nothing was mapped
  unmapped : (said : Answer) → new.party.maps ≡ old.party.maps → tree (chunk_at addr len heap.plain) ≡ Doing.Ended said → Refuses said
  unmapped said same ended =
      subst (λ (d : ParticipantView). (DoesNamedHeld who old d names names heap heap a c (tree (chunk_at addr len heap.plain)) (Doing.Ended said))
      × KeepsMarked who old d names heap heap a c → Refuses said) only (λ both. record { does = both.0; keeps = both.1 })
      (subst (λ (m : MapsView). (DoesNamedHeld who old (with_party (with_maps m old.party) old) names names heap heap a c
      (tree (chunk_at addr len heap.plain)) (Doing.Ended said)) × KeepsMarked who old (with_party (with_maps m old.party) old) names heap heap a c)
      (sym same) (
        subst (λ (doing : Doing). DoesNamedHeld who old old names names heap heap a c doing (Doing.Ended said)) (sym ended)
            (looked_does old names heap taken text addr len 0 took holds put (Doing.Ended said)),
        looked_keeps old names heap taken text addr len 0 took holds put,
      ))

  -- its mapper failed
  module _ (chunk : Chunk) (named : IsNamedChunk names.heaps.plain text heap.plain addr len chunk) (unmarked_is : has_bit chunk.attached who ≡ false)
      (number : ℕ) (fault : IsMapFault chunk number old.party.maps new.party.maps) where
    party_failed : new.party ≡ with_maps new.party.maps old.party
    party_failed = ap (λ (d : ParticipantView). d.party) only

    context_failed : new.context ≡ old.context
    context_failed = ap (λ (d : ParticipantView). d.context) only

    same_failed : IsSameParty old.party new.party
    same_failed = record {
      me = ap (λ (p : Party). p.me) party_failed;
      socket = ap (λ (p : Party). p.socket) party_failed;
      plan = ap (λ (p : Party). p.plan) party_failed;
      deadline = ap (λ (p : Party). p.deadline) party_failed;
    }

    failed_is : (ended : Caught) → IsFailedCall number ended → is_done ended ≡ false
    failed_is caught.Done failed = absurd failed
    failed_is (caught.Refused row call) failed = refl
    failed_is (caught.Elsewhere row call got) failed = refl

    failed_ends : (ended : Caught) → IsFailedCall number ended → chunk_mapped here addr len ended ≡ Doing.Ended (answer.Refused number)
    failed_ends caught.Done failed = absurd failed
    failed_ends (caught.Refused row call) failed = ap (λ (n : ℕ). Doing.Ended (answer.Refused n)) failed
    failed_ends (caught.Elsewhere row call got) failed = ap (λ (n : ℕ). Doing.Ended (answer.Refused n)) failed

    maps_chunk : MapsChunk chunk old.party.maps new.party.maps fault.ended
    maps_chunk = record {
      rows = fault.rows
          ∙ sym (ap (λ (b : Bool). cond b (old.party.maps.rows ++ rows_of_chunk chunk) old.party.maps.rows) (failed_is fault.ended fault.failed));
      answered = fault.answered;
      reason = fault.reason;
      others = fault.others;
    }

    failed_holds : HoldsMarked who new heap c
    failed_holds =
        let was = (holds_back old names heap taken took holds taken.ranges put.back refl).holds in
        record {
          may = was.may;
          tied = record {
            table = subst (λ (b : Bool). IsTied (c.seen who) (c.own who) (marked_with who heap c) b new.party.maps) (sym (ap (λ (p : Party). p.joined) party_failed))
                (tied_maps (c.seen who) (c.own who) (marked_with who heap c) old.party.joined old.party.maps new.party.maps fault.rows fault.others was.tied.table);
            same = was.tied.same ∙ sym (ap (λ (p : Party). p.joined) party_failed);
            left = λ out index. was.tied.left (sym (ap (λ (p : Party). p.joined) party_failed) ∙ out) index;
          };
          chunks = λ index.
              was.chunks index ∙ ap (λ (k : Context). chunks_of index k.standing.chunks) (sym context_failed);
          in_hand = hand_as old new (c.part who) (c.seen who) (c.heard who) c.taken heap same_failed.me (ap (λ (k : Context). k.calls) context_failed)
              (ap (λ (k : Context). k.pools) context_failed) was.in_hand;
          settled = was.settled;
          attached = was.attached ∙ ap (λ (k : Context). k.standing.attached) (sym context_failed);
          named = was.named ∙ ap (λ (k : Context). sockets_of k.pools) (sym context_failed);
          mapped = was.mapped;
        }

    failed_keeps : KeepsMarked who old new names heap heap a c
    failed_keeps = record {
      holds = holds_given old names heap taken took holds taken.ranges put.back new names heap (sym same_failed.me) refl failed_holds holds.sound holds.goes_on
          (subst (AreAgreedNames names (renamed here (naming_of heap.plain) holds.agrees.namings)) (sym (ranges_here old names heap taken took holds))
          (still_agreed heap (a.part who) names holds.agrees holds.holds.in_hand.few heap refl))
          (holds.sockets ∙ ap (λ (k : Context). sockets_of k.pools) (sym context_failed));
      index = refl;
      its_socket = refl;
      same = same_failed;
      pools = ap (λ (k : Context). k.pools) context_failed;
      slots = (traded who taken taken.ranges took put.back).slots;
      others = (traded who taken taken.ranges took put.back).others;
    }

    failed_acts : Acts a.count (Some here) (Some here) [] old new (ChunkMapped chunk fault.ended ∷ []) (takes_segments taken ∷ (gives_segments taken ∷ []))
    failed_acts =
        subst (λ (d : ParticipantView). Acts a.count (Some here) (Some here) [] old d (ChunkMapped chunk fault.ended ∷ [])
        (takes_segments taken ∷ (gives_segments taken ∷ []))) (sym only)
        (Acts.and_then (Some here) (Some here) (Some here) [] [] old old (with_party (with_maps new.party.maps old.party) old) []
        (ChunkMapped chunk fault.ended ∷ []) (takes_segments taken ∷ (gives_segments taken ∷ [])) [] (Acts.looks_at_segs old here taken)
        (Acts.maps_chunk old here chunk new.party.maps fault.ended maps_chunk))

    failed_does : DoesNamedHeld who old new names names heap heap a c (Doing.Then (Deed.MapChunk chunk) (chunk_mapped here addr len))
        (Doing.Ended (answer.Refused number))
    unfolding AreAsked Leads Goes
    failed_does =
        let stays = traded who taken taken.ranges took put.back in
        let seen = stays.others.later.seen who in
        let heard = stays.others.later.heard who in
        record {
          does = does_looked old new heap (a.part who) (c.part who) (a.seen who) (a.heard who) (c.seen who) (c.heard who) a.count (λ made. Did who made a c)
              (Doing.Then (Deed.MapChunk chunk) (chunk_mapped here addr len)) (Doing.Ended (answer.Refused number)) (ChunkMapped chunk fault.ended ∷ [])
              (takes_segments taken ∷ (gives_segments taken ∷ [])) (fault.ended, refl, sym (failed_ends fault.ended fault.failed))
              (traded_did who taken taken.ranges took put.back) failed_acts
              (λ index. (parts_alike who taken taken.ranges took put.back index).entries)
              (λ index. (parts_alike who taken taken.ranges took put.back index).serves) same_failed (ap (λ (p : Party). p.asked) party_failed)
              seen.0 seen.1 heard.0 heard.1 refl (context_still old.context new.context context_failed);
          names = record { changed = refl; unread = refl; untold = (tt, tt) };
        }

    failed : Refuses (answer.Refused number)
    failed = record {
      does = subst (λ (doing : Doing). DoesNamedHeld who old new names names heap heap a c doing (Doing.Ended (answer.Refused number)))
          (sym (ap tree named.there
          ∙ ap (λ (b : Bool). cond b (Doing.Ended answer.Already) (Doing.Then (Deed.MapChunk chunk) (chunk_mapped here addr len))) unmarked_is))
          failed_does;
      keeps = failed_keeps;
    }

  pub map_refused : (fault : AttachFault) → IsAttachFault who names.heaps.plain text addr len heap.plain old.party.maps new.party.maps fault
      → Refuses (attach_said fault)
  map_refused attach.NotFound why = absurd (not_missing names.heaps.plain text here meant.socket meant.named why.0)
  map_refused attach.NoChunk (inl socket, same) = absurd (not_socket names.heaps.plain text here meant.socket meant.named socket)
  map_refused attach.NoChunk (inr missing, same) = unmapped answer.NoChunk same (ap tree missing.missing)
  map_refused attach.Already why =
      unmapped answer.Already why.1
      (ap tree why.0.named.there
      ∙ ap (λ (b : Bool). cond b (Doing.Ended answer.Already) (Doing.Then (Deed.MapChunk why.0.chunk) (chunk_mapped here addr len))) why.0.so)
  map_refused (attach.MapRefused number) why = failed why.chunk why.named why.so.0 number why.so.1
