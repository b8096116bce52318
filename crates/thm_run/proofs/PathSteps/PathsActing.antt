-- What a participant does of its line is a path.
use Rattle.std.proofs.Common.{◌≡◌, ◌≢◌, ◌∙◌, ℕ, ◌<◌, ◌≤◌, false, List, [], ◌∷◌, ◌++◌, Option, append-nil, append_assoc, length, None, Result, Ok, refl, ap, sym, subst, arith}
use Rattle.hp_base.specs.declared.caught.Caught.{Caught}
use Rattle.hp_base.specs.declared.chunk.Chunk.{Chunk}
use Rattle.hp_base.specs.declared.row.Run.{Run}
use Rattle.hp_base.specs.Telling.{Listener}
use Rattle.hp_hall.specs.Mail.{Gives, MailStep, Notes, Takes}
use Rattle.hp_hall.specs.HeapPairs.{pair_of}
use Rattle.hp_hall.specs.declared.note.Note.TheVariants.{Emptied, LoadedDone, Published, ReadStats}
use Rattle.hp_hall.specs.declared.kept.Kept.TheVariants.{Heap, Names}
use Rattle.hp_hall.specs.declared.slot.TheConstants.{NAMES_SLOT}
use Rattle.hp_heap.specs.History.{HeapView}
use Rattle.hp_heap.specs.declared.entry.HeapAnswer.TheVariants as gives
use Rattle.hp_heap.specs.declared.entry.HeapCall.{HeapCall}
use Rattle.hp_heap.specs.declared.entry.HeapCall.TheVariants as call
use Rattle.hp_maps.specs.Events.{IsToldByAddress}
use Rattle.hp_maps.specs.MapsView.{MapsView, chunk_rows}
use Rattle.hp_script.specs.declared.answer.Answer.{Answer}
use Rattle.hp_script.specs.declared.line.Act.{Act}
use Rattle.hp_segs.specs.LaterSteps.{after_leave}
use Rattle.hp_segs.specs.Ranges.{after_claim_range, after_release_range, range_plan}
use Rattle.hp_segs.specs.SegsView.{SegsView}
use Rattle.hp_segs.specs.Steps.{after_retire}
use Rattle.hp_segs.specs.declared.external_range.ExternalRange.{ExternalRange}
use Rattle.hp_segs.specs.declared.fault.RangeFault.{RangeFault}
use Rattle.hp_proc.specs.Acting.{Acts}
use Rattle.hp_serve.specs.Attaching.{Attaches, after_attaching, after_detaching}
use Rattle.hp_proc.specs.Courses.{Standing, numbered_in, standing_tried}
use Rattle.hp_proc.specs.Doing.{Done}
use Rattle.hp_proc.specs.Doing.Done.{Called, CaughtUp, ChunkMapped, HeapSeen, Looked, NamesChanged, NamesRead, RangePlanned, StatsRead}
use Rattle.hp_proc.specs.Handing.{counted_in, shared_of}
use Rattle.hp_proc.specs.MappedChunks.{LeavesChunk, MapsChunk}
use Rattle.hp_proc.specs.OwnChunks.{own_chunk, with_own_chunk, without_own_chunk}
use Rattle.hp_proc.specs.SharedNames.{NamesChange}
use Rattle.hp_proc.specs.SharedNames.NamesChange.{OfHeaps}
use Rattle.hp_serve.specs.Party.{Party, with_maps}
use Rattle.hp_proc.specs.ParticipantView.{ParticipantView, after_call, after_registering, noting_chunks, watched_after, with_party, with_standing}
use Rattle.hp_proc.specs.Registering.{validators_after, watchers_after}
use Rattle.hp_proc.specs.declared.own_chunk.OwnChunk.{OwnChunk}
use Rattle.hp_proc.specs.declared.own_element.OwnElement.{OwnElement}
use Rattle.hp_serve.specs.Serving.{acks_after, gives_segments, takes_segments}
use Rattle.hp_stats.specs.StatViews.{PenView}
use Rattle.hp_stats.specs.declared.stat_pair.StatPair.{StatPair}
use Rattle.hp_zone.specs.declared.name_change.NameChange.TheVariants.{Range, RangeGone}
use Rattle.hp_zone.specs.declared.names.Names.{Names as NamesView}
use Rattle.thm_run.specs.Seats.{EndedLine, Handles, Mails, MovesRanges, SeatTrace, Quietly, Seat, ending_line, leaving, line_ended, with_ranges}
use Rattle.thm_run.proofs.PathSteps.Paths.{Comes, comes_at, held_notes, noted_of, path_by, path_handle, path_quiet, path_quietly, path_then, serves_same}
use Rattle.thm_run.proofs.PathSteps.PathsAsking.{Acted, acted_by, ask_path, longest, notice_path}
use Rattle.thm_run.proofs.PathSteps.PathsWaiting.{turn_path}

-- a participant sits there with what its lines left
abbrev pub seated_as : ParticipantView → Seat → Seat
seated_as doer seat = record seat { party = doer.party; standing = doer.context.standing }

-- its line as it ends, with that trace of all its lines
abbrev pub ended_after : ParticipantView → Act → Answer → List Done → EndedLine
ended_after mid deed given trace =
    record { deed = deed; given = given; records = mid.context.standing.records; numbered = length (numbered_in trace) }

-- it comes from one to the other with that more in its trace: its number and its deadline stay, and no line ended
pub record ActedAs (count who : ℕ) (doer after : ParticipantView) (more : List Done) (steps : List MailStep) (seat : Seat) : Type 0 where
  pub behind : Seat
  pub me : after.party.me ≡ doer.party.me
  pub deadline : after.party.deadline ≡ doer.party.deadline
  pub lines : behind.lines ≡ seat.lines
  pub trace : behind.trace ≡ seat.trace ++ more
  pub path : SeatTrace count who (seated_as doer seat) (seated_as after behind) steps

module _ (count who : ℕ) where
  -- it did nothing but what leaves what its lines left
  acted_as : (doer : ParticipantView) (after : Party) (more : List Done) (steps : List MailStep) (seat : Seat)
      → Acted count who doer.party after more steps (leaving doer.context.standing seat)
      → ActedAs count who doer (with_party after doer) more steps seat
  acted_as doer after more steps seat acted = record {
    behind = acted.behind;
    me = acted.me;
    deadline = acted.deadline;
    lines = acted.lines;
    trace = acted.trace;
    path = subst (λ (left : Standing). SeatTrace count who (seated_as doer seat) (record acted.behind { party = after; standing = left }) steps)
        acted.standing acted.path;
  }

  -- one after the other
  acted_on : (doer mid after : ParticipantView) (more rest : List Done) (first last : List MailStep) (seat : Seat)
      (here : ActedAs count who doer mid more first seat) → ActedAs count who mid after rest last here.behind
      → ActedAs count who doer after (more ++ rest) (first ++ last) seat
  acted_on doer mid after more rest first last seat here next = record {
    behind = next.behind;
    me = next.me ∙ here.me;
    deadline = next.deadline ∙ here.deadline;
    lines = next.lines ∙ here.lines;
    trace = next.trace ∙ ap (λ (trace : List Done). trace ++ rest) here.trace ∙ append_assoc seat.trace more rest;
    path = path_then count who (seated_as doer seat) (seated_as mid here.behind) (seated_as after next.behind) first last here.path next.path;
  }

  -- it took a heap, or gave one back
  heap_acted : (doer : ParticipantView) (steps : List MailStep) (seat : Seat)
      → SeatTrace count who (seated_as doer seat) (seated_as doer seat) steps → ActedAs count who doer doer [] steps seat
  heap_acted doer steps seat path =
      record { behind = seat; me = refl; deadline = refl; lines = refl; trace = sym (append-nil seat.trace); path = path }

  -- it noted where elements lie
  notes_acted : (doer : ParticipantView) (elements : List OwnElement) (seat : Seat)
      → ActedAs count who doer (with_standing (record doer.context.standing { elements = elements }) doer) [] [] seat
  notes_acted doer elements seat =
      let noted : ParticipantView = with_standing (record doer.context.standing { elements = elements }) doer in
      record {
        behind = seat;
        me = refl;
        deadline = refl;
        lines = refl;
        trace = sym (append-nil seat.trace);
        path = path_quiet count who (seated_as doer seat) (seated_as noted seat) (Quietly.notes (seated_as doer seat) elements doer.context.standing.chunks);
      }

  -- it read the names, or the newest statistics of a heap
  names_acted : (doer : ParticipantView) (names : NamesView) (seat : Seat)
      → ActedAs count who doer doer (NamesRead (shared_of names) ∷ [])
      (Takes NAMES_SLOT (Names names) ∷ Gives NAMES_SLOT (Names names) ∷ []) seat
  names_acted doer names seat =
      let behind : Seat = record seat { trace = seat.trace ++ NamesRead (shared_of names) ∷ [] } in
      record {
        behind = behind;
        me = refl;
        deadline = refl;
        lines = refl;
        trace = refl;
        path = SeatTrace.holds (seated_as doer seat) (seated_as doer behind) (Takes NAMES_SLOT (Names names)) (Gives NAMES_SLOT (Names names) ∷ []) tt
            (SeatTrace.holds (seated_as doer seat) (seated_as doer behind) (Gives NAMES_SLOT (Names names)) [] tt
            (path_quiet count who (seated_as doer seat) (seated_as doer behind)
            (Quietly.reads_names (seated_as doer seat) (shared_of names))));
      }

  stats_acted : (doer : ParticipantView) (heap : ℕ) (pair : StatPair) (seat : Seat)
      → ActedAs count who doer doer (StatsRead heap (counted_in pair) ∷ []) (Notes (ReadStats heap pair) ∷ []) seat
  stats_acted doer heap pair seat =
      let behind : Seat = record seat { trace = seat.trace ++ StatsRead heap (counted_in pair) ∷ [] } in
      record {
        behind = behind;
        me = refl;
        deadline = refl;
        lines = refl;
        trace = refl;
        path = SeatTrace.mails (seated_as doer seat) (seated_as doer seat) (seated_as doer behind) (Notes (ReadStats heap pair)) []
            (Mails.notes (seated_as doer seat) (ReadStats heap pair))
            (path_quiet count who (seated_as doer seat) (seated_as doer behind)
            (Quietly.reads_stats (seated_as doer seat) heap (counted_in pair)));
      }

  -- it had the names in hand while it did something
  names_held : (doer after : ParticipantView) (taken given : NamesView) (more : List Done) (steps : List MailStep) (seat : Seat)
      → ActedAs count who doer after more steps (record seat { trace = seat.trace ++ NamesRead (shared_of taken) ∷ [] })
      → ActedAs count who doer after (NamesRead (shared_of taken) ∷ more)
      (Takes NAMES_SLOT (Names taken) ∷ (steps ++ Gives NAMES_SLOT (Names given) ∷ [])) seat
  names_held doer after taken given more steps seat acted =
      let read : Seat = record seat { trace = seat.trace ++ NamesRead (shared_of taken) ∷ [] } in
      let last : Seat = seated_as after acted.behind in
      let gives_back : List MailStep = Gives NAMES_SLOT (Names given) ∷ [] in
      record {
        behind = acted.behind;
        me = acted.me;
        deadline = acted.deadline;
        lines = acted.lines;
        trace = acted.trace ∙ append_assoc seat.trace (NamesRead (shared_of taken) ∷ []) more;
        path = SeatTrace.holds (seated_as doer seat) last (Takes NAMES_SLOT (Names taken)) (steps ++ gives_back) tt
            (SeatTrace.quietly (seated_as doer seat) (seated_as doer read) last (steps ++ gives_back)
            (Quietly.reads_names (seated_as doer seat) (shared_of taken))
            (path_then count who (seated_as doer read) last last steps gives_back acted.path
            (SeatTrace.holds last last (Gives NAMES_SLOT (Names given)) [] tt (SeatTrace.ends last))));
      }

  changes_acted : (doer : ParticipantView) (change : NamesChange) (seat : Seat) → ActedAs count who doer doer (NamesChanged change ∷ []) [] seat
  changes_acted doer change seat =
      let behind : Seat = record seat { trace = seat.trace ++ NamesChanged change ∷ [] } in
      record {
        behind = behind;
        me = refl;
        deadline = refl;
        lines = refl;
        trace = refl;
        path = path_quiet count who (seated_as doer seat) (seated_as doer behind) (Quietly.changes_names (seated_as doer seat) change);
      }

  -- it took an external heap, and was handed its state
  sees_acted : (doer : ParticipantView) (heap : HeapView) (pen : PenView) (seat : Seat)
      → ActedAs count who doer doer (HeapSeen heap.plain.index heap.history ∷ []) (Takes heap.plain.index (Heap heap pen) ∷ []) seat
  sees_acted doer heap pen seat =
      let behind : Seat = record seat { trace = seat.trace ++ HeapSeen heap.plain.index heap.history ∷ [] } in
      record {
        behind = behind;
        me = refl;
        deadline = refl;
        lines = refl;
        trace = refl;
        path = SeatTrace.holds (seated_as doer seat) (seated_as doer behind) (Takes heap.plain.index (Heap heap pen)) [] tt
            (path_quiet count who (seated_as doer seat) (seated_as doer behind)
            (Quietly.sees_heap (seated_as doer seat) heap.plain.index heap.history));
      }

  -- it was handed the plan of the segment value for memory
  plans_acted : (doer : ParticipantView) (addr len page : ℕ) (plan : Result ℕ RangeFault) (more : List Done) (after : ParticipantView)
      (steps : List MailStep) (seat : Seat)
      → ActedAs count who doer after more steps (record seat { trace = seat.trace ++ RangePlanned addr len page plan ∷ [] })
      → ActedAs count who doer after (RangePlanned addr len page plan ∷ more) steps seat
  plans_acted doer addr len page plan more after steps seat acted =
      let planned : Seat = record seat { trace = seat.trace ++ RangePlanned addr len page plan ∷ [] } in
      record {
        behind = acted.behind;
        me = acted.me;
        deadline = acted.deadline;
        lines = acted.lines;
        trace = acted.trace ∙ append_assoc seat.trace (RangePlanned addr len page plan ∷ []) more;
        path = SeatTrace.quietly (seated_as doer seat) (seated_as doer planned) (seated_as after acted.behind) steps
            (Quietly.plans_range (seated_as doer seat) addr len page plan) acted.path;
      }

  -- external memory came or went, which the names and a call of the heap say
  ranges_acted : (doer : ParticipantView) (change : NamesChange) (heap : ℕ) (call : HeapCall) (taken : SegsView) (ranges : List ExternalRange)
      → MovesRanges taken ranges → (seat : Seat)
      → ActedAs count who doer (after_call doer) (NamesChanged change ∷ Called heap call gives.Done ∷ [])
      (takes_segments taken ∷ gives_segments (with_ranges ranges taken) ∷ []) seat
  ranges_acted doer change heap call taken ranges moves seat =
      let changed : Seat = record seat { trace = seat.trace ++ NamesChanged change ∷ [] } in
      let behind : Seat = record seat { trace = (seat.trace ++ NamesChanged change ∷ []) ++ Called heap call gives.Done ∷ [] } in
      let steps : List MailStep = takes_segments taken ∷ gives_segments (with_ranges ranges taken) ∷ [] in
      record {
        behind = behind;
        me = refl;
        deadline = refl;
        lines = refl;
        trace = append_assoc seat.trace (NamesChanged change ∷ []) (Called heap call gives.Done ∷ []);
        path = SeatTrace.quietly (seated_as doer seat) (seated_as doer changed) (seated_as (after_call doer) behind) steps
            (Quietly.changes_names (seated_as doer seat) change)
            (SeatTrace.quietly (seated_as doer changed) (seated_as (after_call doer) behind) (seated_as (after_call doer) behind) steps
            (Quietly.calls (seated_as doer changed) heap call gives.Done refl)
            (path_handle count who (seated_as (after_call doer) behind) (seated_as (after_call doer) behind) taken (with_ranges ranges taken)
            (Handles.moves_ranges (seated_as (after_call doer) behind) taken ranges moves)));
      }

  maps_acted : (doer : ParticipantView) (chunk : Chunk) (after : MapsView) (ended : Caught) → MapsChunk chunk doer.party.maps after ended
      → (seat : Seat) → ActedAs count who doer (with_party (with_maps after doer.party) doer) (ChunkMapped chunk ended ∷ []) [] seat
  maps_acted doer chunk after ended is seat =
      let behind : Seat = record seat { trace = seat.trace ++ ChunkMapped chunk ended ∷ [] } in
      record {
        behind = behind;
        me = refl;
        deadline = refl;
        lines = refl;
        trace = refl;
        path = path_quiet count who (seated_as doer seat) (seated_as (with_party (with_maps after doer.party) doer) behind)
            (Quietly.maps_chunk (seated_as doer seat) chunk after ended is);
      }

  -- it set its mark on a chunk, and noted that
  shares_acted : (doer : ParticipantView) (heap : ℕ) (chunk : OwnChunk) (seat : Seat)
      → ActedAs count who doer (noting_chunks (with_own_chunk chunk doer.context.standing.chunks) (after_call doer))
      (Called heap (call.Share chunk.addr chunk.len) gives.Done ∷ []) [] seat
  shares_acted doer heap chunk seat =
      let behind : Seat = record seat { trace = seat.trace ++ Called heap (call.Share chunk.addr chunk.len) gives.Done ∷ [] } in
      let noted : ParticipantView = noting_chunks (with_own_chunk chunk doer.context.standing.chunks) (after_call doer) in
      record {
        behind = behind;
        me = refl;
        deadline = refl;
        lines = refl;
        trace = refl;
        path = SeatTrace.quietly (seated_as doer seat) (seated_as doer behind) (seated_as noted behind) []
            (Quietly.calls (seated_as doer seat) heap (call.Share chunk.addr chunk.len) gives.Done refl)
            (path_quiet count who (seated_as doer behind) (seated_as noted behind)
            (Quietly.notes (seated_as doer behind) doer.context.standing.elements (with_own_chunk chunk doer.context.standing.chunks)));
      }

  -- it took its mark from a chunk, with the rows, and noted that
  leaves_acted : (doer : ParticipantView) (heap : ℕ) (chunk : Chunk) (after : MapsView) → LeavesChunk chunk doer.party.maps after → (seat : Seat)
      → ActedAs count who doer
      (noting_chunks (without_own_chunk (own_chunk heap chunk) doer.context.standing.chunks)
      (after_call (with_party (with_maps after doer.party) doer)))
      (Called heap (call.Unshare chunk.addr chunk.len) gives.Done ∷ []) [] seat
  leaves_acted doer heap chunk after is seat =
      let behind : Seat = record seat { trace = seat.trace ++ Called heap (call.Unshare chunk.addr chunk.len) gives.Done ∷ [] } in
      let left : ParticipantView = with_party (with_maps after doer.party) doer in
      let chunks : List OwnChunk = without_own_chunk (own_chunk heap chunk) doer.context.standing.chunks in
      let noted : ParticipantView = noting_chunks chunks (after_call left) in
      record {
        behind = behind;
        me = refl;
        deadline = refl;
        lines = refl;
        trace = refl;
        path = SeatTrace.quietly (seated_as doer seat) (seated_as doer behind) (seated_as noted behind) []
            (Quietly.calls (seated_as doer seat) heap (call.Unshare chunk.addr chunk.len) gives.Done refl)
            (SeatTrace.quietly (seated_as doer behind) (seated_as left behind) (seated_as noted behind) []
            (Quietly.leaves_chunk (seated_as doer behind) chunk after is)
            (path_quiet count who (seated_as left behind) (seated_as noted behind)
            (Quietly.notes (seated_as left behind) doer.context.standing.elements chunks)));
      }

  cuts_acted : (doer : ParticipantView) (heap addr : ℕ) (run : Run) (taken : SegsView) (seat : Seat)
      → ActedAs count who doer (after_call doer) (Called heap (call.Cut addr) (gives.Pages run) ∷ [])
      (takes_segments taken ∷ gives_segments (after_retire heap run taken) ∷ []) seat
  cuts_acted doer heap addr run taken seat =
      let behind : Seat = record seat { trace = seat.trace ++ Called heap (call.Cut addr) (gives.Pages run) ∷ [] } in
      record {
        behind = behind;
        me = refl;
        deadline = refl;
        lines = refl;
        trace = refl;
        path = path_handle count who (seated_as doer seat) (seated_as (after_call doer) behind) taken (after_retire heap run taken)
            (Handles.cuts (seated_as doer seat) taken heap addr run);
      }

  attaches_acted : (doer : ParticipantView) (after : Party) (taken : SegsView) (caught : Caught) → doer.party.me ≡ who
      → Attaches doer.party after taken.log caught → (seat : Seat)
      → ActedAs count who doer (with_standing (standing_tried (length taken.log) caught doer.context.standing) (with_party after doer))
      (Looked (length taken.log) ∷ CaughtUp (length taken.log) caught ∷ [])
      (takes_segments taken ∷ (acks_after caught (length taken.log) ++ (gives_segments (after_attaching doer.party.me caught taken) ∷ [])))
      seat
  attaches_acted doer after taken caught me attaches seat =
      let records : ℕ = length taken.log in
      let held = noted_of caught records ++ [] in
      let more : List Done = Looked (length taken.log) ∷ CaughtUp (length taken.log) caught ∷ [] in
      let noted : ParticipantView =
      with_standing (standing_tried (length taken.log) caught doer.context.standing) (with_party after doer) in
      let behind : Seat = record seat { trace = seat.trace ++ more } in
      record {
        behind = behind;
        me = ap (λ (one : Party). one.me) attaches.after_is;
        deadline = ap (λ (one : Party). one.deadline) attaches.after_is;
        lines = refl;
        trace = refl;
        path = path_by count who (seated_as doer seat) (seated_as noted behind) _ _
            (ap
            (λ (n : ℕ). takes_segments taken ∷ (acks_after caught records ++ (gives_segments (after_attaching n caught taken) ∷ []))) me
            ∙ ap (λ (more : List MailStep). takes_segments taken ∷ more) (held_notes caught records [] _))
            (SeatTrace.handles (seated_as doer seat) (seated_as noted behind) (seated_as noted behind) taken (after_attaching who caught taken) held
            [] (Handles.attaches (seated_as doer seat) taken caught after attaches) (SeatTrace.ends (seated_as noted behind)));
      }

  no_primary : (party : Party) → party.me ≡ who → 0 < party.me → who ≢ 0
  no_primary party me above is = omega (arith, me, above, is)

  detaches_acted : (doer : ParticipantView) (taken : SegsView) (told : List Listener) → doer.party.me ≡ who → 0 < doer.party.me
      → chunk_rows doer.party.maps.rows ≡ [] → IsToldByAddress doer.party.maps.rows doer.party.listeners told → (seat : Seat)
      → ActedAs count who doer
      (with_standing (record doer.context.standing { attached = false }) (with_party (after_detaching told doer.party) doer)) []
      (takes_segments taken ∷ Notes Emptied ∷ gives_segments (after_leave doer.party.me taken) ∷ []) seat
  detaches_acted doer taken told me above none heard seat =
      let out : ParticipantView =
      with_standing (record doer.context.standing { attached = false }) (with_party (after_detaching told doer.party) doer) in
      record {
        behind = seat;
        me = refl;
        deadline = refl;
        lines = refl;
        trace = sym (append-nil seat.trace);
        path = path_by count who (seated_as doer seat) (seated_as out seat) _ _
            (ap (λ (n : ℕ). takes_segments taken ∷ Notes Emptied ∷ gives_segments (after_leave n taken) ∷ []) me)
            (SeatTrace.handles (seated_as doer seat) (seated_as out seat) (seated_as out seat) taken (after_leave who taken) (Emptied ∷ []) []
            (Handles.detaches (seated_as doer seat) taken told (no_primary doer.party me above) none heard) (SeatTrace.ends (seated_as out seat)));
      }

  pub acting_path : (hand last : Option ℕ) (held : List ℕ) (doer after : ParticipantView) (trace : List Done) (steps : List MailStep)
      → Acts count hand last held doer after trace steps
      → doer.party.me ≡ who → doer.party.deadline ≤ longest → (seat : Seat) → ActedAs count who doer after trace steps seat
  acting_path _ _ _ _ _ _ _ (Acts.nothing hand doer) me long seat =
      acted_as doer doer.party [] [] seat
      (acted_by count who doer.party doer.party [] _ (serves_same count who doer.party (leaving doer.context.standing seat)))
  acting_path _ _ _ _ _ _ _ (Acts.waits_turn until doer after moved steps turned) me long seat =
      acted_as doer after [] steps seat
      (acted_by count who doer.party after steps _
      (turn_path count who doer.context.standing until doer.party after steps moved turned me (leaving doer.context.standing seat) refl))
  acting_path _ _ _ _ _ _ _ (Acts.takes_heap doer heap pen few) me long seat =
      heap_acted doer _ seat (SeatTrace.holds (seated_as doer seat) (seated_as doer seat) _ [] tt (SeatTrace.ends (seated_as doer seat)))
  acting_path _ _ _ _ _ _ _ (Acts.gives_heap doer heap pen) me long seat =
      let here : Seat = seated_as doer seat in
      heap_acted doer _ seat
      (SeatTrace.mails here here here _ _ (Mails.notes here (Published heap.plain.index (pair_of heap)))
      (SeatTrace.holds here here _ [] tt (SeatTrace.ends here)))
  acting_path _ _ _ _ _ _ _ (Acts.makes_call doer heap called answer uncut) me long seat =
      let behind : Seat = record seat { trace = seat.trace ++ Called heap called answer ∷ [] } in
      record {
        behind = behind;
        me = refl;
        deadline = refl;
        lines = refl;
        trace = refl;
        path = path_quiet count who (seated_as doer seat) (seated_as (after_call doer) behind)
            (Quietly.calls (seated_as doer seat) heap called answer uncut);
      }
  acting_path _ _ _ _ _ _ _ (Acts.cuts_run doer heap addr run taken) me long seat = cuts_acted doer heap addr run taken seat
  acting_path _ _ _ _ _ _ _ (Acts.asks_pages doer after asked run steps does) me long seat =
      acted_as doer after _ steps seat
      (ask_path count who doer.context.standing doer.party after asked run steps me long does (leaving doer.context.standing seat) refl)
  acting_path _ _ _ _ _ _ _ (Acts.notifies_run doer after heap run steps does) me long seat =
      acted_as doer after _ steps seat
      (notice_path count who doer.context.standing doer.party after heap run steps me does (leaving doer.context.standing seat) refl)
  acting_path _ _ _ _ _ _ _ (Acts.attaches doer after taken caught attaches) me long seat =
      attaches_acted doer after taken caught me attaches seat
  acting_path _ _ _ _ _ _ _ (Acts.detaches doer taken told above left none heard) me long seat =
      detaches_acted doer taken told me above none heard seat
  acting_path _ _ _ _ _ _ _ (Acts.notes_left doer elements) me long seat = notes_acted doer elements seat
  acting_path _ _ _ _ _ _ _ (Acts.reads_names doer names) me long seat = names_acted doer names seat
  acting_path _ _ _ _ _ _ _ (Acts.changes_names hand doer change) me long seat = changes_acted doer change seat
  acting_path _ _ _ _ _ _ _ (Acts.holds_names held doer after taken given trace steps inner changes) me long seat =
      names_held doer after taken given trace steps seat
      (acting_path None None held doer after trace steps inner me long (record seat { trace = seat.trace ++ NamesRead (shared_of taken) ∷ [] }))
  acting_path _ _ _ _ _ _ _ (Acts.sees_heap doer heap pen few) me long seat = sees_acted doer heap pen seat
  acting_path _ _ _ _ _ _ _ (Acts.looks_at_segs doer heap taken) me long seat =
      heap_acted doer _ seat
      (path_handle count who (seated_as doer seat) (seated_as doer seat) taken taken (Handles.looks (seated_as doer seat) taken))
  acting_path _ _ _ _ _ _ _ (Acts.plans_range doer heap addr len page taken) me long seat =
      let planned : Seat = record seat { trace = seat.trace ++ RangePlanned addr len page (range_plan addr len page taken) ∷ [] } in
      plans_acted doer addr len page (range_plan addr len page taken) [] doer (takes_segments taken ∷ gives_segments taken ∷ []) seat
      (heap_acted doer (takes_segments taken ∷ gives_segments taken ∷ []) planned
      (path_handle count who (seated_as doer planned) (seated_as doer planned) taken taken (Handles.looks (seated_as doer planned) taken)))
  acting_path _ _ _ _ _ _ _ (Acts.claims doer heap chunk taken plan) me long seat =
      plans_acted doer chunk.addr chunk.len chunk.page (Ok chunk.list)
      (NamesChanged (OfHeaps (Range heap chunk.addr chunk.len chunk.page)) ∷ Called heap (call.Chunk chunk) gives.Done ∷ []) (after_call doer)
      (takes_segments taken
      ∷ gives_segments (after_claim_range chunk.list chunk.addr chunk.len chunk.page chunk.socket taken) ∷ []) seat
      (ranges_acted doer (OfHeaps (Range heap chunk.addr chunk.len chunk.page)) heap (call.Chunk chunk) taken
      (after_claim_range chunk.list chunk.addr chunk.len chunk.page chunk.socket taken).ranges
      (MovesRanges.comes chunk.list chunk.addr chunk.len chunk.page chunk.socket plan)
      (record seat { trace = seat.trace ++ RangePlanned chunk.addr chunk.len chunk.page (Ok chunk.list) ∷ [] }))
  acting_path _ _ _ _ _ _ _ (Acts.releases doer heap chunk taken) me long seat =
      ranges_acted doer (OfHeaps (RangeGone heap chunk.addr)) heap (call.Unchunk chunk.addr chunk.len) taken
      (after_release_range chunk.list taken).ranges (MovesRanges.goes chunk.list) seat
  acting_path _ _ _ _ _ _ _ (Acts.maps_chunk doer heap chunk after ended is) me long seat = maps_acted doer chunk after ended is seat
  acting_path _ _ _ _ _ _ _ (Acts.shares doer heap chunk same) me long seat = shares_acted doer heap chunk seat
  acting_path _ _ _ _ _ _ _ (Acts.leaves doer heap chunk after is) me long seat = leaves_acted doer heap chunk after is seat
  acting_path _ _ _ _ _ _ _ (Acts.looks_up_lines doer other lines) me long seat =
      let here : Seat = seated_as doer seat in
      heap_acted doer _ seat (SeatTrace.mails here here here _ _ (Mails.notes here (LoadedDone other lines)) (SeatTrace.ends here))
  acting_path _ _ _ _ _ _ _ (Acts.reads_stats doer heap pair) me long seat = stats_acted doer heap pair seat
  acting_path _ _ _ _ _ _ _ (Acts.and_then hand between last held more doer mid after first rest before behind_it here next) me long seat =
      let begins = acting_path hand between held doer mid first before here me long seat in
      acted_on doer mid after first rest before behind_it seat begins
      (acting_path between last more mid after rest behind_it next (begins.me ∙ me) (omega (arith, long, begins.deadline)) begins.behind)

  -- from a seat it comes to what it does of its line
  pub acts_path : (hand last : Option ℕ) (held : List ℕ) (doer after : ParticipantView) (trace : List Done) (steps : List MailStep)
      → Acts count hand last held doer after trace steps
      → doer.party.me ≡ who → doer.party.deadline ≤ longest → (seat : Seat) → seat.party ≡ doer.party
      → seat.standing ≡ doer.context.standing → Comes count who after.party after.context.standing [] trace steps seat
  acts_path hand last held doer after trace steps acts me long seat is left =
      let acted = acting_path hand last held doer after trace steps acts me long seat in
      comes_at count who doer.party after.party after.context.standing [] trace steps seat is
      (subst (λ (standing : Standing). Comes count who after.party after.context.standing [] trace steps
      (record seat { party = doer.party; standing = standing })) (sym left)
      (record {
        new = seated_as after acted.behind;
        party = refl;
        standing = refl;
        lines = acted.lines ∙ sym (append-nil seat.lines);
        trace = acted.trace;
        path = acted.path;
      }))

  -- and then its line ends
  pub line_path : (held : List ℕ) (doer mid : ParticipantView) (deed : Act) (given : Answer) (trace : List Done) (steps : List MailStep)
      → Acts count None None held doer mid trace steps
      → doer.party.me ≡ who → doer.party.deadline ≤ longest → (seat : Seat) → seat.party ≡ doer.party
      → seat.standing ≡ doer.context.standing
      → Comes count who (after_registering deed given mid).party (after_registering deed given mid).context.standing
      (ended_after mid deed given (seat.trace ++ trace) ∷ []) trace steps seat
  line_path held doer mid deed given trace steps acts me long seat is left =
      let comes = acts_path None None held doer mid trace steps acts me long seat is left in
      let one : EndedLine = line_ended deed given comes.new in
      let same : one ≡ ended_after mid deed given (seat.trace ++ trace) =
      ap (λ (standing : Standing). record one { records = standing.records }) comes.standing
      ∙ ap (λ (trace : List Done). record one { records = mid.context.standing.records; numbered = length (numbered_in trace) }) comes.trace in
      record {
        new = ending_line deed given comes.new;
        party = ap (watched_after deed given) comes.party;
        standing = ap (λ (standing : Standing). record standing {
          watchers = watchers_after deed given standing.watchers;
          validators = validators_after deed given standing.validators;
        }) comes.standing;
        lines = ap (λ (lines : List EndedLine). lines ++ one ∷ []) (comes.lines ∙ append-nil seat.lines)
            ∙ ap (λ (last : EndedLine). seat.lines ++ last ∷ []) same;
        trace = comes.trace;
        path = path_quietly count who seat comes.new (ending_line deed given comes.new) steps comes.path
            (Quietly.ends_line comes.new deed given);
      }
