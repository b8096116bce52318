-- What a participant does of its line, step by step: the rule "Lines" of docs/PARTICIPANTS.md.
use Rattle.std.specs.Prelude.{◌≡◌, ℕ, ◌+◌, ◌<◌, Bool, false, List, [], ◌∷◌, ◌++◌, length, Option, Some, None, Ok}
use Rattle.hp_base.specs.Telling.{Listener}
use Rattle.hp_base.specs.declared.caught.Caught.{Caught}
use Rattle.hp_base.specs.declared.chunk.Chunk.{Chunk}
use Rattle.hp_base.specs.declared.limits.TheConstants.{MAX_HEAPS}
use Rattle.hp_base.specs.declared.row.Run.{Run}
use Rattle.hp_hall.specs.Mail.{MailStep, Gives, Notes, Takes}
use Rattle.hp_hall.specs.declared.kept.Kept.TheVariants.{Heap, Names}
use Rattle.hp_hall.specs.HeapPairs.{pair_of}
use Rattle.hp_hall.specs.declared.note.Note.TheVariants.{Emptied, LoadedDone, Published, ReadStats}
use Rattle.hp_hall.specs.declared.slot.TheConstants.{NAMES_SLOT}
use Rattle.hp_heap.specs.History.{HeapView}
use Rattle.hp_heap.specs.HistoryLaws.{run_cut}
use Rattle.hp_heap.specs.declared.entry.HeapAnswer.{HeapAnswer}
use Rattle.hp_heap.specs.declared.entry.HeapAnswer.TheVariants as gives
use Rattle.hp_heap.specs.declared.entry.HeapCall.{HeapCall}
use Rattle.hp_heap.specs.declared.entry.HeapCall.TheVariants as call
use Rattle.hp_log.specs.declared.log_record.LogRecord.{LogRecord}
use Rattle.hp_maps.specs.Events.{IsToldByAddress}
use Rattle.hp_maps.specs.MapsView.{MapsView, chunk_rows}
use Rattle.hp_segs.specs.LaterSteps.{after_leave}
use Rattle.hp_segs.specs.Ranges.{after_claim_range, after_release_range, range_plan}
use Rattle.hp_segs.specs.SegsView.{SegsView}
use Rattle.hp_segs.specs.Steps.{after_retire}
use Rattle.hp_segs.specs.declared.outcome.AskLog.{AskLog}
use Rattle.hp_proc.specs.Denying.{denials_of}
use Rattle.hp_serve.specs.AskSteps.{DoesAsk, DoesNotify}
use Rattle.hp_serve.specs.Asking.{IsAsked}
use Rattle.hp_serve.specs.Attaching.{Attaches, after_attaching, after_detaching}
use Rattle.hp_proc.specs.Courses.{standing_tried}
use Rattle.hp_proc.specs.Doing.{Done}
use Rattle.hp_proc.specs.Doing.Done.{Asked, Called, CaughtUp, ChunkMapped, GaveUp, HeapSeen, Looked, NamesChanged, NamesRead, RangePlanned, StatsRead}
use Rattle.hp_proc.specs.Handing.{counted_in, shared_of}
use Rattle.hp_proc.specs.MappedChunks.{LeavesChunk, MapsChunk}
use Rattle.hp_proc.specs.NamesOfLines.{ChangesNames}
use Rattle.hp_proc.specs.OwnChunks.{own_chunk, with_own_chunk, without_own_chunk}
use Rattle.hp_proc.specs.ParticipantView.{ParticipantView, after_call, noting_chunks, with_party, with_standing}
use Rattle.hp_proc.specs.SharedNames.{NamesChange}
use Rattle.hp_proc.specs.SharedNames.NamesChange.{OfHeaps}
use Rattle.hp_proc.specs.declared.own_chunk.OwnChunk.{OwnChunk}
use Rattle.hp_proc.specs.declared.own_element.OwnElement.{OwnElement}
use Rattle.hp_serve.specs.Party.{Party, with_maps}
use Rattle.hp_serve.specs.Serving.{acks_after, gives_segments, takes_segments}
use Rattle.hp_serve.specs.Waiting.{IsTurned}
use Rattle.hp_serve.specs.declared.pages_asked.PagesAsked.{PagesAsked}
use Rattle.hp_stats.specs.StatViews.{PenView}
use Rattle.hp_stats.specs.declared.stat_pair.StatPair.{StatPair}
use Rattle.hp_zone.specs.declared.name_change.NameChange.TheVariants.{Range, RangeGone}
use Rattle.hp_zone.specs.declared.names.Names.{Names as NamesView}

-- what a participant did, with the steps that it made in the hall: with the heap in its hand before and after, where it had one, and the
-- heaps that it took meanwhile, in their order
pub data Acts (count : ℕ) : Option ℕ → Option ℕ → List ℕ → ParticipantView → ParticipantView → List Done → List MailStep → Type 0 where
  nothing : (hand : Option ℕ) (doer : ParticipantView) → Acts count hand hand [] doer doer [] []
  -- it waited a turn for a heap that another one held
  waits_turn : (until : ℕ) (doer : ParticipantView) (after : Party) (moved : Bool) (steps : List MailStep)
      → IsTurned (denials_of doer.context.standing) count until doer.party after steps (Some moved)
      → Acts count None None [] doer (with_party after doer) [] steps
  -- it took a heap with its pen, or published the statistics of the one in its hand and gave that back
  takes_heap : (doer : ParticipantView) (heap : HeapView) (pen : PenView) → heap.plain.index < MAX_HEAPS
      → Acts count None (Some heap.plain.index) (heap.plain.index ∷ []) doer doer [] (Takes heap.plain.index (Heap heap pen) ∷ [])
  gives_heap : (doer : ParticipantView) (heap : HeapView) (pen : PenView)
      → Acts count (Some heap.plain.index) None [] doer doer []
      (Notes (Published heap.plain.index (pair_of heap)) ∷ Gives heap.plain.index (Heap heap pen) ∷ [])
  -- it made a call of the heap in its hand, which cut no run from it
  makes_call : (doer : ParticipantView) (heap : ℕ) (call : HeapCall) (answer : HeapAnswer) → run_cut answer ≡ []
      → Acts count (Some heap) (Some heap) [] doer (after_call doer) (Called heap call answer ∷ []) []
  -- it cut a run from the heap in its hand, and gave it up
  cuts_run : (doer : ParticipantView) (heap addr : ℕ) (run : Run) (taken : SegsView)
      → Acts count (Some heap) (Some heap) [] doer (after_call doer) (Called heap (call.Cut addr) (gives.Pages run) ∷ [])
      (takes_segments taken ∷ gives_segments (after_retire heap run taken) ∷ [])
  -- it asked for pages for the heap in its hand
  asks_pages : (doer : ParticipantView) (after : Party) (asked : PagesAsked) (run : Option Run) (steps : List MailStep)
      → DoesAsk (denials_of doer.context.standing) count doer.party after asked steps run
      → Acts count (Some asked.heap) (Some asked.heap) [] doer (with_party after doer) (Asked asked run ∷ []) steps
  -- with no heap in its hand it told the coordinator of a run that it had given up, and waited for the answer
  notifies_run : (doer : ParticipantView) (after : Party) (heap : ℕ) (run : Run) (steps : List MailStep)
      → DoesNotify (denials_of doer.context.standing) count doer.party after heap run steps
      → Acts count None None [] doer (with_party after doer) (GaveUp heap run ∷ []) steps
  -- it attached, or tried to: it looked at the segment value and caught up with its whole log, and noted what that left
  attaches : (doer : ParticipantView) (after : Party) (taken : SegsView) (caught : Caught) → Attaches doer.party after taken.log caught
      → Acts count None None [] doer (with_standing (standing_tried (length taken.log) caught doer.context.standing) (with_party after doer))
      (Looked (length taken.log) ∷ CaughtUp (length taken.log) caught ∷ [])
      (takes_segments taken ∷ (acks_after caught (length taken.log) ++ (gives_segments (after_attaching doer.party.me caught taken) ∷ [])))
  -- it detached, which no primary does, once it had left every chunk, and noted that: its watchers were told of all rows that went, and it told that its table is empty
  -- before it gave the segment value back
  detaches : (doer : ParticipantView) (taken : SegsView) (told : List Listener) → 0 < doer.party.me → doer.context.standing.chunks ≡ []
      → chunk_rows doer.party.maps.rows ≡ [] → IsToldByAddress doer.party.maps.rows doer.party.listeners told
      → Acts count None None [] doer
      (with_standing (record doer.context.standing { attached = false }) (with_party (after_detaching told doer.party) doer)) []
      (takes_segments taken ∷ Notes Emptied ∷ gives_segments (after_leave doer.party.me taken) ∷ [])
  -- it noted where the elements of its lines lie
  notes_left : (doer : ParticipantView) (elements : List OwnElement)
      → Acts count None None [] doer (with_standing (record doer.context.standing { elements = elements }) doer) [] []
  -- it read the names under their slot, and gave them back as they were
  reads_names : (doer : ParticipantView) (names : NamesView)
      → Acts count None None [] doer doer (NamesRead (shared_of names) ∷ [])
      (Takes NAMES_SLOT (Names names) ∷ Gives NAMES_SLOT (Names names) ∷ [])
  -- it changed them, as it has them in hand
  changes_names : (hand : Option ℕ) (doer : ParticipantView) (change : NamesChange)
      → Acts count hand hand [] doer doer (NamesChanged change ∷ []) []
  -- it had them in hand while it did this: it was handed what it took, and gave back what the changes that it made meanwhile leave of that
  holds_names : (held : List ℕ) (doer after : ParticipantView) (taken given : NamesView) (trace : List Done) (steps : List MailStep)
      → Acts count None None held doer after trace steps → ChangesNames taken given trace
      → Acts count None None held doer after (NamesRead (shared_of taken) ∷ trace)
      (Takes NAMES_SLOT (Names taken) ∷ (steps ++ Gives NAMES_SLOT (Names given) ∷ []))
  -- it took an external heap with its pen, and was handed its state
  sees_heap : (doer : ParticipantView) (heap : HeapView) (pen : PenView) → heap.plain.index < MAX_HEAPS
      → Acts count None (Some heap.plain.index) (heap.plain.index ∷ []) doer doer (HeapSeen heap.plain.index heap.history ∷ [])
      (Takes heap.plain.index (Heap heap pen) ∷ [])
  -- it looked at the segment value with a heap in its hand: for the memory of a chunk that it is to map, or since memory was refused
  looks_at_segs : (doer : ParticipantView) (heap : ℕ) (taken : SegsView)
      → Acts count (Some heap) (Some heap) [] doer doer [] (takes_segments taken ∷ gives_segments taken ∷ [])
  -- it asked the segment value for a list for external memory, with a heap in its hand, and left it as it was
  plans_range : (doer : ParticipantView) (heap addr len page : ℕ) (taken : SegsView)
      → Acts count (Some heap) (Some heap) [] doer doer (RangePlanned addr len page (range_plan addr len page taken) ∷ [])
      (takes_segments taken ∷ gives_segments taken ∷ [])
  -- memory came to the external heap in its hand, under the list that the segment value had for it; or went, and gave its list back
  claims : (doer : ParticipantView) (heap : ℕ) (chunk : Chunk) (taken : SegsView)
      → range_plan chunk.addr chunk.len chunk.page taken ≡ Ok chunk.list
      → Acts count (Some heap) (Some heap) [] doer (after_call doer)
      (RangePlanned chunk.addr chunk.len chunk.page (Ok chunk.list) ∷ NamesChanged (OfHeaps (Range heap chunk.addr chunk.len chunk.page))
      ∷ Called heap (call.Chunk chunk) gives.Done ∷ [])
      (takes_segments taken ∷ gives_segments (after_claim_range chunk.list chunk.addr chunk.len chunk.page chunk.socket taken) ∷ [])
  releases : (doer : ParticipantView) (heap : ℕ) (chunk : Chunk) (taken : SegsView)
      → Acts count (Some heap) (Some heap) [] doer (after_call doer)
      (NamesChanged (OfHeaps (RangeGone heap chunk.addr)) ∷ Called heap (call.Unchunk chunk.addr chunk.len) gives.Done ∷ [])
      (takes_segments taken ∷ gives_segments (after_release_range chunk.list taken) ∷ [])
  -- it mapped the pages of a chunk of the heap in its hand, all or none, by calls of its mapper
  maps_chunk : (doer : ParticipantView) (heap : ℕ) (chunk : Chunk) (after : MapsView) (ended : Caught)
      → MapsChunk chunk doer.party.maps after ended
      → Acts count (Some heap) (Some heap) [] doer (with_party (with_maps after doer.party) doer) (ChunkMapped chunk ended ∷ []) []
  -- it set its mark on such a chunk, whose rows it has then, and noted it; or took it away with the rows
  shares : (doer : ParticipantView) (heap : ℕ) (chunk : OwnChunk) → chunk.heap ≡ heap
      → Acts count (Some heap) (Some heap) [] doer (noting_chunks (with_own_chunk chunk doer.context.standing.chunks) (after_call doer))
      (Called heap (call.Share chunk.addr chunk.len) gives.Done ∷ []) []
  leaves : (doer : ParticipantView) (heap : ℕ) (chunk : Chunk) (after : MapsView) → LeavesChunk chunk doer.party.maps after
      → Acts count (Some heap) (Some heap) [] doer
      (noting_chunks (without_own_chunk (own_chunk heap chunk) doer.context.standing.chunks)
      (after_call (with_party (with_maps after doer.party) doer)))
      (Called heap (call.Unshare chunk.addr chunk.len) gives.Done ∷ []) []
  -- it looked up how many of its lines another one has told to be done
  looks_up_lines : (doer : ParticipantView) (other lines : ℕ) → Acts count None None [] doer doer [] (Notes (LoadedDone other lines) ∷ [])
  -- it read the newest statistics of a heap
  reads_stats : (doer : ParticipantView) (heap : ℕ) (pair : StatPair)
      → Acts count None None [] doer doer (StatsRead heap (counted_in pair) ∷ []) (Notes (ReadStats heap pair) ∷ [])
  -- one thing after another
  and_then : (hand between last : Option ℕ) (held more : List ℕ) (doer mid after : ParticipantView) (first rest : List Done)
      (before behind : List MailStep) → Acts count hand between held doer mid first before → Acts count between last more mid after rest behind
      → Acts count hand last (held ++ more) doer after (first ++ rest) (before ++ behind)

-- the asks and notices of a trace took numbers one above another, from one to the next, and each ask has its answer
unfoldable pub AreAsked : List LogRecord → List AskLog → ℕ → ℕ → ℕ → List Done → Type 0
AreAsked log asks who before after [] = after ≡ before
AreAsked log asks who before after (Asked asked run ∷ trace) =
    (mid : ℕ) × IsAsked log asks who before mid asked run × AreAsked log asks who mid after trace
AreAsked log asks who before after (GaveUp heap run ∷ trace) = AreAsked log asks who (before + 1) after trace
AreAsked log asks who before after (_ ∷ trace) = AreAsked log asks who before after trace
