-- What was done of a line that detaches, and what it leaves.
use Rattle.std.proofs.Common.{◌≡◌, ◌⊎◌, ◌∙◌, ℕ, ◌<◌, Bool, true, false, List, [], ◌∷◌, ◌++◌, append-nil, map, None, refl, ap, sym, subst, arith}
use Rattle.hp_base.specs.Telling.{Listener}
use Rattle.hp_base.specs.declared.chunk.Chunk.{Chunk}
use Rattle.hp_hall.specs.HallState.{HallState}
use Rattle.hp_hall.specs.Holding.{HeapPart}
use Rattle.hp_hall.specs.Mail.{MailStep, Notes}
use Rattle.hp_hall.specs.declared.note.Note.TheVariants.{Emptied}
use Rattle.hp_log.specs.declared.log_record.LogRecord.{LogRecord}
use Rattle.hp_maps.specs.Events.{IsToldByAddress}
use Rattle.hp_maps.specs.MapsView.{chunk_rows}
use Rattle.hp_script.specs.declared.answer.Answer.TheVariants as answer
use Rattle.hp_script.specs.declared.line.Act.{Act}
use Rattle.hp_script.specs.declared.line.Act.TheVariants as act
use Rattle.hp_script.specs.declared.line.Line.{Line}
use Rattle.hp_segs.specs.LaterSteps.{after_leave}
use Rattle.hp_segs.specs.SegsView.{SegsView}
use Rattle.hp_segs.specs.declared.outcome.AskLog.{AskLog}
use Rattle.hp_serve.proofs.Attached.{no_chunk_rows}
use Rattle.hp_serve.proofs.Tying.{tied_marks}
use Rattle.hp_serve.specs.Attaching.{after_detaching}
use Rattle.hp_serve.specs.InHall.{IsTiedIn, marked_in}
use Rattle.hp_serve.specs.Party.{IsSameParty, Party}
use Rattle.hp_serve.specs.SegmentSlot.{MayHold}
use Rattle.hp_serve.specs.Serving.{gives_segments, takes_segments}
use Rattle.hp_serve.specs.Tied.{no_chunks}
use Rattle.hp_proc.proofs.ChangedLines.{known_none, line_changed, line_nothing, standing_after}
use Rattle.hp_proc.proofs.HandFacts.Holds.{does_next}
use Rattle.hp_proc.proofs.LineFacts.{facts_for}
use Rattle.hp_proc.proofs.LinesApart.{apart_nameless}
use Rattle.hp_proc.proofs.TreeDeeds.{IsNameless, Only}
use Rattle.hp_proc.specs.Acting.{Acts, AreAsked}
use Rattle.hp_proc.specs.Courses.{Standing, attached_after}
use Rattle.hp_proc.specs.Doing.{Doing, Leads}
use Rattle.hp_proc.specs.ExternalLines.{leaving_all}
use Rattle.hp_proc.specs.LineInHall.{DoesHere, DoesLineHere, DoesOnceHere, IsReadyIn, MayDetach, did_in, moment}
use Rattle.hp_proc.specs.LineTrees.{doing_of}
use Rattle.hp_proc.specs.Lines.{Facts, if_attached}
use Rattle.hp_proc.specs.OwnChunks.{AreMarkedAs, chunks_of, own_chunk}
use Rattle.hp_proc.specs.ParticipantView.{ParticipantView, with_standing}
use Rattle.hp_proc.specs.Progress.{Does, DoesApart, moment_of}
use Rattle.hp_proc.specs.declared.own_chunk.OwnChunk.{OwnChunk}
use Rattle.hp_proc.specs.declared.own_element.OwnElement.{OwnElement}

-- who is out is so still
pub joined_out : (deed : Act) (before : Bool) → deed ≡ act.Detach → before ≡ attached_after deed answer.Detached before
joined_out deed before detach = subst (λ (deed : Act). before ≡ attached_after deed answer.Detached before) (sym detach) refl

-- who detached is in the roster no longer
pub joined_left : (deed : Act) (before after : Bool) → deed ≡ act.Detach → after ≡ false → after ≡ attached_after deed answer.Done before
joined_left deed before after detach is = subst (λ (deed : Act). after ≡ attached_after deed answer.Done before) (sym detach) is

-- and is the same participant
pub detached_same : (told : List Listener) (party mid : Party) → mid ≡ after_detaching told party → IsSameParty party mid
detached_same told party mid is = record {
  me = ap (λ (party : Party). party.me) is;
  socket = ap (λ (party : Party). party.socket) is;
  plan = ap (λ (party : Party). party.plan) is;
  deadline = ap (λ (party : Party). party.deadline) is;
}

-- WHO HAS LEFT ALL CHUNKS

none_mapped : (heap : ℕ) (marked : List Chunk) → map (own_chunk heap) marked ≡ [] → marked ≡ []
none_mapped heap [] is = refl
none_mapped heap (chunk ∷ marked) is = absurd cc

-- who notes no chunk has no mark
pub none_marked : (heap : ℕ) (marked : List Chunk) (chunks : List OwnChunk) → AreMarkedAs heap marked chunks → chunks ≡ [] → marked ≡ []
none_marked heap marked chunks are none = none_mapped heap marked (are ∙ ap (chunks_of heap) none)

-- it may leave the roster
pub record MayLeave (me : ℕ) (doer : ParticipantView) (state : HallState) : Type 0 where
  pub may : MayHold me state
  pub tied : IsTiedIn me doer.party state
  pub marked : (heap : ℕ) → marked_in me state heap ≡ []
  pub chunks : doer.context.standing.chunks ≡ []

-- and has no row of a chunk
pub no_rows : (me : ℕ) (doer : ParticipantView) (state : HallState) → MayLeave me doer state → chunk_rows doer.party.maps.rows ≡ []
no_rows me doer state may =
    no_chunk_rows (chunk_rows doer.party.maps.rows)
    (tied_marks (state.seen me) (state.own me) (marked_in me state) no_chunks doer.party.joined doer.party.maps (λ heap. sym (may.marked heap))
    may.tied.table).table.chunks

pub leave_none : (me : ℕ) (doer : ParticipantView) (state : HallState) → MayDetach me doer state → doer.context.standing.chunks ≡ []
    → MayLeave me doer state
leave_none me doer state detach none = record {
  may = detach.may.may;
  tied = detach.may.tied;
  marked = λ heap. none_marked heap (marked_in me state heap) doer.context.standing.chunks (detach.chunks heap) none;
  chunks = none;
}

pub leave_ready : (me : ℕ) (doer : ParticipantView) (state : HallState) → IsReadyIn me doer state → doer.context.standing.chunks ≡ []
    → MayLeave me doer state
leave_ready me doer state ready none = record {
  may = record { serves = ready.idle.serves; free = ready.idle.free _; home = ready.idle.home _ (omega arith) };
  tied = ready.idle.tied;
  marked = λ heap. none_marked heap (marked_in me state heap) doer.context.standing.chunks (ready.chunks heap) none;
  chunks = none;
}

-- WHAT IT DID

leaving_nameless : (chunks : List OwnChunk) → Only IsNameless (leaving_all chunks)
unfolding Only
leaving_nameless [] = tt
leaving_nameless (chunk ∷ chunks) = λ given. (tt, leaving_nameless chunks)

module _ (line : Line) (its_act : line.act ≡ act.Detach) (doer : ParticipantView) where
  abbrev facts : Facts
  facts = facts_for doer.party.socket doer.context line.act None

  abbrev said : Bool → Doing
  said attached = if_attached attached (leaving_all doer.context.standing.chunks)

  pub tree_left : doer.context.standing.attached ≡ true → leaving_all doer.context.standing.chunks ≡ doing_of line line.act facts
  unfolding doing_of
  tree_left attached = sym (ap (λ (deed : Act). doing_of line deed facts) its_act ∙ ap said attached)

  -- who is out does nothing of a line that detaches
  pub line_detached : (me : ℕ) (state : HallState) → did_in me state state [] → doer.context.standing.attached ≡ false
      → DoesLineHere me doer doer state state line answer.Detached
  unfolding doing_of
  line_detached me state none attached =
      line_nothing state.count (did_in me state state) line answer.Detached (moment me doer state) facts act.Detach its_act tt tt
      (known_none doer.party.socket doer.context line act.Detach its_act tt) none
      (ap (λ (deed : Act). doing_of line deed facts) its_act ∙ ap said attached) refl tt
      (λ trace.
      standing_after line act.Detach answer.Detached trace doer.context.standing doer.context.standing its_act
      (ap (λ (elements : List OwnElement). record doer.context.standing { elements = elements })
      (sym (append-nil doer.context.standing.elements))))

  -- it left all chunks, and then the roster
  module _ (mid after : ParticipantView) (first second third : HallState) (attached : doer.context.standing.attached ≡ true)
      (same : IsSameParty doer.party mid.party) (count : second.count ≡ first.count)
      (left : DoesOnceHere doer.party.me doer mid first second (leaving_all doer.context.standing.chunks) (Doing.Ended answer.Done))
      (standing : mid.context.standing ≡ record doer.context.standing { chunks = [] })
      (gone : DoesHere [] mid.party.me mid after second third (Doing.Ended answer.Done) (Doing.Ended answer.Done))
      (noted : after.context.standing ≡ record mid.context.standing { attached = false }) where
    abbrev me : ℕ
    me = doer.party.me

    whole : DoesOnceHere me doer after first third (doing_of line line.act facts) (Doing.Ended answer.Done)
    whole = record {
      held = left.held;
      once = left.once;
      does = subst (λ (doing : Doing). DoesHere left.held me doer after first third doing (Doing.Ended answer.Done)) (tree_left attached)
          (subst (λ (held : List ℕ). DoesHere held me doer after first third (leaving_all doer.context.standing.chunks) (Doing.Ended answer.Done))
          (append-nil left.held)
          (does_next me (moment me doer first) (λ who. moment who mid second) (λ who. moment who after third) same.me count left.does gone));
    }

    pub line_left : DoesLineHere me doer after first third line answer.Done
    line_left =
        let done : DoesApart first.count (did_in me first third) (doing_of line line.act facts) (Doing.Ended answer.Done) (moment me doer first)
        (moment me after third) =
        apart_nameless (doing_of line line.act facts) (Doing.Ended answer.Done)
        (subst (Only IsNameless) (tree_left attached) (leaving_nameless doer.context.standing.chunks)) refl refl whole in
        line_changed first.count (did_in me first third) line answer.Done (moment me doer first) (moment me after third) facts act.Detach its_act tt tt
        (known_none doer.party.socket doer.context line act.Detach its_act tt) done refl tt
        (noted
        ∙ (ap (λ (standing : Standing). record standing { attached = false }) standing
        ∙ standing_after line act.Detach answer.Done done.does.does.trace doer.context.standing
        (record doer.context.standing { attached = false; chunks = [] }) its_act
        (ap (λ (elements : List OwnElement). record doer.context.standing { attached = false; chunks = []; elements = elements })
        (sym (append-nil doer.context.standing.elements)))))

module _ (count : ℕ) (did : List MailStep → Type 0) (doer after : ParticipantView) (parts later : ℕ → HeapPart) (log now more : List LogRecord)
    (asks heard others : List AskLog) (alike : (heap : ℕ) → later heap ≡ parts heap) (log_is : now ≡ log ++ more) (asks_is : heard ≡ asks ++ others)
  where
    -- it left the roster, and noted that
    pub does_detach : (doing : Doing) (taken : SegsView) (told : List Listener) → 0 < doer.party.me → doer.context.standing.chunks ≡ []
        → chunk_rows doer.party.maps.rows ≡ [] → IsToldByAddress doer.party.maps.rows doer.party.listeners told
        → after ≡ with_standing (record doer.context.standing { attached = false }) (record doer { party = after_detaching told doer.party })
        → did (takes_segments taken ∷ Notes Emptied ∷ gives_segments (after_leave doer.party.me taken) ∷ [])
        → Does [] count did doing doing (moment_of doer parts log asks) (moment_of after later now heard)
    unfolding Leads AreAsked
    does_detach doing taken told secondary left bare heard_is noted made =
        subst (λ (after : ParticipantView). Does [] count did doing doing (moment_of doer parts log asks) (moment_of after later now heard)) (sym noted)
        (record {
          trace = [];
          steps = takes_segments taken ∷ Notes Emptied ∷ gives_segments (after_leave doer.party.me taken) ∷ [];
          leads = refl;
          made = made;
          acts = Acts.detaches doer taken told secondary left bare heard_is;
          entries = λ heap. ap (λ (part : HeapPart). part.entries) (alike heap) ∙ sym (append-nil (parts heap).entries);
          serves = λ heap. ap (λ (part : HeapPart). part.serves) (alike heap);
          counted = ap (λ (calls : ℕ). record doer.context { standing = record doer.context.standing { attached = false }; calls = calls })
              (omega arith);
          same = record { me = refl; socket = refl; plan = refl; deadline = refl };
          asked = refl;
          more = more;
          log = log_is;
          outcomes = others;
          asks = asks_is;
        })
