-- A participant that sits at a new board has done nothing in the hall that it opens, and may do its first line.
use Rattle.std.proofs.Common.{◌≡◌, ◌∙◌, ℕ, ◌<◌, ◌≤◌, Bool, true, false, eqb, eq-eqb, List, [], length, map, Option, Some, None, refl, sym, ap, subst, arith}
use Rattle.std.specs.Prelude.{slice_get, unwrap_or}
use Rattle.std.specs.Option.{option_map}
use Rattle.std.proofs.lemmas.Bool.{cond-true}
use Rattle.std.proofs.lemmas.List.Elements.{All-nil}
use Rattle.hp_base.specs.declared.chunk.Chunk.{Chunk}
use Rattle.hp_base.specs.declared.limits.TheConstants.{MAX_PARTICIPANTS, MAX_SEGMENTS}
use Rattle.atomic_table.specs.Seated.{TableId}
use Rattle.hp_board.specs.BoardView.{BoardView}
use Rattle.hp_board.specs.SeatView.{SeatView, new_seat}
use Rattle.hp_board.specs.Views.{lines_told, newcomer, own_of, value_of}
use Rattle.hp_board.specs.declared.view.Awaited.{Awaited}
use Rattle.hp_chair.specs.ChairView.{ChairView, chair_part, chair_state, lines_of, no_part, opening_chair}
use Rattle.hp_chair.specs.Places.{ArePlaces}
use Rattle.hp_chair.specs.Publishing.{IsUnread}
use Rattle.hp_chair.proofs.OneOf.{one_here}
use Rattle.hp_hall.specs.Holding.{HeapPart}
use Rattle.hp_hall.specs.Mail.{MailStep}
use Rattle.hp_hall.specs.HallState.{HallState}
use Rattle.hp_hall.specs.Own.{Own, after_ack, rows_known}
use Rattle.hp_hall.proofs.Gives.{entries_made-none}
use Rattle.hp_mail.specs.PassView.{MailboxView, PassView}
use Rattle.hp_maps.specs.MapsView.{MapsView, chunk_rows, table_in}
use Rattle.hp_script.specs.declared.workload.Workload.{Workload}
use Rattle.hp_segs.specs.Opening.{is_present}
use Rattle.hp_segs.specs.SegsView.{SegsView, is_member}
use Rattle.hp_segs.specs.declared.ask.Ask.{Ask}
use Rattle.hp_stats.specs.StatViews as stats
use Rattle.hp_zone.specs.declared.names.Names.{Names as NamesView}
use Rattle.hp_serve.specs.InHall.{marked_in}
use Rattle.hp_serve.specs.Party.{Party}
use Rattle.hp_serve.specs.Tied.{HasChunks, IsTied, no_chunks, part_of}
use Rattle.hp_serve.proofs.Attached.{nothing_marked}
use Rattle.hp_serve.proofs.Tying.{tied_marks}
use Rattle.hp_proc.specs.Contexts.{Context}
use Rattle.hp_proc.specs.Heaps.{sockets_of}
use Rattle.hp_proc.specs.LineInHall.{IsReadyIn, moment}
use Rattle.hp_proc.specs.LinesDone.{Course}
use Rattle.hp_proc.specs.OwnChunks.{chunks_of, own_chunk}
use Rattle.hp_proc.specs.ParticipantView.{ParticipantView}
use Rattle.hp_proc.specs.Progress.{MayDo}
use Rattle.hp_proc.proofs.Joining.{asked_none}
use Rattle.thm_run.proofs.SeatFacts.FirstSegs.{member_first, present_declared}
use Rattle.hp_threads.specs.Workers.{IsNewcomer, IsSeated, OpensFor}
use Rattle.hp_threads.specs.Working.{HasDoneLines, HasWorkedIn}
use Rattle.hp_threads.specs.Works.{Works}

none_armed : (armed : Option Ask) (ask : Ask) → armed ≡ None → armed ≡ Some ask → ⊥
none_armed armed ask none some = cc

-- who is attached or not has taken in nothing yet
part_first : (joined : Bool) → part_of joined (after_ack 0) ≡ after_ack 0
part_first true = refl
part_first false = refl

-- an empty table is tied where nothing was seen, nothing taken in, and no chunk marked
tied_first : (own : Own) (marked : ℕ → List Chunk) (joined : Bool) (maps : MapsView) → own ≡ after_ack 0 → ((heap : ℕ) → marked heap ≡ [])
    → maps.rows ≡ [] → maps.number ≡ 0 → MAX_SEGMENTS ≤ maps.capacity → IsTied [] own marked joined maps
tied_first own marked joined maps nothing unmarked empty first room =
    let part : part_of joined own ≡ after_ack 0 = ap (part_of joined) nothing ∙ part_first joined in
    tied_marks [] own no_chunks marked joined maps unmarked
    (record {
      within = omega (arith, ap (λ (own : Own). own.number) nothing);
      table = record {
        number = first ∙ sym (ap (λ (own : Own). own.number) part);
        rows = subst (λ (own : Own). table_in maps.rows ≡ rows_known [] own) (sym part) (ap table_in empty);
        behind = omega (arith, ap (λ (own : Own). own.number) part, ap (λ (own : Own). own.unmapped) part);
        seen = omega (arith, ap (λ (own : Own). own.unmapped) part);
        chunks = subst (HasChunks no_chunks) (sym (ap chunk_rows empty)) nothing_marked;
        room = room;
      };
    })

module _ (workload : Workload) (who : ℕ) (board : BoardView) (boxes : List MailboxView) (cells : List TableId) (seat : SeatView)
    (passes : List PassView) (pass : stats.PassView) (is : IsSeated who board boxes cells seat passes pass)
    (opens : OpensFor workload board.opening) where
  -- WHAT A HALL ASKS FOR

  pub sits : seat.board ≡ board.id
  sits = ap (λ (s : SeatView). s.board) is.sits

  whose : seat.mine.who ≡ who
  whose = ap (λ (s : SeatView). s.mine.who) is.sits

  count : seat.mine.opening.participants ≡ board.opening.participants
  count = ap (λ (s : SeatView). s.mine.opening.participants) is.sits

  pub declared : seat.mine.who < seat.mine.opening.participants
  declared = omega (arith, whose, count, is.below)

  pub few : seat.mine.opening.participants ≤ MAX_PARTICIPANTS
  few = omega (arith, count, opens.count, opens.few)

  pub boxed : length boxes ≡ seat.mine.opening.participants
  boxed = is.count ∙ sym count

  pub unused : (seat.mine.held ≡ []) × (seat.mine.moves ≡ [])
  unused = (ap (λ (s : SeatView). s.mine.held) is.sits, ap (λ (s : SeatView). s.mine.moves) is.sits)

  pub placed : ArePlaces seat.mine.who [] boxes passes
  placed = subst (λ (n : ℕ). ArePlaces n [] boxes passes) (sym whose) is.places

  pub unread : IsUnread cells seat.mine.opening pass
  unread = subst (λ (s : SeatView). IsUnread cells s.mine.opening pass) (sym is.sits) is.unread

  -- WHAT IT HAS DONE

  abbrev new : ChairView
  new = opening_chair (new_seat board who) boxes passes pass

  abbrev state : HallState
  state = chair_state new

  parts : state.part who ≡ chair_part new
  parts = one_here {A = ℕ → HeapPart} who who (chair_part new) (λ heap. no_part) refl

  own : state.own who ≡ after_ack 0
  own = one_here who who (own_of (newcomer board.opening who)) (after_ack 0) refl

  joined : state.joined who ≡ is_member board.opening.segs.value.roster who
  joined = one_here who who (newcomer board.opening who).joined false refl

  begun : state.done who ≡ []
  begun = one_here {A = List MailStep} who who [] [] refl

  -- it has told of no line
  untold : state.lines who ≡ 0
  untold =
      let mine = newcomer board.opening who in
      one_here who who (lines_of who new) 0 refl
      ∙ cond-true (eqb who who) (lines_told mine)
      (unwrap_or (option_map (λ (awaited : Awaited). awaited.lines) (value_of who mine.awaited)) 0) (eq-eqb who who refl)

  made : (heap : ℕ) → (state.part who heap).entries ≡ []
  made heap = ap (λ (p : ℕ → HeapPart). (p heap).entries) parts

  served : (heap : ℕ) → (state.part who heap).serves ≡ slice_get (sockets_of workload.pools.items) heap
  served heap = ap (λ (p : ℕ → HeapPart). (p heap).serves) parts ∙ opens.serves heap

  unheld : (heap : ℕ) → (state.part who heap).holding ≡ None
  unheld heap = ap (λ (p : ℕ → HeapPart). (p heap).holding) parts

  unmarked : (heap : ℕ) → marked_in who state heap ≡ []
  unmarked heap = ap (λ (p : ℕ → HeapPart). (p heap).marked) parts

  unarmed : (heap : ℕ) → (state.part who heap).armed ≡ None
  unarmed heap = ap (λ (p : ℕ → HeapPart). (p heap).armed) parts

  module _ (doer : ParticipantView) (brings : IsNewcomer workload who doer) where
    below : who < workload.participants
    below = omega (arith, is.below, opens.count)

    its_me : doer.party.me ≡ who
    its_me = ap (λ (party : Party). party.me) brings.party.is

    its_maps : doer.party.maps ≡ brings.party.maps
    its_maps = ap (λ (party : Party). party.maps) brings.party.is

    its_joined : doer.party.joined ≡ is_present workload.participants workload.absent who
    its_joined = ap (λ (party : Party). party.joined) brings.party.is

    enrolled : is_member board.opening.segs.value.roster who ≡ is_present workload.participants workload.absent who
    enrolled =
        ap (λ (segs : SegsView). is_member segs.roster who) opens.segs
        ∙ member_first workload.participants workload.absent who (omega (arith, below, opens.few))

    attached : is_present workload.participants workload.absent who ≡ doer.context.standing.attached
    attached =
        present_declared workload.participants workload.absent who below
        ∙ sym (ap (λ (context : Context). context.standing.attached) brings.context)

    may_do : MayDo (moment who doer state)
    may_do = record {
      sockets = λ heap.
          served heap ∙ ap (λ (context : Context). slice_get (sockets_of context.pools) heap) (sym brings.context);
      unheld = unheld;
      settled = λ heap ask armed its. absurd (none_armed (state.part who heap).armed ask (unarmed heap) armed);
      counted = ap (λ (context : Context). context.calls) brings.context ∙ sym (entries_made-none (state.part who) made);
    }

    ready : IsReadyIn who doer state
    ready = record {
      idle = record {
        serves = refl;
        declared = is.below;
        free = λ number. refl;
        home = λ number low. omega (arith, low);
        tied = record {
          table =
              tied_first (state.own who) (marked_in who state) doer.party.joined doer.party.maps own unmarked
              (ap (λ (maps : MapsView). maps.rows) its_maps ∙ brings.party.rows)
              (ap (λ (maps : MapsView). maps.number) its_maps ∙ brings.party.number)
              (omega (arith, ap (λ (maps : MapsView). maps.capacity) its_maps, brings.party.room));
          same = joined ∙ enrolled ∙ sym its_joined;
          left = λ out. unmarked;
        };
      };
      ready = may_do;
      attached = joined ∙ enrolled ∙ attached;
      named = ap (λ (names : NamesView). names.heaps.sockets) opens.names
          ∙ sym (ap (λ (context : Context). sockets_of context.pools) brings.context);
      chunks = λ heap.
          ap (map (own_chunk heap)) (unmarked heap)
          ∙ sym (ap (λ (context : Context). chunks_of heap context.standing.chunks) brings.context);
    }

    done : HasDoneLines workload [] who doer (state.part who) (state.seen who) (state.heard who)
    done = record {
      me = its_me;
      socket = ap (λ (party : Party). party.socket) brings.party.is;
      deadline = ap (λ (party : Party). party.deadline) brings.party.is;
      knows = brings.context;
      own = All-nil (λ (course : Course). course.line.participant ≡ who);
      done = tt;
      entries = made;
      asked = asked_none (state.seen who) (state.heard who) who 0 doer.party.asked (ap (λ (party : Party). party.asked) brings.party.is);
    }

    opens_new : HasWorkedIn workload who [] doer doer state
    opens_new = record {
      works = subst (Works workload.participants doer doer []) (sym begun) (Works.rests doer);
      done = done;
      ready = ready;
      told = untold;
      count = opens.count;
    }

    -- in the hall that it opens
    pub opens_worked : (chair : ChairView) → chair ≡ opening_chair seat boxes passes pass
        → HasWorkedIn workload doer.party.me [] doer doer (chair_state chair)
    opens_worked chair opened =
        let first : chair ≡ new = opened ∙ ap (λ (s : SeatView). opening_chair s boxes passes pass) is.sits in
        subst (λ (c : ChairView). HasWorkedIn workload doer.party.me [] doer doer (chair_state c)) (sym first)
        (subst (λ (n : ℕ). HasWorkedIn workload n [] doer doer state) (sym its_me) opens_new)
