-- How far a workload was run by its participants before its first line.
use Rattle.std.proofs.Common.{◌≡◌, ◌∙◌, ℕ, zero, suc, ◌<◌, ◌≤◌, Bool, true, false, List, [], ◌∷◌, Contains, length, map, slice_get, replicate, Option, Some, None, refl, ap, sym, subst, arith}
use Rattle.std.specs.List.{All, range_with_len}
use Rattle.std.specs.Option.{option_and_then, option_map}
use Rattle.std.proofs.lemmas.List.{length-map}
use Rattle.std.proofs.lemmas.List.Elements.{All-nil}
use Rattle.std.proofs.lemmas.List.FromFn.{length-range_with_len}
use Rattle.std.proofs.lemmas.List.Sorted.{IsNonDecreasingBy-short}
use Rattle.std.proofs.lemmas.List.Sums.{count_by-le-length, length-filter}
use Rattle.std.proofs.lemmas.Option.{slice_get-map, slice_get_past, slice_get_within}
use Rattle.hp_base.specs.declared.limits.TheConstants.{MAX_HEAPS, MAX_SEGMENTS}
use Rattle.hp_base.specs.declared.pool_line.PoolLine.{PoolLine}
use Rattle.hp_plain.specs.Course.{course_same}
use Rattle.hp_plain.specs.HallSteps.{slots_of}
use Rattle.hp_plain.specs.HallView.{HallView, history_in, own_at, part_in, seen_in, heard_in, segs_in, serves_in, slot_at}
use Rattle.hp_plain.specs.Opening.{AreUnused, heaps_in}
use Rattle.hp_hall.specs.Views.{HeldHeap}
use Rattle.hp_zone.specs.declared.names.Names.{Names as NamesView}
use Rattle.hp_hall.specs.Own.{Own, after_ack, rows_known}
use Rattle.hp_hall.proofs.Gives.{entries_made-none}
use Rattle.hp_plain.proofs.Opened.{opened_home, opened_segs, opened_unheld, opened_unused}
use Rattle.hp_heap.specs.History.{HeapView}
use Rattle.hp_heap.specs.HistoryLaws.{runs_grown}
use Rattle.hp_log.specs.declared.log_record.LogRecord.{LogRecord}
use Rattle.hp_maps.specs.MapsView.{MapsView, chunk_rows, table_in}
use Rattle.hp_script.specs.declared.workload.Workload.{Workload}
use Rattle.hp_segs.specs.LaterSteps.{armed_ask}
use Rattle.hp_segs.specs.Opening.{is_present}
use Rattle.hp_segs.specs.SegsView.{SegsView, is_member}
use Rattle.hp_segs.specs.declared.ask.Ask.{Ask}
use Rattle.hp_proc.specs.Courses.{first_standing}
use Rattle.hp_proc.specs.Heaps.{names_socket, sockets_of}
use Rattle.hp_proc.specs.LinesDone.{Course, opening_standing}
use Rattle.hp_base.specs.Telling.{Listener}
use Rattle.thm_run.specs.Registered.{IsRegisteredBy}
use Rattle.hp_serve.specs.Party.{Party, first_core}
use Rattle.hp_proc.specs.Progress.{MayDo, moment_of}
use Rattle.hp_proc.specs.OwnChunks.{own_chunk}
use Rattle.hp_serve.specs.Tied.{HasChunks, IsTied, no_chunks, part_of}
use Rattle.hp_serve.proofs.Attached.{nothing_marked}
use Rattle.hp_serve.proofs.Tying.{tied_marks}
use Rattle.hp_proc.proofs.Joining.{asked_none}
use Rattle.hp_proc.proofs.Unarmed.{all_alike}
use Rattle.thm_run.proofs.RunFacts.Unmarked.{first_unmarked}
use Rattle.thm_run.proofs.SlotAlong.{opened_names}
use Rattle.thm_run.proofs.SeatFacts.FirstSegs.{armed_first, member_first, present_declared, sound_first}
use Rattle.thm_run.specs.Seats.{Seat}
use Rattle.thm_run.specs.SoFar.{AreFirstHeaps, AreSoundNames, IsOfDeclared, IsSoFarFor, SoFar, doer_of, first_hall, first_names, first_segs, standing_of}
use Rattle.thm_run.specs.Together.{IsFirst, IsFirstSeat, GlobalState, RunsByMail}
use Rattle.thm_run.specs.EndLaws.{IsFirstParty, IsGiven, OpensSoFar}
use Rattle.thm_run.proofs.SeatFacts.PartsOn.{log_shown}

-- no more sockets are named than there are
pub few_sockets : (pools : List PoolLine) → length (sockets_of pools) ≤ 32
few_sockets pools =
    omega (
      arith,
      length-filter (names_socket pools) (range_with_len 0 32),
      count_by-le-length (names_socket pools) (range_with_len 0 32),
      length-range_with_len 0 32,
    )

-- the slot of each number takes the pages that the heap of that number takes, where there is one
serves_first : (held : List HeldHeap) (segs : SegsView) (names : NamesView) (serves : ℕ → Option ℕ)
    → ((place : ℕ) (heap : HeapView) → slice_get (heaps_in held) place ≡ Some heap → heap.plain.serves ≡ serves place)
    → ((place : ℕ) → length (heaps_in held) ≤ place → serves place ≡ None) → (place : ℕ)
    → serves_in (slice_get (slots_of held segs names) place) ≡ serves place
serves_first [] segs names serves each beyond zero = sym (beyond zero (omega arith))
serves_first [] segs names serves each beyond (suc zero) = sym (beyond (suc zero) (omega arith))
serves_first [] segs names serves each beyond (suc (suc place)) = sym (beyond (suc (suc place)) (omega arith))
serves_first (one ∷ held) segs names serves each beyond zero = each zero one.heap refl
serves_first (one ∷ held) segs names serves each beyond (suc place) =
    serves_first held segs names (λ place. serves (suc place)) (λ place. each (suc place)) (λ place past. beyond (suc place) (omega arith))
    place

-- no slot has a history
unused_slots : (held : List HeldHeap) (segs : SegsView) (names : NamesView) → AreUnused (heaps_in held) → (place : ℕ)
    → history_in (slice_get (slots_of held segs names) place) ≡ []
unused_slots [] segs names unused zero = refl
unused_slots [] segs names unused (suc zero) = refl
unused_slots [] segs names unused (suc (suc place)) = refl
unused_slots (one ∷ held) segs names unused zero = unused zero one.heap refl
unused_slots (one ∷ held) segs names unused (suc place) = unused_slots held segs names (λ number. unused (suc number)) place

none_grown : runs_grown [] ≡ []
unfolding runs_grown
none_grown = refl

none_armed : (armed : Option Ask) (ask : Ask) → armed ≡ None → armed ≡ Some ask → ⊥
none_armed armed ask none some = cc

-- who is attached or not has taken in nothing yet
part_first : (joined : Bool) → part_of joined (after_ack 0) ≡ after_ack 0
part_first true = refl
part_first false = refl

-- an empty table is tied to a hall that opens
tied_first : (log : List LogRecord) (own : Own) (joined : Bool) (maps : MapsView) → log ≡ [] → own ≡ after_ack 0 → maps.rows ≡ []
    → maps.number ≡ 0 → MAX_SEGMENTS ≤ maps.capacity → IsTied log own no_chunks joined maps
tied_first log own joined maps none nothing empty first room =
    let part : part_of joined own ≡ after_ack 0 = ap (part_of joined) nothing ∙ part_first joined in
    record {
      within = omega (arith, ap (λ (own : Own). own.number) nothing);
      table = record {
        number = first ∙ sym (ap (λ (own : Own). own.number) part);
        rows = subst (λ (own : Own). table_in maps.rows ≡ rows_known log own) (sym part) (ap table_in empty);
        behind = omega (arith, ap (λ (own : Own). own.number) part, ap (λ (own : Own). own.unmapped) part);
        seen = omega (arith, ap (λ (own : Own). own.unmapped) part);
        chunks = subst (HasChunks no_chunks) (sym (ap chunk_rows empty)) nothing_marked;
        room = room;
      };
    }

-- a participant before its first step, with nothing done
abbrev first_seat : Party → Seat
first_seat party = record {
  party = party;
  standing = first_standing party.joined;
  lines = [];
  trace = [];
  fetched = [];
  asking = None;
}

-- a seat of one of these participants
record IsSeatFor (parties : List Party) (who : ℕ) (seat : Seat) : Type 0 where
  party : Party
  there : slice_get parties who ≡ Some party
  is : seat ≡ first_seat party

seat_for : (parties : List Party) (who : ℕ) (seat : Seat) (party : Option Party) → slice_get parties who ≡ party
    → option_map first_seat party ≡ Some seat → IsSeatFor parties who seat
seat_for parties who seat None there is = cc
seat_for parties who seat (Some party) there is = record { party = party; there = there; is = cc }

its_seat : (parties : List Party) (who : ℕ) (seat : Seat) → slice_get (map first_seat parties) who ≡ Some seat → IsSeatFor parties who seat
its_seat parties who seat at =
    seat_for parties who seat (slice_get parties who) refl (sym (slice_get-map first_seat parties who) ∙ at)

module _ (workload : Workload) (held : List HeldHeap) (given : IsGiven workload) (first_heaps : AreFirstHeaps workload (heaps_in held))
    (named : AreSoundNames (first_names workload)) where
  abbrev value : SegsView
  value = first_segs workload

  abbrev opened : HallView
  opened = first_hall workload held

  many : length held ≡ MAX_HEAPS
  many = sym (length-map held (λ (one : HeldHeap). one.heap)) ∙ first_heaps.in_order.count

  its_segs : segs_in (slot_at opened MAX_HEAPS) ≡ Some value
  its_segs = opened_segs value (first_names workload) held MAX_HEAPS many

  -- a declared participant before its first line
  module _ (who : ℕ) (below : who < workload.participants) (party : Party) (is : IsFirstParty workload who party) where
    abbrev present : Bool
    present = is_present workload.participants workload.absent who

    its_joined : party.joined ≡ present
    its_joined = ap (λ (party : Party). party.joined) is.is

    is_enrolled : is_member value.roster who ≡ party.joined
    is_enrolled =
        member_first workload.participants workload.absent who (omega (arith, below, given.few)) ∙ sym its_joined

    its_maps : party.maps ≡ is.maps
    its_maps = ap (λ (party : Party). party.maps) is.is

    attached : present ≡ (opening_standing workload who).attached
    attached = present_declared workload.participants workload.absent who below

    standing_first : (first_seat party).standing ≡ standing_of workload who []
    standing_first =
        ap first_standing (its_joined ∙ attached)

    seat_first : IsFirstSeat who value (first_seat party)
    seat_first = record {
      me = ap (λ (party : Party). party.me) is.is;
      joined = sym is_enrolled;
      core = ap (λ (party : Party). party.core) is.is
          ∙ ap (first_core who) (sym (ap (λ (party : Party). party.deadline) is.is));
      asked = ap (λ (party : Party). party.asked) is.is;
      answers = ap (λ (maps : MapsView). maps.answers) its_maps ∙ is.answers;
      rows = ap (λ (maps : MapsView). maps.rows) its_maps ∙ is.rows;
      number = ap (λ (maps : MapsView). maps.number) its_maps ∙ is.number;
      lines = refl;
      trace = refl;
      fetched = refl;
      asking = refl;
      listeners = ap (λ (party : Party). party.listeners) is.is;
      watchers = refl;
      validators = refl;
    }

    unarmed : (heap : ℕ) → (part_in opened who heap).armed ≡ None
    unarmed heap =
        ap (option_and_then (λ (segs : SegsView). armed_ask segs who)) its_segs ∙ all_alike None 16 who

    nothing_made : (heap : ℕ) → (part_in opened who heap).entries ≡ []
    nothing_made heap = opened_unused value (first_names workload) held workload.participants first_heaps.unused who heap

    sockets_first : (heap : ℕ) → (part_in opened who heap).serves ≡ slice_get (sockets_of workload.pools.items) heap
    sockets_first =
        serves_first held value (first_names workload) (slice_get (sockets_of workload.pools.items)) (λ place heap at. (first_heaps.each place heap at).serves)
        (λ place past. slice_get_past (sockets_of workload.pools.items) place
        (omega (arith, past, few_sockets workload.pools.items, first_heaps.in_order.count)))

    ready_first : MayDo (moment_of (doer_of workload who [] party) (part_in opened who) (seen_in opened) (heard_in opened))
    ready_first = record {
      sockets = sockets_first;
      unheld = λ heap. opened_unheld value (first_names workload) held workload.participants who heap;
      settled = λ heap ask armed its. absurd (none_armed (part_in opened who heap).armed ask (unarmed heap) armed);
      counted = sym (entries_made-none (part_in opened who) nothing_made);
    }

    so_first : IsSoFarFor workload [] opened who party
    so_first = record {
      me = ap (λ (party : Party). party.me) is.is;
      socket = ap (λ (party : Party). party.socket) is.is;
      deadline = ap (λ (party : Party). party.deadline) is.is;
      joined = its_joined ∙ attached;
      since = λ its. omega arith;
      entries = nothing_made;
      asked = asked_none (seen_in opened) (heard_in opened) who 0 party.asked (ap (λ (party : Party). party.asked) is.is);
      ready = ready_first;
      tied =
          tied_marks (seen_in opened) (own_at opened who) no_chunks (λ heap. (part_in opened who heap).marked) party.joined party.maps
          (first_unmarked workload held first_heaps who)
          (tied_first (seen_in opened) (own_at opened who) party.joined party.maps (log_shown opened value its_segs)
          (all_alike (after_ack 0) workload.participants who) (ap (λ (maps : MapsView). maps.rows) its_maps ∙ is.rows)
          (ap (λ (maps : MapsView). maps.number) its_maps ∙ is.number)
          (omega (arith, ap (λ (maps : MapsView). maps.capacity) its_maps, is.room)));
      left = λ out. first_unmarked workload held first_heaps who;
      chunks = λ heap. ap (map (own_chunk heap)) (first_unmarked workload held first_heaps who heap);
    }

  module _ (parties : List Party) (count : length parties ≡ workload.participants)
      (are : (who : ℕ) (party : Party) → slice_get parties who ≡ Some party → IsFirstParty workload who party) where
    abbrev here : GlobalState
    here = record { seats = map first_seat parties; segs = value; boxes = replicate workload.participants [] }

    declared : (who : ℕ) (party : Party) → slice_get parties who ≡ Some party → who < workload.participants
    declared who party at = omega (arith, count, slice_get_within parties who party at)

    seat_at : (who : ℕ) (seat : Seat) → slice_get (map first_seat parties) who ≡ Some seat → IsFirstSeat who value seat
    seat_at who seat at =
        let its = its_seat parties who seat at in
        subst (IsFirstSeat who value) (sym its.is)
        (seat_first who (declared who its.party its.there) its.party (are who its.party its.there))

    is_first : IsFirst workload.participants workload.absent workload.pools.items here
    is_first = record {
      seats = length-map parties first_seat ∙ count;
      each = seat_at;
      segs = refl;
      sound = sound_first workload.pools.items workload.participants workload.absent given.pools given.primary given.present;
      armed = armed_first workload.pools.items workload.participants workload.absent;
      boxes = refl;
    }

    opens_here : SoFar workload [] parties opened
    opens_here = record {
      held = held;
      first_heaps = first_heaps;
      names_sound = named;
      course = course_same opened;
      home = opened_home value (first_names workload) workload.participants held many;
      names = first_names workload;
      named = opened_names value (first_names workload) held MAX_HEAPS many;
      opened = refl;
      leave = refl;
      first = here;
      now = here;
      is_first = is_first;
      runs = RunsByMail.stands here;
      its_segs = its_segs;
      its_boxes = refl;
      count = count;
      seats = λ who seat at.
          let its = its_seat parties who seat at in
          record {
            party = its.there ∙ ap (λ (seat : Seat). Some seat.party) (sym its.is);
            standing = ap (λ (seat : Seat). seat.standing) its.is
                ∙ standing_first who (declared who its.party its.there) its.party (are who its.party its.there);
            lines = ap (λ (seat : Seat). seat.lines) its.is;
            trace = ap (λ (seat : Seat). seat.trace) its.is;
          };
      roster = λ who seat at. sym (seat_at who seat at).joined;
      each = λ who party at. so_first who (declared who party at) party (are who party at);
      registered = λ who party at.
          subst (All (λ (listener : Listener).
          IsRegisteredBy who (own_at opened who).number (opening_standing workload who) value.log value.asks [] listener.name listener.since))
          (sym (ap (λ (party : Party). party.listeners) (are who party at).is))
          (All-nil (λ (listener : Listener).
          IsRegisteredBy who (own_at opened who).number (opening_standing workload who) value.log value.asks [] listener.name listener.since));
      told = λ who below. all_alike 0 workload.participants who;
      among = All-nil (λ (course : Course). Contains workload.lines.items course.line);
      built = All-nil (IsOfDeclared workload.participants);
      done = λ who below. tt;
      in_order = λ index. unused_slots held value (first_names workload) first_heaps.unused index;
      seen = record { rising = IsNonDecreasingBy-short (λ (n : ℕ). n) [] (omega arith); most = All-nil (λ (n : ℕ). n ≤ 0) };
      grown = λ index few. none_grown;
    }

-- before the first line, in a hall that opens over the heaps of a workload and its opening segment value
pub so_far_opens : OpensSoFar
so_far_opens workload held parties given first_heaps named count are = opens_here workload held given first_heaps named parties count are
