-- A participant that served while another one did its line, or after the last line: what it knows and what the heaps have of it stays.
use Rattle.std.proofs.Common.{◌≡◌, ◌∙◌, ℕ, true, false, List, [], ◌++◌, length, map, Option, Some, None, ap, sym, subst}
use Rattle.std.specs.Prelude.{slice_get}
use Rattle.std.specs.List.{list_any, range_with_len}
use Rattle.std.specs.Option.{option_and_then}
use Rattle.hp_base.specs.declared.limits.TheConstants.{MAX_HEAPS}
use Rattle.hp_plain.specs.Course.{IsCourse, course_heard, course_seen, course_then}
use Rattle.hp_plain.specs.CourseLaws.{AreSoundAndArmed}
use Rattle.hp_plain.specs.HallView.{HallView, heard_in, own_at, part_in, seen_in, segs_in, slot_at}
use Rattle.hp_plain.specs.Opening.{AreHome}
use Rattle.hp_hall.specs.Asks.{IsClaimedIn}
use Rattle.hp_hall.specs.declared.slot.TheConstants.{SLOTS}
use Rattle.hp_log.specs.declared.log_record.LogRecord.{LogRecord}
use Rattle.hp_script.specs.declared.workload.Workload.{Workload}
use Rattle.hp_segs.specs.LaterSteps.{armed_ask}
use Rattle.hp_segs.specs.SegsView.{SegsView, grants_or_refuses}
use Rattle.hp_segs.specs.Standing.{Holding}
use Rattle.hp_segs.specs.declared.ask.Ask.{Ask}
use Rattle.hp_segs.specs.declared.outcome.AskLog.{AskLog}
use Rattle.hp_proc.specs.Acting.{AreAsked}
use Rattle.hp_proc.specs.Contexts.{Context}
use Rattle.hp_proc.specs.Courses.{calls_in, numbered_in}
use Rattle.hp_proc.specs.Doing.{Done}
use Rattle.hp_proc.specs.Heaps.{sockets_of}
use Rattle.hp_proc.specs.Histories.{entries_for}
use Rattle.hp_proc.specs.LinesDone.{Course}
use Rattle.hp_proc.specs.OwnChunks.{chunks_of, own_chunk}
use Rattle.hp_serve.specs.Asking.{HasSettledAsks}
use Rattle.hp_serve.specs.Party.{IsSameParty, Party}
use Rattle.hp_proc.specs.Progress.{MayDo, moment_of}
use Rattle.hp_serve.specs.Tied.{IsTied}
use Rattle.thm_run.specs.Seats.{Seat}
use Rattle.thm_run.specs.SoFar.{IsSoFarFor, SoFar, context_of, doer_of, first_hall, trace_for}
use Rattle.thm_run.specs.Together.{GlobalState, RunsByMail}
use Rattle.thm_run.proofs.TracesTold.AsksSettled.{answered_of}
use Rattle.thm_run.proofs.HallFacts.HallHeaps.{first_sound}
use Rattle.thm_run.proofs.HeapGivers.{NoOtherGives}
use Rattle.thm_run.proofs.MarksAlong.{marks_rest}
use Rattle.thm_run.proofs.SoundHistories.{kept_sound}
use Rattle.thm_run.proofs.LineSteps.LineMore.{asked_later}
use Rattle.thm_run.proofs.SeatFacts.PartsOn.{asks_shown, entries_rest, log_shown, made_alike, serves_still, slots_still, unheld_at_home}
use Rattle.thm_run.proofs.SeenAndShown.Provenance.{asked_counts}
use Rattle.thm_run.proofs.RunFacts.SoFarFacts.{slots_so_far}
use Rattle.thm_run.proofs.RunFacts.SoFarOn.{IsKnownFor}

-- the ask with which a participant is armed in the segment value of a hall
pub armed_shown : (hall : HallView) (segs : SegsView) → segs_in (slot_at hall MAX_HEAPS) ≡ Some segs → (who heap : ℕ) (ask : Ask)
    → (part_in hall who heap).armed ≡ Some ask → armed_ask segs who ≡ Some ask
armed_shown hall segs is who heap ask armed =
    ap (option_and_then (λ (segs : SegsView). armed_ask segs who)) (sym is) ∙ armed

module _ (workload : Workload) (courses later : List Course) (parties : List Party) (old new : HallView)
    (so : SoFar workload courses parties old) (course : IsCourse old new) (home : AreHome new) (next : GlobalState)
    (runs : RunsByMail workload.participants so.first next) (its_segs : segs_in (slot_at new MAX_HEAPS) ≡ Some next.segs)
    (of : ℕ → Type 0) (gives : NoOtherGives of (length old.owns) course.steps) where
  module _ (who : ℕ) (apart : of who → ⊥) (party after : Party) (seat last : Seat) (early : slice_get so.now.seats who ≡ Some seat)
      (late : slice_get next.seats who ≡ Some last) (party_is : seat.party ≡ party) (after_is : last.party ≡ after)
      (still : last.trace ≡ seat.trace) (its : IsSoFarFor workload courses old who party) (own : seat.trace ≡ trace_for who courses)
      (same : IsSameParty party after) (context : context_of workload who later ≡ context_of workload who courses)
      (trace : trace_for who later ≡ trace_for who courses) (tied : IsTied (seen_in new) (own_at new who) (λ heap. (part_in new who heap).marked) after.joined after.maps)
      (out : after.joined ≡ false → (heap : ℕ) → (part_in new who heap).marked ≡ []) where
    -- the number of its last ask
    asked_same : after.asked ≡ party.asked
    asked_same =
        ap (λ (party : Party). party.asked) (sym after_is)
        ∙ asked_counts workload.participants workload.absent workload.pools.items so.first next so.is_first runs who last late
        ∙ ap (λ (trace : List Done). length (numbered_in trace)) still
        ∙ sym (asked_counts workload.participants workload.absent workload.pools.items so.first so.now so.is_first so.runs who seat early)
        ∙ ap (λ (party : Party). party.asked) party_is

    heard : (more : List AskLog) × (heard_in new ≡ heard_in old ++ more)
    heard = course_heard old new course

    seen : (more : List LogRecord) × (seen_in new ≡ seen_in old ++ more)
    seen = course_seen old new course

    -- its asks have their answers
    asked : AreAsked (seen_in new) (heard_in new) who 0 after.asked (trace_for who courses)
    asked =
        subst (λ (number : ℕ). AreAsked (seen_in new) (heard_in new) who 0 number (trace_for who courses)) (sym asked_same)
        (asked_later (seen_in old) seen.0 (seen_in new) (heard_in old) heard.0 (heard_in new) who 0 party.asked
        (trace_for who courses) seen.1
        heard.1 its.asked)

    asked_there : AreAsked next.segs.log next.segs.asks who 0 last.party.asked last.trace
    asked_there =
        subst (λ (log : List LogRecord). AreAsked log next.segs.asks who 0 last.party.asked last.trace) (log_shown new next.segs its_segs)
        (subst (λ (asks : List AskLog). AreAsked (seen_in new) asks who 0 last.party.asked last.trace) (asks_shown new next.segs its_segs)
        (subst (λ (number : ℕ). AreAsked (seen_in new) (heard_in new) who 0 number last.trace)
        (ap (λ (party : Party). party.asked) (sym after_is))
        (subst (λ (trace : List Done). AreAsked (seen_in new) (heard_in new) who 0 after.asked trace) (sym (still ∙ own)) asked)))

    unheld : (heap : ℕ) → (part_in new who heap).holding ≡ None
    unheld heap = unheld_at_home new home (slots_still old new course (slots_so_far workload courses parties old so)) who heap

    settled : HasSettledAsks (part_in new who) (heard_in new)
    settled heap ask armed heap_is = record {
      answered =
          subst (λ (asks : List AskLog). list_any (grants_or_refuses ask.from ask.number) asks ≡ true)
          (sym (asks_shown new next.segs its_segs))
          (answered_of workload.participants workload.absent workload.pools.items so.first next so.is_first runs who last late asked_there
          ask (armed_shown new next.segs its_segs who heap ask armed));
      claims = λ entry generation among from number granted.
          subst (λ (holding : Option Holding). IsClaimedIn holding entry) (sym (unheld heap)) tt;
    }

    -- the values of the hall are sound
    early_sound : AreSoundAndArmed old
    early_sound =
        kept_sound workload so.held so.first_heaps (first_sound workload courses parties old so) so.names_sound old so.course

    sound : AreSoundAndArmed new
    sound =
        kept_sound workload so.held so.first_heaps (first_sound workload courses parties old so) so.names_sound new
        (course_then (first_hall workload so.held) old new so.course course)

    entries : (heap : ℕ) → (part_in new who heap).entries ≡ (part_in old who heap).entries
    entries heap = entries_rest of old new course gives who apart heap

    ready : MayDo (moment_of (doer_of workload who later after) (part_in new who) (seen_in new) (heard_in new))
    ready = record {
      sockets = λ heap.
          serves_still old new course heap ∙ its.ready.sockets heap
          ∙ ap (λ (context : Context). slice_get (sockets_of context.pools) heap) (sym context);
      unheld = unheld;
      settled = settled;
      counted =
          ap (λ (context : Context). context.calls) context
          ∙ its.ready.counted
          ∙ sym (made_alike (part_in old who) (part_in new who) (range_with_len 0 SLOTS) entries);
    }

    pub known_still : IsKnownFor workload later new who after
    known_still = record {
      me = same.me ∙ its.me;
      socket = same.socket ∙ its.socket;
      deadline = same.deadline ∙ its.deadline;
      entries = λ heap. entries heap ∙ its.entries heap ∙ ap (λ (trace : List Done). entries_for who heap 1 (calls_in trace)) (sym trace);
      asked = subst (λ (trace : List Done). AreAsked (seen_in new) (heard_in new) who 0 after.asked trace) (sym trace) asked;
      ready = ready;
      tied = tied;
      left = out;
      chunks = λ heap.
          ap (map (own_chunk heap)) (marks_rest who of old new course gives early_sound sound apart heap)
          ∙ its.chunks heap
          ∙ ap (λ (context : Context). chunks_of heap context.standing.chunks) (sym context);
    }
