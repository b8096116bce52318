-- How far a workload was run, in a later hall: what its participants came to and what lines left, put together.
use Rattle.std.proofs.Common.{◌≡◌, ◌∙◌, ℕ, ◌<◌, false, List, [], ◌++◌, length, Some, refl, ap, sym, arith}
use Rattle.std.specs.Prelude.{Contains, slice_get, slice_index}
use Rattle.std.specs.List.{All}
use Rattle.std.proofs.lemmas.Option.{slice_get_within, same_Some}
use Rattle.hp_base.specs.declared.limits.TheConstants.{MAX_HEAPS}
use Rattle.hp_plain.specs.Course.{IsCourse, course_then}
use Rattle.hp_plain.specs.HallView.{HallView, heard_in, history_in, lines_at, own_at, part_in, seen_in, slot_at}
use Rattle.hp_plain.specs.Keeping.{values_in}
use Rattle.hp_plain.specs.Opening.{AreHome}
use Rattle.hp_hall.specs.declared.kept.Kept.TheVariants.{Names}
use Rattle.hp_hall.specs.declared.slot.TheConstants.{NAMES_SLOT}
use Rattle.hp_script.specs.declared.workload.Workload.{Workload}
use Rattle.hp_proc.specs.Acting.{AreAsked}
use Rattle.hp_proc.specs.Courses.{Standing, calls_in}
use Rattle.hp_proc.specs.Doing.{Done}
use Rattle.hp_proc.specs.Ends.{history_by, none_made}
use Rattle.hp_heap.specs.HistoryLaws.{runs_grown}
use Rattle.hp_segs.specs.GrantedRuns.{granted_runs}
use Rattle.hp_proc.specs.Handing.{shared_of}
use Rattle.hp_proc.specs.Heaps.{sockets_of}
use Rattle.hp_proc.specs.Histories.{entries_for}
use Rattle.hp_proc.specs.LinesDone.{AreDone, Course, courses_of, opening_standing}
use Rattle.hp_proc.specs.OneThread.{names_by}
use Rattle.hp_proc.specs.OwnChunks.{AreMarkedAs}
use Rattle.hp_serve.specs.Party.{Party}
use Rattle.hp_proc.specs.Progress.{MayDo, moment_of}
use Rattle.hp_proc.specs.Seen.{AreSeen, seen_by_lines}
use Rattle.hp_serve.specs.Tied.{IsTied}
use Rattle.hp_zone.specs.declared.names.Names.{Names as NamesView}
use Rattle.thm_run.specs.Seats.{EndedLine, Seat}
use Rattle.thm_run.specs.SoFar.{AreRegistered, IsOfDeclared, IsSoFarFor, SoFar, doer_of, first_hall, standing_of, ended_for, trace_for}
use Rattle.thm_run.specs.Together.{GlobalState, RunsByMail}
use Rattle.thm_run.proofs.RunFacts.Attached.{AreAsLeft, IsAsLeft}
use Rattle.thm_run.proofs.SeatFacts.Roster.{AreEnrolled}
use Rattle.thm_run.proofs.RunFacts.SoFarFacts.{at_place, seats_many}
use Rattle.thm_run.proofs.PathSteps.WaysOn.{AllCame}

-- a participant there, by what it had and did itself
pub record IsKnownFor (workload : Workload) (courses : List Course) (hall : HallView) (who : ℕ) (party : Party) : Type 0 where
  pub me : party.me ≡ who
  pub socket : party.socket ≡ slice_index workload.sockets who
  pub deadline : party.deadline ≡ workload.deadline
  pub entries : (heap : ℕ) → (part_in hall who heap).entries ≡ entries_for who heap 1 (calls_in (trace_for who courses))
  pub asked : AreAsked (seen_in hall) (heard_in hall) who 0 party.asked (trace_for who courses)
  pub ready : MayDo (moment_of (doer_of workload who courses party) (part_in hall who) (seen_in hall) (heard_in hall))
  pub tied : IsTied (seen_in hall) (own_at hall who) (λ heap. (part_in hall who heap).marked) party.joined party.maps
  pub left : party.joined ≡ false → (heap : ℕ) → (part_in hall who heap).marked ≡ []
  pub chunks : (heap : ℕ) → AreMarkedAs heap (part_in hall who heap).marked (standing_of workload who courses).chunks

-- what lines left, in the names too, and that they were told to be done
pub record AreLinesThere (workload : Workload) (courses : List Course) (hall : HallView) (at : GlobalState) : Type 0 where
  pub among : All (λ course. Contains workload.lines.items course.line) courses
  pub built : All (IsOfDeclared workload.participants) courses
  pub done : (who : ℕ) → who < workload.participants → AreDone workload (opening_standing workload who) (courses_of who courses)
  pub in_order : (index : ℕ) → history_in (slot_at hall index) ≡ history_by index none_made courses
  pub seen : AreSeen (length at.segs.log) (seen_by_lines at.segs.log at.segs.asks none_made courses)
  pub grown : (index : ℕ) → index < MAX_HEAPS
      → runs_grown (history_by index none_made courses) ≡ granted_runs index at.segs.asks 1 at.segs.log
  pub names : NamesView
  pub named : slice_get (values_in hall) NAMES_SLOT ≡ Some (Names names)
  pub opened : names.heaps.sockets ≡ sockets_of workload.pools.items
  pub leave : shared_of names ≡ names_by courses
  pub told : (who : ℕ) → who < workload.participants → lines_at hall who ≡ length (courses_of who courses)

module _ (workload : Workload) (courses later : List Course) (parties behind : List Party) (old new : HallView)
    (so : SoFar workload courses parties old) (course : IsCourse old new) (home : AreHome new) (size : length behind ≡ length parties)
    (more : ℕ → List Done) (ended : ℕ → List EndedLine)
    (came : AllCame workload.participants so.now behind more (λ who. standing_of workload who later) ended new) where
  abbrev there : GlobalState
  there = record { seats = came.lasts; segs = came.gone.segs; boxes = new.boxes }

  -- a participant there is attached as its lines leave it
  so_far_for : (who : ℕ) (after : Party) (last : Seat) → last.party ≡ after → last.standing ≡ standing_of workload who later
      → IsKnownFor workload later new who after → IsAsLeft there.segs.log last → IsSoFarFor workload later new who after
  so_far_for who after last own standing its left =
      record {
        me = its.me;
        socket = its.socket;
        deadline = its.deadline;
        joined = ap (λ (party : Party). party.joined) (sym own) ∙ left.joined ∙ ap (λ (standing : Standing). standing.attached) standing;
        since = λ now.
            let taken = (left.since (ap (λ (party : Party). party.joined) own ∙ now)).taken in
            omega (
              arith,
              taken,
              ap (λ (standing : Standing). standing.records) standing,
              ap (λ (party : Party). party.maps.number) own,
            );
        entries = its.entries;
        asked = its.asked;
        ready = its.ready;
        tied = its.tied;
        left = its.left;
        chunks = its.chunks;
      }

  pub so_far_on : RunsByMail workload.participants so.first there → AreEnrolled there → AreAsLeft there
      → ((who : ℕ) (seat : Seat) → slice_get so.now.seats who ≡ Some seat → trace_for who later ≡ trace_for who courses ++ more who)
      → ((who : ℕ) (seat : Seat) → slice_get so.now.seats who ≡ Some seat
      → ended_for workload who later ≡ ended_for workload who courses ++ ended who)
      → ((who : ℕ) (after : Party) → slice_get behind who ≡ Some after → IsKnownFor workload later new who after)
      → AreLinesThere workload later new there
      → ((who : ℕ) (after : Party) → slice_get behind who ≡ Some after
      → AreRegistered workload later (own_at new who).number there.segs.log there.segs.asks who after) → SoFar workload later behind new
  so_far_on runs enrolled left traces endings known lines registered = record {
    held = so.held;
    first_heaps = so.first_heaps;
    names_sound = so.names_sound;
    course = course_then (first_hall workload so.held) old new so.course course;
    home = home;
    names = lines.names;
    named = lines.named;
    opened = lines.opened;
    leave = lines.leave;
    first = so.first;
    now = there;
    is_first = so.is_first;
    runs = runs;
    its_segs = came.gone.its;
    its_boxes = refl;
    count = size ∙ so.count;
    seats = λ who last at.
        let were = came.were who last at in
        record {
          party = were.2;
          standing = were.4;
          lines = were.5
              ∙ ap (λ (lines : List EndedLine). lines ++ ended who) (so.seats who were.0 were.1).lines
              ∙ sym (endings who were.0 were.1);
          trace = were.3
              ∙ ap (λ (trace : List Done). trace ++ more who) (so.seats who were.0 were.1).trace
              ∙ sym (traces who were.0 were.1);
        };
    roster = enrolled;
    each = λ who after at.
        let last = at_place came.lasts who (omega (arith, slice_get_within behind who after at, size, so.count, came.size, many)) in
        let own : last.it.party ≡ after = same_Some last.it.party after (sym (came.were who last.it last.there).2 ∙ at) in
        so_far_for who after last.it own (came.were who last.it last.there).4 (known who after at) (left who last.it last.there);
    registered = registered;
    told = lines.told;
    among = lines.among;
    built = lines.built;
    done = lines.done;
    in_order = lines.in_order;
    seen = lines.seen;
    grown = lines.grown;
  }
    where
      many : length so.now.seats ≡ workload.participants
      many = seats_many workload courses parties old so
