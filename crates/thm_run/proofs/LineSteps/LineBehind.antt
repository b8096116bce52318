-- What each participant knows after a line, and what the line left: its entries in histories, and that it was done.
use Rattle.std.proofs.Common.{◌≡◌, ◌≢◌, ◌∙◌, ℕ, ◌+◌, ◌<◌, eqb, List, [], ◌∷◌, ◌++◌, append-nil, length, Some, refl, ap, sym, subst, arith, ⊎_elim}
use Rattle.std.specs.Prelude.{slice_get}
use Rattle.std.specs.List.{All, AllByRecursion}
use Rattle.std.proofs.lemmas.Bool.{cases_eq, cond-true, eq-eqb}
use Rattle.std.proofs.lemmas.List.{append_cancel_left}
use Rattle.std.proofs.lemmas.List.Elements.{All-push}
use Rattle.std.proofs.lemmas.Option.{same_Some, slice_get_within}
use Rattle.hp_heap.specs.declared.entry.Entry.{Entry}
use Rattle.hp_heap.specs.History.{entries_of}
use Rattle.hp_plain.proofs.Given.{entries_of-append}
use Rattle.hp_plain.specs.HallView.{HallView, heard_in, history_in, part_in, seen_in, slot_at}
use Rattle.hp_script.specs.declared.answer.Answer.{Answer}
use Rattle.hp_script.specs.declared.line.Line.{Line}
use Rattle.hp_script.specs.declared.workload.Workload.{Workload}
use Rattle.hp_proc.specs.Acting.{AreAsked}
use Rattle.hp_proc.specs.Contexts.{Context}
use Rattle.hp_proc.specs.Courses.{Standing, calls_in}
use Rattle.hp_proc.specs.Doing.{Done}
use Rattle.hp_proc.specs.Ends.{history_by, none_made}
use Rattle.hp_proc.specs.Histories.{entries_for}
use Rattle.hp_proc.specs.LinesDone.{AreDone, Course, IsDone, courses_of, opening_standing, standing_after, trace_of}
use Rattle.hp_proc.specs.OwnChunks.{chunks_of}
use Rattle.hp_serve.specs.Party.{Party}
use Rattle.hp_proc.specs.Progress.{MayDo, moment_of}
use Rattle.hp_proc.proofs.Joining.{asked_on}
use Rattle.hp_proc.proofs.LineEnds.{line_asked, line_asks, line_entries, line_log}
use Rattle.thm_run.specs.EndLaws.{GoesBy, IsGiven}
use Rattle.thm_run.specs.Seats.{EndedLine, Seat}
use Rattle.thm_run.specs.SoFar.{IsOfDeclared, IsSoFarFor, SoFar, trace_for}
use Rattle.thm_run.specs.Together.{GlobalState}
use Rattle.thm_run.proofs.LineSteps.Arriving.{came, last_of, runs_all}
use Rattle.thm_run.proofs.GrownHeaps.GrownLines.{calls_made, history_append}
use Rattle.thm_run.proofs.LineSteps.LineComes.{course_of, ended, its, knows, later, left, line_comes, line_gives, line_tries_so, more, other_more, trace, who}
use Rattle.thm_run.proofs.LineSteps.LineMore.{asked_later, context_stays, done_more, entries_more, known_next, other_courses, own_calls, own_courses, own_trace}
use Rattle.thm_run.proofs.LineSteps.OthersKnown.{known_still}
use Rattle.thm_run.proofs.SeatFacts.PartsOn.{history_on}
use Rattle.thm_run.proofs.RunFacts.SoFarFacts.{seat_of}
use Rattle.thm_run.proofs.RunFacts.SoFarOn.{IsKnownFor}
use Rattle.thm_run.proofs.PathSteps.WaysOn.{AllCame}

-- entries of one participant are all its own
all_own : (own : ℕ) (entries : List Entry) → AllByRecursion (λ entry. entry.caller.participant ≡ own) entries
    → entries_of own entries ≡ entries
unfolding entries_of
all_own own [] all = refl
all_own own (entry ∷ entries) all =
    cond-true (eqb entry.caller.participant own) (entry ∷ entries_of own entries) (entries_of own entries)
    (eq-eqb entry.caller.participant own all.0)
    ∙ ap (λ (rest : List Entry). entry ∷ rest) (all_own own entries all.1)

module _ (workload : Workload) (courses : List Course) (parties behind : List Party) (old new : HallView) (line : Line) (answer : Answer)
    (given : IsGiven workload) (so : SoFar workload courses parties old) (goes : GoesBy workload courses line answer parties behind old new) where
  abbrev by : ℕ
  by = who workload courses parties behind old new line answer given so goes

  abbrev did : List Done
  did = trace workload courses parties behind old new line answer given so goes

  abbrev one : Course
  one = course_of workload courses parties behind old new line answer given so goes

  abbrev lines : List Course
  lines = later workload courses parties behind old new line answer given so goes

  abbrev adds : ℕ → List Done
  adds = more workload courses parties behind old new line answer given so goes

  abbrev leaves : ℕ → Standing
  leaves = left workload courses parties behind old new line answer given so goes

  abbrev ends : ℕ → List EndedLine
  ends = ended workload courses parties behind old new line answer given so goes

  -- where all have come to
  abbrev pub all_came : AllCame workload.participants so.now behind adds leaves ends new
  all_came =
      came workload courses parties behind old new so given.few goes.course adds leaves ends
      (line_comes workload courses parties behind old new line answer given so goes)
      (line_tries_so workload courses parties behind old new line answer given so goes)

  abbrev pub there : GlobalState
  there = record { seats = all_came.lasts; segs = all_came.gone.segs; boxes = new.boxes }

  -- what stood for the doer when the line began
  abbrev before : IsSoFarFor workload courses old by goes.doer.party
  before = its workload courses parties behind old new line answer given so goes

  -- THE DOER

  own_asked : AreAsked (seen_in new) (heard_in new) by 0 goes.after.party.asked (trace_for by lines)
  own_asked =
      let line_did = goes.does.does in
      let does = line_did.does in
      subst (λ (trace : List Done). AreAsked (seen_in new) (heard_in new) by 0 goes.after.party.asked trace)
      (sym (own_trace workload by courses one refl))
      (asked_on (seen_in new) (heard_in new) by 0 goes.doer.party.asked goes.after.party.asked (trace_for by courses) did
      (asked_later (seen_in old) does.more (seen_in new) (heard_in old) does.outcomes (heard_in new) by 0 goes.doer.party.asked
      (trace_for by courses) (line_log line_did) (line_asks line_did) before.asked)
      (subst (λ (who : ℕ). AreAsked (seen_in new) (heard_in new) who goes.doer.party.asked goes.after.party.asked did) before.me (line_asked line_did)))

  own_known : IsKnownFor workload lines new by goes.after.party
  own_known =
      record {
        me = goes.does.same.me ∙ before.me;
        socket = goes.does.same.socket ∙ before.socket;
        deadline = goes.does.same.deadline ∙ before.deadline;
        entries = λ heap.
            entries_more goes.doer.party.me by heap goes.doer.context.calls (calls_in (trace_for by courses)) (calls_in did)
            (calls_in (trace_for by lines)) (part_in old by heap).entries (part_in new by heap).entries before.me
            (ap (λ (context : Context). context.calls) goes.knew) (before.entries heap) (line_entries goes.does.does heap)
            (own_calls workload by courses one refl);
        asked = own_asked;
        ready = subst (λ (context : Context). MayDo (moment_of (record { party = goes.after.party; context = context }) (part_in new by)
            (seen_in new) (heard_in new))) (knows workload courses parties behind old new line answer given so goes) goes.does.ready;
        tied = goes.does.tied;
        left = goes.does.left;
        chunks = λ heap.
            goes.does.chunks heap
            ∙ ap (λ (context : Context). chunks_of heap context.standing.chunks)
            (knows workload courses parties behind old new line answer given so goes);
      }

  -- EACH OTHER ONE

  other_known : (other : ℕ) (after : Party) → other ≢ by → other < workload.participants → slice_get behind other ≡ Some after
      → IsKnownFor workload lines new other after
  other_known other after beside below behind_at =
      let seat = seat_of workload courses parties old so other below in
      let last =
      last_of workload courses parties behind old new so given.few goes.course adds leaves ends
      (line_comes workload courses parties behind old new line answer given so goes)
      (line_tries_so workload courses parties behind old new line answer given so goes) other below in
      let were = all_came.were other last.it last.there in
      let same_seat : were.0 ≡ seat.it = same_Some were.0 seat.it (sym were.1 ∙ seat.there) in
      let still : last.it.trace ≡ seat.it.trace =
      were.3
      ∙ ap (λ (seat : Seat). seat.trace ++ adds other) same_seat
      ∙ ap (λ (more : List Done). seat.it.trace ++ more)
      (other_more workload courses parties behind old new line answer given so goes other beside)
      ∙ append-nil seat.it.trace in
      let party_is = (so.seats other seat.it seat.there).party in
      let far = goes.others other seat.it.party after beside party_is behind_at in
      known_still workload courses lines parties old new so goes.course goes.home there
      (runs_all workload courses parties behind old new so given.few goes.course adds leaves ends
      (line_comes workload courses parties behind old new line answer given so goes)
      (line_tries_so workload courses parties behind old new line answer given so goes))
      all_came.gone.its (λ other. other ≡ by) (line_gives workload courses parties behind old new line answer given so goes) other beside
      seat.it.party after seat.it last.it seat.there last.there refl (same_Some last.it.party after (sym were.2 ∙ behind_at)) still
      (so.each other seat.it.party party_is) (so.seats other seat.it seat.there).trace far.same
      (context_stays workload other courses one beside)
      (ap (λ (lines : List Course). trace_of lines) (other_courses other courses one beside)) far.tied far.left

  pub line_known : (other : ℕ) (after : Party) → slice_get behind other ≡ Some after → IsKnownFor workload lines new other after
  line_known other after behind_at =
      ⊎_elim
      (λ (same : other ≡ by).
      let own : after ≡ goes.after.party = same_Some after goes.after.party (sym behind_at ∙ ap (slice_get behind) same ∙ goes.behind_is) in
      subst (λ (other : ℕ). IsKnownFor workload lines new other after) (sym same)
      (subst (λ (after : Party). IsKnownFor workload lines new by after) (sym own) own_known))
      (λ (beside : other ≢ by).
      other_known other after beside (omega (arith, slice_get_within behind other after behind_at, goes.count, so.count)) behind_at)
      (cases_eq other by)

  -- THE LINE

  pub line_built : All (IsOfDeclared workload.participants) lines
  line_built = All-push (IsOfDeclared workload.participants) courses one so.built (record { declared = goes.declared; act = goes.may })

  pub line_is_done : IsDone workload (standing_after (opening_standing workload by) (courses_of by courses)) one
  line_is_done = record {
    facts = goes.does.does.facts;
    known = known_next workload by courses goes.doer.party.socket goes.doer.context line goes.does.does.facts before.socket goes.knew refl
        goes.does.does.known;
    does = goes.does.does.does.leads;
  }

  pub line_done : (other : ℕ) → other < workload.participants → AreDone workload (opening_standing workload other) (courses_of other lines)
  line_done other below =
      ⊎_elim
      (λ (same : other ≡ by).
      subst (λ (other : ℕ). AreDone workload (opening_standing workload other) (courses_of other lines)) (sym same)
      (subst (AreDone workload (opening_standing workload by)) (sym (own_courses by courses one refl))
      (done_more workload (opening_standing workload by) (courses_of by courses) one (so.done by goes.declared) line_is_done)))
      (λ (beside : other ≢ by).
      subst (AreDone workload (opening_standing workload other)) (sym (other_courses other courses one beside)) (so.done other below))
      (cases_eq other by)

  -- its entries come after all others
  pub line_history : (index : ℕ) → history_in (slot_at new index)
      ≡ history_in (slot_at old index) ++ entries_for by index (length (calls_in (trace_for by courses)) + 1) (calls_in did)
  line_history index =
      let came = history_on (λ other. other ≡ by) old new goes.course
      (line_gives workload courses parties behind old new line answer given so goes) index in
      let own : entries_of by (history_in (slot_at old index)) ++ came.more
      ≡ entries_of by (history_in (slot_at old index))
      ++ entries_for goes.doer.party.me index (goes.doer.context.calls + 1) (calls_in did) =
      ap (λ (entries : List Entry). entries_of by (history_in (slot_at old index)) ++ entries) (sym (all_own by came.more came.all))
      ∙ sym (entries_of-append by (history_in (slot_at old index)) came.more)
      ∙ sym (ap (entries_of by) came.is)
      ∙ line_entries goes.does.does index in
      let is : came.more ≡ entries_for goes.doer.party.me index (goes.doer.context.calls + 1) (calls_in did) =
      append_cancel_left (entries_of by (history_in (slot_at old index))) came.more _ own in
      came.is
      ∙ ap (λ (entries : List Entry). history_in (slot_at old index) ++ entries) is
      ∙ ap (λ (who : ℕ). history_in (slot_at old index) ++ entries_for who index (goes.doer.context.calls + 1) (calls_in did)) before.me
      ∙ ap (λ (context : Context). history_in (slot_at old index) ++ entries_for by index (context.calls + 1) (calls_in did)) goes.knew

  pub line_in_order : (index : ℕ) → history_in (slot_at new index) ≡ history_by index none_made lines
  line_in_order index =
      let number : length (calls_in (trace_for by courses)) + 1 ≡ calls_made none_made by courses + 1 = omega arith in
      line_history index
      ∙ ap (λ (entries : List Entry). entries ++ entries_for by index (length (calls_in (trace_for by courses)) + 1) (calls_in did))
      (so.in_order index)
      ∙ ap (λ (number : ℕ). history_by index none_made courses ++ entries_for by index number (calls_in did)) number
      ∙ sym (history_append index none_made courses one)
