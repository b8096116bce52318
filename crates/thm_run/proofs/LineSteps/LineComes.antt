-- Behind a line each participant has come to where it is: the doer by what it did of it, and each other one by what it served.
use Rattle.std.proofs.Common.{◌≡◌, ◌≢◌, ◌∙◌, ◌==◌, ℕ, ◌+◌, ◌<◌, ◌≤◌, ne_eqb, cond, List, [], ◌∷◌, ◌++◌, append-nil, length, Option, Some, None, refl, ap, sym, subst, arith, inl, inr, ⊎_elim}
use Rattle.std.specs.Prelude.{slice_get}
use Rattle.std.proofs.lemmas.Bool.{cases_eq, cond-false, cond-true, eq-eqb}
use Rattle.std.proofs.lemmas.Option.{same_Some, slice_get_within}
use Rattle.hp_plain.specs.HallView.{HallView, lines_at}
use Rattle.hp_plain.specs.Keeping.{values_in}
use Rattle.hp_hall.specs.Mail.{MailStep, steps_of}
use Rattle.hp_hall.specs.declared.kept.Kept.{Kept}
use Rattle.hp_hall.specs.declared.kept.Kept.TheVariants.{Names}
use Rattle.hp_hall.specs.declared.note.Note.TheVariants.{LoadedDone, Stored}
use Rattle.hp_hall.specs.declared.slot.TheConstants.{NAMES_SLOT}
use Rattle.hp_script.specs.declared.answer.Answer.{Answer}
use Rattle.hp_script.specs.declared.line.Line.{Line}
use Rattle.hp_script.specs.declared.workload.Workload.{Workload}
use Rattle.hp_proc.specs.Contexts.{Context}
use Rattle.hp_proc.specs.Courses.{Standing, numbered_in}
use Rattle.hp_proc.specs.Doing.{Done}
use Rattle.hp_proc.specs.LinesDone.{Course, trace_of}
use Rattle.hp_proc.specs.ParticipantView.{ParticipantView, after_registering}
use Rattle.hp_proc.specs.Acting.{Acts}
use Rattle.hp_proc.specs.Progress.{Moment, doer_at}
use Rattle.hp_proc.proofs.LineEnds.{line_counted}
use Rattle.hp_serve.specs.Party.{Party}
use Rattle.thm_run.specs.EndLaws.{GoesBy, IsGiven, ServesBeside, tells_one_more}
use Rattle.thm_run.specs.Seats.{EndedLine, Seat}
use Rattle.thm_run.specs.SoFar.{IsSoFarFor, SoFar, context_of, ended_for, standing_of, trace_for}
use Rattle.thm_run.proofs.EndedLines.{last_ended, other_ended, own_ended}
use Rattle.thm_run.proofs.HeapGivers.{GiveNoHeap, NoOtherGives}
use Rattle.thm_run.proofs.SeatFacts.LastSeats.{CameTo}
use Rattle.thm_run.proofs.LineSteps.LineMore.{context_more, context_stays, other_courses, own_trace}
use Rattle.thm_run.proofs.LineSteps.LineTries.{TriesAtMostOnce, line_tries}
use Rattle.thm_run.proofs.NamesAlong.{LeavesNames, line_leaves}
use Rattle.thm_run.proofs.SlotAlong.{IsKeptAlong, IsNoSegs, along_front, kept_along}
use Rattle.thm_run.proofs.PathSteps.Paths.{Comes, comes_told}
use Rattle.thm_run.proofs.PathSteps.PathsActing.{ended_after, line_path}
use Rattle.thm_run.proofs.PathSteps.PathsAsking.{longest}
use Rattle.thm_run.proofs.PathSteps.PathsWaiting.{serves_as, serves_path}
use Rattle.thm_run.proofs.ServesNoHeap.{serves_leaves}
use Rattle.thm_run.proofs.RunFacts.SoFarFacts.{at_place, owns_many}
use Rattle.thm_run.proofs.PathSteps.WaysOn.{IsLast, came_by, steps_done}

-- where nothing was done nothing was tried
pub none_tried : (joined : _) → TriesAtMostOnce joined []
none_tried joined = record { once = omega arith; out = λ some. absurd (omega (arith, some)) }

module _ (workload : Workload) (courses : List Course) (parties behind : List Party) (old new : HallView) (line : Line) (answer : Answer)
    (given : IsGiven workload) (so : SoFar workload courses parties old) (goes : GoesBy workload courses line answer parties behind old new) where
  abbrev pub who : ℕ
  who = line.participant

  abbrev pub trace : List Done
  trace = goes.does.does.does.trace

  abbrev pub course_of : Course
  course_of = record { line = line; answer = answer; trace = trace }

  abbrev pub later : List Course
  later = courses ++ course_of ∷ []

  -- what was done more by each
  abbrev pub more : ℕ → List Done
  more other = cond (other == who) trace []

  -- and what the lines of each left
  abbrev pub left : ℕ → Standing
  left other = standing_of workload other later

  -- of whom the doer's line ended
  abbrev pub one_ended : EndedLine
  one_ended = last_ended workload who courses course_of

  abbrev pub ended : ℕ → List EndedLine
  ended other = cond (other == who) (one_ended ∷ []) []

  own_one : ended who ≡ one_ended ∷ []
  own_one = cond-true (who == who) (one_ended ∷ []) [] (eq-eqb who who refl)

  other_none : (other : ℕ) → other ≢ who → ended other ≡ []
  other_none other beside = cond-false (other == who) (one_ended ∷ []) [] (ne_eqb other who beside)

  pub own_more : more who ≡ trace
  own_more = cond-true (who == who) trace [] (eq-eqb who who refl)

  pub other_more : (other : ℕ) → other ≢ who → more other ≡ []
  other_more other beside = cond-false (other == who) trace [] (ne_eqb other who beside)

  pub its : IsSoFarFor workload courses old who goes.doer.party
  its = so.each who goes.doer.party goes.before_is

  -- what it knows after its line
  pub knows : goes.after.context ≡ context_of workload who later
  knows =
      context_more workload who courses course_of refl goes.doer.context goes.after.context goes.knew (line_counted goes.does.does)
      goes.does.does.left

  -- the participant of each seat
  pub sits : (seat : Seat) → slice_get so.now.seats who ≡ Some seat → seat.party ≡ goes.doer.party
  sits seat there = same_Some seat.party goes.doer.party (sym (so.seats who seat there).party ∙ goes.before_is)

  -- what each other one came to, and what it served
  pub other_behind : (other : ℕ) (party : Party) → other ≢ who → slice_get parties other ≡ Some party
      → (after : Party) × (slice_get behind other ≡ Some after)
      × ServesBeside workload.participants other (standing_of workload other courses) old new party after
  other_behind other party beside there =
      let after = at_place behind other (omega (arith, slice_get_within parties other party there, goes.count)) in
      (after.it, after.there, goes.others other party after.it beside there after.there)

  -- all its steps: those of its line, and those by which it tells that it is done
  abbrev pub all_steps : List MailStep
  all_steps = goes.does.does.does.steps ++ tells_one_more who (lines_at old who)

  own_comes : (seat : Seat) → slice_get so.now.seats who ≡ Some seat
      → CameTo (IsLast workload.participants behind more left ended goes.course.steps) who seat
  own_comes seat there =
      let one = goes.does.does in
      let did = one.does in
      let mid : ParticipantView = doer_at one.mid in
      let acts : Acts workload.participants None None one.held goes.doer mid trace did.steps =
      subst (λ (hand : Option ℕ). Acts workload.participants None hand one.held goes.doer mid trace did.steps)
      (ap (λ (moment : Moment). moment.hand) (sym one.ended)) did.acts in
      let long : goes.doer.party.deadline ≤ longest = subst (λ (deadline : ℕ). deadline ≤ longest) (sym its.deadline) given.deadline in
      let comes =
      line_path workload.participants who one.held goes.doer mid line.act answer trace did.steps acts its.me long seat
      (sits seat there)
      ((so.seats who seat there).standing ∙ sym (ap (λ (context : Context). context.standing) goes.knew)) in
      let party_is : (after_registering line.act answer mid).party ≡ goes.after.party =
      sym (ap (λ (moment : Moment). moment.party) one.ended) in
      let standing_is : (after_registering line.act answer mid).context.standing ≡ left who =
      sym (ap (λ (moment : Moment). moment.context.standing) one.ended) ∙ ap (λ (context : Context). context.standing) knows in
      let traced : seat.trace ++ trace ≡ trace_for who later =
      ap (λ (before : List Done). before ++ trace) (so.seats who seat there).trace ∙ sym (own_trace workload who courses course_of refl) in
      let ended_is : ended_after mid line.act answer (seat.trace ++ trace) ∷ [] ≡ ended who =
      ap (λ (standing : Standing). record one_ended { records = standing.records; numbered = length (numbered_in (seat.trace ++ trace)) } ∷ [])
      standing_is
      ∙ ap (λ (trace : List Done). record one_ended { numbered = length (numbered_in trace) } ∷ []) traced
      ∙ sym own_one in
      came_by workload.participants who behind more left ended goes.course.steps seat goes.after.party all_steps goes.behind_is
      (steps_done old new goes.course who all_steps did.made)
      (comes_told workload.participants who goes.after.party (left who) (ended who) (more who) did.steps seat
      (LoadedDone who (lines_at old who)) (Stored (lines_at old who + 1))
      (subst (λ (more : List Done). Comes workload.participants who goes.after.party (left who) (ended who) more did.steps seat) (sym own_more)
      (subst (λ (ended : List EndedLine). Comes workload.participants who goes.after.party (left who) ended trace did.steps seat) ended_is
      (subst (λ (left : Standing). Comes workload.participants who goes.after.party left
      (ended_after mid line.act answer (seat.trace ++ trace) ∷ []) trace did.steps seat) standing_is
      (subst (λ (party : Party). Comes workload.participants who party (after_registering line.act answer mid).context.standing
      (ended_after mid line.act answer (seat.trace ++ trace) ∷ []) trace did.steps seat) party_is comes)))))

  other_comes : (other : ℕ) (seat : Seat) → other ≢ who → slice_get so.now.seats other ≡ Some seat
      → CameTo (IsLast workload.participants behind more left ended goes.course.steps) other seat
  other_comes other seat beside there =
      let party_is = (so.seats other seat there).party in
      let far = other_behind other seat.party beside party_is in
      let served = far.2.served in
      let comes =
      serves_path workload.participants other seat.party far.0 served.steps seat
      (serves_as workload.participants (standing_of workload other courses) seat.standing seat.party far.0 served.steps
      (sym (so.seats other seat there).standing) served.serves)
      (so.each other seat.party party_is).me refl in
      came_by workload.participants other behind more left ended goes.course.steps seat far.0 served.steps far.1
      (steps_done old new goes.course other served.steps served.did)
      (subst (λ (more : List Done). Comes workload.participants other far.0 (left other) (ended other) more served.steps seat)
      (sym (other_more other beside))
      (subst (λ (ended : List EndedLine). Comes workload.participants other far.0 (left other) ended [] served.steps seat)
      (sym (other_none other beside))
      (subst (λ (left : Standing). Comes workload.participants other far.0 left [] [] served.steps seat)
      ((so.seats other seat there).standing ∙ sym (ap (λ (context : Context). context.standing) (context_stays workload other courses course_of beside)))
      comes)))

  pub line_comes : (other : ℕ) (seat : Seat) → slice_get so.now.seats other ≡ Some seat
      → CameTo (IsLast workload.participants behind more left ended goes.course.steps) other seat
  line_comes other seat there =
      ⊎_elim
      (λ (same : other ≡ who).
      subst (λ (other : ℕ). CameTo (IsLast workload.participants behind more left ended goes.course.steps) other seat) (sym same)
      (own_comes seat (ap (slice_get so.now.seats) (sym same) ∙ there)))
      (λ (beside : other ≢ who). other_comes other seat beside there)
      (cases_eq other who)

  -- the doer tries to attach once at most, and was out when it did
  own_tries : TriesAtMostOnce goes.doer.party.joined trace
  own_tries =
      let did = goes.does.does in
      let attached : did.facts.attached ≡ goes.doer.party.joined =
      did.known.attached
      ∙ ap (λ (context : Context). context.standing.attached) goes.knew
      ∙ sym its.joined in
      subst (λ joined. TriesAtMostOnce joined trace) attached
      (line_tries who line did.facts answer trace goes.may did.does.leads)

  pub line_tries_so : (other : ℕ) (seat : Seat) → slice_get so.now.seats other ≡ Some seat → TriesAtMostOnce seat.party.joined (more other)
  line_tries_so other seat there =
      ⊎_elim
      (λ (same : other ≡ who).
      subst (λ (other : ℕ). TriesAtMostOnce seat.party.joined (more other)) (sym same)
      (subst (λ (more : List Done). TriesAtMostOnce seat.party.joined more) (sym own_more)
      (subst (λ (party : Party). TriesAtMostOnce party.joined trace) (sym (sits seat (ap (slice_get so.now.seats) (sym same) ∙ there)))
      own_tries)))
      (λ (beside : other ≢ who).
      subst (λ (more : List Done). TriesAtMostOnce seat.party.joined more) (sym (other_more other beside)) (none_tried seat.party.joined))
      (cases_eq other who)

  -- nobody else gives a heap back
  pub line_gives : NoOtherGives (λ other. other ≡ who) (length old.owns) goes.course.steps
  line_gives other below =
      ⊎_elim
      (λ (same : other ≡ who). inl same)
      (λ (beside : other ≢ who). inr (none beside))
      (cases_eq other who)
    where
      none : other ≢ who → GiveNoHeap (steps_of other goes.course.steps)
      none beside =
          let party = at_place parties other (omega (arith, below, owns_many workload courses parties old so, so.count)) in
          let served = (other_behind other party.it beside party.there).2.served in
          subst GiveNoHeap (sym (steps_done old new goes.course other served.steps served.did))
          (serves_leaves workload.participants party.it (other_behind other party.it beside party.there).0 served.steps served.serves).none

  -- so the steps on heaps and on the names are the doer's
  pub others_give : (other : ℕ) → other < length old.owns → other ≢ who → GiveNoHeap (steps_of other goes.course.steps)
  others_give other below beside = elim (line_gives other below) [
    | inl same ↦ absurd (beside same)
    | inr none ↦ none
  ]

  -- what a slot keeps along the line
  pub slot_along : (number : ℕ) (kept : Kept) → slice_get (values_in old) number ≡ Some kept → IsNoSegs kept
      → IsKeptAlong number who kept all_steps (values_in new)
  slot_along number kept there none =
      subst (λ (steps : List MailStep). IsKeptAlong number who kept steps (values_in new))
      (steps_done old new goes.course who all_steps goes.does.does.does.made)
      (kept_along number (length old.owns) who goes.course.steps (values_in old) (values_in new) kept goes.course.kept others_give there none)

  -- the names that it leaves
  pub names_left : (last : Kept) × LeavesNames so.names trace last × (slice_get (values_in new) NAMES_SLOT ≡ Some last)
  names_left =
      let along = slot_along NAMES_SLOT (Names so.names) so.named tt in (
        along.last,
        line_leaves who so.names trace goes.does.does.does.steps along.last goes.does.does.names
            (along_front NAMES_SLOT who goes.does.does.does.steps (tells_one_more who (lines_at old who)) (Names so.names) along.last
            (tt, (tt, tt))
            along.along),
        along.keep,
      )

  -- the trace of each goes on so
  pub line_traces : (other : ℕ) → trace_for other later ≡ trace_for other courses ++ more other
  line_traces other =
      ⊎_elim
      (λ (same : other ≡ who).
      own_trace workload other courses course_of (sym same)
      ∙ ap (λ (more : List Done). trace_for other courses ++ more) (sym own_more ∙ ap more (sym same)))
      (λ (beside : other ≢ who).
      ap (λ (lines : List Course). trace_of lines) (other_courses other courses course_of beside)
      ∙ sym (append-nil (trace_for other courses))
      ∙ ap (λ (more : List Done). trace_for other courses ++ more) (sym (other_more other beside)))
      (cases_eq other who)

  -- and so do the lines that have ended
  pub line_endings : (other : ℕ) → ended_for workload other later ≡ ended_for workload other courses ++ ended other
  line_endings other =
      ⊎_elim
      (λ (same : other ≡ who).
      subst (λ (other : ℕ). ended_for workload other later ≡ ended_for workload other courses ++ ended other) (sym same)
      (subst (λ (ended : List EndedLine). ended_for workload who later ≡ ended_for workload who courses ++ ended) (sym own_one)
      (own_ended workload who courses course_of refl)))
      (λ (beside : other ≢ who).
      subst (λ (ended : List EndedLine). ended_for workload other later ≡ ended_for workload other courses ++ ended) (sym (other_none other beside))
      (other_ended workload other courses course_of beside))
      (cases_eq other who)
