-- After a line each watcher was registered by a line of its participant.
use Rattle.std.proofs.Common.{◌≡◌, ◌≢◌, ◌∙◌, ℕ, zero, suc, ◌<◌, ◌≤◌, Bool, true, List, [], ◌∷◌, ◌++◌, append-nil, length, Some, refl, ap, sym, subst, arith, ⊎_elim}
use Rattle.std.specs.List.{All}
use Rattle.std.specs.Prelude.{Contains, slice_get}
use Rattle.std.proofs.lemmas.Bool.{cases_eq}
use Rattle.std.proofs.lemmas.Option.{same_Some, slice_get_within}
use Rattle.hp_base.specs.Telling.{Listener}
use Rattle.hp_base.specs.declared.limits.TheConstants.{MAX_HEAPS}
use Rattle.hp_base.specs.declared.row.Row.{Row}
use Rattle.hp_hall.specs.Later.{IsLaterSegs}
use Rattle.hp_log.specs.declared.log_record.LogRecord.{LogRecord}
use Rattle.hp_maps.specs.Catching.{Lags}
use Rattle.hp_maps.specs.MapsView.{table_in}
use Rattle.hp_plain.specs.HallView.{HallView, own_at, part_in, seen_in, slot_at}
use Rattle.hp_proc.specs.LineTrees.{doing_of}
use Rattle.hp_proc.specs.Contexts.{Context}
use Rattle.hp_proc.specs.Courses.{Standing, attached_after, numbered_in, records_after}
use Rattle.hp_proc.specs.Doing.{Doing, Done, Leads}
use Rattle.hp_proc.specs.LinesDone.{Course, courses_of, opening_standing, standing_after, trace_of}
use Rattle.hp_proc.specs.ParticipantView.{listeners_after, watched_after}
use Rattle.hp_proc.specs.Progress.{Moment}
use Rattle.hp_proc.specs.WatchedBytes.{IsUnwatch}
use Rattle.hp_script.specs.Part.{Part}
use Rattle.hp_script.specs.declared.answer.Answer.{Answer}
use Rattle.hp_script.specs.declared.answer.Answer.TheVariants as answers
use Rattle.hp_script.specs.declared.line.Act.{Act}
use Rattle.hp_script.specs.declared.line.Act.TheVariants as act
use Rattle.hp_script.specs.declared.line.Line.{Line}
use Rattle.hp_script.specs.declared.workload.Workload.{Workload}
use Rattle.hp_segs.specs.SegsView.{granted_by, is_member}
use Rattle.hp_segs.specs.declared.outcome.AskLog.{AskLog}
use Rattle.hp_serve.specs.Party.{Party}
use Rattle.hp_serve.specs.Tied.{part_of}
use Rattle.hp_serve.specs.Watched.{HearsOn}
use Rattle.thm_run.proofs.HallFacts.HallSegs.{later_segs}
use Rattle.thm_run.proofs.HallFacts.HallTables.{first_agreed}
use Rattle.thm_run.proofs.LineSteps.Arriving.{enrolled_there, last_of, left_there, runs_all}
use Rattle.thm_run.proofs.GrownHeaps.LaterGrants.{GrantsLater}
use Rattle.thm_run.proofs.LineSteps.LineBehind.{all_came, line_known, there}
use Rattle.thm_run.proofs.LineSteps.LineComes.{course_of, ended, later, left, line_comes, line_traces, line_tries_so, more, other_behind, other_more, own_more}
use Rattle.thm_run.proofs.LineSteps.LineMore.{other_courses, own_courses, own_standing}
use Rattle.thm_run.proofs.LineSteps.LineRun.{line_run}
use Rattle.thm_run.proofs.LineSteps.LineSettled.{IsLineRun}
use Rattle.thm_run.proofs.Registrations.KeptWatchers.{acts_hears, heard_all, hears_serves}
use Rattle.thm_run.proofs.Registrations.LaterRecords.{all_later, grants_later}
use Rattle.thm_run.proofs.Registrations.RegisteredOn.{line_ends, newly_registered, stays_registered, tied_table, was_attached, watch_does_nothing}
use Rattle.thm_run.proofs.Registrations.ServedRegistered.{outcomes_taken, registered_same, served_registered}
use Rattle.thm_run.proofs.RunFacts.SoFarFacts.{IsAt, seat_of}
use Rattle.thm_run.proofs.SeatFacts.PartsOn.{log_shown}
use Rattle.thm_run.proofs.SeenAndShown.Provenance.{asked_counts, of_a_seat}
use Rattle.thm_run.specs.EndLaws.{GoesBy, IsGiven}
use Rattle.thm_run.specs.Registered.{IsRegisteredBy}
use Rattle.thm_run.specs.Seats.{EndedLine, Seat}
use Rattle.thm_run.specs.SoFar.{AreRegistered, SoFar, standing_of}
use Rattle.thm_run.specs.Together.{GlobalState, RunsByMail}

module _ (workload : Workload) (courses : List Course) (parties behind : List Party) (old new : HallView) (line : Line) (answer : Answer)
    (given : IsGiven workload) (so : SoFar workload courses parties old) (goes : GoesBy workload courses line answer parties behind old new) where
  abbrev by : ℕ
  by = line.participant

  abbrev one : Course
  one = course_of workload courses parties behind old new line answer given so goes

  abbrev lines : List Course
  lines = later workload courses parties behind old new line answer given so goes

  abbrev adds : ℕ → List Done
  adds = more workload courses parties behind old new line answer given so goes

  abbrev leaves : ℕ → Standing
  leaves = left workload courses parties behind old new line answer given so goes

  abbrev ends : ℕ → List EndedLine
  ends = ended workload courses parties behind old new line answer given so goes

  abbrev now : GlobalState
  now = there workload courses parties behind old new line answer given so goes

  to_there : RunsByMail workload.participants so.first now
  to_there =
      runs_all workload courses parties behind old new so given.few goes.course adds leaves ends
      (line_comes workload courses parties behind old new line answer given so goes)
      (line_tries_so workload courses parties behind old new line answer given so goes)

  segs_on : IsLaterSegs so.now.segs now.segs
  segs_on =
      later_segs (slot_at old MAX_HEAPS) (slot_at new MAX_HEAPS) so.now.segs now.segs (goes.course.slots MAX_HEAPS) so.its_segs
      (all_came workload courses parties behind old new line answer given so goes).gone.its

  module _ (who : ℕ) (below : who < workload.participants) where
    -- its seat before and after
    abbrev seat : IsAt so.now.seats who
    seat = seat_of workload courses parties old so who below

    abbrev last : IsAt now.seats who
    last =
        last_of workload courses parties behind old new so given.few goes.course adds leaves ends
        (line_comes workload courses parties behind old new line answer given so goes)
        (line_tries_so workload courses parties behind old new line answer given so goes) who below

    trace_on : last.it.trace ≡ seat.it.trace ++ adds who
    trace_on =
        let were = (all_came workload courses parties behind old new line answer given so goes).were who last.it last.there in
        were.3 ∙ ap (λ (seat : Seat). seat.trace ++ adds who) (same_Some were.0 seat.it (sym were.1 ∙ seat.there))

  -- the run of the line
  pub line_its_run : IsLineRun workload.participants by so.now now (seat by goes.declared).it (last by goes.declared).it (adds by)
  line_its_run =
      line_run workload courses lines parties behind old new so adds leaves ends
      (all_came workload courses parties behind old new line answer given so goes)
      (line_traces workload courses parties behind old new line answer given so goes)
      (line_known workload courses parties behind old new line answer given so goes) by
      (other_more workload courses parties behind old new line answer given so goes) (seat by goes.declared).it (last by goes.declared).it
      (seat by goes.declared).there (last by goes.declared).there to_there

  -- what is granted in it is of later records
  grants : GrantsLater (length so.now.segs.log) segs_on.outcomes
  grants =
      grants_later workload.participants workload.absent workload.pools.items so.first so.now now so.is_first so.runs by (seat by goes.declared).it
      (last by goes.declared).it (adds by) line_its_run segs_on

  module _ (who : ℕ) (below : who < workload.participants) where
    -- who did not do the line
    other_registered : who ≢ by → (after : Party) → slice_get behind who ≡ Some after
        → AreRegistered workload lines (own_at new who).number now.segs.log now.segs.asks who after
    other_registered beside after at =
        let was : IsAt so.now.seats who = seat who below in
        let is : IsAt now.seats who = last who below in
        let party_is = (so.seats who was.it was.there).party in
        let far = other_behind workload courses parties behind old new line answer given so goes who was.it.party beside party_is in
        let own : far.0 ≡ after = same_Some far.0 after (sym far.1 ∙ at) in
        served_registered workload courses lines parties old new so goes.course now to_there segs_on who was.it is.it was.there is.there
        (adds who) (trace_on who below) (other_courses who courses one beside) grants after
        (subst (HearsOn was.it.party) own
        (hears_serves workload.participants was.it.party far.0 far.2.served.steps far.2.served.serves))

  -- THE DOER

  abbrev mid : Moment
  mid = goes.does.does.mid

  abbrev reached : ℕ
  reached = (own_at new by).number

  abbrev opening : Standing
  opening = opening_standing workload by

  abbrev own_lines : List Course
  own_lines = courses_of by courses

  abbrev Before : List ℕ → List Row → Type 0
  Before text rows = IsRegisteredBy by (own_at old by).number opening so.now.segs.log so.now.segs.asks own_lines text rows

  abbrev Now : List ℕ → List Row → Type 0
  Now text rows = IsRegisteredBy by reached opening now.segs.log now.segs.asks (courses_of by lines) text rows

  abbrev its_last : IsAt now.seats by
  its_last = last by goes.declared

  party_is : goes.after.party ≡ watched_after line.act answer mid.party
  party_is = ap (λ (moment : Moment). moment.party) goes.does.does.ended

  its_party : its_last.it.party ≡ goes.after.party
  its_party =
      let were = (all_came workload courses parties behind old new line answer given so goes).were by its_last.it its_last.there in
      same_Some its_last.it.party goes.after.party (sym were.2 ∙ goes.behind_is)

  standing_on : its_last.it.standing ≡ standing_of workload by lines
  standing_on = ((all_came workload courses parties behind old new line answer given so goes).were by its_last.it its_last.there).4

  -- where it registers a watcher
  module _ (name : Part) (watches : line.act ≡ act.Watch name) (done : answer ≡ answers.Done) where
    attached : (standing_of workload by courses).attached ≡ true
    attached =
        let did = goes.does.does in
        let leads : Leads (doing_of line (act.Watch name) did.facts) did.does.trace (Doing.Ended answers.Done) =
        subst (λ (given : Answer). Leads (doing_of line (act.Watch name) did.facts) did.does.trace (Doing.Ended given)) done
        (subst (λ (deed : Act). Leads (doing_of line deed did.facts) did.does.trace (Doing.Ended answer)) watches did.does.leads) in
        sym (did.known.attached ∙ ap (λ (context : Context). context.standing.attached) goes.knew)
        ∙ was_attached line name did.facts did.does.trace leads

    joined : goes.after.party.joined ≡ true
    joined =
        let its =
        left_there workload courses parties behind old new so given.few goes.course adds leaves ends
        (line_comes workload courses parties behind old new line answer given so goes)
        (line_tries_so workload courses parties behind old new line answer given so goes) by its_last.it its_last.there in
        ap (λ (party : Party). party.joined) (sym its_party)
        ∙ its.joined
        ∙ ap (λ (standing : Standing). standing.attached) standing_on
        ∙ ap (λ (standing : Standing). standing.attached) (own_standing workload by courses one refl)
        ∙ ap (λ (deed : Act). attached_after deed answer (standing_of workload by courses).attached) watches
        ∙ attached

    number_is : goes.after.party.maps.number ≡ reached
    number_is = goes.does.tied.table.number ∙ ap (λ (joined : Bool). (part_of joined (own_at new by)).number) joined

    -- its table has taken in what was there when it had attached last
    records : (standing_after opening own_lines).records ≤ reached
    records =
        let its =
        left_there workload courses parties behind old new so given.few goes.course adds leaves ends
        (line_comes workload courses parties behind old new line answer given so goes)
        (line_tries_so workload courses parties behind old new line answer given so goes) by its_last.it its_last.there in
        let taken = (its.since (ap (λ (party : Party). party.joined) its_party ∙ joined)).taken in
        let same : its_last.it.standing.records ≡ (standing_after opening own_lines).records =
        ap (λ (standing : Standing). standing.records) standing_on
        ∙ ap (λ (standing : Standing). standing.records) (own_standing workload by courses one refl)
        ∙ ap (λ (deed : Act). records_after deed answer (standing_of workload by courses).records) watches in
        omega (arith, taken, same, number_is, ap (λ (party : Party). party.maps.number) its_party)

    -- and lags behind the log
    lags : Lags now.segs.log reached (length now.segs.log) (table_in mid.party.maps.rows)
    lags =
        let shown : seen_in new ≡ now.segs.log =
        log_shown new now.segs (all_came workload courses parties behind old new line answer given so goes).gone.its in
        subst (λ (rows : List Row). Lags now.segs.log reached (length now.segs.log) (table_in rows))
        (ap (λ (party : Party). party.maps.rows) party_is)
        (subst (λ (number : ℕ). Lags now.segs.log number (length now.segs.log) (table_in goes.after.party.maps.rows)) number_is
        (subst (λ (log : List LogRecord). Lags log goes.after.party.maps.number (length log) (table_in goes.after.party.maps.rows)) shown
        (tied_table (seen_in new) (own_at new by) (λ heap. (part_in new by heap).marked) goes.after.party.joined goes.after.party.maps goes.does.tied)))

    -- with all that was granted
    granted : (entry : AskLog) (generation : ℕ) → Contains now.segs.asks entry → granted_by entry.outcome ≡ Some generation → generation ≤ reached
    granted entry generation among grants =
        let enrolled : is_member now.segs.roster by ≡ true =
        enrolled_there workload courses parties behind old new so given.few goes.course adds leaves ends
        (line_comes workload courses parties behind old new line answer given so goes)
        (line_tries_so workload courses parties behind old new line answer given so goes) by its_last.it its_last.there
        ∙ ap (λ (party : Party). party.joined) its_party
        ∙ joined in
        goes.course.agreed (so.course.agreed (first_agreed workload courses parties old so)) now.segs
        (all_came workload courses parties behind old new line answer given so goes).gone.its entry generation by among grants enrolled

    -- and none of its later asks has an outcome
    no_trace : adds by ≡ []
    no_trace =
        let did = goes.does.does in
        own_more workload courses parties behind old new line answer given so goes
        ∙ watch_does_nothing line name did.facts did.does.trace answer
        (subst (λ (deed : Act). Leads (doing_of line deed did.facts) did.does.trace (Doing.Ended answer)) watches did.does.leads)

    few : (entry : AskLog) → Contains now.segs.asks entry → entry.from ≡ by → entry.number ≤ length (numbered_in (trace_of own_lines))
    few entry among from =
        let its = of_a_seat workload.participants workload.absent workload.pools.items so.first now so.is_first to_there entry among in
        let there : slice_get now.seats entry.from ≡ Some its_last.it = ap (slice_get now.seats) from ∙ its_last.there in
        let same : its.seat ≡ its_last.it = same_Some its.seat its_last.it (sym its.its ∙ there) in
        let counts =
        asked_counts workload.participants workload.absent workload.pools.items so.first now so.is_first to_there by its_last.it its_last.there in
        let was : IsAt so.now.seats by = seat by goes.declared in
        let trace : its_last.it.trace ≡ trace_of own_lines =
        trace_on by goes.declared
        ∙ ap (λ (more : List Done). was.it.trace ++ more) no_trace
        ∙ append-nil was.it.trace
        ∙ (so.seats by was.it was.there).trace in
        omega (
          arith,
          its.within,
          ap (λ (seat : Seat). seat.party.asked) same,
          counts,
          ap (λ (trace : List Done). length (numbered_in trace)) trace,
        )

    newest : Now name.text mid.party.maps.rows
    newest =
        subst (λ (courses : List Course). IsRegisteredBy by reached opening now.segs.log now.segs.asks courses name.text mid.party.maps.rows)
        (sym (own_courses by courses one refl))
        (newly_registered by reached opening now.segs.log now.segs.asks own_lines one name mid.party.maps.rows reached watches done lags records
        (omega arith) granted few)

  stays : (text : List ℕ) (rows : List Row) → Before text rows → ¬ IsUnwatch text one → Now text rows
  stays text rows was quiet =
      registered_same by reached opening (so.now.segs.log ++ segs_on.more) now.segs.log (so.now.segs.asks ++ segs_on.outcomes) now.segs.asks
      (own_lines ++ one ∷ []) (courses_of by lines) text rows (sym segs_on.log) (sym segs_on.asks) (sym (own_courses by courses one refl))
      (stays_registered by (own_at old by).number reached opening so.now.segs.log segs_on.more so.now.segs.asks segs_on.outcomes own_lines
      (one ∷ []) (goes.course.numbers by)
      (outcomes_taken workload courses lines parties old new so goes.course now to_there segs_on by (seat by goes.declared).it its_last.it
      (seat by goes.declared).there its_last.there (adds by) (trace_on by goes.declared))
      (λ n seen within. all_later (length so.now.segs.log) segs_on.outcomes grants by n seen within) text rows was quiet_at)
    where
      quiet_at : (k : ℕ) (other : Course) → slice_get (one ∷ []) k ≡ Some other → ¬ IsUnwatch text other
      quiet_at zero other here = subst (λ (other : Course). ¬ IsUnwatch text other) (same_Some one other here) quiet
      quiet_at (suc k) other here = cc

  own_registered : All (λ (listener : Listener). Now listener.name listener.since) goes.after.party.listeners
  own_registered =
      let heard : HearsOn goes.doer.party mid.party = acts_hears goes.does.does.does.acts in
      subst (All (λ (listener : Listener). Now listener.name listener.since)) (sym (ap (λ (party : Party). party.listeners) party_is))
      (line_ends Before Now one stays line.act answer mid.party.maps.rows mid.party.listeners refl refl
      (heard_all Before goes.doer.party.listeners mid.party.listeners heard.names heard.since (so.registered by goes.doer.party goes.before_is))
      newest)

  pub line_registered : (who : ℕ) (after : Party) → slice_get behind who ≡ Some after
      → AreRegistered workload lines (own_at new who).number now.segs.log now.segs.asks who after
  line_registered who after at =
      ⊎_elim
      (λ (same : who ≡ by).
      let own : goes.after.party ≡ after = same_Some goes.after.party after (sym goes.behind_is ∙ ap (slice_get behind) (sym same) ∙ at) in
      subst (λ (who : ℕ). AreRegistered workload lines (own_at new who).number now.segs.log now.segs.asks who after) (sym same)
      (subst (AreRegistered workload lines reached now.segs.log now.segs.asks by) own own_registered))
      (λ (beside : who ≢ by).
      other_registered who (omega (arith, slice_get_within behind who after at, goes.count, so.count)) beside after at)
      (cases_eq who by)
