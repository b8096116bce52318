-- By a participant's way each of its watchers was registered by one of its lines, by what the participant has seen along it.
use Rattle.std.proofs.Common.{◌≡◌, ◌∙◌, ℕ, ◌+◌, ◌<◌, ◌≤◌, true, List, [], ◌∷◌, ◌++◌, append-nil, append_assoc, length, None, refl, ap, sym, subst, arith}
use Rattle.std.specs.List.{All}
use Rattle.std.proofs.lemmas.List.Elements.{All-nil, All-weaker}
use Rattle.hp_base.specs.Telling.{Listener}
use Rattle.hp_base.specs.declared.limits.TheConstants.{MAX_PARTICIPANTS}
use Rattle.hp_base.specs.declared.row.Row.{Row}
use Rattle.hp_hall.specs.Mail.{MailStep}
use Rattle.hp_log.specs.declared.log_record.LogRecord.{LogRecord}
use Rattle.hp_maps.specs.Catching.{Lags}
use Rattle.hp_maps.specs.MapsView.{table_in}
use Rattle.hp_proc.specs.Courses.{Standing, after_line, attached_after, numbered_in, records_after}
use Rattle.hp_proc.specs.Doing.{Doing, Leads}
use Rattle.hp_proc.specs.LineTrees.{doing_of}
use Rattle.hp_proc.specs.LinesDone.{AreDone, Course, IsDone, standing_after, trace_of}
use Rattle.hp_script.specs.Part.{Part}
use Rattle.hp_script.specs.declared.answer.Answer.{Answer}
use Rattle.hp_script.specs.declared.answer.Answer.TheVariants as answer
use Rattle.hp_script.specs.declared.line.Act.{Act}
use Rattle.hp_script.specs.declared.line.Act.TheVariants as act
use Rattle.hp_script.specs.declared.workload.Workload.{Workload}
use Rattle.hp_segs.specs.LogPlaces.{LogIsPlaced}
use Rattle.hp_segs.specs.SegsView.{SegsView}
use Rattle.hp_serve.specs.Party.{Party}
use Rattle.hp_serve.specs.Watched.{HearsOn}
use Rattle.hp_weave.specs.Holds.{Hold}
use Rattle.thm_run.proofs.InTurnByHolds.ActsInHolds.{acts_on, acts_rise, path_on, path_rises}
use Rattle.thm_run.proofs.InTurnByHolds.AskedInHolds.{IsAskAt}
use Rattle.thm_run.proofs.InTurnByHolds.HoldsLeft.{AreLeft, IsAnswered}
use Rattle.thm_run.proofs.InTurnByHolds.HoldsOfPaths.{holds_then, none_at_all}
use Rattle.thm_run.proofs.InTurnByHolds.LinesInHolds.{growths_went, way_by_lines, went_least}
use Rattle.thm_run.proofs.LineSteps.LineMore.{trace_more}
use Rattle.thm_run.proofs.Registrations.KeptWatchers.{acts_hears, heard_all}
use Rattle.thm_run.proofs.Registrations.RegisteredOn.{line_ends, was_attached, watch_does_nothing}
use Rattle.thm_run.proofs.SeenAndShown.SeenTraces.{AreAnsweredFrom, behind_answered, front_answered}
use Rattle.thm_run.proofs.TracesTold.ToldNumbers.{long}
use Rattle.thm_run.specs.Apart.{holds_from}
use Rattle.thm_run.specs.OwnLines.{IsLineOf, NoneElseGrowsAlong, WentByLines}
use Rattle.thm_run.specs.Seats.{EndedLine, Seat}
use Rattle.thm_together.proofs.AsksAbove.{IsAskedAbove, asked_above}
use Rattle.thm_together.proofs.PathsHear.{path_hears}
use Rattle.thm_together.proofs.PathsKnown.{AreLonger, IsKnown, IsKnownOn, path_known}
use Rattle.thm_together.proofs.RegisteredAt.{IsRegisteredAt, newly_at, stays_beside, stays_on}

-- WHAT LINES LEAVE

-- one line more
standing_more : (standing : Standing) (courses : List Course) (course : Course)
    → standing_after standing (courses ++ course ∷ [])
    ≡ after_line course.line course.answer course.trace (standing_after standing courses)
standing_more standing [] course = refl
standing_more standing (one ∷ courses) course = standing_more (after_line one.line one.answer one.trace standing) courses course

done_before : (workload : Workload) (standing : Standing) (courses : List Course) (course : Course)
    → AreDone workload standing (courses ++ course ∷ [])
    → AreDone workload standing courses × IsDone workload (standing_after standing courses) course
done_before workload standing [] course done = (tt, done.0)
done_before workload standing (one ∷ courses) course done =
    let rest = done_before workload (after_line one.line one.answer one.trace standing) courses course done.1 in
    ((done.0, rest.0), rest.1)

-- A LINE THAT REGISTERS

-- what is known of a line of a participant once it has ended, by the log that was seen then
record IsLineKnown (workload : Workload) (count who : ℕ) (opening : Standing) (log : List LogRecord) (old new : Seat) (courses : List Course)
    (course : Course) (steps : List MailStep) : Type 0 where
  is : IsLineOf count who old new course steps
  done : IsDone workload (standing_after opening courses) course
  standing : old.standing ≡ standing_after opening courses
  known : IsKnown log new

module _ (workload : Workload) (count who : ℕ) (opening : Standing) (last : SegsView) (log : List LogRecord) (old new : Seat)
    (courses : List Course) (course : Course) (steps : List MailStep)
    (line : IsLineKnown workload count who opening log old new courses course steps) (name : Part)
    (watches : course.line.act ≡ act.Watch name) (answered : course.answer ≡ answer.Done) where
  leads : Leads (doing_of course.line (act.Watch name) line.done.facts) course.trace (Doing.Ended answer.Done)
  leads =
      subst (λ (given : Answer). Leads (doing_of course.line (act.Watch name) line.done.facts) course.trace (Doing.Ended given)) answered
      (subst (λ (deed : Act). Leads (doing_of course.line deed line.done.facts) course.trace (Doing.Ended course.answer)) watches
      line.done.does)

  joined : new.party.joined ≡ true
  joined =
      line.known.is_in
      (ap (λ (standing : Standing). standing.attached) line.is.left
      ∙ ap (λ (deed : Act). attached_after deed course.answer old.standing.attached) watches
      ∙ ap (λ (standing : Standing). standing.attached) line.standing
      ∙ sym line.done.known.attached
      ∙ was_attached course.line name line.done.facts course.trace leads)

  -- its table has taken in what was there when the participant had attached last
  records : (standing_after opening courses).records ≤ new.party.maps.number
  records =
      let taken = line.known.since.taken joined in
      let same : new.standing.records ≡ (standing_after opening courses).records =
      ap (λ (standing : Standing). standing.records) line.is.left
      ∙ ap (λ (deed : Act). records_after deed course.answer old.standing.records) watches
      ∙ ap (λ (standing : Standing). standing.records) line.standing in
      omega (arith, taken, same)

  newest : IsRegisteredAt who opening last log new (courses ++ course ∷ []) name.text line.is.mid.party.maps.rows
  newest =
      newly_at who opening last log new courses course name line.is.mid.party.maps.rows watches answered
      (watch_does_nothing course.line name line.done.facts course.trace answer.Done leads)
      (subst (λ (rows : List Row). Lags log new.party.maps.number (length log) (table_in rows))
      (ap (λ (party : Party). party.maps.rows) line.is.ends) line.known.watched.lags) line.known.watched.within records

-- A WAY

module _ (who : ℕ) (last : SegsView) (opening : Standing) where
  abbrev AreAt : List LogRecord → Seat → List Course → List Listener → Type 0
  AreAt log seat courses listeners =
      All (λ (listener : Listener). IsRegisteredAt who opening last log seat courses listener.name listener.since) listeners

  -- how far a participant came, whose holds that are left are these
  pub record IsSoFar (others : List (Hold SegsView)) (seat : Seat) (courses : List Course) : Type 0 where
    pub to : SegsView
    pub left : AreLeft who last others to
    pub answered : IsAnswered who to
    pub log : List LogRecord
    pub longer : AreLonger log others last.log
    pub known : IsKnown log seat
    pub standing : seat.standing ≡ standing_after opening courses
    pub registered : AreAt log seat courses seat.party.listeners

module _ (log_is_placed : LogIsPlaced) (workload : Workload) (count who : ℕ) (last : SegsView) (few : who < MAX_PARTICIPANTS)
    (opening : Standing) where
  -- beside its lines
  beside_registered : (others : List (Hold SegsView)) (log : List LogRecord) (old new : Seat) (courses : List Course)
      → HearsOn old.party new.party → (on : IsKnownOn others last.log log old new) → AreAt who last opening log old courses old.party.listeners
      → AreAt who last opening on.log new courses new.party.listeners
  beside_registered others log old new courses heard on all =
      All-weaker (λ (listener : Listener). IsRegisteredAt who opening last log old courses listener.name listener.since)
      (λ (listener : Listener). IsRegisteredAt who opening last on.log new courses listener.name listener.since)
      (λ listener its.
      stays_beside who opening last log on.log old new courses on.has on.reaches listener.name listener.since its)
      new.party.listeners
      (heard_all (λ (text : List ℕ) (rows : List Row). IsRegisteredAt who opening last log old courses text rows) old.party.listeners
      new.party.listeners heard.names heard.since all)

  -- by a line
  line_registered : (others : List (Hold SegsView)) (log : List LogRecord) (old new : Seat) (courses : List Course) (course : Course)
      (steps : List MailStep) (on : IsKnownOn others last.log log old new)
      → IsLineKnown workload count who opening on.log old new courses course steps
      → ((place : ℕ) → IsAskAt (numbered_in course.trace) place
      → IsAskedAbove who last (length log) (1 + length (numbered_in (trace_of courses)) + place))
      → AreAt who last opening log old courses old.party.listeners → AreAt who last opening on.log new (courses ++ course ∷ []) new.party.listeners
  line_registered others log old new courses course steps on line asks all =
      let mid : Party = line.is.mid.party in
      let heard : HearsOn line.is.doer.party mid = acts_hears line.is.acts in
      subst (AreAt who last opening on.log new (courses ++ course ∷ [])) (sym (ap (λ (party : Party). party.listeners) line.is.ends))
      (line_ends (λ (text : List ℕ) (rows : List Row). IsRegisteredAt who opening last log old courses text rows)
      (λ (text : List ℕ) (rows : List Row). IsRegisteredAt who opening last on.log new (courses ++ course ∷ []) text rows) course
      (stays_on who opening last log on.log old new courses on.has on.reaches course asks) course.line.act course.answer mid.maps.rows
      mid.listeners refl refl
      (heard_all (λ (text : List ℕ) (rows : List Row). IsRegisteredAt who opening last log old courses text rows)
      line.is.doer.party.listeners mid.listeners heard.names heard.since
      (subst (λ (party : Party). AreAt who last opening log old courses party.listeners) line.is.begins all))
      (newest workload count who opening last on.log old new courses course steps line))

  no_more_lines : (old new : List EndedLine) → new ≡ old → length new ≤ length old
  no_more_lines old new same =
      let long = ap length same in
      omega (arith, long)

  -- so it is along a way from a seat that has no watchers
  pub way_registered : {first now : Seat} {courses : List Course} {steps : List MailStep} → WentByLines count who first now courses steps
      → (begin : List LogRecord) → first.standing ≡ opening → first.party.listeners ≡ [] → IsKnown begin first
      → now.party.asked ≤ length (numbered_in (trace_of courses)) → AreAnsweredFrom last.log last.asks who 1 (trace_of courses)
      → AreDone workload opening courses → (more : List MailStep) → NoneElseGrowsAlong who None (steps ++ more)
      → (others : List (Hold SegsView)) (from : SegsView) → AreLeft who last (holds_from who None steps ++ others) from
      → IsAnswered who from → AreLonger begin (holds_from who None steps ++ others) last.log → IsSoFar who last opening others now courses
  way_registered (WentByLines.begins seat) begin opens unwatched known exact answers done more along others from left was longer = record {
    to = from;
    left = left;
    answered = was;
    log = begin;
    longer = longer;
    known = known;
    standing = opens;
    registered = subst (AreAt who last opening begin seat []) (sym unwatched)
        (All-nil (λ (listener : Listener). IsRegisteredAt who opening last begin seat [] listener.name listener.since));
  }
  way_registered (WentByLines.beside first old new courses before steps went path same stays none) begin opens unwatched known exact answers
      done more along others from left was longer =
      let early : List (Hold SegsView) = holds_from who None before in
      let late : List (Hold SegsView) = holds_from who None steps in
      let all : holds_from who None (before ++ steps) ++ others ≡ early ++ (late ++ others) =
      ap (λ (holds : List (Hold SegsView)). holds ++ others) (holds_then steps (way_by_lines count who first old courses before went).0)
      ∙ append_assoc early late others in
      let next : ℕ = 1 + length (numbered_in (trace_of courses)) in
      let here =
      way_registered went begin opens unwatched known (omega (arith, path_rises path, ap (λ trace. length (numbered_in trace)) same, exact))
      answers done (steps ++ more) (subst (NoneElseGrowsAlong who None) (append_assoc before steps more) along) (late ++ others) from
      (subst (λ (holds : List (Hold SegsView)). AreLeft who last holds from) all left) was
      (subst (λ (holds : List (Hold SegsView)). AreLonger begin holds last.log) all longer) in
      let further =
      path_on count who last [] next path (same ∙ sym (append-nil old.trace)) none_at_all others here.to here.left here.answered in
      let on = path_known log_is_placed path others last.log here.log here.longer here.known in
      record {
        to = further.to;
        left = further.left;
        answered = further.answered;
        log = on.log;
        longer = on.longer;
        known = on.known;
        standing = stays.standing ∙ here.standing;
        registered = beside_registered others here.log old new courses (path_hears path (no_more_lines old.lines new.lines stays.lines)) on
            here.registered;
      }
  way_registered (WentByLines.does_line first old new courses course before steps went is) begin opens unwatched known exact answers done more
      along others from left was longer =
      let early : List (Hold SegsView) = holds_from who None before in
      let late : List (Hold SegsView) = holds_from who None steps in
      let all : holds_from who None (before ++ steps) ++ others ≡ early ++ (late ++ others) =
      ap (λ (holds : List (Hold SegsView)). holds ++ others) (holds_then steps (way_by_lines count who first old courses before went).0)
      ∙ append_assoc early late others in
      let next : ℕ = 1 + length (numbered_in (trace_of courses)) in
      let traces : trace_of (courses ++ course ∷ []) ≡ trace_of courses ++ course.trace = trace_more courses course in
      let both : length (numbered_in (trace_of (courses ++ course ∷ [])))
      ≡ length (numbered_in (trace_of courses)) + length (numbered_in course.trace) =
      ap (λ trace. length (numbered_in trace)) traces ∙ long (trace_of courses) course.trace in
      let rises = acts_rise is.acts is.me is.deadline old in
      let begins = ap (λ (party : Party). party.asked) is.begins in
      let ends = ap (λ (party : Party). party.asked) is.ends in
      let least = went_least went in
      let whole : AreAnsweredFrom last.log last.asks who 1 (trace_of courses ++ course.trace) =
      subst (AreAnsweredFrom last.log last.asks who 1) traces answers in
      let on : NoneElseGrowsAlong who None (before ++ (steps ++ more)) =
      subst (NoneElseGrowsAlong who None) (append_assoc before steps more) along in
      let parts = done_before workload opening courses course done in
      let here =
      way_registered went begin opens unwatched known (omega (arith, rises, begins, ends, exact, both))
      (front_answered last.log last.asks who 1 (trace_of courses) course.trace whole) parts.0 (steps ++ more) on (late ++ others) from
      (subst (λ (holds : List (Hold SegsView)). AreLeft who last holds from) all left) was
      (subst (λ (holds : List (Hold SegsView)). AreLonger begin holds last.log) all longer) in
      let further =
      acts_on count who last few next is.acts is.me is.deadline old (omega (arith, rises, begins, ends, exact, both, least))
      (omega (arith, begins, ends, exact, both, least))
      (behind_answered last.log last.asks who 1 next (trace_of courses) course.trace refl whole) more (growths_went went (steps ++ more) on)
      others here.to here.left here.answered in
      let goes = path_known log_is_placed is.path others last.log here.log here.longer here.known in
      record {
        to = further.to;
        left = further.left;
        answered = further.answered;
        log = goes.log;
        longer = goes.longer;
        known = goes.known;
        standing = is.left
            ∙ (ap (after_line course.line course.answer course.trace) here.standing
            ∙ sym (standing_more opening courses course));
        registered = line_registered others here.log old new courses course steps goes
            (record { is = is; done = parts.1; standing = here.standing; known = goes.known })
            (asked_above who last next course.trace late further.does others here.to here.log here.left here.longer) here.registered;
      }
