-- The watchers of a participant that did no line are registered as before.
use Rattle.std.proofs.Common.{◌≡◌, ◌∙◌, ℕ, ◌≤◌, List, [], ◌∷◌, ◌++◌, append-nil, length, Some, refl, ap, sym, subst}
use Rattle.std.specs.List.{All}
use Rattle.std.specs.Prelude.{slice_get}
use Rattle.std.proofs.lemmas.List.Elements.{All-weaker}
use Rattle.hp_base.specs.Telling.{Listener}
use Rattle.hp_base.specs.declared.row.Row.{Row}
use Rattle.hp_hall.specs.Later.{IsLaterSegs}
use Rattle.hp_log.specs.declared.log_record.LogRecord.{LogRecord}
use Rattle.hp_plain.specs.Course.{IsCourse}
use Rattle.hp_plain.specs.HallView.{HallView, own_at}
use Rattle.hp_proc.specs.Courses.{Standing, numbered_in}
use Rattle.hp_proc.specs.Doing.{Done}
use Rattle.hp_proc.specs.LinesDone.{Course, courses_of, opening_standing, trace_of}
use Rattle.hp_proc.specs.WatchedBytes.{HasTakenGrant, IsUnwatch}
use Rattle.hp_script.specs.declared.workload.Workload.{Workload}
use Rattle.hp_segs.specs.declared.outcome.AskLog.{AskLog}
use Rattle.hp_serve.specs.Party.{Party}
use Rattle.hp_serve.specs.Watched.{HearsOn}
use Rattle.thm_run.proofs.GrownHeaps.LaterGrants.{GrantsLater}
use Rattle.thm_run.proofs.Registrations.KeptWatchers.{heard_all}
use Rattle.thm_run.proofs.Registrations.LateGrants.{all_taken}
use Rattle.thm_run.proofs.Registrations.LaterRecords.{all_later}
use Rattle.thm_run.proofs.Registrations.RegisteredOn.{stays_registered}
use Rattle.thm_run.proofs.RunFacts.SoFarFacts.{all_asked}
use Rattle.thm_run.specs.Registered.{IsRegisteredBy}
use Rattle.thm_run.specs.Seats.{Seat}
use Rattle.thm_run.specs.SoFar.{AreRegistered, SoFar}
use Rattle.thm_run.specs.Together.{GlobalState, RunsByMail}

-- it is so by other names of the log, the outcomes and the lines
pub registered_same : (who reached : ℕ) (opening : Standing) (log log' : List LogRecord) (asks asks' : List AskLog)
    (courses courses' : List Course) (text : List ℕ) (rows : List Row) → log ≡ log' → asks ≡ asks' → courses ≡ courses'
    → IsRegisteredBy who reached opening log asks courses text rows → IsRegisteredBy who reached opening log' asks' courses' text rows
registered_same who reached opening log log' asks asks' courses courses' text rows logs heard lines is =
    subst (λ (courses : List Course). IsRegisteredBy who reached opening log' asks' courses text rows) lines
    (subst (λ (asks : List AskLog). IsRegisteredBy who reached opening log' asks courses text rows) heard
    (subst (λ (log : List LogRecord). IsRegisteredBy who reached opening log asks courses text rows) logs is))

module _ (workload : Workload) (courses later : List Course) (parties : List Party) (old new : HallView)
    (so : SoFar workload courses parties old) (course : IsCourse old new) (now : GlobalState)
    (runs : RunsByMail workload.participants so.first now) (segs : IsLaterSegs so.now.segs now.segs) (who : ℕ) (seat last : Seat)
    (early : slice_get so.now.seats who ≡ Some seat) (late : slice_get now.seats who ≡ Some last) (more : List Done)
    (trace : last.trace ≡ seat.trace ++ more) where
  -- its table has taken in all that late outcomes grant of what its earlier lines asked for
  pub outcomes_taken : (asks number : ℕ) → asks ≤ length (numbered_in (trace_of (courses_of who courses)))
      → All (HasTakenGrant who asks number) segs.outcomes
  outcomes_taken asks number few =
      all_taken workload.participants workload.absent workload.pools.items so.first so.now now so.is_first so.runs runs segs.outcomes segs.asks who
      seat last early late more trace (all_asked workload courses parties old so who seat early) asks number
      (subst (λ (trace : List Done). asks ≤ length (numbered_in trace)) (sym (so.seats who seat early).trace) few)

  module _ (same : courses_of who later ≡ courses_of who courses) (grants : GrantsLater (length so.now.segs.log) segs.outcomes) where
    pub served_registered : (after : Party) → HearsOn seat.party after
        → AreRegistered workload later (own_at new who).number now.segs.log now.segs.asks who after
    served_registered after heard =
        let was : ℕ = (own_at old who).number in
        let reached : ℕ = (own_at new who).number in
        let opening : Standing = opening_standing workload who in
        let own : List Course = courses_of who courses in
        let Before : List ℕ → List Row → Type 0 = λ text rows. IsRegisteredBy who was opening so.now.segs.log so.now.segs.asks own text rows in
        let Now : List ℕ → List Row → Type 0 =
        λ text rows. IsRegisteredBy who reached opening now.segs.log now.segs.asks (courses_of who later) text rows in
        All-weaker (λ (listener : Listener). Before listener.name listener.since) (λ (listener : Listener). Now listener.name listener.since)
        (λ listener its.
        registered_same who reached opening (so.now.segs.log ++ segs.more) now.segs.log (so.now.segs.asks ++ segs.outcomes) now.segs.asks (own ++ [])
        (courses_of who later) listener.name listener.since (sym segs.log) (sym segs.asks) (append-nil own ∙ sym same)
        (stays_registered who was reached opening so.now.segs.log segs.more so.now.segs.asks segs.outcomes own [] (course.numbers who)
        outcomes_taken (λ n seen within. all_later (length so.now.segs.log) segs.outcomes grants who n seen within) listener.name listener.since
        its (λ k other none. nothing_at k other none)))
        after.listeners
        (heard_all Before seat.party.listeners after.listeners heard.names heard.since
        (so.registered who seat.party (so.seats who seat early).party))
      where
        nothing_at : {text : List ℕ} (k : ℕ) (other : Course) → slice_get [] k ≡ Some other → ¬ IsUnwatch text other
        nothing_at k other none = cc
