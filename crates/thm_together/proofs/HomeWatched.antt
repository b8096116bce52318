-- Of all who came home: the watchers of each are those of its lines, and each was told of its table.
use Rattle.std.proofs.Common.{◌≡◌, ◌∙◌, ℕ, ◌+◌, ◌-◌, ◌<◌, List, [], ◌++◌, append-nil, length, take, Some, None, IfSome, refl, ap, sym, subst, arith}
use Rattle.std.specs.List.{All}
use Rattle.std.specs.Prelude.{Contains, slice_get}
use Rattle.std.proofs.lemmas.List.Elements.{All-contains, All-contains_itself, All-nil, All-weaker}
use Rattle.std.proofs.lemmas.Option.{slice_get_within}
use Rattle.hp_base.specs.Telling.{Listener}
use Rattle.hp_base.specs.declared.row.Row.{Row}
use Rattle.hp_hall.specs.Mail.{MailStep}
use Rattle.hp_heap.specs.History.{HeapView}
use Rattle.hp_log.specs.declared.log_record.LogRecord.{LogRecord}
use Rattle.hp_maps.specs.Bytes.{AreTold}
use Rattle.hp_maps.specs.Catching.{Lags}
use Rattle.hp_maps.specs.MapsView.{table_in}
use Rattle.hp_maps.specs.declared.table.Table.{Table}
use Rattle.hp_proc.specs.Courses.{Standing, numbered_in}
use Rattle.hp_proc.specs.Doing.{Done}
use Rattle.hp_proc.specs.LinesDone.{Course, opening_standing, trace_of}
use Rattle.hp_proc.specs.Outcomes.{IsOfATrace, IsOfAnAskOfATrace}
use Rattle.hp_proc.specs.WatchedBytes.{AreWatchersOf, HasLaterGrant, IsRegistered}
use Rattle.hp_script.specs.declared.answer.Answer.{Answer}
use Rattle.hp_script.specs.declared.workload.Workload.{Workload}
use Rattle.hp_segs.specs.LogPlaces.{LogIsPlaced}
use Rattle.hp_segs.specs.SegsView.{SegsView, granted_by, is_grant_or_refusal}
use Rattle.hp_segs.specs.declared.ask.Ask.{Ask}
use Rattle.hp_segs.specs.declared.outcome.AskLog.{AskLog}
use Rattle.hp_segs.specs.declared.outcome.Outcome.{Outcome}
use Rattle.hp_segs.specs.declared.outcome.Outcome.TheVariants.{Freed, Granted, Refused, Stale}
use Rattle.hp_serve.specs.Ending.{LeavesTable}
use Rattle.hp_serve.specs.Watched.{names_of}
use Rattle.hp_weave.specs.Holds.{Hold}
use Rattle.thm_run.proofs.InTurnByHolds.AskedInHolds.{IsAskAt}
use Rattle.thm_run.proofs.InTurnByHolds.HoldsLeft.{AreLeft}
use Rattle.thm_run.proofs.InTurnByHolds.TurnsByHolds.{ask_of_trace}
use Rattle.thm_run.proofs.SeatFacts.FirstSegs.{member_first, present_declared}
use Rattle.thm_run.proofs.SeenAndShown.SeenTraces.{answered_from}
use Rattle.thm_run.proofs.Settings.{seat_at}
use Rattle.thm_run.specs.Apart.{holds_from}
use Rattle.thm_run.specs.OwnLines.{IsOfGood, NoneElseGrowsAlong}
use Rattle.thm_run.specs.Seats.{Seat}
use Rattle.thm_run.specs.SoFar.{first_segs}
use Rattle.thm_together.proofs.AsksAbove.{granted_above}
use Rattle.thm_together.proofs.HomeAsks.{counted, trace_is}
use Rattle.thm_together.proofs.HomeHolds.{asks_answered, its_holds, outcomes_are}
use Rattle.thm_together.proofs.HomeWays.{are_woven, by_run}
use Rattle.thm_together.proofs.PathsKnown.{IsKnown, longer_left, records_longer}
use Rattle.thm_together.proofs.RegisteredAt.{IsRegisteredAt, lags_on}
use Rattle.thm_together.proofs.WaysRegistered.{IsSoFar, way_registered}
use Rattle.thm_together.specs.CameHome.{AllCameHome, WentItsWay}
use Rattle.thm_together.specs.Watched.{WatchedWhereHome}

-- before its first step nobody watches it
first_known : (workload : Workload) (who : ℕ) (log : List LogRecord) (asks : List AskLog) (first last : Seat) (courses : List Course)
    (steps : List MailStep) → who < workload.participants → who < 16 → WentItsWay workload who log asks first last courses steps
    → IsKnown (first_segs workload).log first
first_known workload who log asks first last courses steps below few went =
    let its = went.begins in
    let begin : List LogRecord = (first_segs workload).log in
    let none : first.standing.records ≡ 0 = ap (λ (standing : Standing). standing.records) went.opens in
    record {
      watched = record {
        names = ap names_of its.listeners ∙ sym its.watchers;
        within = omega (arith, its.number);
        lags = subst (λ (rows : List Row). Lags begin first.party.maps.number (length begin) (table_in rows)) (sym its.rows)
            (subst (λ (number : ℕ). Lags begin number (length begin) []) (sym its.number)
            (record { reached = 0; from = omega arith; up_to = omega arith; left = refl }));
        out = λ out. ap table_in its.rows;
        know =
            subst (All (λ (listener : Listener). AreTold listener.events (table_in listener.since) (table_in first.party.maps.rows)))
            (sym its.listeners)
            (All-nil (λ (listener : Listener). AreTold listener.events (table_in listener.since) (table_in first.party.maps.rows)));
      };
      since = record {
        taken = λ joined. omega (arith, none);
        within = omega (arith, none);
      };
      is_in = λ attached.
          its.joined
          ∙ member_first workload.participants workload.absent who few
          ∙ present_declared workload.participants workload.absent who below
          ∙ sym (ap (λ (standing : Standing). standing.attached) went.opens)
          ∙ attached;
    }

module _ (workload : Workload) (answers : List Answer) (heaps : List HeapView) (segs : SegsView) (tables : List Table)
    (home : AllCameHome workload answers heaps segs tables) where
  -- what a later ask was granted is a later record
  module _ (who : ℕ) (seat : Seat) (log : List LogRecord) (listener : Listener)
      (is : IsRegisteredAt who (opening_standing workload who) segs log seat (home.courses who) listener.name listener.since) where
    abbrev made : ℕ
    made = length (numbered_in (trace_of (take is.place (home.courses who))))

    later_by : (entry : AskLog) → Contains segs.asks entry → entry.from ≡ who → made < entry.number → (outcome : Outcome)
        → entry.outcome ≡ outcome → IfSome (granted_by outcome) (λ generation. is.seen < generation)
    later_by entry among from above (Granted generation) granted =
        let shown = ap is_grant_or_refusal granted in
        let traced : IsOfATrace segs.log (λ (who : ℕ). trace_of (home.courses who)) entry =
        All-contains (IsOfAnAskOfATrace segs.log (λ (who : ℕ). trace_of (home.courses who))) segs.asks entry
        (outcomes_are workload answers heaps segs tables home) among shown in
        let at =
        ask_of_trace segs.log (trace_of (home.courses entry.from)) (entry.number - 1) entry.outcome traced.done shown traced.its traced.kind in
        let own : IsAskAt (numbered_in (trace_of (home.courses who))) (entry.number - 1) =
        subst (λ (who : ℕ). IsAskAt (numbered_in (trace_of (home.courses who))) (entry.number - 1)) from at in
        let number : entry.number ≡ 1 + (entry.number - 1) = omega (arith, traced.some) in
        granted_above who segs is.seen (1 + (entry.number - 1)) generation entry (by_run workload answers heaps segs tables home).segs_sound
        (is.above (entry.number - 1) (omega (arith, above)) own) among from number granted
    later_by entry among from above (Refused cause) refused = tt
    later_by entry among from above (Stale done) stale = tt
    later_by entry among from above (Freed own) freed = tt

    all_later : All (HasLaterGrant who made is.seen) segs.asks
    all_later =
        All-weaker (Contains segs.asks) (HasLaterGrant who made is.seen)
        (λ entry among from above. later_by entry among from above entry.outcome refl) segs.asks (All-contains_itself segs.asks)

  module _ (log_is_placed : LogIsPlaced) (who : ℕ) (below : who < workload.participants) (old new : Seat) (early : slice_get home.first who ≡ Some old)
      (late : slice_get home.last who ≡ Some new) (table : Table) (at : slice_get tables who ≡ Some table) where
    abbrev went : WentItsWay workload who segs.log segs.asks old new (home.courses who) (home.steps who)
    went = home.went who old new early late

    abbrev opening : Standing
    opening = opening_standing workload who

    abbrev holds : List (Hold SegsView)
    holds = holds_from who None (home.steps who)

    left : AreLeft who segs (holds ++ []) (first_segs workload)
    left =
        let its = its_holds workload answers heaps segs tables home who below in
        record {
          all = home.holds;
          chain = its.chain;
          each = its.each;
          own = its.own ∙ sym (append-nil holds);
          good = subst (All IsOfGood) (sym (append-nil holds)) its.good;
        }

    never : (ask : Ask) → None ≡ Some ask → ⊥
    never ask same = cc

    so_far : IsSoFar who segs opening [] new (home.courses who)
    so_far =
        let its = its_holds workload answers heaps segs tables home who below in
        let counts = counted workload answers heaps segs tables home who new late in
        let traces = trace_is workload answers heaps segs tables home who old new early late in
        way_registered log_is_placed workload workload.participants who segs (omega (arith, below, home.given.few)) opening went.way
        (first_segs workload).log went.opens went.begins.listeners
        (first_known workload who segs.log segs.asks old new (home.courses who) (home.steps who) below (omega (arith, below, home.given.few)) went)
        (omega (arith, counts, ap (λ (trace : List Done). length (numbered_in trace)) traces))
        (answered_from segs.log segs.asks who (trace_of (home.courses who)) (asks_answered workload answers heaps segs tables home who)) went.done []
        (subst (NoneElseGrowsAlong who None) (sym (append-nil (home.steps who))) its.alone) [] (first_segs workload) left
        (λ ask is. absurd (never ask (sym its.unarmed ∙ is))) (longer_left who segs (holds ++ []) (first_segs workload) left)

    leaves : LeavesTable new.party table
    leaves = (home.leaves who new table late at).leaves

    -- a registered watcher is so by the table that its participant leaves
    at_last : (listener : Listener) → IsRegisteredAt who opening segs so_far.log new (home.courses who) listener.name listener.since
        → IsRegistered who opening segs (home.courses who) table listener
    at_last listener is = record {
      place = is.place;
      course = is.course;
      name = is.name;
      there = is.there;
      watches = is.watches;
      named = is.named;
      answered = is.answered;
      still = is.still;
      number = is.number;
      seen = is.seen;
      within = omega (arith, is.within, records_longer so_far.log segs.log so_far.longer);
      lags = lags_on so_far.log segs.log is.number is.seen listener.since so_far.longer is.within is.lags;
      since = is.since;
      beyond = all_later who new so_far.log listener is;
      until = λ joined.
          let reached = is.reached (sym leaves.joined ∙ joined) in
          omega (arith, reached, leaves.number);
    }

    its_watchers : AreWatchersOf who opening segs (home.courses who) table new.party.listeners
    its_watchers = record {
      names_are =
          so_far.known.watched.names
          ∙ ap (λ (standing : Standing). standing.watchers) so_far.standing;
      registered =
          All-weaker
          (λ (listener : Listener). IsRegisteredAt who opening segs so_far.log new (home.courses who) listener.name listener.since)
          (IsRegistered who opening segs (home.courses who) table) (λ listener its. at_last listener its) new.party.listeners
          so_far.registered;
      told =
          subst (λ (rows : List Row). All (λ (listener : Listener). AreTold listener.events (table_in listener.since) (table_in rows))
          new.party.listeners) (sym leaves.rows) so_far.known.watched.know;
    }

pub watched_where_home : LogIsPlaced → WatchedWhereHome
watched_where_home log_is_placed workload answers heaps segs tables home watchers told = record {
  count = told.many ∙ (home.count ∙ home.begun);
  each = λ who table listeners at heard.
      let within = slice_get_within watchers who listeners heard in
      let below : who < workload.participants = omega (arith, within, told.many, home.count, home.begun) in
      let early = seat_at home.first who (omega (arith, below, home.begun)) in
      let late = seat_at home.last who (omega (arith, below, home.begun, home.count)) in
      subst (λ (own : List Course). AreWatchersOf who (opening_standing workload who) segs own table listeners)
      (sym ((are_woven workload answers heaps segs tables home).own who))
      (subst (AreWatchersOf who (opening_standing workload who) segs (home.courses who) table)
      (sym (told.are who late.seat listeners late.there heard))
      (its_watchers workload answers heaps segs tables home log_is_placed who below early.seat late.seat early.there late.there table at));
}
