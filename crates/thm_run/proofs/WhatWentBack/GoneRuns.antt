-- After each run of all participants, from wherever it begins, each run that one of them cut in it is Retiring or was dropped in it, and what is
-- told of its notices in it to have gone has gone in it.
use Rattle.std.proofs.Common.{◌≡◌, ◌∙◌, ℕ, ◌+◌, ◌<◌, ◌≤◌, List, [], ◌++◌, length, Option, Some, None, refl, ap, sym, subst, append-nil, arith}
use Rattle.std.specs.List.{All}
use Rattle.std.specs.Prelude.{Contains, slice_get}
use Rattle.std.proofs.lemmas.List.Elements.{All-contains, All-contains_itself, All-weaker}
use Rattle.hp_base.specs.declared.pool_line.PoolLine.{PoolLine}
use Rattle.hp_core.specs.Core.{Core}
use Rattle.hp_core.specs.declared.event.CoreEvent.{CoreEvent}
use Rattle.hp_core.specs.declared.event.CoreEvent.TheVariants.{SelfMapped}
use Rattle.hp_segs.specs.GrowthLaws.{HasArmedGrowth}
use Rattle.hp_segs.specs.LaterSteps.{after_arm, after_leave, after_withdraw}
use Rattle.hp_segs.specs.SegsView.{SegsView}
use Rattle.hp_segs.specs.Steps.{after_claim}
use Rattle.hp_serve.specs.Coordinating.{stepping, with_room}
use Rattle.hp_segs.specs.declared.outcome.AskLog.{AskLog}
use Rattle.hp_proc.specs.Courses.{numbered_in}
use Rattle.hp_proc.specs.Doing.{Done}
use Rattle.hp_proc.specs.Outcomes.{IsOfATraceUnlessStale}
use Rattle.hp_serve.specs.Asking.{ask_of}
use Rattle.thm_run.specs.Seats.{Handles, Knows, Seat}
use Rattle.thm_run.specs.Together.{IsFirst, GlobalState, RunsByMail, Steps}
use Rattle.thm_run.proofs.SeatFacts.CoreLogs.{keeps}
use Rattle.thm_run.proofs.SeatFacts.CoreSteps.{Brings, step_logs}
use Rattle.thm_run.proofs.WhatWentBack.CutFirst.{IsCutFirst}
use Rattle.thm_run.proofs.Following.{attaching_leaves, catching_leaves}
use Rattle.thm_run.proofs.WhatWentBack.Gone.{AreTrulyFreed, IsTrulyFreed, IsTrulySince}
use Rattle.thm_run.proofs.WhatWentBack.GoneLogged.{AreCutSince, AreGone, gone_left, gone_logged, gone_refused, gone_retired}
use Rattle.thm_run.proofs.SeatFacts.SegsAlong.{armed_along}
use Rattle.thm_run.proofs.SeenAndShown.Provenance.{asked_counts, of_a_seat, outcomes}
use Rattle.thm_run.proofs.TracesTold.TracedRuns.{told_runs, traced_runs}
use Rattle.thm_run.proofs.Leaving.{claim_leaves, leaves, withdraw_leaves}
use Rattle.thm_run.proofs.Made.{IsPost, IsTaken}
use Rattle.thm_run.proofs.TracesTold.Numbers.{numbers_of, trace_in}
use Rattle.thm_run.proofs.TracesTold.Posts.{taken_said}
use Rattle.thm_run.proofs.TracesTold.Traced.{AreTold, AreTraced, IsTracedSeat}
use Rattle.thm_run.proofs.PathSteps.ByMail.{by_mail_then, run_of}
use Rattle.thm_run.proofs.WhatWentBack.GoneSeats.{cut_before, gone_seated, handles_going, mails_going, none_going, quietly_going}

-- WHAT IT MAKES OF THE SEGMENT VALUE

module _ (seats : List Seat) (by : ℕ) (seat : Seat) (there : slice_get seats by ≡ Some seat)
    (traced : IsTracedSeat (numbers_of seats) by seat) (fetched : All (IsPost (numbers_of seats)) seat.fetched) (who base : ℕ)
    (past : List Done) (cut : AreCutSince past (trace_in (slice_get seats who))) where
  abbrev took : ℕ → List Done
  took = numbers_of seats

  abbrev AreSo : SegsView → Type 0
  AreSo segs = AreGone who base past seats segs

  -- what the coordinator is handed was asked, or told
  brought : (count : ℕ) (event : CoreEvent) → Knows count seat event → Brings (IsTaken took) event
  brought count _ (Knows.polls now acks) = tt
  brought count _ (Knows.takes frame body event among says is_ask) =
      taken_said took count frame body event (All-contains (IsPost took) seat.fetched frame fetched among) says is_ask

  module _ (segs : SegsView) (armed : HasArmedGrowth segs) (was : AreSo segs) where
    gone_event : (denied : Option (List ℕ × ℕ)) (event : CoreEvent) (core : Core) → seat.party.core ≡ Some core
        → Brings (IsTaken took) event
        → AreSo (stepping denied event core segs).segs
    gone_event denied event core its brings =
        gone_logged who base past seats (with_room segs) (stepping denied event core segs).segs
        (record {
          low = was.low;
          since = record { more = was.since.more; is = was.since.is; going = was.since.going };
          freed = was.freed;
        })
        cut
        (step_logs (IsTaken took) (λ socket total. denied) event core (with_room segs) brings (traced.held core its) armed)

  gone_claim : (number : ℕ) (segs : SegsView) → AreSo segs → AreSo (after_claim by number segs)
  gone_claim number segs was = gone_left who base past seats segs (after_claim by number segs) was (claim_leaves by number segs)

  gone_withdraw : (number since now : ℕ) (segs : SegsView) → AreSo segs → AreSo (after_withdraw by number since now segs)
  gone_withdraw number since now segs was =
      let left = withdraw_leaves segs by number since now in
      gone_refused who base past seats segs (after_withdraw by number since now segs) was left.log left.asks

handles_gone : (seats : List Seat) (count by : ℕ) (old new : Seat) (taken given : SegsView) → Handles count by old new taken given
    → slice_get seats by ≡ Some old → IsTracedSeat (numbers_of seats) by old → All (IsPost (numbers_of seats)) old.fetched
    → (who base : ℕ) (past : List Done)
    → AreCutSince past (trace_in (slice_get seats who)) → HasArmedGrowth taken → AreGone who base past seats taken
    → AreGone who base past seats given
handles_gone seats count by old new _ _ (Handles.looks seat segs) there traced fetched who base past cut armed was = was
handles_gone seats count by old new _ _ (Handles.moves_ranges seat segs ranges moves) there traced fetched who base past cut armed was =
    record { low = was.low; since = record { more = was.since.more; is = was.since.is; going = was.since.going }; freed = was.freed }
handles_gone seats count by _ _ _ _ (Handles.steps seat segs event core is its knows denied may) there traced fetched who base past cut armed was =
    gone_event seats by seat there traced fetched who base past cut segs armed was denied event core its
    (brought seats by seat there traced fetched who base past cut count event knows)
handles_gone seats count by _ _ _ _ (Handles.maps seat segs caught table now core is its up) there traced fetched who base past cut armed was =
    gone_event seats by seat there traced fetched who base past cut segs armed was None (SelfMapped caught now) core its tt
handles_gone seats count by _ _ _ _ (Handles.follows seat segs caught table member caught_up) there traced fetched who base past cut armed was =
    gone_left who base past seats segs _ was (catching_leaves by caught segs)
handles_gone seats count by _ _ _ _ (Handles.arms seat segs asked run number is) there traced fetched who base past cut armed was =
    gone_refused who base past seats segs (after_arm (ask_of by number asked) segs) was (keeps [] (sym (append-nil segs.log)) refl)
    (leaves refl)
handles_gone seats count by _ _ _ _ (Handles.claims seat segs) there traced fetched who base past cut armed was =
    gone_claim seats by seat there traced fetched who base past cut seat.party.asked segs was
handles_gone seats count by _ _ _ _ (Handles.settles seat segs since now late) there traced fetched who base past cut armed was =
    gone_claim seats by seat there traced fetched who base past cut seat.party.asked (after_withdraw by seat.party.asked since now segs)
    (gone_withdraw seats by seat there traced fetched who base past cut seat.party.asked since now segs was)
handles_gone seats count by _ _ _ _ (Handles.cuts seat segs heap addr run) there traced fetched who base past cut armed was =
    gone_retired who base past seats heap run segs was
handles_gone seats count by _ _ _ _ (Handles.attaches seat segs caught after tried) there traced fetched who base past cut armed was =
    gone_left who base past seats segs _ was (attaching_leaves by caught segs)
handles_gone seats count by _ _ _ _ (Handles.detaches seat segs told secondary none heard) there traced fetched who base past cut armed was =
    gone_left who base past seats segs (after_leave by segs) was (record { asks = refl; armed = refl; log = refl; retiring = refl })

-- EACH STEP, AND A RUN

-- whoever gives up what it has cut after a step did so before it
step_cut : {count : ℕ} {old new : GlobalState} (who : ℕ) (past : List Done) → Steps count old new
    → AreCutSince past (trace_in (slice_get new.seats who)) → AreCutSince past (trace_in (slice_get old.seats who))
step_cut who past (Steps.quietly at by old new there did) cut =
    let does = quietly_going 0 at.segs did in
    cut_before at.seats by old new there does.more does.trace who past cut
step_cut who past (Steps.mails at by old new step there did) cut =
    let does = mails_going 0 at.segs did in
    cut_before at.seats by old new there does.more does.trace who past cut
step_cut who past (Steps.handles at by old new given there did kept armed) cut =
    let does = handles_going 0 did in
    cut_before at.seats by old new there does.more does.trace who past cut

step_gone : {count : ℕ} {old new : GlobalState} (who base : ℕ) (past : List Done) → Steps count old new → AreTraced old → AreTold old
    → AreCutSince past (trace_in (slice_get old.seats who)) → HasArmedGrowth old.segs → AreGone who base past old.seats old.segs
    → AreGone who base past new.seats new.segs
step_gone who base past (Steps.quietly at by old new there did) traced told cut growth was =
    let does = quietly_going base at.segs did in
    gone_seated at.seats by old new there does.more does.trace who past base at.segs does.going was
step_gone who base past (Steps.mails at by old new step there did) traced told cut growth was =
    let does = mails_going base at.segs did in
    gone_seated at.seats by old new there does.more does.trace who past base at.segs does.going was
step_gone {count} who base past (Steps.handles at by old new given there did kept armed) traced told cut growth was =
    let does = handles_going base did in
    gone_seated at.seats by old new there does.more does.trace who past base given does.going
    (handles_gone at.seats count by old new at.segs given did there (traced.seats by old there) (told.fetched by old there) who base past cut
    growth was)

none_at : (found : Option Seat) → ((seat : Seat) → found ≡ Some seat → seat.trace ≡ []) → trace_in found ≡ []
none_at None none = refl
none_at (Some seat) none = none seat refl

cut_at : (found : Option Seat) → ((seat : Seat) → found ≡ Some seat → IsCutFirst seat.trace) → IsCutFirst (trace_in found)
cut_at None own = tt
cut_at (Some seat) own = own seat refl

module _ (count absent : ℕ) (pools : List PoolLine) (first : GlobalState) (is : IsFirst count absent pools first) where
  -- a run that begins somewhere on a run, as one participant does more
  module _ (start : GlobalState) (to_start : RunsByMail count first start) (who : ℕ) where
    abbrev pub base : ℕ
    base = length start.segs.log

    abbrev pub past : List Done
    past = trace_in (slice_get start.seats who)

    -- the outcomes that are there are of no later numbers
    none_past : (entry : AskLog) → Contains start.segs.asks entry → entry.from ≡ who → length (numbered_in past) < entry.number → ⊥
    none_past entry among own above =
        let its = of_a_seat count absent pools first start is to_start entry among in
        let counts = asked_counts count absent pools first start is to_start entry.from its.seat its.its in
        let same : past ≡ its.seat.trace = ap trace_in (ap (slice_get start.seats) (sym own) ∙ its.its) in
        omega (arith, above, its.within, counts, ap (λ (dones : List Done). length (numbered_in dones)) same)

    gone_start : AreGone who base past start.seats start.segs
    gone_start = record {
      low = omega arith;
      since = record { more = []; is = sym (append-nil past); going = none_going base start.segs };
      freed = All-weaker (Contains start.segs.asks)
          (IsTrulySince who (length (numbered_in past)) base (numbers_of start.seats) start.segs.log)
          (λ entry among generation told own above. absurd (none_past entry among own above)) start.segs.asks
          (All-contains_itself start.segs.asks);
    }

    pub gone_runs : {now : GlobalState} → RunsByMail count start now → AreCutSince past (trace_in (slice_get now.seats who))
        → AreGone who base past now.seats now.segs
    gone_runs on cut = along start on refl cut where
      along : {now : GlobalState} (begun : GlobalState) → RunsByMail count begun now → begun ≡ start
          → AreCutSince past (trace_in (slice_get now.seats who)) → AreGone who base past now.seats now.segs
      along begun (RunsByMail.stands at) same cut = subst (λ (at : GlobalState). AreGone who base past at.seats at.segs) (sym same) gone_start
      along begun (RunsByMail.goes_on _ mid last before_it step by) same cut =
          let to_mid : RunsByMail count first mid =
          by_mail_then count first start mid to_start (subst (λ begun. RunsByMail count begun mid) same before_it) in
          let earlier : AreCutSince past (trace_in (slice_get mid.seats who)) = step_cut who past step cut in
          step_gone who base past step (traced_runs count absent pools first is mid to_mid) (told_runs count absent pools first is mid to_mid)
          earlier
          (armed_along count absent pools first is mid (run_of to_mid)).growth (along begun before_it same earlier)

  module _ (now : GlobalState) (runs : RunsByMail count first now)
      (each : (who : ℕ) (seat : Seat) → slice_get now.seats who ≡ Some seat → IsCutFirst seat.trace) where
    none_first : (who : ℕ) → trace_in (slice_get first.seats who) ≡ []
    none_first who = none_at (slice_get first.seats who) (λ seat there. (is.each who seat there).trace)

    -- whoever gives up what it has cut does so from the beginning on
    cut_all : (who : ℕ) → AreCutSince (trace_in (slice_get first.seats who)) (trace_in (slice_get now.seats who))
    cut_all who more all =
        subst IsCutFirst (all ∙ ap (λ (dones : List Done). dones ++ more) (none_first who)) (cut_at (slice_get now.seats who) (each who))

    its_freed : (entry : AskLog) → Contains now.segs.asks entry → IsTrulyFreed (numbers_of now.seats) now.segs.log entry
    its_freed entry among generation told =
        let who = entry.from in
        let its = of_a_seat count absent pools first now is runs entry among in
        let gone = gone_runs first (RunsByMail.stands first) who runs (cut_all who) in
        let none : length (numbered_in (trace_in (slice_get first.seats who))) ≡ 0 =
        ap (λ (dones : List Done). length (numbered_in dones)) (none_first who) in
        let truly : IsTrulySince who (length (numbered_in (trace_in (slice_get first.seats who)))) (length first.segs.log)
        (numbers_of now.seats) now.segs.log entry =
        All-contains
        (IsTrulySince who (length (numbered_in (trace_in (slice_get first.seats who)))) (length first.segs.log) (numbers_of now.seats)
        now.segs.log) now.segs.asks entry gone.freed among in
        let since = truly generation told refl (omega (arith, none, its.some)) in
        record {
          heap = since.heap;
          run = since.run;
          its = since.its;
          gone = record { place = since.gone.place; before = since.gone.before; dropped = since.gone.dropped };
        }

    -- each outcome that says of a run that it has gone says so truly, of one that its participant gave up
    pub truly_freed : AreTrulyFreed (numbers_of now.seats) now.segs.log now.segs.asks
    truly_freed =
        All-weaker (Contains now.segs.asks) (IsTrulyFreed (numbers_of now.seats) now.segs.log) its_freed now.segs.asks
        (All-contains_itself now.segs.asks)

    -- so each outcome but a stale one is of something that the trace of its participant did
    pub outcomes_true : (did : ℕ → List Done) → ((who : ℕ) (seat : Seat) → slice_get now.seats who ≡ Some seat → did who ≡ seat.trace)
        → All (IsOfATraceUnlessStale now.segs.log did) now.segs.asks
    outcomes_true did own = outcomes count absent pools first now is runs truly_freed did own
