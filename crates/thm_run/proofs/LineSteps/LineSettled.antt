-- What is known after a line, out of the run of it: its participant alone asked, no growth was open before or is open now, and each ask of
-- its traces has its outcome.
use Rattle.std.proofs.Common.{◌≡◌, ◌≢◌, ◌∙◌, ℕ, ◌+◌, ◌-◌, ◌<◌, ◌≤◌, false, List, [], ◌∷◌, ◌++◌, length, Option, Some, None, Contains, inl, inr, refl, ap, sym, subst, arith}
use Rattle.std.specs.List.{slice_get}
use Rattle.std.proofs.lemmas.Bool.{cases_lt}
use Rattle.std.proofs.lemmas.Option.{slice_get_within}
use Rattle.hp_base.specs.declared.pool_line.PoolLine.{PoolLine}
use Rattle.hp_base.specs.declared.row.Run.{Run}
use Rattle.hp_heap.proofs.AllocFacts.ChoiceLaw.{Contains-here}
use Rattle.hp_log.specs.declared.log_record.LogRecord.TheVariants.{Drop}
use Rattle.hp_segs.proofs.AskFacts.Settled.{get_before}
use Rattle.hp_segs.specs.SegsView.{is_grant_or_refusal}
use Rattle.hp_segs.specs.Sound.{IsSound}
use Rattle.hp_segs.specs.SoundAsks as asks
use Rattle.hp_segs.specs.declared.outcome.AskLog.{AskLog}
use Rattle.hp_segs.specs.declared.outcome.Outcome.TheVariants.{Granted}
use Rattle.hp_proc.specs.Courses.{numbered_in}
use Rattle.hp_proc.specs.Doing.{Done}
use Rattle.hp_proc.specs.Doing.Done.{Asked, CaughtUp, Looked}
use Rattle.hp_proc.specs.Outcomes.{AreAnsweredSo, IsAnsweredSo}
use Rattle.hp_proc.specs.Seen.{seen_in}
use Rattle.hp_serve.specs.declared.pages_asked.PagesAsked.{PagesAsked}
use Rattle.thm_run.proofs.PathSteps.ApartByLines.{AreClosed, stands_on_line}
use Rattle.thm_run.proofs.StandingApart.{StandsApart}
use Rattle.thm_run.proofs.AfterLemmas.{runs_behind}
use Rattle.thm_run.specs.OwnHolds.{HasLater}
use Rattle.thm_run.proofs.GrownHeaps.GrantTurns.{among_read, grant_is, read_among}
use Rattle.thm_run.proofs.GrownHeaps.GrantedAsks.{AreSettled}
use Rattle.thm_run.proofs.GrownHeaps.Grown.{get_behind}
use Rattle.thm_run.proofs.GrownHeaps.LaterGrants.{GrantsLater, granted_stays}
use Rattle.thm_run.proofs.SeenAndShown.Looks.{LineLooks, at_log, nowhere}
use Rattle.thm_run.proofs.TracesTold.Numbers.{its_numbers, numbered_both, numbers_of}
use Rattle.thm_run.proofs.SeenAndShown.Provenance.{asked_counts, in_turn, kept, of_a_seat}
use Rattle.thm_run.proofs.Rising.{Rises}
use Rattle.thm_run.proofs.SeenAndShown.SeenTraces.{answered_from, behind_answered}
use Rattle.thm_run.proofs.SeenAndShown.SeenLog.{asking_line_seen}
use Rattle.thm_run.proofs.SeatFacts.SegsAlong.{sound_along}
use Rattle.thm_run.proofs.GrownHeaps.UngrantedAdds.{IsUngrantedAdd, caused_at}
use Rattle.thm_run.proofs.PathSteps.ByMail.{by_mail_then, run_of}
use Rattle.thm_run.specs.Seats.{Seat}
use Rattle.thm_run.specs.Together.{IsFirst, GlobalState, RunsByMail}

-- the run of a line of a participant: no growth was open before it or is open after it, each ask with which somebody was armed was closed,
-- nobody else took a number, and each ask of its participant's traces has its outcome
pub record IsLineRun (count who : ℕ) (start now : GlobalState) (old new : Seat) (trace : List Done) : Type 0 where
  pub runs : RunsByMail count start now
  pub was : slice_get start.seats who ≡ Some old
  pub is : slice_get now.seats who ≡ Some new
  pub trace_is : new.trace ≡ old.trace ++ trace
  pub alone : start.segs.growth ≡ None
  pub closed : AreClosed start.segs
  pub beside : (other : ℕ) → other ≢ who → length (numbers_of now.seats other) ≤ length (numbers_of start.seats other)
  pub ended : now.segs.growth ≡ None
  pub answered : AreAnsweredSo now.segs.log now.segs.asks who new.trace

module _ (count absent : ℕ) (pools : List PoolLine) (first start now : GlobalState) (is_first : IsFirst count absent pools first)
    (to_start : RunsByMail count first start) (who : ℕ) (old new : Seat) (trace : List Done) (line : IsLineRun count who start now old new trace)
  where
    -- so many numbers its participant had taken, and so many outcomes and records were there
    abbrev pub before_line : ℕ
    before_line = length (numbered_in old.trace)

    abbrev pub base : ℕ
    base = length start.segs.asks

    abbrev pub records : ℕ
    records = length start.segs.log

    to_now : RunsByMail count first now
    to_now = by_mail_then count first start now to_start line.runs

    pub line_behind : HasLater start.segs now.segs
    line_behind = runs_behind (run_of line.runs)

    pub line_stands : StandsApart who before_line base records now.segs
    line_stands =
        stands_on_line count absent pools first start is_first to_start who before_line
        (omega (arith, ap length (its_numbers start.seats who old line.was))) line.alone line.closed line.runs line.beside

    start_sound : IsSound start.segs
    start_sound = sound_along count absent pools first is_first start (run_of to_start)

    now_sound : IsSound now.segs
    now_sound = sound_along count absent pools first is_first now (run_of to_now)

    -- each outcome was there or came
    was_there : (place : ℕ) (entry : AskLog) → place < base → slice_get now.segs.asks place ≡ Some entry
        → slice_get start.segs.asks place ≡ Some entry
    was_there place entry early here =
        sym (get_before start.segs.asks line_behind.others place early) ∙ (ap (λ asks. slice_get asks place) (sym line_behind.asks) ∙ here)

    -- those that were there stand beside records that were there
    pub within_start : (place : ℕ) (entry : AskLog) → slice_get start.segs.asks place ≡ Some entry → entry.at ≤ records
    within_start place entry here =
        (caused_at start.segs.pools start.segs.log [] start.segs.asks place entry start_sound.asks.caused here).is.within

    -- an outcome of a number of the line came in it
    pub came : (place : ℕ) (entry : AskLog) → slice_get now.segs.asks place ≡ Some entry → entry.from ≡ who → before_line < entry.number
        → base ≤ place
    came place entry here own above = elim (cases_lt place base) [
      | inl early ↦
          let its = of_a_seat count absent pools first start is_first to_start entry
          (read_among start.segs.asks place entry (was_there place entry early here)) in
          let same : Some its.seat ≡ Some old = sym its.its ∙ (ap (slice_get start.seats) own ∙ line.was) in
          let seat : its.seat ≡ old = cc in
          let counts = asked_counts count absent pools first start is_first to_start who old line.was in
          absurd (omega (arith, above, its.within, counts, ap (λ (seat : Seat). seat.party.asked) seat))
      | inr late ↦ late
    ]

    -- what is granted of the outcomes that came are later records
    pub line_later : GrantsLater records line_behind.others
    line_later entry generation among granted =
        let read = among_read line_behind.others entry among in
        let place : ℕ = base + read.0 in
        let here : slice_get now.segs.asks place ≡ Some entry =
        ap (λ asks. slice_get asks place) line_behind.asks
        ∙ (get_behind start.segs.asks line_behind.others read.0 place refl ∙ read.1) in
        ((line_stands.since place entry (omega arith) here).granted generation granted).later

    -- its asks are those after the others
    numbers_are : numbered_in new.trace ≡ numbered_in old.trace ++ numbered_in trace
    numbers_are = ap numbered_in line.trace_is ∙ numbered_both old.trace trace

    granted_own : (entry : AskLog) (generation : ℕ) → Contains now.segs.asks entry → entry.outcome ≡ Granted generation
        → records < generation
        → (entry.from ≡ who) × (before_line < entry.number)
    granted_own entry generation among granted past =
        let read = among_read now.segs.asks entry among in
        elim (cases_lt read.0 base) [
          | inl early ↦
              let there = was_there read.0 entry early read.1 in
              let at = (grant_is now.segs entry now_sound among generation granted).2.at in
              absurd (omega (arith, past, at, within_start read.0 entry there))
          | inr late ↦
              let its = (line_stands.since read.0 entry late read.1).granted generation granted in
              (its.own, its.above)
        ]

    granted_later : (entry : AskLog) (generation : ℕ) → Contains now.segs.asks entry → entry.outcome ≡ Granted generation → entry.from ≡ who
        → before_line < entry.number → records < generation
    granted_later entry generation among granted own above =
        let read = among_read now.segs.asks entry among in
        ((line_stands.since read.0 entry (came read.0 entry read.1 own above) read.1).granted generation granted).later

    granted_asked : (entry : AskLog) (generation : ℕ) → Contains now.segs.asks entry → entry.outcome ≡ Granted generation → entry.from ≡ who
        → before_line < entry.number
        → (asked : PagesAsked) × (given : Option Run)
        × (slice_get (numbered_in trace) (entry.number - (before_line + 1)) ≡ Some (Asked asked given))
    granted_asked entry generation among granted own above =
        let its = kept count absent pools first now is_first to_now entry among (ap is_grant_or_refusal granted) new
        (ap (slice_get now.seats) own ∙ line.is) in
        let place : ℕ = entry.number - (before_line + 1) in (
          its.asked,
          its.run,
          sym (get_behind (numbered_in old.trace) (numbered_in trace) place (entry.number - 1) (omega (arith, above)))
              ∙ (ap (λ numbered. slice_get numbered (entry.number - 1)) (sym numbers_are) ∙ its.its),
        )

    -- what is known after the line
    pub line_settled : AreSettled who before_line records now.segs trace
    line_settled = record {
      sound = now_sound;
      turn = in_turn count absent pools first now is_first to_now;
      answered = λ place asked run there. answered_line place asked run there;
      later = granted_later;
      own = granted_own;
      asked = granted_asked;
    }
      where
        answered_line : (place : ℕ) (asked : PagesAsked) (run : Option Run) → slice_get (numbered_in trace) place ≡ Some (Asked asked run)
            → IsAnsweredSo now.segs.log now.segs.asks who (before_line + 1 + place) asked run
        answered_line =
            behind_answered now.segs.log now.segs.asks who 1 (before_line + 1) old.trace trace (omega arith)
            (answered_from now.segs.log now.segs.asks who (old.trace ++ trace)
            (subst (AreAnsweredSo now.segs.log now.segs.asks who) line.trace_is line.answered))

    -- the records before the line did not end with a growth that failed
    none_failed : IsUngrantedAdd now.segs.log now.segs.asks records → ⊥
    none_failed add =
        let next : records - 1 + 1 ≡ records = omega (arith, add.some) in
        let added = sym (get_before start.segs.log line_behind.more (records - 1) (omega (arith, add.some)))
        ∙ (ap (λ log. slice_get log (records - 1)) (sym line_behind.log) ∙ add.added) in
        let off : asks.is_granted start.segs.asks records ≡ false =
        sym (granted_stays start.segs.log line_behind.more start.segs.asks line_behind.others line_later records (omega arith))
        ∙ (ap (λ logged. asks.is_granted logged records) (sym line_behind.asks) ∙ add.ungranted) in
        let settled : asks.AreSettled start.segs.log start.segs.asks None =
        subst (asks.AreSettled start.segs.log start.segs.asks) line.alone start_sound.asks.settled in
        let dropped = settled (records - 1) add.run add.heap added refl (ap (asks.is_granted start.segs.asks) next ∙ off) in
        omega (arith, next, slice_get_within start.segs.log (records - 1 + 1) (Drop add.run) dropped)

    -- what the line shows lies between the records before it and those after it, where so does what it looks at
    pub line_seen : LineLooks trace
        → ((looked : ℕ) → Contains trace (Looked looked) → (records ≤ looked) × (looked ≤ length now.segs.log))
        → Rises records (length now.segs.log) (seen_in now.segs.log now.segs.asks who (before_line + 1) trace)
    line_seen looks between = by_looks trace looks between where
      by_looks : (trace : List Done) → LineLooks trace
          → ((looked : ℕ) → Contains trace (Looked looked) → (records ≤ looked) × (looked ≤ length now.segs.log))
          → Rises records (length now.segs.log) (seen_in now.segs.log now.segs.asks who (before_line + 1) trace)
      by_looks trace (nowhere _ none) between =
          asking_line_seen who before_line base records now.segs now_sound line.ended line_stands
          (in_turn count absent pools first now is_first to_now) none_failed came trace none
      by_looks _ (at_log looked ended) between = between looked (Contains-here (Looked looked) (CaughtUp looked ended ∷ []))
