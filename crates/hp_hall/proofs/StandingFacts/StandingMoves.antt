-- What a value has for each heap, and the asks of the armed, are left by calls of each kind but those that change them.
use Rattle.std.proofs.Common.{◌≡◌, ◌∙◌, ℕ, ◌+◌, Bool, true, false, not, ◌&&◌, ◌||◌, List, [], ◌∷◌, ◌++◌, map, filter, length, get_or, Option, Some, None, IfSome, IsTrue, refl, ap, sym, subst, if◌then◌else◌}
use Rattle.std.specs.List.{All}
use Rattle.std.proofs.lemmas.Bool.{and_right, false≢true}
use Rattle.std.proofs.lemmas.List.{append-nil}
use Rattle.std.specs.Option.{option_and_then, option_to_list}
use Rattle.std.proofs.lemmas.List.Elements.{All-filter, All-head, All-tail, filter-append}
use Rattle.hp_base.specs.declared.row.Row.{Row}
use Rattle.hp_base.specs.declared.row.Run.{Run}
use Rattle.hp_log.specs.Rows.{in_run, rows_of}
use Rattle.hp_segs.specs.GrowthLaws.{IsOfArmed}
use Rattle.hp_segs.specs.LaterSteps.{armed_ask, grows_for, is_noted, noting, withdrawn_growth, withdrawn_unless}
use Rattle.hp_segs.specs.Moved.{SegsCall, Reserve, OpenRun, CloseAsk, LogStale, NoteFailed, Agree, Cancel, Claim, Arm, Withdraw, Retire, DropRetiring, LogFreed, JoinRoster, LeaveRoster, ClaimRange, ReleaseRange, Appends, Leads, after, is_log_call, is_owner_call, is_range_call, is_roster_call}
use Rattle.hp_log.specs.declared.log_record.LogRecord.{LogRecord}
use Rattle.hp_segs.specs.SegsView.{SegsView, grant_of, grant_or_refusal_of, granted_by, is_counted, is_opened, is_retiring, run_of}
use Rattle.hp_segs.specs.Sound.{IsSound}
use Rattle.hp_segs.specs.SoundAsks.{IsGranted}
use Rattle.hp_segs.specs.SoundRows.{growth_run, in_runs}
use Rattle.hp_segs.specs.Steps.{after_failure, agreed_growth, cancelled_growth, claimed_grant, granted_unless, lowest_member_below, segment_of, without_run}
use Rattle.hp_segs.specs.declared.ask.Ask.{Ask}
use Rattle.hp_segs.specs.declared.external_range.ExternalRange.{ExternalRange}
use Rattle.hp_segs.specs.declared.fault.NotAll.{NotAll}
use Rattle.hp_segs.specs.declared.growth.Growth.{Growth}
use Rattle.hp_segs.specs.declared.outcome.AskLog.{AskLog}
use Rattle.hp_segs.specs.declared.outcome.Cause.{Cause}
use Rattle.hp_segs.specs.declared.outcome.Cause.TheVariants.{MapFailed, Withdrawn}
use Rattle.hp_segs.specs.declared.outcome.Outcome.{Outcome}
use Rattle.hp_segs.specs.declared.outcome.Outcome.TheVariants.{Granted, Refused, Stale, Freed}
use Rattle.hp_segs.specs.declared.row_state.RowState.{RowState}
use Rattle.hp_segs.specs.declared.row_state.RowState.TheVariants.{Opened, Agreed, Owned, Retiring}
use Rattle.hp_segs.specs.declared.row_state.Segment.{Segment}
use Rattle.hp_segs.proofs.Appending.{moves_append}
use Rattle.hp_segs.proofs.AskFacts.CausedLemmas.{run_of_stays}
use Rattle.hp_segs.proofs.FormCalls.{log_form_leaves}
use Rattle.hp_segs.proofs.SlotFacts.ListFacts.{filter_alike, filter_twice}
use Rattle.hp_segs.proofs.Moves.{calls_keep}
use Rattle.hp_segs.specs.Standing.{claimed_by, given_up_by, is_claimed_for, run_granted, runs_granted}
use Rattle.hp_hall.specs.Standings.{LeavesAsks, LeavesStanding, LogCallsLeave, NotesLeave, OwnerCallsLeave, RangeCallsLeave, RosterCallsLeave}
use Rattle.hp_hall.proofs.CountedRows.{counted, named_logged, named_of, named_silent, standing_from}
use Rattle.hp_hall.proofs.StandingFacts.StandingGrants.{named_granted}

counted_opened : (rows : List Row) → counted (map (segment_of Opened) rows) ≡ []
counted_opened [] = refl
counted_opened (row ∷ rows) = counted_opened rows

-- Opened rows come
pub counted_more : (segments : List Segment) (rows : List Row) → counted (segments ++ map (segment_of Opened) rows) ≡ counted segments
counted_more segments rows =
    filter-append (λ segment. is_counted segment.state) segments (map (segment_of Opened) rows)
    ∙ (ap (λ more. counted segments ++ more) (counted_opened rows) ∙ append-nil (counted segments))

retiring_by : (state : RowState) → (not (is_retiring state) && is_counted state) ≡ is_counted state
retiring_by Opened = refl
retiring_by (Agreed heap) = refl
retiring_by (Owned heap) = refl
retiring_by Retiring = refl

-- Retiring rows go
pub counted_dropped : (segments : List Segment) → counted (filter (λ segment. not (is_retiring segment.state)) segments) ≡ counted segments
counted_dropped segments =
    filter_twice (λ segment. not (is_retiring segment.state)) (λ segment. is_counted segment.state) segments
    ∙ filter_alike (λ segment. not (is_retiring segment.state) && is_counted segment.state) (λ segment. is_counted segment.state) segments
    (λ k d within. retiring_by (get_or segments k d).state)

failed_by : (state : RowState) (inside : Bool) → is_opened state ≡ (inside || false) → (not inside && is_counted state) ≡ is_counted state
failed_by Opened inside is = and_right (not inside) false refl
failed_by (Agreed heap) true is = cc
failed_by (Agreed heap) false is = refl
failed_by (Owned heap) true is = cc
failed_by (Owned heap) false is = refl
failed_by Retiring inside is = and_right (not inside) false refl

module _ (segs : SegsView) (sound : IsSound segs) where
  -- the rows of a growth go
  pub counted_failed : (growth : Growth) → segs.growth ≡ Some growth → counted (without_run growth.run segs.segments) ≡ counted segs.segments
  counted_failed growth open_now =
      let opened : All (λ segment. is_opened segment.state ≡ in_runs (growth.run ∷ []) segment.row) segs.segments =
      subst (λ g. All (λ segment. is_opened segment.state ≡ in_runs (growth_run g) segment.row) segs.segments) open_now sound.rows.opened in
      filter_twice (λ segment. not (in_run growth.run segment.row)) (λ segment. is_counted segment.state) segs.segments
      ∙ filter_alike (λ segment. not (in_run growth.run segment.row) && is_counted segment.state) (λ segment. is_counted segment.state)
      segs.segments
      (λ k d within. failed_by (get_or segs.segments k d).state (in_run growth.run (get_or segs.segments k d).row) (opened k d within))

module _ (heap : ℕ) (segs : SegsView) (sound : IsSound segs) where
  failed : (growth : Growth) (cause : Cause) (ask : Option Ask) (places : ℕ) → segs.growth ≡ Some growth
      → named_of heap (after_failure growth cause ask places segs) ≡ named_of heap segs
  failed growth cause ask places open_now =
      named_logged heap segs (after_failure growth cause ask places segs) _ (counted_failed segs sound growth open_now) refl refl

  noted_by : (cause : Cause) (taken : Bool)
      → named_of heap (if taken then record segs { growth = noting cause segs.growth } else segs) ≡ named_of heap segs
  noted_by cause true = refl
  noted_by cause false = refl

  granted : (growth : Growth) (member : Option NotAll) → segs.growth ≡ Some growth
      → named_of heap (granted_unless growth segs member) ≡ named_of heap segs
  granted growth None open_now = named_granted segs growth sound open_now heap
  granted growth (Some member) open_now = refl

  agreed : (acks : List ℕ) (growth : Option Growth) → segs.growth ≡ growth
      → named_of heap (agreed_growth acks segs growth) ≡ named_of heap segs
  agreed acks None is = refl
  agreed acks (Some growth) is = granted growth (lowest_member_below segs.roster acks growth.generation) is

  cancelled : (cause : Cause) (growth : Option Growth) → segs.growth ≡ growth
      → named_of heap (cancelled_growth cause segs growth) ≡ named_of heap segs
  cancelled cause None is = refl
  cancelled cause (Some growth) is = failed growth cause (Some growth.ask) 2 is

  module _ (from number : ℕ) (cause : Cause) where
    withdrawn_by : (growth : Growth) (own : Bool) → segs.growth ≡ Some growth
        → named_of heap
        (if own then after_failure growth cause (armed_ask segs from) 0 segs else withdrawn_growth from number cause segs None)
        ≡ named_of heap segs
    withdrawn_by growth true is = failed growth cause (armed_ask segs from) 0 is
    withdrawn_by growth false is = named_logged heap segs (withdrawn_growth from number cause segs None) _ refl refl refl

    withdrawn : (growth : Option Growth) → segs.growth ≡ growth
        → named_of heap (withdrawn_growth from number cause segs growth) ≡ named_of heap segs
    withdrawn None is = named_logged heap segs (withdrawn_growth from number cause segs None) _ refl refl refl
    withdrawn (Some growth) is = withdrawn_by growth (grows_for from number growth) is

    withdrawn_where : (standing : Option Outcome)
        → named_of heap (withdrawn_unless from number cause segs standing) ≡ named_of heap segs
    withdrawn_where (Some outcome) = refl
    withdrawn_where None = withdrawn segs.growth refl

named_call : (heap : ℕ) (call : SegsCall) (segs : SegsView) → IsSound segs → IsTrue (is_log_call call)
    → named_of heap (after call segs) ≡ named_of heap segs
named_call heap (Reserve n) segs sound is = refl
named_call heap (OpenRun ask run) segs sound is =
    named_silent heap segs (after (OpenRun ask run) segs) (counted_more segs.segments (rows_of run (length segs.log + 1))) refl
named_call heap (CloseAsk ask cause) segs sound is = named_logged heap segs (after (CloseAsk ask cause) segs) _ refl refl refl
named_call heap (LogStale from number) segs sound is = named_logged heap segs (after (LogStale from number) segs) _ refl refl refl
named_call heap (NoteFailed participant call row got) segs sound is =
    noted_by heap segs sound (MapFailed participant call row.addr got) (is_noted segs participant call row segs.growth)
named_call heap (Agree acks) segs sound is = agreed heap segs sound acks segs.growth refl
named_call heap (Cancel cause) segs sound is = cancelled heap segs sound cause segs.growth refl
named_call heap (Claim from number) segs sound is = cc
named_call heap (Arm ask) segs sound is = refl
named_call heap (Withdraw from number since now) segs sound is =
    withdrawn_where heap segs sound from number (Withdrawn since now) (grant_or_refusal_of segs.asks from number)
named_call heap (Retire owner run) segs sound is = cc
named_call heap DropRetiring segs sound is = named_silent heap segs (after DropRetiring segs) (counted_dropped segs.segments) refl
named_call heap (LogFreed from number) segs sound is = named_logged heap segs (after (LogFreed from number) segs) _ refl refl refl
named_call heap (JoinRoster participant acked) segs sound is = cc
named_call heap (LeaveRoster participant) segs sound is = cc
named_call heap (ClaimRange list addr len page socket) segs sound is = cc
named_call heap (ReleaseRange list) segs sound is = cc

noting_by : (asks : List AskLog) (armed : List (Option Ask)) (cause : Cause) (growth : Option Growth) → IfSome growth (IsOfArmed asks armed)
    → IfSome (noting cause growth) (IsOfArmed asks armed)
noting_by asks armed cause None old = tt
noting_by asks armed cause (Some growth) old = record { its_ask = old.its_ask; above = old.above }

named : (heap : ℕ) (calls : List SegsCall) (old new : SegsView) → IsSound old → Leads calls old new
    → All (λ call. IsTrue (is_log_call call)) calls → named_of heap new ≡ named_of heap old
named heap [] old new sound leads only = ap (named_of heap) leads
named heap (call ∷ calls) old new sound leads only =
    named heap calls (after call old) new (calls_keep call old sound leads.0) leads.1
    (All-tail (λ call. IsTrue (is_log_call call)) call calls only)
    ∙ named_call heap call old sound (All-head (λ call. IsTrue (is_log_call call)) call calls only)

-- records that come after leave the runs that were granted
run_by : (log more : List LogRecord) (outcome : Outcome) → IsGranted log outcome
    → option_to_list (option_and_then (run_of (log ++ more)) (granted_by outcome)) ≡ option_to_list (option_and_then (run_of log) (granted_by outcome))
run_by log more (Granted generation) granted =
    ap option_to_list (run_of_stays log more generation granted.1.0 granted.1.1 ∙ sym granted.1.1)
run_by log more (Refused cause) granted = refl
run_by log more (Stale done) granted = refl
run_by log more (Freed generation) granted = refl

runs_stay : (log more : List LogRecord) (entries : List AskLog) → All (λ entry. IsGranted log entry.outcome) entries
    → runs_granted (log ++ more) entries ≡ runs_granted log entries
runs_stay log more [] granted = refl
runs_stay log more (entry ∷ entries) granted =
    ap (λ l. l ++ runs_granted (log ++ more) entries) (run_by log more entry.outcome (All-head (λ entry. IsGranted log entry.outcome) entry entries granted))
    ∙ ap (λ l. run_granted log entry ++ l) (runs_stay log more entries (All-tail (λ entry. IsGranted log entry.outcome) entry entries granted))

pub log_calls_leave : LogCallsLeave
log_calls_leave steps old new sound moved heap =
    let came : Appends old new = moves_append is_log_call steps old new moved in
    standing_from heap old new (named heap moved.calls old new sound moved.leads moved.only)
    (ap (λ log. runs_granted log (claimed_by heap old)) came.log
    ∙ runs_stay old.log came.records (claimed_by heap old)
    (All-filter (is_claimed_for heap old.segments) (λ entry. IsGranted old.log entry.outcome) old.asks sound.asks.granted))
    (ap (given_up_by heap) (log_form_leaves steps old new sound moved).retired)

-- the roster, external memory and spare are no part of it
beside : (segs : SegsView) (roster : List Bool) (ranges : List ExternalRange) (spare : ℕ)
    → LeavesStanding segs (record segs { roster = roster; ranges = ranges; spare = spare })
beside segs roster ranges spare = record {
  standing = λ heap. refl;
  armed = λ who. refl;
  sound = λ old. record { growth = old.growth; kept = old.kept };
}

off : (old new : SegsView) → false ≡ true → LeavesStanding old new
off old new is = absurd (false≢true is)

stays : (segs : SegsView) → LeavesStanding segs segs
stays segs = record { standing = λ heap. refl; armed = λ who. refl; sound = λ old. old }

next : (first second third : SegsView) → LeavesStanding first second → LeavesStanding second third → LeavesStanding first third
next first second third here there = record {
  standing = λ heap. there.standing heap ∙ here.standing heap;
  armed = λ who. there.armed who ∙ here.armed who;
  sound = λ old. there.sound (here.sound old);
}

moved_by : (allowed : SegsCall → Bool)
    → ((call : SegsCall) (segs : SegsView) → IsTrue (allowed call) → LeavesStanding segs (after call segs))
    → (calls : List SegsCall) (old new : SegsView) → Leads calls old new → All (λ call. IsTrue (allowed call)) calls
    → LeavesStanding old new
moved_by allowed each [] old new leads only = subst (LeavesStanding old) (sym leads) (stays old)
moved_by allowed each (call ∷ calls) old new leads only =
    next old (after call old) new (each call old (All-head (λ call. IsTrue (allowed call)) call calls only))
    (moved_by allowed each calls (after call old) new leads.1 (All-tail (λ call. IsTrue (allowed call)) call calls only))

roster_call_leaves : (call : SegsCall) (segs : SegsView) → IsTrue (is_roster_call call) → LeavesStanding segs (after call segs)
roster_call_leaves (Reserve n) segs is = beside segs segs.roster segs.ranges _
roster_call_leaves (JoinRoster participant acked) segs is = beside segs _ segs.ranges segs.spare
roster_call_leaves (LeaveRoster participant) segs is = beside segs _ segs.ranges segs.spare
roster_call_leaves call segs is = off segs (after call segs) is

range_call_leaves : (call : SegsCall) (segs : SegsView) → IsTrue (is_range_call call) → LeavesStanding segs (after call segs)
range_call_leaves (Reserve n) segs is = beside segs segs.roster segs.ranges _
range_call_leaves (ClaimRange list addr len page socket) segs is = beside segs segs.roster _ segs.spare
range_call_leaves (ReleaseRange list) segs is = beside segs segs.roster _ segs.spare
range_call_leaves call segs is = off segs (after call segs) is

pub roster_calls_leave : RosterCallsLeave
roster_calls_leave steps old new moved = moved_by is_roster_call roster_call_leaves moved.calls old new moved.leads moved.only

pub range_calls_leave : RangeCallsLeave
range_calls_leave steps old new moved = moved_by is_range_call range_call_leaves moved.calls old new moved.leads moved.only

noted : (segs : SegsView) (cause : Cause) (taken : Bool)
    → LeavesStanding segs (if taken then record segs { growth = noting cause segs.growth } else segs)
noted segs cause true = record {
  standing = λ heap. refl;
  armed = λ who. refl;
  sound = λ old. record { growth = noting_by segs.asks segs.armed cause segs.growth old.growth; kept = old.kept };
}
noted segs cause false = stays segs

pub notes_leave : NotesLeave
notes_leave participant call row got segs =
    noted segs (MapFailed participant call row.addr got) (is_noted segs participant call row segs.growth)

-- rows that change hands are no part of the outcomes
rows_alone : (segs : SegsView) (segments : List Segment) (retiring : List Run) (retired : List (ℕ × Run)) (spare : ℕ)
    → LeavesAsks segs (record segs { segments = segments; retiring = retiring; retired = retired; spare = spare })
rows_alone segs segments retiring retired spare = record {
  asks = refl;
  growth = refl;
  armed = refl;
  sound = λ old. record { growth = old.growth; kept = old.kept };
}

asks_off : (old new : SegsView) → false ≡ true → LeavesAsks old new
asks_off old new is = absurd (false≢true is)

asks_stay : (segs : SegsView) → LeavesAsks segs segs
asks_stay segs = record { asks = refl; growth = refl; armed = refl; sound = λ old. old }

asks_next : (first second third : SegsView) → LeavesAsks first second → LeavesAsks second third → LeavesAsks first third
asks_next first second third here there = record {
  asks = there.asks ∙ here.asks;
  growth = there.growth ∙ here.growth;
  armed = there.armed ∙ here.armed;
  sound = λ old. there.sound (here.sound old);
}

claimed_leaves : (segs : SegsView) (grant : Option ℕ) → LeavesAsks segs (claimed_grant segs grant)
claimed_leaves segs None = asks_stay segs
claimed_leaves segs (Some generation) = rows_alone segs _ segs.retiring segs.retired segs.spare

owner_call_leaves : (call : SegsCall) (segs : SegsView) → IsTrue (is_owner_call call) → LeavesAsks segs (after call segs)
owner_call_leaves (Reserve n) segs is = rows_alone segs segs.segments segs.retiring segs.retired _
owner_call_leaves (Claim from number) segs is = claimed_leaves segs (grant_of segs.asks from number)
owner_call_leaves (Retire heap run) segs is = rows_alone segs _ _ _ segs.spare
owner_call_leaves call segs is = asks_off segs (after call segs) is

owned_by_calls : (calls : List SegsCall) (old new : SegsView) → Leads calls old new → All (λ call. IsTrue (is_owner_call call)) calls
    → LeavesAsks old new
owned_by_calls [] old new leads only = subst (LeavesAsks old) (sym leads) (asks_stay old)
owned_by_calls (call ∷ calls) old new leads only =
    asks_next old (after call old) new (owner_call_leaves call old (All-head (λ call. IsTrue (is_owner_call call)) call calls only))
    (owned_by_calls calls (after call old) new leads.1 (All-tail (λ call. IsTrue (is_owner_call call)) call calls only))

pub owner_calls_leave : OwnerCallsLeave
owner_calls_leave steps old new moved = owned_by_calls moved.calls old new moved.leads moved.only
