-- One call between the opening of a growth that fails and its end: what it makes of the plain machine and of what is given up.
use Rattle.std.proofs.Common.{◌≡◌, ◌∙◌, ◌⊎◌, ℕ, suc, ◌+◌, ◌-◌, true, false, not, List, [], ◌∷◌, ◌++◌, length, map, get_or, Option, Some, None, inl, inr, refl, ap, sym, subst, arith, append_assoc, eq-eqb, length-append}
use Rattle.std.specs.Prelude.{slice_get}
use Rattle.std.specs.List.{All}
use Rattle.std.proofs.lemmas.Bool.{false_from_ne_true, or_left, or_right}
use Rattle.std.proofs.lemmas.List.{append_cancel_left}
use Rattle.std.proofs.lemmas.List.Folds.{list_any-append}
use Rattle.std.proofs.lemmas.Option.{slice_get_within}
use Rattle.hp_base.specs.declared.row.Run.{Run}
use Rattle.hp_log.specs.declared.log_record.LogRecord.{LogRecord}
use Rattle.hp_log.specs.declared.log_record.LogRecord.TheVariants.{Add, Drop}
use Rattle.hp_segs.specs.LaterSteps.{is_noted, noting}
use Rattle.hp_segs.specs.Machine.{Claims, Machine, free_beside, machine_of, unopened}
use Rattle.hp_segs.specs.Moved.{SegsCall, Reserve, OpenRun, CloseAsk, LogStale, NoteFailed, Agree, Cancel, Claim, Arm, Withdraw, Retire, DropRetiring, LogFreed, JoinRoster, LeaveRoster, ClaimRange, ReleaseRange, Appends, May, after}
use Rattle.hp_segs.specs.SegsView.{SegsView, grant_of, grant_or_refusal_of, is_retiring}
use Rattle.hp_segs.specs.Sound.{IsSound}
use Rattle.hp_segs.specs.SoundAsks.{grants, is_granted, is_open}
use Rattle.hp_segs.specs.SoundRows.{IsGrowth, IsLogged, in_runs}
use Rattle.hp_segs.specs.Steps.{after_grant, agreed_growth, claimed_grant, granted_unless, lowest_member_below}
use Rattle.hp_segs.specs.declared.fault.NotAll.{NotAll}
use Rattle.hp_segs.specs.declared.growth.Growth.{Growth}
use Rattle.hp_segs.specs.declared.outcome.AskLog.{AskLog}
use Rattle.hp_segs.specs.declared.outcome.Cause.TheVariants.{MapFailed, Withdrawn}
use Rattle.hp_segs.specs.declared.outcome.Outcome.TheVariants.{Granted}
use Rattle.hp_segs.specs.declared.row_state.Segment.{Segment}
use Rattle.hp_segs.proofs.Appending.{calls_append}
use Rattle.hp_segs.proofs.LeaveLemmas.{others_leave}
use Rattle.hp_segs.proofs.SlotFacts.ListFacts.{filter_keeps, get_pushed}
use Rattle.hp_segs.proofs.MachineLemmas.{claim_is_step, retire_is_step}
use Rattle.hp_segs.proofs.Moves.{calls_keep}
use Rattle.thm_alike.proofs.GivenUpStays.{retiring_agreed, retiring_cancelled, retiring_claimed, retiring_noted, retiring_withdrawn}
use Rattle.thm_alike.specs.Restored.{ClaimsGrant, GivesUp, claim_steps, machine_by, owner_steps_of, retiring_by}

-- a machine is its free pages and its rows
same_machine : (a b : Machine) → a.free ≡ b.free → a.rows ≡ b.rows → a ≡ b
same_machine a b free rows =
    ap (λ (free : List ℕ). record { free = free; rows = a.rows }) free
    ∙ ap (λ (rows : List Segment). record { free = b.free; rows = rows }) rows

-- a grant that is logged stays
granted_later : (old new : SegsView) (generation : ℕ) → Appends old new → is_granted old.asks generation ≡ true
    → is_granted new.asks generation ≡ true
granted_later old new generation more granted =
    ap (λ (asks : List AskLog). is_granted asks generation) more.asks
    ∙ (list_any-append (grants generation) old.asks more.outcomes
    ∙ or_left (is_granted old.asks generation) (is_granted more.outcomes generation) granted)

-- and a growth that is granted is logged so
grant_logged : (growth : Growth) (segs : SegsView) (generation : ℕ) → growth.generation ≡ generation
    → is_granted (after_grant growth segs).asks generation ≡ true
grant_logged growth segs generation is =
    let entry : AskLog = record {
      from = growth.ask.from;
      number = growth.ask.number;
      outcome = Granted growth.generation;
      at = length segs.log;
      ask = Some growth.ask;
    } in
    let its : grants generation entry ≡ true = eq-eqb growth.generation generation is in
    list_any-append (grants generation) segs.asks (entry ∷ [])
    ∙ or_right (is_granted segs.asks generation) (is_granted (entry ∷ []) generation) (or_left (grants generation entry) false its)

-- an open growth is one of the log
open_is : (segs : SegsView) (growth : Growth) → IsSound segs → segs.growth ≡ Some growth → IsGrowth segs.pools segs.log segs.segments growth
open_is segs growth sound is = subst (IsLogged segs.pools segs.log segs.segments) is sound.rows.logged

nothing_mapped : (runs : List Run) (more : List LogRecord) → map (λ run. Drop run) runs ++ more ≡ [] → runs ≡ []
nothing_mapped [] more none = refl
nothing_mapped (run ∷ runs) more none = cc

-- the second of two elements after others
get_behind : {X : Type 0} (xs : List X) (first second : X) → slice_get (xs ++ first ∷ second ∷ []) (length xs + 1) ≡ Some second
get_behind [] first second = refl
get_behind (x ∷ xs) first second =
    let same : length (x ∷ xs) + 1 ≡ suc (length xs + 1) = omega arith in
    ap (slice_get (x ∷ (xs ++ first ∷ second ∷ []))) same ∙ get_behind xs first second

-- a log, after it the Add of a growth that fails and its Drop alone, and no grant of that growth
module _ (base : List LogRecord) (run : Run) (heap : ℕ) (new : SegsView) (is_log : new.log ≡ base ++ Add run heap ∷ Drop run ∷ [])
    (ungranted : is_granted new.asks (length base + 1) ≡ false) where
  -- a value on the way there: the Add is logged
  pub record IsOnWay (at : SegsView) : Type 0 where
    pub sound : IsSound at
    pub early : List LogRecord
    pub begun : at.log ≡ base ++ Add run heap ∷ early

  -- either the Add is the last record, or the Drop is, and no record follows
  last_records : (early later : List LogRecord) → early ++ later ≡ Drop run ∷ [] → (early ≡ []) ⊎ ((early ≡ Drop run ∷ []) × (later ≡ []))
  last_records [] later is = inl refl
  last_records (first ∷ []) later is = inr (cc, cc)
  last_records (first ∷ (second ∷ early)) later is = cc

  module _ (at : SegsView) (way : IsOnWay at) where
    -- what is logged from the Add on
    records_left : (later : List LogRecord) → new.log ≡ at.log ++ later → way.early ++ later ≡ Drop run ∷ []
    records_left later whole =
        let both : base ++ (Add run heap ∷ way.early ++ later) ≡ base ++ Add run heap ∷ Drop run ∷ [] =
        sym (append_assoc base (Add run heap ∷ way.early) later)
        ∙ (ap (λ (log : List LogRecord). log ++ later) (sym way.begun) ∙ (sym whole ∙ is_log)) in
        let tails = append_cancel_left base (Add run heap ∷ way.early ++ later) (Add run heap ∷ Drop run ∷ []) both in
        cc

    log_by : (early : List LogRecord) → way.early ≡ early → at.log ≡ base ++ Add run heap ∷ early
    log_by early is = way.begun ∙ ap (λ (early : List LogRecord). base ++ Add run heap ∷ early) is

    -- an open growth is that of the Add
    growth_is : (growth : Growth) (later : List LogRecord) → new.log ≡ at.log ++ later → at.growth ≡ Some growth
        → growth.generation ≡ length base + 1
    growth_is growth later whole is =
        let its = open_is at growth way.sound is in
        elim (last_records way.early later (records_left later whole)) [
          | inl none ↦
              let log : at.log ≡ base ++ Add run heap ∷ [] = log_by [] none in
              let long : length at.log ≡ length base + 1 = ap length log ∙ length-append base (Add run heap ∷ []) in
              its.last ∙ long
          | inr ended ↦
              let log : at.log ≡ base ++ Add run heap ∷ Drop run ∷ [] = log_by (Drop run ∷ []) ended.0 in
              let long : length at.log ≡ length base + 2 = ap length log ∙ length-append base (Add run heap ∷ Drop run ∷ []) in
              let place : growth.generation - 1 ≡ length base + 1 = omega (arith, its.last, long) in
              let wrong : Some (Add growth.run growth.ask.heap) ≡ Some (Drop run) =
              sym its.added
              ∙ (ap (slice_get at.log) place ∙ (ap (λ (log : List LogRecord). slice_get log (length base + 1)) log
              ∙ get_behind base (Add run heap) (Drop run))) in
              absurd (no_add wrong)
        ]
      where
        no_add : Some (Add growth.run growth.ask.heap) ≡ Some (Drop run) → ⊥
        no_add wrong = cc

    -- and is not granted
    not_granted : (growth : Growth) (later : List LogRecord) → new.log ≡ at.log ++ later → at.growth ≡ Some growth
        → Appends (after_grant growth at) new → ⊥
    not_granted growth later whole is more =
        let here : is_granted (after_grant growth at).asks (length base + 1) ≡ true =
        grant_logged growth at (length base + 1) (growth_is growth later whole is) in
        let wrong : true ≡ false = sym (granted_later (after_grant growth at) new (length base + 1) more here) ∙ ungranted in
        cc

    -- where no growth is open the Drop is logged
    has_dropped : (later : List LogRecord) → new.log ≡ at.log ++ later → Appends at new → at.growth ≡ None → later ≡ []
    has_dropped later whole more alone =
        elim (last_records way.early later (records_left later whole)) [
          | inl none ↦
              let log : at.log ≡ base ++ Add run heap ∷ [] = log_by [] none in
              let long : length at.log ≡ length base + 1 = ap length log ∙ length-append base (Add run heap ∷ []) in
              let added : slice_get at.log (length base) ≡ Some (Add run heap) =
              ap (λ (log : List LogRecord). slice_get log (length base)) log ∙ get_pushed base (Add run heap) in
              let not_yet : is_granted at.asks (length base + 1) ≡ false =
              false_from_ne_true (is_granted at.asks (length base + 1)) (λ granted.
              let wrong : true ≡ false = sym (granted_later at new (length base + 1) more granted) ∙ ungranted in
              cc) in
              let closed : is_open at.growth (length base + 1) ≡ false =
              ap (λ (growth : Option Growth). is_open growth (length base + 1)) alone in
              let dropped = way.sound.asks.settled (length base) run heap added closed not_yet in
              absurd (omega (arith, long, slice_get_within at.log (length base + 1) (Drop run) dropped))
          | inr ended ↦ ended.1
        ]

    -- so where all that is given up is dropped, there is nothing given up
    none_retiring : Appends at new → Appends (after DropRetiring at) new → at.growth ≡ None → at.retiring ≡ []
    none_retiring here there alone =
        let dropped : List LogRecord = map (λ run. Drop run) at.retiring in
        nothing_mapped at.retiring there.records
        (has_dropped (dropped ++ there.records) (there.log ∙ append_assoc at.log dropped there.records) here alone)

    -- a growth is not granted: where a call would grant it, some member has not acknowledged it
    agreed_machine : (growth : Growth) (member : Option NotAll) → at.growth ≡ Some growth → Appends at new
        → Appends (granted_unless growth at member) new → machine_of (granted_unless growth at member) ≡ machine_of at
    agreed_machine growth (Some member) is here there = refl
    agreed_machine growth None is here there = absurd (not_granted growth here.records here.log is there)

    agree_machine : (acks : List ℕ) (growth : Option Growth) → at.growth ≡ growth → Appends at new
        → Appends (agreed_growth acks at growth) new → machine_of (agreed_growth acks at growth) ≡ machine_of at
    agree_machine acks None is here there = refl
    agree_machine acks (Some growth) is here there =
        agreed_machine growth (lowest_member_below at.roster acks growth.generation) is here there

    claim_machine : (from number : ℕ) (grant : Option ℕ) → grant_of at.asks from number ≡ grant
        → machine_of (after (Claim from number) at) ≡ machine_by (claim_steps grant) (machine_of at)
    claim_machine from number None is = ap (λ (grant : Option ℕ). machine_of (claimed_grant at grant)) is
    claim_machine from number (Some generation) is =
        let step : Claims generation (machine_of at) (machine_of (after (Claim from number) at)) =
        claim_is_step at from number generation is in
        same_machine (machine_of (after (Claim from number) at)) (machine_by (ClaimsGrant generation ∷ []) (machine_of at)) step.free
        step.rows

    retire_machine : (owner : ℕ) (given : Run) → May (Retire owner given) at
        → machine_of (after (Retire owner given) at) ≡ machine_by (GivesUp given ∷ []) (machine_of at)
    retire_machine owner given may =
        let step = retire_is_step at owner given way.sound may in
        same_machine (machine_of (after (Retire owner given) at)) (machine_by (GivesUp given ∷ []) (machine_of at)) step.free step.rows

    drop_machine : at.retiring ≡ [] → machine_of (after DropRetiring at) ≡ machine_of at
    drop_machine none =
        let stays : All (λ segment. not (is_retiring segment.state) ≡ true) at.segments =
        λ place segment within.
        ap not (way.sound.rows.retired place segment within
        ∙ ap (λ (runs : List Run). in_runs runs (get_or at.segments place segment).row) none) in
        ap (λ (segments : List Segment). record { free = free_beside at.pools (unopened segments); rows = unopened segments })
        (filter_keeps (λ segment. not (is_retiring segment.state)) at.segments stays)

    -- what a call makes of the plain machine is its step
    pub step_machine : (call : SegsCall) → May call at → Appends at new → Appends (after call at) new
        → machine_of (after call at) ≡ machine_by (owner_steps_of call at) (machine_of at)
    step_machine (Reserve n) may here there = others_leave (Reserve n) at way.sound refl
    step_machine (OpenRun ask other) may here there = others_leave (OpenRun ask other) at way.sound refl
    step_machine (CloseAsk ask cause) may here there = others_leave (CloseAsk ask cause) at way.sound refl
    step_machine (LogStale from number) may here there = others_leave (LogStale from number) at way.sound refl
    step_machine (NoteFailed who place row got) may here there = others_leave (NoteFailed who place row got) at way.sound refl
    step_machine (Agree acks) may here there = agree_machine acks at.growth refl here there
    step_machine (Cancel cause) may here there = others_leave (Cancel cause) at way.sound refl
    step_machine (Claim from number) may here there = claim_machine from number (grant_of at.asks from number) refl
    step_machine (Arm ask) may here there = others_leave (Arm ask) at way.sound refl
    step_machine (Withdraw from number since now) may here there = others_leave (Withdraw from number since now) at way.sound refl
    step_machine (Retire owner given) may here there = retire_machine owner given may
    step_machine DropRetiring may here there = drop_machine (none_retiring here there may.alone)
    step_machine (LogFreed from number) may here there = others_leave (LogFreed from number) at way.sound refl
    step_machine (JoinRoster who acked) may here there = others_leave (JoinRoster who acked) at way.sound refl
    step_machine (LeaveRoster who) may here there = others_leave (LeaveRoster who) at way.sound refl
    step_machine (ClaimRange list addr len page socket) may here there =
        others_leave (ClaimRange list addr len page socket) at way.sound refl
    step_machine (ReleaseRange list) may here there = others_leave (ReleaseRange list) at way.sound refl

    -- and what it makes of the runs that are given up
    pub step_retiring : (call : SegsCall) → May call at → Appends at new → Appends (after call at) new
        → (after call at).retiring ≡ retiring_by (owner_steps_of call at) at.retiring
    step_retiring (Reserve n) may here there = refl
    step_retiring (OpenRun ask other) may here there = refl
    step_retiring (CloseAsk ask cause) may here there = refl
    step_retiring (LogStale from number) may here there = refl
    step_retiring (NoteFailed who place row got) may here there =
        retiring_noted at (noting (MapFailed who place row.addr got) at.growth) (is_noted at who place row at.growth)
    step_retiring (Agree acks) may here there = retiring_agreed acks at at.growth
    step_retiring (Cancel cause) may here there = retiring_cancelled cause at at.growth
    step_retiring (Claim from number) may here there = retiring_claimed at (grant_of at.asks from number)
    step_retiring (Arm ask) may here there = refl
    step_retiring (Withdraw from number since now) may here there =
        retiring_withdrawn from number (Withdrawn since now) at (grant_or_refusal_of at.asks from number)
    step_retiring (Retire owner given) may here there = refl
    step_retiring DropRetiring may here there = sym (none_retiring here there may.alone)
    step_retiring (LogFreed from number) may here there = refl
    step_retiring (JoinRoster who acked) may here there = refl
    step_retiring (LeaveRoster who) may here there = refl
    step_retiring (ClaimRange list addr len page socket) may here there = refl
    step_retiring (ReleaseRange list) may here there = refl

    -- the next value is on the way too
    pub next_on_way : (call : SegsCall) → May call at → IsOnWay (after call at)
    next_on_way call may =
        let more = calls_append call at in
        record {
          sound = calls_keep call at way.sound may;
          early = way.early ++ more.records;
          begun =
              more.log
              ∙ (ap (λ (log : List LogRecord). log ++ more.records) way.begun
              ∙ append_assoc base (Add run heap ∷ way.early) more.records);
        }
