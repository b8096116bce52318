-- Each growth was asked for: an outcome that is logged while its Add is the last record keeps the ask, once the growth is no longer open.
use Rattle.std.proofs.Common.{◌≡◌, ◌≢◌, ◌∙◌, ℕ, ◌+◌, ◌<◌, ◌≤◌, ◌==◌, Bool, true, false, List, [], ◌∷◌, ◌++◌, length, map, Option, Some, None, Contains, refl, ap, sym, subst, arith, append-nil, length-append}
use Rattle.std.specs.List.{slice_get}
use Rattle.std.proofs.lemmas.Bool.{eqb-false, eqb-true}
use Rattle.std.proofs.lemmas.List.Elements.{Contains-append_left, Contains-push}
use Rattle.std.proofs.lemmas.Option.{slice_get_within}
use Rattle.hp_base.specs.Mapping.{FailingCall}
use Rattle.hp_base.specs.declared.pool_line.PoolLine.{PoolLine}
use Rattle.hp_base.specs.declared.row.Run.{Run}
use Rattle.hp_log.specs.declared.log_record.LogRecord.{LogRecord}
use Rattle.hp_log.specs.declared.log_record.LogRecord.TheVariants.{Add, Drop}
use Rattle.hp_segs.specs.Moved.{Appends}
use Rattle.hp_segs.specs.Refusals.{IsAddOf}
use Rattle.hp_segs.specs.SegsView.{SegsView}
use Rattle.hp_segs.specs.Sound.{IsSound}
use Rattle.hp_segs.specs.SoundAsks.{is_open}
use Rattle.hp_segs.specs.SoundRows.{IsGrowth, IsLogged}
use Rattle.hp_segs.specs.LaterSteps.{noting}
use Rattle.hp_segs.specs.declared.ask.Ask.{Ask}
use Rattle.hp_segs.specs.declared.growth.Growth.{Growth}
use Rattle.hp_segs.specs.declared.outcome.AskLog.{AskLog}
use Rattle.hp_segs.specs.declared.outcome.Cause.{Cause}
use Rattle.hp_segs.specs.declared.outcome.Outcome.TheVariants.{Granted}
use Rattle.hp_segs.proofs.AskFacts.CausedLemmas.{grown_stays}
use Rattle.hp_segs.proofs.GrowthSteps.GrowthCauses.{granted_caused}
use Rattle.hp_segs.proofs.AskFacts.Settled.{added_before, get_before}
use Rattle.hp_proc.specs.Outcomes.{AreAskedFor, IsAskedFor}
use Rattle.hp_serve.specs.Denials.{Denials}
use Rattle.thm_run.proofs.RunFacts.Changes.{Changes, Ends, Logs, alters, drops, ends, failures, goes_on, nothing, opens, outcome_for, outcomes, stays}

-- each growth that is no longer open was asked for
abbrev pub AreEndedAskedFor : SegsView → Type 0
AreEndedAskedFor segs = (place : ℕ) (run : Run) (heap : ℕ) → slice_get segs.log place ≡ Some (Add run heap)
    → is_open segs.growth (place + 1) ≡ false → IsAskedFor segs (place + 1)

added_stays : (pools more_pools : List PoolLine) (log more : List LogRecord) (records : List LogRecord) → more_pools ≡ pools
    → more ≡ log ++ records → (at : ℕ) (ask : Ask) (run : Run) → at ≤ length log → IsAddOf pools log at ask run
    → IsAddOf more_pools more at ask run
added_stays pools more_pools log more records same is at ask run within added =
    subst (λ log. IsAddOf more_pools log at ask run) (sym is)
    (subst (λ pools. IsAddOf pools (log ++ records) at ask run) (sym same) (grown_stays pools log records at ask run within added))

-- an outcome that keeps the ask stays, where records and outcomes come after
asked_stays : (old new : SegsView) → Appends old new → (generation : ℕ) → generation ≤ length old.log → IsAskedFor old generation
    → IsAskedFor new generation
asked_stays old new more generation within asked = record {
  entry = asked.entry;
  ask = asked.ask;
  run = asked.run;
  logged =
      subst (λ asks. Contains asks asked.entry) (sym more.asks) (Contains-append_left old.asks more.outcomes asked.entry asked.logged);
  when = asked.when;
  which = asked.which;
  grown =
      added_stays old.pools new.pools old.log new.log more.records more.pools more.log generation asked.ask asked.run within asked.grown;
}

-- what an open growth of a sound value adds
record IsAddedFor (segs : SegsView) (growth : Growth) : Type 0 where
  pub ask : Ask
  pub run : Run
  pub its : Some growth.ask ≡ Some ask
  pub last : growth.generation ≡ length segs.log
  pub added : IsAddOf segs.pools segs.log (length segs.log) ask run

-- by the cause that a grant of it would have now
growth_added : (segs : SegsView) (growth : Growth) → IsSound segs → segs.growth ≡ Some growth → IsAddedFor segs growth
growth_added segs growth sound is =
    let logged : IsGrowth segs.pools segs.log segs.segments growth =
    subst (IsLogged segs.pools segs.log segs.segments) is sound.rows.logged in
    let caused =
    granted_caused growth logged []
    (outcome_for growth (Granted growth.generation) (Some growth.ask) segs)
    sound.rows.table refl refl (record { kept = refl; who = refl; which = refl }) in
    record { ask = caused.cause.0; run = caused.cause.1; its = caused.cause.2.kept; last = logged.last; added = caused.cause.4 }

-- where no Add comes, and no growth closes, all stays
kept_asked : (old new : SegsView) → Appends old new
    → ((place : ℕ) (run : Run) (heap : ℕ) → slice_get new.log place ≡ Some (Add run heap) → slice_get old.log place ≡ Some (Add run heap))
    → ((generation : ℕ) → is_open new.growth generation ≡ is_open old.growth generation) → AreEndedAskedFor old → AreEndedAskedFor new
kept_asked old new more back same before place run heap here ended =
    let there = back place run heap here in
    asked_stays old new more (place + 1) (omega (arith, slice_get_within old.log place (Add run heap) there))
    (before place run heap there (sym (same (place + 1)) ∙ ended))

-- an Add after the Drops stands before them
back_behind : (old new : List LogRecord) (runs : List Run) → new ≡ old ++ map (λ run. Drop run) runs → (place : ℕ) (run : Run) (heap : ℕ)
    → slice_get new place ≡ Some (Add run heap) → slice_get old place ≡ Some (Add run heap)
back_behind old new runs is place run heap here = added_before old runs place run heap (ap (λ log. slice_get log place) (sym is) ∙ here)

module _ (count deadline : ℕ) (denies : Denials) (old new : SegsView) (before : AreEndedAskedFor old) where
  -- a growth ends: the outcome that is logged is that of its own ask
  ended_by : (pools : new.pools ≡ old.pools) (growth : Growth) (entry : AskLog) → Ends deadline denies old new growth entry
      → (place : ℕ) (run : Run) (heap : ℕ) → slice_get old.log place ≡ Some (Add run heap) → (own : Bool)
      → (growth.generation == place + 1) ≡ own → IsAskedFor new (place + 1)
  ended_by pools growth entry end place run heap there true own =
      let found = growth_added old growth end.sound end.was_open in
      let same : length old.log ≡ place + 1 = sym found.last ∙ eqb-true growth.generation (place + 1) own in
      record {
        entry = entry;
        ask = found.ask;
        run = found.run;
        logged = subst (λ asks. Contains asks entry) (sym end.asks) (Contains-push old.asks entry);
        when = end.at ∙ same;
        which = end.kept ∙ found.its;
        grown =
            subst (λ at. IsAddOf new.pools new.log at found.ask found.run) same
            (added_stays old.pools new.pools old.log new.log (map (λ run. Drop run) end.runs) pools end.log (length old.log)
            found.ask found.run (omega arith) found.added);
      }
  ended_by pools growth entry end place run heap there false own =
      asked_stays old new
      (record { pools = pools; records = map (λ run. Drop run) end.runs; log = end.log; outcomes = entry ∷ []; asks = end.asks })
      (place + 1) (omega (arith, slice_get_within old.log place (Add run heap) there))
      (before place run heap there (ap (λ growth. is_open growth (place + 1)) end.was_open ∙ own))

  -- a growth opens: its Add is the open one, and no other was open before
  opened_by : (pools : new.pools ≡ old.pools) (ask : Ask) (added : Run) (growth : Growth) → old.growth ≡ None
      → new.log ≡ old.log ++ Add added ask.heap ∷ [] → new.asks ≡ old.asks → new.growth ≡ Some growth
      → growth.generation ≡ length old.log + 1 → AreEndedAskedFor new
  opened_by pools ask added growth alone log asks is stamp place run heap here ended =
      let other : (growth.generation == place + 1) ≡ false = sym (ap (λ growth. is_open growth (place + 1)) is) ∙ ended in
      let within = place_before place run heap here other in
      let there = sym (get_before old.log (Add added ask.heap ∷ []) place within) ∙ (ap (λ log. slice_get log place) (sym log) ∙ here) in
      asked_stays old new
      (record { pools = pools; records = Add added ask.heap ∷ []; log = log; outcomes = []; asks = asks ∙ sym (append-nil old.asks) })
      (place + 1) (omega (arith, within))
      (before place run heap there (ap (λ growth. is_open growth (place + 1)) alone))
    where
      place_before : (place : ℕ) (run : Run) (heap : ℕ) → slice_get new.log place ≡ Some (Add run heap)
          → (growth.generation == place + 1) ≡ false → place < length old.log
      place_before place run heap here other =
          let all : length new.log ≡ length old.log + 1 =
          omega (arith, ap length log, length-append old.log (Add added ask.heap ∷ [])) in
          let inside = slice_get_within new.log place (Add run heap) here in
          let apart : growth.generation ≢ place + 1 = eqb-false growth.generation (place + 1) other in
          omega (arith, all, inside, apart, stamp)

  alters_asked : (may_fail : ℕ → Option (List FailingCall)) (pools : new.pools ≡ old.pools) → Logs count deadline may_fail denies old new
      → AreEndedAskedFor new
  alters_asked may_fail pools (nothing log asks growth) =
      kept_asked old new
      (record { pools = pools; records = []; log = log ∙ sym (append-nil old.log); outcomes = []; asks = asks ∙ sym (append-nil old.asks) })
      (λ place run heap here. ap (λ log. slice_get log place) (sym log) ∙ here)
      (λ generation. ap (λ growth. is_open growth generation) growth) before
  alters_asked may_fail pools (failures participant call row got declared reason its log asks growth) =
      kept_asked old new
      (record { pools = pools; records = []; log = log ∙ sym (append-nil old.log); outcomes = []; asks = asks ∙ sym (append-nil old.asks) })
      (λ place run heap here. ap (λ log. slice_get log place) (sym log) ∙ here)
      (λ generation. ap (λ growth. is_open growth generation) growth ∙ noting_open _ old.growth generation) before
    where
      noting_open : (cause : Cause) (growth : Option Growth) (generation : ℕ)
          → is_open (noting cause growth) generation ≡ is_open growth generation
      noting_open cause None generation = refl
      noting_open cause (Some growth) generation = refl
  alters_asked may_fail pools (drops runs log asks growth) =
      kept_asked old new
      (record { pools = pools; records = map (λ run. Drop run) runs; log = log; outcomes = []; asks = asks ∙ sym (append-nil old.asks) })
      (back_behind old.log new.log runs log)
      (λ generation. ap (λ growth. is_open growth generation) growth) before
  alters_asked may_fail pools (outcomes entry log asks growth beside none owed) =
      kept_asked old new
      (record { pools = pools; records = []; log = log ∙ sym (append-nil old.log); outcomes = entry ∷ []; asks = asks })
      (λ place run heap here. ap (λ log. slice_get log place) (sym log) ∙ here)
      (λ generation. ap (λ growth. is_open growth generation) growth) before
  alters_asked may_fail pools (opens ask run growth alone log asks is stamp unnoted its allowed) =
      opened_by pools ask run growth alone log asks is stamp
  alters_asked may_fail pools (ends growth entry end) =
      λ place run heap here ended.
      ended_by pools growth entry end place run heap (back_behind old.log new.log end.runs end.log place run heap here)
      (growth.generation == place + 1) refl

-- so it stays through all changes
pub changes_asked : (count deadline : ℕ) (may_fail : ℕ → Option (List FailingCall)) (denies : Denials) (old new : SegsView)
    → Changes count deadline may_fail denies old new
    → AreEndedAskedFor old → AreEndedAskedFor new
changes_asked count deadline may_fail denies _ _ (stays segs) before = before
changes_asked count deadline may_fail denies _ _ (alters old new one) before =
    alters_asked count deadline denies old new before may_fail one.pools one.logs
changes_asked count deadline may_fail denies _ _ (goes_on old mid new here there) before =
    changes_asked count deadline may_fail denies mid new there (changes_asked count deadline may_fail denies old mid here before)

-- where no growth is open, each was asked for
pub ended_all : (segs : SegsView) → segs.growth ≡ None → AreEndedAskedFor segs → AreAskedFor segs
ended_all segs alone before place run heap here = before place run heap here (ap (λ growth. is_open growth (place + 1)) alone)
