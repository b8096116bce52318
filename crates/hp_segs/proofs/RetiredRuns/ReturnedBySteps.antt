-- What has gone back or is Retiring: the calls of the segment value leave it as it is, but the one that gives up a run.
use Rattle.std.proofs.Common.{◌≡◌, ◌∙◌, ℕ, ◌+◌, ◌-◌, ◌<◌, true, false, [], ◌∷◌, ◌++◌, length, map, Option, Some, None, refl, ap, sym, subst, arith, append-nil}
use Rattle.std.proofs.lemmas.Bool.{ne_eqb}
use Rattle.std.proofs.lemmas.Option.{slice_get_within}
use Rattle.hp_base.specs.declared.row.Run.{Run}
use Rattle.hp_log.specs.declared.log_record.LogRecord.TheVariants.{Add, Drop}
use Rattle.hp_segs.specs.LaterSteps.{after_stale}
use Rattle.hp_segs.specs.SegsView.{SegsView, closed_number}
use Rattle.hp_segs.specs.Sound.{IsSound}
use Rattle.hp_segs.specs.SoundAsks.{AreSettled, IsUngranted, grants, is_granted}
use Rattle.hp_segs.specs.SoundRows.{IsGrowth, IsLogged}
use Rattle.hp_segs.specs.Steps.{after_close, after_drop, after_failure, after_freed, after_grant, after_open, with_outcome}
use Rattle.hp_segs.specs.declared.ask.Ask.{Ask}
use Rattle.hp_segs.specs.declared.growth.Growth.{Growth}
use Rattle.hp_segs.specs.declared.outcome.AskLog.{AskLog}
use Rattle.hp_segs.specs.declared.outcome.Cause.{Cause}
use Rattle.hp_segs.specs.declared.outcome.Outcome.{Outcome}
use Rattle.hp_segs.specs.declared.outcome.Outcome.TheVariants.{Freed, Granted, Refused, Stale}
use Rattle.hp_segs.specs.Returned.{gone_in, returned_runs}
use Rattle.hp_segs.proofs.RetiredRuns.ReturnedRuns.{failed_after, granted_alike, last_failed, none_failed, returned_alike, returned_append, returned_drops}

-- it is the same in two values
abbrev pub IsGoneAlike : SegsView → SegsView → Type 0
IsGoneAlike old new = gone_in new ≡ gone_in old

-- outcomes come that grant none of the records before the last one
gone_kept : (old new : SegsView) → new.log ≡ old.log → new.retiring ≡ old.retiring
    → ((generation : ℕ) → generation < length old.log → is_granted new.asks generation ≡ is_granted old.asks generation)
    → IsGoneAlike old new
gone_kept old new log retiring alike =
    ap (λ log. returned_runs new.asks false 1 log ++ new.retiring) log
    ∙ (ap (λ retiring. returned_runs new.asks false 1 old.log ++ retiring) retiring
    ∙ ap (λ runs. runs ++ old.retiring)
    (returned_alike old.asks new.asks old.log false 1 (λ generation below. alike generation (omega (arith, below)))))

-- one outcome comes that grants none of them
gone_beside : (old new : SegsView) (entry : AskLog) → new.log ≡ old.log → new.retiring ≡ old.retiring → new.asks ≡ old.asks ++ entry ∷ []
    → ((generation : ℕ) → generation < length old.log → grants generation entry ≡ false) → IsGoneAlike old new
gone_beside old new entry log retiring asks none =
    gone_kept old new log retiring
    (λ generation below. ap (λ asks. is_granted asks generation) asks ∙ granted_alike old.asks entry generation (none generation below))

-- the outcome of a growth
abbrev outcome_for : Growth → Outcome → Option Ask → SegsView → AskLog
outcome_for growth outcome kept segs = record {
  from = growth.ask.from;
  number = growth.ask.number;
  outcome = outcome;
  at = length segs.log;
  ask = kept;
}

growth_is_last : (segs : SegsView) (growth : Growth) → IsSound segs → segs.growth ≡ Some growth → growth.generation ≡ length segs.log
growth_is_last segs growth sound is =
    let logged : IsGrowth segs.pools segs.log segs.segments growth = subst (IsLogged segs.pools segs.log segs.segments) is sound.rows.logged in
    logged.last

module _ (segs : SegsView) where
  pub stale_gone : (from number : ℕ) → IsGoneAlike segs (after_stale from number segs)
  stale_gone from number =
      gone_beside segs (after_stale from number segs)
      (record { from = from; number = number; outcome = Stale (closed_number segs.asks from); at = length segs.log; ask = None })
      refl refl refl
      (λ generation below. refl)

  pub close_gone : (ask : Ask) (cause : Cause) → IsGoneAlike segs (after_close ask cause segs)
  close_gone ask cause =
      gone_beside segs (after_close ask cause segs)
      (record { from = ask.from; number = ask.number; outcome = Refused cause; at = length segs.log; ask = Some ask })
      refl refl refl
      (λ generation below. refl)

  -- an ask without an open growth is taken back
  pub refused_gone : (from number : ℕ) (cause : Cause) (ask : Option Ask)
      → IsGoneAlike segs (record segs { asks = with_outcome segs from number (Refused cause) ask })
  refused_gone from number cause ask =
      gone_beside segs (record segs { asks = with_outcome segs from number (Refused cause) ask })
      (record { from = from; number = number; outcome = Refused cause; at = length segs.log; ask = ask })
      refl refl refl
      (λ generation below. refl)

  pub freed_gone : (from number : ℕ) → IsGoneAlike segs (after_freed from number segs)
  freed_gone from number =
      gone_beside segs (after_freed from number segs)
      (record { from = from; number = number; outcome = Freed (length segs.log); at = length segs.log; ask = None })
      refl refl refl
      (λ generation below. refl)

  -- an Add gives nothing back
  pub open_gone : (ask : Ask) (run : Run) → IsGoneAlike segs (after_open ask run segs)
  open_gone ask run =
      ap (λ runs. runs ++ segs.retiring)
      (returned_append segs.asks segs.log (Add run ask.heap ∷ []) false 1 (1 + length segs.log) refl
      ∙ append-nil (returned_runs segs.asks false 1 segs.log))

  -- what is Retiring goes back, where the last record is no failed Add
  drop_by : failed_after segs.asks false 1 segs.log ≡ false → IsGoneAlike segs (after_drop segs)
  drop_by sound =
      append-nil (returned_runs segs.asks false 1 (segs.log ++ map (λ run. Drop run) segs.retiring))
      ∙ (returned_append segs.asks segs.log (map (λ run. Drop run) segs.retiring) false 1 (1 + length segs.log) refl
      ∙ ap (λ runs. returned_runs segs.asks false 1 segs.log ++ runs)
      (ap (λ failed. returned_runs segs.asks failed (1 + length segs.log) (map (λ run. Drop run) segs.retiring)) sound
      ∙ returned_drops segs.asks segs.retiring (1 + length segs.log)))

  -- while no growth is open a record stands after each Add that is not granted
  settled_none : IsSound segs → segs.growth ≡ None → failed_after segs.asks false 1 segs.log ≡ false
  settled_none sound alone =
      let settled : AreSettled segs.log segs.asks None = subst (AreSettled segs.log segs.asks) alone sound.asks.settled in
      none_failed segs.asks segs.log 1
      (λ place number run heap at here off.
      let same : number ≡ place + 1 = omega (arith, at) in
      slice_get_within segs.log (place + 1) _
      (settled place run heap here refl (ap (is_granted segs.asks) (sym same) ∙ off)))

  pub drop_gone : IsSound segs → segs.growth ≡ None → IsGoneAlike segs (after_drop segs)
  drop_gone sound alone = drop_by (settled_none sound alone)

  -- a growth that fails gives nothing back that was given up
  module _ (sound : IsSound segs) (growth : Growth) (open_now : segs.growth ≡ Some growth) where
    open_failed : failed_after segs.asks false 1 segs.log ≡ true
    open_failed =
        let logged : IsGrowth segs.pools segs.log segs.segments growth =
        subst (IsLogged segs.pools segs.log segs.segments) open_now sound.rows.logged in
        let off : IsUngranted segs.asks (Some growth) = subst (IsUngranted segs.asks) open_now sound.asks.ungranted in
        last_failed segs.asks segs.log false 1 (growth.generation - 1) growth.generation growth.run growth.ask.heap logged.added
        (omega (arith, logged.some, logged.last)) (omega (arith, logged.some)) off

    pub failure_gone : (cause : Cause) (ask : Option Ask) (places : ℕ) → IsGoneAlike segs (after_failure growth cause ask places segs)
    failure_gone cause ask places =
        let entry = outcome_for growth (Refused cause) ask segs in
        let before = returned_runs segs.asks false 1 segs.log in
        ap (λ runs. runs ++ segs.retiring)
        (returned_alike segs.asks (segs.asks ++ entry ∷ []) (segs.log ++ Drop growth.run ∷ []) false 1
        (λ generation below. granted_alike segs.asks entry generation refl)
        ∙ (returned_append segs.asks segs.log (Drop growth.run ∷ []) false 1 (1 + length segs.log) refl
        ∙ (ap (λ failed. before ++ returned_runs segs.asks failed (1 + length segs.log) (Drop growth.run ∷ [])) open_failed
        ∙ append-nil before)))

    pub grant_gone : IsGoneAlike segs (after_grant growth segs)
    grant_gone =
        gone_beside segs (after_grant growth segs)
        (outcome_for growth (Granted growth.generation) (Some growth.ask) segs)
        refl refl refl
        (λ generation below.
        ne_eqb growth.generation generation (λ same. omega (arith, same, below, growth_is_last segs growth sound open_now)))
