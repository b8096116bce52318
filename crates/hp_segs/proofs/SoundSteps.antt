-- Each call under its condition keeps a value sound.
use Rattle.std.proofs.Common.{◌≡◌, ◌==◌, ◌∙◌, ℕ, zero, suc, ◌+◌, ◌-◌, ◌*◌, Bool, true, false, not, ◌&&◌, ◌||◌, List, [], ◌∷◌, ◌++◌, map, length, Option, Some, None, Ok, IsTrue, IsSomeAnd, is_some, refl, ap, sym, subst, arith, length-append, if◌then◌else◌, eq-eqb}
use Rattle.std.specs.List.{All, find, list_any, slice_get, slice_index_or}
use Rattle.std.specs.Option.{option_map}
use Rattle.std.proofs.lemmas.Bool.{and_from, and_parts, eqb-true, false_from_ne_true, not-true, or_from}
use Rattle.std.proofs.lemmas.List.Folds.{list_any-append}
use Rattle.hp_base.specs.declared.map_answer.MapAnswer.{MapAnswer}
use Rattle.hp_base.specs.declared.map_answer.MapAnswer.TheVariants as answer
use Rattle.hp_base.specs.declared.row.Row.{Row}
use Rattle.hp_base.specs.declared.row.Run.{Run}
use Rattle.hp_log.specs.Log.{table_of}
use Rattle.hp_log.specs.Rows.{in_run, row_of}
use Rattle.hp_log.specs.declared.log_record.LogRecord.TheVariants.{Drop}
use Rattle.hp_log.proofs.RowLemmas.{place_in_run}
use Rattle.hp_segs.specs.Calls.{IsFailureCause, MayCancel, MayClose, MayDrop, MayJoin, MayLeave, MayLogStale, MayNote, MayOpen, MayWithdraw, OwnsRun}
use Rattle.hp_segs.specs.Causes.{IsCaused}
use Rattle.hp_segs.specs.LaterSteps.{after_arm, after_join, after_leave, after_note, after_stale, after_withdraw, armed_ask, grows_for, has_failed_from, is_failure, is_growth_row, is_noted, noting, withdrawn_growth, withdrawn_unless}
use Rattle.hp_segs.specs.Ranges.{after_claim_range, after_release_range, range_plan}
use Rattle.hp_segs.specs.Refusals.{IsFailedRow, IsNoted}
use Rattle.hp_segs.specs.SegsView.{SegsView, grant_of, grant_or_refusal_of, grants_or_refuses, is_unanswered}
use Rattle.hp_segs.specs.Sound.{IsSound}
use Rattle.hp_segs.specs.SoundAsks.{AreAsks, HasUnansweredAsk}
use Rattle.hp_segs.specs.SoundRows.{AreRows, IsOfOneHeap}
use Rattle.hp_segs.specs.Steps.{after_agree, after_cancel, after_claim, after_close, after_drop, after_failure, after_freed, after_grant, after_open, after_reserve, after_retire, agreed_growth, cancelled_growth, claimed_grant, granted_unless, lowest_member_below}
use Rattle.hp_segs.specs.declared.ask.Ask.{Ask}
use Rattle.hp_segs.specs.declared.external_range.ExternalRange.{ExternalRange}
use Rattle.hp_segs.specs.declared.fault.NotAll.{NotAll}
use Rattle.hp_segs.specs.declared.growth.Growth.{Growth}
use Rattle.hp_segs.specs.declared.outcome.AskLog.{AskLog}
use Rattle.hp_segs.specs.declared.outcome.Cause.{Cause}
use Rattle.hp_segs.specs.declared.outcome.Cause.TheVariants.{MapFailed, Withdrawn}
use Rattle.hp_segs.specs.declared.outcome.Outcome.{Outcome}
use Rattle.hp_segs.specs.declared.outcome.Outcome.TheVariants.{Refused}
use Rattle.hp_segs.proofs.AskFacts.AsksSteps.{asks_dropped, asks_failed, asks_granted, asks_logged, asks_noted, asks_opened}
use Rattle.hp_segs.proofs.AskFacts.CausedLemmas.{noted_stays}
use Rattle.hp_segs.proofs.AskFacts.CloseLemmas.{closed_caused}
use Rattle.hp_segs.proofs.Finds.{any_found}
use Rattle.hp_segs.proofs.GrowthSteps.GrowthCauses.{failed_caused, granted_caused}
use Rattle.hp_segs.proofs.AskFacts.OnceLemmas.{above_unanswered, once_beside, once_more, unanswered_beside}
use Rattle.hp_segs.proofs.SlotFacts.PlacesSteps.{places_armed, places_beside, places_joined, places_left}
use Rattle.hp_segs.proofs.SlotFacts.PlannedLemmas.{open_plan}
use Rattle.hp_segs.proofs.SlotFacts.RangeLemmas.{planned_range, ranges_fewer, ranges_more}
use Rattle.hp_segs.proofs.RetiredRuns.RetireLemmas.{rows_retired}
use Rattle.hp_segs.proofs.RetiredRuns.RetiredSteps.{returned_alike_by, returned_retired}
use Rattle.hp_segs.proofs.RetiredRuns.ReturnedBySteps.{close_gone, drop_gone, failure_gone, freed_gone, grant_gone, open_gone, refused_gone, stale_gone}
use Rattle.hp_segs.proofs.RowTables.RowsOpen.{rows_opened}
use Rattle.hp_segs.proofs.RowTables.RowsSteps.{rows_claimed, rows_dropped, rows_failed, rows_granted, rows_noted}
use Rattle.hp_segs.proofs.RowTables.TableSteps.{table_dropped, table_failed, table_opened}

-- an ask that a participant is armed with, and that is its own
pub record IsArmed (segs : SegsView) (from number : ℕ) : Type 0 where
  pub ask : Ask
  pub is : armed_ask segs from ≡ Some ask
  pub here : slice_get segs.armed from ≡ Some (Some ask)
  pub who : ask.from ≡ from
  pub which : ask.number ≡ number

index_get : (xs : List (Option Ask)) (i : ℕ) (ask : Ask) → slice_index_or xs i None ≡ Some ask → slice_get xs i ≡ Some (Some ask)
index_get [] i ask is = cc
index_get (x ∷ xs) zero ask is = ap Some is
index_get (x ∷ xs) (suc i) ask is = index_get xs i ask is

armed_by : (segs : SegsView) (from number : ℕ) (armed : Option Ask) → IsSound segs → armed_ask segs from ≡ armed
    → IsSomeAnd armed (λ ask. ask.number ≡ number) → IsArmed segs from number
armed_by segs from number None sound is which = absurd which
armed_by segs from number (Some ask) sound is which =
    let here = index_get segs.armed from ask is in
    record { ask = ask; is = is; here = here; who = sound.places.own from ask here; which = which }

-- the ask that is taken back
pub armed_with : (segs : SegsView) (from number : ℕ) → IsSound segs → MayWithdraw from number segs → IsArmed segs from number
armed_with segs from number sound may = armed_by segs from number (armed_ask segs from) sound refl may.armed

nothing_found : (entry : Option AskLog) → option_map (λ entry. entry.outcome) entry ≡ None → entry ≡ None
nothing_found None none = refl
nothing_found (Some entry) none = cc

-- it has neither a grant nor a refusal
pub armed_unanswered : (segs : SegsView) (from number : ℕ) (armed : IsArmed segs from number) → grant_or_refusal_of segs.asks from number ≡ None
    → IsTrue (is_unanswered segs.asks (Some armed.ask))
armed_unanswered segs from number armed none =
    ap not
    (any_found (grants_or_refuses armed.ask.from armed.ask.number) segs.asks
    (nothing_found (find (grants_or_refuses armed.ask.from armed.ask.number) segs.asks)
    (ap (λ f. grant_or_refusal_of segs.asks f armed.ask.number) armed.who
    ∙ (ap (grant_or_refusal_of segs.asks from) armed.which ∙ none))))

fails_alike : (row other : Row) (got : MapAnswer) → row.addr ≡ other.addr → row.page ≡ other.page → row.socket ≡ other.socket
    → is_failure row got ≡ is_failure other got
fails_alike row other answer.Refused addr page socket = refl
fails_alike row other (answer.At a p s) addr page socket =
    ap (λ x. not ((a == x) && ((p == row.page) && (s == row.socket)))) addr
    ∙ (ap (λ x. not ((a == other.addr) && ((p == x) && (s == row.socket)))) page
    ∙ ap (λ x. not ((a == other.addr) && ((p == other.page) && (s == x)))) socket)

-- a row of a growth at which a mapping failed
failed_row : (growth : Growth) (row : Row) (got : MapAnswer) → is_growth_row growth row ≡ true → IsTrue (is_failure row got)
    → IsFailedRow growth.run growth.generation row.addr got
failed_row growth row got own failure =
    let run : Run = growth.run in
    let parts = and_parts (row.generation == growth.generation) _ own in
    let inside = and_parts (in_run run row) _ parts.1 in
    let addr = and_parts (row.addr == run.addr + (row.slot - run.first) * run.page) _ inside.1 in
    let page = and_parts (row.page == run.page) (row.socket == run.socket) addr.1 in
    let at = place_in_run run row inside.0 in
    let its_addr : row.addr ≡ run.addr + (row.slot - run.first) * run.page = eqb-true row.addr _ addr.0 in
    record {
      place = row.slot - run.first;
      within = omega (arith, at.its_slot, at.within);
      its_addr = its_addr;
      failure =
          sym
          (fails_alike row (row_of run growth.generation (row.slot - run.first)) got its_addr (eqb-true row.page run.page page.0)
          (eqb-true row.socket run.socket page.1))
          ∙ failure;
    }

module _ (segs : SegsView) (sound : IsSound segs) where
  rows_of_growth : (growth : Option Growth) → segs.growth ≡ growth → AreRows segs.pools segs.log segs.segments segs.retiring growth
  rows_of_growth growth is = subst (AreRows segs.pools segs.log segs.segments segs.retiring) is sound.rows

  asks_of_growth : (growth : Option Growth) → segs.growth ≡ growth → AreAsks segs.pools segs.log segs.asks growth
  asks_of_growth growth is = subst (AreAsks segs.pools segs.log segs.asks) is sound.asks

  pub sound_reserved : (n : ℕ) → IsSound (after_reserve n segs)
  sound_reserved n = record { rows = sound.rows; asks = sound.asks; places = sound.places; returned = sound.returned }

  pub sound_opened : (ask : Ask) (run : Run) → MayOpen ask run segs → IsSound (after_open ask run segs)
  sound_opened ask run may =
      let plan = open_plan segs ask run sound.rows.table.limits may.planned in
      let growth : Growth = record { generation = length segs.log + 1; ask = ask; run = run; noted = None } in
      record {
        rows =
            rows_opened growth (rows_of_growth None plan.alone) refl may.participant plan.planned.listed plan.planned.unused plan.planned.first
            plan.planned.pages plan.planned.place
            (table_opened segs.pools segs.log segs.segments run ask.heap plan.planned.listed plan.planned.unused plan.planned.pages sound.rows.table);
        asks = asks_opened growth (asks_of_growth None plan.alone) refl refl (above_unanswered segs.asks ask plan.above);
        places = sound.places;
        returned = returned_alike_by segs (after_open ask run segs) refl (open_gone segs ask run) sound.returned;
      }

  pub sound_closed : (ask : Ask) (cause : Cause) → MayClose ask cause segs → IsSound (after_close ask cause segs)
  sound_closed ask cause may =
      let entry : AskLog = record { from = ask.from; number = ask.number; outcome = Refused cause; at = length segs.log; ask = Some ask } in
      record {
        rows = sound.rows;
        asks =
            asks_logged entry sound.asks (λ generation. refl) tt
            (closed_caused segs ask cause segs.asks entry sound may.alone may.caused refl refl (record { kept = refl; who = refl; which = refl }))
            (omega arith)
            (subst (IsNoted (segs.asks ++ entry ∷ [])) (sym may.alone) tt)
            (once_more segs.asks entry ask refl refl (above_unanswered segs.asks ask may.above) sound.asks.once)
            (subst (HasUnansweredAsk (segs.asks ++ entry ∷ [])) (sym may.alone) tt);
        places = sound.places;
        returned = returned_alike_by segs (after_close ask cause segs) refl (close_gone segs ask cause) sound.returned;
      }

  pub sound_stale : (from number : ℕ) → MayLogStale from number segs → IsSound (after_stale from number segs)
  sound_stale from number may = record {
    rows = sound.rows;
    asks =
        asks_logged _ sound.asks (λ generation. refl) tt (record { within = omega arith; cause = (may.closed, refl, refl) }) (omega arith)
        (noted_stays segs.asks _ segs.growth (λ participant call. refl) sound.asks.noted)
        (once_beside segs.asks _ refl sound.asks.once)
        (unanswered_beside segs.asks _ segs.growth refl sound.asks.unanswered);
    places = sound.places;
    returned = returned_alike_by segs (after_stale from number segs) refl (stale_gone segs from number) sound.returned;
  }

  pub sound_freed : (from number : ℕ) → IsSound (after_freed from number segs)
  sound_freed from number = record {
    rows = sound.rows;
    asks =
        asks_logged _ sound.asks (λ generation. refl) tt (record { within = omega arith; cause = (refl, refl) }) (omega arith)
        (noted_stays segs.asks _ segs.growth (λ participant call. refl) sound.asks.noted)
        (once_beside segs.asks _ refl sound.asks.once)
        (unanswered_beside segs.asks _ segs.growth refl sound.asks.unanswered);
    places = sound.places;
    returned = returned_alike_by segs (after_freed from number segs) refl (freed_gone segs from number) sound.returned;
  }

  noted_by : (participant call : ℕ) (row : Row) (got : MapAnswer) → IsTrue (is_failure row got) → (growth : Option Growth) → segs.growth ≡ growth
      → (taken : Bool) → is_noted segs participant call row growth ≡ taken
      → IsSound (if taken then record segs { growth = noting (MapFailed participant call row.addr got) growth } else segs)
  noted_by participant call row got failure growth is false none = sound
  noted_by participant call row got failure None is true some = cc
  noted_by participant call row got failure (Some growth) is true some =
      let parts = and_parts (is_growth_row growth row) _ some in
      let rest = and_parts (not (is_some growth.noted)) (not (has_failed_from segs.asks participant call)) parts.1 in
      record {
        rows = rows_noted growth (MapFailed participant call row.addr got) (rows_of_growth (Some growth) is);
        asks =
            asks_noted growth (MapFailed participant call row.addr got) (asks_of_growth (Some growth) is)
            (failed_row growth row got parts.0 failure, not-true (has_failed_from segs.asks participant call) rest.1);
        places = sound.places;
        returned = sound.returned;
      }

  -- where it is taken, the growth has it
  pub sound_taken : (participant call : ℕ) (row : Row) (got : MapAnswer) → IsTrue (is_failure row got) → (growth : Growth) → segs.growth ≡ Some growth
      → is_noted segs participant call row segs.growth ≡ true
      → IsSound (record segs { growth = Some (record growth { noted = Some (MapFailed participant call row.addr got) }) })
  sound_taken participant call row got failure growth is taken =
      noted_by participant call row got failure (Some growth) is true (ap (is_noted segs participant call row) (sym is) ∙ taken)

  pub sound_noted : (participant call : ℕ) (row : Row) (got : MapAnswer) → MayNote participant row got segs
      → IsSound (after_note participant call row got segs)
  sound_noted participant call row got may =
      noted_by participant call row got may.failure segs.growth refl (is_noted segs participant call row segs.growth) refl

  pub sound_granted : (growth : Growth) → segs.growth ≡ Some growth → IsSound (after_grant growth segs)
  sound_granted growth is =
      let rows = rows_of_growth (Some growth) is in
      record {
        rows = rows_granted growth rows;
        asks =
            asks_granted growth _ (asks_of_growth (Some growth) is) rows.logged refl
            (granted_caused growth rows.logged segs.asks _ rows.table refl refl (record { kept = refl; who = refl; which = refl }))
            refl refl (omega arith);
        places = sound.places;
        returned = returned_alike_by segs (after_grant growth segs) refl (grant_gone segs sound growth is) sound.returned;
      }

  granted_by : (growth : Growth) → segs.growth ≡ Some growth → (member : Option NotAll) → IsSound (granted_unless growth segs member)
  granted_by growth is None = sound_granted growth is
  granted_by growth is (Some member) = sound

  agreed_by : (acks : List ℕ) (growth : Option Growth) → segs.growth ≡ growth → IsSound (agreed_growth acks segs growth)
  agreed_by acks None is = sound
  agreed_by acks (Some growth) is = granted_by growth is (lowest_member_below segs.roster acks growth.generation)

  pub sound_agreed : (acks : List ℕ) → IsSound (after_agree acks segs)
  sound_agreed acks = agreed_by acks segs.growth refl

  -- the open growth fails, by a cause that stands
  pub sound_failed : (growth : Growth) (cause : Cause) (ask : Option Ask) (places : ℕ) → segs.growth ≡ Some growth
      → IsCaused segs.pools (segs.log ++ Drop growth.run ∷ []) segs.asks
      (record { from = growth.ask.from; number = growth.ask.number; outcome = Refused cause; at = length segs.log; ask = ask })
      → IsSound (after_failure growth cause ask places segs)
  sound_failed growth cause ask places is caused =
      let rows = rows_of_growth (Some growth) is in
      record {
        rows = rows_failed growth rows (table_failed segs.pools segs.log segs.segments growth.run segs.retiring rows.held rows.table);
        asks = asks_failed growth _ cause (asks_of_growth (Some growth) is) rows.logged refl caused refl refl (omega arith);
        places = sound.places;
        returned =
            returned_alike_by segs (after_failure growth cause ask places segs) refl (failure_gone segs sound growth is cause ask places)
            sound.returned;
      }

  cancelled_by : (cause : Cause) (growth : Option Growth) → segs.growth ≡ growth → IsSomeAnd growth (λ growth. IsFailureCause segs cause growth.noted)
      → IsSound (cancelled_growth cause segs growth)
  cancelled_by cause None is caused = absurd caused
  cancelled_by cause (Some growth) is caused =
      let rows = rows_of_growth (Some growth) is in
      let asks = asks_of_growth (Some growth) is in
      sound_failed growth cause (Some growth.ask) 2 is
      (failed_caused growth rows.logged rows.table segs segs.asks cause _ asks.noted caused refl refl (record { kept = refl; who = refl; which = refl }))

  pub sound_cancelled : (cause : Cause) → MayCancel cause segs → IsSound (after_cancel cause segs)
  sound_cancelled cause may = cancelled_by cause segs.growth refl may.caused

  claimed_by : (grant : Option ℕ) → IsSound (claimed_grant segs grant)
  claimed_by None = sound
  claimed_by (Some generation) = record {
    rows = rows_claimed segs.growth generation sound.rows;
    asks = sound.asks;
    places = sound.places;
    returned = sound.returned;
  }

  pub sound_claimed : (from number : ℕ) → IsSound (after_claim from number segs)
  sound_claimed from number = claimed_by (grant_of segs.asks from number)

  pub sound_armed : (ask : Ask) → IsSound (after_arm ask segs)
  sound_armed ask = record {
    rows = sound.rows;
    asks = sound.asks;
    places = places_armed ask sound.places;
    returned = sound.returned;
  }

  -- the outcome by which an ask is withdrawn
  abbrev withdrawal : ℕ → ℕ → ℕ → ℕ → AskLog
  withdrawal from number since now = record {
    from = from;
    number = number;
    outcome = Refused (Withdrawn since now);
    at = length segs.log;
    ask = armed_ask segs from;
  }

  withdrawn_caused : (from number since now : ℕ) (armed : IsArmed segs from number) → grant_or_refusal_of segs.asks from number ≡ None
      → IsCaused segs.pools segs.log segs.asks (withdrawal from number since now)
  withdrawn_caused from number since now armed none = record {
    within = omega arith;
    cause = (
      armed.ask,
      record { kept = armed.is; who = armed.who; which = armed.which },
      ap (λ f. grant_or_refusal_of segs.asks f armed.ask.number) armed.who ∙ (ap (grant_or_refusal_of segs.asks from) armed.which ∙ none),
    );
  }

  other_unanswered : (from number since now : ℕ) (growth : Growth) → grows_for from number growth ≡ false
      → IsTrue (is_unanswered segs.asks (Some growth.ask))
      → IsTrue (is_unanswered (segs.asks ++ withdrawal from number since now ∷ []) (Some growth.ask))
  other_unanswered from number since now growth other old =
      let entry : AskLog = withdrawal from number since now in
      let none : grants_or_refuses growth.ask.from growth.ask.number entry ≡ false =
      false_from_ne_true (grants_or_refuses growth.ask.from growth.ask.number entry) (λ passes.
      let parts = and_parts (from == growth.ask.from) _ passes in
      let more = and_parts (number == growth.ask.number) _ parts.1 in
      let own : grows_for from number growth ≡ true =
      and_from (growth.ask.from == from) (growth.ask.number == number)
      (eq-eqb growth.ask.from from (sym (eqb-true from growth.ask.from parts.0)))
      (eq-eqb growth.ask.number number (sym (eqb-true number growth.ask.number more.0))) in
      let wrong : true ≡ false = sym own ∙ other in
      cc) in
      ap not
      (list_any-append (grants_or_refuses growth.ask.from growth.ask.number) segs.asks (entry ∷ [])
      ∙ or_from _ _ (not-true (list_any (grants_or_refuses growth.ask.from growth.ask.number) segs.asks) old) (ap (λ b. b || false) none))

  -- an armed ask without an open growth is taken back
  pub sound_logged : (from number since now : ℕ) (armed : IsArmed segs from number) → grant_or_refusal_of segs.asks from number ≡ None
      → HasUnansweredAsk (segs.asks ++ withdrawal from number since now ∷ []) segs.growth
      → IsSound (record segs { asks = segs.asks ++ withdrawal from number since now ∷ [] })
  sound_logged from number since now armed none unanswered = record {
    rows = sound.rows;
    asks =
        asks_logged (withdrawal from number since now) sound.asks (λ generation. refl) tt (withdrawn_caused from number since now armed none) (omega arith)
        (noted_stays segs.asks (withdrawal from number since now) segs.growth (λ participant call. refl) sound.asks.noted)
        (once_more segs.asks (withdrawal from number since now) armed.ask (sym armed.who) (sym armed.which)
        (armed_unanswered segs from number armed none) sound.asks.once)
        unanswered;
    places = sound.places;
    returned =
        returned_alike_by segs (record segs { asks = segs.asks ++ withdrawal from number since now ∷ [] }) refl
        (refused_gone segs from number (Withdrawn since now) (armed_ask segs from)) sound.returned;
  }

  withdrawn_by : (from number since now : ℕ) (armed : IsArmed segs from number) → grant_or_refusal_of segs.asks from number ≡ None
      → (growth : Growth) → segs.growth ≡ Some growth → (own : Bool) → grows_for from number growth ≡ own
      → IsSound (if own then after_failure growth (Withdrawn since now) (armed_ask segs from) 0 segs
      else record segs { asks = segs.asks ++ withdrawal from number since now ∷ [] })
  withdrawn_by from number since now armed none growth is true own =
      let parts = and_parts (growth.ask.from == from) (growth.ask.number == number) own in
      let who : growth.ask.from ≡ from = eqb-true growth.ask.from from parts.0 in
      let which : growth.ask.number ≡ number = eqb-true growth.ask.number number parts.1 in
      sound_failed growth (Withdrawn since now) (armed_ask segs from) 0 is
      (record {
        within = omega (arith, length-append segs.log (Drop growth.run ∷ []));
        cause = (
          armed.ask,
          record { kept = armed.is; who = armed.who ∙ sym who; which = armed.which ∙ sym which },
          ap (λ f. grant_or_refusal_of segs.asks f armed.ask.number) armed.who ∙ (ap (grant_or_refusal_of segs.asks from) armed.which ∙ none),
        );
      })
  withdrawn_by from number since now armed none growth is false other =
      sound_logged from number since now armed none
      (subst (HasUnansweredAsk (segs.asks ++ withdrawal from number since now ∷ [])) (sym is)
      (other_unanswered from number since now growth other (asks_of_growth (Some growth) is).unanswered))

  withdrawn_with : (from number since now : ℕ) (armed : IsArmed segs from number) → grant_or_refusal_of segs.asks from number ≡ None
      → (growth : Option Growth) → segs.growth ≡ growth → IsSound (withdrawn_growth from number (Withdrawn since now) segs growth)
  withdrawn_with from number since now armed none None is =
      sound_logged from number since now armed none
      (subst (HasUnansweredAsk (segs.asks ++ withdrawal from number since now ∷ [])) (sym is) tt)
  withdrawn_with from number since now armed none (Some growth) is =
      withdrawn_by from number since now armed none growth is (grows_for from number growth) refl

  -- an armed ask that stands open is taken back
  pub sound_refused : (from number since now : ℕ) → MayWithdraw from number segs → grant_or_refusal_of segs.asks from number ≡ None
      → IsSound (withdrawn_growth from number (Withdrawn since now) segs segs.growth)
  sound_refused from number since now may none =
      withdrawn_with from number since now (armed_with segs from number sound may) none segs.growth refl

  standing_by : (from number since now : ℕ) → MayWithdraw from number segs → (standing : Option Outcome)
      → grant_or_refusal_of segs.asks from number ≡ standing → IsSound (withdrawn_unless from number (Withdrawn since now) segs standing)
  standing_by from number since now may None none = sound_refused from number since now may none
  standing_by from number since now may (Some outcome) some = sound

  pub sound_withdrawn : (from number since now : ℕ) → MayWithdraw from number segs → IsSound (after_withdraw from number since now segs)
  sound_withdrawn from number since now may = standing_by from number since now may (grant_or_refusal_of segs.asks from number) refl

  pub sound_retired : (heap : ℕ) (run : Run) → OwnsRun heap run segs → IsSound (after_retire heap run segs)
  sound_retired heap run owns = record {
    rows = rows_retired segs sound heap run owns;
    asks = sound.asks;
    places = sound.places;
    returned = returned_retired heap run segs sound.returned;
  }

  pub sound_dropped : MayDrop segs → IsSound (after_drop segs)
  sound_dropped may =
      let rows = rows_of_growth None may.alone in
      let given : All (IsOfOneHeap segs.log (table_of segs.log)) segs.retiring =
      subst (λ rows. All (IsOfOneHeap segs.log rows) segs.retiring) sound.rows.table.table sound.rows.given_up in
      let dropped = rows_dropped rows (table_dropped segs.pools segs.log segs.segments segs.retiring rows.held rows.retired rows.table) in
      let logged = asks_dropped segs.retiring (asks_of_growth None may.alone) given in
      let log = segs.log ++ map (λ run. Drop run) segs.retiring in
      record {
        rows = subst (AreRows segs.pools log (after_drop segs).segments []) (sym may.alone) dropped;
        asks = subst (AreAsks segs.pools log segs.asks) (sym may.alone) logged;
        places = sound.places;
        returned = returned_alike_by segs (after_drop segs) refl (drop_gone segs sound may.alone) sound.returned;
      }

  pub sound_joined : (participant acked : ℕ) → MayJoin participant acked segs → IsSound (after_join participant segs)
  sound_joined participant acked may = record {
    rows = sound.rows;
    asks = sound.asks;
    places = places_joined participant sound.places;
    returned = sound.returned;
  }

  pub sound_left : (participant : ℕ) → MayLeave participant segs → IsSound (after_leave participant segs)
  sound_left participant may = record {
    rows = sound.rows;
    asks = sound.asks;
    places = places_left participant may.secondary sound.places;
    returned = sound.returned;
  }

  pub sound_ranged : (list addr len page socket : ℕ) → range_plan addr len page segs ≡ Ok list → IsSound (after_claim_range list addr len page socket segs)
  sound_ranged list addr len page socket plan = record {
    rows = sound.rows;
    asks = sound.asks;
    places =
        places_beside _ (ranges_more segs addr len page socket list (planned_range segs addr len page list plan) sound.places.external) sound.places;
    returned = sound.returned;
  }

  pub sound_released : (list : ℕ) → IsSound (after_release_range list segs)
  sound_released list = record {
    rows = sound.rows;
    asks = sound.asks;
    places = places_beside _ (ranges_fewer (λ (range : ExternalRange). not (range.list == list)) segs.ranges sound.places.external) sound.places;
    returned = sound.returned;
  }
