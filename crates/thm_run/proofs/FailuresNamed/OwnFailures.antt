-- Failed mappings that are noted or logged are of a declared participant, of a page that was asked for, at calls at which its mapper may answer
-- so.
use Rattle.std.proofs.Common.{◌≡◌, ◌∙◌, ℕ, ◌+◌, ◌-◌, ◌*◌, ◌<◌, ◌==◌, true, false, List, Option, Some, None, IfSome, refl, ap, sym, subst, get_or}
use Rattle.std.specs.Prelude.{⊤}
use Rattle.std.specs.List.{All}
use Rattle.std.specs.Option.{option_and_then}
use Rattle.std.proofs.lemmas.Bool.{and_parts, eqb-true}
use Rattle.std.proofs.lemmas.List.Elements.{All-push}
use Rattle.std.proofs.lemmas.List.Quantifiers.{position-Some}
use Rattle.std.proofs.lemmas.Option.{get_or_from_slice_get}
use Rattle.hp_base.specs.Mapping.{FailingCall, FailsSo}
use Rattle.hp_base.specs.declared.map_answer.MapAnswer.{MapAnswer}
use Rattle.hp_base.specs.declared.pool_line.PoolLine.{PoolLine}
use Rattle.hp_base.specs.declared.row.Row.{Row}
use Rattle.hp_base.specs.declared.row.Run.{Run}
use Rattle.hp_log.specs.Rows.{in_run}
use Rattle.hp_segs.specs.LaterSteps.{is_growth_row, noted_failure, noting}
use Rattle.hp_segs.specs.Lists.{is_list_of, lists_of}
use Rattle.hp_segs.specs.Plan.{IsFirstFor}
use Rattle.hp_segs.specs.SegsView.{SegsView}
use Rattle.hp_segs.specs.Sound.{IsSound}
use Rattle.hp_segs.specs.SoundRows.{IsGrowth, IsLogged}
use Rattle.hp_segs.specs.declared.ask.Ask.{Ask}
use Rattle.hp_segs.specs.declared.growth.Growth.{Growth}
use Rattle.hp_segs.specs.declared.outcome.AskLog.{AskLog}
use Rattle.hp_segs.specs.declared.outcome.Cause.{Cause}
use Rattle.hp_segs.specs.declared.outcome.Cause.TheVariants.{CannotHold, Denied, Late, ListFull, MapFailed, NoList, TooFew, Withdrawn}
use Rattle.hp_segs.specs.declared.outcome.Outcome.{Outcome}
use Rattle.hp_segs.specs.declared.outcome.Outcome.TheVariants.{Freed, Granted, Refused, Stale}
use Rattle.hp_segs.specs.declared.plan_refusal.PlanRefusal.{PlanRefusal}
use Rattle.hp_segs.specs.declared.plan_refusal.PlanRefusal.TheVariants as plan
use Rattle.hp_core.specs.Starting.{cause_of}
use Rattle.hp_serve.specs.Denials.{Denials}
use Rattle.thm_run.specs.EndLaws.{FailsFor}
use Rattle.thm_run.proofs.RunFacts.Changes.{Changes, IsOwed, Logs, alters, by_failure, by_grant, by_judge, by_lateness, by_notice, by_number, by_plan, by_withdrawal, drops, ends, failures, fails_mapping, goes_on, nothing, opens, outcomes, stays}

-- the page size and the socket of a run that is the first one for an ask are those that were asked for
record IsAskedSo (ask : Ask) (run : Run) : Type 0 where
  pub page : run.page ≡ ask.page
  pub socket : run.socket ≡ ask.socket

asked_so : (pools : List PoolLine) (table : List Row) (ask : Ask) (run : Run) → IsFirstFor pools table ask run → IsAskedSo ask run
asked_so pools table ask run first =
    let info = first.info in
    let found = position-Some (is_list_of ask.socket ask.page) (lists_of pools) first.list info first.its_list in
    let same : get_or (lists_of pools) first.list info ≡ info = get_or_from_slice_get (lists_of pools) first.list info info first.its_info in
    let its : is_list_of ask.socket ask.page info ≡ true = ap (is_list_of ask.socket ask.page) (sym same) ∙ found.1 in
    let parts = and_parts (info.socket == ask.socket) (info.page == ask.page) its in
    record {
      page = ap (λ (run : Run). run.page) first.its_run ∙ eqb-true info.page ask.page parts.1;
      socket = ap (λ (run : Run). run.socket) first.its_run ∙ eqb-true info.socket ask.socket parts.0;
    }

-- so it is with the run of an open growth
growth_asked : (segs : SegsView) (growth : Growth) → IsSound segs → segs.growth ≡ Some growth → IsAskedSo growth.ask growth.run
growth_asked segs growth sound is =
    let logged : IsGrowth segs.pools segs.log segs.segments growth =
    subst (IsLogged segs.pools segs.log segs.segments) is sound.rows.logged in
    asked_so segs.pools _ growth.ask growth.run logged.first

-- the page size and the socket of a growth's row are those of its run
record IsPageOf (run : Run) (row : Row) : Type 0 where
  pub page : row.page ≡ run.page
  pub socket : row.socket ≡ run.socket

page_of : (growth : Growth) (row : Row) → is_growth_row growth row ≡ true → IsPageOf growth.run row
page_of growth row is =
    let run = growth.run in
    let whole = and_parts (row.generation == growth.generation) _ is in
    let placed = and_parts (in_run run row) _ whole.1 in
    let rest = and_parts (row.addr == run.addr + (row.slot - run.first) * run.page) _ placed.1 in
    let both = and_parts (row.page == run.page) (row.socket == run.socket) rest.1 in
    record { page = eqb-true row.page run.page both.0; socket = eqb-true row.socket run.socket both.1 }

module _ (count : ℕ) (may_fail : ℕ → Option (List FailingCall)) where
  -- a mapping of a declared participant failed, of a row of the growth that has that address, at a call at which its mapper may answer so
  pub record IsOfGrowth (growth : Growth) (participant call addr : ℕ) (got : MapAnswer) : Type 0 where
    pub declared : participant < count
    pub row : Row
    pub its_addr : row.addr ≡ addr
    pub of_growth : is_growth_row growth row ≡ true
    pub so : FailsSo (may_fail participant) call row got

  -- what is noted for a growth is such a failure
  abbrev pub IsOwnFailure : Growth → Cause → Type 0
  IsOwnFailure growth (MapFailed participant call addr got) = IsOfGrowth growth participant call addr got
  IsOwnFailure growth _ = ⊥

  abbrev pub IsOwnNote : Option Growth → Type 0
  IsOwnNote growth = IfSome growth (λ growth. IfSome growth.noted (IsOwnFailure growth))

  -- where an outcome is a failed mapping, it is one of a declared participant, of a page that was asked for
  abbrev pub FailsAsMay : Option Ask → Outcome → Type 0
  FailsAsMay kept (Refused (MapFailed participant call addr got)) = (participant < count) × FailsFor (may_fail participant) call addr got kept
  FailsAsMay kept _ = ⊤

  abbrev pub EntryFailsAsMay : AskLog → Type 0
  EntryFailsAsMay entry = FailsAsMay entry.ask entry.outcome

  -- so it is with what is noted, and with each outcome
  pub record AreOwnFailures (segs : SegsView) : Type 0 where
    pub noted : IsOwnNote segs.growth
    pub logged : All EntryFailsAsMay segs.asks

  -- an outcome that is no failed mapping
  fails_none : (kept : Option Ask) (outcome : Outcome) → fails_mapping outcome ≡ false → FailsAsMay kept outcome
  fails_none kept (Granted generation) none = tt
  fails_none kept (Stale done) none = tt
  fails_none kept (Freed generation) none = tt
  fails_none kept (Refused NoList) none = tt
  fails_none kept (Refused (TooFew have need)) none = tt
  fails_none kept (Refused (ListFull longest need)) none = tt
  fails_none kept (Refused (CannotHold addr len)) none = tt
  fails_none kept (Refused (Denied validator limit total)) none = tt
  fails_none kept (Refused (MapFailed participant call addr got)) none = cc
  fails_none kept (Refused (Late participant from to)) none = tt
  fails_none kept (Refused (Withdrawn from to)) none = tt

  plan_fails : (kept : Option Ask) (refusal : PlanRefusal) → FailsAsMay kept (Refused (cause_of refusal))
  plan_fails kept (plan.StaleAsk number done) = tt
  plan_fails kept (plan.GrowthOpen generation) = tt
  plan_fails kept plan.NoList = tt
  plan_fails kept (plan.TooFew have need) = tt
  plan_fails kept (plan.ListFull longest need) = tt
  plan_fails kept (plan.CannotHold addr len) = tt

  -- a failure that is noted for a growth is one of a page that was asked for
  own_fails : (growth : Growth) (kept : Option Ask) → kept ≡ Some growth.ask → IsAskedSo growth.ask growth.run → (cause : Cause)
      → IsOwnFailure growth cause → FailsAsMay kept (Refused cause)
  own_fails growth kept is asked NoList own = tt
  own_fails growth kept is asked (TooFew have need) own = tt
  own_fails growth kept is asked (ListFull longest need) own = tt
  own_fails growth kept is asked (CannotHold addr len) own = tt
  own_fails growth kept is asked (Denied validator limit total) own = tt
  own_fails growth kept is asked (MapFailed participant call addr got) own =
      let its = page_of growth own.row own.of_growth in (
        own.declared,
        record {
          ask = growth.ask;
          kept_is = is;
          row = own.row;
          its_addr = own.its_addr;
          page = its.page ∙ asked.page;
          socket = its.socket ∙ asked.socket;
          so = own.so;
        },
      )
  own_fails growth kept is asked (Late participant from to) own = tt
  own_fails growth kept is asked (Withdrawn from to) own = tt

  -- what is noted is of the open growth
  noted_own : (growth : Growth) (cause : Cause) (noted : Option Cause) → IfSome noted (IsOwnFailure growth) → noted ≡ Some cause
      → IsOwnFailure growth cause
  noted_own growth cause None own is = cc
  noted_own growth cause (Some other) own is = let same : other ≡ cause = cc in subst (IsOwnFailure growth) same own

  pub record IsNotedOwn (segs : SegsView) (cause : Cause) : Type 0 where
    pub growth : Growth
    pub is : segs.growth ≡ Some growth
    pub own : IsOwnFailure growth cause

  pub growth_own : (segs : SegsView) (cause : Cause) (growth : Option Growth) → IsOwnNote growth → segs.growth ≡ growth
      → noted_failure segs ≡ Some cause → IsNotedOwn segs cause
  growth_own segs cause None own open_now is = cc (ap (option_and_then (λ growth. growth.noted)) open_now)
  growth_own segs cause (Some growth) own open_now is = record {
    growth = growth;
    is = open_now;
    own = noted_own growth cause growth.noted own (sym (ap (option_and_then (λ growth. growth.noted)) open_now) ∙ is);
  }

  noting_own : (participant call : ℕ) (row : Row) (got : MapAnswer) → participant < count → FailsSo (may_fail participant) call row got
      → (growth : Option Growth) → IfSome growth (λ growth. is_growth_row growth row ≡ true) → IsOwnNote growth
      → IsOwnNote (noting (MapFailed participant call row.addr got) growth)
  noting_own participant call row got declared so None its own = tt
  noting_own participant call row got declared so (Some growth) its own =
      record { declared = declared; row = row; its_addr = refl; of_growth = its; so = so }

  module _ (deadline : ℕ) (denies : Denials) where
    module _ (segs : SegsView) (growth : Growth) (kept : Option Ask) (before : AreOwnFailures segs) (sound : IsSound segs)
        (is : segs.growth ≡ Some growth) (kept_is : kept ≡ Some growth.ask) where
      -- the outcome with which an open growth ends
      owed_fails : (outcome : Outcome) → IsOwed deadline denies segs kept outcome → FailsAsMay kept outcome
      owed_fails _ (by_grant generation) = tt
      owed_fails _ (by_number done) = tt
      owed_fails _ (by_notice generation) = tt
      owed_fails _ (by_plan refusal) = plan_fails kept refusal
      owed_fails _ (by_judge ask denial total its may) = tt
      owed_fails _ (by_failure failure its) =
          let found = growth_own segs failure segs.growth before.noted refl its in
          let same : Some found.growth ≡ Some growth = sym found.is ∙ is in
          let asked = growth_asked segs found.growth sound found.is in
          own_fails found.growth kept (kept_is ∙ ap (λ (growth : Growth). Some growth.ask) (same_growth found.growth growth same)) asked failure
          found.own
        where
          same_growth : (one other : Growth) → Some one ≡ Some other → other ≡ one
          same_growth one other same = cc
      owed_fails _ (by_lateness participant from to member passed) = tt
      owed_fails _ (by_withdrawal since now passed) = tt

    -- it stays through a change
    pub alters_own : (old new : SegsView) → AreOwnFailures old → Logs count deadline may_fail denies old new → AreOwnFailures new
    alters_own old new before (nothing log asks growth) = record {
      noted = subst IsOwnNote (sym growth) before.noted;
      logged = subst (All EntryFailsAsMay) (sym asks) before.logged;
    }
    alters_own old new before (failures participant call row got declared so its log asks growth) = record {
      noted = subst IsOwnNote (sym growth) (noting_own participant call row got declared so old.growth its before.noted);
      logged = subst (All EntryFailsAsMay) (sym asks) before.logged;
    }
    alters_own old new before (drops runs log asks growth) = record {
      noted = subst IsOwnNote (sym growth) before.noted;
      logged = subst (All EntryFailsAsMay) (sym asks) before.logged;
    }
    alters_own old new before (outcomes entry log asks growth beside none owed) = record {
      noted = subst IsOwnNote (sym growth) before.noted;
      logged =
          subst (All EntryFailsAsMay) (sym asks)
          (All-push EntryFailsAsMay old.asks entry before.logged (fails_none entry.ask entry.outcome beside));
    }
    alters_own old new before (opens ask run growth alone log asks is stamp unnoted its allowed) = record {
      noted = subst IsOwnNote (sym is) (subst (λ noted. IfSome noted (IsOwnFailure growth)) (sym unnoted) tt);
      logged = subst (All EntryFailsAsMay) (sym asks) before.logged;
    }
    alters_own old new before (ends growth entry end) = record {
      noted = subst IsOwnNote (sym end.gone) tt;
      logged =
          subst (All EntryFailsAsMay) (sym end.asks)
          (All-push EntryFailsAsMay old.asks entry before.logged
          (owed_fails old growth entry.ask before end.sound end.was_open end.kept entry.outcome end.owed));
    }

    -- and so through all changes
    pub changes_own : (old new : SegsView) → Changes count deadline may_fail denies old new → AreOwnFailures old → AreOwnFailures new
    changes_own _ _ (stays segs) before = before
    changes_own _ _ (alters old new one) before = alters_own old new before one.logs
    changes_own _ _ (goes_on old mid new here there) before = changes_own mid new there (changes_own old mid here before)
