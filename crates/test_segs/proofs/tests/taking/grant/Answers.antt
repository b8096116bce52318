-- What is granted can be claimed.
use Rattle.std.proofs.Common.{◌≡◌, ◌∙◌, ℕ, List, None, Ok, Err, Result, false, refl, sym, subst, replicate}
use Rattle.std.specs.Result.{is_err, result_err}
use Rattle.hp_base.specs.declared.row.Run.{Run}
use Rattle.hp_segs.specs.Plan.{plan_of}
use Rattle.hp_segs.specs.SegsView.{SegsView}
use Rattle.hp_segs.specs.Sound.{IsSound}
use Rattle.hp_segs.specs.Steps.{after_agree, after_open, after_reserve, lowest_below}
use Rattle.hp_segs.specs.declared.ask.Ask.{Ask}
use Rattle.hp_segs.proofs.GrowthSteps.GrantLemmas.{after_granted, grant_owned, grant_unclaimed, granted_is}
use Rattle.hp_segs.proofs.SlotFacts.PlannedLemmas.{IsOpenPlan, open_plan}
use Rattle.test_segs.proofs.tests.taking.grant.Goals as goal

record IsGrantOf (old new : SegsView) (ask : Ask) (run : Run) : Type 0 where
  same : new ≡ after_granted old ask run
  plan : IsOpenPlan old ask run

granted : (old opened new : SegsView) (ask : Ask) (run : Run) (acks : List ℕ) → plan_of ask old ≡ Ok run → opened ≡ after_open ask run old
    → None ≡ lowest_below opened acks → new ≡ after_agree acks opened → IsSound new → IsGrantOf old new ask run
granted old opened new ask run acks plan step all agree sound =
    let now : lowest_below (after_open ask run old) acks ≡ None = subst (λ segs. lowest_below segs acks ≡ None) step (sym all) in
    let same : new ≡ after_granted old ask run = subst (λ segs. new ≡ after_agree acks segs) step agree ∙ granted_is old ask run acks now in
    record { same = same; plan = open_plan old ask run (subst IsSound same sound).rows.table.limits plan }

none_from_ok : {T E : Type 0} (r : Result T E) → is_err r ≡ false → None ≡ result_err r
none_from_ok (Ok value) ok = refl
none_from_ok (Err fault) ok = cc

grant_made : (c : goal.After-records-records) → IsGrantOf (after_reserve 3 c.args.segs.now) c.agree.new.self c.args.ask.now c.in_ok-run.run'
grant_made c =
    granted (after_reserve 3 c.args.segs.now) c.open.new.segs c.agree.new.self c.args.ask.now c.in_ok-run.run' (replicate 16 18446744073709551615)
    c.in_ok-run.ensures.plan c.in_ok-run.ensures.step
    (none_from_ok c.agree.result (sym c.is_err.ensures.value ∙ c.if-is_err.false) ∙ c.agree.ensures.answer)
    c.agree.ensures.step c.records-records.ensures.sound

pub returns-clause-unclaimed : goal.returns-clause-unclaimed
returns-clause-unclaimed c =
    let made = grant_made c in
    rw made.same (grant_unclaimed (after_reserve 3 c.args.segs.now) c.args.ask.now c.in_ok-run.run' made.plan)

pub returns-clause-owned : goal.returns-clause-owned
returns-clause-owned c =
    let made = grant_made c in
    rw made.same (grant_owned (after_reserve 3 c.args.segs.now) c.args.ask.now c.in_ok-run.run' made.plan)
