-- The answer is the row's own place, or one with which the call may fail.
use Rattle.std.proofs.Common.{◌≡◌, ◌⊎◌, ◌+◌, ◌∙◌, ℕ, inr, length, ap, sym, subst}
use Rattle.hp_base.specs.Mapping.{FailsSo, own_place}
use Rattle.hp_base.specs.declared.map_answer.MapAnswer.{MapAnswer}
use Rattle.hp_base.specs.declared.map_answer.MapAnswer.TheVariants.{Refused}
use Rattle.hp_maps.specs.PlannedView.{PlannedView, action_for, may_fail_by}
use Rattle.hp_maps.proofs.PlannedLemmas.{asked_told, misplaced_told, refused_told}
use Rattle.hp_maps.proofs.planned.PlannedMapper.map.Goals as goal

pub returns-in-Refuse-clause-told : goal.returns-in-Refuse-clause-told
returns-in-Refuse-clause-told g c =
    subst (λ (mapper : PlannedView). (Refused ≡ own_place c.args.row.now)
    ⊎ FailsSo (may_fail_by mapper.plan mapper.party mapper.other_may_fail) (length mapper.answers + 1) c.args.row.now Refused) c.self.view_is
    (let inside = c.self.inside in
    inr (refused_told inside.plan.now inside.party (length inside.answers + 1) (g.M.Mapper.may_fail inside.inner) c.args.row.now c.in-Refuse.line
    (sym (c.in-Refuse.ensures
    ∙ ap (λ (calls : ℕ). action_for c.self.inside.plan.now c.self.inside.party (calls + 1) c.args.row.now) c.self.invariant.counted))))

pub returns-in-Elsewhere-clause-told : goal.returns-in-Elsewhere-clause-told
returns-in-Elsewhere-clause-told g c =
    subst (λ (mapper : PlannedView). (c.next_place-answer.result ≡ own_place c.args.row.now)
    ⊎ FailsSo (may_fail_by mapper.plan mapper.party mapper.other_may_fail) (length mapper.answers + 1) c.args.row.now
    c.next_place-answer.result) c.self.view_is
    (let inside = c.self.inside in
    inr (subst (λ (got : MapAnswer).
    FailsSo (may_fail_by inside.plan.now inside.party (g.M.Mapper.may_fail inside.inner)) (length inside.answers + 1) c.args.row.now got)
    (sym c.next_place-answer.ensures)
    (misplaced_told inside.plan.now inside.party (length inside.answers + 1) (g.M.Mapper.may_fail inside.inner) c.args.row.now c.in-Elsewhere.line
    (sym (c.in-Elsewhere.ensures
    ∙ ap (λ (calls : ℕ). action_for c.self.inside.plan.now c.self.inside.party (calls + 1) c.args.row.now) c.self.invariant.counted)))))

pub returns-in-Ask-clause-told : goal.returns-in-Ask-clause-told
returns-in-Ask-clause-told g c =
    subst (λ (mapper : PlannedView). (c.map-answer.result ≡ own_place c.args.row.now)
    ⊎ FailsSo (may_fail_by mapper.plan mapper.party mapper.other_may_fail) (length mapper.answers + 1) c.args.row.now
    c.map-answer.result) c.self.view_is
    (let inside = c.self.inside in
    asked_told inside.plan.now inside.party _ (length inside.answers + 1) (g.M.Mapper.may_fail inside.inner) c.args.row.now c.map-answer.result
    c.map-answer.ensures.told)
