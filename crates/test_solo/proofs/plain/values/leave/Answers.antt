use Rattle.std.proofs.Common.{ℕ, sym, subst, ◌∙◌}
use Rattle.hp_segs.specs.Calls.{MayLeave}
use Rattle.hp_segs.specs.LaterSteps.{after_leave}
use Rattle.hp_hall.specs.Giving.{GivesSegments}
use Rattle.hp_hall.proofs.Gives.{gives_leave}
use Rattle.test_solo.proofs.plain.values.leave.Goals as goal

pub returns : goal.returns
returns c = λ knows same emptied.
    let old = c.args.segs.now in
    let may : MayLeave c.args.me old = record { member = sym c.is_member.ensures ∙ c.if-not-is_member.false; secondary = c.requires.secondary } in
    subst (GivesSegments knows old) (sym c.leave_roster.ensures.step)
    (subst (λ (who : ℕ). GivesSegments knows old (after_leave who old)) same (gives_leave knows old (subst (λ (who : ℕ). MayLeave who old) (sym same) may) emptied))
