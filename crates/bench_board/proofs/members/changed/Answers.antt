use Rattle.std.proofs.Common.{refl, sym, subst, ◌∙◌, arith}
use Rattle.bench_board.specs.Visits.{Changes}
use Rattle.bench_board.proofs.VisitLemmas.{joins, leaves}
use Rattle.bench_board.proofs.members.changed.Goals as goal

pub returns-then-is_member : goal.returns-then-is_member
returns-then-is_member c =
    subst (Changes c.args.who c.args.segs) (sym c.leave_roster.ensures.step)
    (leaves c.args.who c.args.segs (record { member = sym c.is_member.ensures ∙ c.if-is_member.true; secondary = c.requires.secondary }))

pub returns : goal.returns
returns c =
    let declared = c.requires.declared in
    subst (Changes c.args.who c.args.segs) (sym c.join_roster.ensures.step)
    (joins c.args.who c.args.segs (record { declared = omega (arith, declared); out = sym c.is_member.ensures ∙ c.if-is_member.false; all = refl }))
