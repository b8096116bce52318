use Rattle.std.proofs.Common.{ℕ, Some, ap, sym, subst, ◌∙◌}
use Rattle.hp_segs.specs.Calls.{MayJoin}
use Rattle.hp_segs.specs.LaterSteps.{after_join}
use Rattle.hp_hall.specs.Giving.{GivesSegments}
use Rattle.hp_hall.proofs.Gives.{gives_join}
use Rattle.test_solo.proofs.plain.values.join.Goals as goal

pub returns : goal.returns
returns c = λ knows same all acked.
    let old = c.args.segs.now in
    let me = c.args.me in
    let may : MayJoin me c.args.records old = record {
      declared = c.requires.declared;
      out = sym c.is_member.ensures ∙ c.if-is_member.false;
      all = c.requires.all;
    } in
    let known : MayJoin knows.who knows.number old = subst (λ (who : ℕ). MayJoin who knows.number old) (sym same) (subst (λ (n : ℕ). MayJoin me n old) (sym all) may) in
    subst (GivesSegments knows old) (sym c.join_roster.ensures.step)
    (subst (λ (who : ℕ). GivesSegments knows old (after_join who old)) same (gives_join knows old known (acked ∙ ap Some c.requires.all)))
