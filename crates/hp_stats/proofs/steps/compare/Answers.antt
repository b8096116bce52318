use Rattle.std.proofs.Common.{rules, ◌≡◌, ◌++◌, List, sym, ap, subst, ◌∙◌}
use Rattle.crossbeam_utils.specs.Seq.{cell_view}
use Rattle.hp_stats.specs.declared.stat_pair.StatPair.{StatPair}
use Rattle.hp_stats.specs.declared.view.View.{View}
use Rattle.hp_stats.specs.Pairs.{AreAmong}
use Rattle.hp_stats.specs.Views.{both_seen}
use Rattle.hp_stats.proofs.CellSteps.{may_check, may_hear, may_report}
use Rattle.hp_stats.proofs.steps.compare.Goals as goal

pub split_pass-seen-requires : goal.split_pass-seen-requires
split_pass-seen-requires g c = (search rules, (search rules, (c.requires.reader, may_report _ _)))

pub join_pass-requires : goal.join_pass-requires
join_pass-requires g c =
    let given = c.split_pass-seen.ensures.given in (
      search rules,
      (search rules, ((c.requires.cell, given.0 ∙ c.requires.reader ∙ sym c.requires.cell, given.2), may_hear _ _ _ _)),
    )

pub load_as-requires : goal.load_as-requires
load_as-requires g c = (search rules, (search rules, (c.join_pass.ensures.0.0 ∙ c.requires.cell, may_check _ _)))

pub returns-clause-among : goal.returns-clause-among
returns-clause-among g c =
    let pen : View = cell_view c.args.pen.now in
    let reader : View = cell_view c.args.reader.now in
    let joined = c.join_pass.ensures.1 ∙ ap (both_seen pen) c.split_pass-seen.ensures.given.1 in
    subst (λ (l : List StatPair). AreAmong pen.published (l ++ reader.seen)) c.requires.pen.1
    (subst (λ (v : View). AreAmong v.published v.seen) joined
    (c.load_as.ensures.rule.1 (ap (λ (v : View). v.pen) joined ∙ c.requires.pen.0)))
