use Rattle.std.proofs.Common.{rules, sym, ap, ◌∙◌}
use Rattle.crossbeam_utils.specs.Seq.{cell_view}
use Rattle.hp_stats.specs.declared.stat_pair.StatPair.{StatPair}
use Rattle.hp_stats.specs.declared.view.View.{View}
use Rattle.hp_stats.specs.Pairs.{newest_of}
use Rattle.hp_stats.specs.Views.{after_see, both_seen}
use Rattle.hp_stats.proofs.CellSteps.{may_hear, may_publish, may_tell}
use Rattle.hp_stats.proofs.PairLemmas.{newest_of-push}
use Rattle.hp_stats.proofs.steps.publish.Goals as goal

pub swap_as-requires : goal.swap_as-requires
swap_as-requires g c = (search rules, (search rules, (c.requires.cell, may_publish _ _ c.args.pair c.requires.pen c.requires.count)))

pub split_pass-told-requires : goal.split_pass-told-requires
split_pass-told-requires g c = (
  search rules,
  (
    search rules,
    (c.swap_as.ensures.cell.0 ∙ c.requires.cell, may_tell _ _ (ap (λ (v : View). v.pen) c.swap_as.ensures.rule ∙ c.requires.pen)),
  ),
)

pub join_pass-requires : goal.join_pass-requires
join_pass-requires g c =
    let given = c.split_pass-told.ensures.given in (
      search rules,
      (
        search rules,
        ((c.requires.reader, given.0 ∙ c.swap_as.ensures.cell.0 ∙ c.requires.cell ∙ sym c.requires.reader, given.2), may_hear _ _ _ _),
      ),
    )

pub returns-clause-reader : goal.returns-clause-reader
returns-clause-reader g c =
    let reader : View = cell_view c.args.reader.now in (
      c.join_pass.ensures.0,
      c.join_pass.ensures.1
          ∙ ap (both_seen reader) c.split_pass-told.ensures.given.1
          ∙ ap (λ (p : StatPair). after_see p reader)
          (ap (λ (v : View). newest_of v.published) c.swap_as.ensures.rule ∙ newest_of-push (cell_view c.args.pen.now).published c.args.pair),
    )
