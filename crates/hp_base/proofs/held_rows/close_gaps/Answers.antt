-- A filter keeps the runs that have rows.
use Rattle.std.proofs.Common.{◌≡◌, ◌∙◌, ap, arith, filter, length, rules, subst, sym}
use Rattle.std.specs.List.{All}
use Rattle.std.proofs.lemmas.Fn.{filter_same}
use Rattle.std.proofs.lemmas.List.Elements.{All-filter}
use Rattle.hp_base.specs.HeldRows.{IsRun, has_rows, rows_in}
use Rattle.hp_base.proofs.HeldRunLemmas.{as_many, without_gaps}
use Rattle.hp_base.proofs.held_rows.close_gaps.Goals as goal

pub returns-clause-rows : goal.returns-clause-rows
returns-clause-rows c =
    let kept : c.retain.new.self.items ≡ filter has_rows c.args.runs.now.items =
    filter_same _ _ _ (λ x b f' k. search rules) _ _ c.retain.ensures.filtered in
    ap rows_in kept ∙ without_gaps c.args.runs.now.items

pub returns-clause-runs : goal.returns-clause-runs
returns-clause-runs c =
    let kept : c.retain.new.self.items ≡ filter has_rows c.args.runs.now.items =
    filter_same _ _ _ (λ x b f' k. search rules) _ _ c.retain.ensures.filtered in
    subst (All IsRun) (sym kept) (All-filter has_rows IsRun c.args.runs.now.items c.requires)

pub returns-clause-len : goal.returns-clause-len
returns-clause-len c =
    let kept : c.retain.new.self.items ≡ filter has_rows c.args.runs.now.items =
    filter_same _ _ _ (λ x b f' k. search rules) _ _ c.retain.ensures.filtered in
    omega (arith, c.retain.new.self.ok.0, ap length kept, as_many c.args.runs.now.items)
