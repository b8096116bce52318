-- The row is out, or it was not there.
use Rattle.std.proofs.Common.{List, ◌∙◌, ap, filter, length, not, subst}
use Rattle.hp_base.specs.HeldRows.{IsNotBetween, StandsAt}
use Rattle.hp_base.specs.Mapping.{is_row}
use Rattle.hp_base.specs.declared.held_rows.HeldRun.{HeldRun}
use Rattle.hp_base.specs.declared.row.Row.{Row}
use Rattle.hp_base.proofs.HeldRunWrites.{nothing_goes}
use Rattle.hp_base.proofs.held_rows.taking.take_row.Goals as goal

pub take_out-requires-clause-there : goal.take_out-requires-clause-there
take_out-requires-clause-there c =
    subst (λ (runs : List HeldRun). StandsAt c.args.row.now runs c.in-Some.at) c.as_slice.ensures.value c.in-Some.ensures.some

pub returns-in-Some-clause-rows : goal.returns-in-Some-clause-rows
returns-in-Some-clause-rows c =
    c.take_out.ensures.rows ∙ ap (λ (l : List Row). filter (λ other. not (is_row c.args.row.now other)) l) c.make_room.ensures.rows

pub returns-in-None-clause-rows : goal.returns-in-None-clause-rows
returns-in-None-clause-rows c =
    nothing_goes c.args.row.now c.make_room.new.runs.items
    (subst (λ (runs : List HeldRun). IsNotBetween c.args.row.now runs 0 (length runs)) c.as_slice.ensures.value c.in-None.ensures.none)
    ∙ ap (λ (l : List Row). filter (λ other. not (is_row c.args.row.now other)) l) c.make_room.ensures.rows
