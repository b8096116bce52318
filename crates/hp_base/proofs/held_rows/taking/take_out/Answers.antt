-- Without the row, the others stay.
use Rattle.std.proofs.Common.{◌≡◌, ◌∙◌, ℕ, ap, get_or, sym, subst}
use Rattle.hp_base.specs.HeldRows.{StandsIn}
use Rattle.hp_base.specs.declared.held_rows.HeldRun.{HeldRun}
use Rattle.hp_base.proofs.HeldRunLemmas.{first_without, run_without}
use Rattle.hp_base.proofs.HeldRunWrites.{same_read}
use Rattle.hp_base.proofs.held_rows.taking.take_out.Goals as goal

pub returns-then-place-index-clause-rows : goal.returns-then-place-index-clause-rows
returns-then-place-index-clause-rows c =
    let runs = c.args.runs.now.items in
    let at = c.args.at in
    let run : HeldRun = c.index.result.now in
    let stands = subst (λ (r : HeldRun). StandsIn c.args.row.now r c.place_in-place.result) c.index.ensures c.place_in-place.ensures.place in
    let same = same_read runs at c.index-2.result.now run c.requires.there.within c.index-2.ensures c.index.ensures in
    c.cut_first.ensures.rows run
    ∙ first_without c.args.row.now runs at c.place_in-place.result run c.requires.there.within stands
    (c.if-place-index.true ∙ ap (λ (r : HeldRun). r.from) (same ∙ c.index.ensures)) c.requires.once

pub returns-else-place-index-clause-rows : goal.returns-else-place-index-clause-rows
returns-else-place-index-clause-rows c =
    let run : HeldRun = c.index.result.now in
    let stands = subst (λ (r : HeldRun). StandsIn c.args.row.now r c.place_in-place.result) c.index.ensures c.place_in-place.ensures.place in
    c.part.ensures.rows run
    ∙ run_without c.args.row.now c.args.runs.now.items c.args.at c.place_in-place.result run c.requires.there.within stands c.requires.once
