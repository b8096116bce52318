-- Those that records drop are unmapped, and the others stay.
use Rattle.std.proofs.Common.{◌<◌, ◌+◌, ◌∙◌, ℕ, List, ap, arith, drop, filter, get_or, length, set, sym, take}
use Rattle.std.proofs.lemmas.List.{length-set}
use Rattle.hp_base.specs.declared.row.Row.{Row}
use Rattle.hp_maps.specs.RowsView.{goes_with}
use Rattle.hp_base.specs.Mapping.{without_rows}
use Rattle.hp_maps.proofs.DropLemmas.{all_kept_rows, gone_held, gone_kept, rest_is, stay_held, stay_kept, stay_rest}
use Rattle.hp_maps.proofs.HeldLemmas.{unmapped_passing}
use Rattle.hp_maps.proofs.MapLemmas.{no_row}
use Rattle.hp_maps.proofs.row_list.dropping.unmap_going.Goals.{then-goes_with, else-goes_with}
use Rattle.hp_maps.proofs.row_list.dropping.unmap_going.Goals as goal

pub returns-clause-held : goal.returns-clause-held
returns-clause-held g c =
    unmapped_passing (goes_with c.args.run.now) c.args.rows.now c.loop-at.at _ _ (omega arith) c.requires c.loop-at.invariant.held

pub returns-clause-rows : goal.returns-clause-rows
returns-clause-rows g c =
    all_kept_rows (goes_with c.args.run.now) c.args.rows.now _ c.loop-at.at _ (omega arith) c.loop-at.invariant.front

pub loop-at-preserved : goal.loop-at-preserved
loop-at-preserved g c =
    let goes_on = goes_with c.args.run.now in
    let first = c.args.rows.now in
    let now = c.loop-at.rows in
    let at = c.loop-at.at in
    let stay = c.loop-at.stay in
    let keeps = c.loop-at.invariant in
    let within : at < length first = omega (arith, keeps.long, c.loop-at-test.true) in
    elim c.if-goes_with.branch [
      | then-goes_with w ↦
          let passes = sym c.goes_with.ensures ∙ w.if-goes_with.true in
          record {
            before = omega (arith, keeps.before, w.stay-is);
            long = ap length w.rows-is ∙ keeps.long;
            front =
                ap (λ (rows : List Row). take c.if-goes_with.stay rows) w.rows-is
                ∙ (ap (λ (k : ℕ). take k now) w.stay-is ∙ (keeps.front ∙ sym (gone_kept goes_on first now at no_row within keeps.rest passes)));
            rest = ap (λ (rows : List Row). drop (at + 1) rows) w.rows-is ∙ rest_is goes_on first now at no_row within keeps.rest;
            held =
                ap (λ held. without_rows (filter goes_on (drop (at + 1) first)) held) (ap g.M.Mapper.held w.mapper-is ∙ w.unmap.ensures.held)
                ∙ (gone_held goes_on first now at no_row within keeps.rest (g.M.Mapper.held c.loop-at.mapper) passes ∙ keeps.held);
            capacity = ap g.M.Mapper.capacity w.mapper-is ∙ (w.unmap.ensures.capacity ∙ keeps.capacity);
            answers = ap g.M.Mapper.answers w.mapper-is ∙ (w.unmap.ensures.answers ∙ keeps.answers);
            faults = ap g.M.Mapper.faults w.mapper-is ∙ (w.unmap.ensures.faults ∙ keeps.faults);
            may_fail = ap g.M.Mapper.may_fail w.mapper-is ∙ (w.unmap.ensures.may_fail ∙ keeps.may_fail);
          }
      | else-goes_with w ↦
          let fails = sym c.goes_with.ensures ∙ w.if-goes_with.false in
          record {
            before = omega (arith, keeps.before, w.stay-is);
            long = ap length w.rows-is ∙ (length-set now stay (get_or now at no_row) ∙ keeps.long);
            front =
                ap (λ (rows : List Row). take c.if-goes_with.stay rows) w.rows-is
                ∙ (ap (λ (k : ℕ). take k (set now stay (get_or now at no_row))) w.stay-is
                ∙ stay_kept goes_on first now at no_row within keeps.rest stay keeps.before keeps.long keeps.front fails);
            rest =
                ap (λ (rows : List Row). drop (at + 1) rows) w.rows-is
                ∙ stay_rest goes_on first now at no_row within keeps.rest stay keeps.before keeps.long;
            held =
                ap (λ held. without_rows (filter goes_on (drop (at + 1) first)) held) (ap g.M.Mapper.held w.mapper-is)
                ∙ (stay_held goes_on first now at no_row within keeps.rest (g.M.Mapper.held c.loop-at.mapper) fails ∙ keeps.held);
            capacity = ap g.M.Mapper.capacity w.mapper-is ∙ keeps.capacity;
            answers = ap g.M.Mapper.answers w.mapper-is ∙ keeps.answers;
            faults = ap g.M.Mapper.faults w.mapper-is ∙ keeps.faults;
            may_fail = ap g.M.Mapper.may_fail w.mapper-is ∙ keeps.may_fail;
          }
    ]
