-- Record by record, and at the end none is left.
use Rattle.std.proofs.Common.{◌+◌, ◌∙◌, List, ap, arith, drop, not, subst, sym}
use Rattle.std.proofs.lemmas.List.{drop_all}
use Rattle.hp_base.specs.Mapping.{owned}
use Rattle.hp_base.specs.declared.row.Row.{Row}
use Rattle.hp_log.specs.declared.log_record.LogRecord.{LogRecord}
use Rattle.hp_maps.specs.Catching.{kept}
use Rattle.hp_maps.specs.RowsView.{HaveOwnSlots, RowsView, goes_with}
use Rattle.hp_maps.proofs.SlotLemmas.{kept_all, kept_by_add, kept_by_drop, own_slots_left}
use Rattle.hp_maps.proofs.row_list.dropping.drop_rows.Goals.{in-Add, in-Drop}
use Rattle.hp_maps.proofs.row_list.dropping.drop_rows.Goals as goal

pub loop-entry-preserved : goal.loop-entry-preserved
loop-entry-preserved g c =
    let records = c.args.records.now in
    let at = c.loop-entry.entry-index in
    let rows = c.loop-entry.rows in
    let keeps = c.loop-entry.invariant in
    let rest = λ (r : RowsView). kept (drop (at + 1) records) r.items in
    elim c.match-entry.branch [
      | in-Add w ↦ record {
        rows = ap rest w.rows-is ∙ (sym (kept_by_add records at _ w.in-Add.run' w.in-Add.heap rows.items (omega arith) w.in-Add.is) ∙ keeps.rows);
        once = subst (λ (r : RowsView). HaveOwnSlots r.items) (sym w.rows-is) keeps.once;
        memory = ap (λ (r : RowsView). r.memory) w.rows-is ∙ keeps.memory;
        held = ap g.M.Mapper.held w.mapper-is ∙ (keeps.held ∙ ap (λ (r : RowsView). owned r.items) (sym w.rows-is));
        capacity = ap g.M.Mapper.capacity w.mapper-is ∙ keeps.capacity;
        answers = ap g.M.Mapper.answers w.mapper-is ∙ keeps.answers;
        faults = ap g.M.Mapper.faults w.mapper-is ∙ keeps.faults;
        may_fail = ap g.M.Mapper.may_fail w.mapper-is ∙ keeps.may_fail;
      }
      | in-Drop w ↦
          let run = w.in-Drop.run' in
          record {
            rows = ap rest w.rows-is
                ∙ (ap (λ (l : List Row). kept (drop (at + 1) records) l) w.drop_run.ensures.rows
                ∙ (sym (kept_by_drop records at _ run rows.items (omega arith) w.in-Drop.is) ∙ keeps.rows));
            once = subst (λ (r : RowsView). HaveOwnSlots r.items) (sym w.rows-is)
                (subst HaveOwnSlots (sym w.drop_run.ensures.rows) (own_slots_left (λ row. not (goes_with run row)) rows.items keeps.once));
            memory = ap (λ (r : RowsView). r.memory) w.rows-is ∙ (w.drop_run.ensures.memory ∙ keeps.memory);
            held = ap g.M.Mapper.held w.mapper-is ∙ (w.drop_run.ensures.held ∙ ap (λ (r : RowsView). owned r.items) (sym w.rows-is));
            capacity = ap g.M.Mapper.capacity w.mapper-is ∙ (w.drop_run.ensures.capacity ∙ keeps.capacity);
            answers = ap g.M.Mapper.answers w.mapper-is ∙ (w.drop_run.ensures.answers ∙ keeps.answers);
            faults = ap g.M.Mapper.faults w.mapper-is ∙ (w.drop_run.ensures.faults ∙ keeps.faults);
            may_fail = ap g.M.Mapper.may_fail w.mapper-is ∙ (w.drop_run.ensures.may_fail ∙ keeps.may_fail);
          }
    ]

pub returns-clause-rows : goal.returns-clause-rows
returns-clause-rows g c =
    sym (ap (λ (l : List LogRecord). kept l c.loop-entry.rows.items) (drop_all c.loop-entry.entry-index c.args.records.now (omega arith))
    ∙ kept_all c.loop-entry.rows.items)
    ∙ c.loop-entry.invariant.rows
