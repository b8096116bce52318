-- What a record brings has room.
use Rattle.std.proofs.Common.{◌≡◌, ◌+◌, ◌-◌, ◌∙◌, List, ap, arith, count_by, drop, length, sym}
use Rattle.std.proofs.lemmas.List.{drop-drop, take_rest}
use Rattle.hp_log.specs.Rows.{rows_of}
use Rattle.hp_log.specs.declared.log_record.LogRecord.{LogRecord}
use Rattle.hp_maps.specs.Catching.{undropped}
use Rattle.hp_maps.specs.Unmapping.{has_drop, is_drop}
use Rattle.hp_maps.proofs.ListFacts.{uncounted}
use Rattle.hp_maps.proofs.NewRows.{added_fits}
use Rattle.hp_maps.proofs.CatchLemmas.{none_before, none_behind}
use Rattle.hp_maps.proofs.new_rows.push_new_rows.Goals as goal

pub push_of-from-requires-clause-room : goal.push_of-from-requires-clause-room
push_of-from-requires-clause-room c =
    let fits = added_fits c.args.n c.loop-at.at c.args.records.now _ c.in-Add-2.run' c.in-Add-2.heap c.loop-at.rows.items c.args.rows.now.items
    c.args.rows.now.memory (omega arith) c.in-Add-2.is c.loop-at.invariant.items c.requires.room in
    omega (arith, fits, c.loop-at.invariant.capacity)

pub push_indexed-requires-clause-room : goal.push_indexed-requires-clause-room
push_indexed-requires-clause-room c =
    let records = c.args.records.now in
    let at = c.loop-at.at in
    let run = c.in-Add.run' in
    let fits = added_fits c.args.n at records _ run c.in-Add.heap c.loop-at.rows.items c.args.rows.now.items c.args.rows.now.memory (omega arith)
    c.in-Add.is c.loop-at.invariant.items c.requires.room in
    let rest = take_rest records (at + 1) in
    omega (
      arith,
      fits,
      ap (λ (later : List LogRecord). length (undropped later (rows_of run (c.args.n + at + 1)))) rest,
      c.loop-at.invariant.capacity,
    )

pub push_of-from-requires-clause-drops : goal.push_of-from-requires-clause-drops
push_of-from-requires-clause-drops c none =
    let records = c.args.records.now in
    let at = c.loop-at.at in
    let counted : count_by is_drop (drop at records) ≡ 0 = omega (arith, c.loop-at.invariant.drops, none) in
    none_before (length records - (at + 1)) (drop (at + 1) records)
    (ap has_drop (sym (drop-drop 1 at records)) ∙ none_behind 1 (drop at records) (uncounted is_drop (drop at records) counted))
