-- One row more.
use Rattle.std.proofs.Common.{◌+◌, ◌∙◌, List, Option, Some, ap, arith, sym, drop, get_or, length}
use Rattle.hp_base.specs.declared.row.Row.{Row}
use Rattle.hp_maps.specs.Events.{all_told}
use Rattle.hp_maps.specs.TellingInTurn.{events_from}
use Rattle.hp_maps.specs.declared.telling.Stretch.{Stretch}
use Rattle.hp_maps.proofs.MapLemmas.{no_row}
use Rattle.hp_maps.proofs.EventFacts.TellLemmas.{found_told, found_length, rows_next}
use Rattle.hp_maps.proofs.telling.tell_rows.Goals as goal

pub loop-row-preserved : goal.loop-row-preserved
loop-row-preserved g c =
    let rows = c.args.rows.now in
    let at = c.loop-row.row-index in
    let next = rows_next rows at no_row (omega arith) in
    let before = ap (λ (l : List Row). all_told (events_from c.args.kind c.loop-row.stretch l) (g.T.Tell.told c.loop-row.tell)) (sym next)
    ∙ c.loop-row.invariant.told in
    let after = c.tell_found-stretch.ensures.stretch in
    record {
      told = ap (λ (s : Option Stretch). all_told (events_from c.args.kind s (drop (at + 1) rows)) (g.T.Tell.told c.tell_found-stretch.new.tell)) after
          ∙ found_told c.args.kind c.loop-row.stretch (Some (get_or rows at no_row)) (drop (at + 1) rows) _ _ _ before c.tell_found-stretch.ensures.told;
      spare = omega (
        arith,
        c.loop-row.invariant.spare,
        c.tell_found-stretch.ensures.spare,
        ap (λ (l : List Row). length (events_from c.args.kind c.loop-row.stretch l)) next,
        found_length c.args.kind c.loop-row.stretch (Some (get_or rows at no_row)) (drop (at + 1) rows),
        ap (λ (s : Option Stretch). length (events_from c.args.kind s (drop (at + 1) rows))) after,
      );
      whole = c.tell_found-stretch.ensures.whole;
    }
