-- One record more.
use Rattle.std.proofs.Common.{arith}
use Rattle.hp_maps.proofs.EventFacts.TellLemmas.{dropped_told, dropped_length, no_record}
use Rattle.hp_maps.proofs.telling.tell_dropped.Goals as goal

pub loop-at-preserved : goal.loop-at-preserved
loop-at-preserved g c =
    let more = dropped_length c.args.rows.now c.args.records.now c.loop-at.at no_record (omega arith) in
    record {
      told = dropped_told c.args.rows.now c.args.records.now c.loop-at.at no_record _ _ _ (omega arith) c.loop-at.invariant.told c.tell_freed.ensures.told;
      spare = omega (arith, c.loop-at.invariant.spare, c.tell_freed.ensures.spare, more);
    }
