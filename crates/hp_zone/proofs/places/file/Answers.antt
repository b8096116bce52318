use Rattle.hp_zone.proofs.SortedLemmas.{known_at}
use Rattle.hp_zone.proofs.places.file.Goals as goal

pub unreachable-requires : goal.unreachable-requires
unreachable-requires c =
    known_at c.args.log.now c.args.by_name.now.items c.args.name.now c.in_default.field-0 (rw c.deref.ensures.value at c.in_default.ensures.found) c.requires.fresh

pub returns-clause-filed : goal.returns-clause-filed
returns-clause-filed c = record {
  at = c.in-Err.at;
  gap = rw c.deref.ensures.value at c.in-Err.ensures.absent;
  rest = c.put_index.ensures.items;
}
