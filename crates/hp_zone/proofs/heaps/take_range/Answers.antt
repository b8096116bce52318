use Rattle.hp_zone.specs.Directory.{is_range}
use Rattle.hp_zone.proofs.DirectoryLemmas.{not_missing_there}
use Rattle.hp_zone.proofs.heaps.take_range.Goals as goal

pub unreachable-requires : goal.unreachable-requires
unreachable-requires c =
    not_missing_there (is_range c.args.index c.args.addr) c.args.ranges.now.items c.requires (rw c.deref.ensures.value at c.in_default.ensures)
