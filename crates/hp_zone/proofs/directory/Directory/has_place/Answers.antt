use Rattle.hp_zone.proofs.DirectoryLemmas.{place_iff}
use Rattle.hp_zone.proofs.directory.Directory.has_place.Goals as goal

pub returns-then-parts : goal.returns-then-parts
returns-then-parts c =
    let kept = c.self.inside.parts.value in
    rw (c.is_some.ensures, ← c.self.view_is)
    (place_iff (record { heaps = kept.heaps.items; ranges = kept.ranges.items; next = kept.next }) (rw c.deref-parts.ensures at c.if-parts.true) c.lowest_unnamed.result (rw (c.deref.ensures.value, c.deref-parts.ensures) at c.lowest_unnamed.ensures))
