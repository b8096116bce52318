use Rattle.std.proofs.Common.{◌≡◌, ◌∙◌, ◌≤◌, length, map, take, refl}
use Rattle.std.proofs.lemmas.List.{length-map, take_all}
use Rattle.hp_base.specs.declared.limits.TheConstants.{MAX_HEAPS}
use Rattle.hp_zone.specs.Directory.{socket_heap}
use Rattle.hp_zone.proofs.opening.opening_heaps.Goals as goal

pub returns : goal.returns
returns c =
    let sockets = c.args.sockets.now in
    let short : length (map socket_heap sockets) ≤ MAX_HEAPS = rw (length-map sockets socket_heap) c.requires in
    let whole : take MAX_HEAPS (map socket_heap sockets) ≡ map socket_heap sockets = take_all MAX_HEAPS (map socket_heap sockets) short in
    c.in_ok-resize.ensures.items ∙ rw (c.in_ok-heaps.ensures.items, c.in_ok-heaps.ensures.len, whole) refl
