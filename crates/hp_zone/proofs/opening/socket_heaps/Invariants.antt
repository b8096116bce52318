use Rattle.std.proofs.Common.{◌≡◌, map, take, vec_len}
use Rattle.hp_zone.specs.Directory.{socket_heap}
use Rattle.hp_zone.proofs.opening.socket_heaps.Given as goal

abbrev pub invariant-loop-socket : goal.invariant-loop-socket
invariant-loop-socket l = record {
  items : l.heaps.items ≡ map socket_heap (take l.socket-index l.sockets);
  len : vec_len l.heaps ≡ l.socket-index;
}
