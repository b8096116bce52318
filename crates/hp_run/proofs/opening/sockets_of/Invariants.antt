use Rattle.std.proofs.Common.{◌≡◌, filter}
use Rattle.std.specs.List.{range_with_len}
use Rattle.hp_proc.specs.Heaps.{names_socket}
use Rattle.hp_run.proofs.opening.sockets_of.Given as goal

abbrev pub invariant-loop-socket : goal.invariant-loop-socket
invariant-loop-socket l = l.sockets.items ≡ filter (names_socket l.fn.pools) (range_with_len 0 l.socket)
