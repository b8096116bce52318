use Rattle.std.proofs.Common.{◌∙◌}
use Rattle.hp_proc.proofs.SocketHeapLemmas.{socket_past, socket_there}
use Rattle.hp_proc.proofs.line_context.LineContext.socket_of.Goals as goal

pub returns-in_err-heap : goal.returns-in_err-heap
returns-in_err-heap c =
    c.from_residual.ensures ∙ socket_past c.args.self.now.pools c.heaps.result.now c.args.heap c.heaps.ensures c.in_err-heap.ensures.lookup.3

pub returns : goal.returns
returns c =
    socket_there c.args.self.now.pools c.heaps.result.now c.args.heap c.in_ok-heap.heap.now c.heaps.ensures
    c.in_ok-heap.ensures.lookup.3.0 c.in_ok-heap.ensures.lookup.1
