use Rattle.std.proofs.Common.{inl, arith}
use Rattle.hp_heap.proofs.ResizeFacts.InPlaceLemmas.{need_fits, grows_at, keeps_bytes}
use Rattle.hp_heap.proofs.resizing.resize_at.Goals as goal

pub bytes_needed-requires : goal.bytes_needed-requires
bytes_needed-requires c = need_fits c.args.headers.now c.args.key c.args.size c.get.result.now c.requires.of_heap c.get.ensures.stands c.requires.size

pub take_next-requires-clause-busy : goal.take_next-requires-clause-busy
take_next-requires-clause-busy c =
    grows_at c.args.key c.args.size c.args.headers.now.items c.get.result.now c.requires.of_heap.apart c.requires.busy c.get.ensures.stands (omega (arith, c.if-bytes_needed-span.true, c.bytes_needed.ensures))

pub returns-clause-resized : goal.returns-clause-resized
returns-clause-resized c = inl (keeps_bytes c.args.key c.args.size c.args.headers.now c.set_size.new.headers c.get.result.now c.requires.of_heap.apart c.get.ensures.stands
    (omega (arith, c.if-bytes_needed-span.false, c.bytes_needed.ensures)) c.set_size.ensures.items c.set_size.ensures.insertions)
