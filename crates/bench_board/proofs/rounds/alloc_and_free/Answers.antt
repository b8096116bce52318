use Rattle.std.proofs.Common.{refl}
use Rattle.bench_board.proofs.RoundLemmas.{none_made, two_made}
use Rattle.bench_board.proofs.rounds.alloc_and_free.Goals as goal

pub returns-then-is_err-clause-calls : goal.returns-then-is_err-clause-calls
returns-then-is_err-clause-calls c = none_made c.args.who c.args.made c.args.heap c.reserve.new.self c.reserve.ensures.same

pub returns-clause-calls : goal.returns-clause-calls
returns-clause-calls c =
    two_made c.args.who c.args.made c.args.heap c.reserve.new.self c.alloc-address.new.self c.free.new.self c.call.result c.call-2.result _ _ _ _ _ c.reserve.ensures.same c.call.ensures c.call-2.ensures
    c.alloc-address.ensures.step c.free.ensures.step refl
