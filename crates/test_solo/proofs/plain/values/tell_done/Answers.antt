-- All that its lines did is home.
use Rattle.std.proofs.Common.{arith}
use Rattle.test_solo.proofs.Homes.{may_store}
use Rattle.test_solo.proofs.plain.values.tell_done.Goals as goal

pub store_done-requires-clause-may : goal.store_done-requires-clause-may
store_done-requires-clause-may c =
    let loaded = c.load_done.ensures.loaded in
    may_store c.args.me c.load_done.new.self c.sound.ensures (λ number below. loaded.stays.slots.home number (c.requires.home number below))
    c.args.lines (omega (arith, c.if-load_done-lines.false, loaded.noted))
