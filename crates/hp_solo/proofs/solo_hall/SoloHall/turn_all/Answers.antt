-- All served, and then the clock jumped, or nothing is left.
use Rattle.std.proofs.Common.{sym, subst}
use Rattle.hp_solo.specs.Draining.{Drains, IsDrained}
use Rattle.hp_solo.proofs.SoloDrained.{drained, drains_turn, turns_then}
use Rattle.hp_solo.proofs.solo_hall.SoloHall.turn_all.Goals as goal

pub returns-clause-leaves : goal.returns-clause-leaves
returns-clause-leaves g c =
    turns_then c.args.self.now c.serve_all-moved.new.self c.jump_due.new.self c.serve_all-moved.ensures.leaves c.jump_due.ensures.leaves

pub returns-clause-drained : goal.returns-clause-drained
returns-clause-drained g c = λ nothing.
    subst IsDrained (sym (c.jump_due.ensures.still nothing))
    (drained c.serve_all-moved.new.self c.serve_all-moved.ensures.rests (c.jump_due.ensures.none nothing)
    (c.serve_all-moved.ensures.empty c.if-moved.false))

pub returns-then-moved-clause-drains : goal.returns-then-moved-clause-drains
returns-then-moved-clause-drains g c = λ going first drains.
    Drains.turns first c.args.self.now c.serve_all-moved.new.self drains (c.serve_all-moved.ensures.visits going)

pub returns-clause-drains : goal.returns-clause-drains
returns-clause-drains g c =
    drains_turn c.args.self.now c.serve_all-moved.new.self c.jump_due.new.self c.jump_due.result c.serve_all-moved.ensures.visits
    (c.serve_all-moved.ensures.quiet c.if-moved.false) c.jump_due.ensures.least c.jump_due.ensures.pauses c.jump_due.ensures.still
    c.jump_due.ensures.servers
