-- A heap is held, all chunks of it are left, and it is given back.
use Rattle.std.proofs.Common.{ap, arith, inl, length, map, subst, sym, ◌∙◌, ◌∷◌, [], ℕ}
use Rattle.hp_hall.specs.Naming.{marked_by}
use Rattle.hp_hall.specs.declared.slot.TheConstants.{NAMES_SLOT}
use Rattle.hp_proc.proofs.HandFacts.BesideNames.{but_home, called_home}
use Rattle.hp_proc.proofs.HandFacts.HandMarks.{holds_marked}
use Rattle.hp_proc.proofs.HandFacts.Holds.{does_next}
use Rattle.hp_proc.proofs.HandFacts.LeftBack.{back_left, beside_left, does_left, mine, standing_left, stood, with_left}
use Rattle.hp_proc.proofs.LeftHeld.{HasLeft, all_left}
use Rattle.hp_proc.specs.Contexts.{Context}
use Rattle.hp_proc.specs.ExternalLines.{leaving_all}
use Rattle.hp_proc.specs.LineInHall.{HaltsHere, HasRoom, HoldsIn, moment, moment_with}
use Rattle.hp_proc.specs.OwnChunks.{AreMarkedAs, chunks_of, own_chunk}
use Rattle.hp_proc.specs.ParticipantView.{ParticipantView}
use Rattle.hp_serve.proofs.AskingFacts.AskedAlong.{on_err_any}
use Rattle.hp_proc.proofs.participant.Participant.leave_heap.Goals as goal

pub hold-requires-clause-ready : goal.hold-requires-clause-ready
hold-requires-clause-ready g c = but_home c.requires.ready

pub hold-requires-clause-beside : goal.hold-requires-clause-beside
hold-requires-clause-beside g c = inl (c.requires.ready.idle.free NAMES_SLOT)

pub leave_held-requires-clause-first : goal.leave_held-requires-clause-first
leave_held-requires-clause-first g c = stood c.args.self.now c.hold.new.self c.in_ok-heap.heap c.hold.ensures.context c.in_ok-heap.ensures.hand.index c.requires.first

pub leave_held-requires-clause-noted : goal.leave_held-requires-clause-noted
leave_held-requires-clause-noted g c =
    let mid = c.hold.new.self in
    let heap = c.in_ok-heap.heap in
    let at = heap.plain.index in
    let holds = c.in_ok-heap.ensures.hand.holds in
    subst (λ (who : ℕ). AreMarkedAs at (marked_by who heap.plain) mid.context.standing.chunks) (sym c.hold.ensures.same.me)
    (ap (map (own_chunk at)) holds.marks ∙ holds.chunks at)

pub leave_held-requires-clause-room : goal.leave_held-requires-clause-room
leave_held-requires-clause-room g c =
    let heap = c.in_ok-heap.heap in
    let many =
    c.chunks_in-calls.ensures
    ∙ (ap (λ (doer : ParticipantView). length (chunks_of c.args.index doer.context.standing.chunks)) c.self.view_is
    ∙ (ap (λ (at : ℕ). length (chunks_of at c.args.self.now.context.standing.chunks)) (sym c.in_ok-heap.ensures.hand.index)
    ∙ ap (λ (context : Context). length (chunks_of heap.plain.index context.standing.chunks)) (sym c.hold.ensures.context))) in
    subst (λ (calls : ℕ). HasRoom calls heap c.hold.new.self) many c.in_ok-heap.ensures.room

pub put-requires : goal.put-requires
put-requires g c =
    let mid = c.hold.new.self in
    let heap = c.in_ok-heap.heap in
    let state = g.H.Hall.state c.hold.new.hall in
    let hold = c.hold.ensures in
    let hand = c.in_ok-heap.ensures.hand in
    let chunks = chunks_of heap.plain.index mid.context.standing.chunks in
    let left : HasLeft chunks mid c.leave_held.new.self heap c.leave_held.new.heap state =
    all_left chunks mid c.leave_held.new.self heap c.leave_held.new.heap c.leave_held.ensures.left state
    (holds_marked mid.party.me mid heap (subst (λ (who : ℕ). HoldsIn who mid heap state) (sym hold.same.me) hand.holds)) in
    record {
      serves = left.holds.may.serves;
      in_hand = left.holds.in_hand;
      settled = left.holds.settled;
      taken_with = with_left hold.same hold.context c.requires.few hold.slots hand chunks left c.requires.ready;
      beside = beside_left hold.same hold.context c.requires.few hold.slots hand chunks left c.requires.ready;
    }

pub returns : goal.returns
returns g c =
    let doer = c.args.self.now in
    let me = doer.party.me in
    let mid = c.hold.new.self in
    let after = c.leave_held.new.self in
    let heap = c.in_ok-heap.heap in
    let next = c.leave_held.new.heap in
    let first = g.H.Hall.state c.args.hall.now in
    let second = g.H.Hall.state c.hold.new.hall in
    let last = g.H.Hall.state c.put.new.hall in
    let hold = c.hold.ensures in
    let put = c.put.ensures in
    let took = c.in_ok-heap.ensures in
    let hand = took.hand in
    let chunks = chunks_of heap.plain.index mid.context.standing.chunks in
    let left : HasLeft chunks mid after heap next second =
    all_left chunks mid after heap next c.leave_held.ensures.left second
    (holds_marked mid.party.me mid heap (subst (λ (who : ℕ). HoldsIn who mid heap second) (sym hold.same.me) hand.holds)) in
    let count = (g.met.H.Hall.goes_on_later _ _ hold.goes_on).count in
    record {
      does =
          does_next me (moment me doer first) (λ who. moment_with next who after second) (λ who. moment who after last)
          (mine hold.same hold.context c.requires.few hold.slots hand chunks left c.requires.ready) count
          (does_next me (moment me doer first) (λ who. moment_with heap who mid second) (λ who. moment_with next who after second) hold.same.me count
          (took.did (leaving_all doer.context.standing.chunks))
          (does_left doer mid after heap next hold.context hand.index c.requires.first left c.leave_held.ensures.others))
          (put.does (leaving_all after.context.standing.chunks));
      left = standing_left doer mid after heap next hold.context hand.index c.requires.first left c.leave_held.ensures.others;
      halts = tt;
      ready = back_left hold.same hold.context c.requires.few hold.slots hand chunks left c.requires.ready put.marks put.tied put.ready put.table
          put.agreed put.free put.slots put.others;
      clock = λ one. omega (arith, hold.clock one, put.others.clock);
      goes_on = g.met.H.Hall.goes_on_then _ _ _ hold.goes_on put.goes_on;
    }

pub returns-in_err-heap-clause-ready : goal.returns-in_err-heap-clause-ready
returns-in_err-heap-clause-ready g c = (called_home c.requires.ready c.in_err-heap.ensures.err).again

pub returns-in_err-heap-clause-halts : goal.returns-in_err-heap-clause-halts
returns-in_err-heap-clause-halts g c =
    let doer = c.args.self.now in
    let halts : HaltsHere (c.args.index ∷ []) doer.party.me doer c.hold.new.self (g.H.Hall.state c.args.hall.now) (g.H.Hall.state c.hold.new.hall)
    (leaving_all doer.context.standing.chunks) = c.in_err-heap.ensures.halts (leaving_all doer.context.standing.chunks) in
    on_err_any _ _ halts
