-- Heap after heap is taken and all chunks of it are left, until none is noted.
use Rattle.std.proofs.Common.{◌≡◌, ◌∙◌, ℕ, [], None, Some, ap, arith, refl, subst, sym}
use Rattle.hp_proc.proofs.LeavingAll.{few_next, fewer_next, first_next, leaving_ends, leaving_next, leaving_nothing, leaving_stops, must_ready, none_noted, standing_ends}
use Rattle.hp_proc.specs.LineInHall.{IsReadyIn}
use Rattle.hp_proc.specs.OwnChunks.{AreOwnChunks, first_of}
use Rattle.hp_proc.specs.ParticipantView.{ParticipantView}
use Rattle.hp_serve.proofs.AskingFacts.AskedAlong.{on_err_any}
use Rattle.hp_serve.proofs.Carrying.{same_party, same_then}
use Rattle.hp_proc.proofs.participant.Participant.leave_all.Goals as goal

pub leaving-init : goal.leaving-init
leaving-init g c =
    let doer = c.args.self.now in
    record {
      leaving = leaving_nothing doer (g.H.Hall.state c.args.hall.now);
      ready = λ ready. record { same = same_party doer.party; ready = ready };
      alone = λ none. (refl, refl);
      clock = λ one. omega arith;
      goes_on = g.met.H.Hall.goes_on_same _;
    }

pub leave_heap-requires : goal.leave_heap-requires
leave_heap-requires g c =
    let doer = c.args.self.now in
    let me = doer.party.me in
    let now = c.leaving.self in
    let chunk = c.in-Some.chunk in
    let old = g.H.Hall.state c.args.hall.now in
    let mid = g.H.Hall.state c.leaving.hall in
    let was = c.leaving.invariant in
    let is : Some chunk ≡ first_of now.context.standing.chunks =
    c.in-Some.ensures.first ∙ ap (λ (d : ParticipantView). first_of d.context.standing.chunks) c.self.view_is in
    let own = subst (λ (d : ParticipantView). AreOwnChunks d.context.standing.chunks) c.self.view_is c.in-Some.ensures.sound in
    let before =
    was.ready (must_ready doer now chunk old is (λ (none : doer.context.standing.chunks ≡ []). (was.alone none).0) c.requires.ready) in
    record {
      few = few_next me doer now old mid was.leaving chunk is own;
      first = first_next me doer now old mid was.leaving chunk is own;
      ready = subst (λ (who : ℕ). IsReadyIn who now mid) (sym before.same.me) before.ready;
    }

pub leaving-smaller : goal.leaving-smaller
leaving-smaller g c =
    let doer = c.args.self.now in
    let me = doer.party.me in
    let now = c.leaving.self in
    let chunk = c.in-Some.chunk in
    let old = g.H.Hall.state c.args.hall.now in
    let mid = g.H.Hall.state c.leaving.hall in
    let was = c.leaving.invariant in
    let is : Some chunk ≡ first_of now.context.standing.chunks =
    c.in-Some.ensures.first ∙ ap (λ (d : ParticipantView). first_of d.context.standing.chunks) c.self.view_is in
    let own = subst (λ (d : ParticipantView). AreOwnChunks d.context.standing.chunks) c.self.view_is c.in-Some.ensures.sound in
    let before =
    was.ready (must_ready doer now chunk old is (λ (none : doer.context.standing.chunks ≡ []). (was.alone none).0) c.requires.ready) in
    let new = c.leave_heap.new.self in
    let last = g.H.Hall.state c.leave_heap.new.hall in
    let count = (g.met.H.Hall.goes_on_later _ _ was.goes_on).count in
    fewer_next me doer now old mid was.leaving chunk is own new last before.same.me count c.in_ok-leave_heap.ensures.does
    c.in_ok-leave_heap.ensures.left

pub leaving-preserved : goal.leaving-preserved
leaving-preserved g c =
    let doer = c.args.self.now in
    let me = doer.party.me in
    let now = c.leaving.self in
    let chunk = c.in-Some.chunk in
    let old = g.H.Hall.state c.args.hall.now in
    let mid = g.H.Hall.state c.leaving.hall in
    let was = c.leaving.invariant in
    let is : Some chunk ≡ first_of now.context.standing.chunks =
    c.in-Some.ensures.first ∙ ap (λ (d : ParticipantView). first_of d.context.standing.chunks) c.self.view_is in
    let own = subst (λ (d : ParticipantView). AreOwnChunks d.context.standing.chunks) c.self.view_is c.in-Some.ensures.sound in
    let before =
    was.ready (must_ready doer now chunk old is (λ (none : doer.context.standing.chunks ≡ []). (was.alone none).0) c.requires.ready) in
    let new = c.leave_heap.new.self in
    let last = g.H.Hall.state c.leave_heap.new.hall in
    let count = (g.met.H.Hall.goes_on_later _ _ was.goes_on).count in
    record {
      leaving = leaving_next me doer now old mid was.leaving chunk is own new last before.same.me count c.in_ok-leave_heap.ensures.does
          c.in_ok-leave_heap.ensures.left;
      ready = λ ready. record {
        same = same_then doer.party now.party new.party before.same c.leave_heap.ensures.ready.same;
        ready = subst (λ (who : ℕ). IsReadyIn who new last) before.same.me c.leave_heap.ensures.ready.ready;
      };
      alone = λ none. absurd (none_noted doer now chunk is (λ (none : doer.context.standing.chunks ≡ []). (was.alone none).0) none);
      clock = λ one. omega (arith, was.clock one, c.leave_heap.ensures.clock one);
      goes_on = g.met.H.Hall.goes_on_then _ _ _ was.goes_on c.leave_heap.ensures.goes_on;
    }

-- IT STOPS OVER A HEAP

pub returns-in_err-leave_heap-clause-halts : goal.returns-in_err-leave_heap-clause-halts
returns-in_err-leave_heap-clause-halts g c =
    let doer = c.args.self.now in
    let me = doer.party.me in
    let now = c.leaving.self in
    let chunk = c.in-Some.chunk in
    let old = g.H.Hall.state c.args.hall.now in
    let mid = g.H.Hall.state c.leaving.hall in
    let was = c.leaving.invariant in
    let is : Some chunk ≡ first_of now.context.standing.chunks =
    c.in-Some.ensures.first ∙ ap (λ (d : ParticipantView). first_of d.context.standing.chunks) c.self.view_is in
    let own = subst (λ (d : ParticipantView). AreOwnChunks d.context.standing.chunks) c.self.view_is c.in-Some.ensures.sound in
    let before =
    was.ready (must_ready doer now chunk old is (λ (none : doer.context.standing.chunks ≡ []). (was.alone none).0) c.requires.ready) in
    let new = c.leave_heap.new.self in
    let last = g.H.Hall.state c.leave_heap.new.hall in
    let count = (g.met.H.Hall.goes_on_later _ _ was.goes_on).count in
    on_err_any _ _
    (leaving_stops me doer now old mid was.leaving chunk is own new last before.same.me count c.in_err-leave_heap.ensures.halts)

pub returns-in_err-leave_heap-clause-ready : goal.returns-in_err-leave_heap-clause-ready
returns-in_err-leave_heap-clause-ready g c = λ ready.
    let doer = c.args.self.now in
    let me = doer.party.me in
    let now = c.leaving.self in
    let chunk = c.in-Some.chunk in
    let old = g.H.Hall.state c.args.hall.now in
    let mid = g.H.Hall.state c.leaving.hall in
    let was = c.leaving.invariant in
    let new = c.leave_heap.new.self in
    let last = g.H.Hall.state c.leave_heap.new.hall in
    let before = was.ready ready in
    record {
      same = same_then doer.party now.party new.party before.same c.leave_heap.ensures.ready.same;
      ready = subst (λ (who : ℕ). IsReadyIn who new last) before.same.me c.leave_heap.ensures.ready.ready;
    }

pub returns-in_err-leave_heap-clause-alone : goal.returns-in_err-leave_heap-clause-alone
returns-in_err-leave_heap-clause-alone g c = λ none.
    let doer = c.args.self.now in
    let me = doer.party.me in
    let now = c.leaving.self in
    let chunk = c.in-Some.chunk in
    let old = g.H.Hall.state c.args.hall.now in
    let mid = g.H.Hall.state c.leaving.hall in
    let was = c.leaving.invariant in
    let is : Some chunk ≡ first_of now.context.standing.chunks =
    c.in-Some.ensures.first ∙ ap (λ (d : ParticipantView). first_of d.context.standing.chunks) c.self.view_is in
    let own = subst (λ (d : ParticipantView). AreOwnChunks d.context.standing.chunks) c.self.view_is c.in-Some.ensures.sound in
    absurd (none_noted doer now chunk is (λ (none : doer.context.standing.chunks ≡ []). (was.alone none).0) none)

pub returns-in_err-leave_heap-clause-clock : goal.returns-in_err-leave_heap-clause-clock
returns-in_err-leave_heap-clause-clock g c = λ one. omega (arith, c.leaving.invariant.clock one, c.leave_heap.ensures.clock one)

pub returns-in_err-leave_heap-clause-goes_on : goal.returns-in_err-leave_heap-clause-goes_on
returns-in_err-leave_heap-clause-goes_on g c = g.met.H.Hall.goes_on_then _ _ _ c.leaving.invariant.goes_on c.leave_heap.ensures.goes_on

-- NONE IS LEFT

pub returns-clause-does : goal.returns-clause-does
returns-clause-does g c =
    let now = c.leaving.self in
    let is : None ≡ first_of now.context.standing.chunks =
    c.in_default.ensures.first ∙ ap (λ (d : ParticipantView). first_of d.context.standing.chunks) c.self.view_is in
    leaving_ends c.args.self.now.party.me c.args.self.now now (g.H.Hall.state c.args.hall.now) (g.H.Hall.state c.leaving.hall)
    c.leaving.invariant.leaving is

pub returns-clause-left : goal.returns-clause-left
returns-clause-left g c =
    let now = c.leaving.self in
    let is : None ≡ first_of now.context.standing.chunks =
    c.in_default.ensures.first ∙ ap (λ (d : ParticipantView). first_of d.context.standing.chunks) c.self.view_is in
    standing_ends c.args.self.now.party.me c.args.self.now now (g.H.Hall.state c.args.hall.now) (g.H.Hall.state c.leaving.hall)
    c.leaving.invariant.leaving is
