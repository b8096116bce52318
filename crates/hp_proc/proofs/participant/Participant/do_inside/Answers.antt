-- Who is not attached is answered so at once.
use Rattle.std.proofs.Common.{◌≡◌, ◌∙◌, ◌+◌, ◌≤◌, ℕ, refl, ap, sym, subst, arith}
use Rattle.std.specs.Prelude.{◌^◌}
use Rattle.hp_base.specs.declared.limits.TheConstants.{MAX_DEADLINE}
use Rattle.hp_hall.proofs.HallStates.{did_same}
use Rattle.hp_serve.specs.Clocks.{longest_allocation}
use Rattle.hp_serve.specs.Party.{Party}
use Rattle.hp_proc.specs.LineInHall.{did_in, moment}
use Rattle.hp_proc.specs.ParticipantView.{ParticipantView}
use Rattle.hp_proc.proofs.HandFacts.Holds.{again_line}
use Rattle.hp_proc.proofs.LineFacts.{detached_done}
use Rattle.hp_proc.proofs.participant.Participant.do_inside.Goals as goal

pub returns-then-not-self-clause-does : goal.returns-then-not-self-clause-does
returns-then-not-self-clause-does g c =
    let doer = c.args.self.now in
    let me = doer.party.me in
    let hall = g.H.Hall.state c.args.hall.now in
    detached_done hall.count (did_in me hall hall) (did_same me hall) c.args.line.now (moment me doer hall) c.requires.inside refl
    (ap (λ (doer : ParticipantView). doer.context.standing.attached) (sym c.self.view_is)
    ∙ ap (λ inside. inside.context.standing.attached) (sym c.self-inside.view_is) ∙ c.if-not-self.true)

pub returns-then-not-self-clause-ready : goal.returns-then-not-self-clause-ready
returns-then-not-self-clause-ready g c = again_line c.args.self.now c.requires.ready

-- what an allocation carries the clock by at most
alloc_within : (deadline old new : ℕ) → deadline ≤ MAX_DEADLINE → new ≤ old + longest_allocation deadline → new ≤ old + 2 ^ 40
alloc_within deadline old new few rises = omega (arith, few, rises)

-- its own deadline is one that a workload may have
few_of : (party mine : Party) (deadline : ℕ) → party ≡ mine → deadline ≡ party.deadline → deadline ≤ MAX_DEADLINE → mine.deadline ≤ MAX_DEADLINE
few_of party mine deadline its is few =
    subst (λ (deadline : ℕ). deadline ≤ MAX_DEADLINE) (is ∙ ap (λ (party : Party). party.deadline) its) few

pub do_attached-requires-clause-attached : goal.do_attached-requires-clause-attached
do_attached-requires-clause-attached g c =
    ap (λ (doer : ParticipantView). doer.context.standing.attached) (sym c.self.view_is)
    ∙ ap (λ inside. inside.context.standing.attached) (sym c.self-inside.view_is) ∙ c.if-not-self.false

pub returns-clause-clock : goal.returns-clause-clock
returns-clause-clock g c = λ one.
    alloc_within _ _ _
    (few_of _ _ _ c.server.ensures c.deadline-deadline.ensures.deadline c.deadline-deadline.ensures.few) (c.do_attached.ensures.clock one)
