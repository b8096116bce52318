-- Chunk after chunk is left, until the next one is of another heap, or none is noted.
use Rattle.std.proofs.Common.{◌≡◌, ◌∙◌, Some, ap, subst, sym}
use Rattle.hp_proc.proofs.LeavingOn.{leaving_fewer, leaving_more, leaving_none, may_leave, other_remains}
use Rattle.hp_proc.specs.OwnChunks.{AreOwnChunks, first_of}
use Rattle.hp_proc.specs.ParticipantView.{ParticipantView}
use Rattle.hp_proc.proofs.participant.Participant.leave_held.Goals as goal

pub leaving-init : goal.leaving-init
leaving-init g c = leaving_none c.args.self.now c.args.heap.now c.requires.first c.requires.noted c.requires.room

pub returns-then-chunk-index-clause-left : goal.returns-then-chunk-index-clause-left
returns-then-chunk-index-clause-left g c =
    let is : Some c.in-Some.chunk ≡ first_of c.leaving.self.context.standing.chunks =
    c.in-Some.ensures.first ∙ ap (λ (d : ParticipantView). first_of d.context.standing.chunks) c.self.view_is in
    (other_remains c.args.self.now c.leaving.self c.args.heap.now c.leaving.heap c.leaving.invariant c.in-Some.chunk is
    (λ same. c.if-chunk-index.true (same ∙ sym c.index.ensures))).left

pub returns-then-chunk-index-clause-others : goal.returns-then-chunk-index-clause-others
returns-then-chunk-index-clause-others g c =
    let is : Some c.in-Some.chunk ≡ first_of c.leaving.self.context.standing.chunks =
    c.in-Some.ensures.first ∙ ap (λ (d : ParticipantView). first_of d.context.standing.chunks) c.self.view_is in
    (other_remains c.args.self.now c.leaving.self c.args.heap.now c.leaving.heap c.leaving.invariant c.in-Some.chunk is
    (λ same. c.if-chunk-index.true (same ∙ sym c.index.ensures))).others

pub leave_in-requires-clause-external : goal.leave_in-requires-clause-external
leave_in-requires-clause-external g c =
    let is : Some c.in-Some.chunk ≡ first_of c.leaving.self.context.standing.chunks =
    c.in-Some.ensures.first ∙ ap (λ (d : ParticipantView). first_of d.context.standing.chunks) c.self.view_is in
    let own = subst (λ (d : ParticipantView). AreOwnChunks d.context.standing.chunks) c.self.view_is c.in-Some.ensures.sound in
    (may_leave c.args.self.now c.leaving.self c.args.heap.now c.leaving.heap c.leaving.invariant c.in-Some.chunk is
    (c.if-chunk-index.false ∙ c.index.ensures) own c.sound.ensures.tiled).external

pub leave_in-requires-clause-marked : goal.leave_in-requires-clause-marked
leave_in-requires-clause-marked g c =
    let is : Some c.in-Some.chunk ≡ first_of c.leaving.self.context.standing.chunks =
    c.in-Some.ensures.first ∙ ap (λ (d : ParticipantView). first_of d.context.standing.chunks) c.self.view_is in
    let own = subst (λ (d : ParticipantView). AreOwnChunks d.context.standing.chunks) c.self.view_is c.in-Some.ensures.sound in
    (may_leave c.args.self.now c.leaving.self c.args.heap.now c.leaving.heap c.leaving.invariant c.in-Some.chunk is
    (c.if-chunk-index.false ∙ c.index.ensures) own c.sound.ensures.tiled).its

pub leaving-smaller : goal.leaving-smaller
leaving-smaller g c =
    let is : Some c.in-Some.chunk ≡ first_of c.leaving.self.context.standing.chunks =
    c.in-Some.ensures.first ∙ ap (λ (d : ParticipantView). first_of d.context.standing.chunks) c.self.view_is in
    let own = subst (λ (d : ParticipantView). AreOwnChunks d.context.standing.chunks) c.self.view_is c.in-Some.ensures.sound in
    leaving_fewer c.args.self.now c.leaving.self c.args.heap.now c.leaving.heap c.leaving.invariant c.in-Some.chunk is
    (c.if-chunk-index.false ∙ c.index.ensures) own c.leave_in.new.self c.leave_in.new.heap c.leave_in.ensures.left c.sound.ensures.tiled

pub leaving-preserved : goal.leaving-preserved
leaving-preserved g c =
    let is : Some c.in-Some.chunk ≡ first_of c.leaving.self.context.standing.chunks =
    c.in-Some.ensures.first ∙ ap (λ (d : ParticipantView). first_of d.context.standing.chunks) c.self.view_is in
    let own = subst (λ (d : ParticipantView). AreOwnChunks d.context.standing.chunks) c.self.view_is c.in-Some.ensures.sound in
    leaving_more c.args.self.now c.leaving.self c.args.heap.now c.leaving.heap c.leaving.invariant c.in-Some.chunk is
    (c.if-chunk-index.false ∙ c.index.ensures) own c.leave_in.new.self c.leave_in.new.heap c.leave_in.ensures.left c.sound.ensures.tiled
