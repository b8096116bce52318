-- One that is attached already does nothing; else it has caught up, or tried to, and notes what that left.
use Rattle.std.proofs.Common.{◌∙◌, ◌||◌, Bool, [], ◌∷◌, None, ap, inr, map, refl, sym, subst}
use Rattle.hp_hall.specs.Holding.{HeapPart}
use Rattle.hp_proc.specs.LineTrees.{doing_of}
use Rattle.hp_proc.specs.Progress.{MayDo}
use Rattle.hp_serve.proofs.AskingFacts.AskedAlong.{on_err_any}
use Rattle.hp_serve.proofs.Carrying.{same_party}
use Rattle.hp_serve.specs.InHall.{IsTiedIn}
use Rattle.hp_serve.specs.Serving.{gives_segments, takes_segments}
use Rattle.hp_base.specs.Mapping.{is_done}
use Rattle.hp_script.specs.declared.answer.Answer.TheVariants as answer
use Rattle.hp_proc.specs.Contexts.{Context}
use Rattle.hp_proc.specs.Courses.{standing_tried}
use Rattle.hp_proc.specs.ParticipantView.{ParticipantView}
use Rattle.hp_proc.proofs.AttachedLines.{attached_same, joined_by, joined_still, line_already, line_tried, refused_failed, tried_chunks, tried_joined}
use Rattle.hp_proc.proofs.ChangedLines.{known_none, ready_noted}
use Rattle.hp_proc.proofs.HandFacts.HandGiven.{ready_still}
use Rattle.hp_hall.proofs.HallStates.{did_same}
use Rattle.hp_script.specs.declared.line.Act.TheVariants as act
use Rattle.hp_proc.specs.Doing.{Doing}
use Rattle.hp_proc.specs.Halting.{ActsOn}
use Rattle.hp_proc.specs.Lines.{Facts}
use Rattle.hp_proc.specs.OwnChunks.{own_chunk}
use Rattle.hp_proc.proofs.Halted.{halts_by, line_halted, nothing_halts}
use Rattle.hp_proc.proofs.LineFacts.{facts_for}
use Rattle.hp_proc.proofs.HandFacts.OnceHeld.{once_none}
use Rattle.hp_proc.specs.LineInHall.{ChangesRoster, HaltsLineHere, did_in, moment}
use Rattle.hp_proc.proofs.HandFacts.Holds.{changes_noted, changes_same}
use Rattle.hp_proc.proofs.participant.Participant.do_attach.Goals as goal

pub returns-then-self-clause-does : goal.returns-then-self-clause-does
returns-then-self-clause-does g c =
    let doer = c.args.self.now in
    let me = doer.party.me in
    let hall = g.H.Hall.state c.args.hall.now in
    line_already hall.count (did_in me hall hall) c.args.line.now doer (hall.part me) (hall.seen me)
    (hall.heard me) c.requires.act
    (ap (λ (doer : ParticipantView). doer.context.standing.attached) (sym c.self.view_is)
    ∙ ap (λ inside. inside.context.standing.attached) (sym c.self-inside.view_is) ∙ c.if-self.true) (did_same me hall)

-- who is not attached is out, and has no table
pub attach-requires-clause-out : goal.attach-requires-clause-out
attach-requires-clause-out g c =
    sym c.requires.may.tied.same
    ∙ (c.requires.may.attached
    ∙ ap (λ (doer : ParticipantView). doer.context.standing.attached) (sym c.self.view_is)
    ∙ ap (λ inside. inside.context.standing.attached) (sym c.self-inside.view_is) ∙ c.if-self.false)

pub returns-clause-does : goal.returns-clause-does
returns-clause-does g c =
    let doer = c.args.self.now in
    let me = doer.party.me in
    let old = g.H.Hall.state c.args.hall.now in
    let new = g.H.Hall.state c.attach.new.hall in
    let is = c.attach.ensures in
    let at = c.in_ok-caught.ensures.ok in
    let more = is.stays.others.later.seen me in
    let others = is.stays.others.later.heard me in
    line_tried old.count (did_in me old new) c.args.line.now doer (old.part me) (old.seen me)
    (old.heard me) c.attach.new.self c.note_attached.new.self (new.part me) (new.seen me) more.0
    (new.heard me) others.0 is.stays.part more.1 others.1 c.requires.act
    (ap (λ (doer : ParticipantView). doer.context.standing.attached) (sym c.self.view_is)
    ∙ ap (λ inside. inside.context.standing.attached) (sym c.self-inside.view_is) ∙ c.if-self.false) at.segs c.in_ok-caught.caught at.attaches is.context
    at.did c.note_attached.result c.note_attached.ensures.given c.note_attached.ensures.noted

pub returns-clause-ready : goal.returns-clause-ready
returns-clause-ready g c = λ ready.
    let doer = c.args.self.now in
    let me = doer.party.me in
    let old = g.H.Hall.state c.args.hall.now in
    let new = g.H.Hall.state c.attach.new.hall in
    let mid = c.attach.new.self in
    let is = c.attach.ensures in
    let at = c.in_ok-caught.ensures.ok in
    let others = is.stays.others.later.heard me in
    ready_noted mid c.note_attached.new.self (new.part me) (new.seen me) (new.heard me)
    (standing_tried mid.party.maps.number c.in_ok-caught.caught mid.context.standing) c.note_attached.ensures.noted
    (ready_still doer mid (old.part me) (new.part me) (old.seen me) (new.seen me) (old.heard me)
    (new.heard me) others.0 (attached_same doer.party mid.party at.segs.log c.in_ok-caught.caught at.attaches) is.context is.stays.part others.1 ready)

pub returns-clause-failed : goal.returns-clause-failed
returns-clause-failed g c = λ call refused.
    c.in_ok-caught.ensures.ok.failed
    (refused_failed c.attach.new.self.party.maps.number c.in_ok-caught.caught c.note_attached.result call c.note_attached.ensures.given refused)

pub returns-then-self-clause-changes : goal.returns-then-self-clause-changes
returns-then-self-clause-changes g c = changes_same c.args.self.now c.requires.may.tied c.requires.may.attached

pub returns-then-is_worn-clause-changes : goal.returns-then-is_worn-clause-changes
returns-then-is_worn-clause-changes g c = changes_same c.args.self.now c.requires.may.tied c.requires.may.attached

pub returns-clause-changes : goal.returns-clause-changes
returns-clause-changes g c =
    let doer = c.args.self.now in
    let mid = c.attach.new.self in
    let is = c.attach.ensures in
    let at = c.in_ok-caught.ensures.ok in
    changes_noted doer mid (standing_tried mid.party.maps.number c.in_ok-caught.caught mid.context.standing)
    (attached_same doer.party mid.party at.segs.log c.in_ok-caught.caught at.attaches) (ap (λ (context : Context). context.pools) is.context)
    c.note_attached.ensures.noted is.tied
    (tried_joined mid.party.maps.number c.in_ok-caught.caught mid.context.standing ((g.H.Hall.state c.attach.new.hall).joined doer.party.me)
    (ap (λ (context : Context). context.standing.attached) is.context
    ∙ ap (λ (doer : ParticipantView). doer.context.standing.attached) (sym c.self.view_is)
    ∙ ap (λ inside. inside.context.standing.attached) (sym c.self-inside.view_is) ∙ c.if-self.false) at.roster)
    is.stays.part
    (tried_chunks mid.party.maps.number c.in_ok-caught.caught mid.context.standing
    ∙ ap (λ (context : Context). context.standing.chunks) is.context) is.stays.slots is.stays.others

pub returns-clause-roster : goal.returns-clause-roster
returns-clause-roster g c =
    let me = c.args.self.now.party.me in
    let out =
    c.requires.may.attached
    ∙ ap (λ (doer : ParticipantView). doer.context.standing.attached) (sym c.self.view_is)
    ∙ ap (λ inside. inside.context.standing.attached) (sym c.self-inside.view_is) ∙ c.if-self.false in
    joined_by c.args.line.now.act c.attach.new.self.party.maps.number c.in_ok-caught.caught c.note_attached.result
    ((g.H.Hall.state c.args.hall.now).joined me) ((g.H.Hall.state c.attach.new.hall).joined me) c.requires.act c.note_attached.ensures.given
    (c.in_ok-caught.ensures.ok.roster ∙ sym (ap (λ (before : Bool). before || is_done c.in_ok-caught.caught) out))

pub returns-then-self-clause-roster : goal.returns-then-self-clause-roster
returns-then-self-clause-roster g c =
    let me = c.args.self.now.party.me in
    joined_still c.args.line.now.act answer.Already ((g.H.Hall.state c.args.hall.now).joined me) c.requires.act refl

-- who is worn did nothing
pub returns-then-is_worn-clause-halts : goal.returns-then-is_worn-clause-halts
returns-then-is_worn-clause-halts g c =
    let doer = c.args.self.now in
    let me = doer.party.me in
    let hall = g.H.Hall.state c.args.hall.now in
    let line = c.args.line.now in
    nothing_halts hall.count (did_in me hall hall) line (moment me doer hall) (facts_for doer.party.socket doer.context line.act None)
    (did_same me hall) (known_none doer.party.socket doer.context line act.Attach c.requires.act tt) refl

-- nor did one for whose watchers there was no room: it looked at the segment value
pub returns-in_err-caught-clause-halts : goal.returns-in_err-caught-clause-halts
returns-in_err-caught-clause-halts g c =
    let doer = c.args.self.now in
    let me = doer.party.me in
    let old = g.H.Hall.state c.args.hall.now in
    let new = g.H.Hall.state c.attach.new.hall in
    let line = c.args.line.now in
    let is = c.in_err-caught.ensures.err in
    let stays = c.attach.ensures.stays in
    let facts : Facts = facts_for doer.party.socket doer.context line.act None in
    let segs = is.2.segs in
    let tree : Doing = doing_of line line.act facts in
    let halts : HaltsLineHere me doer doer old new line =
    line_halted old.count (did_in me old new) line (moment me doer old) (moment me doer new) facts
    (known_none doer.party.socket doer.context line act.Attach c.requires.act tt) tree refl refl (
      [],
      once_none,
      halts_by [] old.count (did_in me old new) tree (moment me doer old) (moment me doer new)
          (takes_segments segs ∷ gives_segments segs ∷ []) is.2.did (ActsOn.attaches_not doer segs is.1)
          (λ heap. ap (λ (part : HeapPart). part.entries) (stays.part heap)) (same_party doer.party) refl,
    ) in
    on_err_any c.from_residual.result _
    (subst (λ (after : ParticipantView). HaltsLineHere me doer after old new line) (sym is.0) halts)

pub returns-in_err-caught-clause-ready : goal.returns-in_err-caught-clause-ready
returns-in_err-caught-clause-ready g c = λ ready.
    let doer = c.args.self.now in
    let me = doer.party.me in
    let old = g.H.Hall.state c.args.hall.now in
    let new = g.H.Hall.state c.attach.new.hall in
    let is = c.in_err-caught.ensures.err in
    let stays = c.attach.ensures.stays in
    let others = stays.others.later.heard me in
    subst (λ (after : ParticipantView). MayDo (moment me after new)) (sym is.0)
    (ready_still doer doer (old.part me) (new.part me) (old.seen me) (new.seen me) (old.heard me) (new.heard me) others.0 (same_party doer.party)
    refl stays.part others.1 ready)

pub returns-in_err-caught-clause-err : goal.returns-in_err-caught-clause-err
returns-in_err-caught-clause-err g c =
    let is = c.in_err-caught.ensures.err in on_err_any c.from_residual.result _ (inr is.1, is.0, is.2.joined)

pub returns-in_err-caught-clause-changes : goal.returns-in_err-caught-clause-changes
returns-in_err-caught-clause-changes g c =
    let doer = c.args.self.now in
    let old = g.H.Hall.state c.args.hall.now in
    let new = g.H.Hall.state c.attach.new.hall in
    let is = c.in_err-caught.ensures.err in
    let stays = c.attach.ensures.stays in
    subst (λ (after : ParticipantView). ChangesRoster doer.party.me doer after old new) (sym is.0) (record {
      same = same_party doer.party;
      tied = subst (λ (after : ParticipantView). IsTiedIn doer.party.me after.party new) is.0 c.attach.ensures.tied;
      attached = is.2.joined ∙ c.requires.may.attached;
      pools = refl;
      chunks = λ noted heap. ap (map (own_chunk heap)) (ap (λ (part : HeapPart). part.marked) (stays.part heap)) ∙ noted heap;
      slots = stays.slots;
      others = stays.others;
    })
