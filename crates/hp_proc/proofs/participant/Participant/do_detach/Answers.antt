-- One that is out does nothing; else it leaves all chunks, and then the roster, and notes that.
use Rattle.std.proofs.Common.{◌≡◌, ◌≢◌, ◌∙◌, ◌<◌, ℕ, [], None, ap, arith, refl, subst, sym}
use Rattle.std.proofs.lemmas.Bool.{false≢true}
use Rattle.hp_hall.proofs.HallStates.{did_same}
use Rattle.hp_proc.proofs.ChangedLines.{known_none}
use Rattle.hp_proc.proofs.DetachedLines.{joined_left, joined_out, line_detached, line_left, tree_left}
use Rattle.hp_proc.proofs.DetachesHere.{alone_all, does_gone, left_same, may_leave, noted_standing, ready_then}
use Rattle.hp_proc.proofs.Halted.{halts_of, line_halted}
use Rattle.hp_proc.proofs.HandFacts.Holds.{again_line, changes_same}
use Rattle.hp_proc.proofs.LineFacts.{facts_for}
use Rattle.hp_proc.specs.Courses.{attached_after}
use Rattle.hp_proc.specs.Doing.{Doing}
use Rattle.hp_proc.specs.ExternalLines.{leaving_all}
use Rattle.hp_proc.specs.LineInHall.{HaltsLineHere, IsReadyAgain, LeavesAlone, did_in, moment}
use Rattle.hp_proc.specs.ParticipantView.{ParticipantView}
use Rattle.hp_script.specs.declared.answer.Answer.TheVariants as answer
use Rattle.hp_script.specs.declared.line.Act.TheVariants as act
use Rattle.hp_serve.proofs.AskingFacts.AskedAlong.{on_err_any}
use Rattle.hp_proc.proofs.participant.Participant.do_detach.Goals as goal

pub returns-then-not-self-clause-does : goal.returns-then-not-self-clause-does
returns-then-not-self-clause-does g c =
    let doer = c.args.self.now in
    let me = doer.party.me in
    let hall = g.H.Hall.state c.args.hall.now in
    line_detached c.args.line.now c.requires.act doer me hall (did_same me hall)
    (ap (λ (doer : ParticipantView). doer.context.standing.attached) (sym c.self.view_is)
    ∙ ap (λ inside. inside.context.standing.attached) (sym c.self-inside.view_is) ∙ c.if-not-self.true)

pub returns-then-not-self-clause-roster : goal.returns-then-not-self-clause-roster
returns-then-not-self-clause-roster g c =
    joined_out c.args.line.now.act ((g.H.Hall.state c.args.hall.now).joined c.args.self.now.party.me) c.requires.act

pub returns-then-not-self-clause-alone : goal.returns-then-not-self-clause-alone
returns-then-not-self-clause-alone g c = λ none. record {
  changes = changes_same c.args.self.now c.requires.may.may.tied c.requires.may.may.attached;
  own = refl;
  ready = λ ready. ready;
}

pub returns-then-not-self-clause-ready : goal.returns-then-not-self-clause-ready
returns-then-not-self-clause-ready g c = λ ready. again_line c.args.self.now ready

pub returns-then-not-self-clause-clock : goal.returns-then-not-self-clause-clock
returns-then-not-self-clause-clock g c = λ one. omega arith

-- IT LEAVES ALL CHUNKS

pub leave_all-requires : goal.leave_all-requires
leave_all-requires g c = record { ready = c.requires.may.ready }

pub returns-in_err-leave_all-clause-halts : goal.returns-in_err-leave_all-clause-halts
returns-in_err-leave_all-clause-halts g c =
    let doer = c.args.self.now in
    let me = doer.party.me in
    let old = g.H.Hall.state c.args.hall.now in
    let new = g.H.Hall.state c.leave_all.new.hall in
    let line = c.args.line.now in
    let attached =
    ap (λ (doer : ParticipantView). doer.context.standing.attached) (sym c.self.view_is)
    ∙ ap (λ inside. inside.context.standing.attached) (sym c.self-inside.view_is) ∙ c.if-not-self.false in
    let halts : HaltsLineHere me doer c.leave_all.new.self old new line =
    line_halted old.count (did_in me old new) line (moment me doer old) (moment me c.leave_all.new.self new)
    (facts_for doer.party.socket doer.context line.act None) (known_none doer.party.socket doer.context line act.Detach c.requires.act tt)
    (leaving_all doer.context.standing.chunks) (tree_left line c.requires.act doer attached) refl c.in_err-leave_all.ensures.halts in
    on_err_any _ _ halts

pub returns-in_err-leave_all-clause-err : goal.returns-in_err-leave_all-clause-err
returns-in_err-leave_all-clause-err g c =
    let doer = c.args.self.now in
    let so : doer.context.standing.chunks ≡ [] → (doer.party.listeners ≢ []) × (c.leave_all.new.self ≡ doer)
    × (c.leave_all.new.hall ≡ c.args.hall.now) =
    λ none. absurd (false≢true (c.in_err-leave_all.ensures.alone none).0) in
    on_err_any _ _ so

pub returns-in_err-leave_all-clause-alone : goal.returns-in_err-leave_all-clause-alone
returns-in_err-leave_all-clause-alone g c = λ none. absurd (false≢true (c.in_err-leave_all.ensures.alone none).0)

-- IT LEAVES THE ROSTER

pub detach-requires : goal.detach-requires
detach-requires g c =
    let doer = c.args.self.now in
    let is = c.leave_all.ensures in
    let may =
    may_leave g.H.Hall.state c.args.hall.now c.leave_all.new.hall doer c.leave_all.new.self c.requires.may is.ready (λ none. ((is.alone none).1, (is.alone none).2))
    c.in_ok-leave_all.ensures.left in
    let same = left_same g.H.Hall.state c.args.hall.now c.leave_all.new.hall doer c.leave_all.new.self c.requires.may is.ready (λ none. ((is.alone none).1, (is.alone none).2)) in
    record {
      secondary = subst (λ (who : ℕ). 0 < who) (sym same.me) c.requires.secondary;
      may = may.may;
      tied = may.tied;
      left = may.marked;
    }

-- one for whose watchers there was no room did nothing more
pub returns-in_err-detach-clause-halts : goal.returns-in_err-detach-clause-halts
returns-in_err-detach-clause-halts g c =
    let doer = c.args.self.now in
    let me = doer.party.me in
    let mid = c.leave_all.new.self in
    let old = g.H.Hall.state c.args.hall.now in
    let new = g.H.Hall.state c.leave_all.new.hall in
    let line = c.args.line.now in
    let is = c.in_err-detach.ensures.err in
    let left = c.in_ok-leave_all.ensures.does in
    let attached =
    ap (λ (doer : ParticipantView). doer.context.standing.attached) (sym c.self.view_is)
    ∙ ap (λ inside. inside.context.standing.attached) (sym c.self-inside.view_is) ∙ c.if-not-self.false in
    let halts : HaltsLineHere me doer mid old new line =
    line_halted old.count (did_in me old new) line (moment me doer old) (moment me mid new)
    (facts_for doer.party.socket doer.context line.act None) (known_none doer.party.socket doer.context line act.Detach c.requires.act tt)
    (leaving_all doer.context.standing.chunks) (tree_left line c.requires.act doer attached) refl (
      left.held,
      left.once,
      halts_of old.count (did_in me old new) (leaving_all doer.context.standing.chunks) (Doing.Ended answer.Done) (moment me doer old)
          (moment me mid new) left.does,
    ) in
    on_err_any _ _
    (subst (λ (after : ParticipantView). HaltsLineHere me doer after old (g.H.Hall.state c.detach.new.hall) line) (sym is.0)
    (subst (λ late. HaltsLineHere me doer mid old (g.H.Hall.state late) line) (sym is.2) halts))

pub returns-in_err-detach-clause-alone : goal.returns-in_err-detach-clause-alone
returns-in_err-detach-clause-alone g c = λ none.
    let doer = c.args.self.now in
    let me = doer.party.me in
    let hall = g.H.Hall.state c.args.hall.now in
    let so = c.leave_all.ensures.alone none in
    let is = c.in_err-detach.ensures.err in
    let still : LeavesAlone me doer doer hall hall = record {
      changes = changes_same doer c.requires.may.may.tied c.requires.may.may.attached;
      own = refl;
      ready = λ ready. ready;
    } in
    subst (λ (after : ParticipantView). LeavesAlone me doer after hall (g.H.Hall.state c.detach.new.hall)) (sym (is.0 ∙ so.1))
    (subst (λ late. LeavesAlone me doer doer hall (g.H.Hall.state late)) (sym (is.2 ∙ so.2)) still)

pub returns-in_err-detach-clause-err : goal.returns-in_err-detach-clause-err
returns-in_err-detach-clause-err g c =
    let doer = c.args.self.now in
    let is = c.in_err-detach.ensures.err in
    let so : doer.context.standing.chunks ≡ [] → (doer.party.listeners ≢ []) × (c.detach.new.self ≡ doer)
    × (c.detach.new.hall ≡ c.args.hall.now) =
    λ none.
    let left = c.leave_all.ensures.alone none in (
      λ (empty : doer.party.listeners ≡ []). is.1 (ap (λ (d : ParticipantView). d.party.listeners) left.1 ∙ empty),
      is.0 ∙ left.1,
      is.2 ∙ left.2,
    ) in
    on_err_any _ _ so

pub returns-in_err-detach-clause-ready : goal.returns-in_err-detach-clause-ready
returns-in_err-detach-clause-ready g c = λ ready.
    let doer = c.args.self.now in
    let me = doer.party.me in
    let is = c.in_err-detach.ensures.err in
    subst (λ (after : ParticipantView). IsReadyAgain me doer after (g.H.Hall.state c.detach.new.hall)) (sym is.0)
    (subst (λ late. IsReadyAgain me doer c.leave_all.new.self (g.H.Hall.state late)) (sym is.2) (c.leave_all.ensures.ready ready))

pub returns-in_err-detach-clause-clock : goal.returns-in_err-detach-clause-clock
returns-in_err-detach-clause-clock g c = λ one.
    let clock = c.detach.ensures.stays.others.clock in omega (arith, c.leave_all.ensures.clock one, clock)

pub returns-in_err-detach-clause-goes_on : goal.returns-in_err-detach-clause-goes_on
returns-in_err-detach-clause-goes_on g c = g.met.H.Hall.goes_on_then _ _ _ c.leave_all.ensures.goes_on c.detach.ensures.goes_on

-- it noted that it is out
pub returns : goal.returns
returns g c =
    let doer = c.args.self.now in
    let me = doer.party.me in
    let mid = c.leave_all.new.self in
    let gone = c.detach.new.self in
    let after = c.note_detached.new.self in
    let first = c.args.hall.now in
    let second = c.leave_all.new.hall in
    let third = c.detach.new.hall in
    let old = g.H.Hall.state first in
    let is = c.leave_all.ensures in
    let out = c.detach.ensures in
    let standing = c.in_ok-leave_all.ensures.left in
    let detaches = c.in_ok-detach.ensures.ok in
    let noted = c.note_detached.ensures.noted in
    let same = left_same g.H.Hall.state first second doer mid c.requires.may is.ready (λ none. ((is.alone none).1, (is.alone none).2)) in
    let count = (g.met.H.Hall.goes_on_later _ _ is.goes_on).count in
    let clock = out.stays.others.clock in
    let attached =
    ap (λ (doer : ParticipantView). doer.context.standing.attached) (sym c.self.view_is)
    ∙ ap (λ inside. inside.context.standing.attached) (sym c.self-inside.view_is) ∙ c.if-not-self.false in
    record {
      does =
          line_left c.args.line.now c.requires.act doer mid after old (g.H.Hall.state second) (g.H.Hall.state third) attached same count
          c.in_ok-leave_all.ensures.does standing
          (does_gone g.H.Hall.state first second doer mid c.requires.may is.ready (λ none. ((is.alone none).1, (is.alone none).2)) standing gone after third c.requires.secondary detaches out.tied
          out.context out.stays noted (Doing.Ended answer.Done))
          (noted_standing g.H.Hall.state first second doer mid c.requires.may is.ready (λ none. ((is.alone none).1, (is.alone none).2)) standing gone after third c.requires.secondary detaches
          out.tied out.context out.stays noted);
      halts = tt;
      roster = subst (λ (who : ℕ). (g.H.Hall.state third).joined who ≡ attached_after c.args.line.now.act answer.Done (old.joined me)) same.me
          (joined_left c.args.line.now.act (old.joined me) ((g.H.Hall.state third).joined mid.party.me) c.requires.act detaches.left.roster);
      alone = alone_all g.H.Hall.state first second doer mid c.requires.may is.ready (λ none. ((is.alone none).1, (is.alone none).2)) standing gone after third c.requires.secondary detaches
          out.tied out.context out.stays noted;
      err = tt;
      ready = ready_then g.H.Hall.state first second doer mid c.requires.may is.ready (λ none. ((is.alone none).1, (is.alone none).2)) standing gone after third c.requires.secondary detaches
          out.tied out.context out.stays noted;
      clock = λ one. omega (arith, is.clock one, clock);
      goes_on = g.met.H.Hall.goes_on_then _ _ _ is.goes_on out.goes_on;
    }
