-- One mailbox more.
use Rattle.std.proofs.Common.{ℕ, ◌<◌, List, length, refl, arith}
use Rattle.std.proofs.lemmas.Option.{slice_get_read}
use Rattle.hp_mail.specs.PassView.{MailboxView, PassView}
use Rattle.hp_threads.proofs.Meetings.{can_meet_at, met_more, none_dropped, rest_left, some_left}
use Rattle.hp_threads.proofs.meeting.meet_all.Goals as goal

pub loop-owner-init : goal.loop-owner-init
loop-owner-init c = record { left = none_dropped c.args.all_passes.items; met = λ one below. absurd (omega (arith, below)) }

pub parted-requires : goal.parted-requires
parted-requires c = record {
  some = some_left c.args.boxes.now c.args.all_passes.items c.loop-owner.left.items c.loop-owner.owner c.requires c.loop-owner.invariant.left
      (omega (arith, c.loop-owner-test.true, c.loop-owner.auto.owner-end));
}

pub meet_at-requires : goal.meet_at-requires
meet_at-requires c =
    let boxes : List MailboxView = c.args.boxes.now in
    let owner : ℕ = c.loop-owner.owner in
    let mailbox : MailboxView = c.index-boxes-owner.result in
    let below : owner < length boxes = omega (arith, c.loop-owner-test.true, c.loop-owner.auto.owner-end) in
    can_meet_at boxes c.args.all_passes.items c.loop-owner.left.items owner c.requires c.loop-owner.invariant.left c.in_ok-passes.passes.items
    c.in_ok-passes.ensures.firsts mailbox (slice_get_read boxes (length boxes) owner mailbox refl below c.index-boxes-owner.is)

pub loop-owner-preserved : goal.loop-owner-preserved
loop-owner-preserved c =
    let boxes : List MailboxView = c.args.boxes.now in
    let all : List (List PassView) = c.args.all_passes.items in
    let left : List (List PassView) = c.loop-owner.left.items in
    let was = c.loop-owner.invariant in
    record {
      left = rest_left boxes all left c.loop-owner.owner c.requires was.left c.in_ok-passes.rest.items c.in_ok-passes.ensures.rest;
      met = met_more boxes all left c.loop-owner.owner c.requires was.left c.in_ok-passes.passes.items c.in_ok-passes.ensures.firsts
          c.meet_at.ensures was.met;
    }

pub returns : goal.returns
returns c = λ one below.
    c.loop-owner.invariant.met one (omega (arith, below, c.requires.many, c.loop-owner-test.false, c.loop-owner.auto.owner-end))
