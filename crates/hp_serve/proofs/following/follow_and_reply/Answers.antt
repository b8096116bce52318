-- The table is tied along what the hall did after it, and the steps follow one another.
use Rattle.std.proofs.Common.{◌∙◌, ◌++◌, ◌||◌, ap, subst, arith}
use Rattle.hp_base.specs.Mapping.{is_done}
use Rattle.hp_base.specs.declared.limits.TheConstants.{MAX_HEAPS}
use Rattle.hp_hall.proofs.HallStates.{but_then, did_then, others_then, parts_then, slots_but}
use Rattle.hp_serve.specs.Frames.{Says}
use Rattle.hp_serve.specs.InHall.{marked_in}
use Rattle.hp_serve.proofs.SegmentSlots.{has_still}
use Rattle.hp_serve.proofs.Handed.{tied_still}
use Rattle.hp_serve.proofs.InHalls.{parts_marks}
use Rattle.hp_serve.proofs.following.follow_and_reply.Goals as goal

pub take_in-caught-requires-clause-serves : goal.take_in-caught-requires-clause-serves
take_in-caught-requires-clause-serves g c = c.requires.taken.has.serves

pub take_in-caught-requires-clause-hand : goal.take_in-caught-requires-clause-hand
take_in-caught-requires-clause-hand g c = c.requires.taken.hand

pub take_in-caught-requires-clause-seen : goal.take_in-caught-requires-clause-seen
take_in-caught-requires-clause-seen g c = c.requires.taken.seen

pub give_noted-reply-requires-clause-has : goal.give_noted-reply-requires-clause-has
give_noted-reply-requires-clause-has g c =
    let stays = c.take_in-caught.ensures.stays in
    has_still stays.slots stays.parts stays.others c.requires.taken.has

pub post_reply-requires-clause-serves : goal.post_reply-requires-clause-serves
post_reply-requires-clause-serves g c =
    c.give_noted-reply.ensures.back.back.others.later.serves c.args.me
    (c.take_in-caught.ensures.stays.others.later.serves c.args.me c.requires.taken.has.serves)

pub post_reply-requires-clause-some : goal.post_reply-requires-clause-some
post_reply-requires-clause-some g c =
    let first = c.take_in-caught.ensures.stays.others.later.count in
    let then = c.give_noted-reply.ensures.back.back.others.later.count in
    omega (arith, c.requires.some, first, then)

pub returns-clause-tied : goal.returns-clause-tied
returns-clause-tied g c =
    let me = c.args.me in
    let new = g.H.Hall.state c.post_reply.new.hall in
    let posted = c.post_reply.ensures.stays in
    let given = c.give_noted-reply.ensures in
    let grown = posted.others.later.seen me in
    let joined = c.args.joined || is_done c.take_in-caught.result in
    let maps = c.take_in-caught.new.maps in
    let mid = g.H.Hall.state c.take_in-caught.new.hall in
    tied_still c.args.segs.log (new.seen me) grown.0 (mid.own me) (new.own me) (marked_in me mid) (marked_in me new) joined maps
    (grown.1 ∙ ap (λ seen. seen ++ grown.0) given.log) (posted.mine.own ∙ given.back.back.gave.own)
    (parts_marks (parts_then given.back.parts posted.mine.parts)) c.take_in-caught.ensures.tied

pub returns-clause-did : goal.returns-clause-did
returns-clause-did g c =
    let posted = c.post_reply.ensures.did in (
      posted.0,
      posted.1,
      subst (Says posted.0) c.give_noted-reply.ensures.reply posted.2,
      did_then c.take_in-caught.ensures.did (did_then c.give_noted-reply.ensures.back.back.gave.did posted.3),
    )

pub returns-clause-measure : goal.returns-clause-measure
returns-clause-measure g c =
    let first = c.take_in-caught.ensures.stays.measure in
    let then = c.give_noted-reply.ensures.back.back.measure in
    let last = c.post_reply.ensures.measure in
    omega (arith, first, then, last)

pub returns-clause-back : goal.returns-clause-back
returns-clause-back g c =
    let first = c.take_in-caught.ensures.stays in
    let put = c.give_noted-reply.ensures.back in
    let last = c.post_reply.ensures.stays in
    record {
      taken = last.slots.taken MAX_HEAPS ∙ put.back.gave.taken;
      home = last.slots.home MAX_HEAPS put.back.gave.home;
      slots = but_then (slots_but first.slots) (but_then put.back.slots (slots_but last.slots));
      parts = parts_then first.parts (parts_then put.parts last.mine.parts);
      others = others_then first.others (others_then put.back.others last.others);
    }

pub returns-clause-goes_on : goal.returns-clause-goes_on
returns-clause-goes_on g c =
    g.met.H.Hall.goes_on_then c.args.hall.now c.take_in-caught.new.hall c.post_reply.new.hall c.take_in-caught.ensures.goes_on
    (g.met.H.Hall.goes_on_then c.take_in-caught.new.hall c.give_noted-reply.new.hall c.post_reply.new.hall
    c.give_noted-reply.ensures.goes_on c.post_reply.ensures.goes_on)
