-- The value is taken and given back: as it was, or by one that obeys.
use Rattle.std.proofs.Common.{◌≡◌, ◌∙◌, ◌++◌, ℕ, arith, true, false, List, [], ◌∷◌, length, refl, sym, ap, subst}
use Rattle.hp_base.specs.Mapping.{is_done}
use Rattle.hp_base.specs.Plans.{action_of}
use Rattle.hp_base.specs.Telling.{Listener}
use Rattle.hp_base.specs.declared.plan_entry.MsgKind.TheVariants.{Reply}
use Rattle.hp_core.specs.Following.{after_catching}
use Rattle.hp_hall.specs.Holding.{HeapPart}
use Rattle.hp_hall.specs.Mail.{Posts}
use Rattle.hp_serve.specs.Party.{Party, one_more}
use Rattle.hp_serve.specs.Serving.{MayStopMapping, tells_after_catching, told_of, gives_segments, is_out, is_worn, takes_segments}
use Rattle.hp_serve.specs.Tied.{IsTied}
use Rattle.hp_serve.proofs.MemberLemmas.{has_followed}
use Rattle.hp_serve.proofs.Handed.{tied_still}
use Rattle.hp_segs.specs.SegsView.{is_member}
use Rattle.hp_hall.specs.HallState.{Did, OthersStay, PartsStay, Stays}
use Rattle.hp_hall.proofs.HallStates.{did_then, just_taken, others_then, parts_then}
use Rattle.hp_serve.specs.SegmentSlot.{MarksStay, MayHold}
use Rattle.hp_serve.specs.InHall.{IsTiedIn, StaysAlone, marked_in}
use Rattle.hp_serve.proofs.Attached.{has_still}
use Rattle.hp_serve.proofs.InHalls.{alone_by, alone_of, parts_marks}
use Rattle.hp_serve.proofs.SegmentSlots.{Took, closed, may_hold, put_stays, took_has, took_parts}
use Rattle.hp_serve.proofs.server.Server.follow_sync.Goals as goal

pub take_segments-segs-requires : goal.take_segments-segs-requires
take_segments-segs-requires g c =
    let me = ap (λ (party : Party). party.me) c.self.view_is in
    record {
      serves = subst (λ (who : ℕ). (g.H.Hall.state c.args.hall.now).serves who) (sym me) c.requires.can.may.serves;
      home = c.requires.can.may.home;
    }

pub put_back-requires : goal.put_back-requires
put_back-requires g c =
    let me = ap (λ (party : Party). party.me) c.self.view_is in
    let is = c.take_segments-segs.ensures in
    let took : Took c.self.inside.me c.take_segments-segs.result (g.H.Hall.state c.args.hall.now) (g.H.Hall.state c.take_segments-segs.new.hall) =
    record {
      may = subst (λ (who : ℕ). MayHold who (g.H.Hall.state c.args.hall.now)) (sym me) (may_hold c.requires.can.may);
      took = is.took;
      slots = is.slots;
      others = is.others;
      measure = is.measure;
    } in
    record { has = took_has took }

pub put_back-requires-then-stops_mapping : goal.put_back-requires-then-stops_mapping
put_back-requires-then-stops_mapping g c =
    let me = ap (λ (party : Party). party.me) c.self.view_is in
    let is = c.take_segments-segs.ensures in
    let took : Took c.self.inside.me c.take_segments-segs.result (g.H.Hall.state c.args.hall.now) (g.H.Hall.state c.take_segments-segs.new.hall) =
    record {
      may = subst (λ (who : ℕ). MayHold who (g.H.Hall.state c.args.hall.now)) (sym me) (may_hold c.requires.can.may);
      took = is.took;
      slots = is.slots;
      others = is.others;
      measure = is.measure;
    } in
    record { has = took_has took }

pub follow_and_reply-caught-requires-clause-taken : goal.follow_and_reply-caught-requires-clause-taken
follow_and_reply-caught-requires-clause-taken g c =
    let me = ap (λ (party : Party). party.me) c.self.view_is in
    let is = c.take_segments-segs.ensures in
    let took : Took c.self.inside.me c.take_segments-segs.result (g.H.Hall.state c.args.hall.now) (g.H.Hall.state c.take_segments-segs.new.hall) =
    record {
      may = subst (λ (who : ℕ). MayHold who (g.H.Hall.state c.args.hall.now)) (sym me) (may_hold c.requires.can.may);
      took = is.took;
      slots = is.slots;
      others = is.others;
      measure = is.measure;
    } in
    record { has = took_has took; hand = just_taken is.took.did; seen = is.took.log }

pub follow_and_reply-caught-requires-clause-some : goal.follow_and_reply-caught-requires-clause-some
follow_and_reply-caught-requires-clause-some g c =
    let declared = c.requires.can.may.declared in
    let count = c.take_segments-segs.ensures.others.later.count in
    omega (arith, declared, count)

pub follow_and_reply-caught-requires-clause-may : goal.follow_and_reply-caught-requires-clause-may
follow_and_reply-caught-requires-clause-may g c =
    let me = ap (λ (party : Party). party.me) c.self.view_is in
    let who = c.args.self.now.me in
    let old = g.H.Hall.state c.args.hall.now in
    let mid = g.H.Hall.state c.take_segments-segs.new.hall in
    let is = c.take_segments-segs.ensures in
    let log = c.take_segments-segs.result.log in
    let seen = is.others.later.seen who in
    record {
      tied = subst (λ (party : Party). IsTied log (mid.own party.me) (marked_in party.me mid) party.joined party.maps) (sym c.self.view_is)
          (tied_still (old.seen who) log seen.0 (old.own who) (mid.own who) (marked_in who old) (marked_in who mid) c.args.self.now.joined
          c.args.self.now.maps (subst (λ (who : ℕ). log ≡ mid.seen who) me is.took.log ∙ seen.1)
          (subst (λ (who : ℕ). mid.own who ≡ old.own who) me is.took.own)
          (subst (λ (who : ℕ). MarksStay who old mid) me (λ heap. ap (λ (part : HeapPart). part.marked) (is.took.part heap))) c.requires.can.tied.table);
      claimed = is.took.stands.marked;
      calls = c.stops_mapping.ensures.fresh c.if-stops_mapping.false;
    }

pub follow_and_reply-caught-requires-clause-room : goal.follow_and_reply-caught-requires-clause-room
follow_and_reply-caught-requires-clause-room g c = c.stops_mapping.ensures.room c.if-stops_mapping.false

pub returns-then-not-is_member-clause-measure : goal.returns-then-not-is_member-clause-measure
returns-then-not-is_member-clause-measure g c =
    let first = c.take_segments-segs.ensures.measure in
    let then = c.put_back.ensures.back.back.measure in
    omega (arith, first, then)

pub returns-then-not-is_member-clause-alone : goal.returns-then-not-is_member-clause-alone
returns-then-not-is_member-clause-alone g c =
    let me = ap (λ (party : Party). party.me) c.self.view_is in
    let is = c.take_segments-segs.ensures in
    let took : Took c.self.inside.me c.take_segments-segs.result (g.H.Hall.state c.args.hall.now) (g.H.Hall.state c.take_segments-segs.new.hall) =
    record {
      may = subst (λ (who : ℕ). MayHold who (g.H.Hall.state c.args.hall.now)) (sym me) (may_hold c.requires.can.may);
      took = is.took;
      slots = is.slots;
      others = is.others;
      measure = is.measure;
    } in
    alone_by c.args.self.now.me c.args.self.now
    (subst (λ (who : ℕ). Stays who (g.H.Hall.state c.args.hall.now) (g.H.Hall.state c.put_back.new.hall)) me
    (put_stays took c.put_back.ensures.back)) c.requires.can.tied

pub returns-then-stops_mapping-clause-measure : goal.returns-then-stops_mapping-clause-measure
returns-then-stops_mapping-clause-measure g c =
    let first = c.take_segments-segs.ensures.measure in
    let then = c.put_back-then-stops_mapping.ensures.back.back.measure in
    omega (arith, first, then)

pub returns-then-stops_mapping-clause-alone : goal.returns-then-stops_mapping-clause-alone
returns-then-stops_mapping-clause-alone g c =
    let me = ap (λ (party : Party). party.me) c.self.view_is in
    let is = c.take_segments-segs.ensures in
    let took : Took c.self.inside.me c.take_segments-segs.result (g.H.Hall.state c.args.hall.now) (g.H.Hall.state c.take_segments-segs.new.hall) =
    record {
      may = subst (λ (who : ℕ). MayHold who (g.H.Hall.state c.args.hall.now)) (sym me) (may_hold c.requires.can.may);
      took = is.took;
      slots = is.slots;
      others = is.others;
      measure = is.measure;
    } in
    let seen_with : List Listener → Party = λ heard. record {
      me = c.self.inside.me;
      socket = c.self.inside.socket;
      joined = c.self.inside.joined;
      maps = c.self.inside.maps;
      listeners = heard;
      plan = c.self.inside.plan.now;
      deadline = c.self.inside.deadline;
      core = c.self.inside.coordinator;
      asked = c.self.inside.asked;
      answered = c.self.inside.answered;
      sent = c.self.inside.sent;
    } in
    let old = g.H.Hall.state c.args.hall.now in
    let new = g.H.Hall.state c.put_back-then-stops_mapping.new.hall in
    subst (λ (party : Party). StaysAlone c.args.self.now.me c.args.self.now party old new)
    (sym (ap (λ (heard : List Listener). seen_with heard) c.stops_mapping.ensures.listeners ∙ c.self.view_is))
    (alone_by c.args.self.now.me c.args.self.now
    (subst (λ (who : ℕ). Stays who old new) me (put_stays took c.put_back-then-stops_mapping.ensures.back)) c.requires.can.tied)

pub returns-clause-measure : goal.returns-clause-measure
returns-clause-measure g c =
    let first = c.take_segments-segs.ensures.measure in
    let then = c.follow_and_reply-caught.ensures.measure in
    omega (arith, first, then)

pub returns-clause-alone : goal.returns-clause-alone
returns-clause-alone g c =
    let me = ap (λ (party : Party). party.me) c.self.view_is in
    let is = c.take_segments-segs.ensures in
    let took : Took c.self.inside.me c.take_segments-segs.result (g.H.Hall.state c.args.hall.now) (g.H.Hall.state c.take_segments-segs.new.hall) =
    record {
      may = subst (λ (who : ℕ). MayHold who (g.H.Hall.state c.args.hall.now)) (sym me) (may_hold c.requires.can.may);
      took = is.took;
      slots = is.slots;
      others = is.others;
      measure = is.measure;
    } in
    let old = g.H.Hall.state c.args.hall.now in
    let new = g.H.Hall.state c.follow_and_reply-caught.new.hall in
    let back = c.follow_and_reply-caught.ensures.back in
    let parts = subst (λ (who : ℕ). PartsStay who old new) me (parts_then (took_parts took) back.parts) in
    let was = subst (λ (party : Party). IsTiedIn party.me party old) (sym c.self.view_is) c.requires.can.tied in
    let there = sym was.same ∙ (sym is.took.roster ∙ (sym c.is_member.ensures ∙ c.if-not-is_member.false)) in
    let has = has_still c.self.inside.joined (is_done c.follow_and_reply-caught.result) c.has_table-self-inside.result there c.has_table-self-inside.ensures in
    alone_of c.self.view_is (record { me = refl; socket = refl; plan = refl; deadline = refl })
    (record {
      table = subst (λ (who : ℕ). IsTied (new.seen who) (new.own who) (marked_in who new) c.has_table-self-inside.result c.follow_and_reply-caught.new.maps) me
          (subst (λ joined. IsTied (new.seen c.self.inside.me) (new.own c.self.inside.me) (marked_in c.self.inside.me new) joined c.follow_and_reply-caught.new.maps)
          (sym c.has_table-self-inside.ensures) c.follow_and_reply-caught.ensures.tied);
      same = parts.joined ∙ (c.requires.can.tied.same ∙ (sym (ap (λ (party : Party). party.joined) c.self.view_is) ∙ sym has));
      left = λ out heap.
          parts_marks parts heap ∙ c.requires.can.tied.left (sym (ap (λ (party : Party). party.joined) c.self.view_is) ∙ (sym has ∙ out)) heap;
    })
    (closed took.may is.slots back.slots back.taken back.home)
    parts
    (subst (λ (who : ℕ). OthersStay who old new) me (others_then is.others back.others))

pub returns-then-not-is_member-clause-goes_on : goal.returns-then-not-is_member-clause-goes_on
returns-then-not-is_member-clause-goes_on g c = g.met.H.Hall.goes_on_then _ _ _ c.take_segments-segs.ensures.goes_on c.put_back.ensures.goes_on

pub returns-then-stops_mapping-clause-goes_on : goal.returns-then-stops_mapping-clause-goes_on
returns-then-stops_mapping-clause-goes_on g c =
    g.met.H.Hall.goes_on_then _ _ _ c.take_segments-segs.ensures.goes_on c.put_back-then-stops_mapping.ensures.goes_on

pub returns-clause-goes_on : goal.returns-clause-goes_on
returns-clause-goes_on g c = g.met.H.Hall.goes_on_then _ _ _ c.take_segments-segs.ensures.goes_on c.follow_and_reply-caught.ensures.goes_on

pub returns-then-not-is_member-clause-followed : goal.returns-then-not-is_member-clause-followed
returns-then-not-is_member-clause-followed g c =
    let me = ap (λ (party : Party). party.me) c.self.view_is in
    let segs = c.take_segments-segs.result in (
      segs,
      gives_segments segs ∷ [],
      subst (λ who. Did who (takes_segments segs ∷ gives_segments segs ∷ []) (g.H.Hall.state c.args.hall.now) (g.H.Hall.state c.put_back.new.hall)) me
          (did_then c.take_segments-segs.ensures.took.did c.put_back.ensures.back.back.gave.did),
      is_out (subst (λ who. is_member segs.roster who ≡ false) me (sym c.is_member.ensures ∙ c.if-not-is_member.true)) refl refl refl,
    )

pub returns-then-stops_mapping-clause-followed : goal.returns-then-stops_mapping-clause-followed
returns-then-stops_mapping-clause-followed g c =
    let me = ap (λ (party : Party). party.me) c.self.view_is in
    let seen_with : List Listener → Party = λ heard. record {
      me = c.self.inside.me;
      socket = c.self.inside.socket;
      joined = c.self.inside.joined;
      maps = c.self.inside.maps;
      listeners = heard;
      plan = c.self.inside.plan.now;
      deadline = c.self.inside.deadline;
      core = c.self.inside.coordinator;
      asked = c.self.inside.asked;
      answered = c.self.inside.answered;
      sent = c.self.inside.sent;
    } in
    let segs = c.take_segments-segs.result in (
      segs,
      gives_segments segs ∷ [],
      subst (λ who. Did who (takes_segments segs ∷ gives_segments segs ∷ []) (g.H.Hall.state c.args.hall.now) (g.H.Hall.state c.put_back-then-stops_mapping.new.hall)) me
          (did_then c.take_segments-segs.ensures.took.did c.put_back-then-stops_mapping.ensures.back.back.gave.did),
      is_worn (subst (λ who. is_member segs.roster who ≡ true) me (sym c.is_member.ensures ∙ c.if-not-is_member.false))
          (subst (λ (party : Party). MayStopMapping party.maps party.listeners) c.self.view_is
          (c.stops_mapping.ensures.stops c.if-stops_mapping.true)) refl
          (ap (λ (heard : List Listener). seen_with heard) c.stops_mapping.ensures.listeners ∙ c.self.view_is) refl,
    )

pub returns-clause-followed : goal.returns-clause-followed
returns-clause-followed g c =
    let me = ap (λ (party : Party). party.me) c.self.view_is in
    let segs = c.take_segments-segs.result in
    let did = c.follow_and_reply-caught.ensures.did in
    let gives = gives_segments (after_catching c.self.inside.me c.follow_and_reply-caught.result segs) in
    let posts =
    Posts 0 did.0 (action_of c.self.inside.plan.now Reply c.self.inside.me (one_more c.self.inside.sent.replies)) did.1 in
    let more = tells_after_catching c.follow_and_reply-caught.result (length segs.log) ++ (gives ∷ posts ∷ []) in (
      segs,
      more,
      subst (λ who. Did who (takes_segments segs ∷ more) (g.H.Hall.state c.args.hall.now) (g.H.Hall.state c.follow_and_reply-caught.new.hall)) me
          (did_then c.take_segments-segs.ensures.took.did did.3),
      has_followed c.args.self.now _ segs c.follow_and_reply-caught.result c.follow_and_reply-caught.new.maps c.follow_and_reply-caught.new.watchers.listeners
          c.has_table-self-inside.result c.one_more-self-inside.result did.0 did.1 c.self.view_is
          (sym c.is_member.ensures ∙ c.if-not-is_member.false) did.2 c.follow_and_reply-caught.ensures.caught
          (c.follow_and_reply-caught.ensures.heard
          ∙ ap (λ (heard : List Listener). told_of segs.log c.follow_and_reply-caught.result c.self.inside.maps heard) c.stops_mapping.ensures.listeners)
          c.has_table-self-inside.ensures c.one_more-self-inside.ensures,
    )
