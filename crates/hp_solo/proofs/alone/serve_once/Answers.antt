use Rattle.std.proofs.Common.{◌≡◌, List, length, ap, subst, sym, ◌∙◌, arith}
use Rattle.std.specs.Result.{result_ok}
use Rattle.std.proofs.lemmas.List.{append-nil}
use Rattle.hp_base.specs.declared.limits.TheConstants.{MAX_HEAPS}
use Rattle.hp_hall.specs.Mail.{MailStep, steps_of}
use Rattle.hp_plain.specs.HallView.{HasDone, joined_in, lines_at, part_in, slot_at}
use Rattle.hp_serve.proofs.MemberLemmas.{at_each}
use Rattle.hp_solo.proofs.Looked.{found_nothing, has_rested}
use Rattle.hp_solo.proofs.SoloTies.{free_home}
use Rattle.hp_solo.proofs.alone.serve_once.Goals as goal

pub serve-requires : goal.serve-requires
serve-requires g c = record {
  may_ask = c.requires.may_ask;
  can = record {
    may = record {
      serves = c.requires.tied.0;
      declared = c.requires.tied.0;
      free = free_home (slot_at c.args.hall.now MAX_HEAPS) c.requires.there;
      home = c.requires.there;
    };
    tied = c.requires.tied.1;
  };
}

pub returns-clause-served : goal.returns-clause-served
returns-clause-served g c =
    let old = c.args.hall.now in
    let new = c.serve.new.hall in
    let me = c.args.participant.now.me in
    let stays = c.serve.ensures.alone.stays in
    let others = c.serve.ensures.alone.others in
    record {
      serving = record {
        course = c.serve.ensures.goes_on;
        taken = stays.waits.slots.taken;
        home = stays.waits.slots.home;
        part = λ who heap.
            at_each (λ n. part_in new n heap ≡ part_in old n heap) me (stays.waits.parts.part heap) (λ n apart. others.part n heap apart) who;
        joined = at_each (λ n. joined_in new n ≡ joined_in old n) me stays.waits.parts.joined (λ n apart. others.joined n apart);
        lines = at_each (λ n. lines_at new n ≡ lines_at old n) me stays.waits.parts.lines (λ n apart. others.lines n apart);
        own = others.own;
        did = λ who apart. others.done who apart ∙ sym (append-nil (steps_of who old.mail));
        clock = others.clock;
      };
      same = stays.same;
      tied = stays.tied;
    }

pub returns-clause-measure : goal.returns-clause-measure
returns-clause-measure g c = omega (arith, c.serve.ensures.measure)

pub returns-clause-idle : goal.returns-clause-idle
returns-clause-idle g c = λ nothing.
    let old = c.args.hall.now in
    let party = c.args.participant.now in
    let served = c.serve.ensures.served in
    (has_rested (length old.owns) party c.serve.new.self served.0 (result_ok c.serve.result) (ap result_ok nothing) served.2).2

pub returns-clause-found : goal.returns-clause-found
returns-clause-found g c = λ nothing.
    let old = c.args.hall.now in
    let new = c.serve.new.hall in
    let party = c.args.participant.now in
    let served = c.serve.ensures.served in
    let others = c.serve.ensures.alone.others in
    let rested = has_rested (length old.owns) party c.serve.new.self served.0 (result_ok c.serve.result) (ap result_ok nothing) served.2 in
    found_nothing old new party.me rested.0 c.serve.ensures.goes_on
    (subst (λ (steps : List MailStep). HasDone old new party.me steps) rested.1 served.1.made)
    (λ who apart. others.done who apart ∙ sym (append-nil (steps_of who old.mail)))

pub returns-clause-serves : goal.returns-clause-serves
returns-clause-serves g c = let served = c.serve.ensures.served in (served.0, served.1.made, served.2)
