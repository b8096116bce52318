use Rattle.std.proofs.Common.{◌≡◌, ℕ, Bool, true, false, Result, Ok, Err, [], refl, sym, ap, subst, ◌∙◌, arith}
use Rattle.std.specs.Result.{result_ok}
use Rattle.hp_base.specs.declared.limits.TheConstants.{MAX_HEAPS}
use Rattle.hp_plain.specs.Course.{done_same}
use Rattle.hp_plain.specs.HallView.{HallView, HasDone}
use Rattle.hp_serve.specs.Falling.{served_of}
use Rattle.hp_serve.specs.Party.{Party}
use Rattle.hp_solo.specs.Served.ServesOn.{rests}
use Rattle.hp_solo.specs.Solo.{FindsNothing, IsTiedFor, looks_and_finds_nothing}
use Rattle.hp_solo.proofs.Keeping.{keeps_on}
use Rattle.hp_solo.proofs.SoloLooks.{last_behind}
use Rattle.hp_solo.proofs.SoloTies.{party_served_same, party_served_then, served_more_by}
use Rattle.hp_solo.proofs.Visited.{some_first, some_more, visited_by}
use Rattle.hp_solo.proofs.alone.serve_out.Goals as goal

-- who goes on has done something
served_more : {E : Type 0} (result : Result Bool E) (more : Bool) → result ≡ Ok more → more ≡ true → served_of result ≡ 1
served_more (Ok true) more is goes = refl
served_more (Ok false) more is goes = cc
served_more (Err refusal) more is goes = cc

pub serving-init : goal.serving-init
serving-init g c = record {
  served = party_served_same c.args.hall.now c.args.participant.now c.requires.tied.1;
  measure = omega arith;
  serves = record {
    steps = [];
    did = done_same c.args.hall.now c.args.participant.now.me;
    serves = rests c.args.participant.now;
  };
  kept = λ moved. cc;
  served_some = some_first (g.J.Judge.denies c.args.judge.now) c.args.hall.now c.args.participant.now;
  still_hall = λ still. refl;
  still_party = λ still. refl;
}

pub serve_once-requires : goal.serve_once-requires
serve_once-requires g c =
    let is = c.serving.invariant.served in
    let hall = c.serving.hall in
    let after = c.serving.participant in
    record {
      may_ask = c.requires.may_ask;
      there = is.serving.home MAX_HEAPS c.requires.there;
      tied = (
        omega (arith, is.same.me, is.serving.course.count, c.requires.tied.0),
        subst (λ (me : ℕ). IsTiedFor hall me after) (sym is.same.me) is.tied,
      );
    }

pub returns-in_err-more-clause-served : goal.returns-in_err-more-clause-served
returns-in_err-more-clause-served g c =
    party_served_then c.args.hall.now c.serving.hall c.serve_once.new.hall c.args.participant.now c.serving.participant c.serve_once.new.participant
    c.serving.invariant.served c.serve_once.ensures.served

pub returns-then-not-more-clause-served : goal.returns-then-not-more-clause-served
returns-then-not-more-clause-served g c =
    party_served_then c.args.hall.now c.serving.hall c.serve_once.new.hall c.args.participant.now c.serving.participant c.serve_once.new.participant
    c.serving.invariant.served c.serve_once.ensures.served

pub returns-then-not-more-clause-serves : goal.returns-then-not-more-clause-serves
returns-then-not-more-clause-serves g c =
    served_more_by c.args.hall.now c.serving.hall c.serve_once.new.hall c.args.participant.now c.serving.participant c.serve_once.new.participant
    c.in_ok-more.more (result_ok c.serve_once.result) (ap result_ok c.in_ok-more.was) c.serving.invariant.served c.serving.invariant.serves
    c.serve_once.ensures.serves

pub serving-preserved : goal.serving-preserved
serving-preserved g c = record {
  served = party_served_then c.args.hall.now c.serving.hall c.serve_once.new.hall c.args.participant.now c.serving.participant c.serve_once.new.participant
      c.serving.invariant.served c.serve_once.ensures.served;
  measure = omega (
    arith,
    c.serving.invariant.measure,
    c.serve_once.ensures.measure,
    served_more c.serve_once.result c.in_ok-more.more c.in_ok-more.was c.if-not-more.false,
  );
  serves = served_more_by c.args.hall.now c.serving.hall c.serve_once.new.hall c.args.participant.now c.serving.participant c.serve_once.new.participant
      c.in_ok-more.more (result_ok c.serve_once.result) (ap result_ok c.in_ok-more.was) c.serving.invariant.served c.serving.invariant.serves
      c.serve_once.ensures.serves;
  kept = λ moved.
      keeps_on c.args.hall.now c.serving.hall c.serve_once.new.hall c.args.participant.now c.serving.participant c.serve_once.new.participant
      c.serving.moved (result_ok c.serve_once.result) c.serving.invariant.served c.serving.invariant.still_hall
      c.serving.invariant.still_party c.serving.invariant.kept c.serve_once.ensures.serves;
  served_some =
      some_more (g.J.Judge.denies c.args.judge.now) c.args.hall.now c.serving.hall c.serve_once.new.hall c.args.participant.now c.serving.participant c.serve_once.new.participant
      (result_ok c.serve_once.result) (ap result_ok (c.in_ok-more.was ∙ ap Ok c.if-not-more.false)) c.serving.invariant.served
      c.serve_once.ensures.served c.serve_once.ensures.serves c.serving.invariant.served_some;
  still_hall = λ still. cc;
  still_party = λ still. cc;
}

pub returns-then-not-more-clause-visited : goal.returns-then-not-more-clause-visited
returns-then-not-more-clause-visited g c =
    visited_by (g.J.Judge.denies c.args.judge.now) c.args.hall.now c.serving.hall c.serve_once.new.hall c.args.participant.now c.serving.participant c.serve_once.new.participant
    (result_ok c.serve_once.result) (ap result_ok (c.in_ok-more.was ∙ ap Ok c.if-not-more.true)) c.serving.invariant.served
    c.serve_once.ensures.served c.serve_once.ensures.serves c.serving.invariant.served_some

pub returns-then-not-more-clause-idle : goal.returns-then-not-more-clause-idle
returns-then-not-more-clause-idle g c = λ nothing.
    let still : c.serving.moved ≡ false = cc in
    c.serve_once.ensures.idle (c.in_ok-more.was ∙ ap Ok c.if-not-more.true) ∙ c.serving.invariant.still_party still

pub returns-then-not-more-clause-found : goal.returns-then-not-more-clause-found
returns-then-not-more-clause-found g c = λ nothing.
    let still : c.serving.moved ≡ false = cc in
    let hall = c.serving.hall in
    let new = c.serve_once.new.hall in
    let me = c.args.participant.now.me in
    subst (λ (before : HallView). FindsNothing before new me) (c.serving.invariant.still_hall still)
    (subst (λ (party : Party). FindsNothing hall new party.me) (c.serving.invariant.still_party still)
    (c.serve_once.ensures.found (c.in_ok-more.was ∙ ap Ok c.if-not-more.true)))

pub returns-then-not-more-clause-looks : goal.returns-then-not-more-clause-looks
returns-then-not-more-clause-looks g c =
    let serves = c.serving.invariant.serves in
    let hall = c.serving.hall in
    let new = c.serve_once.new.hall in
    let found = c.serve_once.ensures.found (c.in_ok-more.was ∙ ap Ok c.if-not-more.true) in
    last_behind c.args.hall.now hall new c.args.participant.now.me serves.steps serves.did
    ([], subst (λ (who : ℕ). HasDone hall new who (looks_and_finds_nothing who new.clock)) c.serving.invariant.served.same.me found.did)

pub returns-in_err-more-clause-keeps : goal.returns-in_err-more-clause-keeps
returns-in_err-more-clause-keeps g c =
    keeps_on c.args.hall.now c.serving.hall c.serve_once.new.hall c.args.participant.now c.serving.participant c.serve_once.new.participant
    c.serving.moved (result_ok c.serve_once.result) c.serving.invariant.served c.serving.invariant.still_hall c.serving.invariant.still_party
    c.serving.invariant.kept c.serve_once.ensures.serves

pub returns-then-not-more-clause-keeps : goal.returns-then-not-more-clause-keeps
returns-then-not-more-clause-keeps g c =
    keeps_on c.args.hall.now c.serving.hall c.serve_once.new.hall c.args.participant.now c.serving.participant c.serve_once.new.participant
    c.serving.moved (result_ok c.serve_once.result) c.serving.invariant.served c.serving.invariant.still_hall c.serving.invariant.still_party
    c.serving.invariant.kept c.serve_once.ensures.serves
