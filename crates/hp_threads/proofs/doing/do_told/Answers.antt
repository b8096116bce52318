-- A line is done, and told.
use Rattle.std.proofs.Common.{◌≡◌, ◌∙◌, ℕ, sym, ap, subst, arith}
use Rattle.std.proofs.lemmas.Result.{err_from_is_err_and}
use Rattle.hp_hall.specs.HallCalls.{HasStored, MayStore}
use Rattle.hp_proc.specs.Awaiting.{MayAwait}
use Rattle.hp_serve.specs.Party.{Party}
use Rattle.hp_serve.proofs.Waits.{if_no_ok}
use Rattle.hp_threads.proofs.WaitsUntold.{line_untold}
use Rattle.hp_threads.proofs.WorkSteps.{line_goes, may_store, told_ready}
use Rattle.hp_threads.proofs.doing.do_told.Goals as goal

pub do_line-requires : goal.do_line-requires
do_line-requires g c = record {
  own = c.requires.can.own;
  next = c.requires.can.next;
  may = (
    c.requires.can.may.0,
    subst (λ (scale : ℕ). MayAwait scale c.args.line.now.act (g.H.Hall.state c.args.hall.now)) (sym g.met.H.Adding.timeless) c.requires.can.may.1,
  );
  ready = c.requires.can.ready;
}

pub store_done-requires : goal.store_done-requires
store_done-requires g c =
    let again = c.do_line.ensures.ready in
    let who = c.number-who.ensures ∙ ap (λ (party : Party). party.me) c.server.ensures ∙ again.same.me in
    let old = g.H.Hall.state c.args.hall.now in
    let mid = g.H.Hall.state c.do_line.new.hall in
    let me = c.args.participant.now.party.me in
    let did = c.in_ok-answer.ensures.does in
    let same : mid.lines me ≡ old.lines me =
    g.met.H.Adding.tells _ _ me did.does.steps c.do_line.ensures.goes_on did.does.made
    (line_untold me c.args.participant.now c.do_line.new.self old mid c.args.line.now c.in_ok-answer.answer did) in
    record {
      serves = subst mid.serves (sym who) again.ready.idle.serves;
      may = subst (λ (n : ℕ). MayStore n c.args.done mid) (sym who)
          (may_store me c.args.done c.do_line.new.self again.ready (omega (arith, same, c.requires.can.told)));
    }

pub returns : goal.returns
returns g c =
    let again = c.do_line.ensures.ready in
    let who = c.number-who.ensures ∙ ap (λ (party : Party). party.me) c.server.ensures ∙ again.same.me in
    let mid = g.H.Hall.state c.do_line.new.hall in
    let new = g.H.Hall.state c.store_done.new.self in
    let me = c.args.participant.now.party.me in
    let is : HasStored me c.args.done mid new =
    subst (λ (n : ℕ). HasStored n c.args.done mid new) who c.store_done.ensures.stored in
    record {
      again = record { same = again.same; ready = told_ready me c.args.done c.do_line.new.self is again.ready };
      does = λ lines many.
          line_goes c.args.participant.now c.do_line.new.self c.args.line.now c.in_ok-answer.answer lines c.args.done c.requires.can.own
          c.in_ok-answer.ensures.does again (g.met.H.Hall.goes_on_later _ _ c.do_line.ensures.goes_on)
          (λ steps did heap. g.met.H.Adding.adds _ _ me steps c.do_line.ensures.goes_on did c.requires.can.ready.idle.free heap) is many;
      goes_on = g.met.H.Hall.goes_on_then _ _ _ c.do_line.ensures.goes_on c.store_done.ensures.goes_on;
    }

pub returns-in_err-answer : goal.returns-in_err-answer
returns-in_err-answer g c =
    let stopped = err_from_is_err_and c.from_residual.result c.from_residual.ensures.1 in
    record {
      again = c.do_line.ensures.ready;
      does = if_no_ok c.from_residual.result stopped.0 _ stopped.1;
      goes_on = c.do_line.ensures.goes_on;
    }
