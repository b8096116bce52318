-- Those below serve, then the participant, then those above, whoever stops.
use Rattle.std.proofs.Common.{◌∙◌, ℕ, ◌*◌, true, false, [], ◌∷◌, refl, ap, sym, subst, arith}
use Rattle.std.specs.Result.{result_ok}
use Rattle.hp_hall.specs.HallState.{Did}
use Rattle.hp_hall.specs.Mail.{Notes}
use Rattle.hp_hall.specs.declared.note.Note.TheVariants.{Yielded}
use Rattle.hp_hall.proofs.HallStates.{did_then}
use Rattle.hp_serve.specs.Party.{Party}
use Rattle.hp_serve.specs.Waiting.{IsServedOut}
use Rattle.hp_serve.proofs.AskingFacts.AskedLemmas.{asked_served_out}
use Rattle.hp_serve.proofs.InHalls.{in_can, in_may, in_others, in_tied, in_then}
use Rattle.hp_serve.proofs.Scaled.{own_measure_still}
use Rattle.hp_serve.proofs.Waits.{any_moved, moved_on}
use Rattle.hp_serve.proofs.server.Server.serve_on.Goals as goal

pub others-requires : goal.others-requires
others-requires g c = record {
  serves = subst (g.H.Hall.state c.args.hall.now).serves (sym (ap (λ (party : Party). party.me) c.self.view_is)) c.requires.can.may.serves;
  free = c.requires.can.may.free;
  home = c.requires.can.may.home;
}

pub serve_some-requires : goal.serve_some-requires
serve_some-requires g c =
    let below = in_others c.args.self.now (ap (λ (party : Party). party.me) c.self.view_is) c.others.ensures.idles.slots c.others.ensures.idles.mine
    c.others.ensures.idles.later c.requires.can.tied in
    record { may_ask = c.requires.may_ask; can = in_can below c.requires.can }

pub others-requires-2 : goal.others-requires-2
others-requires-2 g c =
    let here = ap (λ (party : Party). party.me) c.self.view_is in
    let below = in_others c.args.self.now here c.others.ensures.idles.slots c.others.ensures.idles.mine c.others.ensures.idles.later c.requires.can.tied in
    let own = in_may (in_then below c.serve_some.ensures.alone.stays) c.requires.can.may in
    let me = here ∙ sym c.serve_some.ensures.alone.stays.same.me in
    record {
      serves = subst (g.H.Hall.state c.serve_some.new.hall).serves (sym me) own.serves;
      free = own.free;
      home = own.home;
    }

pub returns : goal.returns
returns g c =
    let old = g.H.Hall.state c.args.hall.now in
    let mid = g.H.Hall.state c.others.new.self in
    let late = g.H.Hall.state c.serve_some.new.hall in
    let new = g.H.Hall.state c.others-2.new.self in
    let here = ap (λ (party : Party). party.me) c.self.view_is in
    let one = c.serve_some.ensures.served in
    let below = in_others c.args.self.now here c.others.ensures.idles.slots c.others.ensures.idles.mine c.others.ensures.idles.later c.requires.can.tied in
    let mine = in_then below c.serve_some.ensures.alone.stays in
    let above = in_others c.serve_some.new.self (here ∙ sym mine.same.me) c.others-2.ensures.idles.slots c.others-2.ensures.idles.mine c.others-2.ensures.idles.later
    (in_tied mine) in
    let lighter = c.others.ensures.measure in
    let served = c.serve_some.ensures.measure in
    let lighter_still = c.others-2.ensures.measure in
    let own = own_measure_still g.H.Hall.scale g.H.Hall.pending old.clock mid.clock c.args.self.now.core c.others.ensures.clock in
    let own_still = own_measure_still g.H.Hall.scale g.H.Hall.pending late.clock new.clock c.serve_some.new.self.core c.others-2.ensures.clock in
    let paid = any_moved g.H.Hall.scale c.own_moved-own.result c.others_moved-below.result c.others_moved-above.result c.has_moved.result c.has_moved.ensures in
    let first = ap (λ (n : ℕ). g.H.Hall.scale * n) c.others_moved-below.ensures.weighs in
    let second = ap (λ (n : ℕ). g.H.Hall.scale * n) c.own_moved-own.ensures.weighs in
    let third = ap (λ (n : ℕ). g.H.Hall.scale * n) c.others_moved-above.ensures.weighs in
    record {
      served = (
        _,
        did_then (did_then (subst (λ (who : ℕ). Did who (Notes (Yielded false (result_ok c.others.result)) ∷ []) old mid) here c.others.ensures.idles.did) one.1)
            (subst (λ (who : ℕ). Did who (Notes (Yielded true (result_ok c.others-2.result)) ∷ []) late new) here c.others-2.ensures.idles.did),
        record {
          below = result_ok c.others.result;
          mine = result_ok c.serve_some.result;
          above = result_ok c.others-2.result;
          own = one.0;
          served = subst (λ (count : ℕ). IsServedOut (g.J.Judge.denies c.args.judge.now) count c.args.self.now c.serve_some.new.self
              one.0 (result_ok c.serve_some.result))
              c.others.ensures.idles.later.count one.2;
          are = refl;
          moves = moved_on c.has_moved.result c.own_moved-own.result c.others_moved-below.result c.others_moved-above.result
              (result_ok c.serve_some.result) (result_ok c.others.result) (result_ok c.others-2.result) c.has_moved.ensures
              c.own_moved-own.ensures.moved c.others_moved-below.ensures.moved c.others_moved-above.ensures.moved;
        },
      );
      measure = omega (arith, lighter, served, lighter_still, own, own_still, paid, first, second, third);
      clock = c.others-2.ensures.clock ∙ c.serve_some.ensures.alone.others.clock ∙ c.others.ensures.clock;
      asks = asked_served_out mid.count c.args.self.now c.serve_some.new.self one.0 (result_ok c.serve_some.result) one.2;
      stays = in_then mine above;
      goes_on = g.met.H.Hall.goes_on_then _ _ _ (g.met.H.Hall.goes_on_then _ _ _ c.others.ensures.goes_on c.serve_some.ensures.goes_on)
          c.others-2.ensures.goes_on;
    }
