-- Those below serve, then the participant, then those above.
use Rattle.std.proofs.Common.{◌∙◌, ℕ, ◌*◌, true, false, [], ◌∷◌, None, Some, refl, ap, sym, subst, arith}
use Rattle.std.specs.Result.{result_ok}
use Rattle.std.proofs.lemmas.Result.{err_from_is_err_and}
use Rattle.hp_hall.specs.HallState.{Did}
use Rattle.hp_hall.specs.Mail.{Notes}
use Rattle.hp_hall.specs.declared.note.Note.TheVariants.{Yielded}
use Rattle.hp_hall.proofs.HallStates.{did_then}
use Rattle.hp_serve.specs.Falling.{served_of}
use Rattle.hp_serve.specs.Party.{Party}
use Rattle.hp_serve.specs.Waiting.{HaveServed}
use Rattle.hp_serve.proofs.Carrying.{stop_differs}
use Rattle.hp_serve.proofs.InHalls.{in_can, in_may, in_others, in_tied, in_then}
use Rattle.hp_serve.proofs.Scaled.{own_measure_still}
use Rattle.hp_serve.proofs.Waits.{above_stop, all_pay, all_served, or_none, own_stops}
use Rattle.hp_serve.proofs.server.Server.serve_all.Goals as goal

pub others-requires : goal.others-requires
others-requires g c = record {
  serves = subst (g.H.Hall.state c.args.hall.now).serves (sym (ap (λ (party : Party). party.me) c.self.view_is)) c.requires.can.may.serves;
  free = c.requires.can.may.free;
  home = c.requires.can.may.home;
}

pub serve_some-requires : goal.serve_some-requires
serve_some-requires g c =
    let below = in_others c.args.self.now (ap (λ (party : Party). party.me) c.self.view_is) c.others.ensures.idles.slots c.others.ensures.idles.mine
    c.others.ensures.idles.later c.requires.can.tied in
    record { may_ask = c.requires.may_ask; can = in_can below c.requires.can }

pub others-requires-2 : goal.others-requires-2
others-requires-2 g c =
    let here = ap (λ (party : Party). party.me) c.self.view_is in
    let below = in_others c.args.self.now here c.others.ensures.idles.slots c.others.ensures.idles.mine c.others.ensures.idles.later c.requires.can.tied in
    let own = in_may (in_then below c.serve_some.ensures.alone.stays) c.requires.can.may in
    let me = here ∙ sym c.serve_some.ensures.alone.stays.same.me in
    record {
      serves = subst (g.H.Hall.state c.serve_some.new.hall).serves (sym me) own.serves;
      free = own.free;
      home = own.home;
    }

-- ONE BELOW STOPPED

pub returns-in_err-below : goal.returns-in_err-below
returns-in_err-below g c =
    let old = g.H.Hall.state c.args.hall.now in
    let mid = g.H.Hall.state c.others.new.self in
    let here = ap (λ (party : Party). party.me) c.self.view_is in
    let stopped = err_from_is_err_and c.from_residual.result c.from_residual.ensures.1 in
    let none = ap (λ (n : ℕ). g.H.Hall.scale * n) (ap served_of stopped.1) in
    let lighter = c.others.ensures.measure in
    let own = own_measure_still g.H.Hall.scale g.H.Hall.pending old.clock mid.clock c.args.self.now.core c.others.ensures.clock in
    record {
      served = (
        _,
        subst (λ (who : ℕ). Did who (Notes (Yielded false (result_ok c.others.result)) ∷ []) old mid) here c.others.ensures.idles.did,
        HaveServed.below_stops (ap (λ moved. Notes (Yielded false moved) ∷ []) (ap result_ok c.in_err-below.was)) refl (ap result_ok stopped.1),
      );
      measure = omega (arith, none, lighter, own);
      rests = λ is. absurd (stop_differs c.from_residual.result (ap result_ok stopped.1) is);
      stays = in_others c.args.self.now here c.others.ensures.idles.slots c.others.ensures.idles.mine c.others.ensures.idles.later c.requires.can.tied;
      clock = c.others.ensures.clock;
      goes_on = c.others.ensures.goes_on;
    }

-- IT STOPPED

pub returns-in_err-own : goal.returns-in_err-own
returns-in_err-own g c =
    let old = g.H.Hall.state c.args.hall.now in
    let mid = g.H.Hall.state c.others.new.self in
    let here = ap (λ (party : Party). party.me) c.self.view_is in
    let stopped = err_from_is_err_and c.from_residual-in_err-own.result c.from_residual-in_err-own.ensures.1 in
    let one = c.in_err-own.ensures.served in
    let below = in_others c.args.self.now here c.others.ensures.idles.slots c.others.ensures.idles.mine c.others.ensures.idles.later c.requires.can.tied in
    let none = ap (λ (n : ℕ). g.H.Hall.scale * n) (ap served_of stopped.1) in
    let lighter = c.others.ensures.measure in
    let served = c.serve_some.ensures.measure in
    let own = own_measure_still g.H.Hall.scale g.H.Hall.pending old.clock mid.clock c.args.self.now.core c.others.ensures.clock in
    record {
      served = (
        _,
        did_then (subst (λ (who : ℕ). Did who (Notes (Yielded false (result_ok c.others.result)) ∷ []) old mid) here c.others.ensures.idles.did) one.1,
        own_stops old.count mid.count c.others.ensures.idles.later.count c.args.self.now c.serve_some.new.self one.0 (result_ok c.others.result) None _
            c.in_ok-below.below (ap result_ok c.in_ok-below.was) one.2 (ap result_ok stopped.1),
      );
      measure = omega (arith, none, lighter, served, own);
      rests = λ is. absurd (stop_differs c.from_residual-in_err-own.result (ap result_ok stopped.1) is);
      stays = in_then below c.serve_some.ensures.alone.stays;
      clock = c.serve_some.ensures.alone.others.clock ∙ c.others.ensures.clock;
      goes_on = g.met.H.Hall.goes_on_then _ _ _ c.others.ensures.goes_on c.serve_some.ensures.goes_on;
    }

-- ONE ABOVE STOPPED

pub returns-in_err-above : goal.returns-in_err-above
returns-in_err-above g c =
    let old = g.H.Hall.state c.args.hall.now in
    let mid = g.H.Hall.state c.others.new.self in
    let late = g.H.Hall.state c.serve_some.new.hall in
    let new = g.H.Hall.state c.others-2.new.self in
    let here = ap (λ (party : Party). party.me) c.self.view_is in
    let stopped = err_from_is_err_and c.from_residual-in_err-above.result c.from_residual-in_err-above.ensures.1 in
    let one = c.in_ok-own.ensures.served in
    let below = in_others c.args.self.now here c.others.ensures.idles.slots c.others.ensures.idles.mine c.others.ensures.idles.later c.requires.can.tied in
    let mine = in_then below c.serve_some.ensures.alone.stays in
    let above = in_others c.serve_some.new.self (here ∙ sym mine.same.me) c.others-2.ensures.idles.slots c.others-2.ensures.idles.mine c.others-2.ensures.idles.later
    (in_tied mine) in
    let none = ap (λ (n : ℕ). g.H.Hall.scale * n) (ap served_of stopped.1) in
    let lighter = c.others.ensures.measure in
    let served = c.serve_some.ensures.measure in
    let lighter_still = c.others-2.ensures.measure in
    let own = own_measure_still g.H.Hall.scale g.H.Hall.pending old.clock mid.clock c.args.self.now.core c.others.ensures.clock in
    let own_still = own_measure_still g.H.Hall.scale g.H.Hall.pending late.clock new.clock c.serve_some.new.self.core c.others-2.ensures.clock in
    record {
      served = (
        _,
        did_then (did_then (subst (λ (who : ℕ). Did who (Notes (Yielded false (result_ok c.others.result)) ∷ []) old mid) here c.others.ensures.idles.did) one.1)
            (subst (λ (who : ℕ). Did who (Notes (Yielded true (result_ok c.others-2.result)) ∷ []) late new) here c.others-2.ensures.idles.did),
        above_stop old.count mid.count c.others.ensures.idles.later.count c.args.self.now c.serve_some.new.self one.0 (result_ok c.others.result)
            (result_ok c.others-2.result) _ c.in_ok-below.below c.in_ok-own.own (ap result_ok c.in_ok-below.was) one.2
            (ap result_ok c.in_err-above.was) (ap result_ok stopped.1),
      );
      measure = omega (arith, none, lighter, served, lighter_still, own, own_still);
      rests = λ is. absurd (stop_differs c.from_residual-in_err-above.result (ap result_ok stopped.1) is);
      stays = in_then mine above;
      clock = c.others-2.ensures.clock ∙ c.serve_some.ensures.alone.others.clock ∙ c.others.ensures.clock;
      goes_on = g.met.H.Hall.goes_on_then _ _ _ (g.met.H.Hall.goes_on_then _ _ _ c.others.ensures.goes_on c.serve_some.ensures.goes_on)
          c.others-2.ensures.goes_on;
    }

-- ALL HAVE SERVED

pub returns : goal.returns
returns g c =
    let old = g.H.Hall.state c.args.hall.now in
    let mid = g.H.Hall.state c.others.new.self in
    let late = g.H.Hall.state c.serve_some.new.hall in
    let new = g.H.Hall.state c.others-2.new.self in
    let here = ap (λ (party : Party). party.me) c.self.view_is in
    let one = c.in_ok-own.ensures.served in
    let below = in_others c.args.self.now here c.others.ensures.idles.slots c.others.ensures.idles.mine c.others.ensures.idles.later c.requires.can.tied in
    let mine = in_then below c.serve_some.ensures.alone.stays in
    let above = in_others c.serve_some.new.self (here ∙ sym mine.same.me) c.others-2.ensures.idles.slots c.others-2.ensures.idles.mine c.others-2.ensures.idles.later
    (in_tied mine) in
    let lighter = c.others.ensures.measure in
    let served = c.serve_some.ensures.measure in
    let lighter_still = c.others-2.ensures.measure in
    let own = own_measure_still g.H.Hall.scale g.H.Hall.pending old.clock mid.clock c.args.self.now.core c.others.ensures.clock in
    let own_still = own_measure_still g.H.Hall.scale g.H.Hall.pending late.clock new.clock c.serve_some.new.self.core c.others-2.ensures.clock in
    let paid =
    all_pay g.H.Hall.scale c.others.result c.serve_some.result c.others-2.result _ c.in_ok-below.below c.in_ok-own.own c.in_ok-above.above
    c.has_moved.result c.in_ok-below.was c.in_ok-own.was c.in_ok-above.was c.has_moved.ensures refl
    in
    record {
      served = (
        _,
        did_then (did_then (subst (λ (who : ℕ). Did who (Notes (Yielded false (result_ok c.others.result)) ∷ []) old mid) here c.others.ensures.idles.did) one.1)
            (subst (λ (who : ℕ). Did who (Notes (Yielded true (result_ok c.others-2.result)) ∷ []) late new) here c.others-2.ensures.idles.did),
        all_served old.count mid.count c.others.ensures.idles.later.count c.args.self.now c.serve_some.new.self one.0 (result_ok c.others.result)
            (result_ok c.others-2.result) _ c.in_ok-below.below c.in_ok-own.own c.in_ok-above.above (ap result_ok c.in_ok-below.was) one.2
            (ap result_ok c.in_ok-above.was) (ap Some c.has_moved.ensures),
      );
      measure = omega (arith, lighter, served, lighter_still, own, own_still, paid);
      rests = λ is deadline due early.
          ap (λ (at : ℕ). g.H.Hall.pending at deadline) c.others-2.ensures.clock
          ∙ c.serve_some.ensures.rests (or_none c.serve_some.result _ c.in_ok-own.own _ c.has_moved.result c.in_ok-own.was refl c.has_moved.ensures is)
          deadline due early;
      stays = in_then mine above;
      clock = c.others-2.ensures.clock ∙ c.serve_some.ensures.alone.others.clock ∙ c.others.ensures.clock;
      goes_on = g.met.H.Hall.goes_on_then _ _ _ (g.met.H.Hall.goes_on_then _ _ _ c.others.ensures.goes_on c.serve_some.ensures.goes_on)
          c.others-2.ensures.goes_on;
    }
