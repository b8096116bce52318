use Rattle.std.proofs.Common.{ℕ, ◌≤◌, sym, subst}
use Rattle.hp_hall.specs.HallCalls.{HasTaken}
use Rattle.hp_hall.specs.HallState.{OthersStay, SlotsStayBut}
use Rattle.hp_hall.specs.Mail.{Takes}
use Rattle.hp_hall.specs.Slots.{slot_number}
use Rattle.hp_solo.specs.Solo.{SoloView, solo_measure}
use Rattle.hp_solo.specs.SoloCourse.{IsSoloCourse}
use Rattle.hp_solo.specs.SoloState.{solo_state}
use Rattle.hp_solo.proofs.SoloCalls.{goes_on_by, holds_after}
use Rattle.hp_solo.proofs.SoloStates.{but_over, others_over, taken_over, measure_same}
use Rattle.hp_solo.proofs.solo_hall.calls.SoloHallHall.take.Goals as goal

pub invariant_of-self : goal.invariant_of-self
invariant_of-self g c =
    holds_after c.args.self.now c.self.inside.plain c.self.inside.servers.items c.self.view_is c.args.me c.requires.serves c.self.invariant
    c.take.new.self c.take.ensures.goes_on c.take.ensures.others.own c.take.ensures.others.joined c.take.ensures.others.part

pub returns : goal.returns
returns g c =
    let value = c.args.self.now in
    let old = c.self.inside.plain in
    let new = c.take.new.self in
    let servers = c.self.inside.servers.items in
    let me = c.args.me in
    let is = c.take.ensures in
    let after : SoloView = record { plain = new; servers = servers } in
    let number : ℕ = slot_number c.args.slot in
    let goes = goes_on_by value old servers c.self.view_is me c.requires.serves new (Takes number c.take.result) tt is.goes_on is.took.did is.others in
    let here = subst (λ (hall : SoloView). IsSoloCourse hall after) (sym c.self.view_is) goes in
    record {
      took = subst (λ (hall : SoloView). HasTaken me number c.take.result (solo_state hall) (solo_state after)) c.self.view_is (taken_over me old new servers number c.take.result is.took);
      slots = subst (λ (hall : SoloView). SlotsStayBut number (solo_state hall) (solo_state after)) c.self.view_is (but_over me old new servers number is.slots);
      others = subst (λ (hall : SoloView). OthersStay me (solo_state hall) (solo_state after)) c.self.view_is (others_over me old new servers here is.others);
      measure = subst (λ (hall : SoloView). solo_measure after ≤ solo_measure hall) c.self.view_is (measure_same me old new servers is.others.clock is.measure);
      goes_on = goes;
    }
