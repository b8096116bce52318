use Rattle.std.proofs.Common.{[], ◌∷◌, ◌≤◌, sym, subst}
use Rattle.hp_hall.specs.HallCalls.{HasComeTo}
use Rattle.hp_hall.specs.Mail.{Notes}
use Rattle.hp_hall.specs.Own.{after_ack}
use Rattle.hp_hall.specs.declared.note.Note.TheVariants.{Acked}
use Rattle.hp_solo.specs.Solo.{SoloView, solo_measure}
use Rattle.hp_solo.specs.SoloCourse.{IsSoloCourse}
use Rattle.hp_solo.specs.SoloState.{solo_state}
use Rattle.hp_solo.proofs.SoloCalls.{goes_on_by, holds_after}
use Rattle.hp_solo.proofs.SoloStates.{comes_over, measure_same}
use Rattle.hp_solo.proofs.solo_hall.calls.SoloHallHall.ack.Goals as goal

pub invariant_of-self : goal.invariant_of-self
invariant_of-self g c =
    holds_after c.args.self.now c.self.inside.plain c.self.inside.servers.items c.self.view_is c.args.me c.requires.serves c.self.invariant
    c.ack.new.self c.ack.ensures.goes_on c.ack.ensures.own.others.own c.ack.ensures.own.others.joined c.ack.ensures.own.others.part

pub returns : goal.returns
returns g c =
    let value = c.args.self.now in
    let old = c.self.inside.plain in
    let new = c.ack.new.self in
    let servers = c.self.inside.servers.items in
    let me = c.args.me in
    let is = c.ack.ensures in
    let after : SoloView = record { plain = new; servers = servers } in
    let goes = goes_on_by value old servers c.self.view_is me c.requires.serves new (Notes (Acked c.args.number)) tt is.goes_on is.own.did is.own.others in
    let here = subst (λ (hall : SoloView). IsSoloCourse hall after) (sym c.self.view_is) goes in
    record {
      own = subst (λ (hall : SoloView). HasComeTo me (after_ack c.args.number) (Notes (Acked c.args.number) ∷ []) (solo_state hall) (solo_state after)) c.self.view_is (comes_over me old new servers (after_ack c.args.number) (Notes (Acked c.args.number) ∷ []) here is.own);
      measure = subst (λ (hall : SoloView). solo_measure after ≤ solo_measure hall) c.self.view_is (measure_same me old new servers is.own.others.clock is.measure);
      goes_on = goes;
    }
