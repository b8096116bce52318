use Rattle.std.proofs.Common.{◌≤◌, sym, subst}
use Rattle.hp_hall.specs.HallCalls.{HasStored, MayStore}
use Rattle.hp_hall.specs.Mail.{Notes}
use Rattle.hp_hall.specs.declared.note.Note.TheVariants.{Stored}
use Rattle.hp_solo.specs.Solo.{SoloView, solo_measure}
use Rattle.hp_solo.specs.SoloCourse.{IsSoloCourse}
use Rattle.hp_solo.specs.SoloState.{solo_state}
use Rattle.hp_solo.proofs.SoloCalls.{goes_on_by, holds_after}
use Rattle.hp_solo.proofs.SoloStates.{stored_over, measure_same}
use Rattle.hp_solo.proofs.solo_hall.calls.SoloHallHall.store_done.Goals as goal

pub store_done-requires-clause-may : goal.store_done-requires-clause-may
store_done-requires-clause-may g c =
    let may : MayStore c.args.me c.args.lines (solo_state (record { plain = c.self.inside.plain; servers = c.self.inside.servers.items })) =
    subst (λ (hall : SoloView). MayStore c.args.me c.args.lines (solo_state hall)) (sym c.self.view_is) c.requires.may in
    record { rises = may.rises; free = may.free; names = may.names }

pub invariant_of-self : goal.invariant_of-self
invariant_of-self g c =
    holds_after c.args.self.now c.self.inside.plain c.self.inside.servers.items c.self.view_is c.args.me c.requires.serves c.self.invariant
    c.store_done.new.self c.store_done.ensures.goes_on c.store_done.ensures.stored.others.own c.store_done.ensures.stored.others.joined c.store_done.ensures.stored.others.part

pub returns : goal.returns
returns g c =
    let value = c.args.self.now in
    let old = c.self.inside.plain in
    let new = c.store_done.new.self in
    let servers = c.self.inside.servers.items in
    let me = c.args.me in
    let is = c.store_done.ensures in
    let after : SoloView = record { plain = new; servers = servers } in
    let goes = goes_on_by value old servers c.self.view_is me c.requires.serves new (Notes (Stored c.args.lines)) tt is.goes_on is.stored.did is.stored.others in
    let here = subst (λ (hall : SoloView). IsSoloCourse hall after) (sym c.self.view_is) goes in
    record {
      stored = subst (λ (hall : SoloView). HasStored me c.args.lines (solo_state hall) (solo_state after)) c.self.view_is
          (stored_over me old new servers c.args.lines here is.stored);
      measure = subst (λ (hall : SoloView). solo_measure after ≤ solo_measure hall) c.self.view_is
          (measure_same me old new servers is.stored.others.clock is.measure);
      goes_on = goes;
    }
