use Rattle.std.proofs.Common.{[], ◌∷◌, ◌≤◌, sym, subst, ◌+◌, ◌*◌}
use Rattle.hp_hall.specs.HallState.{Did, Stays}
use Rattle.hp_hall.specs.Mail.{Fetches}
use Rattle.hp_hall.specs.Measures.{fetched_measure}
use Rattle.hp_solo.specs.Solo.{SoloView, solo_measure}
use Rattle.hp_solo.specs.SoloCourse.{IsSoloCourse}
use Rattle.hp_solo.specs.SoloState.{solo_state}
use Rattle.hp_solo.proofs.SoloCalls.{goes_on_by, holds_after}
use Rattle.hp_solo.proofs.SoloStates.{did_over, stays_over, measure_less}
use Rattle.hp_solo.proofs.solo_hall.calls.SoloHallHall.fetch.Goals as goal

pub invariant_of-self : goal.invariant_of-self
invariant_of-self g c =
    holds_after c.args.self.now c.self.inside.plain c.self.inside.servers.items c.self.view_is c.args.me c.requires.serves c.self.invariant
    c.fetch.new.self c.fetch.ensures.goes_on c.fetch.ensures.stays.others.own c.fetch.ensures.stays.others.joined c.fetch.ensures.stays.others.part

pub returns : goal.returns
returns g c =
    let value = c.args.self.now in
    let old = c.self.inside.plain in
    let new = c.fetch.new.self in
    let servers = c.self.inside.servers.items in
    let me = c.args.me in
    let is = c.fetch.ensures in
    let after : SoloView = record { plain = new; servers = servers } in
    let goes = goes_on_by value old servers c.self.view_is me c.requires.serves new (Fetches c.fetch.result) tt is.goes_on is.did is.stays.others in
    let here = subst (λ (hall : SoloView). IsSoloCourse hall after) (sym c.self.view_is) goes in
    record {
      did = subst (λ (hall : SoloView). Did me (Fetches c.fetch.result ∷ []) (solo_state hall) (solo_state after)) c.self.view_is (did_over me old new servers (Fetches c.fetch.result ∷ []) is.did);
      stays = subst (λ (hall : SoloView). Stays me (solo_state hall) (solo_state after)) c.self.view_is (stays_over me old new servers here is.stays);
      measure = subst (λ (hall : SoloView). solo_measure after + 1 * fetched_measure c.fetch.result ≤ solo_measure hall) c.self.view_is (measure_less me old new servers (1 * fetched_measure c.fetch.result) is.stays.others.clock is.measure);
      goes_on = goes;
    }
