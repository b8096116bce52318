use Rattle.std.proofs.Common.{◌≤◌, sym, subst}
use Rattle.hp_hall.specs.HallCalls.{HasLoadedLines}
use Rattle.hp_hall.specs.Mail.{Notes}
use Rattle.hp_hall.specs.declared.note.Note.TheVariants.{LoadedDone}
use Rattle.hp_solo.specs.Solo.{SoloView, solo_measure}
use Rattle.hp_solo.specs.SoloCourse.{IsSoloCourse}
use Rattle.hp_solo.specs.SoloState.{solo_state}
use Rattle.hp_solo.proofs.SoloCalls.{goes_on_by, holds_after}
use Rattle.hp_solo.proofs.SoloStates.{loaded_over, measure_same}
use Rattle.hp_solo.proofs.solo_hall.calls.SoloHallHall.load_done.Goals as goal

pub invariant_of-self : goal.invariant_of-self
invariant_of-self g c =
    let stays = c.load_done.ensures.loaded.stays in
    holds_after c.args.self.now c.self.inside.plain c.self.inside.servers.items c.self.view_is c.args.me c.requires.serves c.self.invariant
    c.load_done.new.self c.load_done.ensures.goes_on stays.others.own stays.others.joined stays.others.part

pub returns : goal.returns
returns g c =
    let value = c.args.self.now in
    let old = c.self.inside.plain in
    let new = c.load_done.new.self in
    let servers = c.self.inside.servers.items in
    let me = c.args.me in
    let lines = c.load_done.result in
    let is = c.load_done.ensures in
    let after : SoloView = record { plain = new; servers = servers } in
    let goes = goes_on_by value old servers c.self.view_is me c.requires.serves new (Notes (LoadedDone c.args.participant lines)) tt is.goes_on
    is.loaded.did is.loaded.stays.others in
    let here = subst (λ (hall : SoloView). IsSoloCourse hall after) (sym c.self.view_is) goes in
    record {
      loaded = subst (λ (hall : SoloView). HasLoadedLines me c.args.participant lines (solo_state hall) (solo_state after)) c.self.view_is
          (loaded_over me old new servers c.args.participant lines here is.loaded);
      measure = subst (λ (hall : SoloView). solo_measure after ≤ solo_measure hall) c.self.view_is
          (measure_same me old new servers is.loaded.stays.others.clock is.measure);
      goes_on = goes;
    }
