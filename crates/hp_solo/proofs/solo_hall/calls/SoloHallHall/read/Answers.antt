use Rattle.std.proofs.Common.{◌≤◌, sym, subst}
use Rattle.hp_hall.specs.HallCalls.{HasReadPair}
use Rattle.hp_hall.specs.Mail.{Notes}
use Rattle.hp_hall.specs.declared.note.Note.TheVariants.{ReadStats}
use Rattle.hp_solo.specs.Solo.{SoloView, solo_measure}
use Rattle.hp_solo.specs.SoloCourse.{IsSoloCourse}
use Rattle.hp_solo.specs.SoloState.{solo_state}
use Rattle.hp_solo.proofs.SoloCalls.{goes_on_by, holds_after}
use Rattle.hp_solo.proofs.SoloStates.{read_over, measure_same}
use Rattle.hp_stats.specs.Pairs.{pair}
use Rattle.hp_stats.specs.declared.stat_pair.StatPair.{StatPair}
use Rattle.hp_solo.proofs.solo_hall.calls.SoloHallHall.read.Goals as goal

pub invariant_of-self : goal.invariant_of-self
invariant_of-self g c =
    let stays = c.read.ensures.read.stays in
    holds_after c.args.self.now c.self.inside.plain c.self.inside.servers.items c.self.view_is c.args.me c.requires.serves c.self.invariant
    c.read.new.self c.read.ensures.goes_on stays.others.own stays.others.joined stays.others.part

pub returns : goal.returns
returns g c =
    let value = c.args.self.now in
    let old = c.self.inside.plain in
    let new = c.read.new.self in
    let servers = c.self.inside.servers.items in
    let me = c.args.me in
    let found : StatPair = pair c.read.result.0 c.read.result.1 in
    let is = c.read.ensures in
    let after : SoloView = record { plain = new; servers = servers } in
    let goes = goes_on_by value old servers c.self.view_is me c.requires.serves new (Notes (ReadStats c.args.heap found)) tt is.goes_on
    is.read.did is.read.stays.others in
    let here = subst (λ (hall : SoloView). IsSoloCourse hall after) (sym c.self.view_is) goes in
    record {
      read = subst (λ (hall : SoloView). HasReadPair me c.args.heap found (solo_state hall) (solo_state after)) c.self.view_is
          (read_over me old new servers c.args.heap found here is.read);
      measure = subst (λ (hall : SoloView). solo_measure after ≤ solo_measure hall) c.self.view_is
          (measure_same me old new servers is.read.stays.others.clock is.measure);
      goes_on = goes;
    }
