use Rattle.std.proofs.Common.{◌≤◌, sym, subst}
use Rattle.hp_hall.specs.HallCalls.{HasPublished, MayPublish}
use Rattle.hp_hall.specs.Mail.{Notes}
use Rattle.hp_hall.specs.Values.{pair_in}
use Rattle.hp_hall.specs.declared.note.Note.TheVariants.{Published}
use Rattle.hp_plain.proofs.Given.{known}
use Rattle.hp_solo.specs.Solo.{SoloView, solo_measure}
use Rattle.hp_solo.specs.SoloCourse.{IsSoloCourse}
use Rattle.hp_solo.specs.SoloState.{solo_state}
use Rattle.hp_solo.proofs.SoloCalls.{goes_on_by, holds_after}
use Rattle.hp_solo.proofs.SoloStates.{published_over, measure_same}
use Rattle.hp_solo.proofs.solo_hall.calls.SoloHallHall.publish.Goals as goal

pub publish-requires-clause-may : goal.publish-requires-clause-may
publish-requires-clause-may g c =
    subst (λ (hall : SoloView). MayPublish (known hall.plain c.args.me) c.args.heap c.args.kept.now) (sym c.self.view_is) c.requires.may

pub invariant_of-self : goal.invariant_of-self
invariant_of-self g c =
    let others = c.publish.ensures.published.others in
    holds_after c.args.self.now c.self.inside.plain c.self.inside.servers.items c.self.view_is c.args.me c.requires.serves c.self.invariant
    c.publish.new.self c.publish.ensures.goes_on others.own others.joined others.part

pub returns : goal.returns
returns g c =
    let value = c.args.self.now in
    let old = c.self.inside.plain in
    let new = c.publish.new.self in
    let servers = c.self.inside.servers.items in
    let me = c.args.me in
    let kept = c.args.kept.now in
    let late = c.publish.new.kept in
    let is = c.publish.ensures in
    let after : SoloView = record { plain = new; servers = servers } in
    let goes = goes_on_by value old servers c.self.view_is me c.requires.serves new (Notes (Published c.args.heap (pair_in kept))) tt is.goes_on
    is.published.did is.published.others in
    let here = subst (λ (hall : SoloView). IsSoloCourse hall after) (sym c.self.view_is) goes in
    record {
      published = subst (λ (hall : SoloView). HasPublished me c.args.heap kept late (solo_state hall) (solo_state after)) c.self.view_is
          (published_over me old new servers c.args.heap kept late here is.published);
      measure = subst (λ (hall : SoloView). solo_measure after ≤ solo_measure hall) c.self.view_is
          (measure_same me old new servers is.published.others.clock is.measure);
      goes_on = goes;
    }
