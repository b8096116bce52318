use Rattle.std.proofs.Common.{[], ◌∷◌, ◌≤◌, length, sym, subst}
use Rattle.hp_hall.specs.HallCalls.{HasComeTo}
use Rattle.hp_hall.specs.Mail.{Notes}
use Rattle.hp_hall.specs.Own.{after_partial}
use Rattle.hp_hall.specs.declared.note.Note.TheVariants.{Unmapped}
use Rattle.hp_plain.specs.HallView.{own_at, seen_in}
use Rattle.hp_solo.specs.Solo.{SoloView, solo_measure}
use Rattle.hp_solo.specs.SoloCourse.{IsSoloCourse}
use Rattle.hp_solo.specs.SoloState.{solo_state}
use Rattle.hp_solo.proofs.SoloCalls.{goes_on_by, holds_after}
use Rattle.hp_solo.proofs.SoloStates.{comes_over, measure_same}
use Rattle.hp_solo.proofs.solo_hall.calls.SoloHallHall.note_unmapped.Goals as goal

pub invariant_of-self : goal.invariant_of-self
invariant_of-self g c =
    holds_after c.args.self.now c.self.inside.plain c.self.inside.servers.items c.self.view_is c.args.me c.requires.serves c.self.invariant
    c.note_unmapped.new.self c.note_unmapped.ensures.goes_on c.note_unmapped.ensures.own.others.own c.note_unmapped.ensures.own.others.joined c.note_unmapped.ensures.own.others.part

pub returns : goal.returns
returns g c =
    let value = c.args.self.now in
    let old = c.self.inside.plain in
    let new = c.note_unmapped.new.self in
    let servers = c.self.inside.servers.items in
    let me = c.args.me in
    let is = c.note_unmapped.ensures in
    let after : SoloView = record { plain = new; servers = servers } in
    let goes = goes_on_by value old servers c.self.view_is me c.requires.serves new (Notes Unmapped) tt is.goes_on is.own.did is.own.others in
    let here = subst (λ (hall : SoloView). IsSoloCourse hall after) (sym c.self.view_is) goes in
    record {
      own = subst (λ (hall : SoloView). HasComeTo me (after_partial (length (seen_in hall.plain)) (own_at hall.plain me)) (Notes Unmapped ∷ []) (solo_state hall) (solo_state after)) c.self.view_is (comes_over me old new servers (after_partial (length (seen_in old)) (own_at old me)) (Notes Unmapped ∷ []) here is.own);
      measure = subst (λ (hall : SoloView). solo_measure after ≤ solo_measure hall) c.self.view_is (measure_same me old new servers is.own.others.clock is.measure);
      goes_on = goes;
    }
