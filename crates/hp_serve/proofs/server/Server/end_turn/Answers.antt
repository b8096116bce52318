-- It pauses for the sooner deadline.
use Rattle.std.proofs.Common.{◌≡◌, ◌∙◌, ℕ, ◌≤◌, ◌⊎◌, [], ◌∷◌, Some, refl, ap, sym, subst, inl, inr, ⊎_elim, arith}
use Rattle.hp_hall.specs.HallState.{Did, MineStay, Waits}
use Rattle.hp_hall.specs.Mail.{Notes}
use Rattle.hp_hall.specs.Measures.{pause_measure}
use Rattle.hp_hall.specs.declared.note.Note.TheVariants.{Paused}
use Rattle.hp_hall.proofs.HallStates.{did_then, waits_by, waits_idle, waits_then}
use Rattle.hp_serve.specs.Party.{Party}
use Rattle.hp_serve.proofs.Scaled.{own_measure_still}
use Rattle.hp_serve.proofs.Waits.{pause_falls}
use Rattle.hp_serve.proofs.server.Server.end_turn.Goals as goal

pub pause-requires-clause-serves : goal.pause-requires-clause-serves
pause-requires-clause-serves g c =
    subst (g.H.Hall.state c.next_deadline-next.new.hall).serves (sym (ap (λ (party : Party). party.me) c.self.view_is))
    (c.next_deadline-next.ensures.stays.others.later.serves _ c.requires.serves)

pub pause-requires-clause-before : goal.pause-requires-clause-before
pause-requires-clause-before g c = c.next_deadline-next.ensures.before

pub returns-clause-falls : goal.returns-clause-falls
returns-clause-falls g c =
    let next = c.next_deadline-next in
    let clock = next.ensures.stays.others.clock in
    let old = g.H.Hall.state c.args.hall.now in
    let mid = g.H.Hall.state next.new.hall in
    let new = g.H.Hall.state c.pause.new.self in
    let paused =
    pause_falls g.H.Hall.scale (g.H.Hall.pending new.clock) (g.H.Hall.pending mid.clock) c.pause.ensures.lower c.args.self.now.core
    mid.measure new.measure (pause_measure g.H.Hall.scale c.args.moved) next.ensures.sooner.0 c.args.until next.result c.pause.ensures.falls
    next.ensures.sooner.2.whose
    in
    let own = own_measure_still g.H.Hall.scale g.H.Hall.pending old.clock mid.clock c.args.self.now.core clock in
    let until = ap (λ (at : ℕ). g.H.Hall.pending at c.args.until) clock in
    let lighter = next.ensures.measure in
    omega (arith, paused, own, until, lighter)

pub returns-clause-paused : goal.returns-clause-paused
returns-clause-paused g c =
    let next = c.next_deadline-next in
    let old = g.H.Hall.state c.args.hall.now in
    let mid = g.H.Hall.state next.new.hall in
    let new = g.H.Hall.state c.pause.new.self in
    record {
      reading = next.ensures.sooner.0;
      sooner = next.result;
      read = next.ensures.sooner.1;
      is_sooner = next.ensures.sooner.2;
      goes = ⊎_elim {C = (new.clock ≡ old.clock) ⊎ (new.clock ≤ next.result)}
          (λ (same : new.clock ≡ mid.clock). inl (same ∙ next.ensures.stays.others.clock))
          (λ (below : new.clock ≤ next.result). inr below)
          c.pause.ensures.clock;
    }

pub returns-clause-did : goal.returns-clause-did
returns-clause-did g c =
    let next = c.next_deadline-next in
    let mid = g.H.Hall.state next.new.hall in
    let new = g.H.Hall.state c.pause.new.self in (
      _,
      did_then next.ensures.sooner.3
          (subst (λ (who : ℕ). Did who (Notes (Paused c.args.moved (Some next.result)) ∷ []) mid new)
          (ap (λ (party : Party). party.me) c.self.view_is) c.pause.ensures.idles.did),
      record { now = next.ensures.sooner.0; next = next.result; sooner = next.ensures.sooner.2; are = refl },
    )

pub returns-clause-waits : goal.returns-clause-waits
returns-clause-waits g c =
    waits_then (waits_by c.next_deadline-next.ensures.stays)
    (subst (λ (who : ℕ). Waits who (g.H.Hall.state c.next_deadline-next.new.hall) (g.H.Hall.state c.pause.new.self))
    (ap (λ (party : Party). party.me) c.self.view_is) (waits_idle c.pause.ensures.idles))

pub returns-clause-own : goal.returns-clause-own
returns-clause-own g c =
    let mine = subst (λ (who : ℕ). MineStay who (g.H.Hall.state c.next_deadline-next.new.hall) (g.H.Hall.state c.pause.new.self))
    (ap (λ (party : Party). party.me) c.self.view_is) c.pause.ensures.idles.mine in
    mine.own ∙ c.next_deadline-next.ensures.stays.mine.own

pub returns-clause-goes_on : goal.returns-clause-goes_on
returns-clause-goes_on g c = g.met.H.Hall.goes_on_then _ _ _ c.next_deadline-next.ensures.goes_on c.pause.ensures.goes_on
