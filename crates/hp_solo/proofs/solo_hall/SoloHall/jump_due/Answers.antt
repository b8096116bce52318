-- A pause until the least deadline that is still to come, or none.
use Rattle.std.proofs.Common.{ℕ, ◌+◌, ◌≤◌, List, None, false, refl, subst}
use Rattle.hp_solo.specs.Draining.{IsNoneDue, TurnsLeave}
use Rattle.hp_solo.specs.Solo.{IsPendingDue, AloneView, SoloView, solo_measure}
use Rattle.hp_solo.proofs.SoloDrained.{due_falls, turns_paused, turns_same}
use Rattle.hp_solo.proofs.SoloTurns.{later_paused, solo_paused}
use Rattle.hp_solo.proofs.solo_hall.SoloHall.jump_due.Goals as goal

pub invariant_of-self : goal.invariant_of-self
invariant_of-self g c =
    solo_paused c.self.inside.plain c.pause.new.self c.self.inside.servers.items 0 false None c.in-Some.due c.pause.ensures.hall c.self.invariant

pub returns-in-None-clause-leaves : goal.returns-in-None-clause-leaves
returns-in-None-clause-leaves g c = turns_same c.args.self.now

pub returns-in-None-clause-none : goal.returns-in-None-clause-none
returns-in-None-clause-none g c = λ still.
    subst (λ (hall : SoloView). IsNoneDue hall.plain.clock hall.servers) c.self.view_is
    (subst (λ (clock : ℕ). IsNoneDue clock c.self.inside.servers.items) c.clock.ensures
    (subst (λ (servers : List AloneView). IsNoneDue c.clock.result servers) c.as_slice.ensures.value c.in-None.ensures.none))

pub returns-in-Some-clause-leaves : goal.returns-in-Some-clause-leaves
returns-in-Some-clause-leaves g c =
    let servers = c.self.inside.servers.items in
    let old : SoloView = record { plain = c.self.inside.plain; servers = servers } in
    let new : SoloView = record { plain = c.pause.new.self; servers = servers } in
    subst (λ (before : SoloView). TurnsLeave before new) c.self.view_is
    (turns_paused old new c.in-Some.due c.pause.ensures.course
    (later_paused c.self.inside.plain c.pause.new.self servers c.in-Some.due c.pause.ensures.hall) c.pause.ensures.hall)

pub returns-in-Some-clause-measure : goal.returns-in-Some-clause-measure
returns-in-Some-clause-measure g c =
    let servers = c.self.inside.servers.items in
    let due = c.in-Some.due in
    let old : SoloView = record { plain = c.self.inside.plain; servers = servers } in
    let new : SoloView = record { plain = c.pause.new.self; servers = servers } in
    let pending : IsPendingDue old.plain.clock servers due =
    subst (λ (clock : ℕ). IsPendingDue clock servers due) c.clock.ensures
    (subst (λ (all : List AloneView). IsPendingDue c.clock.result all due) c.as_slice.ensures.value c.in-Some.ensures.least.pending) in
    subst (λ (before : SoloView). solo_measure new + 1 ≤ solo_measure before) c.self.view_is
    (due_falls old new due pending c.pause.ensures.hall refl)
