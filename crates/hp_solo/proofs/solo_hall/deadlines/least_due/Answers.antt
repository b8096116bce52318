-- The next deadline up to the end of the clock's type: it is that end where none other is still to come, and else the least of them.
use Rattle.std.proofs.Common.{◌≡◌, ◌^◌, ◌-◌, ⊎_elim, arith}
use Rattle.hp_solo.specs.Solo.{IsPendingDue}
use Rattle.hp_solo.proofs.solo_hall.deadlines.least_due.Goals as goal

pub returns-then-next-clause-none : goal.returns-then-next-clause-none
returns-then-next-clause-none g c = λ due pending. omega (arith, c.next_due-next.ensures.least due pending, c.if-next.true)

pub returns-else-next-clause-least : goal.returns-else-next-clause-least
returns-else-next-clause-least g c =
    let next = c.next_due-next.result in
    record {
      pending = ⊎_elim
          (λ (same : next ≡ 2 ^ 64 - 1). absurd (c.if-next.false same))
          (λ (pending : IsPendingDue c.args.clock c.args.servers.now next). pending) c.next_due-next.ensures.whose;
      least = c.next_due-next.ensures.least;
    }
