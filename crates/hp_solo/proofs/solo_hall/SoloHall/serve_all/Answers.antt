-- All who are there have served.
use Rattle.std.proofs.Common.{◌≡◌, ℕ, ◌<◌, length, subst, arith}
use Rattle.std.specs.Prelude.{⊤}
use Rattle.hp_solo.specs.Draining.{TurnsLeave}
use Rattle.hp_solo.specs.Sequence.{Visits}
use Rattle.hp_solo.specs.Served.{IsInRisingNumber}
use Rattle.hp_solo.specs.Solo.{IsBetween, IsOutside, IsQuiet, SoloView}
use Rattle.hp_solo.proofs.SoloDrained.{empty_at_rest, turns_served}
use Rattle.hp_solo.proofs.SoloQuiet.{quiet_beside}
use Rattle.hp_solo.proofs.SoloTurns.{rests_within}
use Rattle.hp_solo.proofs.solo_hall.SoloHall.serve_all.Goals as goal

pub returns-clause-leaves : goal.returns-clause-leaves
returns-clause-leaves g c =
    let old : SoloView = record { plain = c.self.inside.plain; servers = c.self.inside.servers.items } in
    let new : SoloView = record { plain = c.serve_range.new.hall; servers = c.serve_range.new.servers.items } in
    subst (λ (before : SoloView). TurnsLeave before new) c.self.view_is
    (turns_served (IsOutside 0 c.len-count.result) old new c.serve_range.ensures.served.serving c.serve_range.ensures.later)

pub returns-clause-rising : goal.returns-clause-rising
returns-clause-rising g c =
    subst (λ (before : SoloView). IsInRisingNumber before.plain c.serve_range.new.hall) c.self.view_is c.serve_range.ensures.served.rising

pub returns-clause-rests : goal.returns-clause-rests
returns-clause-rests g c = λ who.
    let servers = c.serve_range.new.servers.items in
    rests_within c.serve_range.new.hall.clock servers who
    (λ (below : who < length servers).
    c.serve_range.ensures.served.rests who (omega arith, omega (arith, below, c.serve_range.ensures.count, c.len-count.ensures)))

pub returns-clause-quiet : goal.returns-clause-quiet
returns-clause-quiet g c = λ still.
    let count = c.len-count.result in
    let old : SoloView = record { plain = c.self.inside.plain; servers = c.self.inside.servers.items } in
    let new : SoloView = record { plain = c.serve_range.new.hall; servers = c.serve_range.new.servers.items } in
    subst (λ (before : SoloView). IsQuiet (λ who. ⊤) before new) c.self.view_is
    (quiet_beside (λ who. ⊤) (IsBetween 0 count) old new (λ who between. tt) (λ who beside below. (omega arith, omega (arith, below, c.len-count.ensures)))
    (c.serve_range.ensures.served.quiet still))

pub returns-clause-visits : goal.returns-clause-visits
returns-clause-visits g c = λ going.
    let old : SoloView = record { plain = c.self.inside.plain; servers = c.self.inside.servers.items } in
    let new : SoloView = record { plain = c.serve_range.new.hall; servers = c.serve_range.new.servers.items } in
    let all : c.len-count.result ≡ length old.servers = omega (arith, c.len-count.ensures) in
    subst (λ (before : SoloView). Visits 0 (length before.servers) before new) c.self.view_is
    (subst (λ (count : ℕ). Visits 0 count old new) all (c.serve_range.ensures.visits (omega arith) going))

pub returns-clause-empty : goal.returns-clause-empty
returns-clause-empty g c = λ still off.
    let old : SoloView = record { plain = c.self.inside.plain; servers = c.self.inside.servers.items } in
    let new : SoloView = record { plain = c.serve_range.new.hall; servers = c.serve_range.new.servers.items } in
    let count : c.len-count.result ≡ length old.servers = omega (arith, c.len-count.ensures) in
    empty_at_rest old new c.len-count.result count c.serve_range.ensures.later (c.serve_range.ensures.served.quiet still) off
