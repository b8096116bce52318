-- Those who stand on one side of the one that waits have served, and nobody else.
use Rattle.std.proofs.Common.{◌≡◌, ℕ, ◌<◌, length, ap, subst, ◌∙◌, arith}
use Rattle.std.specs.Prelude.{if◌then◌else◌}
use Rattle.hp_solo.specs.Beside.{HaveServedBeside}
use Rattle.hp_solo.specs.Sequence.{VisitsBeside}
use Rattle.hp_solo.specs.Solo.{AreLater, IsBeside, IsBetween, IsNotBeside, IsOutside, SoloView}
use Rattle.hp_solo.proofs.Keeping.{keeps_within}
use Rattle.hp_solo.proofs.SoloLooks.{looks_within}
use Rattle.hp_solo.proofs.SoloQuiet.{quiet_beside}
use Rattle.hp_solo.proofs.SoloTies.{serving_narrow}
use Rattle.hp_solo.proofs.SoloTurns.{rests_within}
use Rattle.hp_solo.proofs.Visited.{visits_beside}
use Rattle.hp_solo.proofs.solo_hall.SoloHall.serve_beside.Goals as goal

pub returns-clause-served : goal.returns-clause-served
returns-clause-served g c =
    let me = c.args.me in
    let above = c.args.above in
    let from = c.apart-from.result.0 in
    let to = c.apart-from.result.1 in
    let servers = c.serve_range.new.servers.items in
    let old : SoloView = record { plain = c.self.inside.plain; servers = c.self.inside.servers.items } in
    let new : SoloView = record { plain = c.serve_range.new.hall; servers = servers } in
    let is = c.serve_range.ensures in
    let between : (who : ℕ) → IsBeside me above who → who < length servers → IsBetween from to who =
    λ who beside below. c.apart-from.ensures.beside who beside (omega (arith, below, is.count, c.len.ensures)) in
    subst (λ (hall : SoloView). HaveServedBeside me above hall new c.serve_range.result) c.self.view_is
    (record {
      serving = serving_narrow (IsOutside from to) (IsNotBeside me above) old.plain new.plain c.apart-from.ensures.outside is.served.serving;
      rising = is.served.rising;
      places = λ who beyond. is.served.places who (c.apart-from.ensures.outside who beyond);
      keeps = λ who beside.
          keeps_within old.plain new.plain old.servers who
          (λ below.
          is.served.keeps who (c.apart-from.ensures.beside who beside (omega (arith, below, c.len.ensures))));
      rests = λ who beside.
          rests_within new.plain.clock servers who
          (λ below. is.served.rests who (between who beside below));
      looks = λ who beside.
          looks_within old.plain new.plain servers who
          (λ below. is.served.looks who (between who beside below));
      quiet = λ still.
          quiet_beside (IsBeside me above) (IsBetween from to) old new c.apart-from.ensures.between
          (λ who beside below. c.apart-from.ensures.beside who beside (omega (arith, below, c.len.ensures))) (is.served.quiet still);
    })

pub returns-clause-later : goal.returns-clause-later
returns-clause-later g c =
    let new : SoloView = record { plain = c.serve_range.new.hall; servers = c.serve_range.new.servers.items } in
    subst (λ (hall : SoloView). AreLater hall new) c.self.view_is c.serve_range.ensures.later

pub returns-clause-visits : goal.returns-clause-visits
returns-clause-visits g c = λ going.
    let above = c.args.above in
    let old : SoloView = record { plain = c.self.inside.plain; servers = c.self.inside.servers.items } in
    let new : SoloView = record { plain = c.serve_range.new.hall; servers = c.serve_range.new.servers.items } in
    let all : c.len.result ≡ length old.servers = omega (arith, c.len.ensures) in
    subst (λ (hall : SoloView). VisitsBeside c.args.me above hall new) c.self.view_is
    (visits_beside c.args.me above c.apart-from.result.0 c.apart-from.result.1 old new c.apart-from.ensures.first
    (c.apart-from.ensures.last ∙ ap (λ (count : ℕ). if above then count else c.args.me) all)
    (c.serve_range.ensures.visits c.apart-from.ensures.order going))
