-- It waits, and where somebody stopped it outlasts the rest.
use Rattle.std.proofs.Common.{ℕ, ◌++◌, refl, subst}
use Rattle.hp_hall.proofs.HallStates.{did_then}
use Rattle.hp_serve.specs.Waiting.{IsOutlasted, IsWaitedOut}
use Rattle.hp_serve.proofs.AskingFacts.AskedLemmas.{asked_then}
use Rattle.hp_serve.proofs.InHalls.{in_can, in_did, in_then}
use Rattle.hp_serve.proofs.Rising.{waits_on}
use Rattle.hp_serve.proofs.server.Server.wait_out.Goals as goal

pub wait-requires : goal.wait-requires
wait-requires g c = record { may_ask = c.requires.may_ask; can = c.requires.can }

pub returns-in-Ok-clause-turned : goal.returns-in-Ok-clause-turned
returns-in-Ok-clause-turned g c =
    let is = c.in-Ok.ensures.turned in
    (is.0, is.1, IsWaitedOut.whole is.2 refl)

pub outlast-reading-requires : goal.outlast-reading-requires
outlast-reading-requires g c = record { may_ask = c.requires.may_ask; can = in_can c.wait.ensures.stays c.requires.can }

pub returns-in-Err : goal.returns-in-Err
returns-in-Err g c =
    let is = c.outlast-reading.ensures in
    let was = c.in-Err.ensures.turned in
    let rest = is.turned in
    record {
      turned = (
        was.0 ++ rest.0,
        did_then was.1 (in_did c.wait.ensures.stays rest.1),
        IsWaitedOut.outlasts c.wait.new.self was.0 rest.0 was.2
            (subst (λ (count : ℕ). IsOutlasted (g.J.Judge.denies c.args.judge.now) count c.args.until c.args.heeds c.wait.new.self
            c.outlast-reading.new.self rest.0 c.outlast-reading.result)
            c.wait.ensures.stays.waits.later.count rest.2) refl refl,
      );
      clock = waits_on c.args.until (g.H.Hall.state c.args.hall.now).clock (g.H.Hall.state c.wait.new.hall).clock
          (g.H.Hall.state c.outlast-reading.new.hall).clock c.wait.ensures.clock is.clock;
      asks = asked_then c.args.self.now c.wait.new.self c.outlast-reading.new.self c.wait.ensures.asks is.asks;
      stays = in_then c.wait.ensures.stays is.stays;
      goes_on = g.met.H.Hall.goes_on_then _ _ _ c.wait.ensures.goes_on is.goes_on;
    }
