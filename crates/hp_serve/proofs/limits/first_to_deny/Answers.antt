-- One validator after the other is asked.
use Rattle.std.proofs.Common.{arith}
use Rattle.hp_events.proofs.AnswerLemmas.{allowed_all, allowed_more, denied_at}
use Rattle.hp_serve.specs.Denials.{AnswersSo}
use Rattle.hp_serve.proofs.limits.first_to_deny.Goals as goal

pub returns-then-denies : goal.returns-then-denies
returns-then-denies g c =
    denied_at AnswersSo c.args.socket c.args.total c.args.kept.now c.loop-own.own-index c.own-item.result (omega (arith, c.loop-own-test.true))
    c.own-item.is (c.denies.ensures.denied c.if-denies.true) c.loop-own.invariant

pub loop-own-preserved : goal.loop-own-preserved
loop-own-preserved g c =
    allowed_more AnswersSo c.args.socket c.args.total c.args.kept.now c.loop-own.own-index c.own-item.result
    (omega (arith, c.loop-own-test.true)) c.own-item.is (c.denies.ensures.allowed c.if-denies.false) c.loop-own.invariant

pub returns : goal.returns
returns g c =
    allowed_all AnswersSo c.args.socket c.args.total c.args.kept.now c.loop-own.own-index (omega (arith, c.loop-own-test.false))
    c.loop-own.invariant
