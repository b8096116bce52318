use Rattle.std.proofs.Common.{length, ap, ◌∙◌, arith}
use Rattle.hp_ring.specs.PassViews.{SendView}
use Rattle.hp_ring.proofs.SentLemmas.{next_is, next_some, next_within, sent_more}
use Rattle.hp_ring.proofs.sending.send.Goals as goal

pub loop-at-preserved : goal.loop-at-preserved
loop-at-preserved g c =
    let inv = c.loop-at.invariant in
    let words = c.args.words.now in
    let at = c.loop-at.at in
    let rest = c.split_at.result.1.now in
    let next = c.split_at-in-loop-at.result.0.now in
    let left = c.split_at.ensures.back_len in
    let within = c.loop-at-test.true in
    let long = c.split_at-in-loop-at.ensures.front_len in
    let most = next_within c.min.result (length rest) c.min.ensures in
    let some = next_some c.min.result (length rest) c.min.ensures (omega (arith, left, within)) in
    record {
      ring = ap (λ (p : SendView). p.ring) c.put_whole.ensures ∙ inv.ring;
      who = ap (λ (p : SendView). p.who) c.put_whole.ensures ∙ inv.who;
      within = omega (arith, left, long, most);
      sent = sent_more c.loop-at.pass.who at (length next) words next c.loop-at.pass.sent c.put_whole.new.pass.sent
          (next_is c.min.result at words rest next c.split_at.ensures.back c.split_at-in-loop-at.ensures.front long) (omega (arith, some, long))
          (ap (λ (p : SendView). p.sent) c.put_whole.ensures) inv.sent;
    }
