use Rattle.std.proofs.Common.{ℕ, List, [], ◌∷◌, ◌++◌, map, sym, ap, ◌∙◌, arith}
use Rattle.std.specs.List.{range_with_len}
use Rattle.hp_ring.specs.declared.send_pass.SendPass.TheInside.{Inside}
use Rattle.hp_ring.specs.PassInside.{send_view}
use Rattle.hp_ring.specs.PassViews.{SendView, new_sender}
use Rattle.hp_ring.proofs.PassLemmas.{dealt-push, new_is}
use Rattle.hp_ring.proofs.dealing.deal.Goals as goal

pub loop-who-preserved : goal.loop-who-preserved
loop-who-preserved c =
    let id = c.args.queue.now.table.shared.table_id in
    let who : ℕ = c.loop-who.who in
    let next = c.next_token-next.ensures in
    let inv = c.loop-who.invariant in
    let pass : Inside = record { who = who; token = c.next_token-next.result } in
    record {
      of = (next.queue.0 ∙ inv.of.0, next.queue.2 ∙ inv.of.1);
      same = (next.queue.0 ∙ inv.same.0, next.queue.1 ∙ inv.same.1, next.queue.2 ∙ inv.same.2);
      left = next.left;
      passes =
          c.push_reserved.ensures.items
          ∙ ap (λ (l : List SendView). l ++ send_view pass ∷ []) inv.passes
          ∙ ap (λ (p : SendView). map (new_sender id) (range_with_len 0 who) ++ p ∷ []) (new_is pass id who next.made.0 next.token)
          ∙ sym (dealt-push id who);
      count = omega (arith, c.push_reserved.ensures.len, inv.count);
      room = omega (arith, c.push_reserved.ensures.capacity, inv.room);
    }
