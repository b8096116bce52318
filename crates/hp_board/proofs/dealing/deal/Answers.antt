use Rattle.std.proofs.Common.{◌≡◌, ℕ, ◌+◌, ◌<◌, ◌≤◌, List, [], ◌∷◌, ◌++◌, map, sym, ap, subst, ◌∙◌, arith}
use Rattle.std.specs.List.{range_with_len}
use Rattle.hp_board.specs.Dealt.{dealt_seat}
use Rattle.hp_board.specs.SeatView.{SeatView}
use Rattle.hp_board.specs.declared.view.Mine.{Mine}
use Rattle.hp_board.specs.Steps.{Sat}
use Rattle.hp_board.specs.Views.{newcomer}
use Rattle.hp_board.specs.Parts.{part_of}
use Rattle.hp_board.proofs.OpeningFacts.DealLemmas.{IsLeft, deals, dealt_first, dealt_others, dealt-push, same_seat}
use Rattle.hp_board.proofs.dealing.deal.Goals as goal

pub split_seat-token-requires : goal.split_seat-token-requires
split_seat-token-requires c = (
  c.loop-who.invariant.table ∙ c.requires.table.0,
  omega (arith, c.requires.table.1),
  deals c.args.shared.now.key c.loop-who.first.id c.loop-who.who c.args.participants c.loop-who.first.me.0 c.loop-who-test.true c.loop-who.invariant.parts,
)

pub of-requires-clause-declared : goal.of-requires-clause-declared
of-requires-clause-declared c =
    let who : ℕ = c.loop-who.who in
    let more = c.loop-who-test.true in
    let count = c.requires.opening in
    let part = ap (λ (m : Sat). part_of m.0) c.split_seat-token.ensures.4
    ∙ ap part_of (dealt_first c.args.shared.now.key who c.args.participants c.loop-who.first.me.0 more c.loop-who.invariant.parts) in
    subst (λ (m : Mine). who < m.opening.participants) (sym part) (omega (arith, more, count))

pub of-requires-clause-few : goal.of-requires-clause-few
of-requires-clause-few c =
    let few = c.requires.few in
    let count = c.requires.opening in
    let part = ap (λ (m : Sat). part_of m.0) c.split_seat-token.ensures.4
    ∙ ap part_of (dealt_first c.args.shared.now.key c.loop-who.who c.args.participants c.loop-who.first.me.0 c.loop-who-test.true c.loop-who.invariant.parts) in
    subst (λ (m : Mine). m.opening.participants ≤ 16) (sym part) (omega (arith, few, count))

pub loop-who-preserved : goal.loop-who-preserved
loop-who-preserved c =
    let id = c.args.shared.now.table_id in
    let key = c.args.shared.now.key in
    let who : ℕ = c.loop-who.who in
    let view = c.loop-who.first.me.0 in
    let more = c.loop-who-test.true in
    let left = c.loop-who.invariant.parts in
    let seat_is : c.in_ok-of.field-0 ≡ dealt_seat id key who = same_seat c.in_ok-of.field-0 id (newcomer key who)
    (c.in_ok-of.ensures.0 ∙ c.split_seat-token.ensures.3 ∙ c.loop-who.invariant.table ∙ c.requires.table.0)
    (c.in_ok-of.ensures.1 ∙ ap (λ (m : Sat). part_of m.0) c.split_seat-token.ensures.4 ∙ ap part_of (dealt_first key who c.args.participants view more left)) in
    record {
      table = c.split_seat-token.ensures.0 ∙ c.loop-who.invariant.table;
      parts = subst (IsLeft key (who + 1) c.args.participants) (sym (ap (λ (m : Sat). m.0) c.split_seat-token.ensures.2)) (dealt_others key who c.args.participants view more left);
      seats =
          c.push_reserved.ensures.items
          ∙ ap (λ (l : List SeatView). l ++ c.in_ok-of.field-0 ∷ []) c.loop-who.invariant.seats
          ∙ ap (λ (s : SeatView). map (dealt_seat id key) (range_with_len 0 who) ++ s ∷ []) seat_is
          ∙ sym (dealt-push id key who);
      count = omega (arith, c.push_reserved.ensures.len, c.loop-who.invariant.count);
      room = omega (arith, c.push_reserved.ensures.capacity, c.loop-who.invariant.room);
    }
