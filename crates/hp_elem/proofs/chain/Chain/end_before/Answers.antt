use Rattle.std.proofs.Common.{◌≤◌, ◌^◌, arith}
use Rattle.hp_elem.specs.Items.{end_of}
use Rattle.hp_elem.proofs.EndLemmas.{reach_some, reach_none, stands_end, between_last_key}
use Rattle.hp_elem.proofs.chain.Chain.end_before.Goals as goal

pub get-requires : goal.get-requires
get-requires c = record { known = between_last_key c.args.self.now.items c.prev_of.result c.args.next c.in-Some.prev c.prev_of.ensures c.in-Some.is }

pub overflow_add-result : goal.overflow_add-result
overflow_add-result c =
    let fits : end_of c.get.result.now.span ≤ 2 ^ 63 = stands_end c.in-Some.prev c.args.self.now.items c.get.result.now c.requires.ordered.rising c.get.ensures.stands in
    omega (arith, fits)

pub returns-in-Some : goal.returns-in-Some
returns-in-Some c = λ front back is first.
    reach_some c.args.self.now.items c.prev_of.result c.args.next c.in-Some.prev c.get.result.now c.prev_of.ensures c.in-Some.is c.requires.ordered.apart c.get.ensures.stands front back is first

pub returns-in-None : goal.returns-in-None
returns-in-None c = λ front back is first.
    reach_none c.args.self.now.items c.prev_of.result c.args.next c.prev_of.ensures c.in-None.is c.requires.ordered.apart front back is first
