-- The mapper of one kit more is among those that were taken out.
use Rattle.std.proofs.Common.{◌∙◌, ◌<◌, ◌++◌, List, map, length, vec_len, ap, arith}
use Rattle.hp_run.proofs.KitLemmas.{one_over}
use Rattle.hp_run.proofs.kit.mappers_of.Goals as goal

pub loop-kits-preserved : goal.loop-kits-preserved
loop-kits-preserved g c =
    let was = c.loop-kits.invariant in
    let left = c.loop-kits.kits.items in
    let rest = c.remove-mapper.new.self.items in
    let left_some : 0 < vec_len c.loop-kits.kits = grind (arith, c.loop-kits-test.ensures) in
    let some : 0 < length left = omega (arith, left_some, c.loop-kits.kits.ok.0) in
    record {
      given =
          ap (λ (all : List _). all ++ map (λ kit. kit.mapper) rest) c.push_reserved.ensures.items
          ∙ one_over (λ kit. kit.mapper) c.loop-kits.mappers.items _ left rest c.remove-mapper.result some c.remove-mapper.ensures.value
          c.remove-mapper.ensures.items was.given;
      long = omega (arith, was.long, c.push_reserved.ensures.len, c.remove-mapper.ensures.len);
      room = omega (arith, was.room, c.push_reserved.ensures.capacity);
    }
