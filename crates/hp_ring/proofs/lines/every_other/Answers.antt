use Rattle.std.proofs.Common.{◌++◌, ◌∙◌, List, ℕ, append-nil, sym, ap, arith}
use Rattle.std.proofs.lemmas.List.{drop_all}
use Rattle.hp_ring.specs.Weave.{every_other, lines_of}
use Rattle.hp_ring.proofs.LineLemmas.{kept_more}
use Rattle.hp_ring.proofs.lines.every_other.Goals as goal

pub loop-byte-preserved : goal.loop-byte-preserved
loop-byte-preserved c =
    let inv = c.loop-byte.invariant in
    let within = c.loop-byte-test.true in
    record {
      so_far = kept_more _ c.loop-byte.words.items c.loop-byte.own c.own_after-own.result c.args.text.now c.loop-byte.byte-index c.keep.new.words.items within inv.so_far
          c.keep.ensures.items c.own_after-own.ensures;
      few = let len = c.keep.ensures.len in let few = inv.few in omega (arith, len, few);
      room = let same = c.keep.ensures.capacity in let room = inv.room in omega (arith, same, room);
    }

pub returns : goal.returns
returns c =
    sym (append-nil c.loop-byte.words.items)
    ∙ (ap (λ (l : List ℕ). c.loop-byte.words.items ++ every_other c.loop-byte.own (lines_of l)) (sym (drop_all c.loop-byte.byte-index c.args.text.now c.loop-byte-test.false))
    ∙ c.loop-byte.invariant.so_far)
