use Rattle.std.proofs.Common.{arith, length-drop, refl, ◌∙◌}
use Rattle.std.proofs.Math.Seq.{take-add}
use Rattle.hp_command.proofs.Streaming.{Holds-then}
use Rattle.hp_command.proofs.writing.write_whole.Goals as goal

pub loop-at-preserved : goal.loop-at-preserved
loop-at-preserved g c =
    let bytes = c.args.bytes.now in
    let at = c.loop-at.at in
    let took = c.in-Took.ensures.bytes in
    record {
      within = omega (arith, length-drop at bytes, took.within);
      written = rw (take-add at c.in-Took.n bytes, ← c.split_at.ensures.back) (Holds-then _ _ _ _ _ c.loop-at.invariant.written took.behind);
      unfailed = c.in-Took.ensures.cause.same refl ∙ c.loop-at.invariant.unfailed;
    }
