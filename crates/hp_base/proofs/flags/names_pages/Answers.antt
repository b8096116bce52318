use Rattle.std.proofs.Common.{refl, sym, ◌∙◌}
use Rattle.hp_base.proofs.FlagLemmas.{unset_bit}
use Rattle.hp_base.proofs.flags.names_pages.Goals as goal

pub loop-bit-preserved : goal.loop-bit-preserved
loop-bit-preserved c = record {
  items = refl;
  past = c.loop-bit.invariant.past
      ∙ unset_bit c.args.flags 0 c.loop-bit.bit-index _ c.loop-bit-test.true (sym c.has_bit.ensures ∙ c.if-has_bit.false);
}
