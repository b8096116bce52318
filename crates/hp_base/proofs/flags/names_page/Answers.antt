use Rattle.std.proofs.Common.{refl, sym, ◌∙◌}
use Rattle.std.proofs.lemmas.Bool.{ne_eqb}
use Rattle.hp_base.proofs.FlagLemmas.{clear_bit, other_page}
use Rattle.hp_base.proofs.flags.names_page.Goals.{else-size-page-via-then-size-page+else-has_bit, else-size-page-via-else-size-page}
use Rattle.hp_base.proofs.flags.names_page.Goals as goal

pub loop-size-preserved : goal.loop-size-preserved
loop-size-preserved c =
    elim c.else-size-page.branch [
      | else-size-page-via-then-size-page+else-has_bit w ↦ record {
        items = refl;
        past = c.loop-size.invariant.past
            ∙ clear_bit c.args.flags c.args.page c.loop-size.size-index _ c.loop-size-test.true
            (sym w.has_bit.ensures ∙ w.if-has_bit.false);
      }
      | else-size-page-via-else-size-page w ↦ record {
        items = refl;
        past = c.loop-size.invariant.past
            ∙ other_page c.args.flags c.args.page c.loop-size.size-index _ c.loop-size-test.true (ne_eqb _ _ w.if-size-page.false);
      }
    ]
