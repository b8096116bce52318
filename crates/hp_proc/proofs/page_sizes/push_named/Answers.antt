use Rattle.std.proofs.Common.{ap, sym, ◌∙◌}
use Rattle.hp_base.specs.Pages.{page_sizes}
use Rattle.hp_base.specs.Flags.{names_page}
use Rattle.hp_proc.proofs.Mapped.{kept_more, kept_same}
use Rattle.hp_proc.proofs.page_sizes.push_named.Goals.{then-names_page+in_ok-push, else-names_page}
use Rattle.hp_proc.proofs.page_sizes.push_named.Goals as goal

pub loop-page-preserved : goal.loop-page-preserved
loop-page-preserved c =
    elim c.if-names_page.branch [
      | then-names_page+in_ok-push w ↦
          ap (λ pages. pages.items) w.pages-is
          ∙ (w.in_ok-push.ensures.items
          ∙ kept_more (names_page c.args.flags) page_sizes c.loop-page.page-index _ c.args.pages.now.items c.loop-page.pages.items
          c.loop-page-test.true c.loop-page.invariant (sym c.names_page.ensures ∙ w.if-names_page.true))
      | else-names_page w ↦
          ap (λ pages. pages.items) w.pages-is
          ∙ kept_same (names_page c.args.flags) page_sizes c.loop-page.page-index _ c.args.pages.now.items c.loop-page.pages.items
          c.loop-page-test.true c.loop-page.invariant (sym c.names_page.ensures ∙ w.if-names_page.false)
    ]
