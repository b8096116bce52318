use Rattle.std.proofs.Common.{◌≡◌, ℕ, Bool, ◌&&◌, not, ap, sym, ◌∙◌}
use Rattle.hp_base.specs.Pages.{page_sizes}
use Rattle.hp_base.specs.Flags.{names_page}
use Rattle.hp_proc.specs.Heaps.{has_pool}
use Rattle.hp_proc.proofs.Mapped.{kept_more, kept_same}
use Rattle.hp_proc.proofs.page_sizes.push_others.Goals.{then-is_other+in_ok-push, else-is_other}
use Rattle.hp_proc.proofs.page_sizes.push_others.Goals as goal

pub loop-page-preserved : goal.loop-page-preserved
loop-page-preserved c =
    let passes : (page : ℕ)
    → (has_pool c.args.pools.now c.args.socket page && not (names_page c.args.flags page))
    ≡ (has_pool c.lines_from-own.result.now c.args.socket page && not (names_page c.args.flags page))
    = λ page. ap (λ (has : Bool). has && not (names_page c.args.flags page)) (sym (c.lines_from-own.ensures page)) in
    elim c.if-is_other.branch [
      | then-is_other+in_ok-push w ↦
          ap (λ pages. pages.items) w.pages-is
          ∙ (w.in_ok-push.ensures.items
          ∙ kept_more (λ page. has_pool c.args.pools.now c.args.socket page && not (names_page c.args.flags page)) page_sizes c.loop-page.page-index _ c.args.pages.now.items c.loop-page.pages.items
          c.loop-page-test.true c.loop-page.invariant (passes _ ∙ (sym c.is_other.ensures ∙ w.if-is_other.true)))
      | else-is_other w ↦
          ap (λ pages. pages.items) w.pages-is
          ∙ kept_same (λ page. has_pool c.args.pools.now c.args.socket page && not (names_page c.args.flags page)) page_sizes c.loop-page.page-index _ c.args.pages.now.items c.loop-page.pages.items
          c.loop-page-test.true c.loop-page.invariant (passes _ ∙ (sym c.is_other.ensures ∙ w.if-is_other.false))
    ]
