use Rattle.std.proofs.Common.{◌≡◌, ◌++◌, filter, take, not, ◌&&◌}
use Rattle.hp_base.specs.Pages.{page_sizes}
use Rattle.hp_base.specs.Flags.{names_page}
use Rattle.hp_proc.specs.Heaps.{has_pool}
use Rattle.hp_proc.proofs.page_sizes.push_others.Given as goal

abbrev pub invariant-loop-page : goal.invariant-loop-page
invariant-loop-page l =
    l.pages.items
    ≡ l.initial.pages.items
    ++ filter (λ page. has_pool l.fn.pools l.fn.socket page && not (names_page l.fn.flags page)) (take l.page-index page_sizes)
