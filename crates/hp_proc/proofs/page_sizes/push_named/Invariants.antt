use Rattle.std.proofs.Common.{◌≡◌, ◌++◌, filter, take}
use Rattle.hp_base.specs.Pages.{page_sizes}
use Rattle.hp_base.specs.Flags.{names_page}
use Rattle.hp_proc.proofs.page_sizes.push_named.Given as goal

abbrev pub invariant-loop-page : goal.invariant-loop-page
invariant-loop-page l = l.pages.items ≡ l.initial.pages.items ++ filter (names_page l.fn.flags) (take l.page-index page_sizes)
