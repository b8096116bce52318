use Rattle.std.proofs.Common.{◌≡◌, ◌==◌, ◌&&◌, drop}
use Rattle.std.specs.List.{list_any}
use Rattle.hp_base.specs.Flags.{names_page, page_flags, has_bit}
use Rattle.hp_base.proofs.flags.names_page.Given as goal

abbrev pub invariant-loop-size : goal.invariant-loop-size
invariant-loop-size l = record {
  items : l.size-items ≡ page_flags;
  past : names_page l.fn.flags l.fn.page
      ≡ list_any (λ entry. (entry.0 == l.fn.page) && has_bit l.fn.flags entry.1) (drop l.size-index page_flags);
}
