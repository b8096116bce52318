use Rattle.std.proofs.Common.{◌≡◌, drop}
use Rattle.std.specs.List.{list_any}
use Rattle.hp_base.specs.Flags.{names_pages, page_flags, has_bit}
use Rattle.hp_base.proofs.flags.names_pages.Given as goal

abbrev pub invariant-loop-bit : goal.invariant-loop-bit
invariant-loop-bit l = record {
  items : l.bit-items ≡ page_flags;
  past : names_pages l.fn.flags ≡ list_any (λ entry. has_bit l.fn.flags entry.1) (drop l.bit-index page_flags);
}
