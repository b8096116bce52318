use Rattle.std.proofs.Common.{◌≡◌, ◌+◌, drop}
use Rattle.std.specs.List.{prefix_len}
use Rattle.hp_view.specs.Elements.{is_element}
use Rattle.hp_view.proofs.heaps.element_count.Given as goal

-- the lines so far are elements
abbrev pub invariant-loop-line : goal.invariant-loop-line
invariant-loop-line l = record {
  n_is : l.n ≡ l.line-index;
  on : l.n + prefix_len is_element (drop l.line-index l.lines) ≡ prefix_len is_element l.lines;
}
