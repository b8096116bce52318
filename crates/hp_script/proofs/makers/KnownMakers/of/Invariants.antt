use Rattle.std.proofs.Common.{◌≡◌, ℕ, ◌+◌, ◌≤◌, List, length, codes}
use Rattle.std.specs.Option.{option_or}
use Rattle.hp_script.specs.Known.{known}
use Rattle.hp_script.specs.Makers.{first_maker}
use Rattle.hp_script.proofs.makers.KnownMakers.of.Given as goal

-- the first lines among those so far, or else among those that are left
abbrev pub invariant-loop-line : goal.invariant-loop-line
invariant-loop-line l = record {
  allocs : (name : List ℕ) → option_or ((known l.makers).alloc_line name) (first_maker (codes "alloc") l.lines l.number name) ≡ first_maker (codes "alloc") l.fn.lines 1 name;
  zones : (name : List ℕ) → option_or ((known l.makers).zone_line name) (first_maker (codes "zone") l.lines l.number name) ≡ first_maker (codes "zone") l.fn.lines 1 name;
  few : l.number + length l.lines ≤ length l.fn.lines + 1;
}

abbrev pub decreases-loop-line : goal.decreases-loop-line
decreases-loop-line l = length l.lines
