use Rattle.std.proofs.Common.{◌≡◌, ◌+◌, ◌-◌, ◌≤◌, vec_len}
use Rattle.hp_command.specs.Reading.{Took}
use Rattle.hp_view.specs.Streaming.{most_input}
use Rattle.hp_view.proofs.input.read_by.Given as goal

-- the bytes so far are what was taken
abbrev pub invariant-loop-bytes : goal.invariant-loop-bytes
invariant-loop-bytes g l = record {
  taken : Took (g.S.Source.left l.fn.source) (g.S.Source.left l.source) l.bytes.items;
  short : vec_len l.bytes ≤ most_input + 1;
  unfailed : g.S.Source.faults l.source ≡ g.S.Source.faults l.fn.source;
}

abbrev pub decreases-loop-bytes : goal.decreases-loop-bytes
decreases-loop-bytes g l = most_input + 1 - vec_len l.bytes
