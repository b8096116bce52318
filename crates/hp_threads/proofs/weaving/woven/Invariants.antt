use Rattle.std.proofs.Common.{◌≡◌, ◌≤◌, ◌++◌, drop, length, map, take, vec_len, vec_capacity}
use Rattle.hp_base.specs.declared.limits.TheConstants.{MAX_PARTICIPANTS}
use Rattle.hp_script.specs.declared.line.Line.{Line}
use Rattle.hp_weave.specs.Weaving.{woven}
use Rattle.hp_threads.specs.Running.{answers_of}
use Rattle.hp_threads.proofs.Weaves.{AreCounted, left}
use Rattle.hp_threads.proofs.weaving.woven.Given as goal

abbrev pub invariant-loop-line : goal.invariant-loop-line
invariant-loop-line l = record {
  answers : l.answers.items ++ woven (map (λ (line : Line). line.participant) (drop l.line-index l.lines)) (left l.next (answers_of l.by))
      ≡ woven (map (λ (line : Line). line.participant) l.lines) (answers_of l.by);
  taken : AreCounted l.next (take l.line-index l.lines);
  long : length l.next ≡ MAX_PARTICIPANTS;
  count : vec_len l.answers ≡ l.line-index;
  room : length l.lines ≤ vec_capacity l.answers;
}
