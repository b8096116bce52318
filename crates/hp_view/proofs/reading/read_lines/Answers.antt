-- Each newline ends a line.
use Rattle.std.proofs.Common.{◌≡◌, ◌+◌, ◌∙◌, ap, sym, true, false, length, take, length-drop, rules, arith}
use Rattle.std.specs.Prelude.{position, None, Some, ◌==◌}
use Rattle.hp_view.specs.Form.{line_of}
use Rattle.hp_view.specs.Reading.{is_end}
use Rattle.hp_view.proofs.FieldLemmas.{to_end}
use Rattle.hp_view.proofs.ReadingLemmas.{cut_off, is_nothing, is_something, lines_step, read_all, read_too_much, refused}
use Rattle.hp_view.proofs.reading.read_lines.Goals as goal

pub returns-in_default-2 : goal.returns-in_default-2
returns-in_default-2 c =
    let none : line_of (take c.in-Some.n c.loop-n.rest.now) ≡ None = search rules in
    refused c.loop-n.number c.in-Some.n c.loop-n.rest.now _ _ c.loop-n.invariant.due (sym c.in-Some.ensures.place) none

pub returns-then-is_empty : goal.returns-then-is_empty
returns-then-is_empty c =
    let rest = c.loop-n.rest.now in
    let n = c.in-Some.n in
    let line = c.in-Some-2.line in
    let is : line_of (take n rest) ≡ Some line = search rules in
    let end : is_end line ≡ true = search rules in
    let none = is_nothing _ _ c.is_empty.ensures c.if-is_empty.true in
    read_all c.loop-n.number n rest _ _ c.loop-n.invariant.due line _ (sym c.in-Some.ensures.place) is end (to_end (n + 1) rest) none

pub returns-then-is_end : goal.returns-then-is_end
returns-then-is_end c =
    let rest = c.loop-n.rest.now in
    let n = c.in-Some.n in
    let line = c.in-Some-2.line in
    let is : line_of (take n rest) ≡ Some line = search rules in
    let end : is_end line ≡ true = search rules in
    let more = is_something _ _ c.is_empty.ensures c.if-is_empty.false in
    read_too_much c.loop-n.number n rest _ _ c.loop-n.invariant.due line _ (sym c.in-Some.ensures.place) is end (to_end (n + 1) rest) more

pub loop-n-preserved : goal.loop-n-preserved
loop-n-preserved c =
    let rest = c.loop-n.rest.now in
    let n = c.in-Some.n in
    let line = c.in-Some-2.line in
    let is : line_of (take n rest) ≡ Some line = search rules in
    let more : is_end line ≡ false = search rules in
    let left = ap length (to_end (n + 1) rest) ∙ length-drop (n + 1) rest in
    record {
      due = lines_step c.loop-n.number n rest (sym c.in-Some.ensures.place) _ _ line _ _ c.loop-n.invariant.due is more c.in_ok-push_line.ensures (to_end (n + 1) rest);
      few = omega (arith, left, c.in-Some.ensures.within, c.loop-n.invariant.few);
    }

pub returns : goal.returns
returns c =
    let none : position (λ byte. byte == 10) c.loop-n.rest.now ≡ None = cc c.in_default.ensures.place in
    cut_off c.loop-n.number 0 c.loop-n.rest.now _ _ c.loop-n.invariant.due none
