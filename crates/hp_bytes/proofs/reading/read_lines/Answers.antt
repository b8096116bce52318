-- Each newline ends a line.
use Rattle.std.proofs.Common.{◌≡◌, ◌+◌, ◌<◌, length, length-drop, sym, ap, ◌∙◌, arith}
use Rattle.std.specs.Prelude.{position, Some, None, ◌==◌}
use Rattle.hp_bytes.proofs.FieldLemmas.{to_end}
use Rattle.hp_bytes.proofs.ReadingLemmas.{all_lines, bad_end, bad_line, lines_step, none_so_far, with_lines}
use Rattle.hp_bytes.proofs.reading.read_lines.Goals as goal

pub loop-rest-init : goal.loop-rest-init
loop-rest-init c = record { due = rw c.new-lines.ensures.items (none_so_far c.args.input.now); few = omega arith }

pub returns-in_default : goal.returns-in_default
returns-in_default c =
    let none : position (λ byte. byte == 10) c.loop-rest.rest.now ≡ None = cc (c.in_default.ensures.place, c.in_default.is) in
    let some : 0 < length c.loop-rest.rest.now = grind (arith, c.loop-rest-test.ensures) in
    sym c.loop-rest.invariant.due ∙ ap (with_lines c.loop-rest.lines.items) (bad_end c.loop-rest.number c.loop-rest.rest.now none some)

pub returns-in_default-2 : goal.returns-in_default-2
returns-in_default-2 c =
    sym c.loop-rest.invariant.due
    ∙ ap (with_lines c.loop-rest.lines.items) (bad_line c.loop-rest.number c.in-Some.n c.loop-rest.rest.now (sym c.in-Some.ensures.place) (sym c.in_ok-line.ensures ∙ c.in_default-2.is))

pub loop-rest-preserved : goal.loop-rest-preserved
loop-rest-preserved c =
    let over = to_end (c.in-Some.n + 1) c.loop-rest.rest.now in
    let len = length-drop (c.in-Some.n + 1) c.loop-rest.rest.now in
    record {
      due = lines_step _ _ c.in-Some-2.line c.loop-rest.number c.in-Some.n c.loop-rest.rest.now _ _ c.loop-rest.invariant.due (sym c.in-Some.ensures.place)
          (sym c.in-Some-2.is ∙ c.in_ok-line.ensures) c.in_ok-push_line.ensures over;
      few = omega (arith, c.loop-rest.invariant.few, c.in-Some.ensures.within, ap length over, len);
    }

pub returns : goal.returns
returns c =
    let none : length c.loop-rest.rest.now ≡ 0 = grind (arith, c.loop-rest-test.ensures) in
    sym c.loop-rest.invariant.due ∙ all_lines c.loop-rest.lines.items c.loop-rest.number c.loop-rest.rest.now none
