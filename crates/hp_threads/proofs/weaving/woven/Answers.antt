-- One answer more is woven.
use Rattle.std.proofs.Common.{◌≡◌, ◌∙◌, ℕ, ◌+◌, ◌<◌, List, [], ◌++◌, drop, set, length, length-set, map, get_or, sym, ap, arith}
use Rattle.std.specs.List.{slice_get}
use Rattle.std.proofs.lemmas.List.{get_or_default}
use Rattle.hp_script.specs.declared.answer.Answer.{Answer}
use Rattle.hp_script.specs.declared.line.Line.{Line}
use Rattle.hp_weave.specs.Weaving.{woven}
use Rattle.hp_threads.specs.Running.{answers_of}
use Rattle.hp_threads.proofs.NextLines.{declared_at}
use Rattle.hp_threads.proofs.Weaves.{counted_few, counted_next, left, not_over, weave_one}
use Rattle.hp_threads.proofs.weaving.woven.Goals as goal

pub unreachable-requires : goal.unreachable-requires
unreachable-requires c =
    let lines : List Line = c.args.lines.now in
    let by : List (List Answer) = c.args.by.now in
    let k : ℕ = c.loop-line.line-index in
    let line : Line = c.line-item.result in
    let next : List ℕ = c.loop-line.next in
    let who : ℕ = line.participant in
    let inside : who < length by = declared_at (length by) lines k line c.requires.declared c.loop-line-test.true c.line-item.is in
    let own : c.index-by-who.result ≡ answers_of by who = c.index-by-who.is ∙ get_or_default by who _ [] inside in
    not_over lines k line c.loop-line-test.true c.line-item.is (answers_of by) c.requires.count next c.loop-line.invariant.taken
    (omega (arith, inside, c.requires.few, c.loop-line.invariant.long)) _
    (ap (λ (all : List Answer). slice_get all (get_or next who 0)) (sym own) ∙ sym c.get.ensures ∙ c.in_default.is)

pub overflow_add-next : goal.overflow_add-next
overflow_add-next c =
    let lines : List Line = c.args.lines.now in
    let by : List (List Answer) = c.args.by.now in
    let k : ℕ = c.loop-line.line-index in
    let line : Line = c.line-item.result in
    let inside : line.participant < length by =
    declared_at (length by) lines k line c.requires.declared c.loop-line-test.true c.line-item.is in
    let few = counted_few c.loop-line.next lines k line.participant c.loop-line.invariant.taken
    (omega (arith, inside, c.requires.few, c.loop-line.invariant.long)) c.loop-line-test.true in
    omega (arith, few, c.loop-line-test.true, c.loop-line.invariant.room, c.loop-line.answers.ok, c.loop-line.answers.small, c.loop-line.auto.line-index-end)

pub loop-line-preserved : goal.loop-line-preserved
loop-line-preserved c =
    let lines : List Line = c.args.lines.now in
    let by : List (List Answer) = c.args.by.now in
    let k : ℕ = c.loop-line.line-index in
    let line : Line = c.line-item.result in
    let next : List ℕ = c.loop-line.next in
    let who : ℕ = line.participant in
    let was = c.loop-line.invariant in
    let inside : who < length by = declared_at (length by) lines k line c.requires.declared c.loop-line-test.true c.line-item.is in
    let low : who < length next = omega (arith, inside, c.requires.few, was.long) in
    let own : c.index-by-who.result ≡ answers_of by who = c.index-by-who.is ∙ get_or_default by who _ [] inside in
    record {
      answers =
          ap
          (λ (all : List Answer). all
          ++ woven (map (λ (line : Line). line.participant) (drop (k + 1) lines)) (left (set next who (get_or next who 0 + 1)) (answers_of by)))
          c.push_reserved.ensures.items
          ∙ weave_one lines k line c.loop-line-test.true c.line-item.is next (answers_of by) c.loop-line.answers.items _ c.in-Some.answer low
          (ap (λ (all : List Answer). slice_get all (get_or next who 0)) (sym own) ∙ sym c.get.ensures ∙ c.in-Some.is) was.answers;
      taken = counted_next lines k line c.loop-line-test.true c.line-item.is next was.taken low;
      long = length-set next who (get_or next who 0 + 1) ∙ was.long;
      count = omega (arith, c.push_reserved.ensures.len, was.count);
      room = omega (arith, c.push_reserved.ensures.capacity, was.room);
    }
