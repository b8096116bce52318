-- One row more is mapped, or the rows are unmapped again.
use Rattle.std.proofs.Common.{◌≡◌, ◌⊎◌, ◌+◌, ◌-◌, ◌<◌, ◌≤◌, ℕ, List, [], ◌∷◌, ◌++◌, Option, false, length, take, drop, map, get_or, arith, length-append, length-take, length-drop, ap, ◌∙◌, sym, subst}
use Rattle.std.proofs.lemmas.List.{length-map, take_rest}
use Rattle.hp_base.specs.Mapping.{CanMapAll, FailingCall, FailsSo, own_place, owned}
use Rattle.hp_base.specs.declared.caught.Caught.{Caught}
use Rattle.hp_base.specs.declared.map_answer.MapAnswer.{MapAnswer}
use Rattle.hp_base.specs.declared.row.Row.{Row}
use Rattle.hp_maps.specs.Catching.{HasAnswered, HasReason}
use Rattle.hp_maps.specs.Unmapping.{rows_mapped}
use Rattle.hp_maps.proofs.MapLemmas.{can_map_next, can_map_rest, held_first, held_more, answered_first, answered_more, rolled_back, answered_failed, failed_reason, own_unrefused, no_row}
use Rattle.hp_maps.proofs.mapping.map_rows.Goals as goal

pub map_own-got-requires : goal.map_own-got-requires
map_own-got-requires g c =
    can_map_next c.args.rows.now c.args.start c.loop-at.at _ _ _ _ _ c.args.calls _ c.requires.can (omega arith) (omega arith)
    c.loop-at.invariant.held c.loop-at.invariant.capacity
    (omega (
      arith,
      ap length c.loop-at.invariant.answered,
      c.requires.counted,
      length-append (g.M.Mapper.answers c.args.mapper.now)
          (map own_place (take (c.loop-at.at - c.args.start) (drop c.args.start c.args.rows.now))),
      length-map (take (c.loop-at.at - c.args.start) (drop c.args.start c.args.rows.now)) own_place,
      length-take (c.loop-at.at - c.args.start) (drop c.args.start c.args.rows.now),
      length-drop c.args.start c.args.rows.now,
    ))

pub returns-then-not-is_own-clause-answered : goal.returns-then-not-is_own-clause-answered
returns-then-not-is_own-clause-answered g c =
    let other = sym c.is_own.ensures ∙ c.if-not-is_own.true in
    subst (λ (caught : Caught). HasAnswered (drop c.args.start c.args.rows.now) (g.M.Mapper.answers c.args.mapper.now)
    (g.M.Mapper.answers c.unmap_rows.new.mapper) caught) (sym c.failed.ensures)
    (answered_failed c.args.rows.now c.args.start c.loop-at.at _ c.map_own-got.result _ _ _ c.args.calls _ (omega arith) (omega arith)
    c.loop-at.invariant.answered other (c.unmap_rows.ensures.answers ∙ c.map_own-got.ensures.answers) c.requires.counted (omega arith))

pub returns-then-not-is_own-clause-held : goal.returns-then-not-is_own-clause-held
returns-then-not-is_own-clause-held g c =
    let other = sym c.is_own.ensures ∙ c.if-not-is_own.true in
    rolled_back c.args.rows.now c.args.start c.loop-at.at _ c.map_own-got.result _ _ _ _ (omega arith) c.requires.can.apart
    c.loop-at.invariant.held other c.map_own-got.ensures.held c.unmap_rows.ensures.held
    ∙ ap (λ (caught : Caught). owned (rows_mapped c.args.rows.now c.args.start caught)) (sym c.failed.ensures)

pub returns-then-not-is_own-clause-reason : goal.returns-then-not-is_own-clause-reason
returns-then-not-is_own-clause-reason g c =
    let other = sym c.is_own.ensures ∙ c.if-not-is_own.true in
    let same = c.loop-at.invariant.may_fail in
    let row = get_or c.args.rows.now c.loop-at.at no_row in
    let n = length (g.M.Mapper.answers c.loop-at.mapper) in
    subst (λ (caught : Caught). HasReason (g.M.Mapper.may_fail c.args.mapper.now) caught) (sym c.failed.ensures)
    (failed_reason row c.map_own-got.result (g.M.Mapper.may_fail c.args.mapper.now) n _ other
    (subst (λ (may_fail : Option (List FailingCall)). (c.map_own-got.result ≡ own_place row) ⊎ FailsSo may_fail (n + 1) row c.map_own-got.result)
    same c.map_own-got.ensures.told)
    (omega (
      arith,
      ap length c.loop-at.invariant.answered,
      c.requires.counted,
      length-append (g.M.Mapper.answers c.args.mapper.now)
          (map own_place (take (c.loop-at.at - c.args.start) (drop c.args.start c.args.rows.now))),
      length-map (take (c.loop-at.at - c.args.start) (drop c.args.start c.args.rows.now)) own_place,
      length-take (c.loop-at.at - c.args.start) (drop c.args.start c.args.rows.now),
      length-drop c.args.start c.args.rows.now,
    )))

-- how many answers there are once a row is mapped
answers_now : (rows : List Row) (start at : ℕ) (now before first : List MapAnswer) (got : MapAnswer) (calls : ℕ) → start ≤ at → at < length rows
    → before ≡ first ++ map own_place (take (at - start) (drop start rows)) → now ≡ before ++ got ∷ [] → calls ≡ length first
    → length now ≡ calls + (at + 1 - start)
answers_now rows start at now before first got calls from within is_before is_now counted =
    omega (
      arith,
      from,
      within,
      counted,
      ap length is_now,
      length-append before (got ∷ []),
      ap length is_before,
      length-append first (map own_place (take (at - start) (drop start rows))),
      length-map (take (at - start) (drop start rows)) own_place,
      length-take (at - start) (drop start rows),
      length-drop start rows,
    )

pub map_first-at-requires : goal.map_first-at-requires
map_first-at-requires g c =
    let rows = c.args.rows.now in
    let at = c.loop-at.at in
    let keeps = c.loop-at.invariant in
    let own = sym c.is_own.ensures ∙ c.if-not-is_own.false in
    subst (λ (l : List Row). CanMapAll l (g.M.Mapper.held c.map_own-got.new.mapper) (g.M.Mapper.capacity c.map_own-got.new.mapper)
    (length (g.M.Mapper.answers c.map_own-got.new.mapper))) (sym (take_rest rows (at + 1)))
    (can_map_rest rows c.args.start (at + 1) _ _ _ _ c.args.calls _ c.requires.can (omega (arith, keeps.from)) (omega (arith, c.loop-at-test.true))
    (held_more rows at _ c.map_own-got.result _ _ c.loop-at-test.true keeps.held own c.map_own-got.ensures.held)
    (c.map_own-got.ensures.capacity ∙ keeps.capacity)
    (answers_now rows c.args.start at _ _ _ c.map_own-got.result c.args.calls keeps.from c.loop-at-test.true keeps.answered c.map_own-got.ensures.answers
    c.requires.counted))

pub loop-at-preserved : goal.loop-at-preserved
loop-at-preserved g c =
    let rows = c.args.rows.now in
    let at = c.loop-at.at in
    let n = c.map_first-at.result in
    let keeps = c.loop-at.invariant in
    let own = sym c.is_own.ensures ∙ c.if-not-is_own.false in
    let got = c.map_own-got in
    let within = c.loop-at-test.true in
    let rest = take_rest rows (at + 1) in
    record {
      from = omega (arith, keeps.from);
      within = omega (arith, within, c.map_first-at.ensures.within, ap length rest, length-drop (at + 1) rows);
      held = held_first rows (at + 1) n _ _ (held_more rows at _ got.result _ _ within keeps.held own got.ensures.held)
          (c.map_first-at.ensures.held ∙ ap (λ (l : List Row). g.M.Mapper.held got.new.mapper ++ owned (take n l)) rest);
      answered = answered_first rows c.args.start (at + 1) n _ _ _ (omega (arith, keeps.from))
          (answered_more rows c.args.start at _ got.result _ _ _ keeps.from within keeps.answered own got.ensures.answers)
          (c.map_first-at.ensures.answers ∙ ap (λ (l : List Row). g.M.Mapper.answers got.new.mapper ++ map own_place (take n l)) rest);
      capacity = c.map_first-at.ensures.capacity ∙ (got.ensures.capacity ∙ keeps.capacity);
      faults = c.map_first-at.ensures.faults
          ∙ (got.ensures.cause.same (own_unrefused (get_or rows at no_row) got.result own) ∙ keeps.faults);
      may_fail = c.map_first-at.ensures.may_fail ∙ (got.ensures.may_fail ∙ keeps.may_fail);
    }
