-- The slots of all pools are few.
use Rattle.std.proofs.Common.{◌≡◌, ◌∙◌, ap, arith, sum_by, vec_capacity}
use Rattle.std.proofs.lemmas.List.Sums.{sum_by_more_le}
use Rattle.hp_base.specs.declared.pool_line.PoolLine.{PoolLine}
use Rattle.hp_segs.proofs.NewLemmas.{take_all}
use Rattle.hp_segs.proofs.NewSound.{kept_new}
use Rattle.hp_segs.proofs.segs.Segs.new.Goals as goal

abbrev none : PoolLine
none = record { socket = 0; page = 0; pages = 0; slots = 0 }

pub overflow_add-slots : goal.overflow_add-slots
overflow_add-slots c =
    let more = sum_by_more_le (λ (line : PoolLine). line.slots) c.args.pools.now c.loop-line.line-index none c.loop-line-test.true in
    omega (arith, more, c.loop-line.invariant, c.requires.pools.slots)

pub invariant_of-result : goal.invariant_of-result
invariant_of-result c =
    let made = c.in_ok-table.ensures in
    let all : c.loop-line.slots ≡ sum_by (λ (line : PoolLine). line.slots) c.args.pools.now =
    c.loop-line.invariant
    ∙ ap (sum_by (λ (line : PoolLine). line.slots)) (take_all c.args.pools.now c.loop-line.line-index (omega (arith, c.loop-line-test.false))) in
    rw (c.in_ok-new.ensures.ok, c.in_ok-armed.ensures.ok)
    (kept_new c.in_ok-table.table c.in_ok-asks.asks c.args.pools.now c.args.participants c.args.absent c.in_ok-retiring.retiring.items c.new-retired.result c.opening.result
    c.new-4.result.items (vec_capacity c.in_ok-retiring.retiring) made.pools made.log made.segments made.sound c.in_ok-asks.ensures
    c.in_ok-retiring.ensures.items c.new-retired.ensures c.opening.ensures c.new-4.ensures.items c.requires.participants
    (omega (arith, all, c.in_ok-retiring.ensures.capacity)))
