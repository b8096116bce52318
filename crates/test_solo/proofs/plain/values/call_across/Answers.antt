use Rattle.std.proofs.Common.{◌≡◌, ◌≢◌, ℕ, ◌+◌, ◌<◌, Some, Contains, refl, sym, ap, subst, ◌∙◌, arith}
use Rattle.hp_base.specs.declared.limits.TheConstants.{MAX_HEAPS}
use Rattle.hp_base.specs.declared.tag.Caller.{Caller}
use Rattle.hp_heap.specs.declared.entry.HeapCall.TheVariants as call
use Rattle.hp_heap.specs.PlainHeap.{PlainHeap}
use Rattle.hp_hall.specs.declared.kept.Kept.{Kept}
use Rattle.hp_hall.specs.declared.kept.Kept.TheVariants.{Heap}
use Rattle.hp_hall.specs.AgreedNames.{chunk_memory}
use Rattle.hp_hall.specs.Giving.{Knows, entries_made}
use Rattle.hp_hall.specs.HallCalls.{HasTaken}
use Rattle.hp_hall.specs.Holding.{HeapPart, IsAsPart}
use Rattle.hp_hall.proofs.Gives.{armed_taken, entries_made-none, entries_taken, gives_call, held_called, unarmed_settled}
use Rattle.hp_hall.proofs.NamesLeft.{leaves_same}
use Rattle.hp_plain.proofs.Given.{known}
use Rattle.hp_plain.proofs.Homes.{home_again}
use Rattle.hp_plain.specs.PlainState.{plain_state}
use Rattle.test_solo.proofs.Calls.{after_stats, once_told}
use Rattle.test_solo.proofs.plain.values.call_across.Goals as goal

-- the segment value's slot is none of a heap
apart_from_segs : (index : ℕ) → index < MAX_HEAPS → index ≢ MAX_HEAPS
apart_from_segs index below same = omega (arith, below, same)

pub take_and_leave-requires-clause-there : goal.take_and_leave-requires-clause-there
take_and_leave-requires-clause-there c =
    c.take.ensures.slots.home MAX_HEAPS (λ same. apart_from_segs c.args.index c.requires.index (sym same)) (c.requires.home MAX_HEAPS (omega arith))

pub publish_and_give-requires-clause-gives : goal.publish_and_give-requires-clause-gives
publish_and_give-requires-clause-gives c =
    let me = c.args.me in
    let left = c.take_and_leave.ensures in
    let knows : Knows = known c.take_and_leave.new.hall me in
    let taken = c.into_heap-heap.result.0 in
    let pen = c.into_heap-heap.result.1 in
    let mid = c.reserve.new.self in
    let given = c.stats-stats.new.self in
    let is = c.stats-stats.ensures in
    let took : HasTaken me c.args.index (Heap taken pen) (plain_state c.args.hall.now) (plain_state c.take.new.self) =
    subst (λ (kept : Kept). HasTaken me c.args.index kept (plain_state c.args.hall.now) (plain_state c.take.new.self)) c.into_heap-heap.ensures
    c.take.ensures.took in
    let same : given.plain ≡ mid.plain = is.heap ∙ after_stats me mid.plain in
    let none : entries_made knows.part ≡ 0 =
    entries_made-none knows.part (λ heap. ap (λ (part : HeapPart). part.entries) (left.others.part me heap c.requires.apart)
    ∙ entries_taken (Heap taken pen) _ _ took.part heap ∙ (c.requires.first heap).entries) in
    let next : ◌≡◌ {A = Caller} (record { participant = me; number = 1 }) (record { participant = me; number = entries_made knows.part + 1 }) =
    ap (λ (n : ℕ). record { participant = me; number = n + 1 }) (sym none) in
    let stands : IsAsPart (knows.part taken.plain.index) taken =
    subst (λ (part : HeapPart). IsAsPart part taken) (sym (left.others.part me taken.plain.index c.requires.apart)) took.stands in
    let plain : given.plain ≡ taken.plain = same ∙ c.reserve.ensures.same.plain in
    once_told knows c.args.index taken given pen
    (left.slots.taken c.args.index (apart_from_segs c.args.index c.requires.index) ∙ took.taken) took.fits.0 took.pairs
    (ap (λ (part : HeapPart). part.told) (left.others.part me c.args.index c.requires.apart)
    ∙ (ap (λ (k : ℕ). ((known c.take.new.self me).part k).told) (sym took.fits.0) ∙ took.part.0.untold))
    (gives_call knows taken mid given _ call.Stats _ c.reserve.ensures.same is
    (ap (λ (p : PlainHeap). p.index) same) (ap (λ (p : PlainHeap). p.serves) same) next
    (held_called taken mid given knows.part _ call.Stats _ c.reserve.ensures.same is plain refl refl stands.held)
    (unarmed_settled given.plain.index knows.heard (knows.part given.plain.index)
    (ap (λ (part : HeapPart). part.armed) (left.others.part me given.plain.index c.requires.apart)
    ∙ (armed_taken (Heap taken pen) _ _ took.part given.plain.index ∙ (c.requires.first given.plain.index).unarmed)))
    (leaves_same me mid.plain given.plain same)
    (λ claims chunk. subst (λ (p : PlainHeap). (knows.part p.index).claims ≡ Some claims → Contains p.chunks chunk → Contains claims (chunk_memory chunk))
    (sym plain) (stands.claimed claims chunk)))

pub returns-clause-home : goal.returns-clause-home
returns-clause-home c =
    home_again c.args.hall.now c.take_and_leave.new.hall c.publish_and_give.new.hall c.args.index c.requires.home
    (λ other apart home. c.take_and_leave.ensures.home other (c.take.ensures.slots.home other apart home))
    c.publish_and_give.ensures.slots.home c.publish_and_give.ensures.home
