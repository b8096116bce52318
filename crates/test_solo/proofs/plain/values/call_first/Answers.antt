use Rattle.std.proofs.Common.{◌≡◌, ℕ, ◌+◌, Some, Contains, refl, sym, ap, subst, ◌∙◌}
use Rattle.hp_base.specs.declared.tag.Caller.{Caller}
use Rattle.hp_heap.specs.declared.entry.HeapCall.TheVariants as call
use Rattle.hp_heap.specs.PlainHeap.{PlainHeap}
use Rattle.hp_hall.specs.declared.kept.Kept.{Kept}
use Rattle.hp_hall.specs.declared.kept.Kept.TheVariants.{Heap}
use Rattle.hp_hall.specs.AgreedNames.{chunk_memory}
use Rattle.hp_hall.specs.Giving.{Knows, entries_made}
use Rattle.hp_hall.specs.HallCalls.{HasTaken}
use Rattle.hp_hall.proofs.Gives.{armed_taken, entries_made-none, entries_taken, gives_call, held_called, unarmed_settled}
use Rattle.hp_hall.proofs.NamesLeft.{leaves_same}
use Rattle.hp_hall.proofs.HallStates.{others_then}
use Rattle.hp_plain.proofs.Given.{known}
use Rattle.hp_plain.proofs.Homes.{home_again}
use Rattle.hp_plain.specs.PlainState.{plain_state}
use Rattle.test_solo.proofs.Calls.{after_stats, once_told}
use Rattle.test_solo.proofs.plain.values.call_first.Goals as goal

pub publish_and_give-requires-clause-gives : goal.publish_and_give-requires-clause-gives
publish_and_give-requires-clause-gives c =
    let me = c.args.me in
    let knows : Knows = known c.take.new.self me in
    let taken = c.into_heap-heap.result.0 in
    let pen = c.into_heap-heap.result.1 in
    let mid = c.reserve.new.self in
    let given = c.stats-stats.new.self in
    let is = c.stats-stats.ensures in
    let took : HasTaken me c.args.index (Heap taken pen) (plain_state c.args.hall.now) (plain_state c.take.new.self) =
    subst (λ (kept : Kept). HasTaken me c.args.index kept (plain_state c.args.hall.now) (plain_state c.take.new.self)) c.into_heap-heap.ensures
    c.take.ensures.took in
    let same : given.plain ≡ mid.plain = is.heap ∙ after_stats me mid.plain in
    let none : entries_made knows.part ≡ 0 =
    entries_made-none knows.part (λ heap. entries_taken (Heap taken pen) _ _ took.part heap ∙ (c.requires.first heap).entries) in
    let next : ◌≡◌ {A = Caller} (record { participant = me; number = 1 }) (record { participant = me; number = entries_made knows.part + 1 }) =
    ap (λ (n : ℕ). record { participant = me; number = n + 1 }) (sym none) in
    let plain : given.plain ≡ taken.plain = same ∙ c.reserve.ensures.same.plain in
    once_told knows c.args.index taken given pen took.taken took.fits.0 took.pairs
    (ap (λ (k : ℕ). (knows.part k).told) (sym took.fits.0) ∙ took.part.0.untold)
    (gives_call knows taken mid given _ call.Stats _ c.reserve.ensures.same is (ap (λ (p : PlainHeap). p.index) same)
    (ap (λ (p : PlainHeap). p.serves) same) next
    (held_called taken mid given knows.part _ call.Stats _ c.reserve.ensures.same is plain refl refl took.stands.held)
    (unarmed_settled given.plain.index knows.heard (knows.part given.plain.index)
    (armed_taken (Heap taken pen) _ _ took.part given.plain.index ∙ (c.requires.first given.plain.index).unarmed))
    (leaves_same me mid.plain given.plain same)
    (λ claims chunk. subst (λ (p : PlainHeap). (knows.part p.index).claims ≡ Some claims → Contains p.chunks chunk → Contains claims (chunk_memory chunk))
    (sym plain) (took.stands.claimed claims chunk)))

pub returns-clause-home : goal.returns-clause-home
returns-clause-home c =
    home_again c.args.hall.now c.take.new.self c.publish_and_give.new.hall c.args.index c.requires.home c.take.ensures.slots.home
    c.publish_and_give.ensures.slots.home c.publish_and_give.ensures.home

pub returns-clause-others : goal.returns-clause-others
returns-clause-others c = others_then c.take.ensures.others c.publish_and_give.ensures.others
