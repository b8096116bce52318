-- What was allocated is cleared.
use Rattle.std.proofs.Common.{◌≡◌, ◌∙◌, sym, ap, subst}
use Rattle.std.proofs.lemmas.Option.{none-some}
use Rattle.std.specs.Prelude.{Some, None}
use Rattle.hp_heap.specs.PlainHeap.{PlainHeap}
use Rattle.hp_bytes.specs.Zeroed.{KeepsData, LieIn}
use Rattle.hp_bytes.proofs.AllocLemmas.{alloc_call, alloc_refused, made_lent, refused_inside, refused_others, zero_data, zero_inside, zero_others, zero_store}
use Rattle.hp_bytes.proofs.store.Store.zalloc.Goals as goal

pub returns-in_err-addr-clause-inside : goal.returns-in_err-addr-clause-inside
returns-in_err-addr-clause-inside c =
    let made = alloc_call _ _ _ None _ _ c.in_err-addr.ensures.step in
    refused_inside c.args.self.now _ _ (alloc_refused _ _ _ _ _ c.sound.ensures.tiled made) c.requires.inside

pub returns-in_err-addr-clause-others : goal.returns-in_err-addr-clause-others
returns-in_err-addr-clause-others c =
    let made = alloc_call _ _ _ None _ _ c.in_err-addr.ensures.step in
    refused_others c.args.self.now _ _ (alloc_refused _ _ _ _ _ c.sound.ensures.tiled made)

pub unreachable-requires : goal.unreachable-requires
unreachable-requires c =
    let made = alloc_call _ _ _ (Some c.in_ok-addr.addr) _ _ c.in_ok-addr.ensures.step in
    none-some _
    (sym (made_lent _ c.args.req.now _ _ _ c.sound.ensures.tiled c.sound-2.ensures.tiled made.heap c.args.self.now c.requires.inside _ (sym made.result_is)) ∙ sym c.in_default.ensures.refused)

pub returns-clause-inside : goal.returns-clause-inside
returns-clause-inside c =
    let made = alloc_call _ _ _ (Some c.in_ok-addr.addr) _ _ c.in_ok-addr.ensures.step in
    zero_inside _ c.args.req.now _ _ _ c.sound.ensures.tiled c.sound-2.ensures.tiled made.heap c.args.self.now c.requires.inside _ (sym made.result_is) c.in-Ok.part c.clear.new.self c.in-Ok.ensures.part c.clear.ensures

pub returns-clause-zeros : goal.returns-clause-zeros
returns-clause-zeros c =
    let made = alloc_call _ _ _ (Some c.in_ok-addr.addr) _ _ c.in_ok-addr.ensures.step in
    zero_data _ c.args.req.now _ _ _ c.sound.ensures.tiled c.sound-2.ensures.tiled made.heap c.args.self.now c.requires.inside _ (sym made.result_is) c.in-Ok.part c.clear.new.self c.in-Ok.ensures.part c.clear.ensures

pub returns-clause-store : goal.returns-clause-store
returns-clause-store c =
    let made = alloc_call _ _ _ (Some c.in_ok-addr.addr) _ _ c.in_ok-addr.ensures.step in
    zero_store _ c.args.req.now _ _ _ c.sound.ensures.tiled c.sound-2.ensures.tiled made.heap c.args.self.now c.requires.inside _ (sym made.result_is) c.in-Ok.part c.clear.new.self c.in-Ok.ensures.part c.clear.ensures

pub returns-clause-others : goal.returns-clause-others
returns-clause-others c =
    let made = alloc_call _ _ _ (Some c.in_ok-addr.addr) _ _ c.in_ok-addr.ensures.step in
    zero_others _ c.args.req.now _ _ _ c.sound.ensures.tiled c.sound-2.ensures.tiled made.heap c.args.self.now c.requires.inside _ (sym made.result_is) c.in-Ok.part c.clear.new.self c.in-Ok.ensures.part c.clear.ensures
