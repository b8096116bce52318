use Rattle.std.proofs.Common.{rules, ◌≡◌, ◌<◌, refl, subst, sym}
use Rattle.hp_base.specs.declared.limits.TheConstants.{MAX_HEAPS}
use Rattle.hp_board.proofs.OwnershipFacts.PagesLeft.{name_pages}
use Rattle.hp_heap.specs.declared.entry.HeapAnswer.TheVariants as answer
use Rattle.hp_heap.specs.declared.entry.HeapCall.TheVariants as call
use Rattle.hp_external.specs.Creating.{Creates}
use Rattle.test_board.proofs.ZoneHeaps.{create_agrees, still_room}
use Rattle.test_board.proofs.ZoneLemmas.{none_called, one_called, then_called}
use Rattle.test_board.proofs.ZoneNames.{created_heaps}
use Rattle.test_board.proofs.tests.turn.brought.named.Goals as goal

pub returns-clause-names : goal.returns-clause-names
returns-clause-names c = λ _. created_heaps c.args.names.now c.create.new.names c.args.text.now _ c.in-Ok.socket c.in-Ok.ensures.created

pub returns-clause-heap : goal.returns-clause-heap
returns-clause-heap c = λ _.
    then_called 2 0 0 1 c.args.heap.now c.reserve.new.self c.set_name.new.self (none_called 2 0 c.args.heap.now c.reserve.new.self c.reserve.ensures.same)
    (one_called 2 0 c.reserve.new.self c.set_name.new.self c.call.result (call.Name c.in-Some.name c.in-Ok.socket) answer.Done c.call.ensures c.set_name.ensures c.stands.ensures.tiled c.stands.ensures.order
    (name_pages c.call.result c.in-Some.name c.in-Ok.socket answer.Done c.reserve.new.self c.set_name.new.self c.set_name.ensures) refl refl)

pub returns-clause-agreed : goal.returns-clause-agreed
returns-clause-agreed c = λ _ claims.
    let old = c.reserve.new.self in
    let index : c.in-Ok.index ≡ old.plain.index = search rules in
    let text : c.in-Some.name ≡ c.args.text.now = c.in-Some.ensures.text in
    let creates : Creates c.args.names.now c.create.new.names c.in-Some.name old.plain.index c.in-Ok.socket =
    subst (λ t. Creates c.args.names.now c.create.new.names t old.plain.index c.in-Ok.socket) (sym text)
    (subst (λ k. Creates c.args.names.now c.create.new.names c.args.text.now k c.in-Ok.socket) index c.in-Ok.ensures.created) in
    still_room c.args.heap.now old c.set_name.new.self c.args.names.now c.create.new.names claims claims c.reserve.ensures.same
    (create_agrees c.args.names.now c.create.new.names c.in-Some.name c.in-Ok.socket old c.set_name.new.self creates c.call.result c.set_name.ensures c.stands.ensures.tiled
    (subst (λ h. h.index < MAX_HEAPS) (sym c.reserve.ensures.same.plain) c.requires.index) claims)
