use Rattle.std.proofs.Common.{◌≡◌, length, ap, sym, subst, ◌∙◌, arith}
use Rattle.hp_heap.specs.Step.{after, after_name}
use Rattle.hp_zone.specs.Directory.{MayRemove}
use Rattle.hp_external.proofs.CallLemmas.{may_remove}
use Rattle.hp_external.proofs.TieSteps.{tied_same}
use Rattle.hp_external.proofs.creating.destroy.Goals as goal

pub remove-requires : goal.remove-requires
remove-requires c =
    let none : length c.chunks-chunks.result.now ≡ 0 = grind arith in
    let empty : length c.args.heap.now.plain.chunks ≡ 0 = rw c.chunks-chunks.ensures.chunks at none in
    may_remove c.args.names.now.heaps.plain c.args.text.now c.args.heap.now.plain _ _ c.index.result c.in_ok-external_heap.ensures.found
    (c.requires.named _ _ c.in_ok-external_heap.ensures.found) c.index.ensures empty c.requires.listed

pub returns-clause-tied : goal.returns-clause-tied
unfolding after after_name
returns-clause-tied c claims participant rows tied =
    tied_same c.args.names.now.heaps.plain.ranges c.remove.new.self.plain.ranges claims participant rows c.args.heap.now.plain c.clear_name.new.self.plain
    (ap (λ d. d.plain.ranges) c.remove.ensures) (ap (λ h. h.index) c.clear_name.ensures.heap) (ap (λ h. h.chunks) c.clear_name.ensures.heap) tied
