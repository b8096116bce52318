use Rattle.std.proofs.Common.{◌≡◌, ℕ, ◌<◌, ⊎_elim, List, [], ◌∷◌, ◌++◌, map, length, take, get_or, Option, sym, ap, subst, ◌∙◌, arith, length-set}
use Rattle.std.proofs.lemmas.Bool.{cases_lt}
use Rattle.std.proofs.lemmas.List.{take_more, take_more_set, get_or-map, get_or_default, length-map}
use Rattle.hp_heap.specs.History.{HeapView, IsSound}
use Rattle.hp_board.specs.Served.{serves_of}
use Rattle.hp_board.proofs.opening.Opening.of.Goals as goal

pub loop-index-preserved : goal.loop-index-preserved
loop-index-preserved c =
    let heaps : List HeapView = c.args.heaps.now in
    let index : ℕ = c.loop-index.index in
    let heap : HeapView = c.index-heaps-index.result in
    let inside : index < length heaps = omega (arith, c.requires, c.loop-index-test.true) in
    let room : index < length c.loop-index.serves = omega (arith, c.loop-index.invariant.0, c.loop-index-test.true) in
    let served : c.serves.result ≡ get_or (map serves_of heaps) index c.serves.result =
    c.serves.ensures ∙ ap serves_of c.index-heaps-index.is ∙ sym (get_or-map serves_of heaps index heap c.serves.result inside) in (
      length-set c.loop-index.serves index c.serves.result ∙ c.loop-index.invariant.0,
      take_more_set c.loop-index.serves index c.serves.result room
          ∙ ap (λ (l : List (Option ℕ)). l ++ c.serves.result ∷ []) c.loop-index.invariant.1
          ∙ ap (λ (o : Option ℕ). take index (map serves_of heaps) ++ o ∷ []) served
          ∙ sym (take_more (map serves_of heaps) index c.serves.result (omega (arith, length-map heaps serves_of))),
      λ k d below. ⊎_elim (λ less. c.loop-index.invariant.2 k d less)
          (λ more. let same : index ≡ k = omega arith in
          subst (λ (j : ℕ). IsSound (get_or heaps j d)) same (subst IsSound (c.index-heaps-index.is ∙ get_or_default heaps index heap d inside) c.sound.ensures))
          (cases_lt k index),
    )
