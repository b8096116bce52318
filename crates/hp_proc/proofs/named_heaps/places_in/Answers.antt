-- One index more is looked at.
use Rattle.std.proofs.Common.{◌≡◌, ◌∙◌, ◌++◌, ◌∷◌, [], ℕ, List, None, Option, Some, ap, append-nil, arith, sym}
use Rattle.std.specs.Option.{option_flatten}
use Rattle.hp_proc.specs.declared.searched_heap.SearchedHeap.{SearchedHeap}
use Rattle.hp_proc.proofs.NamedPlaces.{places_all, places_below, places_more}
use Rattle.hp_proc.proofs.named_heaps.places_in.Goals as goal
use Rattle.hp_proc.proofs.named_heaps.places_in.Goals.{in-Some+in_ok-push, in_default}

pub loop-index-preserved : goal.loop-index-preserved
loop-index-preserved c =
    let plain = c.args.names.now.heaps.plain in
    let n = c.loop-index.index in
    elim c.match-at.branch [
      | in-Some+in_ok-push w ↦
          let socket = w.in-Some.socket in
          ap (λ places. places.items) w.places-is
          ∙ (w.in_ok-push.ensures.items
          ∙ (ap (λ (before : List SearchedHeap). before ++ record { index = n; serves = w.served_by.result } ∷ []) c.loop-index.invariant
          ∙ (ap (λ (serves : Option ℕ). places_below plain n ++ record { index = n; serves = serves } ∷ []) w.served_by.ensures
          ∙ sym (places_more plain n (Some (record { name = w.in-Some._name.now; socket = socket })) (ap option_flatten w.in-Some.ensures.named)))))
      | in_default w ↦
          ap (λ places. places.items) w.places-is
          ∙ (c.loop-index.invariant
          ∙ (sym (append-nil (places_below plain n)) ∙ sym (places_more plain n None w.in_default.ensures.none)))
    ]

pub returns : goal.returns
returns c =
    c.loop-index.invariant
    ∙ places_all c.args.names.now.heaps.plain c.loop-index.index (omega (arith, c.loop-index-test.false, c.loop-index.auto.index-end))
