-- What holds of every heap, as its fields say it.
use Rattle.std.proofs.Common.{◌≡◌, ℕ, [], refl, sym, ap, subst, ◌∙◌, Option}
use Rattle.hp_heap.specs.declared.body.Body.TheInside.{Inside}
use Rattle.hp_heap.specs.PlainHeap.{opening_heap}
use Rattle.hp_heap.specs.Lists.{free_lists}
use Rattle.hp_heap.specs.Headers.{exact_lists}
use Rattle.hp_heap.specs.History.{replay, opening_of, IsLegal, StandsFor, IsSound}
use Rattle.hp_heap.specs.Inside.{opened, plain_of, view_of, IsHeap}

-- what holds of every heap
pub sound_of : (a : Inside) → IsHeap a → IsSound (view_of a)
unfolding free_lists
sound_of a heap =
    let opening : opening_of (plain_of a) ≡ opened a = ap (λ (i : ℕ). opening_heap i (plain_of a).serves) heap.index ∙ ap (λ (s : Option ℕ). opening_heap a.index s) heap.serves in
    let stands : StandsFor (plain_of a) a.history.items = record {
      legal = subst (λ from. IsLegal from a.history.items) (sym opening) heap.legal;
      left = sym (ap (λ from. replay from a.history.items) opening);
    } in
    record { tiled = heap.tiled; lists = heap.exact ∙ ap exact_lists heap.ranges; stands = stands }

-- the lists of an opening heap
pub opening_lists : (index : ℕ) (serves : Option ℕ) → exact_lists [] ≡ free_lists (opening_heap index serves)
unfolding free_lists
opening_lists index serves = refl
