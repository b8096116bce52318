-- A page may come to a heap that has none.
use Rattle.std.proofs.Common.{◌≡◌, Some, refl, sym, subst, arith, lit<}
use Rattle.hp_base.specs.declared.row.Run.{Run}
use Rattle.hp_heap.specs.PlainHeap.{PlainHeap, opening_heap}
use Rattle.hp_heap.specs.Growing.{IsGrownTo, IsNextRun, IsRun}
use Rattle.hp_heap.specs.Step.{after}
use Rattle.hp_heap.proofs.Growths.{next_can_grow, grown_next, grown_opening}
use Rattle.test_report.specs.declared.tests.heaps.TheConstants.{LARGE}
use Rattle.test_report.proofs.tests.heaps.grow_large.Goals as goal

-- a run without pages, where the first page begins
abbrev bare : Run
bare = record LARGE { count = 0 }

behind : IsNextRun bare LARGE
behind = record { list = refl; page = refl; socket = refl; first = refl; addr = refl }

alone : IsRun LARGE
alone = record { some = lit< tt; size = refl; aligned = refl; base = omega arith; slots = omega arith; end = omega arith }

-- an allocation that found nothing leaves it without a page, and so does room for a call
empty : (opened allocated reserved : PlainHeap) → opened ≡ opening_heap 0 (Some 0) → ((run : Run) → IsGrownTo run opened → IsGrownTo run allocated)
    → reserved ≡ allocated → IsGrownTo bare reserved
empty opened allocated reserved opens keeps same =
    subst (λ heap. IsGrownTo bare heap) (sym same) (keeps bare (subst (λ heap. IsGrownTo bare heap) (sym opens) (grown_opening 0 0 bare refl)))

pub add_run-requires-clause-allowed : goal.add_run-requires-clause-allowed
add_run-requires-clause-allowed c =
    next_can_grow c.reserve.new.self.plain bare LARGE
    (empty _ _ _ c.requires.opens c.in_ok-allocate.ensures.grown c.reserve.ensures.same.plain) behind alone

pub returns : goal.returns
unfolding after
returns c = record {
  grown = c.in_ok-allocate-2.ensures.grown LARGE
      (subst (λ heap. IsGrownTo LARGE heap) (sym c.add_run.ensures.heap)
      (grown_next c.reserve.new.self.plain bare LARGE
      (empty _ _ _ c.requires.opens c.in_ok-allocate.ensures.grown c.reserve.ensures.same.plain) behind));
}
