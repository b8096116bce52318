use Rattle.std.proofs.Common.{◌≡◌, ℕ, ◌+◌, ◌*◌, ◌<◌, sym, subst, refl, arith, lit<}
use Rattle.std.proofs.Math.Nat.{add-mul-mod_self_right}
use Rattle.hp_base.specs.declared.row.Run.{Run}
use Rattle.test_heap.specs.declared.tests.TheConstants.{BASE, PAGE}
use Rattle.hp_heap.specs.Growing.{IsGrownTo, IsNextRun, IsRun}
use Rattle.hp_heap.specs.Step.{after}
use Rattle.hp_heap.proofs.Growths.{next_can_grow, grown_next}
use Rattle.test_heap.proofs.tests.heaps.grow.Goals as goal

abbrev pages : ℕ → Run
pages count = record { list = 0; first = 0; count = count; addr = BASE; page = PAGE; socket = 0 }

abbrev next : ℕ → ℕ → Run
next first before = record { list = 0; first = first; count = 1; addr = 4294967296 + before * 2097152; page = 2097152; socket = 0 }

behind : (first before : ℕ) → before ≡ first → IsNextRun (pages first) (next first before)
behind first before same = record { list = refl; page = refl; socket = refl; first = omega arith; addr = omega arith }

alone : (first before : ℕ) → before ≡ first → first < 16 → IsRun (next first before)
alone first before same few = record { some = lit< tt; size = refl; aligned = add-mul-mod_self_right 4294967296 before 2097152; base = omega arith; slots = omega arith; end = omega arith }

pub add_run-requires-clause-allowed : goal.add_run-requires-clause-allowed
add_run-requires-clause-allowed c =
    next_can_grow c.args.heap.now.plain (pages c.args.first) (next c.args.first c.from.result) c.requires.grown (behind c.args.first c.from.result c.from.ensures) (alone c.args.first c.from.result c.from.ensures c.requires.few)

pub returns-clause-grown : goal.returns-clause-grown
unfolding after
returns-clause-grown c =
    subst (λ h. IsGrownTo (pages (c.args.first + 1)) h) (sym c.add_run.ensures.heap)
    (grown_next c.args.heap.now.plain (pages c.args.first) (next c.args.first c.from.result) c.requires.grown (behind c.args.first c.from.result c.from.ensures))
