use Rattle.std.proofs.Common.{◌≢◌, ℕ, sym, subst, arith}
use Rattle.test_solo.specs.Untouched.{IsUntouched}
use Rattle.test_solo.proofs.plain.steps.call_each.Goals as goal

other_caller : ◌≢◌ {A = ℕ} 0 1
other_caller same = omega (arith, same)

pub call_first-requires-clause-first : goal.call_first-requires-clause-first
call_first-requires-clause-first c = c.requires.first 1

-- what the one did leaves the other's part
pub call_first-requires-2-clause-first : goal.call_first-requires-2-clause-first
call_first-requires-2-clause-first c = λ heap.
    subst IsUntouched (sym (c.in_ok-call_first.ensures.others.part 0 heap other_caller)) (c.requires.first 0 heap)
