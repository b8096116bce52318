-- Elements that tile segments end where segments do, so in the lower half of the addresses.
use Rattle.std.proofs.Common.{◌≡◌, ℕ, zero, suc, ◌+◌, ◌-◌, ◌^◌, ◌<◌, ◌≤◌, Bool, true, false, cond, List, [], ◌∷◌, ◌++◌, refl, sym, subst, arith, All, count_by, append_assoc, leb, ltb}
use Rattle.std.proofs.lemmas.Bool.{and_parts, ltb-true}
use Rattle.std.proofs.lemmas.Bool.Decides.{nat_tests}
use Rattle.std.specs.List.{AllByRecursion}
use Rattle.hp_base.specs.declared.span.Span.{Span}
use Rattle.hp_heap.specs.PlainHeap.{Extent, end_of}
use Rattle.hp_heap.specs.Tiling.{IsTiling, IsElement, IsRisingFrom, in_range, in_segment}
use Rattle.hp_heap.specs.Statistics.{total_bytes}
use Rattle.hp_heap.specs.FreeSearch.{HasSpace}
use Rattle.hp_heap.proofs.LaidLemmas.{IsInLimits}
use Rattle.hp_heap.proofs.HistoryFacts.Counting.{count_by-append, count_by-cons, total-cons}

-- a byte of some segment is within the limits
in_limits : (byte : ℕ) (segments : List Extent) → AllByRecursion IsInLimits segments → 0 < count_by (in_segment byte) segments → byte < 2 ^ 63
in_limits byte [] limits some = absurd (omega (arith, some))
in_limits byte (s ∷ segments) limits some = by_test (in_segment byte s) refl (λ rest. in_limits byte segments limits.1 rest)
  where
    by_test : (b : Bool) → in_segment byte s ≡ b → (0 < count_by (in_segment byte) segments → byte < 2 ^ 63) → byte < 2 ^ 63
    by_test true inside rest = let before : byte < s.addr + s.len = ltb-true byte (s.addr + s.len) (and_parts (leb s.addr byte) (ltb byte (s.addr + s.len)) inside).1 in omega (arith, limits.0)
    by_test false outside rest =
        let weight : cond {A = ℕ} (in_segment byte s) 1 0 ≡ 0 = rw outside refl in
        rest (omega (arith, some, count_by-cons (in_segment byte) s segments, weight))

last_byte : (r : Span) → 192 ≤ r.whole → cond {A = ℕ} (in_range (end_of r - 1) r) 1 0 ≡ 1
last_byte r size = grind (arith, nat_tests)

spaces : (segments : List Extent) (insertions : ℕ) (before after : List Span) → AllByRecursion IsInLimits segments
    → ((byte : ℕ) → count_by (in_range byte) (before ++ after) ≡ count_by (in_segment byte) segments) → AllByRecursion (IsElement insertions) after → AllByRecursion HasSpace after
spaces segments insertions before [] limits once elements = tt
spaces segments insertions before (r ∷ after) limits once elements = (
  record { some = omega (arith, elements.0.size.least); end = ends (in_limits (end_of r - 1) segments limits here) },
  spaces segments insertions (before ++ (r ∷ [])) after limits (λ byte. subst (λ zs. count_by (in_range byte) zs ≡ count_by (in_segment byte) segments) (sym (append_assoc before (r ∷ []) after)) (once byte)) elements.1,
)
  where
    here : 0 < count_by (in_segment (end_of r - 1)) segments
    here = omega (arith, once (end_of r - 1), count_by-append (in_range (end_of r - 1)) before (r ∷ after), count_by-cons (in_range (end_of r - 1)) r after, last_byte r elements.0.size.least)

    ends : end_of r - 1 < 2 ^ 63 → end_of r ≤ 2 ^ 63
    ends below = omega (arith, elements.0.size.least)

pub tiled_spaces : (segments : List Extent) (insertions : ℕ) (ranges : List Span) → IsTiling segments insertions ranges → AllByRecursion IsInLimits segments → AllByRecursion HasSpace ranges
tiled_spaces segments insertions ranges tiling limits = spaces segments insertions [] ranges limits tiling.once tiling.elements

pub All-spaces : (ranges : List Span) → AllByRecursion HasSpace ranges → All HasSpace ranges
All-spaces [] all k d within = absurd (omega arith)
All-spaces (x ∷ xs) all zero d within = all.0
All-spaces (x ∷ xs) all (suc k) d within = All-spaces xs all.1 k d (omega arith)

-- elements that rise have no more bytes than their end
pub total_below : (from limit : ℕ) (ranges : List Span) → from ≤ limit → IsRisingFrom from ranges → AllByRecursion (λ r. end_of r ≤ limit) ranges → from + total_bytes ranges ≤ limit
total_below from limit [] within rising ends = omega arith
total_below from limit (x ∷ xs) within rising ends = omega (arith, rising.0, total-cons x xs, total_below (end_of x) limit xs ends.0 rising.1 ends.1)
