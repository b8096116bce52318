-- The lists of pools: one after the other, each on its pages, and all of them low.
use Rattle.std.proofs.Common.{◌≡◌, subst, ℕ, zero, suc, ◌+◌, ◌*◌, ◌%◌, ◌^◌, ◌<◌, ◌≤◌, List, [], ◌∷◌, Some, arith}
use Rattle.std.specs.List.{All, slice_get}
use Rattle.std.proofs.lemmas.Option.{slice_get_within}
use Rattle.std.proofs.lemmas.List.Elements.{All-head, All-tail}
use Rattle.hp_base.specs.PoolLines.{ArePoolLines, IsPoolLine}
use Rattle.hp_base.specs.declared.pool_line.PoolLine.{PoolLine}
use Rattle.hp_base.proofs.Rounding.{ceil_above, ceil_aligned}
use Rattle.hp_base.proofs.PageLemmas.{page_pos}
use Rattle.hp_segs.specs.Lists.{list_after, end_of, lists_from, lists_of}
use Rattle.hp_segs.specs.declared.list_info.ListInfo.{ListInfo}
use Rattle.hp_segs.specs.TableLayout.{IsFitList}
use Rattle.hp_segs.proofs.SlotFacts.ListsLemmas.{line_of_list}
use Rattle.hp_segs.proofs.NewLemmas.{end_grows}
use Rattle.hp_segs.proofs.RowTables.TableUse.{at_place}

-- the list of a pool begins at or above the end before it
begins_above : (line : PoolLine) (end : ℕ) → IsPoolLine line → end ≤ (list_after line end).base
begins_above line end is = ceil_above end line.page (page_pos line.page is.page)

-- each list lies at or above the end before the first
pub lists_above : (end : ℕ) (pools : List PoolLine) (list : ℕ) (info : ListInfo) → All IsPoolLine pools
    → slice_get (lists_from end pools) list ≡ Some info → end ≤ info.base
lists_above end [] list info lines here = cc
lists_above end (line ∷ pools) zero info lines here =
    let same : list_after line end ≡ info = cc in
    subst (λ (i : ListInfo). end ≤ i.base) same (begins_above line end (All-head IsPoolLine line pools lines))
lists_above end (line ∷ pools) (suc list) info lines here =
    let first = begins_above line end (All-head IsPoolLine line pools lines) in
    omega (arith, first, lists_above (end_of (list_after line end)) pools list info (All-tail IsPoolLine line pools lines) here)

-- and each that comes later at or above the end of an earlier one
apart_from : (end : ℕ) (pools : List PoolLine) (earlier later : ℕ) (one other : ListInfo) → All IsPoolLine pools → earlier < later
    → slice_get (lists_from end pools) earlier ≡ Some one → slice_get (lists_from end pools) later ≡ Some other
    → end_of one ≤ other.base
apart_from end [] earlier later one other lines before here there = cc
apart_from end (line ∷ pools) earlier zero one other lines before here there = absurd (omega (arith, before))
apart_from end (line ∷ pools) zero (suc later) one other lines before here there =
    let same : list_after line end ≡ one = cc in
    subst (λ (i : ListInfo). end_of i ≤ other.base) same
    (lists_above (end_of (list_after line end)) pools later other (All-tail IsPoolLine line pools lines) there)
apart_from end (line ∷ pools) (suc earlier) (suc later) one other lines before here there =
    apart_from (end_of (list_after line end)) pools earlier later one other (All-tail IsPoolLine line pools lines) (omega (arith, before)) here there

pub lists_apart : (pools : List PoolLine) (earlier later : ℕ) (one other : ListInfo) → ArePoolLines pools → earlier < later
    → slice_get (lists_of pools) earlier ≡ Some one → slice_get (lists_of pools) later ≡ Some other
    → end_of one ≤ other.base
lists_apart pools earlier later one other limits before here there =
    apart_from (2 ^ 32) pools earlier later one other limits.lines before here there

-- each list begins at a multiple of its page
aligned_from : (end : ℕ) (pools : List PoolLine) (list : ℕ) (info : ListInfo)
    → slice_get (lists_from end pools) list ≡ Some info → info.base % info.page ≡ 0
aligned_from end [] list info here = cc
aligned_from end (line ∷ pools) zero info here =
    let same : list_after line end ≡ info = cc in
    subst (λ (i : ListInfo). i.base % i.page ≡ 0) same (ceil_aligned end line.page)
aligned_from end (line ∷ pools) (suc list) info here = aligned_from (end_of (list_after line end)) pools list info here

pub list_aligned : (pools : List PoolLine) (list : ℕ) (info : ListInfo) → slice_get (lists_of pools) list ≡ Some info
    → info.base % info.page ≡ 0
list_aligned pools list info here = aligned_from (2 ^ 32) pools list info here

-- lists end not much later than where the first begins
low_from : (end : ℕ) (pools : List PoolLine) (list : ℕ) (info : ListInfo) → All IsPoolLine pools
    → slice_get (lists_from end pools) list ≡ Some info → end_of info ≤ end + (list + 1) * 2 ^ 48
low_from end [] list info lines here = cc
low_from end (line ∷ pools) zero info lines here =
    let same : list_after line end ≡ info = cc in
    let grows = end_grows line end (All-head IsPoolLine line pools lines) in
    subst (λ (i : ListInfo). end_of i ≤ end + 1 * 2 ^ 48) same (omega (arith, grows))
low_from end (line ∷ pools) (suc list) info lines here =
    let grows = end_grows line end (All-head IsPoolLine line pools lines) in
    let rest = low_from (end_of (list_after line end)) pools list info (All-tail IsPoolLine line pools lines) here in
    omega (arith, grows, rest)

-- each list has pages of one of the sizes, at most 8,192 slots, and lies below 2^63
pub list_fits : (pools : List PoolLine) (list : ℕ) (info : ListInfo) → ArePoolLines pools → slice_get (lists_of pools) list ≡ Some info
    → IsFitList info
list_fits pools list info limits here =
    let found = line_of_list pools list info here in
    let line : IsPoolLine found.line = at_place IsPoolLine pools list found.line limits.lines found.its_line in
    let low = low_from (2 ^ 32) pools list info limits.lines here in
    let inside = slice_get_within pools list found.line found.its_line in
    let few = limits.few in
    record {
      page = rw found.alike.page line.page;
      slots = rw found.alike.slots line.slots;
      below = omega (arith, low, inside, few);
    }
