-- External memory within its limits.
use Rattle.std.proofs.Common.{◌≡◌, ◌==◌, nat_le, nat_lt, ℕ, zero, suc, ◌+◌, ◌-◌, ◌*◌, ◌/◌, ◌<◌, ◌≤◌, Bool, true, false, not, cond, List, [], ◌∷◌, ◌++◌, map, length, filter, get_or, max, Option, Some, None, Ok, Err, refl, ap, ◌∙◌, sym, subst, arith, count_by, sum_by, mul_comm, if◌then◌else◌}
use Rattle.std.specs.List.{All, enumerate_from, find, fold, list_any, range_with_len}
use Rattle.std.proofs.lemmas.Bool.{and_from, and_parts, eqb-true, false_from_ne_true, leb-true, lt-ltb, ltb-false, ltb-true, not-true, or_parts}
use Rattle.std.proofs.lemmas.List.Elements.{All-push, All-filter, All-nil, All-cons, All-head, All-tail}
use Rattle.std.proofs.lemmas.List.Sums.{sum_by_push}
use Rattle.std.proofs.lemmas.List.Filters.{sum_by-filter_both}
use Rattle.hp_base.specs.ExternalMemory.{is_bad_range}
use Rattle.hp_base.specs.declared.pool_line.PoolLine.{PoolLine}
use Rattle.hp_base.specs.declared.row.Row.{Row}
use Rattle.hp_base.proofs.MemoryLemmas.{good_memory}
use Rattle.hp_log.proofs.Counts.{count_none, none_counts}
use Rattle.hp_segs.specs.Lists.{lists_of}
use Rattle.hp_segs.specs.Ranges.{all_lists, first_shared, free_number, info_of, is_free_number, is_too_much, lower_of, lower_shared, overlap_of, range_apart, range_contains, range_entry, range_list, range_plan, range_segments, row_at, segment_count, shares_byte}
use Rattle.hp_segs.specs.SegsView.{SegsView, rows_in}
use Rattle.hp_segs.specs.SoundPlaces.{AreRanges, IsBeside, IsRange}
use Rattle.hp_segs.specs.declared.external_range.ExternalRange.{ExternalRange}
use Rattle.hp_segs.specs.declared.fault.RangeFault.TheVariants.{BadRange, NoSpace}
use Rattle.hp_segs.specs.declared.list_info.ListInfo.{ListInfo}
use Rattle.hp_segs.proofs.GrowthSteps.ClaimLemmas.{found_has}
use Rattle.hp_segs.proofs.SlotFacts.ListFacts.{all_unmap, split_back, split_front}

-- a range that gets a list is good, has a number below 128, and leaves all segments few
pub record IsPlannedRange (segs : SegsView) (addr len page list : ℕ) : Type 0 where
  pub good : is_bad_range addr len page ≡ false
  pub apart : overlap_of segs addr len ≡ None
  pub free : free_number (length segs.pools) segs.ranges ≡ Some list
  pub room : is_too_much (segment_count segs) len page ≡ false

range_room : (segs : SegsView) (addr len page list number : ℕ) (much : Bool) → is_bad_range addr len page ≡ false → overlap_of segs addr len ≡ None
    → free_number (length segs.pools) segs.ranges ≡ Some number → is_too_much (segment_count segs) len page ≡ much
    → (if much then Err NoSpace else Ok number) ≡ Ok list → IsPlannedRange segs addr len page list
range_room segs addr len page list number true good apart free room plan = cc
range_room segs addr len page list number false good apart free room plan =
    let same : number ≡ list = cc in
    record { good = good; apart = apart; free = free ∙ ap Some same; room = room }

range_number : (segs : SegsView) (addr len page list : ℕ) (number : Option ℕ) → is_bad_range addr len page ≡ false → overlap_of segs addr len ≡ None
    → free_number (length segs.pools) segs.ranges ≡ number → range_list segs len page number ≡ Ok list → IsPlannedRange segs addr len page list
range_number segs addr len page list None good apart free plan = cc
range_number segs addr len page list (Some number) good apart free plan =
    range_room segs addr len page list number (is_too_much (segment_count segs) len page) good apart free refl plan

range_overlap : (segs : SegsView) (addr len page list : ℕ) (row : Option Row) → is_bad_range addr len page ≡ false → overlap_of segs addr len ≡ row
    → range_apart segs len page row ≡ Ok list → IsPlannedRange segs addr len page list
range_overlap segs addr len page list None good apart plan =
    range_number segs addr len page list (free_number (length segs.pools) segs.ranges) good apart refl plan
range_overlap segs addr len page list (Some row) good apart plan = cc

range_good : (segs : SegsView) (addr len page list : ℕ) (bad : Bool) → is_bad_range addr len page ≡ bad
    → (if bad then Err BadRange else range_apart segs len page (overlap_of segs addr len)) ≡ Ok list → IsPlannedRange segs addr len page list
range_good segs addr len page list true good plan = cc
range_good segs addr len page list false good plan =
    range_overlap segs addr len page list (overlap_of segs addr len) good refl plan

pub planned_range : (segs : SegsView) (addr len page list : ℕ) → range_plan addr len page segs ≡ Ok list → IsPlannedRange segs addr len page list
planned_range segs addr len page list plan = range_good segs addr len page list (is_bad_range addr len page) refl plan

below_range : (a n : ℕ) → All (λ k. k < a + n) (range_with_len a n)
below_range a zero = All-nil (λ k. k < a + 0)
below_range a (suc n) =
    let place : a + 1 + n ≡ a + suc n = omega arith in
    All-cons (λ k. k < a + suc n) a (range_with_len (a + 1) n) (omega arith)
    (subst (λ end. All (λ k. k < end) (range_with_len (a + 1) n)) place (below_range (a + 1) n))

find_passes_by : {X : Type 0} (p : X → Bool) (x y : X) (xs : List X) (passes : Bool) → p x ≡ passes → cond passes (Some x) (find p xs) ≡ Some y
    → (find p xs ≡ Some y → p y ≡ true) → p y ≡ true
find_passes_by p x y xs true here found rest =
    let same : x ≡ y = cc in
    ap p (sym same) ∙ here
find_passes_by p x y xs false here found rest = rest found

-- what is found passes
pub find_passes : {X : Type 0} (p : X → Bool) (xs : List X) (y : X) → find p xs ≡ Some y → p y ≡ true
find_passes p [] y found = cc
find_passes p (x ∷ xs) y found = find_passes_by p x y xs (p x) refl found (find_passes p xs y)

lower_some : (b : Bool) (lowest row : Row) → (if b then Some row else Some lowest) ≡ None → ⊥
lower_some true lowest row none = cc
lower_some false lowest row none = cc

lower_none : (lowest row : Option Row) → lower_of lowest row ≡ None → (lowest ≡ None) × (row ≡ None)
lower_none None None none = (refl, refl)
lower_none None (Some row) none = cc
lower_none (Some lowest) None none = cc
lower_none (Some lowest) (Some row) none = absurd (lower_some (nat_lt row.addr lowest.addr) lowest row none)

-- where no overlap is found, none is known before and no list has one
pub fold_none : (rows : List Row) (addr len : ℕ) (lists : List (ℕ × ListInfo)) (lowest : Option Row) → fold (lower_shared rows addr len) lowest lists ≡ None
    → (lowest ≡ None) × All (λ list. first_shared rows addr len list ≡ None) lists
fold_none rows addr len [] lowest none = (none, All-nil (λ list. first_shared rows addr len list ≡ None))
fold_none rows addr len (list ∷ lists) lowest none =
    let rest = fold_none rows addr len lists (lower_of lowest (first_shared rows addr len list)) none in
    let here = lower_none lowest (first_shared rows addr len list) rest.0 in
    (here.0, All-cons (λ list. first_shared rows addr len list ≡ None) list lists here.1 rest.1)

shares_none : (shares : Bool) (row : Row) → (if shares then Some row else None) ≡ None → shares ≡ false
shares_none true row none = cc
shares_none false row none = refl

unnumbered : (P : ListInfo → Type 0) (n : ℕ) (lists : List ListInfo) → All (λ list. P list.1) (enumerate_from n lists) → All P lists
unnumbered P n [] all = All-nil P
unnumbered P n (info ∷ lists) all =
    All-cons P info lists (All-head (λ list. P list.1) (n, info) (enumerate_from (n + 1) lists) all)
    (unnumbered P (n + 1) lists (All-tail (λ list. P list.1) (n, info) (enumerate_from (n + 1) lists) all))

-- where no overlap is found, no list shares a byte with the range
pub none_shared : (segs : SegsView) (addr len : ℕ) → overlap_of segs addr len ≡ None
    → All (λ info. shares_byte addr len info ≡ false) (lists_of segs.pools) × All (λ range. shares_byte addr len (info_of range) ≡ false) segs.ranges
none_shared segs addr len none =
    let rows : List Row = rows_in segs.segments in
    let each = (fold_none rows addr len (all_lists segs) None none).1 in
    let clear : All (λ list. shares_byte addr len list.1 ≡ false) (all_lists segs) =
    λ k d within.
    shares_none (shares_byte addr len (get_or (all_lists segs) k d).1)
    (row_at rows (get_or (all_lists segs) k d).0 (get_or (all_lists segs) k d).1
    ((max addr (get_or (all_lists segs) k d).1.base - (get_or (all_lists segs) k d).1.base) / (get_or (all_lists segs) k d).1.page))
    (each k d within) in (
      unnumbered (λ info. shares_byte addr len info ≡ false) 0 (lists_of segs.pools)
          (split_front (λ list. shares_byte addr len list.1 ≡ false) (enumerate_from 0 (lists_of segs.pools)) (map range_entry segs.ranges) clear),
      all_unmap (λ list. shares_byte addr len list.1 ≡ false) range_entry segs.ranges
          (split_back (λ list. shares_byte addr len list.1 ≡ false) (enumerate_from 0 (lists_of segs.pools)) (map range_entry segs.ranges) clear),
    )

-- the slots of good external memory are all of its bytes
slots_all : (range : ExternalRange) → is_bad_range range.addr range.len range.page ≡ false → range.len / range.page * range.page ≡ range.len
slots_all range good =
    let memory = good_memory range.addr range.len range.page good in
    omega (arith, memory.least, memory.whole, mul_comm (range.len / range.page) range.page)

apart_by : (byte : ℕ) (range other : ExternalRange) → IsRange other → shares_byte range.addr range.len (info_of other) ≡ false
    → range_contains byte range ≡ true → range_contains byte other ≡ false
apart_by byte range other good apart contains =
    let here = and_parts (nat_le range.addr byte) (nat_lt byte (range.addr + range.len)) contains in
    let low : range.addr ≤ byte = leb-true range.addr byte here.0 in
    let high : byte < range.addr + range.len = ltb-true byte (range.addr + range.len) here.1 in
    let all = slots_all other good.good in
    false_from_ne_true (range_contains byte other) (λ there.
    let both = and_parts (nat_le other.addr byte) (nat_lt byte (other.addr + other.len)) there in
    let first : other.addr ≤ byte = leb-true other.addr byte both.0 in
    let last : byte < other.addr + other.len = ltb-true byte (other.addr + other.len) both.1 in
    let before : nat_lt other.addr (range.addr + range.len) ≡ true = lt-ltb other.addr (range.addr + range.len) (omega (arith, first, high)) in
    let behind : nat_lt range.addr (other.addr + other.len / other.page * other.page) ≡ true =
    lt-ltb range.addr (other.addr + other.len / other.page * other.page) (omega (arith, low, last, all)) in
    let wrong : true ≡ false = sym (and_from _ _ before behind) ∙ apart in
    cc)

contains_once : (byte : ℕ) (range : ExternalRange) (ranges : List ExternalRange) → All IsRange ranges
    → All (λ other. shares_byte range.addr range.len (info_of other) ≡ false) ranges → count_by (range_contains byte) ranges ≤ 1
    → (here : Bool) → range_contains byte range ≡ here → count_by (range_contains byte) (ranges ++ range ∷ []) ≤ 1
contains_once byte range ranges good apart once true here =
    let one : ◌≡◌ {A = ℕ} (cond (range_contains byte range) 1 0) 1 = ap (λ b. cond b 1 0) here in
    let none : count_by (range_contains byte) ranges ≡ 0 =
    count_none (range_contains byte) ranges
    (λ k d within. apart_by byte range (get_or ranges k d) (good k d within) (apart k d within) here) in
    omega (arith, one, none, sum_by_push (λ (r : ExternalRange). cond (range_contains byte r) 1 0) ranges range)
contains_once byte range ranges good apart once false here =
    let none : ◌≡◌ {A = ℕ} (cond (range_contains byte range) 1 0) 0 = ap (λ b. cond b 1 0) here in
    omega (arith, none, once, sum_by_push (λ (r : ExternalRange). cond (range_contains byte r) 1 0) ranges range)

numbered_once : (list : ℕ) (range : ExternalRange) (ranges : List ExternalRange) → list_any (λ other. other.list == range.list) ranges ≡ false
    → count_by (λ other. other.list == list) ranges ≤ 1 → (own : Bool) → (range.list == list) ≡ own
    → count_by (λ (other : ExternalRange). other.list == list) (ranges ++ range ∷ []) ≤ 1
numbered_once list range ranges free once true own =
    let one : ◌≡◌ {A = ℕ} (cond (range.list == list) 1 0) 1 = ap (λ b. cond b 1 0) own in
    let none : count_by (λ (other : ExternalRange). other.list == list) ranges ≡ 0 =
    none_counts (λ (other : ExternalRange). other.list == list) ranges
    (ap (λ n. list_any (λ (other : ExternalRange). other.list == n) ranges) (sym (eqb-true range.list list own)) ∙ free) in
    omega (arith, one, none, sum_by_push (λ (r : ExternalRange). cond (r.list == list) 1 0) ranges range)
numbered_once list range ranges free once false own =
    let none : ◌≡◌ {A = ℕ} (cond (range.list == list) 1 0) 0 = ap (λ b. cond b 1 0) own in
    omega (arith, none, once, sum_by_push (λ (r : ExternalRange). cond (r.list == list) 1 0) ranges range)

-- external memory with a planned range
pub ranges_more : (segs : SegsView) (addr len page socket list : ℕ) → IsPlannedRange segs addr len page list → AreRanges segs.pools segs.ranges
    → AreRanges segs.pools (segs.ranges ++ record { list = list; addr = addr; len = len; page = page; socket = socket } ∷ [])
ranges_more segs addr len page socket list plan old =
    let range : ExternalRange = record { list = list; addr = addr; len = len; page = page; socket = socket } in
    let room = or_parts (nat_lt 8192 (len / page)) (nat_lt 16384 (segment_count segs + len / page)) plan.room in
    let number = and_parts (nat_le (length segs.pools) list) (not (list_any (λ range. range.list == list) segs.ranges))
    (find_passes (is_free_number (length segs.pools) segs.ranges) (range_with_len 0 128) list plan.free) in
    let clear = none_shared segs addr len plan.apart in
    record {
      each =
          All-push IsRange segs.ranges range old.each
          (record {
            good = plan.good;
            list = found_has (is_free_number (length segs.pools) segs.ranges) (λ k. k < 128) (range_with_len 0 128) list (below_range 0 128) plan.free;
            segments = ltb-false 8192 (len / page) room.0;
          });
      segments = omega (arith, sum_by_push range_segments segs.ranges range, ltb-false 16384 (segment_count segs + len / page) room.1);
      beside =
          All-push (IsBeside segs.pools) segs.ranges range old.beside
          (record { behind = leb-true (length segs.pools) list number.0; apart = clear.0 });
      distinct = λ other.
          numbered_once other range segs.ranges (not-true (list_any (λ range. range.list == list) segs.ranges) number.1) (old.distinct other)
          (list == other) refl;
      apart = λ byte.
          contains_once byte range segs.ranges old.each clear.1 (old.apart byte) (range_contains byte range) refl;
    }

sum_kept : (f : ExternalRange → ℕ) (p : ExternalRange → Bool) (ranges : List ExternalRange) → sum_by f (filter p ranges) ≤ sum_by f ranges
sum_kept f p ranges = omega (arith, sum_by-filter_both p (λ range. not (p range)) (λ _. refl) f ranges)

-- external memory without some ranges
pub ranges_fewer : {pools : List PoolLine} (p : ExternalRange → Bool) (ranges : List ExternalRange) → AreRanges pools ranges → AreRanges pools (filter p ranges)
ranges_fewer {pools} p ranges old = record {
  each = All-filter p IsRange ranges old.each;
  segments = omega (arith, old.segments, sum_kept range_segments p ranges);
  beside = All-filter p (IsBeside pools) ranges old.beside;
  distinct = λ list. omega (arith, old.distinct list, sum_kept (λ (range : ExternalRange). cond (range.list == list) 1 0) p ranges);
  apart = λ byte. omega (arith, old.apart byte, sum_kept (λ (range : ExternalRange). cond (range_contains byte range) 1 0) p ranges);
}
