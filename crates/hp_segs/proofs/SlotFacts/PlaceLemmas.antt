-- Where lists and slots lie: that they are apart, and which slot of all lists is the lowest that shares a byte with a range.
use Rattle.std.proofs.Common.{◌≡◌, ◌≢◌, ◌⊎◌, ◌==◌, ◌∙◌, nat_lt, ℕ, zero, suc, ◌+◌, ◌-◌, ◌*◌, ◌/◌, ◌%◌, ◌<◌, ◌≤◌, max, Bool, true, false, if◌then◌else◌, List, [], ◌∷◌, map, length, get_or, Option, Some, None, inl, inr, refl, ap, sym, subst, arith, eq-eqb, mul_comm, unwrap_or, zero-mul}
use Rattle.std.specs.List.{All, enumerate_from, find, fold, slice_get}
use Rattle.std.proofs.Math.Nat.{mul-le-mul_right, suc-mul}
use Rattle.std.proofs.lemmas.Bool.{and_from, and_parts, cases_eq, cases_lt, eqb-true, lt-ltb, ltb-false, ltb-true}
use Rattle.std.proofs.lemmas.List.Elements.{All-append, All-map}
use Rattle.std.proofs.lemmas.Option.{slice_get_within}
use Rattle.hp_base.specs.PoolLines.{ArePoolLines, IsPoolLine}
use Rattle.hp_base.specs.declared.pool_line.PoolLine.{PoolLine}
use Rattle.hp_base.specs.declared.row.Row.{Row}
use Rattle.hp_base.proofs.MemoryLemmas.{good_memory}
use Rattle.hp_base.proofs.PageLemmas.{page_pos}
use Rattle.hp_log.specs.Rows.{at_slot}
use Rattle.hp_segs.specs.Lists.{end_of, lists_of}
use Rattle.hp_segs.specs.PlaceLaws.{IsLowestOverlap, IsOverlap, ListsApart, OverlapIsLowest, SharesByte, SlotsApart}
use Rattle.hp_segs.specs.Ranges.{all_lists, first_shared, lower_of, lower_shared, overlap_of, range_entry, row_at, shares_byte, unlogged_row}
use Rattle.hp_segs.specs.SegsView.{SegsView, rows_in}
use Rattle.hp_segs.specs.Sound.{IsSound}
use Rattle.hp_segs.specs.Table.{IsPlaced}
use Rattle.hp_segs.specs.declared.external_range.ExternalRange.{ExternalRange}
use Rattle.hp_segs.specs.declared.list_info.ListInfo.{ListInfo}
use Rattle.hp_segs.proofs.GrowthSteps.ClaimLemmas.{found_has}
use Rattle.hp_segs.proofs.SlotFacts.ListsApart.{list_fits, lists_apart}
use Rattle.hp_segs.proofs.SlotFacts.ListsLemmas.{length_lists_from, line_of_list}
use Rattle.hp_segs.proofs.QueryLemmas.{get_within}
use Rattle.hp_segs.proofs.SlotFacts.RangeLemmas.{find_passes, fold_none}
use Rattle.hp_segs.proofs.RowTables.TableUse.{at_place}

pub lists_are_apart : ListsApart
lists_are_apart pools list other info info' limits different here there =
    elim (cases_lt list other) [
      | inl below ↦ inl (lists_apart pools list other info info' limits below here there)
      | inr above ↦ inr (lists_apart pools other list info' info limits (omega (arith, above, different)) there here)
    ]

-- a later slot begins behind an earlier one
pub slot_behind : (earlier later page : ℕ) → earlier < later → earlier * page + page ≤ later * page
slot_behind earlier later page before =
    let most : suc earlier * page ≤ later * page = mul-le-mul_right page before in
    omega (arith, most, suc-mul earlier page)

slots_differ : (slot other page : ℕ) → 0 < page → (slot ≡ other → ⊥) → slot * page ≢ other * page
slots_differ slot other page some different same =
    elim (cases_lt slot other) [
      | inl below ↦ omega (arith, slot_behind slot other page below, same, some)
      | inr above ↦ omega (arith, slot_behind other slot page (omega (arith, above, different)), same, some)
    ]

-- a placed row lies within its list
within_list : (info : ListInfo) (slot : ℕ) → 0 < info.page → slot < info.slots → info.base + slot * info.page < end_of info
within_list info slot some within = omega (arith, slot_behind slot info.slots info.page within, some)

slots_by : (pools : List PoolLine) (row other : Row) → ArePoolLines pools → (at : IsPlaced (lists_of pools) row)
    → (there : IsPlaced (lists_of pools) other) → at_slot row.list row.slot other ≡ false → (row.list ≡ other.list) ⊎ (row.list ≡ other.list → ⊥)
    → row.addr ≢ other.addr
slots_by pools row other limits at there apart (inl list) same =
    let one : Some at.info ≡ Some there.info = sym at.its_list ∙ (ap (slice_get (lists_of pools)) list ∙ there.its_list) in
    let info : at.info ≡ there.info = cc in
    let some : 0 < at.info.page = page_pos at.info.page (list_fits pools row.list at.info limits at.its_list).page in
    let base : at.info.base ≡ there.info.base = ap (λ (i : ListInfo). i.base) info in
    let product : other.slot * at.info.page ≡ other.slot * there.info.page = ap (λ (i : ListInfo). other.slot * i.page) info in
    slots_differ row.slot other.slot at.info.page some
    (λ slot.
    let here : at_slot row.list row.slot other ≡ true =
    and_from (other.list == row.list) (other.slot == row.slot) (eq-eqb other.list row.list (sym list)) (eq-eqb other.slot row.slot (sym slot)) in
    let wrong : true ≡ false = sym here ∙ apart in
    cc)
    (omega (arith, at.addr, there.addr, same, base, product))
slots_by pools row other limits at there apart (inr different) same =
    let first : 0 < at.info.page = page_pos at.info.page (list_fits pools row.list at.info limits at.its_list).page in
    let second : 0 < there.info.page = page_pos there.info.page (list_fits pools other.list there.info limits there.its_list).page in
    elim (lists_are_apart pools row.list other.list at.info there.info limits different at.its_list there.its_list) [
      | inl before ↦ omega (arith, before, at.addr, there.addr, same, within_list at.info row.slot first at.within)
      | inr behind ↦ omega (arith, behind, at.addr, there.addr, same, within_list there.info other.slot second there.within)
    ]

pub slots_are_apart : SlotsApart
slots_are_apart pools row other limits at there apart = slots_by pools row other limits at there apart (cases_eq row.list other.list)

-- a list of a value: it has slots and pages, and is a pool's list, or is numbered after these
record IsKnown (pools : List PoolLine) (entry : ℕ × ListInfo) : Type 0 where
  page : 0 < entry.1.page
  slots : 0 < entry.1.slots
  known : (slice_get (lists_of pools) entry.0 ≡ Some entry.1) ⊎ (length pools ≤ entry.0)

enumerate_get : (n : ℕ) (lists : List ListInfo) (k : ℕ) (entry : ℕ × ListInfo) → slice_get (enumerate_from n lists) k ≡ Some entry
    → (entry.0 ≡ n + k) × (slice_get lists k ≡ Some entry.1)
enumerate_get n [] k entry here = cc
enumerate_get n (info ∷ lists) zero entry here =
    let same : (n, info) ≡ entry = cc in
    let number : n ≡ entry.0 = ap (λ (e : ℕ × ListInfo). e.0) same in
    (omega (arith, number), ap (λ (e : ℕ × ListInfo). Some e.1) same)
enumerate_get n (info ∷ lists) (suc k) entry here =
    let rest = enumerate_get (n + 1) lists k entry here in
    (omega (arith, rest.0), rest.1)

known_pool : (pools : List PoolLine) (k : ℕ) (entry : ℕ × ListInfo) → ArePoolLines pools → slice_get (enumerate_from 0 (lists_of pools)) k ≡ Some entry
    → IsKnown pools entry
known_pool pools k entry limits here =
    let at = enumerate_get 0 (lists_of pools) k entry here in
    let number : k ≡ entry.0 = omega (arith, at.0) in
    let info : slice_get (lists_of pools) entry.0 ≡ Some entry.1 = subst (λ i. slice_get (lists_of pools) i ≡ Some entry.1) number at.1 in
    let found = line_of_list pools entry.0 entry.1 info in
    let line : IsPoolLine found.line = at_place IsPoolLine pools entry.0 found.line limits.lines found.its_line in
    record {
      page = page_pos entry.1.page (list_fits pools entry.0 entry.1 limits info).page;
      slots = omega (arith, found.alike.slots, line.some);
      known = inl info;
    }

some_slots : (len page : ℕ) → 0 < len → 0 < page → len % page ≡ 0 → (slots : ℕ) → len / page ≡ slots → 0 < slots
some_slots len page some paged whole zero none =
    let product : len / page * page ≡ 0 = ap (λ q. q * page) none ∙ zero-mul page in
    omega (arith, some, paged, whole, product, mul_comm page (len / page))
some_slots len page some paged whole (suc slots) is = omega arith

-- all lists of a sound value are known
all_known : (segs : SegsView) → IsSound segs → All (IsKnown segs.pools) (all_lists segs)
all_known segs sound =
    All-append (IsKnown segs.pools) (enumerate_from 0 (lists_of segs.pools)) (map range_entry segs.ranges)
    (λ k d within.
    known_pool segs.pools k (get_or (enumerate_from 0 (lists_of segs.pools)) k d) sound.rows.table.limits
    (get_within (enumerate_from 0 (lists_of segs.pools)) k d within))
    (All-map (IsKnown segs.pools) range_entry segs.ranges
    (λ k d within.
    let range : ExternalRange = get_or segs.ranges k d in
    let memory = good_memory range.addr range.len range.page (sound.places.external.each k d within).good in
    let page : 0 < range.page = omega (arith, memory.least) in
    record {
      page = page;
      slots = some_slots range.len range.page memory.some page memory.whole (range.len / range.page) refl;
      known = inr (sound.places.external.beside k d within).behind;
    }))

-- the row at a slot of a known list lies at the slot's address
row_addr : (segs : SegsView) (list slot : ℕ) (info : ListInfo) → IsSound segs → IsKnown segs.pools (list, info)
    → (row_at (rows_in segs.segments) list info slot).addr ≡ info.base + slot * info.page
row_addr segs list slot info sound known =
    by_found (find (at_slot list slot) (rows_in segs.segments)) refl
  where
    same_list : (row : Row) → IsPlaced (lists_of segs.pools) row → row.list ≡ list
        → (slice_get (lists_of segs.pools) list ≡ Some info) ⊎ (length segs.pools ≤ list) → (placed : IsPlaced (lists_of segs.pools) row) → placed.info ≡ info
    same_list row at number (inl here) placed =
        let both : Some placed.info ≡ Some info = sym placed.its_list ∙ (ap (slice_get (lists_of segs.pools)) number ∙ here) in
        cc
    same_list row at number (inr behind) placed =
        let within = slice_get_within (lists_of segs.pools) row.list placed.info placed.its_list in
        let long : length (lists_of segs.pools) ≡ length segs.pools = length_lists_from 4294967296 segs.pools in
        absurd (omega (arith, within, long, behind, number))

    by_found : (found : Option Row) → find (at_slot list slot) (rows_in segs.segments) ≡ found
        → (unwrap_or found (unlogged_row list info slot)).addr ≡ info.base + slot * info.page
    by_found None is = refl
    by_found (Some row) is =
        let placed : IsPlaced (lists_of segs.pools) row =
        found_has (at_slot list slot) (IsPlaced (lists_of segs.pools)) (rows_in segs.segments) row sound.rows.table.placed is in
        let parts = and_parts (row.list == list) (row.slot == slot) (find_passes (at_slot list slot) (rows_in segs.segments) row is) in
        let its : placed.info ≡ info = same_list row placed (eqb-true row.list list parts.0) known.known placed in
        placed.addr
        ∙ (ap (λ s. placed.info.base + s * placed.info.page) (eqb-true row.slot slot parts.1)
        ∙ ap (λ (i : ListInfo). i.base + slot * i.page) its)

-- the slot of a list that an address lies in, or its first where the address lies before
abbrev slot_from : ℕ → ListInfo → ℕ
slot_from addr info = (max addr info.base - info.base) / info.page

record IsFirstSlot (addr len : ℕ) (info : ListInfo) : Type 0 where
  shares : SharesByte addr len info (slot_from addr info)
  least : (slot : ℕ) → SharesByte addr len info slot → info.base + slot_from addr info * info.page ≤ info.base + slot * info.page

-- where a slot is before a quotient, it ends at or before the number
before_quotient : (slot n page : ℕ) → 0 < page → slot < n / page → slot * page + page ≤ n
before_quotient slot n page some before =
    let most = slot_behind slot (n / page) page before in
    omega (arith, most, some, mul_comm page (n / page))

max_by : (addr base : ℕ) → ((addr < base) × (max addr base - base ≡ 0)) ⊎ ((base ≤ addr) × (max addr base - base ≡ addr - base))
max_by addr base =
    elim (cases_lt addr base) [
      | inl below ↦ inl (below, omega (arith, below))
      | inr above ↦ inr (above, omega (arith, above))
    ]

first_shares : (addr len : ℕ) (info : ListInfo) → 0 < len → 0 < info.page → 0 < info.slots → info.base < addr + len
    → addr < info.base + info.slots * info.page → SharesByte addr len info (slot_from addr info)
first_shares addr len info some page slots low high =
    let n : ℕ = max addr info.base - info.base in
    let product = mul_comm info.page (n / info.page) in
    let all : 0 < info.slots * info.page = omega (arith, slot_behind 0 info.slots info.page slots, page, zero-mul info.page) in
    let small : n < info.slots * info.page =
    elim (max_by addr info.base) [
      | inl below ↦ omega (arith, below.1, all)
      | inr above ↦ omega (arith, above.0, above.1, high)
    ] in
    let within : n / info.page < info.slots =
    elim (cases_lt (n / info.page) info.slots) [
      | inl below ↦ below
      | inr above ↦
          let most : info.slots * info.page ≤ n / info.page * info.page = mul-le-mul_right info.page above in
          absurd (omega (arith, most, small, product, page))
    ] in
    elim (max_by addr info.base) [
      | inl below ↦ (within, omega (arith, below.0, below.1, product, page, low), omega (arith, below.0, page))
      | inr above ↦ (within, omega (arith, above.0, above.1, product, page, some), omega (arith, above.0, above.1, product, page))
    ]

first_least : (addr len : ℕ) (info : ListInfo) (slot : ℕ) → 0 < info.page → SharesByte addr len info slot
    → info.base + slot_from addr info * info.page ≤ info.base + slot * info.page
first_least addr len info slot page shares =
    let n : ℕ = max addr info.base - info.base in
    elim (cases_lt slot (n / info.page)) [
      | inl before ↦
          let ends = before_quotient slot n info.page page before in
          absurd
          (elim (max_by addr info.base) [
            | inl below ↦ omega (arith, below.1, ends, page)
            | inr above ↦ omega (arith, above.0, above.1, ends, shares.2)
          ])
      | inr behind ↦
          let most : n / info.page * info.page ≤ slot * info.page = mul-le-mul_right info.page behind in
          omega (arith, most)
    ]

-- a list that shares a byte with a range has a first slot that does
first_slot : (addr len : ℕ) (info : ListInfo) → 0 < len → 0 < info.page → 0 < info.slots → shares_byte addr len info ≡ true → IsFirstSlot addr len info
first_slot addr len info some page slots shares =
    let parts = and_parts (nat_lt info.base (addr + len)) (nat_lt addr (info.base + info.slots * info.page)) shares in
    record {
      shares =
          first_shares addr len info some page slots (ltb-true info.base (addr + len) parts.0)
          (ltb-true addr (info.base + info.slots * info.page) parts.1);
      least = λ slot at. first_least addr len info slot page at;
    }

-- a slot that shares a byte is one of a list that does
slot_shares : (addr len : ℕ) (info : ListInfo) (slot : ℕ) → SharesByte addr len info slot → shares_byte addr len info ≡ true
slot_shares addr len info slot at =
    let most = slot_behind slot info.slots info.page at.0 in
    and_from (nat_lt info.base (addr + len)) (nat_lt addr (info.base + info.slots * info.page))
    (lt-ltb info.base (addr + len) (omega (arith, at.1)))
    (lt-ltb addr (info.base + info.slots * info.page) (omega (arith, at.2, most)))

lower_some : (lowest row : Row) (b : Bool) → nat_lt row.addr lowest.addr ≡ b → (first : Row) → (if b then Some row else Some lowest) ≡ Some first
    → ((lowest ≡ first) ⊎ (row ≡ first)) × (first.addr ≤ lowest.addr) × (first.addr ≤ row.addr)
lower_some lowest row true below first is =
    let same : row ≡ first = cc in
    let addr : row.addr ≡ first.addr = ap (λ (r : Row). r.addr) same in
    let less : row.addr < lowest.addr = ltb-true row.addr lowest.addr below in
    (inr same, omega (arith, addr, less), omega (arith, addr))
lower_some lowest row false above first is =
    let same : lowest ≡ first = cc in
    let addr : lowest.addr ≡ first.addr = ap (λ (r : Row). r.addr) same in
    let more : lowest.addr ≤ row.addr = ltb-false row.addr lowest.addr above in
    (inl same, omega (arith, addr), omega (arith, addr, more))

-- the lower of two rows is one of them, and at most either
record IsLower (lowest row : Option Row) (first : Row) : Type 0 where
  one : (lowest ≡ Some first) ⊎ (row ≡ Some first)
  left : (other : Row) → lowest ≡ Some other → first.addr ≤ other.addr
  right : (other : Row) → row ≡ Some other → first.addr ≤ other.addr

same_addr : (row other first : Row) → Some row ≡ Some other → first.addr ≤ row.addr → first.addr ≤ other.addr
same_addr row other first is least =
    let same : row ≡ other = cc in
    subst (λ (r : Row). first.addr ≤ r.addr) same least

lower_is : (lowest row : Option Row) (first : Row) → lower_of lowest row ≡ Some first → IsLower lowest row first
lower_is None row first is = record {
  one = inr is;
  left = λ other none. cc;
  right = λ other some. same_addr first other first (sym is ∙ some) (omega arith);
}
lower_is (Some lowest) None first is = record {
  one = inl is;
  left = λ other some. same_addr first other first (sym is ∙ some) (omega arith);
  right = λ other none. cc;
}
lower_is (Some lowest) (Some row) first is =
    let low = lower_some lowest row (nat_lt row.addr lowest.addr) refl first is in
    record {
      one =
          elim low.0 [
            | inl same ↦ inl (ap Some same)
            | inr same ↦ inr (ap Some same)
          ];
      left = λ other some. same_addr lowest other first some low.1;
      right = λ other some. same_addr row other first some low.2;
    }

-- where there is a row, the lower of it and another one is a row
lower_there : (lowest : Row) (row : Option Row) → (first : Row) × (lower_of (Some lowest) row ≡ Some first)
lower_there lowest None = (lowest, refl)
lower_there lowest (Some row) = by_test (nat_lt row.addr lowest.addr)
  where
    by_test : (b : Bool) → (first : Row) × ((if b then Some row else Some lowest) ≡ Some first)
    by_test true = (row, refl)
    by_test false = (lowest, refl)

-- the row of a list at which the walk over the lists came out
record IsFoldLowest (rows : List Row) (addr len : ℕ) (lists : List (ℕ × ListInfo)) (lowest : Option Row) (first : Row) : Type 0 where
  one : (lowest ≡ Some first) ⊎ ((place : ℕ) × (entry : ℕ × ListInfo) × (slice_get lists place ≡ Some entry) × (first_shared rows addr len entry ≡ Some first))
  before : (other : Row) → lowest ≡ Some other → first.addr ≤ other.addr
  each : (place : ℕ) (entry : ℕ × ListInfo) (other : Row) → slice_get lists place ≡ Some entry → first_shared rows addr len entry ≡ Some other
      → first.addr ≤ other.addr

fold_lowest : (rows : List Row) (addr len : ℕ) (lists : List (ℕ × ListInfo)) (lowest : Option Row) (first : Row)
    → fold (lower_shared rows addr len) lowest lists ≡ Some first → IsFoldLowest rows addr len lists lowest first
fold_lowest rows addr len [] lowest first is = record {
  one = inl is;
  before = λ other some. same_addr first other first (sym is ∙ some) (omega arith);
  each = λ place entry other here shared. cc;
}
fold_lowest rows addr len (list ∷ lists) lowest first is =
    let rest = fold_lowest rows addr len lists (lower_of lowest (first_shared rows addr len list)) first is in
    record {
      one =
          elim rest.one [
            | inl now ↦
                elim (lower_is lowest (first_shared rows addr len list) first now).one [
                  | inl old ↦ inl old
                  | inr here ↦ inr (0, list, refl, here)
                ]
            | inr later ↦ inr (suc later.0, later.1, later.2, later.3)
          ];
      before = λ other some. by_step other (subst (λ l. IsFoldLowest rows addr len lists (lower_of l (first_shared rows addr len list)) first) some rest);
      each = λ place entry other here shared. at_list place entry other here shared rest;
    }
  where
    by_step : (other : Row) → IsFoldLowest rows addr len lists (lower_of (Some other) (first_shared rows addr len list)) first → first.addr ≤ other.addr
    by_step other rest =
        let low = lower_there other (first_shared rows addr len list) in
        let less = (lower_is (Some other) (first_shared rows addr len list) low.0 low.1).left other refl in
        omega (arith, less, rest.before low.0 low.1)

    here_first : (lowest : Option Row) (other : Row) → IsFoldLowest rows addr len lists (lower_of lowest (Some other)) first → first.addr ≤ other.addr
    here_first None other rest = rest.before other refl
    here_first (Some lowest) other rest =
        let low = lower_there lowest (Some other) in
        let less = (lower_is (Some lowest) (Some other) low.0 low.1).right other refl in
        omega (arith, less, rest.before low.0 low.1)

    at_list : (place : ℕ) (entry : ℕ × ListInfo) (other : Row) → slice_get (list ∷ lists) place ≡ Some entry
        → first_shared rows addr len entry ≡ Some other
        → IsFoldLowest rows addr len lists (lower_of lowest (first_shared rows addr len list)) first → first.addr ≤ other.addr
    at_list zero entry other here shared rest =
        let same : list ≡ entry = cc in
        here_first lowest other
        (subst (λ s. IsFoldLowest rows addr len lists (lower_of lowest s) first) (ap (first_shared rows addr len) same ∙ shared) rest)
    at_list (suc place) entry other here shared rest = rest.each place entry other here shared

-- the row that a list gives, where it shares a byte
shared_is : (shares : Bool) (row first : Row) → (if shares then Some row else None) ≡ Some first → (shares ≡ true) × (row ≡ first)
shared_is true row first is = (refl, (let same : row ≡ first = cc in same))
shared_is false row first is = cc

module _ (segs : SegsView) (addr len : ℕ) (sound : IsSound segs) (some : 0 < len) where
  -- the row that a known list gives
  here_is : (entry : ℕ × ListInfo) (row : Row) → IsKnown segs.pools entry → first_shared (rows_in segs.segments) addr len entry ≡ Some row
      → (place : ℕ) → slice_get (all_lists segs) place ≡ Some entry → IsOverlap segs addr len row
  here_is entry row known shared place here =
      let its =
      shared_is (shares_byte addr len entry.1) (row_at (rows_in segs.segments) entry.0 entry.1 (slot_from addr entry.1)) row shared in
      let at = first_slot addr len entry.1 some known.page known.slots its.0 in
      record {
        place = place;
        list = entry.0;
        info = entry.1;
        slot = slot_from addr entry.1;
        its_list = here;
        shares = at.shares;
        its_row = sym its.1;
        its_addr = ap (λ (r : Row). r.addr) (sym its.1) ∙ row_addr segs entry.0 (slot_from addr entry.1) entry.1 sound known;
      }

  by_one : (row : Row) → IsFoldLowest (rows_in segs.segments) addr len (all_lists segs) None row
      → (None ≡ Some row) ⊎ ((place : ℕ) × (entry : ℕ × ListInfo) × (slice_get (all_lists segs) place ≡ Some entry)
      × (first_shared (rows_in segs.segments) addr len entry ≡ Some row))
      → IsOverlap segs addr len row
  by_one row lowest (inl none) = cc
  by_one row lowest (inr found) =
      here_is found.1 row (at_place (IsKnown segs.pools) (all_lists segs) found.0 found.1 (all_known segs sound) found.2) found.3 found.0 found.2

  lowest_of : (row : Row) → IsFoldLowest (rows_in segs.segments) addr len (all_lists segs) None row → (place list slot : ℕ) (info : ListInfo)
      → slice_get (all_lists segs) place ≡ Some (list, info) → SharesByte addr len info slot → row.addr ≤ info.base + slot * info.page
  lowest_of row lowest place list slot info here at =
      let known : IsKnown segs.pools (list, info) = at_place (IsKnown segs.pools) (all_lists segs) place (list, info) (all_known segs sound) here in
      let shares : shares_byte addr len info ≡ true = slot_shares addr len info slot at in
      let first = first_slot addr len info some known.page known.slots shares in
      let shared : first_shared (rows_in segs.segments) addr len (list, info)
      ≡ Some (row_at (rows_in segs.segments) list info (slot_from addr info)) =
      ap (λ b. if b then Some (row_at (rows_in segs.segments) list info (slot_from addr info)) else None) shares in
      let below = lowest.each place (list, info) (row_at (rows_in segs.segments) list info (slot_from addr info)) here shared in
      let own = row_addr segs list (slot_from addr info) info sound known in
      let least = first.least slot at in
      omega (arith, below, own, least)

  none_shares : overlap_of segs addr len ≡ None → (place list slot : ℕ) (info : ListInfo) → slice_get (all_lists segs) place ≡ Some (list, info)
      → SharesByte addr len info slot → ⊥
  none_shares is place list slot info here at =
      let none =
      at_place (λ entry. first_shared (rows_in segs.segments) addr len entry ≡ None) (all_lists segs) place (list, info)
      (fold_none (rows_in segs.segments) addr len (all_lists segs) None is).1 here in
      let shared : first_shared (rows_in segs.segments) addr len (list, info)
      ≡ Some (row_at (rows_in segs.segments) list info (slot_from addr info)) =
      ap (λ b. if b then Some (row_at (rows_in segs.segments) list info (slot_from addr info)) else None) (slot_shares addr len info slot at) in
      let wrong : None ≡ Some (row_at (rows_in segs.segments) list info (slot_from addr info)) = sym none ∙ shared in
      cc

  by_found : (found : Option Row) → overlap_of segs addr len ≡ found → IsLowestOverlap segs addr len found
  by_found None is = none_shares is
  by_found (Some row) is =
      let lowest = fold_lowest (rows_in segs.segments) addr len (all_lists segs) None row is in
      (by_one row lowest lowest.one, lowest_of row lowest)

pub overlap_is_lowest : OverlapIsLowest
overlap_is_lowest segs addr len sound some = by_found segs addr len sound some (overlap_of segs addr len) refl
