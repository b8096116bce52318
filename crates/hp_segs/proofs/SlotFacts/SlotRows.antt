-- The row at a slot, and the slot at an address.
use Rattle.std.proofs.Common.{◌≡◌, ◌⊎◌, ◌==◌, nat_le, nat_lt, ℕ, ◌+◌, ◌-◌, ◌*◌, ◌/◌, ◌^◌, ◌<◌, ◌≤◌, Bool, true, false, cond, List, [], ◌∷◌, length, get_or, Option, Some, None, refl, ap, ◌∙◌, sym, subst, arith, inl, inr, mul_comm, IsSomeAnd}
use Rattle.std.proofs.Math.Nat.{mul-le-mul_right}
use Rattle.std.specs.List.{All, find, list_any, slice_get}
use Rattle.std.specs.Option.{option_map}
use Rattle.std.proofs.lemmas.Bool.{and_from, and_left, and_parts, and_right, cases_eq, cases_lt, eq-eqb, eqb-true, false_from_ne_true, le-leb, leb-true, lt-ltb, ltb-true, ne_eqb}
use Rattle.std.proofs.lemmas.List.Elements.{All-head, All-tail}
use Rattle.std.proofs.lemmas.List.Folds.{list_any_none}
use Rattle.std.proofs.lemmas.List.FromFn.{length-map-range_with_len}
use Rattle.std.proofs.lemmas.Option.{slice_get_within}
use Rattle.hp_base.specs.declared.pool_line.PoolLine.{PoolLine}
use Rattle.hp_base.specs.declared.row.Row.{Row}
use Rattle.hp_base.proofs.PageLemmas.{page_pos}
use Rattle.hp_pool.specs.declared.pool.Pool.{Pool}
use Rattle.hp_log.specs.Rows.{at_slot, row_contains}
use Rattle.hp_log.specs.declared.log_record.LogRecord.{LogRecord}
use Rattle.hp_segs.specs.Lists.{end_of, lists_of}
use Rattle.hp_segs.specs.SegsView.{rows_in}
use Rattle.hp_segs.specs.Slots.{AreSlots, SlotsView, generation_kept}
use Rattle.hp_segs.specs.Steps.{segment_of}
use Rattle.hp_segs.specs.Table.{IsPlaced}
use Rattle.hp_segs.specs.TableLayout.{IsFitList, IsLaidOut, list_contains}
use Rattle.hp_segs.specs.declared.list_info.ListInfo.{ListInfo}
use Rattle.hp_segs.specs.declared.row_state.RowState.{RowState}
use Rattle.hp_segs.specs.declared.row_state.Segment.{Segment}
use Rattle.hp_segs.proofs.GrowthSteps.ClaimLemmas.{found_has}
use Rattle.hp_segs.proofs.Finds.{any_found, find_mapped}
use Rattle.hp_segs.proofs.SlotFacts.ListsApart.{lists_apart}
use Rattle.hp_segs.proofs.SlotFacts.MaskStepLemmas.{masks_from_at, slot_at}
use Rattle.hp_segs.proofs.SlotFacts.PlaceLemmas.{slot_behind}
use Rattle.hp_segs.proofs.QueryLemmas.{get_within}
use Rattle.hp_segs.proofs.SlotFacts.RangeLemmas.{find_passes}
use Rattle.hp_segs.proofs.RowTables.TableUse.{at_place}

pub same_test : (a b : Bool) → (a ≡ true → b ≡ true) → (b ≡ true → a ≡ true) → a ≡ b
same_test true b to from = sym (to refl)
same_test false true to from = from refl
same_test false false to from = refl

record Found {X : Type 0} (p : X → Bool) (xs : List X) : Type 0 where
  one : X
  is : find p xs ≡ Some one

found_by : {X : Type 0} (p : X → Bool) (xs : List X) (found : Option X) → find p xs ≡ found → list_any p xs ≡ true → Found p xs
found_by p xs None is any =
    let wrong : true ≡ false = sym any ∙ any_found p xs is in
    cc
found_by p xs (Some x) is any = record { one = x; is = is }

-- two tests that agree on a list find the same
pub find_alike : {X : Type 0} (p q : X → Bool) (xs : List X) → All (λ x. p x ≡ q x) xs → find p xs ≡ find q xs
find_alike p q [] same = refl
find_alike p q (x ∷ xs) same =
    ap (λ b. cond b (Some x) (find p xs)) (All-head (λ x. p x ≡ q x) x xs same)
    ∙ ap (λ rest. cond (q x) (Some x) rest) (find_alike p q xs (All-tail (λ x. p x ≡ q x) x xs same))

-- nothing is found where each fails
pub find_none : {X : Type 0} (p : X → Bool) (xs : List X) → All (λ x. p x ≡ false) xs → find p xs ≡ None
find_none p [] fails = refl
find_none p (x ∷ xs) fails =
    ap (λ b. cond b (Some x) (find p xs)) (All-head (λ x. p x ≡ false) x xs fails) ∙ find_none p xs (All-tail (λ x. p x ≡ false) x xs fails)

-- what is read at a place is the element there
pub read_is : {X : Type 0} (xs : List X) (i : ℕ) (x y : X) → x ≡ get_or xs i x → slice_get xs i ≡ Some y → x ≡ y
read_is xs i x y read here =
    let one : Some (get_or xs i x) ≡ Some y = sym (get_within xs i x (slice_get_within xs i y here)) ∙ here in
    let same : get_or xs i x ≡ y = cc in
    read ∙ same

-- and stands there
pub read_at : {X : Type 0} (xs : List X) (i : ℕ) (x d : X) → i < length xs → x ≡ get_or xs i d → slice_get xs i ≡ Some x
read_at xs i x d within read = get_within xs i d within ∙ ap Some (sym read)

pub record HasSome {X : Type 0} (found : Option X) (P : X → Type 0) : Type 0 where
  pub one : X
  pub is : found ≡ Some one
  pub has : P one

pub some_and : {X : Type 0} (found : Option X) (P : X → Type 0) → IsSomeAnd found P → HasSome found P
some_and None P has = absurd has
some_and (Some x) P has = record { one = x; is = refl; has = has }

-- a row by its numbers
row_by : (row : Row) (info : ListInfo) (list slot generation : ℕ) → row.addr ≡ info.base + slot * info.page → row.page ≡ info.page
    → row.socket ≡ info.socket → row.list ≡ list → row.slot ≡ slot → row.generation ≡ generation
    → row ≡ record { addr = info.base + slot * info.page; page = info.page; socket = info.socket; list = list; slot = slot; generation = generation }
row_by row info list slot generation addr page socket its_list its_slot stamp =
    ap (λ a. record { addr = a; page = row.page; socket = row.socket; list = row.list; slot = row.slot; generation = row.generation }) addr
    ∙ (ap (λ p. record { addr = info.base + slot * info.page; page = p; socket = row.socket; list = row.list; slot = row.slot; generation = row.generation }) page
    ∙ (ap (λ s. record { addr = info.base + slot * info.page; page = info.page; socket = s; list = row.list; slot = row.slot; generation = row.generation }) socket
    ∙ (ap (λ l. record { addr = info.base + slot * info.page; page = info.page; socket = info.socket; list = l; slot = row.slot; generation = row.generation }) its_list
    ∙ (ap (λ s. record { addr = info.base + slot * info.page; page = info.page; socket = info.socket; list = list; slot = s; generation = row.generation }) its_slot
    ∙ ap (λ g. record { addr = info.base + slot * info.page; page = info.page; socket = info.socket; list = list; slot = slot; generation = g }) stamp))))

-- a segment of equal numbers
pub same_segment : (info info' : ListInfo) (list slot place generation generation' : ℕ) (state state' : RowState) → info' ≡ info → place ≡ slot
    → generation' ≡ generation → state' ≡ state
    → segment_of state (record { addr = info.base + slot * info.page; page = info.page; socket = info.socket; list = list; slot = slot; generation = generation })
    ≡ segment_of state' (record { addr = info'.base + place * info'.page; page = info'.page; socket = info'.socket; list = list; slot = slot; generation = generation' })
same_segment info info' list slot place generation generation' state state' infos places generations states =
    ap (λ (i : ListInfo). segment_of state (record { addr = i.base + slot * i.page; page = i.page; socket = i.socket; list = list; slot = slot; generation = generation })) (sym infos)
    ∙ (ap (λ n. segment_of state (record { addr = info'.base + n * info'.page; page = info'.page; socket = info'.socket; list = list; slot = slot; generation = generation })) (sym places)
    ∙ (ap (λ g. segment_of state (record { addr = info'.base + place * info'.page; page = info'.page; socket = info'.socket; list = list; slot = slot; generation = g })) (sym generations)
    ∙ ap (λ st. segment_of st (record { addr = info'.base + place * info'.page; page = info'.page; socket = info'.socket; list = list; slot = slot; generation = generation' })) (sym states)))

-- the row at a slot
pub record HasRow (lists : List ListInfo) (rows : List Row) (kept : List SlotsView) (list slot : ℕ) : Type 0 where
  pub row : Row
  pub info : ListInfo
  pub found : find (at_slot list slot) rows ≡ Some row
  pub its_list : slice_get lists list ≡ Some info
  pub within : slot < info.slots
  pub its_row : row ≡ record {
    addr = info.base + slot * info.page;
    page = info.page;
    socket = info.socket;
    list = list;
    slot = slot;
    generation = generation_kept kept list slot;
  }

module _ {pools : List PoolLine} {lists : List ListInfo} {masks : List (List Bool)} {counts : List Pool} {log : List LogRecord} {rows : List Row}
    (old : IsLaidOut pools lists masks counts log rows) where
  placed : All (IsPlaced lists) rows
  placed = subst (λ l. All (IsPlaced l) rows) (sym old.its_lists) old.table.placed

  -- no row is of a list that is not there
  pub no_list : (list slot : ℕ) → slice_get lists list ≡ None → list_any (at_slot list slot) rows ≡ false
  no_list list slot none =
      list_any_none (at_slot list slot) rows
      (λ k d within.
      let row : Row = get_or rows k d in
      and_left (row.list == list) (row.slot == slot)
      (false_from_ne_true (row.list == list) (λ same.
      let there : Some (placed k d within).info ≡ None =
      sym (placed k d within).its_list ∙ (ap (slice_get lists) (eqb-true row.list list same) ∙ none) in
      cc)))

  -- nor at a slot behind its list
  pub no_slot : (list slot : ℕ) (info : ListInfo) → slice_get lists list ≡ Some info → info.slots ≤ slot → list_any (at_slot list slot) rows ≡ false
  no_slot list slot info here past =
      list_any_none (at_slot list slot) rows
      (λ k d within.
      let row : Row = get_or rows k d in
      false_from_ne_true (at_slot list slot row) (λ at.
      let parts = and_parts (row.list == list) (row.slot == slot) at in
      let one : Some (placed k d within).info ≡ Some info =
      sym (placed k d within).its_list ∙ (ap (slice_get lists) (eqb-true row.list list parts.0) ∙ here) in
      let same : (placed k d within).info ≡ info = cc in
      let slots : (placed k d within).info.slots ≡ info.slots = ap (λ (i : ListInfo). i.slots) same in
      omega (arith, (placed k d within).within, eqb-true row.slot slot parts.1, slots, past)))

  -- the mask of a list says which of its slots have rows
  pub mask_long : (list : ℕ) (info : ListInfo) (mask : List Bool) → slice_get lists list ≡ Some info → mask ≡ get_or masks list mask
      → length mask ≡ info.slots
  mask_long list info mask here read =
      ap length (read ∙ (ap (λ m. get_or m list mask) old.its_masks ∙ masks_from_at 0 rows lists list info mask here))
      ∙ length-map-range_with_len (λ slot. list_any (at_slot (0 + list) slot) rows) 0 info.slots

  pub mask_set : (list slot : ℕ) (info : ListInfo) (mask : List Bool) (result : Bool) → slice_get lists list ≡ Some info → slot < info.slots
      → mask ≡ get_or masks list mask → (result ≡ true → get_or mask slot false ≡ true) → (get_or mask slot false ≡ true → result ≡ true)
      → result ≡ list_any (at_slot list slot) rows
  mask_set list slot info mask result here within read to from =
      let zero_more : 0 + list ≡ list = omega arith in
      same_test result (get_or mask slot false) to from
      ∙ (ap (λ m. get_or m slot false) (read ∙ (ap (λ m. get_or m list mask) old.its_masks ∙ masks_from_at 0 rows lists list info mask here))
      ∙ (slot_at rows (0 + list) info.slots slot within ∙ ap (λ l. list_any (at_slot l slot) rows) zero_more))

  -- the address of a slot is small
  pub addr_fits : (list slot : ℕ) (info : ListInfo) → slice_get lists list ≡ Some info → slot < info.slots → info.base + slot * info.page < 2 ^ 64
  addr_fits list slot info here within =
      let fit : IsFitList info = at_place IsFitList lists list info old.fit here in
      let most : slot * info.page ≤ info.slots * info.page = mul-le-mul_right info.page (omega arith) in
      omega (arith, fit.below, most)

  -- a slot that has a row, with what is kept for it
  pub row_at_slot : (kept : List SlotsView) (list slot : ℕ) → AreSlots kept lists rows → list_any (at_slot list slot) rows ≡ true
      → HasRow lists rows kept list slot
  row_at_slot kept list slot slots any =
      let found = found_by (at_slot list slot) rows (find (at_slot list slot) rows) refl any in
      let row : Row = found.one in
      let at = and_parts (row.list == list) (row.slot == slot) (find_passes (at_slot list slot) rows row found.is) in
      let its_list : row.list ≡ list = eqb-true row.list list at.0 in
      let its_slot : row.slot ≡ slot = eqb-true row.slot slot at.1 in
      let its : IsPlaced lists row = found_has (at_slot list slot) (IsPlaced lists) rows row placed found.is in
      let stamp : generation_kept kept row.list row.slot ≡ row.generation =
      found_has (at_slot list slot) (λ row. generation_kept kept row.list row.slot ≡ row.generation) rows row slots.stamped found.is in
      record {
        row = row;
        info = its.info;
        found = found.is;
        its_list = ap (slice_get lists) (sym its_list) ∙ its.its_list;
        within = omega (arith, its.within, its_slot);
        its_row =
            row_by row its.info list slot (generation_kept kept list slot)
            (its.addr ∙ ap (λ s. its.info.base + s * its.info.page) its_slot)
            its.page its.socket its_list its_slot
            (sym stamp ∙ (ap (λ l. generation_kept kept l row.slot) its_list ∙ ap (generation_kept kept list) its_slot));
      }

  -- a row lies in its list
  in_its_list : (addr : ℕ) (row : Row) (its : IsPlaced lists row) → row_contains addr row ≡ true
      → (its.info.base + row.slot * its.info.page ≤ addr) × (addr < its.info.base + row.slot * its.info.page + its.info.page)
  in_its_list addr row its contains =
      let parts = and_parts (nat_le row.addr addr) (nat_lt addr (row.addr + row.page)) contains in
      let low : row.addr ≤ addr = leb-true row.addr addr parts.0 in
      let high : addr < row.addr + row.page = ltb-true addr (row.addr + row.page) parts.1 in
      (omega (arith, low, its.addr), omega (arith, high, its.addr, its.page))

  its_list_contains : (addr : ℕ) (row : Row) (its : IsPlaced lists row) → row_contains addr row ≡ true → list_contains addr its.info ≡ true
  its_list_contains addr row its contains =
      let within = in_its_list addr row its contains in
      let behind = slot_behind row.slot its.info.slots its.info.page its.within in
      and_from (nat_le its.info.base addr) (nat_lt addr (end_of its.info))
      (le-leb its.info.base addr (omega (arith, within.0)))
      (lt-ltb addr (end_of its.info) (omega (arith, within.1, behind)))

  -- where no list contains an address, no row does
  pub none_contains : (addr : ℕ) → All (λ info. list_contains addr info ≡ false) lists → find (row_contains addr) rows ≡ None
  none_contains addr off =
      find_none (row_contains addr) rows
      (λ k d within.
      let row : Row = get_or rows k d in
      false_from_ne_true (row_contains addr row) (λ contains.
      let fails = at_place (λ info. list_contains addr info ≡ false) lists row.list (placed k d within).info off (placed k d within).its_list in
      let wrong : true ≡ false = sym (its_list_contains addr row (placed k d within) contains) ∙ fails in
      cc))

  -- and where a list does, it is the row at one of its slots
  one_contains : (addr list : ℕ) (info : ListInfo) (row : Row) → slice_get lists list ≡ Some info → list_contains addr info ≡ true → IsPlaced lists row
      → (row.list ≡ list) ⊎ (row.list ≡ list → ⊥) → (row.slot ≡ (addr - info.base) / info.page) ⊎ (row.slot ≡ (addr - info.base) / info.page → ⊥)
      → row_contains addr row ≡ at_slot list ((addr - info.base) / info.page) row
  one_contains addr list info row here inside its (inr other) slot =
      let fails : row_contains addr row ≡ false =
      false_from_ne_true (row_contains addr row) (λ contains.
      let mine = and_parts (nat_le its.info.base addr) (nat_lt addr (end_of its.info)) (its_list_contains addr row its contains) in
      let theirs = and_parts (nat_le info.base addr) (nat_lt addr (end_of info)) inside in
      let low : its.info.base ≤ addr = leb-true its.info.base addr mine.0 in
      let high : addr < end_of its.info = ltb-true addr (end_of its.info) mine.1 in
      let from : info.base ≤ addr = leb-true info.base addr theirs.0 in
      let to : addr < end_of info = ltb-true addr (end_of info) theirs.1 in
      let its_list : slice_get (lists_of pools) row.list ≡ Some its.info = ap (λ l. slice_get l row.list) (sym old.its_lists) ∙ its.its_list in
      let its_other : slice_get (lists_of pools) list ≡ Some info = ap (λ l. slice_get l list) (sym old.its_lists) ∙ here in
      elim (cases_lt row.list list) [
        | inl before ↦ omega (arith, lists_apart pools row.list list its.info info old.table.limits before its_list its_other, high, from)
        | inr behind ↦
            omega (
              arith,
              lists_apart pools list row.list info its.info old.table.limits (omega (arith, behind, other)) its_other its_list,
              low,
              to,
            )
      ]) in
      fails ∙ sym (and_left (row.list == list) (row.slot == (addr - info.base) / info.page) (ne_eqb row.list list other))
  one_contains addr list info row here inside its (inl same) slot =
      let one : Some its.info ≡ Some info = sym its.its_list ∙ (ap (slice_get lists) same ∙ here) in
      let alike : its.info ≡ info = cc in
      let page : row.page ≡ info.page = its.page ∙ ap (λ (i : ListInfo). i.page) alike in
      let place : row.addr ≡ info.base + row.slot * info.page = its.addr ∙ ap (λ (i : ListInfo). i.base + row.slot * i.page) alike in
      let theirs = and_parts (nat_le info.base addr) (nat_lt addr (end_of info)) inside in
      let from : info.base ≤ addr = leb-true info.base addr theirs.0 in
      let fit : IsFitList info = at_place IsFitList lists list info old.fit here in
      by_slot page place from (page_pos info.page fit.page) slot
    where
      by_slot : row.page ≡ info.page → row.addr ≡ info.base + row.slot * info.page → info.base ≤ addr → 0 < info.page
          → (row.slot ≡ (addr - info.base) / info.page) ⊎ (row.slot ≡ (addr - info.base) / info.page → ⊥)
          → row_contains addr row ≡ at_slot list ((addr - info.base) / info.page) row
      by_slot page place from some (inl its_slot) =
          let product : row.slot * info.page ≡ (addr - info.base) / info.page * info.page = ap (λ s. s * info.page) its_slot in
          let swap = mul_comm info.page ((addr - info.base) / info.page) in
          and_from (nat_le row.addr addr) (nat_lt addr (row.addr + row.page))
          (le-leb row.addr addr (omega (arith, place, product, swap, some, from)))
          (lt-ltb addr (row.addr + row.page) (omega (arith, place, product, swap, some, from, page)))
          ∙ sym (and_from (row.list == list) (row.slot == (addr - info.base) / info.page) (eq-eqb row.list list same)
          (eq-eqb row.slot ((addr - info.base) / info.page) its_slot))
      by_slot page place from some (inr different) =
          let q : ℕ = (addr - info.base) / info.page in
          let swap = mul_comm info.page q in
          let fails : row_contains addr row ≡ false =
          false_from_ne_true (row_contains addr row) (λ contains.
          let parts = and_parts (nat_le row.addr addr) (nat_lt addr (row.addr + row.page)) contains in
          let low : row.addr ≤ addr = leb-true row.addr addr parts.0 in
          let high : addr < row.addr + row.page = ltb-true addr (row.addr + row.page) parts.1 in
          elim (cases_lt row.slot q) [
            | inl before ↦ omega (arith, slot_behind row.slot q info.page before, place, high, page, swap, some, from)
            | inr behind ↦ omega (arith, slot_behind q row.slot info.page (omega (arith, behind, different)), place, low, swap, some, from)
          ]) in
          fails ∙ sym (and_right (row.list == list) (row.slot == q) (ne_eqb row.slot q different))

  pub list_has : (addr list : ℕ) (info : ListInfo) → slice_get lists list ≡ Some info → list_contains addr info ≡ true
      → find (row_contains addr) rows ≡ find (at_slot list ((addr - info.base) / info.page)) rows
  list_has addr list info here inside =
      find_alike (row_contains addr) (at_slot list ((addr - info.base) / info.page)) rows
      (λ k d within.
      one_contains addr list info (get_or rows k d) here inside (placed k d within) (cases_eq (get_or rows k d).list list)
      (cases_eq (get_or rows k d).slot ((addr - info.base) / info.page)))

  -- so it is the row of the segment that is found at that slot
  pub containing_is : (segments : List Segment) (addr list : ℕ) (info : ListInfo) → rows_in segments ≡ rows → slice_get lists list ≡ Some info
      → list_contains addr info ≡ true
      → find (row_contains addr) (rows_in segments)
      ≡ option_map (λ segment. segment.row) (find (λ segment. at_slot list ((addr - info.base) / info.page) segment.row) segments)
  containing_is segments addr list info same here inside =
      ap (find (row_contains addr)) same
      ∙ (list_has addr list info here inside
      ∙ (ap (find (at_slot list ((addr - info.base) / info.page))) (sym same)
      ∙ find_mapped (at_slot list ((addr - info.base) / info.page)) (λ segment. segment.row) segments))

  -- the slot's number and page are small
  pub slot_small : (addr list : ℕ) (info : ListInfo) → slice_get lists list ≡ Some info → list_contains addr info ≡ true
      → (info.base ≤ addr) × (0 < info.page) × ((addr - info.base) / info.page < 8192)
  slot_small addr list info here inside =
      let parts = and_parts (nat_le info.base addr) (nat_lt addr (end_of info)) inside in
      let from : info.base ≤ addr = leb-true info.base addr parts.0 in
      let to : addr < end_of info = ltb-true addr (end_of info) parts.1 in
      let fit : IsFitList info = at_place IsFitList lists list info old.fit here in
      let some = page_pos info.page fit.page in
      let q : ℕ = (addr - info.base) / info.page in
      let swap = mul_comm info.page q in
      let within : q < info.slots =
      elim (cases_lt q info.slots) [
        | inl below ↦ below
        | inr above ↦
            let most : info.slots * info.page ≤ q * info.page = mul-le-mul_right info.page above in
            absurd (omega (arith, most, swap, some, from, to))
      ] in
      (from, some, omega (arith, within, fit.slots))
