-- A list whose elements have keys, each key for one element at most, is no longer than the list of keys.
use Rattle.std.proofs.Common.{◌≡◌, ℕ, zero, suc, ◌+◌, ◌^◌, ◌<◌, ◌≤◌, Bool, true, cond, List, [], ◌∷◌, ◌++◌, map, length, get_or, Some, refl, ap, ◌∙◌, arith, count_by, sum_by, length-append, eq-eqb}
use Rattle.std.specs.List.{All, list_any, range_with_len, slice_get}
use Rattle.std.proofs.lemmas.Bool.{and_from, or_left, or_right}
use Rattle.std.proofs.lemmas.List.Elements.{All-head, All-tail}
use Rattle.std.proofs.lemmas.List.Folds.{list_any-append, list_any_at}
use Rattle.std.proofs.lemmas.List.FromFn.{length-map-range_with_len, get_or-map-range_with_len}
use Rattle.std.proofs.lemmas.List.Sums.{sum_by-cons, sum_by-le}
use Rattle.hp_base.specs.declared.row.Row.{Row}
use Rattle.hp_base.specs.declared.pool_line.PoolLine.{PoolLine}
use Rattle.hp_log.specs.Rows.{at_slot, rows_at}
use Rattle.hp_segs.specs.Lists.{list_after, end_of, lists_from, lists_of}
use Rattle.hp_segs.specs.Table.{IsPlaced}
use Rattle.hp_segs.specs.declared.list_info.ListInfo.{ListInfo}
use Rattle.hp_log.proofs.Counts.{any_counts, count_cons}

sum_add : {K : Type 0} (f g h : K → ℕ) → ((k : K) → h k ≡ f k + g k) → (keys : List K) → sum_by h keys ≡ sum_by f keys + sum_by g keys
sum_add f g h parts [] = refl
sum_add f g h parts (k ∷ keys) =
    omega (arith, parts k, sum_add f g h parts keys, sum_by-cons f k keys, sum_by-cons g k keys, sum_by-cons h k keys)

module _ {K X : Type 0} (at : K → X → Bool) where
  length_within : (keys : List K) (xs : List X) → All (λ x. list_any (λ k. at k x) keys ≡ true) xs
      → length xs ≤ sum_by (λ k. count_by (at k) xs) keys
  length_within keys [] each = omega arith
  length_within keys (x ∷ xs) each =
      let one = any_counts (λ k. at k x) keys (All-head (λ x. list_any (λ k. at k x) keys ≡ true) x xs each) in
      let rest = length_within keys xs (All-tail (λ x. list_any (λ k. at k x) keys ≡ true) x xs each) in
      let both =
      sum_add
      (λ k. cond (at k x) 1 0)
      (λ k. count_by (at k) xs)
      (λ k. count_by (at k) (x ∷ xs))
      (λ k. count_cons (at k) x xs)
      keys in
      omega (arith, one, rest, both)

  -- no more elements than keys
  pub length_by_keys : (keys : List K) (xs : List X) → All (λ x. list_any (λ k. at k x) keys ≡ true) xs
      → All (λ k. count_by (at k) xs ≤ 1) keys → length xs ≤ length keys
  length_by_keys keys xs each once =
      omega (arith, length_within keys xs each, sum_by-le (λ k. count_by (at k) xs) 1 keys once)

-- all slots of lists, where so many lists stand before them
abbrev slot_key : ℕ → ℕ → ℕ × ℕ
slot_key list slot = (list, slot)

abbrev list_keys : ℕ → ℕ → List (ℕ × ℕ)
list_keys list n = map (slot_key list) (range_with_len 0 n)

abbrev keys_from : ℕ → List ListInfo → List (ℕ × ℕ)
keys_from n [] = []
keys_from n (info ∷ lists) = list_keys n info.slots ++ keys_from (n + 1) lists

length_keys : (n : ℕ) (lists : List ListInfo) → length (keys_from n lists) ≡ sum_by (λ info. info.slots) lists
length_keys n [] = refl
length_keys n (info ∷ lists) =
    omega (
      arith,
      length-append (list_keys n info.slots) (keys_from (n + 1) lists),
      length-map-range_with_len (slot_key n) 0 info.slots,
      length_keys (n + 1) lists,
      sum_by-cons (λ info. info.slots) info lists,
    )

-- the row is at the slot
abbrev at_key : ℕ × ℕ → Row → Bool
at_key key row = at_slot key.0 key.1 row

has_key : (n : ℕ) (lists : List ListInfo) (i : ℕ) (info : ListInfo) (row : Row) → slice_get lists i ≡ Some info
    → row.list ≡ n + i → row.slot < info.slots → list_any (λ key. at_key key row) (keys_from n lists) ≡ true
has_key n [] i info row here list within = cc
has_key n (first ∷ lists) zero info row here list within =
    let same : first ≡ info = cc in
    let long : length (list_keys n first.slots) ≡ first.slots = length-map-range_with_len (slot_key n) 0 first.slots in
    let slots : first.slots ≡ info.slots = ap (λ i. i.slots) same in
    let at : get_or (list_keys n first.slots) row.slot (0, 0) ≡ (n, row.slot) =
    get_or-map-range_with_len (slot_key n) 0 first.slots row.slot row.slot (0, 0) (omega arith) (omega arith) in
    let passes : at_key (get_or (list_keys n first.slots) row.slot (0, 0)) row ≡ true =
    ap (λ key. at_key key row) at
    ∙ and_from _ _ (eq-eqb row.list n (omega arith)) (eq-eqb row.slot row.slot refl) in
    list_any-append (λ key. at_key key row) (list_keys n first.slots) (keys_from (n + 1) lists)
    ∙ or_left _ _
    (list_any_at (λ key. at_key key row) (list_keys n first.slots) row.slot (0, 0) (omega arith) passes)
has_key n (first ∷ lists) (suc i) info row here list within =
    list_any-append (λ key. at_key key row) (list_keys n first.slots) (keys_from (n + 1) lists)
    ∙ or_right _ _ (has_key (n + 1) lists i info row here (omega arith) within)

-- no more rows than slots
pub rows_within : (lists : List ListInfo) (rows : List Row) → All (IsPlaced lists) rows
    → ((list slot : ℕ) → rows_at rows list slot ≤ 1) → length rows ≤ sum_by (λ info. info.slots) lists
rows_within lists rows placed once =
    let keyed : length rows ≤ length (keys_from 0 lists) =
    length_by_keys
    at_key
    (keys_from 0 lists)
    rows
    (λ k d within.
    has_key 0 lists (get_or rows k d).list (placed k d within).info (get_or rows k d) (placed k d within).its_list (omega arith) (placed k d within).within)
    (λ k d within. once (get_or (keys_from 0 lists) k d).0 (get_or (keys_from 0 lists) k d).1) in
    omega (arith, keyed, length_keys 0 lists)

-- the lists have the slots of their pools
slots_from : (end : ℕ) (pools : List PoolLine) → sum_by (λ info. info.slots) (lists_from end pools) ≡ sum_by (λ line. line.slots) pools
slots_from end [] = refl
slots_from end (line ∷ pools) =
    omega (
      arith,
      slots_from (end_of (list_after line end)) pools,
      sum_by-cons (λ info. info.slots) (list_after line end) (lists_from (end_of (list_after line end)) pools),
      sum_by-cons (λ line. line.slots) line pools,
    )

pub slots_of_lists : (pools : List PoolLine) → sum_by (λ info. info.slots) (lists_of pools) ≡ sum_by (λ line. line.slots) pools
slots_of_lists pools = slots_from (2 ^ 32) pools
