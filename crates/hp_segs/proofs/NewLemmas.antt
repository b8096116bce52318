-- The table as its lists, masks and counts are made, pool after pool.
use Rattle.std.proofs.Common.{◌≡◌, ◌⊎◌, ℕ, zero, suc, ◌+◌, ◌-◌, ◌*◌, ◌^◌, ◌<◌, ◌≤◌, Bool, false, List, [], ◌∷◌, ◌++◌, map, length, get_or, take, replicate, Some, None, IsSome, refl, ap, ◌∙◌, sym, subst, arith, inl, inr}
use Rattle.std.proofs.Math.Nat.{mul-le-mul_right}
use Rattle.std.specs.List.{All, range_with_len, slice_get}
use Rattle.std.specs.Option.{option_map}
use Rattle.std.proofs.lemmas.Bool.{cases_eq}
use Rattle.std.proofs.lemmas.List.Elements.{All-push, All-nil, All-weaker}
use Rattle.hp_base.specs.PoolLines.{ArePoolLines, IsPoolLine}
use Rattle.hp_base.specs.declared.pool_line.PoolLine.{PoolLine}
use Rattle.hp_pool.specs.Pools.{pool_of}
use Rattle.hp_pool.specs.declared.pool.Pool.{Pool}
use Rattle.hp_segs.specs.ListNumbers.{number_place}
use Rattle.hp_segs.specs.Lists.{list_after, end_of, lists_from, lists_of}
use Rattle.hp_segs.specs.Table.{IsPlaced, IsStamped, IsListRun}
use Rattle.hp_segs.specs.Slots.{SlotsView, fresh_slots, generation_kept, slots_in}
use Rattle.hp_segs.specs.TableCalls.{IsKeptTable}
use Rattle.hp_segs.specs.TableLayout.{IsFitList, AddsLine, masks_from, pool_beside}
use Rattle.hp_segs.specs.declared.row_state.RowState.TheVariants.{Opened}
use Rattle.hp_segs.specs.declared.list_info.ListInfo.{ListInfo}
use Rattle.hp_log.specs.Log.{run_in}
use Rattle.hp_segs.proofs.SlotFacts.ListsLemmas.{length_lists_from}
use Rattle.hp_segs.proofs.SlotFacts.NumberLemmas.{has_place}
use Rattle.hp_segs.proofs.SlotFacts.PageSizes.{page_small}
use Rattle.hp_base.proofs.Rounding.{ceil_below}
use Rattle.hp_base.proofs.PageLemmas.{page_pos}
use Rattle.std.proofs.Math.Seq.{take-suc}
use Rattle.std.proofs.lemmas.List.{length-map, length-replicate, length-take-le}
use Rattle.std.proofs.Common.{add-one}

map_push : {X Y : Type 0} (f : X → Y) (xs : List X) (x : X) → map f (xs ++ x ∷ []) ≡ map f xs ++ f x ∷ []
map_push f [] x = refl
map_push f (y ∷ xs) x = ap (λ rest. f y ∷ rest) (map_push f xs x)

pub take_all : {X : Type 0} (xs : List X) (n : ℕ) → length xs ≤ n → take n xs ≡ xs
take_all [] zero all = refl
take_all [] (suc n) all = refl
take_all (x ∷ xs) zero all = absurd (omega (arith, all))
take_all (x ∷ xs) (suc n) all = ap (λ rest. x ∷ rest) (take_all xs n (omega arith))

-- where the lists of pools end
abbrev pub end_after : ℕ → List PoolLine → ℕ
end_after end [] = end
end_after end (line ∷ lines) = end_after (end_of (list_after line end)) lines

pub lists_push : (end : ℕ) (lines : List PoolLine) (line : PoolLine)
    → lists_from end (lines ++ line ∷ []) ≡ lists_from end lines ++ list_after line (end_after end lines) ∷ []
lists_push end [] line = refl
lists_push end (first ∷ lines) line = ap (λ rest. list_after first end ∷ rest) (lists_push (end_of (list_after first end)) lines line)

pub end_push : (end : ℕ) (lines : List PoolLine) (line : PoolLine)
    → end_after end (lines ++ line ∷ []) ≡ end_of (list_after line (end_after end lines))
end_push end [] line = refl
end_push end (first ∷ lines) line = end_push (end_of (list_after first end)) lines line

constant_range : (a n : ℕ) → map (λ slot. false) (range_with_len a n) ≡ replicate n false
constant_range a zero = refl
constant_range a (suc n) = ap (λ rest. false ∷ rest) (constant_range (a + 1) n)

-- without rows all slots of a list are free
pub masks_clear : (n : ℕ) (lists : List ListInfo) → masks_from n [] lists ≡ map (λ info. replicate info.slots false) lists
masks_clear n [] = refl
masks_clear n (info ∷ lists) =
    let here = constant_range 0 info.slots in
    let rest = masks_clear (n + 1) lists in
    cc

-- one list more ends not much later
pub end_grows : (line : PoolLine) (end : ℕ) → IsPoolLine line → end_of (list_after line end) ≤ end + 2 ^ 48
end_grows line end is =
    let small = page_small line.page is.page in
    let bytes : line.slots * line.page ≤ 8192 * line.page = mul-le-mul_right line.page is.slots in
    let base = ceil_below end line.page (page_pos line.page is.page) in
    omega (arith, small, bytes, base)

fresh_at : (lists : List ListInfo) (list : ℕ) (info : ListInfo) → slice_get lists list ≡ Some info
    → slots_in (map fresh_slots lists) list ≡ fresh_slots info
fresh_at [] list info here = cc
fresh_at (first ∷ lists) zero info here =
    let same : first ≡ info = cc in
    ap fresh_slots same
fresh_at (first ∷ lists) (suc list) info here = fresh_at lists list info here

-- what is made after the first i pools
pub record IsMade (pools : List PoolLine) (i : ℕ) (lists : List ListInfo) (masks : List (List Bool)) (kept : List SlotsView) (counts : List Pool) (end : ℕ) : Type 0 where
  pub its_lists : lists ≡ lists_from (2 ^ 32) (take i pools)
  pub its_masks : masks ≡ map (λ info. replicate info.slots false) lists
  pub its_kept : kept ≡ map fresh_slots lists
  pub its_end : end ≡ end_after (2 ^ 32) (take i pools)
  pub low : end ≤ 2 ^ 32 + i * 2 ^ 48
  pub fit : All IsFitList lists
  pub its_counts : All (λ line. pool_of counts line.socket line.page ≡ Some (pool_beside [] line)) (take i pools)

other_count : (old new : List Pool) (line other : PoolLine) → AddsLine old new line → (other.socket ≡ line.socket) ⊎ (other.socket ≡ line.socket → ⊥)
    → (other.page ≡ line.page) ⊎ (other.page ≡ line.page → ⊥)
    → pool_of old other.socket other.page ≡ Some (pool_beside [] other)
    → pool_of new other.socket other.page ≡ Some (pool_beside [] other)
other_count old new line other added (inl socket) (inl page) here =
    let same : pool_of old line.socket line.page ≡ Some (pool_beside [] other) =
    ap (λ s. pool_of old s line.page) (sym socket) ∙ (ap (λ p. pool_of old other.socket p) (sym page) ∙ here) in
    let none : option_map (λ pool. pool.free) (Some (pool_beside [] other)) ≡ None =
    ap (option_map (λ pool. pool.free)) (sym same) ∙ added.absent in
    cc
other_count old new line other added (inr socket) page here =
    added.adds.other_pools other.socket other.page (λ both. socket both.0) ∙ here
other_count old new line other added (inl socket) (inr page) here =
    added.adds.other_pools other.socket other.page (λ both. page both.1) ∙ here

own_count : (old new : List Pool) (line : PoolLine) → AddsLine old new line
    → pool_of new line.socket line.page ≡ Some (pool_beside [] line)
own_count old new line added =
    let all : line.pages ≡ line.pages - 0 = omega arith in
    added.adds.this_pool ∙ ap (λ n. Some (record { socket = line.socket; page = line.page; pages = line.pages; free = n })) all

pub made_more : {pools : List PoolLine} {i : ℕ} {lists : List ListInfo} {masks : List (List Bool)} {kept : List SlotsView} {counts : List Pool} {end : ℕ}
    (counts' : List Pool) (info : ListInfo) (d : PoolLine) → IsMade pools i lists masks kept counts end → ArePoolLines pools → i < length pools
    → info ≡ list_after (get_or pools i d) end → AddsLine counts counts' (get_or pools i d)
    → IsMade pools (i + 1) (lists ++ info ∷ []) (masks ++ replicate info.slots false ∷ []) (kept ++ fresh_slots info ∷ []) counts'
    (info.base + info.slots * info.page)
made_more {pools} {i} {lists} {masks} {kept} {counts} {end} counts' info d made limits within is added =
    let line : PoolLine = get_or pools i d in
    let more : take (i + 1) pools ≡ take i pools ++ line ∷ [] = rw add-one (take-suc pools i d within) in
    let is_line : IsPoolLine line = limits.lines i d within in
    let ends : info.base + info.slots * info.page ≡ end_of (list_after line end) = ap end_of is in
    let grows = end_grows line end is_line in
    let few = limits.few in
    record {
      its_lists =
          ap (λ l. lists ++ l ∷ []) is
          ∙ (ap (λ l. l ++ list_after line end ∷ []) made.its_lists
          ∙ (ap (λ e. lists_from (2 ^ 32) (take i pools) ++ list_after line e ∷ []) made.its_end
          ∙ (sym (lists_push (2 ^ 32) (take i pools) line) ∙ ap (lists_from (2 ^ 32)) (sym more))));
      its_masks =
          ap (λ m. m ++ replicate info.slots false ∷ []) made.its_masks
          ∙ sym (map_push (λ info. replicate info.slots false) lists info);
      its_kept = ap (λ k. k ++ fresh_slots info ∷ []) made.its_kept ∙ sym (map_push fresh_slots lists info);
      its_end =
          ends ∙ (ap (λ e. end_of (list_after line e)) made.its_end
          ∙ (sym (end_push (2 ^ 32) (take i pools) line) ∙ ap (end_after (2 ^ 32)) (sym more)));
      low = omega (arith, ends, grows, made.low);
      fit =
          All-push
          IsFitList
          lists
          info
          made.fit
          (subst IsFitList (sym is) (record { page = is_line.page; slots = is_line.slots; below = omega (arith, grows, made.low, few, within) }));
      its_counts =
          subst
          (All (λ line. pool_of counts' line.socket line.page ≡ Some (pool_beside [] line)))
          (sym more)
          (All-push
          (λ line. pool_of counts' line.socket line.page ≡ Some (pool_beside [] line))
          (take i pools)
          line
          (All-weaker
          (λ line. pool_of counts line.socket line.page ≡ Some (pool_beside [] line))
          (λ line. pool_of counts' line.socket line.page ≡ Some (pool_beside [] line))
          (λ other here. other_count counts counts' line other added (cases_eq other.socket line.socket) (cases_eq other.page line.page) here)
          (take i pools)
          made.its_counts)
          (own_count counts counts' line added));
    }

-- one list more has its number among 128, a place for it, and few slots
pub made_list : {pools : List PoolLine} {i : ℕ} {lists : List ListInfo} {masks : List (List Bool)} {kept : List SlotsView} {counts : List Pool} {end : ℕ}
    (info : ListInfo) (d : PoolLine) → IsMade pools i lists masks kept counts end → ArePoolLines pools → i < length pools
    → info ≡ list_after (get_or pools i d) end
    → (length lists < 128) × IsSome (number_place info.socket info.page) × (info.slots ≤ 8192)
made_list {pools} {i} {lists} info d made limits within is =
    let is_line : IsPoolLine (get_or pools i d) = limits.lines i d within in
    let long : length lists ≡ length (take i pools) = ap length made.its_lists ∙ length_lists_from (2 ^ 32) (take i pools) in
    let few = limits.few in (
      omega (arith, long, length-take-le i pools (omega (arith, within)), few, within),
      rw is (has_place (get_or pools i d).socket (get_or pools i d).page is_line.socket is_line.page),
      rw is is_line.slots,
    )

-- the table of pools without a record
pub kept_new : {pools : List PoolLine} {lists : List ListInfo} {masks : List (List Bool)} {kept : List SlotsView} {counts : List Pool} {end : ℕ} (i : ℕ)
    → IsMade pools i lists masks kept counts end → ArePoolLines pools → length pools ≤ i
    → IsKeptTable pools lists masks counts kept (replicate 32 0) []
kept_new {pools} {lists} {masks} {kept} {counts} i made limits all =
    let whole : take i pools ≡ pools = take_all pools i all in
    let its_lists : lists ≡ lists_of pools = made.its_lists ∙ ap (lists_from (2 ^ 32)) whole in
    record {
      laid = record {
        table = record {
          limits = limits;
          formed = tt;
          listed = All-nil (λ entry. IsListRun (lists_of pools) (run_in entry));
          table = refl;
          once = λ list slot. omega arith;
          placed = All-nil (IsPlaced (lists_of pools));
          stamped = All-nil (IsStamped []);
          paged = λ k d within. omega arith;
        };
        its_lists = its_lists;
        fit = made.fit;
        its_masks = made.its_masks ∙ sym (masks_clear 0 lists);
        its_counts = subst (All (λ line. pool_of counts line.socket line.page ≡ Some (pool_beside [] line))) whole made.its_counts;
      };
      slots = record {
        long = ap length made.its_kept ∙ length-map lists fresh_slots;
        generations = λ list info here.
            ap (λ k. length (slots_in k list).generations) made.its_kept
            ∙ (ap (λ (s : SlotsView). length s.generations) (fresh_at lists list info here) ∙ length-replicate info.slots 0);
        states = λ list info here.
            ap (λ k. length (slots_in k list).states) made.its_kept
            ∙ (ap (λ (s : SlotsView). length s.states) (fresh_at lists list info here) ∙ length-replicate info.slots Opened);
        stamped = All-nil (λ row. generation_kept kept row.list row.slot ≡ row.generation);
      };
      counted = refl;
    }
