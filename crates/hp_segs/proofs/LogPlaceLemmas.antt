-- The log of a sound value is one of lists that lie apart, and external memory lies outside of them.
use Rattle.std.proofs.Common.{◌≡◌, ◌⊎◌, ◌∙◌, nat_lt, ℕ, zero, suc, ◌+◌, ◌*◌, ◌^◌, ◌<◌, ◌≤◌, true, false, List, [], ◌∷◌, map, get_or, Some, inl, inr, refl, ap, sym, subst, arith, sum_by}
use Rattle.std.specs.List.{slice_get}
use Rattle.std.proofs.Math.Nat.{mul-le-mul_right}
use Rattle.std.proofs.lemmas.Bool.{and_from, cases_lt, lt-ltb}
use Rattle.std.proofs.lemmas.List.Elements.{All-map, All-weaker}
use Rattle.std.proofs.lemmas.List.Sums.{sum_by-cons}
use Rattle.hp_base.specs.PoolLines.{ArePoolLines, IsPoolLine}
use Rattle.hp_base.specs.declared.pool_line.PoolLine.{PoolLine}
use Rattle.hp_base.proofs.PageLemmas.{page_pos}
use Rattle.hp_log.specs.Log.{run_in, table_at}
use Rattle.hp_log.specs.Places.{ArePlacesApart, IsRunOf, IsSmallPlace, ListPlace, place_end, slots_in}
use Rattle.hp_log.proofs.TableLemmas.{all_table_at, once_at}
use Rattle.hp_segs.specs.Lists.{end_of, lists_of}
use Rattle.hp_segs.specs.LogPlaces.{LogIsPlaced, RangesAreOutside, SlotsAreFew, place_of, places_of}
use Rattle.hp_segs.specs.Ranges.{shares_byte}
use Rattle.hp_segs.specs.Table.{IsListRun, IsPlaced}
use Rattle.hp_segs.specs.declared.external_range.ExternalRange.{ExternalRange}
use Rattle.hp_segs.specs.declared.list_info.ListInfo.{ListInfo}
use Rattle.hp_segs.proofs.AddLemmas.{placed_run}
use Rattle.hp_segs.proofs.SlotFacts.ListsApart.{list_fits, lists_above}
use Rattle.hp_segs.proofs.SlotFacts.ListsLemmas.{line_of_list}
use Rattle.hp_segs.proofs.Pigeonhole.{rows_within, slots_of_lists}
use Rattle.hp_segs.proofs.SlotFacts.PlaceLemmas.{lists_are_apart}
use Rattle.hp_segs.proofs.QueryLemmas.{get_within}
use Rattle.hp_segs.proofs.RowTables.TableUse.{at_place}

-- where the list of a number lies, and which list lies there
place_at : (lists : List ListInfo) (list : ℕ) (info : ListInfo) → slice_get lists list ≡ Some info
    → slice_get (map place_of lists) list ≡ Some (place_of info)
place_at [] list info here = cc
place_at (first ∷ lists) zero info here =
    let same : first ≡ info = cc in
    ap (λ (i : ListInfo). Some (place_of i)) same
place_at (first ∷ lists) (suc list) info here = place_at lists list info here

list_at : (lists : List ListInfo) (list : ℕ) (place : ListPlace) → slice_get (map place_of lists) list ≡ Some place
    → (info : ListInfo) × (slice_get lists list ≡ Some info) × (place_of info ≡ place)
list_at [] list place here = cc
list_at (first ∷ lists) zero place here =
    let same : place_of first ≡ place = cc in
    (first, refl, same)
list_at (first ∷ lists) (suc list) place here = list_at lists list place here

slots_same : (lists : List ListInfo) → slots_in (map place_of lists) ≡ sum_by (λ info. info.slots) lists
slots_same [] = refl
slots_same (info ∷ lists) =
    omega (
      arith,
      slots_same lists,
      sum_by-cons (λ (place : ListPlace). place.slots) (place_of info) (map place_of lists),
      sum_by-cons (λ (info : ListInfo). info.slots) info lists,
    )

-- a list of pools is small
small_list : (pools : List PoolLine) (list : ℕ) (info : ListInfo) → ArePoolLines pools → slice_get (lists_of pools) list ≡ Some info
    → IsSmallPlace (place_of info)
small_list pools list info limits here =
    let fit = list_fits pools list info limits here in
    let found = line_of_list pools list info here in
    let line : IsPoolLine found.line = at_place IsPoolLine pools list found.line limits.lines found.its_line in
    let some : 0 < info.slots = omega (arith, found.alike.slots, line.some) in
    let most : 1 * info.page ≤ info.slots * info.page = mul-le-mul_right info.page some in
    let above = lists_above (2 ^ 32) pools list info limits.lines here in
    record {
      paged = page_pos info.page fit.page;
      few = omega (arith, fit.slots);
      beyond = omega (arith, fit.below, most, above);
    }

apart_places : (pools : List PoolLine) → ArePoolLines pools → ArePlacesApart (places_of pools)
apart_places pools limits list other place place' different here there =
    let one = list_at (lists_of pools) list place here in
    let two = list_at (lists_of pools) other place' there in
    subst (λ (p : ListPlace). (place_end p ≤ place'.base) ⊎ (place_end place' ≤ p.base)) one.2
    (subst (λ (p : ListPlace). (end_of one.0 ≤ p.base) ⊎ (place_end p ≤ one.0.base)) two.2
    (lists_are_apart pools list other one.0 two.0 limits different one.1 two.1))

pub log_is_placed : LogIsPlaced
log_is_placed segs sound =
    let pools = segs.pools in
    let table = sound.rows.table in
    record {
      formed = table.formed;
      runs =
          All-weaker (λ entry. IsListRun (lists_of pools) (run_in entry)) (λ entry. IsRunOf (places_of pools) (run_in entry))
          (λ entry at. record {
            place = place_of at.info;
            its_list = place_at (lists_of pools) (run_in entry).list at.info at.its_list;
            within = at.within;
            addr = ap (λ r. r.addr) at.is_run;
            size = ap (λ r. r.page) at.is_run;
          })
          segs.log table.listed;
      small =
          All-map IsSmallPlace place_of (lists_of pools)
          (λ k d within. small_list pools k (get_or (lists_of pools) k d) table.limits (get_within (lists_of pools) k d within));
      apart = apart_places pools table.limits;
      fits = λ n.
          let placed =
          all_table_at (IsPlaced (lists_of pools)) (IsListRun (lists_of pools))
          (λ run generation k at below. placed_run (lists_of pools) run generation at k below) segs.log n table.listed in
          omega (
            arith,
            rows_within (lists_of pools) (table_at segs.log n) placed (λ list slot. once_at segs.log table.formed n list slot),
            slots_same (lists_of pools),
          );
    }

-- an address of a range that shares no byte with a list lies outside of it
outside_list : (addr len byte : ℕ) (info : ListInfo) → addr ≤ byte → byte < addr + len → shares_byte addr len info ≡ false
    → (byte < info.base) ⊎ (end_of info ≤ byte)
outside_list addr len byte info above below apart =
    elim (cases_lt byte info.base) [
      | inl before ↦ inl before
      | inr behind ↦
          elim (cases_lt byte (end_of info)) [
            | inr beyond ↦ inr beyond
            | inl inside ↦
                let shares : shares_byte addr len info ≡ true =
                and_from (nat_lt info.base (addr + len)) (nat_lt addr (info.base + info.slots * info.page))
                (lt-ltb info.base (addr + len) (omega (arith, behind, below)))
                (lt-ltb addr (info.base + info.slots * info.page) (omega (arith, above, inside))) in
                let wrong : true ≡ false = sym shares ∙ apart in
                cc
          ]
    ]

pub ranges_are_outside : RangesAreOutside
ranges_are_outside segs sound k d within addr above below =
    let range : ExternalRange = get_or segs.ranges k d in
    All-map (λ place. (addr < place.base) ⊎ (place_end place ≤ addr)) place_of (lists_of segs.pools)
    (All-weaker (λ info. shares_byte range.addr range.len info ≡ false) (λ info. (addr < info.base) ⊎ (end_of info ≤ addr))
    (λ info apart. outside_list range.addr range.len addr info above below apart) (lists_of segs.pools)
    (sound.places.external.beside k d within).apart)

pub slots_are_few : SlotsAreFew
slots_are_few segs sound =
    omega (arith, slots_same (lists_of segs.pools), slots_of_lists segs.pools, sound.places.external.segments)
