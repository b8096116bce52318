-- The runs that a sound value hands to the calls of its table.
use Rattle.std.proofs.Common.{◌≡◌, ◌==◌, ◌∙◌, ℕ, ◌+◌, ◌-◌, ◌≤◌, Bool, true, false, ◌&&◌, ◌||◌, cond, List, [], ◌∷◌, map, filter, get_or, Option, Some, IsSomeAnd, IsTrue, refl, ap, sym, subst, arith, count_by, eq-eqb}
use Rattle.std.specs.List.{All, list_any, slice_get}
use Rattle.std.specs.Option.{option_and_then}
use Rattle.std.proofs.lemmas.Bool.{and_from, and_parts, eqb-true, or_left, or_right}
use Rattle.std.proofs.lemmas.List.Elements.{All-cons, All-head, All-map, All-nil, All-tail}
use Rattle.std.proofs.lemmas.List.Folds.{Any-from_list_any, list_any_at}
use Rattle.std.proofs.lemmas.Option.{slice_get_within}
use Rattle.hp_base.specs.declared.pool_line.PoolLine.{PoolLine}
use Rattle.hp_base.specs.declared.row.Run.{Run}
use Rattle.hp_log.specs.Log.{run_in}
use Rattle.hp_log.specs.Rows.{at_slot, in_run, row_of, rows_of}
use Rattle.hp_log.specs.declared.log_record.LogRecord.{LogRecord}
use Rattle.hp_log.specs.declared.log_record.LogRecord.TheVariants.{Add}
use Rattle.hp_log.proofs.RowLemmas.{all_rows_below, in_run_from, row_at_place}
use Rattle.hp_segs.specs.Calls.{IsUnclaimedGrant, OwnsRun}
use Rattle.hp_segs.specs.Lists.{lists_of}
use Rattle.hp_segs.specs.SegsView.{SegsView, added_run, grant_of, is_agreed, is_counted, is_opened, is_owned_by, is_retiring, is_unclaimed, run_of}
use Rattle.hp_segs.specs.Sound.{IsSound}
use Rattle.hp_segs.specs.SoundRows.{AreRows, IsWholeGrant}
use Rattle.hp_segs.specs.Steps.{segment_of}
use Rattle.hp_segs.specs.Table.{IsListRun}
use Rattle.hp_segs.specs.TableCalls.{AllCount, added_heap, IsCountedRun, IsGrantRun, IsOpenRun}
use Rattle.hp_segs.specs.declared.growth.Growth.{Growth}
use Rattle.hp_segs.specs.declared.row_state.RowState.{RowState}
use Rattle.hp_segs.specs.declared.row_state.RowState.TheVariants.{Opened, Agreed, Owned, Retiring}
use Rattle.hp_segs.specs.declared.row_state.Segment.{Segment}
use Rattle.hp_segs.proofs.RetiredRuns.DropLemmas.{held_first, own_slot}
use Rattle.hp_segs.proofs.Finds.{count_mapped}
use Rattle.hp_segs.proofs.RetiredRuns.GivenUp.{one_has, owned_all}
use Rattle.hp_segs.proofs.GrowthSteps.GrantLemmas.{any_mapped}
use Rattle.hp_segs.proofs.GrowthSteps.GrantedRows.{claim_by}
use Rattle.hp_segs.proofs.SlotFacts.MaskStepLemmas.{or_false}
use Rattle.hp_segs.proofs.GrowthSteps.OpenLemmas.{or_true, slot_place}
use Rattle.hp_segs.proofs.QueryLemmas.{get_within}
use Rattle.hp_segs.proofs.RowTables.OwnedLemmas.{listed_owned, used_owned}
use Rattle.hp_segs.proofs.SlotFacts.SlotLemmas.{any_run_row}
use Rattle.hp_segs.proofs.SlotFacts.SlotRows.{same_test}
use Rattle.hp_segs.proofs.RowTables.TableUse.{at_place}

opened_state : (state : RowState) → is_opened state ≡ true → is_counted state ≡ false
opened_state Opened is = refl
opened_state (Agreed heap) is = cc
opened_state (Owned heap) is = cc
opened_state Retiring is = cc

retiring_state : (state : RowState) → is_retiring state ≡ true → is_counted state ≡ false
retiring_state Opened is = cc
retiring_state (Agreed heap) is = cc
retiring_state (Owned heap) is = cc
retiring_state Retiring is = refl

owned_state : (heap : ℕ) (state : RowState) → is_owned_by heap state ≡ true → is_counted state ≡ true
owned_state heap Opened is = cc
owned_state heap (Agreed other) is = cc
owned_state heap (Owned other) is = refl
owned_state heap Retiring is = cc

-- the run of the open growth
pub open_run : {pools : List PoolLine} {log : List LogRecord} {segments : List Segment} {retiring : List Run} (growth : Growth)
    → AreRows pools log segments retiring (Some growth) → IsOpenRun (lists_of pools) segments growth.run growth.generation
open_run {segments = segments} {retiring = retiring} growth rows =
    let first = held_first growth.run retiring rows.held in
    record {
      listed = first.0;
      used = first.1;
      same = λ k d within.
          sym (rows.stamped k d within) ∙ (rows.opened k d within ∙ or_false (in_run growth.run (get_or segments k d).row));
      uncounted = λ k d within inside.
          opened_state (get_or segments k d).state
          (rows.opened k d within ∙ or_true (in_run growth.run (get_or segments k d).row) false inside);
    }

-- the Retiring runs do not count
pub retiring_uncounted : {pools : List PoolLine} {log : List LogRecord} {segments : List Segment} {retiring : List Run} {growth : Option Growth}
    → AreRows pools log segments retiring growth → All (λ run. AllCount false run segments) retiring
retiring_uncounted {segments = segments} {retiring = retiring} rows j e there k d within inside =
    retiring_state (get_or segments k d).state
    (rows.retired k d within ∙ list_any_at (λ run. in_run run (get_or segments k d).row) retiring j e there inside)

-- a run that a heap gives up counts
pub counted_run : (segs : SegsView) → IsSound segs → (heap : ℕ) (run : Run) → OwnsRun heap run segs
    → IsCountedRun (lists_of segs.pools) segs.segments run
counted_run segs sound heap run owns = record {
  listed = listed_owned segs sound heap run owns;
  used = used_owned segs sound heap run owns;
  counted = λ k d within inside.
      owned_state heap (get_or segs.segments k d).state (owned_all segs.segments heap run sound.rows.table.once owns.owned k d within inside);
}

unfilter_by : {X : Type 0} (p : X → Bool) (P : X → Type 0) (x : X) (xs : List X) (b : Bool) → p x ≡ b → All P (cond b (x ∷ filter p xs) (filter p xs))
    → (All P (filter p xs) → All (λ x. p x ≡ true → P x) xs) → All (λ x. p x ≡ true → P x) (x ∷ xs)
unfilter_by p P x xs true here all rest =
    All-cons (λ x. p x ≡ true → P x) x xs (λ passes. All-head P x (filter p xs) all) (rest (All-tail P x (filter p xs) all))
unfilter_by p P x xs false here all rest =
    All-cons (λ x. p x ≡ true → P x) x xs
    (λ passes.
    let wrong : true ≡ false = sym passes ∙ here in
    cc)
    (rest all)

-- what holds of all that a filter keeps holds of what passes
unfilter : {X : Type 0} (p : X → Bool) (P : X → Type 0) (xs : List X) → All P (filter p xs) → All (λ x. p x ≡ true → P x) xs
unfilter p P [] all = All-nil (λ x. p x ≡ true → P x)
unfilter p P (x ∷ xs) all = unfilter_by p P x xs (p x) refl all (unfilter p P xs)

module _ {X : Type 0} (p q : X → Bool) where
  both_by : (x : X) (xs : List X) (a : Bool) → p x ≡ a → q x ≡ true → (a || list_any p (filter q xs)) ≡ true
      → (list_any p (filter q xs) ≡ true → list_any (λ x. p x && q x) xs ≡ true) → ((p x && q x) || list_any (λ x. p x && q x) xs) ≡ true
  both_by x xs true first second any rest = or_left (p x && q x) (list_any (λ x. p x && q x) xs) (and_from (p x) (q x) first second)
  both_by x xs false first second any rest = or_right (p x && q x) (list_any (λ x. p x && q x) xs) (rest any)

  any_by : (x : X) (xs : List X) (b : Bool) → q x ≡ b → list_any p (cond b (x ∷ filter q xs) (filter q xs)) ≡ true
      → (list_any p (filter q xs) ≡ true → list_any (λ x. p x && q x) xs ≡ true) → ((p x && q x) || list_any (λ x. p x && q x) xs) ≡ true
  any_by x xs true second any rest = both_by x xs (p x) refl second any rest
  any_by x xs false second any rest = or_right (p x && q x) (list_any (λ x. p x && q x) xs) (rest any)

  -- what passes among those that a filter keeps passes both tests
  any_filtered : (xs : List X) → list_any p (filter q xs) ≡ true → list_any (λ x. p x && q x) xs ≡ true
  any_filtered [] any = any
  any_filtered (x ∷ xs) any = any_by x xs (q x) refl any (any_filtered xs)

-- the rows of a whole grant are those at the slots of its run
pub whole_run : (log : List LogRecord) (segments : List Segment) (generation heap : ℕ) (whole : IsWholeGrant log segments generation heap)
    → ((list slot : ℕ) → count_by (λ segment. at_slot list slot segment.row) segments ≤ 1)
    → All (λ segment. ((segment.row.generation == generation) ≡ in_run whole.run segment.row)
    × (in_run whole.run segment.row ≡ true → segment.state ≡ Agreed heap)) segments
whole_run log segments generation heap whole once k d within =
    let run : Run = whole.run in
    let own : Segment → Bool = λ segment. segment.row.generation == generation in
    let P : Segment → Type 0 = λ segment. (in_run run segment.row ≡ true) × (segment.state ≡ Agreed heap) in
    let rows : All P (map (segment_of (Agreed heap)) (rows_of run generation)) =
    All-map P (segment_of (Agreed heap)) (rows_of run generation)
    (all_rows_below (λ row. P (segment_of (Agreed heap) row)) run generation run.count
    (λ n below. (in_run_from run n (row_of run generation n) below (row_at_place run generation n), refl))) in
    let all = unfilter own P segments (subst (All P) (sym whole.rows) rows) in
    let segment : Segment = get_or segments k d in
    let back : in_run run segment.row ≡ true → own segment ≡ true =
    (λ inside.
    let at = slot_place segment.row.list segment.row.slot run inside in
    let here : Segment → Bool = λ segment. at_slot run.list (run.first + at.0) segment.row in
    let fresh : list_any here (map (segment_of (Agreed heap)) (rows_of run generation)) ≡ true =
    any_mapped here (segment_of (Agreed heap)) (rows_of run generation)
    ∙ (any_run_row run generation run.list (run.first + at.0) ∙ own_slot run at.0 at.1) in
    let any : list_any (λ segment. here segment && own segment) segments ≡ true =
    any_filtered here own segments (ap (list_any here) whole.rows ∙ fresh) in
    one_has here own segments (once run.list (run.first + at.0)) any k d within
    (and_from (segment.row.list == run.list) (segment.row.slot == run.first + at.0) (eq-eqb segment.row.list run.list at.2)
    (eq-eqb segment.row.slot (run.first + at.0) at.3))) in
    (same_test (own segment) (in_run run segment.row) (λ is. (all k d within is).0) back, λ inside. (all k d within (back inside)).1)

-- the record and the run of an unclaimed grant
pub record IsClaimable (segs : SegsView) (generation : ℕ) (run : Run) : Type 0 where
  pub heap : ℕ
  pub added : slice_get segs.log (generation - 1) ≡ Some (Add run heap)
  pub its_run : IsGrantRun (lists_of segs.pools) segs.segments run generation heap

pub claimable : (segs : SegsView) (sound : IsSound segs) (generation : ℕ) (run : Run) → is_unclaimed segs.segments generation ≡ true
    → run_of segs.log generation ≡ Some run → IsClaimable segs generation run
claimable segs sound generation run unclaimed its =
    let found = Any-from_list_any (λ segment. (segment.row.generation == generation) && is_agreed segment.state) segs.segments unclaimed in
    let segment : Segment = found.1 in
    let parts = and_parts (segment.row.generation == generation) (is_agreed segment.state) found.4 in
    let grant =
    claim_by segs generation found.0 segment (get_or segs.segments found.0 segment).state sound found.2 refl
    (ap (λ (s : Segment). is_agreed s.state) found.3 ∙ parts.1)
    (ap (λ (s : Segment). s.row.generation) found.3 ∙ eqb-true segment.row.generation generation parts.0) in
    let heap : ℕ = grant.0 in
    let whole : IsWholeGrant segs.log segs.segments generation heap = grant.1 in
    let one : Some whole.run ≡ Some run = sym (ap (option_and_then added_run) whole.added) ∙ its in
    let same : whole.run ≡ run = cc in
    let once : (list slot : ℕ) → count_by (λ (segment : Segment). at_slot list slot segment.row) segs.segments ≤ 1 =
    (λ list slot. omega (arith, sound.rows.table.once list slot, count_mapped (at_slot list slot) (λ (segment : Segment). segment.row) segs.segments)) in
    let each = whole_run segs.log segs.segments generation heap whole once in
    let listed : IsListRun (lists_of segs.pools) whole.run =
    at_place (λ entry. IsListRun (lists_of segs.pools) (run_in entry)) segs.log (generation - 1) (Add whole.run heap) sound.rows.table.listed whole.added in
    let granted : IsGrantRun (lists_of segs.pools) segs.segments whole.run generation heap = record {
      listed = listed;
      same = λ k d within. (each k d within).0;
      agreed = λ k d within. (each k d within).1;
    } in
    record {
      heap = heap;
      added = whole.added ∙ ap (λ r. Some (Add r heap)) same;
      its_run = subst (λ r. IsGrantRun (lists_of segs.pools) segs.segments r generation heap) same granted;
    }

heap_read : (log read : List LogRecord) (place : ℕ) (d : LogRecord) (run : Run) (heap result : ℕ) → result ≡ added_heap (get_or read place d)
    → read ≡ log → slice_get log place ≡ Some (Add run heap) → result ≡ heap
heap_read log read place d run heap result is same here =
    let one : Some (get_or log place d) ≡ Some (Add run heap) = sym (get_within log place d (slice_get_within log place (Add run heap) here)) ∙ here in
    let entry : get_or log place d ≡ Add run heap = cc in
    is ∙ (ap (λ l. added_heap (get_or l place d)) same ∙ ap added_heap entry)

-- the run and the heap that are read off the record of an unclaimed grant
pub claim_run : (segs : SegsView) → IsSound segs → (from number generation : ℕ) (read : List LogRecord) (d : LogRecord) (run : Run) (heap : ℕ)
    → IsUnclaimedGrant from number segs → grant_of segs.asks from number ≡ Some generation → run_of segs.log generation ≡ Some run
    → heap ≡ added_heap (get_or read (generation - 1) d) → read ≡ segs.log
    → IsGrantRun (lists_of segs.pools) segs.segments run generation heap
claim_run segs sound from number generation read d run heap unclaimed grant its is same =
    let any : is_unclaimed segs.segments generation ≡ true =
    subst (λ g. IsSomeAnd g (λ generation. IsTrue (is_unclaimed segs.segments generation))) grant unclaimed in
    let claim = claimable segs sound generation run any its in
    let heaps = heap_read segs.log read (generation - 1) d run claim.heap heap is same claim.added in
    subst (IsGrantRun (lists_of segs.pools) segs.segments run generation) (sym heaps) claim.its_run
