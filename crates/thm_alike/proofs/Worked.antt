-- Worked values: a growth that fails between two that are granted, the tables of its log, those of two participants, and the calls of a
-- growth that fails while a run is given up.
use Rattle.std.proofs.Common.{◌≡◌, ◌⊎◌, ℕ, zero, suc, ◌+◌, ◌*◌, ◌^◌, ◌<◌, Bool, true, false, not, List, [], ◌∷◌, replicate, Ok, IsTrue, inl, inr, refl, ap, sym, subst, arith, if◌then◌else◌}
use Rattle.std.specs.Prelude.{Contains}
use Rattle.std.specs.List.{All, list_any}
use Rattle.std.proofs.lemmas.List.Elements.{All-cons, All-contains, All-nil}
use Rattle.hp_base.specs.Pages.{pages_of}
use Rattle.hp_base.specs.Place.{place_of}
use Rattle.hp_base.specs.Requests.{IsAccepted}
use Rattle.hp_base.specs.declared.pool_line.PoolLine.{PoolLine}
use Rattle.hp_base.specs.declared.row.Row.{Row}
use Rattle.hp_base.specs.declared.row.Run.{Run}
use Rattle.hp_heap.proofs.AllocFacts.ChoiceLaw.{Contains-cases, Contains-here, Contains-none, Contains-there}
use Rattle.hp_heap.proofs.Members.{Contains-image}
use Rattle.hp_log.specs.Log.{table_at, table_of}
use Rattle.hp_log.specs.Rows.{row_of}
use Rattle.hp_log.specs.declared.log_record.LogRecord.{LogRecord}
use Rattle.hp_log.specs.declared.log_record.LogRecord.TheVariants.{Add, Drop}
use Rattle.hp_maps.specs.Catching.{Lags, is_dropped, newer}
use Rattle.hp_maps.specs.declared.table.Table.{Table}
use Rattle.hp_segs.specs.Calls.{is_owned_at}
use Rattle.hp_segs.specs.Moved.{SegsCall, Agree, Cancel, Claim, OpenRun, Reserve, Retire, after}
use Rattle.hp_segs.specs.Opening.{opening}
use Rattle.hp_segs.specs.Plan.{plan_of}
use Rattle.hp_segs.specs.SegsView.{SegsView}
use Rattle.hp_segs.specs.Steps.{segment_of}
use Rattle.hp_segs.specs.declared.ask.Ask.{Ask}
use Rattle.hp_segs.specs.declared.outcome.Cause.TheVariants.{Late}
use Rattle.hp_segs.specs.declared.row_state.RowState.TheVariants.{Opened, Owned, Retiring}
use Rattle.hp_segs.specs.declared.row_state.Segment.{Segment}
use Rattle.thm_alike.specs.Alike.{IsInUse, TablesAlike}
use Rattle.thm_alike.specs.Restored.{GivesUp, HasFailedGrowth, IsFailedCourse, IsTableBefore, owner_steps, rows_by}

-- four pages of 2M on socket 0
abbrev pools : List PoolLine
pools = record { socket = 0; page = 2 ^ 21; pages = 4; slots = 4 } ∷ []

-- a run of so many of them from a slot on
abbrev run_from : ℕ → ℕ → Run
run_from first count = record { list = 0; first = first; count = count; addr = 2 ^ 32 + first * 2 ^ 21; page = 2 ^ 21; socket = 0 }

abbrev one : Run
one = run_from 0 1

abbrev failed : Run
failed = run_from 1 2

abbrev two : Run
two = run_from 1 1

-- the growth of two pages fails; then one of them is granted
abbrev log : List LogRecord
log = Add one 0 ∷ Add failed 0 ∷ Drop failed ∷ Add two 0 ∷ []

abbrev first_row : Row
first_row = row_of one 1 0

abbrev second_row : Row
second_row = row_of two 4 0

table_before : table_at log 1 ≡ first_row ∷ []
table_before = refl

table_opened : table_at log 2 ≡ first_row ∷ row_of failed 2 0 ∷ row_of failed 2 1 ∷ []
table_opened = refl

table_dropped : table_at log 3 ≡ first_row ∷ []
table_dropped = refl

table_now : table_of log ≡ first_row ∷ second_row ∷ []
table_now = refl

second_failed : HasFailedGrowth log 2 failed 0
second_failed = record { some = omega arith; added = refl; dropped = refl }

first_did_not : HasFailedGrowth log 1 one 0 → ⊥
first_did_not failed = let wrong = failed.dropped in cc

last_did_not : HasFailedGrowth log 4 two 0 → ⊥
last_did_not failed = let wrong = failed.dropped in cc

-- who has taken in the Drop has the table from before the growth, also where it has looked at one record more
lags_behind : Lags log 3 4 (first_row ∷ [])
lags_behind = record { reached = 4; from = omega arith; up_to = omega arith; left = refl }

as_before : IsTableBefore log 2 4 (first_row ∷ [])
as_before = record { reached = 4; from = omega arith; up_to = omega arith; left = refl }

-- but not one that kept a row of it
too_many : (kept : Bool) (more : Row) → first_row ∷ more ∷ [] ≡ (if kept then first_row ∷ [] else []) → ⊥
too_many true more is = cc
too_many false more is = cc

not_with_a_row : IsTableBefore log 2 4 (first_row ∷ row_of failed 2 0 ∷ []) → ⊥
not_with_a_row is = too_many (not (is_dropped (newer log 3 is.reached) first_row)) (row_of failed 2 0) is.left

-- both segments of that log are in use
abbrev segs : SegsView
segs = record (opening pools 2 0) {
  log = log;
  segments = segment_of (Owned 0) first_row ∷ segment_of Retiring second_row ∷ [];
}

each_in_use : (segment : Segment) → Contains segs.segments segment → IsInUse segment
each_in_use segment among = All-contains IsInUse segs.segments segment all_in_use among
  where
    all_in_use : All IsInUse (segment_of (Owned 0) first_row ∷ segment_of Retiring second_row ∷ [])
    all_in_use =
        All-cons IsInUse (segment_of (Owned 0) first_row) (segment_of Retiring second_row ∷ []) refl
        (All-cons IsInUse (segment_of Retiring second_row) [] refl (All-nil IsInUse))

module _ (first second : Table) (joined : second.joined ≡ true) (rows : first.rows.items ≡ first_row ∷ second_row ∷ []) where
  has_both : (table : Table) → table.rows.items ≡ first_row ∷ second_row ∷ [] → (segment : Segment) → Contains segs.segments segment
      → Contains table.rows.items segment.row
  has_both table is segment among =
      subst (λ (rows : List Row). Contains rows segment.row) (sym is)
      (Contains-image (λ (segment : Segment). segment.row) segs.segments segment among)

  -- two participants have them alike, each in its own table
  alike : second.rows.items ≡ first_row ∷ second_row ∷ [] → TablesAlike segs (first ∷ second ∷ [])
  alike also zero table segment at attached among in_use =
      let same : first ≡ table = cc in
      subst (λ (table : Table). Contains table.rows.items segment.row) same (has_both first rows segment among)
  alike also (suc zero) table segment at attached among in_use =
      let same : second ≡ table = cc in
      subst (λ (table : Table). Contains table.rows.items segment.row) same (has_both second also segment among)
  alike also (suc (suc who)) table segment at attached among in_use = cc

  -- not so where one lacks the second segment
  not_where_one_lacks : second.rows.items ≡ first_row ∷ [] → TablesAlike segs (first ∷ second ∷ []) → ⊥
  not_where_one_lacks lacks are =
      let segment : Segment = segment_of Retiring second_row in
      let among : Contains segs.segments segment =
      Contains-there (segment_of (Owned 0) first_row) segment (segment ∷ []) (Contains-here segment []) in
      let has : Contains (first_row ∷ []) second_row =
      subst (λ (rows : List Row). Contains rows second_row) lacks (are 1 second segment refl joined among refl) in
      not_first (Contains-cases first_row second_row [] has)
    where
      not_first : (first_row ≡ second_row) ⊎ Contains [] second_row → ⊥
      not_first (inl same) = let slots : 0 ≡ 1 = ap (λ (row : Row). row.slot) same in omega (arith, slots)
      not_first (inr none) = Contains-none second_row none

module _ (accepted : IsAccepted 1024 64 0) where
  -- an ask for a page
  abbrev ask_of : ℕ → Ask
  ask_of from = record {
    from = from;
    number = 1;
    heap = 0;
    socket = 0;
    page = 2 ^ 21;
    request = record { size = 1024; align = 64; bound = 0; flags = 0; accepted = accepted };
  }

  -- participant 0 was granted one, and has claimed it
  abbrev granted : SegsView
  granted =
      after (Claim 0 1) (after (Agree (replicate 16 1)) (after (OpenRun (ask_of 0) one) (after (Reserve 8) (opening pools 2 0))))

  -- participant 1 asks for one too; meanwhile participant 0 gives its own up; and participant 1 is late
  abbrev calls : List SegsCall
  calls = OpenRun (ask_of 1) two ∷ Retire 0 one ∷ Cancel (Late 1 0 200) ∷ []

  abbrev left : SegsView
  left = after (Cancel (Late 1 0 200)) (after (Retire 0 one) (after (OpenRun (ask_of 1) two) granted))

  granted_rows : granted.segments ≡ segment_of (Owned 0) first_row ∷ []
  granted_rows = refl

  opened_rows : (after (OpenRun (ask_of 1) two) granted).segments
      ≡ segment_of (Owned 0) first_row ∷ segment_of Opened (row_of two 2 0) ∷ []
  opened_rows = refl

  left_rows : left.segments ≡ segment_of Retiring first_row ∷ []
  left_rows = refl

  left_log : left.log ≡ Add one 0 ∷ Add two 0 ∷ Drop two ∷ []
  left_log = refl

  other_steps : owner_steps calls granted ≡ GivesUp one ∷ []
  other_steps = refl

  as_without : left.segments ≡ rows_by (owner_steps calls granted) granted.segments
  as_without = refl

  -- the page is planned
  planned : plan_of (ask_of 1) granted ≡ Ok two
  unfolding pages_of place_of
  planned = refl

  owns_one : (n : ℕ) → n < 1 → IsTrue (list_any (is_owned_at 0 one n) (after (OpenRun (ask_of 1) two) granted).segments)
  owns_one zero below = refl
  owns_one (suc n) below = absurd (omega (arith, below))

  is_failed : IsFailedCourse calls granted left
  is_failed = record {
    ask = ask_of 1;
    run = two;
    more = Retire 0 one ∷ Cancel (Late 1 0 200) ∷ [];
    opens = refl;
    leads = (
      record { participant = omega arith; planned = planned; spare = omega arith },
      (record { some = omega arith; owned = owns_one }, (record { caused = refl; spare = omega arith }, refl)),
    );
    nothing_else = refl;
    refused = refl;
    ended = refl;
  }

  -- where both acknowledge it, it is granted, and has not failed
  not_where_granted : IsFailedCourse (OpenRun (ask_of 1) two ∷ Agree (replicate 16 2) ∷ []) granted
      (after (Agree (replicate 16 2)) (after (OpenRun (ask_of 1) two) granted)) → ⊥
  not_where_granted course = let wrong = course.nothing_else in cc
