-- The table that a participant leaves who came home.
use Rattle.std.proofs.Common.{◌≡◌, ◌∙◌, ℕ, ◌<◌, ◌≤◌, Bool, true, false, List, [], ◌∷◌, length, get_or, refl, sym, subst, arith}
use Rattle.std.specs.Prelude.{Contains}
use Rattle.hp_base.specs.declared.chunk.Chunk.{Chunk}
use Rattle.hp_base.specs.declared.row.Row.{Row}
use Rattle.hp_hall.proofs.StandingFacts.StandingLists.{found_in}
use Rattle.hp_maps.specs.Catching.{Lags}
use Rattle.hp_heap.proofs.AllocFacts.ChoiceLaw.{Contains-here, Contains-none}
use Rattle.hp_maps.specs.MapsView.{chunk_rows, table_in}
use Rattle.hp_maps.specs.declared.table.Table.{Table}
use Rattle.hp_script.specs.declared.workload.Workload.{Workload}
use Rattle.hp_segs.specs.SegsView.{SegsView, granted_by, is_member, is_opened}
use Rattle.hp_segs.specs.Sound.{IsSound}
use Rattle.hp_segs.specs.SoundAsks.{grants}
use Rattle.hp_segs.specs.declared.row_state.Segment.{Segment}
use Rattle.hp_segs.proofs.GrowthSteps.GrantedRows.{row_granted}
use Rattle.hp_serve.specs.Tied.{HasChunks, HasTable, nothing_yet, part_of}
use Rattle.hp_serve.proofs.RowsKnown.{has_lags}
use Rattle.hp_proc.specs.Ends.{IsMembersTable, IsTableOf}
use Rattle.hp_proc.specs.LinesDone.{Course, opening_standing, standing_after}
use Rattle.hp_proc.specs.Seen.{HasTakenIn}
use Rattle.thm_run.proofs.HallFacts.HallTables.{all_from_contained, granted_so, if_there, lags_further, no_rows}
use Rattle.thm_run.specs.Seats.{Seat}
use Rattle.thm_together.specs.CameHome.{LeavesItsTable}

-- who has attached no chunk has no row of one
none_marked : (marked : ℕ → List Chunk) (rows : List Row) → HasChunks marked rows → ((heap : ℕ) → marked heap ≡ []) → rows ≡ []
none_marked marked [] has none = refl
none_marked marked (row ∷ rows) has none =
    let one = has.only row (Contains-here row rows) in
    absurd (Contains-none one.1 (subst (λ (chunks : List Chunk). Contains chunks one.1) (none one.0) one.3))

module _ (workload : Workload) (who : ℕ) (segs : SegsView) (sound : IsSound segs) (last : Seat) (courses : List Course) (table : Table)
    (its : LeavesItsTable workload who segs last courses table)
    (since : last.party.joined ≡ true → (standing_after (opening_standing workload who) courses).records ≤ last.party.maps.number) where
  abbrev records : ℕ
  records = (standing_after (opening_standing workload who) courses).records

  module _ (joined : last.party.joined ≡ true) where
    -- the record of a segment that isn't Opened was granted, and so taken in
    row_taken_in : (place : ℕ) (segment : Segment) → place < length segs.segments
        → is_opened (get_or segs.segments place segment).state ≡ false
        → (get_or segs.segments place segment).row.generation ≤ its.own.number
    row_taken_in place segment within settled =
        let generation : ℕ = (get_or segs.segments place segment).row.generation in
        let found = found_in (grants generation) segs.asks (row_granted segs sound place segment within settled) in
        its.taken_in joined found.element generation found.among (granted_so generation found.element.outcome found.passes)

    its_own : HasTable segs.log its.own its.marked last.party.maps
    its_own = subst (λ (joined : Bool). HasTable segs.log (part_of joined its.own) its.marked last.party.maps) joined its.kept

    members_table : IsMembersTable segs who records table
    members_table =
        let number_is : table.number ≡ its.own.number = its.leaves.number ∙ its_own.number in
        record {
          lags = subst (λ (rows : List Row). Lags segs.log table.number (length segs.log) (table_in rows)) (sym its.leaves.rows)
              (subst (λ (number : ℕ). Lags segs.log number (length segs.log) (table_in last.party.maps.rows)) (sym number_is)
              (lags_further segs.log its.own.number its.own.unmapped (length segs.log) (table_in last.party.maps.rows) its_own.seen
              (has_lags segs.log its.own its.marked last.party.maps its_own)));
          since = omega (arith, its.leaves.number, since joined);
          own = all_from_contained (HasTakenIn who table.number) segs.asks (λ entry has mine.
              if_there (λ (generation : ℕ). generation ≤ table.number) (granted_by entry.outcome) (λ generation grant.
              omega (arith, number_is, its.taken_in joined entry generation has grant)));
          agreed = λ place segment within settled. omega (arith, number_is, row_taken_in place segment within settled);
        }

  -- who is out has no table
  none_left : last.party.joined ≡ false → (table.number ≡ 0) × (table.rows.items ≡ [])
  none_left out =
      let none : HasTable segs.log nothing_yet its.marked last.party.maps =
      subst (λ (joined : Bool). HasTable segs.log (part_of joined its.own) its.marked last.party.maps) out its.kept in (
        its.leaves.number ∙ none.number,
        its.leaves.rows
            ∙ no_rows segs.log last.party.maps.rows (has_lags segs.log nothing_yet its.marked last.party.maps none)
            (none_marked its.marked (chunk_rows last.party.maps.rows) none.chunks (its.away out)),
      )

  table_by : (joined : Bool) → last.party.joined ≡ joined → IsTableOf segs who records joined table
  table_by true is = members_table is
  table_by false is = none_left is

  pub its_table : (table.joined ≡ is_member segs.roster who) × IsTableOf segs who records table.joined table
  its_table = (its.leaves.joined ∙ sym its.member, table_by table.joined (sym its.leaves.joined))
