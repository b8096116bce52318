-- At the end of a run the table of each attached participant has all segments in use.
use Rattle.std.proofs.Common.{◌≡◌, ℕ, ◌≤◌, Bool, false, List, length, subst}
use Rattle.std.specs.Prelude.{Contains}
use Rattle.std.proofs.lemmas.List.Elements.{All-contains}
use Rattle.hp_heap.specs.History.{HeapView}
use Rattle.hp_hall.proofs.StandingFacts.StandingLists.{contains_unkept}
use Rattle.hp_maps.specs.MapsView.{is_of_log, table_in}
use Rattle.hp_maps.specs.declared.table.Table.{Table}
use Rattle.hp_script.specs.declared.answer.Answer.{Answer}
use Rattle.hp_script.specs.declared.workload.Workload.{Workload}
use Rattle.hp_segs.specs.SegsView.{SegsView, is_opened}
use Rattle.hp_segs.specs.Sound.{IsSound}
use Rattle.hp_segs.specs.declared.row_state.Segment.{Segment}
use Rattle.hp_proc.specs.Ends.{IsEnd, IsMembersTable, IsTableOf}
use Rattle.hp_proc.specs.LinesDone.{courses_of, opening_standing, standing_after}
use Rattle.thm_alike.specs.Alike.{EndsAlike, HasSegment, IsInUse, TablesAlike}
use Rattle.thm_alike.proofs.AttachedAlike.{in_use_logged}
use Rattle.thm_alike.proofs.InTables.{in_lagging}

-- a member's table has each segment in use
members_has : (segs : SegsView) (who attached_at : ℕ) (table : Table) (segment : Segment) → IsSound segs
    → IsMembersTable segs who attached_at table → Contains segs.segments segment → IsInUse segment
    → HasSegment table.rows.items segment
members_has segs who attached_at table segment sound is among in_use =
    contains_unkept is_of_log table.rows.items segment.row
    (in_lagging segs.log table.number (length segs.log) (table_in table.rows.items) segment.row is.lags
    (All-contains (λ (segment : Segment). is_opened segment.state ≡ false → segment.row.generation ≤ table.number) segs.segments segment
    is.agreed among in_use)
    (in_use_logged segs segment sound among))

pub tables_alike : (workload : Workload) (answers : List Answer) (heaps : List HeapView) (segs : SegsView) (tables : List Table)
    → IsEnd workload answers heaps segs tables → TablesAlike segs tables
tables_alike workload answers heaps segs tables end who table segment at joined among in_use =
    let records : ℕ = (standing_after (opening_standing workload who) (courses_of who end.courses)).records in
    members_has segs who records table segment end.segs_sound
    (subst (λ (joined : Bool). IsTableOf segs who records joined table) joined (end.mapped who table at).1) among in_use

pub ends_alike : EndsAlike
ends_alike = tables_alike
