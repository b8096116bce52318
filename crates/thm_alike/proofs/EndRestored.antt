-- Growths that failed among calls that lead on from a sound value, and the tables of an end.
use Rattle.std.proofs.Common.{ℕ, Bool, List, [], ◌∷◌, length, sym, subst}
use Rattle.hp_maps.specs.Catching.{Lags}
use Rattle.hp_maps.specs.MapsView.{table_in}
use Rattle.hp_proc.specs.Ends.{IsMembersTable, IsTableOf}
use Rattle.hp_proc.specs.LinesDone.{courses_of, opening_standing, standing_after}
use Rattle.hp_segs.specs.Moved.{Leads, SegsCall, after}
use Rattle.hp_segs.specs.SegsView.{SegsView}
use Rattle.hp_segs.specs.Sound.{IsSound}
use Rattle.hp_segs.proofs.Moves.{calls_keep}
use Rattle.thm_alike.specs.Restored.{CoursesRestore, EndTablesRestore}
use Rattle.thm_alike.proofs.FailedCourses.{failed_courses_restore}
use Rattle.thm_alike.proofs.FailedTables.{answering_restore}

-- calls keep a value sound (as in hp_segs' Moves)
leads_keep : (calls : List SegsCall) (old new : SegsView) → IsSound old → Leads calls old new → IsSound new
leads_keep [] old new sound leads = subst IsSound (sym leads) sound
leads_keep (call ∷ calls) old new sound leads = leads_keep calls (after call old) new (calls_keep call old sound leads.0) leads.1

pub courses_restore : CoursesRestore
courses_restore calls first sound before during behind old new are leads failed =
    failed_courses_restore during old new (leads_keep before first old sound leads) failed

pub end_tables_restore : EndTablesRestore
end_tables_restore workload answers heaps segs tables end who generation heap run table at joined failed number =
    let records : ℕ = (standing_after (opening_standing workload who) (courses_of who end.courses)).records in
    let is : IsMembersTable segs who records table =
    subst (λ (joined : Bool). IsTableOf segs who records joined table) joined (end.mapped who table at).1 in
    answering_restore segs generation heap (length segs.log) run (table_in table.rows.items) end.segs_sound failed
    (subst (λ (n : ℕ). Lags segs.log n (length segs.log) (table_in table.rows.items)) number is.lags)
