-- The calls from the opening of a growth that fails to its end leave all but the growth as their own steps would have left it.
use Rattle.std.proofs.Common.{◌≡◌, ◌∙◌, ◌+◌, true, false, not, List, [], ◌∷◌, ◌++◌, length, get_or, count_by, Option, None, refl, ap, sym, subst, arith}
use Rattle.hp_base.specs.declared.row.Run.{Run}
use Rattle.hp_log.specs.Rows.{slots_of}
use Rattle.hp_base.specs.declared.row.Row.{Row}
use Rattle.hp_log.specs.declared.log_record.LogRecord.TheVariants.{Add, Drop}
use Rattle.hp_base.specs.declared.pool_line.PoolLine.{PoolLine}
use Rattle.hp_segs.specs.Lists.{pages_beside}
use Rattle.hp_segs.specs.Machine.{Machine, machine_of, unopened}
use Rattle.hp_segs.specs.Moved.{SegsCall, OpenRun, Appends, IsMovedBy, Leads, after, is_growth_step}
use Rattle.hp_segs.specs.SegsView.{SegsView, is_opened, rows_in}
use Rattle.hp_segs.specs.Sound.{IsSound}
use Rattle.hp_segs.specs.SoundAsks.{is_granted}
use Rattle.hp_segs.specs.SoundRows.{growth_run, in_runs}
use Rattle.hp_segs.specs.declared.ask.Ask.{Ask}
use Rattle.hp_segs.specs.declared.growth.Growth.{Growth}
use Rattle.hp_segs.specs.declared.row_state.Segment.{Segment}
use Rattle.hp_segs.proofs.Appending.{moves_append}
use Rattle.hp_segs.proofs.LeaveLemmas.{others_leave}
use Rattle.hp_segs.proofs.SlotFacts.ListFacts.{filter_keeps}
use Rattle.hp_segs.proofs.Moves.{calls_keep, moves_keep}
use Rattle.hp_segs.proofs.SlotFacts.PlannedLemmas.{open_plan}
use Rattle.hp_segs.proofs.RowTables.StateLemmas.{claimed_rows, retired_rows}
use Rattle.thm_alike.specs.Restored.{OwnerStep, ClaimsGrant, GivesUp, FailedCoursesRestore, IsAsWithout, machine_by, owner_steps, owner_steps_of, retiring_after, retiring_by, rows_after, rows_by}
use Rattle.thm_alike.proofs.FailedSteps.{IsOnWay, next_on_way, step_machine, step_retiring}

-- steps one after another
rows_both : (first second : List OwnerStep) (rows : List Segment) → rows_by (first ++ second) rows ≡ rows_by second (rows_by first rows)
rows_both [] second rows = refl
rows_both (step ∷ first) second rows = rows_both first second (rows_after step rows)

machine_both : (first second : List OwnerStep) (machine : Machine)
    → machine_by (first ++ second) machine ≡ machine_by second (machine_by first machine)
machine_both first second machine =
    ap (λ (rows : List Segment). record { free = machine.free; rows = rows }) (rows_both first second machine.rows)

retiring_both : (first second : List OwnerStep) (runs : List Run)
    → retiring_by (first ++ second) runs ≡ retiring_by second (retiring_by first runs)
retiring_both [] second runs = refl
retiring_both (step ∷ first) second runs = retiring_both first second (retiring_after step runs)

-- they leave each row where it is
step_rows : (step : OwnerStep) (rows : List Segment) → rows_in (rows_after step rows) ≡ rows_in rows
step_rows (ClaimsGrant generation) rows = claimed_rows generation rows
step_rows (GivesUp run) rows = retired_rows run rows

rows_still : (steps : List OwnerStep) (rows : List Segment) → rows_in (rows_by steps rows) ≡ rows_in rows
rows_still [] rows = refl
rows_still (step ∷ steps) rows = rows_still steps (rows_after step rows) ∙ step_rows step rows

-- calls are a move
moved : (calls : List SegsCall) (old new : SegsView) → Leads calls old new
    → IsMovedBy (λ call. true) (count_by is_growth_step calls) old new
moved calls old new leads = record {
  calls = calls;
  leads = leads;
  only = λ place call within. refl;
  few = omega arith;
}

appended : (calls : List SegsCall) (old new : SegsView) → Leads calls old new → Appends old new
appended calls old new leads = moves_append (λ call. true) (count_by is_growth_step calls) old new (moved calls old new leads)

-- where no growth is open no row is Opened
all_settled : (segs : SegsView) → IsSound segs → segs.growth ≡ None → unopened segs.segments ≡ segs.segments
all_settled segs sound alone =
    filter_keeps (λ segment. not (is_opened segment.state)) segs.segments
    (λ place segment within.
    ap not (sound.rows.opened place segment within
    ∙ ap (λ (growth : Option Growth). in_runs (growth_run growth) (get_or segs.segments place segment).row) alone))

-- what the calls after the opening make of the plain machine and of what is given up
record IsLeftBy (calls : List SegsCall) (at new : SegsView) : Type 0 where
  machine : machine_of new ≡ machine_by (owner_steps calls at) (machine_of at)
  retiring : new.retiring ≡ retiring_by (owner_steps calls at) at.retiring

module _ (old new : SegsView) (ask : Ask) (run : Run) (is_log : new.log ≡ old.log ++ Add run ask.heap ∷ Drop run ∷ [])
    (ungranted : is_granted new.asks (length old.log + 1) ≡ false) where
  abbrev OnWay : SegsView → Type 0
  OnWay at = IsOnWay old.log run ask.heap new is_log ungranted at

  along : (calls : List SegsCall) (at : SegsView) → OnWay at → Leads calls at new → IsLeftBy calls at new
  along [] at way leads = record { machine = ap machine_of leads; retiring = ap (λ (segs : SegsView). segs.retiring) leads }
  along (call ∷ calls) at way leads =
      let next : SegsView = after call at in
      let here : Appends at new = appended (call ∷ calls) at new leads in
      let there : Appends next new = appended calls next new leads.1 in
      let rest = along calls next (next_on_way old.log run ask.heap new is_log ungranted at way call leads.0) leads.1 in
      let first : List OwnerStep = owner_steps_of call at in
      let second : List OwnerStep = owner_steps calls next in
      record {
        machine =
            rest.machine
            ∙ (ap (machine_by second) (step_machine old.log run ask.heap new is_log ungranted at way call leads.0 here there)
            ∙ sym (machine_both first second (machine_of at)));
        retiring =
            rest.retiring
            ∙ (ap (retiring_by second) (step_retiring old.log run ask.heap new is_log ungranted at way call leads.0 here there)
            ∙ sym (retiring_both first second at.retiring));
      }

  module _ (more : List SegsCall) (sound : IsSound old) (leads : Leads (OpenRun ask run ∷ more) old new) (ended : new.growth ≡ None) where
    abbrev whole : List SegsCall
    whole = OpenRun ask run ∷ more

    left : IsLeftBy more (after (OpenRun ask run) old) new
    left =
        along more (after (OpenRun ask run) old)
        (record { sound = calls_keep (OpenRun ask run) old sound leads.0; early = []; begun = refl }) leads.1

    whole_machine : machine_of new ≡ machine_by (owner_steps whole old) (machine_of old)
    whole_machine =
        left.machine ∙ ap (machine_by (owner_steps whole old)) (others_leave (OpenRun ask run) old sound refl)

    -- no growth was open before
    alone : old.growth ≡ None
    alone = (open_plan old ask run sound.rows.table.limits leads.0.planned).alone

    new_sound : IsSound new
    new_sound = moves_keep (λ call. true) (count_by is_growth_step whole) old new sound (moved whole old new leads)

    whole_segments : new.segments ≡ rows_by (owner_steps whole old) old.segments
    whole_segments =
        sym (all_settled new new_sound ended)
        ∙ (ap (λ (machine : Machine). machine.rows) whole_machine
        ∙ ap (rows_by (owner_steps whole old)) (all_settled old sound alone))

    same_rows : rows_in new.segments ≡ rows_in old.segments
    same_rows = ap rows_in whole_segments ∙ rows_still (owner_steps whole old) old.segments

    same_pools : new.pools ≡ old.pools
    same_pools = (appended whole old new leads).pools

    as_without : IsAsWithout whole old new
    as_without = record {
      pools = same_pools;
      machine = whole_machine;
      segments = whole_segments;
      retiring = left.retiring;
      slots = λ list n. ap (λ (rows : List Row). slots_of rows list n) same_rows;
      pages = λ pool.
          ap (λ (pools : List PoolLine). pages_beside pools (rows_in new.segments) pool) same_pools
          ∙ ap (λ (rows : List Row). pages_beside old.pools rows pool) same_rows;
    }

pub failed_courses_restore : FailedCoursesRestore
failed_courses_restore calls old new sound course =
    subst (λ (calls : List SegsCall). IsAsWithout calls old new) (sym course.opens)
    (as_without old new course.ask course.run course.nothing_else course.refused course.more sound
    (subst (λ (calls : List SegsCall). Leads calls old new) course.opens course.leads) course.ended)
