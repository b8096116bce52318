-- Participants that came home to their seats at a board came home, with all that the board handed out.
use Rattle.std.proofs.Common.{◌≡◌, ◌∙◌, ℕ, ◌+◌, ◌<◌, ◌≤◌, List, [], length, map, Some, slice_get, ⊎_elim, refl, ap, sym, subst, arith}
use Rattle.std.specs.List.{range_with_len}
use Rattle.std.specs.Option.{option_map}
use Rattle.std.specs.Prelude.{Contains}
use Rattle.std.proofs.lemmas.Bool.{cases_lt}
use Rattle.std.proofs.lemmas.List.{length-map}
use Rattle.std.proofs.lemmas.List.FromFn.{get_or-range_with_len, length-range_with_len}
use Rattle.std.proofs.lemmas.Option.{same_Some, slice_get-get_or, slice_get-map, slice_get_within}
use Rattle.hp_board.specs.MovesKept.{all_free}
use Rattle.hp_chair.specs.Steps.{posted_to}
use Rattle.hp_heap.proofs.AllocFacts.ChoiceLaw.{Contains-none}
use Rattle.hp_heap.specs.History.{HeapView}
use Rattle.hp_maps.specs.declared.table.Table.{Table}
use Rattle.hp_script.specs.declared.answer.Answer.{Answer}
use Rattle.hp_script.specs.declared.workload.Workload.{Workload}
use Rattle.hp_segs.specs.SegsView.{SegsView}
use Rattle.hp_weave.specs.Holds.{Hold}
use Rattle.hp_proc.specs.Courses.{calls_in}
use Rattle.hp_proc.specs.Histories.{entries_for}
use Rattle.hp_proc.specs.LinesDone.{Course, trace_of}
use Rattle.thm_run.proofs.InTurnByHolds.LinesInHolds.{way_by_lines}
use Rattle.thm_run.specs.ByRuns.{AreOfHeaps}
use Rattle.thm_run.specs.Seats.{Seat}
use Rattle.thm_run.specs.Told.{ArePosted, TellsIn}
use Rattle.thm_together.proofs.HomeEnds.{end_where_home}
use Rattle.thm_together.specs.CameHome.{AllCameHome, CameByHolds, LeavesItsTable, WentItsWay}
use Rattle.thm_moved.proofs.AwaitedAtBoard.{awaited_at_board}
use Rattle.thm_moved.proofs.CameToBoard.{came_by, its_seat, made, moves_are, went}
use Rattle.thm_moved.proofs.ClosedHeaps.{kept_by_close}
use Rattle.thm_moved.proofs.ClosedTables.{tables_by_close}
use Rattle.thm_moved.proofs.HeldByMoves.{held_by_moves}
use Rattle.thm_moved.proofs.MailTold.{fetched_in, told_by_post}
use Rattle.thm_moved.proofs.MovesWithin.{calls_within}
use Rattle.thm_moved.specs.AtBoard.{AllCameToTheirSeats, EndAtBoard, HomeAtBoard}

-- what numbers have, in their order
listed : {X : Type 0} → ℕ → (ℕ → X) → List X
listed count of_each = map of_each (range_with_len 0 count)

length-listed : {X : Type 0} (count : ℕ) (of_each : ℕ → X) → length (listed count of_each) ≡ count
unfolding listed
length-listed count of_each = length-map (range_with_len 0 count) of_each ∙ length-range_with_len 0 count

from_none : (n : ℕ) → 0 + n ≡ n
from_none n = omega arith

listed_at : {X : Type 0} (count : ℕ) (of_each : ℕ → X) (who : ℕ) → who < count → slice_get (listed count of_each) who ≡ Some (of_each who)
unfolding listed
listed_at count of_each who below =
    slice_get-map of_each (range_with_len 0 count) who
    ∙ ap (option_map of_each)
    (slice_get-get_or (range_with_len 0 count) who 0 (omega (arith, below, length-range_with_len 0 count))
    ∙ ap Some (get_or-range_with_len 0 count who 0 below ∙ from_none who))

-- what stands there is what that number has
listed_is : {X : Type 0} (count : ℕ) (of_each : ℕ → X) (who : ℕ) (x : X) → slice_get (listed count of_each) who ≡ Some x
    → (who < count) × (of_each who ≡ x)
listed_is count of_each who x there =
    let within = slice_get_within (listed count of_each) who x there in
    let below : who < count = omega (arith, within, length-listed count of_each) in
    (below, same_Some (of_each who) x (sym (listed_at count of_each who below) ∙ there))

module _ (workload : Workload) (answers : List Answer) (heaps : List HeapView) (segs : SegsView) (tables : List Table)
    (all : AllCameToTheirSeats workload answers heaps segs tables) where
  abbrev count : ℕ
  count = workload.participants

  held : (holds : List (Hold SegsView)) × CameByHolds workload all.steps holds segs
  held = held_by_moves workload all.moved.moves all.steps segs (came_by workload answers heaps segs tables all)

  within : AreOfHeaps (λ who. trace_of (all.courses who)) heaps
  within who index beyond =
      ⊎_elim
      (λ (below : who < count).
      let its = went workload answers heaps segs tables all who below in
      calls_within all.moved.moves (all_free all.moved.first) (all_free all.moved.last) count who (all.first who) (all.last who)
      (all.courses who) (all.steps who) all.moved.replay (moves_are workload answers heaps segs tables all who below) its.way its.adds index
      (omega (arith, beyond, all.closed.heaps_are.count)))
      (λ (past : count ≤ who). ap (λ (own : List Course). entries_for who index 1 (calls_in (trace_of own))) (all.no_lines who past))
      (cases_lt who count)

  -- each notice that participant 0 fetched was told
  are_posted : ArePosted all.steps (all.last 0)
  are_posted frame from number heap address len among says =
      let zero = went workload answers heaps segs tables all 0 all.given.primary in
      let path =
      (way_by_lines count 0 (all.first 0) (all.last 0) (all.courses 0) (all.steps 0) zero.way).0 in
      told_so (all.posted frame (fetched_in path zero.begins.fetched frame among))
    where
      told_so : (sender : ℕ) × Contains (posted_to 0 (all.steps sender)) frame → TellsIn from number (all.steps from)
      told_so (sender, posted) =
          ⊎_elim
          (λ (below : sender < count).
          let its = went workload answers heaps segs tables all sender below in
          let told =
          told_by_post frame from number heap address len says
          (way_by_lines count sender (all.first sender) (all.last sender) (all.courses sender) (all.steps sender) its.way).0 posted in
          subst (λ who. TellsIn who number (all.steps who)) (sym told.0) told.1)
          (λ (past : count ≤ sender).
          absurd (Contains-none frame (subst (λ steps. Contains (posted_to 0 steps) frame) (all.no_steps sender past) posted)))
          (cases_lt sender count)

  home : AllCameHome workload answers heaps segs tables
  home = record {
    given = all.given;
    declared = all.declared;
    first = listed count all.first;
    last = listed count all.last;
    courses = all.courses;
    steps = all.steps;
    begun = length-listed count all.first;
    count = length-listed count all.last ∙ sym (length-listed count all.first);
    went = λ who old new early late.
        let begins = listed_is count all.first who old early in
        let ends = listed_is count all.last who new late in
        subst (λ (old : Seat). WentItsWay workload who segs.log segs.asks old new (all.courses who) (all.steps who)) begins.1
        (subst (λ (new : Seat). WentItsWay workload who segs.log segs.asks (all.first who) new (all.courses who) (all.steps who)) ends.1
        (went workload answers heaps segs tables all who begins.0));
    no_lines = all.no_lines;
    no_steps = all.no_steps;
    posted = λ seat there. subst (ArePosted all.steps) (listed_is count all.last 0 seat there).1 are_posted;
    answered = all.answered;
    awaited = awaited_at_board workload answers heaps segs tables all;
    holds = held.0;
    held = held.1;
    kept = kept_by_close workload all.opening all.courses all.seats heaps all.pens segs all.opens (made workload answers heaps segs tables all) all.closed all.no_lines within;
    tables_are = all.count;
    leaves = λ who seat table late there.
        let ends = listed_is count all.last who seat late in
        let its = its_seat workload answers heaps segs tables all who ends.0 in
        subst (λ (seat : Seat). LeavesItsTable workload who segs seat (all.courses who) table) ends.1
        (tables_by_close workload all.opening (λ who. trace_of (all.courses who)) all.seats heaps all.pens segs (made workload answers heaps segs tables all) all.closed who its.0
        (all.last who) (all.courses who) table its.1 (all.home who its.0 table its.1 there).ends);
  }

pub home_at_board : HomeAtBoard
unfolding home
home_at_board workload answers heaps segs tables all = record {
  home = home workload answers heaps segs tables all;
  courses_are = refl;
  began = λ who seat there. sym (listed_is workload.participants all.first who seat there).1;
  ended = λ who seat there. sym (listed_is workload.participants all.last who seat there).1;
}

pub end_at_board : EndAtBoard
unfolding home
end_at_board workload answers heaps segs tables all =
    end_where_home workload answers heaps segs tables (home workload answers heaps segs tables all)
