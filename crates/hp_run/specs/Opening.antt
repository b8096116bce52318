-- What a run begins with: its heaps, its hall, and its participants. The rule "Turns in one thread" of docs/RUNS.md.
use Rattle.std.specs.Prelude.{◌≡◌, ℕ, List, [], Option, Some, length, replicate, slice_get}
use Rattle.hp_base.specs.Mapping.{FailingCall}
use Rattle.hp_base.specs.declared.limits.TheConstants.{MAX_SEGMENTS}
use Rattle.hp_heap.specs.History.{HeapView, IsSound}
use Rattle.hp_heap.specs.PlainHeap.{opening_heap}
use Rattle.hp_plain.specs.Opening.{heaps_in}
use Rattle.hp_hall.specs.Views.{HeldHeap}
use Rattle.hp_maps.specs.MapsView.{MapsView}
use Rattle.hp_maps.specs.PlannedView.{may_fail_by}
use Rattle.hp_script.specs.declared.workload.Workload.{Workload}
use Rattle.hp_serve.specs.Party.{Party}
use Rattle.hp_solo.specs.Solo.{AloneView, SoloView, nobody}
use Rattle.thm_run.specs.EndLaws.{first_party}
use Rattle.thm_run.specs.SoFar.{AreFirstHeaps, AreSoundNames, first_hall, first_names}
use Rattle.thm_causes.specs.Threads.{ArePlaces}

-- the heap of an index before its first call, of a socket or vacant
pub record IsFirstHeap (index : ℕ) (serves : Option ℕ) (heap : HeapView) : Type 0 where
  pub plain : heap.plain ≡ opening_heap index serves
  pub history : heap.history ≡ []
  pub sound : IsSound heap

-- the hall of a workload before the first line: its heaps with their pens, its segments and its names are there
pub record IsFirstHall (workload : Workload) (hall : SoloView) : Type 0 where
  pub held : List HeldHeap
  pub first : AreFirstHeaps workload (heaps_in held)
  pub names_sound : AreSoundNames (first_names workload)
  pub plain : hall.plain ≡ first_hall workload held

-- nobody has come to the hall: there is a place for each participant
abbrev pub IsEmptyHall : Workload → SoloView → Type 0
IsEmptyHall workload hall = IsFirstHall workload hall × (hall.servers ≡ replicate workload.participants nobody)

-- a table with room for a row of each segment, and nothing in it
pub record IsFirstTable (maps : MapsView) : Type 0 where
  pub rows : maps.rows ≡ []
  pub number : maps.number ≡ 0
  pub answers : maps.answers ≡ []
  pub room : maps.capacity ≡ MAX_SEGMENTS

-- a participant before its first line, over such a table, by the plan of its workload: its table is over a mapper that fails by that plan,
-- and else may fail at those calls
pub record IsPlannedParty (workload : Workload) (who : ℕ) (may_fail : Option (List FailingCall)) (party : Party) : Type 0 where
  pub maps : MapsView
  pub table : IsFirstTable maps
  pub fails : maps.may_fail ≡ may_fail_by workload.plan.items who may_fail
  pub is : party ≡ first_party workload who maps workload.plan.items

-- a participant goes by the plan of the workload, over the mapper that has its place among these
pub record IsPartyOver (workload : Workload) (mappers : List (Option (List FailingCall))) (who : ℕ) (party : Party) : Type 0 where
  pub may_fail : Option (List FailingCall)
  pub its : slice_get mappers who ≡ Some may_fail
  pub planned : IsPlannedParty workload who may_fail party

-- all participants have come to their places before the first line, each over its mapper, and none has a validator
pub record HaveCome (workload : Workload) (mappers : List (Option (List FailingCall))) (servers : List AloneView) : Type 0 where
  pub parties : List Party
  pub are : ArePlaces (λ who. []) servers parties
  pub count : length parties ≡ workload.participants
  pub each : (who : ℕ) (party : Party) → slice_get parties who ≡ Some party → IsPartyOver workload mappers who party
