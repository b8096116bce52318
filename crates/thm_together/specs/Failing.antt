-- Why mappings failed of participants that came home from threads: each at a call at which the mapper may answer so with which its participant
-- began, and at no call twice. The rule "Together" of docs/RUNS.md.
use Rattle.std.specs.Prelude.{◌≡◌, ℕ, true, List, Contains, Option, Some, slice_get}
use Rattle.hp_base.specs.Mapping.{may_fail_at}
use Rattle.hp_base.specs.declared.map_answer.MapAnswer.{MapAnswer}
use Rattle.hp_heap.specs.History.{HeapView}
use Rattle.hp_maps.specs.declared.table.Table.{Table}
use Rattle.hp_script.specs.declared.answer.Answer.{Answer}
use Rattle.hp_script.specs.declared.workload.Workload.{Workload}
use Rattle.hp_segs.specs.SegsView.{SegsView}
use Rattle.hp_segs.specs.declared.ask.Ask.{Ask}
use Rattle.hp_segs.specs.declared.outcome.AskLog.{AskLog}
use Rattle.hp_proc.specs.LinesDone.{Course}
use Rattle.thm_run.specs.EndLaws.{FailsFor, IsFailedMapping, IsRefusedMapping}
use Rattle.thm_run.specs.Seats.{Seat}
use Rattle.thm_together.specs.CameHome.{AllCameHome, courses_in_order}

-- the mapper with which one of these participants began may answer so
pub record MayFailSo (first : List Seat) (participant call addr : ℕ) (got : MapAnswer) (kept : Option Ask) : Type 0 where
  pub seat : Seat
  pub there : slice_get first participant ≡ Some seat
  pub fails : FailsFor seat.party.maps.may_fail call addr got kept

-- the mapper with which one of these participants began may fail at that call
pub record MayFailAt (first : List Seat) (participant call : ℕ) : Type 0 where
  pub seat : Seat
  pub there : slice_get first participant ≡ Some seat
  pub may : may_fail_at seat.party.maps.may_fail call ≡ true

-- wherever all came home, a mapping that failed did so at a call at which its mapper may answer so
abbrev pub FailsWhereHome : Type 0
FailsWhereHome = (workload : Workload) (answers : List Answer) (heaps : List HeapView) (segs : SegsView) (tables : List Table)
    (home : AllCameHome workload answers heaps segs tables) (entry : AskLog) (participant call : ℕ) → Contains segs.asks entry
    → (failed : IsFailedMapping participant call entry) → MayFailSo home.first participant call failed.addr failed.got entry.ask

-- failed mappings that share participant and call stand at one place of the outcomes
abbrev pub FailsOnceWhereHome : Type 0
FailsOnceWhereHome = (workload : Workload) (answers : List Answer) (heaps : List HeapView) (segs : SegsView) (tables : List Table)
    → AllCameHome workload answers heaps segs tables → (place other : ℕ) (entry second : AskLog) (participant call : ℕ)
    → slice_get segs.asks place ≡ Some entry → slice_get segs.asks other ≡ Some second → IsFailedMapping participant call entry
    → IsFailedMapping participant call second → place ≡ other

-- a line that attaches its participant, or a chunk, was refused at a call at which its participant's mapper may fail, and two of one call are one
-- line
abbrev pub RefusesWhereHome : Type 0
RefusesWhereHome = (workload : Workload) (answers : List Answer) (heaps : List HeapView) (segs : SegsView) (tables : List Table)
    (home : AllCameHome workload answers heaps segs tables) (place : ℕ) (course : Course) (participant call : ℕ)
    → slice_get (courses_in_order workload home.courses) place ≡ Some course → IsRefusedMapping participant call course
    → MayFailAt home.first participant call

abbrev pub RefusesOnceWhereHome : Type 0
RefusesOnceWhereHome = (workload : Workload) (answers : List Answer) (heaps : List HeapView) (segs : SegsView) (tables : List Table)
    (home : AllCameHome workload answers heaps segs tables) (place other : ℕ) (course second : Course) (participant call : ℕ)
    → slice_get (courses_in_order workload home.courses) place ≡ Some course
    → slice_get (courses_in_order workload home.courses) other ≡ Some second → IsRefusedMapping participant call course
    → IsRefusedMapping participant call second → place ≡ other
