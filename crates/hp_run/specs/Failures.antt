-- At which mapping calls of a run a mapping may have failed, and what was answered: those that its plan names, as the plan says, and those
-- of a mapper that is not steady, in whatever way. The rule "Together" of docs/RUNS.md.
use Rattle.std.specs.Prelude.{◌≡◌, ℕ, ◌+◌, ◌⊎◌, Bool, true, false, List, Option, Some, slice_get}
use Rattle.std.specs.List.{Contains}
use Rattle.hp_base.specs.Mapping.{FailingCall, IsSteady, may_fail_at}
use Rattle.hp_base.specs.Plans.{plans_mapping}
use Rattle.hp_base.specs.declared.map_answer.MapAnswer.{MapAnswer}
use Rattle.hp_base.specs.declared.map_answer.MapAnswer.TheVariants as answer
use Rattle.hp_base.specs.declared.plan_entry.PlanEntry.{PlanEntry}
use Rattle.hp_base.specs.declared.plan_entry.PlanEntry.TheVariants.{Mapping}
use Rattle.hp_script.specs.declared.answer.Answer.{Answer}
use Rattle.hp_script.specs.declared.answer.Answer.TheVariants.{Refused}
use Rattle.hp_script.specs.declared.line.Line.{Line}
use Rattle.hp_segs.specs.declared.ask.Ask.{Ask}
use Rattle.hp_segs.specs.declared.outcome.AskLog.{AskLog}
use Rattle.hp_serve.specs.Party.{Party}
use Rattle.hp_solo.specs.Solo.{AloneView, party_at}
use Rattle.thm_run.specs.EndLaws.{FailsFor, IsFailedMapping, MapsPages}

-- the participant has a mapper, which is not steady; of each mapper the list has the calls at which it may fail, and how, where these are
-- told
pub record IsUnsteady (mappers : List (Option (List FailingCall))) (participant : ℕ) : Type 0 where
  pub may_fail : Option (List FailingCall)
  pub its : slice_get mappers participant ≡ Some may_fail
  pub unsteady : IsSteady may_fail → ⊥

-- the plan names that mapping call of the participant, or its mapper is not steady
abbrev pub IsFailureNamed : List PlanEntry → List (Option (List FailingCall)) → ℕ → ℕ → Type 0
IsFailureNamed plan mappers participant call = (plans_mapping plan participant call ≡ true) ⊎ IsUnsteady mappers participant

-- what a line of the plan has a mapping call answer: it refuses the page at that address, or the page comes out one page above, with the
-- page size and the socket that were asked for
abbrev pub planned_answer : Bool → ℕ → Ask → MapAnswer
planned_answer false addr ask = answer.Refused
planned_answer true addr ask = answer.At (addr + ask.page) ask.page ask.socket

-- the plan has that mapping call of the participant, and the page at that address, for the ask that is kept, was answered as its line says
pub record IsFailedAsPlanned (plan : List PlanEntry) (participant call addr : ℕ) (got : MapAnswer) (kept : Option Ask) : Type 0 where
  pub elsewhere : Bool
  pub line : ℕ
  pub planned : Contains plan (Mapping participant call elsewhere line)
  pub ask : Ask
  pub asked : kept ≡ Some ask
  pub answered : got ≡ planned_answer elsewhere addr ask

-- each mapping that failed did as the plan has it, or over a mapper that is not steady
abbrev pub AreFailuresNamed : List PlanEntry → List (Option (List FailingCall)) → List AskLog → Type 0
AreFailuresNamed plan mappers asks = (entry : AskLog) (participant call : ℕ) → Contains asks entry
    → (failed : IsFailedMapping participant call entry)
    → IsFailedAsPlanned plan participant call failed.addr failed.got entry.ask ⊎ IsUnsteady mappers participant

-- no two mappings that failed share participant and call
abbrev pub FailOnce : List AskLog → Type 0
FailOnce asks = (place other : ℕ) (entry second : AskLog) (participant call : ℕ) → slice_get asks place ≡ Some entry
    → slice_get asks other ≡ Some second → IsFailedMapping participant call entry → IsFailedMapping participant call second → place ≡ other

-- the line at a place maps pages, as it attaches its participant or a chunk, and was refused at that mapping call
pub record IsRefusedAt (lines : List Line) (answers : List Answer) (place participant call : ℕ) : Type 0 where
  pub line : Line
  pub its : slice_get lines place ≡ Some line
  pub who : line.participant ≡ participant
  pub maps : MapsPages line.act
  pub refused : slice_get answers place ≡ Some (Refused call)

-- each call at which a line that maps pages was refused is named so
abbrev pub AreRefusalsNamed : List PlanEntry → List (Option (List FailingCall)) → List Line → List Answer → Type 0
AreRefusalsNamed plan mappers lines answers = (place participant call : ℕ) → IsRefusedAt lines answers place participant call
    → IsFailureNamed plan mappers participant call

-- no two lines that map pages were refused at the same call of a participant
abbrev pub RefuseOnce : List Line → List Answer → Type 0
RefuseOnce lines answers = (place other participant call : ℕ) → IsRefusedAt lines answers place participant call
    → IsRefusedAt lines answers other participant call → place ≡ other

-- the mapper of the participant in that place may fail at a call
pub record MayFailIn (servers : List AloneView) (participant call : ℕ) : Type 0 where
  pub party : Party
  pub its : party_at servers participant ≡ Some party
  pub may : may_fail_at party.maps.may_fail call ≡ true

-- the mapper of the participant in that place may have failed so
pub record MayFailSoIn (servers : List AloneView) (participant call addr : ℕ) (got : MapAnswer) (kept : Option Ask) : Type 0 where
  pub party : Party
  pub its : party_at servers participant ≡ Some party
  pub fails : FailsFor party.maps.may_fail call addr got kept

-- each mapping that failed is of a participant that is there, at a call at which its mapper may answer so
abbrev pub FailAsMay : List AloneView → List AskLog → Type 0
FailAsMay servers asks = (entry : AskLog) (participant call : ℕ) → Contains asks entry → (failed : IsFailedMapping participant call entry)
    → MayFailSoIn servers participant call failed.addr failed.got entry.ask

-- each call at which a line that maps pages was refused is one at which the mapper of its participant may fail
abbrev pub RefuseAsMay : List AloneView → List Line → List Answer → Type 0
RefuseAsMay servers lines answers = (place participant call : ℕ) → IsRefusedAt lines answers place participant call
    → MayFailIn servers participant call
