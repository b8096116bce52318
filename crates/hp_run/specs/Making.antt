-- What a call writes that reads nothing: the text that the generator draws, or the summary of a run of it.
use Rattle.std.specs.Prelude.{◌≡◌, ℕ, List, Option}
use Rattle.hp_base.specs.Mapping.{FailingCall}
use Rattle.hp_base.specs.declared.status.Status.{Status}
use Rattle.hp_base.specs.declared.status.Status.TheVariants as status
use Rattle.hp_events.specs.Watchers.{WatchersView}
use Rattle.hp_heap.specs.History.{HeapView}
use Rattle.hp_maps.specs.declared.table.Table.{Table}
use Rattle.hp_script.specs.declared.answer.Answer.{Answer}
use Rattle.hp_script.specs.declared.workload.Workload.{Workload}
use Rattle.hp_segs.specs.SegsView.{SegsView}
use Rattle.hp_zone.specs.declared.names.Names.{Names as NamesView}
use Rattle.hp_script.specs.DrawnWords.GeneratedText.{generated_text}
use Rattle.hp_run.specs.Outcome.{IsEndOf, IsPut}
use Rattle.hp_run.specs.Summary.{counts_of, numbers_of, numbers_text, summary_text}
use Rattle.hp_run.specs.declared.running.Counted.{Counted}

-- a text of this kind was written, or a front of it before the sink failed, or nothing where memory ran out
pub data IsMade (is : List ℕ → Type 0) (held held' : Option (List ℕ)) (sink_failed : Type 0) : Status → Type 0 where
  wrote : (result : Status) (text : List ℕ) → is text → IsPut status.Ok text held held' sink_failed result → IsMade is held held' sink_failed result
  wrote_nothing : held' ≡ held → IsMade is held held' sink_failed status.OutOfMemory

-- the text is that of so many lines from a start
abbrev pub IsGenerated : ℕ → ℕ → List ℕ → Type 0
IsGenerated start lines text = text ≡ generated_text start lines

-- the text is the summary of what was counted, and of what a run left
abbrev pub IsSummaryOf : Counted → List ℕ → Type 0
IsSummaryOf counted text = text ≡ numbers_text (numbers_of counted.counts counted.heaps.items counted.segs)

-- the text is the summary of an end of the workload that the input is
pub record IsSummaryFor (mappers : List (Option (List FailingCall))) (input text : List ℕ) : Type 0 where
  pub ended : Workload
  pub answers : List Answer
  pub heaps : List HeapView
  pub segs : SegsView
  pub names : NamesView
  pub tables : List Table
  pub watchers : List WatchersView
  pub end : IsEndOf mappers input ended answers heaps segs names tables watchers
  pub is : text ≡ summary_text ended.lines.items answers heaps segs

-- what was counted, and what is left, is that of an end of the workload that the input is
pub record IsCountedFor (mappers : List (Option (List FailingCall))) (input : List ℕ) (counted : Counted) : Type 0 where
  pub ended : Workload
  pub answers : List Answer
  pub names : NamesView
  pub tables : List Table
  pub watchers : List WatchersView
  pub end : IsEndOf mappers input ended answers counted.heaps.items counted.segs names tables watchers
  pub counts : counted.counts ≡ counts_of ended.lines.items answers
