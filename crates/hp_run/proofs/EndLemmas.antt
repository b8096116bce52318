-- An end of a workload: each line has its answer.
use Rattle.std.proofs.Common.{◌≡◌, ◌∙◌, List, length, sym, ap}
use Rattle.std.proofs.lemmas.List.{length-map}
use Rattle.hp_heap.specs.History.{HeapView}
use Rattle.hp_maps.specs.declared.table.Table.{Table}
use Rattle.hp_script.specs.declared.answer.Answer.{Answer}
use Rattle.hp_script.specs.declared.line.Line.{Line}
use Rattle.hp_script.specs.declared.workload.Workload.{Workload}
use Rattle.hp_segs.specs.SegsView.{SegsView}
use Rattle.hp_proc.specs.Ends.{IsEnd}
use Rattle.hp_proc.specs.LinesDone.{Course}

-- as many answers as lines
pub each_answered : (workload : Workload) (answers : List Answer) (heaps : List HeapView) (segs : SegsView) (tables : List Table)
    → IsEnd workload answers heaps segs tables → length answers ≡ length workload.lines.items
each_answered workload answers heaps segs tables is =
    sym (ap (λ (answers : List Answer). length answers) is.answered)
    ∙ length-map is.courses (λ (course : Course). course.answer)
    ∙ sym (length-map is.courses (λ (course : Course). course.line))
    ∙ ap (λ (lines : List Line). length lines) is.lines
