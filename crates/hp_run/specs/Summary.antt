-- The summary of a run: how many lines did what they asked for, and what is left, in eight lines.
use Rattle.std.specs.Prelude.{ℕ, ◌+◌, List, ◌∷◌, ◌++◌, length, codes, if◌then◌else◌}
use Rattle.std.specs.Fmt.{decimal}
use Rattle.std.specs.List.{sum_by}
use Rattle.hp_heap.specs.History.{HeapView}
use Rattle.hp_heap.specs.Statistics.{statistics_of}
use Rattle.hp_script.specs.declared.answer.Answer.{Answer}
use Rattle.hp_script.specs.declared.line.Line.{Line}
use Rattle.hp_segs.specs.SegsView.{SegsView, pages_left}
use Rattle.hp_run.specs.Deeds.{is_done}
use Rattle.hp_run.specs.declared.deed.Deed.{Deed}
use Rattle.hp_run.specs.declared.deed.Deed.TheVariants.{Allocated, Freed, Resized}
use Rattle.hp_run.specs.declared.summary.Counts.{Counts}
use Rattle.hp_run.specs.declared.summary.Rest.{Rest}
use Rattle.hp_run.specs.declared.summary.Summary.{Summary}

-- how many lines have done it
abbrev pub count_done : Deed → List Line → List Answer → ℕ
count_done deed (line ∷ lines) (answered ∷ answers) = (if is_done deed line.act answered then 1 else 0) + count_done deed lines answers
count_done deed _ _ = 0

-- the free bytes of all heaps
abbrev pub free_bytes : List HeapView → ℕ
free_bytes heaps = sum_by (λ heap. (statistics_of heap.plain).free) heaps

-- how many lines a run had, and how many did what they asked for
abbrev pub counts_of : List Line → List Answer → Counts
counts_of lines answers = record {
  lines = length lines;
  allocs = count_done Allocated lines answers;
  frees = count_done Freed lines answers;
  resized = count_done Resized lines answers;
}

-- what is left: the records of the log, the pages in the first two pools, and the free bytes
abbrev pub rest_of : List HeapView → SegsView → Rest
rest_of heaps segs = record {
  records = length segs.log;
  pool0 = pages_left segs 0;
  pool1 = pages_left segs 1;
  free = free_bytes heaps;
}

-- the summary of what was counted, and of what a run left
abbrev pub numbers_of : Counts → List HeapView → SegsView → Summary
numbers_of counts heaps segs = record { counts = counts; rest = rest_of heaps segs }

-- its text: a line for each number, of a word, a blank and the number
abbrev pub counts_text : Counts → List ℕ
counts_text counts =
    codes "lines " ++ decimal counts.lines ++ codes "\nallocs " ++ decimal counts.allocs ++ codes "\nfrees " ++ decimal counts.frees
    ++ codes "\nresized " ++ decimal counts.resized ++ codes "\n"

abbrev pub rest_text : Rest → List ℕ
rest_text rest =
    codes "records " ++ decimal rest.records ++ codes "\npool0 " ++ decimal rest.pool0 ++ codes "\npool1 " ++ decimal rest.pool1
    ++ codes "\nfree " ++ decimal rest.free ++ codes "\n"

abbrev pub numbers_text : Summary → List ℕ
numbers_text summary = counts_text summary.counts ++ rest_text summary.rest

-- the text of the summary of lines with their answers, and of what their run left
abbrev pub summary_text : List Line → List Answer → List HeapView → SegsView → List ℕ
summary_text lines answers heaps segs = numbers_text (numbers_of (counts_of lines answers) heaps segs)
