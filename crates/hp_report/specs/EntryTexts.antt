-- The histories of heaps as the report shows them.
use Rattle.std.specs.Prelude.{ℕ, List, ◌++◌, codes}
use Rattle.std.specs.List.{flat_map}
use Rattle.hp_heap.specs.History.{HeapView}
use Rattle.hp_heap.specs.declared.entry.Entry.{Entry}
use Rattle.hp_script.specs.Answers.{number_text}
use Rattle.hp_report.specs.CallTexts.{call_text, outcome_text}
use Rattle.hp_report.specs.Numbered.{numbered}

-- an entry: the heap, its number in the history, the caller with its own count of calls, the call and its answer
abbrev pub entry_line : (ℕ → List ℕ) → ℕ → ℕ → Entry → List ℕ
entry_line names heap number entry =
    codes "hist" ++ number_text heap ++ number_text number ++ number_text entry.caller.participant ++ number_text entry.caller.number
    ++ call_text names entry.call ++ codes " ->" ++ outcome_text entry.answer ++ codes "\n"

-- the history of a heap, from entry 1 on
abbrev pub history_text : (ℕ → List ℕ) → HeapView → List ℕ
history_text names heap = numbered (entry_line names heap.plain.index) 1 heap.history

-- the histories of all heaps by index
abbrev pub histories_text : (ℕ → List ℕ) → List HeapView → List ℕ
histories_text names heaps = flat_map (history_text names) heaps
