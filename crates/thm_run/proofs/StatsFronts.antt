-- Statistics that lines read which are those that the lines before leave are of fronts of the histories, and the fronts never grow shorter.
use Rattle.std.proofs.Common.{◌≡◌, ◌∙◌, ℕ, Bool, List, [], ◌∷◌, ◌++◌, eq-eqb, filter_map, map, Option, Some, None, if◌then◌else◌, refl, ap, sym, inl, inr}
use Rattle.std.specs.List.{All}
use Rattle.std.proofs.lemmas.Bool.{cases_eq, ne_eqb}
use Rattle.std.proofs.lemmas.Option.{same_Some}
use Rattle.hp_script.specs.declared.workload.Workload.{Workload}
use Rattle.hp_proc.specs.Doing.{Counted, Done}
use Rattle.hp_proc.specs.Doing.Done.{StatsRead}
use Rattle.hp_proc.specs.Handed.{counted_read}
use Rattle.hp_proc.specs.LinesDone.{Course, courses_of, trace_of}
use Rattle.hp_proc.specs.OneThread.{counted_by}
use Rattle.thm_run.proofs.PickedFronts.{all_picked, at, left, lines_rise}
use Rattle.thm_run.proofs.Rising.{Rises}
use Rattle.thm_run.specs.Handing.{AreOfLinesBefore}

-- what shows statistics of a heap is a reading of these
pub read_is : (index : ℕ) (done : Done) (counted : Counted) → counted_read index done ≡ Some counted → done ≡ StatsRead index counted
read_is index (StatsRead other own) counted is =
    elim (cases_eq other index) [
      | inl same ↦
          let it : Some own ≡ Some counted =
          sym (ap (λ (here : Bool). if here then Some own else None) (eq-eqb other index same)) ∙ is in
          ap (λ (heap : ℕ). StatsRead heap own) same ∙ ap (λ (own : Counted). StatsRead index own) (same_Some own counted it)
      | inr differ ↦
          let none : None ≡ Some counted =
          sym (ap (λ (here : Bool). if here then Some own else None) (ne_eqb other index differ)) ∙ is in
          cc
    ]
read_is index _ counted is = cc

module _ (index : ℕ) (workload : Workload) (whole : List Course) (are : AreOfLinesBefore workload whole) where
  -- what is read at a place
  pub read_there : (before : List Course) (course : Course) (later : List Course) (first rest : List Done) (counted : Counted)
      → whole ≡ before ++ course ∷ later → course.trace ≡ first ++ StatsRead index counted ∷ rest
      → counted ≡ counted_by workload index (before ++ at course first ∷ [])
  read_there before course later first rest counted lines trace =
      are.handed (before ++ at course first ∷ []) course.line.participant (StatsRead index counted)
      (record {
        earlier = before;
        course = course;
        later = later;
        first = first;
        rest = rest;
        lines = lines;
        trace = trace;
        its = refl;
        until = refl;
      })

  entries_there : (before : List Course) (course : Course) (later : List Course) (first rest : List Done) (done : Done) (counted : Counted)
      → whole ≡ before ++ course ∷ later → course.trace ≡ first ++ done ∷ rest → counted_read index done ≡ Some counted
      → counted.entries ≡ left index (before ++ at course first ∷ [])
  entries_there before course later first rest done counted lines trace reads =
      ap (λ (counted : Counted). counted.entries)
      (read_there before course later first rest counted lines
      (trace ∙ ap (λ (done : Done). first ++ done ∷ rest) (read_is index done counted reads)))

  pub stats_rise : (who : ℕ) → Rises (left index []) (left index whole)
      (map (λ (counted : Counted). counted.entries) (filter_map (counted_read index) (trace_of (courses_of who whole))))
  stats_rise who =
      lines_rise index (counted_read index) (λ (counted : Counted). counted.entries) whole entries_there who [] whole refl

-- what holds of all that lines read
module _ (index : ℕ) (P : Counted → Type 0) (whole : List Course)
    (each : (before : List Course) (course : Course) (later : List Course) (first rest : List Done) (counted : Counted)
    → whole ≡ before ++ course ∷ later → course.trace ≡ first ++ StatsRead index counted ∷ rest → P counted) where
  pub all_stats : (who : ℕ) → All P (filter_map (counted_read index) (trace_of (courses_of who whole)))
  all_stats who =
      all_picked (counted_read index) P whole
      (λ before course later first rest done counted lines trace reads.
      each before course later first rest counted lines
      (trace ∙ ap (λ (done : Done). first ++ done ∷ rest) (read_is index done counted reads))) who [] whole refl
