-- Where lines are done one after another, the names that a participant is handed are fronts of those at the end and never grow shorter, and these have
-- the changes of the lines and no others.
use Rattle.std.proofs.Common.{◌≡◌, ◌∙◌, ◌==◌, ℕ, ◌<◌, Bool, true, false, cond, List, [], ◌∷◌, ◌++◌, append-nil, append_assoc, refl, sym, ap, subst}
use Rattle.std.specs.List.{AllByRecursion, filter_map}
use Rattle.std.specs.List.Sorted.{IsPermutation}
use Rattle.std.proofs.lemmas.List.Elements.{recursion_from_All}
use Rattle.hp_proc.specs.Doing.{Done}
use Rattle.hp_proc.specs.Doing.Done.{NamesRead}
use Rattle.hp_proc.specs.Handed.{AreNamesHanded, names_shown}
use Rattle.hp_proc.specs.LinesDone.{Course, courses_of, trace_of}
use Rattle.hp_proc.specs.NamesLog.{change_made, changes_in, changes_made}
use Rattle.hp_proc.specs.OneThread.{names_by}
use Rattle.hp_proc.specs.SharedNames.{SharedNames, no_changes}
use Rattle.hp_script.specs.declared.workload.Workload.{Workload}
use Rattle.hp_weave.specs.Holds.{Chain, Hold}
use Rattle.thm_run.proofs.CountedReads.NewestRead.{all_split}
use Rattle.thm_run.proofs.NamesAlong.{names_more}
use Rattle.thm_run.proofs.NamesEnd.LinesHeld.{all_few, held_by_all, held_for, lines_chain, own_held}
use Rattle.thm_run.proofs.NamesEnd.NamesChain.{AreOnward, GivesLater, HoldOnward, later_after, lines_onward, onward_handed, own_onward}
use Rattle.thm_run.proofs.NamesEnd.NamesChanged.{changes_are_made}
use Rattle.thm_run.proofs.PickedFronts.{at}
use Rattle.thm_run.specs.Handing.{AreOfLinesBefore, ReadsFirst}

-- what a hold of a line gives goes on from what it takes
held_later : (who : ℕ) (trace : List Done) (holds : List (Hold SharedNames)) → AllByRecursion GivesLater holds
    → AllByRecursion GivesLater (held_for who trace ++ holds)
held_later who [] holds all = all
held_later who (NamesRead names ∷ rest) holds all = (later_after names (filter_map change_made rest), all)
held_later who (_ ∷ rest) holds all = all

all_later : (courses : List Course) → AllByRecursion GivesLater (held_by_all courses)
all_later [] = tt
all_later (course ∷ courses) = held_later course.line.participant course.trace (held_by_all courses) (all_later courses)

own_first : (who : ℕ) (courses : List Course) → AllByRecursion (λ course. ReadsFirst course.trace) courses
    → AllByRecursion (λ course. ReadsFirst course.trace) (courses_of who courses)
own_first who [] all = tt
own_first who (course ∷ courses) all = by_owner (course.line.participant == who) (own_first who courses all.1)
  where
    by_owner : (own : Bool) → AllByRecursion (λ course. ReadsFirst course.trace) (courses_of who courses)
        → AllByRecursion (λ course. ReadsFirst course.trace) (cond own (course ∷ courses_of who courses) (courses_of who courses))
    by_owner true rest = (all.0, rest)
    by_owner false rest = rest

module _ (workload : Workload) (whole : List Course) (are : AreOfLinesBefore workload whole) where
  read_is : (front : List Course) (course : Course) (later : List Course) (names : SharedNames) (rest : List Done)
      → whole ≡ front ++ course ∷ later → course.trace ≡ NamesRead names ∷ rest → names ≡ names_by front
  read_is front course later names rest lines trace =
      are.handed (front ++ at course [] ∷ []) course.line.participant (NamesRead names)
      (record {
        earlier = front;
        course = course;
        later = later;
        first = [];
        rest = rest;
        lines = lines;
        trace = trace;
        its = refl;
        until = refl;
      })
      ∙ names_more front (at course [])

  all_first : AllByRecursion (λ course. ReadsFirst course.trace) whole
  all_first = recursion_from_All (λ (course : Course). ReadsFirst course.trace) whole are.reads

  -- lines in the midst of all of them are a chain
  module _ (before courses behind : List Course) (lines : whole ≡ before ++ (courses ++ behind)) where
    first_here : AllByRecursion (λ course. ReadsFirst course.trace) courses
    first_here =
        (all_split (λ (course : Course). ReadsFirst course.trace) courses behind
        (all_split (λ (course : Course). ReadsFirst course.trace) before (courses ++ behind)
        (subst (AllByRecursion (λ course. ReadsFirst course.trace)) lines all_first)).1).0

    chain : Chain (names_by before) (held_by_all courses) (names_by (before ++ courses))
    chain =
        lines_chain (names_by (before ++ courses)) before courses refl first_here
        (λ front course later names rest is trace.
        read_is front course (later ++ behind) names rest
        (lines
        ∙ sym (append_assoc before courses behind)
        ∙ ap (λ (courses : List Course). courses ++ behind) is
        ∙ append_assoc front (course ∷ later) behind) trace)

    pub lines_show : (who : ℕ) (known : SharedNames)
        → AreOnward (names_by before) (names_shown known (trace_of (courses_of who courses))) (names_by (before ++ courses))
    lines_show who known =
        lines_onward (names_by (before ++ courses)) who (courses_of who courses) (names_by before) known (own_first who courses first_here)
        (subst (λ (holds : List (Hold SharedNames)). HoldOnward (names_by before) holds (names_by (before ++ courses))) (own_held who courses)
        (own_onward (names_by before) (held_by_all courses) (names_by (before ++ courses)) chain (all_later courses) who))

  all_lines : whole ≡ [] ++ (whole ++ [])
  all_lines = sym (append-nil whole)

  -- what a participant is handed
  pub names_handed : (who : ℕ) → AreNamesHanded (names_by whole) (names_shown no_changes (trace_of (courses_of who whole)))
  names_handed who =
      onward_handed (names_shown no_changes (trace_of (courses_of who whole))) (names_by whole) (lines_show [] whole [] all_lines who no_changes)

  -- and whose changes there are
  pub names_made : AllByRecursion (λ course. course.line.participant < workload.participants) whole
      → IsPermutation (changes_made workload.participants (λ who. trace_of (courses_of who whole))) (changes_in (names_by whole))
  names_made few =
      changes_are_made workload.participants (λ who. courses_of who whole) (held_by_all whole) (names_by whole) (chain [] whole [] all_lines)
      (all_later whole) (all_few workload.participants whole few) (λ who. own_held who whole) (λ who. own_first who whole all_first)
