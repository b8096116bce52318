-- The holds of the names that lines have: each takes what a line was handed, and gives back what the line's changes leave of that. Where lines are done
-- one after another they are a chain, from no change on to what all lines leave.
use Rattle.std.proofs.Common.{◌≡◌, ◌∙◌, ◌==◌, ℕ, ◌<◌, Bool, true, false, cond, List, [], ◌∷◌, ◌++◌, append-nil, append_assoc, flat_map, refl, sym, ap, subst}
use Rattle.std.specs.List.{AllByRecursion, filter_map, fold}
use Rattle.std.specs.Prelude.{⊤}
use Rattle.std.proofs.lemmas.Bool.{eqb-true}
use Rattle.hp_proc.specs.Doing.{Done}
use Rattle.hp_proc.specs.Doing.Done.{NamesRead}
use Rattle.hp_proc.specs.LinesDone.{Course, courses_of}
use Rattle.hp_proc.specs.NamesLog.{change_made}
use Rattle.hp_proc.specs.NamesOfLines.{names_after, names_read}
use Rattle.hp_proc.specs.OneThread.{names_by}
use Rattle.hp_proc.specs.SharedNames.{NamesChange, SharedNames, names_with}
use Rattle.hp_weave.specs.Holds.{Chain, Hold, holds_of}
use Rattle.thm_run.proofs.NamesAlong.{names_more}
use Rattle.thm_run.specs.Handing.{ReadsFirst}

-- the hold of a line that read the names, first of all, and no more
abbrev pub held_for : ℕ → List Done → List (Hold SharedNames)
held_for who [] = []
held_for who (NamesRead names ∷ rest) = record { who = who; taken = names; given = names_after names rest } ∷ []
held_for who (_ ∷ rest) = []

abbrev pub held_in : ℕ → List Course → List (Hold SharedNames)
held_in who courses = flat_map (λ course. held_for who course.trace) courses

pub unread_first : (trace : List Done) → names_read trace ≡ [] → filter_map change_made trace ≡ [] → ReadsFirst trace
unread_first [] none unchanged = tt
unread_first (NamesRead names ∷ rest) none unchanged = cc
unread_first (_ ∷ rest) none unchanged = (none, unchanged)

-- those of all lines, in their order
abbrev pub held_by_all : List Course → List (Hold SharedNames)
held_by_all courses = flat_map (λ course. held_for course.line.participant course.trace) courses

-- of one participant they are those of its lines
own_more : (who : ℕ) (course : Course) (holds : List (Hold SharedNames)) → holds_of who (held_for course.line.participant course.trace ++ holds)
    ≡ cond (course.line.participant == who) (held_for who course.trace ++ holds_of who holds) (holds_of who holds)
own_more who course holds = by_trace course.trace
  where
    none : (own : Bool) (holds : List (Hold SharedNames)) → holds ≡ cond own holds holds
    none true holds = refl
    none false holds = refl

    by_trace : (trace : List Done) → holds_of who (held_for course.line.participant trace ++ holds)
        ≡ cond (course.line.participant == who) (held_for who trace ++ holds_of who holds) (holds_of who holds)
    by_trace [] = none (course.line.participant == who) (holds_of who holds)
    by_trace (NamesRead names ∷ rest) = by_owner (course.line.participant == who) refl
      where
        by_owner : (own : Bool) → (course.line.participant == who) ≡ own
            → cond own (record { who = course.line.participant; taken = names; given = names_after names rest } ∷ holds_of who holds) (holds_of who holds)
            ≡ cond own (record { who = who; taken = names; given = names_after names rest } ∷ holds_of who holds) (holds_of who holds)
        by_owner true is =
            ap (λ (by : ℕ). record { who = by; taken = names; given = names_after names rest } ∷ holds_of who holds)
            (eqb-true course.line.participant who is)
        by_owner false is = refl
    by_trace (_ ∷ rest) = none (course.line.participant == who) (holds_of who holds)

pub own_held : (who : ℕ) (courses : List Course) → holds_of who (held_by_all courses) ≡ held_in who (courses_of who courses)
own_held who [] = refl
own_held who (course ∷ courses) =
    own_more who course (held_by_all courses) ∙ by_owner (course.line.participant == who) (own_held who courses)
  where
    by_owner : (own : Bool) → holds_of who (held_by_all courses) ≡ held_in who (courses_of who courses)
        → cond own (held_for who course.trace ++ holds_of who (held_by_all courses)) (holds_of who (held_by_all courses))
        ≡ held_in who (cond own (course ∷ courses_of who courses) (courses_of who courses))
    by_owner true rest = ap (λ (holds : List (Hold SharedNames)). held_for who course.trace ++ holds) rest
    by_owner false rest = rest

-- whoever they are of is declared
held_few : (who count : ℕ) (trace : List Done) (holds : List (Hold SharedNames)) → who < count → AllByRecursion (λ hold. hold.who < count) holds
    → AllByRecursion (λ hold. hold.who < count) (held_for who trace ++ holds)
held_few who count [] holds below all = all
held_few who count (NamesRead names ∷ rest) holds below all = (below, all)
held_few who count (_ ∷ rest) holds below all = all

pub all_few : (count : ℕ) (courses : List Course) → AllByRecursion (λ course. course.line.participant < count) courses
    → AllByRecursion (λ hold. hold.who < count) (held_by_all courses)
all_few count [] all = tt
all_few count (course ∷ courses) all =
    held_few course.line.participant count course.trace (held_by_all courses) all.0 (all_few count courses all.1)

-- what a line leaves of names is what its hold gives
module _ (high : SharedNames) where
  chain_on : (who : ℕ) (trace : List Done) (holds : List (Hold SharedNames)) (now : SharedNames) → ReadsFirst trace
      → ((names : SharedNames) (rest : List Done) → trace ≡ NamesRead names ∷ rest → names ≡ now) → Chain (names_after now trace) holds high
      → Chain now (held_for who trace ++ holds) high
  chain_on who [] holds now first reads chain = chain
  chain_on who (NamesRead names ∷ rest) holds now first reads chain =
      let same : names ≡ now = reads names rest refl in
      (same, subst (λ (names : SharedNames). Chain (names_after names rest) holds high) (sym same) chain)
  chain_on who (done ∷ rest) holds now first reads chain =
      subst (λ (changes : List NamesChange). Chain (fold names_with now changes) holds high) first.1 chain

  -- and so lines are a chain, each of which is handed what those before it leave
  pub lines_chain : (before courses : List Course) → names_by (before ++ courses) ≡ high
      → AllByRecursion (λ course. ReadsFirst course.trace) courses
      → ((front : List Course) (course : Course) (later : List Course) (names : SharedNames) (rest : List Done)
      → before ++ courses ≡ front ++ course ∷ later → course.trace ≡ NamesRead names ∷ rest → names ≡ names_by front)
      → Chain (names_by before) (held_by_all courses) high
  lines_chain before [] ends first reads = sym ends ∙ ap names_by (append-nil before)
  lines_chain before (course ∷ courses) ends first reads =
      let joined : (before ++ course ∷ []) ++ courses ≡ before ++ course ∷ courses = append_assoc before (course ∷ []) courses in
      chain_on course.line.participant course.trace (held_by_all courses) (names_by before) first.0
      (λ names rest trace. reads before course courses names rest refl trace)
      (subst (λ (names : SharedNames). Chain names (held_by_all courses) high) (names_more before course)
      (lines_chain (before ++ course ∷ []) courses (ap names_by joined ∙ ends) first.1
      (λ front one later names rest is trace. reads front one later names rest (sym joined ∙ is) trace)))
