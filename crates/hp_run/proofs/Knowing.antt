-- What each participant knows of its lines: before the first one, and after one line more.
use Rattle.std.proofs.Common.{◌≡◌, ◌≢◌, ◌∙◌, ℕ, ◌+◌, ◌<◌, ◌≤◌, ◌++◌, ⊎_elim, Bool, List, [], ◌∷◌, length, set, Option, Some, None, sym, ap, subst, arith}
use Rattle.std.specs.List.{slice_get}
use Rattle.std.proofs.lemmas.Bool.{cases_eq, cases_lt}
use Rattle.std.proofs.lemmas.Option.{slice_get_within}
use Rattle.hp_plain.proofs.Slotted.{slice_get-set_other, slice_get-set_same}
use Rattle.hp_segs.specs.Opening.{is_present}
use Rattle.hp_segs.proofs.SlotFacts.ListFacts.{get_pushed, get_stays}
use Rattle.hp_script.specs.declared.workload.Workload.{Workload}
use Rattle.hp_proc.specs.Contexts.{Context, opening_context}
use Rattle.hp_proc.specs.Courses.{calls_in}
use Rattle.hp_proc.specs.LinesDone.{Course, opening_standing, standing_after, trace_of}
use Rattle.hp_proc.specs.ParticipantView.{knowing}
use Rattle.thm_run.specs.EndLaws.{said_in}
use Rattle.thm_run.proofs.SeatFacts.FirstSegs.{present_declared}
use Rattle.thm_run.proofs.LineSteps.LineMore.{other_courses}
use Rattle.hp_run.specs.Running.{KnowSoFar, taken_along}

-- what one knows that has done no line
pub opened_context : (workload : Workload) (who : ℕ) → who < workload.participants
    → opening_context (said_in workload) (is_present workload.participants workload.absent who) ≡ taken_along workload who []
opened_context workload who below =
    ap (λ (attached : Bool). opening_context (said_in workload) attached)
    (present_declared workload.participants workload.absent who below)

-- and one more of those who have done no line
pub know_push : (workload : Workload) (contexts : List (Option Context)) (n : ℕ) (context : Context) → length contexts ≡ n
    → context ≡ taken_along workload n []
    → ((who : ℕ) → who < n → slice_get contexts who ≡ Some (Some (taken_along workload who [])))
    → (who : ℕ) → who < n + 1 → slice_get (contexts ++ Some context ∷ []) who ≡ Some (Some (taken_along workload who []))
know_push workload contexts n context long is knows who below =
    ⊎_elim
    (λ (before : who < n). get_stays contexts (Some context ∷ []) who (Some (taken_along workload who [])) (knows who before))
    (λ (last : n ≤ who).
    let same : who ≡ n = omega (arith, below, last) in
    subst (λ (k : ℕ). slice_get (contexts ++ Some context ∷ []) k ≡ Some (Some (taken_along workload k []))) (sym same)
    (subst (λ (k : ℕ). slice_get (contexts ++ Some context ∷ []) k ≡ Some (Some context)) long (get_pushed contexts (Some context))
    ∙ ap (λ (context : Context). Some (Some context)) is))
    (cases_lt who n)

-- a line of somebody else leaves what one knows
knows_still : (workload : Workload) (who : ℕ) (courses : List Course) (course : Course) → who ≢ course.line.participant
    → taken_along workload who (courses ++ course ∷ []) ≡ taken_along workload who courses
knows_still workload who courses course differ =
    ap (λ (own : List Course). knowing [] [] (record {
      pools = workload.pools.items;
      lines = workload.lines.items;
      standing = standing_after (opening_standing workload who) own;
      calls = length (calls_in (trace_of own));
    })) (other_courses who courses course differ)

-- who did a line took along what it knew, and brought back what it knows now
pub know_more : (workload : Workload) (courses : List Course) (course : Course) (before : List (Option Context)) (after : Context)
    → course.line.participant < workload.participants → KnowSoFar workload courses before
    → after ≡ taken_along workload course.line.participant (courses ++ course ∷ [])
    → KnowSoFar workload (courses ++ course ∷ [])
    (set (set before course.line.participant None) course.line.participant (Some after))
know_more workload courses course before after declared know knows = λ who below.
    let me : ℕ = course.line.participant in
    let more : List Course = courses ++ course ∷ [] in
    let gone : List (Option Context) = set before me None in
    let back : List (Option Context) = set gone me (Some after) in
    let within : me < length before = slice_get_within before me (Some (taken_along workload me courses)) (know me declared) in
    let still : me < length gone = slice_get_within gone me None (slice_get-set_same before me None within) in
    ⊎_elim
    (λ (same : who ≡ me).
    subst (λ (n : ℕ). slice_get back n ≡ Some (Some (taken_along workload n more))) (sym same)
    (slice_get-set_same gone me (Some after) still ∙ ap (λ (context : Context). Some (Some context)) knows))
    (λ (differ : who ≢ me).
    slice_get-set_other gone me who (Some after) differ
    ∙ slice_get-set_other before me who None differ
    ∙ know who below
    ∙ ap (λ (context : Context). Some (Some context)) (sym (knows_still workload who courses course differ)))
    (cases_eq who me)
