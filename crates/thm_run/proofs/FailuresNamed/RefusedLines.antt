-- Lines that map pages and are refused, by the calls of a participant's mapper: each shows its call in what was done for the participant's
-- lines, and where these calls rise no two show one call.
use Rattle.std.proofs.Common.{◌≡◌, ◌∙◌, ◌==◌, ◌⊎◌, ℕ, zero, suc, ◌<◌, true, false, List, [], ◌∷◌, ◌++◌, length, get_or, Some, inl, inr, refl, ap, sym, subst, arith, eq-eqb}
use Rattle.std.specs.Prelude.{Contains, cond, slice_get, slice_index}
use Rattle.std.specs.List.Sorted.{IsStrictlyIncreasing}
use Rattle.std.proofs.lemmas.Bool.{cases_Bool}
use Rattle.std.proofs.lemmas.Grind.{get_or_default_zero}
use Rattle.std.proofs.lemmas.List.Elements.{Contains-append_left, Contains-append_right}
use Rattle.std.proofs.lemmas.List.Kept.{AllPairs-from_increasing}
use Rattle.hp_heap.proofs.AllocFacts.ChoiceLaw.{Contains-here}
use Rattle.hp_script.specs.declared.answer.Answer.{Answer}
use Rattle.hp_script.specs.declared.workload.Workload.{Workload}
use Rattle.hp_proc.specs.LineTrees.{doing_of}
use Rattle.hp_proc.specs.Courses.{Standing, after_line}
use Rattle.hp_proc.specs.Doing.{Doing, Leads}
use Rattle.hp_proc.specs.LinesDone.{AreDone, Course, IsDone, courses_of, trace_of}
use Rattle.hp_proc.specs.Handed.{calls_failed}
use Rattle.thm_run.specs.EndLaws.{IsRefusedMapping}
use Rattle.thm_run.specs.SoFar.{trace_for}
use Rattle.thm_run.proofs.FailuresNamed.MapsRefused.{mapping_refused}
use Rattle.thm_run.proofs.FailuresNamed.RefusedCalls.{refusals_both}

-- what was done for a participant's lines, with one more before them: one of its own, or another's
trace_own : (who : ℕ) (course : Course) (courses : List Course) → (course.line.participant == who) ≡ true
    → courses_of who (course ∷ courses) ≡ course ∷ courses_of who courses
trace_own who course courses own = ap (λ own. cond own (course ∷ courses_of who courses) (courses_of who courses)) own

trace_other : (who : ℕ) (course : Course) (courses : List Course) → (course.line.participant == who) ≡ false
    → courses_of who (course ∷ courses) ≡ courses_of who courses
trace_other who course courses other = ap (λ own. cond own (course ∷ courses_of who courses) (courses_of who courses)) other

-- numbers rise, wherever they stand
abbrev Rises : List ℕ → Type 0
Rises xs = (i j : ℕ) → i < j → j < length xs → slice_index xs i < slice_index xs j

rises_behind : (xs ys : List ℕ) → Rises (xs ++ ys) → Rises ys
rises_behind [] ys rise = rise
rises_behind (x ∷ xs) ys rise =
    rises_behind xs ys (λ i j before within. rise (suc i) (suc j) (omega (arith, before)) (omega (arith, within)))

-- the first of them stands nowhere after
not_behind : (x : ℕ) (xs : List ℕ) → Rises (x ∷ xs) → Contains xs x → ⊥
not_behind x xs rise (place, within, is) =
    let above : x < slice_index xs place = rise 0 (suc place) (omega arith) (omega (arith, within)) in
    let same : get_or xs place x ≡ get_or xs place 0 = get_or_default_zero xs place x within in
    omega (arith, above, is, same)

-- of numbers that rise strictly from one to the next each rises above all before it
rise_from : (xs : List ℕ) → IsStrictlyIncreasing xs → Rises xs
rise_from xs rising i j before within = AllPairs-from_increasing xs rising i j 0 before within

module _ (workload : Workload) (who call : ℕ) where
  -- a line that maps pages and is refused shows that call alone
  shows_call : (standing : Standing) (course : Course) → IsDone workload standing course → IsRefusedMapping who call course
      → calls_failed course.trace ≡ call ∷ []
  shows_call standing course done refused =
      mapping_refused course.line course.line.act done.facts call course.trace refused.maps
      (subst (λ (given : Answer). Leads (doing_of course.line course.line.act done.facts) course.trace (Doing.Ended given)) refused.answer
      done.does)

  is_own : (course : Course) → IsRefusedMapping who call course → (course.line.participant == who) ≡ true
  is_own course refused = eq-eqb course.line.participant who refused.who

  -- each such line shows its call in what was done for the participant's lines
  pub shows_in : (standing : Standing) (courses : List Course) → AreDone workload standing (courses_of who courses) → (place : ℕ)
      (course : Course) → slice_get courses place ≡ Some course → IsRefusedMapping who call course
      → Contains (calls_failed (trace_for who courses)) call
  shows_in standing [] done place course here refused = cc
  shows_in standing (first ∷ courses) done place course here refused =
      by_whose (λ standing done place there. shows_in standing courses done place course there refused)
      (cases_Bool (first.line.participant == who))
    where
      own_first : ((standing : Standing) → AreDone workload standing (courses_of who courses) → (place : ℕ)
          → slice_get courses place ≡ Some course
          → Contains (calls_failed (trace_for who courses)) call) → (own : (first.line.participant == who) ≡ true)
          → (place : ℕ) → slice_get (first ∷ courses) place ≡ Some course
          → Contains (calls_failed (first.trace ++ trace_for who courses)) call
      own_first further own zero at_first =
          let same : first ≡ course = cc in
          let both : AreDone workload standing (first ∷ courses_of who courses) =
          subst (AreDone workload standing) (trace_own who first courses own) done in
          let shown : calls_failed first.trace ≡ call ∷ [] =
          shows_call standing first both.0 (subst (IsRefusedMapping who call) (sym same) refused) in
          subst (λ calls. Contains calls call) (sym (refusals_both first.trace (trace_for who courses)))
          (Contains-append_left (calls_failed first.trace) (calls_failed (trace_for who courses)) call
          (subst (λ calls. Contains calls call) (sym shown) (Contains-here call [])))
      own_first further own (suc place) later =
          let both : AreDone workload standing (first ∷ courses_of who courses) =
          subst (AreDone workload standing) (trace_own who first courses own) done in
          subst (λ calls. Contains calls call) (sym (refusals_both first.trace (trace_for who courses)))
          (Contains-append_right (calls_failed first.trace) (calls_failed (trace_for who courses)) call
          (further (after_line first.line first.answer first.trace standing) both.1 place later))

      other_first : ((standing : Standing) → AreDone workload standing (courses_of who courses) → (place : ℕ)
          → slice_get courses place ≡ Some course
          → Contains (calls_failed (trace_for who courses)) call) → (other : (first.line.participant == who) ≡ false)
          → (place : ℕ) → slice_get (first ∷ courses) place ≡ Some course
          → Contains (calls_failed (trace_for who courses)) call
      other_first further other zero at_first =
          let same : first ≡ course = cc in
          let wrong : true ≡ false = sym (is_own first (subst (IsRefusedMapping who call) (sym same) refused)) ∙ other in
          cc
      other_first further other (suc place) later =
          further standing (subst (AreDone workload standing) (trace_other who first courses other) done) place later

      by_whose : ((standing : Standing) → AreDone workload standing (courses_of who courses) → (place : ℕ)
          → slice_get courses place ≡ Some course
          → Contains (calls_failed (trace_for who courses)) call)
          → ((first.line.participant == who) ≡ true) ⊎ ((first.line.participant == who) ≡ false)
          → Contains (calls_failed (trace_for who (first ∷ courses))) call
      by_whose further (inl own) =
          subst (λ lines. Contains (calls_failed (trace_of lines)) call) (sym (trace_own who first courses own))
          (own_first further own place here)
      by_whose further (inr other) =
          subst (λ lines. Contains (calls_failed (trace_of lines)) call) (sym (trace_other who first courses other))
          (other_first further other place here)

  -- where the calls rise, two such lines of one call are one line
  lines_same : (standing : Standing) (courses : List Course) → AreDone workload standing (courses_of who courses)
      → Rises (calls_failed (trace_for who courses)) → (place other : ℕ) (course second : Course) → slice_get courses place ≡ Some course
      → slice_get courses other ≡ Some second → IsRefusedMapping who call course → IsRefusedMapping who call second → place ≡ other
  lines_same standing [] done rise place other course second here there refused too = cc
  lines_same standing (first ∷ courses) done rise place other course second here there refused too =
      by_whose
      (λ standing done rise place other here there. lines_same standing courses done rise place other course second here there refused too)
      (cases_Bool (first.line.participant == who))
    where
      -- a line that shows the call stands first, and another one after it
      never : (own : (first.line.participant == who) ≡ true) → IsRefusedMapping who call first → (behind : ℕ) (one : Course)
          → slice_get courses behind ≡ Some one → IsRefusedMapping who call one → ⊥
      never own its behind one at_one refused =
          let both : AreDone workload standing (first ∷ courses_of who courses) =
          subst (AreDone workload standing) (trace_own who first courses own) done in
          let calls : calls_failed (trace_for who (first ∷ courses)) ≡ call ∷ calls_failed (trace_for who courses) =
          ap (λ lines. calls_failed (trace_of lines)) (trace_own who first courses own)
          ∙ (refusals_both first.trace (trace_for who courses)
          ∙ ap (λ calls. calls ++ calls_failed (trace_for who courses)) (shows_call standing first both.0 its)) in
          not_behind call (calls_failed (trace_for who courses)) (subst Rises calls rise)
          (shows_in (after_line first.line first.answer first.trace standing) courses both.1 behind one at_one refused)

      own_first : ((standing : Standing) → AreDone workload standing (courses_of who courses) → Rises (calls_failed (trace_for who courses))
          → (place other : ℕ) → slice_get courses place ≡ Some course → slice_get courses other ≡ Some second → place ≡ other)
          → (own : (first.line.participant == who) ≡ true) → (place other : ℕ) → slice_get (first ∷ courses) place ≡ Some course
          → slice_get (first ∷ courses) other ≡ Some second → place ≡ other
      own_first further own zero zero at_one at_other = refl
      own_first further own zero (suc other) at_one at_other =
          let same : first ≡ course = cc in
          absurd (never own (subst (IsRefusedMapping who call) (sym same) refused) other second at_other too)
      own_first further own (suc place) zero at_one at_other =
          let same : first ≡ second = cc in
          absurd (never own (subst (IsRefusedMapping who call) (sym same) too) place course at_one refused)
      own_first further own (suc place) (suc other) at_one at_other =
          let both : AreDone workload standing (first ∷ courses_of who courses) =
          subst (AreDone workload standing) (trace_own who first courses own) done in
          let calls : calls_failed (trace_for who (first ∷ courses)) ≡ calls_failed first.trace ++ calls_failed (trace_for who courses) =
          ap (λ lines. calls_failed (trace_of lines)) (trace_own who first courses own)
          ∙ refusals_both first.trace (trace_for who courses) in
          ap suc
          (further (after_line first.line first.answer first.trace standing) both.1
          (rises_behind (calls_failed first.trace) (calls_failed (trace_for who courses))
          (subst Rises calls rise)) place other at_one at_other)

      not_its : (other : (first.line.participant == who) ≡ false) → IsRefusedMapping who call first → ⊥
      not_its other its =
          let wrong : true ≡ false = sym (is_own first its) ∙ other in
          cc

      other_first : ((standing : Standing) → AreDone workload standing (courses_of who courses)
          → Rises (calls_failed (trace_for who courses))
          → (place other : ℕ) → slice_get courses place ≡ Some course → slice_get courses other ≡ Some second → place ≡ other)
          → (apart : (first.line.participant == who) ≡ false) → (place other : ℕ) → slice_get (first ∷ courses) place ≡ Some course
          → slice_get (first ∷ courses) other ≡ Some second → place ≡ other
      other_first further apart zero other at_one at_other =
          let same : first ≡ course = cc in
          absurd (not_its apart (subst (IsRefusedMapping who call) (sym same) refused))
      other_first further apart (suc place) zero at_one at_other =
          let same : first ≡ second = cc in
          absurd (not_its apart (subst (IsRefusedMapping who call) (sym same) too))
      other_first further apart (suc place) (suc other) at_one at_other =
          ap suc
          (further standing (subst (AreDone workload standing) (trace_other who first courses apart) done)
          (subst Rises (ap (λ lines. calls_failed (trace_of lines)) (trace_other who first courses apart)) rise) place other at_one at_other)

      by_whose : ((standing : Standing) → AreDone workload standing (courses_of who courses) → Rises (calls_failed (trace_for who courses))
          → (place other : ℕ) → slice_get courses place ≡ Some course → slice_get courses other ≡ Some second → place ≡ other)
          → ((first.line.participant == who) ≡ true) ⊎ ((first.line.participant == who) ≡ false) → place ≡ other
      by_whose further (inl own) = own_first further own place other here there
      by_whose further (inr apart) = other_first further apart place other here there

  pub places_same : (standing : Standing) (courses : List Course) → AreDone workload standing (courses_of who courses)
      → IsStrictlyIncreasing (calls_failed (trace_for who courses)) → (place other : ℕ) (course second : Course)
      → slice_get courses place ≡ Some course → slice_get courses other ≡ Some second → IsRefusedMapping who call course
      → IsRefusedMapping who call second → place ≡ other
  places_same standing courses done rising place other course second here there refused too =
      lines_same standing courses done (rise_from (calls_failed (trace_for who courses)) rising) place other course second here there refused
      too
