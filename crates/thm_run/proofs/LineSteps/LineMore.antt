-- What one line more adds to the lines of its participant: to their trace, its calls, their entries and what was asked, and to what is
-- known; and that it leaves those of the others.
use Rattle.std.proofs.Common.{◌≡◌, ◌≢◌, ◌∙◌, ◌==◌, ℕ, ◌+◌, ne_eqb, List, [], ◌∷◌, ◌++◌, append-nil, length, refl, ap, sym, subst, arith}
use Rattle.std.proofs.lemmas.Bool.{cond-false, cond-true, eq-eqb}
use Rattle.std.proofs.lemmas.List.Elements.{filter-append}
use Rattle.std.proofs.lemmas.Grind.{flat_map-append}
use Rattle.std.proofs.lemmas.List.{length-append}
use Rattle.std.specs.Prelude.{slice_index}
use Rattle.hp_heap.specs.declared.entry.Entry.{Entry}
use Rattle.hp_log.specs.declared.log_record.LogRecord.{LogRecord}
use Rattle.hp_script.specs.declared.workload.Workload.{Workload}
use Rattle.hp_script.specs.declared.line.Line.{Line}
use Rattle.hp_segs.specs.declared.outcome.AskLog.{AskLog}
use Rattle.hp_proc.specs.Contexts.{AreFactsOf, Context, after_calls}
use Rattle.hp_proc.specs.Courses.{AreFacts, OwnCall, Standing, after_line, calls_in, heap_of_element, maker_for, name_meant}
use Rattle.hp_proc.specs.Doing.{Done}
use Rattle.hp_proc.specs.Lines.{Facts}
use Rattle.hp_proc.specs.LinesDone.{AreDone, Course, IsDone, courses_of, opening_standing, standing_after, trace_of}
use Rattle.hp_proc.proofs.Joining.{all_asked_stay, calls_on}
use Rattle.hp_proc.specs.Acting.{AreAsked}
use Rattle.hp_proc.specs.Histories.{entries_for}
use Rattle.hp_proc.proofs.LawLemmas.{entries_go_on}
use Rattle.thm_run.specs.SoFar.{context_of, trace_for}

-- the entries of a participant that made calls before
pub entries_more : (me who heap calls : ℕ) (own more all : List OwnCall) (old new : List Entry) → me ≡ who → calls ≡ length own
    → old ≡ entries_for who heap 1 own → new ≡ old ++ entries_for me heap (calls + 1) more → all ≡ own ++ more
    → new ≡ entries_for who heap 1 all
entries_more me who heap calls own more all old new same count before goes whole =
    let number : calls + 1 ≡ 1 + length own = omega (arith, count) in
    goes
    ∙ ap (λ (entries : List Entry). entries ++ entries_for me heap (calls + 1) more) before
    ∙ ap (λ (one : ℕ). entries_for who heap 1 own ++ entries_for one heap (calls + 1) more) same
    ∙ ap (λ (first : ℕ). entries_for who heap 1 own ++ entries_for who heap first more) number
    ∙ sym (entries_go_on who heap 1 own more)
    ∙ ap (λ (calls : List OwnCall). entries_for who heap 1 calls) (sym whole)

-- what was asked has its answer by a longer log and more outcomes
pub asked_later : (log more later : List LogRecord) (asks others heard : List AskLog) (who before after : ℕ) (trace : List Done)
    → later ≡ log ++ more → heard ≡ asks ++ others → AreAsked log asks who before after trace → AreAsked later heard who before after trace
asked_later log more later asks others heard who before after trace grown logged asked =
    subst (λ (records : List LogRecord). AreAsked records heard who before after trace) (sym grown)
    (subst (λ (outcomes : List AskLog). AreAsked (log ++ more) outcomes who before after trace) (sym logged)
    (all_asked_stay log more asks others who before after trace asked))

-- its trace follows those of the others
pub trace_more : (courses : List Course) (course : Course) → trace_of (courses ++ course ∷ []) ≡ trace_of courses ++ course.trace
trace_more courses course =
    flat_map-append (λ (course : Course). course.trace) courses (course ∷ [])
    ∙ ap (λ (trace : List Done). trace_of courses ++ trace) (append-nil course.trace)

-- and so do its calls
pub calls_more : (courses : List Course) (course : Course)
    → calls_in (trace_of (courses ++ course ∷ [])) ≡ calls_in (trace_of courses) ++ calls_in course.trace
calls_more courses course = ap calls_in (trace_more courses course) ∙ calls_on (trace_of courses) course.trace

pub standing_more : (standing : Standing) (courses : List Course) (course : Course) → standing_after standing (courses ++ course ∷ [])
    ≡ after_line course.line course.answer course.trace (standing_after standing courses)
standing_more standing [] course = refl
standing_more standing (first ∷ courses) course =
    standing_more (after_line first.line first.answer first.trace standing) courses course

-- it is done, and so are all
pub done_more : (workload : Workload) (standing : Standing) (courses : List Course) (course : Course) → AreDone workload standing courses
    → IsDone workload (standing_after standing courses) course → AreDone workload standing (courses ++ course ∷ [])
done_more workload standing [] course done more = (more, tt)
done_more workload standing (first ∷ courses) course done more =
    (done.0, done_more workload (after_line first.line first.answer first.trace standing) courses course done.1 more)

-- what is known when a participant's line begins
pub known_next : (workload : Workload) (who : ℕ) (courses : List Course) (socket : ℕ) (context : Context) (line : Line) (facts : Facts)
    → socket ≡ slice_index workload.sockets who → context ≡ context_of workload who courses → line.participant ≡ who
    → AreFactsOf socket context line facts
    → AreFacts workload (standing_after (opening_standing workload who) (courses_of who courses)) line facts
known_next workload who courses socket context line facts its is own known = record {
  attached = known.attached ∙ ap (λ (context : Context). context.standing.attached) is;
  own_socket = known.own_socket ∙ its ∙ ap (λ (who : ℕ). slice_index workload.sockets who) (sym own);
  pools = known.pools ∙ ap (λ (context : Context). context.pools) is;
  request = known.request;
  maker = known.maker ∙ ap (λ (context : Context). maker_for context.lines (name_meant line.act)) is;
  own_heap = known.own_heap ∙ ap (λ (context : Context). heap_of_element context.pools context.standing.elements facts.maker) is;
  chunks = known.chunks ∙ ap (λ (context : Context). context.standing.chunks) is;
  watchers = known.watchers ∙ ap (λ (context : Context). context.standing.watchers) is;
  validators = known.validators ∙ ap (λ (context : Context). context.standing.validators) is;
}

-- the lines of one participant, with one more of it
pub own_courses : (who : ℕ) (courses : List Course) (course : Course) → course.line.participant ≡ who
    → courses_of who (courses ++ course ∷ []) ≡ courses_of who courses ++ course ∷ []
own_courses who courses course own =
    filter-append (λ (course : Course). course.line.participant == who) courses (course ∷ [])
    ∙ ap (λ (more : List Course). courses_of who courses ++ more)
    (cond-true (course.line.participant == who) (course ∷ []) [] (eq-eqb course.line.participant who own))

-- and with one of another
pub other_courses : (who : ℕ) (courses : List Course) (course : Course) → who ≢ course.line.participant
    → courses_of who (courses ++ course ∷ []) ≡ courses_of who courses
other_courses who courses course other =
    filter-append (λ (course : Course). course.line.participant == who) courses (course ∷ [])
    ∙ ap (λ (more : List Course). courses_of who courses ++ more)
    (cond-false (course.line.participant == who) (course ∷ []) []
    (ne_eqb course.line.participant who (λ same. other (sym same))))
    ∙ append-nil (courses_of who courses)

module _ (workload : Workload) (who : ℕ) (courses : List Course) (course : Course) (own : course.line.participant ≡ who) where
  abbrev more : List Course
  more = courses ++ course ∷ []

  -- its trace, its calls, and what its lines left
  pub own_trace : trace_for who more ≡ trace_for who courses ++ course.trace
  own_trace = ap trace_of (own_courses who courses course own) ∙ trace_more (courses_of who courses) course

  pub own_calls : calls_in (trace_for who more) ≡ calls_in (trace_for who courses) ++ calls_in course.trace
  own_calls = ap calls_in own_trace ∙ calls_on (trace_for who courses) course.trace

  pub own_standing : standing_after (opening_standing workload who) (courses_of who more)
      ≡ after_line course.line course.answer course.trace (standing_after (opening_standing workload who) (courses_of who courses))
  own_standing =
      ap (standing_after (opening_standing workload who)) (own_courses who courses course own)
      ∙ standing_more (opening_standing workload who) (courses_of who courses) course

  -- what is known after it
  pub context_more : (old new : Context) → old ≡ context_of workload who courses
      → new ≡ record (after_calls (length (calls_in course.trace)) old) { standing = new.standing }
      → new.standing ≡ after_line course.line course.answer course.trace old.standing → new ≡ context_of workload who more
  context_more old new is counted left =
      let standing : new.standing ≡ standing_after (opening_standing workload who) (courses_of who more) =
      left
      ∙ ap (λ (context : Context). after_line course.line course.answer course.trace context.standing) is
      ∙ sym own_standing in
      let calls : length (calls_in (trace_for who courses)) + length (calls_in course.trace) ≡ length (calls_in (trace_for who more)) =
      sym (ap (λ (calls : List OwnCall). length calls) own_calls
      ∙ length-append (calls_in (trace_for who courses)) (calls_in course.trace)) in
      counted
      ∙ ap (λ (context : Context). record (after_calls (length (calls_in course.trace)) context) { standing = new.standing }) is
      ∙ ap (λ (standing : Standing). record (context_of workload who courses) {
        standing = standing;
        calls = length (calls_in (trace_for who courses)) + length (calls_in course.trace);
      }) standing
      ∙ ap (λ (count : ℕ). record (context_of workload who more) { calls = count }) calls

-- another's line leaves what a participant knows
pub context_stays : (workload : Workload) (who : ℕ) (courses : List Course) (course : Course) → who ≢ course.line.participant
    → context_of workload who (courses ++ course ∷ []) ≡ context_of workload who courses
context_stays workload who courses course other =
    ap (λ (lines : List Course). record {
      pools = workload.pools.items;
      lines = workload.lines.items;
      standing = standing_after (opening_standing workload who) lines;
      calls = length (calls_in (trace_of lines));
    }) (other_courses who courses course other)
