-- By the steps of its thread a participant told only of lines that it had done, and at each await it looked up that the others' lines were done; and by
-- then each heap had the calls of its lines so far.
use Rattle.std.proofs.Common.{◌≡◌, ◌≢◌, ◌⊎◌, ◌∙◌, ℕ, zero, suc, ◌+◌, ◌<◌, ◌≤◌, List, [], ◌∷◌, ◌++◌, append-nil, append_assoc, drop, flat_map, length, length-append, take, Some, None, ⊎_elim, refl, ap, sym, subst, arith}
use Rattle.std.specs.List.{slice_get}
use Rattle.std.proofs.lemmas.Bool.{cases_lt}
use Rattle.std.proofs.lemmas.Grind.{flat_map-append}
use Rattle.std.proofs.lemmas.List.{drop-append-le, drop_at, take-append-le, take_at}
use Rattle.std.proofs.lemmas.Option.{same_Some, slice_get_within}
use Rattle.hp_base.specs.declared.limits.TheConstants.{MAX_DEADLINE}
use Rattle.hp_chair.specs.FoundEmptyLaws.{nothing_among, split_at}
use Rattle.hp_hall.specs.Mail.{MailStep, Notes}
use Rattle.hp_hall.specs.declared.note.Note.TheVariants.{LoadedDone, Stored}
use Rattle.hp_heap.specs.declared.entry.Entry.{Entry}
use Rattle.hp_proc.specs.Awaiting.{HasAwaited, LooksUpLast}
use Rattle.hp_proc.specs.Courses.{Standing, after_line, calls_in}
use Rattle.hp_proc.specs.Doing.{Doing, Done, Goes, Leads}
use Rattle.hp_proc.specs.Histories.{entries_for}
use Rattle.hp_proc.specs.Lines.{Facts}
use Rattle.hp_proc.specs.LineTrees.{doing_of}
use Rattle.hp_proc.specs.LinesDone.{AreDone, Course, IsDone, trace_of}
use Rattle.hp_proc.specs.ParticipantView.{ParticipantView, after_registering}
use Rattle.hp_proc.specs.SharedNames.{no_changes}
use Rattle.hp_script.specs.declared.answer.Answer.{Answer}
use Rattle.hp_script.specs.declared.line.Act.{Act}
use Rattle.hp_script.specs.declared.line.Act.TheVariants as act
use Rattle.hp_script.specs.declared.line.Line.{Line}
use Rattle.hp_script.specs.declared.workload.Workload.{Workload}
use Rattle.hp_segs.proofs.AskFacts.Settled.{get_before}
use Rattle.hp_segs.proofs.SlotFacts.ListFacts.{get_stays}
use Rattle.hp_threads.proofs.ServesUntold.{served_untold}
use Rattle.hp_threads.proofs.WaitsUntold.{acts_untold}
use Rattle.hp_threads.specs.Adding.{TellNothing}
use Rattle.hp_threads.specs.Works.{Works, tells}
use Rattle.thm_run.proofs.JudgedGrowths.Moments.{get_behind}
use Rattle.thm_run.proofs.LineSteps.LineMore.{trace_more}
use Rattle.thm_run.specs.OwnLines.{AddsByLines, WentByLines, added_in, heap_holds_from}
use Rattle.thm_run.specs.Seats.{Seat}
use Rattle.thm_together.proofs.OnTheWay.{line_on_its_way}
use Rattle.thm_together.specs.OnItsWay.{IsOnItsWay}
use Rattle.thm_home.proofs.BesideHeap.{added, added_then, held_after, holds_then}
use Rattle.thm_home.proofs.NamesSeen.{HasSeen, way_names}
use Rattle.thm_home.proofs.TakenByLines.{AreTakenBy, taken_both, taken_line, taken_none, taken_on}
use Rattle.thm_home.proofs.WaysCame.{way_came}
use Rattle.thm_home.proofs.WaysOfWorks.{AddsAmong, first_seat, line_adds, works_way}

-- WHAT STANDS AT A PLACE OF TWO LISTS

-- a note that is none of some steps stands after them
untold_note : (steps before after : List MailStep) (lines : ℕ) → TellNothing steps → steps ≡ before ++ Notes (Stored lines) ∷ after → ⊥
untold_note steps before after lines none is = later before (subst TellNothing is none)
  where
    later : (before : List MailStep) → TellNothing (before ++ Notes (Stored lines) ∷ after) → ⊥
    later [] none = none.0
    later (step ∷ before) none = later before none.1

-- in a list of one it is that one, and nothing stands before it
only_note : (lines told : ℕ) (before after : List MailStep) → tells lines ≡ before ++ Notes (Stored told) ∷ after → (before ≡ []) × (told ≡ lines)
only_note lines told [] after is = (refl, sym (note_same is))
  where
    number_in : List MailStep → ℕ
    number_in (Notes (Stored lines) ∷ steps) = lines
    number_in _ = 0

    note_same : tells lines ≡ Notes (Stored told) ∷ after → lines ≡ told
    note_same same = ap number_in same
only_note lines told (step ∷ []) after is = cc
only_note lines told (step ∷ (next ∷ before)) after is = cc

-- WHAT IT TOLD, AND LOOKED UP

module _ (count : ℕ) (first : ParticipantView) where
  -- by then it had gone its way by so many of its lines
  record HasGone (courses : List Course) (lines : ℕ) (steps : List MailStep) : Type 0 where
    early : List Course
    late : List Course
    courses_are : courses ≡ early ++ late
    many : length early ≡ lines
    seat : Seat
    way : WentByLines count first.party.me (first_seat first) seat early steps
    adds : AddsByLines way

  gone_more : (courses more : List Course) (lines : ℕ) (steps : List MailStep) → HasGone courses lines steps
      → HasGone (courses ++ more) lines steps
  gone_more courses more lines steps gone = record {
    early = gone.early;
    late = gone.late ++ more;
    courses_are = ap (λ (l : List Course). l ++ more) gone.courses_are ∙ append_assoc gone.early gone.late more;
    many = gone.many;
    seat = gone.seat;
    way = gone.way;
    adds = gone.adds;
  }

  gone_on : (last : ParticipantView) (courses : List Course) (lines : ℕ) (steps : List MailStep) → length courses ≡ lines
      → IsOnItsWay count (first_seat first) last courses steps → HasGone courses lines steps
  gone_on last courses lines steps many on = record {
    early = courses;
    late = [];
    courses_are = sym (append-nil courses);
    many = many;
    seat = on.seat;
    way = on.way;
    adds = on.adds;
  }

-- where it told of lines it had done as many
works_told : {count : ℕ} {first last : ParticipantView} {courses : List Course} {steps : List MailStep}
    → (works : Works count first last courses steps) → first.party.deadline ≤ MAX_DEADLINE → first.context.calls ≡ 0
    → (whole later : List MailStep) → whole ≡ steps ++ later → AddsAmong first.party.me whole
    → (before after : List MailStep) (lines : ℕ) → steps ≡ before ++ Notes (Stored lines) ∷ after → HasGone count first courses lines before
works_told (Works.rests doer) few none whole later is adds before after lines there =
    absurd (nothing_among before after (Notes (Stored lines)) there)
works_told {count} (Works.serves doer mid after_it courses steps more moved works served) few none whole later is adds before after lines there =
    ⊎_elim
    (λ (past : (rest : List MailStep) × (steps ≡ before ++ Notes (Stored lines) ∷ rest)).
    works_told works few none whole (more ++ later) (is ∙ append_assoc steps more later) adds before past.0 lines past.1)
    (λ (now : (left : List MailStep) × (before ≡ steps ++ left) × (more ≡ left ++ Notes (Stored lines) ∷ after)).
    absurd (untold_note more now.0 after lines (served_untold count mid.party after_it more moved served) now.2))
    (split_at steps more before after (Notes (Stored lines)) there)
works_told {count} (Works.does doer mid last courses course steps more works did) few none whole later is adds before after lines there =
    let noted = tells (length courses + 1) in
    let split : whole ≡ steps ++ ((more ++ noted) ++ later) = is ∙ append_assoc steps (more ++ noted) later in
    ⊎_elim
    (λ (past : (rest : List MailStep) × (steps ≡ before ++ Notes (Stored lines) ∷ rest)).
    gone_more count doer courses (course ∷ []) lines before
    (works_told works few none whole ((more ++ noted) ++ later) split adds before past.0 lines past.1))
    (λ (now : (left : List MailStep) × (before ≡ steps ++ left) × (more ++ noted ≡ left ++ Notes (Stored lines) ∷ after)).
    ⊎_elim
    (λ (inside : (rest : List MailStep) × (more ≡ now.0 ++ Notes (Stored lines) ∷ rest)).
    absurd (untold_note more now.0 inside.0 lines (acts_untold did.acts) inside.1))
    (λ (ended : (left : List MailStep) × (now.0 ≡ more ++ left) × (noted ≡ left ++ Notes (Stored lines) ∷ after)).
    let only = only_note (length courses + 1) lines ended.0 after ended.2 in
    let was = works_way works few none whole ((more ++ noted) ++ later) split adds in
    let its = line_adds doer mid last courses course steps more was did
    (adds steps more (noted ++ later) (split ∙ ap (λ (rest : List MailStep). steps ++ rest) (append_assoc more noted later))) in
    let on = line_on_its_way count (first_seat doer) mid did.mid courses course steps more did.held [] few was.on did.acts did.once did.names
    did.awaited (sym (ap (λ (doer : ParticipantView). doer.context.standing) did.ended) ∙ did.left) its in
    let here : before ≡ steps ++ (more ++ []) = now.1 ∙ ap (λ (l : List MailStep). steps ++ l) (ended.1 ∙ ap (λ (l : List MailStep). more ++ l) only.0) in
    let many : length (courses ++ course ∷ []) ≡ lines =
    let both = length-append courses (course ∷ []) in
    omega (arith, both, only.1) in
    subst (HasGone count doer (courses ++ course ∷ []) lines) (sym here)
    (gone_on count doer (after_registering course.line.act course.answer did.mid) (courses ++ course ∷ []) lines (steps ++ (more ++ [])) many on))
    (split_at more noted now.0 after (Notes (Stored lines)) now.2))
    (split_at steps (more ++ noted) before after (Notes (Stored lines)) there)

-- so by then each heap had the calls of so many lines, and it had seen of the names what these gave back last
pub record HasDoneFirst (who : ℕ) (courses : List Course) (lines : ℕ) (steps : List MailStep) : Type 0 where
  pub early : List Course
  pub late : List Course
  pub are : courses ≡ early ++ late
  pub many : length early ≡ lines
  pub made : (heap : ℕ) → added who heap None steps ≡ entries_for who heap 1 (calls_in (trace_of early))
  pub seen : HasSeen no_changes early steps

pub told_made : {count : ℕ} {first last : ParticipantView} {courses : List Course} {steps : List MailStep}
    → (works : Works count first last courses steps) → first.party.deadline ≤ MAX_DEADLINE → first.context.calls ≡ 0
    → AddsAmong first.party.me steps → (before after : List MailStep) (lines : ℕ) → steps ≡ before ++ Notes (Stored lines) ∷ after
    → HasDoneFirst first.party.me courses lines before
told_made {count} {first} {last} {courses} {steps} works few none adds before after lines there =
    let gone = works_told works few none steps [] (sym (append-nil steps)) adds before after lines there in
    record {
      early = gone.early;
      late = gone.late;
      are = gone.courses_are;
      many = gone.many;
      made = λ heap. (way_came gone.way gone.adds heap).made;
      seen = way_names gone.way no_changes;
    }

-- WHERE IT AWAITED OTHERS

-- it looked up last that enough lines were done; by then each heap had the calls of its lines before; and what it was handed from that line on it
-- took after that
pub record HasLookedAt (who other lines place : ℕ) (courses : List Course) (steps : List MailStep) : Type 0 where
  pub before : List MailStep
  pub found : ℕ
  pub after : List MailStep
  pub enough : lines ≤ found
  pub is : steps ≡ before ++ Notes (LoadedDone other found) ∷ after
  pub made : (heap : ℕ) → added who heap None before ≡ entries_for who heap 1 (calls_in (trace_of (take place courses)))
  pub taken : AreTakenBy (trace_of (drop place courses)) after

-- a line that awaits does nothing else
abbrev pub AwaitsAlone : List Course → Type 0
AwaitsAlone courses = (place other lines : ℕ) (course : Course) → slice_get courses place ≡ Some course → course.line.act ≡ act.Await other lines
    → course.trace ≡ []

looked_more : (who other lines place : ℕ) (courses : List Course) (course : Course) (steps more : List MailStep) → place ≤ length courses
    → AreTakenBy course.trace more → HasLookedAt who other lines place courses steps
    → HasLookedAt who other lines place (courses ++ course ∷ []) (steps ++ more)
looked_more who other lines place courses course steps more within taken looked = record {
  before = looked.before;
  found = looked.found;
  after = looked.after ++ more;
  enough = looked.enough;
  is = ap (λ (l : List MailStep). l ++ more) looked.is ∙ append_assoc looked.before (Notes (LoadedDone other looked.found) ∷ looked.after) more;
  made = λ heap.
      looked.made heap
      ∙ ap (λ (l : List Course). entries_for who heap 1 (calls_in (trace_of l))) (sym (take-append-le place courses (course ∷ []) within));
  taken =
      subst (λ (trace : List Done). AreTakenBy trace (looked.after ++ more))
      (sym (trace_more (drop place courses) course) ∙ ap trace_of (sym (drop-append-le place courses (course ∷ []) within)))
      (taken_both (trace_of (drop place courses)) course.trace looked.after more looked.taken taken);
}

looked_beside : (who other lines place : ℕ) (courses : List Course) (steps more : List MailStep)
    → HasLookedAt who other lines place courses steps → HasLookedAt who other lines place courses (steps ++ more)
looked_beside who other lines place courses steps more looked = record {
  before = looked.before;
  found = looked.found;
  after = looked.after ++ more;
  enough = looked.enough;
  is = ap (λ (l : List MailStep). l ++ more) looked.is ∙ append_assoc looked.before (Notes (LoadedDone other looked.found) ∷ looked.after) more;
  made = looked.made;
  taken = taken_on (trace_of (drop place courses)) looked.after more looked.taken;
}

-- a look comes last of a line that awaits, so what was added before it is what the line added
module _ (who heap other found : ℕ) (before steps more : List MailStep) (is : more ≡ before ++ Notes (LoadedDone other found) ∷ []) where
  added_look : held_after heap None steps ≡ None → added who heap None more ≡ [] → added who heap None (steps ++ before) ≡ added who heap None steps
  added_look free none =
      let here : added who heap None before ≡ [] =
      sym (append-nil (added who heap None before))
      ∙ (sym (ap (flat_map added_in) (holds_then who heap before (Notes (LoadedDone other found) ∷ []) None)
      ∙ flat_map-append added_in (heap_holds_from who heap None before) [])
      ∙ (ap (added who heap None) (sym is) ∙ none)) in
      added_then who heap steps before free
      ∙ (ap (λ (l : List Entry). added who heap None steps ++ l) here ∙ append-nil (added who heap None steps))

look_of : (course : Course) (other lines : ℕ) (steps : List MailStep) → course.line.act ≡ act.Await other lines → HasAwaited course.line.act steps
    → LooksUpLast other lines steps
look_of course other lines steps awaits has = subst (λ (deed : Act). HasAwaited deed steps) awaits has

pub works_looked : {count : ℕ} {first last : ParticipantView} {courses : List Course} {steps : List MailStep}
    → (works : Works count first last courses steps) → first.party.deadline ≤ MAX_DEADLINE → first.context.calls ≡ 0
    → (whole later : List MailStep) → whole ≡ steps ++ later → AddsAmong first.party.me whole → AwaitsAlone courses
    → (place other lines : ℕ) (course : Course) → slice_get courses place ≡ Some course → course.line.act ≡ act.Await other lines
    → HasLookedAt first.party.me other lines place courses steps
works_looked (Works.rests doer) few none whole later is adds alone place other lines one there awaits = absurd cc
works_looked (Works.serves doer mid after_it courses steps more moved works served) few none whole later is adds alone place other lines one there
    awaits =
    looked_beside doer.party.me other lines place courses steps more
    (works_looked works few none whole (more ++ later) (is ∙ append_assoc steps more later) adds alone place other lines one there awaits)
works_looked {count} (Works.does doer mid last courses course steps more works did) few none whole later is adds alone place other lines one there
    awaits =
    let noted = tells (length courses + 1) in
    let me = doer.party.me in
    let split : whole ≡ steps ++ ((more ++ noted) ++ later) = is ∙ append_assoc steps (more ++ noted) later in
    let early : AwaitsAlone courses =
    λ place other lines one there awaits. alone place other lines one (get_stays courses (course ∷ []) place one there) awaits in
    ⊎_elim
    (λ (before : place < length courses).
    let here : slice_get courses place ≡ Some one = sym (get_before courses (course ∷ []) place before) ∙ there in
    looked_more me other lines place courses course steps (more ++ noted) (omega (arith, before))
    (taken_on course.trace more noted (taken_line did.acts did.once did.names))
    (works_looked works few none whole ((more ++ noted) ++ later) split adds early place other lines one here awaits))
    (λ (behind : length courses ≤ place).
    let within = slice_get_within (courses ++ course ∷ []) place one there in
    let both = length-append courses (course ∷ []) in
    let last_place : place ≡ length courses = omega (arith, behind, within, both) in
    let its : course ≡ one = same_Some course one (sym (get_behind courses course []) ∙ (ap (slice_get (courses ++ course ∷ [])) (sym last_place) ∙ there)) in
    let nothing : course.trace ≡ [] = ap (λ (c : Course). c.trace) its ∙ alone place other lines one there awaits in
    let look = look_of course other lines more (ap (λ (c : Course). c.line.act) its ∙ awaits) did.awaited in
    let was = works_way works few none whole ((more ++ noted) ++ later) split adds in
    let line = line_adds doer mid last courses course steps more was did
    (adds steps more (noted ++ later) (split ∙ ap (λ (rest : List MailStep). steps ++ rest) (append_assoc more noted later))) in
    let front : take place (courses ++ course ∷ []) ≡ courses =
    ap (λ (n : ℕ). take n (courses ++ course ∷ [])) last_place ∙ take_at courses (course ∷ []) (length courses) refl in
    record {
      before = steps ++ look.before;
      found = look.found;
      after = noted;
      enough = look.enough;
      is = ap (λ (l : List MailStep). steps ++ (l ++ noted)) look.last
          ∙ (ap (λ (l : List MailStep). steps ++ l) (append_assoc look.before (Notes (LoadedDone other look.found) ∷ []) noted)
          ∙ sym (append_assoc steps look.before (Notes (LoadedDone other look.found) ∷ noted)));
      made = λ heap.
          let came = way_came was.on.way was.on.adds heap in
          added_look me heap other look.found look.before steps more look.last came.free
          ((line heap).are ∙ ap (λ (trace : List Done). entries_for me heap (1 + length (calls_in (trace_of courses))) (calls_in trace)) nothing)
          ∙ (came.made ∙ ap (λ (l : List Course). entries_for me heap 1 (calls_in (trace_of l))) (sym front));
      taken =
          taken_none (trace_of (drop place (courses ++ course ∷ []))) noted
          (ap trace_of
          (ap (λ (n : ℕ). drop n (courses ++ course ∷ [])) last_place ∙ drop_at courses (course ∷ []) (length courses) refl)
          ∙ (trace_more [] course ∙ nothing));
    })
    (cases_lt place (length courses))

-- lines that are done as their facts say do nothing else where they await
awaits_nothing : (line : Line) (other lines : ℕ) (facts : Facts) (trace : List Done) (given : Answer)
    → Leads (doing_of line (act.Await other lines) facts) trace (Doing.Ended given) → trace ≡ []
unfolding doing_of Leads Goes
awaits_nothing line other lines facts [] given leads = refl
awaits_nothing line other lines facts (done ∷ trace) given leads = absurd leads

done_alone : (workload : Workload) (standing : Standing) (course : Course) (other lines : ℕ) → IsDone workload standing course
    → course.line.act ≡ act.Await other lines → course.trace ≡ []
done_alone workload standing course other lines done awaits =
    awaits_nothing course.line other lines done.facts course.trace course.answer
    (subst (λ (deed : Act). Leads (doing_of course.line deed done.facts) course.trace (Doing.Ended course.answer)) awaits done.does)

pub awaits_alone : (workload : Workload) (standing : Standing) (courses : List Course) → AreDone workload standing courses → AwaitsAlone courses
awaits_alone workload standing [] done place other lines course there awaits = absurd cc
awaits_alone workload standing (one ∷ courses) done zero other lines course there awaits =
    let same : one ≡ course = same_Some one course there in
    sym (ap (λ (c : Course). c.trace) same)
    ∙ done_alone workload standing one other lines done.0 (ap (λ (c : Course). c.line.act) same ∙ awaits)
awaits_alone workload standing (one ∷ courses) done (suc place) other lines course there awaits =
    awaits_alone workload (after_line one.line one.answer one.trace standing) courses done.1 place other lines course there awaits
