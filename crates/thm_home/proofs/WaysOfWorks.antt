-- What a thread did is its participant's way by its lines.
use Rattle.std.proofs.Common.{◌≡◌, ◌∙◌, ℕ, ◌+◌, ◌≤◌, List, [], ◌∷◌, ◌++◌, length, Option, None, refl, ap, sym, subst, arith, append_assoc}
use Rattle.std.proofs.lemmas.List.{length-append}
use Rattle.hp_base.specs.declared.limits.TheConstants.{MAX_DEADLINE}
use Rattle.hp_board.specs.Views.{values_of}
use Rattle.hp_chair.specs.DoneBy.{entries_by}
use Rattle.hp_hall.specs.Mail.{MailStep}
use Rattle.hp_hall.specs.declared.note.Note.TheVariants.{Stored}
use Rattle.hp_heap.specs.declared.entry.Entry.{Entry}
use Rattle.hp_proc.specs.Acting.{Acts}
use Rattle.hp_proc.specs.Courses.{OwnCall, calls_in}
use Rattle.hp_proc.specs.Doing.{Done}
use Rattle.hp_proc.specs.Histories.{entries_for}
use Rattle.hp_proc.specs.LinesDone.{Course, trace_of}
use Rattle.hp_proc.specs.ParticipantView.{ParticipantView}
use Rattle.hp_proc.proofs.Joining.{calls_on}
use Rattle.thm_run.proofs.LineSteps.LineMore.{calls_more}
use Rattle.thm_run.specs.OwnLines.{AreAddedIn}
use Rattle.thm_run.specs.Seats.{Seat}
use Rattle.hp_threads.specs.Works.{DoesCourse, Works, tells}
use Rattle.thm_together.proofs.OnTheWay.{begins_its_way, its_me, line_on_its_way, serves_on_its_way}
use Rattle.thm_together.specs.OnItsWay.{AddsItsCalls, IsOnItsWay}

-- a participant in its first seat
abbrev pub first_seat : ParticipantView → Seat
first_seat first =
    record { party = first.party; standing = first.context.standing; lines = []; trace = []; fetched = []; asking = None }

none_more : (n : ℕ) → n ≡ n + 0
none_more n = omega arith

one_more : (n : ℕ) → n + 1 ≡ n + 1
one_more n = refl

-- a participant counts the calls that it makes
acts_counted : {count : ℕ} {hand last : Option ℕ} {held : List ℕ} {doer after : ParticipantView} {trace : List Done} {steps : List MailStep}
    → Acts count hand last held doer after trace steps → after.context.calls ≡ doer.context.calls + length (calls_in trace)
acts_counted (Acts.nothing hand doer) = none_more doer.context.calls
acts_counted (Acts.waits_turn until doer after moved steps turned) = none_more doer.context.calls
acts_counted (Acts.takes_heap doer heap pen few) = none_more doer.context.calls
acts_counted (Acts.gives_heap doer heap pen) = none_more doer.context.calls
acts_counted (Acts.makes_call doer heap call answer uncut) = one_more doer.context.calls
acts_counted (Acts.cuts_run doer heap addr run taken) = one_more doer.context.calls
acts_counted (Acts.asks_pages doer after asked run steps asks) = none_more doer.context.calls
acts_counted (Acts.notifies_run doer after heap run steps notifies) = none_more doer.context.calls
acts_counted (Acts.attaches doer after taken caught attaches) = none_more doer.context.calls
acts_counted (Acts.detaches doer taken told above left bare heard) = none_more doer.context.calls
acts_counted (Acts.reads_names doer names) = none_more doer.context.calls
acts_counted (Acts.changes_names hand doer change) = none_more doer.context.calls
acts_counted (Acts.holds_names held doer after names given trace steps does changes) = acts_counted does
acts_counted (Acts.sees_heap doer heap pen few) = none_more doer.context.calls
acts_counted (Acts.looks_at_segs doer heap taken) = none_more doer.context.calls
acts_counted (Acts.plans_range doer heap addr len page taken) = none_more doer.context.calls
acts_counted (Acts.claims doer heap chunk taken planned) = one_more doer.context.calls
acts_counted (Acts.releases doer heap chunk taken) = one_more doer.context.calls
acts_counted (Acts.maps_chunk doer heap chunk maps ended is) = none_more doer.context.calls
acts_counted (Acts.shares doer heap chunk is) = one_more doer.context.calls
acts_counted (Acts.leaves doer heap chunk maps is) = one_more doer.context.calls
acts_counted (Acts.looks_up_lines doer other lines) = none_more doer.context.calls
acts_counted (Acts.reads_stats doer heap pair) = none_more doer.context.calls
acts_counted (Acts.notes_left doer elements) = none_more doer.context.calls
acts_counted (Acts.and_then hand between last held more doer mid after first rest before behind here next) =
    let early = acts_counted here in
    let late = acts_counted next in
    let both = ap (λ (calls : List OwnCall). length calls) (calls_on first rest) ∙ length-append (calls_in first) (calls_in rest) in
    omega (arith, early, late, both)

-- what some of a participant's steps added, before which nothing was in hand, came to each heap in the holds among them
abbrev pub AddsAmong : ℕ → List MailStep → Type 0
AddsAmong who whole = (before steps more : List MailStep) → whole ≡ before ++ (steps ++ more) → (heap : ℕ)
    → AreAddedIn who heap steps (values_of heap (entries_by (λ slot. None) steps))

-- a participant is on its way, and knows how many calls its lines made
pub record IsCounting (count : ℕ) (first last : ParticipantView) (courses : List Course) (steps : List MailStep) : Type 0 where
  pub on : IsOnItsWay count (first_seat first) last courses steps
  pub counted : last.context.calls ≡ length (calls_in (trace_of courses))

-- a line's calls are what came to each heap by its steps
pub line_adds : {count : ℕ} (first mid after : ParticipantView) (courses : List Course) (course : Course) (steps more : List MailStep)
    → IsCounting count first mid courses steps → DoesCourse count mid after course more
    → ((heap : ℕ) → AreAddedIn first.party.me heap more (values_of heap (entries_by (λ slot. None) more)))
    → AddsItsCalls first.party.me (length (calls_in (trace_of courses))) course more
line_adds {count} first mid after courses course steps more was did adds heap =
    let number : mid.context.calls + 1 ≡ 1 + length (calls_in (trace_of courses)) = let counted = was.counted in omega (arith, counted) in
    subst (λ (entries : List Entry). AreAddedIn first.party.me heap more entries)
    (did.added heap
    ∙ (ap (λ (who : ℕ). entries_for who heap (mid.context.calls + 1) (calls_in course.trace))
    (its_me count (first_seat first) mid courses steps was.on)
    ∙ ap (λ (n : ℕ). entries_for first.party.me heap n (calls_in course.trace)) number)) (adds heap)

pub works_way : {count : ℕ} {first last : ParticipantView} {courses : List Course} {steps : List MailStep}
    → (works : Works count first last courses steps) → first.party.deadline ≤ MAX_DEADLINE → first.context.calls ≡ 0
    → (whole later : List MailStep) → whole ≡ steps ++ later → AddsAmong first.party.me whole → IsCounting count first last courses steps
works_way {count} (Works.rests doer) few none whole later is adds =
    record { on = begins_its_way count (first_seat doer) doer refl refl; counted = none }
works_way {count} (Works.serves doer mid after courses steps more moved works served) few none whole later is adds =
    let was = works_way works few none whole (more ++ later) (is ∙ append_assoc steps more later) adds in
    record {
      on = serves_on_its_way count (first_seat doer) mid after courses steps more moved was.on served;
      counted = was.counted;
    }
works_way {count} (Works.does doer mid after courses course steps more works did) few none whole later is adds =
    let noted = tells (length courses + 1) in
    let split : whole ≡ steps ++ ((more ++ noted) ++ later) = is ∙ append_assoc steps (more ++ noted) later in
    let was = works_way works few none whole ((more ++ noted) ++ later) split adds in
    let its = line_adds doer mid after courses course steps more was did
    (adds steps more (noted ++ later) (split ∙ ap (λ (rest : List MailStep). steps ++ rest) (append_assoc more noted later))) in
    let made = acts_counted did.acts in
    let before = was.counted in
    let all = ap (λ (calls : List OwnCall). length calls) (calls_more courses course)
    ∙ length-append (calls_in (trace_of courses)) (calls_in course.trace) in
    let same = ap (λ (doer : ParticipantView). doer.context.calls) did.ended in
    record {
      on = subst (λ (after : ParticipantView). IsOnItsWay count (first_seat doer) after (courses ++ course ∷ []) (steps ++ (more ++ noted)))
          (sym did.ended)
          (line_on_its_way count (first_seat doer) mid did.mid courses course steps more did.held
          (Stored (length courses + 1) ∷ []) few was.on did.acts did.once did.names did.awaited
          (sym (ap (λ (doer : ParticipantView). doer.context.standing) did.ended) ∙ did.left) its);
      counted = omega (arith, same, made, before, all);
    }
