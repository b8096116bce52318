-- Where threads leave something all came home.
use Rattle.std.proofs.Common.{◌≡◌, ◌∙◌, ◌⊎◌, ℕ, zero, suc, ◌<◌, ◌≤◌, List, [], ◌∷◌, length, map, Some, inl, inr, slice_get, refl, ap, sym, subst, arith}
use Rattle.std.specs.List.{All}
use Rattle.std.specs.List.Sorted.{IsPermutation}
use Rattle.std.specs.Option.{option_map}
use Rattle.std.specs.Prelude.{Contains, slice_index_or}
use Rattle.std.proofs.lemmas.Bool.{cases_lt}
use Rattle.std.proofs.lemmas.List.{length-map}
use Rattle.std.proofs.lemmas.Option.{same_Some, slice_get-map, slice_get_within}
use Rattle.hp_board.specs.SeatView.{SeatView}
use Rattle.hp_chair.specs.Steps.{posted_to}
use Rattle.hp_frame.specs.declared.frame.Frame.{Frame}
use Rattle.hp_hall.specs.Mail.{Fetches, MailStep}
use Rattle.hp_events.specs.Watchers.{WatchersView}
use Rattle.hp_heap.specs.History.{HeapView}
use Rattle.hp_mail.specs.PassView.{PassView}
use Rattle.hp_maps.specs.declared.table.Table.{Table}
use Rattle.hp_script.specs.Limits.{AreDeclared}
use Rattle.hp_script.specs.declared.answer.Answer.{Answer}
use Rattle.hp_script.specs.declared.workload.Workload.{Workload}
use Rattle.hp_segs.specs.SegsView.{SegsView}
use Rattle.hp_serve.specs.Party.{Party}
use Rattle.hp_zone.specs.declared.names.Names.{Names as NamesView}
use Rattle.hp_proc.specs.Handed.{AreNamesHanded, AreStatesHanded, names_shown}
use Rattle.hp_proc.specs.Handing.{shared_of}
use Rattle.hp_proc.specs.LinesDone.{Course, trace_of}
use Rattle.hp_proc.specs.NamesLog.{changes_in, changes_made}
use Rattle.hp_proc.specs.ParticipantView.{ParticipantView}
use Rattle.hp_proc.specs.SharedNames.{no_changes}
use Rattle.hp_weave.specs.Weaving.{woven}
use Rattle.thm_run.proofs.PathSteps.Walked.{get_there}
use Rattle.thm_run.specs.EndLaws.{IsGiven}
use Rattle.thm_run.specs.Handing.{listeners_in}
use Rattle.thm_run.specs.Seats.{Seat}
use Rattle.hp_threads.specs.Running.{HasPromised, ThreadsLeave, answers_of}
use Rattle.thm_together.specs.Watched.{AreToldInSeats}
use Rattle.thm_moved.proofs.HomeAtBoard.{home_at_board}
use Rattle.thm_moved.proofs.NamesAtBoard.{names_changed_at_board, names_handed_at_board}
use Rattle.thm_moved.proofs.NamesLeftAtBoard.{names_left_at_board}
use Rattle.thm_moved.specs.AtBoard.{AllCameToTheirSeats, CameToItsSeat}
use Rattle.thm_moved.specs.NamesLeft.{AreLeftSo}
use Rattle.thm_home.proofs.AwaitedForAtBoard.{HaveAwaitedFor, awaited_for_at_board}
use Rattle.thm_home.proofs.StatesAtBoard.{states_at_board}
use Rattle.thm_home.proofs.ThreadsHome.{came_to_it, on}
use Rattle.thm_home.proofs.ThreadsMail.{index_there, posted_at}
use Rattle.thm_home.proofs.WaysOfWorks.{first_seat}
use Rattle.thm_home.specs.EndOfThreads.{HomeOfThreads}

-- no list has an element past its end
index_past : {X : Type 0} (xs : List X) (place : ℕ) (otherwise : X) → length xs ≤ place → slice_index_or xs place otherwise ≡ otherwise
index_past [] place otherwise past = refl
index_past (x ∷ xs) zero otherwise past = absurd (omega (arith, past))
index_past (x ∷ xs) (suc place) otherwise past = index_past xs place otherwise (omega (arith, past))

-- what is told of a participant: its first seat and its last one, its lines and its steps
record Told : Type 0 where
  first : Seat
  last : Seat
  courses : List Course
  steps : List MailStep

module _ (workload : Workload) (firsts : List ParticipantView) (answers : List Answer) (heaps : List HeapView) (segs : SegsView)
    (names : NamesView) (tables : List Table) (watchers : List WatchersView) (given : IsGiven workload)
    (declared : AreDeclared workload.participants workload.lines.items)
    (leave : ThreadsLeave workload firsts answers heaps segs names tables watchers) where
  abbrev count : ℕ
  count = workload.participants

  -- what a participant brought and left
  record IsPlaceOf (who : ℕ) : Type 0 where
    first : ParticipantView
    seat : SeatView
    passes : List PassView
    its : List Answer
    table : Table
    heard : WatchersView
    brought : slice_get firsts who ≡ Some first
    sat : slice_get leave.seats who ≡ Some seat
    homed : slice_get leave.promised.all_passes who ≡ Some passes
    answered : slice_get leave.by who ≡ Some its
    left : slice_get tables who ≡ Some table
    watched : slice_get watchers who ≡ Some heard

  -- each has its place
  place : (who : ℕ) → who < count → IsPlaceOf who
  place who below =
      let first = get_there firsts who (omega (arith, below, leave.promised.begun)) in
      let seat = get_there leave.seats who (omega (arith, below, leave.promised.many)) in
      let passes = get_there leave.promised.all_passes who (omega (arith, below, leave.promised.homed)) in
      let its = get_there leave.by who (omega (arith, below, leave.promised.answered)) in
      let table = get_there tables who (omega (arith, below, leave.promised.count)) in
      let heard = get_there watchers who (omega (arith, below, leave.promised.watched)) in
      record {
        first = first.0;
        seat = seat.0;
        passes = passes.0;
        its = its.0;
        table = table.0;
        heard = heard.0;
        brought = first.1;
        sat = seat.1;
        homed = passes.1;
        answered = its.1;
        left = table.1;
        watched = heard.1;
      }

  -- and what it promised
  promise : (who : ℕ) (its : IsPlaceOf who)
      → HasPromised workload leave.board who its.first its.seat its.passes (leave.promised.steps who) its.its its.table its.heard
  promise who its =
      leave.promised.each who its.first its.seat its.passes its.its its.table its.heard its.brought its.sat its.homed its.answered its.left
      its.watched

  -- who isn't there did nothing
  nothing : Told
  nothing =
      let primary = place 0 given.primary in
      record { first = first_seat primary.first; last = first_seat primary.first; courses = []; steps = [] }

  abbrev told_by : (who : ℕ) → who < count → Told
  told_by who below =
      let its : IsPlaceOf who = place who below in
      record {
        first = first_seat its.first;
        last = (on workload firsts answers heaps segs names tables watchers given leave who below its.first its.seat its.passes
            (leave.promised.steps who) its.its its.table its.heard its.sat (promise who its)).seat;
        courses = (promise who its).has.courses;
        steps = leave.promised.steps who;
      }

  told_of : (who : ℕ) → (who < count) ⊎ (count ≤ who) → Told
  told_of who (inl below) = told_by who below
  told_of who (inr beyond) = nothing

  abbrev told : ℕ → Told
  told who = told_of who (cases_lt who count)

  -- what is said of who is there, and of who isn't
  home_of : (who : ℕ) (seat : SeatView) (table : Table) (is : (who < count) ⊎ (count ≤ who)) → slice_get leave.seats who ≡ Some seat
      → slice_get tables who ≡ Some table
      → CameToItsSeat workload who (told_of who is).first (told_of who is).last (told_of who is).courses (told_of who is).steps seat table
  unfolding told_of
  home_of who seat table (inl below) sat left =
      let its = place who below in
      let came =
      came_to_it workload firsts answers heaps segs names tables watchers given leave who below its.first its.seat its.passes
      (leave.promised.steps who) its.its its.table its.heard its.sat (promise who its) in
      let one = told_by who below in
      subst (λ (seat : SeatView). CameToItsSeat workload who one.first one.last one.courses one.steps seat table)
      (same_Some its.seat seat (sym its.sat ∙ sat))
      (subst (λ (table : Table). CameToItsSeat workload who one.first one.last one.courses one.steps its.seat table)
      (same_Some its.table table (sym its.left ∙ left)) came)
  home_of who seat table (inr beyond) sat left =
      absurd (omega (arith, beyond, leave.promised.many, slice_get_within leave.seats who seat sat))

  no_lines_of : (who : ℕ) (is : (who < count) ⊎ (count ≤ who)) → count ≤ who → (told_of who is).courses ≡ []
  unfolding told_of nothing
  no_lines_of who (inl below) beyond = absurd (omega (arith, below, beyond))
  no_lines_of who (inr past) beyond = refl

  no_steps_of : (who : ℕ) (is : (who < count) ⊎ (count ≤ who)) → count ≤ who → (told_of who is).steps ≡ []
  unfolding told_of nothing
  no_steps_of who (inl below) beyond = absurd (omega (arith, below, beyond))
  no_steps_of who (inr past) beyond = refl

  answers_by : (who : ℕ) (is : (who < count) ⊎ (count ≤ who))
      → answers_of leave.by who ≡ map (λ course. course.answer) (told_of who is).courses
  unfolding told_of nothing
  answers_by who (inl below) =
      let its = place who below in
      index_there leave.by who its.its [] its.answered ∙ sym (promise who its).has.answered
  answers_by who (inr beyond) = index_past leave.by who [] (omega (arith, beyond, leave.promised.answered))

  -- what is told of who is there are the steps that it promised
  told_steps : (who : ℕ) (is : (who < count) ⊎ (count ≤ who)) → who < count → (told_of who is).steps ≡ leave.promised.steps who
  unfolding told_of
  told_steps who (inl below) there = refl
  told_steps who (inr beyond) there = absurd (omega (arith, beyond, there))

  -- each frame that participant 0 fetched one of them posted to it
  were_posted : (frame : Frame) → Contains (told 0).steps (Fetches (Some frame)) → (from : ℕ) × Contains (posted_to 0 (told from).steps) frame
  were_posted frame among =
      let its =
      posted_at workload firsts answers heaps segs names tables watchers leave (λ who. (told who).steps)
      (λ who below. told_steps who (cases_lt who count) below) 0 given.primary frame among in
      (its.0, its.2)

  pub all : AllCameToTheirSeats workload answers heaps segs tables
  all = record {
    given = given;
    declared = declared;
    opening = leave.board.opening;
    opens = record { count = leave.opens.count; serves = leave.opens.serves };
    segs_are = leave.opens.segs;
    names_are = leave.opens.names;
    seats = leave.seats;
    pens = leave.pens;
    names = names;
    closed = record {
      heaps_are = leave.heaps_are;
      calls = leave.calls;
      segs_are = leave.segs_are;
      tables_are = leave.tables_are;
      owned = leave.owned;
    };
    left = leave.names_are;
    noted = leave.noted;
    moved = leave.moved;
    first = λ who. (told who).first;
    last = λ who. (told who).last;
    courses = λ who. (told who).courses;
    steps = λ who. (told who).steps;
    many = leave.promised.many;
    count = leave.promised.count;
    home = λ who seat table sat left. home_of who seat table (cases_lt who count) sat left;
    no_lines = λ who beyond. no_lines_of who (cases_lt who count) beyond;
    no_steps = λ who beyond. no_steps_of who (cases_lt who count) beyond;
    posted = were_posted;
    answered = leave.in_order
        ∙ ap (woven (map (λ line. line.participant) workload.lines.items)) (λ i who. answers_by who (cases_lt who count) i);
  }

  -- the steps of who is there are those that it promised
  pub steps_promised : (who : ℕ) → who < count → all.steps who ≡ leave.promised.steps who
  unfolding all
  steps_promised who below = told_steps who (cases_lt who count) below

  pub pens_at_board : all.pens ≡ leave.pens
  unfolding all
  pens_at_board = refl

  -- each began in the seat of the view that it brought
  began_in : (who : ℕ) (first : ParticipantView) (is : (who < count) ⊎ (count ≤ who)) → who < count → slice_get firsts who ≡ Some first
      → (told_of who is).first.party ≡ first.party
  unfolding told_of
  began_in who first (inl below) there brought =
      let its = place who below in
      ap (λ (view : ParticipantView). view.party) (same_Some its.first first (sym its.brought ∙ brought))
  began_in who first (inr beyond) there brought = absurd (omega (arith, beyond, there))

  -- and each ended with the watchers that it left
  watched_in : (who : ℕ) (heard : WatchersView) (is : (who < count) ⊎ (count ≤ who)) → who < count → slice_get watchers who ≡ Some heard
      → heard.listeners ≡ (told_of who is).last.party.listeners
  unfolding told_of
  watched_in who heard (inl below) there left =
      let its = place who below in
      let on_its_way =
      on workload firsts answers heaps segs names tables watchers given leave who below its.first its.seat its.passes
      (leave.promised.steps who) its.its its.table its.heard its.sat (promise who its) in
      ap (λ (view : WatchersView). view.listeners) (same_Some heard its.heard (sym left ∙ its.watched))
      ∙ (promise who its).has.watched.heard
      ∙ ap (λ (party : Party). party.listeners) (sym on_its_way.party)
  watched_in who heard (inr beyond) there left = absurd (omega (arith, beyond, there))

pub home_of_threads : HomeOfThreads
unfolding all
home_of_threads workload firsts answers heaps segs names tables watchers given declared leave =
    let so = home_at_board workload answers heaps segs tables
    (all workload firsts answers heaps segs names tables watchers given declared leave) in
    record {
      home = so.home;
      began = λ who first seat brought there.
          let below : who < workload.participants =
          omega (arith, slice_get_within firsts who first brought, leave.promised.begun) in
          ap (λ (seat : Seat). seat.party) (so.began who seat there)
          ∙ began_in workload firsts answers heaps segs names tables watchers given declared leave who first (cases_lt who workload.participants)
          below brought;
    }

-- the lines with which all came home are those with which they came to their seats
pub courses_at_home : (workload : Workload) (firsts : List ParticipantView) (answers : List Answer) (heaps : List HeapView) (segs : SegsView)
    (names : NamesView) (tables : List Table) (watchers : List WatchersView) (given : IsGiven workload)
    (declared : AreDeclared workload.participants workload.lines.items)
    (leave : ThreadsLeave workload firsts answers heaps segs names tables watchers)
    → (home_of_threads workload firsts answers heaps segs names tables watchers given declared leave).home.courses
    ≡ (all workload firsts answers heaps segs names tables watchers given declared leave).courses
unfolding home_of_threads
courses_at_home workload firsts answers heaps segs names tables watchers given declared leave =
    (home_at_board workload answers heaps segs tables
    (all workload firsts answers heaps segs names tables watchers given declared leave)).courses_are

-- the watchers that they left are those of the seats in which they ended
pub watched_in_seats : (workload : Workload) (firsts : List ParticipantView) (answers : List Answer) (heaps : List HeapView) (segs : SegsView)
    (names : NamesView) (tables : List Table) (watchers : List WatchersView) (given : IsGiven workload)
    (declared : AreDeclared workload.participants workload.lines.items)
    (leave : ThreadsLeave workload firsts answers heaps segs names tables watchers)
    → AreToldInSeats (home_of_threads workload firsts answers heaps segs names tables watchers given declared leave).home.last
    (listeners_in watchers)
unfolding home_of_threads all
watched_in_seats workload firsts answers heaps segs names tables watchers given declared leave =
    let so = home_at_board workload answers heaps segs tables
    (all workload firsts answers heaps segs names tables watchers given declared leave) in
    record {
      many = length-map watchers (λ (own : WatchersView). own.listeners)
          ∙ (leave.promised.watched ∙ sym (so.home.count ∙ so.home.begun));
      are = λ who seat listeners there heard.
          let within = slice_get_within so.home.last who seat there in
          let below : who < workload.participants = omega (arith, within, so.home.count, so.home.begun) in
          let its = get_there watchers who (omega (arith, below, leave.promised.watched)) in
          same_Some listeners its.0.listeners
          (sym heard
          ∙ (slice_get-map (λ (own : WatchersView). own.listeners) watchers who
          ∙ ap (option_map (λ (own : WatchersView). own.listeners)) its.1))
          ∙ watched_in workload firsts answers heaps segs names tables watchers given declared leave who its.0
          (cases_lt who workload.participants) below its.1
          ∙ ap (λ (seat : Seat). seat.party.listeners) (sym (so.ended who seat there));
    }

-- what each is handed of the names are fronts of the last ones
pub names_handed_of_threads : (workload : Workload) (firsts : List ParticipantView) (answers : List Answer) (heaps : List HeapView)
    (segs : SegsView) (names : NamesView) (tables : List Table) (watchers : List WatchersView) (given : IsGiven workload)
    (declared : AreDeclared workload.participants workload.lines.items)
    (leave : ThreadsLeave workload firsts answers heaps segs names tables watchers) (who : ℕ)
    → AreNamesHanded (shared_of names) (names_shown no_changes (trace_of
    ((home_of_threads workload firsts answers heaps segs names tables watchers given declared leave).home.courses who)))
unfolding home_of_threads all
names_handed_of_threads workload firsts answers heaps segs names tables watchers given declared leave who =
    let at = all workload firsts answers heaps segs names tables watchers given declared leave in
    let so = home_at_board workload answers heaps segs tables at in
    subst (λ (courses : ℕ → List Course). AreNamesHanded (shared_of names) (names_shown no_changes (trace_of (courses who)))) (sym so.courses_are)
    (names_handed_at_board workload answers heaps segs tables at who)

-- which have the changes of the lines
pub names_changed_of_threads : (workload : Workload) (firsts : List ParticipantView) (answers : List Answer) (heaps : List HeapView)
    (segs : SegsView) (names : NamesView) (tables : List Table) (watchers : List WatchersView) (given : IsGiven workload)
    (declared : AreDeclared workload.participants workload.lines.items)
    (leave : ThreadsLeave workload firsts answers heaps segs names tables watchers)
    → IsPermutation (changes_made workload.participants (λ who. trace_of
    ((home_of_threads workload firsts answers heaps segs names tables watchers given declared leave).home.courses who)))
    (changes_in (shared_of names))
unfolding home_of_threads all
names_changed_of_threads workload firsts answers heaps segs names tables watchers given declared leave =
    let at = all workload firsts answers heaps segs names tables watchers given declared leave in
    let so = home_at_board workload answers heaps segs tables at in
    subst (λ (courses : ℕ → List Course). IsPermutation (changes_made workload.participants (λ who. trace_of (courses who)))
    (changes_in (shared_of names))) (sym so.courses_are) (names_changed_at_board workload answers heaps segs tables at)

-- and they agree with the heaps, with external memory, and with the tables
pub names_left_of_threads : (workload : Workload) (firsts : List ParticipantView) (answers : List Answer) (heaps : List HeapView)
    (segs : SegsView) (names : NamesView) (tables : List Table) (watchers : List WatchersView) → IsGiven workload
    → AreDeclared workload.participants workload.lines.items
    → ThreadsLeave workload firsts answers heaps segs names tables watchers → AreLeftSo workload (shared_of names) heaps segs tables
unfolding all
names_left_of_threads workload firsts answers heaps segs names tables watchers given declared leave =
    names_left_at_board workload answers heaps segs tables
    (all workload firsts answers heaps segs names tables watchers given declared leave)

-- so are the states of heaps that each is handed
pub states_of_threads : (workload : Workload) (firsts : List ParticipantView) (answers : List Answer) (heaps : List HeapView)
    (segs : SegsView) (names : NamesView) (tables : List Table) (watchers : List WatchersView) (given : IsGiven workload)
    (declared : AreDeclared workload.participants workload.lines.items)
    (leave : ThreadsLeave workload firsts answers heaps segs names tables watchers) (who : ℕ)
    → All (AreStatesHanded who (trace_of
    ((home_of_threads workload firsts answers heaps segs names tables watchers given declared leave).home.courses who))) heaps
unfolding home_of_threads all
states_of_threads workload firsts answers heaps segs names tables watchers given declared leave who =
    let at = all workload firsts answers heaps segs names tables watchers given declared leave in
    let so = home_at_board workload answers heaps segs tables at in
    subst (λ (courses : ℕ → List Course). All (AreStatesHanded who (trace_of (courses who))) heaps) (sym so.courses_are)
    (states_at_board workload answers heaps segs tables at who)

-- and what was handed after lines that await others
pub awaited_of_threads : (workload : Workload) (firsts : List ParticipantView) (answers : List Answer) (heaps : List HeapView)
    (segs : SegsView) (names : NamesView) (tables : List Table) (watchers : List WatchersView) (given : IsGiven workload)
    (declared : AreDeclared workload.participants workload.lines.items)
    (leave : ThreadsLeave workload firsts answers heaps segs names tables watchers)
    → HaveAwaitedFor (home_of_threads workload firsts answers heaps segs names tables watchers given declared leave).home.courses heaps
unfolding home_of_threads all
awaited_of_threads workload firsts answers heaps segs names tables watchers given declared leave =
    let at = all workload firsts answers heaps segs names tables watchers given declared leave in
    let so = home_at_board workload answers heaps segs tables at in
    subst (λ (courses : ℕ → List Course). HaveAwaitedFor courses heaps) (sym so.courses_are)
    (awaited_for_at_board workload answers heaps segs tables at)
