-- A participant leaves its place for a line, and comes back: all have done one line more.
use Rattle.std.proofs.Common.{◌≡◌, ◌≢◌, ◌∙◌, ℕ, ◌+◌, ◌<◌, ◌++◌, Bool, false, List, [], ◌∷◌, length, set, Option, Some, None, refl, sym, ap, subst, arith}
use Rattle.std.specs.List.{Contains, slice_get}
use Rattle.std.specs.Option.{option_map}
use Rattle.std.proofs.lemmas.List.{length_push, map-append}
use Rattle.hp_base.specs.declared.limits.TheConstants.{MAX_HEAPS}
use Rattle.hp_events.specs.declared.validator.Validator.{Validator}
use Rattle.hp_hall.specs.Mail.{MailStep}
use Rattle.hp_hall.specs.declared.kept.Kept.{Kept}
use Rattle.hp_plain.specs.Course.{IsLater}
use Rattle.hp_plain.specs.HallView.{HallView, HasDone, IsHall, IsHome, SlotView, heard_in, lines_at, own_at, part_in, seen_in, segs_in, slot_at, taken_from}
use Rattle.hp_script.specs.declared.answer.Answer.{Answer}
use Rattle.hp_script.specs.declared.line.Line.{Line}
use Rattle.hp_script.specs.declared.workload.Workload.{Workload}
use Rattle.hp_proc.specs.Contexts.{Context}
use Rattle.hp_proc.specs.Courses.{Standing, after_line}
use Rattle.hp_proc.specs.Doing.{Done}
use Rattle.hp_proc.specs.LinesDone.{Course, opening_standing, standing_after}
use Rattle.hp_serve.specs.Party.{IsSameParty, Party}
use Rattle.hp_proc.specs.OwnChunks.{AreMarkedAs}
use Rattle.hp_proc.specs.ParticipantView.{ParticipantView, knowing, participant_of}
use Rattle.hp_proc.specs.Progress.{DoesLine, MayComeAndGo, MayDo, moment_of}
use Rattle.hp_serve.specs.Tied.{IsTied}
use Rattle.hp_serve.specs.Watched.{names_of}
use Rattle.hp_solo.specs.Sequence.{going_place}
use Rattle.hp_solo.specs.Solo.{AloneView, SoloView}
use Rattle.thm_run.specs.Drops.{DropsGoOnByLine}
use Rattle.thm_run.specs.EndLaws.{GoesBy, GoesOnByLine, IsGiven, MayFailAsBefore, OthersServe, tells_one_more}
use Rattle.thm_run.specs.Freed.{ShownGoOnByLine}
use Rattle.thm_run.specs.Handing.{CountedGoesOnByLine, JudgedGoesOnByLine}
use Rattle.thm_run.specs.SoFar.{SoFar, context_of, standing_of}
use Rattle.thm_run.proofs.LineSteps.LineMore.{other_courses, own_standing}
use Rattle.thm_causes.specs.InTime.{LinesHearInTime}
use Rattle.thm_causes.specs.Threads.{ArePlaces, DoesInTurn, MayRun, OneThread, ThreadsEndLevel, validators_left, with_place}
use Rattle.hp_run.specs.Running.{CanGoOn, FailAsBefore, HaveDoneLines, taken_along}
use Rattle.hp_run.proofs.Knowing.{know_more}
use Rattle.hp_run.proofs.NextLine.{all_count}
use Rattle.hp_run.proofs.Places.{party_there}
use Rattle.hp_run.proofs.Returning.{IsBackFrom, as_before, back_in, behind, first_there, gone_from, in_sequence, its_place, others_serve}

-- what a line does, by the number of its participant and by how many there are; its participant has told of one line more then
abbrev pub DoesFor : ℕ → ℕ → ParticipantView → ParticipantView → HallView → HallView → Line → Answer → Type 0
DoesFor count me doer after old new line answer =
    DoesLine count (λ (steps : List MailStep). HasDone old new me (steps ++ tells_one_more me (lines_at old me))) line answer (moment_of doer (part_in old me) (seen_in old) (heard_in old))
    (moment_of after (part_in new me) (seen_in new) (heard_in new))

-- what the participant of a line did, and what that leaves
pub record HasDoneIts (count : ℕ) (line : Line) (answer : Answer) (doer after : ParticipantView) (old new : HallView) : Type 0 where
  pub may : MayComeAndGo line.participant line.act
  pub does : DoesFor count line.participant doer after old new line answer
  pub ready : MayDo (moment_of after (part_in new line.participant) (seen_in new) (heard_in new))
  pub tied : IsTied (seen_in new) (own_at new line.participant) (λ (heap : ℕ). (part_in new line.participant heap).marked) after.party.joined
      after.party.maps
  pub left : after.party.joined ≡ false → (heap : ℕ) → (part_in new line.participant heap).marked ≡ []
  pub chunks : (heap : ℕ) → AreMarkedAs heap (part_in new line.participant heap).marked after.context.standing.chunks
  pub same : IsSameParty doer.party after.party
  pub told : lines_at new line.participant ≡ lines_at old line.participant + 1
  pub free : (number : ℕ) → taken_from (slot_at new number) ≡ None

-- a value that was home, and of which nothing is out later on, is home then
no_holder : (kept : Kept) (holder : Option ℕ) → option_map (λ (who : ℕ). kept) holder ≡ None → holder ≡ None
no_holder kept None none = refl
no_holder kept (Some who) none = cc

still_home : (old new : Option SlotView) → IsLater old new → IsHome old → taken_from new ≡ None → IsHome new
still_home None new later home free = absurd home
still_home (Some old) None later home free = absurd later
still_home (Some old) (Some new) later home free = no_holder new.kept new.holder free

-- the mapper of each place may fail as before, where that of each participant may
pub fail_alike : {before after : ℕ → List (Validator Bool)} (old new : List AloneView) (parties behind : List Party)
    → ArePlaces before old parties → ArePlaces after new behind → MayFailAsBefore parties behind → FailAsBefore old new
fail_alike old new parties behind were are alike = λ who party after there now.
    alike who party after (sym (party_there old parties were who) ∙ there) (sym (party_there new behind are who) ∙ now)

-- the validators that each one's lines left, one line later: another's line leaves them
pub stay_validators : (workload : Workload) (courses : List Course) (course : Course) (other : ℕ) → other ≢ course.line.participant
    → validators_left workload (courses ++ course ∷ []) other ≡ validators_left workload courses other
stay_validators workload courses course other differ =
    ap (λ (own : List Course). (standing_after (opening_standing workload other) own).validators) (other_courses other courses course differ)

-- what a participant knows that took along what its lines so far left, with the names of its watchers and with its validators
pub knows_all : (workload : Workload) (who : ℕ) (courses : List Course) (party : Party) (given : List (Validator Bool))
    → names_of party.listeners ≡ (standing_of workload who courses).watchers → given ≡ validators_left workload courses who
    → (participant_of party given (taken_along workload who courses)).context ≡ context_of workload who courses
knows_all workload who courses party given names validators =
    ap (λ (watchers : List (List ℕ)). knowing watchers given (context_of workload who courses)) names
    ∙ ap (λ (validators : List (Validator Bool)). knowing (standing_of workload who courses).watchers validators
    (context_of workload who courses)) validators

-- what a line leaves of the validators of its participant, which it takes back to its place
pub its_validators : (workload : Workload) (courses : List Course) (line : Line) (answer : Answer) (trace : List Done) (doer after : Context)
    → doer ≡ context_of workload line.participant courses → after.standing ≡ after_line line answer trace doer.standing
    → validators_left workload (courses ++ record { line = line; answer = answer; trace = trace } ∷ []) line.participant
    ≡ after.standing.validators
its_validators workload courses line answer trace doer after knew left =
    let more : Course = record { line = line; answer = answer; trace = trace } in
    ap (λ (standing : Standing). standing.validators)
    (own_standing workload line.participant courses more refl
    ∙ ap (λ (context : Context). after_line line answer trace context.standing) (sym knew)
    ∙ sym left)

module _ (workload : Workload) (lines : List Line) (answers : List Answer) (line : Line) (answer : Answer) (doer after : ParticipantView)
    (before : List (Option Context)) (first away back last : SoloView) (law : GoesOnByLine) (drops : DropsGoOnByLine)
    (all_caught_up : ThreadsEndLevel) (shown : ShownGoOnByLine) (in_time : LinesHearInTime)
    (judges : JudgedGoesOnByLine) (counts : CountedGoesOnByLine) (given : IsGiven workload) (hall_is : IsHall first.plain)
    (can : CanGoOn workload lines answers before first) (among : Contains workload.lines.items line)
    (declared : line.participant < workload.participants) (there : slice_get can.done.parties line.participant ≡ Some doer.party)
    (knew : doer.context ≡ context_of workload line.participant can.done.courses)
    (did : HasDoneIts workload.participants line answer doer after away.plain back.plain)
    (is : IsBackFrom line.participant after.party (λ who. standing_of workload who can.done.courses)
    (validators_left workload (can.done.courses ++ record { line = line; answer = answer; trace = did.does.does.trace } ∷ []))
    can.done.parties first away back last)
    (may : (courses : List Course) → length courses ≡ length can.done.courses + 1 → MayRun workload courses) where
  abbrev was : HaveDoneLines workload lines answers first
  was = can.done

  -- what the lines of each have left, before this one and after it
  abbrev left : ℕ → Standing
  left other = standing_of workload other was.courses

  abbrev more : Course
  more = record { line = line; answer = answer; trace = did.does.does.trace }

  abbrev courses : List Course
  courses = was.courses ++ more ∷ []

  abbrev now : ℕ → List (Validator Bool)
  now = validators_left workload courses

  so_far : SoFar workload was.courses was.parties away.plain
  so_far = subst (λ (hall : HallView). SoFar workload was.courses was.parties hall) (sym is.gone_plain) was.so_far

  count : length away.plain.owns ≡ workload.participants
  count = all_count workload was.courses was.parties away.plain so_far

  abbrev behind_all : (behind : List Party) × ArePlaces now last.servers behind
  behind_all = behind line.participant after.party left now was.parties first away back last is

  goes_by : GoesBy workload was.courses line answer was.parties behind_all.0 away.plain back.plain
  goes_by = record {
    among = among;
    declared = declared;
    may = did.may;
    count = as_before line.participant after.party left now was.parties first away back last is
        ∙ ap (λ (hall : HallView). length hall.owns) (sym is.gone_plain) ∙ count ∙ sym was.so_far.count;
    doer = doer;
    after = after;
    before_is = there;
    behind_is = its_place line.participant after.party left now was.parties first away back last is;
    knew = knew;
    does = record {
      does = did.does;
      ready = did.ready;
      tied = did.tied;
      left = did.left;
      chunks = did.chunks;
      same = did.same;
      told = did.told;
    };
    others = subst (λ (count : ℕ). OthersServe (λ other. other ≡ line.participant) count left away.plain back.plain was.parties behind_all.0)
        count (others_serve line.participant after.party left now was.parties first away back last is);
    home = λ number below.
        still_home (slot_at away.plain number) (slot_at back.plain number) (is.course.plain.slots number) (so_far.home number below)
        (did.free number);
    course = is.course.plain;
  }

  -- it did its line in turn
  in_turn : DoesInTurn line answer first last
  in_turn =
      let its = was.so_far.each line.participant doer.party there in
      record {
        doer = doer;
        after = after;
        away = away;
        back = back;
        there = first_there line.participant doer.party after.party left now was.parties first away back last is there
            ∙ ap (λ (context : Context). Some (going_place context.standing.validators doer.party)) (sym knew);
        attached = its.joined ∙ sym (ap (λ (context : Context). context.standing.attached) knew);
        gone = gone_from line.participant doer.party after.party left now was.parties first away back last is there;
        count = workload.participants;
        all = count;
        does = did.does;
        sequence = in_sequence line.participant doer.party after.party left now was.parties first away back last is there
            (did.does.does.steps ++ tells_one_more line.participant (lines_at away.plain line.participant)) did.does.does.made;
        rises = is.rises;
        new_is = back_in line.participant doer.party after.party left now was.parties first away back last is there
            ∙ ap (λ (validators : List (Validator Bool)). with_place line.participant (going_place validators after.party) back)
            (its_validators workload was.courses line answer did.does.does.trace doer.context after.context knew did.does.left);
      }

  -- all have done one line more
  pub done_more : CanGoOn workload (lines ++ line ∷ []) (answers ++ answer ∷ [])
      (set (set before line.participant None) line.participant (Some (knowing [] [] after.context))) last × FailAsBefore first.servers last.servers
  unfolding in_turn goes_by
  done_more =
      let goes_on = law workload was.courses was.parties behind_all.0 away.plain back.plain line answer given so_far goes_by in
      let so : SoFar workload courses behind_all.0 last.plain =
      subst (λ (hall : HallView). SoFar workload courses behind_all.0 hall) (sym is.came_plain) goes_on.0 in
      let thread : OneThread was.thread.first courses last =
      OneThread.goes_on was.courses line answer first last was.thread.thread in_turn in (
        record {
          done = record {
            parties = behind_all.0;
            courses = courses;
            are = behind_all.1;
            so_far = so;
            lines_are = map-append (λ (course : Course). course.line) was.courses (more ∷ [])
                ∙ ap (λ (lines : List Line). lines ++ line ∷ []) was.lines_are;
            answered = map-append (λ (course : Course). course.answer) was.courses (more ∷ [])
                ∙ ap (λ (answers : List Answer). answers ++ answer ∷ []) was.answered;
            thread = record { first = was.thread.first; opens = was.thread.opens; thread = thread };
            drops = λ segs at nothing.
                let done = all_caught_up workload was.thread.first last courses behind_all.0 segs
                (may courses (length_push was.courses more)) was.thread.opens thread so at nothing in
                drops workload was.courses was.parties behind_all.0 away.plain back.plain line answer was.so_far.now.segs segs given so_far
                goes_by
                (subst (λ (hall : HallView). segs_in (slot_at hall MAX_HEAPS) ≡ Some was.so_far.now.segs) (sym is.gone_plain)
                was.so_far.its_segs)
                (subst (λ (hall : HallView). segs_in (slot_at hall MAX_HEAPS) ≡ Some segs) is.came_plain at) done.gone
                (was.drops was.so_far.now.segs was.so_far.its_segs nothing);
            shown = λ segs at may.
                let late = in_time workload was.thread.first first last was.courses was.parties line answer was.so_far.now.segs segs
                was.thread.opens was.thread.thread in_turn may was.so_far was.are was.so_far.its_segs at in
                let fewer = length_push was.courses more in
                shown workload was.courses was.parties behind_all.0 away.plain back.plain line answer was.so_far.now.segs segs given so_far
                goes_by
                (subst (λ (hall : HallView). segs_in (slot_at hall MAX_HEAPS) ≡ Some was.so_far.now.segs) (sym is.gone_plain)
                was.so_far.its_segs)
                (subst (λ (hall : HallView). segs_in (slot_at hall MAX_HEAPS) ≡ Some segs) is.came_plain at) late
                (was.shown was.so_far.now.segs was.so_far.its_segs
                (record { given = may.given; waits = may.waits; few = omega (arith, may.few, fewer); counted = may.counted }));
            judged = λ segs at.
                judges workload was.courses was.parties behind_all.0 away.plain back.plain line answer was.so_far.now.segs segs given so_far
                goes_by
                (subst (λ (hall : HallView). segs_in (slot_at hall MAX_HEAPS) ≡ Some was.so_far.now.segs) (sym is.gone_plain)
                was.so_far.its_segs)
                (subst (λ (hall : HallView). segs_in (slot_at hall MAX_HEAPS) ≡ Some segs) is.came_plain at)
                (was.judged was.so_far.now.segs was.so_far.its_segs);
            counted = counts workload was.courses was.parties behind_all.0 away.plain back.plain line answer given
                (subst IsHall (sym is.gone_plain) hall_is) so_far goes_by was.counted;
          };
          know = know_more workload was.courses more before (knowing [] [] after.context) declared can.know (ap (knowing [] []) goes_on.2);
        },
        fail_alike first.servers last.servers was.parties behind_all.0 was.are behind_all.1 goes_on.1,
      )
