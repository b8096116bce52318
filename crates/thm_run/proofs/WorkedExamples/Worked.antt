-- Worked values: two participants before their first step, some of their steps and what they leave.
use Rattle.std.proofs.Common.{◌≡◌, ◌≢◌, ℕ, zero, suc, ◌^◌, true, false, List, [], ◌∷◌, Option, Some, None, refl, ap, sym, subst, arith}
use Rattle.std.specs.Prelude.{slice_get}
use Rattle.std.proofs.lemmas.List.Elements.{All-nil}
use Rattle.std.proofs.lemmas.List.Sorted.{IsNonDecreasingBy-short, IsPermutation-refl}
use Rattle.hp_base.specs.PoolLines.{ArePoolLines}
use Rattle.hp_base.specs.declared.plan.Action.TheVariants.{Deliver, Lose}
use Rattle.hp_base.specs.declared.pool_line.PoolLine.{PoolLine}
use Rattle.hp_base.specs.declared.row.Row.{Row}
use Rattle.hp_base.specs.declared.row.Run.{Run}
use Rattle.hp_base.specs.declared.tag.Tag.{Tag}
use Rattle.hp_frame.specs.declared.frame.Frame.{Frame}
use Rattle.hp_hall.specs.Mail.{Fetches, MailStep, Notes, Posts}
use Rattle.hp_hall.specs.declared.note.Note.TheVariants.{Acked, Read}
use Rattle.hp_mail.specs.declared.posted.Posted.TheVariants.{Lost, Sent}
use Rattle.hp_heap.specs.declared.entry.HeapAnswer.TheVariants as gives
use Rattle.hp_heap.specs.declared.entry.HeapCall.TheVariants as call
use Rattle.hp_log.specs.declared.log_record.LogRecord.{LogRecord}
use Rattle.hp_log.specs.Log.{run_in}
use Rattle.hp_segs.specs.Lists.{lists_of}
use Rattle.hp_segs.specs.Table.{IsListRun, IsPlaced, IsStamped, IsTable}
use Rattle.hp_maps.specs.Events.{IsToldByAddress}
use Rattle.hp_maps.specs.MapsView.{MapsView, chunk_rows}
use Rattle.hp_segs.proofs.NewSound.{sound_new}
use Rattle.hp_segs.proofs.SoundSteps.{sound_armed}
use Rattle.hp_segs.specs.LaterSteps.{after_arm, after_leave, armed_ask}
use Rattle.hp_segs.specs.Opening.{opening}
use Rattle.hp_segs.specs.SegsView.{SegsView, is_member}
use Rattle.hp_segs.specs.Sound.{IsSound}
use Rattle.hp_segs.specs.Steps.{after_retire}
use Rattle.hp_proc.proofs.Unarmed.{armed_new}
use Rattle.hp_serve.specs.Asking.{alloc_body}
use Rattle.hp_serve.specs.Attaching.{after_detaching}
use Rattle.hp_proc.specs.Courses.{first_standing}
use Rattle.hp_proc.specs.Doing.{Done}
use Rattle.hp_proc.specs.Doing.Done.{Called}
use Rattle.hp_serve.specs.Frames.{Says}
use Rattle.hp_heap.specs.HistoryLaws.{run_cut}
use Rattle.hp_serve.specs.Asking.{ask_of}
use Rattle.hp_serve.specs.Party.{opening_party}
use Rattle.hp_serve.specs.Serving.{gives_segments, takes_segments}
use Rattle.hp_serve.specs.declared.pages_asked.PagesAsked.{PagesAsked}
use Rattle.thm_run.specs.Seats.{Handles, IsOfHeapOrNames, Mails, SeatTrace, Quietly, Seat, armed_with, having_done}
use Rattle.thm_run.specs.Together.{IsByMail, IsFirst, IsFirstSeat, GlobalState, RunsByMail, Steps, mailed_by, with_seat, with_segs}
use Rattle.thm_run.proofs.WhatWentBack.Returned.{cuts_by_all}
use Rattle.hp_segs.specs.Returned.{gone_in}

-- four pages of 2M on socket 0
abbrev pub pools : List PoolLine
pools = record { socket = 0; page = 2 ^ 21; pages = 4; slots = 4 } ∷ []

pool_lines : ArePoolLines pools
pool_lines = grind arith

table_first : IsTable pools [] []
table_first = record {
  limits = pool_lines;
  formed = tt;
  listed = All-nil (λ (entry : LogRecord). IsListRun (lists_of pools) (run_in entry));
  table = refl;
  once = λ list slot. omega arith;
  placed = All-nil (IsPlaced (lists_of pools));
  stamped = All-nil (IsStamped []);
  paged = λ place line within. omega arith;
}

-- both are present, and their segment value is sound
pub sound_first : IsSound (opening pools 2 0)
sound_first =
    sound_new pools 2 0 table_first
    (record { some = omega arith; few = omega arith; primary = refl; declared = omega arith })

abbrev tag : Tag
tag = record { who = 1; zone = false; number = 1 }

abbrev run : Run
run = record { list = 0; first = 0; count = 1; addr = 2 ^ 32; page = 2 ^ 21; socket = 0 }

abbrev found : Done
found = Called 0 (call.Find tag) gives.Nothing

abbrev cut : Done
cut = Called 0 (call.Cut 128) (gives.Pages run)

-- who holds the segment value makes notes until it gives it back, and fetches nothing
no_take : (who : ℕ) (old new : Seat) (step : MailStep) (segs : SegsView) → Mails who old new step → step ≢ takes_segments segs
no_take who _ _ _ segs (Mails.notes seat note) same = cc
no_take who _ _ _ segs (Mails.finds_nothing seat) same = cc
no_take who _ _ _ segs (Mails.fetches seat frame) same = cc
no_take who _ _ _ segs (Mails.asks seat ask frame action posted its says) same = cc
no_take who _ _ _ segs (Mails.tells seat heap run frame action posted says) same = cc
no_take who _ _ _ segs (Mails.speaks seat to frame body action posted nothing says) same = cc

never_fetches : (count who : ℕ) (old new : Seat) (segs : SegsView) (steps more : List MailStep) → SeatTrace count who old new steps
    → steps ≢ takes_segments segs ∷ Fetches None ∷ more
never_fetches count who _ _ segs _ more (SeatTrace.ends seat) same = cc
never_fetches count who _ _ segs _ more (SeatTrace.quietly old mid new steps does path) same =
    never_fetches count who mid new segs steps more path same
never_fetches count who _ _ segs _ more (SeatTrace.holds old new step steps of_heap path) same =
    let step_is : step ≡ takes_segments segs = cc in
    subst IsOfHeapOrNames step_is of_heap
never_fetches count who _ _ segs _ more (SeatTrace.mails old mid new step steps does path) same =
    let step_is : step ≡ takes_segments segs = cc in
    absurd (no_take who old mid step segs does step_is)
never_fetches count who _ _ segs _ more (SeatTrace.handles old mid new taken given [] steps does path) same = cc
never_fetches count who _ _ segs _ more (SeatTrace.handles old mid new taken given (note ∷ held) steps does path) same = cc

-- nobody listens, and no row goes
none_told : (held : List Row) → held ≡ [] → IsToldByAddress held [] []
none_told held is =
    subst (λ (held : List Row). IsToldByAddress held [] []) (sym is)
    (record {
      rising = [];
      same = IsPermutation-refl [];
      sorted = IsNonDecreasingBy-short (λ (row : Row). row.addr) [] (omega arith);
      told = refl;
    })

module _ (maps : MapsView) (rows : maps.rows ≡ []) (number : maps.number ≡ 0) (answers : maps.answers ≡ []) where
  abbrev pub seat : ℕ → Seat
  seat who = record { party = opening_party who 0 true maps [] 200; standing = first_standing true; lines = []; trace = []; fetched = []; asking = None }

  abbrev pub first : GlobalState
  first = record { seats = seat 0 ∷ seat 1 ∷ []; segs = opening pools 2 0; boxes = [] ∷ [] ∷ [] }

  seat_first : (who : ℕ) → is_member first.segs.roster who ≡ true → IsFirstSeat who first.segs (seat who)
  seat_first who member = record {
    me = refl;
    joined = sym member;
    core = refl;
    asked = refl;
    answers = answers;
    rows = rows;
    number = number;
    lines = refl;
    trace = refl;
    fetched = refl;
    asking = refl;
    listeners = refl;
    watchers = refl;
    validators = refl;
  }

  each_first : (who : ℕ) (its : Seat) → slice_get first.seats who ≡ Some its → IsFirstSeat who first.segs its
  each_first zero its there = let same : seat 0 ≡ its = cc in subst (IsFirstSeat 0 first.segs) same (seat_first 0 refl)
  each_first (suc zero) its there = let same : seat 1 ≡ its = cc in subst (IsFirstSeat 1 first.segs) same (seat_first 1 refl)
  each_first (suc (suc who)) its there = cc

  -- they are so before their first step; nobody else takes a step
  pub is_first : IsFirst 2 0 pools first
  is_first = record {
    seats = refl;
    each = each_first;
    segs = refl;
    sound = sound_first;
    armed = armed_new first.segs refl refl;
    boxes = refl;
  }

  nobody_else : slice_get first.seats 2 ≡ None
  nobody_else = refl

  -- a note is a step that leaves all as it was
  abbrev noting : GlobalState
  noting = mailed_by 1 (Notes (Read 7)) (with_seat 1 (seat 1) first)

  notes_once : Steps 2 first noting
  notes_once = Steps.mails first 1 (seat 1) (seat 1) (Notes (Read 7)) refl (Mails.notes (seat 1) (Read 7))

  note_leaves : noting ≡ first
  note_leaves = refl

  -- it may stand between the taking and the giving of the segment value
  noted_hold : SeatTrace 2 1 (seat 1) (seat 1) (takes_segments first.segs ∷ Notes (Acked 0) ∷ gives_segments first.segs ∷ [])
  noted_hold =
      SeatTrace.handles (seat 1) (seat 1) (seat 1) first.segs first.segs (Acked 0 ∷ []) [] (Handles.looks (seat 1) first.segs) (SeatTrace.ends (seat 1))

  -- a call of a heap that cuts nothing is seen by nobody, and stands in its trace
  abbrev called : Seat
  called = having_done (seat 1).party (found ∷ []) (seat 1)

  calls_once : Steps 2 first (with_seat 1 called first)
  calls_once = Steps.quietly first 1 (seat 1) called refl (Quietly.calls (seat 1) 0 (call.Find tag) gives.Nothing refl)

  its_trace : called.trace ≡ found ∷ []
  its_trace = refl

  leaves_other : slice_get (with_seat 1 called first).seats 0 ≡ Some (seat 0)
  leaves_other = refl

  -- one that cuts a run is no such step: the run is Retiring after it, and is all that was cut
  not_without_cut : run_cut (gives.Pages run) ≡ [] → ⊥
  not_without_cut is = cc

  abbrev cutting : Seat
  cutting = having_done (seat 1).party (cut ∷ []) (seat 1)

  cuts_once : Handles 2 1 (seat 1) cutting first.segs (after_retire 0 run first.segs)
  cuts_once = Handles.cuts (seat 1) first.segs 0 128 run

  all_cut : cuts_by_all (seat 0 ∷ cutting ∷ []) ≡ run ∷ []
  all_cut = refl

  cut_is_retiring : gone_in (after_retire 0 run first.segs) ≡ run ∷ []
  cut_is_retiring = refl

  module _ (asked : PagesAsked) (given : Option Run) (frame : Frame) (says : Says frame (alloc_body (ask_of 1 1 asked))) where
    -- its first ask has the number 1: it is armed with it, in its own name
    abbrev armed : Seat
    armed = armed_with 1 asked given 1 (seat 1)

    abbrev asking : GlobalState
    asking = with_segs (after_arm (ask_of 1 1 asked) first.segs) (with_seat 1 armed first)

    arms_once : Steps 2 first asking
    arms_once =
        Steps.handles first 1 (seat 1) armed asking.segs refl (Handles.arms (seat 1) first.segs asked given 1 refl)
        (sound_armed first.segs sound_first (ask_of 1 1 asked))
        (armed_new asking.segs refl refl)

    armed_with_it : armed_ask asking.segs 1 ≡ Some (ask_of 1 1 asked)
    armed_with_it = refl

    other_unarmed : armed_ask asking.segs 0 ≡ None
    other_unarmed = refl

    -- then its frame comes to participant 0
    abbrev posting : GlobalState
    posting = mailed_by 1 (Posts 0 frame Deliver Sent) (with_seat 1 armed asking)

    posts_once : Steps 2 asking posting
    posts_once =
        Steps.mails asking 1 armed armed (Posts 0 frame Deliver Sent) refl
        (Mails.asks armed (ask_of 1 1 asked) frame Deliver Sent refl says)

    mailbox_holds_it : posting.boxes ≡ (frame ∷ []) ∷ [] ∷ []
    mailbox_holds_it = refl

    -- or to nobody
    lost_frame : (line : ℕ) → (mailed_by 1 (Posts 0 frame (Lose line) (Lost line)) (with_seat 1 armed asking)).boxes ≡ first.boxes
    lost_frame line = refl

    -- participant 0 fetches it
    abbrev fetching : Seat
    fetching = record (seat 0) { fetched = frame ∷ [] }

    fetches_once : Steps 2 posting (mailed_by 0 (Fetches (Some frame)) (with_seat 0 fetching posting))
    fetches_once =
        Steps.mails posting 0 (seat 0) fetching (Fetches (Some frame)) refl (Mails.fetches (seat 0) frame)

    fetched_once : (mailed_by 0 (Fetches (Some frame)) (with_seat 0 fetching posting)).boxes ≡ first.boxes
    fetched_once = refl

    -- or before it is there, as far as no mailbox is in sight; what lies in the mailboxes does not allow it
    fetches_early : Steps 2 asking (mailed_by 0 (Fetches (Some frame)) (with_seat 0 fetching asking))
    fetches_early =
        Steps.mails asking 0 (seat 0) fetching (Fetches (Some frame)) refl (Mails.fetches (seat 0) frame)

    not_by_mail : IsByMail fetches_early → ⊥
    unfolding fetches_early
    not_by_mail is = nothing_there is
      where
        nothing_there : Some frame ≡ None → ⊥
        nothing_there same = cc

    -- the ask, and then its frame: a run of both
    both_steps : RunsByMail 2 first posting
    unfolding arms_once posts_once
    both_steps =
        RunsByMail.goes_on first asking posting (RunsByMail.goes_on first first asking (RunsByMail.stands first) arms_once tt) posts_once refl

    -- who has asked is not before its first step
    not_first : IsFirst 2 0 pools asking → ⊥
    not_first is = let none = (is.each 1 armed refl).asked in cc

  -- participant 1 detaches
  abbrev detached : Seat
  detached = record (seat 1) {
    party = after_detaching [] (seat 1).party;
    standing = record (first_standing true) { attached = false };
  }

  detaches_once : Handles 2 1 (seat 1) detached first.segs (after_leave 1 first.segs)
  detaches_once = Handles.detaches (seat 1) first.segs [] (λ same. cc) (ap chunk_rows rows) (none_told maps.rows rows)

  leaves_roster : is_member (after_leave 1 first.segs).roster 1 ≡ false
  leaves_roster = refl

  other_stays : is_member (after_leave 1 first.segs).roster 0 ≡ true
  other_stays = refl
