-- Worked values: participant 1 asks for pages, and participant 0 fetches a frame, from wherever that came, and looks; they came together,
-- so there is a run of both, and what an end has by it.
use Rattle.std.proofs.Common.{◌≡◌, ◌∙◌, ℕ, zero, suc, ◌≤◌, List, [], ◌∷◌, Some, None, refl, sym, subst, arith}
use Rattle.std.specs.Prelude.{slice_get}
use Rattle.std.specs.List.{All}
use Rattle.std.proofs.lemmas.List.Elements.{All-cons, All-nil}
use Rattle.std.proofs.lemmas.Option.{same_Some}
use Rattle.hp_frame.specs.declared.frame.Frame.{Frame}
use Rattle.hp_hall.specs.Mail.{Fetches, MailStep}
use Rattle.hp_maps.specs.MapsView.{MapsView}
use Rattle.hp_script.specs.declared.workload.Workload.{Workload}
use Rattle.hp_segs.proofs.SoundSteps.{sound_armed}
use Rattle.hp_segs.specs.LaterSteps.{after_arm}
use Rattle.hp_segs.specs.SegsView.{SegsView}
use Rattle.hp_serve.specs.Asking.{ask_of}
use Rattle.hp_serve.specs.Serving.{gives_segments, takes_segments}
use Rattle.hp_serve.specs.declared.pages_asked.PagesAsked.{PagesAsked}
use Rattle.hp_proc.proofs.Unarmed.{armed_new}
use Rattle.hp_proc.specs.Courses.{Standing}
use Rattle.hp_proc.specs.Doing.{Done}
use Rattle.hp_proc.specs.Doing.Done.{Asked}
use Rattle.hp_proc.specs.Outcomes.{AreAskedFor}
use Rattle.hp_weave.proofs.Interleaving.{holds_of-other}
use Rattle.hp_weave.specs.Deeds.{Gathering}
use Rattle.hp_weave.specs.Holds.{Hold, holds_of}
use Rattle.thm_run.proofs.PathSteps.Apart.{come_together}
use Rattle.thm_run.proofs.RunFacts.EndsByRun.{ends_by_run}
use Rattle.thm_run.proofs.PathSteps.RunsTogether.{run_together}
use Rattle.thm_run.proofs.WorkedExamples.Worked as worked
use Rattle.thm_run.proofs.WorkedExamples.Worked.{pools, sound_first}
use Rattle.thm_run.specs.Apart.{CameTogether, holds_from}
use Rattle.thm_run.specs.ByRuns.{AreLinesIn, CameFromFirst, GivesGood, HasByRun, IsDeedIn, with_boxes}
use Rattle.thm_run.specs.Seats.{EndedLine, Handles, Mails, SeatTrace, Seat, armed_with}
use Rattle.thm_run.specs.Together.{IsFirst, GlobalState, Runs}

module _ (maps : MapsView) (rows : maps.rows ≡ []) (number : maps.number ≡ 0) (answers : maps.answers ≡ [])
    (asked : PagesAsked) (frame : Frame) where
  abbrev first : GlobalState
  first = worked.first maps rows number answers

  abbrev seat : ℕ → Seat
  seat = worked.seat maps rows number answers

  -- participant 1 has asked, and participant 0 has fetched
  abbrev armed : Seat
  armed = armed_with 1 asked None 1 (seat 1)

  abbrev fetching : Seat
  fetching = record (seat 0) { fetched = frame ∷ [] }

  abbrev given : SegsView
  given = after_arm (ask_of 1 1 asked) first.segs

  abbrev start : Gathering Seat SegsView
  start = record { seats = seat 0 ∷ seat 1 ∷ []; value = first.segs }

  abbrev last : Gathering Seat SegsView
  last = record { seats = fetching ∷ armed ∷ []; value = given }

  abbrev steps : ℕ → List MailStep
  steps zero = Fetches (Some frame) ∷ takes_segments given ∷ gives_segments given ∷ []
  steps (suc zero) = takes_segments first.segs ∷ gives_segments given ∷ []
  steps (suc (suc who)) = []

  abbrev hold : ℕ → SegsView → SegsView → Hold SegsView
  hold who taken given = record { who = who; taken = taken; given = given }

  abbrev holds : List (Hold SegsView)
  holds = hold 1 first.segs given ∷ hold 0 given given ∷ []

  way_of_0 : SeatTrace 2 0 (seat 0) fetching (steps 0)
  way_of_0 =
      SeatTrace.mails (seat 0) fetching fetching (Fetches (Some frame)) (takes_segments given ∷ gives_segments given ∷ [])
      (Mails.fetches (seat 0) frame)
      (SeatTrace.handles fetching fetching fetching given given [] [] (Handles.looks fetching given) (SeatTrace.ends fetching))

  way_of_1 : SeatTrace 2 1 (seat 1) armed (steps 1)
  way_of_1 =
      SeatTrace.handles (seat 1) armed armed first.segs given [] [] (Handles.arms (seat 1) first.segs asked None 1 refl) (SeatTrace.ends armed)

  ways : (who : ℕ) (old new : Seat) → slice_get start.seats who ≡ Some old → slice_get last.seats who ≡ Some new
      → SeatTrace 2 who old new (steps who)
  ways zero old new here there =
      subst (λ (old : Seat). SeatTrace 2 0 old new (steps 0)) (same_Some (seat 0) old here)
      (subst (λ (new : Seat). SeatTrace 2 0 (seat 0) new (steps 0)) (same_Some fetching new there) way_of_0)
  ways (suc zero) old new here there =
      subst (λ (old : Seat). SeatTrace 2 1 old new (steps 1)) (same_Some (seat 1) old here)
      (subst (λ (new : Seat). SeatTrace 2 1 (seat 1) new (steps 1)) (same_Some armed new there) way_of_1)
  ways (suc (suc who)) old new here there = absurd (cc)

  nobody : (who : ℕ) → 2 ≤ who → steps who ≡ []
  nobody zero more = absurd (omega (arith, more))
  nobody (suc zero) more = absurd (omega (arith, more))
  nobody (suc (suc who)) more = refl

  own : (who : ℕ) → holds_of who holds ≡ holds_from who None (steps who)
  own zero = refl
  own (suc zero) = refl
  own (suc (suc who)) =
      holds_of-other (hold 1 first.segs given) (hold 0 given given ∷ []) (suc (suc who)) (λ same. omega (arith, same))
      ∙ holds_of-other (hold 0 given given) [] (suc (suc who)) (λ same. omega (arith, same))

  came : CameTogether 2 start last steps holds
  came =
      come_together 2 start last steps holds
      (record { size = refl; ways = ways; nobody_else = nobody; chain = (refl, (refl, refl)); own = own })

  gives_good : (who : ℕ) (taken : SegsView) → GivesGood (hold who taken given)
  gives_good who taken =
      record { sound = sound_armed first.segs sound_first (ask_of 1 1 asked); armed = armed_new given refl refl }

  good : All GivesGood holds
  good =
      All-cons GivesGood (hold 1 first.segs given) (hold 0 given given ∷ []) (gives_good 1 first.segs)
      (All-cons GivesGood (hold 0 given given) [] (gives_good 0 given) (All-nil GivesGood))

  -- there is a run of both, though no mailbox held that frame
  run : (left : List (List Frame)) × Runs 2 (with_boxes ([] ∷ [] ∷ []) start) (with_boxes left last)
  run = run_together 2 start last steps holds came good ([] ∷ [] ∷ [])

  -- a workload of two, in these pools
  module _ (some : Workload) (same : some.pools.items ≡ pools) where
    abbrev workload : Workload
    workload = record some { participants = 2; absent = 0; deadline = 200 }

    abbrev did : ℕ → List Done
    did zero = []
    did (suc zero) = Asked asked None ∷ []
    did (suc (suc who)) = []

    did_so : (who : ℕ) (its : Seat) → slice_get last.seats who ≡ Some its → did who ≡ its.trace
    did_so zero its there = subst (λ (its : Seat). [] ≡ its.trace) (same_Some fetching its there) refl
    did_so (suc zero) its there = subst (λ (its : Seat). did 1 ≡ its.trace) (same_Some armed its there) refl
    did_so (suc (suc who)) its there = absurd (cc)

    waits : (who : ℕ) (its : Seat) → slice_get last.seats who ≡ Some its → its.party.deadline ≡ 200
    waits zero its there = subst (λ (its : Seat). its.party.deadline ≡ 200) (same_Some fetching its there) refl
    waits (suc zero) its there = subst (λ (its : Seat). its.party.deadline ≡ 200) (same_Some armed its there) refl
    waits (suc (suc who)) its there = absurd (cc)

    -- no line has ended
    ended : (who : ℕ) (its : Seat) → slice_get last.seats who ≡ Some its → AreLinesIn workload its.lines
    ended zero its there =
        subst (λ (its : Seat). AreLinesIn workload its.lines) (same_Some fetching its there)
        (All-nil (λ (line : EndedLine). IsDeedIn workload line.deed))
    ended (suc zero) its there =
        subst (λ (its : Seat). AreLinesIn workload its.lines) (same_Some armed its there)
        (All-nil (λ (line : EndedLine). IsDeedIn workload line.deed))
    ended (suc (suc who)) its there = absurd (cc)

    did_none : (who : ℕ) → 2 ≤ who → did who ≡ []
    did_none zero more = absurd (omega (arith, more))
    did_none (suc zero) more = absurd (omega (arith, more))
    did_none (suc (suc who)) more = refl

    from_first : CameFromFirst workload did start last steps holds
    from_first = record {
      is_first = subst (λ pools. IsFirst 2 0 pools first) (sym same) (worked.is_first maps rows number answers);
      came = came;
      good = good;
      waits = waits;
      ended = ended;
      did_so = did_so;
      nobody_else = did_none;
    }

    has : HasByRun workload did given
    has = ends_by_run workload did start last steps holds from_first

    -- no growth is open yet, so each was asked for
    asked_for : AreAskedFor given
    asked_for = has.asked_for refl
