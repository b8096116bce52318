-- Where threads leave something, what each participant fetched was posted to it by them, as their passes to its mailbox met.
use Rattle.std.proofs.Common.{◌≡◌, ◌∙◌, ℕ, zero, suc, ◌<◌, List, [], ◌∷◌, None, Some, slice_get, refl, ap, sym, subst, arith}
use Rattle.std.specs.Prelude.{Contains, slice_index_or}
use Rattle.std.proofs.lemmas.Option.{same_Some}
use Rattle.hp_chair.proofs.MailCame.{came_from, posted_by_one}
use Rattle.hp_chair.specs.MailAtHome.{HaveMetAt}
use Rattle.hp_chair.specs.Places.{HasPasses}
use Rattle.hp_chair.specs.Steps.{posted_to}
use Rattle.hp_frame.specs.declared.frame.Frame.{Frame}
use Rattle.hp_hall.specs.Mail.{Fetches, MailStep}
use Rattle.hp_heap.specs.History.{HeapView}
use Rattle.hp_mail.specs.PassView.{PassView}
use Rattle.hp_maps.specs.declared.table.Table.{Table}
use Rattle.hp_script.specs.declared.answer.Answer.{Answer}
use Rattle.hp_events.specs.Watchers.{WatchersView}
use Rattle.hp_script.specs.declared.workload.Workload.{Workload}
use Rattle.hp_segs.specs.SegsView.{SegsView}
use Rattle.hp_zone.specs.declared.names.Names.{Names as NamesView}
use Rattle.hp_proc.specs.ParticipantView.{ParticipantView}
use Rattle.thm_run.proofs.PathSteps.Walked.{get_there}
use Rattle.hp_threads.specs.Meeting.{HasMet}
use Rattle.hp_threads.specs.Running.{ThreadsLeave}
use Rattle.thm_home.specs.EndOfThreads.{MailOfThreads}

pub index_there : {X : Type 0} (xs : List X) (place : ℕ) (x otherwise : X) → slice_get xs place ≡ Some x
    → slice_index_or xs place otherwise ≡ x
index_there [] place x otherwise there = absurd (let wrong : None ≡ Some x = there in cc)
index_there (first ∷ xs) zero x otherwise there = same_Some first x there
index_there (first ∷ xs) (suc place) x otherwise there = index_there xs place x otherwise there

module _ (workload : Workload) (firsts : List ParticipantView) (answers : List Answer) (heaps : List HeapView) (segs : SegsView)
    (names : NamesView) (tables : List Table) (watchers : List WatchersView)
    (leave : ThreadsLeave workload firsts answers heaps segs names tables watchers) where
  abbrev count : ℕ
  count = workload.participants

  -- the passes that each brought home
  abbrev passes_of : ℕ → List PassView
  passes_of who = slice_index_or leave.promised.all_passes who []

  passes_are : (who : ℕ) (passes : List PassView) → slice_get leave.promised.all_passes who ≡ Some passes → passes_of who ≡ passes
  passes_are who passes there = index_there leave.promised.all_passes who passes [] there

  its_passes : (who : ℕ) → who < count → (passes : List PassView) × (slice_get leave.promised.all_passes who ≡ Some passes)
  its_passes who below = get_there leave.promised.all_passes who (omega (arith, below, leave.promised.homed))

  -- which have posted and fetched what its steps say
  by_promise : (who : ℕ) → who < count → HasPasses who count (leave.promised.steps who) (passes_of who)
  by_promise who below =
      let first = get_there firsts who (omega (arith, below, leave.promised.begun)) in
      let seat = get_there leave.seats who (omega (arith, below, leave.promised.many)) in
      let its = get_there leave.by who (omega (arith, below, leave.promised.answered)) in
      let table = get_there tables who (omega (arith, below, leave.promised.count)) in
      let heard = get_there watchers who (omega (arith, below, leave.promised.watched)) in
      let passes = its_passes who below in
      let promise = leave.promised.each who first.0 seat.0 passes.0 its.0 table.0 heard.0 first.1 seat.1 passes.1 its.1 table.1 heard.1 in
      subst (HasPasses who count (leave.promised.steps who)) (sym (passes_are who passes.0 passes.1))
      (subst (λ (n : ℕ). HasPasses who n (leave.promised.steps who) passes.0) leave.opens.count promise.home.mail)

  -- where these are the steps of all, the pass of each to its mailbox met those of all
  module _ (steps : ℕ → List MailStep) (are : (who : ℕ) → who < count → steps who ≡ leave.promised.steps who) where
    has_passes : (who : ℕ) → who < count → HasPasses who count (steps who) (passes_of who)
    has_passes who below =
        subst (λ (steps : List MailStep). HasPasses who count steps (passes_of who)) (sym (are who below)) (by_promise who below)

    has_met : (owner : ℕ) → owner < count → HasMet owner leave.promised.all_passes
    has_met owner below = leave.promised.met owner (omega (arith, below, leave.promised.homed))

    met : (owner : ℕ) (below : owner < count) → HaveMetAt owner count steps passes_of (has_met owner below).own
    met owner declared =
        let all = has_met owner declared in
        record {
          declared = declared;
          home = has_passes;
          its = ap (λ (passes : List PassView). slice_get passes owner) (passes_are owner all.passes all.there) ∙ all.its;
          met = λ who pass below there.
              let its = its_passes who below in
              all.met who its.0 pass its.1
              (ap (λ (passes : List PassView). slice_get passes owner) (sym (passes_are who its.0 its.1)) ∙ there);
          strangers = all.strangers;
        }

    pub posted_at : (owner : ℕ) → owner < count → (frame : Frame) → Contains (steps owner) (Fetches (Some frame))
        → (from : ℕ) × (from < count) × Contains (posted_to owner (steps from)) frame
    posted_at owner below frame among = posted_by_one owner count steps passes_of (has_met owner below).own (met owner below) frame among

pub mail_of_threads : MailOfThreads
mail_of_threads workload firsts answers heaps segs names tables watchers leave owner below =
    let steps = leave.promised.steps in
    let are = λ (who : ℕ) (below : who < workload.participants). refl in
    came_from owner workload.participants steps (passes_of workload firsts answers heaps segs names tables watchers leave)
    (has_met workload firsts answers heaps segs names tables watchers leave steps are owner below).own
    (met workload firsts answers heaps segs names tables watchers leave steps are owner below)
