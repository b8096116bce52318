-- What threads promise, once it is taken apart, is promised by each participant.
use Rattle.std.proofs.Common.{◌≡◌, ◌⊎◌, ◌∙◌, ℕ, zero, suc, ◌<◌, ◌≤◌, List, [], ◌∷◌, map, length, get_or, Option, Some, None, inl, inr, refl, sym, ap, subst, arith}
use Rattle.std.specs.Prelude.{zip}
use Rattle.std.specs.List.{slice_get}
use Rattle.std.specs.Option.{option_map}
use Rattle.std.proofs.lemmas.Bool.{cases_lt}
use Rattle.std.proofs.lemmas.List.{length-map}
use Rattle.std.proofs.lemmas.Option.{none-some, same_Some, slice_get-map, slice_get_within}
use Rattle.atomic_table.specs.Seated.{TableId}
use Rattle.hp_board.specs.BoardView.{BoardView}
use Rattle.hp_board.specs.SeatView.{SeatView, new_seat}
use Rattle.hp_chair.specs.Publishing.{HasReadBy}
use Rattle.hp_events.specs.Watchers.{WatchersView}
use Rattle.hp_hall.specs.Mail.{MailStep}
use Rattle.hp_mail.specs.PassView.{MailboxView, PassView}
use Rattle.hp_maps.specs.declared.table.Table.{Table}
use Rattle.hp_proc.specs.ParticipantView.{ParticipantView}
use Rattle.hp_script.specs.declared.answer.Answer.{Answer}
use Rattle.hp_script.specs.declared.workload.Workload.{Workload}
use Rattle.hp_stats.specs.StatViews as stats
use Rattle.thm_run.proofs.HallFacts.HallHeaps.{all_from_places}
use Rattle.thm_run.proofs.RunFacts.SoFarFacts.{at_place}
use Rattle.hp_threads.specs.Leaving.{CameHome, HasDoneAll, HasDoneUnlessStopped, HasWorked}
use Rattle.hp_threads.specs.Meeting.{ArePassesOf, CanMeet, HaveMet}
use Rattle.hp_threads.specs.Running.{AllHavePromised, AreTakenApart, HasPromised, told_of, watched_of}
use Rattle.hp_threads.specs.Workers.{AreWorkers, IsNewcomer, WorkerView}
use Rattle.hp_threads.specs.declared.working.Done.{Done}
use Rattle.hp_threads.specs.declared.working.Worked.{Worked}

-- each worker keeps its promise, by its index
abbrev pub KeepTheirs : Workload → List WorkerView → List Worked → Type 0
KeepTheirs workload workers worked = (k : ℕ) (worker : WorkerView) (one : Worked) → k < length workers
    → HasWorked workload (get_or workers k worker) (get_or worked k one)

pub at_or : {A : Type 0} (xs : List A) (place : ℕ) (x d : A) → slice_get xs place ≡ Some x → get_or xs place d ≡ x
at_or [] place x d at = absurd (none-some x at)
at_or (y ∷ xs) zero x d at = same_Some y x at
at_or (y ∷ xs) (suc place) x d at = at_or xs place x d at

zip_at : (by : List (List Answer)) (tables : List Table) (place : ℕ) (its : List Answer) (table : Table) → slice_get by place ≡ Some its
    → slice_get tables place ≡ Some table → slice_get (map Some (zip by tables)) place ≡ Some (Some (its, table))
zip_at [] tables place its table at there = absurd (none-some its at)
zip_at (one ∷ by) [] place its table at there = absurd (none-some table there)
zip_at (one ∷ by) (other ∷ tables) zero its table at there =
    ap (λ (it : List Answer). Some (Some (it, other))) (same_Some one its at)
    ∙ ap (λ (it : Table). Some (Some (its, it))) (same_Some other table there)
zip_at (one ∷ by) (other ∷ tables) (suc place) its table at there = zip_at by tables place its table at there

-- what was told of what a participant has done is there
has_told : (workload : Workload) (first : ParticipantView) (seat : SeatView) (steps : List MailStep) (done : Option Done)
    (both : List Answer × Table) (watchers : WatchersView) → told_of done ≡ Some both → watched_of done ≡ Some watchers
    → HasDoneUnlessStopped workload first seat steps done → HasDoneAll workload first seat steps both.0 both.1 watchers
has_told workload first seat steps None both watchers is heard has = absurd (none-some both is)
has_told workload first seat steps (Some done) both watchers is heard has =
    subst (λ (told : List Answer × Table). HasDoneAll workload first seat steps told.0 told.1 watchers)
    (same_Some (done.answers, done.table) both is)
    (subst (HasDoneAll workload first seat steps done.answers done.table) (same_Some done.watchers watchers heard) has)

-- two lists of passes to the same mailboxes
same_box : (passes before : List PassView) (place : ℕ) (pass : PassView)
    → map (λ (one : PassView). one.mailbox) passes ≡ map (λ (one : PassView). one.mailbox) before → slice_get passes place ≡ Some pass
    → (other : PassView) × (slice_get before place ≡ Some other) × (other.mailbox ≡ pass.mailbox)
same_box passes before place pass same there =
    let long : length passes ≡ length before =
    sym (length-map passes (λ (one : PassView). one.mailbox))
    ∙ (ap (λ (all : List TableId). length all) same ∙ length-map before (λ (one : PassView). one.mailbox)) in
    let other = at_place before place (omega (arith, long, slice_get_within passes place pass there)) in (
      other.it,
      other.there,
      same_Some other.it.mailbox pass.mailbox
          (sym (slice_get-map (λ (one : PassView). one.mailbox) before place ∙ ap (option_map (λ (one : PassView). one.mailbox)) other.there)
          ∙ (ap (λ (all : List TableId). slice_get all place) (sym same)
          ∙ (slice_get-map (λ (one : PassView). one.mailbox) passes place ∙ ap (option_map (λ (one : PassView). one.mailbox)) there))),
    )

module _ (workload : Workload) (board : BoardView) (boxes : List MailboxView) (cells : List TableId) (workers : List WorkerView)
    (worked : List Worked) (are : AreWorkers workload board boxes cells workers) (long : length worked ≡ length workers)
    (keep : KeepTheirs workload workers worked) (all_passes : List (List PassView)) (seats : List SeatView) (by : List (List Answer))
    (tables : List Table) (watchers : List WatchersView) (stat_passes : List stats.PassView)
    (home : AreTakenApart worked all_passes seats by tables watchers stat_passes) where
  abbrev pub begun : List ParticipantView
  begun = map (λ (w : WorkerView). w.doer) workers

  -- a worker has kept its promise
  record HasKept (who : ℕ) : Type 0 where
    worker : WorkerView
    one : Worked
    at : slice_get workers who ≡ Some worker
    there : slice_get worked who ≡ Some one
    has : HasWorked workload worker one

  kept_at : (who : ℕ) → who < length worked → HasKept who
  kept_at who within =
      let one = at_place worked who within in
      let worker = at_place workers who (omega (arith, within, long)) in
      record {
        worker = worker.it;
        one = one.it;
        at = worker.there;
        there = one.there;
        has = subst (λ (w : WorkerView). HasWorked workload w one.it) (at_or workers who worker.it worker.it worker.there)
            (subst (λ (w : Worked). HasWorked workload (get_or workers who worker.it) w) (at_or worked who one.it one.it one.there)
            (keep who worker.it one.it (omega (arith, within, long))));
      }

  -- and brought its passes home
  passes_is : (who : ℕ) (kept : HasKept who) (passes : List PassView) → slice_get all_passes who ≡ Some passes → kept.one.passes.items ≡ passes
  passes_is who kept passes passed =
      same_Some kept.one.passes.items passes
      (sym (slice_get-map (λ (w : Worked). w.passes.items) worked who ∙ ap (option_map (λ (w : Worked). w.passes.items)) kept.there)
      ∙ (ap (λ (all : List (List PassView)). slice_get all who) (sym home.passes_are) ∙ passed))

  -- which are to the same mailboxes
  passes_of : (who : ℕ) (passes : List PassView) → slice_get all_passes who ≡ Some passes → ArePassesOf boxes who passes
  passes_of who passes passed =
      let within : who < length worked =
      omega (
        arith,
        slice_get_within all_passes who passes passed,
        ap (λ (all : List (List PassView)). length all) home.passes_are,
        length-map worked (λ (w : Worked). w.passes.items),
      ) in
      let kept = kept_at who within in
      let seated = (are.each who kept.worker kept.at).seated in
      let came : CameHome (new_seat board who) kept.one.seat passes kept.has.steps =
      subst (λ (passes : List PassView). CameHome (new_seat board who) kept.one.seat passes kept.has.steps)
      (passes_is who kept passes passed)
      (subst (λ (s : SeatView). CameHome s kept.one.seat kept.one.passes.items kept.has.steps) seated.sits kept.has.home) in
      let same : map (λ (one : PassView). one.mailbox) passes ≡ map (λ (one : PassView). one.mailbox) kept.worker.passes =
      ap (map (λ (one : PassView). one.mailbox)) (sym (passes_is who kept passes passed)) ∙ kept.has.mailboxes in
      let count : length passes ≡ board.opening.participants = came.mail.count in
      record {
        count = count ∙ sym seated.count;
        its = λ place mailbox pass box there.
            let other = same_box passes kept.worker.passes place pass same there in
            sym other.2 ∙ (seated.places.each place mailbox other.0 box other.1).its;
        whose = λ place pass there. (came.mail.each place pass there).whose;
        owner = λ pass there. (came.mail.each who pass there).owner refl;
      }

  pub can_meet : length boxes ≡ workload.participants → CanMeet boxes all_passes
  can_meet boxed = record {
    many = ap (λ (all : List (List PassView)). length all) home.passes_are
        ∙ (length-map worked (λ (w : Worked). w.passes.items) ∙ (long ∙ (are.count ∙ sym boxed)));
    each = passes_of;
  }

  -- the steps of each, and none of who is not there
  abbrev its_steps : (who : ℕ) → (who < length worked) ⊎ (length worked ≤ who) → List MailStep
  its_steps who (inl within) = (kept_at who within).has.steps
  its_steps who (inr beyond) = []

  promised_at : (who : ℕ) (is : (who < length worked) ⊎ (length worked ≤ who)) (first : ParticipantView) (seat : SeatView)
      (passes : List PassView) (its : List Answer) (table : Table) (heard : WatchersView) → slice_get begun who ≡ Some first
      → slice_get seats who ≡ Some seat → slice_get all_passes who ≡ Some passes → slice_get by who ≡ Some its
      → slice_get tables who ≡ Some table → slice_get watchers who ≡ Some heard
      → HasPromised workload board who first seat passes (its_steps who is) its table heard
  promised_at who (inr beyond) first seat passes its table heard begins seated passed answered left watched =
      absurd (omega (arith, beyond, slice_get_within by who its answered, home.answered))
  promised_at who (inl within) first seat passes its table heard begins seated passed answered left watched =
      let kept = kept_at who within in
      let worker = kept.worker in
      let one = kept.one in
      let has = kept.has in
      let seat_is : one.seat ≡ seat =
      same_Some one.seat seat
      (sym (slice_get-map (λ (w : Worked). w.seat) worked who ∙ ap (option_map (λ (w : Worked). w.seat)) kept.there)
      ∙ ap (λ (all : List SeatView). slice_get all who) (sym home.seats_are) ∙ seated) in
      let done_is : told_of one.done ≡ Some (its, table) =
      same_Some (told_of one.done) (Some (its, table))
      (sym (slice_get-map (λ (w : Worked). told_of w.done) worked who ∙ ap (option_map (λ (w : Worked). told_of w.done)) kept.there)
      ∙ ap (λ (all : List (Option (List Answer × Table))). slice_get all who) home.done ∙ zip_at by tables who its table answered left) in
      let heard_is : watched_of one.done ≡ Some heard =
      same_Some (watched_of one.done) (Some heard)
      (sym (slice_get-map (λ (w : Worked). watched_of w.done) worked who ∙ ap (option_map (λ (w : Worked). watched_of w.done)) kept.there)
      ∙ (ap (λ (all : List (Option WatchersView)). slice_get all who) home.watched
      ∙ (slice_get-map Some watchers who ∙ ap (option_map Some) watched))) in
      let doer_is : worker.doer ≡ first =
      same_Some worker.doer first
      (sym (slice_get-map (λ (w : WorkerView). w.doer) workers who ∙ ap (option_map (λ (w : WorkerView). w.doer)) kept.at) ∙ begins) in
      let its_worker = are.each who worker kept.at in
      record {
        newcomer = subst (IsNewcomer workload who) doer_is its_worker.newcomer;
        home = subst (λ (passes : List PassView). CameHome (new_seat board who) seat passes has.steps) (passes_is who kept passes passed)
            (subst (λ (s : SeatView). CameHome s seat one.passes.items has.steps) its_worker.seated.sits
            (subst (λ (s : SeatView). CameHome worker.seat s one.passes.items has.steps) seat_is has.home));
        has = subst (λ (doer : ParticipantView). HasDoneAll workload doer seat has.steps its table heard) doer_is
            (has_told workload worker.doer seat has.steps one.done (its, table) heard done_is heard_is
            (subst (λ (s : SeatView). HasDoneUnlessStopped workload worker.doer s has.steps one.done) seat_is has.has));
      }

  -- the pass to statistics that one brought home
  pass_is : (who : ℕ) (kept : HasKept who) (pass : stats.PassView) → slice_get stat_passes who ≡ Some pass → kept.one.stats ≡ pass
  pass_is who kept pass passed =
      same_Some kept.one.stats pass
      (sym (slice_get-map (λ (w : Worked). w.stats) worked who ∙ ap (option_map (λ (w : Worked). w.stats)) kept.there)
      ∙ (ap (λ (all : List stats.PassView). slice_get all who) (sym home.stats_are) ∙ passed))

  as_many_passes : length stat_passes ≡ length worked
  as_many_passes = ap (λ (all : List stats.PassView). length all) home.stats_are ∙ length-map worked (λ (w : Worked). w.stats)

  -- it is to the board's cells
  pass_cells : (who : ℕ) (pass : stats.PassView) → slice_get stat_passes who ≡ Some pass → pass.cells ≡ board.opening.cells.value
  pass_cells who pass passed =
      let within : who < length worked = omega (arith, slice_get_within stat_passes who pass passed, as_many_passes) in
      let kept = kept_at who within in
      let unread = (are.each who kept.worker kept.at).seated.unread in
      ap (λ (p : stats.PassView). p.cells) (sym (pass_is who kept pass passed))
      ∙ (kept.has.cells ∙ (ap (λ (p : stats.PassView). p.cells) unread.unread ∙ sym unread.opened))

  -- and by it was read and published what the steps say
  pass_read : (who : ℕ) (is : (who < length worked) ⊎ (length worked ≤ who)) (pass : stats.PassView) → slice_get stat_passes who ≡ Some pass
      → HasReadBy (its_steps who is) pass
  pass_read who (inl within) pass passed =
      let kept = kept_at who within in
      subst (HasReadBy kept.has.steps) (pass_is who kept pass passed) kept.has.read
  pass_read who (inr beyond) pass passed =
      absurd (omega (arith, beyond, slice_get_within stat_passes who pass passed, as_many_passes))

  pub all_promised : HaveMet all_passes → AllHavePromised workload board begun seats by tables watchers stat_passes
  all_promised met = record {
    begun = length-map workers (λ (w : WorkerView). w.doer) ∙ are.count;
    many =
        ap (λ (all : List SeatView). length all) home.seats_are ∙ length-map worked (λ (w : Worked). w.seat) ∙ long ∙ are.count;
    all_passes = all_passes;
    homed = ap (λ (all : List (List PassView)). length all) home.passes_are
        ∙ length-map worked (λ (w : Worked). w.passes.items) ∙ long ∙ are.count;
    answered = home.answered ∙ long ∙ are.count;
    count = home.count ∙ long ∙ are.count;
    watched = sym (length-map watchers Some) ∙ ap (λ (all : List (Option WatchersView)). length all) (sym home.watched)
        ∙ length-map worked (λ (w : Worked). watched_of w.done) ∙ long ∙ are.count;
    steps = λ who. its_steps who (cases_lt who (length worked));
    each = λ who. promised_at who (cases_lt who (length worked));
    reading = as_many_passes ∙ long ∙ are.count;
    cells = all_from_places (λ (pass : stats.PassView). pass.cells ≡ board.opening.cells.value) stat_passes pass_cells;
    read = λ who. pass_read who (cases_lt who (length worked));
    met = met;
  }
