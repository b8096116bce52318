-- How far a workload was run stands after servings of all participants as it stood before them.
use Rattle.std.proofs.Common.{◌≡◌, ◌∙◌, ℕ, ◌<◌, List, [], ◌∷◌, ◌++◌, append-nil, length, Some, refl, ap, sym, subst, arith, inr, ⊎_elim}
use Rattle.std.specs.Prelude.{slice_get}
use Rattle.std.specs.List.{AllByRecursion}
use Rattle.std.proofs.lemmas.Option.{same_Some, slice_get_within}
use Rattle.hp_heap.specs.declared.entry.Entry.{Entry}
use Rattle.hp_base.specs.declared.limits.TheConstants.{MAX_HEAPS}
use Rattle.hp_hall.specs.Mail.{steps_of}
use Rattle.hp_hall.specs.declared.kept.Kept.TheVariants.{Names}
use Rattle.hp_hall.specs.declared.slot.TheConstants.{NAMES_SLOT}
use Rattle.hp_plain.specs.Keeping.{values_in}
use Rattle.hp_plain.specs.Course.{IsCourse}
use Rattle.hp_plain.specs.HallView.{HallView, history_in, own_at, segs_in, slot_at}
use Rattle.hp_plain.specs.Opening.{AreHome}
use Rattle.hp_script.specs.declared.workload.Workload.{Workload}
use Rattle.hp_segs.specs.SegsView.{SegsView}
use Rattle.hp_proc.specs.Courses.{Standing}
use Rattle.hp_proc.specs.Doing.{Done}
use Rattle.hp_proc.specs.Ends.{history_by, none_made}
use Rattle.hp_proc.specs.LinesDone.{Course}
use Rattle.hp_serve.specs.Party.{Party}
use Rattle.thm_run.specs.Drops.{DropsComeFirst, DropsRest}
use Rattle.thm_run.specs.EndLaws.{IsGiven, MayFailAsBefore, OthersServe, RestsSoFar, ServesBeside}
use Rattle.thm_run.specs.Freed.{AreShown, NoneComesLate, ShownRest}
use Rattle.thm_run.specs.Seats.{EndedLine, Seat}
use Rattle.thm_run.specs.SoFar.{AreRegistered, SoFar, ended_for, standing_of, trace_for}
use Rattle.thm_run.specs.Together.{GlobalState, RunsByMail}
use Rattle.thm_run.proofs.LineSteps.Arriving.{came, enrolled_there, last_of, left_there, may_fail_before, runs_all}
use Rattle.thm_run.proofs.HeapGivers.{GiveNoHeap, NoOtherGives}
use Rattle.thm_run.proofs.SeatFacts.LastSeats.{CameTo}
use Rattle.thm_run.proofs.LineSteps.LineClauses.{asks_of_each}
use Rattle.thm_run.proofs.LineSteps.LineComes.{none_tried}
use Rattle.thm_run.proofs.LineSteps.LineRun.{line_run}
use Rattle.thm_run.proofs.LineSteps.LineSettled.{IsLineRun}
use Rattle.thm_run.proofs.LineSteps.LineTries.{TriesAtMostOnce}
use Rattle.thm_run.proofs.HallFacts.HallSegs.{later_segs}
use Rattle.thm_run.proofs.Registrations.KeptWatchers.{hears_serves}
use Rattle.thm_run.proofs.GrownHeaps.LaterGrants.{GrantsLater}
use Rattle.thm_run.proofs.Registrations.LaterRecords.{grants_later}
use Rattle.thm_run.proofs.Registrations.ServedRegistered.{served_registered}
use Rattle.hp_hall.specs.Later.{IsLaterSegs}
use Rattle.hp_serve.specs.Watched.{HearsOn}
use Rattle.thm_run.proofs.LinesTold.{lines_still}
use Rattle.thm_run.proofs.SlotAlong.{kept_still}
use Rattle.thm_run.proofs.LineSteps.OthersKnown.{known_still}
use Rattle.thm_run.proofs.SeatFacts.PartsOn.{history_on}
use Rattle.thm_run.proofs.PathSteps.Paths.{Comes}
use Rattle.thm_run.proofs.PathSteps.PathsWaiting.{serves_as, serves_path}
use Rattle.thm_run.proofs.SeenAndShown.SeenAndGrown as shown
use Rattle.thm_run.proofs.SeenAndShown.ShownOn.{shown_still}
use Rattle.thm_run.proofs.ServesNoHeap.{serves_leaves}
use Rattle.thm_run.proofs.RunFacts.SoFarFacts.{IsAt, at_place, owns_many, seat_of}
use Rattle.thm_run.proofs.RunFacts.SoFarOn.{AreLinesThere, IsKnownFor, so_far_on}
use Rattle.thm_run.proofs.PathSteps.WaysOn.{AllCame, IsLast, came_by, steps_done}

-- of nobody there is nothing
none_at_all : (entries : List Entry) → AllByRecursion (λ entry. ⊥) entries → entries ≡ []
none_at_all [] all = refl
none_at_all (entry ∷ entries) all = absurd all.0

module _ (workload : Workload) (courses : List Course) (parties behind : List Party) (old new : HallView) (given : IsGiven workload)
    (so : SoFar workload courses parties old) (size : length behind ≡ length parties)
    (serve : OthersServe (λ who. ⊥) workload.participants (λ who. standing_of workload who courses) old new parties behind) (home : AreHome new) (course : IsCourse old new) where
  -- nothing was done of lines
  abbrev nothing : ℕ → List Done
  nothing who = []

  -- and no line ended
  abbrev none_ended : ℕ → List EndedLine
  none_ended who = []

  -- so its lines left what they had left before
  abbrev left : ℕ → Standing
  left who = standing_of workload who courses

  -- what each came to, and what it served
  behind_of : (who : ℕ) (party : Party) → slice_get parties who ≡ Some party
      → (after : Party) × (slice_get behind who ≡ Some after) × ServesBeside workload.participants who (left who) old new party after
  behind_of who party there =
      let after = at_place behind who (omega (arith, slice_get_within parties who party there, size)) in
      (after.it, after.there, serve who party after.it (λ none. none) there after.there)

  comes : (who : ℕ) (seat : Seat) → slice_get so.now.seats who ≡ Some seat
      → CameTo (IsLast workload.participants behind nothing left none_ended course.steps) who seat
  comes who seat there =
      let party_is = (so.seats who seat there).party in
      let far = behind_of who seat.party party_is in
      let served = far.2.served in
      came_by workload.participants who behind nothing left none_ended course.steps seat far.0 served.steps far.1
      (steps_done old new course who served.steps served.did)
      (subst (λ (left : Standing). Comes workload.participants who far.0 left [] [] served.steps seat) (so.seats who seat there).standing
      (serves_path workload.participants who seat.party far.0 served.steps seat
      (serves_as workload.participants (left who) seat.standing seat.party far.0 served.steps (sym (so.seats who seat there).standing)
      served.serves)
      (so.each who seat.party party_is).me refl))

  tries : (who : ℕ) (seat : Seat) → slice_get so.now.seats who ≡ Some seat → TriesAtMostOnce seat.party.joined (nothing who)
  tries who seat there = none_tried seat.party.joined

  gives : NoOtherGives (λ who. ⊥) (length old.owns) course.steps
  gives who below =
      let party = at_place parties who (omega (arith, below, owns_many workload courses parties old so, so.count)) in
      let far = behind_of who party.it party.there in
      let served = far.2.served in
      inr
      (subst GiveNoHeap (sym (steps_done old new course who served.steps served.did))
      (serves_leaves workload.participants party.it far.0 served.steps served.serves).none)

  -- nobody gives a heap or the names back
  none_give : (who : ℕ) → who < length old.owns → GiveNoHeap (steps_of who course.steps)
  none_give who below = ⊎_elim (λ none. absurd none) (λ none. none) (gives who below)

  abbrev all_came : AllCame workload.participants so.now behind nothing left none_ended new
  all_came = came workload courses parties behind old new so given.few course nothing left none_ended comes tries

  abbrev now : GlobalState
  now = record { seats = all_came.lasts; segs = all_came.gone.segs; boxes = new.boxes }

  to_there : RunsByMail workload.participants so.first now
  to_there = runs_all workload courses parties behind old new so given.few course nothing left none_ended comes tries

  traces : (who : ℕ) → trace_for who courses ≡ trace_for who courses ++ nothing who
  traces who = sym (append-nil (trace_for who courses))

  -- each is known as before
  known : (who : ℕ) (after : Party) → slice_get behind who ≡ Some after → IsKnownFor workload courses new who after
  known who after at =
      let below : who < workload.participants = omega (arith, slice_get_within behind who after at, size, so.count) in
      let seat = seat_of workload courses parties old so who below in
      let last = last_of workload courses parties behind old new so given.few course nothing left none_ended comes tries who below in
      let were = all_came.were who last.it last.there in
      let same_seat : were.0 ≡ seat.it = same_Some were.0 seat.it (sym were.1 ∙ seat.there) in
      let still : last.it.trace ≡ seat.it.trace =
      were.3 ∙ append-nil were.0.trace ∙ ap (λ (seat : Seat). seat.trace) same_seat in
      let party_is = (so.seats who seat.it seat.there).party in
      let served = serve who seat.it.party after (λ none. none) party_is at in
      known_still workload courses courses parties old new so course home now to_there all_came.gone.its (λ who. ⊥) gives who (λ none. none)
      seat.it.party after seat.it last.it seat.there last.there refl (same_Some last.it.party after (sym were.2 ∙ at)) still
      (so.each who seat.it.party party_is) (so.seats who seat.it seat.there).trace served.same refl refl served.tied served.left

  -- the run of the servings, told as one of participant 0
  abbrev before : IsAt so.now.seats 0
  before = seat_of workload courses parties old so 0 given.primary

  abbrev last : IsAt now.seats 0
  last = last_of workload courses parties behind old new so given.few course nothing left none_ended comes tries 0 given.primary

  its_run : IsLineRun workload.participants 0 so.now now before.it last.it []
  its_run =
      line_run workload courses courses parties behind old new so nothing left none_ended all_came traces known 0 (λ other beside. refl) before.it last.it
      before.there last.there to_there

  -- the segment value is a later one
  later : IsLaterSegs so.now.segs now.segs
  later = later_segs (slot_at old MAX_HEAPS) (slot_at new MAX_HEAPS) so.now.segs now.segs (course.slots MAX_HEAPS) so.its_segs all_came.gone.its

  -- what was granted meanwhile is of later records
  grants : GrantsLater (length so.now.segs.log) later.outcomes
  grants =
      grants_later workload.participants workload.absent workload.pools.items so.first so.now now so.is_first so.runs 0 before.it last.it [] its_run
      later

  -- and each watcher was registered as before
  registered : (who : ℕ) (after : Party) → slice_get behind who ≡ Some after
      → AreRegistered workload courses (own_at new who).number now.segs.log now.segs.asks who after
  registered who after at =
      let below : who < workload.participants = omega (arith, slice_get_within behind who after at, size, so.count) in
      let seat = seat_of workload courses parties old so who below in
      let last = last_of workload courses parties behind old new so given.few course nothing left none_ended comes tries who below in
      let were = all_came.were who last.it last.there in
      let party_is = (so.seats who seat.it seat.there).party in
      let far = behind_of who seat.it.party party_is in
      let own : far.0 ≡ after = same_Some far.0 after (sym far.1 ∙ at) in
      served_registered workload courses courses parties old new so course now to_there later who seat.it last.it seat.there last.there []
      (were.3 ∙ ap (λ (seat : Seat). seat.trace ++ []) (same_Some were.0 seat.it (sym were.1 ∙ seat.there))) refl grants after
      (subst (HearsOn seat.it.party) own (hears_serves workload.participants seat.it.party far.0 far.2.served.steps far.2.served.serves))

  histories : (index : ℕ) → history_in (slot_at new index) ≡ history_by index none_made courses
  histories index =
      let its = history_on (λ who. ⊥) old new course gives index in
      its.is
      ∙ ap (λ (entries : List Entry). history_in (slot_at old index) ++ entries) (none_at_all its.more its.all)
      ∙ append-nil (history_in (slot_at old index))
      ∙ so.in_order index

  lines_there : AreLinesThere workload courses new now
  lines_there = record {
    among = so.among;
    built = so.built;
    done = so.done;
    in_order = histories;
    seen =
        shown.seen_stays workload.participants workload.absent workload.pools.items so.first so.now now so.is_first so.runs 0 before.it
        last.it [] its_run courses (asks_of_each workload courses parties old so) so.seen;
    grown = λ index below.
        shown.grown_stays workload.participants workload.absent workload.pools.items so.first so.now now so.is_first so.runs 0 before.it
        last.it [] its_run courses index (so.grown index below) refl;
    names = so.names;
    named = kept_still NAMES_SLOT (length old.owns) course.steps (values_in old) (values_in new) (Names so.names) course.kept none_give so.named tt;
    opened = so.opened;
    leave = so.leave;
    told = λ who below.
        lines_still who old new course (none_give who (omega (arith, below, owns_many workload courses parties old so))) ∙ so.told who below;
  }

  pub on_by_rest : SoFar workload courses behind new
  on_by_rest =
      so_far_on workload courses courses parties behind old new so course home size nothing none_ended all_came to_there
      (enrolled_there workload courses parties behind old new so given.few course nothing left none_ended comes tries)
      (left_there workload courses parties behind old new so given.few course nothing left none_ended comes tries)
      (λ who seat at. traces who) (λ who seat at. sym (append-nil (ended_for workload who courses))) known lines_there registered

  pub may_fail_still : MayFailAsBefore parties behind
  may_fail_still = may_fail_before workload courses parties behind old new so given.few course nothing left none_ended comes tries so.count

  pub drops_by_rest : (was segs : SegsView) → segs_in (slot_at old MAX_HEAPS) ≡ Some was → segs_in (slot_at new MAX_HEAPS) ≡ Some segs
      → DropsComeFirst workload.participants was.log was.asks courses → DropsComeFirst workload.participants segs.log segs.asks courses
  drops_by_rest was segs was_at at drops =
      let first_segs : so.now.segs ≡ was = same_Some so.now.segs was (sym so.its_segs ∙ was_at) in
      subst (λ (segs : SegsView). DropsComeFirst workload.participants segs.log segs.asks courses)
      (same_Some now.segs segs (sym all_came.gone.its ∙ at))
      (shown.drops_stay workload.participants workload.absent workload.pools.items so.first so.now now so.is_first so.runs 0 before.it
      last.it [] its_run courses (asks_of_each workload courses parties old so) so.seen
      (subst (λ (segs : SegsView). DropsComeFirst workload.participants segs.log segs.asks courses) (sym first_segs) drops))

  pub shown_by_rest : (was segs : SegsView) → segs_in (slot_at old MAX_HEAPS) ≡ Some was → segs_in (slot_at new MAX_HEAPS) ≡ Some segs
      → NoneComesLate courses was.asks segs.asks → AreShown was.log was.asks courses → AreShown segs.log segs.asks courses
  shown_by_rest was segs was_at at late shows =
      let first_segs : so.now.segs ≡ was = same_Some so.now.segs was (sym so.its_segs ∙ was_at) in
      let last_segs : now.segs ≡ segs = same_Some now.segs segs (sym all_came.gone.its ∙ at) in
      subst (λ (segs : SegsView). AreShown segs.log segs.asks courses) last_segs
      (shown_still workload.participants workload.absent workload.pools.items so.first so.now now so.is_first so.runs 0 before.it last.it []
      its_run courses (asks_of_each workload courses parties old so) so.seen
      (subst (λ (was : SegsView). NoneComesLate courses was.asks now.segs.asks) (sym first_segs)
      (subst (λ (segs : SegsView). NoneComesLate courses was.asks segs.asks) (sym last_segs) late))
      (subst (λ (segs : SegsView). AreShown segs.log segs.asks courses) (sym first_segs) shows))

-- after servings all stands as before them
pub so_far_rests : RestsSoFar
so_far_rests workload courses parties behind old new given so size serve home course = (
  on_by_rest workload courses parties behind old new given so size serve home course,
  may_fail_still workload courses parties behind old new given so size serve home course,
)

-- and what was given up has gone before later lines see the log
pub drops_rest : DropsRest
drops_rest workload courses parties behind old new was now given so size serve home course was_at at drops =
    drops_by_rest workload courses parties behind old new given so size serve home course was now was_at at drops

-- and what the lines show of the log with their notices never falls, where no outcome comes late
pub shown_rest : ShownRest
shown_rest workload courses parties behind old new was now given so size serve home course was_at at late shown =
    shown_by_rest workload courses parties behind old new given so size serve home course was now was_at at late shown
