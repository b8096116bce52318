-- What stands between two lines: where each participant sits, that all asks are settled, and that the way of the hall may go on.
use Rattle.std.proofs.Common.{◌≡◌, ◌∙◌, ℕ, zero, suc, ◌+◌, ◌<◌, ◌≤◌, List, [], ◌∷◌, length, Some, None, refl, sym, subst, arith}
use Rattle.std.specs.Prelude.{slice_get}
use Rattle.std.proofs.lemmas.List.{length-map, length-replicate}
use Rattle.std.proofs.lemmas.Option.{slice_get_within}
use Rattle.hp_base.specs.declared.limits.TheConstants.{MAX_HEAPS}
use Rattle.hp_plain.specs.HallSteps.{slots_of}
use Rattle.hp_plain.specs.HallView.{HallView, heard_in, seen_in}
use Rattle.hp_hall.specs.Own.{after_ack}
use Rattle.hp_hall.specs.Views.{HeldHeap}
use Rattle.hp_plain.specs.Opening.{heaps_in}
use Rattle.hp_zone.specs.declared.names.Names.{Names as NamesView}
use Rattle.hp_log.specs.declared.log_record.LogRecord.{LogRecord}
use Rattle.hp_script.specs.declared.workload.Workload.{Workload}
use Rattle.hp_segs.specs.LaterSteps.{armed_ask}
use Rattle.hp_segs.specs.SegsView.{SegsView, closed_number}
use Rattle.hp_segs.specs.declared.ask.Ask.{Ask}
use Rattle.hp_segs.specs.declared.outcome.AskLog.{AskLog}
use Rattle.hp_proc.specs.Acting.{AreAsked}
use Rattle.hp_proc.specs.Doing.{Done}
use Rattle.hp_proc.specs.LinesDone.{Course}
use Rattle.hp_serve.specs.Party.{Party}
use Rattle.thm_run.proofs.PathSteps.ByMail.{run_of}
use Rattle.thm_run.specs.Seats.{Seat}
use Rattle.thm_run.specs.SoFar.{SoFar, first_hall, first_names, first_segs}
use Rattle.thm_run.proofs.TracesTold.AsksSettled.{AllAsked, all_closed, no_growth}
use Rattle.thm_run.proofs.HallFacts.HallWay.{Begins}
use Rattle.thm_run.proofs.SeatFacts.PartsOn.{HasSlots, asks_shown, log_shown, slots_still}
use Rattle.thm_run.proofs.SeatFacts.SeatsAlong.{count_along}
use Rattle.thm_run.proofs.SeatFacts.SegsAlong.{armed_along, sound_along}

-- something stands at each place of a list
pub record IsAt {X : Type 0} (xs : List X) (place : ℕ) : Type 0 where
  pub it : X
  pub there : slice_get xs place ≡ Some it

pub at_place : {X : Type 0} (xs : List X) (place : ℕ) → place < length xs → IsAt xs place
at_place [] place within = absurd (omega (arith, within))
at_place (x ∷ xs) zero within = record { it = x; there = refl }
at_place (x ∷ xs) (suc place) within =
    let rest = at_place xs place (omega (arith, within)) in
    record { it = rest.it; there = rest.there }

-- there is a slot for each heap, and two more
pub slots_long : (held : List HeldHeap) (segs : SegsView) (names : NamesView) → length (slots_of held segs names) ≡ length held + 2
slots_long [] segs names = refl
slots_long (one ∷ held) segs names =
    let rest = slots_long held segs names in
    omega (arith, rest)

-- there are as many with their pens as there are heaps
pub held_many : (held : List HeldHeap) → length (heaps_in held) ≡ length held
held_many held = length-map held (λ (one : HeldHeap). one.heap)

module _ (workload : Workload) (courses : List Course) (parties : List Party) (hall : HallView)
    (so : SoFar workload courses parties hall) where
  -- there is a seat for each participant, and a participant for each seat
  pub seats_many : length so.now.seats ≡ workload.participants
  seats_many = count_along (run_of so.runs) ∙ so.is_first.seats

  pub declared_at : (who : ℕ) (seat : Seat) → slice_get so.now.seats who ≡ Some seat → who < workload.participants
  declared_at who seat there = omega (arith, slice_get_within so.now.seats who seat there, seats_many)

  pub seat_of : (who : ℕ) → who < workload.participants → IsAt so.now.seats who
  seat_of who below = at_place so.now.seats who (omega (arith, below, seats_many))

  -- what everybody sees
  pub log_is : seen_in hall ≡ so.now.segs.log
  log_is = log_shown hall so.now.segs so.its_segs

  pub asks_are : heard_in hall ≡ so.now.segs.asks
  asks_are = asks_shown hall so.now.segs so.its_segs

  -- each participant's asks have their answers
  pub all_asked : AllAsked so.now
  all_asked who seat there =
      let its = so.seats who seat there in
      subst (λ (log : List LogRecord). AreAsked log so.now.segs.asks who 0 seat.party.asked seat.trace) log_is
      (subst (λ (asks : List AskLog). AreAsked (seen_in hall) asks who 0 seat.party.asked seat.trace) asks_are
      (subst (λ (trace : List Done). AreAsked (seen_in hall) (heard_in hall) who 0 seat.party.asked trace) (sym its.trace)
      (so.each who seat.party its.party).asked))

  -- nobody is armed with an ask above the closed number, and no growth is open
  pub closed_so_far : (who : ℕ) (ask : Ask) → armed_ask so.now.segs who ≡ Some ask → ask.number ≤ closed_number so.now.segs.asks who
  closed_so_far =
      all_closed workload.participants workload.absent workload.pools.items so.first so.now so.is_first so.runs all_asked

  pub none_open_so_far : so.now.segs.growth ≡ None
  none_open_so_far =
      no_growth workload.participants workload.absent workload.pools.items so.first so.now so.is_first so.runs all_asked

  -- the hall has its slots
  first_slots : HasSlots (first_hall workload so.held)
  first_slots number slot at =
      omega (
        arith,
        slice_get_within (slots_of so.held (first_segs workload) (first_names workload)) number slot at,
        slots_long so.held (first_segs workload) (first_names workload),
        held_many so.held,
        so.first_heaps.in_order.count,
      )

  pub slots_so_far : HasSlots hall
  slots_so_far = slots_still (first_hall workload so.held) hall so.course first_slots

  pub owns_many : length hall.owns ≡ workload.participants
  owns_many = so.course.count ∙ length-replicate workload.participants (after_ack 0)

  -- a way may begin
  pub begins_here : Begins workload.participants so.now hall
  begins_here = record {
    size = seats_many;
    owns = owns_many;
    segs = so.its_segs;
    boxes = so.its_boxes;
    good = record {
      sound = sound_along workload.participants workload.absent workload.pools.items so.first so.is_first so.now (run_of so.runs);
      armed = armed_along workload.participants workload.absent workload.pools.items so.first so.is_first so.now (run_of so.runs);
    };
    home = so.home MAX_HEAPS (omega arith);
  }
