-- What a seat keeps through a run: its number, its deadline, and the calls at which its mapper may fail.
use Rattle.std.proofs.Common.{◌≡◌, ◌∙◌, ℕ, zero, suc, ◌<◌, List, [], ◌∷◌, length, Option, Some, None, refl, ap, sym, subst, arith}
use Rattle.std.specs.Prelude.{slice_get}
use Rattle.std.proofs.lemmas.Option.{same_Some, slice_get_within}
use Rattle.hp_base.specs.Mapping.{FailingCall}
use Rattle.hp_base.specs.declared.caught.Caught.{Caught}
use Rattle.hp_base.specs.declared.caught.Caught.TheVariants as caught
use Rattle.hp_hall.specs.Mail.{MailStep}
use Rattle.hp_maps.specs.MapsView.{MapsView}
use Rattle.hp_segs.specs.SegsView.{SegsView}
use Rattle.hp_serve.specs.Attaching.{table_left}
use Rattle.thm_run.specs.Seats.{Handles, Mails, SeatTrace, Quietly, Seat}
use Rattle.thm_run.specs.Together.{GlobalState, Runs, Steps}
use Rattle.thm_run.proofs.RunFacts.RunChanges.{AreSetSo}
use Rattle.thm_run.proofs.SeatFacts.Seating.{IsSeatAfter, seat_behind}
use Rattle.thm_run.proofs.SeatFacts.SeatsAlong.{count_along}

-- a seat has the settings of another
pub record IsSetAs (old new : Seat) : Type 0 where
  pub me : new.party.me ≡ old.party.me
  pub deadline : new.party.deadline ≡ old.party.deadline
  pub may_fail : new.party.maps.may_fail ≡ old.party.maps.may_fail

pub set_alike : (old mid new : Seat) → IsSetAs old mid → IsSetAs mid new → IsSetAs old new
set_alike old mid new here there =
    record { me = there.me ∙ here.me; deadline = there.deadline ∙ here.deadline; may_fail = there.may_fail ∙ here.may_fail }

quietly_set : {old new : Seat} → Quietly old new → IsSetAs old new
quietly_set (Quietly.hears seat answered) = record { me = refl; deadline = refl; may_fail = refl }
quietly_set (Quietly.counts seat sent) = record { me = refl; deadline = refl; may_fail = refl }
quietly_set (Quietly.calls seat heap call answer none) = record { me = refl; deadline = refl; may_fail = refl }
quietly_set (Quietly.notes seat elements chunks) = record { me = refl; deadline = refl; may_fail = refl }
quietly_set (Quietly.reads_names seat names) = record { me = refl; deadline = refl; may_fail = refl }
quietly_set (Quietly.reads_stats seat heap counted) = record { me = refl; deadline = refl; may_fail = refl }
quietly_set (Quietly.changes_names seat change) = record { me = refl; deadline = refl; may_fail = refl }
quietly_set (Quietly.sees_heap seat heap history) = record { me = refl; deadline = refl; may_fail = refl }
quietly_set (Quietly.plans_range seat addr len page plan) = record { me = refl; deadline = refl; may_fail = refl }
quietly_set (Quietly.maps_chunk seat chunk maps ended is) = record { me = refl; deadline = refl; may_fail = is.others.may_fail }
quietly_set (Quietly.leaves_chunk seat chunk maps is) = record { me = refl; deadline = refl; may_fail = is.others.may_fail }
quietly_set (Quietly.ends_line seat deed given) = record { me = refl; deadline = refl; may_fail = refl }

mails_set : {who : ℕ} {old new : Seat} {step : MailStep} → Mails who old new step → IsSetAs old new
mails_set (Mails.notes seat note) = record { me = refl; deadline = refl; may_fail = refl }
mails_set (Mails.finds_nothing seat) = record { me = refl; deadline = refl; may_fail = refl }
mails_set (Mails.fetches seat frame) = record { me = refl; deadline = refl; may_fail = refl }
mails_set (Mails.asks seat ask frame action posted its says) = record { me = refl; deadline = refl; may_fail = refl }
mails_set (Mails.tells seat heap run frame action posted says) = record { me = refl; deadline = refl; may_fail = refl }
mails_set (Mails.speaks seat to frame body action posted nothing says) = record { me = refl; deadline = refl; may_fail = refl }

left_may_fail : (ended : Caught) (maps : MapsView) → (table_left ended maps).may_fail ≡ maps.may_fail
left_may_fail caught.Done maps = refl
left_may_fail (caught.Refused row call) maps = refl
left_may_fail (caught.Elsewhere row call got) maps = refl

handles_set : {count who : ℕ} {old new : Seat} {taken given : SegsView} → Handles count who old new taken given → IsSetAs old new
handles_set (Handles.looks seat segs) = record { me = refl; deadline = refl; may_fail = refl }
handles_set (Handles.moves_ranges seat segs ranges moves) = record { me = refl; deadline = refl; may_fail = refl }
handles_set (Handles.steps seat segs event core is its knows denied may) = record { me = refl; deadline = refl; may_fail = refl }
handles_set (Handles.maps seat segs caught table now core is its caught_up) =
    record { me = refl; deadline = refl; may_fail = caught_up.stays }
handles_set (Handles.follows seat segs caught table member caught_up) = record { me = refl; deadline = refl; may_fail = caught_up.stays }
handles_set (Handles.arms seat segs asked run number is) = record { me = refl; deadline = refl; may_fail = refl }
handles_set (Handles.claims seat segs) = record { me = refl; deadline = refl; may_fail = refl }
handles_set (Handles.settles seat segs since now late) = record { me = refl; deadline = refl; may_fail = refl }
handles_set (Handles.cuts seat segs heap addr run) = record { me = refl; deadline = refl; may_fail = refl }
handles_set (Handles.attaches seat segs caught after tried) = record {
  me = ap (λ party. party.me) tried.after_is;
  deadline = ap (λ party. party.deadline) tried.after_is;
  may_fail =
      ap (λ party. party.maps.may_fail) tried.after_is ∙ (left_may_fail caught tried.maps ∙ tried.caught_up.stays);
}
handles_set (Handles.detaches seat segs told secondary none heard) = record { me = refl; deadline = refl; may_fail = refl }

-- a participant keeps its settings on its way
pub path_set : {count who : ℕ} {old new : Seat} {steps : List MailStep} → SeatTrace count who old new steps → IsSetAs old new
path_set (SeatTrace.ends seat) = record { me = refl; deadline = refl; may_fail = refl }
path_set (SeatTrace.quietly old mid new steps did path) = set_alike old mid new (quietly_set did) (path_set path)
path_set (SeatTrace.holds old new step steps is path) = path_set path
path_set (SeatTrace.mails old mid new step steps did path) = set_alike old mid new (mails_set did) (path_set path)
path_set (SeatTrace.handles old mid new taken given held steps did path) = set_alike old mid new (handles_set did) (path_set path)

-- a seat came from one of these, with its settings
pub record CameFrom (first : List Seat) (who : ℕ) (seat : Seat) : Type 0 where
  pub old : Seat
  pub there : slice_get first who ≡ Some old
  pub alike : IsSetAs old seat

-- at one seat something was done
module _ (first seats : List Seat) (came : (who : ℕ) (seat : Seat) → slice_get seats who ≡ Some seat → CameFrom first who seat)
    (who : ℕ) (old new : Seat) (there : slice_get seats who ≡ Some old) (alike : IsSetAs old new) where
  came_on : (other : ℕ) (seat : Seat) → IsSeatAfter seats who new other seat → CameFrom first other seat
  came_on other seat (IsSeatAfter.apart beside here) = came other seat here
  came_on other seat (IsSeatAfter.its same is) =
      let from = came who old there in
      subst (λ other. CameFrom first other seat) (sym same)
      (subst (CameFrom first who) (sym is)
      (record { old = from.old; there = from.there; alike = set_alike from.old old new from.alike alike }))

module _ {count : ℕ} {first : GlobalState} where
  -- each seat of a run came from a seat of its first moment
  pub came_from : {now : GlobalState} → Runs count first now → (who : ℕ) (seat : Seat) → slice_get now.seats who ≡ Some seat
      → CameFrom first.seats who seat
  came_from (Runs.stands at) who seat there =
      record { old = seat; there = there; alike = record { me = refl; deadline = refl; may_fail = refl } }
  came_from (Runs.goes_on start mid last runs step) who seat there = by_step (came_from runs) step who seat there
    where
      by_step : {old new : GlobalState} → ((who : ℕ) (seat : Seat) → slice_get old.seats who ≡ Some seat → CameFrom first.seats who seat)
          → Steps count old new → (who : ℕ) (seat : Seat) → slice_get new.seats who ≡ Some seat → CameFrom first.seats who seat
      by_step came (Steps.quietly at who from to there did) other seat here =
          came_on first.seats at.seats came who from to there (quietly_set did) other seat
          (seat_behind at.seats who from to there other seat here)
      by_step came (Steps.mails at who from to step there did) other seat here =
          came_on first.seats at.seats came who from to there (mails_set did) other seat
          (seat_behind at.seats who from to there other seat here)
      by_step came (Steps.handles at who from to given there did kept armed) other seat here =
          came_on first.seats at.seats came who from to there (handles_set did) other seat
          (seat_behind at.seats who from to there other seat here)

-- a seat with that number is there
pub record IsSeatAt (seats : List Seat) (who : ℕ) : Type 0 where
  pub seat : Seat
  pub there : slice_get seats who ≡ Some seat

pub seat_at : (seats : List Seat) (who : ℕ) → who < length seats → IsSeatAt seats who
seat_at seats who within = by_found (slice_get seats who) refl
  where
    by_found : (found : Option Seat) → slice_get seats who ≡ found → IsSeatAt seats who
    by_found None none = absurd (none_beyond seats who within none)
      where
        none_beyond : (seats : List Seat) (who : ℕ) → who < length seats → slice_get seats who ≡ None → ⊥
        none_beyond [] who within none = omega (arith, within)
        none_beyond (seat ∷ seats) zero within none = cc
        none_beyond (seat ∷ seats) (suc who) within none = none_beyond seats who (omega (arith, within)) none
    by_found (Some seat) there = record { seat = seat; there = there }

module _ {count : ℕ} {first now : GlobalState} (runs : Runs count first now) where
  -- each seat keeps its number, its deadline, and the calls at which its mapper may fail
  pub settings_stay : (who : ℕ) (old seat : Seat) → slice_get first.seats who ≡ Some old → slice_get now.seats who ≡ Some seat
      → IsSetAs old seat
  settings_stay who old seat early late =
      let from = came_from runs who seat late in
      subst (λ old. IsSetAs old seat) (same_Some from.old old (sym from.there ∙ early)) from.alike

  pub me_stays : (who : ℕ) (old seat : Seat) → slice_get first.seats who ≡ Some old → slice_get now.seats who ≡ Some seat
      → seat.party.me ≡ old.party.me
  me_stays who old seat early late = (settings_stay who old seat early late).me

  pub deadline_stays : (who : ℕ) (old seat : Seat) → slice_get first.seats who ≡ Some old → slice_get now.seats who ≡ Some seat
      → seat.party.deadline ≡ old.party.deadline
  deadline_stays who old seat early late = (settings_stay who old seat early late).deadline

  pub may_fail_stays : (who : ℕ) (old seat : Seat) → slice_get first.seats who ≡ Some old → slice_get now.seats who ≡ Some seat
      → seat.party.maps.may_fail ≡ old.party.maps.may_fail
  may_fail_stays who old seat early late = (settings_stay who old seat early late).may_fail

-- the calls at which the mapper of each may fail
abbrev pub may_fail_in : Option Seat → Option (List FailingCall)
may_fail_in None = None
may_fail_in (Some seat) = seat.party.maps.may_fail

abbrev pub may_fail_of : GlobalState → ℕ → Option (List FailingCall)
may_fail_of at who = may_fail_in (slice_get at.seats who)

-- where all wait as long after a run, they did so at first
pub set_so : (count deadline : ℕ) (first now : GlobalState) → Runs count first now
    → ((who : ℕ) (seat : Seat) → slice_get now.seats who ≡ Some seat → seat.party.deadline ≡ deadline)
    → AreSetSo deadline (may_fail_of now) first
set_so count deadline first now runs waits who old there =
    let one = seat_at now.seats who (omega (arith, slice_get_within first.seats who old there, count_along runs)) in
    let alike = settings_stay runs who old one.seat there one.there in
    (sym alike.deadline ∙ waits who one.seat one.there, sym alike.may_fail ∙ ap may_fail_in (sym one.there))
