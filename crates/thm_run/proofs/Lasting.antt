-- What took numbers stays along a run: more only comes after it, so that of a participant with as many numbers at its end as at its
-- beginning nothing was asked meanwhile.
use Rattle.std.proofs.Common.{◌≡◌, ◌∙◌, ℕ, List, [], ◌∷◌, ◌++◌, length, Some, refl, ap, sym, append-nil, append_assoc, length-append, arith, ◌≤◌}
use Rattle.std.specs.Prelude.{slice_get, slice_set}
use Rattle.hp_hall.specs.Mail.{MailStep}
use Rattle.hp_heap.specs.declared.entry.HeapAnswer.TheVariants as gives
use Rattle.hp_heap.specs.declared.entry.HeapCall.TheVariants as call
use Rattle.hp_proc.specs.Doing.{Done}
use Rattle.hp_segs.specs.SegsView.{SegsView}
use Rattle.thm_run.proofs.TracesTold.Numbers.{AreLater, HasMore, numbers_later, numbers_of}
use Rattle.thm_run.specs.Seats.{Handles, Mails, Quietly, Seat}
use Rattle.thm_run.specs.Together.{GlobalState, Runs, Steps}

-- a seat's trace only gets longer
abbrev GoesOn : Seat → Seat → Type 0
GoesOn old new = HasMore old.trace new.trace

still : (trace : List Done) → HasMore trace trace
still trace = record { more = []; is = sym (append-nil trace) }

with_more : (trace more : List Done) → HasMore trace (trace ++ more)
with_more trace more = record { more = more; is = refl }

quietly_on : {old new : Seat} → Quietly old new → GoesOn old new
quietly_on (Quietly.hears seat answered) = still seat.trace
quietly_on (Quietly.counts seat sent) = still seat.trace
quietly_on (Quietly.calls seat heap call answer none) = with_more seat.trace (Done.Called heap call answer ∷ [])
quietly_on (Quietly.notes seat elements chunks) = still seat.trace
quietly_on (Quietly.reads_names seat names) = with_more seat.trace (Done.NamesRead names ∷ [])
quietly_on (Quietly.reads_stats seat heap counted) = with_more seat.trace (Done.StatsRead heap counted ∷ [])
quietly_on (Quietly.changes_names seat change) = with_more seat.trace (Done.NamesChanged change ∷ [])
quietly_on (Quietly.sees_heap seat heap history) = with_more seat.trace (Done.HeapSeen heap history ∷ [])
quietly_on (Quietly.plans_range seat addr len page plan) = with_more seat.trace (Done.RangePlanned addr len page plan ∷ [])
quietly_on (Quietly.maps_chunk seat chunk maps ended is) = with_more seat.trace (Done.ChunkMapped chunk ended ∷ [])
quietly_on (Quietly.leaves_chunk seat chunk maps is) = still seat.trace
quietly_on (Quietly.ends_line seat deed given) = still seat.trace

mails_on : {who : ℕ} {old new : Seat} {step : MailStep} → Mails who old new step → GoesOn old new
mails_on (Mails.notes seat note) = still seat.trace
mails_on (Mails.finds_nothing seat) = still seat.trace
mails_on (Mails.fetches seat frame) = still seat.trace
mails_on (Mails.asks seat ask frame action posted its says) = still seat.trace
mails_on (Mails.tells seat heap run frame action posted says) = with_more seat.trace (Done.GaveUp heap run ∷ [])
mails_on (Mails.speaks seat to frame body action posted nothing says) = still seat.trace

handles_on : {count who : ℕ} {old new : Seat} {taken given : SegsView} → Handles count who old new taken given → GoesOn old new
handles_on (Handles.looks seat segs) = still seat.trace
handles_on (Handles.moves_ranges seat segs ranges moves) = still seat.trace
handles_on (Handles.steps seat segs event core is its knows denied may) = still seat.trace
handles_on (Handles.maps seat segs caught table now core is its caught_up) = still seat.trace
handles_on (Handles.follows seat segs caught table member caught_up) = still seat.trace
handles_on (Handles.arms seat segs asked run number is) = with_more seat.trace (Done.Asked asked run ∷ [])
handles_on (Handles.claims seat segs) = still seat.trace
handles_on (Handles.settles seat segs since now late) = still seat.trace
handles_on (Handles.cuts seat segs heap addr run) =
    with_more seat.trace (Done.Called heap (call.Cut addr) (gives.Pages run) ∷ [])
handles_on (Handles.attaches seat segs caught after tried) =
    with_more seat.trace (Done.Looked (length segs.log) ∷ Done.CaughtUp (length segs.log) caught ∷ [])
handles_on (Handles.detaches seat segs told secondary none heard) = still seat.trace

module _ (seats : List Seat) (who : ℕ) (old new : Seat) (there : slice_get seats who ≡ Some old) where
  seat_on : GoesOn old new → AreLater (numbers_of seats) (numbers_of (slice_set seats who new))
  seat_on on = numbers_later seats who old new there on.more on.is

step_later : {count : ℕ} {old new : GlobalState} → Steps count old new → AreLater (numbers_of old.seats) (numbers_of new.seats)
step_later (Steps.quietly at who old new there did) = seat_on at.seats who old new there (quietly_on did)
step_later (Steps.mails at who old new step there did) = seat_on at.seats who old new there (mails_on did)
step_later (Steps.handles at who old new given there did kept armed) = seat_on at.seats who old new there (handles_on did)

later_then : (first mid last : ℕ → List Done) → AreLater first mid → AreLater mid last → AreLater first last
later_then first mid last here there who = record {
  more = (here who).more ++ (there who).more;
  is = (there who).is
      ∙ (ap (λ numbers. numbers ++ (there who).more) (here who).is ∙ append_assoc (first who) (here who).more (there who).more);
}

-- along a run more only comes after
pub runs_later : {count : ℕ} {first now : GlobalState} → Runs count first now → AreLater (numbers_of first.seats) (numbers_of now.seats)
runs_later (Runs.stands at) = λ who. record { more = []; is = sym (append-nil (numbers_of at.seats who)) }
runs_later (Runs.goes_on first mid last runs step) =
    later_then (numbers_of first.seats) (numbers_of mid.seats) (numbers_of last.seats) (runs_later runs) (step_later step)

-- so there are no fewer
pub runs_longer : {count : ℕ} {first now : GlobalState} → Runs count first now → (who : ℕ)
    → length (numbers_of first.seats who) ≤ length (numbers_of now.seats who)
runs_longer {count} {first} {now} runs who =
    let on = runs_later runs who in
    omega (arith, ap length on.is, length-append (numbers_of first.seats who) on.more)

pub step_longer : {count : ℕ} {old new : GlobalState} → Steps count old new → (who : ℕ)
    → length (numbers_of old.seats who) ≤ length (numbers_of new.seats who)
step_longer {count} {old} {new} step who =
    let on = step_later step who in
    omega (arith, ap length on.is, length-append (numbers_of old.seats who) on.more)
