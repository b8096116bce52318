-- Each step of a participant keeps what all have of their numbers.
use Rattle.std.proofs.Common.{◌≡◌, ◌∙◌, ℕ, ◌≤◌, List, [], ◌∷◌, ◌++◌, length, Some, refl, ap, sym, subst, append-nil, arith, None}
use Rattle.std.specs.Prelude.{slice_get, slice_set}
use Rattle.std.specs.List.{All}
use Rattle.hp_base.specs.declared.caught.Caught.{Caught}
use Rattle.hp_base.specs.declared.caught.Caught.TheVariants as caught
use Rattle.hp_core.proofs.GivingLemmas.{catches_note}
use Rattle.hp_core.specs.declared.event.CoreEvent.TheVariants.{SelfMapped}
use Rattle.hp_frame.specs.declared.frame.Frame.{Frame}
use Rattle.hp_hall.specs.Mail.{MailStep}
use Rattle.hp_plain.specs.Boxes.{after_step}
use Rattle.hp_log.specs.declared.log_record.LogRecord.{LogRecord}
use Rattle.hp_segs.specs.Causes.{AllCaused}
use Rattle.hp_segs.specs.GrowthLaws.{HasArmedGrowth}
use Rattle.hp_segs.specs.LaterSteps.{after_withdraw}
use Rattle.hp_segs.specs.SegsView.{SegsView}
use Rattle.hp_segs.specs.Sound.{IsSound}
use Rattle.hp_segs.specs.Steps.{after_claim}
use Rattle.hp_serve.specs.Attaching.{Attaches, after_attaching}
use Rattle.hp_proc.specs.Doing.{Done}
use Rattle.hp_serve.specs.Party.{Party}
use Rattle.hp_serve.specs.Serving.{after_catching_up}
use Rattle.hp_proc.specs.Courses.{Standing}
use Rattle.thm_run.proofs.Leaving.{claim_leaves, withdraw_leaves}
use Rattle.thm_run.proofs.Made.{IsPost}
use Rattle.thm_run.proofs.TracesTold.Numbers.{its_numbers, numbers_of}
use Rattle.thm_run.proofs.TracesTold.Traced.{AreMade, AreNumbered, AreTold, AreTraced}
use Rattle.thm_run.proofs.TracesTold.TracedAsks.{traced_arming, traced_telling}
use Rattle.thm_run.proofs.TracesTold.TracedCore.{known_brings, traced_event}
use Rattle.thm_run.proofs.TracesTold.TracedSeats.{IsSameSeat, traced_on}
use Rattle.thm_run.proofs.Withdrawn.{withdraw_numbers}
use Rattle.thm_run.specs.Seats.{Handles, Mails, Quietly, Seat, having_done, leaving}
use Rattle.thm_run.specs.Together.{GlobalState, Steps, with_seat, with_segs}

-- a seat is as it was, and nothing was done there
same : (seat : Seat) → IsSameSeat seat seat
same seat = record { me = refl; core = refl; asked = refl; asking = refl }

still : (seat : Seat) → seat.trace ≡ seat.trace ++ []
still seat = sym (append-nil seat.trace)

-- what nobody sees
pub traced_quietly : (at : GlobalState) (who : ℕ) (old new : Seat) → AreTraced at → slice_get at.seats who ≡ Some old → Quietly old new
    → AreTraced (with_seat who new at)
traced_quietly at who old new was there (Quietly.hears seat answered) =
    traced_on at was who old new there [] (still old) at.segs at.boxes refl (record { me = refl; core = refl; asked = refl; asking = refl })
    refl refl
traced_quietly at who old new was there (Quietly.counts seat sent) =
    traced_on at was who old new there [] (still old) at.segs at.boxes refl (record { me = refl; core = refl; asked = refl; asking = refl })
    refl refl
traced_quietly at who old new was there (Quietly.calls seat heap call answer none) =
    traced_on at was who old new there (Done.Called heap call answer ∷ []) refl at.segs at.boxes refl
    (record { me = refl; core = refl; asked = refl; asking = refl }) refl refl
traced_quietly at who old new was there (Quietly.notes seat elements chunks) =
    traced_on at was who old new there [] (still old) at.segs at.boxes refl (record { me = refl; core = refl; asked = refl; asking = refl })
    refl refl
traced_quietly at who old new was there (Quietly.reads_names seat names) =
    traced_on at was who old new there (Done.NamesRead names ∷ []) refl at.segs at.boxes refl
    (record { me = refl; core = refl; asked = refl; asking = refl }) refl refl
traced_quietly at who old new was there (Quietly.reads_stats seat heap counted) =
    traced_on at was who old new there (Done.StatsRead heap counted ∷ []) refl at.segs at.boxes refl
    (record { me = refl; core = refl; asked = refl; asking = refl }) refl refl
traced_quietly at who old new was there (Quietly.changes_names seat change) =
    traced_on at was who old new there (Done.NamesChanged change ∷ []) refl at.segs at.boxes refl
    (record { me = refl; core = refl; asked = refl; asking = refl }) refl refl
traced_quietly at who old new was there (Quietly.sees_heap seat heap history) =
    traced_on at was who old new there (Done.HeapSeen heap history ∷ []) refl at.segs at.boxes refl
    (record { me = refl; core = refl; asked = refl; asking = refl }) refl refl
traced_quietly at who old new was there (Quietly.plans_range seat addr len page plan) =
    traced_on at was who old new there (Done.RangePlanned addr len page plan ∷ []) refl at.segs at.boxes refl
    (record { me = refl; core = refl; asked = refl; asking = refl }) refl refl
traced_quietly at who old new was there (Quietly.maps_chunk seat chunk maps ended is) =
    traced_on at was who old new there (Done.ChunkMapped chunk ended ∷ []) refl at.segs at.boxes refl
    (record { me = refl; core = refl; asked = refl; asking = refl }) refl refl
traced_quietly at who old new was there (Quietly.leaves_chunk seat chunk maps is) =
    traced_on at was who old new there [] (still old) at.segs at.boxes refl (record { me = refl; core = refl; asked = refl; asking = refl })
    refl refl
traced_quietly at who old new was there (Quietly.ends_line seat deed given) =
    traced_on at was who old new there [] (still old) at.segs at.boxes refl (record { me = refl; core = refl; asked = refl; asking = refl })
    refl refl

-- what is done with mailboxes, whatever lies in them
pub traced_mails : (at : GlobalState) (who : ℕ) (old new : Seat) (step : MailStep) (boxes : List (List Frame)) → AreTraced at
    → slice_get at.seats who ≡ Some old → Mails who old new step
    → AreTraced (record { seats = slice_set at.seats who new; segs = at.segs; boxes = boxes })
traced_mails at who old new step boxes was there (Mails.notes seat note) =
    traced_on at was who old new there [] (still old) at.segs boxes refl (same old) refl refl
traced_mails at who old new step boxes was there (Mails.finds_nothing seat) =
    traced_on at was who old new there [] (still old) at.segs boxes refl (same old) refl refl
traced_mails at who old new step boxes was there (Mails.fetches seat frame) =
    traced_on at was who old new there [] (still old) at.segs boxes refl (record { me = refl; core = refl; asked = refl; asking = refl })
    refl refl
traced_mails at who old new step boxes was there (Mails.asks seat ask frame action posted its says) =
    traced_on at was who old new there [] (still old) at.segs boxes refl (same old) refl refl
traced_mails at who old new step boxes was there (Mails.tells seat heap run frame action posted says) =
    traced_telling at was who old there heap run boxes
traced_mails at who old new step boxes was there (Mails.speaks seat to frame body action posted nothing says) =
    traced_on at was who old new there [] (still old) at.segs boxes refl (same old) refl refl

-- the armed asks and the outcomes are as they were
record IsBeside (old new : SegsView) : Type 0 where
  pub armed : new.armed ≡ old.armed
  pub asks : new.asks ≡ old.asks

-- whoever attaches changes the roster alone
attach_beside : (who : ℕ) (ended : Caught) (segs : SegsView) → IsBeside segs (after_attaching who ended segs)
attach_beside who caught.Done segs = record { armed = refl; asks = refl }
attach_beside who (caught.Refused row call) segs = record { armed = refl; asks = refl }
attach_beside who (caught.Elsewhere row call got) segs = record { armed = refl; asks = refl }

-- and keeps its numbers
attached_same : (seat : Seat) (after : Party) (standing : Standing) (log : List LogRecord) (ended : Caught) (more : List Done)
    → Attaches seat.party after log ended → IsSameSeat seat (leaving standing (having_done after more seat))
attached_same seat after standing log ended more does = record {
  me = ap (λ (party : Party). party.me) does.after_is;
  core = ap (λ (party : Party). party.core) does.after_is;
  asked = ap (λ (party : Party). party.asked) does.after_is;
  asking = refl;
}

-- it took its ask back, and claimed what was granted
traced_settling : (at : GlobalState) (who : ℕ) (old : Seat) (since now : ℕ) → AreTraced at → slice_get at.seats who ≡ Some old
    → IsSound (after_claim who old.party.asked (after_withdraw who old.party.asked since now at.segs))
    → AreTraced (with_segs (after_claim who old.party.asked (after_withdraw who old.party.asked since now at.segs)) (with_seat who old at))
traced_settling at who old since now was there sound =
    let mid = after_withdraw who old.party.asked since now at.segs in
    let given = after_claim who old.party.asked mid in
    let claimed = claim_leaves who old.party.asked mid in
    let left = withdraw_leaves at.segs who old.party.asked since now in
    let took = numbers_of at.seats in
    let long : length (took who) ≤ old.party.asked =
    omega (arith, (was.seats who old there).count, ap length (its_numbers at.seats who old there)) in
    let asks : AreNumbered took mid.asks =
    withdraw_numbers took at.segs who old.party.asked since now was.armed was.asks long given.pools given.log
    (subst (AllCaused given.pools given.log []) claimed.asks sound.asks.caused) in
    let moved : AreTraced (with_segs given at) = record {
      seats = was.seats;
      armed = subst (AreMade took) (sym (claimed.armed ∙ left.armed)) was.armed;
      asks = subst (AreNumbered took) (sym claimed.asks) asks;
    } in
    traced_on (with_segs given at) moved who old old there [] (still old) given at.boxes refl (same old) refl refl

-- what is made of the segment value, where whoever makes it has fetched what took numbers alone
pub traced_handles : (count : ℕ) (at : GlobalState) (who : ℕ) (old new : Seat) (given : SegsView) → AreTraced at → slice_get at.seats who ≡ Some old
    → All (IsPost (numbers_of at.seats)) old.fetched → Handles count who old new at.segs given → HasArmedGrowth at.segs → IsSound given
    → AreTraced (with_segs given (with_seat who new at))
traced_handles count at who old new given was there fetched (Handles.looks seat segs) growth sound =
    traced_on at was who old new there [] (still old) given at.boxes refl (same old) refl refl
traced_handles count at who old new given was there fetched (Handles.moves_ranges seat segs ranges moves) growth sound =
    traced_on at was who old new there [] (still old) given at.boxes refl (same old) refl refl
traced_handles count at who old new given was there fetched (Handles.steps seat segs event core zero its knows denied may) growth sound =
    traced_event at was who old there denied event core its
    (known_brings (numbers_of at.seats) count old event fetched knows) growth old.party refl refl
traced_handles count at who old new given was there fetched (Handles.maps seat segs ended table now core zero its up) growth sound =
    traced_event at was who old there None (SelfMapped ended now) core its tt growth (after_catching_up segs.log ended table old.party) refl refl
traced_handles count at who old new given was there fetched (Handles.follows seat segs ended table member up) growth sound =
    let notes = catches_note who ended at.segs member in
    traced_on at was who old new there [] (still old) given at.boxes refl
    (record { me = refl; core = refl; asked = refl; asking = refl }) notes.armed notes.asks
traced_handles count at who old new given was there fetched (Handles.arms seat segs asked run number is) growth sound =
    traced_arming at was who old there asked run number is
traced_handles count at who old new given was there fetched (Handles.claims seat segs) growth sound =
    let claimed = claim_leaves who old.party.asked at.segs in
    traced_on at was who old new there [] (still old) given at.boxes refl (same old) claimed.armed claimed.asks
traced_handles count at who old new given was there fetched (Handles.settles seat segs since now late) growth sound =
    traced_settling at who old since now was there sound
traced_handles count at who old new given was there fetched (Handles.cuts seat segs heap addr run) growth sound =
    let more : List Done = Done.Called heap _ _ ∷ [] in
    traced_on at was who old new there more refl given at.boxes refl
    (record { me = refl; core = refl; asked = refl; asking = refl }) refl refl
traced_handles count at who old new given was there fetched (Handles.attaches seat segs ended after does) growth sound =
    let more : List Done = Done.Looked (length at.segs.log) ∷ Done.CaughtUp (length at.segs.log) ended ∷ [] in
    let beside = attach_beside who ended at.segs in
    traced_on at was who old new there more refl given at.boxes refl (attached_same old after _ at.segs.log ended more does) beside.armed
    beside.asks
traced_handles count at who old new given was there fetched (Handles.detaches seat segs told other none heard) growth sound =
    traced_on at was who old new there [] (still old) given at.boxes refl
    (record { me = refl; core = refl; asked = refl; asking = refl }) refl refl

-- a step
pub traced_step : (count : ℕ) (at new : GlobalState) → Steps count at new → AreTraced at → AreTold at → HasArmedGrowth at.segs → AreTraced new
traced_step count at new (Steps.quietly before who old now there does) was told growth = traced_quietly at who old now was there does
traced_step count at new (Steps.mails before who old now step there does) was told growth =
    traced_mails at who old now step (after_step who step at.boxes) was there does
traced_step count at new (Steps.handles before who old now given there does good armed) was told growth =
    traced_handles count at who old now given was there (told.fetched who old there) does growth good
