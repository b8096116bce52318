-- What a participant makes of its place in the roster, and whether it has a table, by how often it has tried to attach.
use Rattle.std.proofs.Common.{◌≡◌, ◌∙◌, ℕ, ◌+◌, ◌||◌, Bool, true, false, List, [], ◌∷◌, ◌++◌, length, refl, ap, sym, subst, arith, Option, None}
use Rattle.std.specs.Prelude.{slice_set}
use Rattle.hp_base.specs.Mapping.{is_done}
use Rattle.hp_base.specs.declared.caught.Caught.{Caught}
use Rattle.hp_base.specs.declared.caught.Caught.TheVariants as caught
use Rattle.hp_core.specs.Core.{Core}
use Rattle.hp_core.specs.Following.{after_catching}
use Rattle.hp_core.specs.declared.event.CoreEvent.{CoreEvent}
use Rattle.hp_core.specs.declared.event.CoreEvent.TheVariants.{SelfMapped}
use Rattle.hp_core.proofs.GivingSteps.{steps_give}
use Rattle.hp_hall.specs.Mail.{MailStep}
use Rattle.hp_segs.specs.LaterSteps.{after_withdraw}
use Rattle.hp_segs.specs.SegsView.{SegsView, is_member}
use Rattle.hp_segs.specs.Sound.{IsSound}
use Rattle.hp_segs.specs.Steps.{after_claim}
use Rattle.hp_serve.specs.Attaching.{after_attaching}
use Rattle.hp_serve.specs.Coordinating.{stepping, with_room}
use Rattle.hp_proc.specs.Doing.{Done}
use Rattle.hp_proc.specs.Doing.Done.{Asked, Called, CaughtUp, ChunkMapped, GaveUp, HeapSeen, Looked, NamesChanged, NamesRead, RangePlanned, StatsRead}
use Rattle.thm_run.specs.Seats.{Handles, Mails, Quietly, Seat}
use Rattle.thm_run.proofs.RunFacts.CallCases.{claim_holds, withdraw_holds}
use Rattle.thm_run.proofs.Following.{catching_by}
use Rattle.thm_run.proofs.Leaving.{room_sound}

-- how often a trace catches up with the log for a line that attaches
abbrev pub tries_in : List Done → ℕ
tries_in [] = 0
tries_in (CaughtUp to caught ∷ trace) = 1 + tries_in trace
tries_in (_ ∷ trace) = tries_in trace

pub tries_both : (trace more : List Done) → tries_in (trace ++ more) ≡ tries_in trace + tries_in more
tries_both [] more = omega arith
tries_both (CaughtUp to caught ∷ trace) more = omega (arith, tries_both trace more)
tries_both (_ ∷ trace) more = tries_both trace more

-- what is done by a participant to its seat and to the roster
pub data MovesSeat (who : ℕ) (old new : Seat) (taken given : List Bool) : Type 0 where
  -- nothing
  stays : given ≡ taken → new.party.joined ≡ old.party.joined → tries_in new.trace ≡ tries_in old.trace → MovesSeat who old new taken given
  -- it is in the roster, and has a table if it had one, or has caught up
  serves : (ended : Bool) → given ≡ taken → is_member taken who ≡ true → new.party.joined ≡ (old.party.joined || ended)
      → tries_in new.trace ≡ tries_in old.trace → MovesSeat who old new taken given
  -- it has tried to attach, and is in the roster once it has a table
  joins : given ≡ slice_set taken who true → new.party.joined ≡ true → tries_in new.trace ≡ tries_in old.trace + 1
      → MovesSeat who old new taken given
  fails : given ≡ taken → new.party.joined ≡ false → tries_in new.trace ≡ tries_in old.trace + 1 → MovesSeat who old new taken given
  -- it has left
  leaves : given ≡ slice_set taken who false → new.party.joined ≡ false → tries_in new.trace ≡ tries_in old.trace
      → MovesSeat who old new taken given

-- where what is done more is no try, there are as many as before
tries_same : (trace more : List Done) → tries_in more ≡ 0 → tries_in (trace ++ more) ≡ tries_in trace
tries_same trace more none = omega (arith, tries_both trace more, none)

pub quietly_moves : {old new : Seat} → (who : ℕ) → (roster : List Bool) → Quietly old new → MovesSeat who old new roster roster
quietly_moves who roster (Quietly.hears seat answered) = stays refl refl refl
quietly_moves who roster (Quietly.counts seat sent) = stays refl refl refl
quietly_moves who roster (Quietly.calls seat heap call answer none) =
    stays refl refl (tries_same seat.trace (Called heap call answer ∷ []) refl)
quietly_moves who roster (Quietly.notes seat elements chunks) = stays refl refl refl
quietly_moves who roster (Quietly.reads_names seat names) =
    stays refl refl (tries_same seat.trace (NamesRead names ∷ []) refl)
quietly_moves who roster (Quietly.reads_stats seat heap counted) =
    stays refl refl (tries_same seat.trace (StatsRead heap counted ∷ []) refl)
quietly_moves who roster (Quietly.changes_names seat change) =
    stays refl refl (tries_same seat.trace (NamesChanged change ∷ []) refl)
quietly_moves who roster (Quietly.sees_heap seat heap history) =
    stays refl refl (tries_same seat.trace (HeapSeen heap history ∷ []) refl)
quietly_moves who roster (Quietly.plans_range seat addr len page plan) =
    stays refl refl (tries_same seat.trace (RangePlanned addr len page plan ∷ []) refl)
quietly_moves who roster (Quietly.maps_chunk seat chunk maps ended is) =
    stays refl refl (tries_same seat.trace (ChunkMapped chunk ended ∷ []) refl)
quietly_moves who roster (Quietly.leaves_chunk seat chunk maps is) = stays refl refl refl
quietly_moves who roster (Quietly.ends_line seat deed given) = stays refl refl refl

pub mails_moves : {who : ℕ} {old new : Seat} {step : MailStep} → (roster : List Bool) → Mails who old new step
    → MovesSeat who old new roster roster
mails_moves roster (Mails.notes seat note) = stays refl refl refl
mails_moves roster (Mails.finds_nothing seat) = stays refl refl refl
mails_moves roster (Mails.fetches seat frame) = stays refl refl refl
mails_moves roster (Mails.asks seat ask frame action posted its says) = stays refl refl refl
mails_moves roster (Mails.tells seat heap run frame action posted says) =
    stays refl refl (tries_same seat.trace (GaveUp heap run ∷ []) refl)
mails_moves roster (Mails.speaks seat to frame body action posted nothing says) = stays refl refl refl

-- the coordinator leaves the roster
core_roster : (denied : Option (List ℕ × ℕ)) (event : CoreEvent) (core : Core) (segs : SegsView) → IsSound segs
    → (stepping denied event core segs).segs.roster ≡ segs.roster
core_roster denied event core segs sound = (steps_give (λ socket total. denied) event core (with_room segs) (room_sound segs sound)).roster

-- so does who catches up, claims, or takes an ask back
catching_roster : (who : ℕ) (ended : Caught) (segs : SegsView) → (after_catching who ended segs).roster ≡ segs.roster
catching_roster who ended segs =
    catching_by (λ (new : SegsView). new.roster ≡ segs.roster) segs refl who (λ call addr got. refl) ended

claim_roster : (from number : ℕ) (segs : SegsView) → (after_claim from number segs).roster ≡ segs.roster
claim_roster from number segs = claim_holds (λ (new : SegsView). new.roster ≡ segs.roster) segs refl from number (λ generation. refl)

withdraw_roster : (from number since now : ℕ) (segs : SegsView) → (after_withdraw from number since now segs).roster ≡ segs.roster
withdraw_roster from number since now segs =
    withdraw_holds (λ (new : SegsView). new.roster ≡ segs.roster) segs refl from number since now (λ none other. refl)
    (λ none growth is own. refl)

-- it tried to attach
attach_moves : (who : ℕ) (old new : Seat) (segs : SegsView) (ended : Caught) → new.party.joined ≡ is_done ended
    → tries_in new.trace ≡ tries_in old.trace + 1 → MovesSeat who old new segs.roster (after_attaching who ended segs).roster
attach_moves who old new segs caught.Done is tries = joins refl is tries
attach_moves who old new segs (caught.Refused row call) is tries = fails refl is tries
attach_moves who old new segs (caught.Elsewhere row call got) is tries = fails refl is tries

pub handles_moves : {count who : ℕ} {old new : Seat} {taken given : SegsView} → Handles count who old new taken given → IsSound taken
    → MovesSeat who old new taken.roster given.roster
handles_moves (Handles.looks seat segs) sound = stays refl refl refl
handles_moves (Handles.moves_ranges seat segs ranges moves) sound = stays refl refl refl
handles_moves (Handles.steps seat segs event core is its knows denied may) sound = stays (core_roster denied event core segs sound) refl refl
handles_moves (Handles.maps seat segs ended table now core is its caught_up) sound =
    serves (is_done ended) (core_roster None (SelfMapped ended now) core segs sound)
    (subst (λ who. is_member segs.roster who ≡ true) (sym is) sound.places.primary) refl refl
handles_moves {count} {who} (Handles.follows seat segs ended table member caught_up) sound =
    serves (is_done ended) (catching_roster who ended segs) member refl refl
handles_moves (Handles.arms seat segs asked run number is) sound = stays refl refl (tries_same seat.trace (Asked asked run ∷ []) refl)
handles_moves {count} {who} (Handles.claims seat segs) sound = stays (claim_roster who seat.party.asked segs) refl refl
handles_moves {count} {who} (Handles.settles seat segs since now late) sound =
    stays
    (claim_roster who seat.party.asked (after_withdraw who seat.party.asked since now segs)
    ∙ withdraw_roster who seat.party.asked since now segs) refl refl
handles_moves (Handles.cuts seat segs heap addr run) sound = stays refl refl (tries_same seat.trace _ refl)
handles_moves {count} {who} (Handles.attaches seat segs ended after tried) sound =
    attach_moves who seat _ segs ended (ap (λ party. party.joined) tried.after_is)
    (tries_both seat.trace (Looked (length segs.log) ∷ CaughtUp (length segs.log) ended ∷ []))
handles_moves (Handles.detaches seat segs told secondary none heard) sound = leaves refl refl refl
