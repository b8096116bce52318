-- The lines that have ended stay along a run: more only come behind them.
use Rattle.std.proofs.Common.{◌≡◌, ◌∙◌, ℕ, List, [], ◌∷◌, ◌++◌, append-nil, Some, refl, sym, subst, ⊎_elim}
use Rattle.std.specs.Prelude.{slice_get, slice_set}
use Rattle.std.proofs.lemmas.Bool.{cases_eq}
use Rattle.std.proofs.lemmas.Option.{same_Some}
use Rattle.hp_hall.specs.Mail.{MailStep}
use Rattle.hp_segs.specs.SegsView.{SegsView}
use Rattle.thm_run.proofs.DenialsKnown.{IsWithin, denies_by_lines, denies_longer, within_then}
use Rattle.thm_run.proofs.SeatFacts.Seating.{its_seat, other_seat}
use Rattle.thm_run.specs.Seats.{EndedLine, Handles, Mails, Quietly, Seat, line_ended}
use Rattle.thm_run.specs.Together.{GlobalState, Steps}
use Rattle.hp_serve.specs.Denials.{Denials}

-- lines have ended besides those before
pub record HasMoreLines (old new : Seat) : Type 0 where
  pub more : List EndedLine
  pub is : new.lines ≡ old.lines ++ more

same : (seat : Seat) (new : Seat) → new.lines ≡ seat.lines → HasMoreLines seat new
same seat new is = record { more = []; is = subst (λ (lines : List EndedLine). new.lines ≡ lines) (sym (append-nil seat.lines)) is }

pub quietly_lines : {old new : Seat} → Quietly old new → HasMoreLines old new
quietly_lines (Quietly.hears seat answered) = same seat _ refl
quietly_lines (Quietly.counts seat sent) = same seat _ refl
quietly_lines (Quietly.calls seat heap call answer none) = same seat _ refl
quietly_lines (Quietly.notes seat elements chunks) = same seat _ refl
quietly_lines (Quietly.reads_names seat names) = same seat _ refl
quietly_lines (Quietly.reads_stats seat heap counted) = same seat _ refl
quietly_lines (Quietly.changes_names seat change) = same seat _ refl
quietly_lines (Quietly.sees_heap seat heap history) = same seat _ refl
quietly_lines (Quietly.plans_range seat addr len page plan) = same seat _ refl
quietly_lines (Quietly.maps_chunk seat chunk maps ended is) = same seat _ refl
quietly_lines (Quietly.leaves_chunk seat chunk maps is) = same seat _ refl
quietly_lines (Quietly.ends_line seat deed given) = record { more = line_ended deed given seat ∷ []; is = refl }

pub mails_lines : {who : ℕ} {old new : Seat} {step : MailStep} → Mails who old new step → HasMoreLines old new
mails_lines (Mails.notes seat note) = same seat seat refl
mails_lines (Mails.finds_nothing seat) = same seat seat refl
mails_lines (Mails.fetches seat frame) = same seat _ refl
mails_lines (Mails.asks seat ask frame action posted its says) = same seat seat refl
mails_lines (Mails.tells seat heap run frame action posted says) = same seat _ refl
mails_lines (Mails.speaks seat to frame body action posted nothing says) = same seat seat refl

pub handles_lines : {count who : ℕ} {old new : Seat} {taken given : SegsView} → Handles count who old new taken given → HasMoreLines old new
handles_lines (Handles.looks seat segs) = same seat seat refl
handles_lines (Handles.moves_ranges seat segs ranges moves) = same seat seat refl
handles_lines (Handles.steps seat segs event core is its knows denied may) = same seat _ refl
handles_lines (Handles.maps seat segs caught table now core is its caught_up) = same seat _ refl
handles_lines (Handles.follows seat segs caught table member caught_up) = same seat _ refl
handles_lines (Handles.arms seat segs asked run number is) = same seat _ refl
handles_lines (Handles.claims seat segs) = same seat seat refl
handles_lines (Handles.settles seat segs since now late) = same seat seat refl
handles_lines (Handles.cuts seat segs heap addr run) = same seat _ refl
handles_lines (Handles.attaches seat segs caught after tried) = same seat _ refl
handles_lines (Handles.detaches seat segs told secondary none heard) = same seat _ refl

-- judges may deny what the lines that have ended register, of every participant
abbrev pub MayDenyByLines : Denials → GlobalState → Type 0
MayDenyByLines denies at = (who : ℕ) (seat : Seat) → slice_get at.seats who ≡ Some seat → IsWithin (denies_by_lines seat.lines) denies

module _ (denies : Denials) (seats : List Seat) (who : ℕ) (old new : Seat) (there : slice_get seats who ≡ Some old) (more : HasMoreLines old new)
  where
    -- and so they might before one of them came to something else
    before_it : ((other : ℕ) (seat : Seat) → slice_get (slice_set seats who new) other ≡ Some seat → IsWithin (denies_by_lines seat.lines) denies)
        → (other : ℕ) (seat : Seat) → slice_get seats other ≡ Some seat → IsWithin (denies_by_lines seat.lines) denies
    before_it later other seat at =
        ⊎_elim
        (λ (same : other ≡ who).
        let own : old ≡ seat = same_Some old seat (sym (subst (λ (who : ℕ). slice_get seats who ≡ Some old) (sym same) there) ∙ at) in
        subst (λ (seat : Seat). IsWithin (denies_by_lines seat.lines) denies) own
        (within_then (denies_by_lines old.lines) (denies_by_lines new.lines) denies
        (subst (λ (lines : List EndedLine). IsWithin (denies_by_lines old.lines) (denies_by_lines lines)) (sym more.is)
        (denies_longer old.lines more.more)) (later who new (its_seat seats who old new there))))
        (λ beside. later other seat (other_seat seats who old new there other beside ∙ at))
        (cases_eq other who)

pub denies_before : {count : ℕ} {old new : GlobalState} (denies : Denials) → Steps count old new → MayDenyByLines denies new → MayDenyByLines denies old
denies_before denies (Steps.quietly at who old new there did) later = before_it denies at.seats who old new there (quietly_lines did) later
denies_before denies (Steps.mails at who old new step there did) later = before_it denies at.seats who old new there (mails_lines did) later
denies_before denies (Steps.handles at who old new given there did sound armed) later =
    before_it denies at.seats who old new there (handles_lines did) later
