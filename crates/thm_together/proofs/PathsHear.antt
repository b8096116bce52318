-- Along a path on which no line ends watchers keep their names and their first tables.
use Rattle.std.proofs.Common.{◌≡◌, ◌∙◌, ℕ, ◌+◌, ◌≤◌, List, [], ◌∷◌, ◌++◌, length, length-append, map, refl, ap, sym, subst, arith}
use Rattle.hp_base.specs.Telling.{Listener}
use Rattle.hp_base.specs.declared.event.EventKind.TheVariants as kind
use Rattle.hp_hall.specs.Mail.{MailStep}
use Rattle.hp_maps.specs.Events.{events_of}
use Rattle.hp_segs.specs.SegsView.{SegsView}
use Rattle.hp_serve.proofs.HearsLemmas.{hears_caught, hears_rows, hears_same, hears_then}
use Rattle.hp_serve.specs.Watched.{HearsOn}
use Rattle.thm_run.proofs.Registrations.KeptWatchers.{since_all}
use Rattle.thm_run.specs.Seats.{EndedLine, Handles, Mails, Quietly, Seat, SeatTrace, line_ended}

-- HOW MANY LINES HAVE ENDED

one_more : (lines : List EndedLine) (line : EndedLine) → length (lines ++ line ∷ []) ≡ 1 + length lines
one_more lines line =
    let both = length-append lines (line ∷ []) in
    omega (arith, both)

quietly_lines : {old new : Seat} → Quietly old new → length old.lines ≤ length new.lines
quietly_lines (Quietly.hears seat answered) = omega arith
quietly_lines (Quietly.counts seat sent) = omega arith
quietly_lines (Quietly.ends_line seat deed given) =
    let more = one_more seat.lines (line_ended deed given seat) in
    omega (arith, more)
quietly_lines _ = omega arith

mails_lines : {who : ℕ} {old new : Seat} {step : MailStep} → Mails who old new step → length old.lines ≤ length new.lines
mails_lines (Mails.notes seat note) = omega arith
mails_lines (Mails.finds_nothing seat) = omega arith
mails_lines (Mails.fetches seat frame) = omega arith
mails_lines (Mails.asks seat ask frame action posted its says) = omega arith
mails_lines (Mails.tells seat heap run frame action posted says) = omega arith
mails_lines (Mails.speaks seat to frame body action posted nothing says) = omega arith

handles_lines : {count who : ℕ} {old new : Seat} {taken given : SegsView} → Handles count who old new taken given
    → length old.lines ≤ length new.lines
handles_lines (Handles.looks seat segs) = omega arith
handles_lines (Handles.steps seat segs event core its zero knows denied may) = omega arith
handles_lines (Handles.maps seat segs ended table now core its zero caught_up) = omega arith
handles_lines (Handles.follows seat segs ended table member caught_up) = omega arith
handles_lines (Handles.arms seat segs asked run number its) = omega arith
handles_lines (Handles.claims seat segs) = omega arith
handles_lines (Handles.settles seat segs since now late) = omega arith
handles_lines (Handles.cuts seat segs heap addr run) = omega arith
handles_lines (Handles.attaches seat segs ended after tried) = omega arith
handles_lines (Handles.moves_ranges seat segs ranges moves) = omega arith
handles_lines (Handles.detaches seat segs told secondary none heard) = omega arith

path_lines : {count who : ℕ} {old new : Seat} {steps : List MailStep} → SeatTrace count who old new steps
    → length old.lines ≤ length new.lines
path_lines (SeatTrace.ends seat) = omega arith
path_lines (SeatTrace.quietly old mid new steps did path) = omega (arith, quietly_lines did, path_lines path)
path_lines (SeatTrace.holds old new step steps of_heap path) = path_lines path
path_lines (SeatTrace.mails old mid new step steps did path) = omega (arith, mails_lines did, path_lines path)
path_lines (SeatTrace.handles old mid new taken given held steps did path) = omega (arith, handles_lines did, path_lines path)

-- WHAT IT HEARS

quietly_hears : {old new : Seat} → Quietly old new → length new.lines ≤ length old.lines → HearsOn old.party new.party
quietly_hears (Quietly.hears seat answered) none = record { names = refl; since = refl }
quietly_hears (Quietly.counts seat sent) none = record { names = refl; since = refl }
quietly_hears (Quietly.ends_line seat deed given) none =
    let more = one_more seat.lines (line_ended deed given seat) in
    absurd (omega (arith, more, none))
quietly_hears _ none = record { names = refl; since = refl }

mails_hear : {who : ℕ} {old new : Seat} {step : MailStep} → Mails who old new step → HearsOn old.party new.party
mails_hear (Mails.notes seat note) = hears_same seat.party
mails_hear (Mails.finds_nothing seat) = hears_same seat.party
mails_hear (Mails.fetches seat frame) = hears_same seat.party
mails_hear (Mails.asks seat ask frame action posted its says) = hears_same seat.party
mails_hear (Mails.tells seat heap run frame action posted says) = record { names = refl; since = refl }
mails_hear (Mails.speaks seat to frame body action posted nothing says) = hears_same seat.party

handles_hear : {count who : ℕ} {old new : Seat} {taken given : SegsView} → Handles count who old new taken given
    → HearsOn old.party new.party
handles_hear (Handles.looks seat segs) = hears_same seat.party
handles_hear (Handles.steps seat segs event core its zero knows denied may) = record { names = refl; since = refl }
handles_hear (Handles.maps seat segs ended table now core its zero caught_up) =
    let heard = hears_caught segs.log ended table seat.party in
    record { names = heard.names; since = heard.since }
handles_hear (Handles.follows seat segs ended table member caught_up) = hears_caught segs.log ended table seat.party
handles_hear (Handles.arms seat segs asked run number its) = record { names = refl; since = refl }
handles_hear (Handles.claims seat segs) = hears_same seat.party
handles_hear (Handles.settles seat segs since now late) = hears_same seat.party
handles_hear (Handles.cuts seat segs heap addr run) = hears_same seat.party
handles_hear (Handles.attaches seat segs ended after tried) =
    let heard = hears_caught segs.log ended tried.maps seat.party in
    subst (HearsOn seat.party) (sym tried.after_is) (record { names = heard.names; since = heard.since })
handles_hear (Handles.moves_ranges seat segs ranges moves) = hears_same seat.party
handles_hear (Handles.detaches seat segs told secondary none heard) = record {
  names = hears_rows seat.party.maps.rows seat.party.listeners told heard;
  since = ap (map (λ (listener : Listener). listener.since)) heard.told ∙ since_all (events_of kind.Free heard.rising) seat.party.listeners;
}

-- so it is where no line has ended
pub path_hears : {count who : ℕ} {old new : Seat} {steps : List MailStep} → SeatTrace count who old new steps
    → length new.lines ≤ length old.lines → HearsOn old.party new.party
path_hears (SeatTrace.ends seat) none = hears_same seat.party
path_hears (SeatTrace.quietly old mid new steps did path) none =
    let rest = path_lines path in
    let first = quietly_lines did in
    hears_then old.party mid.party new.party (quietly_hears did (omega (arith, none, rest))) (path_hears path (omega (arith, none, first)))
path_hears (SeatTrace.holds old new step steps of_heap path) none = path_hears path none
path_hears (SeatTrace.mails old mid new step steps did path) none =
    let first = mails_lines did in
    hears_then old.party mid.party new.party (mails_hear did) (path_hears path (omega (arith, none, first)))
path_hears (SeatTrace.handles old mid new taken given held steps did path) none =
    let first = handles_lines did in
    hears_then old.party mid.party new.party (handles_hear did) (path_hears path (omega (arith, none, first)))
