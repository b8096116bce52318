-- Along a participant's path its table is one of the log that it has seen, as its watchers know, and lags behind nothing that it had taken in:
-- by its own holds alone, each of which takes a log that goes on from the one before.
use Rattle.std.proofs.Common.{◌≡◌, ◌∙◌, ◌||◌, ℕ, ◌≤◌, Bool, true, false, List, [], ◌∷◌, ◌++◌, length, length-append, None, refl, ap, sym, subst, arith}
use Rattle.hp_base.specs.Mapping.{is_done}
use Rattle.hp_base.specs.declared.caught.Caught.{Caught}
use Rattle.hp_base.specs.declared.caught.Caught.TheVariants as caught
use Rattle.hp_hall.specs.Mail.{MailStep}
use Rattle.hp_log.specs.declared.log_record.LogRecord.{LogRecord}
use Rattle.hp_maps.specs.Catching.{number_after}
use Rattle.hp_segs.specs.LogPlaces.{LogIsPlaced}
use Rattle.hp_segs.specs.SegsView.{SegsView}
use Rattle.hp_segs.specs.Sound.{IsSound}
use Rattle.hp_serve.specs.Attaching.{Attaches}
use Rattle.hp_serve.specs.Party.{Party}
use Rattle.hp_serve.specs.Serving.{gives_segments}
use Rattle.hp_proc.specs.Courses.{standing_tried}
use Rattle.hp_weave.specs.Holds.{Hold}
use Rattle.thm_run.proofs.InTurnByHolds.HoldsLeft.{AreLeft, one_left}
use Rattle.thm_run.proofs.InTurnByHolds.NextHolds.{to_last}
use Rattle.thm_run.proofs.PathSteps.Apart.{heap_skipped, mail_skipped, notes_skipped}
use Rattle.thm_run.proofs.SeatFacts.LogAlong.{HasRecords, records_then, same_records}
use Rattle.thm_run.proofs.Watched.{handles_watched, mails_watched, quietly_watched, watched_on}
use Rattle.thm_run.specs.Apart.{holds_from}
use Rattle.thm_run.specs.OwnHolds.{HasLater}
use Rattle.thm_run.specs.Seats.{Handles, Mails, Quietly, Seat, SeatTrace}
use Rattle.thm_run.specs.Watching.{IsWatched}
use Rattle.thm_together.proofs.HomeSince.{IsSince, handles_since, mails_since, quietly_since, since_more}

-- LOGS THAT GO ON

-- holds take sound values, each with a log that goes on from the one before, and so does the last log
abbrev pub AreLonger : List LogRecord → List (Hold SegsView) → List LogRecord → Type 0
AreLonger log [] last = HasRecords log last
AreLonger log (hold ∷ holds) last = HasRecords log hold.taken.log × IsSound hold.taken × AreLonger hold.taken.log holds last

later_records : (old new : SegsView) → HasLater old new → HasRecords old.log new.log
later_records old new later = record { more = later.more; is = later.log }

pub records_longer : (old new : List LogRecord) → HasRecords old new → length old ≤ length new
records_longer old new has = omega (arith, ap length has.is, length-append old has.more)

longer_lower : (low log : List LogRecord) (holds : List (Hold SegsView)) (last : List LogRecord) → HasRecords low log
    → AreLonger log holds last → AreLonger low holds last
longer_lower low log [] last has longer = records_then low log last has longer
longer_lower low log (hold ∷ holds) last has longer = (records_then low log hold.taken.log has longer.0, longer.1, longer.2)

-- the last log goes on from each
pub longer_last : (log : List LogRecord) (holds : List (Hold SegsView)) (last : List LogRecord) → AreLonger log holds last
    → HasRecords log last
longer_last log [] last longer = longer
longer_last log (hold ∷ holds) last longer =
    records_then log hold.taken.log last longer.0 (longer_last hold.taken.log holds last longer.2)

-- past some of them
pub record ArePast (log : List LogRecord) (holds : List (Hold SegsView)) (last : List LogRecord) : Type 0 where
  pub to : List LogRecord
  pub has : HasRecords log to
  pub longer : AreLonger to holds last

pub longer_past : (log : List LogRecord) (first holds : List (Hold SegsView)) (last : List LogRecord) → AreLonger log (first ++ holds) last
    → ArePast log holds last
longer_past log [] holds last longer = record { to = log; has = same_records log log refl; longer = longer }
longer_past log (hold ∷ first) holds last longer =
    let past = longer_past hold.taken.log first holds last longer.2 in
    record { to = past.to; has = records_then log hold.taken.log past.to longer.0 past.has; longer = past.longer }

-- so it is with a participant's holds among those of all
pub longer_left : (who : ℕ) (last : SegsView) (holds : List (Hold SegsView)) (from : SegsView) → AreLeft who last holds from
    → AreLonger from.log holds last.log
longer_left who last [] from left = later_records from last (to_last who last from left.all left.chain left.each)
longer_left who last (hold ∷ holds) from left =
    let one = one_left who last from hold holds left in (
      later_records from hold.taken one.before,
      one.good.sound,
      longer_lower hold.taken.log hold.given.log holds last.log (later_records hold.taken hold.given one.goes.later)
          (longer_left who last holds hold.given one.left),
    )

-- WHAT IS KNOWN ALONG A PATH

-- a participant whose lines left it attached has a table
abbrev pub IsIn : Seat → Type 0
IsIn seat = seat.standing.attached ≡ true → seat.party.joined ≡ true

-- by a log that it has seen: its watchers know its table, which has taken in what was there when it attached
pub record IsKnown (log : List LogRecord) (seat : Seat) : Type 0 where
  pub watched : IsWatched log seat
  pub since : IsSince (length log) seat
  pub is_in : IsIn seat

-- what its table had taken in, of so many records at most, it has taken in still, where it has one
abbrev pub ReachesOn : ℕ → Seat → Seat → Type 0
ReachesOn low old new = (number : ℕ) → number ≤ low → (old.party.joined ≡ true → number ≤ old.party.maps.number)
    → new.party.joined ≡ true → number ≤ new.party.maps.number

known_more : (old new : List LogRecord) (seat : Seat) → HasRecords old new → IsKnown old seat → IsKnown new seat
known_more old new seat has is = record {
  watched = watched_on old new seat has is.watched;
  since = since_more (length old) (length new) seat (records_longer old new has) is.since;
  is_in = is.is_in;
}

quietly_in : {old new : Seat} → Quietly old new → IsIn old → IsIn new
quietly_in (Quietly.hears seat answered) is = is
quietly_in (Quietly.counts seat sent) is = is
quietly_in _ is = is

quietly_reaches : {old new : Seat} (low : ℕ) → Quietly old new → ReachesOn low old new
quietly_reaches low (Quietly.hears seat answered) number few was joined = was joined
quietly_reaches low (Quietly.counts seat sent) number few was joined = was joined
quietly_reaches low (Quietly.maps_chunk seat chunk maps ended its) number few was joined =
    let below = was joined in
    omega (arith, its.others.number, below)
quietly_reaches low (Quietly.leaves_chunk seat chunk maps its) number few was joined =
    let below = was joined in
    omega (arith, its.others.number, below)
quietly_reaches low _ number few was joined = was joined

mails_in : {who : ℕ} {old new : Seat} {step : MailStep} → Mails who old new step → IsIn old → IsIn new
mails_in (Mails.notes seat note) is = is
mails_in (Mails.finds_nothing seat) is = is
mails_in (Mails.fetches seat frame) is = is
mails_in (Mails.asks seat ask frame action posted its says) is = is
mails_in (Mails.tells seat heap run frame action posted says) is = is
mails_in (Mails.speaks seat to frame body action posted nothing says) is = is

mails_reach : {who : ℕ} {old new : Seat} {step : MailStep} (low : ℕ) → Mails who old new step → ReachesOn low old new
mails_reach low (Mails.notes seat note) number few was joined = was joined
mails_reach low (Mails.finds_nothing seat) number few was joined = was joined
mails_reach low (Mails.fetches seat frame) number few was joined = was joined
mails_reach low (Mails.asks seat ask frame action posted its says) number few was joined = was joined
mails_reach low (Mails.tells seat heap run frame action posted says) number few was joined = was joined
mails_reach low (Mails.speaks seat to frame body action posted nothing says) number few was joined = was joined

-- WHAT IT MAKES OF A VALUE

in_still : (was more : Bool) → was ≡ true → (was || more) ≡ true
in_still true more is = refl
in_still false more is = cc

was_in : (was : Bool) → (was || false) ≡ true → was ≡ true
was_in true is = refl
was_in false is = is

-- it caught up with so many records, or failed to
caught_reaches : (records : ℕ) (joined : Bool) (before after : ℕ) (ended : Caught) → after ≡ number_after before records ended
    → (number : ℕ) → number ≤ records → (joined ≡ true → number ≤ before) → (joined || is_done ended) ≡ true → number ≤ after
caught_reaches records joined before after caught.Done number_is number few was on = omega (arith, number_is, few)
caught_reaches records joined before after (caught.Refused row call) number_is number few was on =
    let its = was (was_in joined on) in
    omega (arith, number_is, its)
caught_reaches records joined before after (caught.Elsewhere row call got) number_is number few was on =
    let its = was (was_in joined on) in
    omega (arith, number_is, its)

-- it attached, or tried to
not_in : (seat : Seat) → seat.party.joined ≡ false → IsIn seat → seat.standing.attached ≡ true → ⊥
not_in seat out is attached =
    let wrong : true ≡ false = sym (is attached) ∙ out in
    cc

tried_in : (log : List LogRecord) (old : Seat) (after : Party) (ended : Caught) → Attaches old.party after log ended → IsIn old
    → (standing_tried (length log) ended old.standing).attached ≡ true → after.joined ≡ true
tried_in log old after caught.Done tried is attached = ap (λ (party : Party). party.joined) tried.after_is
tried_in log old after (caught.Refused row call) tried is attached = absurd (not_in old tried.out is attached)
tried_in log old after (caught.Elsewhere row call got) tried is attached = absurd (not_in old tried.out is attached)

left_out : (after : Party) → after.joined ≡ true → after.joined ≡ false → ⊥
left_out after on out =
    let wrong : true ≡ false = sym on ∙ out in
    cc

tried_reaches : (log : List LogRecord) (party after : Party) (ended : Caught) → Attaches party after log ended → (number : ℕ)
    → number ≤ length log → after.joined ≡ true → number ≤ after.maps.number
tried_reaches log party after caught.Done tried number few on =
    let number_is : after.maps.number ≡ length log = ap (λ (party : Party). party.maps.number) tried.after_is ∙ tried.caught_up.number in
    omega (arith, number_is, few)
tried_reaches log party after (caught.Refused row call) tried number few on =
    absurd (left_out after on (ap (λ (party : Party). party.joined) tried.after_is))
tried_reaches log party after (caught.Elsewhere row call got) tried number few on =
    absurd (left_out after on (ap (λ (party : Party). party.joined) tried.after_is))

handles_in : {count who : ℕ} {old new : Seat} {taken given : SegsView} → Handles count who old new taken given → IsIn old → IsIn new
handles_in (Handles.looks seat segs) is attached = is attached
handles_in (Handles.steps seat segs event core its zero knows denied may) is attached = is attached
handles_in (Handles.maps seat segs ended table now core its zero caught_up) is attached =
    in_still seat.party.joined (is_done ended) (is attached)
handles_in (Handles.follows seat segs ended table member caught_up) is attached = in_still seat.party.joined (is_done ended) (is attached)
handles_in (Handles.arms seat segs asked run number its) is attached = is attached
handles_in (Handles.claims seat segs) is attached = is attached
handles_in (Handles.settles seat segs since now late) is attached = is attached
handles_in (Handles.cuts seat segs heap addr run) is attached = is attached
handles_in (Handles.attaches seat segs ended after tried) is attached = tried_in segs.log seat after ended tried is attached
handles_in (Handles.moves_ranges seat segs ranges moves) is attached = is attached
handles_in (Handles.detaches seat segs told secondary none heard) is attached = absurd cc

handles_reach : {count who : ℕ} {old new : Seat} {taken given : SegsView} → Handles count who old new taken given
    → ReachesOn (length taken.log) old new
handles_reach (Handles.looks seat segs) number few was joined = was joined
handles_reach (Handles.steps seat segs event core its zero knows denied may) number few was joined = was joined
handles_reach (Handles.maps seat segs ended table now core its zero caught_up) number few was joined =
    caught_reaches (length segs.log) seat.party.joined seat.party.maps.number table.number ended caught_up.number number few was joined
handles_reach (Handles.follows seat segs ended table member caught_up) number few was joined =
    caught_reaches (length segs.log) seat.party.joined seat.party.maps.number table.number ended caught_up.number number few was joined
handles_reach (Handles.arms seat segs asked run next its) number few was joined = was joined
handles_reach (Handles.claims seat segs) number few was joined = was joined
handles_reach (Handles.settles seat segs since now late) number few was joined = was joined
handles_reach (Handles.cuts seat segs heap addr run) number few was joined = was joined
handles_reach (Handles.attaches seat segs ended after tried) number few was joined =
    tried_reaches segs.log seat.party after ended tried number few joined
handles_reach (Handles.moves_ranges seat segs ranges moves) number few was joined = was joined
handles_reach (Handles.detaches seat segs told secondary none heard) number few was joined = absurd cc

-- A PATH

-- what is known after it, by the log that it has seen then, from which the later ones go on
pub record IsKnownOn (others : List (Hold SegsView)) (last low : List LogRecord) (old new : Seat) : Type 0 where
  pub log : List LogRecord
  pub has : HasRecords low log
  pub longer : AreLonger log others last
  pub known : IsKnown log new
  pub reaches : ReachesOn (length low) old new

further : (others : List (Hold SegsView)) (last low log : List LogRecord) (old mid new : Seat) → HasRecords low log
    → ReachesOn (length log) old mid → IsKnownOn others last log mid new → IsKnownOn others last low old new
further others last low log old mid new has here rest =
    let few = records_longer low log has in
    record {
      log = rest.log;
      has = records_then low log rest.log has rest.has;
      longer = rest.longer;
      known = rest.known;
      reaches = λ number within was. rest.reaches number (omega (arith, within, few)) (here number (omega (arith, within, few)) was);
    }

pub path_known : {count who : ℕ} {old new : Seat} {steps : List MailStep} → LogIsPlaced → SeatTrace count who old new steps
    → (others : List (Hold SegsView)) (last log : List LogRecord) → AreLonger log (holds_from who None steps ++ others) last
    → IsKnown log old → IsKnownOn others last log old new
path_known log_is_placed (SeatTrace.ends seat) others last log longer is =
    record { log = log; has = same_records log log refl; longer = longer; known = is; reaches = λ number few was. was }
path_known log_is_placed (SeatTrace.quietly old mid new steps did path) others last log longer is =
    further others last log log old mid new (same_records log log refl) (quietly_reaches (length log) did)
    (path_known log_is_placed path others last log longer (record {
      watched = quietly_watched log did is.watched;
      since = quietly_since (length log) did is.since;
      is_in = quietly_in did is.is_in;
    }))
path_known {count} {who} log_is_placed (SeatTrace.holds old new step steps of_heap path) others last log longer is =
    path_known log_is_placed path others last log
    (subst (λ (holds : List (Hold SegsView)). AreLonger log (holds ++ others) last) (heap_skipped who None step steps of_heap) longer) is
path_known log_is_placed (SeatTrace.mails old mid new step steps did path) others last log longer is =
    further others last log log old mid new (same_records log log refl) (mails_reach (length log) did)
    (path_known log_is_placed path others last log
    (subst (λ (holds : List (Hold SegsView)). AreLonger log (holds ++ others) last) (mail_skipped steps did) longer) (record {
      watched = mails_watched log did is.watched;
      since = mails_since (length log) did is.since;
      is_in = mails_in did is.is_in;
    }))
path_known {count} {who} log_is_placed (SeatTrace.handles old mid new taken given held steps did path) others last log longer is =
    let all : AreLonger log ((record { who = who; taken = taken; given = given } ∷ holds_from who None steps) ++ others) last =
    subst (λ (holds : List (Hold SegsView)). AreLonger log (holds ++ others) last)
    (notes_skipped who taken held (gives_segments given ∷ steps)) longer in
    let was = known_more log taken.log old all.0 is in
    further others last log taken.log old mid new all.0 (handles_reach did)
    (path_known log_is_placed path others last taken.log all.2 (record {
      watched = handles_watched log_is_placed did all.1 was.watched;
      since = handles_since did was.since;
      is_in = handles_in did was.is_in;
    }))
