-- A participant has a table where its lines leave it attached, and that has taken in what was there when they attached it: so it is from
-- one moment of a run to a later one, where each tried to attach at most once, and was out when it did.
use Rattle.std.proofs.Common.{◌≡◌, ◌∙◌, ℕ, ◌+◌, ◌≤◌, Bool, true, false, ◌||◌, List, ◌∷◌, [], length, Some, refl, ap, sym, subst, arith}
use Rattle.std.specs.Prelude.{slice_get}
use Rattle.hp_base.specs.Mapping.{is_done}
use Rattle.hp_base.specs.declared.caught.Caught.{Caught}
use Rattle.hp_base.specs.declared.caught.Caught.TheVariants as caught
use Rattle.hp_hall.specs.Mail.{MailStep}
use Rattle.hp_log.specs.declared.log_record.LogRecord.{LogRecord}
use Rattle.hp_maps.specs.Catching.{number_after}
use Rattle.hp_segs.specs.SegsView.{SegsView, is_member}
use Rattle.hp_segs.specs.Sound.{IsSound}
use Rattle.hp_serve.specs.Attaching.{Attaches}
use Rattle.hp_proc.specs.Courses.{Standing, standing_tried}
use Rattle.hp_proc.specs.Doing.{Done}
use Rattle.hp_proc.specs.Doing.Done.{CaughtUp, Looked}
use Rattle.hp_serve.specs.Party.{Party}
use Rattle.thm_run.specs.Seats.{Handles, Mails, Quietly, Seat, having_done, leaving}
use Rattle.thm_run.specs.Together.{GlobalState}
use Rattle.thm_run.proofs.SeatFacts.RosterMoves.{tries_both, tries_in}

-- its table has taken in so many records, which the log has
pub record HasTakenIn (log : List LogRecord) (seat : Seat) : Type 0 where
  pub taken : seat.standing.records ≤ seat.party.maps.number
  pub there : seat.standing.records ≤ length log

-- a participant is attached as its lines leave it
pub record IsAsLeft (log : List LogRecord) (seat : Seat) : Type 0 where
  pub joined : seat.party.joined ≡ seat.standing.attached
  pub since : seat.party.joined ≡ true → HasTakenIn log seat

abbrev pub AreAsLeft : GlobalState → Type 0
AreAsLeft at = (who : ℕ) (seat : Seat) → slice_get at.seats who ≡ Some seat → IsAsLeft at.segs.log seat

-- the log has more records
pub later_log : (log now : List LogRecord) (seat : Seat) → length log ≤ length now → IsAsLeft log seat → IsAsLeft now seat
later_log log now seat longer was = record {
  joined = was.joined;
  since = λ joined. record { taken = (was.since joined).taken; there = omega (arith, (was.since joined).there, longer) };
}

-- nothing of that has changed
record IsLeftSo (old new : Seat) : Type 0 where
  joined : new.party.joined ≡ old.party.joined
  attached : new.standing.attached ≡ old.standing.attached
  records : new.standing.records ≡ old.standing.records
  number : new.party.maps.number ≡ old.party.maps.number

left_so : (log : List LogRecord) (old new : Seat) → IsLeftSo old new → IsAsLeft log old → IsAsLeft log new
left_so log old new same was = record {
  joined = same.joined ∙ was.joined ∙ sym same.attached;
  since = λ joined.
      let its = was.since (sym same.joined ∙ joined) in
      record {
        taken = omega (arith, its.taken, same.records, same.number);
        there = omega (arith, its.there, same.records);
      };
}

pub quietly_left : {old new : Seat} (log : List LogRecord) → Quietly old new → IsAsLeft log old → IsAsLeft log new
quietly_left log (Quietly.hears seat answered) was =
    left_so log _ _ (record { joined = refl; attached = refl; records = refl; number = refl }) was
quietly_left log (Quietly.counts seat sent) was =
    left_so log _ _ (record { joined = refl; attached = refl; records = refl; number = refl }) was
quietly_left log (Quietly.calls seat heap call answer none) was =
    left_so log _ _ (record { joined = refl; attached = refl; records = refl; number = refl }) was
quietly_left log (Quietly.notes seat elements chunks) was =
    left_so log _ _ (record { joined = refl; attached = refl; records = refl; number = refl }) was
quietly_left log (Quietly.reads_names seat names) was =
    left_so log _ _ (record { joined = refl; attached = refl; records = refl; number = refl }) was
quietly_left log (Quietly.reads_stats seat heap counted) was =
    left_so log _ _ (record { joined = refl; attached = refl; records = refl; number = refl }) was
quietly_left log (Quietly.changes_names seat change) was =
    left_so log _ _ (record { joined = refl; attached = refl; records = refl; number = refl }) was
quietly_left log (Quietly.sees_heap seat heap history) was =
    left_so log _ _ (record { joined = refl; attached = refl; records = refl; number = refl }) was
quietly_left log (Quietly.plans_range seat addr len page plan) was =
    left_so log _ _ (record { joined = refl; attached = refl; records = refl; number = refl }) was
quietly_left log (Quietly.maps_chunk seat chunk maps ended is) was =
    left_so log _ _ (record { joined = refl; attached = refl; records = refl; number = is.others.number }) was
quietly_left log (Quietly.leaves_chunk seat chunk maps is) was =
    left_so log _ _ (record { joined = refl; attached = refl; records = refl; number = is.others.number }) was
quietly_left log (Quietly.ends_line seat deed given) was =
    left_so log _ _ (record { joined = refl; attached = refl; records = refl; number = refl }) was

pub mails_left : {who : ℕ} {old new : Seat} {step : MailStep} (log : List LogRecord) → Mails who old new step → IsAsLeft log old
    → IsAsLeft log new
mails_left log (Mails.notes seat note) was = was
mails_left log (Mails.finds_nothing seat) was = was
mails_left log (Mails.fetches seat frame) was =
    left_so log _ _ (record { joined = refl; attached = refl; records = refl; number = refl }) was
mails_left log (Mails.asks seat ask frame action posted its says) was = was
mails_left log (Mails.tells seat heap run frame action posted says) was =
    left_so log _ _ (record { joined = refl; attached = refl; records = refl; number = refl }) was
mails_left log (Mails.speaks seat to frame body action posted nothing says) was = was

still_true : (was is : Bool) → was ≡ true → (was || is) ≡ true
still_true true is joined = refl
still_true false is joined = cc

-- it caught up, or not, with a log that has so many records
caught_further : (ended : Caught) (records number to now : ℕ) → records ≤ number → records ≤ to → now ≡ number_after number to ended
    → records ≤ now
caught_further caught.Done records number to now taken there is = omega (arith, there, is)
caught_further (caught.Refused row call) records number to now taken there is = omega (arith, taken, is)
caught_further (caught.Elsewhere row call got) records number to now taken there is = omega (arith, taken, is)

-- a member has served
serves_left : (log : List LogRecord) (old new : Seat) (ended : Caught) → old.party.joined ≡ true
    → new.party.joined ≡ (old.party.joined || is_done ended) → new.standing ≡ old.standing
    → new.party.maps.number ≡ number_after old.party.maps.number (length log) ended → IsAsLeft log old → IsAsLeft log new
serves_left log old new ended joined is standing number was =
    let its = was.since joined in
    let records : new.standing.records ≡ old.standing.records = ap (λ (standing : Standing). standing.records) standing in
    record {
      joined = is ∙ still_true old.party.joined (is_done ended) joined ∙ sym joined ∙ was.joined
          ∙ sym (ap (λ (standing : Standing). standing.attached) standing);
      since = λ now. record {
        taken =
            let further =
            caught_further ended old.standing.records old.party.maps.number (length log) new.party.maps.number its.taken its.there number in
            omega (arith, further, records);
        there = omega (arith, its.there, records);
      };
    }

-- it tried to attach, and was out
tried_left : (log : List LogRecord) (old : Seat) (after : Party) (ended : Caught) → Attaches old.party after log ended
    → old.party.joined ≡ false → (more : List Done) → IsAsLeft log old
    → IsAsLeft log (leaving (standing_tried (length log) ended old.standing) (having_done after more old))
tried_left log old after caught.Done tried out more was = record {
  joined = ap (λ (party : Party). party.joined) tried.after_is;
  since = λ joined. record {
    taken =
        let number : after.maps.number ≡ length log =
        ap (λ (party : Party). party.maps.number) tried.after_is ∙ tried.caught_up.number in
        omega (arith, number);
    there = omega arith;
  };
}
tried_left log old after (caught.Refused row call) tried out more was =
    let none : after.joined ≡ false = ap (λ (party : Party). party.joined) tried.after_is in
    record {
      joined = none ∙ sym out ∙ was.joined;
      since = λ joined.
          let wrong : true ≡ false = sym joined ∙ none in
          cc;
    }
tried_left log old after (caught.Elsewhere row call got) tried out more was =
    let none : after.joined ≡ false = ap (λ (party : Party). party.joined) tried.after_is in
    record {
      joined = none ∙ sym out ∙ was.joined;
      since = λ joined.
          let wrong : true ≡ false = sym joined ∙ none in
          cc;
    }

-- what it makes of the segment value, where it has a table where it is in the roster, and was out where it tries to attach
pub handles_left : {count who : ℕ} {old new : Seat} {taken given : SegsView} → Handles count who old new taken given → IsSound taken
    → is_member taken.roster who ≡ old.party.joined → (tries_in new.trace ≡ tries_in old.trace + 1 → old.party.joined ≡ false)
    → IsAsLeft taken.log old → IsAsLeft taken.log new
handles_left (Handles.looks seat segs) sound enrolled out was = was
handles_left (Handles.moves_ranges seat segs ranges moves) sound enrolled out was = was
handles_left (Handles.steps seat segs event core is its knows denied may) sound enrolled out was =
    left_so segs.log _ _ (record { joined = refl; attached = refl; records = refl; number = refl }) was
handles_left (Handles.maps seat segs ended table now core is its caught_up) sound enrolled out was =
    let primary : seat.party.joined ≡ true =
    sym enrolled ∙ subst (λ who. is_member segs.roster who ≡ true) (sym is) sound.places.primary in
    serves_left segs.log seat _ ended primary refl refl caught_up.number was
handles_left (Handles.follows seat segs ended table member caught_up) sound enrolled out was =
    serves_left segs.log seat _ ended (sym enrolled ∙ member) refl refl caught_up.number was
handles_left (Handles.arms seat segs asked run number is) sound enrolled out was =
    left_so segs.log _ _ (record { joined = refl; attached = refl; records = refl; number = refl }) was
handles_left (Handles.claims seat segs) sound enrolled out was = was
handles_left (Handles.settles seat segs since now late) sound enrolled out was = was
handles_left (Handles.cuts seat segs heap addr run) sound enrolled out was =
    left_so segs.log _ _ (record { joined = refl; attached = refl; records = refl; number = refl }) was
handles_left (Handles.attaches seat segs ended after tried) sound enrolled out was =
    tried_left segs.log seat after ended tried
    (out (tries_both seat.trace (Looked (length segs.log) ∷ CaughtUp (length segs.log) ended ∷ []))) _ was
handles_left (Handles.detaches seat segs told secondary none heard) sound enrolled out was =
    record { joined = refl; since = λ joined. cc }
