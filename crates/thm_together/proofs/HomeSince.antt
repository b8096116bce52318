-- A participant that is attached at last has taken in what was there when it attached: by its own way, since the log grows from hold to hold.
use Rattle.std.proofs.Common.{◌≡◌, ◌∙◌, ◌==◌, ◌||◌, ℕ, ◌≤◌, Bool, true, false, cond, List, [], ◌∷◌, length, None, refl, ap, sym, subst, arith, length-append}
use Rattle.std.specs.Prelude.{⊤}
use Rattle.std.specs.List.{All}
use Rattle.std.proofs.lemmas.List.Elements.{All-head, All-tail}
use Rattle.hp_base.specs.Mapping.{is_done}
use Rattle.hp_base.specs.declared.caught.Caught.{Caught}
use Rattle.hp_base.specs.declared.caught.Caught.TheVariants as caught
use Rattle.hp_hall.specs.Mail.{MailStep}
use Rattle.hp_log.specs.declared.log_record.LogRecord.{LogRecord}
use Rattle.hp_maps.specs.Catching.{number_after}
use Rattle.hp_segs.specs.SegsView.{SegsView}
use Rattle.hp_serve.specs.Attaching.{Attaches}
use Rattle.hp_serve.specs.Party.{Party}
use Rattle.hp_serve.specs.Serving.{gives_segments}
use Rattle.hp_proc.specs.Courses.{Standing, standing_tried}
use Rattle.hp_proc.specs.Doing.{Done}
use Rattle.hp_weave.specs.Holds.{Chain, Hold, holds_of}
use Rattle.thm_run.proofs.PathSteps.Apart.{heap_skipped, mail_skipped, notes_skipped}
use Rattle.thm_run.specs.Apart.{holds_from}
use Rattle.thm_run.specs.OwnHolds.{GoesOn}
use Rattle.thm_run.specs.Seats.{Handles, Mails, SeatTrace, Quietly, Seat, having_done, leaving}

-- where it has a table, that has taken in what was there when it attached, which were no more records than so many
pub record IsSince (most : ℕ) (seat : Seat) : Type 0 where
  pub taken : seat.party.joined ≡ true → seat.standing.records ≤ seat.party.maps.number
  pub within : seat.standing.records ≤ most

-- nothing of that has changed
record IsLikewise (old new : Seat) : Type 0 where
  joined : new.party.joined ≡ old.party.joined
  records : new.standing.records ≡ old.standing.records
  number : new.party.maps.number ≡ old.party.maps.number

pub since_more : (most more : ℕ) (seat : Seat) → most ≤ more → IsSince most seat → IsSince more seat
since_more most more seat few is = record { taken = is.taken; within = omega (arith, few, is.within) }

since_same : (most : ℕ) (old new : Seat) → IsLikewise old new → IsSince most old → IsSince most new
since_same most old new same is = record {
  taken = λ joined. let its = is.taken (sym same.joined ∙ joined) in omega (arith, its, same.records, same.number);
  within = omega (arith, is.within, same.records);
}

pub quietly_since : {old new : Seat} (most : ℕ) → Quietly old new → IsSince most old → IsSince most new
quietly_since most (Quietly.hears seat answered) is = since_same most _ _ (record { joined = refl; records = refl; number = refl }) is
quietly_since most (Quietly.maps_chunk seat chunk maps ended its) is =
    since_same most _ _ (record { joined = refl; records = refl; number = its.others.number }) is
quietly_since most (Quietly.leaves_chunk seat chunk maps its) is =
    since_same most _ _ (record { joined = refl; records = refl; number = its.others.number }) is
quietly_since most _ is = since_same most _ _ (record { joined = refl; records = refl; number = refl }) is

pub mails_since : {who : ℕ} {old new : Seat} {step : MailStep} (most : ℕ) → Mails who old new step → IsSince most old → IsSince most new
mails_since most (Mails.notes seat note) is = is
mails_since most (Mails.finds_nothing seat) is = is
mails_since most (Mails.fetches seat frame) is = since_same most _ _ (record { joined = refl; records = refl; number = refl }) is
mails_since most (Mails.asks seat ask frame action posted its says) is = is
mails_since most (Mails.tells seat heap run frame action posted says) is =
    since_same most _ _ (record { joined = refl; records = refl; number = refl }) is
mails_since most (Mails.speaks seat to frame body action posted nothing says) is = is

or_false : (was : Bool) → (was || false) ≡ was
or_false true = refl
or_false false = refl

-- it caught up with a log, or failed to
caught_since : (log : List LogRecord) (old new : Seat) (ended : Caught) → new.party.joined ≡ (old.party.joined || is_done ended)
    → new.standing ≡ old.standing → new.party.maps.number ≡ number_after old.party.maps.number (length log) ended → IsSince (length log) old
    → IsSince (length log) new
caught_since log old new caught.Done joined standing number is =
    let records = ap (λ (standing : Standing). standing.records) standing in record {
      taken = λ _. omega (arith, number, records, is.within);
      within = omega (arith, records, is.within);
    }
caught_since log old new (caught.Refused row call) joined standing number is =
    since_same (length log) old new (record {
      joined = joined ∙ or_false old.party.joined;
      records = ap (λ (standing : Standing). standing.records) standing;
      number = number;
    }) is
caught_since log old new (caught.Elsewhere row call got) joined standing number is =
    since_same (length log) old new (record {
      joined = joined ∙ or_false old.party.joined;
      records = ap (λ (standing : Standing). standing.records) standing;
      number = number;
    }) is

-- it tried to attach
tried_since : (log : List LogRecord) (old : Seat) (after : Party) (ended : Caught) → Attaches old.party after log ended → (more : List Done)
    → IsSince (length log) old → IsSince (length log) (leaving (standing_tried (length log) ended old.standing) (having_done after more old))
tried_since log old after caught.Done tried more is =
    let number : after.maps.number ≡ length log =
    ap (λ (party : Party). party.maps.number) tried.after_is ∙ tried.caught_up.number in record {
      taken = λ joined. omega (arith, number);
      within = omega arith;
    }
tried_since log old after (caught.Refused row call) tried more is =
    let none : after.joined ≡ false = ap (λ (party : Party). party.joined) tried.after_is in record {
      taken = λ joined. absurd (let wrong : true ≡ false = sym joined ∙ none in cc);
      within = is.within;
    }
tried_since log old after (caught.Elsewhere row call got) tried more is =
    let none : after.joined ≡ false = ap (λ (party : Party). party.joined) tried.after_is in record {
      taken = λ joined. absurd (let wrong : true ≡ false = sym joined ∙ none in cc);
      within = is.within;
    }

pub handles_since : {count who : ℕ} {old new : Seat} {taken given : SegsView} → Handles count who old new taken given
    → IsSince (length taken.log) old → IsSince (length taken.log) new
handles_since (Handles.looks seat segs) is = is
handles_since (Handles.steps seat segs event core its zero knows denied may) is =
    since_same (length segs.log) _ _ (record { joined = refl; records = refl; number = refl }) is
handles_since (Handles.maps seat segs ended table now core its zero caught_up) is =
    caught_since segs.log seat _ ended refl refl caught_up.number is
handles_since (Handles.follows seat segs ended table member caught_up) is = caught_since segs.log seat _ ended refl refl caught_up.number is
handles_since (Handles.arms seat segs asked run number its) is =
    since_same (length segs.log) _ _ (record { joined = refl; records = refl; number = refl }) is
handles_since (Handles.claims seat segs) is = is
handles_since (Handles.settles seat segs since now late) is = is
handles_since (Handles.cuts seat segs heap addr run) is =
    since_same (length segs.log) _ _ (record { joined = refl; records = refl; number = refl }) is
handles_since (Handles.attaches seat segs ended after tried) is = tried_since segs.log seat after ended tried _ is
handles_since (Handles.moves_ranges seat segs ranges moves) is = is
handles_since (Handles.detaches seat segs told secondary none heard) is = record { taken = λ joined. absurd cc; within = is.within }

-- the log that is taken has no fewer records from hold to hold
abbrev pub AreRising : ℕ → List (Hold SegsView) → Type 0
AreRising least [] = ⊤
AreRising least (hold ∷ holds) = (least ≤ length hold.taken.log) × AreRising (length hold.taken.log) holds

rising_lower : (low least : ℕ) (holds : List (Hold SegsView)) → low ≤ least → AreRising least holds → AreRising low holds
rising_lower low least [] few rising = tt
rising_lower low least (hold ∷ holds) few rising = (omega (arith, few, rising.0), rising.1)

pub rising_chain : (first last : SegsView) (holds : List (Hold SegsView)) → Chain first holds last → All GoesOn holds
    → AreRising (length first.log) holds
rising_chain first last [] chain each = tt
rising_chain first last (hold ∷ holds) chain each =
    let on = All-head GoesOn hold holds each in
    let same = ap (λ (segs : SegsView). length segs.log) chain.0 in
    let longer = ap (λ (log : List LogRecord). length log) on.later.log ∙ length-append hold.taken.log on.later.more in
    let rest = rising_chain hold.given last holds chain.1 (All-tail GoesOn hold holds each) in
    (omega (arith, same), rising_lower (length hold.taken.log) (length hold.given.log) holds (omega (arith, longer)) rest)

pub rising_own : (who least : ℕ) (holds : List (Hold SegsView)) → AreRising least holds → AreRising least (holds_of who holds)
rising_own who least [] rising = tt
rising_own who least (hold ∷ holds) rising =
    by (hold.who == who) (rising_own who (length hold.taken.log) holds rising.1)
  where
    by : (mine : Bool) → AreRising (length hold.taken.log) (holds_of who holds)
        → AreRising least (cond mine (hold ∷ holds_of who holds) (holds_of who holds))
    by true rest = (rising.0, rest)
    by false rest = rising_lower least (length hold.taken.log) (holds_of who holds) rising.0 rest

-- so it is by a path
path_since : {count who : ℕ} {old new : Seat} {steps : List MailStep} → SeatTrace count who old new steps → (most : ℕ) → IsSince most old
    → AreRising most (holds_from who None steps) → new.party.joined ≡ true → new.standing.records ≤ new.party.maps.number
path_since (SeatTrace.ends seat) most is rising = is.taken
path_since (SeatTrace.quietly old mid new steps did path) most is rising = path_since path most (quietly_since most did is) rising
path_since {count} {who} (SeatTrace.holds old new step steps of_heap path) most is rising =
    path_since path most is (subst (AreRising most) (heap_skipped who None step steps of_heap) rising)
path_since (SeatTrace.mails old mid new step steps did path) most is rising =
    path_since path most (mails_since most did is) (subst (AreRising most) (mail_skipped steps did) rising)
path_since {count} {who} (SeatTrace.handles old mid new taken given held steps did path) most is rising =
    let both : AreRising most (record { who = who; taken = taken; given = given } ∷ holds_from who None steps) =
    subst (AreRising most) (notes_skipped who taken held (gives_segments given ∷ steps)) rising in
    path_since path (length taken.log) (handles_since did (since_more most (length taken.log) old both.0 is)) both.1

-- from where it had attached with no record
pub attached_since : (count who : ℕ) (old new : Seat) (steps : List MailStep) (first last : SegsView) (holds : List (Hold SegsView))
    → SeatTrace count who old new steps → old.standing.records ≡ 0 → Chain first holds last → All GoesOn holds
    → holds_of who holds ≡ holds_from who None steps → new.party.joined ≡ true → new.standing.records ≤ new.party.maps.number
attached_since count who old new steps first last holds path none chain each own =
    path_since path (length first.log)
    (record { taken = λ joined. omega (arith, none); within = omega (arith, none) })
    (subst (AreRising (length first.log)) own (rising_own who (length first.log) holds (rising_chain first last holds chain each)))
