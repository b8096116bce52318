-- Whatever an attach looks at in a run lies between the records of its beginning and those of its end.
use Rattle.std.proofs.Common.{◌≡◌, ◌∙◌, ℕ, ◌≤◌, List, [], ◌∷◌, ◌++◌, length, Contains, Some, refl, ap, sym, subst, arith, append-nil, append_assoc}
use Rattle.std.specs.Prelude.{slice_get, slice_set, ⊤}
use Rattle.std.specs.List.{All}
use Rattle.std.proofs.lemmas.List.Elements.{All-append, All-cons, All-contains, All-nil, All-weaker}
use Rattle.hp_hall.specs.Mail.{MailStep}
use Rattle.hp_heap.specs.declared.entry.HeapAnswer.TheVariants as gives
use Rattle.hp_heap.specs.declared.entry.HeapCall.TheVariants as call
use Rattle.hp_proc.specs.Doing.{Done}
use Rattle.hp_proc.specs.Doing.Done.{Asked, Called, CaughtUp, ChunkMapped, GaveUp, HeapSeen, Looked, NamesChanged, NamesRead, RangePlanned, StatsRead}
use Rattle.hp_segs.specs.SegsView.{SegsView}
use Rattle.thm_run.proofs.AfterLemmas.{behind_longer, handles_behind, runs_behind}
use Rattle.thm_run.proofs.SeatFacts.Seating.{IsSeatAfter, seat_behind}
use Rattle.thm_run.specs.Seats.{Handles, Mails, Quietly, Seat}
use Rattle.thm_run.specs.Together.{GlobalState, Runs, Steps}

-- a look is at a number of records between two
abbrev pub IsBetween : ℕ → ℕ → Done → Type 0
IsBetween low high (Looked records) = (low ≤ records) × (records ≤ high)
IsBetween low high _ = ⊤

higher : (low from to : ℕ) → from ≤ to → (done : Done) → IsBetween low from done → IsBetween low to done
higher low from to le (Looked records) is = (is.0, omega (arith, le, is.1))
higher low from to le _ is = tt

-- what a seat did in a step, looking at so many records
record DoesLooking (low at : ℕ) (old new : Seat) : Type 0 where
  pub more : List Done
  pub trace : new.trace ≡ old.trace ++ more
  pub looks : All (IsBetween low at) more

module _ (low at : ℕ) where
  still : (old new : Seat) → new.trace ≡ old.trace → DoesLooking low at old new
  still old new same = record { more = []; trace = same ∙ sym (append-nil old.trace); looks = All-nil (IsBetween low at) }

  one : (old new : Seat) (done : Done) → new.trace ≡ old.trace ++ done ∷ [] → IsBetween low at done → DoesLooking low at old new
  one old new done is between =
      record { more = done ∷ []; trace = is; looks = All-cons (IsBetween low at) done [] between (All-nil (IsBetween low at)) }

  quietly_looks : {old new : Seat} → Quietly old new → DoesLooking low at old new
  quietly_looks {old} {new} (Quietly.hears seat answered) = still old new refl
  quietly_looks {old} {new} (Quietly.counts seat sent) = still old new refl
  quietly_looks {old} {new} (Quietly.calls seat heap call answer none) = one old new (Called heap call answer) refl tt
  quietly_looks {old} {new} (Quietly.notes seat elements chunks) = still old new refl
  quietly_looks {old} {new} (Quietly.reads_names seat names) = one old new (NamesRead names) refl tt
  quietly_looks {old} {new} (Quietly.reads_stats seat heap counted) = one old new (StatsRead heap counted) refl tt
  quietly_looks {old} {new} (Quietly.changes_names seat change) = one old new (NamesChanged change) refl tt
  quietly_looks {old} {new} (Quietly.sees_heap seat heap history) = one old new (HeapSeen heap history) refl tt
  quietly_looks {old} {new} (Quietly.plans_range seat addr len page plan) = one old new (RangePlanned addr len page plan) refl tt
  quietly_looks {old} {new} (Quietly.maps_chunk seat chunk maps ended is) = one old new (ChunkMapped chunk ended) refl tt
  quietly_looks {old} {new} (Quietly.leaves_chunk seat chunk maps is) = still old new refl
  quietly_looks {old} {new} (Quietly.ends_line seat deed given) = still old new refl

  mails_looks : {who : ℕ} {old new : Seat} {step : MailStep} → Mails who old new step → DoesLooking low at old new
  mails_looks {who} {old} {new} (Mails.notes seat note) = still old new refl
  mails_looks {who} {old} {new} (Mails.finds_nothing seat) = still old new refl
  mails_looks {who} {old} {new} (Mails.fetches seat frame) = still old new refl
  mails_looks {who} {old} {new} (Mails.asks seat ask frame action posted its says) = still old new refl
  mails_looks {who} {old} {new} (Mails.tells seat heap run frame action posted says) = one old new (GaveUp heap run) refl tt
  mails_looks {who} {old} {new} (Mails.speaks seat to frame body action posted nothing says) = still old new refl

  handles_looks : {count who : ℕ} {old new : Seat} {taken given : SegsView} → Handles count who old new taken given
      → low ≤ length taken.log → length taken.log ≤ at → DoesLooking low at old new
  handles_looks {count} {who} {old} {new} (Handles.looks seat segs) above below = still old new refl
  handles_looks {count} {who} {old} {new} (Handles.moves_ranges seat segs ranges moves) above below = still old new refl
  handles_looks {count} {who} {old} {new} (Handles.steps seat segs event core is its knows denied may) above below = still old new refl
  handles_looks {count} {who} {old} {new} (Handles.maps seat segs caught table now core is its caught_up) above below = still old new refl
  handles_looks {count} {who} {old} {new} (Handles.follows seat segs caught table member caught_up) above below = still old new refl
  handles_looks {count} {who} {old} {new} (Handles.arms seat segs asked run number is) above below = one old new (Asked asked run) refl tt
  handles_looks {count} {who} {old} {new} (Handles.claims seat segs) above below = still old new refl
  handles_looks {count} {who} {old} {new} (Handles.settles seat segs since now late) above below = still old new refl
  handles_looks {count} {who} {old} {new} (Handles.cuts seat segs heap addr run) above below =
      one old new (Called heap (call.Cut addr) (gives.Pages run)) refl tt
  handles_looks {count} {who} {old} {new} (Handles.attaches seat segs caught after tried) above below = record {
    more = Looked (length segs.log) ∷ CaughtUp (length segs.log) caught ∷ [];
    trace = refl;
    looks = All-cons (IsBetween low at) (Looked (length segs.log)) (CaughtUp (length segs.log) caught ∷ []) (above, below)
        (All-cons (IsBetween low at) (CaughtUp (length segs.log) caught) [] tt (All-nil (IsBetween low at)));
  }
  handles_looks {count} {who} {old} {new} (Handles.detaches seat segs told secondary none heard) above below = still old new refl

-- a seat goes on from what it was at the beginning, and what it looked at since lies between
pub record HasLooked (low high : ℕ) (seats : List Seat) (who : ℕ) (seat : Seat) : Type 0 where
  pub was : Seat
  pub its : slice_get seats who ≡ Some was
  pub more : List Done
  pub trace : seat.trace ≡ was.trace ++ more
  pub looks : All (IsBetween low high) more

module _ (low : ℕ) (seats : List Seat) where
  looked_higher : (from to who : ℕ) (seat : Seat) → from ≤ to → HasLooked low from seats who seat → HasLooked low to seats who seat
  looked_higher from to who seat le has = record {
    was = has.was;
    its = has.its;
    more = has.more;
    trace = has.trace;
    looks = All-weaker (IsBetween low from) (IsBetween low to) (higher low from to le) has.more has.looks;
  }

  looked_on : (from to who : ℕ) (old new : Seat) → from ≤ to → HasLooked low from seats who old → DoesLooking low to old new
      → HasLooked low to seats who new
  looked_on from to who old new le has does =
      let so_far : All (IsBetween low to) has.more =
      All-weaker (IsBetween low from) (IsBetween low to) (higher low from to le) has.more has.looks in
      record {
        was = has.was;
        its = has.its;
        more = has.more ++ does.more;
        trace = does.trace ∙ (ap (λ trace. trace ++ does.more) has.trace ∙ append_assoc has.was.trace has.more does.more);
        looks = All-append (IsBetween low to) has.more does.more so_far does.looks;
      }

  -- one seat did something
  seats_on : (now : List Seat) (from to who : ℕ) (old new : Seat) → slice_get now who ≡ Some old → from ≤ to → DoesLooking low to old new
      → ((other : ℕ) (seat : Seat) → slice_get now other ≡ Some seat → HasLooked low from seats other seat) → (other : ℕ) (seat : Seat)
      → slice_get (slice_set now who new) other ≡ Some seat → HasLooked low to seats other seat
  seats_on now from to who old new there le does each other seat here = by_seat (seat_behind now who old new there other seat here)
    where
      by_seat : IsSeatAfter now who new other seat → HasLooked low to seats other seat
      by_seat (IsSeatAfter.its same is) =
          subst (λ seat. HasLooked low to seats other seat) (sym is)
          (subst (λ other. HasLooked low to seats other new) (sym same) (looked_on from to who old new le (each who old there) does))
      by_seat (IsSeatAfter.apart beside is) = looked_higher from to other seat le (each other seat is)

step_looks : {count : ℕ} {old new : GlobalState} (low : ℕ) (seats : List Seat) → Steps count old new → low ≤ length old.segs.log
    → ((who : ℕ) (seat : Seat) → slice_get old.seats who ≡ Some seat → HasLooked low (length old.segs.log) seats who seat)
    → (who : ℕ) (seat : Seat) → slice_get new.seats who ≡ Some seat → HasLooked low (length new.segs.log) seats who seat
step_looks low seats (Steps.quietly at by old new there did) above each =
    seats_on low seats at.seats (length at.segs.log) (length at.segs.log) by old new there (omega arith)
    (quietly_looks low (length at.segs.log) did) each
step_looks low seats (Steps.mails at by old new step there did) above each =
    seats_on low seats at.seats (length at.segs.log) (length at.segs.log) by old new there (omega arith)
    (mails_looks low (length at.segs.log) did) each
step_looks low seats (Steps.handles at by old new given there did kept armed) above each =
    let le = behind_longer at.segs given (handles_behind did) in
    seats_on low seats at.seats (length at.segs.log) (length given.log) by old new there le
    (handles_looks low (length given.log) did above le) each

-- after a run each seat has looked at what was between
pub runs_look : {count : ℕ} {start now : GlobalState} → Runs count start now → (who : ℕ) (seat : Seat) → slice_get now.seats who ≡ Some seat
    → HasLooked (length start.segs.log) (length now.segs.log) start.seats who seat
runs_look (Runs.stands at) who seat there = record {
  was = seat;
  its = there;
  more = [];
  trace = sym (append-nil seat.trace);
  looks = All-nil (IsBetween (length at.segs.log) (length at.segs.log));
}
runs_look (Runs.goes_on start mid last runs step) who seat there =
    step_looks (length start.segs.log) start.seats step (behind_longer start.segs mid.segs (runs_behind runs))
    (runs_look runs) who seat there

-- so has what its trace goes on by
pub looked_between : {count : ℕ} {start now : GlobalState} → Runs count start now → (who : ℕ) (old new : Seat) (trace : List Done)
    → slice_get start.seats who ≡ Some old → slice_get now.seats who ≡ Some new → new.trace ≡ old.trace ++ trace → (looked : ℕ)
    → Contains trace (Looked looked) → (length start.segs.log ≤ looked) × (looked ≤ length now.segs.log)
looked_between {count} {start} {now} runs who old new trace was is goes looked among =
    let has = runs_look runs who new is in
    let seat : has.was ≡ old = same_seat has.was old (sym has.its ∙ was) in
    let same : has.more ≡ trace =
    append_same old.trace has.more trace
    (subst (λ (seat : Seat). seat.trace ++ has.more ≡ new.trace) seat (sym has.trace) ∙ goes) in
    All-contains (IsBetween (length start.segs.log) (length now.segs.log)) trace (Looked looked)
    (subst (All (IsBetween (length start.segs.log) (length now.segs.log))) same has.looks) among
  where
    same_seat : (x y : Seat) → Some x ≡ Some y → x ≡ y
    same_seat x y is = cc

    append_same : {X : Type 0} (xs ys zs : List X) → xs ++ ys ≡ xs ++ zs → ys ≡ zs
    append_same [] ys zs is = is
    append_same (x ∷ xs) ys zs is =
        let rest : xs ++ ys ≡ xs ++ zs = cc in
        append_same xs ys zs rest
