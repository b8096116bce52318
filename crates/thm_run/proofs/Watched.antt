-- At each moment of a run the watchers of each participant are those that its lines left, and know the rows of its table.
use Rattle.std.proofs.Common.{◌≡◌, ◌∙◌, ℕ, ◌<◌, ◌≤◌, Bool, true, false, ◌||◌, not, List, [], ◌∷◌, ◌++◌, length, length-append, Some, refl, ap, sym, subst, arith}
use Rattle.std.specs.Prelude.{slice_get, slice_set}
use Rattle.std.specs.List.{All}
use Rattle.std.proofs.lemmas.Bool.{or_parts}
use Rattle.std.proofs.lemmas.Option.{same_Some, slice_get_within}
use Rattle.std.proofs.lemmas.List.Elements.{All-filter, All-nil, All-push}
use Rattle.hp_base.specs.Mapping.{is_done}
use Rattle.hp_base.specs.Telling.{Listener}
use Rattle.hp_base.specs.declared.caught.Caught.{Caught}
use Rattle.hp_base.specs.declared.caught.Caught.TheVariants as caught
use Rattle.hp_base.specs.declared.event.Event.{Event}
use Rattle.hp_base.specs.declared.pool_line.PoolLine.{PoolLine}
use Rattle.hp_base.specs.declared.row.Row.{Row}
use Rattle.hp_events.specs.Watchers.{has_name}
use Rattle.hp_hall.specs.Mail.{MailStep}
use Rattle.hp_log.specs.Places.{IsLogOf, IsOutside, ListPlace, slots_in}
use Rattle.hp_log.specs.declared.log_record.LogRecord.{LogRecord}
use Rattle.hp_maps.specs.Bytes.{AreTold}
use Rattle.hp_maps.specs.Catching.{CanCatchUp, Lags, kept, new_rows, newer, number_after, rows_after, undropped}
use Rattle.hp_maps.specs.Events.{IsToldByAddress, all_told}
use Rattle.hp_maps.specs.Knowing.{AllKnow, Knows}
use Rattle.hp_maps.specs.MapsView.{MapsView, chunk_rows, table_in}
use Rattle.hp_maps.specs.Ready.{AreBeside, IsReady}
use Rattle.hp_maps.proofs.CatchLemmas.{lags_after, table_kept}
use Rattle.hp_maps.proofs.ReadyLemmas.{lags_behind_more, ready_to_catch_up}
use Rattle.hp_script.specs.declared.answer.Answer.{Answer}
use Rattle.hp_script.specs.declared.answer.Answer.TheVariants as answer
use Rattle.hp_script.specs.declared.line.Act.{Act}
use Rattle.hp_script.specs.declared.line.Act.TheVariants as act
use Rattle.hp_segs.specs.LogPlaces.{LogIsPlaced, places_of}
use Rattle.hp_segs.specs.SegsView.{SegsView}
use Rattle.hp_segs.specs.Sound.{IsSound}
use Rattle.hp_serve.proofs.ChunksTied.{table_left as rows_left}
use Rattle.hp_serve.proofs.HearsLemmas.{hears_caught, hears_rows}
use Rattle.hp_serve.specs.Attaching.{Attaches, after_detaching, emptied, table_left}
use Rattle.hp_serve.specs.Party.{Party, with_maps}
use Rattle.hp_serve.specs.Serving.{CatchesUp, after_catching_up, told_of}
use Rattle.hp_serve.specs.Watched.{names_of}
use Rattle.hp_proc.specs.Courses.{Standing, standing_tried}
use Rattle.hp_proc.specs.ParticipantView.{listeners_after, watched_after}
use Rattle.hp_proc.specs.Registering.{watchers_after}
use Rattle.hp_proc.proofs.RegisteredLines.{names_registered}
use Rattle.thm_run.proofs.PathSteps.ByMail.{run_of}
use Rattle.thm_run.proofs.BesideChunks.{after_alike, caught_alike, mapped_alike, no_chunk_rows, table_alone, table_twice}
use Rattle.thm_run.proofs.Hearing.{known_caught, known_left, new_knows}
use Rattle.thm_run.proofs.SeatFacts.LogAlong.{HasRecords, step_records}
use Rattle.thm_run.proofs.SeatFacts.Seating.{IsSeatAfter, seat_behind}
use Rattle.thm_run.proofs.SeatFacts.SeatsAlong.{count_along}
use Rattle.thm_run.proofs.SeatFacts.SegsAlong.{armed_along, sound_along}
use Rattle.thm_run.proofs.RunFacts.SoFarFacts.{at_place}
use Rattle.thm_run.specs.Seats.{Handles, Mails, Quietly, Seat}
use Rattle.thm_run.specs.Together.{IsFirst, GlobalState, Runs, Steps}
use Rattle.thm_run.specs.Watching.{AreWatched, IsWatched, IsWatchedBy, WatchedSoFar}

-- A TABLE THAT CATCHES UP

-- they know these rows of the log
abbrev AllKnowTable : List Row → List Listener → Type 0
AllKnowTable rows listeners = All (λ (listener : Listener). AreTold listener.events (table_in listener.since) rows) listeners

-- what counts here of a table does not depend on its mapper's calls, nor on its room, nor on rows of chunks
abbrev roomy : List ListPlace → MapsView → MapsView
roomy lists maps = record maps { rows = table_in maps.rows; answers = []; capacity = slots_in lists }

no_chunks : (lists : List ListPlace) → AreBeside lists []
no_chunks lists = record { outside = All-nil (λ (row : Row). IsOutside lists row.addr); apart = λ addr. omega arith }

number_within : (n to : ℕ) (ended : Caught) → n ≤ to → number_after n to ended ≤ to
number_within n to caught.Done from = omega arith
number_within n to (caught.Refused row call) from = from
number_within n to (caught.Elsewhere row call got) from = from

module _ (log : List LogRecord) (lists : List ListPlace) (placed : IsLogOf lists log) (party : Party) (watchers : List (List ℕ))
    (was : IsWatchedBy log party watchers) where
  abbrev maps : MapsView
  maps = roomy lists party.maps

  ready : IsReady lists maps log (length log)
  ready = record {
    from = was.within;
    within = omega arith;
    log = placed;
    lags = subst (Lags log party.maps.number (length log)) (sym (table_twice party.maps.rows)) was.lags;
    chunks = subst (AreBeside lists) (sym (table_alone party.maps.rows)) (no_chunks lists);
    room = omega (arith, ap (λ (rows : List Row). length rows) (table_alone party.maps.rows));
    calls = omega arith;
  }

  can : CanCatchUp maps log (length log)
  can = ready_to_catch_up lists maps log (length log) ready

  -- the records that it has not taken in, and the rows of the log after it caught up with them
  abbrev more : List LogRecord
  more = newer log party.maps.number (length log)

  abbrev after_rows : Caught → List Row
  after_rows ended = rows_after (kept more (table_in party.maps.rows)) (new_rows party.maps.number more) ended

  same_rows : (ended : Caught) (table : MapsView) → CatchesUp log party.maps table ended → table_in (after_rows ended) ≡ table_in table.rows
  same_rows ended table caught_up =
      after_alike more party.maps.rows (new_rows party.maps.number more) ended ∙ sym (ap table_in caught_up.rows)

  -- its watchers know the log's rows, of which the rows of chunks are none
  known : AllKnow (table_in party.maps.rows) party.listeners
  known = subst (λ (rows : List Row). AllKnowTable rows party.listeners) (sym (table_twice party.maps.rows)) was.know

  -- who was out, and could not map all, has no row of the log
  gone : (table : MapsView) → table.rows ≡ kept more party.maps.rows → table_in party.maps.rows ≡ [] → table_in table.rows ≡ []
  gone table is none = ap table_in is ∙ (table_kept more party.maps.rows ∙ ap (undropped more) none)

  still_out : (ended : Caught) (table : MapsView) → CatchesUp log party.maps table ended → (party.joined || is_done ended) ≡ false
      → table_in table.rows ≡ []
  still_out caught.Done table caught_up out = absurd (done_in party.joined out)
    where
      done_in : (joined : Bool) → (joined || true) ≡ false → ⊥
      done_in true is = cc
      done_in false is = cc
  still_out (caught.Refused row call) table caught_up out =
      gone table caught_up.rows (was.out (or_parts party.joined false out).0)
  still_out (caught.Elsewhere row call got) table caught_up out =
      gone table caught_up.rows (was.out (or_parts party.joined false out).0)

  -- its watchers know the rows that it has then, however that ended
  pub caught_watched : (ended : Caught) (table : MapsView) → CatchesUp log party.maps table ended
      → IsWatchedBy log (after_catching_up log ended table party) watchers
  caught_watched ended table caught_up =
      let told : List Listener = told_of log ended party.maps party.listeners in
      record {
        names = (hears_caught log ended table party).names ∙ was.names;
        within = omega (arith, caught_up.number, number_within party.maps.number (length log) ended was.within);
        lags = subst (Lags log table.number (length log)) (same_rows ended table caught_up)
            (lags_after maps log (length log) table.number ended (after_rows ended) can refl caught_up.number);
        out = still_out ended table caught_up;
        know = subst (λ (rows : List Row). AllKnowTable rows told) (same_rows ended table caught_up)
            (known_caught maps log (length log) ended (after_rows ended) party.listeners told refl
            (ap (λ (events : List Event). all_told events party.listeners) (caught_alike party.maps.rows party.maps.number more ended))
            lists ready known);
      }

  -- who could not map all when it attached has no row, and its watchers know that
  none_left : (ended : Caught) (table : MapsView) → CatchesUp log party.maps table ended → (party.joined || is_done ended) ≡ false
      → IsWatchedBy log (record party {
        maps = emptied table;
        listeners = told_of log ended party.maps party.listeners;
        joined = is_done ended;
      }) watchers
  none_left ended table caught_up out =
      let is = caught_watched ended table caught_up in
      record {
        names = is.names;
        within = omega arith;
        lags = record { reached = 0; from = omega arith; up_to = omega arith; left = refl };
        out = λ none. refl;
        know = subst (λ (rows : List Row). AllKnowTable rows (told_of log ended party.maps party.listeners)) (still_out ended table caught_up out)
            is.know;
      }

  -- one that attached, or tried to
  attached : (ended : Caught) (table : MapsView) → CatchesUp log party.maps table ended → party.joined ≡ false
      → IsWatchedBy log (record party {
        maps = table_left ended table;
        listeners = told_of log ended party.maps party.listeners;
        joined = is_done ended;
      }) watchers
  attached caught.Done table caught_up out =
      let is = caught_watched caught.Done table caught_up in
      record { names = is.names; within = is.within; lags = is.lags; out = λ none. absurd cc; know = is.know }
  attached (caught.Refused row call) table caught_up out = none_left (caught.Refused row call) table caught_up (ap (λ (joined : Bool). joined || false) out)
  attached (caught.Elsewhere row call got) table caught_up out =
      none_left (caught.Elsewhere row call got) table caught_up (ap (λ (joined : Bool). joined || false) out)

  pub attached_watched : (ended : Caught) (after : Party) → Attaches party after log ended → IsWatchedBy log after watchers
  attached_watched ended after tried =
      subst (λ (after : Party). IsWatchedBy log after watchers) (sym tried.after_is) (attached ended tried.maps tried.caught_up tried.out)

  -- and one that detached: its watchers were told of all rows as they went
  pub detached_watched : (told : List Listener) → chunk_rows party.maps.rows ≡ [] → IsToldByAddress party.maps.rows party.listeners told
      → IsWatchedBy log (after_detaching told party) watchers
  detached_watched told none heard = record {
    names = hears_rows party.maps.rows party.listeners told heard ∙ was.names;
    within = omega arith;
    lags = record { reached = 0; from = omega arith; up_to = omega arith; left = refl };
    out = λ out. refl;
    know = known_left maps log (length log) party.listeners told (table_alone party.maps.rows)
        (subst (λ (rows : List Row). IsToldByAddress rows party.listeners told) (sym (no_chunk_rows party.maps.rows none)) heard) lists ready
        known;
  }

-- records come after the others
longer : (log more : List LogRecord) (party : Party) (watchers : List (List ℕ)) → IsWatchedBy log party watchers
    → IsWatchedBy (log ++ more) party watchers
longer log more party watchers was = record {
  names = was.names;
  within = omega (arith, was.within, length-append log more);
  lags = lags_behind_more log more party.maps.number (length log) (length (log ++ more)) (table_in party.maps.rows) (omega arith)
      (omega (arith, length-append log more)) was.lags;
  out = was.out;
  know = was.know;
}

-- A LINE THAT ENDS

know_after : (deed : Act) (given : Answer) (rows : List Row) (listeners : List Listener) → AllKnow rows listeners
    → AllKnow rows (listeners_after deed given rows listeners)
know_after (act.Watch name) answer.Done rows listeners know =
    All-push (Knows rows) listeners (record { name = name.text; since = rows; events = [] }) know (new_knows name.text rows)
know_after (act.Unwatch name) answer.Done rows listeners know =
    All-filter (λ (listener : Listener). not (has_name name.text listener)) (Knows rows) listeners know
know_after _ given rows listeners know = know

ended_watched : (log : List LogRecord) (deed : Act) (given : Answer) (party : Party) (watchers : List (List ℕ)) → IsWatchedBy log party watchers
    → IsWatchedBy log (watched_after deed given party) (watchers_after deed given watchers)
ended_watched log deed given party watchers was = record {
  names = names_registered deed given party ∙ ap (watchers_after deed given) was.names;
  within = was.within;
  lags = was.lags;
  out = was.out;
  know = know_after deed given party.maps.rows party.listeners was.know;
}

-- WHAT EACH DEED LEAVES

-- one with the same table and the same watchers
same_watched : {log : List LogRecord} (old new : Party) (watchers : List (List ℕ)) → new.maps ≡ old.maps → new.listeners ≡ old.listeners
    → new.joined ≡ old.joined → IsWatchedBy log old watchers → IsWatchedBy log new watchers
same_watched {log} old new watchers maps listeners joined was = record {
  names = ap names_of listeners ∙ was.names;
  within = omega (arith, was.within, ap (λ (maps : MapsView). maps.number) maps);
  lags = subst (λ (maps : MapsView). Lags log maps.number (length log) (table_in maps.rows)) (sym maps) was.lags;
  out = λ out. ap (λ (maps : MapsView). table_in maps.rows) maps ∙ was.out (sym joined ∙ out);
  know = subst (λ (maps : MapsView). AllKnow maps.rows new.listeners) (sym maps) (subst (AllKnow old.maps.rows) (sym listeners) was.know);
}

-- one whose table has other rows of chunks
chunk_watched : (log : List LogRecord) (maps : MapsView) (party : Party) (watchers : List (List ℕ)) → table_in maps.rows ≡ table_in party.maps.rows
    → maps.number ≡ party.maps.number → IsWatchedBy log party watchers → IsWatchedBy log (with_maps maps party) watchers
chunk_watched log maps party watchers rows number was = record {
  names = was.names;
  within = omega (arith, was.within, number);
  lags = subst (λ (n : ℕ). Lags log n (length log) (table_in maps.rows)) (sym number)
      (subst (Lags log party.maps.number (length log)) (sym rows) was.lags);
  out = λ out. rows ∙ was.out out;
  know = subst (λ (rows : List Row). AllKnowTable rows party.listeners) (sym rows) was.know;
}

pub quietly_watched : {old new : Seat} (log : List LogRecord) → Quietly old new → IsWatched log old → IsWatched log new
quietly_watched log (Quietly.hears seat answered) was = same_watched seat.party _ seat.standing.watchers refl refl refl was
quietly_watched log (Quietly.counts seat sent) was = same_watched seat.party _ seat.standing.watchers refl refl refl was
quietly_watched log (Quietly.calls seat heap call answer none) was = was
quietly_watched log (Quietly.notes seat elements chunks) was = was
quietly_watched log (Quietly.reads_names seat names) was = was
quietly_watched log (Quietly.reads_stats seat heap counted) was = was
quietly_watched log (Quietly.changes_names seat change) was = was
quietly_watched log (Quietly.sees_heap seat heap history) was = was
quietly_watched log (Quietly.plans_range seat addr len page plan) was = was
quietly_watched log (Quietly.maps_chunk seat chunk maps ended is) was =
    chunk_watched log maps seat.party seat.standing.watchers (ap table_in is.rows ∙ mapped_alike seat.party.maps.rows chunk ended) is.others.number was
quietly_watched log (Quietly.leaves_chunk seat chunk maps is) was =
    chunk_watched log maps seat.party seat.standing.watchers (ap table_in is.rows ∙ rows_left chunk seat.party.maps.rows) is.others.number was
quietly_watched log (Quietly.ends_line seat deed given) was = ended_watched log deed given seat.party seat.standing.watchers was

pub mails_watched : {who : ℕ} {old new : Seat} {step : MailStep} (log : List LogRecord) → Mails who old new step → IsWatched log old
    → IsWatched log new
mails_watched log (Mails.notes seat note) was = was
mails_watched log (Mails.finds_nothing seat) was = was
mails_watched log (Mails.fetches seat frame) was = was
mails_watched log (Mails.asks seat ask frame action posted its says) was = was
mails_watched log (Mails.tells seat heap run frame action posted says) was =
    same_watched seat.party _ seat.standing.watchers refl refl refl was
mails_watched log (Mails.speaks seat to frame body action posted nothing says) was = was

tried_watchers : (records : ℕ) (ended : Caught) (standing : Standing)
    → (standing_tried records ended standing).watchers ≡ standing.watchers
tried_watchers records caught.Done standing = refl
tried_watchers records (caught.Refused row call) standing = refl
tried_watchers records (caught.Elsewhere row call got) standing = refl

-- by what it made of the segment value while it held that
pub handles_watched : {count who : ℕ} {old new : Seat} {taken given : SegsView} → LogIsPlaced → Handles count who old new taken given → IsSound taken
    → IsWatched taken.log old → IsWatched taken.log new
handles_watched log_is_placed (Handles.looks seat segs) sound was = was
handles_watched log_is_placed (Handles.moves_ranges seat segs ranges moves) sound was = was
handles_watched log_is_placed (Handles.steps seat segs event core is its knows denied may) sound was =
    same_watched seat.party _ seat.standing.watchers refl refl refl was
handles_watched log_is_placed (Handles.maps seat segs ended table now core is its caught_up) sound was =
    same_watched (after_catching_up segs.log ended table seat.party) _ seat.standing.watchers refl refl refl
    (caught_watched segs.log (places_of segs.pools) (log_is_placed segs sound) seat.party seat.standing.watchers was ended table caught_up)
handles_watched log_is_placed (Handles.follows seat segs ended table member caught_up) sound was =
    caught_watched segs.log (places_of segs.pools) (log_is_placed segs sound) seat.party seat.standing.watchers was ended table caught_up
handles_watched log_is_placed (Handles.arms seat segs asked run number is) sound was =
    same_watched seat.party _ seat.standing.watchers refl refl refl was
handles_watched log_is_placed (Handles.claims seat segs) sound was = was
handles_watched log_is_placed (Handles.settles seat segs since now late) sound was = was
handles_watched log_is_placed (Handles.cuts seat segs heap addr run) sound was = was
handles_watched log_is_placed (Handles.attaches seat segs ended after tried) sound was =
    subst (IsWatchedBy segs.log after) (sym (tried_watchers (length segs.log) ended seat.standing))
    (attached_watched segs.log (places_of segs.pools) (log_is_placed segs sound) seat.party seat.standing.watchers was ended after tried)
handles_watched log_is_placed (Handles.detaches seat segs told secondary none heard) sound was =
    detached_watched segs.log (places_of segs.pools) (log_is_placed segs sound) seat.party seat.standing.watchers was told none heard

-- A RUN

module _ (log : List LogRecord) (seats : List Seat) (who : ℕ) (old new : Seat) (there : slice_get seats who ≡ Some old)
    (all : (other : ℕ) (seat : Seat) → slice_get seats other ≡ Some seat → IsWatched log seat) (is : IsWatched log new) where
  seats_watched : (other : ℕ) (seat : Seat) → slice_get (slice_set seats who new) other ≡ Some seat → IsWatched log seat
  seats_watched other seat here = by_seat (seat_behind seats who old new there other seat here)
    where
      by_seat : IsSeatAfter seats who new other seat → IsWatched log seat
      by_seat (IsSeatAfter.its same its) = subst (IsWatched log) (sym its) is
      by_seat (IsSeatAfter.apart beside its) = all other seat its

pub watched_on : (old new : List LogRecord) (seat : Seat) → HasRecords old new → IsWatched old seat → IsWatched new seat
watched_on old new seat has was =
    subst (λ (log : List LogRecord). IsWatched log seat) (sym has.is) (longer old has.more seat.party seat.standing.watchers was)

step_watched : {count : ℕ} {old new : GlobalState} → LogIsPlaced → Steps count old new → IsSound old.segs → HasRecords old.segs.log new.segs.log → AreWatched old
    → AreWatched new
step_watched log_is_placed (Steps.quietly at who from to there did) sound has was =
    seats_watched at.segs.log at.seats who from to there was (quietly_watched at.segs.log did (was who from there))
step_watched log_is_placed (Steps.mails at who from to step there did) sound has was =
    seats_watched at.segs.log at.seats who from to there was (mails_watched at.segs.log did (was who from there))
step_watched log_is_placed (Steps.handles at who from to given there did kept armed) sound has was = λ other seat here.
    watched_on at.segs.log given.log seat has
    (seats_watched at.segs.log at.seats who from to there was (handles_watched log_is_placed did sound (was who from there)) other seat here)

module _ (count absent : ℕ) (pools : List PoolLine) (first : GlobalState) (is : IsFirst count absent pools first) where
  first_watched : AreWatched first
  first_watched who seat there =
      let its = is.each who seat there in
      record {
        names = ap names_of its.listeners ∙ sym its.watchers;
        within = omega (arith, its.number);
        lags = subst (λ (rows : List Row). Lags first.segs.log seat.party.maps.number (length first.segs.log) (table_in rows)) (sym its.rows)
            (subst (λ (number : ℕ). Lags first.segs.log number (length first.segs.log) []) (sym its.number)
            (record { reached = 0; from = omega arith; up_to = omega arith; left = refl }));
        out = λ out. ap table_in its.rows;
        know = subst (AllKnow seat.party.maps.rows) (sym its.listeners) (All-nil (Knows seat.party.maps.rows));
      }

  -- so it is at each moment of a run
  pub runs_watched : {now : GlobalState} → LogIsPlaced → Runs count first now → AreWatched now
  runs_watched log_is_placed (Runs.stands at) = first_watched
  runs_watched log_is_placed (Runs.goes_on start mid last runs step) =
      step_watched log_is_placed step (sound_along count absent pools first is mid runs)
      (step_records count mid last step (armed_along count absent pools first is mid runs).growth) (runs_watched log_is_placed runs)

-- and as far as a workload was run
pub watched_so_far : LogIsPlaced → WatchedSoFar
watched_so_far log_is_placed workload courses parties hall so who party there =
    let below : who < length so.now.seats =
    omega (arith, slice_get_within parties who party there, so.count, count_along (run_of so.runs), so.is_first.seats) in
    let seat = at_place so.now.seats who below in
    let sits = so.seats who seat.it seat.there in
    let its = runs_watched workload.participants workload.absent workload.pools.items so.first so.is_first log_is_placed (run_of so.runs) who seat.it seat.there in
    subst (IsWatchedBy so.now.segs.log party) (ap (λ (standing : Standing). standing.watchers) sits.standing)
    (subst (λ (party : Party). IsWatchedBy so.now.segs.log party seat.it.standing.watchers)
    (same_Some seat.it.party party (sym sits.party ∙ there)) its)
