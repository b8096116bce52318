-- What one that is away does by itself leads from a quiet world to a quiet one: it changes what it knows, cuts a run, attaches or detaches.
use Rattle.std.proofs.Common.{◌≡◌, ◌∙◌, ℕ, ◌-◌, ◌≤◌, ◌<◌, Bool, true, false, List, [], ◌∷◌, ◌++◌, length, length-append, map, take, Option, Some, None, refl, sym, ap, subst, arith}
use Rattle.std.specs.Prelude.{slice_get, slice_index_or, slice_set}
use Rattle.std.specs.Option.{option_and_then}
use Rattle.std.proofs.lemmas.List.Elements.{All-contains}
use Rattle.std.proofs.lemmas.Option.{slice_get_within}
use Rattle.hp_base.specs.Mapping.{is_done, own_place}
use Rattle.hp_base.specs.declared.caught.Caught.{Caught}
use Rattle.hp_base.specs.declared.caught.Caught.TheVariants as caught
use Rattle.hp_base.specs.declared.map_answer.MapAnswer.{MapAnswer}
use Rattle.hp_base.specs.declared.map_answer.MapAnswer.TheVariants as map_answer
use Rattle.hp_base.specs.declared.row.Row.{Row}
use Rattle.hp_base.specs.declared.row.Run.{Run}
use Rattle.hp_segs.specs.Standing.{IsArmed}
use Rattle.hp_hall.specs.Mail.{MailStep, Notes}
use Rattle.hp_hall.specs.declared.note.Note.TheVariants.{Emptied}
use Rattle.hp_log.specs.declared.log_record.LogRecord.{LogRecord}
use Rattle.hp_maps.specs.Catching.{HasAnswered, HasFailed}
use Rattle.hp_maps.specs.MapsView.{MapsView, calls_of}
use Rattle.hp_segs.specs.LaterSteps.{after_leave}
use Rattle.hp_segs.specs.SegsView.{SegsView, added_run, granted_by, is_member}
use Rattle.hp_segs.specs.Sound.{IsSound}
use Rattle.hp_segs.specs.SoundAsks.{IsGranted}
use Rattle.hp_segs.specs.Steps.{after_retire}
use Rattle.hp_segs.specs.declared.outcome.AskLog.{AskLog}
use Rattle.hp_segs.specs.declared.outcome.Outcome.{Outcome}
use Rattle.hp_segs.specs.declared.outcome.Outcome.TheVariants as outcome
use Rattle.hp_serve.specs.Attaching.{after_attaching, table_left}
use Rattle.hp_serve.specs.Party.{Party}
use Rattle.hp_serve.specs.Serving.{CatchesUp, acks_after, gives_segments, takes_segments}
use Rattle.hp_solo.specs.Solo.{AloneView, SoloView, has_stopped, party_at}
use Rattle.thm_causes.specs.Counting.{LosesNothing}
use Rattle.thm_causes.specs.RoundTrip.{Setting, RunState, number_of_party}
use Rattle.thm_causes.specs.Quiet.{IsQuietOwing, IsQuietState}
use Rattle.thm_causes.specs.Failing.{AreGrantsWithin}
use Rattle.thm_causes.specs.Servings.{numbered}
use Rattle.thm_causes.specs.Shared.{IsSharedIn, MakesAll, Shared, with_segs}
use Rattle.thm_causes.specs.Stages.{world_with}
use Rattle.thm_causes.specs.Waits.{LeadsTo}
use Rattle.thm_causes.specs.RunStates.{IsInOrder, IsRunStateOf}
use Rattle.thm_causes.proofs.CaughtUp.{Ends, ends_so}
use Rattle.thm_causes.proofs.LineFacts.LinesQuiet.{IsAsBefore, IsKnownTo, SharesAsBefore, quiet_stays}
use Rattle.thm_causes.proofs.Said.{index_set, index_unset, set_found, set_long, set_unfound}
use Rattle.thm_causes.proofs.Sharing.{acked, gave, numbered_segs, took}

-- GRANTS

found_within : (log : List LogRecord) (place : ℕ) (run : Run) (record_at : Option LogRecord) → slice_get log place ≡ record_at
    → option_and_then added_run record_at ≡ Some run → place < length log
found_within log place run None is adds = cc
found_within log place run (Some entry) is adds = slice_get_within log place entry is

granted_logged : (log : List LogRecord) (one : Outcome) (generation : ℕ) → IsGranted log one → granted_by one ≡ Some generation
    → generation ≤ length log
granted_logged log (outcome.Granted granted) generation is by =
    let within : granted - 1 < length log = found_within log (granted - 1) is.1.0 (slice_get log (granted - 1)) refl is.1.1 in
    let same : granted ≡ generation = cc in
    omega (arith, within, same)
granted_logged log (outcome.Refused cause) generation is by = cc
granted_logged log (outcome.Stale done) generation is by = cc
granted_logged log (outcome.Freed freed) generation is by = cc

-- all that was granted is logged
pub grants_logged : (segs : SegsView) → IsSound segs → AreGrantsWithin (length segs.log) segs.asks
grants_logged segs sound entry generation among by =
    granted_logged segs.log entry.outcome generation
    (All-contains (λ (entry : AskLog). IsGranted segs.log entry.outcome) segs.asks entry sound.asks.granted among) by

-- TABLES

-- what is left of a table knows of each call
calls_left : (ended : Caught) (maps : MapsView) → calls_of (table_left ended maps) ≡ calls_of maps
calls_left caught.Done maps = refl
calls_left (caught.Refused row call) maps = refl
calls_left (caught.Elsewhere row call got) maps = refl

calls_end : (log : List LogRecord) (old new : MapsView) (ended : Caught) → Ends log old new ended → calls_of old ≤ calls_of new
calls_end log old new ended (Ends.whole is number calls) = calls
calls_end log old new ended (Ends.failed call is more its failed number) = omega (arith, more, its)

-- calls are made and never unmade
pub calls_rise : (log : List LogRecord) (old new : MapsView) (ended : Caught) → CatchesUp log old new ended
    → calls_of old ≤ calls_of (table_left ended new)
calls_rise log old new ended is = omega (arith, calls_end log old new ended (ends_so log old new ended is), calls_left ended new)

failed_more : (fresh : List Row) (old new : List MapAnswer) (row : Row) (call : ℕ) (got : MapAnswer) → HasFailed fresh old new row call got
    → length old ≤ length new
failed_more fresh old new row call got failed =
    omega (
      arith,
      ap (λ (answers : List MapAnswer). length answers) failed.answered,
      length-append (old ++ map own_place (take failed.place fresh)) (got ∷ []),
      length-append old (map own_place (take failed.place fresh)),
    )

-- nor are those for a chunk
pub chunk_calls : (fresh : List Row) (old new : MapsView) (ended : Caught) → HasAnswered fresh old.answers new.answers ended
    → calls_of old ≤ calls_of new
chunk_calls fresh old new caught.Done is = omega (arith, ap (λ (answers : List MapAnswer). length answers) is, length-append old.answers (map own_place fresh))
chunk_calls fresh old new (caught.Refused row call) is = failed_more fresh old.answers new.answers row call map_answer.Refused is
chunk_calls fresh old new (caught.Elsewhere row call got) is = failed_more fresh old.answers new.answers row call got is.0

-- a participant has a table that has taken in as much, or has none as before
pub record HasSameTable (old new : Party) : Type 0 where
  pub joined : new.joined ≡ old.joined
  pub number : new.maps.number ≡ old.maps.number

-- a participant came out of an attach that ended so
pub record HasTried (log : List LogRecord) (ended : Caught) (old new : Party) : Type 0 where
  pub maps : MapsView
  pub caught_up : CatchesUp log old.maps maps ended
  pub left : new.maps ≡ table_left ended maps
  pub joined : new.joined ≡ is_done ended

module _ (set : Setting) (me : ℕ) (old new : SoloView) (party after : Party) (world : RunState) (its : IsRunStateOf old me party world)
    (owes : Bool) (owing : IsQuietOwing set owes world) (servers : new.servers ≡ old.servers) (order : IsInOrder new.plain)
    (goes : IsAsBefore party after) where
  quiet : IsQuietState set world
  quiet = owing.quiet

  -- it leads to a quiet world, in which it owes word of a run, or not
  abbrev Leads : Bool → Type 0
  Leads left = LeadsTo (IsQuietOwing set left) new me after

  -- the hall is such a world again
  own_leads : (left : Bool) (at : Shared) → IsSharedIn new.plain at → SharesAsBefore me world.shared at → IsKnownTo set me at after
      → (LosesNothing set.plan → left ≡ false → at.segs.retiring ≡ []) → Leads left
  own_leads left at shared shares known gone = record {
    world = world_with at world.mail me after world;
    its = record {
      shared = shared;
      order = order;
      going = ap has_stopped servers ∙ its.going;
      own = set_found world.parties me party after its.own;
      others = λ who other.
          set_unfound world.parties me who after other
          ∙ its.others who other
          ∙ sym (ap (λ (servers : List AloneView). party_at servers who) servers);
    };
    holds = record { quiet = quiet_stays set me world at party after quiet its.own goes shares known; gone = gone };
  }

  -- the segment value has come to another of which the rows alone are others
  known_still : (segs : SegsView) → segs.roster ≡ world.shared.segs.roster → segs.log ≡ world.shared.segs.log
      → segs.asks ≡ world.shared.segs.asks → HasSameTable party after → IsKnownTo set me (with_segs segs world.shared) after
  known_still segs roster log asks same =
      let place = quiet.base.places me party its.own in
      record {
        joined = ap (λ (roster : List Bool). is_member roster me) roster ∙ place.joined ∙ sym same.joined;
        number = λ joined. same.number ∙ place.number (sym same.joined ∙ joined);
        within = omega (arith, place.within, ap length log);
        granted = λ joined. subst (AreGrantsWithin (number_of_party world me)) (sym asks) (place.granted (sym same.joined ∙ joined));
        level = λ nothing joined. quiet.level nothing me (place.joined ∙ sym same.joined ∙ joined) ∙ sym (ap length log);
      }

  shares_still : (segs : SegsView) → segs.roster ≡ world.shared.segs.roster → segs.log ≡ world.shared.segs.log
      → segs.asks ≡ world.shared.segs.asks → segs.growth ≡ world.shared.segs.growth → IsSound segs → IsArmed segs
      → SharesAsBefore me world.shared (with_segs segs world.shared)
  shares_still segs roster log asks growth sound armed = record {
    boxes = refl;
    numbers = refl;
    log = log;
    asks = asks;
    growth = growth;
    others = λ who other. refl;
    members = λ who other. ap (λ (roster : List Bool). is_member roster who) roster;
    sound = sound;
    armed = armed;
  }

  -- nothing that is shared has changed
  pub stays : (at : Shared) → IsSharedIn new.plain at → at ≡ world.shared → HasSameTable party after → Leads owes
  stays at shared is same =
      let segs = world.shared.segs in
      own_leads owes (with_segs segs world.shared) (subst (IsSharedIn new.plain) is shared)
      (shares_still segs refl refl refl refl quiet.base.sound quiet.base.armed) (known_still segs refl refl refl same) owing.gone

  -- it gave up a run, of which it owes word
  pub cuts : (at : Shared) → IsSharedIn new.plain at → (heap : ℕ) (run : Run) (taken : SegsView)
      → MakesAll me (takes_segments taken ∷ gives_segments (after_retire heap run taken) ∷ []) world.shared at → HasSameTable party after
      → Leads true
  cuts at shared heap run taken made same =
      let segs = after_retire heap run world.shared.segs in
      let began = took me taken (gives_segments (after_retire heap run taken) ∷ []) world.shared at made in
      let given = gave me (after_retire heap run taken) [] world.shared at began.1 in
      let is : at ≡ with_segs segs world.shared =
      given.rest ∙ ap (λ (segs : SegsView). with_segs (after_retire heap run segs) world.shared) began.0 in
      own_leads true (with_segs segs world.shared) (subst (IsSharedIn new.plain) is shared)
      (shares_still segs refl refl refl refl (subst (λ (segs : SegsView). IsSound (after_retire heap run segs)) began.0 given.sound)
      (subst (λ (segs : SegsView). IsArmed (after_retire heap run segs)) began.0 (given.armed quiet.base.armed)))
      (known_still segs refl refl refl same) (λ nothing owes_nothing. cc)

  -- it looked at the segment value, or moved external memory
  pub moves_ranges : (at : Shared) → IsSharedIn new.plain at → (taken moved : SegsView)
      → MakesAll me (takes_segments taken ∷ gives_segments moved ∷ []) world.shared at → moved.roster ≡ taken.roster → moved.log ≡ taken.log
      → moved.asks ≡ taken.asks → moved.growth ≡ taken.growth → moved.retiring ≡ taken.retiring → HasSameTable party after → Leads owes
  moves_ranges at shared taken moved made roster log asks growth retiring same =
      let began = took me taken (gives_segments moved ∷ []) world.shared at made in
      let given = gave me moved [] world.shared at began.1 in
      let rosters : moved.roster ≡ world.shared.segs.roster = roster ∙ ap (λ (segs : SegsView). segs.roster) began.0 in
      let logs : moved.log ≡ world.shared.segs.log = log ∙ ap (λ (segs : SegsView). segs.log) began.0 in
      let outcomes : moved.asks ≡ world.shared.segs.asks = asks ∙ ap (λ (segs : SegsView). segs.asks) began.0 in
      own_leads owes (with_segs moved world.shared) (subst (IsSharedIn new.plain) given.rest shared)
      (shares_still moved rosters logs outcomes (growth ∙ ap (λ (segs : SegsView). segs.growth) began.0) given.sound
      (given.armed quiet.base.armed))
      (known_still moved rosters logs outcomes same)
      (λ nothing owes_nothing. retiring ∙ ap (λ (segs : SegsView). segs.retiring) began.0 ∙ owing.gone nothing owes_nothing)

  -- it left the roster
  pub leaves : (at : Shared) → IsSharedIn new.plain at → me < 16 → (taken : SegsView)
      → MakesAll me (takes_segments taken ∷ Notes Emptied ∷ gives_segments (after_leave me taken) ∷ []) world.shared at
      → after.joined ≡ false
      → Leads owes
  leaves at shared few taken made out =
      let place = quiet.base.places me party its.own in
      let segs = after_leave me world.shared.segs in
      let began = took me taken (Notes Emptied ∷ gives_segments (after_leave me taken) ∷ []) world.shared at made in
      let more = subst (λ (mid : Shared). MakesAll me (gives_segments (after_leave me taken) ∷ []) mid at) began.1.1 began.1.2 in
      let given = gave me (after_leave me taken) [] world.shared at more in
      let is : at ≡ with_segs segs world.shared =
      given.rest ∙ ap (λ (segs : SegsView). with_segs (after_leave me segs) world.shared) began.0 in
      let has_place : me < length world.shared.segs.roster = omega (arith, few, quiet.base.sound.places.roster_places) in
      own_leads owes (with_segs segs world.shared) (subst (IsSharedIn new.plain) is shared)
      (record {
        boxes = refl;
        numbers = refl;
        log = refl;
        asks = refl;
        growth = refl;
        others = λ who other. refl;
        members = λ who other. index_unset world.shared.segs.roster me who false false other;
        sound = subst (λ (segs : SegsView). IsSound (after_leave me segs)) began.0 given.sound;
        armed = subst (λ (segs : SegsView). IsArmed (after_leave me segs)) began.0 (given.armed quiet.base.armed);
      })
      (record {
        joined = index_set world.shared.segs.roster me false false has_place ∙ sym out;
        number = λ joined. cc;
        within = place.within;
        granted = λ joined. cc;
        level = λ nothing joined. cc;
      })
      owing.gone

  -- what is shared after an attach
  abbrev behind : Caught → Shared
  behind ended = with_segs (after_attaching me ended world.shared.segs) (numbered me ended world.shared)

  has_number : me < length world.shared.numbers
  has_number = omega (arith, slice_get_within world.parties me party its.own, quiet.base.parties, quiet.base.numbers)

  attach_shares : (ended : Caught) → IsSound (behind ended).segs → IsArmed (behind ended).segs
      → SharesAsBefore me world.shared (behind ended)
  attach_shares caught.Done sound armed = record {
    boxes = refl;
    numbers = set_long world.shared.numbers me (length world.shared.segs.log);
    log = refl;
    asks = refl;
    growth = refl;
    others = λ who other. index_unset world.shared.numbers me who (length world.shared.segs.log) 0 other;
    members = λ who other. index_unset world.shared.segs.roster me who true false other;
    sound = sound;
    armed = armed;
  }
  attach_shares (caught.Refused row call) sound armed = shares_still world.shared.segs refl refl refl refl sound armed
  attach_shares (caught.Elsewhere row call got) sound armed = shares_still world.shared.segs refl refl refl refl sound armed

  stays_out : party.joined ≡ false → after.joined ≡ false → IsKnownTo set me (with_segs world.shared.segs world.shared) after
  stays_out out fails =
      let place = quiet.base.places me party its.own in
      record {
        joined = place.joined ∙ out ∙ sym fails;
        number = λ joined. cc;
        within = place.within;
        granted = λ joined. cc;
        level = λ nothing joined. cc;
      }

  attach_known : (ended : Caught) → me < 16 → party.joined ≡ false → HasTried world.shared.segs.log ended party after
      → IsKnownTo set me (behind ended) after
  attach_known caught.Done few out tried =
      let log = world.shared.segs.log in
      let its_number : slice_index_or (slice_set world.shared.numbers me (length log)) me 0 ≡ length log =
      index_set world.shared.numbers me (length log) 0 has_number in
      record {
        joined =
            index_set world.shared.segs.roster me true false (omega (arith, few, quiet.base.sound.places.roster_places))
            ∙ sym tried.joined;
        number = λ joined. ap (λ (maps : MapsView). maps.number) tried.left ∙ tried.caught_up.number ∙ sym its_number;
        within = omega (arith, its_number);
        granted = λ joined.
            subst (λ (n : ℕ). AreGrantsWithin n world.shared.segs.asks) (sym its_number)
            (grants_logged world.shared.segs quiet.base.sound);
        level = λ nothing joined. its_number;
      }
  attach_known (caught.Refused row call) few out tried = stays_out out tried.joined
  attach_known (caught.Elsewhere row call got) few out tried = stays_out out tried.joined

  attach_gone : (ended : Caught) → LosesNothing set.plan → owes ≡ false → (behind ended).segs.retiring ≡ []
  attach_gone caught.Done = owing.gone
  attach_gone (caught.Refused row call) = owing.gone
  attach_gone (caught.Elsewhere row call got) = owing.gone

  -- the steps after the take
  abbrev tries : Caught → SegsView → List MailStep
  tries ended segs = acks_after ended (length segs.log) ++ (gives_segments (after_attaching me ended segs) ∷ [])

  -- it attached, or tried to
  pub attaches : (at : Shared) → IsSharedIn new.plain at → me < 16 → (taken : SegsView) (ended : Caught)
      → MakesAll me (takes_segments taken ∷ tries ended taken) world.shared at
      → party.joined ≡ false → HasTried taken.log ended party after → Leads owes
  attaches at shared few taken ended made out tried =
      let segs = world.shared.segs in
      let began = took me taken (tries ended taken) world.shared at made in
      let more =
      acked me ended (gives_segments (after_attaching me ended segs) ∷ []) world.shared at
      (subst (λ (segs : SegsView). MakesAll me (tries ended segs) world.shared at) began.0 began.1) in
      let given = gave me (after_attaching me ended segs) [] (numbered me ended world.shared) at more in
      let armed = given.armed (subst IsArmed (sym (numbered_segs me ended world.shared)) quiet.base.armed) in
      own_leads owes (behind ended) (subst (IsSharedIn new.plain) given.rest shared) (attach_shares ended given.sound armed)
      (attach_known ended few out (subst (λ (segs : SegsView). HasTried segs.log ended party after) began.0 tried)) (attach_gone ended)
