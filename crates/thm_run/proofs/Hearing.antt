-- Those that know the rows of a table know the rows after it, by what they were told: after a catch-up, and at the end.
use Rattle.std.proofs.Common.{◌≡◌, ◌∙◌, ℕ, Bool, List, [], ◌∷◌, ◌++◌, append-nil, append_assoc, refl, ap, sym, subst}
use Rattle.std.proofs.lemmas.List.Elements.{All-cons, All-head, All-nil, All-tail}
use Rattle.hp_base.specs.Telling.{Listener, hearing, told_after}
use Rattle.hp_base.specs.declared.caught.Caught.{Caught}
use Rattle.hp_base.specs.declared.event.Event.{Event}
use Rattle.hp_base.specs.declared.event.EventKind.TheVariants.{Free}
use Rattle.hp_base.specs.declared.row.Row.{Row}
use Rattle.hp_log.specs.declared.log_record.LogRecord.{LogRecord}
use Rattle.hp_maps.specs.Bytes.{AllFit, AreTold, bytes_after, bytes_after_all, has_byte, in_event, told_byte}
use Rattle.hp_maps.specs.Catching.{kept, new_rows, newer, rows_after}
use Rattle.hp_maps.specs.Events.{IsToldByAddress, all_told, caught_events, events_of}
use Rattle.hp_maps.specs.Knowing.{AllKnow, Knows, NewKnows, StayKnown}
use Rattle.hp_maps.specs.MapsView.{MapsView, chunk_rows, table_in}
use Rattle.hp_maps.proofs.EventFacts.BytesLaw.{tells_bytes, tells_the_end}

-- the same bytes before events are the same bytes after them
same_after : (events : List Event) (some other : ℕ → Bool) → ((byte : ℕ) → some byte ≡ other byte) → (byte : ℕ)
    → bytes_after_all events some byte ≡ bytes_after_all events other byte
same_after [] some other same byte = same byte
same_after (event ∷ events) some other same byte =
    same_after events (bytes_after event some) (bytes_after event other) (λ byte. ap (told_byte event.kind (in_event byte event)) (same byte)) byte

-- and the events fit them as they fit the others
same_fit : (events : List Event) (some other : ℕ → Bool) → ((byte : ℕ) → some byte ≡ other byte) → AllFit events some → AllFit events other
same_fit [] some other same fit = tt
same_fit (event ∷ events) some other same fit = (
  λ byte is. sym (same byte) ∙ fit.0 byte is,
  same_fit events (bytes_after event some) (bytes_after event other) (λ byte. ap (told_byte event.kind (in_event byte event)) (same byte)) fit.1,
)

-- events after others
fit_append : (first more : List Event) (bytes : ℕ → Bool) → AllFit first bytes → AllFit more (bytes_after_all first bytes)
    → AllFit (first ++ more) bytes
fit_append [] more bytes fits rest = rest
fit_append (event ∷ first) more bytes fits rest = (fits.0, fit_append first more (bytes_after event bytes) fits.1 rest)

after_append : (first more : List Event) (bytes : ℕ → Bool) (byte : ℕ)
    → bytes_after_all (first ++ more) bytes byte ≡ bytes_after_all more (bytes_after_all first bytes) byte
after_append [] more bytes byte = refl
after_append (event ∷ first) more bytes byte = after_append first more (bytes_after event bytes) byte

-- what is told in two parts
told_in_turn : (first more : List Event) (before between after : List Row) → AreTold first before between → AreTold more between after
    → AreTold (first ++ more) before after
told_in_turn first more before between after one two = record {
  fit = fit_append first more (has_byte before) one.fit
      (same_fit more (has_byte between) (bytes_after_all first (has_byte before)) (λ byte. sym (one.leave byte)) two.fit);
  leave = λ byte.
      after_append first more (has_byte before) byte
      ∙ (same_after more (bytes_after_all first (has_byte before)) (has_byte between) one.leave byte ∙ two.leave byte);
}

-- one that listens, told events one after the other
abbrev hearing_all : List Event → Listener → Listener
hearing_all [] listener = listener
hearing_all (event ∷ events) listener = hearing_all events (hearing event listener)

its_start : (events : List Event) (listener : Listener) → (hearing_all events listener).since ≡ listener.since
its_start [] listener = refl
its_start (event ∷ events) listener = its_start events (hearing event listener)

its_events : (events : List Event) (listener : Listener) → (hearing_all events listener).events ≡ listener.events ++ events
its_events [] listener = sym (append-nil listener.events)
its_events (event ∷ events) listener =
    its_events events (hearing event listener) ∙ append_assoc listener.events (event ∷ []) events

all_front : (events : List Event) (listener : Listener) (listeners : List Listener)
    → all_told events (listener ∷ listeners) ≡ hearing_all events listener ∷ all_told events listeners
all_front [] listener listeners = refl
all_front (event ∷ events) listener listeners = all_front events (hearing event listener) (told_after event listeners)

all_none : (events : List Event) → all_told events [] ≡ []
all_none [] = refl
all_none (event ∷ events) = all_none events

module _ (events : List Event) (before after : List Row) (told : AreTold events (table_in before) (table_in after)) where
  -- one that knows the rows before knows those after
  one_knows : (listener : Listener) → Knows before listener → Knows after (hearing_all events listener)
  one_knows listener knows =
      subst (λ (since : List Row). AreTold (hearing_all events listener).events (table_in since) (table_in after)) (sym (its_start events listener))
      (subst (λ (all : List Event). AreTold all (table_in listener.since) (table_in after)) (sym (its_events events listener))
      (told_in_turn listener.events events (table_in listener.since) (table_in before) (table_in after) knows told))

  -- and so do all of them
  pub all_know : (listeners : List Listener) → AllKnow before listeners → AllKnow after (all_told events listeners)
  all_know [] know = subst (AllKnow after) (sym (all_none events)) (All-nil (Knows after))
  all_know (listener ∷ listeners) know =
      subst (AllKnow after) (sym (all_front events listener listeners))
      (All-cons (Knows after) (hearing_all events listener) (all_told events listeners)
      (one_knows listener (All-head (Knows before) listener listeners know))
      (all_know listeners (All-tail (Knows before) listener listeners know)))

-- so it is after a catch-up, however it ended
pub known_caught : (maps : MapsView) (records : List LogRecord) (to : ℕ) (ended : Caught) (rows : List Row) (old new : List Listener)
    → rows ≡ rows_after (kept (newer records maps.number to) maps.rows) (new_rows maps.number (newer records maps.number to)) ended
    → new ≡ all_told (caught_events maps.rows maps.number (newer records maps.number to) ended) old → StayKnown maps records to old rows new
known_caught maps records to ended rows old new is_rows told lists ready know =
    subst (AllKnow rows) (sym told)
    (all_know (caught_events maps.rows maps.number (newer records maps.number to) ended) maps.rows rows
    (tells_bytes lists maps records to ended rows ready is_rows) old know)

-- and at the end
pub known_left : (maps : MapsView) (records : List LogRecord) (to : ℕ) (old new : List Listener) → chunk_rows maps.rows ≡ []
    → IsToldByAddress maps.rows old new → StayKnown maps records to old [] new
known_left maps records to old new none told lists ready know =
    subst (AllKnow []) (sym told.told)
    (all_know (events_of Free told.rising) maps.rows [] (tells_the_end lists maps records to told.rising ready told.same none) old know)

pub new_knows : NewKnows
new_knows name rows = record { fit = tt; leave = λ byte. refl }
