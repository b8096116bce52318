-- What a participant knows of a board, and how its own steps change that: the rule "Views" of docs/BOARD.md.
use Rattle.std.specs.Prelude.{◌≡◌, ℕ, ◌==◌, not, ◌||◌, Bool, false, List, [], ◌∷◌, ◌++◌, map, length, Option, Some, None, unwrap_or, if◌then◌else◌}
use Rattle.std.specs.List.{filter, slice_get}
use Rattle.std.specs.Option.{is_some, option_map}
use Rattle.hp_base.specs.declared.chunk.Chunk.{Chunk}
use Rattle.hp_base.specs.declared.limits.TheConstants.{MAX_HEAPS}
use Rattle.hp_base.specs.declared.row.Row.{Row}
use Rattle.hp_heap.specs.declared.entry.Entry.{Entry}
use Rattle.hp_log.specs.declared.log_record.LogRecord.{LogRecord}
use Rattle.hp_segs.specs.LaterSteps.{armed_ask}
use Rattle.hp_segs.specs.SegsView.{is_member}
use Rattle.hp_segs.specs.Standing.{Holding, standing_of}
use Rattle.hp_segs.specs.declared.ask.Ask.{Ask}
use Rattle.hp_segs.specs.declared.external_range.ExternalRange.{ExternalRange}
use Rattle.hp_segs.specs.declared.outcome.AskLog.{AskLog}
use Rattle.hp_hall.specs.Named.{NamesSeen}
use Rattle.hp_hall.specs.Naming.{Naming, marked_by, naming_of}
use Rattle.hp_hall.specs.Own.{Own, rows_known}
use Rattle.hp_hall.specs.Values.{history_of, joined_after}
use Rattle.hp_hall.specs.declared.kept.Kept.{Kept}
use Rattle.hp_hall.specs.declared.kept.Kept.TheVariants.{Heap, Names, Segments}
use Rattle.hp_hall.specs.declared.slot.TheConstants.{NAMES_SLOT}
use Rattle.hp_zone.specs.declared.name_change.NameChange.{NameChange}
use Rattle.hp_zone.specs.declared.zone.ZoneChange.{ZoneChange}
use Rattle.hp_board.specs.KeptValues.{entries_added}
use Rattle.hp_board.specs.declared.view.Move.TheVariants.{Took, Gave}
use Rattle.hp_board.specs.declared.opening.Opening.{Opening}
use Rattle.hp_board.specs.declared.view.Awaited.{Awaited}
use Rattle.hp_board.specs.declared.view.LinesDone.{LinesDone}
use Rattle.hp_board.specs.declared.view.Mine.{Mine}

-- what a list of numbered values has for a number: the first that it has
abbrev pub value_of : {A : Type 0} → ℕ → List (ℕ × A) → Option A
value_of number [] = None
value_of number (pair ∷ pairs) = if pair.0 == number then Some pair.1 else value_of number pairs

-- all values that a list has for a number, in their order
abbrev pub values_of : {A : Type 0} → ℕ → List (ℕ × A) → List A
values_of number [] = []
values_of number (pair ∷ pairs) = if pair.0 == number then pair.1 ∷ values_of number pairs else values_of number pairs

-- the list without the values of a number
abbrev pub without : {A : Type 0} → ℕ → List (ℕ × A) → List (ℕ × A)
without number pairs = filter (λ pair. not (pair.0 == number)) pairs

-- values, each under one number
abbrev pub under : {A : Type 0} → ℕ → List A → List (ℕ × A)
under number values = map (λ value. (number, value)) values

-- a list begins with another
abbrev pub BeginsWith : {A : Type 0} → List A → List A → Type 0
BeginsWith {A} whole front = (rest : List A) × (whole ≡ front ++ rest)

-- what a participant has seen of the history of a slot
abbrev pub seen_of : ℕ → Mine → List Entry
seen_of slot mine = unwrap_or (value_of slot mine.seen) []

-- the entries that a participant made in the heap of a slot
abbrev pub made_in : ℕ → Mine → List Entry
made_in slot mine = values_of slot mine.made

-- the chunks of the heap of a slot that have a participant's mark, as it gave the heap back last
abbrev pub marked_in : ℕ → Mine → List Chunk
marked_in slot mine = unwrap_or (value_of slot mine.marked) []

-- all entries that a participant made
abbrev pub all_made : Mine → List Entry
all_made mine = map (λ pair. pair.1) mine.made

-- it holds the slot of the segment value
abbrev pub holds_segments : Mine → Bool
holds_segments mine = is_some (value_of MAX_HEAPS mine.held)

-- it holds the slot of the names
abbrev pub holds_names : Mine → Bool
holds_names mine = is_some (value_of NAMES_SLOT mine.held)

-- how many records a participant has acknowledged, as it knows: itself, and of another what it loaded last
abbrev pub noted_of : ℕ → Mine → ℕ
noted_of other mine = if other == mine.who then mine.number else unwrap_or (value_of other mine.noted) 0

-- how far it has taken in the log, and unmapped what that drops
abbrev pub own_of : Mine → Own
own_of mine = record { number = mine.number; unmapped = mine.unmapped }

-- it has a table: it is in the roster, or joins
abbrev pub has_table : Mine → Bool
has_table mine = mine.joined || mine.joining

-- its table, without the rows of chunks; who has none has no row
abbrev pub table_of : Mine → List Row
table_of mine = if has_table mine then rows_known mine.log (own_of mine) else []

-- what has been seen of the log and of the outcomes once a value was seen
abbrev pub log_seen : Kept → List LogRecord → List LogRecord
log_seen (Heap heap pen) log = log
log_seen (Segments segs) log = segs.log
log_seen (Names names) log = log

abbrev pub asks_heard : Kept → List AskLog → List AskLog
asks_heard (Heap heap pen) heard = heard
asks_heard (Segments segs) heard = segs.asks
asks_heard (Names names) heard = heard

-- what has been seen of the changes of memzones and of the directory of heaps once a value was seen
abbrev pub zones_seen : Kept → List ZoneChange → List ZoneChange
zones_seen (Heap heap pen) zones = zones
zones_seen (Segments segs) zones = zones
zones_seen (Names names) zones = names.zones.log

abbrev pub names_seen : Kept → List NameChange → List NameChange
names_seen (Heap heap pen) changes = changes
names_seen (Segments segs) changes = changes
names_seen (Names names) changes = names.heaps.log

-- what a participant has seen of the names
abbrev pub named_of : Mine → NamesSeen
named_of mine = record { sockets = mine.opening.names.value.heaps.sockets; zones = mine.zones; heaps = mine.names }

-- whether a participant joins still once it has given a value: with the segment value its joining ends, and the roster says whether it
-- has joined
abbrev pub joining_after : Kept → Bool → Bool
joining_after (Heap heap pen) joining = joining
joining_after (Segments segs) joining = false
joining_after (Names names) joining = joining

-- what is known of the heaps in hand once a value was taken: of a heap what the segment value has for it
abbrev pub holdings_taken : ℕ → Kept → Holding → List (ℕ × Holding) → List (ℕ × Holding)
holdings_taken slot (Heap heap pen) holding holdings = (slot, holding) ∷ holdings
holdings_taken slot (Segments segs) holding holdings = holdings
holdings_taken slot (Names names) holding holdings = holdings

-- the holdings once a value was given: a heap is in hand no longer, and a segment value says what it has for those that are
abbrev pub holdings_after : ℕ → Kept → List (ℕ × Holding) → List (ℕ × Holding)
holdings_after slot (Heap heap pen) holdings = without slot holdings
holdings_after slot (Segments segs) holdings = map (λ pair. (pair.0, standing_of pair.0 segs)) holdings
holdings_after slot (Names names) holdings = holdings

-- what a participant knows of its marks once it has given a value: where that is a heap, its marks there
abbrev pub marked_after : ℕ → ℕ → Kept → List (ℕ × List Chunk) → List (ℕ × List Chunk)
marked_after who slot (Heap heap pen) marked = (slot, marked_by who heap.plain) ∷ marked
marked_after who slot (Segments segs) marked = marked
marked_after who slot (Names names) marked = marked

-- what a taker learns beside the value: of a heap what the segment value has for it, and of names what they speak of, of each heap with the heap's
-- slot, and the external memory that is claimed
pub record Learned : Type 0 where
  pub holding : Holding
  pub namings : List (ℕ × Naming)
  pub claims : List ExternalRange

-- what is known for the names once a value was taken: who takes them learns it
abbrev pub namings_taken : Kept → Learned → List (ℕ × Naming) → List (ℕ × Naming)
namings_taken (Heap heap pen) learned namings = namings
namings_taken (Segments segs) learned namings = namings
namings_taken (Names names) learned namings = learned.namings

abbrev pub claims_taken : Kept → Learned → Option (List ExternalRange) → Option (List ExternalRange)
claims_taken (Heap heap pen) learned claims = claims
claims_taken (Segments segs) learned claims = claims
claims_taken (Names names) learned claims = Some learned.claims

-- and once one was given: who has the names in hand knows of a heap, and of the segment value, what it gave; who gives the names knows nothing
-- for them any more
abbrev pub namings_after : ℕ → Kept → List (ℕ × Naming) → List (ℕ × Naming)
namings_after slot (Heap heap pen) namings = map (λ pair. if pair.0 == slot then (slot, naming_of heap.plain) else pair) namings
namings_after slot (Segments segs) namings = namings
namings_after slot (Names names) namings = []

abbrev pub claims_later : Kept → Option (List ExternalRange) → Option (List ExternalRange)
claims_later (Heap heap pen) claims = claims
claims_later (Segments segs) claims = option_map (λ old. segs.ranges) claims
claims_later (Names names) claims = None

-- the ask with which a participant is armed once it has given a value
abbrev pub armed_after : ℕ → Kept → Option Ask → Option Ask
armed_after who (Heap heap pen) armed = armed
armed_after who (Segments segs) armed = armed_ask segs who
armed_after who (Names names) armed = armed

-- nothing is done yet
abbrev pub none_done : LinesDone
none_done = record { lines = 0; entries = 0; zones = 0; names = 0 }

-- what stands when a participant tells that so many lines are done
abbrev pub done_now : ℕ → Mine → LinesDone
done_now lines mine = record { lines = lines; entries = length mine.made; zones = length mine.zones; names = length mine.names }

-- a participant looks up that so many lines of another are done
abbrev pub awaited_now : ℕ → Mine → Awaited
awaited_now lines mine = record { lines = lines; entries = length mine.made; moves = length mine.moves }

-- how many of its lines a participant has told to be done
abbrev pub lines_told : Mine → ℕ
lines_told mine = (unwrap_or (slice_get mine.done 0) none_done).lines

-- how many lines a participant knows to be done: of its own those that it has told, and of another's those that it looked up last
abbrev pub lines_known : ℕ → Mine → ℕ
lines_known other mine =
    if other == mine.who then lines_told mine else unwrap_or (option_map (λ awaited. awaited.lines) (value_of other mine.awaited)) 0

-- a participant before its first step
abbrev pub newcomer : Opening → ℕ → Mine
newcomer opening who = record {
  who = who;
  opening = opening;
  held = [];
  made = [];
  seen = [];
  marked = [];
  found = [];
  log = [];
  heard = [];
  zones = [];
  names = [];
  number = 0;
  unmapped = 0;
  joined = is_member opening.segs.value.roster who;
  joining = false;
  noted = [];
  armed = None;
  holdings = [];
  namings = [];
  claims = None;
  moves = [];
  done = none_done ∷ [];
  awaited = [];
}

-- it has taken the value of a slot, and learned this beside it
abbrev pub after_take : ℕ → Kept → Learned → Mine → Mine
after_take slot kept learned mine = record mine {
  held = (slot, kept) ∷ mine.held;
  seen = (slot, history_of kept) ∷ mine.seen;
  log = log_seen kept mine.log;
  heard = asks_heard kept mine.heard;
  zones = zones_seen kept mine.zones;
  names = names_seen kept mine.names;
  holdings = holdings_taken slot kept learned.holding mine.holdings;
  namings = namings_taken kept learned mine.namings;
  claims = claims_taken kept learned mine.claims;
  moves = mine.moves ++ Took slot kept ∷ [];
}

-- it has given a value for a slot, in place of the taken one: where that is the segment value it is in the roster and armed as this
-- says, and where it is not in the roster it has no table any more
abbrev pub after_give : ℕ → Kept → Mine → Mine
after_give slot given mine = record mine {
  held = without slot mine.held;
  made = mine.made ++ under slot (entries_added (value_of slot mine.held) given);
  seen = (slot, history_of given) ∷ mine.seen;
  marked = marked_after mine.who slot given mine.marked;
  log = log_seen given mine.log;
  heard = asks_heard given mine.heard;
  zones = zones_seen given mine.zones;
  names = names_seen given mine.names;
  joined = joined_after mine.who given mine.joined;
  joining = joining_after given mine.joining;
  armed = armed_after mine.who given mine.armed;
  holdings = holdings_after slot given mine.holdings;
  namings = namings_after slot given mine.namings;
  claims = claims_later given mine.claims;
  moves = mine.moves ++ Gave slot given ∷ [];
}

-- it has found a slot's lock word held
abbrev pub after_look : ℕ → ℕ → Mine → Mine
after_look slot word mine = record mine { found = mine.found ++ (slot, word) ∷ [] }

-- it has acknowledged so many records: its table is that of these; where it is out it joins
abbrev pub after_acking : ℕ → Mine → Mine
after_acking number mine = record mine { number = number; unmapped = number; joining = not mine.joined }

-- its table has lost what the records after its number drop, as far as it has seen them
abbrev pub after_unmapping : Mine → Mine
after_unmapping mine = record mine { unmapped = length mine.log }

-- it has loaded a participant's number
abbrev pub after_load : ℕ → ℕ → Mine → Mine
after_load other number mine = record mine { noted = (other, number) ∷ mine.noted }

-- it has told that so many of its lines are done
abbrev pub after_telling : ℕ → Mine → Mine
after_telling lines mine = record mine { done = done_now lines mine ∷ mine.done }

-- it has looked up that so many lines of a participant are done
abbrev pub after_lookup : ℕ → ℕ → Mine → Mine
after_lookup other lines mine = record mine { awaited = (other, awaited_now lines mine) ∷ mine.awaited }

-- it has found lock words held, and nothing else has changed
abbrev pub FindsMore : Mine → Mine → Type 0
FindsMore mine after = (words : List (ℕ × ℕ)) × (after ≡ record mine { found = mine.found ++ words })
