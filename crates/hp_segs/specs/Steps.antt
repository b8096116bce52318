-- What each call of a segment value leaves: growths, claims and drops.
use Rattle.std.specs.Prelude.{ℕ, ◌+◌, ◌-◌, Bool, not, ◌&&◌, ◌==◌, nat_lt, List, [], ◌∷◌, ◌++◌, map, length, filter, find, Option, Some, None, slice_index, if◌then◌else◌}
use Rattle.std.specs.List.{range_with_len}
use Rattle.std.specs.Option.{option_map, option_and_then}
use Rattle.hp_base.specs.declared.row.Row.{Row}
use Rattle.hp_base.specs.declared.row.Run.{Run}
use Rattle.hp_log.specs.Rows.{rows_of, in_run}
use Rattle.hp_segs.specs.SegsView.{SegsView, is_retiring, is_member, grant_of, run_of}
use Rattle.hp_segs.specs.declared.ask.Ask.{Ask}
use Rattle.hp_segs.specs.declared.outcome.Cause.{Cause}
use Rattle.hp_segs.specs.declared.outcome.Outcome.{Outcome}
use Rattle.hp_segs.specs.declared.outcome.Outcome.TheVariants.{Granted, Refused, Freed}
use Rattle.hp_segs.specs.declared.outcome.AskLog.{AskLog}
use Rattle.hp_log.specs.declared.log_record.LogRecord.TheVariants.{Add, Drop}
use Rattle.hp_segs.specs.declared.row_state.RowState.{RowState}
use Rattle.hp_segs.specs.declared.row_state.RowState.TheVariants.{Opened, Agreed, Owned, Retiring}
use Rattle.hp_segs.specs.declared.row_state.Segment.{Segment}
use Rattle.hp_segs.specs.declared.growth.Growth.{Growth}
use Rattle.hp_segs.specs.declared.fault.NotAll.{NotAll}

-- a row with a state
abbrev pub segment_of : RowState → Row → Segment
segment_of state row = record { row = row; state = state }

-- one outcome of an ask is logged after the others, beside the number of records
abbrev pub with_outcome : SegsView → ℕ → ℕ → Outcome → Option Ask → List AskLog
with_outcome segs from number outcome ask =
    segs.asks ++ record { from = from; number = number; outcome = outcome; at = length segs.log; ask = ask } ∷ []

-- `reserve_records`: spare is at least n
abbrev pub after_reserve : ℕ → SegsView → SegsView
after_reserve n segs = record segs { spare = if nat_lt segs.spare n then n else segs.spare }

-- `open_run`: the Add is logged, and its rows are Opened
abbrev pub after_open : Ask → Run → SegsView → SegsView
after_open ask run segs =
    record segs {
      log = segs.log ++ Add run ask.heap ∷ [];
      segments = segs.segments ++ map (segment_of Opened) (rows_of run (length segs.log + 1));
      growth = Some (record { generation = length segs.log + 1; ask = ask; run = run; noted = None });
      spare = segs.spare - 1;
    }

-- `close_ask`: the ask is refused without a growth
abbrev pub after_close : Ask → Cause → SegsView → SegsView
after_close ask cause segs =
    record segs {
      asks = with_outcome segs ask.from ask.number (Refused cause) (Some ask);
      spare = segs.spare - 1;
    }

-- the member of the roster, at its number, has not acknowledged a generation
abbrev pub is_below : List Bool → List ℕ → ℕ → ℕ → Bool
is_below roster acks generation participant =
    is_member roster participant && nat_lt (slice_index acks participant) generation

-- the lowest member of the roster that has not acknowledged a generation
abbrev pub lowest_member_below : List Bool → List ℕ → ℕ → Option NotAll
lowest_member_below roster acks generation =
    option_map
    (λ participant. record { participant = participant; acked = slice_index acks participant })
    (find (is_below roster acks generation) (range_with_len 0 16))

-- the rows of a generation become Agreed for a heap
abbrev pub agreed_segment : ℕ → ℕ → Segment → Segment
agreed_segment generation heap segment =
    if segment.row.generation == generation then segment_of (Agreed heap) segment.row else segment

-- a growth that all have acknowledged: its rows are Agreed, and its ask is granted
abbrev pub after_grant : Growth → SegsView → SegsView
after_grant growth segs =
    record segs {
      segments = map (agreed_segment growth.generation growth.ask.heap) segs.segments;
      asks = with_outcome segs growth.ask.from growth.ask.number (Granted growth.generation) (Some growth.ask);
      growth = None;
      spare = segs.spare - 1;
    }

-- the member that keeps the open growth from being granted
abbrev pub lowest_below : SegsView → List ℕ → Option NotAll
lowest_below segs acks =
    option_and_then (λ growth. lowest_member_below segs.roster acks growth.generation) segs.growth

-- the segments without those at the slots of a run
abbrev pub without_run : Run → List Segment → List Segment
without_run run segments = filter (λ segment. not (in_run run segment.row)) segments

-- a growth that failed: its Drop is logged, its rows are gone, and its ask is refused, by as many places as it takes
abbrev pub after_failure : Growth → Cause → Option Ask → ℕ → SegsView → SegsView
after_failure growth cause ask places segs =
    record segs {
      log = segs.log ++ Drop growth.run ∷ [];
      segments = without_run growth.run segs.segments;
      asks = with_outcome segs growth.ask.from growth.ask.number (Refused cause) ask;
      growth = None;
      spare = segs.spare - places;
    }

-- a growth is granted where no member keeps it from that
abbrev pub granted_unless : Growth → SegsView → Option NotAll → SegsView
granted_unless growth segs None = after_grant growth segs
granted_unless growth segs (Some member) = segs

abbrev pub agreed_growth : List ℕ → SegsView → Option Growth → SegsView
agreed_growth acks segs None = segs
agreed_growth acks segs (Some growth) =
    granted_unless growth segs (lowest_member_below segs.roster acks growth.generation)

-- `agree`: the open growth is granted, unless a member has not acknowledged it
abbrev pub after_agree : List ℕ → SegsView → SegsView
after_agree acks segs = agreed_growth acks segs segs.growth

abbrev pub cancelled_growth : Cause → SegsView → Option Growth → SegsView
cancelled_growth cause segs None = segs
cancelled_growth cause segs (Some growth) = after_failure growth cause (Some growth.ask) 2 segs

-- `cancel`: the open growth is refused, and its slots and pages are free again
abbrev pub after_cancel : Cause → SegsView → SegsView
after_cancel cause segs = cancelled_growth cause segs segs.growth

-- an Agreed row becomes Owned by the heap that it was agreed for
abbrev pub claimed_state : RowState → RowState
claimed_state Opened = Opened
claimed_state (Agreed heap) = Owned heap
claimed_state (Owned heap) = Owned heap
claimed_state Retiring = Retiring

-- the rows of a generation are claimed
abbrev pub claimed_segment : ℕ → Segment → Segment
claimed_segment generation segment =
    if segment.row.generation == generation then segment_of (claimed_state segment.state) segment.row else segment

abbrev pub claimed_grant : SegsView → Option ℕ → SegsView
claimed_grant segs None = segs
claimed_grant segs (Some generation) = record segs { segments = map (claimed_segment generation) segs.segments }

-- `claim`: the rows of the ask's grant become Owned by its heap
abbrev pub after_claim : ℕ → ℕ → SegsView → SegsView
after_claim from number segs = claimed_grant segs (grant_of segs.asks from number)

-- the run of an ask's grant
abbrev pub claimed_run : ℕ → ℕ → SegsView → Option Run
claimed_run from number segs = option_and_then (run_of segs.log) (grant_of segs.asks from number)

-- the rows of a run become Retiring
abbrev pub retired_segment : Run → Segment → Segment
retired_segment run segment = if in_run run segment.row then segment_of Retiring segment.row else segment

-- a run among others by rising address
abbrev pub insert_by_address : Run → List Run → List Run
insert_by_address run [] = run ∷ []
insert_by_address run (other ∷ runs) =
    if nat_lt run.addr other.addr then run ∷ other ∷ runs else other ∷ insert_by_address run runs

-- `retire`: the heap gives up the run
abbrev pub after_retire : ℕ → Run → SegsView → SegsView
after_retire heap run segs =
    record segs {
      segments = map (retired_segment run) segs.segments;
      retiring = insert_by_address run segs.retiring;
      retired = segs.retired ++ (heap, run) ∷ [];
    }

-- `drop_retiring`: one Drop for each Retiring run, lowest address first, and no row is Retiring
abbrev pub after_drop : SegsView → SegsView
after_drop segs =
    record segs {
      log = segs.log ++ map (λ run. Drop run) segs.retiring;
      segments = filter (λ segment. not (is_retiring segment.state)) segs.segments;
      retiring = [];
      spare = segs.spare - length segs.retiring;
    }

-- `log_freed`: the ask is answered at the present generation
abbrev pub after_freed : ℕ → ℕ → SegsView → SegsView
after_freed from number segs =
    record segs {
      asks = with_outcome segs from number (Freed (length segs.log)) None;
      spare = segs.spare - 1;
    }
