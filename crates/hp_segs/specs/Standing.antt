-- What the segment value has for a heap, and of whose asks its growth and its outcomes are: the rule "Holding" of docs/HALLS.md.
use Rattle.std.specs.Prelude.{◌≡◌, ℕ, Bool, false, not, ◌&&◌, ◌==◌, List, filter, flat_map, map, Contains, Some}
use Rattle.std.specs.Option.{option_and_then, option_map_or, option_to_list}
use Rattle.hp_base.specs.declared.row.Run.{Run}
use Rattle.hp_log.specs.declared.log_record.LogRecord.{LogRecord}
use Rattle.hp_segs.specs.GrowthLaws.{HasArmedGrowth}
use Rattle.hp_segs.specs.LaterSteps.{armed_ask}
use Rattle.hp_segs.specs.SegsView.{SegsView, granted_by, is_owned_by, is_unclaimed, run_of}
use Rattle.hp_segs.specs.declared.ask.Ask.{Ask}
use Rattle.hp_segs.specs.declared.outcome.AskLog.{AskLog}
use Rattle.hp_segs.specs.declared.row_state.Segment.{Segment}

-- what the segment value has for a heap
pub record Holding : Type 0 where
  -- the segments that are its own
  pub owned : List Segment
  -- the outcomes that granted it runs which it has claimed, in the order in which they were logged
  pub claimed : List AskLog
  -- these runs, in that order
  pub came : List Run
  -- the runs that it gave up, in the order in which it did
  pub retired : List Run

-- the segments that are a heap's own
abbrev pub owned_by : ℕ → SegsView → List Segment
owned_by heap segs = filter (λ segment. is_owned_by heap segment.state) segs.segments

-- an outcome granted the heap a run, and no row of that is Agreed any more
abbrev pub is_claimed_for : ℕ → List Segment → AskLog → Bool
is_claimed_for heap segments entry = option_map_or (λ ask. ask.heap == heap) entry.ask false
    && option_map_or (λ generation. not (is_unclaimed segments generation)) (granted_by entry.outcome) false

-- the outcomes that granted a heap runs which it has claimed
abbrev pub claimed_by : ℕ → SegsView → List AskLog
claimed_by heap segs = filter (is_claimed_for heap segs.segments) segs.asks

-- the run that an outcome granted, by the log
abbrev pub run_granted : List LogRecord → AskLog → List Run
run_granted log entry = option_to_list (option_and_then (run_of log) (granted_by entry.outcome))

-- the runs that outcomes granted, in their order
abbrev pub runs_granted : List LogRecord → List AskLog → List Run
runs_granted log entries = flat_map (run_granted log) entries

-- the runs that a heap gave up, of those that were given up by any
abbrev pub given_up_by : ℕ → List (ℕ × Run) → List Run
given_up_by heap retired = map (λ given. given.1) (filter (λ given. given.0 == heap) retired)

-- what the segment value has for a heap
abbrev pub standing_of : ℕ → SegsView → Holding
standing_of heap segs = record {
  owned = owned_by heap segs;
  claimed = claimed_by heap segs;
  came = runs_granted segs.log (claimed_by heap segs);
  retired = given_up_by heap segs.retired;
}

-- an outcome keeps no other ask under the number with which its participant is armed
abbrev pub KeepsArmed : SegsView → Type 0
KeepsArmed segs = (entry : AskLog) (ask armed : Ask) → Contains segs.asks entry → entry.ask ≡ Some ask
    → armed_ask segs entry.from ≡ Some armed → armed.number ≡ ask.number → armed ≡ ask

-- the open growth, and each outcome that keeps an ask, are of asks with which participants are armed
pub record IsArmed (segs : SegsView) : Type 0 where
  pub growth : HasArmedGrowth segs
  pub kept : KeepsArmed segs
