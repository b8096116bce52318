-- What a workload that was read keeps, so that a run has room for it.
use Rattle.std.specs.Prelude.{◌≡◌, ℕ, ◌<◌, ◌≤◌, ◌^◌, List, length, Option, Some, None, All, AllPairs}
use Rattle.std.specs.List.{AllByRecursion}
use Rattle.hp_base.specs.declared.limits.TheConstants.{MAX_DEADLINE, MAX_LINES, MAX_LISTS, MAX_PARTICIPANTS, MAX_SEGMENTS}
use Rattle.hp_script.specs.Part.{Part}
use Rattle.hp_script.specs.Counts.{segments_of}
use Rattle.hp_script.specs.ShapeWords.Acts.{label_made}
use Rattle.hp_script.specs.Lines.{size_of}
use Rattle.hp_script.specs.declared.line.Act.{Act}
use Rattle.hp_script.specs.declared.line.Act.TheVariants as act
use Rattle.hp_script.specs.declared.line.Line.{Line}
use Rattle.hp_script.specs.declared.workload.Workload.{Workload}

-- the limits on participants, the deadline, lists, segments and lines
pub record IsWithinLimits (workload : Workload) : Type 0 where
  pub some_participants : 1 ≤ workload.participants
  pub few_participants : workload.participants ≤ MAX_PARTICIPANTS
  pub some_time : 1 ≤ workload.deadline
  pub short : workload.deadline ≤ MAX_DEADLINE
  pub few_lists : length workload.pools.items ≤ MAX_LISTS
  pub few_segments : segments_of workload.pools.items ≤ MAX_SEGMENTS
  pub few_lines : length workload.lines.items ≤ MAX_LINES

-- each line is of a participant below the declared number
abbrev pub AreDeclared : ℕ → List Line → Type 0
AreDeclared participants lines = AllByRecursion (λ line. line.participant < participants) lines

-- two lines make no label in common
abbrev pub MakeOtherLabels : Line → Line → Type 0
MakeOtherLabels line other =
    (label second : Part) → label_made line.act ≡ Some label → label_made other.act ≡ Some second → ¬ (label.text ≡ second.text)

-- the name of the memzone that an act reserves
abbrev pub zone_reserved : Act → Option Part
zone_reserved (act.Zone name len options) = Some name
zone_reserved _ = None

-- the label that a line makes is not the name of the memzone that another reserves
abbrev pub MakeOtherNames : Line → Line → Type 0
MakeOtherNames line zone = (label name : Part) → label_made line.act ≡ Some label → zone_reserved zone.act ≡ Some name → ¬ (label.text ≡ name.text)

-- participant lines by rising numbers, from 1; no label is made twice, none is the name of a memzone, and the size of an allocation has
-- 64 bits
pub record AreParticipantLines (lines : List Line) : Type 0 where
  pub numbered : All (λ line. 1 ≤ line.line) lines
  pub rising : AllPairs (λ line other. line.line < other.line) lines
  pub distinct : AllPairs MakeOtherLabels lines
  pub apart : All (λ line. All (MakeOtherNames line) lines) lines
  pub sizes : All (λ line. size_of line < 2 ^ 64) lines
