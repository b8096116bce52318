-- Laws of numbers, classes, rounding, places and external memory, which docs/HEAP.md states under these headings, and of plans.
use Rattle.std.specs.Prelude.{◌≡◌, ◌↔◌, ℕ, ◌%◌, ◌^◌, ◌≤◌, Bool, true, false, List, Contains, Some, MatchOption}
use Rattle.hp_base.specs.Class.{IsClassOf, class_number}
use Rattle.hp_base.specs.Round.{floor_of, ceil_of}
use Rattle.hp_base.specs.Place.{IsPlace, HasNoPlace, place_of}
use Rattle.hp_base.specs.Flags.{page_flags}
use Rattle.hp_base.specs.ExternalMemory.{IsExternalMemory, is_bad_range}
use Rattle.hp_base.specs.Pages.{page_sizes}
use Rattle.hp_base.specs.Mapping.{may_fail_at}
use Rattle.hp_base.specs.Plans.{failure_of, map_action_of, planned_calls, plans_mapping}
use Rattle.hp_base.specs.declared.flags.TheConstants.{HINT, HINT_BIT, PAGE_FLAGS}
use Rattle.hp_base.specs.declared.limits.TheConstants.{MAX_PARTICIPANTS, MAX_HEAPS, MAX_SOCKETS, MAX_LISTS, MAX_LIST_SEGMENTS, MAX_SEGMENTS, MAX_LINES, MAX_WORKLOAD_BYTES, MAX_COUNT, MAX_DEADLINE, MAX_READING}
use Rattle.hp_base.specs.declared.page_size.TheConstants.{GREATEST_PAGE, PAGE_SIZES}
use Rattle.hp_base.specs.declared.plan.MapAction.TheVariants.{Ask}
use Rattle.hp_base.specs.declared.plan_entry.PlanEntry.{PlanEntry}
use Rattle.hp_base.specs.declared.plan_entry.PlanEntry.TheVariants.{Mapping}
use Rattle.hp_base.specs.declared.request.Request.{Request}
use Rattle.hp_base.specs.declared.round.TheConstants.{HEADER, LINE}

-- the constants of the code are the numbers of the rules ("Requests", "Pages asked", "Search")
pub record HasNumbers : Type 0 where
  pub line : LINE ≡ 64
  pub header : HEADER ≡ 128
  pub sizes : PAGE_SIZES ≡ page_sizes
  pub greatest : GREATEST_PAGE ≡ 2 ^ 34
  pub flags : PAGE_FLAGS ≡ page_flags
  pub hint : HINT_BIT ≡ 2
  pub hint_counts : HINT ≡ 2 ^ HINT_BIT

-- the limits of the code are those of the rules ("Limits" of docs/OUTSIDE.md)
pub record HasLimits : Type 0 where
  pub participants : MAX_PARTICIPANTS ≡ 16
  pub heaps : MAX_HEAPS ≡ 32
  pub sockets : MAX_SOCKETS ≡ 32
  pub lists : MAX_LISTS ≡ 128
  pub list_segments : MAX_LIST_SEGMENTS ≡ 8192
  pub segments : MAX_SEGMENTS ≡ 16384
  pub lines : MAX_LINES ≡ 20000
  pub bytes : MAX_WORKLOAD_BYTES ≡ 2 ^ 20
  pub count : MAX_COUNT ≡ 1000000
  pub deadline : MAX_DEADLINE ≡ 3600000
  pub reading : MAX_READING ≡ 2 ^ 63

-- the computed class of a size is its class, and its only one ("Size classes")
abbrev pub ComputesClass : Type 0
ComputesClass = (size class : ℕ) → IsClassOf size class ↔ (class ≡ class_number size)

-- of two sizes the greater has no lower class ("Size classes")
abbrev pub ClassesRise : Type 0
ClassesRise = (size more : ℕ) → size ≤ more → class_number size ≤ class_number more

-- the greatest multiple of a unit that is at most n ("Rounding")
pub record IsFloor (n unit floor : ℕ) : Type 0 where
  pub multiple : floor % unit ≡ 0
  pub below : floor ≤ n
  pub greatest : (other : ℕ) → other % unit ≡ 0 → other ≤ n → other ≤ floor

-- the least multiple of a unit that is at least n ("Rounding")
pub record IsCeiling (n unit ceiling : ℕ) : Type 0 where
  pub multiple : ceiling % unit ≡ 0
  pub above : n ≤ ceiling
  pub least : (other : ℕ) → other % unit ≡ 0 → n ≤ other → ceiling ≤ other

-- rounding is to the nearest multiple on its side, and rounding twice is rounding once ("Rounding")
pub record Rounds (n unit : ℕ) : Type 0 where
  pub down : IsFloor n unit (floor_of n unit)
  pub up : IsCeiling n unit (ceil_of n unit)
  pub down_twice : floor_of (floor_of n unit) unit ≡ floor_of n unit
  pub up_twice : ceil_of (ceil_of n unit) unit ≡ ceil_of n unit

-- the computed place of an accepted request is its place, and there is none where none is computed ("Place")
abbrev pub ComputesPlace : Type 0
ComputesPlace = (start end : ℕ) (request : Request)
    → MatchOption (place_of start end request) (HasNoPlace start end request) (IsPlace start end request)

-- memory is judged good exactly where it may be external memory ("External memory")
abbrev pub JudgesMemory : Type 0
JudgesMemory = (addr len page : ℕ) → (is_bad_range addr len page ≡ false) ↔ IsExternalMemory addr len page

-- a mapping call of a participant is named exactly where the plan has an entry for it, and is then among the planned calls of the
-- participant, which fail as their entries say; where none names it the mapper is asked ("Plans" of docs/OUTSIDE.md)
pub record PlansMapping (plan : List PlanEntry) (party call : ℕ) : Type 0 where
  pub named : (plans_mapping plan party call ≡ true) ↔ ((elsewhere : Bool) × (line : ℕ) × Contains plan (Mapping party call elsewhere line))
  pub listed : may_fail_at (Some (planned_calls plan party)) call ≡ plans_mapping plan party call
  pub so : (elsewhere : Bool) → Contains (planned_calls plan party) (record { call = call; how = failure_of elsewhere })
      ↔ ((line : ℕ) × Contains plan (Mapping party call elsewhere line))
  pub asked : plans_mapping plan party call ≡ false → map_action_of plan party call ≡ Ask
