-- Which external memory is claimed, with which segment lists, by the changes of the directory of heaps: the rule "External heaps" of
-- docs/HEAP.md.
use Rattle.std.specs.Prelude.{ℕ, not, ◌==◌, List, [], ◌∷◌, ◌++◌, filter, length, unwrap_or, Result}
use Rattle.hp_base.specs.declared.pool_line.PoolLine.{PoolLine}
use Rattle.hp_segs.specs.Opening as segments
use Rattle.hp_segs.specs.Ranges.{free_number, range_plan}
use Rattle.hp_segs.specs.declared.external_range.ExternalRange.{ExternalRange}
use Rattle.hp_segs.specs.declared.fault.RangeFault.{RangeFault}
use Rattle.hp_zone.specs.Directory.{PlainDirectory, after_change, opening}
use Rattle.hp_zone.specs.declared.name_change.NameChange.{NameChange}
use Rattle.hp_zone.specs.declared.name_change.NameChange.TheVariants.{Range, RangeGone}
use Rattle.hp_proc.specs.Heaps.{sockets_of}
use Rattle.hp_proc.specs.SharedNames.{SharedNames, socket_at}

-- the external memory that is claimed after a change of a directory, where the pools have so many lists: memory that comes to a heap has the
-- lowest list number that is free and the heap's socket number, and memory that goes gives its number back
abbrev pub claims_after : ℕ → PlainDirectory → List ExternalRange → NameChange → List ExternalRange
claims_after pools plain claims (Range index addr len page) =
    claims ++ record {
      list = unwrap_or (free_number pools claims) 0;
      addr = addr;
      len = len;
      page = page;
      socket = socket_at plain index;
    } ∷ []
claims_after pools plain claims (RangeGone index addr) = filter (λ claim. not (claim.addr == addr)) claims
claims_after pools plain claims _ = claims

-- the external memory that is claimed after changes, one by one
abbrev pub claimed_after : ℕ → PlainDirectory → List ExternalRange → List NameChange → List ExternalRange
claimed_after pools plain claims [] = claims
claimed_after pools plain claims (change ∷ changes) =
    claimed_after pools (after_change plain change) (claims_after pools plain claims change) changes

-- the external memory that is claimed under these names
unfoldable pub claims_in : List PoolLine → SharedNames → List ExternalRange
claims_in pools names = claimed_after (length pools) (opening (sockets_of pools)) [] names.heaps

-- the list that memory would get under these names, or why it gets none, in the order in which that is judged: pages in use do not matter,
-- since a slot stands in the way whether it is mapped or not
unfoldable pub plan_in : List PoolLine → SharedNames → ℕ → ℕ → ℕ → Result ℕ RangeFault
plan_in pools names addr len page = range_plan addr len page (record (segments.opening pools 1 0) { ranges = claims_in pools names })
