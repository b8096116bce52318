-- External memory is planned by the names as the segment value plans it, and claimed as that claims it.
use Rattle.std.proofs.Common.{◌≡◌, ℕ, Bool, true, false, ◌<◌, List, [], length, Option, Some, None, Result, Ok, Err, refl, ap, subst, arith}
use Rattle.std.specs.Prelude.{◌∷◌, ◌++◌, if◌then◌else◌, unwrap_or}
use Rattle.std.proofs.lemmas.List.Elements.{All-nil}
use Rattle.hp_base.proofs.MemoryLemmas.{good_memory}
use Rattle.hp_base.specs.ExternalMemory.{is_bad_range}
use Rattle.hp_base.specs.declared.row.Row.{Row}
use Rattle.hp_log.specs.Log.{run_in}
use Rattle.hp_log.specs.declared.log_record.LogRecord.{LogRecord}
use Rattle.hp_segs.proofs.NewSound.{sound_new}
use Rattle.hp_segs.proofs.SlotFacts.PlaceLemmas.{overlap_is_lowest}
use Rattle.hp_segs.proofs.SlotFacts.RangeLemmas.{planned_range}
use Rattle.hp_segs.specs.Lists.{lists_of}
use Rattle.hp_segs.specs.Opening.{opening}
use Rattle.hp_segs.specs.PlaceLaws.{IsLowestOverlap}
use Rattle.hp_segs.specs.Ranges.{free_number, overlap_of, range_apart, range_list, range_plan}
use Rattle.hp_segs.specs.SegsView.{SegsView}
use Rattle.hp_segs.specs.Sound.{IsSound}
use Rattle.hp_segs.specs.Table.{IsListRun, IsPlaced, IsStamped, IsTable}
use Rattle.hp_segs.specs.declared.external_range.ExternalRange.{ExternalRange}
use Rattle.hp_segs.specs.declared.fault.RangeFault.{RangeFault}
use Rattle.hp_segs.specs.declared.fault.RangeFault.TheVariants as range
use Rattle.hp_proc.specs.ClaimedMemory.{plan_in}
use Rattle.hp_proc.specs.SharedNames.{socket_at}
use Rattle.hp_proc.specs.VerbLaws.{ClaimsAgree, IsSamePlan, PlansAgree}

-- a segment value with the pools and the external memory of another one, from which nothing was taken
abbrev untaken : SegsView → SegsView
untaken segs = record (opening segs.pools 1 0) { ranges = segs.ranges }

no_rows : (segs : SegsView) → IsSound segs → IsTable segs.pools [] []
no_rows segs sound = record {
  limits = sound.rows.table.limits;
  formed = tt;
  listed = All-nil (λ (entry : LogRecord). IsListRun (lists_of segs.pools) (run_in entry));
  table = refl;
  once = λ list slot. omega arith;
  placed = All-nil (IsPlaced (lists_of segs.pools));
  stamped = All-nil (IsStamped []);
  paged = λ place line within. omega arith;
}

untaken_sound : (segs : SegsView) → IsSound segs → IsSound (untaken segs)
untaken_sound segs sound =
    let new = sound_new segs.pools 1 0 (no_rows segs sound) (record { some = omega arith; few = omega arith; primary = refl; declared = omega arith }) in
    record {
      rows = new.rows;
      asks = new.asks;
      places = record {
        roster_places = new.places.roster_places;
        armed_places = new.places.armed_places;
        primary = new.places.primary;
        own = new.places.own;
        external = sound.places.external;
      };
      returned = new.returned;
    }

same_plan : (plan : Result ℕ RangeFault) → IsSamePlan plan plan
same_plan (Ok list) = refl
same_plan (Err range.BadRange) = refl
same_plan (Err (range.Overlaps row)) = refl
same_plan (Err range.NoSpace) = refl
same_plan (Err range.OutOfMemory) = refl

-- the lowest slot in the way is at one address, whatever is mapped
module _ (segs : SegsView) (addr len page : ℕ) where
  after_overlap : (one other : Option Row) → IsLowestOverlap segs addr len one → IsLowestOverlap (untaken segs) addr len other
      → IsSamePlan (range_apart segs len page one) (range_apart (untaken segs) len page other)
  after_overlap None None lowest also = same_plan (range_list segs len page (free_number (length segs.pools) segs.ranges))
  after_overlap None (Some row) lowest also =
      absurd (lowest also.0.place also.0.list also.0.slot also.0.info also.0.its_list also.0.shares)
  after_overlap (Some row) None lowest also =
      absurd (also lowest.0.place lowest.0.list lowest.0.slot lowest.0.info lowest.0.its_list lowest.0.shares)
  after_overlap (Some row) (Some other) lowest also =
      let below = lowest.1 also.0.place also.0.list also.0.slot also.0.info also.0.its_list also.0.shares in
      let above = also.1 lowest.0.place lowest.0.list lowest.0.slot lowest.0.info lowest.0.its_list lowest.0.shares in
      omega (arith, below, above, lowest.0.its_addr, also.0.its_addr)

  by_judging : (bad : Bool) → is_bad_range addr len page ≡ bad → IsSound segs
      → IsSamePlan (if bad then Err range.BadRange else range_apart segs len page (overlap_of segs addr len))
      (if bad then Err range.BadRange else range_apart (untaken segs) len page (overlap_of (untaken segs) addr len))
  by_judging true is sound = refl
  by_judging false is sound =
      let some : 0 < len = (good_memory addr len page is).some in
      after_overlap (overlap_of segs addr len) (overlap_of (untaken segs) addr len) (overlap_is_lowest segs addr len sound some)
      (overlap_is_lowest (untaken segs) addr len (untaken_sound segs sound) some)

pub plans_agree : PlansAgree
unfolding plan_in
plans_agree segs names addr len page sound claimed =
    subst (λ (claims : List ExternalRange). IsSamePlan (range_plan addr len page segs)
    (range_plan addr len page (record (opening segs.pools 1 0) { ranges = claims })))
    claimed (by_judging segs addr len page (is_bad_range addr len page) refl sound)

-- external memory that is claimed besides, with that list number
abbrev claimed_with : List ExternalRange → ℕ → ℕ → ℕ → ℕ → Option ℕ → List ExternalRange
claimed_with claims addr len page socket number =
    claims ++ record { list = unwrap_or number 0; addr = addr; len = len; page = page; socket = socket } ∷ []

-- the list that is planned is the lowest that is free
pub claims_agree : ClaimsAgree
claims_agree segs plain index addr len page list planned =
    ap (claimed_with segs.ranges addr len page (socket_at plain index)) (planned_range segs addr len page list planned).free
