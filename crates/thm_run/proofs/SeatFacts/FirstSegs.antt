-- The segment value before the first line: it is sound, nobody is armed, and in the roster are the declared participants that are present.
use Rattle.std.proofs.Common.{◌≡◌, ◌∙◌, ◌==◌, ◌&&◌, ℕ, ◌<◌, ◌≤◌, ⊎_elim, nat_lt, Bool, false, List, [], length, refl, ap, arith, eq-eqb}
use Rattle.std.specs.Int.{bit_at}
use Rattle.std.proofs.lemmas.Bool.{and_from, cases_lt, le-ltb, lt-ltb}
use Rattle.std.proofs.lemmas.List.{get_or_past}
use Rattle.std.proofs.lemmas.List.Elements.{All-nil}
use Rattle.std.proofs.lemmas.List.FromFn.{get_or-map-range_with_len}
use Rattle.hp_base.specs.Participants.{IsAbsent}
use Rattle.hp_base.specs.PoolLines.{ArePoolLines}
use Rattle.hp_base.specs.declared.pool_line.PoolLine.{PoolLine}
use Rattle.hp_segs.specs.Standing.{IsArmed}
use Rattle.hp_log.specs.declared.log_record.LogRecord.{LogRecord}
use Rattle.hp_log.specs.Log.{run_in}
use Rattle.hp_segs.specs.Lists.{lists_of}
use Rattle.hp_segs.specs.Opening.{is_present, opening, opening_roster}
use Rattle.hp_segs.specs.SegsView.{is_member}
use Rattle.hp_segs.specs.Sound.{IsSound}
use Rattle.hp_segs.specs.Table.{IsListRun, IsPlaced, IsStamped, IsTable}
use Rattle.hp_segs.proofs.NewSound.{sound_new}
use Rattle.hp_proc.proofs.Unarmed.{armed_new}

-- pools have a table without rows
pub table_first : (pools : List PoolLine) → ArePoolLines pools → IsTable pools [] []
table_first pools are = record {
  limits = are;
  formed = tt;
  listed = All-nil (λ (entry : LogRecord). IsListRun (lists_of pools) (run_in entry));
  table = refl;
  once = λ list slot. omega arith;
  placed = All-nil (IsPlaced (lists_of pools));
  stamped = All-nil (IsStamped []);
  paged = λ place line within. omega arith;
}

absent_none : IsAbsent 1 0
absent_none = record { some = omega arith; few = omega arith; primary = refl; declared = omega arith }

-- it is sound where participant 0 is declared and present
pub sound_first : (pools : List PoolLine) (count absent : ℕ) → ArePoolLines pools → 0 < count → bit_at absent 0 ≡ 0
    → IsSound (opening pools count absent)
sound_first pools count absent are some present =
    let alone : IsSound (opening pools 1 0) = sound_new pools 1 0 (table_first pools are) absent_none in
    record {
      rows = alone.rows;
      asks = alone.asks;
      places = record {
        roster_places = refl;
        armed_places = refl;
        primary = and_from (nat_lt 0 count) (bit_at absent 0 == 0) (lt-ltb 0 count some) (eq-eqb (bit_at absent 0) 0 present);
        own = alone.places.own;
        external = alone.places.external;
      };
      returned = alone.returned;
    }

pub armed_first : (pools : List PoolLine) (count absent : ℕ) → IsArmed (opening pools count absent)
armed_first pools count absent = armed_new (opening pools count absent) refl refl

-- in the roster are those that are present
pub member_first : (count absent who : ℕ) → who < 16 → is_member (opening_roster count absent) who ≡ is_present count absent who
member_first count absent who few =
    get_or-map-range_with_len (is_present count absent) 0 16 who who false few (omega arith)

-- of a declared participant the workload alone says whether it is
pub present_declared : (count absent who : ℕ) → who < count → is_present count absent who ≡ (bit_at absent who == 0)
present_declared count absent who below =
    ap (λ (declared : Bool). declared && (bit_at absent who == 0)) (lt-ltb who count below)

-- and nobody else is in it
pub nobody_first : (count absent who : ℕ) → count ≤ who → is_member (opening_roster count absent) who ≡ false
nobody_first count absent who beyond =
    ⊎_elim
    (λ (few : who < 16).
    member_first count absent who few
    ∙ ap (λ (declared : Bool). declared && (bit_at absent who == 0)) (le-ltb who count beyond))
    (λ (many : 16 ≤ who). get_or_past (opening_roster count absent) who false (omega (arith, many, sixteen)))
    (cases_lt who 16)
  where
    sixteen : length (opening_roster count absent) ≡ 16
    sixteen = refl
