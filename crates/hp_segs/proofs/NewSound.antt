-- The value at the beginning is sound.
use Rattle.std.proofs.lemmas.List.Sorted.{IsPermutation-refl}
use Rattle.std.proofs.Common.{◌≡◌, ◌==◌, ◌∙◌, ℕ, zero, suc, ◌≤◌, nat_lt, Bool, true, List, [], Some, None, replicate, refl, sym, subst, arith, sum_by, eq-eqb}
use Rattle.std.specs.List.{slice_get}
use Rattle.std.specs.Int.{bit_at}
use Rattle.std.proofs.lemmas.Bool.{and_from, lt-ltb}
use Rattle.std.proofs.lemmas.List.Elements.{All-nil}
use Rattle.std.proofs.lemmas.List.Sorted.{IsNonDecreasingBy-short}
use Rattle.std.proofs.lemmas.Nat.Bits.{bit_at_lowest}
use Rattle.hp_base.specs.declared.pool_line.PoolLine.{PoolLine}
use Rattle.hp_base.specs.declared.row.Run.{Run}
use Rattle.hp_log.specs.Rows.{IsUsedRun}
use Rattle.hp_segs.specs.Lists.{lists_of}
use Rattle.hp_segs.specs.Opening.{opening, opening_roster}
use Rattle.hp_base.specs.Participants.{IsAbsent}
use Rattle.hp_segs.specs.AsksView.{AsksView}
use Rattle.hp_segs.specs.SegsLayout.{IsKept}
use Rattle.hp_segs.specs.SegsView.{is_opened, is_retiring, rows_in}
use Rattle.hp_segs.specs.Sound.{IsSound}
use Rattle.hp_segs.specs.SoundAsks.{IsGranted}
use Rattle.hp_segs.specs.SoundPlaces.{IsBeside, IsRange}
use Rattle.hp_segs.specs.SoundRows.{IsOfOneHeap, IsStateOf, IsWholeIfAgreed, has_stamp, in_runs}
use Rattle.hp_segs.specs.Table.{IsListRun, IsTable, TableView}
use Rattle.hp_segs.specs.declared.ask.Ask.{Ask}
use Rattle.hp_segs.specs.declared.external_range.ExternalRange.{ExternalRange}
use Rattle.hp_segs.specs.declared.outcome.AskLog.{AskLog}
use Rattle.hp_segs.specs.declared.row_state.Segment.{Segment}

nobody_armed : (n place : ℕ) (ask : Ask) → slice_get (replicate n None) place ≡ Some (Some ask) → ⊥
nobody_armed zero place ask here = cc
nobody_armed (suc n) zero ask here = cc
nobody_armed (suc n) (suc place) ask here = nobody_armed n place ask here

-- the value of pools without a record is sound
pub sound_new : (pools : List PoolLine) (participants absent : ℕ) → IsTable pools [] [] → IsAbsent participants absent
    → IsSound (opening pools participants absent)
sound_new pools participants absent table absence =
    let bit : (bit_at absent 0 == 0) ≡ true = eq-eqb (bit_at absent 0) 0 (bit_at_lowest absent ∙ absence.primary) in
    record {
      rows = record {
        table = table;
        held = record {
          listed = All-nil (IsListRun (lists_of pools));
          used = All-nil (IsUsedRun []);
          apart = λ list slot. omega arith;
        };
        opened = All-nil (λ (segment : Segment). is_opened segment.state ≡ in_runs [] segment.row);
        stamped = All-nil (λ (segment : Segment). is_opened segment.state ≡ has_stamp None segment.row);
        retired = All-nil (λ (segment : Segment). is_retiring segment.state ≡ in_runs [] segment.row);
        rising = IsNonDecreasingBy-short (λ (run : Run). run.addr) [] (omega arith);
        given_up = All-nil (IsOfOneHeap [] []);
        heaps = All-nil (λ (segment : Segment). IsStateOf [] segment.row.generation segment.state);
        whole = All-nil (λ (segment : Segment). IsWholeIfAgreed [] [] segment.row.generation segment.state);
        logged = tt;
      };
      asks = record {
        once = λ from number. omega arith;
        unanswered = tt;
        caused = tt;
        in_time = IsNonDecreasingBy-short (λ (entry : AskLog). entry.at) [] (omega arith);
        noted = tt;
        granted = All-nil (λ (entry : AskLog). IsGranted [] entry.outcome);
        granted_once = λ generation. omega arith;
        ungranted = tt;
        settled = λ place run heap here closed off. cc;
        drops = λ place run here. cc;
      };
      places = record {
        roster_places = refl;
        armed_places = refl;
        primary = and_from (nat_lt 0 participants) (bit_at absent 0 == 0) (lt-ltb 0 participants absence.some) bit;
        own = λ place ask here. absurd (nobody_armed 16 place ask here);
        external = record {
          each = All-nil IsRange;
          segments = omega (arith, table.limits.slots);
          beside = All-nil (IsBeside pools);
          distinct = λ list. omega arith;
          apart = λ byte. omega arith;
        };
      };
      returned = IsPermutation-refl [];
    }

-- the parts of the value at the beginning
pub kept_new : (table : TableView) (asks : AsksView) (pools : List PoolLine) (participants absent : ℕ) (retiring : List Run) (retired : List (ℕ × Run)) (roster : List Bool)
    (ranges : List ExternalRange) (room : ℕ) → table.pools ≡ pools → table.log ≡ [] → table.segments ≡ []
    → IsTable table.pools table.log (rows_in table.segments) → asks.entries ≡ [] → retiring ≡ [] → retired ≡ [] → roster ≡ opening_roster participants absent
    → ranges ≡ [] → IsAbsent participants absent → sum_by (λ line. line.slots) pools ≤ room
    → IsKept table asks retiring retired None roster (replicate 16 None) ranges 0 room
kept_new table asks pools participants absent retiring retired roster ranges room its_pools log segments sound entries none ungiven roster_is nothing absence enough =
    let first : IsTable table.pools [] [] =
    subst (λ g. IsTable table.pools [] (rows_in g)) segments (subst (λ l. IsTable table.pools l (rows_in table.segments)) log sound) in
    let empty : AsksView = record { entries = []; room = asks.room } in
    let bare : TableView = record { pools = table.pools; log = []; segments = []; room = table.room } in
    let kept : IsKept bare empty [] [] None (opening_roster participants absent) (replicate 16 None) [] 0 room =
    record {
      sound = sound_new table.pools participants absent first absence;
      records = omega arith;
      outcomes = omega arith;
      runs = subst (λ p. sum_by (λ (line : PoolLine). line.slots) p ≤ room) (sym its_pools) enough;
    } in
    subst (λ l. IsKept (record { pools = table.pools; log = l; segments = table.segments; room = table.room }) asks retiring retired None roster (replicate 16 None) ranges 0 room) (sym log)
    (subst (λ g. IsKept (record { pools = table.pools; log = []; segments = g; room = table.room }) asks retiring retired None roster (replicate 16 None) ranges 0 room) (sym segments)
    (subst (λ e. IsKept bare (record { entries = e; room = asks.room }) retiring retired None roster (replicate 16 None) ranges 0 room) (sym entries)
    (subst (λ r. IsKept bare empty r retired None roster (replicate 16 None) ranges 0 room) (sym none)
    (subst (λ r. IsKept bare empty [] r None roster (replicate 16 None) ranges 0 room) (sym ungiven)
    (subst (λ members. IsKept bare empty [] [] None members (replicate 16 None) ranges 0 room) (sym roster_is)
    (subst (λ all. IsKept bare empty [] [] None (opening_roster participants absent) (replicate 16 None) all 0 room) (sym nothing) kept))))))
