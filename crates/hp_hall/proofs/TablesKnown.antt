-- The table of a participant has each row that the log's table has of a record which the participant has taken in.
use Rattle.std.proofs.Common.{◌≡◌, ℕ, zero, suc, ◌+◌, ◌≤◌, Bool, false, not, List, [], ◌∷◌, ◌++◌, filter, take, drop, inl, inr, refl, arith}
use Rattle.std.specs.Prelude.{Contains}
use Rattle.std.specs.List.{list_any}
use Rattle.std.proofs.lemmas.Bool.{not-true, not_from_false, or_from}
use Rattle.std.proofs.lemmas.List.Elements.{All-contains, Contains-append_cases}
use Rattle.hp_base.specs.declared.row.Row.{Row}
use Rattle.hp_log.specs.Log.{table_after, table_at, table_from, table_of}
use Rattle.hp_log.specs.Rows.{in_run, rows_of}
use Rattle.hp_log.specs.declared.log_record.LogRecord.{LogRecord}
use Rattle.hp_log.specs.declared.log_record.LogRecord.TheVariants.{Add, Drop}
use Rattle.hp_log.proofs.RowLemmas.{all_rows_below}
use Rattle.hp_segs.proofs.SlotFacts.ListFacts.{or_off_parts}
use Rattle.hp_hall.specs.Own.{Own, drops_row, rows_known}
use Rattle.hp_hall.proofs.StandingFacts.StandingAsks.{contains_kept}
use Rattle.hp_hall.proofs.StandingFacts.StandingLists.{contains_passes, contains_unkept}

-- a record drops the row
abbrev is_gone : List LogRecord → Row → Bool
is_gone records row = list_any (drops_row row) records

-- a row of an earlier record was there before others, and none of them drops it
row_before : (n : ℕ) (table : List Row) (records : List LogRecord) (row : Row) → row.generation ≤ n
    → Contains (table_from n table records) row → Contains table row × (is_gone records row ≡ false)
row_before n table [] row early among = (among, refl)
row_before n table (Add run heap ∷ records) row early among =
    let rest = row_before (n + 1) (table ++ rows_of run (n + 1)) records row (omega (arith, early)) among in
    let here : Contains table row = elim (Contains-append_cases table (rows_of run (n + 1)) row rest.0) [
      | inl before ↦ before
      | inr added ↦
          let late : row.generation ≡ n + 1 =
          All-contains (λ row. row.generation ≡ n + 1) (rows_of run (n + 1)) row
          (all_rows_below (λ row. row.generation ≡ n + 1) run (n + 1) run.count (λ k below. refl)) added in
          absurd (omega (arith, early, late))
    ] in
    (here, rest.1)
row_before n table (Drop run ∷ records) row early among =
    let kept : Row → Bool = λ row. not (in_run run row) in
    let rest = row_before (n + 1) (filter kept table) records row (omega (arith, early)) among in (
      contains_unkept kept table row rest.0,
      or_from (in_run run row) (is_gone records row) (not-true (in_run run row) (contains_passes kept table row rest.0)) rest.1,
    )

-- so it was there after as many records as its generation says, and no later one drops it
row_at_number : (k n : ℕ) (table : List Row) (records : List LogRecord) (row : Row) → row.generation ≤ n + k
    → Contains (table_from n table records) row
    → Contains (table_from n table (take k records)) row × (is_gone (drop k records) row ≡ false)
row_at_number zero n table records row early among = row_before n table records row (omega (arith, early)) among
row_at_number (suc k) n table [] row early among = (among, refl)
row_at_number (suc k) n table (entry ∷ records) row early among =
    row_at_number k (n + 1) (table_after table (n + 1) entry) records row (omega (arith, early)) among

-- what no record drops, no first one of them does
gone_first : (k : ℕ) (records : List LogRecord) (row : Row) → is_gone records row ≡ false → is_gone (take k records) row ≡ false
gone_first zero records row off = refl
gone_first (suc k) [] row off = refl
gone_first (suc k) (entry ∷ records) row off =
    let parts = or_off_parts (drops_row row entry) (is_gone records row) off in
    or_from (drops_row row entry) (is_gone (take k records) row) parts.0 (gone_first k records row parts.1)

gone_between : (n reached : ℕ) (records : List LogRecord) (row : Row) → is_gone (drop n records) row ≡ false → is_gone (drop n (take reached records)) row ≡ false
gone_between zero reached records row off = gone_first reached records row off
gone_between (suc n) zero records row off = refl
gone_between (suc n) (suc reached) [] row off = refl
gone_between (suc n) (suc reached) (entry ∷ records) row off = gone_between n reached records row off

-- a participant's table has each row that the log's has of a record which it has taken in
pub row_known : (log : List LogRecord) (own : Own) (row : Row) → row.generation ≤ own.number → Contains (table_of log) row → Contains (rows_known log own) row
row_known log own row early among =
    let at = row_at_number own.number 0 [] log row (omega (arith, early)) among in
    let left : is_gone (drop own.number (take own.unmapped log)) row ≡ false = gone_between own.number own.unmapped log row at.1 in
    contains_kept (λ row. not (is_gone (drop own.number (take own.unmapped log)) row)) (table_at log own.number) row at.0
    (not_from_false (is_gone (drop own.number (take own.unmapped log)) row) left)
