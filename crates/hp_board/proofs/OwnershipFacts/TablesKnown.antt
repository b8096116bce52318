-- The table of a participant: it is the same by what the participant has seen of the log and by the log, and is the one from before a growth
-- where that failed.
use Rattle.std.proofs.Common.{◌≡◌, ◌∙◌, ℕ, zero, suc, ◌+◌, ◌-◌, ◌≤◌, not, List, [], ◌∷◌, ◌++◌, length, filter, take, drop, refl, sym, ap, subst, arith}
use Rattle.std.specs.Prelude.{Contains, Some, slice_get}
use Rattle.std.specs.List.{list_any}
use Rattle.std.proofs.Math.Seq.{take-suc}
use Rattle.std.proofs.lemmas.List.{take-append-le}
use Rattle.std.proofs.lemmas.Option.{get_or_from_slice_get, slice_get_within}
use Rattle.hp_base.specs.declared.row.Row.{Row}
use Rattle.hp_base.specs.declared.row.Run.{Run}
use Rattle.hp_log.specs.Log.{AllMayFollow, MayFollow, table_after, table_at, table_from, table_of}
use Rattle.hp_log.specs.declared.log_record.LogRecord.{LogRecord}
use Rattle.hp_log.specs.declared.log_record.LogRecord.TheVariants.{Add, Drop}
use Rattle.hp_segs.proofs.MachineLemmas.{failed_growth_leaves}
use Rattle.hp_hall.specs.Own.{Own, drops_row, rows_known}
use Rattle.hp_hall.proofs.StandingFacts.StandingLists.{contains_unkept}
use Rattle.hp_hall.proofs.TablesKnown.{row_known}
use Rattle.hp_board.specs.Views.{BeginsWith}

-- a row that the table of a log has was there after as many records as its generation says
pub row_early : (log : List LogRecord) (number : ℕ) (row : Row) → row.generation ≤ number → Contains (table_of log) row → Contains (table_at log number) row
row_early log number row early among =
    contains_unkept (λ row. not (list_any (drops_row row) (drop number (take number log)))) (table_at log number) row
    (row_known log (record { number = number; unmapped = number }) row early among)

-- a table is the same by what was seen of the log and by the log
pub known_front : (log seen : List LogRecord) (own : Own) → BeginsWith log seen → own.number ≤ own.unmapped → own.unmapped ≤ length seen → rows_known seen own ≡ rows_known log own
known_front log seen own front ahead within =
    let takes : (n : ℕ) → n ≤ length seen → take n seen ≡ take n log = λ n low. sym (ap (take n) front.1 ∙ take-append-le n seen front.0 low) in
    ap (λ (l : List LogRecord). filter (λ row. not (list_any (drops_row row) (drop own.number l))) (table_at seen own.number)) (takes own.unmapped within)
    ∙ ap (λ (l : List LogRecord). filter (λ row. not (list_any (drops_row row) (drop own.number (take own.unmapped log)))) (table_of l))
    (takes own.number (omega (arith, ahead, within)))

-- in a well-formed log each record may follow on those before it
follows_at : (n : ℕ) (table : List Row) (log : List LogRecord) (place : ℕ) (entry : LogRecord) → AllMayFollow n table log
    → slice_get log place ≡ Some entry → MayFollow (table_from n table (take place log)) entry
follows_at n table [] place entry formed there = cc
follows_at n table (first ∷ log) zero entry formed there =
    let same : first ≡ entry = cc in
    subst (MayFollow table) same formed.0
follows_at n table (first ∷ log) (suc place) entry formed there =
    follows_at (n + 1) (table_after table (n + 1) first) log place entry formed.1 there

-- and each front of it is well formed
pub formed_front : (n : ℕ) (table : List Row) (front rest : List LogRecord) → AllMayFollow n table (front ++ rest) → AllMayFollow n table front
formed_front n table [] rest formed = tt
formed_front n table (entry ∷ front) rest formed = (formed.0, formed_front (n + 1) (table_after table (n + 1) entry) front rest formed.1)

-- the first records with one more, and with two
one_more : (log : List LogRecord) (place : ℕ) (entry : LogRecord) → slice_get log place ≡ Some entry → take (suc place) log ≡ take place log ++ entry ∷ []
one_more log place entry there =
    take-suc log place entry (slice_get_within log place entry there)
    ∙ ap (λ (entry : LogRecord). take place log ++ entry ∷ []) (get_or_from_slice_get log place entry entry there)

two_more : (log : List LogRecord) (place : ℕ) (first second : LogRecord) → slice_get log place ≡ Some first
    → slice_get log (suc place) ≡ Some second → take (suc (suc place)) log ≡ take place log ++ first ∷ [] ++ second ∷ []
two_more log place first second here there =
    one_more log (suc place) second there ∙ ap (λ (records : List LogRecord). records ++ second ∷ []) (one_more log place first here)

-- the table after an Add whose Drop comes next
table_restored : (log : List LogRecord) (place heap : ℕ) (run : Run) → AllMayFollow 0 [] log → slice_get log place ≡ Some (Add run heap)
    → slice_get log (suc place) ≡ Some (Drop run) → table_at log (suc (suc place)) ≡ table_at log place
table_restored log place heap run formed added dropped =
    ap table_of (two_more log place (Add run heap) (Drop run) added dropped)
    ∙ failed_growth_leaves (take place log) run heap (follows_at 0 [] log place (Add run heap) formed added)

-- at the Drop of a growth that failed the table is the one from before that
pub restored_at : (log : List LogRecord) (number heap : ℕ) (run : Run) → AllMayFollow 0 [] log → 2 ≤ number → slice_get log (number - 2) ≡ Some (Add run heap)
    → slice_get log (number - 1) ≡ Some (Drop run) → table_at log number ≡ table_at log (number - 2)
restored_at log number heap run formed two added dropped =
    let second : number - 1 ≡ suc (number - 2) = omega (arith, two) in
    let third : number ≡ suc (suc (number - 2)) = omega (arith, two) in
    ap (table_at log) third ∙ table_restored log (number - 2) heap run formed added (subst (λ (place : ℕ). slice_get log place ≡ Some (Drop run)) second dropped)

-- records up to a number that drop nothing after it leave the table at that number
nothing_between : (n : ℕ) (records : List LogRecord) → drop n (take n records) ≡ []
nothing_between zero records = refl
nothing_between (suc n) [] = refl
nothing_between (suc n) (entry ∷ records) = nothing_between n records

all_pass : (rows : List Row) → filter (λ row. not (list_any (drops_row row) [])) rows ≡ rows
all_pass [] = refl
all_pass (row ∷ rows) = ap (λ (l : List Row). row ∷ l) (all_pass rows)

-- a table that was just acknowledged is that of the acknowledged records
pub known_at : (log : List LogRecord) (number : ℕ) → rows_known log (record { number = number; unmapped = number }) ≡ table_at log number
known_at log number =
    ap (λ (l : List LogRecord). filter (λ row. not (list_any (drops_row row) l)) (table_at log number)) (nothing_between number log) ∙ all_pass (table_at log number)
