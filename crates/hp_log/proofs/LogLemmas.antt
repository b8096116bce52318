-- Logs that grow at the end, and the tables that they leave.
use Rattle.std.proofs.Common.{◌≡◌, ℕ, ◌+◌, ◌<◌, List, [], ◌∷◌, ◌++◌, length, take, get_or, ◌∙◌, ap, subst, arith, add-one, length-take}
use Rattle.std.proofs.Math.Seq.{take-suc}
use Rattle.hp_base.specs.declared.row.Row.{Row}
use Rattle.hp_log.specs.Log.{table_after, table_from, table_of, MayFollow, AllMayFollow, IsWellFormed}
use Rattle.hp_log.specs.declared.log_record.LogRecord.{LogRecord}

-- the table of records, then one more
pub table_from_push : (n : ℕ) (table : List Row) (log : List LogRecord) (entry : LogRecord)
    → table_from n table (log ++ entry ∷ []) ≡ table_after (table_from n table log) (n + length log + 1) entry
table_from_push n table [] entry =
    let same : n + 1 ≡ n + 0 + 1 = omega arith in
    ap (λ k. table_after table k entry) same
table_from_push n table (first ∷ log) entry =
    let same : n + 1 + length log + 1 ≡ n + length (first ∷ log) + 1 = omega arith in
    let rest = table_from_push (n + 1) (table_after table (n + 1) first) log entry in
    rest ∙ ap (λ k. table_after (table_from (n + 1) (table_after table (n + 1) first) log) k entry) same

pub table_of_push : (log : List LogRecord) (entry : LogRecord)
    → table_of (log ++ entry ∷ []) ≡ table_after (table_of log) (length log + 1) entry
table_of_push log entry =
    let same : 0 + length log + 1 ≡ length log + 1 = omega arith in
    table_from_push 0 [] log entry ∙ ap (λ k. table_after (table_of log) k entry) same

-- a log stays well formed where the record may follow
pub all_follow_push : (n : ℕ) (table : List Row) (log : List LogRecord) (entry : LogRecord) → AllMayFollow n table log
    → MayFollow (table_from n table log) entry → AllMayFollow n table (log ++ entry ∷ [])
all_follow_push n table [] entry formed may = (may, tt)
all_follow_push n table (first ∷ log) entry formed may =
    (formed.0, all_follow_push (n + 1) (table_after table (n + 1) first) log entry formed.1 may)

pub well_formed_push : (log : List LogRecord) (entry : LogRecord) → IsWellFormed log → MayFollow (table_of log) entry
    → IsWellFormed (log ++ entry ∷ [])
well_formed_push log entry formed may = all_follow_push 0 [] log entry formed may

-- the table of one record more
pub table_of_more : (log : List LogRecord) (i : ℕ) (d : LogRecord) → i < length log
    → table_of (take (i + 1) log) ≡ table_after (table_of (take i log)) (i + 1) (get_or log i d)
table_of_more log i d within =
    let more : take (i + 1) log ≡ take i log ++ get_or log i d ∷ [] =
    ap (λ n. take n log) (add-one i) ∙ take-suc log i d within in
    let long : length (take i log) + 1 ≡ i + 1 = omega (arith, length-take i log) in
    ap table_of more ∙ (table_of_push (take i log) (get_or log i d) ∙ ap (λ n. table_after (table_of (take i log)) n (get_or log i d)) long)

-- a well-formed log is so up to any of its records, and goes on so after them
pub all_follow_front : (n : ℕ) (table : List Row) (first later : List LogRecord) → AllMayFollow n table (first ++ later)
    → AllMayFollow n table first
all_follow_front n table [] later formed = tt
all_follow_front n table (entry ∷ first) later formed =
    (formed.0, all_follow_front (n + 1) (table_after table (n + 1) entry) first later formed.1)

pub all_follow_back : (n : ℕ) (table : List Row) (first later : List LogRecord) → AllMayFollow n table (first ++ later)
    → AllMayFollow (n + length first) (table_from n table first) later
all_follow_back n table [] later formed =
    let same : n ≡ n + 0 = omega arith in
    subst (λ k. AllMayFollow k table later) same formed
all_follow_back n table (entry ∷ first) later formed =
    let same : n + 1 + length first ≡ n + length (entry ∷ first) = omega arith in
    subst (λ k. AllMayFollow k (table_from (n + 1) (table_after table (n + 1) entry) first) later) same
    (all_follow_back (n + 1) (table_after table (n + 1) entry) first later formed.1)
