-- The two records of a growth that failed leave the table from before it.
use Rattle.std.proofs.Common.{◌≡◌, ◌∙◌, ℕ, zero, suc, ◌+◌, ◌-◌, List, [], ◌∷◌, ◌++◌, Some, take, ap, subst, arith}
use Rattle.std.specs.Prelude.{slice_get}
use Rattle.std.proofs.Math.Seq.{take-suc}
use Rattle.std.proofs.lemmas.Option.{get_or_from_slice_get, slice_get_within}
use Rattle.hp_base.specs.declared.row.Row.{Row}
use Rattle.hp_base.specs.declared.row.Run.{Run}
use Rattle.hp_log.specs.Log.{AllMayFollow, MayFollow, table_after, table_at, table_from, table_of}
use Rattle.hp_log.specs.declared.log_record.LogRecord.{LogRecord}
use Rattle.hp_log.specs.declared.log_record.LogRecord.TheVariants.{Add, Drop}
use Rattle.hp_maps.specs.Catching.{newer, undropped}
use Rattle.hp_segs.proofs.MachineLemmas.{failed_growth_leaves}
use Rattle.thm_alike.specs.Restored.{AnsweringRestore, SoundLogsRestore}

-- in a well-formed log each record may follow on those before it
follows_at : (n : ℕ) (table : List Row) (log : List LogRecord) (place : ℕ) (entry : LogRecord) → AllMayFollow n table log
    → slice_get log place ≡ Some entry → MayFollow (table_from n table (take place log)) entry
follows_at n table [] place entry formed there = cc
follows_at n table (first ∷ log) zero entry formed there =
    let same : first ≡ entry = cc in
    subst (MayFollow table) same formed.0
follows_at n table (first ∷ log) (suc place) entry formed there =
    follows_at (n + 1) (table_after table (n + 1) first) log place entry formed.1 there

-- the first records with one more
one_more : (log : List LogRecord) (place : ℕ) (entry : LogRecord) → slice_get log place ≡ Some entry
    → take (suc place) log ≡ take place log ++ entry ∷ []
one_more log place entry there =
    take-suc log place entry (slice_get_within log place entry there)
    ∙ ap (λ (entry : LogRecord). take place log ++ entry ∷ []) (get_or_from_slice_get log place entry entry there)

-- and with two
two_more : (log : List LogRecord) (place : ℕ) (first second : LogRecord) → slice_get log place ≡ Some first
    → slice_get log (suc place) ≡ Some second → take (suc (suc place)) log ≡ take place log ++ first ∷ [] ++ second ∷ []
two_more log place first second here there =
    one_more log (suc place) second there ∙ ap (λ (records : List LogRecord). records ++ second ∷ []) (one_more log place first here)

-- the table after an Add whose Drop comes next
table_restored : (log : List LogRecord) (place heap : ℕ) (run : Run) → AllMayFollow 0 [] log → slice_get log place ≡ Some (Add run heap)
    → slice_get log (suc place) ≡ Some (Drop run) → table_at log (suc (suc place)) ≡ table_at log place
table_restored log place heap run formed added dropped =
    ap table_of (two_more log place (Add run heap) (Drop run) added dropped)
    ∙ failed_growth_leaves (take place log) run heap (follows_at 0 [] log place (Add run heap) formed added)

pub sound_logs_restore : SoundLogsRestore
sound_logs_restore segs sound generation heap run failed =
    let second : generation ≡ suc (generation - 1) = omega (arith, failed.some) in
    let third : generation + 1 ≡ suc (suc (generation - 1)) = omega (arith, failed.some) in
    let dropped : slice_get segs.log (suc (generation - 1)) ≡ Some (Drop run) =
    subst (λ (place : ℕ). slice_get segs.log place ≡ Some (Drop run)) second failed.dropped in
    ap (table_at segs.log) third ∙ table_restored segs.log (generation - 1) heap run sound.rows.table.formed failed.added dropped

pub answering_restore : AnsweringRestore
answering_restore segs generation heap to run table sound failed lags = record {
  reached = lags.reached;
  from = lags.from;
  up_to = lags.up_to;
  left =
      lags.left
      ∙ ap (undropped (newer segs.log (generation + 1) lags.reached)) (sound_logs_restore segs sound generation heap run failed);
}
