-- The runs that went back by a log: what later records add to them, and what later outcomes leave of them.
use Rattle.std.proofs.Common.{◌≡◌, ◌∙◌, ℕ, zero, suc, ◌+◌, ◌<◌, Bool, true, false, not, ◌||◌, List, [], ◌∷◌, ◌++◌, length, map, Some, refl, ap, arith}
use Rattle.std.specs.List.{slice_get}
use Rattle.std.proofs.lemmas.List.Folds.{list_any-append}
use Rattle.hp_base.specs.declared.row.Run.{Run}
use Rattle.hp_log.specs.declared.log_record.LogRecord.{LogRecord}
use Rattle.hp_log.specs.declared.log_record.LogRecord.TheVariants.{Add, Drop}
use Rattle.hp_segs.specs.SoundAsks.{grants, is_granted}
use Rattle.hp_segs.specs.declared.outcome.AskLog.{AskLog}
use Rattle.hp_segs.specs.Returned.{returned_runs}

-- whether the record before the next one is an Add that is not granted, where that was so before a log whose records are numbered
-- from a generation on
abbrev pub failed_after : List AskLog → Bool → ℕ → List LogRecord → Bool
failed_after asks failed generation [] = failed
failed_after asks failed generation (Add run heap ∷ log) = failed_after asks (not (is_granted asks generation)) (generation + 1) log
failed_after asks failed generation (Drop run ∷ log) = failed_after asks false (generation + 1) log

-- what goes back by records after a log
pub returned_append : (asks : List AskLog) (log more : List LogRecord) (failed : Bool) (generation end : ℕ) → generation + length log ≡ end
    → returned_runs asks failed generation (log ++ more)
    ≡ returned_runs asks failed generation log ++ returned_runs asks (failed_after asks failed generation log) end more
returned_append asks [] more failed generation end is =
    let same : generation ≡ end = omega (arith, is) in
    ap (λ generation. returned_runs asks failed generation more) same
returned_append asks (Add run heap ∷ log) more failed generation end is =
    returned_append asks log more (not (is_granted asks generation)) (generation + 1) end (omega (arith, is))
returned_append asks (Drop run ∷ log) more true generation end is =
    returned_append asks log more false (generation + 1) end (omega (arith, is))
returned_append asks (Drop run ∷ log) more false generation end is =
    ap (λ runs. run ∷ runs) (returned_append asks log more false (generation + 1) end (omega (arith, is)))

-- Drops of what was given up take each run back
pub returned_drops : (asks : List AskLog) (runs : List Run) (generation : ℕ)
    → returned_runs asks false generation (map (λ run. Drop run) runs) ≡ runs
returned_drops asks [] generation = refl
returned_drops asks (run ∷ runs) generation = ap (λ runs. run ∷ runs) (returned_drops asks runs (generation + 1))

-- what went back depends on the grants of the records before the last one alone
pub returned_alike : (old new : List AskLog) (log : List LogRecord) (failed : Bool) (generation : ℕ)
    → ((other : ℕ) → other + 1 < generation + length log → is_granted new other ≡ is_granted old other)
    → returned_runs new failed generation log ≡ returned_runs old failed generation log
returned_alike old new [] failed generation alike = refl
returned_alike old new (Drop run ∷ log) true generation alike =
    returned_alike old new log false (generation + 1) (λ other below. alike other (omega (arith, below)))
returned_alike old new (Drop run ∷ log) false generation alike =
    ap (λ runs. run ∷ runs) (returned_alike old new log false (generation + 1) (λ other below. alike other (omega (arith, below))))
returned_alike old new (Add run heap ∷ []) failed generation alike = refl
returned_alike old new (Add run heap ∷ (entry ∷ log)) failed generation alike =
    ap (λ granted. returned_runs new (not granted) (generation + 1) (entry ∷ log)) (alike generation (omega arith))
    ∙ returned_alike old new (entry ∷ log) (not (is_granted old generation)) (generation + 1)
    (λ other below. alike other (omega (arith, below)))

failed_any : (asks : List AskLog) (entry : LogRecord) (log : List LogRecord) (failed : Bool) (generation : ℕ)
    → failed_after asks failed generation (entry ∷ log) ≡ failed_after asks false generation (entry ∷ log)
failed_any asks (Add run heap) log failed generation = refl
failed_any asks (Drop run) log failed generation = refl

not_failed : (granted : Bool) → (granted ≡ false → ⊥) → not granted ≡ false
not_failed true never = refl
not_failed false never = absurd (never refl)

-- where a record stands after each Add that is not granted, the last record is no such Add
pub none_failed : (asks : List AskLog) (log : List LogRecord) (generation : ℕ)
    → ((place number : ℕ) (run : Run) (heap : ℕ) → generation + place ≡ number → slice_get log place ≡ Some (Add run heap)
    → is_granted asks number ≡ false → place + 1 < length log)
    → failed_after asks false generation log ≡ false
none_failed asks [] generation followed = refl
none_failed asks (Drop run ∷ log) generation followed =
    none_failed asks log (generation + 1)
    (λ place number run heap at here off. omega (arith, followed (suc place) number run heap (omega (arith, at)) here off))
none_failed asks (Add run heap ∷ []) generation followed =
    not_failed (is_granted asks generation)
    (λ off. let below = followed 0 generation run heap (omega arith) refl off in absurd (omega (arith, below)))
none_failed asks (Add run heap ∷ (entry ∷ log)) generation followed =
    failed_any asks entry log (not (is_granted asks generation)) (generation + 1)
    ∙ none_failed asks (entry ∷ log) (generation + 1)
    (λ place number run heap at here off. omega (arith, followed (suc place) number run heap (omega (arith, at)) here off))

-- where the last record is an Add that is not granted
pub last_failed : (asks : List AskLog) (log : List LogRecord) (failed : Bool) (generation place number : ℕ) (run : Run) (heap : ℕ)
    → slice_get log place ≡ Some (Add run heap) → place + 1 ≡ length log → generation + place ≡ number → is_granted asks number ≡ false
    → failed_after asks failed generation log ≡ true
last_failed asks [] failed generation place number run heap here end at off = cc
last_failed asks (Add own its ∷ log) failed generation (suc place) number run heap here end at off =
    last_failed asks log (not (is_granted asks generation)) (generation + 1) place number run heap here (omega (arith, end))
    (omega (arith, at)) off
last_failed asks (Drop own ∷ log) failed generation (suc place) number run heap here end at off =
    last_failed asks log false (generation + 1) place number run heap here (omega (arith, end)) (omega (arith, at)) off
last_failed asks (Add own its ∷ []) failed generation zero number run heap here end at off =
    let same : generation ≡ number = omega (arith, at) in
    ap (λ generation. not (is_granted asks generation)) same ∙ ap not off
last_failed asks (Drop own ∷ []) failed generation zero number run heap here end at off = cc
last_failed asks (entry ∷ (next ∷ log)) failed generation zero number run heap here end at off = absurd (omega (arith, end))

or_nothing : (one other : Bool) → other ≡ false → (one || (other || false)) ≡ one
or_nothing true other none = refl
or_nothing false other none = ap (λ b. b || false) none

-- an outcome that is no grant of the generation leaves whether it is granted
pub granted_alike : (asks : List AskLog) (entry : AskLog) (generation : ℕ) → grants generation entry ≡ false
    → is_granted (asks ++ entry ∷ []) generation ≡ is_granted asks generation
granted_alike asks entry generation none =
    list_any-append (grants generation) asks (entry ∷ []) ∙ or_nothing (is_granted asks generation) (grants generation entry) none
