-- The rows of a table as the hall knows of them: the rule "Tables" of docs/PARTICIPANTS.md.
use Rattle.std.proofs.Common.{◌≡◌, ◌∙◌, ℕ, ◌+◌, ◌-◌, ◌≤◌, Bool, not, ◌||◌, cond, List, [], ◌∷◌, ◌++◌, drop, filter, length, take, refl, ap, arith}
use Rattle.std.specs.List.{list_any}
use Rattle.std.proofs.lemmas.List.{drop-take, take-append-le}
use Rattle.hp_base.specs.declared.chunk.Chunk.{Chunk}
use Rattle.hp_base.specs.declared.row.Row.{Row}
use Rattle.hp_hall.specs.Own.{Own, drops_row, rows_known}
use Rattle.hp_log.specs.Log.{table_at, table_of}
use Rattle.hp_log.specs.declared.log_record.LogRecord.{LogRecord}
use Rattle.hp_log.specs.declared.log_record.LogRecord.TheVariants.{Add, Drop}
use Rattle.hp_maps.specs.Catching.{Lags, drops, is_dropped, newer, undropped}
use Rattle.hp_maps.specs.MapsView.{MapsView, table_in}
use Rattle.hp_serve.specs.Tied.{HasTable}

drops_alike : (row : Row) (entry : LogRecord) → drops_row row entry ≡ drops row entry
drops_alike row (Add run heap) = refl
drops_alike row (Drop run) = refl

any_alike : (row : Row) (records : List LogRecord) → list_any (drops_row row) records ≡ is_dropped records row
any_alike row [] = refl
any_alike row (entry ∷ records) =
    ap (λ b. b || list_any (drops_row row) records) (drops_alike row entry) ∙ ap (λ b. drops row entry || b) (any_alike row records)

filter_alike : {X : Type 0} (p q : X → Bool) → ((x : X) → p x ≡ q x) → (xs : List X) → filter p xs ≡ filter q xs
filter_alike p q same [] = refl
filter_alike {X} p q same (x ∷ xs) =
    ap (λ (b : Bool). cond b (x ∷ filter p xs) (filter p xs)) (same x)
    ∙ ap (λ (rest : List X). cond (q x) (x ∷ rest) rest) (filter_alike p q same xs)

-- they are those of the log at the part's number, without what the records after it drop, up to where was unmapped
pub known_undropped : (log : List LogRecord) (own : Own) → own.number ≤ own.unmapped
    → rows_known log own ≡ undropped (newer log own.number own.unmapped) (table_at log own.number)
known_undropped log own behind =
    let gap : own.unmapped ≡ own.number + (own.unmapped - own.number) = omega (arith, behind) in
    let parts : drop own.number (take own.unmapped log) ≡ newer log own.number own.unmapped =
    ap (λ n. drop own.number (take n log)) gap ∙ drop-take own.number (own.unmapped - own.number) log in
    filter_alike (λ (row : Row). not (list_any (drops_row row) (drop own.number (take own.unmapped log))))
    (λ (row : Row). not (is_dropped (newer log own.number own.unmapped) row))
    (λ row.
    ap not (any_alike row (drop own.number (take own.unmapped log)) ∙ ap (λ (records : List LogRecord). is_dropped records row) parts))
    (table_at log own.number)

-- a longer log says the same of it
pub known_on : (log more : List LogRecord) (own : Own) → own.number ≤ length log → own.unmapped ≤ length log
    → rows_known (log ++ more) own ≡ rows_known log own
known_on log more own within seen =
    ap (λ (records : List LogRecord). filter (λ (row : Row). not (list_any (drops_row row) (drop own.number records)))
    (table_at (log ++ more) own.number)) (take-append-le own.unmapped log more seen)
    ∙ ap (λ (rows : List Row). filter (λ (row : Row). not (list_any (drops_row row) (drop own.number (take own.unmapped log)))) rows)
    (ap table_of (take-append-le own.number log more within))

-- such a table lags behind the log up to where was unmapped
pub has_lags : (log : List LogRecord) (own : Own) (marked : ℕ → List Chunk) (maps : MapsView) → HasTable log own marked maps
    → Lags log own.number own.unmapped (table_in maps.rows)
has_lags log own marked maps has =
    let behind = has.behind in
    record { reached = own.unmapped; from = behind; up_to = omega arith; left = has.rows ∙ known_undropped log own behind }
