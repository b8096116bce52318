-- Steps that keep a value sound: a growth that fails.
use Rattle.std.proofs.Common.{◌≡◌, ◌==◌, nat_le, ℕ, ◌+◌, ◌<◌, Bool, true, false, not, ◌&&◌, ◌||◌, cond, List, [], ◌∷◌, get_or, refl, ap, ◌∙◌, sym, arith, count_by}
use Rattle.std.specs.List.{All}
use Rattle.std.proofs.lemmas.Bool.{false_from_ne_true, not-true, and_from, eq-eqb, le-leb, lt-ltb}
use Rattle.std.proofs.lemmas.List.Elements.{All-head, All-cons, All-nil}
use Rattle.hp_base.specs.declared.row.Row.{Row}
use Rattle.hp_base.specs.declared.row.Run.{Run}
use Rattle.hp_log.specs.Rows.{rows_at, at_slot, in_run, IsUsedRun}
use Rattle.hp_segs.specs.SegsView.{is_opened}
use Rattle.hp_segs.specs.SoundRows.{AreHeld, has_slot, in_runs}
use Rattle.hp_segs.specs.Table.{IsListRun}
use Rattle.hp_segs.specs.declared.list_info.ListInfo.{ListInfo}
use Rattle.hp_segs.specs.declared.row_state.Segment.{Segment}
use Rattle.hp_log.proofs.Counts.{count_filter, count_agree, count_cons}
use Rattle.hp_segs.proofs.RowTables.KeptLemmas.{held_fewer}
use Rattle.hp_segs.proofs.RetiredRuns.RemoveLemmas.{rows_without}
use Rattle.hp_segs.proofs.SlotFacts.SlotLemmas.{in_run_by_slot}

kept_at : (at : Bool) (inside : Bool) → (at ≡ true → inside ≡ false) → (not inside && at) ≡ at
kept_at true inside out = ap (λ b. not b && true) (out refl)
kept_at false true out = refl
kept_at false false out = refl

-- a slot that a run does not have keeps its rows when the run's go
pub rows_at_without : (rows : List Row) (run : Run) (list slot : ℕ) → has_slot list slot run ≡ false
    → rows_at (rows_without run rows) list slot ≡ rows_at rows list slot
rows_at_without rows run list slot none =
    count_filter (at_slot list slot) (λ row. not (in_run run row)) rows
    ∙ count_agree (λ row. not (in_run run row) && at_slot list slot row) (at_slot list slot) rows
    (λ k d within.
    kept_at (at_slot list slot (get_or rows k d)) (in_run run (get_or rows k d))
    (λ at. in_run_by_slot run list slot (get_or rows k d) at ∙ none))

none_counted : {X : Type 0} (p : X → Bool) (xs : List X) → count_by p xs ≡ 0 → All (λ x. p x ≡ false) xs
none_counted p [] none = All-nil (λ x. p x ≡ false)
none_counted p (x ∷ xs) none =
    All-cons (λ x. p x ≡ false) x xs
    (false_from_ne_true (p x) (λ passes.
    let one : ◌≡◌ {A = ℕ} (cond (p x) 1 0) 1 = ap (λ b. cond b 1 0) passes in
    omega (arith, one, none, count_cons p x xs)))
    (none_counted p xs (omega (arith, none, count_cons p x xs)))

-- of held runs with one more, none has a slot of that one
pub none_shares : {lists : List ListInfo} {rows : List Row} (run : Run) (runs : List Run) → AreHeld lists rows (run ∷ runs)
    → (list slot : ℕ) → has_slot list slot run ≡ true → All (λ other. has_slot list slot other ≡ false) runs
none_shares run runs held list slot has =
    let one : ◌≡◌ {A = ℕ} (cond (has_slot list slot run) 1 0) 1 = ap (λ b. cond b 1 0) has in
    let few : count_by (has_slot list slot) runs ≡ 0 = omega (arith, held.apart list slot, one, count_cons (has_slot list slot) run runs) in
    none_counted (has_slot list slot) runs few

-- a run has its own slots
pub own_slot : (run : Run) (n : ℕ) → n < run.count → has_slot run.list (run.first + n) run ≡ true
own_slot run n below =
    and_from (run.list == run.list) _ (eq-eqb run.list run.list refl)
    (and_from (nat_le run.first (run.first + n)) _ (le-leb run.first (run.first + n) (omega arith)) (lt-ltb (run.first + n) (run.first + run.count) (omega arith)))

-- the other held runs, when the rows of one go
pub held_without : {lists : List ListInfo} {rows : List Row} (run : Run) (runs : List Run) → AreHeld lists rows (run ∷ runs)
    → AreHeld lists (rows_without run rows) runs
held_without {lists} {rows} run runs held =
    let fewer = held_fewer run runs held in
    record {
      listed = fewer.listed;
      used = λ k d within. record {
        used = λ n below.
            let other : Run = get_or runs k d in
            let out : has_slot other.list (other.first + n) run ≡ false =
            false_from_ne_true (has_slot other.list (other.first + n) run) (λ has.
            let none = none_shares run runs held other.list (other.first + n) has k d within in
            let own = own_slot other n below in
            let wrong : true ≡ false = sym own ∙ none in
            cc) in
            rows_at_without rows run other.list (other.first + n) out ∙ (fewer.used k d within).used n below;
      };
      apart = fewer.apart;
    }

-- the first of held runs
pub held_first : {lists : List ListInfo} {rows : List Row} (run : Run) (runs : List Run) → AreHeld lists rows (run ∷ runs)
    → IsListRun lists run × IsUsedRun rows run
held_first {lists} {rows} run runs held =
    (All-head (IsListRun lists) run runs held.listed, All-head (IsUsedRun rows) run runs held.used)

pub not_opened : (segment : Segment) (run : Run) → not (in_run run segment.row) ≡ true → is_opened segment.state ≡ in_runs (run ∷ []) segment.row
    → is_opened segment.state ≡ false
not_opened segment run outside is =
    is ∙ ap (λ b. b || false) (not-true (in_run run segment.row) outside)
