-- It is after the place or before it, if it is anywhere.
use Rattle.std.proofs.Common.{◌≡◌, ◌∙◌, ◌||◌, ℕ, true, false, Bool, List, ap, refl, sym, take, drop}
use Rattle.std.specs.Option.{is_some}
use Rattle.std.proofs.lemmas.List.{take-append-drop, take_min}
use Rattle.std.proofs.lemmas.List.Folds.{list_any-append}
use Rattle.hp_base.specs.declared.row.Row.{Row}
use Rattle.hp_log.specs.declared.log_record.LogRecord.{LogRecord}
use Rattle.hp_maps.specs.Catching.{drops, is_dropped}
use Rattle.hp_maps.proofs.new_rows.place_of_drop.Goals as goal

parts : (row : Row) (records : List LogRecord) (at : ℕ)
    → is_dropped records row ≡ (is_dropped (take at records) row || is_dropped (drop at records) row)
parts row records at =
    ap (λ l. is_dropped l row) (sym (take-append-drop at records)) ∙ list_any-append (drops row) (take at records) (drop at records)

or_true : (b : Bool) → (b || true) ≡ true
or_true true = refl
or_true false = refl

or_false : (b : Bool) → (b || false) ≡ b
or_false true = refl
or_false false = refl

pub returns-in-Some : goal.returns-in-Some
returns-in-Some c =
    let row = c.args.row.now in
    let records = c.args.records.now in
    let behind = sym c.place_behind.ensures ∙ ap is_some c.in-Some.is in
    sym (parts row records c.args.from
    ∙ (ap (λ b. is_dropped (take c.args.from records) row || b) behind ∙ or_true (is_dropped (take c.args.from records) row)))

pub returns-in-None : goal.returns-in-None
returns-in-None c =
    let row = c.args.row.now in
    let records = c.args.records.now in
    let none = sym c.place_behind.ensures ∙ ap is_some c.in-None.is in
    c.place_behind-in-None.ensures
    ∙ (ap (λ (k : ℕ). is_dropped (take k records) row) c.min.ensures
    ∙ (ap (λ l. is_dropped l row) (take_min c.args.from records)
    ∙ sym (parts row records c.args.from
    ∙ (ap (λ b. is_dropped (take c.args.from records) row || b) none ∙ or_false (is_dropped (take c.args.from records) row)))))
