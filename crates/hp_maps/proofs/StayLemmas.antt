-- What calls of a mapper leave where it was, and how few events a catch-up tells.
use Rattle.std.proofs.Common.{◌≡◌, ◌≤◌, ◌+◌, ℕ, zero, suc, true, false, not, ◌||◌, List, [], ◌∷◌, ◌++◌, Option, Some, None, option_to_list, find, length, refl, ap, ◌∙◌, sym, arith, inl, inr, length-append}
use Rattle.std.specs.List.{All}
use Rattle.std.specs.Prelude.{sum_by}
use Rattle.std.proofs.lemmas.Bool.{cases_Bool}
use Rattle.std.proofs.lemmas.List.Elements.{All-contains, All-filter, All-head, All-push, All-tail, filter_passes}
use Rattle.std.proofs.lemmas.List.Sums.{sum_by-cons, length-filter, count_by-le-length}
use Rattle.hp_base.specs.Mapping.{Held, at_own_place, held_after, is_row, own_place, without_row}
use Rattle.hp_base.specs.declared.caught.Caught.{Caught}
use Rattle.hp_base.specs.declared.caught.Caught.TheVariants as caught
use Rattle.hp_base.specs.declared.event.EventKind.TheVariants.{Alloc, Free}
use Rattle.hp_base.specs.declared.map_answer.MapAnswer.{MapAnswer}
use Rattle.hp_base.specs.declared.map_answer.MapAnswer.TheVariants.{At, Refused}
use Rattle.hp_base.specs.declared.row.Row.{Row}
use Rattle.hp_base.specs.declared.row.Run.{Run}
use Rattle.hp_log.specs.Log.{run_in}
use Rattle.hp_log.specs.Rows.{rows_of}
use Rattle.hp_log.specs.declared.log_record.LogRecord.{LogRecord}
use Rattle.hp_log.specs.declared.log_record.LogRecord.TheVariants.{Add, Drop}
use Rattle.hp_log.proofs.RowLemmas.{length_rows_below}
use Rattle.hp_maps.specs.Catching.{is_dropped, new_rows, undropped}
use Rattle.hp_maps.specs.Events.{dropped_events, events_of, rows_from, stands_at}
use Rattle.hp_maps.specs.Laws.{MapperCall, Maps, StaysMapped, TellsFew, Unmaps, answers_of, held_by, is_unmapped_by}
use Rattle.hp_maps.proofs.LeaveLemmas.{events_length}

-- nothing of what is held is the row at its own place
abbrev IsOut : Row → List Held → Type 0
IsOut row held = All (λ (one : Held). one ≡ at_own_place row → ⊥) held

abbrev IsNoAnswer : Row → List MapAnswer → Type 0
IsNoAnswer row answers = All (λ (got : MapAnswer). got ≡ own_place row → ⊥) answers

out_after : (row other : Row) (got : MapAnswer) (held : List Held) → (got ≡ own_place row → ⊥) → IsOut row held → IsOut row (held_after other got held)
out_after row other (At addr page socket) held differs out =
    All-push (λ (one : Held). one ≡ at_own_place row → ⊥) held _ out (λ same. differs (ap (λ (one : Held). one.got) same))
out_after row other Refused held differs out = out

stays_out : (row : Row) (calls : List MapperCall) (held : List Held) → IsNoAnswer row (answers_of calls) → IsOut row held
    → IsOut row (held_by calls held)
stays_out row [] held none out = out
stays_out row (Maps other got ∷ calls) held none out =
    stays_out row calls (held_after other got held) (All-tail (λ (a : MapAnswer). a ≡ own_place row → ⊥) got (answers_of calls) none)
    (out_after row other got held (All-head (λ (a : MapAnswer). a ≡ own_place row → ⊥) got (answers_of calls) none) out)
stays_out row (Unmaps other ∷ calls) held none out =
    stays_out row calls (without_row other held) none
    (All-filter (λ (one : Held). not (is_row other one.row)) (λ (one : Held). one ≡ at_own_place row → ⊥) held out)

goes_out : (row other : Row) (held : List Held) → is_row other row ≡ true → IsOut row (without_row other held)
goes_out row other held same k d within here =
    let test = λ (one : Held). not (is_row other one.row) in
    let passes = filter_passes test held k d within in
    let wrong : not (is_row other row) ≡ true = sym (ap (λ (one : Held). not (is_row other one.row)) here) ∙ passes in
    true_is_not_false (sym wrong ∙ ap not same)
  where
    true_is_not_false : true ≡ false → ⊥
    true_is_not_false wrong = cc

pub stays_mapped : (row : Row) → StaysMapped row
stays_mapped row [] before held none = refl
stays_mapped row (Maps other got ∷ calls) before held none =
    stays_mapped row calls (held_after other got before) held (All-tail (λ (a : MapAnswer). a ≡ own_place row → ⊥) got (answers_of calls) none)
stays_mapped row (Unmaps other ∷ calls) before held none =
    elim (cases_Bool (is_row other row)) [
      | inl same ↦
          absurd (All-contains (λ (one : Held). one ≡ at_own_place row → ⊥) (held_by calls (without_row other before)) (at_own_place row)
          (stays_out row calls (without_row other before) none (goes_out row other before same)) held refl)
      | inr apart ↦ ap (λ b. b || is_unmapped_by calls row) apart ∙ stays_mapped row calls (without_row other before) held none
    ]

found_length : (o : Option Row) → length (option_to_list o) ≤ 1
found_length None = omega arith
found_length (Some row) = omega arith

rows_from_length : (rows : List Row) (before : List LogRecord) (run : Run) (k n : ℕ) → length (rows_from rows before run k n) ≤ n
rows_from_length rows before run k zero = omega arith
rows_from_length rows before run k (suc n) =
    let found = find (stands_at before run.list (run.first + k)) rows in
    omega (
      arith,
      length-append (option_to_list found) (rows_from rows before run (k + 1) n),
      found_length found,
      rows_from_length rows before run (k + 1) n,
    )

-- what goes and what comes, together
few_told : (rows : List Row) (n : ℕ) (before records : List LogRecord)
    → length (dropped_events rows before records) + length (new_rows n records) ≤ sum_by (λ (entry : LogRecord). (run_in entry).count) records
few_told rows n before [] = omega arith
few_told rows n before (Add run heap ∷ records) =
    let more = few_told rows (n + 1) (before ++ Add run heap ∷ []) records in
    let fresh = undropped records (rows_of run (n + 1)) in
    let fewer : length fresh ≤ run.count =
    omega (
      arith,
      length-filter (λ (row : Row). not (is_dropped records row)) (rows_of run (n + 1)),
      count_by-le-length (λ (row : Row). not (is_dropped records row)) (rows_of run (n + 1)),
      length_rows_below run (n + 1) run.count,
    ) in
    omega (
      arith,
      more,
      fewer,
      length-append fresh (new_rows (n + 1) records),
      sum_by-cons (λ (entry : LogRecord). (run_in entry).count) (Add run heap) records,
    )
few_told rows n before (Drop run ∷ records) =
    let more = few_told rows (n + 1) (before ++ Drop run ∷ []) records in
    let gone = events_of Free (rows_from rows before run 0 run.count) in
    omega (
      arith,
      more,
      events_length Free (rows_from rows before run 0 run.count),
      rows_from_length rows before run 0 run.count,
      length-append gone (dropped_events rows (before ++ Drop run ∷ []) records),
      sum_by-cons (λ (entry : LogRecord). (run_in entry).count) (Drop run) records,
    )

pub few_events : (rows : List Row) (n : ℕ) (records : List LogRecord) (ended : Caught) → TellsFew rows n records ended
few_events rows n records caught.Done =
    omega (
      arith,
      few_told rows n [] records,
      events_length Alloc (new_rows n records),
      length-append (dropped_events rows [] records) (events_of Alloc (new_rows n records)),
    )
few_events rows n records (caught.Refused row call) = omega (arith, few_told rows n [] records)
few_events rows n records (caught.Elsewhere row call got) = omega (arith, few_told rows n [] records)
