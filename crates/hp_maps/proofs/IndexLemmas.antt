-- The numbers of the last Drops, as they are noted record by record.
use Rattle.std.proofs.Common.{◌≡◌, ◌≤◌, ◌<◌, ℕ, ◌+◌, ◌*◌, Bool, true, false, ◌&&◌, ◌||◌, nat_le, nat_lt, zero, suc, List, [], ◌∷◌, ◌++◌, length, take, drop, get_or, refl, ap, ◌∙◌, sym, subst, arith, inl, inr, length-take-le}
use Rattle.std.specs.Prelude.{if◌then◌else◌}
use Rattle.std.proofs.lemmas.Bool.{cases_Bool, cases_lt, le-ltb, lt-ltb}
use Rattle.std.proofs.lemmas.List.{drop-append-le, drop_all, take_all}
use Rattle.std.proofs.lemmas.List.Folds.{list_any-append}
use Rattle.hp_base.specs.declared.row.Row.{Row}
use Rattle.hp_base.specs.declared.row.Run.{Run}
use Rattle.hp_log.specs.Rows.{in_run}
use Rattle.hp_log.specs.declared.log_record.LogRecord.{LogRecord}
use Rattle.hp_log.specs.declared.log_record.LogRecord.TheVariants.{Add, Drop}
use Rattle.hp_maps.specs.Catching.{drops, is_dropped}
use Rattle.hp_maps.specs.LastDrops.{AreLast, AreNoted, has_place, number_of}
use Rattle.hp_maps.proofs.MapLemmas.{take_more}

or_false : (b : Bool) → (b || false) ≡ b
or_false true = refl
or_false false = refl

or_true : (b : Bool) → (b || true) ≡ true
or_true true = refl
or_true false = refl

and_false : (b : Bool) → (b && false) ≡ false
and_false true = refl
and_false false = refl

-- up to a place, one record more drops what it drops too
dropped_up_to : (records : List LogRecord) (i at : ℕ) (d : LogRecord) (row : Row) → i < length records → at ≤ i
    → is_dropped (drop at (take (i + 1) records)) row ≡ (is_dropped (drop at (take i records)) row || drops row (get_or records i d))
dropped_up_to records i at d row within before =
    let long : length (take i records) ≡ i = length-take-le i records (omega (arith, within)) in
    ap (λ (l : List LogRecord). is_dropped (drop at l) row) (take_more records i d within)
    ∙ (ap (λ (l : List LogRecord). is_dropped l row) (drop-append-le at (take i records) (get_or records i d ∷ []) (omega (arith, long, before)))
    ∙ (list_any-append (drops row) (drop at (take i records)) (get_or records i d ∷ [])
    ∙ ap (λ b. is_dropped (drop at (take i records)) row || b) (or_false (drops row (get_or records i d)))))

-- and after it there is none
none_after : (records : List LogRecord) (i at : ℕ) (row : Row) → i < length records → i < at
    → is_dropped (drop at (take (i + 1) records)) row ≡ false
none_after records i at row within after =
    let long : length (take (i + 1) records) ≡ i + 1 = length-take-le (i + 1) records (omega (arith, within)) in
    ap (λ (l : List LogRecord). is_dropped l row) (drop_all at (take (i + 1) records) (omega (arith, long, after)))

none_yet : (records : List LogRecord) (i at : ℕ) (row : Row) → i < length records → i < at
    → is_dropped (drop at (take i records)) row ≡ false
none_yet records i at row within after =
    let long : length (take i records) ≡ i = length-take-le i records (omega (arith, within)) in
    ap (λ (l : List LogRecord). is_dropped l row) (drop_all at (take i records) (omega (arith, long, after)))

-- an Add leaves the numbers
pub last_by_add : (records : List LogRecord) (i : ℕ) (d : LogRecord) (run : Run) (heap : ℕ) (numbers : List ℕ) → i < length records
    → get_or records i d ≡ Add run heap → AreLast numbers (take i records) → AreLast numbers (take (i + 1) records)
last_by_add records i d run heap numbers within its last row at =
    last row at
    ∙ elim (cases_lt i at) [
      | inl after ↦ none_yet records i at row within after ∙ sym (none_after records i at row within after)
      | inr before ↦
          sym (dropped_up_to records i at d row within before
          ∙ (ap (λ entry. is_dropped (drop at (take i records)) row || drops row entry) its
          ∙ or_false (is_dropped (drop at (take i records)) row)))
    ]

-- and a Drop is noted with its own
pub last_by_drop : (records : List LogRecord) (i : ℕ) (d : LogRecord) (run : Run) (old new : List ℕ) → i < length records
    → get_or records i d ≡ Drop run → AreLast old (take i records) → AreNoted run (i + 1) old new → AreLast new (take (i + 1) records)
last_by_drop records i d run old new within its last noted row at =
    ap (nat_lt at) (noted row)
    ∙ elim (cases_lt i at) [
      | inl after ↦ elim (cases_Bool (in_run run row)) [
        | inl its_own ↦
            ap (λ b. nat_lt at (if b then i + 1 else number_of old row)) its_own
            ∙ (le-ltb at (i + 1) (omega (arith, after)) ∙ sym (none_after records i at row within after))
        | inr other ↦
            ap (λ b. nat_lt at (if b then i + 1 else number_of old row)) other
            ∙ (last row at ∙ (none_yet records i at row within after ∙ sym (none_after records i at row within after)))
      ]
      | inr before ↦ elim (cases_Bool (in_run run row)) [
        | inl its_own ↦
            ap (λ b. nat_lt at (if b then i + 1 else number_of old row)) its_own
            ∙ (lt-ltb at (i + 1) (omega (arith, before))
            ∙ sym (dropped_up_to records i at d row within before
            ∙ (ap (λ entry. is_dropped (drop at (take i records)) row || drops row entry) its
            ∙ (ap (λ b. is_dropped (drop at (take i records)) row || b) its_own ∙ or_true (is_dropped (drop at (take i records)) row)))))
        | inr other ↦
            ap (λ b. nat_lt at (if b then i + 1 else number_of old row)) other
            ∙ (last row at
            ∙ sym (dropped_up_to records i at d row within before
            ∙ (ap (λ entry. is_dropped (drop at (take i records)) row || drops row entry) its
            ∙ (ap (λ b. is_dropped (drop at (take i records)) row || b) other ∙ or_false (is_dropped (drop at (take i records)) row)))))
      ]
    ]

-- a zero after the last number is what stood there
pub zero_more : (numbers : List ℕ) (place : ℕ) → get_or (numbers ++ 0 ∷ []) place 0 ≡ get_or numbers place 0
zero_more [] zero = refl
zero_more [] (suc place) = refl
zero_more (number ∷ numbers) zero = refl
zero_more (number ∷ numbers) (suc place) = zero_more numbers place

-- no record, no number
pub last_of_none : (records : List LogRecord) → AreLast [] (take 0 records)
last_of_none records row at = unnumbered (has_place row) at ∙ sym (ap (λ (l : List LogRecord). is_dropped l row) (drop_all at [] (omega arith)))
  where
    unnumbered : (b : Bool) (at : ℕ) → nat_lt at (if b then get_or [] (row.list * 8192 + row.slot) 0 else 0) ≡ false
    unnumbered true at = le-ltb at 0 (omega arith)
    unnumbered false at = le-ltb at 0 (omega arith)

pub last_of_all : (numbers : List ℕ) (records : List LogRecord) (n : ℕ) → n ≡ length records → AreLast numbers (take n records) → AreLast numbers records
last_of_all numbers records n all last = subst (AreLast numbers) (take_all n records (omega (arith, all))) last
