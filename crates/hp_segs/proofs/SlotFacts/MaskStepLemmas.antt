-- The masks of all lists, as the rows of one run come or go.
use Rattle.std.proofs.Common.{◌≡◌, ◌≢◌, ◌==◌, ℕ, zero, suc, ◌+◌, ◌<◌, ◌≤◌, Bool, true, false, not, ◌&&◌, ◌||◌, cond, List, [], ◌∷◌, ◌++◌, map, length, filter, get_or, set, Some, refl, ap, ◌∙◌, sym, arith, add-zero}
use Rattle.std.specs.List.{list_any, range_with_len, slice_get}
use Rattle.std.proofs.lemmas.Bool.{and_left, eq-eqb, ne_eqb}
use Rattle.std.proofs.lemmas.List.FromFn.{fill_by_all, length-map-range_with_len, get_or-map-range_with_len}
use Rattle.hp_base.specs.declared.row.Row.{Row}
use Rattle.hp_base.specs.declared.row.Run.{Run}
use Rattle.hp_segs.specs.Masks.{with_places}
use Rattle.hp_log.specs.Rows.{rows_of, in_run, at_slot, slots_of}
use Rattle.hp_segs.specs.SoundRows.{has_slot}
use Rattle.hp_segs.specs.TableLayout.{masks_from}
use Rattle.hp_segs.specs.declared.list_info.ListInfo.{ListInfo}
use Rattle.hp_segs.proofs.SlotFacts.MaskLemmas.{length_with_places}
use Rattle.hp_segs.proofs.SlotFacts.SlotLemmas.{is_between, with_places_at, any_added, any_removed}

pub map_range_agree : {X : Type 0} (f g : ℕ → X) → ((k : ℕ) → f k ≡ g k) → (a n : ℕ)
    → map f (range_with_len a n) ≡ map g (range_with_len a n)
map_range_agree f g same a zero = refl
map_range_agree f g same a (suc n) =
    let here = same a in
    let rest = map_range_agree f g same (a + 1) n in
    cc

-- a list is used at the same slots
abbrev pub SameSlots : List Row → List Row → ℕ → Type 0
SameSlots old new list = (slot : ℕ) → list_any (at_slot list slot) new ≡ list_any (at_slot list slot) old

slots_same : (old new : List Row) (list n : ℕ) → SameSlots old new list → slots_of new list n ≡ slots_of old list n
slots_same old new list n same =
    map_range_agree (λ slot. list_any (at_slot list slot) new) (λ slot. list_any (at_slot list slot) old) same 0 n

masks_same : (n : ℕ) (old new : List Row) (lists : List ListInfo) → ((list : ℕ) → n ≤ list → SameSlots old new list)
    → masks_from n new lists ≡ masks_from n old lists
masks_same n old new [] same = refl
masks_same n old new (info ∷ lists) same =
    let here = slots_same old new n info.slots (same n (omega arith)) in
    let rest = masks_same (n + 1) old new lists (λ list above. same list (omega arith)) in
    cc

-- rows that differ at one list alone change its mask
pub masks_step : (n : ℕ) (old new : List Row) (lists : List ListInfo) (i : ℕ) (info : ListInfo) (mask : List Bool)
    → slice_get lists i ≡ Some info → ((list : ℕ) → list ≢ n + i → SameSlots old new list)
    → slots_of new (n + i) info.slots ≡ mask → masks_from n new lists ≡ set (masks_from n old lists) i mask
masks_step n old new [] i info mask here others its = cc
masks_step n old new (first ∷ lists) zero info mask here others its =
    let same : first ≡ info = cc in
    let head : slots_of new n first.slots ≡ mask =
    ap (λ i. slots_of new n i.slots) same ∙ (ap (λ l. slots_of new l info.slots) (sym (add-zero n)) ∙ its) in
    let rest = masks_same (n + 1) old new lists (λ list above. others list (omega arith)) in
    cc
masks_step n old new (first ∷ lists) (suc i) info mask here others its =
    let head = slots_same old new n first.slots (others n (omega arith)) in
    let place : n + 1 + i ≡ n + suc i = omega arith in
    let rest =
    masks_step
    (n + 1)
    old
    new
    lists
    i
    info
    mask
    here
    (λ list other. others list (λ same. other (omega arith)))
    (ap (λ l. slots_of new l info.slots) place ∙ its) in
    cc

or_by_cond : (between used : Bool) → cond between true used ≡ (used || between)
or_by_cond true true = refl
or_by_cond true false = refl
or_by_cond false true = refl
or_by_cond false false = refl

and_by_cond : (between used : Bool) → cond between false used ≡ (not between && used)
and_by_cond true used = refl
and_by_cond false used = refl

own_slot : (run : Run) (slot : ℕ) → has_slot run.list slot run ≡ is_between run.first run.count slot
own_slot run slot = ap (λ b. b && is_between run.first run.count slot) (eq-eqb run.list run.list refl)

pub slot_at : (rows : List Row) (list n k : ℕ) → k < n → get_or (slots_of rows list n) k false ≡ list_any (at_slot list k) rows
slot_at rows list n k within =
    get_or-map-range_with_len (λ slot. list_any (at_slot list slot) rows) 0 n k k false within (omega arith)

-- the slots of the run's list, after the rows of the run came
pub slots_added : (rows : List Row) (run : Run) (generation n : ℕ) → run.first + run.count ≤ n
    → slots_of (rows ++ rows_of run generation) run.list n
    ≡ with_places (slots_of rows run.list n) run.first run.count true
slots_added rows run generation n fits =
    let long : length (slots_of rows run.list n) ≡ n = length-map-range_with_len (λ slot. list_any (at_slot run.list slot) rows) 0 n in
    sym
    (fill_by_all
    (λ slot. list_any (at_slot run.list slot) (rows ++ rows_of run generation))
    (with_places (slots_of rows run.list n) run.first run.count true)
    n
    false
    (length_with_places (slots_of rows run.list n) run.first run.count true ∙ long)
    (λ k within.
    with_places_at (slots_of rows run.list n) run.first run.count true k false (omega (arith, long))
    ∙ (ap (λ used. cond (is_between run.first run.count k) true used) (slot_at rows run.list n k within)
    ∙ (or_by_cond (is_between run.first run.count k) (list_any (at_slot run.list k) rows)
    ∙ (ap (λ b. list_any (at_slot run.list k) rows || b) (sym (own_slot run k))
    ∙ sym (any_added rows run generation run.list k))))))

-- the slots of the run's list, after the rows of the run went
pub slots_removed : (rows : List Row) (run : Run) (n : ℕ) → run.first + run.count ≤ n
    → slots_of (filter (λ row. not (in_run run row)) rows) run.list n
    ≡ with_places (slots_of rows run.list n) run.first run.count false
slots_removed rows run n fits =
    let long : length (slots_of rows run.list n) ≡ n = length-map-range_with_len (λ slot. list_any (at_slot run.list slot) rows) 0 n in
    sym
    (fill_by_all
    (λ slot. list_any (at_slot run.list slot) (filter (λ row. not (in_run run row)) rows))
    (with_places (slots_of rows run.list n) run.first run.count false)
    n
    false
    (length_with_places (slots_of rows run.list n) run.first run.count false ∙ long)
    (λ k within.
    with_places_at (slots_of rows run.list n) run.first run.count false k false (omega (arith, long))
    ∙ (ap (λ used. cond (is_between run.first run.count k) false used) (slot_at rows run.list n k within)
    ∙ (and_by_cond (is_between run.first run.count k) (list_any (at_slot run.list k) rows)
    ∙ (ap (λ b. not b && list_any (at_slot run.list k) rows) (sym (own_slot run k))
    ∙ sym (any_removed rows run run.list k))))))

other_slot : (run : Run) (list slot : ℕ) → list ≢ run.list → has_slot list slot run ≡ false
other_slot run list slot other = and_left (list == run.list) _ (ne_eqb list run.list other)

pub or_false : (b : Bool) → (b || false) ≡ b
or_false true = refl
or_false false = refl

-- the slots of another list stay
pub others_added : (rows : List Row) (run : Run) (generation list : ℕ) → list ≢ run.list
    → SameSlots rows (rows ++ rows_of run generation) list
others_added rows run generation list other slot =
    any_added rows run generation list slot
    ∙ (ap (λ b. list_any (at_slot list slot) rows || b) (other_slot run list slot other)
    ∙ or_false (list_any (at_slot list slot) rows))

pub others_removed : (rows : List Row) (run : Run) (list : ℕ) → list ≢ run.list
    → SameSlots rows (filter (λ row. not (in_run run row)) rows) list
others_removed rows run list other slot =
    any_removed rows run list slot
    ∙ ap (λ b. not b && list_any (at_slot list slot) rows) (other_slot run list slot other)

-- the mask of a list among all
pub masks_from_at : (n : ℕ) (rows : List Row) (lists : List ListInfo) (i : ℕ) (info : ListInfo) (d : List Bool)
    → slice_get lists i ≡ Some info → get_or (masks_from n rows lists) i d ≡ slots_of rows (n + i) info.slots
masks_from_at n rows [] i info d here = cc
masks_from_at n rows (first ∷ lists) zero info d here =
    let same : first ≡ info = cc in
    ap (λ i. slots_of rows n i.slots) same ∙ ap (λ l. slots_of rows l info.slots) (sym (add-zero n))
masks_from_at n rows (first ∷ lists) (suc i) info d here =
    let place : n + 1 + i ≡ n + suc i = omega arith in
    masks_from_at (n + 1) rows lists i info d here ∙ ap (λ l. slots_of rows l info.slots) place

pub length_masks_from : (n : ℕ) (rows : List Row) (lists : List ListInfo) → length (masks_from n rows lists) ≡ length lists
length_masks_from n rows [] = refl
length_masks_from n rows (info ∷ lists) = ap suc (length_masks_from (n + 1) rows lists)

-- the masks after one list's slots were marked
pub masks_marked : (old new : List Row) (lists : List ListInfo) (masks masks' : List (List Bool)) (run : Run) (info : ListInfo) (used : Bool)
    → masks ≡ masks_from 0 old lists → slice_get lists run.list ≡ Some info
    → ((list : ℕ) → list ≢ run.list → SameSlots old new list)
    → slots_of new run.list info.slots ≡ with_places (slots_of old run.list info.slots) run.first run.count used
    → masks' ≡ set masks run.list (with_places (get_or masks run.list []) run.first run.count used)
    → masks' ≡ masks_from 0 new lists
masks_marked old new lists masks masks' run info used kept here others own marked =
    let zero_more : 0 + run.list ≡ run.list = omega arith in
    let before : get_or masks run.list [] ≡ slots_of old run.list info.slots =
    ap (λ m. get_or m run.list []) kept
    ∙ (masks_from_at 0 old lists run.list info [] here ∙ ap (λ l. slots_of old l info.slots) zero_more) in
    marked
    ∙ (ap (λ m. set masks run.list (with_places m run.first run.count used)) before
    ∙ (ap (λ m. set m run.list (with_places (slots_of old run.list info.slots) run.first run.count used)) kept
    ∙ sym
    (masks_step
    0
    old
    new
    lists
    run.list
    info
    (with_places (slots_of old run.list info.slots) run.first run.count used)
    here
    (λ list other. others list (λ same. other (omega arith)))
    (ap (λ l. slots_of new l info.slots) zero_more ∙ own))))
