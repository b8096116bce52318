-- Rows that are mapped one after the other, and unmapped again where one of them failed.
use Rattle.std.proofs.Common.{◌≡◌, ◌⊎◌, ◌≤◌, ◌<◌, ℕ, ◌+◌, ◌-◌, ◌==◌, Bool, true, false, cond, List, [], ◌∷◌, ◌++◌, length, map, take, drop, get_or, Option, Some, refl, ap, ◌∙◌, sym, subst, arith, inl, inr, add-one, length-append, length-take, length-drop, take-suc, get_or-drop, append_assoc}
use Rattle.std.proofs.Math.Seq.{take-add}
use Rattle.std.specs.List.{All, list_any}
use Rattle.std.proofs.lemmas.Bool.{cases_Bool, eq-eqb, eqb-true, and_from, and_parts}
use Rattle.std.proofs.lemmas.List.{drop-drop, drop_more, length-map, take-append-drop, map-append}
use Rattle.std.proofs.lemmas.List.Elements.{All-drop, All-get_or}
use Rattle.std.proofs.lemmas.Option.{slice_get-get_or}
use Rattle.hp_base.specs.Mapping.{AreApart, CanMap, CanMapAll, FailingCall, FailsSo, Held, IsWithin, at_own_place, has_addr, is_refused, own_place, owned, without_row, without_rows}
use Rattle.hp_base.specs.declared.map_answer.MapAnswer.{MapAnswer}
use Rattle.hp_base.specs.declared.map_answer.MapAnswer.TheVariants.{At, Refused}
use Rattle.hp_base.specs.declared.row.Row.{Row}
use Rattle.hp_base.proofs.MappingLemmas.{rows_of_owned}
use Rattle.hp_log.proofs.Counts.{count_append, count_cons}
use Rattle.hp_maps.specs.Catching.{HasAnswered, HasFailed, HasReason}
use Rattle.hp_maps.specs.Unmapping.{CanMapRows, caught_by, held_own, is_own, rows_mapped}
use Rattle.hp_maps.proofs.HeldLemmas.{all_placed, held_addr, without_behind}
use Rattle.hp_maps.proofs.ListFacts.{uncounted}

pub apart_front : (xs ys : List Row) → AreApart (xs ++ ys) → AreApart xs
apart_front xs ys apart addr = omega (arith, apart addr, count_append (has_addr addr) xs ys)

pub take_more : {X : Type 0} (xs : List X) (at : ℕ) (d : X) → at < length xs → take (at + 1) xs ≡ take at xs ++ get_or xs at d ∷ []
take_more xs at d within = ap (λ n. take n xs) (add-one at) ∙ take-suc xs at d within

apart_take : (rows : List Row) (n : ℕ) → AreApart rows → AreApart (take n rows)
apart_take rows n apart = apart_front (take n rows) (drop n rows) (subst AreApart (sym (take-append-drop n rows)) apart)

abbrev one_if : Bool → ℕ
one_if b = cond b 1 0

-- no row before another has its address
not_before : (rows : List Row) (at : ℕ) (d : Row) → at < length rows → AreApart rows
    → list_any (has_addr (get_or rows at d).addr) (take at rows) ≡ false
not_before rows at d within apart =
    let row = get_or rows at d in
    let itself : one_if (row.addr == row.addr) ≡ 1 = ap one_if (eq-eqb row.addr row.addr refl) in
    let few : AreApart (take at rows ++ row ∷ []) = subst AreApart (take_more rows at d within) (apart_take rows (at + 1) apart) in
    uncounted (has_addr row.addr) (take at rows)
    (omega (arith, few row.addr, count_append (has_addr row.addr) (take at rows) (row ∷ []), count_cons (has_addr row.addr) row [], itself))

-- the next row may be mapped
pub can_map_next : (rows : List Row) (start at : ℕ) (d : Row) (held before : List Held) (capacity room calls answers : ℕ)
    → CanMapRows rows start before room calls → start ≤ at → at < length rows → held ≡ owned (take at rows) → capacity ≡ room
    → answers ≡ calls + (at - start) → CanMap (get_or rows at d) held capacity answers
can_map_next rows start at d held before capacity room calls answers can from within is_held same counted =
    let row = get_or rows at d in
    let near : IsWithin (get_or (drop start rows) (at - start) d) =
    All-get_or IsWithin (drop start rows) (at - start) d (omega (arith, length-drop start rows)) can.near in
    let its : get_or (drop start rows) (at - start) d ≡ row =
    get_or-drop start rows (at - start) d ∙ ap (λ (k : ℕ). get_or rows k d) (omega arith) in
    subst (λ (h : List Held). CanMap row h capacity answers) (sym is_held) (record {
      apart = held_addr row.addr (take at rows) ∙ not_before rows at d within can.apart;
      placed = all_placed (take at rows);
      room = omega (arith, can.room, same, length-map (take at rows) at_own_place, length-take at rows);
      countable = omega (arith, can.few, counted);
      within = subst IsWithin its near;
    })

-- and so may the others be after it, as many as go at once
pub can_map_rest : (rows : List Row) (start at : ℕ) (held before : List Held) (capacity room calls answers : ℕ)
    → CanMapRows rows start before room calls → start ≤ at → at ≤ length rows → held ≡ owned (take at rows) → capacity ≡ room
    → answers ≡ calls + (at - start) → CanMapAll (drop at rows) held capacity answers
can_map_rest rows start at held before capacity room calls answers can from within is_held same counted =
    let behind : drop (at - start) (drop start rows) ≡ drop at rows =
    drop-drop (at - start) start rows ∙ ap (λ (k : ℕ). drop k rows) {x = start + (at - start)} {y = at} (omega (arith, from)) in
    subst (λ (h : List Held). CanMapAll (drop at rows) h capacity answers) (sym is_held) (record {
      apart = subst AreApart (sym (ap (λ (l : List Row). l ++ drop at rows) (rows_of_owned (take at rows)) ∙ take-append-drop at rows)) can.apart;
      placed = all_placed (take at rows);
      room = omega (arith, can.room, same, within, length-map (take at rows) at_own_place, length-take at rows, length-drop at rows);
      countable = omega (arith, can.few, counted, from, within, length-drop at rows);
      within = subst (All IsWithin) behind (All-drop IsWithin (at - start) (drop start rows) can.near);
    })

-- one row more is mapped
pub held_more : (rows : List Row) (at : ℕ) (d : Row) (got : MapAnswer) (held before : List Held) → at < length rows
    → before ≡ owned (take at rows) → is_own (get_or rows at d) got ≡ true → held ≡ held_own (get_or rows at d) got before
    → held ≡ owned (take (at + 1) rows)
held_more rows at d got held before within is_before own is_held =
    let row = get_or rows at d in
    let mapped : held_own row got before ≡ before ++ at_own_place row ∷ [] = ap (λ b. cond b (before ++ at_own_place row ∷ []) before) own in
    is_held ∙ (mapped ∙ (ap (λ l. l ++ at_own_place row ∷ []) is_before
    ∙ (sym (map-append at_own_place (take at rows) (row ∷ [])) ∙ ap owned (sym (take_more rows at d within)))))

-- an answer that is the row's own place
pub own_answer : (row : Row) (got : MapAnswer) → is_own row got ≡ true → got ≡ own_place row
own_answer row (At addr page socket) own =
    let parts = and_parts (addr == row.addr) _ own in
    let parts2 = and_parts (page == row.page) (socket == row.socket) parts.1 in
    let a : addr ≡ row.addr = eqb-true _ _ parts.0 in
    let p : page ≡ row.page = eqb-true _ _ parts2.0 in
    let s : socket ≡ row.socket = eqb-true _ _ parts2.1 in
    cc
own_answer row Refused own = cc

pub answered_more : (rows : List Row) (start at : ℕ) (d : Row) (got : MapAnswer) (now before first : List MapAnswer) → start ≤ at
    → at < length rows → before ≡ first ++ map own_place (take (at - start) (drop start rows)) → is_own (get_or rows at d) got ≡ true
    → now ≡ before ++ got ∷ [] → now ≡ first ++ map own_place (take (at + 1 - start) (drop start rows))
answered_more rows start at d got now before first from within is_before own is_now =
    let row = get_or rows at d in
    let place : at - start < length (drop start rows) = omega (arith, length-drop start rows) in
    let its : get_or (drop start rows) (at - start) d ≡ row =
    get_or-drop start rows (at - start) d ∙ ap (λ (k : ℕ). get_or rows k d) (omega arith) in
    let more : take (at + 1 - start) (drop start rows) ≡ take (at - start) (drop start rows) ++ row ∷ [] =
    ap (λ (k : ℕ). take k (drop start rows)) (omega arith)
    ∙ (take_more (drop start rows) (at - start) d place ∙ ap (λ (r : Row). take (at - start) (drop start rows) ++ r ∷ []) its) in
    let front = take (at - start) (drop start rows) in
    is_now ∙ (ap (λ l. l ++ got ∷ []) is_before ∙ (append_assoc first (map own_place front) (got ∷ [])
    ∙ ap (λ l. first ++ l) (ap (λ a. map own_place front ++ a ∷ []) (own_answer row got own)
    ∙ (sym (map-append own_place front (row ∷ [])) ∙ ap (map own_place) (sym more)))))

-- the rows from the start on are unmapped again
pub rolled_back : (rows : List Row) (start at : ℕ) (d : Row) (got : MapAnswer) (held before after : List Held) (call : ℕ) → start ≤ at
    → AreApart rows → before ≡ owned (take at rows) → is_own (get_or rows at d) got ≡ false
    → held ≡ held_own (get_or rows at d) got before → after ≡ without_rows (take (at - start) (drop start rows)) held
    → after ≡ owned (rows_mapped rows start (caught_by (get_or rows at d) call got))
rolled_back rows start at d got held before after call from apart is_before other is_held is_after =
    let row = get_or rows at d in
    let middle = take (at - start) (drop start rows) in
    let parts : take at rows ≡ take start rows ++ middle =
    ap (λ (k : ℕ). take k rows) (omega arith) ∙ take-add start (at - start) rows in
    let unmapped : held_own row got before ≡ before = ap (λ b. cond b (before ++ at_own_place row ∷ []) before) other in
    let back : after ≡ owned (take start rows) =
    is_after ∙ (ap (without_rows middle) (is_held ∙ (unmapped ∙ (is_before ∙ ap owned parts)))
    ∙ without_behind (take start rows) middle (subst AreApart parts (apart_take rows at apart))) in
    back ∙ ap owned (sym (left got))
  where
    left : (answer : MapAnswer) → rows_mapped rows start (caught_by (get_or rows at d) call answer) ≡ take start rows
    left (At addr page socket) = refl
    left Refused = refl

-- an answer that is another place, or none
not_own : (row : Row) (got : MapAnswer) → is_own row got ≡ false → got ≡ own_place row → ⊥
not_own row got other same =
    let itself : is_own row (own_place row) ≡ true =
    and_from _ _ (eq-eqb row.addr row.addr refl) (and_from _ _ (eq-eqb row.page row.page refl) (eq-eqb row.socket row.socket refl)) in
    let wrong : true ≡ false = sym itself ∙ (ap (is_own row) (sym same) ∙ other) in
    cc

-- the mapping calls up to the one that failed
pub answered_failed : (rows : List Row) (start at : ℕ) (d : Row) (got : MapAnswer) (now before first : List MapAnswer) (calls call : ℕ)
    → start ≤ at → at < length rows → before ≡ first ++ map own_place (take (at - start) (drop start rows))
    → is_own (get_or rows at d) got ≡ false → now ≡ before ++ got ∷ [] → calls ≡ length first → call ≡ calls + (at - start) + 1
    → HasAnswered (drop start rows) first now (caught_by (get_or rows at d) call got)
answered_failed rows start at d got now before first calls call from within is_before other is_now counted its_call =
    by_answer got failed other
  where
    row : Row
    row = get_or rows at d

    failed : HasFailed (drop start rows) first now (get_or rows at d) call got
    failed =
        let place : at - start < length (drop start rows) = omega (arith, length-drop start rows) in
        let its : get_or (drop start rows) (at - start) d ≡ get_or rows at d =
        get_or-drop start rows (at - start) d ∙ ap (λ (k : ℕ). get_or rows k d) (omega arith) in
        let long : length now ≡ length first + (at - start) + 1 =
        ap length is_now ∙ omega (
          arith,
          length-append before (got ∷ []),
          ap length is_before,
          length-append first (map own_place (take (at - start) (drop start rows))),
          length-map (take (at - start) (drop start rows)) own_place,
          length-take (at - start) (drop start rows),
        ) in
        record {
          place = at - start;
          its_row = slice_get-get_or (drop start rows) (at - start) d place ∙ ap (λ (r : Row). Some r) its;
          answered = is_now ∙ ap (λ l. l ++ got ∷ []) is_before;
          its_call = omega (arith, long, its_call, counted);
        }

    by_answer : (answer : MapAnswer) → HasFailed (drop start rows) first now (get_or rows at d) call answer
        → is_own (get_or rows at d) answer ≡ false → HasAnswered (drop start rows) first now (caught_by (get_or rows at d) call answer)
    by_answer (At addr page socket) had away = (had, record { mapped = refl; other = not_own (get_or rows at d) (At addr page socket) away })
    by_answer Refused had away = had

-- at the call that failed the mapper may answer the row so
pub failed_reason : (row : Row) (got : MapAnswer) (may_fail : Option (List FailingCall)) (before call : ℕ) → is_own row got ≡ false
    → (got ≡ own_place row) ⊎ FailsSo may_fail (before + 1) row got → call ≡ before + 1 → HasReason may_fail (caught_by row call got)
failed_reason row got may_fail before call other told its_call = elim told [
  | inl own ↦ absurd (not_own row got other own)
  | inr so ↦ by_answer got (subst (λ (n : ℕ). FailsSo may_fail n row got) (sym its_call) so)
]
  where
    by_answer : (answer : MapAnswer) → FailsSo may_fail call row answer → HasReason may_fail (caught_by row call answer)
    by_answer (At addr page socket) so = so
    by_answer Refused so = so

pub own_unrefused : (row : Row) (got : MapAnswer) → is_own row got ≡ true → is_refused got ≡ false
own_unrefused row (At addr page socket) own = refl
own_unrefused row Refused own = cc

-- rows that are mapped at once after others
pub held_first : (rows : List Row) (at n : ℕ) (held before : List Held) → before ≡ owned (take at rows)
    → held ≡ before ++ owned (take n (drop at rows)) → held ≡ owned (take (at + n) rows)
held_first rows at n held before is_before is_held =
    is_held ∙ (ap (λ (l : List Held). l ++ owned (take n (drop at rows))) is_before
    ∙ (sym (map-append at_own_place (take at rows) (take n (drop at rows))) ∙ ap owned (sym (take-add at n rows))))

pub answered_first : (rows : List Row) (start at n : ℕ) (now before first : List MapAnswer) → start ≤ at
    → before ≡ first ++ map own_place (take (at - start) (drop start rows)) → now ≡ before ++ map own_place (take n (drop at rows))
    → now ≡ first ++ map own_place (take (at + n - start) (drop start rows))
answered_first rows start at n now before first from is_before is_now =
    let front = take (at - start) (drop start rows) in
    let behind : drop (at - start) (drop start rows) ≡ drop at rows =
    drop-drop (at - start) start rows ∙ ap (λ (k : ℕ). drop k rows) {x = start + (at - start)} {y = at} (omega (arith, from)) in
    let parts : take (at + n - start) (drop start rows) ≡ front ++ take n (drop at rows) =
    ap (λ (k : ℕ). take k (drop start rows)) {x = at + n - start} {y = at - start + n} (omega (arith, from))
    ∙ (take-add (at - start) n (drop start rows) ∙ ap (λ (l : List Row). front ++ take n l) behind) in
    is_now ∙ (ap (λ (l : List MapAnswer). l ++ map own_place (take n (drop at rows))) is_before
    ∙ (append_assoc first (map own_place front) (map own_place (take n (drop at rows)))
    ∙ ap (λ (l : List MapAnswer). first ++ l)
    (sym (map-append own_place front (take n (drop at rows))) ∙ ap (map own_place) (sym parts))))

-- rows that are unmapped one after the other
pub without_append : (xs ys : List Row) (held : List Held) → without_rows (xs ++ ys) held ≡ without_rows ys (without_rows xs held)
without_append [] ys held = refl
without_append (x ∷ xs) ys held = without_append xs ys (without_row x held)

-- a row is unmapped, and as many after it as go at once
pub unmapped_first : (rows : List Row) (at n : ℕ) (d : Row) (held one now : List Held) → at < length rows
    → one ≡ without_row (get_or rows at d) held → now ≡ without_rows (take n (drop (at + 1) rows)) one
    → without_rows (drop (at + 1 + n) rows) now ≡ without_rows (drop at rows) held
unmapped_first rows at n d held one now within is_one is_now =
    let rest = drop (at + 1) rows in
    let left = without_row (get_or rows at d) held in
    let parts : take n rest ++ drop (at + 1 + n) rows ≡ rest =
    ap (λ (l : List Row). take n rest ++ l) (sym (drop-drop n (at + 1) rows)) ∙ take-append-drop n rest in
    ap (without_rows (drop (at + 1 + n) rows)) (is_now ∙ ap (without_rows (take n rest)) is_one)
    ∙ (sym (without_append (take n rest) (drop (at + 1 + n) rows) left)
    ∙ (ap (λ (l : List Row). without_rows l left) parts ∙ ap (λ (l : List Row). without_rows l held) (sym (drop_more rows at d within))))

-- what a read past the end of rows would give
abbrev pub no_row : Row
no_row = record { addr = 0; page = 0; socket = 0; list = 0; slot = 0; generation = 0 }
