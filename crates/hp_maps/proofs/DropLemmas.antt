-- Rows that are gone over once: some are unmapped, and the others move to the front.
use Rattle.std.proofs.Common.{◌≡◌, ◌≤◌, ◌<◌, ℕ, suc, ◌+◌, Bool, true, false, not, cond, List, [], ◌∷◌, ◌++◌, filter, length, take, drop, set, get_or, ap, ◌∙◌, sym, arith, drop-cons, get_or-drop, add-one}
use Rattle.std.proofs.lemmas.List.{append-nil, drop-drop, drop-set-lt, take_all, take_more_set}
use Rattle.std.proofs.lemmas.List.Elements.{filter-append}
use Rattle.hp_base.specs.Mapping.{Held, without_row, without_rows}
use Rattle.hp_base.specs.declared.row.Row.{Row}
use Rattle.hp_maps.proofs.MapLemmas.{take_more}

module _ (p : Row → Bool) (first now : List Row) (at : ℕ) (d : Row) (within : at < length first) (rest : drop at now ≡ drop at first) where
  -- the row that comes next is the one that stood there
  pub same_row : get_or now at d ≡ get_or first at d
  same_row =
      sym (first_left now) ∙ (ap (λ l. get_or l 0 d) rest ∙ first_left first)
    where
      first_left : (l : List Row) → get_or (drop at l) 0 d ≡ get_or l at d
      first_left l =
          let plain : at + 0 ≡ at = omega arith in
          get_or-drop at l 0 d ∙ ap (λ (k : ℕ). get_or l k d) plain

  pub next : drop at first ≡ get_or now at d ∷ drop (at + 1) first
  next =
      drop-cons first at d within
      ∙ (ap (λ (row : Row). row ∷ drop (suc at) first) (sym same_row) ∙ ap (λ (k : ℕ). get_or now at d ∷ drop k first) (sym (add-one at)))

  pub rest_is : drop (at + 1) now ≡ drop (at + 1) first
  rest_is = drop_one now ∙ (ap (drop 1) rest ∙ sym (drop_one first))
    where
      drop_one : (l : List Row) → drop (at + 1) l ≡ drop 1 (drop at l)
      drop_one l = sym (drop-drop 1 at l)

  more : take (at + 1) first ≡ take at first ++ get_or now at d ∷ []
  more = take_more first at d within ∙ ap (λ (row : Row). take at first ++ row ∷ []) (sym same_row)

  -- a row that is unmapped
  pub gone_kept : p (get_or now at d) ≡ true → filter (λ row. not (p row)) (take (at + 1) first) ≡ filter (λ row. not (p row)) (take at first)
  gone_kept passes =
      ap (filter (λ row. not (p row))) more
      ∙ (filter-append (λ row. not (p row)) (take at first) (get_or now at d ∷ [])
      ∙ (ap (λ b. filter (λ row. not (p row)) (take at first) ++ cond (not b) (get_or now at d ∷ []) []) passes
      ∙ append-nil (filter (λ row. not (p row)) (take at first))))

  pub gone_held : (held : List Held) → p (get_or now at d) ≡ true
      → without_rows (filter p (drop (at + 1) first)) (without_row (get_or now at d) held) ≡ without_rows (filter p (drop at first)) held
  gone_held held passes =
      sym (ap (λ l. without_rows (filter p l) held) next
      ∙ ap (λ b. without_rows (cond b (get_or now at d ∷ filter p (drop (at + 1) first)) (filter p (drop (at + 1) first))) held) passes)

  -- a row that stays
  pub stay_held : (held : List Held) → p (get_or now at d) ≡ false
      → without_rows (filter p (drop (at + 1) first)) held ≡ without_rows (filter p (drop at first)) held
  stay_held held fails =
      sym (ap (λ l. without_rows (filter p l) held) next
      ∙ ap (λ b. without_rows (cond b (get_or now at d ∷ filter p (drop (at + 1) first)) (filter p (drop (at + 1) first))) held) fails)

  module _ (stay : ℕ) (before : stay ≤ at) (long : length now ≡ length first) where
    pub stay_kept : take stay now ≡ filter (λ row. not (p row)) (take at first) → p (get_or now at d) ≡ false
        → take (stay + 1) (set now stay (get_or now at d)) ≡ filter (λ row. not (p row)) (take (at + 1) first)
    stay_kept kept fails =
        take_more_set now stay (get_or now at d) (omega (arith, within, before, long))
        ∙ (ap (λ l. l ++ get_or now at d ∷ []) kept
        ∙ sym (ap (filter (λ row. not (p row))) more
        ∙ (filter-append (λ row. not (p row)) (take at first) (get_or now at d ∷ [])
        ∙ ap (λ b. filter (λ row. not (p row)) (take at first) ++ cond (not b) (get_or now at d ∷ []) []) fails)))

    pub stay_rest : drop (at + 1) (set now stay (get_or now at d)) ≡ drop (at + 1) first
    stay_rest = drop-set-lt (at + 1) now stay (get_or now at d) (omega (arith, before)) ∙ rest_is

-- at the end all rows are gone over
pub all_kept_rows : (p : Row → Bool) (first now : List Row) (at stay : ℕ) → length first ≤ at
    → take stay now ≡ filter (λ row. not (p row)) (take at first) → take stay now ≡ filter (λ row. not (p row)) first
all_kept_rows p first now at stay past kept = kept ∙ ap (filter (λ row. not (p row))) (take_all at first past)
