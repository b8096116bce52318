-- The rows that end stretches. There is one for each stretch, so they count events.
use Rattle.std.proofs.Common.{◌≡◌, ◌≤◌, ℕ, ◌+◌, Bool, true, false, cond, List, [], ◌∷◌, ◌++◌, filter, length, refl, ap, ◌∙◌, arith, inl, inr, count_by}
use Rattle.std.specs.List.{All}
use Rattle.std.proofs.lemmas.Bool.{cases_Bool, cond-true, cond-false}
use Rattle.std.proofs.lemmas.List.{length-map}
use Rattle.std.proofs.lemmas.List.Elements.{All-head, All-tail}
use Rattle.hp_base.specs.declared.event.EventKind.{EventKind}
use Rattle.hp_base.specs.declared.row.Row.{Row}
use Rattle.hp_log.proofs.Counts.{count_cons}
use Rattle.hp_maps.specs.Events.{event_of, events_of, in_front, joins_by, stretches_of}
use Rattle.hp_maps.proofs.EventFacts.TellLemmas.{headed}

abbrev one_if : Bool → ℕ
one_if b = cond b 1 0

-- the rows on which the next one does not go
abbrev pub last_rows : (Row → Row → Bool) → List Row → List Row
last_rows joins [] = []
last_rows joins (row ∷ []) = row ∷ []
last_rows joins (row ∷ (next ∷ rows)) =
    cond (joins row next) (last_rows joins (next ∷ rows)) (row ∷ last_rows joins (next ∷ rows))

stretches_end : (joins : Row → Row → Bool) (rows : List Row) → length (stretches_of joins rows) ≡ length (last_rows joins rows)
stretches_end joins [] = refl
stretches_end joins (row ∷ []) = refl
stretches_end joins (row ∷ (next ∷ rows)) =
    let rest = stretches_end joins (next ∷ rows) in
    let head = headed joins next (stretches_of joins rows) in
    let whole : length (stretches_of joins (next ∷ rows)) ≡ length ((next ∷ head.rest) ∷ head.others) = ap length head.first in
    let front : length (stretches_of joins (row ∷ (next ∷ rows))) ≡ length (in_front joins row ((next ∷ head.rest) ∷ head.others)) =
    ap (λ (s : List (List Row)). length (in_front joins row s)) head.first in
    elim (cases_Bool (joins row next)) [
      | inl goes ↦
          let here : length (in_front joins row ((next ∷ head.rest) ∷ head.others)) ≡ length ((row ∷ (next ∷ head.rest)) ∷ head.others) =
          ap length (cond-true (joins row next) _ _ goes) in
          let ends : length (last_rows joins (row ∷ (next ∷ rows))) ≡ length (last_rows joins (next ∷ rows)) =
          ap length (cond-true (joins row next) _ _ goes) in
          omega (arith, rest, whole, front, here, ends)
      | inr stops ↦
          let here : length (in_front joins row ((next ∷ head.rest) ∷ head.others)) ≡ length ((row ∷ []) ∷ ((next ∷ head.rest) ∷ head.others)) =
          ap length (cond-false (joins row next) _ _ stops) in
          let ends : length (last_rows joins (row ∷ (next ∷ rows))) ≡ length (row ∷ last_rows joins (next ∷ rows)) =
          ap length (cond-false (joins row next) _ _ stops) in
          omega (arith, rest, whole, front, here, ends)
    ]

-- as many events as rows that end stretches
pub events_end : (kind : EventKind) (rows : List Row) → length (events_of kind rows) ≡ length (last_rows (joins_by kind) rows)
events_end kind rows = length-map (stretches_of (joins_by kind) rows) (event_of kind) ∙ stretches_end (joins_by kind) rows

module _ (joins : Row → Row → Bool) where
  -- one row more in front makes one end more at most
  pub ends_more : (row : Row) (rows : List Row) → length (last_rows joins (row ∷ rows)) ≤ 1 + length (last_rows joins rows)
  ends_more row [] = omega arith
  ends_more row (next ∷ rows) =
      elim (cases_Bool (joins row next)) [
        | inl goes ↦
            let same : length (last_rows joins (row ∷ (next ∷ rows))) ≡ length (last_rows joins (next ∷ rows)) =
            ap length (cond-true (joins row next) _ _ goes) in
            omega (arith, same)
        | inr stops ↦
            let more : length (last_rows joins (row ∷ (next ∷ rows))) ≡ length (row ∷ last_rows joins (next ∷ rows)) =
            ap length (cond-false (joins row next) _ _ stops) in
            omega (arith, more)
      ]

  -- and what ended after it still ends
  pub ends_kept : (p : Row → Bool) (row : Row) (rows : List Row) → count_by p (last_rows joins rows) ≤ count_by p (last_rows joins (row ∷ rows))
  ends_kept p row [] = omega arith
  ends_kept p row (next ∷ rows) =
      elim (cases_Bool (joins row next)) [
        | inl goes ↦
            let same : count_by p (last_rows joins (row ∷ (next ∷ rows))) ≡ count_by p (last_rows joins (next ∷ rows)) =
            ap (count_by p) (cond-true (joins row next) _ _ goes) in
            omega (arith, same)
        | inr stops ↦
            let more : count_by p (last_rows joins (row ∷ (next ∷ rows))) ≡ one_if (p row) + count_by p (last_rows joins (next ∷ rows)) =
            ap (count_by p) (cond-false (joins row next) _ _ stops) ∙ count_cons p row (last_rows joins (next ∷ rows)) in
            omega (arith, more)
      ]

  -- the ends of rows after others
  pub ends_append : (rows more : List Row) → length (last_rows joins (rows ++ more)) ≤ length (last_rows joins rows) + length (last_rows joins more)
  ends_append [] more = omega arith
  ends_append (row ∷ []) more = ends_more row more
  ends_append (row ∷ (next ∷ rows)) more =
      let rest = ends_append (next ∷ rows) more in
      elim (cases_Bool (joins row next)) [
        | inl goes ↦
            let both : length (last_rows joins (row ∷ (next ∷ (rows ++ more)))) ≡ length (last_rows joins (next ∷ (rows ++ more))) =
            ap length (cond-true (joins row next) _ _ goes) in
            let here : length (last_rows joins (row ∷ (next ∷ rows))) ≡ length (last_rows joins (next ∷ rows)) =
            ap length (cond-true (joins row next) _ _ goes) in
            omega (arith, rest, both, here)
        | inr stops ↦
            let both : length (last_rows joins (row ∷ (next ∷ (rows ++ more)))) ≡ length (row ∷ last_rows joins (next ∷ (rows ++ more))) =
            ap length (cond-false (joins row next) _ _ stops) in
            let here : length (last_rows joins (row ∷ (next ∷ rows))) ≡ length (row ∷ last_rows joins (next ∷ rows)) =
            ap length (cond-false (joins row next) _ _ stops) in
            omega (arith, rest, both, here)
      ]

  -- a row that goes on the last one makes no end more
  pub ends_joined : (rows : List Row) (row next : Row) → joins row next ≡ true
      → length (last_rows joins ((rows ++ row ∷ []) ++ next ∷ [])) ≤ length (last_rows joins (rows ++ row ∷ []))
  ends_joined [] row next goes =
      let one : length (last_rows joins (row ∷ (next ∷ []))) ≡ length (next ∷ []) = ap length (cond-true (joins row next) _ _ goes) in
      omega (arith, one)
  ends_joined (first ∷ []) row next goes =
      let rest = ends_joined [] row next goes in
      elim (cases_Bool (joins first row)) [
        | inl on ↦
            let both : length (last_rows joins (first ∷ (row ∷ (next ∷ [])))) ≡ length (last_rows joins (row ∷ (next ∷ []))) =
            ap length (cond-true (joins first row) _ _ on) in
            let here : length (last_rows joins (first ∷ (row ∷ []))) ≡ length (last_rows joins (row ∷ [])) =
            ap length (cond-true (joins first row) _ _ on) in
            omega (arith, rest, both, here)
        | inr off ↦
            let both : length (last_rows joins (first ∷ (row ∷ (next ∷ [])))) ≡ length (first ∷ last_rows joins (row ∷ (next ∷ []))) =
            ap length (cond-false (joins first row) _ _ off) in
            let here : length (last_rows joins (first ∷ (row ∷ []))) ≡ length (first ∷ last_rows joins (row ∷ [])) =
            ap length (cond-false (joins first row) _ _ off) in
            omega (arith, rest, both, here)
      ]
  ends_joined (first ∷ (second ∷ rows)) row next goes =
      let rest = ends_joined (second ∷ rows) row next goes in
      elim (cases_Bool (joins first second)) [
        | inl on ↦
            let both : length (last_rows joins ((first ∷ (second ∷ rows) ++ row ∷ []) ++ next ∷ []))
            ≡ length (last_rows joins ((second ∷ rows ++ row ∷ []) ++ next ∷ [])) =
            ap length (cond-true (joins first second) _ _ on) in
            let here : length (last_rows joins (first ∷ (second ∷ rows) ++ row ∷ [])) ≡ length (last_rows joins ((second ∷ rows) ++ row ∷ [])) =
            ap length (cond-true (joins first second) _ _ on) in
            omega (arith, rest, both, here)
        | inr off ↦
            let both : length (last_rows joins ((first ∷ (second ∷ rows) ++ row ∷ []) ++ next ∷ []))
            ≡ length (first ∷ last_rows joins ((second ∷ rows ++ row ∷ []) ++ next ∷ [])) =
            ap length (cond-false (joins first second) _ _ off) in
            let here : length (last_rows joins (first ∷ (second ∷ rows) ++ row ∷ [])) ≡ length (first ∷ last_rows joins ((second ∷ rows) ++ row ∷ [])) =
            ap length (cond-false (joins first second) _ _ off) in
            omega (arith, rest, both, here)
      ]

  module _ (P : Row → Type 0) where
    -- where rows are taken out, a row ends newly only before the first of a stretch's rows that are out
    pub ends_filtered : (q enters : Row → Bool)
        → ((row next : Row) → P row → P next → joins row next ≡ true → q row ≡ true → q next ≡ false → enters next ≡ true)
        → (rows : List Row) → All P rows
        → length (last_rows joins (filter q rows)) ≤ count_by q (last_rows joins rows) + count_by enters rows
    ends_filtered q enters first [] all = omega arith
    ends_filtered q enters first (row ∷ []) all =
        elim (cases_Bool (q row)) [
          | inl stays ↦
              let kept : length (last_rows joins (filter q (row ∷ []))) ≡ 1 = ap (λ b. length (last_rows joins (cond b (row ∷ []) []))) stays in
              let one : one_if (q row) ≡ 1 = ap one_if stays in
              omega (arith, kept, one, count_cons q row [])
          | inr out ↦
              let none : length (last_rows joins (filter q (row ∷ []))) ≡ 0 = ap (λ b. length (last_rows joins (cond b (row ∷ []) []))) out in
              omega (arith, none)
        ]
    ends_filtered q enters first (row ∷ (next ∷ rows)) all =
        let behind : All P (next ∷ rows) = All-tail P row (next ∷ rows) all in
        let rest = ends_filtered q enters first (next ∷ rows) behind in
        let far = ends_filtered q enters first rows (All-tail P next rows behind) in
        let counted = count_cons enters row (next ∷ rows) in
        let on : joins row next ≡ true → count_by q (last_rows joins (row ∷ (next ∷ rows))) ≡ count_by q (last_rows joins (next ∷ rows)) =
        (λ goes. ap (count_by q) (cond-true (joins row next) _ _ goes)) in
        let off : joins row next ≡ false
        → count_by q (last_rows joins (row ∷ (next ∷ rows))) ≡ one_if (q row) + count_by q (last_rows joins (next ∷ rows)) =
        (λ stops. ap (count_by q) (cond-false (joins row next) _ _ stops) ∙ count_cons q row (last_rows joins (next ∷ rows))) in
        elim (cases_Bool (q row)) [
          | inr out ↦
              let kept : length (last_rows joins (filter q (row ∷ (next ∷ rows)))) ≡ length (last_rows joins (filter q (next ∷ rows))) =
              ap (λ b. length (last_rows joins (cond b (row ∷ filter q (next ∷ rows)) (filter q (next ∷ rows))))) out in
              omega (arith, rest, kept, ends_kept q row (next ∷ rows), counted)
          | inl stays ↦
              let one : one_if (q row) ≡ 1 = ap one_if stays in
              let kept : filter q (row ∷ (next ∷ rows)) ≡ row ∷ filter q (next ∷ rows) = cond-true (q row) _ _ stays in
              let front : length (last_rows joins (filter q (row ∷ (next ∷ rows)))) ≡ length (last_rows joins (row ∷ filter q (next ∷ rows))) =
              ap (λ l. length (last_rows joins l)) kept in
              elim (cases_Bool (q next)) [
                | inr gone ↦
                    let without : filter q (next ∷ rows) ≡ filter q rows = cond-false (q next) _ _ gone in
                    let last : length (last_rows joins (row ∷ filter q (next ∷ rows))) ≡ length (last_rows joins (row ∷ filter q rows)) =
                    ap (λ l. length (last_rows joins (row ∷ l))) without in
                    let more = ends_more row (filter q rows) in
                    let second = count_cons enters next rows in
                    elim (cases_Bool (joins row next)) [
                      | inl goes ↦
                          let it : enters next ≡ true =
                          first row next (All-head P row (next ∷ rows) all) (All-head P next rows behind) goes stays gone in
                          let entered : one_if (enters next) ≡ 1 = ap one_if it in
                          omega (arith, far, front, last, more, counted, second, entered, ends_kept q next rows, on goes)
                      | inr stops ↦ omega (arith, far, front, last, more, counted, second, one, ends_kept q next rows, off stops)
                    ]
                | inl there ↦
                    let with_next : filter q (next ∷ rows) ≡ next ∷ filter q rows = cond-true (q next) _ _ there in
                    let tail : length (last_rows joins (filter q (next ∷ rows))) ≡ length (last_rows joins (next ∷ filter q rows)) =
                    ap (λ l. length (last_rows joins l)) with_next in
                    let both : length (last_rows joins (row ∷ filter q (next ∷ rows))) ≡ length (last_rows joins (row ∷ (next ∷ filter q rows))) =
                    ap (λ l. length (last_rows joins (row ∷ l))) with_next in
                    elim (cases_Bool (joins row next)) [
                      | inl goes ↦
                          let joined : length (last_rows joins (row ∷ (next ∷ filter q rows))) ≡ length (last_rows joins (next ∷ filter q rows)) =
                          ap length (cond-true (joins row next) _ _ goes) in
                          omega (arith, rest, front, both, tail, joined, counted, on goes)
                      | inr stops ↦
                          let apart : length (last_rows joins (row ∷ (next ∷ filter q rows))) ≡ length (row ∷ last_rows joins (next ∷ filter q rows)) =
                          ap length (cond-false (joins row next) _ _ stops) in
                          omega (arith, rest, front, both, tail, apart, counted, one, off stops)
                    ]
              ]
        ]

    -- where nothing is there that goes on them, rows end
    pub ends_at : (here there : Row → Bool)
        → ((row next : Row) → P row → P next → joins row next ≡ true → here row ≡ true → there next ≡ true)
        → (rows : List Row) → All P rows → count_by there rows ≡ 0 → count_by here rows ≤ count_by here (last_rows joins rows)
    ends_at here there next_is [] all none = omega arith
    ends_at here there next_is (row ∷ []) all none = omega arith
    ends_at here there next_is (row ∷ (next ∷ rows)) all none =
        let behind : All P (next ∷ rows) = All-tail P row (next ∷ rows) all in
        let none_behind : count_by there (next ∷ rows) ≡ 0 = omega (arith, none, count_cons there row (next ∷ rows)) in
        let rest = ends_at here there next_is (next ∷ rows) behind none_behind in
        let counted = count_cons here row (next ∷ rows) in
        elim (cases_Bool (here row)) [
          | inr away ↦
              let zero_here : one_if (here row) ≡ 0 = ap one_if away in
              omega (arith, rest, counted, zero_here, ends_kept here row (next ∷ rows))
          | inl it ↦
              elim (cases_Bool (joins row next)) [
                | inl goes ↦
                    let wrong : there next ≡ true = next_is row next (All-head P row (next ∷ rows) all) (All-head P next rows behind) goes it in
                    let one : one_if (there next) ≡ 1 = ap one_if wrong in
                    absurd (omega (arith, none_behind, one, count_cons there next rows))
                | inr stops ↦
                    let whole : count_by here (last_rows joins (row ∷ (next ∷ rows))) ≡ one_if (here row) + count_by here (last_rows joins (next ∷ rows)) =
                    ap (count_by here) (cond-false (joins row next) _ _ stops) ∙ count_cons here row (last_rows joins (next ∷ rows)) in
                    omega (arith, rest, counted, whole)
              ]
        ]
