-- Indexes in the order of names: what a search finds there, and that edits at that place keep the order.
use Rattle.std.proofs.Common.{◌≡◌, ◌≢◌, ℕ, ◌+◌, ◌-◌, ◌<◌, ◌≤◌, false, List, length, get_or, Result, Ok, Err, IfOk, IfErr, sym, ap, ◌∙◌, subst, refl, inl, inr, arith}
use Rattle.std.specs.Cmp.Lexicographic.{lists_ties, slice_cmp, bytes_decides}
use Rattle.std.specs.Cmp.{unsigned_ties}
use Rattle.std.specs.List.{All, insert, remove}
use Rattle.std.specs.List.Sorted.{IsBinarySearchResult, IsSearchInRange, IsSortedByKey}
use Rattle.std.specs.Ordering.{is_eq, is_lt, nat_cmp}
use Rattle.std.specs.declared.cmp.Ordering.TheVariants.{Less, Equal, Greater}
use Rattle.std.proofs.lemmas.Bool.{cases_lt}
use Rattle.std.proofs.lemmas.Cmp.{nat_list_cmp_total, tied_itself}
use Rattle.std.proofs.lemmas.List.Edits.{length-insert, get_or-insert_below, get_or-insert_at, get_or-insert_above, length-remove, get_or-remove_below, get_or-remove_above}
use Rattle.std.proofs.lemmas.List.Elements.{All-get_or, All-from_get_or}
use Rattle.std.proofs.lemmas.List.Sorted.{ranks_by, searchable_from_sorted, sorted_far}
use Rattle.hp_zone.specs.Places.{IsAt, IsByName, IsGap, IsUnknown, name_at}
use Rattle.hp_zone.specs.declared.zone.ZoneChange.{ZoneChange}

-- texts that compare as equal are the same
equal_texts : (a b : List ℕ) → slice_cmp nat_cmp a b ≡ Equal → a ≡ b
equal_texts a b equal = (bytes_decides a b).0 (lists_ties nat_cmp unsigned_ties a b ∙ ap is_eq equal)

-- texts of which one is lower or higher are not the same
lower_texts : (a b : List ℕ) → slice_cmp nat_cmp a b ≡ Less → a ≢ b
lower_texts a b lower same =
    let tied : slice_cmp nat_cmp b b ≡ Equal = tied_itself nat_list_cmp_total b in
    let here : slice_cmp nat_cmp b b ≡ Less = rw same at lower in
    cc

higher_texts : (a b : List ℕ) → slice_cmp nat_cmp a b ≡ Greater → a ≢ b
higher_texts a b higher same =
    let tied : slice_cmp nat_cmp b b ≡ Equal = tied_itself nat_list_cmp_total b in
    let here : slice_cmp nat_cmp b b ≡ Greater = rw same at higher in
    cc

module _ (log : List ZoneChange) (by_name : List ℕ) (text : List ℕ) where
  -- a search by name ends at the index of the name, or at the place where it would go
  pub searched : IsByName log by_name → (r : Result ℕ ℕ) → IsSearchInRange r (length by_name)
      → IsBinarySearchResult (λ index. slice_cmp nat_cmp (name_at log index) text) by_name r
      → record { found : IfOk r (IsAt log by_name text); absent : IfErr r (IsGap log by_name text) }
  searched sorted (Ok at) within equal = record {
    found = record { within = within; named = equal_texts _ _ (equal 0) };
    absent = tt;
  }
  searched sorted (Err at) within parted =
      let rises = searchable_from_sorted nat_list_cmp_total (name_at log) by_name text sorted in
      record {
        found = tt;
        absent = record {
          within = within;
          before = λ k d lower. (parted rises).0 k d (omega arith) lower;
          after = λ k d from below. (parted rises).1 k d from below;
        };
      }

  -- a name that has a gap is unknown
  pub unknown_in_gap : (at : ℕ) → IsGap log by_name text at → IsUnknown log by_name text
  unknown_in_gap at gap =
      All-from_get_or (λ index. name_at log index ≢ text) by_name 0 (λ k within.
      elim (cases_lt k at) [
        | inl lower ↦ lower_texts (name_at log (get_or by_name k 0)) text (gap.before k 0 lower)
        | inr from ↦ higher_texts (name_at log (get_or by_name k 0)) text (gap.after k 0 from within)
      ])

  -- a name at a place is not unknown
  pub known_at : (at : ℕ) → IsAt log by_name text at → IsUnknown log by_name text → ⊥
  known_at at here unknown = All-get_or (λ index. name_at log index ≢ text) by_name at 0 here.within unknown here.named

module _ (key new_key : ℕ → List ℕ) (xs : List ℕ) (at x : ℕ) (within : at ≤ length xs)
    (same : All (λ y. new_key y ≡ key y) xs)
    (before : (k d : ℕ) → k < at → slice_cmp nat_cmp (key (get_or xs k d)) (new_key x) ≡ Less)
    (after : (k d : ℕ) → at ≤ k → k < length xs → slice_cmp nat_cmp (key (get_or xs k d)) (new_key x) ≡ Greater)
    (sorted : IsSortedByKey key (slice_cmp nat_cmp) xs) where
  long : length (insert xs at x) ≡ length xs + 1
  long = length-insert xs at x within

  name_is : (k d : ℕ) → k < length xs → new_key (get_or xs k d) ≡ key (get_or xs k d)
  name_is k d in_range = All-get_or (λ y. new_key y ≡ key y) xs k d in_range same

  below : (d k : ℕ) → k < at → new_key (get_or (insert xs at x) k d) ≡ key (get_or xs k d)
  below d k lower = ap new_key (get_or-insert_below xs at x d k lower within) ∙ name_is k d (omega arith)

  above : (d k : ℕ) → at ≤ k → k < length xs → new_key (get_or (insert xs at x) (k + 1) d) ≡ key (get_or xs k d)
  above d k from in_range = ap new_key (get_or-insert_above xs at x d k from within) ∙ name_is k d in_range

  here : (d k : ℕ) → k ≡ at → new_key (get_or (insert xs at x) k d) ≡ new_key x
  here d k is =
      let P : ℕ → Type 0 = λ j. new_key (get_or (insert xs at x) j d) ≡ new_key x in
      subst P (sym is) (ap new_key (get_or-insert_at xs at x d within))

  -- above the new index the order is the old one
  moved : (d k : ℕ) → at ≤ k → k + 1 < length xs
      → is_lt (slice_cmp nat_cmp (new_key (get_or (insert xs at x) (k + 1 + 1) d)) (new_key (get_or (insert xs at x) (k + 1) d))) ≡ false
  moved d k from in_range = rw (above d (k + 1) (omega arith) in_range, above d k from (omega arith)) (sorted k d (omega arith) in_range)

  -- an index goes between lower and higher names, and the order stays
  pub sorted_insert : IsSortedByKey new_key (slice_cmp nat_cmp) (insert xs at x)
  sorted_insert k d low in_range =
      elim (cases_lt (k + 1) at) [
        | inl lower ↦ rw (below d (k + 1) lower, below d k (omega arith)) (sorted k d (omega arith) (omega arith))
        | inr from ↦
            elim (cases_lt k at) [
              | inl lower ↦
                  rw (here d (k + 1) (omega arith), below d k lower, nat_list_cmp_total.antisymm (new_key x) (key (get_or xs k d)), before k d lower) refl
              | inr higher ↦
                  elim (cases_lt at k) [
                    | inl past ↦
                        let P : ℕ → Type 0 = λ j. is_lt (slice_cmp nat_cmp (new_key (get_or (insert xs at x) (j + 1) d)) (new_key (get_or (insert xs at x) j d))) ≡ false in
                        subst P {x = k - 1 + 1} (omega arith) (moved d (k - 1) (omega arith) (omega (arith, long)))
                    | inr not_past ↦
                        rw (above d k higher (omega (arith, long)), here d k (omega arith), after k d higher (omega (arith, long))) refl
                  ]
            ]
      ]

-- the order stays without an index
pub sorted_remove : (key : ℕ → List ℕ) (xs : List ℕ) (at : ℕ) → at < length xs
    → IsSortedByKey key (slice_cmp nat_cmp) xs → IsSortedByKey key (slice_cmp nat_cmp) (remove xs at)
sorted_remove key xs at within sorted k d low in_range =
    let long : length (remove xs at) + 1 ≡ length xs = length-remove xs at within in
    let far : (i j e : ℕ) → i ≤ j → j < length xs → is_lt (slice_cmp nat_cmp (key (get_or xs j e)) (key (get_or xs i e))) ≡ false
    = sorted_far (λ a b. is_lt (slice_cmp nat_cmp (key a) (key b))) (ranks_by nat_list_cmp_total key) xs sorted in
    elim (cases_lt (k + 1) at) [
      | inl lower ↦ rw (get_or-remove_below xs at d (k + 1) lower within, get_or-remove_below xs at d k (omega arith) within) (far k (k + 1) d (omega arith) (omega (arith, long)))
      | inr from ↦
          elim (cases_lt k at) [
            | inl lower ↦ rw (get_or-remove_above xs at d (k + 1) from within, get_or-remove_below xs at d k lower within) (far k (k + 1 + 1) d (omega arith) (omega (arith, long)))
            | inr higher ↦ rw (get_or-remove_above xs at d (k + 1) from within, get_or-remove_above xs at d k higher within) (far (k + 1) (k + 1 + 1) d (omega arith) (omega (arith, long)))
          ]
    ]

-- the same order by names that are the same
pub sorted_agree : (key new_key : ℕ → List ℕ) (xs : List ℕ) → All (λ y. new_key y ≡ key y) xs
    → IsSortedByKey key (slice_cmp nat_cmp) xs → IsSortedByKey new_key (slice_cmp nat_cmp) xs
sorted_agree key new_key xs same sorted k d low in_range =
    rw (All-get_or (λ y. new_key y ≡ key y) xs (k + 1) d in_range same, All-get_or (λ y. new_key y ≡ key y) xs k d (omega arith) same) (sorted k d low in_range)
