-- One free element in the place of bytes and of the elements on both sides of them: the tiling with it.
use Rattle.std.proofs.Common.{◌≡◌, ℕ, ◌+◌, ◌<◌, ◌≤◌, ◌⊎◌, Bool, true, false, cond, ◌&&◌, List, [], ◌∷◌, ◌++◌, refl, sym, ap, ◌∙◌, inl, inr, arith, count_by, eqb}
use Rattle.std.proofs.lemmas.Bool.{and_parts, or_cases, false≢true, cases_lt, cases_Bool, eqb-true, eq-eqb, ltb-true, ltb-false}
use Rattle.std.proofs.lemmas.Bool.Decides.{nat_tests}
use Rattle.std.specs.List.{AllByRecursion}
use Rattle.hp_base.specs.declared.span.Span.{Span}
use Rattle.hp_heap.specs.PlainHeap.{Extent, end_of, is_within}
use Rattle.hp_heap.specs.Tiling.{IsTiling, IsElement, IsRisingFrom, IsApart, in_range, in_segment, in_range_of, in_segment_of, has_stamp}
use Rattle.hp_heap.specs.Statistics.{total_bytes}
use Rattle.hp_heap.proofs.RangeLemmas.{AllByRecursion-append, AllByRecursion-front, AllByRecursion-back, last_end, rising-append, rising-front}
use Rattle.hp_heap.proofs.HistoryFacts.Counting.{count_by-append, count_by-between, count_by-cons, count_consecutive, count_of_list, IsConsecutive, IsOfList}
use Rattle.hp_heap.proofs.AllocFacts.AllocLaw.{no_later_stamp, later_element}

-- bytes that come to be free in the place of elements on both sides of them, which they join
pub record IsJoining (segments more : List Extent) (insertions : ℕ) (before lows highs after : List Span) (range joined : Span) : Type 0 where
  pub tiling : IsTiling segments insertions (before ++ (lows ++ (highs ++ after)))
  -- the new element covers the bytes and those elements, in a row, of one list
  pub row : IsConsecutive joined.addr (lows ++ (range ∷ highs))
  pub total : total_bytes (lows ++ (range ∷ highs)) ≡ joined.whole
  pub of_list : AllByRecursion (IsOfList joined.list joined.page) (lows ++ (range ∷ highs))
  -- it is free, inserted last
  pub element : IsElement (insertions + 1) joined
  pub stamp : (stamp : ℕ) → cond {A = ℕ} (has_stamp stamp joined) 1 0 ≡ cond {A = ℕ} (eqb (insertions + 1) stamp) 1 0
  -- it lies between the others, and is apart from them
  pub from : last_end 0 before ≤ joined.addr
  pub to : IsRisingFrom (end_of joined) after
  pub apart : IsApart (before ++ (joined ∷ after))
  -- the segments gain its bytes
  pub gain : (byte : ℕ) → count_by (in_segment byte) more ≡ count_by (in_segment byte) segments + cond (is_within range.addr range.whole byte) 1 0
  pub gain_of : (l p byte : ℕ) → count_by (in_segment_of l p byte) more ≡ count_by (in_segment_of l p byte) segments + cond (eqb range.list l && eqb range.page p) (cond (is_within range.addr range.whole byte) 1 0) 0
  pub fresh : (byte : ℕ) → range.addr ≤ byte → byte < range.addr + range.whole → count_by (in_segment byte) segments ≡ 0

module _ (segments more : List Extent) (insertions : ℕ) (before lows highs after : List Span) (range joined : Span)
    (joining : IsJoining segments more insertions before lows highs after range joined) where
  -- counted one by one
  parts : (p : Span → Bool) → count_by p (before ++ (lows ++ (highs ++ after))) ≡ count_by p before + (count_by p lows + (count_by p highs + count_by p after))
  parts p = omega (arith, count_by-append p before (lows ++ (highs ++ after)), count_by-between p lows highs after)

  news : (p : Span → Bool) → count_by p (before ++ (joined ∷ after)) ≡ count_by p before + (count_by p (joined ∷ []) + count_by p after)
  news p = count_by-between p before (joined ∷ []) after

  covered : (p : Span → Bool) → count_by p (lows ++ (range ∷ highs)) ≡ count_by p lows + (count_by p (range ∷ []) + count_by p highs)
  covered p = count_by-between p lows (range ∷ []) highs

  one_total : joined.whole ≡ total_bytes (joined ∷ [])
  one_total = omega arith

  range_total : range.whole ≡ total_bytes (range ∷ [])
  range_total = omega arith

  same_bytes : (byte : ℕ) → count_by (in_range byte) (lows ++ (range ∷ highs)) ≡ count_by (in_range byte) (joined ∷ [])
  same_bytes byte =
      count_consecutive byte joined.addr (lows ++ (range ∷ highs)) joining.row
      ∙ ap (λ n. cond (is_within joined.addr n byte) 1 0) (joining.total ∙ one_total)
      ∙ sym (count_consecutive byte joined.addr (joined ∷ []) (refl, tt))

  same_list_bytes : (l p byte : ℕ) → count_by (in_range_of l p byte) (lows ++ (range ∷ highs)) ≡ count_by (in_range_of l p byte) (joined ∷ [])
  same_list_bytes l p byte =
      count_of_list joined.list joined.page l p byte (lows ++ (range ∷ highs)) joining.of_list
      ∙ ap (λ (n : ℕ). cond (eqb joined.list l && eqb joined.page p) n 0) (same_bytes byte)
      ∙ sym (count_of_list joined.list joined.page l p byte (joined ∷ []) ((refl, refl), tt))

  range_bytes : (byte : ℕ) → count_by (in_range byte) (range ∷ []) ≡ cond (is_within range.addr range.whole byte) 1 0
  range_bytes byte = count_consecutive byte range.addr (range ∷ []) (refl, tt) ∙ ap (λ n. cond (is_within range.addr n byte) 1 0) (sym range_total)

  range_list_bytes : (l p byte : ℕ) → count_by (in_range_of l p byte) (range ∷ []) ≡ cond (eqb range.list l && eqb range.page p) (cond (is_within range.addr range.whole byte) 1 0) 0
  range_list_bytes l p byte = count_of_list range.list range.page l p byte (range ∷ []) ((refl, refl), tt) ∙ ap (λ (n : ℕ). cond (eqb range.list l && eqb range.page p) n 0) (range_bytes byte)

  once : (byte : ℕ) → count_by (in_range byte) (before ++ (joined ∷ after)) ≡ count_by (in_segment byte) more
  once byte = omega (arith, news (in_range byte), parts (in_range byte), covered (in_range byte), same_bytes byte, range_bytes byte, joining.gain byte, joining.tiling.once byte)

  -- a byte of the run was in no element
  single_by : (byte : ℕ) (b : Bool) → is_within range.addr range.whole byte ≡ b → count_by (in_segment byte) more ≤ 1
  single_by byte true inside =
      let tests = and_parts _ _ inside in
      let from : range.addr ≤ byte = Rattle.std.proofs.lemmas.Bool.leb-true range.addr byte tests.0 in
      let to : byte < range.addr + range.whole = ltb-true byte (range.addr + range.whole) tests.1 in
      let weight : cond {A = ℕ} (is_within range.addr range.whole byte) 1 0 ≡ 1 = rw inside refl in
      omega (arith, joining.gain byte, joining.fresh byte from to, weight)
  single_by byte false outside =
      let weight : cond {A = ℕ} (is_within range.addr range.whole byte) 1 0 ≡ 0 = rw outside refl in
      omega (arith, joining.gain byte, weight, joining.tiling.once byte, joining.tiling.single byte)

  pub joined_tiling : IsTiling more (insertions + 1) (before ++ (joined ∷ after))
  joined_tiling = record {
    rising = rising-append 0 before (joined ∷ after) (rising-front 0 before (lows ++ (highs ++ after)) joining.tiling.rising) (joining.from, joining.to);
    once = once;
    single = λ byte. omega (arith, once byte, single_by byte (is_within range.addr range.whole byte) refl);
    one_list = λ l p byte. omega (arith, news (in_range_of l p byte), parts (in_range_of l p byte), covered (in_range_of l p byte), same_list_bytes l p byte, range_list_bytes l p byte, joining.gain_of l p byte, joining.tiling.one_list l p byte);
    elements = AllByRecursion-append (IsElement (insertions + 1)) before (joined ∷ after)
        (later_element insertions (insertions + 1) before (omega arith) (AllByRecursion-front (IsElement insertions) before (lows ++ (highs ++ after)) joining.tiling.elements))
        (joining.element, later_element insertions (insertions + 1) after (omega arith) (AllByRecursion-back (IsElement insertions) highs after (AllByRecursion-back (IsElement insertions) lows (highs ++ after) (AllByRecursion-back (IsElement insertions) before (lows ++ (highs ++ after)) joining.tiling.elements))));
    stamps = λ stamp. stamps_at stamp (cases_lt insertions stamp);
    apart = joining.apart;
  }
    where
      new_stamp : (stamp : ℕ) → count_by (has_stamp stamp) (joined ∷ []) ≡ cond {A = ℕ} (eqb (insertions + 1) stamp) 1 0
      new_stamp stamp = count_by-cons (has_stamp stamp) joined [] ∙ omega (arith, joining.stamp stamp)

      stamps_at : (stamp : ℕ) → (insertions < stamp) ⊎ (stamp ≤ insertions) → count_by (has_stamp stamp) (before ++ (joined ∷ after)) ≤ 1
      stamps_at stamp (inl later) =
          let most : cond {A = ℕ} (eqb (insertions + 1) stamp) 1 0 ≤ 1 = grind (arith, nat_tests) in
          omega (
            arith,
            news (has_stamp stamp),
            new_stamp stamp,
            most,
            no_later_stamp insertions stamp before later (AllByRecursion-front (IsElement insertions) before (lows ++ (highs ++ after)) joining.tiling.elements),
            no_later_stamp insertions stamp after later (AllByRecursion-back (IsElement insertions) highs after (AllByRecursion-back (IsElement insertions) lows (highs ++ after) (AllByRecursion-back (IsElement insertions) before (lows ++ (highs ++ after)) joining.tiling.elements))),
          )
      stamps_at stamp (inr old) =
          let none : cond {A = ℕ} (eqb (insertions + 1) stamp) 1 0 ≡ 0 = grind (arith, nat_tests) in
          omega (arith, news (has_stamp stamp), parts (has_stamp stamp), new_stamp stamp, none, joining.tiling.stamps stamp)
