-- Elements in the place of others in a row: the tiling with them.
use Rattle.std.proofs.Common.{◌≡◌, ℕ, ◌+◌, ◌<◌, ◌≤◌, ◌⊎◌, Bool, List, ◌++◌, inl, inr, arith, count_by}
use Rattle.std.proofs.lemmas.Bool.{cases_lt}
use Rattle.std.specs.List.{AllByRecursion}
use Rattle.hp_base.specs.declared.span.Span.{Span}
use Rattle.hp_heap.specs.PlainHeap.{Extent}
use Rattle.hp_heap.specs.Tiling.{IsTiling, IsElement, IsRisingFrom, IsApart, in_range, in_segment, in_range_of, in_segment_of, has_stamp}
use Rattle.hp_heap.proofs.RangeLemmas.{AllByRecursion-append, AllByRecursion-front, AllByRecursion-back, last_end, rising-append, rising-front}
use Rattle.hp_heap.proofs.HistoryFacts.Counting.{count_by-between}
use Rattle.hp_heap.proofs.AllocFacts.AllocLaw.{no_later_stamp, later_element}

-- some elements come in the place of others, and the segments are others
pub record IsWindow (segments more : List Extent) (insertions later : ℕ) (before olds news after : List Span) : Type 0 where
  pub tiling : IsTiling segments insertions (before ++ (olds ++ after))
  pub more_insertions : insertions ≤ later
  -- they lie between the others
  pub front : IsRisingFrom (last_end 0 before) news
  pub back : IsRisingFrom (last_end (last_end 0 before) news) after
  -- the segments gain and lose the bytes that they do
  pub bytes : (byte : ℕ) → count_by (in_range byte) news + count_by (in_segment byte) segments ≡ count_by (in_range byte) olds + count_by (in_segment byte) more
  pub lists : (l p byte : ℕ) → count_by (in_range_of l p byte) news + count_by (in_segment_of l p byte) segments
      ≡ count_by (in_range_of l p byte) olds + count_by (in_segment_of l p byte) more
  pub single : (byte : ℕ) → count_by (in_segment byte) more ≤ 1
  -- each is one by itself, with a stamp that differs
  pub elements : AllByRecursion (IsElement later) news
  pub late_stamps : (stamp : ℕ) → insertions < stamp → count_by (has_stamp stamp) news ≤ 1
  pub old_stamps : (stamp : ℕ) → stamp ≤ insertions → count_by (has_stamp stamp) news ≤ count_by (has_stamp stamp) olds
  pub apart : IsApart (before ++ (news ++ after))

module _ (segments more : List Extent) (insertions later : ℕ) (before olds news after : List Span) (window : IsWindow segments more insertions later before olds news after) where
  was : (p : Span → Bool) → count_by p (before ++ (olds ++ after)) ≡ count_by p before + (count_by p olds + count_by p after)
  was p = count_by-between p before olds after

  is_now : (p : Span → Bool) → count_by p (before ++ (news ++ after)) ≡ count_by p before + (count_by p news + count_by p after)
  is_now p = count_by-between p before news after

  once : (byte : ℕ) → count_by (in_range byte) (before ++ (news ++ after)) ≡ count_by (in_segment byte) more
  once byte = omega (arith, was (in_range byte), is_now (in_range byte), window.bytes byte, window.tiling.once byte)

  first_elements : AllByRecursion (IsElement insertions) before
  first_elements = AllByRecursion-front (IsElement insertions) before (olds ++ after) window.tiling.elements

  last_elements : AllByRecursion (IsElement insertions) after
  last_elements = AllByRecursion-back (IsElement insertions) olds after (AllByRecursion-back (IsElement insertions) before (olds ++ after) window.tiling.elements)

  stamps_at : (stamp : ℕ) → (insertions < stamp) ⊎ (stamp ≤ insertions) → count_by (has_stamp stamp) (before ++ (news ++ after)) ≤ 1
  stamps_at stamp (inl late) =
      omega (arith, is_now (has_stamp stamp), window.late_stamps stamp late, no_later_stamp insertions stamp before late first_elements, no_later_stamp insertions stamp after late last_elements)
  stamps_at stamp (inr old) = omega (arith, is_now (has_stamp stamp), was (has_stamp stamp), window.old_stamps stamp old, window.tiling.stamps stamp)

  pub window_tiling : IsTiling more later (before ++ (news ++ after))
  window_tiling = record {
    rising = rising-append 0 before (news ++ after) (rising-front 0 before (olds ++ after) window.tiling.rising)
        (rising-append (last_end 0 before) news after window.front window.back);
    once = once;
    single = λ byte. omega (arith, once byte, window.single byte);
    one_list = λ l p byte. omega (arith, was (in_range_of l p byte), is_now (in_range_of l p byte), window.lists l p byte, window.tiling.one_list l p byte);
    elements = AllByRecursion-append (IsElement later) before (news ++ after) (later_element insertions later before window.more_insertions first_elements)
        (AllByRecursion-append (IsElement later) news after window.elements (later_element insertions later after window.more_insertions last_elements));
    stamps = λ stamp. stamps_at stamp (cases_lt insertions stamp);
    apart = window.apart;
  }
