-- The pieces that a request leaves of a free element.
use Rattle.std.proofs.Common.{◌≡◌, ℕ, ◌+◌, ◌-◌, ◌%◌, ◌<◌, ◌≤◌, Bool, true, false, List, [], ◌∷◌, ◌++◌, refl, sym, ◌∙◌, arith, count_by}
use Rattle.std.proofs.lemmas.Bool.{leb-true, leb-false, ltb-true}
use Rattle.std.proofs.lemmas.Bool.Decides.{nat_tests}
use Rattle.std.specs.List.{AllByRecursion}
use Rattle.hp_base.specs.declared.span.Span.{Span}
use Rattle.hp_base.specs.declared.tag.Tag.{Tag}
use Rattle.hp_heap.specs.PlainHeap.{end_of, is_free}
use Rattle.hp_heap.specs.Tiling.{IsElement, IsApart, IsApartFrom, joins, has_stamp}
use Rattle.hp_heap.specs.Placing.{pieces_with, has_rest_before, has_rest_behind, rest_before, count_if}
use Rattle.hp_heap.specs.Statistics.{total_bytes}
use Rattle.hp_heap.proofs.RangeLemmas.{last_end}
use Rattle.hp_heap.proofs.HistoryFacts.Counting.{IsConsecutive, IsOfList}

-- what is known of a place in a free element
pub record IsPlacing (range : Span) (address size : ℕ) : Type 0 where
  pub free : is_free range ≡ true
  pub line : range.addr % 64 ≡ 0
  pub whole : range.whole % 64 ≡ 0
  pub at_line : address % 64 ≡ 0
  pub lines : size % 64 ≡ 0
  pub some : 0 < size
  pub before : range.addr + 128 ≤ address
  pub behind : address + size ≤ end_of range

-- what is known of the two rests
pub record IsTested (range : Span) (address size : ℕ) (F B : Bool) : Type 0 where
  pub before : has_rest_before range address ≡ F
  pub behind : has_rest_behind range address size ≡ B

module _ (r : Span) (d size insertions : ℕ) (tag : Tag) (placing : IsPlacing r d size) where
  pub pieces_row : (F B : Bool) → IsTested r d size F B → IsConsecutive r.addr (pieces_with F B r d size tag insertions)
  pieces_row true true tested = (refl, (let least : 192 ≤ d - 128 - r.addr = leb-true 192 (d - 128 - r.addr) tested.before in omega arith, (omega (arith, placing.before, placing.behind), tt)))
  pieces_row true false tested = (refl, (let least : 192 ≤ d - 128 - r.addr = leb-true 192 (d - 128 - r.addr) tested.before in omega arith, tt))
  pieces_row false true tested = (refl, (omega (arith, placing.before, placing.behind), tt))
  pieces_row false false tested = (refl, tt)

  pub pieces_total : (F B : Bool) → IsTested r d size F B → total_bytes (pieces_with F B r d size tag insertions) ≡ r.whole
  pieces_total true true tested = omega (arith, placing.before, placing.behind)
  pieces_total true false tested = omega (arith, placing.before, placing.behind)
  pieces_total false true tested = omega (arith, placing.before, placing.behind)
  pieces_total false false tested = omega (arith, placing.before, placing.behind)

  pub pieces_end : (F B : Bool) (from : ℕ) → IsTested r d size F B → last_end from (pieces_with F B r d size tag insertions) ≡ end_of r
  pieces_end true true from tested = omega (arith, placing.before, placing.behind)
  pieces_end true false from tested = omega (arith, placing.before, placing.behind)
  pieces_end false true from tested = omega (arith, placing.before, placing.behind)
  pieces_end false false from tested = omega (arith, placing.before, placing.behind)

  pub pieces_list : (F B : Bool) → AllByRecursion (IsOfList r.list r.page) (pieces_with F B r d size tag insertions)
  pieces_list true true = ((refl, refl), ((refl, refl), ((refl, refl), tt)))
  pieces_list true false = ((refl, refl), ((refl, refl), tt))
  pieces_list false true = ((refl, refl), ((refl, refl), tt))
  pieces_list false false = ((refl, refl), tt)

  -- the number of insertions afterwards
  abbrev inserted : Bool → Bool → ℕ
  inserted F B = insertions + count_if B + count_if F

  front_element : (F B : Bool) → 192 ≤ d - 128 - r.addr → (stamp whole : ℕ) → stamp ≤ inserted F B → whole ≡ d - 128 - r.addr → (whole % 64 ≡ 0) × (192 ≤ whole)
  front_element F B least stamp whole within is = (omega (arith, placing.line, placing.at_line, placing.before), omega arith)

  pub pieces_elements : (F B : Bool) → IsTested r d size F B → AllByRecursion (IsElement (inserted F B)) (pieces_with F B r d size tag insertions)
  pieces_elements true true tested =
      let least : 192 ≤ d - 128 - r.addr = leb-true 192 (d - 128 - r.addr) tested.before in
      let more : 192 < end_of r - (d + size) = ltb-true 192 (end_of r - (d + size)) tested.behind in (
        record { line = placing.line; size = record { lines = omega (arith, placing.line, placing.at_line); least = least }; busy = tt; stamp = omega arith },
        (
          record { line = omega (arith, placing.at_line, placing.before); size = record { lines = omega (arith, placing.lines, placing.before); least = omega (arith, placing.some, placing.lines, placing.before) }; busy = record { pad_lines = omega (arith, placing.before); pad_small = omega arith; size_lines = placing.lines; size_some = placing.some; room = omega (arith, placing.before) }; stamp = omega arith },
          (record { line = omega (arith, placing.at_line, placing.lines); size = record { lines = omega (arith, placing.line, placing.whole, placing.at_line, placing.lines); least = omega arith }; busy = tt; stamp = omega arith }, tt),
        ),
      )
  pieces_elements true false tested =
      let least : 192 ≤ d - 128 - r.addr = leb-true 192 (d - 128 - r.addr) tested.before in (
        record { line = placing.line; size = record { lines = omega (arith, placing.line, placing.at_line); least = least }; busy = tt; stamp = omega arith },
        (
          record { line = omega (arith, placing.at_line, placing.before); size = record { lines = omega (arith, placing.line, placing.whole, placing.at_line, placing.before, placing.behind); least = omega (arith, placing.some, placing.lines, placing.before, placing.behind) }; busy = record { pad_lines = omega (arith, placing.before); pad_small = omega arith; size_lines = placing.lines; size_some = placing.some; room = omega (arith, placing.before, placing.behind) }; stamp = omega arith },
          tt,
        ),
      )
  pieces_elements false true tested =
      let small : d - 128 - r.addr < 192 = leb-false 192 (d - 128 - r.addr) tested.before in
      let more : 192 < end_of r - (d + size) = ltb-true 192 (end_of r - (d + size)) tested.behind in (
        record { line = placing.line; size = record { lines = omega (arith, placing.line, placing.lines, placing.at_line, placing.before); least = omega (arith, placing.some, placing.lines, placing.before) }; busy = record { pad_lines = omega (arith, placing.line, placing.at_line, placing.before); pad_small = small; size_lines = placing.lines; size_some = placing.some; room = omega (arith, placing.before) }; stamp = omega arith },
        (record { line = omega (arith, placing.at_line, placing.lines); size = record { lines = omega (arith, placing.line, placing.whole, placing.at_line, placing.lines); least = omega arith }; busy = tt; stamp = omega arith }, tt),
      )
  pieces_elements false false tested =
      let small : d - 128 - r.addr < 192 = leb-false 192 (d - 128 - r.addr) tested.before in
      (record { line = placing.line; size = record { lines = omega (arith, placing.whole); least = omega (arith, placing.some, placing.lines, placing.before, placing.behind) }; busy = record { pad_lines = omega (arith, placing.line, placing.at_line, placing.before); pad_small = small; size_lines = placing.lines; size_some = placing.some; room = omega (arith, placing.before, placing.behind) }; stamp = omega arith }, tt)

  -- their stamps differ, and are later than those before
  pub pieces_stamps : (F B : Bool) (stamp : ℕ) → count_by (has_stamp stamp) (pieces_with F B r d size tag insertions) ≤ 1
  pieces_stamps true true stamp = grind (arith, nat_tests)
  pieces_stamps true false stamp = grind (arith, nat_tests)
  pieces_stamps false true stamp = grind (arith, nat_tests)
  pieces_stamps false false stamp = grind (arith, nat_tests)

  pub pieces_later : (F B : Bool) (stamp : ℕ) → stamp ≤ insertions → count_by (has_stamp stamp) (pieces_with F B r d size tag insertions) ≡ 0
  pieces_later true true stamp old = grind (arith, nat_tests)
  pieces_later true false stamp old = grind (arith, nat_tests)
  pieces_later false true stamp old = grind (arith, nat_tests)
  pieces_later false false stamp old = grind (arith, nat_tests)

-- elements that begin and end alike touch alike
pub joins_second : (p x y : Span) → is_free x ≡ is_free y → x.list ≡ y.list → x.addr ≡ y.addr → joins p x ≡ joins p y
joins_second p x y free list addr = cc

pub joins_first : (x y q : Span) → is_free x ≡ is_free y → x.list ≡ y.list → end_of x ≡ end_of y → joins x q ≡ joins y q
joins_first x y q free list end = cc

pub apart_from_like : (x y : Span) (ys : List Span) → is_free x ≡ is_free y → x.list ≡ y.list → end_of x ≡ end_of y → IsApartFrom x ys → IsApartFrom y ys
apart_from_like x y [] free list end apart = tt
apart_from_like x y (z ∷ zs) free list end apart = (sym (joins_first x y z free list end) ∙ apart.0, apart.1)

-- a busy element is apart from every other
pub apart_from_busy : (x y : Span) (ys : List Span) → is_free y ≡ false → IsApartFrom x ys → IsApartFrom y ys
apart_from_busy x y [] busy apart = tt
apart_from_busy x y (z ∷ zs) busy apart = (rw busy refl, apart.1)

-- what keeps elements apart behind others
pub apart_middle_from : (olds news : List Span) (x : Span) (before : List Span) → ((p : Span) → IsApartFrom p olds → IsApartFrom p news) → IsApartFrom x (before ++ olds) → IsApartFrom x (before ++ news)
apart_middle_from olds news x [] keeps apart = keeps x apart
apart_middle_from olds news x (y ∷ before) keeps apart = (apart.0, apart_middle_from olds news y before keeps apart.1)

pub apart_middle : (olds news before : List Span) → (IsApart olds → IsApart news) → ((p : Span) → IsApartFrom p olds → IsApartFrom p news) → IsApart (before ++ olds) → IsApart (before ++ news)
apart_middle olds news [] first keeps apart = first apart
apart_middle olds news (x ∷ before) first keeps apart = apart_middle_from olds news x before keeps apart

-- the pieces of a free element are apart as it was
module _ (r : Span) (d size insertions : ℕ) (tag : Tag) (placing : IsPlacing r d size) where
  pieces_apart : (F B : Bool) (after : List Span) → IsApartFrom r after → IsApart (pieces_with F B r d size tag insertions ++ after)
  pieces_apart true true after apart = (refl, (refl, apart_from_like r _ after placing.free refl (omega (arith, placing.behind)) apart))
  pieces_apart true false after apart = (refl, apart_from_busy r _ after refl apart)
  pieces_apart false true after apart = (refl, apart_from_like r _ after placing.free refl (omega (arith, placing.behind)) apart)
  pieces_apart false false after apart = apart_from_busy r _ after refl apart

  pieces_touch : (F B : Bool) (after : List Span) (p : Span) → joins p r ≡ false → IsApartFrom r after → IsApartFrom p (pieces_with F B r d size tag insertions ++ after)
  pieces_touch true true after p touch apart = (sym (joins_second p r (rest_before r d (insertions + count_if true + 1)) placing.free refl refl) ∙ touch, pieces_apart true true after apart)
  pieces_touch true false after p touch apart = (sym (joins_second p r (rest_before r d (insertions + count_if false + 1)) placing.free refl refl) ∙ touch, pieces_apart true false after apart)
  pieces_touch false true after p touch apart = (grind arith, pieces_apart false true after apart)
  pieces_touch false false after p touch apart = (grind arith, pieces_apart false false after apart)

  pub pieces_kept_apart : (F B : Bool) (before after : List Span) → IsApart (before ++ (r ∷ after)) → IsApart (before ++ (pieces_with F B r d size tag insertions ++ after))
  pieces_kept_apart F B before after =
      apart_middle (r ∷ after) (pieces_with F B r d size tag insertions ++ after) before (λ apart. pieces_apart F B after apart) (λ p apart. pieces_touch F B after p apart.0 apart.1)
