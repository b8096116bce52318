-- The elements that a participant's lines left, by rising line.
use Rattle.std.proofs.Common.{◌≡◌, ◌≢◌, ℕ, ◌<◌, ◌≤◌, ◌==◌, Bool, false, List, [], ◌∷◌, length, get_or, find, Option, Some, None, IfSome, Bor, ap, sym, subst, ◌∙◌, inl, inr, arith}
use Rattle.std.specs.List.{All}
use Rattle.std.specs.List.Sorted.{IsNonDecreasingBy, IsPartitionPoint}
use Rattle.std.specs.Option.{option_map, option_to_list}
use Rattle.std.proofs.lemmas.Bool.{cases_lt, eq-eqb, ne_eqb}
use Rattle.std.proofs.lemmas.List.{get_or_default}
use Rattle.std.proofs.lemmas.List.Elements.{All-head}
use Rattle.hp_base.specs.declared.limits.TheConstants.{MAX_HEAPS}
use Rattle.hp_proc.proofs.Mapped.{All-found, find_first, find_nowhere}
use Rattle.hp_proc.specs.declared.own_element.OwnElement.{OwnElement}

-- the element that is found lies in a heap
pub found_few : (p : OwnElement → Bool) (elements noted : List OwnElement) (found : Option (Bor OwnElement)) → elements ≡ noted
    → All (λ (element : OwnElement). element.heap < MAX_HEAPS) noted → option_map (λ (element : Bor OwnElement). element.now) found ≡ find p elements
    → IfSome found (λ (element : Bor OwnElement). element.now.heap < MAX_HEAPS)
found_few p elements noted None same few is = tt
found_few p elements noted (Some element) same few is =
    let Few : OwnElement → Type 0 = λ element. element.heap < MAX_HEAPS in
    let all : All Few (element.now ∷ []) =
    subst (λ (found : Option OwnElement). All Few (option_to_list found)) (sym (is ∙ ap (find p) same)) (All-found Few p noted few) in
    All-head Few element.now [] all

-- where a search ends at the first element whose line is not below one
module _ (line : ℕ) (elements : List OwnElement) (place : ℕ) (rising : IsNonDecreasingBy (λ (element : OwnElement). element.line) elements)
    (point : IsPartitionPoint (λ (element : OwnElement). element.line < line) (λ (element : OwnElement). line ≤ element.line) elements place) where
  before_fails : (k : ℕ) (d : OwnElement) → k < place → ((get_or elements k d).line == line) ≡ false
  before_fails k d before =
      ne_eqb (get_or elements k d).line line (λ same. omega (arith, same, point.0 k d (omega arith) before))

  -- the element of that line
  pub line_found : (element : OwnElement) → place < length elements → get_or elements place element ≡ element → element.line ≡ line
      → find (λ (element : OwnElement). element.line == line) elements ≡ Some element
  line_found element within is same =
      find_first (λ (element : OwnElement). element.line == line) elements place element within (λ k before. before_fails k element before)
      (eq-eqb (get_or elements place element).line line (ap (λ (element : OwnElement). element.line) is ∙ same))
      ∙ ap Some is

  -- there is a later one
  pub line_passed : (element : OwnElement) → place < length elements → get_or elements place element ≡ element → element.line ≢ line
      → find (λ (element : OwnElement). element.line == line) elements ≡ None
  line_passed element within is other =
      let later : (d : OwnElement) → line < (get_or elements place d).line = λ d. (
      let here : get_or elements place d ≡ element = get_or_default elements place d element within ∙ is in
      omega (
        arith,
        other,
        ap (λ (element : OwnElement). element.line) here,
        point.1 place d (omega arith) within,
      )) in
      find_nowhere (λ (element : OwnElement). element.line == line) elements
      (λ k d here. elim (cases_lt k place) [
        | inl before ↦ before_fails k d before
        | inr behind ↦ ne_eqb (get_or elements k d).line line (λ same. omega (arith, same, later d, rising place k d behind here))
      ])

  -- all are earlier
  pub line_behind : length elements ≤ place → find (λ (element : OwnElement). element.line == line) elements ≡ None
  line_behind past =
      find_nowhere (λ (element : OwnElement). element.line == line) elements (λ k d here. before_fails k d (omega (arith, here, past)))
