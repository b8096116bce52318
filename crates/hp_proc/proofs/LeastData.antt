-- The lowest address of data in a chunk, and the lowest participant that has it attached, are those that stand against a call on it.
use Rattle.std.proofs.Common.{◌≡◌, ◌∙◌, ℕ, zero, suc, min, Bool, true, false, ◌+◌, ◌<◌, ◌≤◌, ◌⊎◌, List, [], ◌∷◌, map, Option, Some, None, inl, inr, refl, ap, subst, arith}
use Rattle.std.specs.Prelude.{Contains, filter, find, fold}
use Rattle.std.specs.List.{range_with_len, reduce}
use Rattle.std.proofs.lemmas.Bool.{cases_eq, cases_lt}
use Rattle.hp_base.specs.Flags.{has_bit}
use Rattle.hp_base.specs.declared.chunk.Chunk.{Chunk}
use Rattle.hp_base.specs.declared.span.Span.{Span}
use Rattle.hp_external.proofs.Marks.{no_mark}
use Rattle.hp_external.specs.Elements.{NonePasses, is_busy_in}
use Rattle.hp_heap.proofs.AllocFacts.ChoiceLaw.{AllByRecursion-contains, Contains-cases, Contains-filter, Contains-here, Contains-none, Contains-there}
use Rattle.hp_heap.proofs.Members.{Contains-image, Contains-imaged, Contains-kept}
use Rattle.hp_heap.specs.PlainHeap.{PlainHeap, data_address}
use Rattle.hp_proc.specs.ExternalLines.{lowest_data, lowest_member}
use Rattle.hp_proc.specs.VerbLaws.{DataAgree, MembersAgree}

-- the least of numbers is no greater than any of them, and is one of them
fold_least : (xs : List ℕ) (start x : ℕ) → Contains (start ∷ xs) x → fold min start xs ≤ x
fold_least [] start x among =
    elim (Contains-cases start x [] among) [
      | inl same ↦ omega (arith, same)
      | inr more ↦ absurd (Contains-none x more)
    ]
fold_least (next ∷ xs) start x among =
    let least = fold_least xs (min start next) in
    let low = least (min start next) (Contains-here (min start next) xs) in
    elim (Contains-cases start x (next ∷ xs) among) [
      | inl same ↦ omega (arith, low, same)
      | inr more ↦ elim (Contains-cases next x xs more) [
        | inl same ↦ omega (arith, low, same)
        | inr rest ↦ least x (Contains-there (min start next) x xs rest)
      ]
    ]

min_is : (m n : ℕ) → (m ≡ min m n) ⊎ (n ≡ min m n)
min_is m n = elim (cases_lt m n) [ inl below ↦ inl (omega (arith, below)) | inr above ↦ inr (omega (arith, above)) ]

fold_among : (xs : List ℕ) (start : ℕ) → Contains (start ∷ xs) (fold min start xs)
fold_among [] start = Contains-here start []
fold_among (next ∷ xs) start =
    elim (Contains-cases (min start next) (fold min (min start next) xs) xs (fold_among xs (min start next))) [
      | inr rest ↦ Contains-there start _ (next ∷ xs) (Contains-there next _ xs rest)
      | inl same ↦ by_least (fold min (min start next) xs) same
    ]
  where
    by_least : (least : ℕ) → min start next ≡ least → Contains (start ∷ (next ∷ xs)) least
    by_least least is =
        elim (min_is start next) [
          | inl first ↦ subst (Contains (start ∷ (next ∷ xs))) (first ∙ is) (Contains-here start (next ∷ xs))
          | inr second ↦
              subst (Contains (start ∷ (next ∷ xs))) (second ∙ is) (Contains-there start next (next ∷ xs) (Contains-here next xs))
        ]

-- what is among numbers, and not above any of them, is the least
pub least_is : (xs : List ℕ) (least : ℕ) → Contains xs least → ((x : ℕ) → Contains xs x → least ≤ x) → reduce min xs ≡ Some least
least_is [] least among below = absurd (Contains-none least among)
least_is (x ∷ xs) least among below =
    let above = fold_least xs x least among in
    let under = below (fold min x xs) (fold_among xs x) in
    let same : fold min x xs ≡ least = omega (arith, above, under) in
    ap Some same

-- where no element passes the test there is no address
none_kept : (test : Span → Bool) (ranges : List Span) → NonePasses test ranges → filter test ranges ≡ []
none_kept test [] none = refl
none_kept test (range ∷ ranges) none = rw none.0 (none_kept test ranges none.1)

-- an element that is busy in a chunk has no lower data
abbrev IsNotBelow : Option ℕ → Chunk → ℕ → Span → Type 0
IsNotBelow by chunk addr other = is_busy_in by chunk.list other ≡ true → addr ≤ data_address other

pub data_agree : (by : Option ℕ) (chunk : Chunk) (heap : PlainHeap) → DataAgree by chunk heap
unfolding lowest_data
data_agree by chunk heap = record {
  lowest = λ addr is.
      least_is (map data_address (filter (is_busy_in by chunk.list) heap.ranges)) addr
      (subst (Contains (map data_address (filter (is_busy_in by chunk.list) heap.ranges))) is.data_is
      (Contains-image data_address (filter (is_busy_in by chunk.list) heap.ranges) is.range
      (Contains-kept (is_busy_in by chunk.list) heap.ranges is.range is.passes is.there)))
      (λ x among.
      let (range, there, its) = Contains-imaged data_address (filter (is_busy_in by chunk.list) heap.ranges) x among in
      let kept = Contains-filter (is_busy_in by chunk.list) heap.ranges range there in
      subst (λ (address : ℕ). addr ≤ address) its (AllByRecursion-contains (IsNotBelow by chunk addr) heap.ranges range is.lowest kept.1 kept.0));
  none = λ none. ap (λ (ranges : List Span). reduce min (map data_address ranges)) (none_kept (is_busy_in by chunk.list) heap.ranges none);
}

-- the first number that passes a test, among numbers that follow one another
pub first_in_range : (test : ℕ → Bool) (n from place : ℕ) → from ≤ place → place < from + n → test place ≡ true
    → ((other : ℕ) → from ≤ other → other < place → test other ≡ false) → find test (range_with_len from n) ≡ Some place
first_in_range test zero from place low high passes before = absurd (omega (arith, low, high))
first_in_range test (suc n) from place low high passes before =
    elim (cases_eq from place) [
      | inl same ↦ rw same (rw passes refl)
      | inr other ↦
          rw (before from (omega arith) (omega (arith, low, other)))
          (first_in_range test n (from + 1) place (omega (arith, low, other)) (omega (arith, high)) passes
          (λ later above under. before later (omega (arith, above)) under))
    ]

pub none_in_range : (test : ℕ → Bool) (n from : ℕ) → ((place : ℕ) → from ≤ place → place < from + n → test place ≡ false)
    → find test (range_with_len from n) ≡ None
none_in_range test zero from none = refl
none_in_range test (suc n) from none =
    rw (none from (omega arith) (omega arith))
    (none_in_range test n (from + 1) (λ place low high. none place (omega (arith, low)) (omega (arith, high))))

pub members_agree : (chunk : Chunk) → MembersAgree chunk
unfolding lowest_member
members_agree chunk = record {
  lowest = λ participant below is.
      first_in_range (has_bit chunk.attached) 16 0 participant (omega arith) (omega (arith, below)) is.marked
      (λ other low under. is.lowest other under);
  none = λ none.
      none_in_range (has_bit chunk.attached) 16 0
      (λ place low high. ap (λ (marks : ℕ). has_bit marks place) none ∙ no_mark place);
}
