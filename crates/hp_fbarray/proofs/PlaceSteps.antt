-- A search for the next used or clear place, word by word.
use Rattle.std.proofs.Common.{not, ◌≡◌, ℕ, ◌+◌, ◌-◌, ◌/◌, ◌%◌, ◌<◌, ◌≤◌, min, Bool, List, get_or, ap, ◌∙◌, arith, inl, inr}
use Rattle.std.proofs.lemmas.Bool.{cases_lt}
use Rattle.hp_fbarray.specs.Searches.{HasPlace, IsNextPlace}
use Rattle.hp_fbarray.specs.Words.{is_bit, is_place, places_of, IsNextBit, IsNextIn}
use Rattle.hp_fbarray.proofs.PlaceLemmas.{get_or-places_of}

-- no place from `from` up to `place` is as was asked for
pub record SeeksPlace (words : List ℕ) (from place : ℕ) (used : Bool) : Type 0 where
  pub not_before : from ≤ place
  pub passed : (earlier : ℕ) → from ≤ earlier → earlier < place → is_place words earlier ≡ not used

-- a place of the same word is a bit of it
is_place-in_word : (words : List ℕ) (place k : ℕ) → k / 64 ≡ place / 64
    → is_place words k ≡ is_bit (get_or words (place / 64) 0) (k % 64)
is_place-in_word words place k same = ap (λ w. is_bit (get_or words w 0) (k % 64)) same

-- as far as the word's next bit no place is
pub SeeksPlace-word : (words : List ℕ) (from place bit : ℕ) (used : Bool)
    → SeeksPlace words from place used
    → IsNextBit (get_or words (place / 64) 0) (place % 64) used bit
    → SeeksPlace words from (place - place % 64 + bit) used
SeeksPlace-word words from place bit used seeks next = record {
  not_before = omega (arith, seeks.not_before, next.not_before);
  passed = λ earlier after before. elim (cases_lt earlier place) [
    | inl old ↦ seeks.passed earlier after old
    | inr new ↦
        let same : earlier / 64 ≡ place / 64 = omega (arith, next.within) in
        is_place-in_word words place earlier same
        ∙ next.passed (earlier % 64) (omega arith) (omega arith)
  ];
}

-- the word's next bit is the next place, if it is below the end
pub IsNextIn-found : (words : List ℕ) (from end place bit : ℕ) (used : Bool)
    → SeeksPlace words from place used → from ≤ end → bit < 64
    → IsNextBit (get_or words (place / 64) 0) (place % 64) used bit
    → IsNextIn words from end used (min (place - place % 64 + bit) end)
IsNextIn-found words from end place bit used seeks within below next =
    let later : SeeksPlace words from (place - place % 64 + bit) used
    = SeeksPlace-word words from place bit used seeks next in
    record {
      not_before = omega (arith, later.not_before);
      within = omega arith;
      passed = λ earlier after before. later.passed earlier after (omega arith);
      here = λ before.
          let is : min (place - place % 64 + bit) end ≡ place - place % 64 + bit = omega arith in
          let same : (place - place % 64 + bit) / 64 ≡ place / 64 = omega arith in
          let its_bit : (place - place % 64 + bit) % 64 ≡ bit = omega arith in
          rw is
          (is_place-in_word words place (place - place % 64 + bit) same
          ∙ ap (λ b. is_bit (get_or words (place / 64) 0) b) its_bit ∙ next.here below);
    }

-- at the end there is none
pub IsNextIn-none : (words : List ℕ) (from end place : ℕ) (used : Bool)
    → SeeksPlace words from place used → from ≤ end → end ≤ place → IsNextIn words from end used end
IsNextIn-none words from end place used seeks within ended = record {
  not_before = within;
  within = omega arith;
  passed = λ earlier after before. seeks.passed earlier after (omega arith);
  here = λ before. absurd (omega arith);
}

-- a place of the words is one of the list
HasPlace-in : (words : List ℕ) (len place : ℕ) (used : Bool) → place < len
    → is_place words place ≡ used → HasPlace (places_of words len) place used
HasPlace-in words len place used inside is = get_or-places_of words len place (not used) inside ∙ is

-- the next place of the words is that of the list
pub IsNextPlace-in : (words : List ℕ) (len from end place : ℕ) (used : Bool) → end ≤ len
    → IsNextIn words from end used place → IsNextPlace (places_of words len) from end used place
IsNextPlace-in words len from end place used inside next = record {
  not_before = next.not_before;
  within = next.within;
  passed = λ earlier after before.
      HasPlace-in words len earlier (not used) (omega (arith, next.within)) (next.passed earlier after before);
  here = λ before. HasPlace-in words len place used (omega arith) (next.here before);
}
