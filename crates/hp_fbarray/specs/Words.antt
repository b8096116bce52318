-- Places kept 64 to a word. No public clause cites this module.
use Rattle.std.specs.Prelude.{◌≡◌, ◌≢◌, ◌==◌, ℕ, ◌-◌, ◌*◌, ◌/◌, ◌%◌, ◌<◌, ◌≤◌, Bool, false, not, if◌then◌else◌, List, length, map, slice_index}
use Rattle.std.specs.List.{range_with_len}
use Rattle.std.specs.Int.{bit_at}

-- the bit of a word is 1
abbrev pub is_bit : ℕ → ℕ → Bool
is_bit word bit = bit_at word bit == 1

-- the other word differs at that bit alone, which is 1 where it says so
pub record SetsBit (word other bit : ℕ) (used : Bool) : Type 0 where
  pub same : is_bit other bit ≡ used
  pub others : (k : ℕ) → k < 64 → k ≢ bit → is_bit other k ≡ is_bit word k

-- the other word has a 1 where the word has one, or where it has none
pub record HasOnesAt (word : ℕ) (used : Bool) (other : ℕ) : Type 0 where
  pub at : (k : ℕ) → k < 64 → bit_at other k ≡ (if used then bit_at word k else 1 - bit_at word k)

-- the first bit from `bit` on that is 1, or that is 0, and 64 where there is none
pub record IsNextBit (word bit : ℕ) (used : Bool) (next : ℕ) : Type 0 where
  pub not_before : bit ≤ next
  pub within : next ≤ 64
  pub passed : (k : ℕ) → bit ≤ k → k < next → is_bit word k ≡ not used
  pub here : next < 64 → is_bit word next ≡ used

-- place i is bit i % 64 of word i / 64
abbrev pub is_place : List ℕ → ℕ → Bool
is_place words i = is_bit (slice_index words (i / 64)) (i % 64)

-- the first place from `from` up to `end` that is used, or that is clear, and `end` where there is none
pub record IsNextIn (words : List ℕ) (from end : ℕ) (used : Bool) (place : ℕ) : Type 0 where
  pub not_before : from ≤ place
  pub within : place ≤ end
  pub passed : (earlier : ℕ) → from ≤ earlier → earlier < place → is_place words earlier ≡ not used
  pub here : place < end → is_place words place ≡ used

-- the first n places
abbrev pub places_of : List ℕ → ℕ → List Bool
places_of words n = map (is_place words) (range_with_len 0 n)

-- the words have n places, and the bits after these are 0
pub record HavePlaces (words : List ℕ) (n : ℕ) : Type 0 where
  pub enough : n ≤ 64 * length words
  pub few : length words ≤ 256
  pub spare : (i : ℕ) → n ≤ i → is_place words i ≡ false
