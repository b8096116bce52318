-- Places in words: as many as there are, a place that is written, and new ones.
use Rattle.std.proofs.Common.{◌≡◌, ◌≢◌, ◌==◌, ℕ, ◌*◌, ◌/◌, ◌%◌, ◌<◌, ◌≤◌, Bool, false, List, length, get_or, set, replicate, ap, sym, ◌∙◌, arith, inl, inr}
use Rattle.std.proofs.lemmas.Bool.{cases_lt, cases_eq}
use Rattle.std.proofs.lemmas.List.{get_or-set_same, get_or-set_other, get_or-replicate, get_or_past, length-replicate, length-set, same_lists}
use Rattle.std.proofs.lemmas.List.FromFn.{length-map-range_with_len, get_or-map-range_with_len}
use Rattle.std.proofs.lemmas.Nat.Bits.{bit_at-zero}
use Rattle.hp_fbarray.specs.Words.{is_bit, is_place, places_of, HavePlaces, SetsBit}

pub length-places_of : (words : List ℕ) (n : ℕ) → length (places_of words n) ≡ n
length-places_of words n = length-map-range_with_len (is_place words) 0 n

pub get_or-places_of : (words : List ℕ) (n i : ℕ) (d : Bool) → i < n
    → get_or (places_of words n) i d ≡ is_place words i
get_or-places_of words n i d inside =
    get_or-map-range_with_len (is_place words) 0 n i i d inside (omega arith)

-- the place that is written
is_place-put_same : (words : List ℕ) (i other : ℕ) (used : Bool) → i / 64 < length words
    → SetsBit (get_or words (i / 64) 0) other (i % 64) used
    → is_place (set words (i / 64) other) i ≡ used
is_place-put_same words i other used inside sets =
    ap (λ word. is_bit word (i % 64)) (get_or-set_same words (i / 64) other 0 inside) ∙ sets.same

-- the other places stay
is_place-put_other : (words : List ℕ) (i other k : ℕ) (used : Bool) → i / 64 < length words
    → SetsBit (get_or words (i / 64) 0) other (i % 64) used → k ≢ i
    → is_place (set words (i / 64) other) k ≡ is_place words k
is_place-put_other words i other k used inside sets differs =
    elim (cases_eq (k / 64) (i / 64)) [
      | inl same ↦
          let elsewhere : k % 64 ≢ i % 64 = λ equal. differs (omega arith) in
          let stays : is_bit other (k % 64) ≡ is_bit (get_or words (i / 64) 0) (k % 64)
          = sets.others (k % 64) (omega arith) elsewhere in
          rw same
          (ap (λ word. is_bit word (k % 64)) (get_or-set_same words (i / 64) other 0 inside) ∙ stays)
      | inr another ↦
          ap (λ word. is_bit word (k % 64)) (get_or-set_other words (i / 64) (k / 64) other 0 another)
    ]

-- to write a bit is to write its place
pub places_of-put : (words : List ℕ) (n i other : ℕ) (used : Bool) → HavePlaces words n → i < n
    → SetsBit (get_or words (i / 64) 0) other (i % 64) used
    → places_of (set words (i / 64) other) n ≡ set (places_of words n) i used
places_of-put words n i other used have inside sets =
    let word : i / 64 < length words = omega (arith, have.enough) in
    let long : length (places_of words n) ≡ n = length-places_of words n in
    same_lists (places_of (set words (i / 64) other) n) (set (places_of words n) i used)
    (length-places_of (set words (i / 64) other) n ∙ sym long ∙ sym (length-set (places_of words n) i used))
    (λ k d before.
    let within : k < n = omega (arith, length-places_of (set words (i / 64) other) n) in
    let new : get_or (places_of (set words (i / 64) other) n) k d ≡ is_place (set words (i / 64) other) k
    = get_or-places_of (set words (i / 64) other) n k d within in
    elim (cases_eq k i) [
      | inl same ↦
          let written : get_or (set (places_of words n) i used) i d ≡ used
          = get_or-set_same (places_of words n) i used d (omega arith) in
          new ∙ ap (λ j. is_place (set words (i / 64) other) j) same
          ∙ is_place-put_same words i other used word sets
          ∙ sym (ap (λ j. get_or (set (places_of words n) i used) j d) same ∙ written)
      | inr differs ↦
          let kept : get_or (set (places_of words n) i used) k d ≡ get_or (places_of words n) k d
          = get_or-set_other (places_of words n) i k used d differs in
          new ∙ is_place-put_other words i other k used word sets differs
          ∙ sym (kept ∙ get_or-places_of words n k d within)
    ])

-- and leaves as many places
pub HavePlaces-put : (words : List ℕ) (n i other : ℕ) (used : Bool) → HavePlaces words n → i < n
    → SetsBit (get_or words (i / 64) 0) other (i % 64) used
    → HavePlaces (set words (i / 64) other) n
HavePlaces-put words n i other used have inside sets =
    let word : i / 64 < length words = omega (arith, have.enough) in
    let long : length (set words (i / 64) other) ≡ length words = length-set words (i / 64) other in
    record {
      enough = omega (arith, have.enough);
      few = omega (arith, have.few);
      spare = λ k behind.
          let differs : k ≢ i = omega arith in
          is_place-put_other words i other k used word sets differs ∙ have.spare k behind;
    }

-- no place of words that are 0 is used
is_place-zeros : (m i : ℕ) → is_place (replicate m 0) i ≡ false
is_place-zeros m i =
    let word : get_or (replicate m 0) (i / 64) 0 ≡ 0
    = elim (cases_lt (i / 64) m) [
      | inl inside ↦ get_or-replicate m (i / 64) 0 0 inside
      | inr past ↦ get_or_past (replicate m 0) (i / 64) 0 (omega (arith, length-replicate {A = ℕ} m 0))
    ] in
    ap (λ w. is_bit w (i % 64)) word ∙ ap (λ b. b == 1) (bit_at-zero (i % 64))

pub places_of-zeros : (words : List ℕ) (m n : ℕ) → words ≡ replicate m 0
    → places_of words n ≡ replicate n false
places_of-zeros words m n zeros =
    rw zeros
    (same_lists (places_of (replicate m 0) n) (replicate n false)
    (length-places_of (replicate m 0) n ∙ sym (length-replicate n false))
    (λ k d before.
    let within : k < n = omega (arith, length-places_of (replicate m 0) n) in
    get_or-places_of (replicate m 0) n k d within ∙ is_place-zeros m k
    ∙ sym (get_or-replicate n k false d within)))

pub HavePlaces-zeros : (m n : ℕ) → n ≤ 64 * m → m ≤ 256 → HavePlaces (replicate m 0) n
HavePlaces-zeros m n enough few = record {
  enough = omega (arith, length-replicate {A = ℕ} m 0);
  few = omega (arith, length-replicate {A = ℕ} m 0);
  spare = λ i behind. is_place-zeros m i;
}
