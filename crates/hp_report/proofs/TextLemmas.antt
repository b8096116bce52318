-- A text written in place.
use Rattle.std.proofs.Common.{◌≡◌, ℕ, ◌+◌, ◌≤◌, ◌<◌, List, [], ◌∷◌, ◌++◌, length, take, drop, set, refl, sym, ap, ◌∙◌, arith, append_assoc, length-append, length-set, suc, take-add, take-suc-set, take-take, take_at}
use Rattle.hp_report.specs.InPlace.{IsPlaced}

-- buffers that begin alike up to a place begin alike up to a lower one
pub take_less : (low high : ℕ) (xs ys : List ℕ) → low ≤ high → take high xs ≡ take high ys → take low xs ≡ take low ys
take_less low high xs ys below same = sym (take-take low high xs below) ∙ ap (take low) same ∙ take-take low high ys below

-- a byte at the end of a front
pub front_set : (buf front : List ℕ) (at byte : ℕ) → at < length buf → take at buf ≡ front → take (at + 1) (set buf at byte) ≡ front ++ byte ∷ []
front_set buf front at byte within is =
    let next : at + 1 ≡ suc at = omega arith in
    ap (λ k. take k (set buf at byte)) next ∙ take-suc-set buf at byte within ∙ ap (λ t. t ++ byte ∷ []) is

-- a text after a front
front_text : (buf front text rest : List ℕ) (start : ℕ) → take start buf ≡ front → drop start buf ≡ text ++ rest → take (start + length text) buf ≡ front ++ text
front_text buf front text rest start is stands =
    take-add start (length text) buf ∙ ap (λ t. t ++ take (length text) (drop start buf)) is ∙ ap (λ t. front ++ take (length text) t) stands
    ∙ ap (λ t. front ++ t) (take_at text rest (length text) refl)

-- digits written up to an end stand after a prefix
pub placed : (old mid new prefix text rest : List ℕ) (at start end : ℕ) → take start mid ≡ take at old ++ prefix → start ≡ at + length prefix
    → take start new ≡ take start mid → drop start new ≡ text ++ rest → start + length text ≡ end → length new ≡ length old
    → IsPlaced old new at (prefix ++ text) end
placed old mid new prefix text rest at start end front begins same stands ends len = record {
  bytes = ap (λ k. take k new) (sym ends) ∙ front_text new (take at old ++ prefix) text rest start (same ∙ front) stands ∙ append_assoc (take at old) prefix text;
  ends = omega (arith, ends, begins, length-append prefix text);
  len = len;
}

pub length_prefixed : (buf : List ℕ) (at : ℕ) → length (set (set (set buf at 32) (at + 1) 48) (at + 2) 120) ≡ length buf
length_prefixed buf at = length-set (set (set buf at 32) (at + 1) 48) (at + 2) 120 ∙ length-set (set buf at 32) (at + 1) 48 ∙ length-set buf at 32

-- a blank and `0x` after a front
pub prefixed : (buf : List ℕ) (at : ℕ) → at + 3 ≤ length buf → take (at + 3) (set (set (set buf at 32) (at + 1) 48) (at + 2) 120) ≡ take at buf ++ 32 ∷ 48 ∷ 120 ∷ []
prefixed buf at within =
    let one = set buf at 32 in
    let two = set one (at + 1) 48 in
    let second : at + 1 + 1 ≡ at + 2 = omega arith in
    let third : at + 2 + 1 ≡ at + 3 = omega arith in
    let first_is = front_set buf (take at buf) at 32 (omega arith) refl in
    let second_is = front_set one (take at buf ++ 32 ∷ []) (at + 1) 48 (omega (arith, length-set buf at 32)) first_is in
    let third_is = front_set two ((take at buf ++ 32 ∷ []) ++ 48 ∷ []) (at + 2) 120 (omega (arith, length-set buf at 32, length-set one (at + 1) 48))
    (ap (λ k. take k two) (sym second) ∙ second_is) in
    ap (λ k. take k (set two (at + 2) 120)) (sym third) ∙ third_is ∙ append_assoc (take at buf ++ 32 ∷ []) (48 ∷ []) (120 ∷ []) ∙ append_assoc (take at buf) (32 ∷ []) (48 ∷ 120 ∷ [])

-- a blank and a digit in a buffer
pub with_digit : (buf : List ℕ) (at digit : ℕ) → at + 2 ≤ length buf
    → IsPlaced buf (set (set buf at 32) (at + 1) digit) at (32 ∷ digit ∷ []) (at + 2)
with_digit buf at digit within = record {
  bytes =
      let one = set buf at 32 in
      let second : at + 1 + 1 ≡ at + 2 = omega arith in
      let first_is = front_set buf (take at buf) at 32 (omega (arith, within)) refl in
      ap (λ k. take k (set one (at + 1) digit)) (sym second)
      ∙ front_set one (take at buf ++ 32 ∷ []) (at + 1) digit (omega (arith, within, length-set buf at 32)) first_is
      ∙ append_assoc (take at buf) (32 ∷ []) (digit ∷ []);
  ends = refl;
  len = length-set (set buf at 32) (at + 1) digit ∙ length-set buf at 32;
}
