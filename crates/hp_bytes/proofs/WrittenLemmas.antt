-- Bytes that are written over others, and what is read of them afterwards.
use Rattle.std.proofs.Common.{◌≡◌, ℕ, ◌+◌, ◌-◌, ◌≤◌, List, ◌++◌, length, take, drop, refl, sym, ap, ◌∙◌, arith, length-append, length-drop, add_assoc, zero-add, append_assoc, subst}
use Rattle.std.proofs.lemmas.List.{take_all, take-append-le, drop-append-le, length-take-le, drop-drop, take-append-drop, drop-take}
use Rattle.std.proofs.Math.Seq.{take-append_seam, drop-append_seam, drop-append-add}
use Rattle.std.specs.List.{length_refill}
use Rattle.hp_bytes.specs.Written.{written_over}

-- bytes after others
drop_more : (m n : ℕ) (xs : List ℕ) → drop n (drop m xs) ≡ drop (m + n) xs
drop_more m n xs = drop-drop n m xs

-- there are as many as before
pub written-same : (from : ℕ) (written bytes : List ℕ) → length (written_over from written bytes) ≡ length bytes
written-same from written bytes = sym (length_refill (length bytes) bytes (take from bytes ++ (written ++ drop (length written) (drop from bytes))) refl)

module _ (from : ℕ) (written bytes : List ℕ) (fits : from + length written ≤ length bytes) where
  before : length (take from bytes) ≡ from
  before = length-take-le from bytes (omega arith)

  rest : length (drop (length written) (drop from bytes)) + (from + length written) ≡ length bytes
  rest = omega (arith, length-drop (length written) (drop from bytes), length-drop from bytes)

  -- where they fit, they stand between what was before them and what was after
  pub written-parts : written_over from written bytes ≡ take from bytes ++ (written ++ drop (from + length written) bytes)
  written-parts =
      let whole = take from bytes ++ (written ++ drop (length written) (drop from bytes)) in
      let long : length whole ≡ length bytes =
      omega (arith, length-append (take from bytes) (written ++ drop (length written) (drop from bytes)), length-append written (drop (length written) (drop from bytes)), before, rest) in
      take-append-le (length bytes) whole (drop (length whole) bytes) (omega (arith, long))
      ∙ take_all (length bytes) whole (omega (arith, long))
      ∙ ap (λ (zs : List ℕ). take from bytes ++ (written ++ zs)) (drop_more from (length written) bytes)

  -- there are as many as before
  pub written-length : length (written_over from written bytes) ≡ length bytes
  written-length =
      rw written-parts
      (omega (arith, length-append (take from bytes) (written ++ drop (from + length written) bytes), length-append written (drop (from + length written) bytes), length-drop (from + length written) bytes, before))

  from_there : drop from (written_over from written bytes) ≡ written ++ drop (from + length written) bytes
  from_there =
      rw written-parts
      (subst (λ (n : ℕ). drop n (take from bytes ++ (written ++ drop (from + length written) bytes)) ≡ written ++ drop (from + length written) bytes) before
      (drop-append_seam (take from bytes) (written ++ drop (from + length written) bytes)))

  -- they are read there
  pub written-there : take (length written) (drop from (written_over from written bytes)) ≡ written
  written-there = rw from_there (take-append_seam written (drop (from + length written) bytes))

  -- what lies before them is as it was
  pub written-before : (at n : ℕ) → at + n ≤ from → take n (drop at (written_over from written bytes)) ≡ take n (drop at bytes)
  written-before at n below =
      let front : take (at + n) (written_over from written bytes) ≡ take (at + n) bytes =
      rw written-parts (take-append-le (at + n) (take from bytes) (written ++ drop (from + length written) bytes) (omega (arith, before)) ∙ front_of) in
      sym (drop-take at n (written_over from written bytes)) ∙ ap (drop at) front ∙ drop-take at n bytes
    where
      front_of : take (at + n) (take from bytes) ≡ take (at + n) bytes
      front_of = sym (take-append-le (at + n) (take from bytes) (drop from bytes) (omega (arith, before))) ∙ ap (take (at + n)) (take-append-drop from bytes)

  -- and what lies after them
  pub written-behind : (at n : ℕ) → from + length written ≤ at → take n (drop at (written_over from written bytes)) ≡ take n (drop at bytes)
  written-behind at n above = ap (take n) (behind (at - (from + length written)) (omega arith))
    where
      behind : (more : ℕ) → at ≡ from + (length written + more) → drop at (written_over from written bytes) ≡ drop at bytes
      behind more is =
          rw is
          (sym (drop_more from (length written + more) (written_over from written bytes))
          ∙ ap (drop (length written + more)) from_there
          ∙ drop-append-add written (drop (from + length written) bytes) more
          ∙ drop_more (from + length written) more bytes
          ∙ ap (λ (m : ℕ). drop m bytes) (add_assoc from (length written) more))

-- to write over a part's front is to write the part with it
pub written-part : (from len : ℕ) (written bytes : List ℕ) → length written ≤ len → from + len ≤ length bytes
    → written_over from written bytes ≡ written_over from (written_over 0 written (take len (drop from bytes))) bytes
written-part from len written bytes short within =
    let rest : List ℕ = drop from bytes in
    let part : List ℕ = take len (drop from bytes) in
    let long : length (take len (drop from bytes)) ≡ len = length-take-le len (drop from bytes) (omega (arith, length-drop from bytes)) in
    let inner : written_over 0 written (take len (drop from bytes)) ≡ written ++ drop (length written) (take len (drop from bytes)) =
    written-parts 0 written (take len (drop from bytes)) (omega (arith, long)) ∙ ap (λ (n : ℕ). written ++ drop n (take len (drop from bytes))) (zero-add (length written)) in
    let whole : length (written_over 0 written (take len (drop from bytes))) ≡ len = written-length 0 written (take len (drop from bytes)) (omega (arith, long)) ∙ long in
    let behind : drop (length written) (drop from bytes) ≡ drop (length written) (take len (drop from bytes)) ++ drop len (drop from bytes) =
    ap (drop (length written)) (sym (take-append-drop len (drop from bytes))) ∙ drop-append-le (length written) (take len (drop from bytes)) (drop len (drop from bytes)) (omega (arith, long)) in
    written-parts from written bytes (omega arith)
    ∙ ap (λ (zs : List ℕ). take from bytes ++ (written ++ zs)) (sym (drop_more from (length written) bytes) ∙ behind)
    ∙ ap (λ (zs : List ℕ). take from bytes ++ zs) (sym (append_assoc written (drop (length written) (take len (drop from bytes))) (drop len (drop from bytes))))
    ∙ ap (λ (zs : List ℕ). take from bytes ++ (zs ++ drop len (drop from bytes))) (sym inner)
    ∙ ap (λ (zs : List ℕ). take from bytes ++ (written_over 0 written (take len (drop from bytes)) ++ zs)) (drop_more from len bytes ∙ ap (λ (n : ℕ). drop (from + n) bytes) (sym whole))
    ∙ sym (written-parts from (written_over 0 written (take len (drop from bytes))) bytes (omega (arith, whole)))

-- the first of the first
pub take_fewer : (n m : ℕ) (xs : List ℕ) → n ≤ m → m ≤ length xs → take n (take m xs) ≡ take n xs
take_fewer n m xs fewer within =
    sym (take-append-le n (take m xs) (drop m xs) (omega (arith, length-take-le m xs within))) ∙ ap (take n) (take-append-drop m xs)
