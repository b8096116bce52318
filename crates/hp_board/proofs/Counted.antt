-- How many entries a participant made: over all heaps they are those that it made in each.
use Rattle.std.proofs.Common.{◌≡◌, ◌≢◌, ◌∙◌, ℕ, zero, suc, ◌+◌, ◌<◌, ◌≤◌, eqb, eq-eqb, ne_eqb, List, [], ◌∷◌, length, refl, sym, ap, arith}
use Rattle.std.specs.List.{All, range_with_len, sum_by}
use Rattle.std.proofs.lemmas.Bool.{cond-true, cond-false}
use Rattle.std.proofs.lemmas.List.Elements.{All-head, All-tail}
use Rattle.std.proofs.lemmas.List.Sums.{sum_by-cons}
use mathlib.Core.Logic.{dite}
use native.Mathlib.Decide.{ℕ_discrete}
use Rattle.hp_heap.specs.declared.entry.Entry.{Entry}
use Rattle.hp_hall.specs.Giving.{entries_made}
use Rattle.hp_board.specs.declared.words.TheConstants.{SLOTS}
use Rattle.hp_hall.specs.declared.slot.TheConstants as halls
use Rattle.hp_board.specs.Knowing.{heap_part}
use Rattle.hp_board.specs.Views.{values_of}
use Rattle.hp_board.specs.declared.view.Mine.{Mine}

module _ (f g : ℕ → ℕ) (at : ℕ) (same : (k : ℕ) → k ≢ at → g k ≡ f k) where
  -- where two functions differ below a range they have one sum over it
  sums_behind : (a n : ℕ) → at < a → sum_by g (range_with_len a n) ≡ sum_by f (range_with_len a n)
  sums_behind a zero below = refl
  sums_behind a (suc n) below =
      omega (
        arith,
        sum_by-cons g a (range_with_len (a + 1) n),
        sum_by-cons f a (range_with_len (a + 1) n),
        same a (λ is. omega (arith, is, below)),
        sums_behind (a + 1) n (omega (arith, below)),
      )

  -- and where one is greater by 1 at one number of the range, so is its sum
  sums_more : (a n : ℕ) → a ≤ at → at < a + n → g at ≡ suc (f at) → sum_by g (range_with_len a n) ≡ suc (sum_by f (range_with_len a n))
  sums_more a zero above below more = absurd (omega (arith, above, below))
  sums_more a (suc n) above below more =
      let first = sum_by-cons g a (range_with_len (a + 1) n) in
      let other = sum_by-cons f a (range_with_len (a + 1) n) in
      dite (ℕ_discrete a at)
      (λ is.
      let here : g a ≡ suc (f a) = ap g is ∙ (more ∙ ap (λ (k : ℕ). suc (f k)) (sym is)) in
      let rest = sums_behind (a + 1) n (omega (arith, is)) in
      omega (arith, first, other, here, rest))
      (λ apart.
      let here = same a apart in
      let rest = sums_more (a + 1) n (omega (arith, above, apart)) (omega (arith, below)) more in
      omega (arith, first, other, here, rest))

-- entries, counted slot by slot
counted : (n : ℕ) (made : List (ℕ × Entry)) → All (λ pair. pair.0 < n) made → sum_by (λ (slot : ℕ). length (values_of slot made)) (range_with_len 0 n) ≡ length made
counted n [] placed = none 0 n
  where
    none : (a n : ℕ) → sum_by (λ (slot : ℕ). length {A = Entry} []) (range_with_len a n) ≡ 0
    none a zero = refl
    none a (suc n) = omega (arith, sum_by-cons (λ (slot : ℕ). length {A = Entry} []) a (range_with_len (a + 1) n), none (a + 1) n)
counted n (pair ∷ made) placed =
    let rest = counted n made (All-tail (λ (p : ℕ × Entry). p.0 < n) pair made placed) in
    let below = All-head (λ (p : ℕ × Entry). p.0 < n) pair made placed in
    let more =
    sums_more (λ (slot : ℕ). length (values_of slot made)) (λ (slot : ℕ). length (values_of slot (pair ∷ made))) pair.0
    (λ k apart. ap length (cond-false (eqb pair.0 k) (pair.1 ∷ values_of k made) (values_of k made) (ne_eqb pair.0 k (λ same. apart (sym same)))))
    0 n (omega arith) (omega (arith, below))
    (ap length (cond-true (eqb pair.0 pair.0) (pair.1 ∷ values_of pair.0 made) (values_of pair.0 made) (eq-eqb pair.0 pair.0 refl))) in
    omega (arith, more, rest)

-- a participant made as many entries in all heaps as it made
pub made_counted : (mine : Mine) → All (λ pair. pair.0 < SLOTS) mine.made → entries_made (heap_part mine) ≡ length mine.made
made_counted mine placed = counted halls.SLOTS mine.made (λ k d within. omega (arith, placed k d within))
