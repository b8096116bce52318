-- The runs that were cut from all heaps are those that were given up.
use Rattle.std.proofs.Common.{◌≡◌, ◌≢◌, ◌∙◌, ⊎_elim, ℕ, zero, suc, ◌+◌, ◌<◌, ◌≤◌, Bool, true, false, cond, eqb, eq-eqb, ne_eqb, List, [], ◌∷◌, ◌++◌, map, length, Some, refl, sym, ap, subst, arith}
use Rattle.std.specs.List.{All, filter, flat_map, range_with_len, slice_get}
use Rattle.std.specs.List.Sorted.{IsPermutation}
use Rattle.std.proofs.lemmas.Bool.{cases_lt, cond-true, cond-false}
use Rattle.std.proofs.lemmas.List.Elements.{All-cons, All-head, All-nil, All-tail}
use Rattle.std.proofs.lemmas.List.Sorted.{IsPermutation-append_right, IsPermutation-middle, IsPermutation-refl, IsPermutation-trans}
use mathlib.Core.Logic.{dite}
use native.Mathlib.Decide.{ℕ_discrete}
use Rattle.hp_base.specs.declared.row.Run.{Run}
use Rattle.hp_segs.specs.Standing.{given_up_by}

-- what a list of heaps has piece by piece is what the numbers of its places have
pub pieces_placed : {X A : Type 0} (piece : X → List A) (of : ℕ → List A) (from : ℕ) (xs : List X)
    → ((place : ℕ) (x : X) → slice_get xs place ≡ Some x → piece x ≡ of (from + place)) → flat_map piece xs ≡ flat_map of (range_with_len from (length xs))
pieces_placed piece of from [] same = refl
pieces_placed piece of from (x ∷ xs) same =
    let first : piece x ≡ of from = same 0 x refl ∙ ap of (omega arith) in
    ap (λ l. l ++ flat_map piece xs) first
    ∙ ap (λ l. of from ++ l)
    (pieces_placed piece of (from + 1) xs (λ place y there. same (suc place) y there ∙ ap of (omega arith)))

module _ {A : Type 0} (x : A) (at : ℕ) (old new : ℕ → List A) (here : new at ≡ x ∷ old at) (else : (k : ℕ) → k ≢ at → new k ≡ old k) where
  -- after its place one more element shows nowhere
  pieces_behind : (a n : ℕ) → at < a → flat_map new (range_with_len a n) ≡ flat_map old (range_with_len a n)
  pieces_behind a zero below = refl
  pieces_behind a (suc n) below =
      ap (λ l. l ++ flat_map new (range_with_len (a + 1) n)) (else a (λ is. omega (arith, is, below)))
      ∙ ap (λ l. old a ++ l) (pieces_behind (a + 1) n (omega (arith, below)))

  -- and where its place is among them, the pieces have one more
  pieces_more : (a n : ℕ) → a ≤ at → at < a + n → IsPermutation (flat_map new (range_with_len a n)) (x ∷ flat_map old (range_with_len a n))
  pieces_more a zero above below = absurd (omega (arith, above, below))
  pieces_more a (suc n) above below =
      let rest = range_with_len (a + 1) n in
      dite (ℕ_discrete a at)
      (λ is.
      let first : new a ≡ x ∷ old a = ap new is ∙ (here ∙ ap (λ (k : ℕ). x ∷ old k) (sym is)) in
      let whole : flat_map new (range_with_len a (suc n)) ≡ x ∷ flat_map old (range_with_len a (suc n)) =
      ap (λ l. l ++ flat_map new rest) first ∙ ap (λ l. x ∷ (old a ++ l)) (pieces_behind (a + 1) n (omega (arith, is))) in
      subst (IsPermutation (flat_map new (range_with_len a (suc n)))) whole (IsPermutation-refl (flat_map new (range_with_len a (suc n)))))
      (λ apart.
      let first : new a ≡ old a = else a apart in
      let moved : IsPermutation (old a ++ flat_map new rest) (old a ++ x ∷ flat_map old rest) =
      IsPermutation-append_right (old a) (flat_map new rest) (x ∷ flat_map old rest) (pieces_more (a + 1) n (omega (arith, above, apart)) (omega (arith, below))) in
      subst (λ l. IsPermutation (l ++ flat_map new rest) (x ∷ (old a ++ flat_map old rest))) (sym first)
      (IsPermutation-trans (old a ++ flat_map new rest) (old a ++ x ∷ flat_map old rest) (x ∷ (old a ++ flat_map old rest)) moved
      (IsPermutation-middle (old a) x (flat_map old rest))))

-- the runs that a heap gave up, of one pair more
given_by : (pair : ℕ × Run) (rest : List (ℕ × Run)) (its : Bool) → map (λ (given : ℕ × Run). given.1) (cond its (pair ∷ rest) rest)
    ≡ cond its (pair.1 ∷ map (λ (given : ℕ × Run). given.1) rest) (map (λ (given : ℕ × Run). given.1) rest)
given_by pair rest true = refl
given_by pair rest false = refl

given_more : (heap : ℕ) (pair : ℕ × Run) (retired : List (ℕ × Run)) → given_up_by heap (pair ∷ retired)
    ≡ cond (eqb pair.0 heap) (pair.1 ∷ given_up_by heap retired) (given_up_by heap retired)
given_more heap pair retired = given_by pair (filter (λ (given : ℕ × Run). eqb given.0 heap) retired) (eqb pair.0 heap)

-- no heap from a number on gave up a run
none_by : (run : Run) (rest : List Run) (its : Bool) → cond its (run ∷ rest) rest ≡ [] → rest ≡ []
none_by run rest true none = absurd (cc)
none_by run rest false none = none

pub given_below : (n : ℕ) (retired : List (ℕ × Run)) → ((heap : ℕ) → n ≤ heap → given_up_by heap retired ≡ []) → All (λ pair. pair.0 < n) retired
given_below n [] none = All-nil (λ (pair : ℕ × Run). pair.0 < n)
given_below n (pair ∷ retired) none =
    All-cons (λ (p : ℕ × Run). p.0 < n) pair retired first
    (given_below n retired (λ heap high. none_by pair.1 (given_up_by heap retired) (eqb pair.0 heap) (sym (given_more heap pair retired) ∙ none heap high)))
  where
    first : pair.0 < n
    first =
        ⊎_elim (λ below. below)
        (λ high.
        let wrong : pair.1 ∷ given_up_by pair.0 retired ≡ [] =
        sym (given_more pair.0 pair retired
        ∙ cond-true (eqb pair.0 pair.0) (pair.1 ∷ given_up_by pair.0 retired) (given_up_by pair.0 retired) (eq-eqb pair.0 pair.0 refl))
        ∙ none pair.0 high in
        absurd (cc))
        (cases_lt pair.0 n)

nothing_given : (a n : ℕ) → flat_map (λ (heap : ℕ). given_up_by heap []) (range_with_len a n) ≡ []
nothing_given a zero = refl
nothing_given a (suc n) = nothing_given (a + 1) n

-- what the heaps gave up, heap by heap, is what was given up
pub all_given : (n : ℕ) (retired : List (ℕ × Run)) → All (λ pair. pair.0 < n) retired
    → IsPermutation (flat_map (λ heap. given_up_by heap retired) (range_with_len 0 n)) (map (λ given. given.1) retired)
all_given n [] below = subst (λ (l : List Run). IsPermutation l []) (sym (nothing_given 0 n)) (IsPermutation-refl [])
all_given n (pair ∷ retired) below =
    let low = All-head (λ (p : ℕ × Run). p.0 < n) pair retired below in
    let more : IsPermutation (flat_map (λ (heap : ℕ). given_up_by heap (pair ∷ retired)) (range_with_len 0 n))
    (pair.1 ∷ flat_map (λ (heap : ℕ). given_up_by heap retired) (range_with_len 0 n)) =
    pieces_more pair.1 pair.0 (λ heap. given_up_by heap retired) (λ heap. given_up_by heap (pair ∷ retired))
    (given_more pair.0 pair retired
    ∙ cond-true (eqb pair.0 pair.0) (pair.1 ∷ given_up_by pair.0 retired) (given_up_by pair.0 retired) (eq-eqb pair.0 pair.0 refl))
    (λ k apart.
    given_more k pair retired
    ∙ cond-false (eqb pair.0 k) (pair.1 ∷ given_up_by k retired) (given_up_by k retired) (ne_eqb pair.0 k (λ same. apart (sym same))))
    0 n (omega arith) (omega (arith, low)) in
    IsPermutation-trans (flat_map (λ (heap : ℕ). given_up_by heap (pair ∷ retired)) (range_with_len 0 n))
    (pair.1 ∷ flat_map (λ (heap : ℕ). given_up_by heap retired) (range_with_len 0 n)) (pair.1 ∷ map (λ (given : ℕ × Run). given.1) retired) more
    (IsPermutation-append_right (pair.1 ∷ []) (flat_map (λ (heap : ℕ). given_up_by heap retired) (range_with_len 0 n)) (map (λ (given : ℕ × Run). given.1) retired)
    (all_given n retired (All-tail (λ (p : ℕ × Run). p.0 < n) pair retired below)))
