-- What is known of heaps for the names once a heap was given: of that one what was given, of the others what it was.
use Rattle.std.proofs.Common.{◌≡◌, ◌≢◌, ◌∙◌, ℕ, zero, suc, ◌+◌, ◌<◌, ◌≤◌, Bool, true, false, cond, eqb, eq-eqb, eqb-true, ne_eqb, List, [], ◌∷◌, map, Option, Some, refl, sym, ap, arith}
use Rattle.std.specs.List.{range_with_len}
use Rattle.std.specs.Option.{option_map}
use Rattle.std.proofs.lemmas.Bool.{cond-true, cond-false}
use mathlib.Core.Logic.{dite}
use native.Mathlib.Decide.{ℕ_discrete}
use Rattle.hp_hall.specs.Naming.{Naming}
use Rattle.hp_board.specs.Views.{value_of}
use Rattle.hp_board.proofs.Pairs.{value_of-else, value_of-here}

abbrev pub renamed : ℕ → Naming → ℕ × Naming → ℕ × Naming
renamed slot new pair = cond (eqb pair.0 slot) (slot, new) pair

here_by : (slot : ℕ) (new : Naming) (pair : ℕ × Naming) (told rest : Option Naming) (same : Bool) → eqb pair.0 slot ≡ same
    → told ≡ option_map (λ (n : Naming). new) rest
    → cond (eqb (cond same (slot, new) pair).0 slot) (Some (cond same (slot, new) pair).1) told ≡ option_map (λ (n : Naming). new) (cond same (Some pair.1) rest)
here_by slot new pair told rest true is on = cond-true (eqb slot slot) (Some new) told (eq-eqb slot slot refl)
here_by slot new pair told rest false is on = cond-false (eqb pair.0 slot) (Some pair.1) told is ∙ on

pub renamed_here : (slot : ℕ) (new : Naming) (namings : List (ℕ × Naming))
    → value_of slot (map (renamed slot new) namings) ≡ option_map (λ (n : Naming). new) (value_of slot namings)
renamed_here slot new [] = refl
renamed_here slot new (pair ∷ namings) =
    here_by slot new pair (value_of slot (map (renamed slot new) namings)) (value_of slot namings) (eqb pair.0 slot) refl (renamed_here slot new namings)

else_by : (slot other : ℕ) (new : Naming) (pair : ℕ × Naming) (told rest : Option Naming) (same : Bool) → eqb pair.0 slot ≡ same → other ≢ slot → told ≡ rest
    → cond (eqb (cond same (slot, new) pair).0 other) (Some (cond same (slot, new) pair).1) told ≡ cond (eqb pair.0 other) (Some pair.1) rest
else_by slot other new pair told rest true is apart on =
    cond-false (eqb slot other) (Some new) told (ne_eqb slot other (λ one. apart (sym one)))
    ∙ (on ∙ sym (cond-false (eqb pair.0 other) (Some pair.1) rest (ne_eqb pair.0 other (λ one. apart (sym one ∙ eqb-true pair.0 slot is)))))
else_by slot other new pair told rest false is apart on = ap (cond (eqb pair.0 other) (Some pair.1)) on

pub renamed_else : (slot other : ℕ) (new : Naming) (namings : List (ℕ × Naming)) → other ≢ slot
    → value_of other (map (renamed slot new) namings) ≡ value_of other namings
renamed_else slot other new [] apart = refl
renamed_else slot other new (pair ∷ namings) apart =
    else_by slot other new pair (value_of other (map (renamed slot new) namings)) (value_of other namings) (eqb pair.0 slot) refl apart
    (renamed_else slot other new namings apart)

-- what a list of values by number, from a number on, has for one of these
pub value_of-range : {A : Type 0} (f : ℕ → A) (from n k : ℕ) → from ≤ k → k < from + n
    → value_of k (map (λ (s : ℕ). (s, f s)) (range_with_len from n)) ≡ Some (f k)
value_of-range f from zero k low high = absurd (omega (arith, low, high))
value_of-range f from (suc n) k low high =
    dite (ℕ_discrete k from)
    (λ same.
    ap (λ (j : ℕ). value_of j ((from, f from) ∷ map (λ (s : ℕ). (s, f s)) (range_with_len (from + 1) n))) same
    ∙ (value_of-here from (f from) (map (λ (s : ℕ). (s, f s)) (range_with_len (from + 1) n)) ∙ ap (λ (j : ℕ). Some (f j)) (sym same)))
    (λ apart.
    value_of-else from k (f from) (map (λ (s : ℕ). (s, f s)) (range_with_len (from + 1) n)) apart
    ∙ value_of-range f (from + 1) n k (omega (arith, low, apart)) (omega (arith, high)))
