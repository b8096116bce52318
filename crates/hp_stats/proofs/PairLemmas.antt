-- The newest of some pairs, and what is among pairs.
use Rattle.std.proofs.Common.{◌≡◌, ℕ, zero, suc, ◌≤◌, inl, inr, List, [], ◌∷◌, ◌++◌, refl, sym, subst, ⊎_elim, arith}
use Rattle.std.specs.List.{Contains}
use Rattle.std.proofs.lemmas.List.Elements.{Contains-append_left, Contains-append_right, Contains-append_cases}
use Rattle.hp_stats.specs.declared.stat_pair.StatPair.{StatPair}
use Rattle.hp_stats.specs.Pairs.{AreAmong, IsNotBelow, IsOneOf, last_or, newest_of, no_pair}

last_or-push : (other : StatPair) (pairs : List StatPair) (p : StatPair) → last_or other (pairs ++ p ∷ []) ≡ p
last_or-push other [] p = refl
last_or-push other (q ∷ pairs) p = last_or-push q pairs p

pub newest_of-push : (pairs : List StatPair) (p : StatPair) → newest_of (pairs ++ p ∷ []) ≡ p
newest_of-push pairs p = last_or-push no_pair pairs p

first_in : (p : StatPair) (pairs : List StatPair) → Contains (p ∷ pairs) p
first_in p pairs = (0, omega arith, refl)

in_rest : (q : StatPair) (pairs : List StatPair) (p : StatPair) → Contains pairs p → Contains (q ∷ pairs) p
in_rest q pairs p has = let inside = has.1 in (suc has.0, omega arith, has.2)

pub only_in : (q p : StatPair) → Contains (q ∷ []) p → q ≡ p
only_in q p (zero, inside, is) = is
only_in q p (suc k, inside, is) = absurd (omega arith)

pub none_in : (p : StatPair) → Contains [] p → ⊥
none_in p has = let inside = has.1 in omega arith

-- the last of some pairs is one of them
last_in : (other : StatPair) (pairs : List StatPair) → Contains (other ∷ pairs) (last_or other pairs)
last_in other [] = first_in other []
last_in other (p ∷ pairs) = in_rest other (p ∷ pairs) (last_or p pairs) (last_in p pairs)

-- the newest pair was published, or there is none
pub newest_among : (published : List StatPair) → IsOneOf published (newest_of published)
newest_among [] = inl refl
newest_among (p ∷ published) = inr (last_in p published)

-- what is among some pairs is among more
pub among_more : (published : List StatPair) (p : StatPair) (seen : List StatPair) → AreAmong published seen → AreAmong (published ++ p ∷ []) seen
among_more published p seen among q has = ⊎_elim (λ is. inl is) (λ one. inr (Contains-append_left published (p ∷ []) q one)) (among q has)

pub among_both : (published seen more : List StatPair) → AreAmong published seen → AreAmong published more → AreAmong published (seen ++ more)
among_both published seen more these those q has = ⊎_elim (these q) (those q) (Contains-append_cases seen more q has)

pub among_one : (published : List StatPair) (p : StatPair) → IsOneOf published p → AreAmong published (p ∷ [])
among_one published p one q has = subst (IsOneOf published) (only_in p q has) one

pub among_none : (published : List StatPair) → AreAmong published []
among_none published q has = absurd (none_in q has)

-- where counts did not fall, what was published has no greater count
pub rises-push : (published : List StatPair) (p : StatPair) (count : ℕ) → IsNotBelow published count → count ≤ p.entries → IsNotBelow (published ++ p ∷ []) p.entries
rises-push published p count rises more q has = ⊎_elim
    (λ old. let low = rises q old in omega (arith, more))
    (λ new. subst (λ (r : StatPair). r.entries ≤ p.entries) (only_in p q new) (Rattle.std.proofs.Common.le_refl p.entries))
    (Contains-append_cases published (p ∷ []) q has)

-- what is among the published pairs has no greater count than the newest
pub among_not_below : (published seen : List StatPair) (count : ℕ) → IsNotBelow published count → AreAmong published seen → IsNotBelow seen count
among_not_below published seen count rises among p has = ⊎_elim
    (λ none. subst (λ (r : StatPair). r.entries ≤ count) (sym none) Rattle.std.proofs.Common.zero-le)
    (λ one. rises p one)
    (among p has)
