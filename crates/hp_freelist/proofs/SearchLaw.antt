-- The first key that passes is of the least class that has one, and in it the first.
use Rattle.std.proofs.Common.{◌≡◌, ◌⊎◌, ℕ, zero, suc, ◌<◌, ◌≤◌, List, [], ◌∷◌, ◌++◌, true, Bool, Option, Some, None, flat_map, refl, sym}
use Rattle.std.proofs.Common.{ap, subst, arith, inl, inr}
use Rattle.hp_chain.specs.Chain.{Keyed}
use Rattle.hp_freelist.specs.Lists.{list_at}
use Rattle.hp_freelist.specs.Search.{keys_of, keys_from, IsFirstPassing, NonePasses, IsFirstOfLeast, NonePassesFrom, FindsFirstOfLeast}

module _ (test : ℕ → Bool → Type 0) where
  -- the first key of a list that passes
  record IsFirstOf (list : List (Keyed ℕ)) (key : ℕ) : Type 0 where
    pub front : List (Keyed ℕ)
    pub element : Keyed ℕ
    pub back : List (Keyed ℕ)
    pub is : list ≡ front ++ element ∷ back
    pub same : element.key ≡ key
    pub passes : test key true
    pub before : NonePasses test front

  -- what is found in a list with others after it is found in it, or none of it passes
  record IsHere (list : List (Keyed ℕ)) (found : Option ℕ) : Type 0 where
    pub key : ℕ
    pub found_is : found ≡ Some key
    pub first : IsFirstOf list key

  here_or_behind : (list : List (Keyed ℕ)) (more : List ℕ) (found : Option ℕ) → IsFirstPassing test (keys_of list ++ more) found
      → IsHere list found ⊎ (NonePasses test list × IsFirstPassing test more found)
  here_or_behind [] more found first = inr (tt, first)
  here_or_behind (e ∷ es) more found (inl passes) =
      inl (record { key = e.key; found_is = passes.1; first = record { front = []; element = e; back = es; is = refl; same = refl; passes = passes.0; before = tt } })
  here_or_behind (e ∷ es) more found (inr fails) = elim (here_or_behind es more found fails.1) [
    | inl here ↦ inl (record {
      key = here.key;
      found_is = here.found_is;
      first = record {
        front = e ∷ here.first.front;
        element = here.first.element;
        back = here.first.back;
        is = ap (λ (zs : List (Keyed ℕ)). e ∷ zs) here.first.is;
        same = here.first.same;
        passes = here.first.passes;
        before = (fails.0, here.first.before);
      };
    })
    | inr behind ↦ inr ((fails.0, behind.0), behind.1)
  ]

  -- a list more in front
  above_first : (list : List (Keyed ℕ)) (lists : List (List (Keyed ℕ))) (from key : ℕ) → IsFirstOfLeast test lists from key
      → IsFirstOfLeast test (list ∷ lists) (suc from) key
  above_first list lists from key least = record {
    class = suc least.class;
    upwards = omega (arith, least.upwards);
    lower = λ other upwards below. shifted other upwards below;
    front = least.front;
    found = least.found;
    back = least.back;
    is = least.is;
    same = least.same;
    passes = least.passes;
    before = least.before;
  }
    where
      shifted : (other : ℕ) → suc from ≤ other → other < suc least.class → NonePasses test (list_at (list ∷ lists) other)
      shifted zero upwards below = absurd (omega (arith, upwards))
      shifted (suc other) upwards below = least.lower other (omega (arith, upwards)) (omega (arith, below))

  above_none : (list : List (Keyed ℕ)) (lists : List (List (Keyed ℕ))) (from : ℕ) → NonePassesFrom test lists from
      → NonePassesFrom test (list ∷ lists) (suc from)
  above_none list lists from none zero upwards = absurd (omega (arith, upwards))
  above_none list lists from none (suc class) upwards = none class (omega (arith, upwards))

  above : (list : List (Keyed ℕ)) (lists : List (List (Keyed ℕ))) (from : ℕ) (found : Option ℕ) → FindsFirstOfLeast test lists from found
      → FindsFirstOfLeast test (list ∷ lists) (suc from) found
  above list lists from None none = above_none list lists from none
  above list lists from (Some key) least = above_first list lists from key least

  -- a list in front of which none passes
  behind_first : (list : List (Keyed ℕ)) (lists : List (List (Keyed ℕ))) (key : ℕ) → NonePasses test list
      → IsFirstOfLeast test lists 0 key → IsFirstOfLeast test (list ∷ lists) 0 key
  behind_first list lists key fails least = record {
    class = suc least.class;
    upwards = omega arith;
    lower = λ other upwards below. shifted other below;
    front = least.front;
    found = least.found;
    back = least.back;
    is = least.is;
    same = least.same;
    passes = least.passes;
    before = least.before;
  }
    where
      shifted : (other : ℕ) → other < suc least.class → NonePasses test (list_at (list ∷ lists) other)
      shifted zero below = fails
      shifted (suc other) below = least.lower other (omega arith) (omega (arith, below))

  behind_none : (list : List (Keyed ℕ)) (lists : List (List (Keyed ℕ))) → NonePasses test list → NonePassesFrom test lists 0
      → NonePassesFrom test (list ∷ lists) 0
  behind_none list lists fails none zero upwards = fails
  behind_none list lists fails none (suc class) upwards = none class (omega arith)

  behind : (list : List (Keyed ℕ)) (lists : List (List (Keyed ℕ))) (found : Option ℕ) → NonePasses test list
      → FindsFirstOfLeast test lists 0 found → FindsFirstOfLeast test (list ∷ lists) 0 found
  behind list lists None fails none = behind_none list lists fails none
  behind list lists (Some key) fails least = behind_first list lists key fails least

  here_first : (list : List (Keyed ℕ)) (lists : List (List (Keyed ℕ))) (found : Option ℕ) → IsHere list found
      → FindsFirstOfLeast test (list ∷ lists) 0 found
  here_first list lists found here =
      subst (λ (o : Option ℕ). FindsFirstOfLeast test (list ∷ lists) 0 o) (sym here.found_is)
      (record {
        class = 0;
        upwards = omega arith;
        lower = λ other upwards below. absurd (omega (arith, below));
        front = here.first.front;
        found = here.first.element;
        back = here.first.back;
        is = here.first.is;
        same = here.first.same;
        passes = here.first.passes;
        before = here.first.before;
      })

  nothing : (from : ℕ) (found : Option ℕ) → found ≡ None → FindsFirstOfLeast test [] from found
  nothing from found is = subst (λ (o : Option ℕ). FindsFirstOfLeast test [] from o) (sym is) (λ class upwards. tt)

  pub finds_first_of_least : (lists : List (List (Keyed ℕ))) (from : ℕ) (found : Option ℕ)
      → IsFirstPassing test (keys_from from lists) found → FindsFirstOfLeast test lists from found
  finds_first_of_least [] zero found is = nothing zero found is
  finds_first_of_least [] (suc from) found is = nothing (suc from) found is
  finds_first_of_least (list ∷ lists) (suc from) found is = above list lists from found (finds_first_of_least lists from found is)
  finds_first_of_least (list ∷ lists) zero found is = elim (here_or_behind list (flat_map keys_of lists) found is) [
    | inl here ↦ here_first list lists found here
    | inr rest ↦ behind list lists found rest.0 (finds_first_of_least lists zero found rest.1)
  ]
