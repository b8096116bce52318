-- Facts on lists, on what a filter keeps and on what a test finds in it.
use Rattle.std.proofs.Common.{◌≡◌, ◌∙◌, ℕ, zero, suc, ◌<◌, Bool, true, false, List, [], ◌∷◌, map, length, filter, get_or, ap, sym, subst, arith, inl, inr}
use Rattle.std.specs.Prelude.{Contains}
use Rattle.std.specs.List.{list_any}
use Rattle.std.proofs.lemmas.Bool.{cases_lt, or_left, or_right}
use Rattle.std.proofs.lemmas.List.{get_or-map, length-map}
use Rattle.std.proofs.lemmas.List.Elements.{All-contains, All-contains_itself, All-filter, filter_passes}
use Rattle.std.proofs.lemmas.List.Folds.{Any-from_list_any, list_any-append, list_any_at}
use Rattle.hp_base.specs.declared.row.Row.{Row}
use Rattle.hp_base.specs.declared.row.Run.{Run}
use Rattle.hp_log.specs.Rows.{row_of, rows_below}

-- what a filter keeps is in the list, and passes
pub contains_unkept : {X : Type 0} (p : X → Bool) (xs : List X) (y : X) → Contains (filter p xs) y → Contains xs y
contains_unkept p xs y among =
    All-contains (Contains xs) (filter p xs) y (All-filter p (Contains xs) xs (All-contains_itself xs)) among

pub contains_passes : {X : Type 0} (p : X → Bool) (xs : List X) (y : X) → Contains (filter p xs) y → p y ≡ true
contains_passes p xs y among = All-contains (λ x. p x ≡ true) (filter p xs) y (filter_passes p xs) among

-- an element that passes is found
pub any_contained : {X : Type 0} (p : X → Bool) (xs : List X) (y : X) → Contains xs y → p y ≡ true → list_any p xs ≡ true
any_contained p xs y among passes = list_any_at p xs among.0 y among.1 (ap p among.2 ∙ passes)

-- an element that a test finds
pub record IsFoundIn {X : Type 0} (p : X → Bool) (xs : List X) : Type 0 where
  pub element : X
  pub among : Contains xs element
  pub passes : p element ≡ true

pub found_in : {X : Type 0} (p : X → Bool) (xs : List X) → list_any p xs ≡ true → IsFoundIn p xs
found_in p xs any =
    let found = Any-from_list_any p xs any in
    record { element = found.1; among = (found.0, found.2, found.3); passes = found.4 }

-- an element that something is mapped to
pub record IsMapped {X : Type 0} (f : X → X) (xs : List X) (y : X) : Type 0 where
  pub from : X
  pub among : Contains xs from
  pub is : f from ≡ y

pub mapped_from : {X : Type 0} (f : X → X) (xs : List X) (y : X) → Contains (map f xs) y → IsMapped f xs y
mapped_from f xs y among =
    let within : among.0 < length xs = omega (arith, among.1, length-map xs f) in
    record {
      from = get_or xs among.0 y;
      among = All-contains_itself xs among.0 y within;
      is = sym (get_or-map f xs among.0 y y within) ∙ among.2;
    }

pub mapped_to : {X : Type 0} (f : X → X) (xs : List X) (x : X) → Contains xs x → Contains (map f xs) (f x)
mapped_to f xs x among =
    (among.0, omega (arith, among.1, length-map xs f), get_or-map f xs among.0 x (f x) among.1 ∙ ap f among.2)

-- a row of a run that passes is found among its rows
pub any_row : (p : Row → Bool) (run : Run) (generation n k : ℕ) → k < n → p (row_of run generation k) ≡ true
    → list_any p (rows_below run generation n) ≡ true
any_row p run generation zero k below passes = absurd (omega (arith, below))
any_row p run generation (suc n) k below passes =
    list_any-append p (rows_below run generation n) (row_of run generation n ∷ [])
    ∙ elim (cases_lt k n) [
      | inl less ↦ or_left (list_any p (rows_below run generation n)) _ (any_row p run generation n k less passes)
      | inr last ↦
          let same : k ≡ n = omega (arith, below, last) in
          let here : p (row_of run generation n) ≡ true = subst (λ m. p (row_of run generation m) ≡ true) same passes in
          or_right (list_any p (rows_below run generation n)) _ (or_left (p (row_of run generation n)) false here)
    ]
