-- What is held of rows at their own places, and at which calls a mapper fails.
use Rattle.std.proofs.Common.{◌≡◌, ℕ, ◌==◌, true, List, [], ◌∷◌, ◌∙◌, Option, Some, None, not, refl, sym, ap, subst, arith, inl, inr}
use Rattle.std.proofs.lemmas.Bool.{cases_Bool, eq-eqb, eqb-true}
use Rattle.std.proofs.lemmas.List.Elements.{Contains-append_right}
use Rattle.std.proofs.lemmas.List.Folds.{list_any_at}
use Rattle.std.specs.Prelude.{Contains, filter, map}
use Rattle.hp_base.specs.Mapping.{FailingCall, FailsSo, Held, Refuses, is_row, may_fail_at, owned, refusals_at, without_row, without_rows}
use Rattle.hp_base.specs.MemMapping.{without_all}
use Rattle.hp_base.specs.Streams.{list_has}
use Rattle.hp_base.specs.declared.map_answer.MapAnswer.{MapAnswer}
use Rattle.hp_base.specs.declared.row.Row.{Row}

-- to take a row out of rows is to take it out of what is held of them
pub owned_without : (row : Row) (rows : List Row) → owned (filter (λ other. not (is_row row other)) rows) ≡ without_row row (owned rows)
owned_without row [] = refl
owned_without row (other ∷ rows) = elim (cases_Bool (is_row row other)) [
  | inl same ↦ grind (arith, same, owned_without row rows)
  | inr apart ↦ grind (arith, apart, owned_without row rows)
]

-- and so for many rows
pub owned_without_all : (gone rows : List Row) → owned (without_all gone rows) ≡ without_rows gone (owned rows)
owned_without_all [] rows = refl
owned_without_all (row ∷ gone) rows =
    owned_without_all gone (filter (λ other. not (is_row row other)) rows) ∙ ap (without_rows gone) (owned_without row rows)

-- the rows of what is held of rows
pub rows_of_owned : (rows : List Row) → map (λ (one : Held). one.row) (owned rows) ≡ rows
rows_of_owned [] = refl
rows_of_owned (row ∷ rows) = ap (λ (l : List Row). row ∷ l) (rows_of_owned rows)

-- a call that is to be refused is among the failing ones
pub refusal_told : (call : ℕ) (calls : List ℕ) → list_has call calls ≡ true
    → Contains (refusals_at calls) (record { call = call; how = Refuses })
refusal_told call [] has = cc
refusal_told call (other ∷ calls) has = elim (cases_Bool (other == call)) [
  | inl same ↦
      let its : other ≡ call = eqb-true other call same in
      (0, omega arith, ap (λ (n : ℕ). record { call = n; how = Refuses }) its)
  | inr apart ↦
      Contains-append_right (record { call = other; how = Refuses } ∷ []) (refusals_at calls) (record { call = call; how = Refuses })
      (refusal_told call calls (grind (arith, apart, has)))
]

-- where a call may fail with an answer, it may fail
pub fails_there : (may_fail : Option (List FailingCall)) (call : ℕ) (row : Row) (got : MapAnswer) → FailsSo may_fail call row got
    → may_fail_at may_fail call ≡ true
fails_there None call row got so = refl
fails_there (Some calls) call row got so =
    let (place, below, here) = so.its in
    list_any_at (λ (one : FailingCall). one.call == call) calls place (record { call = call; how = so.how }) below
    (subst (λ (one : FailingCall). (one.call == call) ≡ true) (sym here) (eq-eqb call call refl))
