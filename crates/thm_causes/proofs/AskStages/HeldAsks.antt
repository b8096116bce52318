-- Of the places for held asks, one that has an ask: it is the lowest, and once it is released nothing is held.
use Rattle.std.proofs.Common.{◌≡◌, ◌∙◌, ℕ, zero, suc, ◌+◌, ◌<◌, true, List, ◌∷◌, length, replicate, Option, Some, None, is_some, refl, ap, arith}
use Rattle.std.proofs.lemmas.Bool.{cond-true, lt-ltb}
use Rattle.std.proofs.lemmas.List.{length-replicate}
use Rattle.std.specs.List.{position_or_len}
use Rattle.std.specs.Prelude.{nat_lt, slice_index_or, slice_set}
use Rattle.hp_core.specs.Stepping.{lowest_held}
use Rattle.hp_core.specs.declared.asked.Asked.{Asked}
use Rattle.thm_causes.proofs.Said.{index_set, set_long}

-- the places for held asks, where none is held, and where one is
abbrev pub none_held : List (Option Asked)
none_held = replicate 16 None

first_held : (n place : ℕ) (call : Asked) → place < n
    → position_or_len is_some (slice_set (replicate n None) place (Some call)) ≡ place
first_held zero place call within = absurd (omega (arith, within))
first_held (suc n) zero call within = refl
first_held (suc n) (suc place) call within = ap (λ k. 1 + k) (first_held n place call (omega (arith, within))) ∙ next place
  where
    next : (place : ℕ) → 1 + place ≡ suc place
    next place = omega arith

-- the one that is held is the lowest
pub lowest_one : (place : ℕ) (call : Asked) → place < 16 → lowest_held (slice_set none_held place (Some call)) ≡ Some place
lowest_one place call within =
    let held = slice_set none_held place (Some call) in
    let first : position_or_len is_some held ≡ place = first_held 16 place call within in
    let long : length held ≡ 16 = set_long none_held place (Some call) ∙ length-replicate {A = Option Asked} 16 None in
    let inside : nat_lt (position_or_len is_some held) (length held) ≡ true =
    lt-ltb (position_or_len is_some held) (length held) (omega (arith, first, long, within)) in
    cond-true (nat_lt (position_or_len is_some held) (length held)) (Some (position_or_len is_some held)) None inside ∙ ap Some first

pub its_ask : (place : ℕ) (call : Asked) → place < 16 → slice_index_or (slice_set none_held place (Some call)) place None ≡ Some call
its_ask place call within = index_set none_held place (Some call) None within

released_one : (n place : ℕ) (call : Asked) → slice_set (slice_set (replicate n None) place (Some call)) place None ≡ replicate n None
released_one zero place call = refl
released_one (suc n) zero call = refl
released_one (suc n) (suc place) call = ap (λ held. None ∷ held) (released_one n place call)

-- once it is released none is held
pub all_released : (place : ℕ) (call : Asked) → slice_set (slice_set none_held place (Some call)) place None ≡ none_held
all_released place call = released_one 16 place call
