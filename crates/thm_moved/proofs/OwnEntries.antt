-- Where the entries of one participant stand in a history, by the numbers that they have.
use Rattle.std.proofs.Common.{◌≡◌, ◌≢◌, ℕ, zero, suc, ◌+◌, ◌<◌, ◌≤◌, eqb, eq-eqb, ne_eqb, List, [], ◌∷◌, ◌++◌, length, Some, ⊎_elim, sym, subst, arith}
use Rattle.std.specs.List.{AllByRecursion, slice_get}
use Rattle.std.proofs.lemmas.Bool.{cases_eq, cond-false, cond-true}
use Rattle.std.proofs.lemmas.Option.{same_Some}
use Rattle.hp_heap.specs.History.{entries_of}
use Rattle.hp_heap.specs.declared.entry.Entry.{Entry}
use Rattle.hp_proc.specs.Courses.{OwnCall}
use Rattle.hp_proc.specs.Histories.{entries_for, entry_for}

-- an entry of a participant has a number above that, or none above it
abbrev pub IsAbove : ℕ → ℕ → Entry → Type 0
IsAbove who calls entry = entry.caller.participant ≡ who → calls < entry.caller.number

abbrev pub AreAbove : ℕ → ℕ → List Entry → Type 0
AreAbove who calls entries = AllByRecursion (IsAbove who calls) entries

abbrev pub IsWithin : ℕ → ℕ → Entry → Type 0
IsWithin who calls entry = entry.caller.participant ≡ who → entry.caller.number ≤ calls

abbrev pub AreWithin : ℕ → ℕ → List Entry → Type 0
AreWithin who calls entries = AllByRecursion (IsWithin who calls) entries

-- the entries of calls that are numbered on from above
pub own_above : (who index calls number : ℕ) (own : List OwnCall) → calls < number → AreAbove who calls (entries_for who index number own)
own_above who index calls number [] above = tt
own_above who index calls number (call ∷ own) above =
    let rest = own_above who index calls (number + 1) own (omega (arith, above)) in
    ⊎_elim
    (λ (here : call.heap ≡ index).
    subst (AreAbove who calls)
    (sym (cond-true (eqb call.heap index) (entry_for who number call ∷ entries_for who index (number + 1) own)
    (entries_for who index (number + 1) own) (eq-eqb call.heap index here))) ((λ its. above), rest))
    (λ (apart : call.heap ≢ index).
    subst (AreAbove who calls)
    (sym (cond-false (eqb call.heap index) (entry_for who number call ∷ entries_for who index (number + 1) own)
    (entries_for who index (number + 1) own) (ne_eqb call.heap index apart))) rest)
    (cases_eq call.heap index)

-- and of as many calls as there are
pub own_within : (who index calls number : ℕ) (own : List OwnCall) → number + length own ≤ calls + 1
    → AreWithin who calls (entries_for who index number own)
own_within who index calls number [] few = tt
own_within who index calls number (call ∷ own) few =
    let rest = own_within who index calls (number + 1) own (omega (arith, few)) in
    ⊎_elim
    (λ (here : call.heap ≡ index).
    subst (AreWithin who calls)
    (sym (cond-true (eqb call.heap index) (entry_for who number call ∷ entries_for who index (number + 1) own)
    (entries_for who index (number + 1) own) (eq-eqb call.heap index here))) ((λ its. omega (arith, few)), rest))
    (λ (apart : call.heap ≢ index).
    subst (AreWithin who calls)
    (sym (cond-false (eqb call.heap index) (entry_for who number call ∷ entries_for who index (number + 1) own)
    (entries_for who index (number + 1) own) (ne_eqb call.heap index apart))) rest)
    (cases_eq call.heap index)

-- where a participant's own entries have a property that is said of it alone, all have it
module _ (who : ℕ) (P : Entry → Type 0) (beside : (entry : Entry) → entry.caller.participant ≢ who → P entry) where
  all_own : (entries : List Entry) → AllByRecursion P (entries_of who entries) → AllByRecursion P entries
  unfolding entries_of
  all_own [] are = tt
  all_own (entry ∷ entries) are =
      let rest = entries_of who entries in
      ⊎_elim
      (λ (its : entry.caller.participant ≡ who).
      let own =
      subst (AllByRecursion P) (cond-true (eqb entry.caller.participant who) (entry ∷ rest) rest (eq-eqb entry.caller.participant who its)) are in
      (own.0, all_own entries own.1))
      (λ (apart : entry.caller.participant ≢ who).
      let others =
      subst (AllByRecursion P) (cond-false (eqb entry.caller.participant who) (entry ∷ rest) rest (ne_eqb entry.caller.participant who apart)) are in
      (beside entry apart, all_own entries others))
      (cases_eq entry.caller.participant who)

pub all_above : (who calls : ℕ) (entries : List Entry) → AreAbove who calls (entries_of who entries) → AreAbove who calls entries
all_above who calls entries are = all_own who (IsAbove who calls) (λ entry apart its. absurd (apart its)) entries are

pub all_within : (who calls : ℕ) (entries : List Entry) → AreWithin who calls (entries_of who entries) → AreWithin who calls entries
all_within who calls entries are = all_own who (IsWithin who calls) (λ entry apart its. absurd (apart its)) entries are

-- an entry whose number is not above stands in the front
pub stands_before : (who calls place : ℕ) (front more : List Entry) (entry : Entry) → AreAbove who calls more
    → slice_get (front ++ more) place ≡ Some entry → entry.caller.participant ≡ who → entry.caller.number ≤ calls → place < length front
stands_before who calls zero [] [] entry above there its few = cc
stands_before who calls (suc place) [] [] entry above there its few = cc
stands_before who calls zero [] (one ∷ more) entry above there its few =
    let same : one ≡ entry = same_Some one entry there in
    let high = subst (IsAbove who calls) same above.0 its in
    absurd (omega (arith, high, few))
stands_before who calls (suc place) [] (one ∷ more) entry above there its few =
    let never = stands_before who calls place [] more entry above.1 there its few in
    absurd (omega (arith, never))
stands_before who calls zero (one ∷ front) more entry above there its few = omega arith
stands_before who calls (suc place) (one ∷ front) more entry above there its few =
    let rest = stands_before who calls place front more entry above there its few in
    omega (arith, rest)

-- and one whose number is above stands after it
pub stands_after : (who calls place : ℕ) (front more : List Entry) (entry : Entry) → AreWithin who calls front
    → slice_get (front ++ more) place ≡ Some entry → entry.caller.participant ≡ who → calls < entry.caller.number → length front ≤ place
stands_after who calls place [] more entry within there its above = omega arith
stands_after who calls zero (one ∷ front) more entry within there its above =
    let same : one ≡ entry = same_Some one entry there in
    let low = subst (IsWithin who calls) same within.0 its in
    absurd (omega (arith, low, above))
stands_after who calls (suc place) (one ∷ front) more entry within there its above =
    let rest = stands_after who calls place front more entry within.1 there its above in
    omega (arith, rest)
