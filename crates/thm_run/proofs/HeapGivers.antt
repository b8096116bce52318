-- Who gives no heap back has no entry more in any history: what comes to histories is of those that do.
use Rattle.std.proofs.Common.{◌≡◌, ◌≢◌, ◌⊎◌, ◌∙◌, ℕ, ◌<◌, List, [], ◌∷◌, ◌++◌, append-nil, append_assoc, Some, refl, sym, ap, subst, ⊎_elim, inl, inr}
use Rattle.std.specs.Prelude.{⊤, slice_get, slice_set}
use Rattle.std.specs.List.{AllByRecursion}
use Rattle.std.proofs.lemmas.Bool.{cases_eq}
use Rattle.std.proofs.lemmas.Option.{slice_get_within, same_Some}
use Rattle.hp_heap.specs.declared.entry.Entry.{Entry}
use Rattle.hp_hall.specs.Later.{AreLaterNames}
use Rattle.hp_plain.specs.Keeping.{AreSegsGivenBy, IsGivenBy, IsHeapGivenBy, IsKeptBy, ShowsValues, values_after}
use Rattle.hp_hall.specs.Mail.{Fetches, Gives, MailStep, Notes, Posts, Takes, steps_of}
use Rattle.hp_hall.specs.Values.{history_of}
use Rattle.hp_hall.specs.declared.kept.Kept.{Kept}
use Rattle.hp_hall.specs.declared.kept.Kept.TheVariants.{Heap, Names, Segments}
use Rattle.hp_hall.specs.declared.note.Note.TheVariants.{Published, Stored}
use Rattle.hp_hall.specs.Views.{HeldHeap}
use Rattle.hp_hall.proofs.OneKind.{by_kind}
use Rattle.hp_plain.proofs.Slotted.{slice_get-set_other, slice_get-set_same}
use Rattle.thm_run.proofs.PathSteps.Walk.{steps_elsewhere, steps_here}

-- a step takes neither a heap nor the names, gives none back, publishes no statistics, and tells of no lines that are done
abbrev pub IsNoGive : MailStep → Type 0
IsNoGive (Takes number (Heap heap pen)) = ⊥
IsNoGive (Takes number (Names names)) = ⊥
IsNoGive (Gives number (Heap heap pen)) = ⊥
IsNoGive (Gives number (Names names)) = ⊥
IsNoGive (Notes (Published number pair)) = ⊥
IsNoGive (Notes (Stored lines)) = ⊥
IsNoGive _ = ⊤

-- none of these steps does
abbrev pub GiveNoHeap : List MailStep → Type 0
GiveNoHeap steps = AllByRecursion IsNoGive steps

-- each declared participant is of some kind, or gives no heap back
abbrev pub NoOtherGives : (ℕ → Type 0) → ℕ → List (ℕ × MailStep) → Type 0
NoOtherGives of count steps = (who : ℕ) → who < count → of who ⊎ GiveNoHeap (steps_of who steps)

-- all that came to a history is of that kind
pub record HasMoreOf (of : ℕ → Type 0) (old new : List Entry) : Type 0 where
  pub more : List Entry
  pub is : new ≡ old ++ more
  pub all : AllByRecursion (λ entry. of entry.caller.participant) more

pub same_more : (of : ℕ → Type 0) (old new : List Entry) → new ≡ old → HasMoreOf of old new
same_more of old new same = record { more = []; is = same ∙ sym (append-nil old); all = tt }

both_all : (of : ℕ → Type 0) (first second : List Entry) → AllByRecursion (λ entry. of entry.caller.participant) first
    → AllByRecursion (λ entry. of entry.caller.participant) second → AllByRecursion (λ entry. of entry.caller.participant) (first ++ second)
both_all of [] second here there = there
both_all of (entry ∷ first) second here there = (here.0, both_all of first second here.1 there)

then_more : (of : ℕ → Type 0) (old mid new : List Entry) → HasMoreOf of old mid → HasMoreOf of mid new → HasMoreOf of old new
then_more of old mid new here there = record {
  more = here.more ++ there.more;
  is = there.is ∙ ap (λ (entries : List Entry). entries ++ there.more) here.is ∙ append_assoc old here.more there.more;
  all = both_all of here.more there.more here.all there.all;
}

module _ (of : ℕ → Type 0) where
  of_giver : (who : ℕ) (own : List Entry) → of who → AllByRecursion (λ entry. entry.caller.participant ≡ who) own
      → AllByRecursion (λ entry. of entry.caller.participant) own
  of_giver who [] is only = tt
  of_giver who (entry ∷ own) is only = (subst of (sym only.0) is, of_giver who own is only.1)

  -- a give of one of that kind, or of no heap
  given_more : (who : ℕ) (before kept : Kept) → of who ⊎ IsNoGive (Gives 0 kept) → IsGivenBy who before kept
      → HasMoreOf of (history_of before) (history_of kept)
  given_more who before kept may by =
      by_kind (λ (taken given : HeldHeap). IsHeapGivenBy who taken.heap given.heap) (AreSegsGivenBy who) AreLaterNames
      (λ before kept. of who ⊎ IsNoGive (Gives 0 kept) → HasMoreOf of (history_of before) (history_of kept))
      (λ before kept by may. heap_more who before kept by may) (λ before kept by may. same_more of [] [] refl)
      (λ before kept by may. same_more of [] [] refl) before kept by may
    where
      heap_more : (who : ℕ) (before kept : HeldHeap) → IsHeapGivenBy who before.heap kept.heap
          → of who ⊎ IsNoGive (Gives 0 (Heap kept.heap kept.pen)) → HasMoreOf of before.heap.history kept.heap.history
      heap_more who before kept by (inl is) = record { more = by.own; is = by.history; all = of_giver who by.own is by.only }
      heap_more who before kept by (inr none) = absurd none

  no_give_at : (number : ℕ) (kept : Kept) → IsNoGive (Gives number kept) → IsNoGive (Gives 0 kept)
  no_give_at number (Heap heap pen) none = none
  no_give_at number (Segments segs) none = none
  no_give_at number (Names names) none = none

  -- a step leaves a value with such entries more
  stepped : (who : ℕ) (step : MailStep) (values : List Kept) (number : ℕ) (before : Kept) → of who ⊎ IsNoGive step
      → ShowsValues who step values → slice_get values number ≡ Some before
      → (kept : Kept) × (slice_get (values_after step values) number ≡ Some kept) × HasMoreOf of (history_of before) (history_of kept)
  stepped who (Posts to frame action posted) values number before may shows there = (before, there, same_more of _ _ refl)
  stepped who (Fetches frame) values number before may shows there = (before, there, same_more of _ _ refl)
  stepped who (Notes note) values number before may shows there = (before, there, same_more of _ _ refl)
  stepped who (Takes slot kept) values number before may shows there = (before, there, same_more of _ _ refl)
  stepped who (Gives slot kept) values number before may shows there =
      ⊎_elim
      (λ (same : number ≡ slot).
      let was : shows.before ≡ before = same_Some shows.before before (sym shows.there ∙ ap (slice_get values) (sym same) ∙ there) in
      let now : slice_get (slice_set values slot kept) number ≡ Some kept =
      ap (slice_get (slice_set values slot kept)) same
      ∙ slice_get-set_same values slot kept (slice_get_within values slot shows.before shows.there) in
      let kind : of who ⊎ IsNoGive (Gives 0 kept) = ⊎_elim (λ (is : of who). inl is) (λ none. inr (no_give_at slot kept none)) may in (
        kept,
        now,
        subst (λ (before : Kept). HasMoreOf of (history_of before) (history_of kept)) was
            (given_more who shows.before kept kind shows.by),
      ))
      (λ (apart : number ≢ slot). (before, slice_get-set_other values slot number kept apart ∙ there, same_more of _ _ refl))
      (cases_eq number slot)

  -- who gave no heap in a step and further on
  here_gives : (who : ℕ) (step : MailStep) (steps : List (ℕ × MailStep)) → of who ⊎ GiveNoHeap (steps_of who ((who, step) ∷ steps))
      → of who ⊎ IsNoGive step
  here_gives who step steps (inl is) = inl is
  here_gives who step steps (inr none) = inr (subst GiveNoHeap (steps_here who step steps) none).0

  further : (count maker : ℕ) (step : MailStep) (steps : List (ℕ × MailStep)) → NoOtherGives of count ((maker, step) ∷ steps)
      → NoOtherGives of count steps
  further count maker step steps may who below =
      ⊎_elim
      (λ (is : of who). inl is)
      (λ none. inr (rest none))
      (may who below)
    where
      rest : GiveNoHeap (steps_of who ((maker, step) ∷ steps)) → GiveNoHeap (steps_of who steps)
      rest none =
          ⊎_elim
          (λ (same : maker ≡ who).
          (subst GiveNoHeap (steps_here who step steps)
          (subst (λ (maker : ℕ). GiveNoHeap (steps_of who ((maker, step) ∷ steps))) same none)).1)
          (λ (apart : maker ≢ who). subst GiveNoHeap (steps_elsewhere who maker step steps apart) none)
          (cases_eq maker who)

  pub kept_more : (count : ℕ) (steps : List (ℕ × MailStep)) (old new : List Kept) → IsKeptBy count steps old new
      → NoOtherGives of count steps → (number : ℕ) (before kept : Kept) → slice_get old number ≡ Some before
      → slice_get new number ≡ Some kept → HasMoreOf of (history_of before) (history_of kept)
  kept_more count [] old new by may number before kept early late =
      same_more of _ _ (ap history_of (same_Some kept before (sym late ∙ ap (λ (l : List Kept). slice_get l number) by ∙ early)))
  kept_more count (step ∷ steps) old new by may number before kept early late =
      let mid = stepped step.0 step.1 old number before (here_gives step.0 step.1 steps (may step.0 by.0.declared)) by.0.shows early in
      then_more of (history_of before) (history_of mid.0) (history_of kept) mid.2
      (kept_more count steps (values_after step.1 old) new by.1 (further count step.0 step.1 steps may) number mid.0 kept mid.1 late)
