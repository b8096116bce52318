-- What a slot keeps along steps of which those on it are one participant's: what is taken from it is what it keeps then, and what is given back
-- it keeps afterwards.
use Rattle.std.proofs.Common.{◌≡◌, ◌≢◌, ◌∙◌, ◌==◌, ℕ, zero, suc, ◌<◌, Bool, true, false, cond, List, [], ◌∷◌, ◌++◌, length, map, Some, refl, sym, ap, subst, arith, ⊎_elim, eq-eqb, inl, inr}
use Rattle.std.specs.List.{AllByRecursion}
use Rattle.std.specs.Prelude.{⊤, slice_get, slice_set}
use Rattle.std.proofs.lemmas.Bool.{cases_Bool, cases_eq, eqb-true}
use Rattle.std.proofs.lemmas.Option.{same_Some, slice_get_within}
use Rattle.hp_hall.proofs.OneKind.{by_kind}
use Rattle.hp_hall.specs.Later.{AreLaterNames}
use Rattle.hp_hall.specs.Mail.{Fetches, Gives, MailStep, Notes, Posts, Takes, steps_of}
use Rattle.hp_hall.specs.Views.{HeldHeap}
use Rattle.hp_hall.specs.declared.kept.Kept.{Kept}
use Rattle.hp_hall.specs.declared.kept.Kept.TheVariants.{Heap, Names, Segments}
use Rattle.hp_plain.proofs.Slotted.{slice_get-set_other, slice_get-set_same}
use Rattle.hp_plain.specs.HallSteps.{slots_of}
use Rattle.hp_plain.specs.HallView.{SlotView}
use Rattle.hp_plain.specs.Keeping.{AreSegsGivenBy, GivesInto, IsGivenBy, IsHeapGivenBy, IsKeptBy, ShowsValues, values_after}
use Rattle.hp_segs.specs.SegsView.{SegsView}
use Rattle.hp_zone.specs.declared.names.Names.{Names as NamesView}
use Rattle.thm_run.proofs.HeapGivers.{GiveNoHeap, IsNoGive}
use Rattle.thm_run.proofs.PathSteps.Walk.{steps_elsewhere, steps_here}

-- a value is no segment value
abbrev pub IsNoSegs : Kept → Type 0
IsNoSegs (Segments segs) = ⊥
IsNoSegs _ = ⊤

-- what is given in place of a heap or of names is a heap or names
pub no_segs_given : (who : ℕ) (before given : Kept) → IsGivenBy who before given → IsNoSegs before → IsNoSegs given
no_segs_given who before given by =
    by_kind (λ (taken given : HeldHeap). IsHeapGivenBy who taken.heap given.heap) (AreSegsGivenBy who) AreLaterNames
    (λ before given. IsNoSegs before → IsNoSegs given) (λ before given by none. none) (λ before given by none. none)
    (λ before given by none. none) before given by

module _ (number : ℕ) where
  -- the slot keeps that
  abbrev pub Keep : Kept → List Kept → Type 0
  Keep kept values = slice_get values number ≡ Some kept

  -- what it keeps after a step
  abbrev pub kept_after : Kept → MailStep → Kept
  kept_after kept (Gives slot given) = cond (slot == number) given kept
  kept_after kept _ = kept

  -- what a participant takes from the slot is what it keeps, and what it gives there comes in place of that
  abbrev pub IsShownSo : ℕ → Kept → MailStep → Type 0
  IsShownSo who kept (Takes slot taken) = slot ≡ number → taken ≡ kept
  IsShownSo who kept (Gives slot given) = slot ≡ number → IsGivenBy who kept given
  IsShownSo who kept _ = ⊤

  -- so it is along its steps, by what the slot keeps before them and at last
  abbrev pub AreAlong : ℕ → Kept → List MailStep → Kept → Type 0
  AreAlong who kept [] last = last ≡ kept
  AreAlong who kept (step ∷ steps) last = IsShownSo who kept step × AreAlong who (kept_after kept step) steps last

  shown_so : (who : ℕ) (step : MailStep) (values : List Kept) (kept : Kept) → ShowsValues who step values → Keep kept values
      → IsShownSo who kept step
  shown_so who (Takes slot taken) values kept shows keep =
      λ same. same_Some taken kept (sym shows ∙ ap (slice_get values) same ∙ keep)
  shown_so who (Posts to frame action posted) values kept shows keep = tt
  shown_so who (Fetches frame) values kept shows keep = tt
  shown_so who (Notes note) values kept shows keep = tt
  shown_so who (Gives slot given) values kept shows keep = λ same.
      subst (λ (before : Kept). IsGivenBy who before given)
      (same_Some shows.before kept (sym shows.there ∙ ap (slice_get values) same ∙ keep)) shows.by

  given_keeps : (slot : ℕ) (given kept : Kept) (values : List Kept) → Keep kept values
      → Keep (cond (slot == number) given kept) (slice_set values slot given)
  given_keeps slot given kept values keep = elim (cases_Bool (slot == number)) [
    | inl is ↦
        let same : number ≡ slot = sym (eqb-true slot number is) in
        subst (λ (b : Bool). Keep (cond b given kept) (slice_set values slot given)) (sym is)
        (subst (λ (slot : ℕ). Keep given (slice_set values slot given)) same
        (slice_get-set_same values number given (slice_get_within values number kept keep)))
    | inr is ↦
        let apart : number ≢ slot = λ same. wrong slot is (sym same) in
        subst (λ (b : Bool). Keep (cond b given kept) (slice_set values slot given)) (sym is)
        (slice_get-set_other values slot number given apart ∙ keep)
  ]
    where
      wrong : (slot : ℕ) → (slot == number) ≡ false → slot ≡ number → ⊥
      wrong slot is same = let both : true ≡ false = sym (eq-eqb slot number same) ∙ is in cc

  step_keeps : (who : ℕ) (step : MailStep) (values : List Kept) (kept : Kept) → Keep kept values → Keep (kept_after kept step) (values_after step values)
  step_keeps who (Posts to frame action posted) values kept keep = keep
  step_keeps who (Fetches frame) values kept keep = keep
  step_keeps who (Notes note) values kept keep = keep
  step_keeps who (Takes slot taken) values kept keep = keep
  step_keeps who (Gives slot given) values kept keep = given_keeps slot given kept values keep

  -- it keeps no segment value after a step either
  still_none : (who : ℕ) (step : MailStep) (values : List Kept) (kept : Kept) → ShowsValues who step values → Keep kept values → IsNoSegs kept
      → IsNoSegs (kept_after kept step)
  still_none who (Posts to frame action posted) values kept shows keep none = none
  still_none who (Fetches frame) values kept shows keep none = none
  still_none who (Notes note) values kept shows keep none = none
  still_none who (Takes slot taken) values kept shows keep none = none
  still_none who (Gives slot given) values kept shows keep none = by_test (slot == number) refl
    where
      by_test : (b : Bool) → (slot == number) ≡ b → IsNoSegs (cond b given kept)
      by_test true is =
          let same : shows.before ≡ kept =
          same_Some shows.before kept (sym shows.there ∙ ap (slice_get values) (eqb-true slot number is) ∙ keep) in
          no_segs_given who shows.before given shows.by (subst IsNoSegs (sym same) none)
      by_test false is = none

  -- a step that gives neither a heap nor names leaves what the slot keeps
  other_keeps : (who : ℕ) (step : MailStep) (values : List Kept) (kept : Kept) → IsNoGive step → ShowsValues who step values → Keep kept values
      → IsNoSegs kept → kept_after kept step ≡ kept
  other_keeps who (Posts to frame action posted) values kept is shows keep none = refl
  other_keeps who (Fetches frame) values kept is shows keep none = refl
  other_keeps who (Notes note) values kept is shows keep none = refl
  other_keeps who (Takes slot taken) values kept is shows keep none = refl
  other_keeps who (Gives slot (Heap heap pen)) values kept is shows keep none = absurd is
  other_keeps who (Gives slot (Names names)) values kept is shows keep none = absurd is
  other_keeps who (Gives slot (Segments segs)) values kept is shows keep none = by_test (slot == number) refl
    where
      by_test : (b : Bool) → (slot == number) ≡ b → cond b (Segments segs) kept ≡ kept
      by_test true is =
          let same : shows.before ≡ kept =
          same_Some shows.before kept (sym shows.there ∙ ap (slice_get values) (eqb-true slot number is) ∙ keep) in
          absurd (no_segs_given who shows.before (Segments segs) shows.by (subst IsNoSegs (sym same) none))
      by_test false is = refl

  -- steps that are on no slot
  abbrev pub IsOnNone : MailStep → Type 0
  IsOnNone (Takes slot kept) = ⊥
  IsOnNone (Gives slot kept) = ⊥
  IsOnNone _ = ⊤

  none_after : (kept : Kept) (step : MailStep) → IsOnNone step → kept_after kept step ≡ kept
  none_after kept (Posts to frame action posted) none = refl
  none_after kept (Fetches frame) none = refl
  none_after kept (Notes note) none = refl
  none_after kept (Takes slot taken) none = absurd none
  none_after kept (Gives slot given) none = absurd none

  along_none : (who : ℕ) (steps : List MailStep) (kept last : Kept) → AllByRecursion IsOnNone steps → AreAlong who kept steps last → last ≡ kept
  along_none who [] kept last none along = along
  along_none who (step ∷ steps) kept last none along =
      along_none who steps (kept_after kept step) last none.1 along.1 ∙ none_after kept step none.0

  -- those before them leave what all leave
  pub along_front : (who : ℕ) (steps more : List MailStep) (kept last : Kept) → AllByRecursion IsOnNone more
      → AreAlong who kept (steps ++ more) last → AreAlong who kept steps last
  along_front who [] more kept last none along = along_none who more kept last none along
  along_front who (step ∷ steps) more kept last none along =
      (along.0, along_front who steps more (kept_after kept step) last none along.1)

  -- what is left of the others' steps
  further : (count who maker : ℕ) (step : MailStep) (steps : List (ℕ × MailStep))
      → ((other : ℕ) → other < count → other ≢ who → GiveNoHeap (steps_of other ((maker, step) ∷ steps)))
      → (other : ℕ) → other < count → other ≢ who → GiveNoHeap (steps_of other steps)
  further count who maker step steps others other below apart =
      ⊎_elim
      (λ (same : maker ≡ other).
      (subst GiveNoHeap (steps_here other step steps)
      (subst (λ (maker : ℕ). GiveNoHeap (steps_of other ((maker, step) ∷ steps))) same (others other below apart))).1)
      (λ (else : maker ≢ other). subst GiveNoHeap (steps_elsewhere other maker step steps else) (others other below apart))
      (cases_eq maker other)

  -- what the slot keeps along the steps of the one participant, and what it keeps at last
  pub record IsKeptAlong (who : ℕ) (kept : Kept) (steps : List MailStep) (new : List Kept) : Type 0 where
    pub last : Kept
    pub keep : Keep last new
    pub along : AreAlong who kept steps last
    pub none : IsNoSegs last

  pub kept_along : (count who : ℕ) (steps : List (ℕ × MailStep)) (old new : List Kept) (kept : Kept) → IsKeptBy count steps old new
      → ((other : ℕ) → other < count → other ≢ who → GiveNoHeap (steps_of other steps)) → Keep kept old → IsNoSegs kept
      → IsKeptAlong who kept (steps_of who steps) new
  kept_along count who [] old new kept by others keep none = record {
    last = kept;
    keep = ap (λ (values : List Kept). slice_get values number) by ∙ keep;
    along = refl;
    none = none;
  }
  kept_along count who (step ∷ steps) old new kept by others keep none =
      let rest : IsKeptAlong who (kept_after kept step.1) (steps_of who steps) new =
      kept_along count who steps (values_after step.1 old) new (kept_after kept step.1) by.1
      (further count who step.0 step.1 steps others) (step_keeps step.0 step.1 old kept keep)
      (still_none step.0 step.1 old kept by.0.shows keep none) in
      ⊎_elim
      (λ (same : step.0 ≡ who). record {
        last = rest.last;
        keep = rest.keep;
        along = subst (λ (maker : ℕ). AreAlong who kept (steps_of who ((maker, step.1) ∷ steps)) rest.last) (sym same)
            (subst (λ (own : List MailStep). AreAlong who kept own rest.last) (sym (steps_here who step.1 steps))
            (shown_so who step.1 old kept (subst (λ (maker : ℕ). ShowsValues maker step.1 old) same by.0.shows) keep, rest.along));
        none = rest.none;
      })
      (λ (apart : step.0 ≢ who).
      let its : IsNoGive step.1 =
      (subst GiveNoHeap (steps_here step.0 step.1 steps) (others step.0 by.0.declared apart)).0 in
      let same : kept_after kept step.1 ≡ kept = other_keeps step.0 step.1 old kept its by.0.shows keep none in
      record {
        last = rest.last;
        keep = rest.keep;
        along = subst (λ (own : List MailStep). AreAlong who kept own rest.last) (sym (steps_elsewhere who step.0 step.1 steps apart))
            (subst (λ (kept : Kept). AreAlong who kept (steps_of who steps) rest.last) same rest.along);
        none = rest.none;
      })
      (cases_eq step.0 who)

  -- where nobody gives a heap or names back, it keeps what it did
  pub kept_still : (count : ℕ) (steps : List (ℕ × MailStep)) (old new : List Kept) (kept : Kept) → IsKeptBy count steps old new
      → ((who : ℕ) → who < count → GiveNoHeap (steps_of who steps)) → Keep kept old → IsNoSegs kept → Keep kept new
  kept_still count [] old new kept by all keep none = ap (λ (values : List Kept). slice_get values number) by ∙ keep
  kept_still count (step ∷ steps) old new kept by all keep none =
      let its : IsNoGive step.1 = (subst GiveNoHeap (steps_here step.0 step.1 steps) (all step.0 by.0.declared)).0 in
      let same : kept_after kept step.1 ≡ kept = other_keeps step.0 step.1 old kept its by.0.shows keep none in
      kept_still count steps (values_after step.1 old) new kept by.1
      (λ who below. further count count step.0 step.1 steps (λ other below apart. all other below) who below
      (λ (same : who ≡ count). absurd (omega (arith, below, same))))
      (subst (λ (kept : Kept). Keep kept (values_after step.1 old)) same (step_keeps step.0 step.1 old kept keep)) none

-- the names of a hall that opens, or hands out
pub opened_names : (segs : SegsView) (names : NamesView) (heaps : List HeldHeap) (number : ℕ) → length heaps ≡ number
    → slice_get (map (λ (slot : SlotView). slot.kept) (slots_of heaps segs names)) (suc number) ≡ Some (Names names)
opened_names segs names [] zero count = refl
opened_names segs names [] (suc number) count = cc
opened_names segs names (heap ∷ heaps) zero count = cc
opened_names segs names (heap ∷ heaps) (suc number) count = opened_names segs names heaps number (omega (arith, count))
