-- A step of the coordinator, where what it makes is known.
use Rattle.std.proofs.Common.{◌≡◌, ◌∙◌, ℕ, Some, sym, ap, subst}
use Rattle.std.proofs.lemmas.Option.{same_Some}
use Rattle.hp_core.specs.Core.{Core, Stepped, unchanged}
use Rattle.hp_core.specs.declared.event.CoreEvent.{CoreEvent}
use Rattle.hp_core.specs.declared.out.Out.{Out}
use Rattle.hp_core.specs.declared.out.Out.TheVariants as out
use Rattle.hp_segs.specs.Standing.{IsArmed}
use Rattle.hp_segs.specs.SegsView.{SegsView}
use Rattle.hp_segs.specs.Sound.{IsSound}
use Rattle.hp_serve.specs.Denials.{Denials}
use Rattle.hp_serve.specs.Coordinating.{stepping, with_core}
use Rattle.hp_serve.specs.Party.{Party}
use Rattle.thm_causes.specs.Servings.{CarriesOut, Handles, PostsFor, Steps}
use Rattle.thm_causes.specs.Shared.{Shared, with_segs}
use Rattle.thm_causes.proofs.CopyStages.CopiesTaken.{IsTaken}
use Rattle.thm_causes.proofs.StartSteps.StartingAlong.{carries_posts}

-- the coordinator made that step, and what it answered was carried out
pub record MakesStep (count : ℕ) (stepped : Stepped) (old new : Shared) (party after : Party) : Type 0 where
  pub sound : IsSound stepped.segs
  pub armed : IsArmed old.segs → IsArmed stepped.segs
  pub carries : CarriesOut count (with_segs stepped.segs old) new (with_core stepped.core party) after stepped.out

module _ {denies : Denials} (count : ℕ) (event : CoreEvent) (old new : Shared) (party after : Party) (stepped : Stepped) where
  stepped_by : (core next : Core) (answer : Out) (mid : Shared) (steps : Steps denies event core answer next old mid)
      → stepping steps.denied event core old.segs ≡ stepped
      → CarriesOut count mid new (with_core next party) after answer → MakesStep count stepped old new party after
  stepped_by core next answer mid steps made carries =
      let shared : mid ≡ with_segs stepped.segs old = steps.shared ∙ ap (λ (one : Stepped). with_segs one.segs old) made in
      let its_core : next ≡ stepped.core = steps.core_is ∙ ap (λ (one : Stepped). one.core) made in
      let its_out : answer ≡ stepped.out = steps.answer_is ∙ ap (λ (one : Stepped). one.out) made in
      record {
        sound = subst (λ (at : Shared). IsSound at.segs) shared steps.sound;
        armed = λ before. subst (λ (at : Shared). IsArmed at.segs) shared (steps.armed before);
        carries =
            subst (λ (one : Out). CarriesOut count (with_segs stepped.segs old) new (with_core stepped.core party) after one) its_out
            (subst (λ (one : Core). CarriesOut count (with_segs stepped.segs old) new (with_core one party) after answer) its_core
            (subst (λ (at : Shared). CarriesOut count at new (with_core next party) after answer) shared carries));
      }

-- an event that was handed to the coordinator
pub handled : {denies : Denials} (count : ℕ) (event : CoreEvent) (core : Core) (old new : Shared) (party after : Party) (stepped : Stepped)
    → (handles : Handles denies count event old new party after) → party.core ≡ Some core
    → stepping handles.steps.denied event core old.segs ≡ stepped → MakesStep count stepped old new party after
handled count event core old new party after stepped handles there made =
    let same : handles.core ≡ core = same_Some handles.core core (sym handles.there ∙ there) in
    stepped_by count event old new party after stepped handles.core handles.next handles.answer handles.mid handles.steps
    (ap (λ (one : Core). stepping handles.steps.denied event one old.segs) same ∙ made) handles.carries

-- where nothing is answered nothing changes
pub carried_nothing : (count : ℕ) (old new : Shared) (party after : Party) → CarriesOut count old new party after out.Nothing
    → (new ≡ old) × (after ≡ party)
carried_nothing count old new party after carries =
    nothing (carries_posts count old new party after out.Nothing (λ must. must) carries)
  where
    nothing : PostsFor count old new party after out.Nothing → (new ≡ old) × (after ≡ party)
    nothing (PostsFor.nothing same kept) = (same, kept)

-- a step that answers nothing is taken
pub taken_by : (count : ℕ) (next : Core) (segs : SegsView) (old new : Shared) (party after : Party)
    → MakesStep count (unchanged next segs) old new party after → IsTaken segs next old new party after
taken_by count next segs old new party after step =
    let same = carried_nothing count (with_segs segs old) new (with_core next party) after step.carries in
    record { shared = same.0; after_is = same.1; sound = step.sound; armed = step.armed }
