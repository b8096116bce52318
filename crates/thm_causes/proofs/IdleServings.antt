-- A participant whose mailbox is empty, and whose coordinator, if it has one, is idle and holds no ask, does nothing where it is served.
use Rattle.std.proofs.Common.{◌≡◌, ◌∙◌, ◌&&◌, ℕ, Bool, false, true≢false, List, [], ◌∷◌, replicate, Option, Some, None, inl, inr, refl, sym, ap}
use Rattle.std.specs.Prelude.{is_some}
use Rattle.std.specs.List.{list_any}
use Rattle.std.proofs.lemmas.Option.{none-some}
use Rattle.hp_core.specs.Core.{Core, due_of, holds_ask, is_idle}
use Rattle.hp_core.specs.declared.asked.Asked.{Asked}
use Rattle.hp_core.specs.declared.event.CoreEvent.TheVariants.{Poll}
use Rattle.hp_core.specs.declared.phase.Phase.{Phase}
use Rattle.hp_core.specs.declared.phase.Phase.TheVariants.{Idle}
use Rattle.hp_frame.specs.declared.frame.Frame.{Frame}
use Rattle.hp_plain.specs.Boxes.{box_of}
use Rattle.hp_serve.specs.Denials.{Denials}
use Rattle.hp_serve.specs.Falling.{IsDue}
use Rattle.hp_serve.specs.Party.{Party, due_in}
use Rattle.thm_causes.specs.Servings.{CoreServes, MemberServes}
use Rattle.thm_causes.specs.Shared.{Shared}

-- a participant did nothing
pub record DidNothing (old new : Shared) (party after : Party) (moved : Bool) : Type 0 where
  pub same : new ≡ old
  pub stays : after ≡ party
  pub still : moved ≡ false

found_none : (box : List Frame) (frame : Frame) (more : List Frame) → box ≡ frame ∷ more → box ≡ [] → ⊥
found_none box frame more is none = cc

-- a member does nothing where its mailbox is empty
pub member_idle : (old new : Shared) (party after : Party) (moved : Bool) → MemberServes old new party after moved
    → box_of old.boxes party.me ≡ [] → DidNothing old new party after moved
member_idle old new party after _ (MemberServes.rests none new_is after_is) empty = record { same = new_is; stays = after_is; still = refl }
member_idle old new party after _ (MemberServes.drops frame more box nothing new_is after_is) empty =
    absurd (found_none _ frame more box empty)
member_idle old new party after _ (MemberServes.hears frame more body box says its new_is after_is) empty =
    absurd (found_none _ frame more box empty)
member_idle old new party after _ (MemberServes.is_out frame more body box says sync out new_is after_is) empty =
    absurd (found_none _ frame more box empty)
member_idle old new party after _ (MemberServes.obeys frame more body box says sync member obeys) empty =
    absurd (found_none _ frame more box empty)

-- nothing is under way, and no ask is held
pub record IsIdleCore (core : Option Core) : Type 0 where
  pub its : Core
  pub there : core ≡ Some its
  pub phase : its.phase ≡ Idle
  pub held : its.held ≡ replicate 16 None

-- such a coordinator has no deadline
pub idle_due : (core : Option Core) → IsIdleCore core → due_in core ≡ None
idle_due core idle = ap due_in idle.there ∙ ap (λ (phase : Phase). due_of idle.its.deadline phase) idle.phase

idle_holds : (core : Core) → core.phase ≡ Idle → core.held ≡ replicate 16 None → holds_ask core ≡ false
idle_holds core phase held =
    ap (λ (phase : Phase). is_idle phase && list_any is_some core.held) phase
    ∙ ap (λ (held : List (Option Asked)). list_any is_some held) held

-- and no poll is due to it
none_due : (core : Option Core) (now : ℕ) → IsIdleCore core → IsDue core (Poll now []) → ⊥
none_due None now idle due = due
none_due (Some core) now idle due =
    let one : core ≡ idle.its = cc in
    elim due [
      | inl holds ↦ true≢false
          (sym holds
          ∙ idle_holds core (ap (λ (core : Core). core.phase) one ∙ idle.phase) (ap (λ (core : Core). core.held) one ∙ idle.held))
      | inr passed ↦ none-some passed.due (sym (idle_due (Some core) idle) ∙ passed.its_due)
    ]

-- nor does participant 0 where its coordinator is idle
pub core_idle : {denies : Denials} (count : ℕ) (old new : Shared) (party after : Party) (moved : Bool)
    → CoreServes denies count old new party after moved
    → box_of old.boxes party.me ≡ [] → IsIdleCore party.core → DidNothing old new party after moved
core_idle count old new party after _ (CoreServes.rests none holds to_come new_is after_is) empty idle =
    record { same = new_is; stays = after_is; still = refl }
core_idle count old new party after _ (CoreServes.polls none due polls) empty idle = absurd (none_due party.core old.clock idle due)
core_idle count old new party after _ (CoreServes.drops frame more box nothing new_is after_is) empty idle =
    absurd (found_none _ frame more box empty)
core_idle count old new party after _ (CoreServes.asks frame more body event box says is_ask handles) empty idle =
    absurd (found_none _ frame more box empty)
core_idle count old new party after _ (CoreServes.replied frame more body due box says reply under_way polls) empty idle =
    absurd (found_none _ frame more box empty)
core_idle count old new party after _ (CoreServes.late_reply frame more body box says reply none new_is after_is) empty idle =
    absurd (found_none _ frame more box empty)
core_idle count old new party after _ (CoreServes.hears frame more body box says no_ask other new_is after_is) empty idle =
    absurd (found_none _ frame more box empty)
