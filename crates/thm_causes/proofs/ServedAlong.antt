-- What one serving makes of a hall in which that participant alone did something: of what all share, and of the participant.
use Rattle.std.proofs.Common.{◌≡◌, ◌∙◌, ℕ, ◌<◌, Bool, List, length, Some, ap, subst, arith}
use Rattle.std.proofs.lemmas.List.{length-map}
use Rattle.hp_plain.specs.Course.{IsCourse}
use Rattle.hp_plain.specs.HallView.{HallView}
use Rattle.hp_hall.specs.Mail.{MailStep}
use Rattle.hp_serve.specs.Denials.{Denials}
use Rattle.hp_serve.specs.Coordinating.{IsCoreServed}
use Rattle.hp_serve.specs.Party.{Party}
use Rattle.hp_serve.specs.Serving.{IsMemberServed}
use Rattle.thm_causes.specs.Servings.{CoreServes, MemberServes}
use Rattle.thm_causes.specs.Shared.{IsSharedIn, MakesAll, Shared}
use Rattle.thm_causes.specs.RunStates.{IsInOrder}
use Rattle.thm_causes.proofs.CoreServings.{coordinates}
use Rattle.thm_causes.proofs.MemberSteps.MemberServings.{members_serve}
use Rattle.thm_causes.proofs.ServesStill.{core_still, member_still}
use Rattle.thm_causes.proofs.SharedAlong.{shared_along}
use Rattle.thm_causes.proofs.StepsAlong.{made_by}

-- what is shared in the hall then, where such a serving made it
pub record LeadsTo (Serves : Shared → Type 0) (hall : HallView) : Type 0 where
  pub at : Shared
  pub shared : IsSharedIn hall at
  pub order : IsInOrder hall
  pub serves : Serves at

module _ (old new : HallView) (party after : Party) (steps : List MailStep) (moved : Bool) (course : IsCourse old new)
    (are : course.steps ≡ made_by party.me steps) (declared : party.me < length old.owns) (order : IsInOrder old) (at : Shared)
    (shared : IsSharedIn old at) where
  -- each participant has a mailbox there
  has_boxes : length at.boxes ≡ length old.owns
  has_boxes = ap length shared.boxes ∙ order.boxes

  -- a participant without a coordinator
  pub member_along : IsMemberServed party after steps (Some moved) → LeadsTo (λ next. MemberServes at next party after moved) new
  member_along served =
      let along = shared_along old new party.me steps course are (member_still party after steps moved served) order at shared in
      record {
        at = along.at;
        shared = along.shared;
        order = along.order;
        serves = members_serve at along.at party after steps moved (omega (arith, declared, has_boxes)) served along.made;
      }

  -- participant 0
  pub core_along : {denies : Denials} → party.me ≡ 0 → IsCoreServed denies (length old.owns) party after steps (Some moved)
      → LeadsTo (λ next. CoreServes denies (length old.owns) at next party after moved) new
  core_along primary served =
      let along =
      shared_along old new party.me steps course are (core_still (length old.owns) party after steps moved served) order at shared in
      record {
        at = along.at;
        shared = along.shared;
        order = along.order;
        serves = coordinates _ (length old.owns) at along.at party after steps moved primary has_boxes
            (ap length shared.numbers ∙ length-map old.owns (λ own. own.number)) (omega (arith, declared, primary))
            (omega (arith, order.few)) served (subst (λ (who : ℕ). MakesAll who steps at along.at) primary along.made);
      }
