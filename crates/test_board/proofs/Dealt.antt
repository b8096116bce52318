-- The passes of each of the two to both mailboxes.
use Rattle.std.proofs.Common.{◌≡◌, ◌∙◌, ℕ, zero, suc, List, [], ◌∷◌, map, get_or, Some, refl, sym, ap, subst}
use Rattle.std.specs.List.{slice_get, range_with_len}
use Rattle.std.proofs.lemmas.Option.{none-some, same_Some}
use Rattle.hp_mail.specs.PassView.{MailboxView, PassView, new_pass}
use Rattle.hp_chair.specs.Places.{ArePlaces}
use Rattle.hp_chair.proofs.ChairOpens.{places_new}

-- two passes of a new mailbox are those of the participants 0 and 1
pub record AreBoth (mailbox : MailboxView) (owner : ℕ) (first second : PassView) : Type 0 where
  pub first_is : first ≡ new_pass mailbox.id 2 owner 0
  pub second_is : second ≡ new_pass mailbox.id 2 owner 1

pub both_passes : (mailbox : MailboxView) (owner : ℕ) (first second : PassView) (passes : List PassView)
    → passes ≡ map (new_pass mailbox.id 2 owner) (range_with_len 0 2) → passes ≡ first ∷ second ∷ [] → AreBoth mailbox owner first second
both_passes mailbox owner first second passes dealt are =
    let all : first ∷ second ∷ [] ≡ map (new_pass mailbox.id 2 owner) (range_with_len 0 2) = sym are ∙ dealt in
    record {
      first_is = ap (λ (l : List PassView). get_or l 0 first) all;
      second_is = ap (λ (l : List PassView). get_or l 1 second) all;
    }

-- a participant's passes to two mailboxes, of which each is owned by the participant of its number
module _ (who : ℕ) (first second : MailboxView) (one other : PassView) (one_is : one ≡ new_pass first.id 2 0 who)
    (other_is : other ≡ new_pass second.id 2 1 who) where
  pass_at : (place : ℕ) (mailbox : MailboxView) (pass : PassView) → slice_get (first ∷ second ∷ []) place ≡ Some mailbox
      → slice_get (one ∷ other ∷ []) place ≡ Some pass → pass ≡ new_pass mailbox.id 2 place who
  pass_at zero mailbox pass box there =
      sym (same_Some one pass there) ∙ (one_is ∙ ap (λ (m : MailboxView). new_pass m.id 2 0 who) (same_Some first mailbox box))
  pass_at (suc zero) mailbox pass box there =
      sym (same_Some other pass there) ∙ (other_is ∙ ap (λ (m : MailboxView). new_pass m.id 2 1 who) (same_Some second mailbox box))
  pass_at (suc (suc place)) mailbox pass box there = absurd (none-some pass there)

  -- are at the places of these, where these are what stands in the vectors
  pub dealt_to : (boxes : List MailboxView) (passes : List PassView) → boxes ≡ first ∷ second ∷ [] → passes ≡ one ∷ other ∷ []
      → ArePlaces who [] boxes passes
  dealt_to boxes passes boxes_are passes_are =
      subst (λ (l : List MailboxView). ArePlaces who [] l passes) (sym boxes_are)
      (subst (λ (l : List PassView). ArePlaces who [] (first ∷ second ∷ []) l) (sym passes_are)
      (places_new who (first ∷ second ∷ []) (one ∷ other ∷ []) refl pass_at))
