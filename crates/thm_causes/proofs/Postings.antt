-- What participant 0 posts for its coordinator, of what is shared.
use Rattle.std.proofs.Common.{◌≡◌, ◌∙◌, ℕ, zero, suc, Bool, List, if◌then◌else◌, sym, ap, subst}
use Rattle.hp_base.specs.Plans.{action_of}
use Rattle.hp_base.specs.declared.plan_entry.MsgKind.TheVariants as message
use Rattle.hp_base.specs.declared.plan_entry.PlanEntry.{PlanEntry}
use Rattle.hp_core.specs.declared.out.Out.{Out}
use Rattle.hp_frame.specs.declared.frame.Frame.{Frame}
use Rattle.hp_hall.specs.Mail.{MailStep}
use Rattle.hp_serve.specs.Party.{Party, one_more}
use Rattle.hp_serve.specs.Posting.{AreTold, IsPosted, IsToldOne, is_told, syncs_after, times_sent}
use Rattle.thm_causes.specs.Servings.{PostsFor, synced}
use Rattle.thm_causes.specs.Shared.{MakesAll, Shared, posted_to}
use Rattle.thm_causes.proofs.Sharing.{cut_at, posted_one}

-- a SYNC was posted to one, or none
told_one : (plan : List PlanEntry) (frame : Frame) (counts : List ℕ) (to : ℕ) (told : Bool) (steps : List MailStep) (old new : Shared)
    → IsToldOne plan frame counts to told steps → MakesAll 0 steps old new
    → new ≡ (if told then posted_to to frame (action_of plan message.Sync to (one_more (times_sent counts to))) old else old)
told_one plan frame counts to told steps old new (IsToldOne.tells posted is did) makes =
    let action = action_of plan message.Sync to (one_more (times_sent counts to)) in
    posted_one 0 to frame action posted old new (subst (λ (steps : List MailStep). MakesAll 0 steps old new) did makes)
    ∙ sym (ap (λ (told : Bool). if told then posted_to to frame action old else old) is)
told_one plan frame counts to told steps old new (IsToldOne.passes is did) makes =
    let action = action_of plan message.Sync to (one_more (times_sent counts to)) in
    subst (λ (steps : List MailStep). MakesAll 0 steps old new) did makes
    ∙ sym (ap (λ (told : Bool). if told then posted_to to frame action old else old) is)

-- to each of so many that is to be told
told_all : (told : ℕ → Bool) (party : Party) (frame : Frame) (n : ℕ) (steps : List MailStep) (old new : Shared)
    → AreTold party.plan party.sent.syncs frame told n steps → MakesAll 0 steps old new → new ≡ synced told party frame n old
unfolding AreTold synced
told_all told party frame zero steps old new are makes = subst (λ (steps : List MailStep). MakesAll 0 steps old new) are makes
told_all told party frame (suc n) steps old new are makes =
    let cut = cut_at 0 are.0 are.1 old new (subst (λ (steps : List MailStep). MakesAll 0 steps old new) are.4 makes) in
    let before = told_all told party frame n are.0 old cut.mid are.2 cut.begins in
    told_one party.plan frame (syncs_after told party.sent.syncs n) (suc n) (told (suc n)) are.1 (synced told party frame n old) new are.3
    (subst (λ (at : Shared). MakesAll 0 are.1 at new) before cut.ends)

-- what is answered was posted
pub posted : (count : ℕ) (party after : Party) (answer : Out) (steps : List MailStep) (old new : Shared)
    → IsPosted count party after answer steps → MakesAll 0 steps old new → PostsFor count old new party after answer
posted count party after answer steps old new (IsPosted.nothing is did after_is) makes =
    subst (PostsFor count old new party after) (sym is)
    (PostsFor.nothing (subst (λ (steps : List MailStep). MakesAll 0 steps old new) did makes) after_is)
posted count party after answer steps old new (IsPosted.syncs generation round members frame is says told after_is) makes =
    subst (PostsFor count old new party after) (sym is)
    (PostsFor.syncs generation round members frame says
    (told_all (is_told count members) party frame 15 steps old new told makes) after_is)
posted count party after answer steps old new (IsPosted.answers to number what good frame sent is asker says did after_is) makes =
    subst (PostsFor count old new party after) (sym is)
    (PostsFor.answers to number what good frame asker says
    (posted_one 0 to frame _ sent old new (subst (λ (steps : List MailStep). MakesAll 0 steps old new) did makes)) after_is)
posted count party after answer steps old new (IsPosted.nobody to number what good is asker did after_is) makes =
    subst (PostsFor count old new party after) (sym is)
    (PostsFor.nobody to number what good asker (subst (λ (steps : List MailStep). MakesAll 0 steps old new) did makes) after_is)
