-- What a serving of a member leaves of mailboxes, of the clock, and of an ask that is over.
use Rattle.std.proofs.Common.{◌≡◌, ◌≢◌, ◌∙◌, ◌||◌, ◌≤◌, ℕ, Bool, true, false, List, [], ◌∷◌, drop, Some, refl, sym, ap, subst, arith, true≢false}
use Rattle.std.specs.Prelude.{slice_get}
use Rattle.std.specs.List.{list_any}
use Rattle.hp_base.specs.declared.caught.Caught.{Caught}
use Rattle.hp_base.specs.declared.caught.Caught.TheVariants as caught
use Rattle.hp_core.specs.Core.{Core}
use Rattle.hp_core.specs.declared.asked.Asked.{Asked}
use Rattle.hp_core.specs.declared.asked.Asked.TheVariants as want
use Rattle.hp_core.specs.declared.phase.Phase.{Phase}
use Rattle.hp_core.specs.declared.phase.Phase.TheVariants.{Idle, Waiting}
use Rattle.hp_core.specs.declared.phase.Round.{Round}
use Rattle.hp_frame.specs.declared.frame.Frame.{Frame}
use Rattle.hp_frame.specs.declared.message.Body.{Body}
use Rattle.hp_frame.specs.declared.message.Body.TheVariants.{Alloc, Answer, Free, Sync}
use Rattle.hp_plain.specs.Boxes.{box_of}
use Rattle.hp_segs.specs.SegsView.{closed_number}
use Rattle.hp_serve.specs.Party.{Party}
use Rattle.hp_serve.specs.Serving as serving
use Rattle.thm_causes.specs.RoundTrip.{HasCoordinator, IsBase, IsClosed, IsToDo, Setting, AskPhase, RunState, is_sync, mail_of}
use Rattle.thm_causes.specs.Servings.{MemberServes, numbered}
use Rattle.thm_causes.specs.Shared.{Shared, fetched_by}
use Rattle.thm_causes.specs.Waits.{is_last}
use Rattle.thm_causes.proofs.Said.{first_said, index_unset, none_said, unsaid_none}
use Rattle.thm_causes.proofs.Sharing.{numbered_clock}

-- a mailbox is empty where it says nothing, and says nothing where it is empty
pub box_empty : (set : Setting) (world : RunState) (who : ℕ) → IsBase set world → mail_of world who ≡ [] → box_of world.shared.boxes who ≡ []
box_empty set world who base none = unsaid_none (box_of world.shared.boxes who) (mail_of world who) (base.said who) none

pub mail_empty : (set : Setting) (world : RunState) (who : ℕ) → IsBase set world → box_of world.shared.boxes who ≡ [] → mail_of world who ≡ []
mail_empty set world who base none = none_said (box_of world.shared.boxes who) (mail_of world who) (base.said who) none

-- numbers alone change where a participant has caught up
pub numbered_boxes : (who : ℕ) (caught : Caught) (at : Shared) → (numbered who caught at).boxes ≡ at.boxes
numbered_boxes who caught.Done at = refl
numbered_boxes who (caught.Refused row call) at = refl
numbered_boxes who (caught.Elsewhere row call got) at = refl

clock_of : (new old : Shared) → new ≡ old → new.clock ≡ old.clock
clock_of new old same = ap (λ (at : Shared). at.clock) same

-- the clock stands
pub member_clock : (old new : Shared) (party after : Party) (moved : Bool) → MemberServes old new party after moved → new.clock ≡ old.clock
member_clock old new party after _ (MemberServes.rests none new_is after_is) = clock_of new old new_is
member_clock old new party after _ (MemberServes.drops frame more box nothing new_is after_is) = clock_of new (fetched_by party.me old) new_is
member_clock old new party after _ (MemberServes.hears frame more body box says other new_is after_is) =
    clock_of new (fetched_by party.me old) new_is
member_clock old new party after _ (MemberServes.is_out frame more body box says sync out new_is after_is) =
    clock_of new (fetched_by party.me old) new_is
member_clock old new party after _ (MemberServes.obeys frame more body box says sync member obeys) =
    clock_of new _ obeys.shared ∙ numbered_clock party.me obeys.caught (fetched_by party.me old)

box_in : (new old : Shared) (who : ℕ) → new ≡ old → box_of new.boxes who ≡ box_of old.boxes who
box_in new old who same = ap (λ (at : Shared). box_of at.boxes who) same

fetched_apart : (at : Shared) (me other : ℕ) → other ≢ me → box_of (fetched_by me at).boxes other ≡ box_of at.boxes other
fetched_apart at me other apart = index_unset at.boxes me other (drop 1 (box_of at.boxes me)) [] apart

-- of others it fills participant 0's mailbox alone
pub member_boxes : (old new : Shared) (party after : Party) (moved : Bool) → MemberServes old new party after moved → (other : ℕ)
    → other ≢ party.me → other ≢ 0 → box_of new.boxes other ≡ box_of old.boxes other
member_boxes old new party after _ (MemberServes.rests none new_is after_is) other apart beside = box_in new old other new_is
member_boxes old new party after _ (MemberServes.drops frame more box nothing new_is after_is) other apart beside =
    box_in new (fetched_by party.me old) other new_is ∙ fetched_apart old party.me other apart
member_boxes old new party after _ (MemberServes.hears frame more body box says its new_is after_is) other apart beside =
    box_in new (fetched_by party.me old) other new_is ∙ fetched_apart old party.me other apart
member_boxes old new party after _ (MemberServes.is_out frame more body box says sync out new_is after_is) other apart beside =
    box_in new (fetched_by party.me old) other new_is ∙ fetched_apart old party.me other apart
member_boxes old new party after _ (MemberServes.obeys frame more body box says sync member obeys) other apart beside =
    box_in new _ other obeys.shared
    ∙ index_unset (numbered party.me obeys.caught (fetched_by party.me old)).boxes 0 other _ [] beside
    ∙ ap (λ (boxes : List (List Frame)). box_of boxes other) (numbered_boxes party.me obeys.caught (fetched_by party.me old))
    ∙ fetched_apart old party.me other apart

-- nothing is left for it
pub record IsMemberRest (old new : Shared) (party after : Party) : Type 0 where
  pub empty : box_of old.boxes party.me ≡ []
  pub same : new ≡ old
  pub stays : after ≡ party

pub member_rests : (old new : Shared) (party after : Party) → MemberServes old new party after false → IsMemberRest old new party after
member_rests old new party after (MemberServes.rests none new_is after_is) = record { empty = none; same = new_is; stays = after_is }

same_sync : (body : Body) → serving.is_sync body ≡ true → is_sync body ≡ true
same_sync (Alloc from number heap socket page size align bound flags) is = is
same_sync (Free from number heap address len) is = is
same_sync (Sync generation round) is = refl
same_sync (Answer from number what code) is = is

sync_first : (bodies : List Body) (body : Body) (rest : List Body) → bodies ≡ body ∷ rest → is_sync body ≡ true → list_any is_sync bodies ≡ true
sync_first bodies body rest is sync =
    ap (λ (bodies : List Body). list_any is_sync bodies) is ∙ ap (λ (first : Bool). first || list_any is_sync rest) sync

-- without a SYNC in its mailbox it fills no other
pub first_stays : (set : Setting) (world : RunState) (who : ℕ) (at : Shared) (party after : Party) (moved : Bool) → IsBase set world
    → party.me ≡ who → who ≢ 0 → MemberServes world.shared at party after moved → list_any is_sync (mail_of world who) ≡ false
    → box_of at.boxes 0 ≡ box_of world.shared.boxes 0
first_stays set world who at party after _ base me beside (MemberServes.rests none new_is after_is) no_sync = box_in at world.shared 0 new_is
first_stays set world who at party after _ base me beside (MemberServes.drops frame more box nothing new_is after_is) no_sync =
    box_in at (fetched_by party.me world.shared) 0 new_is
    ∙ fetched_apart world.shared party.me 0 (λ (same : 0 ≡ party.me). beside (sym (same ∙ me)))
first_stays set world who at party after _ base me beside (MemberServes.hears frame more body box says its new_is after_is) no_sync =
    box_in at (fetched_by party.me world.shared) 0 new_is
    ∙ fetched_apart world.shared party.me 0 (λ (same : 0 ≡ party.me). beside (sym (same ∙ me)))
first_stays set world who at party after _ base me beside (MemberServes.is_out frame more body box says sync out new_is after_is) no_sync =
    box_in at (fetched_by party.me world.shared) 0 new_is
    ∙ fetched_apart world.shared party.me 0 (λ (same : 0 ≡ party.me). beside (sym (same ∙ me)))
first_stays set world who at party after _ base me beside (MemberServes.obeys frame more body box says sync member obeys) no_sync =
    let here : box_of world.shared.boxes who ≡ frame ∷ more = ap (box_of world.shared.boxes) (sym me) ∙ box in
    let said = first_said (box_of world.shared.boxes who) (mail_of world who) frame more body (base.said who) here says in
    absurd (true≢false (sym (sync_first (mail_of world who) body _ said (same_sync body sync)) ∙ no_sync))

-- AN ASK THAT IS OVER

-- nothing is under way, and the ask is closed
pub record IsDoneWith (set : Setting) (call : Asked) (world : RunState) : Type 0 where
  pub holds : Bool
  pub coordinator : HasCoordinator set world Idle call holds
  pub closed : IsClosed call world

pub done_with : (set : Setting) (call : Asked) (sent : ℕ) (leads : Bool) (world : RunState) (stage : AskPhase set call sent leads world)
    → is_last stage ≡ true → IsDoneWith set call world
done_with set call sent leads world (AskPhase.fresh clock unanswered coordinator alone to_do copies some empty doubled level) last = cc
done_with set call sent leads world (AskPhase.lost clock unanswered coordinator alone to_do none empty doubled back loses) last = cc
done_with set call sent leads world
    (AskPhase.growing round holds kind from number unanswered coordinator its to_do clock bodies doubled follow awaited level) last = cc
done_with set call sent leads world
    (AskPhase.settling round since holds kind from number unanswered coordinator alone closed early clock logged bodies doubled waits
    answered level)
    last = cc
done_with set call sent leads world (AskPhase.over holds coordinator alone closed bodies doubled told answered level) last =
    record { holds = holds; coordinator = coordinator; closed = closed }

-- participant 0 has one coordinator
pub one_phase : (set : Setting) (call : Asked) (world : RunState) (other : RunState) (phase its : Phase) (holds held : Bool)
    → HasCoordinator set world phase call holds → HasCoordinator set other its call held → slice_get other.parties 0 ≡ slice_get world.parties 0
    → phase ≡ its
one_phase set call world other phase its holds held here there same =
    let found : Some here.primary ≡ Some there.primary = sym here.there ∙ sym same ∙ there.there in
    let parties : here.primary ≡ there.primary = cc in
    let cores : Some here.is.its ≡ Some there.is.its =
    sym here.is.there ∙ ap (λ (party : Party). party.core) parties ∙ there.is.there in
    let core : here.is.its ≡ there.is.its = cc in
    sym here.is.phase_is ∙ ap (λ (core : Core). core.phase) core ∙ there.is.phase_is

pub never_waits : (round : Round) (since : ℕ) → Waiting round since ≡ Idle → ⊥
never_waits round since same = cc

pub open_closed : (call : Asked) (world other : RunState) → other.shared ≡ world.shared → IsToDo call world → IsClosed call other → ⊥
open_closed (want.Grow ask) world other same to_do closed =
    omega (arith, to_do.0, subst (λ (at : Shared). ask.number ≤ closed_number at.segs.asks ask.from) same closed)
open_closed (want.Shrink from number) world other same to_do closed =
    omega (arith, to_do, subst (λ (at : Shared). number ≤ closed_number at.segs.asks from) same closed)
