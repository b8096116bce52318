-- A participant that served and did nothing: what it found, and what that leaves of the mailboxes.
use Rattle.std.proofs.Common.{◌≡◌, ◌≢◌, ℕ, zero, suc, Bool, true, false, List, [], ◌∷◌, drop, set, Option, Some, None, refl, sym, ap, subst, ◌∙◌}
use Rattle.std.specs.List.{slice_get}
use Rattle.std.proofs.lemmas.List.{set-get_or}
use Rattle.hp_frame.specs.declared.frame.Frame.{Frame}
use Rattle.hp_plain.specs.Course.{IsCourse}
use Rattle.hp_plain.specs.HallView.{HallView, HasDone}
use Rattle.hp_hall.specs.Mail.{MailStep, Fetches}
use Rattle.hp_plain.specs.Boxes.{IsMail, box_of}
use Rattle.hp_plain.specs.Meters.{AreMetered, Meters, meters_in}
use Rattle.hp_serve.specs.Denials.{Denials}
use Rattle.hp_serve.specs.Coordinating.{IsCoreServed, IsRested, IsServed}
use Rattle.hp_serve.specs.Party.{Party}
use Rattle.hp_serve.specs.Serving.{IsMemberServed, answer_after}
use Rattle.hp_solo.proofs.Steps.{done_between}
use Rattle.hp_solo.specs.Solo.{FindsNothing, looks_and_finds_nothing}
use Rattle.hp_solo.proofs.SoloSteps.{sole_steps, steps_by}

-- where no first frame comes the mailbox is empty
none_first : (box : List Frame) → None ≡ slice_get box 0 → box ≡ []
none_first [] none = refl
none_first (frame ∷ box) none = cc

-- an empty mailbox is as it was without its first frame
box_left : (boxes : List (List Frame)) (who : ℕ) → box_of boxes who ≡ [] → set boxes who (drop 1 (box_of boxes who)) ≡ boxes
box_left boxes who empty =
    ap (λ (box : List Frame). set boxes who (drop 1 box)) empty ∙ ap (set boxes who) (sym empty) ∙ set-get_or boxes who []

-- what steps of one that looked into its mailbox in vain say of the mailboxes
mail_looked : (me now : ℕ) (old new : List (List Frame)) → IsMail (steps_by me (looks_and_finds_nothing me now)) old new
    → (None ≡ slice_get (box_of old me) 0) × (new ≡ set old me (drop 1 (box_of old me)))
mail_looked zero now old new mailed = (mailed.0, mailed.1.1)
mail_looked (suc who) now old new mailed = mailed

-- and of the clock: a reading was that of the clock, which has stayed
clock_looked : (me now : ℕ) (old new : Meters) → AreMetered (steps_by me (looks_and_finds_nothing me now)) old new
    → looks_and_finds_nothing me now ≡ looks_and_finds_nothing me new.clock
clock_looked zero now old new metered =
    let fetched = metered.1 in
    let read = metered.2.1 in
    let last = metered.2.2 in
    ap (looks_and_finds_nothing zero) (read.shows ∙ sym (ap (λ (meters : Meters). meters.clock) last ∙ read.clock))
clock_looked (suc who) now old new metered = refl

-- where one looked into its mailbox in vain, and nobody did anything else, the mailboxes are as they were
pub found_nothing : (old new : HallView) (me now : ℕ) → IsCourse old new → HasDone old new me (looks_and_finds_nothing me now)
    → ((who : ℕ) → who ≢ me → HasDone old new who []) → FindsNothing old new me
found_nothing old new me now course did others =
    let alone : course.steps ≡ steps_by me (looks_and_finds_nothing me now) =
    sole_steps me (looks_and_finds_nothing me now) course.steps
    (done_between old new me course.steps (looks_and_finds_nothing me now) course.mail did)
    (λ who apart. done_between old new who course.steps [] course.mail (others who apart)) in
    let mailed = mail_looked me now old.boxes new.boxes (subst (λ (steps : List (ℕ × MailStep)). IsMail steps old.boxes new.boxes) alone course.boxes) in
    let read =
    clock_looked me now (meters_in old) (meters_in new)
    (subst (λ (steps : List (ℕ × MailStep)). AreMetered steps (meters_in old) (meters_in new)) alone course.meters) in
    let empty : box_of old.boxes me ≡ [] = none_first (box_of old.boxes me) mailed.0 in
    let boxes : new.boxes ≡ old.boxes = mailed.1 ∙ box_left old.boxes me empty in
    record {
      did = subst (λ (steps : List MailStep). HasDone old new me steps) read did;
      boxes = boxes;
      empty = ap (λ (all : List (List Frame)). box_of all me) boxes ∙ empty;
    }

-- what is answered after something done is never that nothing was
never_behind : (goes : Bool) → answer_after goes ≡ Some false → ⊥
never_behind true is = cc
never_behind false is = cc

-- what a participant has done and become that did nothing
abbrev pub HasRested : Party → Party → List MailStep → Type 0
HasRested party after steps = (now : ℕ) × (steps ≡ looks_and_finds_nothing party.me now) × (after ≡ party)

core_rested : {denies : Denials} → (count : ℕ) (party after : Party) (steps : List MailStep) (answer : Option Bool) → party.me ≡ 0
    → answer ≡ Some false
    → IsCoreServed denies count party after steps answer → HasRested party after steps
core_rested count party after steps answer me still (IsCoreServed.rests more is (IsRested.rests now holds to_come read same answered)) = (
  now,
  is ∙ ap (λ (rest : List MailStep). Fetches None ∷ rest) read ∙ sym (ap (λ (who : ℕ). looks_and_finds_nothing who now) me),
  same,
)
core_rested count party after steps answer me still (IsCoreServed.rests more is (IsRested.polls now polled goes due read handled answered)) =
    absurd (never_behind goes (sym answered ∙ still))
core_rested count party after steps answer me still (IsCoreServed.heeds frame more goes is obeyed answered) =
    absurd (never_behind goes (sym answered ∙ still))

-- any other reads no clock
looks_member : (who now : ℕ) → who ≢ 0 → looks_and_finds_nothing who now ≡ Fetches None ∷ []
looks_member zero now apart = absurd (apart refl)
looks_member (suc who) now apart = refl

member_rested : (party after : Party) (steps : List MailStep) (answer : Option Bool) → party.me ≢ 0 → answer ≡ Some false
    → IsMemberServed party after steps answer → HasRested party after steps
member_rested party after steps answer me still (IsMemberServed.rests is same answered) =
    (0, is ∙ sym (looks_member party.me 0 me), same)
member_rested party after steps answer me still (IsMemberServed.heeds frame more goes is heeded answered) =
    absurd (never_behind goes (sym answered ∙ still))

pub has_rested : {denies : Denials} → (count : ℕ) (party after : Party) (steps : List MailStep) (answer : Option Bool) → answer ≡ Some false
    → IsServed denies count party after steps answer → HasRested party after steps
has_rested count party after steps answer still (IsServed.coordinates me served) = core_rested count party after steps answer me still served
has_rested count party after steps answer still (IsServed.follows me served) = member_rested party after steps answer me still served
