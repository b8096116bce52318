-- A frame was posted by one of a participant's passes, or fetched by its own.
use Rattle.std.proofs.Common.{◌≡◌, ◌≢◌, ⊎_elim, ℕ, zero, suc, ◌<◌, eqb, eq-eqb, ne_eqb, List, [], ◌∷◌, ◌++◌, length, map, replicate, set, Option, Some, None, refl, sym, ap, subst, ◌∙◌, arith}
use Rattle.std.specs.List.{slice_get}
use Rattle.std.specs.Prelude.{IfNone, IfSome}
use Rattle.std.proofs.lemmas.Bool.{cases_eq, cond-false, cond-true}
use Rattle.std.proofs.lemmas.List.{append-nil, length-set, map-append}
use Rattle.std.proofs.lemmas.Option.{none-some, same_Some}
use Rattle.hp_base.specs.declared.plan.Action.{Action}
use Rattle.hp_frame.specs.declared.frame.Frame.{Frame}
use Rattle.hp_mail.specs.PassView.{MailboxView, PassView, WasEmpty, after_fetch, after_post, copies}
use Rattle.hp_mail.specs.Views.{letter}
use Rattle.hp_mail.specs.declared.letter.Letter.{Letter}
use Rattle.hp_mail.specs.declared.posted.Posted.{Posted}
use Rattle.hp_hall.specs.Mail.{Fetches, MailStep, Posts}
use Rattle.hp_chair.specs.Places.{ArePlaces, IsPlace}
use Rattle.hp_chair.specs.Posts.{HaveFetchedBy, HavePostedBy, IsFetchedBy}
use Rattle.hp_chair.specs.Steps.{fetches, frames_out, posted_to, posts_to}
use Rattle.hp_chair.proofs.StepsOn.{flat_push, flat_still}

module _ {X : Type 0} where
  pub set_here : (xs : List X) (i : ℕ) (y : X) → i < length xs → slice_get (set xs i y) i ≡ Some y
  set_here [] i y below = absurd (omega arith)
  set_here (x ∷ xs) zero y below = refl
  set_here (x ∷ xs) (suc i) y below = set_here xs i y (omega arith)

  pub set_elsewhere : (xs : List X) (i k : ℕ) (y : X) → k ≢ i → slice_get (set xs i y) k ≡ slice_get xs k
  set_elsewhere [] i k y apart = refl
  set_elsewhere (x ∷ xs) zero zero y apart = absurd (apart refl)
  set_elsewhere (x ∷ xs) zero (suc k) y apart = refl
  set_elsewhere (x ∷ xs) (suc i) zero y apart = refl
  set_elsewhere (x ∷ xs) (suc i) (suc k) y apart = set_elsewhere xs i k y (λ same. apart (ap suc same))

  -- what stands at a place within a list
  pub there_is : (xs : List X) (i : ℕ) → i < length xs → (x : X) × (slice_get xs i ≡ Some x)
  there_is [] i below = absurd (omega arith)
  there_is (x ∷ xs) zero below = (x, refl)
  there_is (x ∷ xs) (suc i) below = there_is xs i (omega arith)

  -- what stands at a place is within the list
  pub there_below : (xs : List X) (i : ℕ) (x : X) → slice_get xs i ≡ Some x → i < length xs
  there_below [] i x there = absurd (none-some x there)
  there_below (y ∷ xs) zero x there = omega arith
  there_below (y ∷ xs) (suc i) x there = omega (arith, there_below xs i x there)

-- passes of which one came to another
module _ (who to : ℕ) (steps : List MailStep) (step : MailStep) (boxes : List MailboxView) (passes : List PassView) (pass later : PassView)
    (places : ArePlaces who steps boxes passes) (below : to < length passes) (there : slice_get passes to ≡ Some pass)
    (here : (mailbox : MailboxView) → IsPlace who to steps mailbox pass → IsPlace who to (steps ++ step ∷ []) mailbox later)
    (unposted : (place : ℕ) → place ≢ to → posts_to place step ≡ []) (unfetched : (place : ℕ) → place ≢ to → place ≡ who → fetches step ≡ [])
    (knows : later.participants ≡ pass.participants) where
  still_knows : (found : PassView) → slice_get (set passes to later) who ≡ Some found → found.participants ≡ Some (length boxes)
  still_knows found at =
      ⊎_elim
      (λ (is : who ≡ to).
      let it : later ≡ found = same_Some later found (sym (set_here passes to later below) ∙ ap (slice_get (set passes to later)) (sym is) ∙ at) in
      ap (λ (p : PassView). p.participants) (sym it) ∙ knows ∙ places.knows pass (ap (slice_get passes) is ∙ there))
      (λ (apart : who ≢ to). places.knows found (sym (set_elsewhere passes to who later apart) ∙ at))
      (cases_eq who to)

  pub places_set : ArePlaces who (steps ++ step ∷ []) boxes (set passes to later)
  places_set = record {
    count = length-set passes to later ∙ places.count;
    knows = still_knows;
    each = λ place mailbox found box at.
        ⊎_elim
        (λ (is : place ≡ to).
        let it : later ≡ found = same_Some later found (sym (set_here passes to later below) ∙ ap (slice_get (set passes to later)) (sym is) ∙ at) in
        let old : IsPlace who to steps mailbox pass = places.each to mailbox pass (ap (slice_get boxes) (sym is) ∙ box) there in
        subst (λ (k : ℕ). IsPlace who k (steps ++ step ∷ []) mailbox found) (sym is)
        (subst (λ (p : PassView). IsPlace who to (steps ++ step ∷ []) mailbox p) it (here mailbox old)))
        (λ (apart : place ≢ to).
        let old : IsPlace who place steps mailbox found = places.each place mailbox found box (sym (set_elsewhere passes to place later apart) ∙ at) in
        record {
          its = old.its;
          whose = old.whose;
          owner = old.owner;
          posted = old.posted ∙ sym (flat_still (posts_to place) steps step (unposted place apart));
          fetched = λ own. old.fetched own ∙ sym (flat_still fetches steps step (unfetched place apart own));
        })
        (cases_eq place to);
  }

-- a frame was posted
module _ (who to : ℕ) (steps : List MailStep) (frame : Frame) (action : Action) (posted : Posted) (boxes : List MailboxView) (passes : List PassView) where
  abbrev step : MailStep
  step = Posts to frame action posted

  posts_here : posts_to to step ≡ replicate (copies posted) frame
  posts_here = cond-true (eqb to to) (replicate (copies posted) frame) [] (eq-eqb to to refl)

  posts_elsewhere : (place : ℕ) → place ≢ to → posts_to place step ≡ []
  posts_elsewhere place apart = cond-false (eqb to place) (replicate (copies posted) frame) [] (ne_eqb to place (λ same. apart (sym same)))

  pub place_posted : (pass : PassView) (mailbox : MailboxView) → IsPlace who to steps mailbox pass
      → IsPlace who to (steps ++ step ∷ []) mailbox (after_post frame posted pass)
  place_posted pass mailbox old = record {
    its = old.its;
    whose = old.whose;
    owner = old.owner;
    posted = ap (λ (l : List Frame). l ++ replicate (copies posted) frame) old.posted
        ∙ ap (λ (l : List Frame). posted_to to steps ++ l) (sym posts_here) ∙ sym (flat_push (posts_to to) steps step);
    fetched = λ own. old.fetched own ∙ sym (flat_still fetches steps step refl);
  }

  pub places_posted : (new : List PassView) → ArePlaces who steps boxes passes → to < length boxes → HavePostedBy to frame posted passes new
      → ArePlaces who (steps ++ step ∷ []) boxes new
  places_posted new places below by =
      let within : to < length passes = omega (arith, below, places.count) in
      let there = there_is passes to within in
      subst (ArePlaces who (steps ++ step ∷ []) boxes) (sym (by there.0 there.1))
      (places_set who to steps step boxes passes there.0 (after_post frame posted there.0) places within there.1 (place_posted there.0) posts_elsewhere
      (λ place apart own. refl) refl)

-- what was fetched, or that nothing was
frames_fetched : (frame : Option Frame) (pass later : PassView) → IsFetchedBy frame pass later
    → map (λ (x : Letter). x.frame) later.fetched ≡ map (λ (x : Letter). x.frame) pass.fetched ++ frames_out frame
frames_fetched None pass later (is, empty) =
    ap (λ (p : PassView). map (λ (x : Letter). x.frame) p.fetched) is ∙ sym (append-nil (map (λ (x : Letter). x.frame) pass.fetched))
frames_fetched (Some frame) pass later (from, is) =
    ap (λ (p : PassView). map (λ (x : Letter). x.frame) p.fetched) is ∙ map-append (λ (x : Letter). x.frame) pass.fetched (letter from frame ∷ [])

-- a pass that fetched is of the same participant and mailbox, and has posted what it had
record IsPassStill (pass later : PassView) : Type 0 where
  pub mailbox : later.mailbox ≡ pass.mailbox
  pub who : later.who ≡ pass.who
  pub fetches : later.fetches ≡ pass.fetches
  pub posted : later.posted ≡ pass.posted
  pub participants : later.participants ≡ pass.participants

pass_still : (frame : Option Frame) (pass later : PassView) → IsFetchedBy frame pass later → IsPassStill pass later
pass_still None pass later (is, empty) =
    subst (IsPassStill pass) (sym is) (record { mailbox = refl; who = refl; fetches = refl; posted = refl; participants = refl })
pass_still (Some frame) pass later (from, is) =
    subst (IsPassStill pass) (sym is) (record { mailbox = refl; who = refl; fetches = refl; posted = refl; participants = refl })

pub places_fetched : (who : ℕ) (steps : List MailStep) (frame : Option Frame) (boxes : List MailboxView) (passes new : List PassView) (pass : PassView)
    → ArePlaces who steps boxes passes → who < length passes → slice_get passes who ≡ Some pass → HaveFetchedBy who frame passes new pass
    → ArePlaces who (steps ++ Fetches frame ∷ []) boxes new
places_fetched who steps frame boxes passes new pass places within there by =
    let still = pass_still frame pass by.later by.fetched in
    subst (ArePlaces who (steps ++ Fetches frame ∷ []) boxes) (sym by.passes)
    (places_set who who steps (Fetches frame) boxes passes pass by.later places within there
    (λ mailbox old. record {
      its = still.mailbox ∙ old.its;
      whose = still.who ∙ old.whose;
      owner = λ own. still.fetches ∙ old.owner own;
      posted = still.posted ∙ old.posted ∙ sym (flat_still (posts_to who) steps (Fetches frame) refl);
      fetched = λ own.
          frames_fetched frame pass by.later by.fetched ∙ ap (λ (l : List Frame). l ++ frames_out frame) (old.fetched own)
          ∙ sym (flat_push fetches steps (Fetches frame));
    })
    (λ place apart. refl) (λ place apart own. absurd (apart own)) still.participants)

-- what a mailbox says of a fetch
pub fetched_as : (frame : Option Frame) (old new : PassView) → IfSome frame (λ f. (from : ℕ) × (new ≡ after_fetch (letter from f) old))
    → IfNone frame ((new ≡ old) × WasEmpty old) → IsFetchedBy frame old new
fetched_as None old new some none = none
fetched_as (Some frame) old new some none = some

pub mailbox_still : (frame : Option Frame) (pass later : PassView) → IsFetchedBy frame pass later → later.mailbox ≡ pass.mailbox
mailbox_still frame pass later is = (pass_still frame pass later is).mailbox

-- the mailboxes that passes are for stay where one pass comes to another for the same
pub mailboxes_set : (passes : List PassView) (place : ℕ) (pass later : PassView) → slice_get passes place ≡ Some pass → later.mailbox ≡ pass.mailbox
    → map (λ (p : PassView). p.mailbox) (set passes place later) ≡ map (λ (p : PassView). p.mailbox) passes
mailboxes_set [] place pass later there same = refl
mailboxes_set (first ∷ passes) zero pass later there same =
    ap (λ m. m ∷ map (λ (p : PassView). p.mailbox) passes) (same ∙ sym (ap (λ (p : PassView). p.mailbox) (same_Some first pass there)))
mailboxes_set (first ∷ passes) (suc place) pass later there same =
    ap (λ l. first.mailbox ∷ l) (mailboxes_set passes place pass later there same)
