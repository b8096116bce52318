-- What a participant has fetched, and what it knows where nothing came, after a post and after a fetch.
use Rattle.std.proofs.Common.{◌≡◌, ◌≢◌, ⊎_elim, ℕ, ◌<◌, List, [], ◌∷◌, ◌++◌, length, set, Option, Some, None, refl, sym, ap, subst, ◌∙◌}
use Rattle.std.specs.List.{slice_get}
use Rattle.std.proofs.lemmas.Bool.{cases_eq}
use Rattle.hp_base.specs.declared.plan.Action.{Action}
use Rattle.hp_frame.specs.declared.frame.Frame.{Frame}
use Rattle.hp_mail.specs.PassView.{MailboxView, PassView, WasEmpty, after_post}
use Rattle.hp_mail.specs.Views.{letter}
use Rattle.hp_mail.specs.declared.letter.Letter.{Letter}
use Rattle.hp_mail.specs.declared.posted.Posted.{Posted}
use Rattle.hp_hall.specs.Mail.{Fetches, MailStep, Posts}
use Rattle.hp_board.specs.Views.{BeginsWith}
use Rattle.hp_board.proofs.Fronts.{front_itself}
use Rattle.hp_chair.specs.ChairView.{ChairView}
use Rattle.hp_chair.specs.FoundEmpty.{fetched_with, letters_of}
use Rattle.hp_chair.specs.FoundEmptyLaws.{not_vain, one_vain}
use Rattle.hp_chair.specs.FoundFull.{WentByRoom}
use Rattle.hp_chair.specs.FoundFullLaws.{one_went}
use Rattle.hp_chair.specs.Places.{ArePlaces, HasPasses, IsPassAt}
use Rattle.hp_chair.specs.Posts.{HaveFetchedBy, HavePostedBy, IsFetchedBy}
use Rattle.hp_chair.proofs.ChairMail.{set_elsewhere, set_here, there_below, there_is}
use Rattle.hp_chair.proofs.ChairSteps.{MailGoesOn}

-- a participant's passes, whichever mailboxes they are for
pub passes_placed : (who : ℕ) (steps : List MailStep) (boxes : List MailboxView) (passes : List PassView) → ArePlaces who steps boxes passes
    → HasPasses who (length boxes) steps passes
passes_placed who steps boxes passes places = record {
  count = places.count;
  knows = places.knows;
  each = λ place pass there.
      let box = there_is boxes place (subst (λ (n : ℕ). place < n) places.count (there_below passes place pass there)) in
      let it = places.each place box.0 pass box.1 there in
      record { whose = it.whose; owner = it.owner; posted = it.posted; fetched = it.fetched };
}

-- passes of which one came to another that has fetched more
module _ (who to : ℕ) (passes : List PassView) (pass later : PassView) (below : to < length passes) (there : slice_get passes to ≡ Some pass) where
  letters_here : who ≡ to → fetched_with (slice_get (set passes to later) who) ≡ later.fetched
  letters_here is = ap (λ (n : ℕ). fetched_with (slice_get (set passes to later) n)) is ∙ ap fetched_with (set_here passes to later below)

  pub letters_set : BeginsWith later.fetched pass.fetched
      → BeginsWith (fetched_with (slice_get (set passes to later) who)) (fetched_with (slice_get passes who))
  letters_set more =
      ⊎_elim
      (λ (is : who ≡ to).
      let was : fetched_with (slice_get passes who) ≡ pass.fetched =
      ap (λ (n : ℕ). fetched_with (slice_get passes n)) is ∙ ap fetched_with there in
      (more.0, letters_here is ∙ more.1 ∙ ap (λ (l : List Letter). l ++ more.0) (sym was)))
      (λ (apart : who ≢ to).
      subst (λ (o : Option PassView). BeginsWith (fetched_with o) (fetched_with (slice_get passes who)))
      (sym (set_elsewhere passes to who later apart)) (front_itself (fetched_with (slice_get passes who))))
      (cases_eq who to)

-- a frame was posted
module _ (old new : ChairView) (same : new.seat.mine.who ≡ old.seat.mine.who) (boxes : new.boxes ≡ old.boxes) (to : ℕ) (frame : Frame)
    (action : Action) (posted : Posted) (below : to < length old.passes) (by : HavePostedBy to frame posted old.passes new.passes)
    (went : WentByRoom old.seat.mine.who old.boxes old.steps (Posts to frame action posted)) where
  pub mail_posted : MailGoesOn (Posts to frame action posted) old new
  mail_posted =
      let there = there_is old.passes to below in
      record {
        boxes = boxes;
        fetched = subst (λ (n : ℕ). BeginsWith (fetched_with (slice_get new.passes n)) (letters_of old)) (sym same)
            (subst (λ (l : List PassView). BeginsWith (fetched_with (slice_get l old.seat.mine.who)) (letters_of old)) (sym (by there.0 there.1))
            (letters_set old.seat.mine.who to old.passes there.0 (after_post frame posted there.0) below there.1 (front_itself there.0.fetched)));
        vain = not_vain old.seat.mine.who (letters_of new) old.steps (Posts to frame action posted) refl;
        room = one_went old.seat.mine.who old.boxes old.steps (Posts to frame action posted) went;
      }

fetched_more : (frame : Option Frame) (pass later : PassView) → IsFetchedBy frame pass later → BeginsWith later.fetched pass.fetched
fetched_more None pass later (is, empty) =
    subst (λ (p : PassView). BeginsWith p.fetched pass.fetched) (sym is) (front_itself pass.fetched)
fetched_more (Some frame) pass later (from, is) = (letter from frame ∷ [], ap (λ (p : PassView). p.fetched) is)

was_same : (pass later : PassView) → IsFetchedBy None pass later → later ≡ pass
was_same pass later (is, empty) = is

was_empty : (pass later : PassView) → IsFetchedBy None pass later → WasEmpty pass
was_empty pass later (is, empty) = empty

-- a frame was fetched, or none
module _ (old new : ChairView) (same : new.seat.mine.who ≡ old.seat.mine.who) (boxes : new.boxes ≡ old.boxes) (pass : PassView)
    (below : old.seat.mine.who < length old.passes) (there : slice_get old.passes old.seat.mine.who ≡ Some pass)
    (its : IsPassAt old.seat.mine.who old.seat.mine.who old.steps pass) where
  letters_now : (later : PassView) → new.passes ≡ set old.passes old.seat.mine.who later → letters_of new ≡ later.fetched
  letters_now later passes =
      ap (λ (n : ℕ). fetched_with (slice_get new.passes n)) same
      ∙ ap (λ (l : List PassView). fetched_with (slice_get l old.seat.mine.who)) passes
      ∙ letters_here old.seat.mine.who old.seat.mine.who old.passes pass later below there refl

  grown : (frame : Option Frame) (by : HaveFetchedBy old.seat.mine.who frame old.passes new.passes pass) → BeginsWith (letters_of new) (letters_of old)
  grown frame by =
      let more = fetched_more frame pass by.later by.fetched in
      (more.0, letters_now by.later by.passes ∙ more.1 ∙ ap (λ (o : Option PassView). fetched_with o ++ more.0) (sym there))

  pub mail_fetched : (frame : Option Frame) → HaveFetchedBy old.seat.mine.who frame old.passes new.passes pass → MailGoesOn (Fetches frame) old new
  mail_fetched (Some frame) by = record {
    boxes = boxes;
    fetched = grown (Some frame) by;
    vain = not_vain old.seat.mine.who (letters_of new) old.steps (Fetches (Some frame)) refl;
    room = one_went old.seat.mine.who old.boxes old.steps (Fetches (Some frame)) tt;
  }
  mail_fetched None by = record {
    boxes = boxes;
    fetched = grown None by;
    vain = one_vain old.seat.mine.who (letters_of new) old.steps (record {
      pass = pass;
      its = its;
      first = subst (λ (l : List Letter). BeginsWith l pass.fetched)
          (sym (letters_now by.later by.passes ∙ ap (λ (p : PassView). p.fetched) (was_same pass by.later by.fetched))) (front_itself pass.fetched);
      empty = was_empty pass by.later by.fetched;
    });
    room = one_went old.seat.mine.who old.boxes old.steps (Fetches None) tt;
  }
