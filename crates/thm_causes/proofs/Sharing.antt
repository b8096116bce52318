-- Steps of one participant, taken apart, and what each kind of them makes of what is shared.
use Rattle.std.proofs.Common.{◌≡◌, ◌∙◌, ℕ, List, [], ◌∷◌, ◌++◌, drop, length, Some, None, refl, sym, ap, subst}
use Rattle.std.specs.Prelude.{slice_get, slice_set}
use Rattle.std.proofs.lemmas.List.{set-get_or}
use Rattle.hp_base.specs.declared.caught.Caught.{Caught}
use Rattle.hp_base.specs.declared.caught.Caught.TheVariants as caught
use Rattle.hp_base.specs.declared.plan.Action.{Action}
use Rattle.hp_frame.specs.declared.frame.Frame.{Frame}
use Rattle.hp_segs.specs.Standing.{IsArmed}
use Rattle.hp_hall.specs.Mail.{Fetches, MailStep, Notes, Posts}
use Rattle.hp_plain.specs.Boxes.{box_of}
use Rattle.hp_hall.specs.declared.note.Note.TheVariants.{Loaded, Read}
use Rattle.hp_mail.specs.declared.posted.Posted.{Posted}
use Rattle.hp_segs.specs.SegsView.{SegsView}
use Rattle.hp_segs.specs.Sound.{IsSound}
use Rattle.hp_serve.specs.Serving.{acks_after, gives_segments, takes_segments, tells_after_catching}
use Rattle.thm_causes.specs.Servings.{numbered}
use Rattle.thm_causes.specs.Shared.{MakesAll, Shared, fetched_by, posted_to, with_boxes, with_segs}

-- what is shared between the first steps and the rest
pub record IsCut (who : ℕ) (first rest : List MailStep) (old new : Shared) : Type 0 where
  pub mid : Shared
  pub begins : MakesAll who first old mid
  pub ends : MakesAll who rest mid new

pub cut_at : (who : ℕ) (first rest : List MailStep) (old new : Shared) → MakesAll who (first ++ rest) old new → IsCut who first rest old new
cut_at who [] rest old new makes = record { mid = old; begins = refl; ends = makes }
cut_at who (step ∷ first) rest old new makes =
    let behind = cut_at who first rest makes.0 new makes.2 in
    record { mid = behind.mid; begins = (makes.0, makes.1, behind.begins); ends = behind.ends }

-- steps one after the other
pub made_then : (who : ℕ) (first rest : List MailStep) (old mid new : Shared) → MakesAll who first old mid → MakesAll who rest mid new
    → MakesAll who (first ++ rest) old new
made_then who [] rest old mid new begins ends = subst (λ (at : Shared). MakesAll who rest at new) begins ends
made_then who (step ∷ first) rest old mid new begins ends =
    (begins.0, begins.1, made_then who first rest begins.0 mid new begins.2 ends)

-- MAILBOXES

pub nothing_first : (box : List Frame) → None ≡ slice_get box 0 → box ≡ []
nothing_first [] is = refl
nothing_first (frame ∷ box) is = cc

pub frame_first : (box : List Frame) (frame : Frame) → Some frame ≡ slice_get box 0 → box ≡ frame ∷ drop 1 box
frame_first [] frame is = cc
frame_first (first ∷ box) frame is = cc

-- a fetch from an empty mailbox leaves all as it was
pub fetched_nothing : (who : ℕ) (at : Shared) → box_of at.boxes who ≡ [] → fetched_by who at ≡ at
fetched_nothing who at none =
    ap (λ (boxes : List (List Frame)). with_boxes boxes at)
    (ap (λ (box : List Frame). slice_set at.boxes who (drop 1 box)) none
    ∙ sym (ap (λ (box : List Frame). slice_set at.boxes who box) none)
    ∙ set-get_or at.boxes who [])

-- THE SEGMENT VALUE, AND NUMBERS

-- the value that was taken is the one that is shared
pub took : (who : ℕ) (taken : SegsView) (more : List MailStep) (old new : Shared) → MakesAll who (takes_segments taken ∷ more) old new
    → (taken ≡ old.segs) × MakesAll who more old new
took who taken more old new makes = (makes.1.0, subst (λ (at : Shared). MakesAll who more at new) makes.1.1 makes.2)

-- what is given back is sound, and armed as it was, and is shared from then on
pub record IsGiven (who : ℕ) (given : SegsView) (more : List MailStep) (old new : Shared) : Type 0 where
  pub sound : IsSound given
  pub armed : IsArmed old.segs → IsArmed given
  pub rest : MakesAll who more (with_segs given old) new

pub gave : (who : ℕ) (given : SegsView) (more : List MailStep) (old new : Shared) → MakesAll who (gives_segments given ∷ more) old new
    → IsGiven who given more old new
gave who given more old new makes = record {
  sound = makes.1.0;
  armed = makes.1.1;
  rest = subst (λ (at : Shared). MakesAll who more at new) makes.1.2 makes.2;
}

-- what one that attaches acknowledges after a catching up with the log
pub acked : (who : ℕ) (ended : Caught) (more : List MailStep) (old new : Shared)
    → MakesAll who (acks_after ended (length old.segs.log) ++ more) old new → MakesAll who more (numbered who ended old) new
acked who caught.Done more old new makes = subst (λ (at : Shared). MakesAll who more at new) makes.1.1 makes.2
acked who (caught.Refused row call) more old new makes = makes
acked who (caught.Elsewhere row call got) more old new makes = makes

-- and what one tells that has a table
pub told_behind : (who : ℕ) (ended : Caught) (more : List MailStep) (old new : Shared)
    → MakesAll who (tells_after_catching ended (length old.segs.log) ++ more) old new → MakesAll who more (numbered who ended old) new
told_behind who caught.Done more old new makes = subst (λ (at : Shared). MakesAll who more at new) makes.1.1 makes.2
told_behind who (caught.Refused row call) more old new makes = subst (λ (at : Shared). MakesAll who more at new) makes.1 makes.2
told_behind who (caught.Elsewhere row call got) more old new makes = subst (λ (at : Shared). MakesAll who more at new) makes.1 makes.2

-- it changes numbers alone
pub numbered_segs : (who : ℕ) (ended : Caught) (at : Shared) → (numbered who ended at).segs ≡ at.segs
numbered_segs who caught.Done at = refl
numbered_segs who (caught.Refused row call) at = refl
numbered_segs who (caught.Elsewhere row call got) at = refl

pub numbered_clock : (who : ℕ) (ended : Caught) (at : Shared) → (numbered who ended at).clock ≡ at.clock
numbered_clock who caught.Done at = refl
numbered_clock who (caught.Refused row call) at = refl
numbered_clock who (caught.Elsewhere row call got) at = refl

-- a reading is that of the clock
pub read_clock : (who now : ℕ) (more : List MailStep) (old new : Shared) → MakesAll who (Notes (Read now) ∷ more) old new
    → (now ≡ old.clock) × MakesAll who more old new
read_clock who now more old new makes = (makes.1.0, subst (λ (at : Shared). MakesAll who more at new) makes.1.1 makes.2)

-- a number that was looked up
pub loaded : (who member number : ℕ) (more : List MailStep) (old new : Shared)
    → MakesAll who (Notes (Loaded member number) ∷ more) old new → MakesAll who more old new
loaded who member number more old new makes = subst (λ (at : Shared). MakesAll who more at new) makes.1.1 makes.2

-- a message was posted, and nothing else done
pub posted_one : (who to : ℕ) (frame : Frame) (action : Action) (posted : Posted) (old new : Shared)
    → MakesAll who (Posts to frame action posted ∷ []) old new → new ≡ posted_to to frame action old
posted_one who to frame action posted old new makes = makes.2 ∙ makes.1.1

-- a mailbox was found empty
pub found_nothing : (who : ℕ) (more : List MailStep) (old new : Shared) → MakesAll who (Fetches None ∷ more) old new
    → (box_of old.boxes who ≡ []) × MakesAll who more old new
found_nothing who more old new makes =
    let none = nothing_first (box_of old.boxes who) makes.1.0 in
    (none, subst (λ (at : Shared). MakesAll who more at new) (makes.1.1 ∙ fetched_nothing who old none) makes.2)

-- a frame was fetched
pub fetched_one : (who : ℕ) (frame : Frame) (more : List MailStep) (old new : Shared) → MakesAll who (Fetches (Some frame) ∷ more) old new
    → (box_of old.boxes who ≡ frame ∷ drop 1 (box_of old.boxes who)) × MakesAll who more (fetched_by who old) new
fetched_one who frame more old new makes =
    (frame_first (box_of old.boxes who) frame makes.1.0, subst (λ (at : Shared). MakesAll who more at new) makes.1.1 makes.2)
