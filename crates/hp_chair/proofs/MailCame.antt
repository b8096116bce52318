-- What came into a mailbox, once the passes of all have met there.
use Rattle.std.proofs.Common.{◌≡◌, ◌⊎◌, ⊎_elim, ℕ, zero, suc, ◌<◌, ◌≤◌, List, [], ◌∷◌, ◌++◌, length, take, Some, refl, sym, ap, subst, ◌∙◌, arith}
use Rattle.std.specs.List.{Contains}
use Rattle.std.proofs.lemmas.List.Elements.{Contains-append_left, Contains-append_right}
use Rattle.std.proofs.Math.Seq.{take-append_seam}
use Rattle.hp_frame.specs.declared.frame.Frame.{Frame}
use Rattle.hp_mail.specs.PassView.{PassView, WasInOrder}
use Rattle.hp_mail.specs.Views.{frames_of}
use Rattle.hp_mail.proofs.Letters.{below_or_not, frames_of-has, letter_of}
use Rattle.hp_hall.specs.Mail.{Fetches, MailStep}
use Rattle.hp_chair.specs.MailAtHome.{CameFromThem, HaveMetAt}
use Rattle.hp_chair.specs.Steps.{fetched_by, fetches, posted_to}
use Rattle.hp_chair.proofs.ChairMail.{there_is}

alone : {X : Type 0} (x : X) → Contains (x ∷ []) x
alone x = (0, omega arith, refl)

-- a frame that a step fetched is among all that were
fetched_among : (steps : List MailStep) (frame : Frame) → Contains steps (Fetches (Some frame)) → Contains (fetched_by steps) frame
fetched_among [] frame (k, inside, is) = absurd (omega (arith, inside))
fetched_among (step ∷ steps) frame (zero, inside, is) =
    Contains-append_left (fetches step) (fetched_by steps) frame
    (subst (λ (s : MailStep). Contains (fetches s) frame) (sym is) (alone frame))
fetched_among (step ∷ steps) frame (suc k, inside, is) =
    Contains-append_right (fetches step) (fetched_by steps) frame (fetched_among steps frame (k, omega (arith, inside), is))

module _ (owner participants : ℕ) (steps : ℕ → List MailStep) (rows : ℕ → List PassView) (own : PassView)
    (met : HaveMetAt owner participants steps rows own) where
  -- the frames of one participant
  in_order : (who : ℕ) → who < participants
      → frames_of who own.fetched ≡ take (length (frames_of who own.fetched)) (posted_to owner (steps who))
  in_order who below =
      let row = met.home who below in
      let pass = there_is (rows who) owner (omega (arith, met.declared, row.count)) in
      let it = row.each owner pass.0 pass.1 in
      let order : WasInOrder own pass.0 = met.met who pass.0 below pass.1 in
      let came = frames_of who own.fetched in
      let all : came ++ frames_of who order.0 ≡ posted_to owner (steps who) =
      ap (λ (n : ℕ). frames_of n own.fetched ++ frames_of n order.0) (sym it.whose) ∙ order.1 ∙ it.posted in
      sym (take-append_seam came (frames_of who order.0)) ∙ ap (take (length came)) all

  pub came_from : CameFromThem owner participants steps
  came_from =
      let row = met.home owner met.declared in
      record {
        letters = own.fetched;
        fetched = (row.each owner own met.its).fetched refl;
        in_order = in_order;
        strangers = λ who past. met.strangers participants (row.knows own met.its) who past;
      }

  posted_of : (who : ℕ) (frame : Frame) → who < participants → Contains (frames_of who own.fetched) frame → Contains (posted_to owner (steps who)) frame
  posted_of who frame below has =
      let row = met.home who below in
      let pass = there_is (rows who) owner (omega (arith, met.declared, row.count)) in
      let it = row.each owner pass.0 pass.1 in
      let order : WasInOrder own pass.0 = met.met who pass.0 below pass.1 in
      let all : frames_of who own.fetched ++ frames_of who order.0 ≡ posted_to owner (steps who) =
      ap (λ (n : ℕ). frames_of n own.fetched ++ frames_of n order.0) (sym it.whose) ∙ order.1 ∙ it.posted in
      subst (λ (l : List Frame). Contains l frame) all
      (Contains-append_left (frames_of who own.fetched) (frames_of who order.0) frame has)

  none_has : (frame : Frame) → Contains [] frame → ⊥
  none_has frame has = let inside = has.1 in omega arith

  pub posted_by_one : (frame : Frame) → Contains (steps owner) (Fetches (Some frame))
      → (from : ℕ) × (from < participants) × Contains (posted_to owner (steps from)) frame
  posted_by_one frame among =
      let row = met.home owner met.declared in
      let all = fetched_among (steps owner) frame among in
      let letter = letter_of own.fetched frame
      (subst (λ (l : List Frame). Contains l frame) (sym ((row.each owner own met.its).fetched refl)) all) in
      let from : ℕ = letter.0.from in
      let has : Contains (frames_of from own.fetched) frame =
      subst (λ (f : Frame). Contains (frames_of from own.fetched) f) letter.2 (frames_of-has own.fetched letter.0 letter.1) in
      ⊎_elim
      (λ (below : from < participants). (from, below, posted_of from frame below has))
      (λ (past : participants ≤ from).
      absurd (none_has frame
      (subst (λ (l : List Frame). Contains l frame) (met.strangers participants (row.knows own met.its) from past) has)))
      (below_or_not from participants)
