-- What one step more makes of moves, of what is in hand, and of the passes of a participant.
use Rattle.std.proofs.Common.{◌≡◌, ◌≢◌, ⊎_elim, ℕ, Bool, true, false, eqb, cond, eq-eqb, ne_eqb, List, [], ◌∷◌, ◌++◌, Option, Some, None, refl, sym, ap, ◌∙◌}
use Rattle.std.specs.List.{AllByRecursion, flat_map}
use Rattle.std.specs.Option.{is_some}
use Rattle.std.proofs.lemmas.Bool.{cases_eq, cond-false, cond-true}
use Rattle.std.proofs.lemmas.Grind.{flat_map-append}
use Rattle.std.proofs.lemmas.List.{append-nil}
use Rattle.std.proofs.lemmas.List.Sums.{fold-append}
use Rattle.hp_mail.specs.PassView.{MailboxView, PassView}
use Rattle.hp_hall.specs.Mail.{Fetches, Gives, GivesNot, HasInHand, MailStep, Notes, Posts, Takes}
use Rattle.hp_hall.specs.declared.kept.Kept.{Kept}
use Rattle.hp_hall.specs.declared.kept.Kept.TheVariants.{Heap, Names, Segments}
use Rattle.hp_hall.specs.declared.note.Note.{Note}
use Rattle.hp_hall.specs.Telling.{names_after}
use Rattle.hp_hall.specs.declared.slot.TheConstants.{NAMES_SLOT}
use Rattle.hp_board.specs.Views.{holds_names, value_of}
use Rattle.hp_board.specs.declared.view.Mine.{Mine}
use Rattle.hp_board.specs.declared.view.Move.{Move}
use Rattle.hp_chair.specs.ChairInside.{IsTiedTo}
use Rattle.hp_chair.specs.DoneLaws.{in_hand-append}
use Rattle.hp_chair.specs.Places.{ArePlaces}
use Rattle.hp_stats.specs.declared.stat_pair.StatPair.{StatPair}
use Rattle.hp_chair.specs.Steps.{fetches, hand_after, in_hand, move_in, posts_to, told_after, told_in}

module _ {A B : Type 0} where
  -- what a list comes to by each of its elements, with one element more
  pub flat_push : (f : A → List B) (xs : List A) (x : A) → flat_map f (xs ++ x ∷ []) ≡ flat_map f xs ++ f x
  flat_push f xs x = flat_map-append f xs (x ∷ []) ∙ ap (λ (l : List B). flat_map f xs ++ l) (append-nil (f x))

  -- and where that one comes to nothing
  pub flat_still : (f : A → List B) (xs : List A) (x : A) → f x ≡ [] → flat_map f (xs ++ x ∷ []) ≡ flat_map f xs
  flat_still f xs x none = flat_push f xs x ∙ ap (λ (l : List B). flat_map f xs ++ l) none ∙ append-nil (flat_map f xs)

-- one step more is what the seat did
pub tied_step : (steps : List MailStep) (step : MailStep) (old new : Mine) → IsTiedTo steps old → new.moves ≡ old.moves ++ move_in step
    → ((slot : ℕ) → value_of slot new.held ≡ hand_after slot step (value_of slot old.held)) → holds_names new ≡ names_after (holds_names old) step
    → IsTiedTo (steps ++ step ∷ []) new
tied_step steps step old new tied more hand naming = record {
  moves = more ∙ ap (λ (l : List Move). l ++ move_in step) tied.moves ∙ sym (flat_push move_in steps step);
  hand = λ slot. hand slot ∙ ap (hand_after slot step) (tied.hand slot) ∙ sym (in_hand-append slot None steps (step ∷ []));
  naming = naming ∙ ap (λ (b : Bool). names_after b step) tied.naming ∙ sym (fold-append names_after false steps (step ∷ []));
}

-- what was published since a heap was taken, after one step more
pub told_push : (heap : ℕ) (steps : List MailStep) (step : MailStep) → told_in heap (steps ++ step ∷ []) ≡ told_after heap (told_in heap steps) step
told_push heap steps step = fold-append (told_after heap) None steps (step ∷ [])

-- a step that leaves that of each heap, and one that tells nothing anew
abbrev pub LeavesTold : MailStep → Type 0
LeavesTold step = (heap : ℕ) (told : Option StatPair) → told_after heap told step ≡ told

abbrev pub TellsNone : MailStep → Type 0
TellsNone step = (heap : ℕ) (told : Option StatPair) (pair : StatPair) → told_after heap told step ≡ Some pair → told ≡ Some pair

pub told_still : (heap : ℕ) (steps : List MailStep) (step : MailStep) → LeavesTold step → told_in heap (steps ++ step ∷ []) ≡ told_in heap steps
told_still heap steps step leaves = told_push heap steps step ∙ leaves heap (told_in heap steps)

pub tells_none : (step : MailStep) → LeavesTold step → TellsNone step
tells_none step leaves heap told pair is = sym (leaves heap told) ∙ is

none_told : (own : Bool) (told : Option StatPair) (pair : StatPair) → cond own None told ≡ Some pair → told ≡ Some pair
none_told true told pair is = absurd (cc)
none_told false told pair is = is

pub take_tells : (slot : ℕ) (kept : Kept) → TellsNone (Takes slot kept)
take_tells slot (Heap taken pen) heap told pair is = none_told (eqb slot heap) told pair is
take_tells slot (Segments segs) heap told pair is = is
take_tells slot (Names names) heap told pair is = is

pub give_tells : (slot : ℕ) (kept : Kept) → TellsNone (Gives slot kept)
give_tells slot (Heap given pen) heap told pair is = none_told (eqb slot heap) told pair is
give_tells slot (Segments segs) heap told pair is = is
give_tells slot (Names names) heap told pair is = is

-- a step that touches neither slots nor mailboxes
pub record IsQuiet (step : MailStep) : Type 0 where
  pub still : move_in step ≡ []
  pub hand : (slot : ℕ) (kept : Option Kept) → hand_after slot step kept ≡ kept
  pub naming : (naming : Bool) → names_after naming step ≡ naming
  pub unposted : (place : ℕ) → posts_to place step ≡ []
  pub unfetched : fetches step ≡ []

pub quiet_note : (note : Note) → IsQuiet (Notes note)
quiet_note note = record { still = refl; hand = λ slot kept. refl; naming = λ naming. refl; unposted = λ place. refl; unfetched = refl }

-- where a step moves nothing, and the seat neither
pub tied_still : (steps : List MailStep) (step : MailStep) (old new : Mine) → IsTiedTo steps old → move_in step ≡ []
    → ((slot : ℕ) (kept : Option Kept) → hand_after slot step kept ≡ kept) → ((naming : Bool) → names_after naming step ≡ naming) → new.moves ≡ old.moves → new.held ≡ old.held
    → IsTiedTo (steps ++ step ∷ []) new
tied_still steps step old new tied none still leaves moves held =
    tied_step steps step old new tied
    (moves ∙ sym (append-nil old.moves) ∙ ap (λ (l : List Move). old.moves ++ l) (sym none))
    (λ slot. ap (λ (l : List (ℕ × Kept)). value_of slot l) held ∙ sym (still slot (value_of slot old.held)))
    (ap (λ (l : List (ℕ × Kept)). is_some (value_of NAMES_SLOT l)) held ∙ sym (leaves (holds_names old)))

-- passes are as they were after a step that posts and fetches nothing
pub places_still : (who : ℕ) (steps : List MailStep) (step : MailStep) (boxes : List MailboxView) (passes : List PassView) → ArePlaces who steps boxes passes
    → ((place : ℕ) → posts_to place step ≡ []) → fetches step ≡ [] → ArePlaces who (steps ++ step ∷ []) boxes passes
places_still who steps step boxes passes places unposted unfetched = record {
  count = places.count;
  knows = places.knows;
  each = λ place mailbox pass box there.
      let was = places.each place mailbox pass box there in
      record {
        its = was.its;
        whose = was.whose;
        owner = was.owner;
        posted = was.posted ∙ sym (flat_still (posts_to place) steps step (unposted place));
        fetched = λ own. was.fetched own ∙ sym (flat_still fetches steps step unfetched);
      };
}

-- what was taken and not given back since is in hand
pub still_in_hand : (slot : ℕ) (kept : Kept) (steps : List MailStep) → AllByRecursion (GivesNot slot) steps → is_some (in_hand slot (Some kept) steps) ≡ true
still_in_hand slot kept [] all = refl
still_in_hand slot kept (Posts to frame action posted ∷ steps) all = still_in_hand slot kept steps all.1
still_in_hand slot kept (Fetches frame ∷ steps) all = still_in_hand slot kept steps all.1
still_in_hand slot kept (Notes note ∷ steps) all = still_in_hand slot kept steps all.1
still_in_hand slot kept (Takes other taken ∷ steps) all =
    ⊎_elim
    (λ (same : other ≡ slot).
    ap (λ (o : Option Kept). is_some (in_hand slot o steps)) (cond-true (eqb other slot) (Some taken) (Some kept) (eq-eqb other slot same))
    ∙ still_in_hand slot taken steps all.1)
    (λ (apart : other ≢ slot).
    ap (λ (o : Option Kept). is_some (in_hand slot o steps)) (cond-false (eqb other slot) (Some taken) (Some kept) (ne_eqb other slot apart))
    ∙ still_in_hand slot kept steps all.1)
    (cases_eq other slot)
still_in_hand slot kept (Gives other given ∷ steps) all =
    ap (λ (o : Option Kept). is_some (in_hand slot o steps)) (cond-false (eqb other slot) None (Some kept) (ne_eqb other slot all.0))
    ∙ still_in_hand slot kept steps all.1

pub hand_held : (slot : ℕ) (steps : List MailStep) (mine : Mine) → IsTiedTo steps mine → HasInHand slot steps → is_some (value_of slot mine.held) ≡ true
hand_held slot steps mine tied (before, after, kept, is, all) =
    let first : in_hand slot None steps ≡ in_hand slot (hand_after slot (Takes slot kept) (in_hand slot None before)) after =
    ap (in_hand slot None) is ∙ in_hand-append slot None before (Takes slot kept ∷ after) in
    let here : hand_after slot (Takes slot kept) (in_hand slot None before) ≡ Some kept =
    cond-true (eqb slot slot) (Some kept) (in_hand slot None before) (eq-eqb slot slot refl) in
    ap is_some (tied.hand slot ∙ first ∙ ap (λ (o : Option Kept). in_hand slot o after) here) ∙ still_in_hand slot kept after all
