-- What one step makes of what a seat knows, each kind of step.
use Rattle.std.proofs.Common.{◌≡◌, ℕ, eqb, cond, List, [], ◌∷◌, ◌++◌, map, length, Option, None, refl, sym, ap, ap₂, subst, ◌∙◌}
use Rattle.std.proofs.lemmas.List.{append-nil}
use Rattle.hp_base.specs.declared.plan.Action.{Action}
use Rattle.hp_frame.specs.declared.frame.Frame.{Frame}
use Rattle.hp_heap.specs.declared.entry.Entry.{Entry}
use Rattle.hp_hall.specs.Mail.{Fetches, Gives, MailStep, Notes, Posts, Takes}
use Rattle.hp_hall.specs.declared.kept.Kept.{Kept}
use Rattle.hp_hall.specs.declared.note.Note.{Note}
use Rattle.hp_hall.specs.declared.note.Note.TheVariants.{Acked, Loaded, LoadedDone, Stored, Unmapped}
use Rattle.hp_mail.specs.declared.posted.Posted.{Posted}
use Rattle.hp_zone.specs.declared.name_change.NameChange.{NameChange}
use Rattle.hp_zone.specs.declared.zone.ZoneChange.{ZoneChange}
use Rattle.hp_board.specs.KeptValues.{entries_added}
use Rattle.hp_board.specs.Views.{Learned, after_acking, after_give, after_load, after_look, after_lookup, after_take, after_telling, after_unmapping, under, value_of, without}
use Rattle.hp_board.specs.declared.view.Mine.{Mine}
use Rattle.hp_board.specs.declared.view.Move.{Move}
use Rattle.hp_chair.specs.DoneBy.{IsDoneBy, adds, changes_after, hand_of, looks_in, tells_in, zones_after}
use Rattle.hp_chair.specs.DoneLaws.{look_of, mark_of}
use Rattle.hp_chair.specs.Steps.{hand_after, move_in}

-- what a step leaves that neither moves a value nor looks or tells
pub record IsAsBefore (old new : Mine) : Type 0 where
  pub held : new.held ≡ old.held
  pub moves : new.moves ≡ old.moves
  pub made : new.made ≡ old.made
  pub zones : new.zones ≡ old.zones
  pub changes : new.names ≡ old.names
  pub looked : new.awaited ≡ old.awaited
  pub told : new.done ≡ old.done

pub before_same : (mine : Mine) → IsAsBefore mine mine
before_same mine = record { held = refl; moves = refl; made = refl; zones = refl; changes = refl; looked = refl; told = refl }

-- a step of which that is so
pub record IsBeside (step : MailStep) : Type 0 where
  pub hand : (slot : ℕ) (kept : Option Kept) → hand_after slot step kept ≡ kept
  pub moves : move_in step ≡ []
  pub adds : (hand : ℕ → Option Kept) → adds hand step ≡ []
  pub zones : (zones : List ZoneChange) → zones_after zones step ≡ zones
  pub changes : (changes : List NameChange) → changes_after changes step ≡ changes
  pub looks : looks_in step ≡ []
  pub tells : tells_in step ≡ []

pub beside_note : (note : Note) → looks_in (Notes note) ≡ [] → tells_in (Notes note) ≡ [] → IsBeside (Notes note)
beside_note note looks tells = record {
  hand = λ slot kept. refl;
  moves = refl;
  adds = λ hand. refl;
  zones = λ zones. refl;
  changes = λ changes. refl;
  looks = looks;
  tells = tells;
}

pub beside_post : (to : ℕ) (frame : Frame) (action : Action) (posted : Posted) → IsBeside (Posts to frame action posted)
beside_post to frame action posted = record {
  hand = λ slot kept. refl;
  moves = refl;
  adds = λ hand. refl;
  zones = λ zones. refl;
  changes = λ changes. refl;
  looks = refl;
  tells = refl;
}

pub beside_fetch : (frame : Option Frame) → IsBeside (Fetches frame)
beside_fetch frame = record {
  hand = λ slot kept. refl;
  moves = refl;
  adds = λ hand. refl;
  zones = λ zones. refl;
  changes = λ changes. refl;
  looks = refl;
  tells = refl;
}

nothing_more : {X : Type 0} (old new more : List X) → new ≡ old → more ≡ [] → new ≡ old ++ (more ++ [])
nothing_more old new more same none = same ∙ sym (append-nil old) ∙ ap (λ l. old ++ l) (sym (append-nil more ∙ none))

pub done_beside : (old new : Mine) (step : MailStep) → IsBeside step → IsAsBefore old new → IsDoneBy old new (step ∷ [])
done_beside old new step beside same = record {
  hand = λ slot. ap (λ (l : List (ℕ × Kept)). value_of slot l) same.held ∙ sym (beside.hand slot (hand_of old slot));
  moves = nothing_more old.moves new.moves (move_in step) same.moves beside.moves;
  made = nothing_more old.made new.made (adds (hand_of old) step) same.made (beside.adds (hand_of old));
  zones = same.zones ∙ sym (beside.zones old.zones);
  changes = same.changes ∙ sym (beside.changes old.names);
  looked = same.looked
      ∙ ap (λ (l : List (ℕ × ℕ)). map (λ (look : ℕ × ℕ). (look.0, look_of (old.made ++ []) (old.moves ++ []) look.1)) l ++ old.awaited)
      (sym beside.looks);
  told = same.told ∙ ap (λ (l : List ℕ). map (mark_of (old.made ++ []) old.zones old.names) l ++ old.done) (sym beside.tells);
}

-- a note of one whose seat made no step
pub done_same : (mine : Mine) (note : Note) → looks_in (Notes note) ≡ [] → tells_in (Notes note) ≡ [] → IsDoneBy mine mine (Notes note ∷ [])
done_same mine note looks tells = done_beside mine mine (Notes note) (beside_note note looks tells) (before_same mine)

-- records were acknowledged, what further ones drop was unmapped, or a participant's number was loaded
pub done_acked : (mine after : Mine) (number : ℕ) → after ≡ after_acking number mine → IsDoneBy mine after (Notes (Acked number) ∷ [])
done_acked mine after number is =
    subst (λ (m : Mine). IsDoneBy mine m (Notes (Acked number) ∷ [])) (sym is)
    (done_beside mine (after_acking number mine) (Notes (Acked number)) (beside_note (Acked number) refl refl)
    (record { held = refl; moves = refl; made = refl; zones = refl; changes = refl; looked = refl; told = refl }))

pub done_unmapped : (mine after : Mine) → after ≡ after_unmapping mine → IsDoneBy mine after (Notes Unmapped ∷ [])
done_unmapped mine after is =
    subst (λ (m : Mine). IsDoneBy mine m (Notes Unmapped ∷ [])) (sym is)
    (done_beside mine (after_unmapping mine) (Notes Unmapped) (beside_note Unmapped refl refl)
    (record { held = refl; moves = refl; made = refl; zones = refl; changes = refl; looked = refl; told = refl }))

pub done_loaded : (mine after : Mine) (from number : ℕ) → after ≡ after_load from number mine → IsDoneBy mine after (Notes (Loaded from number) ∷ [])
done_loaded mine after from number is =
    subst (λ (m : Mine). IsDoneBy mine m (Notes (Loaded from number) ∷ [])) (sym is)
    (done_beside mine (after_load from number mine) (Notes (Loaded from number)) (beside_note (Loaded from number) refl refl)
    (record { held = refl; moves = refl; made = refl; zones = refl; changes = refl; looked = refl; told = refl }))

-- a lock word was found held
pub done_looked : (mine after : Mine) (slot word : ℕ) → after ≡ after_look slot word mine → IsDoneBy mine after []
done_looked mine after slot word is = subst (λ (m : Mine). IsDoneBy mine m []) (sym is) (record {
  hand = λ number. refl;
  moves = sym (append-nil mine.moves);
  made = sym (append-nil mine.made);
  zones = refl;
  changes = refl;
  looked = refl;
  told = refl;
})

-- a value was taken
pub done_taken : (mine after : Mine) (slot : ℕ) (kept : Kept) (learned : Learned) (words : List (ℕ × ℕ))
    → after ≡ record (after_take slot kept learned mine) { found = mine.found ++ words } → IsDoneBy mine after (Takes slot kept ∷ [])
done_taken mine after slot kept learned words is = subst (λ (m : Mine). IsDoneBy mine m (Takes slot kept ∷ [])) (sym is) (record {
  hand = λ number. refl;
  moves = refl;
  made = sym (append-nil mine.made);
  zones = refl;
  changes = refl;
  looked = refl;
  told = refl;
})

-- a value was given
pub done_given : (mine after : Mine) (slot : ℕ) (kept : Kept) → after ≡ after_give slot kept mine
    → ((number : ℕ) → value_of number (without slot mine.held) ≡ cond (eqb slot number) None (value_of number mine.held))
    → IsDoneBy mine after (Gives slot kept ∷ [])
done_given mine after slot kept is hand = subst (λ (m : Mine). IsDoneBy mine m (Gives slot kept ∷ [])) (sym is) (record {
  hand = hand;
  moves = refl;
  made = ap (λ l. mine.made ++ l) (sym (append-nil (under slot (entries_added (value_of slot mine.held) kept))));
  zones = refl;
  changes = refl;
  looked = refl;
  told = refl;
})

-- lines were told, or looked up
pub done_told : (mine after : Mine) (lines : ℕ) → after ≡ after_telling lines mine → IsDoneBy mine after (Notes (Stored lines) ∷ [])
done_told mine after lines is = subst (λ (m : Mine). IsDoneBy mine m (Notes (Stored lines) ∷ [])) (sym is) (record {
  hand = λ number. refl;
  moves = sym (append-nil mine.moves);
  made = sym (append-nil mine.made);
  zones = refl;
  changes = refl;
  looked = refl;
  told = ap (λ (made : List (ℕ × Entry)). mark_of made mine.zones mine.names lines ∷ mine.done) (sym (append-nil mine.made));
})

pub done_found : (mine after : Mine) (from lines : ℕ) → after ≡ after_lookup from lines mine
    → IsDoneBy mine after (Notes (LoadedDone from lines) ∷ [])
done_found mine after from lines is = subst (λ (m : Mine). IsDoneBy mine m (Notes (LoadedDone from lines) ∷ [])) (sym is) (record {
  hand = λ number. refl;
  moves = sym (append-nil mine.moves);
  made = sym (append-nil mine.made);
  zones = refl;
  changes = refl;
  looked = ap₂ (λ (made : List (ℕ × Entry)) (moves : List Move). (from, look_of made moves lines) ∷ mine.awaited)
      (sym (append-nil mine.made)) (sym (append-nil mine.moves));
  told = refl;
})
