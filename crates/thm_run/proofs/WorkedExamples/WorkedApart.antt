-- Worked values: of two participants one leaves and the other looks after that; each went its way, and so they came together.
use Rattle.std.proofs.Common.{◌≡◌, ◌∙◌, ℕ, zero, suc, ◌≤◌, Bool, true, false, true≢false, List, [], ◌∷◌, Some, None, refl, ap, sym, subst, arith}
use Rattle.std.specs.Prelude.{slice_get, slice_index_or, slice_set}
use Rattle.std.proofs.lemmas.Option.{same_Some}
use Rattle.hp_heap.specs.History.{HeapView}
use Rattle.hp_hall.specs.Mail.{Fetches, Gives, MailStep, Notes, Takes}
use Rattle.hp_hall.specs.declared.kept.Kept.TheVariants.{Heap}
use Rattle.hp_maps.specs.Events.{IsToldByAddress}
use Rattle.hp_maps.specs.MapsView.{chunk_rows}
use Rattle.hp_stats.specs.StatViews.{PenView}
use Rattle.hp_hall.specs.declared.note.Note.TheVariants.{Emptied}
use Rattle.hp_segs.specs.LaterSteps.{after_leave}
use Rattle.hp_segs.specs.SegsView.{SegsView, is_member}
use Rattle.hp_serve.specs.Attaching.{after_detaching}
use Rattle.hp_serve.specs.Serving.{gives_segments, takes_segments}
use Rattle.hp_weave.proofs.Interleaving.{holds_of-other}
use Rattle.hp_weave.specs.Deeds.{Deed, Gathering, Runs, Turn}
use Rattle.hp_weave.specs.Holds.{Chain, Hold, holds_of}
use Rattle.thm_run.proofs.PathSteps.Apart.{come_together}
use Rattle.thm_run.specs.Apart.{CameTogether, WentApart, holds_from}
use Rattle.thm_run.specs.Seats.{Handles, Mails, SeatTrace, Seat, leaving, seated}

-- who has left is no member
left_out : (roster : List Bool) (who : ℕ) → slice_index_or (slice_set roster who false) who false ≡ false
left_out [] zero = refl
left_out [] (suc who) = refl
left_out (one ∷ roster) zero = refl
left_out (one ∷ roster) (suc who) = left_out roster who

module _ (segs : SegsView) (stays goes : Seat) (member : is_member segs.roster 1 ≡ true)
    (bare : chunk_rows goes.party.maps.rows ≡ []) (unheard : IsToldByAddress goes.party.maps.rows goes.party.listeners []) where
  -- participant 1 detaches; participant 0 finds no frame, and looks at what 1 left
  abbrev left : SegsView
  left = after_leave 1 segs

  abbrev out : Seat
  out = leaving (record goes.standing { attached = false }) (seated (after_detaching [] goes.party) goes)

  abbrev steps : ℕ → List MailStep
  steps zero = Fetches None ∷ takes_segments left ∷ gives_segments left ∷ []
  steps (suc zero) = takes_segments segs ∷ Notes Emptied ∷ gives_segments left ∷ []
  steps (suc (suc who)) = []

  abbrev at : Seat → SegsView → Gathering Seat SegsView
  at last value = record { seats = stays ∷ last ∷ []; value = value }

  abbrev hold : ℕ → SegsView → SegsView → Hold SegsView
  hold who taken given = record { who = who; taken = taken; given = given }

  abbrev holds : List (Hold SegsView)
  holds = hold 1 segs left ∷ hold 0 left left ∷ []

  way_of_0 : SeatTrace 2 0 stays stays (steps 0)
  way_of_0 =
      SeatTrace.mails stays stays stays (Fetches None) (takes_segments left ∷ gives_segments left ∷ []) (Mails.finds_nothing stays)
      (SeatTrace.handles stays stays stays left left [] [] (Handles.looks stays left) (SeatTrace.ends stays))

  way_of_1 : SeatTrace 2 1 goes out (steps 1)
  way_of_1 = SeatTrace.handles goes out out segs left (Emptied ∷ []) [] (Handles.detaches goes segs [] (λ same. cc) bare unheard) (SeatTrace.ends out)

  -- a heap that is taken is no hold of the segment value
  no_hold : (heap : HeapView) (pen : PenView) → holds_from 1 None (Takes 0 (Heap heap pen) ∷ Gives 0 (Heap heap pen) ∷ steps 1) ≡ hold 1 segs left ∷ []
  no_hold heap pen = refl

  ways : (who : ℕ) (old new : Seat) → slice_get (stays ∷ goes ∷ []) who ≡ Some old → slice_get (stays ∷ out ∷ []) who ≡ Some new
      → SeatTrace 2 who old new (steps who)
  ways zero old new here there =
      subst (λ (old : Seat). SeatTrace 2 0 old new (steps 0)) (same_Some stays old here)
      (subst (λ (new : Seat). SeatTrace 2 0 stays new (steps 0)) (same_Some stays new there) way_of_0)
  ways (suc zero) old new here there =
      subst (λ (old : Seat). SeatTrace 2 1 old new (steps 1)) (same_Some goes old here)
      (subst (λ (new : Seat). SeatTrace 2 1 goes new (steps 1)) (same_Some out new there) way_of_1)
  ways (suc (suc who)) old new here there = absurd (cc)

  nobody : (who : ℕ) → 2 ≤ who → steps who ≡ []
  nobody zero more = absurd (omega (arith, more))
  nobody (suc zero) more = absurd (omega (arith, more))
  nobody (suc (suc who)) more = refl

  own : (who : ℕ) → holds_of who holds ≡ holds_from who None (steps who)
  own zero = refl
  own (suc zero) = refl
  own (suc (suc who)) =
      holds_of-other (hold 1 segs left) (hold 0 left left ∷ []) (suc (suc who)) (λ same. omega (arith, same))
      ∙ holds_of-other (hold 0 left left) [] (suc (suc who)) (λ same. omega (arith, same))

  apart : WentApart 2 (at goes segs) (at out left) steps holds
  apart = record { size = refl; ways = ways; nobody_else = nobody; chain = (refl, (refl, refl)); own = own }

  -- so by the law they came together
  came : CameTogether 2 (at goes segs) (at out left) steps holds
  came = come_together 2 (at goes segs) (at out left) steps holds apart

  -- in these turns, say: 0 looked for its frame after the other had left, and might have before
  abbrev turn : ℕ → Deed Seat SegsView → Turn Seat SegsView
  turn who deed = record { who = who; deed = deed }

  runs : Runs (at goes segs)
      (turn 1 (Deed.Holding goes out segs left) ∷ turn 0 (Deed.Alone stays stays) ∷ turn 0 (Deed.Holding stays stays left left) ∷ [])
      (at out left)
  runs = ((refl, refl), (refl, ((refl, refl), refl)))

  runs_too : Runs (at goes segs)
      (turn 0 (Deed.Alone stays stays) ∷ turn 1 (Deed.Holding goes out segs left) ∷ turn 0 (Deed.Holding stays stays left left) ∷ [])
      (at out left)
  runs_too = (refl, ((refl, refl), ((refl, refl), refl)))

  -- in the other order their holds make no chain, since 1 was in the roster before
  other_order : Chain segs (hold 0 left left ∷ hold 1 segs left ∷ []) left → ⊥
  other_order chain =
      true≢false (sym member ∙ (ap (λ (segs : SegsView). is_member segs.roster 1) (sym chain.0) ∙ left_out segs.roster 1))
