-- Each step of a hall of several participants leads all of them on, and at the last one all have come to their last seats.
use Rattle.std.proofs.Common.{◌≡◌, ◌≢◌, ◌∙◌, ℕ, Bool, true, false, true≢false, List, [], ◌∷◌, ◌++◌, map, Some, refl, sym, ap, subst, ⊎_elim}
use Rattle.std.specs.Prelude.{slice_get}
use Rattle.std.proofs.lemmas.Bool.{cases_eq}
use Rattle.std.proofs.lemmas.List.{length-set}
use Rattle.std.proofs.lemmas.Option.{slice_get_within, same_Some}
use Rattle.hp_base.specs.declared.limits.TheConstants.{MAX_HEAPS}
use Rattle.hp_frame.specs.declared.frame.Frame.{Frame}
use Rattle.hp_plain.specs.InTurn.{ShowsHome, homes_after}
use Rattle.hp_plain.specs.Keeping.{IsGivenBy, ShowsValues, values_after}
use Rattle.hp_hall.specs.Mail.{MailStep, Notes, steps_of}
use Rattle.hp_plain.specs.Boxes.{IsMailStep, after_step}
use Rattle.hp_hall.specs.Values.{IsSoundKept}
use Rattle.hp_hall.specs.declared.kept.Kept.{Kept}
use Rattle.hp_hall.specs.declared.kept.Kept.TheVariants.{Segments}
use Rattle.hp_hall.specs.declared.note.Note.{Note}
use Rattle.hp_plain.proofs.Slotted.{slice_get-set_same}
use Rattle.hp_serve.specs.Serving.{gives_segments, takes_segments}
use Rattle.hp_segs.specs.SegsView.{SegsView}
use Rattle.thm_run.specs.Seats.{Handles, Mails, SeatTrace, Seat}
use Rattle.thm_run.specs.Together.{GlobalState, RunsByMail, Steps, mailed_by, with_seat, with_segs}
use Rattle.thm_run.proofs.SeatFacts.Seating.{its_seat, other_seat}
use Rattle.thm_run.proofs.PathSteps.Walk.{AllLead, IsBehind, IsGood, IsHolding, IsThere, IsUnderWay, Keeps, Leads, LeavesSegs, OthersLead, heap_boxes, heap_leaves, mail_leaves, steps_elsewhere, steps_here, taken_is}
use Rattle.thm_run.proofs.PathSteps.WalkSteps.{IsNext, Reaches, reaches_mail, reaches_same}

-- a step as it shows itself to all
pub record IsShown (who : ℕ) (step : MailStep) (at : GlobalState) (values : List Kept) (homes : List Bool) : Type 0 where
  pub keeps : Keeps values at.segs
  pub good : IsGood at.segs
  pub mail : IsMailStep who step at.boxes
  pub shows : ShowsValues who step values
  pub home : ShowsHome step homes

module _ (count : ℕ) (lasts : List Seat) (who : ℕ) (step : MailStep) (steps : List (ℕ × MailStep)) (at : GlobalState) (values : List Kept)
    (homes : List Bool) (shown : IsShown who step at values homes) where
  -- who made no step has the same way as before
  lead_on : (new : GlobalState) → ((other : ℕ) → other ≢ who → slice_get new.seats other ≡ slice_get at.seats other) → (other : ℕ) → other ≢ who
      → (seat : Seat) → slice_get new.seats other ≡ Some seat
      → (lead : (seat : Seat) → slice_get at.seats other ≡ Some seat → Leads count lasts ((who, step) ∷ steps) other seat)
      → Leads count lasts steps other seat
  lead_on new others other beside seat there lead =
      let was = lead seat (sym (others other beside) ∙ there) in
      record {
        last = was.last;
        there = was.there;
        path = subst (SeatTrace count other seat was.last) (steps_elsewhere other who step steps (λ same. beside (sym same))) was.path;
      }

  -- its own way, and those of the others, after its step
  all_lead : (new : GlobalState) (seat last : Seat) (boxes : List (List Frame)) → Reaches count who at new seat boxes
      → slice_get lasts who ≡ Some last
      → SeatTrace count who seat last (steps_of who steps) → OthersLead count lasts ((who, step) ∷ steps) who at.seats
      → AllLead count lasts steps new.seats
  all_lead new seat last boxes reaches last_is path others other found there =
      ⊎_elim
      (λ (same : other ≡ who).
      let seat_is : found ≡ seat = same_Some found seat (sym there ∙ ap (slice_get new.seats) same ∙ reaches.its) in
      subst (λ (other : ℕ). Leads count lasts steps other found) (sym same)
      (record {
        last = last;
        there = last_is;
        path = subst (λ (seat : Seat). SeatTrace count who seat last (steps_of who steps)) (sym seat_is) path;
      }))
      (λ (beside : other ≢ who).
      lead_on new reaches.others other beside found there (λ seat is. others other seat beside is))
      (cases_eq other who)

  -- a step that leaves the segment value
  module _ (new : GlobalState) (seat : Seat) (boxes : List (List Frame)) (reaches : Reaches count who at new seat boxes)
      (boxes_are : boxes ≡ after_step who step at.boxes) (leaves : LeavesSegs step values homes) where
    behind_by : IsUnderWay count lasts steps new (homes_after step homes) → IsBehind count lasts who step steps at values homes
    behind_by under_way = record {
      new = new;
      runs = reaches.runs;
      size = reaches.size;
      keeps = subst (Keeps (values_after step values)) (sym reaches.segs) (leaves.keeps at.segs shown.keeps);
      good = subst IsGood (sym reaches.segs) shown.good;
      boxes = reaches.boxes_are ∙ boxes_are;
      under_way = under_way;
    }

  module _ (new : GlobalState) (seat last : Seat) (boxes : List (List Frame)) (reaches : Reaches count who at new seat boxes)
      (boxes_are : boxes ≡ after_step who step at.boxes) (last_is : slice_get lasts who ≡ Some last)
      (path : SeatTrace count who seat last (steps_of who steps)) (leaves : LeavesSegs step values homes) where
    -- where nobody holds that
    free_behind : IsThere homes true → OthersLead count lasts ((who, step) ∷ steps) who at.seats
        → IsBehind count lasts who step steps at values homes
    free_behind there others =
        behind_by new seat boxes reaches boxes_are leaves
        (IsUnderWay.free (leaves.there true there) (all_lead new seat last boxes reaches last_is path others))

    -- where another one holds it
    held_behind : (holder : ℕ) → holder ≢ who → IsThere homes false → IsHolding count lasts ((who, step) ∷ steps) at holder
        → OthersLead count lasts ((who, step) ∷ steps) holder at.seats → IsBehind count lasts who step steps at values homes
    held_behind holder beside there holding others =
        behind_by new seat boxes reaches boxes_are leaves
        (IsUnderWay.held holder (leaves.there false there)
        (record {
          old = holding.old;
          mid = holding.mid;
          last = holding.last;
          given = holding.given;
          held = holding.held;
          rest = holding.rest;
          there = reaches.others holder beside ∙ holding.there;
          handles = subst (λ (segs : SegsView). Handles count holder holding.old holding.mid segs holding.given)
              (sym reaches.segs) holding.handles;
          last_is = holding.last_is;
          path = holding.path;
          are = sym (steps_elsewhere holder who step steps (λ same. beside (sym same))) ∙ holding.are;
        })
        (λ other found apart is.
        ⊎_elim
        (λ (same : other ≡ who).
        let seat_is : found ≡ seat = same_Some found seat (sym is ∙ ap (slice_get new.seats) same ∙ reaches.its) in
        subst (λ (other : ℕ). Leads count lasts steps other found) (sym same)
        (record {
          last = last;
          there = last_is;
          path = subst (λ (seat : Seat). SeatTrace count who seat last (steps_of who steps)) (sym seat_is) path;
        }))
        (λ (aside : other ≢ who).
        lead_on new reaches.others other aside found is (λ seat is. others other seat apart is))
        (cases_eq other who)))

  -- WHERE NOBODY HOLDS THE SEGMENT VALUE

  module _ (there : IsThere homes true) (others : OthersLead count lasts ((who, step) ∷ steps) who at.seats) (last : Seat)
      (last_is : slice_get lasts who ≡ Some last) where
    -- it is taken
    taken_behind : (new : GlobalState) (seat mid : Seat) (taken given : SegsView) (held : List Note) (more : List MailStep)
        → Reaches count who at new seat at.boxes → step ≡ takes_segments taken
        → steps_of who steps ≡ map Notes held ++ (gives_segments given ∷ more) → Handles count who seat mid taken given
        → SeatTrace count who mid last more → IsBehind count lasts who step steps at values homes
    taken_behind new seat mid taken given held more reaches step_is are does path =
        let shows : slice_get values MAX_HEAPS ≡ Some (Segments taken) =
        subst (λ (step : MailStep). ShowsValues who step values) step_is shown.shows in
        let same : taken ≡ at.segs = taken_is values at.segs taken shown.keeps shows in
        let now : taken ≡ new.segs = same ∙ sym reaches.segs in
        let within = slice_get_within homes MAX_HEAPS true there in
        record {
          new = new;
          runs = reaches.runs;
          size = reaches.size;
          keeps = subst (λ (step : MailStep). Keeps (values_after step values) new.segs) (sym step_is)
              (subst (Keeps values) (sym reaches.segs) shown.keeps);
          good = subst IsGood (sym reaches.segs) shown.good;
          boxes = reaches.boxes_are ∙ ap (λ (step : MailStep). after_step who step at.boxes) (sym step_is);
          under_way =
              IsUnderWay.held who
              (subst (λ (step : MailStep). IsThere (homes_after step homes) false) (sym step_is)
              (slice_get-set_same homes MAX_HEAPS false within))
              (record {
                old = seat;
                mid = mid;
                last = last;
                given = given;
                held = held;
                rest = more;
                there = reaches.its;
                handles = subst (λ (segs : SegsView). Handles count who seat mid segs given) now does;
                last_is = last_is;
                path = path;
                are = are;
              })
              (λ other found beside is. lead_on new reaches.others other beside found is (λ seat is. others other seat beside is));
        }

    pub free_next : IsNext count who at last step (steps_of who steps) → IsBehind count lasts who step steps at values homes
    free_next (IsNext.holds new seat reaches of_heap path) =
        free_behind new seat last at.boxes reaches (sym (heap_boxes who step at.boxes of_heap)) last_is path
        (heap_leaves who step values homes at.segs shown.keeps shown.shows of_heap) there others
    free_next (IsNext.mails new seat before reaches does path) =
        free_behind new seat last (after_step who step at.boxes) reaches refl last_is path
        (mail_leaves who before seat step values homes does) there others
    free_next (IsNext.takes new seat mid taken given held more reaches step_is are does path) =
        taken_behind new seat mid taken given held more reaches step_is are does path

  -- WHERE ANOTHER ONE HOLDS IT

  module _ (holder : ℕ) (beside : holder ≢ who) (there : IsThere homes false)
      (holding : IsHolding count lasts ((who, step) ∷ steps) at holder)
      (others : OthersLead count lasts ((who, step) ∷ steps) holder at.seats) (last : Seat)
      (last_is : slice_get lasts who ≡ Some last) where
    pub held_next : IsNext count who at last step (steps_of who steps) → IsBehind count lasts who step steps at values homes
    held_next (IsNext.holds new seat reaches of_heap path) =
        held_behind new seat last at.boxes reaches (sym (heap_boxes who step at.boxes of_heap)) last_is path
        (heap_leaves who step values homes at.segs shown.keeps shown.shows of_heap) holder beside there holding others
    held_next (IsNext.mails new seat before reaches does path) =
        held_behind new seat last (after_step who step at.boxes) reaches refl last_is path
        (mail_leaves who before seat step values homes does) holder beside there holding others
    held_next (IsNext.takes new seat mid taken given held more reaches step_is are does path) =
        let shows : slice_get homes MAX_HEAPS ≡ Some true = subst (λ (step : MailStep). ShowsHome step homes) step_is shown.home in
        let wrong : true ≡ false = same_Some true false (sym shows ∙ there) in
        absurd (true≢false wrong)

  -- WHERE ITS HOLDER GOES ON

  -- it makes a note
  module _ (there : IsThere homes false) (holding : IsHolding count lasts ((who, step) ∷ steps) at who)
      (others : OthersLead count lasts ((who, step) ∷ steps) who at.seats) where
    noted_behind : (note : Note) (notes : List Note) → step ≡ Notes note
        → steps_of who steps ≡ map Notes notes ++ (gives_segments holding.given ∷ holding.rest)
        → IsBehind count lasts who step steps at values homes
    noted_behind note notes step_is are =
        let seat : Seat = holding.old in
        let notes_it : Mails who seat seat step = subst (Mails who seat seat) (sym step_is) (Mails.notes seat note) in
        let new : GlobalState = mailed_by who step (with_seat who seat at) in
        let reaches : Reaches count who at new seat (after_step who step at.boxes) =
        reaches_mail count who at at seat at.boxes (reaches_same count who at seat holding.there) seat step shown.mail notes_it in
        let leaves = mail_leaves who seat seat step values homes notes_it in
        behind_by new seat (after_step who step at.boxes) reaches refl leaves
        (IsUnderWay.held who (leaves.there false there)
        (record {
          old = seat;
          mid = holding.mid;
          last = holding.last;
          given = holding.given;
          held = notes;
          rest = holding.rest;
          there = reaches.its;
          handles = holding.handles;
          last_is = holding.last_is;
          path = holding.path;
          are = are;
        })
        (λ other found beside is. lead_on new reaches.others other beside found is (λ seat is. others other seat beside is)))

  -- or it gives the value back

  given_kept : (before : Kept) (given : SegsView) → before ≡ Segments at.segs → IsGivenBy who before (Segments given)
      → IsSoundKept (Segments given)
      → IsGood given
  given_kept before given was by sound =
      let its = subst (λ (kept : Kept). IsGivenBy who kept (Segments given)) was by in
      record { sound = sound; armed = its.of_armed shown.good.armed }

  given_behind : (there : IsThere homes false) (holding : IsHolding count lasts ((who, step) ∷ steps) at who)
      → OthersLead count lasts ((who, step) ∷ steps) who at.seats → step ∷ steps_of who steps ≡ gives_segments holding.given ∷ holding.rest
      → IsBehind count lasts who step steps at values homes
  given_behind there holding others are =
      let step_is : step ≡ gives_segments holding.given = cc in
      let rest_is : steps_of who steps ≡ holding.rest = cc in
      let shows = subst (λ (step : MailStep). ShowsValues who step values) step_is shown.shows in
      let was : shows.before ≡ Segments at.segs = same_Some shows.before (Segments at.segs) (sym shows.there ∙ shown.keeps) in
      let good = given_kept shows.before holding.given was shows.by shows.sound in
      let new : GlobalState = with_segs holding.given (with_seat who holding.mid at) in
      let within = slice_get_within homes MAX_HEAPS false there in
      record {
        new = new;
        runs = RunsByMail.goes_on at at new (RunsByMail.stands at)
            (Steps.handles at who holding.old holding.mid holding.given holding.there holding.handles good.sound good.armed) tt;
        size = length-set at.seats who holding.mid;
        keeps = subst (λ (step : MailStep). Keeps (values_after step values) holding.given) (sym step_is)
            (slice_get-set_same values MAX_HEAPS (Segments holding.given) (slice_get_within values MAX_HEAPS shows.before shows.there));
        good = good;
        boxes = ap (λ (step : MailStep). after_step who step at.boxes) (sym step_is);
        under_way =
            IsUnderWay.free
            (subst (λ (step : MailStep). IsThere (homes_after step homes) true) (sym step_is)
            (slice_get-set_same homes MAX_HEAPS true within))
            (λ other found is.
            ⊎_elim
            (λ (same : other ≡ who).
            let seat_is : found ≡ holding.mid =
            same_Some found holding.mid (sym is ∙ ap (slice_get new.seats) same
            ∙ its_seat at.seats who holding.old holding.mid holding.there) in
            subst (λ (other : ℕ). Leads count lasts steps other found) (sym same)
            (record {
              last = holding.last;
              there = holding.last_is;
              path = subst (λ (seat : Seat). SeatTrace count who seat holding.last (steps_of who steps)) (sym seat_is)
                  (subst (SeatTrace count who holding.mid holding.last) (sym rest_is) holding.path);
            }))
            (λ (beside : other ≢ who).
            lead_on new (λ other beside. other_seat at.seats who holding.old holding.mid holding.there other beside) other beside found is
            (λ seat is. others other seat beside is))
            (cases_eq other who));
      }

  -- whatever it still has to note
  pub holder_behind : (there : IsThere homes false) (holding : IsHolding count lasts ((who, step) ∷ steps) at who)
      → OthersLead count lasts ((who, step) ∷ steps) who at.seats → (held : List Note) → holding.held ≡ held
      → IsBehind count lasts who step steps at values homes
  holder_behind there holding others [] held_is =
      given_behind there holding others
      (sym (steps_here who step steps) ∙ holding.are
      ∙ ap (λ (held : List Note). map Notes held ++ (gives_segments holding.given ∷ holding.rest)) held_is)
  holder_behind there holding others (note ∷ notes) held_is =
      let are : step ∷ steps_of who steps ≡ Notes note ∷ (map Notes notes ++ (gives_segments holding.given ∷ holding.rest)) =
      sym (steps_here who step steps) ∙ holding.are
      ∙ ap (λ (held : List Note). map Notes held ++ (gives_segments holding.given ∷ holding.rest)) held_is in
      let step_is : step ≡ Notes note = cc in
      let rest_is : steps_of who steps ≡ map Notes notes ++ (gives_segments holding.given ∷ holding.rest) = cc in
      noted_behind there holding others note notes step_is rest_is
