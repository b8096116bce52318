-- All steps of a hall of several participants, one after another, are a run that leads each of them to its last seat.
use Rattle.std.proofs.Common.{◌≡◌, ◌≢◌, ◌⊎◌, ◌∙◌, ℕ, inl, inr, zero, suc, ◌<◌, ◌≤◌, Bool, false, List, [], ◌∷◌, ◌++◌, length, map, Some, refl, sym, ap, subst, arith, ⊎_elim}
use Rattle.std.specs.Prelude.{slice_get}
use Rattle.std.proofs.lemmas.Bool.{cases_eq}
use Rattle.std.proofs.lemmas.Option.{none-some, slice_get_past}
use Rattle.hp_frame.specs.declared.frame.Frame.{Frame}
use Rattle.hp_plain.specs.InTurn.{AreTakenInTurn, homes_after}
use Rattle.hp_plain.specs.Keeping.{IsKeptBy, values_after}
use Rattle.hp_hall.specs.Mail.{MailStep, Notes, steps_of}
use Rattle.hp_plain.specs.Boxes.{IsMail}
use Rattle.hp_hall.specs.declared.kept.Kept.{Kept}
use Rattle.hp_hall.specs.declared.note.Note.{Note}
use Rattle.hp_serve.specs.Serving.{gives_segments}
use Rattle.hp_segs.specs.SegsView.{SegsView}
use Rattle.thm_run.proofs.PathSteps.ByMail.{by_mail_then}
use Rattle.thm_run.specs.Seats.{SeatTrace, Seat}
use Rattle.thm_run.specs.Together.{GlobalState, RunsByMail}
use Rattle.thm_run.proofs.PathSteps.Walk.{AllLead, IsBehind, IsGood, IsHolding, IsThere, IsUnderWay, Keeps, Leads, OthersLead, steps_here}
use Rattle.thm_run.proofs.PathSteps.WalkOn.{IsShown, free_next, held_next, holder_behind}
use Rattle.thm_run.proofs.PathSteps.WalkSteps.{at_rest, next_step}

-- there is an element at each place of a list
pub get_there : {X : Type 0} (xs : List X) (place : ℕ) → place < length xs → (x : X) × (slice_get xs place ≡ Some x)
get_there [] place below = absurd (omega (arith, below))
get_there (x ∷ xs) zero below = (x, refl)
get_there (x ∷ xs) (suc place) below = get_there xs place (omega (arith, below))

-- lists that have the same at each place are the same
pub same_list : {X : Type 0} (xs ys : List X) → ((place : ℕ) → slice_get xs place ≡ slice_get ys place) → xs ≡ ys
same_list [] [] same = refl
same_list [] (y ∷ ys) same = absurd (none-some y (same 0))
same_list (x ∷ xs) [] same = absurd (none-some x (sym (same 0)))
same_list (x ∷ xs) (y ∷ ys) same =
    let first : Some x ≡ Some y = same 0 in
    let rest : xs ≡ ys = same_list xs ys (λ place. same (suc place)) in
    cc

below_or_past : (place count : ℕ) → (place < count) ⊎ (count ≤ place)
below_or_past zero zero = inr (omega arith)
below_or_past zero (suc count) = inl (omega arith)
below_or_past (suc place) zero = inr (omega arith)
below_or_past (suc place) (suc count) =
    ⊎_elim (λ (below : place < count). inl (omega (arith, below))) (λ (past : count ≤ place). inr (omega (arith, past)))
    (below_or_past place count)

-- a joint state is its parts
joint_is : (at : GlobalState) (seats : List Seat) (segs : SegsView) (boxes : List (List Frame)) → at.seats ≡ seats → at.segs ≡ segs
    → at.boxes ≡ boxes
    → at ≡ record { seats = seats; segs = segs; boxes = boxes }
joint_is at seats segs boxes seats_are segs_is boxes_are =
    ap (λ (seats : List Seat). record { seats = seats; segs = at.segs; boxes = at.boxes }) seats_are
    ∙ ap (λ (segs : SegsView). record { seats = seats; segs = segs; boxes = at.boxes }) segs_is
    ∙ ap (λ (boxes : List (List Frame)). record { seats = seats; segs = segs; boxes = boxes }) boxes_are

module _ (count : ℕ) (lasts : List Seat) where
  -- ONE STEP

  module _ (who : ℕ) (step : MailStep) (steps : List (ℕ × MailStep)) (at : GlobalState) (values : List Kept) (homes : List Bool)
      (shown : IsShown who step at values homes) (within : who < length at.seats) where
    -- the next step of one whose way is known
    its_way : (seat : Seat) (lead : Leads count lasts ((who, step) ∷ steps) who seat)
        → SeatTrace count who seat lead.last (step ∷ steps_of who steps)
    its_way seat lead = subst (SeatTrace count who seat lead.last) (steps_here who step steps) lead.path

    held_on : (holder : ℕ) → IsThere homes false → IsHolding count lasts ((who, step) ∷ steps) at holder
        → OthersLead count lasts ((who, step) ∷ steps) holder at.seats → IsBehind count lasts who step steps at values homes
    held_on holder there holding others =
        ⊎_elim
        (λ (same : holder ≡ who).
        let its : IsHolding count lasts ((who, step) ∷ steps) at who =
        subst (IsHolding count lasts ((who, step) ∷ steps) at) same holding in
        holder_behind count lasts who step steps at values homes shown there its
        (subst (λ (holder : ℕ). OthersLead count lasts ((who, step) ∷ steps) holder at.seats) same others) its.held refl)
        (λ (beside : holder ≢ who).
        let seat = get_there at.seats who within in
        let lead = others who seat.0 (λ same. beside (sym same)) seat.1 in
        held_next count lasts who step steps at values homes shown holder beside there holding others lead.last lead.there
        (next_step count who at step (steps_of who steps) shown.mail seat.0 lead.last seat.1 (its_way seat.0 lead)))
        (cases_eq holder who)

    pub step_behind : IsUnderWay count lasts ((who, step) ∷ steps) at homes → IsBehind count lasts who step steps at values homes
    step_behind (IsUnderWay.free there leads) =
        let seat = get_there at.seats who within in
        let lead = leads who seat.0 seat.1 in
        free_next count lasts who step steps at values homes shown there
        (λ other found beside is. leads other found is) lead.last lead.there
        (next_step count who at step (steps_of who steps) shown.mail seat.0 lead.last seat.1 (its_way seat.0 lead))
    step_behind (IsUnderWay.held holder there holding others) = held_on holder there holding others

  -- BEHIND THE LAST STEP

  -- the first so many have come to their last seats
  record IsRested (n : ℕ) (at : GlobalState) : Type 0 where
    new : GlobalState
    runs : RunsByMail count at new
    size : length new.seats ≡ length at.seats
    segs : new.segs ≡ at.segs
    boxes : new.boxes ≡ at.boxes
    rested : (who : ℕ) → who < n → slice_get new.seats who ≡ slice_get lasts who
    left : (who : ℕ) → n ≤ who → slice_get new.seats who ≡ slice_get at.seats who

  module _ (at : GlobalState) (leads : AllLead count lasts [] at.seats) where
    rest_one : (n : ℕ) → n < length at.seats → IsRested n at → IsRested (suc n) at
    rest_one n below rested =
        let seat = get_there at.seats n below in
        let lead = leads n seat.0 seat.1 in
        let there : slice_get rested.new.seats n ≡ Some seat.0 = rested.left n (omega arith) ∙ seat.1 in
        let on = at_rest count n rested.new seat.0 lead.last there lead.path in
        record {
          new = on.0;
          runs = by_mail_then count at rested.new on.0 rested.runs on.1.runs;
          size = on.1.size ∙ rested.size;
          segs = on.1.segs ∙ rested.segs;
          boxes = on.1.boxes_are ∙ rested.boxes;
          rested = λ who before.
              ⊎_elim (λ (same : who ≡ n). ap (slice_get on.0.seats) same ∙ (on.1.its ∙ (sym lead.there ∙ ap (slice_get lasts) (sym same))))
              (λ (apart : who ≢ n). on.1.others who apart ∙ rested.rested who (omega (arith, before, apart))) (cases_eq who n);
          left = λ who behind. on.1.others who (λ same. omega (arith, behind, same)) ∙ rested.left who (omega (arith, behind));
        }

    rest_all : (n : ℕ) → n ≤ length at.seats → IsRested n at
    rest_all zero within = record {
      new = at;
      runs = RunsByMail.stands at;
      size = refl;
      segs = refl;
      boxes = refl;
      rested = λ who before. absurd (omega (arith, before));
      left = λ who behind. refl;
    }
    rest_all (suc n) within = rest_one n (omega (arith, within)) (rest_all n (omega (arith, within)))

  -- where all have come to
  pub record Arrives (at : GlobalState) (boxes : List (List Frame)) (values : List Kept) : Type 0 where
    pub segs : SegsView
    pub runs : RunsByMail count at (record { seats = lasts; segs = segs; boxes = boxes })
    pub keeps : Keeps values segs
    pub good : IsGood segs

  module _ (at : GlobalState) (values : List Kept) (keeps : Keeps values at.segs) (good : IsGood at.segs) (sized : length at.seats ≡ length lasts)
      (leads : AllLead count lasts [] at.seats) where
    rests : IsRested (length at.seats) at → Arrives at at.boxes values
    rests rested =
        let seats : rested.new.seats ≡ lasts =
        same_list rested.new.seats lasts
        (λ place.
        ⊎_elim (λ (below : place < length at.seats). rested.rested place below)
        (λ (past : length at.seats ≤ place).
        slice_get_past rested.new.seats place (omega (arith, past, rested.size))
        ∙ sym (slice_get_past lasts place (omega (arith, past, sized))))
        (below_or_past place (length at.seats))) in
        let new_is : rested.new ≡ record { seats = lasts; segs = at.segs; boxes = at.boxes } =
        joint_is rested.new lasts at.segs at.boxes seats rested.segs rested.boxes in
        record { segs = at.segs; runs = subst (RunsByMail count at) new_is rested.runs; keeps = keeps; good = good }

  -- ALL STEPS

  never_empty : (held : List Note) (given : SegsView) (rest : List MailStep) → [] ≢ map Notes held ++ (gives_segments given ∷ rest)
  never_empty [] given rest same = cc
  never_empty (note ∷ notes) given rest same = cc

  nobody_holds : (at : GlobalState) (who : ℕ) → IsHolding count lasts [] at who → ⊥
  nobody_holds at who holding = never_empty holding.held holding.given holding.rest holding.are

  -- no step is left
  none_left : (at : GlobalState) (values : List Kept) (homes : List Bool) → length at.seats ≡ length lasts → Keeps values at.segs → IsGood at.segs
      → IsUnderWay count lasts [] at homes → Arrives at at.boxes values
  none_left at values homes sized keeps good (IsUnderWay.free there leads) =
      rests at values keeps good sized leads (rest_all at leads (length at.seats) (omega arith))
  none_left at values homes sized keeps good (IsUnderWay.held who there holding others) = absurd (nobody_holds at who holding)

  -- after one step the way goes on
  arrives_on : (who : ℕ) (step : MailStep) (steps : List (ℕ × MailStep)) (at : GlobalState) (boxes : List (List Frame)) (values later : List Kept)
      (homes : List Bool) (here : IsBehind count lasts who step steps at values homes) → Arrives here.new boxes later
      → Arrives at boxes later
  arrives_on who step steps at boxes values later homes here on = record {
    segs = on.segs;
    runs = by_mail_then count at here.new (record { seats = lasts; segs = on.segs; boxes = boxes }) here.runs on.runs;
    keeps = on.keeps;
    good = on.good;
  }

  pub arrives : (steps : List (ℕ × MailStep)) (at : GlobalState) (boxes : List (List Frame)) (values later : List Kept) (homes last : List Bool)
      → length at.seats ≡ count → length lasts ≡ count → IsMail steps at.boxes boxes → IsKeptBy count steps values later
      → AreTakenInTurn steps homes last → Keeps values at.segs → IsGood at.segs → IsUnderWay count lasts steps at homes
      → Arrives at boxes later
  arrives [] at boxes values later homes last sized lasts_sized mail kept turns keeps good under_way =
      subst (λ (boxes : List (List Frame)). Arrives at boxes later) (sym mail)
      (subst (Arrives at at.boxes) (sym kept) (none_left at values homes (sized ∙ sym lasts_sized) keeps good under_way))
  arrives (step ∷ steps) at boxes values later homes last sized lasts_sized mail kept turns keeps good under_way =
      let within : step.0 < length at.seats = subst (λ (n : ℕ). step.0 < n) (sym sized) kept.0.declared in
      let here =
      step_behind step.0 step.1 steps at values homes
      (record { keeps = keeps; good = good; mail = mail.0; shows = kept.0.shows; home = turns.0 }) within under_way in
      arrives_on step.0 step.1 steps at boxes values later homes here
      (arrives steps here.new boxes (values_after step.1 values) later (homes_after step.1 homes) last (here.size ∙ sized) lasts_sized
      (subst (λ (now : List (List Frame)). IsMail steps now boxes) (sym here.boxes) mail.1)
      kept.1 turns.1 here.keeps here.good here.under_way)
