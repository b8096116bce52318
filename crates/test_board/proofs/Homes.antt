-- What a hall at a board of two hands out at its end is at home there.
use Rattle.std.proofs.Common.{◌≡◌, ◌∙◌, ℕ, zero, suc, ◌<◌, eqb, eq-eqb, List, [], ◌∷◌, length, map, Some, None, refl, sym, ap, subst, arith, lit<}
use Rattle.std.specs.List.{slice_get}
use Rattle.std.specs.Option.{option_map}
use Rattle.std.proofs.lemmas.Bool.{cond-true}
use Rattle.std.proofs.lemmas.List.{length-map}
use Rattle.std.proofs.lemmas.Option.{none-some, same_Some, slice_get-map, slice_get_within}
use Rattle.atomic_table.specs.Seated.{TableId}
use Rattle.hp_hall.specs.Mail.{MailStep}
use Rattle.hp_hall.specs.declared.kept.Kept.{Kept}
use Rattle.hp_mail.specs.PassView.{MailboxView, PassView, WasInOrder}
use Rattle.hp_heap.specs.History.{HeapView}
use Rattle.hp_stats.specs.StatViews as stats
use Rattle.hp_stats.specs.StatViews.{IsPenOf, PenView}
use Rattle.hp_board.specs.BoardView.{BoardView}
use Rattle.hp_board.specs.Closing.{AreHeaps, IsAmong}
use Rattle.hp_board.specs.SeatView.{SeatView}
use Rattle.hp_board.specs.Views.{value_of}
use Rattle.hp_chair.specs.ChairCourse.{IsChairCourse}
use Rattle.hp_chair.specs.ChairView.{ChairView, chair_state, opening_chair}
use Rattle.hp_chair.specs.Places.{ArePlaces, HasPasses, IsPassAt, IsPlace}
use Rattle.hp_chair.proofs.ChairMail.{there_is}
use Rattle.test_board.specs.Seating.{IsSeated}
use Rattle.test_board.specs.Visiting.{AreInOrder, IsBrought, IsHome, IsIdle, IsOpenedWith}

-- where nothing is held under any number, nothing is held
none_held : (held : List (ℕ × Kept)) → ((number : ℕ) → value_of number held ≡ None) → held ≡ []
none_held [] none = refl
none_held (pair ∷ held) none =
    let is : value_of pair.0 (pair ∷ held) ≡ Some pair.1 =
    cond-true (eqb pair.0 pair.0) (Some pair.1) (value_of pair.0 held) (eq-eqb pair.0 pair.0 refl) in
    absurd (none-some pair.1 (sym (none pair.0) ∙ is))

same_at : {A B : Type 0} (f : A → B) (olds news : List A) (place : ℕ) (old new : A) → map f news ≡ map f olds → slice_get olds place ≡ Some old
    → slice_get news place ≡ Some new → f new ≡ f old
same_at f olds news place old new same there here =
    let first : slice_get (map f olds) place ≡ Some (f old) = slice_get-map f olds place ∙ ap (option_map f) there in
    let second : slice_get (map f news) place ≡ Some (f new) = slice_get-map f news place ∙ ap (option_map f) here in
    same_Some (f new) (f old) (sym second ∙ ap (λ l. slice_get l place) same ∙ first)

-- passes that are for the mailboxes for which the first ones were are at the places of these
places_home : (who participants : ℕ) (steps : List MailStep) (boxes : List MailboxView) (olds news : List PassView) → ArePlaces who [] boxes olds
    → HasPasses who participants steps news → map (λ (pass : PassView). pass.mailbox) news ≡ map (λ (pass : PassView). pass.mailbox) olds
    → ArePlaces who steps boxes news
places_home who participants steps boxes olds news opened kept same =
    let long : length news ≡ length olds =
    sym (length-map news (λ (pass : PassView). pass.mailbox)) ∙ ap length same ∙ length-map olds (λ (pass : PassView). pass.mailbox) in
    let count : length news ≡ length boxes = long ∙ opened.count in
    record {
      count = count;
      knows = λ pass there. kept.knows pass there ∙ ap Some (sym kept.count ∙ count);
      each = λ place mailbox pass box there.
          let within : place < length news = slice_get_within news place pass there in
          let first = there_is olds place (omega (arith, within, long)) in
          let it : IsPassAt who place steps pass = kept.each place pass there in
          let was : IsPlace who place [] mailbox first.0 = opened.each place mailbox first.0 box first.1 in
          record {
            its = same_at (λ (p : PassView). p.mailbox) olds news place first.0 pass same first.1 there ∙ was.its;
            whose = it.whose;
            owner = it.owner;
            posted = it.posted;
            fetched = it.fetched;
          };
    }

-- who sat down at a new board, opened its hall and has nothing in hand at its end comes home
module _ (who : ℕ) (board : BoardView) (boxes : List MailboxView) (cells : List TableId) (seat : SeatView) (passes : List PassView) (pass : stats.PassView)
    (is : IsSeated who board boxes cells seat passes pass) (first last : ChairView) (opened : first ≡ opening_chair seat boxes passes pass)
    (course : IsChairCourse first last) (idle : IsIdle who (chair_state last)) (brought_seat : SeatView) (brought_passes : List PassView)
    (brought_pass : stats.PassView) (brought : IsBrought last brought_seat brought_passes brought_pass) where
  whose : last.seat.mine.who ≡ who
  whose = sym idle.serves

  mailboxes : map (λ (p : PassView). p.mailbox) brought_passes ≡ map (λ (p : PassView). p.mailbox) passes
  mailboxes =
      ap (map (λ (p : PassView). p.mailbox)) brought.passes_are ∙ course.boxes ∙ ap (λ (c : ChairView). map (λ (p : PassView). p.mailbox) c.passes) opened

  pub comes_home : IsHome who board boxes cells brought_seat brought_passes brought_pass
  comes_home = record {
    sits = ap (λ (s : SeatView). s.board) brought.seat_is ∙ course.board ∙ ap (λ (c : ChairView). c.seat.board) opened
        ∙ ap (λ (s : SeatView). s.board) is.sits;
    whose = ap (λ (s : SeatView). s.mine.who) brought.seat_is ∙ whose;
    holds = ap (λ (s : SeatView). s.mine.held) brought.seat_is ∙ none_held last.seat.mine.held idle.free;
    steps = last.steps;
    moves = brought.moves;
    places = places_home who last.seat.mine.opening.participants last.steps boxes passes brought_passes is.places
        (subst (λ (n : ℕ). HasPasses n last.seat.mine.opening.participants last.steps brought_passes) whose brought.has) mailboxes;
    reads = ap (λ (p : stats.PassView). p.cells) brought.stats_is ∙ course.cells ∙ ap (λ (c : ChairView). c.stats.cells) opened
        ∙ ap (λ (p : stats.PassView). p.cells) is.unread.unread;
  }

-- both seats that come home are everybody's
pub everyone : (board : BoardView) (first second : SeatView) → board.opening.participants ≡ 2 → first.mine.who ≡ 0 → second.mine.who ≡ 1 → (who : ℕ)
    → who < board.opening.participants → IsAmong (first ∷ second ∷ []) who
everyone board first second two one other zero may = record { seat = first; there = (0, lit< tt, refl); who_is = one }
everyone board first second two one other (suc zero) may = record { seat = second; there = (1, lit< tt, refl); who_is = other }
everyone board first second two one other (suc (suc who)) may = absurd (omega (arith, two, may))

-- the pen of heap 0 that a closed board hands out is that of its cell
pub first_pen : (board : BoardView) (boxes : List MailboxView) (cells : List TableId) (heaps : List HeapView) (pens : List PenView) (pen : PenView)
    → IsOpenedWith board boxes cells → AreHeaps board.opening heaps pens → slice_get pens 0 ≡ Some pen → IsPenOf cells 0 pen
first_pen board boxes cells heaps pens pen opened are there =
    let first = there_is heaps 0 (omega (arith, are.count)) in
    subst (λ (l : List TableId). IsPenOf l 0 pen) opened.cells_are (are.pen_at 0 first.0 pen first.1 there).cell

-- the two passes of a participant are those to the mailboxes at their places
module _ (who : ℕ) (steps : List MailStep) (boxes : List MailboxView) (passes : List PassView) (one other : PassView)
    (places : ArePlaces who steps boxes passes) (are : passes ≡ one ∷ other ∷ []) where
  pub first_place : (mailbox : MailboxView) → slice_get boxes 0 ≡ Some mailbox → IsPlace who 0 steps mailbox one
  first_place mailbox box = places.each 0 mailbox one box (ap (λ (l : List PassView). slice_get l 0) are)

  pub second_place : (mailbox : MailboxView) → slice_get boxes 1 ≡ Some mailbox → IsPlace who 1 steps mailbox other
  second_place mailbox box = places.each 1 mailbox other box (ap (λ (l : List PassView). slice_get l 1) are)

-- where passes were met at both mailboxes
pub met_in_order : (first second : List PassView) (own there from its : PassView) → first ≡ own ∷ there ∷ [] → second ≡ from ∷ its ∷ []
    → WasInOrder own from → WasInOrder its there → AreInOrder first second
met_in_order first second own there from its are others one other = record {
  to_first = λ owner sender at by.
      let owner_is : own ≡ owner = same_Some own owner (sym (ap (λ (l : List PassView). slice_get l 0) are) ∙ at) in
      let sender_is : from ≡ sender = same_Some from sender (sym (ap (λ (l : List PassView). slice_get l 0) others) ∙ by) in
      subst (λ (p : PassView). WasInOrder p sender) owner_is (subst (λ (p : PassView). WasInOrder own p) sender_is one);
  to_second = λ owner sender at by.
      let owner_is : its ≡ owner = same_Some its owner (sym (ap (λ (l : List PassView). slice_get l 1) others) ∙ at) in
      let sender_is : there ≡ sender = same_Some there sender (sym (ap (λ (l : List PassView). slice_get l 1) are) ∙ by) in
      subst (λ (p : PassView). WasInOrder p sender) owner_is (subst (λ (p : PassView). WasInOrder its p) sender_is other);
}
