-- A slot was found held by the seat of a hall.
use Rattle.std.proofs.Common.{◌≡◌, ℕ, ◌≤◌, List, [], refl, sym, ap, subst, inl, ◌∙◌, arith}
use Rattle.std.specs.List.{Contains}
use Rattle.std.proofs.lemmas.List.{append-nil}
use Rattle.std.proofs.lemmas.List.Elements.{Contains-push}
use Rattle.hp_stats.specs.StatViews.{seen_of}
use Rattle.atomic_table.specs.Seated.{TableId}
use Rattle.hp_mail.specs.PassView.{MailboxView}
use Rattle.hp_hall.specs.HallCalls.{HasFoundHeld}
use Rattle.hp_hall.specs.HallState.{OthersStay, SlotsStay, SlotsStayBut}
use Rattle.hp_hall.specs.Telling.{acked_since_take}
use Rattle.hp_hall.proofs.HallStates.{slots_but}
use Rattle.hp_board.specs.BoardView.{BoardView}
use Rattle.hp_board.specs.Handed.{IsHeldWord}
use Rattle.hp_board.specs.SeatView.{SeatView}
use Rattle.hp_board.specs.Views.{after_look, holds_names, named_of, own_of, value_of}
use Rattle.hp_board.specs.declared.view.Mine.{Mine}
use Rattle.hp_board.proofs.Fronts.{front_itself}
use Rattle.hp_chair.specs.ChairCourse.{IsChairCourse}
use Rattle.hp_chair.specs.ChairInside.{IsAckedBy, IsChair}
use Rattle.hp_chair.specs.ChairView.{ChairView, chair_state}
use Rattle.hp_chair.proofs.ChairKept.{chair_after, held_still, reader_after}
use Rattle.hp_chair.specs.FoundEmpty.{letters_of}
use Rattle.hp_chair.specs.FoundEmptyLaws.{no_vain}
use Rattle.hp_chair.specs.FoundFullLaws.{none_went}
use Rattle.hp_chair.proofs.ChairSteps.{GoesOn, LeavesSlots, count_on, did_steps, letters_same, mine_stay, named_on, others_stay, parts_stay, slots_stay}
use Rattle.hp_chair.proofs.ChairTakes.{with_seat}
use Rattle.hp_chair.proofs.SeatGoes.{goes_looked, leaves_looked}
use Rattle.hp_chair.proofs.StepsDone.{done_looked}

-- what a hall has found
pub record HasLooked (me slot word : ℕ) (old new : ChairView) : Type 0 where
  pub held : HasFoundHeld me slot word (chair_state old) (chair_state new)
  pub slots : SlotsStayBut slot (chair_state old) (chair_state new)
  pub others : OthersStay me (chair_state old) (chair_state new)
  pub measure : new.turns ≤ old.turns
  pub goes_on : IsChairCourse old new

module _ (me slot word : ℕ) (old : ChairView) (seat : SeatView) (its : me ≡ old.seat.mine.who) (holds : IsHeldWord old.seat.mine slot word)
    (is : seat.mine ≡ after_look slot word old.seat.mine) (sits : seat.board ≡ old.seat.board) where
  abbrev mine : Mine
  mine = old.seat.mine

  abbrev new : ChairView
  new = with_seat seat old.steps old

  goes : GoesOn mine seat.mine
  goes = goes_looked mine seat.mine slot word is

  leaves : LeavesSlots mine seat.mine
  leaves = leaves_looked mine seat.mine slot word is

  course : IsChairCourse old new
  course = record {
    board = sits;
    mailboxes = refl;
    boxes = refl;
    cells = refl;
    who = goes.who;
    opening = goes.opening;
    seen = goes.seen;
    heard = goes.heard;
    named = named_on mine seat.mine goes;
    noted = goes.noted;
    shown = λ heap. front_itself (seen_of heap old.stats);
    known = goes.lines;
    steps = [];
    made = sym (append-nil old.steps);
    done = done_looked mine seat.mine slot word is;
    fetched = letters_same old new refl goes.who;
    vain = no_vain mine.who (letters_of new) old.steps;
    room = none_went mine.who old.boxes old.steps;
    declared = inl refl;
    planned = tt;
    full_mailboxes = omega arith;
    turns = omega arith;
    stopped = λ has. has;
  }

  slots : SlotsStay (chair_state old) (chair_state new)
  slots = slots_stay me old new its goes.who leaves.held

  pub looked_here : HasLooked me slot word old new
  looked_here = record {
    held = record {
      found = subst (λ (m : Mine). Contains m.found (slot, word)) (sym is) (Contains-push mine.found (slot, word));
      held = holds.held;
      declared = subst (λ (n : ℕ). word ≤ n) (sym (count_on mine seat.mine goes)) holds.holder;
      slots = slots;
      mine = mine_stay me old new its goes.who (parts_stay me old new its goes.who leaves.part (λ heap. refl) leaves.joined leaves.lines) (ap own_of is);
      did = did_steps me old new its goes.who [] (sym (append-nil old.steps));
    };
    slots = slots_but slots;
    others = others_stay me old new its goes.who course;
    measure = omega arith;
    goes_on = course;
  }

  pub chair_looked : (board : BoardView) (boxes : List MailboxView) (cells : List TableId) → IsChair board boxes cells old
      → IsChair board boxes cells new
  chair_looked board boxes cells was =
      chair_after board boxes cells old new was sits goes refl
      (held_still mine seat.mine (record {
        who = goes.who;
        opening = goes.opening;
        joined = leaves.joined;
        held = leaves.held;
        moves = ap (λ (m : Mine). m.moves) is;
        log = ap (λ (m : Mine). m.log) is;
        heard = ap (λ (m : Mine). m.heard) is;
        named = ap named_of is;
        holdings = ap (λ (m : Mine). m.holdings) is;
      }) was.held)
      (record {
        moves = ap (λ (m : Mine). m.moves) is ∙ was.tied.moves;
        hand = λ number. ap (λ (m : Mine). value_of number m.held) is ∙ was.tied.hand number;
        naming = ap holds_names is ∙ was.tied.naming;
      })
      (subst (IsAckedBy (acked_since_take old.steps)) (sym is)
      (λ number some. record { its = (was.acked number some).its; joins = (was.acked number some).joins }))
      was.places
      (reader_after cells old new was.reads goes.opening refl (λ heap pair has. has) was.reads.read)
