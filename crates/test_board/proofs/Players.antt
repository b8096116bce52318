-- A participant that sits at a new board may open a hall there, and may serve in it.
use Rattle.std.proofs.Common.{◌≡◌, ◌∙◌, ℕ, ◌<◌, ◌≤◌, true, false, List, [], length, None, refl, sym, ap, subst, arith}
use Rattle.hp_base.specs.declared.limits.TheConstants.{MAX_PARTICIPANTS}
use Rattle.hp_mail.specs.PassView.{MailboxView, PassView}
use Rattle.hp_hall.specs.HallState.{MayServe}
use Rattle.hp_hall.specs.Holding.{HeapPart}
use Rattle.hp_hall.specs.Own.{Own, after_ack}
use Rattle.hp_log.specs.declared.log_record.LogRecord.{LogRecord}
use Rattle.hp_board.specs.BoardView.{BoardView}
use Rattle.hp_board.specs.SeatView.{SeatView, new_seat}
use Rattle.hp_board.specs.Views.{newcomer, own_of}
use Rattle.hp_serve.specs.InHall.{CanServe}
use Rattle.hp_serve.specs.Party.{Party}
use Rattle.hp_serve.specs.SegmentSlot.{MayHold}
use Rattle.hp_serve.specs.Tied.{IsTied, no_chunks, nothing_yet}
use Rattle.hp_serve.proofs.SegmentSlots.{may_hold}
use Rattle.hp_chair.specs.ChairView.{ChairView, chair_part, chair_state, no_part, opening_chair}
use Rattle.hp_stats.specs.StatViews as stats
use Rattle.atomic_table.specs.Seated.{TableId}
use Rattle.hp_chair.specs.Places.{ArePlaces}
use Rattle.hp_chair.specs.Publishing.{IsUnread}
use Rattle.hp_chair.proofs.OneOf.{one_here}
use Rattle.test_board.specs.Seating.{IsSeated}

module _ (who : ℕ) (board : BoardView) (boxes : List MailboxView) (cells : List TableId) (seat : SeatView) (passes : List PassView)
    (pass : stats.PassView) (is : IsSeated who board boxes cells seat passes pass) where
  pub sits : seat.board ≡ board.id
  sits = ap (λ (s : SeatView). s.board) is.sits

  pub among : who < MAX_PARTICIPANTS
  among = omega (arith, is.below)

  whose : seat.mine.who ≡ who
  whose = ap (λ (s : SeatView). s.mine.who) is.sits

  count : seat.mine.opening.participants ≡ 2
  count = ap (λ (s : SeatView). s.mine.opening.participants) is.sits ∙ is.for_two.two

  pub declared : seat.mine.who < seat.mine.opening.participants
  declared = omega (arith, whose, count, is.below)

  pub few : seat.mine.opening.participants ≤ MAX_PARTICIPANTS
  few = omega (arith, count)

  pub boxed : length boxes ≡ seat.mine.opening.participants
  boxed = is.count ∙ sym count

  pub unused : (seat.mine.held ≡ []) × (seat.mine.moves ≡ [])
  unused = (ap (λ (s : SeatView). s.mine.held) is.sits, ap (λ (s : SeatView). s.mine.moves) is.sits)

  pub placed : ArePlaces seat.mine.who [] boxes passes
  placed = subst (λ (n : ℕ). ArePlaces n [] boxes passes) (sym whose) is.places

  pub unread : IsUnread cells seat.mine.opening pass
  unread = subst (λ (s : SeatView). IsUnread cells s.mine.opening pass) (sym is.sits) is.unread

  abbrev new : ChairView
  new = opening_chair (new_seat board who) boxes passes pass

  may_first : MayServe who (chair_state new)
  may_first = record {
    serves = refl;
    declared = subst (λ (n : ℕ). who < n) (sym is.for_two.two) is.below;
    free = refl;
    home = omega arith;
  }

  module _ (chair : ChairView) (opened : chair ≡ opening_chair seat boxes passes pass) where
    pub opens : chair ≡ new
    opens = opened ∙ ap (λ (s : SeatView). opening_chair s boxes passes pass) is.sits

    -- it may take the segment value
    pub holds : MayHold who (chair_state chair)
    holds = subst (λ (c : ChairView). MayHold who (chair_state c)) (sym opens) (may_hold may_first)

-- a participant with that number is attached, with a table that has taken in nothing
pub record IsNew (who : ℕ) (party : Party) : Type 0 where
  pub number : party.me ≡ who
  pub joined : party.joined ≡ true
  pub tied : (log : List LogRecord) → IsTied log nothing_yet no_chunks party.joined party.maps

module _ (who : ℕ) (board : BoardView) (boxes : List MailboxView) (cells : List TableId) (seat : SeatView) (passes : List PassView)
    (pass : stats.PassView) (is : IsSeated who board boxes cells seat passes pass) (party : Party) (brought : IsNew who party) (chair : ChairView)
    (opened : chair ≡ opening_chair seat boxes passes pass) where
  abbrev first : ChairView
  first = opening_chair (new_seat board who) boxes passes pass

  own_first : (chair_state first).own who ≡ nothing_yet
  own_first = one_here who who (own_of (newcomer board.opening who)) (after_ack 0) refl

  joined_first : (chair_state first).joined who ≡ true
  joined_first = one_here who who (newcomer board.opening who).joined false refl ∙ is.for_two.roster who is.below

  part_first : (chair_state first).part who ≡ chair_part first
  part_first = one_here {A = ℕ → HeapPart} who who (chair_part first) (λ heap. no_part) refl

  can_first : CanServe who party (chair_state first)
  can_first = record {
    may = may_first who board boxes cells seat passes pass is;
    tied = record {
      table = subst (λ (parts : ℕ → HeapPart). IsTied [] ((chair_state first).own who) (λ heap. (parts heap).marked) party.joined party.maps) (sym part_first)
          (subst (λ (own : Own). IsTied [] own no_chunks party.joined party.maps) (sym own_first) (brought.tied []));
      same = joined_first ∙ sym brought.joined;
      left = λ out heap. ap (λ (parts : ℕ → HeapPart). (parts heap).marked) part_first;
    };
  }

  is_first : chair ≡ first
  is_first = opens who board boxes cells seat passes pass is chair opened

  -- it may serve
  pub can : CanServe party.me party (chair_state chair)
  can =
      subst (λ (c : ChairView). CanServe party.me party (chair_state c)) (sym is_first)
      (subst (λ (n : ℕ). CanServe n party (chair_state first)) (sym brought.number) can_first)

  -- and is armed with no ask
  pub unarmed : (heap : ℕ) → ((chair_state chair).part party.me heap).armed ≡ None
  unarmed heap =
      subst (λ (c : ChairView). ((chair_state c).part party.me heap).armed ≡ None) (sym is_first)
      (subst (λ (n : ℕ). ((chair_state first).part n heap).armed ≡ None) (sym brought.number)
      (ap (λ (p : ℕ → HeapPart). (p heap).armed) part_first))
