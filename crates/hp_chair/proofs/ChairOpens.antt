-- A hall opens over a seat that has made no move.
use Rattle.std.proofs.Common.{◌≡◌, ℕ, zero, suc, ◌+◌, ◌<◌, ◌≤◌, Bool, true, false, eqb, eq-eqb, List, [], ◌∷◌, length, map, Option, Some, None, refl, sym, ap, subst, ◌∙◌, arith}
use Rattle.std.specs.List.{slice_get, slice_index_or}
use Rattle.std.proofs.lemmas.Bool.{cond-true}
use Rattle.std.proofs.lemmas.List.{length-map}
use Rattle.hp_base.specs.declared.limits.TheConstants.{MAX_PARTICIPANTS}
use Rattle.hp_stats.specs.StatViews as stats
use Rattle.hp_stats.specs.declared.stat_pair.StatPair.{StatPair}
use Rattle.atomic_table.specs.Seated.{TableId}
use Rattle.hp_mail.specs.PassView.{MailboxView, PassView, new_pass}
use Rattle.std.specs.Option.{is_some}
use Rattle.hp_hall.specs.declared.slot.TheConstants.{NAMES_SLOT}
use Rattle.hp_hall.specs.Measures.{counted, pause_measure}
use Rattle.hp_hall.specs.Mail.{Notes}
use Rattle.hp_hall.specs.declared.note.Note.TheVariants.{ReadStats}
use Rattle.hp_hall.specs.declared.kept.Kept.{Kept}
use Rattle.hp_board.specs.BoardView.{BoardView}
use Rattle.hp_board.specs.SeatView.{SeatView}
use Rattle.hp_board.specs.Views.{value_of}
use Rattle.hp_board.specs.declared.view.Mine.{Mine}
use Rattle.hp_chair.specs.ChairInside.{AreHeld, IsAckedBy, IsChair}
use Rattle.hp_chair.specs.ChairView.{opening_chair}
use Rattle.hp_chair.specs.Places.{ArePlaces, IsPlace}
use Rattle.hp_chair.specs.FoundEmptyLaws.{nothing_among}
use Rattle.hp_chair.specs.Publishing.{HasReadBy, IsUnread}
use Rattle.hp_chair.specs.Steps.{told_in}
use Rattle.hp_chair.proofs.ChairMail.{there_below, there_is}

none_held : (mine : Mine) → mine.held ≡ [] → AreHeld mine
none_held mine none slot kept there =
    let nothing : None ≡ Some kept = ap (λ (l : List (ℕ × Kept)). value_of slot l) (sym none) ∙ there in
    absurd (cc)

none_acked : (mine : Mine) → IsAckedBy None mine
none_acked mine number some = absurd (cc)

abbrev nothing_seen : List StatPair
nothing_seen = []

-- by a new pass nothing was read of any heap
unread_at : (heap : ℕ) (cells : List TableId) → slice_index_or (map (λ cell. nothing_seen) cells) heap [] ≡ []
unread_at zero [] = refl
unread_at (suc heap) [] = refl
unread_at zero (cell ∷ cells) = refl
unread_at (suc heap) (cell ∷ cells) = unread_at heap cells

none_read : (cells : List TableId) (pass : stats.PassView) → pass ≡ stats.new_pass cells → HasReadBy [] pass
none_read cells pass unread = record {
  seen = λ heap. ap (λ (p : stats.PassView). slice_index_or p.seen heap nothing_seen) unread ∙ unread_at heap cells;
  rising = λ first rest heap pair is. absurd (nothing_among first rest (Notes (ReadStats heap pair)) is);
}

none_told : (heap : ℕ) (pair : StatPair) → told_in heap [] ≡ Some pair → ⊥
none_told heap pair is = cc

pub chair_opens : (board : BoardView) (boxes : List MailboxView) (cells : List TableId) (seat : SeatView) (passes : List PassView) (pass : stats.PassView)
    → seat.board ≡ board.id
    → seat.mine.who < seat.mine.opening.participants → seat.mine.opening.participants ≤ MAX_PARTICIPANTS
    → length boxes ≡ seat.mine.opening.participants → seat.mine.held ≡ [] → seat.mine.moves ≡ [] → ArePlaces seat.mine.who [] boxes passes
    → IsUnread cells seat.mine.opening pass → IsChair board boxes cells (opening_chair seat boxes passes pass)
chair_opens board boxes cells seat passes pass its declared few count held moves places unread = record {
  its = its;
  declared = declared;
  few = few;
  count = count;
  held = none_held seat.mine held;
  tied = record { moves = moves; hand = λ slot. ap (λ (l : List (ℕ × Kept)). value_of slot l) held; naming = ap (λ (l : List (ℕ × Kept)). is_some (value_of NAMES_SLOT l)) held };
  acked = λ number some. none_acked seat.mine number some;
  rooms = refl;
  places = places;
  reads = record {
    many = unread.many;
    opened = unread.opened;
    its = ap (λ (p : stats.PassView). p.cells) unread.unread;
    long = ap (λ (p : stats.PassView). length p.seen) unread.unread ∙ length-map cells (λ cell. nothing_seen) ∙ unread.many;
    told = λ heap pair is. absurd (none_told heap pair is);
    read = none_read cells pass unread.unread;
  };
}

-- a turn of a wait uses one up, as no deadline counts
pub turn_falls : (moved : Bool) (until : Option ℕ) (less turns : ℕ) → less + 1 ≡ turns
    → less + counted (λ deadline. 0) until + pause_measure 0 moved ≤ turns + counted (λ deadline. 0) until
turn_falls true until less turns one = omega (arith, one)
turn_falls false until less turns one = omega (arith, one)

-- a participant's passes to new mailboxes, each to its own
pub places_new : (who : ℕ) (boxes : List MailboxView) (passes : List PassView) → length passes ≡ length boxes
    → ((place : ℕ) (mailbox : MailboxView) (pass : PassView) → slice_get boxes place ≡ Some mailbox → slice_get passes place ≡ Some pass
    → pass ≡ new_pass mailbox.id (length boxes) place who) → ArePlaces who [] boxes passes
places_new who boxes passes count is = record {
  count = count;
  knows = λ pass there.
      let below = there_below passes who pass there in
      let box = there_is boxes who (omega (arith, below, count)) in
      ap (λ (p : PassView). p.participants) (is who box.0 pass box.1 there)
      ∙ cond-true (eqb who who) (Some (length boxes)) None (eq-eqb who who refl);
  each = λ place mailbox pass box there.
      subst (IsPlace who place [] mailbox) (sym (is place mailbox pass box there)) (record {
        its = refl;
        whose = refl;
        owner = λ own. eq-eqb who place (sym own);
        posted = refl;
        fetched = λ own. refl;
      });
}

-- a seat that has nothing in hand of any slot holds none
pub none_in_hand : (held : List (ℕ × Kept)) → ((slot : ℕ) → value_of slot held ≡ None) → held ≡ []
none_in_hand [] none = refl
none_in_hand (pair ∷ pairs) none =
    let some : None ≡ Some pair.1 = sym (none pair.0) ∙ cond-true (eqb pair.0 pair.0) (Some pair.1) (value_of pair.0 pairs) (eq-eqb pair.0 pair.0 refl) in
    absurd (cc)
