-- The table of a member of the roster has the pages of the heaps that it holds.
use Rattle.std.proofs.Common.{◌≡◌, ◌∙◌, ℕ, List, true, sym, ap, subst}
use Rattle.std.specs.Prelude.{Contains}
use Rattle.hp_base.specs.declared.limits.TheConstants.{MAX_HEAPS}
use Rattle.hp_log.specs.declared.log_record.LogRecord.{LogRecord}
use Rattle.hp_segs.specs.SegsView.{is_member}
use Rattle.hp_segs.specs.Standing.{Holding, owned_by, standing_of}
use Rattle.hp_hall.specs.HallState.{HasMapped}
use Rattle.hp_hall.specs.Own.{rows_known}
use Rattle.hp_hall.proofs.OwnedKnown.{owned_known}
use Rattle.hp_plain.specs.HallView.{HallView, IsHall, is_joined, own_at, seen_in, slot_at}
use Rattle.hp_plain.specs.PlainState.{plain_state}
use Rattle.hp_plain.proofs.Held.{holding_is, log_there}

pub mapped_in : (hall : HallView) (me : ℕ) → IsHall hall → HasMapped me (plain_state hall)
mapped_in hall me is joined heap holding segment held among =
    let segs = is.segs in
    let member : is_member segs.roster me ≡ true = sym (ap (is_joined me) is.there) ∙ joined in
    let same : holding ≡ standing_of heap segs = holding_is hall segs is.there me heap holding held in
    let own : Contains (owned_by heap segs) segment = subst (λ (h : Holding). Contains h.owned segment) same among in
    let seen : seen_in hall ≡ segs.log = log_there (slot_at hall MAX_HEAPS) segs is.there in
    subst (λ (l : List LogRecord). Contains (rows_known l (own_at hall me)) segment.row) (sym seen)
    (owned_known segs (own_at hall me) heap segment is.sound (λ entry generation has grants. is.agreed entry generation me has grants member) own)
