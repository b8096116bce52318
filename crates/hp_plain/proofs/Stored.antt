-- What the trait says of lines that were told to be done, over what that leaves.
use Rattle.std.proofs.Common.{◌≡◌, ℕ, ◌<◌, Some, length, sym, ap, subst, ◌∙◌}
use Rattle.std.specs.List.{slice_get}
use Rattle.std.proofs.lemmas.List.{get_or-set_other, get_or-set_same}
use Rattle.std.proofs.lemmas.Option.{slice_get-get_or}
use Rattle.hp_hall.specs.HallCalls.{HasStored}
use Rattle.hp_hall.specs.Mail.{Notes}
use Rattle.hp_hall.specs.declared.note.Note.TheVariants.{Stored}
use Rattle.hp_plain.specs.Course.{IsCourse}
use Rattle.hp_plain.specs.HallSteps.{after_storing}
use Rattle.hp_plain.specs.HallView.{HallView, IsHome, joined_in, lines_at, own_at, part_in, slot_at, taken_from}
use Rattle.hp_plain.specs.PlainState.{plain_later, plain_state}
use Rattle.hp_plain.proofs.PlainStates.{did_last, none_last}

-- lines that are looked up are those at the participant's place
pub lines_shown : (hall : HallView) (who lines : ℕ) → who < length hall.lines → lines ≡ lines_at hall who → slice_get hall.lines who ≡ Some lines
lines_shown hall who lines below is = slice_get-get_or hall.lines who 0 below ∙ ap Some (sym is)

pub has_stored : (me lines : ℕ) (old new : HallView) → new ≡ after_storing me lines old → me < length old.lines → IsCourse old new
    → HasStored me lines (plain_state old) (plain_state new)
has_stored me lines old new is below course =
    let mail = ap (λ (h : HallView). h.mail) is in
    record {
      lines_are = ap (λ (h : HallView). lines_at h me) is ∙ get_or-set_same old.lines me lines 0 below;
      part = λ heap. ap (λ (h : HallView). part_in h me heap) is;
      joined = ap (λ (h : HallView). joined_in h me) is;
      own = ap (λ (h : HallView). own_at h me) is;
      slots = record {
        taken = λ number. ap (λ (h : HallView). taken_from (slot_at h number)) is;
        home = λ number home. subst (λ (h : HallView). IsHome (slot_at h number)) (sym is) home;
      };
      others = record {
        part = λ who heap apart. ap (λ (h : HallView). part_in h who heap) is;
        joined = λ who apart. ap (λ (h : HallView). joined_in h who) is;
        own = λ who apart. ap (λ (h : HallView). own_at h who) is;
        lines = λ who apart. ap (λ (h : HallView). lines_at h who) is ∙ get_or-set_other old.lines me who lines 0 apart;
        done = none_last me (Notes (Stored lines)) old new mail;
        clock = ap (λ (h : HallView). h.clock) is;
        later = plain_later old new course;
      };
      did = did_last me (Notes (Stored lines)) old new mail;
    }
