-- What a call that makes one step leaves of a hall of plain values, as its callers see it.
use Rattle.std.proofs.Common.{◌≡◌, ◌≢◌, ℕ, List, [], ◌∷◌, ◌++◌, Option, sym, ap, subst, ◌∙◌}
use Rattle.std.specs.List.{slice_get, slice_index_or}
use Rattle.hp_base.specs.declared.limits.TheConstants.{MAX_HEAPS}
use Rattle.std.proofs.lemmas.List.{append-nil}
use Rattle.hp_hall.proofs.Doing.{other_step, own_step}
use Rattle.hp_hall.specs.HallCalls.{HasComeTo}
use Rattle.hp_hall.specs.Own.{Own}
use Rattle.hp_hall.specs.declared.slot.TheConstants.{NAMES_SLOT}
use Rattle.hp_hall.specs.HallState.{Did, OthersStay, SlotsStayBut, Stays}
use Rattle.hp_plain.specs.Course.{IsCourse}
use Rattle.hp_plain.specs.HallView.{HallView, IsHome, SlotView, has_names_by, is_joined, joined_in, lines_at, own_at, part_in, part_of, segs_in, slot_at, taken_from}
use Rattle.hp_hall.specs.Mail.{MailStep, steps_of}
use Rattle.hp_plain.specs.PlainState.{plain_later, plain_state}
use Rattle.hp_plain.proofs.Mailed.{noted_last}
use Rattle.hp_plain.proofs.Slotted.{MovesSlot}
use Rattle.hp_plain.proofs.Stepped.{MakesMail, MakesStep}

module _ (me : ℕ) (step : MailStep) (old new : HallView) where
  -- its maker did it, and nobody else anything
  pub did_last : new.mail ≡ old.mail ++ (me, step) ∷ [] → Did me (step ∷ []) (plain_state old) (plain_state new)
  did_last mail = record { made = noted_last old new me step mail me ∙ ap (λ (l : List MailStep). steps_of me old.mail ++ l) (own_step me step) }

  pub none_last : new.mail ≡ old.mail ++ (me, step) ∷ [] → (who : ℕ) → who ≢ me → steps_of who new.mail ≡ steps_of who old.mail
  none_last mail who apart =
      noted_last old new me step mail who ∙ ap (λ (l : List MailStep). steps_of who old.mail ++ l) (other_step who me step apart)
      ∙ append-nil (steps_of who old.mail)

  pub did_one : MakesStep me step old new → Did me (step ∷ []) (plain_state old) (plain_state new)
  did_one makes = record { made = makes.did me ∙ ap (λ (l : List MailStep). steps_of me old.mail ++ l) (own_step me step) }

  pub others_one : MakesStep me step old new → ((who heap : ℕ) → who ≢ me → part_in new who heap ≡ part_in old who heap)
      → ((who : ℕ) → who ≢ me → joined_in new who ≡ joined_in old who) → OthersStay me (plain_state old) (plain_state new)
  others_one makes part joined = record {
    part = part;
    joined = joined;
    own = λ who apart. makes.own who;
    lines = λ who apart. makes.lines who;
    done = λ who apart.
        makes.did who ∙ ap (λ (l : List MailStep). steps_of who old.mail ++ l) (other_step who me step apart) ∙ append-nil (steps_of who old.mail);
    clock = makes.clock;
    later = plain_later old new makes.course;
  }

  pub stays_one : MakesMail me step old new → Stays me (plain_state old) (plain_state new)
  stays_one mails = record {
    slots = record { taken = mails.taken; home = mails.home };
    mine = record { parts = record { part = mails.part me; joined = mails.joined me; lines = mails.makes.lines me }; own = mails.makes.own me };
    others = others_one mails.makes (λ who heap apart. mails.part who heap) (λ who apart. mails.joined who);
  }

  pub slots_one : (number : ℕ) (slot : SlotView) → MovesSlot number slot me step old new → SlotsStayBut number (plain_state old) (plain_state new)
  slots_one number slot moves = record { taken = moves.taken; home = moves.home }

-- a call that leaves the slots brings its maker's own part to another
pub comes_to : (me : ℕ) (own : Own) (steps : List MailStep) (old new : HallView) → Did me steps (plain_state old) (plain_state new)
    → ((who : ℕ) → who ≢ me → steps_of who new.mail ≡ steps_of who old.mail) → own_at new me ≡ own
    → ((who : ℕ) → who ≢ me → own_at new who ≡ own_at old who) → new.slots ≡ old.slots → new.lines ≡ old.lines → new.clock ≡ old.clock
    → IsCourse old new → HasComeTo me own steps (plain_state old) (plain_state new)
comes_to me own steps old new did none here elsewhere slots lines clock course =
    let at : (number : ℕ) → slot_at new number ≡ slot_at old number = λ number. ap (λ (l : List SlotView). slice_get l number) slots in
    let part : (who heap : ℕ) → part_in new who heap ≡ part_in old who heap =
    λ who heap.
    ap (λ (l : List SlotView). part_of who heap (has_names_by who (slice_get l NAMES_SLOT)) (slice_get l heap) (segs_in (slice_get l MAX_HEAPS))) slots in
    let joined : (who : ℕ) → joined_in new who ≡ joined_in old who = λ who. ap (λ (s : Option SlotView). is_joined who (segs_in s)) (at MAX_HEAPS) in
    let same : (who : ℕ) → lines_at new who ≡ lines_at old who = λ who. ap (λ (l : List ℕ). slice_index_or l who 0) lines in
    record {
      own = here;
      parts = record { part = part me; joined = joined me; lines = same me };
      slots = record {
        taken = λ number. ap taken_from (at number);
        home = λ number home. subst IsHome (sym (at number)) home;
      };
      others = record {
        part = λ who heap apart. part who heap;
        joined = λ who apart. joined who;
        own = elsewhere;
        lines = λ who apart. same who;
        done = none;
        clock = clock;
        later = plain_later old new course;
      };
      did = did;
    }
