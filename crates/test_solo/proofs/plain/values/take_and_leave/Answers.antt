use Rattle.std.proofs.Common.{◌≡◌, ◌≢◌, ℕ, [], ◌∷◌, Some, refl, ap, sym, subst, ◌∙◌, ⊎_elim}
use Rattle.std.proofs.lemmas.Bool.{cases_eq}
use Rattle.hp_base.specs.declared.limits.TheConstants.{MAX_HEAPS}
use Rattle.hp_hall.specs.declared.kept.Kept.{Kept}
use Rattle.hp_hall.specs.declared.kept.Kept.TheVariants.{Segments}
use Rattle.hp_hall.specs.Giving.{Knows}
use Rattle.hp_hall.specs.HallState.{Did}
use Rattle.hp_hall.specs.Mail.{Notes, Takes}
use Rattle.hp_hall.specs.declared.note.Note.TheVariants.{Emptied}
use Rattle.hp_hall.proofs.Gives.{gives_taken}
use Rattle.hp_hall.proofs.HallStates.{but_then, did_then, emptied_taken, others_then, slots_but}
use Rattle.hp_plain.proofs.Given.{known}
use Rattle.hp_plain.specs.HallView.{IsHome, slot_at}
use Rattle.hp_plain.specs.PlainState.{plain_state}
use Rattle.test_solo.proofs.plain.values.take_and_leave.Goals as goal

-- it has told that its table has no row since it took the value
pub give-requires-clause-gives : goal.give-requires-clause-gives
give-requires-clause-gives c =
    let me = c.args.me in
    let knows : Knows = known c.emptied.new.self me in
    let segs = c.into_segments-segs.result in
    let is = c.into_segments-segs.ensures in
    let told = c.emptied.ensures in
    let took =
    subst (λ (kept : Kept). Did me (Takes MAX_HEAPS kept ∷ []) (plain_state c.args.hall.now) (plain_state c.take.new.self)) is
    c.take.ensures.took.did in
    let both : Did me (Takes MAX_HEAPS (Segments segs) ∷ Notes Emptied ∷ []) (plain_state c.args.hall.now) (plain_state c.emptied.new.self) =
    did_then took told.did in
    gives_taken knows MAX_HEAPS (Segments segs) (Segments c.leave.new.segs)
    (told.stays.slots.taken MAX_HEAPS ∙ (c.take.ensures.took.taken ∙ ap Some is))
    (c.leave.ensures knows refl (emptied_taken both))

pub returns-clause-home : goal.returns-clause-home
returns-clause-home c = λ number home.
    ⊎_elim
    (λ (same : number ≡ MAX_HEAPS). subst (λ (n : ℕ). IsHome (slot_at c.give.new.self n)) (sym same) c.give.ensures.gave.home)
    (λ (apart : number ≢ MAX_HEAPS).
    c.give.ensures.slots.home number apart (c.emptied.ensures.stays.slots.home number (c.take.ensures.slots.home number apart home)))
    (cases_eq number MAX_HEAPS)

pub returns-clause-slots : goal.returns-clause-slots
returns-clause-slots c = but_then (but_then c.take.ensures.slots (slots_but c.emptied.ensures.stays.slots)) c.give.ensures.slots

pub returns-clause-own : goal.returns-clause-own
returns-clause-own c = c.give.ensures.gave.own ∙ (c.emptied.ensures.stays.mine.own ∙ c.take.ensures.took.own)

pub returns-clause-others : goal.returns-clause-others
returns-clause-others c = others_then c.take.ensures.others (others_then c.emptied.ensures.stays.others c.give.ensures.others)
