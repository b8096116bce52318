-- Who has taken the names has them in hand, and they agree with what it knows when it gives them.
use Rattle.std.proofs.Common.{◌≡◌, ◌≢◌, ◌∙◌, ℕ, Some, ap, sym, subst, ⊎_elim, arith}
use Rattle.std.proofs.lemmas.Bool.{cases_eq}
use Rattle.hp_base.specs.declared.limits.TheConstants.{MAX_HEAPS}
use Rattle.hp_hall.specs.declared.kept.Kept.{Kept}
use Rattle.hp_hall.specs.declared.slot.TheConstants.{NAMES_SLOT}
use Rattle.hp_hall.specs.Holding.{StandsFor}
use Rattle.hp_hall.proofs.Gives.{gives_names}
use Rattle.hp_plain.proofs.Given.{known}
use Rattle.hp_plain.specs.HallView.{IsHome, part_in, slot_at}
use Rattle.test_solo.proofs.Claims.{naming_agreed}
use Rattle.test_solo.proofs.plain.memory.claim_memory.Goals as goal

segs_apart : MAX_HEAPS ≢ NAMES_SLOT
segs_apart same = omega (arith, same)

names_apart : NAMES_SLOT ≢ MAX_HEAPS
names_apart same = omega (arith, same)

pub claim_and_release-list-requires-clause-home : goal.claim_and_release-list-requires-clause-home
claim_and_release-list-requires-clause-home c = c.take.ensures.slots.home MAX_HEAPS segs_apart (c.requires.home MAX_HEAPS (omega arith))

pub claim_and_release-list-requires-clause-agrees : goal.claim_and_release-list-requires-clause-agrees
claim_and_release-list-requires-clause-agrees c =
    subst (λ (kept : Kept). StandsFor c.args.me (part_in c.take.new.self c.args.me) kept) c.into_names-names.ensures c.take.ensures.took.stands

pub give-requires-clause-gives : goal.give-requires-clause-gives
give-requires-clause-gives c =
    let me = c.args.me in
    let names = c.into_names-names.result in
    let hall = c.claim_and_release-list.new.hall in
    let agrees = c.claim_and_release-list.ensures.agrees in
    gives_names (known hall me) NAMES_SLOT names (naming_agreed me hall names c.sound.ensures agrees)
    (c.claim_and_release-list.ensures.slots.taken NAMES_SLOT names_apart ∙ (c.take.ensures.took.taken ∙ ap Some c.into_names-names.ensures)) agrees

-- all values are there again
pub returns-clause-home : goal.returns-clause-home
returns-clause-home c = λ number below.
    ⊎_elim
    (λ (same : number ≡ NAMES_SLOT). subst (λ (n : ℕ). IsHome (slot_at c.give.new.self n)) (sym same) c.give.ensures.gave.home)
    (λ (apart : number ≢ NAMES_SLOT). c.give.ensures.slots.home number apart
    (⊎_elim
    (λ (same : number ≡ MAX_HEAPS). subst (λ (n : ℕ). IsHome (slot_at c.claim_and_release-list.new.hall n)) (sym same) c.claim_and_release-list.ensures.home)
    (λ (other : number ≢ MAX_HEAPS). c.claim_and_release-list.ensures.slots.home number other
    (c.take.ensures.slots.home number apart (c.requires.home number below)))
    (cases_eq number MAX_HEAPS)))
    (cases_eq number NAMES_SLOT)
