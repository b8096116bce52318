use Rattle.std.proofs.Common.{◌≡◌, ◌∙◌, ℕ, List, [], length, Option, Some, None, refl, sym, ap, subst}
use Rattle.std.specs.Prelude.{IfSome}
use Rattle.std.specs.Option.{option_and_then}
use Rattle.std.proofs.lemmas.List.{length-map, length-replicate}
use Rattle.hp_base.specs.declared.limits.TheConstants.{MAX_HEAPS}
use Rattle.hp_heap.specs.History.{HeapView}
use Rattle.hp_heap.specs.HistoryLaws.{runs_cut, runs_grown}
use Rattle.hp_segs.specs.GrowthLaws.{IsOfArmed}
use Rattle.hp_segs.specs.LaterSteps.{armed_ask}
use Rattle.hp_segs.specs.SegsView.{SegsView}
use Rattle.hp_segs.specs.Standing.{Holding, IsArmed}
use Rattle.hp_segs.specs.declared.ask.Ask.{Ask}
use Rattle.hp_segs.specs.declared.growth.Growth.{Growth}
use Rattle.hp_hall.specs.Holding.{HasHolding}
use Rattle.hp_hall.specs.Own.{after_ack}
use Rattle.hp_hall.proofs.Gives.{bare_pages}
use Rattle.hp_hall.specs.Views.{HeldHeap}
use Rattle.hp_plain.specs.HallView.{HallView, is_joined, own_at, seen_in, segs_in, slot_at}
use Rattle.hp_heap.specs.PlainHeap.{PlainHeap}
use Rattle.hp_hall.specs.AgreedNames.{AreAgreedNames}
use Rattle.hp_plain.proofs.FirstNames.{heaps_agree}
use Rattle.hp_plain.specs.Opening.{AreHome, AreInOrder, OpensWith, namings_of}
use Rattle.hp_zone.specs.declared.names.Names.{Names as NamesView}
use Rattle.hp_plain.proofs.Opened.{opened_home, opened_log, opened_segs}
use Rattle.test_solo.specs.Untouched.{IsUnasked, nothing_held}
use Rattle.test_solo.proofs.plain.hall_of_two.Goals as goal

no_runs : (runs_grown [] ≡ []) × (runs_cut [] ≡ [])
unfolding runs_grown runs_cut
no_runs = (refl, refl)

-- a vacant heap has what nothing was claimed for
holds_nothing : (heap : HeapView) (holding : Holding) → heap.plain.pages ≡ [] → heap.history ≡ [] → holding ≡ nothing_held → HasHolding heap holding
holds_nothing heap holding bare unused is =
    subst (HasHolding heap) (sym is) (record {
      pages = bare_pages heap.plain.pages [] bare refl;
      grown = ap runs_grown unused ∙ no_runs.0;
      cut = ap runs_cut unused ∙ no_runs.1;
    })

-- no ask and no growth are of a value of which nobody is armed
none_armed : (segs : SegsView) (who : ℕ) (ask : Ask) → IsUnasked segs → armed_ask segs who ≡ Some ask → ⊥
none_armed segs who ask none is =
    let wrong : None ≡ Some ask = sym (none.unarmed who) ∙ is in
    cc

all_armed : (segs : SegsView) → IsUnasked segs → IsArmed segs
all_armed segs none = record {
  growth = subst (λ (growth : Option Growth). IfSome growth (IsOfArmed segs.asks segs.armed)) (sym none.alone) tt;
  kept = λ entry ask armed has keeps is. absurd (none_armed segs entry.from armed none is);
}

pub new-requires-2-clause-opens : goal.new-requires-2-clause-opens
new-requires-2-clause-opens c =
    let heaps = c.in_ok-heaps.ensures in
    let segs = c.in_ok-segs.ensures in
    record {
      held = λ number heap there.
          holds_nothing heap _ (ap (λ (p : PlainHeap). p.pages) (heaps.opened number heap there)) (heaps.unused number heap there) (segs.bare number);
      armed = all_armed _ segs.unasked;
      settled = λ who ask is. absurd (none_armed _ who ask segs.unasked is);
      ungranted = segs.ungranted;
      agrees = subst (AreAgreedNames c.in_ok-names.names (namings_of c.in_ok-heaps.heaps.items)) (sym segs.unclaimed)
          (heaps_agree [] c.in_ok-heaps.heaps.items c.in_ok-names.names heaps.order.count heaps.opened c.in_ok-names.ensures.heaps
          c.in_ok-names.ensures.zones);
    }

-- the hall, and how many heaps it has
module _ (heaps : List HeapView) (segs : SegsView) (names : NamesView) (hall : HallView) (order : AreInOrder heaps)
    (opens : OpensWith 2 heaps segs names hall) where
  pub many : length opens.held ≡ MAX_HEAPS
  many = sym (length-map opens.held (λ (one : HeldHeap). one.heap)) ∙ (ap length opens.heaps_are ∙ order.count)

  pub is_home : AreHome hall
  is_home = subst AreHome (sym opens.hall_is) (opened_home segs names 2 opens.held many)

  pub has_segs : segs_in (slot_at hall MAX_HEAPS) ≡ Some segs
  has_segs =
      ap (λ (h : HallView). segs_in (slot_at h MAX_HEAPS)) opens.hall_is ∙ opened_segs segs names opens.held MAX_HEAPS many

  pub has_log : seen_in hall ≡ segs.log
  has_log = ap seen_in opens.hall_is ∙ opened_log segs names opens.held MAX_HEAPS many

pub returns-clause-two : goal.returns-clause-two
returns-clause-two c = ap (λ (h : HallView). length h.owns) c.in_ok-hall.ensures.hall.hall_is ∙ length-replicate 2 (after_ack 0)

pub returns-clause-home : goal.returns-clause-home
returns-clause-home c = is_home _ _ _ _ c.in_ok-heaps.ensures.order c.in_ok-hall.ensures.hall

pub returns-clause-untouched : goal.returns-clause-untouched
returns-clause-untouched c = λ who number. record {
  entries = c.in_ok-hall.ensures.unused c.in_ok-heaps.ensures.unused who number;
  unarmed =
      ap (option_and_then (λ (segs : SegsView). armed_ask segs who)) (has_segs _ _ _ _ c.in_ok-heaps.ensures.order c.in_ok-hall.ensures.hall)
      ∙ c.in_ok-segs.ensures.unasked.unarmed who;
}

pub returns-clause-nothing_yet : goal.returns-clause-nothing_yet
returns-clause-nothing_yet c = ap (λ (h : HallView). (own_at h 1).number) c.in_ok-hall.ensures.hall.hall_is

pub returns-clause-records : goal.returns-clause-records
returns-clause-records c =
    ap length (has_log _ _ _ _ c.in_ok-heaps.ensures.order c.in_ok-hall.ensures.hall) ∙ c.in_ok-segs.ensures.two

pub returns-clause-joined : goal.returns-clause-joined
returns-clause-joined c =
    ap (is_joined 1) (has_segs _ _ _ _ c.in_ok-heaps.ensures.order c.in_ok-hall.ensures.hall) ∙ c.in_ok-segs.ensures.member

pub returns-clause-clock : goal.returns-clause-clock
returns-clause-clock c = ap (λ (h : HallView). h.clock) c.in_ok-hall.ensures.hall.hall_is
