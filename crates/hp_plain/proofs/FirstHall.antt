-- A hall may open with heaps before their first call, with a segment value before its first one, and with names that agree with these heaps.
use Rattle.std.proofs.Common.{◌≡◌, ◌∙◌, ℕ, zero, suc, List, [], replicate, Option, Some, None, refl, sym, ap, subst}
use Rattle.std.specs.Prelude.{slice_get, slice_index_or}
use Rattle.hp_base.specs.declared.pool_line.PoolLine.{PoolLine}
use Rattle.hp_heap.specs.History.{HeapView}
use Rattle.hp_heap.specs.HistoryLaws.{runs_cut, runs_grown}
use Rattle.hp_segs.specs.LaterSteps.{armed_ask}
use Rattle.hp_segs.specs.Opening.{opening}
use Rattle.hp_segs.specs.SegsView.{SegsView}
use Rattle.hp_segs.specs.Standing.{IsArmed, standing_of}
use Rattle.hp_segs.specs.declared.ask.Ask.{Ask}
use Rattle.hp_hall.specs.AgreedNames.{AreAgreedNames}
use Rattle.hp_hall.specs.Holding.{HasHolding}
use Rattle.hp_zone.specs.declared.names.Names.{Names as NamesView}
use Rattle.hp_hall.proofs.Gives.{bare_pages, has_nothing}
use Rattle.hp_plain.specs.Opening.{AreUnused, MayOpenWith, namings_of}

no_runs : (runs_grown [] ≡ []) × (runs_cut [] ≡ [])
unfolding runs_grown runs_cut
no_runs = (refl, refl)

all_alike : (armed : Option Ask) (count who : ℕ) → slice_index_or (replicate count armed) who armed ≡ armed
all_alike armed zero who = refl
all_alike armed (suc count) zero = refl
all_alike armed (suc count) (suc who) = all_alike armed count who

module _ (pools : List PoolLine) (participants absent : ℕ) where
  abbrev first : SegsView
  first = opening pools participants absent

  nobody_armed : (who : ℕ) (ask : Ask) → armed_ask first who ≡ Some ask → ⊥
  nobody_armed who ask is =
      let wrong : None ≡ Some ask = sym (all_alike None 16 who) ∙ is in
      cc

  first_armed : IsArmed first
  first_armed = record { growth = tt; kept = λ entry ask armed has. absurd (has_nothing entry has) }

  -- a heap without pages and without a call has all that such a value has for it
  holds_nothing : (number : ℕ) (heap : HeapView) → heap.plain.pages ≡ [] → heap.history ≡ [] → HasHolding heap (standing_of number first)
  holds_nothing number heap bare unused = record {
    pages = bare_pages heap.plain.pages [] bare refl;
    grown = ap runs_grown unused ∙ no_runs.0;
    cut = ap runs_cut unused ∙ no_runs.1;
  }

  pub new_opens : (heaps : List HeapView) (segs : SegsView) (names : NamesView) → segs ≡ first → AreUnused heaps
      → ((number : ℕ) (heap : HeapView) → slice_get heaps number ≡ Some heap → heap.plain.pages ≡ [])
      → AreAgreedNames names (namings_of heaps) [] → MayOpenWith heaps segs names
  new_opens heaps segs names is unused bare agrees =
      subst (λ (s : SegsView). MayOpenWith heaps s names) (sym is) (record {
        held = λ number heap there. holds_nothing number heap (bare number heap there) (unused number heap there);
        armed = first_armed;
        settled = λ who ask armed. absurd (nobody_armed who ask armed);
        ungranted = λ entry has. absurd (has_nothing entry has);
        agrees = agrees;
      })
