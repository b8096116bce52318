-- Where participant 0 catches up while no growth is open none of its mappings fails, and it takes in all records.
use Rattle.std.proofs.Common.{◌≡◌, ℕ, ◌<◌, ◌≤◌, true, length, Some, None, inl, inr, sym, ap, subst, ◌∙◌}
use Rattle.std.specs.Option.{option_map}
use Rattle.std.specs.Prelude.{slice_get, slice_index_or}
use Rattle.std.proofs.lemmas.Option.{none-some}
use Rattle.hp_base.specs.declared.row.Row.{Row}
use Rattle.hp_core.specs.Following.{failure_of}
use Rattle.hp_core.specs.declared.out.Out.{Out}
use Rattle.hp_core.specs.declared.phase.Round.{Round}
use Rattle.hp_segs.specs.declared.growth.Growth.{Growth}
use Rattle.hp_serve.specs.Party.{Party}
use Rattle.thm_causes.specs.RoundTrip.{IsBase, Setting, RunState}
use Rattle.thm_causes.specs.Failing.{AreGrantsWithin, IsOfTheGrowth}
use Rattle.thm_causes.specs.Shared.{Shared}
use Rattle.thm_causes.proofs.CaughtUp.{ends_so, failed, whole}
use Rattle.thm_causes.proofs.FailingLemmas.{fails_so}
use Rattle.thm_causes.proofs.StartSteps.StartingMaps.{HasMapped, comes_up}

module _ (set : Setting) (world : RunState) (round : Round) (mid : Shared) (primary between : Party) (answer : Out) (base : IsBase set world)
    (there : slice_get world.parties 0 ≡ Some primary) (some : 0 < set.count) (alone : world.shared.segs.growth ≡ None)
    (has : HasMapped world round mid primary between answer) where
  -- participant 0 has taken in what was granted
  taken_in : AreGrantsWithin primary.maps.number world.shared.segs.asks
  taken_in entry generation among its =
      let own = base.places 0 primary there in
      let joined : primary.joined ≡ true = sym own.joined ∙ base.primary in
      subst (λ (n : ℕ). generation ≤ n) (sym (own.number joined)) (own.granted joined entry generation among its)

  none_open : (row : Row) → IsOfTheGrowth world.shared.segs row → ⊥
  none_open row its = open_none its.growth (sym its.is_open ∙ alone)
    where
      open_none : (growth : Growth) → Some growth ≡ None → ⊥
      open_none growth same = cc

  none_fails : failure_of has.caught ≡ None
  none_fails =
      elim (fails_so world.shared.segs primary.maps has.table has.caught base.sound taken_in has.caught_up) [
        | inl none ↦ none
        | inr (fails, its) ↦ absurd (none_open fails.row its)
      ]

  whole_table : has.table.number ≡ length world.shared.segs.log
  whole_table =
      elim (ends_so world.shared.segs.log primary.maps has.table has.caught has.caught_up)
      as (λ ends. has.table.number ≡ length world.shared.segs.log) [
        | whole is number calls ↦ number
        | failed its_call fails later last undone number ↦
            absurd (none-some _ (sym (ap (option_map (λ failure. failure.call)) none_fails) ∙ fails))
      ]

  -- it has acknowledged all records
  pub all_taken_in : slice_index_or mid.numbers 0 0 ≡ length world.shared.segs.log
  all_taken_in =
      let up = comes_up set world primary base there some has.table has.caught has.caught_up in
      ap (λ (shared : Shared). slice_index_or shared.numbers 0 0) has.shared ∙ (sym up.number ∙ whole_table)
