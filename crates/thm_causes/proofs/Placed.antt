-- Participants in their places.
use Rattle.std.proofs.Common.{◌≡◌, ◌∙◌, ℕ, ◌<◌, ◌≤◌, Bool, false, List, get_or, length, Some, ap, sym, subst, inl, inr, arith}
use Rattle.std.specs.Prelude.{slice_get}
use Rattle.std.proofs.lemmas.Bool.{cases_lt}
use Rattle.std.proofs.lemmas.List.Folds.{list_any_none}
use Rattle.std.proofs.lemmas.Option.{same_Some, slice_get-get_or, slice_get_past}
use Rattle.hp_events.specs.declared.validator.Validator.{Validator}
use Rattle.hp_serve.specs.Party.{Party}
use Rattle.hp_solo.specs.Sequence.{going_place}
use Rattle.hp_solo.specs.Solo.{AloneView, has_stopped, party_at, party_in}
use Rattle.thm_run.proofs.RunFacts.SoFarFacts.{at_place}
use Rattle.thm_causes.specs.Threads.{ArePlaces}

module _ (validators : ℕ → List (Validator Bool)) (servers : List AloneView) (parties : List Party) (are : ArePlaces validators servers parties)
  where
    -- who is in a place is there
    pub placed : (who : ℕ) → party_at servers who ≡ slice_get parties who
    placed who =
        elim (cases_lt who (length parties)) [
          | inl below ↦
              let its = at_place parties who below in
              ap party_in (are.each who its.it its.there) ∙ sym its.there
          | inr beyond ↦
              ap party_in (slice_get_past servers who (omega (arith, beyond, are.count))) ∙ sym (slice_get_past parties who beyond)
        ]

    -- and nobody has stopped
    pub none_stopped : has_stopped servers ≡ false
    none_stopped =
        list_any_none (λ (server : AloneView). server.stopped) servers (λ place server within.
        let party = at_place parties place (omega (arith, within, are.count)) in
        let same : get_or servers place server ≡ going_place (validators place) party.it =
        same_Some (get_or servers place server) (going_place (validators place) party.it)
        (sym (slice_get-get_or servers place server within) ∙ are.each place party.it party.there) in
        ap (λ (server : AloneView). server.stopped) same)
