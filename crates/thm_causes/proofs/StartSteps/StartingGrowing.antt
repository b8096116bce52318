-- Where participant 0 is told to catch up for a growth that was opened: what is known after that.
use Rattle.std.proofs.Common.{◌≡◌, ℕ, ◌+◌, ◌<◌, ◌≤◌, true, false, [], length, Option, Some, None, is_some, inl, inr, refl, sym, ap, subst, ◌∙◌, arith}
use Rattle.std.specs.List.{All}
use Rattle.std.specs.Option.{option_map}
use Rattle.std.specs.Prelude.{slice_get, slice_index_or}
use Rattle.std.proofs.lemmas.Option.{none-some}
use Rattle.hp_core.specs.Asks.{asker, number_of}
use Rattle.hp_core.specs.Core.{is_open_for}
use Rattle.hp_core.specs.Following.{after_catching, failure_of}
use Rattle.hp_core.specs.declared.asked.Asked.{Asked}
use Rattle.hp_core.specs.declared.out.Out.{Out}
use Rattle.hp_core.specs.declared.phase.Phase.TheVariants.{Mapping}
use Rattle.hp_core.specs.declared.phase.Round.{Round}
use Rattle.hp_core.specs.declared.phase.RoundKind.TheVariants as kind
use Rattle.hp_maps.specs.Catching.{new_rows, newer}
use Rattle.hp_maps.specs.MapsView.{calls_of}
use Rattle.hp_segs.specs.LaterSteps.{noted_failure}
use Rattle.hp_segs.specs.SegsView.{SegsView}
use Rattle.hp_segs.specs.Sound.{IsSound}
use Rattle.hp_segs.specs.declared.outcome.Cause.{Cause}
use Rattle.hp_serve.specs.Coordinating.{with_room}
use Rattle.hp_serve.specs.Party.{Party}
use Rattle.thm_causes.specs.RoundTrip.{AreDoubled, AreOthersEmpty, HasCoordinator, IsBase, IsCopy, IsNotedCall, IsSetting, IsToDo, IsUnanswered, Setting, RunState, mail_of, number_of_party}
use Rattle.thm_causes.specs.Failing.{failing_call}
use Rattle.thm_causes.specs.Shared.{Shared}
use Rattle.thm_causes.specs.Stages.{world_with}
use Rattle.thm_causes.proofs.CaughtUp.{Ends, IsOwnFailure, MayNote, catching_may, ends_so, failed, none_later, whole}
use Rattle.thm_causes.proofs.FailingLemmas.{notes_a_failure}
use Rattle.thm_causes.proofs.Said.{set_found}
use Rattle.thm_causes.proofs.StartSteps.StartingBase.{was_there}
use Rattle.thm_causes.proofs.StartSteps.StartingMaps.{HasMapped, comes_up, mapped_on, maps_after}
use Rattle.thm_causes.proofs.StartSteps.StartingOpens.{Opens, failed_opens, none_opens}

-- participant 0 is told to catch up for a growth of an ask that is to do, which it opened; all else is quiet, but for copies of the ask
pub record IsOpening (set : Setting) (call : Asked) (sent : ℕ) (round : Round) (world : RunState) : Type 0 where
  pub base : IsBase set world
  pub coordinator : HasCoordinator set world (Mapping round) call false
  pub its_kind : round.kind ≡ kind.Growth
  pub from : round.from ≡ asker call
  pub number : round.number ≡ number_of call
  pub unanswered : IsUnanswered call world
  pub opened : is_open_for round world.shared.segs.growth ≡ true
  pub unfailed : noted_failure world.shared.segs ≡ None
  pub to_do : IsToDo call world
  pub clock : world.shared.clock ≡ sent
  pub generation : round.generation ≡ length world.shared.segs.log
  pub gone : world.shared.segs.retiring ≡ []
  pub below : (member : ℕ) → number_of_party world member < round.generation
  pub copies : All (IsCopy call) (mail_of world 0)
  pub empty : AreOthersEmpty world
  pub doubled : AreDoubled set world call false false

-- a cause is noted, where one is
noted_one : (noted : Option Cause) → is_some noted ≡ true → (cause : Cause) × (noted ≡ Some cause)
noted_one None is = cc
noted_one (Some cause) is = (cause, refl)

module _ (set : Setting) (call : Asked) (sent : ℕ) (round : Round) (world : RunState) (primary : Party) (setting : IsSetting set)
    (begun : IsOpening set call sent round world) (there : slice_get world.parties 0 ≡ Some primary) (mid : Shared) (between : Party) (next : Out)
    (has : HasMapped world round mid primary between next) where
  -- the segment value with what was noted
  abbrev pub caught_segs : SegsView
  caught_segs = after_catching 0 has.caught (with_room world.shared.segs)

  room_sound : IsSound (with_room world.shared.segs)
  room_sound = record {
    rows = begun.base.sound.rows;
    asks = begun.base.sound.asks;
    places = begun.base.sound.places;
    returned = begun.base.sound.returned;
  }

  pub catching : MayNote 0 (calls_of has.table) (with_room world.shared.segs) caught_segs
  catching =
      catching_may 0 has.caught (new_rows primary.maps.number (newer world.shared.segs.log primary.maps.number (length world.shared.segs.log)))
      primary.maps.answers has.table.answers (with_room world.shared.segs) has.caught_up.answered

  pub ends_how : Ends world.shared.segs.log primary.maps has.table has.caught
  ends_how = ends_so world.shared.segs.log primary.maps has.table has.caught has.caught_up

  own_number : primary.maps.number ≡ number_of_party world 0
  own_number = let own = begun.base.places 0 primary there in own.number (sym own.joined ∙ begun.base.primary)

  is_noted_then : (its_call : ℕ) → failing_call has.caught ≡ Some its_call → calls_of primary.maps + 1 ≤ its_call
      → is_some (noted_failure caught_segs) ≡ true
  is_noted_then its_call fails later =
      let own = begun.base.places 0 primary there in
      notes_a_failure (with_room world.shared.segs) primary.maps has.table has.caught 0 its_call room_sound
      (λ entry generation among its.
      subst (λ (n : ℕ). generation ≤ n) (sym own_number) (own.granted (sym own.joined ∙ begun.base.primary) entry generation among its))
      has.caught_up fails
      (none_later 0 (calls_of primary.maps + 1) its_call later world.shared.segs.asks own.failed)

  pub open_still : is_open_for round caught_segs.growth ≡ true
  open_still = catching.opens round ∙ begun.opened

  -- what the coordinator makes of it
  pub opens_so : Opens round has.caught world.shared.clock (with_room world.shared.segs) has.done
  opens_so = elim ends_how as (λ ends. Opens round has.caught world.shared.clock (with_room world.shared.segs) has.done) [
    | whole is number calls ↦
        subst (Opens round has.caught world.shared.clock (with_room world.shared.segs)) (sym has.is)
        (none_opens round has.caught world.shared.clock (with_room world.shared.segs) begun.its_kind (ap failure_of is) begun.unfailed begun.opened)
    | failed its_call fails later last undone number ↦
        (let noted = noted_one (noted_failure caught_segs) (is_noted_then its_call fails later) in
        subst (Opens round has.caught world.shared.clock (with_room world.shared.segs)) (sym has.is)
        (failed_opens round has.caught world.shared.clock (with_room world.shared.segs) begun.its_kind caught_segs refl open_still noted.0 noted.1))
  ]

  abbrev pub mid_world : RunState
  mid_world = world_with mid world.mail 0 between world

  pub mid_found : slice_get mid_world.parties 0 ≡ Some between
  mid_found = set_found world.parties 0 primary between there

  -- where no mapping failed, participant 0 has acknowledged the growth
  pub whole_number : failure_of has.caught ≡ None → number_of_party mid_world 0 ≡ round.generation
  whole_number none =
      let up = comes_up set world primary begun.base there setting.some has.table has.caught has.caught_up in
      let numbers : number_of_party mid_world 0 ≡ has.table.number =
      ap (λ (shared : Shared). slice_index_or shared.numbers 0 0) has.shared ∙ sym up.number in
      elim ends_how as (λ ends. number_of_party mid_world 0 ≡ round.generation) [
        | whole is number calls ↦ numbers ∙ (number ∙ sym begun.generation)
        | failed its_call fails later last undone number ↦
            absurd (none-some _ (sym (ap (option_map (λ failure. failure.call)) none) ∙ fails))
      ]

  -- what is noted then is a failure of participant 0, by a call that it has made
  pub own_failure : (cause : Cause) → noted_failure caught_segs ≡ Some cause → IsOwnFailure 0 (calls_of has.table) cause
  own_failure cause is =
      elim (catching.noted cause is) [
        | inl before ↦ absurd (none-some _ (sym begun.unfailed ∙ before))
        | inr own ↦ own
      ]

  pub calls_made : (party : Party) → slice_get mid_world.parties 0 ≡ Some party → calls_of has.table ≤ calls_of party.maps
  calls_made party found =
      let same : party ≡ between = cc (found, mid_found) in
      omega (arith, ap (λ (party : Party). calls_of party.maps) same, ap calls_of (maps_after set world round mid primary between next begun.base there setting.some has))

  pub noted_call : (cause : Cause) → noted_failure caught_segs ≡ Some cause → IsNotedCall mid_world cause
  noted_call cause is =
      let own = own_failure cause is in
      record {
        who = 0;
        call = own.call;
        addr = own.addr;
        got = own.got;
        is = own.is;
        made = λ party found. omega (arith, own.made, calls_made party found);
      }

  -- the ask was sent by its asker
  pub asked_mid : (party : Party) → slice_get mid_world.parties (asker call) ≡ Some party → party.asked ≡ number_of call
  asked_mid party found =
      let was = was_there mid world primary between there (mapped_on set world round mid primary between next begun.base there setting.some has)
      (asker call) party found in
      was.on.asked ∙ begun.unanswered.asked was.before was.there
