-- Others serve while one does its line, or after the last line: each that was there is there, with its validators, and only served.
use Rattle.std.proofs.Common.{◌≡◌, ◌∙◌, ℕ, Bool, false, List, length, Option, Some, None, refl, sym, ap, subst}
use Rattle.std.specs.List.{slice_get}
use Rattle.std.specs.Option.{option_map}
use Rattle.std.proofs.lemmas.Option.{same_Some}
use Rattle.hp_events.specs.declared.validator.Validator.{Validator}
use Rattle.hp_plain.specs.HallView.{HallView}
use Rattle.hp_serve.specs.Party.{IsSameParty, Party}
use Rattle.hp_proc.specs.Courses.{Standing}
use Rattle.hp_proc.specs.Denying.{denials_of}
use Rattle.hp_solo.specs.Sequence.{going_place}
use Rattle.hp_solo.specs.Served.{HasServed}
use Rattle.hp_solo.specs.Solo.{AreLater, IsLaterAt, IsLaterParty, IsLaterServer, AloneView, SoloView, server_at, with_party}
use Rattle.hp_run.proofs.Places.{IsFilled, filled_by}

-- who is later on the same participant is there
same_there : (party : Party) (after : Option Party) → IsLaterParty (Some party) after → (now : Party) × (after ≡ Some now)
same_there party None later = absurd later
same_there party (Some after) later = (after, refl)

module _ (validators : List (Validator Bool)) where
  -- whose place has one later on had one before, which it went on from
  later_from : (old new : HallView) (who : ℕ) (before : Option Party) (now : Option AloneView) (server : AloneView)
      → IsLaterAt old new who (option_map (going_place validators) before) now → now ≡ Some server
      → (party : Party) × (before ≡ Some party) × IsLaterServer old new who (going_place validators party) server
  later_from old new who None None server later is = cc
  later_from old new who None (Some now) server later is = absurd later
  later_from old new who (Some party) None server later is = absurd later
  later_from old new who (Some party) (Some now) server later is = (
    party,
    refl,
    subst (λ (s : AloneView). IsLaterServer old new who (going_place validators party) s) (same_Some now server is) later,
  )

  -- whose place was one that a participant came to has that participant, with the validators that it came with
  pub came_to : (after : Party) (before : Option AloneView) (server : AloneView)
      → option_map (with_party (Some after) validators) before ≡ Some server
      → (server.party ≡ Some after) × (server.validators ≡ validators)
  came_to after None server is = cc
  came_to after (Some before) server is =
      let same = sym (same_Some (with_party (Some after) validators before) server is) in
      (ap (λ (s : AloneView). s.party) same, ap (λ (s : AloneView). s.validators) same)

-- others serve from one state to a later one: each that was there, with the validators that its lines left, and has not run out of memory
-- is there with these, and only served
module _ (old new : SoloView) (left : Standing) (parties : List Party) (who : ℕ)
    (place : server_at old.servers who ≡ option_map (going_place left.validators) (slice_get parties who)) (later : AreLater old new) where
  later_here : (server : AloneView) → server_at new.servers who ≡ Some server
      → (party : Party) × (slice_get parties who ≡ Some party)
      × IsLaterServer old.plain new.plain who (going_place left.validators party) server
  later_here server is =
      later_from left.validators old.plain new.plain who (slice_get parties who) (server_at new.servers who) server
      (subst (λ (before : Option AloneView). IsLaterAt old.plain new.plain who before (server_at new.servers who)) place
      (later who)) is

  pub served_filled : (server : AloneView) → server_at new.servers who ≡ Some server → server.stopped ≡ false
      → IsFilled left.validators server
  served_filled server is going =
      let was = later_here server is in
      let now = same_there was.0 server.party was.2.party in
      filled_by left.validators server now.0 now.1 was.2.validators going

  pub served_so : (party after : Party) → slice_get parties who ≡ Some party
      → server_at new.servers who ≡ Some (going_place left.validators after)
      → HasServed (denials_of left) (length old.plain.owns) who old.plain new.plain party after × IsSameParty party after
  served_so party after there is =
      let was = later_here (going_place left.validators after) is in
      let one : was.0 ≡ party = same_Some was.0 party (sym was.1 ∙ there) in
      let later : IsLaterServer old.plain new.plain who (going_place left.validators party) (going_place left.validators after) =
      subst (λ (party : Party). IsLaterServer old.plain new.plain who (going_place left.validators party) (going_place left.validators after)) one
      was.2 in
      (later.served refl, later.party)
