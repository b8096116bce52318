-- What one that is away does by itself, in a row: it posts, or it holds the segment value; and what becomes of its hall's world.
use Rattle.std.proofs.Common.{◌≡◌, ◌≢◌, ◌∙◌, ℕ, List, [], ◌∷◌, Some, sym, ap, subst}
use Rattle.std.specs.Prelude.{slice_get}
use Rattle.hp_segs.specs.Standing.{IsArmed}
use Rattle.hp_hall.specs.Mail.{MailStep}
use Rattle.hp_segs.specs.SegsView.{SegsView}
use Rattle.hp_segs.specs.Sound.{IsSound}
use Rattle.hp_serve.specs.Party.{Party}
use Rattle.hp_serve.specs.Serving.{gives_segments, takes_segments}
use Rattle.hp_solo.specs.Sequence.{Sequence}
use Rattle.hp_solo.specs.Solo.{AloneView, SoloView, has_stopped, party_at}
use Rattle.thm_causes.specs.RoundTrip.{RunState}
use Rattle.thm_causes.specs.Shared.{IsSharedIn, with_segs}
use Rattle.thm_causes.specs.Stages.{world_with}
use Rattle.thm_causes.specs.RunStates.{CoursesGoAlong, IsInOrder, IsRunStateOf}
use Rattle.thm_causes.proofs.Said.{set_found, set_unfound}
use Rattle.thm_causes.proofs.Sharing.{gave, took}
use Rattle.thm_causes.proofs.TurnSteps.TurnsSequence.{calls_own}

-- others stand as they stood, and one has come to this: so is the world
pub world_own : (me : ℕ) (old new : SoloView) (party after : Party) (world later : RunState) → IsRunStateOf old me party world
    → IsSharedIn new.plain later.shared → IsInOrder new.plain → new.servers ≡ old.servers → slice_get later.parties me ≡ Some after
    → ((who : ℕ) → who ≢ me → slice_get later.parties who ≡ slice_get world.parties who) → IsRunStateOf new me after later
world_own me old new party after world later its shared order servers own others = record {
  shared = shared;
  order = order;
  going = ap has_stopped servers ∙ its.going;
  own = own;
  others = λ who other. others who other ∙ its.others who other ∙ sym (ap (λ (servers : List AloneView). party_at servers who) servers);
}

-- one held the segment value, and gave this back
pub record HasHeld (me : ℕ) (taken given : SegsView) (new : SoloView) (party : Party) (world : RunState) : Type 0 where
  pub its_own : taken ≡ world.shared.segs
  pub sound : IsSound given
  pub armed : IsArmed world.shared.segs → IsArmed given
  pub its : IsRunStateOf new me party (world_with (with_segs given world.shared) world.mail me party world)

pub has_held : CoursesGoAlong → (me : ℕ) (old new : SoloView) (party : Party) (world : RunState) (taken given : SegsView)
    → IsRunStateOf old me party world → Sequence me old (takes_segments taken ∷ gives_segments given ∷ []) new
    → HasHeld me taken given new party world
has_held along me old new party world taken given its sequence =
    let steps : List MailStep = takes_segments taken ∷ gives_segments given ∷ [] in
    let did = calls_own along me old new steps world.shared sequence (tt, (tt, tt)) its.order its.shared in
    let began = took me taken (gives_segments given ∷ []) world.shared did.along.at did.along.made in
    let gives = gave me given [] world.shared did.along.at began.1 in
    record {
      its_own = began.0;
      sound = gives.sound;
      armed = gives.armed;
      its = world_own me old new party party world (world_with (with_segs given world.shared) world.mail me party world) its
          (subst (IsSharedIn new.plain) gives.rest did.along.shared) did.along.order did.servers
          (set_found world.parties me party party its.own)
          (λ who other. set_unfound world.parties me who party other);
    }

-- what was taken was given back
pub held_same : CoursesGoAlong → (me : ℕ) (old new : SoloView) (party : Party) (world : RunState) (taken : SegsView)
    → IsRunStateOf old me party world → Sequence me old (takes_segments taken ∷ gives_segments taken ∷ []) new → IsRunStateOf new me party world
held_same along me old new party world taken its sequence =
    let held = has_held along me old new party world taken taken its sequence in
    let same : with_segs taken world.shared ≡ world.shared = ap (λ (segs : SegsView). with_segs segs world.shared) held.its_own in
    record {
      shared = subst (IsSharedIn new.plain) same held.its.shared;
      order = held.its.order;
      going = held.its.going;
      own = its.own;
      others = λ who other. sym (set_unfound world.parties me who party other) ∙ held.its.others who other;
    }
