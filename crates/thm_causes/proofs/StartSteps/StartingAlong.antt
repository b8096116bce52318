-- What is said of an ask goes along where its coordinator goes on, and where SYNCs are posted.
use Rattle.std.proofs.Common.{◌≡◌, ℕ, ◌+◌, ◌≤◌, Bool, Some, sym, ap, subst, ◌∙◌, if◌then◌else◌}
use Rattle.std.specs.Prelude.{slice_get}
use Rattle.hp_core.specs.Asks.{asker}
use Rattle.hp_core.specs.declared.asked.Asked.{Asked}
use Rattle.hp_core.specs.declared.out.Out.{Out}
use Rattle.hp_core.specs.declared.out.Out.TheVariants as out
use Rattle.hp_frame.specs.declared.frame.Frame.{Frame}
use Rattle.hp_frame.specs.declared.message.Body.TheVariants.{Sync}
use Rattle.hp_serve.specs.Coordinating.{MustMap}
use Rattle.hp_serve.specs.Frames.{Says}
use Rattle.hp_serve.specs.Party.{Party}
use Rattle.hp_serve.specs.Posting.{after_syncs, is_told}
use Rattle.thm_causes.specs.RoundTrip.{AreDoubled, IsUnanswered, Setting, RunState, copies_left, doubles}
use Rattle.thm_causes.specs.Outcomes.{stale_outcomes}
use Rattle.thm_causes.specs.Servings.{CarriesOut, MapsItself, PostsFor, answers, maps, nobody, nothing, posts, synced, syncs}
use Rattle.thm_causes.specs.Shared.{Shared}
use Rattle.thm_causes.specs.Stages.{world_with}
use Rattle.thm_causes.proofs.StartSteps.StartingBase.{Follows, LogsItsOwn, doubles_on, heard_logged, stale_logged, was_there}
use Rattle.thm_causes.proofs.Told.{told_on}

module _ (set : Setting) (world : RunState) (shared : Shared) (primary after : Party) (there : slice_get world.parties 0 ≡ Some primary)
    (follows : Follows set world shared primary after) where
  abbrev next : RunState
  next = world_with shared world.mail 0 after world

  -- its asker has not heard of its answer
  pub unanswered_follows : (call : Asked) → IsUnanswered call world → IsUnanswered call next
  unanswered_follows call unanswered = record {
    asked = λ party found.
        let was = was_there shared world primary after there follows.on (asker call) party found in
        was.on.asked ∙ unanswered.asked was.before was.there;
    unheard = λ party found.
        let was = was_there shared world primary after there follows.on (asker call) party found in
        was.on.answered ∙ unanswered.unheard was.before was.there;
    nowhere = unanswered.nowhere;
  }

  -- each ask that was stale came twice
  pub doubled_follows : (call : Asked) (holds fresh : Bool) → LogsItsOwn call world.shared.segs.asks shared.segs.asks
      → AreDoubled set world call holds fresh → AreDoubled set next call holds fresh
  doubled_follows call holds fresh own doubled = record {
    asker_is = λ party found.
        let was = was_there shared world primary after there follows.on (asker call) party found in
        let same = stale_logged next world.shared.segs.asks shared.segs.asks (asker call) follows.asks in
        subst (λ (n : ℕ). stale_outcomes (asker call) shared.segs.asks + copies_left next holds ≤ n + (if fresh then 1 else 0))
        (sym (doubles_on set (asker call) was.before party was.on))
        (subst (λ (n : ℕ). n + copies_left world holds ≤ doubles set (asker call) was.before + (if fresh then 1 else 0)) (sym same)
        (doubled.asker_is was.before was.there));
    others = λ who party apart found.
        let was = was_there shared world primary after there follows.on who party found in
        subst (λ (n : ℕ). stale_outcomes who shared.segs.asks ≤ n) (sym (doubles_on set who was.before party was.on))
        (subst (λ (n : ℕ). n ≤ doubles set who was.before)
        (sym (stale_logged next world.shared.segs.asks shared.segs.asks who follows.asks)) (doubled.others who was.before apart was.there));
    told = λ who party found.
        let was = was_there shared world primary after there follows.on who party found in
        told_on set world.shared.segs.asks shared.segs.asks call who was.before party
        (heard_logged call next world.shared.segs.asks shared.segs.asks who follows.asks own) was.on.asked was.on.frees
        (doubled.told who was.before was.there);
  }

-- WHAT IS CARRIED OUT

-- what is no telling to catch up is posted
pub carries_posts : (count : ℕ) (old new : Shared) (party after : Party) (answer : Out) → (MustMap answer → ⊥)
    → CarriesOut count old new party after answer → PostsFor count old new party after answer
carries_posts count _ _ _ _ _ none (posts old new party after answer its) = its
carries_posts count _ _ _ _ _ none (maps old mid new party between after answer told must mapped carried) = absurd (none must)

-- the telling to catch up is obeyed, and then what the coordinator answers is carried out
pub record MapsThen (count : ℕ) (old new : Shared) (party after : Party) : Type 0 where
  pub mid : Shared
  pub between : Party
  pub next : Out
  pub maps_so : MapsItself old mid party between next
  pub carried : CarriesOut count mid new between after next

unposted : (count : ℕ) (old new : Shared) (party after : Party) (answer : Out) → MustMap answer → PostsFor count old new party after answer → ⊥
unposted count old new party after _ must (nothing same stays) = must
unposted count old new party after _ must (syncs generation round members frame says to shared) = must
unposted count old new party after _ must (answers to number what good frame asks says new_is after_is) = must
unposted count old new party after _ must (nobody to number what good not_asker same stays) = must

pub carries_maps : (count : ℕ) (old new : Shared) (party after : Party) (answer : Out) → MustMap answer
    → CarriesOut count old new party after answer → MapsThen count old new party after
carries_maps count _ _ _ _ _ must (posts old new party after answer its) = absurd (unposted count old new party after answer must its)
carries_maps count _ _ _ _ _ must (maps old mid new party between after answer next told mapped carried_out) =
    record { mid = mid; between = between; next = next; maps_so = mapped; carried = carried_out }

-- a SYNC is posted to the members that are named
pub record PostsSyncs (count : ℕ) (old new : Shared) (party after : Party) (generation round members : ℕ) : Type 0 where
  pub frame : Frame
  pub says : Says frame (Sync generation round)
  pub shared : new ≡ synced (is_told count members) party frame 15 old
  pub after_is : after ≡ after_syncs (is_told count members) party

pub posts_syncs : (count : ℕ) (old new : Shared) (party after : Party) (answer : Out) (generation round members : ℕ)
    → answer ≡ out.Sync generation round members → PostsFor count old new party after answer
    → PostsSyncs count old new party after generation round members
posts_syncs count old new party after _ generation round members is (nothing same stays) = cc
posts_syncs count old new party after _ generation round members is (syncs its_generation its_round its_members frame says to shared) =
    syncs_so its_generation its_round its_members frame says to shared is
  where
    syncs_so : (its_generation its_round its_members : ℕ) (frame : Frame) → Says frame (Sync its_generation its_round)
        → new ≡ synced (is_told count its_members) party frame 15 old → after ≡ after_syncs (is_told count its_members) party
        → out.Sync its_generation its_round its_members ≡ out.Sync generation round members
        → PostsSyncs count old new party after generation round members
    syncs_so its_generation its_round its_members frame says to shared is =
        let generations : its_generation ≡ generation = cc in
        let rounds : its_round ≡ round = cc in
        let names : its_members ≡ members = cc in
        record {
          frame = frame;
          says = subst (λ (n : ℕ). Says frame (Sync generation n)) rounds (subst (λ (n : ℕ). Says frame (Sync n its_round)) generations says);
          shared = to ∙ ap (λ (n : ℕ). synced (is_told count n) party frame 15 old) names;
          after_is = shared ∙ ap (λ (n : ℕ). after_syncs (is_told count n) party) names;
        }
posts_syncs count old new party after _ generation round members is (answers to number what good frame asks says new_is after_is) = cc
posts_syncs count old new party after _ generation round members is (nobody to number what good not_asker same stays) = cc
