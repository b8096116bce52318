-- What mailboxes weigh after a fetch and after a post, beside any coordinator.
use Rattle.std.proofs.Common.{◌≡◌, ◌∙◌, ℕ, zero, suc, ◌+◌, ◌*◌, ◌<◌, ◌≤◌, Bool, List, [], ◌∷◌, length, Option, inl, inr, sym, ap, arith}
use Rattle.std.specs.Prelude.{slice_get}
use Rattle.std.proofs.lemmas.Bool.{cases_lt, cond_both}
use Rattle.std.proofs.lemmas.List.{get_or_past, set_past}
use Rattle.hp_base.specs.Plans.{action_of}
use Rattle.hp_base.specs.declared.plan.Action.{Action}
use Rattle.hp_base.specs.declared.plan_entry.MsgKind.TheVariants as message
use Rattle.hp_core.specs.Core.{Core}
use Rattle.hp_frame.specs.declared.frame.Frame.{Frame}
use Rattle.hp_frame.specs.declared.message.Body.TheVariants.{Sync}
use Rattle.hp_plain.specs.Boxes.{box_after, box_of, posted_as}
use Rattle.hp_hall.specs.Measures.{boxes_measure, fetched_measure, frame_measure}
use Rattle.hp_plain.proofs.Mailed.{fetch_weighs, post_weighs}
use Rattle.hp_serve.specs.Frames.{Says}
use Rattle.hp_serve.specs.Party.{Party, one_more}
use Rattle.hp_serve.specs.Posting.{syncs_after, times_sent}
use Rattle.hp_serve.proofs.Weighs.{sync_weighs}
use Rattle.thm_causes.specs.Servings.{synced}
use Rattle.thm_causes.specs.Shared.{Shared, fetched_by, posted_to}
use Rattle.thm_causes.specs.Measuring.{measure_of}

-- who has a frame has a mailbox
has_box : (boxes : List (List Frame)) (who : ℕ) (frame : Frame) (more : List Frame) → box_of boxes who ≡ frame ∷ more → who < length boxes
has_box boxes who frame more is =
    elim (cases_lt who (length boxes)) [
      | inl inside ↦ inside
      | inr past ↦ absurd (nothing (sym (get_or_past boxes who [] past) ∙ is))
    ]
  where
    nothing : [] ≡ frame ∷ more → ⊥
    nothing same = cc

-- a frame that is fetched takes its measure along
pub fetched_lighter : (who : ℕ) (frame : Frame) (more : List Frame) (at : Shared) (core : Option Core) → box_of at.boxes who ≡ frame ∷ more
    → measure_of (fetched_by who at) core + frame_measure frame ≤ measure_of at core
fetched_lighter who frame more at core is =
    let first : fetched_measure (slice_get (box_of at.boxes who) 0) ≡ frame_measure frame =
    ap (λ (box : List Frame). fetched_measure (slice_get box 0)) is in
    omega (arith, first, fetch_weighs at.boxes who (has_box at.boxes who frame more is))

-- one that is posted may come twice
posted_boxes : (to : ℕ) (frame : Frame) (action : Action) (at : Shared)
    → boxes_measure (posted_to to frame action at).boxes ≤ boxes_measure at.boxes + 2 * frame_measure frame
posted_boxes to frame action at =
    let sent = posted_as action (length (box_of at.boxes to)) in
    elim (cases_lt to (length at.boxes)) [
      | inl inside ↦ post_weighs at.boxes to frame sent inside
      | inr past ↦ omega (arith, ap boxes_measure (set_past at.boxes to (box_after frame sent (box_of at.boxes to)) past))
    ]

pub posted_weighs : (to : ℕ) (frame : Frame) (action : Action) (at : Shared) (core : Option Core)
    → measure_of (posted_to to frame action at) core ≤ measure_of at core + 2 * frame_measure frame
posted_weighs to frame action at core = omega (arith, posted_boxes to frame action at)

-- of the SYNCs to so many participants each may come twice
pub synced_weighs : (told : ℕ → Bool) (party : Party) (frame : Frame) (generation round : ℕ) → Says frame (Sync generation round) → (n : ℕ)
    (at : Shared) (core : Option Core) → measure_of (synced told party frame n at) core ≤ measure_of at core + 6 * n
unfolding synced
synced_weighs told party frame generation round says zero at core = omega arith
synced_weighs told party frame generation round says (suc n) at core =
    let so_far = synced told party frame n at in
    let action = action_of party.plan message.Sync (suc n) (one_more (times_sent (syncs_after told party.sent.syncs n) (suc n))) in
    let before = synced_weighs told party frame generation round says n at core in
    cond_both (told (suc n)) (posted_to (suc n) frame action so_far) so_far
    (λ (behind : Shared). measure_of behind core ≤ measure_of at core + 6 * suc n)
    (λ tells. omega (arith, before, posted_weighs (suc n) frame action so_far core, sync_weighs frame generation round says))
    (λ passes. omega (arith, before))
