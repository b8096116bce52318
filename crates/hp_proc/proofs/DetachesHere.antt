-- A participant that detaches in a hall: it has left all chunks, and leaves the roster.
use Rattle.std.proofs.Common.{◌<◌, ◌∙◌, ◌≡◌, ◌⊎◌, [], ap, false, subst, sym, ℕ, ⊎_elim}
use Rattle.hp_hall.specs.HallState.{HallState}
use Rattle.hp_proc.proofs.ChangedLines.{ready_noted}
use Rattle.hp_proc.proofs.DetachedLines.{MayLeave, detached_same, does_detach, leave_none, leave_ready, no_rows}
use Rattle.hp_proc.proofs.HandFacts.HandGiven.{ready_still}
use Rattle.hp_proc.proofs.HandFacts.Holds.{changes_noted, ready_changed}
use Rattle.hp_proc.specs.Contexts.{Context}
use Rattle.hp_proc.specs.Courses.{Standing}
use Rattle.hp_proc.specs.Doing.{Doing}
use Rattle.hp_proc.specs.LineInHall.{ChangesRoster, DoesHere, IsReadyAgain, IsReadyIn, LeavesAlone, MayDetach, did_in}
use Rattle.hp_proc.specs.ParticipantView.{ParticipantView, with_standing}
use Rattle.hp_serve.proofs.Carrying.{same_party, same_then}
use Rattle.hp_serve.specs.Attaching.{DetachesIn, after_detaching}
use Rattle.hp_serve.specs.InHall.{IsTiedIn}
use Rattle.hp_serve.specs.Party.{IsSameParty, Party}
use Rattle.hp_serve.specs.SegmentSlot.{StaysButRoster}

module _ {X : Type 0} (state : X → HallState) (first second : X) (doer mid : ParticipantView) (may : MayDetach doer.party.me doer (state first))
    (again : IsReadyIn doer.party.me doer (state first) → IsReadyAgain doer.party.me doer mid (state second))
    (alone : doer.context.standing.chunks ≡ [] → (mid ≡ doer) × (second ≡ first)) where
  -- it left all chunks, and is the same one
  pub left_same : IsSameParty doer.party mid.party
  left_same =
      ⊎_elim
      (λ (none : doer.context.standing.chunks ≡ []).
      subst (λ (d : ParticipantView). IsSameParty doer.party d.party) (sym (alone none).0) (same_party doer.party))
      (λ (ready : IsReadyIn doer.party.me doer (state first)). (again ready).same) may.ready

  module _ (standing : mid.context.standing ≡ record doer.context.standing { chunks = [] }) where
    pub may_leave : MayLeave mid.party.me mid (state second)
    may_leave =
        ⊎_elim
        (λ (none : doer.context.standing.chunks ≡ []).
        subst (λ (d : ParticipantView). MayLeave d.party.me d (state second)) (sym (alone none).0)
        (subst (λ (at : X). MayLeave doer.party.me doer (state at)) (sym (alone none).1) (leave_none doer.party.me doer (state first) may none)))
        (λ (ready : IsReadyIn doer.party.me doer (state first)).
        subst (λ (who : ℕ). MayLeave who mid (state second)) (sym (again ready).same.me)
        (leave_ready doer.party.me mid (state second) (again ready).ready (ap (λ (s : Standing). s.chunks) standing))) may.ready

    -- it left the roster
    module _ (gone after : ParticipantView) (third : X) (secondary : 0 < doer.party.me)
        (detaches : DetachesIn mid.party.me mid.party gone.party (state second) (state third))
        (tied : IsTiedIn mid.party.me gone.party (state third)) (knew : gone.context ≡ mid.context)
        (stays : StaysButRoster mid.party.me (state second) (state third))
        (noted : after ≡ with_standing (record gone.context.standing { attached = false }) gone) where
      abbrev me : ℕ
      me = mid.party.me

      abbrev old : HallState
      old = state second

      abbrev new : HallState
      new = state third

      changes : ChangesRoster me mid after old new
      changes =
          changes_noted mid gone (record gone.context.standing { attached = false })
          (detached_same gone.party.listeners mid.party gone.party detaches.after_is) (ap (λ (context : Context). context.pools) knew) noted tied
          detaches.left.roster stays.part (ap (λ (context : Context). context.standing.chunks) knew) stays.slots stays.others

      pub leaves_alone : LeavesAlone me mid after old new
      leaves_alone =
          let others = stays.others.later.heard me in
          record {
            changes = changes;
            own = detaches.left.own;
            ready = λ ready.
                ready_noted gone after (new.part me) (new.seen me) (new.heard me) (record gone.context.standing { attached = false }) noted
                (ready_still mid gone (old.part me) (new.part me) (old.seen me) (new.seen me) (old.heard me) (new.heard me) others.0
                (detached_same gone.party.listeners mid.party gone.party detaches.after_is) knew stays.part others.1 ready);
          }

      -- one that had no chunk did nothing else
      pub alone_all : doer.context.standing.chunks ≡ [] → LeavesAlone doer.party.me doer after (state first) new
      alone_all none =
          subst (λ (at : X). LeavesAlone doer.party.me doer after (state at) new) (alone none).1
          (subst (λ (d : ParticipantView). LeavesAlone d.party.me d after old new) (alone none).0 leaves_alone)

      -- whoever was ready is so again
      pub ready_then : IsReadyIn doer.party.me doer (state first) → IsReadyAgain doer.party.me doer after new
      ready_then ready =
          let before : IsReadyIn me mid old = subst (λ (who : ℕ). IsReadyIn who mid old) (sym left_same.me) (again ready).ready in
          let ended = ready_changed changes before (leaves_alone.ready before.ready) in
          record {
            same = same_then doer.party mid.party after.party left_same ended.same;
            ready = subst (λ (who : ℕ). IsReadyIn who after new) left_same.me ended.ready;
          }

      abbrev out : Party → Context → ParticipantView
      out party context = record { party = party; context = record context { standing = record context.standing { attached = false } } }

      its_note : after ≡ with_standing (record mid.context.standing { attached = false }) (record mid { party = after_detaching gone.party.listeners mid.party })
      its_note =
          noted
          ∙ (ap (λ (party : Party). out party gone.context) detaches.after_is
          ∙ ap (out (after_detaching gone.party.listeners mid.party)) knew)

      pub noted_standing : after.context.standing ≡ record mid.context.standing { attached = false }
      noted_standing = ap (λ (d : ParticipantView). d.context.standing) its_note

      pub does_gone : (doing : Doing) → DoesHere [] me mid after old new doing doing
      does_gone doing =
          let more = stays.others.later.seen me in
          let others = stays.others.later.heard me in
          does_detach old.count (did_in me old new) mid after (old.part me) (new.part me) (old.seen me) (new.seen me) more.0 (old.heard me)
          (new.heard me) others.0 stays.part more.1 others.1 doing detaches.left.segs gone.party.listeners
          (subst (λ (who : ℕ). 0 < who) (sym left_same.me) secondary) may_leave.chunks (no_rows me mid old may_leave) detaches.told its_note
          detaches.left.did
