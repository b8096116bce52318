-- What the SYNCs of a round make of a world: each other member has its SYNC in its mailbox, or it was lost.
use Rattle.std.proofs.Common.{◌≡◌, ◌≢◌, ◌⊎◌, ℕ, zero, suc, ◌<◌, ◌≤◌, ◌==◌, Bool, true, false, not, List, [], ◌++◌, length, replicate, Some, inl, inr, refl, sym, ap, subst, ◌∙◌, arith, nat_lt}
use Rattle.std.proofs.lemmas.Bool.{and_from, and_parts, cases_Bool, cases_eq, eqb-true, lt-ltb, or_right}
use Rattle.std.proofs.lemmas.List.{length-replicate}
use Rattle.std.proofs.lemmas.List.Folds.{list_any-append}
use Rattle.std.specs.List.{list_any}
use Rattle.std.specs.Prelude.{slice_get, slice_index_or, slice_set}
use Rattle.hp_base.specs.Plans.{action_of}
use Rattle.hp_base.specs.declared.plan_entry.MsgKind.TheVariants as message
use Rattle.hp_base.specs.declared.plan_entry.PlanEntry.{PlanEntry}
use Rattle.hp_core.specs.Mapped.{other_members}
use Rattle.hp_frame.specs.declared.frame.Frame.{Frame}
use Rattle.hp_frame.specs.declared.message.Body.{Body}
use Rattle.hp_frame.specs.declared.message.Body.TheVariants.{Sync}
use Rattle.hp_plain.specs.Boxes.{box_of, posted_as}
use Rattle.hp_plain.specs.declared.mailbox.TheConstants.{MAILBOX_FRAMES}
use Rattle.hp_base.specs.Flags.{has_bit}
use Rattle.hp_segs.proofs.QueryLemmas.{get_within}
use Rattle.hp_segs.specs.SegsView.{is_member}
use Rattle.hp_serve.specs.Frames.{Says}
use Rattle.hp_serve.specs.Party.{Party, one_more}
use Rattle.hp_serve.specs.Posting.{after_syncs, is_told, syncs_after, times_sent}
use Rattle.thm_causes.specs.Counting.{LosesNothing, is_lost, is_sent, lost_among}
use Rattle.thm_causes.specs.RoundTrip.{IsBase, IsSetting, Setting, RunState, is_sync, mail_of}
use Rattle.thm_causes.specs.Outcomes.{late_outcomes}
use Rattle.thm_causes.specs.Servings.{synced}
use Rattle.thm_causes.proofs.LostCounts.{lost_rises, one_lost}
use Rattle.thm_causes.proofs.Owing.NothingLost.{not_lost}
use Rattle.thm_causes.proofs.RosterBits.{has_bit-roster}
use Rattle.thm_causes.proofs.Said.{comes_in, index_unset, said_long}
use Rattle.thm_causes.proofs.StartSteps.StartingPosts.{AreMailed, HasPosted}
use Rattle.thm_causes.proofs.StartSteps.StartingResults.{none_came}
use Rattle.thm_causes.proofs.Synced.{AreSynced, IsOneTold, are_synced, sync_action, sync_copies, syncs_long, syncs_to_others, syncs_to_told}
use Rattle.thm_causes.proofs.AskStages.AsksWeights.{two_copies}

-- a SYNC is among so many, where they are some
any_synced : (n generation round : ℕ) → 1 ≤ n → list_any is_sync (replicate n (Sync generation round)) ≡ true
any_synced zero generation round some = absurd (omega (arith, some))
any_synced (suc n) generation round some = refl

-- there are SYNCs to participants other than 0
sent_to_others : (who : ℕ) → who ≢ 0 → is_sent message.Sync who ≡ true
sent_to_others who other = elim (cases_Bool (who == 0)) [
  | inl same ↦ absurd (other (eqb-true who 0 same))
  | inr apart ↦ ap not apart
]

module _ (set : Setting) (world : RunState) (primary : Party) (base : IsBase set world) (there : slice_get world.parties 0 ≡ Some primary)
    (setting : IsSetting set) (members : ℕ) (are : members ≡ other_members world.shared.segs) where
  -- a SYNC is posted to that participant
  abbrev pub told : ℕ → Bool
  told = is_told set.count members

  -- bit p stands for participant p, but for participant 0
  member_bit : (who : ℕ) → who ≢ 0 → has_bit members who ≡ is_member world.shared.segs.roster who
  member_bit who other =
      ap (λ (bits : ℕ). has_bit bits who) are
      ∙ (has_bit-roster (slice_set world.shared.segs.roster 0 false) who ∙ index_unset world.shared.segs.roster 0 who false false other)

  pub told_member : (who : ℕ) → IsOneTold told 15 who → (who ≢ 0) × (is_member world.shared.segs.roster who ≡ true)
  told_member who one =
      let other : who ≢ 0 = λ same. omega (arith, one.0, same) in
      (other, sym (member_bit who other) ∙ (and_parts (nat_lt who set.count) (has_bit members who) one.2).1)

  pub member_told : (who : ℕ) → who ≢ 0 → is_member world.shared.segs.roster who ≡ true → IsOneTold told 15 who
  member_told who other is =
      let within = base.declared who is in (
        omega (arith, other),
        omega (arith, within, setting.few),
        and_from (nat_lt who set.count) (has_bit members who) (lt-ltb who set.count within) (member_bit who other ∙ is),
      )

  pub told_or_not : (who : ℕ) → IsOneTold told 15 who ⊎ (IsOneTold told 15 who → ⊥)
  told_or_not who =
      elim (cases_eq who 0) [
        | inl first ↦ inr (λ one. omega (arith, one.0, first))
        | inr other ↦
            elim (cases_Bool (is_member world.shared.segs.roster who)) [
              | inl is ↦ inl (member_told who other is)
              | inr isnt ↦ inr (λ one. different (sym (told_member who one).1 ∙ isnt))
            ]
      ]
    where
      different : true ≡ false → ⊥
      different same = cc

  -- the participant after the SYNCs
  abbrev pub synced_party : Party
  synced_party = after_syncs told primary

  own_plan : primary.plan ≡ set.plan
  own_plan = (base.places 0 primary there).plan

  sent_within : (who : ℕ) → IsOneTold told 15 who → who < length primary.sent.syncs
  sent_within who one = omega (arith, one.1, (base.places 0 primary there).syncs)

  late_so_far : (who : ℕ) → is_member world.shared.segs.roster who ≡ true
      → late_outcomes who world.shared.segs.asks ≤ lost_among set.plan message.Sync who (times_sent primary.sent.syncs who)
  late_so_far who is =
      let within : who < length world.parties = omega (arith, base.parties, base.declared who is) in
      (base.excused who primary _ there (get_within world.parties who primary within)).late

  lost_more : (who : ℕ)
      → lost_among set.plan message.Sync who (times_sent primary.sent.syncs who)
      ≤ lost_among set.plan message.Sync who (times_sent (syncs_after told primary.sent.syncs 15) who)
  lost_more who =
      elim (told_or_not who) [
        | inl one ↦
            subst (λ (n : ℕ). lost_among set.plan message.Sync who (times_sent primary.sent.syncs who) ≤ lost_among set.plan message.Sync who n)
            (sym (syncs_to_told told primary.sent.syncs 15 who one (sent_within who one)))
            (lost_rises set.plan message.Sync who setting.counted (times_sent primary.sent.syncs who))
        | inr other ↦
            subst (λ (n : ℕ). lost_among set.plan message.Sync who (times_sent primary.sent.syncs who) ≤ lost_among set.plan message.Sync who n)
            (sym (syncs_to_others told primary.sent.syncs 15 who other)) (omega arith)
      ]

  pub syncs_posted : HasPosted set primary synced_party
  syncs_posted = record {
    me = refl;
    joined = refl;
    maps = refl;
    plan = refl;
    deadline = refl;
    core = refl;
    asked = refl;
    answered = refl;
    allocs = refl;
    frees = refl;
    long = syncs_long told primary.sent.syncs 15;
    lost = lost_more;
  }

  module _ (generation round : ℕ) (frame : Frame) (says : Says frame (Sync generation round)) where
    pub syncs_said : AreSynced told primary (Sync generation round) 15 world.shared (synced told primary frame 15 world.shared) world.mail
    syncs_said =
        are_synced told primary frame (Sync generation round) says world.shared world.mail (base.mail ∙ sym base.boxes) base.said 15

    pub syncs_mailed : AreMailed world syncs_said.boxes syncs_said.later
    syncs_mailed = record { said = syncs_said.said; wide = syncs_said.wide; long = syncs_said.long }

    -- participant 0 gets none
    pub first_unsynced : slice_index_or syncs_said.later 0 [] ≡ mail_of world 0
    first_unsynced = (syncs_said.passes 0 (λ one. omega (arith, one.0))).0

    -- a mailbox with a SYNC had one before, or is a member's
    pub synced_is : (who : ℕ) → list_any is_sync (slice_index_or syncs_said.later who []) ≡ true
        → (list_any is_sync (mail_of world who) ≡ true) ⊎ ((who ≢ 0) × (is_member world.shared.segs.roster who ≡ true))
    synced_is who is =
        elim (told_or_not who) [
          | inl one ↦ inr (told_member who one)
          | inr other ↦ inl (ap (list_any is_sync) (sym (syncs_said.passes who other).0) ∙ is)
        ]

    -- where none is such a body in a mailbox, and a SYNC is none, none is there
    pub none_synced : (p : Body → Bool) → p (Sync generation round) ≡ false → (who : ℕ) → list_any p (mail_of world who) ≡ false
        → list_any p (slice_index_or syncs_said.later who []) ≡ false
    none_synced p other who before =
        elim (told_or_not who) [
          | inl one ↦
              ap (list_any p) (syncs_said.tells who one (omega (arith, base.mail, base.declared who (told_member who one).1)))
              ∙ none_came (mail_of world who) (sync_copies primary world.shared.boxes who) (Sync generation round) p before other
          | inr isnt ↦ ap (list_any p) (syncs_said.passes who isnt).0 ∙ before
        ]

    within_mail : (who : ℕ) → IsOneTold told 15 who → who < length world.mail
    within_mail who one = omega (arith, base.mail, base.declared who (told_member who one).1)

    got_or_lost : (who : ℕ) → IsOneTold told 15 who → length (mail_of world who) < MAILBOX_FRAMES → (lost : Bool)
        → is_lost (sync_action primary who) ≡ lost
        → (list_any is_sync (slice_index_or syncs_said.later who []) ≡ true)
        ⊎ (late_outcomes who world.shared.segs.asks < lost_among set.plan message.Sync who (times_sent synced_party.sent.syncs who))
    got_or_lost who one room false kept =
        let long = said_long (box_of world.shared.boxes who) (mail_of world who) (base.said who) in
        let more = replicate (sync_copies primary world.shared.boxes who) (Sync generation round) in
        let some : 1 ≤ sync_copies primary world.shared.boxes who =
        comes_in (sync_action primary who) (length (box_of world.shared.boxes who)) kept (omega (arith, room, long)) in
        inl (ap (list_any is_sync) (syncs_said.tells who one (within_mail who one))
        ∙ (list_any-append is_sync (mail_of world who) more
        ∙ or_right (list_any is_sync (mail_of world who)) (list_any is_sync more)
        (any_synced (sync_copies primary world.shared.boxes who) generation round some)))
    got_or_lost who one room true gone =
        let sent = times_sent primary.sent.syncs who in
        let next : is_lost (action_of set.plan message.Sync who (one_more sent)) ≡ true =
        ap (λ (plan : List PlanEntry). is_lost (action_of plan message.Sync who (one_more sent))) (sym own_plan) ∙ gone in
        let more = one_lost set.plan message.Sync who setting.counted sent (sent_to_others who (told_member who one).0) next in
        let now : times_sent synced_party.sent.syncs who ≡ one_more sent =
        syncs_to_told told primary.sent.syncs 15 who one (sent_within who one) in
        let late = late_so_far who (told_member who one).1 in
        inr (subst (λ (n : ℕ). late_outcomes who world.shared.segs.asks < lost_among set.plan message.Sync who n) (sym now)
        (omega (arith, late, more)))

    -- each other member in whose mailbox there was room has a SYNC there, or it was lost
    pub member_synced : (who : ℕ) → who ≢ 0 → is_member world.shared.segs.roster who ≡ true → length (mail_of world who) < MAILBOX_FRAMES
        → (list_any is_sync (slice_index_or syncs_said.later who []) ≡ true)
        ⊎ (late_outcomes who world.shared.segs.asks < lost_among set.plan message.Sync who (times_sent synced_party.sent.syncs who))
    member_synced who other is room =
        got_or_lost who (member_told who other is) room (is_lost (sync_action primary who)) refl

    -- where no message is lost it has one
    pub member_follows : LosesNothing set.plan → (who : ℕ) → who ≢ 0 → is_member world.shared.segs.roster who ≡ true
        → length (mail_of world who) < MAILBOX_FRAMES → list_any is_sync (slice_index_or syncs_said.later who []) ≡ true
    member_follows nothing who other is room =
        elim (member_synced who other is room) [
          | inl told ↦ told
          | inr lost ↦
              absurd (not_lost set.plan message.Sync who (times_sent synced_party.sent.syncs who) (late_outcomes who world.shared.segs.asks)
              nothing lost)
        ]

    -- there is still room where a mailbox was empty
    pub room_left : (who : ℕ) → mail_of world who ≡ [] → length (slice_index_or syncs_said.later who []) < MAILBOX_FRAMES
    room_left who empty =
        elim (told_or_not who) [
          | inl one ↦
              (let n = sync_copies primary world.shared.boxes who in
              let few : n ≤ 2 = two_copies (posted_as (sync_action primary who) (length (box_of world.shared.boxes who))) in
              let long : length (slice_index_or syncs_said.later who []) ≡ n =
              ap length (syncs_said.tells who one (within_mail who one)
              ∙ ap (λ (bodies : List Body). bodies ++ replicate n (Sync generation round)) empty)
              ∙ length-replicate n (Sync generation round) in
              omega (arith, few, long))
          | inr isnt ↦ omega (arith, ap length ((syncs_said.passes who isnt).0 ∙ empty))
        ]
