-- What the SYNCs of a round make of the mailboxes, and of how many were sent to each.
use Rattle.std.proofs.Common.{◌≡◌, ◌≢◌, ℕ, zero, suc, ◌<◌, ◌≤◌, Bool, true, false, List, [], ◌++◌, length, replicate, inl, inr, refl, sym, ap, subst, ◌∙◌, arith, true≢false}
use Rattle.std.proofs.lemmas.Bool.{cases_Bool, cases_eq}
use Rattle.std.specs.Prelude.{slice_index_or, slice_set, if◌then◌else◌}
use Rattle.hp_base.specs.Plans.{action_of}
use Rattle.hp_base.specs.declared.plan.Action.{Action}
use Rattle.hp_base.specs.declared.plan_entry.MsgKind.TheVariants as message
use Rattle.hp_frame.specs.declared.frame.Frame.{Frame}
use Rattle.hp_frame.specs.declared.message.Body.{Body}
use Rattle.hp_plain.specs.Boxes.{box_after, box_of, copies, posted_as}
use Rattle.hp_serve.specs.Frames.{Says}
use Rattle.hp_serve.specs.Party.{Party, one_more}
use Rattle.hp_serve.specs.Posting.{sent_once_more, syncs_after, times_sent}
use Rattle.thm_causes.specs.Servings.{synced}
use Rattle.thm_causes.specs.Shared.{Shared, posted_to, with_boxes}
use Rattle.thm_causes.proofs.Said.{AreAllSaid, index_set, index_unset, mail_posted, said_posted, set_long}

-- HOW MANY WERE SENT

-- the participant is one of those to which SYNCs are posted
abbrev pub IsOneTold : (ℕ → Bool) → ℕ → ℕ → Type 0
IsOneTold told n who = (1 ≤ who) × (who ≤ n) × (told who ≡ true)

module _ (told : ℕ → Bool) (counts : List ℕ) where
  after-more : (n : ℕ) → syncs_after told counts (suc n)
      ≡ (if told (suc n) then sent_once_more (syncs_after told counts n) (suc n) else syncs_after told counts n)
  unfolding syncs_after
  after-more n = refl

  after-zero : syncs_after told counts zero ≡ counts
  unfolding syncs_after
  after-zero = refl

  after_told : (n : ℕ) → told (suc n) ≡ true → syncs_after told counts (suc n) ≡ sent_once_more (syncs_after told counts n) (suc n)
  after_told n is =
      after-more n ∙ ap (λ (b : Bool). if b then sent_once_more (syncs_after told counts n) (suc n) else syncs_after told counts n) is

  after_untold : (n : ℕ) → told (suc n) ≡ false → syncs_after told counts (suc n) ≡ syncs_after told counts n
  after_untold n isnt =
      after-more n ∙ ap (λ (b : Bool). if b then sent_once_more (syncs_after told counts n) (suc n) else syncs_after told counts n) isnt

  pub syncs_long : (n : ℕ) → length (syncs_after told counts n) ≡ length counts
  syncs_long zero = ap length after-zero
  syncs_long (suc n) =
      elim (cases_Bool (told (suc n))) [
        | inl is ↦ ap length (after_told n is) ∙ set_long (syncs_after told counts n) (suc n) _ ∙ syncs_long n
        | inr isnt ↦ ap length (after_untold n isnt) ∙ syncs_long n
      ]

  -- who is not among the first has got none of them
  pub syncs_to_others : (n who : ℕ) → (IsOneTold told n who → ⊥) → times_sent (syncs_after told counts n) who ≡ times_sent counts who
  syncs_to_others zero who other = ap (λ (l : List ℕ). times_sent l who) after-zero
  syncs_to_others (suc n) who other =
      let before = syncs_to_others n who (λ one. other (one.0, omega (arith, one.1), one.2)) in
      elim (cases_Bool (told (suc n))) [
        | inl is ↦
            let apart : who ≢ suc n = λ same. other (omega (arith, same), omega (arith, same), ap told same ∙ is) in
            ap (λ (l : List ℕ). times_sent l who) (after_told n is)
            ∙ index_unset (syncs_after told counts n) (suc n) who _ 0 apart ∙ before
        | inr isnt ↦ ap (λ (l : List ℕ). times_sent l who) (after_untold n isnt) ∙ before
      ]

  -- who is told has got one more
  pub syncs_to_told : (n who : ℕ) → IsOneTold told n who → who < length counts
      → times_sent (syncs_after told counts n) who ≡ one_more (times_sent counts who)
  syncs_to_told zero who one within = absurd (omega (arith, one.0, one.1))
  syncs_to_told (suc n) who one within =
      elim (cases_eq who (suc n)) [
        | inl same ↦
            ap (λ (l : List ℕ). times_sent l who) (after_told n (sym (ap told same) ∙ one.2))
            ∙ ap (times_sent (sent_once_more (syncs_after told counts n) (suc n))) same
            ∙ index_set (syncs_after told counts n) (suc n) (one_more (times_sent (syncs_after told counts n) (suc n))) 0
            (omega (arith, syncs_long n, same, within))
            ∙ ap one_more (syncs_to_others n (suc n) (λ first. omega (arith, first.1)))
            ∙ ap (λ (k : ℕ). one_more (times_sent counts k)) (sym same)
        | inr apart ↦
            let before = syncs_to_told n who (one.0, omega (arith, one.1, apart), one.2) within in
            elim (cases_Bool (told (suc n))) [
              | inl is ↦
                  ap (λ (l : List ℕ). times_sent l who) (after_told n is)
                  ∙ index_unset (syncs_after told counts n) (suc n) who _ 0 apart ∙ before
              | inr isnt ↦ ap (λ (l : List ℕ). times_sent l who) (after_untold n isnt) ∙ before
            ]
      ]

-- WHAT COMES INTO THE MAILBOXES

-- what the plan has of the next SYNC to a participant
abbrev pub sync_action : Party → ℕ → Action
sync_action party who = action_of party.plan message.Sync who (one_more (times_sent party.sent.syncs who))

-- how often that SYNC comes into its mailbox
abbrev pub sync_copies : Party → List (List Frame) → ℕ → ℕ
sync_copies party boxes who = copies (posted_as (sync_action party who) (length (box_of boxes who)))

-- after the SYNCs to those of the participants 1 to n that are told, mailboxes alone have changed, and they say this
pub record AreSynced (told : ℕ → Bool) (party : Party) (body : Body) (n : ℕ) (old new : Shared) (mail : List (List Body)) : Type 0 where
  pub later : List (List Body)
  pub boxes : List (List Frame)
  pub shared : new ≡ with_boxes boxes old
  pub said : AreAllSaid boxes later
  pub long : length later ≡ length mail
  pub wide : length boxes ≡ length old.boxes
  -- who is told has got copies of it
  pub tells : (who : ℕ) → IsOneTold told n who → who < length mail
      → slice_index_or later who [] ≡ slice_index_or mail who [] ++ replicate (sync_copies party old.boxes who) body
  -- nobody else has got anything
  pub passes : (who : ℕ) → (IsOneTold told n who → ⊥)
      → (slice_index_or later who [] ≡ slice_index_or mail who []) × (box_of boxes who ≡ box_of old.boxes who)

module _ (told : ℕ → Bool) (party : Party) (frame : Frame) (body : Body) (says : Says frame body) (at : Shared) (mail : List (List Body))
    (long : length mail ≡ length at.boxes) (said : AreAllSaid at.boxes mail) where
  synced-zero : synced told party frame zero at ≡ at
  unfolding synced
  synced-zero = refl

  synced_told : (n : ℕ) → told (suc n) ≡ true
      → synced told party frame (suc n) at
      ≡ posted_to (suc n) frame
      (action_of party.plan message.Sync (suc n) (one_more (times_sent (syncs_after told party.sent.syncs n) (suc n))))
      (synced told party frame n at)
  unfolding synced
  synced_told n is = ap
      (λ (b : Bool). if b then posted_to (suc n) frame
      (action_of party.plan message.Sync (suc n) (one_more (times_sent (syncs_after told party.sent.syncs n) (suc n))))
      (synced told party frame n at) else synced told party frame n at) is

  synced_untold : (n : ℕ) → told (suc n) ≡ false → synced told party frame (suc n) at ≡ synced told party frame n at
  unfolding synced
  synced_untold n isnt = ap
      (λ (b : Bool). if b then posted_to (suc n) frame
      (action_of party.plan message.Sync (suc n) (one_more (times_sent (syncs_after told party.sent.syncs n) (suc n))))
      (synced told party frame n at) else synced told party frame n at) isnt

  same_action : (n : ℕ)
      → action_of party.plan message.Sync (suc n) (one_more (times_sent (syncs_after told party.sent.syncs n) (suc n)))
      ≡ sync_action party (suc n)
  same_action n =
      ap (λ (k : ℕ). action_of party.plan message.Sync (suc n) (one_more k))
      (syncs_to_others told party.sent.syncs n (suc n) (λ first. omega (arith, first.1)))

  not_yet : (n : ℕ) → IsOneTold told n (suc n) → ⊥
  not_yet n first = omega (arith, first.1)

  one_told : (n : ℕ) (old : Shared) → told (suc n) ≡ true → AreSynced told party body n at old mail
      → AreSynced told party body (suc n) at (posted_to (suc n) frame (sync_action party (suc n)) old) mail
  one_told n old is before =
      let posted = posted_as (sync_action party (suc n)) (length (box_of at.boxes (suc n))) in
      let stood = before.passes (suc n) (not_yet n) in
      let box = box_after frame posted (box_of before.boxes (suc n)) in
      let bodies = slice_index_or before.later (suc n) [] ++ replicate (copies posted) body in
      record {
        later = mail_posted (suc n) posted body before.later;
        boxes = slice_set before.boxes (suc n) box;
        shared = ap (posted_to (suc n) frame (sync_action party (suc n))) before.shared
            ∙ ap (λ (count : ℕ).
            with_boxes
            (slice_set before.boxes (suc n)
            (box_after frame (posted_as (sync_action party (suc n)) count) (box_of before.boxes (suc n)))) at) (ap length stood.1);
        said = said_posted before.boxes before.later (before.long ∙ (long ∙ sym before.wide)) before.said (suc n) frame body posted says;
        long = set_long before.later (suc n) bodies ∙ before.long;
        wide = set_long before.boxes (suc n) box ∙ before.wide;
        tells = λ who one within.
            elim (cases_eq who (suc n)) [
              | inl same ↦
                  ap (λ (k : ℕ). slice_index_or (mail_posted (suc n) posted body before.later) k []) same
                  ∙ index_set before.later (suc n) bodies [] (omega (arith, before.long, same, within))
                  ∙ ap (λ (front : List Body). front ++ replicate (copies posted) body) stood.0
                  ∙ ap (λ (k : ℕ). slice_index_or mail k [] ++ replicate (sync_copies party at.boxes k) body) (sym same)
              | inr apart ↦
                  index_unset before.later (suc n) who bodies [] apart
                  ∙ before.tells who (one.0, omega (arith, one.1, apart), one.2) within
            ];
        passes = λ who other.
            let apart : who ≢ suc n = λ same. other (omega (arith, same), omega (arith, same), ap told same ∙ is) in
            let stays = before.passes who (λ one. other (one.0, omega (arith, one.1), one.2)) in
            (index_unset before.later (suc n) who bodies [] apart ∙ stays.0, index_unset before.boxes (suc n) who box [] apart ∙ stays.1);
      }

  one_untold : (n : ℕ) (old : Shared) → told (suc n) ≡ false → AreSynced told party body n at old mail
      → AreSynced told party body (suc n) at old mail
  one_untold n old isnt before = record {
    later = before.later;
    boxes = before.boxes;
    shared = before.shared;
    said = before.said;
    long = before.long;
    wide = before.wide;
    tells = λ who one.
        let apart : who ≢ suc n = λ same. true≢false (sym one.2 ∙ ap told same ∙ isnt) in
        before.tells who (one.0, omega (arith, one.1, apart), one.2);
    passes = λ who other. before.passes who (λ one. other (one.0, omega (arith, one.1), one.2));
  }

  pub are_synced : (n : ℕ) → AreSynced told party body n at (synced told party frame n at) mail
  are_synced zero = record {
    later = mail;
    boxes = at.boxes;
    shared = synced-zero;
    said = said;
    long = refl;
    wide = refl;
    tells = λ who one. absurd (omega (arith, one.0, one.1));
    passes = λ who other. (refl, refl);
  }
  are_synced (suc n) =
      elim (cases_Bool (told (suc n))) [
        | inl is ↦
            subst (λ (new : Shared). AreSynced told party body (suc n) at new mail)
            (sym (synced_told n is
            ∙ ap (λ (action : Action). posted_to (suc n) frame action (synced told party frame n at)) (same_action n)))
            (one_told n (synced told party frame n at) is (are_synced n))
        | inr isnt ↦
            subst (λ (new : Shared). AreSynced told party body (suc n) at new mail) (sym (synced_untold n isnt))
            (one_untold n (synced told party frame n at) isnt (are_synced n))
      ]
