-- What was given up, who has taken in what, and what lies in the mailboxes, where participant 0 logs at most a stale outcome, holds an ask,
-- hears an answer, or fetches a body: nothing more is left, and whoever was level is.
use Rattle.std.proofs.Common.{◌≡◌, ◌∙◌, ◌⊎◌, ℕ, ◌<◌, ◌≤◌, true, false, List, length, inl, inr, ap, sym, subst}
use Rattle.std.specs.List.{list_any}
use Rattle.std.proofs.lemmas.Bool.{cases_eq}
use Rattle.hp_core.specs.declared.asked.Asked.{Asked}
use Rattle.hp_core.specs.declared.asked.Asked.TheVariants as want
use Rattle.hp_frame.specs.declared.message.Body.{Body}
use Rattle.hp_plain.specs.declared.mailbox.TheConstants.{MAILBOX_FRAMES}
use Rattle.hp_log.specs.declared.log_record.LogRecord.{LogRecord}
use Rattle.hp_segs.specs.SegsView.{is_member}
use Rattle.thm_causes.specs.RoundTrip.{AreAnswersOrCopies, HaveCaughtUp, EndsLevel, GrowsLevel, IsGoneBefore, Setting, SettlesLevel, StartsLevel, RunState, is_sync, mail_of, number_of_party}
use Rattle.thm_causes.proofs.CopyStages.CopiesAlong.{IsAlong, number_same}
use Rattle.thm_causes.proofs.CopyStages.CopiesBodies.{bodies_unsynced}

-- before an ask for pages nothing is left, as it was
gone_before_along : (call : Asked) (old new : RunState) → IsAlong old new → IsGoneBefore call old → IsGoneBefore call new
gone_before_along (want.Grow ask) old new along gone = along.segs.retiring ∙ gone
gone_before_along (want.Shrink from number) old new along gone = tt

module _ (set : Setting) (call : Asked) (old new : RunState) (along : IsAlong old new) where
  -- there are as many records, and a member was one
  log_same : length new.shared.segs.log ≡ length old.shared.segs.log
  log_same = ap (λ (log : List LogRecord). length log) along.segs.log

  was_member : (who : ℕ) → is_member new.shared.segs.roster who ≡ true → is_member old.shared.segs.roster who ≡ true
  was_member who member = sym (ap (λ (roster : List _). is_member roster who) along.segs.roster) ∙ member

  -- members that have taken in all records have done so
  level_along : HaveCaughtUp old → HaveCaughtUp new
  level_along level who member = number_same set old new along who ∙ (level who (was_member who member) ∙ sym log_same)

  -- an ask starts, grows, or is over as it did or was
  pub starts_along : StartsLevel set call old → StartsLevel set call new
  starts_along starts loses =
      let was = starts loses in (level_along was.0, gone_before_along call old new along was.1)

  pub grows_along : GrowsLevel old → GrowsLevel new
  grows_along grows = record {
    gone = along.segs.retiring ∙ grows.gone;
    room = λ who apart.
        subst (λ (bodies : List Body). length bodies < MAILBOX_FRAMES) (sym (along.others who apart)) (grows.room who apart);
  }

  pub ends_along : EndsLevel set old → EndsLevel set new
  ends_along ends = record { gone = along.segs.retiring ∙ ends.gone; level = λ loses. level_along (ends.level loses) }

  module _ (bodies : AreAnswersOrCopies call (mail_of old 0)) (generation : ℕ) (settles : SettlesLevel set old generation) where
    -- a member has its SYNC in its mailbox, or has taken in all records; participant 0 never had one there
    follows_so : (member : ℕ) → (list_any is_sync (mail_of old member) ≡ true) ⊎ (generation ≤ number_of_party old member)
        → (list_any is_sync (mail_of new member) ≡ true) ⊎ (generation ≤ number_of_party new member)
    follows_so member (inl told) =
        elim (cases_eq member 0) [
          | inl primary ↦
              absurd (never (sym told
              ∙ (ap (λ (n : ℕ). list_any is_sync (mail_of old n)) primary ∙ bodies_unsynced call (mail_of old 0) bodies)))
          | inr apart ↦ inl (ap (list_any is_sync) (along.others member apart) ∙ told)
        ]
      where
        never : true ≡ false → ⊥
        never same = cc
    follows_so member (inr has) = inr (subst (λ (n : ℕ). generation ≤ n) (sym (number_same set old new along member)) has)

    pub settles_along : SettlesLevel set new generation
    settles_along = record {
      gone = along.segs.retiring ∙ settles.gone;
      whole = settles.whole ∙ sym log_same;
      follows = λ loses member is. follows_so member (settles.follows loses member (was_member member is));
    }
