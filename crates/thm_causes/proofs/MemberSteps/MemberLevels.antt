-- How far members have taken in the records, after one serving of a member.
use Rattle.std.proofs.Common.{◌≡◌, ◌≢◌, ◌⊎◌, ◌∙◌, ℕ, ◌≤◌, Bool, true, List, [], length, drop, Option, None, is_some, inl, inr, sym, ap, subst, arith, length-drop, true≢false}
use Rattle.std.specs.List.{list_any}
use Rattle.std.specs.Option.{option_and_then}
use Rattle.std.specs.Prelude.{slice_index_or}
use Rattle.std.proofs.lemmas.Bool.{cases_eq}
use Rattle.hp_frame.specs.declared.message.Body.{Body}
use Rattle.hp_segs.specs.SegsView.{is_member}
use Rattle.hp_segs.specs.declared.growth.Growth.{Growth}
use Rattle.hp_serve.specs.Party.{Party}
use Rattle.thm_causes.specs.RoundTrip.{HaveCaughtUp, EndsLevel, GrowsLevel, Setting, SettlesLevel, RunState, is_sync, mail_of, number_of_party}
use Rattle.thm_causes.specs.Shared.{Shared}
use Rattle.thm_causes.specs.Stages.{world_with}
use Rattle.thm_causes.proofs.MemberSteps.MemberMail.{Heeds, TakesMail, any_behind, any_stays, catches, is_out, notes, passes}
use Rattle.thm_causes.proofs.MemberSteps.MemberWorlds.{ServesAlone}

module _ (set : Setting) (world : RunState) (who : ℕ) (party after : Party) (shared : Shared) (mail : List (List Body))
    (serves : ServesAlone set world who party after shared mail) where
  -- who is a member was one before
  pub was_member : (other : ℕ) → is_member shared.segs.roster other ≡ true → is_member world.shared.segs.roster other ≡ true
  was_member other joined = sym (ap (λ (roster : List Bool). is_member roster other) serves.segs.roster) ∙ joined

  -- where nothing was left of what was given up nothing is
  gone_with : world.shared.segs.retiring ≡ [] → shared.segs.retiring ≡ []
  gone_with gone = serves.segs.retiring ∙ gone

  -- who has taken in all records has
  level_at : (other : ℕ) → number_of_party world other ≡ length world.shared.segs.log
      → slice_index_or shared.numbers other 0 ≡ length shared.segs.log
  level_at other level =
      elim (cases_eq other who) [
        | inl same ↦
            ap (λ (n : ℕ). slice_index_or shared.numbers n 0) same
            ∙ omega (
              arith,
              serves.rises,
              serves.within,
              ap length serves.segs.log,
              ap (number_of_party world) (sym same) ∙ level,
            )
        | inr apart ↦ serves.others other apart ∙ level ∙ sym (ap length serves.segs.log)
      ]

  level_with : HaveCaughtUp world → HaveCaughtUp (world_with shared mail who after world)
  level_with level other joined = level_at other (level other (was_member other joined))

  pub ends_with : EndsLevel set world → EndsLevel set (world_with shared mail who after world)
  ends_with ends = record { gone = gone_with ends.gone; level = λ none. level_with (ends.level none) }

-- a growth waits
module _ (set : Setting) (world : RunState) (who : ℕ) (party after : Party) (shared : Shared) (mail : List (List Body))
    (serves : ServesAlone set world who party after shared mail) (takes : TakesMail world who after shared mail) where
  -- no mailbox but participant 0's has more
  no_more : (other : ℕ) → other ≢ 0 → length (slice_index_or mail other []) ≤ length (mail_of world other)
  no_more other some =
      elim (cases_eq other who) [
        | inl same ↦
            omega (
              arith,
              ap (λ (n : ℕ). length (slice_index_or mail n [])) same,
              ap length takes.own,
              length-drop 1 (mail_of world who),
              ap (λ (n : ℕ). length (mail_of world n)) same,
            )
        | inr apart ↦ omega (arith, ap length (takes.others other some apart))
      ]

  pub grows_with : GrowsLevel world → GrowsLevel (world_with shared mail who after world)
  grows_with level = record {
    gone = gone_with set world who party after shared mail serves level.gone;
    room = λ other some. omega (arith, no_more other some, level.room other some);
  }

-- no failure is noted where no growth is open
none_noted : (growth : Option Growth) → growth ≡ None → is_some (option_and_then (λ growth. growth.noted) growth) ≡ true → ⊥
none_noted growth none noted =
    true≢false (sym noted ∙ ap (λ (growth : Option Growth). is_some (option_and_then (λ growth. growth.noted) growth)) none)

-- a round that settles
module _ (set : Setting) (world : RunState) (who : ℕ) (party after : Party) (shared : Shared) (mail : List (List Body))
    (serves : ServesAlone set world who party after shared mail) (takes : TakesMail world who after shared mail)
    (none : world.shared.segs.growth ≡ None) (generation : ℕ) (level : SettlesLevel set world generation) where
  -- the member itself has taken in the records, or its SYNC is still there
  own_settles : is_member world.shared.segs.roster who ≡ true
      → (list_any is_sync (mail_of world who) ≡ true) ⊎ (generation ≤ number_of_party world who)
      → (list_any is_sync (slice_index_or mail who []) ≡ true) ⊎ (generation ≤ slice_index_or shared.numbers who 0)
  own_settles joined (inr within) = inr (omega (arith, within, serves.rises))
  own_settles joined (inl any) = heeded takes.heeds where
    heeded : Heeds world who shared takes.body
        → (list_any is_sync (slice_index_or mail who []) ≡ true) ⊎ (generation ≤ slice_index_or shared.numbers who 0)
    heeded (passes isnt) =
        inl (ap (list_any is_sync) takes.own
        ∙ any_behind is_sync takes.body (drop 1 (mail_of world who)) isnt (ap (list_any is_sync) (sym takes.front) ∙ any))
    heeded (is_out isnt) = absurd (true≢false (sym joined ∙ isnt))
    heeded (catches number) = inr (omega (arith, number, level.whole))
    heeded (notes noted) = absurd (none_noted shared.segs.growth (serves.segs.none none) noted)

  -- and so it is with another
  other_settles : (other : ℕ) → other ≢ who → (list_any is_sync (mail_of world other) ≡ true) ⊎ (generation ≤ number_of_party world other)
      → (list_any is_sync (slice_index_or mail other []) ≡ true) ⊎ (generation ≤ slice_index_or shared.numbers other 0)
  other_settles other apart (inl any) = inl (any_stays world who after shared mail takes other apart any)
  other_settles other apart (inr within) = inr (omega (arith, within, serves.others other apart))

  follows_with : (other : ℕ) → is_member world.shared.segs.roster other ≡ true
      → (list_any is_sync (mail_of world other) ≡ true) ⊎ (generation ≤ number_of_party world other)
      → (list_any is_sync (slice_index_or mail other []) ≡ true) ⊎ (generation ≤ slice_index_or shared.numbers other 0)
  follows_with other joined follows =
      elim (cases_eq other who) [
        | inl same ↦
            subst
            (λ (n : ℕ). (list_any is_sync (slice_index_or mail n []) ≡ true) ⊎ (generation ≤ slice_index_or shared.numbers n 0)) (sym same)
            (own_settles (ap (is_member world.shared.segs.roster) (sym same) ∙ joined)
            (subst (λ (n : ℕ). (list_any is_sync (mail_of world n) ≡ true) ⊎ (generation ≤ number_of_party world n)) same follows))
        | inr apart ↦ other_settles other apart follows
      ]

  pub settles_with : SettlesLevel set (world_with shared mail who after world) generation
  settles_with = record {
    gone = gone_with set world who party after shared mail serves level.gone;
    whole = level.whole ∙ sym (ap length serves.segs.log);
    follows = λ lossless other joined.
        let before = was_member set world who party after shared mail serves other joined in
        follows_with other before (level.follows lossless other before);
  }
