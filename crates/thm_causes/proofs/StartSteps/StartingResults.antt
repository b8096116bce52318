-- A RESULT that participant 0 posts ends its ask.
use Rattle.std.proofs.Common.{◌≡◌, ◌⊎◌, ℕ, ◌<◌, ◌≤◌, Bool, true, false, ◌||◌, List, [], ◌++◌, length, replicate, count_by, Some, None, inl, inr, refl, sym, ap, subst, ◌∙◌, arith, nat_lt}
use Rattle.std.proofs.lemmas.Bool.{and_from, cases_eq, false≢true, lt-ltb}
use Rattle.std.proofs.lemmas.List.Elements.{All-append, All-replicate}
use Rattle.std.proofs.lemmas.List.Folds.{list_any-append, list_any_none}
use Rattle.std.specs.List.{All, list_any}
use Rattle.std.specs.Prelude.{slice_get, slice_set}
use Rattle.hp_base.specs.Plans.{action_of}
use Rattle.hp_base.specs.declared.plan_entry.MsgKind.TheVariants as message
use Rattle.hp_core.specs.Asks.{asker}
use Rattle.hp_core.specs.declared.asked.Asked.{Asked}
use Rattle.hp_core.specs.declared.asked.Asked.TheVariants as want
use Rattle.hp_core.specs.declared.out.Out.{Out}
use Rattle.hp_core.specs.declared.out.Out.TheVariants as out
use Rattle.hp_core.specs.declared.phase.Phase.TheVariants.{Idle}
use Rattle.hp_frame.specs.declared.frame.Frame.{Frame}
use Rattle.hp_frame.specs.declared.message.Body.{Body}
use Rattle.hp_plain.specs.Boxes.{box_after, box_of, copies, posted_as}
use Rattle.hp_log.proofs.Counts.{count_append, count_none}
use Rattle.hp_segs.specs.SegsView.{grants_or_refuses}
use Rattle.hp_serve.specs.Frames.{Says}
use Rattle.hp_serve.specs.Party.{Party, one_more}
use Rattle.hp_serve.specs.Posting.{after_answer, is_asker, result_body, times_sent}
use Rattle.thm_causes.specs.RoundTrip.{AreAnswersOrCopies, AreDoubled, EndsLevel, HasCoordinator, IsAnsweredFor, IsBase, IsClosed, IsCopy, Setting, RunState, is_answer, is_call, is_sync, mail_of}
use Rattle.thm_causes.specs.RoundTrip.AskPhase.{over}
use Rattle.thm_causes.specs.Servings.{PostsFor, answers, nobody, nothing, syncs}
use Rattle.thm_causes.specs.Shared.{Shared, posted_to}
use Rattle.thm_causes.specs.Stages.{ComesTo}
use Rattle.thm_causes.proofs.Said.{index_set, index_unset, mail_posted, said_posted, set_long}
use Rattle.thm_causes.proofs.StartSteps.StartingPosts.{AreMailed, HasPosted, base_behind, behind, coordinates_behind, doubled_behind}

-- BODIES THAT CAME BEHIND OTHERS

module _ (bodies : List Body) (n : ℕ) (body : Body) where
  pub all_came : (P : Body → Type 0) → All P bodies → P body → All P (bodies ++ replicate n body)
  all_came P before its = All-append P bodies (replicate n body) before (All-replicate P n body its)

  -- where none is such a one, and what came is none, none is
  pub none_came : (p : Body → Bool) → list_any p bodies ≡ false → p body ≡ false → list_any p (bodies ++ replicate n body) ≡ false
  none_came p before its =
      list_any-append p bodies (replicate n body)
      ∙ (ap (λ b. b || list_any p (replicate n body)) before
      ∙ list_any_none p (replicate n body) (All-replicate (λ body. p body ≡ false) n body its))

  -- there are as many such ones, where what came is none
  pub count_came : (p : Body → Bool) → p body ≡ false → count_by p (bodies ++ replicate n body) ≡ count_by p bodies
  count_came p its =
      let more : count_by p (replicate n body) ≡ 0 = count_none p (replicate n body) (All-replicate (λ body. p body ≡ false) n body its) in
      omega (arith, count_append p bodies (replicate n body), more)

-- WHERE A RESULT IS TO BE POSTED

-- where the outcomes are the same a growth's ask is answered as before
pub answered_same : (call : Asked) (old new : RunState) → new.shared.segs.asks ≡ old.shared.segs.asks → IsAnsweredFor call old → IsAnsweredFor call new
answered_same (want.Grow ask) old new same is = ap (list_any (grants_or_refuses ask.from ask.number)) same ∙ is
answered_same (want.Shrink from number) old new same is = is

-- the ask is closed, nothing is under way, and no SYNC lies in a mailbox
pub record IsEnding (set : Setting) (call : Asked) (holds : Bool) (world : RunState) : Type 0 where
  pub base : IsBase set world
  pub coordinator : HasCoordinator set world Idle call holds
  pub alone : world.shared.segs.growth ≡ None
  pub closed : IsClosed call world
  pub copies : AreAnswersOrCopies call (mail_of world 0)
  pub doubled : AreDoubled set world call holds false
  pub no_sync : (member : ℕ) → list_any is_sync (mail_of world member) ≡ false
  pub answered : IsAnsweredFor call world
  pub level : EndsLevel set world

module _ (set : Setting) (call : Asked) (sent : ℕ) (leads : Bool) (holds : Bool) (world : RunState) (primary : Party)
    (ends : IsEnding set call holds world) (there : slice_get world.parties 0 ≡ Some primary) (few : set.count ≤ 16)
    (declared : asker call < set.count) where
  answered_to : (to number what : ℕ) (good : Bool) (frame : Frame) → to < set.count → Says frame (result_body number what good)
      → ComesTo set call sent leads world 0
      (posted_to to frame (action_of primary.plan message.Answer to (one_more (times_sent primary.sent.answers to))) world.shared)
      (after_answer to primary)
  answered_to to number what good frame within says =
      let body = result_body number what good in
      let posted = posted_as (action_of primary.plan message.Answer to (one_more (times_sent primary.sent.answers to)))
      (length (box_of world.shared.boxes to)) in
      let boxes = slice_set world.shared.boxes to (box_after frame posted (box_of world.shared.boxes to)) in
      let mail = mail_posted to posted body world.mail in
      let after = after_answer to primary in
      let has_posted : HasPosted set primary after = record {
        me = refl;
        joined = refl;
        maps = refl;
        plan = refl;
        deadline = refl;
        core = refl;
        asked = refl;
        answered = refl;
        allocs = refl;
        frees = refl;
        long = refl;
        lost = λ who. omega arith;
      } in
      let long : length world.mail ≡ length world.shared.boxes = ends.base.mail ∙ sym ends.base.boxes in
      let mailed : AreMailed world boxes mail = record {
        said = said_posted world.shared.boxes world.mail long ends.base.said to frame body posted says;
        wide = set_long world.shared.boxes to (box_after frame posted (box_of world.shared.boxes to));
        long = set_long world.mail to (mail_of world to ++ replicate (copies posted) body);
      } in
      let new = behind set world boxes mail primary after ends.base there has_posted mailed in
      let grows : (P : ℕ → List Body → Type 0) → ((who : ℕ) → P who (mail_of world who))
      → ((who : ℕ) → P who (mail_of world who ++ replicate (copies posted) body)) → (who : ℕ) → P who (mail_of new who) =
      λ P same more who.
      elim (cases_eq who to) [
        | inl is ↦
            subst (λ (n : ℕ). P n (mail_of new n)) (sym is)
            (subst (P to) (sym (index_set world.mail to (mail_of world to ++ replicate (copies posted) body) [] (omega (arith, within, ends.base.mail))))
            (more to))
        | inr apart ↦
            subst (P who) (sym (index_unset world.mail to who (mail_of world to ++ replicate (copies posted) body) [] apart)) (same who)
      ] in
      record {
        mail = mail;
        base = base_behind set world boxes mail primary after ends.base there has_posted mailed;
        stage = over holds
            (coordinates_behind set world boxes mail primary after ends.base there has_posted mailed Idle call holds ends.coordinator)
            ends.alone ends.closed
            (grows (λ who bodies. who ≡ 0 → AreAnswersOrCopies call bodies)
            (λ who is. subst (λ (n : ℕ). AreAnswersOrCopies call (mail_of world n)) (sym is) ends.copies)
            (λ who is.
            all_came (mail_of world who) (copies posted) body (λ body. (is_answer body ≡ true) ⊎ IsCopy call body)
            (subst (λ (n : ℕ). AreAnswersOrCopies call (mail_of world n)) (sym is) ends.copies) (inl refl))
            0 refl)
            (doubled_behind set world boxes mail primary after ends.base there has_posted mailed call holds false
            (grows (λ who bodies. count_by is_call bodies ≡ count_by is_call (mail_of world who)) (λ who. refl)
            (λ who. count_came (mail_of world who) (copies posted) body is_call refl) 0)
            ends.doubled)
            (grows (λ who bodies. list_any is_sync bodies ≡ false) ends.no_sync
            (λ who. none_came (mail_of world who) (copies posted) body is_sync (ends.no_sync who) refl))
            (answered_same call world new refl ends.answered) (record { gone = ends.level.gone; level = ends.level.level });
      }

  answers_by : (new : Shared) (after : Party) (to number what : ℕ) (good : Bool) (frame : Frame) → to ≡ asker call
      → Says frame (result_body number what good)
      → new
      ≡ posted_to to frame (action_of primary.plan message.Answer to (one_more (times_sent primary.sent.answers to))) world.shared
      → after ≡ after_answer to primary → ComesTo set call sent leads world 0 new after
  answers_by new after to number what good frame same says new_is after_is =
      subst (λ (shared : Shared). ComesTo set call sent leads world 0 shared after) (sym new_is)
      (subst
      (λ (after : Party).
      ComesTo set call sent leads world 0
      (posted_to to frame (action_of primary.plan message.Answer to (one_more (times_sent primary.sent.answers to))) world.shared) after)
      (sym after_is) (answered_to to number what good frame (omega (arith, same, declared)) says))

  asks_for : (to : ℕ) → to ≡ asker call → is_asker set.count to ≡ false → ⊥
  asks_for to same not_asker =
      let asks : is_asker set.count to ≡ true =
      and_from (nat_lt to set.count) (nat_lt to 16) (lt-ltb to set.count (omega (arith, same, declared)))
      (lt-ltb to 16 (omega (arith, same, declared, few))) in
      cc (asks, not_asker)

  -- what an answer names
  abbrev its_asker : Out → ℕ
  its_asker (out.Answer to number what good) = to
  its_asker out.Nothing = 0
  its_asker (out.MapSelf generation) = 0
  its_asker (out.Sync generation round members) = 0

  abbrev is_an_answer : Out → Bool
  is_an_answer (out.Answer to number what good) = true
  is_an_answer out.Nothing = false
  is_an_answer (out.MapSelf generation) = false
  is_an_answer (out.Sync generation round members) = false

  posted_by : (new : Shared) (after : Party) (answer : Out) → is_an_answer answer ≡ true → its_asker answer ≡ asker call
      → PostsFor set.count world.shared new primary after answer → ComesTo set call sent leads world 0 new after
  posted_by new after _ answers_it to_is (nothing same stays) = absurd (false≢true answers_it)
  posted_by new after _ answers_it to_is (syncs generation round members frame says to shared) = absurd (false≢true answers_it)
  posted_by new after _ answers_it to_is (answers to number what good frame asks says new_is after_is) =
      answers_by new after to number what good frame to_is says new_is after_is
  posted_by new after _ answers_it to_is (nobody to number what good not_asker same stays) = absurd (asks_for to to_is not_asker)

  -- the RESULT of the ask is posted: it is over
  pub ends_posted : (new : Shared) (after : Party) (answer : Out) (number what : ℕ) (good : Bool)
      → answer ≡ out.Answer (asker call) number what good → PostsFor set.count world.shared new primary after answer
      → ComesTo set call sent leads world 0 new after
  ends_posted new after answer number what good is posts =
      posted_by new after answer (ap is_an_answer is) (ap its_asker is) posts
