-- A member that fetched what is no SYNC to it keeps what holds between the servings of an ask, and the ask's stage.
use Rattle.std.proofs.Common.{◌≡◌, ◌≢◌, ◌∙◌, ℕ, ◌<◌, Bool, false, ◌||◌, List, [], ◌∷◌, drop, length, Some, refl, sym, ap, subst, arith, append-nil}
use Rattle.std.specs.List.{list_any}
use Rattle.std.specs.Prelude.{slice_get, slice_index_or, slice_set}
use Rattle.std.proofs.lemmas.Option.{slice_get_within}
use Rattle.hp_core.specs.Asks.{asker}
use Rattle.hp_core.specs.declared.asked.Asked.{Asked}
use Rattle.hp_frame.specs.declared.frame.Frame.{Frame}
use Rattle.hp_frame.specs.declared.message.Body.{Body}
use Rattle.hp_frame.specs.declared.message.Body.TheVariants.{Alloc, Answer, Free, Sync}
use Rattle.hp_plain.specs.Boxes.{box_of}
use Rattle.hp_maps.specs.MapsView.{MapsView, calls_of}
use Rattle.hp_segs.proofs.SlotFacts.ListFacts.{or_off_parts}
use Rattle.hp_segs.specs.SegsView.{is_member}
use Rattle.hp_serve.specs.Frames.{Says}
use Rattle.hp_serve.specs.Party.{Party}
use Rattle.hp_serve.specs.Serving.{hearing, is_answer_to}
use Rattle.hp_serve.specs.Serving as serving
use Rattle.thm_causes.specs.RoundTrip.{IsBase, IsInPlace, IsUnanswered, Setting, AskPhase, RunState, is_result_of, is_sync, mail_of}
use Rattle.thm_causes.specs.Shared.{Shared, fetched_by}
use Rattle.thm_causes.specs.Stages.{ComesTo, world_with}
use Rattle.thm_causes.proofs.CaughtUp.{as_before}
use Rattle.thm_causes.proofs.MemberSteps.MemberMail as mails
use Rattle.thm_causes.proofs.MemberSteps.MemberMail.{Heeds, TakesMail}
use Rattle.thm_causes.proofs.MemberSteps.MemberStages.{stage_with}
use Rattle.thm_causes.proofs.MemberSteps.MemberWorlds.{IsStillParty, ServesAlone, base_with}
use Rattle.thm_causes.proofs.Said.{first_said, index_set, index_unset, mail_fetched, said_fetched, set_long, set_same}
use Rattle.thm_causes.proofs.CopyStages.CopiesBodies.{not_answered}

-- the two tests for a SYNC
sync_same : (body : Body) → is_sync body ≡ serving.is_sync body
sync_same (Alloc from number heap socket page size align bound flags) = refl
sync_same (Free from number heap address len) = refl
sync_same (Sync generation round) = refl
sync_same (Answer from number what code) = refl

still_party : (party : Party) → IsStillParty party party
still_party party = record {
  me = refl;
  deadline = refl;
  plan = refl;
  joined = refl;
  core = refl;
  asked = refl;
  allocs = refl;
  frees = refl;
  syncs = refl;
}

-- the mailboxes and the mail after a fetch
abbrev pub fetched_boxes : RunState → ℕ → List (List Frame)
fetched_boxes world who = slice_set world.shared.boxes who (drop 1 (box_of world.shared.boxes who))

abbrev pub fetched_mail : RunState → ℕ → List (List Body)
fetched_mail world who = mail_fetched who world.mail

module _ (set : Setting) (world : RunState) (who : ℕ) (party : Party) (base : IsBase set world)
    (there : slice_get world.parties who ≡ Some party) where
  pub mailed : who < length world.mail
  mailed = omega (arith, slice_get_within world.parties who party there, base.parties, base.mail)

  pub fetched_wide : length (fetched_boxes world who) ≡ set.count
  fetched_wide = set_long world.shared.boxes who (drop 1 (box_of world.shared.boxes who)) ∙ base.boxes

  pub fetched_long : length (fetched_mail world who) ≡ set.count
  fetched_long = set_long world.mail who (drop 1 (mail_of world who)) ∙ base.mail

  pub fetched_own : slice_index_or (fetched_mail world who) who [] ≡ drop 1 (mail_of world who)
  fetched_own = index_set world.mail who (drop 1 (mail_of world who)) [] mailed

  pub fetched_other : (other : ℕ) → other ≢ who → slice_index_or (fetched_mail world who) other [] ≡ mail_of world other
  fetched_other other apart = index_unset world.mail who other (drop 1 (mail_of world who)) [] apart

  pub body_front : (frame : Frame) (more : List Frame) (body : Body) → box_of world.shared.boxes party.me ≡ frame ∷ more → Says frame body
      → mail_of world who ≡ body ∷ drop 1 (mail_of world who)
  body_front frame more body box says =
      first_said (box_of world.shared.boxes who) (mail_of world who) frame more body (base.said who)
      (ap (box_of world.shared.boxes) (sym (base.places who party there).me) ∙ box) says

  pub unheard_party : (call : Asked) → asker call ≡ who → IsUnanswered call world → party.answered ≡ false
  unheard_party call same un = un.unheard party (ap (slice_get world.parties) same ∙ there)

module _ (set : Setting) (call : Asked) (sent : ℕ) (world : RunState) (who : ℕ) (party : Party) (base : IsBase set world)
    (stage : AskPhase set call sent false world) (member : who ≢ 0) (there : slice_get world.parties who ≡ Some party) where
  its : IsInPlace set world who party
  its = base.places who party there

  -- where a serving is such a one the world comes to the stage
  pub comes : (after : Party) (shared : Shared) (mail : List (List Body)) → ServesAlone set world who party after shared mail
      → TakesMail world who after shared mail → ComesTo set call sent false world who shared after
  comes after shared mail serves takes = record {
    mail = mail;
    base = base_with set world who party after shared mail base there serves member;
    stage = stage_with set world who party after shared mail member there serves takes call sent base.sound stage;
  }

  world_same : (shared : Shared) (after : Party) → shared ≡ world.shared → after ≡ party
      → world ≡ world_with shared world.mail who after world
  world_same shared after same unchanged =
      sym (ap (λ (s : Shared). world_with s world.mail who after world) same
      ∙ ap (λ (p : Party). world_with world.shared world.mail who p world) unchanged
      ∙ ap (λ (parties : List Party). RunState_of parties) (set_same world.parties who party there)) where
        RunState_of : List Party → RunState
        RunState_of parties = record { shared = world.shared; mail = world.mail; parties = parties }

  pub rested : (shared : Shared) (after : Party) → shared ≡ world.shared → after ≡ party
      → ComesTo set call sent false world who shared after
  rested shared after same unchanged =
      let is = world_same shared after same unchanged in
      record { mail = world.mail; base = subst (IsBase set) is base; stage = subst (AskPhase set call sent false) is stage }

  fetched_alone : (after : Party) → IsStillParty party after → after.maps ≡ party.maps
      → ServesAlone set world who party after (fetched_by who world.shared) (fetched_mail world who)
  fetched_alone after still maps = record {
    clock = refl;
    segs = as_before who (calls_of after.maps) world.shared.segs;
    sound = base.sound;
    armed = base.armed;
    boxes = (fetched_wide set world who party base there);
    long = (fetched_long set world who party base there);
    said = said_fetched world.shared.boxes world.mail (base.mail ∙ sym base.boxes) base.said who;
    numbers = base.numbers;
    others = λ other apart. refl;
    rises = omega arith;
    within = its.within;
    still = still;
    table = λ joined. ap (λ (m : MapsView). m.number) maps ∙ its.number joined;
    calls = omega (arith, ap calls_of maps);
  }

  fetched_takes : (after : Party) (body : Body) → mail_of world who ≡ body ∷ drop 1 (mail_of world who)
      → Heeds world who (fetched_by who world.shared) body
      → ((call : Asked) → asker call ≡ who → IsUnanswered call world → after.answered ≡ false)
      → TakesMail world who after (fetched_by who world.shared) (fetched_mail world who)
  fetched_takes after body front heeds unheard = record {
    body = body;
    front = front;
    own = (fetched_own set world who party base there);
    from = 0;
    number = 0;
    code = 0;
    count = 0;
    first = (fetched_other set world who party base there) 0 (λ same. member (sym same)) ∙ sym (append-nil (mail_of world 0));
    others = λ other some apart. (fetched_other set world who party base there) other apart;
    heeds = heeds;
    unheard = unheard;
  }

  fetched : (shared : Shared) (after : Party) (body : Body) → shared ≡ fetched_by party.me world.shared → IsStillParty party after
      → after.maps ≡ party.maps → mail_of world who ≡ body ∷ drop 1 (mail_of world who)
      → Heeds world who (fetched_by who world.shared) body
      → ((call : Asked) → asker call ≡ who → IsUnanswered call world → after.answered ≡ false)
      → ComesTo set call sent false world who shared after
  fetched shared after body is still maps front heeds unheard =
      subst (λ (s : Shared). ComesTo set call sent false world who s after)
      (sym (is ∙ ap (λ (n : ℕ). fetched_by n world.shared) its.me))
      (comes after (fetched_by who world.shared) (fetched_mail world who) (fetched_alone after still maps)
      (fetched_takes after body front heeds unheard))

  hearing_still : (body : Body) → IsStillParty party (hearing body party)
  hearing_still body = record {
    me = refl;
    deadline = refl;
    plan = refl;
    joined = refl;
    core = refl;
    asked = refl;
    allocs = refl;
    frees = refl;
    syncs = refl;
  }

  heard_nothing : (body : Body) → mail_of world who ≡ body ∷ drop 1 (mail_of world who)
      → (call : Asked) → asker call ≡ who → IsUnanswered call world → (party.answered || is_answer_to party body) ≡ false
  heard_nothing body front call same un =
      let first : is_result_of call body ≡ false =
      (or_off_parts (is_result_of call body) (list_any (is_result_of call) (drop 1 (mail_of world who)))
      (ap (list_any (is_result_of call)) (sym front) ∙ un.nowhere who)).0 in
      ap (λ (b : Bool). b || is_answer_to party body) ((unheard_party set world who party base there) call same un)
      ∙ not_answered party call body (un.asked party (ap (slice_get world.parties) same ∙ there)) first

  pub heard : (shared : Shared) (after : Party) (frame : Frame) (more : List Frame) (body : Body)
      → box_of world.shared.boxes party.me ≡ frame ∷ more
      → Says frame body → serving.is_sync body ≡ false → shared ≡ fetched_by party.me world.shared → after ≡ hearing body party
      → ComesTo set call sent false world who shared after
  heard shared after frame more body box says isnt is after_is =
      let front = (body_front set world who party base there) frame more body box says in
      subst (ComesTo set call sent false world who shared) (sym after_is)
      (fetched shared (hearing body party) body is (hearing_still body) refl front (mails.passes (sync_same body ∙ isnt))
      (heard_nothing body front))

  -- it is not in the roster
  pub out_of_it : (shared : Shared) (after : Party) (frame : Frame) (more : List Frame) (body : Body)
      → box_of world.shared.boxes party.me ≡ frame ∷ more → Says frame body → is_member world.shared.segs.roster party.me ≡ false
      → shared ≡ fetched_by party.me world.shared → after ≡ party → ComesTo set call sent false world who shared after
  out_of_it shared after frame more body box says outside is unchanged =
      subst (ComesTo set call sent false world who shared) (sym unchanged)
      (fetched shared party body is (still_party party) refl ((body_front set world who party base there) frame more body box says)
      (mails.is_out (ap (is_member world.shared.segs.roster) (sym its.me) ∙ outside)) (unheard_party set world who party base there))
