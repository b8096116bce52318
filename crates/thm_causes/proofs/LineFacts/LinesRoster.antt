-- Who is out of the roster stays out by all that it does but an attach, whatever others do meanwhile.
use Rattle.std.proofs.Common.{◌≡◌, ◌≢◌, ◌∙◌, ℕ, zero, suc, Bool, true, false, List, [], ◌∷◌, ◌++◌, length, map, Option, Some, refl, sym, ap, subst, arith}
use Rattle.std.specs.Prelude.{⊤, slice_get, slice_set}
use Rattle.std.specs.List.{list_any}
use Rattle.std.proofs.lemmas.Option.{same_Some, slice_get-map, slice_get_within}
use Rattle.hp_base.specs.declared.limits.TheConstants.{MAX_HEAPS}
use Rattle.hp_frame.specs.declared.frame.Frame.{Frame}
use Rattle.hp_frame.specs.declared.message.Body.{Body}
use Rattle.hp_plain.specs.HallView.{HallView, SlotView, slot_at}
use Rattle.hp_plain.specs.Keeping.{AreSegsGivenBy, GivesInto, IsGivenBy, IsKeptBy, ShowsValues, values_after, values_in}
use Rattle.hp_hall.specs.Mail.{Fetches, Gives, MailStep, Notes, Posts, Takes}
use Rattle.hp_hall.specs.declared.kept.Kept.{Kept}
use Rattle.hp_hall.specs.declared.kept.Kept.TheVariants.{Heap, Names, Segments}
use Rattle.hp_hall.specs.Values.{Fits}
use Rattle.hp_plain.proofs.Slotted.{slice_get-set_other, slice_get-set_same}
use Rattle.hp_segs.specs.SegsView.{SegsView, is_member}
use Rattle.hp_proc.specs.Acting.{Acts}
use Rattle.hp_serve.specs.Denials.{Denials}
use Rattle.hp_serve.specs.Coordinating.{IsServed}
use Rattle.hp_proc.specs.Doing.{Done}
use Rattle.hp_proc.specs.ParticipantView.{ParticipantView}
use Rattle.hp_serve.specs.Party.{Party}
use Rattle.hp_serve.specs.Serving.{IsFollowed, IsDispatched, IsMemberServed, IsTold}
use Rattle.hp_solo.specs.Sequence.{IsMadeBy, Sequence}
use Rattle.hp_solo.specs.Solo.{SoloView}
use Rattle.thm_causes.specs.RoundTrip.{RunState}
use Rattle.thm_causes.specs.Lines.{is_looked}
use Rattle.thm_causes.specs.RunStates.{IsRunStateOf}
use Rattle.thm_causes.proofs.LineFacts.LinesCarried.{IsCarried, sequence_carried}
use Rattle.thm_causes.proofs.LineFacts.LinesSteps.{HoldsOfSteps, acts_are}
use Rattle.thm_causes.proofs.SharedAlong.{fits_values, segs_shown}
use Rattle.thm_causes.proofs.StepsAlong.{FitSlots, fits_set, given_heap, given_names, given_segs, segs_same}

-- slots keep values of their own, and in the segment value the participant has no place in the roster
pub record KeepsOut (me : ℕ) (values : List Kept) : Type 0 where
  pub fits : FitSlots values
  pub segs : SegsView
  pub there : slice_get values MAX_HEAPS ≡ Some (Segments segs)
  pub out : is_member segs.roster me ≡ false

-- where it takes segment values in which it is out, it gives such values
abbrev pub StaysOut : ℕ → List MailStep → Type 0
StaysOut me [] = ⊤
StaysOut me (Takes number (Segments segs) ∷ steps) = is_member segs.roster me ≡ false → StaysOut me steps
StaysOut me (Gives number (Segments segs) ∷ steps) = (is_member segs.roster me ≡ false) × StaysOut me steps
StaysOut me (_ ∷ steps) = StaysOut me steps

-- SLOTS

module _ (me who number : ℕ) (values : List Kept) where
  -- a value that is given beside the segment value leaves it
  beside_out : (kept : Kept) → GivesInto who number kept values → KeepsOut me values → Fits number kept → MAX_HEAPS ≢ number
      → KeepsOut me (slice_set values number kept)
  beside_out kept gives was fit apart = record {
    fits = fits_set values number kept was.fits (slice_get_within values number gives.before gives.there) fit;
    segs = was.segs;
    there = slice_get-set_other values number MAX_HEAPS kept apart ∙ was.there;
    out = was.out;
  }

  -- a value that is given comes into its slot
  give_out : (kept : Kept) → GivesInto who number kept values → (was : KeepsOut me values)
      → ((given : SegsView) → kept ≡ Segments given → AreSegsGivenBy who was.segs given → is_member given.roster me ≡ false)
      → KeepsOut me (slice_set values number kept)
  give_out (Heap heap pen) gives was stays =
      let fit = given_heap who number gives.before heap pen gives.by (was.fits number gives.before gives.there) in
      beside_out (Heap heap pen) gives was fit (λ (is : MAX_HEAPS ≡ number). omega (arith, is, fit.1))
  give_out (Names names) gives was stays =
      let fit = given_names who number gives.before names gives.by (was.fits number gives.before gives.there) in
      beside_out (Names names) gives was fit (λ (is : MAX_HEAPS ≡ number). omega (arith, is, fit))
  give_out (Segments given) gives was stays =
      let fit : number ≡ MAX_HEAPS = given_segs who number gives.before given gives.by (was.fits number gives.before gives.there) in
      let within = slice_get_within values number gives.before gives.there in
      let before : gives.before ≡ Segments was.segs =
      same_Some gives.before (Segments was.segs) (sym gives.there ∙ ap (slice_get values) fit ∙ was.there) in
      record {
        fits = fits_set values number (Segments given) was.fits within fit;
        segs = given;
        there = subst (λ (n : ℕ). slice_get (slice_set values number (Segments given)) n ≡ Some (Segments given)) fit
            (slice_get-set_same values number (Segments given) within);
        out = stays given refl (subst (λ (before : Kept). IsGivenBy who before (Segments given)) before gives.by);
      }

  -- the value that is taken is the one that slots keep
  take_out : (segs : SegsView) → slice_get values number ≡ Some (Segments segs) → KeepsOut me values → is_member segs.roster me ≡ false
  take_out segs there was =
      let fit : number ≡ MAX_HEAPS = was.fits number (Segments segs) there in
      let same : segs ≡ was.segs =
      segs_same segs was.segs
      (same_Some (Segments segs) (Segments was.segs) (sym there ∙ ap (slice_get values) fit ∙ was.there)) in
      ap (λ (segs : SegsView). is_member segs.roster me) same ∙ was.out

module _ (me : ℕ) where
  -- another one does something
  other_out : (who : ℕ) (step : MailStep) (values : List Kept) → me ≢ who → ShowsValues who step values → KeepsOut me values
      → KeepsOut me (values_after step values)
  other_out who (Posts to frame action posted) values other shows was = was
  other_out who (Fetches frame) values other shows was = was
  other_out who (Takes number kept) values other shows was = was
  other_out who (Gives number kept) values other gives was =
      give_out me who number values kept gives was (λ given is by. by.members me other ∙ was.out)
  other_out who (Notes note) values other shows was = was

  others_out : (count who : ℕ) (steps : List MailStep) (values last : List Kept) → me ≢ who
      → IsKeptBy count (map (λ (step : MailStep). (who, step)) steps) values last → KeepsOut me values → KeepsOut me last
  others_out count who [] values last other kept was = subst (KeepsOut me) (sym kept) was
  others_out count who (step ∷ steps) values last other kept was =
      others_out count who steps (values_after step values) last other kept.1 (other_out who step values other kept.0.shows was)

  -- it does something itself
  own_out : (step : MailStep) (steps : List MailStep) (values : List Kept) → ShowsValues me step values → StaysOut me (step ∷ steps)
      → KeepsOut me values → KeepsOut me (values_after step values) × StaysOut me steps
  own_out (Posts to frame action posted) steps values shows stays was = (was, stays)
  own_out (Fetches frame) steps values shows stays was = (was, stays)
  own_out (Takes number (Heap heap pen)) steps values shows stays was = (was, stays)
  own_out (Takes number (Names names)) steps values shows stays was = (was, stays)
  own_out (Takes number (Segments segs)) steps values shows stays was = (was, stays (take_out me me number values segs shows was))
  own_out (Gives number (Heap heap pen)) steps values gives stays was =
      let no_segs : (given : SegsView) → Heap heap pen ≡ Segments given → AreSegsGivenBy me was.segs given
      → is_member given.roster me ≡ false =
      λ given is by. cc in
      (give_out me me number values (Heap heap pen) gives was no_segs, stays)
  own_out (Gives number (Names names)) steps values gives stays was =
      let no_segs : (given : SegsView) → Names names ≡ Segments given → AreSegsGivenBy me was.segs given
      → is_member given.roster me ≡ false =
      λ given is by. cc in
      (give_out me me number values (Names names) gives was no_segs, stays)
  own_out (Gives number (Segments segs)) steps values gives stays was =
      let its : (given : SegsView) → Segments segs ≡ Segments given → AreSegsGivenBy me was.segs given → is_member given.roster me ≡ false =
      λ given is by. sym (ap (λ (segs : SegsView). is_member segs.roster me) (segs_same segs given is)) ∙ stays.0 in
      (give_out me me number values (Segments segs) gives was its, stays.1)
  own_out (Notes note) steps values shows stays was = (was, stays)

  made_kept : (who : ℕ) (steps : List MailStep) (old new : HallView) (made : IsMadeBy who steps old new)
      → IsKeptBy (length old.owns) (map (λ (step : MailStep). (who, step)) steps) (values_in old) (values_in new)
  made_kept who steps old new made =
      subst (λ (steps : List (ℕ × MailStep)). IsKeptBy (length old.owns) steps (values_in old) (values_in new)) made.are made.course.kept

  calls_out : (step : MailStep) (steps : List MailStep) (old new : HallView) → IsMadeBy me (step ∷ []) old new → StaysOut me (step ∷ steps)
      → KeepsOut me (values_in old) → KeepsOut me (values_in new) × StaysOut me steps
  calls_out step steps old new made stays was =
      let kept = made_kept me (step ∷ []) old new made in
      let behind = own_out step steps (values_in old) kept.0.shows stays was in
      (subst (KeepsOut me) (sym kept.1) behind.0, behind.1)

  out_carried : IsCarried me (λ hall. KeepsOut me (values_in hall.plain)) (StaysOut me)
  out_carried = record {
    others = λ denies who moved old new other serves was.
        others_out (length old.plain.owns) who serves.steps (values_in old.plain) (values_in new.plain) (λ same. other (sym same))
        (made_kept who serves.steps old.plain new.plain serves.made) was;
    calls = λ step steps old new call made clock left was. calls_out step steps old.plain new.plain made left was;
    yields = λ above moved steps hall left was. (was, left);
    pauses = λ moved until steps old new is stands goes left was. (subst (KeepsOut me) (sym (ap values_in is)) was, left);
  }

-- ITS OWN STEPS

stays_both : (me : ℕ) (first rest : List MailStep) → StaysOut me first → StaysOut me rest → StaysOut me (first ++ rest)
stays_both me [] rest begins ends = ends
stays_both me (Takes number (Segments segs) ∷ first) rest begins ends = λ out. stays_both me first rest (begins out) ends
stays_both me (Gives number (Segments segs) ∷ first) rest begins ends = (begins.0, stays_both me first rest begins.1 ends)
stays_both me (_ ∷ first) rest begins ends = stays_both me first rest begins ends

-- who leaves is out (as in thm_run's Members)
set_out : (roster : List Bool) (who : ℕ) → is_member (slice_set roster who false) who ≡ false
set_out [] who = refl
set_out (here ∷ roster) zero = refl
set_out (here ∷ roster) (suc who) = set_out roster who

module _ (me : ℕ) where
  followed_out : (party after : Party) (taken : SegsView) (steps : List MailStep) (goes : Bool) → party.me ≡ me
      → IsFollowed party after taken steps goes → is_member taken.roster me ≡ false → StaysOut me steps
  followed_out party after taken steps goes its (IsFollowed.obeys member obeys is) out =
      let here : is_member taken.roster me ≡ true = subst (λ (n : ℕ). is_member taken.roster n ≡ true) its member in
      cc
  followed_out party after taken steps goes its (IsFollowed.is_out member are after_is is) out = subst (StaysOut me) (sym are) (out, tt)
  followed_out party after taken steps goes its (IsFollowed.is_worn member worn are after_is is) out =
      subst (StaysOut me) (sym are) (out, tt)

  told_out : (party after : Party) (body : Body) (steps : List MailStep) (goes : Bool) → party.me ≡ me → IsTold party after body steps goes
      → StaysOut me steps
  told_out party after body steps goes its (IsTold.hears is are after_is goes_is) = subst (StaysOut me) (sym are) tt
  told_out party after body steps goes its (IsTold.follows taken more is are followed) =
      subst (StaysOut me) (sym are) (λ out. followed_out party after taken more goes its followed out)

  heeded_out : (party after : Party) (frame : Frame) (steps : List MailStep) (goes : Bool) → party.me ≡ me
      → IsDispatched party after frame steps goes → StaysOut me steps
  heeded_out party after frame steps goes its (IsDispatched.drops nothing are after_is is) = subst (StaysOut me) (sym are) tt
  heeded_out party after frame steps goes its (IsDispatched.tells body says told) = told_out party after body steps goes its told

  member_out : (party after : Party) (steps : List MailStep) (answer : Option Bool) → party.me ≡ me
      → IsMemberServed party after steps answer → StaysOut me steps
  member_out party after steps answer its (IsMemberServed.rests are after_is is) = subst (StaysOut me) (sym are) tt
  member_out party after steps answer its (IsMemberServed.heeds frame more goes are heeded is) =
      subst (StaysOut me) (sym are) (heeded_out party after frame more goes its heeded)

-- it keeps its number
same_me : (party after same : Party) → after ≡ same → same.me ≡ party.me → after.me ≡ party.me
same_me party after same is me = ap (λ (party : Party). party.me) is ∙ me

followed_me : (party after : Party) (taken : SegsView) (steps : List MailStep) (goes : Bool) → IsFollowed party after taken steps goes
    → after.me ≡ party.me
followed_me party after taken steps goes (IsFollowed.obeys member obeys is) = same_me party after _ obeys.after_is refl
followed_me party after taken steps goes (IsFollowed.is_out member are after_is is) = same_me party after party after_is refl
followed_me party after taken steps goes (IsFollowed.is_worn member worn are after_is is) = same_me party after party after_is refl

told_me : (party after : Party) (body : Body) (steps : List MailStep) (goes : Bool) → IsTold party after body steps goes
    → after.me ≡ party.me
told_me party after body steps goes (IsTold.hears is are after_is goes_is) = same_me party after _ after_is refl
told_me party after body steps goes (IsTold.follows taken more is are followed) = followed_me party after taken more goes followed

heeded_me : (party after : Party) (frame : Frame) (steps : List MailStep) (goes : Bool) → IsDispatched party after frame steps goes
    → after.me ≡ party.me
heeded_me party after frame steps goes (IsDispatched.drops nothing are after_is is) = same_me party after party after_is refl
heeded_me party after frame steps goes (IsDispatched.tells body says told) = told_me party after body steps goes told

member_me : (party after : Party) (steps : List MailStep) (answer : Option Bool) → IsMemberServed party after steps answer
    → after.me ≡ party.me
member_me party after steps answer (IsMemberServed.rests are after_is is) = same_me party after party after_is refl
member_me party after steps answer (IsMemberServed.heeds frame more goes are heeded is) = heeded_me party after frame more goes heeded

module _ (count me : ℕ) (secondary : me ≢ 0) where
  served_out : {denies : Denials} (party after : Party) (steps : List MailStep) (moved : Bool) → party.me ≡ me
      → IsServed denies count party after steps (Some moved)
      → StaysOut me steps × (after.me ≡ me)
  served_out party after steps moved its (IsServed.coordinates primary served) = absurd (secondary (sym its ∙ primary))
  served_out party after steps moved its (IsServed.follows other served) =
      (member_out me party after steps (Some moved) its served, member_me party after steps (Some moved) served ∙ its)

  along_out : HoldsOfSteps count (λ who. who ≡ me) ⊥ (StaysOut me)
  along_out = record {
    none = tt;
    both = stays_both me;
    notes = λ note until. tt;
    posts = λ «to» frame action posted. tt;
    takes_heap = λ heap pen. tt;
    gives_heap = λ heap pen. tt;
    takes_names = λ names. tt;
    gives_names = λ names. tt;
    holds = λ taken given roster out. (ap (λ (roster : List Bool). is_member roster me) roster ∙ out, tt);
    leaves = λ who taken is out.
        (subst (λ (n : ℕ). is_member (slice_set taken.roster n false) me ≡ false) (sym is) (set_out taken.roster me), tt);
    attaches = λ who taken ended may. absurd may;
    serves = λ denies party after steps moved its served. served_out party after steps moved its served;
  }

  -- so who is out stays out where its line doesn't attach
  pub out_stays : (hand last : Option ℕ) (held : List ℕ) (doer after : ParticipantView) (trace : List Done) (steps : List MailStep)
      (old new : SoloView) → doer.party.me ≡ me → Acts count hand last held doer after trace steps
      → list_any is_looked trace ≡ false → Sequence me old steps new
      → KeepsOut me (values_in old.plain) → KeepsOut me (values_in new.plain)
  out_stays hand last held doer after trace steps old new its acts looks sequence was =
      let never : list_any is_looked trace ≡ true → ⊥ = λ looked. cc in
      let own = acts_are count (λ who. who ≡ me) ⊥ (StaysOut me) along_out hand last held doer after trace steps acts never its in
      sequence_carried me (λ hall. KeepsOut me (values_in hall.plain)) (StaysOut me) (out_carried me) steps old new sequence own.0 was

-- WORLDS

module _ (hall : SoloView) (me : ℕ) (party : Party) (world : RunState) (its : IsRunStateOf hall me party world) where
  its_segs : slice_get (values_in hall.plain) MAX_HEAPS ≡ Some (Segments world.shared.segs)
  its_segs =
      slice_get-map (λ (slot : SlotView). slot.kept) hall.plain.slots MAX_HEAPS
      ∙ segs_shown (slot_at hall.plain MAX_HEAPS) world.shared.segs its.shared.segs

  -- who is out by a world is out by the hall
  pub hall_out : is_member world.shared.segs.roster me ≡ false → KeepsOut me (values_in hall.plain)
  hall_out out = record { fits = fits_values hall.plain its.order; segs = world.shared.segs; there = its_segs; out = out }

  -- and so it is the other way round
  pub world_out : KeepsOut me (values_in hall.plain) → is_member world.shared.segs.roster me ≡ false
  world_out was = take_out me me MAX_HEAPS (values_in hall.plain) world.shared.segs its_segs was
