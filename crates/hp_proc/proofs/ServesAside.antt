-- Who serves takes the segment value alone, and gives it back; and tells of no run that was given up.
use Rattle.std.proofs.Common.{◌≡◌, ℕ, zero, suc, Bool, true, false, nat_lt, List, [], ◌∷◌, ◌++◌, length, Option, Some, None, if◌then◌else◌, refl, sym, subst}
use Rattle.std.specs.Prelude.{slice_index, ⊤}
use Rattle.hp_base.specs.declared.caught.Caught.{Caught}
use Rattle.hp_base.specs.declared.caught.Caught.TheVariants as caught
use Rattle.hp_base.specs.declared.limits.TheConstants.{MAX_HEAPS}
use Rattle.hp_base.specs.declared.plan_entry.PlanEntry.{PlanEntry}
use Rattle.hp_core.specs.Core.{Core}
use Rattle.hp_core.specs.declared.event.CoreEvent.{CoreEvent}
use Rattle.hp_core.specs.declared.out.Out.{Out}
use Rattle.hp_frame.specs.declared.frame.Frame.{Frame}
use Rattle.hp_frame.specs.declared.message.Body.{Body}
use Rattle.hp_frame.specs.declared.message.Body.TheVariants.{Free}
use Rattle.hp_hall.specs.Mail.{MailStep, Fetches, Gives, Notes, Posts, Takes}
use Rattle.hp_hall.specs.declared.kept.Kept.{Kept}
use Rattle.hp_hall.specs.declared.kept.Kept.TheVariants.{Segments}
use Rattle.hp_hall.specs.declared.note.Note.TheVariants.{Loaded}
use Rattle.hp_segs.specs.SegsView.{SegsView}
use Rattle.hp_serve.specs.Coordinating.{IsAnswered, IsCarried, IsCoreServed, IsFrameHandled, IsHanded, IsHandled, IsMapped, IsPolled, IsRested, IsServed, IsSettled, loads_of}
use Rattle.hp_serve.specs.Denials.{Denials}
use Rattle.hp_serve.specs.Frames.{Says}
use Rattle.hp_serve.specs.Party.{Party}
use Rattle.hp_serve.specs.Posting.{AreTold, IsPosted, IsToldOne, is_told, syncs_after}
use Rattle.hp_serve.specs.Serving.{IsDispatched, IsFollowed, IsMemberServed, IsTold, tells_after_catching}

-- a message is no notice of a run that was given up
abbrev pub IsNoNotice : Body → Type 0
IsNoNotice (Free from number heap address len) = ⊥
IsNoNotice _ = ⊤

abbrev pub IsSegments : Kept → Type 0
IsSegments (Segments segs) = ⊤
IsSegments _ = ⊥

-- steps that have to do with no slot but that of the segment value, which is in hand before them, or not, and after them; and that tell of no run
abbrev pub AreAside : Bool → Bool → List MailStep → Type 0
AreAside has ends [] = ends ≡ has
AreAside has ends (Posts to frame action posted ∷ steps) = ((body : Body) × Says frame body × IsNoNotice body) × AreAside has ends steps
AreAside has ends (Fetches frame ∷ steps) = AreAside has ends steps
AreAside has ends (Takes slot kept ∷ steps) = (has ≡ false) × (slot ≡ MAX_HEAPS) × IsSegments kept × AreAside true ends steps
AreAside has ends (Gives slot kept ∷ steps) = (has ≡ true) × (slot ≡ MAX_HEAPS) × IsSegments kept × AreAside false ends steps
AreAside has ends (Notes note ∷ steps) = AreAside has ends steps

-- steps one after the other
pub aside_both : (has mid ends : Bool) (first last : List MailStep) → AreAside has mid first → AreAside mid ends last
    → AreAside has ends (first ++ last)
aside_both has mid ends [] last here there = subst (λ (from : Bool). AreAside from ends last) here there
aside_both has mid ends (Posts to frame action posted ∷ first) last here there = (here.0, aside_both has mid ends first last here.1 there)
aside_both has mid ends (Fetches frame ∷ first) last here there = aside_both has mid ends first last here there
aside_both has mid ends (Takes slot kept ∷ first) last here there =
    (here.0, here.1, here.2, aside_both true mid ends first last here.3 there)
aside_both has mid ends (Gives slot kept ∷ first) last here there =
    (here.0, here.1, here.2, aside_both false mid ends first last here.3 there)
aside_both has mid ends (Notes note ∷ first) last here there = aside_both has mid ends first last here there

-- steps that begin and end without the segment value
abbrev pub IsAside : List MailStep → Type 0
IsAside steps = AreAside false false steps

pub aside_then : (first last : List MailStep) → IsAside first → IsAside last → IsAside (first ++ last)
aside_then first last here there = aside_both false false false first last here there

pub aside_as : (steps did : List MailStep) → steps ≡ did → IsAside did → IsAside steps
aside_as steps did is aside = subst IsAside (sym is) aside

-- WHAT IS POSTED

told_one : (plan : List PlanEntry) (frame : Frame) (body : Body) (counts : List ℕ) (to : ℕ) (told : Bool) (steps : List MailStep) → Says frame body
    → IsNoNotice body → IsToldOne plan frame counts to told steps → IsAside steps
told_one plan frame body counts to told steps says other (IsToldOne.tells posted is did) = aside_as steps _ did ((body, says, other), refl)
told_one plan frame body counts to told steps says other (IsToldOne.passes is did) = aside_as steps _ did refl

are_told : (plan : List PlanEntry) (counts : List ℕ) (frame : Frame) (body : Body) (told : ℕ → Bool) (n : ℕ) (steps : List MailStep)
    → Says frame body → IsNoNotice body → AreTold plan counts frame told n steps → IsAside steps
unfolding AreTold
are_told plan counts frame body told zero steps says other are = aside_as steps _ are refl
are_told plan counts frame body told (suc n) steps says other are =
    aside_as steps _ are.4
    (aside_then are.0 are.1 (are_told plan counts frame body told n are.0 says other are.2)
    (told_one plan frame body (syncs_after told counts n) (suc n) (told (suc n)) are.1 says other are.3))

posted : (count : ℕ) (party after : Party) (answer : Out) (steps : List MailStep) → IsPosted count party after answer steps → IsAside steps
posted count party after answer steps (IsPosted.nothing is did after_is) = aside_as steps _ did refl
posted count party after answer steps (IsPosted.syncs generation round members frame is says told after_is) =
    are_told party.plan party.sent.syncs frame _ (is_told count members) 15 steps says tt told
posted count party after answer steps (IsPosted.answers to number what good frame became is asker says did after_is) =
    aside_as steps _ did ((_, says, tt), refl)
posted count party after answer steps (IsPosted.nobody to number what good is asker did after_is) = aside_as steps _ did refl

-- WHAT IS NOTED

tells_aside : (has : Bool) (caught : Caught) (records : ℕ) → AreAside has has (tells_after_catching caught records)
tells_aside has caught.Done records = refl
tells_aside has (caught.Refused row call) records = refl
tells_aside has (caught.Elsewhere row call got) records = refl

loaded_if : (is : Bool) (member ack : ℕ) → IsAside (if is then Notes (Loaded member ack) ∷ [] else [])
loaded_if true member ack = refl
loaded_if false member ack = refl

loads_aside : (count : ℕ) (acks : List ℕ) (n : ℕ) → IsAside (loads_of count acks n)
unfolding loads_of
loads_aside count acks zero = refl
loads_aside count acks (suc n) =
    aside_then (loads_of count acks n) _ (loads_aside count acks n) (loaded_if (nat_lt n count) n (slice_index acks n))

-- WHAT ITS COORDINATOR DOES

handed : {denies : Denials} → (event : CoreEvent) (core next : Core) (taken : SegsView) (more : List MailStep) (answer : Option Out)
    → IsHanded denies event core next taken more answer → AreAside true false more
handed event core next taken more answer (IsHanded.handed denied may did next_is is) =
    subst (AreAside true false) (sym did) (refl, refl, tt, refl)
handed event core next taken more answer (IsHanded.no_room did next_is is) =
    subst (AreAside true false) (sym did) (refl, refl, tt, refl)

mapped : (party after : Party) (steps : List MailStep) (answer : Option Out) → IsMapped party after steps answer → IsAside steps
mapped party after steps answer (IsMapped.maps core next taken caught table own now more core_is did caught_up is_handed after_is) =
    aside_as steps _ did (
      refl,
      refl,
      tt,
      aside_both true true false (tells_after_catching caught (length taken.log)) _ (tells_aside true caught (length taken.log))
          (handed _ core next taken more answer is_handed),
    )
mapped party after steps answer (IsMapped.worn taken is_worn did after_is none) =
    aside_as steps _ did (refl, refl, tt, (refl, refl, tt, refl))

settled : (count : ℕ) (party after : Party) (answer : Out) (steps : List MailStep) (goes : Bool) → IsSettled count party after answer steps goes
    → IsAside steps
settled count party after answer steps goes (IsSettled.posts did is) = posted count party after answer steps did
settled count party after answer steps goes (IsSettled.stops must maps is) = mapped party after steps None maps

carried : (count : ℕ) (path : List Party) (party after : Party) (answer : Out) (steps : List MailStep) (goes : Bool)
    → IsCarried count path party after answer steps goes → IsAside steps
carried count [] party after answer steps goes is = settled count party after answer steps goes is
carried count (mid ∷ path) party after answer steps goes is =
    aside_as steps _ is.3
    (aside_then is.1 is.2 (mapped party mid is.1 (Some is.0) is.5) (carried count path mid after is.0 is.2 goes is.6))

begun : {denies : Denials} → (event : CoreEvent) (core next : Core) (taken : SegsView) (steps more : List MailStep) (answer : Option Out)
    → steps ≡ Takes MAX_HEAPS (Segments taken) ∷ more → IsHanded denies event core next taken more answer → IsAside steps
begun event core next taken steps more answer begins is = aside_as steps _ begins (refl, refl, tt, handed event core next taken more answer is)

handled : {denies : Denials} → (count : ℕ) (event : CoreEvent) (party after : Party) (steps : List MailStep) (goes : Bool)
    → IsHandled denies count event party after steps goes → IsAside steps
handled count event party after steps goes (IsHandled.carries core next answer path first more core_is hands is_carried did) =
    aside_as steps _ did
    (aside_then first more (begun event core next hands.taken first hands.more (Some answer) hands.begins hands.is_handed)
    (carried count path _ after answer more goes is_carried))
handled count event party after steps goes (IsHandled.stops core next core_is hands after_is is) =
    begun event core next hands.taken steps hands.more None hands.begins hands.is_handed

polled : {denies : Denials} → (count now : ℕ) (party after : Party) (steps : List MailStep) (goes : Bool)
    → IsPolled denies count now party after steps goes → IsAside steps
polled count now party after steps goes is =
    aside_as steps _ is.are
    (aside_then is.looks is.more (aside_as is.looks _ is.looked_up.looked_up (loads_aside count is.acks 16))
    (handled count _ party after is.more goes is.handled))

answered : {denies : Denials} → (count : ℕ) (party after : Party) (body : Body) (steps : List MailStep) (goes : Bool)
    → IsAnswered denies count party after body steps goes → IsAside steps
answered count party after body steps goes (IsAnswered.polls due now more reply due_is did is) =
    aside_as steps _ did (polled count now party after more goes is)
answered count party after body steps goes (IsAnswered.rests reply none did after_is goes_is) = aside_as steps _ did refl
answered count party after body steps goes (IsAnswered.hears reply did after_is goes_is) = aside_as steps _ did refl

obeyed : {denies : Denials} → (count : ℕ) (party after : Party) (frame : Frame) (steps : List MailStep) (goes : Bool)
    → IsFrameHandled denies count party after frame steps goes → IsAside steps
obeyed count party after frame steps goes (IsFrameHandled.drops says did after_is goes_is) = aside_as steps _ did refl
obeyed count party after frame steps goes (IsFrameHandled.asks body event says ask is) = handled count event party after steps goes is
obeyed count party after frame steps goes (IsFrameHandled.others body says none is) = answered count party after body steps goes is

rested : {denies : Denials} → (count : ℕ) (party after : Party) (steps : List MailStep) (answer : Option Bool)
    → IsRested denies count party after steps answer → IsAside steps
rested count party after steps answer (IsRested.rests now holds early did after_is is) = aside_as steps _ did refl
rested count party after steps answer (IsRested.polls now more goes due did polls is) =
    aside_as steps _ did (polled count now party after more goes polls)

coordinates : {denies : Denials} → (count : ℕ) (party after : Party) (steps : List MailStep) (answer : Option Bool)
    → IsCoreServed denies count party after steps answer → IsAside steps
coordinates count party after steps answer (IsCoreServed.rests more did rests) = aside_as steps _ did (rested count party after more answer rests)
coordinates count party after steps answer (IsCoreServed.heeds frame more goes did obeys is) =
    aside_as steps _ did (obeyed count party after frame more goes obeys)

-- WHAT A SYNC MAKES OF IT

followed : (party after : Party) (taken : SegsView) (more : List MailStep) (goes : Bool) → IsFollowed party after taken more goes
    → AreAside true false more
followed party after taken more goes (IsFollowed.obeys member obeys is) =
    subst (AreAside true false) (sym obeys.done)
    (aside_both true true false (tells_after_catching obeys.caught (length taken.log)) _ (tells_aside true obeys.caught (length taken.log))
    (refl, refl, tt, subst (λ (step : MailStep). IsAside (step ∷ [])) (sym obeys.replied.posts) ((_, obeys.replied.says, tt), refl)))
followed party after taken more goes (IsFollowed.is_out out did after_is is) =
    subst (AreAside true false) (sym did) (refl, refl, tt, refl)
followed party after taken more goes (IsFollowed.is_worn member worn did after_is is) =
    subst (AreAside true false) (sym did) (refl, refl, tt, refl)

told : (party after : Party) (body : Body) (steps : List MailStep) (goes : Bool) → IsTold party after body steps goes → IsAside steps
told party after body steps goes (IsTold.hears reply did after_is is) = aside_as steps _ did refl
told party after body steps goes (IsTold.follows taken more sync did follows) =
    aside_as steps _ did (refl, refl, tt, followed party after taken more goes follows)

heeded : (party after : Party) (frame : Frame) (steps : List MailStep) (goes : Bool) → IsDispatched party after frame steps goes → IsAside steps
heeded party after frame steps goes (IsDispatched.drops says did after_is is) = aside_as steps _ did refl
heeded party after frame steps goes (IsDispatched.tells body says tells) = told party after body steps goes tells

follows : (party after : Party) (steps : List MailStep) (answer : Option Bool) → IsMemberServed party after steps answer → IsAside steps
follows party after steps answer (IsMemberServed.rests did after_is is) = aside_as steps _ did refl
follows party after steps answer (IsMemberServed.heeds frame more goes did heeds is) =
    aside_as steps _ did (heeded party after frame more goes heeds)

-- one serving, whether it stopped or not
pub served_aside : {denies : Denials} → (count : ℕ) (party after : Party) (steps : List MailStep) (answer : Option Bool)
    → IsServed denies count party after steps answer → IsAside steps
served_aside count party after steps answer (IsServed.coordinates primary served) = coordinates count party after steps answer served
served_aside count party after steps answer (IsServed.follows other served) = follows party after steps answer served
