-- What a serving comes to, by cases on what it did: the rules "Serving" and "Coordinating" of docs/PARTICIPANTS.md.
use Rattle.std.proofs.Common.{◌≡◌, ◌≢◌, ◌∙◌, ℕ, zero, suc, Bool, true, false, List, [], ◌∷◌, ◌++◌, length, Option, Some, None, append-nil, refl, ap, sym, subst, arith}
use Rattle.std.specs.Prelude.{nat_lt, slice_index, take, if◌then◌else◌}
use Rattle.hp_base.specs.declared.caught.Caught.{Caught}
use Rattle.hp_base.specs.declared.caught.Caught.TheVariants as caught
use Rattle.hp_base.specs.declared.plan_entry.PlanEntry.{PlanEntry}
use Rattle.hp_core.specs.Core.{Core}
use Rattle.hp_core.specs.Following.{after_catching}
use Rattle.hp_core.specs.declared.event.CoreEvent.{CoreEvent}
use Rattle.hp_core.specs.declared.out.Out.{Out}
use Rattle.hp_frame.proofs.SpellingLemmas.{same_message}
use Rattle.hp_frame.specs.declared.frame.Frame.{Frame}
use Rattle.hp_frame.specs.declared.message.Body.{Body}
use Rattle.hp_frame.specs.declared.message.Body.TheVariants.{Alloc, Answer, Free, Sync}
use Rattle.hp_frame.specs.declared.message.Message.{Message}
use Rattle.hp_hall.specs.Mail.{MailStep, Fetches, Gives, Notes, Posts, Takes}
use Rattle.hp_hall.specs.declared.note.Note.TheVariants.{Loaded}
use Rattle.hp_segs.specs.SegsView.{SegsView}
use Rattle.hp_serve.specs.Coordinating.{Hands, IsAnswered, IsAskIn, IsCarried, IsCoreServed, IsHanded, IsHandled, IsMapped, IsNoAsk, IsFrameHandled, IsPolled, IsRested, IsServed, IsSettled, loads_of}
use Rattle.hp_serve.specs.Denials.{Denials}
use Rattle.hp_serve.specs.Frames.{Says, to_handler}
use Rattle.hp_serve.specs.Party.{Party}
use Rattle.hp_serve.specs.Posting.{AreTold, IsPosted, IsToldOne, is_told, syncs_after}
use Rattle.hp_serve.specs.Serving.{answer_after, IsFollowed, IsDispatched, IsMemberServed, IsTold, tells_after_catching, gives_segments, is_sync, takes_segments}
use Rattle.hp_serve.specs.Servings.{EachPost, FollowsSync, HandsOver, IsCorePost, IsReplyPost, ServesSo}
use Rattle.hp_serve.proofs.Telling.{told_declared}

-- a frame says one thing
says_one : (frame : Frame) (body other : Body) → Says frame body → Says frame other → body ≡ other
says_one frame body other says speaks =
    ap (λ (message : Message). message.body)
    (same_message (take frame.len frame.bytes) (to_handler body) (to_handler other) says speaks)

-- EACH POST

pub each_then : (P : ℕ → Frame → Type 0) (first more : List MailStep) → EachPost P first → EachPost P more → EachPost P (first ++ more)
each_then P [] more here there = there
each_then P (Posts to frame action posted ∷ first) more here there = (here.0, each_then P first more here.1 there)
each_then P (Fetches found ∷ first) more here there = each_then P first more here there
each_then P (Takes slot kept ∷ first) more here there = each_then P first more here there
each_then P (Gives slot kept ∷ first) more here there = each_then P first more here there
each_then P (Notes note ∷ first) more here there = each_then P first more here there

each_of : (P : ℕ → Frame → Type 0) (steps same : List MailStep) → steps ≡ same → EachPost P same → EachPost P steps
each_of P steps same is each = subst (EachPost P) (sym is) each

each_tells : (P : ℕ → Frame → Type 0) (caught : Caught) (records : ℕ) (more : List MailStep) → EachPost P more
    → EachPost P (tells_after_catching caught records ++ more)
each_tells P caught.Done records more each = each
each_tells P (caught.Refused row call) records more each = each
each_tells P (caught.Elsewhere row call got) records more each = each

-- OF PARTICIPANT 0

module _ (count : ℕ) where
  abbrev Each : List MailStep → Type 0
  Each steps = EachPost (IsCorePost count) steps

  each_told : (plan : List PlanEntry) (counts : List ℕ) (frame : Frame) (generation round members n : ℕ) (steps : List MailStep)
      → Says frame (Sync generation round) → AreTold plan counts frame (is_told count members) n steps → Each steps
  unfolding AreTold
  each_told plan counts frame generation round members zero steps says told = each_of (IsCorePost count) steps [] told tt
  each_told plan counts frame generation round members (suc n) steps says told =
      each_of (IsCorePost count) steps (told.0 ++ told.1) told.4
      (each_then (IsCorePost count) told.0 told.1 (each_told plan counts frame generation round members n told.0 says told.2)
      (one_told told.1 (is_told count members (suc n)) refl told.3))
    where
      one_told : (last : List MailStep) (tells : Bool) → tells ≡ is_told count members (suc n)
          → IsToldOne plan frame (syncs_after (is_told count members) counts n) (suc n) tells last → Each last
      one_told last tells same (IsToldOne.tells posted is did) =
          each_of (IsCorePost count) last _ did
          (IsCorePost.syncs generation round says (omega arith) (told_declared count members (suc n) (sym same ∙ is)), tt)
      one_told last tells same (IsToldOne.passes is did) = each_of (IsCorePost count) last [] did tt

  each_posted : (party after : Party) (answer : Out) (steps : List MailStep) → IsPosted count party after answer steps → Each steps
  each_posted party after answer steps (IsPosted.nothing is did after_is) = each_of (IsCorePost count) steps [] did tt
  each_posted party after answer steps (IsPosted.syncs generation round members frame is says told after_is) =
      each_told party.plan party.sent.syncs frame generation round members 15 steps says told
  each_posted party after answer steps (IsPosted.answers to number what good frame posted is asker says did after_is) =
      each_of (IsCorePost count) steps _ did (IsCorePost.results number what good says asker, tt)
  each_posted party after answer steps (IsPosted.nobody to number what good is asker did after_is) = each_of (IsCorePost count) steps [] did tt

  each_handed : {denies : Denials}
      → (event : CoreEvent) (core after : Core) (taken : SegsView) (steps : List MailStep) (answer : Option Out)
      → IsHanded denies event core after taken steps answer → Each steps
  each_handed event core after taken steps answer (IsHanded.handed denied may did after_is is) = each_of (IsCorePost count) steps _ did tt
  each_handed event core after taken steps answer (IsHanded.no_room did after_is is) = each_of (IsCorePost count) steps _ did tt

  each_hands : {denies : Denials} → (event : CoreEvent) (core after : Core) (steps : List MailStep) (answer : Option Out)
      → Hands denies event core after steps answer → Each steps
  each_hands event core after steps answer hands =
      each_of (IsCorePost count) steps _ hands.begins (each_handed event core after hands.taken hands.more answer hands.is_handed)

  each_mapped : (party after : Party) (steps : List MailStep) (answer : Option Out) → IsMapped party after steps answer → Each steps
  each_mapped party after steps answer (IsMapped.maps core next taken caught table own now more core_is did caught_up is after_is) =
      each_of (IsCorePost count) steps _ did
      (each_tells (IsCorePost count) caught (length taken.log) _ (each_handed _ core next taken more answer is))
  each_mapped party after steps answer (IsMapped.worn taken is_worn did after_is none) = each_of (IsCorePost count) steps _ did tt

  each_settled : (party after : Party) (answer : Out) (steps : List MailStep) (goes : Bool) → IsSettled count party after answer steps goes → Each steps
  each_settled party after answer steps goes (IsSettled.posts posted is) = each_posted party after answer steps posted
  each_settled party after answer steps goes (IsSettled.stops must mapped is) = each_mapped party after steps None mapped

  each_carried : (path : List Party) (party after : Party) (answer : Out) (steps : List MailStep) (goes : Bool)
      → IsCarried count path party after answer steps goes → Each steps
  each_carried [] party after answer steps goes is = each_settled party after answer steps goes is
  each_carried (mid ∷ path) party after answer steps goes is =
      each_of (IsCorePost count) steps (is.1 ++ is.2) is.3
      (each_then (IsCorePost count) is.1 is.2 (each_mapped party mid is.1 (Some is.0) is.5) (each_carried path mid after is.0 is.2 goes is.6))

  each_handled : {denies : Denials} → (event : CoreEvent) (party after : Party) (steps : List MailStep) (goes : Bool)
      → IsHandled denies count event party after steps goes
      → Each steps
  each_handled event party after steps goes (IsHandled.carries core next answer path first more core_is hands carried did) =
      each_of (IsCorePost count) steps (first ++ more) did
      (each_then (IsCorePost count) first more (each_hands event core next first (Some answer) hands)
      (each_carried path _ after answer more goes carried))
  each_handled event party after steps goes (IsHandled.stops core next core_is hands after_is none) = each_hands event core next steps None hands

  each_loads : (acks : List ℕ) (n : ℕ) → Each (loads_of count acks n)
  unfolding loads_of
  each_loads acks zero = tt
  each_loads acks (suc n) =
      each_then (IsCorePost count) (loads_of count acks n) _ (each_loads acks n) (one_load (nat_lt n count))
    where
      one_load : (has : Bool) → Each (if has then Notes (Loaded n (slice_index acks n)) ∷ [] else [])
      one_load true = tt
      one_load false = tt

  each_polled : {denies : Denials} → (now : ℕ) (party after : Party) (steps : List MailStep) (goes : Bool)
      → IsPolled denies count now party after steps goes → Each steps
  each_polled now party after steps goes polled =
      each_of (IsCorePost count) steps (polled.looks ++ polled.more) polled.are
      (each_then (IsCorePost count) polled.looks polled.more
      (each_of (IsCorePost count) polled.looks _ polled.looked_up.looked_up (each_loads polled.acks 16))
      (each_handled _ party after polled.more goes polled.handled))

  each_answered : {denies : Denials} → (party after : Party) (body : Body) (steps : List MailStep) (goes : Bool)
      → IsAnswered denies count party after body steps goes
      → Each steps
  each_answered party after body steps goes (IsAnswered.polls due now more reply due_is did polled) =
      each_of (IsCorePost count) steps _ did (each_polled now party after more goes polled)
  each_answered party after body steps goes (IsAnswered.rests reply none did after_is goes_is) = each_of (IsCorePost count) steps [] did tt
  each_answered party after body steps goes (IsAnswered.hears reply did after_is goes_is) = each_of (IsCorePost count) steps [] did tt

  each_obeyed : {denies : Denials} → (party after : Party) (frame : Frame) (steps : List MailStep) (goes : Bool)
      → IsFrameHandled denies count party after frame steps goes
      → Each steps
  each_obeyed party after frame steps goes (IsFrameHandled.drops says did after_is goes_is) = each_of (IsCorePost count) steps [] did tt
  each_obeyed party after frame steps goes (IsFrameHandled.asks body event says ask handled) = each_handled event party after steps goes handled
  each_obeyed party after frame steps goes (IsFrameHandled.others body says none answered) = each_answered party after body steps goes answered

  each_rested : {denies : Denials} → (party after : Party) (steps : List MailStep) (answer : Option Bool)
      → IsRested denies count party after steps answer → Each steps
  each_rested party after steps answer (IsRested.rests now holds early did after_is is) = each_of (IsCorePost count) steps _ did tt
  each_rested party after steps answer (IsRested.polls now more goes due did polled is) =
      each_of (IsCorePost count) steps _ did (each_polled now party after more goes polled)

-- AN ASK IS HANDED OVER

-- what is an ask is not none
is_ask : (count : ℕ) (body : Body) (event : CoreEvent) → IsAskIn count body event → IsNoAsk count body → ⊥
is_ask count body event (IsAskIn.asks ask size align bound flags is declared request event_is) (IsNoAsk.syncs generation round other) = cc
is_ask count body event (IsAskIn.asks ask size align bound flags is declared request event_is) (IsNoAsk.answers from number what code other) = cc
is_ask count body event (IsAskIn.asks ask size align bound flags is declared request event_is)
    (IsNoAsk.undeclared_asker from number heap socket page asked aligned bounded flagged other many) =
    let same : ask.from ≡ from = cc in
    omega (arith, same, declared, many)
is_ask count body event (IsAskIn.asks ask size align bound flags is declared request event_is)
    (IsNoAsk.undeclared_giver from number heap address len other many) = cc
is_ask count body event (IsAskIn.asks ask size align bound flags is declared request event_is)
    (IsNoAsk.no_request from number heap socket page asked aligned bounded flagged why other refused) =
    let accepted = request.accepted in
    cc
is_ask count body event (IsAskIn.frees from number heap address len is declared event_is) (IsNoAsk.syncs generation round other) = cc
is_ask count body event (IsAskIn.frees from number heap address len is declared event_is) (IsNoAsk.answers other_from other_number what code other) = cc
is_ask count body event (IsAskIn.frees from number heap address len is declared event_is)
    (IsNoAsk.undeclared_asker other_from other_number other_heap socket page asked aligned bounded flagged other many) = cc
is_ask count body event (IsAskIn.frees from number heap address len is declared event_is)
    (IsNoAsk.undeclared_giver giver other_number other_heap other_address other_len other many) =
    let same : from ≡ giver = cc in
    omega (arith, same, declared, many)
is_ask count body event (IsAskIn.frees from number heap address len is declared event_is)
    (IsNoAsk.no_request other_from other_number other_heap socket page asked aligned bounded flagged why other refused) = cc

hands_over : {denies : Denials}
    → (party : Party) (event : CoreEvent) (core next : Core) (first more : List MailStep) (answer : Option Out) (goes : Option Bool)
    → party.core ≡ Some core → (answer ≡ None → goes ≡ None) → (answer ≡ None → more ≡ []) → Hands denies event core next first answer
    → HandsOver denies party event (first ++ more) goes
hands_over {denies} party event core next first more answer goes core_is stops alone hands = by_handed hands.more hands.is_handed
    hands.begins
  where
    by_handed : (left : List MailStep) → IsHanded denies event core next hands.taken left answer → first ≡ takes_segments hands.taken ∷ left
        → HandsOver denies party event (first ++ more) goes
    by_handed left (IsHanded.handed denied may did after_is is) begins =
        HandsOver.steps_on core hands.taken denied more core_is may
        (ap (λ (first : List MailStep). first ++ more) (begins ∙ ap (λ (left : List MailStep). takes_segments hands.taken ∷ left) did))
    by_handed left (IsHanded.no_room did after_is is) begins =
        HandsOver.no_room hands.taken
        (ap (λ (more : List MailStep). first ++ more) (alone is)
        ∙ ap (λ (first : List MailStep). first ++ []) (begins ∙ ap (λ (left : List MailStep). takes_segments hands.taken ∷ left) did)) (stops is)

asked_over : {denies : Denials}
    → (count : ℕ) (party after : Party) (event : CoreEvent) (steps : List MailStep) (goes : Bool) (answer : Option Bool)
    → (goes ≡ false → answer ≡ None) → IsHandled denies count event party after steps goes → HandsOver denies party event steps answer
asked_over {denies} count party after event steps goes answer stops
    (IsHandled.carries core next out path first more core_is hands carried did) =
    subst (λ (steps : List MailStep). HandsOver denies party event steps answer) (sym did)
    (hands_over party event core next first more (Some out) answer core_is (λ none. cc) (λ none. cc) hands)
asked_over {denies} count party after event steps goes answer stops (IsHandled.stops core next core_is hands after_is none) =
    subst (λ (steps : List MailStep). HandsOver denies party event steps answer) (append-nil steps)
    (hands_over party event core next steps [] None answer core_is (λ is. stops none) (λ is. refl) hands)

-- what participant 0 fetched is an ask
asks_of : {denies : Denials}
    → (count : ℕ) (party after : Party) (frame : Frame) (steps : List MailStep) (goes : Bool) (answer : Option Bool)
    → answer ≡ answer_after goes
    → IsFrameHandled denies count party after frame steps goes → (body : Body) (event : CoreEvent) → Says frame body → IsAskIn count body event
    → (handed : CoreEvent) × IsAskIn count body handed × HandsOver denies party handed steps answer
asks_of count party after frame steps goes answer behind (IsFrameHandled.drops nothing did after_is goes_is) body event says ask = absurd (nothing body says)
asks_of count party after frame steps goes answer behind (IsFrameHandled.asks told handed speaks asked handled) body event says ask =
    let stops : goes ≡ false → answer ≡ None = λ is. behind ∙ ap answer_after is in (
      handed,
      subst (λ (body : Body). IsAskIn count body handed) (says_one frame told body speaks says) asked,
      asked_over count party after handed steps goes answer stops handled,
    )
asks_of count party after frame steps goes answer behind (IsFrameHandled.others told speaks none answered) body event says ask =
    absurd
    (is_ask count told event (subst (λ (body : Body). IsAskIn count body event) (says_one frame body told says speaks) ask) none)

-- OF ALL OTHERS

followed_so : (party after : Party) (taken : SegsView) (steps : List MailStep) (goes : Bool) → IsFollowed party after taken steps goes
    → FollowsSync party (takes_segments taken ∷ steps) (answer_after goes)
followed_so party after taken steps goes (IsFollowed.obeys member obeys is) =
    FollowsSync.replies taken obeys.caught obeys.replied.frame obeys.replied.posted member obeys.replied.says
    (ap (λ (steps : List MailStep). takes_segments taken ∷ steps) (obeys.done
    ∙ ap (λ (reply : MailStep). tells_after_catching obeys.caught (length taken.log) ++ (gives_segments (after_catching party.me obeys.caught taken)
    ∷ reply ∷ [])) obeys.replied.posts))
    (ap answer_after is)
followed_so party after taken steps goes (IsFollowed.is_out member did after_is is) =
    FollowsSync.gives_back taken member (ap (λ (steps : List MailStep). takes_segments taken ∷ steps) did) (ap answer_after is)
followed_so party after taken steps goes (IsFollowed.is_worn member worn did after_is is) =
    FollowsSync.is_worn taken member worn (ap (λ (steps : List MailStep). takes_segments taken ∷ steps) did) (ap answer_after is)

told_so : (party after : Party) (body : Body) (steps : List MailStep) (goes : Bool) → IsTold party after body steps goes
    → (generation round : ℕ) → body ≡ Sync generation round → FollowsSync party steps (answer_after goes)
told_so party after body steps goes (IsTold.hears sync did after_is is) generation round same =
    let other : is_sync (Sync generation round) ≡ false = subst (λ (body : Body). is_sync body ≡ false) same sync in
    cc
told_so party after body steps goes (IsTold.follows taken more sync did followed) generation round same =
    subst (λ (steps : List MailStep). FollowsSync party steps (answer_after goes)) (sym did) (followed_so party after taken more goes followed)

heeded_so : (party after : Party) (frame : Frame) (steps : List MailStep) (goes : Bool) → IsDispatched party after frame steps goes
    → (generation round : ℕ) → Says frame (Sync generation round) → FollowsSync party steps (answer_after goes)
heeded_so party after frame steps goes (IsDispatched.drops nothing did after_is is) generation round says = absurd (nothing (Sync generation round) says)
heeded_so party after frame steps goes (IsDispatched.tells body speaks told) generation round says =
    told_so party after body steps goes told generation round (says_one frame body (Sync generation round) speaks says)

-- it is a SYNC
sync_of : (body : Body) → is_sync body ≡ true → (generation : ℕ) × (round : ℕ) × (body ≡ Sync generation round)
sync_of (Sync generation round) is = (generation, round, refl)
sync_of (Alloc from number heap socket page size align bound flags) is = cc
sync_of (Free from number heap address len) is = cc
sync_of (Answer from number what code) is = cc

each_followed : (party after : Party) (taken : SegsView) (steps : List MailStep) (goes : Bool) (frame : Frame) (generation round : ℕ)
    → Says frame (Sync generation round) → IsFollowed party after taken steps goes → EachPost (IsReplyPost party (Some frame)) steps
each_followed party after taken steps goes frame generation round says (IsFollowed.obeys member obeys is) =
    let P : ℕ → Frame → Type 0 = IsReplyPost party (Some frame) in
    let reply : P 0 obeys.replied.frame = record {
      to_zero = refl;
      caught = obeys.caught;
      taken = taken;
      says = obeys.replied.says;
      sync = frame;
      behind = refl;
      generation = generation;
      round = round;
      is_sync = says;
    } in
    each_of P steps _ (obeys.done
    ∙ ap (λ (reply : MailStep). tells_after_catching obeys.caught (length taken.log) ++ (gives_segments (after_catching party.me obeys.caught taken)
    ∷ reply ∷ [])) obeys.replied.posts)
    (each_tells P obeys.caught (length taken.log) _ (reply, tt))
each_followed party after taken steps goes frame generation round says (IsFollowed.is_out member did after_is is) =
    each_of (IsReplyPost party (Some frame)) steps _ did tt
each_followed party after taken steps goes frame generation round says (IsFollowed.is_worn member worn did after_is is) =
    each_of (IsReplyPost party (Some frame)) steps _ did tt

each_member_told : (party after : Party) (body : Body) (steps : List MailStep) (goes : Bool) (frame : Frame) → Says frame body
    → IsTold party after body steps goes → EachPost (IsReplyPost party (Some frame)) steps
each_member_told party after body steps goes frame says (IsTold.hears sync did after_is is) =
    each_of (IsReplyPost party (Some frame)) steps [] did tt
each_member_told party after body steps goes frame says (IsTold.follows taken more sync did followed) =
    let is = sync_of body sync in
    each_of (IsReplyPost party (Some frame)) steps _ did
    (each_followed party after taken more goes frame is.0 is.1 (subst (Says frame) is.2 says) followed)

each_heeded : (party after : Party) (frame : Frame) (steps : List MailStep) (goes : Bool) → IsDispatched party after frame steps goes
    → EachPost (IsReplyPost party (Some frame)) steps
each_heeded party after frame steps goes (IsDispatched.drops nothing did after_is is) = each_of (IsReplyPost party (Some frame)) steps [] did tt
each_heeded party after frame steps goes (IsDispatched.tells body says told) = each_member_told party after body steps goes frame says told

-- OF EVERY ONE

core_so : {denies : Denials} → (count : ℕ) (party after : Party) (steps : List MailStep) (answer : Option Bool) → party.me ≡ 0
    → IsCoreServed denies count party after steps answer → ServesSo denies count party steps answer
core_so count party after steps answer me (IsCoreServed.rests more did rested) = record {
  fetched = None;
  rest = more;
  first = did;
  sync = λ other. absurd (other me);
  posts = λ other. absurd (other me);
  core_posts = λ zero. each_rested count party after more answer rested;
  asks = λ zero frame body event none. cc;
}
core_so count party after steps answer me (IsCoreServed.heeds frame more goes did obeyed is) = record {
  fetched = Some frame;
  rest = more;
  first = did;
  sync = λ other. absurd (other me);
  posts = λ other. absurd (other me);
  core_posts = λ zero. each_obeyed count party after frame more goes obeyed;
  asks = λ zero other body event same says ask.
      let here : frame ≡ other = cc in
      asks_of count party after frame more goes answer is obeyed body event (subst (λ (frame : Frame). Says frame body) (sym here) says) ask;
}

member_so : {denies : Denials} → (count : ℕ) (party after : Party) (steps : List MailStep) (answer : Option Bool) → party.me ≢ 0
    → IsMemberServed party after steps answer → ServesSo denies count party steps answer
member_so count party after steps answer me (IsMemberServed.rests did after_is is) = record {
  fetched = None;
  rest = [];
  first = did;
  sync = λ other frame generation round none. cc;
  posts = λ other. tt;
  core_posts = λ zero. absurd (me zero);
  asks = λ zero. absurd (me zero);
}
member_so count party after steps answer me (IsMemberServed.heeds frame more goes did heeded is) = record {
  fetched = Some frame;
  rest = more;
  first = did;
  sync = λ other fetched generation round same says.
      let here : frame ≡ fetched = cc in
      subst (FollowsSync party more) (sym is)
      (heeded_so party after frame more goes heeded generation round
      (subst (λ (frame : Frame). Says frame (Sync generation round)) (sym here) says));
  posts = λ other. each_heeded party after frame more goes heeded;
  core_posts = λ zero. absurd (me zero);
  asks = λ zero. absurd (me zero);
}

pub serves_so : {denies : Denials} → (count : ℕ) (party after : Party) (steps : List MailStep) (answer : Option Bool)
    → IsServed denies count party after steps answer
    → ServesSo denies count party steps answer
serves_so count party after steps answer (IsServed.coordinates me served) = core_so count party after steps answer me served
serves_so count party after steps answer (IsServed.follows me served) = member_so count party after steps answer me served
