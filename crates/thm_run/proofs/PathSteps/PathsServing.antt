-- What a participant does when it serves is a path.
use Rattle.std.proofs.Common.{◌≡◌, ◌∙◌, ℕ, zero, suc, Bool, true, false, true≢false, nat_lt, List, [], ◌∷◌, ◌++◌, length, map, Option, Some, None, Contains, if◌then◌else◌, refl, sym, ap, subst}
use Rattle.std.specs.Prelude.{slice_index}
use Rattle.std.proofs.lemmas.List.Elements.{Contains-push}
use Rattle.std.proofs.lemmas.Option.{none-some}
use Rattle.hp_base.specs.declared.caught.Caught.{Caught}
use Rattle.hp_core.specs.Core.{Core}
use Rattle.hp_core.specs.declared.event.CoreEvent.{CoreEvent}
use Rattle.hp_core.specs.declared.event.CoreEvent.TheVariants.{Poll, SelfMapped}
use Rattle.hp_core.specs.Following.{after_catching, reply_of}
use Rattle.hp_core.specs.declared.out.Out.{Out}
use Rattle.hp_frame.specs.declared.frame.Frame.{Frame}
use Rattle.hp_frame.specs.declared.message.Body.{Body}
use Rattle.hp_hall.specs.Mail.{Fetches, MailStep, Notes}
use Rattle.hp_hall.specs.declared.note.Note.{Note}
use Rattle.hp_hall.specs.declared.note.Note.TheVariants.{Loaded, Read}
use Rattle.hp_maps.specs.MapsView.{MapsView}
use Rattle.hp_segs.specs.SegsView.{SegsView, is_member}
use Rattle.hp_proc.specs.Courses.{Standing}
use Rattle.hp_proc.specs.Denying.{denials_of}
use Rattle.hp_serve.specs.Denials.{Denials, nobody_denies}
use Rattle.hp_serve.specs.Coordinating.{IsAnswered, IsCarried, IsCoreServed, IsHanded, IsHandled, IsMapped, IsFrameHandled, IsPolled, IsRested, IsServed, IsSettled, MayDeny, loads_of, stepping, with_core}
use Rattle.hp_serve.specs.Party.{Party, after_reply}
use Rattle.hp_serve.specs.Serving.{IsFollowed, IsDispatched, IsMemberServed, IsTold, FollowsAndReplies, after_catching_up, gives_segments, hearing, takes_segments, tells_after_catching}
use Rattle.thm_run.specs.Seats.{Handles, Knows, Mails, SeatTrace, Quietly, Seat, seated}
use Rattle.thm_run.proofs.PathSteps.Paths.{Serves, ServesFrom, ServesWith, path_handle, path_mail, path_notes, path_quiet, path_then, serves_behind, serves_here, serves_noted, serves_notes, serves_quietly, serves_then, serves_to, told_notes, told_of}
use Rattle.thm_run.proofs.PathSteps.PathsPosting.{posted_path}

-- where it was taken and this done
taken_and : (taken : SegsView) (steps more rest : List MailStep) → steps ≡ takes_segments taken ∷ more → more ≡ rest
    → steps ≡ takes_segments taken ∷ rest
taken_and taken steps more rest did next = did ∙ ap (λ (more : List MailStep). takes_segments taken ∷ more) next

given_and : (before : List MailStep) (one other : SegsView) (step next : MailStep) → one ≡ other → step ≡ next
    → before ++ (gives_segments one ∷ step ∷ []) ≡ before ++ (gives_segments other ∷ next ∷ [])
given_and before one other step next same is = cc

-- WHAT ITS COORDINATOR DOES

-- its coordinator made a step by an answer that its judge may give, so far as the steps show
record IsStepped (denies : Denials) (event : CoreEvent) (core next : Core) (taken : SegsView) (more : List MailStep) : Type 0 where
  denied : Option (List ℕ × ℕ)
  may : MayDeny denies event core taken denied
  core_is : next ≡ (stepping denied event core taken).core
  did : more ≡ gives_segments (stepping denied event core taken).segs ∷ []

handed_stepped : (denies : Denials) (event : CoreEvent) (core next : Core) (taken : SegsView) (more : List MailStep) (answer : Out)
    → IsHanded denies event core next taken more (Some answer) → IsStepped denies event core next taken more
handed_stepped denies event core next taken more answer (IsHanded.handed denied may did next_is is) =
    record { denied = denied; may = may; core_is = next_is; did = did }
handed_stepped denies event core next taken more answer (IsHanded.no_room did next_is is) = absurd (none-some answer (sym is))

-- where it says that it has caught up no judge is asked
record IsUnasked (caught : Caught) (now : ℕ) (core next : Core) (taken : SegsView) (more : List MailStep) : Type 0 where
  core_is : next ≡ (stepping None (SelfMapped caught now) core taken).core
  did : more ≡ gives_segments (stepping None (SelfMapped caught now) core taken).segs ∷ []

unasked_stepped : (caught : Caught) (now : ℕ) (core next : Core) (taken : SegsView) (more : List MailStep) (answer : Out)
    → IsHanded nobody_denies (SelfMapped caught now) core next taken more (Some answer) → IsUnasked caught now core next taken more
unasked_stepped caught now core next taken more answer is =
    let by = handed_stepped nobody_denies (SelfMapped caught now) core next taken more answer is in
    record {
      core_is = by.core_is ∙ ap (λ denied. (stepping denied (SelfMapped caught now) core taken).core) by.may;
      did = by.did ∙ ap (λ denied. gives_segments (stepping denied (SelfMapped caught now) core taken).segs ∷ []) by.may;
    }

-- what it notes before its step, for which it has caught up
abbrev before_mapped : Caught → ℕ → ℕ → ℕ → List Note
before_mapped caught records own now = told_of caught records ++ (Loaded 0 own ∷ Read now ∷ [])

-- so its notes stand between the taking and the giving
noted_and : (caught : Caught) (records own now : ℕ) (more given : List MailStep) → more ≡ given
    → tells_after_catching caught records ++ (Notes (Loaded 0 own) ∷ Notes (Read now) ∷ more)
    ≡ map Notes (before_mapped caught records own now) ++ given
noted_and caught records own now more given is =
    ap (λ (more : List MailStep). tells_after_catching caught records ++ (Notes (Loaded 0 own) ∷ Notes (Read now) ∷ more)) is
    ∙ told_notes caught records (Loaded 0 own ∷ Read now ∷ []) given

module _ (count who : ℕ) (primary : who ≡ 0) where
  -- it catches up for its coordinator
  mapped_path : (party after : Party) (steps : List MailStep) (answer : Out) → IsMapped party after steps (Some answer)
      → ServesFrom count who party after steps
  mapped_path party after steps answer
      (IsMapped.maps core next taken caught table own now more core_is did caught_up is_handed after_is) seat =
      let stepped = unasked_stepped caught now core next taken more answer is_handed in
      let held = before_mapped caught (length taken.log) own now in
      let new : Party = with_core (stepping None (SelfMapped caught now) core taken).core (after_catching_up taken.log caught table party) in
      serves_to count who party new after _ steps seat
      (after_is ∙ ap (λ (core : Core). with_core core (after_catching_up taken.log caught table party)) stepped.core_is)
      (taken_and taken steps _ _ did (noted_and caught (length taken.log) own now more _ stepped.did))
      (record {
        behind = seat;
        me = refl;
        deadline = refl;
        asked = refl;
        standing = refl;
        lines = refl;
        trace = refl;
        path = SeatTrace.handles (seated party seat) (seated new seat) (seated new seat) taken _ held []
            (Handles.maps (seated party seat) taken caught table now core primary core_is caught_up) (SeatTrace.ends (seated new seat));
      })
  mapped_path party after steps answer (IsMapped.worn taken is_worn did after_is none) seat = absurd (none-some answer (sym none))

  settled_path : (party after : Party) (answer : Out) (steps : List MailStep) → IsSettled count party after answer steps true
      → ServesFrom count who party after steps
  settled_path party after answer steps (IsSettled.posts posted is) = posted_path count who party after answer steps posted
  settled_path party after answer steps (IsSettled.stops must mapped is) = absurd (true≢false is)

  carried_path : (mids : List Party) (party after : Party) (answer : Out) (steps : List MailStep)
      → IsCarried count mids party after answer steps true → ServesFrom count who party after steps
  carried_path [] party after answer steps is seat = settled_path party after answer steps is seat
  carried_path (mid ∷ mids) party after answer steps is seat =
      let here = mapped_path party mid is.1 is.0 is.5 seat in
      serves_to count who party after after (is.1 ++ is.2) steps seat refl is.3
      (serves_then count who party mid after is.1 is.2 seat here (carried_path mids mid after is.0 is.2 is.6 here.behind))

-- an event that it knows is handed to its coordinator, whose judge denies by what its lines left
module _ (count who : ℕ) (left : Standing) (primary : who ≡ 0) where
  handled_path : (event : CoreEvent) (party after : Party) (steps : List MailStep)
      → IsHandled (denials_of left) count event party after steps true
      → (seat : Seat) → seat.standing ≡ left → Knows count (seated party seat) event → Serves count who party after steps seat
  handled_path event party after steps (IsHandled.carries core next answer mids first more core_is hands carried did) seat same knows =
      let stepped = handed_stepped (denials_of left) event core next hands.taken hands.more answer hands.is_handed in
      let new : Party = with_core (stepping stepped.denied event core hands.taken).core party in
      let here =
      serves_to count who party new (with_core next party) _ first seat
      (ap (λ (core : Core). with_core core party) stepped.core_is) (taken_and hands.taken first hands.more _ hands.begins stepped.did)
      (record {
        behind = seat;
        me = refl;
        deadline = refl;
        asked = refl;
        standing = refl;
        lines = refl;
        trace = refl;
        path = path_handle count who (seated party seat) (seated new seat) hands.taken _
            (Handles.steps (seated party seat) hands.taken event core primary core_is knows stepped.denied
            (subst (λ (standing : Standing). MayDeny (denials_of standing) event core hands.taken stepped.denied) (sym same) stepped.may));
      }) in
      serves_to count who party after after (first ++ more) steps seat refl did
      (serves_then count who party (with_core next party) after first more seat here
      (carried_path count who primary mids (with_core next party) after answer more carried here.behind))
  handled_path event party after steps (IsHandled.stops core next core_is hands after_is is) seat same knows = absurd (true≢false is)

-- it looks up the numbers of so many
module _ (count who hall : ℕ) (acks : List ℕ) where
  noted_if : (is : Bool) (note : Note) (seat : Seat) → SeatTrace count who seat seat (if is then Notes note ∷ [] else [])
  noted_if true note seat = path_notes count who seat (note ∷ [])
  noted_if false note seat = SeatTrace.ends seat

  loads_path : (n : ℕ) (seat : Seat) → SeatTrace count who seat seat (loads_of hall acks n)
  unfolding loads_of
  loads_path zero seat = SeatTrace.ends seat
  loads_path (suc n) seat =
      path_then count who seat seat seat (loads_of hall acks n) _ (loads_path n seat)
      (noted_if (nat_lt n hall) (Loaded n (slice_index acks n)) seat)

-- it polls its coordinator
module _ (count who : ℕ) (left : Standing) (primary : who ≡ 0) where
  polled_path : (now : ℕ) (party after : Party) (steps : List MailStep) → IsPolled (denials_of left) count now party after steps true
      → ServesWith left count who party after steps
  polled_path now party after steps polled seat same =
      serves_to count who party after after (loads_of count polled.acks 16 ++ polled.more) steps seat refl
      (polled.are ∙ ap (λ (looks : List MailStep). looks ++ polled.more) polled.looked_up.looked_up)
      (serves_behind count who party after (loads_of count polled.acks 16) polled.more seat seat refl refl refl
      (loads_path count who count polled.acks 16 (seated party seat))
      (handled_path count who left primary (Poll now polled.acks) party after polled.more polled.handled seat same
      (Knows.polls now polled.acks)))

-- WHAT IT FETCHES

-- it has fetched a frame
abbrev fetched_by : Frame → Seat → Seat
fetched_by frame seat = record seat { fetched = seat.fetched ++ frame ∷ [] }

module _ (count who : ℕ) where
  -- it heard its answer, or not
  hears_path : (party after : Party) (body : Body) (steps : List MailStep) → after ≡ hearing body party → steps ≡ []
      → ServesFrom count who party after steps
  hears_path party after body steps after_is did seat =
      serves_to count who party (hearing body party) after [] steps seat after_is did
      (serves_quietly count who party (hearing body party) seat refl refl refl
      (Quietly.hears (seated party seat) (hearing body party).answered))

  -- what it does after a frame, or after none
  frame_behind : (party after : Party) (frame : Frame) (more steps : List MailStep) (seat : Seat) → steps ≡ Fetches (Some frame) ∷ more
      → Serves count who party after more (fetched_by frame seat) → Serves count who party after steps seat
  frame_behind party after frame more steps seat did next =
      serves_to count who party after after _ steps seat refl did
      (serves_behind count who party after (Fetches (Some frame) ∷ []) more seat (fetched_by frame seat) refl refl refl
      (path_mail count who (seated party seat) (seated party (fetched_by frame seat)) (Fetches (Some frame))
      (Mails.fetches (seated party seat) frame)) next)

  none_behind : (party after : Party) (more steps : List MailStep) (seat : Seat) → steps ≡ Fetches None ∷ more
      → Serves count who party after more seat → Serves count who party after steps seat
  none_behind party after more steps seat did next =
      serves_to count who party after after _ steps seat refl did
      (serves_behind count who party after (Fetches None ∷ []) more seat seat refl refl refl
      (path_mail count who (seated party seat) (seated party seat) (Fetches None) (Mails.finds_nothing (seated party seat))) next)

module _ (count who : ℕ) (left : Standing) (primary : who ≡ 0) where
  answered_path : (party after : Party) (body : Body) (steps : List MailStep)
      → IsAnswered (denials_of left) count party after body steps true
      → ServesWith left count who party after steps
  answered_path party after body steps (IsAnswered.polls due now more reply due_is did polled) seat same =
      serves_noted count who party after (Read now ∷ []) more steps seat did
      (polled_path count who left primary now party after more polled seat same)
  answered_path party after body steps (IsAnswered.rests reply none did after_is goes_is) seat same =
      serves_here count who party after steps after_is did seat
  answered_path party after body steps (IsAnswered.hears reply did after_is goes_is) seat same =
      hears_path count who party after body steps after_is did seat

  obeyed_path : (party after : Party) (frame : Frame) (steps : List MailStep)
      → IsFrameHandled (denials_of left) count party after frame steps true
      → (seat : Seat) → seat.standing ≡ left → Contains seat.fetched frame → Serves count who party after steps seat
  obeyed_path party after frame steps (IsFrameHandled.drops says did after_is goes_is) seat same there =
      serves_here count who party after steps after_is did seat
  obeyed_path party after frame steps (IsFrameHandled.asks body event says ask handled) seat same there =
      handled_path count who left primary event party after steps handled seat same (Knows.takes frame body event there says ask)
  obeyed_path party after frame steps (IsFrameHandled.others body says none answered) seat same there =
      answered_path party after body steps answered seat same

  rested_path : (party after : Party) (steps : List MailStep) (moved : Bool)
      → IsRested (denials_of left) count party after steps (Some moved)
      → ServesWith left count who party after steps
  rested_path party after steps moved (IsRested.rests now holds early did after_is is) seat same =
      serves_to count who party party after _ steps seat after_is did (serves_notes count who party (Read now ∷ []) seat)
  rested_path party after steps moved (IsRested.polls now more true due did polled is) seat same =
      serves_noted count who party after (Read now ∷ []) more steps seat did
      (polled_path count who left primary now party after more polled seat same)
  rested_path party after steps moved (IsRested.polls now more false due did polled is) seat same = absurd (none-some moved (sym is))

  -- one serving of participant 0 that did not stop
  core_path : (party after : Party) (steps : List MailStep) (moved : Bool)
      → IsCoreServed (denials_of left) count party after steps (Some moved)
      → ServesWith left count who party after steps
  core_path party after steps moved (IsCoreServed.rests more did rested) seat same =
      none_behind count who party after more steps seat did (rested_path party after more moved rested seat same)
  core_path party after steps moved (IsCoreServed.heeds frame more true did obeyed is) seat same =
      frame_behind count who party after frame more steps seat did
      (obeyed_path party after frame more obeyed (fetched_by frame seat) same (Contains-push seat.fetched frame))
  core_path party after steps moved (IsCoreServed.heeds frame more false did obeyed is) seat same = absurd (none-some moved (sym is))

-- WHAT A SYNC MAKES OF IT

module _ (count who : ℕ) where
  -- a member obeys: it catches up with the log, gives the value back and posts its reply
  obeys_path : (party after : Party) (taken : SegsView) (more : List MailStep) → party.me ≡ who → is_member taken.roster party.me ≡ true
      → FollowsAndReplies party after taken more → ServesFrom count who party after (takes_segments taken ∷ more)
  obeys_path party after taken more me member obeys seat =
      let table : MapsView = after.maps in
      let mid : Party = after_catching_up taken.log obeys.caught table party in
      let new : Party = after_reply mid in
      let its : is_member taken.roster who ≡ true = ap (is_member taken.roster) (sym me) ∙ member in
      let records : ℕ = length taken.log in
      let handles = Handles.follows (seated party seat) taken obeys.caught table its obeys.caught_up in
      let counts = path_quiet count who (seated mid seat) (seated new seat) (Quietly.counts (seated mid seat) new.sent) in
      let speaks =
      SeatTrace.mails (seated mid seat) (seated mid seat) (seated new seat) _ []
      (Mails.speaks (seated mid seat) 0 obeys.replied.frame (reply_of party.me obeys.caught taken) _ obeys.replied.posted tt
      obeys.replied.says) counts in
      let did =
      taken_and taken (takes_segments taken ∷ more) more _ refl
      (obeys.done
      ∙ given_and (tells_after_catching obeys.caught records) (after_catching party.me obeys.caught taken)
      (after_catching who obeys.caught taken) obeys.reply _
      (ap (λ (n : ℕ). after_catching n obeys.caught taken) me) obeys.replied.posts
      ∙ told_notes obeys.caught records [] _) in
      serves_to count who party new after _ (takes_segments taken ∷ more) seat obeys.after_is did
      (record {
        behind = seat;
        me = refl;
        deadline = refl;
        asked = refl;
        standing = refl;
        lines = refl;
        trace = refl;
        path = SeatTrace.handles (seated party seat) (seated mid seat) (seated new seat) taken (after_catching who obeys.caught taken)
            (told_of obeys.caught records ++ []) _ handles speaks;
      })

  followed_path : (party after : Party) (taken : SegsView) (more : List MailStep) → party.me ≡ who → IsFollowed party after taken more true
      → ServesFrom count who party after (takes_segments taken ∷ more)
  followed_path party after taken more me (IsFollowed.obeys member obeys is) seat = obeys_path party after taken more me member obeys seat
  followed_path party after taken more me (IsFollowed.is_out out did after_is is) seat =
      serves_to count who party party after _ (takes_segments taken ∷ more) seat after_is
      (taken_and taken (takes_segments taken ∷ more) more _ refl did)
      (record {
        behind = seat;
        me = refl;
        deadline = refl;
        asked = refl;
        standing = refl;
        lines = refl;
        trace = refl;
        path = path_handle count who (seated party seat) (seated party seat) taken taken (Handles.looks (seated party seat) taken);
      })
  followed_path party after taken more me (IsFollowed.is_worn member worn did after_is is) seat = absurd (true≢false is)

  told_path : (party after : Party) (body : Body) (steps : List MailStep) → party.me ≡ who → IsTold party after body steps true
      → ServesFrom count who party after steps
  told_path party after body steps me (IsTold.hears reply did after_is is) seat =
      hears_path count who party after body steps after_is did seat
  told_path party after body steps me (IsTold.follows taken more sync did followed) seat =
      serves_to count who party after after (takes_segments taken ∷ more) steps seat refl did
      (followed_path party after taken more me followed seat)

  heeded_path : (party after : Party) (frame : Frame) (steps : List MailStep) → party.me ≡ who → IsDispatched party after frame steps true
      → ServesFrom count who party after steps
  heeded_path party after frame steps me (IsDispatched.drops says did after_is is) seat =
      serves_here count who party after steps after_is did seat
  heeded_path party after frame steps me (IsDispatched.tells body says told) seat = told_path party after body steps me told seat

  -- one serving of a participant without a coordinator that did not stop
  member_path : (party after : Party) (steps : List MailStep) (moved : Bool) → party.me ≡ who
      → IsMemberServed party after steps (Some moved) → ServesFrom count who party after steps
  member_path party after steps moved me (IsMemberServed.rests did after_is is) seat =
      none_behind count who party after [] steps seat did (serves_here count who party after [] after_is refl seat)
  member_path party after steps moved me (IsMemberServed.heeds frame more true did heeded is) seat =
      frame_behind count who party after frame more steps seat did (heeded_path party after frame more me heeded (fetched_by frame seat))
  member_path party after steps moved me (IsMemberServed.heeds frame more false did heeded is) seat = absurd (none-some moved (sym is))

-- one serving of a participant that did not stop, by a judge that denies by what its lines left
module _ (count who : ℕ) (left : Standing) where
  pub serving_path : (party after : Party) (steps : List MailStep) (moved : Bool) → party.me ≡ who
      → IsServed (denials_of left) count party after steps (Some moved) → ServesWith left count who party after steps
  serving_path party after steps moved me (IsServed.coordinates primary served) seat same =
      core_path count who left (sym me ∙ primary) party after steps moved served seat same
  serving_path party after steps moved me (IsServed.follows other served) seat same =
      member_path count who party after steps moved me served seat
