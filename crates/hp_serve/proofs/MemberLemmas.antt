-- A member's serving, put together of what its parts say.
use Rattle.std.proofs.Common.{◌≡◌, ◌≢◌, ℕ, ◌+◌, ◌*◌, ◌≤◌, ◌||◌, ◌==◌, ◌++◌, Bool, true, false, List, [], ◌∷◌, length, inl, inr, refl, sym, ap, ◌∙◌, subst, arith, eq-eqb, if◌then◌else◌}
use Rattle.std.proofs.lemmas.Bool.{cases_Bool, eqb-true}
use Rattle.std.proofs.Math.Nat.{mul-add, mul-le-mul_left}
use Rattle.hp_base.specs.Mapping.{is_done}
use Rattle.hp_base.specs.Plans.{action_of}
use Rattle.hp_base.specs.Telling.{Listener}
use Rattle.hp_base.specs.declared.caught.Caught.{Caught}
use Rattle.hp_base.specs.declared.plan_entry.MsgKind.TheVariants as message
use Rattle.hp_core.specs.Following.{after_catching, reply_of}
use Rattle.hp_frame.specs.declared.frame.Frame.{Frame}
use Rattle.hp_frame.specs.declared.message.Body.{Body}
use Rattle.hp_frame.specs.declared.message.Body.TheVariants.{Alloc, Free, Sync, Answer}
use Rattle.hp_hall.specs.Mail.{Posts}
use Rattle.hp_hall.specs.Measures.{frame_measure}
use Rattle.hp_mail.specs.declared.posted.Posted.{Posted}
use Rattle.hp_maps.specs.MapsView.{MapsView}
use Rattle.hp_segs.specs.SegsView.{SegsView, is_member}
use Rattle.hp_serve.proofs.Weighs.{answer_weighs, some_measure, sync_weighs}
use Rattle.hp_serve.specs.Frames.{Says}
use Rattle.hp_serve.specs.Party.{Party, after_reply, one_more}
use Rattle.hp_serve.specs.Serving.{CatchesUp, IsFollowed, FollowsAndReplies, tells_after_catching, told_of, after_catching_up, gives_segments, is_reply, is_sync, obeys}

-- what holds at one number and at each other one holds at all
pub at_each : (P : ℕ → Type 0) (k : ℕ) → P k → ((n : ℕ) → n ≢ k → P n) → (n : ℕ) → P n
at_each P k here others n =
    elim (cases_Bool (n == k)) [
      | inl is ↦ subst P (sym (eqb-true n k is)) here
      | inr other ↦
          others n (λ same.
          let is : true ≡ false = sym (eq-eqb n k same) ∙ other in
          cc)
    ]

-- a member that has caught up, acknowledged that or noted a failure, given the value back and posted its reply has obeyed
pub obeyed : (party after : Party) (taken : SegsView) (ended : Caught) (frame : Frame) (posted : Posted)
    → Says frame (reply_of party.me ended taken) → CatchesUp taken.log party.maps after.maps ended
    → after ≡ after_reply (after_catching_up taken.log ended after.maps party)
    → FollowsAndReplies party after taken
    (tells_after_catching ended (length taken.log) ++ (gives_segments (after_catching party.me ended taken)
    ∷ Posts 0 frame (action_of party.plan message.Reply party.me (one_more party.sent.replies)) posted ∷ []))
obeyed party after taken ended frame posted says caught_up after_is = record {
  caught = ended;
  caught_up = caught_up;
  reply = Posts 0 frame (action_of party.plan message.Reply party.me (one_more party.sent.replies)) posted;
  replied = record { frame = frame; posted = posted; says = says; posts = refl };
  done = refl;
  after_is = after_is;
}

-- a member of the roster that has obeyed has followed, with what it was before after another name
pub has_followed : (party inside : Party) (taken : SegsView) (ended : Caught) (maps : MapsView) (listeners : List Listener) (joined : Bool)
    (replies : ℕ) (frame : Frame) (posted : Posted) → inside ≡ party → is_member taken.roster inside.me ≡ true
    → Says frame (reply_of inside.me ended taken)
    → CatchesUp taken.log inside.maps maps ended → listeners ≡ told_of taken.log ended inside.maps inside.listeners
    → joined ≡ (inside.joined || is_done ended) → replies ≡ one_more inside.sent.replies
    → IsFollowed party
    (record inside { joined = joined; maps = maps; listeners = listeners; sent = record inside.sent { replies = replies } }) taken
    (tells_after_catching ended (length taken.log) ++ (gives_segments (after_catching inside.me ended taken)
    ∷ Posts 0 frame (action_of inside.plan message.Reply inside.me (one_more inside.sent.replies)) posted ∷ []))
    true
has_followed party inside taken ended maps listeners joined replies frame posted same member says caught_up heard joined_is replies_is =
    let left : List Listener → Bool → ℕ → Party =
    λ l j r. record inside { joined = j; maps = maps; listeners = l; sent = record inside.sent { replies = r } } in
    let told : List Listener = told_of taken.log ended inside.maps inside.listeners in
    let after_is =
    ap (λ l. left l joined replies) heard
    ∙ (ap (λ j. left told j replies) joined_is ∙ ap (λ r. left told (inside.joined || is_done ended) r) replies_is) in
    let steps =
    tells_after_catching ended (length taken.log) ++ (gives_segments (after_catching inside.me ended taken)
    ∷ Posts 0 frame (action_of inside.plan message.Reply inside.me (one_more inside.sent.replies)) posted ∷ []) in
    subst (λ party. IsFollowed party (left listeners joined replies) taken steps true) same
    (obeys member (obeyed inside (left listeners joined replies) taken ended frame posted says caught_up after_is) refl)

-- a reply weighs 1
pub reply_weighs : (frame : Frame) (body : Body) → is_reply body ≡ true → Says frame body → frame_measure frame ≡ 1
reply_weighs frame (Alloc from number heap socket page size align bound flags) is says = cc
reply_weighs frame (Free from number heap address len) is says = cc
reply_weighs frame (Sync generation round) is says = cc
reply_weighs frame (Answer from number what code) is says = answer_weighs frame from number what code says

-- what a message may bring into mailboxes: the reply to a SYNC, which may come twice
abbrev brings : Bool → ℕ
brings sync = if sync then 2 else 0

-- a frame weighs more than what its message brings
pub weighs_more : (frame : Frame) (body : Body) → Says frame body → brings (is_sync body) + 1 ≤ frame_measure frame
weighs_more frame (Alloc from number heap socket page size align bound flags) says = some_measure frame
weighs_more frame (Free from number heap address len) says = some_measure frame
weighs_more frame (Sync generation round) says = omega (arith, sync_weighs frame generation round says)
weighs_more frame (Answer from number what code) says = some_measure frame

-- so the number falls by the scale
pub falls_by : (scale brought measure old new : ℕ) → brought + 1 ≤ measure → new ≤ old + scale * brought → new + scale ≤ old + scale * measure
falls_by scale brought measure old new more most =
    let all : scale * (brought + 1) ≤ scale * measure = mul-le-mul_left scale more in
    omega (arith, all, most, mul-add scale brought 1)
