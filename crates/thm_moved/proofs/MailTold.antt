-- What participant 0 fetched of notices was told by the participants that they name, where each frame that it fetched was posted to it.
use Rattle.std.proofs.Common.{◌≡◌, ◌⊎◌, ◌==◌, ℕ, ◌+◌, Bool, true, false, cond, List, [], ◌∷◌, ◌++◌, map, replicate, Some, Contains, inl, inr, ⊎_elim, refl, ap, sym, subst}
use Rattle.std.proofs.lemmas.List.Elements.{All-contains, All-replicate, Contains-append_cases, Contains-append_right}
use Rattle.hp_base.specs.declared.plan.Action.{Action}
use Rattle.hp_base.specs.declared.row.Run.{Run}
use Rattle.hp_chair.specs.Steps.{posted_to, posts_to}
use Rattle.hp_frame.specs.declared.frame.Frame.{Frame}
use Rattle.hp_frame.specs.declared.message.Body.{Body}
use Rattle.hp_frame.specs.declared.message.Body.TheVariants.{Free}
use Rattle.hp_hall.specs.Mail.{Fetches, Gives, MailStep, Notes, Posts, Takes}
use Rattle.hp_hall.specs.declared.note.Note.{Note}
use Rattle.hp_heap.proofs.AllocFacts.ChoiceLaw.{Contains-cases, Contains-here, Contains-none, Contains-there}
use Rattle.hp_mail.specs.PassView.{copies}
use Rattle.hp_mail.specs.declared.posted.Posted.{Posted}
use Rattle.hp_segs.specs.SegsView.{SegsView}
use Rattle.hp_serve.specs.Asking.{alloc_body, free_body}
use Rattle.hp_serve.specs.Frames.{Says}
use Rattle.hp_serve.specs.Serving.{gives_segments, takes_segments}
use Rattle.thm_run.proofs.TracesTold.Posts.{says_one}
use Rattle.thm_run.specs.Seats.{AsksNothing, Handles, IsOfHeapOrNames, Mails, SeatTrace, Quietly, Seat}
use Rattle.thm_run.specs.Told.{TellsIn}

-- WHAT WAS FETCHED

quietly_fetched : {old new : Seat} → Quietly old new → new.fetched ≡ old.fetched
quietly_fetched (Quietly.hears seat answered) = refl
quietly_fetched _ = refl

handles_fetched : {count who : ℕ} {old new : Seat} {taken given : SegsView} → Handles count who old new taken given
    → new.fetched ≡ old.fetched
handles_fetched (Handles.looks seat segs) = refl
handles_fetched _ = refl

mails_fetched : {who : ℕ} {old new : Seat} {step : MailStep} → Mails who old new step → (frame : Frame) → Contains new.fetched frame
    → Contains old.fetched frame ⊎ (step ≡ Fetches (Some frame))
mails_fetched (Mails.notes seat note) frame among = inl among
mails_fetched (Mails.finds_nothing seat) frame among = inl among
mails_fetched (Mails.fetches seat other) frame among =
    ⊎_elim (λ (early : Contains seat.fetched frame). inl early)
    (λ (late : Contains (other ∷ []) frame).
    ⊎_elim (λ (same : other ≡ frame). inr (ap (λ one. Fetches (Some one)) same))
    (λ (none : Contains [] frame). absurd (Contains-none frame none)) (Contains-cases other frame [] late))
    (Contains-append_cases seat.fetched (other ∷ []) frame among)
mails_fetched (Mails.asks seat ask other action posted its says) frame among = inl among
mails_fetched (Mails.tells seat heap run other action posted says) frame among = inl among
mails_fetched (Mails.speaks seat to other body action posted nothing says) frame among = inl among

-- what was fetched by a path had been fetched, or is among its steps
fetched_by : {count who : ℕ} {old new : Seat} {steps : List MailStep} → SeatTrace count who old new steps → (frame : Frame)
    → Contains new.fetched frame → Contains old.fetched frame ⊎ Contains steps (Fetches (Some frame))
fetched_by (SeatTrace.ends seat) frame among = inl among
fetched_by (SeatTrace.quietly old mid new steps did path) frame among =
    ⊎_elim (λ (early : Contains mid.fetched frame). inl (subst (λ frames. Contains frames frame) (quietly_fetched did) early))
    (λ (late : Contains steps (Fetches (Some frame))). inr late) (fetched_by path frame among)
fetched_by (SeatTrace.holds old new step steps of_heap path) frame among =
    ⊎_elim (λ (early : Contains old.fetched frame). inl early)
    (λ (late : Contains steps (Fetches (Some frame))). inr (Contains-there step (Fetches (Some frame)) steps late)) (fetched_by path frame among)
fetched_by (SeatTrace.mails old mid new step steps did path) frame among =
    ⊎_elim
    (λ (early : Contains mid.fetched frame).
    ⊎_elim (λ (before : Contains old.fetched frame). inl before)
    (λ (is : step ≡ Fetches (Some frame)).
    inr (subst (λ one. Contains (one ∷ steps) (Fetches (Some frame))) (sym is) (Contains-here (Fetches (Some frame)) steps)))
    (mails_fetched did frame early))
    (λ (late : Contains steps (Fetches (Some frame))). inr (Contains-there step (Fetches (Some frame)) steps late)) (fetched_by path frame among)
fetched_by (SeatTrace.handles old mid new taken given held steps did path) frame among =
    ⊎_elim (λ (early : Contains mid.fetched frame). inl (subst (λ frames. Contains frames frame) (handles_fetched did) early))
    (λ (late : Contains steps (Fetches (Some frame))).
    inr
    (Contains-there (takes_segments taken) (Fetches (Some frame)) (map Notes held ++ (gives_segments given ∷ steps))
    (Contains-append_right (map Notes held) (gives_segments given ∷ steps) (Fetches (Some frame))
    (Contains-there (gives_segments given) (Fetches (Some frame)) steps late)))) (fetched_by path frame among)

-- from where nothing was fetched
pub fetched_in : {count who : ℕ} {old new : Seat} {steps : List MailStep} → SeatTrace count who old new steps → old.fetched ≡ []
    → (frame : Frame) → Contains new.fetched frame → Contains steps (Fetches (Some frame))
fetched_in {count} {who} {old} {new} {steps} path none frame among =
    ⊎_elim
    (λ (early : Contains old.fetched frame). absurd (Contains-none frame (subst (λ frames. Contains frames frame) none early)))
    (λ (late : Contains steps (Fetches (Some frame))). late) (fetched_by path frame among)

-- WHAT WAS POSTED

-- what came of a post is its frame
either_same : (here : Bool) (times : ℕ) (other frame : Frame) → Contains (cond here (replicate times other) []) frame → frame ≡ other
either_same true times other frame among =
    All-contains (λ (one : Frame). one ≡ other) (replicate times other) frame (All-replicate (λ (one : Frame). one ≡ other) times other refl)
    among
either_same false times other frame among = absurd (Contains-none frame among)

post_same : (to : ℕ) (other frame : Frame) (action : Action) (posted : Posted) → Contains (posts_to 0 (Posts to other action posted)) frame
    → frame ≡ other
post_same to other frame action posted among = either_same (to == 0) (copies posted) other frame among

-- a participant told of a run in one step more
tells_before : {who number : ℕ} (step : MailStep) (steps : List MailStep) → TellsIn who number steps → TellsIn who number (step ∷ steps)
tells_before step steps tells = record {
  heap = tells.heap;
  run = tells.run;
  frame = tells.frame;
  action = tells.action;
  posted = tells.posted;
  there = Contains-there step (Posts 0 tells.frame tells.action tells.posted) steps tells.there;
  says = tells.says;
}

tells_after : {who number : ℕ} (first steps : List MailStep) → TellsIn who number steps → TellsIn who number (first ++ steps)
tells_after [] steps tells = tells
tells_after (step ∷ first) steps tells = tells_before step (first ++ steps) (tells_after first steps tells)

heap_posts : (step : MailStep) → IsOfHeapOrNames step → posts_to 0 step ≡ []
heap_posts (Posts to frame action posted) is = absurd is
heap_posts (Fetches frame) is = refl
heap_posts (Takes slot kept) is = refl
heap_posts (Gives slot kept) is = refl
heap_posts (Notes note) is = refl

notes_post : (held : List Note) (steps : List MailStep) → posted_to 0 (map Notes held ++ steps) ≡ posted_to 0 steps
notes_post [] steps = refl
notes_post (note ∷ held) steps = notes_post held steps

module _ (frame : Frame) (from number heap address len : ℕ) (says : Says frame (Free from number heap address len)) where
  -- a notice is of the participant that tells it
  record IsTold (who : ℕ) (steps : List MailStep) : Type 0 where
    same : from ≡ who
    tells : TellsIn who number steps

  -- a frame that was posted says one thing
  its_body : (other : Frame) (body : Body) → frame ≡ other → Says other body → Free from number heap address len ≡ body
  its_body other body same its = says_one other (Free from number heap address len) body (subst (λ f. Says f (Free from number heap address len)) same says) its

  told_so : (who its heap_of : ℕ) (run : Run) (other : Frame) (action : Action) (posted : Posted) (steps : List MailStep)
      → Free from number heap address len ≡ free_body who its heap_of run → Says other (free_body who its heap_of run)
      → IsTold who (Posts 0 other action posted ∷ steps)
  told_so who its heap_of run other action posted steps body says_it =
      let by : from ≡ who = cc in
      let numbered : number ≡ its = cc in
      record {
        same = by;
        tells = record {
          heap = heap_of;
          run = run;
          frame = other;
          action = action;
          posted = posted;
          there = Contains-here (Posts 0 other action posted) steps;
          says = subst (λ n. Says other (free_body who n heap_of run)) (sym numbered) says_it;
        };
      }

  mail_told : {who : ℕ} {old new : Seat} {step : MailStep} → Mails who old new step → (steps : List MailStep)
      → Contains (posts_to 0 step) frame → IsTold who (step ∷ steps)
  mail_told (Mails.notes seat note) steps among = absurd (Contains-none frame among)
  mail_told (Mails.finds_nothing seat) steps among = absurd (Contains-none frame among)
  mail_told (Mails.fetches seat other) steps among = absurd (Contains-none frame among)
  mail_told (Mails.asks seat ask other action posted armed its) steps among =
      absurd (let body = its_body other (alloc_body ask) (post_same 0 other frame action posted among) its in cc)
  mail_told {who} (Mails.tells seat heap_of run other action posted its) steps among =
      told_so who (seat.party.asked + 1) heap_of run other action posted steps
      (its_body other (free_body who (seat.party.asked + 1) heap_of run) (post_same 0 other frame action posted among) its) its
  mail_told (Mails.speaks seat to other body action posted nothing its) steps among =
      absurd (subst AsksNothing (sym (its_body other body (post_same to other frame action posted among) its)) nothing)

  told_before : {who : ℕ} (step : MailStep) (steps : List MailStep) → IsTold who steps → IsTold who (step ∷ steps)
  told_before step steps told = record { same = told.same; tells = tells_before step steps told.tells }

  posts_told : {count who : ℕ} {old new : Seat} {steps : List MailStep} → SeatTrace count who old new steps → Contains (posted_to 0 steps) frame
      → IsTold who steps
  posts_told (SeatTrace.ends seat) among = absurd (Contains-none frame among)
  posts_told (SeatTrace.quietly old mid new steps did path) among = posts_told path among
  posts_told (SeatTrace.holds old new step steps of_heap path) among =
      told_before step steps
      (posts_told path (subst (λ frames. Contains (frames ++ posted_to 0 steps) frame) (heap_posts step of_heap) among))
  posts_told (SeatTrace.mails old mid new step steps did path) among =
      ⊎_elim (λ (here : Contains (posts_to 0 step) frame). mail_told did steps here)
      (λ (late : Contains (posted_to 0 steps) frame). told_before step steps (posts_told path late))
      (Contains-append_cases (posts_to 0 step) (posted_to 0 steps) frame among)
  posts_told (SeatTrace.handles old mid new taken given held steps did path) among =
      let its = posts_told path (subst (λ frames. Contains frames frame) (notes_post held (gives_segments given ∷ steps)) among) in
      record {
        same = its.same;
        tells =
            tells_before (takes_segments taken) (map Notes held ++ (gives_segments given ∷ steps))
            (tells_after (map Notes held) (gives_segments given ∷ steps) (tells_before (gives_segments given) steps its.tells));
      }

  pub told_by_post : {count who : ℕ} {old new : Seat} {steps : List MailStep} → SeatTrace count who old new steps
      → Contains (posted_to 0 steps) frame → (from ≡ who) × TellsIn who number steps
  told_by_post path among = let its = posts_told path among in (its.same, its.tells)
