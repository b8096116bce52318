-- What mailboxes hold, and what the coordinator is handed out of what it has fetched.
use Rattle.std.proofs.Common.{◌≡◌, ℕ, List, replicate, take, ap, sym, subst}
use Rattle.std.specs.List.{All}
use Rattle.std.proofs.lemmas.List.Elements.{All-append, All-replicate}
use Rattle.hp_core.specs.declared.event.CoreEvent.{CoreEvent}
use Rattle.hp_frame.specs.declared.frame.Frame.{Frame}
use Rattle.hp_frame.specs.declared.message.Body.{Body}
use Rattle.hp_frame.specs.declared.message.Body.TheVariants.{Alloc, Free}
use Rattle.hp_frame.specs.declared.message.Message.{Message}
use Rattle.hp_frame.proofs.SpellingLemmas.{same_message}
use Rattle.hp_plain.specs.Boxes.{box_after, copies}
use Rattle.hp_mail.specs.declared.posted.Posted.{Posted}
use Rattle.hp_segs.specs.declared.ask.Ask.{Ask}
use Rattle.hp_serve.specs.Asking.{alloc_body, free_body}
use Rattle.hp_serve.specs.Coordinating.{IsAskIn, asks, frees}
use Rattle.hp_proc.specs.Doing.{Done}
use Rattle.hp_serve.specs.Frames.{Says, to_handler}
use Rattle.thm_run.proofs.SeatFacts.CoreSteps.{Brings}
use Rattle.thm_run.proofs.Made.{IsPost, IsTaken, WasAsked, WasGivenUp, asking, asks_nothing, telling}
use Rattle.thm_run.specs.Seats.{AsksNothing}

-- a frame says one thing
pub says_one : (frame : Frame) (body other : Body) → Says frame body → Says frame other → body ≡ other
says_one frame body other says speaks =
    ap (λ (message : Message). message.body)
    (same_message (take frame.len frame.bytes) (to_handler body) (to_handler other) says speaks)

-- an ask that is fetched was made
ask_said : (took : ℕ → List Done) (frame : Frame) (ask : Ask) (size align bound flags : ℕ) → IsPost took frame
    → Says frame (Alloc ask.from ask.number ask.heap ask.socket ask.page size align bound flags) → WasAsked took ask.from ask.number
ask_said took frame ask size align bound flags (asks_nothing body nothing speaks) says =
    let same : body ≡ Alloc ask.from ask.number ask.heap ask.socket ask.page size align bound flags =
    says_one frame body (Alloc ask.from ask.number ask.heap ask.socket ask.page size align bound flags) speaks says in
    absurd (subst AsksNothing same nothing)
ask_said took frame ask size align bound flags (asking made speaks was) says =
    let same : alloc_body made ≡ Alloc ask.from ask.number ask.heap ask.socket ask.page size align bound flags =
    says_one frame (alloc_body made) (Alloc ask.from ask.number ask.heap ask.socket ask.page size align bound flags) speaks says in
    let who : made.from ≡ ask.from = cc in
    let which : made.number ≡ ask.number = cc in
    subst (λ from. WasAsked took from ask.number) who (subst (WasAsked took made.from) which was)
ask_said took frame ask size align bound flags (telling from number heap run speaks was) says =
    let wrong : Alloc ask.from ask.number ask.heap ask.socket ask.page size align bound flags ≡ free_body from number heap run =
    says_one frame (Alloc ask.from ask.number ask.heap ask.socket ask.page size align bound flags)
    (free_body from number heap run) says speaks in
    cc

-- a notice that is fetched was given
notice_said : (took : ℕ → List Done) (frame : Frame) (from number heap address len : ℕ) → IsPost took frame
    → Says frame (Free from number heap address len) → WasGivenUp took from number
notice_said took frame from number heap address len (asks_nothing body nothing speaks) says =
    let same : body ≡ Free from number heap address len = says_one frame body (Free from number heap address len) speaks says in
    absurd (subst AsksNothing same nothing)
notice_said took frame from number heap address len (asking made speaks was) says =
    let wrong : Free from number heap address len ≡ alloc_body made =
    says_one frame (Free from number heap address len) (alloc_body made) says speaks in
    cc
notice_said took frame from number heap address len (telling teller given its_heap run speaks was) says =
    let same : free_body teller given its_heap run ≡ Free from number heap address len =
    says_one frame (free_body teller given its_heap run) (Free from number heap address len) speaks says in
    let who : teller ≡ from = cc in
    let which : given ≡ number = cc in
    subst (λ from. WasGivenUp took from number) who (subst (WasGivenUp took teller) which was)

-- what the coordinator is handed out of a frame was asked, or told
pub taken_said : (took : ℕ → List Done) (count : ℕ) (frame : Frame) (body : Body) (event : CoreEvent) → IsPost took frame
    → Says frame body → IsAskIn count body event → Brings (IsTaken took) event
taken_said took count frame body event post says (asks ask size align bound flags is from request event_is) =
    subst (Brings (IsTaken took)) (sym event_is) (ask_said took frame ask size align bound flags post (subst (Says frame) is says))
taken_said took count frame body event post says (frees from number heap address len is below event_is) =
    subst (Brings (IsTaken took)) (sym event_is)
    (notice_said took frame from number heap address len post (subst (Says frame) is says))

-- a mailbox holds such frames alone, also after one more
pub posts_after : (took : ℕ → List Done) (frame : Frame) (posted : Posted) (box : List Frame) → All (IsPost took) box → IsPost took frame
    → All (IsPost took) (box_after frame posted box)
posts_after took frame posted box are post =
    All-append (IsPost took) box (replicate (copies posted) frame) are (All-replicate (IsPost took) (copies posted) frame post)
