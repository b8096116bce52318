-- What frames weigh, by what they say: the rule "Messages" of docs/PARTICIPANTS.md. The first byte of a frame is its kind.
use Rattle.std.proofs.Common.{◌≡◌, ◌∙◌, ap, sym, arith, ℕ, zero, suc, ◌+◌, ◌*◌, ◌≤◌, ◌==◌, ◌||◌, List, [], ◌∷◌, get_or, take, mul-le-mul_left}
use Rattle.std.specs.Prelude.{if◌then◌else◌}
use Rattle.std.proofs.lemmas.Bool.{cond_both}
use Rattle.hp_core.specs.declared.event.CoreEvent.{CoreEvent}
use Rattle.hp_frame.specs.Spelling.{byte_of, kind_of}
use Rattle.hp_frame.specs.declared.frame.Frame.{Frame}
use Rattle.hp_frame.specs.declared.message.Body.{Body}
use Rattle.hp_frame.specs.declared.message.Body.TheVariants.{Alloc, Free, Sync, Answer}
use Rattle.hp_hall.specs.Measures.{frame_measure, kind_measure}
use Rattle.hp_serve.specs.Coordinating.{IsAskIn, asks, frees}
use Rattle.hp_serve.specs.Falling.{brought}
use Rattle.hp_serve.specs.Frames.{Says}

-- the first byte of what stands in front is that of the whole
first_of : (len : ℕ) (bytes : List ℕ) (first : ℕ) (rest : List ℕ) → take len bytes ≡ first ∷ rest → get_or bytes 0 0 ≡ first
first_of zero bytes first rest is = cc
first_of (suc len) [] first rest is = cc
first_of (suc len) (byte ∷ bytes) first rest is = ap (λ (l : List ℕ). get_or l 0 0) is

-- a frame weighs what the kind of its message does
pub says_weighs : (frame : Frame) (body : Body) → Says frame body → frame_measure frame ≡ kind_measure (byte_of (kind_of body))
says_weighs frame body says = ap kind_measure (first_of frame.len frame.bytes (byte_of (kind_of body)) _ says.is_spelling)

pub sync_weighs : (frame : Frame) (generation round : ℕ) → Says frame (Sync generation round) → frame_measure frame ≡ 3
sync_weighs frame generation round says = says_weighs frame (Sync generation round) says

pub answer_weighs : (frame : Frame) (from number what code : ℕ) → Says frame (Answer from number what code) → frame_measure frame ≡ 1
answer_weighs frame from number what code says = says_weighs frame (Answer from number what code) says

pub alloc_weighs : (frame : Frame) (from number heap socket page size align bound flags : ℕ)
    → Says frame (Alloc from number heap socket page size align bound flags) → frame_measure frame ≡ 188
alloc_weighs frame from number heap socket page size align bound flags says =
    says_weighs frame (Alloc from number heap socket page size align bound flags) says

pub free_weighs : (frame : Frame) (from number heap address len : ℕ) → Says frame (Free from number heap address len) → frame_measure frame ≡ 188
free_weighs frame from number heap address len says = says_weighs frame (Free from number heap address len) says

-- an ask weighs 1 more than what it brings
pub ask_weighs : (frame : Frame) (count : ℕ) (body : Body) (event : CoreEvent) → Says frame body → IsAskIn count body event
    → brought event + 1 ≡ frame_measure frame
ask_weighs frame count body event says (asks ask size align bound flags is declared request event_is) =
    ap (λ event. brought event + 1) event_is ∙ sym (ap (λ body. kind_measure (byte_of (kind_of body))) is) ∙ sym (says_weighs frame body says)
ask_weighs frame count body event says (frees from number heap address len is declared event_is) =
    ap (λ event. brought event + 1) event_is ∙ sym (ap (λ body. kind_measure (byte_of (kind_of body))) is) ∙ sym (says_weighs frame body says)

kind_weighs : (kind : ℕ) → 1 ≤ kind_measure kind
kind_weighs kind =
    cond_both ((kind == 1) || (kind == 2)) 188 (if kind == 3 then 3 else 1) (λ measure. 1 ≤ measure)
    (λ _. omega arith)
    (λ _. cond_both (kind == 3) 3 1 (λ measure. 1 ≤ measure) (λ _. omega arith) (λ _. omega arith))

-- every frame weighs something
pub some_measure : (frame : Frame) → 1 ≤ frame_measure frame
some_measure frame = kind_weighs (get_or frame.bytes 0 0)

-- a fetch that takes a frame uses up 1
pub fetched_some : (scale before behind : ℕ) (frame : Frame) → behind + scale * frame_measure frame ≤ before → behind + scale * 1 ≤ before
fetched_some scale before behind frame fell = omega (arith, mul-le-mul_left scale (some_measure frame), fell)

-- a SYNC that is fetched pays for the reply to it, also where that comes twice, and 1 more
pub reply_pays : (scale before between behind : ℕ) (sync reply : Frame) (generation round from number what code : ℕ)
    → Says sync (Sync generation round) → Says reply (Answer from number what code)
    → between + scale * frame_measure sync ≤ before → behind ≤ between + scale * (2 * frame_measure reply) → behind + scale * 1 ≤ before
reply_pays scale before between behind sync reply generation round from number what code says replies fetched posted =
    let three : scale * frame_measure sync ≡ scale * 3 = ap (λ measure. scale * measure) (sync_weighs sync generation round says) in
    let two : scale * (2 * frame_measure reply) ≡ scale * 2 = ap (λ measure. scale * (2 * measure)) (answer_weighs reply from number what code replies) in
    omega (arith, three, two, fetched, posted)
