-- A frame that says a copy of an ask brings that ask, and no answer does.
use Rattle.std.proofs.Common.{◌≡◌, ◌∙◌, ◌⊎◌, ℕ, ◌<◌, true, false, ◌&&◌, ◌==◌, List, Some, None, inl, inr, refl, ap, sym, subst, arith, ◌||◌}
use Rattle.std.specs.List.{list_any}
use Rattle.std.proofs.lemmas.Bool.{and_from, eq-eqb}
use Rattle.std.proofs.lemmas.List.Elements.{All-weaker}
use Rattle.std.proofs.lemmas.List.Folds.{list_any_none}
use Rattle.hp_base.specs.Requests.{refusal_of, rounded_size, raised_align}
use Rattle.hp_core.specs.Asks.{asker, number_of}
use Rattle.hp_core.specs.Outs.{IsAskOf}
use Rattle.hp_core.specs.declared.asked.Asked.{Asked}
use Rattle.hp_core.specs.declared.asked.Asked.TheVariants as want
use Rattle.hp_core.specs.declared.event.CoreEvent.{CoreEvent}
use Rattle.hp_core.proofs.SameAsk.{same_ask}
use Rattle.hp_frame.specs.declared.message.Body.{Body}
use Rattle.hp_frame.specs.declared.message.Body.TheVariants.{Alloc, Answer, Free, Sync}
use Rattle.hp_segs.specs.declared.ask.Ask.{Ask}
use Rattle.hp_serve.specs.Asking.{alloc_body}
use Rattle.hp_serve.specs.Coordinating.{IsAskIn, IsNoAsk, IsRequestOf, answers, asks, frees, is_sync_reply, no_request, syncs, undeclared_asker, undeclared_giver}
use Rattle.hp_serve.specs.Party.{Party}
use Rattle.hp_serve.specs.Serving.{is_answer_to}
use Rattle.thm_causes.specs.RoundTrip.{AreAnswersOrCopies, IsCopy, is_answer, is_call, is_result_of, is_sync}
use Rattle.thm_causes.proofs.CopyStages.CopiesRequests.{not_refused, raised_again, rounded_again}

-- asks of the same numbers are one
same_numbers : (a b : Ask) → a.from ≡ b.from → a.number ≡ b.number → a.heap ≡ b.heap → a.socket ≡ b.socket → a.page ≡ b.page
    → a.request.size ≡ b.request.size → a.request.align ≡ b.request.align → a.request.bound ≡ b.request.bound
    → a.request.flags ≡ b.request.flags → a ≡ b
same_numbers a b from number heap socket page size align bound flags =
    same_ask a b
    (and_from (a.from == b.from) _ (eq-eqb a.from b.from from)
    (and_from (a.number == b.number) _ (eq-eqb a.number b.number number)
    (and_from (a.heap == b.heap) _ (eq-eqb a.heap b.heap heap)
    (and_from (a.socket == b.socket) _ (eq-eqb a.socket b.socket socket)
    (and_from (a.page == b.page) _ (eq-eqb a.page b.page page)
    (and_from (a.request.size == b.request.size) _ (eq-eqb a.request.size b.request.size size)
    (and_from (a.request.align == b.request.align) _ (eq-eqb a.request.align b.request.align align)
    (and_from (a.request.bound == b.request.bound) _ (eq-eqb a.request.bound b.request.bound bound)
    (eq-eqb a.request.flags b.request.flags flags)))))))))

-- an ask is the one of which a message has the numbers
asked_again : (its ask : Ask) (size align bound flags : ℕ)
    → alloc_body its ≡ Alloc ask.from ask.number ask.heap ask.socket ask.page size align bound flags
    → IsRequestOf size align bound flags ask.request → its ≡ ask
asked_again its ask size align bound flags is request =
    let from : its.from ≡ ask.from = cc in
    let number : its.number ≡ ask.number = cc in
    let heap : its.heap ≡ ask.heap = cc in
    let socket : its.socket ≡ ask.socket = cc in
    let page : its.page ≡ ask.page = cc in
    let sizes : its.request.size ≡ size = cc in
    let aligns : its.request.align ≡ align = cc in
    let bounds : its.request.bound ≡ bound = cc in
    let flag_bits : its.request.flags ≡ flags = cc in
    same_numbers its ask from number heap socket page
    (sym (rounded_again its.request.size its.request.align its.request.bound its.request.accepted)
    ∙ (ap rounded_size sizes ∙ sym request.size_is))
    (sym (raised_again its.request.size its.request.align its.request.bound its.request.accepted)
    ∙ (ap raised_align aligns ∙ sym request.align_is))
    (bounds ∙ sym request.bound_is) (flag_bits ∙ sym request.flags_are)

-- the event of a frame that says a copy of an ask is that ask
pub copy_is_asked : (count : ℕ) (call : Asked) (body : Body) (event : CoreEvent) → IsCopy call body → IsAskIn count body event
    → IsAskOf event call
copy_is_asked count (want.Grow its) body event copy (asks ask size align bound flags is below request event_is) =
    subst (λ (e : CoreEvent). IsAskOf e (want.Grow its)) (sym event_is)
    (ap (λ (a : Ask). want.Grow a) (asked_again its ask size align bound flags (sym copy ∙ is) request))
copy_is_asked count (want.Grow its) body event copy (frees from number heap address len is below event_is) =
    let wrong : alloc_body its ≡ Free from number heap address len = sym copy ∙ is in
    cc
copy_is_asked count (want.Shrink from number) body event copy (asks ask size align bound flags is below request event_is) =
    let wrong : Free from number copy.0 copy.1 copy.2 ≡ Alloc ask.from ask.number ask.heap ask.socket ask.page size align bound flags =
    sym copy.3 ∙ is in
    cc
copy_is_asked count (want.Shrink from number) body event copy (frees who which heap address len is below event_is) =
    let same : Free from number copy.0 copy.1 copy.2 ≡ Free who which heap address len = sym copy.3 ∙ is in
    let its : want.Shrink from number ≡ want.Shrink who which = cc in
    subst (λ (e : CoreEvent). IsAskOf e (want.Shrink from number)) (sym event_is) its

-- a copy is an ask or a notice, and no SYNC, and no answer
pub copy_is_call : (call : Asked) (body : Body) → IsCopy call body → is_call body ≡ true
copy_is_call (want.Grow ask) body copy = ap is_call copy
copy_is_call (want.Shrink from number) body copy = ap is_call copy.3

pub copy_is_no_reply : (call : Asked) (body : Body) → IsCopy call body → is_sync_reply body ≡ false
copy_is_no_reply (want.Grow ask) body copy = ap is_sync_reply copy
copy_is_no_reply (want.Shrink from number) body copy = ap is_sync_reply copy.3

copy_is_no_answer : (call : Asked) (body : Body) → IsCopy call body → is_answer body ≡ false
copy_is_no_answer (want.Grow ask) body copy = ap is_answer copy
copy_is_no_answer (want.Shrink from number) body copy = ap is_answer copy.3

-- nor is a copy a SYNC
pub copy_is_no_sync : (call : Asked) (body : Body) → IsCopy call body → is_sync body ≡ false
copy_is_no_sync (want.Grow ask) body copy = ap is_sync copy
copy_is_no_sync (want.Shrink from number) body copy = ap is_sync copy.3

answer_is_no_sync : (body : Body) → is_answer body ≡ true → is_sync body ≡ false
answer_is_no_sync (Alloc from number heap socket page size align bound flags) is = refl
answer_is_no_sync (Free from number heap address len) is = refl
answer_is_no_sync (Sync generation round) is = cc
answer_is_no_sync (Answer from number what code) is = refl

-- neither an answer nor a copy is a SYNC
pub body_is_no_sync : (call : Asked) (body : Body) → (is_answer body ≡ true) ⊎ IsCopy call body → is_sync body ≡ false
body_is_no_sync call body (inl answer) = answer_is_no_sync body answer
body_is_no_sync call body (inr copy) = copy_is_no_sync call body copy

-- and so none lies among them
pub bodies_unsynced : (call : Asked) (bodies : List Body) → AreAnswersOrCopies call bodies → list_any is_sync bodies ≡ false
bodies_unsynced call bodies are =
    list_any_none is_sync bodies
    (All-weaker (λ body. (is_answer body ≡ true) ⊎ IsCopy call body) (λ body. is_sync body ≡ false) (body_is_no_sync call) bodies are)

-- what is no answer to the ask is none to who asked last for that
pub not_answered : (party : Party) (call : Asked) (body : Body) → party.asked ≡ number_of call → is_result_of call body ≡ false
    → is_answer_to party body ≡ false
not_answered party call (Alloc from number heap socket page size align bound flags) asked is = refl
not_answered party call (Free from number heap address len) asked is = refl
not_answered party call (Sync generation round) asked is = refl
not_answered party call (Answer from number what code) asked is =
    ap (λ (n : ℕ). ((what == 2) || (what == 3)) && (number == n)) asked ∙ is

-- a reply to a SYNC is an answer
pub reply_is_answer : (body : Body) → is_sync_reply body ≡ true → is_answer body ≡ true
reply_is_answer (Alloc from number heap socket page size align bound flags) is = cc
reply_is_answer (Free from number heap address len) is = cc
reply_is_answer (Sync generation round) is = cc
reply_is_answer (Answer from number what code) is = refl

-- what is an answer is no copy
pub answer_is_no_copy : (call : Asked) (body : Body) → is_answer body ≡ true → IsCopy call body → ⊥
answer_is_no_copy call body answer copy = let wrong : true ≡ false = sym answer ∙ copy_is_no_answer call body copy in cc

-- an answer brings no ask
pub answer_is_no_ask : (count : ℕ) (body : Body) (event : CoreEvent) → is_answer body ≡ true → IsAskIn count body event → ⊥
answer_is_no_ask count body event answer (asks ask size align bound flags is below request event_is) =
    let wrong : true ≡ false = sym answer ∙ ap is_answer is in cc
answer_is_no_ask count body event answer (frees from number heap address len is below event_is) =
    let wrong : true ≡ false = sym answer ∙ ap is_answer is in cc

-- a copy of a declared participant's ask brings one
pub copy_is_ask : (count : ℕ) (call : Asked) (body : Body) → asker call < count → IsCopy call body → IsNoAsk count body → ⊥
copy_is_ask count call body below copy (syncs generation round is) =
    let wrong : true ≡ false = sym (copy_is_call call body copy) ∙ ap is_call is in cc
copy_is_ask count call body below copy (answers from number what code is) =
    let wrong : true ≡ false = sym (copy_is_call call body copy) ∙ ap is_call is in cc
copy_is_ask count (want.Grow ask) body below copy (undeclared_asker from number heap socket page size align bound flags is beyond) =
    let same : alloc_body ask ≡ Alloc from number heap socket page size align bound flags = sym copy ∙ is in
    let its : ask.from ≡ from = cc in
    omega (arith, its, below, beyond)
copy_is_ask count (want.Shrink who which) body below copy (undeclared_asker from number heap socket page size align bound flags is beyond) =
    let wrong : Free who which copy.0 copy.1 copy.2 ≡ Alloc from number heap socket page size align bound flags = sym copy.3 ∙ is in
    cc
copy_is_ask count (want.Grow ask) body below copy (undeclared_giver from number heap address len is beyond) =
    let wrong : alloc_body ask ≡ Free from number heap address len = sym copy ∙ is in
    cc
copy_is_ask count (want.Shrink who which) body below copy (undeclared_giver from number heap address len is beyond) =
    let same : Free who which copy.0 copy.1 copy.2 ≡ Free from number heap address len = sym copy.3 ∙ is in
    let its : who ≡ from = cc in
    omega (arith, its, below, beyond)
copy_is_ask count (want.Grow ask) body below copy (no_request from number heap socket page size align bound flags why is refused) =
    let same : alloc_body ask ≡ Alloc from number heap socket page size align bound flags = sym copy ∙ is in
    let sizes : ask.request.size ≡ size = cc in
    let aligns : ask.request.align ≡ align = cc in
    let bounds : ask.request.bound ≡ bound = cc in
    let kept : refusal_of ask.request.size ask.request.align ask.request.bound ≡ None =
    not_refused ask.request.size ask.request.align ask.request.bound ask.request.accepted in
    let wrong : Some why ≡ None =
    sym refused
    ∙ (ap (λ (n : ℕ). refusal_of n align bound) (sym sizes)
    ∙ (ap (λ (n : ℕ). refusal_of ask.request.size n bound) (sym aligns)
    ∙ (ap (λ (n : ℕ). refusal_of ask.request.size ask.request.align n) (sym bounds) ∙ kept))) in
    cc
copy_is_ask count (want.Shrink who which) body below copy (no_request from number heap socket page size align bound flags why is refused) =
    let wrong : Free who which copy.0 copy.1 copy.2 ≡ Alloc from number heap socket page size align bound flags = sym copy.3 ∙ is in
    cc
