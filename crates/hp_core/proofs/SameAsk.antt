-- Asks that are the same in all that can be compared are one.
use Rattle.std.proofs.Common.{◌≡◌, ℕ, true, ◌==◌, ap, ◌∙◌, subst}
use Rattle.std.proofs.Props.{props}
use Rattle.std.proofs.lemmas.Bool.{and_parts, eqb-true}
use Rattle.hp_base.specs.Requests.{IsAccepted}
use Rattle.hp_base.specs.declared.request.Request.{Request}
use Rattle.hp_segs.specs.declared.ask.Ask.{Ask}
use Rattle.hp_core.specs.Asks.{is_same_ask}

-- that a request was accepted says one thing
accepted_once : (size align bound : ℕ) → IsProp (IsAccepted size align bound)
accepted_once size align bound = hlevel props

abbrev request_of : (size align bound flags : ℕ) → IsAccepted size align bound → Request
request_of size align bound flags accepted = record { size = size; align = align; bound = bound; flags = flags; accepted = accepted }

module _ (size align bound flags : ℕ) (accepted : IsAccepted size align bound) where
  abbrev IsSame : (size align bound flags : ℕ) → Type 0
  IsSame other_size other_align other_bound other_flags =
      (other : IsAccepted other_size other_align other_bound)
      → request_of size align bound flags accepted ≡ request_of other_size other_align other_bound other_flags other

  same_numbers : (other_size other_align other_bound other_flags : ℕ) → size ≡ other_size → align ≡ other_align → bound ≡ other_bound
      → flags ≡ other_flags → IsSame other_size other_align other_bound other_flags
  same_numbers other_size other_align other_bound other_flags sizes aligns bounds flag_bits =
      subst (λ n. IsSame n other_align other_bound other_flags) sizes
      (subst (λ n. IsSame size n other_bound other_flags) aligns
      (subst (λ n. IsSame size align n other_flags) bounds
      (subst (λ n. IsSame size align bound n) flag_bits
      (λ other. ap (request_of size align bound flags) (accepted_once size align bound accepted other)))))

same_request : (a b : Request) → a.size ≡ b.size → a.align ≡ b.align → a.bound ≡ b.bound → a.flags ≡ b.flags → a ≡ b
same_request a b sizes aligns bounds flag_bits =
    same_numbers a.size a.align a.bound a.flags a.accepted b.size b.align b.bound b.flags sizes aligns bounds flag_bits b.accepted

abbrev ask_of : (from number heap socket page : ℕ) → Request → Ask
ask_of from number heap socket page request =
    record { from = from; number = number; heap = heap; socket = socket; page = page; request = request }

pub same_ask : (a b : Ask) → is_same_ask a b ≡ true → a ≡ b
same_ask a b same =
    let from = and_parts (a.from == b.from) _ same in
    let number = and_parts (a.number == b.number) _ from.1 in
    let heap = and_parts (a.heap == b.heap) _ number.1 in
    let socket = and_parts (a.socket == b.socket) _ heap.1 in
    let page = and_parts (a.page == b.page) _ socket.1 in
    let size = and_parts (a.request.size == b.request.size) _ page.1 in
    let align = and_parts (a.request.align == b.request.align) _ size.1 in
    let bound = and_parts (a.request.bound == b.request.bound) (a.request.flags == b.request.flags) align.1 in
    let request : a.request ≡ b.request =
    same_request a.request b.request (eqb-true a.request.size b.request.size size.0) (eqb-true a.request.align b.request.align align.0)
    (eqb-true a.request.bound b.request.bound bound.0) (eqb-true a.request.flags b.request.flags bound.1) in
    ap (λ n. ask_of n a.number a.heap a.socket a.page a.request) (eqb-true a.from b.from from.0)
    ∙ (ap (λ n. ask_of b.from n a.heap a.socket a.page a.request) (eqb-true a.number b.number number.0)
    ∙ (ap (λ n. ask_of b.from b.number n a.socket a.page a.request) (eqb-true a.heap b.heap heap.0)
    ∙ (ap (λ n. ask_of b.from b.number b.heap n a.page a.request) (eqb-true a.socket b.socket socket.0)
    ∙ (ap (λ n. ask_of b.from b.number b.heap b.socket n a.request) (eqb-true a.page b.page page.0)
    ∙ ap (ask_of b.from b.number b.heap b.socket b.page) request))))
