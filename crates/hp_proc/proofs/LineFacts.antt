-- What is known when a line begins, and what a line leaves that brings no element.
use Rattle.std.proofs.Common.{◌≡◌, ◌∙◌, ℕ, ◌^◌, ◌<◌, Bool, true, false, cond, not, ◌||◌, ◌==◌, List, [], ◌∷◌, ◌++◌, append-nil, Option, Some, None, refl, ap, sym, subst, arith, inl}
use Rattle.std.specs.Prelude.{nat_le, ⊤}
use Rattle.std.proofs.lemmas.Bool.{leb-false}
use Rattle.std.proofs.lemmas.Bool.Decides.{nat_tests}
use Rattle.hp_base.proofs.RequestLemmas.{accepted_is}
use Rattle.hp_base.specs.Requests.{IsAccepted, is_align, is_bound, is_too_large, raised_align, refusal_of, rounded_size}
use Rattle.hp_base.specs.Round.{fitting}
use Rattle.hp_base.specs.declared.request.BadRequest.{BadRequest}
use Rattle.hp_base.specs.declared.request.BadRequest.TheVariants as bad
use Rattle.hp_base.specs.declared.request.Request.{Request}
use Rattle.hp_hall.specs.Mail.{MailStep}
use Rattle.hp_script.specs.declared.answer.Answer.{Answer}
use Rattle.hp_script.specs.declared.answer.Answer.TheVariants as answer
use Rattle.hp_script.specs.declared.line.Act.{Act}
use Rattle.hp_script.specs.declared.line.Act.TheVariants as act
use Rattle.hp_script.specs.declared.line.Line.{Line}
use Rattle.hp_script.specs.declared.options.Options.{Options}
use Rattle.hp_proc.specs.Acting.{Acts}
use Rattle.hp_proc.specs.Awaiting.{HasAwaited}
use Rattle.hp_proc.specs.Contexts.{AreFactsOf, Context}
use Rattle.hp_proc.specs.Courses.{HasLineRequest, IsRequestFor, Standing, after_line, attached_after, chunks_after, element_brought, heap_of_element, maker_for, name_meant, records_after}
use Rattle.hp_proc.specs.Doing.{Doing, Done}
use Rattle.hp_proc.specs.LineTrees.{doing_of}
use Rattle.hp_proc.specs.Lines.{Facts}
use Rattle.hp_proc.specs.LockOrder.{GivesNamesFirst, HoldsNamesAsMay}
use Rattle.hp_proc.specs.NamesOfLines.{NamesOfLine}
use Rattle.hp_proc.specs.ParticipantView.{with_calls}
use Rattle.hp_proc.specs.Progress.{Does, DoesApart, DoesLine, DoesOnce, HoldsNone, IsInside, Moment, doer_at}
use Rattle.hp_proc.specs.Registering.{validators_after, watchers_after}
use Rattle.hp_proc.specs.declared.own_element.OwnElement.{OwnElement}
use Rattle.hp_proc.proofs.HandFacts.OnceHeld.{once_none, once_one}
use Rattle.hp_proc.proofs.Joining.{does_same, does_still}
use Rattle.hp_proc.proofs.LineEnds.{RegistersNone, ends_as_it_was, ends_detached}
use Rattle.hp_proc.proofs.LinesOrdered.{acts_apart, acts_ordered, acts_told, names_first}

-- a test that refuses nothing fails, and the next ones refuse nothing
refusing : (test : Bool) (kind : BadRequest) (rest : Option BadRequest) → cond test (Some kind) rest ≡ None → (test ≡ false) × (rest ≡ None)
refusing true kind rest none = cc
refusing false kind rest none = (refl, none)

last_test : (test : Bool) → cond test None (Some bad.Bound) ≡ None → test ≡ true
last_test true none = refl
last_test false none = cc

both_false : (a b : Bool) → (a || b) ≡ false → (a ≡ false) × (b ≡ false)
both_false true b is = cc
both_false false b is = (refl, is)

not_false : (b : Bool) → not b ≡ false → b ≡ true
not_false true is = refl
not_false false is = cc

fits_so : (n : ℕ) → n < 2 ^ 64 → Some n ≡ fitting n
fits_so n below = grind (arith, nat_tests)

-- what is not refused is accepted
accepted_so : (size align bound : ℕ) → refusal_of size align bound ≡ None → IsAccepted (rounded_size size) (raised_align align) bound
accepted_so size align bound none =
    let some = refusing (size == 0) bad.Zero _ none in
    let fits = refusing (is_too_large size align) bad.Overflow _ some.1 in
    let aligns = refusing (not (is_align align)) bad.Align _ fits.1 in
    let block = last_test (is_bound (rounded_size size) bound) aligns.1 in
    let small = both_false (nat_le (2 ^ 64) (rounded_size size)) _ fits.0 in
    let positive : 0 < size = grind (arith, nat_tests, some.0) in
    accepted_is size (rounded_size size) align (raised_align align) bound positive
    (fits_so (rounded_size size) (leb-false (2 ^ 64) (rounded_size size) small.0)) refl (not_false (is_align align) aligns.0) block small.1

request_by : (size : ℕ) (options : Options) (refusal : Option BadRequest) → refusal_of size options.align options.bound ≡ refusal
    → (request : Option Request) × (refusal ≡ None → (accepted : Request) × (request ≡ Some accepted) × IsRequestFor size options accepted)
request_by size options (Some kind) is = (None, λ none. cc)
request_by size options None is =
    let request : Request = record {
      size = rounded_size size;
      align = raised_align options.align;
      bound = options.bound;
      flags = options.flags;
      accepted = accepted_so size options.align options.bound is;
    } in
    (Some request, λ none. (request, refl, record { size_is = refl; align_is = refl; bound_is = refl; flags_are = refl }))

-- each line has its request, where it is one that has one
pub has_request : (deed : Act) → (request : Option Request) × HasLineRequest deed request
has_request (act.Alloc label size options) = request_by size options (refusal_of size options.align options.bound) refl
has_request (act.Zone name len options) = request_by len options (refusal_of len options.align options.bound) refl
has_request _ = (None, tt)

-- what is known when a line begins
abbrev pub facts_for : ℕ → Context → Act → Option Request → Facts
facts_for socket context deed request = record {
  attached = context.standing.attached;
  own_socket = socket;
  pools = context.pools;
  request = request;
  maker = maker_for context.lines (name_meant deed);
  own_heap = heap_of_element context.pools context.standing.elements (maker_for context.lines (name_meant deed));
  chunks = context.standing.chunks;
  watchers = context.standing.watchers;
  validators = context.standing.validators;
}

pub facts_known : (socket : ℕ) (context : Context) (line : Line) (request : Option Request) → HasLineRequest line.act request
    → AreFactsOf socket context line (facts_for socket context line.act request)
facts_known socket context line request has = record {
  attached = refl;
  own_socket = refl;
  pools = refl;
  request = has;
  maker = refl;
  own_heap = refl;
  chunks = refl;
  watchers = refl;
  validators = refl;
}

-- a line that brings no element, changes no chunk that is attached, and registers nothing, leaves what earlier lines left
abbrev pub BringsNone : Act → Type 0
BringsNone (act.Alloc label size options) = ⊥
BringsNone act.Attach = ⊥
BringsNone act.Detach = ⊥
BringsNone (act.Map heap addr len) = ⊥
BringsNone (act.Unmap heap addr len) = ⊥
BringsNone (act.Watch name) = ⊥
BringsNone (act.Unwatch name) = ⊥
BringsNone (act.Limit name socket bytes allow) = ⊥
BringsNone (act.Unlimit name socket) = ⊥
BringsNone _ = ⊤

-- and registers none
registers_none : (deed : Act) → BringsNone deed → RegistersNone deed
registers_none (act.Watch name) none = absurd none
registers_none (act.Unwatch name) none = absurd none
registers_none (act.Limit name socket bytes allow) none = absurd none
registers_none (act.Unlimit name socket) none = absurd none
registers_none _ none = tt

-- what is left of what earlier lines left
abbrev standing_left : Line → Act → Answer → List Done → Standing → Standing
standing_left line deed given trace standing = record {
  attached = attached_after deed given standing.attached;
  records = records_after deed given standing.records;
  elements = standing.elements ++ element_brought line deed given trace;
  chunks = chunks_after deed given trace standing.chunks;
  watchers = watchers_after deed given standing.watchers;
  validators = validators_after deed given standing.validators;
}

leaves_standing : (line : Line) (deed : Act) → BringsNone deed → (given : Answer) (trace : List Done) (standing : Standing)
    → standing_left line deed given trace standing ≡ standing
leaves_standing line (act.Alloc label size options) none given trace standing = absurd none
leaves_standing line act.Attach none given trace standing = absurd none
leaves_standing line act.Detach none given trace standing = absurd none
leaves_standing line (act.Map heap addr len) none given trace standing = absurd none
leaves_standing line (act.Unmap heap addr len) none given trace standing = absurd none
leaves_standing line (act.Watch name) none given trace standing = absurd none
leaves_standing line (act.Unwatch name) none given trace standing = absurd none
leaves_standing line (act.Limit name socket bytes allow) none given trace standing = absurd none
leaves_standing line (act.Unlimit name socket) none given trace standing = absurd none
leaves_standing line _ none given trace standing =
    ap (λ (elements : List OwnElement). record standing { elements = elements }) (append-nil standing.elements)

-- so does one that is answered by who is not attached
detached_leaves : (line : Line) (deed : Act) (trace : List Done) (standing : Standing)
    → standing_left line deed answer.Detached trace standing ≡ standing
detached_leaves line act.Attach trace standing =
    ap (λ (elements : List OwnElement). record standing { elements = elements }) (append-nil standing.elements)
detached_leaves line _ trace standing =
    ap (λ (elements : List OwnElement). record standing { elements = elements }) (append-nil standing.elements)

module _ (before after : Context) (same : after ≡ with_calls after.calls before) (line : Line) (given : Answer)
    (trace : List Done) where
  standing_is : after.standing ≡ before.standing
  standing_is = ap (λ (context : Context). context.standing) same

  -- what a line left that brings no element
  pub left_behind : (deed : Act) → line.act ≡ deed → BringsNone deed
      → after.standing ≡ after_line line given trace before.standing
  left_behind deed is none =
      standing_is
      ∙ sym (leaves_standing line line.act (subst BringsNone (sym is) none) given trace before.standing)

-- what holds no heap holds none for statistics
pub holds_none : (deed : Act) → HoldsNone deed []
holds_none (act.Stats heap) = refl
holds_none _ = tt

-- who gives the names back first does so as its line may
pub hands_first : (deed : Act) (steps : List MailStep) → GivesNamesFirst steps → HoldsNamesAsMay deed steps
hands_first (act.Zone name len options) steps first = tt
hands_first (act.Unzone name) steps first = tt
hands_first (act.Heap name) steps first = tt
hands_first (act.Unheap name) steps first = tt
hands_first (act.Add heap addr len page) steps first = tt
hands_first (act.Remove heap addr len) steps first = tt
hands_first (act.Map heap addr len) steps first = tt
hands_first (act.Unmap heap addr len) steps first = tt
hands_first _ steps first = first

-- a line that brings no element was done, by what was known of it; it had the names in hand as it may, and awaited others, where it does
pub line_whole : (count : ℕ) (did : List MailStep → Type 0) (line : Line) (given : Answer) (old new : Moment) (facts : Facts) (deed : Act)
    → AreFactsOf old.party.socket old.context line facts
    → (done : DoesOnce count did (doing_of line line.act facts) (Doing.Ended given) old new)
    → NamesOfLine done.does.trace done.does.steps → HoldsNamesAsMay line.act done.does.steps → HasAwaited line.act done.does.steps
    → old.hand ≡ None
    → new.context ≡ with_calls new.context.calls old.context → line.act ≡ deed → BringsNone deed → HoldsNone deed done.held
    → DoesLine count did line given old new
line_whole count did line given old new facts deed known done names hands awaited empty same is none holds =
    let acts : Acts count None new.hand done.held (doer_at old) (doer_at new) done.does.trace done.does.steps =
    subst (λ (hand : Option ℕ). Acts count hand new.hand done.held (doer_at old) (doer_at new) done.does.trace done.does.steps) empty done.does.acts in
    record {
      facts = facts;
      known = known;
      held = done.held;
      once = done.once;
      none = subst (λ (deed : Act). HoldsNone deed done.held) (sym is) holds;
      mid = new;
      does = done.does;
      names = names;
      order = acts_ordered acts;
      hands = hands;
      tells = acts_told acts;
      awaited = awaited;
      ended = ends_as_it_was line deed given new is (registers_none deed none);
      left = left_behind old.context new.context same line given done.does.trace deed is none;
    }

-- a line awaits nobody
abbrev pub AwaitsNone : Act → Type 0
AwaitsNone (act.Await other lines) = ⊥
AwaitsNone _ = ⊤

pub awaits_none : (deed : Act) (steps : List MailStep) → AwaitsNone deed → HasAwaited deed steps
awaits_none (act.Await other lines) steps none = absurd none
awaits_none _ steps none = tt

-- one that gave the names back before it took a heap
pub line_done : (count : ℕ) (did : List MailStep → Type 0) (line : Line) (given : Answer) (old new : Moment) (facts : Facts) (deed : Act)
    → AreFactsOf old.party.socket old.context line facts
    → (done : DoesApart count did (doing_of line line.act facts) (Doing.Ended given) old new) → old.hand ≡ None
    → new.context ≡ with_calls new.context.calls old.context → line.act ≡ deed → BringsNone deed → AwaitsNone deed
    → HoldsNone deed done.does.held → DoesLine count did line given old new
line_done count did line given old new facts deed known done empty same is none alone holds =
    line_whole count did line given old new facts deed known done.does done.names (hands_first line.act done.does.does.steps done.apart)
    (awaits_none line.act done.does.does.steps (subst AwaitsNone (sym is) alone)) empty same is none holds

-- what was done with no heap gives the names back first
pub apart_idle : {count : ℕ} {did : List MailStep → Type 0} {doing rest : Doing} {old new : Moment} → old.hand ≡ None → new.hand ≡ None
    → (does : Does [] count did doing rest old new) → GivesNamesFirst does.steps
apart_idle {count} {did} {doing} {rest} {old} {new} empty ends does =
    names_first does.steps
    (acts_apart
    (subst (λ (hand : Option ℕ). Acts count hand None [] (doer_at old) (doer_at new) does.trace does.steps) empty
    (subst (λ (hand : Option ℕ). Acts count old.hand hand [] (doer_at old) (doer_at new) does.trace does.steps) ends does.acts)) (inl refl))

-- and one on which no heap was held
pub line_idle : (count : ℕ) (did : List MailStep → Type 0) (line : Line) (given : Answer) (old new : Moment) (facts : Facts) (deed : Act)
    → AreFactsOf old.party.socket old.context line facts → (does : Does [] count did (doing_of line line.act facts) (Doing.Ended given) old new)
    → NamesOfLine does.trace does.steps → old.hand ≡ None → new.hand ≡ None
    → new.context ≡ with_calls new.context.calls old.context → line.act ≡ deed → BringsNone deed → AwaitsNone deed
    → DoesLine count did line given old new
line_idle count did line given old new facts deed known does names empty ends same is none alone =
    line_done count did line given old new facts deed known
    (record { does = record { held = []; once = once_none; does = does }; names = names; apart = apart_idle empty ends does }) empty same is none
    alone (holds_none deed)

-- what was done with no heap, or with one alone
pub done_once : (count : ℕ) (did : List MailStep → Type 0) (doing rest : Doing) (old new : Moment) → Does [] count did doing rest old new
    → DoesOnce count did doing rest old new
done_once count did doing rest old new does = record { held = []; once = once_none; does = does }

pub done_one : (heap count : ℕ) (did : List MailStep → Type 0) (doing rest : Doing) (old new : Moment) → Does (heap ∷ []) count did doing rest old new
    → DoesOnce count did doing rest old new
done_one heap count did doing rest old new does = record { held = heap ∷ []; once = once_one heap; does = does }

-- nothing was done
pub record IsNothing (count : ℕ) (did : List MailStep → Type 0) (doing rest : Doing) (moment : Moment) : Type 0 where
  pub does : Does [] count did doing rest moment moment
  pub names : NamesOfLine does.trace does.steps
  pub apart : GivesNamesFirst does.steps

pub nothing_done : (count : ℕ) (did : List MailStep → Type 0) (doing : Doing) (moment : Moment) → did [] → IsNothing count did doing doing moment
unfolding does_same does_still
nothing_done count did doing moment none =
    record { does = does_same count did doing moment none; names = NamesOfLine.none refl refl refl; apart = tt }

pub apart_same : (count : ℕ) (did : List MailStep → Type 0) (doing : Doing) (moment : Moment) → did []
    → DoesApart count did doing doing moment moment
apart_same count did doing moment none =
    let nothing = nothing_done count did doing moment none in
    record { does = record { held = []; once = once_none; does = nothing.does }; names = nothing.names; apart = nothing.apart }

-- the tree of a line whose participant is not attached
detached_ends : (line : Line) (deed : Act) → IsInside deed → (facts : Facts) → facts.attached ≡ false
    → doing_of line deed facts ≡ Doing.Ended answer.Detached
unfolding doing_of
detached_ends line act.Attach inside facts is = absurd inside
detached_ends line act.Detach inside facts is = absurd inside
detached_ends line (act.Await other lines) inside facts is = absurd inside
detached_ends line _ inside facts is = rw is refl

inside_alone : (deed : Act) → IsInside deed → AwaitsNone deed
inside_alone (act.Await other lines) inside = absurd inside
inside_alone _ inside = tt

-- who is not attached does nothing of its line
pub detached_done : (count : ℕ) (did : List MailStep → Type 0) → did [] → (line : Line) (moment : Moment) → IsInside line.act
    → moment.hand ≡ None → moment.context.standing.attached ≡ false → DoesLine count did line answer.Detached moment moment
detached_done count did none line moment inside empty is =
    let party = moment.party in
    let request = has_request line.act in
    let facts : Facts = facts_for party.socket moment.context line.act request.0 in
    let done : IsNothing count did (doing_of line line.act facts) (Doing.Ended answer.Detached) moment =
    subst (λ (doing : Doing). IsNothing count did doing (Doing.Ended answer.Detached) moment) (sym (detached_ends line line.act inside facts is))
    (nothing_done count did (Doing.Ended answer.Detached) moment none) in
    let does = done.does in
    let acts : Acts count None moment.hand [] (doer_at moment) (doer_at moment) does.trace does.steps =
    subst (λ (hand : Option ℕ). Acts count hand moment.hand [] (doer_at moment) (doer_at moment) does.trace does.steps) empty does.acts in
    record {
      facts = facts;
      known = facts_known party.socket moment.context line request.0 request.1;
      held = [];
      once = once_none;
      none = holds_none line.act;
      mid = moment;
      does = does;
      names = done.names;
      order = acts_ordered acts;
      hands = hands_first line.act does.steps done.apart;
      tells = acts_told acts;
      awaited = awaits_none line.act does.steps (inside_alone line.act inside);
      ended = ends_detached line.act moment;
      left = sym (detached_leaves line line.act does.trace moment.context.standing);
    }
