-- The course of a hall with one seat goes on from itself and from state to state; on it the hall is later on, and each post is lost exactly
-- where that is planned and counted where it found a mailbox full. The rule "A seat at the board" of docs/HALLS.md.
use Rattle.std.proofs.Common.{◌≡◌, ◌≢◌, ◌⊎◌, inl, inr, ⊎_elim, ℕ, zero, suc, ◌+◌, ◌<◌, ◌≤◌, eqb, cond, ne_eqb, eq-eqb, Bool, true, false, List, [], ◌∷◌, ◌++◌, refl, sym, ap, subst, ◌∙◌, arith}
use Rattle.std.specs.List.{AllByRecursion, range_with_len, sum_by}
use Rattle.std.proofs.lemmas.Bool.{cases_eq, cond-false, cond-true}
use Rattle.std.proofs.lemmas.List.{append-nil, append_assoc}
use Rattle.std.proofs.lemmas.List.Sums.{sum_by-append, sum_by-cons}
use Rattle.hp_hall.specs.HallCalls.{HavePosted}
use Rattle.hp_hall.specs.HallState.{IsLater}
use Rattle.hp_hall.specs.Mail.{IsAsPlanned, MailStep, counted_on, full_post, full_posts}
use Rattle.hp_hall.proofs.HallStates.{names_same, names_then}
use Rattle.hp_board.specs.Views.{BeginsWith, named_of}
use Rattle.hp_board.specs.declared.opening.Opening.{Opening}
use Rattle.hp_board.proofs.Fronts.{front_itself, front_on}
use Rattle.hp_chair.specs.ChairCourse.{IsChairCourse}
use Rattle.hp_chair.specs.DoneLaws.{done_none, done_then}
use Rattle.hp_chair.specs.FoundEmpty.{FoundItsMailboxEmpty, letters_of}
use Rattle.hp_chair.specs.FoundEmptyLaws.{no_vain, vain_then}
use Rattle.hp_chair.specs.FoundFull.{AllWentByRoom}
use Rattle.hp_chair.specs.FoundFullLaws.{none_went, went_then}
use Rattle.hp_mail.specs.PassView.{MailboxView}
use Rattle.hp_stats.specs.StatViews.{seen_of}
use Rattle.hp_stats.specs.declared.stat_pair.StatPair.{StatPair}
use Rattle.hp_chair.specs.ChairView.{ChairView, chair_state, greatest_count, lines_of, of_one}

not_below : (n : ℕ) → n ≤ n
not_below n = omega arith

le_then : (a b c : ℕ) → a ≤ b → b ≤ c → a ≤ c
le_then a b c one two = omega (arith, one, two)

pub chair_same : (a : ChairView) → IsChairCourse a a
chair_same a = record {
  board = refl;
  mailboxes = refl;
  boxes = refl;
  cells = refl;
  who = refl;
  opening = refl;
  seen = front_itself a.seat.mine.log;
  heard = front_itself a.seat.mine.heard;
  named = names_same (named_of a.seat.mine);
  noted = λ other. not_below _;
  shown = λ heap. front_itself (seen_of heap a.stats);
  known = λ other. not_below _;
  steps = [];
  made = sym (append-nil a.steps);
  done = done_none a.seat.mine;
  fetched = front_itself (letters_of a);
  vain = no_vain a.seat.mine.who (letters_of a) a.steps;
  declared = inl refl;
  room = none_went a.seat.mine.who a.boxes a.steps;
  planned = tt;
  full_mailboxes = omega arith;
  turns = omega arith;
  stopped = λ is. is;
}

all_then : (first second : List MailStep) → AllByRecursion IsAsPlanned first → AllByRecursion IsAsPlanned second
    → AllByRecursion IsAsPlanned (first ++ second)
all_then [] second here next = next
all_then (step ∷ steps) second here next = (here.0, all_then steps second here.1 next)

-- the participants are as many
pub as_many : (old new : ChairView) → IsChairCourse old new → new.seat.mine.opening.participants ≡ old.seat.mine.opening.participants
as_many old new course = ap (λ (o : Opening). o.participants) course.opening

-- who makes a step on a course of two is declared
declared_then : (a b c : ChairView) (here : IsChairCourse a b) (next : IsChairCourse b c)
    → (here.steps ++ next.steps ≡ []) ⊎ (a.seat.mine.who < a.seat.mine.opening.participants)
declared_then a b c here next =
    ⊎_elim
    (λ (none : here.steps ≡ []).
    ⊎_elim (λ (nothing : next.steps ≡ []). inl (ap (λ (l : List MailStep). l ++ next.steps) none ∙ nothing))
    (λ (below : b.seat.mine.who < b.seat.mine.opening.participants). inr (omega (arith, below, here.who, as_many a b here))) next.declared)
    (λ (below : a.seat.mine.who < a.seat.mine.opening.participants). inr below) here.declared

-- it fetched nothing on a course of two only where its mailbox was empty
vain_on : (a b c : ChairView) (here : IsChairCourse a b) (next : IsChairCourse b c)
    → FoundItsMailboxEmpty a.seat.mine.who (letters_of c) a.steps (here.steps ++ next.steps)
vain_on a b c here next =
    vain_then a.seat.mine.who (letters_of b) (letters_of c) a.steps next.fetched here.steps next.steps here.vain
    (subst (λ (l : List MailStep). FoundItsMailboxEmpty a.seat.mine.who (letters_of c) l next.steps) here.made
    (subst (λ (n : ℕ). FoundItsMailboxEmpty n (letters_of c) b.steps next.steps) here.who next.vain))

-- each post on a course of two went by the room that it found
room_on : (a b c : ChairView) (here : IsChairCourse a b) (next : IsChairCourse b c)
    → AllWentByRoom a.seat.mine.who a.boxes a.steps (here.steps ++ next.steps)
room_on a b c here next =
    went_then a.seat.mine.who a.boxes a.steps here.steps next.steps here.room
    (subst (λ (l : List MailStep). AllWentByRoom a.seat.mine.who a.boxes l next.steps) here.made
    (subst (λ (l : List MailboxView). AllWentByRoom a.seat.mine.who l b.steps next.steps) here.mailboxes
    (subst (λ (n : ℕ). AllWentByRoom n b.boxes b.steps next.steps) here.who next.room)))

pub chair_then : (a b c : ChairView) → IsChairCourse a b → IsChairCourse b c → IsChairCourse a c
chair_then a b c here next = record {
  board = next.board ∙ here.board;
  mailboxes = next.mailboxes ∙ here.mailboxes;
  boxes = next.boxes ∙ here.boxes;
  cells = next.cells ∙ here.cells;
  who = next.who ∙ here.who;
  opening = next.opening ∙ here.opening;
  seen = front_on b.seat.mine.log c.seat.mine.log a.seat.mine.log next.seen here.seen;
  heard = front_on b.seat.mine.heard c.seat.mine.heard a.seat.mine.heard next.heard here.heard;
  named = names_then here.named next.named;
  noted = λ other. le_then _ _ _ (here.noted other) (next.noted other);
  shown = λ heap. front_on (seen_of heap b.stats) (seen_of heap c.stats) (seen_of heap a.stats) (next.shown heap) (here.shown heap);
  known = λ other. le_then _ _ _ (here.known other) (next.known other);
  steps = here.steps ++ next.steps;
  made = next.made ∙ ap (λ (l : List MailStep). l ++ next.steps) here.made ∙ append_assoc a.steps here.steps next.steps;
  done = done_then a.seat.mine b.seat.mine here.steps here.done c.seat.mine next.steps next.done;
  fetched = front_on (letters_of b) (letters_of c) (letters_of a) next.fetched here.fetched;
  vain = vain_on a b c here next;
  declared = declared_then a b c here next;
  room = room_on a b c here next;
  planned = all_then here.steps next.steps here.planned next.planned;
  full_mailboxes = omega (arith, here.full_mailboxes, next.full_mailboxes, sum_by-append full_post here.steps next.steps);
  turns = omega (arith, here.turns, next.turns);
  stopped = λ is. next.stopped (here.stopped is);
}

-- the greatest count of pairs does not fall where more come
greatest_more : (pairs more : List StatPair) → greatest_count pairs ≤ greatest_count (pairs ++ more)
greatest_more [] more = omega arith
greatest_more (pair ∷ pairs) more = omega (arith, greatest_more pairs more)

pub greatest_front : (old new : List StatPair) → BeginsWith new old → greatest_count old ≤ greatest_count new
greatest_front old new (more, is) = subst (λ (l : List StatPair). greatest_count old ≤ greatest_count l) (sym is) (greatest_more old more)

one_rises : (own : Bool) (a b : ℕ) → a ≤ b → cond own a 0 ≤ cond own b 0
one_rises true a b rises = rises
one_rises false a b rises = omega arith

-- nobody is known to have told fewer lines
lines_rise : (old new : ChairView) → IsChairCourse old new → (who : ℕ) → (chair_state old).lines who ≤ (chair_state new).lines who
lines_rise old new course who =
    let me : ℕ = old.seat.mine.who in
    subst (λ (n : ℕ). cond (eqb who me) (lines_of me old) 0 ≤ cond (eqb who n) (lines_of n new) 0) (sym course.who)
    (one_rises (eqb who me) (lines_of me old) (lines_of me new) (course.known me))

-- on its course it is later on
pub chair_later : (old new : ChairView) → IsChairCourse old new → IsLater (chair_state old) (chair_state new)
chair_later old new course = record {
  count = as_many old new course;
  serves = λ who is. is ∙ sym course.who;
  seen = λ who. course.seen;
  heard = λ who. course.heard;
  named = λ who. course.named;
  shown = λ who heap. greatest_front (seen_of heap old.stats) (seen_of heap new.stats) (course.shown heap);
  noted = λ who other. record { number = course.noted other; lines = course.known other };
  lines = λ who. lines_rise old new course who;
  full_mailboxes = omega (arith, course.full_mailboxes);
  stopped = course.stopped;
}

-- the sum over numbers in turn of what is 0 at all of them, and of what is 0 at all but one
sum_none : (f : ℕ → ℕ) → ((n : ℕ) → f n ≡ 0) → (count from : ℕ) → sum_by f (range_with_len from count) ≡ 0
sum_none f none zero from = refl
sum_none f none (suc count) from =
    omega (arith, none from, sum_none f none count (from + 1), sum_by-cons f from (range_with_len (from + 1) count))

module _ (f : ℕ → ℕ) (me : ℕ) (none : (n : ℕ) → n ≢ me → f n ≡ 0) where
  sum_past : (count from : ℕ) → me < from → sum_by f (range_with_len from count) ≡ 0
  sum_past zero from past = refl
  sum_past (suc count) from past =
      let here = none from (λ is. absurd (omega (arith, is, past))) in
      let next = sum_past count (from + 1) (omega (arith, past)) in
      omega (arith, here, next, sum_by-cons f from (range_with_len (from + 1) count))

  sum_one : (count from : ℕ) → from ≤ me → me < from + count → sum_by f (range_with_len from count) ≡ f me
  sum_one zero from low high = absurd (omega (arith, low, high))
  sum_one (suc count) from low high =
      let first = sum_by-cons f from (range_with_len (from + 1) count) in
      ⊎_elim
      (λ (here : from ≡ me).
      let value : f from ≡ f me = ap f here in
      omega (arith, value, sum_past count (from + 1) (omega (arith, here)), first))
      (λ (apart : from ≢ me).
      omega (arith, none from apart, sum_one count (from + 1) (omega (arith, low, apart)) (omega (arith, high)), first))
      (cases_eq from me)

-- by whether a number is the participant's
both_of : (own : Bool) (xs ys : List MailStep) → cond own (xs ++ ys) [] ≡ cond own xs [] ++ cond own ys []
both_of true xs ys = refl
both_of false xs ys = refl

nothing_of : (own : Bool) → cond {A = List MailStep} own [] [] ≡ []
nothing_of true = refl
nothing_of false = refl

planned_of : (own : Bool) (steps : List MailStep) → AllByRecursion IsAsPlanned steps → AllByRecursion IsAsPlanned (cond own steps [])
planned_of true steps all = all
planned_of false steps all = tt

module _ (old new : ChairView) (course : IsChairCourse old new) where
  abbrev me : ℕ
  me = old.seat.mine.who

  abbrev made : ℕ → List MailStep
  made who = of_one me course.steps [] who

  elsewhere : (who : ℕ) → who ≢ me → made who ≡ []
  elsewhere who apart = cond-false (eqb who me) course.steps [] (ne_eqb who me apart)

  undeclared : (who : ℕ) → old.seat.mine.opening.participants ≤ who → made who ≡ []
  undeclared who past =
      ⊎_elim (λ (none : course.steps ≡ []). ap (λ (l : List MailStep). of_one me l [] who) none ∙ nothing_of (eqb who me))
      (λ (below : me < old.seat.mine.opening.participants). elsewhere who (λ same. absurd (omega (arith, same, below, past))))
      course.declared

  total : sum_by (λ who. full_posts (made who)) (range_with_len 0 old.seat.mine.opening.participants) ≡ full_posts course.steps
  total =
      ⊎_elim
      (λ (none : course.steps ≡ []).
      sum_none (λ who. full_posts (made who))
      (λ who. ap (λ (l : List MailStep). full_posts (of_one me l [] who)) none ∙ ap full_posts (nothing_of (eqb who me)))
      old.seat.mine.opening.participants 0 ∙ sym (ap full_posts none))
      (λ (below : me < old.seat.mine.opening.participants).
      sum_one (λ who. full_posts (made who)) me (λ who apart. ap full_posts (elsewhere who apart)) old.seat.mine.opening.participants 0
      (omega arith) (omega (arith, below)) ∙ ap full_posts (cond-true (eqb me me) course.steps [] (eq-eqb me me refl)))
      course.declared

  pub chair_posts : HavePosted (chair_state old) (chair_state new)
  chair_posts = record {
    steps = made;
    done = λ who.
        ap (λ (n : ℕ). of_one n new.steps [] who) course.who ∙ ap (λ (l : List MailStep). of_one me l [] who) course.made
        ∙ both_of (eqb who me) old.steps course.steps;
    undeclared = undeclared;
    planned = λ who. planned_of (eqb who me) course.steps course.planned;
    full_mailboxes = course.full_mailboxes ∙ ap (λ (n : ℕ). counted_on n old.full_mailboxes) (sym total);
  }

-- no deadline counts for anything
pub none_most : 0 ≤ 0
none_most = omega arith

abbrev nothing : ℕ
nothing = 0

pub none_same : nothing ≡ nothing
none_same = refl
