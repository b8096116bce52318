-- Participants that each went by their own deeds, with holds that make a chain, went together.
use Rattle.std.proofs.Common.{◌≡◌, ◌≢◌, ℕ, zero, suc, ◌+◌, ◌<◌, ◌≤◌, ⊎_elim, cond, eqb, eq-eqb, ne_eqb, List, [], ◌∷◌, ◌++◌, map, length, Some, refl, sym, ap, subst, ◌∙◌, arith}
use Rattle.std.specs.List.{filter}
use Rattle.std.specs.Prelude.{slice_get, slice_set}
use Rattle.std.proofs.lemmas.Bool.{cond-true, cond-false, cases_eq, cases_lt}
use Rattle.std.proofs.lemmas.List.{length-set, map-append, set-set}
use Rattle.std.proofs.lemmas.List.Elements.{filter-append}
use Rattle.std.proofs.lemmas.Option.{same_Some, slice_get_within}
use Rattle.hp_weave.specs.Deeds.{Deed, Gathering, LeadTo, Runs, Turn, after_deed, deeds_of, holds_among, holds_in}
use Rattle.hp_weave.specs.Holds.{Hold, holds_of}
use Rattle.hp_weave.specs.Laws.{GoApart, GoTogether}

-- Elements of a list by their places.
module _ {X : Type 0} where
  element_in : (xs : List X) (k : ℕ) → k < length xs → (x : X) × (slice_get xs k ≡ Some x)
  element_in [] k below = absurd (omega arith)
  element_in (x ∷ xs) zero below = (x, refl)
  element_in (x ∷ xs) (suc k) below = element_in xs k (omega arith)

  set_here : (xs : List X) (k : ℕ) (y : X) → k < length xs → slice_get (slice_set xs k y) k ≡ Some y
  set_here [] k y below = absurd (omega arith)
  set_here (x ∷ xs) zero y below = refl
  set_here (x ∷ xs) (suc k) y below = set_here xs k y (omega arith)

  set_else : (xs : List X) (k other : ℕ) (y : X) → other ≢ k → slice_get (slice_set xs k y) other ≡ slice_get xs other
  set_else [] k other y apart = refl
  set_else (x ∷ xs) zero zero y apart = absurd (apart refl)
  set_else (x ∷ xs) zero (suc other) y apart = refl
  set_else (x ∷ xs) (suc k) zero y apart = refl
  set_else (x ∷ xs) (suc k) (suc other) y apart = set_else xs k other y (λ same. apart (ap suc same))

  set_as_it_is : (xs : List X) (k : ℕ) (x : X) → slice_get xs k ≡ Some x → slice_set xs k x ≡ xs
  set_as_it_is [] k x there = refl
  set_as_it_is (first ∷ xs) zero x there = ap (λ (y : X). y ∷ xs) (sym (same_Some first x there))
  set_as_it_is (first ∷ xs) (suc k) x there = ap (λ (ys : List X). first ∷ ys) (set_as_it_is xs k x there)

  same_elements : (xs ys : List X) → length xs ≡ length ys
      → ((k : ℕ) (x y : X) → slice_get xs k ≡ Some x → slice_get ys k ≡ Some y → x ≡ y) → xs ≡ ys
  same_elements [] [] long same = refl
  same_elements [] (y ∷ ys) long same = absurd (omega (arith, long))
  same_elements (x ∷ xs) [] long same = absurd (omega (arith, long))
  same_elements (x ∷ xs) (y ∷ ys) long same =
      let first : x ≡ y = same 0 x y refl refl in
      let others : xs ≡ ys = same_elements xs ys (omega (arith, long)) (λ k a b here there. same (suc k) a b here there) in
      λ i. first i ∷ others i

-- Lists of holds.
module _ {S : Type 0} where
  first_hold : Hold S → List (Hold S) → Hold S
  first_hold other [] = other
  first_hold other (hold ∷ holds) = hold

  later_holds : List (Hold S) → List (Hold S)
  later_holds [] = []
  later_holds (hold ∷ holds) = holds

  no_hold : (hold : Hold S) (holds : List (Hold S)) → hold ∷ holds ≢ []
  no_hold hold holds is = absurd (let long = ap length is in omega (arith, long))

  holds_of-first : (hold : Hold S) (holds : List (Hold S)) → holds_of hold.who (hold ∷ holds) ≡ hold ∷ holds_of hold.who holds
  holds_of-first hold holds =
      cond-true (eqb hold.who hold.who) (hold ∷ holds_of hold.who holds) (holds_of hold.who holds) (eq-eqb hold.who hold.who refl)

  pub holds_of-other : (hold : Hold S) (holds : List (Hold S)) (other : ℕ) → other ≢ hold.who → holds_of other (hold ∷ holds) ≡ holds_of other holds
  holds_of-other hold holds other apart =
      cond-false (eqb hold.who other) (hold ∷ holds_of other holds) (holds_of other holds) (ne_eqb hold.who other (λ same. apart (sym same)))

module _ {L S : Type 0} where
  -- deeds as turns of one participant
  turns_by : ℕ → List (Deed L S) → List (Turn L S)
  turns_by who deeds = map (λ (deed : Deed L S). record { who = who; deed = deed }) deeds

  deeds_of-append : (who : ℕ) (turns more : List (Turn L S)) → deeds_of who (turns ++ more) ≡ deeds_of who turns ++ deeds_of who more
  deeds_of-append who turns more =
      ap (map (λ (turn : Turn L S). turn.deed)) (filter-append (λ (turn : Turn L S). eqb turn.who who) turns more)
      ∙ map-append (λ (turn : Turn L S). turn.deed) (filter (λ (turn : Turn L S). eqb turn.who who) turns)
      (filter (λ (turn : Turn L S). eqb turn.who who) more)

  deeds_of-first : (turn : Turn L S) (turns : List (Turn L S)) → deeds_of turn.who (turn ∷ turns) ≡ turn.deed ∷ deeds_of turn.who turns
  deeds_of-first turn turns =
      ap (map (λ (one : Turn L S). one.deed))
      (cond-true (eqb turn.who turn.who) (turn ∷ filter (λ (one : Turn L S). eqb one.who turn.who) turns)
      (filter (λ (one : Turn L S). eqb one.who turn.who) turns) (eq-eqb turn.who turn.who refl))

  deeds_of-other : (turn : Turn L S) (turns : List (Turn L S)) (other : ℕ) → other ≢ turn.who → deeds_of other (turn ∷ turns) ≡ deeds_of other turns
  deeds_of-other turn turns other apart =
      ap (map (λ (one : Turn L S). one.deed))
      (cond-false (eqb turn.who other) (turn ∷ filter (λ (one : Turn L S). eqb one.who other) turns)
      (filter (λ (one : Turn L S). eqb one.who other) turns) (ne_eqb turn.who other (λ same. apart (sym same))))

  deeds_of-own : (who : ℕ) (deeds : List (Deed L S)) → deeds_of who (turns_by who deeds) ≡ deeds
  unfolding turns_by
  deeds_of-own who [] = refl
  deeds_of-own who (deed ∷ deeds) =
      deeds_of-first (record { who = who; deed = deed }) (turns_by who deeds)
      ∙ ap (λ (more : List (Deed L S)). deed ∷ more) (deeds_of-own who deeds)

  deeds_of-others : (who other : ℕ) (deeds : List (Deed L S)) → other ≢ who → deeds_of other (turns_by who deeds) ≡ []
  unfolding turns_by
  deeds_of-others who other [] apart = refl
  deeds_of-others who other (deed ∷ deeds) apart =
      deeds_of-other (record { who = who; deed = deed }) (turns_by who deeds) other apart ∙ deeds_of-others who other deeds apart

  holds_among-append : (turns more : List (Turn L S)) → holds_among (turns ++ more) ≡ holds_among turns ++ holds_among more
  holds_among-append [] more = refl
  holds_among-append (turn ∷ turns) more =
      ap (λ (holds : List (Hold S)). holds_in turn.who (turn.deed ∷ []) ++ holds) (holds_among-append turns more)
      ∙ sym (append-assoc (holds_in turn.who (turn.deed ∷ [])) (holds_among turns) (holds_among more))
    where
      append-assoc : (xs ys zs : List (Hold S)) → (xs ++ ys) ++ zs ≡ xs ++ (ys ++ zs)
      append-assoc [] ys zs = refl
      append-assoc (x ∷ xs) ys zs = ap (λ (l : List (Hold S)). x ∷ l) (append-assoc xs ys zs)

  holds_among-own : (who : ℕ) (deeds : List (Deed L S)) → holds_among (turns_by who deeds) ≡ holds_in who deeds
  unfolding turns_by
  holds_among-own who [] = refl
  holds_among-own who (Deed.Alone old new ∷ deeds) = holds_among-own who deeds
  holds_among-own who (Deed.Holding old new taken given ∷ deeds) =
      ap (λ (holds : List (Hold S)). record { who = who; taken = taken; given = given } ∷ holds) (holds_among-own who deeds)

  runs_then : (first mid last : Gathering L S) (turns more : List (Turn L S)) → Runs first turns mid → Runs mid more last
      → Runs first (turns ++ more) last
  runs_then first mid last [] more same next = subst (λ (at : Gathering L S). Runs at more last) same next
  runs_then first mid last (turn ∷ turns) more runs next =
      (runs.0, runs_then (after_deed turn.who turn.deed first) mid last turns more runs.1 next)

  leads_then : (before behind : List (Deed L S)) (first last : L) → LeadTo first (before ++ behind) last
      → (mid : L) × LeadTo first before mid × LeadTo mid behind last
  leads_then [] behind first last leads = (first, refl, leads)
  leads_then (Deed.Alone old new ∷ before) behind first last leads =
      let rest = leads_then before behind new last leads.1 in (rest.0, (leads.0, rest.1), rest.2)
  leads_then (Deed.Holding old new taken given ∷ before) behind first last leads =
      let rest = leads_then before behind new last leads.1 in (rest.0, (leads.0, rest.1), rest.2)

  -- a participant stands elsewhere
  abbrev placed : ℕ → L → Gathering L S → Gathering L S
  placed who seat at = record { seats = slice_set at.seats who seat; value = at.value }

  -- deeds of one participant without the value, while nobody else does anything
  runs_alone : (who : ℕ) (deeds : List (Deed L S)) (at : Gathering L S) (old new : L) → holds_in who deeds ≡ [] → LeadTo old deeds new
      → slice_get at.seats who ≡ Some old → Runs at (turns_by who deeds) (placed who new at)
  unfolding turns_by
  runs_alone who [] at old new none leads there =
      let stays : slice_set at.seats who new ≡ at.seats = set_as_it_is at.seats who new (there ∙ ap Some (sym leads)) in
      λ i. record { seats = stays i; value = at.value }
  runs_alone who (Deed.Alone from to ∷ deeds) at old new none leads there =
      let next : Gathering L S = placed who to at in
      let rest : Runs next (turns_by who deeds) (placed who new next) =
      runs_alone who deeds next to new none leads.1 (set_here at.seats who to (slice_get_within at.seats who old there)) in (
        there ∙ ap Some (sym leads.0),
        subst (λ (seats : List L). Runs next (turns_by who deeds) (record { seats = seats; value = at.value })) (set-set at.seats who to new) rest,
      )
  runs_alone who (Deed.Holding from to taken given ∷ deeds) at old new none leads there = absurd (cc)

  -- a participant's deeds up to its first hold, which is this one, and those that are left
  record UpToHold (who : ℕ) (deeds : List (Deed L S)) (hold : Hold S) (holds : List (Hold S)) : Type 0 where
    before : List (Deed L S)
    from : L
    to : L
    behind : List (Deed L S)
    are : deeds ≡ before ++ (Deed.Holding from to hold.taken hold.given ∷ behind)
    none : holds_in who before ≡ []
    left : holds_in who behind ≡ holds

  up_to_hold : (who : ℕ) (deeds : List (Deed L S)) (hold : Hold S) (holds : List (Hold S)) → holds_in who deeds ≡ hold ∷ holds
      → UpToHold who deeds hold holds
  unfolding first_hold later_holds
  up_to_hold who [] hold holds is = absurd (cc)
  up_to_hold who (Deed.Alone old new ∷ deeds) hold holds is =
      let next = up_to_hold who deeds hold holds is in
      record {
        before = Deed.Alone old new ∷ next.before;
        from = next.from;
        to = next.to;
        behind = next.behind;
        are = ap (λ (more : List (Deed L S)). Deed.Alone old new ∷ more) next.are;
        none = next.none;
        left = next.left;
      }
  up_to_hold who (Deed.Holding old new taken given ∷ deeds) hold holds is =
      let same : record { who = who; taken = taken; given = given } ≡ hold = ap (first_hold hold) is in
      record {
        before = [];
        from = old;
        to = new;
        behind = deeds;
        are = λ i. Deed.Holding old new (same i).taken (same i).given ∷ deeds;
        none = refl;
        left = ap later_holds is;
      }

  -- the first of them, so many, have come to their last seats by deeds without the value, and nobody else did anything
  record HaveEnded (count : ℕ) (first last : Gathering L S) (deeds : ℕ → List (Deed L S)) : Type 0 where
    turns : List (Turn L S)
    at : Gathering L S
    runs : Runs first turns at
    value : at.value ≡ first.value
    long : length at.seats ≡ length first.seats
    ended : (who : ℕ) (seat : L) → who < count → slice_get last.seats who ≡ Some seat → slice_get at.seats who ≡ Some seat
    others : (who : ℕ) → count ≤ who → slice_get at.seats who ≡ slice_get first.seats who
    own : (who : ℕ) → who < count → deeds_of who turns ≡ deeds who
    none : (who : ℕ) → count ≤ who → deeds_of who turns ≡ []
    held : holds_among turns ≡ []

  module _ (first last : Gathering L S) (deeds : ℕ → List (Deed L S)) (long : length last.seats ≡ length first.seats)
      (leads : (who : ℕ) (old new : L) → slice_get first.seats who ≡ Some old → slice_get last.seats who ≡ Some new
      → LeadTo old (deeds who) new)
      (alone : (who : ℕ) → holds_in who (deeds who) ≡ []) where
    one_more : (who : ℕ) → who < length first.seats → HaveEnded who first last deeds → HaveEnded (who + 1) first last deeds
    one_more who below before =
        let old = element_in first.seats who below in
        let new = element_in last.seats who (subst (λ (n : ℕ). who < n) (sym long) below) in
        let there : slice_get before.at.seats who ≡ Some old.0 = before.others who (omega arith) ∙ old.1 in
        let own : List (Turn L S) = turns_by who (deeds who) in
        record {
          turns = before.turns ++ own;
          at = placed who new.0 before.at;
          runs = runs_then first before.at (placed who new.0 before.at) before.turns own before.runs
              (runs_alone who (deeds who) before.at old.0 new.0 (alone who) (leads who old.0 new.0 old.1 new.1) there);
          value = before.value;
          long = length-set before.at.seats who new.0 ∙ before.long;
          ended = λ other seat within is. ⊎_elim
              (λ (same : other ≡ who).
              ap (slice_get (slice_set before.at.seats who new.0)) same
              ∙ set_here before.at.seats who new.0 (slice_get_within before.at.seats who old.0 there)
              ∙ sym new.1 ∙ ap (slice_get last.seats) (sym same) ∙ is)
              (λ (apart : other ≢ who).
              set_else before.at.seats who other new.0 apart ∙ before.ended other seat (omega (arith, within, apart)) is)
              (cases_eq other who);
          others = λ other more.
              set_else before.at.seats who other new.0 (λ same. omega (arith, more, same)) ∙ before.others other (omega (arith, more));
          own = λ other within.
              deeds_of-append other before.turns own ∙ ⊎_elim
              (λ (same : other ≡ who).
              (λ i. before.none other (omega (arith, same)) i ++ deeds_of (same i) (turns_by who (deeds who)))
              ∙ deeds_of-own who (deeds who) ∙ ap deeds (sym same))
              (λ (apart : other ≢ who).
              (λ i. before.own other (omega (arith, within, apart)) i ++ deeds_of-others who other (deeds who) apart i)
              ∙ append_nil (deeds other))
              (cases_eq other who);
          none = λ other more.
              deeds_of-append other before.turns own
              ∙ (λ i. before.none other (omega (arith, more)) i ++ deeds_of-others who other (deeds who) (λ same. omega (arith, more, same)) i);
          held =
              holds_among-append before.turns own
              ∙ (λ i. before.held i ++ (holds_among-own who (deeds who) ∙ alone who) i);
        }
      where
        append_nil : (xs : List (Deed L S)) → xs ++ [] ≡ xs
        append_nil [] = refl
        append_nil (x ∷ xs) = ap (λ (l : List (Deed L S)). x ∷ l) (append_nil xs)

    -- all have, one after another
    all_end : (count : ℕ) → count ≤ length first.seats → HaveEnded count first last deeds
    all_end zero within = record {
      turns = [];
      at = first;
      runs = refl;
      value = refl;
      long = refl;
      ended = λ who seat below is. absurd (omega (arith, below));
      others = λ who more. refl;
      own = λ who below. absurd (omega (arith, below));
      none = λ who more. refl;
      held = refl;
    }
    all_end (suc n) within =
        subst (λ (k : ℕ). HaveEnded k first last deeds) (omega arith) (one_more n (omega (arith, within)) (all_end n (omega (arith, within))))

  -- where nobody holds the value
  quietly : (first last : Gathering L S) (deeds : ℕ → List (Deed L S)) → GoApart first last deeds [] → GoTogether first last deeds []
  quietly first last deeds apart =
      let end = all_end first last deeds apart.count apart.leads (λ who. sym (apart.own who)) (length first.seats) (omega arith) in
      let seats : last.seats ≡ end.at.seats = same_elements last.seats end.at.seats (apart.count ∙ sym end.long)
      (λ who x y here there. let below : who < length first.seats = subst (λ (n : ℕ). who < n) apart.count (slice_get_within last.seats who x here) in
      same_Some x y (sym (end.ended who x below here) ∙ there)) in
      let value : last.value ≡ end.at.value = apart.chain ∙ sym end.value in
      record {
        turns = end.turns;
        runs = subst (λ (at : Gathering L S). Runs first end.turns at) (λ i. record { seats = sym seats i; value = sym value i }) end.runs;
        own = λ who. ⊎_elim
            (λ (below : who < length first.seats). end.own who below)
            (λ (more : length first.seats ≤ who). end.none who more ∙ sym (apart.nobody_else who more))
            (cases_lt who (length first.seats));
        held = end.held;
      }

  -- what is left for each once one of them has only these deeds left
  abbrev with_left : ℕ → List (Deed L S) → (ℕ → List (Deed L S)) → ℕ → List (Deed L S)
  with_left who left deeds other = cond (eqb other who) left (deeds other)

  left_here : (who : ℕ) (left : List (Deed L S)) (deeds : ℕ → List (Deed L S)) (other : ℕ) → other ≡ who → with_left who left deeds other ≡ left
  left_here who left deeds other same = cond-true (eqb other who) left (deeds other) (eq-eqb other who same)

  left_else : (who : ℕ) (left : List (Deed L S)) (deeds : ℕ → List (Deed L S)) (other : ℕ) → other ≢ who
      → with_left who left deeds other ≡ deeds other
  left_else who left deeds other apart = cond-false (eqb other who) left (deeds other) (ne_eqb other who apart)

  -- the first hold was made, and this is left
  after_hold : (first last : Gathering L S) (deeds : ℕ → List (Deed L S)) (hold : Hold S) (holds : List (Hold S))
      → GoApart first last deeds (hold ∷ holds) → (split : UpToHold hold.who (deeds hold.who) hold (holds_of hold.who holds))
      → hold.who < length first.seats → (mid new : L) → slice_get last.seats hold.who ≡ Some new → LeadTo split.to split.behind new
      → GoApart (record { seats = slice_set (slice_set first.seats hold.who mid) hold.who split.to; value = hold.given }) last
      (with_left hold.who split.behind deeds) holds
  after_hold first last deeds hold holds apart split below mid new at_last leads =
      let who : ℕ = hold.who in
      let moved : List L = slice_set first.seats who mid in
      let long : length (slice_set moved who split.to) ≡ length first.seats = length-set moved who split.to ∙ length-set first.seats who mid in
      let inside : who < length moved = subst (λ (n : ℕ). who < n) (sym (length-set first.seats who mid)) below in
      record {
        count = apart.count ∙ sym long;
        leads = λ other a b here there. ⊎_elim
            (λ (same : other ≡ who).
            let its : split.to ≡ a = same_Some split.to a (sym (set_here moved who split.to inside) ∙ ap (slice_get (slice_set moved who split.to)) (sym same) ∙ here) in
            let end : new ≡ b = same_Some new b (sym at_last ∙ ap (slice_get last.seats) (sym same) ∙ there) in
            subst (λ (ds : List (Deed L S)). LeadTo a ds b) (sym (left_here who split.behind deeds other same))
            (subst (λ (x : L). LeadTo x split.behind b) its (subst (λ (x : L). LeadTo split.to split.behind x) end leads)))
            (λ (beside : other ≢ who).
            subst (λ (ds : List (Deed L S)). LeadTo a ds b) (sym (left_else who split.behind deeds other beside))
            (apart.leads other a b
            (sym (set_else moved who other split.to beside ∙ set_else first.seats who other mid beside) ∙ here) there))
            (cases_eq other who);
        nobody_else = λ other over.
            left_else who split.behind deeds other (λ same. omega (arith, below, long, over, same))
            ∙ apart.nobody_else other (subst (λ (n : ℕ). n ≤ other) long over);
        chain = apart.chain.1;
        own = λ other. ⊎_elim
            (λ (same : other ≡ who).
            ap (λ (w : ℕ). holds_of w holds) same ∙ sym split.left
            ∙ (λ i. holds_in (sym same i) (sym (left_here who split.behind deeds other same) i)))
            (λ (beside : other ≢ who).
            sym (holds_of-other hold holds other beside) ∙ apart.own other
            ∙ ap (holds_in other) (sym (left_else who split.behind deeds other beside)))
            (cases_eq other who);
      }

  -- a participant's own deeds: those before its hold, the hold, and those that are left
  own_deeds : (who : ℕ) (deeds : ℕ → List (Deed L S)) {hold : Hold S} {holds : List (Hold S)} (split : UpToHold who (deeds who) hold holds)
      (turn : Turn L S) (turns : List (Turn L S)) → turn.who ≡ who → turn.deed ≡ Deed.Holding split.from split.to hold.taken hold.given
      → deeds_of who turns ≡ split.behind → deeds_of who (turns_by who split.before) ++ deeds_of who (turn ∷ turns) ≡ deeds who
  own_deeds who deeds {hold = hold} split turn turns its deed rest =
      let first : deeds_of who (turn ∷ turns) ≡ turn.deed ∷ deeds_of who turns =
      subst (λ (w : ℕ). deeds_of w (turn ∷ turns) ≡ turn.deed ∷ deeds_of w turns) its (deeds_of-first turn turns) in
      (λ i. deeds_of-own who split.before i ++ first i)
      ∙ (λ i. split.before ++ (deed i ∷ rest i))
      ∙ sym split.are

  -- so are those of each other one, who does nothing meanwhile
  own_after : (who : ℕ) (deeds : ℕ → List (Deed L S)) {hold : Hold S} {holds : List (Hold S)} (split : UpToHold who (deeds who) hold holds)
      (turn : Turn L S) (turns : List (Turn L S)) → turn.who ≡ who → turn.deed ≡ Deed.Holding split.from split.to hold.taken hold.given
      → ((other : ℕ) → deeds_of other turns ≡ with_left who split.behind deeds other) → (other : ℕ)
      → deeds_of other (turns_by who split.before ++ (turn ∷ turns)) ≡ deeds other
  own_after who deeds split turn turns its deed rest other =
      let before : List (Turn L S) = turns_by who split.before in
      deeds_of-append other before (turn ∷ turns) ∙ ⊎_elim
      (λ (same : other ≡ who).
      subst (λ (w : ℕ). deeds_of w before ++ deeds_of w (turn ∷ turns) ≡ deeds w) (sym same)
      (own_deeds who deeds split turn turns its deed (rest who ∙ left_here who split.behind deeds who refl)))
      (λ (beside : other ≢ who).
      (λ i. deeds_of-others who other split.before beside i ++ deeds_of-other turn turns other (λ same. beside (same ∙ its)) i)
      ∙ rest other ∙ left_else who split.behind deeds other beside)
      (cases_eq other who)

  -- the hold comes first among all holds
  held_after : (who : ℕ) (before : List (Deed L S)) → holds_in who before ≡ [] → (turn : Turn L S) (turns : List (Turn L S)) (hold : Hold S)
      (holds : List (Hold S)) → holds_in turn.who (turn.deed ∷ []) ≡ hold ∷ [] → holds_among turns ≡ holds
      → holds_among (turns_by who before ++ (turn ∷ turns)) ≡ hold ∷ holds
  held_after who before none turn turns hold holds one rest =
      let first : holds_among (turns_by who before) ≡ [] = holds_among-own who before ∙ none in
      holds_among-append (turns_by who before) (turn ∷ turns) ∙ (λ i. first i ++ (one i ++ rest i))

  -- one hold after another
  pub together : (holds : List (Hold S)) (first last : Gathering L S) (deeds : ℕ → List (Deed L S)) → GoApart first last deeds holds
      → GoTogether first last deeds holds
  together [] first last deeds apart = quietly first last deeds apart
  together (hold ∷ holds) first last deeds apart =
      let who : ℕ = hold.who in
      let own : hold ∷ holds_of who holds ≡ holds_in who (deeds who) = sym (holds_of-first hold holds) ∙ apart.own who in
      let split : UpToHold who (deeds who) hold (holds_of who holds) = up_to_hold who (deeds who) hold (holds_of who holds) (sym own) in
      let below : who < length first.seats = ⊎_elim
      (λ (under : who < length first.seats). under)
      (λ (over : length first.seats ≤ who). absurd (no_hold hold (holds_of who holds) (own ∙ ap (holds_in who) (apart.nobody_else who over))))
      (cases_lt who (length first.seats)) in
      let old : (x : L) × (slice_get first.seats who ≡ Some x) = element_in first.seats who below in
      let new : (x : L) × (slice_get last.seats who ≡ Some x) =
      element_in last.seats who (subst (λ (n : ℕ). who < n) (sym apart.count) below) in
      let parts =
      leads_then split.before (Deed.Holding split.from split.to hold.taken hold.given ∷ split.behind) old.0 new.0
      (subst (λ (ds : List (Deed L S)). LeadTo old.0 ds new.0) split.are (apart.leads who old.0 new.0 old.1 new.1)) in
      let mid : Gathering L S = placed who parts.0 first in
      let at_mid : slice_get mid.seats who ≡ Some parts.0 = set_here first.seats who parts.0 below in
      let next : Gathering L S = record { seats = slice_set mid.seats who split.to; value = hold.given } in
      let left : ℕ → List (Deed L S) = with_left who split.behind deeds in
      let after : GoApart next last left holds =
      after_hold first last deeds hold holds apart split below parts.0 (new.0) new.1 parts.2.1 in
      let rest : GoTogether next last left holds = together holds next last left after in
      let before : List (Turn L S) = turns_by who split.before in
      let turn : Turn L S = record { who = who; deed = Deed.Holding split.from split.to hold.taken hold.given } in
      record {
        turns = before ++ (turn ∷ rest.turns);
        runs = runs_then first mid last before (turn ∷ rest.turns)
            (runs_alone who split.before first old.0 parts.0 split.none parts.1 old.1)
            ((at_mid ∙ ap Some (sym parts.2.0), apart.chain.0), rest.runs);
        own = own_after who deeds split turn rest.turns refl refl rest.own;
        held = held_after who split.before split.none turn rest.turns hold holds refl rest.held;
      }
