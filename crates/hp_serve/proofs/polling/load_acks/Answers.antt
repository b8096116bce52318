-- One more number is loaded.
use Rattle.std.proofs.Common.{◌≡◌, ◌∙◌, ◌+◌, ◌<◌, ◌≤◌, ◌≢◌, ℕ, zero, suc, List, [], ◌∷◌, ◌++◌, length, refl, ap, sym, subst, arith, get_or-set_other, get_or-set_same, below_more}
use Rattle.std.specs.Prelude.{nat_lt, slice_index, slice_set, if◌then◌else◌}
use Rattle.std.proofs.Math.ListN.{length-set}
use Rattle.std.proofs.lemmas.List.{get_or-replicate}
use Rattle.hp_hall.specs.HallState.{Did, known_to}
use Rattle.hp_hall.proofs.HallStates.{did_same, did_then, stays_same, stays_then}
use Rattle.hp_hall.specs.Mail.{MailStep, Notes}
use Rattle.hp_hall.specs.declared.note.Note.TheVariants.{Loaded}
use Rattle.hp_serve.specs.Coordinating.{loads_of}
use Rattle.hp_serve.proofs.MemberLemmas.{at_each}
use Rattle.hp_serve.proofs.polling.load_acks.Goals as goal

acks_more : (acks : List ℕ) (i value : ℕ) (noted later : ℕ → ℕ) → i < length acks → ((k : ℕ) → k < i → slice_index acks k ≤ noted k)
    → ((k : ℕ) → noted k ≤ later k) → value ≤ later i → (k : ℕ) → k < i + 1 → slice_index (slice_set acks i value) k ≤ later k
acks_more acks i value noted later inside so_far grows here =
    below_more (λ (k : ℕ). slice_index (slice_set acks i value) k ≤ later k) i
    (λ k below.
    let apart : k ≢ i = omega arith in
    let fact : slice_index acks k ≤ later k = omega (arith, so_far k below, grows k) in
    rw get_or-set_other fact)
    (rw get_or-set_same here)

-- what was looked up before does not depend on a later number
loads_stay : (count : ℕ) (acks : List ℕ) (i value n : ℕ) → n ≤ i → loads_of count (slice_set acks i value) n ≡ loads_of count acks n
unfolding loads_of
loads_stay count acks i value zero early = refl
loads_stay count acks i value (suc n) early =
    let apart : n ≢ i = omega arith in
    let here : slice_index (slice_set acks i value) n ≡ slice_index acks n = get_or-set_other acks i n value 0 apart in
    ap (λ (steps : List MailStep). steps ++ (if nat_lt n count then Notes (Loaded n (slice_index (slice_set acks i value) n)) ∷ [] else []))
    (loads_stay count acks i value n (omega arith))
    ∙ ap (λ (number : ℕ). loads_of count acks n ++ (if nat_lt n count then Notes (Loaded n number) ∷ [] else [])) here

-- one more is looked up
loads_more : (count : ℕ) (acks : List ℕ) (i value next : ℕ) → i < length acks → next ≡ suc i
    → loads_of count acks i ++ (if nat_lt i count then Notes (Loaded i value) ∷ [] else []) ≡ loads_of count (slice_set acks i value) next
unfolding loads_of
loads_more count acks i value next inside is =
    let here : slice_index (slice_set acks i value) i ≡ value = get_or-set_same acks i value 0 inside in
    sym
    (ap (loads_of count (slice_set acks i value)) is
    ∙ ap (λ (steps : List MailStep). steps ++ (if nat_lt i count then Notes (Loaded i (slice_index (slice_set acks i value) i)) ∷ [] else []))
    (loads_stay count acks i value i (omega arith))
    ∙ ap (λ (number : ℕ). loads_of count acks i ++ (if nat_lt i count then Notes (Loaded i number) ∷ [] else [])) here)

-- who the hall doesn't have keeps 0
nobody_more : (count : ℕ) (acks : List ℕ) (i value : ℕ) → i < length acks
    → ((k : ℕ) → count ≤ k → k < 16 → slice_index acks k ≡ 0) → (count ≤ i → value ≡ 0)
    → (k : ℕ) → count ≤ k → k < 16 → slice_index (slice_set acks i value) k ≡ 0
nobody_more count acks i value inside so_far here =
    at_each (λ (k : ℕ). count ≤ k → k < 16 → slice_index (slice_set acks i value) k ≡ 0) i
    (λ past few. get_or-set_same acks i value 0 inside ∙ here past)
    (λ k apart past few. get_or-set_other acks i k value 0 apart ∙ so_far k past few)

-- nothing is looked up at first
loads_none : (count : ℕ) (acks : List ℕ) → [] ≡ loads_of count acks 0
unfolding loads_of
loads_none count acks = refl

pub loop-member-init : goal.loop-member-init
loop-member-init g c =
    let old = g.H.Hall.state c.args.hall.now in
    record {
      places = refl;
      noted = λ member early. omega arith;
      did = subst (λ (steps : List MailStep). Did 0 steps old old) (loads_none old.count _) (did_same 0 old);
      nobody = λ member past few. get_or-replicate 16 member 0 0 few;
      stays = stays_same 0 old;
      measure = omega arith;
      goes_on = g.met.H.Hall.goes_on_same _;
    }

pub loop-member-preserved : goal.loop-member-preserved
loop-member-preserved g c =
    let was = c.loop-member.invariant in
    let one = c.load_number.ensures in
    let old = g.H.Hall.state c.args.hall.now in
    let mid = g.H.Hall.state c.loop-member.hall in
    let new = g.H.Hall.state c.load_number.new.hall in
    let places = was.places in
    let below = c.loop-member-test.true in
    record {
      places = length-set c.loop-member.acks c.loop-member.member c.load_number.result ∙ places;
      noted =
          acks_more c.loop-member.acks c.loop-member.member c.load_number.result (known_to 0 mid).noted (known_to 0 new).noted (omega (arith, places, below))
          was.noted (λ k. (one.stays.others.later.noted 0 k).number) one.noted;
      did = subst (λ (steps : List MailStep). Did 0 steps old new)
          (loads_more old.count c.loop-member.acks c.loop-member.member c.load_number.result _ (omega (arith, places, below)) (omega arith))
          (did_then was.did
          (subst (λ (count : ℕ). Did 0 (if nat_lt c.loop-member.member count then Notes (Loaded c.loop-member.member c.load_number.result) ∷ [] else []) mid new)
          c.participants-count.ensures one.did));
      nobody =
          nobody_more old.count c.loop-member.acks c.loop-member.member c.load_number.result (omega (arith, places, below)) was.nobody
          (λ past. one.nobody (subst (λ (count : ℕ). count ≤ c.loop-member.member) (sym c.participants-count.ensures) past));
      stays = stays_then was.stays one.stays;
      measure =
          let lighter = one.measure in
          let so_far = was.measure in
          omega (arith, lighter, so_far);
      goes_on = g.met.H.Hall.goes_on_then _ _ _ was.goes_on one.goes_on;
    }

pub returns-clause-did : goal.returns-clause-did
returns-clause-did g c =
    let was = c.loop-member.invariant in
    let all : c.loop-member.member ≡ 16 = omega (arith, c.loop-member-test.false, c.loop-member.auto.member-end) in (
      loads_of (g.H.Hall.state c.args.hall.now).count c.loop-member.acks c.loop-member.member,
      was.did,
      record { looked_up = ap (loads_of (g.H.Hall.state c.args.hall.now).count c.loop-member.acks) all; nobody = was.nobody },
    )
