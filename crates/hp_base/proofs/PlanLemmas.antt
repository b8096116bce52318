-- What a plan says of what an entry names, and how its index goes on.
use Rattle.std.proofs.Common.{◌≡◌, ℕ, zero, suc, ◌<◌, List, [], ◌∷◌, ◌++◌, length, Bool, true, false, ◌&&◌, ◌==◌, Option, Some, None, cond, refl, sym, subst, ap, ◌∙◌, arith, inl, inr, get_or}
use Rattle.std.proofs.lemmas.Bool.{cases_Bool, cond-true, cond-false, both_ways, and_parts, and_from, eqb-true, eq-eqb}
use Rattle.std.proofs.lemmas.List.Elements.{Contains-append_right, Contains-append_cases, Contains-push_cases}
use Rattle.std.proofs.lemmas.List.Folds.{find-append, list_any_at}
use Rattle.std.proofs.lemmas.List.Quantifiers.{all_pairs_push}
use Rattle.std.specs.HashMap.{HashMap, Updates, get}
use Rattle.std.specs.Option.{option_map_or, option_or}
use Rattle.std.specs.Prelude.{Contains, find, unwrap_or}
use Rattle.std.specs.declared.hash.FoldHasher.{FoldHasher}
use Rattle.std.specs.declared.hash.BuildHasherDefault.{BuildHasherDefault}
use Rattle.hp_base.specs.PlanIndex.{IsIndexed, entry_named, is_named, mapping_named, message_named, named_by}
use Rattle.hp_base.specs.Plans.{IsAction, IsMapAction, IsOtherEntry, entry_action, entry_map_action, has_named, kind_place, names_same}
use Rattle.hp_base.specs.declared.named.Named.{Named}
use Rattle.hp_base.specs.declared.plan.Action.TheVariants.{Deliver}
use Rattle.hp_base.specs.declared.plan.MapAction.TheVariants.{Ask}
use Rattle.hp_base.specs.declared.plan_entry.MsgKind.{MsgKind}
use Rattle.hp_base.specs.declared.plan_entry.MsgKind.TheVariants as kinds
use Rattle.hp_base.specs.declared.plan_entry.PlanEntry.{PlanEntry}
use Rattle.hp_base.specs.declared.plan_entry.PlanEntry.TheVariants.{Message, Mapping}

-- what is found is an element that passes
found_is : {X : Type 0} (p : X → Bool) (xs : List X) (x : X) → find p xs ≡ Some x → Contains xs x × (p x ≡ true)
found_is p [] x is = absurd (cc)
found_is p (y ∷ ys) x is = elim (cases_Bool (p y)) [
  | inl passes ↦
      (let same : y ≡ x = ap (λ o. unwrap_or o y) (sym (cond-true (p y) (Some y) (find p ys) passes) ∙ is) in
      let front : Contains (y ∷ ys) y = (0, omega arith, refl) in
      subst (λ z. Contains (y ∷ ys) z × (p z ≡ true)) same (front, passes))
  | inr fails ↦
      (let (has, holds) = found_is p ys x (sym (cond-false (p y) (Some y) (find p ys) fails) ∙ is) in
      (Contains-append_right (y ∷ []) ys x has, holds))
]

-- where nothing is found no element passes
none_is : {X : Type 0} (p : X → Bool) (xs : List X) (x : X) → find p xs ≡ None → Contains xs x → p x ≡ true → ⊥
none_is p [] x is has holds = omega (arith, has.1)
none_is p (y ∷ ys) x is has holds = elim (cases_Bool (p y)) [
  | inl passes ↦ (let found : Some y ≡ None = sym (cond-true (p y) (Some y) (find p ys) passes) ∙ is in cc)
  | inr fails ↦ elim (Contains-append_cases (y ∷ []) ys x has) [
    | inl front ↦ elim (Contains-push_cases [] y x front) [
      | inl nothing ↦ omega (arith, nothing.1)
      | inr same ↦ both_ways (p y) fails (subst (λ z. p z ≡ true) (sym same) holds)
    ]
    | inr later ↦ none_is p ys x (sym (cond-false (p y) (Some y) (find p ys) fails) ∙ is) later holds
  ]
]

kind_at : ℕ → MsgKind
kind_at zero = kinds.Alloc
kind_at (suc zero) = kinds.Free
kind_at (suc (suc zero)) = kinds.Sync
kind_at (suc (suc (suc zero))) = kinds.Reply
kind_at (suc (suc (suc (suc n)))) = kinds.Answer

kind_at-place : (kind : MsgKind) → kind_at (kind_place kind) ≡ kind
unfolding kind_at
kind_at-place kinds.Alloc = refl
kind_at-place kinds.Free = refl
kind_at-place kinds.Sync = refl
kind_at-place kinds.Reply = refl
kind_at-place kinds.Answer = refl

kind_place-below : (kind : MsgKind) → kind_place kind < 5
kind_place-below kinds.Alloc = omega arith
kind_place-below kinds.Free = omega arith
kind_place-below kinds.Sync = omega arith
kind_place-below kinds.Reply = omega arith
kind_place-below kinds.Answer = omega arith

same_kind : (kind other : MsgKind) → kind_place kind ≡ kind_place other → kind ≡ other
same_kind kind other same = sym (kind_at-place kind) ∙ ap kind_at same ∙ kind_at-place other

-- a name is itself, and what is named so is the same
is_named-refl : (named : Named) → is_named named named ≡ true
is_named-refl named = and_from (named.kind == named.kind) ((named.party == named.party) && (named.count == named.count)) (eq-eqb named.kind named.kind refl)
    (and_from (named.party == named.party) (named.count == named.count) (eq-eqb named.party named.party refl) (eq-eqb named.count named.count refl))

same_named : (named other : Named) → is_named named other ≡ true → named ≡ other
same_named named other is =
    let (kind, rest) = and_parts (named.kind == other.kind) ((named.party == other.party) && (named.count == other.count)) is in
    let (party, count) = and_parts (named.party == other.party) (named.count == other.count) rest in
    let kind_is = eqb-true named.kind other.kind kind in
    let party_is = eqb-true named.party other.party party in
    let count_is = eqb-true named.count other.count count in
    ap (λ (x : ℕ). record { kind = x; party = named.party; count = named.count }) kind_is
    ∙ ap (λ (x : ℕ). record { kind = other.kind; party = x; count = named.count }) party_is
    ∙ ap (λ (x : ℕ). record { kind = other.kind; party = other.party; count = x }) count_is

-- what an entry of a message does to it, and what one of a mapping call does
message_named_by : (plan : List PlanEntry) (kind : MsgKind) (party k : ℕ) (entry : PlanEntry) → Contains plan entry
    → is_named (message_named kind party k) (named_by entry) ≡ true → IsAction plan kind party k (entry_action entry)
message_named_by plan kind party k (Message its_kind its_party its_k twice line) has named =
    let (kinds_same, rest) = and_parts (kind_place kind == kind_place its_kind) ((party == its_party) && (k == its_k)) named in
    let (parties_same, counts_same) = and_parts (party == its_party) (k == its_k) rest in
    let kind_is : its_kind ≡ kind = sym (same_kind kind its_kind (eqb-true (kind_place kind) (kind_place its_kind) kinds_same)) in
    let party_is : its_party ≡ party = sym (eqb-true party its_party parties_same) in
    let k_is : its_k ≡ k = sym (eqb-true k its_k counts_same) in
    by_twice twice (subst (λ z. Contains plan (Message kind party z twice line)) k_is
    (subst (λ z. Contains plan (Message kind z its_k twice line)) party_is
    (subst (λ z. Contains plan (Message z its_party its_k twice line)) kind_is has)))
  where
    by_twice : (twice : Bool) → Contains plan (Message kind party k twice line) → IsAction plan kind party k (entry_action (Message its_kind its_party its_k twice line))
    by_twice true has = has
    by_twice false has = has
message_named_by plan kind party k (Mapping its_party its_call elsewhere line) has named =
    let (kinds_same, _) = and_parts (kind_place kind == 5) ((party == its_party) && (k == its_call)) named in
    absurd (omega (arith, eqb-true (kind_place kind) 5 kinds_same, kind_place-below kind))

mapping_named_by : (plan : List PlanEntry) (party call : ℕ) (entry : PlanEntry) → Contains plan entry
    → is_named (mapping_named party call) (named_by entry) ≡ true → IsMapAction plan party call (entry_map_action entry)
mapping_named_by plan party call (Message its_kind its_party its_k twice line) has named =
    let (kinds_same, _) = and_parts (5 == kind_place its_kind) ((party == its_party) && (call == its_k)) named in
    absurd (omega (arith, eqb-true 5 (kind_place its_kind) kinds_same, kind_place-below its_kind))
mapping_named_by plan party call (Mapping its_party its_call elsewhere line) has named =
    let (parties_same, counts_same) = and_parts (party == its_party) (call == its_call) named in
    let party_is : its_party ≡ party = sym (eqb-true party its_party parties_same) in
    let call_is : its_call ≡ call = sym (eqb-true call its_call counts_same) in
    by_elsewhere elsewhere (subst (λ z. Contains plan (Mapping party z elsewhere line)) call_is
    (subst (λ z. Contains plan (Mapping z its_call elsewhere line)) party_is has))
  where
    by_elsewhere : (elsewhere : Bool) → Contains plan (Mapping party call elsewhere line) → IsMapAction plan party call (entry_map_action (Mapping its_party its_call elsewhere line))
    by_elsewhere true has = has
    by_elsewhere false has = has

-- what is found under the name of a message is what becomes of it
pub message_planned : (plan : List PlanEntry) (kind : MsgKind) (party k : ℕ) (named : Named) (found : Option PlanEntry) → named ≡ message_named kind party k
    → found ≡ entry_named plan named → IsAction plan kind party k (option_map_or entry_action found Deliver)
message_planned plan kind party k named None named_is is = λ twice line has.
    none_is (λ entry. is_named (message_named kind party k) (named_by entry)) plan (Message kind party k twice line)
    (subst (λ name. entry_named plan name ≡ None) named_is (sym is)) has (is_named-refl (message_named kind party k))
message_planned plan kind party k named (Some entry) named_is is =
    let (has, holds) = found_is (λ entry. is_named (message_named kind party k) (named_by entry)) plan entry
    (subst (λ name. entry_named plan name ≡ Some entry) named_is (sym is)) in
    message_named_by plan kind party k entry has holds

-- what is found under the name of a mapping call is what becomes of it
pub mapping_planned : (plan : List PlanEntry) (party call : ℕ) (named : Named) (found : Option PlanEntry) → named ≡ mapping_named party call
    → found ≡ entry_named plan named → IsMapAction plan party call (option_map_or entry_map_action found Ask)
mapping_planned plan party call named None named_is is = λ elsewhere line has.
    none_is (λ entry. is_named (mapping_named party call) (named_by entry)) plan (Mapping party call elsewhere line)
    (subst (λ name. entry_named plan name ≡ None) named_is (sym is)) has (is_named-refl (mapping_named party call))
mapping_planned plan party call named (Some entry) named_is is =
    let (has, holds) = found_is (λ entry. is_named (mapping_named party call) (named_by entry)) plan entry
    (subst (λ name. entry_named plan name ≡ Some entry) named_is (sym is)) in
    mapping_named_by plan party call entry has holds

false_by_5 : (kind : MsgKind) (rest : Bool) → ((kind_place kind == 5) && rest) ≡ false
false_by_5 kinds.Alloc rest = refl
false_by_5 kinds.Free rest = refl
false_by_5 kinds.Sync rest = refl
false_by_5 kinds.Reply rest = refl
false_by_5 kinds.Answer rest = refl

false_of_5 : (kind : MsgKind) (rest : Bool) → ((5 == kind_place kind) && rest) ≡ false
false_of_5 kinds.Alloc rest = refl
false_of_5 kinds.Free rest = refl
false_of_5 kinds.Sync rest = refl
false_of_5 kinds.Reply rest = refl
false_of_5 kinds.Answer rest = refl

-- two entries name the same where their names are the same
names_same-named : (entry other : PlanEntry) → names_same entry other ≡ is_named (named_by entry) (named_by other)
names_same-named (Message kind party k twice line) (Message its_kind its_party its_k its_twice its_line) = refl
names_same-named (Message kind party k twice line) (Mapping its_party its_call elsewhere its_line) = sym (false_by_5 kind ((party == its_party) && (k == its_call)))
names_same-named (Mapping party call elsewhere line) (Message its_kind its_party its_k twice its_line) = sym (false_of_5 its_kind ((party == its_party) && (call == its_k)))
names_same-named (Mapping party call elsewhere line) (Mapping its_party its_call its_elsewhere its_line) = refl

or_none : (found : Option PlanEntry) → option_or found None ≡ found
or_none None = refl
or_none (Some entry) = refl

module _ (entries : List PlanEntry) (entry : PlanEntry) (new : has_named entries entry ≡ false) where
  apart_at : (place : ℕ) (default : PlanEntry) → place < length entries → names_same (get_or entries place default) entry ≡ false
  apart_at place default below = elim (cases_Bool (names_same (get_or entries place default) entry)) [
    | inl same ↦ absurd (both_ways (has_named entries entry) new (list_any_at (λ other. names_same other entry) entries place default below same))
    | inr apart ↦ apart
  ]

  -- nothing is found under the name of an entry that none names
  not_found : (found : Option PlanEntry) → entry_named entries (named_by entry) ≡ found → found ≡ None
  not_found None is = refl
  not_found (Some other) is =
      let (has, holds) = found_is (λ one. is_named (named_by entry) (named_by one)) entries other is in
      let same : named_by entry ≡ named_by other = same_named (named_by entry) (named_by other) holds in
      let (place, below, here) = has in
      let named : names_same other entry ≡ true = names_same-named other entry ∙ ap (λ name. is_named name (named_by entry)) (sym same) ∙ is_named-refl (named_by entry) in
      absurd (both_ways (has_named entries entry) new
      (list_any_at (λ one. names_same one entry) entries place other below (subst (λ one. names_same one entry ≡ true) (sym here) named)))

  at_its_name : (named : Named) → named_by entry ≡ named
      → Some entry ≡ option_or (entry_named entries named) (cond (is_named named (named_by entry)) (Some entry) None)
  at_its_name named same =
      subst (λ name. Some entry ≡ option_or (entry_named entries name) (cond (is_named name (named_by entry)) (Some entry) None)) same
      (subst (λ found. Some entry ≡ option_or found (cond (is_named (named_by entry) (named_by entry)) (Some entry) None))
      (sym (not_found (entry_named entries (named_by entry)) refl))
      (subst (λ test. Some entry ≡ cond test (Some entry) None) (sym (is_named-refl (named_by entry))) refl))

  not_its_name : (named : Named) → is_named (named_by entry) named ≡ false → is_named named (named_by entry) ≡ false
  not_its_name named other = elim (cases_Bool (is_named named (named_by entry))) [
    | inl same ↦ absurd (both_ways (is_named (named_by entry) named) other
        (subst (λ name. is_named (named_by entry) name ≡ true) (sym (same_named named (named_by entry) same)) (is_named-refl (named_by entry))))
    | inr apart ↦ apart
  ]

  found_after : (old new_index : HashMap Named PlanEntry (BuildHasherDefault FoldHasher)) (named : Named)
      → get is_named new_index named ≡ cond (is_named (named_by entry) named) (Some entry) (get is_named old named)
      → get is_named old named ≡ entry_named entries named → get is_named new_index named ≡ entry_named (entries ++ entry ∷ []) named
  found_after old new_index named updated found = updated ∙ by_test (is_named (named_by entry) named) refl
      ∙ sym (find-append (λ one. is_named named (named_by one)) entries (entry ∷ []))
    where
      by_test : (test : Bool) → is_named (named_by entry) named ≡ test
          → cond test (Some entry) (get is_named old named) ≡ option_or (entry_named entries named) (entry_named (entry ∷ []) named)
      by_test true is = at_its_name named (same_named (named_by entry) named is)
      by_test false is = found ∙ sym (ap (λ test. option_or (entry_named entries named) (cond test (Some entry) None)) (not_its_name named is) ∙ or_none (entry_named entries named))

  -- the index goes on with an entry that none names yet
  pub indexed_push : (old new_index : HashMap Named PlanEntry (BuildHasherDefault FoldHasher)) → IsIndexed old entries
      → Updates is_named old new_index (named_by entry) (Some entry) → IsIndexed new_index (entries ++ entry ∷ [])
  indexed_push old new_index was updates = record {
    distinct = all_pairs_push IsOtherEntry entries entry was.distinct apart_at;
    found = λ named. found_after old new_index named (updates.0 named) (was.found named);
  }
