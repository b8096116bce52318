-- The greatest key of a list, and of all lists.
use Rattle.std.proofs.Common.{◌≡◌, ℕ, zero, suc, ◌-◌, ◌<◌, ◌≤◌, List, [], ◌∷◌, ◌++◌, Option, Some, None, IfSome, IfNone, IsSome}
use Rattle.std.proofs.Common.{length, take, drop, refl, sym, ap, ◌∙◌, subst, arith, inl, inr, append_assoc, append-nil}
use Rattle.std.proofs.lemmas.Bool.{cases_lt, false≢true}
use Rattle.std.proofs.lemmas.Option.{none-some}
use Rattle.std.specs.List.{AllByRecursion}
use Rattle.hp_base.specs.declared.round.TheConstants.{HEADER}
use Rattle.hp_base.proofs.ClassLemmas.{class_monotone, class_number-is_class}
use Rattle.hp_chain.specs.Chain.{Keyed, first_key}
use Rattle.hp_freelist.specs.declared.link.Link.{Link}
use Rattle.hp_freelist.specs.Lists.{list_class, list_at}
use Rattle.hp_freelist.specs.Heads.{head_at, IsLast, NoneFrom}
use Rattle.hp_freelist.specs.Greatest.{all_elements, IsGreatest}
use Rattle.hp_freelist.specs.Links.{list_from, IsOfClass, IsLinked}
use Rattle.hp_freelist.proofs.LinkedLemmas.{middle_holds}

pub AllByRecursion-weaker : {X : Type 0} (P Q : X → Type 0) → ((x : X) → P x → Q x) → (xs : List X) → AllByRecursion P xs → AllByRecursion Q xs
AllByRecursion-weaker P Q weaker [] all = tt
AllByRecursion-weaker P Q weaker (x ∷ xs) all = (weaker x all.0, AllByRecursion-weaker P Q weaker xs all.1)

pub AllByRecursion-append : {X : Type 0} (P : X → Type 0) (xs ys : List X) → AllByRecursion P xs → AllByRecursion P ys
    → AllByRecursion P (xs ++ ys)
AllByRecursion-append P [] ys front back = back
AllByRecursion-append P (x ∷ xs) ys front back = (front.0, AllByRecursion-append P xs ys front.1 back)

-- all lists in three parts
split_lists : (lists : List (List (Keyed ℕ))) (class : ℕ) → class < length lists
    → all_elements lists ≡ all_elements (take class lists) ++ (list_at lists class ++ all_elements (drop (suc class) lists))
split_lists [] class within = absurd (omega (arith, within))
split_lists (list ∷ lists) zero within = refl
split_lists (list ∷ lists) (suc class) within =
    ap (λ (zs : List (Keyed ℕ)). list ++ zs) (split_lists lists class (omega (arith, within)))
    ∙ sym (append_assoc list (all_elements (take class lists)) (list_at lists class ++ all_elements (drop (suc class) lists)))

all_below : (P : Keyed ℕ → Type 0) (lists : List (List (Keyed ℕ))) (class : ℕ)
    → ((other : ℕ) → other < class → AllByRecursion P (list_at lists other)) → AllByRecursion P (all_elements (take class lists))
all_below P [] zero holds = tt
all_below P [] (suc class) holds = tt
all_below P (list ∷ lists) zero holds = tt
all_below P (list ∷ lists) (suc class) holds =
    AllByRecursion-append P list (all_elements (take class lists)) (holds zero (omega arith)) (all_below P lists class (λ other below. holds (suc other) (omega (arith, below))))

none_above : (lists : List (List (Keyed ℕ))) (class : ℕ) → ((other : ℕ) → class ≤ other → other < length lists → list_at lists other ≡ [])
    → all_elements (drop class lists) ≡ []
none_above [] zero empty = refl
none_above [] (suc class) empty = refl
none_above (list ∷ lists) (suc class) empty = none_above lists class (λ other upwards below. empty (suc other) (omega (arith, upwards)) (omega (arith, below)))
none_above (list ∷ lists) zero empty =
    ap (λ (zs : List (Keyed ℕ)). zs ++ all_elements lists) (empty zero (omega arith) (omega arith))
    ∙ none_above lists zero (λ other upwards below. empty (suc other) (omega arith) (omega (arith, below)))

-- an element of a lower class is smaller
smaller : (less more : ℕ) → list_class less < list_class more → less < more
smaller less more lower = elim (cases_lt less more) [
  | inl under ↦ under
  | inr above ↦
      let classes : list_class more ≤ list_class less =
      class_monotone (more - HEADER) (list_class more) (less - HEADER) (list_class less) (class_number-is_class (more - HEADER)) (class_number-is_class (less - HEADER)) (omega (arith, above)) in
      absurd (omega (arith, lower, classes))
]

-- a list without a first key
empty_list : (xs : List (Keyed ℕ)) → first_key xs None ≡ None → xs ≡ []
empty_list [] is = refl
empty_list (x ∷ xs) is = absurd (none-some x.key (sym is))

module _ (links : List Link) (firsts : List (Option ℕ)) (lists : List (List (Keyed ℕ))) (linked : IsLinked links firsts lists) where
  no_list : (class : ℕ) → class < 13 → head_at firsts class ≡ None → list_at lists class ≡ []
  no_list class below none = empty_list (list_at lists class) (sym (linked.linked class below).head ∙ none)

  -- no list has a key
  pub all_empty : NoneFrom firsts 0 → all_elements lists ≡ []
  all_empty none = none_above lists 0 (λ other upwards below. let within : other < 13 = omega (arith, below, linked.count) in no_list other within (none other (omega arith) within))

  -- the greatest of the last list that has a key is the greatest of all
  module _ (class : ℕ) (last : IsLast firsts class) where
    pub last_has : list_at lists class ≡ [] → ⊥
    last_has empty =
        false≢true (subst IsSome ((linked.linked class last.within).head ∙ ap (λ (zs : List (Keyed ℕ)). first_key zs None) empty) last.filled)

    pub greatest_of_all : (key : ℕ) → IsGreatest (list_at lists class) key → IsGreatest (all_elements lists) key
    greatest_of_all key greatest =
        let lower : List (Keyed ℕ) = all_elements (take class lists) in
        let found : Keyed ℕ = greatest.found in
        let nothing : all_elements (drop (suc class) lists) ≡ [] =
        none_above lists (suc class) (λ other upwards below.
        let within : other < 13 = omega (arith, below, linked.count) in no_list other within (last.above other (omega (arith, upwards)) within)) in
        let parts : all_elements lists ≡ (lower ++ greatest.front) ++ found ∷ greatest.back =
        split_lists lists class (omega (arith, last.within, linked.count))
        ∙ ap (λ (zs : List (Keyed ℕ)). lower ++ (list_at lists class ++ zs)) nothing
        ∙ ap (λ (zs : List (Keyed ℕ)). lower ++ zs) (append-nil (list_at lists class) ∙ greatest.is)
        ∙ sym (append_assoc lower greatest.front (found ∷ greatest.back)) in
        let of_class = middle_holds (IsOfClass class) greatest.front found greatest.back
        (subst (λ (zs : List (Keyed ℕ)). AllByRecursion (IsOfClass class) zs) greatest.is (linked.linked class last.within).classed) in
        let below : AllByRecursion (λ (e : Keyed ℕ). e.value < found.value) lower =
        all_below (λ (e : Keyed ℕ). e.value < found.value) lists class
        (λ other under.
        AllByRecursion-weaker (IsOfClass other) (λ (e : Keyed ℕ). e.value < found.value) (λ e is. smaller e.value found.value (omega (arith, is.is, of_class.is, under)))
        (list_at lists other) (linked.linked other (omega (arith, under, last.within))).classed) in
        record {
          front = lower ++ greatest.front;
          found = found;
          back = greatest.back;
          is = parts;
          same = greatest.same;
          before = AllByRecursion-append (λ (e : Keyed ℕ). e.value < found.value) lower greatest.front below greatest.before;
          behind = greatest.behind;
        }

    -- what is found in that list is found in all
    pub greatest_from_last : (first found : Option ℕ) → list_at lists class ≡ list_from links first
        → IfSome found (IsGreatest (list_from links first))
        → IfSome found (IsGreatest (all_elements lists))
    greatest_from_last first None is greatest = tt
    greatest_from_last first (Some key) is greatest = greatest_of_all key (subst (λ (zs : List (Keyed ℕ)). IsGreatest zs key) (sym is) greatest)

    pub none_from_last : (first found : Option ℕ) → list_at lists class ≡ list_from links first → IfNone found (list_from links first ≡ [])
        → IfNone found (all_elements lists ≡ [])
    none_from_last first None is none = absurd (last_has (is ∙ none))
    none_from_last first (Some key) is none = tt
