-- Names in buckets: what is found there, and that it is what is noted.
use Rattle.std.proofs.Common.{◌≡◌, ◌≢◌, ℕ, ◌+◌, ◌-◌, ◌<◌, ◌≤◌, ltb, zero, suc, Bool, true, false, List, [], ◌∷◌, ◌++◌}
use Rattle.std.proofs.Common.{length, length-append, get_or, set, refl, ap, ◌∙◌, sym, subst, arith, inl, inr}
use Rattle.std.specs.Prelude.{Option, Some, None, cond, is_some}
use Rattle.std.specs.List.{slice_get}
use Rattle.std.specs.Option.{option_or}
use Rattle.std.specs.Str.{bytes_eq}
use Rattle.std.proofs.lemmas.Bool.{cases_eq, cases_lt, ltb-true}
use Rattle.std.proofs.lemmas.List.{get_or-set_other, get_or-set_same, length-set}
use Rattle.std.proofs.lemmas.Option.{slice_get_read, slice_get_within}
use Rattle.std.proofs.lemmas.Slice.Eq.{bytes_eq-Decides}
use Rattle.hp_script.specs.Noted.{AreEarlier, AreFiled, bucket_of, found_at, found_from, is_of, line_noted}
use Rattle.hp_script.specs.declared.first_lines.Noted.{Noted}

-- the elements before one more, and that one
at_left : {X : Type 0} (xs ys : List X) (place : ℕ) → place < length xs → slice_get (xs ++ ys) place ≡ slice_get xs place
at_left [] ys place within = absurd (omega (arith, within))
at_left (x ∷ xs) ys zero within = refl
at_left (x ∷ xs) ys (suc place) within = at_left xs ys place (omega (arith, within))

at_end : {X : Type 0} (xs : List X) (x : X) → slice_get (xs ++ x ∷ []) (length xs) ≡ Some x
at_end [] x = refl
at_end (y ∷ xs) x = at_end xs x

-- the same is found where what follows an entry is the same
found_alike : (name : List ℕ) (found : Option Noted) (rest other : ℕ → Option ℕ)
    → ((entry : Noted) → found ≡ Some entry → rest entry.before ≡ other entry.before) → found_at name found rest ≡ found_at name found other
found_alike name None rest other same = refl
found_alike name (Some entry) rest other same = ap (λ (line : Option ℕ). cond (is_of name entry) (Some entry.number) line) (same entry refl)

-- a step of a walk: the entry is the one, or it is not
pub walked_to : (noted : List Noted) (steps place : ℕ) (name : List ℕ) (entry : Noted) → slice_get noted place ≡ Some entry
    → is_of name entry ≡ true → found_from noted (suc steps) (suc place) name ≡ Some entry.number
walked_to noted steps place name entry here is =
    ap (λ (found : Option Noted). found_at name found (λ last. found_from noted steps last name)) here
    ∙ ap (λ (test : Bool). cond test (Some entry.number) (found_from noted steps entry.before name)) is

pub walked_on : (noted : List Noted) (steps place : ℕ) (name : List ℕ) (entry : Noted) → slice_get noted place ≡ Some entry
    → is_of name entry ≡ false → found_from noted (suc steps) (suc place) name ≡ found_from noted steps entry.before name
walked_on noted steps place name entry here is =
    ap (λ (found : Option Noted). found_at name found (λ last. found_from noted steps last name)) here
    ∙ ap (λ (test : Bool). cond test (Some entry.number) (found_from noted steps entry.before name)) is

-- a step as it is read
module _ (noted : List Noted) (step last : ℕ) (name : List ℕ) (entry : Noted) (more : step < length noted) (some : 0 < last)
    (within : true ≡ ltb (last - 1) (length noted)) (read : entry ≡ get_or noted (last - 1) entry) where
  stands : slice_get noted (last - 1) ≡ Some entry
  stands = slice_get_read noted (length noted) (last - 1) entry refl (ltb-true (last - 1) (length noted) (sym within)) read

  left : length noted - step ≡ suc (length noted - (step + 1))
  left = omega (arith, more)

  from : last ≡ suc (last - 1)
  from = omega (arith, some)

  begins : found_from noted (length noted - step) last name ≡ found_from noted (suc (length noted - (step + 1))) (suc (last - 1)) name
  begins =
      ap (λ (steps : ℕ). found_from noted steps last name) left
      ∙ ap (λ (last : ℕ). found_from noted (suc (length noted - (step + 1))) last name) from

  pub step_on : is_of name entry ≡ false
      → found_from noted (length noted - step) last name ≡ found_from noted (length noted - (step + 1)) entry.before name
  step_on is = begins ∙ walked_on noted (length noted - (step + 1)) (last - 1) name entry stands is

  pub step_to : is_of name entry ≡ true → found_from noted (length noted - step) last name ≡ Some entry.number
  step_to is = begins ∙ walked_to noted (length noted - (step + 1)) (last - 1) name entry stands is

-- more steps than there are entries back find no more
found_more : (noted : List Noted) → AreEarlier noted → (name : List ℕ) (steps last : ℕ) → last ≤ steps
    → found_from noted (suc steps) last name ≡ found_from noted steps last name
found_more noted earlier name zero zero few = refl
found_more noted earlier name zero (suc place) few = absurd (omega (arith, few))
found_more noted earlier name (suc steps) zero few = refl
found_more noted earlier name (suc steps) (suc place) few =
    found_alike name (slice_get noted place) (λ last. found_from noted (suc steps) last name) (λ last. found_from noted steps last name)
    (λ entry here. found_more noted earlier name steps entry.before (omega (arith, earlier place entry here, few)))

-- an entry more changes nothing of what is found from an earlier one
found_before : (noted : List Noted) (more : Noted) → AreEarlier noted → (name : List ℕ) (steps last : ℕ) → last ≤ length noted
    → found_from (noted ++ more ∷ []) steps last name ≡ found_from noted steps last name
found_before noted more earlier name zero last within = refl
found_before noted more earlier name (suc steps) zero within = refl
found_before noted more earlier name (suc steps) (suc place) within =
    ap (λ (found : Option Noted). found_at name found (λ last. found_from (noted ++ more ∷ []) steps last name))
    (at_left noted (more ∷ []) place (omega (arith, within)))
    ∙ found_alike name (slice_get noted place) (λ last. found_from (noted ++ more ∷ []) steps last name)
    (λ last. found_from noted steps last name)
    (λ entry here. found_before noted more earlier name steps entry.before (omega (arith, earlier place entry here, within)))

-- what is noted with one entry more
chosen : (test : Bool) (line : ℕ) (all rest x : Option ℕ) → all ≡ option_or rest x
    → cond test (Some line) all ≡ option_or (cond test (Some line) rest) x
chosen true line all rest x same = refl
chosen false line all rest x same = same

alone : (line : Option ℕ) → line ≡ option_or None line
alone line = refl

pub noted_with : (noted : List Noted) (more : Noted) (name : List ℕ)
    → line_noted (noted ++ more ∷ []) name ≡ option_or (line_noted noted name) (cond (is_of name more) (Some more.number) None)
noted_with [] more name = alone (cond (is_of name more) (Some more.number) None)
noted_with (entry ∷ noted) more name =
    chosen (is_of name entry) entry.number (line_noted (noted ++ more ∷ []) name) (line_noted noted name)
    (cond (is_of name more) (Some more.number) None) (noted_with noted more name)

-- with no line else
or_none : (o : Option ℕ) → o ≡ option_or o None
or_none None = refl
or_none (Some line) = refl

-- the entries go back with one more that does
earlier_with : (noted : List Noted) (more : Noted) → AreEarlier noted → more.before ≤ length noted → AreEarlier (noted ++ more ∷ [])
earlier_with noted more earlier goes place entry here = elim (cases_lt place (length noted)) [
  | inl before ↦ earlier place entry (sym (at_left noted (more ∷ []) place before) ∙ here)
  | inr after ↦
      let within : place < length (noted ++ more ∷ []) = slice_get_within (noted ++ more ∷ []) place entry here in
      let is : place ≡ length noted = omega (arith, within, after, length-append noted (more ∷ [])) in
      let same : Some more ≡ Some entry =
      sym (at_end noted more) ∙ subst (λ (place : ℕ). slice_get (noted ++ more ∷ []) place ≡ Some entry) is here in
      subst (λ (entry : Noted). entry.before ≤ place) (some_is same) (omega (arith, goes, is))
]
  where
    some_is : {X : Type 0} {x y : X} → Some x ≡ Some y → x ≡ y
    some_is same = cc same

-- one more is filed: it is the last of its bucket
module _ (noted : List Noted) (lasts : List ℕ) (more : Noted) (bucket : ℕ) (filed : AreFiled noted lasts)
    (within : bucket < length lasts) (is : bucket ≡ bucket_of more.name (length lasts)) (goes : more.before ≡ get_or lasts bucket 0)
    (new : line_noted noted more.name ≡ None) where
  some : 0 < length lasts
  some = omega (arith, within)

  few : more.before ≤ length noted
  few = omega (arith, goes, filed.within bucket)

  -- its name is found there, and that of an earlier one as before
  ends : (name : List ℕ) (test : Bool) → is_of name more ≡ test
      → cond test (Some more.number) (line_noted noted name) ≡ option_or (line_noted noted name) (cond test (Some more.number) None)
  ends name false other = or_none (line_noted noted name)
  ends name true its =
      let none : line_noted noted name ≡ None =
      subst (λ (name : List ℕ). line_noted noted name ≡ None) ((bytes_eq-Decides more.name name).0 its) new in
      rw none refl

  here : (name : List ℕ) → bucket_of name (length lasts) ≡ bucket
      → found_from (noted ++ more ∷ []) (suc (length noted)) (suc (length noted)) name ≡ line_noted (noted ++ more ∷ []) name
  here name same =
      let back : found_from (noted ++ more ∷ []) (length noted) more.before name ≡ line_noted noted name =
      found_before noted more filed.earlier name (length noted) more.before few
      ∙ ap (λ (last : ℕ). found_from noted (length noted) last name) (goes ∙ ap (λ (bucket : ℕ). get_or lasts bucket 0) (sym same))
      ∙ filed.found some name in
      ap (λ (found : Option Noted). found_at name found (λ last. found_from (noted ++ more ∷ []) (length noted) last name))
      (at_end noted more)
      ∙ ap (λ (line : Option ℕ). cond (is_of name more) (Some more.number) line) back ∙ ends name (is_of name more) refl
      ∙ sym (noted_with noted more name)

  elsewhere : (name : List ℕ) → (bucket_of name (length lasts) ≢ bucket)
      → found_from (noted ++ more ∷ []) (suc (length noted)) (get_or lasts (bucket_of name (length lasts)) 0) name
      ≡ line_noted (noted ++ more ∷ []) name
  elsewhere name differ =
      let last = get_or lasts (bucket_of name (length lasts)) 0 in
      found_before noted more filed.earlier name (suc (length noted)) last (filed.within (bucket_of name (length lasts)))
      ∙ found_more noted filed.earlier name (length noted) last (filed.within (bucket_of name (length lasts))) ∙ filed.found some name
      ∙ other (is_of name more) refl ∙ sym (noted_with noted more name)
    where
      other : (test : Bool) → is_of name more ≡ test
          → line_noted noted name ≡ option_or (line_noted noted name) (cond (is_of name more) (Some more.number) None)
      other false not = rw not (or_none (line_noted noted name))
      other true its =
          let same : more.name ≡ name = (bytes_eq-Decides more.name name).0 its in
          absurd (differ (sym (ap (λ (name : List ℕ). bucket_of name (length lasts)) same) ∙ sym is))

  found : (name : List ℕ) → found_from (noted ++ more ∷ []) (suc (length noted))
      (get_or (set lasts bucket (suc (length noted))) (bucket_of name (length lasts)) 0) name
      ≡ line_noted (noted ++ more ∷ []) name
  found name = elim (cases_eq (bucket_of name (length lasts)) bucket) [
    | inl same ↦
        ap (λ (last : ℕ). found_from (noted ++ more ∷ []) (suc (length noted)) last name)
        (ap (λ (place : ℕ). get_or (set lasts bucket (suc (length noted))) place 0) same
        ∙ get_or-set_same lasts bucket (suc (length noted)) 0 within)
        ∙ here name same
    | inr differ ↦
        ap (λ (last : ℕ). found_from (noted ++ more ∷ []) (suc (length noted)) last name)
        (get_or-set_other lasts bucket (bucket_of name (length lasts)) (suc (length noted)) 0 differ)
        ∙ elsewhere name differ
  ]

  longer : length (noted ++ more ∷ []) ≡ suc (length noted)
  longer = omega (arith, length-append noted (more ∷ []))

  at_most : (place : ℕ) → get_or (set lasts bucket (suc (length noted))) place 0 ≤ suc (length noted)
  at_most place = elim (cases_eq place bucket) [
    | inl same ↦
        subst (λ (place : ℕ). get_or (set lasts bucket (suc (length noted))) place 0 ≤ suc (length noted)) (sym same)
        (omega (arith, get_or-set_same lasts bucket (suc (length noted)) 0 within))
    | inr differ ↦ omega (arith, get_or-set_other lasts bucket place (suc (length noted)) 0 differ, filed.within place)
  ]

  pub filed_with : AreFiled (noted ++ more ∷ []) (set lasts bucket (suc (length noted)))
  filed_with = record {
    earlier = earlier_with noted more filed.earlier few;
    within = λ place. omega (arith, at_most place, longer);
    found = λ _ name.
        rw (longer, length-set lasts bucket (suc (length noted))) (found name);
    none = λ empty. absurd (omega (arith, empty, within, length-set lasts bucket (suc (length noted))));
  }

-- a name that is not found in its bucket is not noted
pub none_noted : (noted : List Noted) (lasts : List ℕ) (name : List ℕ) (bucket last : ℕ) → AreFiled noted lasts → 0 < length lasts
    → bucket ≡ bucket_of name (length lasts) → last ≡ get_or lasts bucket 0 → found_from noted (length noted) last name ≡ None
    → line_noted noted name ≡ None
none_noted noted lasts name bucket last filed some is goes none =
    sym (filed.found some name)
    ∙ ap (λ (last : ℕ). found_from noted (length noted) last name) (sym (goes ∙ ap (λ (bucket : ℕ). get_or lasts bucket 0) is)) ∙ none

none_is : (found : Option ℕ) → is_some found ≡ false → found ≡ None
none_is None not = refl
none_is (Some line) not = absurd (cc not)

pub not_found : (found line : Option ℕ) → found ≡ line → is_some found ≡ false → line ≡ None
not_found found line is not = sym is ∙ none_is found not

-- a number that is read does not rest on what stands for none
pub read_as : (numbers : List ℕ) (place one other : ℕ) → place < length numbers → get_or numbers place one ≡ get_or numbers place other
read_as [] place one other within = absurd (omega (arith, within))
read_as (number ∷ numbers) zero one other within = refl
read_as (number ∷ numbers) (suc place) one other within = read_as numbers place one other (omega (arith, within))
