-- The passes of all to each mailbox, taken one by one from what each has, are those that meet there.
use Rattle.std.proofs.Common.{◌≡◌, ◌≢◌, ◌∙◌, ℕ, zero, suc, ◌+◌, ◌<◌, ◌≤◌, ⊎_elim, List, [], ◌∷◌, ◌++◌, drop, length, length-drop, map, get_or, Option, Some, None, refl, sym, ap, subst, arith}
use Rattle.std.specs.List.{All, remove, slice_get}
use Rattle.std.specs.Option.{option_map}
use Rattle.std.proofs.lemmas.Bool.{cases_lt}
use Rattle.std.proofs.lemmas.List.{drop-drop, length-map, map-append}
use Rattle.std.proofs.lemmas.List.Elements.{All-cons, All-head, All-map, All-nil, All-tail}
use Rattle.std.proofs.lemmas.Option.{none-some, same_Some, slice_get-map, slice_get_read, slice_get_within}
use Rattle.hp_mail.specs.PassView.{HasNoStrangers, IsOwner, MailboxView, PassView, WasInOrder}
use Rattle.hp_segs.proofs.RowTables.TableUse.{at_place as its_own}
use Rattle.thm_run.proofs.HallFacts.HallHeaps.{all_from_places}
use Rattle.hp_threads.specs.Meeting.{CanMeet, CanMeetAt, HasMet, HaveMetAt, IsOthers}
use Rattle.hp_threads.proofs.Handing.{first_told}

-- PARTED

-- one first pass more
pub firsts_more : (firsts more : List PassView) (left rest : List (List PassView)) (passes : List PassView) (pass : PassView)
    (whole : List (Option PassView)) → more ≡ firsts ++ pass ∷ [] → 0 < length left → passes ≡ get_or left 0 passes → rest ≡ remove left 0
    → slice_get passes 0 ≡ Some pass → map Some firsts ++ map (λ (p : List PassView). slice_get p 0) left ≡ whole
    → map Some more ++ map (λ (p : List PassView). slice_get p 0) rest ≡ whole
firsts_more firsts more left rest passes pass whole more_is some first others its before =
    ap (λ (all : List PassView). map Some all ++ map (λ (p : List PassView). slice_get p 0) rest) more_is
    ∙ ap (λ (all : List (Option PassView)). all ++ map (λ (p : List PassView). slice_get p 0) rest) (map-append Some firsts (pass ∷ []))
    ∙ first_told (λ (p : List PassView). slice_get p 0) (map Some firsts) whole left rest passes (Some pass) some first others (sym its) before

-- and what comes after it
pub rest_more : (done more left rest : List (List PassView)) (passes after : List PassView) (whole : List (List PassView))
    → more ≡ done ++ after ∷ [] → 0 < length left → passes ≡ get_or left 0 passes → rest ≡ remove left 0 → after ≡ drop 1 passes
    → done ++ map (drop 1) left ≡ whole → more ++ map (drop 1) rest ≡ whole
rest_more done more left rest passes after whole more_is some first others its before =
    ap (λ (all : List (List PassView)). all ++ map (drop 1) rest) more_is
    ∙ first_told (drop 1) done whole left rest passes after some first others its before

drop_first : {A : Type 0} (n : ℕ) (xs : List A) → slice_get (drop n xs) 0 ≡ slice_get xs n
drop_first zero xs = refl
drop_first (suc n) [] = refl
drop_first (suc n) (x ∷ xs) = drop_first n xs

pub none_dropped : (all : List (List PassView)) → all ≡ map (drop 0) all
none_dropped [] = refl
none_dropped (passes ∷ all) = ap (λ (rest : List (List PassView)). passes ∷ rest) (none_dropped all)

one_dropped : (n : ℕ) (all : List (List PassView)) → map (drop 1) (map (drop n) all) ≡ map (drop (n + 1)) all
one_dropped n [] = refl
one_dropped n (passes ∷ all) =
    ap (λ (one : List PassView). one ∷ map (drop 1) (map (drop n) all)) (drop-drop 1 n passes)
    ∙ ap (λ (rest : List (List PassView)). drop (n + 1) passes ∷ rest) (one_dropped n all)

-- ONE MAILBOX

-- what is left without the one at a place stood elsewhere
removed_at : {A : Type 0} (xs : List A) (gone place : ℕ) (x : A) → slice_get (remove xs gone) place ≡ Some x
    → (other : ℕ) × (other ≢ gone) × (slice_get xs other ≡ Some x)
removed_at [] zero place x there = absurd (none-some x there)
removed_at [] (suc gone) place x there = absurd (none-some x there)
removed_at (y ∷ xs) zero place x there = (suc place, λ (same : suc place ≡ 0). omega (arith, same), there)
removed_at (y ∷ xs) (suc gone) zero x there = (0, λ (same : 0 ≡ suc gone). omega (arith, same), there)
removed_at (y ∷ xs) (suc gone) (suc place) x there =
    let it = removed_at xs gone place x there in
    (suc it.0, λ (same : suc it.0 ≡ suc gone). it.1 (omega (arith, same)), it.2)

-- what holds of it, and of what is left, holds of all
pub all_with : {A : Type 0} (P : A → Type 0) (xs : List A) (gone : ℕ) (x : A) → slice_get xs gone ≡ Some x → P x → All P (remove xs gone)
    → All P xs
all_with P [] gone x at here all = All-nil P
all_with P (y ∷ xs) zero x at here all = All-cons P y xs (subst P (sym (same_Some y x at)) here) all
all_with P (y ∷ xs) (suc gone) x at here all =
    All-cons P y xs (All-head P y (remove xs gone) all) (all_with P xs gone x at here (All-tail P y (remove xs gone) all))

module _ (mailbox : MailboxView) (owner : ℕ) (passes rest : List PassView) (own : PassView) (can : CanMeetAt mailbox owner passes)
    (is : own ≡ get_or passes owner own) (others : rest ≡ remove passes owner) where
  its_own_pass : slice_get passes owner ≡ Some own
  its_own_pass = slice_get_read passes (length passes) owner own refl can.declared is

  pub owns_it : (own.mailbox ≡ mailbox.id) × IsOwner own
  owns_it =
      (its_own (λ (pass : PassView). pass.mailbox ≡ mailbox.id) passes owner own can.its its_own_pass, can.owns own its_own_pass)

  other_at : (place : ℕ) (pass : PassView) → slice_get (remove passes owner) place ≡ Some pass → IsOthers mailbox own pass
  other_at place pass there =
      let it = removed_at passes owner place pass there in
      record {
        its = its_own (λ (pass : PassView). pass.mailbox ≡ mailbox.id) passes it.0 pass can.its it.2;
        apart = λ same. it.1 (sym (can.whose it.0 pass it.2) ∙ (sym same ∙ can.whose owner own its_own_pass));
      }

  pub are_others : All (IsOthers mailbox own) rest
  are_others = subst (All (IsOthers mailbox own)) (sym others) (all_from_places (IsOthers mailbox own) (remove passes owner) other_at)

  pub all_met : WasInOrder own own → All (WasInOrder own) rest → HasNoStrangers own → HaveMetAt owner passes
  all_met itself met none = record {
    own = own;
    its = its_own_pass;
    met = all_with (WasInOrder own) passes owner own its_own_pass itself (subst (All (WasInOrder own)) others met);
    strangers = none;
  }

-- ALL MAILBOXES

module _ (owner : ℕ) where
  abbrev first_left : List PassView → Option PassView
  first_left passes = slice_get passes 0

  abbrev at_owner : List PassView → Option PassView
  at_owner passes = slice_get passes owner

  both_maps : (passes : Option (List PassView)) → option_map first_left (option_map (drop owner) passes) ≡ option_map at_owner passes
  both_maps None = refl
  both_maps (Some passes) = ap Some (drop_first owner passes)

  from_pass : (one : Option PassView) (all : Option (List PassView)) (pass : PassView) → option_map Some one ≡ option_map at_owner all
      → one ≡ Some pass → (passes : List PassView) × (all ≡ Some passes) × (slice_get passes owner ≡ Some pass)
  from_pass one None pass same is = absurd (none-some (Some pass) (sym same ∙ ap (option_map Some) is))
  from_pass one (Some passes) pass same is =
      (passes, refl, same_Some (slice_get passes owner) (Some pass) (sym same ∙ ap (option_map Some) is))

  to_pass : (one : Option PassView) (all : Option (List PassView)) (passes : List PassView) (pass : PassView)
      → option_map Some one ≡ option_map at_owner all → all ≡ Some passes → slice_get passes owner ≡ Some pass → one ≡ Some pass
  to_pass None all passes pass same there its = absurd (none-some (slice_get passes owner) (same ∙ ap (option_map at_owner) there))
  to_pass (Some one) all passes pass same there its =
      same_Some (Some one) (slice_get passes owner) (same ∙ ap (option_map at_owner) there) ∙ its

module _ (boxes : List MailboxView) (all left : List (List PassView)) (owner : ℕ) (can : CanMeet boxes all)
    (left_are : left ≡ map (drop owner) all) where
  -- each has a pass left, as long as a mailbox is
  pub some_left : owner < length boxes → All (λ (passes : List PassView). 0 < length passes) left
  some_left below =
      subst (All (λ (passes : List PassView). 0 < length passes)) (sym left_are)
      (All-map (λ (passes : List PassView). 0 < length passes) (drop owner) all
      (all_from_places (λ (passes : List PassView). 0 < length (drop owner passes)) all
      (λ who passes there.
      let count = (can.each who passes there).count in
      omega (arith, length-drop owner passes, count, below))))

  -- and one fewer after that
  pub rest_left : (rest : List (List PassView)) → rest ≡ map (drop 1) left → rest ≡ map (drop (owner + 1)) all
  rest_left rest are = are ∙ (ap (map (drop 1)) left_are ∙ one_dropped owner all)

  module _ (firsts : List PassView) (firsts_are : map Some firsts ≡ map (λ (passes : List PassView). slice_get passes 0) left) where
    at_who : (who : ℕ) → option_map Some (slice_get firsts who) ≡ option_map (at_owner owner) (slice_get all who)
    at_who who =
        sym (slice_get-map Some firsts who)
        ∙ (ap (λ (l : List (Option PassView)). slice_get l who) firsts_are
        ∙ (slice_get-map (first_left owner) left who
        ∙ (ap (λ (l : List (List PassView)). option_map (first_left owner) (slice_get l who)) left_are
        ∙ (ap (option_map (first_left owner)) (slice_get-map (drop owner) all who) ∙ both_maps owner (slice_get all who)))))

    firsts_many : length firsts ≡ length all
    firsts_many =
        sym (length-map firsts Some)
        ∙ (ap (λ (l : List (Option PassView)). length l) firsts_are
        ∙ (length-map left (first_left owner) ∙ (ap (λ (l : List (List PassView)). length l) left_are ∙ length-map all (drop owner))))

    pub can_meet_at : (mailbox : MailboxView) → slice_get boxes owner ≡ Some mailbox → CanMeetAt mailbox owner firsts
    can_meet_at mailbox box = record {
      declared = omega (arith, slice_get_within boxes owner mailbox box, can.many, firsts_many);
      its = all_from_places (λ (pass : PassView). pass.mailbox ≡ mailbox.id) firsts
          (λ who pass there.
          let it = from_pass owner (slice_get firsts who) (slice_get all who) pass (at_who who) there in
          (can.each who it.0 it.1).its owner mailbox pass box it.2);
      whose = λ who pass there.
          let it = from_pass owner (slice_get firsts who) (slice_get all who) pass (at_who who) there in
          (can.each who it.0 it.1).whose owner pass it.2;
      owns = λ pass there.
          let it = from_pass owner (slice_get firsts owner) (slice_get all owner) pass (at_who owner) there in
          (can.each owner it.0 it.1).owner pass it.2;
    }

    has_met : HaveMetAt owner firsts → HasMet owner all
    has_met met =
        let it = from_pass owner (slice_get firsts owner) (slice_get all owner) met.own (at_who owner) met.its in
        record {
          passes = it.0;
          own = met.own;
          there = it.1;
          its = it.2;
          met = λ who theirs pass there its.
              its_own (WasInOrder met.own) firsts who pass met.met
              (to_pass owner (slice_get firsts who) (slice_get all who) theirs pass (at_who who) there its);
          strangers = met.strangers;
        }

    -- one mailbox more
    pub met_more : HaveMetAt owner firsts → ((one : ℕ) → one < owner → HasMet one all) → (one : ℕ) → one < owner + 1 → HasMet one all
    met_more met before one below =
        ⊎_elim (λ (early : one < owner). before one early)
        (λ (late : owner ≤ one).
        let same : one ≡ owner = omega (arith, below, late) in
        subst (λ (n : ℕ). HasMet n all) (sym same) (has_met met))
        (cases_lt one owner)
