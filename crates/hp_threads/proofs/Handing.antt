-- What is left goes over one by one, from its front.
use Rattle.std.proofs.Common.{◌≡◌, ◌∙◌, ◌<◌, Option, Some, List, [], ◌∷◌, ◌++◌, map, length, get_or, refl, sym, ap, arith}
use Rattle.std.specs.Prelude.{zip}
use Rattle.std.specs.List.{remove}
use Rattle.std.proofs.lemmas.List.{append_assoc, map-append}
use Rattle.hp_events.specs.Watchers.{WatchersView}
use Rattle.hp_maps.specs.declared.table.Table.{Table}
use Rattle.hp_script.specs.declared.answer.Answer.{Answer}
use Rattle.hp_threads.specs.Running.{told_of, watched_of}
use Rattle.hp_threads.specs.declared.working.Worked.{Worked}

module _ {A B : Type 0} (told : A → B) where
  -- those that have gone over, and what is told of those that are left
  pub first_told : (done whole : List B) (left rest : List A) (x : A) (y : B) → 0 < length left → x ≡ get_or left 0 x
      → rest ≡ remove left 0 → y ≡ told x → done ++ map told left ≡ whole → (done ++ y ∷ []) ++ map told rest ≡ whole
  first_told done whole [] rest x y some first others is before = absurd (omega (arith, some))
  first_told done whole (z ∷ left) rest x y some first others is before =
      append_assoc done (y ∷ []) (map told rest)
      ∙ ap (λ (one : B). done ++ (one ∷ map told rest)) (is ∙ ap told first)
      ∙ ap (λ (all : List A). done ++ (told z ∷ map told all)) others
      ∙ before

-- two lists of one length with one element more each
pub zip_push : {A B : Type 0} (xs : List A) (ys : List B) (x : A) (y : B) → length xs ≡ length ys
    → zip (xs ++ x ∷ []) (ys ++ y ∷ []) ≡ zip xs ys ++ (x, y) ∷ []
zip_push [] [] x y same = refl
zip_push [] (b ∷ ys) x y same = absurd (omega (arith, same))
zip_push (a ∷ xs) [] x y same = absurd (omega (arith, same))
zip_push (a ∷ xs) (b ∷ ys) x y same = ap (λ (all : List _). (a, b) ∷ all) (zip_push xs ys x y (omega (arith, same)))

-- one more of those that came home is taken apart
pub apart_more : (answers more : List (List Answer)) (tables left : List Table) (its : List Answer) (table : Table) (worked rest : List Worked)
    (one : Worked) (whole : List (Option (List Answer × Table))) → more ≡ answers ++ its ∷ [] → left ≡ tables ++ table ∷ []
    → length answers ≡ length tables → 0 < length worked → one ≡ get_or worked 0 one → rest ≡ remove worked 0
    → told_of one.done ≡ Some (its, table) → map Some (zip answers tables) ++ map (λ (w : Worked). told_of w.done) worked ≡ whole
    → map Some (zip more left) ++ map (λ (w : Worked). told_of w.done) rest ≡ whole
apart_more answers more tables left its table worked rest one whole more_is left_is same some first others done_is before =
    ap (λ (all : List (List Answer)). map Some (zip all left) ++ map (λ (w : Worked). told_of w.done) rest) more_is
    ∙ ap (λ (all : List Table). map Some (zip (answers ++ its ∷ []) all) ++ map (λ (w : Worked). told_of w.done) rest) left_is
    ∙ ap (λ (all : List (List Answer × Table)). map Some all ++ map (λ (w : Worked). told_of w.done) rest)
    (zip_push answers tables its table same)
    ∙ ap (λ (all : List (Option (List Answer × Table))). all ++ map (λ (w : Worked). told_of w.done) rest)
    (map-append Some (zip answers tables) ((its, table) ∷ []))
    ∙ first_told (λ (w : Worked). told_of w.done) (map Some (zip answers tables)) whole worked rest one (Some (its, table)) some first others
    (sym done_is) before

pub watched_more : (watchers more : List WatchersView) (its : WatchersView) (worked rest : List Worked) (one : Worked)
    (whole : List (Option WatchersView)) → more ≡ watchers ++ its ∷ [] → 0 < length worked → one ≡ get_or worked 0 one
    → rest ≡ remove worked 0 → watched_of one.done ≡ Some its
    → map Some watchers ++ map (λ (w : Worked). watched_of w.done) worked ≡ whole
    → map Some more ++ map (λ (w : Worked). watched_of w.done) rest ≡ whole
watched_more watchers more its worked rest one whole more_is some first others done_is before =
    ap (λ (all : List WatchersView). map Some all ++ map (λ (w : Worked). watched_of w.done) rest) more_is
    ∙ ap (λ (all : List (Option WatchersView)). all ++ map (λ (w : Worked). watched_of w.done) rest) (map-append Some watchers (its ∷ []))
    ∙ first_told (λ (w : Worked). watched_of w.done) (map Some watchers) whole worked rest one (Some its) some first others (sym done_is) before
