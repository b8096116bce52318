-- The mailboxes after one serving of a member.
use Rattle.std.proofs.Common.{◌≡◌, ◌≢◌, ◌∙◌, ℕ, Bool, true, false, ◌||◌, List, [], ◌∷◌, ◌++◌, count_by, drop, length, replicate, is_some, inl, inr, sym, ap, arith}
use Rattle.std.specs.List.{list_any}
use Rattle.std.specs.Prelude.{slice_index_or}
use Rattle.std.proofs.lemmas.Bool.{cases_eq, or_left}
use Rattle.std.proofs.lemmas.List.Elements.{All-replicate}
use Rattle.std.proofs.lemmas.List.Folds.{list_any-append, list_any_none}
use Rattle.hp_core.specs.Asks.{asker}
use Rattle.hp_core.specs.declared.asked.Asked.{Asked}
use Rattle.hp_frame.specs.declared.message.Body.{Body}
use Rattle.hp_frame.specs.declared.message.Body.TheVariants.{Answer}
use Rattle.hp_log.proofs.Counts.{count_append, count_none}
use Rattle.hp_segs.proofs.SlotFacts.ListFacts.{or_off_parts}
use Rattle.hp_segs.specs.LaterSteps.{noted_failure}
use Rattle.hp_segs.specs.SegsView.{is_member}
use Rattle.hp_serve.specs.Party.{Party}
use Rattle.thm_causes.specs.RoundTrip.{IsUnanswered, RunState, is_sync, mail_of}
use Rattle.thm_causes.specs.Shared.{Shared}

-- what a member makes of what it fetched: it was no SYNC, or it is not in the roster, or it has taken in the log, or a failure is noted
pub data Heeds (world : RunState) (who : ℕ) (shared : Shared) (body : Body) : Type 0 where
  passes : is_sync body ≡ false → Heeds world who shared body
  is_out : is_member world.shared.segs.roster who ≡ false → Heeds world who shared body
  catches : slice_index_or shared.numbers who 0 ≡ length world.shared.segs.log → Heeds world who shared body
  notes : is_some (noted_failure shared.segs) ≡ true → Heeds world who shared body

-- of its mail the first body is gone, and copies of a reply have come to participant 0
pub record TakesMail (world : RunState) (who : ℕ) (after : Party) (shared : Shared) (mail : List (List Body)) : Type 0 where
  pub body : Body
  pub front : mail_of world who ≡ body ∷ drop 1 (mail_of world who)
  pub own : slice_index_or mail who [] ≡ drop 1 (mail_of world who)
  pub from : ℕ
  pub number : ℕ
  pub code : ℕ
  pub count : ℕ
  pub first : slice_index_or mail 0 [] ≡ mail_of world 0 ++ replicate count (Answer from number 1 code)
  pub others : (other : ℕ) → other ≢ 0 → other ≢ who → slice_index_or mail other [] ≡ mail_of world other
  pub heeds : Heeds world who shared body
  pub unheard : (call : Asked) → asker call ≡ who → IsUnanswered call world → after.answered ≡ false

pub cons_not_nil : (body : Body) (rest : List Body) → body ∷ rest ≡ [] → ⊥
cons_not_nil body rest same = cc

module _ {X : Type 0} (p : X → Bool) where
  none_dropped : (xs : List X) → list_any p xs ≡ false → list_any p (drop 1 xs) ≡ false
  none_dropped [] none = none
  none_dropped (x ∷ xs) none = (or_off_parts (p x) (list_any p xs) none).1

  none_more : (xs : List X) (n : ℕ) (x : X) → p x ≡ false → list_any p xs ≡ false → list_any p (xs ++ replicate n x) ≡ false
  none_more xs n x failing none =
      list_any-append p xs (replicate n x)
      ∙ ap (λ (b : Bool). b || list_any p (replicate n x)) none
      ∙ list_any_none p (replicate n x) (All-replicate (λ x. p x ≡ false) n x failing)

  any_more : (xs ys : List X) → list_any p xs ≡ true → list_any p (xs ++ ys) ≡ true
  any_more xs ys any = list_any-append p xs ys ∙ or_left (list_any p xs) (list_any p ys) any

  pub any_behind : (x : X) (xs : List X) → p x ≡ false → list_any p (x ∷ xs) ≡ true → list_any p xs ≡ true
  any_behind x xs failing any = sym (ap (λ (b : Bool). b || list_any p xs) failing) ∙ any

  pub count_more : (xs : List X) (n : ℕ) (x : X) → p x ≡ false → count_by p (xs ++ replicate n x) ≡ count_by p xs
  count_more xs n x failing =
      omega (
        arith,
        count_append p xs (replicate n x),
        count_none p (replicate n x) (All-replicate (λ x. p x ≡ false) n x failing),
      )

module _ (world : RunState) (who : ℕ) (after : Party) (shared : Shared) (mail : List (List Body))
    (takes : TakesMail world who after shared mail) where
  -- what no body of a mailbox passes none of it passes after the serving
  pub none_stays : (p : Body → Bool) → p (Answer takes.from takes.number 1 takes.code) ≡ false → (other : ℕ)
      → list_any p (mail_of world other) ≡ false → list_any p (slice_index_or mail other []) ≡ false
  none_stays p failing other none =
      elim (cases_eq other 0) [
        | inl same ↦
            ap (λ (n : ℕ). list_any p (slice_index_or mail n [])) same ∙ ap (list_any p) takes.first
            ∙ none_more p (mail_of world 0) takes.count (Answer takes.from takes.number 1 takes.code) failing
            (ap (λ (n : ℕ). list_any p (mail_of world n)) (sym same) ∙ none)
        | inr others ↦
            elim (cases_eq other who) [
              | inl same ↦
                  ap (λ (n : ℕ). list_any p (slice_index_or mail n [])) same ∙ ap (list_any p) takes.own
                  ∙ none_dropped p (mail_of world who) (ap (λ (n : ℕ). list_any p (mail_of world n)) (sym same) ∙ none)
              | inr apart ↦ ap (list_any p) (takes.others other others apart) ∙ none
            ]
      ]

  -- a SYNC in another mailbox is still there
  pub any_stays : (other : ℕ) → other ≢ who → list_any is_sync (mail_of world other) ≡ true
      → list_any is_sync (slice_index_or mail other []) ≡ true
  any_stays other apart any =
      elim (cases_eq other 0) [
        | inl same ↦
            ap (λ (n : ℕ). list_any is_sync (slice_index_or mail n [])) same ∙ ap (list_any is_sync) takes.first
            ∙ any_more is_sync (mail_of world 0) (replicate takes.count (Answer takes.from takes.number 1 takes.code))
            (ap (λ (n : ℕ). list_any is_sync (mail_of world n)) (sym same) ∙ any)
        | inr others ↦ ap (list_any is_sync) (takes.others other others apart) ∙ any
      ]
