-- Mailboxes that hold what took numbers, and what asks for nothing, after a frame more and a frame less.
use Rattle.std.proofs.Common.{◌≡◌, ◌⊎◌, ℕ, zero, suc, List, [], ◌∷◌, drop, Some, inl, inr, refl, sym, subst}
use Rattle.std.specs.Prelude.{slice_get, slice_index_or, slice_set}
use Rattle.std.specs.List.{All}
use Rattle.std.proofs.lemmas.List.Elements.{All-drop, All-head}
use Rattle.hp_frame.specs.declared.frame.Frame.{Frame}
use Rattle.hp_plain.specs.Boxes.{box_after, box_of}
use Rattle.hp_mail.specs.declared.posted.Posted.{Posted}
use Rattle.hp_proc.specs.Doing.{Done}
use Rattle.thm_run.proofs.Made.{IsPost}
use Rattle.thm_run.proofs.TracesTold.Posts.{posts_after}
use Rattle.thm_run.proofs.TracesTold.Traced.{ArePosts}

-- what is read at a place is what was set there, or as it was
pub read_set : {X : Type 0} (xs : List X) (place at : ℕ) (x d : X)
    → ((at ≡ place) × (slice_index_or (slice_set xs place x) at d ≡ x))
    ⊎ (slice_index_or (slice_set xs place x) at d ≡ slice_index_or xs at d)
read_set [] place at x d = inr refl
read_set (y ∷ xs) zero zero x d = inl (refl, refl)
read_set (y ∷ xs) zero (suc at) x d = inr refl
read_set (y ∷ xs) (suc place) zero x d = inr refl
read_set (y ∷ xs) (suc place) (suc at) x d =
    elim (read_set xs place at x d) [
      | inl both ↦ inl (cc, both.1)
      | inr same ↦ inr same
    ]

-- the first of those of which something holds
all_first : (P : Frame → Type 0) (frames : List Frame) (frame : Frame) → All P frames → Some frame ≡ slice_get frames 0 → P frame
all_first P [] frame are is = cc
all_first P (first ∷ frames) frame are is =
    let same : first ≡ frame = cc in
    subst P same (All-head P first frames are)

module _ (took : ℕ → List Done) (boxes : List (List Frame)) (are : ArePosts took boxes) where
  -- one of them has come to another that holds such frames
  posts_set : (to : ℕ) (box : List Frame) → All (IsPost took) box → ArePosts took (slice_set boxes to box)
  posts_set to box its who =
      elim (read_set boxes to who box []) [
        | inl both ↦ subst (All (IsPost took)) (sym both.1) its
        | inr same ↦ subst (All (IsPost took)) (sym same) (are who)
      ]

  -- a frame was posted
  pub posts_posted : (to : ℕ) (frame : Frame) (posted : Posted) → IsPost took frame
      → ArePosts took (slice_set boxes to (box_after frame posted (box_of boxes to)))
  posts_posted to frame posted post =
      posts_set to (box_after frame posted (box_of boxes to)) (posts_after took frame posted (box_of boxes to) (are to) post)

  -- the first frame was fetched
  pub posts_fetched : (who : ℕ) → ArePosts took (slice_set boxes who (drop 1 (box_of boxes who)))
  posts_fetched who = posts_set who (drop 1 (box_of boxes who)) (All-drop (IsPost took) 1 (box_of boxes who) (are who))

  pub fetched_post : (who : ℕ) (frame : Frame) → Some frame ≡ slice_get (box_of boxes who) 0 → IsPost took frame
  fetched_post who frame is = all_first (IsPost took) (box_of boxes who) frame (are who) is
