-- What mailboxes weigh where one has copies of one frame, and all others are empty; and a coordinator that has nothing under way.
use Rattle.std.proofs.Common.{◌≡◌, ◌∙◌, ℕ, zero, suc, ◌+◌, ◌*◌, ◌==◌, ◌||◌, ◌≤◌, Bool, true, false, List, [], ◌∷◌, replicate, Option, Some, None, refl, ap, arith, if◌then◌else◌}
use Rattle.std.specs.Prelude.{slice_index_or, slice_set}
use Rattle.std.proofs.lemmas.List.Sums.{sum_by-cons}
use Rattle.hp_core.specs.Core.{Core, due_of}
use Rattle.hp_core.specs.declared.asked.Asked.{Asked}
use Rattle.hp_core.specs.declared.phase.Phase.{Phase}
use Rattle.hp_core.specs.declared.phase.Phase.TheVariants.{Idle}
use Rattle.hp_frame.specs.declared.frame.Frame.{Frame}
use Rattle.hp_plain.specs.Boxes.{box_of, copies}
use Rattle.hp_hall.specs.Measures.{box_measure, boxes_measure, counted, frame_measure}
use Rattle.hp_mail.specs.declared.posted.Posted.{Posted}
use Rattle.hp_mail.specs.declared.posted.Posted.TheVariants.{Full, Lost, Sent, Twice}
use Rattle.hp_serve.specs.Falling.{held_sum, least_measure, own_measure}

kind_most : (first second : Bool) → (if first then 188 else (if second then 3 else 1)) ≤ 188
kind_most true second = omega arith
kind_most false true = omega arith
kind_most false false = omega arith

-- no frame weighs more than an ask
frame_most : (frame : Frame) → frame_measure frame ≤ 188
frame_most frame =
    let kind = slice_index_or frame.bytes 0 0 in
    kind_most ((kind == 1) || (kind == 2)) (kind == 3)

pub copies_weigh : (n : ℕ) (frame : Frame) → box_measure (replicate n frame) ≤ 188 * n
copies_weigh zero frame = omega arith
copies_weigh (suc n) frame =
    let both = sum_by-cons frame_measure frame (replicate n frame) in
    omega (arith, both, frame_most frame, copies_weigh n frame)

-- a message comes twice at most
pub two_copies : (posted : Posted) → copies posted ≤ 2
two_copies Sent = omega arith
two_copies Twice = omega arith
two_copies (Lost line) = omega arith
two_copies Full = omega arith

-- empty mailboxes weigh nothing
pub empty_weigh : (boxes : List (List Frame)) → ((who : ℕ) → box_of boxes who ≡ []) → boxes_measure boxes ≡ 0
empty_weigh [] none = refl
empty_weigh (box ∷ boxes) none =
    let first : box_measure box ≡ 0 = ap box_measure (none 0) in
    let rest = empty_weigh boxes (λ who. none (suc who)) in
    omega (arith, sum_by-cons box_measure box boxes, first, rest)

-- mailboxes of which the first alone has something
pub first_weighs : (boxes : List (List Frame)) (box : List Frame) → ((who : ℕ) → box_of boxes who ≡ [])
    → boxes_measure (slice_set boxes 0 box) ≤ box_measure box
first_weighs [] box none = omega arith
first_weighs (old ∷ boxes) box none =
    let rest = empty_weigh boxes (λ who. none (suc who)) in
    omega (arith, sum_by-cons box_measure box boxes, rest)

-- a coordinator that is idle and holds nothing
pub idle_weighs : (pending : ℕ → ℕ) (core : Core) → core.phase ≡ Idle → core.held ≡ replicate 16 None → own_measure 1 pending (Some core) ≡ 0
idle_weighs pending core phase held =
    ap (λ (phase : Phase). 1 * least_measure phase + counted pending (due_of core.deadline phase) + 1 * held_sum core.held) phase
    ∙ ap (λ (held : List (Option Asked)). 1 * least_measure Idle + counted pending (due_of core.deadline Idle) + 1 * held_sum held) held
