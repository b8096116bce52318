-- What mailboxes say after a post, the SYNCs of a round and a fetch; what is read of a list of which one place was set.
use Rattle.std.proofs.Common.{◌≡◌, ◌≢◌, ◌⊎◌, ℕ, zero, suc, ◌+◌, ◌<◌, ◌≤◌, Bool, true, false, nat_lt, List, [], ◌∷◌, ◌++◌, drop, length, replicate, take, Some, inl, inr, refl, sym, ap, subst, arith, get_or-set_same, get_or-set_other}
use Rattle.std.proofs.Math.ListN.{length-set}
use Rattle.std.proofs.lemmas.Bool.{cases_eq, cases_lt, lt-ltb}
use Rattle.std.proofs.lemmas.List.{set_past}
use Rattle.std.proofs.lemmas.Option.{slice_get_within}
use Rattle.std.specs.Prelude.{slice_get, slice_index_or, slice_set, if◌then◌else◌}
use Rattle.hp_base.specs.declared.plan.Action.{Action}
use Rattle.hp_base.specs.declared.plan.Action.TheVariants.{Deliver, Lose, Repeat}
use Rattle.hp_frame.specs.declared.frame.Frame.{Frame}
use Rattle.hp_frame.specs.declared.message.Body.{Body}
use Rattle.hp_frame.specs.declared.message.Message.{Message}
use Rattle.hp_frame.proofs.SpellingLemmas.{same_message}
use Rattle.hp_plain.specs.Boxes.{box_after, box_of, copies, posted_as}
use Rattle.hp_plain.specs.declared.mailbox.TheConstants.{MAILBOX_FRAMES}
use Rattle.hp_mail.specs.declared.posted.Posted.{Posted}
use Rattle.hp_mail.specs.declared.posted.Posted.TheVariants.{Full, Sent, Twice}
use Rattle.hp_plain.proofs.Slotted.{slice_get-set_other, slice_get-set_same}
use Rattle.hp_serve.specs.Frames.{Says, SaysNothing, to_handler}
use Rattle.thm_causes.specs.Counting.{is_lost}
use Rattle.thm_causes.specs.RoundTrip.{AreSaid}

-- WHAT IS READ OF A LIST OF WHICH ONE PLACE WAS SET

-- what is found at a place is what was set there, or as it was at another
pub get_set : {X : Type 0} (xs : List X) (place at : ℕ) (x y : X) → slice_get (slice_set xs place x) at ≡ Some y
    → ((at ≡ place) × (y ≡ x)) ⊎ ((at ≢ place) × (slice_get xs at ≡ Some y))
get_set [] place at x y found = cc
get_set (z ∷ xs) zero zero x y found = inl (refl, cc)
get_set (z ∷ xs) zero (suc at) x y found = inr (λ same. omega (arith, same), found)
get_set (z ∷ xs) (suc place) zero x y found = inr (λ same. omega (arith, same), found)
get_set (z ∷ xs) (suc place) (suc at) x y found =
    elim (get_set xs place at x y found) [
      | inl both ↦ inl (ap suc both.0, both.1)
      | inr other ↦ inr (λ same. other.0 (omega (arith, same)), other.1)
    ]

-- what is set where something was is found there
pub set_found : {X : Type 0} (xs : List X) (place : ℕ) (old x : X) → slice_get xs place ≡ Some old
    → slice_get (slice_set xs place x) place ≡ Some x
set_found xs place old x found = slice_get-set_same xs place x (slice_get_within xs place old found)

pub set_unfound : {X : Type 0} (xs : List X) (place at : ℕ) (x : X) → at ≢ place
    → slice_get (slice_set xs place x) at ≡ slice_get xs at
set_unfound xs place at x apart = slice_get-set_other xs place at x apart

-- what is set to what it was leaves all
pub set_same : {X : Type 0} (xs : List X) (place : ℕ) (x : X) → slice_get xs place ≡ Some x → slice_set xs place x ≡ xs
set_same [] place x found = refl
set_same (y ∷ xs) zero x found = ap (λ (z : _). z ∷ xs) cc
set_same (y ∷ xs) (suc place) x found = ap (λ (l : List _). y ∷ l) (set_same xs place x found)

pub index_set : {X : Type 0} (xs : List X) (place : ℕ) (x d : X) → place < length xs → slice_index_or (slice_set xs place x) place d ≡ x
index_set xs place x d within = get_or-set_same xs place x d within

pub index_unset : {X : Type 0} (xs : List X) (place at : ℕ) (x d : X) → at ≢ place
    → slice_index_or (slice_set xs place x) at d ≡ slice_index_or xs at d
index_unset xs place at x d apart = get_or-set_other xs place at x d apart

pub set_long : {X : Type 0} (xs : List X) (place : ℕ) (x : X) → length (slice_set xs place x) ≡ length xs
set_long xs place x = length-set xs place x

-- FRAMES AND WHAT THEY SAY

-- a frame says one thing
pub says_one : (frame : Frame) (body other : Body) → Says frame body → Says frame other → body ≡ other
says_one frame body other says speaks =
    ap (λ (message : Message). message.body)
    (same_message (take frame.len frame.bytes) (to_handler body) (to_handler other) says speaks)

pub said-append : (frames more : List Frame) (bodies others : List Body) → AreSaid frames bodies → AreSaid more others
    → AreSaid (frames ++ more) (bodies ++ others)
said-append [] more [] others said also = also
said-append [] more (body ∷ bodies) others said also = absurd said
said-append (frame ∷ frames) more [] others said also = absurd said
said-append (frame ∷ frames) more (body ∷ bodies) others said also = (said.0, said-append frames more bodies others said.1 also)

pub said-replicate : (n : ℕ) (frame : Frame) (body : Body) → Says frame body → AreSaid (replicate n frame) (replicate n body)
said-replicate zero frame body says = tt
said-replicate (suc n) frame body says = (says, said-replicate n frame body says)

pub said-drop : (frames : List Frame) (bodies : List Body) → AreSaid frames bodies → AreSaid (drop 1 frames) (drop 1 bodies)
said-drop [] [] said = said
said-drop [] (body ∷ bodies) said = absurd said
said-drop (frame ∷ frames) [] said = absurd said
said-drop (frame ∷ frames) (body ∷ bodies) said = said.1

-- there are as many bodies as frames
pub said_long : (frames : List Frame) (bodies : List Body) → AreSaid frames bodies → length bodies ≡ length frames
said_long [] [] said = refl
said_long [] (body ∷ bodies) said = absurd said
said_long (frame ∷ frames) [] said = absurd said
said_long (frame ∷ frames) (body ∷ bodies) said = ap suc (said_long frames bodies said.1)

-- a mailbox without frames says nothing
pub none_said : (frames : List Frame) (bodies : List Body) → AreSaid frames bodies → frames ≡ [] → bodies ≡ []
none_said [] [] said none = refl
none_said [] (body ∷ bodies) said none = absurd said
none_said (frame ∷ frames) bodies said none = cc

-- where nothing is said there are no frames
pub unsaid_none : (frames : List Frame) (bodies : List Body) → AreSaid frames bodies → bodies ≡ [] → frames ≡ []
unsaid_none [] bodies said none = refl
unsaid_none (frame ∷ frames) [] said none = absurd said
unsaid_none (frame ∷ frames) (body ∷ bodies) said none = cc

said_front : (frame : Frame) (frames : List Frame) (bodies : List Body) (body : Body) → AreSaid (frame ∷ frames) bodies → Says frame body
    → bodies ≡ body ∷ drop 1 bodies
said_front frame frames [] body said says = absurd said
said_front frame frames (first ∷ bodies) body said says = ap (λ (b : Body). b ∷ bodies) (says_one frame first body said.0 says)

-- the first body is what the first frame says
pub first_said : (box : List Frame) (bodies : List Body) (frame : Frame) (more : List Frame) (body : Body) → AreSaid box bodies
    → box ≡ frame ∷ more → Says frame body → bodies ≡ body ∷ drop 1 bodies
first_said box bodies frame more body said is says =
    said_front frame more bodies body (subst (λ (frames : List Frame). AreSaid frames bodies) is said) says

said_something : (frame : Frame) (frames : List Frame) (bodies : List Body) → AreSaid (frame ∷ frames) bodies → SaysNothing frame → ⊥
said_something frame frames [] said nothing = absurd said
said_something frame frames (body ∷ bodies) said nothing = nothing body said.0

-- each frame says something
pub first_unsaid : (box : List Frame) (bodies : List Body) (frame : Frame) (more : List Frame) → AreSaid box bodies → box ≡ frame ∷ more
    → SaysNothing frame → ⊥
first_unsaid box bodies frame more said is nothing =
    said_something frame more bodies (subst (λ (frames : List Frame). AreSaid frames bodies) is said) nothing

-- THE MAILBOXES OF ALL

-- the mail is what the mailboxes say
abbrev pub AreAllSaid : List (List Frame) → List (List Body) → Type 0
AreAllSaid boxes mail = (who : ℕ) → AreSaid (box_of boxes who) (slice_index_or mail who [])

-- the mail after a post
abbrev pub mail_posted : ℕ → Posted → Body → List (List Body) → List (List Body)
mail_posted to posted body mail = slice_set mail to (slice_index_or mail to [] ++ replicate (copies posted) body)

-- the mail after a fetch
abbrev pub mail_fetched : ℕ → List (List Body) → List (List Body)
mail_fetched who mail = slice_set mail who (drop 1 (slice_index_or mail who []))

module _ (boxes : List (List Frame)) (mail : List (List Body)) (long : length mail ≡ length boxes) (said : AreAllSaid boxes mail) where
  -- a mailbox has come to another that says this
  pub said_set : (to : ℕ) (box : List Frame) (bodies : List Body) → AreSaid box bodies
      → AreAllSaid (slice_set boxes to box) (slice_set mail to bodies)
  said_set to box bodies its who =
      elim (cases_lt to (length boxes)) [
        | inl within ↦
            elim (cases_eq who to) [
              | inl same ↦
                  subst (λ (n : ℕ). AreSaid (box_of (slice_set boxes to box) n) (slice_index_or (slice_set mail to bodies) n [])) (sym same)
                  (subst (λ (frames : List Frame). AreSaid frames (slice_index_or (slice_set mail to bodies) to []))
                  (sym (index_set boxes to box [] within))
                  (subst (AreSaid box) (sym (index_set mail to bodies [] (omega (arith, long, within)))) its))
              | inr apart ↦
                  subst (λ (frames : List Frame). AreSaid frames (slice_index_or (slice_set mail to bodies) who []))
                  (sym (index_unset boxes to who box [] apart))
                  (subst (AreSaid (box_of boxes who)) (sym (index_unset mail to who bodies [] apart)) (said who))
            ]
        | inr past ↦
            subst (λ (all : List (List Frame)). AreSaid (box_of all who) (slice_index_or (slice_set mail to bodies) who []))
            (sym (set_past boxes to box past))
            (subst (λ (all : List (List Body)). AreSaid (box_of boxes who) (slice_index_or all who []))
            (sym (set_past mail to bodies (omega (arith, long, past)))) (said who))
      ]

  -- a frame was posted
  pub said_posted : (to : ℕ) (frame : Frame) (body : Body) (posted : Posted) → Says frame body
      → AreAllSaid (slice_set boxes to (box_after frame posted (box_of boxes to))) (mail_posted to posted body mail)
  said_posted to frame body posted says =
      said_set to (box_after frame posted (box_of boxes to)) (slice_index_or mail to [] ++ replicate (copies posted) body)
      (said-append (box_of boxes to) (replicate (copies posted) frame) (slice_index_or mail to []) (replicate (copies posted) body)
      (said to) (said-replicate (copies posted) frame body says))

  -- a frame was fetched
  pub said_fetched : (who : ℕ) → AreAllSaid (slice_set boxes who (drop 1 (box_of boxes who))) (mail_fetched who mail)
  said_fetched who =
      said_set who (drop 1 (box_of boxes who)) (drop 1 (slice_index_or mail who []))
      (said-drop (box_of boxes who) (slice_index_or mail who []) (said who))

twice_or_once : (both one : Bool) → one ≡ true → 1 ≤ copies (if both then Twice else (if one then Sent else Full))
twice_or_once true one fits = omega arith
twice_or_once false true fits = omega arith
twice_or_once false false fits = cc

-- a message that is not lost comes into a mailbox that is not full
pub comes_in : (action : Action) (count : ℕ) → is_lost action ≡ false → count < MAILBOX_FRAMES → 1 ≤ copies (posted_as action count)
comes_in (Lose line) count kept room = cc
comes_in (Repeat line) count kept room =
    twice_or_once (nat_lt (count + 1) MAILBOX_FRAMES) (nat_lt count MAILBOX_FRAMES) (lt-ltb count MAILBOX_FRAMES room)
comes_in Deliver count kept room =
    subst (λ (fits : Bool). 1 ≤ copies (if fits then Sent else Full)) (sym (lt-ltb count MAILBOX_FRAMES room)) (omega arith)
