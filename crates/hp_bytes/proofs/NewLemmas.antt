-- Which of its answers a `new` has.
use Rattle.std.proofs.Common.{◌≡◌, ℕ, ◌+◌, ◌≤◌, Bool, true, false, List, Option, Some, None, refl, sym, ap, subst, ◌∙◌, arith}
use Rattle.std.proofs.lemmas.Bool.{false≢true}
use Rattle.std.specs.Prelude.{is_some}
use Rattle.std.specs.FinMap as finite
use Rattle.hp_base.specs.Requests.{refusal_of}
use Rattle.hp_base.specs.declared.request.BadRequest.{BadRequest}
use Rattle.hp_base.specs.declared.request.Request.{Request}
use Rattle.hp_heap.specs.Tiling.{IsTiled}
use Rattle.hp_bytes.specs.Places.{place_of}
use Rattle.hp_bytes.specs.PlainSession.{Held, Done, IsAllocated, IsMade, IsSizeRequest}
use Rattle.hp_bytes.specs.Sessions.{plain_of, IsSession, Allocates, Does}
use Rattle.hp_bytes.specs.declared.answer.Answer.{Answer}
use Rattle.hp_bytes.specs.declared.answer.Answer.TheVariants as answer
use Rattle.hp_bytes.specs.declared.labels.Place.{Place}
use Rattle.hp_bytes.specs.declared.line.Line.TheVariants as line
use Rattle.hp_bytes.specs.declared.sessions.Session.{Session}
use Rattle.hp_bytes.proofs.LiveLemmas.{session_next, held_is, held_none}

-- a search that finds nothing
pub none_there : (o o' : Option Place) → o ≡ o' → is_some o ≡ false → o' ≡ None
none_there None o' found is = sym found
none_there (Some place) o' found is = absurd (false≢true (sym is))

module _ (number : ℕ) (label : List ℕ) (size : ℕ) (state : Session) (session : IsSession number state) (tiled : IsTiled state.heap.plain) where
  abbrev IsMadeBy : Option Held → Done → Type 0
  IsMadeBy held done = IsMade number label size (is_some held) (plain_of state) done

  abbrev stayed : Answer → Done
  stayed given = record { answer = given; next = plain_of state }

  -- the label is live
  pub make_exists : (place : Place) → place_of state.labels label ≡ Some place → Does number (line.New label size) state state answer.Exists
  make_exists place is = record {
    step = subst (λ (o : Option Held). IsMadeBy o (stayed answer.Exists)) (sym (held_is number state session tiled label place is)) refl;
    session = session_next number state state.store session refl refl;
    room = omega arith;
  }

  pub make_live : (o : Option Place) → o ≡ place_of state.labels label → is_some o ≡ true → Does number (line.New label size) state state answer.Exists
  make_live None found is = absurd (false≢true is)
  make_live (Some place) found is = make_exists place (sym found)

  module _ (fresh : place_of state.labels label ≡ None) where
    -- the size is refused
    pub make_bad : (why : BadRequest) → refusal_of size 0 0 ≡ Some why → Does number (line.New label size) state state (answer.Bad why)
    make_bad why is = record {
      step = subst (λ (o : Option Held). IsMadeBy o (stayed (answer.Bad why))) (sym (held_none number state session tiled label fresh))
          (subst (λ (o : Option BadRequest). IsAllocated number label size o (plain_of state) (stayed (answer.Bad why))) (sym is) refl);
      session = session_next number state state.store session refl refl;
      room = omega arith;
    }

    -- or the heap was asked
    pub make_asked : (request : Request) (new : Session) (given : Answer) → refusal_of size 0 0 ≡ None → IsSizeRequest size request → Allocates number label request state new given
        → Does number (line.New label size) state new given
    make_asked request new given accepted sized allocates = record {
      step = subst (λ (o : Option Held). IsMadeBy o (record { answer = given; next = plain_of new })) (sym (held_none number state session tiled label fresh))
          (subst (λ (o : Option BadRequest). IsAllocated number label size o (plain_of state) (record { answer = given; next = plain_of new })) (sym accepted)
          (request, sized, allocates.step));
      session = allocates.session;
      room = allocates.room;
    }
