-- All serve in a turn: those below one that waits, itself, and those above.
use Rattle.std.proofs.Common.{◌≡◌, ◌≢◌, ◌∙◌, ◌||◌, ◌<◌, ◌≤◌, ℕ, zero, suc, Bool, true, false, List, [], ◌∷◌, ◌++◌, length, Some, None, is_some, inl, inr, refl, sym, ap, subst, arith}
use Rattle.std.specs.Prelude.{slice_get}
use Rattle.std.proofs.lemmas.Bool.{cases_eq, or_parts}
use Rattle.std.proofs.lemmas.Option.{none-some, slice_get_past}
use Rattle.hp_frame.specs.declared.frame.Frame.{Frame}
use Rattle.hp_plain.specs.HallSteps.{with_note}
use Rattle.hp_hall.specs.Mail.{MailStep, Notes}
use Rattle.hp_plain.specs.Boxes.{box_of}
use Rattle.hp_hall.specs.declared.note.Note.{Note}
use Rattle.hp_hall.specs.declared.note.Note.TheVariants.{Read, Yielded}
use Rattle.hp_serve.specs.Denials.{Denials}
use Rattle.hp_serve.specs.Party.{Party}
use Rattle.hp_serve.specs.Waiting.{HaveServed, IsServedOut}
use Rattle.hp_solo.specs.Sequence.{Sequence}
use Rattle.hp_solo.specs.Solo.{HaveNotStopped, IsBeside, AloneView, SoloView, has_stopped, party_at, party_in, server_at}
use Rattle.thm_causes.specs.RoundTrip.{Setting, RunState}
use Rattle.thm_causes.specs.Shared.{IsSharedIn, Shared}
use Rattle.thm_causes.specs.Waits.{AreServingsKnown}
use Rattle.thm_causes.specs.RunStates.{IsRunStateOf}
use Rattle.thm_causes.proofs.TurnSteps.TurnsSequence.{begins_with, calls_own, cut_in, yields_in}
use Rattle.thm_causes.proofs.TurnSteps.TurnsStages.{no_place}
use Rattle.thm_causes.proofs.TurnSteps.TurnsVisits.{AreOn, VisitedTo, own_out, still_on, visits_on}

-- a note leaves the world
noted_on : (me : ℕ) (note : Note) (hall : SoloView) (party : Party) (world : RunState) → IsRunStateOf hall me party world
    → IsRunStateOf (record hall { plain = with_note me note hall.plain }) me party world
noted_on me note hall party world its = record {
  shared = record { segs = its.shared.segs; boxes = its.shared.boxes; clock = its.shared.clock; numbers = its.shared.numbers };
  order = record { fits = its.order.fits; boxes = its.order.boxes; few = its.order.few };
  going = its.going;
  own = its.own;
  others = its.others;
}

-- it reads its clock
pub record HasRead (now : ℕ) (hall : SoloView) (me : ℕ) (party : Party) (world : RunState) : Type 0 where
  pub its : IsRunStateOf hall me party world
  pub now_is : now ≡ world.shared.clock

pub read_on : AreServingsKnown → (me : ℕ) (old new : SoloView) (party : Party) (now : ℕ) (world : RunState)
    → Sequence me old (Notes (Read now) ∷ []) new → IsRunStateOf old me party world → HasRead now new me party world
read_on known me old new party now world sequence its =
    let own = calls_own known.along me old new (Notes (Read now) ∷ []) world.shared sequence (tt, tt) its.order its.shared in
    let same : own.along.at ≡ world.shared = own.along.made.2 ∙ own.along.made.1.1 in
    record {
      its = record {
        shared = subst (λ (at : Shared). IsSharedIn new.plain at) same own.along.shared;
        order = own.along.order;
        going = subst (λ (servers : List AloneView). has_stopped servers ≡ false) (sym own.servers) its.going;
        own = its.own;
        others = λ other beside. its.others other beside ∙ sym (ap (λ (servers : List AloneView). party_at servers other) own.servers);
      };
      now_is = own.along.made.1.0;
    }

-- nobody has stopped
none_stopped : (servers : List AloneView) (who : ℕ) (server : AloneView) → has_stopped servers ≡ false → server_at servers who ≡ Some server
    → server.stopped ≡ false
none_stopped [] who server going is = cc
none_stopped (first ∷ servers) zero server going is =
    let one : first ≡ server = cc in
    ap (λ (s : AloneView). s.stopped) (sym one) ∙ (or_parts first.stopped (has_stopped servers) going).0
none_stopped (first ∷ servers) (suc who) server going is =
    none_stopped servers who server (or_parts first.stopped (has_stopped servers) going).1 is

have_not_stopped : (beside : ℕ → Type 0) (servers : List AloneView) → has_stopped servers ≡ false → HaveNotStopped beside servers
have_not_stopped beside servers going = λ who server is there. none_stopped servers who server going there

some_there : (parties : List Party) → 0 < length parties → is_some (slice_get parties 0) ≡ true
some_there [] some = absurd (omega arith)
some_there (first ∷ parties) some = refl

module _ (known : AreServingsKnown) (set : Setting) (me : ℕ) (During : ℕ → RunState → Type 0) (on : AreOn set me During) where
  -- those below have served
  pub record BelowServed (below : Bool) (party : Party) (rest : List MailStep) (new : SoloView) : Type 0 where
    pub hall : SoloView
    pub «to» : VisitedTo During me hall me party
    pub ends : Sequence me hall rest new
    pub still : below ≡ false → me ≢ 0 → box_of «to».world.shared.boxes 0 ≡ []

  below_serve : (old new : SoloView) (party : Party) (steps rest : List MailStep) (below : Bool) (world : RunState) → IsRunStateOf old me party world
      → During 0 world → Sequence me old steps new → steps ≡ Notes (Yielded false (Some below)) ∷ rest → BelowServed below party rest new
  below_serve old new party steps rest below world its during sequence are =
      let begins = begins_with me old new steps (Notes (Yielded false (Some below))) rest are sequence in
      let yields = yields_in me old begins.behind false below begins.makes in
      let visited = (visits_on known set me During on 0 me old yields.between party world yields.visits
      (λ who above under same. omega (arith, under, same)) its during).1 in
      let base = on.base 0 world during in
      record {
        hall = begins.behind;
        «to» = record {
          world = visited.world;
          its = subst (λ (hall : SoloView). IsRunStateOf hall me party visited.world) (sym yields.is)
              (noted_on me (Yielded false (Some below)) yields.between party visited.world visited.its);
          during = visited.during;
        };
        ends = begins.ends;
        still = λ none beside.
            let there : is_some (party_at old.servers 0) ≡ true =
            ap is_some (sym (its.others 0 (λ (same : 0 ≡ me). beside (sym same))))
            ∙ some_there world.parties (omega (arith, base.parties, on.setting.some)) in
            ap (λ (boxes : List (List Frame)). box_of boxes 0) visited.its.shared.boxes
            ∙ (yields.quiet none).empty (have_not_stopped (IsBeside me false) old.servers its.going) 0 (omega (arith, beside)) there;
      }

  -- those above have served
  pub record AboveServed (above : Bool) (party : Party) (rest : List MailStep) (new : SoloView) (before : RunState) : Type 0 where
    pub hall : SoloView
    pub visited : ℕ
    pub behind : me < visited
    pub «to» : VisitedTo During visited hall me party
    pub ends : Sequence me hall rest new
    pub all : (who : ℕ) → visited ≤ who → set.count ≤ who
    pub still : above ≡ false → «to».world.shared.boxes ≡ before.shared.boxes

  above_serve : (old new : SoloView) (party : Party) (steps rest : List MailStep) (above : Bool) (world : RunState) → IsRunStateOf old me party world
      → During (suc me) world → Sequence me old steps new → steps ≡ Notes (Yielded true (Some above)) ∷ rest
      → AboveServed above party rest new world
  above_serve old new party steps rest above world its during sequence are =
      let begins = begins_with me old new steps (Notes (Yielded true (Some above))) rest are sequence in
      let yields = yields_in me old begins.behind true above begins.makes in
      let visits = visits_on known set me During on (suc me) (length old.servers) old yields.between party world yields.visits
      (λ who over under same. omega (arith, over, same)) its during in
      let visited = visits.1 in
      let base = on.base (suc me) world during in
      record {
        hall = begins.behind;
        visited = length old.servers;
        behind = omega (arith, visits.0);
        «to» = record {
          world = visited.world;
          its = subst (λ (hall : SoloView). IsRunStateOf hall me party visited.world) (sym yields.is)
              (noted_on me (Yielded true (Some above)) yields.between party visited.world visited.its);
          during = visited.during;
        };
        ends = begins.ends;
        all = λ who past.
            let nobody : slice_get world.parties who ≡ None =
            its.others who (λ (same : who ≡ me). omega (arith, same, past, visits.0))
            ∙ ap party_in (slice_get_past old.servers who past) in
            omega (arith, no_place world.parties who nobody, base.parties);
        still = λ none.
            visited.its.shared.boxes
            ∙ (yields.quiet none).boxes (have_not_stopped (IsBeside me true) old.servers its.going)
            ∙ sym its.shared.boxes;
      }

  -- all have
  pub record AllServed (moved : Bool) (after : Party) (hall : SoloView) : Type 0 where
    pub world : RunState
    pub its : IsRunStateOf hall me after world
    pub visited : ℕ
    pub behind : me < visited
    pub during : During visited world
    pub all : (who : ℕ) → visited ≤ who → set.count ≤ who
    pub still : moved ≡ false → box_of world.shared.boxes 0 ≡ []

  -- where nothing moved, participant 0's mailbox is empty
  still_first : (mine : Bool) (below own_boxes above_boxes : List (List Frame)) → (me ≢ 0 → box_of below 0 ≡ [])
      → own_boxes ≡ below → box_of own_boxes me ≡ [] → above_boxes ≡ own_boxes → box_of above_boxes 0 ≡ []
  still_first mine below own_boxes above_boxes first still empty same =
      ap (λ (boxes : List (List Frame)). box_of boxes 0) same
      ∙ elim (cases_eq me 0) [
        | inl is ↦ ap (box_of own_boxes) (sym is) ∙ empty
        | inr beside ↦ ap (λ (boxes : List (List Frame)). box_of boxes 0) still ∙ first beside
      ]

  all_ends : (denies : Denials) (old new : SoloView) (party after : Party) (steps own : List MailStep) (below mine above : Bool)
      (world : RunState)
      → IsRunStateOf old me party world → During 0 world → Sequence me old steps new
      → steps ≡ Notes (Yielded false (Some below)) ∷ (own ++ Notes (Yielded true (Some above)) ∷ [])
      → IsServedOut denies set.count party after own (Some mine) → AllServed (mine || (below || above)) after new
  all_ends denies old new party after steps own below mine above world its during sequence are served =
      let under = below_serve old new party steps (own ++ Notes (Yielded true (Some above)) ∷ []) below world its during sequence are in
      let cut = cut_in me under.hall new (own ++ Notes (Yielded true (Some above)) ∷ []) own (Notes (Yielded true (Some above)) ∷ []) refl
      under.ends in
      let itself = own_out known denies set me During on mine under.hall cut.mid party after own under.to.world under.to.its
      under.to.during cut.begins
      served in
      let over = above_serve cut.mid new after (Notes (Yielded true (Some above)) ∷ []) [] above itself.world itself.its itself.during cut.ends
      refl in
      record {
        world = over.to.world;
        its = still_on known me over.hall new after [] over.to.world over.ends refl over.to.its;
        visited = over.visited;
        behind = over.behind;
        during = over.to.during;
        all = over.all;
        still = λ none.
            let others = or_parts mine (below || above) none in
            let sides = or_parts below above others.1 in
            still_first mine under.to.world.shared.boxes itself.world.shared.boxes over.to.world.shared.boxes (under.still sides.0)
            (ap (λ (at : Shared). at.boxes) (itself.still others.0)) itself.empty (over.still sides.1);
      }

  pub all_serve : (denies : Denials) (old new : SoloView) (party after : Party) (steps : List MailStep) (moved : Bool) (world : RunState)
      → IsRunStateOf old me party world
      → During 0 world → Sequence me old steps new → HaveServed denies set.count party after steps (Some moved)
      → AllServed moved after new
  all_serve denies old new party after steps moved world its during sequence (HaveServed.below_stops are after_is is) =
      absurd (none-some moved (sym is))
  all_serve denies old new party after steps moved world its during sequence (HaveServed.stops below own served are is) =
      absurd (none-some moved (sym is))
  all_serve denies old new party after steps moved world its during sequence (HaveServed.above_stops below mine own served are is) =
      absurd (none-some moved (sym is))
  all_serve denies old new party after steps moved world its during sequence (HaveServed.ends below mine above own served are is) =
      let same : moved ≡ (mine || (below || above)) = cc in
      subst (λ (moved : Bool). AllServed moved after new) (sym same)
      (all_ends denies old new party after steps own below mine above world its during sequence are served)
