-- Participants that are visited in turn, in one thread: each serves until nothing is left for it.
use Rattle.std.proofs.Common.{◌≡◌, ℕ, suc, ◌+◌, ◌≤◌, ◌⊎◌, Bool, true, false, List, length, set, Option, Some, None, refl, sym, ap, subst, ◌∙◌, ⊎_elim, arith, set-set}
use Rattle.std.specs.Prelude.{if◌then◌else◌}
use Rattle.std.specs.List.{slice_get}
use Rattle.std.proofs.lemmas.List.{set-get_or}
use Rattle.std.proofs.lemmas.Option.{get_or_from_slice_get, slice_get_within}
use Rattle.hp_plain.proofs.Slotted.{slice_get-set_same}
use Rattle.hp_plain.specs.HallView.{HallView, HasDone}
use Rattle.hp_hall.specs.Mail.{MailStep}
use Rattle.hp_serve.specs.Coordinating.{IsServed}
use Rattle.hp_events.specs.declared.validator.Validator.{Validator}
use Rattle.hp_serve.specs.Denials.{Denials}
use Rattle.hp_serve.specs.Party.{Party}
use Rattle.hp_solo.specs.Sequence.{IsServedSome, IsVisited, IsVisitedAs, ServesOnce, ServesSome, Visit, Visits, VisitsBeside, going_place}
use Rattle.hp_solo.specs.Solo.{AreLater, IsPartyServed, IsServedAs, AloneView, SoloView, denials_in, has_stopped, party_in, server_at}
use Rattle.hp_solo.specs.SoloCourse.{going_before, not_before}
use Rattle.hp_solo.proofs.Sequenced.{made_by}
use Rattle.hp_solo.proofs.SoloDrained.{none_stopped}

-- what stands at a place may be written there again
set_there : {X : Type 0} (xs : List X) (i : ℕ) (x : X) → slice_get xs i ≡ Some x → set xs i x ≡ xs
set_there xs i x there = subst (λ y. set xs i y ≡ xs) (get_or_from_slice_get xs i x x there) (set-get_or xs i x)

-- ONE SERVES, WHOEVER ELSE IS THERE

-- it has not served yet
pub some_first : (denies : Denials) (hall : HallView) (party : Party) → IsServedSome denies hall hall party party
some_first denies hall party servers validators there =
    subst
    (λ (all : List AloneView). ServesSome denies party.me (record { plain = hall; servers = servers }) (record { plain = hall; servers = all }))
    (sym (set_there servers party.me (going_place validators party) there))
    (ServesSome.none (record { plain = hall; servers = servers }))

-- one serving
abbrev HasServedOnce : Denials → HallView → HallView → Party → Party → Option Bool → Type 0
HasServedOnce denies old new party after answer = (steps : List MailStep) × HasDone old new party.me steps
    × IsServed denies (length old.owns) party after steps answer

module _ (denies : Denials) (a b c : HallView) (party mid after : Party) (moved : Bool) (answer : Option Bool) (is : answer ≡ Some moved)
    (so_far : IsPartyServed a b party mid) (here : IsPartyServed b c mid after) (one : HasServedOnce denies b c mid after answer)
    (servers : List AloneView) (validators : List (Validator Bool)) (there : server_at servers party.me ≡ Some (going_place validators party)) where
  abbrev before : List AloneView
  before = set servers party.me (going_place validators mid)

  once : ServesOnce denies party.me moved (record { plain = b; servers = before })
      (record { plain = c; servers = set before party.me (going_place validators after) })
  once = record {
    validators = validators;
    party = mid;
    after = after;
    steps = one.0;
    there = slice_get-set_same servers party.me (going_place validators mid) (slice_get_within servers party.me (going_place validators party) there);
    serves = subst (λ (o : Option Bool). IsServed denies (length b.owns) mid after one.0 o) is one.2;
    made = made_by party.me one.0 b c here.serving.course (subst (λ (who : ℕ). HasDone b c who one.0) so_far.same.me one.1)
        (λ other apart. here.serving.did other (λ same. apart (same ∙ so_far.same.me)));
    servers = refl;
  }

  last_once : ServesOnce denies party.me moved (record { plain = b; servers = before })
      (record { plain = c; servers = set servers party.me (going_place validators after) })
  last_once =
      subst
      (λ (all : List AloneView). ServesOnce denies party.me moved (record { plain = b; servers = before }) (record { plain = c; servers = all }))
      (set-set servers party.me (going_place validators mid) (going_place validators after)) once

-- it did something once more
pub some_more : (denies : Denials) (a b c : HallView) (party mid after : Party) (answer : Option Bool) → answer ≡ Some true
    → IsPartyServed a b party mid → IsPartyServed b c mid after → HasServedOnce denies b c mid after answer
    → IsServedSome denies a b party mid → IsServedSome denies a c party after
some_more denies a b c party mid after answer is so_far here one was servers validators there =
    ServesSome.more (record { plain = a; servers = servers }) (record { plain = b; servers = set servers party.me (going_place validators mid) })
    (record { plain = c; servers = set servers party.me (going_place validators after) }) (was servers validators there)
    (last_once denies a b c party mid after true answer is so_far here one servers validators there)

-- it did nothing at last
pub visited_by : (denies : Denials) (a b c : HallView) (party mid after : Party) (answer : Option Bool) → answer ≡ Some false
    → IsPartyServed a b party mid → IsPartyServed b c mid after → HasServedOnce denies b c mid after answer
    → IsServedSome denies a b party mid → IsVisited denies a c party after
visited_by denies a b c party mid after answer is so_far here one was servers validators there =
    Visit.serves (record { plain = b; servers = set servers party.me (going_place validators mid) }) (was servers validators there)
    (last_once denies a b c party mid after false answer is so_far here one servers validators there)

-- THOSE OF A HALL

-- one that has not stopped was visited at its place
visit_of : (denies : Denials) (old new : HallView) (servers : List AloneView) (number : ℕ) (party after : Option Party)
    (validators : List (Validator Bool)) (stopped ended : Bool)
    → server_at servers number ≡ Some (record { party = party; validators = validators; stopped = stopped })
    → ((there : Party) → party ≡ Some there → there.me ≡ number) → IsServedAs old new party after → stopped ≡ false → ended ≡ false
    → IsVisitedAs denies old new party after
    → Visit denies number (record { plain = old; servers = servers })
    (record { plain = new; servers = set servers number (record { party = after; validators = validators; stopped = ended }) })
visit_of denies old new servers number party after validators true ended there numbered served going ends visited = cc
visit_of denies old new servers number party after validators false true there numbered served going ends visited = cc
visit_of denies old new servers number None None validators false false there numbered served going ends visited =
    Visit.is_away (ap party_in there)
    (ap (λ (hall : HallView). record { plain = hall; servers = set servers number (record { party = None; validators = validators; stopped = false }) }) served
    ∙ ap (λ (all : List AloneView). record { plain = old; servers = all }) (set_there servers number (record { party = None; validators = validators; stopped = false }) there))
visit_of denies old new servers number None (Some after) validators false false there numbered served going ends visited = absurd served
visit_of denies old new servers number (Some party) None validators false false there numbered served going ends visited = absurd served
visit_of denies old new servers number (Some party) (Some after) validators false false there numbered served going ends visited =
    let me = numbered party refl in
    subst
    (λ (n : ℕ). Visit denies n (record { plain = old; servers = servers }) (record { plain = new; servers = set servers n (going_place validators after) }))
    me
    (visited servers validators (subst (λ (n : ℕ). server_at servers n ≡ Some (going_place validators party)) (sym me) there))

pub visit_one : (old new : HallView) (servers : List AloneView) (number : ℕ) (server after : AloneView) → slice_get servers number ≡ Some server
    → ((party : Party) → server.party ≡ Some party → party.me ≡ number) → IsServedAs old new server.party after.party
    → after.validators ≡ server.validators → (server.stopped ≡ true → after.stopped ≡ true)
    → (after.stopped ≡ false → IsVisitedAs (denials_in (Some server)) old new server.party after.party)
    → has_stopped (set servers number after) ≡ false
    → Visit (denials_in (server_at servers number)) number (record { plain = old; servers = servers }) (record { plain = new; servers = set servers number after })
visit_one old new servers number server after there numbered served limits stops visited off =
    let here = slice_get-set_same servers number after (slice_get_within servers number server there) in
    let going : after.stopped ≡ false = none_stopped (set servers number after) number after off here in
    subst
    (λ (place : Option AloneView). Visit (denials_in place) number (record { plain = old; servers = servers })
    (record { plain = new; servers = set servers number after }))
    (sym there)
    (subst
    (λ (validators : List (Validator Bool)). Visit (denials_in (Some server)) number (record { plain = old; servers = servers })
    (record { plain = new; servers = set servers number (record after { validators = validators }) }))
    (sym limits)
    (visit_of (denials_in (Some server)) old new servers number server.party after.party server.validators server.stopped after.stopped there
    numbered served (not_before server.stopped after.stopped stops going) going (visited going)))

-- those from one number on, and then the next one
pub visits_more : (from number : ℕ) (a b c : SoloView) → AreLater b c → (has_stopped b.servers ≡ false → Visits from number a b)
    → (has_stopped c.servers ≡ false → Visit (denials_in (server_at b.servers number)) number b c) → has_stopped c.servers ≡ false → Visits from (number + 1) a c
visits_more from number a b c later was one off =
    let more : suc number ≡ number + 1 = omega arith in
    subst (λ (n : ℕ). Visits from n a c) more (Visits.next number a b c (was (going_before b c later off)) (one off))

-- all of them in the end
pub visits_ended : (from to number : ℕ) (a b : SoloView) → from ≤ to → to ≤ number → (number ≤ from) ⊎ (number ≤ to) → Visits from number a b
    → Visits from to a b
visits_ended from to number a b order behind within visits =
    let same : number ≡ to = ⊎_elim (λ (none : number ≤ from). omega arith) (λ (some : number ≤ to). omega arith) within in
    subst (λ (n : ℕ). Visits from n a b) same visits

-- those of a side are those of its numbers
pub visits_beside : (me : ℕ) (above : Bool) (from to : ℕ) (old new : SoloView) → from ≡ (if above then me + 1 else 0)
    → to ≡ (if above then length old.servers else me) → Visits from to old new → VisitsBeside me above old new
visits_beside me false from to old new first last visits =
    subst (λ (n : ℕ). Visits 0 n old new) last (subst (λ (n : ℕ). Visits n to old new) first visits)
visits_beside me true from to old new first last visits =
    let more : from ≡ suc me = omega arith in
    subst (λ (n : ℕ). Visits (suc me) n old new) last (subst (λ (n : ℕ). Visits n to old new) more visits)
