-- A turn of a wait in a hall of one thread: what a pause leaves, and that it uses up one; and who stands beside one that waits.
use Rattle.std.proofs.Common.{◌≡◌, ℕ, ◌+◌, ◌<◌, ◌≤◌, Bool, true, false, true≢false, List, [], ◌∷◌, ◌++◌, length, Option, Some, None, refl, sym, ap, subst, ◌∙◌, ⊎_elim, arith}
use Rattle.std.specs.Prelude.{IfSome}
use Rattle.std.proofs.lemmas.Option.{slice_get_within}
use Rattle.hp_hall.proofs.AsksOfHalls.Pending.{later_from_pending}
use Rattle.hp_plain.specs.HallSteps.{after_pause}
use Rattle.hp_plain.specs.HallView.{HallView, HasDone}
use Rattle.hp_hall.specs.Mail.{Notes}
use Rattle.hp_hall.specs.Measures.{IsPending, boxes_measure, counted, pause_measure, pending_at}
use Rattle.hp_hall.specs.declared.note.Note.TheVariants.{Paused}
use Rattle.hp_serve.specs.Denials.{Denials}
use Rattle.hp_serve.specs.Party.{Party}
use Rattle.hp_serve.proofs.MemberLemmas.{at_each}
use Rattle.hp_solo.specs.Served.{HasServedAt, ServesOn}
use Rattle.hp_solo.specs.Solo.{AreLater, IsLaterAt, IsNextDue, IsNotBeside, IsServerAtRest, IsSolo, AloneView, SoloView, denials_in, server_at, servers_measure, solo_measure}
use Rattle.hp_solo.specs.SoloCourse.{party_same, server_stays}
use Rattle.hp_solo.proofs.SoloSteps.{did_apart, did_itself}
use Rattle.hp_solo.proofs.SoloWeights.{jump_falls}

-- the invariant of the hall after a pause
pub solo_paused : (old new : HallView) (servers : List AloneView) (me : ℕ) (moved : Bool) (until : Option ℕ) (reading : ℕ)
    → new ≡ after_pause me moved until reading old → IsSolo (record { plain = old; servers = servers })
    → IsSolo (record { plain = new; servers = servers })
solo_paused old new servers me moved until reading same is =
    subst (λ (hall : HallView). IsSolo (record { plain = hall; servers = servers })) (sym same) (record {
      count = is.count;
      tied = λ who party there. let at = is.tied who party there in record { number = at.number; tied = at.tied };
    })

-- one that is there pauses after its servings
served_paused : (denies : Denials) (old new : HallView) (who : ℕ) (party : Option Party)
    → HasDone old new who (Notes (Paused false None) ∷ [])
    → HasServedAt denies old new who party party
served_paused denies old new who None did = tt
served_paused denies old new who (Some party) did = record {
  steps = Notes (Paused false None) ∷ [];
  did = did;
  serves = ServesOn.pauses party party [] (ServesOn.rests party);
}

server_paused : (old new : HallView) (who : ℕ) (server : Option AloneView) → HasDone old new who (Notes (Paused false None) ∷ [])
    → IsLaterAt old new who server server
server_paused old new who None did = tt
server_paused old new who (Some server) did = record {
  party = party_same server.party;
  validators = refl;
  stopped = λ is. is;
  served = λ going. served_paused (denials_in (Some server)) old new who server.party did;
}

-- who serves in the hall over a pause of participant 0 in which nothing moved
pub later_paused : (old new : HallView) (servers : List AloneView) (reading : ℕ) → new ≡ after_pause 0 false None reading old
    → AreLater (record { plain = old; servers = servers }) (record { plain = new; servers = servers })
later_paused old new servers reading same =
    let step = Notes (Paused false None) in
    let mail : new.mail ≡ old.mail ++ (0, step) ∷ [] = ap (λ (hall : HallView). hall.mail) same in
    at_each (λ who. IsLaterAt old new who (server_at servers who) (server_at servers who)) 0
    (server_paused old new 0 (server_at servers 0) (did_itself old new 0 step mail))
    (λ who apart. server_stays old new who (server_at servers who) (λ there. did_apart old new 0 step mail who apart))

-- what all weigh after a pause
pub weighs_paused : (old new : SoloView) (me : ℕ) (moved : Bool) (until : Option ℕ) (reading : ℕ)
    → new.plain ≡ after_pause me moved until reading old.plain → new.servers ≡ old.servers
    → solo_measure new ≡ boxes_measure old.plain.boxes + servers_measure (pending_at reading) old.servers
weighs_paused old new me moved until reading same servers =
    let boxes : boxes_measure new.plain.boxes ≡ boxes_measure old.plain.boxes = ap (λ (hall : HallView). boxes_measure hall.boxes) same in
    let weighs : servers_measure (pending_at new.plain.clock) new.servers ≡ servers_measure (pending_at reading) old.servers =
    ap (servers_measure (pending_at new.plain.clock)) servers
    ∙ ap (λ (hall : HallView). servers_measure (pending_at hall.clock) old.servers) same in
    omega (arith, boxes, weighs)

-- in one thread a turn in which nothing moved waits for a deadline
no_deadline : (clock : ℕ) → IsPending 1 (pending_at clock) false None → ⊥
no_deadline clock pending =
    ⊎_elim (λ (moved : false ≡ true). absurd (true≢false (sym moved))) (λ (none : 1 ≡ 0). absurd (omega (arith, none))) pending

-- what a pause uses up: where something moved the clock stands, and else it jumps to the least deadline that is still to come
pub pause_falls : (old new : SoloView) (me : ℕ) (moved : Bool) (until : Option ℕ) (reading : ℕ)
    → IsPending 1 (pending_at old.plain.clock) moved until → (moved ≡ true → reading ≡ old.plain.clock)
    → (moved ≡ false → IfSome until (λ deadline. IsNextDue old.plain.clock old.servers deadline reading))
    → new.plain ≡ after_pause me moved until reading old.plain → new.servers ≡ old.servers
    → solo_measure new + counted (pending_at new.plain.clock) until + pause_measure 1 moved
    ≤ solo_measure old + counted (pending_at old.plain.clock) until
pause_falls old new me true until reading before still next same servers =
    let clock = still refl in
    let weighs : servers_measure (pending_at reading) old.servers ≡ servers_measure (pending_at old.plain.clock) old.servers =
    ap (λ (at : ℕ). servers_measure (pending_at at) old.servers) clock in
    let counts : counted (pending_at new.plain.clock) until ≡ counted (pending_at old.plain.clock) until =
    ap (λ (hall : HallView). counted (pending_at hall.clock) until) same ∙ ap (λ (at : ℕ). counted (pending_at at) until) clock in
    omega (arith, weighs_paused old new me true until reading same servers, weighs, counts)
pause_falls old new me false None reading before still next same servers = absurd (no_deadline old.plain.clock before)
pause_falls old new me false (Some deadline) reading before still next same servers =
    let falls = jump_falls old.plain.clock reading deadline old.servers (next refl) in
    let counts : pending_at new.plain.clock deadline ≡ pending_at reading deadline =
    ap (λ (hall : HallView). pending_at hall.clock deadline) same in
    omega (arith, weighs_paused old new me false (Some deadline) reading same servers, falls, counts)

-- a deadline for which a hall of one thread may pause is still to come
pub pause_later : (clock : ℕ) (moved : Bool) (until : Option ℕ) (deadline : ℕ) → until ≡ Some deadline
    → IsPending 1 (pending_at clock) moved until → clock < deadline
pause_later clock moved until deadline some pending =
    later_from_pending clock deadline (subst (λ (o : Option ℕ). IsPending 1 (pending_at clock) moved o) some pending)

-- one that waits does not stand beside itself
pub not_beside : (me : ℕ) (above : Bool) → IsNotBeside me above me
not_beside me false below = omega (arith, below)
not_beside me true below = omega (arith, below)

rests_some : (clock : ℕ) (server : Option AloneView) → ((there : AloneView) → server ≡ Some there → IsServerAtRest clock server)
    → IsServerAtRest clock server
rests_some clock None rests = tt
rests_some clock (Some there) rests = rests there refl

-- nobody is to rest whom the hall does not have
pub rests_within : (clock : ℕ) (servers : List AloneView) (who : ℕ) → (who < length servers → IsServerAtRest clock (server_at servers who))
    → IsServerAtRest clock (server_at servers who)
rests_within clock servers who rests =
    rests_some clock (server_at servers who) (λ there is. rests (slice_get_within servers who there is))
