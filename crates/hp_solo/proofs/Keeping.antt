-- One that serves again and again has served at least once, whoever serves before and after it.
use Rattle.std.proofs.Common.{◌≡◌, ◌≢◌, ℕ, ◌+◌, ◌<◌, ◌≤◌, Bool, true, false, List, [], ◌++◌, length, Option, Some, None, refl, sym, subst, ⊎_elim, arith}
use Rattle.std.proofs.lemmas.List.{append-nil, append_assoc}
use Rattle.std.proofs.lemmas.Option.{slice_get_within}
use Rattle.hp_hall.specs.Mail.{MailStep}
use Rattle.hp_plain.specs.Course.{done_then}
use Rattle.hp_plain.specs.HallView.{HallView, HasDone}
use Rattle.hp_serve.specs.Denials.{Denials}
use Rattle.hp_serve.specs.Coordinating.{IsServed}
use Rattle.hp_serve.specs.Party.{Party}
use Rattle.hp_solo.specs.Served.{KeepsServing, KeepsServingAs, KeepsServingAt}
use Rattle.hp_solo.specs.Solo.{AloneView, IsPartyServed, denials_in, party_at, party_in, server_at}
use Rattle.hp_solo.proofs.SoloQuiet.{below_or_same}

-- its first serving
keeps_first : {denies : Denials}
    → (a b c : HallView) (party mid after : Party) (answer : Option Bool) (steps : List MailStep) → b ≡ a → mid ≡ party
    → HasDone b c mid.me steps → IsServed denies (length b.owns) mid after steps answer
    → KeepsServing denies (length a.owns) party.me a c party
keeps_first {denies} a b c party mid after answer steps here same did serves = record {
  after = after;
  answer = answer;
  first = steps;
  rest = [];
  did = subst (λ (made : List MailStep). HasDone a c party.me made) (sym (append-nil steps))
      (subst (λ (who : Party). HasDone a c who.me steps) same (subst (λ (hall : HallView). HasDone hall c mid.me steps) here did));
  serves = subst (λ (who : Party). IsServed denies (length a.owns) who after steps answer) same
      (subst (λ (hall : HallView). IsServed denies (length hall.owns) mid after steps answer) here serves);
}

-- a serving more, where it had served, and its first where it had not
pub keeps_on : {denies : Denials}
    → (a b c : HallView) (party mid after : Party) (moved : Bool) (answer : Option Bool) → IsPartyServed a b party mid
    → (moved ≡ false → b ≡ a) → (moved ≡ false → mid ≡ party) → (moved ≡ true → KeepsServing denies (length a.owns) party.me a b party)
    → (steps : List MailStep) × HasDone b c mid.me steps × IsServed denies (length b.owns) mid after steps answer
    → KeepsServing denies (length a.owns) party.me a c party
keeps_on a b c party mid after false answer so_far still_hall still_party kept one =
    keeps_first a b c party mid after answer one.0 (still_hall refl) (still_party refl) one.1 one.2
keeps_on a b c party mid after true answer so_far still_hall still_party kept one =
    let was = kept refl in
    record {
      after = was.after;
      answer = was.answer;
      first = was.first;
      rest = was.rest ++ one.0;
      did = subst (λ (steps : List MailStep). HasDone a c party.me steps) (append_assoc was.first was.rest one.0)
          (done_then a b c party.me (was.first ++ was.rest) one.0 was.did
          (subst (λ (who : ℕ). HasDone b c who one.0) so_far.same.me one.1));
      serves = was.serves;
    }

-- who served at least once did so where it did nothing after that, and where it had done nothing before
keeps_along : {denies : Denials} → (a b c : HallView) (who : ℕ) (party : Party) → HasDone b c who []
    → KeepsServing denies (length a.owns) who a b party → KeepsServing denies (length a.owns) who a c party
keeps_along a b c who party nothing kept =
    let steps = kept.first ++ kept.rest in
    record {
      after = kept.after;
      answer = kept.answer;
      first = kept.first;
      rest = kept.rest;
      did = subst (λ (all : List MailStep). HasDone a c who all) (append-nil steps) (done_then a b c who steps [] kept.did nothing);
      serves = kept.serves;
    }

keeps_since : {denies : Denials} → (a b c : HallView) (who : ℕ) (party : Party) → length b.owns ≡ length a.owns → HasDone a b who []
    → KeepsServing denies (length b.owns) who b c party → KeepsServing denies (length a.owns) who a c party
keeps_since {denies} a b c who party count nothing kept = record {
  after = kept.after;
  answer = kept.answer;
  first = kept.first;
  rest = kept.rest;
  did = done_then a b c who [] (kept.first ++ kept.rest) nothing kept.did;
  serves = subst (λ (count : ℕ). IsServed denies count party kept.after kept.first kept.answer) count kept.serves;
}

along_at : (denies : Denials) (a b c : HallView) (who : ℕ) (party : Option Party) → HasDone b c who [] → KeepsServingAt denies a b who party
    → KeepsServingAt denies a c who party
along_at denies a b c who None nothing kept = tt
along_at denies a b c who (Some party) nothing kept = keeps_along a b c who party nothing kept

since_at : (denies : Denials) (a b c : HallView) (who : ℕ) (party : Option Party) → length b.owns ≡ length a.owns → HasDone a b who []
    → KeepsServingAt denies b c who party → KeepsServingAt denies a c who party
since_at denies a b c who None count nothing kept = tt
since_at denies a b c who (Some party) count nothing kept = keeps_since a b c who party count nothing kept

-- one that served stands at its number
pub keeps_one : (denies : Denials) (old new : HallView) (number : ℕ) (party : Option Party)
    → ((there : Party) → party ≡ Some there → there.me ≡ number)
    → KeepsServingAs denies old new party → KeepsServingAt denies old new number party
keeps_one denies old new number None numbered kept = tt
keeps_one denies old new number (Some party) numbered kept =
    subst (λ (who : ℕ). KeepsServing denies (length old.owns) who old new party) (numbered party refl) kept

-- those from one number on served, and then the next one
pub keeps_more : (from number : ℕ) (a b c : HallView) (first mid : List AloneView) → length b.owns ≡ length a.owns → HasDone a b number []
    → ((who : ℕ) → who ≢ number → HasDone b c who []) → server_at mid number ≡ server_at first number
    → ((who : ℕ) → from ≤ who → who < number → KeepsServingAt (denials_in (server_at first who)) a b who (party_at first who))
    → KeepsServingAt (denials_in (server_at mid number)) b c number (party_at mid number) → (who : ℕ) → from ≤ who → who < number + 1
    → KeepsServingAt (denials_in (server_at first who)) a c who (party_at first who)
keeps_more from number a b c first mid count before others stays so_far next who begun below =
    ⊎_elim
    (λ (earlier : who < number).
    let apart : who ≢ number = λ same. absurd (omega (arith, earlier, same)) in
    along_at (denials_in (server_at first who)) a b c who (party_at first who) (others who apart) (so_far who begun earlier))
    (λ (same : who ≡ number).
    subst (λ (n : ℕ). KeepsServingAt (denials_in (server_at first n)) a c n (party_at first n)) (sym same)
    (since_at (denials_in (server_at first number)) a b c number (party_at first number) count before
    (subst (λ (server : Option AloneView). KeepsServingAt (denials_in server) b c number (party_in server)) stays next)))
    (below_or_same number who below)

-- nobody is to have served whom the hall does not have
keeps_some : (old new : HallView) (who : ℕ) (server : Option AloneView)
    → ((there : AloneView) → server ≡ Some there → KeepsServingAt (denials_in server) old new who (party_in server))
    → KeepsServingAt (denials_in server) old new who (party_in server)
keeps_some old new who None keeps = tt
keeps_some old new who (Some there) keeps = keeps there refl

pub keeps_within : (old new : HallView) (servers : List AloneView) (who : ℕ)
    → (who < length servers → KeepsServingAt (denials_in (server_at servers who)) old new who (party_at servers who))
    → KeepsServingAt (denials_in (server_at servers who)) old new who (party_at servers who)
keeps_within old new servers who keeps =
    keeps_some old new who (server_at servers who) (λ there is. keeps (slice_get_within servers who there is))
