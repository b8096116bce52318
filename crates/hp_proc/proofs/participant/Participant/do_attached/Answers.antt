-- Each line that only who is attached does is done as its kind is.
use Rattle.std.proofs.Common.{◌≡◌, ◌∙◌, ◌+◌, ◌≤◌, ℕ, Bool, inl, inr, ap, refl, sym, subst, arith}
use Rattle.std.specs.Prelude.{◌⊎◌, IfOk, Result, Ok, Err, ⊤}
use Rattle.hp_script.specs.declared.answer.Answer.{Answer}
use Rattle.hp_script.specs.declared.line.Act.{Act}
use Rattle.hp_script.specs.declared.line.Act.TheVariants as act
use Rattle.hp_script.specs.declared.token.Token.{Token}
use Rattle.hp_serve.proofs.AskingFacts.AskedAlong.{if_ok}
use Rattle.hp_serve.specs.Clocks.{longest_allocation, longest_wait}
use Rattle.hp_serve.specs.Party.{Party}
use Rattle.hp_proc.specs.Courses.{Allocates}
use Rattle.hp_proc.specs.LineInHall.{IsMapped}
use Rattle.hp_proc.specs.Registering.{IsRegistering}
use Rattle.hp_proc.proofs.RegisteredHere.{here_again, here_halts, here_registered}
use Rattle.hp_proc.proofs.participant.Participant.do_attached.Goals as goal

-- a line that is no allocation says nothing of the address that it answers
lies_none : {E : Type 0} (result : Result Answer E) (deed : Act) (party : Party) → (Allocates deed → ⊥)
    → IfOk result (λ given. Allocates deed → IsMapped party given)
lies_none (Ok given) deed party none = λ allocates. absurd (none allocates)
lies_none (Err stopped) deed party none = tt

-- as one of another kind is
none_by : (deed found : Act) → deed ≡ found → (Allocates found → ⊥) → Allocates deed → ⊥
none_by deed found is none allocates = none (subst Allocates is allocates)

-- a wait carries the clock no further than an allocation does
wait_within : (deadline old new : ℕ) → new ≤ old + longest_wait deadline → new ≤ old + longest_allocation deadline
wait_within deadline old new rises = omega (arith, rises)

still_within : (deadline old new : ℕ) → new ≤ old + 0 → new ≤ old + longest_allocation deadline
still_within deadline old new rises = omega (arith, rises)

pub returns-in-Alloc-clause-lies : goal.returns-in-Alloc-clause-lies
returns-in-Alloc-clause-lies g c = if_ok _ _ c.do_alloc.result (λ given lies allocates. lies) c.do_alloc.ensures.lies

pub returns-in-Zone-clause-lies : goal.returns-in-Zone-clause-lies
returns-in-Zone-clause-lies g c = if_ok _ _ c.do_zone.result (λ given lies allocates. lies) c.do_zone.ensures.lies

pub returns-in-Free-clause-lies : goal.returns-in-Free-clause-lies
returns-in-Free-clause-lies g c =
    lies_none c.do_free.result c.args.line.now.act c.do_free.new.self.party (none_by _ _ c.in-Free.is (λ none. none))

pub returns-in-Free-clause-clock : goal.returns-in-Free-clause-clock
returns-in-Free-clause-clock g c = λ one. wait_within _ _ _ (c.do_free.ensures.clock one)

pub returns-in-Resize-clause-lies : goal.returns-in-Resize-clause-lies
returns-in-Resize-clause-lies g c =
    lies_none c.do_resize.result c.args.line.now.act c.do_resize.new.self.party (none_by _ _ c.in-Resize.is (λ none. none))

pub returns-in-Resize-clause-clock : goal.returns-in-Resize-clause-clock
returns-in-Resize-clause-clock g c = λ one. wait_within _ _ _ (c.do_resize.ensures.clock one)

pub returns-in-Lookup-clause-lies : goal.returns-in-Lookup-clause-lies
returns-in-Lookup-clause-lies g c =
    lies_none c.do_lookup.result c.args.line.now.act c.do_lookup.new.self.party (none_by _ _ c.in-Lookup.is (λ none. none))

pub returns-in-Lookup-clause-clock : goal.returns-in-Lookup-clause-clock
returns-in-Lookup-clause-clock g c = λ one. still_within _ _ _ (c.do_lookup.ensures.clock one)

pub returns-in-Unzone-clause-lies : goal.returns-in-Unzone-clause-lies
returns-in-Unzone-clause-lies g c =
    lies_none c.do_unzone.result c.args.line.now.act c.do_unzone.new.self.party (none_by _ _ c.in-Unzone.is (λ none. none))

pub returns-in-Unzone-clause-clock : goal.returns-in-Unzone-clause-clock
returns-in-Unzone-clause-clock g c = λ one. wait_within _ _ _ (c.do_unzone.ensures.clock one)

pub returns-in-Dump-clause-lies : goal.returns-in-Dump-clause-lies
returns-in-Dump-clause-lies g c =
    lies_none c.do_dump.result c.args.line.now.act c.do_dump.new.self.party (none_by _ _ c.in-Dump.is (λ none. none))

pub returns-in-Dump-clause-clock : goal.returns-in-Dump-clause-clock
returns-in-Dump-clause-clock g c = λ one. still_within _ _ _ (c.do_dump.ensures.clock one)

pub returns-in-Stats-clause-lies : goal.returns-in-Stats-clause-lies
returns-in-Stats-clause-lies g c =
    lies_none c.do_stats.result c.args.line.now.act c.do_stats.new.self.party (none_by _ _ c.in-Stats.is (λ none. none))

pub returns-in-Stats-clause-clock : goal.returns-in-Stats-clause-clock
returns-in-Stats-clause-clock g c = λ one. still_within _ _ _ (c.do_stats.ensures.clock one)

-- it is a watcher's line, or a validator's
watched_so : {deed : Act} → ((name : Token) × deed ≡ act.Watch name) ⊎ ((name : Token) × deed ≡ act.Unwatch name) → IsRegistering deed
watched_so {deed} (inl (name, is)) = subst IsRegistering (sym is) tt
watched_so {deed} (inr (name, is)) = subst IsRegistering (sym is) tt

limited_so : {deed : Act} → ((name : Token) × (socket : ℕ) × (bytes : ℕ) × (allow : Bool) × deed ≡ act.Limit name socket bytes allow)
    ⊎ ((name : Token) × (socket : ℕ) × deed ≡ act.Unlimit name socket) → IsRegistering deed
limited_so {deed} (inl (name, socket, bytes, allow, is)) = subst IsRegistering (sym is) tt
limited_so {deed} (inr (name, socket, is)) = subst IsRegistering (sym is) tt

pub returns-in-Watch-clause-does : goal.returns-in-Watch-clause-does
returns-in-Watch-clause-does g c =
    let registers : IsRegistering c.args.line.now.act = watched_so c.in-Watch.is in
    here_registered c.do_registering-in-Watch.result c.args.self.now c.do_registering-in-Watch.new.self (g.H.Hall.state c.args.hall.now) c.args.line.now c.args.line.now.act
    refl registers c.requires.attached c.do_registering-in-Watch.ensures.given c.do_registering-in-Watch.ensures.left

pub returns-in-Watch-clause-halts : goal.returns-in-Watch-clause-halts
returns-in-Watch-clause-halts g c =
    let registers : IsRegistering c.args.line.now.act = watched_so c.in-Watch.is in
    here_halts c.do_registering-in-Watch.result c.args.self.now c.do_registering-in-Watch.new.self (g.H.Hall.state c.args.hall.now) c.args.line.now c.args.line.now.act
    refl registers c.do_registering-in-Watch.ensures.err

pub returns-in-Watch-clause-ready : goal.returns-in-Watch-clause-ready
returns-in-Watch-clause-ready g c =
    here_again c.do_registering-in-Watch.result c.args.self.now c.do_registering-in-Watch.new.self (g.H.Hall.state c.args.hall.now) c.args.line.now c.args.line.now.act
    c.do_registering-in-Watch.ensures.left c.do_registering-in-Watch.ensures.err c.requires.ready

pub returns-in-Limit-clause-does : goal.returns-in-Limit-clause-does
returns-in-Limit-clause-does g c =
    let registers : IsRegistering c.args.line.now.act = limited_so c.in-Limit.is in
    here_registered c.do_registering.result c.args.self.now c.do_registering.new.self (g.H.Hall.state c.args.hall.now) c.args.line.now c.args.line.now.act
    refl registers c.requires.attached c.do_registering.ensures.given c.do_registering.ensures.left

pub returns-in-Limit-clause-halts : goal.returns-in-Limit-clause-halts
returns-in-Limit-clause-halts g c =
    let registers : IsRegistering c.args.line.now.act = limited_so c.in-Limit.is in
    here_halts c.do_registering.result c.args.self.now c.do_registering.new.self (g.H.Hall.state c.args.hall.now) c.args.line.now c.args.line.now.act
    refl registers c.do_registering.ensures.err

pub returns-in-Limit-clause-ready : goal.returns-in-Limit-clause-ready
returns-in-Limit-clause-ready g c =
    here_again c.do_registering.result c.args.self.now c.do_registering.new.self (g.H.Hall.state c.args.hall.now) c.args.line.now c.args.line.now.act
    c.do_registering.ensures.left c.do_registering.ensures.err c.requires.ready
