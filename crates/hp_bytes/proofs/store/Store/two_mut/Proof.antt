-- The loans of the data of two elements, by hand, since no rule of the prover follows a slice in an `Ok`: docs/WALKS.md of the kit has the form.
use Rattle.std.proofs.Common.{◌≡◌, ℕ, ◌+◌, ◌-◌, ◌≤◌, ◌<◌, ◌^◌, List, [], ◌∷◌, ◌++◌, length, take, refl, sym, ap, subst, ◌∙◌, arith, lit<, w64, IfOk, Ok, Err, MutBor}
use Rattle.std.specs.Prelude.{Option, Some, None, Result, drop as cut_off}
use Rattle.std.proofs.raw_atomic.Walks.{proved, leaves}
use Rattle.std.specs.contracts.result.Result as RS
use Rattle.std.proofs.result.Made.{Ok-of, Err-of}
use Rattle.std.proofs.VecSteps.Shapes.{after, head, arm_body}
use seplogic.Ra.Ura.{Ura}
use base.Logic.{SProp, ent, sep, wand, id⊢, emp}
use base.Stored.{coded_list}
use base.Fml.{Fml, GName, fres, ftrue, flft, Lft, Share}
use mir.Syntax.{named}
use mir.Val.{Val, vstruct, vint, of_list, WT}
use contract.Monad.{fact, fact_i}
use contract.Running.{tables}
use prog.Wp.{Wp, after_seq, at_return}
use types.Logic.{Logic, sem}
use types.Kit.{each, assume, fpick, fsplit, feq_l, done, Post as After, any_q, ‵, raw, ◌⊛◌, some, later, at_ret, ◌$◌, ◌∵◌, !, qed, by, move, drop, use0, use1, use2, split, split3, join, pick, group, rewrite, fjoin, await}
use types.Part.{whole, sub, agg}
use types.Match.{live, vrt, in_variant}
use types.Run.{stop, fld, lit, addr as addr_of, no_more, and_then, of_opd, first, switches_on, exec, returns, enter}
use types.ByLocal.{alloc_all, pass_all, free_all, look_at, get, get_in, get_tag, through, sets, sets_last, lands_as, env}
use denote.Builtin.{u8, u64, RefOf, RefMutOf}
use denote.Array.{Array}
use denote.Exit.{yes, no}
use denote.Follow.{follows, follows_by, follows_both, both_by, both_if_by, follows_then, followed}
use denote.Laws.{Typed, Is, shows}
use denote.Plain.{uint_vals, uint_Tells}
use denote.RattleType.{RattleType}
use denote.Ref.{mut_vals, mut_Tells, shr_vals, shr_Tells}
use denote.Signature.{Slot, plain, named_lft}
use denote.Slice.{MutSlice, mut_slice_Tells}
use denote.Steps.{nothing, heard, only, owned, peeks}
use denote.Struct.Struct.{Struct, Struct-Makes}
use denote.Struct.Declared.{shape}
use denote.Struct.Tuple.{Tuple}
use types.Follow.{followed₂}
use types.SemTy.{Arr}
use denote.Memory.{mem}
use denote.Triple.Call.{calls_at}
use denote.Triple.Clauses.{Lasts, lasts}
use denote.Triple.Spec.{triple_of}
use denote.Triple.Table.{framed}
use denote.Triple.Walked.{Stays, stay_dropped, walk_of, Goes-dropped}
use Rattle.std.specs.Result.{result_err}
use Rattle.hp_heap.specs.PlainHeap.{PlainHeap}
use Rattle.hp_heap.specs.contracts.heap.Heap.{the_row as Hr}
use Rattle.hp_bytes.specs.StoreView.{StoreView}
use Rattle.hp_bytes.specs.Stores.{IsData}
use Rattle.hp_bytes.specs.Parts.{AreApart, IsPartOf, two_fault}
use Rattle.hp_bytes.specs.Loans.{lends_whole, lends_stores, with_all}
use Rattle.hp_bytes.specs.LendsBoth.{part_at}
use Rattle.hp_bytes.specs.Cuts.{lends_apart, parts_over}
use Rattle.hp_bytes.specs.declared.part.Part.{Part}
use Rattle.hp_bytes.specs.contracts.part.Part as Pt
use Rattle.hp_bytes.proofs.part.Part.TheLaws as part_laws
use Rattle.hp_bytes.specs.contracts.part.apart_mut as m
use Rattle.hp_bytes.proofs.part.apart_mut.Met as m-met
use Rattle.hp_bytes.proofs.CutSteps.{slice_at, pair_val, pair_of}
use Rattle.hp_bytes.specs.declared.loan.TwoLoans.{TwoLoans}
use Rattle.hp_bytes.specs.declared.fault.ByteFault.{ByteFault}
use Rattle.hp_bytes.specs.contracts.store.Store.{the_row as Sr}
use Rattle.hp_bytes.specs.contracts.loan.TwoLoans.{the_row as Lr}
use Rattle.hp_bytes.specs.contracts.fault.ByteFault.{the_row as Fr}
use Rattle.hp_bytes.proofs.loan.TwoLoans.TheLaws as loan_laws
use Rattle.hp_bytes.proofs.fault.ByteFault.TheLaws as fault_laws
use Rattle.hp_bytes.proofs.StoreLemmas.{part_data}
use Rattle.hp_bytes.proofs.LoanSteps.{result_had, and_tt}
use Rattle.hp_bytes.specs.contracts.store.Store.two_mut as f
use Rattle.hp_bytes.proofs.store.Store.two_mut.Statement.{statement}
use Rattle.hp_bytes.proofs.store.Store.two_mut.Code as code
use Rattle.hp_bytes.specs.contracts.store.Store.loans_at as g
use Rattle.hp_bytes.proofs.store.Store.loans_at.Met as g-met
use Rattle.hp_bytes.specs.contracts.loan.TwoLoans.whole as p
use Rattle.hp_bytes.proofs.loan.TwoLoans.whole.Met as p-met

-- the four parameters
abbrev lender : Slot 2
lender = RefMutOf (0 ∷ []) tt (plain (λ _. Sr)) (λ _. tt)

abbrev read : Slot 2
read = RefOf (1 ∷ []) tt (plain (λ _. Hr)) (λ _. tt)

abbrev number : Slot 2
number = plain (λ _. u64)

abbrev stayed : Stays f.ended.signature.params f.ended.kept
stayed = (stay_dropped lender no, (stay_dropped read yes, (stay_dropped number yes, (stay_dropped number yes, tt))))

abbrev Pr : RattleType
Pr = Pt.the_row

module _ {M : Type 1} {𝓤 : Ura M} (𝓛 : Logic 𝓤) where
  open 𝓛 use {A}

  abbrev said : GName → List ℕ → Fml
  said γ xs = fres γ ((coded_list u8.coded).code xs)

  -- what follows a slice follows the two that it was cut into
  both_then : (γ γ' x y : GName) (H : List ℕ → StoreView) (F : List ℕ → List ℕ → List ℕ)
      → ent 𝓤 (sep 𝓤 (sem 𝓛 (follows Sr (Array u8 0) γ γ' H)) (sem 𝓛 (follows_both (Array u8 0) (Array u8 0) (Array u8 0) γ' x y F))) (sem 𝓛 (follows_both Sr (Array u8 0) (Array u8 0) γ x y (λ u w. H (F u w))))
  unfolding both_by
  both_then γ γ' x y H F =
      qed 𝓛 (‵ (follows Sr (Array u8 0) γ γ' H) ∷ ‵ (follows_both (Array u8 0) (Array u8 0) (Array u8 0) γ' x y F) ∷ []) ∵
      each ! (λ (w : List ℕ × List ℕ). wand 𝓤 (sep 𝓤 (A.res x ((coded_list u8.coded).code w.0)) (A.res y ((coded_list u8.coded).code w.1))) (A.res γ (Sr.coded.code (H (F w.0 w.1))))) (λ w.
      assume ! (‵ (said x w.0) ⊛ ‵ (said y w.1)) $ move ! (0 ∷ 2 ∷ []) $
      use2 𝓛 (‵ (said γ' (F w.0 w.1))) (followed₂ 𝓛 (Arr (mem u8) 0) (Arr (mem u8) 0) (Arr (mem u8) 0) F γ' x y w.0 w.1) $ move ! (1 ∷ 0 ∷ []) $ by ! (followed 𝓛 Sr (Array u8 0) H γ γ' (F w.0 w.1)))

  part_made : (d : Part) → d.from < 2 ^ 64 → d.len < 2 ^ 64 → ent 𝓤 (emp 𝓤) (sem 𝓛 (Pr.own_val d (part_laws.lowered d ∷ [])))
  part_made d from len =
      qed 𝓛 [] ∵ owned ! (Struct (shape Pt.the_type)) (Is (Struct (shape Pt.the_type))) (Struct-Makes 𝓛 (shape Pt.the_type) ((λ _ _. (tt, tt)), ((λ _ _. (tt, tt)), tt))) (d.from, (d.len, tt)) (part_laws.lowered d ∷ [])
      ((vint w64 d.from ∷ [], (vint w64 d.len ∷ [], tt)), (refl, ((refl, from), ((refl, len), tt)))) $ done !

part_is : (addr : ℕ) (store : StoreView) (heap : PlainHeap) (part : Part) → IsPartOf addr store heap part → part ≡ part_at addr store heap
part_is addr store heap part is = let from : part.from ≡ addr - store.base = omega (arith, is.from) in λ i. record { from = from i; len = is.len i }

pub two_mut_spec : {M : Type 1} → statement M
unfolding follows_by both_if_by
two_mut_spec 𝓤 𝓛 𝓜 𝓡 wired =
    let H = 𝓛.H in let c = f.clauses 𝓛 𝓜.mem 𝓡.returns in let W = walk_of 𝓛 f.ended stayed c in let 𝓣 = tables 𝓤 H 𝓜 𝓡 𝓡.env in
    proved 𝓛 f.ended stayed c 𝓜 𝓡 (Goes-dropped 𝓛 2 lender no (λ κs x w. refl), (Goes-dropped 𝓛 2 read yes (λ κs x w. refl), (Goes-dropped 𝓛 2 number yes (λ κs x w. refl), (Goes-dropped 𝓛 2 number yes (λ κs x w. refl), tt))))
    f.Key.name code.function (code.unfolded 𝓤 H 𝓜 𝓡 wired)
    (λ κs. (mut_vals, (shr_vals, (uint_vals w64, (uint_vals w64, tt))))) (λ κs. (mut_Tells (named 0) κs.0 Sr, (shr_Tells (named 1) κs.1.0 Hr, (uint_Tells w64, (uint_Tells w64, tt))))) (λ κs qs bounds a gh are.
    let κ : Lft = κs.0 in let q : Share = qs.0 in let store : StoreView = a.0.now in let heap : PlainHeap = a.1.0.now.plain in let one : ℕ = a.1.1.0 in let other : ℕ = a.1.1.1.0 in
    let Lent : RattleType = Lr (named_lft 2 0 tt κs) in let Bytes : RattleType = MutSlice (named 0) κ u8 in let Pair : RattleType = Tuple (Bytes ∷ Bytes ∷ []) in let fn = code.function in
    let vss : List Val × (List Val × (List Val × (List Val × Unit {0}))) = (mut_vals a.0, (shr_vals a.1.0, (uint_vals w64 one, (uint_vals w64 other, tt)))) in
    let y : W.Ghost = ((κs, qs, bounds, a, vss), gh) in let Out : Val → SProp 𝓤 = W.post y in
    let G = triple_of 𝓛 g.signature (g.spec 𝓛 𝓜.mem 𝓡.returns) in let z : G.Ghost = ((κs, qs, bounds, a, vss), tt) in
    let G² = triple_of 𝓛 p.signature (p.spec 𝓛 𝓜.mem 𝓡.returns) in let G³ = triple_of 𝓛 m.signature (m.spec 𝓛 𝓜.mem 𝓡.returns) in
    let Ones : TwoLoans → Type 0 = λ loans. IsPartOf one store heap loans.first in let Others : TwoLoans → Type 0 = λ loans. IsPartOf other store heap loans.second in
    let Apart : TwoLoans → Type 0 = λ loans. AreApart loans.first loans.second in
    let Refused : Option ByteFault → Type 0 = λ fault. fault ≡ two_fault one other store heap in
    qed 𝓛 (raw (G.pre z) ∷ []) ∵ enter ! _ _ _ _ _ $
    alloc_all ! (λ l. let En = env fn.locals l in
    let Then : After 𝓤 H = any_q (after_seq 𝓤 H (Wp 𝓤 H 𝓣.C 𝓣.Λ En (after 3 fn.body) (at_return 𝓤 H En Out)) (at_return 𝓤 H En Out)) in
    pass_all ! refl ((tt, tt), ((tt, tt), ((tt, record { fits = are.1.1.0.1 }), ((tt, record { fits = are.1.1.1.0.1 }), tt)))) $
    sets ! (addr_of ! (through ! refl (stop !))) refl (tt, tt) $
    calls_at ! (framed 𝓤 H 𝓜 𝓣) G (g-met.met 𝓤 𝓛 𝓜 𝓡 (code.calls-hp_bytes::store::Store::loans_at 𝓡.env wired)) z
    (and_then ! (get ! refl) (and_then ! (get ! refl) (and_then ! (get ! refl) (and_then ! (get ! refl) (no_more !))))) (λ v.
    use1 𝓛 (later (some (λ (r : Result TwoLoans ByteFault). ((‵ (flft κ q) ⊛ ‵ (flft κs.1.0 qs.1.0) ⊛ ‵ ftrue) ⊛ ‵ ((RS.the_row Lent Fr).own_val r (v ∷ [])))
    ⊛ some (λ (ws : Lasts g.ended κs a). ‵ (lasts g.ended κs a ws) ⊛ ‵ (lends_stores a.0 r)
    ⊛ raw (fact 𝓤 (Refused (result_err r))) ⊛ raw (fact 𝓤 (IfOk r (λ loans. loans.store.now ≡ store))) ⊛ raw (fact 𝓤 (IfOk r Ones)) ⊛ raw (fact 𝓤 (IfOk r Others)) ⊛ raw (fact 𝓤 (IfOk r Apart)))))) (id⊢ 𝓤 _) $
    await ! tt $ pick ! (λ r. split ! $ move ! (1 ∷ []) $ pick ! (λ ws. split3 ! $ drop ! $ move ! (1 ∷ []) $ split3 ! $
    heard ! _ (λ refused. heard ! _ (λ told. split3 ! $ heard ! _ (λ told². heard ! _ (λ told³. heard ! _ (λ told⁴. move ! (1 ∷ []) $ split ! $ move ! (1 ∷ 2 ∷ 0 ∷ []) $
    -- [the store that is lent, or the fault; what follows; the tokens]
    result_had Lent Fr v (λ k. ‵ (lends_stores a.0 k)) ! r
    (λ loans us is_ok landed. let same : loans.store.now ≡ store = subst (λ (k : Result TwoLoans ByteFault). IfOk k (λ (loans' : TwoLoans). loans'.store.now ≡ store)) is_ok told in
    let ones : Ones loans = subst (λ (k : Result TwoLoans ByteFault). IfOk k Ones) is_ok told² in let others : Others loans = subst (λ (k : Result TwoLoans ByteFault). IfOk k Others) is_ok told³ in
    let apart : Apart loans = subst (λ (k : Result TwoLoans ByteFault). IfOk k Apart) is_ok told⁴ in
    peeks ! Lent _ (shows 𝓛 Lent) loans us (λ is.
    let low : Val = loan_laws.lowered loans in let word : us ≡ low ∷ [] = (loan_laws.lowers (named_lft 2 0 tt κs)).val_is loans us is in
    let typed : Typed Lent.mir (low ∷ []) = subst (Typed Lent.mir) word (((loan_laws.the_row_laws (named_lft 2 0 tt κs)).lawful 𝓛).typed loans us is) in let good : WT low = typed.0.1 in
    rewrite ! 0 (λ (ws' : List Val). ‵ (Lent.own_val loans ws')) word refl $
    lands_as ! (landed ∙ ap (λ (ws' : List Val). live 0 (of_list (ws' ++ []))) word) refl (tt, (record { fits = lit< tt }, (good, tt))) $
    first ! $ switches_on ! (get_tag ! (vrt ! refl (fld ! refl (stop !))) (whole !)) $ exec ! 𝓣.C 𝓣.Λ En (arm_body 0 (head (after 2 fn.body))) Then $
    sets ! (of_opd ! (get_in ! (vrt ! refl (fld ! refl (stop !))) (in_variant ! 0 0 refl refl (whole !)))) refl (tt, good) $
    sets ! (of_opd ! (get_in ! (fld ! refl (stop !)) (sub ! 1 refl (whole !)))) refl (tt, good.1.0) $
    sets ! (of_opd ! (get_in ! (fld ! refl (stop !)) (sub ! 2 refl (whole !)))) refl (tt, good.1.1.0) $
    sets ! (of_opd ! (get ! refl)) refl (tt, good) $
    -- loans.whole(), of [the store; what follows; the tokens]
    move ! (2 ∷ []) $ split3 ! $ move ! (0 ∷ 2 ∷ []) $ join ! $ move ! (2 ∷ []) $ nothing ! $ move ! (1 ∷ 0 ∷ []) $ join ! $ move ! (1 ∷ 0 ∷ []) $ join ! $ nothing ! $ move ! (1 ∷ 0 ∷ []) $ join ! $
    let y² : G².Ghost = (((κ, tt), (q, tt), tt, (loans, tt), (low ∷ [], tt)), tt) in
    use1 𝓛 (raw (G².pre y²)) (id⊢ 𝓤 _) $
    calls_at ! (framed 𝓤 H 𝓜 𝓣) G² (p-met.met 𝓤 𝓛 𝓜 𝓡 (code.calls-hp_bytes::loan::TwoLoans::whole 𝓡.env wired)) y² (and_then ! (get ! refl) (no_more !)) (λ v².
    use1 𝓛 (later (some (λ (bytes : MutBor (List ℕ)). ((‵ (flft κ q) ⊛ ‵ ftrue) ⊛ ‵ (Bytes.own_val bytes (v² ∷ [])))
    ⊛ some (λ (ws² : Lasts p.ended (κ, tt) (loans, tt)). ‵ (lasts p.ended (κ, tt) (loans, tt) ws²) ⊛ ‵ (lends_whole loans bytes)
    ⊛ raw (fact 𝓤 (bytes.now ≡ loans.store.now.bytes)))))) (id⊢ 𝓤 _) $
    await ! tt $ pick ! (λ bytes. split ! $ move ! (1 ∷ []) $ pick ! (λ ws². split3 ! $ drop ! $ move ! (1 ∷ []) $ heard ! _ (λ all.
    -- the store follows its bytes: [what follows them; the token and the bytes; the other token; what follows the store]
    let bytes_are : bytes.now ≡ store.bytes = all ∙ ap (λ (now : StoreView). now.bytes) same in
    move ! (3 ∷ 0 ∷ []) $
    use2 𝓛 (‵ (follows Sr (Array u8 0) a.0.ghost_name bytes.ghost_name (with_all loans.store.now)))
    (follows_then 𝓛 Sr Sr (Array u8 0) (λ now. now) (with_all loans.store.now) a.0.ghost_name loans.store.ghost_name bytes.ghost_name) $
    rewrite ! 0 (λ (F : List ℕ → StoreView). ‵ (follows Sr (Array u8 0) a.0.ghost_name bytes.ghost_name F)) (λ i. with_all (same i)) refl $
    move ! (1 ∷ []) $ split ! $ split ! $ move ! (2 ∷ []) $
    peeks ! Bytes _ (shows 𝓛 Bytes) bytes (v² ∷ []) (λ is².
    let word² : v² ≡ slice_at bytes = ap only (mut_slice_Tells (named 0) κ u8 bytes (v² ∷ []) is²) in
    rewrite ! 0 (λ (u : Val). ‵ (Bytes.own_val bytes (u ∷ []))) word² refl $
    lands_as ! word² refl (tt, (tt, (record { fits = is².0.1.0 }, tt))) $
    -- apart_mut(bytes, first, second), of [the bytes; the token; nothing; what follows; the other token]
    let one_is : Part = loans.first in let other_is : Part = loans.second in
    move ! (1 ∷ 2 ∷ []) $ join ! $ move ! (1 ∷ []) $
    nothing ! $ use0 𝓛 (‵ (Pr.own_val other_is (part_laws.lowered other_is ∷ []))) (part_made 𝓛 other_is good.1.1.0.0.fits good.1.1.0.1.0.fits) $ join ! $
    use0 𝓛 (‵ (Pr.own_val one_is (part_laws.lowered one_is ∷ []))) (part_made 𝓛 one_is good.1.0.0.fits good.1.0.1.0.fits) $ join ! $ move ! (1 ∷ 0 ∷ []) $ join ! $ move ! (1 ∷ 0 ∷ []) $ join ! $
    use0 𝓛 (raw (fact 𝓤 (other_is.from + other_is.len ≤ length bytes.now))) (fact_i 𝓤 _ (emp 𝓤) (subst (λ (xs : List ℕ). other_is.from + other_is.len ≤ length xs) (sym bytes_are) others.within)) $
    use0 𝓛 (raw (fact 𝓤 (one_is.from + one_is.len ≤ length bytes.now))) (fact_i 𝓤 _ (emp 𝓤) (subst (λ (xs : List ℕ). one_is.from + one_is.len ≤ length xs) (sym bytes_are) ones.within)) $ join ! $
    use0 𝓛 (raw (fact 𝓤 (AreApart one_is other_is))) (fact_i 𝓤 _ (emp 𝓤) apart) $ join ! $ move ! (1 ∷ 0 ∷ []) $ join ! $
    let y³ : G³.Ghost = (((κ, tt), (q, tt), tt, (bytes, (one_is, (other_is, tt))), (slice_at bytes ∷ [], (part_laws.lowered one_is ∷ [], (part_laws.lowered other_is ∷ [], tt)))), tt) in
    use1 𝓛 (raw (G³.pre y³)) (id⊢ 𝓤 _) $
    calls_at ! (framed 𝓤 H 𝓜 𝓣) G³ (m-met.met 𝓤 𝓛 𝓜 𝓡 (code.calls-hp_bytes::part::apart_mut 𝓡.env wired)) y³ (and_then ! (get ! refl) (and_then ! (get ! refl) (and_then ! (get ! refl) (no_more !)))) (λ v³.
    use1 𝓛 (later (some (λ (two : MutBor (List ℕ) × MutBor (List ℕ)). ((‵ (flft κ q) ⊛ ‵ ftrue) ⊛ ‵ (Pair.own_val two (v³ ∷ [])))
    ⊛ some (λ (ws³ : Lasts m.ended (κ, tt) (bytes, (one_is, (other_is, tt)))). ‵ (lasts m.ended (κ, tt) (bytes, (one_is, (other_is, tt))) ws³) ⊛ ‵ (lends_apart one_is other_is bytes two)
    ⊛ raw (fact 𝓤 (two.0.now ≡ take one_is.len (cut_off one_is.from bytes.now))) ⊛ raw (fact 𝓤 (two.1.now ≡ take other_is.len (cut_off other_is.from bytes.now))))))) (id⊢ 𝓤 _) $
    await ! tt $ pick ! (λ two. split ! $ move ! (1 ∷ []) $ pick ! (λ ws³. split3 ! $ drop ! $ move ! (1 ∷ []) $ split ! $ heard ! _ (λ first_is. heard ! _ (λ second_is.
    -- the store follows the two: [what follows them; the token and the two; what follows the bytes; the other token]
    move ! (2 ∷ 0 ∷ []) $
    use2 𝓛 (‵ (follows_both Sr (Array u8 0) (Array u8 0) a.0.ghost_name two.0.ghost_name two.1.ghost_name (λ u w. with_all store (parts_over one_is other_is bytes.now u w))))
    (both_then 𝓛 a.0.ghost_name bytes.ghost_name two.0.ghost_name two.1.ghost_name (with_all store) (parts_over one_is other_is bytes.now)) $
    rewrite ! 0 (λ (F : List ℕ → List ℕ → StoreView). ‵ (follows_both Sr (Array u8 0) (Array u8 0) a.0.ghost_name two.0.ghost_name two.1.ghost_name F))
    (λ i u w. with_all store (parts_over (part_is one store heap one_is ones i) (part_is other store heap other_is others i) (bytes_are i) u w)) refl $
    move ! (1 ∷ []) $ split ! $ split ! $ move ! (2 ∷ []) $
    -- [the two; the token; nothing; what follows; the other token]
    fpick ! (λ both. fsplit ! $ feq_l ! (λ e. fsplit ! $
    peeks ! Bytes _ (shows 𝓛 Bytes) two.0 both.0 (λ is³. rewrite ! 0 (λ (ws' : List Val). ‵ (Bytes.own_val two.0 ws')) (mut_slice_Tells (named 0) κ u8 two.0 both.0 is³) refl $
    move ! (1 ∷ []) $ fsplit ! $
    peeks ! Bytes _ (shows 𝓛 Bytes) two.1 both.1.0 (λ is⁴. rewrite ! 0 (λ (ws' : List Val). ‵ (Bytes.own_val two.1 ws')) (mut_slice_Tells (named 0) κ u8 two.1 both.1.0 is⁴) refl $
    move ! (1 ∷ []) $ drop ! $ move ! (1 ∷ 0 ∷ []) $ join ! $
    let at : Val = pair_val (slice_at two.0) (slice_at two.1) in
    let good³ : WT at = ((tt, (record { fits = is³.0.1.0 }, tt)), ((tt, (record { fits = is⁴.0.1.0 }, tt)), tt)) in
    use1 𝓛 (‵ (Pair.own_val two (at ∷ []))) (pair_of 𝓛 Bytes Bytes two.0 two.1 (slice_at two.0) (slice_at two.1)) $
    lands_as ! (ap only (e ∙ (λ i. vstruct (of_list (mut_slice_Tells (named 0) κ u8 two.0 both.0 is³ i ++ (mut_slice_Tells (named 0) κ u8 two.1 both.1.0 is⁴ i ++ []))) ∷ []))) refl (tt, good³) $
    sets_last ! (agg ! (and_then ! (lit ! tt) (and_then ! (get ! refl) (no_more !)))) refl (tt, (record { fits = lit< tt }, (good³, tt))) $
    exec ! 𝓣.C 𝓣.Λ En (after 3 fn.body) (at_ret En Out) $ sets ! (of_opd ! (get ! refl)) refl (tt, (record { fits = lit< tt }, (good³, tt))) $
    use1 𝓛 (‵ ((RS.the_row Pair Fr).own_val (Ok two) (live 0 (of_list (at ∷ [])) ∷ []))) (Ok-of 𝓛 Pair Fr two at) $
    returns ! (look_at ! 0 refl) $ free_all ! refl $
    -- [the result; a token; nothing; what follows; the other token]
    use0 𝓛 (raw (fact 𝓤 (IsData other store heap two.1.now))) (fact_i 𝓤 _ (emp 𝓤) (part_data other store heap other_is two.1.now others (second_is ∙ ap (λ (xs : List ℕ). take other_is.len (cut_off other_is.from xs)) bytes_are))) $
    use0 𝓛 (raw (fact 𝓤 (IsData one store heap two.0.now))) (fact_i 𝓤 _ (emp 𝓤) (part_data one store heap one_is two.0.now ones (first_is ∙ ap (λ (xs : List ℕ). take one_is.len (cut_off one_is.from xs)) bytes_are))) $
    use0 𝓛 (raw (fact 𝓤 (Refused None))) (fact_i 𝓤 _ (emp 𝓤) (subst (λ (k : Result TwoLoans ByteFault). Refused (result_err k)) is_ok refused)) $
    move ! (6 ∷ 0 ∷ 1 ∷ 2 ∷ []) $ group ! 4 $ nothing ! $ nothing ! $ fjoin ! $ nothing ! $ fjoin ! $ nothing ! $ fjoin ! $ nothing ! $ fjoin ! $
    move ! (3 ∷ 5 ∷ 4 ∷ []) $ group ! 3 $ move ! (0 ∷ 1 ∷ 3 ∷ 2 ∷ []) $
    by ! (leaves 𝓛 f.ended stayed c y (live 0 (of_list (at ∷ []))) (Ok two) (tt, (tt, (tt, (tt, tt)))) (tt, (tt, (tt, (tt, tt)))))))))))))))))))))
    (λ fault us is_err landed. peeks ! Fr _ (shows 𝓛 Fr) fault us (λ is.
    let low : Val = fault_laws.lowered fault in let word : us ≡ low ∷ [] = (fault_laws.lowers).val_is fault us is in
    let typed : Typed Fr.mir (low ∷ []) = subst (Typed Fr.mir) word (((fault_laws.the_row_laws).lawful 𝓛).typed fault us is) in let good : WT low = typed.0.1 in
    rewrite ! 0 (λ (ws' : List Val). ‵ (Fr.own_val fault ws')) word refl $
    lands_as ! (landed ∙ ap (λ (ws' : List Val). live 1 (of_list (ws' ++ []))) word) refl (and_tt _ typed.0.0, (record { fits = lit< tt }, (good, tt))) $
    first ! $ switches_on ! (get_tag ! (vrt ! refl (fld ! refl (stop !))) (whole !)) $ exec ! 𝓣.C 𝓣.Λ En (arm_body 1 (head (after 2 fn.body))) Then $
    sets ! (of_opd ! (get_in ! (vrt ! refl (fld ! refl (stop !))) (in_variant ! 1 0 refl refl (whole !)))) refl typed.0 $
    sets_last ! (agg ! (and_then ! (lit ! tt) (and_then ! (get ! refl) (no_more !)))) refl (and_tt _ typed.0.0, (record { fits = lit< tt }, (good, tt))) $
    exec ! 𝓣.C 𝓣.Λ En (after 3 fn.body) (at_ret En Out) $ sets ! (of_opd ! (get ! refl)) refl (and_tt _ typed.0.0, (record { fits = lit< tt }, (good, tt))) $
    use1 𝓛 (‵ ((RS.the_row Pair Fr).own_val (Err fault) (live 1 (of_list (low ∷ [])) ∷ []))) (Err-of 𝓛 Pair Fr fault low) $
    returns ! (look_at ! 0 refl) $ free_all ! refl $
    -- [the result; the store as it was; the tokens]
    use0 𝓛 (raw (fact 𝓤 (Unit {0}))) (fact_i 𝓤 _ (emp 𝓤) tt) $ use0 𝓛 (raw (fact 𝓤 (Unit {0}))) (fact_i 𝓤 _ (emp 𝓤) tt) $
    use0 𝓛 (raw (fact 𝓤 (Refused (Some fault)))) (fact_i 𝓤 _ (emp 𝓤) (subst (λ (k : Result TwoLoans ByteFault). Refused (result_err k)) is_err refused)) $
    move ! (4 ∷ 0 ∷ 1 ∷ 2 ∷ []) $ group ! 4 $ nothing ! $ nothing ! $ fjoin ! $ nothing ! $ fjoin ! $ nothing ! $ fjoin ! $ nothing ! $ fjoin ! $ move ! (3 ∷ 0 ∷ 2 ∷ 1 ∷ []) $
    by ! (leaves 𝓛 f.ended stayed c y (live 1 (of_list (low ∷ []))) (Err fault) (tt, (tt, (tt, (tt, tt)))) (tt, (tt, (tt, (tt, tt)))))))))))))))))
