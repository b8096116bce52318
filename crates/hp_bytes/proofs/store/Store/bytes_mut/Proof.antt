-- The loan of an element's data, by hand, since no rule of the prover follows a slice in an `Ok`: docs/WALKS.md of the kit has the form.
use Rattle.std.proofs.Common.{◌≡◌, ℕ, ◌+◌, ◌≤◌, List, [], ◌∷◌, ◌++◌, length, take, refl, sym, ap, subst, ◌∙◌, lit<, w64, IfOk, Ok, Err, MutBor}
use Rattle.std.specs.Prelude.{Option, Some, None, Result, drop as skip}
use Rattle.std.proofs.raw_atomic.Walks.{proved, leaves}
use Rattle.std.specs.contracts.result.Result as RS
use Rattle.std.proofs.result.Made.{Ok-of, Err-of}
use Rattle.std.proofs.VecSteps.Shapes.{after, head, arm_body}
use base.Logic.{SProp, id⊢, emp}
use base.Fml.{ftrue, flft, Lft, Share}
use mir.Syntax.{named}
use mir.Val.{Val, of_list, WT}
use contract.Monad.{fact, fact_i}
use contract.Running.{tables}
use prog.Wp.{Wp, after_seq, at_return}
use types.Kit.{Post as After, any_q, ‵, raw, ◌⊛◌, some, later, at_ret, ◌$◌, ◌∵◌, !, qed, by, move, drop, use0, use1, use2, split, split3, join, pick, group, rewrite, fjoin, await}
use types.Part.{whole, agg}
use types.Match.{live, vrt, in_variant}
use types.Run.{stop, fld, lit, addr as addr_of, no_more, and_then, of_opd, first, switches_on, exec, returns, enter}
use types.ByLocal.{alloc_all, pass_all, free_all, look_at, get, get_in, get_tag, through, sets, sets_last, lands_as, env}
use denote.Builtin.{u8, u64, RefOf, RefMutOf}
use denote.Array.{Array}
use denote.Exit.{yes, no}
use denote.Follow.{follows, follows_by, follows_then}
use denote.Laws.{Typed, shows}
use denote.Plain.{uint_vals, uint_Tells}
use denote.RattleType.{RattleType}
use denote.Ref.{mut_vals, mut_Tells, shr_vals, shr_Tells}
use denote.Signature.{Slot, plain, named_lft}
use denote.Slice.{MutSlice, slice_val, mut_slice_Tells, mut_slice_Lawful}
use denote.Steps.{nothing, heard, only, peeks}
use denote.Triple.Call.{calls_at}
use denote.Triple.Clauses.{lasts}
use denote.Triple.Spec.{triple_of}
use denote.Triple.Table.{framed}
use denote.Triple.Walked.{Stays, stay_dropped, walk_of, Goes-dropped}
use Rattle.std.specs.Result.{result_err}
use Rattle.hp_heap.specs.PlainHeap.{PlainHeap}
use Rattle.hp_heap.specs.contracts.heap.Heap.{the_row as Hr}
use Rattle.hp_bytes.specs.StoreView.{StoreView}
use Rattle.hp_bytes.specs.Stores.{byte_fault, IsData}
use Rattle.hp_bytes.specs.Parts.{IsPartOf}
use Rattle.hp_bytes.specs.Loans.{lends_bytes, lends_store, with_part}
use Rattle.hp_bytes.specs.declared.loan.Loan.{Loan}
use Rattle.hp_bytes.specs.declared.fault.ByteFault.{ByteFault}
use Rattle.hp_bytes.specs.contracts.store.Store.{the_row as Sr}
use Rattle.hp_bytes.specs.contracts.loan.Loan.{the_row as Lr}
use Rattle.hp_bytes.specs.contracts.fault.ByteFault.{the_row as Fr}
use Rattle.hp_bytes.proofs.loan.Loan.TheLaws as loan_laws
use Rattle.hp_bytes.proofs.fault.ByteFault.TheLaws as fault_laws
use Rattle.hp_bytes.proofs.StoreLemmas.{part_data, part_written}
use Rattle.hp_bytes.proofs.LoanSteps.{result_had, and_tt}
use Rattle.hp_bytes.specs.contracts.store.Store.bytes_mut as f
use Rattle.hp_bytes.proofs.store.Store.bytes_mut.Statement.{statement}
use Rattle.hp_bytes.proofs.store.Store.bytes_mut.Code as code
use Rattle.hp_bytes.specs.contracts.store.Store.loan_at as g
use Rattle.hp_bytes.proofs.store.Store.loan_at.Met as g-met
use Rattle.hp_bytes.specs.contracts.loan.Loan.bytes as p
use Rattle.hp_bytes.proofs.loan.Loan.bytes.Met as p-met

-- the three parameters
abbrev lender : Slot 2
lender = RefMutOf (0 ∷ []) tt (plain (λ _. Sr)) (λ _. tt)

abbrev read : Slot 2
read = RefOf (1 ∷ []) tt (plain (λ _. Hr)) (λ _. tt)

abbrev number : Slot 2
number = plain (λ _. u64)

abbrev stayed : Stays f.ended.signature.params f.ended.kept
stayed = (stay_dropped lender no, (stay_dropped read yes, (stay_dropped number yes, tt)))

pub bytes_mut_spec : {M : Type 1} → statement M
unfolding follows_by
bytes_mut_spec 𝓤 𝓛 𝓜 𝓡 wired =
    let H = 𝓛.H in let c = f.clauses 𝓛 𝓜.mem 𝓡.returns in let W = walk_of 𝓛 f.ended stayed c in let 𝓣 = tables 𝓤 H 𝓜 𝓡 𝓡.env in
    proved 𝓛 f.ended stayed c 𝓜 𝓡 (Goes-dropped 𝓛 2 lender no (λ κs x w. refl), (Goes-dropped 𝓛 2 read yes (λ κs x w. refl), (Goes-dropped 𝓛 2 number yes (λ κs x w. refl), tt)))
    f.Key.name code.function (code.unfolded 𝓤 H 𝓜 𝓡 wired)
    (λ κs. (mut_vals, (shr_vals, (uint_vals w64, tt)))) (λ κs. (mut_Tells (named 0) κs.0 Sr, (shr_Tells (named 1) κs.1.0 Hr, (uint_Tells w64, tt)))) (λ κs qs bounds a gh are.
    let κ : Lft = κs.0 in let q : Share = qs.0 in let store : StoreView = a.0.now in let heap : PlainHeap = a.1.0.now.plain in let addr : ℕ = a.1.1.0 in
    let Lent : RattleType = Lr (named_lft 2 0 tt κs) in let Bytes : RattleType = MutSlice (named 0) κ u8 in let fn = code.function in
    let vss : List Val × (List Val × (List Val × Unit {0})) = (mut_vals a.0, (shr_vals a.1.0, (uint_vals w64 addr, tt))) in
    let y : W.Ghost = ((κs, qs, bounds, a, vss), gh) in let Out : Val → SProp 𝓤 = W.post y in
    let G = triple_of 𝓛 g.signature (g.spec 𝓛 𝓜.mem 𝓡.returns) in let z : G.Ghost = ((κs, qs, bounds, a, vss), tt) in
    let G² = triple_of 𝓛 p.signature (p.spec 𝓛 𝓜.mem 𝓡.returns) in
    let IsIts : Loan → Type 0 = λ loan. IsPartOf addr store heap loan.part in let Has : MutBor (List ℕ) → Type 0 = λ bytes. IsData addr store heap bytes.now in
    let Refused : Option ByteFault → Type 0 = λ fault. fault ≡ byte_fault addr store heap in
    qed 𝓛 (raw (G.pre z) ∷ []) ∵ enter ! _ _ _ _ _ $
    alloc_all ! (λ l. let En = env fn.locals l in
    let Then : After 𝓤 H = any_q (after_seq 𝓤 H (Wp 𝓤 H 𝓣.C 𝓣.Λ En (after 3 fn.body) (at_return 𝓤 H En Out)) (at_return 𝓤 H En Out)) in
    pass_all ! refl ((tt, tt), ((tt, tt), ((tt, record { fits = are.1.1.0.1 }), tt))) $
    sets ! (addr_of ! (through ! refl (stop !))) refl (tt, tt) $
    calls_at ! (framed 𝓤 H 𝓜 𝓣) G (g-met.met 𝓤 𝓛 𝓜 𝓡 (code.calls-hp_bytes::store::Store::loan_at 𝓡.env wired)) z
    (and_then ! (get ! refl) (and_then ! (get ! refl) (and_then ! (get ! refl) (no_more !)))) (λ v.
    use1 𝓛 (later (some (λ (r : Result Loan ByteFault). ((‵ (flft κ q) ⊛ ‵ (flft κs.1.0 qs.1.0) ⊛ ‵ ftrue) ⊛ ‵ ((RS.the_row Lent Fr).own_val r (v ∷ [])))
    ⊛ some (λ (ws : Unit {0} × (Unit {0} × (Unit {0} × Unit {0}))). ‵ (lasts g.ended κs a ws) ⊛ ‵ (lends_store a.0 r)
    ⊛ raw (fact 𝓤 (Refused (result_err r))) ⊛ raw (fact 𝓤 (IfOk r (λ loan. loan.store.now ≡ store))) ⊛ raw (fact 𝓤 (IfOk r IsIts)))))) (id⊢ 𝓤 _) $
    await ! tt $ pick ! (λ r. split ! $ move ! (1 ∷ []) $ pick ! (λ ws. split3 ! $ drop ! $ move ! (1 ∷ []) $ split3 ! $
    heard ! _ (λ refused. heard ! _ (λ told. heard ! _ (λ told². move ! (1 ∷ []) $ split ! $ move ! (1 ∷ 2 ∷ 0 ∷ []) $
    -- [the store that is lent, or the fault; what follows; the tokens]
    result_had Lent Fr v (λ k. ‵ (lends_store a.0 k)) ! r
    (λ loan us is_ok landed. let same : loan.store.now ≡ store = subst (λ (k : Result Loan ByteFault). IfOk k (λ (loan' : Loan). loan'.store.now ≡ store)) is_ok told in
    let its : IsIts loan = subst (λ (k : Result Loan ByteFault). IfOk k IsIts) is_ok told² in
    peeks ! Lent _ (shows 𝓛 Lent) loan us (λ is.
    let low : Val = loan_laws.lowered loan in let word : us ≡ low ∷ [] = (loan_laws.lowers (named_lft 2 0 tt κs)).val_is loan us is in
    let typed : Typed Lent.mir (low ∷ []) = subst (Typed Lent.mir) word (((loan_laws.the_row_laws (named_lft 2 0 tt κs)).lawful 𝓛).typed loan us is) in let good : WT low = typed.0.1 in
    rewrite ! 0 (λ (ws' : List Val). ‵ (Lent.own_val loan ws')) word refl $
    lands_as ! (landed ∙ ap (λ (ws' : List Val). live 0 (of_list (ws' ++ []))) word) refl (tt, (record { fits = lit< tt }, (good, tt))) $
    first ! $ switches_on ! (get_tag ! (vrt ! refl (fld ! refl (stop !))) (whole !)) $ exec ! 𝓣.C 𝓣.Λ En (arm_body 0 (head (after 2 fn.body))) Then $
    sets ! (of_opd ! (get_in ! (vrt ! refl (fld ! refl (stop !))) (in_variant ! 0 0 refl refl (whole !)))) refl (tt, good) $
    sets ! (of_opd ! (get ! refl)) refl (tt, good) $
    -- loan.bytes(), of [the store; what follows; the tokens]
    move ! (2 ∷ []) $ split3 ! $ move ! (0 ∷ 2 ∷ []) $ join ! $ move ! (2 ∷ []) $ nothing ! $ move ! (1 ∷ 0 ∷ []) $ join ! $ move ! (1 ∷ 0 ∷ []) $ join ! $
    use0 𝓛 (raw (fact 𝓤 (loan.part.from + loan.part.len ≤ length loan.store.now.bytes)))
    (fact_i 𝓤 _ (emp 𝓤) (subst (λ (now : StoreView). loan.part.from + loan.part.len ≤ length now.bytes) (sym same) its.within)) $
    move ! (1 ∷ 0 ∷ []) $ join ! $
    let y² : G².Ghost = (((κ, tt), (q, tt), tt, (loan, tt), (low ∷ [], tt)), tt) in
    use1 𝓛 (raw (G².pre y²)) (id⊢ 𝓤 _) $
    calls_at ! (framed 𝓤 H 𝓜 𝓣) G² (p-met.met 𝓤 𝓛 𝓜 𝓡 (code.calls-hp_bytes::loan::Loan::bytes 𝓡.env wired)) y² (and_then ! (get ! refl) (no_more !)) (λ v².
    use1 𝓛 (later (some (λ (bytes : MutBor (List ℕ)). ((‵ (flft κ q) ⊛ ‵ ftrue) ⊛ ‵ (Bytes.own_val bytes (v² ∷ [])))
    ⊛ some (λ (ws² : (Unit {0} × Unit {0}) × Unit {0}). ‵ (lasts p.ended (κ, tt) (loan, tt) ws²) ⊛ ‵ (lends_bytes loan bytes)
    ⊛ raw (fact 𝓤 (bytes.now ≡ take loan.part.len (skip loan.part.from loan.store.now.bytes))))))) (id⊢ 𝓤 _) $
    await ! tt $ pick ! (λ bytes. split ! $ move ! (1 ∷ []) $ pick ! (λ ws². split3 ! $ drop ! $ move ! (1 ∷ []) $ heard ! _ (λ shown.
    -- the store follows the bytes: [what follows them; the tokens and the bytes; the other token; what follows the store]
    move ! (3 ∷ 0 ∷ []) $
    use2 𝓛 (‵ (follows Sr (Array u8 0) a.0.ghost_name bytes.ghost_name (with_part loan.part loan.store.now)))
    (follows_then 𝓛 Sr Sr (Array u8 0) (λ now. now) (with_part loan.part loan.store.now) a.0.ghost_name loan.store.ghost_name bytes.ghost_name) $
    rewrite ! 0 (λ (F : List ℕ → StoreView). ‵ (follows Sr (Array u8 0) a.0.ghost_name bytes.ghost_name F)) (λ i. with_part loan.part (same i)) refl $
    rewrite ! 0 (λ (F : List ℕ → StoreView). ‵ (follows Sr (Array u8 0) a.0.ghost_name bytes.ghost_name F)) (λ i w. part_written addr store heap loan.part w its i) refl $
    move ! (1 ∷ []) $ split ! $ split ! $ move ! (2 ∷ []) $
    peeks ! Bytes _ (shows 𝓛 Bytes) bytes (v² ∷ []) (λ is².
    let at : Val = slice_val bytes.ref_ptr (length bytes.now) in let word² : v² ≡ at = ap only (mut_slice_Tells (named 0) κ u8 bytes (v² ∷ []) is²) in
    let typed² : Typed Bytes.mir (at ∷ []) = subst (λ (u : Val). Typed Bytes.mir (u ∷ [])) word² ((mut_slice_Lawful 𝓛 (named 0) κ u8).typed bytes (v² ∷ []) is²) in let good² : WT at = typed².0.1 in
    rewrite ! 0 (λ (u : Val). ‵ (Bytes.own_val bytes (u ∷ []))) word² refl $
    lands_as ! word² refl (tt, good²) $
    sets_last ! (agg ! (and_then ! (lit ! tt) (and_then ! (get ! refl) (no_more !)))) refl (tt, (record { fits = lit< tt }, (good², tt))) $
    exec ! 𝓣.C 𝓣.Λ En (after 3 fn.body) (at_ret En Out) $ sets ! (of_opd ! (get ! refl)) refl (tt, (record { fits = lit< tt }, (good², tt))) $
    use1 𝓛 (‵ ((RS.the_row Bytes Fr).own_val (Ok bytes) (live 0 (of_list (at ∷ [])) ∷ []))) (Ok-of 𝓛 Bytes Fr bytes at) $
    returns ! (look_at ! 0 refl) $ free_all ! refl $
    -- [the result; a token; nothing; what follows; the other token]
    use0 𝓛 (raw (fact 𝓤 (Has bytes))) (fact_i 𝓤 _ (emp 𝓤) (part_data addr store heap loan.part bytes.now its (shown ∙ ap (λ (now : StoreView). take loan.part.len (skip loan.part.from now.bytes)) same))) $
    use0 𝓛 (raw (fact 𝓤 (Refused None))) (fact_i 𝓤 _ (emp 𝓤) (subst (λ (k : Result Loan ByteFault). Refused (result_err k)) is_ok refused)) $
    move ! (5 ∷ 0 ∷ 1 ∷ []) $ group ! 3 $ nothing ! $ nothing ! $ fjoin ! $ nothing ! $ fjoin ! $ nothing ! $ fjoin ! $
    move ! (3 ∷ 5 ∷ 4 ∷ []) $ group ! 3 $ move ! (0 ∷ 1 ∷ 3 ∷ 2 ∷ []) $
    by ! (leaves 𝓛 f.ended stayed c y (live 0 (of_list (at ∷ []))) (Ok bytes) (tt, (tt, (tt, tt))) (tt, (tt, (tt, tt)))))))))))
    (λ fault us is_err landed. peeks ! Fr _ (shows 𝓛 Fr) fault us (λ is.
    let low : Val = fault_laws.lowered fault in let word : us ≡ low ∷ [] = (fault_laws.lowers).val_is fault us is in
    let typed : Typed Fr.mir (low ∷ []) = subst (Typed Fr.mir) word (((fault_laws.the_row_laws).lawful 𝓛).typed fault us is) in let good : WT low = typed.0.1 in
    rewrite ! 0 (λ (ws' : List Val). ‵ (Fr.own_val fault ws')) word refl $
    lands_as ! (landed ∙ ap (λ (ws' : List Val). live 1 (of_list (ws' ++ []))) word) refl (and_tt _ typed.0.0, (record { fits = lit< tt }, (good, tt))) $
    first ! $ switches_on ! (get_tag ! (vrt ! refl (fld ! refl (stop !))) (whole !)) $ exec ! 𝓣.C 𝓣.Λ En (arm_body 1 (head (after 2 fn.body))) Then $
    sets ! (of_opd ! (get_in ! (vrt ! refl (fld ! refl (stop !))) (in_variant ! 1 0 refl refl (whole !)))) refl typed.0 $
    sets_last ! (agg ! (and_then ! (lit ! tt) (and_then ! (get ! refl) (no_more !)))) refl (and_tt _ typed.0.0, (record { fits = lit< tt }, (good, tt))) $
    exec ! 𝓣.C 𝓣.Λ En (after 3 fn.body) (at_ret En Out) $ sets ! (of_opd ! (get ! refl)) refl (and_tt _ typed.0.0, (record { fits = lit< tt }, (good, tt))) $
    use1 𝓛 (‵ ((RS.the_row Bytes Fr).own_val (Err fault) (live 1 (of_list (low ∷ [])) ∷ []))) (Err-of 𝓛 Bytes Fr fault low) $
    returns ! (look_at ! 0 refl) $ free_all ! refl $
    -- [the result; the store as it was; the tokens]
    use0 𝓛 (raw (fact 𝓤 (Unit {0}))) (fact_i 𝓤 _ (emp 𝓤) tt) $
    use0 𝓛 (raw (fact 𝓤 (Refused (Some fault)))) (fact_i 𝓤 _ (emp 𝓤) (subst (λ (k : Result Loan ByteFault). Refused (result_err k)) is_err refused)) $
    move ! (3 ∷ 0 ∷ 1 ∷ []) $ group ! 3 $ nothing ! $ nothing ! $ fjoin ! $ nothing ! $ fjoin ! $ nothing ! $ fjoin ! $ move ! (3 ∷ 0 ∷ 2 ∷ 1 ∷ []) $
    by ! (leaves 𝓛 f.ended stayed c y (live 1 (of_list (low ∷ []))) (Err fault) (tt, (tt, (tt, tt))) (tt, (tt, (tt, tt))))))))))))))
