-- Two parts of a slice, cut from it, by hand, since no rule of the prover follows a part of a part of a slice.
use Rattle.std.proofs.Common.{◌≡◌, ℕ, zero, suc, ◌+◌, ◌-◌, ◌≤◌, List, [], ◌∷◌, ◌++◌, length, take, refl, sym, ap, ◌∙◌, arith, MutBor}
use Rattle.std.specs.Prelude.{drop as skip}
use Rattle.std.proofs.lemmas.List.{length-take-le, length-drop, drop-take}
use Rattle.std.proofs.raw_atomic.Walks.{proved, leaves}
use seplogic.Ra.Ura.{Ura}
use base.Logic.{ent, sep, wand, emp}
use base.Fml.{Fml, GName, ftrue, flft, fres, Lft, Share}
use base.Stored.{coded_list}
use mir.Syntax.{named}
use mir.Val.{Val, WT}
use contract.Monad.{fact, fact_i}
use contract.Running.{tables}
use types.Logic.{Logic, sem}
use types.Kit.{⋆, ‵, raw, ◌⊛◌, ◌$◌, ◌∵◌, !, qed, by, move, keep, use0, use1, use2, split, split3, join, group, rewrite, fjoin, each, assume}
use types.Part.{whole, sub, agg}
use types.Run.{stop, fld, hop, from, addr, no_more, and_then, of_opd, returns, enter}
use types.ByLocal.{alloc_all, pass_all, free_all, look_at, look_in_at, get, get_in, sets, lands_as}
use types.Follow.{followed₂}
use types.SemTy.{SemTy, Arr}
use denote.Builtin.{u8, SliceRefMutOf}
use denote.Array.{Array}
use denote.Exit.{yes, no}
use denote.Follow.{follows_both, both_by}
use denote.Memory.{mem}
use denote.Signature.{Slot, plain}
use denote.Slice.{MutSlice, mut_slice_vals, mut_slice_Tells}
use denote.Steps.{nothing, heard}
use denote.Struct.Tuple.{Tuple}
use denote.Triple.Call.{calls_at}
use denote.Triple.Table.{framed}
use denote.Triple.Walked.{Stays, stay_dropped, walk_of, Goes-dropped}
use Rattle.hp_bytes.specs.declared.part.Part.{Part}
use Rattle.hp_bytes.specs.contracts.part.Part.{the_row as Pr}
use Rattle.hp_bytes.proofs.part.Part.TheLaws as part_laws
use Rattle.hp_bytes.proofs.CutSteps.{slice_at, pair_val, Cut, at_cut, cut_asks, cut_gives, lets_go, pair_of}
use Rattle.hp_bytes.specs.contracts.part.two_parts_mut as f
use Rattle.hp_bytes.proofs.part.two_parts_mut.Statement.{statement}
use Rattle.hp_bytes.proofs.part.two_parts_mut.Code as code
use Rattle.hp_bytes.proofs.part.cut.Met as cut-met

abbrev lender : Slot 1
lender = SliceRefMutOf (0 ∷ []) tt (plain (λ _. u8)) (λ _. tt)

abbrev part : Slot 1
part = plain (λ _. Pr)

abbrev stayed : Stays f.ended.signature.params f.ended.kept
stayed = (stay_dropped lender no, (stay_dropped part yes, (stay_dropped part yes, tt)))

abbrev said : GName → List ℕ → Fml
said γ xs = fres γ ((coded_list u8.coded).code xs)

take_short : (m k : ℕ) (xs : List ℕ) → m ≤ k → take m (take k xs) ≡ take m xs
take_short zero k xs le = refl
take_short (suc m) zero xs le = absurd (omega (arith, le))
take_short (suc m) (suc k) [] le = refl
take_short (suc m) (suc k) (x ∷ xs) le = ap (λ (ys : List ℕ). x ∷ ys) (take_short m k xs (omega (arith, le)))

-- a part that ends within a front is that part of the whole
low_there : (n m k : ℕ) (xs : List ℕ) → n + m ≤ k → take m (skip n (take k xs)) ≡ take m (skip n xs)
low_there n m k xs le =
    let whole : n + (k - n) ≡ k = omega (arith, le) in
    ap (λ (j : ℕ). take m (skip n (take j xs))) (sym whole) ∙ ap (take m) (drop-take n (k - n) xs) ∙ take_short m (k - n) (skip n xs) (omega (arith, le))

-- what a slice ends as that was cut four times, and of which three parts were let go
module _ {M : Type 1} {𝓤 : Ura M} (𝓛 : Logic 𝓤) (s front back before rest x between y behind : GName) (b t h : List ℕ) where
  open 𝓛 use {A}

  abbrev Both : GName → GName → GName → (List ℕ → List ℕ → List ℕ) → Fml
  Both = follows_both (Array u8 0) (Array u8 0) (Array u8 0)

  abbrev L : SemTy
  L = Arr (mem u8) 0

  follows_two : ent 𝓤 (⋆ 𝓛 (‵ (said behind h) ∷ ‵ (said between t) ∷ ‵ (said before b) ∷ ‵ (Both back y behind ◌++◌) ∷ ‵ (Both rest x between ◌++◌) ∷ ‵ (Both front before rest ◌++◌) ∷ ‵ (Both s front back ◌++◌) ∷ []))
      (sem 𝓛 (Both s x y (λ u w. (b ++ (u ++ t)) ++ (w ++ h))))
  unfolding both_by
  follows_two =
      qed 𝓛 (‵ (said behind h) ∷ ‵ (said between t) ∷ ‵ (said before b) ∷ ‵ (Both back y behind ◌++◌) ∷ ‵ (Both rest x between ◌++◌) ∷ ‵ (Both front before rest ◌++◌) ∷ ‵ (Both s front back ◌++◌) ∷ []) ∵
      each ! (λ (w : List ℕ × List ℕ). wand 𝓤 (sep 𝓤 (A.res x ((coded_list u8.coded).code w.0)) (A.res y ((coded_list u8.coded).code w.1))) (A.res s ((coded_list u8.coded).code ((b ++ (w.0 ++ t)) ++ (w.1 ++ h))))) (λ w.
      assume ! (‵ (said x w.0) ⊛ ‵ (said y w.1)) $ split ! $
      move ! (0 ∷ 3 ∷ []) $ join ! $ move ! (0 ∷ 5 ∷ []) $ use2 𝓛 (‵ (said rest (w.0 ++ t))) (followed₂ 𝓛 L L L ◌++◌ rest x between w.0 t) $
      move ! (3 ∷ 0 ∷ []) $ join ! $ move ! (0 ∷ 4 ∷ []) $ use2 𝓛 (‵ (said front (b ++ (w.0 ++ t)))) (followed₂ 𝓛 L L L ◌++◌ front before rest b (w.0 ++ t)) $
      move ! (1 ∷ 2 ∷ []) $ join ! $ move ! (0 ∷ 2 ∷ []) $ use2 𝓛 (‵ (said back (w.1 ++ h))) (followed₂ 𝓛 L L L ◌++◌ back y behind w.1 h) $
      move ! (1 ∷ 0 ∷ []) $ join ! $ by ! (followed₂ 𝓛 L L L ◌++◌ s front back (b ++ (w.0 ++ t)) (w.1 ++ h)))

pub two_parts_mut_spec : {M : Type 1} → statement M
two_parts_mut_spec 𝓤 𝓛 𝓜 𝓡 wired =
    let H = 𝓛.H in let c = f.clauses 𝓛 𝓜.mem 𝓡.returns in let W = walk_of 𝓛 f.ended stayed c in let 𝓣 = tables 𝓤 H 𝓜 𝓡 𝓡.env in
    proved 𝓛 f.ended stayed c 𝓜 𝓡 (Goes-dropped 𝓛 1 lender no (λ κs x w. refl), (Goes-dropped 𝓛 1 part yes (λ κs x w. refl), (Goes-dropped 𝓛 1 part yes (λ κs x w. refl), tt)))
    f.Key.name code.function (code.unfolded 𝓤 H 𝓜 𝓡 wired)
    (λ κs. (mut_slice_vals, ((λ (d : Part). part_laws.lowered d ∷ []), ((λ (d : Part). part_laws.lowered d ∷ []), tt))))
    (λ κs. (mut_slice_Tells (named 0) κs.0 u8, (part_laws.lowers.val_is, (part_laws.lowers.val_is, tt)))) (λ κs qs bounds a gh are.
    let κ : Lft = κs.0 in let q : Share = qs.0 in let s : MutBor (List ℕ) = a.0 in let low : Part = a.1.0 in let high : Part = a.1.1.0 in
    let vss : List Val × (List Val × (List Val × Unit {0})) = (mut_slice_vals s, (part_laws.lowered low ∷ [], (part_laws.lowered high ∷ [], tt))) in
    let y : W.Ghost = ((κs, qs, bounds, a, vss), gh) in let Sl : denote.RattleType.RattleType = MutSlice (named 0) κ u8 in
    let good_low : WT (part_laws.lowered low) = ((part_laws.the_row_laws.lawful 𝓛).typed low (part_laws.lowered low ∷ []) are.1.0).0.1 in
    let good_high : WT (part_laws.lowered high) = ((part_laws.the_row_laws.lawful 𝓛).typed high (part_laws.lowered high ∷ []) are.1.1.0).0.1 in
    let Both = λ (γ γ₁ γ₂ : GName) (F : List ℕ → List ℕ → List ℕ). follows_both (Array u8 0) (Array u8 0) (Array u8 0) γ γ₁ γ₂ F in let at = at_cut 𝓛 𝓜.mem 𝓡.returns κ q in
    let C = Cut 𝓛 𝓜.mem 𝓡.returns κ q in let met = cut-met.met 𝓤 𝓛 𝓜 𝓡 (code.calls-hp_bytes::part::cut 𝓡.env wired) in let fm = framed 𝓤 H 𝓜 𝓣 in
    qed 𝓛 (((‵ (flft κ q) ⊛ ‵ ftrue) ⊛ ‵ (Sl.own_val s (mut_slice_vals s)) ⊛ ‵ (Pr.own_val low (part_laws.lowered low ∷ [])) ⊛ ‵ (Pr.own_val high (part_laws.lowered high ∷ [])) ⊛ ‵ ftrue)
    ∷ (raw (fact 𝓤 (low.from + low.len ≤ high.from)) ⊛ raw (fact 𝓤 (high.from + high.len ≤ length s.now))) ∷ []) ∵
    move ! (1 ∷ []) $ split ! $ heard ! _ (λ apart. heard ! _ (λ within. split ! $ move ! (1 ∷ []) $ split3 ! $ move ! (3 ∷ []) $ split ! $ keep ! (2 ∷ 0 ∷ []) $
    enter ! _ _ _ _ _ $
    alloc_all ! (λ l. pass_all ! refl ((tt, (tt, (record { fits = are.0.0.1.0 }, tt))), ((tt, good_low), ((tt, good_high), tt))) $
    -- [the slice; the token]: cut(bytes, high.from)
    sets ! (addr ! (from ! (fld ! refl (hop ! (look_in_at ! 1 (sub ! 0 refl (whole !))) (stop !))))) refl (tt, tt) $
    sets ! (agg ! (and_then ! (get ! refl) (and_then ! (get_in ! (fld ! refl (stop !)) (sub ! 1 refl (whole !))) (no_more !)))) refl (tt, (tt, (record { fits = are.0.0.1.0 }, tt))) $
    use2 𝓛 (raw (C.pre (at s high.from))) (cut_asks 𝓛 𝓜.mem 𝓡.returns κ q s high.from good_high.0.fits (omega (arith, within))) $
    calls_at ! fm C met (at s high.from) (and_then ! (get ! refl) (and_then ! (get_in ! (fld ! refl (stop !)) (sub ! 0 refl (whole !))) (no_more !))) (λ v₁.
    cut_gives 𝓛 𝓜.mem 𝓡.returns κ q ! tt s high.from v₁ (λ front back is₁ front_is back_is front_fits back_fits.
    let long_front : length front.now ≡ high.from = ap length front_is ∙ length-take-le high.from s.now (omega (arith, within)) in
    let long_back : length back.now ≡ length s.now - high.from = ap length back_is ∙ length-drop high.from s.now in
    lands_as ! is₁ refl (tt, ((tt, (record { fits = front_fits.0 }, tt)), ((tt, (record { fits = back_fits.0 }, tt)), tt))) $
    sets ! (of_opd ! (get_in ! (fld ! refl (stop !)) (sub ! 0 refl (whole !)))) refl (tt, (tt, (record { fits = front_fits.0 }, tt))) $
    sets ! (of_opd ! (get_in ! (fld ! refl (stop !)) (sub ! 1 refl (whole !)))) refl (tt, (tt, (record { fits = back_fits.0 }, tt))) $
    -- cut(front, low.from)
    move ! (0 ∷ 2 ∷ []) $
    sets ! (addr ! (from ! (fld ! refl (hop ! (look_in_at ! 4 (sub ! 0 refl (whole !))) (stop !))))) refl (tt, tt) $
    sets ! (agg ! (and_then ! (get ! refl) (and_then ! (get_in ! (fld ! refl (stop !)) (sub ! 1 refl (whole !))) (no_more !)))) refl (tt, (tt, (record { fits = front_fits.0 }, tt))) $
    use2 𝓛 (raw (C.pre (at front low.from))) (cut_asks 𝓛 𝓜.mem 𝓡.returns κ q front low.from good_low.0.fits (omega (arith, long_front, apart))) $
    calls_at ! fm C met (at front low.from) (and_then ! (get ! refl) (and_then ! (get_in ! (fld ! refl (stop !)) (sub ! 0 refl (whole !))) (no_more !))) (λ v₂.
    cut_gives 𝓛 𝓜.mem 𝓡.returns κ q ! tt front low.from v₂ (λ before rest is₂ before_is rest_is before_fits rest_fits.
    let long_rest : length rest.now ≡ length front.now - low.from = ap length rest_is ∙ length-drop low.from front.now in
    lands_as ! is₂ refl (tt, ((tt, (record { fits = before_fits.0 }, tt)), ((tt, (record { fits = rest_fits.0 }, tt)), tt))) $
    sets ! (of_opd ! (get_in ! (fld ! refl (stop !)) (sub ! 0 refl (whole !)))) refl (tt, (tt, (record { fits = before_fits.0 }, tt))) $
    sets ! (of_opd ! (get_in ! (fld ! refl (stop !)) (sub ! 1 refl (whole !)))) refl (tt, (tt, (record { fits = rest_fits.0 }, tt))) $
    -- cut(rest, low.len)
    move ! (1 ∷ 2 ∷ []) $
    sets ! (addr ! (from ! (fld ! refl (hop ! (look_in_at ! 7 (sub ! 0 refl (whole !))) (stop !))))) refl (tt, tt) $
    sets ! (agg ! (and_then ! (get ! refl) (and_then ! (get_in ! (fld ! refl (stop !)) (sub ! 1 refl (whole !))) (no_more !)))) refl (tt, (tt, (record { fits = rest_fits.0 }, tt))) $
    use2 𝓛 (raw (C.pre (at rest low.len))) (cut_asks 𝓛 𝓜.mem 𝓡.returns κ q rest low.len good_low.1.0.fits (omega (arith, long_rest, long_front, apart))) $
    calls_at ! fm C met (at rest low.len) (and_then ! (get ! refl) (and_then ! (get_in ! (fld ! refl (stop !)) (sub ! 1 refl (whole !))) (no_more !))) (λ v₃.
    cut_gives 𝓛 𝓜.mem 𝓡.returns κ q ! tt rest low.len v₃ (λ first between is₃ first_is between_is first_fits between_fits.
    lands_as ! is₃ refl (tt, ((tt, (record { fits = first_fits.0 }, tt)), ((tt, (record { fits = between_fits.0 }, tt)), tt))) $
    sets ! (of_opd ! (get_in ! (fld ! refl (stop !)) (sub ! 0 refl (whole !)))) refl (tt, (tt, (record { fits = first_fits.0 }, tt))) $
    sets ! (of_opd ! (get_in ! (fld ! refl (stop !)) (sub ! 1 refl (whole !)))) refl (tt, (tt, (record { fits = between_fits.0 }, tt))) $
    -- cut(back, high.len)
    move ! (6 ∷ 2 ∷ []) $
    sets ! (addr ! (from ! (fld ! refl (hop ! (look_in_at ! 5 (sub ! 0 refl (whole !))) (stop !))))) refl (tt, tt) $
    sets ! (agg ! (and_then ! (get ! refl) (and_then ! (get_in ! (fld ! refl (stop !)) (sub ! 1 refl (whole !))) (no_more !)))) refl (tt, (tt, (record { fits = back_fits.0 }, tt))) $
    use2 𝓛 (raw (C.pre (at back high.len))) (cut_asks 𝓛 𝓜.mem 𝓡.returns κ q back high.len good_high.1.0.fits (omega (arith, long_back, within))) $
    calls_at ! fm C met (at back high.len) (and_then ! (get ! refl) (and_then ! (get_in ! (fld ! refl (stop !)) (sub ! 1 refl (whole !))) (no_more !))) (λ v₄.
    cut_gives 𝓛 𝓜.mem 𝓡.returns κ q ! tt back high.len v₄ (λ second behind is₄ second_is behind_is second_fits behind_fits.
    lands_as ! is₄ refl (tt, ((tt, (record { fits = second_fits.0 }, tt)), ((tt, (record { fits = behind_fits.0 }, tt)), tt))) $
    sets ! (of_opd ! (get_in ! (fld ! refl (stop !)) (sub ! 0 refl (whole !)))) refl (tt, (tt, (record { fits = second_fits.0 }, tt))) $
    sets ! (of_opd ! (get_in ! (fld ! refl (stop !)) (sub ! 1 refl (whole !)))) refl (tt, (tt, (record { fits = behind_fits.0 }, tt))) $
    -- three parts are let go: [second; behind; the token; ..; first; between; ..; before; ..; ..]
    move ! (1 ∷ []) $ lets_go 𝓛 𝓜.mem 𝓡.returns κ q ! tt behind $ move ! (5 ∷ []) $ lets_go 𝓛 𝓜.mem 𝓡.returns κ q ! tt between $ move ! (7 ∷ []) $ lets_go 𝓛 𝓜.mem 𝓡.returns κ q ! tt before $
    move ! (2 ∷ 1 ∷ 0 ∷ 5 ∷ 7 ∷ 8 ∷ 9 ∷ []) $ group ! 7 $
    use1 𝓛 (‵ (Both s.ghost_name first.ghost_name second.ghost_name (λ u w. (before.now ++ (u ++ between.now)) ++ (w ++ behind.now))))
    (follows_two 𝓛 s.ghost_name front.ghost_name back.ghost_name before.ghost_name rest.ghost_name first.ghost_name between.ghost_name second.ghost_name behind.ghost_name before.now between.now behind.now) $
    -- [what follows; second; the token; first]
    let before_at : before.now ≡ take low.from (take high.from s.now) = before_is ∙ ap (take low.from) front_is in
    let rest_at : rest.now ≡ skip low.from (take high.from s.now) = rest_is ∙ ap (skip low.from) front_is in
    let between_at : between.now ≡ skip low.len (skip low.from (take high.from s.now)) = between_is ∙ ap (skip low.len) rest_at in
    let behind_at : behind.now ≡ skip high.len (skip high.from s.now) = behind_is ∙ ap (skip high.len) back_is in
    rewrite ! 0 (λ (F : List ℕ → List ℕ → List ℕ). ‵ (Both s.ghost_name first.ghost_name second.ghost_name F)) (λ i u w. (before_at i ++ (u ++ between_at i)) ++ (w ++ behind_at i)) refl $
    sets ! (addr ! (from ! (fld ! refl (hop ! (look_in_at ! 8 (sub ! 0 refl (whole !))) (stop !))))) refl (tt, tt) $
    sets ! (agg ! (and_then ! (get ! refl) (and_then ! (get_in ! (fld ! refl (stop !)) (sub ! 1 refl (whole !))) (no_more !)))) refl (tt, (tt, (record { fits = first_fits.0 }, tt))) $
    sets ! (addr ! (from ! (fld ! refl (hop ! (look_in_at ! 10 (sub ! 0 refl (whole !))) (stop !))))) refl (tt, tt) $
    sets ! (agg ! (and_then ! (get ! refl) (and_then ! (get_in ! (fld ! refl (stop !)) (sub ! 1 refl (whole !))) (no_more !)))) refl (tt, (tt, (record { fits = second_fits.0 }, tt))) $
    sets ! (agg ! (and_then ! (get ! refl) (and_then ! (get ! refl) (no_more !)))) refl (tt, ((tt, (record { fits = first_fits.0 }, tt)), ((tt, (record { fits = second_fits.0 }, tt)), tt))) $
    returns ! (look_at ! 0 refl) $ free_all ! refl $
    move ! (3 ∷ 1 ∷ []) $ join ! $ use1 𝓛 (‵ ((Tuple (Sl ∷ Sl ∷ [])).own_val (first, second) (pair_val (slice_at first) (slice_at second) ∷ []))) (pair_of 𝓛 Sl Sl first second (slice_at first) (slice_at second)) $
    use0 𝓛 (raw (fact 𝓤 (second.now ≡ take high.len (skip high.from s.now)))) (fact_i 𝓤 _ (emp 𝓤) (second_is ∙ ap (take high.len) back_is)) $
    use0 𝓛 (raw (fact 𝓤 (first.now ≡ take low.len (skip low.from s.now)))) (fact_i 𝓤 _ (emp 𝓤) (first_is ∙ ap (take low.len) rest_at ∙ low_there low.from low.len high.from s.now apart)) $
    move ! (3 ∷ 0 ∷ 1 ∷ []) $ group ! 3 $ nothing ! $ nothing ! $ fjoin ! $ nothing ! $ fjoin ! $ nothing ! $ fjoin ! $ nothing ! $ move ! (4 ∷ 0 ∷ []) $ join ! $ move ! (0 ∷ 1 ∷ 3 ∷ 2 ∷ []) $
    by ! (leaves 𝓛 f.ended stayed c y (pair_val (slice_at first) (slice_at second)) (first, second) (tt, (tt, (tt, tt))) (tt, (tt, (tt, tt))))))))))))))))
