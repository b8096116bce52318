-- Steps of the proof by hand of a function that cuts a slice in two. Assumes `Logic`.
use Rattle.std.proofs.Common.{◌≡◌, ℕ, ◌≤◌, ◌<◌, ◌^◌, List, [], ◌∷◌, ◌++◌, length, take, refl, ap, ◌∙◌, w64, MutBor}
use Rattle.std.specs.Prelude.{drop as skip}
use seplogic.Ra.Ura.{Ura}
use base.Logic.{SProp, ent, sep, id⊢, emp}
use base.Fml.{Lft, Share, ftrue, flft, fres, fobs}
use base.Stored.{coded_list}
use mir.Syntax.{named}
use mir.Val.{Val, vstruct, vcons, vnil, of_list}
use contract.Monad.{Fun, fact, fact_i}
use prog.Memory.{Memory}
use prog.Routine.{Routine}
use types.Logic.{Logic, sem}
use types.Kit.{Goal, Seq, Step, step, Item, Soaks, ‵, raw, ◌⊛◌, some, later, ◌$◌, ◌∵◌, !, qed, move, drop, use0, use1, split, split3, join, pick, await, rewrite, fpick, fpack, fsplit, fsplit3, fjoin, feq_l, feq_i, done}
use types.Tokens.{name_done}
use denote.Builtin.{u8, usize}
use denote.FollowSlice.{heres_id}
use denote.Laws.{shows}
use denote.Plain.{uint_vals, uint_Makes}
use denote.RattleType.{RattleType, Valss}
use denote.Slice.{MutSlice, Room, slice_val, mut_slice_vals, mut_slice_Tells}
use denote.Steps.{nothing, heard, only, owned, peeks}
use denote.Struct.Struct.{within}
use denote.Struct.Declared.{shape}
use denote.Struct.Tuple.{Tuple, tuple_type}
use denote.Triple.Clauses.{lasts}
use denote.Triple.Spec.{triple_of}
use denote.Triple.Statement.{Contract}
use Rattle.hp_bytes.specs.Cuts.{lends_cut}
use Rattle.hp_bytes.specs.contracts.part.cut as c

abbrev pub slice_at : MutBor (List ℕ) → Val
slice_at s = slice_val s.ref_ptr (length s.now)

abbrev pub pair_val : Val → Val → Val
pair_val u v = vstruct (vcons u (vcons v vnil))

-- a pair is made of its two values
pub pair_of : {M : Type 1} {𝓤 : Ura M} (𝓛 : Logic 𝓤) (R S : RattleType) (x : R.Denot) (y : S.Denot) (u v : Val)
    → ent 𝓤 (sep 𝓤 (sem 𝓛 (R.own_val x (u ∷ []))) (sem 𝓛 (S.own_val y (v ∷ [])))) (sem 𝓛 ((Tuple (R ∷ S ∷ [])).own_val (x, y) (pair_val u v ∷ [])))
pair_of 𝓛 R S x y u v =
    qed 𝓛 (‵ (R.own_val x (u ∷ [])) ∷ ‵ (S.own_val y (v ∷ [])) ∷ []) ∵ nothing ! $ move ! (2 ∷ 0 ∷ []) $ fjoin ! $ move ! (1 ∷ 0 ∷ []) $ fjoin ! $
    feq_i ! (List Val) (pair_val u v ∷ []) (pair_val u v ∷ []) refl $ fjoin ! $
    fpack ! (Valss (R ∷ S ∷ [])) (within (shape (tuple_type (R ∷ S ∷ []))) (x, (y, tt)) (pair_val u v ∷ [])) (u ∷ [], (v ∷ [], tt)) $ done !

module _ {M : Type 1} {𝓤 : Ura M} (𝓛 : Logic 𝓤) (at_mem : Memory → SProp 𝓤) (run : Routine → Fun 𝓤) (κ : Lft) (q : Share) where
  open 𝓛 use {A, H}

  abbrev pub Sl : RattleType
  Sl = MutSlice (named 0) κ u8

  abbrev pub Cut : Contract 𝓤
  Cut = triple_of 𝓛 c.signature (c.spec 𝓛 at_mem run)

  abbrev pub at_cut : MutBor (List ℕ) → ℕ → Cut.Ghost
  at_cut s n = (((κ, tt), (q, tt), tt, (s, (n, tt)), (mut_slice_vals s, (uint_vals w64 n, tt))), tt)

  -- a slice and the token are what a cut asks for
  pub cut_asks : (s : MutBor (List ℕ)) (n : ℕ) → n < 2 ^ 64 → n ≤ length s.now → ent 𝓤 (sep 𝓤 (sem 𝓛 (Sl.own_val s (slice_at s ∷ []))) (A.lft κ q)) (Cut.pre (at_cut s n))
  cut_asks s n fits inside =
      qed 𝓛 (‵ (Sl.own_val s (slice_at s ∷ [])) ∷ ‵ (flft κ q) ∷ []) ∵ nothing ! $ owned ! usize _ (uint_Makes 𝓛 w64) n (uint_vals w64 n) (refl, fits) $ join ! $
      move ! (1 ∷ 0 ∷ []) $ join ! $ nothing ! $ move ! (2 ∷ 0 ∷ []) $ join ! $ join ! $ use0 𝓛 (raw (fact 𝓤 (n ≤ length s.now))) (fact_i 𝓤 _ (emp 𝓤) inside) $
      move ! (1 ∷ 0 ∷ []) $ join ! $ use1 𝓛 (raw (Cut.pre (at_cut s n))) (id⊢ 𝓤 _) $ done !

  module _ {K : Type 0} {Γ : List (Item 𝓤)} {G : Goal 𝓤 H} where
    -- two slices and the token are what it gives
    pub cut_gives : K → Soaks G → (s : MutBor (List ℕ)) (n : ℕ) (v : Val)
        → ((x y : MutBor (List ℕ)) → v ≡ pair_val (slice_at x) (slice_at y) → x.now ≡ take n s.now → y.now ≡ skip n s.now → Room u8 (length x.now) → Room u8 (length y.now)
        → Seq K 𝓛 (‵ (Sl.own_val x (slice_at x ∷ [])) ∷ ‵ (Sl.own_val y (slice_at y ∷ [])) ∷ ‵ (flft κ q) ∷ ‵ (lends_cut s (x, y)) ∷ Γ) G)
        → Seq K 𝓛 (raw (Cut.post (at_cut s n) v) ∷ Γ) G
    cut_gives k soaks s n v next =
        use1 𝓛 (later (some (λ (r : MutBor (List ℕ) × MutBor (List ℕ)). ((‵ (flft κ q) ⊛ ‵ ftrue) ⊛ ‵ ((Tuple (Sl ∷ Sl ∷ [])).own_val r (v ∷ [])))
        ⊛ some (λ (ws : Unit {0} × (Unit {0} × Unit {0})). ‵ (lasts c.ended (κ, tt) (s, (n, tt)) ws) ⊛ ‵ (lends_cut s r)
        ⊛ raw (fact 𝓤 (r.0.now ≡ take n s.now)) ⊛ raw (fact 𝓤 (r.1.now ≡ skip n s.now)))))) (id⊢ 𝓤 _) $
        await k soaks $ pick k (λ r. split k $ move k (1 ∷ []) $ pick k (λ ws. split3 k $ drop k $ move k (1 ∷ []) $ split k $
        heard k _ (λ first. heard k _ (λ second. move k (1 ∷ []) $ split k $ split k $ move k (2 ∷ []) $
        -- [the pair; the token; nothing; what follows]
        fpick k (λ vss. fsplit k $ feq_l k (λ e. fsplit k $
        peeks k Sl _ (shows 𝓛 Sl) r.0 vss.0 (λ is. rewrite k 0 (λ (us : List Val). ‵ (Sl.own_val r.0 us)) (mut_slice_Tells (named 0) κ u8 r.0 vss.0 is) refl $
        move k (1 ∷ []) $ fsplit k $
        peeks k Sl _ (shows 𝓛 Sl) r.1 vss.1.0 (λ is². rewrite k 0 (λ (us : List Val). ‵ (Sl.own_val r.1 us)) (mut_slice_Tells (named 0) κ u8 r.1 vss.1.0 is²) refl $
        -- [the second; nothing; the first; the token; nothing; what follows]
        move k (1 ∷ []) $ drop k $ move k (3 ∷ []) $ drop k $ move k (1 ∷ 0 ∷ []) $
        next r.0 r.1 (ap only (e ∙ (λ i. vstruct (of_list (mut_slice_Tells (named 0) κ u8 r.0 vss.0 is i ++ (mut_slice_Tells (named 0) κ u8 r.1 vss.1.0 is² i ++ []))) ∷ []))) first second is.0.1 is².0.1))))))))

    -- a slice that is let go has its last value
    pub lets_go : K → Soaks G → (s : MutBor (List ℕ))
        → Step K 𝓛 (‵ (fres s.ghost_name ((coded_list u8.coded).code s.now)) ∷ Γ) G (‵ (Sl.own_val s (slice_at s ∷ [])) ∷ Γ) G
    lets_go k soaks s = step (λ next.
        fsplit3 k $ fsplit k $ drop k $ drop k $
        rewrite k 0 (λ (l : List ℕ). ‵ (fobs s.ghost_name ((coded_list u8.coded).code l))) (heres_id u8 s.now) refl $
        name_done k soaks $ move k (1 ∷ []) $ drop k $ next)
