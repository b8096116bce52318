-- What is gathered of the bulks of one sender.
use Rattle.std.proofs.Common.{◌≡◌, ◌≢◌, ℕ, ◌%◌, ◌<◌, false, true≢false, List, [], ◌∷◌, ◌++◌, length, append-nil, refl, sym, ap, subst, ◌∙◌, arith}
use Rattle.std.specs.List.{All, Contains}
use Rattle.std.proofs.Math.Nat.{mod-eq_of_lt}
use Rattle.std.proofs.lemmas.List.{map-append, nil_from_length}
use Rattle.std.proofs.lemmas.List.Concat.{flat_map-append}
use Rattle.std.proofs.lemmas.List.Elements.{All-head, All-tail, Contains-append_left, Contains-push}
use Rattle.hp_ring.specs.declared.gathering.Gathered.{Gathered}
use Rattle.hp_ring.specs.declared.taking.Taken.{Taken}
use Rattle.hp_ring.specs.Bulks.{BulkView, bulk, bulks_of}
use Rattle.hp_ring.specs.Gathering.{HasGathered, bytes_of}
use Rattle.hp_ring.specs.Taking.{HasTaken, HasTakenBut}
use Rattle.hp_ring.specs.Weave.{words_of}
use Rattle.hp_ring.proofs.OfSender.{bulks_of-append, bulks_of-other, bulks_of-own}

-- the bytes of one bulk more
bytes_more : (bulks : List BulkView) (b : BulkView) → bytes_of (words_of (bulks ++ b ∷ [])) ≡ bytes_of (words_of bulks) ++ bytes_of b.words
bytes_more bulks b =
    ap bytes_of (flat_map-append (λ (x : BulkView). x.words) bulks (b ∷ []) ∙ ap (λ (l : List ℕ). words_of bulks ++ l) (append-nil b.words))
    ∙ map-append (λ word. word % 256) (words_of bulks) b.words

-- an end came
pub add_end : (bulks : List BulkView) (b : BulkView) (old new : Gathered) → length b.words ≡ 0 → new.bytes.items ≡ old.bytes.items → new.whole ≡ old.whole
    → HasGathered bulks old → HasGathered (bulks ++ b ∷ []) new
add_end bulks b old new none bytes whole gathered = record {
  bytes = λ is.
      bytes ∙ (gathered.bytes (sym whole ∙ is)
      ∙ (sym (append-nil (bytes_of (words_of bulks))) ∙ (ap (λ (l : List ℕ). bytes_of (words_of bulks) ++ bytes_of l) (sym empty) ∙ sym (bytes_more bulks b))));
  ended = λ _. (b, Contains-push bulks b, none);
}
  where
    empty : b.words ≡ []
    empty = nil_from_length b.words none

-- the end that came before is still there
still_ended : (bulks : List BulkView) (b : BulkView) → (end : BulkView) × Contains bulks end × (length end.words ≡ 0)
    → (end : BulkView) × Contains (bulks ++ b ∷ []) end × (length end.words ≡ 0)
still_ended bulks b ended = (ended.0, Contains-append_left bulks (b ∷ []) ended.0 ended.1, ended.2)

-- the bytes of a bulk were added
pub add_whole : (bulks : List BulkView) (b : BulkView) (old new : Gathered) → new.bytes.items ≡ old.bytes.items ++ bytes_of b.words → new.whole ≡ old.whole
    → new.ended ≡ old.ended → HasGathered bulks old → HasGathered (bulks ++ b ∷ []) new
add_whole bulks b old new bytes whole ended gathered = record {
  bytes = λ is. bytes ∙ (ap (λ (l : List ℕ). l ++ bytes_of b.words) (gathered.bytes (sym whole ∙ is)) ∙ sym (bytes_more bulks b));
  ended = λ is. still_ended bulks b (gathered.ended (sym ended ∙ is));
}

-- there was no memory for them
pub add_short : (bulks : List BulkView) (b : BulkView) (old new : Gathered) → new.whole ≡ false → new.ended ≡ old.ended
    → HasGathered bulks old → HasGathered (bulks ++ b ∷ []) new
add_short bulks b old new short ended gathered = record {
  bytes = λ is. absurd (true≢false (sym is ∙ short));
  ended = λ is. still_ended bulks b (gathered.ended (sym ended ∙ is));
}

-- the last bulk is the sender's, and was added
pub gathered_own : (who : ℕ) (before : List BulkView) (b : BulkView) (old new : Gathered) → b.sender ≡ who → HasGathered (bulks_of who before) old
    → ((bulks : List BulkView) → HasGathered bulks old → HasGathered (bulks ++ b ∷ []) new) → HasGathered (bulks_of who (before ++ b ∷ [])) new
gathered_own who before b old new its gathered added =
    subst (λ (l : List BulkView). HasGathered l new)
    (sym (bulks_of-append who before (b ∷ []) ∙ ap (λ (l : List BulkView). bulks_of who before ++ l) (bulks_of-own who b its)))
    (added (bulks_of who before) gathered)

-- the last bulk is another's
pub gathered_other : (who : ℕ) (before : List BulkView) (b : BulkView) (g : Gathered) → b.sender ≢ who → HasGathered (bulks_of who before) g
    → HasGathered (bulks_of who (before ++ b ∷ [])) g
gathered_other who before b g apart gathered =
    subst (λ (l : List BulkView). HasGathered l g)
    (sym (bulks_of-append who before (b ∷ [])
    ∙ (ap (λ (l : List BulkView). bulks_of who before ++ l) (bulks_of-other who b apart) ∙ append-nil (bulks_of who before)))) gathered

-- The last bulk that was taken was gathered: it is the first sender's, the second's, or another's.
module _ (b : BulkView) (t : Taken) (but : HasTakenBut b t) where
  pub took_of_first : (g : Gathered) (words : List ℕ) → b.sender ≡ 0 → words ≡ b.words
      → ((bulks : List BulkView) (who : ℕ) → HasGathered bulks t.first → HasGathered (bulks ++ bulk who words ∷ []) g) → HasTaken (record t { first = g })
  took_of_first g words its is added = record {
    first = subst (λ (l : List BulkView). HasGathered (bulks_of 0 l) g) (sym but.taken)
        (gathered_own 0 but.before b t.first g its but.first
        (λ bulks had. subst (λ (w : List ℕ). HasGathered (bulks ++ bulk b.sender w ∷ []) g) is (added bulks b.sender had)));
    second = subst (λ (l : List BulkView). HasGathered (bulks_of 1 l) t.second) (sym but.taken)
        (gathered_other 1 but.before b t.second (λ same. omega (arith, its, same)) but.second);
  }

  pub took_of_second : (g : Gathered) (words : List ℕ) → b.sender ≡ 1 → words ≡ b.words
      → ((bulks : List BulkView) (who : ℕ) → HasGathered bulks t.second → HasGathered (bulks ++ bulk who words ∷ []) g) → HasTaken (record t { second = g })
  took_of_second g words its is added = record {
    first = subst (λ (l : List BulkView). HasGathered (bulks_of 0 l) t.first) (sym but.taken)
        (gathered_other 0 but.before b t.first (λ same. omega (arith, its, same)) but.first);
    second = subst (λ (l : List BulkView). HasGathered (bulks_of 1 l) g) (sym but.taken)
        (gathered_own 1 but.before b t.second g its but.second
        (λ bulks had. subst (λ (w : List ℕ). HasGathered (bulks ++ bulk b.sender w ∷ []) g) is (added bulks b.sender had)));
  }

  pub took_of_none : b.sender ≢ 0 → b.sender ≢ 1 → HasTaken t
  took_of_none not_first not_second = record {
    first = subst (λ (l : List BulkView). HasGathered (bulks_of 0 l) t.first) (sym but.taken) (gathered_other 0 but.before b t.first not_first but.first);
    second = subst (λ (l : List BulkView). HasGathered (bulks_of 1 l) t.second) (sym but.taken) (gathered_other 1 but.before b t.second not_second but.second);
  }

-- the bytes of words that are bytes are those
pub bytes_same : (words : List ℕ) → All (λ word. word < 256) words → bytes_of words ≡ words
bytes_same [] below = refl
bytes_same (word ∷ words) below =
    (λ i. mod-eq_of_lt {n = word} {m = 256} (All-head (λ (w : ℕ). w < 256) word words below) i
    ∷ bytes_same words (All-tail (λ (w : ℕ). w < 256) word words below) i)
