-- Ranks put into the places of the numbers, one by one.
use Rattle.std.proofs.Common.{◌≡◌, ◌≢◌, refl, sym, ap, ◌∙◌, ℕ, zero, suc, ◌+◌, ◌<◌, ◌≤◌, cond, List, [], ◌∷◌, ◌++◌, append_assoc, append-nil, length, length-append, drop, get_or, set, add-one, drop-cons, arith, ⊎_elim}
use Rattle.std.proofs.Math.Seq.{get_or-append_seam}
use Rattle.std.proofs.Math.ListN.{get_or-append, length-set}
use Rattle.std.proofs.lemmas.Bool.{eq-eqb, ne_eqb, cases_eq}
use Rattle.std.proofs.lemmas.List.{get_or-set_other, get_or-set_same}
use Rattle.hem_regroup.proofs.RankNumbers.{below_or}
use Rattle.hem_regroup.specs.Ranks.{firsts, AreFirst, AreRanks, AreRankedTo}

longer : (xs : List ℕ) (x : ℕ) → length (xs ++ x ∷ []) ≡ length xs + 1
longer xs x = length-append xs (x ∷ [])

-- what is left, with the number at a place
firsts-new : (numbers : List ℕ) (place : ℕ) → place < length numbers → get_or numbers place 0 ≡ place → firsts place (drop place numbers) ≡ place ∷ firsts (place + 1) (drop (place + 1) numbers)
firsts-new numbers place within is =
    ap (firsts place) (drop-cons numbers place 0 within ∙ ap (λ n. n ∷ drop (suc place) numbers) is)
    ∙ ap (λ b. cond b (place ∷ firsts (place + 1) (drop (suc place) numbers)) (firsts (place + 1) (drop (suc place) numbers))) (eq-eqb place place refl)
    ∙ ap (λ k. place ∷ firsts (place + 1) (drop k numbers)) (sym (add-one place))

firsts-old : (numbers : List ℕ) (place n : ℕ) → place < length numbers → get_or numbers place 0 ≡ n → (place ≡ n → ⊥) → firsts place (drop place numbers) ≡ firsts (place + 1) (drop (place + 1) numbers)
firsts-old numbers place n within is other =
    ap (firsts place) (drop-cons numbers place 0 within ∙ ap (λ n. n ∷ drop (suc place) numbers) is)
    ∙ ap (λ b. cond b (n ∷ firsts (place + 1) (drop (suc place) numbers)) (firsts (place + 1) (drop (suc place) numbers))) (ne_eqb place n other)
    ∙ ap (λ k. firsts (place + 1) (drop k numbers)) (sym (add-one place))

-- a transaction begins
pub rank_new : (numbers : List ℕ) (place : ℕ) (starts now : List ℕ) → AreRankedTo numbers place starts now → place < length now → get_or now place 0 ≡ place → AreRankedTo numbers (place + 1) (starts ++ place ∷ []) (set now place (length starts))
rank_new numbers place starts now ranked within is =
    let number : get_or numbers place 0 ≡ place = sym (ranked.left place (omega arith)) ∙ is in
    record {
      starts_are = append_assoc starts (place ∷ []) (firsts (place + 1) (drop (place + 1) numbers)) ∙ ap (λ ns. starts ++ ns) (sym (firsts-new numbers place (let size = ranked.size in omega (arith, within, size)) number)) ∙ ranked.starts_are;
      size = length-set now place (length starts) ∙ ranked.size;
      below = λ k less.
          let long = longer starts place in
          ⊎_elim
          (λ (same : k ≡ place). let at = ap (λ k. get_or (set now place (length starts)) k 0) same ∙ get_or-set_same now place (length starts) 0 within in omega (arith, at, long))
          (λ (other : k ≢ place). let at = get_or-set_other now place k (length starts) 0 other in let low = ranked.below k (smaller k place less other) in omega (arith, at, low, long))
          (cases_eq k place);
      are = λ k less.
          ⊎_elim
          (λ (same : k ≡ place).
          ap (λ r. get_or (starts ++ place ∷ []) r 0) (ap (λ k. get_or (set now place (length starts)) k 0) same ∙ get_or-set_same now place (length starts) 0 within)
          ∙ get_or-append_seam starts place [] 0
          ∙ sym (ap (λ k. get_or numbers k 0) same ∙ number))
          (λ (other : k ≢ place).
          ap (λ r. get_or (starts ++ place ∷ []) r 0) (get_or-set_other now place k (length starts) 0 other)
          ∙ get_or-append starts (place ∷ []) 0 (get_or now k 0) (ranked.below k (smaller k place less other))
          ∙ ranked.are k (smaller k place less other))
          (cases_eq k place);
      left = λ k more. get_or-set_other now place k (length starts) 0 (λ same. omega (arith, same, more)) ∙ ranked.left k (omega (arith, more));
    }
  where
    smaller : (k place : ℕ) → k < place + 1 → k ≢ place → k < place
    smaller k place less other = ⊎_elim (λ is. is) (λ (same : place ≤ k). absurd (other (omega (arith, less, same)))) (below_or k place)

-- one that began goes on
pub rank_old : (numbers : List ℕ) (place n : ℕ) (starts now : List ℕ) → AreFirst numbers → AreRankedTo numbers place starts now → place < length now → n ≡ get_or now place 0 → (n ≡ place → ⊥) → AreRankedTo numbers (place + 1) starts (set now place (get_or now n 0))
rank_old numbers place n starts now first ranked within is other =
    let inside : place < length numbers = let size = ranked.size in omega (arith, within, size) in
    let number : get_or numbers place 0 ≡ n = sym (is ∙ ranked.left place (omega arith)) in
    let earlier : n < place = smaller n place (let least = first.least place inside in omega (arith, least, number)) other in
    record {
      starts_are = ap (λ ns. starts ++ ns) (sym (firsts-old numbers place n inside number (λ same. other (sym same)))) ∙ ranked.starts_are;
      size = length-set now place (get_or now n 0) ∙ ranked.size;
      below = λ k less.
          ⊎_elim
          (λ (same : k ≡ place). let at = ap (λ k. get_or (set now place (get_or now n 0)) k 0) same ∙ get_or-set_same now place (get_or now n 0) 0 within in let low = ranked.below n earlier in omega (arith, at, low))
          (λ (differ : k ≢ place). let at = get_or-set_other now place k (get_or now n 0) 0 differ in let low = ranked.below k (smaller k place less differ) in omega (arith, at, low))
          (cases_eq k place);
      are = λ k less.
          ⊎_elim
          (λ (same : k ≡ place).
          ap (λ r. get_or starts r 0) (ap (λ k. get_or (set now place (get_or now n 0)) k 0) same ∙ get_or-set_same now place (get_or now n 0) 0 within)
          ∙ ranked.are n earlier
          ∙ ap (λ n. get_or numbers n 0) (sym number)
          ∙ first.same place inside
          ∙ sym (ap (λ k. get_or numbers k 0) same))
          (λ (differ : k ≢ place).
          ap (λ r. get_or starts r 0) (get_or-set_other now place k (get_or now n 0) 0 differ)
          ∙ ranked.are k (smaller k place less differ))
          (cases_eq k place);
      left = λ k more. get_or-set_other now place k (get_or now n 0) 0 (λ same. omega (arith, same, more)) ∙ ranked.left k (omega (arith, more));
    }
  where
    smaller : (k place : ℕ) → k < place + 1 → k ≢ place → k < place
    smaller k place less other = ⊎_elim (λ is. is) (λ (same : place ≤ k). absurd (other (omega (arith, less, same)))) (below_or k place)

-- at the end all are ranks
pub all_ranked : (numbers starts now : List ℕ) (place : ℕ) → AreRankedTo numbers place starts now → length now ≤ place → AreRanks numbers starts now
all_ranked numbers starts now place ranked end =
    record {
      starts_are = sym (append-nil starts) ∙ ap (λ ns. starts ++ ns) (sym (none numbers place (let size = ranked.size in omega (arith, end, size)))) ∙ ranked.starts_are;
      size = ranked.size;
      below = λ k inside. let size = ranked.size in ranked.below k (omega (arith, end, size, inside));
      are = λ k inside. let size = ranked.size in ranked.are k (omega (arith, end, size, inside));
    }
  where
    none : (numbers : List ℕ) (place : ℕ) → length numbers ≤ place → firsts place (drop place numbers) ≡ []
    none numbers place end = ap (firsts place) (gone numbers place end)
      where
        gone : (ns : List ℕ) (k : ℕ) → length ns ≤ k → drop k ns ≡ []
        gone [] zero end = refl
        gone [] (suc k) end = refl
        gone (n ∷ ns) zero end = absurd (omega (arith, end))
        gone (n ∷ ns) (suc k) end = gone ns k (omega (arith, end))

pub none_ranked : (numbers : List ℕ) → AreRankedTo numbers 0 [] numbers
none_ranked numbers =
    record {
      starts_are = refl;
      size = refl;
      below = λ k less. absurd (omega (arith, less));
      are = λ k less. absurd (omega (arith, less));
      left = λ k more. refl;
    }
