-- A cut, by the places where its text stands.
use Rattle.std.proofs.Common.{◌≡◌, ℕ, zero, suc, ◌+◌, ◌<◌, ◌≤◌, true, false, List, [], ◌∷◌, length, take, drop, Some, None, Option, MatchOption, sym, refl, ap, ◌∙◌, arith}
use Rattle.std.proofs.lemmas.Grind.{common_steps}
use Rattle.std.proofs.lemmas.Bool.{cond-true, cond-false}
use Rattle.std.proofs.lemmas.Slice.Eq.{bytes_eq-Decides}
use Rattle.printing.specs.ReadBack.{begins, ahead, cut, FirstAt}

-- the cut at the first place where the text stands
pub cut_first : (text bs : List ℕ) (i : ℕ) → i < length bs → begins text (drop i bs) ≡ true → ((k : ℕ) → k < i → begins text (drop k bs) ≡ false) →
    cut text bs ≡ Some (take i bs, drop (i + length text) bs)
unfolding cut
cut_first text [] i l h before = absurd (omega arith)
cut_first text (b ∷ bs) zero l h before = let e : 0 + length text ≡ length text = omega arith in rw e (cond-true _ _ _ h)
cut_first text (b ∷ bs) (suc i) l h before =
    let e : suc i + length text ≡ suc (i + length text) = omega arith in
    cond-false _ _ _ (before 0 (omega arith)) ∙ ap (ahead (b ∷ [])) (cut_first text bs i (omega arith) h (λ k m. before (suc k) (omega arith))) ∙ ap (λ n. Some (b ∷ take i bs, drop n (b ∷ bs))) (sym e)

-- no cut where it stands nowhere
pub cut_nowhere : (text bs : List ℕ) → ((k : ℕ) → k < length bs → begins text (drop k bs) ≡ false) → cut text bs ≡ None
unfolding cut
cut_nowhere text [] h = refl
cut_nowhere text (b ∷ bs) h = cond-false _ _ _ (h 0 (omega arith)) ∙ ap (ahead (b ∷ [])) (cut_nowhere text bs (λ k l. h (suc k) (omega arith)))

-- a text that stands somewhere ends inside
pub ends_inside : (text bs : List ℕ) (i : ℕ) → i < length bs → begins text (drop i bs) ≡ true → i + length text ≤ length bs
ends_inside text bs i l h = grind (arith, common_steps, bytes_eq-Decides)

-- the first place, as a search from 0 up finds it
pub found_first : (text bs : List ℕ) (r : Option ℕ) →
    MatchOption r ((k : ℕ) → 0 ≤ k → k < length bs → begins text (drop k bs) ≡ false)
    (λ i. (0 ≤ i) × (i < length bs) × (begins text (drop i bs) ≡ true) × ((k : ℕ) → 0 ≤ k → k < i → begins text (drop k bs) ≡ false)) →
    FirstAt text bs r
found_first text bs None h = λ k l. h k (omega arith) l
found_first text bs (Some i) h = (h.1, h.2, λ k l. h.3 k (omega arith) l)
