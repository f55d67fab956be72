-- A fold that may stop, over the bytes that an iterator gives.
use Rattle.std.proofs.Common.{◌≡◌, ℕ, List, [], ◌∷◌, ◌++◌, length, take, drop, map, Some, None, Option, Bor, MatchOption, ◌+◌, sym, refl, ap, subst, ◌∙◌, append-nil}
use Rattle.std.proofs.lemmas.Iterator.{YieldsList}
use Rattle.std.proofs.lemmas.Iterator.Consumers.{YieldsList-so_far, YieldsList-turn, YieldsList-end}
use Rattle.std.proofs.lemmas.List.{drop_more, take-append-drop}
use Rattle.std.specs.ControlFlow.{continue_value}
use Rattle.std.specs.declared.ops.ControlFlow.TheVariants.{Break}
use Rattle.std.specs.Fn.{Called}
use Rattle.std.specs.Iterator.{Yields, TryFoldsItems, TryFoldTurn}
use Rattle.std.specs.List.{FoldsTo}
use Rattle.std.specs.Option.{option_and_then}
use denote.Param.Members.{Mut}

-- each step goes on from what the one before it gave, until one gives nothing
abbrev pub folded : (ℕ → ℕ → Option ℕ) → ℕ → List ℕ → Option ℕ
folded h n [] = Some n
folded h n (b ∷ bs) = option_and_then (λ m. folded h m bs) (h n b)

module _ {F : Type 0} (E : Type 0) {g : Mut F (ℕ × (Bor ℕ × Unit {0})) (Option ℕ)} (h : ℕ → ℕ → Option ℕ) (f : F)
    (computes : (n : ℕ) (x : Bor ℕ) (r : Option ℕ) (q : F) → Called g f (n, (x, tt)) r q → (q ≡ f) × (r ≡ h n x.now)) where
  abbrev Turns : F → ℕ → List (Bor ℕ) → F → ℕ → Type 0
  Turns p n xs q m = FoldsTo {P = F × ℕ} (TryFoldTurn {E = E} g (λ v c. v ≡ continue_value c)) (p, n) xs (q, m)

  turned : (xs : List (Bor ℕ)) (n m : ℕ) (q : F) (ys : List ℕ) → Turns f n xs q m → (q ≡ f) × (folded h n (map (λ x. x.now) xs ++ ys) ≡ folded h m ys)
  turned [] n m q ys e = (ap (λ p. p.0) (sym e), ap (λ p. folded h p.1 ys) e)
  turned (x ∷ xs) n m q ys e =
      let t = computes n x e.1.0 e.0.0 e.1.1 in
      let w : h n x.now ≡ Some e.0.1 = sym t.1 ∙ e.1.2 in
      let i = turned xs e.0.1 m q ys (subst (λ (p : F). Turns p e.0.1 xs q m) t.0 e.2) in
      (i.0, ap (λ o. option_and_then (λ k. folded h k (map (λ x. x.now) xs ++ ys)) o) w ∙ i.1)

  module _ {S : Type 0} {steps : S → Option (Bor ℕ) → S → Type 0} {s : S} (u : S) (all : List ℕ) (y : YieldsList steps (λ x. x.now) s all) (n : ℕ) (r : Option ℕ) where
    abbrev Ended : F → ℕ → Option (Bor ℕ) → Type 0
    Ended q m o = MatchOption o (r ≡ Some m) (λ x. (v : Option ℕ) × (p : F) × (e : E) × Called g q (m, (x, tt)) v p × (v ≡ continue_value (Break e)) × (r ≡ None))

    ended : (xs : List (Bor ℕ)) (t : S) (q : F) (m : ℕ) (o : Option (Bor ℕ)) → Yields steps s xs t → steps t o u → Turns f n xs q m → Ended q m o → r ≡ folded h n all
    ended xs t q m None w l e d =
        let z = YieldsList-end y xs t w None u refl l in
        let i = turned xs n m q [] e in
        d ∙ sym i.1 ∙ ap (λ bs. folded h n bs) (append-nil (map (λ x. x.now) xs) ∙ z.0)
    ended xs t q m (Some x) w l e d =
        let z = YieldsList-turn y xs t w (Some x) u x refl l in
        let i = turned xs n m q (x.now ∷ drop (length xs + 1) all) e in
        let c = computes m x d.0 d.1 (subst (λ (p : F). Called g p (m, (x, tt)) d.0 d.1) i.0 d.3) in
        let a : map (λ x. x.now) xs ++ (x.now ∷ drop (length xs + 1) all) ≡ all =
        ap (λ bs. bs ++ (x.now ∷ drop (length xs + 1) all)) (YieldsList-so_far y xs t w)
        ∙ ap (λ b. take (length xs) all ++ (b ∷ drop (length xs + 1) all)) z.1
        ∙ ap (λ bs. take (length xs) all ++ bs) (sym (drop_more all (length xs) x.now z.0))
        ∙ take-append-drop (length xs) all in
        d.5 ∙ sym (ap (λ o. option_and_then (λ k. folded h k (drop (length xs + 1) all)) o) (sym c.1 ∙ d.4)) ∙ sym i.1 ∙ ap (λ bs. folded h n bs) a

    pub folded_by : TryFoldsItems steps {E = E} g (λ v c. v ≡ continue_value c) (λ _ r. r ≡ None) s f n r u → r ≡ folded h n all
    folded_by d = ended d.0 d.4.0 d.2 d.3 d.1 d.4.1 d.4.2 d.5 d.6
