-- A list that is gone through from its end.
use Rattle.std.proofs.Common.{◌≡◌, ℕ, suc, ◌≤◌, List, [], ◌∷◌, ◌++◌, length, get_or, take, sym, refl, ap, ◌∙◌, arith}
use Rattle.std.proofs.lemmas.List.{take-take, take_at}
use Rattle.std.proofs.lemmas.Grind.{common_steps}

-- one item less is left: the last of what was left
pub record Left (xs rest rest₁ : List ℕ) (x : ℕ) : Type 0 where
  pub long : length rest ≡ suc (length rest₁)
  pub last : x ≡ get_or xs (length rest₁) 0
  pub front : rest₁ ≡ take (length rest₁) xs

pub one_less : (xs rest rest₁ : List ℕ) (x : ℕ) → rest ≡ take (length rest) xs → rest ≡ rest₁ ++ x ∷ [] → Left xs rest rest₁ x
one_less xs rest rest₁ x e p =
    record {
      long = grind (arith, common_steps);
      last = grind (arith, common_steps);
      front = let l : length rest₁ ≤ length rest = grind (arith, common_steps) in sym (ap (λ ys. take (length rest₁) ys) p ∙ take_at _ _ _ refl) ∙ ap (λ ys. take (length rest₁) ys) e ∙ take-take _ _ xs l;
    }
