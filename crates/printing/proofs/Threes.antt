-- Numbers in threes, each a line.
use Rattle.std.proofs.Common.{◌≡◌, ℕ, suc, ◌/◌, List, [], ◌∷◌, ◌++◌, length, get_or, refl, ap, arith}
use Rattle.std.specs.List.{flat_map}
use Rattle.std.specs.Simd.{first_chunks}
use Rattle.printing.specs.Printed.{transfer_line_bytes, transfer_lines}

-- the line of three numbers
abbrev pub line_of : List ℕ → List ℕ
line_of xs = transfer_line_bytes (get_or xs 0 0) (get_or xs 1 0) (get_or xs 2 0)

pub in_threes : (xs : List ℕ) → transfer_lines xs ≡ flat_map line_of (first_chunks 3 (length xs / 3) xs)
in_threes [] = refl
in_threes (a ∷ []) = refl
in_threes (a ∷ (b ∷ [])) = refl
in_threes (a ∷ (b ∷ (c ∷ xs))) =
    let e : length (a ∷ (b ∷ (c ∷ xs))) / 3 ≡ suc (length xs / 3) = omega arith in
    rw e (ap (λ bs. transfer_line_bytes a b c ++ bs) (in_threes xs))
