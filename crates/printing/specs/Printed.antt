-- What is printed, byte for byte.
use Rattle.std.specs.Prelude.{ℕ, cond, List, [], ◌∷◌, ◌++◌, Some, None, codes, decimal, Option, ◌==◌}
use Rattle.targets.specs.declared.Targets.{Targets}
use Rattle.plans.specs.Transfers.{outside}

-- a newline ends each line
abbrev pub ended : List ℕ
ended = 10 ∷ []

-- the degree across which nothing may pass, if anything is lacking
abbrev pub pinch_part : Option ℕ → List ℕ
pinch_part None = codes ", nothing is lacking" ++ ended
pinch_part (Some d) = codes ", nothing passes at " ++ (decimal d ++ ended)

-- what is bought, what goes to the river, and the pinch
abbrev pub targets_line_bytes : ℕ → ℕ → Option ℕ → List ℕ
targets_line_bytes heating cooling pinch = codes "boiler " ++ (decimal heating ++ (codes ", river " ++ (decimal cooling ++ pinch_part pinch)))

abbrev pub first_line_bytes : Targets → List ℕ
first_line_bytes t = targets_line_bytes t.heating t.cooling t.pinch

-- what gives, what takes, and how much
abbrev pub laid_out : List ℕ → List ℕ → List ℕ → List ℕ
laid_out from to heat = from ++ (codes " to " ++ (to ++ (codes ", " ++ (heat ++ ended))))

-- one transfer, with the boiler and the river by their names
abbrev pub transfer_line_bytes : ℕ → ℕ → ℕ → List ℕ
transfer_line_bytes from to heat =
    cond (from == outside) (laid_out (codes "boiler") (decimal to) (decimal heat))
    (cond (to == outside) (laid_out (decimal from) (codes "river") (decimal heat)) (laid_out (decimal from) (decimal to) (decimal heat)))

-- numbers in threes, each a line; a rest of fewer prints nothing
abbrev pub transfer_lines : List ℕ → List ℕ
transfer_lines [] = []
transfer_lines (_ ∷ []) = []
transfer_lines (_ ∷ (_ ∷ [])) = []
transfer_lines (from ∷ (to ∷ (heat ∷ rest))) = transfer_line_bytes from to heat ++ transfer_lines rest
