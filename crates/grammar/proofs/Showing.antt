-- Bytes, as they are written.
use Rattle.std.proofs.Common.{◌≡◌, ℕ, ◌-◌, ◌^◌, ◌<◌, ◌≤◌, min, false, List, [], ◌∷◌, ◌++◌, length, take, codes, ap, append-nil, sym, arith, nat_lt, if◌then◌else◌}
use Rattle.std.proofs.lemmas.Bool.Decides.{nat_tests}
use Rattle.std.proofs.lemmas.Fmt.{hex_byte}
use Rattle.std.proofs.lemmas.List.{take_all}
use Rattle.std.specs.Fmt.{digits, format_spec, padded_integral}
use Rattle.std.specs.List.{flat_map}
use Rattle.grammar.specs.Shown.{printable, shown_byte, shown}

-- two hexadecimal digits
pub hex_shown : (b : ℕ) → b < 256 → printable b ≡ false → 92 ∷ 120 ∷ padded_integral (format_spec 32 0 4 2 (2 ^ 64 - 1)) false [] (digits 16 false b) ≡ shown_byte b
hex_shown b l n = rw n (ap (λ t. 92 ∷ 120 ∷ t) (hex_byte false b l))

-- the first 40 bytes, or all
pub shown_long : (s : List ℕ) (m i : ℕ) → m ≡ min (length s) 40 → length (take m s) ≤ i → 40 < length s → flat_map shown_byte (take i (take m s)) ++ codes "..." ≡ shown s
shown_long s m i e l k =
    let n : m ≡ 40 = omega arith in
    let dots : (if nat_lt 40 (length s) then codes "..." else []) ≡ codes "..." = grind (arith, nat_tests) in
    rw (take_all i (take m s) l, n) (ap (λ t. flat_map shown_byte (take 40 s) ++ t) (sym dots))

pub shown_short : (s : List ℕ) (m i : ℕ) → m ≡ min (length s) 40 → length (take m s) ≤ i → length s ≤ 40 → flat_map shown_byte (take i (take m s)) ≡ shown s
shown_short s m i e l k =
    let n : length s ≤ m = omega arith in
    let none : (if nat_lt 40 (length s) then codes "..." else []) ≡ [] = grind (arith, nat_tests) in
    rw (take_all i (take m s) l, take_all m s n) (sym (rw (take_all 40 s k, none) (append-nil (flat_map shown_byte s))))
