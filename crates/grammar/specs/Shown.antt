-- What is shown of the bytes of a text.
use Rattle.std.specs.Prelude.{ℕ, Bool, ◌/◌, ◌%◌, ◌&&◌, List, [], ◌∷◌, ◌++◌, length, take, false, codes, nat_le, nat_lt, if◌then◌else◌}
use Rattle.std.specs.Fmt.{digit_glyph}
use Rattle.std.specs.List.{flat_map}

-- a letter, a digit, a sign or a space of ASCII
abbrev pub printable : ℕ → Bool
printable b = nat_le 32 b && nat_le b 126

-- a byte by itself if it is printable, and else a backslash, an x and its two hexadecimal digits
abbrev pub shown_byte : ℕ → List ℕ
shown_byte b = if printable b then b ∷ [] else 92 ∷ 120 ∷ digit_glyph false (b / 16) ∷ digit_glyph false (b % 16) ∷ []

-- the first 40 bytes, and three dots where there are more
abbrev pub shown : List ℕ → List ℕ
shown bs = flat_map shown_byte (take 40 bs) ++ (if nat_lt 40 (length bs) then codes "..." else [])
