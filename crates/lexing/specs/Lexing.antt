-- Lines, words and whole numbers of a text, byte by byte.
use Rattle.std.specs.Prelude.{◌≡◌, ℕ, ◌+◌, ◌-◌, ◌*◌, Bool, true, false, cond, ◌&&◌, ◌||◌, List, [], ◌∷◌, length, take, filter, Some, None, Option, ◌==◌, nat_le, nat_lt}
use Rattle.std.specs.Borrow.{Bor}
use Rattle.lexing.specs.declared.Lines.{Lines}
use Rattle.std.specs.List.{before_first, slice_split, suffix_len}

-- a space, a tab or a carriage return stands between words
abbrev pub blank : ℕ → Bool
blank b = b == 32 || (b == 9 || b == 13)

-- a line up to a '#', which begins a comment
unfoldable pub uncommented : List ℕ → List ℕ
uncommented l = before_first (λ b. b == 35) l

-- a line without the blanks at its end
unfoldable pub trimmed : List ℕ → List ℕ
trimmed l = take (length l - suffix_len blank l) l

-- the lines of a text, of which there is one more than newlines
unfoldable pub lines : List ℕ → List (List ℕ)
lines text = slice_split (λ b. b == 10) text

abbrev pub some_bytes : List ℕ → Bool
some_bytes [] = false
some_bytes (b ∷ bs) = true

-- the words of a line: what stands between blanks
unfoldable pub words : List ℕ → List (List ℕ)
words l = filter some_bytes (slice_split blank l)

-- digits alone, and the number that they write
abbrev pub digits : List ℕ → Bool
digits [] = true
digits (b ∷ bs) = (nat_le 48 b && nat_le b 57) && digits bs

abbrev pub value_after : ℕ → List ℕ → ℕ
value_after n [] = n
value_after n (b ∷ bs) = value_after (n * 10 + (b - 48)) bs

-- the number that a word writes: one digit or more and nothing else, below 2^32
unfoldable pub number_in : List ℕ → Option ℕ
number_in w = cond (some_bytes w && (digits w && nat_lt (value_after 0 w) 4294967296)) (Some (value_after 0 w)) None

-- the value with a digit more, if it is one, and the value stays below 2^32
abbrev pub with_digit : ℕ → ℕ → Option ℕ
with_digit n b = cond ((nat_le 48 b && nat_le b 57) && nat_lt (n * 10 + (b - 48)) 4294967296) (Some (n * 10 + (b - 48))) None

-- the lines of what is left of a text, if anything is
abbrev pub lines_left : Option (Bor (List ℕ)) → List (List ℕ)
lines_left None = []
lines_left (Some rest) = lines rest.now

-- the first line, and the text behind its newline, if it has one
abbrev pub LineAndRest : List ℕ → List ℕ → Option (Bor (List ℕ)) → Type 0
LineAndRest text line rest = lines text ≡ line ∷ lines_left rest

-- the lines that are still to come
abbrev pub lines_to_come : Lines → List (List ℕ)
lines_to_come s = lines_left s.rest
