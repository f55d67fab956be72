-- Where lines and words are cut, by the places of the bytes that end them.
use Rattle.std.proofs.Common.{◌≡◌, ℕ, ◌+◌, ◌-◌, ◌<◌, ◌≤◌, Bool, true, false, not, eqb, List, [], ◌∷◌, length, get_or, take, drop, sym, refl, ap, ◌∙◌, add-zero, unwrap_or, arith, inl, inr, ◌⊎◌, Some, None}
use Rattle.std.proofs.lemmas.List.{take_rest, drop_more, take_all, length-take, get_or-drop, length-drop}
use Rattle.std.proofs.lemmas.List.Splits.{slice_split_first, slice_split_none, length-slice_split}
use Rattle.std.proofs.lemmas.List.Sums.{fails_before_first, passes_at_first, position_or_len_is, suffix_len_is, count_by-le-length, prefix_len-le-length}
use Rattle.std.proofs.Math.ListN.{drop_of_length-le}
use Rattle.std.specs.List.{position, position_or_len, slice_split, suffix_len}
use Rattle.std.proofs.lemmas.Bool.{cases_lt, not-false}
use Rattle.std.proofs.lemmas.Bool.Decides.{nat_tests}
use Rattle.lexing.specs.Lexing.{blank, uncommented, trimmed, some_bytes, lines, words}

-- no byte before a place passes
abbrev pub Before : (ℕ → Bool) → List ℕ → ℕ → Type 0
Before p bs i = (k : ℕ) → k < i → p (get_or bs k 0) ≡ false

-- a byte passes at some place
abbrev pub Somewhere : (ℕ → Bool) → List ℕ → Type 0
Somewhere p bs = (k : ℕ) × (k < length bs) × (p (get_or bs k 0) ≡ true)

-- No byte passes, or some byte does. What holds of a text with no such byte is stated below with this choice, and not with a premise on every byte:
-- with the premise, the prover stops at a limit when it has beside it what holds where there is one.
none_or_some : (p : ℕ → Bool) (bs : List ℕ) → Before p bs (length bs) ⊎ Somewhere p bs
none_or_some p bs =
    elim (cases_lt (position_or_len p bs) (length bs)) [
      | inl l ↦ inr (position_or_len p bs, l, passes_at_first p bs 0 l)
      | inr l ↦ inl (λ k m. fails_before_first p bs k 0 (omega arith))
    ]

-- the first that passes, or none
first_is : (p : ℕ → Bool) (bs : List ℕ) (i : ℕ) → i < length bs → p (get_or bs i 0) ≡ true → Before p bs i → position_or_len p bs ≡ i
first_is p bs i l h b = position_or_len_is p bs i 0 (omega arith) b (λ _. h)

none_is : (p : ℕ → Bool) (bs : List ℕ) → Before p bs (length bs) → position_or_len p bs ≡ length bs
none_is p bs b = position_or_len_is p bs (length bs) 0 (omega arith) b (λ l. absurd (omega arith))

-- a text is its first line, and the lines behind a newline, if there is one
pub line_ends : (text : List ℕ) (end : ℕ) → end < length text → eqb (get_or text end 0) 10 ≡ true → Before (λ b. eqb b 10) text end →
    lines text ≡ take end text ∷ lines (take (length text - (end + 1)) (drop (end + 1) text))
unfolding lines
line_ends text end l h b =
    let p = first_is (λ b. eqb b 10) text end l h b in
    rw (take_rest text (end + 1), ← p) (slice_split_first (λ b. eqb b 10) text 0 (omega (arith, p)))

pub last_line : (text : List ℕ) → (lines text ≡ text ∷ []) ⊎ Somewhere (λ b. eqb b 10) text
unfolding lines
last_line text =
    elim (none_or_some (λ b. eqb b 10) text) [
      | inl b ↦ let p = none_is (λ b. eqb b 10) text b in inl (grind (arith, slice_split_none, fails_before_first))
      | inr s ↦ inr s
    ]

-- there is one line more than newlines
pub lines_few : (text : List ℕ) → length (lines text) ≤ length text + 1
unfolding lines
lines_few text = omega (arith, length-slice_split (λ b. eqb b 10) text, count_by-le-length (λ b. eqb b 10) text)

-- a comment begins at the first '#'
pub comment_begins : (line : List ℕ) (end : ℕ) → end < length line → eqb (get_or line end 0) 35 ≡ true → Before (λ b. eqb b 35) line end → take end line ≡ uncommented line
unfolding uncommented
comment_begins line end l h b = ap (λ n. take n line) (sym (first_is (λ b. eqb b 35) line end l h b))

pub no_comment : (line : List ℕ) → (line ≡ uncommented line) ⊎ Somewhere (λ b. eqb b 35) line
unfolding uncommented
no_comment line =
    elim (none_or_some (λ b. eqb b 35) line) [
      | inl b ↦ let p = none_is (λ b. eqb b 35) line b in inl (sym (take_all (position_or_len (λ b. eqb b 35) line) line (omega (arith, p))))
      | inr s ↦ inr s
    ]

-- a line ends after its last byte that is no blank, and is nothing where there is none
pub blanks_begin : (line : List ℕ) (last : ℕ) → last < length line → blank (get_or line last 0) ≡ false → ((k : ℕ) → last < k → k < length line → blank (get_or line k 0) ≡ true) → take (last + 1) line ≡ trimmed line
unfolding trimmed
blanks_begin line last l e after =
    let s = suffix_len_is blank line (last + 1) 0 (omega arith) (λ k p. after k (omega arith)) (λ p. grind arith) in
    let n : last + 1 ≡ length line - suffix_len blank line = omega (arith, s) in
    ap (λ k. take k line) n

pub all_blank : (line : List ℕ) → ([] ≡ trimmed line) ⊎ Somewhere (λ b. not (blank b)) line
unfolding trimmed
all_blank line =
    elim (none_or_some (λ b. not (blank b)) line) [
      | inl b ↦
          let s = suffix_len_is blank line 0 0 (omega arith) (λ k m p. not-false _ (b k p)) (λ p. absurd (omega arith)) in
          let n : length line - suffix_len blank line ≡ 0 = omega (arith, s) in
          inl (rw n refl)
      | inr s ↦ inr s
    ]

-- blanks before a word are skipped
abbrev start : List ℕ → ℕ
start bs = position_or_len (λ b. not (blank b)) bs

skip_by : (t : Bool) (b : ℕ) (bs : List ℕ) → blank b ≡ t → words bs ≡ words (drop (start bs) bs) → words (b ∷ bs) ≡ words (drop (start (b ∷ bs)) (b ∷ bs))
unfolding words
skip_by true b bs e w = let d : drop (1 + start bs) (b ∷ bs) ≡ drop (start bs) bs = grind arith in rw (e, d) w
skip_by false b bs e w = simp e refl

words_skip : (bs : List ℕ) → words bs ≡ words (drop (start bs) bs)
unfolding words
words_skip [] = refl
words_skip (b ∷ bs) = skip_by (blank b) b bs refl (words_skip bs)

pub no_words : (text : List ℕ) → position (λ b. not (blank b)) text ≡ None → words text ≡ []
unfolding words
no_words text e =
    let l : length text ≤ start text = grind (arith, nat_tests) in
    words_skip text ∙ ap words (drop_of_length-le text l)

-- a text that begins with a word is that word and the words behind it
pub some_long : (bs : List ℕ) → 0 < length bs → some_bytes bs ≡ true
some_long [] l = absurd (omega arith)
some_long (b ∷ bs) l = refl

first_word : (bs : List ℕ) (end : ℕ) → 0 < end → end < length bs → position_or_len blank bs ≡ end → words bs ≡ take end bs ∷ words (drop end bs)
unfolding words
first_word bs end p l e =
    let s = slice_split_first blank bs 0 (omega (arith, e)) in
    let q = passes_at_first blank bs 0 (omega (arith, e)) in
    let t = some_long (take (position_or_len blank bs) bs) (omega (arith, e, length-take {A = ℕ})) in
    rw (← e) (simp (s, drop_more bs (position_or_len blank bs) 0 (omega (arith, e)), q, t) refl)

last_word : (bs : List ℕ) → 0 < length bs → position_or_len blank bs ≡ length bs → words bs ≡ bs ∷ []
unfolding words
last_word bs p e =
    let s : slice_split blank bs ≡ bs ∷ [] = grind (arith, slice_split_none, fails_before_first) in
    rw (s, some_long bs p) refl

begun : (bs : List ℕ) → 0 < length bs → not (blank (get_or bs 0 0)) ≡ true → 0 < position_or_len blank bs
begun [] l w = absurd (omega arith)
begun (b ∷ bs) l w = rw w (omega arith)

word_at : (bs : List ℕ) (end : ℕ) → 0 < length bs → not (blank (get_or bs 0 0)) ≡ true → end ≡ position_or_len blank bs → words bs ≡ take end bs ∷ words (take (length bs - end) (drop end bs))
unfolding words
word_at bs end l w e =
    elim (cases_lt end (length bs)) [
      | inl k ↦ rw (take_rest bs end) (first_word bs end (omega (arith, begun bs l w)) k (sym e))
      | inr k ↦
          let n : end ≡ length bs = omega (arith, prefix_len-le-length (λ b. not (blank b)) bs) in
          rw (take_rest bs end, take_all end bs k, drop_of_length-le bs k) (last_word bs l (sym e ∙ n))
    ]

-- a word ends at the first blank, or with the text
pub stop_within : (bs : List ℕ) → unwrap_or (position blank bs) (length bs) ≤ length bs
stop_within bs = grind (arith, nat_tests)

stop_is : (bs : List ℕ) → unwrap_or (position blank bs) (length bs) ≡ position_or_len blank bs
stop_is bs = grind (arith, nat_tests, prefix_len-le-length)

-- the same behind the blanks before it
pub word_cut : (text : List ℕ) (at end : ℕ) → position (λ b. not (blank b)) text ≡ Some at →
    end ≡ unwrap_or (position blank (take (length text - at) (drop at text))) (length (take (length text - at) (drop at text))) →
    words text ≡ take end (take (length text - at) (drop at text))
    ∷ words (take (length (take (length text - at) (drop at text)) - end) (drop end (take (length text - at) (drop at text))))
word_cut text at end s e =
    let p : (start text ≡ at) × (at < length text) = grind (arith, nat_tests) in
    let q = passes_at_first (λ b. not (blank b)) text 0 (omega (arith, p.0, p.1)) in
    let w : not (blank (get_or (take (length text - at) (drop at text)) 0 0)) ≡ true = rw (take_rest text at, get_or-drop, add-zero, ← p.0) q in
    let l : 0 < length (take (length text - at) (drop at text)) = rw (take_rest text at, length-drop) (omega (arith, p.1)) in
    let k : words text ≡ words (take (length text - at) (drop at text)) = rw (take_rest text at, ← p.0) (words_skip text) in
    k ∙ word_at (take (length text - at) (drop at text)) end l w (e ∙ stop_is (take (length text - at) (drop at text)))
