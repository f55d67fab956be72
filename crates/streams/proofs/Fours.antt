-- Numbers in fours, one stream at a time.
use Rattle.std.proofs.Common.{◌≡◌, ℕ, zero, suc, ◌+◌, ◌*◌, ◌/◌, ◌%◌, ◌<◌, ◌≤◌, ◌≢◌, List, [], ◌∷◌, ◌++◌, length, get_or, take, drop, set, Some, None, Ok, Err, Option, sym, refl, ap, ◌∙◌, append_assoc, arith, below_more}
use Rattle.std.proofs.lemmas.List.{take_more_set, get_or-take, get_or-set_same, get_or-set_other, length-drop, length-set, drop-drop}
use Rattle.std.specs.Simd.{first_chunks}
use Rattle.std.proofs.lemmas.Bool.Decides.{nat_tests}
use Rattle.streams.specs.declared.model.Stream.{Stream}
use Rattle.streams.specs.declared.refusals.Refusal.{Refusal}
use Rattle.streams.specs.Rules.{stream_in, streams_in, first, stream_refusal, unsound, refusal, Sound, blank, unless, stream_or_refusal}

-- the next four numbers
abbrev pub next : List ℕ → ℕ → ℕ
next xs i = get_or xs i 0

pub streams_more : (xs : List ℕ) → 4 ≤ length xs → streams_in xs ≡ stream_in (next xs 0) (next xs 1) (next xs 2) (next xs 3) ∷ streams_in (drop 4 xs)
streams_more xs l = grind arith

unsound_more : (gap i : ℕ) (xs : List ℕ) → 4 ≤ length xs →
    unsound gap i xs ≡ first (stream_refusal gap i (next xs 0) (next xs 1) (next xs 2) (next xs 3) ∷ unsound gap (i + 1) (drop 4 xs) ∷ [])
unsound_more gap i [] l = absurd (omega arith)
unsound_more gap i (a ∷ []) l = absurd (omega arith)
unsound_more gap i (a ∷ (b ∷ [])) l = absurd (omega arith)
unsound_more gap i (a ∷ (b ∷ (c ∷ []))) l = absurd (omega arith)
unsound_more gap i (a ∷ (b ∷ (c ∷ (d ∷ xs)))) l = refl

-- what a stream that is read, and a rule that refuses one, tell of its four numbers
unless_ok : (o : Option Refusal) (s t : Stream) → Ok t ≡ unless o s → (o ≡ None) × (t ≡ s)
unless_ok o s t e = grind arith

unless_err : (o : Option Refusal) (s : Stream) (r : Refusal) → Err r ≡ unless o s → o ≡ Some r
unless_err o s r e = grind arith

sound : (gap i mark low high rate : ℕ) → stream_refusal gap i mark low high rate ≡ None → Sound gap (stream_in mark low high rate)
sound gap i mark low high rate e = grind (arith, nat_tests)

-- the first of two rules, where the first is passed, or is met
first_passed : (o p : Option Refusal) → o ≡ None → p ≡ first (o ∷ p ∷ [])
first_passed o p e = grind arith

first_met : (o p : Option Refusal) (e : Refusal) → o ≡ Some e → first (o ∷ p ∷ []) ≡ Some e
first_met o p e h = grind arith

-- the numbers in fours, and the four at a place
abbrev pub fours_of : List ℕ → List (List ℕ)
fours_of xs = first_chunks 4 (length xs / 4) xs

four_at : (k i : ℕ) (xs d : List ℕ) → i < k → get_or (first_chunks 4 k xs) i d ≡ take 4 (drop (4 * i) xs)
four_at zero i xs d l = absurd (omega arith)
four_at (suc k) zero xs d l = refl
four_at (suc k) (suc i) xs d l =
    let e : 4 * suc i ≡ 4 + 4 * i = omega arith in rw e (four_at k i (drop 4 xs) d (omega arith) ∙ ap (take 4) (drop-drop (4 * i) 4 xs))

next_four : (gap i : ℕ) (xs d : List ℕ) → i < length xs / 4 →
    let rest : List ℕ = drop (4 * i) xs in
    stream_or_refusal gap i (get_or (fours_of xs) i d) ≡ unless (stream_refusal gap i (next rest 0) (next rest 1) (next rest 2) (next rest 3)) (stream_in (next rest 0) (next rest 1) (next rest 2) (next rest 3))
next_four gap i xs d l =
    let rest : List ℕ = drop (4 * i) xs in
    rw (four_at (length xs / 4) i xs d l, get_or-take 4 rest 0 0 (omega arith), get_or-take 4 rest 1 0 (omega arith), get_or-take 4 rest 2 0 (omega arith), get_or-take 4 rest 3 0 (omega arith)) refl

-- what is read so far and what is left are the whole, and so is the first stream that is unsound
pub record Read (gap : ℕ) (xs : List ℕ) (streams : List Stream) (count : ℕ) : Type 0 where
  pub full : length streams ≡ 64
  pub listed : take count streams ++ streams_in (drop (4 * count) xs) ≡ streams_in xs
  pub rule : unsound gap count (drop (4 * count) xs) ≡ unsound gap 0 xs
  pub kept : (i : ℕ) → i < count → Sound gap (get_or streams i blank)

pub read_more : (gap : ℕ) (xs d : List ℕ) (streams : List Stream) (count : ℕ) (s : Stream) → count < length xs / 4 →
    Ok s ≡ stream_or_refusal gap count (get_or (fours_of xs) count d) → count < 64 → Read gap xs streams count → Read gap xs (set streams count s) (count + 1)
read_more gap xs d streams count s l e room r =
    let rest : List ℕ = drop (4 * count) xs in
    let long : 4 ≤ length rest = omega (arith, length-drop (4 * count) xs) in
    let four : 4 * (count + 1) ≡ 4 * count + 4 = omega arith in
    let behind : drop (4 * (count + 1)) xs ≡ drop 4 rest = rw four (sym (drop-drop 4 (4 * count) xs)) in
    let ok = unless_ok (stream_refusal gap count (next rest 0) (next rest 1) (next rest 2) (next rest 3)) _ s (e ∙ next_four gap count xs d l) in
    let inside : count < length streams = omega (arith, r.full) in
    record {
      full = simp length-set r.full;
      listed =
          rw (behind, take_more_set streams count s inside, append_assoc (take count streams) (s ∷ []) (streams_in (drop 4 rest)), ok.1)
          (ap (λ ss. take count streams ++ ss) (sym (streams_more rest long)) ∙ r.listed);
      rule = rw behind (first_passed _ _ ok.0 ∙ sym (unsound_more gap count rest long) ∙ r.rule);
      kept =
          below_more (λ i. Sound gap (get_or (set streams count s) i blank)) count
          (λ i h. let ne : i ≢ count = omega arith in rw get_or-set_other (r.kept i h))
          (rw (get_or-set_same streams count s blank inside, ok.1) (sound gap count _ _ _ _ ok.0));
    }

-- the rules that come before those on each stream
pub refusal_of_streams : (xs : List ℕ) (gap : ℕ) → length xs % 4 ≡ 0 → length xs ≤ 256 → gap ≤ 1000 → refusal xs gap ≡ unsound gap 0 xs
refusal_of_streams xs gap fours few narrow = grind (arith, nat_tests)

-- the first stream that is refused is the answer
pub refuses : (gap : ℕ) (xs d : List ℕ) (streams : List Stream) (count : ℕ) (e : Refusal) → count < length xs / 4 →
    Err e ≡ stream_or_refusal gap count (get_or (fours_of xs) count d) → Read gap xs streams count → unsound gap 0 xs ≡ Some e
refuses gap xs d streams count e l q r =
    let rest : List ℕ = drop (4 * count) xs in
    let refused = unless_err (stream_refusal gap count (next rest 0) (next rest 1) (next rest 2) (next rest 3)) _ e (q ∙ next_four gap count xs d l) in
    sym r.rule ∙ unsound_more gap count rest (omega (arith, length-drop (4 * count) xs)) ∙ first_met _ _ e refused
