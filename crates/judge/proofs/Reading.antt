-- Numbers that are taken in fours or in threes are the same streams and transfers.
use Rattle.std.proofs.Common.{◌≡◌, ℕ, zero, suc, ◌*◌, ◌/◌, ◌≤◌, List, [], ◌∷◌, length, take, refl, ap, arith}
use Rattle.std.proofs.lemmas.List.{length-take}
use Rattle.std.specs.Simd.{first_chunks}
use Rattle.streams.specs.Rules.{stream_in, streams_in}
use Rattle.judge.specs.Verdicts.{transfer_in, transfers_in, advised}
use Rattle.judge.specs.Pieces.{streams_of, transfers_of}

pub fours_read : (k : ℕ) (xs : List ℕ) → k ≡ length xs / 4 → streams_of (first_chunks 4 k xs) ≡ streams_in xs
fours_read zero [] e = refl
fours_read zero (a ∷ []) e = refl
fours_read zero (a ∷ (b ∷ [])) e = refl
fours_read zero (a ∷ (b ∷ (c ∷ []))) e = refl
fours_read zero (a ∷ (b ∷ (c ∷ (d ∷ xs)))) e = absurd (omega arith)
fours_read (suc k) [] e = absurd (omega arith)
fours_read (suc k) (a ∷ []) e = absurd (omega arith)
fours_read (suc k) (a ∷ (b ∷ [])) e = absurd (omega arith)
fours_read (suc k) (a ∷ (b ∷ (c ∷ []))) e = absurd (omega arith)
fours_read (suc k) (a ∷ (b ∷ (c ∷ (d ∷ xs)))) e = ap (λ ss. stream_in a b c d ∷ ss) (fours_read k xs (omega arith))

pub threes_read : (n k : ℕ) (xs : List ℕ) → n ≤ k → k ≡ length xs / 3 → transfers_of (take n (first_chunks 3 k xs)) ≡ transfers_in (take (3 * n) xs)
threes_read zero k xs l e = refl
threes_read (suc n) zero xs l e = absurd (omega arith)
threes_read (suc n) (suc k) [] l e = absurd (omega arith)
threes_read (suc n) (suc k) (a ∷ []) l e = absurd (omega arith)
threes_read (suc n) (suc k) (a ∷ (b ∷ [])) l e = absurd (omega arith)
threes_read (suc n) (suc k) (a ∷ (b ∷ (c ∷ xs))) l e =
    let more : 3 * suc n ≡ suc (suc (suc (3 * n))) = omega arith in
    rw more (ap (λ ts. transfer_in a b c ∷ ts) (threes_read n k xs (omega arith) (omega arith)))

transfers_count : (xs : List ℕ) → length (transfers_in xs) ≡ length xs / 3
transfers_count [] = refl
transfers_count (a ∷ []) = refl
transfers_count (a ∷ (b ∷ [])) = refl
transfers_count (a ∷ (b ∷ (c ∷ xs))) = omega (arith, transfers_count xs)

pub advised_count : (room : List ℕ) (n : ℕ) → 3 * n ≤ length room → length (advised room n) ≡ n
advised_count room n l = omega (arith, transfers_count (take (3 * n) room), length-take (3 * n) room)
