-- Laws of what streams give and take: one stream more, bounds, whole streams, another order, a stream cut in two.
use Rattle.std.proofs.Common.{◌≡◌, ℕ, zero, suc, ◌+◌, ◌-◌, ◌*◌, ◌≤◌, min, Bool, true, false, cond, ◌&&◌, List, [], ◌∷◌, ◌++◌, sum_by, sym, refl, ap, ◌∙◌, arith}
use Rattle.std.specs.List.Sorted.{IsPermutation}
use Rattle.std.specs.List.{AllByRecursion}
use Rattle.std.proofs.lemmas.List.Sums.{sum_by-cons}
use Rattle.std.proofs.lemmas.List.Sorted.{sum_by-IsPermutation}
use Rattle.std.proofs.lemmas.Bool.Decides.{nat_tests}
use Rattle.streams.specs.declared.model.Kind.{Kind}
use Rattle.streams.specs.declared.model.Stream.{Stream}
use Rattle.streams.specs.Heat.{within, is, heat, load, sum_below}
use Rattle.streams.specs.Loaded.{whole, lower_part, upper_part, Cut}
use Rattle.streams.proofs.Sums.{sum_add, sum_zero}

pub load_none : (k : Kind) (shift d : ℕ) → load k shift [] d ≡ 0
unfolding load
load_none k shift d = refl

-- one stream more
pub load_cons : (k : Kind) (shift : ℕ) (s : Stream) (ss : List Stream) (d : ℕ) → load k shift (s ∷ ss) d ≡ heat k shift s d + load k shift ss d
unfolding load
load_cons k shift s ss d = refl

pub load_append : (k : Kind) (shift : ℕ) (ss ts : List Stream) (d : ℕ) → load k shift (ss ++ ts) d ≡ load k shift ss d + load k shift ts d
load_append k shift [] ts d = omega (arith, load_none k shift d)
load_append k shift (s ∷ ss) ts d = omega (arith, load_cons k shift s ss d, load_cons k shift s (ss ++ ts) d, load_append k shift ss ts d)

-- another order
load_sum : (k : Kind) (shift : ℕ) (ss : List Stream) (d : ℕ) → load k shift ss d ≡ sum_by (λ s. heat k shift s d) ss
load_sum k shift [] d = load_none k shift d
load_sum k shift (s ∷ ss) d = omega (arith, load_cons k shift s ss d, load_sum k shift ss d, sum_by-cons (λ s. heat k shift s d) s ss)

pub load_shuffled : (k : Kind) (shift : ℕ) (ss ts : List Stream) (d : ℕ) → IsPermutation ss ts → load k shift ss d ≡ load k shift ts d
load_shuffled k shift ss ts d sh = load_sum k shift ss d ∙ sym (sum_by-IsPermutation (λ s. heat k shift s d) ss ts sh) ∙ sym (load_sum k shift ts d)

-- a stream cut in two
cut_if : (of_kind : Bool) (a m b rate d : ℕ) → a ≤ m → m ≤ b → cond (of_kind && within a m d) rate 0 + cond (of_kind && within m b d) rate 0 ≡ cond (of_kind && within a b d) rate 0
cut_if of_kind a m b rate d h k = grind (arith, nat_tests)

heat_cut : (k : Kind) (shift : ℕ) (s : Stream) (m d : ℕ) → s.low ≤ m → m ≤ s.high → heat k shift (lower_part s m) d + heat k shift (upper_part s m) d ≡ heat k shift s d
unfolding heat
heat_cut k shift s m d l h = cut_if (is s.kind k) (s.low + shift) (m + shift) (s.high + shift) s.rate d (omega arith) (omega arith)

pub load_cut : (k : Kind) (shift : ℕ) (ss ts : List Stream) (d : ℕ) → Cut ss ts → load k shift ss d ≡ load k shift ts d
load_cut k shift ss ts d c =
    let low : Stream = lower_part c.one c.degree in
    let up : Stream = upper_part c.one c.degree in
    omega (
      arith,
      ap (λ (xs : List Stream). load k shift xs d) c.uncut,
      ap (λ (xs : List Stream). load k shift xs d) c.in_two,
      load_append k shift c.before (c.one ∷ c.after) d,
      load_append k shift c.before (low ∷ up ∷ c.after) d,
      load_cons k shift c.one c.after d,
      load_cons k shift low (up ∷ c.after) d,
      load_cons k shift up c.after d,
      heat_cut k shift c.one c.degree d c.from_low c.to_high,
    )

-- whole streams: what a stream from a up to b has below n
cover_step : (n a b rate : ℕ) → rate * (min n b - a) + cond (within a b n) rate 0 ≡ rate * (min (suc n) b - a)
cover_step n a b rate = grind (arith, nat_tests)

pub sum_cover : (n a b rate : ℕ) → sum_below n (λ d. cond (within a b d) rate 0) ≡ rate * (min n b - a)
unfolding sum_below
sum_cover zero a b rate = let z : min 0 b - a ≡ 0 = omega arith in rw z (omega arith)
sum_cover (suc n) a b rate = omega (arith, sum_cover n a b rate, cover_step n a b rate)

sum_cover_if : (of_kind : Bool) (n a b rate : ℕ) → sum_below n (λ d. cond (of_kind && within a b d) rate 0) ≡ cond of_kind (rate * (min n b - a)) 0
sum_cover_if true n a b rate = sum_cover n a b rate
sum_cover_if false n a b rate = sum_zero n (λ d. 0) (λ i l. refl)

-- what one stream has below n
pub sum_heat : (k : Kind) (shift : ℕ) (s : Stream) (n : ℕ) → sum_below n (heat k shift s) ≡ cond (is s.kind k) (s.rate * (min n (s.high + shift) - (s.low + shift))) 0
unfolding heat
sum_heat k shift s n = sum_cover_if (is s.kind k) n (s.low + shift) (s.high + shift) s.rate

heat_whole : (k : Kind) (shift : ℕ) (s : Stream) (n : ℕ) → s.high + shift ≤ n → sum_below n (heat k shift s) ≡ cond (is s.kind k) (s.rate * (s.high - s.low)) 0
heat_whole k shift s n l =
    let e : min n (s.high + shift) - (s.low + shift) ≡ s.high - s.low = omega arith in
    sum_heat k shift s n ∙ ap (λ w. cond (is s.kind k) (s.rate * w) 0) e

pub sum_load_cons : (k : Kind) (shift : ℕ) (s : Stream) (ss : List Stream) (n : ℕ) → sum_below n (load k shift (s ∷ ss)) ≡ sum_below n (heat k shift s) + sum_below n (load k shift ss)
unfolding load
sum_load_cons k shift s ss n = sum_add n (heat k shift s) (load k shift ss)

-- nothing is lost below a top that the streams stay under
pub load_whole : (k : Kind) (shift : ℕ) (ss : List Stream) (n : ℕ) → AllByRecursion (λ s. s.high + shift ≤ n) ss → sum_below n (load k shift ss) ≡ whole k ss
load_whole k shift [] n a = sum_zero n (load k shift []) (λ i l. load_none k shift i)
load_whole k shift (s ∷ ss) n a = omega (arith, sum_load_cons k shift s ss n, heat_whole k shift s n a.0, load_whole k shift ss n a.1)
