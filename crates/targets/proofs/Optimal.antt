-- A plan that buys no more than the target: the boiler serves the warmest demand until all that is bought is spent, and what is left of the demand
-- is laid beside the supply on one line of heat, from the warmest down. One degree passes to another where the two overlap on that line.
use Rattle.std.proofs.Common.{◌≡◌, ℕ, zero, suc, ◌+◌, ◌-◌, ◌<◌, ◌≤◌, min, arith}
use native.Mathlib.Nat.{min_comm}
use Rattle.streams.specs.Heat.{sum_below, sum_from}
use Rattle.streams.proofs.Sums.{sum_ext, from_step, from_top, from_falls}
use Rattle.targets.specs.Deficits.{deficit, target}
use Rattle.targets.specs.Plans.{Plan, Feasible, bought, Cheapest, Least}
use Rattle.targets.proofs.Largest.{most_least, le_most}
use Rattle.targets.proofs.Balance.{no_less}

-- how much of the stretches from a to b and from u to v lies in both
unfoldable pub overlap : ℕ → ℕ → ℕ → ℕ → ℕ
overlap a b u v = (min b v + min a u) - (min a v + min b u)

overlap_sym : (a b u v : ℕ) → overlap a b u v ≡ overlap u v a b
unfolding overlap
overlap_sym a b u v = omega (arith, min_comm b v, min_comm a u, min_comm a v, min_comm b u)

overlap_step : (a b u v : ℕ) → a ≤ b → u ≤ v → overlap a b u v + (min b u - min a u) ≡ min b v - min a v
unfolding overlap
overlap_step a b u v h k = omega arith

overlap_apart : (a b u v : ℕ) → a ≤ b → u ≤ v → v ≤ a → overlap a b u v ≡ 0
unfolding overlap
overlap_apart a b u v h k l = omega arith

-- one stretch beside all of a line that falls
overlap_row : (n a b : ℕ) (f : ℕ → ℕ) → a ≤ b → ((i : ℕ) → f (suc i) ≤ f i) →
    sum_below n (λ i. overlap a b (f (suc i)) (f i)) + (min b (f n) - min a (f n)) ≡ min b (f 0) - min a (f 0)
unfolding sum_below
overlap_row zero a b f h down = omega arith
overlap_row (suc n) a b f h down = omega (arith, overlap_row n a b f h down, overlap_step a b (f (suc n)) (f n) h (down n))

overlap_column : (n u v : ℕ) (f : ℕ → ℕ) → u ≤ v → ((i : ℕ) → f (suc i) ≤ f i) →
    sum_below n (λ i. overlap (f (suc i)) (f i) u v) + (min v (f n) - min u (f n)) ≡ min v (f 0) - min u (f 0)
overlap_column n u v f h down =
    omega (arith, overlap_row n u v f h down, sum_ext n (λ i. overlap (f (suc i)) (f i) u v) (λ i. overlap u v (f (suc i)) (f i)) (λ i l. overlap_sym (f (suc i)) (f i) u v))

module _ (top : ℕ) (h c : ℕ → ℕ) where
  -- supply from d up
  unfoldable pub S : ℕ → ℕ
  S d = sum_from top d h

  -- demand from e up that the boiler leaves
  unfoldable pub U : ℕ → ℕ
  U e = sum_from top e c - target top h c

  unfoldable pub optimal : Plan
  optimal =
      record {
        passes = λ d e. overlap (S (suc d)) (S d) (U (suc e)) (U e);
        heating = λ e. c e - (U e - U (suc e));
        cooling = λ d. h d - sum_below top (λ e. overlap (S (suc d)) (S d) (U (suc e)) (U e));
      }

  S_falls : (d e : ℕ) → d ≤ e → S e ≤ S d
  unfolding S
  S_falls d e l = from_falls top d e h l

  S_step : (d : ℕ) → d < top → S d ≡ S (suc d) + h d
  unfolding S
  S_step d l = from_step top d h l

  S_top : S top ≡ 0
  unfolding S
  S_top = from_top top top h (omega arith)

  U_down : (e : ℕ) → U (suc e) ≤ U e
  unfolding U
  U_down e = omega (arith, from_falls top e (suc e) c (omega arith))

  U_step : (e : ℕ) → e < top → U e - U (suc e) ≤ c e
  unfolding U
  U_step e l = omega (arith, from_step top e c l)

  target_few : target top h c ≤ sum_from top 0 c
  unfolding target deficit
  target_few = most_least top (deficit top h c) (sum_from top 0 c) (λ d l. omega (arith, from_falls top 0 d c (omega arith)))

  -- no demand lies further along the line than the supply that is as warm
  U_below : (e : ℕ) → e < top → U e ≤ S e
  unfolding U S target deficit
  U_below e l = omega (arith, le_most top (deficit top h c) e l)

  gives : (d : ℕ) → d < top → sum_below top (optimal.passes d) + optimal.cooling d ≡ h d
  unfolding optimal
  gives d l = omega (arith, overlap_row top (S (suc d)) (S d) U (S_falls d (suc d) (omega arith)) U_down, S_step d l)

  gets : (e : ℕ) → e < top → sum_below top (λ d. optimal.passes d e) + optimal.heating e ≡ c e
  unfolding optimal
  gets e l =
      let column : sum_below top (λ d. overlap (S (suc d)) (S d) (U (suc e)) (U e)) ≡ U e - U (suc e)
      = omega (arith, overlap_column top (U (suc e)) (U e) S (U_down e) (λ i. S_falls i (suc i) (omega arith)), S_top, U_below e l, S_falls 0 e (omega arith), U_down e) in
      omega (arith, column, U_step e l)

  down : (d e : ℕ) → d < top → e < top → d < e → optimal.passes d e ≡ 0
  unfolding optimal
  down d e dl el l = overlap_apart (S (suc d)) (S d) (U (suc e)) (U e) (S_falls d (suc d) (omega arith)) (U_down e) (omega (arith, U_below e el, S_falls (suc d) e l))

  spent : (n : ℕ) → n ≤ top → sum_below n optimal.heating + (sum_from top n c - U n) ≡ sum_from top 0 c - U 0
  unfolding optimal sum_below U
  spent zero l = omega arith
  spent (suc n) l = omega (arith, spent n (omega arith), from_step top n c l)

  pub optimal_feasible : Feasible top h c optimal
  optimal_feasible = record { gives = gives; gets = gets; down = down }

  pub optimal_buys : bought top optimal ≡ target top h c
  unfolding bought U
  optimal_buys = omega (arith, spent top (omega arith), from_top top top c (omega arith), target_few)

cheapest : (top : ℕ) (h c : ℕ → ℕ) → Cheapest top h c (target top h c)
cheapest top h c =
    record {
      plan = optimal top h c;
      feasible = optimal_feasible top h c;
      buys = optimal_buys top h c;
      no_less = no_less top h c;
    }

-- two cheapest plans buy the same
cheapest_one : (top : ℕ) (h c : ℕ → ℕ) (m n : ℕ) → Cheapest top h c m → Cheapest top h c n → m ≡ n
cheapest_one top h c m n x y = omega (arith, x.no_less y.plan y.feasible, y.no_less x.plan x.feasible, x.buys, y.buys)

pub target_least : (top : ℕ) (h c : ℕ → ℕ) → Least top h c (target top h c)
target_least top h c = record { cheapest = cheapest top h c; only = λ m x. cheapest_one top h c m (target top h c) x (cheapest top h c) }
