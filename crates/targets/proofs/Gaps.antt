-- What a gap means: a smaller one never needs more, and what passes keeps it.
use Rattle.std.proofs.Common.{◌≡◌, ℕ, ◌+◌, ◌-◌, ◌*◌, ◌<◌, ◌≤◌, min, Bool, true, false, cond, List, [], ◌∷◌, sym, refl, ap, ◌∙◌, inl, inr, mul-le-mul_left, arith}
use Rattle.std.specs.List.{ContainsAt}
use Rattle.std.proofs.ByRecursion.{has_append_right}
use Rattle.std.proofs.lemmas.Bool.Decides.{nat_tests}
use Rattle.std.proofs.lemmas.Bool.{cases_lt}
use Rattle.streams.specs.declared.model.Kind.{Kind}
use Rattle.streams.specs.declared.model.Kind.TheVariants.{Hot, Cold}
use Rattle.streams.specs.declared.model.Stream.{Stream}
use Rattle.streams.specs.Heat.{is, heat, load, supply_of, demand_of, sum_below}
use Rattle.streams.proofs.Sums.{sum_zero, split_at, term_le_sum}
use Rattle.streams.proofs.Laws.{load_none, load_cons, sum_heat, sum_load_cons}
use Rattle.targets.specs.Deficits.{deficit, target}
use Rattle.targets.specs.Kept.{KeepsGap, ColdBelow, SmallerGap}
use Rattle.targets.proofs.Largest.{most_least, le_most}

-- the larger the shift, the less lies below a degree
heat_less : (s : Stream) (small large n : ℕ) → small ≤ large → sum_below n (heat Cold large s) ≤ sum_below n (heat Cold small s)
heat_less s small large n l = rw (sum_heat Cold large s n, sum_heat Cold small s n) (less (is s.kind Cold))
  where
    narrower : min n (s.high + large) - (s.low + large) ≤ min n (s.high + small) - (s.low + small)
    narrower = omega arith

    less : (b : Bool) → cond b (s.rate * (min n (s.high + large) - (s.low + large))) 0 ≤ cond b (s.rate * (min n (s.high + small) - (s.low + small))) 0
    less true = mul-le-mul_left s.rate narrower
    less false = omega arith

load_less : (ss : List Stream) (small large n : ℕ) → small ≤ large → sum_below n (demand_of large ss) ≤ sum_below n (demand_of small ss)
load_less [] small large n l = omega (arith, sum_zero n (demand_of large []) (λ i k. load_none Cold large i))
load_less (s ∷ ss) small large n l =
    omega (arith, sum_load_cons Cold large s ss n, sum_load_cons Cold small s ss n, heat_less s small large n l, load_less ss small large n l)

-- and below the top all of it lies
heat_same : (s : Stream) (small large top : ℕ) → small ≤ large → (s.kind ≡ Cold → s.high + large ≤ top) → sum_below top (heat Cold large s) ≡ sum_below top (heat Cold small s)
heat_same s small large top l fit = sum_heat Cold large s top ∙ same s.kind fit ∙ sym (sum_heat Cold small s top)
  where
    same : (k : Kind) → (k ≡ Cold → s.high + large ≤ top) →
        cond (is k Cold) (s.rate * (min top (s.high + large) - (s.low + large))) 0 ≡ cond (is k Cold) (s.rate * (min top (s.high + small) - (s.low + small))) 0
    same Hot fits = refl
    same Cold fits =
        let f : s.high + large ≤ top = fits refl in
        let e : min top (s.high + large) - (s.low + large) ≡ min top (s.high + small) - (s.low + small) = omega arith in
        ap (λ w. s.rate * w) e

load_same : (ss : List Stream) (small large top : ℕ) → small ≤ large → ColdBelow top large ss → sum_below top (demand_of large ss) ≡ sum_below top (demand_of small ss)
load_same [] small large top l fit = sum_zero top (demand_of large []) (λ i k. load_none Cold large i) ∙ sym (sum_zero top (demand_of small []) (λ i k. load_none Cold small i))
load_same (s ∷ ss) small large top l fit =
    omega (arith, sum_load_cons Cold large s ss top, sum_load_cons Cold small s ss top, heat_same s small large top l fit.0, load_same ss small large top l fit.1)

pub smaller_gap : SmallerGap
unfolding target deficit
smaller_gap top small large ss l fit =
    most_least top (deficit top (supply_of ss) (demand_of small ss)) (target top (supply_of ss) (demand_of large ss))
    (λ d h. omega (
      arith,
      le_most top (deficit top (supply_of ss) (demand_of large ss)) d h,
      split_at top d (demand_of small ss) (omega arith),
      split_at top d (demand_of large ss) (omega arith),
      load_less ss small large d l,
      load_same ss small large top l fit,
    ))

-- a stream of kind k that has heat in degree d
record Source (k : Kind) (shift : ℕ) (ss : List Stream) (d : ℕ) : Type 0 where
  pub stream : Stream
  pub listed : ContainsAt ss stream
  pub kind_is : stream.kind ≡ k
  pub from_low : stream.low + shift ≤ d
  pub to_high : d < stream.high + shift

heat_source : (k : Kind) (shift : ℕ) (s : Stream) (d : ℕ) → 0 < heat k shift s d → (s.kind ≡ k) × (s.low + shift ≤ d) × (d < s.high + shift)
unfolding heat
heat_source k shift s d l = grind (arith, nat_tests)

load_source : (k : Kind) (shift : ℕ) (ss : List Stream) (d : ℕ) → 0 < load k shift ss d → Source k shift ss d
load_source k shift [] d l = absurd (omega (arith, load_none k shift d))
load_source k shift (s ∷ ss) d l =
    elim (cases_lt 0 (heat k shift s d)) [
      | inl g ↦ let w = heat_source k shift s d g in record { stream = s; listed = (0, omega arith, λ x. refl); kind_is = w.0; from_low = w.1; to_high = w.2 }
      | inr g ↦
          let w : Source k shift ss d = load_source k shift ss d (omega (arith, load_cons k shift s ss d)) in
          record { stream = w.stream; listed = has_append_right (s ∷ []) ss w.stream w.listed; kind_is = w.kind_is; from_low = w.from_low; to_high = w.to_high }
    ]

pub keeps_gap : (top gap : ℕ) (ss : List Stream) → KeepsGap top gap ss
keeps_gap top gap ss p d e g dl el some =
    let hot : Source Hot 0 ss d = load_source Hot 0 ss d (omega (arith, g.gives d dl, term_le_sum top (p.passes d) e el)) in
    let cold : Source Cold gap ss e = load_source Cold gap ss e (omega (arith, g.gets e el, term_le_sum top (λ a. p.passes a e) d dl)) in
    let c_is : (e - gap) + gap ≡ e = omega (arith, cold.from_low) in
    let falls : e ≤ d = elim (cases_lt d e) [ inl up ↦ absurd (omega (arith, g.down d e dl el up)) | inr l ↦ l ] in
    record {
      hot = hot.stream;
      hot_listed = hot.listed;
      hot_kind = hot.kind_is;
      hot_low = omega (arith, hot.from_low);
      hot_high = omega (arith, hot.to_high);
      cold = cold.stream;
      cold_listed = cold.listed;
      cold_kind = cold.kind_is;
      c = e - gap;
      c_is = c_is;
      cold_low = omega (arith, cold.from_low);
      cold_high = omega (arith, cold.to_high, cold.from_low);
      lower_ends = omega arith;
      upper_ends = omega arith;
    }
