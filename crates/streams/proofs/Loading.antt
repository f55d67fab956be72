-- One stream more, of what the streams of one kind come to in a degree.
use Rattle.std.proofs.Common.{◌≡◌, ℕ, ◌+◌, ◌*◌, ◌<◌, ◌≤◌, cond, List, length, get_or, drop, refl, ap, ◌∙◌, arith}
use Rattle.std.specs.List.{AllByRecursion}
use Rattle.std.proofs.ByRecursion.{All-from_get_or}
use Rattle.std.proofs.lemmas.List.{at_drop_more, at_drop_all, length-take, get_or-take}
use Rattle.streams.specs.declared.model.Kind.{Kind}
use Rattle.streams.specs.declared.model.Kind.TheVariants.{Hot, Cold}
use Rattle.streams.specs.declared.model.Stream.{Stream}
use Rattle.streams.specs.declared.loads.Loads.{Loads}
use Rattle.streams.specs.declared.table.StreamTable.{StreamTable}
use Rattle.streams.specs.Heat.{within, heat, load}
use Rattle.streams.specs.Rules.{Sound, blank}
use Rattle.streams.specs.Checked.{listed}
use Rattle.streams.specs.Loaded.{supply_in, demand_in, LoadsOf, Loaded}
use Rattle.streams.proofs.Sums.{sum_ext}
use Rattle.streams.proofs.Laws.{load_shuffled, load_cut, load_whole}

pub within_le : (low high d rate : ℕ) → cond (within low high d) rate 0 ≤ rate
within_le low high d rate = grind arith

load_more : (k : Kind) (shift : ℕ) (ss : List Stream) (i d : ℕ) → i < length ss → load k shift (drop i ss) d ≡ heat k shift (get_or ss i blank) d + load k shift (drop (i + 1) ss) d
unfolding load
load_more k shift ss i d l = at_drop_more (λ xs. load k shift xs d) ss i blank l

heat_is : (k : Kind) (shift : ℕ) (s : Stream) (d : ℕ) → s.kind ≡ k → heat k shift s d ≡ cond (within (s.low + shift) (s.high + shift) d) s.rate 0
unfolding heat
heat_is k shift s d e = grind arith

heat_none : (k : Kind) (shift : ℕ) (s : Stream) (d : ℕ) → (s.kind ≡ k → ⊥) → heat k shift s d ≡ 0
unfolding heat
heat_none k shift s d n = grind arith

-- the sums, after the first i streams
pub record Summed (k : Kind) (shift : ℕ) (ss : List Stream) (i : ℕ) (sums : List ℕ) : Type 0 where
  pub sum_is : (d : ℕ) → d < 1000 → get_or sums d 0 + load k shift (drop i ss) d ≡ load k shift ss d
  pub few : (d : ℕ) → d < 1000 → get_or sums d 0 ≤ i * 1000000

module _ (k : Kind) (shift : ℕ) (ss : List Stream) where
  pub summed_none : (sums : List ℕ) → ((d : ℕ) → d < 1000 → get_or sums d 0 ≡ 0) → Summed k shift ss 0 sums
  summed_none sums z = record { sum_is = λ d l. omega (arith, z d l); few = λ d l. omega (arith, z d l) }

  -- a stream of the kind is added, and one of the other kind passed over
  pub summed_more : (i : ℕ) (sums sums₁ : List ℕ) → i < length ss → (get_or ss i blank).kind ≡ k → (get_or ss i blank).rate ≤ 1000000 →
      ((d : ℕ) → d < 1000 → get_or sums₁ d 0 ≡ get_or sums d 0 + cond (within ((get_or ss i blank).low + shift) ((get_or ss i blank).high + shift) d) (get_or ss i blank).rate 0) →
      Summed k shift ss i sums → Summed k shift ss (i + 1) sums₁
  summed_more i sums sums₁ l e f added s =
      record {
        sum_is = λ d h. omega (arith, added d h, s.sum_is d h, load_more k shift ss i d l, heat_is k shift (get_or ss i blank) d e);
        few = λ d h. omega (arith, added d h, s.few d h, within_le ((get_or ss i blank).low + shift) ((get_or ss i blank).high + shift) d (get_or ss i blank).rate);
      }

  pub summed_past : (i : ℕ) (sums : List ℕ) → i < length ss → ((get_or ss i blank).kind ≡ k → ⊥) → Summed k shift ss i sums → Summed k shift ss (i + 1) sums
  summed_past i sums l n s =
      record {
        sum_is = λ d h. omega (arith, s.sum_is d h, load_more k shift ss i d l, heat_none k shift (get_or ss i blank) d n);
        few = λ d h. omega (arith, s.few d h);
      }

  pub summed_all : (i : ℕ) (sums : List ℕ) → length ss ≤ i → Summed k shift ss i sums → (d : ℕ) → d < 1000 → get_or sums d 0 ≡ load k shift ss d
  unfolding load
  summed_all i sums l s d h = omega (arith, s.sum_is d h, at_drop_all (λ xs. load k shift xs d) ss i l)

-- a stream of a table keeps the rules
pub item_sound : (t : StreamTable) (items : List Stream) (i : ℕ) → items ≡ listed t → i < length items → Sound t.gap (get_or items i blank) × (i < 64)
item_sound t items i e l =
    let n : i < t.count = omega (arith, ap length e, length-take t.count t.streams) in
    let same : get_or items i blank ≡ get_or t.streams i blank = ap (λ (ss : List Stream). get_or ss i blank) e ∙ get_or-take t.count t.streams i blank n in
    (rw same (t.sound i n), omega (arith, t.few))

below_top : (t : StreamTable) (shift : ℕ) → shift ≤ t.gap → AllByRecursion (λ s. s.high + shift ≤ 1000) (listed t)
below_top t shift l =
    All-from_get_or (λ s. s.high + shift ≤ 1000) (listed t) blank
    (λ i h. let item = item_sound t (listed t) i refl h in omega arith)

-- what is exact in each degree keeps the other promises
pub loaded : (t : StreamTable) (l : Loads) → LoadsOf t.gap (listed t) l → Loaded t l
loaded t l exact =
    record {
      exact = exact;
      supply_whole = sum_ext 1000 (supply_in l) (load Hot 0 (listed t)) exact.supply_is ∙ load_whole Hot 0 (listed t) 1000 (below_top t 0 (omega arith));
      demand_whole = sum_ext 1000 (demand_in l) (load Cold t.gap (listed t)) exact.demand_is ∙ load_whole Cold t.gap (listed t) 1000 (below_top t t.gap (omega arith));
      any_order = λ ss sh.
          record {
            supply_is = λ d h. exact.supply_is d h ∙ load_shuffled Hot 0 (listed t) ss d sh;
            demand_is = λ d h. exact.demand_is d h ∙ load_shuffled Cold t.gap (listed t) ss d sh;
          };
      any_cut = λ ss c.
          record {
            supply_is = λ d h. exact.supply_is d h ∙ load_cut Hot 0 (listed t) ss d c;
            demand_is = λ d h. exact.demand_is d h ∙ load_cut Cold t.gap (listed t) ss d c;
          };
    }
