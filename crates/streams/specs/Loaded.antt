-- What the loads of a checked table are.
use Rattle.std.specs.Prelude.{◌≡◌, ℕ, ◌+◌, ◌-◌, ◌*◌, ◌<◌, ◌≤◌, cond, List, [], ◌∷◌, ◌++◌, slice_index}
use Rattle.std.specs.List.Sorted.{IsPermutation}
use Rattle.streams.specs.declared.model.Kind.{Kind}
use Rattle.streams.specs.declared.model.Kind.TheVariants.{Hot, Cold}
use Rattle.streams.specs.declared.model.Stream.{Stream}
use Rattle.streams.specs.declared.table.StreamTable.{StreamTable}
use Rattle.streams.specs.declared.loads.Loads.{Loads}
use Rattle.streams.specs.Heat.{is, supply_of, demand_of, sum_below}
use Rattle.streams.specs.Checked.{listed}

-- supply and demand as functions of the degree
abbrev pub supply_in : Loads → ℕ → ℕ
supply_in l d = slice_index l.supply d

abbrev pub demand_in : Loads → ℕ → ℕ
demand_in l d = slice_index l.demand d

-- each degree has what these streams give and take there
pub record LoadsOf (gap : ℕ) (ss : List Stream) (l : Loads) : Type 0 where
  pub supply_is : (d : ℕ) → d < 1000 → supply_in l d ≡ supply_of ss d
  pub demand_is : (d : ℕ) → d < 1000 → demand_in l d ≡ demand_of gap ss d

-- the whole heat of the streams of one kind: of each its rate times the degrees between its two temperatures
abbrev pub whole : Kind → List Stream → ℕ
whole k [] = 0
whole k (s ∷ ss) = cond (is s.kind k) (s.rate * (s.high - s.low)) 0 + whole k ss

-- the two parts of a stream that is cut at a degree
abbrev pub lower_part : Stream → ℕ → Stream
lower_part s m = record { kind = s.kind; low = s.low; high = m; rate = s.rate }

abbrev pub upper_part : Stream → ℕ → Stream
upper_part s m = record { kind = s.kind; low = m; high = s.high; rate = s.rate }

-- ts are the streams ss, of which one, anywhere, is cut in two at a degree from its low to its high
pub record Cut (ss ts : List Stream) : Type 0 where
  pub before : List Stream
  pub one : Stream
  pub after : List Stream
  pub degree : ℕ
  pub from_low : one.low ≤ degree
  pub to_high : degree ≤ one.high
  pub uncut : ss ≡ before ++ one ∷ after
  pub in_two : ts ≡ before ++ lower_part one degree ∷ upper_part one degree ∷ after

-- the loads of a table: exact in each degree; nothing is lost at the top; the same in any other order, and if a stream is cut in two
pub record Loaded (t : StreamTable) (l : Loads) : Type 0 where
  pub exact : LoadsOf t.gap (listed t) l
  pub supply_whole : sum_below 1000 (supply_in l) ≡ whole Hot (listed t)
  pub demand_whole : sum_below 1000 (demand_in l) ≡ whole Cold (listed t)
  pub any_order : (ss : List Stream) → IsPermutation (listed t) ss → LoadsOf t.gap ss l
  pub any_cut : (ss : List Stream) → Cut (listed t) ss → LoadsOf t.gap ss l
