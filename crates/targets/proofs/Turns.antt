-- Loads gone through from the warmest degree, both sides together, and the way down that goes with them.
use Rattle.std.proofs.Common.{◌≡◌, ℕ, suc, ◌+◌, ◌-◌, ◌<◌, ◌≤◌, max, List, [], ◌∷◌, ◌++◌, length, take, None, sym, refl, ap, ◌∙◌, inl, inr, arith}
use Rattle.std.proofs.lemmas.Bool.{cases_lt, le-leb, lt-leb}
use Rattle.std.proofs.lemmas.List.{take_all}
use Rattle.streams.specs.declared.loads.Loads.{Loads}
use Rattle.streams.specs.Loaded.{supply_in, demand_in}
use Rattle.streams.proofs.Backward.{Left, one_less}
use Rattle.targets.specs.declared.cascade.Descent.{Descent}
use Rattle.targets.specs.Cascade.{lowered}
use Rattle.targets.proofs.Down.{Down, starts, goes_on, meets_more}

-- loads gone through from the warmest degree: hs and cs are left of the two sides
pub record Turn (loads : Loads) (hs cs : List ℕ) (s : Descent) : Type 0 where
  pub down : Down 1000 (supply_in loads) (demand_in loads) (length hs) s.supply s.demand s.most s.pinch
  pub first : hs ≡ take (length hs) loads.supply
  pub second : cs ≡ take (length hs) loads.demand
  pub within : length hs ≤ 1000
  pub even : length cs ≡ length hs

pub turn_none : (loads : Loads) → length loads.supply ≡ 1000 → length loads.demand ≡ 1000 → Turn loads loads.supply loads.demand (record { supply = 0; demand = 0; most = 0; pinch = None })
turn_none loads lx ly =
    record {
      down = rw lx (starts 1000 (supply_in loads) (demand_in loads));
      first = sym (take_all (length loads.supply) loads.supply (omega arith));
      second = sym (take_all (length loads.supply) loads.demand (omega arith));
      within = omega arith;
      even = ly ∙ sym lx;
    }

-- one degree lower
module _ {loads : Loads} {hs cs : List ℕ} (hs₁ cs₁ : List ℕ) (x y : ℕ) {s : Descent} (eh : hs ≡ hs₁ ++ x ∷ []) (ec : cs ≡ cs₁ ++ y ∷ []) (t : Turn loads hs cs s) where
  abbrev degree : ℕ
  degree = length hs₁

  give_left : Left loads.supply hs hs₁ x
  give_left = one_less loads.supply hs hs₁ x t.first eh

  take_left : Left loads.demand cs cs₁ y
  take_left = one_less loads.demand cs cs₁ y (t.second ∙ ap (λ n. take n loads.demand) (sym t.even)) ec

  pub even_left : length cs₁ ≡ degree
  even_left = omega (arith, give_left.long, take_left.long, t.even)

  inside : degree < 1000
  inside = omega (arith, t.within, give_left.long)

  taken : y ≡ demand_in loads degree
  taken = rw even_left at take_left.last

  above : Down 1000 (supply_in loads) (demand_in loads) (suc degree) s.supply s.demand s.most s.pinch
  above = rw give_left.long at t.down

  pub fits : (s.supply + x ≤ 64000000000) × (s.demand + y ≤ 64000000000)
  fits = (
    omega (arith, give_left.last, loads.supply_few degree inside, inside, above.supply_bounded),
    omega (arith, taken, loads.demand_few degree inside, inside, above.demand_bounded),
  )

  lower_down : let r : Descent = lowered s degree (supply_in loads degree) (demand_in loads degree) in Down 1000 (supply_in loads) (demand_in loads) degree r.supply r.demand r.most r.pinch
  lower_down =
      let lacking : ℕ = (s.demand + demand_in loads degree) - (s.supply + supply_in loads degree) in
      let few_h = loads.supply_few degree inside in
      let few_c = loads.demand_few degree inside in
      elim (cases_lt lacking (max s.most 1)) [
        | inl l ↦ rw (lt-leb (max s.most 1) lacking l) (goes_on 1000 (supply_in loads) (demand_in loads) degree s.supply s.demand s.most s.pinch inside few_h few_c above l)
        | inr l ↦ rw (le-leb (max s.most 1) lacking l) (meets_more 1000 (supply_in loads) (demand_in loads) degree s.supply s.demand s.most s.pinch inside few_h few_c above lacking refl l)
      ]

  pub turn_more : (d : ℕ) (r : Descent) → d ≡ degree → r ≡ lowered s d x y → Turn loads hs₁ cs₁ r
  turn_more d r same e =
      record {
        down = rw (e, same, give_left.last, taken) lower_down;
        first = give_left.front;
        second = rw even_left at take_left.front;
        within = omega (arith, inside);
        even = even_left;
      }

-- the way down has come to the bottom
pub turn_all : (loads : Loads) (hs cs : List ℕ) (s : Descent) → length hs ≤ 0 → Turn loads hs cs s → Down 1000 (supply_in loads) (demand_in loads) 0 s.supply s.demand s.most s.pinch
turn_all loads hs cs s z t = let e : length hs ≡ 0 = omega arith in rw e at t.down
