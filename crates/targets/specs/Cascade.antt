-- One step of the way down; an inner notion, which no public promise cites.
use Rattle.std.specs.Prelude.{ℕ, ◌+◌, ◌-◌, max, Bool, cond, Some, nat_le}
use Rattle.targets.specs.declared.cascade.Descent.{Descent}

-- something is lacking from here up, and as much as from any degree above, or more
abbrev pub lacks_most : Descent → ℕ → ℕ → Bool
lacks_most s give take = nat_le (max s.most 1) ((s.demand + take) - (s.supply + give))

abbrev pub lowered : Descent → (degree give take : ℕ) → Descent
lowered s degree give take =
    record {
      supply = s.supply + give;
      demand = s.demand + take;
      most = cond (lacks_most s give take) ((s.demand + take) - (s.supply + give)) s.most;
      pinch = cond (lacks_most s give take) (Some degree) s.pinch;
    }
