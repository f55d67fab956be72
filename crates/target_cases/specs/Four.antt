-- Four streams, and what has to be bought for them.
use Rattle.std.specs.Prelude.{◌≡◌, ℕ, ◌+◌, List, [], ◌∷◌, Option}
use Rattle.streams.specs.declared.model.Kind.TheVariants.{Hot, Cold}
use Rattle.streams.specs.declared.model.Stream.{Stream}
use Rattle.streams.specs.Heat.{sum_below, supply_of, demand_of}
use Rattle.targets.specs.Deficits.{deficit, target, Lowest}

-- hot from 180 to 60 with 3 and from 150 to 30 with 1, cold from 20 to 135 with 2 and from 80 to 140 with 4
unfoldable pub four : List Stream
four =
    record { kind = Hot; low = 60; high = 180; rate = 3 }
    ∷ record { kind = Hot; low = 30; high = 150; rate = 1 }
    ∷ record { kind = Cold; low = 20; high = 135; rate = 2 }
    ∷ record { kind = Cold; low = 80; high = 140; rate = 4 }
    ∷ []

-- with this gap so much has to be bought, so much goes to the river, and this is the pinch
pub record Row (gap heating cooling : ℕ) (pinch : Option ℕ) : Type 0 where
  pub heating_is : target 1000 (supply_of four) (demand_of gap four) ≡ heating
  pub cooling_is : sum_below 1000 (supply_of four) + heating ≡ sum_below 1000 (demand_of gap four) + cooling
  pub pinch_is : Lowest 1000 (deficit 1000 (supply_of four) (demand_of gap four)) heating pinch
