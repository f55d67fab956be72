-- From a plan that is laid out to what is promised of it.
use Rattle.std.proofs.Common.{◌≡◌, ℕ, ◌<◌, List, ◌∙◌, arith}
use Rattle.streams.specs.declared.loads.Loads.{Loads}
use Rattle.streams.specs.declared.model.Stream.{Stream}
use Rattle.streams.specs.Heat.{supply_of, demand_of}
use Rattle.streams.specs.Loaded.{supply_in, demand_in, LoadsOf}
use Rattle.targets.specs.declared.Targets.{Targets}
use Rattle.targets.specs.Found.{FoundFor}
use Rattle.targets.specs.Plans.{Plan, Feasible}
use Rattle.plans.specs.Transfers.{plan_of}
use Rattle.plans.specs.Promise.{LaidOut, CheapestPlan}

-- whether a plan is feasible depends on the degrees below the top alone
feasible_like : (h c h₁ c₁ : ℕ → ℕ) (p : Plan) → ((d : ℕ) → d < 1000 → h d ≡ h₁ d) → ((d : ℕ) → d < 1000 → c d ≡ c₁ d) → Feasible 1000 h c p → Feasible 1000 h₁ c₁ p
feasible_like h c h₁ c₁ p eh ec f = record { gives = λ d l. f.gives d l ∙ eh d l; gets = λ e l. f.gets e l ∙ ec e l; down = f.down }

laid_out_for : (gap : ℕ) (ss : List Stream) (l : Loads) (heating n : ℕ) (room room₁ : List ℕ) → LoadsOf gap ss l →
    LaidOut (supply_in l) (demand_in l) heating n room room₁ → LaidOut (supply_of ss) (demand_of gap ss) heating n room room₁
laid_out_for gap ss l heating n room room₁ e p =
    record {
      transfers = p.transfers;
      count = p.count;
      fits = p.fits;
      room_is = p.room_is;
      ordered = p.ordered;
      feasible = feasible_like (supply_in l) (demand_in l) (supply_of ss) (demand_of gap ss) (plan_of p.transfers) e.supply_is e.demand_is p.feasible;
      buys = p.buys;
    }

pub cheapest_plan : (gap : ℕ) (ss : List Stream) (l : Loads) (t : Targets) (n : ℕ) (room room₁ : List ℕ) → LoadsOf gap ss l → FoundFor gap ss t →
    LaidOut (supply_in l) (demand_in l) t.heating n room room₁ → CheapestPlan (supply_of ss) (demand_of gap ss) t.heating n room room₁
cheapest_plan gap ss l t n room room₁ e f p =
    let q : LaidOut (supply_of ss) (demand_of gap ss) t.heating n room room₁ = laid_out_for gap ss l t.heating n room room₁ e p in
    record {
      laid_out = q;
      none_buys_less = f.least.cheapest.no_less;
      none_wastes_less = λ r g. f.accounted.no_more (plan_of q.transfers) r q.feasible g (omega (arith, q.buys, f.least.cheapest.no_less r g));
    }
