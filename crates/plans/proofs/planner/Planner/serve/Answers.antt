use Rattle.std.proofs.Common.{arith}
use Rattle.streams.specs.Loaded.{supply_in, demand_in}
use Rattle.plans.proofs.Serving.{starts, fits, cold_few, next_from, next_to, ends}
use Rattle.plans.proofs.planner.Planner.serve.Goals as goal

pub loop-cold-init : goal.loop-cold-init
loop-cold-init c = starts (supply_in c.args.self.now.loads.now) (demand_in c.args.self.now.loads.now) _ _ c.args.self.now.least c.requires

pub overflow_cast-heat : goal.overflow_cast-heat
overflow_cast-heat c =
    omega (arith, c.min-heat.ensures, cold_few _ (demand_in c.args.self.now.loads.now) _ c.loop-cold.invariant, c.args.self.now.loads.now.demand_few c.loop-cold.to (omega (arith, c.loop-cold.invariant.to_top)))

pub add-requires : goal.add-requires
add-requires c = fits _ _ _ c.args.self.now.least c.requires c.loop-cold.invariant

pub overflow_sub-from : goal.overflow_sub-from
overflow_sub-from c =
    omega (arith, (next_from _ _ _ c.mark_of.ensures c.min-heat.ensures c.add.ensures c.loop-cold.invariant c.args.self.now.least c.if-cold-gt0.true).0)

pub loop-cold-smaller-then-cold-gt0 : goal.loop-cold-smaller-then-cold-gt0
loop-cold-smaller-then-cold-gt0 c =
    omega (arith, (next_from _ _ _ c.mark_of.ensures c.min-heat.ensures c.add.ensures c.loop-cold.invariant c.args.self.now.least c.if-cold-gt0.true).0)

pub loop-cold-preserved-then-cold-gt0 : goal.loop-cold-preserved-then-cold-gt0
loop-cold-preserved-then-cold-gt0 c =
    (next_from _ _ _ c.mark_of.ensures c.min-heat.ensures c.add.ensures c.loop-cold.invariant c.args.self.now.least c.if-cold-gt0.true).1

pub loop-cold-preserved : goal.loop-cold-preserved
loop-cold-preserved c = next_to _ _ _ c.mark_of.ensures c.min-heat.ensures c.add.ensures c.loop-cold.invariant c.if-to-gt0.true (omega arith)

pub returns-else-to-gt0 : goal.returns-else-to-gt0
returns-else-to-gt0 c = ends _ _ _ c.mark_of.ensures c.min-heat.ensures c.add.ensures c.loop-cold.invariant c.args.self.now.least (omega arith) (omega arith)
