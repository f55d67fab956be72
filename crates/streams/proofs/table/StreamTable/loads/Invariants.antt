use Rattle.streams.specs.declared.model.Kind.TheVariants.{Hot, Cold}
use Rattle.streams.proofs.Loading.{Summed}
use Rattle.streams.proofs.table.StreamTable.loads.Given as goal

abbrev pub invariant-loop-s : goal.invariant-loop-s
invariant-loop-s l = Summed Hot 0 l.s-items l.s-index l.supply × Summed Cold l.self.gap l.s-items l.s-index l.demand
