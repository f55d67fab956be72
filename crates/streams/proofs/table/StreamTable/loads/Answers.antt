use Rattle.std.proofs.Common.{ℕ, List, ap, ◌∙◌, arith}
use Rattle.std.proofs.lemmas.List.{get_or-replicate}
use Rattle.streams.specs.declared.model.Kind.TheVariants.{Hot, Cold}
use Rattle.streams.specs.declared.model.Stream.{Stream}
use Rattle.streams.specs.Heat.{load}
use Rattle.streams.proofs.Loading.{summed_none, summed_more, summed_past, summed_all, item_sound, loaded}
use Rattle.streams.proofs.table.StreamTable.loads.Goals as goal
use Rattle.streams.proofs.table.StreamTable.loads.Goals.{in-Hot, in-Cold}

pub loop-s-init : goal.loop-s-init
loop-s-init c = (summed_none _ _ _ _ (λ d l. get_or-replicate {A = ℕ} 1000 d 0 0 l), summed_none _ _ _ _ (λ d l. get_or-replicate {A = ℕ} 1000 d 0 0 l))

pub loop-s-preserved : goal.loop-s-preserved
loop-s-preserved c =
    let item = item_sound c.args.self.now _ _ c.streams-s-items.ensures c.loop-s-test.true in
    elim c.match-s.branch [
      | in-Hot w ↦
          rw (w.supply-is, w.demand-is) (
            summed_more Hot 0 _ _ _ _ c.loop-s-test.true w.in-Hot.is item.0.3 w.add_stream.ensures c.loop-s.invariant.0,
            summed_past Cold _ _ _ _ c.loop-s-test.true (λ e. cc) c.loop-s.invariant.1,
          )
      | in-Cold w ↦
          rw (w.supply-is, w.demand-is) (
            summed_past Hot _ _ _ _ c.loop-s-test.true (λ e. cc) c.loop-s.invariant.0,
            summed_more Cold _ _ _ _ _ c.loop-s-test.true w.in-Cold.is item.0.3 w.add_stream-in-Cold.ensures c.loop-s.invariant.1,
          )
    ]

pub returns : goal.returns
returns c =
    loaded c.args.self.now _ (
    record {
      supply_is = λ d l. summed_all Hot 0 _ _ _ (omega arith) c.loop-s.invariant.0 d l ∙ ap (λ (ss : List Stream). load Hot 0 ss d) c.streams-s-items.ensures;
      demand_is = λ d l. summed_all Cold _ _ _ _ (omega arith) c.loop-s.invariant.1 d l ∙ ap (λ (ss : List Stream). load Cold c.args.self.now.gap ss d) c.streams-s-items.ensures;
    }
    )
