use Rattle.targets.proofs.Promises.{found_of}
use Rattle.targets.proofs.Targets.of_streams.Goals as goal

pub returns : goal.returns
returns c = found_of c.args.table.now _ _ c.loads.ensures c.of.ensures
