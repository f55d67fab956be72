use Rattle.std.proofs.Common.{◌≡◌, ◌++◌, take, string_bytes}
use Rattle.std.specs.List.{flat_map}
use Rattle.printing.proofs.Threes.{line_of}
use Rattle.printing.proofs.push_transfers.Given as goal

abbrev pub invariant-loop-from : goal.invariant-loop-from
invariant-loop-from l = string_bytes l.out ≡ string_bytes l.initial.out ++ flat_map line_of (take l.from-index l.threes)
