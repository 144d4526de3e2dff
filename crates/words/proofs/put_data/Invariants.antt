-- What is still to be put, put from here on, makes the whole. Assumes nothing.
use Rattle.std.proofs.Common.{drop}
use Rattle.meaning.specs.DataBytes.{data_bytes}
use Rattle.leaves.proofs.Putting.{Left}
use Rattle.words.proofs.put_data.Given as goal

abbrev pub invariant-loop-x : goal.invariant-loop-x
invariant-loop-x l = Left (data_bytes l.list) l.initial.to.byte l.initial.out (data_bytes (drop l.x-index l.list)) l.out l.to.byte
