-- The lengths of the numbers so far. Assumes nothing.
use Rattle.std.proofs.Common.{◌≡◌, ◌≤◌, ◌*◌, length, take}
use Rattle.meaning.specs.DataBytes.{data_bytes}
use Rattle.words.proofs.data_length.Given as goal

abbrev pub invariant-loop-x : goal.invariant-loop-x
invariant-loop-x l = (l.size ≡ length (data_bytes (take l.x-index l.list))) × (l.size ≤ 4 * l.x-index)
