-- The bytes that are left, added to what was made of those before, make the key. Assumes nothing.
use Rattle.std.proofs.Common.{◌≡◌, drop}
use Rattle.table.specs.Answers.{key_from, key_of}
use Rattle.table.proofs.keys.key_of.Given as goal

abbrev pub invariant-loop-byte : goal.invariant-loop-byte
invariant-loop-byte l = key_from l.sum (drop l.byte-index l.name) ≡ key_of l.name
