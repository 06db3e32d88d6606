-- What was found so far, or is found in the bytes that are left with as many standing open, is what is found in all; and no more stand open than
-- bytes were read. Assumes nothing.
use Rattle.std.proofs.Common.{◌≡◌, ◌≤◌, ◌||◌, drop}
use Rattle.forms.specs.Lines.{too_deep, unpaired}
use Rattle.table.proofs.reader.parentheses.Given as goal

abbrev pub invariant-loop-byte : goal.invariant-loop-byte
invariant-loop-byte l = record {
  few : l.many ≤ l.byte-index;
  deep : (l.deep || too_deep l.many (drop l.byte-index l.bytes)) ≡ too_deep 0 l.bytes;
  alone : (l.alone || unpaired l.many (drop l.byte-index l.bytes)) ≡ unpaired 0 l.bytes;
}
