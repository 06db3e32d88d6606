-- Of the code's shape: what a step comes to for one record and its word, and how a record fits those before it, each as one answer. Assumes
-- nothing.
use Rattle.std.specs.Prelude.{pos, Bool, true, false, not, ◌&&◌, ℕ}
use Rattle.std.specs.Int.Signed.{le_z}
use Rattle.constraint.specs.Lists.{all_known}
use Rattle.constraint.specs.Meaning.{between, change, moved, counter_range, fits, in_range, holds, next_word, well_formed, defined_of, used_of}
use Rattle.constraint.specs.Million.{within_million, in_million}
use Rattle.constraint.specs.Ticks.{Ticks, any, bits, with_ticks}
use Rattle.constraint.specs.declared.Clocks.{Clocks}
use Rattle.constraint.specs.declared.Constraint.{Constraint}
use Rattle.constraint.specs.declared.Counter.{Counter}
use Rattle.constraint.specs.declared.Fitted.{Fitted}
use Rattle.constraint.specs.declared.Seen.{Seen}
use Rattle.constraint.specs.declared.Seen.TheVariants.{Out, Fails, Leaves, Moves}
use Rattle.constraint.specs.declared.Word.{Word}

-- by whether the word is in range, the record holds, and the word v after the step is within its million
abbrev pub seen : (inside holds stays : Bool) → (v : Word) → Seen
seen false h s v = Out
seen true false s v = Fails
seen true true false v = Leaves v
seen true true true v = Moves v

-- of a record
abbrev pub looked : Constraint → Word → Ticks → Seen
looked r w F = seen (in_range r w) (holds r w F) (in_million r (next_word r w F)) (next_word r w F)

-- of a counter, by whether the record holds and a and b tick
abbrev pub weighed : Counter → (holds a b : Bool) → Word → Seen
weighed c h a b w = seen (fits (counter_range c) w) h (within_million c (moved (change c w a b) w)) (moved (change c w a b) w)

-- limit 59 of a record among so many clocks, but for the number of records and for what it uses; earlier has the clocks that those before it define
abbrev pub fitted_among : (clocks earlier : ℕ) → Constraint → Fitted
fitted_among clocks earlier r = record { fits = well_formed clocks r && not (any (bits earlier) (defined_of r)); defined = with_ticks earlier (defined_of r) }

-- the same, and that it uses only named clocks and those defined above it
abbrev pub fitted : Clocks → (earlier : ℕ) → Constraint → Fitted
fitted clocks earlier r =
    record {
      fits = well_formed clocks.count r && (not (any (bits earlier) (defined_of r)) && all_known clocks.named (bits earlier) (used_of r));
      defined = with_ticks earlier (defined_of r);
    }

-- both words of a delay
abbrev pub delay_words : Word → Bool
delay_words w = between (pos 0) (pos 4_294_967_295) w.first && le_z (pos 0) w.second
