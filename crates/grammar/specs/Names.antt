-- The names of a table's clocks: "Clocks are numbered from 0 at first appearance" (document 01, "Table text"). Assumes nothing.
use Rattle.std.specs.Prelude.{true, cond, List, [], ◌∷◌, ◌++◌, ℕ, ◌+◌, leb, length, Option, Some, None}
use Rattle.text.specs.Bytes.{same_bytes}
use Rattle.text.specs.Split.{bytes_of}
use Rattle.text.specs.declared.Span.{Span}
use Rattle.grammar.specs.Tokens.{is, token_of}
use Rattle.grammar.specs.declared.Names.{Names}
use Rattle.grammar.specs.declared.Token.TheVariants.{Name}

-- where a name stands among these spans of the text t, the first of which has the number i
unfoldable pub position : List ℕ → List ℕ → ℕ → List Span → Option ℕ
position t w i [] = None
position t w i (p ∷ ps) = cond (same_bytes (bytes_of t p) w) (Some i) (position t w (i + 1) ps)

-- the number of the clock with a name
abbrev pub number_in : List ℕ → Names → List ℕ → Option ℕ
number_in t ns w = position t w 0 ns.spans

-- the names with one more: there is room for 32
abbrev pub with_new : Names → Span → Names
with_new ns p =
    cond (leb 32 (length ns.spans))
    (record { spans = ns.spans; over = true })
    (record { spans = ns.spans ++ p ∷ []; over = ns.over })

unfoldable pub unless_found : Option ℕ → Names → Span → Names
unless_found (Some k) ns p = ns
unless_found None ns p = with_new ns p

-- the names with that of a word, if it is a name, and a new one
abbrev pub with_word : List ℕ → Names → Span → Names
with_word t ns p = cond (is Name (token_of (bytes_of t p))) (unless_found (number_in t ns (bytes_of t p)) ns p) ns

-- in the order in which the words stand
unfoldable pub with_words : List ℕ → Names → List Span → Names
with_words t ns [] = ns
with_words t ns (p ∷ ps) = with_words t (with_word t ns p) ps
