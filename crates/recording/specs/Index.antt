-- Of the code's shape: variables as code holds them, their ids as numbers, with an index of buckets where the search for an id begins.
-- Assumes nothing.
use Rattle.std.specs.Prelude.{◌≡◌, true, List, [], ◌∷◌, ◌++◌, ℕ, zero, suc, ◌+◌, ◌-◌, ◌*◌, ◌/◌, ◌%◌, ◌≤◌, ◌<◌, ltb, min, map, replicate, length, get_or, set}
use Rattle.text.specs.Bytes.{all_bytes}
use Rattle.recording.specs.Variables.{Variable}
use Rattle.recording.specs.declared.variables.Variables.TheInside.{Inside}

-- an id is kept as a number: each of its bytes is a digit to the base 256, from 1 to 256, the first being the lowest
unfoldable pub code_of : List ℕ → ℕ
code_of [] = 0
code_of (b ∷ bs) = b + 1 + 256 * code_of bs

-- its digit at the front of what is left of an id, 0 where nothing is
abbrev pub digit_of : List ℕ → ℕ
digit_of [] = 0
digit_of (b ∷ bs) = b + 1

abbrev pub Bytes : List ℕ → Type 0
Bytes w = all_bytes (λ b. ltb b 256) w ≡ true

-- the id of a number, as far as n bytes; five are enough to tell it from every id of up to 4
unfoldable pub bytes_of_code : (n : ℕ) → ℕ → List ℕ
bytes_of_code zero c = []
bytes_of_code (suc n) zero = []
bytes_of_code (suc n) (suc c) = c % 256 ∷ bytes_of_code n (c / 256)

unfoldable pub variables_of : (count : ℕ) → (ids clocks : List ℕ) → List Variable
variables_of zero cs ks = []
variables_of (suc n) [] ks = []
variables_of (suc n) (c ∷ cs) [] = []
variables_of (suc n) (c ∷ cs) (k ∷ ks) = record { id = bytes_of_code 5 c; clock = k } ∷ variables_of n cs ks

abbrev pub declared : Inside → List Variable
declared v = variables_of v.count v.ids v.clocks

-- ---- where a search begins

-- ids are parted into 241 buckets, a prime near 256, so that every byte of an id counts
abbrev pub bucket_of : (code : ℕ) → ℕ
bucket_of c = c % 241

-- no variable stands before the start of its bucket
abbrev pub Starts : (count : ℕ) → (ids starts : List ℕ) → Type 0
Starts n cs ss = (j : ℕ) → j < n → get_or ss (bucket_of (get_or cs j 0)) 0 ≤ j

-- ---- the fields that a list of variables gives

-- a variable with a number starts its bucket, unless one before it does
abbrev pub starting : (starts : List ℕ) → (i : ℕ) → Variable → List ℕ
starting ss i v = set ss (bucket_of (code_of v.id)) (min (get_or ss (bucket_of (code_of v.id)) 0) i)

-- the starts with the variables from number i on
unfoldable pub starts_with : (starts : List ℕ) → (i : ℕ) → List Variable → List ℕ
starts_with ss i [] = ss
starts_with ss i (v ∷ vs) = starts_with (starting ss i v) (suc i) vs

-- behind the last variable ids and clocks are 0; a bucket without one starts behind all that may come
unfoldable pub fields : List Variable → Inside
fields vs = record {
  ids = map (λ v. code_of v.id) vs ++ replicate (128 - length vs) 0;
  clocks = map (λ v. v.clock) vs ++ replicate (128 - length vs) 0;
  count = length vs;
  starts = starts_with (replicate 241 128) 0 vs;
}

-- of the variables in code, which are no others than their list gives
pub record Indexed (v : Inside) : Type 0 where
  pub few : v.count ≤ 128
  pub counted : length (declared v) ≡ v.count
  pub begins : Starts v.count v.ids v.starts
  pub given : fields (declared v) ≡ v

pub fields_back : (v : Inside) → Indexed v → fields (declared v) ≡ v
fields_back v h = h.given
