-- The header: document 01, "Recording" and the rows 30 to 37 of "Where each refusal is checked", with 38 of document 02, M-103. r is the
-- recording, g what its header is read by: the table's names, and the choice what becomes of others. Assumes nothing.
use Rattle.std.specs.Prelude.{◌≡◌, refl, Bool, true, not, cond, ◌&&◌, ◌||◌, List, [], ◌∷◌, ◌++◌, ℕ, leb, ltb, length}
use Prim.Native.String.{String}
use Rattle.limit.specs.declared.Limit.TheVariants.{RecordingLength, RecordingByte, HeaderCommand, VariableShape, DeclaredTwice, VariableUnknown, VariableCount, ClockUndeclared, HeaderCutOff}
use Rattle.text.specs.Ascii.{ascii}
use Rattle.text.specs.Bytes.{passes, same_bytes}
use Rattle.text.specs.Split.{bytes_of, words_at, run_end, tokens, filled, grown}
use Rattle.text.specs.declared.Class.TheVariants.{Parting, Recorded}
use Rattle.text.specs.declared.Span.{Span}
use Rattle.limit.specs.Checked.{Checked, passed, stopped, refuse_if, and_then}
use Rattle.recording.specs.Variables.{Variable, ignored, refuses_unknown, Naming, with_id, look_up, is_declared, clock_again, all_declared}
use Rattle.recording.specs.declared.Command.{Command}
use Rattle.recording.specs.declared.Command.TheVariants.{Skipped, Declaration, Definitions, Unknown}
use Rattle.recording.specs.declared.UnknownNames.{UnknownNames}
use Rattle.recording.specs.declared.UnknownNames.TheVariants.{Refused, Ignored}

-- words are parted by bytes 9, 10, 13, 32
abbrev pub words : List ℕ → ℕ → List Span
words r at = words_at Parting r at

abbrev pub says : List ℕ → String → Bool
says w s = same_bytes w (ascii s)

-- the commands that are skipped up to their `$end`
abbrev pub skips : List ℕ → Bool
skips w = says w "$date" || says w "$version" || says w "$comment" || says w "$timescale" || says w "$scope" || says w "$upscope"

abbrev pub command_of : List ℕ → Command
command_of w = cond (skips w) Skipped (cond (says w "$var") Declaration (cond (says w "$enddefinitions") Definitions Unknown))

-- `$var event 1 id name $end`, id 1 to 4 bytes
abbrev pub shaped : List ℕ → (kind width id last : Span) → Bool
shaped r kind width id last =
    says (bytes_of r kind) "event" && says (bytes_of r width) "1" && leb (length (bytes_of r id)) 4 && says (bytes_of r last) "$end"

-- a declaration by the command at an offset: 33 another shape; 34 id declared before, or a table clock declared again; 38 a name that the table
-- lacks, unless told to ignore it; 37 a 129th variable
unfoldable pub declare : Naming → List ℕ → (at : ℕ) → List Variable → (kind width id name last : Span) → Checked (List Variable)
declare g r at vs kind width id name last =
    refuse_if (not (shaped r kind width id last)) VariableShape at
    (refuse_if (is_declared (look_up vs (bytes_of r id)) || clock_again vs (g.named (bytes_of r name))) DeclaredTwice at
    (refuse_if (refuses_unknown g.unknown (g.named (bytes_of r name))) VariableUnknown at
    (refuse_if (leb 128 (length vs)) VariableCount at
    (passed (vs ++ record { id = bytes_of r id; clock = g.named (bytes_of r name) } ∷ [])))))

-- a header that was read: its variables, and the words of the body
pub record Header : Type 0 where
  pub variables : List Variable
  pub body : List Span

-- the recording ends before the header does
abbrev pub cut_off : List ℕ → Checked Header
cut_off r = stopped HeaderCutOff (length r)

-- behind `$enddefinitions` at an offset: 36; 32 another word than `$end`; 35 a table clock undeclared
unfoldable pub close : (n : ℕ) → List ℕ → (at : ℕ) → List Variable → List Span → Checked Header
close n r at vs [] = cut_off r
close n r at vs (w ∷ ws) =
    refuse_if (not (says (bytes_of r w) "$end")) HeaderCommand at
    (refuse_if (not (all_declared vs n)) ClockUndeclared at
    (passed (record { variables = vs; body = ws })))

abbrev pub by_command : {A : Type 0} → Command → (skipped declaration definitions unknown : A) → A
by_command Skipped s d e u = s
by_command Declaration s d e u = d
by_command Definitions s d e u = e
by_command Unknown s d e u = u

-- command by command: 36; 32 a word that opens no command
unfoldable mutual
  pub header : Naming → List ℕ → List Variable → List Span → Checked Header
  header g r vs [] = cut_off r
  header g r vs (w ∷ ws) =
      by_command (command_of (bytes_of r w))
      (skipping g r vs ws)
      (declaring g r vs w.start ws)
      (close g.count r w.start vs ws)
      (stopped HeaderCommand w.start)

  -- a skipped command ends at the first `$end`
  pub skipping : Naming → List ℕ → List Variable → List Span → Checked Header
  skipping g r vs [] = cut_off r
  skipping g r vs (w ∷ ws) = cond (says (bytes_of r w) "$end") (header g r vs ws) (skipping g r vs ws)

  -- a command whose words run out has 36 and no other refusal
  pub declaring : Naming → List ℕ → List Variable → (at : ℕ) → List Span → Checked Header
  declaring g r vs at [] = cut_off r
  declaring g r vs at (kind ∷ []) = cut_off r
  declaring g r vs at (kind ∷ width ∷ []) = cut_off r
  declaring g r vs at (kind ∷ width ∷ id ∷ []) = cut_off r
  declaring g r vs at (kind ∷ width ∷ id ∷ name ∷ []) = cut_off r
  declaring g r vs at (kind ∷ width ∷ id ∷ name ∷ last ∷ ws) =
      and_then (declare g r at vs kind width id name last) (λ us. header g r us ws)

-- the bytes that a recording may have
abbrev pub most_bytes : ℕ
most_bytes = 65_536

-- 30 over that many bytes; 31 byte that is neither a parting byte nor 33 to 126; then the header
abbrev pub first_other : List ℕ → ℕ
first_other r = run_end (passes Recorded true) 0 r

unfoldable pub opened : Naming → List ℕ → Checked Header
opened g r =
    refuse_if (ltb most_bytes (length r)) RecordingLength 0
    (refuse_if (ltb (first_other r) (length r)) RecordingByte (first_other r)
    (header g r [] (words r 0)))

-- ---- examples: a command is a whole word; a command whose words run out has 36 and the recording's length

a_command : command_of (ascii "$date") ≡ Skipped
unfolding same_bytes
a_command = refl

no_command : command_of (ascii "$end") ≡ Unknown
unfolding same_bytes
no_command = refl

-- a table without clocks
abbrev no_clock : UnknownNames → Naming
no_clock u = record { named = λ w. ignored; count = 0; unknown = u }

cut_off_lem : header (no_clock Refused) (ascii "$var 1") [] (words (ascii "$var 1") 0) ≡ stopped HeaderCutOff 6
unfolding header declaring same_bytes tokens filled grown
cut_off_lem = refl

-- a variable with a name that the table lacks, by the command at 30: it is refused there, or ignored; an id that was declared before comes first
abbrev at : (start end : ℕ) → Span
at i j = record { start = i; end = j }

abbrev lamp : UnknownNames → List Variable → Checked (List Variable)
lamp u vs = declare (no_clock u) (ascii "event 1 ! lamp $end") 30 vs (at 0 5) (at 6 7) (at 8 9) (at 10 14) (at 15 19)

unknown_refused_lem : lamp Refused [] ≡ stopped VariableUnknown 30
unfolding declare with_id same_bytes
unknown_refused_lem = refl

unknown_ignored_lem : lamp Ignored [] ≡ passed (record { id = ascii "!"; clock = ignored } ∷ [])
unfolding declare with_id same_bytes
unknown_ignored_lem = refl

id_before_name : lamp Refused (record { id = ascii "!"; clock = 0 } ∷ []) ≡ stopped DeclaredTwice 30
unfolding declare with_id same_bytes
id_before_name = refl
