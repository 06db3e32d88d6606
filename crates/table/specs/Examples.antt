-- Tables of one line, as they are read: a relation; no form; a clock twice. Longer ones are run by `table_cases`. Assumes nothing.
use Rattle.std.specs.Prelude.{◌≡◌, refl}
use Rattle.limit.specs.Checked.{and_then}
use Rattle.text.specs.Ascii.{ascii}
use Rattle.text.specs.Bytes.{all_bytes, same_bytes}
use Rattle.text.specs.Digits.{read_decimal, value}
use Rattle.text.specs.Split.{pieces, grown, tokens, filled, front, rest}
use Rattle.grammar.specs.Grammar as g
use Rattle.forms.specs.Lines.{too_deep, unpaired}
use Rattle.grammar.specs.Names.{position, unless_found, with_words}
use Rattle.grammar.specs.Tokens.{look_up, shape_of}
use Rattle.table.specs.Reader.{any_word, add_line, form_step, read, refused, read_lines, read_table}

one_line : (read_table (ascii "a = b")).said ≡ read
unfolding read_table read_lines too_deep unpaired add_line form_step any_word and_then g.and_then g.only_if g.name g.inner g.operand g.kind_at g.tail g.second g.pair g.await_side g.expression g.at_end g.line_form pieces grown tokens filled front rest all_bytes same_bytes look_up shape_of position unless_found with_words read_decimal value
one_line = refl

fits_no_form : (read_table (ascii "a lub b")).said ≡ refused 12 1
unfolding read_table read_lines too_deep unpaired add_line form_step any_word and_then g.and_then g.only_if g.name g.inner g.operand g.kind_at g.tail g.second g.pair g.await_side g.expression g.at_end g.line_form pieces grown tokens filled front rest all_bytes same_bytes look_up shape_of position unless_found with_words read_decimal value
fits_no_form = refl

clock_twice : (read_table (ascii "a = a")).said ≡ refused 15 1
unfolding read_table read_lines too_deep unpaired add_line form_step any_word and_then g.and_then g.only_if g.name g.inner g.operand g.kind_at g.tail g.second g.pair g.await_side g.expression g.at_end g.line_form pieces grown tokens filled front rest all_bytes same_bytes look_up shape_of position unless_found with_words read_decimal value
clock_twice = refl
