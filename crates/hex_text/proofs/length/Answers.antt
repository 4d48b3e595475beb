-- `length` meets its contract: the tests of `read_hex` in its order; pairs say half as many bytes.
use mathlib.Core.Path.{sym, ◌∙◌}
use Rattle.hex_text.proofs.Reading.{length_bytes, read_dash, read_pairs, read_none}
use Rattle.hex_text.proofs.length.Goals as goal

pub returns-then-is_dash : goal.returns-then-is_dash
returns-then-is_dash c = rw (read_dash c.args.text.now (sym c.is_dash.ensures ∙ c.if-is_dash.true))

pub returns-then-is_hex : goal.returns-then-is_hex
returns-then-is_hex c = rw (read_pairs c.args.text.now (sym c.is_dash.ensures ∙ c.if-is_dash.false) (sym c.is_hex.ensures ∙ c.if-is_hex.true), length_bytes)

pub returns : goal.returns
returns c = rw (read_none c.args.text.now (sym c.is_dash.ensures ∙ c.if-is_dash.false) (sym c.is_hex.ensures ∙ c.if-is_hex.false))
