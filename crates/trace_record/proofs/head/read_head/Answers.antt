use Rattle.std.proofs.Common.{rules, ◌≡◌, ap, sym, ◌∙◌}
use Rattle.std.specs.Int.{w16, w32, w64, cast_signed, cast_unsigned}
use Rattle.std.proofs.lemmas.Bool.{lt-ltb, le-ltb}
use Rattle.std.proofs.lemmas.Int.{to_z-of_z}
use Rattle.trace_record.specs.Record.{head_of, number_at}
use Rattle.trace_record.proofs.HeadBytes.{two_at, four_at}
use Rattle.trace_record.proofs.head.read_head.Goals as goal

pub returns-then-bytes-lt-HEAD_SIZE : goal.returns-then-bytes-lt-HEAD_SIZE
unfolding head_of
returns-then-bytes-lt-HEAD_SIZE c = rw (lt-ltb _ _ c.if-bytes-lt-HEAD_SIZE.true)

pub returns : goal.returns
unfolding head_of
returns c =
    let bytes = c.args.bytes.now in
    let ts : c.from_le_bytes.result ≡ number_at w64 0 bytes = c.from_le_bytes.ensures in
    let fits : cast_signed w32 (cast_unsigned w32 c.from_le_bytes-2.result) ≡ c.from_le_bytes-2.result = to_z-of_z w32 c.from_le_bytes-2.result (search rules) in
    let pid : c.from_le_bytes-2.result ≡ cast_signed w32 (number_at w32 8 bytes) =
    c.from_le_bytes-2.ensures ∙ ap (cast_signed w32) (sym (four_at 8 bytes)) in
    let event : c.from_le_bytes-3.result ≡ number_at w16 12 bytes = c.from_le_bytes-3.ensures ∙ sym (two_at 12 bytes) in
    let payload : c.from_le_bytes-4.result ≡ number_at w16 14 bytes = c.from_le_bytes-4.ensures ∙ sym (two_at 14 bytes) in
    rw (le-ltb _ _ c.if-bytes-lt-HEAD_SIZE.false) (cc)
