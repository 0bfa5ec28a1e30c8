use Rattle.std.proofs.Common.{◌≡◌, ℕ, List, [], ◌∷◌, length, ◌∙◌, arith}
use Rattle.std.specs.Int.{w64, from_le_bytes}
use Rattle.trace_format.specs.Decoding.{unsigned_from}
use Rattle.trace_format.proofs.payload.decode_unsigned.Goals as goal

-- eight bytes write the same number, read at once or from the lowest on
of_eight : (bytes : List ℕ) → length bytes ≡ 8 → from_le_bytes w64 bytes ≡ unsigned_from bytes
of_eight [] l = absurd (omega arith)
of_eight (a ∷ []) l = absurd (omega arith)
of_eight (a ∷ b ∷ []) l = absurd (omega arith)
of_eight (a ∷ b ∷ c ∷ []) l = absurd (omega arith)
of_eight (a ∷ b ∷ c ∷ d ∷ []) l = absurd (omega arith)
of_eight (a ∷ b ∷ c ∷ d ∷ e ∷ []) l = absurd (omega arith)
of_eight (a ∷ b ∷ c ∷ d ∷ e ∷ f ∷ []) l = absurd (omega arith)
of_eight (a ∷ b ∷ c ∷ d ∷ e ∷ f ∷ g ∷ []) l = absurd (omega arith)
of_eight (a ∷ b ∷ c ∷ d ∷ e ∷ f ∷ g ∷ h ∷ []) l = omega arith
of_eight (a ∷ b ∷ c ∷ d ∷ e ∷ f ∷ g ∷ h ∷ x ∷ bytes) l = absurd (omega arith)

pub returns-in-len8-clause-value : goal.returns-in-len8-clause-value
returns-in-len8-clause-value c = c.from_le_bytes.ensures ∙ of_eight c.args.bytes.now (omega (arith, c.in-len8.len_at_least, c.in-len8.len_below))
