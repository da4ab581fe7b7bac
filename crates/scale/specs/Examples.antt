-- Examples of scaled values, most of them M2-115's (Tables 5 to 10), as one table.
use Rattle.std.specs.Prelude.{◌≡◌, List, [], ◌∷◌, map, ℕ}
use Rattle.ump.specs.Outcome.{Outcome, given, out_of_range}
use Rattle.scale.specs.Scale.{upscaled, downscaled, zero_upscaled, zero_downscaled}

-- a call: value, source bits, destination bits
pub data ScaleCall : Type 0 where
  upscale : ℕ → ℕ → ℕ → ScaleCall
  downscale : ℕ → ℕ → ℕ → ScaleCall
  zero_extend_upscale : ℕ → ℕ → ℕ → ScaleCall
  zero_extend_downscale : ℕ → ℕ → ℕ → ScaleCall

-- what the call answers, by the term that its contract cites
unfoldable pub scale_answer : ScaleCall → Outcome ℕ
scale_answer (upscale v s d) = upscaled v s d
scale_answer (downscale v s d) = downscaled v s d
scale_answer (zero_extend_upscale v s d) = zero_upscaled v s d
scale_answer (zero_extend_downscale v s d) = zero_downscaled v s d

pub record ScaleExample : Type 0 where
  pub call : ScaleCall
  pub answer : Outcome ℕ

abbrev example : ScaleCall → Outcome ℕ → ScaleExample
example c a = record { call = c; answer = a }

unfoldable pub scale_table : List ScaleExample
scale_table =
    example (upscale 0x2000 14 32) (given 0x80000000)
    ∷ example (upscale 0x3FFF 14 32) (given 0xFFFFFFFF)
    ∷ example (upscale 127 7 32) (given 0xFFFFFFFF)
    ∷ example (upscale 0x3F 7 16) (given 0x7E00)
    ∷ example (upscale 0x40 7 16) (given 0x8000)
    ∷ example (upscale 0x46 7 16) (given 0x8C30)
    ∷ example (upscale 3 2 32) (given 0xFFFFFFFF)
    ∷ example (upscale 0 1 32) (given 0)
    ∷ example (upscale 1 1 32) (given 0xFFFFFFFF)
    ∷ example (upscale 0x7F 7 33) out_of_range
    ∷ example (upscale 0x7F 7 7) out_of_range
    ∷ example (upscale 0x80 7 16) out_of_range
    ∷ example (upscale 0 0 7) out_of_range
    ∷ example (downscale 0xAEBA 16 7) (given 0x57)
    ∷ example (downscale 0xFFFFFFFF 32 7) (given 0x7F)
    ∷ example (downscale 0x8000 16 1) (given 1)
    ∷ example (downscale 0x7FFF 16 1) (given 0)
    ∷ example (downscale 0x57 7 7) out_of_range
    ∷ example (downscale 0x10000 16 7) out_of_range
    ∷ example (zero_extend_upscale 0x7F 7 16) (given 0xFE00)
    ∷ example (zero_extend_upscale 1 1 16) out_of_range
    ∷ example (zero_extend_downscale 0x15FF 16 7) (given 0x0B)
    ∷ example (zero_extend_downscale 0x15FF 16 16) out_of_range
    ∷ example (zero_extend_downscale 0xFFFF 16 7) (given 0x7F)
    ∷ example (zero_extend_downscale 0x10000 16 7) out_of_range
    ∷ []

-- each call of the table gives the answer beside it
abbrev pub ScalesAsTabled : Type 0
ScalesAsTabled = map (λ e. scale_answer e.call) scale_table ≡ map (λ e. e.answer) scale_table
